use Rattle.std.proofs.Common.{refl, ◌∙◌, None, ap, arith, length, map, subst, sym}
use Rattle.ktm_world.specs.declared.step.Who.{Who}
use Rattle.ktm_world.specs.Enlistments.{is_given, tell}
use Rattle.ktm_world.specs.Outcome.{served}
use Rattle.ktm_world.specs.Steps.{is_one_of}
use Rattle.ktm_manager.proofs.offered.Served.{served_nothing}
use Rattle.ktm_enlist.specs.Places.{HasNone, IsOnlyAt}
use Rattle.ktm_enlist.specs.Telling.{asked, visited}
use Rattle.ktm_enlist.proofs.Told.{none_filtered, none_with, one_counted, one_filtered, one_told, one_with_if, only_within, some_of, there_at}
use Rattle.ktm_enlist.proofs.enlistments.Enlistments.tell_caller.Goals as goal

pub tell_at-requires-clause-within : goal.tell_at-requires-clause-within
tell_at-requires-clause-within g c = only_within (is_given c.args.t.caller) c.args.self.now.enlistments c.in-Some.place c.in-Some.ensures

pub tell_at-requires-clause-there : goal.tell_at-requires-clause-there
tell_at-requires-clause-there g c = λ d.
    there_at c.args.managers.now.managers c.args.self.now.enlistments c.in-Some.place d c.requires.may.there (only_within (is_given c.args.t.caller) c.args.self.now.enlistments c.in-Some.place c.in-Some.ensures)

pub tell_at-requires-clause-spare : goal.tell_at-requires-clause-spare
tell_at-requires-clause-spare g c = λ d.
    let es = c.args.self.now.enlistments in
    let test = is_one_of c.args.t.transaction c.args.t.caller c.args.t.who in
    let only = subst (λ (who : Who). IsOnlyAt (is_one_of c.args.t.transaction c.args.t.caller who) es c.in-Some.place) (sym c.requires.calls) c.in-Some.ensures in
    omega (arith, c.requires.may.fits, one_counted test c.args.t.kind es c.in-Some.place d only)

pub returns-in-Some-clause-told : goal.returns-in-Some-clause-told
returns-in-Some-clause-told g c =
    let es = c.args.self.now.enlistments in
    let test = is_one_of c.args.t.transaction c.args.t.caller c.args.t.who in
    let only = subst (λ (who : Who). IsOnlyAt (is_one_of c.args.t.transaction c.args.t.caller who) es c.in-Some.place) (sym c.requires.calls) c.in-Some.ensures in
    let d = some_of es c.in-Some.place (only_within test es c.in-Some.place only) in
    record {
      enlistments = c.tell_at.ensures.enlistments ∙ sym (one_with_if test (asked c.args.t.owed) es c.in-Some.place only);
      room = c.tell_at.ensures.room;
      managers = c.tell_at.ensures.managers d ∙ ap (λ l. map (served None l) c.args.managers.now.managers) (one_told test c.args.t.kind es c.in-Some.place d only);
      spare = omega (arith, c.tell_at.ensures.spare d, one_counted test c.args.t.kind es c.in-Some.place d only);
      room_for_managers = c.tell_at.ensures.room_for_managers;
    }

pub returns-in-Some-clause-counted : goal.returns-in-Some-clause-counted
returns-in-Some-clause-counted g c =
    let es = c.args.self.now.enlistments in
    let d = some_of es c.in-Some.place (only_within (is_given c.args.t.caller) es c.in-Some.place c.in-Some.ensures) in
    let one = one_filtered (is_given c.args.t.caller) es c.in-Some.place d c.in-Some.ensures in
    omega (arith, c.tell_at.ensures.counted, ap length one, ap (λ (who : Who). visited c.args.t.transaction c.args.t.caller who es) c.requires.calls)

pub returns-in_default-clause-told : goal.returns-in_default-clause-told
returns-in_default-clause-told g c =
    let es = c.args.self.now.enlistments in
    let test = is_one_of c.args.t.transaction c.args.t.caller c.args.t.who in
    let none = subst (λ (who : Who). HasNone (is_one_of c.args.t.transaction c.args.t.caller who) es) (sym c.requires.calls) c.in_default.ensures in
    let nothing = none_filtered test es none in
    record {
      enlistments = sym (none_with test (asked c.args.t.owed) es none);
      room = refl;
      managers = sym (ap (λ l. map (served None (map (tell c.args.t.kind) l)) c.args.managers.now.managers) nothing ∙ served_nothing c.args.managers.now.managers);
      spare = omega (arith, ap length nothing);
      room_for_managers = refl;
    }

pub returns-in_default-clause-counted : goal.returns-in_default-clause-counted
returns-in_default-clause-counted g c =
    let es = c.args.self.now.enlistments in
    let none = none_filtered (is_given c.args.t.caller) es c.in_default.ensures in
    omega (arith, ap length none, ap (λ (who : Who). visited c.args.t.transaction c.args.t.caller who es) c.requires.calls)
