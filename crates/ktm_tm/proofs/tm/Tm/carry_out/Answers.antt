use Rattle.std.proofs.Common.{◌≡◌, ◌+◌, ◌-◌, is_some, ◌∙◌, List, None, ap, arith, length, map, subst, sym}
use Rattle.std.specs.Prelude.{count_by}
use Rattle.std.proofs.lemmas.Bool.{true≢false}
use Rattle.std.proofs.lemmas.List.Sums.{count_by-le-length}
use Rattle.ktm_world.specs.declared.object.Transaction.{Transaction}
use Rattle.ktm_world.specs.Durable.{is_before}
use Rattle.ktm_world.specs.Enlistments.{Sent, id_of, is_live_enlistment, manager_at}
use Rattle.ktm_world.specs.Outcome.{served}
use Rattle.ktm_world.specs.Transactions.{change_at, transaction_at}
use Rattle.ktm_base.specs.declared.id.Id.{Id}
use Rattle.ktm_tm.specs.Courses.{caller_of}
use Rattle.ktm_tm.specs.LiveCounts.{called_in}
use Rattle.ktm_tm.specs.Steps.{After, after_all, visits_all}
use Rattle.ktm_tm.specs.Table.{IsForgotten, TableState}
use Rattle.ktm_tm.specs.TmState.{TmState, id_after}
use Rattle.ktm_tm.proofs.Carrying.{after_all_recovered, after_all_test, there_all}
use Rattle.ktm_tm.specs.Timeouts.{NoneDueBefore}
use Rattle.ktm_tm.proofs.Early.{early-changed}
use Rattle.ktm_tm.proofs.Kept.{found_there}
use Rattle.ktm_tm.proofs.LiveCounts.{is_live_besides, live-besides, live-split}
use Rattle.ktm_tm.proofs.Next.{served_before}
use Rattle.ktm_tm.proofs.OnCourse.{a_course, course_after, course_sent, course_visits, is_a_course, now_then, same_id, steps_forget}
use Rattle.ktm_tm.proofs.tm.Tm.carry_out.Given.{Over}
use Rattle.ktm_tm.proofs.tm.Tm.carry_out.Goals as goal

pub carry_all-then-requires-clause-spare : goal.carry_all-then-requires-clause-spare
carry_all-then-requires-clause-spare g c =
    let tm = c.args.self.now in
    let is = is_a_course tm c.args.t c.args.caller c.args.has_files c.args.has_keys in
    let enough = c.requires.slots (a_course tm c.args.t c.args.caller c.args.has_files c.args.has_keys) is in
    let sent = course_sent tm c.args.t c.args.caller c.args.has_files c.args.has_keys c.going-going.result (a_course tm c.args.t c.args.caller c.args.has_files c.args.has_keys) c.args.steps.now c.going-going.ensures is in
    omega (arith, enough, ap length sent, ap (λ (s : TmState). s.slots) c.self.view_is, ap (λ (s : TmState). length (after_all c.going-going.result c.args.steps.now c.args.t s.now.enlistments).sent) c.self.view_is)

pub arrive-requires-clause-there : goal.arrive-requires-clause-there
arrive-requires-clause-there g c =
    let id = ap (λ (t : Transaction). t.id) c.carry_all-then.ensures.carries.transaction ∙ same_id c.going-going.result c.args.steps.now c.args.t c.self.inside.enlistments.enlistments in
    found_there c.self.inside.transactions.items c.args.t c.carry_all-then.result.id (ap (transaction_at c.self.inside.transactions.items) id ∙ ap (λ (s : TmState). transaction_at s.now.items c.args.t.id) c.self.view_is ∙ c.requires.there) c.requires.live

pub arrive-requires-clause-forgotten : goal.arrive-requires-clause-forgotten
arrive-requires-clause-forgotten g c =
    subst IsForgotten (sym c.carry_all-then.ensures.carries.transaction)
    (steps_forget c.going-going.result c.args.steps.now c.args.t c.self.inside.enlistments.enlistments (λ over. absurd (true≢false (sym c.requires.live ∙ over))))

-- as many are live as were, without those of both transactions before, and with those of both then
split : (g : Over) (c : goal.After-live_in_either-after g) → count_by (is_live_enlistment c.self.inside.transactions.items) c.self.inside.enlistments.enlistments
    ≡ c.live_in_either-before.result + count_by (is_live_besides c.self.inside.transactions.items c.args.t.id c.called_in-calling.result) c.self.inside.enlistments.enlistments
split g c = omega (arith, live-split c.self.inside.transactions.items c.args.t.id c.called_in-calling.result c.self.inside.enlistments.enlistments, c.live_in_either-before.ensures.live)

counted : (g : Over) (c : goal.After-live_in_either-after g) → c.self.inside.live_enlistments - c.live_in_either-before.result + c.live_in_either-after.result
    ≡ count_by (is_live_enlistment c.arrive.new.self.items) c.carry_all-then.new.enlistments.enlistments
counted g c =
    let es = c.self.inside.enlistments.enlistments in
    let ts = c.self.inside.transactions.items in
    let id = c.args.t.id in
    let named : c.carry_all-then.result.id ≡ id = ap (λ (t : Transaction). t.id) c.carry_all-then.ensures.carries.transaction ∙ same_id c.going-going.result c.args.steps.now c.args.t es in
    let calls = ap (λ (s : TmState). id_of (caller_of s.now.enlistments c.args.caller)) c.self.view_is ∙ c.going-going.ensures.calls in
    let calling : c.called_in-calling.result ≡ called_in (caller_of es c.args.caller) id = c.called_in-calling.ensures ∙ ap (λ (s : TmState). called_in (caller_of s.now.enlistments c.args.caller) id) (sym c.self.view_is) in
    let items : c.arrive.new.self.items ≡ change_at ts id (λ u. c.carry_all-then.result) = ap (λ (s : TableState). s.items) c.arrive.ensures ∙ ap (λ (i : Id). change_at ts i (λ u. c.carry_all-then.result)) named in
    let besides = live-besides ts c.going-going.result c.args.steps.now c.args.t es c.args.caller c.carry_all-then.result id c.live_in_either-before.ensures.enlisted.rising calls named in
    let kept : count_by (is_live_besides c.arrive.new.self.items id c.called_in-calling.result) c.carry_all-then.new.enlistments.enlistments ≡ count_by (is_live_besides ts id c.called_in-calling.result) es =
    rw (items, calling, c.carry_all-then.ensures.carries.enlistments) besides in
    omega (arith, split g c, c.self.invariant.4, c.live_in_either-after.ensures.live, live-split c.arrive.new.self.items id c.called_in-calling.result c.carry_all-then.new.enlistments.enlistments, kept)

pub overflow_sub-self : goal.overflow_sub-self
overflow_sub-self g c = omega (arith, split g c, c.self.invariant.4)

pub overflow_add-self : goal.overflow_add-self
overflow_add-self g c = omega (arith, counted g c, count_by-le-length (is_live_enlistment c.arrive.new.self.items) c.carry_all-then.new.enlistments.enlistments, c.live_in_either-after.ensures.enlisted.few)

early : (g : Over) (c : goal.After-self-2-1 g) → NoneDueBefore c.min-self-inside.result c.arrive.new.self.items
early g c = rw (c.min-self-inside.ensures, ap (λ (s : TableState). s.items) c.arrive.ensures) (early-changed _ _ c.self.inside.transactions.items _ _ c.self.invariant.5 c.due_time.ensures)

pub invariant_of-self : goal.invariant_of-self
invariant_of-self g c =
    rw (ap (λ (s : TableState). s.boot) c.arrive.ensures) ((
      rw c.carry_all-then.ensures.carries.managers (served_before (λ id. is_before id (id_after c.self.inside.transactions.boot c.self.inside.last_manager)) None _ c.self.inside.managers.managers ∙ c.self.invariant.0),
      rw c.carry_all-then.ensures.carries.enlistments
          (after_all_test (λ id manager transaction. is_before id (id_after c.self.inside.transactions.boot c.self.inside.last_enlistment)) c.going-going.result c.args.steps.now c.args.t c.self.inside.enlistments.enlistments ∙ c.self.invariant.1),
      rw (c.carry_all-then.ensures.carries.managers, c.carry_all-then.ensures.carries.enlistments)
          (there_all None _ c.self.inside.managers.managers _
          ∙ after_all_test (λ id manager transaction. is_some (manager_at c.self.inside.managers.managers manager)) c.going-going.result c.args.steps.now c.args.t c.self.inside.enlistments.enlistments ∙ c.self.invariant.2),
      rw c.carry_all-then.ensures.carries.enlistments (after_all_recovered c.going-going.result c.args.steps.now c.args.t c.self.inside.back_enlistments c.self.inside.enlistments.enlistments c.self.invariant.3),
      counted g c.before,
      early g c,
    ))

pub returns-clause-now : goal.returns-clause-now
returns-clause-now g c = λ course is.
    let then_is = course_after c.args.self.now c.args.t c.args.caller c.args.has_files c.args.has_keys c.going-going.result course c.args.steps.now c.going-going.ensures is in
    let now = ap (λ (s : TmState). after_all c.going-going.result c.args.steps.now c.args.t s.now.enlistments) c.self.view_is in
    let transaction = c.carry_all-then.ensures.carries.transaction ∙ ap (λ (a : After). a.transaction) now in
    ap (λ (s : TableState). record {
      clock = c.self.inside.clock;
      last_transaction = s.made;
      last_manager = c.self.inside.last_manager;
      last_enlistment = c.self.inside.last_enlistment;
      items = s.items;
      enlistments = c.carry_all-then.new.enlistments.enlistments;
    }) c.arrive.ensures
    ∙ ap (λ (s : TmState). record s.now { items = change_at s.now.items c.carry_all-then.result.id (λ u. c.carry_all-then.result); enlistments = c.carry_all-then.new.enlistments.enlistments }) c.self.view_is
    ∙ now_then c.args.self.now.now c.args.t c.carry_all-then.result _ _ _
    (ap (λ t. t.id) c.carry_all-then.ensures.carries.transaction ∙ same_id c.going-going.result c.args.steps.now c.args.t c.self.inside.enlistments.enlistments)
    (transaction ∙ sym then_is.transaction)
    (c.carry_all-then.ensures.carries.enlistments ∙ ap (λ (a : After). a.enlistments) now ∙ sym then_is.enlistments)

pub returns-clause-managers : goal.returns-clause-managers
returns-clause-managers g c = λ course is.
    let sent = course_sent c.args.self.now c.args.t c.args.caller c.args.has_files c.args.has_keys c.going-going.result course c.args.steps.now c.going-going.ensures is in
    c.carry_all-then.ensures.carries.managers
    ∙ ap (λ (s : TmState). map (served None (after_all c.going-going.result c.args.steps.now c.args.t s.now.enlistments).sent) s.managers) c.self.view_is
    ∙ ap (λ (l : List Sent). map (served None l) c.args.self.now.managers) (sym sent)

pub returns-clause-slots : goal.returns-clause-slots
returns-clause-slots g c = λ course is.
    let sent = course_sent c.args.self.now c.args.t c.args.caller c.args.has_files c.args.has_keys c.going-going.result course c.args.steps.now c.going-going.ensures is in
    omega (
      arith,
      c.carry_all-then.ensures.carries.spare,
      ap (λ (l : List Sent). length l) sent,
      ap (λ (s : TmState). s.slots) c.self.view_is,
      ap (λ (s : TmState). length (after_all c.going-going.result c.args.steps.now c.args.t s.now.enlistments).sent) c.self.view_is,
    )

pub returns-clause-counted : goal.returns-clause-counted
returns-clause-counted g c = λ course is.
    let on = course_visits c.args.self.now c.args.t c.args.caller c.args.has_files c.args.has_keys c.going-going.result course c.args.steps.now c.going-going.ensures is in
    let now = ap (λ (s : TmState). visits_all c.going-going.result c.args.steps.now c.args.t s.now.enlistments) c.self.view_is in
    omega (arith, c.carry_all-then.ensures.counted, now, on)
