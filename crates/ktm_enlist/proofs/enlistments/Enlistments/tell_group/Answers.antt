use Rattle.std.proofs.Common.{◌∙◌, ap, arith, length, refl}
use Rattle.ktm_world.specs.Steps.{is_one_of}
use Rattle.ktm_enlist.specs.Telling.{asked_if}
use Rattle.ktm_enlist.proofs.Places.{changed_length}
use Rattle.ktm_enlist.proofs.Told.{reached_fits, reached_less, reached_there, some_of, visits_begin, visits_end, visits_go_on, walk_begins, walk_ends, walk_goes_on, walk_passes, walk_reaches, walk_smaller}
use Rattle.ktm_enlist.proofs.enlistments.Enlistments.tell_group.Goals as goal

pub loop-next-init : goal.loop-next-init
loop-next-init g c = record { walked = walk_begins c.args.t c.requires.own _ _ _ _ c.first-next.ensures; room = refl; room_for_managers = refl; counted = visits_begin c.args.t c.requires.own _ _ _ c.first-next.ensures }

pub tell_at-requires-clause-within : goal.tell_at-requires-clause-within
tell_at-requires-clause-within g c =
    reached_less c.args.t c.requires.own _ _ _ _ _ _ _ (walk_reaches c.args.t c.requires.own _ _ _ _ _ _ _ (rw c.in-Some.is at c.loop-next.invariant.walked))

pub tell_at-requires-clause-there : goal.tell_at-requires-clause-there
tell_at-requires-clause-there g c = λ d.
    reached_there c.args.t c.requires.own _ _ _ _ _ _ _ d (walk_reaches c.args.t c.requires.own _ _ _ _ _ _ _ (rw c.in-Some.is at c.loop-next.invariant.walked)) c.requires.may.there

pub tell_at-requires-clause-spare : goal.tell_at-requires-clause-spare
tell_at-requires-clause-spare g c = λ d.
    reached_fits c.args.t c.requires.own _ _ _ _ _ _ _ d (walk_reaches c.args.t c.requires.own _ _ _ _ _ _ _ (rw c.in-Some.is at c.loop-next.invariant.walked)) c.requires.may.fits

pub behind-next-requires : goal.behind-next-requires
behind-next-requires g c =
    let test = is_one_of c.args.t.transaction c.args.t.caller c.args.t.who in
    let inside = reached_less c.args.t c.requires.own _ _ _ _ _ _ _ (walk_reaches c.args.t c.requires.own _ _ _ _ _ _ _ (rw c.in-Some.is at c.loop-next.invariant.walked)) in
    omega (arith, inside, ap length c.tell_at.ensures.enlistments, changed_length (asked_if test c.args.t.owed) c.loop-next.self.enlistments c.in-Some.place)

pub loop-next-smaller : goal.loop-next-smaller
loop-next-smaller g c =
    let reached = walk_reaches c.args.t c.requires.own _ _ _ _ _ _ _ (rw c.in-Some.is at c.loop-next.invariant.walked) in
    let leads = c.behind-next.ensures c.args.t.transaction (walk_passes c.args.t c.requires.own _ _ _ _ _ _ _ _ reached c.tell_at.ensures.enlistments) in
    walk_smaller c.args.t c.requires.own c.loop-next.self.enlistments c.tell_at.new.self.enlistments c.in-Some.place c.loop-next.next c.behind-next.result c.in-Some.is (reached_less c.args.t c.requires.own _ _ _ _ _ _ _ reached) c.tell_at.ensures.enlistments leads

pub loop-next-preserved : goal.loop-next-preserved
loop-next-preserved g c =
    let reached = walk_reaches c.args.t c.requires.own _ _ _ _ _ _ _ (rw c.in-Some.is at c.loop-next.invariant.walked) in
    let leads = c.behind-next.ensures c.args.t.transaction (walk_passes c.args.t c.requires.own _ _ _ _ _ _ _ _ reached c.tell_at.ensures.enlistments) in
    let d = some_of c.args.self.now.enlistments c.in-Some.place reached.within in
    record {
      walked = walk_goes_on c.args.t c.requires.own _ _ _ _ _ _ _ _ _ _ _ d reached c.tell_at.ensures.enlistments (c.tell_at.ensures.managers d) (c.tell_at.ensures.spare d) leads;
      room = c.tell_at.ensures.room ∙ c.loop-next.invariant.room;
      room_for_managers = c.tell_at.ensures.room_for_managers ∙ c.loop-next.invariant.room_for_managers;
      counted = visits_go_on c.args.t c.requires.own _ _ _ _ _ _ _ _ _ _ _ _ _ reached c.in-Some.is c.tell_at.ensures.enlistments leads c.loop-next.invariant.counted c.tell_at.ensures.counted;
    }

pub returns-clause-told : goal.returns-clause-told
returns-clause-told g c =
    let ends = walk_ends c.args.t c.requires.own _ _ _ _ _ _ (rw c.in_default.is at c.loop-next.invariant.walked) in
    record { enlistments = ends.0; room = c.loop-next.invariant.room; managers = ends.1; spare = ends.2; room_for_managers = c.loop-next.invariant.room_for_managers }

pub returns-clause-counted : goal.returns-clause-counted
returns-clause-counted g c = visits_end c.args.t c.requires.own _ _ _ _ c.in_default.is c.loop-next.invariant.counted
