use Rattle.std.proofs.Common.{◌+◌, ◌++◌, All, List, append-nil, arith, drop, sum_by, sym, ap, subst, ◌∙◌, append_assoc}
use Rattle.std.specs.List.{flat_map}
use Rattle.std.proofs.lemmas.List.{drop_all}
use Rattle.ktm_event.specs.Kept.{Holds}
use Rattle.ktm_event.specs.Spelling.{IsSpellableEvent}
use Rattle.ktm_event.proofs.Joined.{first_spelled, sizes_both}
use Rattle.ktm_world.specs.Sizes.{event_size}
use Rattle.ktm_world.specs.declared.event.Event.{Event}
use Rattle.ktm_world.specs.Durable.{Recorded}
use Rattle.ktm_world.specs.World.{own_events}
use Rattle.ktm_replayed.proofs.offered.OwnEvents.{own-split}
use Rattle.ktm_restart.proofs.own.push_all_own.Goals as goal

pub push_own-requires-clause-spelled : goal.push_own-requires-clause-spelled
push_own-requires-clause-spelled c =
    let is = own-split c.args.transactions.now c.loop-transaction.transaction-index c.transaction-item.result c.loop-transaction-test.true c.transaction-item.is in
    (first_spelled (own_events c.transaction-item.result) _ (subst (All IsSpellableEvent) is c.loop-transaction.invariant.spelled)).0

pub push_own-requires-clause-fits : goal.push_own-requires-clause-fits
push_own-requires-clause-fits c =
    let is = own-split c.args.transactions.now c.loop-transaction.transaction-index c.transaction-item.result c.loop-transaction-test.true c.transaction-item.is in
    omega (arith, ap (sum_by event_size) is, sizes_both (own_events c.transaction-item.result) (flat_map own_events (drop (c.loop-transaction.transaction-index + 1) c.args.transactions.now)), c.loop-transaction.invariant.spare, c.requires.fits)

pub loop-transaction-preserved : goal.loop-transaction-preserved
loop-transaction-preserved c =
    let t = c.transaction-item.result in
    let later = flat_map own_events (drop (c.loop-transaction.transaction-index + 1) c.args.transactions.now) in
    let is = own-split c.args.transactions.now c.loop-transaction.transaction-index t c.loop-transaction-test.true c.transaction-item.is in
    record {
      spelled = (first_spelled (own_events t) _ (subst (All IsSpellableEvent) is c.loop-transaction.invariant.spelled)).1;
      adds = λ group holds.
          let before = c.loop-transaction.invariant.adds group holds in
          (before.0 ++ own_events t, c.push_own.ensures.adds before.0 before.1, append_assoc before.0 (own_events t) later ∙ ap (λ (es : List Event). before.0 ++ es) (sym is) ∙ before.2);
      spare = omega (arith, c.loop-transaction.invariant.spare, ap (sum_by event_size) is, sizes_both (own_events t) later, c.push_own.ensures.spare);
      room = c.push_own.ensures.room ∙ c.loop-transaction.invariant.room;
      capacity = omega (arith, c.loop-transaction.invariant.capacity, c.push_own.ensures.capacity);
    }

pub returns-clause-adds : goal.returns-clause-adds
returns-clause-adds c = λ group holds.
    let all = c.loop-transaction.invariant.adds group holds in
    let none = ap (flat_map own_events) (drop_all c.loop-transaction.transaction-index c.args.transactions.now c.loop-transaction-test.false) in
    subst (Holds c.loop-transaction.events) (sym (append-nil all.0) ∙ ap (λ (es : List Event). all.0 ++ es) (sym none) ∙ all.2) all.1

pub returns-clause-spare : goal.returns-clause-spare
returns-clause-spare c =
    let none = ap (λ (left : List Recorded). sum_by event_size (flat_map own_events left)) (drop_all c.loop-transaction.transaction-index c.args.transactions.now c.loop-transaction-test.false) in
    omega (arith, c.loop-transaction.invariant.spare, none)
