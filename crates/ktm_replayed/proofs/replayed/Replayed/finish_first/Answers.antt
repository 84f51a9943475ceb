use Rattle.std.proofs.Common.{◌≡◌, ◌∷◌, length, arith, ap, sym, subst, ◌∙◌}
use Rattle.std.specs.List.{flat_map}
use Rattle.ktm_world.specs.declared.event.Event.TheVariants.{Done}
use Rattle.ktm_world.specs.Durable.{Durable, after_events}
use Rattle.ktm_world.specs.World.{own_events}
use Rattle.ktm_replayed.specs.Replayed.{ReplayedState}
use Rattle.ktm_waiting.specs.Table.{IsByRisingId}
use Rattle.ktm_replayed.proofs.OwnDones.{Made, made-all, own-step, own-undone}
use Rattle.ktm_replayed.proofs.replayed.Replayed.finish_first.Goals as goal

pub finish_part-requires : goal.finish_part-requires
finish_part-requires c =
    let first = ap (flat_map own_events) (sym (c.as_slice.ensures ∙ ap (λ (r : ReplayedState). r.state.transactions) c.self.view_is)) ∙ c.in-Some.ensures.1 in
    own-undone c.args.self.now.state.transactions c.in-Some.transaction c.in-Some.done c.in-Some.ensures.0 first

module _ (c : goal.After-count) where
  abbrev old : Durable
  old = c.args.self.now.state

  first : flat_map own_events old.transactions ≡ Done c.in-Some.transaction c.in-Some.done ∷ c.in-Some.ensures.0
  first = ap (flat_map own_events) (sym (c.as_slice.ensures ∙ ap (λ (r : ReplayedState). r.state.transactions) c.self.view_is)) ∙ c.in-Some.ensures.1

  rises : IsByRisingId old.transactions
  rises = subst (λ (r : ReplayedState). IsByRisingId r.state.transactions) c.self.view_is c.self.invariant.kept.rise

  made : Made old c.count.new.self.state (Done c.in-Some.transaction c.in-Some.done) c.in-Some.ensures.0
  made = own-step old c.finish_part.new.self.state c.count.new.self.state c.in-Some.transaction c.in-Some.done c.in-Some.ensures.0 rises first c.finish_part.ensures c.count.ensures

pub returns-clause-more : goal.returns-clause-more
returns-clause-more c = λ taken. omega (arith, ap length (made c).left, ap length (first c))

pub returns-clause-after : goal.returns-clause-after
returns-clause-after c = made-all (made c) ∙ ap (after_events (old c)) (sym (first c))

pub returns-clause-events : goal.returns-clause-events
returns-clause-events c = omega (arith, (made c).events, ap length (made c).left, ap length (first c))
