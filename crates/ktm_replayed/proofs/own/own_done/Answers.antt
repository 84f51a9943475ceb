use Rattle.std.proofs.Common.{◌++◌, Bool, sym, ◌∙◌, ap}
use Rattle.ktm_world.specs.declared.event.DonePart.{DonePart}
use Rattle.ktm_world.specs.Durable.{has_undone}
use Rattle.ktm_world.specs.World.{done_if}
use Rattle.ktm_replayed.proofs.own.own_done.Goals as goal

pub returns-then-has_undone : goal.returns-then-has_undone
returns-then-has_undone c =
    let t = c.args.transaction.now in
    let keys = done_if (has_undone DonePart.Keys t) t.id DonePart.Keys in
    (keys, ap (λ (b : Bool). done_if b t.id DonePart.Files ++ keys) (sym c.has_undone.ensures ∙ c.if-has_undone.true))
