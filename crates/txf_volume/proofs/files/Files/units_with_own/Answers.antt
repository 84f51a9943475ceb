use Rattle.std.proofs.Common.{Some, None, length, refl, ◌∙◌, ap}
use Rattle.ktm_world.specs.declared.reply.Reply.TheVariants.{Done}
use Rattle.txf_volume.proofs.Counted.{own-sum}
use Rattle.txf_volume.proofs.files.Files.units_with_own.Goals as goal

pub overflow_sub-result : goal.overflow_sub-result
overflow_sub-result c =
    (own-sum c.args.self.now c.args.transaction (record { reply = Done; change = Some c.args.change.now; first = None; opened = None }) c.args.change.now c.node_of-file.result c.units_used.result c.gain-added.result c.loss.result
    _ _ c.units_used.ensures.steady refl refl c.node_of-file.ensures refl refl c.units_used.ensures.units (c.gain-added.ensures.gain _ (c.len.ensures ∙ ap length c.bytes_in.ensures)) (c.loss.ensures.loss _ c.own_size.ensures)).0

pub returns : goal.returns
returns c = λ o is opens.
    (own-sum c.args.self.now c.args.transaction o c.args.change.now c.node_of-file.result c.units_used.result c.gain-added.result c.loss.result
    _ _ c.units_used.ensures.steady is opens c.node_of-file.ensures refl refl c.units_used.ensures.units (c.gain-added.ensures.gain _ (c.len.ensures ∙ ap length c.bytes_in.ensures)) (c.loss.ensures.loss _ c.own_size.ensures)).1
