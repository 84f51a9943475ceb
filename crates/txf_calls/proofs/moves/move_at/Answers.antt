use Rattle.std.proofs.Common.{◌≡◌, ◌∙◌, sym, IfOk}
use Rattle.txf_calls.specs.There.{move_there}
use Rattle.txf_calls.proofs.Led.{by-free, by-root, by-node}
use Rattle.txf_calls.proofs.moves.move_at.Goals as goal

pub returns-in-Free : goal.returns-in-Free
returns-in-Free g c = λ u w from to.
    by-free (λ u. c.refused-in-Free.result ≡ move_there (g.V.Volume.files c.args.volume.now) c.args.room.now c.args.who u w) c.args.from u from c.in-Free.directory c.in-Free.name c.in-Free.is
    (c.refused-in-Free.ensures ∙ sym (c.from_free.ensures (g.V.Volume.files c.args.volume.now) c.args.room.now c.args.who c.in-Free.directory c.in-Free.name.now w to))

pub returns-in-Root : goal.returns-in-Root
returns-in-Root g c = λ u w from to.
    by-root (λ u. c.refused-in-Root.result ≡ move_there (g.V.Volume.files c.args.volume.now) c.args.room.now c.args.who u w) c.args.from u from c.in-Root.is
    (c.refused-in-Root.ensures ∙ sym (c.from_root.ensures (g.V.Volume.files c.args.volume.now) c.args.room.now c.args.who w to))

pub returns-in-Node : goal.returns-in-Node
returns-in-Node g c = λ u w from to.
    by-node (λ u. IfOk c.move_to.result (λ plan. plan ≡ move_there (g.V.Volume.files c.args.volume.now) c.args.room.now c.args.who u w)) c.args.from u from c.in-Node.node c.in-Node.name c.in-Node.is
    (λ other is named. c.move_to.ensures other w is named to)
