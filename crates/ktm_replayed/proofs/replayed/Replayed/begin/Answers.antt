use Rattle.std.proofs.Common.{◌+◌, length, arith, ap, ◌∙◌}
use Rattle.std.specs.List.{flat_map}
use Rattle.ktm_world.specs.declared.event.Event.TheVariants.{Boot}
use Rattle.ktm_world.specs.Durable.{Durable, fact_of}
use Rattle.ktm_world.specs.World.{own_events}
use Rattle.ktm_replayed.specs.Replayed.{ReplayedState}
use Rattle.ktm_replayed.proofs.OwnDones.{Made, made-all, own-boot}
use Rattle.ktm_replayed.proofs.replayed.Replayed.begin.Goals as goal

pub loop-init : goal.loop-init
loop-init c =
    let s : Durable = c.args.self.now.state in
    let boots = ap (λ (r : ReplayedState). fact_of s (Boot (r.state.boots + 1))) c.start.view_is in
    let made : Made s c.count.new.self.state (Boot (s.boots + 1)) (flat_map own_events s.transactions) = own-boot s c.start-2.new.self.state c.count.new.self.state (c.start-2.ensures ∙ boots) c.count.ensures in
    record {
      after = made-all made;
      events = omega (arith, made.events, ap length made.left, c.requires.events);
    }
