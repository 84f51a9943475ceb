use Rattle.std.proofs.Common.{◌∙◌, ap, arith, rules, sym}
use Rattle.ktm_world.specs.Durable.{Durable}
use Rattle.ktm_restart.proofs.Replays.{loaded, replayed-as}
use Rattle.ktm_restart.proofs.replay.load_log.Goals as goal

pub count_from-requires : goal.count_from-requires
count_from-requires g c = omega (arith, c.events.ensures, ap (λ (s : Durable). s.events) c.into_durable-state.ensures, c.in-Ok.ensures.of_header.good.events_left)

pub returns-in-Ok : goal.returns-in-Ok
returns-in-Ok g c =
    loaded c.args.header c.args.state.state _ _ c.requires.begins c.requires.least c.requires.most (search rules) c.into_durable-state.result c.in-Ok.journal _ (replayed-as _ _ _ _ _ c.in-Ok.journal (sym c.into_durable-state.ensures) c.in-Ok.ensures) (c.count_from.ensures ∙ ap (λ n. record c.in-Ok.journal { events = n }) c.events.ensures)
