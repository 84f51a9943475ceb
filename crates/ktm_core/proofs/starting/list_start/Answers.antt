use Rattle.std.proofs.Common.{[], ◌+◌, ◌∙◌, ap, arith}
use Rattle.ktm_world.specs.Sizes.{area_len, frame_size}
use Rattle.ktm_core.proofs.starting.list_start.Goals as goal

pub own_group-requires-clause-spelled : goal.own_group-requires-clause-spelled
own_group-requires-clause-spelled c = (c.law_of_spelling.ensures.own_groups c.args.state.now c.requires.good).0

pub own_group-requires-clause-fits : goal.own_group-requires-clause-fits
own_group-requires-clause-fits c =
    omega (arith, c.law_of_frames.ensures.restarts c.args.state.now c.requires.good, c.events_in-events.ensures.empty.sizes, c.events_in-events.ensures.room, ap area_len c.requires.units)

pub returns-clause-lists : goal.returns-clause-lists
returns-clause-lists c = record {
  holds = c.own_group.ensures.adds [] c.events_in-events.ensures.empty;
  room = ap (λ n. n + frame_size []) c.own_group.ensures.room ∙ c.events_in-events.ensures.room;
}
