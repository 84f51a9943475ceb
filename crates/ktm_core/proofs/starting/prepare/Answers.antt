use Rattle.std.proofs.Common.{arith}
use Rattle.ktm_laws.proofs.offered.LogCounts.{counts-left}
use Rattle.ktm_core.proofs.Starts.{fresh_sound}
use Rattle.ktm_core.proofs.starting.prepare.Goals as goal

pub list_start-events-requires-clause-boots : goal.list_start-events-requires-clause-boots
list_start-events-requires-clause-boots c = let left = (counts-left c.args.loaded.state c.requires.unworn).0 in omega (arith, left)

pub begin-requires-clause-boots : goal.begin-requires-clause-boots
begin-requires-clause-boots c = (counts-left c.args.loaded.state c.requires.unworn).0

pub begin-requires-clause-events : goal.begin-requires-clause-events
begin-requires-clause-events c =
    let left = (counts-left c.args.loaded.state c.requires.unworn).1 in
    let few = (c.law_of_spelling.ensures.own_groups c.args.loaded.state c.requires.may.good).1 in
    omega (arith, left, few)

pub returns-in-Ok-clause-begun : goal.returns-in-Ok-clause-begun
returns-in-Ok-clause-begun c = record {
  lists = c.list_start-events.ensures.lists;
  journal = c.in-Ok.ensures.journal;
  shows = c.in-Ok.ensures.shows;
  slots = c.in-Ok.ensures.slots;
  sound = fresh_sound c.law_of_fresh.ensures c.args.loaded.state c.requires.may.on_pages;
}
