use Rattle.std.proofs.Common.{subst}
use Rattle.ktm_memory.specs.Memory.{present_of}
use Rattle.ktm_records.specs.Spelling.{AreTexts}
use Rattle.ktm_core.proofs.recording.make_room.Goals as goal

pub compact-requires-clause-kept : goal.compact-requires-clause-kept
compact-requires-clause-kept g c = c.law_of_kept.ensures (present_of c.args.memory.now) c.requires.standing

pub compact-requires-clause-texts : goal.compact-requires-clause-texts
compact-requires-clause-texts g c = subst AreTexts c.requires.standing.is c.requires.standing.stands.texts
