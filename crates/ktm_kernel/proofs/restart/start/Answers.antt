use Rattle.ktm_kernel.proofs.Beginning.{began, sound-below}
use Rattle.ktm_kernel.proofs.restart.start.Goals as goal

pub hold_pages-requires : goal.hold_pages-requires
hold_pages-requires g c = sound-below _ _ _ c.requires.alone.count_is c.requires.sound

pub returns-clause-leaves : goal.returns-clause-leaves
returns-clause-leaves g c = began _ _ _ _ _ _ _ _ _ c.requires.alone c.hold_pages.ensures c.record_start.result c.record_start.ensures.leaves
