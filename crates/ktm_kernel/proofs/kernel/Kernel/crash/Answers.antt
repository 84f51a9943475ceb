use Rattle.ktm_kernel.proofs.Given.{rows-seen}
use Rattle.ktm_kernel.proofs.Worlds.{crash_line}
use Rattle.ktm_kernel.specs.Stands.{kernel_of}
use Rattle.ktm_kernel.proofs.kernel.Kernel.crash.Goals as goal

pub returns-clause-does : goal.returns-clause-does
returns-clause-does c = rw (c.fall.ensures, ← c.self.view_is) (crash_line c.law_of_standing.ensures (rows-seen c.law_of_paged_records.ensures) c.law_of_pages.ensures (kernel_of c.self.inside.core.memory c.self.inside.core.store) (rw (← c.self.view_is) at c.requires))
