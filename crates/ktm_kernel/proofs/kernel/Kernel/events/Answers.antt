use Rattle.std.proofs.Common.{◌∙◌, ap}
use Rattle.ktm_journal.specs.Image.{JournalState}
use Rattle.ktm_kernel.proofs.Events.{events_of}
use Rattle.ktm_kernel.specs.Stands.{KernelState}
use Rattle.ktm_kernel.proofs.kernel.Kernel.events.Goals as goal

pub returns-clause-now : goal.returns-clause-now
returns-clause-now c = c.events.ensures ∙ ap (λ (j : JournalState). j.events) c.journal.ensures ∙ ap (λ (k : KernelState). k.now.recorded.events) c.self.view_is

pub returns-clause-world : goal.returns-clause-world
returns-clause-world c = λ told w at.
    c.events.ensures ∙ ap (λ (j : JournalState). j.events) c.journal.ensures ∙ ap (λ (k : KernelState). k.now.recorded.events) c.self.view_is ∙ events_of c.args.self.now told w at
