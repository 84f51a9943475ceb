use Rattle.std.proofs.Common.{◌∙◌}
use Rattle.ktm_links.specs.Mapped.{IsNotBelow}
use Rattle.txf_opens.proofs.Writing.{first_writer, some_writer}
use Rattle.txf_opens.proofs.uses.first_writer_from.Goals as goal

pub returns-in-Some-clause-first : goal.returns-in-Some-clause-first
returns-in-Some-clause-first c = first_writer (λ q. IsNotBelow q c.args.from.now) c.args.files.now.items c.args.writers.now.entries c.in-Some.key c.requires c.in-Some.ensures.first c.copied.result (c.copied.ensures ∙ c.get.ensures)

pub returns-in-Some-clause-none : goal.returns-in-Some-clause-none
returns-in-Some-clause-none c = some_writer (λ q. IsNotBelow q c.args.from.now) c.args.files.now.items c.args.writers.now.entries c.in-Some.key c.requires c.in-Some.ensures.first c.copied.result (c.copied.ensures ∙ c.get.ensures)
