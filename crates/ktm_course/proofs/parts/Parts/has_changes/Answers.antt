use Rattle.ktm_course.proofs.Steps.{by_files, by_names}
use Rattle.ktm_course.proofs.parts.Parts.has_changes.Goals as goal

pub returns-then-not-is_empty : goal.returns-then-not-is_empty
returns-then-not-is_empty g c = by_names c.args.self.now.names.now (g.F.WrittenFiles.files c.args.self.now.files.now) c.is_empty.result c.is_empty.ensures c.if-not-is_empty.true

pub returns-else-not-is_empty : goal.returns-else-not-is_empty
returns-else-not-is_empty g c = by_files c.args.self.now.names.now (g.F.WrittenFiles.files c.args.self.now.files.now) c.is_empty.result _ c.is_empty.ensures c.if-not-is_empty.false c.is_empty-else-not-is_empty.ensures
