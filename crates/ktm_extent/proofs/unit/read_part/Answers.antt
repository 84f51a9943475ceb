use Rattle.std.proofs.Common.{refl}
use Rattle.ktm_base.proofs.offered.ToldSteps.{IfSome-map}
use Rattle.ktm_page.specs.Row.{RowState, page_of}
use Rattle.ktm_extent.proofs.Bytes.{whole_part}
use Rattle.ktm_extent.proofs.Rows.{short-page}
use Rattle.ktm_extent.proofs.unit.read_part.Goals as goal

pub returns-in-Some-clause-value : goal.returns-in-Some-clause-value
returns-in-Some-clause-value g c =
    IfSome-map _ _ _ c.in_default-read_page.ensures.value
    (λ (r : RowState) read. whole_part c.read_page.new.buf (page_of r.seen c.args.page) c.args.part.now c.args.from _ (short-page r.seen c.args.page) c.requires.within c.in-Some.ensures.cases.enough refl read)
