use Rattle.std.specs.Prelude.{IfOk}
use Rattle.std.proofs.Common.{◌∙◌, ap, length, subst, sym}
use Rattle.ktm_journal.specs.Image.{page_count}
use Rattle.ktm_restart.specs.Reading.{ReadingState, ReadsOn}
use Rattle.ktm_restart.proofs.BehindHeader.{none_saved, reads_reading}
use Rattle.ktm_restart.proofs.replay.read_reading.Goals as goal
use Rattle.txf_laws.specs.GoodState.{IsGoodState}
use Rattle.ktm_world.specs.Durable.{Durable}

pub if_on_pages-requires-clause-good : goal.if_on_pages-requires-clause-good
if_on_pages-requires-clause-good c =
    subst IsGoodState (sym (ap (λ (r : ReadingState). r.state) c.new-reading.ensures ∙ c.from.ensures)) (rw c.in-Ok-Some.field-0-is at c.in-Ok-Some.ensures).good

pub if_on_pages-requires-clause-many : goal.if_on_pages-requires-clause-many
if_on_pages-requires-clause-many c =
    ap (λ (r : ReadingState). length r.owners) c.new-reading.ensures ∙ c.in_ok-owners.ensures ∙ c.page_count.ensures
    ∙ ap (λ (s : Durable). page_count s.units) (sym (ap (λ (r : ReadingState). r.state) c.new-reading.ensures ∙ c.from.ensures))

pub returns-in-Ok-Some : goal.returns-in-Ok-Some
returns-in-Ok-Some c =
    reads_reading c.args.units c.args.image c.args.bytes.now c.in-Ok-Some.saved (rw c.in-Ok-Some.field-0-is at c.in-Ok-Some.ensures) c.law_of_states.ensures.state c.if_on_pages.result
    (subst (λ (s : Durable). IfOk c.if_on_pages.result (ReadsOn s)) (ap (λ (r : ReadingState). r.state) c.new-reading.ensures ∙ c.from.ensures) c.if_on_pages.ensures)

pub returns-in-Ok-None : goal.returns-in-Ok-None
returns-in-Ok-None c = none_saved c.args.units c.args.image c.args.bytes.now (rw c.in-Ok-None.field-0-is at c.in-Ok-None.ensures)
