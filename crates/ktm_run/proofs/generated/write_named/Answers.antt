use Rattle.std.proofs.Common.{ℕ, List, ◌∙◌, subst}
use Rattle.std.specs.Prelude.{decimal}
use Rattle.std.specs.Io.KnownBytes.{Appends}
use Rattle.ktm_dump.proofs.offered.Written.{AppendsPart-then, AppendsPart-more}
use Rattle.ktm_run.proofs.Known.{Appends-trans}
use Rattle.ktm_dump.specs.Written.{AppendsPart}
use Rattle.ktm_run.proofs.generated.write_named.Goals as goal

pub returns-clause-ok : goal.returns-clause-ok
returns-clause-ok g c =
    Appends-trans _ _ _ c.args.name.now (decimal c.args.number) c.in_default.ensures.ok
    (subst (λ (l : List ℕ). Appends (g.K.Sink.taken c.write_all.new.sink) (g.K.Sink.taken c.write_all-2.new.sink) l) (c.as_bytes.ensures.value ∙ c.format.ensures.text) c.in_default-write_all.ensures.ok)

pub returns-in-Err-clause-err : goal.returns-in-Err-clause-err
returns-in-Err-clause-err g c = AppendsPart-more _ _ c.args.name.now (decimal c.args.number) c.in-Err.ensures.err

pub returns-in-Err-write_all-clause-err : goal.returns-in-Err-write_all-clause-err
returns-in-Err-write_all-clause-err g c =
    AppendsPart-then _ _ _ c.args.name.now (decimal c.args.number) c.in_default.ensures.ok
    (subst (λ (l : List ℕ). AppendsPart (g.K.Sink.taken c.write_all.new.sink) (g.K.Sink.taken c.write_all-2.new.sink) l) (c.as_bytes.ensures.value ∙ c.format.ensures.text) c.in-Err-write_all.ensures.err)
