use Rattle.std.proofs.Common.{ℕ, List, [], ◌∷◌, ◌++◌, ◌∙◌, subst}
use Rattle.std.specs.Prelude.{codes, decimal}
use Rattle.std.specs.Io.KnownBytes.{Appends}
use Rattle.ktm_dump.proofs.offered.Written.{AppendsPart-then, AppendsPart-more}
use Rattle.ktm_run.proofs.Known.{Appends-trans}
use Rattle.ktm_dump.specs.Written.{AppendsPart}
use Rattle.ktm_run.proofs.image.write_bad_image.Goals as goal

pub returns-clause-ok : goal.returns-clause-ok
returns-clause-ok g c =
    Appends-trans _ _ _ (codes "bad image at ") (decimal c.args.offset ++ 10 ∷ []) c.in_default.ensures.ok
    (subst (λ (l : List ℕ). Appends (g.K.Sink.taken c.write_all.new.sink) (g.K.Sink.taken c.write_line.new.sink) (l ++ 10 ∷ []))
    (c.as_bytes.ensures.value ∙ c.format.ensures.text) c.in_default-write_line.ensures.ok)

pub returns-in-Err-clause-err : goal.returns-in-Err-clause-err
returns-in-Err-clause-err g c = AppendsPart-more _ _ (codes "bad image at ") (decimal c.args.offset ++ 10 ∷ []) c.in-Err.ensures.err

pub returns-in-Err-write_line-clause-err : goal.returns-in-Err-write_line-clause-err
returns-in-Err-write_line-clause-err g c =
    AppendsPart-then _ _ _ (codes "bad image at ") (decimal c.args.offset ++ 10 ∷ []) c.in_default.ensures.ok
    (subst (λ (l : List ℕ). AppendsPart (g.K.Sink.taken c.write_all.new.sink) (g.K.Sink.taken c.write_line.new.sink) (l ++ 10 ∷ []))
    (c.as_bytes.ensures.value ∙ c.format.ensures.text) c.in-Err-write_line.ensures.err)
