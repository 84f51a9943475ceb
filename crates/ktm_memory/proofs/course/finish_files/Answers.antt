use Rattle.std.proofs.Common.{◌≡◌, ◌∙◌, false, sym, ap}
use Rattle.txf_volume.specs.Held.{FilesHeld, files_of}
use Rattle.txf_laws.specs.FileEffects.{forgotten}
use Rattle.ktm_memory.proofs.Finished.{files_left}
use Rattle.ktm_memory.proofs.course.finish_files.Goals as goal

pub returns-then-not-finish_uncounted : goal.returns-then-not-finish_uncounted
returns-then-not-finish_uncounted c =
    let none : c.finish_uncounted.result ≡ false = c.if-not-finish_uncounted.true in
    files_left c.args.files.now (files_of c.forget.new.self) c.args.id c.args.commits (sym none ∙ c.finish_uncounted.ensures.work)
    (c.forget.ensures ∙ ap (λ (h : FilesHeld). forgotten (files_of h) c.args.id) (c.finish_uncounted.ensures.none none))
