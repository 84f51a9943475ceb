use Rattle.std.proofs.Common.{◌≡◌, ℕ, List, Some, ap, drop, refl, sym, take, ◌∙◌}
use Rattle.ktm_world.specs.declared.command.Command.TheVariants.{ReadFile}
use Rattle.ktm_world.specs.declared.reply.Reply.TheVariants.{Contents, Refused}
use Rattle.ktm_world.specs.Decide.{decide}
use Rattle.ktm_world.specs.Files.{OpenFile, bytes_seen}
use Rattle.ktm_world.specs.Labels.{file_named, file_tests}
use Rattle.ktm_world.specs.Outcome.{only_reply}
use Rattle.txf_opens.specs.Acts.{open_of}
use Rattle.ktm_memory.specs.Memory.{present_of}
use Rattle.ktm_route.proofs.Routes.{refused_first}
use Rattle.ktm_route.proofs.OpenFiles.{handed_err, handed_ok, read_passes, read_refused}
use Rattle.ktm_route.proofs.targets.read_target.Goals as goal

pub returns-in_err-file : goal.returns-in_err-file
returns-in_err-file c =
    let x = present_of c.args.memory.now in
    record {
      ok = handed_ok c.from_residual.result c.in_err-file.field-0.0 (λ (seen : List ℕ). (offset : ℕ) → decide x c.args.process (ReadFile c.args.file offset c.args.length) ≡ only_reply x (Contents (take c.args.length (drop offset seen)))) c.from_residual.ensures.1;
      named = handed_ok c.from_residual.result c.in_err-file.field-0.0 (λ (seen : List ℕ). (o : OpenFile) × (file_named x c.args.process c.args.file ≡ Some o) × (seen ≡ bytes_seen x.files o.transaction o.node)) c.from_residual.ensures.1;
      err = handed_err c.from_residual.result c.in_err-file.field-0.0 (λ refusal. (offset : ℕ) → decide x c.args.process (ReadFile c.args.file offset c.args.length) ≡ only_reply x (Refused refusal)) c.from_residual.ensures.1
          (λ offset. refused_first x c.args.process (ReadFile c.args.file offset c.args.length) (file_tests x c.args.process c.args.file) _ c.in_err-file.field-0.0 c.requires.up refl (c.in_err-file.ensures.err));
    }

pub returns-in-Some : goal.returns-in-Some
returns-in-Some c =
    let (named, passed) = c.in_ok-file.ensures.ok in
    record {
      ok = tt;
      named = tt;
      err = λ offset. read_refused (present_of c.args.memory.now) c.args.process c.requires.up c.args.file c.in_ok-file.file named passed offset c.args.length c.in-Some.refusal (sym c.read_refusal.ensures ∙ c.in-Some.is);
    }

pub returns-in-None : goal.returns-in-None
returns-in-None c =
    let x = present_of c.args.memory.now in
    let (named, passed) = c.in_ok-file.ensures.ok in
    record {
      ok = λ offset.
          read_passes x c.args.process c.requires.up c.args.file c.in_ok-file.file named passed offset c.args.length (sym c.read_refusal.ensures ∙ c.in-None.is)
          ∙ ap (λ seen. only_reply x (Contents (take c.args.length (drop offset seen)))) (sym c.bytes_seen.ensures);
      named = (open_of c.in_ok-file.file, named, c.bytes_seen.ensures);
      err = tt;
    }
