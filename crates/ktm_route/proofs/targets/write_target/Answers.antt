use Rattle.std.proofs.Common.{◌≡◌, ℕ, ◌+◌, max, List, length, None, Some, refl, subst, sym, ◌∙◌}
use Rattle.ktm_world.specs.declared.command.Command.TheVariants.{WriteFile}
use Rattle.ktm_world.specs.Decide.{refusal_of}
use Rattle.ktm_world.specs.Files.{bytes_seen}
use Rattle.ktm_world.specs.Labels.{file_tests}
use Rattle.ktm_memory.specs.Memory.{present_of}
use Rattle.ktm_route.specs.Targets.{MayBeSoLong}
use Rattle.ktm_route.specs.declared.targets.Target.{Target}
use Rattle.ktm_route.proofs.Routes.{refusal_first}
use Rattle.ktm_route.proofs.OpenFiles.{handed_err, handed_ok, may_be, write_refusal}
use Rattle.ktm_route.proofs.targets.write_target.Goals as goal

pub write_refusal-requires-clause-orderly : goal.write_refusal-requires-clause-orderly
write_refusal-requires-clause-orderly c = rw c.files.ensures (c.law_of_files.ensures.orderly (present_of c.args.memory.now) c.requires.standing)

pub returns-in_err-file : goal.returns-in_err-file
returns-in_err-file c =
    let x = present_of c.args.memory.now in
    record {
      ok = handed_ok c.from_residual.result c.in_err-file.field-0.0 (λ (t : Target). MayBeSoLong x c.args.process c.args.file (max (length t.contents) (c.args.offset + c.args.len)) t) c.from_residual.ensures.1;
      passes = handed_ok c.from_residual.result c.in_err-file.field-0.0 (λ (t : Target). (bytes : List ℕ) → length bytes ≡ c.args.len → refusal_of x c.args.process (WriteFile c.args.file c.args.offset bytes) ≡ None) c.from_residual.ensures.1;
      err = handed_err c.from_residual.result c.in_err-file.field-0.0 (λ refusal. (bytes : List ℕ) → length bytes ≡ c.args.len → refusal_of x c.args.process (WriteFile c.args.file c.args.offset bytes) ≡ Some refusal) c.from_residual.ensures.1
          (λ bytes long. refusal_first x c.args.process (WriteFile c.args.file c.args.offset bytes) (file_tests x c.args.process c.args.file) _ c.in_err-file.field-0.0 c.requires.up refl (c.in_err-file.ensures.err));
    }

pub returns-in-Some : goal.returns-in-Some
returns-in-Some c =
    let x = present_of c.args.memory.now in
    let (named, passed) = c.in_ok-file.ensures.ok in
    let tests = rw (c.files.ensures, c.file_room-room.ensures) at c.write_refusal.ensures.refusal in
    record {
      ok = tt;
      passes = tt;
      err = λ bytes long. write_refusal x c.args.process c.requires.up c.args.file c.in_ok-file.file named passed c.args.offset bytes ∙ sym (tests c.in_ok-file.file.transaction bytes long) ∙ c.in-Some.is;
    }

pub returns-in-None : goal.returns-in-None
returns-in-None c =
    let x = present_of c.args.memory.now in
    let file = c.in_ok-file.file in
    let (named, passed) = c.in_ok-file.ensures.ok in
    let tests = rw (c.files.ensures, c.file_room-room.ensures) at c.write_refusal.ensures.refusal in
    let units = rw (c.files.ensures, c.file_room-room.ensures) at c.write_refusal.ensures.units in
    let small = rw (c.files.ensures, c.file_room-room.ensures) at c.write_refusal.ensures.small in
    record {
      ok = subst (λ (l : List ℕ). MayBeSoLong x c.args.process c.args.file (max (length l) (c.args.offset + c.args.len)) c.target_of.result) (sym c.target_of.ensures.contents)
          (may_be x c.args.process c.requires.up c.args.file file named passed c.target_of.result (max (length (bytes_seen x.files file.transaction file.node)) (c.args.offset + c.args.len))
          c.target_of.ensures.who c.target_of.ensures.node c.target_of.ensures.contents (small c.in-None.is) (units c.in-None.is));
      passes = λ bytes long. write_refusal x c.args.process c.requires.up c.args.file file named passed c.args.offset bytes ∙ sym (tests file.transaction bytes long) ∙ c.in-None.is;
      err = tt;
    }
