use Rattle.std.proofs.Common.{◌≡◌, None, Some, refl, subst, sym, ◌∙◌}
use Rattle.ktm_world.specs.declared.command.Command.TheVariants.{SetEndOfFile}
use Rattle.ktm_world.specs.Decide.{refusal_of}
use Rattle.ktm_world.specs.Labels.{file_tests}
use Rattle.ktm_world.specs.Uses.{file_room}
use Rattle.txf_calls.specs.Calls.{IsForUnits}
use Rattle.ktm_memory.specs.Memory.{present_of}
use Rattle.ktm_route.specs.Targets.{MayBeSoLong}
use Rattle.ktm_route.specs.declared.targets.Target.{Target}
use Rattle.ktm_route.proofs.Routes.{refusal_first}
use Rattle.ktm_route.proofs.OpenFiles.{end_refusal, handed_err, handed_ok, may_be}
use Rattle.ktm_route.proofs.targets.end_target.Goals as goal

pub set_end_refusal-requires-clause-orderly : goal.set_end_refusal-requires-clause-orderly
set_end_refusal-requires-clause-orderly c = rw c.files.ensures (c.law_of_files.ensures.orderly (present_of c.args.memory.now) c.requires.standing)

pub returns-in_err-file : goal.returns-in_err-file
returns-in_err-file c =
    let x = present_of c.args.memory.now in
    record {
      ok = handed_ok c.from_residual.result c.in_err-file.field-0.0 (λ (t : Target). MayBeSoLong x c.args.process c.args.file c.args.size t) c.from_residual.ensures.1;
      passes = handed_ok c.from_residual.result c.in_err-file.field-0.0 (λ (t : Target). refusal_of x c.args.process (SetEndOfFile c.args.file c.args.size) ≡ None) c.from_residual.ensures.1;
      err = handed_err c.from_residual.result c.in_err-file.field-0.0 (λ refusal. refusal_of x c.args.process (SetEndOfFile c.args.file c.args.size) ≡ Some refusal) c.from_residual.ensures.1
          (refusal_first x c.args.process (SetEndOfFile c.args.file c.args.size) (file_tests x c.args.process c.args.file) _ c.in_err-file.field-0.0 c.requires.up refl (c.in_err-file.ensures.err));
    }

pub returns-in-Some : goal.returns-in-Some
returns-in-Some c =
    let x = present_of c.args.memory.now in
    let (named, passed) = c.in_ok-file.ensures.ok in
    let tests = rw (c.files.ensures, c.file_room-room.ensures) at c.set_end_refusal.ensures.refusal in
    record {
      ok = tt;
      passes = tt;
      err = end_refusal x c.args.process c.requires.up c.args.file c.in_ok-file.file named passed c.args.size ∙ sym (tests c.in_ok-file.file.transaction) ∙ c.in-Some.is;
    }

pub returns-in-None : goal.returns-in-None
returns-in-None c =
    let x = present_of c.args.memory.now in
    let file = c.in_ok-file.file in
    let (named, passed) = c.in_ok-file.ensures.ok in
    let tests = rw (c.files.ensures, c.file_room-room.ensures) at c.set_end_refusal.ensures.refusal in
    let units = rw (c.files.ensures, c.file_room-room.ensures) at c.set_end_refusal.ensures.units in
    let small = rw c.file_room-room.ensures at c.set_end_refusal.ensures.small in
    record {
      ok = may_be x c.args.process c.requires.up c.args.file file named passed c.target_of.result c.args.size c.target_of.ensures.who c.target_of.ensures.node c.target_of.ensures.contents (small c.in-None.is)
          (subst (λ r. IsForUnits x.files (file_room x) file c.args.size r) c.in-None.is units);
      passes = end_refusal x c.args.process c.requires.up c.args.file file named passed c.args.size ∙ sym (tests file.transaction) ∙ c.in-None.is;
      err = tt;
    }
