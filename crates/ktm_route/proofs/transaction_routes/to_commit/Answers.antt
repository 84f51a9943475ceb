use Rattle.std.proofs.Common.{refl}
use Rattle.ktm_memory.specs.Memory.{present_of}
use Rattle.ktm_route.proofs.Courses.{commit_comes, commit_ready}
use Rattle.ktm_route.proofs.Routes.{commit_refused}
use Rattle.ktm_route.proofs.Takes.{commit_takes}
use Rattle.ktm_route.proofs.transaction_routes.to_commit.Goals as goal

pub returns-in-Ok : goal.returns-in-Ok
returns-in-Ok c =
    let x = present_of c.args.memory.now in
    let t = c.in-Ok.t in
    let (named, passed) = c.in-Ok.ensures.ok in (
      commit_comes x c.args.process c.requires.up c.args.label t named passed,
      commit_ready x c.args.process c.requires.up c.args.label t named c.law_of_spelled.ensures c.law_of_files.ensures c.requires.standing c.requires.counts c.requires.command passed,
      commit_takes x c.args.process c.requires.up c.args.label t named passed,
      refl,
    )

pub returns-in-Err : goal.returns-in-Err
returns-in-Err c = commit_refused (present_of c.args.memory.now) c.args.process c.requires.up c.args.label c.in-Err.refusal (c.in-Err.ensures.err)
