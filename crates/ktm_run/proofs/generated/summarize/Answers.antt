use Rattle.std.proofs.Common.{ℕ, List, subst}
use Rattle.std.specs.Io.KnownBytes.{Appends}
use Rattle.ktm_run.proofs.Generating.{summary_is}
use Rattle.ktm_dump.specs.Written.{AppendsPart}
use Rattle.ktm_run.proofs.generated.summarize.Goals as goal

pub returns-in-Err-clause-leaves : goal.returns-in-Err-clause-leaves
returns-in-Err-clause-leaves g c = λ w at.
    let t = c.in-Ok.ensures.went w at in record {
      went = t.went;
      wrote = subst (λ (l : List ℕ). AppendsPart (g.K.Sink.taken c.args.sink.now) (g.K.Sink.taken c.write_summary.new.sink) l)
          (summary_is c.args.lines t.went.replies t.went.world c.in-Ok.tally _ t.counted c.in-Ok.ensures.all (c.events.ensures.world (g.D.Disk.told c.run_lines.new.disk) t.went.world t.went.stands)) c.in-Err.ensures.err;
    }

pub returns-clause-leaves : goal.returns-clause-leaves
returns-clause-leaves g c = λ w at.
    let t = c.in-Ok.ensures.went w at in record {
      went = t.went;
      wrote = subst (λ (l : List ℕ). Appends (g.K.Sink.taken c.args.sink.now) (g.K.Sink.taken c.write_summary.new.sink) l)
          (summary_is c.args.lines t.went.replies t.went.world c.in-Ok.tally _ t.counted c.in-Ok.ensures.all (c.events.ensures.world (g.D.Disk.told c.run_lines.new.disk) t.went.world t.went.stands)) c.in_default-write_summary.ensures.ok;
    }
