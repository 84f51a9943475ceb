use Rattle.std.proofs.Common.{rules}
use Rattle.ktm_disk.proofs.offered.Calls.{falls, fell}
use Rattle.ktm_cut.proofs.disk.CutDiskDisk.len.Goals as goal

pub returns-in-Err-clause-call : goal.returns-in-Err-clause-call
returns-in-Err-clause-call g c = falls _ c.admit.new.self c.fall.new.self _ _ c.in_ok-admit.ensures.call c.fall.ensures.state c.fall.ensures.later

pub returns-in-Err-clause-after : goal.returns-in-Err-clause-after
returns-in-Err-clause-after g c = record {
  counts = fell c.args.self.now.switch c.admit.new.self c.fall.new.self 0 _ c.in_ok-admit.ensures.call c.in_ok-admit.ensures.counts c.fall.ensures.state;
  cause = search rules;
  faults = search rules;
}
