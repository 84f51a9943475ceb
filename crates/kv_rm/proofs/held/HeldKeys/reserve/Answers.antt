use Rattle.std.proofs.Common.{arith}
use Rattle.kv_rm.proofs.Hashes.{are_held-resized}
use Rattle.kv_rm.proofs.held.HeldKeys.reserve.Goals as goal

pub returns-in_ok-resize-clause-held : goal.returns-in_ok-resize-clause-held
returns-in_ok-resize-clause-held c = λ own are. rw c.in_ok-resize.ensures.items (are_held-resized c.args.self.now.counts.items 1024 _ own (omega (arith, c.if-len-lt-HASHES.true, c.len.ensures)) are)
