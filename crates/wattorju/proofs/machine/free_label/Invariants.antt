use Rattle.std.proofs.Common.{◌≡◌, ℕ, ◌<◌, ◌≤◌, true}
use Rattle.ktm_world.specs.Labels.{is_bound}
use Rattle.wattorju.specs.Calls.{own}
use Rattle.wattorju.proofs.Labels.{numbered}
use Rattle.wattorju.proofs.machine.free_label.Given as goal

abbrev pub invariant-loop-number : goal.invariant-loop-number
invariant-loop-number l = (n : ℕ) → 1 ≤ n → n < l.number → is_bound l.kernel.now own (numbered n) ≡ true
