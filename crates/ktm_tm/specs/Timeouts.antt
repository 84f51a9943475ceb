-- When timeouts are reached. No public clause cites this module.
use Rattle.std.specs.Prelude.{◌≡◌, ℕ, ◌<◌, not, true, List}
use Rattle.std.specs.List.{list_all}
use Rattle.ktm_world.specs.declared.object.Transaction.{Transaction}
use Rattle.ktm_world.specs.TransactionCalls.{is_due}

-- none of the transactions is due before this time
abbrev pub NoneDueBefore : ℕ → List Transaction → Type 0
NoneDueBefore time ts = (clock : ℕ) → clock < time → list_all (λ (t : Transaction). not (is_due clock t)) ts ≡ true
