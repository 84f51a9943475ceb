-- Which transactions have work in the keys.
use Rattle.std.specs.Prelude.{Bool, List}
use Rattle.std.specs.List.{list_any}
use Rattle.ktm_base.specs.declared.id.Id.{Id}
use Rattle.ktm_world.specs.Keys.{Own}
use Rattle.ktm_world.specs.Transactions.{same_id}

-- has the transaction settings of its own
abbrev pub has_own : List Own → Id → Bool
has_own own id = list_any (λ o. same_id o.transaction id) own
