-- What a resource manager is told when it recovers.
use Rattle.std.specs.Prelude.{◌&&◌, ◌||◌, not, Bool, List, [], ◌∷◌, ◌++◌, map, filter, Some, None}
use Rattle.ktm_base.specs.declared.id.Id.{Id}
use Rattle.ktm_base.specs.declared.notify.Notify.{Notify}
use Rattle.ktm_world.specs.declared.object.Transaction.{Transaction}
use Rattle.ktm_world.specs.Enlistments.{Enlistment, Sent, is_superior}
use Rattle.ktm_world.specs.Labels.{holds_of}
use Rattle.ktm_world.specs.Present.{Transactions}
use Rattle.ktm_world.specs.TransactionCalls.{is_in_doubt}
use Rattle.ktm_world.specs.Transactions.{same_id, transaction_at}

-- is the enlistment one that the resource manager is to recover
abbrev pub is_to_recover : List Transaction → Id → Enlistment → Bool
is_to_recover ts manager e = same_id e.manager manager && not e.is_recovered && (not (is_superior e) || holds_of is_in_doubt (transaction_at ts e.transaction))

-- a RECOVER for each of the enlistments that it is to recover
abbrev pub recovers : List Transaction → Id → List Enlistment → List Sent
recovers ts manager es = map (λ e. record { manager = manager; note = record { kind = Notify.Recover; enlistment = Some e.id } }) (filter (is_to_recover ts manager) es)

-- a RECOVER for each of the enlistments that the resource manager is to recover, and a LAST_RECOVER
abbrev pub recover_notes : Transactions → Id → List Sent
recover_notes now manager = recovers now.items manager now.enlistments ++ record { manager = manager; note = record { kind = Notify.LastRecover; enlistment = None } } ∷ []
