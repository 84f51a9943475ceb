-- Which enlistments are live, in one transaction or in two. No public clause cites this module.
use Rattle.std.specs.Prelude.{◌&&◌, ◌||◌, Bool, List, Option, Some, None}
use Rattle.ktm_base.specs.declared.id.Id.{Id}
use Rattle.ktm_world.specs.declared.object.Transaction.{Transaction}
use Rattle.ktm_world.specs.Enlistments.{Enlistment, is_live_enlistment}
use Rattle.ktm_world.specs.Transactions.{same_id}

-- is the enlistment a live one of this transaction
abbrev pub is_live_of : List Transaction → Id → Enlistment → Bool
is_live_of ts id e = same_id e.transaction id && is_live_enlistment ts e

-- is it of one of these two transactions
abbrev pub is_of_either : Id → Id → Enlistment → Bool
is_of_either one other e = same_id e.transaction one || same_id e.transaction other

-- is it a live one of one of these two
abbrev pub is_live_of_either : List Transaction → Id → Id → Enlistment → Bool
is_live_of_either ts one other e = is_of_either one other e && is_live_enlistment ts e

-- the transaction of the enlistment that calls, if one does, and else this one
abbrev pub called_in : Option Enlistment → Id → Id
called_in None id = id
called_in (Some e) id = e.transaction
