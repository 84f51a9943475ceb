use Rattle.std.proofs.Common.{◌&&◌, take, []}
use Rattle.std.specs.Prelude.{if◌then◌else◌}
use Rattle.std.specs.List.{list_any}
use Rattle.ktm_base.specs.declared.id.Id.{Id}
use Rattle.ktm_world.specs.Durable.{is_ready}
use Rattle.ktm_world.specs.Holds.{holds_by}
use Rattle.ktm_world.specs.Transactions.{same_id}
use Rattle.txf_reserve.specs.ReserveState.{IsSameHold, holds_in}
use Rattle.ktm_waiting.proofs.holds.release_ready.Given as goal

abbrev pub invariant-loop-t : goal.invariant-loop-t
invariant-loop-t l =
    (id : Id) → IsSameHold (holds_in l.waiting id) (if list_any (λ t. same_id t.id id && is_ready t.stage) (take l.t-index l.transactions) then holds_by [] [] [] else holds_in l.fn.waiting id)
