-- A call meets what another holds where some other transaction holds it.
use Rattle.std.proofs.Common.{List, Option}
use Rattle.ktm_base.specs.declared.id.Id.{Id}
use Rattle.ktm_world.specs.Files.{OpenFile}
use Rattle.ktm_world.specs.Holds.{Act, meets}
use Rattle.txf_reserve.specs.Checks.{holders, holds_with, meets_another}
use Rattle.txf_reserve.specs.ReserveState.{ReserveState}
use Rattle.txf_reserve.proofs.Meets.{in_holders}
use Rattle.txf_reserve.proofs.offered.SomeOther.{tells_list, IsSomeAnd}

pub tells_another : (who : Option Id) (state : ReserveState) (opens : List OpenFile) (act : Act) → IsSomeAnd who (meets_another state opens who act) (λ id. meets (holds_with state opens id) act)
tells_another who state opens act = tells_list who (λ id. meets (holds_with state opens id) act) (holders state opens) (in_holders state opens act)
