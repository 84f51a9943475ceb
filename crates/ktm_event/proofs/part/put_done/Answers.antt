use Rattle.std.proofs.Common.{arith}
use Rattle.ktm_event.proofs.Writings.{tagged}
use Rattle.ktm_event.proofs.part.put_done.Goals as goal

pub put_u8-requires : goal.put_u8-requires
put_u8-requires c = omega (arith, rw c.in-Enlistment.is at c.done_size.ensures, c.in_ok-reserve.ensures)

pub put_id-requires-clause-room : goal.put_id-requires-clause-room
put_id-requires-clause-room c = omega (arith, rw c.in-Enlistment.is at c.done_size.ensures, c.in_ok-reserve.ensures, c.put_u8.ensures)

pub returns-in-Enlistment-clause-adds : goal.returns-in-Enlistment-clause-adds
returns-in-Enlistment-clause-adds c = rw (← c.in_ok-reserve.ensures.items, c.in-Enlistment.is) (tagged c.put_u8.ensures.adds c.put_id.ensures.adds)

pub returns-in-Files-clause-adds : goal.returns-in-Files-clause-adds
returns-in-Files-clause-adds c = rw (← c.in_ok-reserve.ensures.items, c.in-Files.is) c.put_u8-in-Files.ensures.adds

pub returns-in-Keys-clause-adds : goal.returns-in-Keys-clause-adds
returns-in-Keys-clause-adds c = rw (← c.in_ok-reserve.ensures.items, c.in-Keys.is) c.put_u8-in-Keys.ensures.adds
