use Rattle.std.proofs.Common.{arith}
use Rattle.ktm_journal.proofs.Laying.{gate_refused, gate_told, gate_within, laid_told, length_refused, length_told, never_synced, snapshot_refused, snapshot_told}
use Rattle.ktm_journal.proofs.snapshot.lay_half.Goals as goal

pub returns-in-Err-clause-err : goal.returns-in-Err-clause-err
returns-in-Err-clause-err g c =
    length_refused c.args.units c.args.half _ _ c.to_le_bytes-len.ensures c.requires.fits _ c.requires.within _ _ (rw c.snapshot_area-area.ensures at c.in-Err.ensures.err) c.in-Err.ensures.frozen

pub returns-in-Err-write_at-clause-err : goal.returns-in-Err-write_at-clause-err
returns-in-Err-write_at-clause-err g c =
    let one = length_told c.args.units c.args.half _ _ c.to_le_bytes-len.ensures c.requires.fits _ c.requires.within _ (rw c.snapshot_area-area.ensures at c.in_default.ensures.ok) in
    snapshot_refused c.args.units c.args.half _ _ c.to_le_bytes-len.ensures c.requires.fits _ c.requires.within _ _ _ one (rw c.snapshot_area-area.ensures at c.in-Err-write_at.ensures.err) c.in-Err-write_at.ensures.frozen

pub write_at-requires-3-clause-within : goal.write_at-requires-3-clause-within
write_at-requires-3-clause-within g c =
    let one = length_told c.args.units c.args.half _ _ c.to_le_bytes-len.ensures c.requires.fits _ c.requires.within _ (rw c.snapshot_area-area.ensures at c.in_default.ensures.ok) in
    let two = snapshot_told c.args.units c.args.half _ _ c.to_le_bytes-len.ensures c.requires.fits _ c.requires.within _ _ one (rw c.snapshot_area-area.ensures at c.in_default-write_at.ensures.ok) in
    rw c.log_area.ensures (gate_within c.args.units c.args.half _ _ c.to_le_bytes-len.ensures c.requires.fits _ c.requires.within _ two)

pub returns-in-Err-write_at-2-clause-err : goal.returns-in-Err-write_at-2-clause-err
returns-in-Err-write_at-2-clause-err g c =
    let one = length_told c.args.units c.args.half _ _ c.to_le_bytes-len.ensures c.requires.fits _ c.requires.within _ (rw c.snapshot_area-area.ensures at c.in_default.ensures.ok) in
    let two = snapshot_told c.args.units c.args.half _ _ c.to_le_bytes-len.ensures c.requires.fits _ c.requires.within _ _ one (rw c.snapshot_area-area.ensures at c.in_default-write_at.ensures.ok) in
    gate_refused c.args.units c.args.half _ _ c.to_le_bytes-len.ensures c.requires.fits _ c.requires.within _ _ _ two (rw c.log_area.ensures at c.in-Err-write_at-2.ensures.err) c.in-Err-write_at-2.ensures.frozen

pub returns-in-Err-sync-clause-err : goal.returns-in-Err-sync-clause-err
returns-in-Err-sync-clause-err g c =
    let one = length_told c.args.units c.args.half _ _ c.to_le_bytes-len.ensures c.requires.fits _ c.requires.within _ (rw c.snapshot_area-area.ensures at c.in_default.ensures.ok) in
    let two = snapshot_told c.args.units c.args.half _ _ c.to_le_bytes-len.ensures c.requires.fits _ c.requires.within _ _ one (rw c.snapshot_area-area.ensures at c.in_default-write_at.ensures.ok) in
    let three = gate_told c.args.units c.args.half _ _ c.to_le_bytes-len.ensures c.requires.fits _ c.requires.within _ _ two (rw c.log_area.ensures at c.in_default-write_at-2.ensures.ok) in
    never_synced c.args.units c.args.half _ _ c.to_le_bytes-len.ensures c.requires.fits _ c.requires.within _ _ three c.in-Err-sync.ensures.err

pub returns-clause-ok : goal.returns-clause-ok
returns-clause-ok g c =
    let one = length_told c.args.units c.args.half _ _ c.to_le_bytes-len.ensures c.requires.fits _ c.requires.within _ (rw c.snapshot_area-area.ensures at c.in_default.ensures.ok) in
    let two = snapshot_told c.args.units c.args.half _ _ c.to_le_bytes-len.ensures c.requires.fits _ c.requires.within _ _ one (rw c.snapshot_area-area.ensures at c.in_default-write_at.ensures.ok) in
    let three = gate_told c.args.units c.args.half _ _ c.to_le_bytes-len.ensures c.requires.fits _ c.requires.within _ _ two (rw c.log_area.ensures at c.in_default-write_at-2.ensures.ok) in
    laid_told c.args.units c.args.half _ _ c.to_le_bytes-len.ensures c.requires.fits _ c.requires.within _ _ (omega (arith, c.requires.fits, c.requires.most)) three c.in_default-sync.ensures.ok
