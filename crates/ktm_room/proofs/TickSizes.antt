-- How many bytes the passing of time records: a rollback for each live transaction at most.
use Rattle.std.proofs.Common.{◌≡◌, ℕ, ◌+◌, ◌*◌, ◌≤◌, ◌&&◌, not, true, nat_le, count_by, List, [], ◌∷◌, refl, sym, ap, arith, inl, inr}
use Rattle.std.proofs.lemmas.Bool.{and_parts, cases_Bool, true≢false}
use Rattle.std.proofs.lemmas.List.Sums.{sum_by-append}
use Rattle.std.specs.List.{flat_map}
use Rattle.ktm_world.specs.declared.event.Event.TheVariants.{Undo}
use Rattle.ktm_world.specs.declared.object.Phase.{Phase}
use Rattle.ktm_world.specs.declared.object.Phase.TheVariants.{Ended}
use Rattle.ktm_world.specs.declared.object.Transaction.{Transaction}
use Rattle.ktm_world.specs.Sizes.{event_size}
use Rattle.ktm_world.specs.Present.{Present}
use Rattle.ktm_world.specs.TransactionCalls.{is_due, later, may_roll_back, never_times_out, tick}
use Rattle.ktm_world.specs.Transactions.{is_live}
use Rattle.txf_laws.proofs.offered.Sums.{count-cons, one_where}
use Rattle.ktm_records.specs.Kept.{IsKept}
use Rattle.ktm_records.proofs.offered.NoMore.{fits-within}
use Rattle.ktm_standing.specs.Effects.{undo_of}
use Rattle.ktm_standing.proofs.offered.Undone.{tick_records}
use Rattle.ktm_room.specs.Frames.{FitsEmptyLog}
use Rattle.ktm_room.proofs.offered.CourseSizes.{if-sized, sizes}

-- one that may be rolled back is live
rolling-live : (t : Transaction) → may_roll_back t ≡ true → is_live t ≡ true
rolling-live t = go t.phase
  where
    go : (phase : Phase) → may_roll_back (record t { phase = phase }) ≡ true → is_live (record t { phase = phase }) ≡ true
    go Ended may = absurd (true≢false (sym may))
    go _ may = refl

undo_of-size : (clock : ℕ) (t : Transaction) → sizes (undo_of clock t) ≤ 9 * one_where is_live t
undo_of-size clock t = elim (cases_Bool (is_due clock t)) [
  | inl due ↦
      let live = rolling-live t (and_parts (not (never_times_out t.timeout) && nat_le (t.created + t.timeout) clock) (may_roll_back t) due).1 in
      let one = if-sized (is_due clock t && t.is_recorded) (Undo t.id) in
      rw live (omega (arith, one))
  | inr early ↦ rw early (omega arith)
]

undone-size : (clock : ℕ) (ts : List Transaction) → sizes (flat_map (undo_of clock) ts) ≤ 9 * count_by is_live ts
undone-size clock [] = omega arith
undone-size clock (t ∷ ts) =
    let both = sum_by-append event_size (undo_of clock t) (flat_map (undo_of clock) ts) in
    let counts = count-cons is_live t ts in
    let one = undo_of-size clock t in
    let rest = undone-size clock ts in
    omega (arith, both, counts, one, rest)

pub tick-fits : (x : Present) (ms : ℕ) → IsKept x → FitsEmptyLog x.recorded.units (tick x ms).events
tick-fits x ms kept =
    let same = ap sizes (tick_records x ms kept.sound.course) in
    let all = undone-size (later x.transactions.clock ms) x.transactions.items in
    let few = (fits-within x kept.within).live in
    omega (arith, same, all, few)
