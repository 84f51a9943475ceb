-- What the passing of time records, over the live transactions alone.
use Rattle.std.proofs.Common.{◌≡◌, ℕ, ◌+◌, ◌≤◌, ◌++◌, ◌&&◌, ◌||◌, zero, suc, true, false, List, [], ◌∷◌, All, cond, count_by, drop, filter, nat_le, nat_lt, Some, None, refl, sym, ◌∙◌, ap, subst, inl, inr, arith}
use Rattle.std.proofs.lemmas.List.{drop_all}
use Rattle.std.proofs.lemmas.List.Sums.{length-filter}
use Rattle.std.specs.List.{AllByRecursion, flat_map, list_all, slice_get}
use Rattle.std.proofs.lemmas.Bool.{and_parts, both_ways, cases_Bool, false_from_ne_true, leb-true}
use Rattle.std.proofs.lemmas.List.Elements.{All-append, All-cons, All-from_recursion, All-nil}
use Rattle.ktm_base.specs.declared.limits.TheConstants.{MOST_NUMBER}
use Rattle.ktm_base.specs.declared.id.Id.{Id}
use Rattle.ktm_event.specs.Spelling.{IsSpellableEvent, IsSpellableId}
use Rattle.txf_laws.specs.Grammatical.{changes_of_event}
use Rattle.ktm_world.specs.declared.event.Event.TheVariants.{Undo}
use Rattle.ktm_world.specs.declared.object.Phase.{Phase}
use Rattle.ktm_world.specs.declared.object.Phase.TheVariants.{Ended}
use Rattle.ktm_world.specs.declared.object.Transaction.{Transaction}
use Rattle.ktm_world.specs.Transactions.{is_live}
use Rattle.ktm_world.specs.Phases.{event_if}
use Rattle.ktm_world.specs.Present.{Present}
use Rattle.ktm_world.specs.TransactionCalls.{is_due, later, may_roll_back, tick}
use Rattle.ktm_courses.specs.SoundCourse.{IsSoundCourse, is_counted}
use Rattle.ktm_standing.specs.Effects.{undo_of}
use Rattle.ktm_standing.proofs.offered.Undone.{tick_records}

may_live : (t : Transaction) → may_roll_back t ≡ true → is_live t ≡ true
may_live t = go t.phase
  where
    go : (phase : Phase) → may_roll_back (record t { phase = phase }) ≡ true → is_live (record t { phase = phase }) ≡ true
    go Ended may = absurd (cc)
    go _ may = refl

ended_not_due : (clock : ℕ) (t : Transaction) → is_live t ≡ false → is_due clock t ≡ false
ended_not_due clock t ended = false_from_ne_true (is_due clock t) (λ due. both_ways (is_live t) ended (may_live t (and_parts _ (may_roll_back t) due).1))

-- nothing is recorded of those that have ended
pub undone_live : (clock : ℕ) (ts : List Transaction) → flat_map (undo_of clock) (filter is_live ts) ≡ flat_map (undo_of clock) ts
undone_live clock [] = refl
undone_live clock (t ∷ ts) =
    let rest = undone_live clock ts in
    elim (cases_Bool (is_live t)) [
      | inl live ↦ rw live (ap (λ es. undo_of clock t ++ es) rest)
      | inr ended ↦ (let none = ended_not_due clock t ended in rw ended (rw none rest))
    ]

-- what stands at a place, and what is behind it
drop_here : (ts : List Transaction) (i : ℕ) (t : Transaction) → slice_get ts i ≡ Some t → drop i ts ≡ t ∷ drop (suc i) ts
drop_here [] i t at = absurd (cc)
drop_here (u ∷ us) zero t at = let is : u ≡ t = cc in ap (λ (v : Transaction). v ∷ us) is
drop_here (u ∷ us) (suc i) t at = drop_here us i t at

-- there is none at a place behind them all
none_left : (ts : List Transaction) (i : ℕ) → slice_get ts i ≡ None → drop i ts ≡ []
none_left [] zero at = refl
none_left [] (suc i) at = refl
none_left (t ∷ ts) zero at = absurd (cc)
none_left (t ∷ ts) (suc i) at = none_left ts i at

-- none is left behind them all
none_behind : (ts : List Transaction) (i : ℕ) → slice_get ts i ≡ None → drop (suc i) ts ≡ []
none_behind [] i at = refl
none_behind (t ∷ ts) zero at = absurd (cc)
none_behind (t ∷ ts) (suc i) at = none_behind ts i at

-- what is recorded of the one at a place, and of those behind it
pub undone_here : (clock : ℕ) (ts : List Transaction) (i : ℕ) (t : Transaction) → slice_get ts i ≡ Some t → flat_map (undo_of clock) (drop i ts) ≡ undo_of clock t ++ flat_map (undo_of clock) (drop (i + 1) ts)
undone_here clock ts i t at =
    let next : suc i ≡ i + 1 = omega arith in
    ap (flat_map (undo_of clock)) (drop_here ts i t at) ∙ ap (λ n. undo_of clock t ++ flat_map (undo_of clock) (drop n ts)) next

pub undone_over : (clock : ℕ) (ts : List Transaction) (i : ℕ) → slice_get ts i ≡ None → flat_map (undo_of clock) (drop i ts) ≡ flat_map (undo_of clock) (drop (i + 1) ts)
undone_over clock ts i at =
    let next : suc i ≡ i + 1 = omega arith in
    ap (flat_map (undo_of clock)) (none_left ts i at ∙ sym (none_behind ts i at)) ∙ ap (λ n. flat_map (undo_of clock) (drop n ts)) next

-- behind them all
pub undone_all : (clock : ℕ) (ts : List Transaction) (i : ℕ) → count_by is_live ts ≤ i → flat_map (undo_of clock) (drop i (filter is_live ts)) ≡ []
undone_all clock ts i behind = ap (flat_map (undo_of clock)) (drop_all i (filter is_live ts) (omega (arith, length-filter is_live ts, behind)))

-- nothing is recorded of those that are not due
undone_due : (clock : ℕ) (ts : List Transaction) → flat_map (undo_of clock) (filter (is_due clock) ts) ≡ flat_map (undo_of clock) ts
undone_due clock [] = refl
undone_due clock (t ∷ ts) = elim (cases_Bool (is_due clock t)) [
  | inl due ↦ ap (λ b. flat_map (undo_of clock) (cond b (t ∷ filter (is_due clock) ts) (filter (is_due clock) ts))) due ∙ ap (λ es. undo_of clock t ++ es) (undone_due clock ts)
  | inr early ↦
      ap (λ b. flat_map (undo_of clock) (cond b (t ∷ filter (is_due clock) ts) (filter (is_due clock) ts))) early ∙ undone_due clock ts
      ∙ sym (ap (λ b. event_if (b && t.is_recorded) (Undo t.id) ++ flat_map (undo_of clock) ts) early)
]

-- as much is recorded where the same are due
pub undone_same : (clock : ℕ) (ts us : List Transaction) → filter (is_due clock) ts ≡ filter (is_due clock) us → flat_map (undo_of clock) ts ≡ flat_map (undo_of clock) us
undone_same clock ts us same = sym (undone_due clock ts) ∙ ap (flat_map (undo_of clock)) same ∙ undone_due clock us

-- it is what the passing of time records
pub tick_undoes : (x : Present) (ms : ℕ) → IsSoundCourse x → flat_map (undo_of (later x.transactions.clock ms)) (filter is_live x.transactions.items) ≡ (tick x ms).events
tick_undoes x ms course = undone_live (later x.transactions.clock ms) x.transactions.items ∙ sym (tick_records x ms course)

-- it is no change of files
undo_bare : (clock : ℕ) (t : Transaction) → All (λ event. changes_of_event event ≡ []) (undo_of clock t)
undo_bare clock t = elim (cases_Bool (is_due clock t && t.is_recorded)) [
  | inl undone ↦ rw undone (All-cons (λ event. changes_of_event event ≡ []) (Undo t.id) [] refl (All-nil (λ event. changes_of_event event ≡ [])))
  | inr stays ↦ rw stays (All-nil (λ event. changes_of_event event ≡ []))
]

pub undone_bare : (clock : ℕ) (ts : List Transaction) → All (λ event. changes_of_event event ≡ []) (flat_map (undo_of clock) ts)
undone_bare clock [] = All-nil (λ event. changes_of_event event ≡ [])
undone_bare clock (t ∷ ts) = All-append (λ event. changes_of_event event ≡ []) (undo_of clock t) (flat_map (undo_of clock) ts) (undo_bare clock t) (undone_bare clock ts)

-- what the passing of time records is no change of files
pub tick_bare : (x : Present) (ms : ℕ) → IsSoundCourse x → All (λ event. changes_of_event event ≡ []) (tick x ms).events
tick_bare x ms course = subst (All (λ event. changes_of_event event ≡ [])) (tick_undoes x ms course) (undone_bare (later x.transactions.clock ms) (filter is_live x.transactions.items))

-- ---- it can be written

counted_id : (boot last : ℕ) (id : Id) → is_counted boot last id ≡ true → IsSpellableId id
counted_id boot last id counted =
    let most = and_parts _ (nat_lt id.boot boot || nat_le id.number last) counted in
    let number = and_parts _ (nat_le id.number MOST_NUMBER) most.0 in
    let from = and_parts (nat_le 1 id.boot && nat_le id.boot boot) (nat_le 1 id.number) number.0 in
    record { boot_from = leb-true 1 id.boot (and_parts (nat_le 1 id.boot) (nat_le id.boot boot) from.0).0; number_from = leb-true 1 id.number from.1 }

-- what is recorded of numbered transactions
undone-spelled : (clock boot last : ℕ) (ts : List Transaction) → list_all (λ (t : Transaction). is_counted boot last t.id) ts ≡ true → AllByRecursion IsSpellableEvent (flat_map (undo_of clock) ts)
undone-spelled clock boot last [] counted = tt
undone-spelled clock boot last (t ∷ ts) counted =
    let parts = and_parts (is_counted boot last t.id) (list_all (λ (u : Transaction). is_counted boot last u.id) ts) counted in
    let rest = undone-spelled clock boot last ts parts.1 in
    elim (cases_Bool (is_due clock t && t.is_recorded)) [ inl is ↦ rw is (counted_id boot last t.id parts.0, rest) | inr none ↦ rw none rest ]

pub undone_spelled : (x : Present) (clock : ℕ) → IsSoundCourse x → All IsSpellableEvent (flat_map (undo_of clock) x.transactions.items)
undone_spelled x clock course = All-from_recursion IsSpellableEvent (flat_map (undo_of clock) x.transactions.items) (undone-spelled clock x.recorded.boots x.transactions.last_transaction x.transactions.items course.transactions.counted)
