-- What is so of the bytes of a good state: what waits puts them from the begin of files on.
use Rattle.std.proofs.Common.{◌≡◌, ◌||◌, not, true, List, [], ◌∷◌, All, sym, subst, refl, inl, inr}
use Rattle.std.specs.List.{flat_map}
use Rattle.std.proofs.lemmas.Bool.{and_parts, cases_Bool}
use Rattle.std.proofs.lemmas.List.Elements.{All-cons, All-nil}
use Rattle.ktm_owners.proofs.OwningStates.{AllStartAtBegin, StartsAtBegin}
use Rattle.ktm_owners.proofs.Singles.{ends-begin}
use Rattle.ktm_paged.proofs.offered.LyingStates.{All-left, All-right, recorded-form}
use Rattle.txf_laws.specs.GoodState.{IsGoodState, are_kept_changes}
use Rattle.txf_laws.proofs.offered.WaitingChanges.{no_changes-left, no_changes_part}
use Rattle.ktm_world.specs.declared.recorded.RecordedPart.{RecordedPart}
use Rattle.ktm_world.specs.Changes.{has_changes}
use Rattle.ktm_world.specs.Durable.{Durable, Recorded, are_recorded_changes, changes_in, changes_of, has_changes_part, is_decided}
use Rattle.txf_laws.specs.Elements.{IsIn}
use Rattle.txf_laws.proofs.offered.Elements.{list_all-at}

-- what holds of each that is in the list
All-by : {X : Type 0} (P : X → Type 0) (xs : List X) → ((x : X) → IsIn x xs → P x) → All P xs
All-by P [] each = All-nil P
All-by P (x ∷ xs) each = All-cons P x xs (each x (inl refl)) (All-by P xs (λ y there. each y (inr there)))

-- what holds of all that each of a list gives
All-each : {X Y : Type 0} (P : Y → Type 0) (f : X → List Y) (xs : List X) → All P (flat_map f xs) → All (λ x. All P (f x)) xs
All-each P f [] all = All-nil (λ x. All P (f x))
All-each P f (x ∷ xs) all = All-cons (λ y. All P (f y)) x xs (All-left P (f x) (flat_map f xs) all) (All-each P f xs (All-right P (f x) (flat_map f xs) all))

-- the changes of a transaction put bytes from the begin of files on
changes-start : (t : Recorded) → are_kept_changes t ≡ true → All StartsAtBegin (changes_of t)
changes-start t kept = elim (cases_Bool (is_decided t.stage)) [
  | inl decided ↦ subst (All StartsAtBegin) (sym (no_changes-left t kept decided)) (All-nil StartsAtBegin)
  | inr waits ↦ elim (cases_Bool (has_changes_part t)) [
    | inl has ↦ ends-begin (changes_of t) (recorded-form (changes_of t) (rw (waits, has) at form))
    | inr none ↦ subst (All StartsAtBegin) (sym (no_changes_part t none)) (All-nil StartsAtBegin)
  ]
]
  where
    form : (is_decided t.stage || not (has_changes_part t) || are_recorded_changes (changes_of t)) ≡ true
    form = (and_parts (not (is_decided t.stage) || not (has_changes (changes_of t))) (is_decided t.stage || not (has_changes_part t) || are_recorded_changes (changes_of t)) kept).1

pub good-starts : (s : Durable) → IsGoodState s → AllStartAtBegin s
good-starts s good =
    All-by (λ (t : Recorded). All (λ (part : RecordedPart). All StartsAtBegin (changes_in part.part)) t.parts) s.transactions
    (λ t there. All-each StartsAtBegin (λ (part : RecordedPart). changes_in part.part) t.parts (changes-start t (list_all-at are_kept_changes s.transactions good.changes t there)))
