-- Places that are in no doubt.
use Rattle.std.specs.Prelude.{IfSome}
use Rattle.std.proofs.Common.{◌≡◌, ◌⊎◌, inl, inr, ℕ, ◌+◌, ◌<◌, ◌≤◌, min, Bool, true, false, List, [], ◌∷◌, length, drop, get_or, Option, None, Some, refl, ◌∙◌, arith}
use Rattle.std.proofs.lemmas.Grind.{common_steps}
use Rattle.std.proofs.lemmas.Bool.{cases_lt}
use Rattle.std.proofs.lemmas.Bool.Decides.{nat_tests}
use Rattle.std.proofs.lemmas.List.{at_drop_more, at_drop_all}
use Rattle.ktm_base.specs.Bytes.{covers, SameOutside}
use Rattle.ktm_base.specs.Doubt.{NoneMore}
use Rattle.ktm_base.specs.Told.{Goes}
use Rattle.ktm_cut.specs.Elsewhere.{SameElsewhere}
use Rattle.ktm_cut.specs.Sure.{SureFrom, SureIn, IsDirtySure}
use Rattle.ktm_disk.specs.Told.{length_at_sync}

-- what a write leaves outside of its range
abbrev pub Others : ℕ → ℕ → (ℕ → Bool) → (ℕ → Bool) → Type 0
Others at size old new = (place : ℕ) → covers ((at, size) ∷ []) place ≡ false → new place ≡ old place

-- what a write leaves in its range
abbrev pub Range : ℕ → ℕ → (ℕ → Bool) → Type 0
Range at size new = (place : ℕ) → covers ((at, size) ∷ []) place ≡ true → new place ≡ false

is_covered : (at size k : ℕ) → at ≤ k → k < at + size → covers ((at, size) ∷ []) k ≡ true
is_covered at size k low high = grind (arith, common_steps, nat_tests)

written_place : (at size k : ℕ) (old new : ℕ → Bool) (b : Bool) → covers ((at, size) ∷ []) k ≡ b → Others at size old new → Range at size new → old k ≡ false → new k ≡ false
written_place at size k old new true is others range sure = range k is
written_place at size k old new false is others range sure = others k is ∙ sure

-- a write that was done brings no place into doubt
none_more : (at size : ℕ) (old new : ℕ → Bool) → Others at size old new → Range at size new → NoneMore old new
none_more at size old new others range = λ place. written_place at size place old new (covers ((at, size) ∷ []) place) refl others range

in_piece : (from at size k : ℕ) (old mid new : ℕ → Bool) → SureFrom from at old mid → Others at size mid new → Range at size new → from ≤ k → k < at + size → (k < at) ⊎ (at ≤ k) → new k ≡ false
in_piece from at size k old mid new sure others range low high (inl before) = none_more at size mid new others range k (sure.range k low before)
in_piece from at size k old mid new sure others range low high (inr behind) = range k (is_covered at size k behind high)

-- a piece more is written
pub piece_sure : (from at size n : ℕ) (old mid new : ℕ → Bool) → n ≡ size → SureFrom from at old mid → Others at n mid new → Range at n new → SureFrom from (at + size) old new
piece_sure from at size n old mid new long sure others range = record {
  others = λ place was. none_more at n mid new others range place (sure.others place was);
  range = λ place low high. in_piece from at n place old mid new sure others range low (omega arith) (cases_lt place at);
}

-- all of the pieces are written
pub sure_all : (from at end : ℕ) (old new : ℕ → Bool) → end ≤ at → SureFrom from at old new → SureFrom from end old new
sure_all from at end old new all sure = record { others = sure.others; range = λ place low high. sure.range place low (omega arith) }

-- no place is doubted that was not, and none below the end that a range covers, but for those that the rest of them covers
pub record SureBut (ranges rest : List (ℕ × ℕ)) (end : ℕ) (old new : ℕ → Bool) : Type 0 where
  pub others : NoneMore old new
  pub covered : (place : ℕ) → place < end → covers ranges place ≡ true → covers rest place ≡ false → new place ≡ false

inside : (r : ℕ × ℕ) (rs : List (ℕ × ℕ)) (k : ℕ) → covers (r ∷ rs) k ≡ true → covers rs k ≡ false → (r.0 ≤ k) × (k < r.0 + r.1)
inside r rs k is none = grind (arith, common_steps, nat_tests)

in_range : (r : ℕ × ℕ) (rs : List (ℕ × ℕ)) (len from end k : ℕ) (mid new : ℕ → Bool) (b : Bool) → covers (r ∷ rs) k ≡ b → k < len → from ≡ min len r.0 → end ≡ min len (r.0 + r.1) → covers rs k ≡ false → (b ≡ false → mid k ≡ false) → SureFrom from end mid new → new k ≡ false
in_range r rs len from end k mid new true is low start stop none sure next =
    let within : (r.0 ≤ k) × (k < r.0 + r.1) = inside r rs k is none in
    next.range k (omega (arith, within.0)) (omega (arith, within.1))
in_range r rs len from end k mid new false is low start stop none sure next = next.others k (sure refl)

-- one range more is written
pub range_sure : (rs : List (ℕ × ℕ)) (i len from end : ℕ) (d : ℕ × ℕ) (old mid new : ℕ → Bool) → i < length rs → from ≡ min len (get_or rs i d).0 → end ≡ min len ((get_or rs i d).0 + (get_or rs i d).1) → SureBut rs (drop i rs) len old mid → SureFrom from end mid new → SureBut rs (drop (i + 1) rs) len old new
range_sure rs i len from end d old mid new low start stop first next = record {
  others = λ place was. next.others place (first.others place was);
  covered = λ place before is none. in_range (get_or rs i d) (drop (i + 1) rs) len from end place mid new (covers (get_or rs i d ∷ drop (i + 1) rs) place) refl before start stop none
      (λ out. first.covered place before is (at_drop_more (λ (l : List (ℕ × ℕ)). covers l place) rs i d low ∙ out)) next;
}

-- all of the ranges are written
pub ranges_sure : (rs : List (ℕ × ℕ)) (i len : ℕ) (old new : ℕ → Bool) → length rs ≤ i → SureBut rs (drop i rs) len old new → SureIn rs len old new
ranges_sure rs i len old new all sure = record {
  others = sure.others;
  covered = λ place before is. sure.covered place before is (at_drop_all (λ (l : List (ℕ × ℕ)). covers l place) rs i all);
}

dirty_place : (ranges : List (ℕ × ℕ)) (from len k : ℕ) (old mid new : ℕ → Bool) → SureIn ranges len old mid → SureFrom from len mid new → k < len → (covers ranges k ≡ true) ⊎ (from ≤ k) → new k ≡ false
dirty_place ranges from len k old mid new first next low (inl is) = next.others k (first.covered k low is)
dirty_place ranges from len k old mid new first next low (inr behind) = next.range k behind low

-- the ranges and what was added are written
pub dirty_sure : (ranges : List (ℕ × ℕ)) (grown_from : Option ℕ) (len : ℕ) (old mid new : ℕ → Bool) (a b c : Option (List ℕ)) → IfSome a (λ bytes. len ≡ length bytes) → Goes (SameOutside ranges) a b → Goes (λ x y. SameElsewhere [] (length_at_sync grown_from (length x)) x y) b c → SureIn ranges len old mid → SureFrom (length_at_sync grown_from len) len mid new → Goes (λ x y. IsDirtySure ranges (length_at_sync grown_from (length x)) new y) a c
dirty_sure ranges grown_from len old mid new None None None long same elsewhere first next = tt
dirty_sure ranges grown_from len old mid new None None (Some z) long same elsewhere first next = elsewhere
dirty_sure ranges grown_from len old mid new None (Some y) c long same elsewhere first next = absurd same
dirty_sure ranges grown_from len old mid new (Some x) None c long same elsewhere first next = absurd same
dirty_sure ranges grown_from len old mid new (Some x) (Some y) None long same elsewhere first next = elsewhere
dirty_sure ranges grown_from len old mid new (Some x) (Some y) (Some z) long same elsewhere first next =
    λ place low why. dirty_place ranges (length_at_sync grown_from (length x)) len place old mid new first
    (rw (← long) next)
    (omega (arith, same.same_length, elsewhere.same_length)) why
