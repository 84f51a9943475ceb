-- Values are found by their words among those whose words are as long.
use Rattle.std.proofs.Common.{◌≡◌, ◌≢◌, ◌==◌, ℕ, true, false, List, [], ◌∷◌, length, filter, bytes_eq, refl, ap, inl, inr, arith}
use Rattle.std.specs.List.{AllByRecursion}
use Rattle.std.proofs.lemmas.Bool.{cases_Bool}
use Rattle.std.proofs.lemmas.Slice.Eq.{bytes_eq-Decides}
use Rattle.ktm_script.specs.Reading.{by_word}

unequal : (a b : ℕ) → a ≢ b → (a == b) ≡ false
unequal a b other = grind arith

equal : (a b : ℕ) → a ≡ b → (a == b) ≡ true
equal a b same = grind arith

-- none of the values has a word of this length
pub filter-none : {X : Type 0} (size : X → ℕ) (len : ℕ) (values : List X) → AllByRecursion (λ value. size value ≢ len) values → filter (λ value. size value == len) values ≡ []
filter-none size len [] none = refl
filter-none size len (v ∷ vs) none = rw (unequal (size v) len none.0) (filter-none size len vs none.1)

pub by_word-as_long : {X : Type 0} (spell : X → List ℕ) (values : List X) (word : List ℕ)
    → by_word spell (filter (λ value. length (spell value) == length word) values) word ≡ by_word spell values word
unfolding by_word
by_word-as_long spell [] word = refl
by_word-as_long spell (v ∷ vs) word = elim (cases_Bool (bytes_eq (spell v) word)) [
  | inl same ↦
      let long = equal (length (spell v)) (length word) (ap length ((bytes_eq-Decides (spell v) word).0 same)) in
      rw (long, same) refl
  | inr other ↦ elim (cases_Bool (length (spell v) == length word)) [
    | inl long ↦ rw (long, other) (by_word-as_long spell vs word)
    | inr short ↦ rw (short, other) (by_word-as_long spell vs word)
  ]
]
