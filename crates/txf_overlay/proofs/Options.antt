-- Lemmas on the later of two, if there is one, and on lists that are filtered.
use Rattle.std.proofs.Common.{◌≡◌, Bool, filter, List, [], ◌∷◌, ◌++◌, Option, Some, None, refl, sym, ap, ◌⊎◌, inl, inr}
use Rattle.std.proofs.lemmas.Bool.{cases_Bool}
use Rattle.std.proofs.lemmas.Option.{none-some}
use Rattle.txf_overlay.specs.Views.{or_before}

pub or_some : {X : Type 0} (a b : Option X) (s : X) → or_before a b ≡ Some s → (a ≡ Some s) ⊎ ((a ≡ None) × (b ≡ Some s))
or_some None b s is = inr (refl, is)
or_some (Some x) b s is = inl is

pub or_none : {X : Type 0} (a b : Option X) → or_before a b ≡ None → (a ≡ None) × (b ≡ None)
or_none None b is = (refl, is)
or_none (Some x) b is = absurd (none-some x (sym is))

pub or-assoc : {X : Type 0} (a b d : Option X) → or_before a (or_before b d) ≡ or_before (or_before a b) d
or-assoc None b d = refl
or-assoc (Some x) b d = refl

pub or-nothing : {X : Type 0} (a : Option X) → or_before a None ≡ a
or-nothing None = refl
or-nothing (Some x) = refl

pub filter-append : {X : Type 0} (test : X → Bool) (xs ys : List X) → filter test (xs ++ ys) ≡ filter test xs ++ filter test ys
filter-append test [] ys = refl
filter-append test (x ∷ xs) ys = elim (cases_Bool (test x)) [
  | inl is ↦ rw is (ap (λ zs. x ∷ zs) (filter-append test xs ys))
  | inr fails ↦ rw fails (filter-append test xs ys)
]
