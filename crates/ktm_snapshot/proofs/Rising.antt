-- Things that rise: fronts of such lists, and one thing more.
use Rattle.std.proofs.Common.{◌≡◌, ℕ, ◌&&◌, Bool, true, false, nat_lt, List, [], ◌∷◌, ◌++◌, inl, inr, refl, ◌∙◌, ap}
use Rattle.std.specs.List.{list_all}
use Rattle.std.proofs.lemmas.Bool.{and_parts, and_from}
use Rattle.ktm_keyed.specs.declared.keyed.Keyed.{Keyed}
use Rattle.ktm_keyed.specs.Keyed.{comes_before, comes_first, is_rising}
use Rattle.ktm_world.specs.declared.recorded.Node.{Node}
use Rattle.ktm_world.specs.Durable.{Recorded, is_before}
use Rattle.ktm_world.specs.Tree.{numbers_rise}
use Rattle.txf_laws.specs.Elements.{IsIn, each_pair}
use Rattle.txf_laws.proofs.offered.Elements.{each_pair-left, list_all-at}
use Rattle.txf_laws.proofs.offered.Tables.{is_before-then}
use Rattle.ktm_snapshot.specs.Pieces.{RisesByLast}
use Rattle.ktm_snapshot.specs.StateGrammar.{transactions_rise}

-- a front of a list that rises does so too
abbrev pub FrontsRise : {X : Type 0} → (List X → Bool) → Type 0
FrontsRise {X} rises = (xs ys : List X) → rises (xs ++ ys) ≡ true → rises xs ≡ true

pub numbers_front : FrontsRise numbers_rise
numbers_front [] ys all = refl
numbers_front (x ∷ []) ys all = refl
numbers_front (x ∷ y ∷ xs) ys all =
    let both = and_parts (nat_lt x.number y.number) _ all in
    and_from _ _ both.0 (numbers_front (y ∷ xs) ys both.1)

comes_first-front : (key : List ℕ) (xs ys : List (Keyed (List ℕ))) → comes_first key (xs ++ ys) ≡ true → comes_first key xs ≡ true
comes_first-front key [] ys first = refl
comes_first-front key (x ∷ xs) ys first = first

pub keys_front : FrontsRise (is_rising {V = List ℕ})
keys_front [] ys all = refl
keys_front (x ∷ xs) ys all =
    let both = and_parts (comes_first x.key (xs ++ ys)) _ all in
    and_from _ _ (comes_first-front x.key xs ys both.0) (keys_front xs ys both.1)

pub managers_front : FrontsRise (each_pair is_before)
managers_front = each_pair-left is_before

pub transactions_front : FrontsRise transactions_rise
transactions_front = each_pair-left (λ (t u : Recorded). is_before t.id u.id)

-- ---- one thing more

and_turned : (b : Bool) → (b && true) ≡ b
and_turned true = refl
and_turned false = refl

and_grouped : (p q r : Bool) → (p && (q && r)) ≡ ((p && q) && r)
and_grouped true q r = refl
and_grouped false q r = refl

pub numbers_by_last : RisesByLast numbers_rise (λ (a b : Node). nat_lt a.number b.number)
numbers_by_last [] last x = and_turned (nat_lt last.number x.number)
numbers_by_last (a ∷ []) last x =
    ap (λ (t : Bool). nat_lt a.number last.number && t) (numbers_by_last [] last x) ∙ and_grouped (nat_lt a.number last.number) true (nat_lt last.number x.number)
numbers_by_last (a ∷ b ∷ xs) last x =
    ap (λ (t : Bool). nat_lt a.number b.number && t) (numbers_by_last (b ∷ xs) last x)
    ∙ and_grouped (nat_lt a.number b.number) (numbers_rise ((b ∷ xs) ++ last ∷ [])) (nat_lt last.number x.number)

first_stays : (key : List ℕ) (xs : List (Keyed (List ℕ))) (last x : Keyed (List ℕ)) → comes_first key ((xs ++ last ∷ []) ++ x ∷ []) ≡ comes_first key (xs ++ last ∷ [])
first_stays key [] last x = refl
first_stays key (b ∷ xs) last x = refl

pub keys_by_last : RisesByLast (is_rising {V = List ℕ}) (λ (a b : Keyed (List ℕ)). comes_before a.key b.key)
keys_by_last [] last x = and_turned (comes_before last.key x.key)
keys_by_last (a ∷ xs) last x =
    ap (λ (t : Bool). t && is_rising ((xs ++ last ∷ []) ++ x ∷ [])) (first_stays a.key xs last x)
    ∙ ap (λ (t : Bool). comes_first a.key (xs ++ last ∷ []) && t) (keys_by_last xs last x)
    ∙ and_grouped (comes_first a.key (xs ++ last ∷ [])) (is_rising (xs ++ last ∷ [])) (comes_before last.key x.key)

module _ {X : Type 0} (before : X → X → Bool) (through : (a b c : X) → before a b ≡ true → before b c ≡ true → before a c ≡ true) where
  all_append : (test : X → Bool) (xs ys : List X) → list_all test (xs ++ ys) ≡ (list_all test xs && list_all test ys)
  all_append test [] ys = refl
  all_append test (x ∷ xs) ys = ap (λ (t : Bool). test x && t) (all_append test xs ys) ∙ and_grouped (test x) (list_all test xs) (list_all test ys)

  last_in : (xs : List X) (last : X) → IsIn last (xs ++ last ∷ [])
  last_in [] last = inl refl
  last_in (x ∷ xs) last = inr (last_in xs last)

  -- the first comes before the one behind the last, where it comes before the last and that one before it
  step : (all behind pairs next : Bool) → (all ≡ true → next ≡ true → behind ≡ true) → ((all && (behind && true)) && (pairs && next)) ≡ ((all && pairs) && next)
  step false behind pairs next so = refl
  step true true pairs next so = refl
  step true false true true so = so refl refl
  step true false true false so = refl
  step true false false next so = refl

  pub pairs_by_last : RisesByLast (each_pair before) before
  pairs_by_last [] last x = ap (λ (t : Bool). t && true) (and_turned (before last x)) ∙ and_turned (before last x)
  pairs_by_last (a ∷ xs) last x =
      ap (λ (t : Bool). t && each_pair before ((xs ++ last ∷ []) ++ x ∷ [])) (all_append (before a) (xs ++ last ∷ []) (x ∷ []))
      ∙ ap (λ (t : Bool). (list_all (before a) (xs ++ last ∷ []) && (before a x && true)) && t) (pairs_by_last xs last x)
      ∙ step (list_all (before a) (xs ++ last ∷ [])) (before a x) (each_pair before (xs ++ last ∷ [])) (before last x)
      (λ all next. through a last x (list_all-at (before a) (xs ++ last ∷ []) all last (last_in xs last)) next)

pub managers_by_last : RisesByLast (each_pair is_before) is_before
managers_by_last = pairs_by_last is_before is_before-then

pub transactions_by_last : RisesByLast transactions_rise (λ (t u : Recorded). is_before t.id u.id)
transactions_by_last = pairs_by_last (λ (t u : Recorded). is_before t.id u.id) (λ t u v. is_before-then t.id u.id v.id)
