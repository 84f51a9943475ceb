-- Lemmas on entries in the order of their folded names, and on those from a place on.
use Rattle.std.proofs.Common.{◌≡◌, ◌⊎◌, ℕ, ◌<◌, false, List, [], ◌∷◌, ◌++◌, map, refl, sym, ap, ◌∙◌, inl, inr, arith}
use Rattle.std.specs.Ordering.{is_lt, nat_cmp, ordering_reverse}
use Rattle.std.specs.declared.cmp.Ordering.{Ordering}
use Rattle.std.specs.declared.cmp.Ordering.TheVariants.{Less, Equal, Greater}
use Rattle.std.proofs.lemmas.Bool.{cases_Bool}
use Rattle.std.proofs.lemmas.Cmp.{nat_cmp_total, nat_list_cmp_total, ranked, tied_back}
use Rattle.ktm_base.specs.Names.{folded}
use Rattle.ktm_links.specs.Mapped.{name_cmp, IsNotBelow}
use Rattle.ktm_links.proofs.offered.Names.{begins_not_below, name_equal, turned}
use Rattle.txf_nodes.specs.Children.{Shown}
use Rattle.txf_nodes.specs.Places.{after_child, child_name, entries_from, number_bytes}
use Rattle.txf_nodes.proofs.Digits.{number_bytes-alike}
use Rattle.ktm_links.proofs.offered.Comparing.{below_next, not_below_upto}

-- ---- the order of names

-- a name above another is not below it
pub not_below : (a b : List ℕ) → name_cmp a b ≡ Less → IsNotBelow b a
not_below a b less = let greater : name_cmp b a ≡ Greater = nat_list_cmp_total.antisymm b a ∙ ap ordering_reverse less in rw greater refl

-- a name above another is not below the one right after that
pub above_next : (name other : List ℕ) → name_cmp name other ≡ Less → IsNotBelow other (name ++ 0 ∷ [])
above_next [] [] less = absurd (cc)
above_next (a ∷ cs) [] less = absurd (cc)
above_next [] (b ∷ bs) less = first_above b bs (nat_cmp b 0) refl
  where
    first_above : (b : ℕ) (bs : List ℕ) (o : Ordering) → o ≡ nat_cmp b 0 → IsNotBelow (b ∷ bs) (0 ∷ [])
    first_above b bs Less is = let no : b < 0 = ranked b 0 Less is in absurd (omega arith)
    first_above b [] Equal is = rw (← is) refl
    first_above b (d ∷ ds) Equal is = rw (← is) refl
    first_above b bs Greater is = rw (← is) refl
above_next (a ∷ cs) (b ∷ bs) less = by_first a b cs bs (nat_cmp a b) refl (above_next cs bs) less
  where
    by_first : (a b : ℕ) (cs bs : List ℕ) (o : Ordering) → nat_cmp a b ≡ o → (name_cmp cs bs ≡ Less → IsNotBelow bs (cs ++ 0 ∷ []))
        → name_cmp (a ∷ cs) (b ∷ bs) ≡ Less → IsNotBelow (b ∷ bs) (a ∷ (cs ++ 0 ∷ []))
    by_first a b cs bs Less is rest less = let greater : nat_cmp b a ≡ Greater = nat_cmp_total.antisymm b a ∙ ap ordering_reverse is in rw greater refl
    by_first a b cs bs Equal is rest less = rw (tied_back nat_cmp_total a b is) (rest (rw is at less))
    by_first a b cs bs Greater is rest less = absurd (let no = rw is at less in cc)

-- which of two different names is below the other
pub greater_from : (a b : List ℕ) → is_lt (name_cmp a b) ≡ false → (a ≡ b → ⊥) → name_cmp b a ≡ Less
greater_from a b not_less differs = by_order (name_cmp a b) refl not_less
  where
    by_order : (o : Ordering) → name_cmp a b ≡ o → is_lt o ≡ false → name_cmp b a ≡ Less
    by_order Less is not_less = absurd (cc)
    by_order Equal is not_less = absurd (differs (name_equal a b is))
    by_order Greater is not_less = turned a b is

-- ---- members
abbrev pub IsIn : {X : Type 0} → X → List X → Type 0
IsIn x [] = ⊥
IsIn x (y ∷ ys) = (y ≡ x) ⊎ IsIn x ys

pub in-map : {X Y : Type 0} (f : X → Y) (x : X) (xs : List X) → IsIn x xs → IsIn (f x) (map f xs)
in-map f x [] there = absurd there
in-map f x (y ∷ ys) (inl is) = inl (ap f is)
in-map f x (y ∷ ys) (inr later) = inr (in-map f x ys later)

pub of-map : {X Y : Type 0} (f : X → Y) (y : Y) (xs : List X) → IsIn y (map f xs) → (x : X) × (f x ≡ y) × IsIn x xs
of-map f y [] there = absurd there
of-map f y (x ∷ xs) (inl is) = (x, is, inl refl)
of-map f y (x ∷ xs) (inr later) = let rest = of-map f y xs later in (rest.0, rest.1, inr rest.2)

-- ---- entries in order
-- the name is below those of the entries
abbrev pub IsBefore : List ℕ → List Shown → Type 0
IsBefore name [] = Unit {0}
IsBefore name (s ∷ ss) = (name_cmp (folded name) (folded s.name) ≡ Less) × IsBefore name ss

abbrev pub AreAscending : List Shown → Type 0
AreAscending [] = Unit {0}
AreAscending (s ∷ ss) = IsBefore s.name ss × AreAscending ss

pub before_in : (name : List ℕ) (s : Shown) (ss : List Shown) → IsBefore name ss → IsIn s ss → name_cmp (folded name) (folded s.name) ≡ Less
before_in name s [] before there = absurd there
before_in name s (x ∷ ss) before there = elim there [ inl same ↦ rw (← same) before.0 | inr rest ↦ before_in name s ss before.1 rest ]

pub IsBefore-lower : (name other : List ℕ) (ss : List Shown) → name_cmp (folded name) (folded other) ≡ Less → IsBefore other ss → IsBefore name ss
IsBefore-lower name other [] less before = tt
IsBefore-lower name other (s ∷ ss) less before = (
  nat_list_cmp_total.trans (folded name) (folded other) (folded s.name) less before.0,
  IsBefore-lower name other ss less before.1,
)

-- ---- entries from a place on
pub key_less : (directory : ℕ) (a b : List ℕ) → name_cmp (folded a) (folded b) ≡ Less → name_cmp (child_name directory a) (child_name directory b) ≡ Less
key_less directory a b less = number_bytes-alike directory (folded a) (folded b) ∙ less

pub entries_from-all : (directory : ℕ) (from : List ℕ) (ss : List Shown) → ((s : Shown) → IsIn s ss → IsNotBelow (child_name directory s.name) from)
    → entries_from directory from ss ≡ ss
entries_from-all directory from [] all = refl
entries_from-all directory from (x ∷ ss) all = rw (all x (inl refl)) (ap (λ l. x ∷ l) (entries_from-all directory from ss (λ s there. all s (inr there))))

pub entries_from-none : (directory : ℕ) (from : List ℕ) (ss : List Shown) → ((s : Shown) → IsIn s ss → IsNotBelow (child_name directory s.name) from → ⊥)
    → entries_from directory from ss ≡ []
entries_from-none directory from [] none = refl
entries_from-none directory from (x ∷ ss) none =
    elim (cases_Bool (is_lt (name_cmp (child_name directory x.name) from))) [
      | inl below ↦ rw below (entries_from-none directory from ss (λ s there. none s (inr there)))
      | inr high ↦ absurd (none x (inl refl) high)
    ]

-- the first of them, and then those behind it
pub entries_from-first : (directory : ℕ) (from : List ℕ) (s : Shown) (ss : List Shown) → AreAscending ss → IsIn s ss → IsNotBelow (child_name directory s.name) from
    → ((x : Shown) → IsIn x ss → IsNotBelow (child_name directory x.name) from → IsNotBelow (child_name directory x.name) (child_name directory s.name))
    → entries_from directory from ss ≡ s ∷ entries_from directory (after_child directory s.name) ss
entries_from-first directory from s [] ascending there so first = absurd there
entries_from-first directory from s (x ∷ ss) ascending there so first =
    elim (cases_Bool (is_lt (name_cmp (child_name directory x.name) from))) [
      | inl below ↦
          elim there [
            | inl this ↦ absurd (let high = rw (← this) at so in cc)
            | inr rest ↦
                let less = key_less directory x.name s.name (before_in x.name s ss ascending.0 rest) in
                let next =
                nat_list_cmp_total.trans (child_name directory x.name) (child_name directory s.name) (after_child directory s.name) less
                (below_next (child_name directory s.name)) in
                rw (below, next) (entries_from-first directory from s ss ascending.1 rest so (λ y later. first y (inr later)))
          ]
      | inr high ↦
          elim there [
            | inl this ↦
                let next : name_cmp (child_name directory x.name) (after_child directory s.name) ≡ Less =
                ap (λ (x : Shown). name_cmp (child_name directory x.name) (after_child directory s.name)) this ∙ below_next (child_name directory s.name) in
                let above : (y : Shown) → IsIn y ss → name_cmp (child_name directory s.name) (child_name directory y.name) ≡ Less = λ y later.
                ap (λ (x : Shown). name_cmp (child_name directory x.name) (child_name directory y.name)) (sym this)
                ∙ key_less directory x.name y.name (before_in x.name y ss ascending.0 later) in
                rw (high, next)
                (ap (λ (x : Shown). x ∷ entries_from directory from ss) this
                ∙ ap (λ l. s ∷ l)
                (entries_from-all directory from ss
                (λ y later. not_below_upto (child_name directory y.name) (child_name directory s.name) from
                (not_below (child_name directory s.name) (child_name directory y.name) (above y later)) so)
                ∙ sym (entries_from-all directory (after_child directory s.name) ss
                (λ y later. above_next (child_name directory s.name) (child_name directory y.name) (above y later)))))
            | inr rest ↦
                let less = key_less directory x.name s.name (before_in x.name s ss ascending.0 rest) in
                let no : IsNotBelow (child_name directory x.name) (child_name directory s.name) = first x (inl refl) high in
                absurd (let yes = rw less at no in cc)
          ]
    ]

-- no entry of the directory is below the bytes of its number
pub entries_begun : (directory : ℕ) (ss : List Shown) → entries_from directory (number_bytes directory) ss ≡ ss
entries_begun directory ss = entries_from-all directory (number_bytes directory) ss (λ s there. begins_not_below (number_bytes directory) (folded s.name))
