-- Lemmas on the entries that begin with the characters before a pattern's first star or question mark.
use Rattle.std.proofs.Common.{◌≡◌, ◌⊎◌, ℕ, Bool, true, false, not, cond, filter, eqb, List, [], ◌∷◌, ◌++◌, drop, Option, Some, None, refl, sym, ap, ◌∙◌, inl, inr, arith}
use Rattle.std.specs.List.{slice_get}
use Rattle.std.specs.Prelude.{option_to_list}
use Rattle.std.proofs.lemmas.Option.{same_Some}
use Rattle.std.specs.Ordering.{is_lt, nat_cmp}
use Rattle.std.proofs.lemmas.Bool.{cases_Bool, eqb-true, eq-eqb}
use Rattle.std.proofs.lemmas.Cmp.{nat_cmp_total, tied_itself}
use Rattle.ktm_base.specs.Names.{folded, folded_byte, matches}
use Rattle.ktm_links.specs.Mapped.{name_cmp, IsNotBelow}
use Rattle.ktm_links.proofs.offered.Comparing.{level}
use Rattle.ktm_names.specs.Leading.{is_wild, lead, reaches}
use Rattle.txf_nodes.specs.Children.{Shown, matching}
use Rattle.txf_nodes.specs.Places.{child_name, entries_from}
use Rattle.txf_nodes.proofs.Digits.{number_bytes-alike}
use Rattle.txf_nodes.proofs.Ordered.{AreAscending, IsBefore, IsIn, before_in, not_below}

-- a name that a pattern reaches is not below the characters that it begins with
reached-high : (pattern name : List ℕ) → reaches pattern name ≡ true → IsNotBelow (folded name) (folded (lead pattern))
unfolding reaches lead
reached-high [] [] is = refl
reached-high [] (c ∷ cs) is = absurd (cc)
reached-high (p ∷ ps) [] is = rw is refl
reached-high (p ∷ ps) (c ∷ cs) is = elim (cases_Bool (is_wild p)) [
  | inl wild ↦ rw wild refl
  | inr plain ↦ elim (cases_Bool (eqb (folded_byte p) (folded_byte c))) [
    | inl same ↦
        let equal = eqb-true (folded_byte p) (folded_byte c) same in
        rw (plain, equal, tied_itself nat_cmp_total (folded_byte c)) (reached-high ps cs (rw (plain, same) at is))
    | inr other ↦ absurd (let no = rw (plain, other) at is in cc)
  ]
]

-- what stands between these characters and a name that the pattern reaches, it reaches
reached-between : (pattern name other : List ℕ) → reaches pattern name ≡ true → IsNotBelow (folded other) (folded (lead pattern)) → IsNotBelow (folded name) (folded other)
    → reaches pattern other ≡ true
unfolding reaches lead
reached-between [] [] [] is high low = refl
reached-between [] [] (d ∷ ds) is high low = absurd (cc)
reached-between [] (c ∷ cs) other is high low = absurd (cc)
reached-between (p ∷ ps) [] [] is high low = is
reached-between (p ∷ ps) [] (d ∷ ds) is high low = rw is refl
reached-between (p ∷ ps) (c ∷ cs) [] is high low = elim (cases_Bool (is_wild p)) [
  | inl wild ↦ wild
  | inr plain ↦ absurd (let below = rw plain at high in cc)
]
reached-between (p ∷ ps) (c ∷ cs) (d ∷ ds) is high low = elim (cases_Bool (is_wild p)) [
  | inl wild ↦ rw wild refl
  | inr plain ↦ elim (cases_Bool (eqb (folded_byte p) (folded_byte c))) [
    | inl same ↦
        let equal : folded_byte p ≡ folded_byte c = eqb-true (folded_byte p) (folded_byte c) same in
        elim (level (folded_byte d) (folded_byte p) (name_cmp (folded ds) (folded (lead ps))) (nat_cmp (folded_byte d) (folded_byte p)) refl (rw plain at high)) [
          | inl above ↦
              absurd
              (elim (level (folded_byte c) (folded_byte d) (name_cmp (folded cs) (folded ds)) (nat_cmp (folded_byte c) (folded_byte d)) refl low) [
                | inl below ↦ omega (arith, above, below, equal)
                | inr level ↦ omega (arith, above, level.0, equal)
              ])
          | inr here ↦
              elim (level (folded_byte c) (folded_byte d) (name_cmp (folded cs) (folded ds)) (nat_cmp (folded_byte c) (folded_byte d)) refl low) [
                | inl below ↦ absurd (omega (arith, below, here.0, equal))
                | inr there ↦
                    rw (plain, eq-eqb (folded_byte p) (folded_byte d) (sym here.0)) (reached-between ps cs ds (rw (plain, same) at is) here.1 there.1)
              ]
        ]
    | inr other ↦ absurd (let no = rw (plain, other) at is in cc)
  ]
]

-- the entries rise, and none is below the characters that the pattern's names begin with
pub record IsAhead (pattern : List ℕ) (ss : List Shown) : Type 0 where
  pub rise : AreAscending ss
  pub high : (s : Shown) → IsIn s ss → IsNotBelow (folded s.name) (folded (lead pattern))

-- ---- the entries from these characters on
lead_alike : (directory : ℕ) (pattern name : List ℕ) → name_cmp (child_name directory name) (child_name directory (lead pattern)) ≡ name_cmp (folded name) (folded (lead pattern))
lead_alike directory pattern name = number_bytes-alike directory (folded name) (folded (lead pattern))

-- none before them is matched
pub from_lead : (pattern : List ℕ) (directory : ℕ) (ss : List Shown) → ((name : List ℕ) → reaches pattern name ≡ false → matches pattern name ≡ false)
    → matching pattern (entries_from directory (child_name directory (lead pattern)) ss) ≡ matching pattern ss
from_lead pattern directory [] only = refl
from_lead pattern directory (x ∷ ss) only = elim (cases_Bool (is_lt (name_cmp (child_name directory x.name) (child_name directory (lead pattern))))) [
  | inl below ↦
      let out : matches pattern x.name ≡ false = elim (cases_Bool (reaches pattern x.name)) [
        | inl is ↦ absurd (let high = reached-high pattern x.name is in let low = ap is_lt (sym (lead_alike directory pattern x.name)) ∙ below in cc)
        | inr is ↦ only x.name is
      ] in
      rw (below, out) (from_lead pattern directory ss only)
  | inr high ↦ rw high (ap (λ l. cond (matches pattern x.name) (x ∷ l) l) (from_lead pattern directory ss only))
]

IsBefore-filter : (p : Shown → Bool) (name : List ℕ) (ss : List Shown) → IsBefore name ss → IsBefore name (filter p ss)
IsBefore-filter p name [] before = tt
IsBefore-filter p name (x ∷ ss) before = elim (cases_Bool (p x)) [
  | inl kept ↦ rw kept ((before.0, IsBefore-filter p name ss before.1))
  | inr left ↦ rw left (IsBefore-filter p name ss before.1)
]

pub AreAscending-filter : (p : Shown → Bool) (ss : List Shown) → AreAscending ss → AreAscending (filter p ss)
AreAscending-filter p [] rise = tt
AreAscending-filter p (x ∷ ss) rise = elim (cases_Bool (p x)) [
  | inl kept ↦ rw kept ((IsBefore-filter p x.name ss rise.0, AreAscending-filter p ss rise.1))
  | inr left ↦ rw left (AreAscending-filter p ss rise.1)
]

high-from : (pattern : List ℕ) (directory : ℕ) (ss : List Shown) (s : Shown) → IsIn s (entries_from directory (child_name directory (lead pattern)) ss)
    → IsNotBelow (folded s.name) (folded (lead pattern))
high-from pattern directory [] s there = absurd there
high-from pattern directory (x ∷ ss) s there = elim (cases_Bool (is_lt (name_cmp (child_name directory x.name) (child_name directory (lead pattern))))) [
  | inl below ↦ high-from pattern directory ss s (rw below at there)
  | inr high ↦
      let in_it : (x ≡ s) ⊎ IsIn s (entries_from directory (child_name directory (lead pattern)) ss) = rw high at there in
      elim in_it [
        | inl this ↦ ap (λ (s : Shown). is_lt (name_cmp (folded s.name) (folded (lead pattern)))) (sym this) ∙ ap is_lt (sym (lead_alike directory pattern x.name)) ∙ high
        | inr later ↦ high-from pattern directory ss s later
      ]
]

pub ahead_of_lead : (pattern : List ℕ) (directory : ℕ) (ss : List Shown) → AreAscending ss → IsAhead pattern (entries_from directory (child_name directory (lead pattern)) ss)
ahead_of_lead pattern directory ss rise = record {
  rise = AreAscending-filter (λ entry. not (is_lt (name_cmp (child_name directory entry.name) (child_name directory (lead pattern))))) ss rise;
  high = high-from pattern directory ss;
}

-- the first of entries, and the others
pub first_of : (s : Shown) (ss : List Shown) → Some s ≡ slice_get ss 0 → ss ≡ s ∷ drop 1 ss
first_of s [] is = absurd (cc)
first_of s (x ∷ ss) is = ap (λ x. x ∷ ss) (same_Some x s (sym is))

-- what is taken out, and what is left
pub taken_of : (o : Option Shown) (ss : List Shown) → o ≡ slice_get ss 0 → ss ≡ option_to_list o ++ drop 1 ss
taken_of None [] is = refl
taken_of None (x ∷ ss) is = absurd (cc)
taken_of (Some s) ss is = first_of s ss is

pub none_of : (ss : List Shown) → None ≡ slice_get ss 0 → ss ≡ []
none_of [] is = refl
none_of (x ∷ ss) is = absurd (cc)

-- one is matched, or not
pub matched_next : (pattern : List ℕ) (s : Shown) (ss : List Shown) → matching pattern (s ∷ []) ++ matching pattern ss ≡ matching pattern (s ∷ ss)
matched_next pattern s ss = elim (cases_Bool (matches pattern s.name)) [ inl is ↦ rw is refl | inr out ↦ rw out refl ]

pub ahead_next : (pattern : List ℕ) (s : Shown) (ss : List Shown) → IsAhead pattern (s ∷ ss) → IsAhead pattern ss
ahead_next pattern s ss ahead = record { rise = ahead.rise.1; high = λ x there. ahead.high x (inr there) }

-- behind one that it does not reach it matches none
pub none_ahead : (pattern : List ℕ) (s : Shown) (ss : List Shown) → ((name : List ℕ) → reaches pattern name ≡ false → matches pattern name ≡ false)
    → IsAhead pattern (s ∷ ss) → reaches pattern s.name ≡ false → matching pattern (s ∷ ss) ≡ []
none_ahead pattern s ss only ahead out = rw (only s.name out) (go ss (λ x there. x_out x there))
  where
    x_out : (x : Shown) → IsIn x ss → matches pattern x.name ≡ false
    x_out x there = elim (cases_Bool (reaches pattern x.name)) [
      | inl is ↦
          absurd
          (let between =
          reached-between pattern x.name s.name is (ahead.high s (inl refl)) (not_below (folded s.name) (folded x.name) (before_in s.name x ss ahead.rise.0 there)) in
          cc)
      | inr x_is ↦ only x.name x_is
    ]

    go : (xs : List Shown) → ((x : Shown) → IsIn x xs → matches pattern x.name ≡ false) → matching pattern xs ≡ []
    go [] none = refl
    go (x ∷ xs) none = rw (none x (inl refl)) (go xs (λ y there. none y (inr there)))
