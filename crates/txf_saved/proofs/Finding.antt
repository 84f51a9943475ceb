-- Where a search by halves ends among nodes whose numbers rise.
use Rattle.std.proofs.Common.{◌≡◌, ℕ, ◌+◌, ◌<◌, ◌-◌, ◌&&◌, zero, suc, Bool, true, false, List, [], ◌∷◌, ◌++◌, length, get_or, Some, None, refl, sym, ◌∙◌, ap, arith, inl, inr, nat_cmp, add-one}
use Rattle.std.specs.Prelude.{Ok, Err, nat_lt, slice_get}
use Rattle.std.specs.List.Sorted.{IsBinarySearchResult, IsSortedBy}
use Rattle.std.specs.Ordering.{is_lt}
use Rattle.std.specs.declared.cmp.Ordering.TheVariants.{Equal}
use Rattle.std.proofs.lemmas.Bool.{and_parts, cases_order, eq-eqb, ne_eqb}
use Rattle.std.proofs.lemmas.Cmp.{nat_cmp_total, ranked}
use Rattle.std.proofs.lemmas.List.Sorted.{searchable_from_sorted}
use Rattle.std.proofs.lemmas.Option.{none-some}
use Rattle.ktm_snapshot.specs.declared.node.ReadNode.{ReadNode}
use Rattle.ktm_snapshot.specs.Shown.{node_read}
use Rattle.ktm_world.specs.Tree.{node_at, numbers_rise}
use Rattle.ktm_world.proofs.offered.Lookups.{Above, Rises, Rises-from}
use Rattle.txf_saved.specs.Making.{nodes_of}

-- a node further on has a greater number
above_at : (xs : List ReadNode) (n i : ℕ) (d : ReadNode) → Above n (nodes_of xs) → i < length xs → n < (get_or xs i d).number
above_at [] n i d above within = absurd (omega (arith, within))
above_at (x ∷ xs) n zero d above within = above.0
above_at (x ∷ xs) n (suc i) d above within = above_at xs n i d above.1 (omega (arith, within))

at_place : (xs : List ReadNode) (n i : ℕ) (d : ReadNode) → Rises (nodes_of xs) → i < length xs → (get_or xs i d).number ≡ n → node_at (nodes_of xs) n ≡ Some (node_read (get_or xs i d))
at_place [] n i d rises within is = absurd (omega (arith, within))
at_place (x ∷ xs) n zero d rises within is = rw (eq-eqb x.number n is) refl
at_place (x ∷ xs) n (suc i) d rises within is =
    rw (ne_eqb x.number n (λ e. omega (arith, e, is, above_at xs x.number i d rises.0 (omega (arith, within))))) (at_place xs n i d rises.1 (omega (arith, within)) is)

at_none : (xs : List ReadNode) (n : ℕ) → ((k : ℕ) (d : ReadNode) → k < length xs → (get_or xs k d).number ≡ n → ⊥) → node_at (nodes_of xs) n ≡ None
at_none [] n others = refl
at_none (x ∷ xs) n others = rw (ne_eqb x.number n (others 0 x (omega arith))) (at_none xs n (λ k d within. others (suc k) d (omega (arith, within))))

not_less : (m n : ℕ) → n < m → is_lt (nat_cmp m n) ≡ false
not_less m n high =
    let past : nat_lt m n ≡ false = search (arith, high) in
    rw (past, ne_eqb m n (λ e. omega (arith, e, high))) refl

next_after : (xs : List ReadNode) → Rises (nodes_of xs) → (k : ℕ) (d : ReadNode) → suc k < length xs → is_lt (nat_cmp (get_or xs (suc k) d).number (get_or xs k d).number) ≡ false
next_after [] rises k d within = absurd (omega (arith, within))
next_after (x ∷ xs) rises zero d within = not_less _ _ (above_at xs x.number 0 d rises.0 (omega (arith, within)))
next_after (x ∷ xs) rises (suc k) d within = next_after xs rises.1 k d (omega (arith, within))

sorted : (xs : List ReadNode) → Rises (nodes_of xs) → IsSortedBy (λ (a b : ReadNode). is_lt (nat_cmp a.number b.number)) xs
sorted xs rises k d low within = rw (add-one k) (next_after xs rises k d (omega (arith, within)))

-- the one that was found has the number
pub found : (xs : List ReadNode) (n i : ℕ) (d : ReadNode) → numbers_rise (nodes_of xs) ≡ true → i < length xs → IsBinarySearchResult (λ (x : ReadNode). nat_cmp x.number n) xs (Ok i)
    → node_at (nodes_of xs) n ≡ Some (node_read (get_or xs i d))
found xs n i d rise within result = at_place xs n i d (Rises-from _ rise) within (equal (get_or xs i d).number n (result d))
  where
    equal : (m n : ℕ) → nat_cmp m n ≡ Equal → m ≡ n
    equal m n is = let split = ranked m n (nat_cmp m n) refl in rw is at split

-- none has it where none was found
pub missing : (xs : List ReadNode) (n i : ℕ) → numbers_rise (nodes_of xs) ≡ true → IsBinarySearchResult (λ (x : ReadNode). nat_cmp x.number n) xs (Err i) → node_at (nodes_of xs) n ≡ None
missing xs n i rise result =
    let point = result (searchable_from_sorted nat_cmp_total (λ (x : ReadNode). x.number) xs n (sorted xs (Rises-from _ rise))) in
    at_none xs n (λ k d within is. elim (cases_order k i) [
      | inl e ↦ let more = point.1 k d (omega (arith, e)) within in absurd (let tied = ranked (get_or xs k d).number n _ refl in omega (arith, rw more at tied, is))
      | inr (inl low) ↦ let less = point.0 k d (omega arith) low in absurd (let tied = ranked (get_or xs k d).number n _ refl in omega (arith, rw less at tied, is))
      | inr (inr high) ↦ let more = point.1 k d (omega (arith, high)) within in absurd (let tied = ranked (get_or xs k d).number n _ refl in omega (arith, rw more at tied, is))
    ])

-- whether numbers still rise is told by the last one
pub last_of : (xs : List ReadNode) (x last d : ReadNode) (i : ℕ) → i + 1 ≡ length xs → get_or xs i d ≡ last → numbers_rise (nodes_of xs) ≡ true → numbers_rise (nodes_of (xs ++ x ∷ [])) ≡ nat_lt last.number x.number
last_of [] x last d i one is rise = absurd (omega (arith, one))
last_of (y ∷ []) x last d zero one is rise = go (nat_lt y.number x.number) ∙ ap (λ (n : ReadNode). nat_lt n.number x.number) is
  where
    go : (b : Bool) → (b && true) ≡ b
    go true = refl
    go false = refl
last_of (y ∷ []) x last d (suc i) one is rise = absurd (omega (arith, one))
last_of (y ∷ z ∷ zs) x last d zero one is rise = absurd (omega (arith, one))
last_of (y ∷ z ∷ zs) x last d (suc i) one is rise =
    let parts = and_parts (nat_lt y.number z.number) (numbers_rise (nodes_of (z ∷ zs))) rise in
    rw parts.0 (last_of (z ∷ zs) x last d i (omega (arith, one)) is parts.1)

pub some_left : (xs : List ReadNode) (x : ReadNode) → slice_get xs (length xs - 1) ≡ Some x → length xs - 1 + 1 ≡ length xs
some_left [] x is = absurd (none-some x is)
some_left (y ∷ ys) x is = omega arith

some_at : (xs : List ReadNode) (i : ℕ) → i < length xs → slice_get xs i ≡ None → ⊥
some_at [] i within none = omega (arith, within)
some_at (x ∷ xs) zero within none = none-some x (sym none)
some_at (x ∷ xs) (suc i) within none = some_at xs i (omega (arith, within)) none

pub first_of : (xs : List ReadNode) (x : ReadNode) → slice_get xs (length xs - 1) ≡ None → numbers_rise (nodes_of (xs ++ x ∷ [])) ≡ true
first_of [] x none = refl
first_of (y ∷ ys) x none = absurd (some_at (y ∷ ys) (length (y ∷ ys) - 1) (omega arith) none)

-- each of the nodes is found by its number
pub at_its_number : (xs : List ReadNode) (i : ℕ) (d : ReadNode) → numbers_rise (nodes_of xs) ≡ true → i < length xs → node_at (nodes_of xs) (get_or xs i d).number ≡ Some (node_read (get_or xs i d))
at_its_number xs i d rise within = at_place xs _ i d (Rises-from _ rise) within refl
