-- Lemmas on the map of names, as nodes come, go or change.
use Rattle.std.proofs.Common.{◌≡◌, ◌⊎◌, ℕ, ◌≤◌, true, eqb, nat_lt, List, [], ◌∷◌, length, Some, None, refl, sym, ap, ◌∙◌, inl, inr}
use Rattle.std.specs.Ordering.{is_eq}
use Rattle.std.proofs.lemmas.Bool.{cases_Bool, cases_eq, eqb-false}
use Rattle.std.proofs.lemmas.Option.{same_Some}
use Rattle.ktm_base.specs.declared.limits.TheConstants.{MOST_NAME_BYTES}
use Rattle.ktm_world.specs.Tree.{root}
use Rattle.ktm_links.specs.Mapped.{NamedItem, name_cmp}
use Rattle.ktm_links.proofs.offered.Names.{from_is_eq, name_equal, name_same}
use Rattle.txf_nodes.specs.Indexes.{AreNamed, IsNamedAt, IsTree, name_of, replaced, under, with_now, without_now}
use Rattle.txf_nodes.specs.NodesState.{NodeOf, now_at}
use Rattle.txf_nodes.proofs.Changing.{AreRising-replaced, AreRising-with, AreRising-without, now_at-replaced_other, now_at-replaced_same, now_at-with_other, now_at-with_same, now_at-without_other}
use Rattle.txf_nodes.proofs.Naming.{named_now, numbered_now}

cases_name : (a b : List ℕ) → (a ≡ b) ⊎ (a ≡ b → ⊥)
cases_name a b =
    elim (cases_Bool (is_eq (name_cmp a b))) [
      | inl same ↦ inl (name_equal a b (from_is_eq (name_cmp a b) same))
      | inr differs ↦ inr (λ same. absurd (let is : is_eq (name_cmp a b) ≡ true = rw (same, name_same b) refl in cc))
    ]

none_some : (names : List (NamedItem ℕ)) (a b : List ℕ) (n : ℕ) → a ≡ b → under names a ≡ None → under names b ≡ Some n → ⊥
none_some names a b n same none some = absurd (let is = rw same at none in cc)

module _ {V : Type 0} where
  -- of no node nothing is asked
  pub IsTree-none : IsTree {V = V} [] []
  IsTree-none = record { rising = tt; no_root = refl; named = tt; only = λ name number is. absurd (cc) }

  -- no node has the root's number
  not_root : (nodes : List (NodeOf V)) (names : List (NamedItem ℕ)) (n : ℕ) (s : NodeOf V) → IsTree nodes names → now_at nodes n ≡ Some s → root ≡ n → ⊥
  not_root nodes names n s tree found same = absurd (let none = rw same at tree.no_root in cc)

  -- ---- a node that keeps its name
  AreNamed-replaced : (names : List (NamedItem ℕ)) (nodes : List (NodeOf V)) (n : ℕ) (x : NodeOf V) → AreNamed names nodes → IsNamedAt names x → AreNamed names (replaced nodes n x)
  AreNamed-replaced names [] n x all at = tt
  AreNamed-replaced names (y ∷ ys) n x all at =
      elim (cases_Bool (eqb y.number n)) [
        | inl same ↦ rw same ((at, AreNamed-replaced names ys n x all.1 at))
        | inr differs ↦ rw differs ((all.0, AreNamed-replaced names ys n x all.1 at))
      ]

  -- a node with the same number, directory and name stands where it stood
  pub IsTree-replaced : (nodes : List (NodeOf V)) (names : List (NamedItem ℕ)) (n : ℕ) (s x : NodeOf V) → IsTree nodes names → now_at nodes n ≡ Some s
      → x.number ≡ n → x.parent ≡ s.parent → x.name ≡ s.name → IsTree (replaced nodes n x) names
  IsTree-replaced nodes names n s x tree found number parent name =
      let at = named_now names nodes n s tree.named found in
      let named : name_of x ≡ name_of s = rw (parent, name) refl in
      record {
        rising = AreRising-replaced nodes n x tree.rising number;
        no_root = now_at-replaced_other nodes n root x (not_root nodes names n s tree found) number ∙ tree.no_root;
        named =
            AreNamed-replaced names nodes n x tree.named
            (record {
              few = rw name at.few;
              under = ap (under names) named ∙ at.under ∙ ap Some (numbered_now nodes n s found ∙ sym number);
            });
        only = λ q k is.
            let old = tree.only q k is in
            elim (cases_eq k n) [
              | inl same ↦
                  let one : old.0 ≡ s = same_Some old.0 s (sym old.1 ∙ ap (now_at nodes) same ∙ found) in
                  (x, ap (now_at (replaced nodes n x)) same ∙ now_at-replaced_same nodes n s x found number, named ∙ ap (λ (s : NodeOf V). name_of s) (sym one) ∙ old.2)
              | inr other ↦ (old.0, now_at-replaced_other nodes n k x other number ∙ old.1, old.2)
            ];
      }

  -- ---- a node that gets another name
  AreNamed-renamed : (names new : List (NamedItem ℕ)) (nodes : List (NodeOf V)) (n : ℕ) (was : List ℕ) (x : NodeOf V) → AreNamed names nodes → IsNamedAt new x
      → under names was ≡ Some n → under names (name_of x) ≡ None
      → ((q : List ℕ) → (q ≡ was → ⊥) → (q ≡ name_of x → ⊥) → under new q ≡ under names q) → AreNamed new (replaced nodes n x)
  AreNamed-renamed names new [] n was x all at old free others = tt
  AreNamed-renamed names new (y ∷ ys) n was x all at old free others =
      elim (cases_Bool (eqb y.number n)) [
        | inl same ↦ rw same ((at, AreNamed-renamed names new ys n was x all.1 at old free others))
        | inr differs ↦
            let apart : name_of y ≡ was → ⊥ = λ is.
            eqb-false y.number n differs (same_Some y.number n (sym all.0.under ∙ ap (under names) is ∙ old)) in
            let not_new : name_of y ≡ name_of x → ⊥ = λ is. none_some names (name_of x) (name_of y) y.number (sym is) free all.0.under in
            rw differs
            ((
              record { few = all.0.few; under = others (name_of y) apart not_new ∙ all.0.under },
              AreNamed-renamed names new ys n was x all.1 at old free others,
            ))
      ]

  -- a node stands under its new name, and no more under the one that it had
  pub IsTree-renamed : (nodes : List (NodeOf V)) (names new : List (NamedItem ℕ)) (n : ℕ) (s x : NodeOf V) → IsTree nodes names → now_at nodes n ≡ Some s
      → x.number ≡ n → length x.name ≤ MOST_NAME_BYTES → under names (name_of x) ≡ None → under new (name_of x) ≡ Some n → under new (name_of s) ≡ None
      → ((q : List ℕ) → (q ≡ name_of s → ⊥) → (q ≡ name_of x → ⊥) → under new q ≡ under names q) → IsTree (replaced nodes n x) new
  IsTree-renamed nodes names new n s x tree found number few free here gone others =
      let at = named_now names nodes n s tree.named found in
      let old : under names (name_of s) ≡ Some n = at.under ∙ ap Some (numbered_now nodes n s found) in
      record {
        rising = AreRising-replaced nodes n x tree.rising number;
        no_root = now_at-replaced_other nodes n root x (not_root nodes names n s tree found) number ∙ tree.no_root;
        named =
            AreNamed-renamed names new nodes n (name_of s) x tree.named (record { few = few; under = here ∙ ap Some (sym number) }) old free others;
        only = λ q k is.
            elim (cases_name q (name_of x)) [
              | inl new_name ↦
                  let same : n ≡ k = same_Some n k (sym here ∙ ap (under new) (sym new_name) ∙ is) in
                  (x, ap (now_at (replaced nodes n x)) (sym same) ∙ now_at-replaced_same nodes n s x found number, sym new_name)
              | inr not_new ↦
                  elim (cases_name q (name_of s)) [
                    | inl old_name ↦ absurd (none_some new (name_of s) q k (sym old_name) gone is)
                    | inr not_old ↦
                        let was = tree.only q k (sym (others q not_old not_new) ∙ is) in
                        let other : k ≡ n → ⊥ = λ same.
                        let one : was.0 ≡ s = same_Some was.0 s (sym was.1 ∙ ap (now_at nodes) same ∙ found) in
                        not_old (sym was.2 ∙ ap (λ (s : NodeOf V). name_of s) one) in
                        (was.0, now_at-replaced_other nodes n k x other number ∙ was.1, was.2)
                  ]
            ];
      }

  -- ---- one node more
  AreNamed-kept : (names new : List (NamedItem ℕ)) (nodes : List (NodeOf V)) (name : List ℕ) → AreNamed names nodes → under names name ≡ None
      → ((q : List ℕ) → (q ≡ name → ⊥) → under new q ≡ under names q) → AreNamed new nodes
  AreNamed-kept names new [] name all free others = tt
  AreNamed-kept names new (y ∷ ys) name all free others =
      let apart : name_of y ≡ name → ⊥ = λ is. none_some names name (name_of y) y.number (sym is) free all.0.under in (
        record { few = all.0.few; under = others (name_of y) apart ∙ all.0.under },
        AreNamed-kept names new ys name all.1 free others,
      )

  AreNamed-with : (names : List (NamedItem ℕ)) (nodes : List (NodeOf V)) (x : NodeOf V) → AreNamed names nodes → IsNamedAt names x → AreNamed names (with_now nodes x)
  AreNamed-with names [] x all at = (at, tt)
  AreNamed-with names (y ∷ ys) x all at =
      elim (cases_Bool (nat_lt x.number y.number)) [
        | inl less ↦ rw less ((at, all))
        | inr more ↦ rw more ((all.0, AreNamed-with names ys x all.1 at))
      ]

  -- a node stands under its name, where no other did
  pub IsTree-with : (nodes : List (NodeOf V)) (names new : List (NamedItem ℕ)) (x : NodeOf V) → IsTree nodes names → now_at nodes x.number ≡ None
      → (x.number ≡ root → ⊥) → length x.name ≤ MOST_NAME_BYTES → under names (name_of x) ≡ None → under new (name_of x) ≡ Some x.number
      → ((q : List ℕ) → (q ≡ name_of x → ⊥) → under new q ≡ under names q) → IsTree (with_now nodes x) new
  IsTree-with nodes names new x tree free_number other_number few free here others =
      record {
        rising = AreRising-with nodes x tree.rising free_number;
        no_root = now_at-with_other nodes x root (λ same. other_number (sym same)) ∙ tree.no_root;
        named =
            AreNamed-with new nodes x (AreNamed-kept names new nodes (name_of x) tree.named free others) (record { few = few; under = here });
        only = λ q k is.
            elim (cases_name q (name_of x)) [
              | inl same ↦
                  let number : x.number ≡ k = same_Some x.number k (sym here ∙ ap (under new) (sym same) ∙ is) in
                  (x, ap (now_at (with_now nodes x)) (sym number) ∙ now_at-with_same nodes x free_number, sym same)
              | inr differs ↦
                  let was = tree.only q k (sym (others q differs) ∙ is) in
                  let other : k ≡ x.number → ⊥ = λ same. absurd (let none = rw (← same) at free_number in let some = was.1 in cc) in
                  (was.0, now_at-with_other nodes x k other ∙ was.1, was.2)
            ];
      }

  -- ---- one node less
  AreNamed-without : (names new : List (NamedItem ℕ)) (nodes : List (NodeOf V)) (n : ℕ) (name : List ℕ) → AreNamed names nodes → under names name ≡ Some n
      → ((q : List ℕ) → (q ≡ name → ⊥) → under new q ≡ under names q) → AreNamed new (without_now nodes n)
  AreNamed-without names new [] n name all old others = tt
  AreNamed-without names new (y ∷ ys) n name all old others =
      elim (cases_Bool (eqb y.number n)) [
        | inl same ↦ rw same (AreNamed-without names new ys n name all.1 old others)
        | inr differs ↦
            let apart : name_of y ≡ name → ⊥ = λ is.
            eqb-false y.number n differs (same_Some y.number n (sym all.0.under ∙ ap (under names) is ∙ old)) in
            rw differs
            ((
              record { few = all.0.few; under = others (name_of y) apart ∙ all.0.under },
              AreNamed-without names new ys n name all.1 old others,
            ))
      ]

  -- nothing stands under the name of a node that is gone
  pub IsTree-without : (nodes : List (NodeOf V)) (names new : List (NamedItem ℕ)) (n : ℕ) (s : NodeOf V) → IsTree nodes names → now_at nodes n ≡ Some s
      → under new (name_of s) ≡ None → ((q : List ℕ) → (q ≡ name_of s → ⊥) → under new q ≡ under names q) → IsTree (without_now nodes n) new
  IsTree-without nodes names new n s tree found gone others =
      let at = named_now names nodes n s tree.named found in
      let old : under names (name_of s) ≡ Some n = at.under ∙ ap Some (numbered_now nodes n s found) in
      record {
        rising = AreRising-without nodes n tree.rising;
        no_root = now_at-without_other nodes n root (not_root nodes names n s tree found) ∙ tree.no_root;
        named = AreNamed-without names new nodes n (name_of s) tree.named old others;
        only = λ q k is.
            elim (cases_name q (name_of s)) [
              | inl same ↦ absurd (none_some new (name_of s) q k (sym same) gone is)
              | inr differs ↦
                  let was = tree.only q k (sym (others q differs) ∙ is) in
                  let other : k ≡ n → ⊥ = λ same.
                  let one : was.0 ≡ s = same_Some was.0 s (sym was.1 ∙ ap (now_at nodes) same ∙ found) in
                  differs (sym was.2 ∙ ap (λ (s : NodeOf V). name_of s) one) in
                  (was.0, now_at-without_other nodes n k other ∙ was.1, was.2)
            ];
      }
