-- What a key names, by the slab and by the list.
use Rattle.std.proofs.Common.{◌≡◌, ℕ, ◌+◌, ◌-◌, ◌^◌, min, ◌<◌, List, [], ◌∷◌, ◌++◌, Option, Some, None, is_some, cond, eqb, refl, sym, ap, ◌∙◌, inl, inr, arith}
use Rattle.std.proofs.lemmas.Bool.{and_from, eq-eqb}
use Rattle.std.proofs.lemmas.Option.{same_Some}
use Rattle.std.proofs.lemmas.List.Sums.{sum_by-set}
use Rattle.slab.specs.Slab.{Slab, get, slab_len, with_value as with_entry, ContainsKey, Updates}
use Rattle.slab.proofs.SlabLemmas.{ContainsKey-within, Updates-with_value}
use Rattle.ktm_links.specs.declared.list.Key.{Key}
use Rattle.ktm_links.specs.declared.entry.Entry.{Entry}
use Rattle.ktm_links.specs.Items.{Item, Listed, item, value_at, with_value, without}
use Rattle.ktm_links.specs.Links.{first_place, last_place, entry_of, walk, Segment, HasPlace, HasDistinctPlaces, IsBelow, IsLinked}
use Rattle.ktm_links.specs.Entry.{SetsAfter, SetsBefore, SetsValue, beside_or}
use Rattle.ktm_links.proofs.Segments.{HasPlace-cases, Segment-present, Segment-append, HasPlace-append, distinct_parts, revalued, unlinked, walk-linked}
use Rattle.ktm_links.proofs.offered.Keys.{other_place, other_generation, value_at-same, value_at-other, IsSplit}

module _ {T : Type 0} where
  pub value_at-absent : (xs : List (Item T)) (key : Key) → (HasPlace key.place xs → ⊥) → value_at xs key ≡ None
  value_at-absent [] key none = refl
  value_at-absent (x ∷ xs) key none =
      value_at-other x xs key (other_place x.key key (λ same. none (inl same)))
      ∙ value_at-absent xs key (λ p. none (inr p))

  found_in : (s : Slab (Entry T)) (before after : Option ℕ) (xs : List (Item T)) (key : Key) (e : Entry T) → Segment s before xs after
      → HasPlace key.place xs → get s key.place ≡ Some e → e.generation ≡ key.generation → HasDistinctPlaces xs → value_at xs key ≡ Some e.value
  found_in s before after [] key e seg p is same d = absurd p
  found_in s before after (x ∷ xs) key e seg (inl here) is same d =
      let e_is : entry_of x before (first_place xs after) ≡ e = same_Some _ e (sym seg.0 ∙ ap (get s) here ∙ is) in
      let generation : x.key.generation ≡ key.generation = ap (λ (e : Entry T). e.generation) e_is ∙ same in
      value_at-same x xs key (and_from (eqb x.key.place key.place) (eqb x.key.generation key.generation) (eq-eqb x.key.place key.place here) (eq-eqb x.key.generation key.generation generation))
      ∙ ap (λ (e : Entry T). Some e.value) e_is
  found_in s before after (x ∷ xs) key e seg (inr there) is same d =
      value_at-other x xs key (other_place x.key key (λ here. d.0 (rw here there)))
      ∙ found_in s (Some x.key.place) after xs key e seg.1 there is same d.1

  stale_in : (s : Slab (Entry T)) (before after : Option ℕ) (xs : List (Item T)) (key : Key) (e : Entry T) → Segment s before xs after
      → HasPlace key.place xs → get s key.place ≡ Some e → (e.generation ≡ key.generation → ⊥) → HasDistinctPlaces xs → value_at xs key ≡ None
  stale_in s before after [] key e seg p is differs d = absurd p
  stale_in s before after (x ∷ xs) key e seg (inl here) is differs d =
      let e_is : entry_of x before (first_place xs after) ≡ e = same_Some _ e (sym seg.0 ∙ ap (get s) here ∙ is) in
      value_at-other x xs key (other_generation x.key key (λ same. differs (sym (ap (λ (e : Entry T). e.generation) e_is) ∙ same)))
      ∙ value_at-absent xs key (λ p. d.0 (rw here p))
  stale_in s before after (x ∷ xs) key e seg (inr there) is differs d =
      value_at-other x xs key (other_place x.key key (λ here. d.0 (rw here there)))
      ∙ stale_in s (Some x.key.place) after xs key e seg.1 there is differs d.1

  stands : (s : Slab (Entry T)) (head tail : Option ℕ) (next : ℕ) (xs : List (Item T)) (place : ℕ) (e : Entry T) → IsLinked s head tail next xs
      → get s place ≡ Some e → HasPlace place xs
  stands s head tail next xs place e linked is =
      elim (HasPlace-cases place xs) [
        | inl here ↦ here
        | inr none ↦ let vacant : get s place ≡ None = linked.no_more place none in absurd (cc)
      ]

  pub named : (s : Slab (Entry T)) (head tail : Option ℕ) (next : ℕ) (xs : List (Item T)) (key : Key) (e : Entry T) → IsLinked s head tail next xs
      → Some e ≡ get s key.place → e.generation ≡ key.generation → Some e.value ≡ value_at xs key
  named s head tail next xs key e linked is same =
      sym (found_in s None None xs key e linked.segment (stands s head tail next xs key.place e linked (sym is)) (sym is) same linked.distinct)

  pub stale : (s : Slab (Entry T)) (head tail : Option ℕ) (next : ℕ) (xs : List (Item T)) (key : Key) (e : Entry T) → IsLinked s head tail next xs
      → Some e ≡ get s key.place → (e.generation ≡ key.generation → ⊥) → None ≡ value_at xs key
  stale s head tail next xs key e linked is differs =
      sym (stale_in s None None xs key e linked.segment (stands s head tail next xs key.place e linked (sym is)) (sym is) differs linked.distinct)

  pub vacant : (s : Slab (Entry T)) (head tail : Option ℕ) (next : ℕ) (xs : List (Item T)) (key : Key) → IsLinked s head tail next xs
      → None ≡ get s key.place → None ≡ value_at xs key
  vacant s head tail next xs key linked is =
      sym (value_at-absent xs key (Segment-present s None None xs key.place linked.segment (sym is)))

  -- the entry at the place of a key that names a value
  pub entry_at : (s : Slab (Entry T)) (head tail : Option ℕ) (next : ℕ) (xs : List (Item T)) (key : Key) → IsLinked s head tail next xs
      → (at : IsSplit xs key) → get s key.place ≡ Some (entry_of (item key at.value) (last_place at.left None) (first_place at.right None))
  entry_at s head tail next xs key linked at =
      let whole = rw at.is at linked in
      let parts = Segment-append s None None at.left (item key at.value ∷ at.right) whole.segment in
      parts.1.0

  pub present : (s : Slab (Entry T)) (head tail : Option ℕ) (next : ℕ) (xs : List (Item T)) (key : Key) → IsLinked s head tail next xs
      → IsSplit xs key → ContainsKey s key.place
  present s head tail next xs key linked at = rw (entry_at s head tail next xs key linked at) refl

  pub removed_value : (s : Slab (Entry T)) (head tail : Option ℕ) (next : ℕ) (xs : List (Item T)) (key : Key) (e : Entry T) → IsLinked s head tail next xs
      → IsSplit xs key → get s key.place ≡ Some e → Some e.value ≡ value_at xs key
  removed_value s head tail next xs key e linked at is =
      ap (λ (e : Entry T). Some e.value) (same_Some e _ (sym is ∙ entry_at s head tail next xs key linked at)) ∙ sym at.found

  pub unlinked_key : (s s1 s2 s3 : Slab (Entry T)) (head tail : Option ℕ) (next : ℕ) (xs : List (Item T)) (key : Key) (e : Entry T)
      → IsSplit xs key → IsLinked s head tail next xs → get s key.place ≡ Some e
      → Updates s s1 key.place None → slab_len s1 + 1 ≡ slab_len s
      → SetsAfter s1 s2 e.before e.after → slab_len s2 ≡ slab_len s1
      → SetsBefore s2 s3 e.after e.before → slab_len s3 ≡ slab_len s2
      → IsLinked s3 (beside_or e.before head e.after) (beside_or e.after tail e.before) next (without xs key)
  unlinked_key s s1 s2 s3 head tail next xs key e at linked is removed len1 after len2 before len3 =
      rw at.rest
      (unlinked s s1 s2 s3 head tail next at.left (item key at.value) at.right e (rw at.is at linked) is removed len1 after len2 before len3)

  -- another value at the place of an entry
  sets_value : (s : Slab (Entry T)) (place : ℕ) (e : Entry T) (w : T) → get s place ≡ Some e → SetsValue s (with_entry s place (record e { value = w })) place w
  sets_value s place e w is =
      let updates = Updates-with_value s place (record e { value = w }) (rw is refl) in
      record {
        changed = λ found same. updates.changed ∙ ap (λ (x : Entry T). Some (record x { value = w })) (same_Some e found (sym is ∙ same));
        others = updates.others;
      }

  pub same_len : (s : Slab (Entry T)) (place : ℕ) (e : Entry T) (new : Entry T) → get s place ≡ Some e → slab_len (with_entry s place new) ≡ slab_len s
  same_len s place e new is =
      let sums : slab_len (with_entry s place new) + 1 ≡ slab_len s + 1 =
      ap (λ (o : Option (Entry T)). slab_len (with_entry s place new) + cond (is_some o) 1 0) (sym is)
      ∙ sum_by-set (λ (o : Option (Entry T)). cond (is_some o) 1 0) s.slots place (Some new) None (ContainsKey-within s place (rw is refl)) in
      omega (arith, sums)

  pub valued_key : (s : Slab (Entry T)) (head tail : Option ℕ) (next : ℕ) (xs : List (Item T)) (key : Key) (e : Entry T) (w : T) → IsSplit xs key
      → IsLinked s head tail next xs → get s key.place ≡ Some e
      → IsLinked (with_entry s key.place (record e { value = w })) head tail next (with_value xs key w)
  valued_key s head tail next xs key e w at linked is =
      rw (at.other w)
      (revalued s _ head tail next at.left key at.value w at.right (rw at.is at linked) (sets_value s key.place e w is) (same_len s key.place e _ is))

  pub listed_valued : (s : Slab (Entry T)) (head tail : Option ℕ) (next : ℕ) (xs : List (Item T)) (key : Key) (e : Entry T) (w : T) → IsSplit xs key
      → IsLinked s head tail next xs → get s key.place ≡ Some e
      → ◌≡◌ {A = Listed T}
      (record {
        items = walk (with_entry s key.place (record e { value = w })) (slab_len (with_entry s key.place (record e { value = w }))) head;
        next = next;
        spare = min (s.capacity - slab_len (with_entry s key.place (record e { value = w }))) (2 ^ 64 - 1 - next);
      })
      (record { items = with_value xs key w; next = next; spare = min (s.capacity - slab_len s) (2 ^ 64 - 1 - next) })
  listed_valued s head tail next xs key e w at linked is =
      let new : Slab (Entry T) = with_entry s key.place (record e { value = w }) in
      ap (λ items. record { items = items; next = next; spare = min (s.capacity - slab_len new) (2 ^ 64 - 1 - next) })
      (walk-linked new head tail next (with_value xs key w) (valued_key s head tail next xs key e w at linked is))
      ∙ ap (λ len. record { items = with_value xs key w; next = next; spare = min (s.capacity - len) (2 ^ 64 - 1 - next) })
      (same_len s key.place e (record e { value = w }) is)

  pub value_at-removed : (xs : List (Item T)) (key : Key) → HasDistinctPlaces xs → IsSplit xs key → value_at (without xs key) key ≡ None
  value_at-removed xs key distinct at =
      let parts = distinct_parts at.left (item key at.value ∷ at.right) (rw at.is at distinct) in
      rw at.rest
      (value_at-absent (at.left ++ at.right) key (λ p. elim (HasPlace-append key.place at.left at.right p) [
        | inl left ↦ parts.2 key.place left (inl refl)
        | inr right ↦ parts.1.0 right
      ]))

  IsBelow-at : (next : ℕ) (left : List (Item T)) (x : Item T) (right : List (Item T)) → IsBelow next (left ++ x ∷ right) → x.key.generation < next
  IsBelow-at next [] x right below = below.0
  IsBelow-at next (y ∷ ys) x right below = IsBelow-at next ys x right below.1

  pub generation_before : (next : ℕ) (xs : List (Item T)) (key : Key) → IsBelow next xs → IsSplit xs key → key.generation < next
  generation_before next xs key below at = IsBelow-at next at.left (item key at.value) at.right (rw at.is at below)
