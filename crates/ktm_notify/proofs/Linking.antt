-- Lemmas on slots that are linked.
use Rattle.std.proofs.Common.{◌≡◌, ◌⊎◌, ℕ, ◌==◌, true, false, List, [], ◌∷◌, ◌++◌, Option, Some, None, Result, Ok, Err, OnOk, OnErr, is_some, cond, refl, sym, ap, ◌∙◌, inl, inr}
use Rattle.std.proofs.lemmas.Bool.{cases_Bool, eqb-true, eq-eqb}
use Rattle.std.proofs.lemmas.Option.{same_Some}
use Rattle.ktm_links.specs.declared.list.Key.{Key}
use Rattle.ktm_links.specs.Indexed.{AreDistinct}
use Rattle.ktm_links.specs.Items.{Item, item, same_key, value_at, with_value, without}
use Rattle.ktm_links.proofs.offered.Keys.{same_key-self, same_key-true}
use Rattle.ktm_notify.specs.declared.queues.Slot.{Slot}
use Rattle.ktm_notify.specs.Linked.{AreLinked, first_of, last_of, linked, linked_to, notes_of, or_key}

pub or_key-none : (o : Option Key) → or_key o None ≡ o
or_key-none None = refl
or_key-none (Some key) = refl

or_key-there : (o other : Option Key) → is_some o ≡ true → or_key o other ≡ o
or_key-there None other some = absurd (cc)
or_key-there (Some key) other some = refl

other_way : (a b : ℕ) → (a == b) ≡ false → (b == a) ≡ false
other_way a b differs =
    elim (cases_Bool (b == a)) [
      | inl same ↦ absurd (let is = eq-eqb a b (sym (eqb-true b a same)) in cc)
      | inr other ↦ other
    ]

-- what holds where a value is replaced, of a key that names one
pub ok_of : {A B E : Type 0} (P : Type 0) (o : Option A) (x : A) → o ≡ Some x → (r : Result B E) → OnOk r P → OnErr r (o ≡ None) → P
ok_of P o x is (Ok b) ok err = ok
ok_of P o x is (Err e) ok err = absurd (let none : o ≡ None = err in cc)

-- ---- one slot linked to another

pub linked-there : (xs : List (Item Slot)) (last next : Key) (slot : Slot) → value_at xs last ≡ Some slot → with_value xs last (linked_to slot next) ≡ linked xs last next
linked-there [] last next slot is = refl
linked-there (x ∷ xs) last next slot is =
    elim (cases_Bool (same_key x.key last)) [
      | inl same ↦
          let value : x.value ≡ slot = same_Some x.value slot (rw same at is) in
          rw (same, same_key-true x.key last same, value) refl
      | inr differs ↦ rw differs (ap (λ l. x ∷ l) (linked-there xs last next slot (rw differs at is)))
    ]

pub linked-absent : (xs : List (Item Slot)) (last next : Key) → value_at xs last ≡ None → xs ≡ linked xs last next
linked-absent [] last next none = refl
linked-absent (x ∷ xs) last next none =
    elim (cases_Bool (same_key x.key last)) [
      | inl same ↦ absurd (let some = rw same at none in cc)
      | inr differs ↦ rw differs (ap (λ l. x ∷ l) (linked-absent xs last next (rw differs at none)))
    ]

pub notes-linked : (xs : List (Item Slot)) (last next : Key) (m : ℕ) → notes_of (linked xs last next) m ≡ notes_of xs m
notes-linked [] last next m = refl
notes-linked (x ∷ xs) last next m =
    elim (cases_Bool (same_key x.key last)) [
      | inl same ↦ rw same refl
      | inr differs ↦ rw differs (ap (λ l. cond (x.value.manager == m) (x.value.note ∷ l) l) (notes-linked xs last next m))
    ]

pub first-linked : (xs : List (Item Slot)) (last next : Key) (m : ℕ) → first_of (linked xs last next) m ≡ first_of xs m
first-linked [] last next m = refl
first-linked (x ∷ xs) last next m =
    elim (cases_Bool (same_key x.key last)) [
      | inl same ↦ rw same refl
      | inr differs ↦ rw differs (ap (λ o. cond (x.value.manager == m) (Some x.key) o) (first-linked xs last next m))
    ]

pub last-linked : (xs : List (Item Slot)) (last next : Key) (m : ℕ) → last_of (linked xs last next) m ≡ last_of xs m
last-linked [] last next m = refl
last-linked (x ∷ xs) last next m =
    elim (cases_Bool (same_key x.key last)) [
      | inl same ↦ rw same refl
      | inr differs ↦ rw differs (ap (λ o. or_key o (cond (x.value.manager == m) (Some x.key) None)) (last-linked xs last next m))
    ]

none-linked : (xs : List (Item Slot)) (last next key : Key) → value_at xs key ≡ None → value_at (linked xs last next) key ≡ None
none-linked [] last next key none = refl
none-linked (x ∷ xs) last next key none =
    elim (cases_Bool (same_key x.key key)) [
      | inl this ↦ absurd (let some = rw this at none in cc)
      | inr other ↦
          elim (cases_Bool (same_key x.key last)) [
            | inl same ↦ rw (same, other) (rw other at none)
            | inr differs ↦ rw (differs, other) (none-linked xs last next key (rw other at none))
          ]
    ]

pub distinct-linked : (xs : List (Item Slot)) (last next : Key) → AreDistinct xs → AreDistinct (linked xs last next)
distinct-linked [] last next distinct = tt
distinct-linked (x ∷ xs) last next distinct =
    elim (cases_Bool (same_key x.key last)) [
      | inl same ↦ rw same ((distinct.0, distinct.1))
      | inr differs ↦ rw differs ((none-linked xs last next x.key distinct.0, distinct-linked xs last next distinct.1))
    ]

-- ---- one slot more

pub notes-push : (xs : List (Item Slot)) (n : Item Slot) (j : ℕ) → notes_of (xs ++ n ∷ []) j ≡ notes_of xs j ++ cond (n.value.manager == j) (n.value.note ∷ []) []
notes-push [] n j = elim (cases_Bool (n.value.manager == j)) [ inl is ↦ rw is refl | inr not_it ↦ rw not_it refl ]
notes-push (x ∷ xs) n j =
    elim (cases_Bool (x.value.manager == j)) [
      | inl is ↦ rw is (ap (λ l. x.value.note ∷ l) (notes-push xs n j))
      | inr not_it ↦ rw not_it (notes-push xs n j)
    ]

pub first-push : (xs : List (Item Slot)) (n : Item Slot) (j : ℕ) → first_of (xs ++ n ∷ []) j ≡ or_key (first_of xs j) (cond (n.value.manager == j) (Some n.key) None)
first-push [] n j = elim (cases_Bool (n.value.manager == j)) [ inl is ↦ rw is refl | inr not_it ↦ rw not_it refl ]
first-push (x ∷ xs) n j =
    elim (cases_Bool (x.value.manager == j)) [
      | inl is ↦ rw is refl
      | inr not_it ↦ rw not_it (first-push xs n j)
    ]

pub last-push-this : (xs : List (Item Slot)) (n : Item Slot) → last_of (xs ++ n ∷ []) n.value.manager ≡ Some n.key
last-push-this [] n = rw (eq-eqb n.value.manager n.value.manager refl) refl
last-push-this (x ∷ xs) n = rw (last-push-this xs n) refl

pub last-push-other : (xs : List (Item Slot)) (n : Item Slot) (j : ℕ) → (n.value.manager == j) ≡ false → last_of (xs ++ n ∷ []) j ≡ last_of xs j
last-push-other [] n j other = rw other refl
last-push-other (x ∷ xs) n j other = ap (λ o. or_key o (cond (x.value.manager == j) (Some x.key) None)) (last-push-other xs n j other)

-- ---- the first and the last that waits for a manager

-- where the first slot's key is not that of the last, the last is behind it
behind-last : (x : Item Slot) (xs : List (Item Slot)) (m : ℕ) (last : Key) (o : Option Key) → last_of xs m ≡ o → same_key x.key last ≡ false
    → last_of (x ∷ xs) m ≡ Some last → last_of xs m ≡ Some last
behind-last x xs m last (Some key) behind differs is = let is' = rw behind at is in rw behind is'
behind-last x xs m last None behind differs is =
    elim (cases_Bool (x.value.manager == m)) [
      | inl this ↦
          let key : x.key ≡ last = same_Some x.key last (rw (behind, this) at is) in
          absurd (let same = same_key-self x.key last key in cc)
      | inr other ↦ absurd (let none = rw (behind, other) at is in cc)
    ]

-- the last is among the slots
pub last-there : (xs : List (Item Slot)) (m : ℕ) (last : Key) → last_of xs m ≡ Some last → is_some (value_at xs last) ≡ true
last-there [] m last is = absurd (cc)
last-there (x ∷ xs) m last is =
    elim (cases_Bool (same_key x.key last)) [
      | inl same ↦ rw same refl
      | inr differs ↦ rw differs (last-there xs m last (behind-last x xs m last (last_of xs m) refl differs is))
    ]

-- where none is the last, none is the first
pub first-none : (xs : List (Item Slot)) (m : ℕ) → last_of xs m ≡ None → first_of xs m ≡ None
first-none [] m none = refl
first-none (x ∷ xs) m none = by_rest (first-none xs m) (last_of xs m) refl
  where
    by_rest : (last_of xs m ≡ None → first_of xs m ≡ None) → (o : Option Key) → last_of xs m ≡ o → first_of (x ∷ xs) m ≡ None
    by_rest rest (Some key) behind = absurd (let some = rw behind at none in cc)
    by_rest rest None behind =
        elim (cases_Bool (x.value.manager == m)) [
          | inl this ↦ absurd (let some = rw (behind, this) at none in cc)
          | inr other ↦ rw other (rest behind)
        ]

pub last-none : (xs : List (Item Slot)) (m : ℕ) → first_of xs m ≡ None → last_of xs m ≡ None
last-none [] m none = refl
last-none (x ∷ xs) m none =
    elim (cases_Bool (x.value.manager == m)) [
      | inl this ↦ absurd (let some = rw this at none in cc)
      | inr other ↦ rw (last-none xs m (rw other at none), other) refl
    ]

-- where one is the last, one is the first
first-some : (xs : List (Item Slot)) (m : ℕ) (last : Key) → last_of xs m ≡ Some last → is_some (first_of xs m) ≡ true
first-some xs m last is = by_first (first_of xs m) refl
  where
    by_first : (o : Option Key) → first_of xs m ≡ o → is_some (first_of xs m) ≡ true
    by_first (Some key) first = rw first refl
    by_first None first = absurd (let none = last-none xs m first in cc)

last-some : (xs : List (Item Slot)) (m : ℕ) → is_some (first_of xs m) ≡ true → is_some (last_of xs m) ≡ true
last-some xs m some = by_last (last_of xs m) refl
  where
    by_last : (o : Option Key) → last_of xs m ≡ o → is_some (last_of xs m) ≡ true
    by_last (Some key) last = rw last refl
    by_last None last = absurd (let none = first-none xs m last in let not_some = rw none at some in cc)

-- the first is among the slots
pub first-there : (xs : List (Item Slot)) (m : ℕ) (key : Key) → first_of xs m ≡ Some key → is_some (value_at xs key) ≡ true
first-there [] m key is = absurd (cc)
first-there (x ∷ xs) m key is =
    elim (cases_Bool (same_key x.key key)) [
      | inl same ↦ rw same refl
      | inr differs ↦
          elim (cases_Bool (x.value.manager == m)) [
            | inl this ↦ absurd (let self = same_key-self x.key key (same_Some x.key key (rw this at is)) in cc)
            | inr other ↦ rw differs (first-there xs m key (rw other at is))
          ]
    ]

-- ---- what is sent is linked

-- with a slot more, for whose manager none waits
pub linked-alone : (xs : List (Item Slot)) (n : Item Slot) → n.value.next ≡ None → last_of xs n.value.manager ≡ None → AreLinked xs → AreLinked (xs ++ n ∷ [])
linked-alone [] n ends none are = (ends, tt)
linked-alone (x ∷ xs) n ends none are = by_rest (λ behind. linked-alone xs n ends behind are.1) (last_of xs n.value.manager) refl
  where
    by_rest : (last_of xs n.value.manager ≡ None → AreLinked (xs ++ n ∷ [])) → (o : Option Key) → last_of xs n.value.manager ≡ o → AreLinked ((x ∷ xs) ++ n ∷ [])
    by_rest rest (Some key) behind = absurd (let some = rw behind at none in cc)
    by_rest rest None behind =
        elim (cases_Bool (x.value.manager == n.value.manager)) [
          | inl this ↦ absurd (let some = rw (behind, this) at none in cc)
          | inr other ↦ (
            are.0 ∙ sym (first-push xs n x.value.manager ∙ rw (other_way x.value.manager n.value.manager other) (or_key-none (first_of xs x.value.manager))),
            rest behind,
          )
        ]

-- with a slot more, to which the last for its manager is linked
pub linked-behind : (xs : List (Item Slot)) (n : Item Slot) (last : Key) → n.value.next ≡ None → last_of xs n.value.manager ≡ Some last → AreDistinct xs → AreLinked xs
    → AreLinked (linked (xs ++ n ∷ []) last n.key)
linked-behind [] n last ends is distinct are = absurd (cc)
linked-behind (x ∷ xs) n last ends is distinct are =
    elim (cases_Bool (same_key x.key last)) [
      | inl same ↦ rw same (here (last_of xs n.value.manager) refl same)
      | inr differs ↦
          let behind = behind-last x xs n.value.manager last (last_of xs n.value.manager) refl differs is in
          rw differs ((further behind (cases_Bool (n.value.manager == x.value.manager)), linked-behind xs n last ends behind distinct.1 are.1))
    ]
  where
    further : last_of xs n.value.manager ≡ Some last → ((n.value.manager == x.value.manager) ≡ true) ⊎ ((n.value.manager == x.value.manager) ≡ false) → x.value.next ≡ first_of (linked (xs ++ n ∷ []) last n.key) x.value.manager
    further behind (inr other) =
        are.0 ∙ sym (first-linked (xs ++ n ∷ []) last n.key x.value.manager ∙ first-push xs n x.value.manager ∙ rw other (or_key-none (first_of xs x.value.manager)))
    further behind (inl this) =
        let same : n.value.manager ≡ x.value.manager = eqb-true n.value.manager x.value.manager this in
        let some : is_some (first_of xs x.value.manager) ≡ true = rw (← same) (first-some xs n.value.manager last behind) in
        are.0 ∙ sym (first-linked (xs ++ n ∷ []) last n.key x.value.manager ∙ first-push xs n x.value.manager ∙ or_key-there (first_of xs x.value.manager) (cond (n.value.manager == x.value.manager) (Some n.key) None) some)

    here : (o : Option Key) → last_of xs n.value.manager ≡ o → same_key x.key last ≡ true → AreLinked (item x.key (linked_to x.value n.key) ∷ (xs ++ n ∷ []))
    here (Some key) behind same =
        let key_is : key ≡ last = same_Some key last (rw behind at is) in
        absurd (let some = last-there xs n.value.manager key behind in let none : value_at xs key ≡ None = ap (value_at xs) (key_is ∙ sym (same_key-true x.key last same)) ∙ distinct.0 in cc)
    here None behind same =
        elim (cases_Bool (x.value.manager == n.value.manager)) [
          | inl this ↦ (
            sym (first-push xs n x.value.manager ∙ rw (eqb-true x.value.manager n.value.manager this, first-none xs n.value.manager behind, eq-eqb n.value.manager n.value.manager refl) refl),
            linked-alone xs n ends behind are.1,
          )
          | inr other ↦ absurd (let none = rw (behind, other) at is in cc)
        ]

-- ---- what is taken

-- the first that waits for a manager, and where it stands
pub record IsFirst (xs : List (Item Slot)) (m : ℕ) (key : Key) (slot : Slot) : Type 0 where
  pub there : value_at xs key ≡ Some slot
  pub first : first_of xs m ≡ Some key

-- where the first slot is not for the manager, its first is behind
first-behind : (x : Item Slot) (xs : List (Item Slot)) (m : ℕ) (key : Key) (slot : Slot) → AreDistinct (x ∷ xs) → (x.value.manager == m) ≡ false → IsFirst (x ∷ xs) m key slot
    → IsFirst xs m key slot × (same_key x.key key ≡ false)
first-behind x xs m key slot distinct other is =
    let first : first_of xs m ≡ Some key = rw other at is.first in
    elim (cases_Bool (same_key x.key key)) [
      | inl same ↦
          absurd (let some = first-there xs m key first in let none : value_at xs key ≡ None = ap (value_at xs) (sym (same_key-true x.key key same)) ∙ distinct.0 in cc)
      | inr differs ↦ (record { there = rw differs at is.there; first = first }, differs)
    ]

-- where it is for the manager, it is the first
first-here : (x : Item Slot) (xs : List (Item Slot)) (m : ℕ) (key : Key) (slot : Slot) → (x.value.manager == m) ≡ true → IsFirst (x ∷ xs) m key slot
    → (same_key x.key key ≡ true) × (x.value ≡ slot)
first-here x xs m key slot this is =
    let key_is : x.key ≡ key = same_Some x.key key (rw this at is.first) in
    let same = same_key-self x.key key key_is in
    (same, same_Some x.value slot (rw same at is.there))

pub note-first : (xs : List (Item Slot)) (m : ℕ) (key : Key) (slot : Slot) → AreDistinct xs → IsFirst xs m key slot → notes_of xs m ≡ slot.note ∷ notes_of (without xs key) m
note-first [] m key slot distinct is = absurd (let some = is.there in cc)
note-first (x ∷ xs) m key slot distinct is =
    elim (cases_Bool (x.value.manager == m)) [
      | inl this ↦
          let here = first-here x xs m key slot this is in
          rw (this, here.0) (ap (λ (s : Slot). s.note ∷ notes_of xs m) here.1)
      | inr other ↦
          let behind = first-behind x xs m key slot distinct other is in
          rw (other, behind.1, other) (note-first xs m key slot distinct.1 behind.0)
    ]

pub notes-without : (xs : List (Item Slot)) (m j : ℕ) (key : Key) (slot : Slot) → AreDistinct xs → IsFirst xs m key slot → (m == j) ≡ false → notes_of (without xs key) j ≡ notes_of xs j
notes-without [] m j key slot distinct is differs = refl
notes-without (x ∷ xs) m j key slot distinct is differs =
    elim (cases_Bool (x.value.manager == m)) [
      | inl this ↦
          let here = first-here x xs m key slot this is in
          rw (here.0, eqb-true x.value.manager m this, differs) refl
      | inr other ↦
          let behind = first-behind x xs m key slot distinct other is in
          rw behind.1 (ap (λ l. cond (x.value.manager == j) (x.value.note ∷ l) l) (notes-without xs m j key slot distinct.1 behind.0 differs))
    ]

pub first-without_other : (xs : List (Item Slot)) (m j : ℕ) (key : Key) (slot : Slot) → AreDistinct xs → IsFirst xs m key slot → (m == j) ≡ false → first_of (without xs key) j ≡ first_of xs j
first-without_other [] m j key slot distinct is differs = refl
first-without_other (x ∷ xs) m j key slot distinct is differs =
    elim (cases_Bool (x.value.manager == m)) [
      | inl this ↦
          let here = first-here x xs m key slot this is in
          rw (here.0, eqb-true x.value.manager m this, differs) refl
      | inr other ↦
          let behind = first-behind x xs m key slot distinct other is in
          rw behind.1 (ap (λ o. cond (x.value.manager == j) (Some x.key) o) (first-without_other xs m j key slot distinct.1 behind.0 differs))
    ]

pub last-without_other : (xs : List (Item Slot)) (m j : ℕ) (key : Key) (slot : Slot) → AreDistinct xs → IsFirst xs m key slot → (m == j) ≡ false → last_of (without xs key) j ≡ last_of xs j
last-without_other [] m j key slot distinct is differs = refl
last-without_other (x ∷ xs) m j key slot distinct is differs =
    elim (cases_Bool (x.value.manager == m)) [
      | inl this ↦
          let here = first-here x xs m key slot this is in
          rw (here.0, eqb-true x.value.manager m this, differs) (sym (or_key-none (last_of xs j)))
      | inr other ↦
          let behind = first-behind x xs m key slot distinct other is in
          rw behind.1 (ap (λ o. or_key o (cond (x.value.manager == j) (Some x.key) None)) (last-without_other xs m j key slot distinct.1 behind.0 differs))
    ]

-- what is the first then
pub first-without : (xs : List (Item Slot)) (m : ℕ) (key : Key) (slot : Slot) → AreDistinct xs → AreLinked xs → IsFirst xs m key slot → slot.next ≡ first_of (without xs key) m
first-without [] m key slot distinct are is = absurd (let some = is.there in cc)
first-without (x ∷ xs) m key slot distinct are is =
    elim (cases_Bool (x.value.manager == m)) [
      | inl this ↦
          let here = first-here x xs m key slot this is in
          rw here.0 (ap (λ (s : Slot). s.next) (sym here.1) ∙ are.0 ∙ ap (first_of xs) (eqb-true x.value.manager m this))
      | inr other ↦
          let behind = first-behind x xs m key slot distinct other is in
          rw (behind.1, other) (first-without xs m key slot distinct.1 are.1 behind.0)
    ]

-- what is the last then, where one is
pub last-without : (xs : List (Item Slot)) (m : ℕ) (key : Key) (slot : Slot) → AreDistinct xs → IsFirst xs m key slot → is_some (first_of (without xs key) m) ≡ true
    → last_of xs m ≡ last_of (without xs key) m
last-without [] m key slot distinct is some = refl
last-without (x ∷ xs) m key slot distinct is some =
    elim (cases_Bool (x.value.manager == m)) [
      | inl this ↦
          let here = first-here x xs m key slot this is in
          let more : is_some (first_of xs m) ≡ true = rw here.0 at some in
          rw here.0 (or_key-there (last_of xs m) (cond (x.value.manager == m) (Some x.key) None) (last-some xs m more))
      | inr other ↦
          let behind = first-behind x xs m key slot distinct other is in
          let more : is_some (first_of (without xs key) m) ≡ true = rw (behind.1, other) at some in
          rw behind.1 (ap (λ o. or_key o (cond (x.value.manager == m) (Some x.key) None)) (last-without xs m key slot distinct.1 behind.0 more))
    ]

pub linked-without : (xs : List (Item Slot)) (m : ℕ) (key : Key) (slot : Slot) → AreDistinct xs → AreLinked xs → IsFirst xs m key slot → AreLinked (without xs key)
linked-without [] m key slot distinct are is = tt
linked-without (x ∷ xs) m key slot distinct are is =
    elim (cases_Bool (x.value.manager == m)) [
      | inl this ↦ rw (first-here x xs m key slot this is).0 are.1
      | inr other ↦
          let behind = first-behind x xs m key slot distinct other is in
          rw behind.1
          ((
            are.0 ∙ sym (first-without_other xs m x.value.manager key slot distinct.1 behind.0 (other_way x.value.manager m other)),
            linked-without xs m key slot distinct.1 are.1 behind.0,
          ))
    ]
