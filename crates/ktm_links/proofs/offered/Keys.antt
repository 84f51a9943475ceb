-- Lemmas on what a key names in a list.
use Rattle.std.proofs.Common.{◌≡◌, ◌⊎◌, ℕ, ◌+◌, true, false, eqb, cond, List, [], ◌∷◌, ◌++◌, Option, Some, None, is_some, refl, sym, ap, ◌∙◌, inl, inr, arith}
use Rattle.std.specs.Prelude.{OnSome}
use Rattle.std.proofs.lemmas.Bool.{cases_Bool, and_parts, and_from, and_left, and_right, eqb-true, eq-eqb, ne_eqb}
use Rattle.ktm_links.specs.declared.list.Key.{Key}
use Rattle.ktm_links.specs.Items.{Item, item, same_key, Listed, value_at, with_value, without, IsSpent, KeepsSpent}

pub key_from : (place generation place' generation' : ℕ) → place ≡ place' → generation ≡ generation'
    → ◌≡◌ {A = Key} (record { place = place; generation = generation }) (record { place = place'; generation = generation' })
key_from place generation place' generation' p g = rw (p, g) refl

pub same_key-true : (a b : Key) → same_key a b ≡ true → a ≡ b
same_key-true a b same =
    let parts = and_parts (eqb a.place b.place) (eqb a.generation b.generation) same in
    key_from a.place a.generation b.place b.generation (eqb-true a.place b.place parts.0) (eqb-true a.generation b.generation parts.1)

pub other_place : (a b : Key) → (a.place ≡ b.place → ⊥) → same_key a b ≡ false
other_place a b differs = and_left (eqb a.place b.place) (eqb a.generation b.generation) (ne_eqb a.place b.place differs)

pub other_generation : (a b : Key) → (a.generation ≡ b.generation → ⊥) → same_key a b ≡ false
other_generation a b differs = and_right (eqb a.place b.place) (eqb a.generation b.generation) (ne_eqb a.generation b.generation differs)

module _ {T : Type 0} where
  pub value_at-other : (x : Item T) (xs : List (Item T)) (key : Key) → same_key x.key key ≡ false → value_at (x ∷ xs) key ≡ value_at xs key
  value_at-other x xs key differs = rw differs refl

  pub value_at-same : (x : Item T) (xs : List (Item T)) (key : Key) → same_key x.key key ≡ true → value_at (x ∷ xs) key ≡ Some x.value
  value_at-same x xs key same = rw same refl

  -- where the key's value stands
  pub record IsSplit (xs : List (Item T)) (key : Key) : Type 0 where
    pub left : List (Item T)
    pub value : T
    pub right : List (Item T)
    pub is : xs ≡ left ++ item key value ∷ right
    pub found : value_at xs key ≡ Some value
    pub rest : without xs key ≡ left ++ right
    pub other : (v : T) → with_value xs key v ≡ left ++ item key v ∷ right

  pub split : (xs : List (Item T)) (key : Key) → is_some (value_at xs key) ≡ true → IsSplit xs key
  split [] key some = absurd (cc)
  split (x ∷ xs) key some =
      elim (cases_Bool (same_key x.key key)) [
        | inl same ↦
            record {
              left = [];
              value = x.value;
              right = xs;
              is = ap (λ k. item k x.value ∷ xs) (same_key-true x.key key same);
              found = value_at-same x xs key same;
              rest = rw same refl;
              other = λ v. rw (same, same_key-true x.key key same) refl;
            }
        | inr differs ↦
            let inner = split xs key (rw (value_at-other x xs key differs) at some) in
            record {
              left = x ∷ inner.left;
              value = inner.value;
              right = inner.right;
              is = ap (λ l. x ∷ l) inner.is;
              found = value_at-other x xs key differs ∙ inner.found;
              rest = rw differs (ap (λ l. x ∷ l) inner.rest);
              other = λ v. rw differs (ap (λ l. x ∷ l) (inner.other v));
            }
      ]

  pub without-absent : (xs : List (Item T)) (key : Key) → is_some (value_at xs key) ≡ false → xs ≡ without xs key
  without-absent [] key none = refl
  without-absent (x ∷ xs) key none =
      elim (cases_Bool (same_key x.key key)) [
        | inl same ↦ absurd (let some = rw (value_at-same x xs key same) at none in cc)
        | inr differs ↦ rw differs (ap (λ l. x ∷ l) (without-absent xs key (rw (value_at-other x xs key differs) at none)))
      ]

  pub value_at-push : (xs : List (Item T)) (x : Item T) (key : Key) → same_key x.key key ≡ false → value_at xs key ≡ None → value_at (xs ++ x ∷ []) key ≡ None
  value_at-push [] x key differs none = value_at-other x [] key differs
  value_at-push (y ∷ ys) x key differs none =
      elim (cases_Bool (same_key y.key key)) [
        | inl same ↦ absurd (let some = rw (value_at-same y ys key same) at none in cc)
        | inr other ↦
            value_at-other y (ys ++ x ∷ []) key other
            ∙ value_at-push ys x key differs (sym (value_at-other y ys key other) ∙ none)
      ]

  pub value_at-without : (xs : List (Item T)) (removed key : Key) → value_at xs key ≡ None → value_at (without xs removed) key ≡ None
  value_at-without [] removed key none = refl
  value_at-without (x ∷ xs) removed key none =
      elim (cases_Bool (same_key x.key key)) [
        | inl same ↦ absurd (let some = rw (value_at-same x xs key same) at none in cc)
        | inr other ↦
            let inner : value_at xs key ≡ None = sym (value_at-other x xs key other) ∙ none in
            elim (cases_Bool (same_key x.key removed)) [
              | inl this ↦ rw this inner
              | inr differs ↦ rw differs (value_at-other x (without xs removed) key other ∙ value_at-without xs removed key inner)
            ]
      ]

  pub KeepsSpent-push : (old new : Listed T) (key : Key) (value : T) → key.generation ≡ old.next → new.items ≡ old.items ++ item key value ∷ []
      → new.next ≡ old.next + 1 → KeepsSpent old new
  KeepsSpent-push old new key value fresh items next = λ other spent.
      record {
        before = omega (arith, spent.before);
        gone = rw items (value_at-push old.items (item key value) other (other_generation key other (λ same. absurd (omega (arith, spent.before)))) spent.gone);
      }

  pub KeepsSpent-without : (old new : Listed T) (key : Key) → new.items ≡ without old.items key → new.next ≡ old.next → KeepsSpent old new
  KeepsSpent-without old new key items next = λ other spent.
      record {
        before = rw next spent.before;
        gone = rw items (value_at-without old.items key other spent.gone);
      }

pub some_of : {A : Type 0} (o : Option A) → is_some o ≡ true → (x : A) × (o ≡ Some x)
some_of None some = absurd (cc)
some_of (Some x) some = (x, refl)

pub value_at-kept : {V : Type 0} (xs ys : List (Item V)) (key : Key) (v : V) → value_at xs key ≡ Some v → value_at (xs ++ ys) key ≡ Some v
value_at-kept [] ys key v is = absurd (cc)
value_at-kept (x ∷ xs) ys key v is =
    elim (cases_Bool (same_key x.key key)) [
      | inl same ↦ rw same (rw same at is)
      | inr differs ↦ rw differs (value_at-kept xs ys key v (rw differs at is))
    ]

pub value_at-last : {V : Type 0} (xs : List (Item V)) (key : Key) (v : V) → value_at xs key ≡ None → value_at (xs ++ item key v ∷ []) key ≡ Some v
value_at-last [] key v none =
    rw (and_from (eqb key.place key.place) (eqb key.generation key.generation) (eq-eqb key.place key.place refl) (eq-eqb key.generation key.generation refl)) refl
value_at-last (x ∷ xs) key v none =
    elim (cases_Bool (same_key x.key key)) [
      | inl same ↦ absurd (let some = rw same at none in cc)
      | inr differs ↦ rw differs (value_at-last xs key v (rw differs at none))
    ]

pub value_at-others : {V : Type 0} (xs : List (Item V)) (removed key : Key) → (removed ≡ key → ⊥) → value_at (without xs removed) key ≡ value_at xs key
value_at-others [] removed key differs = refl
value_at-others (x ∷ xs) removed key differs =
    elim (cases_Bool (same_key x.key removed)) [
      | inl this ↦
          elim (cases_Bool (same_key x.key key)) [
            | inl same ↦ absurd (differs (sym (same_key-true x.key removed this) ∙ same_key-true x.key key same))
            | inr other ↦ rw (this, other) refl
          ]
      | inr apart ↦ rw apart (ap (λ o. cond (same_key x.key key) (Some x.value) o) (value_at-others xs removed key differs))
    ]

pub none_of : {A : Type 0} (o : Option A) → is_some o ≡ false → o ≡ None
none_of None none = refl
none_of (Some x) none = absurd (cc)

pub same_key-self : (a b : Key) → a ≡ b → same_key a b ≡ true
same_key-self a b same =
    let place : a.place ≡ b.place = ap (λ (k : Key). k.place) same in
    let generation : a.generation ≡ b.generation = ap (λ (k : Key). k.generation) same in
    and_from (eqb a.place b.place) (eqb a.generation b.generation) (eq-eqb a.place b.place place) (eq-eqb a.generation b.generation generation)

pub value_at-append : {V : Type 0} (xs : List (Item V)) (key : Key) (v : V) (other : Key) → is_some (value_at (xs ++ item key v ∷ []) other) ≡ true
    → (key ≡ other) ⊎ (is_some (value_at xs other) ≡ true)
value_at-append [] key v other some =
    elim (cases_Bool (same_key key other)) [
      | inl same ↦ inl (same_key-true key other same)
      | inr differs ↦ absurd (let none = rw differs at some in cc)
    ]
value_at-append (x ∷ xs) key v other some =
    elim (cases_Bool (same_key x.key other)) [
      | inl same ↦ inr (rw same refl)
      | inr differs ↦ elim (value_at-append xs key v other (rw differs at some)) [ inl last ↦ inl last | inr rest ↦ inr (rw differs rest) ]
    ]

pub on_some : {A : Type 0} (P : Type 0) (o : Option A) (x : A) → o ≡ Some x → OnSome o P → P
on_some P None x is holds = absurd (cc)
on_some P (Some y) x is holds = holds

-- what a removal that gave a value says of its key
pub gone_at : {V : Type 0} (items : List (Item V)) (new : Listed V) (key : Key) (o : Option V) (v : V) → OnSome o (IsSpent new key) → o ≡ Some v
    → new.items ≡ without items key → value_at (without items key) key ≡ None
gone_at items new key o v spent is kept = rw (← kept) (on_some (IsSpent new key) o v is spent).gone

pub same_key-other : (a b : Key) → (a ≡ b → ⊥) → same_key a b ≡ false
same_key-other a b differs =
    elim (cases_Bool (same_key a b)) [ inl same ↦ absurd (differs (same_key-true a b same)) | inr other ↦ other ]

-- what a key other than that of a new last value names
pub value_at-push_other : {V : Type 0} (xs : List (Item V)) (x : Item V) (key : Key) → (key ≡ x.key → ⊥) → value_at (xs ++ x ∷ []) key ≡ value_at xs key
value_at-push_other [] x key differs = value_at-other x [] key (same_key-other x.key key (λ same. differs (sym same)))
value_at-push_other (y ∷ ys) x key differs = ap (λ o. cond (same_key y.key key) (Some y.value) o) (value_at-push_other ys x key differs)

-- ---- another value
pub value_at-with_same : {V : Type 0} (xs : List (Item V)) (key : Key) (v : V) → is_some (value_at xs key) ≡ true → value_at (with_value xs key v) key ≡ Some v
value_at-with_same [] key v some = absurd (cc)
value_at-with_same (x ∷ xs) key v some =
    elim (cases_Bool (same_key x.key key)) [
      | inl same ↦ rw (same, same) refl
      | inr differs ↦ rw (differs, differs) (value_at-with_same xs key v (rw differs at some))
    ]

pub value_at-with_other : {V : Type 0} (xs : List (Item V)) (key other : Key) (v : V) → (other ≡ key → ⊥) → value_at (with_value xs key v) other ≡ value_at xs other
value_at-with_other [] key other v differs = refl
value_at-with_other (x ∷ xs) key other v differs =
    elim (cases_Bool (same_key x.key key)) [
      | inl same ↦
          let apart = same_key-other x.key other (λ is. differs (sym is ∙ same_key-true x.key key same)) in
          rw (same, apart) refl
      | inr not_this ↦ rw not_this (ap (λ o. cond (same_key x.key other) (Some x.value) o) (value_at-with_other xs key other v differs))
    ]

value_at-with_none : {V : Type 0} (xs : List (Item V)) (key other : Key) (v : V) → is_some (value_at xs key) ≡ true → value_at xs other ≡ None
    → value_at (with_value xs key v) other ≡ None
value_at-with_none xs key other v some none =
    value_at-with_other xs key other v (λ same. absurd (let no = rw (← same) at some in cc)) ∙ none

pub KeepsSpent-with_value : {V : Type 0} (old new : Listed V) (key : Key) (v : V) → is_some (value_at old.items key) ≡ true
    → new.items ≡ with_value old.items key v → new.next ≡ old.next → KeepsSpent old new
KeepsSpent-with_value old new key v some items next = λ other spent.
    record { before = rw next spent.before; gone = rw items (value_at-with_none old.items key other v some spent.gone) }

-- two keys are the same, or they are not
pub cases_key : (a b : Key) → (a ≡ b) ⊎ (a ≡ b → ⊥)
cases_key a b =
    elim (cases_Bool (same_key a b)) [
      | inl same ↦ inl (same_key-true a b same)
      | inr differs ↦ inr (λ same. let is = same_key-self a b same in absurd (cc))
    ]
