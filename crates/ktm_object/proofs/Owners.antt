-- Lemmas on the handles of one object.
use Rattle.std.proofs.Common.{◌≡◌, ℕ, ◌||◌, Bool, true, false, subst, eqb, List, [], ◌∷◌, Option, Some, None, is_some, refl, sym, ap, ◌∙◌, inl, inr, arith}
use Rattle.std.specs.Prelude.{IfSome, IfNone}
use Rattle.std.proofs.lemmas.Bool.{cases_Bool, and_parts, and_from, eqb-true, eq-eqb}
use Rattle.std.proofs.lemmas.Option.{same_Some}
use Rattle.ktm_base.specs.declared.id.Id.{Id}
use Rattle.ktm_world.specs.declared.object.Object.{Object}
use Rattle.ktm_world.specs.declared.object.Object.TheVariants.{Transaction, Manager, Enlistment, File}
use Rattle.ktm_world.specs.HandleCalls.{has_handle, same_object}
use Rattle.ktm_world.specs.Transactions.{same_id}
use Rattle.ktm_links.specs.declared.list.Key.{Key}
use Rattle.ktm_links.specs.Items.{Item, same_key, value_at}
use Rattle.ktm_links.specs.Mapped.{NamedItem, Begins}
use Rattle.ktm_links.specs.Indexed.{values_of, AreNamed, IsIndex, IsFirstUnder, IsNoneUnder}
use Rattle.ktm_world.specs.declared.object.Handle.{Handle}
use Rattle.ktm_object.specs.declared.name.Owner.{Owner}
use Rattle.ktm_object.specs.Names.{label_name, object_name, object_owner, owner_bytes}
use Rattle.ktm_links.proofs.offered.Numbers.{number_from}

-- ---- names by owner

-- a name tells its owner
pub owner_from : (a b : Owner) (left right : List ℕ) → owner_bytes a left ≡ owner_bytes b right → a ≡ b
owner_from a b left right same =
    let kind : a.kind ≡ b.kind = cc in
    let boot : a.boot ≡ b.boot = number_from a.boot b.boot (cc) (cc) (cc) (cc) in
    let number : a.number ≡ b.number = number_from a.number b.number (cc) (cc) (cc) (cc) in
    made a.kind a.boot a.number b.kind b.boot b.number kind boot number
  where
    made : (k bo n k' bo' n' : ℕ) → k ≡ k' → bo ≡ bo' → n ≡ n'
        → ◌≡◌ {A = Owner} (record { kind = k; boot = bo; number = n }) (record { kind = k'; boot = bo'; number = n' })
    made k bo n k' bo' n' kind boot number = rw (kind, boot, number) refl

-- the bytes of an owner begin its names alone
pub owner_begins : (a b : Owner) (left : List ℕ) → Begins (owner_bytes b []) (owner_bytes a left) → a ≡ b
owner_begins a b left begins = owner_from a b left begins.after begins.is

-- ---- objects
same_ids : (a b : Id) → a.boot ≡ b.boot → a.number ≡ b.number → same_id a b ≡ true
same_ids a b boot number = and_from (eqb a.boot b.boot) (eqb a.number b.number) (eq-eqb a.boot b.boot boot) (eq-eqb a.number b.number number)

boot_of : (a b : Owner) → a ≡ b → a.boot ≡ b.boot
boot_of a b same = ap (λ (o : Owner). o.boot) same

number_of : (a b : Owner) → a ≡ b → a.number ≡ b.number
number_of a b same = ap (λ (o : Owner). o.number) same

-- objects with one owner are one object
pub object_from : (a b : Object) → object_owner a ≡ object_owner b → same_object a b ≡ true
object_from (Transaction a) (Transaction b) same = same_ids a b (boot_of _ _ same) (number_of _ _ same)
object_from (Transaction a) (Manager b) same = absurd (let kind : 1 ≡ 2 = ap (λ (o : Owner). o.kind) same in omega arith)
object_from (Transaction a) (Enlistment b) same = absurd (let kind : 1 ≡ 3 = ap (λ (o : Owner). o.kind) same in omega arith)
object_from (Transaction a) (File b) same = absurd (let kind : 1 ≡ 4 = ap (λ (o : Owner). o.kind) same in omega arith)
object_from (Manager a) (Transaction b) same = absurd (let kind : 2 ≡ 1 = ap (λ (o : Owner). o.kind) same in omega arith)
object_from (Manager a) (Manager b) same = same_ids a b (boot_of _ _ same) (number_of _ _ same)
object_from (Manager a) (Enlistment b) same = absurd (let kind : 2 ≡ 3 = ap (λ (o : Owner). o.kind) same in omega arith)
object_from (Manager a) (File b) same = absurd (let kind : 2 ≡ 4 = ap (λ (o : Owner). o.kind) same in omega arith)
object_from (Enlistment a) (Transaction b) same = absurd (let kind : 3 ≡ 1 = ap (λ (o : Owner). o.kind) same in omega arith)
object_from (Enlistment a) (Manager b) same = absurd (let kind : 3 ≡ 2 = ap (λ (o : Owner). o.kind) same in omega arith)
object_from (Enlistment a) (Enlistment b) same = same_ids a b (boot_of _ _ same) (number_of _ _ same)
object_from (Enlistment a) (File b) same = absurd (let kind : 3 ≡ 4 = ap (λ (o : Owner). o.kind) same in omega arith)
object_from (File a) (Transaction b) same = absurd (let kind : 4 ≡ 1 = ap (λ (o : Owner). o.kind) same in omega arith)
object_from (File a) (Manager b) same = absurd (let kind : 4 ≡ 2 = ap (λ (o : Owner). o.kind) same in omega arith)
object_from (File a) (Enlistment b) same = absurd (let kind : 4 ≡ 3 = ap (λ (o : Owner). o.kind) same in omega arith)
object_from (File a) (File b) same = eq-eqb a b (number_of _ _ same)

pub object_to : (a b : Object) → same_object a b ≡ true → object_owner a ≡ object_owner b
object_to (Transaction a) (Transaction b) same =
    let parts = and_parts (eqb a.boot b.boot) (eqb a.number b.number) same in
    rw (eqb-true a.boot b.boot parts.0, eqb-true a.number b.number parts.1) refl
object_to (Transaction a) (Manager b) same = absurd (cc)
object_to (Transaction a) (Enlistment b) same = absurd (cc)
object_to (Transaction a) (File b) same = absurd (cc)
object_to (Manager a) (Transaction b) same = absurd (cc)
object_to (Manager a) (Manager b) same =
    let parts = and_parts (eqb a.boot b.boot) (eqb a.number b.number) same in
    rw (eqb-true a.boot b.boot parts.0, eqb-true a.number b.number parts.1) refl
object_to (Manager a) (Enlistment b) same = absurd (cc)
object_to (Manager a) (File b) same = absurd (cc)
object_to (Enlistment a) (Transaction b) same = absurd (cc)
object_to (Enlistment a) (Manager b) same = absurd (cc)
object_to (Enlistment a) (Enlistment b) same =
    let parts = and_parts (eqb a.boot b.boot) (eqb a.number b.number) same in
    rw (eqb-true a.boot b.boot parts.0, eqb-true a.number b.number parts.1) refl
object_to (Enlistment a) (File b) same = absurd (cc)
object_to (File a) (Transaction b) same = absurd (cc)
object_to (File a) (Manager b) same = absurd (cc)
object_to (File a) (Enlistment b) same = absurd (cc)
object_to (File a) (File b) same = rw (eqb-true a b same) refl

-- ---- handles of an object
or_true : (a b : Bool) → b ≡ true → (a || b) ≡ true
or_true true b is = refl
or_true false b is = is

has_handle-found : (items : List (Item Handle)) (key : Key) (e : Handle) (object : Object) → value_at items key ≡ Some e → same_object e.object object ≡ true
    → has_handle (values_of items) object ≡ true
has_handle-found [] key e object there same = absurd (cc)
has_handle-found (x ∷ xs) key e object there same =
    elim (cases_Bool (same_key x.key key)) [
      | inl here ↦
          let value : x.value ≡ e = same_Some x.value e (rw here at there) in
          let x_same : same_object x.value.object object ≡ true = ap (λ (e : Handle). same_object e.object object) value ∙ same in
          rw x_same refl
      | inr differs ↦
          or_true (same_object x.value.object object) (has_handle (values_of xs) object)
          (has_handle-found xs key e object (rw differs at there) same)
    ]

has_handle-none : (items : List (Item Handle)) (named : List (NamedItem Key)) (object : Object) → AreNamed object_name named items
    → IsNoneUnder (Begins (owner_bytes (object_owner object) [])) named → has_handle (values_of items) object ≡ false
has_handle-none [] named object all none = refl
has_handle-none (x ∷ xs) named object all none =
    elim (cases_Bool (same_object x.value.object object)) [
      | inl same ↦
          let owner = object_to x.value.object object same in
          let nothing = none (object_name x.value) (record { after = label_name x.value; is = ap (λ o. owner_bytes o (label_name x.value)) owner }) in
          absurd (let some = all.0 in cc)
      | inr differs ↦ rw differs (has_handle-none xs named object all.1 none)
    ]

-- a name that begins with the object is there exactly where a handle names it
pub has_handle-told : (items : List (Item Handle)) (named : List (NamedItem Key)) (object : Object) (owner : Owner) (other : Option Key) → IsIndex object_name items named
    → owner ≡ object_owner object → IfSome other (λ key. IsFirstUnder (Begins (owner_bytes owner [])) named key)
    → IfNone other (IsNoneUnder (Begins (owner_bytes owner [])) named) → is_some other ≡ has_handle (values_of items) object
has_handle-told items named object owner None index is first none =
    sym (has_handle-none items named object index.all (let P : Owner → Type 0 = λ o. IsNoneUnder (Begins (owner_bytes o [])) named in subst P is none))
has_handle-told items named object owner (Some key) index is first none =
    let at = index.only first.name key first.there in
    let begins : Begins (owner_bytes owner []) (object_name at.0) = rw at.2 first.so in
    let same = owner_begins (object_owner at.0.object) owner (label_name at.0) begins ∙ is in
    sym (has_handle-found items key at.0 object at.1 (object_from at.0.object object same))
