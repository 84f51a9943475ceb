-- What has an Id, what is live, and the Id to which a GUID leads.
use Rattle.std.proofs.Common.{◌≡◌, ℕ, ◌&&◌, ◌||◌, not, cond, Bool, true, false, List, [], ◌∷◌, Option, Some, None, IfSome, is_some, option_and_then, option_map, refl, sym, ◌∙◌, ap, inl, inr}
use Rattle.std.specs.Prelude.{find}
use Rattle.std.specs.List.{list_all, list_any}
use Rattle.std.proofs.Math.Bool.{and-false, and-true}
use Rattle.std.proofs.lemmas.Bool.{and_parts, cases_Bool, false_from_ne_true}
use Rattle.ktm_base.specs.Guid.{IsId, guid_of}
use Rattle.ktm_base.specs.declared.id.Id.{Id}
use Rattle.ktm_base.specs.declared.id.ObjectKind.{ObjectKind}
use Rattle.ktm_world.specs.declared.object.Phase.{Phase}
use Rattle.ktm_world.specs.declared.object.Phase.TheVariants.{Ended}
use Rattle.ktm_world.specs.declared.object.Transaction.{Transaction}
use Rattle.ktm_world.specs.Durable.{is_before}
use Rattle.ktm_world.specs.Enlistments.{Enlistment, Manager, enlistment_at, is_ended, is_live_enlistment, is_live_in, is_superior, manager_at}
use Rattle.ktm_world.specs.Labels.{holds_of}
use Rattle.ktm_world.specs.Present.{Present}
use Rattle.ktm_world.specs.TransactionCalls.{enlistment_with}
use Rattle.ktm_world.specs.Transactions.{is_live, same_id}
use Rattle.ktm_courses.specs.SoundCourse.{IsSoundCourse}
use Rattle.ktm_standing.specs.Laws.{LeadsTo}
use Rattle.ktm_standing.proofs.offered.Guids.{guid_law}
use Rattle.ktm_route.specs.Route.{live_of}
use Rattle.txf_laws.specs.Elements.{each_pair}
use Rattle.txf_laws.proofs.offered.Tables.{before_other, same_id-equal, same_id-from, same_id-sym}

-- ---- Ids

-- two Ids are the same, whichever is named first
same_turned : (a b : Id) → same_id a b ≡ same_id b a
same_turned a b = elim (cases_Bool (same_id a b)) [
  | inl same ↦ same ∙ sym (same_id-from b a (sym (same_id-equal a b same)))
  | inr other ↦ other ∙ sym (same_id-sym a b other)
]

-- the resource manager that is found by an Id has it
pub manager_by_id : (ms : List Manager) (id : Id) → option_map (λ (m : Manager). m.id) (manager_at ms id) ≡ cond (is_some (manager_at ms id)) (Some id) None
manager_by_id [] id = refl
manager_by_id (m ∷ ms) id = elim (cases_Bool (same_id m.id id)) [
  | inl same ↦ rw same (ap Some (same_id-equal m.id id same))
  | inr other ↦ rw other (manager_by_id ms id)
]

module _ {X : Type 0} (id_of : X → Id) (test : X → Bool) where
  -- behind one with an Id none has it, where they stand by rising Id
  none_behind : (xs : List X) (x : X) (id : Id) → list_all (λ y. is_before (id_of x) (id_of y)) xs ≡ true → same_id (id_of x) id ≡ true → find (λ y. test y && same_id (id_of y) id) xs ≡ None
  none_behind [] x id before same = refl
  none_behind (y ∷ ys) x id before same =
      let parts = and_parts (is_before (id_of x) (id_of y)) (list_all (λ z. is_before (id_of x) (id_of z)) ys) before in
      let other : same_id (id_of y) id ≡ false = false_from_ne_true (same_id (id_of y) id)
      (λ also. before_other (id_of x) (id_of y) parts.0 (same_id-equal (id_of x) id same ∙ sym (same_id-equal (id_of y) id also))) in
      ap (λ b. cond (test y && b) (Some y) (find (λ z. test z && same_id (id_of z) id) ys)) other
      ∙ ap (λ b. cond b (Some y) (find (λ z. test z && same_id (id_of z) id) ys)) (and-false (test y))
      ∙ none_behind ys x id parts.1 same

  -- the first that passes a test and has an Id is the one with the Id, if that passes
  found_if : (xs : List X) (id : Id) → each_pair (λ x y. is_before (id_of x) (id_of y)) xs ≡ true
      → find (λ x. test x && same_id (id_of x) id) xs ≡ option_and_then (λ x. cond (test x) (Some x) None) (find (λ x. same_id (id_of x) id) xs)
  found_if [] id rise = refl
  found_if (x ∷ xs) id rise =
      let parts = and_parts (list_all (λ y. is_before (id_of x) (id_of y)) xs) (each_pair (λ y z. is_before (id_of y) (id_of z)) xs) rise in
      elim (cases_Bool (same_id (id_of x) id)) [
        | inl same ↦
            (let none = none_behind xs x id parts.0 same in
            rw same (ap (λ b. cond b (Some x) (find (λ y. test y && same_id (id_of y) id) xs)) (and-true (test x)) ∙ ap (λ rest. cond (test x) (Some x) rest) none))
        | inr other ↦ rw other (ap (λ b. cond b (Some x) (find (λ y. test y && same_id (id_of y) id) xs)) (and-false (test x)) ∙ found_if xs id parts.1)
      ]

-- the enlistment with a GUID is the one with the Id to which that leads, if it is one of the resource manager and live
pub enlistment_by_guid : (x : Present) (m : Manager) (guid : List ℕ) (found : Option Id) → IsSoundCourse x → LeadsTo ObjectKind.Enlistment x.recorded.image guid found
    → option_map (λ (e : Enlistment). e.id) (enlistment_with x (Some m) guid) ≡ option_and_then (λ id. live_of x.transactions m.id (enlistment_at x.transactions.enlistments id)) found
enlistment_by_guid x m guid found sound leads = ap (option_map (λ (e : Enlistment). e.id)) (guid_law.enlistments x m guid found sound leads) ∙ by_id found
  where
    if_so : (so : Bool) (e : Enlistment) → option_map (λ (e : Enlistment). e.id) (cond so (Some e) None) ≡ cond so (Some e.id) None
    if_so true e = refl
    if_so false e = refl

    of_found : (o : Option Enlistment) → option_map (λ (e : Enlistment). e.id) (option_and_then (λ e. cond (same_id e.manager m.id && is_live_enlistment x.transactions.items e) (Some e) None) o) ≡ live_of x.transactions m.id o
    of_found None = refl
    of_found (Some e) = if_so (same_id e.manager m.id && is_live_enlistment x.transactions.items e) e

    by_id : (found : Option Id)
        → option_map (λ (e : Enlistment). e.id) (option_and_then (λ id. find (λ e. same_id e.manager m.id && is_live_enlistment x.transactions.items e && same_id e.id id) x.transactions.enlistments) found)
        ≡ option_and_then (λ id. live_of x.transactions m.id (enlistment_at x.transactions.enlistments id)) found
    by_id None = refl
    by_id (Some id) =
        ap (option_map (λ (e : Enlistment). e.id)) (found_if (λ (e : Enlistment). e.id) (λ e. same_id e.manager m.id && is_live_enlistment x.transactions.items e) x.transactions.enlistments id sound.enlistments.rise)
        ∙ of_found (enlistment_at x.transactions.enlistments id)

-- ---- live enlistments

-- what an enlistment is live by, but for its transaction
abbrev is_live_alone : Enlistment → Bool
is_live_alone e = is_superior e || (not e.is_read_only && not e.is_finished)

-- it is live in its transaction, where that has not ended
live_parts : (t : Transaction) (e : Enlistment) → is_live_in t e ≡ ((is_live t && same_id t.id e.transaction) && is_live_alone e)
live_parts t e = ap (λ b. b && is_live_alone e) (go t.phase)
  where
    go : (phase : Phase) → (same_id e.transaction t.id && not (is_ended phase)) ≡ (is_live (record t { phase = phase }) && same_id t.id e.transaction)
    go Ended = and-false (same_id e.transaction t.id)
    go _ = and-true (same_id e.transaction t.id) ∙ same_turned e.transaction t.id

-- one of two by the same
either_and : (a b c : Bool) → ((a && c) || (b && c)) ≡ ((a || b) && c)
either_and true true true = refl
either_and true true false = refl
either_and true false true = refl
either_and true false false = refl
either_and false b c = refl

live_any : (ts : List Transaction) (e : Enlistment) → is_live_enlistment ts e ≡ (list_any (λ t. is_live t && same_id t.id e.transaction) ts && is_live_alone e)
live_any [] e = refl
live_any (t ∷ ts) e =
    ap (λ b. b || is_live_enlistment ts e) (live_parts t e)
    ∙ ap (λ rest. ((is_live t && same_id t.id e.transaction) && is_live_alone e) || rest) (live_any ts e)
    ∙ either_and (is_live t && same_id t.id e.transaction) (list_any (λ u. is_live u && same_id u.id e.transaction) ts) (is_live_alone e)

live_found : (ts : List Transaction) (e : Enlistment) → holds_of (λ t. is_live_in t e) (find (λ t. is_live t && same_id t.id e.transaction) ts) ≡ (list_any (λ t. is_live t && same_id t.id e.transaction) ts && is_live_alone e)
live_found [] e = refl
live_found (t ∷ ts) e = elim (cases_Bool (is_live t && same_id t.id e.transaction)) [
  | inl here ↦ rw here (live_parts t e ∙ ap (λ b. b && is_live_alone e) here)
  | inr other ↦ rw other (live_found ts e)
]

-- an enlistment is live where it is so in its live transaction, if that is found
pub live_in_found : (ts : List Transaction) (e : Enlistment) (found : Option Transaction) → find (λ t. is_live t && same_id t.id e.transaction) ts ≡ found → is_live_enlistment ts e ≡ holds_of (λ t. is_live_in t e) found
live_in_found ts e found is = live_any ts e ∙ sym (live_found ts e) ∙ ap (holds_of (λ t. is_live_in t e)) is

-- ---- GUIDs

-- the Id that was found for a GUID is the one to which it leads on this image
pub leads_to : (kind : ObjectKind) (n image : ℕ) (guid : List ℕ) (found : Option Id) → n ≡ image → IfSome found (λ id. IsId id × (guid_of kind n id ≡ guid))
    → ((id : Id) → IsId id → guid_of kind n id ≡ guid → found ≡ Some id) → LeadsTo kind image guid found
leads_to kind n image guid None same has every = record { has = tt; every = λ id is its. every id is (ap (λ i. guid_of kind i id) same ∙ its) }
leads_to kind n image guid (Some id) same has every = record { has = ap (λ i. guid_of kind i id) (sym same) ∙ has.1; every = λ id is its. every id is (ap (λ i. guid_of kind i id) same ∙ its) }
