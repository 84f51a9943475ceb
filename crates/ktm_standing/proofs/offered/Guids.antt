-- Transactions, resource managers and enlistments by their GUIDs.
use Rattle.std.proofs.Common.{◌≡◌, ℕ, ◌^◌, ◌<◌, ◌&&◌, ◌||◌, Bool, true, false, List, [], ◌∷◌, cond, nat_lt, nat_le, Option, Some, None, refl, sym, ◌∙◌, ap, arith, inl, inr}
use Rattle.std.specs.Prelude.{bytes_eq, find, option_and_then}
use Rattle.std.specs.List.{list_all}
use Rattle.std.proofs.lemmas.Bool.{cases_Bool, and_parts, and_right, both_ways, leb-true}
use Rattle.std.proofs.lemmas.Slice.Eq.{bytes_eq-Decides}
use Rattle.ktm_base.specs.declared.limits.TheConstants.{MOST_NUMBER}
use Rattle.ktm_base.specs.declared.id.Id.{Id}
use Rattle.ktm_base.specs.declared.id.ObjectKind.{ObjectKind}
use Rattle.ktm_base.specs.Guid.{IsId, guid_of}
use Rattle.ktm_world.specs.declared.object.Transaction.{Transaction}
use Rattle.ktm_world.specs.Enlistments.{Enlistment, Manager, is_live_enlistment}
use Rattle.ktm_world.specs.Transactions.{same_id, is_of, is_live}
use Rattle.ktm_courses.specs.SoundCourse.{is_counted}
use Rattle.ktm_standing.specs.Laws.{GuidLaw, LeadsTo}
use Rattle.txf_laws.proofs.offered.Tables.{same_id-equal, same_id-from}

-- an Id has the GUID where the GUID leads to it, and only there
leads : (kind : ObjectKind) (image : ℕ) (guid : List ℕ) (found : Option Id) (id : Id) → LeadsTo kind image guid found → IsId id → bytes_eq (guid_of kind image id) guid ≡ is_of id found
leads kind image guid None id leads_to is = elim (cases_Bool (bytes_eq (guid_of kind image id) guid)) [
  | inl same ↦ (let wrong : None ≡ Some id = leads_to.every id is ((bytes_eq-Decides (guid_of kind image id) guid).0 same) in absurd (cc))
  | inr other ↦ other
]
leads kind image guid (Some there) id leads_to is = elim (cases_Bool (bytes_eq (guid_of kind image id) guid)) [
  | inl same ↦
      (let to : Some there ≡ Some id = leads_to.every id is ((bytes_eq-Decides (guid_of kind image id) guid).0 same) in
      let there_is : there ≡ id = cc in
      same ∙ sym (ap (same_id id) there_is ∙ same_id-from id id refl))
  | inr other ↦ elim (cases_Bool (same_id id there)) [
    | inl same ↦
        (let has = (bytes_eq-Decides (guid_of kind image id) guid).1 (ap (guid_of kind image) (same_id-equal id there same) ∙ leads_to.has) in
        absurd (both_ways (bytes_eq (guid_of kind image id) guid) other has))
    | inr differs ↦ other ∙ sym differs
  ]
]

-- an Id that was counted is one of the system
pub counted_id : (boots last : ℕ) (id : Id) → boots < 2 ^ 32 → is_counted boots last id ≡ true → IsId id
counted_id boots last id fits counted =
    let all = and_parts _ (nat_lt id.boot boots || nat_le id.number last) counted in
    let most = and_parts _ (nat_le id.number MOST_NUMBER) all.0 in
    let from = and_parts _ (nat_le 1 id.number) most.0 in
    let boot = and_parts (nat_le 1 id.boot) (nat_le id.boot boots) from.0 in
    record {
      boot_from = leb-true _ _ boot.0;
      boot_fits = omega (arith, fits, leb-true _ _ boot.1);
      number_from = leb-true _ _ from.1;
      number_fits = omega (arith, leb-true _ _ most.1);
    }

module _ {X : Type 0} (test : X → Bool) (id_of : X → Id) where
  -- where there is no Id, none is found
  find_of : (xs : List X) (found : Option Id) → find (λ x. test x && is_of (id_of x) found) xs ≡ option_and_then (λ id. find (λ x. test x && same_id (id_of x) id) xs) found
  find_of xs (Some id) = refl
  find_of xs None = none xs
    where
      none : (xs : List X) → find (λ x. test x && false) xs ≡ None
      none [] = refl
      none (x ∷ xs) = ap (λ b. cond b (Some x) (find (λ x. test x && false) xs)) (and_right (test x) false refl) ∙ none xs

  -- the first of those that pass with a GUID is the first with the Id that it leads to
  find_alike : (kind : ObjectKind) (boots last image : ℕ) (guid : List ℕ) (found : Option Id) (xs : List X) → boots < 2 ^ 32 → LeadsTo kind image guid found → list_all (λ x. is_counted boots last (id_of x)) xs ≡ true
      → find (λ x. test x && bytes_eq (guid_of kind image (id_of x)) guid) xs ≡ find (λ x. test x && is_of (id_of x) found) xs
  find_alike kind boots last image guid found [] fits leads_to counted = refl
  find_alike kind boots last image guid found (x ∷ xs) fits leads_to counted =
      let parts = and_parts (is_counted boots last (id_of x)) (list_all (λ x. is_counted boots last (id_of x)) xs) counted in
      ap (λ b. cond (test x && b) (Some x) (find (λ x. test x && bytes_eq (guid_of kind image (id_of x)) guid) xs)) (leads kind image guid found (id_of x) leads_to (counted_id boots last (id_of x) fits parts.0))
      ∙ ap (λ rest. cond (test x && is_of (id_of x) found) (Some x) rest) (find_alike kind boots last image guid found xs fits leads_to parts.1)

  found_by_guid : (kind : ObjectKind) (boots last image : ℕ) (guid : List ℕ) (found : Option Id) (xs : List X) → boots < 2 ^ 32 → LeadsTo kind image guid found → list_all (λ x. is_counted boots last (id_of x)) xs ≡ true
      → find (λ x. test x && bytes_eq (guid_of kind image (id_of x)) guid) xs ≡ option_and_then (λ id. find (λ x. test x && same_id (id_of x) id) xs) found
  found_by_guid kind boots last image guid found xs fits leads_to counted = find_alike kind boots last image guid found xs fits leads_to counted ∙ find_of xs found

pub guid_law : GuidLaw
guid_law = record {
  transactions = λ x guid found course leads_to.
      found_by_guid is_live (λ (t : Transaction). t.id) ObjectKind.Transaction x.recorded.boots x.transactions.last_transaction x.recorded.image guid found x.transactions.items course.numbers.boots_fit leads_to course.transactions.counted;
  managers = λ x guid found course leads_to.
      found_by_guid (λ m. true) (λ (m : Manager). m.id) ObjectKind.Manager x.recorded.boots x.transactions.last_manager x.recorded.image guid found x.managers course.numbers.boots_fit leads_to course.managers.counted;
  enlistments = λ x m guid found course leads_to.
      found_by_guid (λ e. same_id e.manager m.id && is_live_enlistment x.transactions.items e) (λ (e : Enlistment). e.id) ObjectKind.Enlistment x.recorded.boots x.transactions.last_enlistment x.recorded.image guid found
      x.transactions.enlistments course.numbers.boots_fit leads_to course.enlistments.counted;
}
