-- Where a transaction's own settings stand, and whose settings there are once one of them has changed or gone.
use Rattle.std.proofs.Common.{◌≡◌, ℕ, ◌<◌, ◌==◌, ◌||◌, true, false, List, [], ◌∷◌, ◌++◌, length, map, suc, position, get_or, set, take, drop, refl, sym, ◌∙◌, ap, arith}
use Rattle.std.specs.Prelude.{MatchOption}
use Rattle.std.specs.List.{list_any, remove}
use Rattle.std.proofs.lemmas.Bool.{and_parts, eqb-true}
use Rattle.std.proofs.Math.Seq.{map-set_same}
use Rattle.std.proofs.lemmas.List.{take-map, drop-map, map-append, get_or-map, length-map}
use Rattle.ktm_base.specs.declared.id.Id.{Id}
use Rattle.ktm_places.specs.Places.{is_its}
use Rattle.ktm_places.proofs.offered.Positions.{by_position}
use Rattle.ktm_world.specs.Keys.{Own}
use Rattle.ktm_world.specs.Transactions.{same_id}
use Rattle.kv_rm.specs.Participant.{has_own}
use Rattle.kv_rm.specs.Place.{IsPlace, IsAbsent}

same_id-equal : (a b : Id) → same_id a b ≡ true → a ≡ b
same_id-equal a b same =
    let parts = and_parts (a.boot == b.boot) (a.number == b.number) same in
    let boot : a.boot ≡ b.boot = eqb-true _ _ parts.0 in
    let number : a.number ≡ b.number = eqb-true _ _ parts.1 in
    λ i. record { boot = boot i; number = number i }

module _ (id : Id) where
  none : IsAbsent [] id
  none = record { has = refl; settings = refl; adds = λ key value. refl; keeps = refl }

  first : (o : Own) (os : List Own) → same_id o.transaction id ≡ true → IsPlace (o ∷ os) id 0
  first o os same = record {
    within = omega arith;
    owner = λ d. same_id-equal o.transaction id same;
    has = rw same refl;
    settings = λ d. rw same refl;
    changes = λ key value d. rw same refl;
    removes = rw same refl;
  }

  absent : (o : Own) (os : List Own) → same_id o.transaction id ≡ false → IsAbsent os id → IsAbsent (o ∷ os) id
  absent o os other is = record {
    has = rw other is.has;
    settings = rw other is.settings;
    adds = λ key value. rw other (ap (λ l. o ∷ l) (is.adds key value));
    keeps = rw other (ap (λ l. o ∷ l) is.keeps);
  }

  later : (o : Own) (os : List Own) (i : ℕ) → same_id o.transaction id ≡ false → IsPlace os id i → IsPlace (o ∷ os) id (suc i)
  later o os i other is = record {
    within = omega (arith, is.within);
    owner = is.owner;
    has = rw other is.has;
    settings = λ d. rw other (is.settings d);
    changes = λ key value d. rw other (ap (λ l. o ∷ l) (is.changes key value d));
    removes = rw other (ap (λ l. o ∷ l) is.removes);
  }

  pub place_at : (own : List Own) → MatchOption (position (λ o. same_id o.transaction id) own) (IsAbsent own id) (IsPlace own id)
  place_at = by_position (λ o. same_id o.transaction id) (λ own. IsAbsent own id) (λ own i. IsPlace own id i) none first absent later

-- whose settings there are
abbrev pub owners : List Own → List Id
owners own = map (λ o. o.transaction) own

pub owners-remove : (own : List Own) (i : ℕ) → owners (remove own i) ≡ remove (owners own) i
owners-remove own i =
    let owner : Own → Id = λ o. o.transaction in
    map-append owner (take i own) (drop (suc i) own) ∙ ap (λ l. l ++ owners (drop (suc i) own)) (sym (take-map owner i own)) ∙ ap (λ l. take i (owners own) ++ l) (sym (drop-map owner (suc i) own))

pub owners-set : (own : List Own) (i : ℕ) (o d : Own) → o.transaction ≡ (get_or own i d).transaction → owners (set own i o) ≡ owners own
owners-set own i o d same = map-set_same (λ (o : Own). o.transaction) own i o d same

pub owner_at : (own : List Own) (id : Id) (i : ℕ) → IsPlace own id i → (i < length (owners own)) × (get_or (owners own) i id ≡ id)
owner_at own id i at =
    let d : Own = record { transaction = id; settings = [] } in
    (rw (length-map own (λ (o : Own). o.transaction)) at.within, get_or-map (λ (o : Own). o.transaction) own i d id at.within ∙ at.owner d)

pub owners-any : (own : List Own) (id : Id) → list_any (is_its id) (owners own) ≡ has_own own id
owners-any [] id = refl
owners-any (o ∷ os) id = ap (λ any. is_its id o.transaction || any) (owners-any os id)
