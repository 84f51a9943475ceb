-- The place of one transaction among those that the log has, by rising Id.
use Rattle.std.specs.Prelude.{if◌then◌else◌}
use Rattle.std.proofs.Common.{◌≡◌, Bool, true, false, List, [], ◌∷◌, ◌++◌, map, Option, Some, None, refl, sym, ◌∙◌, ap, subst, inl, inr}
use Rattle.std.proofs.lemmas.Bool.{cases_Bool, and_parts, false_from_ne_true}
use Rattle.std.proofs.lemmas.Grind.{flat_map-append}
use Rattle.std.proofs.lemmas.Option.{none-some, same_Some}
use Rattle.std.specs.List.{flat_map, list_all}
use Rattle.ktm_base.specs.declared.id.Id.{Id}
use Rattle.ktm_world.specs.declared.object.Transaction.{Transaction}
use Rattle.ktm_world.specs.Durable.{Recorded, is_before, recorded_at, recorded_or_new, while_not_done, with_recorded, without_recorded}
use Rattle.ktm_world.specs.Transactions.{change_at, same_id}
use Rattle.txf_laws.specs.Elements.{IsIn, each_pair}
use Rattle.txf_laws.proofs.offered.Elements.{each_pair-across, each_pair-right, first-same, list_all-at, rest-same, some-not_none}
use Rattle.txf_laws.proofs.offered.OwnGroups.{is_open}
use Rattle.txf_laws.proofs.offered.Tables.{before_other, fresh, is_before-then, same_id-equal, same_id-from}

-- ---- one among transactions

-- those before it, and those behind it
pub record Place (ts : List Transaction) (t : Transaction) : Type 0 where
  pub before : List Transaction
  pub behind : List Transaction
  pub all : ts ≡ before ++ t ∷ behind
  pub earlier : (u : Transaction) → IsIn u before → is_before u.id t.id ≡ true
  pub later : (u : Transaction) → IsIn u behind → is_before t.id u.id ≡ true

-- does the first transaction come before the second
abbrev comes_before : Transaction → Transaction → Bool
comes_before t u = is_before t.id u.id

parted : (ts : List Transaction) (t : Transaction) → IsIn t ts → (before : List Transaction) × (behind : List Transaction) × (ts ≡ before ++ t ∷ behind)
parted [] t there = absurd there
parted (a ∷ ts) t (inl same) = ([], ts, ap (λ u. u ∷ ts) same)
parted (a ∷ ts) t (inr there) = let rest = parted ts t there in (a ∷ rest.0, rest.1, ap (λ us. a ∷ us) rest.2)

pub place : (ts : List Transaction) (t : Transaction) → each_pair comes_before ts ≡ true → IsIn t ts → Place ts t
place ts t rise there =
    let at = parted ts t there in
    let rises : each_pair comes_before (at.0 ++ t ∷ at.1) ≡ true = subst (λ us. each_pair comes_before us ≡ true) at.2 rise in
    let behind = each_pair-right comes_before at.0 (t ∷ at.1) rises in
    record {
      before = at.0;
      behind = at.1;
      all = at.2;
      earlier = λ u there'. each_pair-across comes_before at.0 (t ∷ at.1) rises u t there' (inl refl);
      later = λ u there'. list_all-at (comes_before t) at.1 (and_parts (list_all (comes_before t) at.1) (each_pair comes_before at.1) behind).0 u there';
    }

pub earlier-other : (a b : Id) → is_before a b ≡ true → same_id a b ≡ false
earlier-other a b is = false_from_ne_true _ (λ same. before_other a b is (same_id-equal a b same))

pub later-other : (a b : Id) → is_before a b ≡ true → same_id b a ≡ false
later-other a b is = false_from_ne_true _ (λ same. before_other a b is (sym (same_id-equal b a same)))

-- what comes before another does not come behind it
pub before-not : (a b : Id) → is_before a b ≡ true → is_before b a ≡ false
before-not a b is = false_from_ne_true _ (λ back. before_other a a (is_before-then a b a is back) refl)

-- another one in its place
pub placed : (before behind : List Transaction) (t u : Transaction) → ((v : Transaction) → IsIn v before → is_before v.id t.id ≡ true) → change_at (before ++ t ∷ behind) t.id (λ v. u) ≡ before ++ u ∷ behind
placed [] behind t u earlier = rw (same_id-from t.id t.id refl) refl
placed (a ∷ before) behind t u earlier = rw (earlier-other a.id t.id (earlier a (inl refl))) (ap (λ us. a ∷ us) (placed before behind t u (λ v there. earlier v (inr there))))

-- what is gathered of all of them
pub gathered-at : {Y : Type 0} (f : Transaction → List Y) (before behind : List Transaction) (t : Transaction) → flat_map f (before ++ t ∷ behind) ≡ flat_map f before ++ (f t ++ flat_map f behind)
gathered-at f before behind t = flat_map-append f before (t ∷ behind)

-- ---- one among those that were recorded

-- it, if it is there
abbrev pub if_there : Option Recorded → List Recorded
if_there None = []
if_there (Some r) = r ∷ []

-- it, or a new one that is ready
abbrev pub or_new : Option Recorded → Id → Recorded
or_new None id = fresh id
or_new (Some r) id = r

-- it, while a part of it is not done
abbrev pub while_open : Recorded → Option Recorded
while_open r = if is_open r then Some r else None

pub in-while : (r q : Recorded) → IsIn q (if_there (while_open r)) → r ≡ q
in-while r q = go (is_open r)
  where
    go : (b : Bool) → IsIn q (if_there (if b then Some r else None)) → r ≡ q
    go true (inl same) = same
    go true (inr none) = absurd none
    go false none = absurd none

-- the transactions are those before this Id, at most one that has it, and those behind it
pub record Among (ts : List Recorded) (id : Id) (before : List Recorded) (o : Option Recorded) (behind : List Recorded) : Type 0 where
  pub all : ts ≡ before ++ (if_there o ++ behind)
  pub itself : (r : Recorded) → o ≡ Some r → r.id ≡ id
  pub earlier : (u : Recorded) → IsIn u before → is_before u.id id ≡ true
  pub later : (u : Recorded) → IsIn u behind → is_before id u.id ≡ true

recorded_at-behind : (behind : List Recorded) (id : Id) → ((u : Recorded) → IsIn u behind → is_before id u.id ≡ true) → recorded_at behind id ≡ None
recorded_at-behind [] id later = refl
recorded_at-behind (u ∷ us) id later = rw (later-other id u.id (later u (inl refl))) (recorded_at-behind us id (λ v there. later v (inr there)))

pub recorded_at-among : {ts : List Recorded} {id : Id} {before : List Recorded} {o : Option Recorded} {behind : List Recorded} → Among ts id before o behind → recorded_at ts id ≡ o
recorded_at-among {ts} {id} {before} {o} {behind} among = ap (λ us. recorded_at us id) among.all ∙ go before among.earlier
  where
    here : (o : Option Recorded) → ((r : Recorded) → o ≡ Some r → r.id ≡ id) → recorded_at (if_there o ++ behind) id ≡ o
    here None itself = recorded_at-behind behind id among.later
    here (Some r) itself = rw (same_id-from r.id id (itself r refl)) refl

    go : (before : List Recorded) → ((u : Recorded) → IsIn u before → is_before u.id id ≡ true) → recorded_at (before ++ (if_there o ++ behind)) id ≡ o
    go [] earlier = here o among.itself
    go (u ∷ us) earlier = rw (earlier-other u.id id (earlier u (inl refl))) (go us (λ v there. earlier v (inr there)))

recorded_or_new-at : (ts : List Recorded) (id : Id) → recorded_or_new ts id ≡ or_new (recorded_at ts id) id
recorded_or_new-at [] id = refl
recorded_or_new-at (t ∷ ts) id = elim (cases_Bool (same_id t.id id)) [ inl same ↦ rw same refl | inr other ↦ rw other (recorded_or_new-at ts id) ]

pub recorded_or_new-among : {ts : List Recorded} {id : Id} {before : List Recorded} {o : Option Recorded} {behind : List Recorded} → Among ts id before o behind → recorded_or_new ts id ≡ or_new o id
recorded_or_new-among {ts} {id} {before} {o} {behind} among = recorded_or_new-at ts id ∙ ap (λ o. or_new o id) (recorded_at-among among)

pub or_new-id : (o : Option Recorded) (id : Id) → ((r : Recorded) → o ≡ Some r → r.id ≡ id) → (or_new o id).id ≡ id
or_new-id None id itself = refl
or_new-id (Some r) id itself = itself r refl

-- another one in its place
pub among-with : {ts : List Recorded} {id : Id} {before : List Recorded} {o : Option Recorded} {behind : List Recorded} → Among ts id before o behind → (r : Recorded) → r.id ≡ id → Among (with_recorded ts r) id before (Some r) behind
among-with {ts} {id} {before} {o} {behind} among r same = record {
  all = ap (λ us. with_recorded us r) among.all ∙ go before among.earlier;
  itself = λ u is. ap (λ (v : Recorded). v.id) (sym (same_Some r u is)) ∙ same;
  earlier = among.earlier;
  later = among.later;
}
  where
    last : (behind : List Recorded) → ((u : Recorded) → IsIn u behind → is_before id u.id ≡ true) → with_recorded behind r ≡ r ∷ behind
    last [] later = refl
    last (u ∷ us) later =
        let behind' : is_before r.id u.id ≡ true = subst (λ id. is_before id u.id ≡ true) (sym same) (later u (inl refl)) in rw (later-other r.id u.id behind', behind') refl

    here : (o : Option Recorded) → ((r : Recorded) → o ≡ Some r → r.id ≡ id) → with_recorded (if_there o ++ behind) r ≡ r ∷ behind
    here None itself = last behind among.later
    here (Some u) itself = rw (same_id-from u.id r.id (itself u refl ∙ sym same)) refl

    go : (before : List Recorded) → ((u : Recorded) → IsIn u before → is_before u.id id ≡ true) → with_recorded (before ++ (if_there o ++ behind)) r ≡ before ++ (r ∷ behind)
    go [] earlier = here o among.itself
    go (u ∷ us) earlier =
        let before' : is_before u.id r.id ≡ true = subst (λ id. is_before u.id id ≡ true) (sym same) (earlier u (inl refl)) in
        rw (earlier-other u.id r.id before', before-not u.id r.id before') (ap (λ vs. u ∷ vs) (go us (λ v there. earlier v (inr there))))

-- none in its place, once the one with this Id is taken out
pub among-without : {ts : List Recorded} {id : Id} {before : List Recorded} {o : Option Recorded} {behind : List Recorded} → Among ts id before o behind → Among (without_recorded ts id) id before None behind
among-without {ts} {id} {before} {o} {behind} among = record {
  all = ap (λ us. without_recorded us id) among.all ∙ go before among.earlier;
  itself = λ r none. absurd (none-some r none);
  earlier = among.earlier;
  later = among.later;
}
  where
    last : (behind : List Recorded) → ((u : Recorded) → IsIn u behind → is_before id u.id ≡ true) → without_recorded behind id ≡ behind
    last [] later = refl
    last (u ∷ us) later = rw (later-other id u.id (later u (inl refl))) (ap (λ vs. u ∷ vs) (last us (λ v there. later v (inr there))))

    here : (o : Option Recorded) → ((r : Recorded) → o ≡ Some r → r.id ≡ id) → without_recorded (if_there o ++ behind) id ≡ behind
    here None itself = last behind among.later
    here (Some r) itself = rw (same_id-from r.id id (itself r refl)) (last behind among.later)

    go : (before : List Recorded) → ((u : Recorded) → IsIn u before → is_before u.id id ≡ true) → without_recorded (before ++ (if_there o ++ behind)) id ≡ before ++ behind
    go [] earlier = here o among.itself
    go (u ∷ us) earlier = rw (earlier-other u.id id (earlier u (inl refl))) (ap (λ vs. u ∷ vs) (go us (λ v there. earlier v (inr there))))

-- it stays while a part of it is not done
pub among-while : {ts : List Recorded} {id : Id} {before : List Recorded} {o : Option Recorded} {behind : List Recorded} → Among ts id before o behind → (r : Recorded) → r.id ≡ id
    → Among (while_not_done ts r) id before (while_open r) behind
among-while {ts} {id} {before} {o} {behind} among r same = elim (cases_Bool (is_open r)) [
  | inl stays ↦ rw stays (among-with among r same)
  | inr closed ↦ rw closed (subst (λ i. Among (without_recorded ts i) id before None behind) (sym same) (among-without among))
]

-- ---- lists in two parts

-- what two lists gather was gathered of two parts
pub unmap-append : {X Y : Type 0} (f : X → Y) (xs : List X) (ls ms : List Y) → map f xs ≡ ls ++ ms → (ys : List X) × (zs : List X) × (xs ≡ ys ++ zs) × (map f ys ≡ ls) × (map f zs ≡ ms)
unmap-append f xs [] ms all = ([], xs, refl, refl, all)
unmap-append f [] (a ∷ ls) ms all = absurd (some-not_none a (ls ++ ms) (sym all))
unmap-append f (x ∷ xs) (a ∷ ls) ms all =
    let rest = unmap-append f xs ls ms (rest-same (f x) a (map f xs) (ls ++ ms) all) in
    (x ∷ rest.0, rest.1, ap (λ us. x ∷ us) rest.2, (λ i. first-same (f x) a (map f xs) (ls ++ ms) all i ∷ rest.3 i), rest.4)
