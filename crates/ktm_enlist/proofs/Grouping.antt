-- The groups of all transactions, where one enlistment is changed, and where one more comes.
use Rattle.std.proofs.Common.{◌≡◌, ℕ, zero, suc, ◌+◌, ◌<◌, ◌^◌, ◌&&◌, Bool, true, false, List, [], ◌∷◌, ◌++◌, length, get_or, map, insert, IfSome, MatchOption, Option, Some, None, refl, sym, ◌∙◌, ap, subst, arith, inl, inr}
use mathlib.Core.Bool.{beq}
use Rattle.std.specs.Prelude.{if◌then◌else◌, Err, MatchResult, Ok, Result}
use Rattle.std.specs.List.Sorted.{IsBinarySearchResult, IsSearchInRange}
use Rattle.std.specs.List.{AllByRecursion, list_all}
use Rattle.std.proofs.lemmas.Bool.{and_parts, cases_Bool}
use Rattle.ktm_base.specs.declared.id.Id.{Id}
use Rattle.ktm_world.specs.declared.options.EnlistmentKind.{EnlistmentKind}
use Rattle.ktm_world.specs.Durable.{is_before}
use Rattle.ktm_world.specs.Enlistments.{Enlistment, is_superior}
use Rattle.ktm_world.specs.Transactions.{same_id}
use Rattle.txf_laws.proofs.offered.Tables.{same_id-equal, same_id-from, same_id-sym}
use Rattle.ktm_manager.specs.Rising.{are_rising, id_order, IsAt, IsNowhere}
use Rattle.ktm_manager.proofs.offered.Places.{found, gap_rises, missing}
use Rattle.ktm_enlist.specs.declared.group.Group.{Group}
use Rattle.ktm_enlist.specs.declared.standing.Standing.{Standing}
use Rattle.ktm_enlist.specs.Groups.{fresh, group_id, joined, joined_all, recounted, regrouped, regrouped_all, superior_with, AreGrouped, GroupFor, HasBegun, HasJoined, IsCounted, IsGap, IsGroup, IsGroupOf, IsPlace, MayRecount, MayRegroup, MayRegroupAll}
use Rattle.ktm_enlist.specs.Places.{changed, is_own, is_superior_of, linked, links, place_from, HasNone, IsLastAt}
use Rattle.ktm_enlist.specs.Standing.{nothing, standing_of}
use Rattle.ktm_enlist.proofs.Counting.{Stands, counted_changed, counted_fits, counted_kept, counted_push, counted_same, none_counted, push_fits, stands_not, stands_own}
use Rattle.ktm_enlist.proofs.Places.{from_none, last_changed, last_push, last_push_other, last_within, links_begun, links_changed, links_joined, links_length, none_changed, none_push, none_too, or_place, place_changed, place_push, place_push_first, place_push_other, place_push_there}

-- ---- groups in a row

-- what is asked of the transactions alone is so of changed groups
mapped_all : (h : Group → Group) → ((g : Group) → (h g).transaction ≡ g.transaction) → (id : Id) (gs : List Group)
    → list_all (λ (g : Group). is_before id g.transaction) (map h gs) ≡ list_all (λ (g : Group). is_before id g.transaction) gs
mapped_all h same id [] = refl
mapped_all h same id (g ∷ gs) = rw (same g, mapped_all h same id gs) refl

-- groups of the same transactions are in the same order
mapped_rising : (h : Group → Group) → ((g : Group) → (h g).transaction ≡ g.transaction) → (gs : List Group) → are_rising group_id (map h gs) ≡ are_rising group_id gs
mapped_rising h same [] = refl
mapped_rising h same (g ∷ gs) = rw (same g, mapped_all h same g.transaction gs, mapped_rising h same gs) refl

-- a transaction that has no group has none among groups of the same transactions
mapped_nowhere : (h : Group → Group) → ((g : Group) → (h g).transaction ≡ g.transaction) → (gs : List Group) (id : Id) → IsNowhere group_id (map h gs) id → IsNowhere group_id gs id
mapped_nowhere h same [] id nowhere = tt
mapped_nowhere h same (g ∷ gs) id nowhere = (ap (λ (own : Id). same_id own id) (sym (same g)) ∙ nowhere.0, mapped_nowhere h same gs id nowhere.1)

-- a group that may be changed is of the same transaction
keeps_id : (test : Bool) (g h : Group) → h.transaction ≡ g.transaction → (if test then h else g).transaction ≡ g.transaction
keeps_id true g h same = same
keeps_id false g h same = refl

-- what has no group with one more had none before
inserted_nowhere : (gs : List Group) (i : ℕ) (g : Group) (id : Id) → IsNowhere group_id (insert gs i g) id → (same_id g.transaction id ≡ false) × IsNowhere group_id gs id
inserted_nowhere gs zero g id nowhere = nowhere
inserted_nowhere [] (suc i) g id nowhere = nowhere
inserted_nowhere (x ∷ xs) (suc i) g id nowhere = let rest = inserted_nowhere xs i g id nowhere.1 in (rest.0, (nowhere.0, rest.1))

-- what is so of all and of one more is so with it
inserted_all : (P : Group → Type 0) (gs : List Group) (i : ℕ) (g : Group) → AllByRecursion P gs → P g → AllByRecursion P (insert gs i g)
inserted_all P gs zero g all is = (is, all)
inserted_all P [] (suc i) g all is = (is, all)
inserted_all P (x ∷ xs) (suc i) g all is = (all.0, inserted_all P xs i g all.1 is)

-- what is so of all groups is so of that of a transaction
pub group_at : (P : Group → Type 0) (gs : List Group) (id : Id) (i : ℕ) (d : Group) → AllByRecursion P gs → IsAt group_id gs id i → P (get_or gs i d) × (same_id (get_or gs i d).transaction id ≡ true)
group_at P [] id i d all at = absurd at
group_at P (g ∷ gs) id zero d all at = (all.0, at.0)
group_at P (g ∷ gs) id (suc i) d all at = group_at P gs id i d all.1 at.1

-- what is so of all groups is so of that of a transaction, and it is of that transaction
group_is : (P : Group → Type 0) (gs : List Group) (id : Id) (g : Group) → AllByRecursion P gs → IsGroupOf gs id g → P g × (g.transaction ≡ id)
group_is P gs id g all of =
    let at = group_at P gs id of.place g all of.here in
    (subst P (sym (of.is g)) at.0, ap (λ (x : Group). x.transaction) (of.is g) ∙ same_id-equal _ _ at.1)

-- a transaction that has a group is another than one that has none
has_other : (gs : List Group) (id other : Id) (i : ℕ) → IsAt group_id gs id i → IsNowhere group_id gs other → same_id id other ≡ false
has_other [] id other i at nowhere = absurd at
has_other (g ∷ gs) id other zero at nowhere = subst (λ (x : Id). same_id x other ≡ false) (same_id-equal g.transaction id at.0) nowhere.0
has_other (g ∷ gs) id other (suc i) at nowhere = has_other gs id other i at.1 nowhere.1

-- ---- what counts as it did

-- truth values that are tested to be the same are
same_if : (a b : Bool) → beq a b ≡ true → a ≡ b
same_if true true same = refl
same_if true false same = sym same
same_if false true same = same
same_if false false same = refl

-- the first of the tests, and the rest
split : (a b rest : Bool) → (beq a b && rest) ≡ true → (a ≡ b) × (rest ≡ true)
split a b rest both = let parts = and_parts (beq a b) rest both in (same_if a b parts.0, parts.1)

-- is one standing the other
abbrev are_same : Standing → Standing → Bool
are_same was is =
    beq was.takes_part is.takes_part && (beq was.asks is.asks && (beq was.in_one_phase is.in_one_phase && (beq was.owes is.owes && (beq was.is_unfinished is.is_unfinished && beq was.is_live is.is_live))))

-- standings that are tested to be the same are
standing_from : (was is : Standing) → are_same was is ≡ true → was ≡ is
standing_from was is same =
    let part = split was.takes_part is.takes_part _ same in
    let asking = split was.asks is.asks _ part.1 in
    let in_one_phase = split was.in_one_phase is.in_one_phase _ asking.1 in
    let owing = split was.owes is.owes _ in_one_phase.1 in
    let unfinished = split was.is_unfinished is.is_unfinished _ owing.1 in
    let live = same_if was.is_live is.is_live unfinished.1 in
    λ i. record { takes_part = part.0 i; asks = asking.0 i; in_one_phase = in_one_phase.0 i; owes = owing.0 i; is_unfinished = unfinished.0 i; is_live = live i }

-- a count of which one share is taken and given back is itself
recounted_same : (n : ℕ) (b : Bool) → MayRecount n b b → n ≡ recounted n b b
recounted_same n b may = omega (arith, may.0)

-- a group of which one standing is taken and given back is itself
regrouped_same : (g : Group) (s : Standing) → MayRegroup g s s → g ≡ regrouped s s g
regrouped_same g s may = λ i. record g {
  counts = record {
    enlistments = recounted_same g.counts.enlistments s.takes_part may.parts i;
    asking = recounted_same g.counts.asking s.asks may.asking i;
    in_one_phase = recounted_same g.counts.in_one_phase s.in_one_phase may.in_one_phase i;
    owing = recounted_same g.counts.owing s.owes may.owing i;
  };
  unfinished = recounted_same g.unfinished s.is_unfinished may.unfinished i;
  live = recounted_same g.live s.is_live may.live i;
}

-- groups of which one standing is taken and given back are themselves
all_same : (gs : List Group) (id : Id) (s : Standing) → MayRegroupAll gs id s s → gs ≡ regrouped_all id s s gs
all_same [] id s may = refl
all_same (g ∷ gs) id s may = elim (cases_Bool (same_id g.transaction id)) [
  | inl own ↦ rw own (ap (λ (x : Group). x ∷ gs) (regrouped_same g s (may.0 own)) ∙ ap (λ (l : List Group). regrouped s s g ∷ l) (all_same gs id s may.1))
  | inr other ↦ rw other (ap (λ (l : List Group). g ∷ l) (all_same gs id s may.1))
]

-- where the standing is as it was, so are the groups
pub same_regrouped : (gs : List Group) (id : Id) (was is : Standing) → MayRegroupAll gs id was is → true ≡ are_same was is → gs ≡ regrouped_all id was is gs
same_regrouped gs id was is may same =
    let equal = standing_from was is (sym same) in
    all_same gs id was (subst (λ (s : Standing). MayRegroupAll gs id was s) (sym equal) may) ∙ ap (λ (s : Standing). regrouped_all id was s gs) equal

-- ---- what is found

-- where a search by halves ends, the group of the transaction stands, or would stand
pub searched : (gs : List Group) (id : Id) (r : Result ℕ ℕ) → are_rising group_id gs ≡ true → IsSearchInRange r (length gs) → IsBinarySearchResult (λ g. id_order g.transaction id) gs r
    → MatchResult r (IsPlace gs id) (IsGap gs id)
searched gs id (Ok i) rises within result = record { here = found group_id gs id i rises within result; within = within }
searched gs id (Err i) rises within result = record { nowhere = missing group_id gs id i rises within result; within = within; rises = λ g same. gap_rises group_id gs id i g rises same result }

-- the group that is found is what is kept of the transaction
pub group_for : (es : List Enlistment) (next : List (Option ℕ)) (gs : List Group) (id : Id) (o : Option Group) → AreGrouped es next gs → MatchOption o (IsNowhere group_id gs id) (IsGroupOf gs id) → GroupFor es id o
group_for es next gs id None are found = are.others id found
group_for es next gs id (Some g) are found = group_is (IsGroup es) gs id g are.each found

-- ---- one enlistment is changed

-- what stays as it is of an enlistment that is changed
pub record Keeps (f : Enlistment → Enlistment) : Type 0 where
  pub id : (e : Enlistment) → (f e).id ≡ e.id
  pub transaction : (e : Enlistment) → (f e).transaction ≡ e.transaction
  pub kind : (e : Enlistment) → (f e).kind ≡ e.kind

-- it stays of its transaction
own_kept : (f : Enlistment → Enlistment) → Keeps f → (id : Id) (e : Enlistment) → is_own id (f e) ≡ is_own id e
own_kept f keeps id e = ap (λ (t : Id). same_id t id) (keeps.transaction e)

-- it stays the superior, if it was
superior_kept : (f : Enlistment → Enlistment) → Keeps f → (id : Id) (e : Enlistment) → is_superior_of id (f e) ≡ is_superior_of id e
superior_kept f keeps id e =
    rw (keeps.transaction e) (ap (λ (k : EnlistmentKind). same_id e.transaction id && (elim k as (λ _. Bool) [ EnlistmentKind.Superior ↦ true | _ ↦ false ])) (keeps.kind e))

module _ (f : Enlistment → Enlistment) (keeps : Keeps f) (es : List Enlistment) (i : ℕ) (d : Enlistment) (within : i < length es) where
  -- the places of a group are as they were
  places_kept : (g h : Group) → h.transaction ≡ g.transaction → h.superior ≡ g.superior → h.first ≡ g.first → h.last ≡ g.last → IsGroup es g → IsCounted (changed f es i) h → IsGroup (changed f es i) h
  places_kept g h same superior first last is counted = record {
    counted = counted;
    superior =
        superior ∙ is.superior ∙ ap (λ (id : Id). place_from (is_superior_of id) 0 es) (sym same)
        ∙ sym (place_changed (is_superior_of h.transaction) f (superior_kept f keeps h.transaction) 0 es i);
    first =
        place_changed (is_own h.transaction) f (own_kept f keeps h.transaction) 0 es i
        ∙ ap (λ (id : Id). place_from (is_own id) 0 es) same ∙ is.first ∙ ap (λ (n : ℕ). Some n) (sym first);
    last =
        last_changed (is_own h.transaction) f (own_kept f keeps h.transaction) es i h.last
        (subst (λ (n : ℕ). IsLastAt (is_own h.transaction) es n) (sym last) (subst (λ (id : Id). IsLastAt (is_own id) es g.last) (sym same) is.last));
  }

  -- what it counted for, and what it counts for
  abbrev was : Standing
  was = standing_of (get_or es i d)

  abbrev now : Standing
  now = standing_of (f (get_or es i d))

  -- that a group is of the transaction, from the other side
  turned : (g : Group) → same_id g.transaction (get_or es i d).transaction ≡ true → is_own g.transaction (get_or es i d) ≡ true
  turned g same = same_id-from (get_or es i d).transaction g.transaction (sym (same_id-equal g.transaction (get_or es i d).transaction same))

  -- the group of its transaction counts it anew
  own_group : (g : Group) → same_id g.transaction (get_or es i d).transaction ≡ true → IsGroup es g → IsGroup (changed f es i) (regrouped was now g)
  own_group g same is =
      let own = turned g same in
      places_kept g (regrouped was now g) refl refl refl refl is
      (counted_changed f es i d g was now within is.counted (stands_own g.transaction (get_or es i d) own) (stands_own g.transaction (f (get_or es i d)) (own_kept f keeps g.transaction (get_or es i d) ∙ own)))

  -- another group is as it was
  other_group : (g : Group) → same_id g.transaction (get_or es i d).transaction ≡ false → IsGroup es g → IsGroup (changed f es i) g
  other_group g other is =
      let not_own = same_id-sym g.transaction (get_or es i d).transaction other in
      places_kept g g refl refl refl refl is
      (counted_kept f es i d g nothing within is.counted (stands_not g.transaction (get_or es i d) not_own)
      (stands_not g.transaction (f (get_or es i d)) (own_kept f keeps g.transaction (get_or es i d) ∙ not_own)))

  -- each group stands for the enlistments with the one that is changed
  each_changed : (gs : List Group) → AllByRecursion (IsGroup es) gs → AllByRecursion (IsGroup (changed f es i)) (regrouped_all (get_or es i d).transaction was now gs)
  each_changed [] all = tt
  each_changed (g ∷ gs) all = (
    elim (cases_Bool (same_id g.transaction (get_or es i d).transaction)) [
      | inl same ↦ rw same (own_group g same all.0)
      | inr other ↦ rw other (other_group g other all.0)
    ],
    each_changed gs all.1,
  )

  -- the groups stand for the enlistments where that of the changed one counts it anew
  pub grouped_changed : (next : List (Option ℕ)) (gs : List Group) → AreGrouped es next gs
      → AreGrouped (changed f es i) next (regrouped_all (get_or es i d).transaction (standing_of (get_or es i d)) (standing_of (f (get_or es i d))) gs)
  grouped_changed next gs are =
      let keep = λ (g : Group). keeps_id (same_id g.transaction (get_or es i d).transaction) g (regrouped was now g) refl in
      record {
        rising = mapped_rising _ keep gs ∙ are.rising;
        each = each_changed gs are.each;
        others = λ id nowhere. none_changed (is_own id) f (own_kept f keeps id) es i (are.others id (mapped_nowhere _ keep gs id nowhere));
        chained = are.chained ∙ sym (links_changed f keeps.transaction 0 es i);
      }

  -- they stand for them as they are where it counts as it did
  each_kept : now ≡ was → (gs : List Group) → AllByRecursion (IsGroup es) gs → AllByRecursion (IsGroup (changed f es i)) gs
  each_kept same [] all = tt
  each_kept same (g ∷ gs) all = (
    elim (cases_Bool (same_id g.transaction (get_or es i d).transaction)) [
      | inl own ↦
          let before = turned g own in
          places_kept g g refl refl refl refl all.0
          (counted_kept f es i d g was within all.0.counted (stands_own g.transaction (get_or es i d) before)
          (subst (Stands g.transaction (f (get_or es i d))) same (stands_own g.transaction (f (get_or es i d)) (own_kept f keeps g.transaction (get_or es i d) ∙ before))))
      | inr other ↦ other_group g other all.0
    ],
    each_kept same gs all.1,
  )

  pub grouped_kept : standing_of (f (get_or es i d)) ≡ standing_of (get_or es i d) → (next : List (Option ℕ)) (gs : List Group) → AreGrouped es next gs → AreGrouped (changed f es i) next gs
  grouped_kept same next gs are = record {
    rising = are.rising;
    each = each_kept same gs are.each;
    others = λ id nowhere. none_changed (is_own id) f (own_kept f keeps id) es i (are.others id nowhere);
    chained = are.chained ∙ sym (links_changed f keeps.transaction 0 es i);
  }

  -- the group of the enlistment that is changed can count it anew
  pub groups_fit : (gs : List Group) → length es < 2 ^ 32 → AllByRecursion (IsGroup es) gs → MayRegroupAll gs (get_or es i d).transaction (standing_of (get_or es i d)) (standing_of (f (get_or es i d)))
  groups_fit [] few all = tt
  groups_fit (g ∷ gs) few all = (
    λ same.
        let own = turned g same in
        counted_fits f es i d g was now within all.0.counted (stands_own g.transaction (get_or es i d) own) (stands_own g.transaction (f (get_or es i d)) (own_kept f keeps g.transaction (get_or es i d) ∙ own)) few,
    groups_fit gs few all.1,
  )

-- ---- one enlistment more

-- one of another transaction is not the superior of this one
not_superior : (id : Id) (e : Enlistment) → is_own id e ≡ false → is_superior_of id e ≡ false
not_superior id e other = rw other refl

-- a transaction that has no enlistments has no superior
pub none_superior : (id : Id) (es : List Enlistment) → HasNone (is_own id) es → HasNone (is_superior_of id) es
none_superior id es none = none_too (is_own id) (is_superior_of id) (not_superior id) es none

module _ (es : List Enlistment) (e : Enlistment) where
  -- the superior is the one before, or the new one
  superior_push : (id : Id) (s : Option ℕ) → is_own id e ≡ true → s ≡ place_from (is_superior_of id) 0 es → superior_with s e (length es) ≡ place_from (is_superior_of id) 0 (es ++ e ∷ [])
  superior_push id s own is =
      let pushed = place_push (is_superior_of id) e 0 es in
      subst (λ (o : Option ℕ). superior_with o e (length es) ≡ place_from (is_superior_of id) 0 (es ++ e ∷ [])) (sym is)
      (step (place_from (is_superior_of id) 0 es) ∙ sym pushed)
    where
      step : (o : Option ℕ) → superior_with o e (length es) ≡ or_place o (if is_superior_of id e then Some (0 + length es) else None)
      step None =
          let same : length es ≡ 0 + length es = omega arith in
          rw own (ap (λ (n : ℕ). if is_superior e then Some n else None) same)
      step (Some p) = refl

  -- a group of another transaction is as it was
  group_beside : (g : Group) → is_own g.transaction e ≡ false → IsGroup es g → IsGroup (es ++ e ∷ []) g
  group_beside g other is = record {
    counted = counted_same (es ++ e ∷ []) g (counted_push es e g nothing is.counted (stands_not g.transaction e other));
    superior = is.superior ∙ sym (place_push_other (is_superior_of g.transaction) e 0 es (not_superior g.transaction e other));
    first = place_push_other (is_own g.transaction) e 0 es other ∙ is.first;
    last = last_push_other (is_own g.transaction) e es g.last other is.last;
  }

  -- where the places of a group change, its counts stay
  counted_joined : (g : Group) (place : ℕ) → IsCounted (es ++ e ∷ []) (regrouped nothing (standing_of e) g) → IsCounted (es ++ e ∷ []) (joined e place g)
  counted_joined g place c = record { counts = record { enlistments = c.counts.enlistments; asking = c.counts.asking; in_one_phase = c.counts.in_one_phase; owing = c.counts.owing }; unfinished = c.unfinished; live = c.live }

  -- that of its own has it
  group_joined : (g : Group) → is_own g.transaction e ≡ true → IsGroup es g → IsGroup (es ++ e ∷ []) (joined e (length es) g)
  group_joined g own is = record {
    counted = counted_joined g (length es) (counted_push es e g (standing_of e) is.counted (stands_own g.transaction e own));
    superior = superior_push g.transaction g.superior own is.superior;
    first = place_push_there (is_own g.transaction) e 0 es g.last is.last ∙ is.first;
    last = last_push (is_own g.transaction) e es own;
  }

  -- a new one has it alone
  group_begun : HasNone (is_own e.transaction) es → IsGroup (es ++ e ∷ []) (joined e (length es) (fresh e.transaction (length es)))
  group_begun none =
      let own = same_id-from e.transaction e.transaction refl in
      let same : 0 + length es ≡ length es = omega arith in
      record {
        counted = counted_joined (fresh e.transaction (length es)) (length es) (counted_push es e (fresh e.transaction (length es)) (standing_of e) (none_counted es e.transaction none (length es)) (stands_own e.transaction e own));
        superior = superior_push e.transaction None own (sym (from_none (is_superior_of e.transaction) 0 es (none_superior e.transaction es none)));
        first = place_push_first (is_own e.transaction) e 0 es none own ∙ ap (λ (n : ℕ). Some n) same;
        last = last_push (is_own e.transaction) e es own;
      }

  -- groups of other transactions are as they were
  all_beside : (gs : List Group) → IsNowhere group_id gs e.transaction → AllByRecursion (IsGroup es) gs → AllByRecursion (IsGroup (es ++ e ∷ [])) gs
  all_beside [] nowhere all = tt
  all_beside (g ∷ gs) nowhere all = (group_beside g (same_id-sym g.transaction e.transaction nowhere.0) all.0, all_beside gs nowhere.1 all.1)

  -- each group stands for the enlistments with the new one, where its transaction has a group
  all_joined : (gs : List Group) → AllByRecursion (IsGroup es) gs → AllByRecursion (IsGroup (es ++ e ∷ [])) (joined_all e (length es) gs)
  all_joined [] all = tt
  all_joined (g ∷ gs) all = (
    elim (cases_Bool (same_id g.transaction e.transaction)) [
      | inl same ↦ rw same (group_joined g (same_id-from e.transaction g.transaction (sym (same_id-equal g.transaction e.transaction same))) all.0)
      | inr other ↦ rw other (group_beside g (same_id-sym g.transaction e.transaction other) all.0)
    ],
    all_joined gs all.1,
  )

  -- the groups stand for the enlistments with the first one of a transaction
  grouped_begun : (next : List (Option ℕ)) (gs new : List Group) → AreGrouped es next gs → HasBegun e (length es) gs new → AreGrouped (es ++ e ∷ []) (linked next None (length es) ++ None ∷ []) new
  grouped_begun next gs new are begun =
      let none = are.others e.transaction begun.nowhere in
      record {
        rising = begun.rises;
        each = subst (λ (l : List Group). AllByRecursion (IsGroup (es ++ e ∷ [])) l) (sym begun.is) (inserted_all (IsGroup (es ++ e ∷ [])) gs begun.gap _ (all_beside gs begun.nowhere are.each) (group_begun none));
        others = λ id nowhere.
            let apart = inserted_nowhere gs begun.gap _ id (subst (λ (l : List Group). IsNowhere group_id l id) begun.is nowhere) in
            none_push (is_own id) e es (are.others id apart.1) apart.0;
        chained = ap (λ (l : List (Option ℕ)). l ++ None ∷ []) are.chained ∙ sym (links_begun 0 es e none);
      }

  -- the groups stand for the enlistments with a later one of a transaction
  grouped_joined : (next : List (Option ℕ)) (gs new : List Group) (last : ℕ) → AreGrouped es next gs → HasJoined e (length es) gs new last → AreGrouped (es ++ e ∷ []) (linked next (Some last) (length es) ++ None ∷ []) new
  grouped_joined next gs new last are joins =
      let group = group_is (IsGroup es) gs e.transaction joins.group are.each joins.before in
      let same : length es ≡ 0 + length es = omega arith in
      let keep = λ (g : Group). keeps_id (same_id g.transaction e.transaction) g (joined e (length es) g) refl in
      let stands : IsLastAt (is_own e.transaction) es last =
      subst (λ (n : ℕ). IsLastAt (is_own e.transaction) es n) (sym joins.was) (subst (λ (id : Id). IsLastAt (is_own id) es joins.group.last) group.1 group.0.last) in
      record {
        rising = ap (are_rising group_id) joins.is ∙ mapped_rising _ keep gs ∙ are.rising;
        each = subst (λ (l : List Group). AllByRecursion (IsGroup (es ++ e ∷ [])) l) (sym joins.is) (all_joined gs are.each);
        others = λ id nowhere.
            let apart = mapped_nowhere _ keep gs id (subst (λ (l : List Group). IsNowhere group_id l id) joins.is nowhere) in
            none_push (is_own id) e es (are.others id apart) (has_other gs e.transaction id joins.before.place joins.before.here apart);
        chained =
            ap (λ (l : List (Option ℕ)). linked l (Some last) (length es) ++ None ∷ []) are.chained
            ∙ ap (λ (n : ℕ). linked (links 0 es) (Some last) n ++ None ∷ []) same ∙ sym (links_joined 0 es e last stands);
      }

  -- the groups stand for the enlistments with the new one
  pub grouped_push : (next : List (Option ℕ)) (gs new : List Group) (last : Option ℕ) → AreGrouped es next gs → MatchOption last (HasBegun e (length es) gs new) (HasJoined e (length es) gs new)
      → AreGrouped (es ++ e ∷ []) (linked next last (length es) ++ None ∷ []) new
  grouped_push next gs new None are begun = grouped_begun next gs new are begun
  grouped_push next gs new (Some last) are joins = grouped_joined next gs new last are joins

  -- each group of its transaction has room for the new enlistment
  pub push_fit : (gs : List Group) → length es + 1 < 2 ^ 32 → AllByRecursion (IsGroup es) gs → MayRegroupAll gs e.transaction nothing (standing_of e)
  push_fit [] few all = tt
  push_fit (g ∷ gs) few all = (λ same. push_fits es g (standing_of e) all.0.counted few, push_fit gs few all.1)

  -- the last of its transaction before it has a link
  pub last_linked : (next : List (Option ℕ)) (gs new : List Group) (last : Option ℕ) → AreGrouped es next gs → MatchOption last (HasBegun e (length es) gs new) (HasJoined e (length es) gs new) → IfSome last (λ at. at < length next)
  last_linked next gs new None are begun = tt
  last_linked next gs new (Some last) are joins =
      let group = group_is (IsGroup es) gs e.transaction joins.group are.each joins.before in
      omega (arith, joins.was, last_within (is_own joins.group.transaction) es joins.group.last group.0.last, ap length are.chained, links_length 0 es)
