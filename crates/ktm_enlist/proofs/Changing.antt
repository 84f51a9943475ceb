-- Enlistments that are asked, have answered or are informed stay those of their transaction.
use Rattle.std.proofs.Common.{◌≡◌, ◌∙◌, ◌<◌, ◌^◌, ◌++◌, ℕ, zero, suc, Bool, true, List, [], ◌∷◌, ap, arith, drop, get_or, length, refl, set, subst, sym, take, inl, inr, Option, Some, None}
use Rattle.std.specs.Prelude.{if◌then◌else◌}
use Rattle.std.specs.List.{list_all}
use Rattle.ktm_world.specs.Durable.{is_before}
use Rattle.std.proofs.lemmas.Bool.{cases_Bool}
use Rattle.ktm_base.specs.declared.id.Id.{Id}
use Rattle.ktm_world.specs.declared.step.Answered.{Answered}
use Rattle.ktm_world.specs.declared.step.Owed.{Owed}
use Rattle.ktm_world.specs.Enlistments.{Enlistment}
use Rattle.ktm_world.specs.Steps.{answered}
use Rattle.ktm_manager.specs.Rising.{are_rising}
use Rattle.std.proofs.lemmas.List.{append-nil, drop_all, length-map, length-set, take_all}
use Rattle.ktm_world.specs.Transactions.{same_id}
use Rattle.ktm_enlist.specs.declared.group.Group.{Group}
use Rattle.ktm_enlist.specs.declared.standing.Standing.{Standing}
use Rattle.ktm_enlist.specs.Groups.{regrouped, regrouped_all, AreGrouped, MayRegroupAll}
use Rattle.ktm_enlist.specs.Places.{changed, linked}
use Rattle.ktm_enlist.specs.Standing.{standing_of}
use Rattle.ktm_enlist.specs.Telling.{asked, asked_if}
use Rattle.ktm_enlist.proofs.Grouping.{grouped_changed, grouped_kept, groups_fit, Keeps}
use Rattle.ktm_enlist.proofs.Places.{changed_is}

abbrev id_of : Enlistment → Id
id_of e = e.id

-- one that has answered
pub answered_keeps : (answer : Answered) → Keeps (answered answer)
answered_keeps Answered.PrePrepared = record { id = λ e. refl; transaction = λ e. refl; kind = λ e. refl }
answered_keeps Answered.Prepared = record { id = λ e. refl; transaction = λ e. refl; kind = λ e. refl }
answered_keeps Answered.ReadOnly = record { id = λ e. refl; transaction = λ e. refl; kind = λ e. refl }
answered_keeps Answered.Finished = record { id = λ e. refl; transaction = λ e. refl; kind = λ e. refl }
answered_keeps Answered.Recovered = record { id = λ e. refl; transaction = λ e. refl; kind = λ e. refl }

-- one that is asked
pub asked_keeps : (owed : Option Owed) → Keeps (asked owed)
asked_keeps None = record { id = λ e. refl; transaction = λ e. refl; kind = λ e. refl }
asked_keeps (Some owed) = record { id = λ e. refl; transaction = λ e. refl; kind = λ e. refl }

-- one that may be asked
pub asked_if_keeps : (test : Enlistment → Bool) (owed : Option Owed) → Keeps (asked_if test owed)
asked_if_keeps test owed = record {
  id = λ e. elim (cases_Bool (test e)) [ inl passes ↦ rw passes ((asked_keeps owed).id e) | inr not_told ↦ rw not_told refl ];
  transaction = λ e. elim (cases_Bool (test e)) [ inl passes ↦ rw passes ((asked_keeps owed).transaction e) | inr not_told ↦ rw not_told refl ];
  kind = λ e. elim (cases_Bool (test e)) [ inl passes ↦ rw passes ((asked_keeps owed).kind e) | inr not_told ↦ rw not_told refl ];
}

-- one that has other recovery information
pub informed_keeps : (information : List ℕ) → Keeps (λ e. record e { information = information })
informed_keeps information = record { id = λ e. refl; transaction = λ e. refl; kind = λ e. refl }

-- what is asked of the Ids alone is so of changed enlistments
all_changed : (f : Enlistment → Enlistment) → Keeps f → (id : Id) (es : List Enlistment) (i : ℕ)
    → list_all (λ (e : Enlistment). is_before id e.id) (changed f es i) ≡ list_all (λ (e : Enlistment). is_before id e.id) es
all_changed f keeps id [] i = refl
all_changed f keeps id (e ∷ es) zero = rw (keeps.id e) refl
all_changed f keeps id (e ∷ es) (suc i) = rw (all_changed f keeps id es i) refl

-- enlistments, of which one is changed, are in the same order
pub rising_changed : (f : Enlistment → Enlistment) → Keeps f → (es : List Enlistment) (i : ℕ) → are_rising id_of (changed f es i) ≡ are_rising id_of es
rising_changed f keeps [] i = refl
rising_changed f keeps (e ∷ es) zero = rw (keeps.id e) refl
rising_changed f keeps (e ∷ es) (suc i) = rw (all_changed f keeps e.id es i, rising_changed f keeps es i) refl

-- what a slice was lent for is what is left of it
whole : {X : Type 0} (new xs : List X) (n : ℕ) → length xs ≡ n → length new ≡ n → take n (new ++ drop (length new) xs) ≡ new
whole new xs n same as_long =
    ap (λ l. take n (new ++ l)) (drop_all (length new) xs (omega (arith, same, as_long))) ∙ ap (take n) (append-nil new) ∙ take_all n new (omega (arith, as_long))

-- the groups after they were lent
pub whole_regrouped : (new gs : List Group) (n : ℕ) (id : Id) (was is : Standing) → length gs ≡ n → new ≡ regrouped_all id was is gs → take n (new ++ drop (length new) gs) ≡ regrouped_all id was is gs
whole_regrouped new gs n id was is same regroups =
    whole new gs n same (ap length regroups ∙ length-map gs (λ (g : Group). if same_id g.transaction id then regrouped was is g else g) ∙ same) ∙ regroups

-- there are as many links
linked_length : (next : List (Option ℕ)) (last : Option ℕ) (place : ℕ) → length (linked next last place) ≡ length next
linked_length next None place = refl
linked_length next (Some last) place = length-set next last (Some place)

-- the links after they were lent
pub whole_linked : (new next : List (Option ℕ)) (n : ℕ) (last : Option ℕ) (place : ℕ) → length next ≡ n → new ≡ linked next last place → take n (new ++ drop (length new) next) ≡ linked next last place
whole_linked new next n last place same links = whole new next n same (ap length links ∙ linked_length next last place ∙ same) ∙ links

-- ---- one enlistment that stands at a place, and what becomes of it

module _ (f : Enlistment → Enlistment) (keeps : Keeps f) (es : List Enlistment) (i : ℕ) (e changes : Enlistment) (within : i < length es) (read : e ≡ get_or es i e) (becomes : changes ≡ f e) where
  pub set_is : set es i changes ≡ changed f es i
  set_is = ap (set es i) (becomes ∙ ap f read) ∙ changed_is f es i e

  -- they are in the same order
  pub set_rising : are_rising id_of es ≡ true → are_rising id_of (set es i changes) ≡ true
  set_rising rises = ap (are_rising id_of) set_is ∙ rising_changed f keeps es i ∙ rises

  -- the groups stand for them as they are, where it counts as it did
  pub set_kept : standing_of changes ≡ standing_of e → (next : List (Option ℕ)) (gs : List Group) → AreGrouped es next gs → AreGrouped (set es i changes) next gs
  set_kept same next gs are =
      let stays : standing_of (f (get_or es i e)) ≡ standing_of (get_or es i e) = ap (λ (x : Enlistment). standing_of (f x)) (sym read) ∙ ap standing_of (sym becomes) ∙ same ∙ ap standing_of read in
      subst (λ (l : List Enlistment). AreGrouped l next gs) (sym set_is) (grouped_kept f keeps es i e within stays next gs are)

  module _ (next : List (Option ℕ)) (gs : List Group) (id : Id) (was is : Standing) (own : id ≡ e.transaction) (before : was ≡ standing_of e) (after : is ≡ standing_of changes) (are : AreGrouped es next gs) where
    pub set_fits : length es < 2 ^ 32 → MayRegroupAll gs id was is
    set_fits few =
        rw (own, before, after, becomes)
        (subst (λ (x : Enlistment). MayRegroupAll gs x.transaction (standing_of x) (standing_of (f x))) (sym read) (groups_fit f keeps es i e within gs few are.each))

    pub set_grouped : AreGrouped (set es i changes) next (regrouped_all id was is gs)
    set_grouped =
        rw (set_is, own, before, after, becomes)
        (subst (λ (x : Enlistment). AreGrouped (changed f es i) next (regrouped_all x.transaction (standing_of x) (standing_of (f x)) gs)) (sym read) (grouped_changed f keeps es i e within next gs are))
