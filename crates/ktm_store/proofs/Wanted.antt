-- Pages that are stored, and those that are to be written.
use Rattle.std.proofs.Common.{◌≡◌, ℕ, zero, suc, ◌+◌, ◌<◌, ◌≤◌, Bool, true, false, cond, List, [], ◌∷◌, ◌++◌, length, set, refl, sym, ◌∙◌, ap, subst, arith, inl, inr, length-append, length-set, get_or-set_same, get_or-set_other}
use Rattle.std.specs.Prelude.{◌⊎◌, All, Contains, if◌then◌else◌}
use Rattle.std.proofs.lemmas.Bool.{cases_Bool, cases_eq, cases_lt}
use Rattle.std.proofs.lemmas.List.{get_or_past}
use Rattle.std.proofs.lemmas.List.Elements.{All-append, All-cons, All-nil, All-weaker, Contains-append_cases, Contains-append_left, Contains-append_right}
use Rattle.std.proofs.lemmas.List.Sums.{count_by-le-length, sum_by-set}
use Rattle.ktm_store.specs.Store.{StoreOf, WantsMore}
use Rattle.ktm_store.specs.Stored.{AreWanted, StoredState, is_stored, stored_count}

-- one where a page is stored
one_stored : Bool → ℕ
one_stored is = cond is 1 0

count-set : (stored : List Bool) (page : ℕ) → page < length stored → stored_count (set stored page true) + one_stored (is_stored stored page) ≡ stored_count stored + 1
unfolding one_stored
count-set stored page low = sum_by-set (λ (x : Bool). cond x 1 0) stored page true false low

none-stored : one_stored false ≡ 0
unfolding one_stored
none-stored = refl

-- no more are stored than there are
count-most : (stored : List Bool) → stored_count stored ≤ length stored
count-most stored = count_by-le-length (λ (is : Bool). is) stored

-- what is stored is stored still where one more is
stored-set : (stored : List Bool) (page other : ℕ) → is_stored stored other ≡ true → is_stored (set stored page true) other ≡ true
stored-set stored page other is = elim (cases_eq other page) [
  | inl same ↦ elim (cases_lt page (length stored)) [
    | inl low ↦ ap (is_stored (set stored page true)) same ∙ get_or-set_same stored page true false low
    | inr past ↦ (let none : false ≡ true = sym (get_or_past stored page false past) ∙ ap (is_stored stored) (sym same) ∙ is in cc)
  ]
  | inr apart ↦ get_or-set_other stored page other true false apart ∙ is
]

-- there is room for one that is not stored
module _ (state : StoredState) (page : ℕ) (low : page < length state.stored) (was : is_stored state.stored page ≡ false) (are : AreWanted state) where
  counted : stored_count (set state.stored page true) ≡ stored_count state.stored + 1
  counted = omega (arith, count-set state.stored page low, ap one_stored was, none-stored)

  pub count-less : stored_count state.stored < length state.stored
  count-less = omega (arith, counted, count-most (set state.stored page true), length-set state.stored page true)

  pub wanted-room : length state.wanted < length state.stored
  wanted-room = omega (arith, are.few, count-less)

-- ---- more are wanted

pub wants-none : {B : Type 0} (now : StoreOf B) → WantsMore now now
wants-none now = record { seen = refl; marks = refl; stored = λ page is. is; only = λ page is. inl is; wanted = λ page is. is; fresh = λ page is. inl is }

pub wants-then : {B : Type 0} (first next last : StoreOf B) → WantsMore first next → WantsMore next last → WantsMore first last
wants-then first next last one two = record {
  seen = two.seen ∙ one.seen;
  marks = two.marks ∙ one.marks;
  stored = λ page is. two.stored page (one.stored page is);
  only = λ page is. elim (two.only page is) [
    | inl was ↦ elim (one.only page was) [ inl before ↦ inl before | inr there ↦ inr (two.wanted page there) ]
    | inr there ↦ inr there
  ];
  wanted = λ page is. two.wanted page (one.wanted page is);
  fresh = λ page is. elim (two.fresh page is) [
    | inl there ↦ one.fresh page there
    | inr not ↦ inr (was-not page not)
  ];
}
  where
    was-not : (page : ℕ) → is_stored next.stored page ≡ false → is_stored first.stored page ≡ false
    was-not page not = elim (cases_Bool (is_stored first.stored page)) [
      | inl is ↦ (let both : true ≡ false = sym (one.stored page is) ∙ not in cc)
      | inr missing ↦ missing
    ]

-- which pages are stored, and which are to be written
abbrev stored_in : {B : Type 0} → StoreOf B → StoredState
stored_in s = record { stored = s.stored; wanted = s.wanted }

-- the same once a page is stored and wanted that was not
abbrev with_wanted : {B : Type 0} → StoreOf B → ℕ → StoredState
with_wanted s page = record { stored = set s.stored page true; wanted = s.wanted ++ page ∷ [] }

-- a page is stored then, and if it was not it is one that is wanted more
pub record IsWanted {B : Type 0} (old : StoreOf B) (page : ℕ) (new : StoreOf B) : Type 0 where
  pub wants : WantsMore old new
  pub is : is_stored new.stored page ≡ true
  pub few : length new.wanted ≤ length old.wanted + 1

-- a page is wanted, or it is stored
pub wants-page : {B : Type 0} (old new : StoreOf B) (page : ℕ) → page < length old.stored → new.seen ≡ old.seen → new.marks ≡ old.marks
    → stored_in new ≡ (if is_stored old.stored page then stored_in old else with_wanted old page)
    → IsWanted old page new
wants-page old new page low seen marks is = elim (cases_Bool (is_stored old.stored page)) [
  | inl there ↦ (let same : stored_in new ≡ stored_in old = rw there at is in as-it-was (ap (λ (s : StoredState). s.stored) same) (ap (λ (s : StoredState). s.wanted) same) there)
  | inr not ↦ (let one : stored_in new ≡ with_wanted old page = rw not at is in more (ap (λ (s : StoredState). s.stored) one) (ap (λ (s : StoredState). s.wanted) one) not)
]
  where
    as-it-was : new.stored ≡ old.stored → new.wanted ≡ old.wanted → is_stored old.stored page ≡ true → IsWanted old page new
    as-it-was stored wanted there = record {
      wants = record {
        seen = seen;
        marks = marks;
        stored = λ other is. ap (λ (l : List Bool). is_stored l other) stored ∙ is;
        only = λ other is. inl (sym (ap (λ (l : List Bool). is_stored l other) stored) ∙ is);
        wanted = λ other is. subst (λ (l : List ℕ). Contains l other) (sym wanted) is;
        fresh = λ other is. inl (subst (λ (l : List ℕ). Contains l other) wanted is);
      };
      is = ap (λ (l : List Bool). is_stored l page) stored ∙ there;
      few = omega (arith, ap (λ (l : List ℕ). length l) wanted);
    }

    more : new.stored ≡ set old.stored page true → new.wanted ≡ old.wanted ++ page ∷ [] → is_stored old.stored page ≡ false → IsWanted old page new
    more stored wanted not = record {
      wants = record {
        seen = seen;
        marks = marks;
        stored = λ other is. ap (λ (l : List Bool). is_stored l other) stored ∙ stored-set old.stored page other is;
        only = only;
        wanted = λ other is. subst (λ (l : List ℕ). Contains l other) (sym wanted) (Contains-append_left old.wanted (page ∷ []) other is);
        fresh = λ other is. fresh other (subst (λ (l : List ℕ). Contains l other) wanted is);
      };
      is = ap (λ (l : List Bool). is_stored l page) stored ∙ get_or-set_same old.stored page true false low;
      few = omega (arith, ap (λ (l : List ℕ). length l) wanted, length-append old.wanted (page ∷ []));
    }
      where
        only : (other : ℕ) → is_stored new.stored other ≡ true → (is_stored old.stored other ≡ true) ⊎ Contains new.wanted other
        only other is = elim (cases_eq other page) [
          | inl same ↦ inr (subst (λ (l : List ℕ). Contains l other) (sym wanted) (Contains-append_right old.wanted (page ∷ []) other (0, omega arith, sym same)))
          | inr apart ↦ inl (sym (ap (λ (l : List Bool). is_stored l other) stored ∙ get_or-set_other old.stored page other true false apart) ∙ is)
        ]

        of-one : (other : ℕ) → Contains (page ∷ []) other → other ≡ page
        of-one other (zero, low, is) = sym is
        of-one other (suc k, low, is) = absurd (omega (arith, low))

        fresh : (other : ℕ) → Contains (old.wanted ++ page ∷ []) other → Contains old.wanted other ⊎ (is_stored old.stored other ≡ false)
        fresh other is = elim (Contains-append_cases old.wanted (page ∷ []) other is) [
          | inl there ↦ inl there
          | inr last ↦ inr (ap (is_stored old.stored) (of-one other last) ∙ not)
        ]

-- pages that were stored, and one more
pub stored-push : (old new : List Bool) (pages : List ℕ) (page : ℕ) → ((other : ℕ) → is_stored old other ≡ true → is_stored new other ≡ true) → All (λ other. is_stored old other ≡ true) pages → is_stored new page ≡ true
    → All (λ other. is_stored new other ≡ true) (pages ++ page ∷ [])
stored-push old new pages page kept all is =
    All-append (λ other. is_stored new other ≡ true) pages (page ∷ []) (All-weaker (λ other. is_stored old other ≡ true) (λ other. is_stored new other ≡ true) kept pages all)
    (All-cons (λ other. is_stored new other ≡ true) page [] is (All-nil (λ other. is_stored new other ≡ true)))
