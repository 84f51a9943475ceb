-- What changes and settings are tested against.
use Rattle.std.proofs.Common.{◌≡◌, ◌&&◌, ◌||◌, not, Bool, true, false, List, [], ◌∷◌, Option, Some, None, filter, refl, sym, ◌∙◌, ap, subst, inl, inr}
use Rattle.std.specs.Prelude.{Result, Ok, Err, IfOk}
use Rattle.std.specs.List.{list_all, list_any}
use Rattle.std.proofs.Math.Bool.{and-false, and-true}
use Rattle.std.proofs.lemmas.Bool.{and_from, and_parts, cases_Bool, false_from_ne_true, not_from_false, true≢false}
use Rattle.ktm_base.specs.declared.id.Id.{Id}
use Rattle.ktm_world.specs.declared.change.Change.{Change}
use Rattle.ktm_world.specs.Changes.{changes_apply, has_made, is_make, node_of}
use Rattle.ktm_world.specs.Durable.{Durable, Recorded, acts_of_all, changes_of, has_changes_part, holds_in, is_decided, is_new_in, others_waiting, recorded_changes_apply, settings_apply, settings_of}
use Rattle.ktm_world.specs.Holds.{Act, holds_by, meets, opens, deletes, moves_file, makes, drops_directory, moves_directory}
use Rattle.ktm_world.specs.Keys.{OwnSettings}
use Rattle.ktm_world.specs.Lawful.{set_both}
use Rattle.ktm_world.specs.Transactions.{same_id}
use Rattle.ktm_world.specs.Tree.{Tree}
use Rattle.txf_durable.specs.Waiting.{is_met}
use Rattle.txf_laws.specs.Elements.{IsIn}
use Rattle.txf_laws.proofs.offered.Diamonds.{no_test}
use Rattle.txf_laws.proofs.offered.Elements.{IsIn-filter, list_all-from, list_any-at, list_any-from}
use Rattle.txf_reserve.specs.ReserveState.{ReserveState}
use Rattle.ktm_waiting.specs.Waiting.{AreHeld, others_change, others_set, waits_beside}
use Rattle.txf_laws.proofs.offered.WaitingChanges.{no_changes-left, no_changes_part, recorded_changes_apply-all, recorded_changes_apply-new}
use Rattle.ktm_waiting.proofs.Others.{free-is}

-- ---- changes that no transaction refuses

meets-none : (tree : Tree) (act : Act) → meets (holds_by tree [] []) act ≡ false
unfolding meets
meets-none tree (opens file true) = refl
meets-none tree (opens file false) = refl
meets-none tree (deletes file at) = refl
meets-none tree (moves_file file from to) = refl
meets-none tree (makes at) = refl
meets-none tree (drops_directory directory at) = refl
meets-none tree (moves_directory directory from to) = refl

any-none : {X : Type 0} (test : X → Bool) (xs : List X) → ((x : X) → test x ≡ false) → list_any test xs ≡ false
any-none test [] none = refl
any-none test (x ∷ xs) none = rw (none x) (any-none test xs none)

-- a transaction without changes refuses no changes
spares : (s : Durable) (t : Recorded) (cs : List Change) → changes_of t ≡ []
    → (not (list_any (meets (holds_in s t)) (acts_of_all s.tree cs)) && not (list_any (λ change. is_make change && has_made (changes_of t) (node_of change)) cs)) ≡ true
spares s t cs none =
    subst (λ (ds : List Change). (not (list_any (meets (holds_by s.tree ds [])) (acts_of_all s.tree cs)) && not (list_any (λ change. is_make change && has_made ds (node_of change)) cs)) ≡ true) (sym none)
    (and_from _ _ (not_from_false _ (any-none (meets (holds_by s.tree [] [])) (acts_of_all s.tree cs) (meets-none s.tree)))
    (not_from_false _ (any-none (λ (change : Change). is_make change && has_made [] (node_of change)) cs (λ change. and-false (is_make change)))))

-- one of the others that wait is one of those that wait beside this one
is-beside : (s : Durable) (who : Option Id) (t : Recorded) → IsIn t (others_waiting s who) → IsIn t s.transactions × (waits_beside who t ≡ true)
is-beside s None t there = let in_ts = IsIn-filter (λ (u : Recorded). not (is_decided u.stage)) s.transactions t there in (in_ts.0, and_from _ true in_ts.1 refl)
is-beside s (Some id) t there = IsIn-filter (λ (u : Recorded). not (is_decided u.stage) && not (same_id u.id id)) s.transactions t there

not-right : (a b : Bool) → (a && b) ≡ false → a ≡ true → b ≡ false
not-right true b none is = none
not-right false b none is = absurd (true≢false (sym is))

-- where no other one waits with changes, none refuses any
pub changes-alone : (s : Durable) (who : Option Id) (cs : List Change) → others_change who s.transactions ≡ false → recorded_changes_apply s who cs ≡ (changes_apply s.tree cs && list_all (is_new_in s.tree) cs)
changes-alone s who cs none =
    ap (λ b. b && changes_apply s.tree cs && list_all (is_new_in s.tree) cs)
    (list_all-from (λ (t : Recorded). not (list_any (meets (holds_in s t)) (acts_of_all s.tree cs)) && not (list_any (λ change. is_make change && has_made (changes_of t) (node_of change)) cs)) (others_waiting s who)
    (λ t there.
    let beside = is-beside s who t there in
    spares s t cs (no_changes_part t (not-right (waits_beside who t) (has_changes_part t) (no_test (λ (u : Recorded). waits_beside who u && has_changes_part u) t s.transactions none beside.0) beside.1))))

-- with one left out, none waits with changes either
pub others-less : (id : Id) (ts : List Recorded) → others_change None ts ≡ false → others_change (Some id) ts ≡ false
others-less id ts none = false_from_ne_true _ (λ some.
    let found = list_any-at (λ (t : Recorded). waits_beside (Some id) t && has_changes_part t) ts some in
    let parts = and_parts (waits_beside (Some id) found.0) (has_changes_part found.0) found.2 in
    let waits = (and_parts (not (is_decided (found.0).stage)) _ parts.0).0 in
    true≢false (sym (list_any-from (λ (t : Recorded). waits_beside None t && has_changes_part t) ts found.0 found.1 (and_from _ _ (and_from _ true waits refl) parts.1)) ∙ none))

-- of changes that apply it is tested what they meet
pub changes-met : (s : Durable) (r : ReserveState) (who : Option Id) (cs : List Change) → AreHeld r s.tree s.transactions → changes_apply s.tree cs ≡ true → list_all (is_new_in s.tree) cs ≡ true
    → recorded_changes_apply s who cs ≡ not (is_met r who s.tree cs)
changes-met s r who cs held all new =
    free-is s r who cs (λ t there. ((held.kept.each t there).apply, no_changes-left t (held.kept.each t there).changes)) held.kept.rise held.reserves all new

-- changes that do not apply to the files do not apply
pub none-apply : (s : Durable) (who : Option Id) (cs : List Change) → (changes_apply s.tree cs && list_all (is_new_in s.tree) cs) ≡ false → recorded_changes_apply s who cs ≡ false
none-apply s who cs none =
    false_from_ne_true _ (λ apply. true≢false (sym (and_from _ _ (recorded_changes_apply-all s who cs apply) (recorded_changes_apply-new s who cs apply)) ∙ none))

-- a test that refuses no changes which apply, beside that they do
pub tested-with : (s : Durable) (who : Option Id) (cs : List Change) (test : Bool) → (changes_apply s.tree cs ≡ true → list_all (is_new_in s.tree) cs ≡ true → test ≡ recorded_changes_apply s who cs)
    → (test && (changes_apply s.tree cs && list_all (is_new_in s.tree) cs)) ≡ recorded_changes_apply s who cs
tested-with s who cs test is = elim (cases_Bool (changes_apply s.tree cs && list_all (is_new_in s.tree) cs)) [
  | inl both ↦ let parts = and_parts (changes_apply s.tree cs) (list_all (is_new_in s.tree) cs) both in rw both (and-true test ∙ is parts.0 parts.1)
  | inr not_both ↦
      rw not_both (and-false test ∙ sym (none-apply s who cs not_both))
]

-- changes that are tried are tested whole
pub tried-with : (s : Durable) (who : Option Id) (cs : List Change) → (recorded_changes_apply s who cs && (changes_apply s.tree cs && list_all (is_new_in s.tree) cs)) ≡ recorded_changes_apply s who cs
tried-with s who cs = tested-with s who cs (recorded_changes_apply s who cs) (λ all new. refl)

-- changes apply exactly where they meet nothing, unless the test runs out of memory
pub met-ok : {E : Type 0} (r : Result Bool E) (apply met : Bool) → IfOk r (λ m. m ≡ met) → apply ≡ not met → IfOk r (λ m. apply ≡ not m)
met-ok (Ok m) apply met is e = e ∙ ap not (sym is)
met-ok (Err fault) apply met is e = tt

pub free-ok : {E : Type 0} (r : Result Bool E) (s : Durable) (who : Option Id) (cs : List Change) → IfOk r (λ a. a ≡ recorded_changes_apply s who cs)
    → IfOk r (λ free. (free && (changes_apply s.tree cs && list_all (is_new_in s.tree) cs)) ≡ recorded_changes_apply s who cs)
free-ok (Ok a) s who cs is = ap (λ b. b && (changes_apply s.tree cs && list_all (is_new_in s.tree) cs)) is ∙ tried-with s who cs
free-ok (Err fault) s who cs is = tt

-- changes that pass the test, where they are made, apply
pub made-ok : {E : Type 0} (r : Result Bool E) (s : Durable) (who : Option Id) (cs : List Change) (free : Bool) → free ≡ true → (free && (changes_apply s.tree cs && list_all (is_new_in s.tree) cs)) ≡ recorded_changes_apply s who cs
    → IfOk r (λ a. a ≡ (changes_apply s.tree cs && list_all (is_new_in s.tree) cs)) → IfOk r (λ a. a ≡ recorded_changes_apply s who cs)
made-ok (Ok a) s who cs free is tested made = made ∙ ap (λ b. b && (changes_apply s.tree cs && list_all (is_new_in s.tree) cs)) (sym is) ∙ tested
made-ok (Err fault) s who cs free is tested made = tt

-- changes that pass the test, and apply to the files alone, apply
pub tested-apply : (s : Durable) (who : Option Id) (cs : List Change) (free : Bool) → free ≡ true → (free && (changes_apply s.tree cs && list_all (is_new_in s.tree) cs)) ≡ recorded_changes_apply s who cs
    → changes_apply s.tree cs ≡ true → list_all (is_new_in s.tree) cs ≡ true → recorded_changes_apply s who cs ≡ true
tested-apply s who cs free is tested all new = sym tested ∙ (λ i. is i && (all i && new i))

-- ---- settings that no transaction refuses

among-others : (keep keep' test : Recorded → Bool) (ts : List Recorded) → ((t : Recorded) → keep' t ≡ keep t) → not (list_any (λ t. keep' t && test t) ts) ≡ list_all (λ t. not (test t)) (filter keep ts)
among-others keep keep' test [] same = refl
among-others keep keep' test (t ∷ ts) same = elim (cases_Bool (keep t)) [
  | inl is ↦ rw (same t, is) (not-or (test t) (list_any (λ u. keep' u && test u) ts) ∙ ap (λ b. not (test t) && b) (among-others keep keep' test ts same))
  | inr other ↦ rw (same t, other) (among-others keep keep' test ts same)
]
  where
    not-or : (a b : Bool) → not (a || b) ≡ (not a && not b)
    not-or true b = refl
    not-or false b = refl

pub settings-tested : (s : Durable) (who : Option Id) (ss : OwnSettings) → not (others_set who ss s.transactions) ≡ settings_apply s who ss
settings-tested s None ss =
    among-others (λ t. not (is_decided t.stage)) (waits_beside None) (λ t. set_both ss (settings_of t)) s.transactions (λ t. and-true (not (is_decided t.stage)))
settings-tested s (Some id) ss =
    among-others (λ t. not (is_decided t.stage) && not (same_id t.id id)) (waits_beside (Some id)) (λ t. set_both ss (settings_of t)) s.transactions (λ t. refl)
