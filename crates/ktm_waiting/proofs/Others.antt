-- Changes that meet no hold of another transaction that waits, by what is held.
use Rattle.std.proofs.Common.{◌≡◌, ℕ, ◌==◌, ◌&&◌, ◌||◌, not, Bool, true, false, is_none, is_some, List, [], ◌∷◌, ◌++◌, map, Option, Some, None, refl, sym, ◌∙◌, ap, subst, inl, inr}
use Rattle.std.specs.Cmp.{both_ways}
use Rattle.std.specs.List.{list_all, list_any}
use Rattle.std.proofs.Math.Bool.{and-true}
use Rattle.std.proofs.lemmas.Bool.{and_from, and_parts, cases_Bool, eq-eqb, eqb-true, not-true, true≢false}
use Rattle.std.proofs.lemmas.List.{append-nil}
use Rattle.ktm_base.specs.declared.id.Id.{Id}
use Rattle.ktm_world.specs.declared.change.Change.{Change}
use Rattle.ktm_world.specs.declared.recorded.Node.{Node}
use Rattle.ktm_world.specs.Changes.{changes_apply, has_made, is_make, node_of}
use Rattle.ktm_world.specs.Durable.{Durable, Recorded, acts_of_all, changes_of, holds_in, is_decided, is_new_in, others_waiting, recorded_at, recorded_changes_apply}
use Rattle.ktm_world.specs.Holds.{holds_by, is_in, meets}
use Rattle.ktm_world.specs.Transactions.{is_of, same_id}
use Rattle.ktm_world.specs.Tree.{node_at}
use Rattle.txf_laws.proofs.offered.WaitingChanges.{in_others, in_others-plain}
use Rattle.txf_laws.specs.Elements.{IsIn}
use Rattle.txf_laws.proofs.offered.Diamonds.{IsIn-map}
use Rattle.txf_laws.proofs.offered.Elements.{IsIn-filter, list_all-at, list_any-at, list_any-from}
use Rattle.txf_laws.proofs.offered.Holds.{found-or-made}
use Rattle.txf_laws.proofs.offered.Tables.{recorded_at-found, recorded_at-there, same_id-from}
use Rattle.txf_reserve.specs.ReserveState.{ReserveState, holds_in as held_in, IsSameHold}
use Rattle.txf_reserve.proofs.offered.SomeOther.{IsSomeAnd, tells_one}
use Rattle.txf_durable.specs.Waiting.{is_met}
use Rattle.txf_durable.proofs.offered.OthersMet.{meet_held, meet_held-none, meet_held-same, tells_met}
use Rattle.ktm_waiting.specs.Table.{changes_at, IsByRisingId}

-- ---- tests of each

any-in : {X : Type 0} (f g : X → Bool) (xs : List X) → ((x : X) → IsIn x xs → f x ≡ g x) → list_any f xs ≡ list_any g xs
any-in f g [] same = refl
any-in f g (x ∷ xs) same =
    let one = same x (inl refl) in
    let rest = any-in f g xs (λ y there. same y (inr there)) in
    λ i. one i || rest i

all-not : {X : Type 0} (f g : X → Bool) (xs : List X) → list_all (λ x. not (f x) && not (g x)) xs ≡ not (list_any (λ x. f x || g x) xs)
all-not f g [] = refl
all-not f g (x ∷ xs) = (λ i. neither (f x) (g x) i && all-not f g xs i) ∙ neither (f x || g x) (list_any (λ x. f x || g x) xs)
  where
    neither : (a b : Bool) → (not a && not b) ≡ not (a || b)
    neither true b = refl
    neither false b = refl

-- ---- the nodes that are made

-- a node that is not there is named by changes that apply where they make it
made-named : (s : Durable) (cs : List Change) (n : ℕ) → changes_apply s.tree cs ≡ true → is_none (node_at s.tree n) ≡ true → has_made cs n ≡ is_in (map node_of cs ++ []) n
made-named s cs n apply gone = both_ways (has_made cs n) (is_in (map node_of cs) n) to from ∙ ap (λ ns. is_in ns n) (sym (append-nil (map node_of cs)))
  where
    to : has_made cs n ≡ true → is_in (map node_of cs) n ≡ true
    to made =
        let one = list_any-at (λ (c : Change). is_make c && node_of c == n) cs made in
        list_any-from (λ m. m == n) (map node_of cs) (node_of one.0) (IsIn-map node_of one.0 cs one.1) (and_parts (is_make one.0) (node_of one.0 == n) one.2).1

    none : (found : Option Node) → is_none found ≡ true → is_some found ≡ true → ⊥
    none None is some = true≢false (sym some)
    none (Some x) is some = true≢false (sym is)

    from : is_in (map node_of cs) n ≡ true → has_made cs n ≡ true
    from named =
        let one = list_any-at (λ m. m == n) (map node_of cs) named in
        let there = subst (λ m. IsIn m (map node_of cs)) (eqb-true one.0 n one.2) one.1 in
        elim (found-or-made cs s.tree apply n there) [
          | inl found ↦ absurd (none (node_at s.tree n) gone found)
          | inr (d, in_cs, make, at) ↦ list_any-from (λ (c : Change). is_make c && node_of c == n) cs d in_cs (and_from (is_make d) (node_of d == n) make (eq-eqb (node_of d) n at))
        ]

-- ---- the others that wait

-- one of them is not decided, and is another
other-waits : (s : Durable) (who : Option Id) (t : Recorded) → IsIn t (others_waiting s who) → IsIn t s.transactions × (is_decided t.stage ≡ false) × (is_of t.id who ≡ false)
other-waits s None t there =
    let is = IsIn-filter (λ (u : Recorded). not (is_decided u.stage)) s.transactions t there in
    (is.0, not-true _ is.1, refl)
other-waits s (Some id) t there =
    let is = IsIn-filter (λ (u : Recorded). not (is_decided u.stage) && not (same_id u.id id)) s.transactions t there in
    let parts = and_parts (not (is_decided t.stage)) (not (same_id t.id id)) is.1 in
    (is.0, not-true _ parts.0, not-true _ parts.1)

is-other : (s : Durable) (who : Option Id) (t : Recorded) → IsIn t s.transactions → is_decided t.stage ≡ false → is_of t.id who ≡ false → IsIn t (others_waiting s who)
is-other s None t there waiting other = in_others-plain s t there waiting
is-other s (Some id) t there waiting other = in_others s id t there waiting (λ same. true≢false (sym (same_id-from t.id id same) ∙ other))

module _ (s : Durable) (r : ReserveState) (changes : List Change)
    (apply : (u : Recorded) → IsIn u s.transactions → changes_apply s.tree (changes_of u) ≡ true)
    (left : (u : Recorded) → IsIn u s.transactions → is_decided u.stage ≡ true → changes_of u ≡ [])
    (rises : IsByRisingId s.transactions)
    (held : (id : Id) → IsSameHold (held_in r id) (holds_by s.tree (changes_at (recorded_at s.transactions id)) []))
    (new : list_all (is_new_in s.tree) changes ≡ true)
  where
    -- does a transaction refuse the changes by what it holds, or by a node that it made
    abbrev met_by : Recorded → Bool
    met_by t = list_any (meets (holds_in s t)) (acts_of_all s.tree changes)

    abbrev made_by : Recorded → Bool
    made_by t = list_any (λ change. is_make change && has_made (changes_of t) (node_of change)) changes

    made-held : (t : Recorded) → changes_apply s.tree (changes_of t) ≡ true → (c : Change) → IsIn c changes
        → (is_make c && has_made (changes_of t) (node_of c)) ≡ (is_make c && is_in (map node_of (changes_of t) ++ []) (node_of c))
    made-held t applies c there = elim (cases_Bool (is_make c)) [
      | inl make ↦
          let gone : is_none (node_at s.tree (node_of c)) ≡ true = rw make at (list_all-at (is_new_in s.tree) changes new c there) in
          ap (λ b. is_make c && b) (made-named s (changes_of t) (node_of c) applies gone)
      | inr other ↦ rw other refl
    ]

    -- it does where its hold is met
    refused : (t : Recorded) → IsIn t s.transactions → (met_by t || made_by t) ≡ meet_held (held_in r t.id) s.tree changes
    refused t there =
        ap (λ b. met_by t || b)
        (any-in (λ c. is_make c && has_made (changes_of t) (node_of c)) (λ c. is_make c && is_in (map node_of (changes_of t) ++ []) (node_of c)) changes (made-held t (apply t there)))
        ∙ ap (λ o. meet_held (holds_by s.tree (changes_at o) []) s.tree changes) (sym (recorded_at-there s.transactions rises t there))
        ∙ sym (meet_held-same (held_in r t.id) (holds_by s.tree (changes_at (recorded_at s.transactions t.id)) []) s.tree changes (held t.id))

    -- one that has no changes does not
    not-refused : (id : Id) → changes_at (recorded_at s.transactions id) ≡ [] → meet_held (held_in r id) s.tree changes ≡ false
    not-refused id none =
        meet_held-same (held_in r id) (holds_by s.tree (changes_at (recorded_at s.transactions id)) []) s.tree changes (held id)
        ∙ ap (λ cs. meet_held (holds_by s.tree cs []) s.tree changes) none ∙ meet_held-none s.tree changes

    tells_refused : (who : Option Id) → IsSomeAnd who (list_any (λ t. met_by t || made_by t) (others_waiting s who)) (λ id. meet_held (held_in r id) s.tree changes)
    tells_refused who = record {
      to = λ any.
          let one = list_any-at (λ t. met_by t || made_by t) (others_waiting s who) any in
          let is = other-waits s who one.0 one.1 in
          record { id = one.0.id; other = is.2; so = sym (refused one.0 is.0) ∙ one.2 };
      from = λ o. go o.id o.other o.so (recorded_at s.transactions o.id) refl;
    }
      where
        go : (id : Id) → is_of id who ≡ false → meet_held (held_in r id) s.tree changes ≡ true → (found : Option Recorded) → recorded_at s.transactions id ≡ found
            → list_any (λ t. met_by t || made_by t) (others_waiting s who) ≡ true
        go id other so None none = absurd (true≢false (sym so ∙ not-refused id (ap changes_at none)))
        go id other so (Some t) found =
            let is = recorded_at-found s.transactions id t found in
            elim (cases_Bool (is_decided t.stage)) [
              | inl decided ↦ absurd (true≢false (sym so ∙ not-refused id (ap changes_at found ∙ left t is.0 decided)))
              | inr waiting ↦
                  list_any-from (λ t. met_by t || made_by t) (others_waiting s who) t (is-other s who t is.0 waiting (ap (λ i. is_of i who) is.1 ∙ other))
                  (refused t is.0 ∙ ap (λ i. meet_held (held_in r i) s.tree changes) is.1 ∙ so)
            ]

    -- changes that apply, and whose nodes are new, apply beside the others where they meet nothing that those hold
    unmet-is : (who : Option Id) → changes_apply s.tree changes ≡ true → recorded_changes_apply s who changes ≡ not (is_met r who s.tree changes)
    unmet-is who applies =
        (λ i. (list_all (λ t. not (met_by t) && not (made_by t)) (others_waiting s who) && applies i) && new i)
        ∙ and-true _ ∙ and-true _
        ∙ all-not met_by made_by (others_waiting s who)
        ∙ ap not (tells_one who _ _ (λ id. meet_held (held_in r id) s.tree changes) (tells_refused who) (tells_met who r s.tree changes))

-- changes apply beside transactions whose changes apply, and are none once they are decided, where they meet nothing that those hold
pub free-is : (s : Durable) (r : ReserveState) (who : Option Id) (changes : List Change)
    → ((t : Recorded) → IsIn t s.transactions → (changes_apply s.tree (changes_of t) ≡ true) × (is_decided t.stage ≡ true → changes_of t ≡ []))
    → IsByRisingId s.transactions
    → ((id : Id) → IsSameHold (held_in r id) (holds_by s.tree (changes_at (recorded_at s.transactions id)) []))
    → changes_apply s.tree changes ≡ true → list_all (is_new_in s.tree) changes ≡ true
    → recorded_changes_apply s who changes ≡ not (is_met r who s.tree changes)
free-is s r who changes kept rises held applies new = unmet-is s r changes (λ t there. (kept t there).0) (λ t there. (kept t there).1) rises held new who applies
