-- What transactions hold of the files by the changes that wait, beside what is kept of them.
use Rattle.std.proofs.Common.{◌≡◌, ◌==◌, ◌&&◌, not, Bool, true, false, List, [], ◌∷◌, ◌++◌, Option, Some, None, length, map, filter, refl, sym, ◌∙◌, ap, subst, inl, inr}
use Rattle.std.specs.Prelude.{if◌then◌else◌}
use Rattle.std.specs.List.{list_all, list_any}
use Rattle.std.proofs.lemmas.Bool.{and_parts, cases_Bool, false_from_ne_true, not-true, true≢false}
use Rattle.ktm_base.specs.declared.id.Id.{Id}
use Rattle.ktm_world.specs.declared.change.Change.{Change}
use Rattle.ktm_world.specs.declared.event.DonePart.{DonePart}
use Rattle.ktm_world.specs.declared.event.Part.{Part}
use Rattle.ktm_world.specs.declared.event.Part.TheVariants.{Enlistment, Changes, Settings}
use Rattle.ktm_world.specs.declared.recorded.RecordedPart.{RecordedPart}
use Rattle.ktm_world.specs.declared.recorded.Superior.{Superior}
use Rattle.ktm_world.specs.Changes.{changed_all, changes_apply, has_changes, node_of}
use Rattle.ktm_world.specs.Durable.{Durable, Recorded, are_recorded_changes, changes_in, changes_of, has_changes_part, has_undone, is_before, is_decided, is_new_in, is_ready, may_get_ready, part_applies, parts_done, recorded_changes_apply, recorded_at, recorded_or_new, while_not_done, with_recorded, without_recorded}
use Rattle.ktm_world.specs.Holds.{Holds, directories_of, holds_by}
use Rattle.ktm_world.specs.Transactions.{same_id}
use Rattle.ktm_world.specs.Tree.{Tree, IsWellFormed}
use Rattle.txf_laws.specs.Elements.{IsIn}
use Rattle.txf_laws.specs.Footprint.{footprint, ListsLaw}
use Rattle.txf_laws.proofs.offered.Tables.{Rises, before_other, recorded_at-found, rises-first, rises-rest, same_id-equal, same_id-from, same_id-sym}
use Rattle.txf_reserve.specs.ReserveState.{IsSameHold, ReserveState, holds_in}
use Rattle.txf_laws.proofs.offered.Parts.{gathered-push_none}
use Rattle.txf_laws.proofs.offered.WaitingChanges.{no_changes-left, no_changes_part, recorded_changes_apply-all, recorded_changes_apply-new}
use Rattle.ktm_waiting.specs.Table.{changes_at, decided_in, finished_in, held_for, with_one_part}
use Rattle.ktm_waiting.specs.Waiting.{AreHeld, AreKept, AreSpared, Reserves}
use Rattle.ktm_waiting.proofs.offered.Keeping.{decide-kept, decided, decided-changes, done-changes, finish-kept, found-kept, hold-kept, kept-commit, kept-filter, part-kept, recorded-some, with-changes-same}
use Rattle.ktm_waiting.proofs.offered.TableSteps.{or-new, or-new-id, or_new, passes, passes-at}

-- ---- what is the same

pub same-hold : (a b c : Holds) → IsSameHold a b → IsSameHold b c → IsSameHold a c
same-hold a b c left right = record {
  nodes = λ n. left.nodes n ∙ right.nodes n;
  places = λ p. left.places p ∙ right.places p;
  uses = λ n. left.uses n ∙ right.uses n;
  dropped = λ n. left.dropped n ∙ right.dropped n;
  moves = left.moves ∙ right.moves;
}

same-turned : (a b : Holds) → IsSameHold a b → IsSameHold b a
same-turned a b same = record {
  nodes = λ n. sym (same.nodes n);
  places = λ p. sym (same.places p);
  uses = λ n. sym (same.uses n);
  dropped = λ n. sym (same.dropped n);
  moves = sym same.moves;
}

-- changes with the same footprint hold the same
holds-same : (tree tree' : Tree) (cs : List Change) → footprint tree' cs ≡ footprint tree cs → holds_by tree' cs [] ≡ holds_by tree cs []
holds-same tree tree' cs same = λ i. record {
  nodes = map node_of cs ++ [];
  places = (same i).places;
  uses = directories_of (same i).places;
  dropped = (same i).dropped;
  moves = list_any (λ node. true) (same i).moved;
}

-- ---- the one with an Id

-- the transaction, if there is one that passes the test
abbrev kept_at : (Recorded → Bool) → Option Recorded → Option Recorded
kept_at keep None = None
kept_at keep (Some t) = if keep t then Some t else None

none-behind : (keep : Recorded → Bool) (ts : List Recorded) (id : Id) → ((u : Recorded) → IsIn u ts → same_id u.id id ≡ false) → recorded_at (filter keep ts) id ≡ None
none-behind keep [] id other = refl
none-behind keep (a ∷ ts) id other = elim (cases_Bool (keep a)) [
  | inl stays ↦ rw (stays, other a (inl refl)) (none-behind keep ts id (λ u there. other u (inr there)))
  | inr goes ↦ rw goes (none-behind keep ts id (λ u there. other u (inr there)))
]

at-filter : (keep : Recorded → Bool) (ts : List Recorded) (id : Id) → Rises ts → recorded_at (filter keep ts) id ≡ kept_at keep (recorded_at ts id)
at-filter keep [] id rises = refl
at-filter keep (a ∷ ts) id rises = elim (cases_Bool (same_id a.id id)) [
  | inl same ↦
      let others : (u : Recorded) → IsIn u ts → same_id u.id id ≡ false =
      λ u there. false_from_ne_true (same_id u.id id) (λ is. before_other a.id u.id (rises-first a ts rises u there) (same_id-equal a.id id same ∙ sym (same_id-equal u.id id is))) in
      elim (cases_Bool (keep a)) [
        | inl stays ↦ rw (same, stays) (rw same refl)
        | inr goes ↦ rw (same, goes) (none-behind keep ts id others)
      ]
  | inr other ↦ elim (cases_Bool (keep a)) [
    | inl stays ↦ rw (other, stays) (rw other (at-filter keep ts id (rises-rest a ts rises)))
    | inr goes ↦ rw (other, goes) (at-filter keep ts id (rises-rest a ts rises))
  ]
]

at-with : (ts : List Recorded) (t : Recorded) (id : Id) → recorded_at (with_recorded ts t) id ≡ (if same_id t.id id then Some t else recorded_at ts id)
at-with [] t id = refl
at-with (a ∷ ts) t id = elim (cases_Bool (same_id a.id t.id)) [
  | inl same ↦ rw same (elim (cases_Bool (same_id t.id id)) [
    | inl this ↦ rw this refl
    | inr other ↦ let other' : same_id a.id id ≡ false = subst (λ (x : Id). same_id x id ≡ false) (sym (same_id-equal a.id t.id same)) other in rw (other, other') refl
  ])
  | inr differs ↦ elim (cases_Bool (is_before t.id a.id)) [
    | inl before ↦ rw (differs, before) refl
    | inr behind ↦ rw (differs, behind) (elim (cases_Bool (same_id t.id id)) [
      | inl this ↦
          let other : same_id a.id id ≡ false = subst (λ (x : Id). same_id a.id x ≡ false) (same_id-equal t.id id this) differs in
          rw other (at-with ts t id)
      | inr other ↦ elim (cases_Bool (same_id a.id id)) [
        | inl here ↦ rw (here, other) refl
        | inr there ↦ rw (there, other) (at-with ts t id ∙ rw other refl)
      ]
    ])
  ]
]

-- the transactions but one have no other one
at-without : (ts : List Recorded) (x id : Id) → Rises ts → same_id id x ≡ false → recorded_at (without_recorded ts x) id ≡ recorded_at ts id
at-without ts x id rises other = at-filter (λ t. not (same_id t.id x)) ts id rises ∙ go (recorded_at ts id) (λ t found. (recorded_at-found ts id t found).1)
  where
    go : (o : Option Recorded) → ((t : Recorded) → o ≡ Some t → t.id ≡ id) → kept_at (λ t. not (same_id t.id x)) o ≡ o
    go None is = refl
    go (Some t) is = let differs : same_id t.id x ≡ false = subst (λ (i : Id). same_id i x ≡ false) (sym (is t refl)) other in rw differs refl

none-without : (ts : List Recorded) (x : Id) → Rises ts → recorded_at (without_recorded ts x) x ≡ None
none-without ts x rises = at-filter (λ t. not (same_id t.id x)) ts x rises ∙ go (recorded_at ts x) (λ t found. (recorded_at-found ts x t found).1)
  where
    go : (o : Option Recorded) → ((t : Recorded) → o ≡ Some t → t.id ≡ x) → kept_at (λ t. not (same_id t.id x)) o ≡ None
    go None is = refl
    go (Some t) is = let same : same_id t.id x ≡ true = same_id-from t.id x (is t refl) in rw same refl

-- one that stays while a part of it is not done
at-while : (ts : List Recorded) (t : Recorded) (id : Id) → Rises ts → same_id id t.id ≡ false → recorded_at (while_not_done ts t) id ≡ recorded_at ts id
at-while ts t id rises other = elim (cases_Bool (list_any (λ (p : RecordedPart). not p.is_done) t.parts)) [
  | inl stays ↦ rw stays (at-with ts t id ∙ rw (same_id-sym id t.id other) refl)
  | inr over ↦ rw over (at-without ts t.id id rises other)
]

pub at-with-itself : (ts : List Recorded) (t : Recorded) → recorded_at (with_recorded ts t) t.id ≡ Some t
at-with-itself ts t = at-with ts t t.id ∙ rw (same_id-from t.id t.id refl) refl

-- where it has no changes, none are left
while-none : (ts : List Recorded) (t : Recorded) → Rises ts → changes_of t ≡ [] → changes_at (recorded_at (while_not_done ts t) t.id) ≡ []
while-none ts t rises none = elim (cases_Bool (list_any (λ (p : RecordedPart). not p.is_done) t.parts)) [
  | inl stays ↦ rw stays (ap changes_at (at-with-itself ts t) ∙ none)
  | inr over ↦ rw over (ap changes_at (none-without ts t.id rises))
]

-- what the transaction changes that is there, or else a new one
known-changes : (ts : List Recorded) (id : Id) → changes_at (recorded_at ts id) ≡ changes_of (recorded_or_new ts id)
known-changes ts id = go (recorded_at ts id) ∙ ap changes_of (sym (or-new ts id))
  where
    go : (o : Option Recorded) → changes_at o ≡ changes_of (or_new id o)
    go None = refl
    go (Some t) = refl

-- ---- what is held

-- of one transaction the changes are these from now on
pub reserves-changed : (r r' : ReserveState) (tree : Tree) (ts us : List Recorded) (x : Id) (cs : List Change) → Reserves r tree ts
    → ((id : Id) → IsSameHold (holds_in r' id) (if same_id id x then holds_by tree cs [] else holds_in r id))
    → changes_at (recorded_at us x) ≡ cs → ((id : Id) → same_id id x ≡ false → changes_at (recorded_at us id) ≡ changes_at (recorded_at ts id)) → Reserves r' tree us
reserves-changed r r' tree ts us x cs reserves held this others id = elim (cases_Bool (same_id id x)) [
  | inl same ↦
      subst (λ (ds : List Change). IsSameHold (holds_in r' id) (holds_by tree ds [])) (sym (ap (λ (i : Id). changes_at (recorded_at us i)) (same_id-equal id x same) ∙ this))
      (rw same at (held id))
  | inr other ↦
      let before : IsSameHold (holds_in r' id) (holds_in r id) = rw other at (held id) in
      subst (λ (ds : List Change). IsSameHold (holds_in r' id) (holds_by tree ds [])) (sym (others id other)) (same-hold (holds_in r' id) (holds_in r id) (holds_by tree (changes_at (recorded_at ts id)) []) before (reserves id))
]

-- what each changes is the same
pub reserves-same : (r : ReserveState) (tree : Tree) (ts us : List Recorded) → Reserves r tree ts → ((id : Id) → changes_at (recorded_at us id) ≡ changes_at (recorded_at ts id)) → Reserves r tree us
reserves-same r tree ts us reserves same id = subst (λ (cs : List Change). IsSameHold (holds_in r id) (holds_by tree cs [])) (sym (same id)) (reserves id)

-- one transaction is put in place of itself, with these changes
pub changes-with : (ts : List Recorded) (t : Recorded) (x id : Id) → t.id ≡ x → same_id id x ≡ false → changes_at (recorded_at (with_recorded ts t) id) ≡ changes_at (recorded_at ts id)
changes-with ts t x id is other =
    let differs : same_id t.id id ≡ false = subst (λ (i : Id). same_id i id ≡ false) (sym is) (same_id-sym id x other) in
    let same : (if same_id t.id id then Some t else recorded_at ts id) ≡ recorded_at ts id = rw differs refl in
    ap changes_at (at-with ts t id ∙ same)

pub changes-with-itself : (ts : List Recorded) (t : Recorded) (x : Id) → t.id ≡ x → changes_at (recorded_at (with_recorded ts t) x) ≡ changes_of t
changes-with-itself ts t x is = ap (λ (i : Id). changes_at (recorded_at (with_recorded ts t) i)) (sym is) ∙ ap changes_at (at-with-itself ts t)

-- one transaction is put in place of itself, with the same changes as before
pub reserves-with : (r : ReserveState) (tree : Tree) (ts : List Recorded) (t : Recorded) (x : Id) → Reserves r tree ts → t.id ≡ x → changes_of t ≡ changes_of (recorded_or_new ts x) → Reserves r tree (with_recorded ts t)
reserves-with r tree ts t x reserves is same = reserves-same r tree ts (with_recorded ts t) reserves (λ id. elim (cases_Bool (same_id id x)) [
  | inl this ↦
      ap (λ (i : Id). changes_at (recorded_at (with_recorded ts t) i)) (same_id-equal id x this) ∙ changes-with-itself ts t x is ∙ same ∙ sym (known-changes ts x)
      ∙ ap (λ (i : Id). changes_at (recorded_at ts i)) (sym (same_id-equal id x this))
  | inr other ↦ changes-with ts t x id is other
])

-- one is forgotten, and holds nothing
pub reserves-without : (r r' : ReserveState) (tree : Tree) (ts : List Recorded) (x : Id) → Rises ts → Reserves r tree ts
    → ((id : Id) → IsSameHold (holds_in r' id) (if same_id id x then holds_by [] [] [] else holds_in r id)) → Reserves r' tree (without_recorded ts x)
reserves-without r r' tree ts x rises reserves held =
    reserves-changed r r' tree ts (without_recorded ts x) x [] reserves held (ap changes_at (none-without ts x rises)) (λ id other. ap changes_at (at-without ts x id rises other))

-- one is decided, which holds nothing from now on
pub reserves-decided : (r r' : ReserveState) (tree : Tree) (ts : List Recorded) (x : Id) → Rises ts → Reserves r tree ts
    → ((id : Id) → IsSameHold (holds_in r' id) (if same_id id x then holds_by [] [] [] else holds_in r id)) → Reserves r' tree (decided_in ts (recorded_at ts x))
reserves-decided r r' tree ts x rises reserves held = go (recorded_at ts x) refl (λ t found. (recorded_at-found ts x t found).1)
  where
    go : (o : Option Recorded) → recorded_at ts x ≡ o → ((t : Recorded) → o ≡ Some t → t.id ≡ x) → Reserves r' tree (decided_in ts o)
    go None found is = reserves-changed r r' tree ts ts x [] reserves held (ap changes_at found) (λ id other. refl)
    go (Some t) found is =
        reserves-changed r r' tree ts (while_not_done ts (decided t)) x [] reserves held
        (subst (λ (i : Id). changes_at (recorded_at (while_not_done ts (decided t)) i) ≡ []) (is t refl) (while-none ts (decided t) rises (decided-changes t)))
        (λ id other. ap changes_at (at-while ts (decided t) id rises (subst (λ (i : Id). same_id id i ≡ false) (sym (is t refl)) other)))

-- a participant of one that is decided is done
pub reserves-finished : (r : ReserveState) (tree : Tree) (ts : List Recorded) (done : DonePart) (x : Id) → Rises ts → Reserves r tree ts
    → ((t : Recorded) → recorded_at ts x ≡ Some t → (changes_of t ≡ []) × (changes_of (record t { parts = parts_done done t.parts }) ≡ [])) → Reserves r tree (finished_in ts done (recorded_at ts x))
reserves-finished r tree ts done x rises reserves none = go (recorded_at ts x) refl (λ t found. (recorded_at-found ts x t found).1)
  where
    go : (o : Option Recorded) → recorded_at ts x ≡ o → ((t : Recorded) → o ≡ Some t → t.id ≡ x) → Reserves r tree (finished_in ts done o)
    go None found is = reserves
    go (Some t) found is = reserves-same r tree ts (while_not_done ts u) reserves (λ id. elim (cases_Bool (same_id id x)) [
      | inl same ↦
          ap (λ (i : Id). changes_at (recorded_at (while_not_done ts u) i)) (same_id-equal id x same ∙ sym (is t refl)) ∙ while-none ts u rises (none t found).1
          ∙ sym (ap (λ (i : Id). changes_at (recorded_at ts i)) (same_id-equal id x same) ∙ ap changes_at found ∙ (none t found).0)
      | inr other ↦ ap changes_at (at-while ts u id rises (subst (λ (i : Id). same_id id i ≡ false) (sym (is t refl)) other))
    ])
      where
        u : Recorded
        u = record t { parts = parts_done done t.parts }

-- a boot forgets those that are ready, which hold nothing from then on
pub reserves-booted : (r r' : ReserveState) (tree : Tree) (ts : List Recorded) → Rises ts → Reserves r tree ts
    → ((id : Id) → IsSameHold (holds_in r' id) (if list_any (λ t. same_id t.id id && is_ready t.stage) ts then holds_by [] [] [] else holds_in r id))
    → Reserves r' tree (filter (λ t. not (is_ready t.stage)) ts)
reserves-booted r r' tree ts rises reserves held id =
    subst (λ (o : Option Recorded). IsSameHold (holds_in r' id) (holds_by tree (changes_at o) [])) (sym (at-filter (λ t. not (is_ready t.stage)) ts id rises))
    (go (recorded_at ts id) (subst (λ (b : Bool). IsSameHold (holds_in r' id) (if b then holds_by [] [] [] else holds_in r id)) (passes-at ts id (λ t. is_ready t.stage) rises) (held id)) (reserves id))
  where
    go : (o : Option Recorded) → IsSameHold (holds_in r' id) (if passes (λ t. is_ready t.stage) o then holds_by [] [] [] else holds_in r id) → IsSameHold (holds_in r id) (holds_by tree (changes_at o) [])
        → IsSameHold (holds_in r' id) (holds_by tree (changes_at (kept_at (λ t. not (is_ready t.stage)) o)) [])
    go None held' before = same-hold (holds_in r' id) (holds_in r id) (holds_by tree [] []) held' before
    go (Some t) held' before = elim (cases_Bool (is_ready t.stage)) [
      | inl ready ↦ rw ready (rw ready at held')
      | inr other ↦ rw other (same-hold (holds_in r' id) (holds_in r id) (holds_by tree (changes_of t) []) (rw other at held') before)
    ]

-- over the files that changes make which are apart from those that wait, the same is held
pub reserves-commit : ListsLaw → (r : ReserveState) (tree : Tree) (ts : List Recorded) (cs : List Change) → IsWellFormed tree → AreKept tree ts → changes_apply tree cs ≡ true → AreSpared tree ts cs → Reserves r tree ts → Reserves r (changed_all tree cs) ts
reserves-commit lists r tree ts cs formed kept all spared reserves id = go (recorded_at ts id) (λ t found. (recorded_at-found ts id t found).0) (reserves id)
  where
    go : (o : Option Recorded) → ((t : Recorded) → o ≡ Some t → IsIn t ts) → IsSameHold (holds_in r id) (holds_by tree (changes_at o) []) → IsSameHold (holds_in r id) (holds_by (changed_all tree cs) (changes_at o) [])
    go None found before = before
    go (Some t) found before =
        subst (IsSameHold (holds_in r id)) (sym (holds-same tree (changed_all tree cs) (changes_of t) (lists tree cs (changes_of t) formed all (kept.each t (found t refl)).apply (spared t (found t refl))).0.footprint)) before

-- ---- held for a while

-- nothing is held
abbrev nothing : Holds
nothing = holds_by [] [] []

-- changes are there where their count is not 0
pub some-changes : (cs : List Change) → (length cs == 0) ≡ false → has_changes cs ≡ true
some-changes [] none = absurd (true≢false none)
some-changes (c ∷ cs) some = refl

-- one that held nothing holds nothing again
pub unheld : (r between r' : ReserveState) (x : Id) → IsSameHold (holds_in r x) nothing → ((id : Id) → same_id id x ≡ false → IsSameHold (holds_in between id) (holds_in r id))
    → ((id : Id) → IsSameHold (holds_in r' id) (if same_id id x then nothing else holds_in between id)) → (id : Id) → IsSameHold (holds_in r' id) (holds_in r id)
unheld r between r' x none held released id = elim (cases_Bool (same_id id x)) [
  | inl same ↦
      same-hold (holds_in r' id) nothing (holds_in r id) (rw same at (released id)) (same-turned (holds_in r id) nothing (subst (λ (i : Id). IsSameHold (holds_in r i) nothing) (sym (same_id-equal id x same)) none))
  | inr other ↦ same-hold (holds_in r' id) (holds_in between id) (holds_in r id) (rw other at (released id)) (held id other)
]

-- ---- what is kept and held

-- nothing, where there are no transactions
pub held-none : (r : ReserveState) (tree : Tree) → ((id : Id) → IsSameHold (holds_in r id) (holds_by [] [] [])) → AreHeld r tree []
held-none r tree none = record { kept = record { rise = refl; each = λ t there. absurd there; beside = λ t u there there' other. absurd there }; reserves = none }

module _ (r : ReserveState) (tree : Tree) (ts : List Recorded) (held : AreHeld r tree ts) where
  -- changes are made that are apart from those that wait
  pub held-commit : ListsLaw → (tree' : Tree) (cs : List Change) → IsWellFormed tree → changes_apply tree cs ≡ true → AreSpared tree ts cs → tree' ≡ changed_all tree cs → AreHeld r tree' ts
  held-commit lists tree' cs formed all spared is = subst (λ (t : Tree). AreHeld r t ts) (sym is) (record {
    kept = kept-commit lists tree ts cs formed held.kept all spared;
    reserves = reserves-commit lists r tree ts cs formed held.kept all spared held.reserves;
  })

  pub held-superior : (id : Id) (superior : Superior) → is_decided (recorded_or_new ts id).stage ≡ false → AreHeld r tree (with_recorded ts (held_for (recorded_or_new ts id) superior))
  held-superior id superior waits = record {
    kept = hold-kept tree ts id held.kept waits superior;
    reserves = reserves-with r tree ts (held_for (recorded_or_new ts id) superior) id held.reserves (or-new-id ts id) refl;
  }

  -- one of which a participant is not done is decided
  pub undone-decided : (done : DonePart) (id : Id) → list_any (λ t. same_id t.id id && has_undone done t) ts ≡ true → (t : Recorded) → recorded_at ts id ≡ Some t → is_decided t.stage ≡ true
  undone-decided done id undone t found =
      (and_parts (is_decided t.stage) _ (ap (passes (has_undone done)) (sym found) ∙ sym (passes-at ts id (has_undone done) held.kept.rise) ∙ undone)).0

  -- a participant of a decided transaction is done
  pub held-finished : (done : DonePart) (id : Id) → list_any (λ t. same_id t.id id && has_undone done t) ts ≡ true → AreHeld r tree (finished_in ts done (recorded_at ts id))
  held-finished done id undone = record {
    kept = finish-kept tree ts done id held.kept;
    reserves = reserves-finished r tree ts done id held.kept.rise held.reserves (λ t found. let none = idle t found in (none, done-changes done t.parts ∙ none));
  }
    where
      idle : (t : Recorded) → recorded_at ts id ≡ Some t → changes_of t ≡ []
      idle t found = no_changes-left t (found-kept tree ts id t held.kept found).changes (undone-decided done id undone t found)

  module _ (r' : ReserveState) where
    -- one of them is forgotten
    pub held-without : (x : Id) → ((id : Id) → IsSameHold (holds_in r' id) (if same_id id x then holds_by [] [] [] else holds_in r id)) → AreHeld r' tree (without_recorded ts x)
    held-without x released = record {
      kept = kept-filter tree (λ t. not (same_id t.id x)) ts held.kept;
      reserves = reserves-without r r' tree ts x held.kept.rise held.reserves released;
    }

    -- those that are ready are
    pub held-booted : ((id : Id) → IsSameHold (holds_in r' id) (if list_any (λ t. same_id t.id id && is_ready t.stage) ts then holds_by [] [] [] else holds_in r id))
        → AreHeld r' tree (filter (λ t. not (is_ready t.stage)) ts)
    held-booted released = record {
      kept = kept-filter tree (λ t. not (is_ready t.stage)) ts held.kept;
      reserves = reserves-booted r r' tree ts held.kept.rise held.reserves released;
    }

    -- one of them is decided
    pub held-decided : (x : Id) → ((id : Id) → IsSameHold (holds_in r' id) (if same_id id x then holds_by [] [] [] else holds_in r id)) → AreHeld r' tree (decided_in ts (recorded_at ts x))
    held-decided x released = record {
      kept = decide-kept tree ts (recorded_at ts x) held.kept (λ t found. (found-kept tree ts x t held.kept found).parts);
      reserves = reserves-decided r r' tree ts x held.kept.rise held.reserves released;
    }

-- each transaction is kept, and holds what its changes hold, where each holds the same as before
pub held-as : (r r' : ReserveState) (tree : Tree) (ts : List Recorded) → AreHeld r tree ts → ((id : Id) → IsSameHold (holds_in r' id) (holds_in r id)) → AreHeld r' tree ts
held-as r r' tree ts held same =
    record { kept = held.kept; reserves = λ id. same-hold (holds_in r' id) (holds_in r id) (holds_by tree (changes_at (recorded_at ts id)) []) (same id) (held.reserves id) }

-- one that changes nothing holds nothing
pub held-idle : (r : ReserveState) (tree : Tree) (ts : List Recorded) (x : Id) → AreHeld r tree ts → changes_at (recorded_at ts x) ≡ [] → IsSameHold (holds_in r x) (holds_by [] [] [])
held-idle r tree ts x held none = subst (λ (cs : List Change). IsSameHold (holds_in r x) (holds_by tree cs [])) none (held.reserves x)

-- ---- a part more

-- what the changes of a part leave held
abbrev pub HoldsPart : ReserveState → ReserveState → Tree → Id → List Change → Type 0
HoldsPart r r' tree x cs = (id : Id) → IsSameHold (holds_in r' id) (if has_changes cs && same_id id x then holds_by tree cs [] else holds_in r id)

module _ (r r' : ReserveState) (s : Durable) (id : Id) (held : AreHeld r s.tree s.transactions) (may : may_get_ready s id ≡ true) where
  abbrev known : Recorded
  known = recorded_or_new s.transactions id

  held-alike : (part : Part) → part_applies s id part ≡ true → changes_of (with_one_part known part) ≡ changes_of known → HoldsPart r r' s.tree id [] → AreHeld r' s.tree (with_recorded s.transactions (with_one_part known part))
  held-alike part applies same holds = record {
    kept = part-kept s id held.kept may part applies;
    reserves = reserves-with r' s.tree s.transactions (with_one_part known part) id (λ x. same-hold (holds_in r' x) (holds_in r x) (holds_by s.tree (changes_at (recorded_at s.transactions x)) []) (holds x) (held.reserves x)) (or-new-id s.transactions id) same;
  }

  pub held-part : (part : Part) → part_applies s id part ≡ true → HoldsPart r r' s.tree id (changes_in part) → AreHeld r' s.tree (with_recorded s.transactions (with_one_part known part))
  held-part (Enlistment enlistment manager information) applies holds =
      let part : Part = Enlistment enlistment manager information in
      held-alike part applies (gathered-push_none changes_in known.parts (record { is_done = false; part = part }) refl) holds
  held-part (Settings settings) applies holds =
      let part : Part = Settings settings in
      held-alike part applies (gathered-push_none changes_in known.parts (record { is_done = false; part = part }) refl) holds
  held-part (Changes cs) applies holds =
      let tests = and_parts (not (has_changes_part known) && are_recorded_changes cs) (recorded_changes_apply s (Some id) cs) applies in
      let both = and_parts (not (has_changes_part known)) (are_recorded_changes cs) tests.0 in
      record {
        kept = part-kept s id held.kept may (Changes cs) applies;
        reserves = reserves-changed r r' s.tree s.transactions (with_recorded s.transactions (with_one_part known (Changes cs))) id cs held.reserves (some (recorded-some cs both.1))
            (changes-with-itself s.transactions (with_one_part known (Changes cs)) id (or-new-id s.transactions id) ∙ with-changes-same known cs (not-true _ both.0))
            (λ x other. changes-with s.transactions (with_one_part known (Changes cs)) id x (or-new-id s.transactions id) other);
      }
    where
      some : has_changes cs ≡ true → (x : Id) → IsSameHold (holds_in r' x) (if same_id x id then holds_by s.tree cs [] else holds_in r x)
      some is x = rw is at (holds x)

-- before it is held, the changes of a part have the form in which they are recorded and apply, and their transaction has none and holds nothing
pub part-recorded : (s : Durable) (id : Id) (part : Part) → part_applies s id part ≡ true → has_changes (changes_in part) ≡ true → are_recorded_changes (changes_in part) ≡ true
part-recorded s id (Enlistment enlistment manager information) applies some = absurd (true≢false (sym some))
part-recorded s id (Settings settings) applies some = absurd (true≢false (sym some))
part-recorded s id (Changes cs) applies some =
    let tests = and_parts (not (has_changes_part (recorded_or_new s.transactions id)) && are_recorded_changes cs) (recorded_changes_apply s (Some id) cs) applies in
    (and_parts (not (has_changes_part (recorded_or_new s.transactions id))) (are_recorded_changes cs) tests.0).1

pub part-changes_apply : (s : Durable) (id : Id) (part : Part) → part_applies s id part ≡ true → changes_apply s.tree (changes_in part) ≡ true
part-changes_apply s id (Enlistment enlistment manager information) applies = refl
part-changes_apply s id (Settings settings) applies = refl
part-changes_apply s id (Changes cs) applies =
    recorded_changes_apply-all s (Some id) cs (and_parts (not (has_changes_part (recorded_or_new s.transactions id)) && are_recorded_changes cs) (recorded_changes_apply s (Some id) cs) applies).1

pub part-new : (s : Durable) (id : Id) (part : Part) → part_applies s id part ≡ true → list_all (is_new_in s.tree) (changes_in part) ≡ true
part-new s id (Enlistment enlistment manager information) applies = refl
part-new s id (Settings settings) applies = refl
part-new s id (Changes cs) applies =
    recorded_changes_apply-new s (Some id) cs (and_parts (not (has_changes_part (recorded_or_new s.transactions id)) && are_recorded_changes cs) (recorded_changes_apply s (Some id) cs) applies).1

-- they are the first of their transaction
pub part-first : (s : Durable) (id : Id) (part : Part) → part_applies s id part ≡ true → has_changes (changes_in part) ≡ true → changes_of (recorded_or_new s.transactions id) ≡ []
part-first s id (Enlistment enlistment manager information) applies some = absurd (true≢false (sym some))
part-first s id (Settings settings) applies some = absurd (true≢false (sym some))
part-first s id (Changes cs) applies some =
    let tests = and_parts (not (has_changes_part (recorded_or_new s.transactions id)) && are_recorded_changes cs) (recorded_changes_apply s (Some id) cs) applies in
    no_changes_part (recorded_or_new s.transactions id) (not-true _ (and_parts (not (has_changes_part (recorded_or_new s.transactions id))) (are_recorded_changes cs) tests.0).0)

pub part-idle : (r : ReserveState) (s : Durable) (id : Id) (part : Part) → AreHeld r s.tree s.transactions → part_applies s id part ≡ true → has_changes (changes_in part) ≡ true → IsSameHold (holds_in r id) (holds_by [] [] [])
part-idle r s id part held applies some = held-idle r s.tree s.transactions id held (known-changes s.transactions id ∙ part-first s id part applies some)
