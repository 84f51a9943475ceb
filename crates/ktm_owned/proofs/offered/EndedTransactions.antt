-- Ends of transactions, and all that changes nothing of the files, keep sound what undecided transactions own of them.
use Rattle.std.proofs.Common.{◌≡◌, ◌==◌, ◌&&◌, not, Bool, true, false, is_some, filter, fold, map, List, [], ◌∷◌, Some, None, refl, sym, ◌∙◌, ap, subst, inl, inr, ◌⊎◌}
use Rattle.std.proofs.lemmas.Bool.{cases_Bool, eq-eqb, eqb-true, eqb-false, ltb-true, and_parts, and_from, or_parts, not-true, true≢false, false_from_ne_true}
use Rattle.std.proofs.lemmas.Option.{none-some, same_Some}
use Rattle.std.specs.List.{list_all}
use Rattle.std.specs.Prelude.{nat_le}
use Rattle.ktm_base.specs.declared.id.Id.{Id}
use Rattle.ktm_world.specs.declared.change.Change.{Change}
use Rattle.ktm_world.specs.declared.object.Handle.{Handle}
use Rattle.ktm_world.specs.declared.object.Object.{Object}
use Rattle.ktm_world.specs.declared.object.Transaction.{Transaction}
use Rattle.ktm_world.specs.Changes.{changed, node_of}
use Rattle.ktm_world.specs.Committed.{Committed, versions_after, with_change}
use Rattle.ktm_world.specs.Conflicts.{holds_now}
use Rattle.ktm_world.specs.Durable.{is_before}
use Rattle.ktm_world.specs.Files.{FilesNow, FirstOpen, OpenFile, OwnChanges, own_changes}
use Rattle.ktm_world.specs.HandleCalls.{has_handle, is_handle}
use Rattle.ktm_world.specs.Holds.{is_in}
use Rattle.ktm_world.specs.Labels.{holds_of}
use Rattle.ktm_world.specs.Lawful.{undecided}
use Rattle.ktm_world.specs.Present.{Present}
use Rattle.ktm_world.specs.Transactions.{is_of, is_undecided, same_id, change_at, transaction_at}
use Rattle.ktm_world.specs.Tree.{content_of}
use Rattle.txf_laws.specs.Elements.{IsIn, each_pair}
use Rattle.txf_laws.specs.Footprint.{ListsLaw}
use Rattle.txf_laws.specs.Formed.{FormedLaw}
use Rattle.txf_laws.specs.SoundFiles.{IsSoundFiles, is_undecided_in, numbers_made}
use Rattle.txf_laws.proofs.offered.ChangeTests.{node-elsewhere}
use Rattle.txf_laws.proofs.offered.Diamonds.{no_test, meets-not}
use Rattle.txf_laws.proofs.offered.Elements.{IsIn-kept, list_all-at, list_all-from, list_any-at, list_any-from, filter-true}
use Rattle.txf_laws.proofs.offered.Lists.{IsIn-left}
use Rattle.txf_laws.proofs.offered.CommitsOfOthers.{Spares, passed, passed-sound, next-enough, drawn-made, made-number, spares-none}
use Rattle.txf_laws.proofs.offered.Reservations.{own_changes-found, own-apply, own-apart, holds-apart, writer-alone}
use Rattle.txf_laws.proofs.offered.Tables.{same_id-equal, same_id-from, same_id-sym, before_other}

-- ---- what stands once

-- does the first transaction come before the second
abbrev pub is_created_before : Transaction → Transaction → Bool
is_created_before t u = is_before t.id u.id

-- is the label of the second handle another one than that of the first, or of another process
abbrev pub is_labelled_apart : Handle → Handle → Bool
is_labelled_apart a b = not (is_handle a.process a.label b)

-- transactions and handles stand once
pub record AreInOrder (x : Present) : Type 0 where
  -- transactions stand by rising Id
  pub transactions_rise : each_pair is_created_before x.transactions.items ≡ true
  -- no label of a process is bound twice
  pub labels_differ : each_pair is_labelled_apart x.handles ≡ true

-- ---- lists

pub filter-same : {X : Type 0} (f g : X → Bool) (xs : List X) → ((x : X) → f x ≡ g x) → filter f xs ≡ filter g xs
filter-same f g [] same = refl
filter-same f g (x ∷ xs) same = elim (cases_Bool (g x)) [
  | inl is ↦ rw (same x ∙ is, is) (ap (λ ys. x ∷ ys) (filter-same f g xs same))
  | inr not' ↦ rw (same x ∙ not', not') (filter-same f g xs same)
]

pub same_id-turned : (a b : Id) → same_id a b ≡ same_id b a
same_id-turned a b = elim (cases_Bool (same_id a b)) [
  | inl same ↦ same ∙ sym (same_id-from b a (sym (same_id-equal a b same)))
  | inr other ↦ other ∙ sym (same_id-sym a b other)
]

-- ---- transactions by rising Id

-- the transactions behind the first one have other Ids
behind : (t : Transaction) (ts : List Transaction) → each_pair is_created_before (t ∷ ts) ≡ true → (u : Transaction) → IsIn u ts → same_id t.id u.id ≡ false
behind t ts rises u there = false_from_ne_true _ (λ same.
    before_other t.id u.id (list_all-at (is_created_before t) ts (and_parts (list_all (is_created_before t) ts) (each_pair is_created_before ts) rises).0 u there) (same_id-equal t.id u.id same))

pub transaction_at-there : (ts : List Transaction) → each_pair is_created_before ts ≡ true → (t : Transaction) → IsIn t ts → transaction_at ts t.id ≡ Some t
transaction_at-there [] rises t there = absurd there
transaction_at-there (u ∷ us) rises t (inl e) = rw (same_id-from u.id t.id (ap (λ (v : Transaction). v.id) e)) (ap Some e)
transaction_at-there (u ∷ us) rises t (inr there) = rw (behind u us rises t there) (transaction_at-there us (and_parts (list_all (is_created_before u) us) (each_pair is_created_before us) rises).1 t there)

pub transaction_at-in : (ts : List Transaction) (id : Id) (t : Transaction) → transaction_at ts id ≡ Some t → IsIn t ts
transaction_at-in [] id t found = absurd (none-some t found)
transaction_at-in (u ∷ us) id t found = elim (cases_Bool (same_id u.id id)) [
  | inl same ↦ inl (same_Some u t (rw same at found))
  | inr other ↦ inr (transaction_at-in us id t (rw other at found))
]

pub IsIn-change_at : (ts : List Transaction) (v : Transaction) → each_pair is_created_before ts ≡ true → (u : Transaction) → IsIn u (change_at ts v.id (λ t. v)) → (u ≡ v) ⊎ (IsIn u ts × (same_id v.id u.id ≡ false))
IsIn-change_at [] v rises u there = absurd there
IsIn-change_at (t ∷ ts) v rises u there = elim (cases_Bool (same_id t.id v.id)) [
  | inl same ↦
      let there' : IsIn u (v ∷ ts) = rw same at there in
      elim there' [ inl e ↦ inl (sym e) | inr later ↦ inr (inr later, subst (λ i. same_id i u.id ≡ false) (same_id-equal t.id v.id same) (behind t ts rises u later)) ]
  | inr other ↦
      let there' : IsIn u (t ∷ change_at ts v.id (λ t. v)) = rw other at there in
      elim there' [
        | inl e ↦ inr (inl e, subst (λ (w : Transaction). same_id v.id w.id ≡ false) e (same_id-sym t.id v.id other))
        | inr later ↦ elim (IsIn-change_at ts v (and_parts (list_all (is_created_before t) ts) (each_pair is_created_before ts) rises).1 u later) [ inl e ↦ inl e | inr old ↦ inr (inr old.0, old.1) ]
      ]
]

IsIn-change_at-id : (ts : List Transaction) (v u : Transaction) → IsIn u (change_at ts v.id (λ t. v)) → (t : Transaction) × IsIn t ts × (t.id ≡ u.id)
IsIn-change_at-id [] v u there = absurd there
IsIn-change_at-id (t ∷ ts) v u there = elim (cases_Bool (same_id t.id v.id)) [
  | inl same ↦
      let there' : IsIn u (v ∷ ts) = rw same at there in
      elim there' [ inl e ↦ (t, inl refl, same_id-equal t.id v.id same ∙ ap (λ (w : Transaction). w.id) e) | inr later ↦ (u, inr later, refl) ]
  | inr other ↦
      let there' : IsIn u (t ∷ change_at ts v.id (λ t. v)) = rw other at there in
      elim there' [
        | inl e ↦ (t, inl refl, ap (λ (w : Transaction). w.id) e)
        | inr later ↦ let rest = IsIn-change_at-id ts v u later in (rest.0, inr rest.1, rest.2)
      ]
]

-- the order stays where one is changed
pub order-changed : (ts : List Transaction) (v : Transaction) → each_pair is_created_before ts ≡ true → each_pair is_created_before (change_at ts v.id (λ t. v)) ≡ true
order-changed [] v rises = refl
order-changed (t ∷ ts) v rises =
    let parts = and_parts (list_all (is_created_before t) ts) (each_pair is_created_before ts) rises in
    elim (cases_Bool (same_id t.id v.id)) [
      | inl same ↦ rw same (and_from _ _
          (list_all-from (is_created_before v) ts (λ u there. subst (λ i. is_before i u.id ≡ true) (same_id-equal t.id v.id same) (list_all-at (is_created_before t) ts parts.0 u there))) parts.1)
      | inr other ↦ rw other (and_from _ _
          (list_all-from (is_created_before t) (change_at ts v.id (λ t. v)) (λ u there.
          let old = IsIn-change_at-id ts v u there in
          subst (λ i. is_before t.id i ≡ true) old.2 (list_all-at (is_created_before t) ts parts.0 old.0 old.1)))
          (order-changed ts v parts.1))
    ]

-- ---- what is committed does not depend on the store

pub tree-store : (cs : List Change) (c d : Committed) → c.tree ≡ d.tree → c.versions ≡ d.versions → (fold with_change c cs).tree ≡ (fold with_change d cs).tree
tree-store [] c d trees versions = trees
tree-store (change ∷ cs) c d trees versions = tree-store cs (with_change c change) (with_change d change) (ap (λ t. changed t change) trees) (ap (λ vs. versions_after vs change) versions)

pub versions-store : (cs : List Change) (c d : Committed) → c.tree ≡ d.tree → c.versions ≡ d.versions → (fold with_change c cs).versions ≡ (fold with_change d cs).versions
versions-store [] c d trees versions = versions
versions-store (change ∷ cs) c d trees versions = versions-store cs (with_change c change) (with_change d change) (ap (λ t. changed t change) trees) (ap (λ vs. versions_after vs change) versions)

-- ---- nothing is committed

-- the files as they were
kept-all : (files : FilesNow) → files ≡ passed files [] (λ t. true) files.table.next_node
kept-all files i = record {
  tree = files.tree;
  versions = files.versions;
  first_opens = sym (filter-true files.first_opens) i;
  table = record files.table { own = sym (filter-true files.table.own) i; opens = sym (filter-true files.table.opens) i };
}

module _ (lists : ListsLaw) (formed : FormedLaw) where
  -- nothing of the files changes
  pub unchanged : (x y : Present) → y.files ≡ x.files → y.recorded.boots ≡ x.recorded.boots → ((o : OpenFile) → IsIn o x.files.table.opens → has_handle y.handles (Object.File o.number) ≡ true)
      → ((id : Id) → is_undecided_in x.transactions.items id ≡ true → is_undecided_in y.transactions.items id ≡ true)
      → ((u : Transaction) → IsIn u (undecided y) → (v : Transaction) × IsIn v (undecided x) × (v.id ≡ u.id)) → IsSoundFiles x → IsSoundFiles y
  unchanged x y files boots handles stays those sound = passed-sound lists formed x y [] (λ t. true) x.files.table.next_node sound (spares-none x (λ t. true) sound) (record {
    files = files ∙ kept-all x.files;
    boots = boots;
    handles = λ o there kept. handles o there;
    undecided = λ id kept. stays id;
    those = λ u there. let v = those u there in (v.0, v.1, v.2, refl);
  })

  -- ---- the end of a transaction

  -- the changes of a transaction that is undecided spare all others
  spares-own : (x : Present) → IsSoundFiles x → (t : Transaction) → IsIn t (undecided x) → Spares x (own_changes x.files.table.own t.id) (λ other. not (is_of t.id other)) x.files.table.next_node
  spares-own x sound t there = record {
    all = own-apply x sound t.id;
    apart = λ v there' kept. own-apart x sound t v there there' (not-true _ kept);
    clear = λ v there' kept n drawn mine theirs.
        let apart = and_parts _ _ (and_parts _ _ (and_parts _ _ (holds-apart x sound t v there there' (not-true _ kept))).0).0 in
        meets-not (holds_now x.files t.id).nodes (holds_now x.files v.id).nodes (not-true _ apart.0) n (IsIn-left n (map node_of (own_changes x.files.table.own t.id)) _ mine)
        (let found = list_any-at (λ m. m == n) (holds_now x.files v.id).nodes theirs in subst (λ m. IsIn m (holds_now x.files v.id).nodes) (eqb-true _ _ found.2) found.1);
    fresh = λ o there' kept c mine make e. elim (own_changes-found x.files.table.own t.id) [
      | inl none ↦ absurd (subst (IsIn c) none mine)
      | inr (p, has, is, changes) ↦
          let made : is_in (numbers_made p.changes) o.file ≡ true = list_any-from (λ m. m == o.file) (numbers_made p.changes) o.file
          (subst (λ m. IsIn m (numbers_made p.changes)) e (made-number p.changes c (subst (IsIn c) (sym changes) mine) make)) (eq-eqb o.file o.file refl) in
          true≢false (sym made ∙ not-true _ (list_all-at (λ (p : OwnChanges). not (is_in (numbers_made p.changes) o.file)) x.files.table.own
          (list_all-at (λ (o : FirstOpen). list_all (λ p. not (is_in (numbers_made p.changes) o.file)) x.files.table.own) x.files.first_opens sound.first_not_made o there') p has))
    ];
    plain = λ o there' plain may.
        let touched = or_parts (is_in (holds_now x.files t.id).nodes o.node) _ (writer-alone x sound o t there' plain may there) in
        ap (λ n. is_some (content_of n)) (node-elsewhere (own_changes x.files.table.own t.id) x.files.tree o.node (own-apply x sound t.id) (λ mine.
        eqb-false o.node o.node (no_test (λ m. m == o.node) o.node (holds_now x.files t.id).nodes touched.0 (IsIn-left o.node (map node_of (own_changes x.files.table.own t.id)) _ mine)) refl))
        ∙ (spares-none x (λ t. true) sound).plain o there' plain may;
    next = next-enough (own_changes x.files.table.own t.id) x.files.table.next_node (λ n made. ltb-true n x.files.table.next_node (and_parts (nat_le 2 n) _ (drawn-made x sound t.id n made)).1);
    next_to = sound.next_to;
  }

  -- what a transaction has at the end of its course: no work, or its own changes, and these are none where it was decided before
  pub spares-end : (x : Present) → AreInOrder x → IsSoundFiles x → (t : Transaction) → IsIn t x.transactions.items → Spares x (own_changes x.files.table.own t.id) (λ other. not (is_of t.id other)) x.files.table.next_node
  spares-end x order sound t there = elim (cases_Bool (is_undecided t)) [
    | inl undecided ↦ spares-own x sound t (IsIn-kept (λ (v : Transaction). is_undecided v && not (is_of v.id None)) x.transactions.items t there (and_from _ _ undecided refl))
    | inr decided ↦ elim (own_changes-found x.files.table.own t.id) [
      | inl none ↦ subst (λ cs. Spares x cs (λ other. not (is_of t.id other)) x.files.table.next_node) (sym none) (spares-none x (λ other. not (is_of t.id other)) sound)
      | inr (o, has, is, changes) ↦
          let undecided' : is_undecided_in x.transactions.items t.id ≡ true = subst (λ i. is_undecided_in x.transactions.items i ≡ true) is (list_all-at (λ (p : OwnChanges). is_undecided_in x.transactions.items p.transaction) x.files.table.own sound.own_undecided o has) in
          absurd (true≢false (sym (subst (λ n. holds_of is_undecided n ≡ true) (transaction_at-there x.transactions.items order.transactions_rise t there) undecided') ∙ decided))
    ]
  ]
