-- What a transaction sees, and what a call meets there.
use Rattle.std.proofs.Common.{◌≡◌, ℕ, ◌==◌, ◌&&◌, ◌||◌, not, Bool, true, false, is_none, is_some, filter, map, List, [], ◌∷◌, ◌++◌, Option, Some, None, refl, sym, ◌∙◌, ap, subst, arith, inl, inr}
use Rattle.std.proofs.lemmas.Bool.{cases_Bool, eq-eqb, eqb-true, ltb-true, and_parts, and_from, or_parts, or_cases, or_from, not-true, true≢false}
use Rattle.std.specs.List.{list_all, list_any}
use Rattle.std.specs.Prelude.{nat_le}
use Rattle.ktm_base.specs.declared.id.Id.{Id}
use Rattle.ktm_world.specs.declared.change.Change.{Change}
use Rattle.ktm_world.specs.declared.recorded.Node.{Node}
use Rattle.ktm_world.specs.declared.object.Transaction.{Transaction}
use Rattle.ktm_world.specs.Changes.{applies, changes_apply, changes_bytes, is_make, node_of, has_made}
use Rattle.ktm_world.specs.Conflicts.{conflicts, changes_outdated, holds_now, is_outdated, meets_other, overwrites_opened, touches_plain_writer, users, written_by, writes}
use Rattle.ktm_world.specs.Durable.{acts_of}
use Rattle.ktm_world.specs.Files.{FilesNow, FirstOpen, OpenFile, OwnChanges, own_changes, first_open_of, is_last_version, tree_seen, bytes_seen}
use Rattle.ktm_world.specs.Holds.{Act, holds_by, file_changed, file_touched, is_in, meets}
use Rattle.ktm_world.specs.Present.{Present}
use Rattle.ktm_world.specs.Transactions.{is_of, same_id}
use Rattle.ktm_world.specs.Tree.{Tree, IsWellFormed, root, content_of, is_directory, is_file, is_there, node_at}
use Rattle.txf_laws.specs.FinalChanges.{names_of}
use Rattle.txf_laws.specs.Elements.{IsIn, each_pair}
use Rattle.txf_laws.specs.Formed.{FormedLaw}
use Rattle.txf_laws.specs.OwnChange.{HoldsNothing}
use Rattle.txf_laws.specs.SoundFiles.{IsSoundFiles, opened_apart, is_drawn_node, is_own_well, made_or_opened, may_use, has_dropped, numbers_made, is_undecided_in}
use Rattle.txf_laws.proofs.offered.ChangeTests.{node-elsewhere}
use Rattle.txf_laws.proofs.offered.Diamonds.{no_test, IsIn-map}
use Rattle.txf_laws.proofs.offered.Elements.{IsIn-filter, list_all-at, list_any-at, list_any-from}
use Rattle.txf_laws.proofs.offered.PlainChange.{holder-user}
use Rattle.txf_laws.proofs.offered.Lists.{IsIn-left, IsIn-cases, IsIn-unmap}
use Rattle.txf_laws.proofs.offered.Holds.{misses-nothing}
use Rattle.txf_laws.proofs.offered.NodeKinds.{files-were, directories-were}
use Rattle.txf_laws.proofs.offered.CommitsOfOthers.{own-drawn, drawn-node, made-number, names-apply, own-final, next-free}
use Rattle.txf_laws.proofs.offered.Reservations.{misses, own-apply, own_changes-found}
use Rattle.txf_laws.proofs.offered.Tables.{same_id-equal, same_id-from, same_id-sym}

-- ---- a call that meets nothing

-- the conditions by which a call would be refused for others
pub record Clear (files : FilesNow) (who : Option Id) (act : Act) : Type 0 where
  pub others : meets_other files who act ≡ false
  pub last : changes_outdated files who act ≡ false
  pub writers : touches_plain_writer files who act ≡ false
  pub opened : overwrites_opened files who act ≡ false

pub clear-from : (files : FilesNow) (who : Option Id) (act : Act) → conflicts files who act ≡ false → Clear files who act
unfolding conflicts
clear-from files who act none =
    let c = or_parts (meets_other files who act || changes_outdated files who act || touches_plain_writer files who act) (overwrites_opened files who act) none in
    let b = or_parts (meets_other files who act || changes_outdated files who act) (touches_plain_writer files who act) c.0 in
    let a = or_parts (meets_other files who act) (changes_outdated files who act) b.0 in
    record { others = a.0; last = a.1; writers = b.1; opened = c.1 }

-- a file that a transaction opens or changes no plain handle may write
pub not-written : (files : FilesNow) (id : Id) (act : Act) → conflicts files (Some id) act ≡ false → (n : ℕ) → IsIn n (file_touched act) → (o : OpenFile) → IsIn o files.table.opens
    → is_none o.transaction ≡ true → writes o.access ≡ true → n ≡ o.node → ⊥
not-written files id act none n touched o there plain may at =
    true≢false (sym (and_from _ _ (and_from _ _ plain may) (list_any-from (λ m. m == o.node) (file_touched act) n touched (eq-eqb _ _ at)))
    ∙ no_test (λ o. is_none o.transaction && writes o.access && is_in (file_touched act) o.node) o files.table.opens (clear-from files (Some id) act none).writers there)

-- a first open is the one that is found
first-of : (fs : List FirstOpen) → each_pair opened_apart fs ≡ true → (f : FirstOpen) → IsIn f fs → first_open_of fs f.transaction f.file ≡ Some f
first-of [] once f there = absurd there
first-of (g ∷ gs) once f (inl e) = rw (and_from _ _ (same_id-from g.transaction f.transaction (ap (λ (h : FirstOpen). h.transaction) e)) (eq-eqb g.file f.file (ap (λ (h : FirstOpen). h.file) e))) (ap Some e)
first-of (g ∷ gs) once f (inr there) =
    let parts = and_parts (list_all (opened_apart g) gs) (each_pair opened_apart gs) once in rw (not-true _ (list_all-at (opened_apart g) gs parts.0 f there)) (first-of gs parts.1 f there)

-- a file that a transaction changes is of the last version there
pub still-last : (x : Present) → IsSoundFiles x → (id : Id) (act : Act) → conflicts x.files (Some id) act ≡ false → (n : ℕ) → IsIn n (file_changed act) → (f : FirstOpen) → IsIn f x.files.first_opens → f.transaction ≡ id → n ≡ f.file
    → is_last_version x.files f ≡ true
still-last x sound id act none n changed f there of at =
    not-false (is_last_version x.files f) (subst (λ (o : Option FirstOpen). is_outdated x.files o ≡ false) (ap (λ i. first_open_of x.files.first_opens i n) (sym of) ∙ ap (first_open_of x.files.first_opens f.transaction) at ∙ first-of x.files.first_opens sound.first_once f there)
    (no_test (λ file. is_outdated x.files (first_open_of x.files.first_opens id file)) n (file_changed act) (clear-from x.files (Some id) act none).last changed))
  where
    not-false : (b : Bool) → not b ≡ false → b ≡ true
    not-false true is = refl
    not-false false is = absurd (true≢false is)

-- ---- what is held was drawn

-- a file that is open in a transaction that may use it
pub record Used (x : Present) (o : OpenFile) (id : Id) : Type 0 where
  pub who : is_undecided_in x.transactions.items id ≡ true
  pub made : made_or_opened x.files id o.node ≡ true
  pub kept : has_dropped (own_changes x.files.table.own id) o.node ≡ false
  pub sees : writes o.access ≡ true → is_file (tree_seen x.files (Some id)) o.node ≡ true

pub used-in : (x : Present) → IsSoundFiles x → (o : OpenFile) → IsIn o x.files.table.opens → (id : Id) → o.transaction ≡ Some id → Used x o id
used-in x sound o there id of =
    let well : may_use x o (Some id) ≡ true = subst (λ t. may_use x o t ≡ true) of (list_all-at (is_own_well x) x.files.table.opens sound.opens_own o there) in
    let e = and_parts _ (not (writes o.access) || is_file (tree_seen x.files (Some id)) o.node) well in
    let d = and_parts _ (not (has_dropped (own_changes x.files.table.own id) o.node)) e.0 in
    let c = and_parts _ (made_or_opened x.files id o.node) d.0 in
    record {
      who = (and_parts (is_undecided_in x.transactions.items id) _ c.0).0;
      made = c.1;
      kept = not-true _ d.1;
      sees = λ may. elim (or_cases (not (writes o.access)) (is_file (tree_seen x.files (Some id)) o.node) e.1) [ inl not' ↦ absurd (true≢false (sym may ∙ not-true _ not')) | inr file ↦ file ];
    }

pub transaction-of : (id : Id) (o : OpenFile) → is_of id o.transaction ≡ true → o.transaction ≡ Some id
transaction-of id o of = go o.transaction of
  where
    go : (t : Option Id) → is_of id t ≡ true → t ≡ Some id
    go None of = absurd (true≢false (sym of))
    go (Some i) of = ap Some (sym (same_id-equal id i of))

pub held-drawn : (x : Present) → IsSoundFiles x → (id : Id) (n : ℕ) → IsIn n (holds_now x.files id).nodes → is_drawn_node x.files n ≡ true
held-drawn x sound id n there = elim (IsIn-cases n (map node_of (own_changes x.files.table.own id)) (written_by x.files.table.opens id) there) [
  | inl mine ↦ own-drawn x sound id n mine
  | inr open' ↦
      let o = IsIn-unmap (λ (o : OpenFile). o.node) n (filter (λ o. is_of id o.transaction && writes o.access) x.files.table.opens) open' in
      let kept = IsIn-filter (λ o. is_of id o.transaction && writes o.access) x.files.table.opens o.0 o.2 in
      subst (λ m. is_drawn_node x.files m ≡ true) o.1 (drawn-node x sound id o.0.node (used-in x sound o.0 kept.0 id (transaction-of id o.0 (and_parts (is_of id o.0.transaction) (writes o.0.access) kept.1).0)).made)
]

pub below-next : (x : Present) (n : ℕ) → is_drawn_node x.files n ≡ true → n ≡ x.files.table.next_node → ⊥
below-next x n drawn at = omega (arith, ltb-true n x.files.table.next_node (and_parts (nat_le 2 n) _ drawn).1, at)

-- ---- what a transaction sees

module _ (formed : FormedLaw) (x : Present) (sound : IsSoundFiles x) (id : Id) where
  abbrev seen : Tree
  seen = tree_seen x.files (Some id)

  abbrev mine : List Change
  mine = own_changes x.files.table.own id

  names-mine : changes_apply x.files.tree (names_of mine) ≡ true
  names-mine = names-apply x.files.tree mine (bytes_seen x.files (Some id)) (own-final x sound id) (own-apply x sound id)

  pub seen-formed : IsWellFormed seen
  seen-formed = formed.1 x.files.tree (names_of mine) sound.formed names-mine

  -- no name of it makes a node that it has not made
  makes-not : (n : ℕ) → has_made mine n ≡ false → (c : Change) → IsIn c (names_of mine) → is_make c ≡ true → node_of c ≡ n → ⊥
  makes-not n new c there make at = true≢false (sym (list_any-from (λ change. is_make change && node_of change == n) mine c (IsIn-filter (λ change. not (changes_bytes change)) mine c there).0 (and_from _ _ make (eq-eqb _ _ at))) ∙ new)

  pub committed-file : (n : ℕ) → has_made mine n ≡ false → is_file seen n ≡ true → is_file x.files.tree n ≡ true
  committed-file n new file = files-were (names_of mine) x.files.tree names-mine n (makes-not n new) file

  -- a directory that it sees is no file that is committed
  pub directory-no-file : (n : ℕ) → is_directory seen n ≡ true → is_file x.files.tree n ≡ true → ⊥
  directory-no-file n dir file = elim (cases_Bool (has_made mine n)) [
    | inl made ↦
        let found = list_any-at (λ change. is_make change && node_of change == n) mine made in
        let is = and_parts (is_make found.0) (node_of found.0 == n) found.2 in
        let at : IsIn n (numbers_made mine) = subst (λ m. IsIn m (numbers_made mine)) (eqb-true _ _ is.1) (made-number mine found.0 found.1 is.0) in
        elim (own_changes-found x.files.table.own id) [
          | inl none ↦ absurd (subst (λ cs. IsIn n (numbers_made cs)) none at)
          | inr (o, has, of, changes) ↦ no-node (node_at x.files.tree n) (list_all-at (λ n. is_none (node_at x.files.tree n)) (numbers_made o.changes)
              (list_all-at (λ (p : OwnChanges). list_all (λ n. is_none (node_at x.files.tree n)) (numbers_made p.changes)) x.files.table.own sound.own_new o has) n (subst (λ cs. IsIn n (numbers_made cs)) (sym changes) at)) file
        ]
    | inr new ↦ true≢false (sym file ∙ not-true _ (and_parts (is_there x.files.tree n) (not (is_file x.files.tree n)) (directories-were (names_of mine) x.files.tree names-mine n (makes-not n new) dir)).1)
  ]
    where
      no-node : (o : Option Node) → is_none o ≡ true → is_some (content_of o) ≡ true → ⊥
      no-node None none file = true≢false (sym file)
      no-node (Some node) none file = true≢false (sym none)

  -- the next number is of no node there
  pub next-unseen : is_there seen x.files.table.next_node ≡ false
  next-unseen = or_from _ _ (or_parts _ (is_some (node_at x.files.tree x.files.table.next_node)) (next-free x sound)).0
      (ap is_some (node-elsewhere (names_of mine) x.files.tree x.files.table.next_node names-mine (λ there.
      let from = IsIn-unmap node_of x.files.table.next_node (names_of mine) there in
      below-next x x.files.table.next_node (own-drawn x sound id x.files.table.next_node (subst (λ m. IsIn m (map node_of mine)) from.1 (IsIn-map node_of from.0 mine (IsIn-filter (λ change. not (changes_bytes change)) mine from.0 from.2).0))) refl))
      ∙ (or_parts (x.files.table.next_node == root) _ (next-free x sound)).1)

  -- a change that meets nothing holds nothing of another transaction
  pub holds-nothing : (c : Change) (act : Act) → applies seen c ≡ true → acts_of seen c ≡ act ∷ [] → conflicts x.files (Some id) act ≡ false → (is_make c ≡ true → node_of c ≡ x.files.table.next_node)
      → (v : Transaction) → same_id id v.id ≡ false → HoldsNothing (holds_now x.files v.id) seen c
  holds-nothing c act applies acts none fresh v other = elim (own_changes-found x.files.table.own v.id) [
    | inr (o, there, is, changes) ↦ by-user (IsIn-left v.id (map (λ (o : OwnChanges). o.transaction) x.files.table.own) _ (subst (λ i. IsIn i (map (λ (o : OwnChanges). o.transaction) x.files.table.own)) is (IsIn-map (λ (o : OwnChanges). o.transaction) o x.files.table.own there)))
    | inl nothing ↦ subst (λ cs. HoldsNothing (holds_by x.files.tree cs (written_by x.files.table.opens v.id)) seen c) (sym nothing) record {
      nodes = λ there.
          let there' : IsIn (node_of c) (holds_now x.files v.id).nodes = subst (λ cs. IsIn (node_of c) (map node_of cs ++ written_by x.files.table.opens v.id)) (sym nothing) there in
          (by-user (holder-user x.files v.id (node_of c) (list_any-from (λ m. m == node_of c) (holds_now x.files v.id).nodes (node_of c) there' (eq-eqb _ _ refl)))).nodes there';
      places = λ p q mine none. absurd none;
      enters = λ p mine none. absurd none;
      drops = λ n mine none. absurd none;
      moves = λ n mine. refl;
    }
  ]
    where
      by-user : IsIn v.id (users x.files.table) → HoldsNothing (holds_now x.files v.id) seen c
      by-user user = misses-nothing seen c (holds_now x.files v.id) applies
          (subst (λ calls. list_any (meets (holds_now x.files v.id)) calls ≡ false) (sym acts) (or_from _ _ (misses x.files (Some id) act none v.id user (same_id-sym id v.id other)) refl))
          (λ make there. below-next x (node_of c) (held-drawn x sound v.id (node_of c) there) (fresh make))
