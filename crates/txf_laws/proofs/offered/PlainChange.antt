-- A plain change that meets nothing keeps sound what undecided transactions own of the files.
use Rattle.std.proofs.Common.{◌≡◌, ℕ, ◌≤◌, ◌^◌, ◌==◌, ◌&&◌, true, false, is_none, is_some, filter, map, List, [], ◌∷◌, ◌++◌, Option, Some, None, refl, sym, ◌∙◌, ap, subst, arith, inl, inr}
use Rattle.std.proofs.lemmas.Bool.{or_parts, cases_Bool, ltb-true, and_parts, and_from, or_from, true≢false}
use Rattle.ktm_world.specs.declared.change.Change.TheVariants.{Make, Put, Cut, Move, Drop}
use Rattle.std.proofs.lemmas.List.{append-nil}
use Rattle.std.specs.List.{list_any, flat_map}
use Rattle.std.specs.Prelude.{nat_le}
use Rattle.ktm_base.specs.declared.id.Id.{Id}
use Rattle.ktm_world.specs.declared.change.Change.{Change}
use Rattle.ktm_world.specs.Changes.{changes_bytes, changed, applies, is_drop, is_make, next_after, node_of}
use Rattle.ktm_world.specs.Committed.{versions_after}
use Rattle.ktm_world.specs.Conflicts.{conflicts, holds_now, opener, users, written_by, writes}
use Rattle.ktm_world.specs.Decide.{of_files}
use Rattle.ktm_world.specs.Durable.{acts_of}
use Rattle.ktm_world.specs.FileOutcome.{changing}
use Rattle.ktm_world.specs.Files.{FilesNow, FirstOpen, OpenFile, OwnChanges, own_changes}
use Rattle.ktm_world.specs.Holds.{Act, is_in, meets}
use Rattle.ktm_world.specs.Outcome.{apply}
use Rattle.ktm_world.specs.Present.{Present}
use Rattle.ktm_world.specs.Transactions.{is_of}
use Rattle.ktm_world.specs.Tree.{content_of}
use Rattle.txf_laws.specs.Elements.{IsIn}
use Rattle.txf_laws.specs.Footprint.{ListsLaw}
use Rattle.txf_laws.specs.Formed.{FormedLaw}
use Rattle.txf_laws.specs.PlainChange.{Lands, PlainChangeLaw}
use Rattle.txf_laws.specs.SoundFiles.{IsSoundFiles, is_drawn_node}
use Rattle.txf_laws.proofs.offered.ChangeTests.{Applies-from, Fits-from}
use Rattle.txf_laws.proofs.offered.Diamonds.{IsIn-right, IsIn-map}
use Rattle.txf_laws.proofs.offered.Elements.{IsIn-filter, IsIn-flat_map, list_all-at, list_any-at, filter-true}
use Rattle.txf_laws.proofs.offered.Lists.{IsIn-left, IsIn-cases, IsIn-unmap}
use Rattle.ktm_world.proofs.offered.Lookups.{node_at-elsewhere}
use Rattle.txf_laws.proofs.offered.Holds.{found-missed}
use Rattle.txf_laws.proofs.offered.CommitsOfOthers.{Spares, passed, passed-sound, spares-none}
use Rattle.txf_laws.proofs.offered.Reservations.{write-apart, writer-alone, own_changes-found, misses, named}
use Rattle.txf_laws.proofs.offered.Tables.{same_id-equal}
use Rattle.txf_laws.proofs.offered.Versions.{is_file-kept}

-- ---- users

-- a transaction that holds a node has changed or opened something
pub holder-user : (files : FilesNow) (id : Id) (n : ℕ) → is_in (holds_now files id).nodes n ≡ true → IsIn id (users files.table)
holder-user files id n held =
    let found = list_any-at (λ m. m == n) (holds_now files id).nodes held in
    elim (IsIn-cases found.0 (map node_of (own_changes files.table.own id)) (written_by files.table.opens id) found.1) [
      | inl mine ↦ elim (own_changes-found files.table.own id) [
        | inl none ↦ absurd (subst (λ cs. IsIn found.0 (map node_of cs)) none mine)
        | inr (o, there, is, changes) ↦ IsIn-left id (map (λ (o : OwnChanges). o.transaction) files.table.own) _ (subst (λ i. IsIn i (map (λ (o : OwnChanges). o.transaction) files.table.own)) is (IsIn-map (λ (o : OwnChanges). o.transaction) o files.table.own there))
      ]
      | inr open' ↦
          let o = IsIn-unmap (λ (o : OpenFile). o.node) found.0 (filter (λ o. is_of id o.transaction && writes o.access) files.table.opens) open' in
          let kept = IsIn-filter (λ o. is_of id o.transaction && writes o.access) files.table.opens o.0 o.2 in
          IsIn-right id (map (λ (o : OwnChanges). o.transaction) files.table.own) (flat_map opener files.table.opens)
          (IsIn-flat_map opener files.table.opens o.0 id kept.0 (opened-by o.0 o.0.transaction refl (and_parts (is_of id o.0.transaction) (writes o.0.access) kept.1).0))
    ]
  where
    opened-by : (o : OpenFile) (t : Option Id) → o.transaction ≡ t → is_of id t ≡ true → IsIn id (opener o)
    opened-by o None e of = absurd (true≢false (sym of))
    opened-by o (Some i) e of = subst (λ (t : Option Id). IsIn id (elim t as (λ _. List Id) [ None ↦ [] | Some id ↦ id ∷ [] ])) (sym e) (inl (sym (same_id-equal id i of)))

-- a node that a call finds nobody else holds, where it meets nothing
pub call-clear : (x : Present) (who : Option Id) (change : Change) (act : Act) (id : Id) → is_of id who ≡ false → applies x.files.tree change ≡ true → acts_of x.files.tree change ≡ act ∷ [] → conflicts x.files who act ≡ false
    → is_make change ≡ false → is_in (holds_now x.files id).nodes (node_of change) ≡ false
call-clear x who change act id other applies acts none found = elim (cases_Bool (is_in (holds_now x.files id).nodes (node_of change))) [
  | inr free ↦ free
  | inl held ↦ found-missed x.files.tree change (holds_now x.files id) applies
      (subst (λ calls. list_any (meets (holds_now x.files id)) calls ≡ false) (sym acts) (or_from _ _ (misses x.files who act none id (holder-user x.files id (node_of change) held) other) refl)) found
]

-- ---- a plain change

module _ (lists : ListsLaw) (formed : FormedLaw) where
  spares-one : (x : Present) (change : Change) → IsSoundFiles x → Lands x change → Spares x (change ∷ []) (λ t. true) (next_after x.files.table.next_node change)
  spares-one x change sound lands = record {
    all = and_from _ _ lands.applies refl;
    apart = λ v there kept. lands.apart v there;
    clear = λ v there kept n drawn here held. elim here [
      | inl e ↦ elim (cases_Bool (is_make change)) [
        | inl make ↦ omega (arith, e, lands.fresh make, ltb-true n x.files.table.next_node (and_parts (nat_le 2 n) _ drawn).1)
        | inr found ↦ true≢false (sym (subst (λ m. is_in (holds_now x.files v.id).nodes m ≡ true) (sym e) held) ∙ lands.clear v there found)
      ]
      | inr none ↦ absurd none
    ];
    fresh = λ o there kept c here make e. elim here [
      | inl same ↦
          let next = lands.fresh (subst (λ d. is_make d ≡ true) (sym same) make) in
          omega (arith, next, ap node_of same, e, ltb-true o.file x.files.table.next_node (and_parts (nat_le 2 o.file) _ (list_all-at (λ (p : FirstOpen). is_drawn_node x.files p.file) x.files.first_opens sound.first_drawn o there)).1)
      | inr none ↦ absurd none
    ];
    plain = λ o there plain may.
        let file = (spares-none x (λ t. true) sound).plain o there plain may in
        elim (cases_Bool (is_drop change)) [
          | inl drop ↦ ap (λ n. is_some (content_of n)) (node_at-elsewhere x.files.tree change (Fits-from x.files.tree change (Applies-from x.files.tree change lands.applies)) o.node (lands.plain drop o there plain may)) ∙ file
          | inr kept ↦ is_file-kept x.files.tree change lands.applies kept o.node file
        ];
    next = omega arith;
    next_to = lands.limit;
  }

  -- a plain call that changes the files in one way
  pub lands-sound : (x : Present) (change : Change) → IsSoundFiles x → Lands x change → IsSoundFiles (apply x (of_files x None (changing change)))
  lands-sound x change sound lands = passed-sound lists formed x (apply x (of_files x None (changing change))) (change ∷ []) (λ t. true) (next_after x.files.table.next_node change) sound (spares-one x change sound lands) (record {
    files = files;
    boots = refl;
    handles = λ o there kept. named x sound o there;
    undecided = λ id kept was. was;
    those = λ u there. (u, there, refl, refl);
  })
    where
      files : (apply x (of_files x None (changing change))).files ≡ passed x.files (change ∷ []) (λ t. true) (next_after x.files.table.next_node change)
      files i = record {
        tree = changed x.files.tree change;
        versions = versions_after x.files.versions change;
        first_opens = (filter-true (x.files.first_opens ++ []) ∙ append-nil x.files.first_opens ∙ sym (filter-true x.files.first_opens)) i;
        table = record x.files.table { own = sym (filter-true x.files.table.own) i; opens = sym (filter-true x.files.table.opens) i; next_node = next_after x.files.table.next_node change };
      }

-- ---- what a plain handle writes

pub no-make : (c : Change) → changes_bytes c ≡ true → is_make c ≡ false
no-make (Make node parent kind name) bytes = absurd (true≢false (sym bytes))
no-make (Put node offset contents) bytes = refl
no-make (Cut node size pages) bytes = refl
no-make (Move node parent name) bytes = absurd (true≢false (sym bytes))
no-make (Drop node) bytes = absurd (true≢false (sym bytes))

pub no-drop : (c : Change) → changes_bytes c ≡ true → is_drop c ≡ false
no-drop (Make node parent kind name) bytes = absurd (true≢false (sym bytes))
no-drop (Put node offset contents) bytes = refl
no-drop (Cut node size pages) bytes = refl
no-drop (Move node parent name) bytes = absurd (true≢false (sym bytes))
no-drop (Drop node) bytes = absurd (true≢false (sym bytes))

pub no-number : (next : ℕ) (c : Change) → changes_bytes c ≡ true → next_after next c ≡ next
no-number next (Make node parent kind name) bytes = absurd (true≢false (sym bytes))
no-number next (Put node offset contents) bytes = refl
no-number next (Cut node size pages) bytes = refl
no-number next (Move node parent name) bytes = absurd (true≢false (sym bytes))
no-number next (Drop node) bytes = absurd (true≢false (sym bytes))

pub write-lands : (x : Present) (change : Change) (o : OpenFile) → IsSoundFiles x → IsIn o x.files.table.opens → is_none o.transaction ≡ true → writes o.access ≡ true → applies x.files.tree change ≡ true → changes_bytes change ≡ true
    → node_of change ≡ o.node → Lands x change
write-lands x change o sound there plain may applies bytes at = record {
  applies = applies;
  apart = λ v v-there. write-apart x sound change o v v-there bytes there plain may at;
  clear = λ v v-there found. subst (λ n. is_in (holds_now x.files v.id).nodes n ≡ false) (sym at) (or_parts (is_in (holds_now x.files v.id).nodes o.node) _ (writer-alone x sound o v there plain may v-there)).0;
  fresh = λ make. absurd (true≢false (sym make ∙ no-make change bytes));
  plain = λ drop. absurd (true≢false (sym drop ∙ no-drop change bytes));
  limit = subst (λ n. n ≤ 2 ^ 63) (sym (no-number x.files.table.next_node change bytes)) sound.next_to;
}

pub plain_change_law : ListsLaw → FormedLaw → PlainChangeLaw
plain_change_law lists formed = (lands-sound lists formed, write-lands)
