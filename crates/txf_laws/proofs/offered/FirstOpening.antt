-- A first open more keeps sound what undecided transactions own of the files.
use Rattle.std.proofs.Common.{◌≡◌, ℕ, ◌==◌, ◌&&◌, ◌||◌, not, Bool, true, false, is_none, is_some, if◌then◌else◌, find, List, [], ◌∷◌, ◌++◌, Option, Some, None, refl, sym, ◌∙◌, ap, subst, arith, inl, inr, ◌⊎◌}
use Rattle.std.proofs.lemmas.Bool.{cases_Bool, le-leb, eq-eqb, ne_eqb, eqb-true, and_parts, and_from, or_cases, or_left, or_right, or_parts, not_from_false, true≢false}
use Rattle.std.specs.List.{list_all}
use Rattle.std.specs.Prelude.{nat_le}
use Rattle.ktm_base.specs.declared.id.Id.{Id}
use Rattle.ktm_world.specs.declared.change.Change.{Change}
use Rattle.ktm_world.specs.declared.recorded.Node.{Node}
use Rattle.ktm_world.specs.Changes.{changes_bytes, node_of, has_made}
use Rattle.ktm_world.specs.Committed.{version_of, changes_to_commit}
use Rattle.ktm_world.specs.Conflicts.{writes}
use Rattle.ktm_world.specs.Files.{FirstOpen, OpenFile, OwnChanges, own_changes, first_open, first_open_of, fixed_bytes, bytes_after, bytes_seen, bytes_with, changes_with, committed_files, is_last_version, tree_seen}
use Rattle.ktm_world.specs.Holds.{is_in}
use Rattle.ktm_world.specs.Present.{Present}
use Rattle.ktm_world.specs.Transactions.{same_id}
use Rattle.ktm_world.specs.Tree.{bytes_of, has_number, is_file, node_at}
use Rattle.txf_laws.specs.FirstOpening.{with_first, MayOpenFirst, FirstOpeningLaw}
use Rattle.txf_laws.specs.Elements.{IsIn}
use Rattle.txf_laws.specs.SoundFiles.{IsSoundFiles, is_undecided_in, opened_apart, numbers_made, is_drawn_node, made_or_opened, is_change_of_opened, has_dropped, is_open_last, is_own_well, may_use, is_no_directory}
use Rattle.txf_laws.proofs.offered.Diamonds.{none-from}
use Rattle.txf_laws.proofs.offered.Elements.{find-in, list_all-at, list_all-from, each_pair-append}
use Rattle.txf_laws.proofs.offered.Formed.{found-from, content-found}
use Rattle.txf_laws.proofs.offered.Lists.{IsIn-cases}
use Rattle.txf_laws.proofs.offered.CommitsOfOthers.{All-in, All-by, to_commit-same}

-- what no element passes
not-found : {X : Type 0} (test : X → Bool) (xs : List X) → is_some (find test xs) ≡ false → (y : X) → IsIn y xs → test y ≡ false
not-found test [] none y there = absurd there
not-found test (x ∷ xs) none y there = elim (cases_Bool (test x)) [
  | inl is ↦ absurd (true≢false (rw is at none))
  | inr other ↦ elim there [ inl e ↦ subst (λ z. test z ≡ false) e other | inr later ↦ not-found test xs (rw other at none) y later ]
]

module _ (x : Present) (id : Id) (file : ℕ) (sound : IsSoundFiles x) (may : MayOpenFirst x id file) where
  abbrev z : Present
  z = record x { files = with_first x.files id file }

  abbrev first : FirstOpen
  first = first_open (committed_files x.files []) (record { transaction = id; file = file })

  of-firsts : (f : FirstOpen) → IsIn f z.files.first_opens → IsIn f x.files.first_opens ⊎ (first ≡ f)
  of-firsts f there = elim (IsIn-cases f x.files.first_opens (first ∷ []) there) [ inl old ↦ inl old | inr (inl e) ↦ inr e | inr (inr none) ↦ absurd none ]

  each : (test : FirstOpen → Bool) → list_all test x.files.first_opens ≡ true → test first ≡ true → list_all test z.files.first_opens ≡ true
  each test all is = list_all-from test z.files.first_opens (λ f there. elim (of-firsts f there) [ inl old ↦ list_all-at test x.files.first_opens all f old | inr e ↦ subst (λ g. test g ≡ true) e is ])

  -- a first open that there was is found still
  still-first : (fs : List FirstOpen) (t : Id) (n : ℕ) → is_some (first_open_of fs t n) ≡ true → is_some (first_open_of (fs ++ first ∷ []) t n) ≡ true
  still-first [] t n some = absurd (true≢false (sym some))
  still-first (f ∷ fs) t n some = elim (cases_Bool (same_id f.transaction t && f.file == n)) [
    | inl here ↦ rw here refl
    | inr later ↦ rw later (still-first fs t n (rw later at some))
  ]

  made-or-opened-still : (t : Id) (n : ℕ) → made_or_opened x.files t n ≡ true → made_or_opened z.files t n ≡ true
  made-or-opened-still t n is = elim (or_cases (has_made (own_changes x.files.table.own t) n) (is_some (first_open_of x.files.first_opens t n)) is) [
    | inl made ↦ or_left _ _ made
    | inr opened ↦ or_right _ _ (still-first x.files.first_opens t n opened)
  ]

  -- it fixes the bytes that there are
  fixed-same : (fs : List FirstOpen) (t : Id) (n : ℕ) → fixed_bytes x.files n (first_open_of (fs ++ first ∷ []) t n) ≡ fixed_bytes x.files n (first_open_of fs t n)
  fixed-same [] t n = elim (cases_Bool (same_id id t && file == n)) [
    | inl here ↦ rw here (ap (bytes_of x.files.tree) (eqb-true _ _ (and_parts (same_id id t) (file == n) here).1))
    | inr other ↦ rw other refl
  ]
  fixed-same (f ∷ fs) t n = elim (cases_Bool (same_id f.transaction t && f.file == n)) [
    | inl here ↦ rw here refl
    | inr later ↦ rw later (fixed-same fs t n)
  ]

  bytes-same : (t : Id) (cs : List Change) (n : ℕ) → bytes_with z.files t cs n ≡ bytes_with x.files t cs n
  bytes-same t cs n = ap (λ bs. bytes_after bs n cs) (go (has_made cs n))
    where
      go : (b : Bool) → (if b then [] else fixed_bytes z.files n (first_open_of z.files.first_opens t n)) ≡ (if b then [] else fixed_bytes x.files n (first_open_of x.files.first_opens t n))
      go true = refl
      go false = same-tree (first_open_of z.files.first_opens t n) ∙ fixed-same x.files.first_opens t n
        where
          same-tree : (f : Option FirstOpen) → fixed_bytes z.files n f ≡ fixed_bytes x.files n f
          same-tree None = refl
          same-tree (Some f) = refl

  -- the transaction's changes with one more are the same
  pub changes-same : (c : Change) → changes_with z.files id c ≡ changes_with x.files id c
  changes-same c = let cs = own_changes x.files.table.own id ++ c ∷ [] in to_commit-same cs (bytes_with z.files id cs) (bytes_with x.files id cs) (λ n has. bytes-same id cs n)

  unopened : is_some (first_open_of x.files.first_opens id file) ≡ false
  unopened = (or_parts (has_made (own_changes x.files.table.own id) file) (is_some (first_open_of x.files.first_opens id file)) may.new).1

  node : (n : Node) × (node_at x.files.tree file ≡ Some n)
  node = found-from x.files.tree file (content-found (node_at x.files.tree file) may.there)

  drawn : is_drawn_node x.files file ≡ true
  drawn = let in' = find-in (has_number file) x.files.tree node.0 node.1 in
      subst (λ m. is_drawn_node x.files m ≡ true) (eqb-true _ _ in'.1) (list_all-at (λ (n : Node). is_drawn_node x.files n.number) x.files.tree sound.tree_drawn node.0 in'.0)

  pub first-sound : IsSoundFiles z
  first-sound = record {
    own_undecided = sound.own_undecided;
    own_once = sound.own_once;
    own_some = sound.own_some;
    own_final = All-by (λ (o : OwnChanges). changes_to_commit o.changes (bytes_seen z.files (Some o.transaction)) ≡ o.changes) x.files.table.own (λ o there.
        to_commit-same o.changes (bytes_seen z.files (Some o.transaction)) (bytes_seen x.files (Some o.transaction)) (λ n has. bytes-same o.transaction (own_changes x.files.table.own o.transaction) n)
        ∙ All-in (λ (p : OwnChanges). changes_to_commit p.changes (bytes_seen x.files (Some p.transaction)) ≡ p.changes) x.files.table.own sound.own_final o there);
    own_apply = sound.own_apply;
    own_opened = list_all-from (λ (o : OwnChanges). list_all (is_change_of_opened z o.transaction) o.changes) x.files.table.own (λ o there. list_all-from (is_change_of_opened z o.transaction) o.changes (λ c has.
        elim (or_cases (not (changes_bytes c) || not (o.transaction.boot == x.recorded.boots)) (made_or_opened x.files o.transaction (node_of c))
        (list_all-at (is_change_of_opened x o.transaction) o.changes (list_all-at (λ (p : OwnChanges). list_all (is_change_of_opened x p.transaction) p.changes) x.files.table.own sound.own_opened o there) c has)) [
          | inl rest ↦ or_left (not (changes_bytes c) || not (o.transaction.boot == x.recorded.boots)) (made_or_opened z.files o.transaction (node_of c)) rest
          | inr is ↦ or_right (not (changes_bytes c) || not (o.transaction.boot == x.recorded.boots)) (made_or_opened z.files o.transaction (node_of c)) (made-or-opened-still o.transaction (node_of c) is)
        ]));
    own_puts = sound.own_puts;
    own_drawn = sound.own_drawn;
    own_new = sound.own_new;
    own_differ = sound.own_differ;
    own_gone = sound.own_gone;
    first_once = each_pair-append opened_apart x.files.first_opens (first ∷ []) sound.first_once refl (λ f g there there'. elim there' [
      | inl e ↦ subst (λ h. opened_apart f h ≡ true) e (not_from_false _ (not-found (λ (o : FirstOpen). same_id o.transaction id && o.file == file) x.files.first_opens unopened f there))
      | inr none ↦ absurd none
    ]);
    first_undecided = each (λ o. is_undecided_in x.transactions.items o.transaction && o.transaction.boot == x.recorded.boots) sound.first_undecided (and_from _ _ may.who may.boot);
    first_not_made = each (λ o. list_all (λ p. not (is_in (numbers_made p.changes) o.file)) x.files.table.own) sound.first_not_made
        (list_all-from (λ (p : OwnChanges). not (is_in (numbers_made p.changes) file)) x.files.table.own (λ p has. not_from_false _ (none-from (λ m. m == file) (numbers_made p.changes) (λ m made. ne_eqb m file (λ e.
        true≢false (sym (subst (λ k. is_none (node_at x.files.tree k) ≡ true) e (list_all-at (λ n. is_none (node_at x.files.tree n)) (numbers_made p.changes)
        (list_all-at (λ (q : OwnChanges). list_all (λ n. is_none (node_at x.files.tree n)) (numbers_made q.changes)) x.files.table.own sound.own_new p has) m made)) ∙ ap is_none node.1))))));
    first_drawn = each (λ o. is_drawn_node x.files o.file) sound.first_drawn drawn;
    first_versions = each (λ o. not (is_file x.files.tree o.file) || nat_le o.version (version_of x.files.versions o.file)) sound.first_versions (or_right _ _ (le-leb first.version first.version (omega arith)));
    first_bytes = All-by (λ (o : FirstOpen). is_last_version x.files o ≡ true → o.bytes ≡ bytes_of x.files.tree o.file) z.files.first_opens (λ f there. elim (of-firsts f there) [
      | inl old ↦ All-in (λ (o : FirstOpen). is_last_version x.files o ≡ true → o.bytes ≡ bytes_of x.files.tree o.file) x.files.first_opens sound.first_bytes f old
      | inr e ↦ subst (λ (o : FirstOpen). is_last_version x.files o ≡ true → o.bytes ≡ bytes_of x.files.tree o.file) e (λ last. refl)
    ]);
    first_last = each (is_open_last x.files) sound.first_last (or_right _ _ (and_from _ _ may.there (eq-eqb first.version first.version refl)));
    first_files = each (λ o. is_no_directory x.files o.file o.transaction) sound.first_files may.seen;
    opens_files = sound.opens_files;
    formed = sound.formed;
    tree_drawn = sound.tree_drawn;
    next_from = sound.next_from;
    next_to = sound.next_to;
    versions_rise = sound.versions_rise;
    versions_there = sound.versions_there;
    opens_rise = sound.opens_rise;
    opens_drawn = sound.opens_drawn;
    opens_named = sound.opens_named;
    opens_plain = sound.opens_plain;
    opens_own = list_all-from (is_own_well z) x.files.table.opens (λ o there. still-used o o.transaction (list_all-at (is_own_well x) x.files.table.opens sound.opens_own o there));
    apart = sound.apart;
    writers = sound.writers;
  }
    where
      still-used : (o : OpenFile) (t : Option Id) → may_use x o t ≡ true → may_use z o t ≡ true
      still-used o None well = refl
      still-used o (Some i) well =
          let e = and_parts _ (not (writes o.access) || is_file (tree_seen x.files (Some i)) o.node) well in
          let d = and_parts _ (not (has_dropped (own_changes x.files.table.own i) o.node)) e.0 in
          let m = and_parts _ (made_or_opened x.files i o.node) d.0 in
          and_from _ _ (and_from _ _ (and_from _ _ m.0 (made-or-opened-still i o.node m.1)) d.1) e.1

pub first_opening_law : FirstOpeningLaw
first_opening_law = first-sound
