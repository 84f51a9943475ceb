-- Calls in a transaction that make, drop and move names, and what is written there, keep sound what undecided transactions own of the files.
use Rattle.std.proofs.Common.{◌≡◌, ◌⊎◌, ℕ, ◌≤◌, ◌^◌, ◌==◌, ◌&&◌, not, Bool, true, false, is_none, is_some, if◌then◌else◌, filter, map, List, [], ◌∷◌, ◌++◌, Option, Some, None, refl, sym, ◌∙◌, ap, subst, arith, inl, inr}
use Rattle.std.proofs.lemmas.Bool.{cases_Bool, eq-eqb, ltb-false, lt-ltb, le-leb, leb-true, and_parts, and_from, or_parts, or_cases, not-true, true≢false}
use Rattle.std.proofs.lemmas.List.{append-nil}
use Rattle.std.specs.Prelude.{nat_lt}
use Rattle.ktm_base.specs.declared.id.Id.{Id}
use Rattle.ktm_base.specs.declared.id.Label.{Label}
use Rattle.ktm_base.specs.declared.id.Pid.{Pid}
use Rattle.ktm_base.specs.declared.refusal.Refusal.{Refusal}
use Rattle.ktm_world.specs.declared.change.Change.{Change}
use Rattle.ktm_world.specs.declared.change.Change.TheVariants.{Make, Move, Drop}
use Rattle.ktm_world.specs.declared.change.NodeKind.{NodeKind}
use Rattle.ktm_world.specs.declared.change.NodeKind.TheVariants.{Directory}
use Rattle.ktm_world.specs.declared.object.Phase.TheVariants.{Active}
use Rattle.ktm_world.specs.declared.object.Transaction.{Transaction}
use Rattle.ktm_world.specs.declared.recorded.Node.{Node}
use Rattle.ktm_world.specs.declared.reply.Reply.TheVariants.{Done}
use Rattle.ktm_world.specs.Changes.{applies, changes_bytes, is_drop, is_make, next_after, node_of}
use Rattle.ktm_world.specs.Conflicts.{conflicts, holds_now, is_open_in, opened_in, same_group, written_by, writes}
use Rattle.ktm_world.specs.Decide.{caller, of_files, transacted}
use Rattle.ktm_world.specs.Durable.{acts_of}
use Rattle.ktm_world.specs.FileCalls.{Whereabouts, no_path, no_way, free, at_root, at_node, find_path, conflict_test, delete_act, make_act, remove_act, move_act, drop_at, make_at, move_at, is_open_at, is_into_itself, is_at_directory, is_at_file, is_not_empty, delete_file, delete_file_tests, create_directory, create_directory_tests, remove_directory, remove_directory_tests, move_file, move_file_tests}
use Rattle.ktm_world.specs.FileOutcome.{FileOutcome, FileRoom, answering, changing, lacks_quota}
use Rattle.ktm_world.specs.Files.{FirstOpen, OpenFile, own_changes, is_last_version, tree_seen}
use Rattle.ktm_world.specs.Holds.{Act, place, is_in, makes, deletes, drops_directory, moves_file, moves_directory}
use Rattle.ktm_world.specs.Labels.{holds_of, id_of_named, transaction_named, transaction_tests}
use Rattle.ktm_world.specs.Lawful.{are_apart, undecided}
use Rattle.ktm_world.specs.Outcome.{apply}
use Rattle.ktm_world.specs.Present.{Present}
use Rattle.ktm_world.specs.Transactions.{is_committed, is_aborted, is_of, same_id}
use Rattle.ktm_world.specs.Tree.{Tree, is_directory, is_file}
use Rattle.ktm_world.specs.Uses.{file_room}
use Rattle.txf_laws.specs.Elements.{IsIn}
use Rattle.txf_laws.specs.Footprint.{ListsLaw}
use Rattle.txf_laws.specs.Formed.{FormedLaw}
use Rattle.txf_laws.specs.Contents.{puts_some}
use Rattle.txf_laws.specs.OwnChange.{Owns, owned}
use Rattle.ktm_courses.specs.SoundCourse.{IsSoundCourse, is_counted, is_of_its_boot}
use Rattle.txf_laws.specs.SoundFiles.{IsSoundFiles, is_drawn_node, is_no_directory, is_open_last, is_plain_well, is_undecided_in, made_or_opened, opens_no_directory}
use Rattle.txf_laws.proofs.offered.ChangeTests.{applies-from}
use Rattle.ktm_courses.proofs.offered.Calls.{Passes, passed, transaction-named, active-phase}
use Rattle.txf_laws.proofs.offered.Diamonds.{IsIn-right, IsIn-map, no_test}
use Rattle.txf_laws.proofs.offered.Elements.{IsIn-kept, list_all-at, list_any-from, not-not, filter-true}
use Rattle.ktm_owned.proofs.offered.KeysKept.{named-undecided, not_refused}
use Rattle.txf_laws.proofs.offered.PlainChange.{no-make, no-drop, no-number}
use Rattle.ktm_owned.proofs.offered.Paths.{Leads, find_path-leads}
use Rattle.ktm_owned.proofs.UnchangedFiles.{answers_file}
use Rattle.ktm_courses.proofs.offered.NewObjects.{counted-parts}
use Rattle.txf_laws.proofs.offered.Holds.{is-directory}
use Rattle.txf_laws.proofs.offered.NormalForms.{silent-places, silent-dropped, silent-moved}
use Rattle.txf_laws.proofs.offered.OwnChange.{owned-sound, apart-holds}
use Rattle.ktm_owned.proofs.offered.PlainCalls.{some-from, acts-at, delete-applies, delete-acts, remove-applies, remove-acts, move-applies, enough-numbers}
use Rattle.ktm_owned.proofs.offered.EndedTransactions.{AreInOrder, unchanged}
use Rattle.txf_laws.proofs.offered.Reservations.{holds-apart, writer-alone, named}
use Rattle.ktm_owned.proofs.offered.SeenFiles.{Used, not-written, still-last, used-in, transaction-of, below-next, seen-formed, directory-no-file, next-unseen, holds-nothing}
use Rattle.txf_laws.proofs.offered.Tables.{same_id-from}
use Rattle.txf_laws.proofs.offered.CommitsOfOthers.{undecided-entry, spares-none}

-- ---- who makes the call

-- a transaction that may make calls: it is undecided, and of this boot
pub record Caller (x : Present) (id : Id) : Type 0 where
  pub who : is_undecided_in x.transactions.items id ≡ true
  pub boot : (id.boot == x.recorded.boots) ≡ true

-- the transaction in which a call is made that is not refused may make it
pub caller-may : (x : Present) (process : Pid) (label : Label) (tests : List (Bool × Refusal)) → IsSoundCourse x → Passes (transacted x process label tests)
    → (id : Id) × (caller x process label ≡ Some id) × Caller x id × Passes tests
caller-may x process label tests sound passes = go (transaction_named x process label) refl passes
  where
    now : (t : Transaction) → IsIn t x.transactions.items → t.phase ≡ Active → (t.id.boot == x.recorded.boots) ≡ true
    now t there active =
        let counted = counted-parts x.recorded.boots x.transactions.last_transaction t.id (list_all-at (λ (t : Transaction). is_counted x.recorded.boots x.transactions.last_transaction t.id) x.transactions.items sound.transactions.counted t there) in
        elim (cases_Bool (nat_lt t.id.boot x.recorded.boots)) [
          | inl earlier ↦ absurd (true≢false (sym (rw (earlier, active) at (list_all-at (is_of_its_boot x.recorded.boots) x.transactions.items sound.transactions.boots t there))))
          | inr later ↦ eq-eqb _ _ (omega (arith, ltb-false _ _ later, leb-true _ _ counted.1))
        ]

    go : (o : Option Transaction) → transaction_named x process label ≡ o → Passes (transaction_tests o ++ tests) → (id : Id) × (id_of_named o ≡ Some id) × Caller x id × Passes tests
    go None is passes' = absurd (true≢false (passed passes').0)
    go (Some t) is passes' =
        let here = passed passes' in let committed = passed here.1 in let aborted = passed committed.1 in let active = passed aborted.1 in (
          t.id,
          refl,
          record {
            who = named-undecided x process label t is (ap (holds_of is_committed) is ∙ committed.0) (ap (holds_of is_aborted) is ∙ aborted.0);
            boot = now t (transaction-named x process label t is) (active-phase t (not-not _ active.0));
          },
          active.1,
        )

-- ---- a change that a transaction keeps

module _ (formed : FormedLaw) (x : Present) (sound : IsSoundFiles x) (id : Id) (who : is_undecided_in x.transactions.items id ≡ true) where
  abbrev seen : Tree
  seen = tree_seen x.files (Some id)

  pub owns-call : (c : Change) (act : Act) → applies seen c ≡ true → acts_of seen c ≡ act ∷ [] → conflicts x.files (Some id) act ≡ false → (changes_bytes c ≡ true → made_or_opened x.files id (node_of c) ≡ true) → puts_some c ≡ true
      → (is_make c ≡ true → node_of c ≡ x.files.table.next_node)
      → ((o : OpenFile) → IsIn o x.files.table.opens → is_none o.transaction ≡ true → writes o.access ≡ true → node_of c ≡ o.node → ⊥)
      → ((o : FirstOpen) → IsIn o x.files.first_opens → o.transaction ≡ id → node_of c ≡ o.file → is_last_version x.files o ≡ true)
      → (is_drop c ≡ true → (o : OpenFile) → IsIn o x.files.table.opens → is_of id o.transaction ≡ true → node_of c ≡ o.node → ⊥)
      → next_after x.files.table.next_node c ≤ 2 ^ 63 → Owns x id c
  owns-call c act applies acts none opened puts fresh plain last kept limit = record {
    who = who;
    applies = applies;
    opened = opened;
    puts = puts;
    fresh = fresh;
    alone = λ v there other. holds-nothing formed x sound id c act applies acts none fresh v other;
    plain = plain;
    last = last;
    kept = kept;
    limit = limit;
  }

  -- no plain handle may write what the transaction sees as a directory
  directory-plain : (n : ℕ) → is_directory seen n ≡ true → (o : OpenFile) → IsIn o x.files.table.opens → is_none o.transaction ≡ true → writes o.access ≡ true → n ≡ o.node → ⊥
  directory-plain n dir o there plain may at = directory-no-file formed x sound id n dir (subst (λ m. is_file x.files.tree m ≡ true) (sym at) ((spares-none x (λ t. true) sound).plain o there plain may))

  -- the transaction has neither first opened nor open what it sees as a directory
  directory-first : (n : ℕ) → is_directory seen n ≡ true → (o : FirstOpen) → IsIn o x.files.first_opens → o.transaction ≡ id → n ≡ o.file → ⊥
  directory-first n dir o there of at = true≢false (sym dir ∙ not-true _ (subst (λ m. is_no_directory x.files m id ≡ true) (sym at) (subst (λ i. is_no_directory x.files o.file i ≡ true) of
      (list_all-at (λ (o : FirstOpen). is_no_directory x.files o.file o.transaction) x.files.first_opens sound.first_files o there))))

  directory-open : (n : ℕ) → is_directory seen n ≡ true → (o : OpenFile) → IsIn o x.files.table.opens → is_of id o.transaction ≡ true → n ≡ o.node → ⊥
  directory-open n dir o there of at = true≢false (sym dir ∙ not-true _ (subst (λ m. is_no_directory x.files m id ≡ true) (sym at) (subst (λ t. opens_no_directory x.files o.node t ≡ true) (transaction-of id o of)
      (list_all-at (λ (o : OpenFile). opens_no_directory x.files o.node o.transaction) x.files.table.opens sound.opens_files o there))))

  -- a file that is open nowhere in the transaction
  closed-here : (n : ℕ) → is_open_in x.files.table.opens (Some id) n ≡ false → (o : OpenFile) → IsIn o x.files.table.opens → is_of id o.transaction ≡ true → n ≡ o.node → ⊥
  closed-here n closed o there of at = true≢false (no_test (λ (p : OpenFile). true) o (opened_in x.files.table.opens (Some id) n) closed
      (IsIn-kept (λ (p : OpenFile). same_group p.transaction (Some id) && p.node == n) x.files.table.opens o there
      (and_from _ _ (subst (λ t. same_group t (Some id) ≡ true) (sym (transaction-of id o of)) (same_id-from id id refl)) (eq-eqb _ _ (sym at)))))

  -- the next number is of nothing that is open
  pub next-plain : (n : ℕ) → n ≡ x.files.table.next_node → (o : OpenFile) → IsIn o x.files.table.opens → is_none o.transaction ≡ true → n ≡ o.node → ⊥
  next-plain n next o there plain at = elim (or_cases (not (is_none o.transaction)) _ (list_all-at (is_plain_well x.files) x.files.table.opens sound.opens_plain o there)) [
    | inl own ↦ true≢false (sym plain ∙ not-true _ own)
    | inr both ↦ below-next x o.node (and_parts (is_drawn_node x.files o.node) _ both).0 (sym at ∙ next)
  ]

  pub next-first : (n : ℕ) → n ≡ x.files.table.next_node → (o : FirstOpen) → IsIn o x.files.first_opens → n ≡ o.file → ⊥
  next-first n next o there at = below-next x o.file (list_all-at (λ (p : FirstOpen). is_drawn_node x.files p.file) x.files.first_opens sound.first_drawn o there) (sym at ∙ next)

  -- it makes a free name
  pub owns-make : (kind : NodeKind) (directory : ℕ) (name : List ℕ) → Leads seen (free directory name) → conflicts x.files (Some id) (makes (place directory name)) ≡ false
      → next_after x.files.table.next_node (Make x.files.table.next_node directory kind name) ≤ 2 ^ 63 → Owns x id (Make x.files.table.next_node directory kind name)
  owns-make kind directory name leads none limit =
      owns-call (Make x.files.table.next_node directory kind name) (makes (place directory name))
      (applies-from seen (Make x.files.table.next_node directory kind name)
      (and_from _ _ (le-leb 2 x.files.table.next_node sound.next_from) (lt-ltb x.files.table.next_node (2 ^ 63) (omega (arith, limit))), next-unseen formed x sound id, leads.0, leads.1, leads.2))
      refl none (λ bytes. absurd (true≢false (sym bytes))) refl (λ make. refl) (λ o there plain may at. next-plain x.files.table.next_node refl o there plain at)
      (λ o there of at. absurd (next-first x.files.table.next_node refl o there at)) (λ drop. absurd (true≢false (sym drop))) limit

  -- what is open in it and may be written it writes
  pub owns-write : (c : Change) (o : OpenFile) → IsIn o x.files.table.opens → o.transaction ≡ Some id → writes o.access ≡ true → changes_bytes c ≡ true → node_of c ≡ o.node → puts_some c ≡ true → applies seen c ≡ true → Owns x id c
  owns-write c o there of may bytes at puts applies = record {
    who = who;
    applies = applies;
    opened = λ given. subst (λ n. made_or_opened x.files id n ≡ true) (sym at) used.made;
    puts = puts;
    fresh = λ make. absurd (true≢false (sym make ∙ no-make c bytes));
    alone = λ v v-there other. record {
      nodes = λ theirs. (apart-holds (holds_now x.files id) (holds_now x.files v.id) (own-holds v v-there other)).nodes o.node held (subst (λ n. IsIn n (holds_now x.files v.id).nodes) at theirs);
      places = λ p q none. absurd (subst (IsIn p) (silent-places seen c bytes) none);
      enters = λ p none. absurd (subst (IsIn p) (silent-places seen c bytes) none);
      drops = λ n none. absurd (subst (IsIn n) (silent-dropped seen c bytes) none);
      moves = λ n none. absurd (subst (IsIn n) (silent-moved seen c bytes) none);
    };
    plain = λ p p-there plain writing same.
        let t = undecided-entry x.transactions.items id who in
        true≢false (sym (list_any-from (λ (q : OpenFile). is_of t.0.id q.transaction && q.node == p.node) x.files.table.opens o there (and_from _ _ (subst (λ s. is_of t.0.id s ≡ true) (sym of) (same_id-from t.0.id id t.2)) (eq-eqb _ _ (sym at ∙ same))))
        ∙ (or_parts (is_in (holds_now x.files t.0.id).nodes p.node) _ (writer-alone x sound p t.0 p-there plain writing t.1)).1);
    last = λ f f-there mine same. elim (or_cases _ (is_last_version x.files f) (list_all-at (is_open_last x.files) x.files.first_opens sound.first_last f f-there)) [
      | inr last ↦ last
      | inl free' ↦ absurd (true≢false (sym (subst (λ i. is_in (holds_now x.files i).nodes f.file ≡ true) (sym mine) (list_any-from (λ m. m == f.file) (holds_now x.files id).nodes o.node held (eq-eqb _ _ (sym at ∙ same)))) ∙ not-true _ free'))
    ];
    kept = λ drop. absurd (true≢false (sym drop ∙ no-drop c bytes));
    limit = subst (λ n. n ≤ 2 ^ 63) (sym (no-number x.files.table.next_node c bytes)) sound.next_to;
  }
    where
      used : Used x o id
      used = used-in x sound o there id of

      held : IsIn o.node (holds_now x.files id).nodes
      held = IsIn-right o.node (map node_of (own_changes x.files.table.own id)) (written_by x.files.table.opens id)
          (IsIn-map (λ (p : OpenFile). p.node) o (filter (λ p. is_of id p.transaction && writes p.access) x.files.table.opens)
          (IsIn-kept (λ p. is_of id p.transaction && writes p.access) x.files.table.opens o there (and_from _ _ (subst (λ t. is_of id t ≡ true) (sym of) (same_id-from id id refl)) may)))

      own-holds : (v : Transaction) → IsIn v (undecided x) → same_id id v.id ≡ false → are_apart (holds_now x.files id) (holds_now x.files v.id) ≡ true
      own-holds v v-there other =
          let t = undecided-entry x.transactions.items id who in
          subst (λ i. are_apart (holds_now x.files i) (holds_now x.files v.id) ≡ true) t.2 (holds-apart x sound t.0 v t.1 v-there (subst (λ i. same_id i v.id ≡ false) (sym t.2) other))

-- ---- the calls

-- a call in a transaction only answers, or keeps one change that it may
abbrev pub IsOwn : Present → Id → FileOutcome → Type 0
IsOwn x id o = (o ≡ answering Done) ⊎ ((c : Change) × (o ≡ changing c) × Owns x id c)

module _ (formed : FormedLaw) (x : Present) (sound : IsSoundFiles x) (id : Id) (who : is_undecided_in x.transactions.items id ≡ true) where
  delete-at : (w : Whereabouts) → Leads (tree_seen x.files (Some id)) w → is_at_directory w ≡ false → (conflict_test x.files (Some id) (delete_act w)).0 ≡ false → is_open_at x.files (Some id) w ≡ false → IsOwn x id (drop_at w)
  delete-at (at_node node) leads file none closed =
      let is = some-from node.content file in
      inr (
        Drop node.number,
        refl,
        owns-call formed x sound id who (Drop node.number) (deletes node.number (place node.parent node.name))
            (delete-applies (tree_seen x.files (Some id)) (seen-formed formed x sound id) node leads is) (delete-acts (tree_seen x.files (Some id)) node leads is) none (λ bytes. absurd (true≢false (sym bytes))) refl (λ make. absurd (true≢false (sym make)))
            (not-written x.files id (deletes node.number (place node.parent node.name)) none node.number (inl refl))
            (λ o there of at. still-last x sound id (deletes node.number (place node.parent node.name)) none node.number (inl refl) o there of at) (λ drop. closed-here formed x sound id who node.number (rw is at closed)) sound.next_to,
      )
  delete-at no_path leads file none closed = inl refl
  delete-at no_way leads file none closed = inl refl
  delete-at (free directory name) leads file none closed = inl refl
  delete-at at_root leads file none closed = inl refl

  pub own-deleted : (path : List ℕ) → Passes (delete_file_tests x.files (file_room x) (Some id) path) → IsOwn x id (delete_file x.files (Some id) path)
  unfolding delete_file delete_file_tests
  own-deleted path passes =
      let no = not_refused (delete_file_tests x.files (file_room x) (Some id) path) passes.none in
      delete-at (find_path (tree_seen x.files (Some id)) path) (find_path-leads (tree_seen x.files (Some id)) (seen-formed formed x sound id) path)
      (no _ (inr (inr (inr (inl refl))))) (no _ (inr (inr (inr (inr (inl refl)))))) (no _ (inr (inr (inr (inr (inr (inl refl)))))))

  remove-at : (w : Whereabouts) → Leads (tree_seen x.files (Some id)) w → is_at_file w ≡ false → is_not_empty (tree_seen x.files (Some id)) w ≡ false → (conflict_test x.files (Some id) (remove_act w)).0 ≡ false → IsOwn x id (drop_at w)
  remove-at (at_node node) leads dir empty none =
      let is = is-directory (tree_seen x.files (Some id)) node.number node leads.0 dir in
      inr (
        Drop node.number,
        refl,
        owns-call formed x sound id who (Drop node.number) (drops_directory node.number (place node.parent node.name))
            (remove-applies (tree_seen x.files (Some id)) node leads empty) (remove-acts (tree_seen x.files (Some id)) node leads dir) none (λ bytes. absurd (true≢false (sym bytes))) refl (λ make. absurd (true≢false (sym make)))
            (directory-plain formed x sound id who node.number is) (λ o there of at. absurd (directory-first formed x sound id who node.number is o there of at)) (λ drop. directory-open formed x sound id who node.number is) sound.next_to,
      )
  remove-at no_path leads dir empty none = inl refl
  remove-at no_way leads dir empty none = inl refl
  remove-at (free directory name) leads dir empty none = inl refl
  remove-at at_root leads dir empty none = inl refl

  pub own-removed : (path : List ℕ) → Passes (remove_directory_tests x.files (file_room x) (Some id) path) → IsOwn x id (remove_directory x.files (Some id) path)
  unfolding remove_directory remove_directory_tests
  own-removed path passes =
      let no = not_refused (remove_directory_tests x.files (file_room x) (Some id) path) passes.none in
      remove-at (find_path (tree_seen x.files (Some id)) path) (find_path-leads (tree_seen x.files (Some id)) (seen-formed formed x sound id) path)
      (no _ (inr (inr (inr (inr (inl refl)))))) (no _ (inr (inr (inr (inr (inr (inl refl))))))) (no _ (inr (inr (inr (inr (inr (inr (inl refl))))))))

  make-at' : (room : FileRoom) (w : Whereabouts) → Leads (tree_seen x.files (Some id)) w → (conflict_test x.files (Some id) (make_act w)).0 ≡ false → lacks_quota x.files room (Some id) (make_at x.files w) ≡ false → IsOwn x id (make_at x.files w)
  make-at' room (free directory name) leads none fits =
      let change = Make x.files.table.next_node directory Directory name in
      inr (change, refl, owns-make formed x sound id who Directory directory name leads none (enough-numbers x.files room (Some id) (changing change) change refl fits))
  make-at' room no_path leads none fits = inl refl
  make-at' room no_way leads none fits = inl refl
  make-at' room at_root leads none fits = inl refl
  make-at' room (at_node node) leads none fits = inl refl

  pub own-made : (path : List ℕ) → Passes (create_directory_tests x.files (file_room x) (Some id) path) → IsOwn x id (create_directory x.files (Some id) path)
  unfolding create_directory create_directory_tests
  own-made path passes =
      let no = not_refused (create_directory_tests x.files (file_room x) (Some id) path) passes.none in
      make-at' (file_room x) (find_path (tree_seen x.files (Some id)) path) (find_path-leads (tree_seen x.files (Some id)) (seen-formed formed x sound id) path)
      (no _ (inr (inr (inr (inl refl))))) (no _ (inr (inr (inr (inr (inl refl))))))

  move-node : (node : Node) (directory : ℕ) (name : List ℕ) → Leads (tree_seen x.files (Some id)) (at_node node) → Leads (tree_seen x.files (Some id)) (free directory name) → is_into_itself (tree_seen x.files (Some id)) (at_node node) (free directory name) ≡ false
      → (b : Bool) → is_some node.content ≡ b → conflicts x.files (Some id) (if b then moves_file node.number (place node.parent node.name) (place directory name) else moves_directory node.number (place node.parent node.name) (place directory name)) ≡ false
      → Owns x id (Move node.number directory name)
  move-node node directory name leads leads' outside true file none =
      let act = moves_file node.number (place node.parent node.name) (place directory name) in
      owns-call formed x sound id who (Move node.number directory name) act
      (move-applies (tree_seen x.files (Some id)) node directory name leads leads' outside)
      (acts-at (tree_seen x.files (Some id)) node (Move node.number directory name) leads.0 refl refl ∙ ap (λ b. (if b then moves_file node.number (place node.parent node.name) (place directory name) else moves_directory node.number (place node.parent node.name) (place directory name)) ∷ []) file)
      none (λ bytes. absurd (true≢false (sym bytes))) refl (λ make. absurd (true≢false (sym make)))
      (not-written x.files id act none node.number (inl refl)) (λ o there of at. still-last x sound id act none node.number (inl refl) o there of at) (λ drop. absurd (true≢false (sym drop))) sound.next_to
  move-node node directory name leads leads' outside false dir none =
      let act = moves_directory node.number (place node.parent node.name) (place directory name) in
      let is = is-directory (tree_seen x.files (Some id)) node.number node leads.0 dir in
      owns-call formed x sound id who (Move node.number directory name) act
      (move-applies (tree_seen x.files (Some id)) node directory name leads leads' outside)
      (acts-at (tree_seen x.files (Some id)) node (Move node.number directory name) leads.0 refl refl ∙ ap (λ b. (if b then moves_file node.number (place node.parent node.name) (place directory name) else moves_directory node.number (place node.parent node.name) (place directory name)) ∷ []) dir)
      none (λ bytes. absurd (true≢false (sym bytes))) refl (λ make. absurd (true≢false (sym make)))
      (directory-plain formed x sound id who node.number is) (λ o there of at. absurd (directory-first formed x sound id who node.number is o there of at)) (λ drop. absurd (true≢false (sym drop))) sound.next_to

  move-at' : (w v : Whereabouts) → Leads (tree_seen x.files (Some id)) w → Leads (tree_seen x.files (Some id)) v → is_into_itself (tree_seen x.files (Some id)) w v ≡ false → (conflict_test x.files (Some id) (move_act w v)).0 ≡ false
      → IsOwn x id (move_at w v)
  move-at' (at_node node) (free directory name) leads leads' outside none = inr (Move node.number directory name, refl, move-node node directory name leads leads' outside (is_some node.content) refl none)
  move-at' (at_node node) no_path leads leads' outside none = inl refl
  move-at' (at_node node) no_way leads leads' outside none = inl refl
  move-at' (at_node node) at_root leads leads' outside none = inl refl
  move-at' (at_node node) (at_node other) leads leads' outside none = inl refl
  move-at' no_path v leads leads' outside none = inl refl
  move-at' no_way v leads leads' outside none = inl refl
  move-at' (free directory name) v leads leads' outside none = inl refl
  move-at' at_root v leads leads' outside none = inl refl

  pub own-moved : (source target : List ℕ) → Passes (move_file_tests x.files (file_room x) (Some id) source target) → IsOwn x id (move_file x.files (Some id) source target)
  unfolding move_file move_file_tests
  own-moved source target passes =
      let no = not_refused (move_file_tests x.files (file_room x) (Some id) source target) passes.none in
      move-at' (find_path (tree_seen x.files (Some id)) source) (find_path (tree_seen x.files (Some id)) target)
      (find_path-leads (tree_seen x.files (Some id)) (seen-formed formed x sound id) source) (find_path-leads (tree_seen x.files (Some id)) (seen-formed formed x sound id) target)
      (or_parts _ _ (no _ (inr (inr (inr (inr (inl refl))))))).1 (no _ (inr (inr (inr (inr (inr (inl refl)))))))

-- ---- what they leave

module _ (lists : ListsLaw) (formed : FormedLaw) where
  pub owned-call : (x : Present) (id : Id) (c : Change) → IsSoundFiles x → Owns x id c → IsSoundFiles (apply x (of_files x (Some id) (changing c)))
  owned-call x id c sound owns = unchanged lists formed (record x { files = owned x.files id c }) (apply x (of_files x (Some id) (changing c)))
      (λ i. record (owned x.files id c) { first_opens = (filter-true (x.files.first_opens ++ []) ∙ append-nil x.files.first_opens) i }) refl (λ o there. named x sound o there) (λ i was. was) (λ u there. (u, there, refl)) (owned-sound x id c sound owns)

  -- so what undecided transactions own stays sound
  pub keeps-own : (x : Present) → AreInOrder x → IsSoundFiles x → (id : Id) (o : FileOutcome) → IsOwn x id o → IsSoundFiles (apply x (of_files x (Some id) o))
  keeps-own x order sound id o (inl answers) = subst (λ o. IsSoundFiles (apply x (of_files x (Some id) o))) (sym answers) (answers_file lists formed x (Some id) (answering Done) refl refl refl order sound)
  keeps-own x order sound id o (inr (c, changes, owns)) = subst (λ o. IsSoundFiles (apply x (of_files x (Some id) o))) (sym changes) (owned-call x id c sound owns)
