-- How much a transaction has to commit in a machine within its limits: so few changes and settings, and each so short, that they have bytes.
use Rattle.std.proofs.Common.{◌≡◌, ℕ, ◌+◌, ◌*◌, ◌<◌, ◌≤◌, ◌^◌, ◌==◌, ◌&&◌, not, Bool, true, false, cond, is_some, is_none, nat_le, nat_lt, List, [], ◌∷◌, ◌++◌, length, length-append, count_by, IfSome, Option, Some, None, refl, sym, ◌∙◌, ap, subst, arith, inl, inr}
use Rattle.std.proofs.lemmas.Bool.{cases_Bool, and_parts, leb-true, ltb-false, ltb-true, ne_eqb, not-true, or_parts, true≢false}
use Rattle.std.proofs.lemmas.List.Elements.{All-nil, recursion_from_All}
use Rattle.std.proofs.lemmas.List.Sums.{length-filter}
use Rattle.std.proofs.lemmas.Nat.{le-div}
use Rattle.ktm_base.specs.declared.limits.TheConstants.{MOST_UNITS, MOST_NAME_BYTES}
use Rattle.ktm_base.specs.declared.id.Id.{Id}
use Rattle.ktm_event.specs.Spelling.{AreSpellableChanges, AreSpellablePages, AreSpellableSettings, IsSpellableChange, IsSpellableSetting}
use Rattle.ktm_keyed.specs.declared.keyed.Keyed.{Keyed}
use Rattle.ktm_world.specs.declared.change.Change.{Change}
use Rattle.ktm_world.specs.declared.change.Change.TheVariants.{Make, Put, Cut, Move, Drop}
use Rattle.ktm_world.specs.declared.change.Contents.TheVariants.{Whole}
use Rattle.ktm_world.specs.declared.recorded.Node.{Node}
use Rattle.ktm_world.specs.Changes.{applies, changes_apply, changed, changed_all, changes_bytes}
use Rattle.ktm_world.specs.Committed.{changes_to_commit, final_bytes, written_files}
use Rattle.ktm_world.specs.FileUses.{file_changes_waiting, nodes_used, own_units, units_used}
use Rattle.ktm_world.specs.Files.{OwnChanges, bytes_seen, own_changes}
use Rattle.ktm_world.specs.Keys.{Own, OwnSettings, is_bad_key, is_bad_set_to, is_good_setting, own_settings}
use Rattle.ktm_world.specs.Paths.{is_name}
use Rattle.ktm_world.specs.Present.{Present}
use Rattle.ktm_world.specs.Tree.{Tree, has_number, is_file, node_at, units_of, with_changed, with_node, without_node}
use Rattle.ktm_world.specs.Uses.{changes_waiting}
use Rattle.txf_laws.specs.FinalChanges.{names_of}
use Rattle.txf_laws.specs.Elements.{IsIn}
use Rattle.ktm_records.specs.Kept.{IsKept}
use Rattle.ktm_records.specs.Spelling.{AreTexts}
use Rattle.txf_laws.proofs.offered.ChangeTests.{Applies-from}
use Rattle.txf_laws.proofs.offered.Elements.{IsIn-filter, IsIn-unflat, list_all-at, length-filter-less}
use Rattle.txf_laws.proofs.offered.Formed.{content-found}
use Rattle.txf_laws.proofs.offered.Lists.{IsIn-cases}
use Rattle.ktm_world.proofs.offered.Lookups.{map_node, node_at-with_changed, node_at-without_node}
use Rattle.ktm_records.proofs.offered.NoMore.{Fits, fits-within}
use Rattle.txf_laws.proofs.offered.NormalForms.{RisingNumbers, changes_apply-second, ends_of, rising-written}
use Rattle.ktm_records.proofs.OwnRecords.{Owned}
use Rattle.ktm_owned.proofs.offered.OwnSettings.{own_settings-found, own_settings-good}
use Rattle.ktm_records.proofs.OwnTexts.{HasTextKey, texts-own_settings}
use Rattle.txf_laws.proofs.offered.CommitsOfOthers.{All-by, All-in}
use Rattle.txf_laws.proofs.offered.Pigeons.{length-without}
use Rattle.txf_laws.proofs.offered.Reservations.{own_changes-found}
use Rattle.txf_laws.proofs.offered.Sums.{count-cons, sum-one}

-- ---- settings

-- a setting sets its key, or unsets it
length-set : (settings : OwnSettings) → length settings ≡ count_by (λ s. is_some s.value) settings + count_by (λ s. is_none s.value) settings
length-set [] = refl
length-set (s ∷ ss) =
    let rest = length-set ss in
    let sets = count-cons (λ (s : Keyed (Option (List ℕ))). is_some s.value) s ss in
    let unsets = count-cons (λ (s : Keyed (Option (List ℕ))). is_none s.value) s ss in
    let one = go s.value in
    omega (arith, rest, sets, unsets, one)
  where
    go : (value : Option (List ℕ)) → cond (is_some value) 1 0 + cond (is_none value) 1 0 ≡ 1
    go None = refl
    go (Some value) = refl

few-settings : (x : Present) → Fits x → (o : Own) → IsIn o x.keys.own → length o.settings ≤ x.recorded.units + x.recorded.units
unfolding changes_waiting
few-settings x within o there =
    let all = length-set o.settings in
    let sets = sum-one (λ (o : Own). count_by (λ s. is_some s.value) o.settings) x.keys.own o there in
    let unsets = sum-one (λ (o : Own). count_by (λ s. is_none s.value) o.settings) x.keys.own o there in
    let keys = within.keys in
    let changes = within.changes in
    omega (arith, all, sets, unsets, keys, changes)

short-value : (value : Option (List ℕ)) → is_bad_set_to value ≡ false → IfSome value (λ bytes. length bytes < 2 ^ 16)
short-value None good = tt
short-value (Some value) good = let few = ltb-false 960 (length value) good in omega (arith, few)

spelled-setting : (s : Keyed (Option (List ℕ))) → is_good_setting s ≡ true → HasTextKey s → IsSpellableSetting s
spelled-setting s good text =
    let parts = and_parts (not (is_bad_key s.key)) (not (is_bad_set_to s.value)) good in
    let key = or_parts (length s.key == 0) (nat_lt 64 (length s.key)) (not-true (is_bad_key s.key) parts.0) in
    let few = ltb-false 64 (length s.key) key.1 in
    record { text = text; short_key = omega (arith, few); short_value = short-value s.value (not-true (is_bad_set_to s.value) parts.1) }

spelled-settings : (x : Present) → IsKept x → AreTexts x → x.recorded.units ≤ MOST_UNITS → (id : Id) → AreSpellableSettings (own_settings x.keys.own id)
spelled-settings x kept texts units id =
    let good = own_settings-good x.keys.own id kept.sound.keys.settings in
    record {
      rising = good.0;
      few = few;
      each = All-by IsSpellableSetting (own_settings x.keys.own id) (λ s there.
          spelled-setting s (list_all-at is_good_setting (own_settings x.keys.own id) good.1 s there)
          (All-in HasTextKey (own_settings x.keys.own id) (texts-own_settings x.keys.own id (recursion_from_All _ _ texts.own)) s there));
    }
  where
    few : length (own_settings x.keys.own id) < 2 ^ 32
    few = elim (own_settings-found x.keys.own id) [
      | inl none ↦ subst (λ ss. length ss < 2 ^ 32) (sym none) (omega arith)
      | inr (o, there, is, settings) ↦ subst (λ ss. length ss < 2 ^ 32) settings (let most = few-settings x (fits-within x kept.within) o there in omega (arith, most, units))
    ]

-- ---- the files that changes leave with bytes

-- a tree has as many nodes as there are different numbers of them
as-many : (numbers : List ℕ) (tree : Tree) → RisingNumbers numbers → ((n : ℕ) → IsIn n numbers → is_some (node_at tree n) ≡ true) → length numbers ≤ length tree
as-many [] tree rises there = omega arith
as-many (n ∷ ns) tree rises there =
    let less = length-without tree n (there n (inl refl)) in
    let rest = as-many ns (without_node tree n) rises.1 (λ m is. rw (node_at-without_node tree n m, ne_eqb n m (λ e. absurd (let over = rises.0 m is in omega (arith, over, e)))) (there m (inr is))) in
    omega (arith, less, rest)

-- a node that is changed is there where it was
same-there : (tree : Tree) (number m : ℕ) (f : Node → Node) → ((n : Node) → (f n).number ≡ n.number) → is_some (node_at (with_changed tree number f) m) ≡ is_some (node_at tree m)
same-there tree number m f keeps = ap is_some (node_at-with_changed tree number f keeps m) ∙ go (number == m) (node_at tree m)
  where
    go : (b : Bool) (o : Option Node) → is_some (cond b (map_node f o) o) ≡ is_some o
    go true None = refl
    go true (Some n) = refl
    go false o = refl

bytes-there : (tree : Tree) (c : Change) (m : ℕ) → changes_bytes c ≡ true → is_some (node_at (changed tree c) m) ≡ is_some (node_at tree m)
bytes-there tree (Make node parent kind name) m bytes = absurd (true≢false (sym bytes))
bytes-there tree (Put node offset contents) m bytes = same-there tree node m _ (λ n. refl)
bytes-there tree (Cut node size pages) m bytes = same-there tree node m _ (λ n. refl)
bytes-there tree (Move node parent name) m bytes = absurd (true≢false (sym bytes))
bytes-there tree (Drop node) m bytes = absurd (true≢false (sym bytes))

-- the files whose bytes are given at the end are there before
ends-there : (by : ℕ → List ℕ) (files : List ℕ) (tree : Tree) → changes_apply tree (ends_of by files) ≡ true → (n : ℕ) → IsIn n files → is_some (node_at tree n) ≡ true
ends-there by [] tree all n there = absurd there
ends-there by (f ∷ fs) tree all n there = go (λ t is later. ends-there by fs t is n later) (by f) all there
  where
    first : is_file tree f && true ≡ true → f ≡ n → is_some (node_at tree n) ≡ true
    first is e = subst (λ m. is_some (node_at tree m) ≡ true) e (content-found (node_at tree f) (and_parts (is_file tree f) true is).0)

    cut : Change
    cut = Cut f 0 []

    go : ((t : Tree) → changes_apply t (ends_of by fs) ≡ true → IsIn n fs → is_some (node_at t n) ≡ true) → (bs : List ℕ) → changes_apply tree (final_bytes f bs ++ ends_of by fs) ≡ true → IsIn n (f ∷ fs) → is_some (node_at tree n) ≡ true
    go rest [] all' (inl e) = first (and_parts (applies tree cut) (changes_apply (changed tree cut) (ends_of by fs)) all').0 e
    go rest [] all' (inr later) = sym (bytes-there tree cut n refl) ∙ rest (changed tree cut) (and_parts (applies tree cut) (changes_apply (changed tree cut) (ends_of by fs)) all').1 later
    go rest (b ∷ bs) all' (inl e) = first (and_parts (applies tree cut) (changes_apply (changed tree cut) (Put f 0 (Whole (b ∷ bs)) ∷ ends_of by fs)) all').0 e
    go rest (b ∷ bs) all' (inr later) =
        let put = Put f 0 (Whole (b ∷ bs)) in
        let behind = (and_parts (applies tree cut) (changes_apply (changed tree cut) (put ∷ ends_of by fs)) all').1 in
        sym (bytes-there tree cut n refl) ∙ sym (bytes-there (changed tree cut) put n refl)
        ∙ rest (changed (changed tree cut) put) (and_parts (applies (changed tree cut) put) (changes_apply (changed (changed tree cut) put) (ends_of by fs)) behind).1 later

-- ---- how many changes

length-with_node : (tree : Tree) (node : Node) → length (with_node tree node) ≤ length tree + 1
length-with_node [] node = omega arith
length-with_node (x ∷ xs) node = let rest = length-with_node xs node in elim (cases_Bool (nat_lt node.number x.number)) [ inl before ↦ rw before (omega arith) | inr behind ↦ rw behind (omega (arith, rest)) ]

length-with_changed : (tree : Tree) (number : ℕ) (f : Node → Node) → length (with_changed tree number f) ≤ length tree + 1
length-with_changed [] number f = omega arith
length-with_changed (x ∷ xs) number f = let rest = length-with_changed xs number f in omega (arith, rest)

length-changed : (tree : Tree) (c : Change) → length (changed tree c) ≤ length tree + 1
length-changed tree (Make node parent kind name) = length-with_node tree _
length-changed tree (Put node offset contents) = length-with_changed tree node _
length-changed tree (Cut node size pages) = length-with_changed tree node _
length-changed tree (Move node parent name) = length-with_changed tree node _
length-changed tree (Drop node) = let less = length-filter-less (λ n. not (has_number node n)) tree in omega (arith, less)

length-changed_all : (cs : List Change) (tree : Tree) → length (changed_all tree cs) ≤ length tree + length cs
length-changed_all [] tree = omega arith
length-changed_all (c ∷ cs) tree = let one = length-changed tree c in let rest = length-changed_all cs (changed tree c) in omega (arith, one, rest)

length-ends : (by : ℕ → List ℕ) (files : List ℕ) → length (ends_of by files) ≤ length files + length files
length-ends by [] = omega arith
length-ends by (f ∷ fs) = let rest = length-ends by fs in let both = length-append (final_bytes f (by f)) (ends_of by fs) in let two = at-most-two (by f) in omega (arith, rest, both, two)
  where
    at-most-two : (bs : List ℕ) → length (final_bytes f bs) ≤ 2
    at-most-two [] = omega arith
    at-most-two (b ∷ bs) = omega arith

-- changes in their last form are a few times as many as the names that they change, and the nodes that there are
length-final : (tree : Tree) (cs : List Change) (by : ℕ → List ℕ) → changes_to_commit cs by ≡ cs → changes_apply tree cs ≡ true → length cs ≤ length (names_of cs) + 2 * (length tree + length (names_of cs))
length-final tree cs by final applied =
    let names = names_of cs in
    let files = written_files cs in
    let here = changed_all tree names in
    let all : changes_apply tree (names ++ ends_of by files) ≡ true = subst (λ ds. changes_apply tree ds ≡ true) (sym final) applied in
    let many = as-many files here (rising-written cs [] tt) (ends-there by files here (changes_apply-second tree names (ends_of by files) all)) in
    let nodes = length-changed_all names tree in
    let ends = length-ends by files in
    let both = length-append names (ends_of by files) in
    let same : length cs ≡ length (names ++ ends_of by files) = ap length (sym final) in
    omega (arith, many, nodes, ends, both, same)

few-changes : (x : Present) → IsKept x → Fits x → (o : OwnChanges) → IsIn o x.files.table.own → length o.changes ≤ 5 * x.recorded.units
unfolding changes_waiting file_changes_waiting nodes_used
few-changes x kept within o there =
    let most = length-final x.files.tree o.changes (bytes_seen x.files (Some o.transaction)) (All-in (λ (o : OwnChanges). changes_to_commit o.changes (bytes_seen x.files (Some o.transaction)) ≡ o.changes) x.files.table.own kept.sound.files.own_final o there)
    (list_all-at (λ (o : OwnChanges). changes_apply x.files.tree o.changes) x.files.table.own kept.sound.files.own_apply o there) in
    let names : length (names_of o.changes) ≡ count_by (λ change. not (changes_bytes change)) o.changes = length-filter (λ change. not (changes_bytes change)) o.changes in
    let waiting = sum-one (λ (o : OwnChanges). count_by (λ change. not (changes_bytes change)) o.changes) x.files.table.own o there in
    let nodes = within.nodes in
    let changes = within.changes in
    omega (arith, most, names, waiting, nodes, changes)

-- ---- each change

short-name : (name : List ℕ) → is_name name ≡ true → length name < 2 ^ 8
unfolding is_name
short-name name is =
    let d = and_parts _ _ is in
    let c = and_parts _ _ d.0 in
    let b = and_parts _ _ c.0 in
    let few = leb-true (length name) MOST_NAME_BYTES (and_parts (nat_le 1 (length name)) (nat_le (length name) MOST_NAME_BYTES) b.0).1 in
    omega (arith, few)

-- a change of names that applies
pub spelled-name : (tree : Tree) (c : Change) → applies tree c ≡ true → not (changes_bytes c) ≡ true → IsSpellableChange c
spelled-name tree (Make node parent kind name) is names = short-name name (Applies-from tree (Make node parent kind name) is).3
spelled-name tree (Put node offset contents) is names = absurd (true≢false (sym names))
spelled-name tree (Cut node size pages) is names = absurd (true≢false (sym names))
spelled-name tree (Move node parent name) is names = short-name name (Applies-from tree (Move node parent name) is).4
spelled-name tree (Drop node) is names = tt

spelled-names : (cs : List Change) (tree : Tree) → changes_apply tree cs ≡ true → (c : Change) → IsIn c cs → not (changes_bytes c) ≡ true → IsSpellableChange c
spelled-names [] tree all c there names = absurd there
spelled-names (d ∷ ds) tree all c (inl e) names = subst IsSpellableChange e (spelled-name tree d (and_parts (applies tree d) (changes_apply (changed tree d) ds) all).0 (subst (λ b. not (changes_bytes b) ≡ true) (sym e) names))
spelled-names (d ∷ ds) tree all c (inr there) names = spelled-names ds (changed tree d) (and_parts (applies tree d) (changes_apply (changed tree d) ds) all).1 c there names

-- no pages have bytes
pub no-pages : AreSpellablePages []
no-pages = record { few = omega arith; each = All-nil _ }

spelled-end : (f : ℕ) (bs : List ℕ) → length bs < 2 ^ 32 → (c : Change) → IsIn c (final_bytes f bs) → IsSpellableChange c
spelled-end f [] few c (inl e) = subst IsSpellableChange e no-pages
spelled-end f [] few c (inr none) = absurd none
spelled-end f (b ∷ bs) few c (inl e) = subst IsSpellableChange e no-pages
spelled-end f (b ∷ bs) few c (inr (inl e)) = subst IsSpellableChange e (omega arith, few)
spelled-end f (b ∷ bs) few c (inr (inr none)) = absurd none

few-bytes : (bytes : List ℕ) → units_of bytes ≤ MOST_UNITS → length bytes < 2 ^ 32
few-bytes bytes units = elim (cases_Bool (nat_lt (length bytes) (2 ^ 32))) [
  | inl few ↦ ltb-true _ _ few
  | inr many ↦
      let most = ltb-false _ _ many in
      let over = le-div 1025 (length bytes + 4095) 4096 (omega arith) (omega (arith, most)) in
      absurd (omega (arith, over, units))
]

-- the bytes that a transaction gives a file
given-bytes : (x : Present) → Fits x → x.recorded.units ≤ MOST_UNITS → (o : OwnChanges) → IsIn o x.files.table.own → (file : ℕ) → IsIn file (written_files o.changes) → length (bytes_seen x.files (Some o.transaction) file) < 2 ^ 32
unfolding units_used
given-bytes x within units o there file written =
    let here = sum-one (λ file. units_of (bytes_seen x.files (Some o.transaction) file)) (written_files o.changes) file written in
    let own = sum-one (own_units x.files) x.files.table.own o there in
    let all = within.units in
    few-bytes (bytes_seen x.files (Some o.transaction) file) (omega (arith, here, own, all, units))

spelled-own : (x : Present) → IsKept x → x.recorded.units ≤ MOST_UNITS → (o : OwnChanges) → IsIn o x.files.table.own → AreSpellableChanges o.changes
spelled-own x kept units o there =
    let within = fits-within x kept.within in
    let by = bytes_seen x.files (Some o.transaction) in
    let final : changes_to_commit o.changes by ≡ o.changes = All-in (λ (o : OwnChanges). changes_to_commit o.changes (bytes_seen x.files (Some o.transaction)) ≡ o.changes) x.files.table.own kept.sound.files.own_final o there in
    record {
      few = let few = few-changes x kept within o there in omega (arith, few, units);
      each = All-by IsSpellableChange o.changes (λ c is. elim (IsIn-cases c (names_of o.changes) (ends_of by (written_files o.changes)) (subst (IsIn c) (sym final) is)) [
        | inl name ↦
            let kept_name = IsIn-filter (λ change. not (changes_bytes change)) o.changes c name in
            spelled-names o.changes x.files.tree (list_all-at (λ (o : OwnChanges). changes_apply x.files.tree o.changes) x.files.table.own kept.sound.files.own_apply o there) c kept_name.0 kept_name.1
        | inr end ↦
            let of = IsIn-unflat (λ file. final_bytes file (by file)) (written_files o.changes) c end in
            spelled-end of.0 (by of.0) (given-bytes x within units o there of.0 of.1) c of.2
      ]);
    }

spelled-changes : (x : Present) → IsKept x → x.recorded.units ≤ MOST_UNITS → (id : Id) → AreSpellableChanges (own_changes x.files.table.own id)
spelled-changes x kept units id = elim (own_changes-found x.files.table.own id) [
  | inl none ↦ subst AreSpellableChanges (sym none) (record { few = omega arith; each = All-nil IsSpellableChange })
  | inr (o, there, is, changes) ↦ subst AreSpellableChanges changes (spelled-own x kept units o there)
]

-- what each transaction has to commit has bytes
pub spelled-owned : (x : Present) → IsKept x → AreTexts x → x.recorded.units ≤ MOST_UNITS → Owned AreSpellableChanges AreSpellableSettings x
spelled-owned x kept texts units = record { files = spelled-changes x kept units; keys = spelled-settings x kept texts units }
