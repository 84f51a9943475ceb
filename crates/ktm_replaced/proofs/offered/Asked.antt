-- What is asked of files with other bytes is so of the files.
use Rattle.std.proofs.Common.{◌≡◌, ℕ, suc, ◌<◌, ◌-◌, ◌^◌, ◌==◌, ◌&&◌, not, Bool, true, false, List, [], ◌∷◌, map, filter, length, Option, Some, None, IfSome, nat_lt, refl, sym, ◌∙◌, ap, subst, arith, inl, inr}
use Rattle.std.specs.Prelude.{option_map}
use Rattle.std.specs.List.{list_any}
use Rattle.std.proofs.lemmas.Bool.{cases_Bool, not_from_false}
use Rattle.std.proofs.lemmas.List.{length-map}
use Rattle.std.proofs.lemmas.Option.{none-some, same_Some}
use Rattle.ktm_base.specs.declared.id.Id.{Id}
use Rattle.ktm_world.specs.declared.change.Change.{Change}
use Rattle.ktm_world.specs.Changes.{applies, changes_apply, has_made, is_make, node_of}
use Rattle.ktm_world.specs.Committed.{version_of}
use Rattle.ktm_world.specs.FileOutcome.{FileOutcome, files_after, own_after, with_open}
use Rattle.ktm_world.specs.Files.{FileTable, FilesNow, FirstOpen, OpenFile, OwnChanges, bytes_seen, first_open_of, own_changes, tree_seen}
use Rattle.ktm_world.specs.Transactions.{same_id}
use Rattle.ktm_world.specs.Tree.{Tree, node_at, numbers_rise}
use Rattle.txf_laws.specs.Elements.{IsIn}
use Rattle.txf_laws.specs.FileEffects.{AreUnopened, CanBeCounted, IsNextOpen, IsNotOpened, IsOrderly, IsPlain, IsPlainChange, IsPlainOpen, IsPlanOf, LeavesOthers, LeavesOwn, forgotten}
use Rattle.txf_laws.specs.Reservations.{IsLeft, files_committed}
use Rattle.txf_laws.proofs.offered.CommitsOfOthers.{All-by, All-in}
use Rattle.txf_laws.proofs.offered.Elements.{length-filter-less}
use Rattle.txf_laws.proofs.offered.Reservations.{own_changes-left}
use Rattle.txf_laws.proofs.offered.Tables.{same_id-equal}
use Rattle.ktm_mapped.specs.Mapped.{IsBlank, mapped_node, mapped_tree}
use Rattle.ktm_mapped.proofs.offered.Lists.{list_all-mapped, list_any-mapped, filter-mapped}
use Rattle.ktm_mapped.proofs.offered.Trees.{changes_apply-mapped, is_file-mapped, node_at-mapped}
use Rattle.ktm_mapped.proofs.offered.Holds.{has_made-mapped, is_make-mapped, node_of-mapped}
use Rattle.ktm_alike.specs.Alike.{mapped_files, mapped_first, mapped_own}
use Rattle.ktm_alike.proofs.offered.Files.{first_open_of-mapped, own_changes-mapped, tree_seen-mapped}
use Rattle.ktm_alike.proofs.offered.Outcomes.{file_changes_waiting-mapped, holds_now-mapped, nodes_used-mapped, units_used-mapped}
use Rattle.ktm_replaced.specs.InPlace.{IsInPlace, LeavesOthersInPlace, LeavesOwnInPlace}
use Rattle.ktm_replaced.specs.Replaced.{AreAlike, AreChangesAlike, AreOutcomesAlike}
use Rattle.ktm_replaced.proofs.offered.Calls.{files_committed-mapped, own-alike, plain-alike}
use Rattle.ktm_replaced.proofs.offered.Replacing.{applies-alike, makes-none}

-- ---- lists and options that are mapped

only-none : {X Y : Type 0} (g : X → Y) (o : Option X) → option_map g o ≡ None → o ≡ None
only-none g None none = refl
only-none g (Some x) none = absurd (none-some (g x) (sym none))

IsIn-mapped : {X Y : Type 0} (g : X → Y) (x : X) (xs : List X) → IsIn x xs → IsIn (g x) (map g xs)
IsIn-mapped g x [] there = absurd there
IsIn-mapped g x (y ∷ ys) (inl same) = inl (ap g same)
IsIn-mapped g x (y ∷ ys) (inr there) = inr (IsIn-mapped g x ys there)

-- what keeps its length keeps all
all-kept : {X : Type 0} (keep : X → Bool) (xs : List X) → length (filter keep xs) ≡ length xs → filter keep xs ≡ xs
all-kept keep [] long = refl
all-kept keep (x ∷ xs) long = elim (cases_Bool (keep x)) [
  | inl stays ↦ rw stays (ap (λ ys. x ∷ ys) (all-kept keep xs (let e : suc (length (filter keep xs)) ≡ suc (length xs) = rw stays at long in omega (arith, e))))
  | inr goes ↦ let e : length (filter keep xs) ≡ suc (length xs) = rw goes at long in let less = length-filter-less keep xs in absurd (omega (arith, e, less))
]

-- a test that tells no difference keeps all, where it does of what is mapped
kept-mapped : {X Y : Type 0} (test : Y → Bool) (before : X → Bool) (g : X → Y) → ((x : X) → test (g x) ≡ before x) → (xs : List X) → filter test (map g xs) ≡ map g xs → filter before xs ≡ xs
kept-mapped test before g same xs kept = all-kept before xs
    (sym (length-map (filter before xs) g) ∙ ap length (sym (filter-mapped test before g same xs) ∙ kept) ∙ length-map xs g)

module _ (f : ℕ → ℕ) where
  -- ---- changes that are alike

  is_make-alike : (old : List ℕ) (c d : Change) → AreAlike f old c d → is_make d ≡ is_make c
  is_make-alike old c d (inl same) = ap is_make same ∙ is_make-mapped f c
  is_make-alike old c d (inr alike) = makes-none d alike.second ∙ sym (makes-none c alike.first)

  node_of-alike : (old : List ℕ) (c d : Change) → AreAlike f old c d → node_of d ≡ node_of c
  node_of-alike old c d (inl same) = ap node_of same ∙ node_of-mapped f c
  node_of-alike old c d (inr alike) = sym alike.node

  -- ---- the tree and the first opens

  numbers_rise-mapped : (tree : Tree) → numbers_rise (mapped_tree f tree) ≡ numbers_rise tree
  numbers_rise-mapped [] = refl
  numbers_rise-mapped (node ∷ []) = refl
  numbers_rise-mapped (node ∷ next ∷ nodes) = λ i. nat_lt node.number next.number && numbers_rise-mapped (next ∷ nodes) i

  first_opened-mapped : (opens : List FirstOpen) (file : ℕ) → list_any (λ o. o.file == file) (map (mapped_first f) opens) ≡ list_any (λ o. o.file == file) opens
  first_opened-mapped opens file = list_any-mapped (λ o. o.file == file) (λ o. o.file == file) (mapped_first f) (λ o. refl) opens

  pub orderly-back : (files : FilesNow) → IsOrderly (mapped_files f files) → IsOrderly files
  orderly-back files orderly = record {
    rise = sym (numbers_rise-mapped files.tree) ∙ orderly.rise;
    free = only-none (mapped_node f) (node_at files.tree files.table.next_node) (sym (node_at-mapped f files.tree files.table.next_node) ∙ orderly.free);
    fresh = sym (first_opened-mapped files.first_opens files.table.next_node) ∙ orderly.fresh;
  }

  pub unopened-back : (files : FilesNow) (id : Id) → AreUnopened (mapped_files f files) id → AreUnopened files id
  unopened-back files id unopened =
      sym (list_all-mapped (λ o. not (has_made (own_changes (map (mapped_own f) files.table.own) id) o.file)) (λ o. not (has_made (own_changes files.table.own id) o.file)) (mapped_first f) same files.first_opens) ∙ unopened
    where
      same : (o : FirstOpen) → not (has_made (own_changes (map (mapped_own f) files.table.own) id) o.file) ≡ not (has_made (own_changes files.table.own id) o.file)
      same o = ap not (ap (λ cs. has_made cs o.file) (own_changes-mapped f files.table.own id) ∙ has_made-mapped f (own_changes files.table.own id) o.file)

  pub fresh-back : (files : FilesNow) (id : Id) → forgotten (mapped_files f files) id ≡ mapped_files f files → forgotten files id ≡ files
  fresh-back files id fresh = λ i. record files {
    first_opens = kept-mapped _ (λ o. not (same_id o.transaction id)) (mapped_first f) (λ o. refl) files.first_opens (ap (λ (x : FilesNow). x.first_opens) fresh) i;
    table = record files.table {
      own = kept-mapped _ (λ o. not (same_id o.transaction id)) (mapped_own f) (λ o. refl) files.table.own (ap (λ (x : FilesNow). x.table.own) fresh) i;
      opens = ap (λ (x : FilesNow). x.table.opens) fresh i;
    };
  }

  -- ---- what is open

  plain-open-back : (files : FilesNow) (a b : Option OpenFile) → a ≡ b → IfSome b (IsPlainOpen (mapped_files f files)) → IfSome a (IsPlainOpen files)
  plain-open-back files None b same opened = tt
  plain-open-back files (Some o) b same opened =
      let plain : IsPlainOpen (mapped_files f files) o = subst (λ c. IfSome c (IsPlainOpen (mapped_files f files))) (sym same) opened in
      record { plain = plain.plain; next = plain.next; few = plain.few }

  next-open-back : (files : FilesNow) (o : OpenFile) → IsNextOpen (mapped_files f files).table o → IsNextOpen files.table o
  next-open-back files o next = record { number = next.number; few = next.few }

  not-opened-back : (files : FilesNow) (id : Id) (file : ℕ) → IsNotOpened (mapped_files f files) id file → IsNotOpened files id file
  not-opened-back files id file unopened = record {
    new = only-none (mapped_first f) (first_open_of files.first_opens id file) (sym (first_open_of-mapped f files.first_opens id file) ∙ unopened.new);
    committed = sym (is_file-mapped f files.tree file) ∙ unopened.committed;
  }

module _ (f : ℕ → ℕ) (blank : IsBlank f) where
  -- ---- what is in use

  pub counted-replaced : (files : FilesNow) → CanBeCounted files → CanBeCounted (mapped_files f files)
  counted-replaced files counted = record {
    units = subst (λ n. n < 2 ^ 63) (sym (units_used-mapped f blank files)) counted.units;
    nodes = subst (λ n. n < 2 ^ 63) (sym (nodes_used-mapped f files)) counted.nodes;
    names = subst (λ n. n < 2 ^ 63) (sym (file_changes_waiting-mapped f files)) counted.names;
  }

  pub counted-back : (files : FilesNow) → CanBeCounted (mapped_files f files) → CanBeCounted files
  counted-back files counted = record {
    units = subst (λ n. n < 2 ^ 63) (units_used-mapped f blank files) counted.units;
    nodes = subst (λ n. n < 2 ^ 63) (nodes_used-mapped f files) counted.nodes;
    names = subst (λ n. n < 2 ^ 63) (file_changes_waiting-mapped f files) counted.names;
  }

  -- ---- a plain call

  plain-change-back : (files : FilesNow) (c d : Change) (old : List ℕ) → AreAlike f old c d → IsPlainChange (mapped_files f files) d → IsPlainChange files c
  plain-change-back files c d old alike plain = record {
    does_apply = sym (applies-alike f blank files.tree old c d alike) ∙ plain.does_apply;
    fresh = λ makes.
        sym (first_opened-mapped f files.first_opens (node_of c))
        ∙ ap (λ n. list_any (λ o. o.file == n) (map (mapped_first f) files.first_opens)) (sym (node_of-alike f old c d alike))
        ∙ plain.fresh (is_make-alike f old c d alike ∙ makes);
    few = subst (λ n. version_of files.versions n < 2 ^ 64 - 2) (node_of-alike f old c d alike) plain.few;
  }

  plain-changes-back : (files : FilesNow) (a b : Option Change) → AreChangesAlike f files None a b → IfSome b (IsPlainChange (mapped_files f files)) → IfSome a (IsPlainChange files)
  plain-changes-back files None b alike plain = tt
  plain-changes-back files (Some c) None alike plain = absurd alike
  plain-changes-back files (Some c) (Some d) alike plain = plain-change-back files c d (bytes_seen files None (node_of c)) alike plain

  pub plain-back : (files : FilesNow) (o p : FileOutcome) → AreOutcomesAlike f files None o p → IsPlain (mapped_files f files) p → IsPlain files o
  plain-back files o p alike plain = record {
    change = plain-changes-back files o.change p.change alike.change plain.change;
    opened = plain-open-back f files o.opened p.opened alike.opened plain.opened;
  }

  -- ---- a call of a transaction

  plan-changes-back : (files : FilesNow) (id : Id) (a b : Option Change) → AreChangesAlike f files (Some id) a b
      → ((d : Change) → b ≡ Some d → applies (tree_seen (mapped_files f files) (Some id)) d ≡ true) → (c : Change) → a ≡ Some c → applies (tree_seen files (Some id)) c ≡ true
  plan-changes-back files id None b alike plan c some = absurd (none-some c some)
  plan-changes-back files id (Some e) None alike plan c some = absurd alike
  plan-changes-back files id (Some e) (Some d) alike plan c some = subst (λ x. applies (tree_seen files (Some id)) x ≡ true) (same_Some e c some)
      (sym (applies-alike f blank (tree_seen files (Some id)) (bytes_seen files (Some id) (node_of e)) e d alike)
      ∙ ap (λ tree. applies tree d) (sym (tree_seen-mapped f blank files (Some id)))
      ∙ plan d refl)

  pub plan-back : (files : FilesNow) (id : Id) (o p : FileOutcome) → AreOutcomesAlike f files (Some id) o p → IsPlanOf (mapped_files f files) id p → IsPlanOf files id o
  plan-back files id o p alike plan = record {
    change = plan-changes-back files id o.change p.change alike.change plan.change;
    first = λ file some. not-opened-back f files id file (plan.first file (sym alike.first ∙ some));
    opened = λ x some. next-open-back f files x (plan.opened x (sym alike.opened ∙ some));
    counted = counted-back (files_after files (Some id) o) (subst CanBeCounted (own-alike f blank files id o p alike) plan.counted);
  }

  -- ---- what is left of others

  pub own-apply-back : (files : FilesNow) (id : Id) → changes_apply (mapped_files f files).tree (own_changes (mapped_files f files).table.own id) ≡ true → changes_apply files.tree (own_changes files.table.own id) ≡ true
  own-apply-back files id apply =
      sym (ap (changes_apply (mapped_tree f files.tree)) (own_changes-mapped f files.table.own id) ∙ changes_apply-mapped f blank files.tree (own_changes files.table.own id)) ∙ apply

  -- a transaction of which all is left stays in place, where it has the changes that it had
  in-place-back : (files after : FilesNow) (id : Id) → own_changes after.table.own id ≡ own_changes files.table.own id → IsLeft (mapped_files f files) (mapped_files f after) id → IsInPlace files after id
  in-place-back files after id own left = record {
    own = own;
    applies = own-apply-back after id left.applies;
    holds = sym (holds_now-mapped f blank after id) ∙ left.holds ∙ holds_now-mapped f blank files id;
  }

  -- a plain call changes nothing that is a transaction's
  own-open : (table : FileTable) (o : Option OpenFile) → (with_open table o).own ≡ table.own
  own-open table None = refl
  own-open table (Some o) = refl

  own-plain : (files : FilesNow) (change : Option Change) → own_after files None change ≡ files.table.own
  own-plain files None = refl
  own-plain files (Some change) = refl

  pub own-left-back : (files : FilesNow) (o p : FileOutcome) → numbers_rise files.tree ≡ true → AreOutcomesAlike f files None o p → LeavesOwn (mapped_files f files) (files_after (mapped_files f files) None p)
      → LeavesOwnInPlace files (files_after files None o)
  own-left-back files o p rise alike left = All-by (λ (x : OwnChanges). IsInPlace files after x.transaction) files.table.own one
    where
      after : FilesNow
      after = files_after files None o

      same : after.table.own ≡ files.table.own
      same = own-open _ o.opened ∙ own-plain files o.change

      one : (x : OwnChanges) → IsIn x files.table.own → IsInPlace files after x.transaction
      one x there = in-place-back files after x.transaction (ap (λ own. own_changes own x.transaction) same)
          (subst (λ then'. IsLeft (mapped_files f files) then' x.transaction) (plain-alike f blank files o p rise alike)
          (All-in (λ (y : OwnChanges). IsLeft (mapped_files f files) (files_after (mapped_files f files) None p) y.transaction) (map (mapped_own f) files.table.own) left (mapped_own f x)
          (IsIn-mapped (mapped_own f) x files.table.own there)))

  pub others-left-back : (files : FilesNow) (id : Id) → LeavesOthers (mapped_files f files) id → LeavesOthersInPlace files id
  others-left-back files id left = All-by (λ (x : OwnChanges). same_id x.transaction id ≡ false → IsInPlace files after x.transaction) files.table.own one
    where
      after : FilesNow
      after = files_committed files id

      one : (x : OwnChanges) → IsIn x files.table.own → same_id x.transaction id ≡ false → IsInPlace files after x.transaction
      one x there other = in-place-back files after x.transaction (own_changes-left (λ o. not (same_id o.transaction id)) files.table.own x.transaction kept)
          (subst (λ then'. IsLeft (mapped_files f files) then' x.transaction) (files_committed-mapped f blank files id)
          (All-in (λ (y : OwnChanges). same_id y.transaction id ≡ false → IsLeft (mapped_files f files) (files_committed (mapped_files f files) id) y.transaction) (map (mapped_own f) files.table.own) left (mapped_own f x)
          (IsIn-mapped (mapped_own f) x files.table.own there) other))
        where
          kept : (o : OwnChanges) → same_id o.transaction x.transaction ≡ true → not (same_id o.transaction id) ≡ true
          kept o its = ap (λ i. not (same_id i id)) (same_id-equal o.transaction x.transaction its) ∙ not_from_false (same_id x.transaction id) other
