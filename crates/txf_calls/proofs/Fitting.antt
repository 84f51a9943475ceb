-- What calls come to can be told by what is counted.
use Rattle.std.proofs.Common.{◌≡◌, ◌∙◌, ℕ, true, false, List, [], ◌∷◌, is_some, Option, Some, None, refl, sym, ap, subst, inl, inr}
use Rattle.std.proofs.lemmas.Bool.{cases_Bool, both_ways}
use Rattle.ktm_base.specs.declared.id.Id.{Id}
use Rattle.ktm_world.specs.declared.change.Change.{Change}
use Rattle.ktm_world.specs.declared.change.Change.TheVariants.{Put, Cut}
use Rattle.ktm_world.specs.declared.change.Contents.TheVariants.{Whole}
use Rattle.ktm_world.specs.declared.options.Disposition.{Disposition}
use Rattle.ktm_world.specs.Changes.{changes_bytes, has_made, is_drop, is_make, node_of}
use Rattle.ktm_world.specs.Conflicts.{writes}
use Rattle.ktm_world.specs.FileCalls.{emptying, empties, first_opening, set_end, write_file}
use Rattle.ktm_world.specs.FileOutcome.{FileOutcome}
use Rattle.ktm_world.specs.Files.{FilesNow, OpenFile, first_open_of, own_changes, tree_seen}
use Rattle.ktm_world.specs.Tree.{is_file, numbers_rise}
use Rattle.txf_calls.specs.Fits.{FitsChange, IsFit, IsOnFile, opens_file}
use Rattle.txf_calls.specs.Found.{has_file}
use Rattle.txf_calls.proofs.Numbered.{had-before, only-file}

module _ (files : FilesNow) where
  fit : (who : Option Id) (o : FileOutcome) (change : Option Change) (first : Option ℕ) → o.change ≡ change → o.first ≡ first → FitsChange files who change → opens_file files.tree first ≡ true → IsFit files who o
  fit who o change first changes opens fits committed = record { change = subst (FitsChange files who) (sym changes) fits; first = ap (opens_file files.tree) opens ∙ committed }

  -- ---- a node is made

  -- ---- bytes are put or cut

  bytes-fit : (who : Option Id) (change : Change) → changes_bytes change ≡ true → is_make change ≡ false → is_drop change ≡ false → (who ≡ None → is_file files.tree (node_of change) ≡ true) → FitsChange files who (Some change)
  bytes-fit None change bytes no-make no-drop file = record { fits = λ is. absurd (both_ways (is_make change) no-make is); fresh = λ is. absurd (both_ways (is_make change) no-make is); file = λ is. file refl }
  bytes-fit (Some id) change bytes no-make no-drop file = no-drop

  pub fit-write : (o : OpenFile) (offset : ℕ) (bytes : List ℕ) → writes o.access ≡ true → IsOnFile files o → IsFit files o.transaction (write_file o offset bytes)
  unfolding write_file
  fit-write o offset [] may on = record { change = tt; first = refl }
  fit-write o offset (b ∷ bs) may on = record { change = bytes-fit o.transaction (Put o.node offset (Whole (b ∷ bs))) refl refl refl (λ plain. on plain may); first = refl }

  pub fit-set_end : (o : OpenFile) (size : ℕ) → writes o.access ≡ true → IsOnFile files o → IsFit files o.transaction (set_end o size)
  unfolding set_end
  fit-set_end o size may on = record { change = bytes-fit o.transaction (Cut o.node size []) refl refl refl (λ plain. on plain may); first = refl }

  -- ---- a file is opened

  module _ (rise : numbers_rise files.tree ≡ true) (file : ℕ) where
    emptying-fits : (who : Option Id) (disposition : Disposition) → has_file (tree_seen files who) file ≡ true → FitsChange files who (emptying disposition file)
    emptying-fits who disposition seen = elim (cases_Bool (empties disposition)) [
      | inl is ↦ rw is (bytes-fit who (Cut file 0 []) refl refl refl (λ plain. only-file files.tree file rise (subst (λ w. has_file (tree_seen files w) file ≡ true) plain seen)))
      | inr not' ↦ rw not' tt
    ]

    -- what a transaction did not make is committed
    first-committed : (who : Option Id) → has_file (tree_seen files who) file ≡ true → opens_file files.tree (first_opening files who file) ≡ true
    first-committed None seen = refl
    first-committed (Some id) seen = elim (cases_Bool (has_made (own_changes files.table.own id) file)) [
      | inl made ↦ rw made refl
      | inr other ↦ rw other (elim (cases_Bool (is_some (first_open_of files.first_opens id file))) [
        | inl opened ↦ rw opened refl
        | inr new ↦ rw new (only-file files.tree file rise (had-before (own_changes files.table.own id) files.tree file other seen))
      ])
    ]

    pub fit-open : (who : Option Id) (o : FileOutcome) (disposition : Disposition) → has_file (tree_seen files who) file ≡ true → o.change ≡ emptying disposition file → o.first ≡ first_opening files who file → IsFit files who o
    fit-open who o disposition seen changes opens = fit who o (emptying disposition file) (first_opening files who file) changes opens (emptying-fits who disposition seen) (first-committed who seen)
