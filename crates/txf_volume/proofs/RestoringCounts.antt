-- How much of the files is in use while what a transaction changed is brought back.
use Rattle.std.proofs.Common.{◌≡◌, ℕ, ◌+◌, ◌<◌, ◌≤◌, ◌^◌, ◌==◌, ◌&&◌, not, Bool, true, false, cond, count_by, List, [], ◌∷◌, ◌++◌, Some, append_assoc, refl, sym, ◌∙◌, ap, subst, arith, inl, inr}
use Rattle.std.specs.Prelude.{sum_by}
use Rattle.std.specs.List.{list_any}
use Rattle.std.proofs.lemmas.Bool.{cases_Bool, eq-eqb, eqb-true, eqb-false, ne_eqb}
use Rattle.std.proofs.lemmas.List.{append-nil}
use Rattle.std.proofs.lemmas.List.Sums.{fold-append, sum_by-append, sum_by-cons}
use Rattle.ktm_base.specs.declared.id.Id.{Id}
use Rattle.ktm_world.specs.declared.change.Change.{Change}
use Rattle.ktm_world.specs.declared.change.Change.TheVariants.{Make, Put, Cut, Move, Drop}
use Rattle.ktm_world.specs.Changes.{bytes_in, changes_bytes, is_drop, is_make, node_of, nodes_made}
use Rattle.ktm_world.specs.Committed.{with_number, written_after, written_files}
use Rattle.ktm_world.specs.Durable.{are_recorded_changes}
use Rattle.ktm_world.specs.Files.{FilesNow, FirstOpen, OwnChanges, bytes_seen, bytes_with, first_bytes, is_last_version, own_changes}
use Rattle.ktm_world.specs.FileUses.{file_changes_waiting, nodes_used, older_versions, own_units, same_version, units_used}
use Rattle.ktm_world.specs.Holds.{is_in}
use Rattle.ktm_world.specs.Tree.{units_of}
use Rattle.txf_durable.specs.Putting.{final_form, put_bytes}
use Rattle.txf_durable.specs.Recorded.{are_names, units_put}
use Rattle.txf_durable.proofs.offered.FinalForms.{IsNextOf, names-put, names-with, put-with, recorded-next}
use Rattle.txf_laws.specs.Elements.{IsIn}
use Rattle.txf_laws.specs.FileEffects.{CanBeCounted}
use Rattle.txf_laws.proofs.offered.Elements.{list_any-from}
use Rattle.txf_laws.proofs.offered.NormalForms.{names_only, rising-written, written-final}
use Rattle.txf_laws.proofs.offered.Sums.{count-append, count-cons, one_where, sum-same}
use Rattle.txf_laws.proofs.offered.Tables.{same_id-sym}
use Rattle.txf_volume.specs.Restoring.{CanBeRestored, begun}
use Rattle.txf_volume.specs.Uses.{one_if}
use Rattle.txf_volume.proofs.NodesMade.{made-final, waiting-final}
use Rattle.txf_volume.proofs.OwnBytes.{sum-differs, sum-with_number}
use Rattle.txf_volume.proofs.OwnTables.{own_changes-other}
use Rattle.txf_volume.proofs.Restoring.{absent, begun-all, own-begun, there-bytes, with-first}

-- ---- units

-- the units of the bytes that a file is given
abbrev units_given : List Change → ℕ → ℕ
units_given done file = units_of (put_bytes done file)

-- the units of the bytes that all files are given
abbrev units_so_far : List Change → ℕ
units_so_far done = sum_by (units_given done) (written_files done)

-- a sum of nothing
sum-none : (g : ℕ → ℕ) (fs : List ℕ) → ((f : ℕ) → g f ≡ 0) → sum_by g fs ≡ 0
sum-none g [] none = refl
sum-none g (f ∷ fs) none = let all = sum_by-cons g f fs in let one = none f in let rest = sum-none g fs none in omega (arith, all, one, rest)

-- names give none
names-none : (done : List Change) → are_names done ≡ true → units_so_far done ≡ 0
names-none done are = sum-none (units_given done) (written_files done) (λ f. ap units_of (names-put done f [] are))

-- nor does one name more
name-step : (done : List Change) (c : Change) → are_names done ≡ true → changes_bytes c ≡ false → units_put c ≡ 0 → units_so_far (done ++ c ∷ []) ≡ units_so_far done + units_put c
name-step done c are name none = let before = names-none done are in let after = names-none (done ++ c ∷ []) (names-with done c are name) in omega (arith, before, after, none)

-- a change gives the units of the bytes that it puts
units-step : (done : List Change) (c : Change) → IsNextOf done c → units_so_far (done ++ c ∷ []) ≡ units_so_far done + units_put c
units-step done (Make node parent kind name) is = name-step done (Make node parent kind name) is refl refl
units-step done (Move node parent name) is = name-step done (Move node parent name) is refl refl
units-step done (Drop node) is = name-step done (Drop node) is refl refl
units-step done (Cut node size pages) is =
    let files = written_files done in
    let written : written_files (done ++ Cut node size pages ∷ []) ≡ with_number files node = fold-append written_after [] done (Cut node size pages ∷ []) in
    let given : (f : ℕ) → units_given (done ++ Cut node size pages ∷ []) f ≡ units_given done f =
    λ f. ap units_of (put-with done (Cut node size pages) f ∙ elim (cases_Bool (node == f)) [
      | inl same ↦ rw same (sym (ap (put_bytes done) (sym (eqb-true node f same)) ∙ is.1))
      | inr other ↦ rw other refl
    ]) in
    let same = ap (sum_by (units_given (done ++ Cut node size pages ∷ []))) written ∙ sum-same (units_given (done ++ Cut node size pages ∷ [])) (units_given done) (with_number files node) (λ f there. given f) in
    let more = sum-with_number (units_given done) files node (rising-written done [] tt) in
    let none = nothing (is_in files node) (units_given done node) (ap units_of is.1) in
    omega (arith, same, more, none)
  where
    nothing : (b : Bool) (n : ℕ) → n ≡ 0 → ◌≡◌ {A = ℕ} (cond b 0 n) 0
    nothing true n none = refl
    nothing false n none = none
units-step done (Put node offset contents) is =
    let files = written_files done in
    let rises = rising-written done [] tt in
    let c : Change = Put node offset contents in
    let written : written_files (done ++ c ∷ []) ≡ with_number files node = fold-append written_after [] done (c ∷ []) in
    let there : is_in files node ≡ true = list_any-from (λ m. m == node) files node is.2 (eq-eqb node node refl) in
    let others : (f : ℕ) → IsIn f files → (f == node) ≡ false → units_given (done ++ c ∷ []) f ≡ units_given done f =
    λ f has other. ap units_of (put-with done c f ∙ rw (ne_eqb node f (λ e. eqb-false f node other (sym e))) refl) in
    let more : sum_by (units_given (done ++ c ∷ [])) (with_number files node) ≡ sum_by (units_given (done ++ c ∷ [])) files + 0 = sum-with_number (units_given (done ++ c ∷ [])) files node rises ∙ rw there refl in
    let differs : sum_by (units_given (done ++ c ∷ [])) files + units_given done node ≡ sum_by (units_given done) files + units_given (done ++ c ∷ []) node =
    rw there at (sum-differs (units_given done) (units_given (done ++ c ∷ [])) files node rises others) in
    let all = ap (sum_by (units_given (done ++ c ∷ []))) written in
    let before : units_given done node ≡ 0 = ap units_of is.1 in
    let after : units_given (done ++ c ∷ []) node ≡ units_of (bytes_in contents) = ap units_of (put-with done c node ∙ rw (eq-eqb node node refl) refl) in
    omega (arith, all, more, differs, before, after)

-- with the others they are as many more as these put
units-all : (done rest : List Change) → are_recorded_changes (done ++ rest) ≡ true → units_so_far (done ++ rest) ≡ units_so_far done + sum_by units_put rest
units-all done [] recorded = let same = ap units_so_far (append-nil done) in omega (arith, same)
units-all done (c ∷ rest) recorded =
    let assoc : (done ++ c ∷ []) ++ rest ≡ done ++ c ∷ rest = append_assoc done (c ∷ []) rest in
    let later = units-all (done ++ c ∷ []) rest (ap are_recorded_changes assoc ∙ recorded) in
    let whole = ap units_so_far assoc in
    let one = units-step done c (recorded-next done c rest recorded).is in
    let sum = sum_by-cons units_put c rest in
    omega (arith, later, whole, one, sum)

-- ---- nodes and names

-- no more nodes are made and left than names are changed
made-few : (cs : List Change) → nodes_made cs ≤ count_by names_only cs
made-few [] = omega arith
made-few (c ∷ cs) =
    let rest = made-few cs in
    let all = count-cons names_only c cs in
    let one = of_one c (list_any (λ later. is_drop later && node_of later == node_of c) cs) in
    omega (arith, rest, all, one)
  where
    at_most : (b : Bool) → one_if b ≤ 1
    at_most true = omega arith
    at_most false = omega arith

    of_one : (c : Change) (dropped : Bool) → one_if (is_make c && not dropped) ≤ one_where names_only c
    of_one (Make node parent kind name) dropped = at_most (not dropped)
    of_one (Put node offset contents) dropped = omega arith
    of_one (Cut node size pages) dropped = omega arith
    of_one (Move node parent name) dropped = omega arith
    of_one (Drop node) dropped = omega arith

-- ---- what is in use

-- the older versions are the same over the same files
older-same : (files files' : FilesNow) → files'.tree ≡ files.tree → files'.versions ≡ files.versions → (os : List FirstOpen) → older_versions files' os ≡ older_versions files os
older-same files files' tree versions [] = refl
older-same files files' tree versions (o ∷ os) =
    let rest = older-same files files' tree versions os in
    let last : is_last_version files' o ≡ is_last_version files o = λ i. is_last_version (record files { tree = tree i; versions = versions i }) o in
    λ i. cond (not (last i) && not (list_any (same_version o) (rest i))) (o ∷ []) [] ++ rest i

module _ (files : FilesNow) (id : Id) (changes : List Change) (can : CanBeRestored files id changes) where
  -- each other transaction has the units that it had
  other-units : (done : List Change) (c : Change) (o : OwnChanges) → IsIn o files.table.own → own_units (begun files id (c ∷ done)) o ≡ own_units files o
  other-units done c o there =
      ap (λ own. sum_by (λ file. units_of (bytes_with files o.transaction own file)) (written_files o.changes))
      (ap (λ os. own_changes os o.transaction) (sym (with-first files.table.own id (final_form (c ∷ done)) (absent files id changes can)))
      ∙ own_changes-other files.table.own id o.transaction (final_form (c ∷ done)) (same_id-sym o.transaction id (absent files id changes can o there)))

  -- and this one those that its files are given
  this-units : (done : List Change) → own_units (begun files id done) (record { transaction = id; changes = final_form done }) ≡ units_so_far done
  this-units done =
      sum-same (λ f. units_of (bytes_seen (begun files id done) (Some id) f)) (units_given done) (written_files (final_form done)) (λ f there.
      ap (λ own. units_of (bytes_with (begun files id done) id own f)) (own-begun files id changes can done)
      ∙ ap units_of (there-bytes done f (first_bytes (begun files id done) id (final_form done) f) (subst (IsIn f) (written-final done (put_bytes done)) there)))
      ∙ ap (sum_by (units_given done)) (written-final done (put_bytes done))

  -- the units in use are as many more
  units-begun : (done : List Change) → units_used (begun files id done) ≡ units_used files + units_so_far done
  unfolding units_used
  units-begun [] = omega arith
  units-begun (c ∷ cs) =
      let files' = begun files id (c ∷ cs) in
      let o : OwnChanges = record { transaction = id; changes = final_form (c ∷ cs) } in
      let all = sum_by-append (own_units files') files.table.own (o ∷ []) in
      let last = sum_by-cons (own_units files') o [] in
      let others = sum-same (own_units files') (own_units files) files.table.own (other-units cs c) in
      let this = this-units (c ∷ cs) in
      let older = ap (sum_by (λ (f : FirstOpen). units_of f.bytes)) (older-same files files' refl refl files.first_opens) in
      omega (arith, all, last, others, this, older)

  -- so are the nodes
  nodes-begun : (done : List Change) → nodes_used (begun files id done) ≡ nodes_used files + nodes_made done
  unfolding nodes_used
  nodes-begun [] = omega arith
  nodes-begun (c ∷ cs) =
      let o : OwnChanges = record { transaction = id; changes = final_form (c ∷ cs) } in
      let made : OwnChanges → ℕ = λ p. nodes_made p.changes in
      let all = sum_by-append made files.table.own (o ∷ []) in
      let last = sum_by-cons made o [] in
      let this = made-final (c ∷ cs) (put_bytes (c ∷ cs)) in
      omega (arith, all, last, this)

  -- and the changes that wait
  names-begun : (done : List Change) → file_changes_waiting (begun files id done) ≡ file_changes_waiting files + count_by names_only done
  unfolding file_changes_waiting
  names-begun [] = omega arith
  names-begun (c ∷ cs) =
      let o : OwnChanges = record { transaction = id; changes = final_form (c ∷ cs) } in
      let names : OwnChanges → ℕ = λ p. count_by names_only p.changes in
      let all = sum_by-append names files.table.own (o ∷ []) in
      let last = sum_by-cons names o [] in
      let this = waiting-final (c ∷ cs) (put_bytes (c ∷ cs)) in
      omega (arith, all, last, this)

  -- what is in use can be counted, however many of the changes are the transaction's own
  pub counted-begun : (done rest : List Change) → done ++ rest ≡ changes → CanBeCounted (begun files id done)
  counted-begun done rest all =
      let can_all : CanBeCounted (begun files id changes) = subst CanBeCounted (sym (begun-all files id changes can)) can.counted in
      let room : nodes_used (begun files id changes) + file_changes_waiting (begun files id changes) < 2 ^ 63 = subst (λ f. nodes_used f + file_changes_waiting f < 2 ^ 63) (sym (begun-all files id changes can)) can.all_nodes in
      record {
        units =
            let now = units-begun done in
            let then' = units-begun changes in
            let more = units-all done rest (ap are_recorded_changes all ∙ can.recorded) in
            let whole = ap units_so_far all in
            let few = can_all.units in
            omega (arith, now, then', more, whole, few);
        nodes =
            let now = nodes-begun done in
            let then' = nodes-begun changes in
            let waiting = names-begun changes in
            let made = made-few done in
            let names = count-append names_only done rest in
            let whole = ap (count_by names_only) all in
            omega (arith, now, then', waiting, made, names, whole, room);
        names =
            let now = names-begun done in
            let then' = names-begun changes in
            let names = count-append names_only done rest in
            let whole = ap (count_by names_only) all in
            let few = can_all.names in
            omega (arith, now, then', names, whole, few);
      }
