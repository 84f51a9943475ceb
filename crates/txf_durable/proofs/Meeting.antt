-- Changes that meet what others hold, one after another.
use Rattle.std.proofs.Common.{◌≡◌, ◌&&◌, ◌||◌, Bool, true, false, List, [], ◌∷◌, ◌++◌, append_assoc, Option, refl, sym, ◌∙◌, ap}
use Rattle.std.proofs.Math.Bool.{or-false}
use Rattle.std.proofs.lemmas.Bool.{and_parts}
use Rattle.std.proofs.lemmas.List.Folds.{list_any-append}
use Rattle.std.specs.List.{list_all, list_any}
use Rattle.ktm_base.specs.declared.id.Id.{Id}
use Rattle.ktm_world.specs.declared.change.Change.{Change}
use Rattle.ktm_world.specs.Changes.{applies, changed, changed_all, changes_apply, changes_bytes, is_make, node_of}
use Rattle.ktm_world.specs.Durable.{acts_of, acts_of_all}
use Rattle.ktm_world.specs.Holds.{Act, opens}
use Rattle.ktm_world.specs.Tree.{Tree}
use Rattle.txf_laws.proofs.offered.PlainChange.{no-make}
use Rattle.txf_reserve.specs.Checks.{is_number_held, meets_another}
use Rattle.txf_reserve.specs.ReserveState.{ReserveState}
use Rattle.txf_durable.specs.Waiting.{is_met}
use Rattle.txf_durable.proofs.Deeds.{bytes-act}

acts-append : (t : Tree) (cs ds : List Change) → acts_of_all t (cs ++ ds) ≡ acts_of_all t cs ++ acts_of_all (changed_all t cs) ds
acts-append t [] ds = refl
acts-append t (c ∷ cs) ds =
    ap (λ as'. acts_of t c ++ as') (acts-append (changed t c) cs ds) ∙ sym (append_assoc (acts_of t c) (acts_of_all (changed t c) cs) (acts_of_all (changed_all (changed t c) cs) ds))

regroup : (a b x y : Bool) → ((a || b) || (x || y)) ≡ ((a || x) || (b || y))
regroup true b x y = refl
regroup false true true y = refl
regroup false true false y = refl
regroup false false x y = refl

module _ (r : ReserveState) (who : Option Id) where
  abbrev meets : Act → Bool
  meets a = meets_another r [] who a

  abbrev makes : Change → Bool
  makes c = is_make c && is_number_held who r.nodes (node_of c)

  -- the first of them meet it, or those behind them
  met-append : (t : Tree) (cs ds : List Change) → is_met r who t (cs ++ ds) ≡ (is_met r who t cs || is_met r who (changed_all t cs) ds)
  unfolding is_met
  met-append t cs ds =
      ap (λ as'. list_any meets as' || list_any makes (cs ++ ds)) (acts-append t cs ds)
      ∙ (λ i. list_any-append meets (acts_of_all t cs) (acts_of_all (changed_all t cs) ds) i || list_any-append makes cs ds i)
      ∙ regroup (list_any meets (acts_of_all t cs)) (list_any meets (acts_of_all (changed_all t cs) ds)) (list_any makes cs) (list_any makes ds)

  -- one that does one thing
  met-one : (t : Tree) (c : Change) (a : Act) → acts_of t c ≡ a ∷ [] → (meets a || makes c) ≡ is_met r who t (c ∷ [])
  unfolding is_met
  met-one t c a does = sym (ap (λ as'. list_any meets (as' ++ []) || (makes c || false)) does ∙ (λ i. or-false (meets a) i || or-false (makes c) i))

  -- changes of bytes meet it where another holds one of the files
  met-bytes : (t : Tree) (bs : List Change) → changes_apply t bs ≡ true → list_all changes_bytes bs ≡ true → list_any (λ c. meets (opens (node_of c) true)) bs ≡ is_met r who t bs
  unfolding is_met
  met-bytes t [] apply all = refl
  met-bytes t (c ∷ cs) apply all =
      let these = and_parts (applies t c) (changes_apply (changed t c) cs) apply in
      let bytes = and_parts (changes_bytes c) (list_all changes_bytes cs) all in
      let one = met-one t c (opens (node_of c) true) (bytes-act t c bytes.0 these.0) in
      let none = ap (λ b. meets (opens (node_of c) true) || (b && is_number_held who r.nodes (node_of c))) (no-make c bytes.0) in
      (λ i. (sym (or-false (meets (opens (node_of c) true))) ∙ sym none ∙ one) i || met-bytes (changed t c) cs these.1 bytes.1 i)
      ∙ sym (met-append t (c ∷ []) cs)

  -- changes of names, and of bytes behind them, meet what is held where either do
  pub met-split : (t : Tree) (cs names bytes : List Change) → names ++ bytes ≡ cs → changes_apply (changed_all t names) bytes ≡ true → list_all changes_bytes bytes ≡ true
      → (is_met r who t names || list_any (λ c. meets (opens (node_of c) true)) bytes) ≡ is_met r who t cs
  met-split t cs names bytes whole apply all =
      ap (λ b. is_met r who t names || b) (met-bytes (changed_all t names) bytes apply all) ∙ sym (met-append t names bytes) ∙ ap (is_met r who t) whole
