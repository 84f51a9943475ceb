-- How much transactions changed, once one of them has changed more, or is gone.
use Rattle.std.proofs.Common.{◌≡◌, ℕ, ◌+◌, ◌≤◌, true, length, List, [], ◌∷◌, sum_by, Option, Some, None, refl, sym, ap, arith, inl, inr}
use Rattle.std.proofs.lemmas.Bool.{cases_Bool, and_parts, true≢false}
use Rattle.std.proofs.lemmas.List.Sums.{sum_by-append, sum_by-cons}
use Rattle.std.proofs.lemmas.Option.{none-some, same_Some}
use Rattle.std.specs.List.{flat_map, list_all}
use Rattle.ktm_base.specs.declared.id.Id.{Id}
use Rattle.ktm_world.specs.declared.change.Change.{Change}
use Rattle.ktm_world.specs.declared.change.Change.TheVariants.{Make, Put, Cut, Move, Drop}
use Rattle.ktm_world.specs.Changes.{changes_bytes, nodes_made}
use Rattle.ktm_world.specs.Transactions.{same_id}
use Rattle.txf_laws.specs.Elements.{each_pair}
use Rattle.txf_laws.proofs.offered.NormalForms.{AllBytes}
use Rattle.txf_overlay.specs.OverlayState.{OverlayState, final_of, own_of}
use Rattle.txf_overlay.specs.Written.{total_units}
use Rattle.txf_tree.specs.TreeState.{takes}
use Rattle.txf_volume.specs.Held.{OwnHeld, overlay_in, without_own}
use Rattle.txf_volume.specs.OwnParts.{counts_of, or_unchanged, unchanged, with_overlay}
use Rattle.txf_volume.specs.Ties.{AreCounts, held_by_two}
use Rattle.txf_volume.specs.declared.counts.Counts.{Counts}
use Rattle.txf_volume.proofs.OwnPlaces.{without-first}
use Rattle.txf_volume.proofs.Steady.{finals-bytes}

-- ---- sums over what transactions changed

module _ (f : OverlayState → ℕ) where
  abbrev all : List OwnHeld → ℕ
  all os = sum_by (λ o. f o.overlay) os

  -- what one changed is among all
  pub sum-in : (os : List OwnHeld) (id : Id) (o : OverlayState) → overlay_in os id ≡ Some o → f o ≤ all os
  sum-in [] id o there = absurd (none-some o there)
  sum-in (p ∷ ps) id o there =
      let sum = sum_by-cons (λ o. f o.overlay) p ps in
      elim (cases_Bool (same_id p.transaction id)) [
        | inl same ↦ let mine = ap f (same_Some p.overlay o (rw same at there)) in omega (arith, sum, mine)
        | inr other ↦ let rest = sum-in ps id o (rw other at there) in omega (arith, sum, rest)
      ]

  -- where nothing changed counts as nothing
  module _ (none : f unchanged ≡ 0) where
    pub sum-part : (os : List OwnHeld) (id : Id) → f (or_unchanged (overlay_in os id)) ≤ all os
    sum-part os id = go (overlay_in os id) refl
      where
        go : (now : Option OverlayState) → overlay_in os id ≡ now → f (or_unchanged now) ≤ all os
        go None is = omega (arith, none)
        go (Some o) is = sum-in os id o is

    -- one has changed more
    pub sum-with : (os : List OwnHeld) (id : Id) (o : OverlayState) → all (with_overlay os id o) + f (or_unchanged (overlay_in os id)) ≡ all os + f o
    sum-with [] id o = let one = sum_by-cons (λ (p : OwnHeld). f p.overlay) (record { transaction = id; overlay = o }) [] in omega (arith, none, one)
    sum-with (p ∷ ps) id o =
        let sum = sum_by-cons (λ (p : OwnHeld). f p.overlay) p ps in
        elim (cases_Bool (same_id p.transaction id)) [
          | inl same ↦ rw same (let one = sum_by-cons (λ (p : OwnHeld). f p.overlay) (record p { overlay = o }) ps in omega (arith, sum, one))
          | inr other ↦ rw other (let rest = sum-with ps id o in let one = sum_by-cons (λ (p : OwnHeld). f p.overlay) p (with_overlay ps id o) in omega (arith, sum, rest, one))
        ]

    -- one is gone
    pub sum-without : (os : List OwnHeld) (id : Id) → each_pair held_by_two os ≡ true → all (without_own os id) + f (or_unchanged (overlay_in os id)) ≡ all os
    sum-without [] id once = omega (arith, none)
    sum-without (p ∷ ps) id once =
        let sum = sum_by-cons (λ (p : OwnHeld). f p.overlay) p ps in
        elim (cases_Bool (same_id p.transaction id)) [
          | inl same ↦
              let gone = ap all (without-first p ps id once same) in
              let mine : f (or_unchanged (overlay_in (p ∷ ps) id)) ≡ f p.overlay = rw same refl in
              omega (arith, sum, gone, mine)
          | inr other ↦
              let rest = sum-without ps id (and_parts (list_all (held_by_two p) ps) (each_pair held_by_two ps) once).1 in
              let left = sum_by-cons (λ (p : OwnHeld). f p.overlay) p (without_own ps id) in
              rw other (omega (arith, sum, rest, left))
        ]

-- ---- what is counted

module _ (os : List OwnHeld) (id : Id) (counts : Counts) (counted : AreCounts os counts) (before : Counts) (before_is : before ≡ counts_of (or_unchanged (overlay_in os id))) where
  -- what one changed is counted among all
  pub units-part : before.units ≤ counts.units
  units-part = let one = sum-part (λ o. total_units o.written) refl os id in let is = ap (λ (c : Counts). c.units) before_is in omega (arith, one, is, counted.units)

  pub nodes-part : before.nodes ≤ counts.nodes
  nodes-part = let one = sum-part (λ o. nodes_made o.names) refl os id in let is = ap (λ (c : Counts). c.nodes) before_is in omega (arith, one, is, counted.nodes)

  pub names-part : before.names ≤ counts.names
  names-part = let one = sum-part (λ o. length o.names) refl os id in let is = ap (λ (c : Counts). c.names) before_is in omega (arith, one, is, counted.names)

  -- all of them, with what that one changed then
  module _ (left : Counts) (units : left.units + before.units ≡ counts.units) (nodes : left.nodes + before.nodes ≡ counts.nodes) (names : left.names + before.names ≡ counts.names) where
    pub counts-with : (o : OverlayState) (after : Counts) → after ≡ counts_of o → AreCounts (with_overlay os id o) (record { units = left.units + after.units; nodes = left.nodes + after.nodes; names = left.names + after.names })
    counts-with o after after_is = record {
      units =
          let one = sum-with (λ o. total_units o.written) refl os id o in
          let was = ap (λ (c : Counts). c.units) before_is in
          let is = ap (λ (c : Counts). c.units) after_is in
          omega (arith, one, was, is, units, counted.units);
      nodes =
          let one = sum-with (λ o. nodes_made o.names) refl os id o in
          let was = ap (λ (c : Counts). c.nodes) before_is in
          let is = ap (λ (c : Counts). c.nodes) after_is in
          omega (arith, one, was, is, nodes, counted.nodes);
      names =
          let one = sum-with (λ o. length o.names) refl os id o in
          let was = ap (λ (c : Counts). c.names) before_is in
          let is = ap (λ (c : Counts). c.names) after_is in
          omega (arith, one, was, is, names, counted.names);
    }

-- ---- what changes take of the tree

-- a change takes one at most
pub takes-one : (c : Change) → takes c ≤ 1
takes-one (Make node parent kind name) = omega arith
takes-one (Put node offset contents) = omega arith
takes-one (Cut node size pages) = omega arith
takes-one (Move node parent name) = omega arith
takes-one (Drop node) = omega arith

takes-names : (cs : List Change) → sum_by takes cs ≤ length cs
takes-names [] = omega arith
takes-names (c ∷ cs) = let rest = takes-names cs in let all = sum_by-cons takes c cs in let one = takes-one c in omega (arith, rest, all, one)

takes-bytes : (cs : List Change) → AllBytes cs → sum_by takes cs ≡ 0
takes-bytes [] bytes = refl
takes-bytes (c ∷ cs) bytes =
    let parts = and_parts (changes_bytes c) (list_all changes_bytes cs) bytes in
    let rest = takes-bytes cs parts.1 in
    let all = sum_by-cons takes c cs in
    let one = none c parts.0 in
    omega (arith, rest, all, one)
  where
    none : (c : Change) → changes_bytes c ≡ true → takes c ≡ 0
    none (Make node parent kind name) is = absurd (true≢false (sym is))
    none (Put node offset contents) is = refl
    none (Cut node size pages) is = refl
    none (Move node parent name) is = absurd (true≢false (sym is))
    none (Drop node) is = refl

-- a transaction takes at most one node for each change of names
pub takes-own : (o : OverlayState) → sum_by takes (own_of o) ≤ length o.names
takes-own o =
    let all = sum_by-append takes o.names (flat_map final_of o.written) in
    let names = takes-names o.names in
    let none = takes-bytes (flat_map final_of o.written) (finals-bytes o.written) in
    omega (arith, all, names, none)
