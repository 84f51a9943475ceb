-- The files in memory, where no transaction has changed or opened anything.
use Rattle.std.proofs.Common.{◌≡◌, ℕ, ◌<◌, ◌^◌, true, map, sum_by, [], ◌++◌, sym, ◌∙◌, ap, subst, arith, All}
use Rattle.std.proofs.lemmas.List.Elements.{All-nil}
use Rattle.std.specs.List.{list_any}
use Rattle.ktm_world.specs.Changes.{node_of}
use Rattle.ktm_world.specs.Files.{own_changes}
use Rattle.ktm_world.specs.Holds.{directories_of, dropped_directory, each_change, is_in, is_place_in, moved_directory, places_of}
use Rattle.ktm_world.specs.Transactions.{same_id}
use Rattle.ktm_world.specs.Tree.{IsWellFormed}
use Rattle.txf_reserve.specs.ReserveState.{Keeps, names_of, numbers_of}
use Rattle.txf_tree.specs.TreeState.{tree_of}
use Rattle.txf_volume.specs.Held.{FilesHeld, OwnHeld, files_of, names_held, own_held, tree_units}
use Rattle.txf_volume.specs.Ties.{AreTied, IsKeptOpen, IsOver, held_by_two, nodes_held, units_held}
use Rattle.txf_volume.specs.declared.counts.Counts.{Counts}
use Rattle.txf_laws.specs.Elements.{each_pair}

-- nothing is changed, opened or held
pub record IsAtRest (h : FilesHeld) : Type 0 where
  pub overlays : h.overlays ≡ []
  pub opens : h.versions.opens ≡ []
  pub nodes : h.reserve.nodes ≡ []
  pub places : h.reserve.places ≡ []
  pub uses : h.reserve.uses ≡ []
  pub dropped : h.reserve.dropped ≡ []
  pub moves : h.reserve.moves ≡ []

module _ (h : FilesHeld) (is : IsAtRest h) where
  keeps : Keeps h.reserve (files_of h)
  keeps id = record {
    nodes = λ n. (λ i. is_in (numbers_of (is.nodes i) id) n) ∙ sym (λ i. is_in (map node_of (own_changes (own_held (is.overlays i)) id) ++ []) n);
    places = λ p. (λ i. is_place_in (names_of (is.places i) id) p) ∙ sym (λ i. is_place_in (each_change places_of (tree_of h.tree) (own_changes (own_held (is.overlays i)) id)) p);
    uses = λ n. (λ i. is_in (numbers_of (is.uses i) id) n) ∙ sym (λ i. is_in (directories_of (each_change places_of (tree_of h.tree) (own_changes (own_held (is.overlays i)) id))) n);
    dropped = λ n. (λ i. is_in (numbers_of (is.dropped i) id) n) ∙ sym (λ i. is_in (each_change dropped_directory (tree_of h.tree) (own_changes (own_held (is.overlays i)) id)) n);
    moves = (λ i. list_any (λ j. same_id j id) (is.moves i)) ∙ sym (λ i. list_any (λ node. true) (each_change moved_directory (tree_of h.tree) (own_changes (own_held (is.overlays i)) id)));
  }

  -- nothing is counted
  none : (f : OwnHeld → ℕ) → sum_by f h.overlays ≡ 0
  none f = ap (sum_by f) is.overlays

  few : (f : OwnHeld → ℕ) → sum_by f h.overlays < 2 ^ 63
  few f = omega (arith, none f)

  pub tied : (units : ℕ) (counts : Counts) → IsWellFormed (tree_of h.tree) → units ≡ tree_units (tree_of h.tree) → counts ≡ record { units = 0; nodes = 0; names = 0 } → AreTied h units counts
  tied units counts formed sum zero = record {
    formed = formed;
    once = ap (each_pair held_by_two) is.overlays;
    over = subst (λ os. All (λ (o : OwnHeld). IsOver (tree_of h.tree) o.overlay) os) (sym is.overlays) (All-nil (λ (o : OwnHeld). IsOver (tree_of h.tree) o.overlay));
    opened = subst (λ os. All (IsKeptOpen h.tree h.versions.older) os) (sym is.opens) (All-nil (IsKeptOpen h.tree h.versions.older));
    keeps = keeps;
    sum = sum;
    counted = record {
      units = ap (λ (c : Counts). c.units) zero ∙ sym (none units_held);
      nodes = ap (λ (c : Counts). c.nodes) zero ∙ sym (none nodes_held);
      names = ap (λ (c : Counts). c.names) zero ∙ sym (none names_held);
    };
    few = record { units = few units_held; nodes = few nodes_held; names = few names_held };
    room = omega (arith, none names_held);
  }
