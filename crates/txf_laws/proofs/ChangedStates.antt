-- What is so of a state whose files and keys have changed, and of the transactions that wait there.
use Rattle.std.proofs.Common.{◌≡◌, ℕ, ◌<◌, ◌≤◌, ◌^◌, true, List, nat_le, subst, arith}
use Rattle.std.proofs.lemmas.Bool.{and_parts, and_from, le-leb, leb-true}
use Rattle.std.specs.List.{list_all}
use Rattle.ktm_base.specs.declared.id.Id.{Id}
use Rattle.ktm_world.specs.Changes.{applies, changes_apply}
use Rattle.ktm_world.specs.Durable.{Durable, Recorded, is_manager, is_new_in, changes_of, is_within_limits}
use Rattle.ktm_world.specs.Keys.{Store}
use Rattle.ktm_world.specs.Tree.{Tree}
use Rattle.txf_laws.specs.Footprint.{footprint, AreFootprintsApart}
use Rattle.txf_laws.specs.GoodState.{is_of_object, is_drawn}
use Rattle.txf_laws.proofs.offered.GoodTransactions.{Core, Fitting, Beside, GoodFiles, GoodKeys, Rest}
use Rattle.txf_laws.proofs.offered.NodeNumbers.{all_made_below-more}

-- ---- the rest of a state

pub limits-counted : (s : Durable) (events : ℕ) → is_within_limits s ≡ true → is_within_limits (record s { events = events }) ≡ true
unfolding is_within_limits
limits-counted s events within = within

-- files, keys and transactions have changed, and events were counted
abbrev pub with_all : Durable → Tree → Store → ℕ → List Recorded → ℕ → Durable
with_all s tree keys next ts events = record s { tree = tree; keys = keys; next_node = next; transactions = ts; events = events }

pub Rest-with : (s : Durable) (tree : Tree) (keys : Store) (next : ℕ) (ts : List Recorded) (events : ℕ) → Rest s → is_within_limits (with_all s tree keys next ts events) ≡ true → events < 2 ^ 63
    → GoodFiles tree next → GoodKeys keys → Rest (with_all s tree keys next ts events)
Rest-with s tree keys next ts events rest limits few files good = record {
  counts = record { image_fits = rest.counts.image_fits; limits = limits; events_left = few; boots_left = rest.counts.boots_left };
  managers = record { rise = rest.managers.rise; drawn = rest.managers.drawn };
  files = files;
  keys = good;
}

-- transactions alone have changed
pub Rest-transactions : (s : Durable) (ts : List Recorded) (events : ℕ) → Rest s → is_within_limits (with_all s s.tree s.keys s.next_node ts events) ≡ true → events < 2 ^ 63
    → Rest (with_all s s.tree s.keys s.next_node ts events)
Rest-transactions s ts events rest limits few = Rest-with s s.tree s.keys s.next_node ts events rest limits few rest.files rest.keys

-- ---- a transaction in another state

pub is_drawn-later : (s s' : Durable) (id : Id) → s.boots ≤ s'.boots → is_drawn s id ≡ true → is_drawn s' id ≡ true
is_drawn-later s s' id later drawn =
    let parts = and_parts (is_of_object id) (nat_le id.boot s.boots) drawn in and_from _ _ parts.0 (le-leb _ _ (omega (arith, leb-true _ _ parts.1)))

pub Core-carried : (s s' : Durable) (t : Recorded) → s.boots ≤ s'.boots → ((m : Id) → is_manager s m ≡ true → is_manager s' m ≡ true) → s.next_node ≤ s'.next_node
    → changes_apply s'.tree (changes_of t) ≡ true → list_all (is_new_in s'.tree) (changes_of t) ≡ true → Core s t → Core s' t
Core-carried s s' t later managers more applies new core = record {
  drawn = is_drawn-later s s' t.id later core.drawn;
  enlistments = λ e there. let is = core.enlistments e there in record {
    drawn = is_drawn-later s s' e.enlistment later is.drawn;
    manager = managers e.manager is.manager;
    information = is.information;
  };
  differ = core.differ;
  parts = core.parts;
  held = core.held;
  decided = core.decided;
  done = core.done;
  changes = core.changes;
  apply = applies;
  made = all_made_below-more s.next_node s'.next_node (changes_of t) more core.made;
  new = new;
  puts = core.puts;
  settings = core.settings;
}

pub Fitting-carried : (s s' : Durable) (t : Recorded) → s.boots ≡ s'.boots → ((m : Id) → is_manager s m ≡ true → is_manager s' m ≡ true) → s.next_node ≤ s'.next_node
    → changes_apply s'.tree (changes_of t) ≡ true → list_all (is_new_in s'.tree) (changes_of t) ≡ true → Fitting s t → Fitting s' t
Fitting-carried s s' t boots managers more applies new fits = record {
  core = Core-carried s s' t (omega (arith, boots)) managers more applies new fits.core;
  ready = fits.ready;
}

-- in a state with the same files
pub Beside-carried : (s s' : Durable) (t u : Recorded) → s.tree ≡ s'.tree → Beside s t u → Beside s' t u
Beside-carried s s' t u same sides = record {
  enlistments = sides.enlistments;
  files = λ waits waits'. subst (λ tree. AreFootprintsApart (footprint tree (changes_of t)) (footprint tree (changes_of u))) same (sides.files waits waits');
  keys = sides.keys;
}
