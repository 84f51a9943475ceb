-- The limits of a durable state, one by one.
use Rattle.std.proofs.Common.{◌≡◌, ◌≤◌, true, length, nat_le}
use Rattle.std.proofs.lemmas.Bool.{and_parts, and_from, le-leb, leb-true}
use Rattle.ktm_base.specs.declared.limits.TheConstants.{MOST_LIVE}
use Rattle.ktm_world.specs.Durable.{Durable, units_in_use, nodes_in_use, keys_in_use, changes_in_wait, enlistments_in_use, is_within_limits}

pub record KeepsLimits (s : Durable) : Type 0 where
  pub units : units_in_use s ≤ s.units
  pub nodes : nodes_in_use s ≤ s.units
  pub keys : keys_in_use s ≤ s.units
  pub changes : changes_in_wait s ≤ s.units
  pub transactions : length s.transactions ≤ MOST_LIVE
  pub enlistments : enlistments_in_use s ≤ MOST_LIVE
  pub managers : length s.managers ≤ MOST_LIVE

pub limits-kept : (s : Durable) → is_within_limits s ≡ true → KeepsLimits s
unfolding is_within_limits
limits-kept s within =
    let g = and_parts _ (nat_le (length s.managers) MOST_LIVE) within in
    let f = and_parts _ (nat_le (enlistments_in_use s) MOST_LIVE) g.0 in
    let e = and_parts _ (nat_le (length s.transactions) MOST_LIVE) f.0 in
    let d = and_parts _ (nat_le (changes_in_wait s) s.units) e.0 in
    let c = and_parts _ (nat_le (keys_in_use s) s.units) d.0 in
    let b = and_parts (nat_le (units_in_use s) s.units) (nat_le (nodes_in_use s) s.units) c.0 in
    record {
      units = leb-true _ _ b.0;
      nodes = leb-true _ _ b.1;
      keys = leb-true _ _ c.1;
      changes = leb-true _ _ d.1;
      transactions = leb-true _ _ e.1;
      enlistments = leb-true _ _ f.1;
      managers = leb-true _ _ g.1;
    }

pub limits-from : (s : Durable) → KeepsLimits s → is_within_limits s ≡ true
unfolding is_within_limits
limits-from s kept = and_from _ _ (and_from _ _ (and_from _ _ (and_from _ _ (and_from _ _ (and_from _ _ (le-leb _ _ kept.units) (le-leb _ _ kept.nodes)) (le-leb _ _ kept.keys)) (le-leb _ _ kept.changes))
    (le-leb _ _ kept.transactions)) (le-leb _ _ kept.enlistments)) (le-leb _ _ kept.managers)
