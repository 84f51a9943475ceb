-- A good durable state as what is so of each transaction, of each two, and of the rest.
use Rattle.std.proofs.Common.{ℕ, ◌≡◌, ◌-◌, ◌<◌, ◌≤◌, ◌^◌, not, Bool, true, false, List, length, nat_lt, nat_le, ap, inl, inr}
use Rattle.std.proofs.lemmas.Bool.{and_parts, and_from, not-true, not_from_false}
use Rattle.std.specs.List.{list_all, flat_map}
use Rattle.ktm_base.specs.declared.limits.TheConstants.{MOST_INFORMATION_BYTES}
use Rattle.ktm_base.specs.declared.id.Id.{Id}
use Rattle.ktm_world.specs.declared.recorded.Superior.{Superior}
use Rattle.ktm_world.specs.Changes.{changes_apply}
use Rattle.ktm_world.specs.Durable.{Durable, Recorded, is_decided, is_manager, is_new_in, is_before, changes_of, settings_of, enlistments_of, holds_in, is_within_limits, waiting}
use Rattle.ktm_keyed.specs.Keyed.{is_rising}
use Rattle.ktm_world.specs.Keys.{Store}
use Rattle.ktm_world.specs.Lawful.{are_apart, set_both}
use Rattle.ktm_world.specs.Transactions.{same_id}
use Rattle.ktm_world.specs.Tree.{Tree, IsWellFormed}
use Rattle.txf_laws.specs.Elements.{IsIn, each_pair}
use Rattle.txf_laws.specs.Footprint.{footprint, AreFootprintsApart}
use Rattle.txf_laws.specs.Contents.{is_made_below, puts_some, is_good_entry}
use Rattle.txf_laws.specs.GoodState.{is_drawn, enlisted, has_one_part_each, is_ready_well, is_held_well, is_decided_well, is_done_well, are_kept_changes, are_kept_settings, wait_apart, set_no_key_both, IsGoodState}
use Rattle.txf_laws.proofs.offered.Lists.{AreFootprintsApart-sym}
use Rattle.txf_laws.proofs.offered.Elements.{IsIn-filter, IsIn-kept, IsIn-flat_map, IsIn-unflat, list_all-at, list_all-from, each_pair-either, each_pair-from, each_pair-filter, each_pair-flat, each_pair-unflat, each_pair-of_two}
use Rattle.txf_laws.proofs.offered.Holds.{are_apart-from, are_apart-to}
use Rattle.txf_laws.proofs.offered.Settings.{set_both-sym}
use Rattle.txf_laws.proofs.offered.Tables.{is_earlier, before_other, same_id-sym, Table}

-- do two Ids differ
abbrev pub differ : Id → Id → Bool
differ a b = not (same_id a b)

-- an enlistment that a state may have
pub record IsEnlisted (s : Durable) (e : Superior) : Type 0 where
  pub drawn : is_drawn s e.enlistment ≡ true
  pub manager : is_manager s e.manager ≡ true
  pub information : nat_le (length e.information) MOST_INFORMATION_BYTES ≡ true

-- what is so of a transaction, but for a ready one's superior and parts
pub record Core (s : Durable) (t : Recorded) : Type 0 where
  pub drawn : is_drawn s t.id ≡ true
  pub enlistments : (e : Superior) → IsIn e (enlisted t) → IsEnlisted s e
  pub differ : each_pair differ (enlistments_of t) ≡ true
  pub parts : has_one_part_each t ≡ true
  pub held : is_held_well t ≡ true
  pub decided : is_decided_well t ≡ true
  pub done : list_all (is_done_well t) t.parts ≡ true
  pub changes : are_kept_changes t ≡ true
  pub apply : changes_apply s.tree (changes_of t) ≡ true
  pub made : list_all (is_made_below s.next_node) (changes_of t) ≡ true
  pub new : list_all (is_new_in s.tree) (changes_of t) ≡ true
  pub puts : list_all puts_some (changes_of t) ≡ true
  pub settings : are_kept_settings t ≡ true

-- what is so of a transaction
pub record Fitting (s : Durable) (t : Recorded) : Type 0 where
  pub core : Core s t
  pub ready : is_ready_well t ≡ true

-- what is so of two transactions
pub record Beside (s : Durable) (t u : Recorded) : Type 0 where
  pub enlistments : (a b : Id) → IsIn a (enlistments_of t) → IsIn b (enlistments_of u) → same_id a b ≡ false
  pub files : is_decided t.stage ≡ false → is_decided u.stage ≡ false → AreFootprintsApart (footprint s.tree (changes_of t)) (footprint s.tree (changes_of u))
  pub keys : is_decided t.stage ≡ false → is_decided u.stage ≡ false → set_both (settings_of t) (settings_of u) ≡ false

pub Beside-sym : (s : Durable) (t u : Recorded) → Beside s t u → Beside s u t
Beside-sym s t u sides = record {
  enlistments = λ a b there there'. same_id-sym b a (sides.enlistments b a there' there);
  files = λ waits waits'. AreFootprintsApart-sym (footprint s.tree (changes_of t)) (footprint s.tree (changes_of u)) (sides.files waits' waits);
  keys = λ waits waits'. set_both-sym (settings_of t) (settings_of u) (sides.keys waits' waits);
}

-- the numbers and limits of a state
pub record GoodCounts (s : Durable) : Type 0 where
  pub image_fits : s.image < 2 ^ 16
  pub limits : is_within_limits s ≡ true
  pub events_left : s.events < 2 ^ 63
  pub boots_left : s.boots < 2 ^ 32 - 1

-- its managers
pub record GoodManagers (s : Durable) : Type 0 where
  pub rise : each_pair is_before s.managers ≡ true
  pub drawn : list_all (is_drawn s) s.managers ≡ true

-- files, and the number that the next node takes
pub record GoodFiles (tree : Tree) (next : ℕ) : Type 0 where
  pub formed : IsWellFormed tree
  pub below : list_all (λ node. nat_lt node.number next) tree ≡ true
  pub from : 2 ≤ next
  pub to : next ≤ 2 ^ 63

-- keys
pub record GoodKeys (keys : Store) : Type 0 where
  pub rise : is_rising keys ≡ true
  pub good : list_all is_good_entry keys ≡ true

-- what is so of a state beside its transactions
pub record Rest (s : Durable) : Type 0 where
  pub counts : GoodCounts s
  pub managers : GoodManagers s
  pub files : GoodFiles s.tree s.next_node
  pub keys : GoodKeys s.keys

-- the transactions of a state, with what is so of them there
abbrev pub TableOf : Durable → List Recorded → Type 0
TableOf s ts = Table (Fitting s) (Beside s) ts

abbrev pub waits : Recorded → Bool
waits t = not (is_decided t.stage)

pub good-from : (s : Durable) → TableOf s s.transactions → Rest s → IsGoodState s
good-from s table rest = record {
  image_fits = rest.counts.image_fits;
  transactions_rise = table.rises;
  managers_rise = rest.managers.rise;
  enlistments_differ = each_pair-flat is_earlier differ enlistments_of s.transactions table.rises (λ t there. (table.fit t there).core.differ)
      (λ t u there there' earlier a b has has'. not_from_false _ ((table.beside t u there there' (before_other t.id u.id earlier)).enlistments a b has has'));
  transactions_drawn = list_all-from (λ t. is_drawn s t.id) s.transactions (λ t there. (table.fit t there).core.drawn);
  managers_drawn = rest.managers.drawn;
  enlistments_drawn = list_all-from (λ e. is_drawn s e.enlistment) (flat_map enlisted s.transactions) (λ e there. (enlistments e there).drawn);
  managers_there = list_all-from (λ e. is_manager s e.manager) (flat_map enlisted s.transactions) (λ e there. (enlistments e there).manager);
  information_fits = list_all-from (λ e. nat_le (length e.information) MOST_INFORMATION_BYTES) (flat_map enlisted s.transactions) (λ e there. (enlistments e there).information);
  parts = list_all-from has_one_part_each s.transactions (λ t there. (table.fit t there).core.parts);
  ready = list_all-from is_ready_well s.transactions (λ t there. (table.fit t there).ready);
  held = list_all-from is_held_well s.transactions (λ t there. (table.fit t there).core.held);
  decided = list_all-from is_decided_well s.transactions (λ t there. (table.fit t there).core.decided);
  done = list_all-from (λ t. list_all (is_done_well t) t.parts) s.transactions (λ t there. (table.fit t there).core.done);
  changes = list_all-from are_kept_changes s.transactions (λ t there. (table.fit t there).core.changes);
  apply = list_all-from (λ t. changes_apply s.tree (changes_of t)) s.transactions (λ t there. (table.fit t there).core.apply);
  made = list_all-from (λ t. list_all (is_made_below s.next_node) (changes_of t)) s.transactions (λ t there. (table.fit t there).core.made);
  new = list_all-from (λ t. list_all (is_new_in s.tree) (changes_of t)) s.transactions (λ t there. (table.fit t there).core.new);
  puts = list_all-from (λ t. list_all puts_some (changes_of t)) s.transactions (λ t there. (table.fit t there).core.puts);
  settings = list_all-from are_kept_settings s.transactions (λ t there. (table.fit t there).core.settings);
  apart = each_pair-from is_earlier (wait_apart s) (waiting s) (each_pair-filter is_earlier waits s.transactions table.rises) (λ t u there there' earlier.
      let both = pair t u there there' earlier in
      let apart = both.0.files both.1 both.2 in
      and_from _ _ (are_apart-from s.tree (changes_of t) (changes_of u) apart)
      (are_apart-from s.tree (changes_of u) (changes_of t) (AreFootprintsApart-sym (footprint s.tree (changes_of t)) (footprint s.tree (changes_of u)) apart)));
  keys_apart = each_pair-from is_earlier set_no_key_both (waiting s) (each_pair-filter is_earlier waits s.transactions table.rises) (λ t u there there' earlier.
      let both = pair t u there there' earlier in not_from_false _ (both.0.keys both.1 both.2));
  limits = rest.counts.limits;
  events_left = rest.counts.events_left;
  boots_left = rest.counts.boots_left;
  files = rest.files.formed;
  nodes_below = rest.files.below;
  next_from = rest.files.from;
  next_to = rest.files.to;
  keys_rise = rest.keys.rise;
  keys_good = rest.keys.good;
}
  where
    enlistments : (e : Superior) → IsIn e (flat_map enlisted s.transactions) → IsEnlisted s e
    enlistments e there = let of = IsIn-unflat enlisted s.transactions e there in (table.fit of.0 of.1).core.enlistments e of.2

    pair : (t u : Recorded) → IsIn t (waiting s) → IsIn u (waiting s) → is_earlier t u ≡ true → Beside s t u × (is_decided t.stage ≡ false) × (is_decided u.stage ≡ false)
    pair t u there there' earlier =
        let at = IsIn-filter waits s.transactions t there in
        let at' = IsIn-filter waits s.transactions u there' in
        (table.beside t u at.0 at'.0 (before_other t.id u.id earlier), not-true _ at.1, not-true _ at'.1)

pub table-of : (s : Durable) → IsGoodState s → TableOf s s.transactions
table-of s good = record {
  rises = good.transactions_rise;
  fit = λ t there. record {
    core = record {
      drawn = list_all-at (λ t. is_drawn s t.id) s.transactions good.transactions_drawn t there;
      enlistments = λ e has. let at = IsIn-flat_map enlisted s.transactions t e there has in record {
        drawn = list_all-at (λ e. is_drawn s e.enlistment) (flat_map enlisted s.transactions) good.enlistments_drawn e at;
        manager = list_all-at (λ e. is_manager s e.manager) (flat_map enlisted s.transactions) good.managers_there e at;
        information = list_all-at (λ e. nat_le (length e.information) MOST_INFORMATION_BYTES) (flat_map enlisted s.transactions) good.information_fits e at;
      };
      differ = each_pair-unflat differ enlistments_of s.transactions good.enlistments_differ t there;
      parts = list_all-at has_one_part_each s.transactions good.parts t there;
      held = list_all-at is_held_well s.transactions good.held t there;
      decided = list_all-at is_decided_well s.transactions good.decided t there;
      done = list_all-at (λ t. list_all (is_done_well t) t.parts) s.transactions good.done t there;
      changes = list_all-at are_kept_changes s.transactions good.changes t there;
      apply = list_all-at (λ t. changes_apply s.tree (changes_of t)) s.transactions good.apply t there;
      made = list_all-at (λ t. list_all (is_made_below s.next_node) (changes_of t)) s.transactions good.made t there;
      new = list_all-at (λ t. list_all (is_new_in s.tree) (changes_of t)) s.transactions good.new t there;
      puts = list_all-at (λ t. list_all puts_some (changes_of t)) s.transactions good.puts t there;
      settings = list_all-at are_kept_settings s.transactions good.settings t there;
    };
    ready = list_all-at is_ready_well s.transactions good.ready t there;
  };
  beside = λ t u there there' other. record {
    enlistments = λ a b has has'. elim (each_pair-of_two differ enlistments_of s.transactions good.enlistments_differ t u there there' a b has has') [
      | inl e ↦ absurd (other (ap (λ (r : Recorded). r.id) e))
      | inr (inl apart) ↦ not-true _ apart
      | inr (inr apart) ↦ same_id-sym b a (not-true _ apart)
    ];
    files = λ waits_t waits_u. elim (each_pair-either (wait_apart s) (waiting s) good.apart t u (IsIn-kept waits s.transactions t there (not_from_false _ waits_t)) (IsIn-kept waits s.transactions u there' (not_from_false _ waits_u))) [
      | inl e ↦ absurd (other (ap (λ (r : Recorded). r.id) e))
      | inr (inl apart) ↦
          let both = and_parts (are_apart (holds_in s t) (holds_in s u)) (are_apart (holds_in s u) (holds_in s t)) apart in
          are_apart-to s.tree (changes_of t) (changes_of u) both.0 both.1
      | inr (inr apart) ↦
          let both = and_parts (are_apart (holds_in s u) (holds_in s t)) (are_apart (holds_in s t) (holds_in s u)) apart in
          are_apart-to s.tree (changes_of t) (changes_of u) both.1 both.0
    ];
    keys = λ waits_t waits_u. elim (each_pair-either set_no_key_both (waiting s) good.keys_apart t u (IsIn-kept waits s.transactions t there (not_from_false _ waits_t)) (IsIn-kept waits s.transactions u there' (not_from_false _ waits_u))) [
      | inl e ↦ absurd (other (ap (λ (r : Recorded). r.id) e))
      | inr (inl apart) ↦ not-true _ apart
      | inr (inr apart) ↦ set_both-sym (settings_of u) (settings_of t) (not-true _ apart)
    ];
  };
}

pub rest-of : (s : Durable) → IsGoodState s → Rest s
rest-of s good = record {
  counts = record { image_fits = good.image_fits; limits = good.limits; events_left = good.events_left; boots_left = good.boots_left };
  managers = record { rise = good.managers_rise; drawn = good.managers_drawn };
  files = record { formed = good.files; below = good.nodes_below; from = good.next_from; to = good.next_to };
  keys = record { rise = good.keys_rise; good = good.keys_good };
}
