-- What every durable state is that a log comes to.
use Rattle.std.specs.Prelude.{◌≡◌, ◌-◌, ◌≤◌, ◌^◌, ◌==◌, ◌<◌, ◌&&◌, ◌||◌, not, Bool, true, List, [], ◌∷◌, ◌++◌, length, count_by, nat_lt, nat_le, Option, Some, None, is_some, is_none}
use Rattle.std.specs.List.{list_any, list_all, flat_map}
use Rattle.ktm_base.specs.declared.limits.TheConstants.{MOST_NUMBER, MOST_INFORMATION_BYTES}
use Rattle.ktm_base.specs.declared.id.Id.{Id}
use Rattle.ktm_world.specs.declared.recorded.RecordedPart.{RecordedPart}
use Rattle.ktm_world.specs.declared.recorded.Superior.{Superior}
use Rattle.ktm_world.specs.declared.event.DonePart.{DonePart}
use Rattle.ktm_world.specs.declared.event.Part.{Part}
use Rattle.ktm_world.specs.declared.event.Part.TheVariants.{Enlistment}
use Rattle.ktm_world.specs.Changes.{changes_apply, has_changes}
use Rattle.ktm_world.specs.Durable.{Durable, Recorded, is_ready, is_held, is_decided, changes_of, settings_of, enlistments_of, is_before, holds_in, is_part_of, is_sole, is_manager, is_new_in, are_recorded_changes, has_changes_part, has_settings_part, has_part, waiting, is_within_limits}
use Rattle.ktm_keyed.specs.Keyed.{is_rising}
use Rattle.ktm_world.specs.Keys.{are_good_settings}
use Rattle.ktm_world.specs.Lawful.{are_apart, set_both}
use Rattle.ktm_world.specs.Transactions.{same_id}
use Rattle.ktm_world.specs.Tree.{IsWellFormed}
use Rattle.txf_laws.specs.Elements.{each_pair}
use Rattle.txf_laws.specs.Contents.{is_made_below, puts_some, is_good_entry}

-- ---- Ids

-- can the Id be that of an object: its boot and its number count from 1, and the number is in range
abbrev pub is_of_object : Id → Bool
is_of_object id = nat_le 1 id.boot && nat_le 1 id.number && nat_le id.number MOST_NUMBER

-- was the Id drawn in a boot that there was
abbrev pub is_drawn : Durable → Id → Bool
is_drawn s id = is_of_object id && nat_le id.boot s.boots

-- the enlistment of a part, with its resource manager and its recovery information
abbrev pub enlisted_in : Part → List Superior
enlisted_in (Enlistment enlistment manager information) = record { enlistment = enlistment; manager = manager; information = information } ∷ []
enlisted_in _ = []

-- the superior, if there is one
abbrev pub superiors_in : Option Superior → List Superior
superiors_in None = []
superiors_in (Some s) = s ∷ []

-- the enlistments of a transaction, the superior's first
abbrev pub enlisted : Recorded → List Superior
enlisted t = superiors_in t.superior ++ flat_map (λ p. enlisted_in p.part) t.parts

-- ---- stages

-- is at most one part the files', and at most one the keys'
abbrev pub has_one_part_each : Recorded → Bool
has_one_part_each t = nat_le (count_by (λ p. is_part_of DonePart.Files p.part) t.parts) 1 && nat_le (count_by (λ p. is_part_of DonePart.Keys p.part) t.parts) 1

-- a transaction that is ready has a part, and no superior
abbrev pub is_ready_well : Recorded → Bool
is_ready_well t = not (is_ready t.stage) || (has_part t && is_none t.superior)

-- a transaction that waits for its superior has one
abbrev pub is_held_well : Recorded → Bool
is_held_well t = not (is_held t.stage) || is_some t.superior

-- a decided transaction has a part that is not done
abbrev pub is_decided_well : Recorded → Bool
is_decided_well t = not (is_decided t.stage) || list_any (λ p. not p.is_done) t.parts

-- a part that is done is no enlistment's, and its transaction is decided
abbrev pub is_done_well : Recorded → RecordedPart → Bool
is_done_well t p = not p.is_done || (is_decided t.stage && is_sole p.part)

-- ---- changes and settings

-- a decided transaction has no changes left, and the changes of any other have the form in which they are recorded
abbrev pub are_kept_changes : Recorded → Bool
are_kept_changes t = (not (is_decided t.stage) || not (has_changes (changes_of t))) && (is_decided t.stage || not (has_changes_part t) || are_recorded_changes (changes_of t))

-- a decided transaction has no settings left, and the settings of any other may be recorded
abbrev pub are_kept_settings : Recorded → Bool
are_kept_settings t = (not (is_decided t.stage) || length (settings_of t) == 0) && (is_decided t.stage || not (has_settings_part t) || are_good_settings (settings_of t))

-- do two transactions hold nothing both, nor one of them what the other dropped
abbrev pub wait_apart : Durable → Recorded → Recorded → Bool
wait_apart s t u = are_apart (holds_in s t) (holds_in s u) && are_apart (holds_in s u) (holds_in s t)

-- do two transactions set no key both
abbrev pub set_no_key_both : Recorded → Recorded → Bool
set_no_key_both t u = not (set_both (settings_of t) (settings_of u))

-- ---- all of it

-- the durable state is good: what it names is there and stands once, each transaction is as its stage asks, what waits applies and is apart, and the limits hold
pub record IsGoodState (s : Durable) : Type 0 where
  -- the image has a number that an image can have
  pub image_fits : s.image < 2 ^ 16
  -- transactions stand by rising Id
  pub transactions_rise : each_pair (λ (t u : Recorded). is_before t.id u.id) s.transactions ≡ true
  -- resource managers stand by rising Id
  pub managers_rise : each_pair is_before s.managers ≡ true
  -- no enlistment stands twice
  pub enlistments_differ : each_pair (λ a b. not (same_id a b)) (flat_map enlistments_of s.transactions) ≡ true
  -- the Id of each transaction was drawn in a boot that there was
  pub transactions_drawn : list_all (λ t. is_drawn s t.id) s.transactions ≡ true
  -- the Id of each resource manager was drawn in a boot that there was
  pub managers_drawn : list_all (is_drawn s) s.managers ≡ true
  -- the Id of each enlistment was drawn in a boot that there was
  pub enlistments_drawn : list_all (λ e. is_drawn s e.enlistment) (flat_map enlisted s.transactions) ≡ true
  -- the resource manager of each enlistment is there
  pub managers_there : list_all (λ e. is_manager s e.manager) (flat_map enlisted s.transactions) ≡ true
  -- no recovery information is too long
  pub information_fits : list_all (λ e. nat_le (length e.information) MOST_INFORMATION_BYTES) (flat_map enlisted s.transactions) ≡ true
  -- a transaction has at most one part of the files, and one of the keys
  pub parts : list_all has_one_part_each s.transactions ≡ true
  -- a transaction that is ready has a part, and no superior
  pub ready : list_all is_ready_well s.transactions ≡ true
  -- a transaction that is held has a superior
  pub held : list_all is_held_well s.transactions ≡ true
  -- a decided transaction has a part that is not done
  pub decided : list_all is_decided_well s.transactions ≡ true
  -- what is done is a part of a decided transaction, and no enlistment
  pub done : list_all (λ t. list_all (is_done_well t) t.parts) s.transactions ≡ true
  -- changes that wait have the form in which they are recorded, and a decided transaction has none
  pub changes : list_all are_kept_changes s.transactions ≡ true
  -- changes that wait apply to the committed files
  pub apply : list_all (λ t. changes_apply s.tree (changes_of t)) s.transactions ≡ true
  -- the nodes that waiting changes make are below the next number
  pub made : list_all (λ t. list_all (is_made_below s.next_node) (changes_of t)) s.transactions ≡ true
  -- the tree has none of the nodes that waiting changes make
  pub new : list_all (λ t. list_all (is_new_in s.tree) (changes_of t)) s.transactions ≡ true
  -- the contents that waiting changes put are not empty
  pub puts : list_all (λ t. list_all puts_some (changes_of t)) s.transactions ≡ true
  -- settings that wait are good ones, and a decided transaction has none
  pub settings : list_all are_kept_settings s.transactions ≡ true
  -- no two transactions that wait hold the same of the files
  pub apart : each_pair (wait_apart s) (waiting s) ≡ true
  -- no two transactions that wait set the same key
  pub keys_apart : each_pair set_no_key_both (waiting s) ≡ true
  -- the limits hold
  pub limits : is_within_limits s ≡ true
  -- the count of events has not come to its end
  pub events_left : s.events < 2 ^ 63
  -- the count of boots has not come to its end
  pub boots_left : s.boots < 2 ^ 32 - 1
  -- the committed files are well formed
  pub files : IsWellFormed s.tree
  -- the numbers of the committed files are below the next one
  pub nodes_below : list_all (λ node. nat_lt node.number s.next_node) s.tree ≡ true
  -- node numbers begin behind the root's
  pub next_from : 2 ≤ s.next_node
  -- node numbers have not come to their end
  pub next_to : s.next_node ≤ 2 ^ 63
  -- the committed keys rise
  pub keys_rise : is_rising s.keys ≡ true
  -- the committed keys are within the limits, with their values
  pub keys_good : list_all is_good_entry s.keys ≡ true
