-- When events with other bytes apply.
use Rattle.std.proofs.Common.{◌≡◌, ℕ, ◌+◌, ◌^◌, ◌==◌, ◌&&◌, ◌||◌, not, Bool, true, false, List, [], ◌∷◌, ◌++◌, map, length, sum_by, count_by, Option, Some, None, is_some, is_none, nat_lt, nat_le, refl, ◌∙◌, ap}
use Rattle.std.specs.List.{list_any, list_all, flat_map}
use Rattle.std.proofs.lemmas.List.{length-map, map-append}
use Rattle.ktm_base.specs.declared.limits.TheConstants.{MOST_LIVE, MOST_INFORMATION_BYTES}
use Rattle.ktm_base.specs.declared.id.Id.{Id}
use Rattle.ktm_world.specs.declared.change.Change.{Change}
use Rattle.ktm_world.specs.declared.event.DonePart.{DonePart}
use Rattle.ktm_world.specs.declared.event.Event.{Event}
use Rattle.ktm_world.specs.declared.event.Event.TheVariants.{Boot, MadeRm, Plain, Ready, Single, Held, Decide, Undo, Done}
use Rattle.ktm_world.specs.declared.event.Part.{Part}
use Rattle.ktm_world.specs.declared.event.Part.TheVariants.{Enlistment, Changes, Settings}
use Rattle.ktm_keyed.specs.Keyed.{value_at}
use Rattle.ktm_world.specs.Changes.{changed_all, is_make, node_of, has_made, changes_bytes, nodes_made}
use Rattle.ktm_world.specs.Committed.{written_files}
use Rattle.ktm_world.specs.Durable.{Durable, Recorded, is_ready, is_held, is_decided, changes_of, settings_of, enlistments_of, recorded_at, recorded_or_new, is_part_of, fact_of, after_event, after_events, acts_of_all, holds_in, others_waiting, is_new_in, recorded_changes_apply, settings_apply, is_manager, is_new_enlistment, has_changes_part, has_settings_part, part_applies, is_sole, stage_passes, has_part, may_get_ready, has_undone, fact_applies, waiting, units_waiting, units_in_use, nodes_in_use, keys_in_use, changes_in_wait, enlistments_in_use, is_within_limits, event_applies, events_apply, log_applies}
use Rattle.ktm_world.specs.Holds.{holds_by, meets}
use Rattle.ktm_world.specs.Keys.{OwnSettings, are_good_settings}
use Rattle.ktm_world.specs.Logs.{Group}
use Rattle.ktm_world.specs.Transactions.{same_id}
use Rattle.ktm_world.specs.Tree.{bytes_or_none, units_of, bytes_of}
use Rattle.ktm_world.specs.World.{done_if, own_events, own_group}
use Rattle.txf_laws.specs.Contents.{puts_some}
use Rattle.txf_laws.specs.GoodState.{is_of_object}
use Rattle.txf_laws.specs.Grammatical.{ids_in, ids_of, changes_of_event, is_grammatical}
use Rattle.ktm_mapped.specs.Mapped.{IsBlank, mapped_node, mapped_tree, mapped_change, mapped_part, mapped_event, mapped_group, mapped_log, mapped_recorded_part, mapped_recorded, mapped_durable}
use Rattle.ktm_mapped.proofs.offered.Lists.{is_some-mapped, list_any-mapped, list_all-mapped, filter-mapped, count_by-mapped, sum_by-mapped, flat_map-same}
use Rattle.ktm_mapped.proofs.offered.Trees.{units-content, units-there, changed_all-mapped, changes_apply-mapped}
use Rattle.ktm_mapped.proofs.offered.Holds.{node_of-mapped, is_make-mapped, changes_bytes-mapped, puts_some-mapped, is_new_in-mapped, has_made-mapped, nodes_made-mapped, written_files-mapped, are_recorded_changes-mapped, acts_of_all-mapped, holds_by-mapped}
use Rattle.ktm_mapped.proofs.offered.Events.{changes_in-mapped, is_part_of-mapped, changes_of-mapped, settings_of-mapped, enlistments_of-mapped, recorded_at-mapped, recorded_or_new-mapped, fact_of-mapped, after_event-mapped, after_events-mapped}

module _ (f : ℕ → ℕ) where
  -- ---- parts and transactions

  pub is_sole-mapped : (part : Part) → is_sole (mapped_part f part) ≡ is_sole part
  is_sole-mapped (Changes changes) = refl
  is_sole-mapped _ = refl

  pub has_part-mapped : (t : Recorded) → has_part (mapped_recorded f t) ≡ has_part t
  has_part-mapped t = list_any-mapped (λ p. true) (λ p. true) (mapped_recorded_part f) (λ p. refl) t.parts

  -- has the transaction the part of a participant
  has_part_of-mapped : (done : DonePart) (t : Recorded) → list_any (λ p. is_part_of done p.part) (mapped_recorded f t).parts ≡ list_any (λ p. is_part_of done p.part) t.parts
  has_part_of-mapped done t = list_any-mapped _ _ (mapped_recorded_part f) (λ p. is_part_of-mapped f done p.part) t.parts

  pub has_changes_part-mapped : (t : Recorded) → has_changes_part (mapped_recorded f t) ≡ has_changes_part t
  has_changes_part-mapped t = has_part_of-mapped DonePart.Files t

  pub has_settings_part-mapped : (t : Recorded) → has_settings_part (mapped_recorded f t) ≡ has_settings_part t
  has_settings_part-mapped t = has_part_of-mapped DonePart.Keys t

  has_undone-mapped : (done : DonePart) (t : Recorded) → has_undone done (mapped_recorded f t) ≡ has_undone done t
  has_undone-mapped done t = λ i.
      is_decided t.stage
      && list_any-mapped (λ p. is_part_of done p.part && not p.is_done) (λ p. is_part_of done p.part && not p.is_done) (mapped_recorded_part f) (λ p i. is_part_of-mapped f done p.part i && not p.is_done) t.parts i

  stage_passes-mapped : (s : Durable) (id : Id) (test : Recorded → Bool) → ((t : Recorded) → test (mapped_recorded f t) ≡ test t) → stage_passes (mapped_durable f s) id test ≡ stage_passes s id test
  stage_passes-mapped s id test same = list_any-mapped _ _ (mapped_recorded f) (λ t i. same_id t.id id && same t i) s.transactions

  pub waiting-mapped : (s : Durable) → waiting (mapped_durable f s) ≡ map (mapped_recorded f) (waiting s)
  waiting-mapped s = filter-mapped _ _ (mapped_recorded f) (λ t. refl) s.transactions

  others_waiting-mapped : (s : Durable) (who : Option Id) → others_waiting (mapped_durable f s) who ≡ map (mapped_recorded f) (others_waiting s who)
  others_waiting-mapped s None = waiting-mapped s
  others_waiting-mapped s (Some id) =
      filter-mapped _ _ (mapped_recorded f) (λ t. refl) s.transactions

  -- ---- settings and enlistments

  settings_apply-mapped : (s : Durable) (who : Option Id) (settings : OwnSettings) → settings_apply (mapped_durable f s) who settings ≡ settings_apply s who settings
  settings_apply-mapped s who settings = ap (list_all free) (others_waiting-mapped s who)
      ∙ list_all-mapped _ _ (mapped_recorded f) (λ t i. not (list_any (λ setting. is_some (value_at (settings_of-mapped f t i) setting.key)) settings)) (others_waiting s who)
    where
      free : Recorded → Bool
      free t = not (list_any (λ setting. is_some (value_at (settings_of t) setting.key)) settings)

  is_new_enlistment-mapped : (s : Durable) (enlistment manager : Id) (information : List ℕ) → is_new_enlistment (mapped_durable f s) enlistment manager information ≡ is_new_enlistment s enlistment manager information
  is_new_enlistment-mapped s enlistment manager information = λ i.
      enlistment.boot == s.boots && not (list_any-mapped has has (mapped_recorded f) (λ t i. list_any (λ other. same_id other enlistment) (enlistments_of-mapped f t i)) s.transactions i)
      && is_manager s manager && nat_le (length information) MOST_INFORMATION_BYTES
    where
      has : Recorded → Bool
      has t = list_any (λ other. same_id other enlistment) (enlistments_of t)

  may_get_ready-mapped : (s : Durable) (id : Id) → may_get_ready (mapped_durable f s) id ≡ may_get_ready s id
  may_get_ready-mapped s id = ap (λ (t : Recorded). id.boot == s.boots && is_ready t.stage) (recorded_or_new-mapped f s.transactions id)

  -- ---- the grammar

  ids_in-mapped : (part : Part) → ids_in (mapped_part f part) ≡ ids_in part
  ids_in-mapped (Changes changes) = refl
  ids_in-mapped _ = refl

  ids_of-mapped : (event : Event) → ids_of (mapped_event f event) ≡ ids_of event
  ids_of-mapped (Ready transaction part) = λ i. transaction ∷ ids_in-mapped part i
  ids_of-mapped (Single transaction part) = λ i. transaction ∷ ids_in-mapped part i
  ids_of-mapped _ = refl

  changes_of_event-mapped : (event : Event) → changes_of_event (mapped_event f event) ≡ map (mapped_change f) (changes_of_event event)
  changes_of_event-mapped (Ready transaction part) = changes_in-mapped f part
  changes_of_event-mapped (Single transaction part) = changes_in-mapped f part
  changes_of_event-mapped _ = refl

  is_grammatical-mapped : (event : Event) → is_grammatical (mapped_event f event) ≡ is_grammatical event
  is_grammatical-mapped event = λ i.
      list_all is_of_object (ids_of-mapped event i)
      && (ap (list_all puts_some) (changes_of_event-mapped event) ∙ list_all-mapped _ _ (mapped_change f) (puts_some-mapped f) (changes_of_event event)) i

  pub are_grammatical-mapped : (events : Group) → list_all is_grammatical (mapped_group f events) ≡ list_all is_grammatical events
  are_grammatical-mapped events = list_all-mapped _ _ (mapped_event f) is_grammatical-mapped events

  -- ---- what a restart records

  own_events-mapped : (t : Recorded) → own_events (mapped_recorded f t) ≡ own_events t
  own_events-mapped t = λ i. done_if (has_undone-mapped DonePart.Files t i) t.id DonePart.Files ++ done_if (has_undone-mapped DonePart.Keys t i) t.id DonePart.Keys

  pub own_group-mapped : (s : Durable) → own_group (mapped_durable f s) ≡ own_group s
  own_group-mapped s = λ i. Boot (s.boots + 1) ∷ flat_map-same own_events own_events (mapped_recorded f) own_events-mapped s.transactions i

  done_if-kept : (is : Bool) (id : Id) (done : DonePart) → mapped_group f (done_if is id done) ≡ done_if is id done
  done_if-kept true id done = refl
  done_if-kept false id done = refl

  own_events-kept : (ts : List Recorded) → mapped_group f (flat_map own_events ts) ≡ flat_map own_events ts
  own_events-kept [] = refl
  own_events-kept (t ∷ ts) =
      map-append (mapped_event f) (own_events t) (flat_map own_events ts)
      ∙ (λ i. map-append (mapped_event f) (done_if (has_undone DonePart.Files t) t.id DonePart.Files) (done_if (has_undone DonePart.Keys t) t.id DonePart.Keys) i ++ own_events-kept ts i)
      ∙ (λ i. done_if-kept (has_undone DonePart.Files t) t.id DonePart.Files i ++ done_if-kept (has_undone DonePart.Keys t) t.id DonePart.Keys i ++ flat_map own_events ts)

  pub own_group-kept : (s : Durable) → mapped_group f (own_group s) ≡ own_group s
  own_group-kept s = λ i. Boot (s.boots + 1) ∷ own_events-kept s.transactions i

-- what changes ask of one that waits: they meet nothing that it holds, and make no node that it makes
abbrev spares : Durable → List Change → Recorded → Bool
spares s changes t = not (list_any (meets (holds_in s t)) (acts_of_all s.tree changes)) && not (list_any (λ change. is_make change && has_made (changes_of t) (node_of change)) changes)

module _ (f : ℕ → ℕ) (blank : IsBlank f) where
  -- ---- changes

  pub holds_in-mapped : (s : Durable) (t : Recorded) → holds_in (mapped_durable f s) (mapped_recorded f t) ≡ holds_in s t
  holds_in-mapped s t = ap (λ cs. holds_by (mapped_tree f s.tree) cs []) (changes_of-mapped f t) ∙ holds_by-mapped f blank s.tree (changes_of t) []

  spares-mapped : (s : Durable) (cs : List Change) (t : Recorded) → spares (mapped_durable f s) (map (mapped_change f) cs) (mapped_recorded f t) ≡ spares s cs t
  spares-mapped s cs t = λ i. not (list_any (meets (holds_in-mapped s t i)) (acts_of_all-mapped f blank s.tree cs i)) && not (makes-mapped i)
    where
      makes-mapped : list_any (λ c. is_make c && has_made (changes_of (mapped_recorded f t)) (node_of c)) (map (mapped_change f) cs) ≡ list_any (λ c. is_make c && has_made (changes_of t) (node_of c)) cs
      makes-mapped = list_any-mapped (λ c. is_make c && has_made (changes_of (mapped_recorded f t)) (node_of c)) (λ c. is_make c && has_made (changes_of t) (node_of c)) (mapped_change f)
          (λ c i. is_make-mapped f c i && ((λ j. has_made (changes_of-mapped f t j) (node_of-mapped f c j)) ∙ has_made-mapped f (changes_of t) (node_of c)) i) cs

  recorded_changes_apply-mapped : (s : Durable) (who : Option Id) (cs : List Change) → recorded_changes_apply (mapped_durable f s) who (map (mapped_change f) cs) ≡ recorded_changes_apply s who cs
  recorded_changes_apply-mapped s who cs = λ i.
      (ap (list_all (spares (mapped_durable f s) (map (mapped_change f) cs))) (others_waiting-mapped f s who)
      ∙ list_all-mapped (spares (mapped_durable f s) (map (mapped_change f) cs)) (spares s cs) (mapped_recorded f) (spares-mapped s cs) (others_waiting s who)) i
      && changes_apply-mapped f blank s.tree cs i
      && list_all-mapped (is_new_in (mapped_tree f s.tree)) (is_new_in s.tree) (mapped_change f) (is_new_in-mapped f s.tree) cs i

  -- ---- events

  part_applies-mapped : (s : Durable) (id : Id) (part : Part) → part_applies (mapped_durable f s) id (mapped_part f part) ≡ part_applies s id part
  part_applies-mapped s id (Enlistment enlistment manager information) = is_new_enlistment-mapped f s enlistment manager information
  part_applies-mapped s id (Changes changes) = λ i.
      not ((ap has_changes_part (recorded_or_new-mapped f s.transactions id) ∙ has_changes_part-mapped f (recorded_or_new s.transactions id)) i)
      && are_recorded_changes-mapped f changes i && recorded_changes_apply-mapped s (Some id) changes i
  part_applies-mapped s id (Settings settings) = λ i.
      not ((ap has_settings_part (recorded_or_new-mapped f s.transactions id) ∙ has_settings_part-mapped f (recorded_or_new s.transactions id)) i)
      && are_good_settings settings && settings_apply-mapped f s (Some id) settings i

  fact_applies-mapped : (s : Durable) (event : Event) → fact_applies (mapped_durable f s) (mapped_event f event) ≡ fact_applies s event
  fact_applies-mapped s (Boot boot) = refl
  fact_applies-mapped s (MadeRm manager) = refl
  fact_applies-mapped s (Plain change) = recorded_changes_apply-mapped s None (change ∷ [])
  fact_applies-mapped s (Ready transaction part) = λ i. may_get_ready-mapped f s transaction i && part_applies-mapped s transaction part i
  fact_applies-mapped s (Single transaction part) = λ i.
      transaction.boot == s.boots && not ((ap is_some (recorded_at-mapped f s.transactions transaction) ∙ is_some-mapped (mapped_recorded f) (recorded_at s.transactions transaction)) i)
      && is_sole-mapped f part i && part_applies-mapped s transaction part i
  fact_applies-mapped s (Held transaction enlistment manager information) = λ i. may_get_ready-mapped f s transaction i && is_new_enlistment-mapped f s enlistment manager information i
  fact_applies-mapped s (Decide transaction) =
      stage_passes-mapped f s transaction (λ t. is_held t.stage || (is_ready t.stage && has_part t)) (λ t i. is_held t.stage || (is_ready t.stage && has_part-mapped f t i))
  fact_applies-mapped s (Undo transaction) = stage_passes-mapped f s transaction (λ t. not (is_decided t.stage)) (λ t. refl)
  fact_applies-mapped s (Done transaction done) = stage_passes-mapped f s transaction (has_undone done) (has_undone-mapped f done)

  -- ---- the limits

  units_waiting-mapped : (s : Durable) (t : Recorded) → units_waiting (mapped_durable f s) (mapped_recorded f t) ≡ units_waiting s t
  units_waiting-mapped s t =
      (λ i. sum_by (λ file. units_of (bytes_of (left i) file)) (written i)) ∙ (λ i. sum_by (λ file. units-there f (changed_all s.tree (changes_of t)) file i) (written_files (changes_of t)))
    where
      left : changed_all (mapped_tree f s.tree) (changes_of (mapped_recorded f t)) ≡ mapped_tree f (changed_all s.tree (changes_of t))
      left = ap (changed_all (mapped_tree f s.tree)) (changes_of-mapped f t) ∙ changed_all-mapped f blank s.tree (changes_of t)

      written : written_files (changes_of (mapped_recorded f t)) ≡ written_files (changes_of t)
      written = ap written_files (changes_of-mapped f t) ∙ written_files-mapped f (changes_of t)

  -- what is counted of those that wait
  counted-mapped : (s : Durable) (many before : Recorded → ℕ) → ((t : Recorded) → many (mapped_recorded f t) ≡ before t) → sum_by many (waiting (mapped_durable f s)) ≡ sum_by before (waiting s)
  counted-mapped s many before same = ap (sum_by many) (waiting-mapped f s) ∙ sum_by-mapped many before (mapped_recorded f) same (waiting s)

  units_in_use-mapped : (s : Durable) → units_in_use (mapped_durable f s) ≡ units_in_use s
  units_in_use-mapped s = λ i.
      sum_by-mapped (λ node. units_of (bytes_or_none node.content)) (λ node. units_of (bytes_or_none node.content)) (mapped_node f) (λ node. units-content f node.content) s.tree i
      + counted-mapped s (units_waiting (mapped_durable f s)) (units_waiting s) (units_waiting-mapped s) i

  nodes_in_use-mapped : (s : Durable) → nodes_in_use (mapped_durable f s) ≡ nodes_in_use s
  nodes_in_use-mapped s = λ i.
      1 + length-map s.tree (mapped_node f) i
      + counted-mapped s (λ t. nodes_made (changes_of t)) (λ t. nodes_made (changes_of t)) (λ t. ap nodes_made (changes_of-mapped f t) ∙ nodes_made-mapped f (changes_of t)) i

  keys_in_use-mapped : (s : Durable) → keys_in_use (mapped_durable f s) ≡ keys_in_use s
  keys_in_use-mapped s = λ i. length s.keys + counted-mapped s set set (λ t i. count_by (λ setting. is_some setting.value) (settings_of-mapped f t i)) i
    where
      set : Recorded → ℕ
      set t = count_by (λ setting. is_some setting.value) (settings_of t)

  changes_in_wait-mapped : (s : Durable) → changes_in_wait (mapped_durable f s) ≡ changes_in_wait s
  changes_in_wait-mapped s = counted-mapped s (λ t. moved t + unset t) (λ t. moved t + unset t)
      (λ t i. (ap (count_by (λ change. not (changes_bytes change))) (changes_of-mapped f t) ∙ moved-mapped t) i + count_by (λ setting. is_none setting.value) (settings_of-mapped f t i))
    where
      moved : Recorded → ℕ
      moved t = count_by (λ change. not (changes_bytes change)) (changes_of t)

      unset : Recorded → ℕ
      unset t = count_by (λ setting. is_none setting.value) (settings_of t)

      moved-mapped : (t : Recorded) → count_by (λ change. not (changes_bytes change)) (map (mapped_change f) (changes_of t)) ≡ moved t
      moved-mapped t = count_by-mapped _ _ (mapped_change f) (λ c i. not (changes_bytes-mapped f c i)) (changes_of t)

  enlistments_in_use-mapped : (s : Durable) → enlistments_in_use (mapped_durable f s) ≡ enlistments_in_use s
  enlistments_in_use-mapped s = sum_by-mapped _ _ (mapped_recorded f) (λ t i. length (enlistments_of-mapped f t i)) s.transactions

  pub is_within_limits-mapped : (s : Durable) → is_within_limits (mapped_durable f s) ≡ is_within_limits s
  unfolding is_within_limits
  is_within_limits-mapped s = λ i.
      nat_le (units_in_use-mapped s i) s.units && nat_le (nodes_in_use-mapped s i) s.units && nat_le (keys_in_use-mapped s i) s.units && nat_le (changes_in_wait-mapped s i) s.units
      && nat_le (length-map s.transactions (mapped_recorded f) i) MOST_LIVE && nat_le (enlistments_in_use-mapped s i) MOST_LIVE && nat_le (length s.managers) MOST_LIVE

  -- ---- one event, some, and a log

  pub event_applies-mapped : (s : Durable) (event : Event) → event_applies (mapped_durable f s) (mapped_event f event) ≡ event_applies s event
  event_applies-mapped s event = λ i.
      fact_applies-mapped s event i && (ap is_within_limits (fact_of-mapped f blank s event) ∙ is_within_limits-mapped (fact_of s event)) i && nat_lt (s.events + 1) (2 ^ 63)

  pub events_apply-mapped : (s : Durable) (events : Group) → events_apply (mapped_durable f s) (mapped_group f events) ≡ events_apply s events
  events_apply-mapped s [] = refl
  events_apply-mapped s (event ∷ events) = λ i.
      event_applies-mapped s event i && (ap (λ t. events_apply t (mapped_group f events)) (after_event-mapped f blank s event) ∙ events_apply-mapped (after_event s event) events) i

  pub log_applies-mapped : (base : Durable) (log : List Group) → log_applies (mapped_durable f base) (mapped_log f log) ≡ log_applies base log
  log_applies-mapped base [] = refl
  log_applies-mapped base (group ∷ groups) = λ i.
      events_apply-mapped base group i && (ap (λ t. log_applies t (mapped_log f groups)) (after_events-mapped f blank base group) ∙ log_applies-mapped (after_events base group) groups) i
