-- A restart of a good state passes no limit, and fixes all versions.
use Rattle.std.proofs.Common.{◌≡◌, ℕ, ◌+◌, ◌≤◌, not, Bool, true, List, [], ◌∷◌, filter, map, length, sum_by, count_by, is_some, is_none, Option, Some, None, refl, sym, ◌∙◌, arith, inl, inr, length-append}
use Rattle.std.proofs.lemmas.Bool.{cases_Bool, true≢false}
use Rattle.std.proofs.lemmas.List.{length-map}
use Rattle.std.proofs.lemmas.List.Concat.{length-flat_map}
use Rattle.std.proofs.lemmas.List.Sums.{count_by-le-length}
use Rattle.std.specs.List.{flat_map}
use Rattle.ktm_base.specs.declared.limits.TheConstants.{MOST_LIVE}
use Rattle.ktm_base.specs.declared.id.Id.{Id}
use Rattle.ktm_world.specs.declared.event.Part.{Part}
use Rattle.ktm_world.specs.declared.event.Part.TheVariants.{Enlistment as EnlistmentPart, Changes, Settings}
use Rattle.ktm_world.specs.declared.recorded.RecordedPart.{RecordedPart}
use Rattle.ktm_world.specs.declared.recorded.Stage.{Stage}
use Rattle.ktm_world.specs.declared.recorded.Superior.{Superior}
use Rattle.ktm_world.specs.Changes.{changes_apply, changes_bytes, nodes_made}
use Rattle.ktm_world.specs.Durable.{Durable, Recorded, changes_of, settings_of, enlistments_in, enlistments_of, is_before, is_decided, is_held, stand, superior_ids, units_waiting, waiting}
use Rattle.ktm_world.specs.Enlistments.{Enlistment, is_live_enlistment}
use Rattle.ktm_world.specs.Files.{OwnChanges, bytes_seen}
use Rattle.ktm_world.specs.FileUses.{own_units, units_used, nodes_used, file_changes_waiting}
use Rattle.ktm_world.specs.Keys.{Own, keys_used, changes_pending as keys_unset}
use Rattle.ktm_world.specs.Logs.{Group}
use Rattle.ktm_world.specs.Present.{Present}
use Rattle.ktm_world.specs.Transactions.{is_live}
use Rattle.ktm_world.specs.Uses.{changes_waiting}
use Rattle.ktm_world.specs.World.{ManagerPast, back, by_rising_id, is_brought_back, enlistment_back, enlistments_back, has_own_changes, has_own_settings, in_doubt, manager_now, opened, own_group, present, superior_back, transaction_back, with_enlistment}
use Rattle.txf_laws.specs.GoodState.{IsGoodState}
use Rattle.ktm_records.specs.Kept.{IsWithin}
use Rattle.txf_laws.specs.SoundFiles.{IsSoundFiles}
use Rattle.ktm_records.proofs.offered.DurableLimits.{KeepsLimits, limits-kept}
use Rattle.txf_laws.proofs.offered.Elements.{list_all-at, length-filter-less}
use Rattle.ktm_limits.proofs.FinalBytes.{committed_units, units-committed}
use Rattle.ktm_records.proofs.offered.NoMore.{Fits, units-events, within-fits}
use Rattle.ktm_owned.proofs.offered.Restarts.{files-opened}
use Rattle.txf_laws.proofs.offered.Sums.{sum-filter-less, sum-implied, sum-map-by, sum-plus, sum-same}
use Rattle.ktm_records.proofs.offered.UnitsPassed.{own-now, own_units-final}

-- what is brought back of a transaction that waits counts no more than what waits
held-waits : (g : Recorded → ℕ) (s : Durable) → sum_by g (in_doubt s) ≤ sum_by g (waiting s)
held-waits g s = sum-implied g (λ t. is_held t.stage) (λ t. not (is_decided t.stage)) s.transactions (λ t there held. go t.stage held)
  where
    go : (stage : Stage) → is_held stage ≡ true → not (is_decided stage) ≡ true
    go Stage.Held is = refl
    go Stage.Ready is = absurd (true≢false (sym is))
    go Stage.Decided is = absurd (true≢false (sym is))

-- of some of what each transaction is brought back with
some-back : {X : Type 0} (f : X → ℕ) (keep : X → Bool) (of : Recorded → X) (s : Durable) → sum_by f (filter keep (map of (in_doubt s))) ≤ sum_by (λ t. f (of t)) (waiting s)
some-back f keep of s =
    let a = sum-filter-less f keep (map of (in_doubt s)) in
    let b = sum-map-by f of (in_doubt s) in
    let c = held-waits (λ t. f (of t)) s in
    omega arith

-- ---- enlistments

length-with : (es : List Enlistment) (e : Enlistment) → length (with_enlistment es e) ≡ length es + 1
length-with [] e = refl
length-with (a ∷ es) e = elim (cases_Bool (is_before e.id a.id)) [
  | inl before ↦ rw before (omega arith)
  | inr behind ↦ rw behind (let rest = length-with es e in omega arith)
]

pub length-rising : (es : List Enlistment) → length (by_rising_id es) ≡ length es
length-rising [] = refl
length-rising (e ∷ es) = let rest = length-rising es in let one = length-with (by_rising_id es) e in omega arith

pub length-parts : (id : Id) (ps : List RecordedPart) → length (flat_map (enlistment_back id) ps) ≡ length (flat_map (λ (p : RecordedPart). enlistments_in p.part) ps)
length-parts id [] = refl
length-parts id (p ∷ ps) =
    let a = length-append (enlistment_back id p) (flat_map (enlistment_back id) ps) in
    let b = length-append (enlistments_in p.part) (flat_map (λ (p : RecordedPart). enlistments_in p.part) ps) in
    let rest = length-parts id ps in
    let one = go p.is_done p.part in
    omega arith
  where
    go : (done : Bool) (part : Part) → length (enlistment_back id (record { is_done = done; part = part })) ≡ length (enlistments_in part)
    go done (EnlistmentPart enlistment manager information) = refl
    go done (Changes changes) = refl
    go done (Settings settings) = refl

length-back : (t : Recorded) → length (enlistments_back t) ≡ length (enlistments_of t)
length-back t =
    let a = length-append (superior_back t.id t.superior) (flat_map (enlistment_back t.id) t.parts) in
    let b = length-append (superior_ids t.superior) (flat_map (λ (p : RecordedPart). enlistments_in p.part) t.parts) in
    let c = length-parts t.id t.parts in
    let d = go t.superior in
    omega arith
  where
    go : (o : Option Superior) → length (superior_back t.id o) ≡ length (superior_ids o)
    go None = refl
    go (Some s) = refl

-- ---- all of it

module _ (base : Durable) (log : List Group) (good : IsGoodState (stand base log)) where
  abbrev s : Durable
  s = stand base log

  abbrev x : Present
  x = present (opened base log)

  sound : IsSoundFiles x
  sound = files-opened base log good

  limits : KeepsLimits s
  limits = limits-kept s good.limits

  room-is : x.recorded.units ≡ s.units
  room-is = units-events (own_group s) s

  abbrev changed_by : Recorded → OwnChanges
  changed_by t = record { transaction = t.id; changes = changes_of t }

  abbrev set_by : Recorded → Own
  set_by t = record { transaction = t.id; settings = settings_of t }

  own : sum_by (own_units x.files) x.files.table.own ≤ sum_by (units_waiting s) (waiting s)
  own =
      let same = sum-same (own_units x.files) (λ (o : OwnChanges). committed_units s.tree o.changes) x.files.table.own (λ o there.
      let now = own-now x sound o there in
      own_units-final x.files o (bytes_seen x.files (Some o.transaction)) now.0 now.1
      ∙ sym (units-committed s.tree o.changes (bytes_seen x.files (Some o.transaction)) now.1 (list_all-at (λ (o : OwnChanges). changes_apply s.tree o.changes) x.files.table.own sound.own_apply o there))) in
      let less = some-back (λ (o : OwnChanges). committed_units s.tree o.changes) has_own_changes changed_by s in
      omega arith

  units : units_used x.files ≤ s.units
  unfolding units_used
  units = let a = own in let b = limits.units in omega arith

  nodes : nodes_used x.files ≤ s.units
  unfolding nodes_used
  nodes = let a = some-back (λ (o : OwnChanges). nodes_made o.changes) has_own_changes changed_by s in let b = limits.nodes in omega arith

  changes : file_changes_waiting x.files + keys_unset x.keys ≤ s.units
  unfolding file_changes_waiting
  changes =
      let a = some-back (λ (o : OwnChanges). count_by (λ change. not (changes_bytes change)) o.changes) has_own_changes changed_by s in
      let b = some-back (λ (o : Own). count_by (λ setting. is_none setting.value) o.settings) has_own_settings set_by s in
      let c = sum-plus (λ (t : Recorded). count_by (λ change. not (changes_bytes change)) (changes_of t)) (λ (t : Recorded). count_by (λ setting. is_none setting.value) (settings_of t)) (waiting s) in
      let d = limits.changes in
      omega arith

  keys : keys_used x.keys ≤ s.units
  keys = let a = some-back (λ (o : Own). count_by (λ setting. is_some setting.value) o.settings) has_own_settings set_by s in let b = limits.keys in omega arith

  live : count_by is_live x.transactions.items ≤ MOST_LIVE
  live =
      let a = count_by-le-length is_live x.transactions.items in
      let b = length-map (back s) transaction_back in
      let c = length-filter-less (λ t. is_brought_back t) s.transactions in
      let d = limits.transactions in
      omega arith

  enlisted : count_by (is_live_enlistment x.transactions.items) x.transactions.enlistments ≤ MOST_LIVE
  enlisted =
      let a = count_by-le-length (is_live_enlistment x.transactions.items) x.transactions.enlistments in
      let b = length-rising (flat_map enlistments_back (back s)) in
      let c = length-flat_map enlistments_back (back s) in
      let d = sum-same (λ t. length (enlistments_back t)) (λ t. length (enlistments_of t)) (back s) (λ t there. length-back t) in
      let e = sum-filter-less (λ (t : Recorded). length (enlistments_of t)) is_brought_back s.transactions in
      let f = limits.enlistments in
      omega arith

  managers : length x.managers ≤ MOST_LIVE
  managers =
      let past : Id → ManagerPast = λ id. record { id = id; is_durable = true; taken = []; queue = [] } in
      let a : length (map manager_now (map past s.managers)) ≡ length (map past s.managers) = length-map (map past s.managers) manager_now in
      let b : length (map past s.managers) ≡ length s.managers = length-map s.managers past in
      let c = limits.managers in
      omega arith

  opened-fits : Fits x
  unfolding changes_waiting
  opened-fits =
      let r = room-is in
      record {
        changes = (let a = changes in omega arith);
        live = live;
        enlisted = enlisted;
        managers = managers;
        handles = omega arith;
        last_transaction = omega arith;
        last_manager = omega arith;
        last_enlistment = omega arith;
        last_open = omega arith;
        next_node = good.next_to;
        units = (let a = units in omega arith);
        nodes = (let a = nodes in omega arith);
        keys = (let a = keys in omega arith);
      }

  pub opened-within : IsWithin x
  opened-within = within-fits x opened-fits
