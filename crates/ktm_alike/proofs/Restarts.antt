-- What is so once a log with other bytes is opened.
use Rattle.std.proofs.Common.{◌≡◌, ℕ, ◌==◌, ◌&&◌, ◌||◌, not, Bool, true, List, [], ◌∷◌, ◌++◌, map, filter, refl, sym, ◌∙◌, ap}
use Rattle.std.specs.List.{flat_map}
use Rattle.std.proofs.lemmas.List.{length-map}
use Rattle.ktm_base.specs.declared.id.Id.{Id}
use Rattle.ktm_world.specs.declared.event.Part.{Part}
use Rattle.ktm_world.specs.declared.event.Part.TheVariants.{Enlistment as EnlistmentPart, Changes, Settings}
use Rattle.ktm_world.specs.Durable.{Durable, Recorded, is_held, is_decided, changes_of, settings_of, after_events, stand}
use Rattle.ktm_world.specs.Files.{OwnChanges}
use Rattle.ktm_world.specs.Keys.{Own}
use Rattle.ktm_world.specs.Logs.{Group}
use Rattle.ktm_world.specs.World.{own_group, enlistment_back, superior_back, enlistments_back, by_rising_id, is_enlistment_part, is_brought_back, transaction_back, back, in_doubt, has_own_changes, has_own_settings, present, opened}
use Rattle.ktm_mapped.specs.Mapped.{IsBlank, mapped_change, mapped_part, mapped_log, mapped_recorded_part, mapped_recorded, mapped_durable}
use Rattle.ktm_mapped.proofs.offered.Lists.{list_any-mapped, filter-mapped, flat_map-same, map-same}
use Rattle.ktm_mapped.proofs.offered.Events.{changes_of-mapped, settings_of-mapped, after_events-mapped, stand-mapped}
use Rattle.ktm_mapped.proofs.offered.Applying.{own_group-mapped, own_group-kept}
use Rattle.ktm_alike.specs.Alike.{mapped_own, mapped_files, mapped_present}

-- the changes of a transaction that waits
abbrev own_of : Recorded → OwnChanges
own_of t = record { transaction = t.id; changes = changes_of t }

-- the settings of a transaction that waits
abbrev set_of : Recorded → Own
set_of t = record { transaction = t.id; settings = settings_of t }

module _ (f : ℕ → ℕ) where
  -- ---- the transactions that are brought back

  is_enlistment_part-mapped : (is_done : Bool) (part : Part) → is_enlistment_part (record { is_done = is_done; part = mapped_part f part }) ≡ is_enlistment_part (record { is_done = is_done; part = part })
  is_enlistment_part-mapped is_done (EnlistmentPart enlistment manager information) = refl
  is_enlistment_part-mapped is_done (Changes changes) = refl
  is_enlistment_part-mapped is_done (Settings settings) = refl

  enlistment_back-mapped : (id : Id) (is_done : Bool) (part : Part) → enlistment_back id (record { is_done = is_done; part = mapped_part f part }) ≡ enlistment_back id (record { is_done = is_done; part = part })
  enlistment_back-mapped id is_done (EnlistmentPart enlistment manager information) = refl
  enlistment_back-mapped id is_done (Changes changes) = refl
  enlistment_back-mapped id is_done (Settings settings) = refl

  is_brought_back-mapped : (t : Recorded) → is_brought_back (mapped_recorded f t) ≡ is_brought_back t
  is_brought_back-mapped t = λ i.
      is_held t.stage || (is_decided t.stage && list_any-mapped is_enlistment_part is_enlistment_part (mapped_recorded_part f) (λ p. is_enlistment_part-mapped p.is_done p.part) t.parts i)

  enlistments_back-mapped : (t : Recorded) → enlistments_back (mapped_recorded f t) ≡ enlistments_back t
  enlistments_back-mapped t = λ i.
      superior_back t.id t.superior ++ flat_map-same (enlistment_back t.id) (enlistment_back t.id) (mapped_recorded_part f) (λ p. enlistment_back-mapped t.id p.is_done p.part) t.parts i

  back-mapped : (s : Durable) → back (mapped_durable f s) ≡ map (mapped_recorded f) (back s)
  back-mapped s = filter-mapped is_brought_back is_brought_back (mapped_recorded f) is_brought_back-mapped s.transactions

  items-mapped : (s : Durable) → map transaction_back (back (mapped_durable f s)) ≡ map transaction_back (back s)
  items-mapped s = ap (map transaction_back) (back-mapped s) ∙ map-same transaction_back transaction_back (mapped_recorded f) (λ t. refl) (back s)

  enlistments-mapped : (s : Durable) → by_rising_id (flat_map enlistments_back (back (mapped_durable f s))) ≡ by_rising_id (flat_map enlistments_back (back s))
  enlistments-mapped s =
      ap (λ ts. by_rising_id (flat_map enlistments_back ts)) (back-mapped s)
      ∙ ap by_rising_id (flat_map-same enlistments_back enlistments_back (mapped_recorded f) enlistments_back-mapped (back s))

  -- ---- what the transactions in doubt have to commit

  in_doubt-mapped : (s : Durable) → in_doubt (mapped_durable f s) ≡ map (mapped_recorded f) (in_doubt s)
  in_doubt-mapped s = filter-mapped (λ t. is_held t.stage) (λ t. is_held t.stage) (mapped_recorded f) (λ t. refl) s.transactions

  owns-mapped : (ts : List Recorded) → map own_of (map (mapped_recorded f) ts) ≡ map (mapped_own f) (map own_of ts)
  owns-mapped [] = refl
  owns-mapped (t ∷ ts) = λ i. record { transaction = t.id; changes = changes_of-mapped f t i } ∷ owns-mapped ts i

  own-mapped : (s : Durable) → filter has_own_changes (map own_of (in_doubt (mapped_durable f s))) ≡ map (mapped_own f) (filter has_own_changes (map own_of (in_doubt s)))
  own-mapped s =
      ap (λ ts. filter has_own_changes (map own_of ts)) (in_doubt-mapped s)
      ∙ ap (filter has_own_changes) (owns-mapped (in_doubt s))
      ∙ filter-mapped has_own_changes has_own_changes (mapped_own f) (λ o i. not (length-map o.changes (mapped_change f) i == 0)) (map own_of (in_doubt s))

  settings-mapped : (s : Durable) → filter has_own_settings (map set_of (in_doubt (mapped_durable f s))) ≡ filter has_own_settings (map set_of (in_doubt s))
  settings-mapped s =
      ap (λ ts. filter has_own_settings (map set_of ts)) (in_doubt-mapped s)
      ∙ ap (filter has_own_settings) (map-same set_of set_of (mapped_recorded f) (λ t i. record { transaction = t.id; settings = settings_of-mapped f t i }) (in_doubt s))

module _ (f : ℕ → ℕ) (blank : IsBlank f) where
  recorded-mapped : (s : Durable) → after_events (mapped_durable f s) (own_group (mapped_durable f s)) ≡ mapped_durable f (after_events s (own_group s))
  recorded-mapped s =
      ap (after_events (mapped_durable f s)) (own_group-mapped f s ∙ sym (own_group-kept f s)) ∙ after_events-mapped f blank s (own_group s)

  -- what is so then follows from what the log comes to
  begun-mapped : (s : Durable) → present (opened (mapped_durable f s) []) ≡ mapped_present f (present (opened s []))
  begun-mapped s = λ i. record {
    machine = record { is_up = true };
    recorded = recorded-mapped s i;
    transactions = record {
      clock = 0;
      last_transaction = 0;
      last_manager = 0;
      last_enlistment = 0;
      items = items-mapped f s i;
      enlistments = enlistments-mapped f s i;
    };
    managers = (present (opened s [])).managers;
    files = record (mapped_files f (present (opened s [])).files) {
      table = record (present (opened s [])).files.table { own = own-mapped f s i };
    };
    keys = record { store = s.keys; own = settings-mapped f s i };
    handles = [];
  }

  pub opened-mapped : (base : Durable) (log : List Group) → present (opened (mapped_durable f base) (mapped_log f log)) ≡ mapped_present f (present (opened base log))
  opened-mapped base log = ap (λ s. present (opened s [])) (stand-mapped f blank base log) ∙ begun-mapped (stand base log)
