-- What a machine keeps of what is so now, and when what it records applies.
use Rattle.std.specs.Prelude.{◌≡◌, ◌&&◌, ◌||◌, not, Bool, true, false, List, [], ◌∷◌}
use Rattle.std.specs.List.{list_all}
use Rattle.ktm_world.specs.declared.event.DonePart.{DonePart}
use Rattle.ktm_world.specs.declared.event.Event.{Event}
use Rattle.ktm_world.specs.Durable.{Durable, Recorded, is_decided, has_undone, fact_of, fact_applies, after_event, is_within_limits}
use Rattle.ktm_world.specs.Lawful.{Agrees}
use Rattle.ktm_world.specs.Present.{Present}
use Rattle.ktm_world.specs.Uses.{is_over_quota, is_over_disk}
use Rattle.txf_laws.specs.GoodState.{IsGoodState}
use Rattle.ktm_records.specs.SoundWorlds.{IsSound}

-- has a transaction that is decided its files and its keys done
abbrev pub is_carried_out : Recorded → Bool
is_carried_out t = not (is_decided t.stage) || (not (has_undone DonePart.Files t) && not (has_undone DonePart.Keys t))

-- has each transaction that is decided its files and its keys done
abbrev pub are_carried_out : Durable → Bool
are_carried_out s = list_all is_carried_out s.transactions

-- is no limit passed: those on quotas, and that of the disk
abbrev pub IsWithin : Present → Type 0
IsWithin x = (is_over_quota x ≡ false) × (is_over_disk x ≡ false)

-- what is so now is sound, what was recorded is good, has the files and the keys of each decided transaction done, and agrees with what is so
-- now, and the limits hold
pub record IsKept (x : Present) : Type 0 where
  pub sound : IsSound x
  pub good : IsGoodState x.recorded
  pub carried_out : are_carried_out x.recorded ≡ true
  pub agrees : Agrees x
  pub within : IsWithin x

-- do events apply one after another, but for the limits
abbrev pub facts_apply : Durable → List Event → Bool
facts_apply s [] = true
facts_apply s (event ∷ events) = fact_applies s event && facts_apply (after_event s event) events

-- do the limits hold after each of the events
abbrev pub limits_hold : Durable → List Event → Bool
limits_hold s [] = true
limits_hold s (event ∷ events) = is_within_limits (fact_of s event) && limits_hold (after_event s event) events
