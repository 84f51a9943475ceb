-- The changes and the settings that wait in the parts of a transaction.
use Rattle.std.specs.Prelude.{[], if◌then◌else◌}
use Rattle.ktm_world.specs.declared.event.DonePart.{DonePart}
use Rattle.ktm_world.specs.declared.event.Part.TheVariants.{Changes, Settings}
use Rattle.ktm_world.specs.declared.recorded.RecordedPart.{RecordedPart}
use Rattle.ktm_world.specs.Durable.{is_part_of}

-- a part whose changes were taken, if it is the files'
abbrev pub without_changes : RecordedPart → RecordedPart
without_changes p = if is_part_of DonePart.Files p.part then record p { part = Changes [] } else p

-- a part whose settings were taken, if it is the keys'
abbrev pub without_settings : RecordedPart → RecordedPart
without_settings p = if is_part_of DonePart.Keys p.part then record p { part = Settings [] } else p
