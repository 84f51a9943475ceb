-- What a source, a sink and a block in memory tell, and which of their calls fail.
use Rattle.std.specs.Prelude.{◌≡◌, ℕ, List, drop, Result}
use Rattle.ktm_base.specs.declared.fault.Failed.{Failed}
use Rattle.ktm_mem.specs.Schedule.{after_call, faults_after}
use Rattle.ktm_mem.specs.declared.schedule.Schedule.{Schedule}
use Rattle.ktm_mem.specs.declared.source.MemSource.{MemSource}
use Rattle.ktm_mem.specs.declared.sink.MemSink.{MemSink}
use Rattle.ktm_mem.specs.declared.block.MemBlock.{MemBlock}

-- the bytes that a source has not given yet
abbrev pub left_of : MemSource → List ℕ
left_of s = drop s.at s.bytes

-- which calls of a source fail
abbrev pub source_schedule : MemSource → Schedule
source_schedule s = s.schedule

-- the bytes that a sink took
abbrev pub taken_of : MemSink → List ℕ
taken_of s = s.bytes.items

-- how many bytes a sink takes in all
abbrev pub sink_room : MemSink → ℕ
sink_room s = s.room

-- which calls of a sink fail
abbrev pub sink_schedule : MemSink → Schedule
sink_schedule s = s.schedule

-- the bytes of a block
abbrev pub contents_of : MemBlock → List ℕ
contents_of b = b.bytes.items

-- how long a block can become
abbrev pub block_room : MemBlock → ℕ
block_room b = b.room

-- which calls of a block fail
abbrev pub block_schedule : MemBlock → Schedule
block_schedule b = b.schedule

-- what a call of a block does beside its bytes: it is counted, and so is its failure; the room stays
pub record BlockCall {T : Type 0} (old new : MemBlock) (result : Result T Failed) : Type 0 where
  pub schedule : new.schedule ≡ after_call old.schedule
  pub faults : new.faults ≡ faults_after result old.faults
  pub room : new.room ≡ old.room
