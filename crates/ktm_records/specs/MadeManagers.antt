-- What a new resource manager records applies.
use Rattle.std.specs.Prelude.{◌≡◌, ◌+◌, ◌<◌, ◌^◌, true}
use Rattle.ktm_base.specs.declared.id.Label.{Label}
use Rattle.ktm_base.specs.declared.id.Pid.{Pid}
use Rattle.ktm_world.specs.declared.command.Command.TheVariants.{CreateResourceManager}
use Rattle.ktm_world.specs.declared.options.Durability.{Durability}
use Rattle.ktm_world.specs.Decide.{decide}
use Rattle.ktm_world.specs.Durable.{events_apply}
use Rattle.ktm_world.specs.Lawful.{Agrees}
use Rattle.ktm_world.specs.Present.{Present}
use Rattle.txf_laws.specs.GoodState.{IsGoodState}
use Rattle.ktm_courses.specs.SoundCourse.{IsSoundCourse}

-- where what was recorded is good and agrees with what is so now, and this is sound, what CreateResourceManager records applies, before the count of events ends
abbrev pub MadeManagersLaw : Type 0
MadeManagersLaw = (x : Present) (process : Pid) (label : Label) (durability : Durability) → IsSoundCourse x → IsGoodState x.recorded → Agrees x → x.recorded.events + 1 < 2 ^ 63
    → events_apply x.recorded (decide x process (CreateResourceManager label durability)).events ≡ true
