-- What the run of a script on an image leaves, by how it ended.
use Rattle.std.specs.Prelude.{◌≡◌, ◌<◌, length, IfSome, IsSomeAnd}
use Rattle.ktm_base.specs.declared.limits.TheConstants.{MOST_SCRIPT_BYTES}
use Rattle.ktm_run.specs.declared.status.Status.{Status}
use Rattle.ktm_run.specs.declared.status.Status.TheVariants.{ScriptTooLong, Usage}
use Rattle.ktm_run.specs.Early.{EndsAs, Outside}
use Rattle.ktm_kernel.specs.Opened.{MayBegin}
use Rattle.ktm_kernel.specs.Begins.{Begins}
use Rattle.ktm_run.specs.Theorem.{EndedEarly}
use Rattle.ktm_world.specs.Durable.{Durable}

-- for whatever the run begins from, and over every disk
pub record RunLeaves (result : Status) (old new : Outside) : Type 0 where
  pub run : (base : Durable) → IsSomeAnd old.disk (Begins base) → EndedEarly result base old new
  pub ends : EndsAs result (MayBegin old.disk) old new
  pub not_usage : result ≡ Usage → ⊥
  pub too_long : result ≡ ScriptTooLong → IfSome old.left (λ bytes. MOST_SCRIPT_BYTES < length bytes)
