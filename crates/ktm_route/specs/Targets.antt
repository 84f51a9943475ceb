-- What of an open file is changed or grows, and why it may.
use Rattle.std.specs.Prelude.{◌≡◌, ℕ, ◌+◌, ◌*◌, ◌≤◌, max, List, length, Some, None}
use Rattle.ktm_base.specs.declared.id.Label.{Label}
use Rattle.ktm_base.specs.declared.id.Pid.{Pid}
use Rattle.ktm_base.specs.declared.limits.TheConstants.{UNIT_BYTES}
use Rattle.ktm_world.specs.declared.command.Command.TheVariants.{WriteUnits}
use Rattle.ktm_world.specs.Decide.{refusal_of}
use Rattle.ktm_world.specs.Files.{OpenFile, bytes_seen}
use Rattle.ktm_world.specs.Labels.{file_named}
use Rattle.ktm_world.specs.Present.{Present}
use Rattle.ktm_route.specs.declared.targets.Target.{Target}

-- the label names an open file of this transaction, if it is one of a transaction, and of this node, and these bytes of it are seen
pub record IsTarget (x : Present) (process : Pid) (label : Label) (t : Target) : Type 0 where
  pub file : OpenFile
  pub named : file_named x process label ≡ Some file
  pub who : file.transaction ≡ t.who
  pub node : file.node ≡ t.node
  pub contents : t.contents ≡ bytes_seen x.files t.who t.node

-- the open file may be so long: there are units for as many bytes, and no put of whole units that makes it as long is refused
pub record MayBeSoLong (x : Present) (process : Pid) (label : Label) (size : ℕ) (t : Target) : Type 0 where
  pub target : IsTarget x process label t
  pub small : size ≤ x.recorded.units * UNIT_BYTES
  pub units : (start : ℕ) (contents : List ℕ) → 1 ≤ length contents → max (length t.contents) (start + length contents) ≡ size → refusal_of x process (WriteUnits label start contents) ≡ None
