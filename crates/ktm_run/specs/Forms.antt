-- What each form leaves.
use Rattle.std.specs.Prelude.{◌≡◌, ◌⊎◌, ◌≤◌}
use Rattle.ktm_base.specs.declared.limits.TheConstants.{LEAST_UNITS, MOST_UNITS}
use Rattle.ktm_gen.specs.declared.generator.TheConstants.{MOST_LINES}
use Rattle.ktm_run.specs.declared.form.Form.{Form}
use Rattle.ktm_run.specs.declared.form.Form.TheVariants.{Run, Format, Dump, Gen}
use Rattle.ktm_run.specs.declared.status.Status.{Status}
use Rattle.ktm_run.specs.declared.status.Status.TheVariants.{SinkFault}
use Rattle.ktm_run.specs.Dumped.{DumpLeaves}
use Rattle.ktm_run.specs.Early.{Outside, Untouched}
use Rattle.ktm_run.specs.Ended.{RunLeaves}
use Rattle.ktm_run.specs.Formatted.{FormatLeaves}
use Rattle.ktm_run.specs.Generated.{GeneratedLeaves}

-- the numbers of the form are within their limits
abbrev pub IsWithin : Form → Type 0
IsWithin Run = Unit {0}
IsWithin (Format units) = (LEAST_UNITS ≤ units) × (units ≤ MOST_UNITS)
IsWithin Dump = Unit {0}
IsWithin (Gen number lines) = lines ≤ MOST_LINES

-- what is left
abbrev pub FormLeaves : Form → Status → Outside → Outside → Type 0
FormLeaves Run result old new = RunLeaves result old new
FormLeaves (Format units) result old new = FormatLeaves result units old new
FormLeaves Dump result old new = DumpLeaves result old new
FormLeaves (Gen number lines) result old new = GeneratedLeaves number lines result old new

-- the sink failed before anything was touched, or else this is left
abbrev pub UntouchedOr : Status → Outside → Outside → Type 0 → Type 0
UntouchedOr result old new Leaves = ((result ≡ SinkFault) × Untouched old new) ⊎ Leaves
