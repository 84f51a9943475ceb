-- What becomes of labels, and what a call on files leaves.
use Rattle.std.proofs.Common.{◌≡◌, ℕ, [], Option, Some, None, refl, ap, arith}
use Rattle.ktm_base.specs.declared.id.Label.{Label}
use Rattle.ktm_base.specs.declared.id.Pid.{Pid}
use Rattle.ktm_base.specs.declared.id.Id.{Id}
use Rattle.ktm_world.specs.declared.object.Object.{Object}
use Rattle.ktm_world.specs.FileOutcome.{FileOutcome}
use Rattle.ktm_world.specs.HandleCalls.{bind_to, duplicate_handle}
use Rattle.ktm_world.specs.Handles.{object_at}
use Rattle.ktm_world.specs.Labels.{with_handle}
use Rattle.ktm_world.specs.Outcome.{apply}
use Rattle.ktm_world.specs.Present.{Present}
use Rattle.ktm_world.specs.TransactionCalls.{opened_object}
use Rattle.ktm_courses.specs.SoundCourse.{IsSoundCourse}
use Rattle.ktm_standing.specs.Effects.{with_files, with_group}
use Rattle.ktm_standing.proofs.offered.Applied.{apply-kept}
use Rattle.ktm_standing.proofs.offered.Decided.{done_close, done_exit}
use Rattle.ktm_standing.proofs.offered.Effects.{effects_law}
use Rattle.ktm_standing.proofs.offered.Handles.{bare_course, close_records, exit_records}
use Rattle.ktm_memory.specs.Opening.{files_outcome}
use Rattle.ktm_memory.specs.Decided.{IsDone}
use Rattle.ktm_memory.specs.Settled.{handles_then, labels_outcome}
use Rattle.ktm_memory.specs.declared.settlement.Labels.{Labels}
use Rattle.ktm_memory.specs.declared.settlement.Labels.TheVariants.{Bind, Duplicate, Unbind, UnbindAll}

-- ---- labels

-- a label bound to an object
pub bound_leaves : (x : Present) (process : Pid) (label : Label) (object : Object) → apply x (opened_object x process label object) ≡ record x { handles = with_handle x.handles process label object }
bound_leaves x process label object =
    apply-kept x (opened_object x process label object) (record { records = refl; commits = refl; sends = refl; opens = refl; makes = refl; takes = refl }) refl

-- what becomes of labels is done, and records nothing
pub labels_done : (x : Present) (process : Pid) (labels : Labels) → IsSoundCourse x → IsDone (labels_outcome x process labels)
unfolding duplicate_handle
labels_done x process (Bind label object) course = record { replies = refl; records = refl }
labels_done x process (Duplicate label from source) course = go (object_at x.handles from source)
  where
    go : (named : Option Object) → IsDone (bind_to x process label named)
    go None = record { replies = refl; records = refl }
    go (Some object) = record { replies = refl; records = refl }
labels_done x process (Unbind label) course = record { replies = (done_close x process label).says; records = (close_records x process label (bare_course x course)).records }
labels_done x process UnbindAll course = record { replies = (done_exit x process).says; records = (exit_records x process (bare_course x course)).records }

-- ---- calls on files

-- no events change nothing of what is so now
pub no_group : (x : Present) → with_group x [] ≡ x
no_group x = ap (λ (n : ℕ). record x { recorded = record x.recorded { events = n } }) (omega arith)

-- what a call on files leaves
pub left_by : (x : Present) (process : Pid) (who : Option Id) (label : Option Label) (o : FileOutcome)
    → apply x (files_outcome x process who label o) ≡ record (with_files x who o) { handles = handles_then x.handles process label o.opened }
left_by x process who None o = effects_law.files x who o
left_by x process who (Some l) o = effects_law.opens x process l who o
