-- What a loss of power leaves of a machine.
use Rattle.std.proofs.Common.{◌≡◌, List, [], length, Option, refl, sym, ◌∙◌, ap, subst}
use Rattle.std.proofs.lemmas.List.{append-nil}
use Rattle.std.specs.Prelude.{Contains, IsSomeAnd}
use Rattle.ktm_base.specs.Disk.{DiskState}
use Rattle.ktm_base.proofs.offered.ToldSteps.{IsSomeAnd-map}
use Rattle.ktm_journal.specs.Pages.{PagesLaw}
use Rattle.ktm_paged.specs.Laws.{RowsSeen}
use Rattle.ktm_core.specs.Logs.{StandsFor}
use Rattle.ktm_world.specs.Durable.{Durable, stand}
use Rattle.ktm_world.specs.Present.{Present}
use Rattle.ktm_world.specs.World.{World, possible_logs}
use Rattle.ktm_world.specs.Logs.{Group, Power, up, down, is_up, prefixes_from, possible_by}
use Rattle.ktm_kernel.specs.Stands.{HoldsRecorded, LeavesStates, LeftLaw, MachineState, Stands, StandsBy, machine_of, machine_on}
use Rattle.ktm_kernel.proofs.Images.{holds-left}
use Rattle.ktm_kernel.proofs.Possible.{log_possible}

-- while a machine is up, its whole log is possible
log_is_possible : (w : World) → w.power ≡ up → w.kept ≡ length w.log → Contains (possible_logs w) w.log
log_is_possible w on kept = subst (λ p. Contains (possible_by p w.kept w.log) w.log) (sym on) (subst (λ n. Contains (prefixes_from n w.log) w.log) (sym kept)
    (subst (λ (l : List Group). Contains (prefixes_from (length w.log) l) w.log) (append-nil w.log) (log_possible w.log [])))

-- of a machine that is up
pub left_up : RowsSeen → PagesLaw → (k : MachineState) (told : Option DiskState) (w : World) → w.power ≡ up → Stands k told w → IsSomeAnd told (LeavesStates w)
left_up seen pages k told w on stands = IsSomeAnd-map told (HoldsRecorded k) (LeavesStates w) stands.disk
    (λ s holds image may. (w.log, log_is_possible w on stands.standing.running.kept, subst (λ (d : Durable). StandsFor d image) recorded (holds-left seen pages k.core s image holds may)))
  where
    recorded : (machine_of k.core).now.recorded ≡ stand w.base w.log
    recorded = ap (λ (l : MachineState). l.now.recorded) (sym stands.is) ∙ ap (λ (x : Present). x.recorded) stands.now ∙ sym stands.standing.running.comes_to

left_by : RowsSeen → PagesLaw → (power : Power) (k : MachineState) (told : Option DiskState) (w : World) → w.power ≡ power → StandsBy (is_up power) k told w → IsSomeAnd told (LeavesStates w)
left_by seen pages up k told w is stands = left_up seen pages k told w is stands
left_by seen pages (down may) k told w is fallen = fallen.disk

pub left_law : RowsSeen → PagesLaw → LeftLaw
left_law seen pages k told w (row, shows, stands) = left_by seen pages w.power (machine_on k row) told w refl stands
