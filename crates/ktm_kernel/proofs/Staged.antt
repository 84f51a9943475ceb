-- A machine whose pages were read or filled is as it was.
use Rattle.std.proofs.Common.{◌≡◌, List, ℕ, Bool, true, false, Option, refl, sym, ◌∙◌, ap, subst}
use Rattle.std.specs.Prelude.{IsSomeAnd}
use Rattle.ktm_base.specs.Disk.{DiskState}
use Rattle.ktm_base.proofs.offered.ToldSteps.{IsSomeAnd-map}
use Rattle.ktm_content.specs.Places.{byte_at}
use Rattle.ktm_core.specs.Core.{HoldsPlaces, core_of}
use Rattle.ktm_core.proofs.offered.Places.{durable-both}
use Rattle.ktm_core.specs.Following.{recorded-each}
use Rattle.ktm_core.specs.Memory.{MemoryState, held, present_of}
use Rattle.ktm_core.specs.Reading.{Agrees}
use Rattle.ktm_each.specs.Each.{EachOfDurable}
use Rattle.ktm_journal.specs.Image.{JournalState}
use Rattle.ktm_store.specs.Pool.{Shows, on_row}
use Rattle.ktm_store.specs.Store.{IsStoredAt, PoolState, StoreState}
use Rattle.ktm_units.specs.Units.{Agree, SeenLaw}
use Rattle.ktm_world.specs.declared.reply.Reply.{Reply}
use Rattle.ktm_world.specs.Outcome.{Outcome, apply}
use Rattle.ktm_world.specs.Present.{Present}
use Rattle.ktm_kernel.specs.Done.{Ends, LeavesEither}
use Rattle.ktm_kernel.specs.Staging.{KeepsContents, KeepsRows}
use Rattle.ktm_kernel.specs.Stands.{HoldsRecorded, KernelState, MachineState, kernel_of, machine_of, machine_on}

-- a machine has the same bytes at all places of its files, and its disk has all that it recorded
pub record KeepsMachine (old new : MachineState) : Type 0 where
  pub is : new ≡ machine_of new.core
  pub now : new.now ≡ old.now
  pub journal : new.journal ≡ old.journal
  pub disk : (s : DiskState) → HoldsRecorded old s → HoldsRecorded new s

module _ (seen : SeenLaw) (m : MemoryState) (old new : StoreState) (keeps : KeepsContents (present_of m).files old new) where
  -- each place that was recorded has the byte that it had
  agree : EachOfDurable (Agree (byte_at new.seen) (byte_at old.seen)) (present_of m).recorded
  agree = recorded-each (Agree (byte_at new.seen) (byte_at old.seen)) (held m) keeps.seen

  same-now : (machine_of (core_of m new)).now ≡ (machine_of (core_of m old)).now
  same-now = seen (byte_at new.seen) (byte_at old.seen) (present_of m) keeps.seen agree

  holds : (s : DiskState) → HoldsPlaces (core_of m old) s → HoldsPlaces (core_of m new) s
  holds s at = record {
    journal = at.journal;
    pages = λ page is. let (was, same) = keeps.as_were page is in at.pages page was ∙ sym same;
    stored = durable-both (λ file index place. IsStoredAt old.stored place) (λ file index place. IsStoredAt old.stored place → IsStoredAt new.stored place) (λ file index place. IsStoredAt new.stored place)
        (λ file index place was goes. goes was) (present_of m).recorded at.stored (recorded-each (λ file index place. IsStoredAt old.stored place → IsStoredAt new.stored place) (held m) keeps.stored);
  }

  keeps-machine : KeepsMachine (machine_of (core_of m old)) (machine_of (core_of m new))
  keeps-machine = record { is = refl; now = same-now; journal = refl; disk = holds }

-- each row that the disk agrees with leads to one with which the machine is as it was, and of which this is so
abbrev pub LeadsTo : Option DiskState → KernelState → KernelState → (List ℕ → Type 0) → Type 0
LeadsTo told old new then = (row : List ℕ) → Shows old.pool row → Agrees old.journal.units old.pool row told → (later : List ℕ) × Shows new.pool later × KeepsMachine (machine_on old row) (machine_on new later) × then later

pub leads-to : SeenLaw → (m : MemoryState) (old new : PoolState) (told : Option DiskState) (then : List ℕ → Type 0) → KeepsRows (present_of m).files m.journal.units told old new then → LeadsTo told (kernel_of m old) (kernel_of m new) then
leads-to seen m old new told then rows row shows agrees =
    let (later, shown, keeps, is) = rows row shows agrees in
    (later, shown, keeps-machine seen m (on_row old row) (on_row new later) keeps, is)

-- where nothing was done
pub leads-same : (k : KernelState) (told : Option DiskState) (then : List ℕ → Type 0) → ((row : List ℕ) → then row) → LeadsTo told k k then
leads-same k told then is row shows agrees = (row, shows, record { is = refl; now = refl; journal = refl; disk = λ s holds. holds }, is row)

-- what is so of the row is less
pub leads-less : (told : Option DiskState) (old new : KernelState) (then less : List ℕ → Type 0) → ((row : List ℕ) → then row → less row) → LeadsTo told old new then → LeadsTo told old new less
leads-less told old new then less f leads row shows agrees = let (later, shown, keeps, is) = leads row shows agrees in (later, shown, keeps, f later is)

-- what a machine answered that was as it was
pub ends-before : (is_down : Bool) (a b n : MachineState) (o : Outcome) (reply : Reply) (before now : Option DiskState) → KeepsMachine a b → Ends is_down b o reply n before now → Ends is_down a o reply n before now
ends-before false a b n o reply before now was done = record {
  is = done.is;
  says = done.says;
  state = done.state ∙ ap (λ (x : Present). apply x o) was.now;
  units = done.units ∙ ap (λ (j : JournalState). j.units) was.journal;
  image = done.image ∙ ap (λ (j : JournalState). j.image) was.journal;
  disk = λ holds. done.disk (IsSomeAnd-map before (HoldsRecorded a) (HoldsRecorded b) holds was.disk);
}
ends-before true a b n o reply before now was cut = record {
  says = cut.says;
  off = cut.off;
  recorded = cut.recorded ∙ ap (λ (x : Present). x.recorded) was.now;
  units = cut.units ∙ ap (λ (j : JournalState). j.units) was.journal;
  image = cut.image ∙ ap (λ (j : JournalState). j.image) was.journal;
  disk = λ holds. subst (λ (x : Present). IsSomeAnd now (LeavesEither x.recorded (apply x o).recorded)) was.now (cut.disk (IsSomeAnd-map before (HoldsRecorded a) (HoldsRecorded b) holds was.disk));
}
