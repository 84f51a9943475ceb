-- What a write and an end leave, whose pages were staged.
use Rattle.std.proofs.Common.{◌≡◌, ◌≤◌, ℕ, List, [], ◌∷◌, true, false, Bool, Option, Some, None, Result, Ok, Err, refl, sym, ◌∙◌, subst}
use Rattle.std.specs.Prelude.{IsOk, OnErr}
use Rattle.std.proofs.lemmas.Bool.{both_ways}
use Rattle.ktm_base.specs.declared.fault.NoMemory.{NoMemory}
use Rattle.ktm_base.specs.declared.id.Label.{Label}
use Rattle.ktm_base.specs.declared.id.Pid.{Pid}
use Rattle.ktm_base.specs.declared.refusal.Refusal.{Refusal}
use Rattle.ktm_base.specs.Disk.{DiskState, DiskStatus, OnlyReads}
use Rattle.ktm_core.specs.Core.{IsSoundFor}
use Rattle.ktm_core.specs.Memory.{MemoryState, present_of}
use Rattle.ktm_core.specs.declared.reading.ReadFault.{ReadFault}
use Rattle.ktm_core.specs.declared.reading.ReadFault.TheVariants.{Down, NoMemory as OutOfMemory}
use Rattle.ktm_laws.specs.Running.{HasEventsLeft}
use Rattle.ktm_log.specs.OnDisk.{OnDisk, on}
use Rattle.ktm_store.specs.Store.{PoolState}
use Rattle.ktm_units.specs.Units.{SeenLaw}
use Rattle.ktm_world.specs.declared.command.Command.{Command}
use Rattle.ktm_world.specs.declared.command.Command.TheVariants.{SetEndOfFile, WriteFile}
use Rattle.ktm_world.specs.declared.command.Line.{Line}
use Rattle.ktm_world.specs.declared.command.Line.TheVariants.{Process}
use Rattle.ktm_world.specs.declared.reply.Reply.{Reply}
use Rattle.ktm_world.specs.declared.reply.Reply.TheVariants.{Done, Refused}
use Rattle.ktm_world.specs.Decide.{decide, on_file, refusal_of}
use Rattle.ktm_world.specs.FileCalls.{set_end, write_file}
use Rattle.ktm_world.specs.FileOutcome.{FileOutcome}
use Rattle.ktm_world.specs.Files.{OpenFile}
use Rattle.ktm_world.specs.Labels.{file_named}
use Rattle.ktm_world.specs.Outcome.{Outcome, refuse_or}
use Rattle.ktm_world.specs.Present.{Present}
use Rattle.ktm_world.specs.Values.{IsGiven}
use Rattle.ktm_kernel.specs.Answers.{CallLeaves, IsAsItWas, line_has_bytes, most_reads}
use Rattle.ktm_kernel.specs.Staging.{AskLeaves, ComesTo, IfAsks, IsAskable, KeepsPlaces, KeepsRows, MayBeAsked, MayStage, went_down}
use Rattle.ktm_kernel.specs.declared.staging.Staged.{Staged}
use Rattle.ktm_kernel.specs.declared.staging.Staged.TheVariants.{Ask, Refuse}
use Rattle.ktm_kernel.specs.Stands.{IsReady, KernelState, kernel_of}
use Rattle.ktm_kernel.proofs.Calls.{staged-leaves}
use Rattle.ktm_kernel.proofs.Lines.{Laws}
use Rattle.ktm_kernel.proofs.Ready.{ready-stands, stays-ready}
use Rattle.ktm_kernel.proofs.Staged.{leads-to}

-- ---- what nothing refuses is done

done-of : (x : Present) (refused : Option Refusal) (named : Option OpenFile) (call : OpenFile → FileOutcome) → ((o : OpenFile) → (call o).reply ≡ Done) → refused ≡ None → (refuse_or x refused (on_file x named call)).reply ≡ Done
done-of x (Some refusal) named call says none = absurd (cc)
done-of x None None call says none = refl
done-of x None (Some o) call says none = says o

unrefused : (o : Outcome) → o.reply ≡ Done → (refusal : Refusal) → o.reply ≡ Refused refusal → ⊥
unrefused o done refusal is = (let e : Done ≡ Refused refusal = sym done ∙ is in cc)

pub write-done : (x : Present) (process : Pid) (file : Label) (offset : ℕ) (bytes : List ℕ) → refusal_of x process (WriteFile file offset bytes) ≡ None → (refusal : Refusal) → (decide x process (WriteFile file offset bytes)).reply ≡ Refused refusal → ⊥
unfolding write_file
write-done x process file offset bytes none =
    unrefused (decide x process (WriteFile file offset bytes)) (done-of x (refusal_of x process (WriteFile file offset bytes)) (file_named x process file) (λ o. write_file o offset bytes) (λ o. says o bytes) none)
  where
    says : (o : OpenFile) (bytes : List ℕ) → (write_file o offset bytes).reply ≡ Done
    says o [] = refl
    says o (b ∷ bs) = refl

pub end-done : (x : Present) (process : Pid) (file : Label) (size : ℕ) → refusal_of x process (SetEndOfFile file size) ≡ None → (refusal : Refusal) → (decide x process (SetEndOfFile file size)).reply ≡ Refused refusal → ⊥
unfolding set_end
end-done x process file size none =
    unrefused (decide x process (SetEndOfFile file size)) (done-of x (refusal_of x process (SetEndOfFile file size)) (file_named x process file) (λ o. set_end o size) (λ o. refl) none)

-- ---- before

-- a machine that is ready may have its pages filled
pub may-stage : (m : MemoryState) (pool : PoolState) (told : Option DiskState) (status : DiskStatus) → (present_of m).machine.is_up ≡ true → (present_of m).recorded.units ≡ m.journal.units → IsReady (kernel_of m pool) told status → MayStage (present_of m) m.journal.units pool
may-stage m pool told status up units ready = let core = ready.core up in record {
  standing = ready-stands (kernel_of m pool) told status up ready;
  recorded = units;
  count = core.count;
  sound = core.sound;
  held = core.held;
  wanted = ((core.ready []).powered).wanted up;
}

module _ (m : MemoryState) (old new : PoolState) (line : Line) (o : Outcome) (refused : Option Refusal) (told now : Option DiskState) (s t : DiskStatus) (most : ℕ) (up : (present_of m).machine.is_up ≡ true) (ready : IsReady (kernel_of m old) told s)
    (places : KeepsPlaces (present_of m).files old new) where
  pub staged-ready : (staged : Result Staged ReadFault) → OnlyReads most told now s t (went_down staged) → IfAsks staged (IsReady (kernel_of m new) now t)
  staged-ready (Ok (Ask asked)) reads = stays-ready (kernel_of m old) new told now s t most up ready places reads
  staged-ready (Ok (Refuse refusal)) reads = tt
  staged-ready (Err Down) reads = tt
  staged-ready (Err OutOfMemory) reads = tt

  pub staged-askable : (staged : Result Staged ReadFault) → MayBeAsked (present_of m) new line o refused s t staged → IsAskable (kernel_of m new) staged
  staged-askable (Ok (Ask asked)) may = (may.0.can, subst (λ n. IsSoundFor n (present_of m) asked) (places.count ∙ (ready.core up).count) may.0.sound, may.0.held)
  staged-askable (Ok (Refuse refusal)) may = tt
  staged-askable (Err Down) may = tt
  staged-askable (Err OutOfMemory) may = tt

-- ---- after

-- what takes no memory is answered
pub staged-enough : (x : Present) (pool : PoolState) (line : Line) (o : Outcome) (refused : Option Refusal) (s t : DiskStatus) (takes : Bool) → (refused ≡ None → takes ≡ true) → (staged : Result Staged ReadFault) → MayBeAsked x pool line o refused s t staged
    → (old new : OnDisk KernelState) (r : Result Reply NoMemory) → AskLeaves staged old new r → takes ≡ false → IsOk r
staged-enough x pool line o refused s t takes more staged may old new (Ok reply) was none = refl
staged-enough x pool line o refused s t takes more (Ok (Ask asked)) may old new (Err fault) was none = absurd (both_ways takes none (more may.1))
staged-enough x pool line o refused s t takes more (Ok (Refuse refusal)) may old new (Err fault) was none = absurd (let e = was.says in cc)
staged-enough x pool line o refused s t takes more (Err Down) may old new (Err fault) was none = absurd (let e = was.says in cc)
staged-enough x pool line o refused s t takes more (Err OutOfMemory) may old new (Err fault) was none = absurd (both_ways takes none (more may))

pub staged-call : (laws : Laws) (seen : SeenLaw) (process : Pid) (command : Command) (given : IsGiven command) (m : MemoryState) (old pool : PoolState) (told now : Option DiskState) (s t : DiskStatus) (most : ℕ) → (present_of m).machine.is_up ≡ true → IsReady (kernel_of m old) told s
    → HasEventsLeft (present_of m) → most ≤ most_reads (Process process command) → most ≤ 2 → line_has_bytes (Process process command) ≡ true → (refused : Option Refusal) → (refused ≡ None → (refusal : Refusal) → (decide (present_of m) process command).reply ≡ Refused refusal → ⊥)
    → (staged : Result Staged ReadFault) → OnlyReads most told now s t (went_down staged) → KeepsPlaces (present_of m).files old pool → KeepsRows (present_of m).files m.journal.units told old pool (ComesTo (present_of m) (λ y. decide y process command) staged)
    → MayBeAsked (present_of m) pool (Process process command) (decide (present_of m) process command) refused s t staged → (new : KernelState) (then : Option DiskState) (u : DiskStatus) (r : Result Reply NoMemory)
    → AskLeaves staged (on (kernel_of m pool) now t) (on new then u) r → CallLeaves process command (on (kernel_of m old) told s) (on new then u) r × OnErr r (IsAsItWas (kernel_of m old) new)
staged-call laws seen process command given m old pool told now s t most up ready left allowed few has refused done staged reads places rows may new then u r was =
    staged-leaves laws process command given (kernel_of m old) pool told now s t most up ready left allowed few new then u has refused done staged reads places
    (leads-to seen m old pool told (ComesTo (present_of m) (λ y. decide y process command) staged) rows) may r was
