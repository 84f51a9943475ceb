-- A machine stays ready once it has answered.
use Rattle.std.proofs.Common.{◌≡◌, ℕ, ◌≤◌, Bool, true, false, List, length, Option, Result, Ok, Err, refl, sym, ◌∙◌, ap, subst}
use Rattle.std.specs.Prelude.{OnErr}
use Rattle.ktm_base.specs.declared.fault.NoMemory.{NoMemory}
use Rattle.ktm_base.specs.Disk.{DiskState, DiskStatus}
use Rattle.ktm_core.specs.Answers.{CoreLeaves, IsAnswered as IsCoreAnswered, IsAsItWas as IsCoreAsItWas, KeepsRules, asked_completes, asked_owes_more, asked_writes}
use Rattle.ktm_core.specs.Core.{CoreState, core_of, is_sound}
use Rattle.ktm_core.specs.Memory.{MemoryState, present_of}
use Rattle.ktm_core.specs.Done.{Ends as CoreEnds, KeepsPages}
use Rattle.ktm_each.specs.Each.{EachOfFiles}
use Rattle.ktm_journal.specs.Image.{page_count}
use Rattle.ktm_laws.specs.Running.{HasEventsLeft}
use Rattle.ktm_log.specs.OnDisk.{on}
use Rattle.ktm_core.specs.Asked.{Asked}
use Rattle.ktm_core.specs.Asked.TheVariants.{Call, Units, Tick}
use Rattle.ktm_core.specs.Route.{AskedPutsBy, CanBeAsked, decided}
use Rattle.ktm_core.specs.Rules.{Follows}
use Rattle.ktm_standing.specs.Laws.{StandingLaw}
use Rattle.ktm_standing.specs.Standing.{IsStandingNow}
use Rattle.ktm_store.specs.Marks.{MarksState}
use Rattle.ktm_store.specs.Pool.{Shows, on_row}
use Rattle.ktm_store.specs.Store.{PoolState, StoreState}
use Rattle.ktm_world.specs.declared.command.Command.TheVariants.{WriteUnits}
use Rattle.ktm_world.specs.declared.reply.Reply.{Reply}
use Rattle.ktm_world.specs.Outcome.{Outcome, apply}
use Rattle.ktm_world.specs.Present.{Present}
use Rattle.ktm_kernel.specs.Staging.{IsAskable, WasAsked, is_held_at}
use Rattle.ktm_kernel.specs.declared.staging.Staged.TheVariants.{Ask}
use Rattle.ktm_kernel.specs.Stands.{IsCoreReady, IsReady, KernelState, core_on, kernel_of}
use Rattle.ktm_kernel.proofs.Fallen.{left-off}
use Rattle.ktm_kernel.proofs.Given.{given}
use Rattle.ktm_kernel.proofs.Rules.{files-rule, rule-files}

-- what is asked comes to what stands
asked-stands : StandingLaw → (x : Present) (asked : Asked) → CanBeAsked x asked → HasEventsLeft x → IsStandingNow x → IsStandingNow (apply x (decided x asked))
asked-stands law x (Call process command) can counts standing = law.commands_now x process command (given command can.0) counts standing
asked-stands law x (Units process file start contents extent) can counts standing = law.commands_now x process (WriteUnits file start contents) can.0 counts standing
asked-stands law x (Tick ms) can counts standing = law.ticks_now x ms counts standing

-- the same pages are held, of the same image
keeps-of : (is_down : Bool) (old new : CoreState) (o : Outcome) (reply : Reply) (before now : Option DiskState) → CoreEnds is_down old o reply new before now → KeepsPages old new
keeps-of false old new o reply before now done = done.keeps
keeps-of true old new o reply before now cut = cut.keeps

-- what is so then, where the machine is up
up-state : (is_down : Bool) (old new : CoreState) (o : Outcome) (reply : Reply) (before now : Option DiskState) → CoreEnds is_down old o reply new before now → new.now.machine.is_up ≡ true → new.now ≡ apply old.now o
up-state false old new o reply before now done on = done.state
up-state true old new o reply before now cut on = let off = sym on ∙ ap (λ (x : Present). x.machine.is_up) cut.state ∙ left-off old.now o in absurd (cc)

module _ (law : StandingLaw) (old new : KernelState) (asked : Asked) (before now : Option DiskState) (s t : DiskStatus) (up : old.now.machine.is_up ≡ true) (ready : IsReady old before s) (left : HasEventsLeft old.now) (askable : IsAskable old (Ok (Ask asked)))
    (rules : KeepsRules (λ rule. AskedPutsBy old.now rule asked) old.now new.now) (row : List ℕ) where
  core : IsCoreReady old before s
  core = ready.core up

  module _ (reply : Reply) (answered : IsCoreAnswered (asked_completes asked) (asked_owes_more asked) (asked_writes asked) (decided old.now asked) (on (core_on old row) before s) (on (core_on new row) now t) reply) where
    keeps : KeepsPages (core_on old row) (core_on new row)
    keeps = keeps-of t.is_down (core_on old row) (core_on new row) (decided old.now asked) reply before now answered.ends

    core-ready : new.now.machine.is_up ≡ true → IsCoreReady new now t
    core-ready on = record {
      ready = λ any. record {
        powered = record { power = answered.powered.power; settled = answered.powered.settled; image = answered.powered.image; wanted = answered.powered.wanted };
        standing = subst IsStandingNow (sym (up-state t.is_down (core_on old row) (core_on new row) (decided old.now asked) reply before now answered.ends on)) (asked-stands law old.now asked askable.0 left (core.ready row).standing);
        slots = answered.slots on;
        room = answered.room on;
      };
      count = ap (λ (m : MarksState). length m.held) keeps.marks ∙ core.count ∙ ap page_count (sym keeps.units);
      sound = (
        askable.1.owner,
        subst (λ n. EachOfFiles (Follows (is_sound askable.1.owner n)) new.now.files) (ap page_count (sym keeps.units))
            (rules (is_sound askable.1.owner (page_count old.journal.units)) (λ file index. refl) askable.1.files askable.1.puts),
      );
      held = rule-files new.pool new.now.files (subst (λ m. EachOfFiles (Follows (is_held_at m)) new.now.files) (sym keeps.marks)
          (rules (is_held_at old.pool.marks) (λ file index. refl) (files-rule old.pool old.now.files core.held) askable.2));
    }

    stays-ready : IsReady new now t
    stays-ready = record {
      powered = record { power = answered.powered.power; settled = answered.powered.settled; image = answered.powered.image };
      slots = answered.slots;
      core = core-ready;
    }

  module _ (shows : Shows old.pool row) (seen : new.pool.seen ≡ old.pool.seen) where
    -- out of memory it has more room for notifications at most
    same-core : IsCoreAsItWas (core_on old row) (core_on new row) → (new ≡ record old { slots = new.slots }) × (old.slots ≤ new.slots)
    same-core was = (
      (λ i. record { now = was.now i; journal = was.journal i; slots = new.slots; pool = record { seen = seen i; marks = (was.store i).marks; stored = (was.store i).stored; wanted = (was.store i).wanted } }),
      was.slots,
    )

    pub was-asked : (r : Result Reply NoMemory) → ((any : List ℕ) → Shows old.pool any → CoreLeaves old.now asked (on (core_on old any) before s) (on (core_on new any) now t) r)
        → OnErr r ((any : List ℕ) → IsCoreAsItWas (core_on old any) (core_on new any)) → WasAsked asked (on old before s) (on new now t) r
    was-asked (Ok reply) leaves was = record {
      leaves = leaves;
      seen = seen;
      marks = (keeps reply (leaves row shows)).marks;
      rows = (row, shows);
      ready = stays-ready reply (leaves row shows);
      same = tt;
    }
    was-asked (Err fault) leaves was = record {
      leaves = leaves;
      seen = seen;
      marks = ap (λ (st : StoreState). st.marks) (was row).store;
      rows = (row, shows);
      ready = tt;
      same = same-core (was row);
    }

-- so it is of a machine that holds this
abbrev AskedAs : MemoryState → PoolState → MemoryState → PoolState → Asked → Option DiskState → Option DiskState → DiskStatus → DiskStatus → Result Reply NoMemory → KernelState → Type 0
AskedAs m old n new asked before now s t r k = k.now.machine.is_up ≡ true → IsReady k before s → HasEventsLeft k.now → IsAskable k (Ok (Ask asked)) → WasAsked asked (on k before s) (on (kernel_of n new) now t) r

pub answered-by : StandingLaw → (k : KernelState) (m n : MemoryState) (old new : PoolState) (asked : Asked) (before now : Option DiskState) (s t : DiskStatus) (r : Result Reply NoMemory) → kernel_of m old ≡ k
    → (row : List ℕ) → Shows old row → new.seen ≡ old.seen → ((any : List ℕ) → Shows old any → CoreLeaves (present_of m) asked (on (core_of m (on_row old any)) before s) (on (core_of n (on_row new any)) now t) r)
    → OnErr r ((any : List ℕ) → IsCoreAsItWas (core_of m (on_row old any)) (core_of n (on_row new any))) → KeepsRules (λ rule. AskedPutsBy (present_of m) rule asked) (present_of m) (present_of n) → AskedAs m old n new asked before now s t r k
answered-by law k m n old new asked before now s t r is row shows seen leaves was rules = subst (AskedAs m old n new asked before now s t r) is
    (λ up ready left askable. was-asked law (kernel_of m old) (kernel_of n new) asked before now s t up ready left askable rules row shows seen r leaves was)
