-- What the steps of an installation leave.
use Rattle.std.proofs.Common.{◌≡◌, ◌≢◌, ℕ, true, List, [], ◌∷◌, Option, Some, None, Result, Ok, Err, IfOk, refl, sym, ◌∙◌, ap, subst, inl, arith}
use Rattle.std.specs.Prelude.{Contains, zero, suc}
use Rattle.std.specs.Result.{IsErrAnd}
use Rattle.ktm_base.specs.declared.fault.NoMemory.{NoMemory}
use Rattle.ktm_base.specs.declared.id.Label.{Label}
use Rattle.ktm_base.specs.declared.refusal.Refusal.{Refusal}
use Rattle.ktm_base.specs.declared.refusal.Refusal.TheVariants.{MachineDown}
use Rattle.ktm_kernel.proofs.offered.Standing.{up_is}
use Rattle.ktm_kernel.specs.Stands.{KernelAt, KernelState}
use Rattle.ktm_keyed.specs.Keyed.{value_at}
use Rattle.ktm_log.specs.OnDisk.{OnDisk}
use Rattle.ktm_world.specs.declared.command.Command.{Command}
use Rattle.ktm_world.specs.declared.command.Command.TheVariants.{CloseHandle, CommitTransaction, CreateFileTransacted, CreateTransaction, KvSet, WriteFile}
use Rattle.ktm_world.specs.declared.object.Transaction.{Transaction}
use Rattle.ktm_world.specs.declared.options.Access.TheVariants.{Write}
use Rattle.ktm_world.specs.declared.options.Disposition.TheVariants.{CreateAlways}
use Rattle.ktm_world.specs.declared.options.ShareMode.TheVariants.{Nothing}
use Rattle.ktm_world.specs.declared.reply.Reply.{Reply}
use Rattle.ktm_world.specs.Decide.{decide}
use Rattle.ktm_world.specs.Keys.{own_settings}
use Rattle.ktm_world.specs.Labels.{transaction_named}
use Rattle.ktm_world.specs.Outcome.{Outcome, apply, committed_now}
use Rattle.ktm_world.specs.Present.{Present}
use Rattle.ktm_world.specs.Transcript.{CallDoes, Step, answered, found, interrupted, worn as found_worn}
use Rattle.ktm_world.specs.World.{World, present}
use Rattle.ktm_works.specs.Works.{Contents, HasCome, IsNoRefusal, Keeps, Leaves, contents_after, contents_now, with_works}
use Rattle.ktm_works.proofs.offered.Commits.{commits-all, set-then, some-settings}
use Rattle.ktm_works.proofs.offered.Left.{begins, committed-now, decided-up, kept-now, works-made}
use Rattle.ktm_works.proofs.offered.Quiet.{IsNotPlain, not-plain, quiet-close, quiet-open, quiet-set, quiet-transaction, quiet-write}
use Rattle.wattorju.specs.Calls.{IsBinding, IsCalled, IsCompleted, IsWornOut, answer_of, failure_of, own, reply_of}
use Rattle.wattorju.specs.Told.{reply_of_state}
use Rattle.wattorju.specs.declared.failure.CompletionFault.{CompletionFault}
use Rattle.wattorju.specs.declared.failure.CompletionFault.TheVariants as completion
use Rattle.wattorju.specs.declared.failure.Failure.{Failure}
use Rattle.wattorju.specs.declared.failure.Failure.TheVariants as failure
use Rattle.wattorju.specs.declared.told.CommitState.{CommitState}
use Rattle.wattorju.specs.declared.told.CommitState.TheVariants.{Committed, Pending}
use Rattle.ktm_example.specs.Install.{IsAllOrNothing, IsInstallation, KeepsAt, after, after_all, installing, replacing}
use Rattle.ktm_example.specs.declared.install.Entry.{Entry}
use Rattle.ktm_example.specs.declared.install.Release.{Release}

-- ---- what is kept

one-of : (c d : Contents) → Contains (c ∷ []) d → d ≡ c
one-of c d (zero, within, is) = sym is
one-of c d (suc k, within, is) = absurd (omega arith)

-- what is left is one of two
left-first : (a b : Contents) (w : World) → Leaves (a ∷ []) w → Leaves (a ∷ b ∷ []) w
left-first a b w leaves = λ log there. subst (Contains (a ∷ b ∷ [])) (sym (one-of a _ (leaves log there))) (0, omega arith, refl)

kept-first : (a b : Contents) (m : OnDisk KernelState) → Keeps (a ∷ []) m → Keeps (a ∷ b ∷ []) m
kept-first a b m keeps = record { world = keeps.world; stands = keeps.stands; leaves = left-first a b keeps.world keeps.leaves }

-- ---- calls

-- what is so after a command is what its outcome makes of it
after-is : (x : Present) (command : Command) → apply x (decide x own command) ≡ after x command
unfolding after
after-is x command = refl

-- what the machine answers, where it was asked
abbrev Answer : Type 0
Answer = Option (Result Reply NoMemory)

-- a call leaves what was left before
abbrev CommitsNothing : OnDisk KernelState → OnDisk KernelState → Type 0
CommitsNothing old new = (cs : List Contents) → Keeps cs old → Keeps cs new

-- a command commits nothing in a world
abbrev IsQuiet : Present → Command → Type 0
IsQuiet x command = (decide x own command).works ≡ []

-- the machine was not asked
unasked : (old new : OnDisk KernelState) → IsWornOut old new → CommitsNothing old new
unasked old new worn cs keeps = subst (Keeps cs) (sym worn.same) keeps

-- what is committed after a call that commits nothing is what was committed before
same-contents : (cs : List Contents) (m : OnDisk KernelState) (keeps : Keeps cs m) (command : Command) → IsQuiet (present keeps.world) command → m.it.now.machine.is_up ≡ true
    → Contains cs (contents_after (present keeps.world) (decide (present keeps.world) own command))
same-contents cs m keeps command none on = subst (λ works. Contains cs (with_works (contents_now (present keeps.world)) works)) (sym none) (committed-now cs m keeps.world keeps.stands keeps.leaves on)

-- a call that commits nothing leaves what was left before
still : (command : Command) (old new : OnDisk KernelState) (answer : Answer) → IsCalled command old new answer → (cs : List Contents) (keeps : Keeps cs old) → IsQuiet (present keeps.world) command → Keeps cs new
still command old new None worn cs keeps none = unasked old new worn cs keeps
still command old new (Some answer) called cs keeps none = called.commits.either cs keeps.world keeps.stands keeps.leaves (same-contents cs old keeps command none)

quiet : (command : Command) (old new : OnDisk KernelState) (answer : Answer) → IsCalled command old new answer → ((x : Present) → IsQuiet x command) → CommitsNothing old new
quiet command old new answer called none cs keeps = still command old new answer called cs keeps (none (present keeps.world))

-- a call that was not refused has come
come : (command : Command) (old new : OnDisk KernelState) (reply : Reply) → IsCalled command old new (Some (Ok reply)) → IsNoRefusal reply → (cs : List Contents) (keeps : Keeps cs old)
    → HasCome (present keeps.world) (decide (present keeps.world) own command) reply new
come command old new reply called clear cs keeps = called.commits.comes (inl clear) keeps.world keeps.stands

-- and its outcome refuses nothing
no-refusal : (x : Present) (command : Command) (new : OnDisk KernelState) (reply : Reply) → HasCome x (decide x own command) reply new → IsNoRefusal reply → IsNoRefusal (decide x own command).reply
no-refusal x command new reply came clear refusal is = clear refusal (came.says ∙ is)

done-clear : IsNoRefusal Reply.Done
done-clear refusal is = absurd (cc)

-- one that commits nothing goes on with what is so, and leaves what was left before
go-on : (command : Command) (old new : OnDisk KernelState) (reply : Reply) → IsCalled command old new (Some (Ok reply)) → IsNoRefusal reply → (cs : List Contents) (x : Present) → IsQuiet x command → KeepsAt cs x old → KeepsAt cs (after x command) new
go-on command old new reply called clear cs x none at = subst (λ (y : Present). KeepsAt cs (after y command) new) at.now (record {
  keeps = record {
    world = came.keeps.world;
    stands = came.keeps.stands;
    leaves = λ log there. subst (Contains cs) (sym (one-of _ _ (came.keeps.leaves log there))) (same-contents cs old keeps command (subst (λ (y : Present). IsQuiet y command) (sym at.now) none) on);
  };
  now = came.now ∙ after-is (present keeps.world) command;
})
  where
    keeps : Keeps cs old
    keeps = at.keeps

    came : HasCome (present keeps.world) (decide (present keeps.world) own command) reply new
    came = come command old new reply called clear cs keeps

    on : old.it.now.machine.is_up ≡ true
    on = up_is old.it old.told keeps.world keeps.stands ∙ decided-up (present keeps.world) own command (no-refusal (present keeps.world) command new reply came clear)

-- what the machine answers to a call that takes no memory, where it was asked
abbrev answer_with : Option Reply → Answer
answer_with (Some reply) = Some (Ok reply)
answer_with None = None

called-with : (command : Command) (old new : OnDisk KernelState) (said : Option Reply) → IsCompleted command old new said → IsCalled command old new (answer_with said)
called-with command old new (Some reply) asked = asked
called-with command old new None worn = worn

closed : (label : Label) (m n : OnDisk KernelState) (said : Option Reply) → IsCompleted (CloseHandle label) m n said → CommitsNothing m n
closed label m n said ended = quiet (CloseHandle label) m n (answer_with said) (called-with (CloseHandle label) m n said ended) (λ x. quiet-close x own label)

-- ---- a file is replaced

abbrev opens : Entry → Label → Label → Command
opens file transaction label = CreateFileTransacted label file.name.characters Write Nothing CreateAlways transaction

quiet-opens : (x : Present) (file : Entry) (transaction label : Label) → IsQuiet x (opens file transaction label)
quiet-opens x file transaction label = quiet-open x own label file.name.characters Write Nothing CreateAlways transaction

-- it was opened
pub opened : (file : Entry) (transaction : Label) (m n : OnDisk KernelState) (answer : Answer) (IsNamed : Label → Type 0) → IsBinding (opens file transaction) m n answer IsNamed → CommitsNothing m n
opened file transaction m n answer IsNamed bound = quiet (opens file transaction bound.label) m n answer bound.called (λ x. quiet-opens x file transaction bound.label)

module _ (file : Entry) (transaction : Label) (m n p q : OnDisk KernelState) (label : Label) (bound : IsBinding (opens file transaction) m n (Some (Ok Reply.Done)) (λ named. label ≡ named)) where
  -- what is so then
  open-at : (cs : List Contents) (keeps : Keeps cs m) → KeepsAt cs (after (present keeps.world) (opens file transaction label)) n
  open-at cs keeps = subst (λ (l : Label). KeepsAt cs (after (present keeps.world) (opens file transaction l)) n) (sym bound.named)
      (go-on (opens file transaction bound.label) m n Reply.Done bound.called done-clear cs (present keeps.world) (quiet-opens (present keeps.world) file transaction bound.label) (record { keeps = keeps; now = refl }))

  -- the label names no file that is open by a plain handle
  apart : (cs : List Contents) (keeps : Keeps cs m) → IsNotPlain (apply (present keeps.world) (decide (present keeps.world) own (opens file transaction bound.label))) own bound.label
  apart cs keeps = not-plain (present keeps.world) own bound.label file.name.characters Write Nothing CreateAlways transaction (kept-now m keeps.world keeps.stands).sound.files
      (no-refusal (present keeps.world) (opens file transaction bound.label) n Reply.Done (come (opens file transaction bound.label) m n Reply.Done bound.called done-clear cs keeps) done-clear)

  -- so to write it commits nothing
  write-quiet : (cs : List Contents) (keeps : Keeps cs m) → IsQuiet (after (present keeps.world) (opens file transaction label)) (WriteFile label 0 file.contents)
  write-quiet cs keeps = quiet-write (after (present keeps.world) (opens file transaction label)) own label 0 file.contents
      (subst (λ (l : Label). IsNotPlain (after (present keeps.world) (opens file transaction l)) own l) (sym bound.named)
      (subst (λ (y : Present). IsNotPlain y own bound.label) (after-is (present keeps.world) (opens file transaction bound.label)) (apart cs keeps)))

  -- then it was written
  written : (answer : Answer) → IsCalled (WriteFile label 0 file.contents) n p answer → CommitsNothing m p
  written answer called cs keeps =
      let at = open-at cs keeps in
      still (WriteFile label 0 file.contents) n p answer called cs at.keeps (subst (λ (y : Present). IsQuiet y (WriteFile label 0 file.contents)) (sym at.now) (write-quiet cs keeps))

  -- and closed
  pub replaced : (answer : Answer) (said : Option Reply) → IsCalled (WriteFile label 0 file.contents) n p answer → IsCompleted (CloseHandle label) p q said → CommitsNothing m q
  replaced answer said write close cs keeps = closed label p q said close cs (written answer write cs keeps)

  -- and where all of that was done, it is so
  pub done : (result : Result (Unit {0}) Failure) → IsCalled (WriteFile label 0 file.contents) n p (answer_of result (λ done. Reply.Done)) → IsCompleted (CloseHandle label) p q (Some Reply.Done)
      → IfOk result (λ done. (cs : List Contents) (keeps : Keeps cs m) → (label : Label) × KeepsAt cs (after_all (present keeps.world) (replacing transaction file label)) q)
  done (Ok unit) write close = λ cs keeps. (
    label,
    go-on (CloseHandle label) p q Reply.Done close done-clear cs (after (after (present keeps.world) (opens file transaction label)) (WriteFile label 0 file.contents)) (quiet-close (after (after (present keeps.world) (opens file transaction label)) (WriteFile label 0 file.contents)) own label)
        (go-on (WriteFile label 0 file.contents) n p Reply.Done write done-clear cs (after (present keeps.world) (opens file transaction label)) (write-quiet cs keeps) (open-at cs keeps)),
  )
  done (Err failed) write close = tt

-- ---- an installation

-- what came of a commit, with the failure that says the same
abbrev pub with_failure : Result CommitState CompletionFault → Result CommitState Failure
with_failure (Ok state) = Ok state
with_failure (Err fault) = Err (failure_of fault)

-- what is committed after a command
applied : (x : Present) (command : Command) → contents_now (after x command) ≡ contents_after x (decide x own command)
unfolding after
applied x command = works-made (committed_now x) (decide x own command).works

-- nothing was committed
pub nothing-yet : (before after : Contents) (m : OnDisk KernelState) (result : Result CommitState Failure) (Q : Failure → Type 0) → IsErrAnd result Q → Keeps (before ∷ []) m → IsAllOrNothing before after m result
nothing-yet before after m (Ok state) Q none keeps = absurd none
nothing-yet before after m (Err failed) Q is keeps = record { either = kept-first before after m keeps; ok = tt; err = λ other. keeps }

module _ (before : Contents) (key version : List ℕ) (m n : OnDisk KernelState) (label : Label) (t : Transaction) (keeps : Keeps (before ∷ []) m)
    (named : transaction_named (present keeps.world) own label ≡ Some t) (set : value_at (own_settings (present keeps.world).keys.own t.id) key ≡ Some (Some version)) where
  abbrev o : Outcome
  o = decide (present keeps.world) own (CommitTransaction label)

  abbrev all : Contents
  all = contents_now (after (present keeps.world) (CommitTransaction label))

  all-applied : all ≡ contents_after (present keeps.world) o
  all-applied = applied (present keeps.world) (CommitTransaction label)

  left : (answer : Answer) → IsCalled (CommitTransaction label) m n answer → Keeps (before ∷ all ∷ []) n
  left None worn = unasked m n worn (before ∷ all ∷ []) (kept-first before all m keeps)
  left (Some answer) called =
      called.commits.either (before ∷ all ∷ []) keeps.world keeps.stands (left-first before all keeps.world keeps.leaves) (λ on. subst (Contains (before ∷ all ∷ [])) all-applied (1, omega arith, refl))

  -- it says that it has committed
  all-kept : IsCalled (CommitTransaction label) m n (Some (Ok Reply.Committed)) → Keeps (all ∷ []) n
  all-kept called = subst (λ (c : Contents). Keeps (c ∷ []) n) (sym all-applied) (come (CommitTransaction label) m n Reply.Committed called (λ refusal is. absurd (cc)) (before ∷ []) keeps).keeps

  -- it was refused, but for a machine that is down
  refused : (refusal : Refusal) → refusal ≢ MachineDown → IsCalled (CommitTransaction label) m n (Some (Ok (Reply.Refused refusal))) → Keeps (before ∷ []) n
  refused refusal other called = still (CommitTransaction label) m n (Some (Ok (Reply.Refused refusal))) called (before ∷ []) keeps
      (let (step, world, does, stands) = called.leaves.does keeps.world keeps.stands in none step world does)
    where
      same_refusal : (refusal : Refusal) → Reply.Refused refusal ≡ Reply.Refused MachineDown → refusal ≡ MachineDown
      same_refusal refusal is = ap (λ (r : Reply). elim r as (λ _. Refusal) [ Reply.Refused refusal ↦ refusal | _ ↦ MachineDown ]) is

      none : (step : Step) (new : World) → CallDoes keeps.world o step (Reply.Refused refusal) new → o.works ≡ []
      none answered new (says, is) = (commits-all (present keeps.world) own label t named (some-settings (own_settings (present keeps.world).keys.own t.id) key (Some version) set)).refused refusal (sym says)
      none interrupted new (on, says, is) = absurd (other (same_refusal refusal says))
      none (found log) new never = absurd never
      none (found_worn log) new never = absurd never

  committed : (result : Result CommitState CompletionFault) → IsCompleted (CommitTransaction label) m n (reply_of result reply_of_state) → IsAllOrNothing before all n (with_failure result)
  committed (Ok Committed) called = record { either = left (Some (Ok Reply.Committed)) called; ok = λ is. all-kept called; err = tt }
  committed (Ok Pending) called = record { either = left (Some (Ok Reply.Pending)) called; ok = λ is. absurd (cc); err = tt }
  committed (Err completion.Worn) worn = record { either = left None worn; ok = tt; err = λ other. unasked m n worn (before ∷ []) keeps }
  committed (Err (completion.Refused refusal)) called = record { either = left (Some (Ok (Reply.Refused refusal))) called; ok = tt; err = λ other. refused refusal (λ is. other (ap failure.Refused is)) called }

-- a file was replaced, and it is known what is so then
abbrev IsReplaced : Label → Entry → OnDisk KernelState → OnDisk KernelState → Type 0
IsReplaced transaction file old new = (cs : List Contents) (keeps : Keeps cs old) → (label : Label) × KeepsAt cs (after_all (present keeps.world) (replacing transaction file label)) new

-- both files were replaced and the version was set, and the commit was asked for
pub installed : (before : Contents) (transaction : Label) (release : Release) (m n p q r : OnDisk KernelState) (result : Result CommitState CompletionFault) → IsReplaced transaction release.program m n
    → IsReplaced transaction release.manual n p → IsCalled (KvSet transaction release.version.name.characters release.version.contents) p q (Some (Ok Reply.Done)) → IsCompleted (CommitTransaction transaction) q r (reply_of result reply_of_state)
    → (keeps : Keeps (before ∷ []) m) → (program : Label) × (manual : Label) × IsAllOrNothing before (contents_now (after_all (present keeps.world) (installing transaction release program manual))) r (with_failure result)
installed before transaction release m n p q r result replaces replaces' set commit keeps =
    let key = release.version.name.characters in
    let version = release.version.contents in
    let sets : Command = KvSet transaction key version in
    let (program, first) = replaces (before ∷ []) keeps in
    let (manual, second) = replaces' (before ∷ []) first.keeps in
    let x = present second.keeps.world in
    let third = go-on sets p q Reply.Done set done-clear (before ∷ []) x (quiet-set x own transaction key version) (record { keeps = second.keeps; now = refl }) in
    let came = come sets p q Reply.Done set done-clear (before ∷ []) second.keeps in
    let then = set-then x own transaction key version (no-refusal x sets q Reply.Done came done-clear) in
    let now = after-is x sets ∙ sym third.now in
    let named = subst (λ (y : Present). transaction_named y own transaction ≡ Some then.0) now then.1 in
    let value = subst (λ (y : Present). value_at (own_settings y.keys.own then.0.id) key ≡ Some (Some version)) now then.2 in
    let is = committed before key version q r transaction then.0 third.keeps named value result commit in
    let all-now = third.now ∙ ap (λ (y : Present). after y sets) (second.now ∙ ap (λ (y : Present). after_all y (replacing transaction release.manual manual)) first.now) in
    (program, manual, subst (λ (y : Present). IsAllOrNothing before (contents_now (after y (CommitTransaction transaction))) r (with_failure result)) all-now is)

-- a key was set
pub set-quiet : (label : Label) (key value : List ℕ) (m n : OnDisk KernelState) (answer : Answer) → IsCalled (KvSet label key value) m n answer → CommitsNothing m n
set-quiet label key value m n answer called = quiet (KvSet label key value) m n answer called (λ x. quiet-set x own label key value)

-- ---- in a transaction of its own

made : (m n : OnDisk KernelState) (answer : Answer) (IsNamed : Label → Type 0) → IsBinding (λ label. CreateTransaction label 0) m n answer IsNamed → CommitsNothing m n
made m n answer IsNamed bound = quiet (CreateTransaction bound.label 0) m n answer bound.called (λ x. quiet-transaction x own bound.label 0)

-- what is committed where the machine is up
abbrev begun : (m : OnDisk KernelState) (w : World) → KernelAt m.it m.told w → m.it.now.machine.is_up ≡ true → Keeps (contents_now (present w) ∷ []) m
begun m w at on = record { world = w; stands = at; leaves = begins m w at on }

-- no transaction was made
pub none-made : (release : Release) (m n : OnDisk KernelState) (answer : Answer) (IsNamed : Label → Type 0) (result : Result CommitState Failure) (Q : Failure → Type 0) → IsBinding (λ label. CreateTransaction label 0) m n answer IsNamed → IsErrAnd result Q
    → (w : World) → KernelAt m.it m.told w → m.it.now.machine.is_up ≡ true → IsInstallation (present w) release n result
none-made release m n answer IsNamed result Q bound err w at on = record {
  transaction = bound.label;
  program = bound.label;
  manual = bound.label;
  leaves = nothing-yet (contents_now (present w)) _ n result Q err (made m n answer IsNamed bound _ (begun m w at on));
}

-- a call that commits nothing came behind it
stays : (before after : Contents) (m n : OnDisk KernelState) (result : Result CommitState Failure) → CommitsNothing m n → IsAllOrNothing before after m result → IsAllOrNothing before after n result
stays before after m n (Ok state) none is = record { either = none _ is.either; ok = λ same. none _ (is.ok same); err = tt }
stays before after m n (Err failed) none is = record { either = none _ is.either; ok = tt; err = λ other. none _ (is.err other) }

-- one was made, and closed behind the installation
pub in-one : (release : Release) (m n p q : OnDisk KernelState) (transaction : Label) (guid : List ℕ) (said : Option Reply) (result : Result CommitState Failure)
    → IsBinding (λ label. CreateTransaction label 0) m n (Some (Ok (Reply.Guid guid))) (λ label. transaction ≡ label)
    → ((before : Contents) (keeps : Keeps (before ∷ []) n) → (program : Label) × (manual : Label) × IsAllOrNothing before (contents_now (after_all (present keeps.world) (installing transaction release program manual))) p result)
    → IsCompleted (CloseHandle transaction) p q said → (w : World) → KernelAt m.it m.told w → m.it.now.machine.is_up ≡ true → IsInstallation (present w) release q result
in-one release m n p q transaction guid said result bound inside close w at on =
    let before = contents_now (present w) in
    let there : KeepsAt (before ∷ []) (after (present w) (CreateTransaction transaction 0)) n = subst (λ (l : Label). KeepsAt (before ∷ []) (after (present w) (CreateTransaction l 0)) n) (sym bound.named)
    (go-on (CreateTransaction bound.label 0) m n (Reply.Guid guid) bound.called (λ refusal is. absurd (cc)) (before ∷ []) (present w) (quiet-transaction (present w) own bound.label 0) (record { keeps = begun m w at on; now = refl })) in
    let (program, manual, is) = inside before there.keeps in
    record {
      transaction = transaction;
      program = program;
      manual = manual;
      leaves = stays before _ p q result (closed transaction p q said close)
          (subst (λ (x : Present). IsAllOrNothing before (contents_now (after_all x (installing transaction release program manual))) p result) there.now is);
    }
