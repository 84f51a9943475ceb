-- What a loss of power leaves around a call.
use Rattle.std.proofs.Common.{◌≡◌, ◌⊎◌, ℕ, ◌++◌, not, Bool, true, false, List, [], ◌∷◌, length, zero, suc, map, fold, Option, Some, None, Result, Ok, Err, refl, sym, ◌∙◌, ap, subst, inl, inr, arith}
use Rattle.std.proofs.lemmas.Bool.{both_ways}
use Rattle.std.proofs.lemmas.List.{append-nil, drop-map}
use Rattle.std.proofs.lemmas.List.Sums.{fold-append}
use Rattle.std.specs.Prelude.{Contains}
use Rattle.ktm_base.specs.declared.fault.NoMemory.{NoMemory}
use Rattle.ktm_base.specs.declared.id.Pid.{Pid}
use Rattle.ktm_base.specs.declared.refusal.Refusal.{Refusal}
use Rattle.ktm_base.specs.declared.refusal.Refusal.TheVariants.{MachineDown}
use Rattle.ktm_kernel.proofs.offered.Standing.{recorded_is, stands_up, up_is}
use Rattle.ktm_kernel.specs.Answers.{CallLeaves}
use Rattle.ktm_kernel.specs.Stands.{KernelAt, KernelState}
use Rattle.ktm_laws.specs.Running.{HasEventsLeft, IsRunning, LawfulWorldsLaw}
use Rattle.ktm_log.specs.OnDisk.{OnDisk}
use Rattle.ktm_records.specs.Kept.{IsKept}
use Rattle.ktm_world.specs.declared.change.Change.{Change}
use Rattle.ktm_world.specs.declared.command.Command.{Command}
use Rattle.ktm_world.specs.declared.event.Event.{Event}
use Rattle.ktm_world.specs.declared.reply.Reply.{Reply}
use Rattle.ktm_world.specs.Changes.{changed_all}
use Rattle.ktm_world.specs.Committed.{Committed, Work, committed_with, with_change, with_work}
use Rattle.ktm_world.specs.Decide.{command_effect, command_tests, decide, refusal_of}
use Rattle.ktm_world.specs.Durable.{Durable, stand}
use Rattle.ktm_world.specs.Keys.{stored_all}
use Rattle.ktm_world.specs.Lawful.{Agrees}
use Rattle.ktm_world.specs.Logs.{Group, Power, up, down, is_up, as_groups, kept_after, possible_by, prefixes, prefixes_from}
use Rattle.ktm_world.specs.Outcome.{Outcome, first_refusal, refuse_or}
use Rattle.ktm_world.specs.Present.{Present}
use Rattle.ktm_world.specs.Transcript.{Step, answered, interrupted, found, worn, CallDoes}
use Rattle.ktm_world.specs.World.{World, committed, extend, possible_logs, present}
use Rattle.ktm_world.proofs.offered.Worlds.{step_law}
use Rattle.ktm_works.specs.Works.{Contents, HasCome, IsNoRefusal, Keeps, Leaves, WorksLaw, contents_after, contents_now, contents_of, with_works}

-- ---- what may be left of a log

first-is : {X : Type 0} (x : X) (xs : List X) → Contains (x ∷ xs) x
first-is x xs = (0, omega arith, refl)

unmapped : {X Y : Type 0} (f : X → Y) (xs : List X) (y : Y) → Contains (map f xs) y → (x : X) × Contains xs x × (f x ≡ y)
unmapped f [] y (k, within, is) = absurd (omega arith)
unmapped f (x ∷ xs) y (zero, within, is) = (x, first-is x xs, is)
unmapped f (x ∷ xs) y (suc k, within, is) = let (z, (j, inside, at), same) = unmapped f xs y (k, omega arith, is) in (z, (suc j, omega arith, at), same)

-- the log, or the log with the group
left-cases : (log : List Group) (events : List Event) (left : List Group) → Contains (prefixes_from (length log) (log ++ as_groups events)) left → (left ≡ log) ⊎ (left ≡ log ++ as_groups events)
left-cases [] [] left (zero, within, is) = inl (sym is)
left-cases [] [] left (suc k, within, is) = absurd (omega arith)
left-cases [] (e ∷ es) left (zero, within, is) = inl (sym is)
left-cases [] (e ∷ es) left (suc zero, within, is) = inr (sym is)
left-cases [] (e ∷ es) left (suc (suc k), within, is) = absurd (omega arith)
left-cases (g ∷ log) events left there =
    let (rest, inside, is) = unmapped (λ (l : List Group). g ∷ l) (prefixes_from (length log) (log ++ as_groups events)) left
    (subst (λ (ls : List (List Group)). Contains ls left) (drop-map (λ (l : List Group). g ∷ l) (length log) (prefixes (log ++ as_groups events))) there) in
    elim (left-cases log events rest inside) [
      | inl same ↦ inl (sym is ∙ ap (λ (l : List Group). g ∷ l) same)
      | inr more ↦ inr (sym is ∙ ap (λ (l : List Group). g ∷ l) more)
    ]

-- a log whose groups are all kept is left whole
left-whole : (log : List Group) (kept : ℕ) (left : List Group) → kept ≡ length log → Contains (prefixes_from kept log) left → left ≡ log
left-whole log kept left all there =
    elim (left-cases log [] left (subst (λ (l : List Group). Contains (prefixes_from (length log) l) left) (sym (append-nil log)) (subst (λ n. Contains (prefixes_from n log) left) all there))) [
      | inl same ↦ same
      | inr more ↦ more ∙ append-nil log
    ]

log-possible : (log more : List Group) → Contains (prefixes_from (length log) (log ++ more)) log
log-possible [] [] = first-is [] []
log-possible [] (g ∷ more) = first-is [] _
log-possible (g ∷ log) more =
    subst (λ (ls : List (List Group)). Contains ls (g ∷ log)) (sym (drop-map (λ (l : List Group). g ∷ l) (length log) (prefixes (log ++ more)))) (mapped (prefixes_from (length log) (log ++ more)) (log-possible log more))
  where
    mapped : (ls : List (List Group)) → Contains ls log → Contains (map (λ (l : List Group). g ∷ l) ls) (g ∷ log)
    mapped [] (k, within, is) = absurd (omega arith)
    mapped (l ∷ ls) (zero, within, is) = (0, omega arith, ap (λ (l : List Group). g ∷ l) is)
    mapped (l ∷ ls) (suc k, within, is) = let (j, inside, at) = mapped ls (k, omega arith, is) in (suc j, omega arith, at)

-- while a machine is up its whole log may be left
whole-possible : (w : World) → is_up w.power ≡ true → w.kept ≡ length w.log → Contains (possible_logs w) w.log
whole-possible w on all = go w.power refl on
  where
    go : (power : Power) → w.power ≡ power → is_up power ≡ true → Contains (possible_by w.power w.kept w.log) w.log
    go up is on = subst (λ p. Contains (possible_by p w.kept w.log) w.log) (sym is) (subst (λ n. Contains (prefixes_from n w.log) w.log) (sym all)
        (subst (λ (l : List Group). Contains (prefixes_from (length w.log) l) w.log) (append-nil w.log) (log-possible w.log [])))
    go (down may) is on = absurd (both_ways false refl on)

-- ---- what works make of what is committed

abbrev pub contents_in : Committed → Contents
contents_in c = record { tree = c.tree; keys = c.store }

changes-made : (c : Committed) (changes : List Change) → (fold with_change c changes).tree ≡ changed_all c.tree changes
changes-made c [] = refl
changes-made c (change ∷ changes) = changes-made (with_change c change) changes

pub works-made : (c : Committed) (works : List Work) → contents_in (committed_with c works) ≡ with_works (contents_in c) works
works-made c [] = refl
works-made c (work ∷ works) = works-made (with_work c work) works ∙ ap (λ (d : Contents). with_works d works) (λ i. record { tree = changes-made c work.changes i; keys = stored_all c.store work.settings })

agreed : (x : Present) → Agrees x → contents_of x.recorded ≡ contents_now x
agreed x a i = record { tree = a.tree i; keys = a.keys i }

-- ---- worlds

-- of a world that is up
whole-left : (w : World) → IsRunning w → w.power ≡ up → Leaves (contents_now (present w) ∷ []) w
whole-left w running on log there =
    let is = left-whole w.log w.kept log running.kept (subst (λ p. Contains (possible_by p w.kept w.log) log) on there) in
    (0, omega arith, sym (ap (λ (l : List Group). contents_of (stand w.base l)) is ∙ ap contents_of running.comes_to ∙ agreed (present w) running.now.agrees))

is-up : (power : Power) → is_up power ≡ true → power ≡ up
is-up up on = refl
is-up (down may) on = absurd (both_ways false refl on)

-- ---- what is decided without a refusal

not-refused : (x : Present) (refusal : Option Refusal) (effect : Outcome) → IsNoRefusal (refuse_or x refusal effect).reply → (refusal ≡ None) × (refuse_or x refusal effect ≡ effect)
not-refused x None effect clear = (refl, refl)
not-refused x (Some refusal) effect clear = absurd (clear refusal refl)

pub decided-so : (x : Present) (process : Pid) (command : Command) → IsNoRefusal (decide x process command).reply → (refusal_of x process command ≡ None) × (decide x process command ≡ command_effect x process command)
decided-so x process command clear = not-refused x (refusal_of x process command) (command_effect x process command) clear

up-of : (b : Bool) (tests : List (Bool × Refusal)) → first_refusal ((not b, MachineDown) ∷ tests) ≡ None → b ≡ true
up-of true tests none = refl
up-of false tests none = absurd (cc)

-- only where the machine is up
pub decided-up : (x : Present) (process : Pid) (command : Command) → IsNoRefusal (decide x process command).reply → x.machine.is_up ≡ true
decided-up x process command clear = up-of x.machine.is_up (command_tests x process command) (decided-so x process command clear).0

-- ---- a call, in a world

module _ (lawful : LawfulWorldsLaw) (w : World) (process : Pid) (command : Command) (counts : HasEventsLeft (present w)) (running : IsRunning w) where
  abbrev o : Outcome
  o = decide (present w) process command

  ran : IsRunning (extend w o)
  ran = lawful.commands w process command counts running

  after-is : contents_now (present (extend w o)) ≡ contents_after (present w) o
  after-is = ap contents_in (fold-append with_work w.start w.works o.works) ∙ works-made (committed w) o.works

  comes-to : contents_of (stand w.base (w.log ++ as_groups o.events)) ≡ contents_after (present w) o
  comes-to = ap contents_of ran.comes_to ∙ agreed (present (extend w o)) ran.now.agrees ∙ after-is

  -- where it was answered, or the power went in it
  left : (cs : List Contents) → Leaves cs w → (is_up w.power ≡ true → Contains cs (contents_after (present w) o)) → (step : Step) (reply : Reply) (new : World) → CallDoes w o step reply new → Leaves cs new
  left cs before then answered reply new (says, is) = subst (λ v. Leaves cs v) (sym is) (go w.power refl)
    where
      go : (power : Power) → w.power ≡ power → (log : List Group) → Contains (possible_by w.power (kept_after w.kept w.log o.events) (w.log ++ as_groups o.events)) log → Contains cs (contents_of (stand w.base log))
      go up is log there =
          let whole = left-whole (w.log ++ as_groups o.events) (kept_after w.kept w.log o.events) log ran.kept (subst (λ p. Contains (possible_by p (kept_after w.kept w.log o.events) (w.log ++ as_groups o.events)) log) is there) in
          subst (Contains cs) (sym (ap (λ (l : List Group). contents_of (stand w.base l)) whole ∙ comes-to)) (then (ap is_up is))
      go (down may) is log there = before log (subst (λ p. Contains (possible_by p w.kept w.log) log) (sym is) (subst (λ p. Contains (possible_by p (kept_after w.kept w.log o.events) (w.log ++ as_groups o.events)) log) is there))
  left cs before then interrupted reply new (on, says, is) = subst (λ v. Leaves cs v) (sym is) (λ log there.
      elim (left-cases w.log o.events log (subst (λ n. Contains (prefixes_from n (w.log ++ as_groups o.events)) log) running.kept there)) [
        | inl same ↦ subst (λ (l : List Group). Contains cs (contents_of (stand w.base l))) (sym same) (before w.log (whole-possible w on running.kept))
        | inr more ↦ subst (Contains cs) (sym (ap (λ (l : List Group). contents_of (stand w.base l)) more ∙ comes-to)) (then on)
      ])
  left cs before then (found log) reply new none = absurd none
  left cs before then (worn log) reply new none = absurd none

  -- where it was answered, and not refused, or the world is up then
  came : (step : Step) (reply : Reply) (new : World) → CallDoes w o step reply new → IsNoRefusal reply ⊎ (is_up new.power ≡ true) → (reply ≡ o.reply) × (new ≡ extend w o) × ((extend w o).power ≡ up)
  came answered reply new (says, is) (inl clear) =
      (says, is, is-up w.power (decided-up (present w) process command (subst IsNoRefusal says clear)))
  came answered reply new (says, is) (inr on) = (says, is, is-up (extend w o).power (ap (λ (v : World). is_up v.power) (sym is) ∙ on))
  came interrupted reply new (on, says, is) (inl clear) = absurd (clear MachineDown says)
  came interrupted reply new (on, says, is) (inr still) = absurd (both_ways false refl (ap (λ (v : World). is_up v.power) (sym is) ∙ still))
  came (found log) reply new none clear = absurd none
  came (worn log) reply new none clear = absurd none

-- ---- what is left now

-- a world for which a machine stands runs
runs-of : (m : OnDisk KernelState) (w : World) → KernelAt m.it m.told w → IsRunning w
runs-of m w at = (recorded_is m.it m.told w at).1.running

-- of a machine that is up it is what is committed now
pub begins : (m : OnDisk KernelState) (w : World) → KernelAt m.it m.told w → m.it.now.machine.is_up ≡ true → Leaves (contents_now (present w) ∷ []) w
begins m w at on = whole-left w (runs-of m w at) (stands_up m.it m.told w at on).0

pub committed-now : (cs : List Contents) (m : OnDisk KernelState) (w : World) → KernelAt m.it m.told w → Leaves cs w → m.it.now.machine.is_up ≡ true → Contains cs (contents_now (present w))
committed-now cs m w at leaves on =
    let running = runs-of m w at in
    subst (Contains cs) (ap contents_of running.comes_to ∙ agreed (present w) running.now.agrees) (leaves w.log (whole-possible w (ap is_up (stands_up m.it m.told w at on).0) running.kept))

-- and what is so now is kept
pub kept-now : (m : OnDisk KernelState) (w : World) → KernelAt m.it m.told w → IsKept (present w)
kept-now m w at = (runs-of m w at).now

-- ---- calls

-- the count of events goes on in the world
events-left : (m : OnDisk KernelState) (w : World) → KernelAt m.it m.told w → HasEventsLeft m.it.now → HasEventsLeft (present w)
events-left m w at counts = let ((row, recorded), standing) = recorded_is m.it m.told w at in let same = ap (λ (d : Durable). d.events) recorded in omega (arith, counts, same)

module _ (lawful : LawfulWorldsLaw) where
  calls : (process : Pid) (command : Command) (old new : OnDisk KernelState) (answer : Result Reply NoMemory) → HasEventsLeft old.it.now → CallLeaves process command old new answer
      → (cs : List Contents) (w : World) → KernelAt old.it old.told w → Leaves cs w → (old.it.now.machine.is_up ≡ true → Contains cs (contents_after (present w) (decide (present w) process command))) → Keeps cs new
  calls process command old new (Ok reply) counts leaves cs w at before then =
      let (step, after, does, stands) = leaves.does w at in
      record {
        world = after;
        stands = stands;
        leaves = left lawful w process command (events-left old w at counts) (runs-of old w at) cs before (λ on. then (up_is old.it old.told w at ∙ on)) step reply after does;
      }
  calls process command old new (Err fault) counts unanswered cs w at before then = record { world = w; stands = unanswered.at w at; leaves = before }

  comes : (process : Pid) (command : Command) (old new : OnDisk KernelState) (reply : Reply) → HasEventsLeft old.it.now → CallLeaves process command old new (Ok reply) → IsNoRefusal reply ⊎ (new.it.now.machine.is_up ≡ true)
      → (w : World) → KernelAt old.it old.told w → HasCome (present w) (decide (present w) process command) reply new
  comes process command old new reply counts leaves clear w at =
      let running = runs-of old w at in
      let events_left = events-left old w at counts in
      let (step, after, does, stands) = leaves.does w at in
      let clear_after : IsNoRefusal reply ⊎ (is_up after.power ≡ true) = elim clear [ inl told ↦ inl told | inr on ↦ inr (sym (up_is new.it new.told after stands) ∙ on) ] in
      let came = came lawful w process command events_left running step reply after does clear_after in
      let then = extend w (decide (present w) process command) in
      let at-then = subst (λ v. KernelAt new.it new.told v) came.1 stands in
      record {
        says = came.0;
        keeps = record {
          world = then;
          stands = at-then;
          leaves = subst (λ (c : Contents). Leaves (c ∷ []) then) (after-is lawful w process command events_left running) (whole-left then (lawful.commands w process command events_left running) came.2);
        };
        now = step_law.0 w (decide (present w) process command) running.openings;
        up = up_is new.it new.told then at-then ∙ ap is_up came.2;
      }

  pub works_law : WorksLaw
  works_law process command old new (Ok reply) counts leaves = record { either = calls process command old new (Ok reply) counts leaves; comes = comes process command old new reply counts leaves }
  works_law process command old new (Err fault) counts leaves = record { either = calls process command old new (Err fault) counts leaves; comes = tt }
