-- Counts over lines, one after another.
use Rattle.std.proofs.Common.{◌≡◌, ℕ, ◌+◌, ◌≤◌, Bool, true, false, List, [], ◌∷◌, ◌++◌, Option, Some, None, refl, sym, ◌∙◌, ap, subst, arith, append_assoc, zero-add}
use Rattle.std.proofs.lemmas.List.{append-nil}
use Rattle.ktm_base.specs.declared.power.PowerCall.{PowerCall}
use Rattle.ktm_base.specs.declared.refusal.Refusal.TheVariants.{BadLine, MachineDown, MachineUp}
use Rattle.ktm_run.specs.Plan.{plan_of, plans, falls, RoseBy, calls}
use Rattle.ktm_kernel.specs.Stands.{KernelState}
use Rattle.ktm_log.specs.OnDisk.{OnDisk, on}
use Rattle.ktm_run.specs.Progress.{Counts}
use Rattle.ktm_world.specs.declared.command.Line.{Line}
use Rattle.ktm_world.specs.declared.command.Line.TheVariants.{Tick, Cut, Crash, Restart, Process}
use Rattle.ktm_world.specs.declared.reply.Reply.{Reply}
use Rattle.ktm_world.specs.declared.reply.Reply.TheVariants.{Refused, Done}
use Rattle.ktm_world.specs.Transcript.{Step, answered, interrupted, found, worn, IsAnswered, CallDoes, CrashDoes, StartDoes, RestartDoes, Does, Transcript}
use Rattle.ktm_world.specs.Outcome.{Outcome}
use Rattle.ktm_world.specs.World.{World}

pub RoseBy-none : (a b : ℕ) → a ≤ b → RoseBy 0 a b
RoseBy-none a b h = omega arith

pub RoseBy-then : (m n a b c : ℕ) → RoseBy m a b → RoseBy n b c → RoseBy (m + n) a c
RoseBy-then m n a b c h k = omega arith

pub Counts-then : (a b c : OnDisk KernelState) (m n : ℕ) (p q : List PowerCall) (f g : ℕ) → Counts a b m p f → Counts b c n q g → Counts a c (m + n) (p ++ q) (f + g)
Counts-then a b c m n p q f g h k = record {
  rose = RoseBy-then f g a.status.downs b.status.downs c.status.downs h.rose k.rose;
  plan_is = k.plan_is ∙ ap (λ (l : List PowerCall). l ++ q) h.plan_is ∙ append_assoc a.status.plan p q;
  few = omega (arith, h.few, k.few);
}

pub Counts-none : (a : OnDisk KernelState) → Counts a a 0 [] 0
Counts-none a = record { rose = RoseBy-none a.status.downs a.status.downs (omega arith); plan_is = sym (append-nil a.status.plan); few = omega arith }

pub calls-append : (units : ℕ) (xs ys : List (Option Line)) → calls units (xs ++ ys) ≡ calls units xs + calls units ys
calls-append units [] ys = sym (zero-add (calls units ys))
calls-append units (x ∷ xs) ys = let rest = calls-append units xs ys in omega arith

-- ---- along a transcript

-- a line that is answered leaves the world as it is
answered_keeps_base : (w : World) (says : Reply) (step : Step) (reply : Reply) (mid : World) → IsAnswered w says step reply mid → mid.base ≡ w.base
answered_keeps_base w says answered reply mid (same, is) = ap (λ v. v.base) is
answered_keeps_base w says interrupted reply mid none = absurd none
answered_keeps_base w says (found log) reply mid none = absurd none
answered_keeps_base w says (worn log) reply mid none = absurd none

call_keeps_base : (w : World) (o : Outcome) (step : Step) (reply : Reply) (mid : World) → CallDoes w o step reply mid → mid.base ≡ w.base
call_keeps_base w o answered reply mid (says, is) = ap (λ v. v.base) is
call_keeps_base w o interrupted reply mid (on, says, is) = ap (λ v. v.base) is
call_keeps_base w o (found log) reply mid none = absurd none
call_keeps_base w o (worn log) reply mid none = absurd none

crash_keeps_base : (on : Bool) (w : World) (step : Step) (reply : Reply) (mid : World) → CrashDoes on w step reply mid → mid.base ≡ w.base
crash_keeps_base true w answered reply mid (says, is) = ap (λ v. v.base) is
crash_keeps_base true w interrupted reply mid none = absurd none
crash_keeps_base true w (found log) reply mid none = absurd none
crash_keeps_base true w (worn log) reply mid none = absurd none
crash_keeps_base false w step reply mid does = answered_keeps_base w (Refused MachineDown) step reply mid does

start_keeps_base : (w : World) (step : Step) (reply : Reply) (mid : World) → StartDoes w step reply mid → mid.base ≡ w.base
start_keeps_base w answered reply mid none = absurd none
start_keeps_base w interrupted reply mid (says, is) = ap (λ v. v.base) is
start_keeps_base w (found log) reply mid (finds, says, is) = ap (λ v. v.base) is
start_keeps_base w (worn log) reply mid (finds, says, is) = ap (λ v. v.base) is

restart_keeps_base : (on : Bool) (w : World) (step : Step) (reply : Reply) (mid : World) → RestartDoes on w step reply mid → mid.base ≡ w.base
restart_keeps_base true w step reply mid does = answered_keeps_base w (Refused MachineUp) step reply mid does
restart_keeps_base false w step reply mid does = start_keeps_base w step reply mid does

-- a line leaves the state that the run began with
pub does_keeps_base : (w : World) (line : Option Line) (step : Step) (reply : Reply) (mid : World) → Does w line step reply mid → mid.base ≡ w.base
does_keeps_base w (Some (Process process command)) step reply mid does = call_keeps_base w _ step reply mid does
does_keeps_base w (Some (Tick ms)) step reply mid does = call_keeps_base w _ step reply mid does
does_keeps_base w (Some (Cut calls)) step reply mid does = answered_keeps_base w Done step reply mid does
does_keeps_base w (Some Crash) step reply mid does = crash_keeps_base _ w step reply mid does
does_keeps_base w (Some (Restart pick)) step reply mid does = restart_keeps_base _ w step reply mid does
does_keeps_base w None step reply mid does = answered_keeps_base w (Refused BadLine) step reply mid does

pub keeps_base : (w : World) (lines : List (Option Line)) (steps : List Step) (replies : List Reply) (new : World) → Transcript w lines steps replies new → new.base ≡ w.base
keeps_base w [] [] [] new is = ap (λ v. v.base) is
keeps_base w [] [] (reply ∷ replies) new run = absurd run
keeps_base w [] (step ∷ steps) replies new run = absurd run
keeps_base w (line ∷ lines) [] replies new run = absurd run
keeps_base w (line ∷ lines) (step ∷ steps) [] new run = absurd run
keeps_base w (line ∷ lines) (step ∷ steps) (reply ∷ replies) new (mid, does, run) = keeps_base mid lines steps replies new run ∙ does_keeps_base w line step reply mid does

pub Transcript-append : (w : World) (xs : List (Option Line)) (ss : List Step) (rs : List Reply) (mid : World) (ys : List (Option Line)) (ts : List Step) (qs : List Reply) (new : World)
    → Transcript w xs ss rs mid → Transcript mid ys ts qs new → Transcript w (xs ++ ys) (ss ++ ts) (rs ++ qs) new
Transcript-append w [] [] [] mid ys ts qs new h d = subst (λ (v : World). Transcript v ys ts qs new) h d
Transcript-append w (x ∷ xs) (s ∷ ss) (r ∷ rs) mid ys ts qs new h d = (h.0, h.1, Transcript-append h.0 xs ss rs mid ys ts qs new h.2 d)
Transcript-append w [] (s ∷ ss) rs mid ys ts qs new h d = absurd h
Transcript-append w [] [] (r ∷ rs) mid ys ts qs new h d = absurd h
Transcript-append w (x ∷ xs) [] rs mid ys ts qs new h d = absurd h
Transcript-append w (x ∷ xs) (s ∷ ss) [] mid ys ts qs new h d = absurd h

pub plans-append : (w : World) (xs : List (Option Line)) (ss : List Step) (rs : List Reply) (mid : World) (ys : List (Option Line)) (qs : List Reply) → Transcript w xs ss rs mid → plans (xs ++ ys) (rs ++ qs) ≡ plans xs rs ++ plans ys qs
plans-append w [] [] [] mid ys qs h = refl
plans-append w (x ∷ xs) (s ∷ ss) (r ∷ rs) mid ys qs h = ap (λ (l : List PowerCall). plan_of x r ++ l) (plans-append h.0 xs ss rs mid ys qs h.2) ∙ sym (append_assoc (plan_of x r) (plans xs rs) (plans ys qs))
plans-append w [] (s ∷ ss) rs mid ys qs h = absurd h
plans-append w [] [] (r ∷ rs) mid ys qs h = absurd h
plans-append w (x ∷ xs) [] rs mid ys qs h = absurd h
plans-append w (x ∷ xs) (s ∷ ss) [] mid ys qs h = absurd h

pub falls-append : (w : World) (xs : List (Option Line)) (ss : List Step) (rs : List Reply) (mid : World) (ys : List (Option Line)) (ts : List Step) (qs : List Reply) → Transcript w xs ss rs mid
    → falls (xs ++ ys) (ss ++ ts) (rs ++ qs) ≡ falls xs ss rs + falls ys ts qs
falls-append w [] [] [] mid ys ts qs h = omega arith
falls-append w (x ∷ xs) (s ∷ ss) (r ∷ rs) mid ys ts qs h = let more = falls-append h.0 xs ss rs mid ys ts qs h.2 in omega arith
falls-append w [] (s ∷ ss) rs mid ys ts qs h = absurd h
falls-append w [] [] (r ∷ rs) mid ys ts qs h = absurd h
falls-append w (x ∷ xs) [] rs mid ys ts qs h = absurd h
falls-append w (x ∷ xs) (s ∷ ss) [] mid ys ts qs h = absurd h
