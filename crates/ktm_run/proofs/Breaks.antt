-- Where a run ends early at a line, and a plan that got room.
use Rattle.std.proofs.Common.{◌≡◌, inl, inr, ℕ, List, [], ◌++◌, Option, Some, sym, ◌∙◌, ap, subst, arith}
use Rattle.std.proofs.lemmas.List.{append-nil}
use Rattle.ktm_base.specs.declared.power.PowerCall.{PowerCall}
use Rattle.ktm_base.specs.Disk.{DiskState, DiskStatus}
use Rattle.ktm_kernel.specs.Stands.{KernelState, KernelAt, LeftLaw}
use Rattle.ktm_run.proofs.Counting.{RoseBy-none}
use Rattle.ktm_run.proofs.Lines.{Means-kept}
use Rattle.ktm_log.specs.OnDisk.{OnDisk, on}
use Rattle.ktm_run.specs.Progress.{Counts, Did, Answers, Unanswered, HalfWritten}
use Rattle.ktm_dump.specs.Written.{AppendsPart}
use Rattle.ktm_run.specs.Script.{Means, kept_of, reply_line}
use Rattle.ktm_world.specs.declared.command.Line.{Line}
use Rattle.ktm_world.specs.declared.command.Line.TheVariants.{Restart}
use Rattle.ktm_world.specs.declared.reply.Reply.{Reply}
use Rattle.ktm_world.specs.World.{World}

-- a line that was not executed at all
pub unanswered_here : LeftLaw → (w : World) (s : OnDisk KernelState) (line : List ℕ) → KernelAt s.it s.told w → Unanswered w s s line
unanswered_here left w s line stands = record {
  leaves = left s.it s.told w stands;
  counts = inl (record { rose = RoseBy-none s.status.downs s.status.downs (omega arith); plan_is = sym (append-nil s.status.plan); few = omega arith });
}

-- what is kept of a line means what the line means
pub unanswered_kept : (w : World) (a b : OnDisk KernelState) (line : List ℕ) → Unanswered w a b (kept_of line) → Unanswered w a b line
unanswered_kept w a b line h = record {
  leaves = h.leaves;
  counts = elim h.counts [
    | inl none ↦ inl none
    | inr some ↦ inr (some.0, Means-kept line (Some (Restart some.0)) some.1, some.2, some.3)
  ];
}

-- what was counted from a status on whose plan there is more room
module _ (machine : KernelState) (disk mid_disk : Option DiskState) (same : mid_disk ≡ disk) (old mid : DiskStatus) (new : OnDisk KernelState) (room : mid ≡ record old { places = mid.places }) where
  abbrev pub before : OnDisk KernelState
  before = on machine disk old

  abbrev pub roomy : OnDisk KernelState
  roomy = on machine mid_disk mid

  counted : (most : ℕ) (plan : List PowerCall) (fell : ℕ) → Counts roomy new most plan fell → Counts before new most plan fell
  counted most plan fell h =
      let downs = ap (λ (s : DiskStatus). s.downs) room in
      let calls = ap (λ (s : DiskStatus). s.calls) room in
      let up = h.rose in
      let few = h.few in record {
        rose = omega (arith, downs, up);
        plan_is = h.plan_is ∙ ap (λ (s : DiskStatus). s.plan ++ plan) room;
        few = omega (arith, calls, few);
      }

  pub did_planned : (w : World) (line : Option Line) (reply : Reply) → Answers roomy new line reply → KernelAt machine disk w → Did w before new line reply
  did_planned w line reply answers stands =
      let did = answers w (subst (λ (d : Option DiskState). KernelAt machine d w) (sym same) stands) in
      record { step = did.step; world = did.world; does = did.does; stands = did.stands; counts = counted _ _ _ did.counts }

  pub unanswered_planned : (w : World) (line : List ℕ) → ((w : World) → KernelAt roomy.it roomy.told w → Unanswered w roomy new line) → KernelAt machine disk w → Unanswered w before new line
  unanswered_planned w line leaves stands =
      let h = leaves w (subst (λ (d : Option DiskState). KernelAt machine d w) (sym same) stands) in record {
        leaves = h.leaves;
        counts = elim h.counts [
          | inl none ↦ inl (counted _ [] 0 none)
          | inr some ↦ inr (some.0, some.1, some.2, counted _ _ 0 some.3)
        ];
      }

-- a line whose reply was not written whole
pub half_written : LeftLaw → (old new : OnDisk KernelState) (w : World) (taken now : Option (List ℕ)) (line : List ℕ) (meant : Option Line) (reply : Reply) → Means line meant → Answers old new meant reply
    → AppendsPart taken now (reply_line reply) → KernelAt old.it old.told w → HalfWritten w (record { scene = old; taken = taken }) (record { scene = new; taken = now }) line
half_written left old new w taken now line meant reply means answers wrote stands =
    let did = answers w stands in record { meant = meant; mean = means; reply = reply; did = did; wrote = wrote; leaves = left new.it new.told did.world did.stands }
