use Rattle.std.proofs.Common.{ℕ, List, Option, inl, inr, refl, arith}
use Rattle.std.proofs.KnownBytes.{Keeps-refl}
use Rattle.ktm_base.specs.Disk.{DiskState, DiskStatus}
use Rattle.ktm_log.specs.OnDisk.{on}
use Rattle.ktm_kernel.proofs.Openings.{begins_good, faults_bad, faults_down, faults_memory, faults_worn, safe_begins}
use Rattle.ktm_run.proofs.Lasting.{lasts_fresh}
use Rattle.ktm_run.proofs.Summarized.{early_reads_none, generated_early, generated_ended, sum_ends, sum_reads_none}
use Rattle.ktm_run.proofs.Theorems.{not_started_ends, run_begun}
use Rattle.ktm_run.specs.declared.status.Status.TheVariants.{NoMemory}
use Rattle.ktm_run.specs.Early.{NotRun, outside}
use Rattle.ktm_run.specs.Generated.{GeneratedLeaves}
use Rattle.ktm_run.proofs.generated.run_generated.Goals as goal

-- it ends out of memory before anything is opened
unopened : (number lines : ℕ) (left taken : Option (List ℕ)) (told : Option DiskState) (status : DiskStatus) → GeneratedLeaves number lines NoMemory (outside left taken told status) (outside left taken told status)
unopened number lines left taken told status = record {
  gen = λ base tells. inl (record { not_read = Keeps-refl left; not_written = Keeps-refl taken; plan_is = refl; image = safe_begins base told tells });
  ends = inl (record { not_run = record { not_read = refl; plan_is = refl }; not_written = Keeps-refl taken; disk = inl refl });
  reads_none = tt;
}

pub returns-in_default-clause-leaves : goal.returns-in_default-clause-leaves
returns-in_default-clause-leaves g c = λ left. unopened _ _ left _ _ _

pub returns-in-Err-clause-leaves : goal.returns-in-Err-clause-leaves
returns-in-Err-clause-leaves g c = λ left.
    let leaves = c.in-Err.ensures.leaves in
    let not_run : NotRun (outside left _ _ _) (outside left _ _ _) = record { not_read = refl; plan_is = c.open_kernel.ensures.plan } in
    record {
      gen = λ base tells.
          generated_early _ _ c.not_started.result base _ _ c.in-Err.why c.not_started.ensures.says
          (λ offset is. begins_good base c.law_of_bad_images.ensures (g.D.Disk.told c.args.disk.now) offset tells (faults_bad _ _ _ _ c.in-Err.why offset is leaves).bad)
          (λ is. (faults_worn _ _ _ _ c.in-Err.why is leaves).worn base tells)
          (λ is. (faults_down _ _ _ _ c.in-Err.why is leaves).leaves base tells)
          (λ is keeps. record { not_read = Keeps-refl left; not_written = keeps; plan_is = c.open_kernel.ensures.plan; image = (faults_memory _ _ _ _ c.in-Err.why is leaves).leaves base tells });
      ends = not_started_ends c.not_started.result _ _ _ c.in-Err.why c.not_started.ensures.says
          (λ offset is. let bad = faults_bad _ _ _ _ c.in-Err.why offset is leaves in record { not_run = not_run; same = bad.same; bad = bad.bad })
          (λ is. let worn = faults_worn _ _ _ _ c.in-Err.why is leaves in record { not_run = not_run; same = worn.same; worn = worn.there })
          (λ is keeps. record { not_run = not_run; not_written = keeps; went_down = (faults_down _ _ _ _ c.in-Err.why is leaves).went_down })
          (λ is keeps. record { not_run = not_run; not_written = keeps; disk = inr (faults_memory _ _ _ _ c.in-Err.why is leaves).prepared });
      reads_none = early_reads_none _ _ _ _ c.not_started.ensures.says;
    }

pub returns-clause-leaves : goal.returns-clause-leaves
returns-clause-leaves g c = λ left.
    let opened = c.in-Ok-open_kernel.ensures.leaves in
    let made = c.summarize-status.ensures.leaves in
    let first = on c.in-Ok-open_kernel.restarted.kernel (g.D.Disk.told c.open_kernel.new.disk) (g.D.Disk.status c.open_kernel.new.disk) in
    record {
      gen = λ base tells.
          let (stands, unworn) = opened.stands base tells in
          generated_ended _ _ base _ _ first c.summarize-status.new.kernel
          (g.met.D.Disk.lengths c.summarize-status.new.disk)
          stands unworn (run_begun base _ _ (opened.counts base tells)) (c.law_of_runs.ensures _ _ base stands opened.fresh) c.law_of_what_is_left.ensures c.requires.lines c.summarize-status.result made;
      ends = sum_ends _ _ _ _ c.summarize-status.result _ _ _ opened.begins made;
      reads_none = sum_reads_none _ _ _ _ c.summarize-status.result made;
    }

pub summarize-status-requires-clause-counts : goal.summarize-status-requires-clause-counts
summarize-status-requires-clause-counts g c = lasts_fresh c.in-Ok-open_kernel.restarted.kernel c.args.lines (omega (arith, c.requires.lines)) c.in-Ok-open_kernel.ensures.leaves.fresh
