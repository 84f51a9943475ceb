use Rattle.std.proofs.Common.{ℕ, List, Option, inl, inr, refl, arith}
use Rattle.std.proofs.KnownBytes.{Keeps-refl}
use Rattle.ktm_kernel.proofs.Openings.{begins_good, faults_bad, faults_down, faults_memory, faults_worn, safe_begins}
use Rattle.ktm_run.proofs.Lasting.{lasts_fresh}
use Rattle.ktm_run.proofs.Theorems.{not_started_early, not_started_ends, not_started_is, not_usage, run_begun, run_ended, script_ends, too_long}
use Rattle.ktm_log.specs.OnDisk.{on}
use Rattle.ktm_base.specs.Disk.{DiskState, DiskStatus}
use Rattle.ktm_run.specs.declared.status.Status.TheVariants.{NoMemory}
use Rattle.ktm_run.specs.Early.{NotRun, outside}
use Rattle.ktm_run.specs.Ended.{RunLeaves}
use Rattle.ktm_run.proofs.image.run_image.Goals as goal

-- the run ends out of memory before anything is opened
unopened : (left taken : Option (List ℕ)) (told : Option DiskState) (status : DiskStatus) → RunLeaves NoMemory (outside left taken told status) (outside left taken told status)
unopened left taken told status = record {
  run = λ base tells. inl (record {
    not_read = Keeps-refl left;
    not_written = Keeps-refl taken;
    plan_is = refl;
    image = safe_begins base told tells;
  });
  ends = inl (record { not_run = record { not_read = refl; plan_is = refl }; not_written = Keeps-refl taken; disk = inl refl });
  not_usage = λ same. absurd (cc);
  too_long = λ same. absurd (cc);
}

pub returns-in_default-clause-leaves : goal.returns-in_default-clause-leaves
returns-in_default-clause-leaves g c = unopened _ _ _ _

pub returns-in_default-vec-clause-leaves : goal.returns-in_default-vec-clause-leaves
returns-in_default-vec-clause-leaves g c = unopened _ _ _ _

pub returns-in-Err-clause-leaves : goal.returns-in-Err-clause-leaves
returns-in-Err-clause-leaves g c =
    let leaves = c.in-Err.ensures.leaves in
    let not_run : NotRun _ _ = record { not_read = refl; plan_is = c.open_kernel.ensures.plan } in
    let ended = not_started_is _ _ _ _ c.not_started.ensures.says in
    record {
      run = λ base tells.
          not_started_early c.not_started.result base _ _ c.in-Err.why c.not_started.ensures.says
          (λ offset is. begins_good base c.law_of_bad_images.ensures (g.D.Disk.told c.args.disk.now) offset tells (faults_bad _ _ _ _ c.in-Err.why offset is leaves).bad)
          (λ is. (faults_worn _ _ _ _ c.in-Err.why is leaves).worn base tells)
          (λ is. (faults_down _ _ _ _ c.in-Err.why is leaves).leaves base tells)
          (λ is keeps. record { not_read = Keeps-refl (g.S.Source.left c.args.source.now); not_written = keeps; plan_is = c.open_kernel.ensures.plan; image = (faults_memory _ _ _ _ c.in-Err.why is leaves).leaves base tells });
      ends = not_started_ends c.not_started.result _ _ _ c.in-Err.why c.not_started.ensures.says
          (λ offset is. let bad = faults_bad _ _ _ _ c.in-Err.why offset is leaves in record { not_run = not_run; same = bad.same; bad = bad.bad })
          (λ is. let worn = faults_worn _ _ _ _ c.in-Err.why is leaves in record { not_run = not_run; same = worn.same; worn = worn.there })
          (λ is keeps. record { not_run = not_run; not_written = keeps; went_down = (faults_down _ _ _ _ c.in-Err.why is leaves).went_down })
          (λ is keeps. record { not_run = not_run; not_written = keeps; disk = inr (faults_memory _ _ _ _ c.in-Err.why is leaves).prepared });
      not_usage = ended.0;
      too_long = λ same. absurd (ended.2 same);
    }

pub returns-in-Err-clause-source : goal.returns-in-Err-clause-source
returns-in-Err-clause-source g c = λ same. absurd ((not_started_is _ _ _ _ c.not_started.ensures.says).1 same)

pub returns-clause-leaves : goal.returns-clause-leaves
returns-clause-leaves g c =
    let opened = c.in-Ok-open_kernel.ensures.leaves in
    let made = c.run_script-status.ensures.leaves in
    record {
      run = λ base tells.
          let (stands, unworn) = opened.stands base tells in
          run_ended base _ _ (on c.in-Ok-open_kernel.restarted.kernel (g.D.Disk.told c.open_kernel.new.disk) (g.D.Disk.status c.open_kernel.new.disk)) c.run_script-status.new.kernel
          (g.met.D.Disk.lengths c.run_script-status.new.disk)
          stands unworn (run_begun base _ _ (opened.counts base tells)) (c.law_of_runs.ensures _ _ base stands opened.fresh) c.law_of_what_is_left.ensures c.run_script-status.result made;
      ends = script_ends _ _ c.run_script-status.result _ _ _ opened.begins made;
      not_usage = not_usage _ _ c.run_script-status.result made;
      too_long = too_long _ _ c.run_script-status.result made;
    }

pub run_script-status-requires-clause-counts : goal.run_script-status-requires-clause-counts
run_script-status-requires-clause-counts g c = lasts_fresh c.in-Ok-open_kernel.restarted.kernel _ (omega arith) c.in-Ok-open_kernel.ensures.leaves.fresh
