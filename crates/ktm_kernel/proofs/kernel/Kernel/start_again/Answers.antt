use Rattle.std.proofs.Common.{◌≡◌, [], ap, arith, refl, subst, sym, ◌∙◌}
use Rattle.std.specs.Prelude.{vec_capacity}
use Rattle.ktm_core.specs.declared.machine.Core.{Core}
use Rattle.ktm_event.specs.Kept.{EventsState}
use Rattle.ktm_journal.specs.Image.{JournalState}
use Rattle.ktm_log.specs.OnDisk.{on}
use Rattle.ktm_world.specs.declared.reply.Reply.TheVariants.{Restarted}
use Rattle.ktm_world.specs.Sizes.{area_len, frame_size}
use Rattle.ktm_kernel.specs.Answers.{IsRestartAnswered}
use Rattle.ktm_kernel.specs.Buffers.{BuffersState}
use Rattle.ktm_kernel.specs.Stands.{KernelState, kernel_of}
use Rattle.ktm_kernel.proofs.Restarts.{kept_by}
use Rattle.ktm_kernel.proofs.StartAgain.{calls_up, found_few, restart_answered, unstarted_answered}
use Rattle.ktm_kernel.proofs.kernel.Kernel.start_again.Goals as goal

pub returns-in-Ok-clause-leaves : goal.returns-in-Ok-clause-leaves
returns-in-Ok-clause-leaves g c =
    let is = ap (λ (core : Core). kernel_of core.memory core.store) c.replace-in-Ok.ensures.after ∙ c.kernel.view_is in
    subst (λ (k : KernelState). IsRestartAnswered (on c.args.self.now (g.D.Disk.told c.args.disk.now) (g.D.Disk.status c.args.disk.now)) (on k (g.D.Disk.told c.restart.new.disk) (g.D.Disk.status c.restart.new.disk)) (Restarted c.in-Ok.restarted.events c.in-Ok.restarted.in_doubt)) (sym is)
    (restart_answered c.law_of_standing.ensures c.args.self.now _ _ _ _ _ _ c.in-Ok.restarted c.in-Ok.ensures.leaves)

pub invariant_of-self : goal.invariant_of-self
invariant_of-self g c = rw c.replace-in-Ok.ensures.after c.kernel.invariant

pub returns-in-Err-clause-leaves : goal.returns-in-Err-clause-leaves
returns-in-Err-clause-leaves g c = rw c.self.view_is
    (unstarted_answered c.law_of_standing.ensures c.args.self.now _ _ _ _ _ _ c.law_of_states.ensures.states c.law_of_bad_images.ensures c.requires.off c.requires.power c.requires.pending _ c.in-Err.fault c.in-Err.ensures.leaves c.in-Err.ensures.calls
    c.answer_of.result c.answer_of.ensures.ok c.answer_of.ensures.err)

pub events_in-requires-clause-reserved : goal.events_in-requires-clause-reserved
events_in-requires-clause-reserved g c =
    let kept = kept_by _ _ c.in-Err.fault c.in-Err.ensures.leaves in
    let nine : frame_size [] ≡ 9 = refl in
    omega (arith, nine, c.self.invariant.0.room, c.into_buffer-log.ensures.room, ap (λ (e : EventsState). e.room) c.replace.ensures.value, kept.log, ap (λ (b : BuffersState). b.log) c.buffers.view_is, ap (λ (j : JournalState). area_len j.units) c.journal.ensures)

pub invariant_of-self-in-Err : goal.invariant_of-self-in-Err
invariant_of-self-in-Err g c =
    let kept = kept_by _ _ c.in-Err.fault c.in-Err.ensures.leaves in (
      record { most = c.self.invariant.0.most; room = omega (arith, c.events_in.ensures.room, ap (λ (j : JournalState). area_len j.units) c.journal.ensures) },
      omega (arith, c.self.invariant.1, ap vec_capacity c.replace-snapshot.ensures.value, kept.snapshot, ap (λ (b : BuffersState). b.snapshot) c.buffers.view_is),
    )

pub returns-in-Ok-clause-few : goal.returns-in-Ok-clause-few
returns-in-Ok-clause-few g c = found_few c.args.self.now (g.D.Disk.told c.args.disk.now) _ _ c.in-Ok.ensures.few

pub returns-in-Err-clause-few : goal.returns-in-Err-clause-few
returns-in-Err-clause-few g c = found_few c.args.self.now (g.D.Disk.told c.args.disk.now) _ _ c.in-Err.ensures.few

pub returns-in-Ok-clause-calls : goal.returns-in-Ok-clause-calls
returns-in-Ok-clause-calls g c = calls_up _ _ _ c.requires.power c.in-Ok.ensures.calls
