use Rattle.std.proofs.Common.{◌≡◌, false, filter, ◌∙◌, ap, inl, inr}
use Rattle.std.specs.Prelude.{◌⊎◌}
use Rattle.ktm_event.specs.OnPages.{AreEach, IsRecordedChange}
use Rattle.ktm_event.specs.Work.{changes_of}
use Rattle.ktm_memory.specs.Memory.{held}
use Rattle.ktm_world.specs.declared.recorded.Stage.{Stage}
use Rattle.ktm_world.specs.declared.recorded.Stage.TheVariants.{Ready, Held}
use Rattle.ktm_world.specs.Durable.{is_decided}
use Rattle.ktm_world.specs.Files.{own_changes}
use Rattle.ktm_world.specs.Keys.{KeysNow, own_settings}
use Rattle.txf_overlay.specs.OverlayState.{is_of_names}
use Rattle.ktm_memory.specs.Shown.{shown}
use Rattle.ktm_saving.proofs.Recorded.{recorded-changes, recorded-is_work, spelled-recorded}
use Rattle.ktm_saving.proofs.owned.left_to_commit.Goals as goal

waiting : (stage : Stage) → (stage ≡ Ready) ⊎ (stage ≡ Held) → is_decided stage ≡ false
waiting stage (inl ready) = ap is_decided ready
waiting stage (inr held') = ap is_decided held'

pub returns-in-Ready : goal.returns-in-Ready
returns-in-Ready c =
    let waits = waiting c.args.stage c.in-Ready.is in
    let own = own_changes (held c.args.memory.now).files.table.own c.args.id in
    let files = shown c.written.result in
    let recorded = changes_of c.names.result.now files in
    let names : c.names.result.now ≡ filter is_of_names own = rw c.files.ensures at c.names.ensures in
    let are : AreEach IsRecordedChange own recorded = rw names (rw c.files-in-Ready.ensures at c.written.ensures) in
    record {
      changes = rw waits (recorded-changes own recorded are);
      work = recorded-is_work own c.names.result.now files names are;
      spelled = rw waits (spelled-recorded c.law_of_pages.ensures own recorded are);
      settings = rw waits (c.own_settings.ensures ∙ ap (λ (keys : KeysNow). own_settings keys.own c.args.id) c.keys.ensures);
    }
