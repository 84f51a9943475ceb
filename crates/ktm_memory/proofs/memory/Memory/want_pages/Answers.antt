use Rattle.std.proofs.Common.{◌≡◌, ◌*◌, ◌≤◌, Bool, List, [], filter, length, All, sum_by, ap, sym, subst, ◌∙◌, arith}
use Rattle.std.specs.List.{flat_map}
use Rattle.std.specs.Prelude.{if◌then◌else◌}
use Rattle.std.proofs.lemmas.List.Elements.{All-append, All-nil}
use Rattle.ktm_course.specs.Moved.{records_files}
use Rattle.ktm_event.specs.OnPages.{AreEach, IsRecordedChange}
use Rattle.ktm_each.specs.Each.{EachOfChange, EachOfChanges}
use Rattle.ktm_event.specs.Work.{changes_of as recorded_changes, changes_of_file}
use Rattle.ktm_store.specs.Store.{IsStoredAt}
use Rattle.ktm_store.proofs.Wanted.{wants-none}
use Rattle.ktm_world.specs.declared.change.Change.{Change}
use Rattle.ktm_world.specs.declared.step.Step.{Step}
use Rattle.ktm_world.specs.FileOutcome.{FileOutcome}
use Rattle.ktm_world.specs.Files.{own_changes}
use Rattle.ktm_world.specs.Present.{Present}
use Rattle.txf_overlay.specs.OverlayState.{is_of_names}
use Rattle.txf_volume.specs.Held.{files_of}
use Rattle.txf_volume.specs.Shown.{shown}
use Rattle.ktm_memory.specs.Memory.{MemoryState, present_of}
use Rattle.ktm_memory.specs.Settled.{changes_put, left_to_do}
use Rattle.ktm_memory.specs.Stored.{NamesBelow, NamesStored, pages_named, units_of_change, units_put}
use Rattle.ktm_memory.proofs.FewWanted.{change-units, course-units, later-few}
use Rattle.ktm_memory.proofs.Wanting.{all-below, all-stored, change-low, names-stored, others-put, puts-stored, right-part}
use Rattle.ktm_memory.proofs.WorkRecords.{recorded-final}
use Rattle.ktm_memory.proofs.offered.Following.{own-each}
use Rattle.ktm_memory.proofs.memory.Memory.want_pages.Goals as goal
use Rattle.ktm_memory.proofs.memory.Memory.want_pages.Goals.{After-written}

pub want_change-requires : goal.want_change-requires
want_change-requires c =
    change-low (length c.args.store.now.marks.held) (present_of c.args.self.now) c.in-Change.process c.in-Change.label c.in-Change.plan c.in-Change.ready c.in-Some.change
    (ap (λ (p : FileOutcome). p.change) (sym c.plan.view_is) ∙ c.in-Some.is) (rw c.in-Change.is at c.requires.events)

-- a transaction's steps
module _ (c : After-written) where
  abbrev x : Present
  x = present_of c.args.self.now

  abbrev own : List Change
  own = own_changes x.files.table.own c.in-Course.transaction.id

  abbrev raw : List Change
  raw = recorded_changes (filter is_of_names own) (shown c.written.result)

  each : AreEach IsRecordedChange own raw
  each = subst (λ (m : MemoryState). (let cs : List Change = own_changes (files_of m.files).table.own c.in-Course.transaction.id in AreEach IsRecordedChange cs (recorded_changes (filter is_of_names cs) (shown c.written.result)))) c.self.view_is c.written.ensures

  written-below : All (NamesBelow (length c.args.store.now.marks.held)) (flat_map changes_of_file (shown c.written.result))
  written-below =
      right-part (NamesBelow (length c.args.store.now.marks.held)) (filter is_of_names own) (flat_map changes_of_file (shown c.written.result))
      (all-below (length c.args.store.now.marks.held) own raw each (recorded-final own (shown c.written.result)) (own-each (λ file index place. place ≤ length c.args.store.now.marks.held * 4096) x.files.table.own c.in-Course.transaction.id c.requires.files.own))

  written-few : sum_by pages_named (flat_map changes_of_file (shown c.written.result)) ≤ sum_by units_of_change own
  written-few = later-few own (filter is_of_names own) (flat_map changes_of_file (shown c.written.result)) each (recorded-final own (shown c.written.result))

  put-is : changes_put x c.args.settlement.now ≡ own
  put-is =
      ap (changes_put x) c.in-Course.is
      ∙ ap (λ (b : Bool). if b then own else []) (sym (ap (λ (steps : List Step). records_files steps) c.as_slice.ensures.value) ∙ sym c.records_files.ensures ∙ c.if-records_files.true)

  own-stored : (stored : List Bool) → All (NamesStored stored) (flat_map changes_of_file (shown c.written.result)) → EachOfChanges (λ file index place. IsStoredAt stored place) (changes_put x c.args.settlement.now)
  own-stored stored written =
      subst (EachOfChanges (λ file index place. IsStoredAt stored place)) (sym put-is)
      (all-stored stored own raw each (All-append (NamesStored stored) (filter is_of_names own) (flat_map changes_of_file (shown c.written.result)) (names-stored stored own) written))

pub want_written-requires : goal.want_written-requires
want_written-requires c = written-below (goal.at.want_written-requires c).After-written

pub returns-then-records_files-clause-stored : goal.returns-then-records_files-clause-stored
returns-then-records_files-clause-stored c =
    puts-stored (present_of c.args.self.now) c.args.settlement.now c.requires.puts c.want_written.new.store.stored
    (own-stored (goal.at.returns-then-records_files-clause-stored c).After-written c.want_written.new.store.stored c.want_written.ensures.stored)

pub returns-then-records_files-clause-few : goal.returns-then-records_files-clause-few
returns-then-records_files-clause-few c =
    let x = present_of c.args.self.now in
    let named = written-few (goal.at.returns-then-records_files-clause-few c).After-written in
    let units : sum_by units_of_change (own_changes x.files.table.own c.in-Course.transaction.id) ≤ units_put (left_to_do x c.args.settlement.now).events =
    rw c.in-Course.is (course-units c.law_of_events_ahead.ensures x c.in-Course.transaction c.in-Course.caller c.in-Course.steps (ap (λ (steps : List Step). records_files steps) (sym c.as_slice.ensures.value) ∙ sym c.records_files.ensures ∙ c.if-records_files.true)) in
    let few = c.want_written.ensures.few in
    omega (arith, named, units, few)

pub returns-in-Some-clause-few : goal.returns-in-Some-clause-few
returns-in-Some-clause-few c =
    let x = present_of c.args.self.now in
    let units : units_of_change c.in-Some.change ≤ units_put (left_to_do x c.args.settlement.now).events =
    rw c.in-Change.is (change-units x c.in-Change.process c.in-Change.label c.in-Change.plan c.in-Change.ready c.in-Some.change (ap (λ (p : FileOutcome). p.change) (sym c.plan.view_is) ∙ c.in-Some.is)) in
    let few = c.want_change.ensures.few in
    omega (arith, units, few)

pub returns-else-records_files-clause-stored : goal.returns-else-records_files-clause-stored
returns-else-records_files-clause-stored c =
    let x = present_of c.args.self.now in
    let none : changes_put x c.args.settlement.now ≡ [] =
    ap (changes_put x) c.in-Course.is
    ∙ ap (λ (b : Bool). if b then own_changes x.files.table.own c.in-Course.transaction.id else []) (sym (ap (λ (steps : List Step). records_files steps) c.as_slice.ensures.value) ∙ sym c.records_files.ensures ∙ c.if-records_files.false) in
    puts-stored x c.args.settlement.now c.requires.puts c.args.store.now.stored
    (subst (EachOfChanges (λ file index place. IsStoredAt c.args.store.now.stored place)) (sym none) (All-nil (EachOfChange (λ file index place. IsStoredAt c.args.store.now.stored place))))

pub returns-in_default : goal.returns-in_default
returns-in_default c =
    let x = present_of c.args.self.now in
    record {
      wants = wants-none c.args.store.now;
      stored = puts-stored x c.args.settlement.now c.requires.puts c.args.store.now.stored
          (subst (EachOfChanges (λ file index place. IsStoredAt c.args.store.now.stored place)) (sym (others-put x c.args.settlement.now c.in_default.not-Change c.in_default.not-Course)) (All-nil (EachOfChange (λ file index place. IsStoredAt c.args.store.now.stored place))));
      few = omega arith;
    }
