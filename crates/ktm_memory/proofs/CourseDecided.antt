-- How a transaction goes on is decided: by the row of what is seen of it.
use Rattle.std.proofs.Common.{◌≡◌, ◌≢◌, ◌≤◌, All, Bool, true, false, cond, List, Option, None, sum_by, refl, sym, ap, subst, ◌∙◌}
use Rattle.arrayvec.specs.ArrayVec.{ArrayVec}
use Rattle.std.specs.List.{list_any}
use Rattle.ktm_base.specs.declared.id.Id.{Id}
use Rattle.ktm_base.specs.declared.refusal.Refusal.{Refusal}
use Rattle.ktm_standing.proofs.offered.Courses.{arrived-apply, arrived-reply}
use Rattle.ktm_standing.proofs.offered.Rows.{row_leads}
use Rattle.ktm_standing.specs.Courses.{LeadsOn}
use Rattle.ktm_standing.specs.Files.{MayCommitNow}
use Rattle.ktm_course.specs.Moved.{is_commit}
use Rattle.ktm_event.specs.Kept.{EventsState}
use Rattle.ktm_event.specs.Spelling.{IsSpellableEvent}
use Rattle.ktm_records.proofs.offered.AgreementOfCourses.{arrival}
use Rattle.ktm_steps.proofs.offered.Ways.{if_cases}
use Rattle.ktm_tm.specs.Courses.{caller_of}
use Rattle.txf_laws.specs.GoodState.{IsGoodState}
use Rattle.ktm_trace.specs.Contents.{KeptLaw}
use Rattle.ktm_trace.specs.Few.{AreFew, FewLaw}
use Rattle.ktm_trace.specs.Recordings.{steps_room}
use Rattle.ktm_trace.specs.declared.room.TheConstants.{MOST_NOTED}
use Rattle.ktm_world.specs.Sizes.{event_size}
use Rattle.ktm_world.specs.declared.input.PhaseInput.{PhaseInput}
use Rattle.ktm_world.specs.declared.input.Seen.{Seen}
use Rattle.ktm_world.specs.declared.object.Transaction.{Transaction}
use Rattle.ktm_world.specs.declared.reply.Reply.{Reply}
use Rattle.ktm_world.specs.declared.reply.Reply.TheVariants.{Committed, Done, Pending, Refused}
use Rattle.ktm_world.specs.declared.step.Step.{Step}
use Rattle.ktm_world.specs.Enlistments.{Enlistment, is_ended}
use Rattle.ktm_world.specs.Outcome.{Outcome, apply}
use Rattle.ktm_world.specs.Phases.{Course as Going}
use Rattle.ktm_world.specs.Present.{Present}
use Rattle.ktm_world.specs.Rows.{row}
use Rattle.ktm_world.specs.Steps.{basis, led, run, seen}
use Rattle.ktm_world.specs.TransactionCalls.{arrived, course_of}
use Rattle.ktm_world.specs.Transactions.{is_undecided}
use Rattle.txf_volume.specs.Commit.{MayCommit}
use Rattle.txf_volume.specs.Held.{files_of}
use Rattle.ktm_each.specs.Each.{EachOfGroup}
use Rattle.ktm_steps.specs.Laws.{EventsAheadLaw}
use Rattle.ktm_memory.proofs.offered.Following.{ahead-each}
use Rattle.ktm_memory.specs.Decided.{Decides, HoldsRecordOf}
use Rattle.ktm_memory.specs.Rules.{Follows, PutsAlone}
use Rattle.ktm_memory.specs.Memory.{CanGoOn, MemoryState, Shows, course_then, held, present_of}
use Rattle.ktm_memory.specs.Routed.{IsReadyCourse, course_to, reply_to}
use Rattle.ktm_memory.specs.declared.settlement.Settlement.TheVariants.{Course}

-- ---- what memory shows

-- memory shows what it holds
pub shows_present : KeptLaw → (m : MemoryState) → Shows m (present_of m)
shows_present kept m = record {
  is_up = refl;
  boot = refl;
  transactions = refl;
  managers = refl;
  traces = sym (kept m.tm.now.enlistments (files_of m.files).table.own m.keys.own m.trace);
  files = refl;
  next_node = refl;
  keys = refl;
  handles = refl;
}

-- ---- the steps

-- this is seen of the transaction, whoever calls
abbrev pub IsSeenIn : MemoryState → Transaction → Seen → Type 0
IsSeenIn m t s = (x : Present) (e : Option Enlistment) → Shows m x → s ≡ seen (course_of x t e)

-- by the row of what is seen it has come to the same
pub comes_to : (x : Present) (t : Transaction) (caller : Option Id) (input : PhaseInput) (steps : List Step) (s : Seen) → s ≡ seen (course_of x t (caller_of x.transactions.enlistments caller)) → steps ≡ row s input
    → course_then x t caller steps ≡ course_to x t caller input
unfolding led
comes_to x t caller input steps s sees is =
    let c = course_of x t (caller_of x.transactions.enlistments caller) in
    ap (λ (ss : List Step). run ss c) (is ∙ ap (λ (u : Seen). row u input) sees)

-- the row of what is seen leads the transaction on, whatever memory shows
pub leads_on : (m : MemoryState) (t : Transaction) (caller : Option Id) (input : PhaseInput) (steps : List Step) (s : Seen) → IsSeenIn m t s → steps ≡ row s input
    → (x : Present) → Shows m x → LeadsOn x t (caller_of x.transactions.enlistments caller) steps
leads_on m t caller input steps s sees is x shows =
    let e = caller_of x.transactions.enlistments caller in
    subst (LeadsOn x t e) (sym (is ∙ ap (λ (u : Seen). row u input) (sees x e shows))) (row_leads x t e input)

-- ---- what is decided

arrived-sent : (x : Present) (c : Going) (reply : Reply) → (arrived x c reply).sent ≡ c.sent
arrived-sent x c reply = if_cases (λ (o : Outcome). o.sent ≡ c.sent) (is_undecided c.transaction) _ _ (λ is. refl) (λ known. refl)

no_refusal : (b : Bool) (refusal : Refusal) → cond b Committed Pending ≡ Refused refusal → ⊥
no_refusal true refusal is = absurd (cc)
no_refusal false refusal is = absurd (cc)

done_refuses_nothing : (refusal : Refusal) → Done ≡ Refused refusal → ⊥
done_refuses_nothing refusal is = absurd (cc)

-- what is replied is no refusal
answers : (input : PhaseInput) (c : Going) (refusal : Refusal) → reply_to input c ≢ Refused refusal
answers PhaseInput.CommitTransaction c refusal = no_refusal (is_ended c.transaction.phase) refusal
answers _ c refusal = done_refuses_nothing refusal

-- what a transaction changed can be committed
may_commit : (x : Present) (t : Transaction) → MayCommitNow x t → MayCommit x.files t.id
may_commit x t may = record { applies = may.applies; left = may.left; unopened = may.unopened; counted = may.counted; few = may.few }

-- what memory keeps of the log is few enough, where what was recorded is good
pub few_traces : KeptLaw → FewLaw → (m : MemoryState) → IsGoodState (present_of m).recorded → AreFew m.trace
few_traces kept few m good = subst AreFew (sym (shows_present kept m).traces) (few (present_of m).recorded good)

-- what steps record of contents is what is left to be put
course_puts : EventsAheadLaw → (x : Present) (t : Transaction) (caller : Option Id) (steps : ArrayVec Step) → PutsAlone x (Course t caller steps)
course_puts ahead x t caller steps rule each =
    let c = course_of x t (caller_of x.transactions.enlistments caller) in
    let d = course_then x t caller steps.items in
    subst (EachOfGroup (Follows rule)) (sym ((arrival x d Done).events ∙ ahead steps.items c))
    (ahead-each (Follows rule) steps.items (basis c) (λ records. rw records at each))

module _ (kept : KeptLaw) (m : MemoryState) (t : Transaction) (caller : Option Id) (input : PhaseInput) (steps : ArrayVec Step) (s : Seen) (sees : IsSeenIn m t s) (is : steps.items ≡ row s input) where
  same : course_then (present_of m) t caller steps.items ≡ course_to (present_of m) t caller input
  same = comes_to (present_of m) t caller input steps.items s (sees (present_of m) (caller_of m.tm.now.enlistments caller) (shows_present kept m)) is

  can_go_on : IsReadyCourse (present_of m) t caller input → AreFew m.trace → steps_room steps.items ≤ MOST_NOTED → CanGoOn m t caller steps.items
  can_go_on ready few noted = record {
    there = ready.there;
    live = ready.live;
    leads = leads_on m t caller input steps.items s sees is;
    few = λ some. few;
    noted = noted;
    commits = λ commits.
        may_commit (present_of m) t (ready.may (ap (list_any is_commit) (sym (is ∙ ap (λ (u : Seen). row u input) (sees (present_of m) None (shows_present kept m)))) ∙ commits));
  }

  -- what is left to do comes to what the call comes to
  pub course_decided : EventsAheadLaw → (reply : Reply) (events : EventsState) → reply ≡ reply_to input (course_to (present_of m) t caller input) → HoldsRecordOf (present_of m).recorded events (course_then (present_of m) t caller steps.items).events
      → IsReadyCourse (present_of m) t caller input → AreFew m.trace → steps_room steps.items ≤ MOST_NOTED
      → (let c = course_to (present_of m) t caller input in Decides (held m) (arrived (present_of m) c (reply_to input c)) reply (Course t caller steps) events m)
  course_decided ahead reply events says holds ready few noted =
      let x = present_of m in
      let c = course_to x t caller input in
      let d = course_then x t caller steps.items in
      let are : (arrived x c (reply_to input c)).events ≡ d.events = (arrival x c (reply_to input c)).events ∙ ap (λ (g : Going). g.events) (sym same) in
      record {
        says = says ∙ sym (arrived-reply x c (reply_to input c));
        records = subst (HoldsRecordOf x.recorded events) (sym are) holds;
        journal = refl;
        group = (arrival x d Done).events ∙ sym are;
        tells = arrived-sent x d Done ∙ ap (λ (g : Going). g.sent) same ∙ sym (arrived-sent x c (reply_to input c));
        comes_to = ap (λ (g : Going). apply x (arrived x g Done)) same ∙ arrived-apply x c Done (reply_to input c);
        may = can_go_on ready few noted;
        puts = course_puts ahead x t caller steps;
        waits = λ some. refl;
        answers = λ some refusal. subst (λ (r : Reply). r ≢ Refused refusal) (sym says) (answers input c refusal);
      }

  -- what the course records has bytes
  pub course_is_spelled : IsReadyCourse (present_of m) t caller input → All IsSpellableEvent (course_then (present_of m) t caller steps.items).events
  course_is_spelled ready = subst (λ (g : Going). All IsSpellableEvent g.events) (sym same) ready.spelled

  -- and it is of the same size
  pub course_size : sum_by event_size (course_then (present_of m) t caller steps.items).events ≡ sum_by event_size (course_to (present_of m) t caller input).events
  course_size = ap (λ (g : Going). sum_by event_size g.events) same
