-- What the rows come to: all are prepared, and an answer counts first.
use Rattle.std.specs.Prelude.{if◌then◌else◌}
use Rattle.std.proofs.Common.{◌≡◌, ◌==◌, ◌&&◌, ◌||◌, not, Bool, true, false, List, [], ◌∷◌, Option, Some, None, is_some, refl, sym, ◌∙◌, ap, subst}
use Rattle.std.proofs.lemmas.Bool.{eqb-true}
use Rattle.ktm_base.specs.declared.notify.Notify.{Notify}
use Rattle.ktm_world.specs.declared.object.Phase.TheVariants.{Held}
use Rattle.ktm_world.specs.declared.object.TransactionOutcome.TheVariants.{Committed}
use Rattle.ktm_world.specs.declared.step.Answered.{Answered}
use Rattle.ktm_world.specs.declared.step.Fact.{Fact}
use Rattle.ktm_world.specs.declared.step.Step.{Step}
use Rattle.ktm_world.specs.declared.step.Step.TheVariants.{Record, Tell, Enter, End}
use Rattle.ktm_world.specs.declared.step.Who.{Who}
use Rattle.ktm_world.specs.Enlistments.{Enlistment, has_id}
use Rattle.ktm_world.specs.Phases.{Course, changing_one, ended, in_phase, is_its_superior, recording, superior, telling, unchanged}
use Rattle.ktm_world.specs.Rows.{all_readies, commits, participants, pre_prepare_completes, prepare_completes, proceeds, proceeds_without, is_last, read_onlies, without}
use Rattle.ktm_world.specs.Steps.{answered, held_event, lasting_of, led, run, seen, share_of}
use Rattle.ktm_steps.specs.Laws.{IsPart, RowsLaw, by, someone_owes, when_none_owes}
use Rattle.ktm_steps.proofs.offered.Counts.{owed-less, seen-left, seen-settled}
use Rattle.ktm_steps.proofs.offered.Superiors.{tells-superior}
use Rattle.ktm_steps.proofs.offered.Lasting.{has_superior-kept, lasting-answered, superior-with}
use Rattle.ktm_steps.proofs.offered.Ways.{if_cases}

-- ---- all are prepared

-- the files and the keys are prepared, which is recorded of those that take part
abbrev pub readied : Course → Course
readied c = run (Record Fact.ReadyFiles ∷ Record Fact.ReadyKeys ∷ []) c

-- it waits for this superior
abbrev pub held : Course → Enlistment → Course
held c e = in_phase (telling (record (recording c (held_event c.transaction.id (Some e))) { transaction = record c.transaction { is_recorded = true } }) (is_its_superior c) Notify.PrepareComplete unchanged) Held

-- then it waits for its superior, or it has none, and ends where nobody takes part, and else commits
pub all_readies-by : (P : Course → Type 0) (c : Course) → ((e : Enlistment) → superior c ≡ Some e → P (held (readied c) e))
    → (superior c ≡ None → participants (seen c) ≡ 0 → P (ended (readied c) Committed)) → (superior c ≡ None → P (run commits (readied c))) → P (run (all_readies (seen c)) c)
all_readies-by P c waits nobody decides = at (superior c) refl
  where
    d : Course
    d = readied c

    at : (o : Option Enlistment) → superior c ≡ o → P (run (if is_some o then Record Fact.Held ∷ Tell Who.Superior Notify.PrepareComplete ∷ Enter Held ∷ [] else (if participants (seen c) == 0 then End Committed ∷ [] else commits)) (readied c))
    at (Some e) is = subst P
        (sym (ap (λ o. in_phase (telling (record (recording d (held_event d.transaction.id (lasting_of o))) { transaction = record d.transaction { is_recorded = is_some (lasting_of o) || d.transaction.is_recorded } }) (is_its_superior d) Notify.PrepareComplete unchanged) Held) is)) (waits e is)
    at None is = if_cases (λ steps. P (run steps (readied c))) (participants (seen c) == 0) (End Committed ∷ []) commits (λ none. nobody is (eqb-true (participants (seen c)) 0 none)) (λ some. decides is)

-- ---- answers

-- where this was the last one that owed an answer it goes on
on-where_last : (last : Bool) (steps then_steps : List Step) (c : Course) → someone_owes c ≡ not last → run steps c ≡ run then_steps c → run (if last then steps else []) c ≡ when_none_owes c then_steps
on-where_last true steps then_steps c owes goes = goes ∙ sym (ap (λ b. if b then c else run then_steps c) owes)
on-where_last false steps then_steps c owes goes = sym (ap (λ b. if b then c else run then_steps c) owes)

module _ (before : Course) (e : Enlistment) (is : IsPart before e) where
  abbrev c : Course
  c = by before e

  is_part : IsPart c e
  is_part = record { before = is.before; after = is.after; is = is.is; none_before = is.none_before; none_after = is.none_after; part = is.part }

  -- once it has answered so
  next : Answered → Course
  next answer = changing_one c e.id (answered answer)

  superior-next : (answer : Answered) → is_some (superior (next answer)) ≡ is_some (superior c)
  unfolding next
  superior-next answer = has_superior-kept c (next answer) (superior-with (answered answer) (lasting-answered answer) (has_id e.id) c)

  seen-next : (answer : Answered) → (answered answer e).is_read_only ≡ e.is_read_only → seen (next answer) ≡ record (seen c) { owing = (seen (next answer)).owing }
  unfolding next
  seen-next answer still = seen-settled c e is_part (answered answer) (lasting-answered answer e) still ∙ (λ i. record (seen c) { has_superior = superior-next answer i; owing = (seen (next answer)).owing })

  seen-without : seen (next Answered.ReadOnly) ≡ without (share_of e) (seen c)
  unfolding next
  seen-without = seen-left c e is_part (answered Answered.ReadOnly) refl ∙ (λ i. record (without (share_of e) (seen c)) { has_superior = superior-next Answered.ReadOnly i })

  pre_prepare_completes-is : is_some e.owes ≡ true → let d = run (Step.Change Answered.PrePrepared ∷ []) c in run (pre_prepare_completes (seen c)) c ≡ when_none_owes d (proceeds (seen d))
  unfolding next
  pre_prepare_completes-is owed =
      let d = changing_one c e.id (answered Answered.PrePrepared) in
      on-where_last (is_last (seen c)) (proceeds (seen c)) (proceeds (seen d)) d (owed-less c e is_part (answered Answered.PrePrepared) owed refl) (ap (λ s. run (proceeds s) d) (sym (seen-next Answered.PrePrepared refl)))

  prepare_completes-is : is_some e.owes ≡ true → let d = run (Step.Change Answered.Prepared ∷ Record Fact.Ready ∷ []) c in run (prepare_completes (seen c)) c ≡ when_none_owes d (all_readies (seen d))
  unfolding next
  prepare_completes-is owed =
      let d = run (Step.Change Answered.Prepared ∷ Record Fact.Ready ∷ []) c in
      on-where_last (is_last (seen c)) (all_readies (seen c)) (all_readies (seen d)) d (owed-less c e is_part (answered Answered.Prepared) owed refl) (ap (λ s. run (all_readies s) d) (sym (seen-next Answered.Prepared refl)))

  read_onlies-is : let d = run (Step.Change Answered.ReadOnly ∷ []) c in run (read_onlies (seen c) (share_of e)) c ≡ (if is_some e.owes then when_none_owes d (proceeds_without c.transaction.phase (seen d)) else d)
  unfolding next
  read_onlies-is = where_owed (is_some e.owes) refl
    where
      left : Course
      left = changing_one c e.id (answered Answered.ReadOnly)

      steps : List Step
      steps = proceeds_without c.transaction.phase (without (share_of e) (seen c))

      where_owed : (o : Bool) → is_some e.owes ≡ o → run (if o && is_last (seen c) then steps else []) left ≡ (if o then when_none_owes left (proceeds_without c.transaction.phase (seen left)) else left)
      where_owed true owed =
          on-where_last (is_last (seen c)) steps (proceeds_without c.transaction.phase (seen left)) left (owed-less c e is_part (answered Answered.ReadOnly) owed refl)
          (ap (λ s. run (proceeds_without c.transaction.phase s) left) (sym seen-without))
      where_owed false owed = refl

-- ---- the laws

pub rows_law : RowsLaw
unfolding led
rows_law = record {
  pre_prepare_completes = pre_prepare_completes-is;
  prepare_completes = prepare_completes-is;
  read_onlies = read_onlies-is;
  tells_superior = tells-superior;
}
