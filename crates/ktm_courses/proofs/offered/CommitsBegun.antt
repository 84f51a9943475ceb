-- How a commit begins: what a transaction comes to, of which nobody is prepared yet, is sound again.
use Rattle.std.proofs.Common.{◌≡◌, ℕ, ◌&&◌, not, Bool, true, false, List, [], ◌∷◌, ◌++◌, length, count_by, nat_lt, is_some, refl, sym, ◌∙◌, ap, subst, arith, inl, inr, ◌⊎◌, filter}
use Rattle.std.proofs.lemmas.Bool.{cases_Bool, and_parts, and_from, or_left, eq-eqb, not-true, not_from_false, true≢false, eqb-true}
use Rattle.std.proofs.lemmas.List.Sums.{length-filter}
use Rattle.ktm_base.specs.declared.notify.Notify.{Notify}
use Rattle.ktm_world.specs.declared.event.Event.{Event}
use Rattle.ktm_world.specs.declared.event.Part.{Part}
use Rattle.ktm_world.specs.declared.input.PhaseInput.{PhaseInput}
use Rattle.ktm_world.specs.declared.object.Phase.{Phase}
use Rattle.ktm_world.specs.declared.object.Phase.TheVariants.{Requested, PrePreparing, PrePrepared, Preparing, SinglePhase, Ended}
use Rattle.ktm_world.specs.declared.object.TransactionOutcome.TheVariants.{Committed}
use Rattle.ktm_world.specs.declared.step.Owed.{Owed}
use Rattle.ktm_world.specs.Enlistments.{Enlistment, asks_pre_prepare, allows_one_phase, takes_part, is_durable_at, superior_of}
use Rattle.ktm_world.specs.Phases.{Course, ended, in_phase, recording, telling, owing, unchanged, superior, is_its_superior, has_settings, one_if, work_of, is_single_phase}
use Rattle.ktm_world.specs.Transactions.{is_undecided}
use Rattle.ktm_world.specs.Changes.{has_changes}
use Rattle.ktm_world.specs.Steps.{led, run, counted, seen}
use Rattle.ktm_steps.proofs.offered.Ways.{Ways, commit-by, pre_prepare-by, prepare-by, proceed-by, if_cases}
use Rattle.txf_laws.specs.Elements.{IsIn}
use Rattle.ktm_courses.specs.SoundCourse.{is_last_recover, is_unrecovered_well, is_outcome_of, is_of_its_boot, is_superior_as, is_idle, is_waiting, is_part_as, is_awaited, has_durable_part, is_recorded_as_asked}
use Rattle.txf_laws.proofs.offered.Diamonds.{none-from}
use Rattle.txf_laws.proofs.offered.Elements.{list_any-at, list_any-from}
use Rattle.ktm_courses.proofs.offered.Moves.{IsIn-map, IsSame, IsSame-refl, Moved, Moved-then, moved-transaction, moved-telling, Changes, changes-none, stepped, with-unchanged, Stand, Stand-with, moved-still}
use Rattle.ktm_courses.proofs.offered.Endings.{with_phase, filter-with, superior-with, idle-parts, part-parts, unprepared-recovered, Arrives, arrives-then, its-own, arrives-ended, alike-owing, no-parts, Stand-nobody, only-one, arrives-all_ready, AllReady}
use Rattle.ktm_steps.proofs.offered.Counts.{parts-counted, some-counted}
use Rattle.ktm_world.specs.Rows.{proceeds}
use Rattle.std.specs.List.{list_any}

-- nothing of the transaction is prepared, and the outcome is not known
pub record Fresh (boot : ℕ) (c : Course) : Type 0 where
  pub here : nat_lt ((c.transaction).id).boot boot ≡ false
  pub undecided : is_undecided c.transaction ≡ true
  pub unrecorded : (c.transaction).is_recorded ≡ false
  pub stand : Stand c.enlistments (c.transaction).id is_idle
  pub brought : (e : Enlistment) → IsIn e c.enlistments → is_unrecovered_well boot c.managers e ≡ true

module _ (boot : ℕ) (c : Course) (fresh : Fresh boot c) where
  -- those that take part
  abbrev take_part : Enlistment → Bool
  take_part e = takes_part (c.transaction).id e

  is_recovered-part : (e : Enlistment) → IsIn e c.enlistments → takes_part (c.transaction).id e ≡ true → e.is_recovered ≡ true
  is_recovered-part e there part = unprepared-recovered boot c.managers (c.transaction).id e (fresh.brought e there) part (idle-parts e ((fresh.stand).parts e there part)).1

  -- those that take part, or some of them, are told something
  changes-parts : (test : Enlistment → Bool) (owed : Owed) → ((e : Enlistment) → test e ≡ true → takes_part (c.transaction).id e ≡ true) → Changes c test (owing owed)
  changes-parts test owed only = record {
    own = λ e there is. (part-parts (c.transaction).id e (only e is)).0;
    same = λ e. (alike-owing owed e).same;
    recovered = λ e there is. inr (is_recovered-part e there (only e is));
  }

  -- in a phase without answers the superior is told something
  arrives-superior_told : (phase : Phase) (kind : Notify) → is_last_recover kind ≡ false → is_outcome_of phase (record c.transaction { phase = phase }) ≡ true → is_of_its_boot boot (record c.transaction { phase = phase }) ≡ true
      → (superior-as : is_superior_as phase true ≡ true) → is_some (superior c) ≡ true
      → ((es : List Enlistment) → Stand es (c.transaction).id is_idle → Stand es (c.transaction).id (is_part_as phase))
      → ((es : List Enlistment) → is_awaited es (record c.transaction { phase = phase }) ≡ true) → is_single_phase phase ≡ false
      → ((es : List Enlistment) → is_recorded_as_asked c.managers es (record c.transaction { phase = phase }) ≡ true)
      → Arrives boot c (with_phase (telling c (is_its_superior c) kind unchanged) phase)
  arrives-superior_told phase kind other known boots asks has stands awaits several recorded' =
      let told = telling c (is_its_superior c) kind unchanged in
      let d = with_phase told phase in
      let still = with-unchanged (is_its_superior c) c.enlistments in
      record {
        moved = Moved-then (moved-telling c (is_its_superior c) kind unchanged other (changes-none c (is_its_superior c) (its-own c c refl))) (moved-transaction told d.transaction refl (omega arith));
        stands = record {
          outcome = known;
          boots = boots;
          superior = subst (λ es. is_superior_as phase (is_some (superior_of es (c.transaction).id)) ≡ true) (sym still) (rw has asks);
          stand = subst (λ es. Stand es (c.transaction).id (is_part_as phase)) (sym still) (stands c.enlistments fresh.stand);
          awaited = awaits d.enlistments;
          alone = or_left _ _ (not_from_false _ several);
          recorded = recorded' d.enlistments;
        };
      }

  -- ---- all are asked to prepare

  abbrev c_asked : Course
  c_asked = in_phase (telling c take_part Notify.Prepare (owing Owed.Prepare)) Preparing

  asked-moved : Moved c c_asked
  asked-moved = Moved-then (moved-telling c take_part Notify.Prepare (owing Owed.Prepare) refl (changes-parts take_part Owed.Prepare (λ e is. is)))
      (moved-transaction (telling c take_part Notify.Prepare (owing Owed.Prepare)) c_asked.transaction refl (omega arith))

  -- none of them is prepared
  asked-none : has_durable_part c.managers c_asked.enlistments (c.transaction).id (λ e. e.is_prepared) ≡ false
  asked-none = none-from _ c_asked.enlistments (λ e there. unprepared e (cases_Bool (takes_part (c.transaction).id e)) there)
    where
      stand : Stand c_asked.enlistments (c.transaction).id (λ e. not e.is_prepared)
      stand = Stand-with c.enlistments (c.transaction).id is_idle (λ e. not e.is_prepared) take_part (owing Owed.Prepare) fresh.stand (λ e there is. is) (alike-owing Owed.Prepare)
          (λ e there part idle is. not_from_false _ (idle-parts e idle).1) (λ e there part idle silent. absurd (true≢false (sym part ∙ silent)))

      unprepared : (e : Enlistment) → (takes_part (c.transaction).id e ≡ true) ⊎ (takes_part (c.transaction).id e ≡ false) → IsIn e c_asked.enlistments
          → (takes_part (c.transaction).id e && (e.is_prepared && is_durable_at c.managers e.manager)) ≡ false
      unprepared e (inl part) there = rw (part, not-true _ (stand.parts e there part)) refl
      unprepared e (inr other) there = rw other refl

  asked-stand : Stand c_asked.enlistments (c.transaction).id (is_part_as Preparing)
  asked-stand = Stand-with c.enlistments (c.transaction).id is_idle (is_part_as Preparing) take_part (owing Owed.Prepare) fresh.stand (λ e there is. is) (alike-owing Owed.Prepare)
      (λ e there part idle is. rw ((idle-parts e idle).1, (idle-parts e idle).2) refl) (λ e there part idle silent. absurd (true≢false (sym part ∙ silent)))

  all-ready : counted c (λ e. true) ≡ 0 → AllReady boot c
  all-ready none = record {
    here = fresh.here;
    undecided = fresh.undecided;
    stand = Stand-nobody c.enlistments (c.transaction).id is_idle is_waiting fresh.stand (no-parts c none);
    recorded = λ some. let one = list_any-at _ c.enlistments some in absurd (no-parts c none one.0 one.1 (and_parts (takes_part (c.transaction).id one.0) _ one.2).0);
  }

  -- ---- one participant alone

  arrives-single : (part : Part) → counted c (λ e. true) ≡ 0 → Arrives boot c (ended (record (recording c (Event.Single (c.transaction).id part ∷ [])) { works = c.works ++ work_of c }) Committed)
  arrives-single part none =
      let d = record (recording c (Event.Single (c.transaction).id part ∷ [])) { works = c.works ++ work_of c } in
      arrives-then boot (moved-still c c.transaction d.events d.works refl (omega arith))
      (arrives-ended boot d Committed refl (rw fresh.here refl) (Stand-nobody c.enlistments (c.transaction).id is_idle (is_part_as Ended) fresh.stand (no-parts c none)))

  abbrev c_single : Course
  c_single = in_phase (telling c take_part Notify.SinglePhaseCommit (owing Owed.Commit)) SinglePhase

  one_if-true : (b : Bool) → b ≡ true → one_if b ≡ 1
  one_if-true b is = ap one_if is

  one_if-false : (b : Bool) → b ≡ false → one_if b ≡ 0
  one_if-false b is = ap one_if is

  arrives-one_phase : length (filter take_part c.enlistments) ≡ 1 → has_changes c.changes ≡ false → has_settings c.settings ≡ false → is_some (superior c) ≡ false → list_any (λ e. takes_part (c.transaction).id e && allows_one_phase e) c.enlistments ≡ true → Arrives boot c c_single
  arrives-one_phase one changes settings alone some =
      let first = list_any-at _ c.enlistments some in
      let parts = and_parts (takes_part (c.transaction).id first.0) (allows_one_phase first.0) first.2 in
      record {
        moved = Moved-then (moved-telling c take_part Notify.SinglePhaseCommit (owing Owed.Commit) refl (changes-parts take_part Owed.Commit (λ e is. is)))
            (moved-transaction (telling c take_part Notify.SinglePhaseCommit (owing Owed.Commit)) c_single.transaction refl (omega arith));
        stands = record {
          outcome = fresh.undecided;
          boots = rw fresh.here refl;
          superior = not_from_false _ (superior-with (c.transaction).id (stepped take_part (owing Owed.Commit))
              (λ e. if_cases (λ x. IsSame e x) (take_part e) (owing Owed.Commit e) e (λ is. (alike-owing Owed.Commit e).same) (λ is. IsSame-refl e)) c.enlistments ∙ alone);
          stand = Stand-with c.enlistments (c.transaction).id is_idle (is_part_as SinglePhase) take_part (owing Owed.Commit) fresh.stand (λ e there is. is) (alike-owing Owed.Commit)
              (λ e there part idle is.
              let allows : allows_one_phase e ≡ true = subst (λ x. allows_one_phase x ≡ true) (only-one c.enlistments (c.transaction).id one first.0 e first.1 there parts.0 part) parts.1 in
              rw ((idle-parts e idle).1, (idle-parts e idle).2) allows)
              (λ e there part idle silent. absurd (true≢false (sym part ∙ silent)));
          awaited = eq-eqb (count_by take_part c_single.enlistments) 1
              (sym (length-filter take_part c_single.enlistments) ∙ filter-with take_part take_part (owing Owed.Commit) (λ e. refl) c.enlistments ∙ one);
          alone = and_from _ _ (not_from_false _ changes) (not_from_false _ settings);
          recorded = not_from_false _ fresh.unrecorded;
        };
      }

  -- ---- pre-preparing

  -- those that ask for it
  abbrev ask : Enlistment → Bool
  ask e = takes_part (c.transaction).id e && asks_pre_prepare e

  abbrev c_pre_preparing : Course
  c_pre_preparing = in_phase (telling c ask Notify.PrePrepare (owing Owed.PrePrepare)) PrePreparing

  arrives-pre_preparing : list_any ask c.enlistments ≡ true → Arrives boot c c_pre_preparing
  arrives-pre_preparing some = record {
    moved = Moved-then (moved-telling c ask Notify.PrePrepare (owing Owed.PrePrepare) refl (changes-parts ask Owed.PrePrepare (λ e is. (and_parts (takes_part (c.transaction).id e) (asks_pre_prepare e) is).0)))
        (moved-transaction (telling c ask Notify.PrePrepare (owing Owed.PrePrepare)) c_pre_preparing.transaction refl (omega arith));
    stands = record {
      outcome = fresh.undecided;
      boots = rw fresh.here refl;
      superior = refl;
      stand = Stand-with c.enlistments (c.transaction).id is_idle (is_part_as PrePreparing) ask (owing Owed.PrePrepare) fresh.stand
          (λ e there is. (and_parts (takes_part (c.transaction).id e) (asks_pre_prepare e) is).0) (alike-owing Owed.PrePrepare)
          (λ e there part idle is. rw ((idle-parts e idle).1, (idle-parts e idle).2) (and_parts (takes_part (c.transaction).id e) (asks_pre_prepare e) is).1)
          (λ e there part idle silent. rw ((idle-parts e idle).0, (idle-parts e idle).1, (idle-parts e idle).2) refl);
      awaited =
          let one = list_any-at _ c.enlistments some in
          let part = (and_parts (takes_part (c.transaction).id one.0) (asks_pre_prepare one.0) one.2).0 in
          list_any-from _ c_pre_preparing.enlistments (stepped ask (owing Owed.PrePrepare) one.0) (IsIn-map (stepped ask (owing Owed.PrePrepare)) one.0 c.enlistments one.1)
          (rw one.2 (rw part refl));
      alone = refl;
      recorded = not_from_false _ fresh.unrecorded;
    };
  }

  arrives-preparing : list_any (λ e. takes_part (c.transaction).id e && true) c.enlistments ≡ true → Arrives boot c c_asked
  arrives-preparing some = record {
    moved = asked-moved;
    stands = record {
      outcome = fresh.undecided;
      boots = rw fresh.here refl;
      superior = refl;
      stand = asked-stand;
      awaited =
          let one = list_any-at _ c.enlistments some in
          let part = (and_parts (takes_part (c.transaction).id one.0) true one.2).0 in
          list_any-from _ c_asked.enlistments (stepped take_part (owing Owed.Prepare) one.0) (IsIn-map (stepped take_part (owing Owed.Prepare)) one.0 c.enlistments one.1)
          (rw part (rw part refl));
      alone = refl;
      recorded = rw asked-none (not_from_false _ fresh.unrecorded);
    };
  }

  -- ---- each way to go on

  ways : Ways (λ steps. Arrives boot c (run steps c)) (seen c)
  ways = record {
    requested = λ has. arrives-superior_told Requested Notify.CommitRequest refl fresh.undecided (rw fresh.here refl) refl has (λ es stand. stand) (λ es. refl) refl (λ es. not_from_false _ fresh.unrecorded);
    pre_prepared = λ has. arrives-superior_told PrePrepared Notify.PrePrepareComplete refl fresh.undecided (rw fresh.here refl) refl has (λ es stand. stand) (λ es. refl) refl (λ es. not_from_false _ fresh.unrecorded);
    pre_preparing = λ some. arrives-pre_preparing (some-counted c asks_pre_prepare false some);
    preparing = λ some. arrives-preparing (some-counted c (λ e. true) false some);
    one_phase = λ alone one changes settings some.
        let no_files = one_if-false _ changes in let no_keys = one_if-false _ settings in let parts = parts-counted c in
        arrives-one_phase (omega arith) changes settings alone (some-counted c allows_one_phase false some);
    files = λ one changes. let counted = one_if-true _ changes in arrives-single (Part.Changes c.changes) (omega arith);
    keys = λ one changes settings. let counted = one_if-true _ settings in arrives-single (Part.Settings c.settings) (omega arith);
    nobody = λ none. arrives-ended boot c Committed refl (rw fresh.here refl) (Stand-nobody c.enlistments (c.transaction).id is_idle (is_part_as Ended) fresh.stand (no-parts c (omega arith)));
    ready = λ none. arrives-all_ready boot c (all-ready (eqb-true _ 0 none));
  }

  pub arrives-pre_prepared : Arrives boot c (run (proceeds (seen c)) c)
  arrives-pre_prepared = proceed-by (Arrives boot c) c ways

  pub arrives-to_prepare : Arrives boot c (led PhaseInput.Prepare c)
  arrives-to_prepare = prepare-by (Arrives boot c) c ways

  pub arrives-to_pre_prepare : Arrives boot c (led PhaseInput.PrePrepare c)
  arrives-to_pre_prepare = pre_prepare-by (Arrives boot c) c ways

  pub arrives-to_commit : Arrives boot c (led PhaseInput.CommitTransaction c)
  arrives-to_commit = commit-by (Arrives boot c) c ways
