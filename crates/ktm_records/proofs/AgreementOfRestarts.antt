-- What was recorded agrees with what is so now after a restart of a good state.
use Rattle.std.specs.Prelude.{if◌then◌else◌}
use Rattle.std.proofs.Common.{◌≡◌, ◌&&◌, ◌||◌, not, Bool, true, false, List, [], ◌∷◌, ◌++◌, filter, map, Option, Some, None, is_some, refl, sym, ◌∙◌, ap, subst, arith, inl, inr}
use Rattle.std.proofs.lemmas.Bool.{cases_Bool, and_from, and_parts, not-true, not_from_false, or_left, true≢false, false_from_ne_true}
use Rattle.std.proofs.lemmas.List.{append-nil}
use Rattle.std.specs.List.{flat_map, list_all, list_any}
use Rattle.ktm_base.specs.declared.id.Id.{Id}
use Rattle.ktm_world.specs.declared.event.DonePart.{DonePart}
use Rattle.ktm_world.specs.declared.event.Part.{Part}
use Rattle.ktm_world.specs.declared.event.Part.TheVariants.{Enlistment as EnlistmentPart, Changes, Settings}
use Rattle.ktm_world.specs.declared.object.Phase.TheVariants.{Committing, InDoubt}
use Rattle.ktm_world.specs.declared.recorded.RecordedPart.{RecordedPart}
use Rattle.ktm_world.specs.declared.recorded.Stage.{Stage}
use Rattle.ktm_world.specs.declared.recorded.Superior.{Superior}
use Rattle.ktm_world.specs.Durable.{Durable, Recorded, after_events, changes_in, has_undone, is_decided, is_held, is_ready, settings_in, stand}
use Rattle.ktm_world.specs.Enlistments.{Enlistment, is_superior, superior_of, takes_part}
use Rattle.ktm_world.specs.Lawful.{brought_back, stage_in, summary_of, superior_now}
use Rattle.ktm_world.specs.Logs.{Group}
use Rattle.ktm_world.specs.Outcome.{committed_now}
use Rattle.ktm_world.specs.Phases.{Course, superior}
use Rattle.ktm_world.specs.Present.{Present}
use Rattle.ktm_world.specs.TransactionCalls.{course_of}
use Rattle.ktm_world.specs.Transactions.{same_id}
use Rattle.ktm_world.specs.World.{back, by_rising_id, enlistment_back, is_brought_back, is_enlistment_part, manager_now, opened, own_group, present, reboot, superior_back, transaction_back}
use Rattle.txf_laws.specs.Elements.{IsIn}
use Rattle.txf_laws.specs.GoodState.{IsGoodState, are_kept_changes, are_kept_settings, is_done_well}
use Rattle.ktm_records.specs.Kept.{is_carried_out}
use Rattle.ktm_records.proofs.offered.Agreement.{Agreed, flat_map-alike, summaries}
use Rattle.txf_laws.proofs.offered.Elements.{IsIn-filter, IsIn-unflat, list_all-at, list_all-from, list_any-at, list_any-from}
use Rattle.ktm_records.proofs.offered.AgreementOfCourses.{begun, course_enlistments, course_in, course_now}
use Rattle.txf_laws.proofs.offered.Diamonds.{IsIn-right}
use Rattle.txf_laws.proofs.offered.Lists.{IsIn-cases, IsIn-unmap}
use Rattle.ktm_courses.proofs.offered.Moves.{find-found}
use Rattle.txf_laws.proofs.offered.OwnGroups.{is_open}
use Rattle.ktm_records.proofs.LoggedOrder.{if_there, in-while, while_open}
use Rattle.ktm_records.proofs.ReadyCourses.{differ-kept, differ-parts, kept-from, kept-into}
use Rattle.ktm_records.proofs.RestartGroups.{Walks, is_left, left_of, reopened, settled-gathered, settled-undone, settled_of}
use Rattle.ktm_owned.proofs.offered.Restarts.{own-back, set-back}
use Rattle.ktm_courses.proofs.offered.EnlistmentOrder.{IsIn-into_rising, IsIn-rising, map-flat, rising-same}
use Rattle.ktm_records.proofs.LoggedDecisions.{Settles, settled-carried, settled-summaries}
use Rattle.ktm_records.proofs.AgreementOfSilentSteps.{is_kept}
use Rattle.ktm_courses.proofs.offered.SoundRestarts.{durable-back, in-es, is-back, own-within, sound-opened, superior-there}
use Rattle.txf_laws.proofs.offered.Tables.{same_id-from}
use Rattle.ktm_records.proofs.LoggedTransaction.{mark_if}
use Rattle.txf_laws.proofs.offered.WaitingChanges.{no_changes-left, no_settings-left}

-- ---- what is brought back

-- an enlistment that is brought back from a part is as it would be brought back again
back-same : (id : Id) (p : RecordedPart) (e : Enlistment) → IsIn e (enlistment_back id p) → brought_back e ≡ e
back-same id p e = go p.part
  where
    go : (q : Part) → IsIn e (enlistment_back id (record p { part = q })) → brought_back e ≡ e
    go (EnlistmentPart enlistment manager information) (inl same) = sym (ap brought_back same) ∙ same
    go (EnlistmentPart enlistment manager information) (inr none) = absurd none
    go (Changes cs) none = absurd none
    go (Settings ss) none = absurd none

-- an enlistment that is brought back from a part takes part, prepared and not finished
back-parts : (id : Id) (p : RecordedPart) (e : Enlistment) → IsIn e (enlistment_back id p) → (takes_part id e ≡ true) × (e.is_prepared ≡ true) × (e.is_finished ≡ false)
back-parts id p e = go p.part
  where
    go : (q : Part) → IsIn e (enlistment_back id (record p { part = q })) → (takes_part id e ≡ true) × (e.is_prepared ≡ true) × (e.is_finished ≡ false)
    go (EnlistmentPart enlistment manager information) (inl same) = subst (λ (e : Enlistment). (takes_part id e ≡ true) × (e.is_prepared ≡ true) × (e.is_finished ≡ false)) same (and_from _ _ (and_from _ _ (same_id-from id id refl) refl) refl, refl, refl)
    go (EnlistmentPart enlistment manager information) (inr none) = absurd none
    go (Changes cs) none = absurd none
    go (Settings ss) none = absurd none

superior-above : (id : Id) (o : Option Superior) (e : Enlistment) → IsIn e (superior_back id o) → is_superior e ≡ true
superior-above id None e none = absurd none
superior-above id (Some s) e (inl same) = ap is_superior (sym same)
superior-above id (Some s) e (inr none) = absurd none

-- ---- the resource managers

durable-all : (ids : List Id) → map (λ m. m.id) (filter (λ m. m.is_durable) (map manager_now (map (λ id. record { id = id; is_durable = true; taken = []; queue = [] }) ids))) ≡ ids
durable-all [] = refl
durable-all (id ∷ ids) = ap (λ rest. id ∷ rest) (durable-all ids)

-- ---- lists

filtered : {X Y : Type 0} (f : X → List Y) (keep : X → Bool) (xs : List X) → flat_map f (filter keep xs) ≡ flat_map (λ x. if keep x then f x else []) xs
filtered f keep [] = refl
filtered f keep (x ∷ xs) = elim (cases_Bool (keep x)) [ inl stays ↦ rw stays (ap (λ ys. f x ++ ys) (filtered f keep xs)) | inr out ↦ rw out (filtered f keep xs) ]

mapped : {X Y Z : Type 0} (f : Y → List Z) (g : X → Y) (xs : List X) → flat_map f (map g xs) ≡ flat_map (λ x. f (g x)) xs
mapped f g [] = refl
mapped f g (x ∷ xs) = ap (λ ys. f (g x) ++ ys) (mapped f g xs)

decided-stage : (stage : Stage) → is_decided stage ≡ true → stage ≡ Stage.Decided
decided-stage Stage.Decided is = refl
decided-stage _ is = absurd (true≢false (sym is))

module _ (base : Durable) (log : List Group) (good : IsGoodState (stand base log)) where
  abbrev s : Durable
  s = stand base log

  abbrev x : Present
  x = present (opened base log)

  -- before the restart has recorded anything
  abbrev y : Present
  y = present (reboot base log)

  abbrev es : List Enlistment
  es = x.transactions.enlistments

  abbrev c : Recorded → Course
  c t = course_of x (transaction_back t) None

  -- of one that commits its enlistments alone are not done then
  undone-settled : (t : Recorded) → IsIn t s.transactions → is_decided t.stage ≡ true → (p : RecordedPart) → IsIn p (settled_of t).parts → not p.is_done ≡ is_enlistment_part p
  undone-settled t there decided = settled-undone t decided (list_all-at (λ (t : Recorded). list_all (is_done_well t) t.parts) s.transactions good.done t there)

  -- ---- one transaction that is brought back

  module _ (t : Recorded) (there : IsIn t s.transactions) (brought : is_brought_back t ≡ true) where
    in_back : (e : Enlistment) → IsIn e (flat_map (enlistment_back t.id) t.parts) → IsIn e es
    in_back e below = in-es base log good t there brought e (IsIn-right e (superior_back t.id t.superior) (flat_map (enlistment_back t.id) t.parts) below)

    enlistments-back : by_rising_id (flat_map (enlistment_back t.id) t.parts) ≡ course_enlistments (c t)
    enlistments-back = rising-same (flat_map (enlistment_back t.id) t.parts) (map brought_back (filter (is_kept (c t)) es)) (differ-parts s good t there) (differ-kept (c t) (sound-opened base log good).enlistments.rise)
        (λ e below.
        let from = IsIn-unflat (enlistment_back t.id) t.parts e below in
        let parts = back-parts t.id from.0 e from.2 in
        IsIn-rising _ e (subst (λ z. IsIn z (course_enlistments (c t))) (back-same t.id from.0 e from.2) (kept-into (c t) e (in_back e below)
        (and_from _ _ (and_from _ _ (and_from _ _ parts.0 (durable-back base log good e (in_back e below))) parts.1) (not_from_false _ parts.2)))))
        (λ e kept.
        let from = kept-from (c t) e (IsIn-into_rising _ e kept) in
        let part = (and_parts (takes_part t.id from.0) _ (and_parts _ (from.0).is_prepared (and_parts _ (not (from.0).is_finished) from.2).0).0).0 in
        let ordinary = and_parts (same_id (from.0).transaction t.id) (not (is_superior from.0)) (and_parts _ (not (from.0).is_read_only) part).0 in
        elim (IsIn-cases from.0 (superior_back t.id t.superior) (flat_map (enlistment_back t.id) t.parts) (own-within base log good t there from.0 from.1 ordinary.0)) [
          | inl above ↦ absurd (true≢false (sym (superior-above t.id t.superior from.0 above) ∙ not-true _ ordinary.1))
          | inr below ↦
              let of = IsIn-unflat (enlistment_back t.id) t.parts from.0 below in
              subst (λ z. IsIn z (flat_map (enlistment_back t.id) t.parts)) (sym (back-same t.id of.0 from.0 of.2) ∙ from.3) below
        ])

    superior-same : t.superior ≡ superior_now (superior (c t))
    superior-same = go (superior_of es t.id) refl
      where
        none-there : (o : Option Superior) → t.superior ≡ o → superior_of es t.id ≡ None → o ≡ None
        none-there None is none = refl
        none-there (Some sup) is none = absurd (true≢false (sym (superior-there base log good t there brought sup is) ∙ ap is_some none))

        go : (o : Option Enlistment) → superior_of es t.id ≡ o → t.superior ≡ superior_now o
        go None none = none-there t.superior refl none
        go (Some e) found =
            let at = find-found (λ e. same_id e.transaction t.id && is_superior e) es e found in
            let both = and_parts (same_id e.transaction t.id) (is_superior e) at.1 in
            (is-back t e (own-within base log good t there e at.0 both.0)).superior both.1

    -- one that waits for its superior
    held-back : is_held t.stage ≡ true → summary_of t ∷ [] ≡ summaries x (transaction_back t)
    held-back held = ap (λ s. s ∷ []) now ∙ ap (λ h. course_in (c t) (stage_in (if h then InDoubt else Committing))) (sym held) ∙ sym (begun x (transaction_back t) None)
      where
        stage : (stage : Stage) → is_held stage ≡ true → stage ≡ Stage.Held
        stage Stage.Held is = refl
        stage _ is = absurd (true≢false (sym is))

        now : summary_of t ≡ course_now (c t) Stage.Held
        now = λ i. record {
          id = t.id;
          stage = stage t.stage held i;
          superior = superior-same i;
          enlistments = enlistments-back i;
          changes = sym (own-back base log good t there held) i;
          settings = sym (set-back base log good t there held) i;
        }

    -- one that commits
    decided-back : is_decided t.stage ≡ true → map summary_of (if_there (while_open (settled_of t))) ≡ summaries x (transaction_back t)
    decided-back decided = settled-summaries (c t) (settled_of t) settles ∙ ap (λ h. course_in (c t) (stage_in (if h then InDoubt else Committing))) (sym (not-held t.stage decided)) ∙ sym (begun x (transaction_back t) None)
      where
        not-held : (stage : Stage) → is_decided stage ≡ true → is_held stage ≡ false
        not-held Stage.Decided is = refl
        not-held _ is = absurd (true≢false (sym is))

        settles : Settles (c t) (settled_of t)
        settles = record {
          id = refl;
          stage = decided-stage t.stage decided;
          superior_same = superior-same;
          enlistments = ap by_rising_id (settled-gathered (enlistment_back t.id) (λ p d. refl) t) ∙ enlistments-back;
          changes = settled-gathered (λ p. changes_in p.part) (λ p d. refl) t ∙ no_changes-left t (list_all-at are_kept_changes s.transactions good.changes t there) decided;
          settings = settled-gathered (λ p. settings_in p.part) (λ p d. refl) t ∙ no_settings-left t (list_all-at are_kept_settings s.transactions good.settings t there) decided;
          undone = undone-settled t there decided;
        }

  -- one that commits and has no enlistment left is over
  over : (t : Recorded) → IsIn t s.transactions → is_decided t.stage ≡ true → list_any is_enlistment_part t.parts ≡ false → while_open (settled_of t) ≡ None
  over t there decided none = λ i. if closed i then Some (settled_of t) else None
    where
      same : (b : Bool) (done : DonePart) (p : RecordedPart) → is_enlistment_part (mark_if b done p) ≡ is_enlistment_part p
      same true done p = refl
      same false done p = refl

      closed : is_open (settled_of t) ≡ false
      closed = false_from_ne_true _ (λ open'.
          let one = list_any-at (λ (p : RecordedPart). not p.is_done) (settled_of t).parts open' in
          let keys = IsIn-unmap (mark_if (has_undone DonePart.Keys t) DonePart.Keys) one.0 (map (mark_if (has_undone DonePart.Files t) DonePart.Files) t.parts) one.1 in
          let files = IsIn-unmap (mark_if (has_undone DonePart.Files t) DonePart.Files) keys.0 t.parts keys.2 in
          let is : is_enlistment_part files.0 ≡ true = sym (same (has_undone DonePart.Files t) DonePart.Files files.0) ∙ ap is_enlistment_part files.1 ∙ sym (same (has_undone DonePart.Keys t) DonePart.Keys keys.0) ∙ ap is_enlistment_part keys.1
          ∙ sym (undone-settled t there decided one.0 one.1) ∙ one.2 in
          true≢false (sym (list_any-from is_enlistment_part t.parts files.0 files.2 is) ∙ none))

  -- ---- all of them

  each-back : (t : Recorded) → IsIn t s.transactions → map summary_of (if is_left t then if_there (left_of t) else []) ≡ (if is_brought_back t then summaries x (transaction_back t) else [])
  each-back t there = go t.stage refl
    where
      some : Bool
      some = list_any is_enlistment_part t.parts

      left : (stage : Stage) → t.stage ≡ stage → map summary_of (if is_left t then if_there (left_of t) else []) ≡ map summary_of (if not (is_ready stage) then if_there (if is_decided stage then while_open (settled_of t) else Some t) else [])
      left stage is = λ i. map summary_of (if not (is_ready (is i)) then if_there (if is_decided (is i) then while_open (settled_of t) else Some t) else [])

      brought : (stage : Stage) → t.stage ≡ stage → (if is_brought_back t then summaries x (transaction_back t) else []) ≡ (if is_held stage || (is_decided stage && some) then summaries x (transaction_back t) else [])
      brought stage is = λ i. if is_held (is i) || (is_decided (is i) && some) then summaries x (transaction_back t) else []

      decided-cases : t.stage ≡ Stage.Decided → (b : Bool) → some ≡ b → map summary_of (if_there (while_open (settled_of t))) ≡ (if b then summaries x (transaction_back t) else [])
      decided-cases is true has = decided-back t there ((λ i. is_held (is i) || (is_decided (is i) && has i))) (ap is_decided is)
      decided-cases is false none = ap (λ o. map summary_of (if_there o)) (over t there (ap is_decided is) none)

      go : (stage : Stage) → t.stage ≡ stage → map summary_of (if is_left t then if_there (left_of t) else []) ≡ (if is_brought_back t then summaries x (transaction_back t) else [])
      go Stage.Ready is = left Stage.Ready is ∙ sym (brought Stage.Ready is)
      go Stage.Held is = left Stage.Held is ∙ held-back t there (or_left _ _ (ap is_held is)) (ap is_held is) ∙ sym (brought Stage.Held is)
      go Stage.Decided is = left Stage.Decided is ∙ decided-cases is some refl ∙ sym (brought Stage.Decided is)

  walks : Walks y (committed_now y) (flat_map (λ t. if_there (left_of t)) (filter is_left s.transactions)) [] (after_events s (own_group s))
  walks = reopened y good refl refl (omega arith)

  transactions-now : x.recorded.transactions ≡ flat_map (λ t. if_there (left_of t)) (filter is_left s.transactions)
  transactions-now = walks.transactions ∙ append-nil (flat_map (λ t. if_there (left_of t)) (filter is_left s.transactions))

  carried-each : (t : Recorded) → IsIn t s.transactions → (r : Recorded) → IsIn r (if_there (left_of t)) → is_carried_out r ≡ true
  carried-each t there r = go (is_decided t.stage) refl
    where
      go : (b : Bool) → is_decided t.stage ≡ b → IsIn r (if_there (if b then while_open (settled_of t) else Some t)) → is_carried_out r ≡ true
      go true decided in_left = subst (λ u. is_carried_out u ≡ true) (in-while (settled_of t) r in_left) (settled-carried (settled_of t) (undone-settled t there decided))
      go false other (inl same) = subst (λ u. is_carried_out u ≡ true) same (or_left _ _ (not_from_false _ other))
      go false other (inr none) = absurd none

  pub agreed-opened : Agreed x
  agreed-opened = record {
    agrees = record {
      tree = walks.tree;
      keys = walks.keys;
      managers = walks.managers ∙ sym (durable-all s.managers);
      transactions = ap (map summary_of) (transactions-now ∙ filtered (λ t. if_there (left_of t)) is_left s.transactions)
          ∙ map-flat summary_of (λ t. if is_left t then if_there (left_of t) else []) (λ t. map summary_of (if is_left t then if_there (left_of t) else [])) (λ t. refl) s.transactions
          ∙ flat_map-alike (λ t. map summary_of (if is_left t then if_there (left_of t) else [])) (λ t. if is_brought_back t then summaries x (transaction_back t) else []) s.transactions each-back
          ∙ sym (filtered (λ t. summaries x (transaction_back t)) is_brought_back s.transactions) ∙ sym (mapped (summaries x) transaction_back (back s));
      next_node = walks.next_node;
    };
    carried = subst (λ rs. list_all is_carried_out rs ≡ true) (sym transactions-now) (list_all-from is_carried_out (flat_map (λ t. if_there (left_of t)) (filter is_left s.transactions)) (λ r in_all.
        let from = IsIn-unflat (λ t. if_there (left_of t)) (filter is_left s.transactions) r in_all in carried-each from.0 (IsIn-filter is_left s.transactions from.0 from.1).0 r from.2));
  }
