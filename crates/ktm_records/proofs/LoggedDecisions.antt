-- What the log has of a transaction from its decision on.
use Rattle.std.specs.Prelude.{if◌then◌else◌}
use Rattle.std.proofs.Common.{◌≡◌, ◌==◌, ◌&&◌, ◌||◌, not, Bool, true, false, List, [], ◌∷◌, ◌++◌, length, map, Some, None, refl, sym, ◌∙◌, ap, inl, inr}
use Rattle.std.proofs.lemmas.Bool.{and_from, and_parts, and_right, eqb-true, not_from_false, or_right, true≢false, false_from_ne_true}
use Rattle.std.specs.List.{flat_map, list_any}
use Rattle.ktm_base.specs.declared.id.Id.{Id}
use Rattle.ktm_world.specs.declared.event.DonePart.{DonePart}
use Rattle.ktm_world.specs.declared.event.Part.{Part}
use Rattle.ktm_world.specs.declared.event.Part.TheVariants.{Enlistment as EnlistmentPart, Changes, Settings}
use Rattle.ktm_world.specs.declared.object.Phase.TheVariants.{Committing}
use Rattle.ktm_world.specs.declared.object.TransactionOutcome.TheVariants.{Committed}
use Rattle.ktm_world.specs.declared.recorded.RecordedPart.{RecordedPart}
use Rattle.ktm_world.specs.declared.recorded.Stage.{Stage}
use Rattle.ktm_world.specs.Durable.{Recorded, changes_of, is_before, is_decided, is_part_of, settings_of}
use Rattle.ktm_world.specs.Enlistments.{Enlistment, is_unfinished, takes_part}
use Rattle.ktm_world.specs.Lawful.{Summary, stage_in, summary_of, superior_now}
use Rattle.ktm_world.specs.Phases.{Course, ended, ended_if_finished, superior}
use Rattle.ktm_world.specs.World.{by_rising_id, enlistment_back, is_enlistment_part, with_enlistment}
use Rattle.txf_laws.specs.Elements.{IsIn}
use Rattle.ktm_records.specs.Kept.{is_carried_out}
use Rattle.txf_laws.proofs.offered.Diamonds.{none-from}
use Rattle.txf_laws.proofs.offered.Elements.{list_any-from}
use Rattle.ktm_records.proofs.offered.AgreementOfCourses.{course_enlistments, course_in, course_now, course_summaries, none-in}
use Rattle.txf_laws.proofs.offered.OwnGroups.{is_open}
use Rattle.ktm_records.proofs.LoggedOrder.{if_there, while_open}
use Rattle.ktm_records.proofs.AgreementOfSilentSteps.{none-kept}
use Rattle.ktm_steps.proofs.offered.Ways.{if_cases}

-- ---- whether it stays

pub length-some : {X : Type 0} (x : X) (xs : List X) → not (length (x ∷ xs) == 0) ≡ true
length-some x xs = not_from_false _ (false_from_ne_true _ (λ is. no-length (eqb-true _ _ is)))
  where
    no-length : length (x ∷ xs) ≡ 0 → ⊥
    no-length none = absurd cc

with-some : (es : List Enlistment) (e : Enlistment) → not (length (with_enlistment es e) == 0) ≡ true
with-some [] e = length-some e []
with-some (a ∷ es) e = if_cases (λ xs. not (length xs == 0) ≡ true) (is_before e.id a.id) (e ∷ a ∷ es) (a ∷ with_enlistment es e) (λ is. length-some e (a ∷ es)) (λ is. length-some a (with_enlistment es e))

some-back : (id : Id) (ps : List RecordedPart) → not (length (by_rising_id (flat_map (enlistment_back id) ps)) == 0) ≡ list_any is_enlistment_part ps
some-back id [] = refl
some-back id (p ∷ ps) = go p.part (some-back id ps)
  where
    go : (q : Part) → not (length (by_rising_id (flat_map (enlistment_back id) ps)) == 0) ≡ list_any is_enlistment_part ps
        → not (length (by_rising_id (enlistment_back id (record p { part = q }) ++ flat_map (enlistment_back id) ps)) == 0) ≡ (is_enlistment_part (record p { part = q }) || list_any is_enlistment_part ps)
    go (EnlistmentPart e m i) others = with-some (by_rising_id (flat_map (enlistment_back id) ps)) _
    go (Changes cs) others = others
    go (Settings ss) others = others

-- what two tests say alike of each part, they say of some
any-alike : (f g : RecordedPart → Bool) (ps : List RecordedPart) → ((p : RecordedPart) → IsIn p ps → f p ≡ g p) → list_any f ps ≡ list_any g ps
any-alike f g [] same = refl
any-alike f g (p ∷ ps) same = λ i. same p (inl refl) i || any-alike f g ps (λ q there. same q (inr there)) i

-- the log has of a decided transaction its enlistments alone, and what else took part is done
pub record Settles (c : Course) (r : Recorded) : Type 0 where
  pub id : r.id ≡ c.transaction.id
  pub stage : r.stage ≡ Stage.Decided
  pub superior_same : r.superior ≡ superior_now (superior c)
  pub enlistments : by_rising_id (flat_map (enlistment_back r.id) r.parts) ≡ course_enlistments c
  pub changes : changes_of r ≡ []
  pub settings : settings_of r ≡ []
  pub undone : (p : RecordedPart) → IsIn p r.parts → not p.is_done ≡ is_enlistment_part p

-- the log has a decided transaction while an enlistment of it has not finished
pub settled-summaries : (c : Course) (r : Recorded) → Settles c r → map summary_of (if_there (while_open r)) ≡ course_in c (Some Stage.Decided)
settled-summaries c r settles = ap (λ b. map summary_of (if_there (if b then Some r else None))) still-open ∙ go (not (length (course_enlistments c) == 0))
  where
    still-open : is_open r ≡ not (length (course_enlistments c) == 0)
    still-open = any-alike (λ (p : RecordedPart). not p.is_done) is_enlistment_part r.parts settles.undone ∙ sym (some-back r.id r.parts) ∙ ap (λ es. not (length es == 0)) settles.enlistments

    last : summary_of r ≡ course_now c Stage.Decided
    last = λ i. record {
      id = settles.id i;
      stage = settles.stage i;
      superior = settles.superior_same i;
      enlistments = settles.enlistments i;
      changes = settles.changes i;
      settings = settles.settings i;
    }

    go : (b : Bool) → map summary_of (if_there (if b then Some r else None)) ≡ (if b then course_now c Stage.Decided ∷ [] else [])
    go true = λ i. last i ∷ []
    go false = refl

-- with its files and its keys done
pub settled-carried : (r : Recorded) → ((p : RecordedPart) → IsIn p r.parts → not p.is_done ≡ is_enlistment_part p) → is_carried_out r ≡ true
settled-carried r undone = or_right (not (is_decided r.stage)) _ (and_from _ _ (none DonePart.Files (λ p. files p)) (none DonePart.Keys (λ p. keys p)))
  where
    none : (done : DonePart) → ((part : Part) → is_part_of done part ≡ true → (d : Bool) → is_enlistment_part (record { is_done = d; part = part }) ≡ false) → not (is_decided r.stage && list_any (λ (p : RecordedPart). is_part_of done p.part && not p.is_done) r.parts) ≡ true
    none done other = not_from_false _ (and_right (is_decided r.stage) _ (none-from (λ (p : RecordedPart). is_part_of done p.part && not p.is_done) r.parts (λ p there. false_from_ne_true _ (λ is.
        let both = and_parts (is_part_of done p.part) (not p.is_done) is in
        true≢false (sym both.1 ∙ undone p there ∙ other p.part both.0 p.is_done)))))

    files : (part : Part) → is_part_of DonePart.Files part ≡ true → (d : Bool) → is_enlistment_part (record { is_done = d; part = part }) ≡ false
    files (EnlistmentPart e m i) is d = absurd (true≢false (sym is))
    files (Changes cs) is d = refl
    files (Settings ss) is d = refl

    keys : (part : Part) → is_part_of DonePart.Keys part ≡ true → (d : Bool) → is_enlistment_part (record { is_done = d; part = part }) ≡ false
    keys (EnlistmentPart e m i) is d = absurd (true≢false (sym is))
    keys (Changes cs) is d = refl
    keys (Settings ss) is d = refl

-- ---- the course

-- what the log has to have from the decision on, where it has the transaction
abbrev pub staying : Course → List Summary
staying c = if c.transaction.is_recorded then course_in c (Some Stage.Decided) else []

-- it ends where nobody is unfinished, of which nothing is recorded
pub record Ends (d e : Course) : Type 0 where
  pub events : e.events ≡ d.events
  pub works : e.works ≡ d.works
  pub summaries : course_summaries e ≡ staying d

pub ends-if_finished : (d : Course) → d.transaction.phase ≡ Committing → Ends d (ended_if_finished d Committed)
unfolding ended
ends-if_finished d phase = if_cases (λ e. Ends d e) (list_any (is_unfinished d.transaction.id) d.enlistments) d (ended d Committed)
    (λ some. record { events = refl; works = refl; summaries = λ i. if d.transaction.is_recorded then course_in d (stage_in (phase i)) else [] })
    (λ none. record { events = refl; works = refl; summaries = none-in (ended d Committed) refl ∙ sym (nothing d.transaction.is_recorded (over none)) })
  where
    over : list_any (is_unfinished d.transaction.id) d.enlistments ≡ false → course_enlistments d ≡ []
    over none = none-kept d (λ e there. false_from_ne_true _ (λ is.
        let parts = and_parts _ (not e.is_finished) is in
        true≢false (sym (list_any-from (is_unfinished d.transaction.id) d.enlistments e there (and_from _ _ (and_parts (takes_part d.transaction.id e) _ (and_parts _ _ parts.0).0).0 parts.1)) ∙ none)))

    nothing : (b : Bool) → course_enlistments d ≡ [] → (if b then course_in d (Some Stage.Decided) else []) ≡ []
    nothing true none = ap (λ es. if not (length es == 0) then record (course_now d Stage.Decided) { enlistments = es } ∷ [] else []) none
    nothing false none = refl
