-- With the contents of the layers memory has what was recorded.
use Rattle.std.proofs.Common.{◌≡◌, ℕ, ◌+◌, ◌≤◌, ◌&&◌, ◌||◌, not, Bool, true, false, List, [], ◌∷◌, ◌++◌, cond, map, Option, Some, None, refl, sym, ◌∙◌, ap, subst, arith, inl, inr}
use Rattle.std.proofs.lemmas.Bool.{and_parts, cases_Bool, false_from_ne_true, leb-true, true≢false}
use Rattle.std.proofs.lemmas.List.{append-nil}
use Rattle.std.specs.Prelude.{if◌then◌else◌}
use Rattle.std.specs.List.{flat_map, list_all}
use Rattle.ktm_base.specs.declared.id.Id.{Id}
use Rattle.ktm_world.specs.declared.change.Change.{Change}
use Rattle.ktm_world.specs.declared.event.DonePart.{DonePart}
use Rattle.ktm_world.specs.declared.event.Part.{Part}
use Rattle.ktm_world.specs.declared.object.Transaction.{Transaction}
use Rattle.ktm_world.specs.declared.options.EnlistmentKind.{EnlistmentKind}
use Rattle.ktm_world.specs.declared.recorded.RecordedPart.{RecordedPart}
use Rattle.ktm_world.specs.declared.recorded.Stage.{Stage}
use Rattle.ktm_world.specs.declared.recorded.Superior.{Superior}
use Rattle.ktm_world.specs.Durable.{Recorded, are_recorded_changes, changes_in, changes_of, has_changes_part, has_settings_part, is_before, is_decided, is_part_of, is_ready, settings_in, settings_of}
use Rattle.ktm_world.specs.Enlistments.{Enlistment, enlistment_at, is_superior, superior_of}
use Rattle.ktm_world.specs.Files.{own_changes}
use Rattle.ktm_world.specs.Keys.{OwnSettings, are_good_settings, own_settings}
use Rattle.ktm_world.specs.Lawful.{Agrees, Summary, brought_back, is_held_stage, recorded_enlistments, stage_in, stays, summary_in, summary_now, summary_of, summaries_now, superior_now}
use Rattle.ktm_world.specs.Present.{Present}
use Rattle.ktm_world.specs.Transactions.{same_id}
use Rattle.ktm_world.specs.World.{by_rising_id, enlistment_back}
use Rattle.txf_laws.specs.Elements.{IsIn}
use Rattle.txf_laws.proofs.offered.Elements.{IsIn-filter, IsIn-flat_map, IsIn-unflat, find-in, list_all-at, list_any-from, some-not_none}
use Rattle.txf_laws.proofs.offered.Diamonds.{IsIn-map}
use Rattle.txf_laws.proofs.offered.Lists.{IsIn-unmap}
use Rattle.txf_laws.proofs.offered.Sums.{count-cons}
use Rattle.txf_laws.proofs.offered.Tables.{before_other, same_id-equal, same_id-from}
use Rattle.txf_laws.specs.GoodState.{IsGoodState, are_kept_changes, are_kept_settings, has_one_part_each}
use Rattle.txf_laws.proofs.offered.Parts.{count_among, gathered, gathered-none, is_among}
use Rattle.ktm_courses.specs.SoundCourse.{IsSoundCourse}
use Rattle.ktm_courses.proofs.offered.EnlistmentAnswers.{RiseEnlistments}
use Rattle.ktm_courses.proofs.offered.EnlistmentOrder.{IsIn-into_rising, IsIn-rising}
use Rattle.ktm_trace.specs.Contents.{ContentsLaw, KeptLaw, contents_of, expanded, expanded_parts, information_of, manager_of, superior_at}
use Rattle.ktm_trace.specs.Traces.{Traced, TracedPart, superior_id, traced, traced_part, who_of}

-- ---- what the log has to have

-- it is what the log has to have of a transaction now, at this stage
record IsOf (x : Present) (t : Recorded) : Type 0 where
  now : Transaction
  stage : Stage
  same : summary_now x now stage ≡ summary_of t

of-now : (x : Present) (t : Recorded) → Agrees x → IsIn t x.recorded.transactions → IsOf x t
of-now x t agrees there =
    let listed : IsIn (summary_of t) (summaries_now x) = subst (λ ss. IsIn (summary_of t) ss) agrees.transactions (IsIn-map summary_of t x.recorded.transactions there) in
    let from = IsIn-unflat (λ (u : Transaction). if u.is_recorded then summary_in x u (stage_in u.phase) else []) x.transactions.items (summary_of t) listed in
    recorded from.0 from.2
  where
    staged : (u : Transaction) (o : Option Stage) → IsIn (summary_of t) (summary_in x u o) → IsOf x t
    staged u None has = absurd has
    staged u (Some stage) has = elim (IsIn-filter stays (summary_now x u stage ∷ []) (summary_of t) has).0 [
      | inl is ↦ record { now = u; stage = stage; same = is }
      | inr none ↦ absurd none
    ]

    recorded : (u : Transaction) → IsIn (summary_of t) (if u.is_recorded then summary_in x u (stage_in u.phase) else []) → IsOf x t
    recorded u has = elim (cases_Bool u.is_recorded) [
      | inl is ↦ staged u (stage_in u.phase) (rw is at has)
      | inr other ↦ absurd (rw other at has)
    ]

-- ---- the superior

at-there : (es : List Enlistment) → RiseEnlistments es → (e : Enlistment) → IsIn e es → enlistment_at es e.id ≡ Some e
at-there [] rises e there = absurd there
at-there (a ∷ es) rises e (inl is) = rw (same_id-from a.id e.id (ap (λ (f : Enlistment). f.id) is)) (ap Some is)
at-there (a ∷ es) rises e (inr there) =
    let parts = and_parts (list_all (λ (f : Enlistment). is_before a.id f.id) es) _ rises in
    rw (false_from_ne_true (same_id a.id e.id) (λ same. before_other a.id e.id (list_all-at (λ (f : Enlistment). is_before a.id f.id) es parts.0 e there) (same_id-equal a.id e.id same)))
    (at-there es parts.1 e there)

superior-back : (es : List Enlistment) → RiseEnlistments es → (id : Id) (ready : Bool) (o : Option Superior) → (if ready then None else superior_now (superior_of es id)) ≡ o → superior_at es (superior_id o) ≡ o
superior-back es rises id true o is = subst (λ s. superior_at es (superior_id s) ≡ s) is refl
superior-back es rises id false o is = from (superior_of es id) refl is
  where
    from : (found : Option Enlistment) → superior_of es id ≡ found → superior_now found ≡ o → superior_at es (superior_id o) ≡ o
    from None found is = subst (λ s. superior_at es (superior_id s) ≡ s) is refl
    from (Some e) found is =
        let there = at-there es rises e (find-in (λ (f : Enlistment). same_id f.transaction id && is_superior f) es e found).0 in
        subst (λ s. superior_at es (superior_id s) ≡ s) is (ap (λ (f : Option Enlistment). Some (record { enlistment = e.id; manager = manager_of f; information = information_of f })) there)

-- ---- changes and settings

counted : (test : Part → Bool) (p : RecordedPart) (ps : List RecordedPart) → count_among test (p ∷ ps) ≡ cond (test p.part) 1 0 + count_among test ps
counted test p ps = count-cons (λ (q : RecordedPart). test q.part) p ps

counts : (test : Part → Bool) (p : RecordedPart) → test p.part ≡ true → ◌≡◌ {A = ℕ} (cond (test p.part) 1 0) 1
counts test p is = rw is refl

none-among : (test : Part → Bool) (ps : List RecordedPart) → count_among test ps ≤ 0 → is_among test ps ≡ false
none-among test [] none = refl
none-among test (p ∷ ps) none = elim (cases_Bool (test p.part)) [
  | inl is ↦ absurd (let all = counted test p ps in let one = counts test p is in omega arith)
  | inr other ↦ rw other (none-among test ps (let all = counted test p ps in omega arith))
]

-- the only part that passes has all that is gathered
gathered-only : {X : Type 0} (g : Part → List X) (test : Part → Bool) → ((part : Part) → test part ≡ false → g part ≡ []) → (ps : List RecordedPart) → count_among test ps ≤ 1
    → (p : RecordedPart) → IsIn p ps → test p.part ≡ true → gathered g ps ≡ g p.part
gathered-only g test empty [] few p there passes = absurd there
gathered-only g test empty (q ∷ ps) few p there passes = elim (cases_Bool (test q.part)) [
  | inl is ↦ first (none-among test ps (let all = counted test q ps in let one = counts test q is in omega arith)) there
  | inr other ↦ later other (λ behind. let all = counted test q ps in gathered-only g test empty ps (omega arith) p behind passes) there
]
  where
    first : is_among test ps ≡ false → IsIn p (q ∷ ps) → gathered g (q ∷ ps) ≡ g p.part
    first none (inl is) = ap (λ xs. g q.part ++ xs) (gathered-none g test empty ps none) ∙ append-nil (g q.part) ∙ ap (λ (r : RecordedPart). g r.part) is
    first none (inr there) = absurd (true≢false (sym (list_any-from (λ (r : RecordedPart). test r.part) ps p there passes) ∙ none))

    later : test q.part ≡ false → (IsIn p ps → gathered g ps ≡ g p.part) → IsIn p (q ∷ ps) → gathered g (q ∷ ps) ≡ g p.part
    later other rest (inl is) = absurd (true≢false (sym passes ∙ ap (λ (r : RecordedPart). test r.part) (sym is) ∙ other))
    later other rest (inr there) = ap (λ xs. xs ++ gathered g ps) (empty q.part other) ∙ rest there

no-changes : (part : Part) → is_part_of DonePart.Files part ≡ false → changes_in part ≡ []
no-changes (Part.Enlistment enlistment manager information) other = refl
no-changes (Part.Changes changes) other = absurd (true≢false other)
no-changes (Part.Settings settings) other = refl

no-settings : (part : Part) → is_part_of DonePart.Keys part ≡ false → settings_in part ≡ []
no-settings (Part.Enlistment enlistment manager information) other = refl
no-settings (Part.Changes changes) other = refl
no-settings (Part.Settings settings) other = absurd (true≢false other)

-- what is left of a decided transaction is none, and any other has some
left-back : {X : Type 0} (own all : List X) (stage : Stage) → (is_decided stage ≡ false → all ≡ [] → ⊥) → (if is_held_stage stage then own else []) ≡ all → (if is_decided stage then [] else own) ≡ all
left-back own all Stage.Ready some is = absurd (some refl (sym is))
left-back own all Stage.Held some is = is
left-back own all Stage.Decided some is = is

some-changes : (decided has : Bool) (changes : List Change) → (decided || not has || are_recorded_changes changes) ≡ true → decided ≡ false → has ≡ true → changes ≡ [] → ⊥
some-changes true has changes kept waits there none = true≢false waits
some-changes false false changes kept waits there none = true≢false (sym there)
some-changes false true [] kept waits there none = true≢false (sym kept)
some-changes false true (c ∷ cs) kept waits there none = some-not_none c cs none

some-settings : (decided has : Bool) (settings : OwnSettings) → (decided || not has || are_good_settings settings) ≡ true → decided ≡ false → has ≡ true → settings ≡ [] → ⊥
some-settings true has settings kept waits there none = true≢false waits
some-settings false false settings kept waits there none = true≢false (sym there)
some-settings false true [] kept waits there none = true≢false (sym kept)
some-settings false true (s ∷ ss) kept waits there none = some-not_none s ss none

-- ---- one transaction

each-back : (es : List Enlistment) (changes : List Change) (settings : OwnSettings) (ps : List RecordedPart) → ((p : RecordedPart) → IsIn p ps → contents_of es changes settings (who_of p.part) ≡ p.part)
    → expanded_parts es changes settings (map traced_part ps) ≡ ps
each-back es changes settings [] each = refl
each-back es changes settings (p ∷ ps) each = λ i. record { is_done = p.is_done; part = each p (inl refl) i } ∷ each-back es changes settings ps (λ q there. each q (inr there)) i

module _ (x : Present) (sound : IsSoundCourse x) (good : IsGoodState x.recorded) (agrees : Agrees x) (t : Recorded) (there : IsIn t x.recorded.transactions) where
  abbrev es : List Enlistment
  es = x.transactions.enlistments

  abbrev left_changes : List Change
  left_changes = if is_decided t.stage then [] else own_changes x.files.table.own t.id

  abbrev left_settings : OwnSettings
  left_settings = if is_decided t.stage then [] else own_settings x.keys.own t.id

  rise : RiseEnlistments es
  rise = sound.enlistments.rise

  of : IsOf x t
  of = of-now x t agrees there

  id-same : (of.now).id ≡ t.id
  id-same = ap (λ (s : Summary). s.id) of.same

  stage-same : of.stage ≡ t.stage
  stage-same = ap (λ (s : Summary). s.stage) of.same

  superior-same : superior_at es (superior_id t.superior) ≡ t.superior
  superior-same = superior-back es rise (of.now).id (is_ready of.stage) t.superior (ap (λ (s : Summary). s.superior) of.same)

  changes-same : (if is_held_stage t.stage then own_changes x.files.table.own t.id else []) ≡ changes_of t
  changes-same = sym (λ i. if is_held_stage (stage-same i) then own_changes x.files.table.own (id-same i) else []) ∙ ap (λ (s : Summary). s.changes) of.same

  settings-same : (if is_held_stage t.stage then own_settings x.keys.own t.id else []) ≡ settings_of t
  settings-same = sym (λ i. if is_held_stage (stage-same i) then own_settings x.keys.own (id-same i) else []) ∙ ap (λ (s : Summary). s.settings) of.same

  one-each : (count_among (is_part_of DonePart.Files) t.parts ≤ 1) × (count_among (is_part_of DonePart.Keys) t.parts ≤ 1)
  one-each =
      let both = and_parts _ _ (list_all-at has_one_part_each x.recorded.transactions good.parts t there) in
      (leb-true _ _ both.0, leb-true _ _ both.1)

  enlistment-back : (is_done : Bool) (id manager : Id) (information : List ℕ) → IsIn (record { is_done = is_done; part = Part.Enlistment id manager information }) t.parts
      → contents_of es left_changes left_settings (DonePart.Enlistment id) ≡ Part.Enlistment id manager information
  enlistment-back is_done id manager information has =
      let p : RecordedPart = record { is_done = is_done; part = Part.Enlistment id manager information } in
      let back : Enlistment = record { id = id; manager = manager; transaction = t.id; kind = EnlistmentKind.Plain; owes = None; is_read_only = false; is_prepared = true; is_finished = false; is_recovered = false; information = information } in
      let listed : IsIn back (by_rising_id (flat_map (enlistment_back t.id) t.parts)) = IsIn-into_rising (flat_map (enlistment_back t.id) t.parts) back (IsIn-flat_map (enlistment_back t.id) t.parts p back has (inl refl)) in
      let now : IsIn back (recorded_enlistments x (of.now).id) = subst (λ fs. IsIn back fs) (sym (ap (λ (s : Summary). s.enlistments) of.same)) listed in
      let from = IsIn-unmap brought_back back _ (IsIn-rising _ back now) in
      let e = from.0 in
      let same = from.1 in
      let in_es = (IsIn-filter _ es e from.2).0 in
      ap (λ (f : Option Enlistment). Part.Enlistment id (manager_of f) (information_of f)) (ap (λ (i : Id). enlistment_at es i) (sym (ap (λ (f : Enlistment). f.id) same)) ∙ at-there es rise e in_es)
      ∙ (λ i. Part.Enlistment id (same i).manager (same i).information)

  changes-back : (is_done : Bool) (changes : List Change) → IsIn (record { is_done = is_done; part = Part.Changes changes }) t.parts → left_changes ≡ changes
  changes-back is_done changes has =
      let p : RecordedPart = record { is_done = is_done; part = Part.Changes changes } in
      let kept = (and_parts _ _ (list_all-at are_kept_changes x.recorded.transactions good.changes t there)).1 in
      let some = some-changes (is_decided t.stage) (has_changes_part t) (changes_of t) kept in
      let has_one = list_any-from (λ (q : RecordedPart). is_part_of DonePart.Files q.part) t.parts p has refl in
      left-back (own_changes x.files.table.own t.id) (changes_of t) t.stage (λ waits. some waits has_one) changes-same
      ∙ gathered-only changes_in (is_part_of DonePart.Files) no-changes t.parts one-each.0 p has refl

  settings-back : (is_done : Bool) (settings : OwnSettings) → IsIn (record { is_done = is_done; part = Part.Settings settings }) t.parts → left_settings ≡ settings
  settings-back is_done settings has =
      let p : RecordedPart = record { is_done = is_done; part = Part.Settings settings } in
      let kept = (and_parts _ _ (list_all-at are_kept_settings x.recorded.transactions good.settings t there)).1 in
      let some = some-settings (is_decided t.stage) (has_settings_part t) (settings_of t) kept in
      let has_one = list_any-from (λ (q : RecordedPart). is_part_of DonePart.Keys q.part) t.parts p has refl in
      left-back (own_settings x.keys.own t.id) (settings_of t) t.stage (λ waits. some waits has_one) settings-same
      ∙ gathered-only settings_in (is_part_of DonePart.Keys) no-settings t.parts one-each.1 p has refl

  part-back : (is_done : Bool) (part : Part) → IsIn (record { is_done = is_done; part = part }) t.parts → contents_of es left_changes left_settings (who_of part) ≡ part
  part-back is_done (Part.Enlistment id manager information) has = enlistment-back is_done id manager information has
  part-back is_done (Part.Changes changes) has = ap Part.Changes (changes-back is_done changes has)
  part-back is_done (Part.Settings settings) has = ap Part.Settings (settings-back is_done settings has)

  pub transaction-back : expanded es x.files.table.own x.keys.own (traced t) ≡ t
  transaction-back = λ i. record {
    id = t.id;
    stage = t.stage;
    superior = superior-same i;
    parts = each-back es left_changes left_settings t.parts (λ p has. part-back p.is_done p.part has) i;
  }

-- ---- all of them

all-back : (f : Traced → Recorded) (ts : List Recorded) → ((t : Recorded) → IsIn t ts → f (traced t) ≡ t) → map f (map traced ts) ≡ ts
all-back f [] each = refl
all-back f (t ∷ ts) each = λ i. each t (inl refl) i ∷ all-back f ts (λ u there. each u (inr there)) i

pub contents_law : ContentsLaw
contents_law x sound good agrees = all-back (expanded x.transactions.enlistments x.files.table.own x.keys.own) x.recorded.transactions (λ t there. transaction-back x sound good agrees t there)

-- ---- what memory keeps of that

kept-part : (enlisted : List Enlistment) (changes : List Change) (settings : OwnSettings) (p : TracedPart) → traced_part (record { is_done = p.is_done; part = contents_of enlisted changes settings p.who }) ≡ p
kept-part enlisted changes settings p = go p.who
  where
    go : (who : DonePart) → ◌≡◌ {A = TracedPart} (traced_part (record { is_done = p.is_done; part = contents_of enlisted changes settings who })) (record { is_done = p.is_done; who = who })
    go (DonePart.Enlistment id) = refl
    go DonePart.Files = refl
    go DonePart.Keys = refl

kept-parts : (enlisted : List Enlistment) (changes : List Change) (settings : OwnSettings) (ps : List TracedPart) → map traced_part (expanded_parts enlisted changes settings ps) ≡ ps
kept-parts enlisted changes settings [] = refl
kept-parts enlisted changes settings (p ∷ ps) = λ i. kept-part enlisted changes settings p i ∷ kept-parts enlisted changes settings ps i

kept-superior : (enlisted : List Enlistment) (o : Option Id) → superior_id (superior_at enlisted o) ≡ o
kept-superior enlisted None = refl
kept-superior enlisted (Some id) = refl

pub kept_law : KeptLaw
kept_law enlisted changes settings [] = refl
kept_law enlisted changes settings (t ∷ ts) = λ i.
    record {
      id = t.id;
      stage = t.stage;
      superior = kept-superior enlisted t.superior i;
      parts = kept-parts enlisted (if is_decided t.stage then [] else own_changes changes t.id) (if is_decided t.stage then [] else own_settings settings t.id) t.parts i;
    }
    ∷ kept_law enlisted changes settings ts i
