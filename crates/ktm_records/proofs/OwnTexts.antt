-- The keys are texts, those that transactions have set and those that are recorded.
use Rattle.std.proofs.Common.{◌≡◌, ℕ, ◌||◌, not, Bool, false, List, [], ◌∷◌, ◌++◌, map, filter, Option, Some, None, refl, sym, subst, inl, inr, ◌⊎◌}
use Rattle.std.proofs.lemmas.Bool.{cases_Bool}
use Rattle.std.proofs.lemmas.List.Elements.{All-from_recursion, recursion_from_All}
use Rattle.std.specs.List.{flat_map, list_any, AllByRecursion}
use Rattle.ktm_base.specs.Grammar.{IsRow}
use Rattle.ktm_base.specs.declared.id.Id.{Id}
use Rattle.ktm_keyed.specs.declared.keyed.Keyed.{Keyed}
use Rattle.ktm_keyed.specs.Keyed.{put}
use Rattle.ktm_keyed.proofs.KeyedLemmas.{AllByRecursion-put}
use Rattle.ktm_world.specs.declared.event.DonePart.{DonePart}
use Rattle.ktm_world.specs.declared.event.Event.{Event}
use Rattle.ktm_world.specs.declared.event.Event.TheVariants.{Boot, MadeRm, Plain, Ready, Single, Held, Decide, Undo, Done}
use Rattle.ktm_world.specs.declared.event.Part.{Part}
use Rattle.ktm_world.specs.declared.event.Part.TheVariants.{Enlistment, Changes, Settings}
use Rattle.ktm_world.specs.declared.recorded.RecordedPart.{RecordedPart}
use Rattle.ktm_world.specs.declared.recorded.Stage.{Stage}
use Rattle.ktm_world.specs.EventGrammar.{IsEventOf, IsGroupOf, IsPartOf, IsSettingOf}
use Rattle.ktm_world.specs.Values.{IsText}
use Rattle.ktm_world.specs.Durable.{Durable, Recorded, after_event, after_events, decide_recorded, emptied, emptied_part, finish_recorded, is_before, is_of_enlistment, is_part_of, is_ready, parts_done, recorded_at, recorded_or_new, settings_in, settings_of, stand, while_not_done, with_recorded, without_recorded}
use Rattle.ktm_world.specs.Keys.{Own, OwnSettings, own_settings, with_own, without_own}
use Rattle.ktm_world.specs.Logs.{Group}
use Rattle.ktm_world.specs.Transactions.{same_id}
use Rattle.ktm_world.specs.World.{present, opened, in_doubt, has_own_settings}
use Rattle.txf_laws.specs.Elements.{IsIn}
use Rattle.ktm_records.specs.Spelling.{AreRecordedTexts, AreTextKeys, AreTexts, HaveTextKeys, settings_of_event}
use Rattle.ktm_records.proofs.CommittedTexts.{texts-stored_all}
use Rattle.txf_laws.proofs.offered.Elements.{IsIn-filter, IsIn-flat_map, IsIn-unflat}
use Rattle.txf_laws.proofs.offered.Lists.{IsIn-cases, IsIn-unmap}
use Rattle.txf_laws.proofs.offered.CommitsOfOthers.{All-by, All-in}
use Rattle.txf_laws.proofs.offered.Tables.{recorded_at-found}
use Rattle.ktm_steps.proofs.offered.Ways.{if_cases}

-- is the key a text
abbrev pub HasTextKey : Keyed (Option (List ℕ)) → Type 0
HasTextKey s = IsText s.key

-- ---- what transactions have set

-- each entry has texts as keys
abbrev pub Texts : List Own → Type 0
Texts own = AllByRecursion (λ (o : Own). HaveTextKeys o.settings) own

pub texts-put : (settings : OwnSettings) (key : List ℕ) (value : Option (List ℕ)) → IsText key → HaveTextKeys settings → HaveTextKeys (put settings key value)
texts-put settings key value text all = All-from_recursion _ _ (AllByRecursion-put HasTextKey key value text settings (recursion_from_All _ _ all))

pub texts-none : HaveTextKeys []
texts-none = All-from_recursion HasTextKey [] tt

pub texts-with_own : (own : List Own) (id : Id) (key : List ℕ) (value : Option (List ℕ)) → IsText key → Texts own → Texts (with_own own id key value)
texts-with_own [] id key value text all = (texts-put [] key value text texts-none, tt)
texts-with_own (o ∷ os) id key value text all = elim (cases_Bool (same_id o.transaction id)) [
  | inl same ↦ rw same (texts-put o.settings key value text all.0, all.1)
  | inr other ↦ rw other (all.0, texts-with_own os id key value text all.1)
]

pub texts-without_own : (own : List Own) (id : Id) → Texts own → Texts (without_own own id)
texts-without_own [] id all = tt
texts-without_own (o ∷ os) id all = elim (cases_Bool (same_id o.transaction id)) [
  | inl same ↦ rw same all.1
  | inr other ↦ rw other (all.0, texts-without_own os id all.1)
]

-- what each transaction has set has texts as keys
pub texts-own_settings : (own : List Own) (id : Id) → Texts own → HaveTextKeys (own_settings own id)
texts-own_settings [] id all = texts-none
texts-own_settings (o ∷ os) id all = elim (cases_Bool (same_id o.transaction id)) [
  | inl same ↦ rw same all.0
  | inr other ↦ rw other (texts-own_settings os id all.1)
]

-- ---- what is recorded

-- what each transaction sets by its parts has texts as keys
abbrev RecordedTexts : List Recorded → Type 0
RecordedTexts ts = (t : Recorded) → IsIn t ts → HaveTextKeys (settings_of t)

-- what parts set
abbrev set_by : List RecordedPart → OwnSettings
set_by ps = flat_map (λ (p : RecordedPart). settings_in p.part) ps

IsIn-with : (ts : List Recorded) (t u : Recorded) → IsIn u (with_recorded ts t) → (t ≡ u) ⊎ IsIn u ts
IsIn-with [] t u (inl is) = inl is
IsIn-with [] t u (inr none) = absurd none
IsIn-with (a ∷ ts) t u there = elim (cases_Bool (same_id a.id t.id)) [
  | inl same ↦ elim (rw same at there) [ inl is ↦ inl is | inr later ↦ inr (inr later) ]
  | inr other ↦ elim (cases_Bool (is_before t.id a.id)) [
    | inl before ↦ elim (rw (other, before) at there) [ inl is ↦ inl is | inr later ↦ inr later ]
    | inr behind ↦ elim (rw (other, behind) at there) [
      | inl is ↦ inr (inl is)
      | inr later ↦ elim (IsIn-with ts t u later) [ inl is ↦ inl is | inr old ↦ inr (inr old) ]
    ]
  ]
]

texts-with : (ts : List Recorded) (t : Recorded) → RecordedTexts ts → HaveTextKeys (settings_of t) → RecordedTexts (with_recorded ts t)
texts-with ts t all texts u there = elim (IsIn-with ts t u there) [ inl is ↦ subst (λ (v : Recorded). HaveTextKeys (settings_of v)) is texts | inr old ↦ all u old ]

texts-filter : (keep : Recorded → Bool) (ts : List Recorded) → RecordedTexts ts → RecordedTexts (filter keep ts)
texts-filter keep ts all u there = all u (IsIn-filter keep ts u there).0

texts-while : (ts : List Recorded) (t : Recorded) → RecordedTexts ts → HaveTextKeys (settings_of t) → RecordedTexts (while_not_done ts t)
texts-while ts t all texts = if_cases (λ us. RecordedTexts us) (list_any (λ (p : RecordedPart). not p.is_done) t.parts) (with_recorded ts t) (without_recorded ts t.id)
    (λ some. texts-with ts t all texts) (λ over. texts-filter (λ v. not (same_id v.id t.id)) ts all)

texts-known : (ts : List Recorded) (id : Id) → RecordedTexts ts → HaveTextKeys (settings_of (recorded_or_new ts id))
texts-known [] id all = texts-none
texts-known (t ∷ ts) id all = elim (cases_Bool (same_id t.id id)) [
  | inl same ↦ rw same (all t (inl refl))
  | inr other ↦ rw other (texts-known ts id (λ u there. all u (inr there)))
]

-- ---- parts

-- a part that is in two lists of parts sets the same by both
texts-parts : (ps qs : List RecordedPart) → ((q : RecordedPart) → IsIn q qs → (p : RecordedPart) × IsIn p ps × ((s : Keyed (Option (List ℕ))) → IsIn s (settings_in q.part) → IsIn s (settings_in p.part)))
    → HaveTextKeys (set_by ps) → HaveTextKeys (set_by qs)
texts-parts ps qs from texts = All-by HasTextKey (set_by qs) (λ s there.
    let at = IsIn-unflat (λ (p : RecordedPart). settings_in p.part) qs s there in
    let of = from at.0 at.1 in
    All-in HasTextKey (set_by ps) texts s (IsIn-flat_map (λ (p : RecordedPart). settings_in p.part) ps of.0 s of.1 (of.2 s at.2)))

none-emptied : (part : Part) → settings_in (emptied part) ≡ []
none-emptied (Enlistment e m i) = refl
none-emptied (Changes cs) = refl
none-emptied (Settings ss) = refl

texts-emptied : (ps : List RecordedPart) → HaveTextKeys (set_by (map emptied_part ps))
texts-emptied ps = All-by HasTextKey (set_by (map emptied_part ps)) (λ s there.
    let at = IsIn-unflat (λ (p : RecordedPart). settings_in p.part) (map emptied_part ps) s there in
    let of = IsIn-unmap emptied_part at.0 ps at.1 in
    absurd (subst (λ ss. IsIn s ss) (none-emptied of.0.part) (subst (λ (p : RecordedPart). IsIn s (settings_in p.part)) (sym of.1) at.2)))

texts-done : (done : DonePart) (ps : List RecordedPart) → HaveTextKeys (set_by ps) → HaveTextKeys (set_by (parts_done done ps))
texts-done done ps texts = if_cases (λ qs. HaveTextKeys (set_by qs)) (is_of_enlistment done) (filter (λ p. not (is_part_of done p.part)) ps) (map (λ (p : RecordedPart). record p { is_done = p.is_done || is_part_of done p.part }) ps)
    (λ enlistment. texts-parts ps (filter (λ (p : RecordedPart). not (is_part_of done p.part)) ps) (λ q there. (q, (IsIn-filter (λ (p : RecordedPart). not (is_part_of done p.part)) ps q there).0, λ s is. is)) texts)
    (λ other. texts-parts ps (map (λ (p : RecordedPart). record p { is_done = p.is_done || is_part_of done p.part }) ps) (λ q there.
    let of = IsIn-unmap (λ (p : RecordedPart). record p { is_done = p.is_done || is_part_of done p.part }) q ps there in
    (of.0, of.2, λ s is. subst (λ (p : RecordedPart). IsIn s (settings_in p.part)) (sym of.1) is)) texts)

texts-pushed : (ps : List RecordedPart) (part : Part) → HaveTextKeys (set_by ps) → HaveTextKeys (settings_in part) → HaveTextKeys (set_by (ps ++ record { is_done = false; part = part } ∷ []))
texts-pushed ps part texts more = All-by HasTextKey (set_by (ps ++ record { is_done = false; part = part } ∷ [])) (λ s there.
    let at = IsIn-unflat (λ (p : RecordedPart). settings_in p.part) (ps ++ record { is_done = false; part = part } ∷ []) s there in
    elim (IsIn-cases at.0 ps (record { is_done = false; part = part } ∷ []) at.1) [
      | inl old ↦ All-in HasTextKey (set_by ps) texts s (IsIn-flat_map (λ (p : RecordedPart). settings_in p.part) ps at.0 s old at.2)
      | inr (inl is) ↦ All-in HasTextKey (settings_in part) more s (subst (λ (p : RecordedPart). IsIn s (settings_in p.part)) (sym is) at.2)
      | inr (inr none) ↦ absurd none
    ])

-- ---- events

texts-decided : (s : Durable) (o : Option Recorded) → RecordedTexts s.transactions → RecordedTexts (decide_recorded s o).transactions
texts-decided s None all = all
texts-decided s (Some t) all = texts-while s.transactions (record t { stage = Stage.Decided; parts = map emptied_part t.parts }) all (texts-emptied t.parts)

texts-finished : (s : Durable) (done : DonePart) (o : Option Recorded) → ((t : Recorded) → o ≡ Some t → IsIn t s.transactions) → RecordedTexts s.transactions → RecordedTexts (finish_recorded s done o).transactions
texts-finished s done None there all = all
texts-finished s done (Some t) there all = texts-while s.transactions (record t { parts = parts_done done t.parts }) all (texts-done done t.parts (all t (there t refl)))

texts-event : (s : Durable) (event : Event) → RecordedTexts s.transactions → HaveTextKeys (settings_of_event event) → RecordedTexts (after_event s event).transactions
texts-event s (Boot boot) all texts = texts-filter (λ t. not (is_ready t.stage)) s.transactions all
texts-event s (MadeRm manager) all texts = all
texts-event s (Plain change) all texts = all
texts-event s (Ready transaction part) all texts =
    let t = recorded_or_new s.transactions transaction in
    texts-with s.transactions (record t { parts = t.parts ++ record { is_done = false; part = part } ∷ [] }) all (texts-pushed t.parts part (texts-known s.transactions transaction all) texts)
texts-event s (Single transaction part) all texts = all
texts-event s (Held transaction enlistment manager information) all texts =
    let t = recorded_or_new s.transactions transaction in
    texts-with s.transactions (record t { stage = Stage.Held; superior = Some (record { enlistment = enlistment; manager = manager; information = information }) }) all (texts-known s.transactions transaction all)
texts-event s (Decide transaction) all texts = texts-decided s (recorded_at s.transactions transaction) all
texts-event s (Undo transaction) all texts = texts-filter (λ t. not (same_id t.id transaction)) s.transactions all
texts-event s (Done transaction done) all texts = texts-finished s done (recorded_at s.transactions transaction) (λ t is. (recorded_at-found s.transactions transaction t is).0) all

-- the committed keys once a transaction is decided, or a part of it is done
keys-decided : (s : Durable) (o : Option Recorded) → ((t : Recorded) → o ≡ Some t → HaveTextKeys (settings_of t)) → AreTextKeys s.keys → AreTextKeys (decide_recorded s o).keys
keys-decided s None each all = all
keys-decided s (Some t) each all = texts-stored_all s.keys (settings_of t) all (each t refl)

keys-finished : (s : Durable) (done : DonePart) (o : Option Recorded) → AreTextKeys s.keys → AreTextKeys (finish_recorded s done o).keys
keys-finished s done None all = all
keys-finished s done (Some t) all = all

keys-event : (s : Durable) (event : Event) → RecordedTexts s.transactions → HaveTextKeys (settings_of_event event) → AreTextKeys s.keys → AreTextKeys (after_event s event).keys
keys-event s (Single transaction (Enlistment e m i)) each texts all = all
keys-event s (Single transaction (Changes changes)) each texts all = all
keys-event s (Single transaction (Settings settings)) each texts all = texts-stored_all s.keys settings all texts
keys-event s (Decide transaction) each texts all = keys-decided s (recorded_at s.transactions transaction) (λ t is. each t (recorded_at-found s.transactions transaction t is).0) all
keys-event s (Done transaction done) each texts all = keys-finished s done (recorded_at s.transactions transaction) all
keys-event s _ each texts all = all

pub recorded-texts : (s : Durable) (event : Event) → AreRecordedTexts s → HaveTextKeys (settings_of_event event) → AreRecordedTexts (after_event s event)
recorded-texts s event all texts =
    let each = All-in (λ (t : Recorded). HaveTextKeys (settings_of t)) s.transactions all.settings in
    record {
      keys = keys-event s event each texts all.keys;
      settings = All-by (λ (t : Recorded). HaveTextKeys (settings_of t)) (after_event s event).transactions (texts-event s event each texts);
    }

-- ---- a restart

pub restarted-texts : (base : Durable) (log : List Group) → AreRecordedTexts (stand base log) → AreTexts (present (opened base log))
restarted-texts base log all = record {
  store = all.keys;
  own = All-by (λ (o : Own). HaveTextKeys o.settings) _ (λ o there.
      let set = IsIn-filter has_own_settings (map set_of (in_doubt s)) o there in
      let of = IsIn-unmap set_of o (in_doubt s) set.0 in
      subst (λ (p : Own). HaveTextKeys p.settings) of.1 (All-in (λ (t : Recorded). HaveTextKeys (settings_of t)) s.transactions all.settings of.0 (IsIn-filter _ s.transactions of.0 of.2).0));
}
  where
    s : Durable
    s = stand base log

    set_of : Recorded → Own
    set_of t = record { transaction = t.id; settings = settings_of t }

-- ---- bytes

texts-row : (settings : OwnSettings) (bytes : List ℕ) → IsRow IsSettingOf settings bytes → HaveTextKeys settings
texts-row settings bytes is = All-from_recursion _ _ (go settings bytes is)
  where
    go : (settings : OwnSettings) (bytes : List ℕ) → IsRow IsSettingOf settings bytes → AllByRecursion HasTextKey settings
    go [] bytes is = tt
    go (s ∷ ss) bytes is = ((is.3).text, go ss is.1 is.4)

texts-part : (part : Part) (bytes : List ℕ) → IsPartOf part bytes → HaveTextKeys (settings_in part)
texts-part (Enlistment e m i) bytes is = texts-none
texts-part (Changes cs) bytes is = texts-none
texts-part (Settings ss) bytes is = texts-row ss _ ((is.2).listed).4

pub spelled-texts : (event : Event) (bytes : List ℕ) → IsEventOf event bytes → HaveTextKeys (settings_of_event event)
spelled-texts (Boot boot) bytes is = texts-none
spelled-texts (MadeRm manager) bytes is = texts-none
spelled-texts (Plain change) bytes is = texts-none
spelled-texts (Ready transaction part) bytes is = texts-part part _ (is.2).4
spelled-texts (Single transaction (Enlistment e m i)) bytes is = texts-none
spelled-texts (Single transaction (Changes cs)) bytes is = texts-none
spelled-texts (Single transaction (Settings ss)) bytes is = texts-part (Settings ss) _ (is.2).4
spelled-texts (Held transaction enlistment manager information) bytes is = texts-none
spelled-texts (Decide transaction) bytes is = texts-none
spelled-texts (Undo transaction) bytes is = texts-none
spelled-texts (Done transaction done) bytes is = texts-none

texts-events : (events : List Event) (bytes : List ℕ) (s : Durable) → IsRow IsEventOf events bytes → AreRecordedTexts s → AreRecordedTexts (after_events s events)
texts-events [] bytes s is all = all
texts-events (event ∷ events) bytes s is all = texts-events events is.1 (after_event s event) is.4 (recorded-texts s event all (spelled-texts event is.0 is.3))

pub grouped-texts : (s : Durable) (group : Group) (bytes : List ℕ) → AreRecordedTexts s → IsGroupOf group bytes → AreRecordedTexts (after_events s group)
grouped-texts s [] bytes all is = absurd is
grouped-texts s (event ∷ events) bytes all is = texts-events (event ∷ events) is.1 s is.4 all
