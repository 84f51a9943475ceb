-- What a restart's own group leaves of what was recorded.
use Rattle.std.specs.Prelude.{if◌then◌else◌}
use Rattle.std.proofs.Common.{◌≡◌, ◌+◌, ◌≤◌, ◌&&◌, ◌||◌, not, Bool, true, false, List, [], ◌∷◌, ◌++◌, filter, map, Option, Some, None, refl, sym, ◌∙◌, ap, subst, append_assoc, inl, inr, ◌⊎◌}
use Rattle.std.proofs.lemmas.Bool.{cases_Bool, and_parts, and_from, or_cases, not-true, true≢false, false_from_ne_true}
use Rattle.std.proofs.lemmas.List.{append-nil}
use Rattle.std.specs.List.{flat_map, list_all, list_any}
use Rattle.ktm_base.specs.declared.id.Id.{Id}
use Rattle.ktm_world.specs.declared.event.DonePart.{DonePart}
use Rattle.ktm_world.specs.declared.event.Event.{Event}
use Rattle.ktm_world.specs.declared.event.Part.{Part}
use Rattle.ktm_world.specs.declared.event.Part.TheVariants.{Enlistment as EnlistmentPart, Changes, Settings}
use Rattle.ktm_world.specs.declared.recorded.RecordedPart.{RecordedPart}
use Rattle.ktm_world.specs.declared.recorded.Stage.{Stage}
use Rattle.ktm_world.specs.Committed.{Committed}
use Rattle.ktm_world.specs.Durable.{Durable, Recorded, after_event, after_events, has_undone, is_before, is_decided, is_part_of, is_ready, is_sole}
use Rattle.ktm_world.specs.Outcome.{committed_now}
use Rattle.ktm_world.specs.Phases.{event_if}
use Rattle.ktm_world.specs.Present.{Present}
use Rattle.ktm_world.specs.World.{done_if, is_enlistment_part, own_events, own_group}
use Rattle.ktm_world.proofs.offered.Durables.{after_events-append}
use Rattle.txf_laws.specs.Elements.{IsIn}
use Rattle.txf_laws.specs.GoodState.{IsGoodState, is_decided_well, is_done_well}
use Rattle.txf_laws.proofs.offered.Elements.{IsIn-filter, each_pair-filter, list_all-at}
use Rattle.txf_laws.proofs.offered.Lists.{IsIn-cases, IsIn-unmap}
use Rattle.txf_laws.proofs.offered.OwnGroups.{is_open}
use Rattle.ktm_records.proofs.LoggedOrder.{if_there, while_open}
use Rattle.ktm_courses.proofs.offered.Endings.{none-at}
use Rattle.txf_laws.proofs.offered.Tables.{Rises, is_earlier, rises-first, rises-rest}
use Rattle.ktm_records.proofs.LoggedTransaction.{Tracks, mark_if, tracks-if}

-- ---- one transaction

-- with its files and its keys done, where they are not yet
abbrev pub settled_of : Recorded → Recorded
settled_of t = record t { parts = map (mark_if (has_undone DonePart.Keys t) DonePart.Keys) (map (mark_if (has_undone DonePart.Files t) DonePart.Files) t.parts) }

-- what is left of one that is held or decided
abbrev pub left_of : Recorded → Option Recorded
left_of t = if is_decided t.stage then while_open (settled_of t) else Some t

not-either : (false ≡ true) ⊎ (false ≡ true) → ⊥
not-either (inl is) = true≢false (sym is)
not-either (inr is) = true≢false (sym is)

-- what was not done is done then, but for enlistments
marked-each : (bf bk d : Bool) (part : Part) → (is_part_of DonePart.Files part ≡ true → (bf ≡ true) ⊎ (d ≡ true)) → (is_part_of DonePart.Keys part ≡ true → (bk ≡ true) ⊎ (d ≡ true)) → (is_sole part ≡ false → d ≡ false)
    → not (mark_if bk DonePart.Keys (mark_if bf DonePart.Files (record { is_done = d; part = part }))).is_done ≡ is_enlistment_part (mark_if bk DonePart.Keys (mark_if bf DonePart.Files (record { is_done = d; part = part })))
marked-each true true true (EnlistmentPart e m i) files keys undone = absurd (true≢false (undone refl))
marked-each true true true (Changes cs) files keys undone = refl
marked-each true true true (Settings ss) files keys undone = refl
marked-each true true false (EnlistmentPart e m i) files keys undone = refl
marked-each true true false (Changes cs) files keys undone = refl
marked-each true true false (Settings ss) files keys undone = refl
marked-each true false true (EnlistmentPart e m i) files keys undone = absurd (true≢false (undone refl))
marked-each true false true (Changes cs) files keys undone = refl
marked-each true false true (Settings ss) files keys undone = refl
marked-each true false false (EnlistmentPart e m i) files keys undone = refl
marked-each true false false (Changes cs) files keys undone = refl
marked-each true false false (Settings ss) files keys undone = absurd (not-either (keys refl))
marked-each false true true (EnlistmentPart e m i) files keys undone = absurd (true≢false (undone refl))
marked-each false true true (Changes cs) files keys undone = refl
marked-each false true true (Settings ss) files keys undone = refl
marked-each false true false (EnlistmentPart e m i) files keys undone = refl
marked-each false true false (Changes cs) files keys undone = absurd (not-either (files refl))
marked-each false true false (Settings ss) files keys undone = refl
marked-each false false true (EnlistmentPart e m i) files keys undone = absurd (true≢false (undone refl))
marked-each false false true (Changes cs) files keys undone = refl
marked-each false false true (Settings ss) files keys undone = refl
marked-each false false false (EnlistmentPart e m i) files keys undone = refl
marked-each false false false (Changes cs) files keys undone = absurd (not-either (files refl))
marked-each false false false (Settings ss) files keys undone = absurd (not-either (keys refl))

pub settled-undone : (t : Recorded) → is_decided t.stage ≡ true → list_all (is_done_well t) t.parts ≡ true → (p : RecordedPart) → IsIn p (settled_of t).parts → not p.is_done ≡ is_enlistment_part p
settled-undone t decided well p there =
    let keys = IsIn-unmap (mark_if (has_undone DonePart.Keys t) DonePart.Keys) p (map (mark_if (has_undone DonePart.Files t) DonePart.Files) t.parts) there in
    let files = IsIn-unmap (mark_if (has_undone DonePart.Files t) DonePart.Files) keys.0 t.parts keys.2 in
    let q = files.0 in
    subst (λ (q : RecordedPart). not q.is_done ≡ is_enlistment_part q) (ap (mark_if (has_undone DonePart.Keys t) DonePart.Keys) files.1 ∙ keys.1)
    (marked-each (has_undone DonePart.Files t) (has_undone DonePart.Keys t) q.is_done q.part (done-or DonePart.Files q files.2) (done-or DonePart.Keys q files.2) (undone q files.2))
  where
    done-or : (done : DonePart) (q : RecordedPart) → IsIn q t.parts → is_part_of done q.part ≡ true → (has_undone done t ≡ true) ⊎ (q.is_done ≡ true)
    done-or done q in_parts is = elim (cases_Bool (has_undone done t)) [
      | inl some ↦ inl some
      | inr none ↦ inr (not-not q.is_done (false_from_ne_true _ (λ open'. true≢false (sym (and_from _ _ is open')
          ∙ none-at (λ (p : RecordedPart). is_part_of done p.part && not p.is_done) t.parts (sym (ap (λ b. b && list_any (λ (p : RecordedPart). is_part_of done p.part && not p.is_done) t.parts) decided) ∙ none) q in_parts))))
    ]
      where
        not-not : (b : Bool) → not b ≡ false → b ≡ true
        not-not true is = refl
        not-not false is = absurd (true≢false is)

    undone : (q : RecordedPart) → IsIn q t.parts → is_sole q.part ≡ false → q.is_done ≡ false
    undone q in_parts other = elim (or_cases (not q.is_done) _ (list_all-at (is_done_well t) t.parts well q in_parts)) [
      | inl open' ↦ not-true _ open'
      | inr sole ↦ absurd (true≢false (sym (and_parts (is_decided t.stage) (is_sole q.part) sole).1 ∙ other))
    ]

-- what does not ask whether a part is done is gathered as before
pub settled-gathered : {X : Type 0} (f : RecordedPart → List X) → ((p : RecordedPart) (d : Bool) → f (record p { is_done = d }) ≡ f p) → (t : Recorded) → flat_map f (settled_of t).parts ≡ flat_map f t.parts
settled-gathered f same t = marks (has_undone DonePart.Keys t) DonePart.Keys (map (mark_if (has_undone DonePart.Files t) DonePart.Files) t.parts) ∙ marks (has_undone DonePart.Files t) DonePart.Files t.parts
  where
    one : (b : Bool) (done : DonePart) (p : RecordedPart) → f (mark_if b done p) ≡ f p
    one true done p = same p (p.is_done || is_part_of done p.part)
    one false done p = refl

    marks : (b : Bool) (done : DonePart) (ps : List RecordedPart) → flat_map f (map (mark_if b done) ps) ≡ flat_map f ps
    marks b done [] = refl
    marks b done (p ∷ ps) = λ i. one b done p i ++ marks b done ps i

-- its own events
done-event : (b : Bool) (id : Id) (done : DonePart) → done_if b id done ≡ event_if b (Event.Done id done)
done-event true id done = refl
done-event false id done = refl

no-events : (t : Recorded) → is_decided t.stage ≡ false → own_events t ≡ []
no-events t other = λ i. done_if (other i && list_any (λ (p : RecordedPart). is_part_of DonePart.Files p.part && not p.is_done) t.parts) t.id DonePart.Files
    ++ done_if (other i && list_any (λ (p : RecordedPart). is_part_of DonePart.Keys p.part && not p.is_done) t.parts) t.id DonePart.Keys

module _ (y : Present) (c : Committed) where
  tracks-own : (t : Recorded) (before behind : List Recorded) (s : Durable) → (is_decided t.stage ≡ true → is_open t ≡ true) → Tracks y t.id before behind (Some t) s c
      → Tracks y t.id before behind (left_of t) (after_events s (own_events t)) c
  tracks-own t before behind s opens tracks = elim (cases_Bool (is_decided t.stage)) [
    | inr other ↦ subst (λ o. Tracks y t.id before behind o (after_events s (own_events t)) c) (λ i. if sym other i then while_open (settled_of t) else Some t)
        (subst (λ es. Tracks y t.id before behind (Some t) (after_events s es) c) (sym (no-events t other)) tracks)
    | inl decided ↦ subst (λ o. Tracks y t.id before behind o (after_events s (own_events t)) c) (λ i. if sym decided i then while_open (settled_of t) else Some t)
        (subst (λ s'. Tracks y t.id before behind (while_open (settled_of t)) s' c) (sym at-end)
        (tracks-if y t.id before behind (record t { parts = map (mark_if (has_undone DonePart.Files t) DonePart.Files) t.parts }) (after_events s files) c (has_undone DonePart.Keys t) DonePart.Keys refl refl
        (tracks-if y t.id before behind t s c (has_undone DonePart.Files t) DonePart.Files refl refl (subst (λ o. Tracks y t.id before behind o s c) (λ i. if sym (opens decided) i then Some t else None) tracks))))
  ]
    where
      files : List Event
      files = event_if (has_undone DonePart.Files t) (Event.Done t.id DonePart.Files)

      keys : List Event
      keys = event_if (has_undone DonePart.Keys t) (Event.Done t.id DonePart.Keys)

      at-end : after_events s (own_events t) ≡ after_events (after_events s files) keys
      at-end = (λ i. after_events s (done-event (has_undone DonePart.Files t) t.id DonePart.Files i ++ done-event (has_undone DonePart.Keys t) t.id DonePart.Keys i)) ∙ after_events-append s files keys

  -- ---- along the transactions

  -- the state has those that were gone along, and those that were not yet
  pub record Walks (before todo : List Recorded) (s : Durable) : Type 0 where
    pub transactions : s.transactions ≡ before ++ todo
    pub tree : s.tree ≡ c.tree
    pub keys : s.keys ≡ c.store
    pub managers : s.managers ≡ y.recorded.managers
    pub next_node : s.next_node ≤ y.files.table.next_node

  -- all of the first come before all of the second
  abbrev AllBefore : List Recorded → List Recorded → Type 0
  AllBefore us vs = (u v : Recorded) → IsIn u us → IsIn v vs → is_before u.id v.id ≡ true

  in-there : (o : Option Recorded) (u : Recorded) → IsIn u (if_there o) → o ≡ Some u
  in-there None u none = absurd none
  in-there (Some r) u (inl same) = ap Some same
  in-there (Some r) u (inr none) = absurd none

  walk : (todo before : List Recorded) (s : Durable) → Rises todo → AllBefore before todo → ((t : Recorded) → IsIn t todo → is_decided t.stage ≡ true → is_open t ≡ true) → Walks before todo s
      → Walks (before ++ flat_map (λ t. if_there (left_of t)) todo) [] (after_events s (flat_map own_events todo))
  walk [] before s rises early opens walks = record { transactions = walks.transactions ∙ sym (append-nil (before ++ [])); tree = walks.tree; keys = walks.keys; managers = walks.managers; next_node = walks.next_node }
  walk (t ∷ todo) before s rises early opens walks =
      let one = tracks-own t before todo s (opens t (inl refl)) (record {
        place = record {
          all = walks.transactions;
          itself = λ r is. ap (λ (o : Option Recorded). elim o as (λ _. Id) [ Some q ↦ q.id | None ↦ t.id ]) (sym is);
          earlier = λ u there. early u t there (inl refl);
          later = λ u there. rises-first t todo rises u there;
        };
        tree = walks.tree;
        keys = walks.keys;
        managers = walks.managers;
        next_node = walks.next_node;
      }) in
      let rest = walk todo (before ++ if_there (left_of t)) (after_events s (own_events t)) (rises-rest t todo rises)
      (λ u v there there'. elim (IsIn-cases u before (if_there (left_of t)) there) [
        | inl old ↦ early u v old (inr there')
        | inr new ↦ subst (λ id. is_before id v.id ≡ true) (sym ((one.place).itself u (in-there (left_of t) u new))) (rises-first t todo rises v there')
      ])
      (λ u there. opens u (inr there))
      (record { transactions = (one.place).all ∙ sym (append_assoc before (if_there (left_of t)) todo); tree = one.tree; keys = one.keys; managers = one.managers; next_node = one.next_node }) in
      subst (λ us. Walks us [] (after_events s (own_events t ++ flat_map own_events todo))) (append_assoc before (if_there (left_of t)) (flat_map (λ t. if_there (left_of t)) todo))
      (subst (λ s'. Walks ((before ++ if_there (left_of t)) ++ flat_map (λ t. if_there (left_of t)) todo) [] s') (sym (after_events-append s (own_events t) (flat_map own_events todo))) rest)

-- ---- the whole group

-- those that a boot leaves
abbrev pub is_left : Recorded → Bool
is_left t = not (is_ready t.stage)

-- those of which nothing is gathered may as well not be there
gathered-filter : {X Y : Type 0} (f : X → List Y) (keep : X → Bool) (xs : List X) → ((x : X) → keep x ≡ false → f x ≡ []) → flat_map f xs ≡ flat_map f (filter keep xs)
gathered-filter f keep [] none = refl
gathered-filter f keep (x ∷ xs) none = elim (cases_Bool (keep x)) [
  | inl stays ↦ rw stays (ap (λ ys. f x ++ ys) (gathered-filter f keep xs none))
  | inr out ↦ rw (out, none x out) (gathered-filter f keep xs none)
]

-- what was recorded, in a present of the state
pub reopened : (y : Present) → IsGoodState y.recorded → y.recorded.tree ≡ y.files.tree → y.recorded.keys ≡ y.keys.store → y.recorded.next_node ≤ y.files.table.next_node
    → Walks y (committed_now y) (flat_map (λ t. if_there (left_of t)) (filter is_left y.recorded.transactions)) [] (after_events y.recorded (own_group y.recorded))
reopened y good tree keys next = subst (λ es. Walks y (committed_now y) (flat_map (λ t. if_there (left_of t)) live) [] (after_events booted es)) (sym (gathered-filter own_events is_left y.recorded.transactions ready-none))
    (walk y (committed_now y) live [] booted (each_pair-filter is_earlier is_left y.recorded.transactions good.transactions_rise) (λ u v none. absurd none) opens
    (record { transactions = refl; tree = tree; keys = keys; managers = refl; next_node = next }))
  where
    live : List Recorded
    live = filter is_left y.recorded.transactions

    booted : Durable
    booted = after_event y.recorded (Event.Boot (y.recorded.boots + 1))

    ready-none : (t : Recorded) → is_left t ≡ false → own_events t ≡ []
    ready-none t ready = no-events t (go t.stage ready)
      where
        go : (stage : Stage) → not (is_ready stage) ≡ false → is_decided stage ≡ false
        go Stage.Ready ready = refl
        go Stage.Held ready = refl
        go Stage.Decided ready = absurd (true≢false ready)

    opens : (t : Recorded) → IsIn t live → is_decided t.stage ≡ true → is_open t ≡ true
    opens t there decided = elim (or_cases (not (is_decided t.stage)) (is_open t) (list_all-at is_decided_well y.recorded.transactions good.decided t (IsIn-filter is_left y.recorded.transactions t there).0)) [
      | inl other ↦ absurd (true≢false (sym decided ∙ not-true _ other))
      | inr open' ↦ open'
    ]
