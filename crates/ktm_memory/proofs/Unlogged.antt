-- What an active transaction changes and sets is not recorded yet.
use Rattle.std.proofs.Common.{◌≡◌, not, Bool, true, false, List, [], ◌∷◌, cond, filter, map, ℕ, Option, Some, None, refl, sym, ◌∙◌, ap, subst, inl, inr}
use Rattle.std.specs.List.{flat_map, list_all}
use Rattle.std.proofs.lemmas.Bool.{and_from, and_parts, cases_Bool, true≢false}
use Rattle.std.proofs.lemmas.List.Folds.{list_all-append, list_all-map}
use Rattle.ktm_base.specs.declared.id.Id.{Id}
use Rattle.ktm_world.specs.declared.change.Change.{Change}
use Rattle.ktm_world.specs.declared.object.Transaction.{Transaction}
use Rattle.ktm_world.specs.declared.recorded.Stage.{Stage}
use Rattle.ktm_trace.specs.Contents.{expanded, expanded_parts, superior_at}
use Rattle.ktm_trace.specs.Traces.{Traced}
use Rattle.ktm_world.specs.Durable.{Recorded, is_decided}
use Rattle.ktm_world.specs.Enlistments.{Enlistment}
use Rattle.ktm_world.specs.Files.{OwnChanges, own_changes}
use Rattle.ktm_world.specs.Keys.{Own, OwnSettings, own_settings, with_own}
use Rattle.ktm_world.specs.Lawful.{Summary, stage_in, stays, summary_in, summary_now, summary_of}
use Rattle.ktm_world.specs.Labels.{holds_of}
use Rattle.ktm_world.specs.Present.{Present}
use Rattle.ktm_world.specs.Transactions.{is_active, same_id, transaction_at}
use Rattle.ktm_records.specs.Kept.{IsKept}
use Rattle.ktm_standing.specs.Standing.{IsStandingNow}
use Rattle.ktm_standing.proofs.offered.Distinct.{AreFound, rise-found}
use Rattle.ktm_standing.proofs.offered.Handles.{bare_course, is_bare}
use Rattle.ktm_memory.proofs.offered.Standing.{kept}
use Rattle.ktm_memory.specs.Memory.{LayersNow, now_of}
use Rattle.txf_laws.proofs.offered.Tables.{same_id-equal}

-- is it another Id than this one
abbrev is_other : Id → Id → Bool
is_other id other = not (same_id id other)

-- ---- an active transaction is not in the log

one_kept : (keep p : Summary → Bool) (s : Summary) → p s ≡ true → list_all p (filter keep (s ∷ [])) ≡ true
one_kept keep p s passes = elim (cases_Bool (keep s)) [ inl stays ↦ rw stays (and_from _ _ passes refl) | inr gone ↦ rw gone refl ]

-- what is in the log of a transaction has its Id
of_other : (x : Present) (t : Transaction) (id : Id) (stage : Option Stage) → is_other id t.id ≡ true → list_all (λ (s : Summary). is_other id s.id) (summary_in x t stage) ≡ true
of_other x t id None other = refl
of_other x t id (Some stage) other = one_kept stays (λ s. is_other id s.id) (summary_now x t stage) other

-- one that is in the log is another than one that is active
logged_other : (x : Present) (id : Id) (t : Transaction) → transaction_at x.transactions.items t.id ≡ Some t → is_bare t ≡ true → t.is_recorded ≡ true
    → holds_of (λ t. not (is_active t)) (transaction_at x.transactions.items id) ≡ false → is_other id t.id ≡ true
logged_other x id t found bare recorded active = elim (cases_Bool (same_id id t.id)) [
  | inl same ↦
      (let here : transaction_at x.transactions.items id ≡ Some t = ap (transaction_at x.transactions.items) (same_id-equal id t.id same) ∙ found in
      let is : not (is_active t) ≡ false = sym (ap (holds_of (λ t. not (is_active t))) here) ∙ active in
      absurd (true≢false (sym bare ∙ rw (is, recorded) refl)))
  | inr other ↦ rw other refl
]

summaries_other : (x : Present) (id : Id) → holds_of (λ t. not (is_active t)) (transaction_at x.transactions.items id) ≡ false → (ts : List Transaction) → AreFound x.transactions.items ts → list_all is_bare ts ≡ true
    → list_all (λ (s : Summary). is_other id s.id) (flat_map (λ t. cond t.is_recorded (summary_in x t (stage_in t.phase)) []) ts) ≡ true
summaries_other x id active [] found bare = refl
summaries_other x id active (t ∷ ts) found bare =
    let parts = and_parts (is_bare t) (list_all is_bare ts) bare in
    let rest = summaries_other x id active ts found.1 parts.1 in
    let p : Summary → Bool = λ s. is_other id s.id in
    let more = flat_map (λ t. cond t.is_recorded (summary_in x t (stage_in t.phase)) []) ts in
    elim (cases_Bool t.is_recorded) [
      | inl recorded ↦ rw recorded
          (list_all-append p (summary_in x t (stage_in t.phase)) more
          ∙ and_from _ _ (of_other x t id (stage_in t.phase) (logged_other x id t found.0 parts.0 recorded active)) rest)
      | inr none ↦ rw none rest
    ]

-- what memory keeps of the log has other transactions alone
traces_other : (h : LayersNow) (id : Id) → IsStandingNow (now_of h) → holds_of (λ t. not (is_active t)) (transaction_at h.transactions.items id) ≡ false → list_all (λ (t : Traced). is_other id t.id) h.traces ≡ true
traces_other h id standing active =
    let x = now_of h in
    let k : IsKept x = kept x standing in
    let course = k.sound.course in
    let p : Summary → Bool = λ s. is_other id s.id in
    let now = summaries_other x id active x.transactions.items (rise-found x.transactions.items course.transactions.rise) (bare_course x course) in
    let grown = expanded h.transactions.enlistments h.files.table.own h.keys.own in
    sym (list_all-map (λ (r : Recorded). p (summary_of r)) grown h.traces) ∙ sym (list_all-map p summary_of (map grown h.traces)) ∙ ap (list_all p) k.agrees.transactions ∙ now

-- ---- so what it changes and sets is not looked at

-- what others changed and set is looked at alone
same_expanded : (es : List Enlistment) (changes changes' : List OwnChanges) (settings settings' : List Own) (id : Id) → ((other : Id) → same_id id other ≡ false → own_changes changes' other ≡ own_changes changes other)
    → ((other : Id) → same_id id other ≡ false → own_settings settings' other ≡ own_settings settings other) → (ts : List Traced) → list_all (λ (t : Traced). is_other id t.id) ts ≡ true
    → map (expanded es changes' settings') ts ≡ map (expanded es changes settings) ts
same_expanded es changes changes' settings settings' id same_changes same_settings [] others = refl
same_expanded es changes changes' settings settings' id same_changes same_settings (t ∷ ts) others =
    let parts = and_parts (is_other id t.id) (list_all (λ (t : Traced). is_other id t.id) ts) others in
    let other = from_other (same_id id t.id) parts.0 in
    let rest = same_expanded es changes changes' settings settings' id same_changes same_settings ts parts.1 in
    let one : expanded es changes' settings' t ≡ expanded es changes settings t =
    ap (λ (cs : List Change). with_contents es t cs (own_settings settings' t.id)) (same_changes t.id other) ∙ ap (λ (s : OwnSettings). with_contents es t (own_changes changes t.id) s) (same_settings t.id other) in
    ap (λ (r : Recorded). r ∷ map (expanded es changes' settings') ts) one ∙ ap (λ (rs : List Recorded). expanded es changes settings t ∷ rs) rest
  where
    from_other : (b : Bool) → not b ≡ true → b ≡ false
    from_other false is = refl
    from_other true is = absurd (cc)

    with_contents : List Enlistment → Traced → List Change → OwnSettings → Recorded
    with_contents es t cs s = record {
      id = t.id;
      stage = t.stage;
      superior = superior_at es t.superior;
      parts = expanded_parts es (cond (is_decided t.stage) [] cs) (cond (is_decided t.stage) [] s) t.parts;
    }

-- what was recorded of transactions stays where an active one changes and sets something
pub unlogged : (h : LayersNow) (id : Id) (changes' : List OwnChanges) (settings' : List Own) → IsStandingNow (now_of h) → holds_of (λ t. not (is_active t)) (transaction_at h.transactions.items id) ≡ false
    → ((other : Id) → same_id id other ≡ false → own_changes changes' other ≡ own_changes h.files.table.own other) → ((other : Id) → same_id id other ≡ false → own_settings settings' other ≡ own_settings h.keys.own other)
    → map (expanded h.transactions.enlistments changes' settings') h.traces ≡ map (expanded h.transactions.enlistments h.files.table.own h.keys.own) h.traces
unlogged h id changes' settings' standing active same_changes same_settings =
    same_expanded h.transactions.enlistments h.files.table.own changes' h.keys.own settings' id same_changes same_settings h.traces (traces_other h id standing active)

-- a setting more of one transaction leaves those of others
pub settings-other : (own : List Own) (id : Id) (key : List ℕ) (value : Option (List ℕ)) (other : Id) → same_id id other ≡ false → own_settings (with_own own id key value) other ≡ own_settings own other
settings-other [] id key value other differ = rw differ refl
settings-other (o ∷ os) id key value other differ = elim (cases_Bool (same_id o.transaction id)) [
  | inl same ↦
      (let apart : same_id o.transaction other ≡ false = subst (λ (i : Id). same_id i other ≡ false) (sym (same_id-equal o.transaction id same)) differ in
      rw (same, apart) refl)
  | inr apart ↦ elim (cases_Bool (same_id o.transaction other)) [
    | inl here ↦ rw (apart, here) refl
    | inr later ↦ rw (apart, later) (settings-other os id key value other differ)
  ]
]
