-- The group of a restart leaves the same transactions in doubt.
use Rattle.std.proofs.Common.{◌≡◌, ℕ, ◌+◌, ◌&&◌, not, Bool, true, false, List, [], ◌∷◌, filter, Option, None, Some, refl, sym, ◌∙◌, ap, subst, inl, inr}
use Rattle.std.proofs.lemmas.Bool.{cases_Bool, and_parts, not-true, not_from_false, true≢false, false_from_ne_true}
use Rattle.std.specs.List.{flat_map, list_all, list_any}
use Rattle.ktm_base.specs.declared.id.Id.{Id}
use Rattle.ktm_world.specs.declared.event.DonePart.{DonePart}
use Rattle.ktm_world.specs.declared.event.Event.TheVariants.{Boot, Done}
use Rattle.ktm_world.specs.declared.recorded.RecordedPart.{RecordedPart}
use Rattle.ktm_world.specs.declared.recorded.Stage.{Stage}
use Rattle.ktm_world.specs.Durable.{Durable, Recorded, after_event, after_events, finish_recorded, has_undone, is_before, is_decided, is_held, is_part_of, is_ready, parts_done, recorded_at, while_not_done, with_recorded}
use Rattle.ktm_world.specs.Transactions.{same_id}
use Rattle.ktm_world.specs.World.{done_if, in_doubt, own_events, own_group}
use Rattle.ktm_world.proofs.offered.Durables.{after_events-append}
use Rattle.txf_laws.specs.Elements.{IsIn}
use Rattle.txf_laws.proofs.offered.Elements.{IsIn-filter, IsIn-kept, each_pair-either, list_all-at, list_all-from}
use Rattle.txf_laws.proofs.offered.Tables.{Rises, before_other, is_earlier, recorded_at-found, same_id-equal, same_id-from}

-- does it wait for its superior
abbrev waits : Recorded → Bool
waits t = is_held t.stage

-- no transaction with this Id waits for its superior
abbrev NoneWaits : List Recorded → Id → Type 0
NoneWaits held id = list_all (λ (t : Recorded). not (same_id t.id id)) held ≡ true

-- ---- one that does not wait stays or goes

not-held : (stage : Stage) → is_decided stage ≡ true → is_held stage ≡ false
not-held Stage.Ready decided = refl
not-held Stage.Held decided = absurd (true≢false (sym decided))
not-held Stage.Decided decided = refl

not-ready : (stage : Stage) → is_held stage ≡ true → not (is_ready stage) ≡ true
not-ready Stage.Ready held = absurd (true≢false (sym held))
not-ready Stage.Held held = refl
not-ready Stage.Decided held = absurd (true≢false (sym held))

-- those that wait are left by what is left out where they are kept
held-left : (keep : Recorded → Bool) (ts : List Recorded) → ((t : Recorded) → IsIn t ts → waits t ≡ true → keep t ≡ true) → filter waits (filter keep ts) ≡ filter waits ts
held-left keep [] kept = refl
held-left keep (t ∷ ts) kept =
    let rest = held-left keep ts (λ u there. kept u (inr there)) in
    elim (cases_Bool (keep t)) [
      | inl is ↦ rw is (elim (cases_Bool (waits t)) [ inl held ↦ rw held (ap (λ l. t ∷ l) rest) | inr other ↦ rw other rest ])
      | inr out ↦ let other : waits t ≡ false = false_from_ne_true _ (λ held. true≢false (sym (kept t (inl refl) held) ∙ out)) in rw (out, other) rest
    ]

-- those that wait are the same where one that does not takes the place of one that does not
held-with : (ts : List Recorded) (t : Recorded) → waits t ≡ false → ((u : Recorded) → IsIn u ts → u.id ≡ t.id → waits u ≡ false) → filter waits (with_recorded ts t) ≡ filter waits ts
held-with [] t other none = rw other refl
held-with (a ∷ ts) t other none = elim (cases_Bool (same_id a.id t.id)) [
  | inl same ↦ rw same (rw (other, none a (inl refl) (same_id-equal a.id t.id same)) refl)
  | inr differs ↦ elim (cases_Bool (is_before t.id a.id)) [
    | inl before ↦ rw (differs, before) (rw other refl)
    | inr behind ↦ rw (differs, behind) (let rest = held-with ts t other (λ u there. none u (inr there)) in
        elim (cases_Bool (waits a)) [ inl held ↦ rw held (ap (λ l. a ∷ l) rest) | inr not_held ↦ rw not_held rest ])
  ]
]

held-while : (ts : List Recorded) (t : Recorded) → waits t ≡ false → ((u : Recorded) → IsIn u ts → u.id ≡ t.id → waits u ≡ false) → filter waits (while_not_done ts t) ≡ filter waits ts
held-while ts t other none = elim (cases_Bool (list_any (λ (p : RecordedPart). not p.is_done) t.parts)) [
  | inl stays ↦ rw stays (held-with ts t other none)
  | inr over ↦ rw over (held-left (λ (u : Recorded). not (same_id u.id t.id)) ts (λ u there held. not_from_false _ (false_from_ne_true _ (λ same. true≢false (sym held ∙ none u there (same_id-equal u.id t.id same))))))
]

-- ---- events

-- where none with the Id waits, none is found that does
none-found : (ts : List Recorded) (id : Id) → NoneWaits (filter waits ts) id → (u : Recorded) → IsIn u ts → u.id ≡ id → waits u ≡ false
none-found ts id none u there same = false_from_ne_true _ (λ held.
    true≢false (sym (same_id-from u.id id same) ∙ not-true _ (list_all-at (λ (t : Recorded). not (same_id t.id id)) (filter waits ts) none u (IsIn-kept waits ts u there held))))

done-leaves : (s : Durable) (id : Id) (done : DonePart) → NoneWaits (in_doubt s) id → in_doubt (after_event s (Done id done)) ≡ in_doubt s
done-leaves s id done none = go (recorded_at s.transactions id) (λ t is. recorded_at-found s.transactions id t is)
  where
    go : (found : Option Recorded) → ((t : Recorded) → found ≡ Some t → IsIn t s.transactions × (t.id ≡ id)) → in_doubt (record (finish_recorded s done found) { events = s.events + 1 }) ≡ in_doubt s
    go None is = refl
    go (Some t) is =
        let at = is t refl in
        held-while s.transactions (record t { parts = parts_done done t.parts }) (none-found s.transactions id none t at.0 at.1)
        (λ u there same. none-found s.transactions id none u there (same ∙ at.1))

-- none with the Id of one that is decided waits, where they stand by rising Id
none-decided : (ts : List Recorded) → Rises ts → (t : Recorded) → IsIn t ts → is_decided t.stage ≡ true → NoneWaits (filter waits ts) t.id
none-decided ts rises t there decided = list_all-from (λ (u : Recorded). not (same_id u.id t.id)) (filter waits ts) (λ u among.
    let at = IsIn-filter waits ts u among in
    not_from_false _ (false_from_ne_true _ (λ same. elim (each_pair-either is_earlier ts rises u t at.0 there) [
      | inl e ↦ true≢false (sym at.1 ∙ ap (λ (v : Recorded). waits v) e ∙ not-held t.stage decided)
      | inr (inl before) ↦ before_other u.id t.id before (same_id-equal u.id t.id same)
      | inr (inr after) ↦ before_other t.id u.id after (sym (same_id-equal u.id t.id same))
    ])))

-- an event that may be recorded of one that is decided
if-leaves : (b : Bool) (s : Durable) (id : Id) (done : DonePart) → (b ≡ true → NoneWaits (in_doubt s) id) → in_doubt (after_events s (done_if b id done)) ≡ in_doubt s
if-leaves true s id done none = done-leaves s id done (none refl)
if-leaves false s id done none = refl

is-decided : (done : DonePart) (t : Recorded) → has_undone done t ≡ true → is_decided t.stage ≡ true
is-decided done t undone = (and_parts (is_decided t.stage) (list_any (λ (p : RecordedPart). is_part_of done p.part && not p.is_done) t.parts) undone).0

-- the events of all of these, of which none that is decided has the Id of one that waits
all-leave : (ts : List Recorded) (s : Durable) → ((t : Recorded) → IsIn t ts → is_decided t.stage ≡ true → NoneWaits (in_doubt s) t.id) → in_doubt (after_events s (flat_map own_events ts)) ≡ in_doubt s
all-leave [] s none = refl
all-leave (t ∷ ts) s none =
    let files = done_if (has_undone DonePart.Files t) t.id DonePart.Files in
    let keys = done_if (has_undone DonePart.Keys t) t.id DonePart.Keys in
    let first : in_doubt (after_events s files) ≡ in_doubt s = if-leaves (has_undone DonePart.Files t) s t.id DonePart.Files (λ undone. none t (inl refl) (is-decided DonePart.Files t undone)) in
    let second : in_doubt (after_events (after_events s files) keys) ≡ in_doubt (after_events s files) =
    if-leaves (has_undone DonePart.Keys t) (after_events s files) t.id DonePart.Keys (λ undone. subst (λ (held : List Recorded). NoneWaits held t.id) (sym first) (none t (inl refl) (is-decided DonePart.Keys t undone))) in
    let both : in_doubt (after_events s (own_events t)) ≡ in_doubt s = ap in_doubt (after_events-append s files keys) ∙ second ∙ first in
    ap in_doubt (after_events-append s (own_events t) (flat_map own_events ts))
    ∙ all-leave ts (after_events s (own_events t)) (λ u there decided. subst (λ (held : List Recorded). NoneWaits held u.id) (sym both) (none u (inr there) decided))
    ∙ both

-- a boot leaves out those that are ready alone
boot-leaves : (s : Durable) (boot : ℕ) → in_doubt (after_event s (Boot boot)) ≡ in_doubt s
boot-leaves s boot = held-left (λ (t : Recorded). not (is_ready t.stage)) s.transactions (λ t there held. not-ready t.stage held)

-- the group of a restart
pub own-leaves : (s : Durable) → Rises s.transactions → in_doubt (after_events s (own_group s)) ≡ in_doubt s
own-leaves s rises =
    let booted = after_event s (Boot (s.boots + 1)) in
    all-leave s.transactions booted (λ t there decided. subst (λ (held : List Recorded). NoneWaits held t.id) (sym (boot-leaves s (s.boots + 1))) (none-decided s.transactions rises t there decided))
    ∙ boot-leaves s (s.boots + 1)
