-- No row makes an enlistment live again, and so no more are live then.
use Rattle.std.proofs.Common.{◌≡◌, ◌≤◌, ◌&&◌, ◌||◌, not, Bool, true, false, List, [], ◌∷◌, map, count_by, Some, refl, sym, ◌∙◌, ap, subst, arith, inl, inr, ◌⊎◌}
use Rattle.std.proofs.lemmas.Bool.{cases_Bool, and_parts, and_from, or_cases, or_left, or_right, not-true, not_from_false, true≢false, false_from_ne_true}
use Rattle.std.proofs.lemmas.Option.{same_Some}
use Rattle.ktm_world.specs.declared.input.PhaseInput.{PhaseInput}
use Rattle.ktm_world.specs.declared.object.Phase.{Phase}
use Rattle.ktm_world.specs.declared.object.Phase.TheVariants.{Ended}
use Rattle.ktm_world.specs.declared.object.Transaction.{Transaction}
use Rattle.ktm_world.specs.Enlistments.{Enlistment, is_ended, is_live_enlistment, is_live_in, is_superior, with_enlistments}
use Rattle.ktm_world.specs.Phases.{Course}
use Rattle.ktm_world.specs.Rows.{row}
use Rattle.ktm_world.specs.Steps.{led, seen}
use Rattle.ktm_world.specs.Transactions.{change_at, is_live, same_id, transaction_at}
use Rattle.ktm_steps.proofs.offered.Fading.{fades-run}
use Rattle.txf_laws.specs.Elements.{IsIn}
use Rattle.txf_laws.proofs.offered.Elements.{list_any-at, list_any-from}
use Rattle.ktm_courses.proofs.offered.Moves.{stepped}
use Rattle.txf_laws.proofs.offered.Sums.{count-cons, count-map-less, one-less}
use Rattle.txf_laws.proofs.offered.Tables.{same_id-equal, same_id-from}
use Rattle.ktm_steps.proofs.offered.Ways.{if_cases}

-- ---- enlistments

-- it is the same transaction's, of the same kind, and read-only and finished where it was
pub record Declines (e f : Enlistment) : Type 0 where
  pub transaction : f.transaction ≡ e.transaction
  pub kind : f.kind ≡ e.kind
  pub read_only : e.is_read_only ≡ true → f.is_read_only ≡ true
  pub finished : e.is_finished ≡ true → f.is_finished ≡ true

declines-stays : (e : Enlistment) → Declines e e
declines-stays e = record { transaction = refl; kind = refl; read_only = λ is. is; finished = λ is. is }

-- each of them has gone on so
pub record Fade (es fs : List Enlistment) : Type 0 where
  pub step : Enlistment → Enlistment
  pub is : fs ≡ map step es
  pub declines : (e : Enlistment) → Declines e (step e)

-- those that pass a test are changed
pub fade-with : (test : Enlistment → Bool) (f : Enlistment → Enlistment) (es : List Enlistment) → ((e : Enlistment) → Declines e (f e)) → Fade es (with_enlistments test f es)
fade-with test f es each = record { step = stepped test f; is = refl; declines = λ e. if_cases (Declines e) (test e) (f e) e (λ is. each e) (λ is. declines-stays e) }

-- ---- courses

-- no enlistment is live again
abbrev pub Fades : Course → Course → Type 0
Fades c d = Fade c.enlistments d.enlistments

-- by each row no enlistment is live again
pub fades-led : (input : PhaseInput) (c : Course) → Fades c (led input c)
unfolding led
fades-led input c =
    let fades = fades-run (row (seen c) input) c in
    record {
      step = fades.change;
      is = fades.is;
      declines = λ e. let goes = fades.each e in record {
        transaction = ap (λ (x : Enlistment). x.transaction) goes.lasts;
        kind = ap (λ (x : Enlistment). x.kind) goes.lasts;
        read_only = goes.read_only;
        finished = goes.finished;
      };
    }

-- ---- what is live

-- a transaction that has not ended
pub live-phase : (t : Transaction) → is_live t ≡ true → is_ended t.phase ≡ false
live-phase t = go t.phase
  where
    go : (phase : Phase) → is_live (record t { phase = phase }) ≡ true → is_ended phase ≡ false
    go Ended is = absurd (true≢false (sym is))
    go _ is = refl

pub phase-live : (t : Transaction) → is_ended t.phase ≡ false → is_live t ≡ true
phase-live t = go t.phase
  where
    go : (phase : Phase) → is_ended phase ≡ false → is_live (record t { phase = phase }) ≡ true
    go Ended is = absurd (true≢false is)
    go _ is = refl

-- live in another transaction's place, where that one has not ended, and so before it went on
live-before : (t u : Transaction) (e f : Enlistment) → u.id ≡ t.id → (is_ended u.phase ≡ false → is_ended t.phase ≡ false) → Declines e f → is_live_in u f ≡ true → is_live_in t e ≡ true
live-before t u e f same going declines live =
    let parts = and_parts (same_id f.transaction u.id && not (is_ended u.phase)) (is_superior f || (not f.is_read_only && not f.is_finished)) live in
    let own = and_parts (same_id f.transaction u.id) (not (is_ended u.phase)) parts.0 in
    and_from _ _ (and_from _ _ (same_id-from e.transaction t.id (sym declines.transaction ∙ same_id-equal f.transaction u.id own.0 ∙ same)) (not_from_false _ (going (not-true _ own.1))))
    (elim (or_cases (is_superior f) (not f.is_read_only && not f.is_finished) parts.1) [
      | inl above ↦ or_left _ _ (ap (λ k. is_superior (record e { kind = k })) (sym declines.kind) ∙ above)
      | inr below ↦
          let both = and_parts (not f.is_read_only) (not f.is_finished) below in
          or_right _ _ (and_from _ _
          (not_from_false _ (false_from_ne_true _ (λ is. true≢false (sym (declines.read_only is) ∙ not-true _ both.0))))
          (not_from_false _ (false_from_ne_true _ (λ is. true≢false (sym (declines.finished is) ∙ not-true _ both.1)))))
    ])

-- the transaction that is changed, or another one
in-changed : (ts : List Transaction) (t u v : Transaction) → transaction_at ts u.id ≡ Some t → IsIn v (change_at ts u.id (λ s. u)) → ((v ≡ u) × IsIn t ts × (t.id ≡ u.id)) ⊎ IsIn v ts
in-changed [] t u v found there = absurd there
in-changed (s ∷ ss) t u v found there = elim (cases_Bool (same_id s.id u.id)) [
  | inl here ↦
      let e : s ≡ t = same_Some s t (rw here at found) in
      let there' : IsIn v (u ∷ ss) = rw here at there in
      elim there' [ inl is ↦ inl (sym is, inl e, ap (λ (r : Transaction). r.id) (sym e) ∙ same_id-equal s.id u.id here) | inr later ↦ inr (inr later) ]
  | inr other ↦
      let there' : IsIn v (s ∷ change_at ss u.id (λ r. u)) = rw other at there in
      elim there' [
        | inl is ↦ inr (inl is)
        | inr later ↦ elim (in-changed ss t u v (rw other at found) later) [ inl (is, has, same) ↦ inl (is, inr has, same) | inr old ↦ inr (inr old) ]
      ]
]

-- no more transactions are live, where the one that is changed was
pub live-stays : (ts : List Transaction) (t u : Transaction) → transaction_at ts u.id ≡ Some t → is_live t ≡ true → count_by is_live (change_at ts u.id (λ s. u)) ≤ count_by is_live ts
live-stays [] t u found live = omega arith
live-stays (s ∷ ss) t u found live = elim (cases_Bool (same_id s.id u.id)) [
  | inl here ↦
      let e : s ≡ t = same_Some s t (rw here at found) in
      rw here (let new = count-cons is_live u ss in let old = count-cons is_live s ss in let low = one-less is_live is_live s u (λ is. ap is_live e ∙ live) in omega arith)
  | inr other ↦ rw other (let rest = live-stays ss t u (rw other at found) live in let new = count-cons is_live s (change_at ss u.id (λ r. u)) in let old = count-cons is_live s ss in omega arith)
]

-- no more enlistments are live, where the transaction that is changed was
pub enlisted-stays : (ts : List Transaction) (t u : Transaction) (es fs : List Enlistment) → transaction_at ts u.id ≡ Some t → is_live t ≡ true → Fade es fs
    → count_by (is_live_enlistment (change_at ts u.id (λ s. u))) fs ≤ count_by (is_live_enlistment ts) es
enlisted-stays ts t u es fs found live fade = subst (λ gs. count_by (is_live_enlistment (change_at ts u.id (λ s. u))) gs ≤ count_by (is_live_enlistment ts) es) (sym fade.is)
    (count-map-less (is_live_enlistment (change_at ts u.id (λ s. u))) (is_live_enlistment ts) fade.step es (λ e there is.
    let v = list_any-at (λ t. is_live_in t (fade.step e)) (change_at ts u.id (λ s. u)) is in
    elim (in-changed ts t u v.0 found v.1) [
      | inl (same, has, id) ↦ list_any-from (λ t. is_live_in t e) ts t has (live-before t v.0 e (fade.step e) (ap (λ (r : Transaction). r.id) same ∙ sym id) (λ going. live-phase t live) (fade.declines e) v.2)
      | inr old ↦ list_any-from (λ t. is_live_in t e) ts v.0 old (live-before v.0 v.0 e (fade.step e) refl (λ going. going) (fade.declines e) v.2)
    ]))

-- where the transactions are the same
pub enlisted-fade : (ts : List Transaction) (es fs : List Enlistment) → Fade es fs → count_by (is_live_enlistment ts) fs ≤ count_by (is_live_enlistment ts) es
enlisted-fade ts es fs fade = subst (λ gs. count_by (is_live_enlistment ts) gs ≤ count_by (is_live_enlistment ts) es) (sym fade.is)
    (count-map-less (is_live_enlistment ts) (is_live_enlistment ts) fade.step es (λ e there is.
    let v = list_any-at (λ t. is_live_in t (fade.step e)) ts is in
    list_any-from (λ t. is_live_in t e) ts v.0 v.1 (live-before v.0 v.0 e (fade.step e) refl (λ going. going) (fade.declines e) v.2)))
