-- A transaction to which something comes has not ended.
use Rattle.std.specs.Prelude.{if◌then◌else◌}
use Rattle.std.proofs.Common.{◌≡◌, ◌&&◌, ◌||◌, not, nat_lt, ℕ, Bool, true, false, List, Option, Some, Ok, Err, is_none, refl, sym, ◌∙◌, subst}
use Rattle.std.proofs.lemmas.Bool.{and_parts, true≢false}
use Rattle.ktm_base.specs.declared.refusal.Refusal.TheVariants.{EnlistmentNotSuperior}
use Rattle.ktm_world.specs.declared.input.PhaseInput.{PhaseInput}
use Rattle.ktm_world.specs.declared.object.Phase.{Phase}
use Rattle.ktm_world.specs.declared.object.Phase.TheVariants.{Ended}
use Rattle.ktm_world.specs.declared.object.Transaction.{Transaction}
use Rattle.ktm_world.specs.declared.step.Owed.{Owed}
use Rattle.ktm_world.specs.Enlistments.{Enlistment, Manager, is_durable_at, is_open_for_votes, is_superior}
use Rattle.ktm_world.specs.Present.{Present}
use Rattle.ktm_world.specs.TransactionCalls.{is_voting, lets_superior_roll_back, may_roll_back}
use Rattle.ktm_world.specs.Transactions.{is_active, is_live, same_id}
use Rattle.txf_laws.specs.Elements.{IsIn}
use Rattle.txf_laws.proofs.offered.Elements.{list_all-at}
use Rattle.ktm_courses.specs.SoundCourse.{IsSoundCourse, are_enlistments_as_asked, is_enlistment_as, is_unrecovered_well}
use Rattle.ktm_phase.specs.Coming.{IsOwedIn}
use Rattle.ktm_phase.specs.Replies.{allows, commanded, if_allowed, input_by, input_of, lets, may_recover, may_vote, owes, recovered, replied}
use Rattle.ktm_phase.specs.declared.enlistment.Vote.{Vote}
use Rattle.ktm_phase.specs.declared.superior.SuperiorCall.{SuperiorCall}

unless_ended : (t : Transaction) → (t.phase ≡ Ended → ⊥) → is_live t ≡ true
unless_ended t = go t.phase
  where
    go : (phase : Phase) → (phase ≡ Ended → ⊥) → is_live (record t { phase = phase }) ≡ true
    go Ended other = absurd (other refl)
    go _ other = refl

-- ---- no enlistment calls

-- one that is active has not
pub live_active : (t : Transaction) → is_active t ≡ true → is_live t ≡ true
live_active t active = unless_ended t (λ ended. let over : false ≡ true = rw ended at active in true≢false (sym over))

-- one that may be rolled back has not
pub live_rolled : (t : Transaction) → may_roll_back t ≡ true → is_live t ≡ true
live_rolled t may = unless_ended t (λ ended. let over : false ≡ true = rw ended at may in true≢false (sym over))

-- ---- an enlistment calls

was_allowed : (b : Bool) (a input : PhaseInput) → if_allowed b a ≡ Ok input → b ≡ true
was_allowed true a input same = refl
was_allowed false a input same = absurd (cc)

was_let : (above b : Bool) (a input : PhaseInput) → (if above then if_allowed b a else Err EnlistmentNotSuperior) ≡ Ok input → b ≡ true
was_let true b a input same = was_allowed b a input same
was_let false b a input same = absurd (cc)

-- of one that has ended no answer is waited for
none_owed : (owed : Owed) (e : Enlistment) (o : Option Owed) → owes owed (record e { owes = o }) ≡ true → IsOwedIn Ended o → ⊥
none_owed Owed.PrePrepare e (Some Owed.PrePrepare) is fits = true≢false (sym fits)
none_owed Owed.PrePrepare e _ is fits = true≢false (sym is)
none_owed Owed.Prepare e (Some Owed.Prepare) is fits = true≢false (sym fits)
none_owed Owed.Prepare e _ is fits = true≢false (sym is)
none_owed Owed.Commit e (Some Owed.Commit) is fits = true≢false (sym fits)
none_owed Owed.Commit e _ is fits = true≢false (sym is)
none_owed Owed.Rollback e (Some Owed.Rollback) is fits = true≢false (sym fits)
none_owed Owed.Rollback e _ is fits = true≢false (sym is)

none_votes : (e : Enlistment) → may_vote Ended e ≡ true → ⊥
none_votes e may = true≢false (sym (and_parts (not (is_superior e) && is_open_for_votes e) (is_voting Ended) may).1)

none_rolls : (e : Enlistment) (above : Bool) → (if above then lets_superior_roll_back Ended else may_vote Ended e) ≡ true → ⊥
none_rolls e true may = true≢false (sym may)
none_rolls e false may = none_votes e may

none_replies : (e : Enlistment) (vote : Vote) → IsOwedIn Ended e.owes → allows Ended e vote ≡ true → ⊥
none_replies e Vote.PrePrepareComplete fits may = none_owed Owed.PrePrepare e e.owes may fits
none_replies e Vote.PrepareComplete fits may = none_owed Owed.Prepare e e.owes may fits
none_replies e Vote.ReadOnly fits may = none_votes e may
none_replies e Vote.SinglePhaseReject fits may = true≢false (sym may)
none_replies e Vote.CommitComplete fits may = none_owed Owed.Commit e e.owes may fits
none_replies e Vote.RollbackComplete fits may = none_owed Owed.Rollback e e.owes may fits
none_replies e Vote.Rollback fits may = none_rolls e (is_superior e) may

-- one of which a reply is allowed has not ended
pub live_replied : (t : Transaction) (e : Enlistment) (vote : Vote) (input : PhaseInput) → IsOwedIn t.phase e.owes → replied t.phase e vote ≡ Ok input → is_live t ≡ true
live_replied t e vote input fits came = unless_ended t (λ ended.
    none_replies e vote (subst (λ (p : Phase). IsOwedIn p e.owes) ended fits) (subst (λ (p : Phase). allows p e vote ≡ true) ended (was_allowed (allows t.phase e vote) (input_of e vote) input came)))

none_lets : (call : SuperiorCall) → lets Ended call ≡ true → ⊥
none_lets SuperiorCall.PrePrepare may = true≢false (sym may)
none_lets SuperiorCall.Prepare may = true≢false (sym may)
none_lets SuperiorCall.Commit may = true≢false (sym may)

-- one that its superior may lead on has not
pub live_commanded : (t : Transaction) (e : Enlistment) (call : SuperiorCall) (input : PhaseInput) → commanded t.phase e call ≡ Ok input → is_live t ≡ true
live_commanded t e call input came = unless_ended t (λ ended. none_lets call (subst (λ (p : Phase). lets p call ≡ true) ended (was_let (is_superior e) (lets t.phase call) (input_by call) input came)))

-- ---- an enlistment recovers

not_true : (b : Bool) → not b ≡ true → b ≡ false
not_true true is = absurd (true≢false (sym is))
not_true false is = refl

-- one that is not recovered has neither left nor finished
unrecovered : (boot : ℕ) (ms : List Manager) (e : Enlistment) → is_unrecovered_well boot ms e ≡ true → e.is_recovered ≡ false → (e.is_read_only ≡ false) × (e.is_finished ≡ false)
unrecovered boot ms e well none =
    let early = nat_lt e.id.boot boot && is_durable_at ms e.manager in
    let all : (early && not e.is_read_only && not e.is_finished && is_none e.owes && (is_superior e || e.is_prepared)) ≡ true = rw none at well in
    let owing = (and_parts (early && not e.is_read_only && not e.is_finished && is_none e.owes) (is_superior e || e.is_prepared) all).0 in
    let unfinished = (and_parts (early && not e.is_read_only && not e.is_finished) (is_none e.owes) owing).0 in
    let parts = and_parts (early && not e.is_read_only) (not e.is_finished) unfinished in
    (not_true e.is_read_only (and_parts early (not e.is_read_only) parts.0).1, not_true e.is_finished parts.1)

-- an ordinary enlistment that has not left has finished once its transaction has ended
finished_then : (e : Enlistment) → is_enlistment_as Ended e ≡ true → is_superior e ≡ false → e.is_read_only ≡ false → e.is_finished ≡ true
finished_then e fits plain takes =
    let part : (is_none e.owes && e.is_finished) ≡ true = rw (plain, takes) at fits in
    (and_parts (is_none e.owes) e.is_finished part).1

own_fits : (a b : Bool) → a ≡ true → (not a || b) ≡ true → b ≡ true
own_fits true b is either = either
own_fits false b is either = absurd (true≢false (sym is))

plain_of : (above : Bool) → (not above || false) ≡ true → above ≡ false
plain_of true either = absurd (true≢false (sym either))
plain_of false either = refl

none_recovers : (x : Present) (e : Enlistment) (t : Transaction) → IsSoundCourse x → IsIn e x.transactions.enlistments → IsIn t x.transactions.items → same_id e.transaction t.id ≡ true → t.phase ≡ Ended → may_recover Ended e ≡ true → ⊥
none_recovers x e t sound there at own ended may =
    let es = x.transactions.enlistments in
    let parts = and_parts (not e.is_recovered) (not (is_superior e) || false) may in
    let brought = unrecovered x.recorded.boots x.managers e (list_all-at (is_unrecovered_well x.recorded.boots x.managers) es sound.enlistments.unrecovered e there) (not_true e.is_recovered parts.0) in
    let each = list_all-at (are_enlistments_as_asked es) x.transactions.items sound.phases.enlistments t at in
    let fits = own_fits (same_id e.transaction t.id) (is_enlistment_as t.phase e) own (list_all-at (λ (f : Enlistment). not (same_id f.transaction t.id) || is_enlistment_as t.phase f) es each e there) in
    let finished = finished_then e (subst (λ (p : Phase). is_enlistment_as p e ≡ true) ended fits) (plain_of (is_superior e) parts.1) brought.0 in
    true≢false (sym finished ∙ brought.1)

-- one of which an enlistment may recover has not ended
pub live_recovered : (x : Present) (e : Enlistment) (t : Transaction) (input : PhaseInput) → IsSoundCourse x → IsIn e x.transactions.enlistments → IsIn t x.transactions.items → same_id e.transaction t.id ≡ true → recovered t.phase e ≡ Ok input → is_live t ≡ true
live_recovered x e t input sound there at own came = unless_ended t (λ ended.
    none_recovers x e t sound there at own ended
    (subst (λ (p : Phase). may_recover p e ≡ true) ended (was_allowed (may_recover t.phase e) (if is_superior e then PhaseInput.RecoverSuperior else PhaseInput.Recover) input came)))
