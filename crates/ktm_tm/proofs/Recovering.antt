-- The enlistments that may be to recover, and a walk over them that tells a resource manager of those that it is to recover.
use Rattle.std.proofs.Common.{◌≡◌, ℕ, zero, suc, ◌+◌, ◌<◌, ◌≤◌, true, false, List, [], ◌∷◌, ◌++◌, length, get_or, take, drop, map, Some, refl, sym, ◌∙◌, ap, arith, length-append}
use Rattle.std.specs.Prelude.{filter}
use Rattle.std.specs.List.{list_all}
use Rattle.std.proofs.lemmas.Bool.{and_parts, and_right}
use Rattle.std.proofs.lemmas.List.{map-append, take-append-drop, take_more}
use Rattle.std.proofs.lemmas.List.Elements.{filter-append}
use Rattle.std.proofs.lemmas.List.Folds.{list_all-append}
use Rattle.ktm_base.specs.declared.id.Id.{Id}
use Rattle.ktm_base.specs.declared.notify.Notify.{Notify}
use Rattle.ktm_world.specs.declared.object.Transaction.{Transaction}
use Rattle.ktm_world.specs.Enlistments.{Enlistment, Sent}
use Rattle.ktm_world.specs.Transactions.{same_id}
use Rattle.ktm_tm.specs.Listed.{AreRecoveredBehind}
use Rattle.ktm_tm.specs.Recovery.{is_to_recover, recovers}

recovers-append : (ts : List Transaction) (manager : Id) (a b : List Enlistment) → recovers ts manager (a ++ b) ≡ recovers ts manager a ++ recovers ts manager b
recovers-append ts manager a b =
    let f : Enlistment → Sent = λ e. record { manager = manager; note = record { kind = Notify.Recover; enlistment = Some e.id } } in
    ap (map f) (filter-append (is_to_recover ts manager) a b) ∙ map-append f (filter (is_to_recover ts manager) a) (filter (is_to_recover ts manager) b)

pub recovers_more : (ts : List Transaction) (manager : Id) (es : List Enlistment) (i : ℕ) (e : Enlistment) → i < length es → e ≡ get_or es i e → recovers ts manager (take (i + 1) es) ≡ recovers ts manager (take i es) ++ recovers ts manager (e ∷ [])
recovers_more ts manager es i e within is =
    ap (recovers ts manager) (take_more es i e within ∙ ap (λ x. take i es ++ x ∷ []) (sym is)) ∙ recovers-append ts manager (take i es) (e ∷ [])

-- of a part there are no more than of all
pub recovers_first : (ts : List Transaction) (manager : Id) (es : List Enlistment) (i : ℕ) → length (recovers ts manager (take i es)) ≤ length (recovers ts manager es)
recovers_first ts manager es i =
    omega (arith, length-append (recovers ts manager (take i es)) (recovers ts manager (drop i es)), ap length (recovers-append ts manager (take i es) (drop i es)), ap (λ l. length (recovers ts manager l)) (take-append-drop i es))

-- ---- all behind the first so many are recovered

-- there are so many
pub back_within : (back : ℕ) (es : List Enlistment) → AreRecoveredBehind back es → back ≤ length es
back_within zero es all = omega arith
back_within (suc back) [] none = absurd none
back_within (suc back) (e ∷ es) rest = omega (arith, back_within back es rest)

-- with one more, which is recovered
pub recovered_push : (back : ℕ) (es : List Enlistment) (e : Enlistment) → AreRecoveredBehind back es → e.is_recovered ≡ true → AreRecoveredBehind back (es ++ e ∷ [])
recovered_push zero es e all is = rw (list_all-append (λ (d : Enlistment). d.is_recovered) es (e ∷ []), all, is) refl
recovered_push (suc back) [] e none is = absurd none
recovered_push (suc back) (d ∷ es) e rest is = recovered_push back es e rest is

-- none is behind all
pub recovered_end : (back : ℕ) (es : List Enlistment) → back ≡ length es → AreRecoveredBehind back es
recovered_end zero [] is = refl
recovered_end zero (e ∷ es) is = absurd (omega (arith, is))
recovered_end (suc back) [] is = absurd (omega (arith, is))
recovered_end (suc back) (e ∷ es) is = recovered_end back es (omega (arith, is))

-- none behind them is to recover
pub recovers_back : (ts : List Transaction) (manager : Id) (back : ℕ) (es : List Enlistment) → AreRecoveredBehind back es → recovers ts manager (take back es) ≡ recovers ts manager es
recovers_back ts manager zero [] all = refl
recovers_back ts manager zero (e ∷ es) all =
    let parts = and_parts e.is_recovered (list_all (λ (x : Enlistment). x.is_recovered) es) all in
    rw (parts.0, and_right (same_id e.manager manager) false refl) (recovers_back ts manager zero es parts.1)
recovers_back ts manager (suc back) [] none = absurd none
recovers_back ts manager (suc back) (e ∷ es) rest =
    let told = recovers_back ts manager back es rest in
    recovers-append ts manager (e ∷ []) (take back es) ∙ ap (λ l. recovers ts manager (e ∷ []) ++ l) told ∙ sym (recovers-append ts manager (e ∷ []) es)
