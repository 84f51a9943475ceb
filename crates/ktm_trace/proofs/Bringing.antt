-- The transactions of the log, brought back one after another.
use Rattle.std.proofs.Common.{◌≡◌, ℕ, suc, ◌+◌, ◌<◌, List, [], ◌∷◌, ◌++◌, length, map, get_or, drop, refl, sym, ◌∙◌, ap, subst, add-one, drop-cons}
use Rattle.std.proofs.lemmas.List.{append_assoc}
use Rattle.ktm_world.specs.Durable.{Recorded}
use Rattle.ktm_trace.specs.Placed.{Rises}
use Rattle.ktm_trace.specs.Traces.{Traced, id_of, recorded_id, traced}
use Rattle.ktm_trace.proofs.Placed.{IsLast, last, map-rises}

-- the transactions that are left begin with this one
left-from : (ts : List Recorded) (i : ℕ) (t : Recorded) → i < length ts → t ≡ get_or ts i t → map traced (drop i ts) ≡ traced t ∷ map traced (drop (i + 1) ts)
left-from ts i t within is = ap (λ us. map traced us) (drop-cons ts i t within) ∙ ap (λ (u : Recorded). traced u ∷ map traced (drop (suc i) ts)) (sym is) ∙ ap (λ j. traced t ∷ map traced (drop j ts)) (sym (add-one i))

-- it is behind all that were brought back
pub next-last : (ts : List Recorded) (brought : List Traced) (i : ℕ) (t : Recorded) → Rises recorded_id ts → i < length ts → t ≡ get_or ts i t → brought ++ map traced (drop i ts) ≡ map traced ts → IsLast id_of brought (traced t)
next-last ts brought i t rises within is all =
    last id_of brought (map traced (drop (i + 1) ts)) (traced t)
    (subst (Rises id_of) (sym all ∙ ap (λ l. brought ++ l) (left-from ts i t within is)) (map-rises recorded_id id_of traced (λ u. refl) ts rises))

-- once the next one is brought back too, all are there with those that are left then
pub next-brought : (ts : List Recorded) (brought : List Traced) (i : ℕ) (t : Recorded) → i < length ts → t ≡ get_or ts i t → brought ++ map traced (drop i ts) ≡ map traced ts → (brought ++ traced t ∷ []) ++ map traced (drop (i + 1) ts) ≡ map traced ts
next-brought ts brought i t within is all = append_assoc brought (traced t ∷ []) (map traced (drop (i + 1) ts)) ∙ ap (λ l. brought ++ l) (sym (left-from ts i t within is)) ∙ all
