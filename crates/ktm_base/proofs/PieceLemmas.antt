-- One piece more of a row.
use Rattle.std.proofs.Common.{◌≡◌, ℕ, ◌+◌, ◌≤◌, List, [], ◌∷◌, ◌++◌, length, drop, sum, ◌==◌, IsTrue, true, false, refl, sym, ap, ◌∙◌, arith, length-drop}
use Rattle.std.proofs.Math.Dec.{eqb-suc-zero}
use Rattle.std.proofs.lemmas.List.Sums.{sum_by-cons}
use Rattle.std.proofs.lemmas.List.{take_all, nil_from_length, take-append-le, drop-append-le}
use Rattle.ktm_base.specs.Pieces.{pieces}

pub pieces_more : (ns row text : List ℕ) → sum ns ≡ length row → pieces (ns ++ length text ∷ []) (row ++ text) ≡ pieces ns row ++ text ∷ []
pieces_more [] row text whole =
    rw (nil_from_length row (sym whole)) (ap (λ (t : List ℕ). t ∷ []) (take_all (length text) text (omega arith)))
pieces_more (n ∷ ns) row text whole =
    let parts : n + sum ns ≡ length row = sym (sum_by-cons (λ x. x) n ns) ∙ whole in
    let within : n ≤ length row = omega arith in
    let rest : sum ns ≡ length (drop n row) = omega (arith, length-drop n row) in
    rw (take-append-le n row text within, drop-append-le n row text within, pieces_more ns (drop n row) text rest) refl

-- there is none exactly where there are no lengths
pub no_pieces : (ns row : List ℕ) → (IsTrue (length ns == 0) → pieces ns row ≡ []) × (pieces ns row ≡ [] → IsTrue (length ns == 0))
no_pieces [] row = (λ _. refl, λ _. refl)
no_pieces (n ∷ ns) row = (λ none. let wrong : false ≡ true = sym (eqb-suc-zero (length ns)) ∙ none in cc, λ none. cc)
