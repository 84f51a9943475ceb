-- Which logs bytes are: one good or one bad, and not both.
use Rattle.std.proofs.Common.{◌≡◌, ◌⊎◌, inl, inr, ℕ, ◌+◌, ◌<◌, ◌≤◌, zero, suc, List, [], ◌∷◌, ◌++◌, length, get_or, take, drop, refl, sym, ◌∙◌, ap, subst, arith, length-take, length-drop}
use Rattle.std.proofs.lemmas.List.{drop-drop}
use Rattle.std.proofs.lemmas.Bool.{cases_eq, cases_lt}
use Rattle.ktm_log.specs.Log.{BeginsWith, IsFrame, IsClosed, IsLog, IsTorn, IsBadLog, end_of, size_at}

-- behind the first frame
log_rest : (p : List ℕ) (ps : List (List ℕ)) (b : List ℕ) → IsLog (p ∷ ps) b → IsLog ps (drop (length p + 5) b)
log_rest p ps b log = record {
  frames = log.frames.1;
  gate = subst (λ (l : List ℕ). IsClosed l) (sym (drop-drop (end_of ps) (length p + 5) b)) log.gate;
}

bad_rest : (p : List ℕ) (ps : List (List ℕ)) (b : List ℕ) → IsBadLog (p ∷ ps) b → IsBadLog ps (drop (length p + 5) b)
bad_rest p ps b log = record {
  frames = log.frames.1;
  gate = subst (λ (l : List ℕ). IsTorn l) (sym (drop-drop (end_of ps) (length p + 5) b)) log.gate;
}

-- bytes begin with one frame at most
pub one_frame : (p q b : List ℕ) → IsFrame p b → IsFrame q b → p ≡ q
one_frame p q b left right = sym left.payload_is ∙ ap (λ n. take n (drop 5 b)) (sym left.size ∙ right.size) ∙ right.payload_is

pub torn_is_no_frame : (p b : List ℕ) → IsFrame p b → IsTorn b → ⊥
torn_is_no_frame p b frame torn = absurd (omega (arith, frame.size, frame.fits, torn.short))

-- of two rows of frames that bytes begin with one goes on where the other ends, or they are the same
pub begins_compare : (ps qs : List (List ℕ)) (b : List ℕ) → BeginsWith ps b → BeginsWith qs b
    → ((r : List ℕ) × (rest : List (List ℕ)) × (ps ≡ qs ++ r ∷ rest)) ⊎ (ps ≡ qs) ⊎ ((r : List ℕ) × (rest : List (List ℕ)) × (qs ≡ ps ++ r ∷ rest))
begins_compare [] [] b left right = inr (inl refl)
begins_compare [] (q ∷ qs) b left right = inr (inr (q, qs, refl))
begins_compare (p ∷ ps) [] b left right = inl (p, ps, refl)
begins_compare (p ∷ ps) (q ∷ qs) b left right =
    let first = one_frame p q b left.0 right.0 in
    elim (begins_compare ps qs (drop (length q + 5) b) (subst (λ (x : List ℕ). BeginsWith ps (drop (length x + 5) b)) first left.1) right.1) [
      | inl longer ↦ inl (longer.0, longer.1, ap (λ (x : List ℕ). x ∷ ps) first ∙ ap (λ (l : List (List ℕ)). q ∷ l) longer.2)
      | inr (inl same) ↦ inr (inl (ap (λ (x : List ℕ). x ∷ ps) first ∙ ap (λ (l : List (List ℕ)). q ∷ l) same))
      | inr (inr longer) ↦ inr (inr (longer.0, longer.1, ap (λ (x : List ℕ). x ∷ qs) (sym first) ∙ ap (λ (l : List (List ℕ)). p ∷ l) longer.2))
    ]

pub one_log : (ps qs : List (List ℕ)) (b : List ℕ) → IsLog ps b → IsLog qs b → ps ≡ qs
one_log [] [] b left right = refl
one_log [] (q ∷ qs) b left right = absurd (left.gate.closed right.frames.0.open_gate)
one_log (p ∷ ps) [] b left right = absurd (right.gate.closed left.frames.0.open_gate)
one_log (p ∷ ps) (q ∷ qs) b left right =
    let first = one_frame p q b left.frames.0 right.frames.0 in
    let rest = one_log ps qs (drop (length q + 5) b) (subst (λ (x : List ℕ). IsLog ps (drop (length x + 5) b)) first (log_rest p ps b left)) (log_rest q qs b right) in
    ap (λ (x : List ℕ). x ∷ ps) first ∙ ap (λ (l : List (List ℕ)). q ∷ l) rest

pub one_bad_log : (ps qs : List (List ℕ)) (b : List ℕ) → IsBadLog ps b → IsBadLog qs b → ps ≡ qs
one_bad_log [] [] b left right = refl
one_bad_log [] (q ∷ qs) b left right = absurd (torn_is_no_frame q b right.frames.0 left.gate)
one_bad_log (p ∷ ps) [] b left right = absurd (torn_is_no_frame p b left.frames.0 right.gate)
one_bad_log (p ∷ ps) (q ∷ qs) b left right =
    let first = one_frame p q b left.frames.0 right.frames.0 in
    let rest = one_bad_log ps qs (drop (length q + 5) b) (subst (λ (x : List ℕ). IsBadLog ps (drop (length x + 5) b)) first (bad_rest p ps b left)) (bad_rest q qs b right) in
    ap (λ (x : List ℕ). x ∷ ps) first ∙ ap (λ (l : List (List ℕ)). q ∷ l) rest

pub one_kind : (ps qs : List (List ℕ)) (b : List ℕ) → IsLog ps b → IsBadLog qs b → ⊥
one_kind [] [] b left right = left.gate.closed right.gate.open_gate
one_kind [] (q ∷ qs) b left right = left.gate.closed right.frames.0.open_gate
one_kind (p ∷ ps) [] b left right = torn_is_no_frame p b left.frames.0 right.gate
one_kind (p ∷ ps) (q ∷ qs) b left right =
    let first = one_frame p q b left.frames.0 right.frames.0 in
    one_kind ps qs (drop (length q + 5) b) (subst (λ (x : List ℕ). IsLog ps (drop (length x + 5) b)) first (log_rest p ps b left)) (bad_rest q qs b right)

-- one frame more, before the others
log_more : (p : List ℕ) (ps : List (List ℕ)) (b : List ℕ) → IsFrame p b → IsLog ps (drop (length p + 5) b) → IsLog (p ∷ ps) b
log_more p ps b frame log = record {
  frames = (frame, log.frames);
  gate = subst (λ (l : List ℕ). IsClosed l) (drop-drop (end_of ps) (length p + 5) b) log.gate;
}

bad_more : (p : List ℕ) (ps : List (List ℕ)) (b : List ℕ) → IsFrame p b → IsBadLog ps (drop (length p + 5) b) → IsBadLog (p ∷ ps) b
bad_more p ps b frame log = record {
  frames = (frame, log.frames);
  gate = subst (λ (l : List ℕ). IsTorn l) (drop-drop (end_of ps) (length p + 5) b) log.gate;
}

-- the frame of an open gate that lies in the bytes
whole_frame : (b : List ℕ) → get_or b 0 0 ≡ 1 → size_at b + 6 ≤ length b → IsFrame (take (size_at b) (drop 5 b)) b
whole_frame b gate fits =
    let long : length (take (size_at b) (drop 5 b)) ≡ size_at b = omega (arith, length-take (size_at b) (drop 5 b), length-drop 5 b) in
    record { open_gate = gate; size = sym long; fits = omega (arith, long); payload_is = ap (λ n. take n (drop 5 b)) long }

abbrev IsEither : List ℕ → Type 0
IsEither b = ((ps : List (List ℕ)) × IsLog ps b) ⊎ ((ps : List (List ℕ)) × IsBadLog ps b)

either_more : (p b : List ℕ) → IsFrame p b → IsEither (drop (length p + 5) b) → IsEither b
either_more p b frame rest = elim rest [
  | inl good ↦ inl (p ∷ good.0, log_more p good.0 b frame good.1)
  | inr bad ↦ inr (p ∷ bad.0, bad_more p bad.0 b frame bad.1)
]

-- by a bound on the length
either_below : (n : ℕ) (b : List ℕ) → length b ≤ n → 0 < length b → IsEither b
either_below zero b small some = absurd (omega arith)
either_below (suc n) b small some = elim (cases_eq (get_or b 0 0) 1) [
  | inr shut ↦ inl ([], record { frames = tt; gate = record { there = some; closed = shut } })
  | inl gate ↦ elim (cases_lt (length b) (size_at b + 6)) [
    | inl short ↦ inr ([], record { frames = tt; gate = record { open_gate = gate; short = short } })
    | inr fits ↦
        let p = take (size_at b) (drop 5 b) in
        let frame = whole_frame b gate fits in
        either_more p b frame (either_below n (drop (length p + 5) b) (omega (arith, frame.fits, length-drop (length p + 5) b)) (omega (arith, frame.fits, length-drop (length p + 5) b)))
  ]
]

pub some_kind : (b : List ℕ) → 0 < length b → IsEither b
some_kind b some = either_below (length b) b (omega arith) some
