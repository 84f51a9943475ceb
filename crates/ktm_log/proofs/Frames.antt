-- Frames in bytes: how a list of them grows, and what it depends on.
use Rattle.std.proofs.Common.{◌≡◌, ◌≢◌, ◌⊎◌, inl, inr, ℕ, ◌+◌, ◌<◌, ◌≤◌, ◌^◌, List, [], ◌∷◌, ◌++◌, length, get_or, take, drop, refl, sym, ◌∙◌, ap, subst, arith, length-drop}
use Rattle.std.proofs.lemmas.List.{take_at, drop_at, drop-drop, take-take, drop-take, get_or-take, get_or-drop, get_or_at}
use Rattle.std.proofs.lemmas.Nat.{from_le_bytes-to_le_bytes_4}
use Rattle.std.proofs.lemmas.Bool.{cases_eq}
use Rattle.std.specs.Int.{from_le_bytes, to_le_bytes, w32}
use Rattle.ktm_base.specs.Bytes.{SameOutside}
use Rattle.ktm_log.specs.Log.{BeginsWith, IsFrame, IsClosed, IsLog, end_of}
use Rattle.ktm_log.specs.Settle.{behind_gate}
use Rattle.ktm_log.proofs.Parts.{same_part, not_covered}

pub end_of-push : (ps : List (List ℕ)) (p : List ℕ) → end_of (ps ++ p ∷ []) ≡ end_of ps + (length p + 5)
end_of-push [] p = omega arith
end_of-push (q ∷ ps) p = omega (arith, end_of-push ps p)

pub first_at : (b : List ℕ) (at : ℕ) → get_or (drop at b) 0 0 ≡ get_or b at 0
first_at b at = get_or-drop at b 0 0 ∙ ap (λ n. get_or b n 0) (omega arith)

-- one frame more, behind the others
pub begins-push : (ps : List (List ℕ)) (p b : List ℕ) → BeginsWith ps b → IsFrame p (drop (end_of ps) b) → BeginsWith (ps ++ p ∷ []) b
begins-push [] p b begins frame = (frame, tt)
begins-push (q ∷ ps) p b begins frame = (begins.0, begins-push ps p (drop (length q + 5) b) begins.1 (subst (λ (l : List ℕ). IsFrame p l) (sym (drop-drop (end_of ps) (length q + 5) b)) frame))

-- the frame behind others, and those
pub begins-split : (ps rest : List (List ℕ)) (p b : List ℕ) → BeginsWith (ps ++ p ∷ rest) b → BeginsWith ps b × IsFrame p (drop (end_of ps) b)
begins-split [] rest p b begins = (tt, begins.0)
begins-split (q ∷ ps) rest p b begins =
    let (front, frame) = begins-split ps rest p (drop (length q + 5) b) begins.1 in
    ((begins.0, front), subst (λ (l : List ℕ). IsFrame p l) (drop-drop (end_of ps) (length q + 5) b) frame)

-- a frame depends on its own bytes and on the length
frame_same : (p b c : List ℕ) → IsFrame p b → length c ≡ length b → ((place : ℕ) → place < length p + 5 → get_or c place 0 ≡ get_or b place 0) → IsFrame p c
frame_same p b c frame long same = record {
  open_gate = same 0 (omega arith) ∙ frame.open_gate;
  size = ap (λ (l : List ℕ). from_le_bytes w32 l) (same_part b c 1 4 long (λ place low high. same place (omega arith))) ∙ frame.size;
  fits = omega (arith, frame.fits);
  payload_is = same_part b c 5 (length p) long (λ place low high. same place (omega arith)) ∙ frame.payload_is;
}

pub begins_same : (ps : List (List ℕ)) (b c : List ℕ) → BeginsWith ps b → length c ≡ length b → ((place : ℕ) → place < end_of ps → get_or c place 0 ≡ get_or b place 0) → BeginsWith ps c
begins_same [] b c begins long same = tt
begins_same (p ∷ ps) b c begins long same = (
  frame_same p b c begins.0 long (λ place h. same place (omega arith)),
  begins_same ps (drop (length p + 5) b) (drop (length p + 5) c) begins.1 (omega (arith, length-drop (length p + 5) b, length-drop (length p + 5) c))
      (λ place h. get_or-drop (length p + 5) c place 0 ∙ same (length p + 5 + place) (omega arith) ∙ sym (get_or-drop (length p + 5) b place 0)),
)

-- the gate of a log is there
pub gate_there : (ps : List (List ℕ)) (b : List ℕ) → IsLog ps b → end_of ps < length b
gate_there ps b log = omega (arith, log.gate.there, length-drop (end_of ps) b)

pub closed_at : (b : List ℕ) (at : ℕ) → at < length b → get_or b at 0 ≢ 1 → IsClosed (drop at b)
closed_at b at there shut = record {
  there = omega (arith, length-drop at b);
  closed = λ e. shut (sym (first_at b at) ∙ e);
}

-- a log depends on its bytes up to its closed gate
pub log_same : (ps : List (List ℕ)) (b c : List ℕ) → IsLog ps b → length c ≡ length b → ((place : ℕ) → place < end_of ps → get_or c place 0 ≡ get_or b place 0) → get_or c (end_of ps) 0 ≢ 1 → IsLog ps c
log_same ps b c log long same shut = record {
  frames = begins_same ps b c log.frames long same;
  gate = closed_at c (end_of ps) (let there = gate_there ps b log in omega arith) shut;
}

pub gate_shut : (ps : List (List ℕ)) (b : List ℕ) → IsLog ps b → get_or b (end_of ps) 0 ≢ 1
gate_shut ps b log = λ e. log.gate.closed (first_at b (end_of ps) ∙ e)

-- a log, and behind its closed gate the rest of one frame more, with a closed gate of its own
pub record Staged (ps : List (List ℕ)) (p b : List ℕ) : Type 0 where
  pub log : IsLog ps b
  pub room : end_of ps + length p + 6 ≤ length b
  pub body : take (length p + 5) (drop (end_of ps + 1) b) ≡ behind_gate p

-- what stands behind a gate
module _ (p rest : List ℕ) (body : take (length p + 5) rest ≡ behind_gate p) where
  body_size : take 4 rest ≡ to_le_bytes w32 (length p)
  body_size = sym (take-take 4 (length p + 5) rest (omega arith)) ∙ ap (λ (l : List ℕ). take 4 l) body ∙ take_at (to_le_bytes w32 (length p)) (p ++ 0 ∷ []) 4 refl

  body_rest : take (length p + 1) (drop 4 rest) ≡ p ++ 0 ∷ []
  body_rest = sym (drop-take 4 (length p + 1) rest) ∙ ap (λ n. drop 4 (take n rest)) (omega arith) ∙ ap (λ (l : List ℕ). drop 4 l) body ∙ drop_at (to_le_bytes w32 (length p)) (p ++ 0 ∷ []) 4 refl

  body_payload : take (length p) (drop 4 rest) ≡ p
  body_payload = sym (take-take (length p) (length p + 1) (drop 4 rest) (omega arith)) ∙ ap (λ (l : List ℕ). take (length p) l) body_rest ∙ take_at p (0 ∷ []) (length p) refl

  body_last : get_or (drop 4 rest) (length p) 0 ≡ 0
  body_last = sym (get_or-take (length p + 1) (drop 4 rest) (length p) 0 (omega arith)) ∙ ap (λ (l : List ℕ). get_or l (length p) 0) body_rest ∙ get_or_at p 0 [] 0 (length p) refl

-- a gate that is opened
opened : (p b : List ℕ) (at : ℕ) → length p < 2 ^ 32 → at + length p + 6 ≤ length b → get_or b at 0 ≡ 1 → take (length p + 5) (drop (at + 1) b) ≡ behind_gate p → IsFrame p (drop at b)
opened p b at small room gate body = record {
  open_gate = first_at b at ∙ gate;
  size = ap (λ (l : List ℕ). from_le_bytes w32 (take 4 l)) (drop-drop 1 at b) ∙ ap (λ (l : List ℕ). from_le_bytes w32 l) (body_size p (drop (at + 1) b) body) ∙ from_le_bytes-to_le_bytes_4 (length p) small;
  fits = omega (arith, length-drop at b);
  payload_is = ap (λ (l : List ℕ). take (length p) l) (drop-drop 5 at b ∙ ap (λ n. drop n b) (omega arith) ∙ sym (drop-drop 4 (at + 1) b)) ∙ body_payload p (drop (at + 1) b) body;
}

closed_behind : (p b : List ℕ) (at : ℕ) → take (length p + 5) (drop (at + 1) b) ≡ behind_gate p → get_or b (at + (length p + 5)) 0 ≡ 0
closed_behind p b at body =
    ap (λ n. get_or b n 0) (omega arith) ∙ sym (get_or-drop (at + 5) b (length p) 0)
    ∙ ap (λ (l : List ℕ). get_or l (length p) 0) (ap (λ n. drop n b) (omega arith) ∙ sym (drop-drop 4 (at + 1) b)) ∙ body_last p (drop (at + 1) b) body

module _ (ps : List (List ℕ)) (p b c : List ℕ) (staged : Staged ps p b) (same : SameOutside ((end_of ps, 1) ∷ []) b c) where
  other : (place : ℕ) → (place < end_of ps) ⊎ (end_of ps + 1 ≤ place) → get_or c place 0 ≡ get_or b place 0
  other place away = same.others place (not_covered (end_of ps) 1 place away)

  same_body : take (length p + 5) (drop (end_of ps + 1) c) ≡ behind_gate p
  same_body = same_part b c (end_of ps + 1) (length p + 5) same.same_length (λ place low high. other place (inr low)) ∙ staged.body

  pub gate_opened : length p < 2 ^ 32 → get_or c (end_of ps) 0 ≡ 1 → IsLog (ps ++ p ∷ []) c
  gate_opened small gate = record {
    frames = begins-push ps p c (begins_same ps b c staged.log.frames same.same_length (λ place h. other place (inl h)))
        (opened p c (end_of ps) small (omega (arith, staged.room, same.same_length)) gate same_body);
    gate = closed_at c (end_of (ps ++ p ∷ [])) (omega (arith, staged.room, same.same_length, end_of-push ps p))
        (λ e. let shut = closed_behind p c (end_of ps) same_body in let at = ap (λ n. get_or c n 0) (end_of-push ps p) in absurd (omega arith));
  }

  -- whatever its gate holds now
  pub gate_either : length p < 2 ^ 32 → IsLog ps c ⊎ IsLog (ps ++ p ∷ []) c
  gate_either small = elim (cases_eq (get_or c (end_of ps) 0) 1) [
    | inl gate ↦ inr (gate_opened small gate)
    | inr shut ↦ inl (log_same ps b c staged.log same.same_length (λ place h. other place (inl h)) shut)
  ]

-- what is torn behind a closed gate leaves the log
pub log_torn_behind : (ps : List (List ℕ)) (b c : List ℕ) (n : ℕ) → IsLog ps b → SameOutside ((end_of ps + 1, n) ∷ []) b c → IsLog ps c
log_torn_behind ps b c n log same =
    log_same ps b c log same.same_length (λ place h. same.others place (not_covered (end_of ps + 1) n place (inl (omega arith))))
    (λ e. gate_shut ps b log (sym (same.others (end_of ps) (not_covered (end_of ps + 1) n (end_of ps) (inl (omega arith)))) ∙ e))
