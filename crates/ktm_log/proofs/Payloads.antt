-- The payloads of the frames that bytes begin with, and bytes that went on.
use Rattle.std.proofs.Common.{◌≡◌, ℕ, zero, suc, ◌+◌, ◌-◌, ◌<◌, ◌≤◌, Option, None, Some, List, [], ◌∷◌, length, get_or, take, drop, refl, sym, ◌∙◌, ap, subst, arith, eq-eqb, length-take, length-drop}
use Rattle.std.proofs.lemmas.List.{take-take, drop-take, drop-drop, get_or-take}
use Rattle.std.proofs.lemmas.Bool.{le-leb}
use Rattle.std.proofs.lemmas.Bool.Decides.{nat_tests}
use Rattle.std.specs.Int.{from_le_bytes, w32}
use Rattle.ktm_log.specs.Log.{BeginsWith, IsFrame, IsClosed, IsLog, end_of, size_at, first_payload, followed, payloads_up_to, payloads_in}
use Rattle.ktm_log.specs.Load.{WentOn}

pub went_on_trans : (a b c : List ℕ) → WentOn a b → WentOn b c → WentOn a c
went_on_trans a b c first second =
    let long : length a ≤ length b = omega (arith, ap (λ (l : List ℕ). length l) first.front, length-take (length a) b) in
    record { front = sym (take-take (length a) (length b) c long) ∙ ap (λ (l : List ℕ). take (length a) l) second.front ∙ first.front }

module _ (b c : List ℕ) (on : WentOn b c) where
  pub longer : length b ≤ length c
  longer = omega (arith, ap (λ (l : List ℕ). length l) on.front, length-take (length b) c)

  pub front_at : (k : ℕ) → k < length b → get_or c k 0 ≡ get_or b k 0
  front_at k inside = sym (get_or-take (length b) c k 0 inside) ∙ ap (λ (l : List ℕ). get_or l k 0) on.front

  pub front_part : (from n : ℕ) → from + n ≤ length b → take n (drop from c) ≡ take n (drop from b)
  front_part from n fits =
      sym (take-take n (length b - from) (drop from c) (omega arith))
      ∙ ap (λ (l : List ℕ). take n l) (sym (drop-take from (length b - from) c))
      ∙ ap (λ k. take n (drop from (take k c))) (omega arith)
      ∙ ap (λ (l : List ℕ). take n (drop from l)) on.front

  pub front_drop : (k : ℕ) → k ≤ length b → WentOn (drop k b) (drop k c)
  front_drop k inside = record {
    front = ap (λ n. take n (drop k c)) (length-drop k b) ∙ sym (drop-take k (length b - k) c) ∙ ap (λ n. drop k (take n c)) (omega arith) ∙ ap (λ (l : List ℕ). drop k l) on.front;
  }

  pub frame_went_on : (p : List ℕ) → IsFrame p b → IsFrame p c
  frame_went_on p frame = record {
    open_gate = front_at 0 (omega (arith, frame.fits)) ∙ frame.open_gate;
    size = ap (λ (l : List ℕ). from_le_bytes w32 l) (front_part 1 4 (omega (arith, frame.fits))) ∙ frame.size;
    fits = omega (arith, frame.fits, longer);
    payload_is = front_part 5 (length p) (omega (arith, frame.fits)) ∙ frame.payload_is;
  }

  pub size_went_on : (at : ℕ) → at + 5 ≤ length b → size_at (drop at c) ≡ size_at (drop at b)
  size_went_on at fits = ap (λ (l : List ℕ). from_le_bytes w32 l)
      (ap (λ (l : List ℕ). take 4 l) (drop-drop 1 at c) ∙ front_part (at + 1) 4 (omega arith) ∙ ap (λ (l : List ℕ). take 4 l) (sym (drop-drop 1 at b)))

  pub closed_went_on : IsClosed b → IsClosed c
  closed_went_on closed = record {
    there = omega (arith, closed.there, longer);
    closed = λ e. closed.closed (sym (front_at 0 closed.there) ∙ e);
  }

pub begins_went_on : (ps : List (List ℕ)) (b c : List ℕ) → WentOn b c → BeginsWith ps b → BeginsWith ps c
begins_went_on [] b c on begins = tt
begins_went_on (p ∷ ps) b c on begins = (
  frame_went_on b c on p begins.0,
  begins_went_on ps (drop (length p + 5) b) (drop (length p + 5) c) (front_drop b c on (length p + 5) (omega (arith, begins.0.fits))) begins.1,
)

pub begins_within : (ps : List (List ℕ)) (b : List ℕ) → BeginsWith ps b → end_of ps ≤ length b
begins_within [] b begins = omega arith
begins_within (p ∷ ps) b begins = omega (arith, begins.0.fits, begins_within ps (drop (length p + 5) b) begins.1, length-drop (length p + 5) b)

pub log_went_on : (ps : List (List ℕ)) (b c : List ℕ) → WentOn b c → BeginsWith ps b → IsClosed (drop (end_of ps) b) → IsLog ps c
log_went_on ps b c on begins closed = record {
  frames = begins_went_on ps b c on begins;
  gate = closed_went_on (drop (end_of ps) b) (drop (end_of ps) c) (front_drop b c on (end_of ps) (begins_within ps b begins)) closed;
}

-- which payload the bytes begin with
pub frame_first : (p b : List ℕ) → IsFrame p b → first_payload b ≡ Some p
frame_first p b frame =
    rw (eq-eqb (get_or b 0 0) 1 frame.open_gate, le-leb (size_at b + 6) (length b) (omega (arith, frame.size, frame.fits)))
    (ap Some (ap (λ n. take n (drop 5 b)) frame.size ∙ frame.payload_is))

pub none_closed : (b : List ℕ) → IsClosed b → first_payload b ≡ None
none_closed b closed = grind (arith, nat_tests)

pub none_short : (b : List ℕ) → length b < size_at b + 6 → first_payload b ≡ None
none_short b short = grind (arith, nat_tests)

same_followed : (o : Option (List ℕ)) (f g : List ℕ → List (List ℕ)) → ((p : List ℕ) → f p ≡ g p) → followed o f ≡ followed o g
same_followed None f g same = refl
same_followed (Some p) f g same = ap (λ (l : List (List ℕ)). p ∷ l) (same p)

-- no more of them are found with more than are enough
enough : (n m : ℕ) (b : List ℕ) → length b ≤ n → length b ≤ m → payloads_up_to n b ≡ payloads_up_to m b
enough zero zero b small less = refl
enough zero (suc m) b small less = sym (ap (λ (o : Option (List ℕ)). followed o (λ payload. payloads_up_to m (drop (length payload + 5) b))) (none_short b (omega arith)))
enough (suc n) zero b small less = ap (λ (o : Option (List ℕ)). followed o (λ payload. payloads_up_to n (drop (length payload + 5) b))) (none_short b (omega arith))
enough (suc n) (suc m) b small less =
    same_followed (first_payload b) (λ payload. payloads_up_to n (drop (length payload + 5) b)) (λ payload. payloads_up_to m (drop (length payload + 5) b))
    (λ p. enough n m (drop (length p + 5) b) (omega (arith, length-drop (length p + 5) b)) (omega (arith, length-drop (length p + 5) b)))

pub payloads_none : (b : List ℕ) → first_payload b ≡ None → payloads_in b ≡ []
unfolding payloads_in
payloads_none [] none = refl
payloads_none (x ∷ xs) none = ap (λ (o : Option (List ℕ)). followed o (λ payload. payloads_up_to (length xs) (drop (length payload + 5) (x ∷ xs)))) none

pub payloads_first : (p b : List ℕ) → first_payload b ≡ Some p → payloads_in b ≡ p ∷ payloads_in (drop (length p + 5) b)
unfolding payloads_in
payloads_first p [] some = absurd (let e : None ≡ Some p = some in cc)
payloads_first p (x ∷ xs) some =
    ap (λ (o : Option (List ℕ)). followed o (λ payload. payloads_up_to (length xs) (drop (length payload + 5) (x ∷ xs)))) some
    ∙ ap (λ (l : List (List ℕ)). p ∷ l)
    (let rest = drop (length p + 5) (x ∷ xs) in
    enough (length xs) (length rest) rest (omega (arith, length-drop (length p + 5) (x ∷ xs))) (omega arith))

pub payloads_are : (ps : List (List ℕ)) (b : List ℕ) → BeginsWith ps b → first_payload (drop (end_of ps) b) ≡ None → payloads_in b ≡ ps
payloads_are [] b begins none = payloads_none b none
payloads_are (p ∷ ps) b begins none =
    payloads_first p b (frame_first p b begins.0)
    ∙ ap (λ (l : List (List ℕ)). p ∷ l)
    (payloads_are ps (drop (length p + 5) b) begins.1 (subst (λ (l : List ℕ). first_payload l ≡ None) (sym (drop-drop (end_of ps) (length p + 5) b)) none))
