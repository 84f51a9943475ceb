-- A range of a block's contents that is written in pieces.
use Rattle.std.specs.Prelude.{IfSome}
use Rattle.std.proofs.Common.{take, ◌≡◌, ℕ, ◌+◌, ◌-◌, ◌≤◌, min, List, ◌∷◌, [], length, Option, sym, ap, ◌∙◌, arith, replicate}
use Rattle.std.proofs.lemmas.List.{take-replicate, length-replicate}
use Rattle.rand_core.specs.Steps.{fill_via_u32}
use Rattle.rand_pcg.specs.Lcg.{Lcg}
use Rattle.rand_pcg.specs.Pcg.{pcg32}
use Rattle.ktm_base.specs.Bytes.{written, SameOutside}
use Rattle.ktm_base.specs.Told.{Goes}
use Rattle.ktm_cut.specs.Left.{with_drawn, with_zeros}
use Rattle.ktm_cut.proofs.Drawn.{long_as_drawn, drawn_piece, drawn_all, zeros_piece, zeros_all}
use Rattle.ktm_cut.proofs.Ranges.{piece_more, written_outside, fits}
use Rattle.ktm_cut.proofs.Steps.{Goes-map, Goes-then}

-- as many bytes as were asked for
pub long_as_asked : (size n : ℕ) (g h : Lcg) (p : List ℕ) → n ≡ size → (p, h) ≡ fill_via_u32 pcg32 n g → length p ≡ size
long_as_asked size n g h p is made = long_as_drawn n g h p made ∙ is

-- what a write of a piece leaves as it was
pub piece_outside : (from end at size : ℕ) (p : List ℕ) (a b c : Option (List ℕ)) → from ≤ at → at + size ≤ end → length p ≡ size → IfSome b (λ bytes. end ≤ length bytes) → Goes (SameOutside ((from, end - from) ∷ [])) a b → Goes (λ old new. new ≡ written old at p) b c → Goes (SameOutside ((from, end - from) ∷ [])) a c
piece_outside from end at size p a b c low high long within first next =
    piece_more from end at (length p) a b c low (omega arith) first (written_outside at p b c (fits at end p b (omega arith) within) next)

pub drawn_next : (from end at size n : ℕ) (f g h : Lcg) (p : List ℕ) (a b c : Option (List ℕ)) → size ≡ min (end - at) 512 → at ≤ end → n ≡ size → (p, h) ≡ fill_via_u32 pcg32 n g → IfSome b (λ bytes. end ≤ length bytes) → Goes (λ old new. with_drawn at end g new ≡ with_drawn from end f old) a b → Goes (λ old new. new ≡ written old at p) b c → Goes (λ old new. with_drawn (at + size) end h new ≡ with_drawn from end f old) a c
drawn_next from end at size n f g h p a b c least low is made within first next =
    Goes-then (λ y. end ≤ length y) (λ old new. with_drawn at end g new ≡ with_drawn from end f old) (λ old new. new ≡ written old at p) (λ old new. with_drawn (at + size) end h new ≡ with_drawn from end f old) a b c
    (λ x y z fits so now. drawn_piece at end size g h p y z least low fits (made ∙ ap (λ (k : ℕ). fill_via_u32 pcg32 k g) is) now ∙ so) within first next

pub drawn_last : (from end at : ℕ) (f g : Lcg) (a b : Option (List ℕ)) → end ≤ at → Goes (λ old new. with_drawn at end g new ≡ with_drawn from end f old) a b → Goes (λ old new. (new, g) ≡ with_drawn from end f old) a b
drawn_last from end at f g a b low =
    Goes-map (λ old new. with_drawn at end g new ≡ with_drawn from end f old) (λ old new. (new, g) ≡ with_drawn from end f old) a b
    (λ x y so. sym (drawn_all at end g y low) ∙ so)

pub zeros_next : (from end at size : ℕ) (p : List ℕ) (a b c : Option (List ℕ)) → at + size ≤ end → p ≡ replicate size 0 → IfSome b (λ bytes. end ≤ length bytes) → Goes (λ old new. with_zeros at end new ≡ with_zeros from end old) a b → Goes (λ old new. new ≡ written old at p) b c → Goes (λ old new. with_zeros (at + size) end new ≡ with_zeros from end old) a c
zeros_next from end at size p a b c low made within first next =
    Goes-then (λ y. end ≤ length y) (λ old new. with_zeros at end new ≡ with_zeros from end old) (λ old new. new ≡ written old at p) (λ old new. with_zeros (at + size) end new ≡ with_zeros from end old) a b c
    (λ x y z fits so is. zeros_piece at end size p y z low fits made is ∙ so) within first next

pub zeros_last : (from end at : ℕ) (a b : Option (List ℕ)) → end ≤ at → Goes (λ old new. with_zeros at end new ≡ with_zeros from end old) a b → Goes (λ old new. new ≡ with_zeros from end old) a b
zeros_last from end at a b low =
    Goes-map (λ old new. with_zeros at end new ≡ with_zeros from end old) (λ old new. new ≡ with_zeros from end old) a b
    (λ x y so. sym (zeros_all at end y low) ∙ so)

pub zeros_made : (size : ℕ) → size ≤ 512 → take size (replicate {A = ℕ} 512 0) ≡ replicate {A = ℕ} size 0
zeros_made size small = take-replicate size 512 (0) small

pub zeros_long : (size : ℕ) → size ≤ 512 → length (take size (replicate {A = ℕ} 512 0)) ≡ size
zeros_long size small = ap length (zeros_made size small) ∙ length-replicate size 0
