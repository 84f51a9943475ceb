-- Drawn bytes, and bytes that are written in pieces.
use Rattle.std.proofs.Common.{◌≡◌, ◌⊎◌, inl, inr, ℕ, zero, suc, ◌+◌, ◌-◌, ◌*◌, ◌/◌, ◌≤◌, min, List, [], ◌++◌, length, take, drop, refl, sym, ◌∙◌, ap, arith, append_assoc, length-append, replicate, add-suc, add-zero}
use Rattle.std.proofs.lemmas.Grind.{common_steps}
use Rattle.std.proofs.lemmas.List.{replicate-append-replicate, length-replicate, take_at, take_all, drop-drop, length-take-le}
use Rattle.std.proofs.Math.Seq.{take-append-add, drop-append-add}
use Rattle.std.specs.Int.{w32, to_le_bytes}
use Rattle.rand_core.specs.Steps.{word_bytes, fill_via_u32}
use Rattle.rand_pcg.specs.Lcg.{Lcg}
use Rattle.rand_pcg.specs.Pcg.{pcg32}
use Rattle.ktm_base.specs.Bytes.{written}
use Rattle.ktm_cut.specs.Left.{drawn, with_drawn, with_zeros}

length-word : (n : ℕ) → length (to_le_bytes w32 n) ≡ 4
length-word n = refl

-- k words
words : ℕ → Lcg → List ℕ × Lcg
words k g = word_bytes (to_le_bytes w32) pcg32 k g

length-words : (k : ℕ) (g : Lcg) → length (words k g).0 ≡ 4 * k
unfolding words word_bytes
length-words zero g = refl
length-words (suc k) g = rw length-append (omega (arith, length-words k g, length-word (pcg32 (words k g).1).0))

-- one word more
more : List ℕ × Lcg → List ℕ × Lcg
more before = (before.0 ++ to_le_bytes w32 (pcg32 before.1).0, (pcg32 before.1).1)

words-suc : (k : ℕ) (g : Lcg) → words (suc k) g ≡ more (words k g)
unfolding words word_bytes more
words-suc k g = refl

words-zero : (g : Lcg) → words 0 g ≡ ([], g)
unfolding words word_bytes
words-zero g = refl

-- what is drawn after some bytes
abbrev pub after : List ℕ → List ℕ × Lcg → List ℕ × Lcg
after front rest = (front ++ rest.0, rest.1)

after-more : (front : List ℕ) (rest : List ℕ × Lcg) → more (after front rest) ≡ after front (more rest)
unfolding more
after-more front rest = rw append_assoc refl

after-none : (front : List ℕ) (g : Lcg) → after front ([], g) ≡ (front, g)
after-none front g = grind (arith, common_steps)

words-more : (j k : ℕ) (g : Lcg) → words (j + k) g ≡ after (words j g).0 (words k (words j g).1)
words-more j zero g =
    ap (λ (n : ℕ). words n g) (add-zero j) ∙ sym (after-none (words j g).0 (words j g).1) ∙ ap (after (words j g).0) (sym (words-zero (words j g).1))
words-more j (suc k) g =
    ap (λ (n : ℕ). words n g) (add-suc j k) ∙ words-suc (j + k) g ∙ ap more (words-more j k g)
    ∙ after-more (words j g).0 (words k (words j g).1) ∙ ap (after (words j g).0) (sym (words-suc k (words j g).1))

drawn-words : (n : ℕ) (g : Lcg) → drawn n g ≡ (take n (words ((n + 3) / 4) g).0, (words ((n + 3) / 4) g).1)
unfolding drawn words
drawn-words n g = refl

pub drawn-none : (g : Lcg) → drawn 0 g ≡ ([], g)
unfolding drawn word_bytes
drawn-none g = refl

pub length-drawn : (n : ℕ) (g : Lcg) → length (drawn n g).0 ≡ n
length-drawn n g =
    ap (λ (p : List ℕ × Lcg). length p.0) (drawn-words n g) ∙ length-take-le n (words ((n + 3) / 4) g).0 (omega (arith, length-words ((n + 3) / 4) g))

drawn-512 : (g : Lcg) → drawn 512 g ≡ words 128 g
drawn-512 g = drawn-words 512 g ∙ ap (λ (l : List ℕ). (l, (words 128 g).1)) (take_all 512 (words 128 g).0 (omega (arith, length-words 128 g)))

-- the front of some bytes and what is drawn after it
cut : (n : ℕ) (front : List ℕ) (rest : List ℕ × Lcg) → length front ≡ 512 → (take (512 + n) (after front rest).0, (after front rest).1) ≡ after front (take n rest.0, rest.1)
cut n front rest long =
    ap (λ (l : List ℕ). (l, rest.1)) (ap (λ (k : ℕ). take (k + n) (front ++ rest.0)) (sym long) ∙ take-append-add front rest.0 n)

drawn-512-more : (n : ℕ) (g : Lcg) → drawn (512 + n) g ≡ after (words 128 g).0 (drawn n (words 128 g).1)
drawn-512-more n g =
    let count : (512 + n + 3) / 4 ≡ 128 + (n + 3) / 4 = omega arith in
    drawn-words (512 + n) g ∙ ap (λ (k : ℕ). (take (512 + n) (words k g).0, (words k g).1)) count
    ∙ ap (λ (x : List ℕ × Lcg). (take (512 + n) x.0, x.1)) (words-more 128 ((n + 3) / 4) g)
    ∙ cut n (words 128 g).0 (words ((n + 3) / 4) (words 128 g).1) (length-words 128 g)
    ∙ ap (after (words 128 g).0) (sym (drawn-words n (words 128 g).1))

-- bytes that are drawn in two goes, the first a whole piece or all
pub drawn-more : (m n : ℕ) (g : Lcg) → (m ≡ 512) ⊎ (n ≡ 0) → drawn (m + n) g ≡ after (drawn m g).0 (drawn n (drawn m g).1)
drawn-more m n g (inl is) = rw is (drawn-512-more n g ∙ ap (λ (p : List ℕ × Lcg). after p.0 (drawn n p.1)) (sym (drawn-512 g)))
drawn-more m n g (inr is) = rw is (ap (λ (k : ℕ). drawn k g) (add-zero m) ∙ sym (after-none (drawn m g).0 (drawn m g).1) ∙ ap (after (drawn m g).0) (sym (drawn-none (drawn m g).1)))

pub written-none : (old : List ℕ) (at : ℕ) → written old at [] ≡ old
written-none old at = grind (arith, common_steps)

-- behind a front, what follows is written over
behind : (front rest q : List ℕ) → take (length front) (front ++ rest) ++ q ++ drop (length front + length q) (front ++ rest) ≡ front ++ q ++ drop (length q) rest
behind front rest q =
    ap (λ (l : List ℕ). l ++ q ++ drop (length front + length q) (front ++ rest)) (take_at front rest (length front) refl)
    ∙ ap (λ (l : List ℕ). front ++ q ++ l) (drop-append-add front rest (length q))

pub written-written : (old : List ℕ) (at : ℕ) (p q : List ℕ) → at ≤ length old → written (written old at p) (at + length p) q ≡ written old at (p ++ q)
written-written old at p q fits =
    let front = take at old ++ p in
    let long : length front ≡ at + length p = length-append (take at old) p ∙ ap (λ (n : ℕ). n + length p) (length-take-le at old fits) in
    let end : at + length p + length q ≡ at + length (p ++ q) = omega (arith, length-append p q) in
    ap (λ (n : ℕ). take n (front ++ drop (at + length p) old) ++ q ++ drop (n + length q) (front ++ drop (at + length p) old)) (sym long)
    ∙ behind front (drop (at + length p) old) q
    ∙ ap (λ (l : List ℕ). front ++ q ++ l) (drop-drop (length q) (at + length p) old)
    ∙ ap (λ (l : List ℕ). l ++ drop (at + length p + length q) old) (append_assoc (take at old) p q)
    ∙ ap (λ (n : ℕ). (take at old ++ (p ++ q)) ++ drop n old) end

pub drawn-is : (n : ℕ) (g : Lcg) → fill_via_u32 pcg32 n g ≡ drawn n g
unfolding drawn
drawn-is n g = refl

whole_or_last : (left size n : ℕ) → size ≡ min left 512 → left ≡ size + n → (size ≡ 512) ⊎ (n ≡ 0)
whole_or_last left size n least sum = grind arith

-- as many bytes as were asked for
pub long_as_drawn : (n : ℕ) (g h : Lcg) (p : List ℕ) → (p, h) ≡ fill_via_u32 pcg32 n g → length p ≡ n
long_as_drawn n g h p made = ap (λ (x : List ℕ × Lcg). length x.0) (made ∙ drawn-is n g) ∙ length-drawn n g

-- a piece is written, and then the bytes behind it
piece_then : (at size n : ℕ) (h : Lcg) (p y z : List ℕ) (all : List ℕ × Lcg) → length p ≡ size → at ≤ length y → z ≡ written y at p → all ≡ after p (drawn n h) → ◌≡◌ {A = List ℕ × Lcg} (written z (at + size) (drawn n h).0, (drawn n h).1) (written y at all.0, all.1)
piece_then at size n h p y z all long low is whole =
    ap (λ (l : List ℕ). (written l (at + size) (drawn n h).0, (drawn n h).1)) is
    ∙ ap (λ (k : ℕ). (written (written y at p) (at + k) (drawn n h).0, (drawn n h).1)) (sym long)
    ∙ ap (λ (l : List ℕ). (l, (drawn n h).1)) (written-written y at p (drawn n h).0 low)
    ∙ ap (λ (x : List ℕ × Lcg). (written y at x.0, x.1)) (sym whole)

-- what is left to draw after a piece
drawn-rest : (left size n : ℕ) (g h : Lcg) (p : List ℕ) → size ≡ min left 512 → left ≡ size + n → (p, h) ≡ drawn size g → drawn left g ≡ after p (drawn n h)
drawn-rest left size n g h p least sum both =
    ap (λ (k : ℕ). drawn k g) sum ∙ drawn-more size n g (whole_or_last left size n least sum) ∙ ap (λ (x : List ℕ × Lcg). after x.0 (drawn n x.1)) (sym both)

-- a piece of drawn bytes is written, and the rest is left to write
pub drawn_piece : (at end size : ℕ) (g h : Lcg) (p y z : List ℕ) → size ≡ min (end - at) 512 → at ≤ end → end ≤ length y → (p, h) ≡ fill_via_u32 pcg32 size g → z ≡ written y at p → with_drawn (at + size) end h z ≡ with_drawn at end g y
drawn_piece at end size g h p y z least low fits made is =
    piece_then at size (end - (at + size)) h p y z (drawn (end - at) g) (long_as_drawn size g h p made) (omega arith) is
    (drawn-rest (end - at) size (end - (at + size)) g h p least (omega arith) (made ∙ drawn-is size g))

-- all of the bytes are written
pub drawn_all : (at end : ℕ) (g : Lcg) (y : List ℕ) → end ≤ at → with_drawn at end g y ≡ (y, g)
drawn_all at end g y low =
    let none : end - at ≡ 0 = omega arith in
    ap (λ (k : ℕ). (written y at (drawn k g).0, (drawn k g).1)) none
    ∙ ap (λ (x : List ℕ × Lcg). (written y at x.0, x.1)) (drawn-none g)
    ∙ ap (λ (l : List ℕ). (l, g)) (written-none y at)

-- a piece of zeros is written, and the rest is left to write
pub zeros_piece : (at end size : ℕ) (p y z : List ℕ) → at + size ≤ end → end ≤ length y → p ≡ replicate size 0 → z ≡ written y at p → with_zeros (at + size) end z ≡ with_zeros at end y
zeros_piece at end size p y z low fits made is =
    let n : ℕ = end - (at + size) in
    let sum : size + n ≡ end - at = omega arith in
    let start : at + size ≡ at + length p = omega (arith, ap length made, length-replicate size (zero)) in
    ap (λ (l : List ℕ). written l (at + size) (replicate n 0)) is
    ∙ ap (λ (k : ℕ). written (written y at p) k (replicate n 0)) start
    ∙ written-written y at p (replicate n 0) (omega arith)
    ∙ ap (λ (l : List ℕ). written y at (l ++ replicate n 0)) made
    ∙ ap (written y at) (replicate-append-replicate size n 0 ∙ ap (λ (k : ℕ). replicate k 0) sum)

pub zeros_all : (at end : ℕ) (y : List ℕ) → end ≤ at → with_zeros at end y ≡ y
zeros_all at end y low =
    let none : end - at ≡ 0 = omega arith in
    ap (λ (k : ℕ). written y at (replicate k 0)) none ∙ written-none y at
