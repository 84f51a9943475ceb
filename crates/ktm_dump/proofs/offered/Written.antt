-- Bytes that a sink took piece by piece, and a part of them.
use Rattle.std.proofs.Common.{ℕ, ◌+◌, ◌-◌, List, [], ◌++◌, length, take, drop, Option, refl, sym, ◌∙◌, ap, subst, append_assoc}
use Rattle.std.proofs.KnownBytes.{Appends-nil, Appends-trans}
use Rattle.std.proofs.lemmas.List.{take-append-drop, take_rest}
use Rattle.std.proofs.Math.Seq.{take-add}
use Rattle.std.specs.Io.KnownBytes.{Appends}
use Rattle.ktm_dump.specs.Written.{AppendsPart}

-- the next n bytes behind the first i
pub Appends-more : (a b c : Option (List ℕ)) (xs : List ℕ) (i n : ℕ) → Appends a b (take i xs) → Appends b c (take n (take (length xs - i) (drop i xs))) → Appends a c (take (i + n) xs)
Appends-more a b c xs i n h k =
    rw take-add (Appends-trans a b c (take i xs) (take n (drop i xs)) h (subst (λ (l : List ℕ). Appends b c (take n l)) (take_rest xs i) k))

pub AppendsPart-none : (o : Option (List ℕ)) (bytes : List ℕ) → AppendsPart o o bytes
AppendsPart-none o bytes = ([], bytes, refl, Appends-nil o)

-- a whole, and then a part of what is behind it
pub AppendsPart-then : (a b c : Option (List ℕ)) (xs ys : List ℕ) → Appends a b xs → AppendsPart b c ys → AppendsPart a c (xs ++ ys)
AppendsPart-then a b c xs ys whole (part, rest, split, took) = (xs ++ part, rest, ap (λ (l : List ℕ). xs ++ l) split ∙ sym (append_assoc xs part rest), Appends-trans a b c xs part whole took)

pub AppendsPart-more : (a b : Option (List ℕ)) (xs ys : List ℕ) → AppendsPart a b xs → AppendsPart a b (xs ++ ys)
AppendsPart-more a b xs ys (part, rest, split, took) = (part, rest ++ ys, ap (λ (l : List ℕ). l ++ ys) split ∙ append_assoc part rest ys, took)

-- the first bytes
pub AppendsPart-take : (a b : Option (List ℕ)) (n : ℕ) (xs : List ℕ) → Appends a b (take n xs) → AppendsPart a b xs
AppendsPart-take a b n xs took = (take n xs, drop n xs, sym (take-append-drop n xs), took)
