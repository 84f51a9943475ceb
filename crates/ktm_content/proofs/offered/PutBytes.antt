-- Each byte where bytes are put over others.
use Rattle.std.proofs.Common.{◌≡◌, ℕ, ◌+◌, ◌-◌, ◌<◌, ◌≤◌, max, List, [], ◌++◌, length, get_or, take, drop, replicate, refl, sym, ◌∙◌, ap, arith, inl, inr, length-take, length-drop, length-append}
use Rattle.std.specs.Prelude.{◌⊎◌}
use Rattle.std.proofs.lemmas.Bool.{cases_lt}
use Rattle.std.proofs.lemmas.List.{append-nil, drop_all, get_or-take, get_or-drop, get_or_append_left, get_or-append_right, get_or_past, get_or-replicate, length-replicate}
use Rattle.ktm_content.specs.Contents.{cut_to, put_over}

length-cut_to : (old : List ℕ) (size : ℕ) → length (cut_to old size) ≡ size
length-cut_to old size = omega (arith, length-append (take size old) (replicate (size - length old) 0), length-take size old, length-replicate {A = ℕ} (size - length old) 0)

pub length-put_over : (old : List ℕ) (at : ℕ) (bytes : List ℕ) → length (put_over old at bytes) ≡ max (length old) (at + length bytes)
length-put_over old at bytes =
    omega (arith, length-append (cut_to old at ++ bytes) (drop (at + length bytes) old), length-append (cut_to old at) bytes, length-cut_to old at, length-drop (at + length bytes) old)

zeros-at : (n i : ℕ) → get_or (replicate {A = ℕ} n 0) i 0 ≡ 0
zeros-at n i = elim (cases_lt i n) [ inl low ↦ get_or-replicate n i 0 0 low | inr past ↦ get_or_past (replicate {A = ℕ} n 0) i 0 (omega (arith, past, length-replicate {A = ℕ} n 0)) ]

get_or-cut_to : (old : List ℕ) (size k : ℕ) → k < size → get_or (cut_to old size) k 0 ≡ get_or old k 0
get_or-cut_to old size k low =
    elim (cases_lt k (length old)) [
      | inl there ↦ get_or_append_left (take size old) (replicate (size - length old) 0) 0 k (omega (arith, length-take size old)) ∙ get_or-take size old k 0 low
      | inr past ↦ get_or-append_right (take size old) (replicate (size - length old) 0) (length (take size old)) k 0 refl (omega (arith, length-take size old))
          ∙ zeros-at (size - length old) (k - length (take size old))
          ∙ sym (get_or_past old k 0 past)
    ]

module _ (old : List ℕ) (at : ℕ) (bytes : List ℕ) where
  front : (k : ℕ) → k < at + length bytes → get_or (put_over old at bytes) k 0 ≡ get_or (cut_to old at ++ bytes) k 0
  front k low = get_or_append_left (cut_to old at ++ bytes) (drop (at + length bytes) old) 0 k (omega (arith, low, length-append (cut_to old at) bytes, length-cut_to old at))

  -- a byte of those that are put
  pub put-inside : (k : ℕ) → at ≤ k → k < at + length bytes → get_or (put_over old at bytes) k 0 ≡ get_or bytes (k - at) 0
  put-inside k from below = front k below ∙ get_or-append_right (cut_to old at) bytes at k 0 (length-cut_to old at) from

  -- a byte of the others
  pub put-outside : (k : ℕ) → (k < at) ⊎ (at + length bytes ≤ k) → get_or (put_over old at bytes) k 0 ≡ get_or old k 0
  put-outside k out = elim out [
    | inl before ↦ front k (omega (arith, before)) ∙ get_or_append_left (cut_to old at) bytes 0 k (omega (arith, before, length-cut_to old at)) ∙ get_or-cut_to old at k before
    | inr behind ↦ get_or-append_right (cut_to old at ++ bytes) (drop (at + length bytes) old) (at + length bytes) k 0 (omega (arith, length-append (cut_to old at) bytes, length-cut_to old at)) behind
        ∙ get_or-drop (at + length bytes) old (k - (at + length bytes)) 0
        ∙ ap (λ n. get_or old n 0) (omega (arith, behind))
  ]

-- no bytes put behind others make them longer
pub put-none : (old : List ℕ) (size : ℕ) → length old < size → put_over old size [] ≡ cut_to old size
put-none old size longer =
    ap (λ (l : List ℕ). cut_to old size ++ [] ++ l) (drop_all (size + 0) old (omega (arith, longer)))
    ∙ append-nil (cut_to old size ++ [])
    ∙ append-nil (cut_to old size)
