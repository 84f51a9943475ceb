-- What is read between quotation marks is spelled so, and what is spelled so is read.
use Rattle.std.proofs.Common.{◌≡◌, ℕ, true, false, List, [], ◌∷◌, ◌++◌, Some, refl, sym, ◌∙◌, ap, subst, inl, inr, arith, append_assoc, nat_eq}
use Rattle.std.proofs.lemmas.Bool.{cases_Bool, cases_eq}
use Rattle.std.proofs.lemmas.Bool.Decides.{nat_tests}
use Rattle.std.proofs.lemmas.List.{append-nil}
use Rattle.std.proofs.lemmas.Option.{some_pair_parts}
use Rattle.ktm_codec.specs.Quoted.{AreTextBytes, is_text_byte, quotation_mark, quoted, quoted_at, text_from}

no_mark : (c : ℕ) → is_text_byte c ≡ true → nat_eq c quotation_mark ≡ false
no_mark c h = grind (arith, nat_tests)

-- what was read behind the front
abbrev Behind : List ℕ → List ℕ → List ℕ → List ℕ → Type 0
Behind front text t rest = (more : List ℕ) × (t ≡ front ++ more) × AreTextBytes more × (text ≡ more ++ quotation_mark ∷ rest)

one_more : (front text t rest : List ℕ) (c : ℕ) → is_text_byte c ≡ true → Behind (front ++ c ∷ []) text t rest → Behind front (c ∷ text) t rest
one_more front text t rest c byte (more, is, bytes, behind) =
    (c ∷ more, is ∙ append_assoc front (c ∷ []) more, (byte, bytes), ap (λ (xs : List ℕ). c ∷ xs) behind)

text_is : (front text t rest : List ℕ) → text_from front text ≡ Some (t, rest) → Behind front text t rest
unfolding text_from
text_is front [] t rest e = cc
text_is front (c ∷ cs) t rest e = elim (cases_eq c quotation_mark) [
  | inl mark ↦
      let test : nat_eq c quotation_mark ≡ true = grind arith in
      let same = some_pair_parts front t cs rest (rw test at e) in
      ([], sym same.0 ∙ sym (append-nil front), tt, rw (mark, same.1) refl)
  | inr other ↦
      let test : nat_eq c quotation_mark ≡ false = grind arith in
      elim (cases_Bool (is_text_byte c)) [
        | inl byte ↦ one_more front cs t rest c byte (text_is (front ++ c ∷ []) cs t rest (rw (byte, test) at e))
        | inr bad ↦ cc (rw (bad, test) at e)
      ]
]

text_again : (front t rest : List ℕ) → AreTextBytes t → text_from front (t ++ quotation_mark ∷ rest) ≡ Some (front ++ t, rest)
unfolding text_from
text_again front [] rest h = rw (append-nil front) refl
text_again front (c ∷ cs) rest h =
    rw (h.0, no_mark c h.0) (text_again (front ++ c ∷ []) cs rest h.1 ∙ ap (λ (xs : List ℕ). Some (xs, rest)) (append_assoc front (c ∷ []) cs))

closed : (t more rest cs : List ℕ) → t ≡ more → cs ≡ more ++ quotation_mark ∷ rest → cs ≡ t ++ quotation_mark ∷ [] ++ rest
closed t more rest cs same e = e ∙ ap (λ (xs : List ℕ). xs ++ quotation_mark ∷ rest) (sym same) ∙ sym (append_assoc t (quotation_mark ∷ []) rest)

pub quoted_is : (text t rest : List ℕ) → quoted_at text ≡ Some (t, rest) → AreTextBytes t × (text ≡ quoted t ++ rest)
unfolding quoted_at
quoted_is [] t rest e = cc
quoted_is (c ∷ cs) t rest e = elim (cases_eq c quotation_mark) [
  | inl mark ↦
      let test : nat_eq c quotation_mark ≡ true = grind arith in
      let read = text_is [] cs t rest (rw test at e) in
      let behind = closed t read.0 rest cs read.1 read.3 in
      (subst AreTextBytes (sym read.1) read.2, ap (λ (b : ℕ). b ∷ cs) mark ∙ ap (λ (xs : List ℕ). quotation_mark ∷ xs) behind)
  | inr other ↦
      let test : nat_eq c quotation_mark ≡ false = grind arith in
      cc (rw test at e)
]

pub quoted_again : (t rest : List ℕ) → AreTextBytes t → quoted_at (quoted t ++ rest) ≡ Some (t, rest)
unfolding quoted_at
quoted_again t rest h = ap (λ (xs : List ℕ). text_from [] xs) (append_assoc t (quotation_mark ∷ []) rest) ∙ text_again [] t rest h
