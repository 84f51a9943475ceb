-- Ways of reading that find what is spelled, and only that.
use Rattle.std.proofs.Common.{◌≡◌, ℕ, Bool, true, List, [], ◌∷◌, ◌++◌, Option, Some, codes, refl, sym, ◌∙◌, ap, subst, append_assoc, nat_eq}
use Rattle.std.proofs.lemmas.List.{append-nil}
use Rattle.std.proofs.lemmas.Option.{some_pair_parts}
use Rattle.ktm_codec.proofs.WordLemmas.{after_word_is, after_word_again}
use Rattle.ktm_codec.specs.Word.{after_word}
use Rattle.ktm_codec.proofs.Steps.{bind_some, at_end_is}
use Rattle.ktm_script.specs.Reading.{behind_space, ◌&◌, whole}
use Rattle.ktm_script.specs.Spelling.{space}

-- a part ends where nothing follows it, or a space
abbrev pub ends_part : List ℕ → Bool
ends_part [] = true
ends_part (c ∷ cs) = nat_eq c space

-- what is read is one of the things that there are, and its spelling; each of them is read from its spelling
pub record Reads {X : Type 0} (Is : X → Type 0) (spell : X → List ℕ) (at : List ℕ → Option (X × List ℕ)) : Type 0 where
  pub found : (text : List ℕ) (x : X) (rest : List ℕ) → at text ≡ Some (x, rest) → Is x × (text ≡ spell x ++ rest)
  pub every : (x : X) (rest : List ℕ) → Is x → ends_part rest ≡ true → at (spell x ++ rest) ≡ Some (x, rest)

-- a part is read from its spelling with the space in front of it
pub spaced : {X : Type 0} {Is : X → Type 0} {spell : X → List ℕ} {at : List ℕ → Option (X × List ℕ)} → Reads Is spell at → Reads Is (λ x. space ∷ spell x) (behind_space at)
spaced {X} {Is} {spell} {at} reads = record {
  found = λ text x rest e. bind_some _ (after_word (codes " ") text) (x, rest) e (λ behind f g.
      let read = reads.found behind x rest g in
      (read.0, after_word_is (codes " ") text behind f ∙ ap (λ (xs : List ℕ). codes " " ++ xs) read.1));
  every = λ x rest is ends. rw (after_word_again (codes " ") (spell x ++ rest)) (reads.every x rest is ends);
}

-- one part behind another
pub both : {X Y : Type 0} {Is : X → Type 0} {Be : Y → Type 0} {spell : X → List ℕ} {write : Y → List ℕ} {at : List ℕ → Option (X × List ℕ)} {behind : List ℕ → Option (Y × List ℕ)}
    → Reads Is spell at → Reads Be (λ y. space ∷ write y) behind
    → Reads (λ (p : X × Y). Is p.0 × Be p.1) (λ p. spell p.0 ++ space ∷ write p.1) (at & behind)
both {X} {Y} {Is} {Be} {spell} {write} {at} {behind} first second = record {
  found = λ text p rest e. bind_some _ (at text) (p, rest) e (λ x f g. bind_some _ (behind x.1) (p, rest) g (λ y h k.
      let same = some_pair_parts (x.0, y.0) p y.1 rest k in
      let one = first.found text x.0 x.1 f in
      let two = second.found x.1 y.0 y.1 h in
      let P : (X × Y) → Type 0 = λ q. (Is q.0 × Be q.1) × (text ≡ spell q.0 ++ space ∷ write q.1 ++ rest) in
      subst P same.0 (
        (one.0, two.0),
        one.1 ∙ ap (λ (xs : List ℕ). spell x.0 ++ xs) (two.1 ∙ ap (λ (xs : List ℕ). space ∷ write y.0 ++ xs) same.1)
            ∙ sym (append_assoc (spell x.0) (space ∷ write y.0) rest),
      )));
  every = λ p rest is ends.
      rw (append_assoc (spell p.0) (space ∷ write p.1) rest, first.every p.0 (space ∷ write p.1 ++ rest) is.0 refl, second.every p.1 rest is.1 ends) refl;
}

-- all that stands there
pub whole_is : {X : Type 0} {Is : X → Type 0} {spell : X → List ℕ} {at : List ℕ → Option (X × List ℕ)} → Reads Is spell at
    → (text : List ℕ) (x : X) → whole at text ≡ Some x → Is x × (text ≡ spell x)
whole_is {X} {Is} {spell} {at} reads text x e = bind_some _ (at text) x e (λ y f end.
    let ends = at_end_is y.0 x y.1 end in
    let read = reads.found text y.0 y.1 f in
    let P : X → Type 0 = λ z. Is z × (text ≡ spell z) in
    subst P ends.1 (read.0, read.1 ∙ rw ends.0 (append-nil (spell y.0))))

pub whole_again : {X : Type 0} {Is : X → Type 0} {spell : X → List ℕ} {at : List ℕ → Option (X × List ℕ)} → Reads Is spell at
    → (x : X) → Is x → whole at (spell x) ≡ Some x
whole_again {X} {Is} {spell} {at} reads x is =
    let read : at (spell x) ≡ Some (x, []) = ap at (sym (append-nil (spell x))) ∙ reads.every x [] is refl in
    rw read refl
