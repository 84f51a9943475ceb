-- Texts that are put one behind another.
use Rattle.std.proofs.Common.{◌≡◌, ℕ, ◌+◌, ◌<◌, ◌≤◌, List, [], ◌∷◌, ◌++◌, Option, length, get_or, take, drop, flat_map, Result, sym, ◌∙◌, ap, subst, append_assoc, arith}
use Rattle.std.proofs.KnownBytes.{Appends-nil, Appends-trans}
use Rattle.std.proofs.lemmas.List.{append-nil, flat_map_more, take_more, take-append-drop}
use Rattle.std.proofs.lemmas.Grind.{flat_map-append}
use Rattle.std.specs.Io.KnownBytes.{Appends}
use Rattle.ktm_base.specs.Count.{Rose}
use Rattle.ktm_base.specs.declared.fault.Failed.{Failed}
use Rattle.ktm_dump.specs.Written.{AppendsPart, IsBroken, IsPut, Out, Puts, out}
use Rattle.ktm_dump.proofs.offered.Written.{AppendsPart-more, AppendsPart-then}

pub put_none : (o : Out) → IsPut o o []
put_none o = record { part = []; wrote = Appends-nil o.taken; rest = append-nil o.waits; later = omega arith }

pub put_then : (a b c : Out) (xs ys : List ℕ) → IsPut a b xs → IsPut b c ys → IsPut a c (xs ++ ys)
put_then a b c xs ys h k = record {
  part = h.part ++ k.part;
  wrote = Appends-trans a.taken b.taken c.taken h.part k.part h.wrote k.wrote;
  rest = sym (append_assoc a.waits xs ys) ∙ ap (λ (l : List ℕ). l ++ ys) h.rest ∙ append_assoc h.part b.waits ys ∙ ap (λ (l : List ℕ). h.part ++ l) k.rest
      ∙ sym (append_assoc h.part k.part c.waits);
  later = let first = h.later in let then = k.later in omega arith;
}

-- the sink failed at the second text
pub broken_then : (a b c : Out) (xs ys : List ℕ) → IsPut a b xs → IsBroken b c ys → IsBroken a c (xs ++ ys)
broken_then a b c xs ys h k = record {
  wrote = subst (λ (l : List ℕ). AppendsPart a.taken c.taken l)
      (sym (append_assoc h.part b.waits ys) ∙ ap (λ (l : List ℕ). l ++ ys) (sym h.rest) ∙ append_assoc a.waits xs ys)
      (AppendsPart-then a.taken b.taken c.taken h.part (b.waits ++ ys) h.wrote k.wrote);
  fault = let first = h.later in let then = k.fault in omega arith;
  later = let first = h.later in let then = k.later in omega arith;
}

-- the sink failed, and more would have come
pub broken_more : (a b : Out) (xs ys : List ℕ) → IsBroken a b xs → IsBroken a b (xs ++ ys)
broken_more a b xs ys h = record {
  wrote = subst (λ (l : List ℕ). AppendsPart a.taken b.taken l) (append_assoc a.waits xs ys) (AppendsPart-more a.taken b.taken (a.waits ++ xs) ys h.wrote);
  fault = h.fault;
  later = h.later;
}

-- ---- a piece for each item of a list

module _ {X : Type 0} (f : X → List ℕ) (xs : List X) (i : ℕ) (x : X) (here : x ≡ get_or xs i x) (within : i < length xs) where
  pieces : flat_map f (take (i + 1) xs) ≡ flat_map f (take i xs) ++ f x
  pieces = ap (flat_map f) (take_more xs i x within ∙ ap (λ (y : X). take i xs ++ y ∷ []) (sym here)) ∙ sym (flat_map_more f [] (take i xs) x)

  pub put_next : (a b c : Out) → IsPut a b (flat_map f (take i xs)) → IsPut b c (f x) → IsPut a c (flat_map f (take (i + 1) xs))
  put_next a b c h k = subst (λ (l : List ℕ). IsPut a c l) (sym pieces) (put_then a b c _ _ h k)

  pub broken_next : (a b c : Out) → IsPut a b (flat_map f (take i xs)) → IsBroken b c (f x) → IsBroken a c (flat_map f xs)
  broken_next a b c h k =
      subst (λ (l : List ℕ). IsBroken a c l)
      (ap (λ (l : List ℕ). l ++ flat_map f (drop (i + 1) xs)) (sym pieces) ∙ sym (flat_map-append f (take (i + 1) xs) (drop (i + 1) xs)) ∙ ap (flat_map f) (take-append-drop (i + 1) xs))
      (broken_more a c _ (flat_map f (drop (i + 1) xs)) (broken_then a b c _ _ h k))

-- ---- what waited was written, and then the text

module _ (old : Out) (mid now : Option (List ℕ)) (faults later : ℕ) (waited waits text : List ℕ) (same : waited ≡ old.waits) (flushed : Appends old.taken mid waited) (first : old.faults ≤ faults) where
  pub put_whole : waits ≡ [] → Appends mid now text → faults ≤ later → IsPut old (out now later waits) text
  put_whole none wrote then = record {
    part = waited ++ text;
    wrote = Appends-trans old.taken mid now waited text flushed wrote;
    rest = ap (λ (l : List ℕ). l ++ text) (sym same) ∙ sym (append-nil (waited ++ text)) ∙ ap (λ (l : List ℕ). (waited ++ text) ++ l) (sym none);
    later = omega (arith, first, then);
  }

  pub broken_whole : AppendsPart mid now text → Rose faults later → faults ≤ later → IsBroken old (out now later waits) text
  broken_whole wrote rose then = record {
    wrote = subst (λ (l : List ℕ). AppendsPart old.taken now (l ++ text)) same (AppendsPart-then old.taken mid now waited text flushed wrote);
    fault = omega (arith, first, rose);
    later = omega (arith, first, then);
  }

-- ---- nothing waited before the text

module _ (old new : Out) (text : List ℕ) (none : old.waits ≡ []) where
  pub broken_text : IsBroken old new text → AppendsPart old.taken new.taken text
  broken_text h = subst (λ (l : List ℕ). AppendsPart old.taken new.taken (l ++ text)) none h.wrote

  split : (h : IsPut old new text) → h.part ++ new.waits ≡ text
  split h = sym h.rest ∙ ap (λ (l : List ℕ). l ++ text) none

  -- and what waits after it is written, or a part of that
  pub flushed_text : (now : Option (List ℕ)) → IsPut old new text → Appends new.taken now new.waits → Appends old.taken now text
  flushed_text now h wrote = subst (λ (l : List ℕ). Appends old.taken now l) (split h) (Appends-trans old.taken new.taken now h.part new.waits h.wrote wrote)

  pub flushed_part : (now : Option (List ℕ)) → IsPut old new text → AppendsPart new.taken now new.waits → AppendsPart old.taken now text
  flushed_part now h wrote = subst (λ (l : List ℕ). AppendsPart old.taken now l) (split h) (AppendsPart-then old.taken new.taken now h.part new.waits h.wrote wrote)

-- ---- the same text, written otherwise

pub put_as : (a b : Out) (xs ys : List ℕ) → xs ≡ ys → IsPut a b xs → IsPut a b ys
put_as a b xs ys same h = subst (λ (l : List ℕ). IsPut a b l) same h

pub broken_as : (a b : Out) (xs ys : List ℕ) → xs ≡ ys → IsBroken a b xs → IsBroken a b ys
broken_as a b xs ys same h = subst (λ (l : List ℕ). IsBroken a b l) same h

pub puts_as : (a b : Out) (xs ys : List ℕ) (result : Result (Unit {0}) Failed) → xs ≡ ys → Puts a b xs result → Puts a b ys result
puts_as a b xs ys result same h = subst (λ (l : List ℕ). Puts a b l result) same h

-- ---- a piece for each item of a list that is left

module _ {X : Type 0} (f : X → List ℕ) (all text : List ℕ) where
  pub left_next : (a b c : Out) (x : X) (rest : List X) → text ++ flat_map f (x ∷ rest) ≡ all → IsPut a b text → IsPut b c (f x) → (more : List ℕ) × (more ++ flat_map f rest ≡ all) × IsPut a c more
  left_next a b c x rest is h k = (text ++ f x, append_assoc text (f x) (flat_map f rest) ∙ is, put_then a b c text (f x) h k)

  pub left_broken : (a b c : Out) (x : X) (rest : List X) → text ++ flat_map f (x ∷ rest) ≡ all → IsPut a b text → IsBroken b c (f x) → IsBroken a c all
  left_broken a b c x rest is h k =
      broken_as a c _ all (append_assoc text (f x) (flat_map f rest) ∙ is) (broken_more a c (text ++ f x) (flat_map f rest) (broken_then a b c text (f x) h k))

  pub left_none : (a b : Out) → text ++ [] ≡ all → IsPut a b text → IsPut a b all
  left_none a b is h = put_as a b text all (sym (append-nil text) ∙ is) h
