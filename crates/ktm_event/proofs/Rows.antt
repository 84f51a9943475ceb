-- Rows of items that are written at the end, one behind the other.
use Rattle.std.proofs.Common.{◌≡◌, ◌+◌, ◌<◌, ◌≤◌, ℕ, List, [], ◌∷◌, ◌++◌, length, take, get_or, refl, sym, ◌∙◌, ap, subst, arith, append_assoc, append-nil, length-append, get_or-append-add}
use Rattle.std.proofs.lemmas.List.{take_more, take_all, get_or_append_left}
use Rattle.std.specs.List.{All}
use Rattle.ktm_base.specs.Grammar.{IsRow}
use Rattle.ktm_codec.specs.Spans.{Adds}

module _ {X : Type 0} (Item : X → List ℕ → Type 0) where
  row-append : (xs ys : List X) (b c : List ℕ) → IsRow Item xs b → IsRow Item ys c → IsRow Item (xs ++ ys) (b ++ c)
  row-append [] ys b c front back = subst (λ (l : List ℕ). IsRow Item ys (l ++ c)) (sym front) back
  row-append (x ∷ xs) ys b c front back =
      let (first, second, is, item, rest) = front in
      (first, second ++ c, ap (λ (l : List ℕ). l ++ c) is ∙ append_assoc first second c, item, row-append xs ys second c rest back)

  pub adds_none : {a : List ℕ} → Adds (IsRow Item []) a a
  adds_none {a} = record { more = []; is = sym (append-nil a); form = refl }

  pub adds_one : (x : X) {a b : List ℕ} → Adds (Item x) a b → Adds (IsRow Item (x ∷ [])) a b
  adds_one x item = record { more = item.more; is = item.is; form = (item.more, [], sym (append-nil item.more), item.form, refl) }

  pub adds_row : (xs ys : List X) {a b c : List ℕ} → Adds (IsRow Item xs) a b → Adds (IsRow Item ys) b c → Adds (IsRow Item (xs ++ ys)) a c
  adds_row xs ys {a} front back = record {
    more = front.more ++ back.more;
    is = back.is ∙ ap (λ (l : List ℕ). l ++ back.more) front.is ∙ append_assoc a front.more back.more;
    form = row-append xs ys front.more back.more front.form back.form;
  }

  pub adds_more : (xs : List X) (i : ℕ) (x : X) {a b c : List ℕ} → i < length xs → x ≡ get_or xs i x
      → Adds (IsRow Item (take i xs)) a b → Adds (Item x) b c → Adds (IsRow Item (take (i + 1) xs)) a c
  adds_more xs i x {a} {b} {c} inside at row item =
      subst (λ (ys : List X). Adds (IsRow Item ys) a c) (sym (take_more xs i x inside ∙ ap (λ (y : X). take i xs ++ y ∷ []) (sym at)))
      (adds_row (take i xs) (x ∷ []) row (adds_one x item))

  pub adds_all : (xs : List X) {i : ℕ} {a b : List ℕ} → length xs ≤ i → Adds (IsRow Item (take i xs)) a b → Adds (IsRow Item xs) a b
  adds_all xs {i} {a} {b} all row = subst (λ (ys : List X). Adds (IsRow Item ys) a b) (take_all i xs all) row

pub each_of : {X : Type 0} (P : X → Type 0) (xs : List X) (i : ℕ) {x : X} → i < length xs → x ≡ get_or xs i x → All P xs → P x
each_of P xs i {x} inside at all = subst P (sym at) (all i x inside)

pub all-left : {X : Type 0} (P : X → Type 0) (xs ys : List X) → All P (xs ++ ys) → All P xs
all-left P xs ys all k d lt = subst P (get_or_append_left xs ys d k lt) (all k d (omega (arith, lt, length-append xs ys)))

pub all-right : {X : Type 0} (P : X → Type 0) (xs ys : List X) → All P (xs ++ ys) → All P ys
all-right P xs ys all k d lt = subst P (get_or-append-add xs ys k d) (all (length xs + k) d (omega (arith, lt, length-append xs ys)))
