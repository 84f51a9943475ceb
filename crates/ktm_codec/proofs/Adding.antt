-- How the forms of the grammar are added, one behind the other.
use Rattle.std.proofs.Common.{◌≡◌, ℕ, ◌+◌, ◌<◌, List, [], ◌∷◌, ◌++◌, length, get_or, take, refl, sym, ◌∙◌, ap, subst, arith, append_assoc}
use Rattle.std.proofs.lemmas.List.{append-nil, take_more, take_all}
use Rattle.ktm_base.specs.Grammar.{Then, Tagged, IsRow}
use Rattle.ktm_codec.specs.Spans.{Adds}

pub adds_then : (P Q : List ℕ → Type 0) (a b c : List ℕ) → Adds P a b → Adds Q b c → Adds (Then P Q) a c
adds_then P Q a b c first second = record {
  more = first.more ++ second.more;
  is = second.is ∙ ap (λ (l : List ℕ). l ++ second.more) first.is ∙ append_assoc a first.more second.more;
  form = (first.more, second.more, refl, first.form, second.form);
}

pub adds_tagged : (tag : ℕ) (P : List ℕ → Type 0) (a b c : List ℕ) → b ≡ a ++ tag ∷ [] → Adds P b c → Adds (Tagged tag P) a c
adds_tagged tag P a b c is rest = record {
  more = tag ∷ rest.more;
  is = rest.is ∙ ap (λ (l : List ℕ). l ++ rest.more) is ∙ append_assoc a (tag ∷ []) rest.more;
  form = (rest.more, refl, rest.form);
}

module _ {X : Type 0} (Item : X → List ℕ → Type 0) where
  pub row-push : (xs : List X) (x : X) (b c : List ℕ) → IsRow Item xs b → Item x c → IsRow Item (xs ++ x ∷ []) (b ++ c)
  row-push [] x b c row item = (c, [], ap (λ (l : List ℕ). l ++ c) row ∙ sym (append-nil c), item, refl)
  row-push (y ∷ xs) x b c row item =
      let (first, second, is, head, tail) = row in
      (first, second ++ c, ap (λ (l : List ℕ). l ++ c) is ∙ append_assoc first second c, head, row-push xs x second c tail item)

  module _ (Count : List ℕ → Type 0) (a : List ℕ) where
    pub adds_no_items : (b : List ℕ) → Adds Count a b → Adds (Then Count (IsRow Item [])) a b
    adds_no_items b count = adds_then Count (IsRow Item []) a b b count (record { more = []; is = sym (append-nil b); form = refl })

    pub adds_item : (xs : List X) (i : ℕ) (x : X) (b c : List ℕ) → i < length xs → x ≡ get_or xs i x
        → Adds (Then Count (IsRow Item (take i xs))) a b → Adds (Item x) b c → Adds (Then Count (IsRow Item (take (i + 1) xs))) a c
    adds_item xs i x b c inside at list item =
        let (first, second, is, count, row) = list.form in
        record {
          more = list.more ++ item.more;
          is = item.is ∙ ap (λ (l : List ℕ). l ++ item.more) list.is ∙ append_assoc a list.more item.more;
          form = (
            first,
            second ++ item.more,
            ap (λ (l : List ℕ). l ++ item.more) is ∙ append_assoc first second item.more,
            count,
            subst (λ (ys : List X). IsRow Item ys (second ++ item.more)) (sym (take_more xs i x inside ∙ ap (λ (y : X). take i xs ++ y ∷ []) (sym at))) (row-push (take i xs) x second item.more row item.form),
          );
        }

    pub adds_items : (xs : List X) (i : ℕ) (b : List ℕ) → length xs ≡ i → Adds (Then Count (IsRow Item (take i xs))) a b → Adds (Then Count (IsRow Item xs)) a b
    adds_items xs i b all list = subst (λ (ys : List X). Adds (Then Count (IsRow Item ys)) a b) (take_all i xs (omega arith)) list
