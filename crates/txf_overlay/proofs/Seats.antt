-- Lemmas on held places in their order.
use Rattle.std.proofs.Common.{◌≡◌, ℕ, true, false, is_some, nat_eq, List, Option, Some, None, drop, length, refl, sym, ap, ◌∙◌}
use Rattle.std.specs.List.{starts_with}
use Rattle.std.specs.Option.{option_map}
use Rattle.std.proofs.lemmas.Bool.{true≢false}
use Rattle.std.proofs.lemmas.Bool.Decides.{Decides-eqb}
use Rattle.std.proofs.lemmas.Slice.Eq.{starts_is}
use Rattle.ktm_links.specs.declared.list.Key.{Key}
use Rattle.ktm_links.specs.Mapped.{NamedItem, at, Begins, IsFirstOf, IsNoneOf, IsNotBelow}
use Rattle.ktm_links.proofs.offered.Names.{begins_between, begins_not_below}
use Rattle.txf_tree.specs.Places.{number_bytes}
use Rattle.ktm_links.proofs.offered.Comparing.{not_below_upto}
use Rattle.txf_overlay.specs.Kept.{seats_in}
use Rattle.txf_overlay.specs.Listing.{IsNextSeat, IsNoSeat}
use Rattle.txf_overlay.specs.Views.{seat_at}
use Rattle.txf_overlay.proofs.Keeping.{seat_at-under}

seat_at-at : (es : List (NamedItem (Option ℕ))) (q : List ℕ) (o : Option (Key × Option ℕ)) → at es q ≡ o → seat_at (seats_in es) q ≡ option_map (λ e. e.1) o
seat_at-at es q o is = seat_at-under es q ∙ ap (λ (o : Option (Key × Option ℕ)). option_map (λ e. e.1) o) is

held-at : (es : List (NamedItem (Option ℕ))) (q : List ℕ) (o : Option (Key × Option ℕ)) → at es q ≡ o → is_some (seat_at (seats_in es) q) ≡ true → is_some (at es q) ≡ true
held-at es q None is held = absurd (true≢false (sym held ∙ ap is_some (seat_at-at es q None is)))
held-at es q (Some e) is held = ap is_some is

pub no-seat : (es : List (NamedItem (Option ℕ))) (directory : ℕ) (from : List ℕ) → IsNoneOf (λ q. IsNotBelow q from) es → IsNoSeat (seats_in es) directory from
no-seat es directory from none q begins high = seat_at-at es q None (none q high)

-- the first held place is one of another directory
pub seats-passed : (es : List (NamedItem (Option ℕ))) (directory : ℕ) (from : List ℕ) (key : Key) → (f : IsFirstOf (λ q. IsNotBelow q from) es key)
    → Begins (number_bytes directory) from → (Begins (number_bytes directory) f.name → ⊥) → IsNoSeat (seats_in es) directory from
seats-passed es directory from key f from_begins other q begins high = go (at es q) refl
  where
    go : (o : Option (Key × Option ℕ)) → at es q ≡ o → seat_at (seats_in es) q ≡ None
    go None is = seat_at-at es q None is
    go (Some e) is =
        let above : IsNotBelow q f.name = f.first q high (ap is_some is) in
        let low : IsNotBelow from (number_bytes directory) = rw from_begins.is (begins_not_below (number_bytes directory) from_begins.after) in
        absurd (other (begins_between (number_bytes directory) begins.after f.name (not_below_upto f.name from (number_bytes directory) f.so low) (rw begins.is at above)))

pub next-seat : (es : List (NamedItem (Option ℕ))) (directory : ℕ) (from place : List ℕ) (node : Option ℕ) (key : Key) → (f : IsFirstOf (λ q. IsNotBelow q from) es key)
    → Begins (number_bytes directory) place → place ≡ f.name → node ≡ f.value → IsNextSeat (seats_in es) directory from place node
next-seat es directory from place node key f begins place_is node_is = record {
  there = seat_at-at es place (Some (key, node)) (ap (at es) place_is ∙ f.there ∙ ap (λ v. Some (key, v)) (sym node_is));
  inside = begins;
  high = rw place_is f.so;
  first = λ q high held. rw place_is (f.first q high (held-at es q (at es q) refl held));
}

-- the place begins with the number of the directory, or does not
pub begins-told : (directory : ℕ) (place : List ℕ) → starts_with nat_eq place (number_bytes directory) ≡ true → Begins (number_bytes directory) place
begins-told directory place starts = record {
  after = drop (length (number_bytes directory)) place;
  is = (starts_is Decides-eqb place (number_bytes directory) _ refl).0 starts;
}

pub begins-not : (directory : ℕ) (place : List ℕ) → starts_with nat_eq place (number_bytes directory) ≡ false → Begins (number_bytes directory) place → ⊥
begins-not directory place starts begins = true≢false (sym ((starts_is Decides-eqb place (number_bytes directory) _ refl).1 begins.after begins.is) ∙ starts)
