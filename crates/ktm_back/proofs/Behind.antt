-- What is brought back by rising Id, one behind another.
use Rattle.std.proofs.Common.{◌≡◌, ℕ, suc, ◌+◌, ◌<◌, true, List, ◌∷◌, ◌++◌, length, get_or, drop, refl, sym, ◌∙◌, ap, subst, inl, add-one, drop-cons}
use Rattle.std.specs.List.{list_all}
use Rattle.ktm_base.specs.declared.id.Id.{Id}
use Rattle.ktm_world.specs.Durable.{is_before}
use Rattle.txf_laws.specs.Elements.{each_pair}
use Rattle.txf_laws.proofs.offered.Elements.{each_pair-across, list_all-from}

-- all that are before one of those that rise
pub behind : {Y : Type 0} (id_of : Y → Id) (ys there rest : List Y) (y : Y) → each_pair (λ a b. is_before (id_of a) (id_of b)) ys ≡ true → there ++ y ∷ rest ≡ ys → list_all (λ z. is_before (id_of z) (id_of y)) there ≡ true
behind id_of ys there rest y rise whole =
    list_all-from (λ z. is_before (id_of z) (id_of y)) there
    (λ z within. each_pair-across (λ a b. is_before (id_of a) (id_of b)) there (y ∷ rest) (subst (λ l. each_pair (λ a b. is_before (id_of a) (id_of b)) l ≡ true) (sym whole) rise) z y within (inl refl))

-- those that are left begin with this one
pub left-from : {X : Type 0} (xs : List X) (i : ℕ) (x d : X) → i < length xs → x ≡ get_or xs i d → drop i xs ≡ x ∷ drop (i + 1) xs
left-from xs i x d within is = drop-cons xs i d within ∙ ap (λ y. y ∷ drop (suc i) xs) (sym is) ∙ ap (λ j. x ∷ drop j xs) (sym (add-one i))
