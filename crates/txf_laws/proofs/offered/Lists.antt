-- Lists of changes that hold nothing both.
use Rattle.std.proofs.Common.{◌≡◌, ℕ, ◌==◌, true, false, List, [], ◌∷◌, ◌++◌, map, refl, sym, ◌∙◌, ap, subst, inl, inr, ◌⊎◌}
use Rattle.std.proofs.lemmas.Bool.{ne_eqb, and_parts, and_from, true≢false, false_from_ne_true}
use Rattle.std.specs.List.{list_any}
use Rattle.ktm_world.specs.declared.change.Change.{Change}
use Rattle.ktm_world.specs.Changes.{changed, changed_all, applies, changes_apply, node_of}
use Rattle.ktm_world.specs.Holds.{Place, each_change, same_place, places_of, meet_in, dropped_directory, moved_directory}
use Rattle.ktm_world.specs.Tree.{Tree, IsWellFormed}
use Rattle.txf_laws.specs.Diamond.{AreApart, Follows, DiamondLaw}
use Rattle.txf_laws.specs.Elements.{IsIn}
use Rattle.txf_laws.specs.Footprint.{Footprint, footprint, AreFootprintsApart, Stays, ListsLaw}
use Rattle.txf_laws.proofs.offered.Diamonds.{IsIn-right, none-from, same_place-sym}

pub IsIn-left : {X : Type 0} (x : X) (xs ys : List X) → IsIn x xs → IsIn x (xs ++ ys)
IsIn-left x [] ys there = absurd there
IsIn-left x (y ∷ xs) ys (inl is) = inl is
IsIn-left x (y ∷ xs) ys (inr there) = inr (IsIn-left x xs ys there)

pub IsIn-cases : {X : Type 0} (x : X) (xs ys : List X) → IsIn x (xs ++ ys) → IsIn x xs ⊎ IsIn x ys
IsIn-cases x [] ys there = inr there
IsIn-cases x (y ∷ xs) ys (inl is) = inl (inl is)
IsIn-cases x (y ∷ xs) ys (inr there) = elim (IsIn-cases x xs ys there) [ inl left ↦ inl (inr left) | inr right ↦ inr right ]

pub IsIn-unmap : {X Y : Type 0} (f : X → Y) (y : Y) (xs : List X) → IsIn y (map f xs) → (x : X) × (f x ≡ y) × IsIn x xs
IsIn-unmap f y [] there = absurd there
IsIn-unmap f y (x ∷ xs) (inl is) = (x, is, inl refl)
IsIn-unmap f y (x ∷ xs) (inr there) = let rest = IsIn-unmap f y xs there in (rest.0, rest.1, inr rest.2)

pub IsIn-first : {X : Type 0} (xs : List X) → list_any (λ x. true) xs ≡ true → (x : X) × IsIn x xs
IsIn-first [] some = absurd (true≢false (sym some))
IsIn-first (x ∷ xs) some = (x, inl refl)

pub AreFootprintsApart-sym : (a b : Footprint) → AreFootprintsApart a b → AreFootprintsApart b a
AreFootprintsApart-sym a b apart = record {
  nodes = λ n there here. apart.nodes n here there;
  places = λ p q there here. same_place-sym q p (apart.places q p here there);
  left_stays = apart.right_stays;
  right_stays = apart.left_stays;
  moves = λ n m there here. apart.moves m n here there;
}

-- of the changes of a list the first, and the others
AreFootprintsApart-head : (a : Footprint) (tree : Tree) (c : Change) (cs : List Change) → AreFootprintsApart a (footprint tree (c ∷ cs)) → AreFootprintsApart a (footprint tree (c ∷ []))
AreFootprintsApart-head a tree c cs apart = record {
  nodes = λ n here there. apart.nodes n here (first n there);
  places = λ p q here there. apart.places p q here (one places_of q there);
  left_stays = λ n p here there. apart.left_stays n p here (one places_of p there);
  right_stays = λ n p there here. apart.right_stays n p (one dropped_directory n there) here;
  moves = λ n m here there. apart.moves n m here (one moved_directory m there);
}
  where
    first : (n : ℕ) → IsIn n (node_of c ∷ []) → IsIn n (map node_of (c ∷ cs))
    first n (inl is) = inl is
    first n (inr none) = absurd none

    one : {X : Type 0} (f : Tree → Change → List X) (x : X) → IsIn x (f tree c ++ []) → IsIn x (each_change f tree (c ∷ cs))
    one f x there = elim (IsIn-cases x (f tree c) [] there) [ inl here ↦ IsIn-left x (f tree c) _ here | inr none ↦ absurd none ]

AreFootprintsApart-tail : (a : Footprint) (tree : Tree) (c : Change) (cs : List Change) → AreFootprintsApart a (footprint tree (c ∷ cs)) → AreFootprintsApart a (footprint (changed tree c) cs)
AreFootprintsApart-tail a tree c cs apart = record {
  nodes = λ n here there. apart.nodes n here (inr there);
  places = λ p q here there. apart.places p q here (IsIn-right q (places_of tree c) _ there);
  left_stays = λ n p here there. apart.left_stays n p here (IsIn-right p (places_of tree c) _ there);
  right_stays = λ n p there here. apart.right_stays n p (IsIn-right n (dropped_directory tree c) _ there) here;
  moves = λ n m here there. apart.moves n m here (IsIn-right m (moved_directory tree c) _ there);
}

-- the feet of one change each
AreApart-from : (tree : Tree) (b c : Change) → AreFootprintsApart (footprint tree (b ∷ [])) (footprint tree (c ∷ [])) → AreApart tree b c
AreApart-from tree b c apart = record {
  nodes = λ same. apart.nodes (node_of b) (inl refl) (inl (sym same));
  places = none-from _ (places_of tree b) (λ p p_there. none-from (same_place p) (places_of tree c) (λ q q_there. apart.places p q (IsIn-left p _ [] p_there) (IsIn-left q _ [] q_there)));
  left_stays = stays (dropped_directory tree b) (places_of tree c) (λ n p n_there p_there. apart.left_stays n p (IsIn-left n _ [] n_there) (IsIn-left p _ [] p_there));
  right_stays = stays (dropped_directory tree c) (places_of tree b) (λ n p n_there p_there. apart.right_stays n p (IsIn-left n _ [] n_there) (IsIn-left p _ [] p_there));
  moves = false_from_ne_true _ (λ both.
      let parts = and_parts (list_any (λ n. true) (moved_directory tree b)) (list_any (λ n. true) (moved_directory tree c)) both in
      let n = IsIn-first (moved_directory tree b) parts.0 in let m = IsIn-first (moved_directory tree c) parts.1 in
      apart.moves n.0 m.0 (IsIn-left n.0 _ [] n.1) (IsIn-left m.0 _ [] m.1));
}
  where
    stays : (ns : List ℕ) (ps : List Place) → ((n : ℕ) (p : Place) → IsIn n ns → IsIn p ps → n ≡ p.directory → ⊥) → meet_in ns (map (λ p. p.directory) ps) ≡ false
    stays ns ps differ = none-from _ ns (λ n n_there. none-from (λ m. m == n) (map (λ p. p.directory) ps) (λ m m_there.
        let from = IsIn-unmap (λ (p : Place). p.directory) m ps m_there in ne_eqb m n (λ e. differ n from.0 n_there from.2 (sym e ∙ sym from.1))))

module _ (diamond : DiamondLaw) (formed : (tree : Tree) (c : Change) → IsWellFormed tree → applies tree c ≡ true → IsWellFormed (changed tree c)) where
  -- one change and a list
  record Pushed (tree : Tree) (b : Change) (cs : List Change) : Type 0 where
    applies : applies (changed_all tree cs) b ≡ true
    places : places_of (changed_all tree cs) b ≡ places_of tree b
    dropped : dropped_directory (changed_all tree cs) b ≡ dropped_directory tree b
    moved : moved_directory (changed_all tree cs) b ≡ moved_directory tree b
    all : changes_apply (changed tree b) cs ≡ true
    foot_all : footprint (changed tree b) cs ≡ footprint tree cs
    same : changed_all (changed tree b) cs ≡ changed (changed_all tree cs) b

  footprint-one : (tree : Tree) (b c : Change) → Follows tree b c → footprint (changed tree b) (c ∷ []) ≡ footprint tree (c ∷ [])
  footprint-one tree b c follows i = record { nodes = node_of c ∷ []; places = follows.places i ++ []; dropped = follows.dropped i ++ []; moved = follows.moved i ++ [] }

  footprint-cons : (tree tree' : Tree) (c : Change) (cs : List Change) → places_of tree' c ≡ places_of tree c → dropped_directory tree' c ≡ dropped_directory tree c
      → moved_directory tree' c ≡ moved_directory tree c → footprint (changed tree' c) cs ≡ footprint (changed tree c) cs → footprint tree' (c ∷ cs) ≡ footprint tree (c ∷ cs)
  footprint-cons tree tree' c cs places dropped moved rest i = record {
    nodes = node_of c ∷ map node_of cs;
    places = places i ++ (rest i).places;
    dropped = dropped i ++ (rest i).dropped;
    moved = moved i ++ (rest i).moved;
  }

  push : (cs : List Change) (tree : Tree) (b : Change) → IsWellFormed tree → applies tree b ≡ true → changes_apply tree cs ≡ true → AreFootprintsApart (footprint tree (b ∷ [])) (footprint tree cs) → Pushed tree b cs
  push [] tree b good is is_all apart = record { applies = is; places = refl; dropped = refl; moved = refl; all = refl; foot_all = refl; same = refl }
  push (c ∷ cs) tree b good is is_all apart =
      let parts = and_parts (applies tree c) (changes_apply (changed tree c) cs) is_all in
      let square = diamond tree b c good is parts.0 (AreApart-from tree b c (AreFootprintsApart-head (footprint tree (b ∷ [])) tree c cs apart)) in
      let foot_b = footprint-one tree c b square.1 in
      let ih = push cs (changed tree c) b (formed tree c good parts.0) square.1.applies parts.1
      (subst (λ f. AreFootprintsApart f (footprint (changed tree c) cs)) (sym foot_b) (AreFootprintsApart-tail (footprint tree (b ∷ [])) tree c cs apart)) in
      record {
        applies = ih.applies;
        places = ih.places ∙ square.1.places;
        dropped = ih.dropped ∙ square.1.dropped;
        moved = ih.moved ∙ square.1.moved;
        all = and_from _ _ square.0.applies (subst (λ t. changes_apply t cs ≡ true) (sym square.2) ih.all);
        foot_all = footprint-cons tree (changed tree b) c cs square.0.places square.0.dropped square.0.moved (ap (λ t. footprint t cs) square.2 ∙ ih.foot_all);
        same = ap (λ t. changed_all t cs) square.2 ∙ ih.same;
      }

  pub stays : (bs : List Change) (tree : Tree) (cs : List Change) → IsWellFormed tree → changes_apply tree bs ≡ true → changes_apply tree cs ≡ true → AreFootprintsApart (footprint tree bs) (footprint tree cs)
      → Stays tree bs cs × Stays tree cs bs × (changed_all (changed_all tree bs) cs ≡ changed_all (changed_all tree cs) bs)
  stays [] tree cs good is is' apart = (record { applies = is'; footprint = refl }, record { applies = refl; footprint = refl }, refl)
  stays (b ∷ bs) tree cs good is is' apart =
      let parts = and_parts (applies tree b) (changes_apply (changed tree b) bs) is in
      let flipped = AreFootprintsApart-sym (footprint tree (b ∷ bs)) (footprint tree cs) apart in
      let pushed = push cs tree b good parts.0 is' (AreFootprintsApart-sym (footprint tree cs) (footprint tree (b ∷ [])) (AreFootprintsApart-head (footprint tree cs) tree b bs flipped)) in
      let ih = stays bs (changed tree b) cs (formed tree b good parts.0) parts.1 pushed.all
      (subst (λ f. AreFootprintsApart (footprint (changed tree b) bs) f) (sym pushed.foot_all) (AreFootprintsApart-sym (footprint tree cs) (footprint (changed tree b) bs) (AreFootprintsApart-tail (footprint tree cs) tree b bs flipped))) in (
        record { applies = ih.0.applies; footprint = ih.0.footprint ∙ pushed.foot_all },
        record {
          applies = and_from _ _ pushed.applies (subst (λ t. changes_apply t bs ≡ true) pushed.same ih.1.applies);
          footprint = footprint-cons tree (changed_all tree cs) b bs pushed.places pushed.dropped pushed.moved (ap (λ t. footprint t bs) (sym pushed.same) ∙ ih.1.footprint);
        },
        ih.2 ∙ ap (λ t. changed_all t bs) pushed.same,
      )

  pub lists_law : ListsLaw
  lists_law tree bs cs = stays bs tree cs

pub apart-from-none : (tree : Tree) (cs : List Change) → AreFootprintsApart (footprint tree []) (footprint tree cs)
apart-from-none tree cs = record {
  nodes = λ n none. absurd none;
  places = λ p q none. absurd none;
  left_stays = λ n p none. absurd none;
  right_stays = λ n p there none. absurd none;
  moves = λ n m none. absurd none;
}
