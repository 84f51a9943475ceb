-- Some transaction other than the caller's, of which something is so.
use Rattle.std.proofs.Common.{◌≡◌, ℕ, ◌==◌, ◌&&◌, ◌||◌, Bool, true, false, not, List, [], ◌∷◌, Option, sym, ap, ◌∙◌, inl, inr}
use Rattle.std.specs.List.{list_any}
use Rattle.std.proofs.lemmas.Bool.{and_from, and_parts, or_cases, or_left, or_right, not-true}
use Rattle.ktm_base.specs.declared.id.Id.{Id}
use Rattle.ktm_world.specs.Holds.{Act, Holds, directories_of, directory_dropped, is_in, is_move_of_directory, is_place_in, meets, nodes_changed, places_changed}
use Rattle.ktm_world.specs.Transactions.{same_id, is_of}
use Rattle.txf_opens.proofs.Lists.{any_same, some_of}
use Rattle.txf_reserve.specs.Checks.{is_number_held}
use Rattle.txf_reserve.specs.ReserveState.{numbers_of, IsSameHold, NumberHeld}
use Rattle.txf_reserve.proofs.Holding.{both_ways, numbers-any}
use Rattle.txf_reserve.proofs.PairNames.{id_self, same_ids}

module _ (who : Option Id) where
  -- a transaction other than the caller's of which this is so
  pub record SomeOther (f : Id → Bool) : Type 0 where
    pub id : Id
    pub other : is_of id who ≡ false
    pub so : f id ≡ true

  -- the test is whether there is one
  pub record IsSomeAnd (b : Bool) (f : Id → Bool) : Type 0 where
    pub to : b ≡ true → SomeOther f
    pub from : SomeOther f → b ≡ true

  pub tells_one : (a b : Bool) (f : Id → Bool) → IsSomeAnd a f → IsSomeAnd b f → a ≡ b
  tells_one a b f left right = both_ways a b (λ so. right.from (left.to so)) (λ so. left.from (right.to so))

  pub tells_same : (b : Bool) (f g : Id → Bool) → ((id : Id) → f id ≡ g id) → IsSomeAnd b f → IsSomeAnd b g
  tells_same b f g same tells = record {
    to = λ so. let s = tells.to so in record { id = s.id; other = s.other; so = sym (same s.id) ∙ s.so };
    from = λ s. tells.from (record { id = s.id; other = s.other; so = same s.id ∙ s.so });
  }

  pub tells_or : (a b : Bool) (f g : Id → Bool) → IsSomeAnd a f → IsSomeAnd b g → IsSomeAnd (a || b) (λ id. f id || g id)
  tells_or a b f g left right = record {
    to = λ so. elim (or_cases a b so) [
      | inl first ↦ let s = left.to first in record { id = s.id; other = s.other; so = or_left (f s.id) (g s.id) s.so }
      | inr second ↦ let s = right.to second in record { id = s.id; other = s.other; so = or_right (f s.id) (g s.id) s.so }
    ];
    from = λ s. elim (or_cases (f s.id) (g s.id) s.so) [
      | inl first ↦ or_left a b (left.from (record { id = s.id; other = s.other; so = first }))
      | inr second ↦ or_right a b (right.from (record { id = s.id; other = s.other; so = second }))
    ];
  }

  pub tells_and : (c b : Bool) (f : Id → Bool) → IsSomeAnd b f → IsSomeAnd (c && b) (λ id. c && f id)
  tells_and true b f tells = tells
  tells_and false b f tells = record { to = λ so. absurd (cc); from = λ s. let so = s.so in absurd (cc) }

  pub tells_any : {X : Type 0} (F : X → Bool) (f : X → Id → Bool) → ((x : X) → IsSomeAnd (F x) (f x)) → (xs : List X) → IsSomeAnd (list_any F xs) (λ id. list_any (λ x. f x id) xs)
  tells_any F f each [] = record { to = λ so. absurd (cc); from = λ s. let so = s.so in absurd (cc) }
  tells_any F f each (x ∷ xs) = tells_or (F x) (list_any F xs) (f x) (λ id. list_any (λ x. f x id) xs) (each x) (tells_any F f each xs)

  -- of things that transactions hold
  pub tells_held : {X : Type 0} (t : X → Id) (p : X → Bool) (xs : List X) → IsSomeAnd (list_any (λ x. p x && not (is_of (t x) who)) xs) (λ id. list_any (λ x. same_id (t x) id && p x) xs)
  tells_held t p xs = record {
    to = λ any.
        let some = some_of (λ x. p x && not (is_of (t x) who)) xs any in
        let parts = and_parts (p some.one) (not (is_of (t some.one) who)) some.so in
        record {
          id = t some.one;
          other = not-true (is_of (t some.one) who) parts.1;
          so = some.among (λ x. same_id (t x) (t some.one) && p x) (and_from (same_id (t some.one) (t some.one)) (p some.one) (id_self (t some.one)) parts.0);
        };
    from = λ s.
        let some = some_of (λ x. same_id (t x) s.id && p x) xs s.so in
        let parts = and_parts (same_id (t some.one) s.id) (p some.one) some.so in
        some.among (λ x. p x && not (is_of (t x) who))
        (and_from (p some.one) (not (is_of (t some.one) who)) parts.1 (ap not (ap (λ i. is_of i who) (same_ids (t some.one) s.id parts.0) ∙ s.other)));
  }

  pub tells_number : (held : List NumberHeld) (n : ℕ) → IsSomeAnd (is_number_held who held n) (λ id. is_in (numbers_of held id) n)
  tells_number held n =
      tells_same (is_number_held who held n) (λ id. list_any (λ h. same_id h.transaction id && h.number == n) held) (λ id. is_in (numbers_of held id) n)
      (λ id. sym (numbers-any held id n)) (tells_held (λ (h : NumberHeld). h.transaction) (λ h. h.number == n) held)

  -- a list that has each of them tells too
  pub tells_list : (f : Id → Bool) (ids : List Id) → ((id : Id) → f id ≡ true → list_any (λ i. same_id i id) ids ≡ true) → IsSomeAnd (list_any (λ id. not (is_of id who) && f id) ids) f
  tells_list f ids among = record {
    to = λ any.
        let some = some_of (λ id. not (is_of id who) && f id) ids any in
        let parts = and_parts (not (is_of some.one who)) (f some.one) some.so in
        record { id = some.one; other = not-true (is_of some.one who) parts.0; so = parts.1 };
    from = λ s.
        let some = some_of (λ i. same_id i s.id) ids (among s.id s.so) in
        let is : some.one ≡ s.id = same_ids some.one s.id some.so in
        some.among (λ id. not (is_of id who) && f id)
        (and_from (not (is_of some.one who)) (f some.one) (ap not (ap (λ i. is_of i who) is ∙ s.other)) (ap f is ∙ s.so));
  }

-- ---- what is the same to a call

pub meets-same : (a b : Holds) (act : Act) → IsSameHold a b → meets a act ≡ meets b act
unfolding meets
meets-same a b act same =
    ap (λ x. (((x || list_any (is_place_in a.places) (places_changed act)) || list_any (is_in a.dropped) (directories_of (places_changed act))) || list_any (is_in a.uses) (directory_dropped act)) || (is_move_of_directory act && a.moves))
    (any_same (is_in a.nodes) (is_in b.nodes) same.nodes (nodes_changed act))
    ∙ ap (λ x. (((list_any (is_in b.nodes) (nodes_changed act) || x) || list_any (is_in a.dropped) (directories_of (places_changed act))) || list_any (is_in a.uses) (directory_dropped act)) || (is_move_of_directory act && a.moves))
    (any_same (is_place_in a.places) (is_place_in b.places) same.places (places_changed act))
    ∙ ap (λ x. (((list_any (is_in b.nodes) (nodes_changed act) || list_any (is_place_in b.places) (places_changed act)) || x) || list_any (is_in a.uses) (directory_dropped act)) || (is_move_of_directory act && a.moves))
    (any_same (is_in a.dropped) (is_in b.dropped) same.dropped (directories_of (places_changed act)))
    ∙ ap (λ x. (((list_any (is_in b.nodes) (nodes_changed act) || list_any (is_place_in b.places) (places_changed act)) || list_any (is_in b.dropped) (directories_of (places_changed act))) || x) || (is_move_of_directory act && a.moves))
    (any_same (is_in a.uses) (is_in b.uses) same.uses (directory_dropped act))
    ∙ ap (λ x. (((list_any (is_in b.nodes) (nodes_changed act) || list_any (is_place_in b.places) (places_changed act)) || list_any (is_in b.dropped) (directories_of (places_changed act))) || list_any (is_in b.uses) (directory_dropped act)) || (is_move_of_directory act && x))
    same.moves
