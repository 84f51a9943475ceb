-- Lemmas on what some other transaction holds.
use Rattle.std.proofs.Common.{◌≡◌, ℕ, ◌==◌, ◌&&◌, ◌||◌, Bool, true, false, eqb, List, [], ◌∷◌, ◌++◌, map, Option, Some, None, is_some, refl, sym, ap, ◌∙◌, subst, inl, inr}
use Rattle.std.specs.List.{list_any, flat_map}
use Rattle.std.proofs.Math.Bool.{and-true}
use Rattle.std.proofs.lemmas.Bool.{cases_Bool, and_from, and_parts, or_from, or_left, or_parts}
use Rattle.std.proofs.lemmas.List.{append-nil}
use Rattle.std.proofs.lemmas.List.Folds.{list_any-append}
use Rattle.ktm_base.specs.declared.id.Id.{Id}
use Rattle.ktm_world.specs.declared.change.Change.{Change}
use Rattle.ktm_world.specs.Changes.{node_of}
use Rattle.ktm_world.specs.Conflicts.{changes_outdated, conflicts, holds_now, meets_other, opener, overwrites_opened, same_group, touches_plain_writer, users, writes, written_by}
use Rattle.ktm_world.specs.Files.{FilesNow, OpenFile, OwnChanges, own_changes}
use Rattle.ktm_world.specs.Holds.{Act, Holds, Place, directories_of, directory_dropped, file_overwritten, file_touched, holds_by, is_in, is_move_of_directory, is_place_in, meets, nodes_changed, places_changed, same_place}
use Rattle.ktm_world.specs.Transactions.{same_id, is_of}
use Rattle.txf_opens.specs.OpensState.{is_other_writer}
use Rattle.txf_opens.proofs.Bytes.{is_of-group}
use Rattle.txf_opens.proofs.Writing.{other_from, other_to}
use Rattle.txf_reserve.specs.Acts.{listed, listed_place}
use Rattle.txf_reserve.specs.Checks.{holders, holds_with, is_conflict, is_number_held, meets_another, number_holders, overwrites_transacted, place_holders, touches_plain}
use Rattle.txf_reserve.specs.Parts.{is_node_met, is_other_among, is_place_held, is_place_met, meets_by, meets_parts, ArePartsOf}
use Rattle.txf_reserve.specs.ReserveState.{names_of, numbers_of, IsSameHold, Keeps, NumberHeld, PlaceHeld, ReserveState}
use Rattle.txf_reserve.specs.declared.act.Parts.{Parts}
use Rattle.txf_reserve.proofs.Holding.{names-any, numbers-any}
use Rattle.txf_opens.proofs.Lists.{any-filter, any-map, any_false, any_or, any_same, none_of, some_of}
use Rattle.txf_reserve.proofs.PairNames.{id_self, own_is}
use Rattle.txf_reserve.proofs.offered.SomeOther.{meets-same, tells_and, tells_any, tells_held, tells_list, tells_number, tells_one, tells_or, tells_same, IsSomeAnd}

-- ---- the files that a transaction has open for writing
written-any : (opens : List OpenFile) (id : Id) (n : ℕ) → is_in (written_by opens id) n ≡ list_any (λ o. (is_of id o.transaction && writes o.access) && o.node == n) opens
written-any opens id n =
    any-map (λ m. m == n) (λ (o : OpenFile). o.node) _ ∙ any-filter (λ (o : OpenFile). o.node == n) (λ o. is_of id o.transaction && writes o.access) opens

is_of-self : (id : Id) (who : Option Id) → who ≡ Some id → is_of id who ≡ true
is_of-self id who is = ap (is_of id) is ∙ id_self id

some_group : (g : Option Id) → is_some g ≡ true → (id : Id) × (g ≡ Some id)
some_group None some = absurd (cc)
some_group (Some id) some = (id, refl)

module _ (who : Option Id) where
  tells_place : (held : List PlaceHeld) (p : Place) → IsSomeAnd who (is_place_held who held p) (λ id. is_place_in (names_of held id) p)
  tells_place held p =
      tells_same who (is_place_held who held p) (λ id. list_any (λ h. same_id h.transaction id && same_place p h.place) held) (λ id. is_place_in (names_of held id) p)
      (λ id. sym (names-any held id p)) (tells_held who (λ (h : PlaceHeld). h.transaction) (λ h. same_place p h.place) held)

  tells_among : (ids : List Id) → IsSomeAnd who (is_other_among who ids) (λ id. list_any (λ i. same_id i id) ids)
  tells_among ids =
      tells_same who (is_other_among who ids) (λ id. list_any (λ i. same_id i id && true) ids) (λ id. list_any (λ i. same_id i id) ids)
      (λ id. any_same (λ i. same_id i id && true) (λ i. same_id i id) (λ i. and-true (same_id i id)) ids) (tells_held who (λ i. i) (λ i. true) ids)

  tells_writer : (opens : List OpenFile) (n : ℕ) → IsSomeAnd who (list_any (is_other_writer who n) opens) (λ id. is_in (written_by opens id) n)
  tells_writer opens n = record {
    to = λ any.
        let some = some_of (is_other_writer who n) opens any in
        let is = other_from who n some.one some.so in
        let own = some_group some.one.transaction is.transacted in
        record {
          id = own.0;
          other = is_of-group own.0 who ∙ ap (λ g. same_group g who) (sym own.1) ∙ is.other;
          so =
              written-any opens own.0 n
              ∙ some.among (λ o. (is_of own.0 o.transaction && writes o.access) && o.node == n)
              (and_from (is_of own.0 some.one.transaction && writes some.one.access) (eqb some.one.node n)
              (and_from (is_of own.0 some.one.transaction) (writes some.one.access) (is_of-self own.0 some.one.transaction own.1) is.writes) is.on);
        };
    from = λ s.
        let some = some_of (λ o. (is_of s.id o.transaction && writes o.access) && o.node == n) opens (sym (written-any opens s.id n) ∙ s.so) in
        let last = and_parts (is_of s.id some.one.transaction && writes some.one.access) (eqb some.one.node n) some.so in
        let first = and_parts (is_of s.id some.one.transaction) (writes some.one.access) last.0 in
        let own = own_is s.id some.one.transaction first.0 in
        some.among (is_other_writer who n)
        (other_to who n some.one (record {
          transacted = ap is_some own;
          other = ap (λ g. same_group g who) own ∙ sym (is_of-group s.id who) ∙ s.other;
          writes = first.1;
          on = last.1;
        }));
  }

  -- ---- what a call meets
  module _ (state : ReserveState) (opens : List OpenFile) where
    tells_node : (n : ℕ) → IsSomeAnd who (is_node_met state opens who n) (λ id. is_in (holds_with state opens id).nodes n)
    tells_node n =
        tells_same who (is_node_met state opens who n) (λ id. is_in (numbers_of state.nodes id) n || is_in (written_by opens id) n) (λ id. is_in (holds_with state opens id).nodes n)
        (λ id. sym (list_any-append (λ m. m == n) (numbers_of state.nodes id) (written_by opens id)))
        (tells_or who (is_number_held who state.nodes n) (list_any (is_other_writer who n) opens) (λ id. is_in (numbers_of state.nodes id) n) (λ id. is_in (written_by opens id) n)
        (tells_number who state.nodes n) (tells_writer opens n))

    tells_meets : (act : Act) → IsSomeAnd who (meets_by state opens who act) (λ id. meets (holds_with state opens id) act)
    unfolding meets
    tells_meets act =
        let nodes = tells_any who (is_node_met state opens who) (λ n id. is_in (holds_with state opens id).nodes n) tells_node (nodes_changed act) in
        let places = tells_any who (is_place_held who state.places) (λ p id. is_place_in (names_of state.places id) p) (tells_place state.places) (places_changed act) in
        let entered = tells_any who (is_number_held who state.dropped) (λ n id. is_in (numbers_of state.dropped id) n) (tells_number who state.dropped) (directories_of (places_changed act)) in
        let used = tells_any who (is_number_held who state.uses) (λ n id. is_in (numbers_of state.uses id) n) (tells_number who state.uses) (directory_dropped act) in
        let moved = tells_and who (is_move_of_directory act) (is_other_among who state.moves) (λ id. list_any (λ i. same_id i id) state.moves) (tells_among state.moves) in
        tells_or who _ _ _ _ (tells_or who _ _ _ _ (tells_or who _ _ _ _ (tells_or who _ _ _ _ nodes places) entered) used) moved

-- ---- nothing held is not met
-- nothing is held
record HoldsNothing (h : Holds) : Type 0 where
  nodes : (n : ℕ) → is_in h.nodes n ≡ false
  places : (p : Place) → is_place_in h.places p ≡ false
  uses : (n : ℕ) → is_in h.uses n ≡ false
  dropped : (n : ℕ) → is_in h.dropped n ≡ false
  moves : h.moves ≡ false

pub and_false : (a b : Bool) → b ≡ false → (a && b) ≡ false
and_false true b is = is
and_false false b is = refl

meets-nothing : (h : Holds) (act : Act) → HoldsNothing h → meets h act ≡ false
unfolding meets
meets-nothing h act none =
    or_from _ _
    (or_from _ _
    (or_from _ _
    (or_from _ _ (any_false (is_in h.nodes) none.nodes (nodes_changed act)) (any_false (is_place_in h.places) none.places (places_changed act)))
    (any_false (is_in h.dropped) none.dropped (directories_of (places_changed act))))
    (any_false (is_in h.uses) none.uses (directory_dropped act)))
    (and_false (is_move_of_directory act) h.moves none.moves)

-- ---- who holds something is among the holders
append_none : {X : Type 0} (f : X → Bool) (xs ys : List X) → list_any f (xs ++ ys) ≡ false → (list_any f xs ≡ false) × (list_any f ys ≡ false)
append_none f xs ys none = or_parts (list_any f xs) (list_any f ys) (sym (list_any-append f xs ys) ∙ none)

and_none : {X : Type 0} (f g : X → Bool) (xs : List X) → list_any f xs ≡ false → list_any (λ x. f x && g x) xs ≡ false
and_none f g xs none =
    none_of (λ x. f x && g x) xs (λ some.
    let yes = some.among f (and_parts (f some.one) (g some.one) some.so).0 in
    absurd (cc))

numbers-none : (held : List NumberHeld) (id : Id) → list_any (λ i. same_id i id) (number_holders held) ≡ false → (n : ℕ) → is_in (numbers_of held id) n ≡ false
numbers-none held id none n =
    numbers-any held id n
    ∙ and_none (λ (h : NumberHeld). same_id h.transaction id) (λ h. h.number == n) held (sym (any-map (λ i. same_id i id) (λ (h : NumberHeld). h.transaction) held) ∙ none)

names-none : (held : List PlaceHeld) (id : Id) → list_any (λ i. same_id i id) (place_holders held) ≡ false → (p : Place) → is_place_in (names_of held id) p ≡ false
names-none held id none p =
    names-any held id p
    ∙ and_none (λ (h : PlaceHeld). same_id h.transaction id) (λ h. same_place p h.place) held (sym (any-map (λ i. same_id i id) (λ (h : PlaceHeld). h.transaction) held) ∙ none)

opener-own : (o : OpenFile) (id : Id) → o.transaction ≡ Some id → list_any (λ i. same_id i id) (opener o) ≡ true
opener-own o id is = rw is (or_left (same_id id id) false (id_self id))

opened_by : (opens : List OpenFile) (id : Id) → list_any (λ i. same_id i id) (flat_map opener opens) ≡ list_any (λ o. list_any (λ i. same_id i id) (opener o)) opens
opened_by [] id = refl
opened_by (o ∷ os) id =
    list_any-append (λ i. same_id i id) (opener o) (flat_map opener os)
    ∙ ap (λ b. list_any (λ i. same_id i id) (opener o) || b) (opened_by os id)

written-none : (opens : List OpenFile) (id : Id) → list_any (λ i. same_id i id) (flat_map opener opens) ≡ false → (n : ℕ) → is_in (written_by opens id) n ≡ false
written-none opens id none n =
    written-any opens id n
    ∙ none_of (λ o. (is_of id o.transaction && writes o.access) && o.node == n) opens (λ some.
    let first = and_parts (is_of id some.one.transaction && writes some.one.access) (eqb some.one.node n) some.so in
    let own = own_is id some.one.transaction (and_parts (is_of id some.one.transaction) (writes some.one.access) first.0).0 in
    let yes = opened_by opens id ∙ some.among (λ o. list_any (λ i. same_id i id) (opener o)) (opener-own some.one id own) in
    absurd (cc))

in_both : (a b : List ℕ) (n : ℕ) → is_in a n ≡ false → is_in b n ≡ false → is_in (a ++ b) n ≡ false
in_both a b n left right = list_any-append (λ m. m == n) a b ∙ or_from (is_in a n) (is_in b n) left right

pub in_holders : (state : ReserveState) (opens : List OpenFile) (act : Act) (id : Id) → meets (holds_with state opens id) act ≡ true → list_any (λ i. same_id i id) (holders state opens) ≡ true
in_holders state opens act id met =
    elim (cases_Bool (list_any (λ i. same_id i id) (holders state opens))) [
      | inl there ↦ there
      | inr none ↦
          let f : Id → Bool = λ i. same_id i id in
          let nodes = number_holders state.nodes in
          let places = place_holders state.places in
          let uses = number_holders state.uses in
          let dropped = number_holders state.dropped in
          let opened = append_none f (nodes ++ places ++ uses ++ dropped ++ state.moves) (flat_map opener opens) none in
          let moves = append_none f (nodes ++ places ++ uses ++ dropped) state.moves opened.0 in
          let drops = append_none f (nodes ++ places ++ uses) dropped moves.0 in
          let used = append_none f (nodes ++ places) uses drops.0 in
          let first = append_none f nodes places used.0 in
          let nothing = meets-nothing (holds_with state opens id) act (record {
            nodes = λ n. in_both (numbers_of state.nodes id) (written_by opens id) n (numbers-none state.nodes id first.0 n) (written-none opens id opened.1 n);
            places = names-none state.places id first.1;
            uses = numbers-none state.uses id used.1;
            dropped = numbers-none state.dropped id drops.1;
            moves = moves.1;
          }) in
          absurd (cc)
    ]

-- the parts of a call meet what the call meets
pub meets_by-another : (state : ReserveState) (opens : List OpenFile) (who : Option Id) (act : Act) → meets_by state opens who act ≡ meets_another state opens who act
meets_by-another state opens who act =
    tells_one who (meets_by state opens who act) (meets_another state opens who act) (λ id. meets (holds_with state opens id) act) (tells_meets who state opens act)
    (tells_list who (λ id. meets (holds_with state opens id) act) (holders state opens) (in_holders state opens act))

regroup : (n a b c d : Bool) → ((n || (a || b)) || (c || d)) ≡ ((n || (a || c)) || (b || d))
regroup true a b c d = refl
regroup false true b c d = refl
regroup false false true true d = refl
regroup false false true false d = refl
regroup false false false c d = refl

pub meets_parts-by : (state : ReserveState) (opens : List OpenFile) (who : Option Id) (act : Act) (parts : Parts) → ArePartsOf act parts → meets_parts state opens who parts ≡ meets_by state opens who act
meets_parts-by state opens who act parts are =
    let node = list_any (is_node_met state opens who) (listed parts.node) in
    let held = list_any (is_place_held who state.places) in
    let into : Place → Bool = λ p. is_number_held who state.dropped p.directory in
    let from = listed_place parts.from in
    let to = listed_place parts.to in
    let used = list_any (is_number_held who state.uses) (listed parts.dropped) in
    let moved = parts.moves && is_other_among who state.moves in
    let entered : list_any into (from ++ to) ≡ list_any (is_number_held who state.dropped) (directories_of (places_changed act)) =
    ap (list_any into) (sym are.places) ∙ sym (any-map (is_number_held who state.dropped) (λ (p : Place). p.directory) (places_changed act)) in
    ap (λ b. (((node || b) || list_any (is_place_met state who) to) || used) || moved) (any_or (is_place_held who state.places) into from)
    ∙ ap (λ b. (((node || (held from || list_any into from)) || b) || used) || moved) (any_or (is_place_held who state.places) into to)
    ∙ ap (λ b. (b || used) || moved) (regroup node (held from) (list_any into from) (held to) (list_any into to))
    ∙ ap (λ b. (((node || b) || (list_any into from || list_any into to)) || used) || moved) (sym (list_any-append (is_place_held who state.places) from to))
    ∙ ap (λ b. (((node || held (from ++ to)) || b) || used) || moved) (sym (list_any-append into from to) ∙ entered)
    ∙ ap (λ l. (((list_any (is_node_met state opens who) l || held (from ++ to)) || list_any (is_number_held who state.dropped) (directories_of (places_changed act))) || used) || moved) (sym are.nodes)
    ∙ ap (λ l. (((list_any (is_node_met state opens who) (nodes_changed act) || held l) || list_any (is_number_held who state.dropped) (directories_of (places_changed act))) || used) || moved) (sym are.places)
    ∙ ap (λ l. (((list_any (is_node_met state opens who) (nodes_changed act) || held (places_changed act)) || list_any (is_number_held who state.dropped) (directories_of (places_changed act))) || list_any (is_number_held who state.uses) l) || moved) (sym are.dropped_is)
    ∙ ap (λ m. (((list_any (is_node_met state opens who) (nodes_changed act) || held (places_changed act)) || list_any (is_number_held who state.dropped) (directories_of (places_changed act))) || list_any (is_number_held who state.uses) (directory_dropped act)) || (m && is_other_among who state.moves)) (sym are.moves_is)

-- a conflict of the parts is one of the call
pub is_conflict-parts : (state : ReserveState) (opens : List OpenFile) (who : Option Id) (act : Act) (outdated : Bool) (parts : Parts) → ArePartsOf act parts
    → (meets_parts state opens who parts || outdated || touches_plain opens who (listed parts.touched) || overwrites_transacted opens who (listed parts.overwritten)) ≡ is_conflict state opens who act outdated
is_conflict-parts state opens who act outdated parts are =
    ap (λ b. b || outdated || touches_plain opens who (listed parts.touched) || overwrites_transacted opens who (listed parts.overwritten))
    (meets_parts-by state opens who act parts are ∙ meets_by-another state opens who act)
    ∙ ap (λ l. meets_another state opens who act || outdated || touches_plain opens who l || overwrites_transacted opens who (listed parts.overwritten)) (sym are.touched_is)
    ∙ ap (λ l. meets_another state opens who act || outdated || touches_plain opens who (file_touched act) || overwrites_transacted opens who l) (sym are.overwritten_is)

-- ---- the files
-- what is held by changes and by open files is what is held of the files
now-same : (state : ReserveState) (files : FilesNow) → Keeps state files → (id : Id) → IsSameHold (holds_with state files.table.opens id) (holds_now files id)
now-same state files keeps id =
    let changes = own_changes files.table.own id in
    let written = written_by files.table.opens id in
    record {
      nodes = λ n.
          list_any-append (λ m. m == n) (numbers_of state.nodes id) written
          ∙ ap (λ b. b || is_in written n) ((keeps id).nodes n ∙ ap (λ l. is_in l n) (append-nil (map node_of changes)))
          ∙ sym (list_any-append (λ m. m == n) (map node_of changes) written);
      places = (keeps id).places;
      uses = (keeps id).uses;
      dropped = (keeps id).dropped;
      moves = (keeps id).moves;
    }

own-none : (own : List OwnChanges) (id : Id) → list_any (λ i. same_id i id) (map (λ (o : OwnChanges). o.transaction) own) ≡ false → own_changes own id ≡ []
own-none [] id none = refl
own-none (o ∷ os) id none =
    let parts = or_parts (same_id o.transaction id) (list_any (λ i. same_id i id) (map (λ (o : OwnChanges). o.transaction) os)) none in
    rw parts.0 (own-none os id parts.1)

in_users : (files : FilesNow) (act : Act) (id : Id) → meets (holds_now files id) act ≡ true → list_any (λ i. same_id i id) (users files.table) ≡ true
in_users files act id met =
    elim (cases_Bool (list_any (λ i. same_id i id) (users files.table))) [
      | inl there ↦ there
      | inr none ↦
          let parts = append_none (λ i. same_id i id) (map (λ (o : OwnChanges). o.transaction) files.table.own) (flat_map opener files.table.opens) none in
          let P : List Change → Type 0 = λ l. HoldsNothing (holds_by files.tree l (written_by files.table.opens id)) in
          let nothing : HoldsNothing (holds_now files id) = subst P (sym (own-none files.table.own id parts.0)) (record {
            nodes = λ n. written-none files.table.opens id parts.1 n;
            places = λ p. refl;
            uses = λ n. refl;
            dropped = λ n. refl;
            moves = refl;
          }) in
          let not_met = meets-nothing (holds_now files id) act nothing in
          absurd (cc)
    ]

meets_other-same : (state : ReserveState) (files : FilesNow) (who : Option Id) (act : Act) → Keeps state files → meets_another state files.table.opens who act ≡ meets_other files who act
meets_other-same state files who act keeps =
    let f : Id → Bool = λ id. meets (holds_now files id) act in
    tells_one who (meets_another state files.table.opens who act) (meets_other files who act) f
    (tells_same who (meets_another state files.table.opens who act) (λ id. meets (holds_with state files.table.opens id) act) f
    (λ id. meets-same (holds_with state files.table.opens id) (holds_now files id) act (now-same state files keeps id))
    (tells_list who (λ id. meets (holds_with state files.table.opens id) act) (holders state files.table.opens) (in_holders state files.table.opens act)))
    (tells_list who f (users files.table) (in_users files act))

touches-same : (files : FilesNow) (who : Option Id) (act : Act) → touches_plain files.table.opens who (file_touched act) ≡ touches_plain_writer files who act
touches-same files None act = refl
touches-same files (Some id) act = refl

overwrites-same : (files : FilesNow) (who : Option Id) (act : Act) → overwrites_transacted files.table.opens who (file_overwritten act) ≡ overwrites_opened files who act
overwrites-same files None act = refl
overwrites-same files (Some id) act = refl

conflict-same : (state : ReserveState) (files : FilesNow) (who : Option Id) (act : Act) → Keeps state files
    → is_conflict state files.table.opens who act (changes_outdated files who act) ≡ conflicts files who act
unfolding conflicts
conflict-same state files who act keeps =
    ap (λ b. b || changes_outdated files who act || touches_plain files.table.opens who (file_touched act) || overwrites_transacted files.table.opens who (file_overwritten act))
    (meets_other-same state files who act keeps)
    ∙ ap (λ b. meets_other files who act || changes_outdated files who act || b || overwrites_transacted files.table.opens who (file_overwritten act)) (touches-same files who act)
    ∙ ap (λ b. meets_other files who act || changes_outdated files who act || touches_plain_writer files who act || b) (overwrites-same files who act)

-- a conflict with what is held is one with the files
pub conflict_of_files : (state : ReserveState) (opens : List OpenFile) (files : FilesNow) (who : Option Id) (act : Act) (outdated : Bool) → Keeps state files → files.table.opens ≡ opens
    → outdated ≡ changes_outdated files who act → conflicts files who act ≡ is_conflict state opens who act outdated
conflict_of_files state opens files who act outdated keeps same is =
    sym (conflict-same state files who act keeps)
    ∙ ap (λ os. is_conflict state os who act (changes_outdated files who act)) same
    ∙ ap (is_conflict state opens who act) (sym is)
