-- What a transaction holds more.
use Rattle.std.proofs.Common.{◌≡◌, ℕ, ◌==◌, ◌&&◌, ◌||◌, Bool, true, false, if◌then◌else◌, List, [], ◌∷◌, ◌++◌, map, refl, sym, ◌∙◌, ap, subst, inl, inr}
use Rattle.std.proofs.Math.Bool.{or-false}
use Rattle.std.proofs.lemmas.Bool.{and_parts, cases_Bool}
use Rattle.std.proofs.lemmas.List.{append-nil, map-append}
use Rattle.std.proofs.lemmas.List.Folds.{list_any-append}
use Rattle.std.specs.List.{list_all, list_any}
use Rattle.ktm_base.specs.declared.id.Id.{Id}
use Rattle.ktm_world.specs.declared.change.Change.{Change}
use Rattle.ktm_world.specs.Changes.{applies, changed, changed_all, changes_bytes, node_of}
use Rattle.ktm_world.specs.Durable.{acts_of}
use Rattle.ktm_world.specs.Holds.{Act, Place, directories_of, directory_dropped, dropped_directory, each_change, holds_by, is_in, is_move_of_directory, is_place_in, moved_directory, places_changed, places_of, same_place}
use Rattle.ktm_world.specs.Transactions.{same_id}
use Rattle.ktm_world.specs.Tree.{Tree}
use Rattle.txf_laws.proofs.offered.NormalForms.{each_change-append, silent-dropped, silent-moved, silent-places, Silent}
use Rattle.txf_laws.proofs.offered.Tables.{same_id-equal}
use Rattle.txf_reserve.proofs.Holding.{is_in-directories, two_parts}
use Rattle.txf_reserve.specs.Acts.{listed, places_held}
use Rattle.txf_reserve.specs.ReserveState.{ReserveState, holds_in, HoldsToo, IsSameHold}
use Rattle.txf_reserve.specs.declared.act.Held.{Held}
use Rattle.txf_durable.specs.Waiting.{HoldsChanges, HoldsNothing, KeepsOthers}
use Rattle.txf_durable.proofs.Deeds.{one-drops, one-moves, one-places}

-- ---- lists of what is held

-- nothing more
or_nothing : (b s : Bool) → b ≡ (b || (s && false))
or_nothing true s = refl
or_nothing false true = refl
or_nothing false false = refl

-- what is held too, by equal lists
pub holds-same : (ns ns' : List ℕ) (ps ps' : List Place) (ds ds' : List ℕ) (m m' : Bool) (id : Id) (r r' : ReserveState) → ns ≡ ns' → ps ≡ ps' → ds ≡ ds' → m ≡ m' → HoldsToo ns ps ds m id r r' → HoldsToo ns' ps' ds' m' id r r'
holds-same ns ns' ps ps' ds ds' m m' id r r' nodes names drops right h = record {
  nodes = λ who n. h.nodes who n ∙ ap (λ l. is_in (holds_in r who).nodes n || (same_id who id && is_in l n)) nodes;
  names = λ who p. h.names who p ∙ ap (λ l. is_place_in (holds_in r who).places p || (same_id who id && is_place_in l p)) names;
  uses = λ who n. h.uses who n ∙ ap (λ l. is_in (holds_in r who).uses n || (same_id who id && is_in (directories_of l) n)) names;
  drops = λ who n. h.drops who n ∙ ap (λ l. is_in (holds_in r who).dropped n || (same_id who id && is_in l n)) drops;
  right = λ who. h.right who ∙ ap (λ b. (holds_in r who).moves || (same_id who id && b)) right;
}

-- what is held too by two steps, one after the other
pub holds-then : (ns ns' : List ℕ) (ps ps' : List Place) (ds ds' : List ℕ) (m m' : Bool) (id : Id) (r r' r'' : ReserveState)
    → HoldsToo ns ps ds m id r r' → HoldsToo ns' ps' ds' m' id r' r'' → HoldsToo (ns ++ ns') (ps ++ ps') (ds ++ ds') (m || m') id r r''
holds-then ns ns' ps ps' ds ds' m m' id r r' r'' a b = record {
  nodes = λ who n. in_both (is_in (holds_in r who).nodes n) _ _ (same_id who id) (a.nodes who n) (b.nodes who n) ∙ ap (λ x. is_in (holds_in r who).nodes n || (same_id who id && x)) (sym (list_any-append (λ k. k == n) ns ns'));
  names = λ who p. in_both (is_place_in (holds_in r who).places p) _ _ (same_id who id) (a.names who p) (b.names who p) ∙ ap (λ x. is_place_in (holds_in r who).places p || (same_id who id && x)) (sym (list_any-append (same_place p) ps ps'));
  uses = λ who n. in_both (is_in (holds_in r who).uses n) _ _ (same_id who id) (a.uses who n) (b.uses who n) ∙ ap (λ x. is_in (holds_in r who).uses n || (same_id who id && x)) (is_in-directories ps ps' n);
  drops = λ who n. in_both (is_in (holds_in r who).dropped n) _ _ (same_id who id) (a.drops who n) (b.drops who n) ∙ ap (λ x. is_in (holds_in r who).dropped n || (same_id who id && x)) (sym (list_any-append (λ k. k == n) ds ds'));
  right = λ who. in_both (holds_in r who).moves _ _ (same_id who id) (a.right who) (b.right who);
}
  where
    in_both : (old x y s : Bool) {now then' : Bool} → now ≡ (old || (s && x)) → then' ≡ (now || (s && y)) → then' ≡ (old || (s && (x || y)))
    in_both old x y s first second = second ∙ ap (λ b. b || (s && y)) first ∙ two_parts old s x y

-- without more than memory
pub holds-from : (ns : List ℕ) (ps : List Place) (ds : List ℕ) (m : Bool) (id : Id) (o r r' : ReserveState) → r ≡ record o { spare = r.spare } → HoldsToo ns ps ds m id r r' → HoldsToo ns ps ds m id o r'
holds-from ns ps ds m id o r r' same h = record {
  nodes = λ who n. h.nodes who n ∙ ap (λ s. is_in (holds_in s who).nodes n || (same_id who id && is_in ns n)) same;
  names = λ who p. h.names who p ∙ ap (λ s. is_place_in (holds_in s who).places p || (same_id who id && is_place_in ps p)) same;
  uses = λ who n. h.uses who n ∙ ap (λ s. is_in (holds_in s who).uses n || (same_id who id && is_in (directories_of ps) n)) same;
  drops = λ who n. h.drops who n ∙ ap (λ s. is_in (holds_in s who).dropped n || (same_id who id && is_in ds n)) same;
  right = λ who. h.right who ∙ ap (λ s. (holds_in s who).moves || (same_id who id && m)) same;
}

-- ---- others

apart : (b x s : Bool) → s ≡ false → (b || (s && x)) ≡ b
apart b x s other = ap (λ z. b || (z && x)) other ∙ or-false b

others-keep : (ns : List ℕ) (ps : List Place) (ds : List ℕ) (m : Bool) (id : Id) (r r' : ReserveState) → HoldsToo ns ps ds m id r r' → KeepsOthers id r r'
others-keep ns ps ds m id r r' h = λ who other. record {
  nodes = λ n. h.nodes who n ∙ apart _ _ (same_id who id) other;
  places = λ p. h.names who p ∙ apart _ _ (same_id who id) other;
  uses = λ n. h.uses who n ∙ apart _ _ (same_id who id) other;
  dropped = λ n. h.drops who n ∙ apart _ _ (same_id who id) other;
  moves = h.right who ∙ apart _ _ (same_id who id) other;
}

-- ---- what changes hold

-- one that does one thing
pub holds-one : (t : Tree) (c : Change) (a : Act) (h : Held) (id : Id) (r r' : ReserveState) → applies t c ≡ true → acts_of t c ≡ a ∷ []
    → listed h.node ≡ node_of c ∷ [] → places_held h ≡ places_changed a → listed h.dropped ≡ directory_dropped a → h.moves ≡ is_move_of_directory a
    → HoldsToo (listed h.node) (places_held h) (listed h.dropped) h.moves id r r' → HoldsChanges t (c ∷ []) id r r'
holds-one t c a h id r r' is does node places dropped moves held =
    holds-same (listed h.node) (node_of c ∷ []) (places_held h) (places_of t c ++ []) (listed h.dropped) (dropped_directory t c ++ []) h.moves (list_any (λ n. true) (moved_directory t c ++ [])) id r r'
    node (places ∙ one-places t c a is does) (dropped ∙ one-drops t c a is does) (moves ∙ one-moves t c a is does) held

-- one after another
pub holds-next : (t : Tree) (cs ds : List Change) (id : Id) (r r' r'' : ReserveState) → HoldsChanges t cs id r r' → HoldsChanges (changed_all t cs) ds id r' r'' → HoldsChanges t (cs ++ ds) id r r''
holds-next t cs ds id r r' r'' first second =
    let moved = each_change moved_directory t cs in
    let moved' = each_change moved_directory (changed_all t cs) ds in
    holds-same _ (map node_of (cs ++ ds)) _ (each_change places_of t (cs ++ ds)) _ (each_change dropped_directory t (cs ++ ds)) _ (list_any (λ n. true) (each_change moved_directory t (cs ++ ds))) id r r''
    (sym (map-append node_of cs ds)) (sym (each_change-append places_of t cs ds)) (sym (each_change-append dropped_directory t cs ds))
    (sym (list_any-append (λ n. true) moved moved') ∙ ap (list_any (λ n. true)) (sym (each_change-append moved_directory t cs ds)))
    (holds-then _ _ _ _ _ _ _ _ id r r' r'' first second)

-- bytes hold no more than their files
silent-bytes : {X : Type 0} (f : Tree → Change → List X) → Silent f → (t : Tree) (bs : List Change) → list_all changes_bytes bs ≡ true → [] ≡ each_change f t bs
silent-bytes f silent t [] all = refl
silent-bytes f silent t (c ∷ cs) all =
    let parts = and_parts (changes_bytes c) (list_all changes_bytes cs) all in
    silent-bytes f silent (changed t c) cs parts.1 ∙ ap (λ xs. xs ++ each_change f (changed t c) cs) (sym (silent t c parts.0))

pub holds-bytes : (t : Tree) (bs : List Change) (id : Id) (r r' : ReserveState) → list_all changes_bytes bs ≡ true → HoldsToo (map node_of bs) [] [] false id r r' → HoldsChanges t bs id r r'
holds-bytes t bs id r r' all h =
    holds-same (map node_of bs) (map node_of bs) [] (each_change places_of t bs) [] (each_change dropped_directory t bs) false (list_any (λ n. true) (each_change moved_directory t bs)) id r r'
    refl (silent-bytes places_of silent-places t bs all) (silent-bytes dropped_directory silent-dropped t bs all) (ap (list_any (λ n. true)) (silent-bytes moved_directory silent-moved t bs all)) h

-- one that held nothing holds what its changes hold
pub holds-alone : (t : Tree) (cs : List Change) (transaction : Id) (r r' : ReserveState) → HoldsNothing r transaction → HoldsChanges t cs transaction r r'
    → (id : Id) → IsSameHold (holds_in r' id) (if same_id id transaction then holds_by t cs [] else holds_in r id)
holds-alone t cs transaction r r' none h id = elim (cases_Bool (same_id id transaction)) [
  | inl same ↦
      let nothing : IsSameHold (holds_in r id) (holds_by [] [] []) = subst (HoldsNothing r) (sym (same_id-equal id transaction same)) none in
      rw same (record {
        nodes = λ n. h.nodes id n ∙ (λ i. nothing.nodes n i || (same i && is_in (map node_of cs) n)) ∙ ap (λ l. is_in l n) (sym (append-nil (map node_of cs)));
        places = λ p. h.names id p ∙ (λ i. nothing.places p i || (same i && is_place_in (each_change places_of t cs) p));
        uses = λ n. h.uses id n ∙ (λ i. nothing.uses n i || (same i && is_in (directories_of (each_change places_of t cs)) n));
        dropped = λ n. h.drops id n ∙ (λ i. nothing.dropped n i || (same i && is_in (each_change dropped_directory t cs) n));
        moves = h.right id ∙ (λ i. nothing.moves i || (same i && list_any (λ n. true) (each_change moved_directory t cs)));
      })
  | inr other ↦ rw other (others-keep _ _ _ _ transaction r r' h id other)
]
