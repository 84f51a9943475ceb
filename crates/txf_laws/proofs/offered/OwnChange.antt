-- A transaction's own change that meets nothing keeps sound what undecided transactions own of the files.
use Rattle.std.proofs.Common.{◌≡◌, ℕ, ◌≤◌, ◌<◌, ◌==◌, ◌&&◌, ◌||◌, not, Bool, true, false, cond, is_none, is_some, filter, fold, map, List, [], ◌∷◌, ◌++◌, Option, Some, None, refl, sym, ◌∙◌, ap, subst, arith, inl, inr, ◌⊎◌}
use Rattle.std.proofs.lemmas.Bool.{cases_Bool, le-leb, eq-eqb, ne_eqb, eqb-true, ltb-true, lt-ltb, and_parts, and_from, or_cases, or_left, or_right, or_parts, or_from, not-true, not_from_false, true≢false, false_from_ne_true}
use Rattle.std.proofs.lemmas.List.Sums.{fold-append}
use Rattle.std.proofs.lemmas.List.{append-nil}
use Rattle.std.specs.List.{list_all, list_any, flat_map}
use Rattle.std.specs.Prelude.{nat_lt, nat_le}
use Rattle.ktm_base.specs.declared.id.Id.{Id}
use Rattle.ktm_world.specs.declared.change.Change.{Change}
use Rattle.ktm_world.specs.declared.change.Change.TheVariants.{Make, Put, Cut, Move, Drop}
use Rattle.ktm_world.specs.declared.change.NodeKind.TheVariants.{File, Directory}
use Rattle.ktm_world.specs.declared.recorded.Node.{Node}
use Rattle.ktm_world.specs.declared.object.Transaction.{Transaction}
use Rattle.ktm_world.specs.Changes.{changed, changed_all, applies, changes_apply, changes_bytes, is_drop, is_make, next_after, node_of, has_changes, has_made}
use Rattle.ktm_world.specs.Committed.{with_number, changes_to_commit, written_files, written_after, final_bytes}
use Rattle.ktm_world.specs.Conflicts.{holds_now, written_by, writes}
use Rattle.ktm_world.specs.Files.{FirstOpen, OpenFile, OwnChanges, own_changes, with_own_changes, first_open_of, is_last_version, tree_of, tree_seen, first_bytes, bytes_seen, bytes_with}
use Rattle.ktm_world.specs.Holds.{Place, Holds, holds_by, each_change, places_of, dropped_directory, moved_directory, directories_of, is_in, is_place_in, meet_in, same_place}
use Rattle.ktm_world.specs.Lawful.{are_apart, is_alone, is_touched_by, others_undecided, undecided}
use Rattle.ktm_world.specs.Present.{Present}
use Rattle.ktm_world.specs.Transactions.{is_of, is_undecided, same_id}
use Rattle.ktm_world.specs.Tree.{Tree, content_of, is_directory, is_file, is_there, node_at}
use Rattle.txf_laws.specs.FinalChanges.{names_of, IsFinal}
use Rattle.txf_laws.specs.Elements.{IsIn, each_pair}
use Rattle.txf_laws.specs.Contents.{puts_some}
use Rattle.txf_laws.specs.OwnChange.{HoldsNothing, Owns, owned, OwnChangeLaw}
use Rattle.txf_laws.specs.SoundFiles.{IsSoundFiles, is_undecided_in, changed_by_two, make_apart, numbers_made, is_drawn_node, made_or_opened, is_change_of_opened, has_dropped, is_open_last, is_plain_well, is_own_well, may_use, files_apart, all_files_apart, is_gone, is_no_directory, opens_no_directory}
use Rattle.txf_laws.proofs.offered.Diamonds.{same_place-sym, IsIn-right, IsIn-map, no_test, none-from, meets-not}
use Rattle.txf_laws.proofs.offered.Elements.{each_pair-either, IsIn-filter, IsIn-kept, IsIn-flat_map, IsIn-unflat, list_all-at, list_all-from, list_any-at, list_any-from}
use Rattle.txf_laws.proofs.offered.Lists.{IsIn-left, IsIn-cases, IsIn-unmap, IsIn-first}
use Rattle.txf_laws.proofs.offered.NormalForms.{first-cut, IsIn-with_number-new, names-final, filter-append, names_only, is-final, final-applies, each_change-append, Silent, silent-places, silent-dropped, silent-moved, held-names}
use Rattle.txf_laws.proofs.offered.ChangeTests.{Applies-from, Fits-from, is_there-none}
use Rattle.txf_laws.proofs.offered.NodeKinds.{directory-was, there-was}
use Rattle.ktm_world.proofs.offered.Lookups.{node_at-elsewhere, node_at-there}
use Rattle.txf_laws.proofs.offered.Versions.{is_file-kept}
use Rattle.txf_laws.proofs.offered.CommitsOfOthers.{IsIn-with_number, All-in, All-by, own-final, written-node, drawn-made, drawn-node, own-drawn, next-free}
use Rattle.txf_laws.proofs.offered.Reservations.{own_changes-found, writer-alone, own-apply, own_changes-by}
use Rattle.txf_laws.proofs.offered.Tables.{same_id-equal, same_id-from, same_id-sym}

-- ---- entries with one changed

abbrev pub entry : Id → List Change → OwnChanges
entry id cs = record { transaction = id; changes = cs }

pub with-itself : (own : List OwnChanges) (id : Id) (cs : List Change) → own_changes (with_own_changes own id cs) id ≡ cs
with-itself [] id cs = rw (same_id-from id id refl) refl
with-itself (o ∷ os) id cs = elim (cases_Bool (same_id o.transaction id)) [
  | inl same ↦ rw (same, same) refl
  | inr other ↦ rw (other, other) (with-itself os id cs)
]

pub with-other : (own : List OwnChanges) (id : Id) (cs : List Change) (other : Id) → same_id id other ≡ false → own_changes (with_own_changes own id cs) other ≡ own_changes own other
with-other [] id cs other differ = rw differ refl
with-other (o ∷ os) id cs other differ = elim (cases_Bool (same_id o.transaction id)) [
  | inl same ↦
      let not' : same_id o.transaction other ≡ false = subst (λ (i : Id). same_id i other ≡ false) (sym (same_id-equal o.transaction id same)) differ in
      rw (same, not') refl
  | inr apart ↦ elim (cases_Bool (same_id o.transaction other)) [
    | inl here ↦ rw (apart, here) refl
    | inr later ↦ rw (apart, later) (with-other os id cs other differ)
  ]
]

changed-first : (o : OwnChanges) (os : List OwnChanges) → each_pair changed_by_two (o ∷ os) ≡ true → (u : OwnChanges) → IsIn u os → same_id o.transaction u.transaction ≡ false
changed-first o os once u there = not-true _ (list_all-at (changed_by_two o) os (and_parts (list_all (changed_by_two o) os) (each_pair changed_by_two os) once).0 u there)

changed-rest : (o : OwnChanges) (os : List OwnChanges) → each_pair changed_by_two (o ∷ os) ≡ true → each_pair changed_by_two os ≡ true
changed-rest o os once = (and_parts (list_all (changed_by_two o) os) (each_pair changed_by_two os) once).1

same-entry : (o : OwnChanges) (id : Id) (cs : List Change) → same_id o.transaction id ≡ true → record o { changes = cs } ≡ entry id cs
same-entry o id cs same i = record { transaction = same_id-equal o.transaction id same i; changes = cs }

IsIn-with_changes : (own : List OwnChanges) (id : Id) (cs : List Change) → each_pair changed_by_two own ≡ true → (u : OwnChanges) → IsIn u (with_own_changes own id cs) → (u ≡ entry id cs) ⊎ (IsIn u own × (same_id id u.transaction ≡ false))
IsIn-with_changes [] id cs once u (inl e) = inl (sym e)
IsIn-with_changes [] id cs once u (inr none) = absurd none
IsIn-with_changes (o ∷ os) id cs once u there = elim (cases_Bool (same_id o.transaction id)) [
  | inl same ↦
      let there' : IsIn u (record o { changes = cs } ∷ os) = rw same at there in
      elim there' [
        | inl e ↦ inl (sym e ∙ same-entry o id cs same)
        | inr later ↦ inr (inr later, subst (λ (i : Id). same_id i u.transaction ≡ false) (same_id-equal o.transaction id same) (changed-first o os once u later))
      ]
  | inr other ↦
      let there' : IsIn u (o ∷ with_own_changes os id cs) = rw other at there in
      elim there' [
        | inl e ↦ inr (inl e, subst (λ (p : OwnChanges). same_id id p.transaction ≡ false) e (same_id-sym o.transaction id other))
        | inr later ↦ elim (IsIn-with_changes os id cs (changed-rest o os once) u later) [ inl e ↦ inl e | inr old ↦ inr (inr old.0, old.1) ]
      ]
]

pairs-with_changes : (test : OwnChanges → OwnChanges → Bool) (own : List OwnChanges) (id : Id) (cs : List Change) → each_pair changed_by_two own ≡ true → each_pair test own ≡ true
    → ((u : OwnChanges) → IsIn u own → same_id id u.transaction ≡ false → (test (entry id cs) u ≡ true) × (test u (entry id cs) ≡ true)) → each_pair test (with_own_changes own id cs) ≡ true
pairs-with_changes test [] id cs once pairs sides = refl
pairs-with_changes test (o ∷ os) id cs once pairs sides =
    let parts = and_parts (list_all (test o) os) (each_pair test os) pairs in
    elim (cases_Bool (same_id o.transaction id)) [
      | inl same ↦ rw same (and_from _ _ (list_all-from (test (record o { changes = cs })) os (λ u there.
          subst (λ p. test p u ≡ true) (sym (same-entry o id cs same)) (sides u (inr there) (subst (λ (i : Id). same_id i u.transaction ≡ false) (same_id-equal o.transaction id same) (changed-first o os once u there))).0)) parts.1)
      | inr other ↦ rw other (and_from _ _
          (list_all-from (test o) (with_own_changes os id cs) (λ u there. elim (IsIn-with_changes os id cs (changed-rest o os once) u there) [
            | inl e ↦ subst (λ p. test o p ≡ true) (sym e) (sides o (inl refl) (same_id-sym o.transaction id other)).1
            | inr old ↦ list_all-at (test o) os parts.0 u old.0
          ]))
          (pairs-with_changes test os id cs (changed-rest o os once) parts.1 (λ u there differs. sides u (inr there) differs)))
    ]

-- ---- what one change more adds

end-node : (f : ℕ) (bs : List ℕ) (d : Change) → IsIn d (final_bytes f bs) → (node_of d ≡ f) × (changes_bytes d ≡ true) × (puts_some d ≡ true) × (is_make d ≡ false) × (is_drop d ≡ false)
end-node f [] d (inl e) = (ap node_of (sym e), ap changes_bytes (sym e), ap puts_some (sym e), ap is_make (sym e), ap is_drop (sym e))
end-node f [] d (inr none) = absurd none
end-node f (b ∷ bs) d (inl e) = (ap node_of (sym e), ap changes_bytes (sym e), ap puts_some (sym e), ap is_make (sym e), ap is_drop (sym e))
end-node f (b ∷ bs) d (inr (inl e)) = (ap node_of (sym e), ap changes_bytes (sym e), ap puts_some (sym e), ap is_make (sym e), ap is_drop (sym e))
end-node f (b ∷ bs) d (inr (inr none)) = absurd none

-- a change of the last form: one of names that was there, or one of bytes of a file that has bytes
pub final-change : (cs : List Change) (by : ℕ → List ℕ) (d : Change) → IsIn d (changes_to_commit cs by)
    → (IsIn d cs × (names_only d ≡ true)) ⊎ (IsIn (node_of d) (written_files cs) × (changes_bytes d ≡ true) × (puts_some d ≡ true) × (is_make d ≡ false) × (is_drop d ≡ false))
final-change cs by d there = elim (IsIn-cases d (names_of cs) (flat_map (λ file. final_bytes file (by file)) (written_files cs)) there) [
  | inl name ↦ let kept = IsIn-filter names_only cs d name in inl (kept.0, kept.1)
  | inr end ↦
      let of = IsIn-unflat (λ file. final_bytes file (by file)) (written_files cs) d end in
      let is = end-node of.0 (by of.0) d of.2 in
      inr (subst (λ m. IsIn m (written_files cs)) (sym is.0) of.1, is.1, is.2, is.3, is.4)
]

pub name-final : (cs : List Change) (by : ℕ → List ℕ) (d : Change) → IsIn d cs → names_only d ≡ true → IsIn d (changes_to_commit cs by)
name-final cs by d there name = IsIn-left d (names_of cs) _ (IsIn-kept names_only cs d there name)

-- no contents are empty
puts-name : (d : Change) → names_only d ≡ true → puts_some d ≡ true
puts-name (Make node parent kind name) is = refl
puts-name (Put node offset contents) is = absurd (true≢false (sym is))
puts-name (Cut node size pages) is = refl
puts-name (Move node parent name) is = refl
puts-name (Drop node) is = refl

names-if-make : (d : Change) → is_make d ≡ true → names_only d ≡ true
names-if-make (Make node parent kind name) is = refl
names-if-make (Put node offset contents) is = absurd (true≢false (sym is))
names-if-make (Cut node size pages) is = absurd (true≢false (sym is))
names-if-make (Move node parent name) is = absurd (true≢false (sym is))
names-if-make (Drop node) is = absurd (true≢false (sym is))

names-if-drop : (d : Change) → is_drop d ≡ true → names_only d ≡ true
names-if-drop (Make node parent kind name) is = refl
names-if-drop (Put node offset contents) is = absurd (true≢false (sym is))
names-if-drop (Cut node size pages) is = absurd (true≢false (sym is))
names-if-drop (Move node parent name) is = refl
names-if-drop (Drop node) is = refl

-- why a file has bytes
written-why : (cs : List Change) (files : List ℕ) (m : ℕ) → IsIn m (fold written_after files cs) → IsIn m files ⊎ ((d : Change) × IsIn d cs × (node_of d ≡ m) × ((changes_bytes d || is_make d) ≡ true))
written-why [] files m there = inl there
written-why (c ∷ cs) files m there = elim (written-why cs (written_after files c) m there) [
  | inr (d, has, is, why) ↦ inr (d, inr has, is, why)
  | inl before ↦ one c before
]
  where
    add : (c : Change) (n : ℕ) → node_of c ≡ n → (changes_bytes c || is_make c) ≡ true → IsIn m (with_number files n) → IsIn m files ⊎ ((d : Change) × IsIn d (c ∷ cs) × (node_of d ≡ m) × ((changes_bytes d || is_make d) ≡ true))
    add c n is why there = elim (IsIn-with_number files n m there) [ inl old ↦ inl old | inr e ↦ inr (c, inl refl, is ∙ e, why) ]

    one : (c : Change) → IsIn m (written_after files c) → IsIn m files ⊎ ((d : Change) × IsIn d (c ∷ cs) × (node_of d ≡ m) × ((changes_bytes d || is_make d) ≡ true))
    one (Make node parent File name) there = add (Make node parent File name) node refl refl there
    one (Make node parent Directory name) there = inl there
    one (Put node offset contents) there = add (Put node offset contents) node refl refl there
    one (Cut node size pages) there = add (Cut node size pages) node refl refl there
    one (Move node parent name) there = inl there
    one (Drop node) there = inl (IsIn-filter (λ k. not (k == node)) files m there).0

-- ---- holds that are apart, by their elements

pub record ApartHolds (a b : Holds) : Type 0 where
  pub nodes : (n : ℕ) → IsIn n a.nodes → IsIn n b.nodes → ⊥
  pub places : (p q : Place) → IsIn p a.places → IsIn q b.places → same_place p q ≡ false
  pub stays : (n : ℕ) → IsIn n a.dropped → IsIn n b.uses → ⊥
  pub moves : (a.moves && b.moves) ≡ false

pub apart-holds : (a b : Holds) → are_apart a b ≡ true → ApartHolds a b
apart-holds a b apart =
    let d = and_parts _ (not (a.moves && b.moves)) apart in
    let c = and_parts _ (not (meet_in a.dropped b.uses)) d.0 in
    let n = and_parts (not (meet_in a.nodes b.nodes)) (not (list_any (is_place_in b.places) a.places)) c.0 in
    record {
      nodes = meets-not a.nodes b.nodes (not-true _ n.0);
      places = λ p q there there'. no_test (same_place p) q b.places (no_test (is_place_in b.places) p a.places (not-true _ n.1) there) there';
      stays = meets-not a.dropped b.uses (not-true _ c.1);
      moves = not-true _ d.1;
    }

none-meet : (ms ns : List ℕ) → ((n : ℕ) → IsIn n ms → IsIn n ns → ⊥) → meet_in ms ns ≡ false
none-meet ms ns apart = none-from (is_in ns) ms (λ n there. none-from (λ m. m == n) ns (λ m there'. ne_eqb m n (λ e. apart n there (subst (λ k. IsIn k ns) e there'))))

pub holds-from : (a b : Holds) → ApartHolds a b → are_apart a b ≡ true
holds-from a b apart = and_from _ _ (and_from _ _ (and_from _ _
    (not_from_false _ (none-meet a.nodes b.nodes apart.nodes))
    (not_from_false _ (none-from (is_place_in b.places) a.places (λ p there. none-from (same_place p) b.places (λ q there'. apart.places p q there there')))))
    (not_from_false _ (none-meet a.dropped b.uses apart.stays)))
    (not_from_false _ apart.moves)

some-from : (ds : List Change) (d : Change) → IsIn d ds → has_changes ds ≡ true
some-from [] d none = absurd none
some-from (e ∷ es) d there = refl

written-last : (d : Change) (files : List ℕ) → changes_bytes d ≡ true → IsIn (node_of d) (written_after files d)
written-last (Make node parent kind name) files bytes = absurd (true≢false (sym bytes))
written-last (Put node offset contents) files bytes = IsIn-with_number-new files node
written-last (Cut node size pages) files bytes = IsIn-with_number-new files node
written-last (Move node parent name) files bytes = absurd (true≢false (sym bytes))
written-last (Drop node) files bytes = absurd (true≢false (sym bytes))

-- ---- a transaction changes one thing more

next-more : (next : ℕ) (c : Change) → next ≤ next_after next c
next-more next (Make node parent kind name) = omega arith
next-more next (Put node offset contents) = omega arith
next-more next (Cut node size pages) = omega arith
next-more next (Move node parent name) = omega arith
next-more next (Drop node) = omega arith

next-made : (next : ℕ) (c : Change) → is_make c ≡ true → node_of c < next_after next c
next-made next (Make node parent kind name) make = omega arith
next-made next (Put node offset contents) make = absurd (true≢false (sym make))
next-made next (Cut node size pages) make = absurd (true≢false (sym make))
next-made next (Move node parent name) make = absurd (true≢false (sym make))
next-made next (Drop node) make = absurd (true≢false (sym make))

module _ (x : Present) (id : Id) (c : Change) (sound : IsSoundFiles x) (owns : Owns x id c) where
  abbrev z : Present
  z = record x { files = owned x.files id c }

  abbrev ms : List Change
  ms = own_changes x.files.table.own id

  abbrev cs : List Change
  cs = ms ++ c ∷ []

  abbrev by : ℕ → List ℕ
  by = bytes_with x.files id cs

  abbrev new : List Change
  new = changes_to_commit cs by

  abbrev seen : Tree
  seen = tree_seen x.files (Some id)

  form : IsFinal cs by
  form = is-final cs by

  pub own-itself : own_changes z.files.table.own id ≡ new
  own-itself = with-itself x.files.table.own id new

  own-other : (other : Id) → same_id id other ≡ false → own_changes z.files.table.own other ≡ own_changes x.files.table.own other
  own-other other differ = with-other x.files.table.own id new other differ

  more : x.files.table.next_node ≤ z.files.table.next_node
  more = next-more x.files.table.next_node c

  drawn-more : (n : ℕ) → is_drawn_node x.files n ≡ true → is_drawn_node z.files n ≡ true
  drawn-more n drawn = let parts = and_parts (nat_le 2 n) (nat_lt n x.files.table.next_node) drawn in and_from _ _ parts.0 (lt-ltb n z.files.table.next_node (omega (arith, more, ltb-true n x.files.table.next_node parts.1)))

  below : (n : ℕ) → is_drawn_node x.files n ≡ true → n < x.files.table.next_node
  below n drawn = ltb-true n x.files.table.next_node (and_parts (nat_le 2 n) _ drawn).1

  -- a change of before, or the one
  of-two : (d : Change) → IsIn d cs → IsIn d ms ⊎ (c ≡ d)
  of-two d there = elim (IsIn-cases d ms (c ∷ []) there) [ inl old ↦ inl old | inr (inl e) ↦ inr e | inr (inr none) ↦ absurd none ]

  -- ---- its nodes, names and numbers

  nodes-new : (n : ℕ) → IsIn n (map node_of new) → IsIn n (map node_of ms) ⊎ (node_of c ≡ n)
  nodes-new n there =
      let d = IsIn-unmap node_of n new there in
      elim (final-change cs by d.0 d.2) [
        | inl (has, name) ↦ among n d.0 d.1 (of-two d.0 has)
        | inr rest ↦
            let e = IsIn-unmap node_of (node_of d.0) cs (written-node cs (node_of d.0) rest.0) in among n e.0 (e.1 ∙ d.1) (of-two e.0 e.2)
      ]
    where
      among : (n : ℕ) (d : Change) → node_of d ≡ n → IsIn d ms ⊎ (c ≡ d) → IsIn n (map node_of ms) ⊎ (node_of c ≡ n)
      among n d is (inl old) = inl (subst (λ m. IsIn m (map node_of ms)) is (IsIn-map node_of d ms old))
      among n d is (inr e) = inr (ap node_of e ∙ is)

  made-new : (n : ℕ) → IsIn n (numbers_made new) → IsIn n (numbers_made ms) ⊎ ((is_make c ≡ true) × (node_of c ≡ n))
  made-new n there =
      let from = IsIn-unflat (λ change. filter (λ n. is_make change) (node_of change ∷ [])) new n there in
      let kept = IsIn-filter (λ n. is_make from.0) (node_of from.0 ∷ []) n from.2 in
      let is : node_of from.0 ≡ n = elim kept.0 [ inl e ↦ e | inr none ↦ absurd none ] in
      elim (final-change cs by from.0 from.1) [
        | inl (has, name) ↦ elim (of-two from.0 has) [
          | inl old ↦ inl (subst (λ m. IsIn m (numbers_made ms)) is
              (IsIn-flat_map (λ change. filter (λ n. is_make change) (node_of change ∷ [])) ms from.0 (node_of from.0) old (IsIn-kept (λ n. is_make from.0) (node_of from.0 ∷ []) (node_of from.0) (inl refl) kept.1)))
          | inr e ↦ inr (ap is_make e ∙ kept.1, ap node_of e ∙ is)
        ]
        | inr rest ↦ absurd (true≢false (sym kept.1 ∙ rest.3))
      ]

  has-made-still : (n : ℕ) → has_made ms n ≡ true → has_made new n ≡ true
  has-made-still n made =
      let found = list_any-at (λ change. is_make change && node_of change == n) ms made in
      let parts = and_parts (is_make found.0) (node_of found.0 == n) found.2 in
      list_any-from (λ change. is_make change && node_of change == n) new found.0 (name-final cs by found.0 (IsIn-left found.0 ms (c ∷ []) found.1) (names-if-make found.0 parts.0)) found.2

  pub not-dropped : (n : ℕ) → has_dropped ms n ≡ false → (is_drop c ≡ true → node_of c ≡ n → ⊥) → has_dropped new n ≡ false
  not-dropped n free other = none-from (λ change. is_drop change && node_of change == n) new (λ d there. false_from_ne_true _ (λ is.
      let parts = and_parts (is_drop d) (node_of d == n) is in
      elim (final-change cs by d there) [
        | inl (has, name) ↦ elim (of-two d has) [
          | inl old ↦ true≢false (sym is ∙ no_test (λ change. is_drop change && node_of change == n) d ms free old)
          | inr e ↦ other (ap is_drop e ∙ parts.0) (ap node_of e ∙ eqb-true _ _ parts.1)
        ]
        | inr rest ↦ true≢false (sym parts.0 ∙ rest.4)
      ]))

  -- what it holds beside nodes: what it held, and what the change holds
  held-more : {X : Type 0} (f : Tree → Change → List X) → Silent f → (p : X) → IsIn p (each_change f x.files.tree new) → IsIn p (each_change f x.files.tree ms) ⊎ IsIn p (f seen c)
  held-more f silent p there = elim (IsIn-cases p (each_change f x.files.tree (names_of ms)) (each_change f seen (names_of (c ∷ []))) (subst (IsIn p) split there)) [
    | inl old ↦ inl (subst (IsIn p) (sym (held-names f silent x.files.tree ms (bytes_seen x.files (Some id))) ∙ ap (each_change f x.files.tree) (own-final x sound id)) old)
    | inr one ↦ inr (alone' (names_only c) one)
  ]
    where
      split : each_change f x.files.tree new ≡ each_change f x.files.tree (names_of ms) ++ each_change f seen (names_of (c ∷ []))
      split = held-names f silent x.files.tree cs by ∙ ap (each_change f x.files.tree) (filter-append names_only ms (c ∷ [])) ∙ each_change-append f x.files.tree (names_of ms) (names_of (c ∷ []))

      alone' : (b : Bool) → IsIn p (each_change f seen (cond b (c ∷ []) [])) → IsIn p (f seen c)
      alone' true has = subst (IsIn p) (append-nil (f seen c)) has
      alone' false none = absurd none

  -- ---- others hold nothing of it

  pub others-hold : (other : Id) → same_id id other ≡ false → holds_now z.files other ≡ holds_now x.files other
  others-hold other differ = ap (λ ds. holds_by x.files.tree ds (written_by x.files.table.opens other)) (own-other other differ)

  mine-holds : holds_now z.files id ≡ holds_by x.files.tree new (written_by x.files.table.opens id)
  mine-holds = ap (λ ds. holds_by x.files.tree ds (written_by x.files.table.opens id)) own-itself

  abbrev mine : Holds
  mine = holds_by x.files.tree new (written_by x.files.table.opens id)

  nodes-mine : (n : ℕ) → IsIn n mine.nodes → IsIn n (holds_now x.files id).nodes ⊎ (node_of c ≡ n)
  nodes-mine n there = elim (IsIn-cases n (map node_of new) (written_by x.files.table.opens id) there) [
    | inl changed' ↦ elim (nodes-new n changed') [ inl old ↦ inl (IsIn-left n (map node_of ms) _ old) | inr e ↦ inr e ]
    | inr open' ↦ inl (IsIn-right n (map node_of ms) _ open')
  ]

  uses-mine : (n : ℕ) → IsIn n mine.uses → IsIn n (holds_now x.files id).uses ⊎ ((p : Place) × IsIn p (places_of seen c) × (p.directory ≡ n))
  uses-mine n there =
      let p = IsIn-unmap (λ (p : Place). p.directory) n (each_change places_of x.files.tree new) there in
      elim (held-more places_of silent-places p.0 p.2) [
        | inl old ↦ inl (subst (λ m. IsIn m (directories_of (each_change places_of x.files.tree ms))) p.1 (IsIn-map (λ (p : Place). p.directory) p.0 (each_change places_of x.files.tree ms) old))
        | inr one ↦ inr (p.0, one, p.1)
      ]

  moves-mine : (h : Holds) → ((holds_now x.files id).moves && h.moves) ≡ false → ((n : ℕ) → IsIn n (moved_directory seen c) → h.moves ≡ false) → (mine.moves && h.moves) ≡ false
  moves-mine h before one = false_from_ne_true _ (λ both.
      let parts = and_parts mine.moves h.moves both in
      let n = IsIn-first (each_change moved_directory x.files.tree new) parts.0 in
      elim (held-more moved_directory silent-moved n.0 n.1) [
        | inl old ↦ true≢false (sym (and_from _ _ (list_any-from (λ (n : ℕ). true) (each_change moved_directory x.files.tree ms) n.0 old refl) parts.1) ∙ before)
        | inr mine' ↦ true≢false (sym parts.1 ∙ one n.0 mine')
      ])

  mine-apart : (h : Holds) → are_apart (holds_now x.files id) h ≡ true → HoldsNothing h seen c → are_apart mine h ≡ true
  mine-apart h apart nothing =
      let before = apart-holds (holds_now x.files id) h apart in
      holds-from mine h (record {
        nodes = λ n there there'. elim (nodes-mine n there) [ inl old ↦ before.nodes n old there' | inr e ↦ nothing.nodes (subst (λ m. IsIn m h.nodes) (sym e) there') ];
        places = λ p q there there'. elim (held-more places_of silent-places p there) [ inl old ↦ before.places p q old there' | inr one ↦ nothing.places p q one there' ];
        stays = λ n there there'. elim (held-more dropped_directory silent-dropped n there) [ inl old ↦ before.stays n old there' | inr one ↦ nothing.drops n one there' ];
        moves = moves-mine h before.moves nothing.moves;
      })

  apart-mine : (h : Holds) → are_apart h (holds_now x.files id) ≡ true → HoldsNothing h seen c → are_apart h mine ≡ true
  apart-mine h apart nothing =
      let before = apart-holds h (holds_now x.files id) apart in
      holds-from h mine (record {
        nodes = λ n there there'. elim (nodes-mine n there') [ inl old ↦ before.nodes n there old | inr e ↦ nothing.nodes (subst (λ m. IsIn m h.nodes) (sym e) there) ];
        places = λ p q there there'. elim (held-more places_of silent-places q there') [ inl old ↦ before.places p q there old | inr one ↦ same_place-sym q p (nothing.places q p one there) ];
        stays = λ n there there'. elim (uses-mine n there') [ inl old ↦ before.stays n there old | inr (p, one, is) ↦ nothing.enters p one (subst (λ m. IsIn m h.dropped) (sym is) there) ];
        moves = and-turned mine.moves h.moves (moves-mine h (and-turned h.moves (holds_now x.files id).moves before.moves) nothing.moves);
      })
    where
      and-turned : (a b : Bool) → (a && b) ≡ false → (b && a) ≡ false
      and-turned true b none = ap (λ k. k && true) none
      and-turned false true none = refl
      and-turned false false none = refl

  all-apart : all_files_apart z ≡ true
  all-apart = list_all-from _ (undecided x) (λ t there. list_all-from (files_apart z t) (others_undecided x.transactions.items (Some t.id)) (λ u there'.
      let kept = IsIn-filter (λ (v : Transaction). is_undecided v && not (is_of v.id (Some t.id))) x.transactions.items u there' in
      let parts = and_parts (is_undecided u) (not (is_of u.id (Some t.id))) kept.1 in
      let u-there : IsIn u (undecided x) = IsIn-kept (λ (v : Transaction). is_undecided v && not (is_of v.id None)) x.transactions.items u kept.0 (and_from _ _ parts.0 refl) in
      let before : are_apart (holds_now x.files t.id) (holds_now x.files u.id) ≡ true = list_all-at (files_apart x t) (others_undecided x.transactions.items (Some t.id))
      (list_all-at (λ (v : Transaction). list_all (files_apart x v) (others_undecided x.transactions.items (Some v.id))) (undecided x) sound.apart t there) u there' in
      two t u there u-there (not-true _ parts.1) before))
    where
      two : (t u : Transaction) → IsIn t (undecided x) → IsIn u (undecided x) → same_id u.id t.id ≡ false → are_apart (holds_now x.files t.id) (holds_now x.files u.id) ≡ true → are_apart (holds_now z.files t.id) (holds_now z.files u.id) ≡ true
      two t u t-there u-there differ before = elim (cases_Bool (same_id id t.id)) [
        | inl t-is ↦
            let e = same_id-equal id t.id t-is in
            let u-other : same_id id u.id ≡ false = same_id-sym u.id id (subst (λ (i : Id). same_id u.id i ≡ false) (sym e) differ) in
            subst (λ (i : Id). are_apart (holds_now z.files i) (holds_now z.files u.id) ≡ true) e
            (ap (λ h. are_apart h (holds_now z.files u.id)) mine-holds ∙ ap (λ h. are_apart mine h) (others-hold u.id u-other)
            ∙ mine-apart (holds_now x.files u.id) (subst (λ (i : Id). are_apart (holds_now x.files i) (holds_now x.files u.id) ≡ true) (sym e) before) (owns.alone u u-there u-other))
        | inr t-other ↦ elim (cases_Bool (same_id id u.id)) [
          | inl u-is ↦
              let e = same_id-equal id u.id u-is in
              subst (λ (i : Id). are_apart (holds_now z.files t.id) (holds_now z.files i) ≡ true) e
              (ap (λ h. are_apart h (holds_now z.files id)) (others-hold t.id t-other) ∙ ap (λ h. are_apart (holds_now x.files t.id) h) mine-holds
              ∙ apart-mine (holds_now x.files t.id) (subst (λ (i : Id). are_apart (holds_now x.files t.id) (holds_now x.files i) ≡ true) (sym e) before) (owns.alone t t-there t-other))
          | inr u-other ↦ ap (λ h. are_apart h (holds_now z.files u.id)) (others-hold t.id t-other) ∙ ap (λ h. are_apart (holds_now x.files t.id) h) (others-hold u.id u-other) ∙ before
        ]
      ]

  -- ---- entries

  entry-of : (o : OwnChanges) → IsIn o z.files.table.own → (o ≡ entry id new) ⊎ (IsIn o x.files.table.own × (same_id id o.transaction ≡ false))
  entry-of o there = IsIn-with_changes x.files.table.own id new sound.own_once o there

  -- what is so of each entry
  each : (P : OwnChanges → Type 0) → P (entry id new) → ((o : OwnChanges) → IsIn o x.files.table.own → same_id id o.transaction ≡ false → P o) → (o : OwnChanges) → IsIn o z.files.table.own → P o
  each P mine' others_undecided' o there = elim (entry-of o there) [ inl e ↦ subst P (sym e) mine' | inr old ↦ others_undecided' o old.0 old.1 ]

  pub made-or-opened-still : (n : ℕ) → made_or_opened x.files id n ≡ true → made_or_opened z.files id n ≡ true
  made-or-opened-still n is = elim (or_cases (has_made ms n) (is_some (first_open_of x.files.first_opens id n)) is) [
    | inl made ↦ or_left _ _ (ap (λ ds. has_made ds n) own-itself ∙ has-made-still n made)
    | inr opened ↦ or_right _ _ opened
  ]

  -- bytes that the transaction gives are of files that it made or first opened
  opened-mine : list_all (is_change_of_opened z id) new ≡ true
  opened-mine = list_all-from (is_change_of_opened z id) new (λ d there. elim (final-change cs by d there) [
    | inl (has, name) ↦ or_left _ _ (or_left _ _ name)
    | inr rest ↦ elim (cases_Bool (id.boot == x.recorded.boots)) [
      | inr back ↦ or_left (not (changes_bytes d) || not (id.boot == x.recorded.boots)) (made_or_opened z.files id (node_of d)) (or_right (not (changes_bytes d)) (not (id.boot == x.recorded.boots)) (not_from_false _ back))
      | inl now ↦ or_right (not (changes_bytes d) || not (id.boot == x.recorded.boots)) (made_or_opened z.files id (node_of d)) (elim (written-why cs [] (node_of d) rest.0) [ inl none ↦ absurd none | inr (e, has, is, why) ↦ given now (node_of d) e is why (of-two e has) ])
    ]
  ])
    where
      opened-old : (e : Change) → IsIn e ms → is_change_of_opened x id e ≡ true
      opened-old e has = list_all-at (is_change_of_opened x id) ms (own_changes-by (λ ds. list_all (is_change_of_opened x id) ds ≡ true) x.files.table.own id refl (λ o there is.
          subst (λ (i : Id). list_all (is_change_of_opened x i) o.changes ≡ true) is (list_all-at (λ (p : OwnChanges). list_all (is_change_of_opened x p.transaction) p.changes) x.files.table.own sound.own_opened o there))) e has

      given : (id.boot == x.recorded.boots) ≡ true → (n : ℕ) → (e : Change) → node_of e ≡ n → (changes_bytes e || is_make e) ≡ true → IsIn e ms ⊎ (c ≡ e) → made_or_opened z.files id n ≡ true
      given now n e is why (inl old) = elim (or_cases (changes_bytes e) (is_make e) why) [
        | inl bytes ↦ elim (or_cases (not (changes_bytes e) || not (id.boot == x.recorded.boots)) (made_or_opened x.files id (node_of e)) (opened-old e old)) [
          | inl rest ↦ elim (or_cases (not (changes_bytes e)) (not (id.boot == x.recorded.boots)) rest) [
            | inl name ↦ absurd (true≢false (sym bytes ∙ not-true _ name))
            | inr back ↦ absurd (true≢false (sym now ∙ not-true _ back))
          ]
          | inr opened ↦ made-or-opened-still n (subst (λ m. made_or_opened x.files id m ≡ true) is opened)
        ]
        | inr make ↦ made-or-opened-still n (or_left _ _ (list_any-from (λ change. is_make change && node_of change == n) ms e old (and_from _ _ make (eq-eqb _ _ is))))
      ]
      given now n e is why (inr same) = elim (or_cases (changes_bytes e) (is_make e) why) [
        | inl bytes ↦ made-or-opened-still n (subst (λ m. made_or_opened x.files id m ≡ true) (ap node_of same ∙ is) (owns.opened (ap changes_bytes same ∙ bytes)))
        | inr make ↦ or_left _ _ (ap (λ ds. has_made ds n) own-itself ∙ list_any-from (λ change. is_make change && node_of change == n) new c
            (name-final cs by c (IsIn-right c ms (c ∷ []) (inl refl)) (names-if-make c (ap is_make same ∙ make))) (and_from _ _ (ap is_make same ∙ make) (eq-eqb _ _ (ap node_of same ∙ is))))
      ]

  -- the next number is of no node
  new-number : (n : ℕ) → IsIn n (numbers_made new) → (is_none (node_at x.files.tree n) ≡ true) × (is_drawn_node z.files n ≡ true)
  new-number n there = elim (made-new n there) [
    | inl old ↦ (
      list_all-at (λ n. is_none (node_at x.files.tree n)) (numbers_made ms) (own_changes-by (λ ds. list_all (λ n. is_none (node_at x.files.tree n)) (numbers_made ds) ≡ true) x.files.table.own id refl (λ o has e.
          list_all-at (λ (p : OwnChanges). list_all (λ n. is_none (node_at x.files.tree n)) (numbers_made p.changes)) x.files.table.own sound.own_new o has)) n old,
      drawn-more n (drawn-made x sound id n old),
    )
    | inr (make, is) ↦ (
      subst (λ m. is_none (node_at x.files.tree m) ≡ true) (sym (owns.fresh make) ∙ is) (ap is_none (is_there-none x.files.tree x.files.table.next_node (next-free x sound))),
      and_from _ _ (le-leb 2 n (omega (arith, sound.next_from, owns.fresh make, is))) (lt-ltb n z.files.table.next_node (omega (arith, next-made x.files.table.next_node c make, is))),
    )
  ]

  -- no number of another transaction
  others-number : (o : OwnChanges) → IsIn o x.files.table.own → same_id id o.transaction ≡ false → (n : ℕ) → IsIn n (numbers_made new) → IsIn n (numbers_made o.changes) → ⊥
  others-number o there differ n mine' theirs = elim (made-new n mine') [
    | inl old ↦ elim (own_changes-found x.files.table.own id) [
      | inl none ↦ absurd (subst (λ ds. IsIn n (numbers_made ds)) none old)
      | inr (p, has, is, changes) ↦
          let old' : IsIn n (numbers_made p.changes) = subst (λ ds. IsIn n (numbers_made ds)) (sym changes) old in
          elim (each_pair-either make_apart x.files.table.own sound.own_differ p o has there) [
            | inl e ↦ true≢false (sym (same_id-from id o.transaction (sym is ∙ ap (λ (q : OwnChanges). q.transaction) e)) ∙ differ)
            | inr (inl first) ↦ true≢false (sym (in-list n (numbers_made p.changes) old') ∙ no_test (is_in (numbers_made p.changes)) n (numbers_made o.changes) (not-true _ first) theirs)
            | inr (inr second) ↦ true≢false (sym (in-list n (numbers_made o.changes) theirs) ∙ no_test (is_in (numbers_made o.changes)) n (numbers_made p.changes) (not-true _ second) old')
          ]
    ]
    | inr (make, is) ↦
        let drawn = list_all-at (is_drawn_node x.files) (numbers_made o.changes) (list_all-at (λ (p : OwnChanges). list_all (is_drawn_node x.files) (numbers_made p.changes)) x.files.table.own sound.own_drawn o there) n theirs in
        omega (arith, below n drawn, owns.fresh make, is)
  ]
    where
      in-list : (n : ℕ) (ns : List ℕ) → IsIn n ns → is_in ns n ≡ true
      in-list n ns there = list_any-from (λ m. m == n) ns n there (eq-eqb n n refl)

  -- ---- first opens and open files

  last-still : (o : FirstOpen) → IsIn o x.files.first_opens → is_open_last z.files o ≡ true
  last-still o there = elim (cases_Bool (same_id id o.transaction)) [
    | inr other ↦
        ap (λ h. not (is_in h.nodes o.file) || is_last_version x.files o) (others-hold o.transaction other)
        ∙ list_all-at (is_open_last x.files) x.files.first_opens sound.first_last o there
    | inl is ↦
        let e = same_id-equal id o.transaction is in
        let was : (not (is_in (holds_now x.files id).nodes o.file) || is_last_version x.files o) ≡ true = subst (λ (i : Id). (not (is_in (holds_now x.files i).nodes o.file) || is_last_version x.files o) ≡ true) (sym e)
        (list_all-at (is_open_last x.files) x.files.first_opens sound.first_last o there) in
        subst (λ (i : Id). (not (is_in (holds_now z.files i).nodes o.file) || is_last_version x.files o) ≡ true) e
        (ap (λ h. not (is_in h.nodes o.file) || is_last_version x.files o) mine-holds
        ∙ go (sym e) was (cases_Bool (is_in mine.nodes o.file)))
  ]
    where
      go : o.transaction ≡ id → (not (is_in (holds_now x.files id).nodes o.file) || is_last_version x.files o) ≡ true → (is_in mine.nodes o.file ≡ true) ⊎ (is_in mine.nodes o.file ≡ false)
          → (not (is_in mine.nodes o.file) || is_last_version x.files o) ≡ true
      go of was (inr free) = or_left _ _ (not_from_false _ free)
      go of was (inl held) =
          let found = list_any-at (λ m. m == o.file) mine.nodes held in
          elim (nodes-mine found.0 found.1) [
            | inl old ↦ elim (or_cases _ (is_last_version x.files o) was) [
              | inr last ↦ or_right _ _ last
              | inl free ↦ absurd (true≢false (sym (list_any-from (λ m. m == o.file) (holds_now x.files id).nodes found.0 old found.2) ∙ not-true _ free))
            ]
            | inr e ↦ or_right _ _ (owns.last o there of (e ∙ eqb-true _ _ found.2))
          ]

  pub seen-after : (tree-is : Unit {0}) → tree_seen z.files (Some id) ≡ changed_all seen (names_of (c ∷ []))
  seen-after u = ap (λ ds. changed_all x.files.tree (names_of ds)) own-itself ∙ ap (changed_all x.files.tree) (names-final cs by ∙ filter-append names_only ms (c ∷ [])) ∙ fold-append changed x.files.tree (names_of ms) (names_of (c ∷ []))

  pub file-still : (n : ℕ) → (is_drop c ≡ true → node_of c ≡ n → ⊥) → is_file seen n ≡ true → is_file (tree_seen z.files (Some id)) n ≡ true
  file-still n other file = subst (λ t. is_file t n ≡ true) (sym (seen-after tt)) (go (names_only c))
    where
      one : is_file (changed seen c) n ≡ true
      one = elim (cases_Bool (is_drop c)) [
        | inl drop ↦ ap (λ o. is_some (content_of o)) (node_at-elsewhere seen c (Fits-from seen c (Applies-from seen c owns.applies)) n (other drop)) ∙ file
        | inr kept ↦ is_file-kept seen c owns.applies kept n file
      ]

      go : (b : Bool) → is_file (changed_all seen (cond b (c ∷ []) [])) n ≡ true
      go true = one
      go false = file

  own-still : (o : OpenFile) → IsIn o x.files.table.opens → (t : Option Id) → o.transaction ≡ t → may_use x o t ≡ true → may_use z o t ≡ true
  own-still o there None of well = refl
  own-still o there (Some i) of well =
      let e = and_parts _ (not (writes o.access) || is_file (tree_seen x.files (Some i)) o.node) well in
      let d = and_parts _ (not (has_dropped (own_changes x.files.table.own i) o.node)) e.0 in
      let m = and_parts _ (made_or_opened x.files i o.node) d.0 in
      elim (cases_Bool (same_id id i)) [
        | inr other ↦ and_from _ _ (and_from _ _ (and_from _ _ m.0 (ap (λ ds. has_made ds o.node || is_some (first_open_of x.files.first_opens i o.node)) (own-other i other) ∙ m.1))
            (ap (λ ds. not (has_dropped ds o.node)) (own-other i other) ∙ d.1))
            (ap (λ ds. not (writes o.access) || is_file (changed_all x.files.tree (names_of ds)) o.node) (own-other i other) ∙ e.1)
        | inl is ↦ itself i (same_id-equal id i is) (subst (λ t. is_of i t ≡ true) (sym of) (same_id-from i i refl)) m.0 m.1 (not-true _ d.1) e.1
      ]
    where
      itself : (i : Id) → id ≡ i → is_of i o.transaction ≡ true → (is_undecided_in x.transactions.items i && i.boot == x.recorded.boots) ≡ true → made_or_opened x.files i o.node ≡ true
          → has_dropped (own_changes x.files.table.own i) o.node ≡ false → (not (writes o.access) || is_file (tree_seen x.files (Some i)) o.node) ≡ true → may_use z o (Some i) ≡ true
      itself i same of = subst (λ (i : Id). is_of i o.transaction ≡ true → (is_undecided_in x.transactions.items i && i.boot == x.recorded.boots) ≡ true → made_or_opened x.files i o.node ≡ true
          → has_dropped (own_changes x.files.table.own i) o.node ≡ false → (not (writes o.access) || is_file (tree_seen x.files (Some i)) o.node) ≡ true → may_use z o (Some i) ≡ true) same
          (λ of' who made free sees. and_from _ _ (and_from _ _ (and_from _ _ who (made-or-opened-still o.node made))
          (not_from_false _ (ap (λ ds. has_dropped ds o.node) own-itself ∙ not-dropped o.node free (λ drop. owns.kept drop o there of'))))
          (elim (or_cases (not (writes o.access)) (is_file seen o.node) sees) [
            | inl none ↦ or_left _ _ none
            | inr file ↦ or_right _ _ (file-still o.node (λ drop. owns.kept drop o there of') file)
          ])) of

  -- a file that it made or first opened becomes no directory in what a transaction sees
  no-directory : (i : Id) (n : ℕ) → is_drawn_node x.files n ≡ true → is_no_directory x.files n i ≡ true → is_no_directory z.files n i ≡ true
  no-directory i n drawn was = elim (cases_Bool (same_id id i)) [
    | inr other ↦ ap (λ ds. not (is_directory (changed_all x.files.tree (names_of ds)) n)) (own-other i other) ∙ was
    | inl is ↦ mine i (same_id-equal id i is) was
  ]
    where
      one : (b : Bool) → is_directory (changed_all seen (cond b (c ∷ []) [])) n ≡ true → is_directory seen n ≡ true
      one true = directory-was seen c owns.applies n (λ make at. omega (arith, below n drawn, owns.fresh make, at))
      one false = λ dir. dir

      mine : (i : Id) → id ≡ i → is_no_directory x.files n i ≡ true → is_no_directory z.files n i ≡ true
      mine i same = subst (λ (i : Id). is_no_directory x.files n i ≡ true → is_no_directory z.files n i ≡ true) same
          (λ was. not_from_false _ (false_from_ne_true _ (λ dir. true≢false (sym (one (names_only c) (subst (λ t. is_directory t n ≡ true) (seen-after tt) dir)) ∙ not-true _ was))))

  -- what it dropped is gone, and stays so
  gone-mine : list_all (is_gone seen) ms ≡ true → list_all (is_gone (tree_seen z.files (Some id))) new ≡ true
  gone-mine was = list_all-from (is_gone (tree_seen z.files (Some id))) new (λ d there. elim (cases_Bool (is_drop d)) [
    | inr other ↦ or_left _ _ (not_from_false _ other)
    | inl drop ↦ or_right _ _ (not_from_false _ (false_from_ne_true _ (λ here. go d drop (subst (λ t. is_there t (node_of d) ≡ true) (seen-after tt) here) (elim (final-change cs by d there) [
      | inl (has, name) ↦ of-two d has
      | inr rest ↦ absurd (true≢false (sym drop ∙ rest.4))
    ]))))
  ])
    where
      before : (d : Change) → IsIn d ms → is_drop d ≡ true → is_there seen (node_of d) ≡ false
      before d old drop = elim (or_cases (not (is_drop d)) (not (is_there seen (node_of d))) (list_all-at (is_gone seen) ms was d old)) [ inl other ↦ absurd (true≢false (sym drop ∙ not-true _ other)) | inr gone ↦ not-true _ gone ]

      now-gone : (k : Change) → applies seen k ≡ true → is_drop k ≡ true → is_there (changed seen k) (node_of k) ≡ true → ⊥
      now-gone (Drop node) is drop here =
          let at = Applies-from seen (Drop node) is in
          true≢false (sym here ∙ or_from _ _ at.0 (ap is_some (node_at-there seen (Drop node) (Fits-from seen (Drop node) at))))
      now-gone (Make node parent kind name) is drop here = true≢false (sym drop)
      now-gone (Put node offset contents) is drop here = true≢false (sym drop)
      now-gone (Cut node size pages) is drop here = true≢false (sym drop)
      now-gone (Move node parent name) is drop here = true≢false (sym drop)

      go : (d : Change) → is_drop d ≡ true → is_there (changed_all seen (names_of (c ∷ []))) (node_of d) ≡ true → IsIn d ms ⊎ (c ≡ d) → ⊥
      go d drop here (inl old) = one (names_only c) here
        where
          one : (b : Bool) → is_there (changed_all seen (cond b (c ∷ []) [])) (node_of d) ≡ true → ⊥
          one true here = true≢false (sym (there-was seen c owns.applies (node_of d) (λ make at. omega (arith, below (node_of d) (own-drawn x sound id (node_of d) (IsIn-map node_of d ms old)), owns.fresh make, at)) here) ∙ before d old drop)
          one false here = true≢false (sym here ∙ before d old drop)
      go d drop here (inr same) = two (names_only c) (names-if-drop c (ap is_drop same ∙ drop)) here
        where
          two : (b : Bool) → b ≡ true → is_there (changed_all seen (cond b (c ∷ []) [])) (node_of d) ≡ true → ⊥
          two true name here = now-gone c owns.applies (ap is_drop same ∙ drop) (subst (λ n. is_there (changed seen c) n ≡ true) (sym (ap node_of same)) here)
          two false name here = true≢false (sym name)

  opened-file : (o : OpenFile) → IsIn o x.files.table.opens → (t : Option Id) → opens_no_directory x.files o.node t ≡ true → may_use x o t ≡ true → opens_no_directory z.files o.node t ≡ true
  opened-file o there None was well = refl
  opened-file o there (Some i) was well =
      let e = and_parts _ (not (writes o.access) || is_file (tree_seen x.files (Some i)) o.node) well in
      let d = and_parts _ (not (has_dropped (own_changes x.files.table.own i) o.node)) e.0 in
      no-directory i o.node (drawn-node x sound i o.node (and_parts _ (made_or_opened x.files i o.node) d.0).1) was

  alone-still : (o : OpenFile) → IsIn o x.files.table.opens → is_alone z o ≡ true
  alone-still o there = go (is_none o.transaction) (writes o.access) refl refl
    where
      touched : is_none o.transaction ≡ true → writes o.access ≡ true → (u : Transaction) → IsIn u (undecided x) → is_touched_by x o.node u ≡ false → is_touched_by z o.node u ≡ false
      touched plain may u u-there free =
          let parts = or_parts (is_in (holds_now x.files u.id).nodes o.node) (list_any (λ (p : OpenFile). is_of u.id p.transaction && p.node == o.node) x.files.table.opens) free in
          or_from _ _ (elim (cases_Bool (same_id id u.id)) [
            | inr other ↦ ap (λ h. is_in h.nodes o.node) (others-hold u.id other) ∙ parts.0
            | inl is ↦
                let e = same_id-equal id u.id is in
                subst (λ (i : Id). is_in (holds_now z.files i).nodes o.node ≡ false) e (ap (λ h. is_in h.nodes o.node) mine-holds ∙ none-from (λ m. m == o.node) mine.nodes (λ m has. elim (nodes-mine m has) [
                  | inl old ↦ no_test (λ m. m == o.node) m (holds_now x.files id).nodes (subst (λ (i : Id). is_in (holds_now x.files i).nodes o.node ≡ false) (sym e) parts.0) old
                  | inr at ↦ ne_eqb m o.node (λ e'. owns.plain o there plain may (at ∙ e'))
                ]))
          ]) parts.1

      go : (p w : Bool) → is_none o.transaction ≡ p → writes o.access ≡ w → is_alone z o ≡ true
      go false w plain may = or_left _ _ (not_from_false _ (ap (λ b. b && writes o.access) plain))
      go true false plain may = or_left _ _ (not_from_false _ (and-right (is_none o.transaction) (writes o.access) may))
        where
          and-right : (a b : Bool) → b ≡ false → (a && b) ≡ false
          and-right true b none = none
          and-right false b none = refl
      go true true plain may = or_right _ _ (not_from_false _ (none-from (is_touched_by z o.node) (undecided x) (λ u u-there. touched plain may u u-there (writer-alone x sound o u there plain may u-there))))

  pub owned-sound : IsSoundFiles z
  owned-sound = record {
    own_undecided = list_all-from _ z.files.table.own (each (λ o. is_undecided_in x.transactions.items o.transaction ≡ true) owns.who (λ o there differ.
        list_all-at (λ (p : OwnChanges). is_undecided_in x.transactions.items p.transaction) x.files.table.own sound.own_undecided o there));
    own_once = pairs-with_changes changed_by_two x.files.table.own id new sound.own_once sound.own_once (λ u there differ. (not_from_false _ differ, not_from_false _ (same_id-sym id u.transaction differ)));
    own_some = list_all-from _ z.files.table.own (each (λ o. has_changes o.changes ≡ true) some-change (λ o there differ. list_all-at (λ (p : OwnChanges). has_changes p.changes) x.files.table.own sound.own_some o there));
    own_final = All-by (λ (o : OwnChanges). changes_to_commit o.changes (bytes_seen z.files (Some o.transaction)) ≡ o.changes) z.files.table.own
        (each (λ o. changes_to_commit o.changes (bytes_seen z.files (Some o.transaction)) ≡ o.changes)
        (form.again (bytes_seen z.files (Some id)) (λ f there. ap (λ ds. bytes_with z.files id ds f) own-itself ∙ form.gives (first_bytes z.files id new f) f there))
        (λ o there differ. ap (λ ds. changes_to_commit o.changes (λ f. bytes_with x.files o.transaction ds f)) (own-other o.transaction differ)
        ∙ All-in (λ (p : OwnChanges). changes_to_commit p.changes (bytes_seen x.files (Some p.transaction)) ≡ p.changes) x.files.table.own sound.own_final o there));
    own_apply = list_all-from _ z.files.table.own (each (λ o. changes_apply x.files.tree o.changes ≡ true)
        (final-applies x.files.tree ms c (bytes_seen x.files (Some id)) by (own-final x sound id) (own-apply x sound id) owns.applies)
        (λ o there differ. list_all-at (λ (p : OwnChanges). changes_apply x.files.tree p.changes) x.files.table.own sound.own_apply o there));
    own_opened = list_all-from _ z.files.table.own (each (λ o. list_all (is_change_of_opened z o.transaction) o.changes ≡ true) opened-mine (λ o there differ. list_all-from (is_change_of_opened z o.transaction) o.changes (λ d has.
        ap (λ ds. not (changes_bytes d) || not (o.transaction.boot == x.recorded.boots) || (has_made ds (node_of d) || is_some (first_open_of x.files.first_opens o.transaction (node_of d)))) (own-other o.transaction differ)
        ∙ list_all-at (is_change_of_opened x o.transaction) o.changes (list_all-at (λ (p : OwnChanges). list_all (is_change_of_opened x p.transaction) p.changes) x.files.table.own sound.own_opened o there) d has)));
    own_puts = list_all-from _ z.files.table.own (each (λ o. list_all puts_some o.changes ≡ true)
        (list_all-from puts_some new (λ d there. elim (final-change cs by d there) [ inl (has, name) ↦ puts-name d name | inr rest ↦ rest.2 ]))
        (λ o there differ. list_all-at (λ (p : OwnChanges). list_all puts_some p.changes) x.files.table.own sound.own_puts o there));
    own_drawn = list_all-from _ z.files.table.own (each (λ o. list_all (is_drawn_node z.files) (numbers_made o.changes) ≡ true)
        (list_all-from (is_drawn_node z.files) (numbers_made new) (λ n there. (new-number n there).1))
        (λ o there differ. list_all-from (is_drawn_node z.files) (numbers_made o.changes) (λ n made.
        drawn-more n (list_all-at (is_drawn_node x.files) (numbers_made o.changes) (list_all-at (λ (p : OwnChanges). list_all (is_drawn_node x.files) (numbers_made p.changes)) x.files.table.own sound.own_drawn o there) n made))));
    own_new = list_all-from _ z.files.table.own (each (λ o. list_all (λ n. is_none (node_at x.files.tree n)) (numbers_made o.changes) ≡ true)
        (list_all-from (λ n. is_none (node_at x.files.tree n)) (numbers_made new) (λ n there. (new-number n there).0))
        (λ o there differ. list_all-at (λ (p : OwnChanges). list_all (λ n. is_none (node_at x.files.tree n)) (numbers_made p.changes)) x.files.table.own sound.own_new o there));
    own_differ = pairs-with_changes make_apart x.files.table.own id new sound.own_once sound.own_differ (λ u there differ. (
      not_from_false _ (none-from (is_in (numbers_made new)) (numbers_made u.changes) (λ n theirs. none-from (λ m. m == n) (numbers_made new) (λ m mine'. ne_eqb m n (λ e. others-number u there differ n (subst (λ k. IsIn k (numbers_made new)) e mine') theirs)))),
      not_from_false _ (none-from (is_in (numbers_made u.changes)) (numbers_made new) (λ n mine'. none-from (λ m. m == n) (numbers_made u.changes) (λ m theirs. ne_eqb m n (λ e. others-number u there differ n mine' (subst (λ k. IsIn k (numbers_made u.changes)) e theirs))))),
    ));
    own_gone = list_all-from _ z.files.table.own (each (λ o. (not (o.transaction.boot == x.recorded.boots) || list_all (is_gone (tree_of z.files o.transaction)) o.changes) ≡ true)
        (elim (or_cases (not (id.boot == x.recorded.boots)) (list_all (is_gone seen) ms) gone-before) [ inl back ↦ or_left _ _ back | inr gone ↦ or_right _ _ (gone-mine gone) ])
        (λ o there differ. ap (λ ds. not (o.transaction.boot == x.recorded.boots) || list_all (is_gone (changed_all x.files.tree (names_of ds))) o.changes) (own-other o.transaction differ)
        ∙ list_all-at (λ (p : OwnChanges). not (p.transaction.boot == x.recorded.boots) || list_all (is_gone (tree_of x.files p.transaction)) p.changes) x.files.table.own sound.own_gone o there));
    first_once = sound.first_once;
    first_undecided = sound.first_undecided;
    first_not_made = list_all-from _ x.files.first_opens (λ o there. list_all-from _ z.files.table.own (each (λ p. not (is_in (numbers_made p.changes) o.file) ≡ true)
        (not_from_false _ (none-from (λ m. m == o.file) (numbers_made new) (λ m made. ne_eqb m o.file (λ e. not-made-by o there m made e))))
        (λ p has differ. list_all-at (λ (p : OwnChanges). not (is_in (numbers_made p.changes) o.file)) x.files.table.own (made-by-none o there) p has)));
    first_drawn = list_all-from _ x.files.first_opens (λ o there. drawn-more o.file (list_all-at (λ (p : FirstOpen). is_drawn_node x.files p.file) x.files.first_opens sound.first_drawn o there));
    first_versions = sound.first_versions;
    first_bytes = sound.first_bytes;
    first_last = list_all-from _ x.files.first_opens last-still;
    first_files = list_all-from _ x.files.first_opens (λ o there. no-directory o.transaction o.file (list_all-at (λ (p : FirstOpen). is_drawn_node x.files p.file) x.files.first_opens sound.first_drawn o there)
        (list_all-at (λ (p : FirstOpen). is_no_directory x.files p.file p.transaction) x.files.first_opens sound.first_files o there));
    opens_files = list_all-from _ x.files.table.opens (λ o there. opened-file o there o.transaction (list_all-at (λ (p : OpenFile). opens_no_directory x.files p.node p.transaction) x.files.table.opens sound.opens_files o there)
        (list_all-at (is_own_well x) x.files.table.opens sound.opens_own o there));
    formed = sound.formed;
    tree_drawn = list_all-from _ x.files.tree (λ n there. drawn-more n.number (list_all-at (λ (n : Node). is_drawn_node x.files n.number) x.files.tree sound.tree_drawn n there));
    next_from = omega (arith, sound.next_from, more);
    next_to = owns.limit;
    versions_rise = sound.versions_rise;
    versions_there = sound.versions_there;
    opens_rise = sound.opens_rise;
    opens_drawn = sound.opens_drawn;
    opens_named = sound.opens_named;
    opens_plain = list_all-from _ x.files.table.opens (λ o there. elim (or_cases (not (is_none o.transaction)) _ (list_all-at (is_plain_well x.files) x.files.table.opens sound.opens_plain o there)) [
      | inl own ↦ or_left _ _ own
      | inr both ↦ let parts = and_parts (is_drawn_node x.files o.node) _ both in or_right _ _ (and_from _ _ (drawn-more o.node parts.0) parts.1)
    ]);
    opens_own = list_all-from _ x.files.table.opens (λ o there. own-still o there o.transaction refl (list_all-at (is_own_well x) x.files.table.opens sound.opens_own o there));
    apart = all-apart;
    writers = list_all-from _ x.files.table.opens alone-still;
  }
    where
      gone-before : (not (id.boot == x.recorded.boots) || list_all (is_gone seen) ms) ≡ true
      gone-before = elim (own_changes-found x.files.table.own id) [
        | inl none ↦ or_right _ _ (subst (λ ds. list_all (is_gone seen) ds ≡ true) (sym none) refl)
        | inr (o, has, is, changes) ↦
            ap (λ ds. not (id.boot == x.recorded.boots) || list_all (is_gone seen) ds) (sym changes)
            ∙ ap (λ i. not (i.boot == x.recorded.boots) || list_all (is_gone (tree_of x.files i)) o.changes) (sym is)
            ∙ list_all-at (λ (p : OwnChanges). not (p.transaction.boot == x.recorded.boots) || list_all (is_gone (tree_of x.files p.transaction)) p.changes) x.files.table.own sound.own_gone o has
      ]

      some-change : has_changes new ≡ true
      some-change = elim (cases_Bool (changes_bytes c)) [
        | inr name ↦ some-from new c (name-final cs by c (IsIn-right c ms (c ∷ []) (inl refl)) (not_from_false _ name))
        | inl bytes ↦ some-from new (Cut (node_of c) 0 []) (IsIn-right (Cut (node_of c) 0 []) (names_of cs) _
            (IsIn-flat_map (λ file. final_bytes file (by file)) (written_files cs) (node_of c) (Cut (node_of c) 0 []) (subst (IsIn (node_of c)) (sym (fold-append written_after [] ms (c ∷ []))) (written-last c (written_files ms) bytes)) (first-cut (node_of c) (by (node_of c)))))
      ]

      made-by-none : (o : FirstOpen) → IsIn o x.files.first_opens → list_all (λ (p : OwnChanges). not (is_in (numbers_made p.changes) o.file)) x.files.table.own ≡ true
      made-by-none o there = list_all-at (λ (o : FirstOpen). list_all (λ p. not (is_in (numbers_made p.changes) o.file)) x.files.table.own) x.files.first_opens sound.first_not_made o there

      not-made-by : (o : FirstOpen) → IsIn o x.files.first_opens → (m : ℕ) → IsIn m (numbers_made new) → m ≡ o.file → ⊥
      not-made-by o there m made e = elim (made-new m made) [
        | inl old ↦ elim (own_changes-found x.files.table.own id) [
          | inl none ↦ absurd (subst (λ ds. IsIn m (numbers_made ds)) none old)
          | inr (p, has, is, changes) ↦
              true≢false (sym (list_any-from (λ k. k == o.file) (numbers_made p.changes) m (subst (λ ds. IsIn m (numbers_made ds)) (sym changes) old) (eq-eqb _ _ e))
              ∙ not-true _ (list_all-at (λ (p : OwnChanges). not (is_in (numbers_made p.changes) o.file)) x.files.table.own (made-by-none o there) p has))
        ]
        | inr (make, is) ↦ omega (arith, below o.file (list_all-at (λ (p : FirstOpen). is_drawn_node x.files p.file) x.files.first_opens sound.first_drawn o there), owns.fresh make, is, e)
      ]

pub own_change_law : OwnChangeLaw
own_change_law = owned-sound
