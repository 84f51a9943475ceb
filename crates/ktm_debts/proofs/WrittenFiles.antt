-- Transactions write no more files than there are nodes, since no two write the same file.
use Rattle.std.proofs.Common.{◌≡◌, ℕ, ◌+◌, ◌≤◌, ◌==◌, not, Bool, true, false, cond, is_some, List, [], ◌∷◌, filter, length, map, sum_by, Option, Some, None, refl, sym, ◌∙◌, ap, subst, arith, inl, inr, ◌⊎◌}
use Rattle.std.specs.Bool.{⊤}
use Rattle.std.specs.Prelude.{if◌then◌else◌}
use Rattle.std.proofs.lemmas.Bool.{and_parts, cases_Bool, eq-eqb, eqb-true, not-true, true≢false}
use Rattle.std.proofs.lemmas.List.Filters.{length-filter_both}
use Rattle.std.proofs.lemmas.List.Sums.{sum_by-cons}
use Rattle.std.specs.List.{list_all}
use Rattle.ktm_base.specs.declared.id.Id.{Id}
use Rattle.ktm_world.specs.declared.change.Change.{Change}
use Rattle.ktm_world.specs.declared.change.Change.TheVariants.{Make, Put, Cut, Move, Drop}
use Rattle.ktm_world.specs.declared.recorded.Node.{Node}
use Rattle.ktm_world.specs.Changes.{applies, changed, changed_all, changes_apply, node_of, nodes_made}
use Rattle.ktm_world.specs.Committed.{changes_to_commit, final_bytes, written_files}
use Rattle.ktm_world.specs.Files.{OwnChanges, bytes_seen, own_changes}
use Rattle.ktm_world.specs.Holds.{is_in}
use Rattle.ktm_world.specs.Present.{Present}
use Rattle.ktm_world.specs.Transactions.{same_id}
use Rattle.ktm_world.specs.Tree.{Tree, node_at}
use Rattle.ktm_world.proofs.offered.Lookups.{Fits, node_at-changed, remade}
use Rattle.txf_laws.specs.Elements.{IsIn, each_pair}
use Rattle.txf_laws.specs.FinalChanges.{names_of}
use Rattle.txf_laws.specs.SoundFiles.{IsSoundFiles, changed_by_two, is_undecided_in}
use Rattle.txf_laws.proofs.offered.CommitsOfOthers.{All-in, own_changes-of, undecided-entry}
use Rattle.txf_laws.proofs.offered.CommittedUnits.{nodes-all, suits-applies}
use Rattle.txf_laws.proofs.offered.Diamonds.{IsIn-right}
use Rattle.txf_laws.proofs.offered.Elements.{IsIn-flat_map, list_all-at, list_any-at, list_any-from}
use Rattle.txf_laws.proofs.offered.Sums.{sum-less}
use Rattle.txf_laws.proofs.offered.NormalForms.{ends_of, first-cut, rising-written}
use Rattle.txf_laws.proofs.offered.Reservations.{own-apart}
use Rattle.ktm_courses.proofs.offered.Moves.{IsIn-map}
use Rattle.ktm_room.proofs.offered.ChangeSizes.{as-many, written-there}

-- ---- parts of a list

-- no element is one of two parts
abbrev AreApart : {X Y : Type 0} → (X → Y → Bool) → List X → Type 0
AreApart test [] = ⊤
AreApart test (x ∷ xs) = ((z : _) → IsIn z xs → (y : _) → test x y ≡ true → test z y ≡ true → ⊥) × AreApart test xs

-- those of one part are left where another is taken out
left-within : {Y : Type 0} (own gone : Y → Bool) (ys : List Y) → ((y : Y) → gone y ≡ true → own y ≡ true → ⊥) → length (filter own ys) ≤ length (filter own (filter (λ y. not (gone y)) ys))
left-within own gone [] apart = omega arith
left-within own gone (y ∷ ys) apart =
    let rest = left-within own gone ys apart in
    elim (cases_Bool (own y)) [
      | inl is ↦ elim (cases_Bool (gone y)) [ inl out ↦ absurd (apart y out is) | inr stays ↦ rw (is, stays, is) (omega (arith, rest)) ]
      | inr other ↦ elim (cases_Bool (gone y)) [ inl out ↦ rw (other, out) rest | inr stays ↦ rw (other, stays, other) rest ]
    ]

-- parts of a list that are apart have no more elements than the list
parts-fit : {X Y : Type 0} (test : X → Y → Bool) (xs : List X) (ys : List Y) → AreApart test xs → sum_by (λ x. length (filter (test x) ys)) xs ≤ length ys
parts-fit test [] ys apart = omega arith
parts-fit test (x ∷ xs) ys (here, apart) =
    let left = filter (λ y. not (test x y)) ys in
    let rest = parts-fit test xs left apart in
    let more = sum-less (λ z. length (filter (test z) ys)) (λ z. length (filter (test z) left)) xs (λ z there. left-within (test z) (test x) ys (here z there)) in
    let both = length-filter_both (test x) (λ y. not (test x y)) (λ y. refl) ys in
    let all = sum_by-cons (λ z. length (filter (test z) ys)) x xs in
    omega arith

-- ---- some nodes of a tree

module _ (wanted : ℕ → Bool) where
  -- one tree has the nodes of another that are wanted, and maybe more of them
  abbrev Shows : Tree → Tree → Type 0
  Shows some all = (n : ℕ) → (node_at some n ≡ node_at all n) ⊎ ((wanted n ≡ false) × (node_at some n ≡ None))

  -- the nodes that are wanted
  abbrev only : Tree → Tree
  only tree = filter (λ (node : Node). wanted node.number) tree

  only-none : (tree : Tree) (n : ℕ) → wanted n ≡ false → node_at (only tree) n ≡ None
  only-none [] n off = refl
  only-none (x ∷ xs) n off = elim (cases_Bool (wanted x.number)) [
    | inl is ↦ elim (cases_Bool (x.number == n)) [
      | inl same ↦ absurd (true≢false (sym is ∙ ap wanted (eqb-true _ _ same) ∙ off))
      | inr other ↦ rw (is, other) (only-none xs n off)
    ]
    | inr fails ↦ rw fails (only-none xs n off)
  ]

  only-shows : (tree : Tree) → Shows (only tree) tree
  only-shows [] n = inl refl
  only-shows (x ∷ xs) n = elim (cases_Bool (wanted n)) [
    | inl is ↦ inl (there (x ∷ xs) is)
    | inr off ↦ inr (off, only-none (x ∷ xs) n off)
  ]
    where
      there : (tree : Tree) → wanted n ≡ true → node_at (only tree) n ≡ node_at tree n
      there [] is = refl
      there (y ∷ ys) is = elim (cases_Bool (y.number == n)) [
        | inl same ↦ (let found : (zs : Tree) → node_at (y ∷ zs) n ≡ Some y = λ zs. rw same refl in ap (λ b. node_at (if b then y ∷ only ys else only ys) n) (ap wanted (eqb-true _ _ same) ∙ is) ∙ found (only ys) ∙ sym (found ys))
        | inr other ↦ elim (cases_Bool (wanted y.number)) [ inl kept ↦ rw (kept, other) (there ys is) | inr out ↦ rw (out, other) (there ys is) ]
      ]

  -- a change of a node that is not there makes it, or does nothing
  remade-none : (c : Change) (o : Option Node) → (remade c None ≡ remade c o) ⊎ (remade c None ≡ None)
  remade-none (Make node parent kind name) o = inl refl
  remade-none (Put node offset contents) o = inr refl
  remade-none (Cut node size pages) o = inr refl
  remade-none (Move node parent name) o = inr refl
  remade-none (Drop node) o = inr refl

  shows-fits : (some all : Tree) (c : Change) → Fits all c → Shows some all → Fits some c
  shows-fits some all c fits shows make = elim (shows (node_of c)) [ inl same ↦ same ∙ fits make | inr none ↦ none.1 ]

  shows-changed : (some all : Tree) (c : Change) → Fits all c → Shows some all → Shows (changed some c) (changed all c)
  shows-changed some all c fits shows n =
      let here = node_at-changed some c (shows-fits some all c fits shows) n in
      let there = node_at-changed all c fits n in
      elim (shows n) [
        | inl same ↦ inl (here ∙ ap (λ o. cond (node_of c == n) (remade c o) o) same ∙ sym there)
        | inr none ↦ elim (cases_Bool (node_of c == n)) [
          | inl is ↦ elim (remade-none c (node_at all n)) [
            | inl made ↦ inl ((rw is at here) ∙ ap (remade c) none.1 ∙ made ∙ sym (rw is at there))
            | inr gone ↦ inr (none.0, (rw is at here) ∙ ap (remade c) none.1 ∙ gone)
          ]
          | inr other ↦ inr (none.0, (rw other at here) ∙ none.1)
        ]
      ]

  shows-all : (cs : List Change) (some all : Tree) → changes_apply all cs ≡ true → Shows some all → Shows (changed_all some cs) (changed_all all cs)
  shows-all [] some all applied shows = shows
  shows-all (c ∷ cs) some all applied shows =
      let is = and_parts (applies all c) (changes_apply (changed all c) cs) applied in
      shows-all cs (changed some c) (changed all c) is.1 (shows-changed some all c (suits-applies all c is.0).fits shows)

-- ---- the files that a transaction writes

-- do the changes write the node
abbrev pub are_of : List Change → Node → Bool
are_of cs node = is_in (written_files cs) node.number

-- each is one of the tree that it writes, or one that it makes
pub written-few : (tree : Tree) (cs : List Change) (by : ℕ → List ℕ) → changes_to_commit cs by ≡ cs → changes_apply tree cs ≡ true → length (written_files cs) ≤ length (filter (are_of cs) tree) + nodes_made cs
written-few tree cs by final applied =
    let wanted = is_in (written_files cs) in
    let some = only wanted tree in
    let many = as-many (written_files cs) (changed_all some cs) (rising-written cs [] tt) (λ n is. elim (shows-all wanted cs some tree applied (only-shows wanted tree) n) [
      | inl same ↦ ap is_some same ∙ written-there tree cs by final applied n is
      | inr none ↦ absurd (true≢false (sym (list_any-from (λ m. m == n) (written_files cs) n is (eq-eqb n n refl)) ∙ none.0))
    ]) in
    let all = nodes-all cs some in
    omega arith

-- it changes the bytes of each
changes-written : (cs : List Change) (by : ℕ → List ℕ) → changes_to_commit cs by ≡ cs → (n : ℕ) → IsIn n (written_files cs) → IsIn n (map node_of cs)
changes-written cs by final n is =
    let cut : IsIn (Cut n 0 []) cs = subst (IsIn (Cut n 0 [])) final (IsIn-right (Cut n 0 []) (names_of cs) (ends_of by (written_files cs)) (IsIn-flat_map (λ file. final_bytes file (by file)) (written_files cs) n (Cut n 0 []) is (first-cut n (by n)))) in
    IsIn-map node_of (Cut n 0 []) cs cut

-- ---- the files that transactions write

module _ (x : Present) (sound : IsSoundFiles x) where
  abbrev own : List OwnChanges
  own = x.files.table.own

  -- what transactions changed, one by one
  entry-nodes : (o : OwnChanges) → IsIn o own → (id : Id) → id ≡ o.transaction → (n : ℕ) → IsIn n (written_files o.changes) → IsIn n (map node_of (own_changes own id))
  entry-nodes o there id is n written =
      let same : own_changes own id ≡ o.changes = ap (own_changes own) is ∙ own_changes-of own sound.own_once o there in
      let final = All-in (λ (p : OwnChanges). changes_to_commit p.changes (bytes_seen x.files (Some p.transaction)) ≡ p.changes) own sound.own_final o there in
      subst (λ cs. IsIn n (map node_of cs)) (sym same) (changes-written o.changes (bytes_seen x.files (Some o.transaction)) final n written)

  entries-apart : (o p : OwnChanges) → IsIn o own → IsIn p own → same_id o.transaction p.transaction ≡ false → (n : ℕ) → IsIn n (written_files o.changes) → IsIn n (written_files p.changes) → ⊥
  entries-apart o p there there' other n written written' =
      let t = undecided-entry x.transactions.items o.transaction (list_all-at (λ (q : OwnChanges). is_undecided_in x.transactions.items q.transaction) own sound.own_undecided o there) in
      let u = undecided-entry x.transactions.items p.transaction (list_all-at (λ (q : OwnChanges). is_undecided_in x.transactions.items q.transaction) own sound.own_undecided p there') in
      let differ : same_id t.0.id u.0.id ≡ false = (λ i. same_id (t.2 i) (u.2 i)) ∙ other in
      (own-apart x sound t.0 u.0 t.1 u.1 differ).nodes n (entry-nodes o there t.0.id t.2 n written) (entry-nodes p there' u.0.id u.2 n written')

  all-apart : (os : List OwnChanges) → ((o : OwnChanges) → IsIn o os → IsIn o own) → each_pair changed_by_two os ≡ true → AreApart (λ (o : OwnChanges). are_of o.changes) os
  all-apart [] within once = tt
  all-apart (o ∷ os) within once =
      let both = and_parts (list_all (changed_by_two o) os) (each_pair changed_by_two os) once in (
        λ p there node is is'. entries-apart o p (within o (inl refl)) (within p (inr there)) (not-true _ (list_all-at (changed_by_two o) os both.0 p there)) node.number (in-from _ _ is) (in-from _ _ is'),
        all-apart os (λ p there. within p (inr there)) both.1,
      )
    where
      in-from : (ns : List ℕ) (n : ℕ) → is_in ns n ≡ true → IsIn n ns
      in-from ns n is = let found = list_any-at (λ m. m == n) ns is in subst (λ m. IsIn m ns) (eqb-true _ _ found.2) found.1

  -- of the tree they write no more than its nodes
  pub all-written : sum_by (λ (o : OwnChanges). length (filter (are_of o.changes) x.files.tree)) own ≤ length x.files.tree
  all-written = parts-fit (λ (o : OwnChanges). are_of o.changes) own x.files.tree (all-apart own (λ o there. there) sound.own_once)
