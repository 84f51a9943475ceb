-- The nodes that changes make and leave, and the changes that wait, in the form in which changes are committed.
use Rattle.std.proofs.Common.{◌≡◌, ℕ, ◌+◌, ◌==◌, ◌&&◌, ◌||◌, not, Bool, true, false, List, [], ◌∷◌, ◌++◌, count_by, refl, sym, ◌∙◌, ap, arith, inl, inr}
use Rattle.std.proofs.lemmas.Bool.{cases_Bool, and_parts, not_from_false, true≢false}
use Rattle.std.specs.List.{list_all, list_any}
use Rattle.ktm_world.specs.declared.change.Change.{Change}
use Rattle.ktm_world.specs.declared.change.Change.TheVariants.{Make, Put, Cut, Move, Drop}
use Rattle.ktm_world.specs.Changes.{changes_bytes, is_drop, is_make, node_of, nodes_made}
use Rattle.ktm_world.specs.Committed.{changes_to_commit, written_files}
use Rattle.txf_volume.specs.Uses.{one_if}
use Rattle.txf_laws.proofs.offered.NormalForms.{AllBytes, ends-bytes, names-kept, names_only}
use Rattle.txf_laws.proofs.offered.NormalForms.{ends_of}
use Rattle.txf_laws.specs.FinalChanges.{names_of}
use Rattle.txf_laws.proofs.offered.Sums.{count-append, count-cons, one_where}

-- do changes drop the node
abbrev drop_it : ℕ → List Change → Bool
drop_it n cs = list_any (λ later. is_drop later && node_of later == n) cs

bytes-make : (c : Change) → changes_bytes c ≡ true → is_make c ≡ false
bytes-make (Make node parent kind name) bytes = absurd (true≢false (sym bytes))
bytes-make (Put node offset contents) bytes = refl
bytes-make (Cut node size pages) bytes = refl
bytes-make (Move node parent name) bytes = refl
bytes-make (Drop node) bytes = refl

bytes-drop : (c : Change) → changes_bytes c ≡ true → is_drop c ≡ false
bytes-drop (Make node parent kind name) bytes = refl
bytes-drop (Put node offset contents) bytes = refl
bytes-drop (Cut node size pages) bytes = refl
bytes-drop (Move node parent name) bytes = refl
bytes-drop (Drop node) bytes = absurd (true≢false (sym bytes))

drops-append : (n : ℕ) (cs ds : List Change) → drop_it n ds ≡ false → drop_it n (cs ++ ds) ≡ drop_it n cs
drops-append n [] ds none = none
drops-append n (c ∷ cs) ds none = ap (λ b. (is_drop c && node_of c == n) || b) (drops-append n cs ds none)

pub drops-bytes : (n : ℕ) (cs : List Change) → AllBytes cs → drop_it n cs ≡ false
drops-bytes n [] all = refl
drops-bytes n (c ∷ cs) all = let parts = and_parts (changes_bytes c) (list_all changes_bytes cs) all in rw (bytes-drop c parts.0) (drops-bytes n cs parts.1)

drops-names : (n : ℕ) (cs : List Change) → drop_it n (names_of cs) ≡ drop_it n cs
drops-names n [] = refl
drops-names n (c ∷ cs) = elim (cases_Bool (changes_bytes c)) [
  | inl bytes ↦ rw (bytes, bytes-drop c bytes) (drops-names n cs)
  | inr names ↦ rw names (ap (λ b. (is_drop c && node_of c == n) || b) (drops-names n cs))
]

-- what stands behind changes and drops nothing makes as much more
pub made-append : (cs ds : List Change) → ((n : ℕ) → drop_it n ds ≡ false) → nodes_made (cs ++ ds) ≡ nodes_made cs + nodes_made ds
made-append [] ds none = omega arith
made-append (c ∷ cs) ds none =
    let rest = made-append cs ds none in
    let one = ap (λ b. one_if (is_make c && not b)) (drops-append (node_of c) cs ds (none (node_of c))) in
    omega arith

pub made-bytes : (cs : List Change) → AllBytes cs → nodes_made cs ≡ 0
made-bytes [] all = refl
made-bytes (c ∷ cs) all = let parts = and_parts (changes_bytes c) (list_all changes_bytes cs) all in rw (bytes-make c parts.0) (let rest = made-bytes cs parts.1 in omega arith)

made-names : (cs : List Change) → nodes_made (names_of cs) ≡ nodes_made cs
made-names [] = refl
made-names (c ∷ cs) = elim (cases_Bool (changes_bytes c)) [
  | inl bytes ↦ rw (bytes, bytes-make c bytes) (let rest = made-names cs in omega arith)
  | inr names ↦ rw names (λ i. one_if (is_make c && not (drops-names (node_of c) cs i)) + made-names cs i)
]

-- the form in which changes are committed makes as many
pub made-final : (cs : List Change) (by : ℕ → List ℕ) → nodes_made (changes_to_commit cs by) ≡ nodes_made cs
made-final cs by =
    let bytes = ends-bytes by (written_files cs) in
    made-append (names_of cs) (ends_of by (written_files cs)) (λ n. drops-bytes n (ends_of by (written_files cs)) bytes)
    ∙ (let none = made-bytes (ends_of by (written_files cs)) bytes in let same = made-names cs in omega arith)

pub made-last : (cs : List Change) (c : Change) → is_drop c ≡ false → nodes_made (cs ++ c ∷ []) ≡ nodes_made cs + one_if (is_make c)
made-last cs c stays =
    made-append cs (c ∷ []) (λ n. rw stays refl) ∙ ap (λ k. nodes_made cs + k) (plain (is_make c))
  where
    plain : (b : Bool) → one_if (b && not false) + 0 ≡ one_if b
    plain true = refl
    plain false = refl

-- ---- changes that wait

pub waiting-bytes : (cs : List Change) → AllBytes cs → count_by names_only cs ≡ 0
waiting-bytes [] all = refl
waiting-bytes (c ∷ cs) all =
    let parts = and_parts (changes_bytes c) (list_all changes_bytes cs) all in
    let one = count-cons names_only c cs in
    let rest = waiting-bytes cs parts.1 in
    let bytes : one_where names_only c ≡ 0 = rw parts.0 refl in
    omega arith

waiting-names : (cs : List Change) → count_by names_only (names_of cs) ≡ count_by names_only cs
waiting-names [] = refl
waiting-names (c ∷ cs) =
    let rest = waiting-names cs in
    let all = count-cons names_only c cs in
    elim (cases_Bool (changes_bytes c)) [
      | inl bytes ↦ let none : one_where names_only c ≡ 0 = rw bytes refl in rw bytes (omega arith)
      | inr names ↦
          let kept : names_of (c ∷ cs) ≡ c ∷ names_of cs = names-kept c cs (not_from_false _ names) in
          let more = ap (count_by names_only) kept in
          let one = count-cons names_only c (names_of cs) in
          omega arith
    ]

-- in the form in which changes are committed as many wait
pub waiting-final : (cs : List Change) (by : ℕ → List ℕ) → count_by names_only (changes_to_commit cs by) ≡ count_by names_only cs
waiting-final cs by =
    let all = count-append names_only (names_of cs) (ends_of by (written_files cs)) in
    let none = waiting-bytes (ends_of by (written_files cs)) (ends-bytes by (written_files cs)) in
    let same = waiting-names cs in
    omega arith

pub waiting-last : (cs : List Change) (c : Change) → count_by names_only (cs ++ c ∷ []) ≡ count_by names_only cs + one_if (not (changes_bytes c))
waiting-last cs c = let all = count-append names_only cs (c ∷ []) in let one = count-cons names_only c [] in omega arith
