-- What holds of each byte of contents that are cut or put over, and of trees that are changed.
use Rattle.std.proofs.Common.{◌≡◌, ℕ, zero, suc, ◌+◌, ◌-◌, not, true, List, [], ◌∷◌, ◌++◌, take, drop, replicate, length, length-append, length-take, filter, All, refl, sym, subst, arith, inl, inr}
use Rattle.std.specs.List.{flat_map}
use Rattle.std.specs.Prelude.{nat_lt, if◌then◌else◌}
use Rattle.std.proofs.lemmas.Bool.{cases_Bool, eqb-true}
use Rattle.std.proofs.lemmas.List.{length-replicate}
use Rattle.std.proofs.lemmas.List.Elements.{All-append, All-cons, All-filter, All-head, All-map, All-nil, All-tail, All-weaker}
use Rattle.ktm_world.specs.declared.change.Change.{Change}
use Rattle.ktm_world.specs.declared.change.Change.TheVariants.{Make, Put, Cut, Move, Drop}
use Rattle.ktm_world.specs.declared.change.Contents.TheVariants.{Whole}
use Rattle.ktm_world.specs.declared.change.NodeKind.{NodeKind}
use Rattle.ktm_world.specs.declared.change.NodeKind.TheVariants.{File, Directory}
use Rattle.ktm_world.specs.declared.recorded.Node.{Node}
use Rattle.ktm_world.specs.Changes.{bytes_in, changed, changed_all, changes_bytes, new_content}
use Rattle.ktm_world.specs.Committed.{changes_to_commit, final_bytes, written_files}
use Rattle.ktm_world.specs.Tree.{Tree, bytes_of, bytes_or_none, cut_to, has_number, put_over, with_changed, with_node}
use Rattle.txf_laws.proofs.offered.CommitsOfOthers.{All-by}
use Rattle.ktm_each.specs.Each.{EachFrom, AreZerosSuch, EachOfNode, EachOfTree, EachOfChange, EachOfChanges}

-- ---- bytes

module _ (q : ℕ → ℕ → Type 0) where
  pub EachFrom-append : (from at : ℕ) (xs ys : List ℕ) → at ≡ from + length xs → EachFrom q from xs → EachFrom q at ys → EachFrom q from (xs ++ ys)
  EachFrom-append from at [] ys e left right = subst (λ k. EachFrom q k ys) (omega (arith, e)) right
  EachFrom-append from at (x ∷ xs) ys e left right = (left.0, EachFrom-append (suc from) at xs ys (omega (arith, e)) left.1 right)

  pub EachFrom-take : (many from : ℕ) (xs : List ℕ) → EachFrom q from xs → EachFrom q from (take many xs)
  EachFrom-take zero from xs each = tt
  EachFrom-take (suc many) from [] each = tt
  EachFrom-take (suc many) from (x ∷ xs) each = (each.0, EachFrom-take many (suc from) xs each.1)

  pub EachFrom-drop : (many from at : ℕ) (xs : List ℕ) → at ≡ from + many → EachFrom q from xs → EachFrom q at (drop many xs)
  EachFrom-drop zero from at xs e each = subst (λ k. EachFrom q k xs) (omega (arith, e)) each
  EachFrom-drop (suc many) from at [] e each = tt
  EachFrom-drop (suc many) from at (x ∷ xs) e each = EachFrom-drop many (suc from) at xs (omega (arith, e)) each.1

  pub EachFrom-zeros : ((index : ℕ) → q index 0) → (many from : ℕ) → EachFrom q from (replicate many 0)
  EachFrom-zeros zeros zero from = tt
  EachFrom-zeros zeros (suc many) from = (zeros from, EachFrom-zeros zeros many (suc from))

length-cut_to : (bytes : List ℕ) (size : ℕ) → length (cut_to bytes size) ≡ size
length-cut_to bytes size =
    let zeros : length (replicate {A = ℕ} (size - length bytes) 0) ≡ size - length bytes = length-replicate {A = ℕ} (size - length bytes) 0 in
    omega (arith, length-append (take size bytes) (replicate (size - length bytes) 0), length-take size bytes)

module _ (q : ℕ → ℕ → Type 0) (zeros : (index : ℕ) → q index 0) where
  pub cut_to-each : (bytes : List ℕ) (size : ℕ) → EachFrom q 0 bytes → EachFrom q 0 (cut_to bytes size)
  cut_to-each bytes size each =
      EachFrom-append q 0 (0 + length (take size bytes)) (take size bytes) (replicate (size - length bytes) 0) refl
      (EachFrom-take q size 0 bytes each) (EachFrom-zeros q zeros (size - length bytes) (0 + length (take size bytes)))

  pub put_over-each : (old : List ℕ) (offset : ℕ) (new : List ℕ) → EachFrom q 0 old → EachFrom q offset new → EachFrom q 0 (put_over old offset new)
  put_over-each old offset new each put =
      EachFrom-append q 0 (offset + length new) (cut_to old offset ++ new) (drop (offset + length new) old) (omega (arith, cut, length-append (cut_to old offset) new))
      (EachFrom-append q 0 offset (cut_to old offset) new (omega (arith, cut)) (cut_to-each old offset each) put)
      (EachFrom-drop q (offset + length new) 0 (offset + length new) old (omega arith) each)
    where
      cut : length (cut_to old offset) ≡ offset
      cut = length-cut_to old offset

-- ---- lists

pub All-one : {X : Type 0} (P : X → Type 0) (x : X) → P x → All P (x ∷ [])
All-one P x is = All-cons P x [] is (All-nil P)

pub All-flat_map : {X Y : Type 0} (P : Y → Type 0) (of : X → List Y) (xs : List X) → All (λ x. All P (of x)) xs → All P (flat_map of xs)
All-flat_map P of [] all = All-nil P
All-flat_map P of (x ∷ xs) all =
    All-append P (of x) (flat_map of xs) (All-head (λ x. All P (of x)) x xs all) (All-flat_map P of xs (All-tail (λ x. All P (of x)) x xs all))

-- ---- nodes that come and change

module _ (P : Node → Type 0) where
  with_node-each : (tree : Tree) (node : Node) → P node → All P tree → All P (with_node tree node)
  with_node-each [] node is all = All-one P node is
  with_node-each (n ∷ ns) node is all = elim (cases_Bool (nat_lt node.number n.number)) [
    | inl before ↦ rw before (All-cons P node (n ∷ ns) is all)
    | inr behind ↦ rw behind (All-cons P n (with_node ns node) (All-head P n ns all) (with_node-each ns node is (All-tail P n ns all)))
  ]

  with_changed-each : (tree : Tree) (number : ℕ) (f : Node → Node) → ((n : Node) → has_number number n ≡ true → P n → P (f n)) → All P tree → All P (with_changed tree number f)
  with_changed-each tree number f keeps all = All-map P changes tree (All-weaker P (λ n. P (changes n)) each tree all)
    where
      changes : Node → Node
      changes n = if has_number number n then f n else n

      each : (n : Node) → P n → P (changes n)
      each n is = elim (cases_Bool (has_number number n)) [ inl here ↦ rw here (keeps n here is) | inr other ↦ rw other is ]

-- ---- trees and changes

module _ (p : ℕ → ℕ → ℕ → Type 0) where
  new-each : (number : ℕ) (kind : NodeKind) → EachFrom (p number) 0 (bytes_or_none (new_content kind))
  new-each number File = tt
  new-each number Directory = tt

  pub bytes_of-each : (tree : Tree) (file : ℕ) → EachOfTree p tree → EachFrom (p file) 0 (bytes_of tree file)
  bytes_of-each [] file all = tt
  bytes_of-each (n ∷ ns) file all = elim (cases_Bool (has_number file n)) [
    | inl here ↦ rw here (subst (λ m. EachFrom (p m) 0 (bytes_or_none n.content)) (eqb-true n.number file here) (All-head (EachOfNode p) n ns all))
    | inr other ↦ rw other (bytes_of-each ns file (All-tail (EachOfNode p) n ns all))
  ]

  pub final_bytes-each : (file : ℕ) (bytes : List ℕ) → EachFrom (p file) 0 bytes → EachOfChanges p (final_bytes file bytes)
  final_bytes-each file [] each = All-one (EachOfChange p) (Cut file 0 []) tt
  final_bytes-each file (b ∷ bs) each = All-cons (EachOfChange p) (Cut file 0 []) (Put file 0 (Whole (b ∷ bs)) ∷ []) tt (All-one (EachOfChange p) (Put file 0 (Whole (b ∷ bs))) each)

  pub changes_to_commit-each : (cs : List Change) (bytes : ℕ → List ℕ) → EachOfChanges p cs → ((file : ℕ) → EachFrom (p file) 0 (bytes file)) → EachOfChanges p (changes_to_commit cs bytes)
  changes_to_commit-each cs bytes all each =
      All-append (EachOfChange p) (filter (λ c. not (changes_bytes c)) cs) (flat_map final (written_files cs))
      (All-filter (λ c. not (changes_bytes c)) (EachOfChange p) cs all)
      (All-flat_map (EachOfChange p) final (written_files cs) (All-by (λ file. EachOfChanges p (final file)) (written_files cs) (λ file there. final_bytes-each file (bytes file) (each file))))
    where
      final : ℕ → List Change
      final file = final_bytes file (bytes file)

module _ (p : ℕ → ℕ → ℕ → Type 0) (zeros : AreZerosSuch p) where
  pub changed-each : (tree : Tree) (c : Change) → EachOfTree p tree → EachOfChange p c → EachOfTree p (changed tree c)
  changed-each tree (Make node parent kind name) all each =
      with_node-each (EachOfNode p) tree (record { number = node; parent = parent; name = name; content = new_content kind }) (new-each p node kind) all
  changed-each tree (Put node offset contents) all each = with_changed-each (EachOfNode p) tree node _ put all
    where
      put : (n : Node) → has_number node n ≡ true → EachOfNode p n → EachFrom (p n.number) 0 (put_over (bytes_or_none n.content) offset (bytes_in contents))
      put n here is =
          put_over-each (p n.number) (zeros n.number) (bytes_or_none n.content) offset (bytes_in contents) is
          (subst (λ m. EachFrom (p m) offset (bytes_in contents)) (sym (eqb-true n.number node here)) each)
  changed-each tree (Cut node size pages) all each = with_changed-each (EachOfNode p) tree node _ (λ n here is. cut_to-each (p n.number) (zeros n.number) (bytes_or_none n.content) size is) all
  changed-each tree (Move node parent name) all each = with_changed-each (EachOfNode p) tree node _ (λ n here is. is) all
  changed-each tree (Drop node) all each = All-filter (λ n. not (has_number node n)) (EachOfNode p) tree all

  pub changed_all-each : (tree : Tree) (cs : List Change) → EachOfTree p tree → EachOfChanges p cs → EachOfTree p (changed_all tree cs)
  changed_all-each tree [] all each = all
  changed_all-each tree (c ∷ cs) all each =
      changed_all-each (changed tree c) cs (changed-each tree c all (All-head (EachOfChange p) c cs each)) (All-tail (EachOfChange p) c cs each)
