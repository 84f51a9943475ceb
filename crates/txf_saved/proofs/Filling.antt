-- A file that is made and given its bytes.
use Rattle.std.proofs.Common.{◌≡◌, ℕ, ◌+◌, ◌==◌, ◌&&◌, Bool, true, false, is_none, List, [], ◌∷◌, Option, Some, None, refl, sym, ◌∙◌, ap, inl, inr, append-nil, arith}
use Rattle.std.specs.List.{list_all}
use Rattle.std.specs.Prelude.{nat_lt, max}
use Rattle.std.proofs.Math.Seq.{drop-nil}
use Rattle.std.proofs.lemmas.Bool.{cases_Bool, eq-eqb}
use Rattle.std.proofs.lemmas.Option.{none-some}
use Rattle.ktm_content.specs.Places.{CanBePut}
use Rattle.ktm_world.specs.declared.change.Change.{Change}
use Rattle.ktm_world.specs.declared.change.Change.TheVariants.{Put}
use Rattle.ktm_world.specs.declared.change.Contents.TheVariants.{Whole}
use Rattle.ktm_world.specs.declared.recorded.Node.{Node}
use Rattle.ktm_world.specs.Changes.{applies, changed_all, changes_apply, new_content}
use Rattle.ktm_world.specs.Durable.{is_new_in, next_after_all}
use Rattle.ktm_world.specs.Tree.{Tree, bytes_of, bytes_or_none, content_of, node_at, put_over, with_changed, with_node}
use Rattle.ktm_world.proofs.offered.Lookups.{node_at-with_node}
use Rattle.txf_laws.proofs.offered.ChangeTests.{Applies-from, is_there-none}
use Rattle.txf_saved.specs.Making.{kind_of, make_of}

changed-absent : (tree : Tree) (n : ℕ) (f : Node → Node) → node_at tree n ≡ None → with_changed tree n f ≡ tree
changed-absent [] n f none = refl
changed-absent (x ∷ xs) n f none = elim (cases_Bool (x.number == n)) [
  | inl is ↦ absurd (none-some x (sym none ∙ rw is refl))
  | inr other ↦ rw other (ap (λ (t : Tree). x ∷ t) (changed-absent xs n f (rw other at none)))
]

-- a node whose content is changed right behind its making comes as what it is then
pub changed-made : (tree : Tree) (x : Node) (g : Option (List ℕ) → Option (List ℕ)) → node_at tree x.number ≡ None
    → with_changed (with_node tree x) x.number (λ n. record n { content = g n.content }) ≡ with_node tree (record x { content = g x.content })
changed-made [] x g none = rw (eq-eqb x.number x.number refl) refl
changed-made (n ∷ ns) x g none = elim (cases_Bool (n.number == x.number)) [
  | inl is ↦ absurd (none-some n (sym none ∙ rw is refl))
  | inr other ↦ elim (cases_Bool (nat_lt x.number n.number)) [
    | inl before ↦ rw (before, eq-eqb x.number x.number refl, other) (ap (λ (t : Tree). record x { content = g x.content } ∷ n ∷ t) (changed-absent ns x.number (λ n. record n { content = g n.content }) (rw other at none)))
    | inr behind ↦ rw (behind, other) (ap (λ (t : Tree). n ∷ t) (changed-made ns x g (rw other at none)))
  ]
]

-- bytes that are put at the front of none
pub put_first : (bytes : List ℕ) → put_over [] 0 bytes ≡ bytes
put_first bytes = rw (drop-nil) (append-nil bytes)

-- ---- what the two changes of a node come to

made_or_not : (tree : Tree) (x : Node) (is : Bool) → applies tree (make_of x) ≡ is → is ≡ ((is && true) && (is_none (node_at tree x.number) && true))
made_or_not tree x false is = refl
made_or_not tree x true is =
    let applies' = Applies-from tree (make_of x) is in
    rw (is_there-none tree x.number applies'.1) refl

-- a node is made exactly where its change applies
pub makes : (tree : Tree) (x : Node) (c : Change) (done : Bool) → c ≡ make_of x → done ≡ (changes_apply tree (c ∷ []) && list_all (is_new_in tree) (c ∷ [])) → applies tree (make_of x) ≡ done
makes tree x c done is given = made_or_not tree x (applies tree (make_of x)) refl ∙ sym (given ∙ ap (λ (c : Change). changes_apply tree (c ∷ []) && list_all (is_new_in tree) (c ∷ [])) is)

-- the node that its change makes, without its contents
abbrev pub unfilled : Node → Node
unfilled x = record x { content = new_content (kind_of x.content) }

pub made-tree : (tree tree' : Tree) (x : Node) (c : Change) → c ≡ make_of x → tree' ≡ changed_all tree (c ∷ []) → tree' ≡ with_node tree (unfilled x)
made-tree tree tree' x c is made = made ∙ ap (λ (c : Change). changed_all tree (c ∷ [])) is

pub made-next : (next next' : ℕ) (x : Node) (c : Change) → c ≡ make_of x → next' ≡ next_after_all next (c ∷ []) → next' ≡ max next (x.number + 1)
made-next next next' x c is made = made ∙ ap (λ (c : Change). next_after_all next (c ∷ [])) is

-- a directory is whole once it is made
pub directory-made : (x : Node) → x.content ≡ None → unfilled x ≡ x
directory-made x none = ap (λ (o : Option (List ℕ)). record x { content = o }) (ap (λ (o : Option (List ℕ)). new_content (kind_of o)) none ∙ sym none)

pub filled-tree : (tree tree' tree'' : Tree) (x : Node) (bytes : List ℕ) → x.content ≡ Some bytes → node_at tree x.number ≡ None → tree' ≡ with_node tree (unfilled x)
    → tree'' ≡ changed_all tree' (Put x.number 0 (Whole bytes) ∷ []) → tree'' ≡ with_node tree x
filled-tree tree tree' tree'' x bytes is new made filled =
    filled ∙ ap (λ (t : Tree). changed_all t (Put x.number 0 (Whole bytes) ∷ [])) made
    ∙ changed-made tree (unfilled x) (λ o. Some (put_over (bytes_or_none o) 0 bytes)) new
    ∙ ap (λ (o : Option (List ℕ)). with_node tree (record x { content = o }))
    (ap (λ (o : Option (List ℕ)). Some (put_over (bytes_or_none (new_content (kind_of o))) 0 bytes)) is ∙ ap (λ (b : List ℕ). Some b) (put_first bytes) ∙ sym is)

-- and its file is there to be filled
pub fills : (tree tree' : Tree) (x : Node) (bytes : List ℕ) (done : Bool) → x.content ≡ Some bytes → node_at tree x.number ≡ None → tree' ≡ with_node tree (unfilled x)
    → done ≡ (changes_apply tree' (Put x.number 0 (Whole bytes) ∷ []) && list_all (is_new_in tree') (Put x.number 0 (Whole bytes) ∷ [])) → done ≡ true
fills tree tree' x bytes done is new made given =
    let there : node_at tree' x.number ≡ Some (unfilled x) = ap (λ (t : Tree). node_at t x.number) made ∙ node_at-with_node tree (unfilled x) x.number new ∙ rw (eq-eqb x.number x.number refl) refl in
    given ∙ rw (there, is) refl

-- which has no bytes yet, so any can be put there unit by unit
pub can-fill : (tree tree' : Tree) (x : Node) (bytes : List ℕ) → x.content ≡ Some bytes → node_at tree x.number ≡ None → tree' ≡ with_node tree (unfilled x) → CanBePut (bytes_of tree' x.number) 0 bytes
can-fill tree tree' x bytes is new made =
    let there : node_at tree' x.number ≡ Some (unfilled x) = ap (λ (t : Tree). node_at t x.number) made ∙ node_at-with_node tree (unfilled x) x.number new ∙ rw (eq-eqb x.number x.number refl) refl in
    let none : bytes_of tree' x.number ≡ [] = ap (λ (o : Option Node). bytes_or_none (content_of o)) there ∙ ap (λ (o : Option (List ℕ)). bytes_or_none (new_content (kind_of o))) is in
    rw none (record { begins = refl; reaches = omega arith; ends = inr (omega arith) })
