-- Each byte of a state is known by the owner of its page, once the pages are given that are named.
use Rattle.std.proofs.Common.{◌≡◌, ℕ, ◌<◌, ◌==◌, ◌&&◌, true, List, [], ◌∷◌, Some, All, length, refl, sym, ◌∙◌, ap, subst, inl, inr, arith}
use Rattle.std.specs.List.{list_any}
use Rattle.std.proofs.lemmas.Bool.{and_from, cases_Bool, eq-eqb, eqb-true, or_left, or_right}
use Rattle.std.proofs.lemmas.List.Elements.{All-cons, All-head, All-nil, All-tail}
use Rattle.ktm_each.specs.Each.{EachFrom, EachOfChange, EachOfDurable, EachOfNode, EachOfPart, EachOfRecorded}
use Rattle.ktm_paged.specs.Paged.{IsOwned, LieBelow, LiesBelow, PutLiesBelow, RecordedLiesBelow}
use Rattle.ktm_owners.specs.declared.owners.Named.{Named}
use Rattle.ktm_owners.specs.declared.owners.Owner.{Owner}
use Rattle.ktm_owners.specs.Owners.{AreThere, all_given, byte_with, has_unit, is_still_on, parts_put, puts_unit}
use Rattle.ktm_owners.proofs.Owning.{IsKnownOrNamed, contents-all-given}
use Rattle.ktm_world.specs.declared.change.Change.{Change}
use Rattle.ktm_world.specs.declared.change.Change.TheVariants.{Make, Put, Cut, Move, Drop}
use Rattle.ktm_world.specs.declared.recorded.Node.{Node}
use Rattle.ktm_world.specs.declared.recorded.RecordedPart.{RecordedPart}
use Rattle.ktm_world.specs.Changes.{bytes_in}
use Rattle.ktm_world.specs.Durable.{Durable, Recorded, changes_in}
use Rattle.ktm_world.specs.Tree.{Tree, bytes_of, bytes_or_none, content_of, node_at}
use Rattle.ktm_world.proofs.offered.Lookups.{Above, Rises}
use Rattle.txf_laws.specs.Elements.{IsIn}
use Rattle.txf_laws.proofs.offered.CommitsOfOthers.{All-in}
use Rattle.txf_laws.proofs.offered.Elements.{list_any-from}

-- what follows of each that is in the list
All-with : {X : Type 0} (P Q : X → Type 0) (xs : List X) → ((x : X) → IsIn x xs → P x → Q x) → All P xs → All Q xs
All-with P Q [] so all = All-nil Q
All-with P Q (x ∷ xs) so all = All-cons Q x xs (so x (inl refl) (All-head P x xs all)) (All-with P Q xs (λ y there. so y (inr there)) (All-tail P x xs all))

-- a node of a rising tree is found by its number
above-in : (k : ℕ) (tree : Tree) (n : Node) → Above k tree → IsIn n tree → k < n.number
above-in k [] n above there = absurd there
above-in k (x ∷ xs) n above (inl is) = subst (λ (y : Node). k < y.number) is above.0
above-in k (x ∷ xs) n above (inr later) = above-in k xs n above.1 later

in-at : (tree : Tree) (n : Node) → Rises tree → IsIn n tree → node_at tree n.number ≡ Some n
in-at [] n rises there = absurd there
in-at (x ∷ xs) n rises (inl is) = rw (eq-eqb x.number n.number (ap (λ (y : Node). y.number) is)) (ap Some is)
in-at (x ∷ xs) n rises (inr later) = elim (cases_Bool (x.number == n.number)) [
  | inl same ↦ absurd (let less = above-in x.number xs n rises.0 later in let e = eqb-true x.number n.number same in omega arith)
  | inr other ↦ rw other (in-at xs n rises.1 later)
]

-- bytes are put from the begin of a file on
abbrev pub StartsAtBegin : Change → Type 0
StartsAtBegin (Put node offset contents) = offset ≡ 0
StartsAtBegin change = Unit {0}

-- so all that waits does
abbrev pub AllStartAtBegin : Durable → Type 0
AllStartAtBegin s = All (λ (t : Recorded). All (λ (part : RecordedPart). All StartsAtBegin (changes_in part.part)) t.parts) s.transactions

module _ (s : Durable) (count : ℕ) (below : LieBelow count s) (rises : Rises s.tree) (starts : AllStartAtBegin s) where
  pub tree-still : (node : Node) → IsIn node s.tree → (owner : Owner) (page : ℕ) → owner.node ≡ node.number → has_unit (bytes_or_none node.content) owner.unit page ≡ true → is_still_on s owner page ≡ true
  tree-still node there owner page same on =
      or_left (has_unit (bytes_of s.tree owner.node) owner.unit page) _ (subst (λ (c : List ℕ). has_unit c owner.unit page ≡ true) (sym found) on)
    where
      found : bytes_of s.tree owner.node ≡ bytes_or_none node.content
      found = ap (bytes_of s.tree) same ∙ ap (λ o. bytes_or_none (content_of o)) (in-at s.tree node rises there)

  waiting-still : (t : Recorded) (part : RecordedPart) (c : Change) → IsIn t s.transactions → IsIn part t.parts → IsIn c (changes_in part.part) → (owner : Owner) (page : ℕ) → puts_unit owner page c ≡ true → is_still_on s owner page ≡ true
  waiting-still t part c t_in part_in c_in owner page puts =
      or_right (has_unit (bytes_of s.tree owner.node) owner.unit page) _
      (list_any-from (parts_put owner page) s.transactions t t_in
      (list_any-from (λ (p : RecordedPart). list_any (puts_unit owner page) (changes_in p.part)) t.parts part part_in (list_any-from (puts_unit owner page) (changes_in part.part) c c_in puts)))

  module _ (old : List Owner) (names : List Named) (owners : List Owner) (there : AreThere (length old) names) (given : all_given s old names ≡ Some owners) where
    node-given : (node : Node) → IsIn node s.tree → EachOfNode (IsKnownOrNamed old names) node → EachOfNode (IsOwned (byte_with owners)) node
    node-given node is_in each =
        let lies = All-in (λ (n : Node). LiesBelow count (bytes_or_none n.content)) s.tree below.files node is_in in
        contents-all-given s node.number (bytes_or_none node.content) lies.pages lies.lie (tree-still node is_in) old names owners there given each

    change-given : (t : Recorded) (part : RecordedPart) (c : Change) → IsIn t s.transactions → IsIn part t.parts → IsIn c (changes_in part.part) → PutLiesBelow count c → StartsAtBegin c
        → EachOfChange (IsKnownOrNamed old names) c → EachOfChange (IsOwned (byte_with owners)) c
    change-given t part (Make node parent kind name) t_in part_in c_in lies begin each = tt
    change-given t part (Put node offset contents) t_in part_in c_in lies begin each =
        subst (λ n. EachFrom (IsOwned (byte_with owners) node) n (bytes_in contents)) (sym begin)
        (contents-all-given s node (bytes_in contents) lies.pages lies.lie still old names owners there given (subst (λ n. EachFrom (IsKnownOrNamed old names node) n (bytes_in contents)) begin each))
      where
        still : (owner : Owner) (page : ℕ) → owner.node ≡ node → has_unit (bytes_in contents) owner.unit page ≡ true → is_still_on s owner page ≡ true
        still owner page same on =
            waiting-still t part (Put node offset contents) t_in part_in c_in owner page
            (and_from (node == owner.node && offset == 0) _ (and_from (node == owner.node) (offset == 0) (eq-eqb node owner.node (sym same)) (eq-eqb offset 0 begin)) on)
    change-given t part (Cut node size pages) t_in part_in c_in lies begin each = tt
    change-given t part (Move node parent name) t_in part_in c_in lies begin each = tt
    change-given t part (Drop node) t_in part_in c_in lies begin each = tt

    recorded-given : (t : Recorded) → IsIn t s.transactions → EachOfRecorded (IsKnownOrNamed old names) t → EachOfRecorded (IsOwned (byte_with owners)) t
    recorded-given t t_in each =
        let lies = All-in (RecordedLiesBelow count) s.transactions below.works t t_in in
        let begin = All-in (λ (u : Recorded). All (λ (part : RecordedPart). All StartsAtBegin (changes_in part.part)) u.parts) s.transactions starts t t_in in
        All-with (λ (part : RecordedPart). EachOfPart (IsKnownOrNamed old names) part.part) (λ (part : RecordedPart). EachOfPart (IsOwned (byte_with owners)) part.part) t.parts
        (λ part part_in. All-with (EachOfChange (IsKnownOrNamed old names)) (EachOfChange (IsOwned (byte_with owners))) (changes_in part.part)
        (λ c c_in. change-given t part c t_in part_in c_in
        (All-in (PutLiesBelow count) (changes_in part.part) (All-in (λ (p : RecordedPart). All (PutLiesBelow count) (changes_in p.part)) t.parts lies part part_in) c c_in)
        (All-in StartsAtBegin (changes_in part.part) (All-in (λ (p : RecordedPart). All StartsAtBegin (changes_in p.part)) t.parts begin part part_in) c c_in))) each

    pub state-given : EachOfDurable (IsKnownOrNamed old names) s → EachOfDurable (IsOwned (byte_with owners)) s
    state-given each = record {
      tree = All-with (EachOfNode (IsKnownOrNamed old names)) (EachOfNode (IsOwned (byte_with owners))) s.tree node-given each.tree;
      transactions = All-with (EachOfRecorded (IsKnownOrNamed old names)) (EachOfRecorded (IsOwned (byte_with owners))) s.transactions recorded-given each.transactions;
    }
