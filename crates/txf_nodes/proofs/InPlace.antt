-- Lemmas on a node that is changed where it stands, and on the contents of nodes that come and go.
use Rattle.std.proofs.Common.{◌≡◌, ℕ, zero, suc, ◌+◌, ◌<◌, true, List, Option, Some, None, is_some, refl, sym, ap, ◌∙◌, inl, inr, arith}
use Rattle.std.specs.Prelude.{IfSome, OnSome}
use Rattle.std.specs.Borrow.{MutBor}
use Rattle.std.specs.Option.{option_copied_mut, option_map}
use Rattle.std.proofs.lemmas.Bool.{cases_eq}
use Rattle.ktm_world.specs.declared.recorded.Node.{Node}
use Rattle.ktm_links.specs.Mapped.{NamedItem}
use Rattle.ktm_world.specs.Committed.{version_of, without_version}
use Rattle.ktm_world.specs.Tree.{content_of, is_file, node_at, with_changed, with_node}
use Rattle.txf_nodes.specs.Indexes.{AreRising, IsTree, refilled, refilled_in, replaced, with_content, with_now, without_now}
use Rattle.txf_nodes.specs.Lends.{with_content_at}
use Rattle.txf_nodes.specs.NodesState.{NodeOf, NodesState, content_at, content_in, node_by, now_at, raised, tree_by, tree_in, versions_in, IsInserted, IsRefilled}
use Rattle.txf_nodes.proofs.Changing.{AreRising-replaced, now_at-replaced_other, now_at-replaced_same, now_at-with_other, now_at-with_same, now_at-without_other, now_at-without_same, replaced-replaced, tree_in-replaced, tree_in-with, versions_in-forgotten, versions_in-raised, versions_in-replaced, versions_in-with, versions_in-without}
use Rattle.txf_nodes.proofs.Applying.{without_now-none}
use Rattle.txf_nodes.proofs.Counting.{version_in, version_of-now}
use Rattle.txf_nodes.proofs.Naming.{is_some-mapped, node_at-now, numbered_now}
use Rattle.txf_nodes.proofs.Renaming.{IsTree-replaced}
use Rattle.txf_nodes.proofs.Trees.{with_changed-same}

module _ {V : Type 0} where
  -- ---- what is known of a node
  pub content_by : (bytes : V → List ℕ) (nodes : List (NodeOf V)) (n : ℕ) → option_map bytes (content_in (now_at nodes n)) ≡ content_of (node_at (tree_in bytes nodes) n)
  content_by bytes nodes n = by_cases (now_at nodes n) ∙ ap content_of (sym (node_at-now bytes nodes n))
    where
      by_cases : (o : Option (NodeOf V)) → option_map bytes (content_in o) ≡ content_of (option_map (node_by bytes) o)
      by_cases None = refl
      by_cases (Some x) = refl

  pub file_by : (bytes : V → List ℕ) (nodes : List (NodeOf V)) (n : ℕ) → is_some (content_in (now_at nodes n)) ≡ is_file (tree_in bytes nodes) n
  file_by bytes nodes n = sym (is_some-mapped bytes (content_in (now_at nodes n))) ∙ ap is_some (content_by bytes nodes n)

  -- the version of a node that is there is small where that of the file is
  pub few_now : (nodes : List (NodeOf V)) (n changes most : ℕ) → AreRising nodes → (0 < changes → version_of (versions_in nodes) n + changes < most)
      → IfSome (now_at nodes n) (λ x. 0 < changes → x.version + changes < most)
  few_now nodes n changes most rising few = by_cases (now_at nodes n) (version_of-now nodes n rising)
    where
      by_cases : (o : Option (NodeOf V)) → version_of (versions_in nodes) n ≡ version_in o → IfSome o (λ x. 0 < changes → x.version + changes < most)
      by_cases None is = tt
      by_cases (Some x) is = λ some. let less = few some in omega (arith, is, less)

  -- ---- a node in place of another
  pub record IsSwapped (nodes new : List (NodeOf V)) (n : ℕ) (s x : NodeOf V) : Type 0 where
    pub found : now_at nodes n ≡ Some s
    pub number : x.number ≡ n
    pub is : new ≡ replaced nodes n x

  -- the node that is there, and another one in its place
  pub swapped : (nodes new : List (NodeOf V)) (n : ℕ) (s x : NodeOf V) → now_at nodes n ≡ Some s → x.number ≡ s.number → new ≡ replaced nodes n x → IsSwapped nodes new n s x
  swapped nodes new n s x found number is = record { found = found; number = number ∙ numbered_now nodes n s found; is = is }

  pub IsTree-swapped : (nodes new : List (NodeOf V)) (names : List (NamedItem ℕ)) (n : ℕ) (s x : NodeOf V) → IsTree nodes names → IsSwapped nodes new n s x
      → x.parent ≡ s.parent → x.name ≡ s.name → IsTree new names
  IsTree-swapped nodes new names n s x tree swap parent name = rw swap.is (IsTree-replaced nodes names n s x tree swap.found swap.number parent name)

  pub tree-swapped : (bytes : V → List ℕ) (nodes new : List (NodeOf V)) (n : ℕ) (s x : NodeOf V) (f : Node → Node) → AreRising nodes → IsSwapped nodes new n s x
      → node_by bytes x ≡ f (node_by bytes s) → tree_in bytes new ≡ with_changed (tree_in bytes nodes) n f
  tree-swapped bytes nodes new n s x f rising swap node = ap (tree_in bytes) swap.is ∙ tree_in-replaced bytes nodes n s x f rising swap.found node

  pub tree-kept : (bytes : V → List ℕ) (nodes new : List (NodeOf V)) (n : ℕ) (s x : NodeOf V) → AreRising nodes → IsSwapped nodes new n s x
      → node_by bytes x ≡ node_by bytes s → tree_in bytes new ≡ tree_in bytes nodes
  tree-kept bytes nodes new n s x rising swap node =
      tree-swapped bytes nodes new n s x (λ node. node) rising swap node ∙ with_changed-same (tree_in bytes nodes) n

  pub versions-swapped : (nodes new : List (NodeOf V)) (n : ℕ) (s x : NodeOf V) → AreRising nodes → IsSwapped nodes new n s x → x.version ≡ s.version
      → versions_in new ≡ versions_in nodes
  versions-swapped nodes new n s x rising swap version = ap versions_in swap.is ∙ versions_in-replaced nodes n s x rising swap.found swap.number version

  pub versions-raised : (changes : ℕ) (nodes new : List (NodeOf V)) (n : ℕ) (s x : NodeOf V) → AreRising nodes → IsSwapped nodes new n s x → x.version ≡ s.version + changes
      → versions_in new ≡ raised changes (versions_in nodes) n
  versions-raised zero nodes new n s x rising swap version = versions-swapped nodes new n s x rising swap (omega (arith, version))
  versions-raised (suc more) nodes new n s x rising swap version =
      let middle : NodeOf V = record x { version = s.version + 1 } in
      let once : IsSwapped nodes (replaced nodes n middle) n s middle = record { found = swap.found; number = swap.number; is = refl } in
      let then : IsSwapped (replaced nodes n middle) new n middle x =
      record {
        found = now_at-replaced_same nodes n s middle swap.found swap.number;
        number = swap.number;
        is = swap.is ∙ sym (replaced-replaced nodes n middle x swap.number);
      } in
      versions-raised more (replaced nodes n middle) new n middle x (AreRising-replaced nodes n middle rising swap.number) then (omega (arith, version))
      ∙ ap (λ vs. raised more vs n) (versions_in-raised nodes n s middle rising swap.found swap.number refl)

  -- ---- contents
  pub content-swapped : (nodes new : List (NodeOf V)) (n : ℕ) (s x : NodeOf V) → IsSwapped nodes new n s x → content_in (now_at new n) ≡ x.content
  content-swapped nodes new n s x swap = ap content_in (ap (λ l. now_at l n) swap.is ∙ now_at-replaced_same nodes n s x swap.found swap.number)

  pub other-swapped : (nodes new : List (NodeOf V)) (n : ℕ) (s x : NodeOf V) → IsSwapped nodes new n s x
      → (m : ℕ) → (m ≡ n → ⊥) → content_in (now_at new m) ≡ content_in (now_at nodes m)
  other-swapped nodes new n s x swap m other = ap content_in (ap (λ l. now_at l m) swap.is ∙ now_at-replaced_other nodes n m x other swap.number)

  pub contents-kept : (nodes new : List (NodeOf V)) (n : ℕ) (s x : NodeOf V) → IsSwapped nodes new n s x → x.content ≡ s.content
      → (m : ℕ) → content_in (now_at new m) ≡ content_in (now_at nodes m)
  contents-kept nodes new n s x swap same m =
      elim (cases_eq m n) [
        | inl is ↦
            ap (λ m. content_in (now_at new m)) is ∙ content-swapped nodes new n s x swap ∙ same
            ∙ ap content_in (sym swap.found) ∙ ap (λ m. content_in (now_at nodes m)) (sym is)
        | inr other ↦ other-swapped nodes new n s x swap m other
      ]

  pub content-with : (nodes new : List (NodeOf V)) (n : ℕ) (x : NodeOf V) → x.number ≡ n → now_at nodes n ≡ None → new ≡ with_now nodes x → content_in (now_at new n) ≡ x.content
  content-with nodes new n x number free is =
      ap content_in (ap (λ l. now_at l n) is ∙ ap (now_at (with_now nodes x)) (sym number) ∙ now_at-with_same nodes x (ap (now_at nodes) number ∙ free))

  pub other-with : (nodes new : List (NodeOf V)) (n : ℕ) (x : NodeOf V) → x.number ≡ n → new ≡ with_now nodes x
      → (m : ℕ) → (m ≡ n → ⊥) → content_in (now_at new m) ≡ content_in (now_at nodes m)
  other-with nodes new n x number is m other =
      ap content_in (ap (λ l. now_at l m) is ∙ now_at-with_other nodes x m (λ same. other (same ∙ number)))

  pub content-without : (nodes new : List (NodeOf V)) (n : ℕ) → new ≡ without_now nodes n → content_in (now_at new n) ≡ None
  content-without nodes new n is = ap content_in (ap (λ l. now_at l n) is ∙ now_at-without_same nodes n)

  pub other-without : (nodes new : List (NodeOf V)) (n : ℕ) → new ≡ without_now nodes n
      → (m : ℕ) → (m ≡ n → ⊥) → content_in (now_at new m) ≡ content_in (now_at nodes m)
  other-without nodes new n is m other = ap content_in (ap (λ l. now_at l m) is ∙ now_at-without_other nodes n m other)

  -- ---- a content in place of another
  -- another content of the node that is there, if one is
  pub refilled-swapped : (nodes : List (NodeOf V)) (n changes : ℕ) (content : V) (s : NodeOf V) → now_at nodes n ≡ Some s
      → IsSwapped nodes (refilled nodes n changes content) n s (with_content s changes content)
  refilled-swapped nodes n changes content s found =
      let number = numbered_now nodes n s found in
      record {
        found = found;
        number = number;
        is = ap (λ o. refilled_in nodes o changes content) found ∙ ap (λ m. replaced nodes m (with_content s changes content)) number;
      }

  pub IsTree-refilled : (nodes : List (NodeOf V)) (names : List (NamedItem ℕ)) (n changes : ℕ) (content : V) → IsTree nodes names → IsTree (refilled nodes n changes content) names
  IsTree-refilled nodes names n changes content tree = by_cases (now_at nodes n) refl
    where
      by_cases : (o : Option (NodeOf V)) → now_at nodes n ≡ o → IsTree (refilled nodes n changes content) names
      by_cases None none = rw none tree
      by_cases (Some s) found = IsTree-swapped nodes _ names n s _ tree (refilled-swapped nodes n changes content s found) refl refl

  -- a file that gets another content
  pub is_refilled : (old : NodesState V) (file changes : ℕ) (content : V) → AreRising old.nodes → is_some (content_at old file) ≡ true
      → IsRefilled old (with_content_at old file changes content) file changes content
  is_refilled old file changes content rising there = by_cases (now_at old.nodes file) refl there
    where
      by_cases : (o : Option (NodeOf V)) → now_at old.nodes file ≡ o → is_some (content_in o) ≡ true → IsRefilled old (with_content_at old file changes content) file changes content
      by_cases None none some = absurd (cc)
      by_cases (Some s) found some =
          let swap = refilled-swapped old.nodes file changes content s found in
          record {
            tree = λ bytes f makes.
                tree-swapped bytes old.nodes _ file s (with_content s changes content) f rising swap
                (sym (makes (node_by bytes s) (ap (λ o. option_map bytes (content_in o)) (sym found))));
            versions = versions-raised changes old.nodes _ file s _ rising swap refl;
            contents = record {
              here = content-swapped old.nodes _ file s _ swap;
              others = λ other differs. other-swapped old.nodes _ file s _ swap other differs;
            };
          }

  pub refilled-if : (old : NodesState V) (file changes : ℕ) (content : V) (result : Option (MutBor V)) → AreRising old.nodes → option_copied_mut result ≡ content_at old file
      → OnSome result (IsRefilled old (with_content_at old file changes content) file changes content)
  refilled-if old file changes content None rising is = tt
  refilled-if old file changes content (Some r) rising is = is_refilled old file changes content rising (ap is_some (sym is))

  -- ---- a version that is forgotten
  pub record IsForgotten (nodes new : List (NodeOf V)) (names : List (NamedItem ℕ)) (n : ℕ) : Type 0 where
    pub stands : IsTree new names
    pub tree : (bytes : V → List ℕ) → tree_in bytes new ≡ tree_in bytes nodes
    pub versions : versions_in new ≡ without_version (versions_in nodes) n
    pub contents : (m : ℕ) → content_in (now_at new m) ≡ content_in (now_at nodes m)

  pub forgotten : (nodes new : List (NodeOf V)) (names : List (NamedItem ℕ)) (n : ℕ) → IsTree nodes names
      → ((x : NodeOf V) → now_at nodes n ≡ Some x → new ≡ replaced nodes n (record x { version = 0 })) → (now_at nodes n ≡ None → new ≡ nodes) → IsForgotten nodes new names n
  forgotten nodes new names n tree some none = by_cases (now_at nodes n) refl
    where
      by_cases : (o : Option (NodeOf V)) → now_at nodes n ≡ o → IsForgotten nodes new names n
      by_cases None free =
          let same = none free in
          record {
            stands = rw same tree;
            tree = λ bytes. ap (tree_in bytes) same;
            versions = ap versions_in (same ∙ sym (without_now-none nodes n (sym free))) ∙ versions_in-without nodes n;
            contents = λ m. ap (λ l. content_in (now_at l m)) same;
          }
      by_cases (Some s) found =
          let is = some s found in
          let swap = swapped nodes new n s (record s { version = 0 }) found refl is in
          record {
            stands = IsTree-swapped nodes new names n s _ tree swap refl refl;
            tree = λ bytes. tree-kept bytes nodes new n s _ tree.rising swap refl;
            versions = ap versions_in is ∙ versions_in-forgotten nodes n (record s { version = 0 }) refl;
            contents = contents-kept nodes new n s _ swap refl;
          }

  -- ---- a node that comes
  pub inserted : (old new : NodesState V) (node : NodeOf V) (number parent : ℕ) (name : List ℕ) (content : Option V)
      → node ≡ record { number = number; parent = parent; name = name; content = content; version = 0 } → now_at old.nodes number ≡ None
      → new.nodes ≡ with_now old.nodes node → new.spare + 1 ≡ old.spare → IsInserted old new number parent name content
  inserted old new node number parent name content is free nodes spare =
      let same = ap (λ (n : NodeOf V). n.number) is in
      record {
        tree = λ bytes.
            ap (tree_in bytes) nodes ∙ tree_in-with bytes old.nodes node ∙ ap (λ n. with_node (tree_by bytes old) (node_by bytes n)) is;
        versions = ap versions_in nodes ∙ versions_in-with old.nodes node (ap (λ (n : NodeOf V). n.version) is);
        was = ap content_in free;
        contents = record {
          here = content-with old.nodes _ number node same free nodes ∙ ap (λ (n : NodeOf V). n.content) is;
          others = λ other differs. other-with old.nodes _ number node same nodes other differs;
        };
        spare = spare;
      }
