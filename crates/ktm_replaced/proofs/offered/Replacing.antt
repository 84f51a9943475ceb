-- What changes that leave alike have in common, and what they make of trees and durable states.
use Rattle.std.proofs.Common.{◌≡◌, ℕ, ◌+◌, ◌^◌, ◌&&◌, ◌||◌, not, Bool, true, false, true≢false, List, [], ◌∷◌, ◌++◌, map, Option, Some, None, is_none, nat_lt, refl, sym, ◌∙◌, ap, arith, inl, inr}
use Rattle.std.specs.Prelude.{option_map}
use Rattle.std.specs.List.{list_any, list_all}
use Rattle.std.proofs.lemmas.Bool.{cases_Bool, eqb-true}
use Rattle.std.proofs.lemmas.Option.{none-some}
use Rattle.ktm_world.specs.declared.change.Change.{Change}
use Rattle.ktm_world.specs.declared.change.Change.TheVariants.{Make, Put, Cut, Move, Drop}
use Rattle.ktm_world.specs.declared.event.Event.TheVariants.{Plain}
use Rattle.ktm_world.specs.declared.recorded.Node.{Node}
use Rattle.ktm_world.specs.Changes.{changed, applies, changes_bytes, node_of, is_make, next_after, has_made}
use Rattle.ktm_world.specs.Durable.{Durable, Recorded, changes_of, act_of_node, acts_of, acts_of_all, holds_in, others_waiting, recorded_changes_apply, fact_of, after_event, is_within_limits, event_applies}
use Rattle.ktm_world.specs.Holds.{Act, opens, meets}
use Rattle.ktm_world.specs.Tree.{Tree, has_number, node_at, content_of, bytes_or_none, bytes_of, is_file, numbers_rise, with_changed}
use Rattle.ktm_world.proofs.offered.Lookups.{Rises, Rises-from, node_at-below}
use Rattle.ktm_mapped.specs.Mapped.{IsBlank, mapped_node, mapped_tree, mapped_recorded, mapped_durable}
use Rattle.ktm_mapped.proofs.offered.Lists.{list_all-mapped}
use Rattle.ktm_mapped.proofs.offered.Trees.{applies-mapped, bytes-content, changed-mapped, is_file-mapped, node_at-mapped}
use Rattle.ktm_mapped.proofs.offered.Events.{after_event-mapped}
use Rattle.ktm_mapped.proofs.offered.Applying.{event_applies-mapped, holds_in-mapped, is_within_limits-mapped, waiting-mapped}
use Rattle.ktm_replaced.specs.Replaced.{LeaveAlike, AreAlike, bytes_made, takes_no_pages}

-- ---- changes of bytes

pub makes-none : (c : Change) → changes_bytes c ≡ true → is_make c ≡ false
makes-none (Make node parent kind name) bytes = absurd (true≢false (sym bytes))
makes-none (Put node offset contents) bytes = refl
makes-none (Cut node size pages) bytes = refl
makes-none (Move node parent name) bytes = absurd (true≢false (sym bytes))
makes-none (Drop node) bytes = absurd (true≢false (sym bytes))

pub next-after-bytes : (next : ℕ) (c : Change) → changes_bytes c ≡ true → next_after next c ≡ next
next-after-bytes next (Make node parent kind name) bytes = absurd (true≢false (sym bytes))
next-after-bytes next (Put node offset contents) bytes = refl
next-after-bytes next (Cut node size pages) bytes = refl
next-after-bytes next (Move node parent name) bytes = absurd (true≢false (sym bytes))
next-after-bytes next (Drop node) bytes = absurd (true≢false (sym bytes))

-- the node with its bytes changed
abbrev with_bytes : Change → Node → Node
with_bytes c node = record node { content = Some (bytes_made (bytes_or_none node.content) c) }

pub changed-bytes : (tree : Tree) (c : Change) → changes_bytes c ≡ true → changed tree c ≡ with_changed tree (node_of c) (with_bytes c)
changed-bytes tree (Make node parent kind name) bytes = absurd (true≢false (sym bytes))
changed-bytes tree (Put node offset contents) bytes = refl
changed-bytes tree (Cut node size pages) bytes = refl
changed-bytes tree (Move node parent name) bytes = absurd (true≢false (sym bytes))
changed-bytes tree (Drop node) bytes = absurd (true≢false (sym bytes))

applies-bytes : (tree : Tree) (c : Change) → changes_bytes c ≡ true → applies tree c ≡ (is_file tree (node_of c) && takes_no_pages c)
applies-bytes tree (Make node parent kind name) bytes = absurd (true≢false (sym bytes))
applies-bytes tree (Put node offset contents) bytes = refl
applies-bytes tree (Cut node size pages) bytes = refl
applies-bytes tree (Move node parent name) bytes = absurd (true≢false (sym bytes))
applies-bytes tree (Drop node) bytes = absurd (true≢false (sym bytes))

-- what a change of the bytes of a node does, as calls
abbrev overwrites : Option Node → ℕ → List Act
overwrites None number = []
overwrites (Some node) number = opens number true ∷ []

act-bytes : (tree : Tree) (o : Option Node) (c : Change) → changes_bytes c ≡ true → act_of_node tree o c ≡ overwrites o (node_of c)
act-bytes tree None c bytes = refl
act-bytes tree (Some node) (Make number parent kind name) bytes = absurd (true≢false (sym bytes))
act-bytes tree (Some node) (Put number offset contents) bytes = refl
act-bytes tree (Some node) (Cut number size pages) bytes = refl
act-bytes tree (Some node) (Move number parent name) bytes = absurd (true≢false (sym bytes))
act-bytes tree (Some node) (Drop number) bytes = absurd (true≢false (sym bytes))

acts-bytes : (tree : Tree) (c : Change) → changes_bytes c ≡ true → acts_of tree c ≡ overwrites (node_at tree (node_of c)) (node_of c)
acts-bytes tree (Make node parent kind name) bytes = absurd (true≢false (sym bytes))
acts-bytes tree (Put node offset contents) bytes = act-bytes tree (node_at tree node) (Put node offset contents) refl
acts-bytes tree (Cut node size pages) bytes = act-bytes tree (node_at tree node) (Cut node size pages) refl
acts-bytes tree (Move node parent name) bytes = absurd (true≢false (sym bytes))
acts-bytes tree (Drop node) bytes = absurd (true≢false (sym bytes))

module _ (f : ℕ → ℕ) where
  overwrites-mapped : (o : Option Node) (number : ℕ) → overwrites (option_map (mapped_node f) o) number ≡ overwrites o number
  overwrites-mapped None number = refl
  overwrites-mapped (Some node) number = refl

  -- ---- the one node with a number

  -- a node that stands first with its number is the one that the rest lacks
  none-behind : (n : Node) (ns : Tree) (number : ℕ) → Rises (n ∷ ns) → has_number number n ≡ true → node_at ns number ≡ None
  none-behind n ns number rises here = let e : n.number ≡ number = eqb-true n.number number here in node_at-below ns n.number number rises.0 (omega (arith, e))

  with_changed-at : (tree : Tree) → Rises tree → (number : ℕ) (g h : Node → Node) → ((node : Node) → node_at tree number ≡ Some node → g (mapped_node f node) ≡ mapped_node f (h node))
      → with_changed (mapped_tree f tree) number g ≡ mapped_tree f (with_changed tree number h)
  with_changed-at [] rises number g h same = refl
  with_changed-at (n ∷ ns) rises number g h same = elim (cases_Bool (has_number number n)) [
    | inl here ↦
        let none : node_at ns number ≡ None = none-behind n ns number rises here in
        let rest = with_changed-at ns rises.1 number g h (λ node there. absurd (none-some node (sym none ∙ there))) in
        rw here (λ i. same n (rw here refl) i ∷ rest i)
    | inr other ↦
        let rest = with_changed-at ns rises.1 number g h (λ node there. same node (rw other there)) in
        rw other (λ i. mapped_node f n ∷ rest i)
  ]

  -- ---- changes that leave alike

  module _ (old : List ℕ) (c d : Change) (alike : LeaveAlike f old c d) where
    applies-left : (tree : Tree) → applies (mapped_tree f tree) d ≡ applies tree c
    applies-left tree =
        applies-bytes (mapped_tree f tree) d alike.second
        ∙ (λ i. is_file (mapped_tree f tree) (sym alike.node i) && alike.second_whole i)
        ∙ (λ i. is_file-mapped f tree (node_of c) i && sym alike.first_whole i)
        ∙ sym (applies-bytes tree c alike.first)

    acts-left : (tree : Tree) → acts_of (mapped_tree f tree) d ≡ acts_of tree c
    acts-left tree =
        acts-bytes (mapped_tree f tree) d alike.second
        ∙ (λ i. overwrites (node_at (mapped_tree f tree) (sym alike.node i)) (sym alike.node i))
        ∙ (λ i. overwrites (node_at-mapped f tree (node_of c) i) (node_of c))
        ∙ overwrites-mapped (node_at tree (node_of c)) (node_of c)
        ∙ sym (acts-bytes tree c alike.first)

  changed-left : (tree : Tree) (c d : Change) → numbers_rise tree ≡ true → LeaveAlike f (bytes_of tree (node_of c)) c d → changed (mapped_tree f tree) d ≡ mapped_tree f (changed tree c)
  changed-left tree c d rise alike =
      changed-bytes (mapped_tree f tree) d alike.second
      ∙ (λ i. with_changed (mapped_tree f tree) (sym alike.node i) (with_bytes d))
      ∙ with_changed-at tree (Rises-from tree rise) (node_of c) (with_bytes d) (with_bytes c) same
      ∙ sym (ap (mapped_tree f) (changed-bytes tree c alike.first))
    where
      same : (node : Node) → node_at tree (node_of c) ≡ Some node → with_bytes d (mapped_node f node) ≡ mapped_node f (with_bytes c node)
      same node there = λ i. record node { content = Some (left i) }
        where
          had : bytes_of tree (node_of c) ≡ bytes_or_none node.content
          had = ap (λ o. bytes_or_none (content_of o)) there

          left : bytes_made (bytes_or_none (mapped_node f node).content) d ≡ map f (bytes_made (bytes_or_none node.content) c)
          left =
              ap (λ bytes. bytes_made bytes d) (bytes-content f node.content ∙ sym (ap (map f) had))
              ∙ sym alike.result
              ∙ ap (λ bytes. map f (bytes_made bytes c)) had

-- ---- changes that are alike

module _ (f : ℕ → ℕ) (blank : IsBlank f) where
  pub applies-alike : (tree : Tree) (old : List ℕ) (c d : Change) → AreAlike f old c d → applies (mapped_tree f tree) d ≡ applies tree c
  applies-alike tree old c d (inl same) = ap (applies (mapped_tree f tree)) same ∙ applies-mapped f tree c
  applies-alike tree old c d (inr alike) = applies-left f old c d alike tree

  pub changed-alike : (tree : Tree) (c d : Change) → numbers_rise tree ≡ true → AreAlike f (bytes_of tree (node_of c)) c d → changed (mapped_tree f tree) d ≡ mapped_tree f (changed tree c)
  changed-alike tree c d rise (inl same) = ap (changed (mapped_tree f tree)) same ∙ changed-mapped f blank tree c
  changed-alike tree c d rise (inr alike) = changed-left f tree c d rise alike

-- ---- durable states

-- what a change asks of a transaction that waits: it meets nothing that it holds, and makes no node that it makes
abbrev spares : Durable → Change → Recorded → Bool
spares s c t = not (list_any (meets (holds_in s t)) (acts_of_all s.tree (c ∷ []))) && not (list_any (λ e. is_make e && has_made (changes_of t) (node_of e)) (c ∷ []))

module _ (f : ℕ → ℕ) (blank : IsBlank f) where
  module _ (s : Durable) (c d : Change) (rise : numbers_rise s.tree ≡ true) (alike : LeaveAlike f (bytes_of s.tree (node_of c)) c d) where
    fact-left : fact_of (mapped_durable f s) (Plain d) ≡ mapped_durable f (fact_of s (Plain c))
    fact-left = λ i. record (mapped_durable f s) {
      tree = changed-left f s.tree c d rise alike i;
      next_node = (next-after-bytes s.next_node d alike.second ∙ sym (next-after-bytes s.next_node c alike.first)) i;
    }

    spares-left : (t : Recorded) → spares (mapped_durable f s) d (mapped_recorded f t) ≡ spares s c t
    spares-left t = λ i.
        not (list_any (meets (holds_in-mapped f blank s t i)) (acts-left f (bytes_of s.tree (node_of c)) c d alike s.tree i ++ []))
        && not (((λ j. makes-none d alike.second j && has_made (changes_of (mapped_recorded f t)) (node_of d)) ∙ (λ j. sym (makes-none c alike.first) j && has_made (changes_of t) (node_of c))) i || false)

    recorded-left : recorded_changes_apply (mapped_durable f s) None (d ∷ []) ≡ recorded_changes_apply s None (c ∷ [])
    recorded-left = λ i.
        (ap (list_all (spares (mapped_durable f s) d)) (waiting-mapped f s) ∙ list_all-mapped (spares (mapped_durable f s) d) (spares s c) (mapped_recorded f) spares-left (others_waiting s None)) i
        && (applies-left f (bytes_of s.tree (node_of c)) c d alike s.tree i && true)
        && (((λ j. not (makes-none d alike.second j) || is_none (node_at (mapped_tree f s.tree) (node_of d))) ∙ (λ j. not (sym (makes-none c alike.first) j) || is_none (node_at s.tree (node_of c)))) i && true)

  pub after_event-alike : (s : Durable) (c d : Change) → numbers_rise s.tree ≡ true → AreAlike f (bytes_of s.tree (node_of c)) c d → after_event (mapped_durable f s) (Plain d) ≡ mapped_durable f (after_event s (Plain c))
  after_event-alike s c d rise (inl same) = ap (λ e. after_event (mapped_durable f s) (Plain e)) same ∙ after_event-mapped f blank s (Plain c)
  after_event-alike s c d rise (inr alike) = λ i. record (fact-left s c d rise alike i) { events = s.events + 1 }

  pub event_applies-alike : (s : Durable) (c d : Change) → numbers_rise s.tree ≡ true → AreAlike f (bytes_of s.tree (node_of c)) c d → event_applies (mapped_durable f s) (Plain d) ≡ event_applies s (Plain c)
  event_applies-alike s c d rise (inl same) = ap (λ e. event_applies (mapped_durable f s) (Plain e)) same ∙ event_applies-mapped f blank s (Plain c)
  event_applies-alike s c d rise (inr alike) = λ i.
      recorded-left s c d rise alike i
      && (ap is_within_limits (fact-left s c d rise alike) ∙ is_within_limits-mapped f blank (fact_of s (Plain c))) i
      && nat_lt (s.events + 1) (2 ^ 63)
