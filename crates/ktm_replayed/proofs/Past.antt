-- A change that leaves its file longer than all units of the image applies to no state.
use Rattle.std.proofs.Common.{◌≡◌, ℕ, ◌+◌, ◌-◌, ◌*◌, ◌<◌, ◌≤◌, ◌==◌, true, false, List, [], ◌∷◌, ◌++◌, Option, Some, None, length, sum_by, refl, sym, ap, ◌∙◌, arith, inl, inr}
use Rattle.std.specs.Prelude.{nat_le, take, drop, replicate, is_some}
use Rattle.std.proofs.lemmas.Bool.{cases_Bool, and_left, and_parts, false_from_ne_true, le-leb, leb-true, ltb-true, true≢false}
use Rattle.std.proofs.lemmas.List.{length-append, length-replicate, length-take}
use Rattle.std.proofs.lemmas.List.Sums.{sum_by-cons}
use Rattle.std.proofs.lemmas.Option.{same_Some}
use Rattle.ktm_world.specs.declared.change.Change.{Change}
use Rattle.ktm_world.specs.declared.change.Change.TheVariants.{Make, Put, Cut, Move, Drop}
use Rattle.ktm_world.specs.declared.recorded.Node.{Node}
use Rattle.ktm_world.specs.declared.event.Event.TheVariants.{Plain}
use Rattle.txf_laws.proofs.offered.WaitingChanges.{recorded_changes_apply-all}
use Rattle.ktm_world.specs.Changes.{applies, bytes_in, changed}
use Rattle.ktm_world.specs.Durable.{Durable, event_applies, fact_applies, fact_of, is_within_limits, units_in_use}
use Rattle.ktm_world.specs.Tree.{Tree, bytes_or_none, content_of, cut_to, node_at, put_over, units_of}
use Rattle.ktm_world.proofs.offered.Lookups.{map_node, node_at-there}
use Rattle.ktm_replayed.specs.Replayed.{passes_units}

abbrev node_units : Node → ℕ
node_units node = units_of (bytes_or_none node.content)

-- no file has more units than all have
units-found : (tree : Tree) (n : ℕ) (node : Node) → node_at tree n ≡ Some node → node_units node ≤ sum_by node_units tree
units-found [] n node is = absurd (cc)
units-found (x ∷ xs) n node is =
    let all = sum_by-cons node_units x xs in
    elim (cases_Bool (x.number == n)) [
      | inl same ↦
          let found : x ≡ node = same_Some x node (rw same at is) in
          let units = ap node_units found in
          omega arith
      | inr other ↦
          let rest = units-found xs n node (rw other at is) in
          omega arith
    ]

length-cut_to : (bytes : List ℕ) (size : ℕ) → length (cut_to bytes size) ≡ size
length-cut_to bytes size =
    let both = length-append (take size bytes) (replicate {A = ℕ} (size - length bytes) 0) in
    let front = length-take size bytes in
    let gap : length (replicate {A = ℕ} (size - length bytes) 0) ≡ size - length bytes = length-replicate {A = ℕ} (size - length bytes) 0 in
    grind arith

length-put_over : (bytes new : List ℕ) (offset : ℕ) → offset + length new ≤ length (put_over bytes offset new)
length-put_over bytes new offset =
    let front = length-cut_to bytes offset in
    let both = length-append (cut_to bytes offset) new in
    let all : length (put_over bytes offset new) ≡ length (cut_to bytes offset ++ new) + length (drop (offset + length new) bytes) = length-append (cut_to bytes offset ++ new) (drop (offset + length new) bytes) in
    omega arith

-- more bytes than so many units have more units
more-units : (units : ℕ) (bytes : List ℕ) → units * 4096 < length bytes → units < units_of bytes
more-units units bytes more = omega (arith, more)

-- ---- the file after the change
file_there : (o : Option Node) → is_some (content_of o) ≡ true → (node : Node) × (o ≡ Some node)
file_there None there = absurd (cc)
file_there (Some node) there = (node, refl)

long_after : (units : ℕ) (tree : Tree) (c : Change) → applies tree c ≡ true → passes_units units c ≡ true → units < sum_by node_units (changed tree c)
long_after units tree (Make node parent kind name) does_apply passes = absurd (cc)
long_after units tree (Put node offset contents) does_apply passes =
    let (old, there) = file_there (node_at tree node) (and_parts _ _ does_apply).0 in
    let bytes = put_over (bytes_or_none old.content) offset (bytes_in contents) in
    let found = node_at-there tree (Put node offset contents) (λ make. absurd (cc)) ∙ ap (map_node (λ n. record n { content = Some (put_over (bytes_or_none n.content) offset (bytes_in contents)) })) there in
    let long = length-put_over (bytes_or_none old.content) (bytes_in contents) offset in
    let past : units * 4096 < offset + length (bytes_in contents) = ltb-true _ _ passes in
    let more = more-units units bytes (omega (arith, long, past)) in
    let all = units-found (changed tree (Put node offset contents)) node (record old { content = Some bytes }) found in
    omega (arith, more, all)
long_after units tree (Cut node size pages) does_apply passes =
    let (old, there) = file_there (node_at tree node) (and_parts _ _ does_apply).0 in
    let bytes = cut_to (bytes_or_none old.content) size in
    let found = node_at-there tree (Cut node size pages) (λ make. absurd (cc)) ∙ ap (map_node (λ n. record n { content = Some (cut_to (bytes_or_none n.content) size) })) there in
    let long = length-cut_to (bytes_or_none old.content) size in
    let past : units * 4096 < size = ltb-true _ _ passes in
    let more = more-units units bytes (omega (arith, long, past)) in
    let all = units-found (changed tree (Cut node size pages)) node (record old { content = Some bytes }) found in
    omega (arith, more, all)
long_after units tree (Move node parent name) does_apply passes = absurd (cc)
long_after units tree (Drop node) does_apply passes = absurd (cc)

-- it passes the limits
past_limits : (s : Durable) → nat_le (sum_by node_units s.tree) s.units ≡ false → is_within_limits s ≡ false
unfolding is_within_limits
past_limits s past =
    let more : nat_le (units_in_use s) s.units ≡ false = false_from_ne_true _ (λ within. true≢false (sym (le-leb (sum_by node_units s.tree) s.units (let all = leb-true (units_in_use s) s.units within in omega arith)) ∙ past)) in
    and_left _ _ (and_left _ _ (and_left _ _ (and_left _ _ (and_left _ _ (and_left _ _ more)))))

pub past_units : (s : Durable) (c : Change) → passes_units s.units c ≡ true → event_applies s (Plain c) ≡ false
past_units s c passes = and_left _ _ (false_from_ne_true _ (λ all.
    let parts = and_parts (fact_applies s (Plain c)) (is_within_limits (fact_of s (Plain c))) all in
    let does_apply = (and_parts (applies s.tree c) true (recorded_changes_apply-all s None (c ∷ []) parts.0)).0 in
    let more = long_after s.units s.tree c does_apply passes in
    let past : nat_le (sum_by node_units (changed s.tree c)) s.units ≡ false = grind arith in
    true≢false (sym parts.1 ∙ past_limits (fact_of s (Plain c)) past)))
