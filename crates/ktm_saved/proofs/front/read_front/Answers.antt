use Rattle.std.proofs.Common.{◌∙◌, ◌^◌, ◌-◌, ℕ, ap, sym, subst, refl, nat_lt}
use Rattle.std.proofs.lemmas.Bool.{and_parts, ltb-true, true≢false}
use Rattle.ktm_codec.proofs.SpansLemmas.{spans_then}
use Rattle.ktm_saved.proofs.Fronts.{behind_entries, behind_head, behind_nodes, front_read}
use Rattle.ktm_saved.proofs.GoodParts.{counts_left, good_keys, good_managers, good_tree}
use Rattle.ktm_saved.proofs.front.read_front.Goals as goal
use Rattle.ktm_saved.specs.declared.front.Front.{Front}
use Rattle.ktm_saved.specs.Reading.{AreGoodManagers, IsGoodTree}
use Rattle.ktm_snapshot.proofs.Reading.{reads_state}
use Rattle.ktm_snapshot.specs.declared.head.StateHead.{StateHead}
use Rattle.txf_tree.specs.TreeState.{tree_of}

pub returns-in_default : goal.returns-in_default
returns-in_default c = λ s is good. (reads_state c.args.bytes.now s).no_head c.in_default.ensures s is

pub returns-then-not-has_counts_left : goal.returns-then-not-has_counts_left
returns-then-not-has_counts_left c = λ s is good.
    let (same, nodes) = behind_head c.args.bytes.now s is c.in-Some.head c.in-Some.start c.in-Some.ensures in
    true≢false (sym (counts_left c.in-Some.head s same good) ∙ sym c.if-not-has_counts_left.ensures)

pub returns-in_default-2 : goal.returns-in_default-2
returns-in_default-2 c = λ s is good.
    let (same, nodes) = behind_head c.args.bytes.now s is c.in-Some.head c.in-Some.start c.in-Some.ensures in
    (rw c.in_default-2.is at c.in_ok-files.ensures.good) s.tree _ nodes (subst (λ (h : StateHead). IsGoodTree h.next_node s.tree) same (good_tree s good))

pub returns-in_default-3 : goal.returns-in_default-3
returns-in_default-3 c = λ s is good.
    let bytes = c.args.bytes.now in
    let files = rw c.in-Some-2.is at c.in_ok-files.ensures.good in
    let to_nodes = spans_then bytes 0 c.in-Some.start c.in-Some-2.behind_files c.in-Some.ensures files.0 in
    let (same, keys) = behind_nodes bytes s is c.in-Some.head (tree_of c.in-Some-2.files.tree) c.in-Some-2.behind_files to_nodes in
    (rw c.in_default-3.is at c.in_ok-keys.ensures) s.keys _ keys (good_keys s good)

pub returns-in_default-4 : goal.returns-in_default-4
returns-in_default-4 c = λ s is good.
    let bytes = c.args.bytes.now in
    let files = rw c.in-Some-2.is at c.in_ok-files.ensures.good in
    let keys = rw c.in-Some-3.is at c.in_ok-keys.ensures in
    let to_nodes = spans_then bytes 0 c.in-Some.start c.in-Some-2.behind_files c.in-Some.ensures files.0 in
    let to_entries = spans_then bytes 0 c.in-Some-2.behind_files c.in-Some-3.behind_keys to_nodes keys.0 in
    let (same, ids) = behind_entries bytes s is c.in-Some.head (tree_of c.in-Some-2.files.tree) c.in-Some-3.keys.items c.in-Some-3.behind_keys to_entries in
    (rw c.in_default-4.is at c.in_ok-managers.ensures) s.managers _ ids (subst (λ (b : ℕ). AreGoodManagers b s.managers) (ap (λ p. p.0.0.boots) same) (good_managers s good))

pub returns : goal.returns
returns c =
    let bytes = c.args.bytes.now in
    let head = c.in-Some.head in
    let tree = tree_of c.in-Some-2.files.tree in
    let files = rw c.in-Some-2.is at c.in_ok-files.ensures.good in
    let next = rw c.in-Some-2.is at c.in_ok-files.ensures.next in
    let keys = rw c.in-Some-3.is at c.in_ok-keys.ensures in
    let managers = rw c.in-Some-4.is at c.in_ok-managers.ensures in
    let front : Front = record { events = head.events; boots = head.boots; files = c.in-Some-2.files; keys = c.in-Some-3.keys; managers = c.in-Some-4.managers } in
    let counts = and_parts (nat_lt head.events (2 ^ 63)) (nat_lt head.boots (2 ^ 32 - 1)) (sym c.if-not-has_counts_left.ensures) in (
      front_read bytes head front c.in-Some.start c.in-Some-2.behind_files c.in-Some-3.behind_keys c.in-Some-4.end refl refl next c.in-Some.ensures files.0 keys.0 managers.0,
      record {
        events = ltb-true head.events (2 ^ 63) counts.0;
        boots = ltb-true head.boots (2 ^ 32 - 1) counts.1;
        tree = subst (λ (n : ℕ). IsGoodTree n tree) (sym next) files.1;
        keys = keys.1;
        managers = managers.1;
      },
    )
