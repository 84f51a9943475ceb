use Rattle.std.proofs.Common.{ℕ, List, ◌++◌, ◌∷◌, [], append_assoc, arith, drop, length, sym, ap, ◌∙◌}
use Rattle.std.proofs.lemmas.List.{append-nil}
use Rattle.txf_nodes.specs.Children.{entries_in, entry_seen, matching}
use Rattle.txf_nodes.specs.NodesState.{tree_by}
use Rattle.txf_nodes.proofs.Listing.{entries-ascend}
use Rattle.txf_nodes.proofs.Ordered.{AreAscending}
use Rattle.txf_nodes.proofs.Reaching.{ahead_next, ahead_of_lead, first_of, from_lead, matched_next, none_ahead, none_of}
use Rattle.txf_nodes.proofs.table.NodeTable.entries.Goals as goal

pub loop-entry-init : goal.loop-entry-init
loop-entry-init g c =
    let last = c.args.pattern.now.last in
    let none : g.row.C.Denot → List ℕ = λ _. [] in
    let rise : AreAscending (entries_in (tree_by none c.args.self.now) c.args.directory) =
    rw (← c.self.view_is) (entries-ascend none _ _ c.args.directory c.self.invariant) in
    record {
      so_far = λ bytes.
          rw (c.new-entries.ensures, c.children-children.ensures bytes, c.as_slice.ensures, c.child_name.ensures, c.lead.ensures.lead)
          (from_lead last c.args.directory (entries_in (tree_by bytes c.args.self.now) c.args.directory) c.lead.ensures.only);
      ahead =
          rw (c.children-children.ensures none, c.as_slice.ensures, c.child_name.ensures, c.lead.ensures.lead)
          (ahead_of_lead last c.args.directory (entries_in (tree_by none c.args.self.now) c.args.directory) rise);
    }

pub returns-then-not-reaches : goal.returns-then-not-reaches
returns-then-not-reaches g c = λ bytes.
    let last = c.args.pattern.now.last in
    let r = c.loop-entry.invariant in
    let first = first_of (entry_seen c.in-Some.entry) c.loop-entry.children c.in-Some.ensures.first in
    let ahead = rw first at r.ahead in
    sym (append-nil c.loop-entry.entries)
    ∙ ap (λ l. c.loop-entry.entries ++ l)
    (sym (ap (λ l. matching last l) first ∙ none_ahead last _ _ c.lead.ensures.only ahead (sym c.reaches.ensures ∙ c.if-not-reaches.true)))
    ∙ r.so_far bytes

pub loop-entry-smaller : goal.loop-entry-smaller
loop-entry-smaller g c =
    let first = first_of (entry_seen c.in-Some.entry) c.loop-entry.children c.in-Some.ensures.first in
    omega (arith, ap (λ l. length l) first, ap (λ l. length l) c.skip.ensures)

pub loop-entry-preserved : goal.loop-entry-preserved
loop-entry-preserved g c =
    let last = c.args.pattern.now.last in
    let r = c.loop-entry.invariant in
    let first = first_of (entry_seen c.in-Some.entry) c.loop-entry.children c.in-Some.ensures.first in
    let ahead = rw first at r.ahead in
    rw c.skip.ensures
    (record {
      so_far = λ bytes.
          ap (λ l. l ++ matching last (drop 1 c.loop-entry.children)) c.in_default-push_matching.ensures
          ∙ append_assoc c.loop-entry.entries (matching last (entry_seen c.in-Some.entry ∷ [])) (matching last (drop 1 c.loop-entry.children))
          ∙ ap (λ l. c.loop-entry.entries ++ l)
          (matched_next last (entry_seen c.in-Some.entry) (drop 1 c.loop-entry.children) ∙ ap (λ l. matching last l) (sym first))
          ∙ r.so_far bytes;
      ahead = ahead_next last _ (drop 1 c.loop-entry.children) ahead;
    })

pub returns : goal.returns
returns g c = λ bytes.
    let r = c.loop-entry.invariant in
    sym (append-nil c.loop-entry.entries)
    ∙ ap (λ l. c.loop-entry.entries ++ matching c.args.pattern.now.last l) (sym (none_of c.loop-entry.children c.in_default.ensures.first))
    ∙ r.so_far bytes
