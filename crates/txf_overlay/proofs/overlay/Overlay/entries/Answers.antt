use Rattle.std.proofs.Common.{◌≡◌, ◌∷◌, [], ◌++◌, append_assoc, sym, ap, ◌∙◌}
use Rattle.std.proofs.lemmas.List.{append-nil}
use Rattle.ktm_names.specs.Leading.{lead}
use Rattle.txf_tree.specs.Children.{entries_in, entry_seen, matching}
use Rattle.txf_tree.specs.Places.{child_name, entries_from}
use Rattle.txf_tree.specs.TreeState.{tree_of}
use Rattle.txf_tree.proofs.Reaching.{ahead_next, ahead_of_lead, from_lead, matched_next, none_ahead}
use Rattle.txf_overlay.specs.OverlayState.{seen}
use Rattle.txf_overlay.proofs.Entering.{begun, entries-ascend}
use Rattle.txf_overlay.proofs.overlay.Overlay.entries.Goals as goal

pub step-step-requires-clause-reached : goal.step-step-requires-clause-reached
step-step-requires-clause-reached c =
    let t = tree_of c.args.tree.now in
    let place = child_name c.args.directory (lead c.args.pattern.now.last) in
    let from : c.child_name-from.result ≡ place = c.child_name-from.ensures ∙ ap (child_name c.args.directory) c.lead.ensures.lead in
    let first = c.as_slice.ensures ∙ from in
    let second = c.as_slice-2.ensures ∙ from in (
      entries_from c.args.directory place (entries_in (seen t c.args.self.now) c.args.directory),
      begun t c.args.self.now c.args.directory place c.children-children.result c.next_seat-seat.result c.next_seat-seat.ensures.only
          (rw first at c.children-children.ensures) (rw second at c.next_seat-seat.ensures.some) (rw second at c.next_seat-seat.ensures.none),
    )

pub loop-step-init : goal.loop-step-init
loop-step-init c =
    let t = tree_of c.args.tree.now in
    let last = c.args.pattern.now.last in
    let all = entries_in (seen t c.args.self.now) c.args.directory in
    let place = child_name c.args.directory (lead last) in
    let from : c.child_name-from.result ≡ place = c.child_name-from.ensures ∙ ap (child_name c.args.directory) c.lead.ensures.lead in
    let first = c.as_slice.ensures ∙ from in
    let second = c.as_slice-2.ensures ∙ from in
    rw c.new-entries.ensures
    (record {
      left = entries_from c.args.directory place all;
      so_far = from_lead last c.args.directory all c.lead.ensures.only;
      ahead = ahead_of_lead last c.args.directory all (entries-ascend (seen t c.args.self.now) c.args.directory c.requires.after);
      stepped =
          c.step-step.ensures.steps (entries_from c.args.directory place all)
          (begun t c.args.self.now c.args.directory place c.children-children.result c.next_seat-seat.result c.next_seat-seat.ensures.only
          (rw first at c.children-children.ensures) (rw second at c.next_seat-seat.ensures.some) (rw second at c.next_seat-seat.ensures.none));
    })

pub returns-then-not-reaches : goal.returns-then-not-reaches
returns-then-not-reaches c =
    let last = c.args.pattern.now.last in
    let r = c.loop-step.invariant in
    let first = rw c.in-Some.is at r.stepped.first in
    let ahead = rw first at r.ahead in
    sym (append-nil c.loop-step.entries)
    ∙ ap (λ l. c.loop-step.entries ++ l)
    (sym (ap (λ l. matching last l) first ∙ none_ahead last _ _ c.lead.ensures.only ahead (sym c.reaches.ensures ∙ c.if-not-reaches.true)))
    ∙ r.so_far

pub loop-step-preserved : goal.loop-step-preserved
loop-step-preserved c =
    let last = c.args.pattern.now.last in
    let r = c.loop-step.invariant in
    let first = rw c.in-Some.is at r.stepped.first in
    let ahead = rw first at r.ahead in
    record {
      left = r.stepped.rest;
      so_far =
          ap (λ l. l ++ matching last r.stepped.rest) c.in_default-push_matching.ensures
          ∙ append_assoc c.loop-step.entries (matching last (entry_seen c.in-Some.entry ∷ [])) (matching last r.stepped.rest)
          ∙ ap (λ l. c.loop-step.entries ++ l) (matched_next last (entry_seen c.in-Some.entry) r.stepped.rest ∙ ap (λ l. matching last l) (sym first))
          ∙ r.so_far;
      ahead = ahead_next last _ r.stepped.rest ahead;
      stepped = c.step-step-in-Some.ensures.steps r.stepped.rest r.stepped.reached;
    }
