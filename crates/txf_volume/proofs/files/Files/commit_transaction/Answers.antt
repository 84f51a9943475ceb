use Rattle.std.proofs.Common.{◌≡◌, ℕ, ◌+◌, MatchOption, Option, Some, None, [], ap, length, subst, sym, refl, ◌∙◌, arith}
use Rattle.ktm_world.specs.Files.{own_changes}
use Rattle.txf_laws.specs.Reservations.{files_committed}
use Rattle.txf_overlay.specs.OverlayState.{OverlayState, own_of}
use Rattle.txf_volume.specs.Making.{parts, AreMade}
use Rattle.txf_volume.specs.Commit.{MayCommit}
use Rattle.txf_volume.specs.Held.{FilesHeld, files_of}
use Rattle.txf_volume.specs.contracts.files.Files.{the_view}
use Rattle.txf_volume.proofs.CommitTied.{Commits, can-own, files-are, right, tied-then}
use Rattle.txf_volume.proofs.Seen.{changes_in, own_changes-held}
use Rattle.txf_volume.proofs.files.Files.commit_transaction.Given.{Over}
use Rattle.txf_volume.proofs.files.Files.commit_transaction.Goals as goal
use Rattle.txf_volume.proofs.files.Files.commit_transaction.Goals.{After-take-own, After-commit_own-self-inside}

-- where nothing was changed, nothing is counted
count-own : (before after : ℕ) (now : Option OverlayState) → MatchOption now (after ≡ before) (λ o. after ≡ before + length (own_of o)) → after ≡ before + length (changes_in now)
count-own before after None is = is ∙ omega arith
count-own before after (Some o) is = is

-- what was required, of the parts
committable : (g : Over) (c : After-take-own g) → MayCommit (files_of (the_view c.self.inside)) c.args.transaction
committable g c = subst (λ (h : FilesHeld). MayCommit (files_of h) c.args.transaction) (sym c.self.view_is) c.requires

-- the parts then
abbrev held' : (g : Over) (c : After-commit_own-self-inside g) → FilesHeld
held' g c = the_view (record c.self.inside {
  tree = c.commit_own-self-inside.new.tree;
  versions = c.commit_own-self-inside.new.versions;
  overlays = c.take-own.new.self;
  opens = c.close_all.new.opens;
  reserve = c.release-2.new.self;
  units = c.commit_own-self-inside.result;
  counts = c.take-own.new.counts;
})

-- what was done with them
done : (g : Over) (c : After-commit_own-self-inside g) → Commits (the_view c.self.inside) (held' g c) c.self.inside.units c.commit_own-self-inside.result c.args.transaction c.release.new.self
done g c = record {
  opens = c.release.ensures.opens;
  held = c.release.ensures.held;
  are = c.law_of_older.ensures;
  own = subst (λ (now : Option OverlayState). MatchOption now (AreMade (parts c.self.inside.tree c.release.new.self c.self.inside.units) (parts c.commit_own-self-inside.new.tree c.commit_own-self-inside.new.versions c.commit_own-self-inside.result) [])
      (λ o. AreMade (parts c.self.inside.tree c.release.new.self c.self.inside.units) (parts c.commit_own-self-inside.new.tree c.commit_own-self-inside.new.versions c.commit_own-self-inside.result) (own_of o)))
      c.take-own.ensures.overlay c.commit_own-self-inside.ensures.made;
  left = c.take-own.ensures.left;
  files = c.close_all.ensures.opens;
  last = c.close_all.ensures.last;
  next = refl;
}

pub commit_own-self-inside-requires-clause-right : goal.commit_own-self-inside-requires-clause-right
commit_own-self-inside-requires-clause-right g c = right (the_view c.self.inside) c.self.inside.units c.self.inside.counts c.args.transaction c.self.invariant c.release.new.self c.release.ensures.opens c.release.ensures.held c.law_of_older.ensures

pub commit_own-self-inside-requires-clause-can : goal.commit_own-self-inside-requires-clause-can
commit_own-self-inside-requires-clause-can g c =
    can-own (the_view c.self.inside) c.self.inside.units c.self.inside.counts c.args.transaction c.self.invariant c.release.new.self c.release.ensures.opens c.release.ensures.held
    (committable g (goal.at.commit_own-self-inside-requires-clause-can g c).After-take-own) c.law_of_older.ensures (omega arith) c.take-own.result c.take-own.ensures.overlay

pub invariant_of-self : goal.invariant_of-self
invariant_of-self g c =
    let all = (goal.at.invariant_of-self g c).After-commit_own-self-inside in
    tied-then (the_view c.self.inside) c.self.inside.units c.self.inside.counts c.args.transaction c.self.invariant (held' g all) c.commit_own-self-inside.result c.release.new.self
    (committable g (goal.at.invariant_of-self g c).After-take-own) (done g all) c.law_of_forms.ensures c.law_of_other_trees.ensures c.take-own.new.counts c.take-own.ensures.counted
    (record { nodes = c.release-2.ensures.nodes; places = c.release-2.ensures.places; uses = c.release-2.ensures.uses; dropped = c.release-2.ensures.dropped; moves = c.release-2.ensures.moves })

pub returns-clause-files : goal.returns-clause-files
returns-clause-files g c =
    let all = (goal.at.returns-clause-files g c).After-commit_own-self-inside in
    files-are (the_view c.self.inside) c.self.inside.units c.self.inside.counts c.args.transaction c.self.invariant (held' g all) c.commit_own-self-inside.result c.release.new.self
    (committable g (goal.at.returns-clause-files g c).After-take-own) (done g all)
    ∙ ap (λ (h : FilesHeld). files_committed (files_of h) c.args.transaction) c.self.view_is

pub returns-clause-counted : goal.returns-clause-counted
returns-clause-counted g c =
    count-own c.args.steps.now c.commit_own-self-inside.new.steps c.take-own.result c.commit_own-self-inside.ensures.counted
    ∙ ap (λ (now : Option OverlayState). c.args.steps.now + length (changes_in now)) c.take-own.ensures.overlay
    ∙ ap (λ cs. c.args.steps.now + length cs) (sym (own_changes-held c.self.inside.overlays c.args.transaction))
    ∙ ap (λ (h : FilesHeld). c.args.steps.now + length (own_changes (files_of h).table.own c.args.transaction)) c.self.view_is
