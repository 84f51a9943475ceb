use Rattle.std.proofs.Common.{arith, length, refl, ◌≡◌, List, [], ◌∷◌, ◌++◌, Some, true, append_assoc, sym, ◌∙◌, ap, subst}
use Rattle.std.proofs.lemmas.List.{append-nil}
use Rattle.std.proofs.lemmas.Option.{same_Some}
use Rattle.ktm_world.specs.declared.change.Change.{Change}
use Rattle.ktm_world.specs.Changes.{applies}
use Rattle.ktm_world.specs.Files.{bytes_seen, tree_seen}
use Rattle.txf_laws.specs.FileEffects.{CanBeCounted, forgotten}
use Rattle.txf_laws.specs.OwnChange.{owned}
use Rattle.txf_tree.specs.UnitChanges.{CanBeMadeOver}
use Rattle.txf_volume.specs.Held.{files_of}
use Rattle.txf_volume.specs.Restoring.{begun}
use Rattle.txf_volume.proofs.RestoringCounts.{counted-begun}
use Rattle.txf_volume.proofs.Restoring.{applies-next, begun-all, begun-left, owned-next, units-next}
use Rattle.txf_volume.proofs.files.Files.own_all.Goals as goal

-- the changes so far, the next one and the rest are all
all-left : (done : List Change) (c : Change) (rest left changes : List Change) → left ≡ c ∷ rest → done ++ left ≡ changes → done ++ c ∷ rest ≡ changes
all-left done c rest left changes first all = ap (λ l. done ++ l) (sym first) ∙ all

-- a list with no length is empty
none-left : (cs : List Change) → length cs ≡ 0 → cs ≡ []
none-left [] none = refl
none-left (c ∷ cs) none = absurd (omega (arith, none))

pub own_if-requires-clause-applies : goal.own_if-requires-clause-applies
own_if-requires-clause-applies c = λ change same.
    let all = all-left c.loop-change.yielded c.in-Some.change c.next.new.self.rest.items _ _ c.in-Some.ensures.steps.0 c.loop-change.invariant.all in
    subst (λ d. applies (tree_seen (files_of c.loop-change.self) (Some c.args.transaction)) d ≡ true) (same_Some _ _ same)
    (subst (λ f. applies (tree_seen f (Some c.args.transaction)) c.in-Some.change ≡ true) (sym c.loop-change.invariant.files)
    (applies-next (files_of c.args.self.now) c.args.transaction c.args.changes.items c.requires c.loop-change.yielded c.in-Some.change c.next.new.self.rest.items all))

pub own_if-requires-clause-units : goal.own_if-requires-clause-units
own_if-requires-clause-units c = λ change same.
    let all = all-left c.loop-change.yielded c.in-Some.change c.next.new.self.rest.items _ _ c.in-Some.ensures.steps.0 c.loop-change.invariant.all in
    subst (CanBeMadeOver (bytes_seen (files_of c.loop-change.self) (Some c.args.transaction))) (same_Some _ _ same)
    (subst (λ f. CanBeMadeOver (bytes_seen f (Some c.args.transaction)) c.in-Some.change) (sym c.loop-change.invariant.files)
    (units-next (files_of c.args.self.now) c.args.transaction c.args.changes.items c.requires c.loop-change.yielded c.in-Some.change c.next.new.self.rest.items all))

pub own_if-requires-clause-counted : goal.own_if-requires-clause-counted
own_if-requires-clause-counted c =
    let all = all-left c.loop-change.yielded c.in-Some.change c.next.new.self.rest.items _ _ c.in-Some.ensures.steps.0 c.loop-change.invariant.all in
    subst (λ f. CanBeCounted (owned f c.args.transaction c.in-Some.change)) (sym c.loop-change.invariant.files)
    (subst CanBeCounted (sym (owned-next (files_of c.args.self.now) c.args.transaction c.args.changes.items c.requires c.loop-change.yielded c.in-Some.change c.next.new.self.rest.items all))
    (counted-begun (files_of c.args.self.now) c.args.transaction c.args.changes.items c.requires (c.loop-change.yielded ++ c.in-Some.change ∷ []) c.next.new.self.rest.items
    (append_assoc c.loop-change.yielded (c.in-Some.change ∷ []) c.next.new.self.rest.items ∙ all)))

pub returns-in-Err-clause-some : goal.returns-in-Err-clause-some
returns-in-Err-clause-some c =
    ap (λ f. forgotten f c.args.transaction) (c.in-Err.ensures.same ∙ c.loop-change.invariant.files)
    ∙ begun-left (files_of c.args.self.now) c.args.transaction c.args.changes.items c.requires c.loop-change.yielded

pub loop-change-preserved : goal.loop-change-preserved
loop-change-preserved c =
    let all = all-left c.loop-change.yielded c.in-Some.change c.next.new.self.rest.items _ _ c.in-Some.ensures.steps.0 c.loop-change.invariant.all in
    record {
      files =
          c.in_default.ensures.done
          ∙ ap (λ f. owned f c.args.transaction c.in-Some.change) c.loop-change.invariant.files
          ∙ owned-next (files_of c.args.self.now) c.args.transaction c.args.changes.items c.requires c.loop-change.yielded c.in-Some.change c.next.new.self.rest.items all;
      all = append_assoc c.loop-change.yielded (c.in-Some.change ∷ []) c.next.new.self.rest.items ∙ all;
    }

pub returns-clause-done : goal.returns-clause-done
returns-clause-done c =
    let none : c.loop-change.change-iterator.rest.items ≡ [] = none-left c.loop-change.change-iterator.rest.items (sym c.loop-change.change-iterator.rest.ok.0 ∙ c.in-None.ensures.steps.0) in
    c.loop-change.invariant.files
    ∙ ap (begun (files_of c.args.self.now) c.args.transaction) (sym (append-nil c.loop-change.yielded) ∙ ap (λ rest. c.loop-change.yielded ++ rest) (sym none) ∙ c.loop-change.invariant.all)
    ∙ begun-all (files_of c.args.self.now) c.args.transaction c.args.changes.items c.requires
