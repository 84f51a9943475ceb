use Rattle.std.proofs.Common.{◌∷◌, ◌++◌, [], subst, ap, ◌∙◌, sym, append_assoc, arith}
use Rattle.std.proofs.lemmas.List.{length_push}
use Rattle.std.specs.Vec.Iter.{into_iter_items}
use Rattle.txf_volume.specs.Making.{parts, CanName}
use Rattle.txf_volume.proofs.CommitParts.{made-then, name-first, name-rest}
use Rattle.txf_volume.proofs.commit.apply_names.Given.{Over}
use Rattle.txf_volume.proofs.commit.apply_names.Goals as goal
use Rattle.txf_volume.proofs.commit.apply_names.Goals.{In-Some}

-- the change and those behind it can be made
all : (g : Over) (c : In-Some g) → CanName (parts c.loop-change.tree c.loop-change.versions c.loop-change.units) (c.in-Some.change ∷ into_iter_items c.next.new.self)
all g c = subst (CanName (parts c.loop-change.tree c.loop-change.versions c.loop-change.units)) c.in-Some.ensures.steps.0 c.loop-change.invariant.can

pub apply_name-requires : goal.apply_name-requires
apply_name-requires g c = name-first (parts c.loop-change.tree c.loop-change.versions c.loop-change.units) c.in-Some.change (into_iter_items c.next.new.self) (all g (goal.at.apply_name-requires g c).In-Some)

pub loop-change-preserved : goal.loop-change-preserved
loop-change-preserved g c =
    let now = parts c.loop-change.tree c.loop-change.versions c.loop-change.units in
    let then' = parts c.apply_name.new.tree c.apply_name.new.versions c.apply_name.new.units in
    record {
      made = made-then (parts c.args.tree.now c.args.versions.now c.args.units.now) now then' c.loop-change.yielded (c.in-Some.change ∷ []) c.loop-change.invariant.made c.apply_name.ensures;
      can = name-rest now c.in-Some.change (into_iter_items c.next.new.self) (all g (goal.at.loop-change-preserved g c).In-Some) then' c.apply_name.ensures;
      counted = omega (arith, c.loop-change.invariant.counted, c.tick.ensures, length_push c.loop-change.yielded c.in-Some.change);
      rest = append_assoc c.loop-change.yielded (c.in-Some.change ∷ []) (into_iter_items c.next.new.self) ∙ ap (λ l. c.loop-change.yielded ++ l) (sym c.in-Some.ensures.steps.0) ∙ c.loop-change.invariant.rest;
    }
