use Rattle.std.proofs.Common.{List, ap, length, length-append, sym, subst, arith}
use Rattle.std.specs.List.{flat_map}
use Rattle.ktm_world.specs.declared.change.Change.{Change}
use Rattle.txf_overlay.specs.OverlayState.{final_of, own_of, Written}
use Rattle.txf_volume.specs.Making.{parts, AreMade, CanName, CanReplace}
use Rattle.txf_volume.proofs.CommitParts.{made-then, take-files, take-names, take-units}
use Rattle.txf_volume.proofs.commit.commit_overlay.Given.{Over}
use Rattle.txf_volume.proofs.commit.commit_overlay.Goals as goal
use Rattle.txf_volume.proofs.commit.commit_overlay.Goals.{After-apply_names, After-replace_files}

pub apply_names-requires : goal.apply_names-requires
apply_names-requires g c =
    subst (CanName (parts c.args.tree.now c.args.versions.now c.args.units)) (sym c.take_names-names.ensures.names)
    (take-names (parts c.args.tree.now c.args.versions.now c.args.units) c.args.overlay c.requires)

-- the changes of names are made
named : (g : Over) (c : After-apply_names g) → AreMade (parts c.args.tree.now c.args.versions.now c.args.units) (parts c.apply_names.new.tree c.apply_names.new.versions c.apply_names.new.units) c.args.overlay.names
named g c = subst (AreMade (parts c.args.tree.now c.args.versions.now c.args.units) (parts c.apply_names.new.tree c.apply_names.new.versions c.apply_names.new.units)) c.take_names-names.ensures.names c.apply_names.ensures.made

pub replace_files-requires : goal.replace_files-requires
replace_files-requires g c =
    let now = parts c.apply_names.new.tree c.apply_names.new.versions c.apply_names.new.units in
    subst (CanReplace now) (sym c.take_names-names.ensures.written)
    (take-files (parts c.args.tree.now c.args.versions.now c.args.units) c.args.overlay c.requires now (named g (goal.at.replace_files-requires g c).After-apply_names))

-- all is made
made : (g : Over) (c : After-replace_files g) → (named : AreMade (parts c.args.tree.now c.args.versions.now c.args.units) (parts c.apply_names.new.tree c.apply_names.new.versions c.apply_names.new.units) c.args.overlay.names)
    → AreMade (parts c.args.tree.now c.args.versions.now c.args.units) (parts c.replace_files.new.tree c.replace_files.new.versions c.replace_files.new.units) (own_of c.args.overlay)
made g c named =
    let now = parts c.apply_names.new.tree c.apply_names.new.versions c.apply_names.new.units in
    let after = parts c.replace_files.new.tree c.replace_files.new.versions c.replace_files.new.units in
    made-then (parts c.args.tree.now c.args.versions.now c.args.units) now after c.args.overlay.names (flat_map final_of c.args.overlay.written) named
    (subst (λ (files : List Written). AreMade now after (flat_map final_of files)) c.take_names-names.ensures.written c.replace_files.ensures.made)

pub overflow_cast-result : goal.overflow_cast-result
overflow_cast-result g c =
    let few = take-units (parts c.args.tree.now c.args.versions.now c.args.units) c.args.overlay c.requires (parts c.replace_files.new.tree c.replace_files.new.versions c.replace_files.new.units)
    (made g (goal.at.overflow_cast-result g c).After-replace_files (named g (goal.at.overflow_cast-result g c).After-apply_names)) in
    omega arith

pub returns-clause-made : goal.returns-clause-made
returns-clause-made g c = made g (goal.at.returns-clause-made g c).After-replace_files (named g (goal.at.returns-clause-made g c).After-apply_names)

pub returns-clause-counted : goal.returns-clause-counted
returns-clause-counted g c =
    omega (
      arith,
      c.apply_names.ensures.counted,
      c.replace_files.ensures.counted,
      ap (λ (cs : List Change). length cs) c.take_names-names.ensures.names,
      ap (λ (files : List Written). length (flat_map final_of files)) c.take_names-names.ensures.written,
      length-append c.args.overlay.names (flat_map final_of c.args.overlay.written),
    )
