use Rattle.std.proofs.Common.{◌∷◌, List, ap, arith, length, length-append, sym, ◌∙◌, subst}
use Rattle.std.specs.List.{flat_map}
use Rattle.txf_overlay.specs.OverlayState.{final_of, Written}
use Rattle.txf_volume.specs.Making.{parts, AreMade, CanReplace}
use Rattle.txf_volume.proofs.CommitParts.{made-none, made-then, replace-first, replace-rest}
use Rattle.txf_volume.proofs.commit.replace_files.Given.{Over}
use Rattle.txf_volume.proofs.commit.replace_files.Goals as goal
use Rattle.txf_volume.proofs.commit.replace_files.Goals.{In-Some}

-- the file and those behind it can have their bytes
all : (g : Over) (c : In-Some g) → CanReplace (parts c.loop-file.tree c.loop-file.versions c.loop-file.units) (c.in-Some.file ∷ c.pop_written.new.self.written)
all g c = subst (CanReplace (parts c.loop-file.tree c.loop-file.versions c.loop-file.units)) c.in-Some.ensures.written c.loop-file.invariant.can

pub replace_file-requires : goal.replace_file-requires
replace_file-requires g c = replace-first (parts c.loop-file.tree c.loop-file.versions c.loop-file.units) c.in-Some.file c.pop_written.new.self.written (all g (goal.at.replace_file-requires g c).In-Some)

pub loop-file-preserved : goal.loop-file-preserved
loop-file-preserved g c =
    let now = parts c.loop-file.tree c.loop-file.versions c.loop-file.units in
    let then' = parts c.replace_file.new.tree c.replace_file.new.versions c.replace_file.new.units in
    record {
      can = replace-rest now c.in-Some.file c.pop_written.new.self.written (all g (goal.at.loop-file-preserved g c).In-Some) then' c.replace_file.ensures;
      all = λ q rest. c.loop-file.invariant.all q
          (subst (λ (ws : List Written). AreMade now q (flat_map final_of ws)) (sym c.in-Some.ensures.written)
          (made-then now then' q (final_of c.in-Some.file) (flat_map final_of c.pop_written.new.self.written) c.replace_file.ensures rest));
      counted =
          omega (
            arith,
            c.loop-file.invariant.counted,
            c.count_final.ensures,
            ap (λ (ws : List Written). length (flat_map final_of ws)) c.in-Some.ensures.written,
            length-append (final_of c.in-Some.file) (flat_map final_of c.pop_written.new.self.written),
          );
    }

pub returns-clause-made : goal.returns-clause-made
returns-clause-made g c =
    let now = parts c.loop-file.tree c.loop-file.versions c.loop-file.units in
    c.loop-file.invariant.all now
    (subst (λ (ws : List Written). AreMade now now (flat_map final_of ws)) (sym (c.in_default.ensures.written ∙ c.in_default.ensures.none)) (made-none now c.loop-file.invariant.can.can.right))

pub returns-clause-counted : goal.returns-clause-counted
returns-clause-counted g c =
    omega (arith, c.loop-file.invariant.counted, ap (λ (ws : List Written). length (flat_map final_of ws)) (c.in_default.ensures.written ∙ c.in_default.ensures.none))
