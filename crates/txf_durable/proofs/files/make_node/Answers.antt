use Rattle.std.proofs.Common.{◌≡◌, ◌∙◌, true, ap, inl, inr, subst, sym}
use Rattle.std.proofs.lemmas.Bool.{cases_Bool}
use Rattle.ktm_world.specs.declared.change.Change.TheVariants.{Make}
use Rattle.ktm_world.specs.Changes.{applies}
use Rattle.txf_tree.specs.TreeState.{TreeState, tree_of}
use Rattle.txf_durable.specs.State.{AreSound}
use Rattle.txf_durable.proofs.Making.{made-behind, number-few, sound-made, sound-same}
use Rattle.txf_durable.proofs.files.make_node.Goals as goal

pub returns-in-Err-clause-sound : goal.returns-in-Err-clause-sound
returns-in-Err-clause-sound c = λ units sound. sound-same _ c.reserve.new.self units c.reserve.ensures.nodes sound

pub returns-clause-applies : goal.returns-clause-applies
returns-clause-applies c =
    c.make_new.ensures.applies
    ∙ ap (λ ns. applies (tree_of (record { nodes = ns; spare = 0 })) (Make c.args.node c.args.parent c.args.kind c.args.name)) c.reserve.ensures.nodes

pub returns-clause-made : goal.returns-clause-made
returns-clause-made c = λ is.
    let made : c.make_new.result ≡ true = cc in
    made-behind _ _ _ _ c.reserve.ensures.nodes c.reserve.ensures.spare (c.make_new.ensures.applied made)

pub returns-clause-few : goal.returns-clause-few
returns-clause-few c = λ is.
    let made : c.make_new.result ≡ true = cc in
    number-few _ _ _ c.args.kind _ (sym c.make_new.ensures.applies ∙ made)

pub returns-clause-sound : goal.returns-clause-sound
returns-clause-sound c = λ units sound.
    let behind = sound-same _ c.reserve.new.self units c.reserve.ensures.nodes sound in
    elim (cases_Bool c.make_new.result) [
      | inl made ↦
          sound-made c.law_of_forms.ensures _ _ _ _ _ _ units (sym c.make_new.ensures.applies ∙ made) (c.make_new.ensures.applied made) behind
      | inr refused ↦ subst (λ (t : TreeState). AreSound t units) (sym (c.make_new.ensures.unchanged refused)) behind
    ]
