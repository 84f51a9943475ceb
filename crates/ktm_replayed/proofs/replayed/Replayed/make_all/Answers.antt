use Rattle.std.proofs.Common.{◌≡◌, ◌∙◌, true, Ok, ap, sym, subst}
use Rattle.std.proofs.lemmas.Bool.{and_parts}
use Rattle.std.specs.List.{list_all}
use Rattle.ktm_world.specs.Changes.{changes_apply}
use Rattle.ktm_world.specs.Durable.{is_new_in}
use Rattle.ktm_world.specs.Tree.{IsWellFormed}
use Rattle.txf_tree.specs.TreeState.{tree_of}
use Rattle.txf_tree.specs.UnitChanges.{CanAllBeMade}
use Rattle.ktm_replayed.specs.Replayed.{ReplayedState}
use Rattle.ktm_waiting.specs.Waiting.{AreSpared}
use Rattle.ktm_waiting.proofs.offered.Reserving.{held-commit}
use Rattle.ktm_replayed.proofs.replayed.Replayed.make_all.Goals as goal

pub commit-requires : goal.commit-requires
commit-requires c = subst (λ (r : ReplayedState). CanAllBeMade r.state.tree c.args.changes.items) (sym c.self.view_is) c.requires.units

pub invariant_of-self : goal.invariant_of-self
invariant_of-self c =
    let tree = tree_of c.self.inside.files.tree in
    let ts = c.self.inside.transactions.transactions in
    let cs = c.args.changes.items in
    let both = and_parts (changes_apply tree cs) (list_all (is_new_in tree) cs) (sym c.in-Ok-true.ensures.applies ∙ c.in-Ok-true.field-0-test) in
    let spared = subst (λ (r : ReplayedState). changes_apply r.state.tree cs ≡ true → list_all (is_new_in r.state.tree) cs ≡ true → AreSpared r.state.tree r.state.transactions cs) (sym c.self.view_is) c.requires.spared in
    held-commit c.self.inside.waiting tree ts c.self.invariant c.law_of_lists.ensures (tree_of c.commit.new.self.tree) cs (subst (λ (r : ReplayedState). IsWellFormed r.state.tree) (sym c.self.view_is) c.law_of_kept.ensures.formed) both.0 (spared both.0 both.1) (c.in-Ok-true.ensures.after (ap Ok c.in-Ok-true.field-0-test)).0
