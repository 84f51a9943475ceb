use Rattle.std.proofs.Common.{List, ◌++◌, ◌∙◌, ap, subst}
use Rattle.ktm_owners.specs.declared.owners.Named.{Named}
use Rattle.ktm_owners.specs.Owners.{AreNamedByFile, AreNamedByParts, AreNamedInTurn}
use Rattle.ktm_owners.proofs.offered.Turns.{on-ok}
use Rattle.ktm_world.specs.Durable.{Recorded}
use Rattle.ktm_world.specs.Tree.{Tree}
use Rattle.ktm_restart.proofs.naming.name_state.Goals as goal

pub returns-clause-named : goal.returns-clause-named
returns-clause-named c =
    let (files, of_files, after_files) = c.in_ok-name_files.ensures.named in
    on-ok c.name_works.result
    (λ (works, of_works, after_works). record {
      files = files;
      works = works;
      of_files = subst (λ (tree : Tree). AreNamedInTurn AreNamedByFile tree files) c.tree.ensures of_files;
      of_works = subst (λ (ts : List Recorded). AreNamedInTurn AreNamedByParts ts works) c.transactions.ensures of_works;
      is = after_works ∙ ap (λ (l : List Named). l ++ works) (after_files ∙ ap (λ (l : List Named). l ++ files) c.name_none.ensures.named);
    }) c.name_works.ensures.named
