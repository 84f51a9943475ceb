-- What two transactions have, of which one ends.
use Rattle.std.specs.Prelude.{ℕ, true, false, List, [], ◌∷◌, Some, None, codes}
use Rattle.ktm_base.specs.declared.id.Id.{Id}
use Rattle.ktm_world.specs.declared.change.Change.TheVariants.{Make, Put, Cut, Drop}
use Rattle.ktm_world.specs.declared.change.Contents.TheVariants.{Whole}
use Rattle.ktm_world.specs.declared.change.NodeKind.{NodeKind}
use Rattle.ktm_world.specs.declared.options.EnlistmentKind.{EnlistmentKind}
use Rattle.ktm_world.specs.Enlistments.{Enlistment}
use Rattle.ktm_world.specs.Files.{OwnChanges}
use Rattle.ktm_world.specs.Keys.{Own}

-- the transaction that ends
abbrev pub ending : Id
ending = record { boot = 1; number = 1 }

-- the other one
abbrev pub staying : Id
staying = record { boot = 1; number = 2 }

-- an enlistment of the transaction, of the one resource manager
abbrev pub enlisted : ℕ → Id → List ℕ → Enlistment
enlisted number transaction information = record {
  id = record { boot = 1; number = number };
  manager = record { boot = 1; number = 1 };
  transaction = transaction;
  kind = EnlistmentKind.Plain;
  owes = None;
  is_read_only = false;
  is_prepared = true;
  is_finished = false;
  is_recovered = true;
  information = information;
}

-- the one that ends makes a file with a byte and drops another one, and the other one drops one too
abbrev pub changes_of_both : List OwnChanges
changes_of_both =
    record { transaction = staying; changes = Drop 7 ∷ [] }
    ∷ record { transaction = ending; changes = Make 9 1 NodeKind.File (codes "a") ∷ Drop 8 ∷ Cut 9 0 [] ∷ Put 9 0 (Whole (65 ∷ [])) ∷ [] }
    ∷ []

-- the one that ends sets three keys and unsets one, and the other one sets one
abbrev pub settings_of_both : List Own
settings_of_both =
    record {
      transaction = ending;
      settings = record { key = codes "a"; value = Some [] } ∷ record { key = codes "b"; value = None } ∷ record { key = codes "c"; value = Some [] } ∷ record { key = codes "d"; value = Some [] } ∷ [];
    }
    ∷ record { transaction = staying; settings = record { key = codes "e"; value = Some [] } ∷ [] }
    ∷ []
