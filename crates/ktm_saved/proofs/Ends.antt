-- Tests of all things of a list.
use Rattle.std.proofs.Common.{◌≡◌, Bool, true, List, ◌++◌, sym, ◌∙◌}
use Rattle.std.specs.List.{list_all}
use Rattle.std.proofs.lemmas.Bool.{and_parts}
use Rattle.std.proofs.lemmas.List.Folds.{list_all-append}

pub all_front : {X : Type 0} (test : X → Bool) (xs ys : List X) → list_all test (xs ++ ys) ≡ true → list_all test xs ≡ true
all_front test xs ys all = (and_parts (list_all test xs) (list_all test ys) (sym (list_all-append test xs ys) ∙ all)).0
