use Rattle.std.proofs.Common.{List, ℕ, [], ◌∷◌, ◌++◌, Option}
use Rattle.std.specs.Prelude.{codes}
use Rattle.ktm_dump.proofs.offered.Written.{AppendsPart-then, AppendsPart-more}
use Rattle.ktm_run.proofs.Known.{Appends-trans}
use Rattle.ktm_run.specs.declared.tally.Tally.{Tally}
use Rattle.ktm_dump.specs.Written.{AppendsPart}
use Rattle.ktm_run.specs.Summary.{named, summary}
use Rattle.ktm_run.proofs.generated.write_summary.Goals as goal

-- the front of the line, up to each of its numbers
abbrev one : Tally → List ℕ
one t = named (codes "lines=") t.lines

abbrev two : Tally → List ℕ
two t = one t ++ named (codes " ok=") t.ok

abbrev three : Tally → List ℕ
three t = two t ++ named (codes " refused=") t.refused

abbrev four : Tally → List ℕ
four t = three t ++ named (codes " restarts=") t.restarts

abbrev five : Tally → ℕ → List ℕ
five t events = four t ++ named (codes " events=") events

-- a part of a front is a part of the line
module _ (a b : Option (List ℕ)) (t : Tally) (events : ℕ) where
  part_of_five : AppendsPart a b (five t events) → AppendsPart a b (summary t.lines t.ok t.refused t.restarts events)
  part_of_five part = AppendsPart-more a b (five t events) (10 ∷ []) part

  part_of_four : AppendsPart a b (four t) → AppendsPart a b (summary t.lines t.ok t.refused t.restarts events)
  part_of_four part = part_of_five (AppendsPart-more a b (four t) (named (codes " events=") events) part)

  part_of_three : AppendsPart a b (three t) → AppendsPart a b (summary t.lines t.ok t.refused t.restarts events)
  part_of_three part = part_of_four (AppendsPart-more a b (three t) (named (codes " restarts=") t.restarts) part)

  part_of_two : AppendsPart a b (two t) → AppendsPart a b (summary t.lines t.ok t.refused t.restarts events)
  part_of_two part = part_of_three (AppendsPart-more a b (two t) (named (codes " refused=") t.refused) part)

  part_of_one : AppendsPart a b (one t) → AppendsPart a b (summary t.lines t.ok t.refused t.restarts events)
  part_of_one part = part_of_two (AppendsPart-more a b (one t) (named (codes " ok=") t.ok) part)

pub returns-in-Err-clause-err : goal.returns-in-Err-clause-err
returns-in-Err-clause-err g c = part_of_one _ _ c.args.tally.now c.args.events c.in-Err.ensures.err

pub returns-in-Err-write_named-clause-err : goal.returns-in-Err-write_named-clause-err
returns-in-Err-write_named-clause-err g c =
    let t = c.args.tally.now in
    part_of_two _ _ t c.args.events (AppendsPart-then _ _ _ (one t) (named (codes " ok=") t.ok) c.in_default.ensures.ok c.in-Err-write_named.ensures.err)

pub returns-in-Err-write_named-2-clause-err : goal.returns-in-Err-write_named-2-clause-err
returns-in-Err-write_named-2-clause-err g c =
    let t = c.args.tally.now in
    let front = Appends-trans _ _ _ (one t) (named (codes " ok=") t.ok) c.in_default.ensures.ok c.in_default-write_named.ensures.ok in
    part_of_three _ _ t c.args.events (AppendsPart-then _ _ _ (two t) (named (codes " refused=") t.refused) front c.in-Err-write_named-2.ensures.err)

pub returns-in-Err-write_named-3-clause-err : goal.returns-in-Err-write_named-3-clause-err
returns-in-Err-write_named-3-clause-err g c =
    let t = c.args.tally.now in
    let front = Appends-trans _ _ _ (one t) (named (codes " ok=") t.ok) c.in_default.ensures.ok c.in_default-write_named.ensures.ok in
    let further = Appends-trans _ _ _ (two t) (named (codes " refused=") t.refused) front c.in_default-write_named-2.ensures.ok in
    part_of_four _ _ t c.args.events (AppendsPart-then _ _ _ (three t) (named (codes " restarts=") t.restarts) further c.in-Err-write_named-3.ensures.err)

pub returns-in-Err-write_named-4-clause-err : goal.returns-in-Err-write_named-4-clause-err
returns-in-Err-write_named-4-clause-err g c =
    let t = c.args.tally.now in
    let front = Appends-trans _ _ _ (one t) (named (codes " ok=") t.ok) c.in_default.ensures.ok c.in_default-write_named.ensures.ok in
    let further = Appends-trans _ _ _ (two t) (named (codes " refused=") t.refused) front c.in_default-write_named-2.ensures.ok in
    let most = Appends-trans _ _ _ (three t) (named (codes " restarts=") t.restarts) further c.in_default-write_named-3.ensures.ok in
    part_of_five _ _ t c.args.events (AppendsPart-then _ _ _ (four t) (named (codes " events=") c.args.events) most c.in-Err-write_named-4.ensures.err)

pub returns-in-Err-write_all-clause-err : goal.returns-in-Err-write_all-clause-err
returns-in-Err-write_all-clause-err g c =
    let t = c.args.tally.now in
    let front = Appends-trans _ _ _ (one t) (named (codes " ok=") t.ok) c.in_default.ensures.ok c.in_default-write_named.ensures.ok in
    let further = Appends-trans _ _ _ (two t) (named (codes " refused=") t.refused) front c.in_default-write_named-2.ensures.ok in
    let most = Appends-trans _ _ _ (three t) (named (codes " restarts=") t.restarts) further c.in_default-write_named-3.ensures.ok in
    let all = Appends-trans _ _ _ (four t) (named (codes " events=") c.args.events) most c.in_default-write_named-4.ensures.ok in
    AppendsPart-then _ _ _ (five t c.args.events) (10 ∷ []) all c.in-Err-write_all.ensures.err

pub returns-clause-ok : goal.returns-clause-ok
returns-clause-ok g c =
    let t = c.args.tally.now in
    let front = Appends-trans _ _ _ (one t) (named (codes " ok=") t.ok) c.in_default.ensures.ok c.in_default-write_named.ensures.ok in
    let further = Appends-trans _ _ _ (two t) (named (codes " refused=") t.refused) front c.in_default-write_named-2.ensures.ok in
    let most = Appends-trans _ _ _ (three t) (named (codes " restarts=") t.restarts) further c.in_default-write_named-3.ensures.ok in
    let all = Appends-trans _ _ _ (four t) (named (codes " events=") c.args.events) most c.in_default-write_named-4.ensures.ok in
    Appends-trans _ _ _ (five t c.args.events) (10 ∷ []) all c.in_default-write_all.ensures.ok
