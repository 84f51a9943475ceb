use Rattle.std.proofs.Common.{List, false, length, true, ◌∙◌, ap, subst, sym}
use Rattle.ktm_owners.specs.declared.owners.Owner.{Owner}
use Rattle.ktm_owners.specs.Owners.{AreThere}
use Rattle.ktm_owners.proofs.offered.States.{state-there}
use Rattle.ktm_paged.specs.Paged.{LieBelow}
use Rattle.ktm_restart.proofs.Giving.{ok-same, state-many, state-read, state-refused}
use Rattle.ktm_restart.proofs.reading.give_state.Goals as goal

pub give_named-requires : goal.give_named-requires
give_named-requires c =
    subst (λ (l : List Owner). AreThere (length l) c.name_state.new.owners.named) (sym c.name_state.ensures.owners)
    (state-there (length c.args.owners.now.owners) c.args.replayed.now.state c.name_state.new.owners.named c.requires.below c.in_ok-name_state.ensures.named)

pub returns-clause-many : goal.returns-clause-many
returns-clause-many c is =
    let s = c.args.replayed.now.state in
    let here = ok-same c.give_named.result true is in
    let below = subst (λ (l : List Owner). LieBelow (length l) s) (sym c.name_state.ensures.owners) c.requires.below in
    state-many s c.requires.good c.name_state.new.owners.owners below c.name_state.new.owners.named c.in_ok-name_state.ensures.named c.give_named.new.owners.owners c.give_named.result c.give_named.ensures here
    ∙ ap (λ (l : List Owner). length l) c.name_state.ensures.owners

pub returns-clause-known : goal.returns-clause-known
returns-clause-known c is =
    let s = c.args.replayed.now.state in
    let here = ok-same c.give_named.result true is in
    let below = subst (λ (l : List Owner). LieBelow (length l) s) (sym c.name_state.ensures.owners) c.requires.below in
    state-read s c.requires.good c.name_state.new.owners.owners below c.name_state.new.owners.named c.in_ok-name_state.ensures.named c.give_named.new.owners.owners c.give_named.result c.give_named.ensures here

pub returns-clause-shared : goal.returns-clause-shared
returns-clause-shared c is =
    let s = c.args.replayed.now.state in
    let here = ok-same c.give_named.result false is in
    let below = subst (λ (l : List Owner). LieBelow (length l) s) (sym c.name_state.ensures.owners) c.requires.below in
    state-refused s c.requires.good c.name_state.new.owners.owners below c.name_state.new.owners.named c.in_ok-name_state.ensures.named c.give_named.new.owners.owners c.give_named.result c.give_named.ensures here
