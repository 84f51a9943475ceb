use Rattle.std.proofs.Common.{◌≡◌, ◌&&◌, [], not, sym, ap, ◌∙◌}
use Rattle.ktm_world.specs.Transactions.{same_id}
use Rattle.txf_reserve.specs.ReserveKeys.{node_key, place_key, IsNodeKey, IsPlaceKey}
use Rattle.txf_reserve.proofs.Holding.{moves_has, number_has, place_has, AreKeys-less}
use Rattle.txf_reserve.proofs.reserve.Reserve.release.Goals as goal

pub returns-clause-nodes : goal.returns-clause-nodes
returns-clause-nodes c =
    rw (← c.self.view_is) (λ id n.
    number_has c.remove_all.new.self.pairs (AreKeys-less IsNodeKey _ _ c.args.transaction c.remove_all.ensures.pairs c.self.invariant.nodes_are) id n
    ∙ c.remove_all.ensures.pairs (node_key n) id
    ∙ ap (λ b. b && not (same_id id c.args.transaction)) (sym (number_has c.self.inside.nodes.pairs c.self.invariant.nodes_are id n)))

pub returns-clause-places : goal.returns-clause-places
returns-clause-places c =
    rw (← c.self.view_is) (λ id p.
    place_has c.remove_all-2.new.self.pairs (AreKeys-less IsPlaceKey _ _ c.args.transaction c.remove_all-2.ensures.pairs c.self.invariant.places_are) id p
    ∙ c.remove_all-2.ensures.pairs (place_key p) id
    ∙ ap (λ b. b && not (same_id id c.args.transaction)) (sym (place_has c.self.inside.places.pairs c.self.invariant.places_are id p)))

pub returns-clause-uses : goal.returns-clause-uses
returns-clause-uses c =
    rw (← c.self.view_is) (λ id n.
    number_has c.remove_all-3.new.self.pairs (AreKeys-less IsNodeKey _ _ c.args.transaction c.remove_all-3.ensures.pairs c.self.invariant.uses_are) id n
    ∙ c.remove_all-3.ensures.pairs (node_key n) id
    ∙ ap (λ b. b && not (same_id id c.args.transaction)) (sym (number_has c.self.inside.uses.pairs c.self.invariant.uses_are id n)))

pub returns-clause-dropped : goal.returns-clause-dropped
returns-clause-dropped c =
    rw (← c.self.view_is) (λ id n.
    number_has c.remove_all-4.new.self.pairs (AreKeys-less IsNodeKey _ _ c.args.transaction c.remove_all-4.ensures.pairs c.self.invariant.dropped_are) id n
    ∙ c.remove_all-4.ensures.pairs (node_key n) id
    ∙ ap (λ b. b && not (same_id id c.args.transaction)) (sym (number_has c.self.inside.dropped.pairs c.self.invariant.dropped_are id n)))

pub returns-clause-moves : goal.returns-clause-moves
returns-clause-moves c =
    rw (← c.self.view_is) (λ id.
    moves_has c.remove_all-5.new.self.pairs (AreKeys-less (λ key. key ≡ []) _ _ c.args.transaction c.remove_all-5.ensures.pairs c.self.invariant.moves_are) id
    ∙ c.remove_all-5.ensures.pairs [] id
    ∙ ap (λ b. b && not (same_id id c.args.transaction)) (sym (moves_has c.self.inside.moves.pairs c.self.invariant.moves_are id)))
