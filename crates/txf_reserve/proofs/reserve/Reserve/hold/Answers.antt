use Rattle.std.proofs.Common.{◌||◌, ◌&&◌, ◌++◌, sym, ap, ◌∙◌}
use Rattle.ktm_world.specs.Holds.{directories_of, is_in, is_place_in}
use Rattle.ktm_world.specs.Transactions.{same_id}
use Rattle.txf_reserve.specs.Acts.{listed, listed_place}
use Rattle.txf_reserve.specs.HeldPairs.{has_pair}
use Rattle.txf_reserve.specs.ReserveKeys.{node_key, place_key}
use Rattle.txf_reserve.proofs.Holding.{is_in-directories, is_place_in-append, moves_has, number_has, place_has, two_parts}
use Rattle.txf_reserve.proofs.reserve.Reserve.hold.Goals as goal

pub returns-clause-holds : goal.returns-clause-holds
returns-clause-holds c = rw (← c.self.view_is) (record {
  nodes = λ id n.
      number_has c.hold_number.new.pairs.pairs (c.hold_number.ensures.keys c.self.invariant.nodes_are) id n
      ∙ c.hold_number.ensures.held n id
      ∙ ap (λ b. b || (same_id id c.args.transaction && is_in (listed c.args.held.now.node) n)) (sym (number_has c.self.inside.nodes.pairs c.self.invariant.nodes_are id n));
  names = λ id p.
      let s = same_id id c.args.transaction in
      let a = is_place_in (listed_place c.args.held.now.from) p in
      let b = is_place_in (listed_place c.args.held.now.to) p in
      let old = has_pair c.self.inside.places.pairs (place_key p) id in
      place_has c.hold_place-2.new.pairs.pairs (c.hold_place-2.ensures.keys (c.hold_place.ensures.keys c.self.invariant.places_are)) id p
      ∙ c.hold_place-2.ensures.held p id
      ∙ ap (λ x. x || (s && b)) (c.hold_place.ensures.held p id)
      ∙ two_parts old s a b
      ∙ ap (λ x. old || (s && x)) (is_place_in-append (listed_place c.args.held.now.from) (listed_place c.args.held.now.to) p)
      ∙ ap (λ x. x || (s && is_place_in (listed_place c.args.held.now.from ++ listed_place c.args.held.now.to) p)) (sym (place_has c.self.inside.places.pairs c.self.invariant.places_are id p));
  uses = λ id n.
      let s = same_id id c.args.transaction in
      let from = listed_place c.args.held.now.from in
      let to = listed_place c.args.held.now.to in
      let old = has_pair c.self.inside.uses.pairs (node_key n) id in
      number_has c.hold_number-3.new.pairs.pairs (c.hold_number-3.ensures.keys (c.hold_number-2.ensures.keys c.self.invariant.uses_are)) id n
      ∙ c.hold_number-3.ensures.held n id
      ∙ ap (λ x. x || (s && is_in (listed c.directory_of-2.result) n)) (c.hold_number-2.ensures.held n id)
      ∙ ap (λ l. (old || (s && is_in (listed c.directory_of.result) n)) || (s && is_in l n)) c.directory_of-2.ensures
      ∙ ap (λ l. (old || (s && is_in l n)) || (s && is_in (directories_of to) n)) c.directory_of.ensures
      ∙ two_parts old s (is_in (directories_of from) n) (is_in (directories_of to) n)
      ∙ ap (λ x. old || (s && x)) (is_in-directories from to n)
      ∙ ap (λ x. x || (s && is_in (directories_of (from ++ to)) n)) (sym (number_has c.self.inside.uses.pairs c.self.invariant.uses_are id n));
  drops = λ id n.
      number_has c.hold_number-4.new.pairs.pairs (c.hold_number-4.ensures.keys c.self.invariant.dropped_are) id n
      ∙ c.hold_number-4.ensures.held n id
      ∙ ap (λ b. b || (same_id id c.args.transaction && is_in (listed c.args.held.now.dropped) n)) (sym (number_has c.self.inside.dropped.pairs c.self.invariant.dropped_are id n));
  right = λ id.
      moves_has c.hold_moves.new.pairs.pairs (c.hold_moves.ensures.keys c.self.invariant.moves_are) id
      ∙ c.hold_moves.ensures.held id
      ∙ ap (λ b. b || (same_id id c.args.transaction && c.args.held.now.moves)) (sym (moves_has c.self.inside.moves.pairs c.self.invariant.moves_are id));
})
