use Rattle.std.proofs.Common.{◌||◌, [], ap, ◌∙◌}
use Rattle.txf_opens.specs.Acts.{place_in}
use Rattle.txf_reserve.specs.HeldPairs.{has_pair, is_pair}
use Rattle.txf_reserve.specs.ReserveKeys.{place_key, IsPlaceKey}
use Rattle.txf_reserve.proofs.Folding.{short-first}
use Rattle.txf_reserve.proofs.Holding.{is_pair-place, AreKeys-more}
use Rattle.txf_reserve.proofs.Present.{pair}
use Rattle.txf_reserve.proofs.reserve.hold_place.Goals as goal

pub place_key-requires : goal.place_key-requires
place_key-requires c = short-first c.in-Some.place.directory c.in-Some.place.name.now [] (rw c.in-Some.is at c.requires.short)

pub returns-in-Some-clause-held : goal.returns-in-Some-clause-held
returns-in-Some-clause-held c = λ p id.
    let key = c.as_slice.ensures ∙ c.place_key.ensures in
    rw c.in-Some.is
    (c.insert.ensures.pairs (place_key p) id
    ∙ ap (λ k. has_pair c.args.pairs.now.pairs (place_key p) id || is_pair (place_key p) id (pair k c.args.transaction)) key
    ∙ ap (λ b. has_pair c.args.pairs.now.pairs (place_key p) id || b) (is_pair-place p (place_in c.in-Some.place) id c.args.transaction))

pub returns-in-Some-clause-keys : goal.returns-in-Some-clause-keys
returns-in-Some-clause-keys c =
    AreKeys-more IsPlaceKey c.args.pairs.now.pairs _ c.as_slice.result.now c.args.transaction c.insert.ensures.pairs
    (record { place = place_in c.in-Some.place; is = c.as_slice.ensures ∙ c.place_key.ensures })
