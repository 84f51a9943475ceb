-- How many bytes a restart records by itself: its boot, and two small events at most for each transaction.
use Rattle.std.proofs.Common.{◌+◌, ◌*◌, ◌≤◌, Bool, true, false, List, [], ◌∷◌, ◌++◌, length, arith}
use Rattle.std.specs.List.{flat_map}
use Rattle.std.proofs.lemmas.List.Sums.{sum_by-append, sum_by-cons}
use Rattle.ktm_base.specs.declared.id.Id.{Id}
use Rattle.ktm_world.specs.declared.event.DonePart.{DonePart}
use Rattle.ktm_world.specs.declared.event.Event.TheVariants.{Boot, Done}
use Rattle.ktm_world.specs.Sizes.{done_size, event_size}
use Rattle.ktm_world.specs.Durable.{Durable, Recorded, has_undone}
use Rattle.ktm_world.specs.World.{done_if, own_events, own_group}
use Rattle.txf_laws.specs.GoodState.{IsGoodState}
use Rattle.ktm_records.proofs.offered.DurableLimits.{limits-kept}
use Rattle.ktm_room.specs.Frames.{FitsEmptyLog}
use Rattle.ktm_room.proofs.offered.CourseSizes.{one-sized, sizes}

done-size : (is : Bool) (id : Id) (done : DonePart) → sizes (done_if is id done) ≤ 9 + done_size done
done-size true id done = let one = one-sized (Done id done) in omega (arith, one)
done-size false id done = omega arith

own-size : (ts : List Recorded) → sizes (flat_map own_events ts) ≤ 20 * length ts
own-size [] = omega arith
own-size (t ∷ ts) =
    let files = done_if (has_undone DonePart.Files t) t.id DonePart.Files in
    let keys = done_if (has_undone DonePart.Keys t) t.id DonePart.Keys in
    let all = sum_by-append event_size (files ++ keys) (flat_map own_events ts) in
    let both = sum_by-append event_size files keys in
    let first = done-size (has_undone DonePart.Files t) t.id DonePart.Files in
    let second = done-size (has_undone DonePart.Keys t) t.id DonePart.Keys in
    let rest = own-size ts in
    omega (arith, all, both, first, second, rest)

pub restart-fits : (s : Durable) → IsGoodState s → FitsEmptyLog s.units (own_group s)
restart-fits s good =
    let boot = sum_by-cons event_size (Boot (s.boots + 1)) (flat_map own_events s.transactions) in
    let all = own-size s.transactions in
    let few = (limits-kept s good.limits).transactions in
    omega (arith, boot, all, few)
