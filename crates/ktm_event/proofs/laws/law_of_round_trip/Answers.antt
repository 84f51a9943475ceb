use Rattle.std.proofs.Common.{arith}
use Rattle.ktm_event.proofs.KeptLemmas.{read_again}
use Rattle.ktm_event.proofs.laws.law_of_round_trip.Goals as goal

pub returns : goal.returns
returns c = read_again _ c.write_event.new.out.items c.args.behind.now _ (rw c.new-bytes.ensures.items at c.in_ok-write_event.ensures.adds) (omega (arith, c.in_ok-write_event.ensures.len, c.new-bytes.ensures.len, c.write_event.new.out.ok.0)) _
    (rw (c.in_ok-extend_from_slice.ensures.items) at (rw c.as_slice.ensures.value at c.read_event.ensures))
