use Rattle.std.proofs.Common.{◌+◌, false, length, ◌∙◌, ap, refl, arith}
use Rattle.ktm_log.proofs.Loading.{loads_then, only_read, few_closed, few_torn, reached_further, one_more, end_found, log_found, bad_found, rests_found}
use Rattle.ktm_log.proofs.Payloads.{none_closed}
use Rattle.ktm_log.proofs.log.Log.scan.Goals as goal

pub loop-size-preserved : goal.loop-size-preserved
loop-size-preserved g c =
    let frame = rw c.in-Ok-Some.field-0-is at c.in-Ok-Some.ensures in
    let read = frame.reads.read in
    let before = c.loop-size.invariant in
    record {
      same = read.same ∙ before.same;
      room = omega (arith, read.room);
      kept = omega (arith, read.room);
      holds = read.holds;
      loads = loads_then _ _ _ _ _ _ _ _ before.loads read.loads;
      few = reached_further (length c.loop-size.buffer.items) _ c.loop-size.end c.in-Ok-Some.size before.few frame.reads.few;
      inside = omega (arith, frame.finds.0);
      frames = one_more c.args.area _ _ _ before.frames read.front _ frame.finds.1;
    }

pub returns-in-Ok-None : goal.returns-in-Ok-None
returns-in-Ok-None g c =
    let gate = rw c.in-Ok-None.field-0-is at c.in-Ok-None.ensures in
    let read = gate.reads.read in
    let before = c.loop-size.invariant in
    let same = read.same ∙ before.same in
    let end = end_found c.args.area _ _ _ before.frames read.front (none_closed _ gate.finds) in
    let log = log_found c.args.area _ _ _ before.frames read.front gate.finds _ _ same read.holds.bytes in
    record {
      area_is = refl;
      end_is = end;
      inside = before.inside;
      room = omega (arith, read.room);
      bytes = log;
      rests = rests_found c.args.area _ c.loop-size.end end _ _ same c.requires.within log;
      read = record {
        reads = record {
          kept = omega (arith, read.room);
          reads = only_read c.args.area _ _ _ _ _ _ false same (loads_then _ _ _ _ _ _ _ _ before.loads read.loads) (few_closed _ _ c.loop-size.end before.few gate.reads.few);
        };
        up = gate.reads.up;
      };
    }

pub returns-in-Err-Torn : goal.returns-in-Err-Torn
returns-in-Err-Torn g c =
    let torn = rw c.in-Err-Torn.field-0-is at c.in-Err-Torn.ensures in
    let read = torn.reads.read in
    let before = c.loop-size.invariant in
    let same = read.same ∙ before.same in
    let end = end_found c.args.area _ _ _ before.frames read.front torn.none in
    record {
      at = ap (λ n. c.args.area.at + n) end;
      inside = omega (arith, end);
      bytes = bad_found c.args.area _ _ _ before.frames read.front torn.none _ _ same (rw before.same at before.holds.bytes) torn.torn;
      read = record {
        reads = record {
          kept = omega (arith, read.room);
          reads = only_read c.args.area _ _ _ _ _ _ false same (loads_then _ _ _ _ _ _ _ _ before.loads read.loads) (few_torn _ _ c.loop-size.end c.args.area.len _ end read.loads.inside before.few torn.reads.few);
        };
        up = torn.reads.up;
      };
    }
