use Rattle.std.proofs.Common.{◌+◌, ◌≤◌, ◌∷◌, [], ◌++◌, false, true, length, refl, arith}
use Rattle.std.proofs.lemmas.Grind.{common_steps}
use Rattle.ktm_base.specs.Disk.{DiskState}
use Rattle.ktm_base.proofs.offered.Images.{calls_law}
use Rattle.ktm_base.proofs.offered.ToldSteps.{Goes-map}
use Rattle.ktm_log.specs.Log.{Rests}
use Rattle.ktm_log.proofs.Appends.{length-body, stage_tore, stage_done, gate_tore, gate_done, both_elsewhere}
use Rattle.ktm_log.proofs.Steps.{Goes-two, IsSomeAnd-two, IfSome-from_tells}
use Rattle.ktm_log.proofs.log.Log.append.Goals as goal

pub returns-in-Err : goal.returns-in-Err
returns-in-Err g c = rw (← c.self.view_is) (
    let area = c.self.inside.area in
    let end = c.self.inside.end in
    let spare = rw (← c.self.view_is) at c.spare.ensures in
    record {
      room = omega (arith, spare);
      log = refl;
      either = λ ps p body rests.
          let room : end + length p + 6 ≤ area.len = omega (arith, spare, length-body p c.args.body.now body) in
          Goes-map _ _ (Rests area ps end) (IfSome-from_tells (Rests area ps end) _ rests) c.in-Err.ensures.err
          (λ a b stood tore. stage_tore area ps p end room _ _ a b (omega arith) body.is stood tore);
      calls = grind (arith, common_steps);
    })

pub returns-in-Err-settle : goal.returns-in-Err-settle
returns-in-Err-settle g c = rw (← c.self.view_is) (
    let area = c.self.inside.area in
    let end = c.self.inside.end in
    let spare = rw (← c.self.view_is) at c.spare.ensures in
    record {
      room = omega (arith, spare);
      log = refl;
      either = λ ps p body rests.
          let room : end + length p + 6 ≤ area.len = omega (arith, spare, length-body p c.args.body.now body) in
          Goes-two (Rests area ps end) _ _ _ (IfSome-from_tells (Rests area ps end) _ rests) c.in_default.ensures.ok c.in-Err-settle.ensures.err
          (λ a b d stood settled tore. gate_tore area ps p end room _ a.seen b d (omega arith) body.small
          (stage_done area ps p end room _ _ a b (omega arith) body.is stood settled) tore);
      calls = calls_law _ _ _ 2 2 true c.in_default.ensures.calls c.in-Err-settle.ensures.calls;
    })

pub returns : goal.returns
returns g c = rw (← c.self.view_is) (
    let area = c.self.inside.area in
    let end = c.self.inside.end in
    let spare = rw (← c.self.view_is) at c.spare.ensures in
    let free : end + length c.args.body.now + 1 ≤ area.len = omega (arith, spare) in
    record {
      room = free;
      log = refl {a = record { area = area; end = end + length c.args.body.now }};
      frame = λ ps p body rests.
          let long = length-body p c.args.body.now body in
          let room : end + length p + 6 ≤ area.len = omega (arith, spare) in
          IsSomeAnd-two (Rests area ps end) (Rests area (ps ++ p ∷ []) (end + length c.args.body.now)) _ _ _ rests c.in_default.ensures.ok c.in_default-settle.ensures.ok
          (λ a b d stood staged opened. rw long (gate_done area ps p end room _ a.seen b d (omega arith) body.small
          (stage_done area ps p end room _ _ a b (omega arith) body.is stood staged) opened));
      elsewhere = Goes-two (λ (s : DiskState). area.at + area.len ≤ length s.seen) _ _ _ (rw (← c.self.view_is) at c.requires.within) c.in_default.ensures.ok c.in_default-settle.ensures.ok
          (λ a b d within staged opened. both_elsewhere area end _ _ _ a b d free (omega arith) (omega arith) within staged opened);
      synced = record {
        calls = calls_law _ _ _ 2 2 false c.in_default.ensures.calls c.in_default-settle.ensures.calls;
        pending = c.in_default-settle.ensures.pending;
        up = c.in_default-settle.ensures.up;
      };
    })

pub settle-requires-2-clause-within : goal.settle-requires-2-clause-within
settle-requires-2-clause-within g c = grind (arith, common_steps)
