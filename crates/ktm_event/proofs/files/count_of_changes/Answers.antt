use Rattle.std.proofs.Common.{arith, ap, length}
use Rattle.ktm_event.proofs.FilesShown.{count-left, fewer-left, left-all, left-none}
use Rattle.ktm_event.proofs.files.count_of_changes.Goals as goal

pub loop-next-init : goal.loop-next-init
loop-next-init g c =
    let all = left-all (g.F.WrittenFiles.files c.args.files.now) c.first-next.result (g.met.F.WrittenFiles.rising c.args.files.now) c.first-next.ensures in
    omega (arith, ap length all)

pub overflow_add-count : goal.overflow_add-count
overflow_add-count g c =
    let count = count-left (g.F.WrittenFiles.files c.args.files.now) c.loop-next.next c.behind-next.result c.in-Some.file (g.met.F.WrittenFiles.rising c.args.files.now) c.in-Some.is c.behind-next.ensures in
    omega (arith, count, c.loop-next.invariant, c.count_of_file-count.ensures, c.requires)

pub loop-next-smaller : goal.loop-next-smaller
loop-next-smaller g c = fewer-left (g.F.WrittenFiles.files c.args.files.now) c.loop-next.next c.behind-next.result c.in-Some.file (g.met.F.WrittenFiles.rising c.args.files.now) c.in-Some.is c.behind-next.ensures

pub loop-next-preserved : goal.loop-next-preserved
loop-next-preserved g c =
    let count = count-left (g.F.WrittenFiles.files c.args.files.now) c.loop-next.next c.behind-next.result c.in-Some.file (g.met.F.WrittenFiles.rising c.args.files.now) c.in-Some.is c.behind-next.ensures in
    omega (arith, count, c.loop-next.invariant, c.count_of_file-count.ensures)

pub returns : goal.returns
returns g c = omega (arith, c.loop-next.invariant, ap length (left-none (g.F.WrittenFiles.files c.args.files.now) c.loop-next.next c.in_default.is))
