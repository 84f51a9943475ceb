use Rattle.std.proofs.Common.{All, List, ap, arith, subst, sum_by, sym}
use Rattle.std.proofs.lemmas.Result.{err_from_is_err_and}
use Rattle.ktm_base.specs.Grammar.{IsRow}
use Rattle.ktm_codec.specs.Spans.{Adds}
use Rattle.ktm_world.specs.declared.change.Change.{Change}
use Rattle.ktm_world.specs.EventGrammar.{IsChangeOf}
use Rattle.ktm_world.specs.Sizes.{change_size}
use Rattle.ktm_event.specs.Spelling.{IsSpellableChange}
use Rattle.ktm_event.specs.Work.{changes_of_file, final_file}
use Rattle.ktm_event.proofs.Rows.{adds_none, adds_row, all-left, all-right}
use Rattle.ktm_event.proofs.FilesShown.{changes_left, changes-left, fewer-left, left-all, left-none, size-left}
use Rattle.ktm_event.proofs.files.put_files.Goals as goal

pub loop-next-init : goal.loop-next-init
loop-next-init g c =
    let all = left-all (g.F.WrittenFiles.files c.args.files.now) c.first-next.result (g.met.F.WrittenFiles.rising c.args.files.now) c.first-next.ensures in
    record {
      spelled = subst (All IsSpellableChange) (sym all) c.requires;
      adds = λ end. subst (λ (cs : List Change). Adds (IsRow IsChangeOf cs) c.args.out.now.items end) all;
      len = omega (arith, ap (sum_by change_size) all);
      room = omega arith;
    }

pub put_file-requires : goal.put_file-requires
put_file-requires g c =
    let split = changes-left (g.F.WrittenFiles.files c.args.files.now) c.loop-next.next c.behind-next.result c.in-Some.file (g.met.F.WrittenFiles.rising c.args.files.now) c.in-Some.is c.behind-next.ensures in
    all-left IsSpellableChange (changes_of_file (final_file c.in-Some.file)) _ (subst (All IsSpellableChange) split c.loop-next.invariant.spelled)

pub returns-in_err-put_file-clause-full : goal.returns-in_err-put_file-clause-full
returns-in_err-put_file-clause-full g c =
    let p = err_from_is_err_and c.from_residual.result c.from_residual.ensures.1 in
    let size = size-left (g.F.WrittenFiles.files c.args.files.now) c.loop-next.next c.behind-next.result c.in-Some.file (g.met.F.WrittenFiles.rising c.args.files.now) c.in-Some.is c.behind-next.ensures in
    rw p.1 (omega (arith, c.in_err-put_file.ensures.full, c.loop-next.invariant.len, c.loop-next.invariant.room, size))

pub loop-next-smaller : goal.loop-next-smaller
loop-next-smaller g c = fewer-left (g.F.WrittenFiles.files c.args.files.now) c.loop-next.next c.behind-next.result c.in-Some.file (g.met.F.WrittenFiles.rising c.args.files.now) c.in-Some.is c.behind-next.ensures

pub loop-next-preserved : goal.loop-next-preserved
loop-next-preserved g c =
    let files = g.F.WrittenFiles.files c.args.files.now in
    let rising = g.met.F.WrittenFiles.rising c.args.files.now in
    let changes = changes_of_file (final_file c.in-Some.file) in
    let behind = changes_left files c.behind-next.result in
    let split = changes-left files c.loop-next.next c.behind-next.result c.in-Some.file rising c.in-Some.is c.behind-next.ensures in
    let size = size-left files c.loop-next.next c.behind-next.result c.in-Some.file rising c.in-Some.is c.behind-next.ensures in
    record {
      spelled = all-right IsSpellableChange changes behind (subst (All IsSpellableChange) split c.loop-next.invariant.spelled);
      adds = λ end left. c.loop-next.invariant.adds end (subst (λ (cs : List Change). Adds (IsRow IsChangeOf cs) c.loop-next.out.items end) (sym split) (adds_row IsChangeOf changes behind c.in_ok-put_file.ensures.adds left));
      len = omega (arith, size, c.in_ok-put_file.ensures.len, c.loop-next.invariant.len);
      room = omega (arith, c.put_file.ensures.room, c.loop-next.invariant.room);
    }

pub returns-clause-adds : goal.returns-clause-adds
returns-clause-adds g c =
    c.loop-next.invariant.adds _ (subst (λ (cs : List Change). Adds (IsRow IsChangeOf cs) c.loop-next.out.items c.loop-next.out.items) (sym (left-none (g.F.WrittenFiles.files c.args.files.now) c.loop-next.next c.in_default.is)) (adds_none IsChangeOf))

pub returns-clause-len : goal.returns-clause-len
returns-clause-len g c = omega (arith, c.loop-next.invariant.len, ap (sum_by change_size) (left-none (g.F.WrittenFiles.files c.args.files.now) c.loop-next.next c.in_default.is))
