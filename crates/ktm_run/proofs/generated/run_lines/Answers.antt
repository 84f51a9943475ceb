use Rattle.std.proofs.Common.{◌≡◌, ℕ, ◌+◌, ◌-◌, ◌∙◌, ap, arith}
use Rattle.ktm_gen.specs.Script.{line_at}
use Rattle.ktm_run.proofs.Lasting.{lasts_fewer, lasts_line, lasts_one}
use Rattle.ktm_run.proofs.Generating.{Tallied-none, Tallied-more, Tallied-as, halted_here, halted_at}
use Rattle.ktm_run.proofs.generated.run_lines.Goals as goal

pub lines-init : goal.lines-init
lines-init g c = record {
  went = λ w at. Tallied-none w _ c.args.number _ c.new-tally.ensures.ok c.new-tally.ensures.refused c.new-tally.ensures.restarts at;
  lasts = lasts_fewer c.args.kernel.now c.args.lines _ (omega arith) c.requires.counts;
  ready = c.requires.ready;
  number = c.new-generator.ensures.number;
  given = c.new-generator.ensures.lines;
  counted = c.new-tally.ensures.lines;
}

pub returns-in-Err : goal.returns-in-Err
returns-in-Err g c = λ w at. halted_here w _ _ c.args.number c.lines.done c.law_of_what_is_left.ensures c.args.lines c.lines.tally c.lines-test.true (g.met.D.Disk.lengths c.lines.disk) (c.lines.invariant.went w at)

pub returns-in_default-execute : goal.returns-in_default-execute
returns-in_default-execute g c = λ w at.
    let held = c.lines.invariant in
    let is : c.deref.result.now ≡ line_at c.args.number c.lines.done
    = c.deref.ensures.value ∙ c.in_default.ensures.line ∙ ap (λ (n : ℕ). line_at n c.lines.generator.lines) held.number ∙ ap (λ (n : ℕ). line_at c.args.number n) held.given in
    halted_at w _ _ c.args.number c.lines.done _ c.args.lines c.lines.tally _ is c.lines-test.true (g.met.D.Disk.lengths c.lines.disk) (held.went w at) c.in_default-execute.ensures.no_memory

pub lines-preserved : goal.lines-preserved
lines-preserved g c =
    let held = c.lines.invariant in
    let is : c.deref.result.now ≡ line_at c.args.number c.lines.done
    = c.deref.ensures.value ∙ c.in_default.ensures.line ∙ ap (λ (n : ℕ). line_at n c.lines.generator.lines) held.number ∙ ap (λ (n : ℕ). line_at c.args.number n) held.given in
    let (meant, means, answers) = c.in-Ok.ensures.does in record {
      went = λ w at.
          Tallied-more w _ _ c.args.number c.lines.done _ c.lines.tally c.count.new.self _ meant c.in-Ok.reply is (held.went w at) means answers
          c.count.ensures.ok c.count.ensures.refused c.count.ensures.restarts;
      lasts = lasts_line c.lines.kernel c.execute.new.kernel (c.args.lines - c.lines.done) _ (omega (arith, c.lines-test.true)) c.in-Ok.ensures.lasts held.lasts;
      ready = c.in-Ok.ensures.ready;
      number = c.next_line.ensures.number ∙ held.number;
      given = c.next_line.ensures.lines ∙ ap (λ (n : ℕ). n + 1) held.given;
      counted = c.count.ensures.lines ∙ ap (λ (n : ℕ). n + 1) held.counted;
    }

pub returns : goal.returns
returns g c =
    let held = c.lines.invariant in
    let all : c.lines.done ≡ c.args.lines = omega arith in record {
      went = λ w at. Tallied-as w _ _ c.args.number c.lines.done c.args.lines c.lines.tally all (held.went w at);
      ready = held.ready;
      all = held.counted ∙ all;
    }

pub execute-requires-clause-counts : goal.execute-requires-clause-counts
execute-requires-clause-counts g c = lasts_one c.lines.kernel (c.args.lines - c.lines.done) (omega (arith, c.lines-test.true)) c.lines.invariant.lasts
