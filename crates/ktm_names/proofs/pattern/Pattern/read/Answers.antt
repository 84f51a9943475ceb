use Rattle.std.proofs.Common.{sym, ◌∙◌}
use Rattle.std.proofs.lemmas.List.Elements.{All-map}
use Rattle.std.proofs.lemmas.Result.{err_from_is_err_and}
use Rattle.ktm_base.specs.Names.{IsName}
use Rattle.ktm_names.proofs.PathLemmas.{few_before, no_parts_no_pattern, no_pattern, parts_push, pattern_has_a_part, pattern_is, shown}
use Rattle.ktm_names.proofs.pattern.Pattern.read.Goals as goal
use Rattle.ktm_names.proofs.pattern.Pattern.read.Goals.{then-not-are_names-via-then-not-are_names, then-not-are_names-via-else-not-are_names+then-not-is_last_part}

pub returns-in_err-parts-clause-not : goal.returns-in_err-parts-clause-not
returns-in_err-parts-clause-not c =
    let passed = err_from_is_err_and c.from_residual.result c.from_residual.ensures.1 in
    rw passed.1 (λ fault directory last h. no_parts_no_pattern c.args.text.now directory last (c.in_err-parts.ensures.not (sym passed.2 ∙ fault)) h)

pub returns-in_default-clause-not : goal.returns-in_default-clause-not
returns-in_default-clause-not c same directory last h =
    pattern_has_a_part (λ part. part.now) c.args.text.now c.in_ok-parts.parts.items directory last c.in_ok-parts.ensures.ok (rw c.deref.ensures.value at c.in_default.ensures.cases) h

pub returns-then-not-are_names-clause-not : goal.returns-then-not-are_names-clause-not
returns-then-not-are_names-clause-not c same directory last h =
    let cuts = parts_push (λ part. part.now) c.args.text.now c.in_ok-parts.parts.items c.in-Some.directory.now c.in-Some.last.now c.in_ok-parts.ensures.ok (rw c.deref.ensures.value at c.in-Some.ensures.cases.0) in
    no_pattern c.args.text.now _ _ directory last cuts
    (λ names ending. elim c.then-not-are_names.branch [
      | then-not-are_names-via-then-not-are_names w ↦ cc (w.if-not-are_names.true, c.are_names.ensures.1 (shown IsName (λ part. part.now) c.in-Some.directory.now names))
      | then-not-are_names-via-else-not-are_names+then-not-is_last_part w ↦ cc (w.if-not-is_last_part.true, w.is_last_part.ensures.1 ending)
    ]) h

pub of-requires-clause-few : goal.of-requires-clause-few
of-requires-clause-few c =
    few_before (λ part. part.now) c.args.text.now c.in-Some.directory.now _
    (parts_push (λ part. part.now) c.args.text.now c.in_ok-parts.parts.items c.in-Some.directory.now c.in-Some.last.now c.in_ok-parts.ensures.ok (rw c.deref.ensures.value at c.in-Some.ensures.cases.0))

pub returns-clause-ok : goal.returns-clause-ok
returns-clause-ok c =
    let cuts = parts_push (λ part. part.now) c.args.text.now c.in_ok-parts.parts.items c.in-Some.directory.now c.in-Some.last.now c.in_ok-parts.ensures.ok (rw c.deref.ensures.value at c.in-Some.ensures.cases.0) in
    let copied = c.in_ok-to_vec.ensures.items_if_clones_equal (λ x y same. same) in
    rw (c.in_ok-of.ensures, c.new.ensures, copied)
    (pattern_is c.args.text.now _ _ cuts (All-map IsName (λ part. part.now) c.in-Some.directory.now (c.are_names.ensures.0 c.if-not-are_names.false))
    (c.is_last_part.ensures.0 c.if-not-is_last_part.false))
