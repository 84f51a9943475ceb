use Rattle.std.proofs.Common.{sym, ◌∙◌}
use Rattle.std.proofs.lemmas.List.{length-map}
use Rattle.std.proofs.lemmas.List.Elements.{All-map}
use Rattle.std.proofs.lemmas.Result.{err_from_is_err_and}
use Rattle.ktm_base.specs.Names.{IsName}
use Rattle.ktm_names.proofs.PartLemmas.{parts_is}
use Rattle.ktm_names.proofs.PathLemmas.{no_parts_no_path, no_path, no_root, path_is, shown}
use Rattle.ktm_names.proofs.path.Path.read.Goals as goal

pub returns-in_err-parts-clause-not : goal.returns-in_err-parts-clause-not
returns-in_err-parts-clause-not c =
    let passed = err_from_is_err_and c.from_residual.result c.from_residual.ensures.1 in
    rw passed.1 (λ fault names h. no_parts_no_path c.args.text.now names (no_root c.args.text.now (cc)) (c.in_err-parts.ensures.not (sym passed.2 ∙ fault)) h)

pub returns-then-not-are_names-clause-not : goal.returns-then-not-are_names-clause-not
returns-then-not-are_names-clause-not c same names h =
    no_path c.args.text.now _ names (no_root c.args.text.now (cc)) c.in_ok-parts.ensures.ok
    (λ each. cc (c.if-not-are_names.true, c.are_names.ensures.1 (rw c.deref.ensures.value (shown IsName (λ part. part.now) c.in_ok-parts.parts.items each)))) h

pub of-requires-clause-few : goal.of-requires-clause-few
of-requires-clause-few c =
    let read = parts_is c.args.text.now _ c.in_ok-parts.ensures.ok in
    rw c.deref-2.ensures.value (rw length-map at read.0)

pub returns-clause-ok : goal.returns-clause-ok
returns-clause-ok c =
    rw (c.in_ok-of.ensures, c.deref-2.ensures.value)
    (path_is c.args.text.now _ c.in_ok-parts.ensures.ok (All-map IsName (λ part. part.now) c.in_ok-parts.parts.items (rw c.deref.ensures.value at (c.are_names.ensures.0 c.if-not-are_names.false))))
