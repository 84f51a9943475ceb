use Rattle.std.proofs.Common.{◌+◌, ◌∙◌, ◌&&◌, drop, get_or, refl, sym, ap, subst, arith}
use Rattle.std.specs.List.{list_all}
use Rattle.std.proofs.lemmas.List.{at_drop_more}
use Rattle.ktm_world.specs.Durable.{gives_bytes}
use Rattle.txf_durable.specs.Numbers.{AreNumbersRising}
use Rattle.txf_durable.specs.Recorded.{AreBytesFrom, begins_with, from_file}
use Rattle.txf_durable.proofs.Recordings.{bytes-behind, from-final, from-lower, have-first}
use Rattle.txf_durable.proofs.recorded.have_bytes.Goals as goal

pub loop-file-init : goal.loop-file-init
loop-file-init c = record { files = c.requires.files; bytes = from-final c.args.bytes.now c.requires.bytes; rest = refl }

pub returns-then-not-begins_with : goal.returns-then-not-begins_with
returns-then-not-begins_with c =
    let i = c.loop-file.file-index in
    let file = get_or c.args.files.now i 0 in
    let later = drop (i + 1) c.args.files.now in
    let rest = c.loop-file.rest.now in
    let step = at_drop_more (λ files. files) c.args.files.now i 0 c.loop-file-test.true in
    let rising = subst AreNumbersRising step c.loop-file.invariant.files in
    let have = have-first rest 0 file later c.loop-file.invariant.bytes rising.0 in
    let begins = c.if-not-begins_with.ensures ∙ ap (λ cs. begins_with cs file) c.from_file-rest.ensures in
    ap (λ b. b && list_all (gives_bytes (from_file rest file)) later) begins ∙ sym have ∙ ap (list_all (gives_bytes rest)) (sym step) ∙ c.loop-file.invariant.rest

pub loop-file-preserved : goal.loop-file-preserved
loop-file-preserved c =
    let i = c.loop-file.file-index in
    let file = get_or c.args.files.now i 0 in
    let later = drop (i + 1) c.args.files.now in
    let rest = c.loop-file.rest.now in
    let step = at_drop_more (λ files. files) c.args.files.now i 0 c.loop-file-test.true in
    let rising = subst AreNumbersRising step c.loop-file.invariant.files in
    let have = have-first rest 0 file later c.loop-file.invariant.bytes rising.0 in
    let begins = c.if-not-begins_with.ensures ∙ ap (λ cs. begins_with cs file) c.from_file-rest.ensures in
    record {
      files = rising.1;
      bytes = from-lower c.from_file-rest.result.now 0 file (omega arith) (subst (AreBytesFrom file) (sym c.from_file-rest.ensures) (bytes-behind rest 0 file c.loop-file.invariant.bytes));
      rest =
          ap (λ cs. list_all (gives_bytes cs) later) c.from_file-rest.ensures ∙ ap (λ b. b && list_all (gives_bytes (from_file rest file)) later) begins ∙ sym have
          ∙ ap (list_all (gives_bytes rest)) (sym step) ∙ c.loop-file.invariant.rest;
    }
