use Rattle.std.proofs.Common.{◌≡◌, ℕ, ◌+◌, ◌<◌, ◌≤◌, max, length, sym, ◌∙◌, ap, subst}
use Rattle.ktm_base.specs.declared.limits.TheConstants.{MOST_AT_ONCE}
use Rattle.ktm_world.specs.Files.{FilesNow, OpenFile}
use Rattle.ktm_world.specs.FileCalls.{set_end_tests}
use Rattle.ktm_world.specs.Outcome.{first_refusal}
use Rattle.txf_opens.specs.Acts.{open_of}
use Rattle.txf_calls.proofs.Sized.{end-within, seen, small-end, too-many, units-tests, write-tests}
use Rattle.txf_calls.proofs.handle.write_refusal.Given.{Over}
use Rattle.txf_calls.proofs.handle.write_refusal.Goals as goal

pub returns-then-len-clause-refusal : goal.returns-then-len-clause-refusal
returns-then-len-clause-refusal g c = λ who bytes long. too-many (g.V.Volume.files c.args.volume.now) c.args.room.now (open_of c.args.file) c.args.offset bytes (subst (λ n. MOST_AT_ONCE < n) (sym long) c.if-len.true)

-- it is refused for what an end of the file behind the bytes is refused for
module _ (g : Over) (c : goal.After-set_end_refusal g) where
  abbrev files : FilesNow
  files = g.V.Volume.files c.args.volume.now

  abbrev o : OpenFile
  o = open_of c.args.file

  abbrev end : ℕ
  end = c.args.offset + c.args.len

  as-end : c.set_end_refusal.result ≡ first_refusal (set_end_tests files c.args.room.now o (max (seen files c.args.room.now o) end))
  as-end =
      c.set_end_refusal.ensures.refusal c.args.file.transaction
      ∙ ap (λ n. first_refusal (set_end_tests files c.args.room.now o n)) (c.max.ensures ∙ (λ i. max ((c.len-size.ensures ∙ ap length c.bytes.ensures) i) (c.end_of-end.ensures.end i)))
      ∙ end-within files c.args.room.now o (seen files c.args.room.now o) end c.requires.file c.end_of-end.ensures.few

pub returns-clause-refusal : goal.returns-clause-refusal
returns-clause-refusal g c = λ who bytes long.
    as-end g c
    ∙ ap (λ n. first_refusal (set_end_tests (files g c) c.args.room.now (o g c) (max (seen (files g c) c.args.room.now (o g c)) (c.args.offset + n)))) (sym long)
    ∙ write-tests (files g c) c.args.room.now (o g c) c.args.offset bytes c.requires.orderly.rise (subst (λ n. 1 ≤ n) (sym long) c.requires.some) (subst (λ n. n ≤ MOST_AT_ONCE) (sym long) c.if-len.false)

pub returns-clause-units : goal.returns-clause-units
returns-clause-units g c = λ none who start contents some is.
    sym none ∙ as-end g c ∙ units-tests (files g c) c.args.room.now (o g c) start contents (max (seen (files g c) c.args.room.now (o g c)) (end g c)) c.requires.orderly.rise some is

pub returns-clause-small : goal.returns-clause-small
returns-clause-small g c = small-end (files g c) c.args.room.now (o g c) (max (seen (files g c) c.args.room.now (o g c)) (end g c)) c.set_end_refusal.result c.requires.file (as-end g c)
