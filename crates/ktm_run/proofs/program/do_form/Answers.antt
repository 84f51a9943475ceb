use Rattle.std.proofs.Common.{subst}
use Rattle.ktm_run.specs.declared.status.Status.{Status}
use Rattle.ktm_run.specs.Generated.{ReadsNone}
use Rattle.ktm_run.proofs.Forms.{dump_no_source, form_is, format_no_sink, format_no_source}
use Rattle.ktm_run.proofs.program.do_form.Goals as goal

pub returns-in-Run-clause-leaves : goal.returns-in-Run-clause-leaves
returns-in-Run-clause-leaves g c = form_is _ _ _ _ _ c.in-Run.is c.run_image.ensures.leaves

pub returns-in-Run-clause-unread : goal.returns-in-Run-clause-unread
returns-in-Run-clause-unread g c = λ other. absurd (other c.in-Run.is)

pub returns-in-Format-clause-leaves : goal.returns-in-Format-clause-leaves
returns-in-Format-clause-leaves g c = form_is _ _ _ _ _ c.in-Format.is (c.format_image.ensures (g.S.Source.left c.args.source.now) (g.K.Sink.taken c.args.sink.now))

pub returns-in-Format-clause-source : goal.returns-in-Format-clause-source
returns-in-Format-clause-source g c = λ same. absurd (format_no_source _ _ _ _ (c.format_image.ensures (g.S.Source.left c.args.source.now) (g.K.Sink.taken c.args.sink.now)) same)

pub returns-in-Format-clause-sink : goal.returns-in-Format-clause-sink
returns-in-Format-clause-sink g c = λ same. absurd (format_no_sink _ _ _ _ (c.format_image.ensures (g.S.Source.left c.args.source.now) (g.K.Sink.taken c.args.sink.now)) same)

pub returns-in-Dump-clause-leaves : goal.returns-in-Dump-clause-leaves
returns-in-Dump-clause-leaves g c = form_is _ _ _ _ _ c.in-Dump.is (c.dump_image.ensures.leaves (g.S.Source.left c.args.source.now))

pub returns-in-Dump-clause-source : goal.returns-in-Dump-clause-source
returns-in-Dump-clause-source g c = λ same. absurd (dump_no_source _ _ _ (c.dump_image.ensures.leaves (g.S.Source.left c.args.source.now)) same)

pub returns-in-Gen-clause-leaves : goal.returns-in-Gen-clause-leaves
returns-in-Gen-clause-leaves g c = form_is _ _ _ _ _ c.in-Gen.is (c.run_generated.ensures.leaves (g.S.Source.left c.args.source.now))

pub returns-in-Gen-clause-source : goal.returns-in-Gen-clause-source
returns-in-Gen-clause-source g c = λ same. absurd (subst (λ (r : Status). ReadsNone r) same (c.run_generated.ensures.leaves (g.S.Source.left c.args.source.now)).reads_none)
