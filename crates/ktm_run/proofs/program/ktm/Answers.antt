use Rattle.std.proofs.Common.{Some, inl, inr, refl, sym, ◌∙◌, ap}
use Rattle.ktm_run.proofs.Probed.{none_written, none_taken, probed_ends, probed_early}
use Rattle.ktm_run.proofs.Dumping.{dump_before, dump_complete, format_before, format_complete}
use Rattle.ktm_run.proofs.Forms.{gen_leaves, generated_before, generated_complete, dump_leaves, form_too_long, form_usage, format_leaves, run_leaves}
use Rattle.ktm_run.proofs.Theorems.{run_complete}
use Rattle.ktm_run.proofs.Known.{Rose-later}
use Rattle.ktm_run.proofs.program.ktm.Goals as goal

pub returns-in-Err-clause-first : goal.returns-in-Err-clause-first
returns-in-Err-clause-first g c = λ refuses. (refl, record { alone = record { source = refl; disk = refl; status = refl }; not_written = c.in-Err.ensures.writes })

pub returns-in-Err-clause-run : goal.returns-in-Err-clause-run
returns-in-Err-clause-run g c = λ is base tells. inl (record { alone = record { source = refl; disk = refl; status = refl }; not_written = c.in-Err.ensures.writes })

pub returns-in-Err-clause-no_form : goal.returns-in-Err-clause-no_form
returns-in-Err-clause-no_form g c = λ is. (record { source = refl; disk = refl; status = refl }, none_taken _ _ _ c.in-Err.ensures.writes)

pub returns-in-Err-clause-ends : goal.returns-in-Err-clause-ends
returns-in-Err-clause-ends g c = λ is. inl (record { alone = record { source = refl; disk = refl; status = refl }; not_written = c.in-Err.ensures.writes })

pub returns-in-Err-clause-format : goal.returns-in-Err-clause-format
returns-in-Err-clause-format g c = λ units is. inl (refl, record { alone = record { source = refl; disk = refl; status = refl }; not_written = c.in-Err.ensures.writes })

pub returns-in-Err-clause-dump : goal.returns-in-Err-clause-dump
returns-in-Err-clause-dump g c = λ is. inl (refl, record { alone = record { source = refl; disk = refl; status = refl }; not_written = c.in-Err.ensures.writes })

pub returns-clause-run : goal.returns-clause-run
returns-clause-run g c = λ is base tells.
    probed_early _ _ _ _ _ (none_written _ _ _ c.in_default.ensures.writes) base c.do_form.result _
    ((run_leaves _ _ _ c.in-Some.form _ c.in-Some.ensures.form is c.do_form.ensures.leaves).run base tells)

pub returns-clause-ends : goal.returns-clause-ends
returns-clause-ends g c = λ is.
    probed_ends _ _ _ _ _ (none_written _ _ _ c.in_default.ensures.writes) c.do_form.result _ _ (run_leaves _ _ _ c.in-Some.form _ c.in-Some.ensures.form is c.do_form.ensures.leaves).ends

pub returns-clause-format : goal.returns-clause-format
returns-clause-format g c = λ units is.
    inr (format_before _ _ _ refl (none_written _ _ _ c.in_default.ensures.writes) refl refl (λ s down. down) units c.do_form.result
    (format_leaves _ _ _ c.in-Some.form _ units c.in-Some.ensures.form is c.do_form.ensures.leaves))

pub returns-clause-dump : goal.returns-clause-dump
returns-clause-dump g c = λ is.
    inr (dump_before _ _ _ refl (none_written _ _ _ c.in_default.ensures.writes) refl refl (λ s down. down) c.do_form.result
    (dump_leaves _ _ _ c.in-Some.form _ c.in-Some.ensures.form is c.do_form.ensures.leaves))

pub returns-clause-unread : goal.returns-clause-unread
returns-clause-unread g c = λ other. c.do_form.ensures.unread (λ run. other (sym c.in-Some.ensures.form ∙ ap Some run))

pub returns-clause-usage : goal.returns-clause-usage
returns-clause-usage g c = λ usage. absurd (form_usage _ _ _ c.in-Some.form c.do_form.ensures.leaves usage)

pub returns-clause-too_long : goal.returns-clause-too_long
returns-clause-too_long g c = λ long. form_too_long _ _ _ c.in-Some.form c.do_form.ensures.leaves long

pub returns-clause-complete : goal.returns-clause-complete
returns-clause-complete g c = λ is base tells reads writes short.
    let made = c.do_form.ensures in
    let leaves = run_leaves _ _ _ c.in-Some.form _ c.in-Some.ensures.form is made.leaves in
    run_complete base _ _ _ _ _ _ _ _ c.do_form.result
    (leaves.run base tells) (probed_ends _ _ _ _ _ (none_written _ _ _ c.in_default.ensures.writes) c.do_form.result _ _ leaves.ends) made.source
    (λ fault. Rose-later _ _ _ c.write.ensures.faults.later (made.sink fault)) leaves.too_long reads writes short

pub returns-clause-formats : goal.returns-clause-formats
returns-clause-formats g c = λ units is works.
    format_complete units c.do_form.result _ _ (format_before _ _ _ refl (none_written _ _ _ c.in_default.ensures.writes) refl refl (λ s down. down) units c.do_form.result
    (format_leaves _ _ _ c.in-Some.form _ units c.in-Some.ensures.form is c.do_form.ensures.leaves))

pub returns-clause-dumps : goal.returns-clause-dumps
returns-clause-dumps g c = λ is holds works.
    dump_complete c.law_of_bad_images.ensures c.do_form.result _ _ _ _ (dump_before _ _ _ refl (none_written _ _ _ c.in_default.ensures.writes) refl refl (λ s down. down) c.do_form.result
    (dump_leaves _ _ _ c.in-Some.form _ c.in-Some.ensures.form is c.do_form.ensures.leaves))
    (λ fault. Rose-later _ _ _ c.write.ensures.faults.later (c.do_form.ensures.sink fault)) works holds

pub returns-in-Err-clause-generated : goal.returns-in-Err-clause-generated
returns-in-Err-clause-generated g c = λ number lines is. inl (refl, record { alone = record { source = refl; disk = refl; status = refl }; not_written = c.in-Err.ensures.writes })

pub returns-clause-generated : goal.returns-clause-generated
returns-clause-generated g c = λ number lines is.
    inr (generated_before _ _ _ _ _ (none_written _ _ _ c.in_default.ensures.writes) number lines _ c.do_form.result
    (gen_leaves _ _ _ c.in-Some.form _ number lines c.in-Some.ensures.form is c.do_form.ensures.leaves))

pub returns-clause-generates : goal.returns-clause-generates
returns-clause-generates g c = λ number lines is base tells works.
    generated_complete number lines _ _ base c.do_form.result
    (generated_before _ _ _ _ _ (none_written _ _ _ c.in_default.ensures.writes) number lines _ c.do_form.result
    (gen_leaves _ _ _ c.in-Some.form _ number lines c.in-Some.ensures.form is c.do_form.ensures.leaves)) tells
    (λ fault. works (Rose-later _ _ _ c.write.ensures.faults.later (c.do_form.ensures.sink fault)))
