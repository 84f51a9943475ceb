use Rattle.ktm_run.proofs.Dumping.{dumped, dumped_part, undumped}
use Rattle.ktm_run.proofs.dump.dump_state.Goals as goal

pub returns-in-Err-clause-leaves : goal.returns-in-Err-clause-leaves
returns-in-Err-clause-leaves g c = λ left. undumped left _ _ _ _ _ _ c.in-Err.why c.requires c.in-Err.ensures.leaves c.not_loaded.ensures.says

pub returns-in-Err-write_state-clause-leaves : goal.returns-in-Err-write_state-clause-leaves
returns-in-Err-write_state-clause-leaves g c = λ left.
    let leaves = c.in-Ok.ensures.leaves in
    dumped_part left _ _ _ _ _ _ c.law_of_journals.ensures.seen c.law_of_texts.ensures _ c.in-Ok.loaded.state leaves.read.reads.reads leaves.stands c.in-Err-write_state.ensures.err

pub returns-clause-leaves : goal.returns-clause-leaves
returns-clause-leaves g c = λ left.
    let leaves = c.in-Ok.ensures.leaves in
    dumped left _ _ _ _ _ _ c.law_of_journals.ensures.seen c.law_of_texts.ensures _ c.in-Ok.loaded.state leaves.read.reads.reads leaves.stands c.in_default.ensures.ok
