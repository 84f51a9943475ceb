use Rattle.std.proofs.Common.{Ok, ap, subst, sym}
use Rattle.ktm_codec.proofs.SpansLemmas.{one_reading}
use Rattle.ktm_event.proofs.OneEvent.{unambiguous_event}
use Rattle.ktm_journal.specs.Image.{page_count}
use Rattle.ktm_paged.specs.Paged.{PagedApplies}
use Rattle.ktm_restart.proofs.reading.Reading.apply_read.Goals as goal
use Rattle.ktm_world.specs.EventGrammar.{IsEventOf}

pub returns-then-not-branch : goal.returns-then-not-branch
returns-then-not-branch c event end spans applies =
    let (same, ends) = one_reading IsEventOf unambiguous_event c.args.bytes.now c.args.at c.in-Ok.read.0 event c.in-Ok.read.1 end c.in-Ok.ensures spans in
    c.in_ok-apply.ensures.bad (ap Ok c.if-not-branch.true) (subst (PagedApplies (page_count c.args.self.now.state.units) c.args.self.now.state) (sym same) applies)
