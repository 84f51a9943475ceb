use Rattle.ktm_restart.proofs.offered.Journals.{begins, grows, left, seen_stands}
use Rattle.ktm_journal.specs.Image.{page_count}
use Rattle.ktm_restart.proofs.PagedLogs.{plain-applies}
use Rattle.ktm_restart.proofs.laws.law_of_journals.Goals as goal

pub returns : goal.returns
returns c = record { grows = grows; plain = λ state group none on_pages. plain-applies (page_count state.units) state group none on_pages.apart; begins = begins; left = left; seen = seen_stands }
