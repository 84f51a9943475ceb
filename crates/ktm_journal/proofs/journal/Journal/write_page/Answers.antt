use Rattle.ktm_journal.specs.Image.{JournalState}
use Rattle.ktm_journal.proofs.offered.Pages.{headed_told, journal_told, stays_refused, stays_written, torn_told, written_told}
use Rattle.ktm_journal.proofs.journal.Journal.write_page.Goals as goal

pub returns-in-Err-clause-err : goal.returns-in-Err-clause-err
returns-in-Err-clause-err g c = rw (← c.self.view_is) (
    let j : JournalState = record { units = c.self.inside.units; image = c.self.inside.image; selector = c.self.inside.selector; log = c.self.inside.log; events = c.self.inside.events } in
    let old = g.D.Disk.told c.args.disk.now in
    let new = g.D.Disk.told c.write_at.new.self in
    let headed = rw (← c.self.view_is) at c.requires.headed in
    let stays = stays_refused j c.args.page old new _ _ c.requires.whole (rw c.page_at.ensures at c.in-Err.ensures.err) c.in-Err.ensures.frozen in
    torn_told j c.args.page old new headed stays)

pub returns-in-Err-clause-kept : goal.returns-in-Err-clause-kept
returns-in-Err-clause-kept g c = rw (← c.self.view_is) (
    let j : JournalState = record { units = c.self.inside.units; image = c.self.inside.image; selector = c.self.inside.selector; log = c.self.inside.log; events = c.self.inside.events } in
    let old = g.D.Disk.told c.args.disk.now in
    let new = g.D.Disk.told c.write_at.new.self in
    let stays = stays_refused j c.args.page old new _ _ c.requires.whole (rw c.page_at.ensures at c.in-Err.ensures.err) c.in-Err.ensures.frozen in
    journal_told j c.args.page old new stays)

pub returns-in-Err-clause-headed : goal.returns-in-Err-clause-headed
returns-in-Err-clause-headed g c = rw (← c.self.view_is) (
    let j : JournalState = record { units = c.self.inside.units; image = c.self.inside.image; selector = c.self.inside.selector; log = c.self.inside.log; events = c.self.inside.events } in
    let old = g.D.Disk.told c.args.disk.now in
    let new = g.D.Disk.told c.write_at.new.self in
    let headed = rw (← c.self.view_is) at c.requires.headed in
    let stays = stays_refused j c.args.page old new _ _ c.requires.whole (rw c.page_at.ensures at c.in-Err.ensures.err) c.in-Err.ensures.frozen in
    headed_told j c.args.page old new headed stays)

pub returns-clause-ok : goal.returns-clause-ok
returns-clause-ok g c = rw (← c.self.view_is) (
    let j : JournalState = record { units = c.self.inside.units; image = c.self.inside.image; selector = c.self.inside.selector; log = c.self.inside.log; events = c.self.inside.events } in
    let old = g.D.Disk.told c.args.disk.now in
    let new = g.D.Disk.told c.write_at.new.self in
    let headed = rw (← c.self.view_is) at c.requires.headed in
    written_told j c.args.page old new c.args.bytes.now (rw (← c.self.view_is) at c.requires.within) c.requires.whole headed (rw c.page_at.ensures at c.in_default.ensures.ok))

pub returns-clause-kept : goal.returns-clause-kept
returns-clause-kept g c = rw (← c.self.view_is) (
    let j : JournalState = record { units = c.self.inside.units; image = c.self.inside.image; selector = c.self.inside.selector; log = c.self.inside.log; events = c.self.inside.events } in
    let old = g.D.Disk.told c.args.disk.now in
    let new = g.D.Disk.told c.write_at.new.self in
    let headed = rw (← c.self.view_is) at c.requires.headed in
    let written = written_told j c.args.page old new c.args.bytes.now (rw (← c.self.view_is) at c.requires.within) c.requires.whole headed (rw c.page_at.ensures at c.in_default.ensures.ok) in
    let stays = stays_written j c.args.page old new c.args.bytes.now headed written in
    journal_told j c.args.page old new stays)

pub returns-clause-headed : goal.returns-clause-headed
returns-clause-headed g c = rw (← c.self.view_is) (
    let j : JournalState = record { units = c.self.inside.units; image = c.self.inside.image; selector = c.self.inside.selector; log = c.self.inside.log; events = c.self.inside.events } in
    let old = g.D.Disk.told c.args.disk.now in
    let new = g.D.Disk.told c.write_at.new.self in
    let headed = rw (← c.self.view_is) at c.requires.headed in
    let written = written_told j c.args.page old new c.args.bytes.now (rw (← c.self.view_is) at c.requires.within) c.requires.whole headed (rw c.page_at.ensures at c.in_default.ensures.ok) in
    let stays = stays_written j c.args.page old new c.args.bytes.now headed written in
    headed_told j c.args.page old new headed stays)
