use Rattle.std.proofs.Common.{◌≡◌, refl, ◌∙◌, ap}
use Rattle.ktm_log.specs.declared.area.Area.{Area}
use Rattle.ktm_journal.specs.Compact.{next_selector}
use Rattle.ktm_journal.specs.Image.{JournalState, half_of, log_area}
use Rattle.ktm_journal.proofs.Compacting.{compacts, cut_off_laying, cut_off_turning, headed_laid, selector_within}
use Rattle.ktm_journal.proofs.journal.Journal.compact.Goals as goal

pub settle-requires-clause-within : goal.settle-requires-clause-within
settle-requires-clause-within g c =
    let j : JournalState = record { units = c.self.inside.units; image = c.self.inside.image; selector = c.self.inside.selector; log = c.self.inside.log; events = c.self.inside.events } in
    let told = g.D.Disk.told c.lay_half.new.disk in
    selector_within j c.args.snapshot.now (g.D.Disk.told c.args.disk.now) told told
    (headed_laid j c.args.snapshot.now (g.D.Disk.told c.args.disk.now) told told (rw (← c.self.view_is) at c.requires.headed) (rw c.half_of-half.ensures at c.in_default.ensures.ok))

pub returns-in-Err : goal.returns-in-Err
returns-in-Err g c = rw (← c.self.view_is) (
    let j : JournalState = record { units = c.self.inside.units; image = c.self.inside.image; selector = c.self.inside.selector; log = c.self.inside.log; events = c.self.inside.events } in
    let told = g.D.Disk.told c.lay_half.new.disk in
    let status = g.D.Disk.status c.lay_half.new.disk in
    cut_off_laying j c.args.snapshot.now (g.D.Disk.told c.args.disk.now) told told (g.D.Disk.status c.args.disk.now) status status c.in-Err.ensures.calls (rw c.half_of-half.ensures at c.in-Err.ensures.err))

pub returns-in-Err-settle : goal.returns-in-Err-settle
returns-in-Err-settle g c = rw (← c.self.view_is) (
    let j : JournalState = record { units = c.self.inside.units; image = c.self.inside.image; selector = c.self.inside.selector; log = c.self.inside.log; events = c.self.inside.events } in
    cut_off_turning j c.args.snapshot.now _ _ _ _ _ _ c.in_default.ensures.calls (rw c.half_of-half.ensures at c.in_default.ensures.ok) c.in-Err-settle.ensures.calls c.in-Err-settle.ensures.err)

pub returns : goal.returns
returns g c = rw (← c.self.view_is) (
    let j : JournalState = record { units = c.self.inside.units; image = c.self.inside.image; selector = c.self.inside.selector; log = c.self.inside.log; events = c.self.inside.events } in
    let begun : c.empty-log.result ≡ record { area = log_area j.units (half_of (next_selector j.selector)); end = 0 } =
    c.empty-log.ensures ∙ ap (λ (a : Area). record { area = a; end = 0 }) (c.log_area.ensures ∙ ap (λ h. log_area c.self.inside.units h) c.half_of-half.ensures) in
    compacts j c.args.snapshot.now _ _ _ _ _ _ c.in_default.ensures.calls (rw c.half_of-half.ensures at c.in_default.ensures.ok) (next_selector j.selector) c.empty-log.result refl begun
    (rw (← c.self.view_is) at c.requires.headed) c.in_default-settle.ensures.calls c.in_default-settle.ensures.pending c.in_default-settle.ensures.up c.in_default-settle.ensures.ok)
