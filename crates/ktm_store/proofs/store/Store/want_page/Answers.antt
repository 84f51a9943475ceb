use Rattle.std.proofs.Common.{◌<◌, length, refl}
use Rattle.ktm_store.specs.Store.{PoolState}
use Rattle.ktm_store.proofs.Wanted.{IsWanted, wants-page}
use Rattle.ktm_store.proofs.store.Store.want_page.Goals as goal

pub returns-clause-wants : goal.returns-clause-wants
returns-clause-wants c =
    let old : PoolState = record { seen = c.self.inside.frames.kept; marks = c.self.inside.marks; stored = c.self.inside.stored.stored; wanted = c.self.inside.stored.wanted } in
    let new : PoolState = record old { stored = c.want.new.self.stored; wanted = c.want.new.self.wanted } in
    let held : c.args.page < length c.self.inside.marks.held = rw (← c.self.view_is) at c.requires in
    let low : c.args.page < length c.self.inside.stored.stored = rw (← c.self.invariant.1) at held in
    let is : IsWanted old c.args.page new = wants-page old new c.args.page low refl refl c.want.ensures in
    rw (← c.self.view_is) is.wants
