use Rattle.std.proofs.Common.{refl}
use Rattle.ktm_pages.proofs.Agreement.{agrees-used, keeps-used, value-kept}
use Rattle.ktm_pages.proofs.cache.Cache.read.Goals as goal

pub returns-then-find-clause-value : goal.returns-then-find-clause-value
returns-then-find-clause-value g c = value-kept c.args.self.now c.find.new.self c.args.page (g.P.PageIo.told c.args.io.now) c.find.new.buf c.requires.agrees (c.if-find.ensures.found refl)

pub returns-then-find-clause-agrees : goal.returns-then-find-clause-agrees
returns-then-find-clause-agrees g c =
    let value = value-kept c.args.self.now c.find.new.self c.args.page (g.P.PageIo.told c.args.io.now) c.find.new.buf c.requires.agrees (c.if-find.ensures.found refl) in
    agrees-used c.args.self.now c.find.new.self c.args.page (g.P.PageIo.told c.args.io.now) c.find.new.buf c.requires.agrees (c.if-find.ensures.used refl) value

pub returns-then-find-clause-keeps : goal.returns-then-find-clause-keeps
returns-then-find-clause-keeps g c = keeps-used c.args.self.now c.find.new.self c.args.page c.find.new.buf (c.if-find.ensures.used refl)

pub returns-clause-agrees : goal.returns-clause-agrees
returns-clause-agrees g c =
    let agrees = rw (← c.if-find.ensures.same refl) at c.requires.agrees in
    rw c.in_default.ensures.same (agrees-used c.find.new.self c.keep.new.self c.args.page (g.P.PageIo.told c.args.io.now) c.read_page.new.buf agrees c.keep.ensures c.in_default.ensures.value)

pub returns-clause-keeps : goal.returns-clause-keeps
returns-clause-keeps g c = keeps-used c.find.new.self c.keep.new.self c.args.page c.read_page.new.buf c.keep.ensures
