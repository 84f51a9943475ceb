use Rattle.ktm_pages.proofs.Agreement.{agrees-lost, agrees-written, keeps-used}
use Rattle.ktm_pages.proofs.cache.Cache.write.Goals as goal

pub returns-in-Err-clause-agrees : goal.returns-in-Err-clause-agrees
returns-in-Err-clause-agrees g c = agrees-lost c.args.self.now c.forget.new.self c.args.page (g.P.PageIo.told c.args.io.now) (g.P.PageIo.told c.write_page.new.self) c.requires.agrees c.forget.ensures c.in-Err.ensures.err

pub returns-clause-agrees : goal.returns-clause-agrees
returns-clause-agrees g c = agrees-written c.args.self.now c.keep.new.self c.args.page (g.P.PageIo.told c.args.io.now) (g.P.PageIo.told c.write_page.new.self) c.args.bytes.now (g.P.PageIo.count c.args.io.now) c.told-bytes c.requires.below (g.met.P.PageIo.lengths c.args.io.now) c.requires.agrees c.keep.ensures c.in_default.ensures.ok

pub returns-clause-keeps : goal.returns-clause-keeps
returns-clause-keeps g c = keeps-used c.args.self.now c.keep.new.self c.args.page c.args.bytes.now c.keep.ensures
