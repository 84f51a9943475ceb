use Rattle.ktm_route.proofs.file_routes.to_transacted.Goals as goal

pub returns-in-Ok-clause-ok : goal.returns-in-Ok-clause-ok
returns-in-Ok-clause-ok c = let (named, passed) = c.in-Ok.ensures.ok in (c.in-Ok.t, named, passed, c.of_files.ensures)
