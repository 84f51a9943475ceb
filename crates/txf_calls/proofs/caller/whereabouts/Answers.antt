use Rattle.std.proofs.Common.{subst, sym}
use Rattle.ktm_world.specs.Files.{tree_seen}
use Rattle.txf_calls.specs.Leads.{Leads}
use Rattle.txf_calls.proofs.Leading.{found-there}
use Rattle.txf_calls.proofs.Texts.{find-path-is}
use Rattle.txf_calls.proofs.caller.whereabouts.Goals as goal

pub returns-clause-leads : goal.returns-clause-leads
returns-clause-leads g c = λ text is.
    subst (Leads c.find.result) (sym (find-path-is (tree_seen (g.V.Volume.files c.args.volume.now) c.args.who) text c.args.path.now is)) c.find.ensures

pub returns-clause-found : goal.returns-clause-found
returns-clause-found g c = λ text is. found-there c.law_of_paths.ensures (tree_seen (g.V.Volume.files c.args.volume.now) c.args.who) text c.args.path.now is c.find.result c.find.ensures
