use Rattle.std.proofs.Common.{rules}
use Rattle.std.proofs.lemmas.Fn.{always_returns_same}
use Rattle.ktm_manager.specs.Rising.{id_order}
use Rattle.ktm_enlist.proofs.Grouping.{searched}
use Rattle.ktm_enlist.proofs.groups.search.Goals as goal

pub returns : goal.returns
returns c =
    searched c.args.groups.now c.args.transaction c.binary_search_by.result c.requires c.binary_search_by.ensures.bound
    (c.binary_search_by.ensures.position (λ g. id_order g.transaction c.args.transaction) (always_returns_same _ _ _ (λ a r f' called. search rules)))
