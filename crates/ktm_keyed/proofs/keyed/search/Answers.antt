use Rattle.std.proofs.Common.{rules}
use Rattle.std.proofs.lemmas.Fn.{always_returns_same}
use Rattle.ktm_keyed.specs.Keyed.{key_order}
use Rattle.ktm_keyed.proofs.keyed.search.Goals as goal

pub returns-clause-position : goal.returns-clause-position
returns-clause-position g c = c.binary_search_by.ensures.position (key_order c.args.key.now) (always_returns_same _ _ _ (λ a r f' called. search rules))
