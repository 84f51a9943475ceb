use Rattle.std.proofs.Common.{length, sym, subst}
use Rattle.ktm_each.specs.Each.{EachOfChange}
use Rattle.ktm_store.specs.Store.{IsStoredAt}
use Rattle.ktm_memory.proofs.Wanting.{put-low, put-stored}
use Rattle.ktm_memory.proofs.pages.want_change.Goals as goal

pub want_contents-requires : goal.want_contents-requires
want_contents-requires c = put-low (length c.args.store.now.marks.held) c.in-Put.node c.in-Put.offset c.in-Put.contents (rw c.in-Put.is at c.requires)

pub returns-in-Put-clause-stored : goal.returns-in-Put-clause-stored
returns-in-Put-clause-stored c =
    subst (EachOfChange (λ file index place. IsStoredAt c.want_contents.new.store.stored place)) (sym c.in-Put.is)
    (put-stored c.want_contents.new.store.stored c.in-Put.node c.in-Put.offset c.in-Put.contents c.want_contents.ensures.stored)

pub returns-in-Put-clause-few : goal.returns-in-Put-clause-few
returns-in-Put-clause-few c = rw c.in-Put.is c.want_contents.ensures.few
