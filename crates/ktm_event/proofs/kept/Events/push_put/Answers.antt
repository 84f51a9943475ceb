use Rattle.std.proofs.Common.{arith, vec_len}
use Rattle.std.proofs.lemmas.Grind.{common_steps}
use Rattle.ktm_world.specs.declared.change.Change.TheVariants.{Put}
use Rattle.ktm_world.specs.declared.change.Contents.TheVariants.{Paged}
use Rattle.ktm_world.specs.declared.event.Event.{Event}
use Rattle.ktm_world.specs.declared.event.Event.TheVariants.{Plain}
use Rattle.ktm_event.proofs.KeptLemmas.{Grew, kept_more, holds_more}
use Rattle.ktm_event.proofs.kept.Events.push_put.Goals as goal

module _ (c : goal.After-close) where
  event : Event
  event = Plain (Put c.args.node c.args.offset (Paged c.args.len c.args.pages.now))

  grew : Grew c.self.inside.bytes.items c.open.new.bytes.items c.put_plain_put.new.out.items c.close.new.bytes.items c.self.inside.count (vec_len c.open.new.bytes) event
  unfolding event
  grew = record {
    front = c.open.ensures.items;
    end = omega (arith, c.open.ensures.len, c.self.inside.bytes.ok.0);
    adds = rw c.unwrap.ensures at c.put_plain_put.ensures.adds;
    size = omega (arith, rw c.unwrap.ensures at c.put_plain_put.ensures.len, c.open.new.bytes.ok.0, c.put_plain_put.new.out.ok.0);
    closed = c.close.ensures.items;
  }

pub invariant_of-self : goal.invariant_of-self
unfolding event
invariant_of-self c =
    let fits = rw (← c.self.view_is) at c.requires.fits in
    kept_more _ _ _ _ _ _ _ _ (event c) c.self.invariant (grew c) (omega (arith, fits, c.self.invariant.within)) _
    (omega (arith, c.close.ensures.room, c.put_plain_put.ensures.room, c.open.ensures.room, c.self.invariant.reserved))

pub returns-clause-adds : goal.returns-clause-adds
unfolding event
returns-clause-adds c list held =
    let fits = rw (← c.self.view_is) at c.requires.fits in
    holds_more _ _ _ _ _ _ _ _ (event c) c.self.invariant (grew c) (omega (arith, fits, c.self.invariant.within)) _ _ list (rw (← c.self.view_is) at held)

pub overflow_add-self : goal.overflow_add-self
overflow_add-self c = grind (arith, common_steps)
