use Rattle.std.proofs.Common.{arith, vec_len}
use Rattle.std.proofs.lemmas.Grind.{common_steps}
use Rattle.ktm_world.specs.declared.event.Event.{Event}
use Rattle.ktm_event.specs.Work.{part_of, work_event}
use Rattle.ktm_event.proofs.KeptLemmas.{Grew, kept_more, holds_more}
use Rattle.ktm_event.proofs.kept.Events.push_work.Given.{Over}
use Rattle.ktm_event.proofs.kept.Events.push_work.Goals as goal

module _ (g : Over) (c : goal.After-close g) where
  event : Event
  event = work_event c.args.stage c.args.transaction (part_of g.F.WrittenFiles.files c.args.work)

  grew : Grew c.self.inside.bytes.items c.open.new.bytes.items c.put_work.new.out.items c.close.new.bytes.items c.self.inside.count (vec_len c.open.new.bytes) event
  unfolding event
  grew = record {
    front = c.open.ensures.items;
    end = omega (arith, c.open.ensures.len, c.self.inside.bytes.ok.0);
    adds = rw c.unwrap.ensures at c.put_work.ensures.adds;
    size = omega (arith, rw c.unwrap.ensures at c.put_work.ensures.len, c.open.new.bytes.ok.0, c.put_work.new.out.ok.0);
    closed = c.close.ensures.items;
  }

pub invariant_of-self : goal.invariant_of-self
unfolding event
invariant_of-self g c =
    let fits = rw (← c.self.view_is) at c.requires.fits in
    kept_more _ _ _ _ _ _ _ _ (event g c) c.self.invariant (grew g c) (omega (arith, fits, c.self.invariant.within)) _
    (omega (arith, c.close.ensures.room, c.put_work.ensures.room, c.open.ensures.room, c.self.invariant.reserved))

pub returns-clause-adds : goal.returns-clause-adds
unfolding event
returns-clause-adds g c list held =
    let fits = rw (← c.self.view_is) at c.requires.fits in
    holds_more _ _ _ _ _ _ _ _ (event g c) c.self.invariant (grew g c) (omega (arith, fits, c.self.invariant.within)) _ _ list (rw (← c.self.view_is) at held)

pub overflow_add-self : goal.overflow_add-self
overflow_add-self g c = grind (arith, common_steps)
