use Rattle.std.proofs.Common.{arith}
use Rattle.std.proofs.lemmas.List.{take_all}
use Rattle.std.proofs.lemmas.Result.{err_from_is_err_and}
use Rattle.ktm_world.specs.EventGrammar.{IsChangeOf}
use Rattle.ktm_world.specs.Sizes.{change_size}
use Rattle.ktm_event.specs.Spelling.{IsRecordableChange, IsSpellableChange}
use Rattle.ktm_event.proofs.Rows.{adds_none, adds_more, adds_all, each_of}
use Rattle.ktm_event.proofs.Writings.{size_more, size_within}
use Rattle.ktm_event.proofs.change.put_row.Goals as goal

pub loop-change-init : goal.loop-change-init
loop-change-init c = record { adds = adds_none IsChangeOf; len = omega arith; room = omega arith }

pub returns-in_err-put_change-clause-full : goal.returns-in_err-put_change-clause-full
returns-in_err-put_change-clause-full c =
    let p = err_from_is_err_and c.from_residual.result c.from_residual.ensures.1 in
    rw p.1 (omega (arith, c.in_err-put_change.ensures.full, size_within change_size c.args.changes.now c.loop-change.change-index c.change-item.result (omega arith) c.change-item.is))

pub loop-change-preserved : goal.loop-change-preserved
loop-change-preserved c = record {
  adds = adds_more IsChangeOf _ _ c.change-item.result (omega arith) c.change-item.is c.loop-change.invariant.adds c.in_ok-put_change.ensures.adds;
  len = omega (arith, c.in_ok-put_change.ensures.len, size_more change_size c.args.changes.now c.loop-change.change-index c.change-item.result (omega arith) c.change-item.is);
  room = omega arith;
}

pub returns-clause-adds : goal.returns-clause-adds
returns-clause-adds c = adds_all IsChangeOf _ (omega arith) c.loop-change.invariant.adds

pub returns-clause-len : goal.returns-clause-len
returns-clause-len c = rw (take_all c.loop-change.change-index c.args.changes.now (omega arith)) at c.loop-change.invariant.len

pub put_change-requires-clause-spellable : goal.put_change-requires-clause-spellable
put_change-requires-clause-spellable c = each_of IsSpellableChange c.args.changes.now c.loop-change.change-index (omega arith) c.change-item.is c.requires.spellable

pub put_change-requires-clause-recordable : goal.put_change-requires-clause-recordable
put_change-requires-clause-recordable c = each_of IsRecordableChange c.args.changes.now c.loop-change.change-index (omega arith) c.change-item.is c.requires.recordable
