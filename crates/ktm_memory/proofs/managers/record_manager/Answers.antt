use Rattle.std.proofs.Common.{[], sym, ◌∙◌, ◌≡◌, true, arith}
use Rattle.ktm_world.specs.TransactionCalls.{is_durable}
use Rattle.ktm_memory.proofs.managers.record_manager.Goals as goal

pub push-requires-clause-fits : goal.push-requires-clause-fits
push-requires-clause-fits c =
    let durable : is_durable c.args.durability ≡ true = sym c.is_durable.ensures ∙ c.if-is_durable.true in
    let all = rw durable at c.requires.fits in omega (arith, all)

pub returns-then-is_durable-clause-holds : goal.returns-then-is_durable-clause-holds
returns-then-is_durable-clause-holds c = let durable : is_durable c.args.durability ≡ true = sym c.is_durable.ensures ∙ c.if-is_durable.true in rw durable (c.push.ensures.adds [] c.requires.empty)
