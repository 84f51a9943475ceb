use Rattle.std.specs.Option.{option_copied}
use Rattle.std.proofs.Common.{ap, sym, ◌∙◌}
use Rattle.ktm_world.specs.Enlistments.{Enlistment}
use Rattle.ktm_world.specs.Transactions.{transaction_at}
use Rattle.ktm_standing.proofs.offered.Named.{named_law}
use Rattle.ktm_memory.specs.Memory.{present_of}
use Rattle.ktm_memory.proofs.offered.Standing.{kept}
use Rattle.ktm_route.proofs.enlistment_routes.with_transaction.Goals as goal

pub unreachable-requires : goal.unreachable-requires
unreachable-requires c =
    let x = present_of c.args.memory.now in
    let there = named_law.transaction_of x c.args.process c.args.label c.in-Some.e.now (kept x c.requires).sound.course (sym c.enlistment_named.ensures ∙ ap option_copied c.in-Some.is) in
    c.in_default-find.not-Some there.0
    (c.find.ensures ∙ ap (λ tm. transaction_at tm.now.items c.e.inside.transaction) c.tm.ensures ∙ ap (λ (e : Enlistment). transaction_at x.transactions.items e.transaction) c.e.view_is ∙ there.1)
