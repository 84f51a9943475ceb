use Rattle.std.proofs.Common.{None, ap, sym, ◌∙◌}
use Rattle.ktm_world.specs.declared.object.Phase.{Phase}
use Rattle.ktm_world.specs.declared.reply.Reply.TheVariants.{Done}
use Rattle.ktm_standing.proofs.offered.Found.{found_again}
use Rattle.ktm_world.specs.HandleCalls.{abort_active}
use Rattle.ktm_world.specs.Outcome.{only_reply}
use Rattle.ktm_world.specs.TransactionCalls.{aborted_by}
use Rattle.ktm_world.specs.Transactions.{is_live, transaction_at}
use Rattle.ktm_memory.proofs.Behind.{settles-reply, settles-same, told-same}
use Rattle.ktm_memory.proofs.HandlesLeft.{active-aborts, none-stays, others-stay}
use Rattle.ktm_memory.proofs.memory.Memory.roll_back_if_active.Goals as goal

pub roll_back-requires-clause-there : goal.roll_back-requires-clause-there
roll_back-requires-clause-there c = found_again c.args.self.now.tm.now.items c.args.id c.in-Some.t (ap (λ m. transaction_at m.tm.now.items c.args.id) (sym c.self.view_is) ∙ sym c.find.ensures ∙ c.in-Some.is)

pub roll_back-requires-clause-live : goal.roll_back-requires-clause-live
roll_back-requires-clause-live c = ap (λ (p : Phase). is_live (record c.in-Some.t { phase = p })) c.in-Active.is

pub roll_back-requires-clause-told : goal.roll_back-requires-clause-told
roll_back-requires-clause-told c =
    let found = ap (λ m. transaction_at m.tm.now.items c.args.id) (sym c.self.view_is) ∙ sym c.find.ensures ∙ c.in-Some.is in
    told-same c.args.self.now (λ x. aborted_by x c.in-Some.t None Done) (λ x. abort_active x (transaction_at x.transactions.items c.args.id)) (active-aborts c.args.self.now c.args.id c.in-Some.t found c.in-Active.is) c.requires.told

pub returns-in_default-clause-settles : goal.returns-in_default-clause-settles
returns-in_default-clause-settles c =
    let found = ap (λ m. transaction_at m.tm.now.items c.args.id) (sym c.self.view_is) ∙ sym c.find.ensures ∙ c.in_default.is in
    settles-same c.args.self.now c.args.self.now (λ x. only_reply x Done) (λ x. abort_active x (transaction_at x.transactions.items c.args.id)) (none-stays c.args.self.now c.args.id found) (settles-reply c.args.self.now)

pub returns-in-Active-clause-settles : goal.returns-in-Active-clause-settles
returns-in-Active-clause-settles c =
    let found = ap (λ m. transaction_at m.tm.now.items c.args.id) (sym c.self.view_is) ∙ sym c.find.ensures ∙ c.in-Some.is in
    settles-same c.args.self.now c.roll_back.new.self (λ x. aborted_by x c.in-Some.t None Done) (λ x. abort_active x (transaction_at x.transactions.items c.args.id)) (active-aborts c.args.self.now c.args.id c.in-Some.t found c.in-Active.is) c.roll_back.ensures.settles

pub returns-in_default-phase-clause-settles : goal.returns-in_default-phase-clause-settles
returns-in_default-phase-clause-settles c =
    let found = ap (λ m. transaction_at m.tm.now.items c.args.id) (sym c.self.view_is) ∙ sym c.find.ensures ∙ c.in-Some.is in
    settles-same c.args.self.now c.args.self.now (λ x. only_reply x Done) (λ x. abort_active x (transaction_at x.transactions.items c.args.id)) (others-stay c.args.self.now c.args.id c.in-Some.t found c.in_default-phase.not-Active) (settles-reply c.args.self.now)
