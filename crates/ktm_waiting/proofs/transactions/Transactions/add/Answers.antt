use Rattle.std.proofs.Common.{◌≡◌, ◌∙◌, List, None, sym, ap, subst}
use Rattle.ktm_world.specs.Durable.{Recorded, recorded_at, with_recorded}
use Rattle.ktm_waiting.specs.declared.amounts.Amounts.{Amounts}
use Rattle.ktm_waiting.specs.Totals.{PassImages, TakeTogether, TransactionsState}
use Rattle.ktm_waiting.specs.Waiting.{plus}
use Rattle.ktm_waiting.proofs.Together.{put-in, too-many}
use Rattle.ktm_waiting.proofs.offered.Keeping.{kept-form}
use Rattle.ktm_waiting.proofs.transactions.Transactions.add.Goals as goal

pub amounts_of-requires-clause-form : goal.amounts_of-requires-clause-form
amounts_of-requires-clause-form c = kept-form c.args.transaction c.requires.kept.changes

pub returns-in_default-clause-refused : goal.returns-in_default-clause-refused
returns-in_default-clause-refused c _ =
    let ts = c.self.inside.table.transactions in
    let a = c.self.inside.taken in
    let b = c.amounts_of.result in
    let t = c.args.transaction in
    let none = subst (λ (s : TransactionsState). recorded_at s.transactions t.id ≡ None) (sym c.self.view_is) c.requires.new in
    subst (λ (s : TransactionsState). PassImages (with_recorded s.transactions t)) c.self.view_is
    (too-many (plus b a) (with_recorded ts t) (put-in a ts t b c.self.invariant none c.amounts_of.ensures) c.in_default.ensures.none)

pub invariant_of-self-2 : goal.invariant_of-self-2
invariant_of-self-2 c =
    let ts = c.self.inside.table.transactions in
    let a = c.self.inside.taken in
    let b = c.amounts_of.result in
    let t = c.args.transaction in
    let none = subst (λ (s : TransactionsState). recorded_at s.transactions t.id ≡ None) (sym c.self.view_is) c.requires.new in
    subst (TakeTogether c.in-Some.taken) (sym (c.put.ensures ∙ ap (λ (us : List Recorded). with_recorded us t) c.in_ok-reserve.ensures.same))
    (subst (λ (x : Amounts). TakeTogether x (with_recorded ts t)) (sym c.in-Some.ensures.some) (put-in a ts t b c.self.invariant none c.amounts_of.ensures))
