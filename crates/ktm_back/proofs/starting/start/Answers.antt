use Rattle.std.proofs.Common.{◌≡◌, ◌∙◌, List, ap, arith, filter, map}
use Rattle.ktm_world.specs.Enlistments.{Enlistment}
use Rattle.ktm_world.specs.Present.{Transactions}
use Rattle.ktm_world.specs.World.{by_rising_id, is_brought_back, transaction_back}
use Rattle.txf_laws.proofs.offered.Elements.{list_all-at, list_all-from}
use Rattle.ktm_courses.proofs.offered.EnlistmentOrder.{IsIn-rising, Rises-by_rising_id}
use Rattle.ktm_back.specs.Bringing.{is_of_earlier, manager_back, transactions_back}
use Rattle.ktm_back.specs.Coming.{enlistments_coming}
use Rattle.ktm_back.proofs.Managers.{all-there}
use Rattle.ktm_back.proofs.starting.start.Goals as goal

pub bring_enlistments-requires-clause-rise : goal.bring_enlistments-requires-clause-rise
bring_enlistments-requires-clause-rise c = rw c.in_ok-enlistments.ensures (Rises-by_rising_id (enlistments_coming c.args.transactions.now) c.requires.enlistments_differ)

pub bring_enlistments-requires-clause-earlier : goal.bring_enlistments-requires-clause-earlier
bring_enlistments-requires-clause-earlier c =
    let coming = enlistments_coming c.args.transactions.now in
    rw (c.bring_transactions.ensures.boot ∙ c.bring_managers.ensures.boot ∙ c.new-tm.ensures.boot, c.in_ok-enlistments.ensures)
    (list_all-from (λ (e : Enlistment). is_of_earlier c.args.boot e.id) (by_rising_id coming)
    (λ e there. list_all-at (λ (f : Enlistment). is_of_earlier c.args.boot f.id) coming c.requires.enlistments_earlier e (IsIn-rising coming e there)))

pub bring_enlistments-requires-clause-there : goal.bring_enlistments-requires-clause-there
bring_enlistments-requires-clause-there c =
    rw (c.bring_transactions.ensures.rest.managers ∙ c.in_ok-bring_managers.ensures.managers, c.in_ok-enlistments.ensures)
    (all-there c.args.managers.now (enlistments_coming c.args.transactions.now) c.requires.managers_there)

pub returns : goal.returns
returns c =
    let ids = c.args.managers.now in
    let ts = c.args.transactions.now in
    let es = c.in_ok-enlistments.enlistments.items in
    let now : c.bring_enlistments.new.tm.now ≡ transactions_back ts =
    c.in_ok-bring_enlistments.ensures.now
    ∙ ap (λ (n : Transactions). record n { enlistments = es }) (c.in_ok-bring_transactions.ensures.now ∙ ap (λ (n : Transactions). record n { items = map transaction_back (filter is_brought_back ts) }) (c.bring_managers.ensures.now ∙ c.new-tm.ensures.now))
    ∙ ap (λ (l : List Enlistment). record (transactions_back ts) { enlistments = l }) c.in_ok-enlistments.ensures in
    let managers : c.bring_enlistments.new.tm.managers ≡ map manager_back ids = c.bring_enlistments.ensures.managers ∙ c.bring_transactions.ensures.rest.managers ∙ c.in_ok-bring_managers.ensures.managers in
    record {
      boot_is = c.bring_enlistments.ensures.boot ∙ c.bring_transactions.ensures.boot ∙ c.bring_managers.ensures.boot ∙ c.new-tm.ensures.boot;
      now = now;
      managers_are = managers;
      managers_there = rw (managers, ap (λ (n : Transactions). n.enlistments) now) (all-there ids (enlistments_coming ts) c.requires.managers_there);
      slots = rw (ap (λ (n : Transactions). n.enlistments) c.in_ok-bring_enlistments.ensures.now) (omega (arith, c.in_ok-bring_enlistments.ensures.slots));
    }
