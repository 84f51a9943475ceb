-- What a label names is what has its Id.
use Rattle.std.proofs.Common.{◌≡◌, Bool, true, List, [], ◌∷◌, Option, Some, None, is_some, option_and_then, refl, ◌∙◌, ap, inl, inr}
use Rattle.std.proofs.lemmas.Bool.{and_from, and_parts, cases_Bool, false≢true}
use Rattle.std.specs.List.{list_all}
use Rattle.ktm_base.specs.declared.id.Id.{Id}
use Rattle.ktm_base.specs.declared.id.Label.{Label}
use Rattle.ktm_base.specs.declared.id.Pid.{Pid}
use Rattle.ktm_courses.specs.SoundCourse.{has_manager, has_transaction}
use Rattle.txf_laws.proofs.offered.Tables.{same_id-equal}
use Rattle.ktm_world.specs.declared.object.Transaction.{Transaction}
use Rattle.ktm_world.specs.Enlistments.{Enlistment, Manager, enlistment_at, manager_at}
use Rattle.ktm_world.specs.Handles.{object_at, transaction_id}
use Rattle.ktm_world.specs.Labels.{enlistment_id, enlistment_named, manager_id, manager_named, transaction_named}
use Rattle.ktm_world.specs.Present.{Present}
use Rattle.ktm_world.specs.Transactions.{same_id, transaction_at}
use Rattle.ktm_courses.proofs.offered.Moves.{find-found}
use Rattle.txf_laws.proofs.offered.Elements.{list_all-at}
use Rattle.ktm_standing.specs.Laws.{NamedLaw}
use Rattle.ktm_standing.proofs.offered.Found.{found_again}

-- ---- by its own Id

transaction_again : (x : Present) (process : Pid) (label : Label) (t : Transaction) → transaction_named x process label ≡ Some t → transaction_at x.transactions.items t.id ≡ Some t
transaction_again x process label t = go (transaction_id (object_at x.handles process label))
  where
    go : (id : Option Id) → option_and_then (transaction_at x.transactions.items) id ≡ Some t → transaction_at x.transactions.items t.id ≡ Some t
    go None found = cc
    go (Some id) found = found_again x.transactions.items id t found

manager_again : (x : Present) (process : Pid) (label : Label) (m : Manager) → manager_named x process label ≡ Some m → manager_at x.managers m.id ≡ Some m
manager_again x process label m = go (manager_id (object_at x.handles process label))
  where
    go : (id : Option Id) → option_and_then (manager_at x.managers) id ≡ Some m → manager_at x.managers m.id ≡ Some m
    go None found = cc
    go (Some id) found = ap (manager_at x.managers) (same_id-equal m.id id (find-found (λ (m : Manager). same_id m.id id) x.managers m found).1) ∙ found

enlistment_again : (x : Present) (process : Pid) (label : Label) (e : Enlistment) → enlistment_named x process label ≡ Some e → enlistment_at x.transactions.enlistments e.id ≡ Some e
enlistment_again x process label e = go (enlistment_id (object_at x.handles process label))
  where
    go : (id : Option Id) → option_and_then (enlistment_at x.transactions.enlistments) id ≡ Some e → enlistment_at x.transactions.enlistments e.id ≡ Some e
    go None found = cc
    go (Some id) found = ap (enlistment_at x.transactions.enlistments) (same_id-equal e.id id (find-found (λ (e : Enlistment). same_id e.id id) x.transactions.enlistments e found).1) ∙ found

-- ---- what an enlistment names

-- a transaction that is there is found
transaction_found : (ts : List Transaction) (id : Id) → has_transaction ts id ≡ true → (t : Transaction) × (transaction_at ts id ≡ Some t)
transaction_found [] id has = absurd (false≢true has)
transaction_found (t ∷ ts) id has = elim (cases_Bool (same_id t.id id)) [
  | inl same ↦ (t, rw same refl)
  | inr other ↦ let rest = transaction_found ts id (rw other at has) in (rest.0, rw other rest.1)
]

manager_found : (ms : List Manager) (id : Id) → has_manager ms id ≡ true → is_some (manager_at ms id) ≡ true
manager_found [] id has = has
manager_found (m ∷ ms) id has = elim (cases_Bool (same_id m.id id)) [ inl same ↦ rw same refl | inr other ↦ rw other (manager_found ms id (rw other at has)) ]

managers_found : (ms : List Manager) (es : List Enlistment) → list_all (λ e. has_manager ms e.manager) es ≡ true → list_all (λ e. is_some (manager_at ms e.manager)) es ≡ true
managers_found ms [] all = refl
managers_found ms (e ∷ es) all =
    let parts = and_parts (has_manager ms e.manager) (list_all (λ (e : Enlistment). has_manager ms e.manager) es) all in
    and_from _ _ (manager_found ms e.manager parts.0) (managers_found ms es parts.1)

-- a test that all enlistments pass is passed by the one that a label names
of_named : (x : Present) (process : Pid) (label : Label) (e : Enlistment) (test : Enlistment → Bool) → list_all test x.transactions.enlistments ≡ true → enlistment_named x process label ≡ Some e → test e ≡ true
of_named x process label e test all named =
    list_all-at test x.transactions.enlistments all e (find-found (λ (f : Enlistment). same_id f.id e.id) x.transactions.enlistments e (enlistment_again x process label e named)).0

pub named_law : NamedLaw
named_law = record {
  transactions = transaction_again;
  managers = manager_again;
  enlistments = enlistment_again;
  transaction_of = λ x process label e course named.
      transaction_found x.transactions.items e.transaction (of_named x process label e (λ f. has_transaction x.transactions.items f.transaction) course.enlistments.transactions_there named);
  manager_of = λ x process label e course named.
      manager_found x.managers e.manager (of_named x process label e (λ f. has_manager x.managers f.manager) course.enlistments.managers_there named);
  managers_of = λ x course. managers_found x.managers x.transactions.enlistments course.enlistments.managers_there;
}
