-- The durable resource managers, with their queues and without.
use Rattle.std.proofs.Common.{◌≡◌, List, [], ◌∷◌, refl, ap, inl, inr}
use Rattle.std.proofs.lemmas.Bool.{cases_Bool}
use Rattle.ktm_notify.specs.declared.note.Note.{Note as Waiting}
use Rattle.ktm_manager.specs.declared.managers.Listed.{Listed}
use Rattle.ktm_manager.specs.Durable.{durable_in, durable_listed}
use Rattle.ktm_manager.specs.Managers.{managers_in}

pub durable_same : (xs : List Listed) (qs : List (List Waiting)) → durable_in (managers_in xs qs) ≡ durable_listed xs
durable_same [] qs = refl
durable_same (x ∷ xs) [] = elim (cases_Bool x.is_durable) [ inl is ↦ rw is (ap (λ ids. x.id ∷ ids) (durable_same xs [])) | inr is ↦ rw is (durable_same xs []) ]
durable_same (x ∷ xs) (q ∷ qs) = elim (cases_Bool x.is_durable) [ inl is ↦ rw is (ap (λ ids. x.id ∷ ids) (durable_same xs qs)) | inr is ↦ rw is (durable_same xs qs) ]
