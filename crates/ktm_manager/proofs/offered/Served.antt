-- Resource managers that are served: sent to twice, sent to never, and found as before.
use Rattle.std.proofs.Common.{◌≡◌, Bool, List, [], ◌∷◌, ◌++◌, map, None, refl, sym, ◌∙◌, ap, append_assoc}
use Rattle.std.specs.Prelude.{is_some, filter, Option}
use Rattle.std.proofs.lemmas.Bool.{cases_Bool}
use Rattle.std.proofs.lemmas.List.{append-nil, map-append}
use Rattle.std.proofs.lemmas.List.Elements.{filter-append}
use Rattle.std.proofs.Common.{inl, inr}
use Rattle.ktm_base.specs.declared.id.Id.{Id}
use Rattle.ktm_world.specs.Enlistments.{Manager, Note, Sent, manager_at, notes_for}
use Rattle.ktm_world.specs.Outcome.{served}
use Rattle.ktm_world.specs.Transactions.{same_id}

-- what is sent for a manager, of two lists
notes_for-append : (id : Id) (a b : List Sent) → notes_for id (a ++ b) ≡ notes_for id a ++ notes_for id b
notes_for-append id a b =
    ap (map (λ s. s.note)) (filter-append (λ s. same_id s.manager id) a b) ∙ map-append (λ s. s.note) (filter (λ s. same_id s.manager id) a) (filter (λ s. same_id s.manager id) b)

-- what is sent after what was sent before
pub served_twice : (a b : List Sent) (ms : List Manager) → map (served None b) (map (served None a) ms) ≡ map (served None (a ++ b)) ms
served_twice a b [] = refl
served_twice a b (m ∷ ms) =
    ap (λ (l : List Note). record m { queue = l } ∷ map (served None b) (map (served None a) ms)) (append_assoc m.queue (notes_for m.id a) (notes_for m.id b) ∙ ap (λ l. m.queue ++ l) (sym (notes_for-append m.id a b)))
    ∙ ap (λ l. served None (a ++ b) m ∷ l) (served_twice a b ms)

pub served_nothing : (ms : List Manager) → map (served None []) ms ≡ ms
served_nothing [] = refl
served_nothing (m ∷ ms) = ap (λ (l : List Note). record m { queue = l } ∷ map (served None []) ms) (append-nil m.queue) ∙ ap (λ l. m ∷ l) (served_nothing ms)

-- a manager is there as before
pub there_served : (took : Option Id) (sent : List Sent) (ms : List Manager) (id : Id) → is_some (manager_at (map (served took sent) ms) id) ≡ is_some (manager_at ms id)
there_served took sent [] id = refl
there_served took sent (m ∷ ms) id = elim (cases_Bool (same_id m.id id)) [
  | inl same ↦ rw same refl
  | inr other ↦ rw other (there_served took sent ms id)
]
