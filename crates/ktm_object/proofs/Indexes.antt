-- Lemmas on labels and names that are free.
use Rattle.std.proofs.Common.{◌≡◌, ℕ, List, None, Some, sym, ap, ◌∙◌, inl, inr}
use Rattle.std.specs.Option.{option_map}
use Rattle.ktm_base.specs.declared.id.Label.{Label}
use Rattle.ktm_base.specs.declared.id.Pid.{Pid}
use Rattle.ktm_world.specs.Handles.{object_at}
use Rattle.ktm_links.specs.declared.list.Key.{Key}
use Rattle.ktm_links.specs.Items.{Item}
use Rattle.ktm_links.specs.Mapped.{NamedItem, key_at, key_under}
use Rattle.ktm_links.specs.Indexed.{values_of, IsIndex}
use Rattle.ktm_links.proofs.offered.Indexes.{key_at-free, named_at, option_cases}
use Rattle.ktm_world.specs.declared.object.Handle.{Handle}
use Rattle.ktm_object.specs.declared.name.Owner.{Owner}
use Rattle.ktm_object.specs.Names.{label_bytes, label_name, owner_bytes}
use Rattle.ktm_object.proofs.Labels.{owner_tells, handle_at-index, object_at-entry}

-- a label that names nothing is not in the map
pub label_free : (items : List (Item Handle)) (named : List (NamedItem Key)) (process : Pid) (label : Label) → IsIndex label_name items named
    → object_at (values_of items) process label ≡ None → key_under named (label_bytes process label) ≡ None
label_free items named process label index free =
    elim (option_cases (key_under named (label_bytes process label))) [
      | inl none ↦ none
      | inr some ↦
          let at = index.only (label_bytes process label) some.0 some.1 in
          let entry = handle_at-index items named process label some.0 index (sym some.1) in
          let object =
          ap (λ o. option_map (λ (e : Handle). e.object) o) (sym at.1 ∙ entry) ∙ object_at-entry (values_of items) process label ∙ free in
          absurd (cc)
    ]

pub label_key_free : (items : List (Item Handle)) (named : List (NamedItem Key)) (process : Pid) (label : Label) (q : List ℕ) → IsIndex label_name items named
    → q ≡ label_bytes process label → object_at (values_of items) process label ≡ None → key_at named q ≡ None
label_key_free items named process label q index is free = rw is (key_at-free named (label_bytes process label) (label_free items named process label index free))

-- where a label names nothing, no name by an owner that ends with it is in a map
pub name_free : (name : Handle → List ℕ) (items : List (Item Handle)) (labels named : List (NamedItem Key)) (process : Pid) (label : Label) (owner : Owner) (q : List ℕ)
    → IsIndex label_name items labels → IsIndex name items named → (owner_of : Handle → Owner) → ((e : Handle) → name e ≡ owner_bytes (owner_of e) (label_name e))
    → q ≡ owner_bytes owner (label_bytes process label) → object_at (values_of items) process label ≡ None → key_under named q ≡ None
name_free name items labels named process label owner q by_label index owner_of name_is is free =
    elim (option_cases (key_under named q)) [
      | inl none ↦ none
      | inr some ↦
          let at = index.only q some.0 some.1 in
          let under = named_at label_name labels items some.0 at.0 by_label.all at.1 in
          let ends = owner_tells (owner_of at.0) owner process label at.0 (sym (name_is at.0) ∙ at.2 ∙ is) in
          let label_under : key_under labels (label_bytes process label) ≡ Some some.0 = rw ends at under in
          let none = label_free items labels process label by_label free in
          absurd (cc)
    ]

pub name_key_free : (name : Handle → List ℕ) (items : List (Item Handle)) (labels named : List (NamedItem Key)) (process : Pid) (label : Label) (owner : Owner) (q : List ℕ)
    → IsIndex label_name items labels → IsIndex name items named → (owner_of : Handle → Owner) → ((e : Handle) → name e ≡ owner_bytes (owner_of e) (label_name e))
    → q ≡ owner_bytes owner (label_bytes process label) → object_at (values_of items) process label ≡ None → key_at named q ≡ None
name_key_free name items labels named process label owner q by_label index owner_of name_is is free =
    key_at-free named q (name_free name items labels named process label owner q by_label index owner_of name_is is free)
