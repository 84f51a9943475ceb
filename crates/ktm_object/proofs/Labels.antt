-- Lemmas on the entry that a label finds.
use Rattle.std.proofs.Common.{◌≡◌, ℕ, ◌/◌, ◌%◌, true, eqb, List, [], ◌∷◌, Some, None, refl, sym, ◌∙◌, inl, inr, arith}
use Rattle.std.specs.Option.{option_map}
use Rattle.std.proofs.lemmas.Bool.{cases_Bool, and_parts, and_from, eqb-true, eq-eqb}
use Rattle.std.proofs.lemmas.Option.{same_Some}
use Rattle.ktm_base.specs.declared.id.Label.{Label}
use Rattle.ktm_base.specs.declared.id.Pid.{Pid}
use Rattle.ktm_world.specs.Handles.{object_at}
use Rattle.ktm_world.specs.HandleCalls.{is_handle}
use Rattle.ktm_links.specs.declared.list.Key.{Key}
use Rattle.ktm_links.specs.Items.{Item, same_key, value_at}
use Rattle.ktm_links.specs.Mapped.{NamedItem, key_under}
use Rattle.ktm_links.specs.Indexed.{values_of, AreNamed, IsIndex}
use Rattle.ktm_links.proofs.offered.Keys.{same_key-self}
use Rattle.ktm_world.specs.declared.object.Handle.{Handle}
use Rattle.ktm_object.specs.Table.{handle_at}
use Rattle.ktm_object.specs.declared.name.Owner.{Owner}
use Rattle.ktm_object.specs.Names.{label_bytes, label_name, owner_bytes}

number_from : (a b : ℕ) → a / 256 ≡ b / 256 → a % 256 ≡ b % 256 → a ≡ b
number_from a b high low = omega arith

-- a name tells the handle of a process with a label
pub is_handle-from : (process : Pid) (label : Label) (e : Handle) → label_name e ≡ label_bytes process label → is_handle process label e ≡ true
is_handle-from process label e same =
    let first : e.process.0 ≡ process.0 = cc in
    let high : e.label.0 / 256 ≡ label.0 / 256 = cc in
    let low : e.label.0 % 256 ≡ label.0 % 256 = cc in
    and_from (eqb e.process.0 process.0) (eqb e.label.0 label.0) (eq-eqb e.process.0 process.0 first)
    (eq-eqb e.label.0 label.0 (number_from e.label.0 label.0 high low))

pub is_handle-to : (process : Pid) (label : Label) (e : Handle) → is_handle process label e ≡ true → label_name e ≡ label_bytes process label
is_handle-to process label e same =
    let parts = and_parts (eqb e.process.0 process.0) (eqb e.label.0 label.0) same in
    let first = eqb-true e.process.0 process.0 parts.0 in
    let second = eqb-true e.label.0 label.0 parts.1 in
    rw (first, second) refl

pub handle_at-found : (items : List (Item Handle)) (named : List (NamedItem Key)) (process : Pid) (label : Label) (key : Key) (e : Handle)
    → AreNamed label_name named items → key_under named (label_bytes process label) ≡ Some key → value_at items key ≡ Some e
    → label_name e ≡ label_bytes process label → handle_at (values_of items) process label ≡ Some e
handle_at-found [] named process label key e all under is name = absurd (cc)
handle_at-found (x ∷ xs) named process label key e all under is name =
    elim (cases_Bool (is_handle process label x.value)) [
      | inl here ↦
          let x_under : key_under named (label_bytes process label) ≡ Some x.key = rw (is_handle-to process label x.value here) at all.0 in
          let same : same_key x.key key ≡ true = same_key-self x.key key (same_Some x.key key (sym x_under ∙ under)) in
          rw here (rw same at is)
      | inr differs ↦
          elim (cases_Bool (same_key x.key key)) [
            | inl same ↦
                let value : x.value ≡ e = same_Some x.value e (rw same at is) in
                absurd (let here = is_handle-from process label x.value (rw value name) in cc)
            | inr other ↦ rw differs (handle_at-found xs named process label key e all.1 under (rw other at is) name)
          ]
    ]

absent_in : (items : List (Item Handle)) (named : List (NamedItem Key)) (process : Pid) (label : Label)
    → AreNamed label_name named items → key_under named (label_bytes process label) ≡ None → handle_at (values_of items) process label ≡ None
absent_in [] named process label all none = refl
absent_in (x ∷ xs) named process label all none =
    elim (cases_Bool (is_handle process label x.value)) [
      | inl here ↦ absurd (let some = rw (is_handle-to process label x.value here) at all.0 in cc)
      | inr differs ↦ rw differs (absent_in xs named process label all.1 none)
    ]

-- the object that the label names is that of its entry
pub object_at-entry : (es : List Handle) (process : Pid) (label : Label)
    → option_map (λ (e : Handle). e.object) (handle_at es process label) ≡ object_at es process label
object_at-entry [] process label = refl
object_at-entry (e ∷ es) process label =
    elim (cases_Bool (is_handle process label e)) [
      | inl here ↦ rw here refl
      | inr differs ↦ rw differs (object_at-entry es process label)
    ]

-- what the map of labels finds is what the entries have under the label
pub handle_at-index : (items : List (Item Handle)) (named : List (NamedItem Key)) (process : Pid) (label : Label) (key : Key)
    → IsIndex label_name items named → Some key ≡ key_under named (label_bytes process label) → value_at items key ≡ handle_at (values_of items) process label
handle_at-index items named process label key index under =
    let at = index.only (label_bytes process label) key (sym under) in
    at.1 ∙ sym (handle_at-found items named process label key at.0 index.all (sym under) at.1 at.2)

pub handle_at-absent : (items : List (Item Handle)) (named : List (NamedItem Key)) (process : Pid) (label : Label)
    → IsIndex label_name items named → None ≡ key_under named (label_bytes process label) → None ≡ handle_at (values_of items) process label
handle_at-absent items named process label index none = sym (absent_in items named process label index.all (sym none))

-- a name by owner ends with that by label
pub owner_tells : (owner other : Owner) (process : Pid) (label : Label) (e : Handle) → owner_bytes owner (label_name e) ≡ owner_bytes other (label_bytes process label)
    → label_name e ≡ label_bytes process label
owner_tells owner other process label e same = cc
