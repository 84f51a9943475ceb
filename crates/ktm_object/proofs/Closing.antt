-- Lemmas on a handle that is gone.
use Rattle.std.proofs.Common.{◌≡◌, ℕ, ◌+◌, ◌-◌, ◌^◌, Bool, true, false, not, min, List, [], ◌∷◌, Option, Some, None, refl, sym, ap, ◌∙◌, inl, inr, arith}
use Rattle.std.specs.Prelude.{OnSome}
use Rattle.std.proofs.lemmas.Bool.{cases_Bool}
use Rattle.std.proofs.lemmas.Option.{same_Some}
use Rattle.ktm_base.specs.declared.id.Label.{Label}
use Rattle.ktm_base.specs.declared.id.Pid.{Pid}
use Rattle.ktm_world.specs.HandleCalls.{is_handle, without_handle}
use Rattle.ktm_links.specs.declared.list.Key.{Key}
use Rattle.ktm_links.specs.Items.{Item, same_key, value_at, without}
use Rattle.ktm_links.specs.Mapped.{NamedItem, key_under}
use Rattle.ktm_links.specs.Indexed.{values_of, AreNamed, IsIndex}
use Rattle.ktm_links.proofs.offered.Indexes.{named_at}
use Rattle.ktm_links.proofs.offered.Keys.{on_some, same_key-true, same_key-self}
use Rattle.ktm_world.specs.declared.object.Handle.{Handle}
use Rattle.ktm_object.specs.Table.{handle_at}
use Rattle.ktm_object.specs.Names.{label_bytes, label_name}
use Rattle.ktm_object.proofs.Labels.{is_handle-from, is_handle-to}

-- of each item, is it that of the key exactly where it is the handle of the process with the label
abbrev pub TellsKey : Pid → Label → Key → List (Item Handle) → Type 0
TellsKey process label key [] = Unit {0}
TellsKey process label key (x ∷ xs) = (is_handle process label x.value ≡ same_key x.key key) × TellsKey process label key xs

pub tells : (items : List (Item Handle)) (named : List (NamedItem Key)) (process : Pid) (label : Label) (key : Key) → IsIndex label_name items named
    → key_under named (label_bytes process label) ≡ Some key → (xs : List (Item Handle)) → AreNamed label_name named xs → TellsKey process label key xs
tells items named process label key index under [] all = tt
tells items named process label key index under (x ∷ xs) all = (
  elim (cases_Bool (is_handle process label x.value)) [
    | inl here ↦
        let x_under : key_under named (label_bytes process label) ≡ Some x.key = rw (is_handle-to process label x.value here) at all.0 in
        here ∙ sym (same_key-self x.key key (same_Some x.key key (sym x_under ∙ under)))
    | inr differs ↦
        elim (cases_Bool (same_key x.key key)) [
          | inl same ↦
              let at = index.only (label_bytes process label) key under in
              let at_x = index.only (label_name x.value) key (all.0 ∙ ap Some (same_key-true x.key key same)) in
              let entry : at_x.0 ≡ at.0 = same_Some at_x.0 at.0 (sym at_x.1 ∙ at.1) in
              absurd (let here = is_handle-from process label x.value (sym at_x.2 ∙ ap label_name entry ∙ at.2) in cc)
          | inr other ↦ differs ∙ sym other
        ]
  ],
  tells items named process label key index under xs all.1,
)

kept_all : (process : Pid) (label : Label) (key : Key) (xs : List (Item Handle)) → TellsKey process label key xs → value_at xs key ≡ None
    → values_of xs ≡ without_handle (values_of xs) process label
kept_all process label key [] told none = refl
kept_all process label key (x ∷ xs) told none =
    elim (cases_Bool (same_key x.key key)) [
      | inl same ↦ absurd (let some = rw same at none in cc)
      | inr other ↦
          let differs : is_handle process label x.value ≡ false = told.0 ∙ other in
          rw differs (ap (λ es. x.value ∷ es) (kept_all process label key xs told.1 (rw other at none)))
    ]

kept_others : (process : Pid) (label : Label) (key : Key) (xs : List (Item Handle)) → TellsKey process label key xs → value_at (without xs key) key ≡ None
    → values_of (without xs key) ≡ without_handle (values_of xs) process label
kept_others process label key [] told none = refl
kept_others process label key (x ∷ xs) told none =
    elim (cases_Bool (same_key x.key key)) [
      | inl same ↦
          let here : is_handle process label x.value ≡ true = told.0 ∙ same in
          rw (same, here) (kept_all process label key xs told.1 (rw same at none))
      | inr other ↦
          let differs : is_handle process label x.value ≡ false = told.0 ∙ other in
          rw (other, differs) (ap (λ es. x.value ∷ es) (kept_others process label key xs told.1 (rw (other, other) at none)))
    ]

-- without the item of its key the entries are without the handle
pub values_of-without : (items new : List (Item Handle)) (named : List (NamedItem Key)) (process : Pid) (label : Label) (key : Key) → IsIndex label_name items named
    → key_under named (label_bytes process label) ≡ Some key → new ≡ without items key → value_at new key ≡ None
    → values_of new ≡ without_handle (values_of items) process label
values_of-without items new named process label key index under is gone =
    ap values_of is
    ∙ kept_others process label key items (tells items named process label key index under items index.all) (ap (λ xs. value_at xs key) (sym is) ∙ gone)

-- a label that names nothing takes nothing away
pub without-absent : (es : List Handle) (process : Pid) (label : Label) → None ≡ handle_at es process label → es ≡ without_handle es process label
without-absent [] process label none = refl
without-absent (e ∷ es) process label none =
    elim (cases_Bool (is_handle process label e)) [
      | inl here ↦ absurd (let some = rw here at none in cc)
      | inr differs ↦ rw differs (ap (λ l. e ∷ l) (without-absent es process label (rw differs at none)))
    ]

-- the entry that a label finds has its name
pub label_name-found : (items : List (Item Handle)) (named : List (NamedItem Key)) (process : Pid) (label : Label) (key : Key) (e : Handle) → IsIndex label_name items named
    → Some key ≡ key_under named (label_bytes process label) → Some e ≡ value_at items key → label_name e ≡ label_bytes process label
label_name-found items named process label key e index under there =
    let at = index.only (label_bytes process label) key (sym under) in
    ap label_name (same_Some e at.0 (there ∙ at.1)) ∙ at.2

-- where each of three numbers rises by one below a limit, so does the least
pub spare_rises : (a b c a' b' c' m : ℕ) → a' ≡ min (a + 1) m → b' ≡ min (b + 1) m → c' ≡ min (c + 1) m → min a' (min b' c') ≡ min (min a (min b c) + 1) m
spare_rises a b c a' b' c' m first second third = rw (first, second, third) (omega arith)

pub not_flip : (a b : Bool) → a ≡ not b → b ≡ not a
not_flip a true is = sym (ap not is)
not_flip a false is = sym (ap not is)

-- the name of an entry that is there
pub name_taken : (name : Handle → List ℕ) (items : List (Item Handle)) (named : List (NamedItem Key)) (key : Key) (e : Handle) (q : List ℕ) → IsIndex name items named
    → q ≡ name e → Some e ≡ value_at items key → key_under named q ≡ Some key
name_taken name items named key e q index is there = ap (key_under named) is ∙ named_at name named items key e index.all (sym there)

-- the place that a removal gives back
pub spare_back : (o : Option Key) (key : Key) (old new next ever : ℕ) → o ≡ Some key → next ≡ ever → OnSome o (new ≡ min (old + 1) (2 ^ 64 - 1 - next))
    → new ≡ min (old + 1) (2 ^ 64 - 1 - ever)
spare_back o key old new next ever some same back = rw same at (on_some _ o key some back)
