-- Lemmas on the labels of one process.
use Rattle.std.proofs.Common.{◌≡◌, ℕ, ◌<◌, ◌≤◌, ◌/◌, ◌%◌, true, false, eqb, ltb, List, [], ◌∷◌, Some, None, is_some, refl, sym, subst, ap, ◌∙◌, inl, inr, arith}
use Rattle.std.specs.Option.{option_map}
use Rattle.std.proofs.lemmas.Bool.{cases_Bool, and_from, and_parts, eqb-true, eq-eqb, cases_lt, lt-ltb, le-ltb}
use Rattle.std.proofs.lemmas.Option.{same_Some}
use Rattle.ktm_base.specs.declared.id.Label.{Label}
use Rattle.ktm_base.specs.declared.id.Pid.{Pid}
use Rattle.ktm_world.specs.Handles.{object_at}
use Rattle.ktm_world.specs.HandleCalls.{is_handle, is_of_process, labels_of, with_label, without_handle}
use Rattle.ktm_links.specs.declared.list.Key.{Key}
use Rattle.ktm_links.specs.Items.{Item, same_key, value_at, without}
use Rattle.ktm_links.specs.Mapped.{NamedItem, Begins, IsNotBelow, key_under}
use Rattle.ktm_links.specs.Indexed.{values_of, AreDistinct, AreNamed, IsIndex, IsFirstUnder, IsNoneUnder}
use Rattle.ktm_links.proofs.offered.Indexes.{value_at-gone}
use Rattle.ktm_links.proofs.offered.Keys.{same_key-true}
use Rattle.ktm_world.specs.declared.object.Handle.{Handle}
use Rattle.ktm_object.specs.Names.{label_bytes, label_name}
use Rattle.ktm_object.proofs.Closing.{TellsKey, tells, values_of-without}
use Rattle.ktm_object.proofs.Labels.{handle_at-index, object_at-entry}
use Rattle.ktm_object.proofs.NameOrder.{label_order}

-- ---- labels in order
-- the label is below each of these
abbrev IsLabelBelow : Label → List Label → Type 0
IsLabelBelow l [] = Unit {0}
IsLabelBelow l (m ∷ ms) = (l.0 < m.0) × IsLabelBelow l ms

with_label-above : (l m : Label) (ms : List Label) → l.0 < m.0 → IsLabelBelow l ms → IsLabelBelow l (with_label ms m)
with_label-above l m [] less below = (less, tt)
with_label-above l m (n ∷ ns) less below =
    elim (cases_Bool (ltb m.0 n.0)) [
      | inl lower ↦ rw lower ((less, below))
      | inr higher ↦ rw higher ((below.0, with_label-above l m ns less below.1))
    ]

with_label-least : (l : Label) (ms : List Label) → IsLabelBelow l ms → with_label ms l ≡ l ∷ ms
with_label-least l [] below = refl
with_label-least l (m ∷ ms) below = rw (lt-ltb l.0 m.0 below.0) refl

-- each label of the process is at least this one
abbrev IsLeast : Pid → Label → List (Item Handle) → Type 0
IsLeast process l [] = Unit {0}
IsLeast process l (x ∷ xs) = (is_of_process process x.value ≡ true → l.0 ≤ x.value.label.0) × IsLeast process l xs

-- the name begins with the process
begins_process : (process : Pid) (e : Handle) → is_of_process process e ≡ true → Begins (process.0 ∷ []) (label_name e)
begins_process process e of_process =
    record { after = e.label.0 / 256 ∷ e.label.0 % 256 ∷ []; is = rw (eqb-true e.process.0 process.0 of_process) refl }

process_from : (process : Pid) (e : Handle) → Begins (process.0 ∷ []) (label_name e) → e.process ≡ process
process_from process e begins =
    let is = begins.is in
    let same : e.process.0 ≡ process.0 = cc in
    let P : ℕ → Pid = λ n. record { 0 = n } in
    ap P same

-- where a label of the process is under the first of its names, it is the least
least_from : (named : List (NamedItem Key)) (process : Pid) (l : Label) (key : Key) → (f : IsFirstUnder (Begins (process.0 ∷ [])) named key)
    → f.name ≡ label_bytes process l → (xs : List (Item Handle)) → AreNamed label_name named xs → IsLeast process l xs
least_from named process l key f is [] all = tt
least_from named process l key f is (x ∷ xs) all = (
  λ of_process.
      let process_is = process_from process x.value (begins_process process x.value of_process) in
      let not_below = f.first (label_name x.value) (begins_process process x.value of_process) (rw all.0 refl) in
      let P : List ℕ → Type 0 = λ q. IsNotBelow q f.name in
      let Q : List ℕ → Type 0 = λ q. IsNotBelow (label_bytes process x.value.label) q in
      label_order process x.value.label l (subst Q is (subst P (ap (λ p. label_bytes p x.value.label) process_is) not_below)),
  least_from named process l key f is xs all.1,
)

-- two labels of a process are apart
apart : (process : Pid) (l : Label) (e : Handle) → is_handle process l e ≡ false → is_of_process process e ≡ true → l.0 ≤ e.label.0
    → l.0 < e.label.0
apart process l e differs of_process least =
    elim (cases_lt l.0 e.label.0) [
      | inl less ↦ less
      | inr reached ↦
          let same : e.label.0 ≡ l.0 = omega arith in
          absurd
          (let here = and_from (eqb e.process.0 process.0) (eqb e.label.0 l.0) of_process (eq-eqb e.label.0 l.0 same) in cc)
    ]

labels_below : (process : Pid) (l : Label) (key : Key) (xs : List (Item Handle)) → TellsKey process l key xs → IsLeast process l xs → value_at xs key ≡ None
    → IsLabelBelow l (labels_of (values_of xs) process)
labels_below process l key [] told least none = tt
labels_below process l key (x ∷ xs) told least none =
    elim (cases_Bool (same_key x.key key)) [
      | inl same ↦ absurd (let some = rw same at none in cc)
      | inr other ↦
          let rest = labels_below process l key xs told.1 least.1 (rw other at none) in
          elim (cases_Bool (is_of_process process x.value)) [
            | inl of_process ↦
                rw of_process
                (with_label-above l x.value.label (labels_of (values_of xs) process)
                (apart process l x.value (told.0 ∙ other) of_process (least.0 of_process)) rest)
            | inr others ↦ rw others rest
          ]
    ]

-- the least label comes first, and the others after it
labels_least : (process : Pid) (l : Label) (key : Key) (xs : List (Item Handle)) → TellsKey process l key xs → IsLeast process l xs → AreDistinct xs
    → is_some (value_at xs key) ≡ true
    → labels_of (values_of xs) process ≡ l ∷ labels_of (values_of (without xs key)) process
labels_least process l key [] told least distinct some = absurd (cc)
labels_least process l key (x ∷ xs) told least distinct some =
    elim (cases_Bool (same_key x.key key)) [
      | inl same ↦
          let parts = and_parts (eqb x.value.process.0 process.0) (eqb x.value.label.0 l.0) (told.0 ∙ same) in
          let P : ℕ → Label = λ n. record { 0 = n } in
          let label_is : x.value.label ≡ l = ap P (eqb-true x.value.label.0 l.0 parts.1) in
          let none : value_at xs key ≡ None = ap (value_at xs) (sym (same_key-true x.key key same)) ∙ distinct.0 in
          rw (same, parts.0, label_is)
          (with_label-least l (labels_of (values_of xs) process) (labels_below process l key xs told.1 least.1 none))
      | inr other ↦
          let rest = labels_least process l key xs told.1 least.1 distinct.1 (rw other at some) in
          elim (cases_Bool (is_of_process process x.value)) [
            | inl of_process ↦
                let above = apart process l x.value (told.0 ∙ other) of_process (least.0 of_process) in
                let after : ltb x.value.label.0 l.0 ≡ false = le-ltb x.value.label.0 l.0 (omega arith) in
                rw (other, of_process, rest, after) refl
            | inr others ↦ rw (other, others) rest
          ]
    ]

-- what the first name of a process tells: the handle of the least label
pub record IsExit (es : List Handle) (process : Pid) (e : Handle) : Type 0 where
  pub object : Some e.object ≡ object_at es process e.label
  pub labels : labels_of es process ≡ e.label ∷ labels_of (without_handle es process e.label) process

pub exit : (items : List (Item Handle)) (named : List (NamedItem Key)) (process : Pid) (key : Key) (e : Handle) → IsIndex label_name items named → AreDistinct items
    → IsFirstUnder (Begins (process.0 ∷ [])) named key → Some e ≡ value_at items key → IsExit (values_of items) process e
exit items named process key e index distinct f there =
    let at = index.only f.name key f.there in
    let entry : at.0 ≡ e = same_Some at.0 e (sym at.1 ∙ sym there) in
    let name : label_name e ≡ f.name = ap label_name (sym entry) ∙ at.2 in
    let begins : Begins (process.0 ∷ []) (label_name e) = rw name f.so in
    let name_is : f.name ≡ label_bytes process e.label = sym name ∙ ap (λ p. label_bytes p e.label) (process_from process e begins) in
    let under : key_under named (label_bytes process e.label) ≡ Some key = ap (key_under named) (sym name_is) ∙ f.there in
    let kept =
    values_of-without items (without items key) named process e.label key index under refl (value_at-gone items key distinct) in
    let least =
    labels_least process e.label key items (tells items named process e.label key index under items index.all)
    (least_from named process e.label key f name_is items index.all) distinct (rw (← there) refl) in
    record {
      object =
          ap (λ o. option_map (λ (e : Handle). e.object) o) (there ∙ handle_at-index items named process e.label key index (sym under))
          ∙ object_at-entry (values_of items) process e.label;
      labels =
          least
          ∙ ap (λ hs. e.label ∷ labels_of hs process)
          kept;
    }

-- a process with no name has no label
pub no_labels : (named : List (NamedItem Key)) (process : Pid) (xs : List (Item Handle)) → IsNoneUnder (Begins (process.0 ∷ [])) named → AreNamed label_name named xs
    → labels_of (values_of xs) process ≡ []
no_labels named process [] none all = refl
no_labels named process (x ∷ xs) none all =
    elim (cases_Bool (is_of_process process x.value)) [
      | inl of_process ↦ absurd (let nothing = none (label_name x.value) (begins_process process x.value of_process) in let some = all.0 in cc)
      | inr others ↦ rw others (no_labels named process xs none all.1)
    ]
