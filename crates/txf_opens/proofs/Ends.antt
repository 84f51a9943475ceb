-- Lemmas on the open files of one transaction.
use Rattle.std.proofs.Common.{◌≡◌, ℕ, ◌+◌, ◌≤◌, ◌<◌, ◌==◌, ◌&&◌, Bool, true, false, not, eqb, List, [], ◌∷◌, count_by, length, filter, Option, Some, refl, sym, ap, ◌∙◌, inl, inr, arith}
use Rattle.std.specs.List.{list_any}
use Rattle.std.proofs.lemmas.Bool.{cases_Bool, and_parts, or_parts, eqb-true, eq-eqb, not-false}
use Rattle.std.proofs.lemmas.Option.{same_Some}
use Rattle.ktm_base.specs.declared.id.Id.{Id}
use Rattle.ktm_world.specs.Conflicts.{same_group}
use Rattle.ktm_world.specs.Files.{OpenFile}
use Rattle.ktm_world.specs.Transactions.{is_of}
use Rattle.ktm_links.specs.declared.list.Key.{Key}
use Rattle.ktm_links.specs.Items.{Item, value_at}
use Rattle.ktm_links.specs.Mapped.{NamedItem, Begins}
use Rattle.ktm_links.specs.Indexed.{AreDistinct, IsFirstUnder, IsNoneUnder}
use Rattle.txf_opens.specs.declared.file.OpenFile.{OpenFile as Kept}
use Rattle.txf_opens.specs.Indexed.{is_any, opens_of, IsIndex, IsNumberOf}
use Rattle.txf_opens.specs.Names.{group_bytes, group_name, number_name}
use Rattle.txf_opens.specs.Acts.{open_of}
use Rattle.txf_opens.specs.OpensState.{is_not_of, is_other_number, is_own}
use Rattle.txf_opens.proofs.Adding.{one_number}
use Rattle.txf_opens.proofs.Bytes.{begins_group, group_begins, is_of-group, same_group-true}
use Rattle.txf_opens.proofs.Found.{found_at}
use Rattle.txf_opens.proofs.Listed.{any_from, count_cons, count_no, count_yes, count-there, none_passes}

group_of : (id : Id) (other : Option Id) → is_of id other ≡ true → same_group other (Some id) ≡ true
group_of id other same =
    let is : Some id ≡ other = same_group-true (Some id) other (sym (is_of-group id other) ∙ same) in
    ap (λ g. same_group g (Some id)) (sym is) ∙ (ap (same_group (Some id)) is ∙ sym (is_of-group id other) ∙ same)

of_group : (id : Id) (other : Option Id) → same_group other (Some id) ≡ true → is_of id other ≡ true
of_group id other same =
    let is : other ≡ Some id = same_group-true other (Some id) same in
    is_of-group id other ∙ ap (λ g. same_group g other) (sym is) ∙ (ap (same_group other) is ∙ same)

-- where no name begins with the transaction, no file is open in it
pub none_of_it : (items : List (Item Kept)) (groups : List (NamedItem Key)) (id : Id) → IsIndex is_any group_name items groups → AreDistinct items
    → IsNoneUnder (Begins (group_bytes (Some id) [])) groups → list_any (λ o. is_of id o.transaction) (opens_of items) ≡ false
none_of_it items groups id index distinct none =
    none_passes (λ o. is_of id o.transaction) items distinct (λ key e there so.
    let under = index.all key e there refl in
    let nothing = none (group_name (open_of e)) (begins_group (Some id) (open_of e) (group_of id e.transaction so)) in
    absurd (cc))

-- the file under the first name that begins with the transaction
pub number_of_it : (items : List (Item Kept)) (numbers groups : List (NamedItem Key)) (id : Id) (key : Key) (file : Kept) → IsIndex is_any number_name items numbers
    → IsIndex is_any group_name items groups → AreDistinct items → IsFirstUnder (Begins (group_bytes (Some id) [])) groups key → value_at items key ≡ Some file
    → IsNumberOf (opens_of items) id file.number
number_of_it items numbers groups id key file by_number by_group distinct first there =
    let at = found_at is_any group_name items groups first.name key file by_group first.there there in
    let own : is_of id file.transaction ≡ true = of_group id file.transaction (group_begins (Some id) (open_of file) (rw at.is first.so)) in
    record {
      there = any_from (λ o. o.number == file.number) items key file there (eq-eqb file.number file.number refl);
      own = none_passes (λ o. o.number == file.number && not (is_of id o.transaction)) items distinct (λ k e e_there so.
          let parts = and_parts (eqb e.number file.number) (not (is_of id e.transaction)) so in
          let same_key : k ≡ key = one_number items numbers key file by_number there k e e_there (eqb-true e.number file.number parts.0) in
          let same : e ≡ file = same_Some e file (sym e_there ∙ ap (value_at items) same_key ∙ there) in
          let is : is_of id e.transaction ≡ true = ap (λ (f : Kept). is_of id f.transaction) same ∙ own in
          absurd (let no : not (is_of id e.transaction) ≡ false = ap not is in cc));
      once =
          count-there (λ o. o.number == file.number) items key file distinct (λ k e e_there so.
          one_number items numbers key file by_number there k e e_there (eqb-true e.number file.number so)) there (eq-eqb file.number file.number refl);
    }

-- to close a file of the transaction leaves those that are not of it
pub filter-closed : (id : Id) (n : ℕ) (os : List OpenFile) → list_any (λ o. o.number == n && not (is_of id o.transaction)) os ≡ false
    → filter (is_not_of id) (filter (is_other_number n) os) ≡ filter (is_not_of id) os
filter-closed id n [] own = refl
filter-closed id n (o ∷ os) own =
    let parts = or_parts (eqb o.number n && not (is_of id o.transaction)) (list_any (λ o. o.number == n && not (is_of id o.transaction)) os) own in
    let rest = filter-closed id n os parts.1 in
    elim (cases_Bool (eqb o.number n)) [
      | inl same ↦
          let gone : not (is_of id o.transaction) ≡ false = rw same at parts.0 in
          rw (same, gone) rest
      | inr other ↦
          rw other
          (elim (cases_Bool (not (is_of id o.transaction))) [
            | inl kept ↦ rw kept (ap (λ l. o ∷ l) rest)
            | inr gone ↦ rw gone rest
          ])
    ]

-- with a file of the transaction one fewer is left of it
pub count-closed : (id : Id) (n : ℕ) (os : List OpenFile) → list_any (λ o. o.number == n && not (is_of id o.transaction)) os ≡ false
    → count_by (is_own id) (filter (is_other_number n) os) + count_by (λ o. o.number == n) os ≡ count_by (is_own id) os
count-closed id n [] own = refl
count-closed id n (o ∷ os) own =
    let parts = or_parts (eqb o.number n && not (is_of id o.transaction)) (list_any (λ o. o.number == n && not (is_of id o.transaction)) os) own in
    let rest = count-closed id n os parts.1 in
    elim (cases_Bool (eqb o.number n)) [
      | inl same ↦
          let gone : filter (is_other_number n) (o ∷ os) ≡ filter (is_other_number n) os = rw same refl in
          let is : is_of id o.transaction ≡ true = not-false (is_of id o.transaction) (rw same at parts.0) in
          omega (arith, rest, ap (count_by (is_own id)) gone, count_yes (is_own id) o os is, count_yes (λ o. o.number == n) o os same)
      | inr other ↦
          let stays : filter (is_other_number n) (o ∷ os) ≡ o ∷ filter (is_other_number n) os = rw other refl in
          omega (
            arith,
            rest,
            ap (count_by (is_own id)) stays,
            count_cons (is_own id) o os,
            count_cons (is_own id) o (filter (is_other_number n) os),
            count_no (λ o. o.number == n) o os other,
          )
    ]

length-filter : (p : OpenFile → Bool) (os : List OpenFile) → length (filter p os) ≤ length os
length-filter p [] = omega arith
length-filter p (o ∷ os) =
    let rest = length-filter p os in
    elim (cases_Bool (p o)) [ inl so ↦ rw so (omega (arith, rest)) | inr not_so ↦ rw not_so (omega (arith, rest)) ]

-- once one that is open ends, fewer are open
pub fewer_open : (n : ℕ) (os : List OpenFile) → list_any (λ o. o.number == n) os ≡ true → length (filter (is_other_number n) os) < length os
fewer_open n [] there = absurd (cc)
fewer_open n (o ∷ os) there =
    elim (cases_Bool (eqb o.number n)) [
      | inl same ↦ rw same (let rest = length-filter (is_other_number n) os in omega (arith, rest))
      | inr other ↦ rw other (let rest = fewer_open n os (rw other at there) in omega (arith, rest))
    ]
