-- Lemmas on maps from names to the keys of open files.
use Rattle.std.proofs.Common.{◌≡◌, ℕ, ◌==◌, Bool, true, false, List, [], Some, None, refl, sym, ap, ◌∙◌}
use Rattle.std.specs.Bool.{MatchBool}
use Rattle.std.specs.List.{find, list_any}
use Rattle.std.specs.Option.{option_map}
use Rattle.std.proofs.lemmas.Bool.{eqb-true, eq-eqb}
use Rattle.std.proofs.lemmas.Option.{same_Some}
use Rattle.ktm_world.specs.Files.{OpenFile}
use Rattle.ktm_links.specs.declared.list.Key.{Key}
use Rattle.ktm_links.specs.Items.{Item, value_at}
use Rattle.ktm_links.specs.Mapped.{NamedItem, Begins, key_under}
use Rattle.ktm_links.specs.Indexed.{AreDistinct, IsNoneUnder}
use Rattle.txf_opens.specs.declared.file.OpenFile.{OpenFile as Kept}
use Rattle.txf_opens.specs.Indexed.{is_any, opens_of, HasUnder, IsIndex}
use Rattle.txf_opens.specs.Acts.{open_of}
use Rattle.ktm_links.specs.Numbers.{number_bytes}
use Rattle.txf_opens.specs.Names.{number_name}
use Rattle.txf_opens.proofs.Bytes.{number_tells}
use Rattle.txf_opens.proofs.Listed.{any_from, find-none, find-there, none_passes, IsOnly}

-- the open file that a name finds
pub record IsFound (has : OpenFile → Bool) (name : OpenFile → List ℕ) (q : List ℕ) (file : Kept) : Type 0 where
  pub so : has (open_of file) ≡ true
  pub is : name (open_of file) ≡ q

pub found_at : (has : OpenFile → Bool) (name : OpenFile → List ℕ) (items : List (Item Kept)) (named : List (NamedItem Key)) (q : List ℕ) (key : Key) (file : Kept)
    → IsIndex has name items named → key_under named q ≡ Some key → value_at items key ≡ Some file → IsFound has name q file
found_at has name items named q key file index under there =
    let at = index.only q key under in
    let same : file ≡ at.file = same_Some file at.file (sym there ∙ at.there) in
    record { so = ap (λ (k : Kept). has (open_of k)) same ∙ at.so; is = ap (λ (k : Kept). name (open_of k)) same ∙ at.is }

-- open files with one name have one key
pub one_key : (has : OpenFile → Bool) (name : OpenFile → List ℕ) (items : List (Item Kept)) (named : List (NamedItem Key)) (a b : Key) (x y : Kept) → IsIndex has name items named
    → value_at items a ≡ Some x → value_at items b ≡ Some y → has (open_of x) ≡ true → has (open_of y) ≡ true → name (open_of x) ≡ name (open_of y) → a ≡ b
one_key has name items named a b x y index x_there y_there x_so y_so same =
    same_Some a b (sym (index.all a x x_there x_so) ∙ ap (key_under named) same ∙ index.all b y y_there y_so)

-- a name that begins so is there exactly where an open file passes the test, if the test tells by the name
module _ (has : OpenFile → Bool) (name : OpenFile → List ℕ) (items : List (Item Kept)) (named : List (NamedItem Key)) (index : IsIndex has name items named) (distinct : AreDistinct items) where
  pub any_under : (p : OpenFile → Bool) (prefix : List ℕ) (b : Bool) → MatchBool b (HasUnder (Begins prefix) named) (IsNoneUnder (Begins prefix) named)
      → ((o : OpenFile) → has o ≡ true → Begins prefix (name o) → p o ≡ true) → ((o : OpenFile) → p o ≡ true → has o ≡ true) → ((o : OpenFile) → p o ≡ true → Begins prefix (name o))
      → b ≡ list_any p (opens_of items)
  any_under p prefix true told passes is_so begins =
      let first = told.1 in
      let at = index.only first.name told.0 first.there in
      let P : List ℕ → Type 0 = Begins prefix in
      sym (any_from p items told.0 at.file at.there (passes (open_of at.file) at.so (rw at.is first.so)))
  any_under p prefix false told passes is_so begins =
      sym (none_passes p items distinct (λ key e there so.
      let under = index.all key e there (is_so (open_of e) so) in
      let none = told (name (open_of e)) (begins (open_of e) so) in
      absurd (cc)))

-- ---- by number
module _ (items : List (Item Kept)) (named : List (NamedItem Key)) (number : ℕ) (index : IsIndex is_any number_name items named) (distinct : AreDistinct items) where
  pub only_number : (key : Key) → key_under named (number_bytes number []) ≡ Some key → IsOnly (λ o. o.number == number) items key
  only_number key under = λ k e there so.
      same_Some k key (sym (index.all k e there refl) ∙ ap (λ n. key_under named (number_bytes n [])) (eqb-true e.number number so) ∙ under)

  -- the file that the map finds is the one with the number
  pub find_by_number : (key : Key) → Some key ≡ key_under named (number_bytes number [])
      → option_map open_of (value_at items key) ≡ find (λ o. o.number == number) (opens_of items)
  find_by_number key under =
      let at = index.only (number_bytes number []) key (sym under) in
      let same : at.file.number ≡ number = number_tells at.file.number number [] [] at.is in
      ap (option_map open_of) at.there
      ∙ sym (find-there (λ o. o.number == number) items key at.file distinct (only_number key (sym under)) at.there (eq-eqb at.file.number number same))

  pub none_with_number : None ≡ key_under named (number_bytes number []) → list_any (λ o. o.number == number) (opens_of items) ≡ false
  none_with_number none =
      none_passes (λ o. o.number == number) items distinct (λ key e there so.
      let under = index.all key e there refl in
      let gone : key_under named (number_name (open_of e)) ≡ None = ap (λ n. key_under named (number_bytes n [])) (eqb-true e.number number so) ∙ sym none in
      absurd (cc))

  pub none_by_number : None ≡ key_under named (number_bytes number []) → None ≡ find (λ o. o.number == number) (opens_of items)
  none_by_number none = sym (find-none (λ o. o.number == number) (opens_of items) (none_with_number none))

-- the file that the map finds has the number
pub number-found : (items : List (Item Kept)) (named : List (NamedItem Key)) (number : ℕ) (key : Key) (file : Kept) → IsIndex is_any number_name items named
    → Some key ≡ key_under named (number_bytes number []) → value_at items key ≡ Some file → file.number ≡ number
number-found items named number key file index under there =
    number_tells file.number number [] [] (found_at is_any number_name items named (number_bytes number []) key file index (sym under) there).is
