-- Lemmas on one open file more, and one less.
use Rattle.std.proofs.Common.{◌≡◌, ℕ, ◌+◌, ◌≤◌, ◌<◌, Bool, List, Some, None, refl, sym, ap, ◌∙◌, inl, inr, arith}
use Rattle.std.proofs.lemmas.Bool.{cases_Bool}
use Rattle.std.proofs.lemmas.Option.{same_Some}
use Rattle.ktm_world.specs.Files.{OpenFile}
use Rattle.ktm_links.specs.declared.list.Key.{Key}
use Rattle.ktm_links.specs.Items.{Item, value_at}
use Rattle.ktm_links.specs.Mapped.{NamedItem, key_under}
use Rattle.txf_opens.specs.declared.file.OpenFile.{OpenFile as Kept}
use Rattle.txf_opens.specs.declared.uses.Uses.{Uses}
use Rattle.txf_opens.specs.Indexed.{is_any, is_denying_read, is_denying_write, is_reader, is_writer, Adds, AddsUse, AreUses, IsFree, IsIndex, Takes, TakesUse}
use Rattle.txf_opens.specs.Names.{number_name, use_name}
use Rattle.txf_opens.specs.Acts.{open_of}
use Rattle.txf_opens.proofs.Bytes.{use_name-tells}
use Rattle.ktm_links.proofs.offered.Comparing.{cases_name}
use Rattle.txf_opens.proofs.Found.{one_key}
use Rattle.ktm_links.proofs.offered.Indexes.{option_cases}
use Rattle.ktm_links.proofs.offered.Keys.{cases_key}

-- ---- one more
-- the open file has the key now, and each other key what it had
pub record IsMore (items new : List (Item Kept)) (key : Key) (e : Kept) : Type 0 where
  pub absent : value_at items key ≡ None
  pub named : value_at new key ≡ Some e
  pub others : (k : Key) → (k ≡ key → ⊥) → value_at new k ≡ value_at items k

pub IsIndex-add : (has : OpenFile → Bool) (name : OpenFile → List ℕ) (items new : List (Item Kept)) (named more : List (NamedItem Key)) (key : Key) (e : Kept)
    → IsIndex has name items named → IsMore items new key e → key_under named (name (open_of e)) ≡ None → Adds (has (open_of e)) (name (open_of e)) key named more
    → IsIndex has name new more
IsIndex-add has name items new named more key e index is free adds = record {
  all = λ k v there so. elim (cases_key k key) [
    | inl this ↦
        let value : e ≡ v = same_Some e v (sym is.named ∙ ap (value_at new) (sym this) ∙ there) in
        ap (λ (f : Kept). key_under more (name (open_of f))) (sym value)
        ∙ adds.so (ap (λ (f : Kept). has (open_of f)) value ∙ so)
        ∙ ap Some (sym this)
    | inr differs ↦
        let under = index.all k v (sym (is.others k differs) ∙ there) so in
        adds.others (name (open_of v)) (λ same. absurd (let none = ap (key_under named) same ∙ free in cc)) ∙ under
  ];
  only = λ q k found. elim (cases_name q (name (open_of e))) [
    | inl this ↦
        elim (cases_Bool (has (open_of e))) [
          | inl so ↦
              let key_is : key ≡ k = same_Some key k (sym (adds.so so) ∙ ap (key_under more) (sym this) ∙ found) in
              record { file = e; there = ap (value_at new) (sym key_is) ∙ is.named; so = so; is = sym this }
          | inr not_so ↦
              absurd (let none : key_under more q ≡ None = ap (key_under more) this ∙ adds.not_so not_so ∙ free in cc)
        ]
    | inr differs ↦
        let at = index.only q k (sym (adds.others q differs) ∙ found) in
        record {
          file = at.file;
          there = is.others k (λ same. absurd (let none : value_at items k ≡ None = ap (value_at items) same ∙ is.absent in let some = at.there in cc)) ∙ at.there;
          so = at.so;
          is = at.is;
        }
  ];
}

-- a number above all others gives a free name
pub free_name : (has : OpenFile → Bool) (name : OpenFile → List ℕ) (items : List (Item Kept)) (named : List (NamedItem Key)) (o : OpenFile) (last : ℕ) (q : List ℕ) → IsIndex has name items named
    → ((a b : OpenFile) → name a ≡ name b → a.number ≡ b.number) → ((key : Key) (file : Kept) → value_at items key ≡ Some file → file.number ≤ last)
    → last < o.number → q ≡ name o → key_under named q ≡ None
free_name has name items named o last q index tells below above is =
    elim (option_cases (key_under named q)) [
      | inl none ↦ none
      | inr some ↦
          let at = index.only q some.0 some.1 in
          let number : at.file.number ≡ o.number = tells (open_of at.file) o (at.is ∙ is) in
          let low = below some.0 at.file at.there in
          absurd (omega arith)
    ]

pub AreUses-add : (items new : List (Item Kept)) (old more : Uses) (key : Key) (e : Kept) → AreUses items old → IsMore items new key e → IsFree (use_name (open_of e)) old
    → AddsUse (open_of e) key old more → AreUses new more
AreUses-add items new old more key e uses is free adds = record {
  readers = IsIndex-add is_reader use_name items new _ _ key e uses.readers is free.readers adds.readers;
  writers = IsIndex-add is_writer use_name items new _ _ key e uses.writers is free.writers adds.writers;
  deny_read = IsIndex-add is_denying_read use_name items new _ _ key e uses.deny_read is free.deny_read adds.deny_read;
  deny_write = IsIndex-add is_denying_write use_name items new _ _ key e uses.deny_write is free.deny_write adds.deny_write;
}

pub free_uses : (items : List (Item Kept)) (uses : Uses) (o : OpenFile) (last : ℕ) → AreUses items uses → ((key : Key) (file : Kept) → value_at items key ≡ Some file → file.number ≤ last)
    → last < o.number → IsFree (use_name o) uses
free_uses items uses o last are below above = record {
  readers = free_name is_reader use_name items _ o last _ are.readers use_name-tells below above refl;
  writers = free_name is_writer use_name items _ o last _ are.writers use_name-tells below above refl;
  deny_read = free_name is_denying_read use_name items _ o last _ are.deny_read use_name-tells below above refl;
  deny_write = free_name is_denying_write use_name items _ o last _ are.deny_write use_name-tells below above refl;
}

pub below_add : (items new : List (Item Kept)) (key : Key) (e : Kept) (last : ℕ) → IsMore items new key e → ((k : Key) (f : Kept) → value_at items k ≡ Some f → f.number ≤ last)
    → e.number ≡ last + 1 → (k : Key) (f : Kept) → value_at new k ≡ Some f → f.number ≤ last + 1
below_add items new key e last is below number k f there =
    elim (cases_key k key) [
      | inl this ↦
          let value : e ≡ f = same_Some e f (sym is.named ∙ ap (value_at new) (sym this) ∙ there) in
          let same : e.number ≡ f.number = ap (λ (x : Kept). x.number) value in
          omega arith
      | inr differs ↦ let low = below k f (sym (is.others k differs) ∙ there) in omega (arith, low)
    ]

-- ---- one less
-- the open file of the key is gone, and each other key has what it had
pub record IsLess (items new : List (Item Kept)) (key : Key) (e : Kept) : Type 0 where
  pub there : value_at items key ≡ Some e
  pub gone : value_at new key ≡ None
  pub others : (k : Key) → (k ≡ key → ⊥) → value_at new k ≡ value_at items k

-- what is there without it was there with it
pub was_there : (items new : List (Item Kept)) (key : Key) (e : Kept) (k : Key) (f : Kept) → IsLess items new key e → value_at new k ≡ Some f → value_at items k ≡ Some f
was_there items new key e k f is there =
    elim (cases_key k key) [
      | inl this ↦ absurd (let none : value_at new k ≡ None = ap (value_at new) this ∙ is.gone in cc)
      | inr differs ↦ sym (is.others k differs) ∙ there
    ]

pub IsIndex-take : (has : OpenFile → Bool) (name : OpenFile → List ℕ) (items new : List (Item Kept)) (named less : List (NamedItem Key)) (key : Key) (e : Kept) (q : List ℕ)
    → IsIndex has name items named → IsLess items new key e → ((k : Key) (f : Kept) → value_at items k ≡ Some f → f.number ≡ e.number → k ≡ key)
    → ((a b : OpenFile) → name a ≡ name b → a.number ≡ b.number) → q ≡ name (open_of e) → Takes q named less → IsIndex has name new less
IsIndex-take has name items new named less key e q index is one tells name_is takes = record {
  all = λ k v there so. elim (cases_key k key) [
    | inl this ↦ absurd (let none : value_at new k ≡ None = ap (value_at new) this ∙ is.gone in cc)
    | inr differs ↦
        let was = sym (is.others k differs) ∙ there in
        takes.others (name (open_of v)) (λ same. differs (one k v was (tells (open_of v) (open_of e) (same ∙ name_is)))) ∙ index.all k v was so
  ];
  only = λ p k found. elim (cases_name p q) [
    | inl this ↦ absurd (let none : key_under less p ≡ None = ap (key_under less) this ∙ takes.gone in cc)
    | inr differs ↦
        let at = index.only p k (sym (takes.others p differs) ∙ found) in
        record {
          file = at.file;
          there =
              is.others k (λ same.
              let value : at.file ≡ e = same_Some at.file e (sym at.there ∙ ap (value_at items) same ∙ is.there) in
              differs (sym at.is ∙ ap (λ (f : Kept). name (open_of f)) value ∙ sym name_is))
              ∙ at.there;
          so = at.so;
          is = at.is;
        }
  ];
}

pub AreUses-take : (items new : List (Item Kept)) (old less : Uses) (key : Key) (e : Kept) (q : List ℕ) → AreUses items old → IsLess items new key e
    → ((k : Key) (f : Kept) → value_at items k ≡ Some f → f.number ≡ e.number → k ≡ key) → q ≡ use_name (open_of e) → TakesUse q old less → AreUses new less
AreUses-take items new old less key e q uses is one name_is takes = record {
  readers = IsIndex-take is_reader use_name items new _ _ key e q uses.readers is one use_name-tells name_is takes.readers;
  writers = IsIndex-take is_writer use_name items new _ _ key e q uses.writers is one use_name-tells name_is takes.writers;
  deny_read = IsIndex-take is_denying_read use_name items new _ _ key e q uses.deny_read is one use_name-tells name_is takes.deny_read;
  deny_write = IsIndex-take is_denying_write use_name items new _ _ key e q uses.deny_write is one use_name-tells name_is takes.deny_write;
}

-- the open file with its number has its key alone
pub one_number : (items : List (Item Kept)) (named : List (NamedItem Key)) (key : Key) (e : Kept) → IsIndex is_any number_name items named → value_at items key ≡ Some e
    → (k : Key) (f : Kept) → value_at items k ≡ Some f → f.number ≡ e.number → k ≡ key
one_number items named key e index there k f f_there same =
    one_key is_any number_name items named k key f e index f_there there refl refl (rw same refl)
