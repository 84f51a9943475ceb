-- Lemmas on the files that are written, as the entries of a map.
use Rattle.std.proofs.Common.{◌≡◌, ℕ, ◌+◌, ◌^◌, ◌<◌, ◌≤◌, ◌==◌, true, false, not, List, [], ◌∷◌, ◌++◌, ◌||◌, suc, length, is_some, Option, Some, None, refl, sym, ap, ◌∙◌, inl, inr, arith}
use Rattle.std.specs.Prelude.{nat_lt}
use Rattle.std.specs.Option.{option_map}
use Rattle.std.specs.Ordering.{is_eq, is_lt}
use Rattle.std.proofs.lemmas.Bool.{cases_lt, cases_order, cases_Bool, lt-ltb, le-ltb, eq-eqb, ne_eqb, eqb-true, eqb-false, ltb-true, ltb-false, or_right}
use Rattle.std.proofs.lemmas.List.{append-nil}
use Rattle.std.proofs.lemmas.List.Sums.{sum_by-cons}
use Rattle.std.proofs.lemmas.Option.{same_Some}
use Rattle.ktm_links.specs.declared.list.Key.{Key}
use Rattle.ktm_links.specs.Mapped.{NamedItem, name_cmp, first_from as entries_from, key_at, put, with_value, without_name}
use Rattle.ktm_world.specs.declared.change.Change.{Change}
use Rattle.ktm_world.specs.Changes.{has_changes}
use Rattle.ktm_world.specs.Committed.{final_bytes}
use Rattle.ktm_world.specs.Tree.{units_of}
use Rattle.std.specs.List.{flat_map}
use Rattle.txf_overlay.specs.Files.{AreCounted, AreFiles, files_in, IsFilesMap}
use Rattle.txf_overlay.specs.Written.{AreOver, AreFilesRising, bytes_at, bytes_or, file_of, first_from, with_bytes, with_file, without_file, total_units, units_in}
use Rattle.txf_overlay.specs.Maps.{under, IsSet}
use Rattle.txf_overlay.specs.Pages.{LieOnPages}
use Rattle.txf_tree.specs.Places.{number_bytes}
use Rattle.txf_overlay.specs.OverlayState.{Written, final_of}
use Rattle.txf_overlay.proofs.Entries.{at-none, key_at-free, without-absent}
use Rattle.txf_overlay.proofs.Pages.{lie-with, lie-without}
use Rattle.txf_overlay.proofs.Numbers.{name_cmp-numbers, cmp-less, cmp-same, cmp-more}

-- how the name of an entry stands to that of a number
same-name : (a b : ℕ) → a < 2 ^ 64 → b < 2 ^ 64 → is_eq (name_cmp (number_bytes a) (number_bytes b)) ≡ (a == b)
same-name a b a_small b_small = elim (cases_order a b) [
  | inl same ↦ rw (name_cmp-numbers a b, cmp-same a b same, eq-eqb a b same) refl
  | inr (inl less) ↦ rw (name_cmp-numbers a b, cmp-less a b less, ne_eqb a b (λ same. omega arith)) refl
  | inr (inr more) ↦ rw (name_cmp-numbers a b, cmp-more a b more, ne_eqb a b (λ same. omega arith)) refl
]

lower-name : (a b : ℕ) → a < 2 ^ 64 → b < 2 ^ 64 → is_lt (name_cmp (number_bytes a) (number_bytes b)) ≡ nat_lt a b
lower-name a b a_small b_small = elim (cases_order a b) [
  | inl same ↦ rw (name_cmp-numbers a b, cmp-same a b same, le-ltb a b (omega arith)) refl
  | inr (inl less) ↦ rw (name_cmp-numbers a b, cmp-less a b less, lt-ltb a b less) refl
  | inr (inr more) ↦ rw (name_cmp-numbers a b, cmp-more a b more, le-ltb a b (omega arith)) refl
]

-- the bytes that a number finds
pub bytes_at-under : (es : List (NamedItem Written)) (file : ℕ) → AreFiles es → file < 2 ^ 64
    → option_map (λ w. w.bytes) (under es (number_bytes file)) ≡ bytes_at (files_in es) file
bytes_at-under [] file are small = refl
bytes_at-under (e ∷ es) file are small =
    let test : is_eq (name_cmp e.name (number_bytes file)) ≡ (e.value.file == file) = rw are.0 (same-name e.value.file file are.1 small) in
    elim (cases_Bool (e.value.file == file)) [
      | inl this ↦ rw (test, this) refl
      | inr other ↦ rw (test, other) (bytes_at-under es file are.2 small)
    ]

pub under-bytes : (es : List (NamedItem Written)) (file : ℕ) → AreFiles es → file < 2 ^ 64
    → under es (number_bytes file) ≡ option_map (file_of file) (bytes_at (files_in es) file)
under-bytes [] file are small = refl
under-bytes (e ∷ es) file are small =
    let test : is_eq (name_cmp e.name (number_bytes file)) ≡ (e.value.file == file) = rw are.0 (same-name e.value.file file are.1 small) in
    elim (cases_Bool (e.value.file == file)) [
      | inl this ↦ let number : e.value.file ≡ file = eqb-true e.value.file file this in rw (test, this) (λ i. Some (file_of (number i) e.value.bytes))
      | inr other ↦ rw (test, other) (under-bytes es file are.2 small)
    ]

-- ---- without one of them

without-over : (es : List (NamedItem Written)) (file n : ℕ) → AreFiles es → AreOver n (files_in es) → file ≤ n → file < 2 ^ 64
    → (without_name es (number_bytes file) ≡ es) × (without_file (files_in es) file ≡ files_in es)
without-over [] file n are over low small = (refl, refl)
without-over (e ∷ es) file n are over low small =
    let differs : (e.value.file == file) ≡ false = ne_eqb e.value.file file (λ same. omega (arith, over.0)) in
    let test : is_eq (name_cmp e.name (number_bytes file)) ≡ false = rw are.0 (same-name e.value.file file are.1 small ∙ differs) in
    let rest = without-over es file n are.2 over.1 low small in
    (rw test (ap (λ l. e ∷ l) rest.0), rw differs (ap (λ l. e.value ∷ l) rest.1))

pub files-without : (es : List (NamedItem Written)) (file : ℕ) → IsFilesMap es → file < 2 ^ 64 → files_in (without_name es (number_bytes file)) ≡ without_file (files_in es) file
files-without [] file is small = refl
files-without (e ∷ es) file is small =
    let test : is_eq (name_cmp e.name (number_bytes file)) ≡ (e.value.file == file) = rw is.are.0 (same-name e.value.file file is.are.1 small) in
    elim (cases_Bool (e.value.file == file)) [
      | inl this ↦
          let same : e.value.file ≡ file = eqb-true e.value.file file this in
          rw (test, this) (sym (without-over es file e.value.file is.are.2 is.rise.0 (omega arith) small).1)
      | inr other ↦ rw (test, other) (ap (λ l. e.value ∷ l) (files-without es file (record { are = is.are.2; rise = is.rise.1 }) small))
    ]

AreFiles-without : (es : List (NamedItem Written)) (name : List ℕ) → AreFiles es → AreFiles (without_name es name)
AreFiles-without [] name are = tt
AreFiles-without (e ∷ es) name are = elim (cases_Bool (is_eq (name_cmp e.name name))) [
  | inl this ↦ rw this are.2
  | inr other ↦ rw other (are.0, are.1, AreFiles-without es name are.2)
]

AreOver-without : (ws : List Written) (file n : ℕ) → AreOver n ws → AreOver n (without_file ws file)
AreOver-without [] file n over = tt
AreOver-without (w ∷ ws) file n over = elim (cases_Bool (w.file == file)) [
  | inl this ↦ rw this (AreOver-without ws file n over.1)
  | inr other ↦ rw other (over.0, AreOver-without ws file n over.1)
]

pub AreFilesRising-without : (ws : List Written) (file : ℕ) → AreFilesRising ws → AreFilesRising (without_file ws file)
AreFilesRising-without [] file rise = tt
AreFilesRising-without (w ∷ ws) file rise = elim (cases_Bool (w.file == file)) [
  | inl this ↦ rw this (AreFilesRising-without ws file rise.1)
  | inr other ↦ rw other (AreOver-without ws file w.file rise.0, AreFilesRising-without ws file rise.1)
]

pub IsFilesMap-without : (es : List (NamedItem Written)) (file : ℕ) → IsFilesMap es → file < 2 ^ 64 → IsFilesMap (without_name es (number_bytes file))
IsFilesMap-without es file is small = record {
  are = AreFiles-without es (number_bytes file) is.are;
  rise = rw (files-without es file is small) (AreFilesRising-without (files_in es) file is.rise);
}

-- ---- one of them with other bytes

-- how an entry comes into the map
abbrev entry : Written → Key → NamedItem Written
entry w key = record { name = number_bytes w.file; key = key; value = w }

put-first : (es : List (NamedItem Written)) (w : Written) (key : Key) (n : ℕ) → AreFiles es → AreOver n (files_in es) → w.file ≤ n → w.file < 2 ^ 64
    → put es (entry w key) ≡ entry w key ∷ es
put-first [] w key n are over low small = refl
put-first (e ∷ es) w key n are over low small =
    let test : is_lt (name_cmp e.name (number_bytes w.file)) ≡ false =
    rw are.0 (lower-name e.value.file w.file are.1 small ∙ le-ltb e.value.file w.file (omega (arith, over.0))) in
    rw test refl

files-put : (es : List (NamedItem Written)) (w : Written) (key : Key) → AreFiles es → AreFilesRising (files_in es) → w.file < 2 ^ 64
    → files_in (put (without_name es (number_bytes w.file)) (entry w key)) ≡ with_bytes (files_in es) w.file w.bytes
files-put [] w key are rise small = refl
files-put (e ∷ es) w key are rise small =
    let eq : is_eq (name_cmp e.name (number_bytes w.file)) ≡ (e.value.file == w.file) = rw are.0 (same-name e.value.file w.file are.1 small) in
    let lt : is_lt (name_cmp e.name (number_bytes w.file)) ≡ nat_lt e.value.file w.file = rw are.0 (lower-name e.value.file w.file are.1 small) in
    elim (cases_order e.value.file w.file) [
      | inl same ↦
          rw (eq, eq-eqb e.value.file w.file same) (ap files_in (put-first es w key e.value.file are.2 rise.0 (omega arith) small))
      | inr (inl less) ↦
          rw (eq, ne_eqb e.value.file w.file (λ same. omega arith), lt, lt-ltb e.value.file w.file less, le-ltb w.file e.value.file (omega arith))
          (ap (λ l. e.value ∷ l) (files-put es w key are.2 rise.1 small))
      | inr (inr more) ↦
          rw (
            eq,
            ne_eqb e.value.file w.file (λ same. omega arith),
            (without-over es w.file e.value.file are.2 rise.0 (omega arith) small).0,
            lt,
            le-ltb e.value.file w.file (omega arith),
            lt-ltb w.file e.value.file more,
          ) refl
    ]

pub files-set : (old new : List (NamedItem Written)) (name : List ℕ) (w : Written) → IsFilesMap old → IsSet old new name w → name ≡ number_bytes w.file → w.file < 2 ^ 64
    → files_in new ≡ with_bytes (files_in old) w.file w.bytes
files-set old new name w is put_in name_is small =
    ap files_in (rw name_is at put_in.entries) ∙ files-put old w put_in.key is.are is.rise small

AreFiles-put : (es : List (NamedItem Written)) (w : Written) (key : Key) → AreFiles es → w.file < 2 ^ 64 → AreFiles (put es (entry w key))
AreFiles-put [] w key are small = (refl, small, tt)
AreFiles-put (e ∷ es) w key are small = elim (cases_Bool (is_lt (name_cmp e.name (number_bytes w.file)))) [
  | inl lower ↦ rw lower (are.0, are.1, AreFiles-put es w key are.2 small)
  | inr higher ↦ rw higher (refl, small, are)
]

AreOver-lower : (ws : List Written) (m n : ℕ) → m ≤ n → AreOver n ws → AreOver m ws
AreOver-lower [] m n low over = tt
AreOver-lower (w ∷ ws) m n low over = (omega (arith, over.0), AreOver-lower ws m n low over.1)

AreOver-with : (ws : List Written) (file : ℕ) (bytes : List ℕ) (n : ℕ) → AreOver n ws → n < file → AreOver n (with_bytes ws file bytes)
AreOver-with [] file bytes n over less = (less, tt)
AreOver-with (w ∷ ws) file bytes n over less = elim (cases_Bool (w.file == file)) [
  | inl this ↦ rw this (less, over.1)
  | inr other ↦ elim (cases_Bool (nat_lt file w.file)) [
    | inl before ↦ rw (other, before) (less, over)
    | inr behind ↦ rw (other, behind) (over.0, AreOver-with ws file bytes n over.1 less)
  ]
]

pub AreFilesRising-with : (ws : List Written) (file : ℕ) (bytes : List ℕ) → AreFilesRising ws → AreFilesRising (with_bytes ws file bytes)
AreFilesRising-with [] file bytes rise = (tt, tt)
AreFilesRising-with (w ∷ ws) file bytes rise = elim (cases_Bool (w.file == file)) [
  | inl this ↦ rw this (AreOver-lower ws file w.file (omega (arith, eqb-true w.file file this)) rise.0, rise.1)
  | inr other ↦ elim (cases_Bool (nat_lt file w.file)) [
    | inl before ↦
        let less = ltb-true file w.file before in
        rw (other, before) ((less, AreOver-lower ws file w.file (omega arith) rise.0), rise)
    | inr behind ↦
        rw (other, behind) (AreOver-with ws file bytes w.file rise.0 (omega (arith, ltb-false file w.file behind, eqb-false w.file file other)), AreFilesRising-with ws file bytes rise.1)
  ]
]

pub IsFilesMap-set : (old new : List (NamedItem Written)) (name : List ℕ) (w : Written) → IsFilesMap old → IsSet old new name w → name ≡ number_bytes w.file → w.file < 2 ^ 64
    → IsFilesMap new
IsFilesMap-set old new name w is put_in name_is small = record {
  are = rw (rw name_is at put_in.entries) (AreFiles-put (without_name old (number_bytes w.file)) w put_in.key (AreFiles-without old (number_bytes w.file) is.are) small);
  rise = rw (files-set old new name w is put_in name_is small) (AreFilesRising-with (files_in old) w.file w.bytes is.rise);
}

-- ---- how many units they take

-- the units of the file, if it is written
abbrev pub units_at : List Written → ℕ → ℕ
units_at ws file = units_of (bytes_or [] (bytes_at ws file))

pub bytes_at-over : (ws : List Written) (file n : ℕ) → AreOver n ws → file ≤ n → bytes_at ws file ≡ None
bytes_at-over [] file n over low = refl
bytes_at-over (w ∷ ws) file n over low = rw (ne_eqb w.file file (λ same. omega (arith, over.0))) (bytes_at-over ws file n over.1 low)

more : (w : Written) (ws : List Written) → total_units (w ∷ ws) ≡ units_in w + total_units ws
more w ws = sum_by-cons units_in w ws

pub units-with : (ws : List Written) (file : ℕ) (bytes : List ℕ) → AreFilesRising ws → total_units (with_bytes ws file bytes) + units_at ws file ≡ total_units ws + units_of bytes
units-with [] file bytes rise = omega (arith, more (record { file = file; bytes = bytes }) [])
units-with (w ∷ ws) file bytes rise = elim (cases_Bool (w.file == file)) [
  | inl this ↦ rw this (omega (arith, more w ws, more new ws))
  | inr other ↦ elim (cases_Bool (nat_lt file w.file)) [
    | inl before ↦
        let none : bytes_at ws file ≡ None = bytes_at-over ws file w.file rise.0 (omega (arith, ltb-true file w.file before)) in
        rw (other, before, none) (omega (arith, more new (w ∷ ws)))
    | inr behind ↦ rw (other, behind) (omega (arith, more w ws, more w (with_bytes ws file bytes), units-with ws file bytes rise.1))
  ]
]
  where
    new : Written
    new = record { file = file; bytes = bytes }

without_file-absent : (ws : List Written) (file n : ℕ) → AreOver n ws → file ≤ n → without_file ws file ≡ ws
without_file-absent [] file n over low = refl
without_file-absent (w ∷ ws) file n over low =
    rw (ne_eqb w.file file (λ same. omega (arith, over.0))) (ap (λ l. w ∷ l) (without_file-absent ws file n over.1 low))

pub units-without : (ws : List Written) (file : ℕ) → AreFilesRising ws → total_units (without_file ws file) + units_at ws file ≡ total_units ws
units-without [] file rise = omega arith
units-without (w ∷ ws) file rise = elim (cases_Bool (w.file == file)) [
  | inl this ↦
      let same : w.file ≡ file = eqb-true w.file file this in
      rw (this, without_file-absent ws file w.file rise.0 (omega arith)) (omega (arith, more w ws))
  | inr other ↦ rw other (omega (arith, more w ws, more w (without_file ws file), units-without ws file rise.1))
]

pub with_bytes-same : (ws : List Written) (file : ℕ) (bytes : List ℕ) → AreFilesRising ws → bytes_at ws file ≡ Some bytes → with_bytes ws file bytes ≡ ws
with_bytes-same [] file bytes rise is = absurd (cc)
with_bytes-same (w ∷ ws) file bytes rise is = elim (cases_Bool (w.file == file)) [
  | inl this ↦
      let number : file ≡ w.file = sym (eqb-true w.file file this) in
      let same : bytes ≡ w.bytes = sym (same_Some w.bytes bytes (rw this at is)) in
      rw this (λ i. record { file = number i; bytes = same i } ∷ ws)
  | inr other ↦ elim (cases_lt w.file file) [
    | inl behind ↦ rw (other, le-ltb file w.file (omega arith)) (ap (λ l. w ∷ l) (with_bytes-same ws file bytes rise.1 (rw other at is)))
    | inr before ↦ absurd (let none : bytes_at ws file ≡ None = bytes_at-over ws file w.file rise.0 before in let some : bytes_at ws file ≡ Some bytes = rw other at is in cc)
  ]
]

-- ---- one of them where it stands
-- a file that stands under its number
pub record IsWritten (es : List (NamedItem Written)) (file : ℕ) (w : Written) : Type 0 where
  pub bytes : bytes_at (files_in es) file ≡ Some w.bytes
  pub number : w.file ≡ file

pub is_written : (es : List (NamedItem Written)) (file : ℕ) (w : Written) → AreFiles es → file < 2 ^ 64 → Some w ≡ under es (number_bytes file) → IsWritten es file w
is_written es file w are small is = by_cases (bytes_at (files_in es) file) refl (is ∙ under-bytes es file are small)
  where
    by_cases : (o : Option (List ℕ)) → bytes_at (files_in es) file ≡ o → Some w ≡ option_map (file_of file) o → IsWritten es file w
    by_cases None none is = absurd (cc)
    by_cases (Some bytes) some is =
        let same : file_of file bytes ≡ w = sym (same_Some w (file_of file bytes) is) in
        record { bytes = some ∙ ap (λ (w : Written). Some w.bytes) same; number = ap (λ (w : Written). w.file) (sym same) }

pub not_written : (es : List (NamedItem Written)) (file : ℕ) → AreFiles es → file < 2 ^ 64 → None ≡ under es (number_bytes file) → bytes_at (files_in es) file ≡ None
not_written es file are small none = sym (bytes_at-under es file are small) ∙ ap (option_map (λ (w : Written). w.bytes)) (sym none)

-- the map has a file with these bytes, in place of what it had
pub record IsEdited (es new : List (NamedItem Written)) (file : ℕ) (bytes : List ℕ) : Type 0 where
  pub files : files_in new ≡ with_bytes (files_in es) file bytes
  pub map : IsFilesMap new

files-valued : (es : List (NamedItem Written)) (w : Written) → AreFiles es → AreFilesRising (files_in es) → w.file < 2 ^ 64 → is_some (bytes_at (files_in es) w.file) ≡ true
    → (files_in (with_value es (number_bytes w.file) w) ≡ with_bytes (files_in es) w.file w.bytes) × AreFiles (with_value es (number_bytes w.file) w)
files-valued [] w are rise small some = absurd (cc)
files-valued (e ∷ es) w are rise small some =
    let test : is_eq (name_cmp e.name (number_bytes w.file)) ≡ (e.value.file == w.file) = rw are.0 (same-name e.value.file w.file are.1 small) in
    elim (cases_Bool (e.value.file == w.file)) [
      | inl this ↦ rw (test, this) ((refl, (are.0 ∙ ap number_bytes (eqb-true e.value.file w.file this), small, are.2)))
      | inr other ↦
          let there : is_some (bytes_at (files_in es) w.file) ≡ true = rw other at some in
          elim (cases_lt e.value.file w.file) [
            | inl behind ↦
                let rest = files-valued es w are.2 rise.1 small there in
                rw (test, other, le-ltb w.file e.value.file (omega arith)) ((ap (λ l. e.value ∷ l) rest.0, (are.0, are.1, rest.1)))
            | inr before ↦ absurd (let none : bytes_at (files_in es) w.file ≡ None = bytes_at-over (files_in es) w.file e.value.file rise.0 before in cc)
          ]
    ]

pub edited_there : (es : List (NamedItem Written)) (file : ℕ) (w w' : Written) → IsFilesMap es → file < 2 ^ 64 → IsWritten es file w → w'.file ≡ w.file
    → IsEdited es (with_value es (number_bytes file) w') file w'.bytes
edited_there es file w w' is small there same =
    let number : w'.file ≡ file = same ∙ there.number in
    let some : is_some (bytes_at (files_in es) w'.file) ≡ true = ap (λ n. is_some (bytes_at (files_in es) n)) number ∙ ap is_some there.bytes in
    let both = files-valued es w' is.are is.rise (rw number small) some in
    rw (← number)
    (record {
      files = both.0;
      map = record { are = both.1; rise = rw both.0 (AreFilesRising-with (files_in es) w'.file w'.bytes is.rise) };
    })

-- a file that is not written comes to the others
pub edited_new : (es new : List (NamedItem Written)) (file : ℕ) (key : Key) (w : Written) (name : List ℕ) → IsFilesMap es → file < 2 ^ 64 → bytes_at (files_in es) file ≡ None
    → name ≡ number_bytes file → w.file ≡ file → new ≡ put es (record { name = name; key = key; value = w }) → IsEdited es new file w.bytes
edited_new es new file key w name is small none named number new_is =
    let absent : without_name es name ≡ es = without-absent es name (ap (under es) named ∙ under-bytes es file is.are small ∙ ap (option_map (file_of file)) none) in
    let set : IsSet es new name w = record { key = key; entries = rw absent new_is } in
    let name_is : name ≡ number_bytes w.file = named ∙ ap number_bytes (sym number) in
    let few : w.file < 2 ^ 64 = rw number small in
    rw (← number) (record { files = files-set es new name w is set name_is few; map = IsFilesMap-set es new name w is set name_is few })

pub free_name : (es : List (NamedItem Written)) (file : ℕ) (name : List ℕ) → AreFiles es → file < 2 ^ 64 → bytes_at (files_in es) file ≡ None → name ≡ number_bytes file
    → key_at es name ≡ None
free_name es file name are small none named =
    key_at-free es name (at-none es name (ap (under es) named ∙ under-bytes es file are small ∙ ap (option_map (file_of file)) none))

-- the units of all files, once one of them has other bytes
pub counted_edited : (es new : List (NamedItem Written)) (units units' file : ℕ) (was bytes : List ℕ) → AreCounted es units → IsEdited es new file bytes → LieOnPages bytes
    → bytes_or [] (bytes_at (files_in es) file) ≡ was → units' + units_of was ≡ units + units_of bytes → AreCounted new units'
counted_edited es new units units' file was bytes is edit lie was_is after =
    let known : units_at (files_in es) file ≡ units_of was = ap units_of was_is in
    record {
      map = edit.map;
      sum = rw edit.files (omega (arith, after, known, is.sum, units-with (files_in es) file bytes is.map.rise));
      pages = rw edit.files (lie-with (files_in es) file bytes is.pages lie);
    }

pub counted_without : (es new : List (NamedItem Written)) (units units' file : ℕ) (was : List ℕ) → AreCounted es units → file < 2 ^ 64 → new ≡ without_name es (number_bytes file)
    → bytes_or [] (bytes_at (files_in es) file) ≡ was → units' + units_of was ≡ units → AreCounted new units'
counted_without es new units units' file was is small new_is was_is after =
    let known : units_at (files_in es) file ≡ units_of was = ap units_of was_is in
    record {
      map = rw new_is (IsFilesMap-without es file is.map small);
      sum = rw (new_is, files-without es file is.map small) (omega (arith, after, known, is.sum, units-without (files_in es) file is.map.rise));
      pages = rw (new_is, files-without es file is.map small) (lie-without (files_in es) file is.pages);
    }

pub none_there : (o : Option (List ℕ)) (file : ℕ) → None ≡ option_map (file_of file) o → o ≡ None
none_there None file none = refl
none_there (Some bytes) file none = absurd (cc)

pub some_there : (o : Option (List ℕ)) (file : ℕ) (w : Written) → Some w ≡ option_map (file_of file) o → is_some o ≡ true
some_there None file w some = absurd (cc)
some_there (Some bytes) file w some = refl

-- ---- one after another
pub first_from-files : (es : List (NamedItem Written)) (from : ℕ) → AreFiles es → from < 2 ^ 64
    → option_map (λ e. e.1) (entries_from es (number_bytes from)) ≡ first_from (files_in es) from
first_from-files [] from are small = refl
first_from-files (e ∷ es) from are small =
    let test : is_lt (name_cmp e.name (number_bytes from)) ≡ nat_lt e.value.file from = rw are.0 (lower-name e.value.file from are.1 small) in
    elim (cases_Bool (nat_lt e.value.file from)) [
      | inl lower ↦ rw (test, lower) (first_from-files es from are.2 small)
      | inr not_below ↦ rw (test, not_below) refl
    ]

pub first_from-none : (es : List (NamedItem Written)) (from : ℕ) → AreFiles es → from < 2 ^ 64 → None ≡ option_map (λ e. e.0) (entries_from es (number_bytes from))
    → None ≡ first_from (files_in es) from
first_from-none es from are small none =
    sym (sym (first_from-files es from are small) ∙ by_cases (entries_from es (number_bytes from)) none)
  where
    by_cases : (o : Option (Key × Written)) → None ≡ option_map (λ (e : Key × Written). e.0) o → option_map (λ (e : Key × Written). e.1) o ≡ None
    by_cases None none = refl
    by_cases (Some e) none = absurd (cc)

-- numbers end
pub first_from-end : (es : List (NamedItem Written)) (from : ℕ) → AreFiles es → 2 ^ 64 ≤ from → None ≡ first_from (files_in es) from
first_from-end [] from are high = refl
first_from-end (e ∷ es) from are high = rw (lt-ltb e.value.file from (omega (arith, are.1))) (first_from-end es from are.2 high)

-- ---- no change at all
has_changes-append : (cs ds : List Change) → has_changes (cs ++ ds) ≡ (has_changes cs || has_changes ds)
has_changes-append [] ds = refl
has_changes-append (c ∷ cs) ds = refl

some-final : (w : Written) (ws : List Written) → has_changes (flat_map final_of (w ∷ ws)) ≡ true
some-final w ws = go w.file w.bytes (flat_map final_of ws)
  where
    go : (file : ℕ) (bytes : List ℕ) (rest : List Change) → has_changes (final_bytes file bytes ++ rest) ≡ true
    go file [] rest = refl
    go file (b ∷ bytes) rest = refl

pub changes-some : (names : List Change) (ws : List Written) (w : Written) → Some w ≡ first_from ws 0 → false ≡ not (has_changes (names ++ flat_map final_of ws))
changes-some names [] w some = absurd (cc)
changes-some names (v ∷ ws) w some =
    rw (has_changes-append names (flat_map final_of (v ∷ ws)), some-final v ws) (sym (ap not (or_right (has_changes names) true refl)))

no_names : (names : List Change) → (length names == 0) ≡ not (has_changes names)
no_names [] = refl
no_names (c ∷ cs) = ne_eqb (suc (length cs)) 0 (λ same. omega arith)

pub changes-none : (names : List Change) (ws : List Written) → None ≡ first_from ws 0 → (length names == 0) ≡ not (has_changes (names ++ flat_map final_of ws))
changes-none names [] none = no_names names ∙ ap (λ cs. not (has_changes cs)) (sym (append-nil names))
changes-none names (w ∷ ws) none = absurd (let some : None ≡ Some w = none ∙ rw (le-ltb w.file 0 (omega arith)) refl in cc)

-- ---- a file that is made
pub kept_there : (ws : List Written) (file : ℕ) → AreFilesRising ws → is_some (bytes_at ws file) ≡ true → ws ≡ with_file ws file
kept_there ws file rise some = go (bytes_at ws file) refl some
  where
    go : (o : Option (List ℕ)) → bytes_at ws file ≡ o → is_some o ≡ true → ws ≡ with_bytes ws file (bytes_or [] o)
    go None is some = absurd (cc)
    go (Some bytes) is some = sym (with_bytes-same ws file bytes rise is)

-- ---- the first of them
pub first-none : (ws : List Written) → None ≡ first_from ws 0 → ws ≡ []
first-none [] none = refl
first-none (w ∷ ws) none = absurd (let some : None ≡ Some w = none ∙ rw (le-ltb w.file 0 (omega arith)) refl in cc)

-- the first file stands before the others
pub record IsFirst (ws : List Written) (w : Written) : Type 0 where
  pub there : bytes_at ws w.file ≡ Some w.bytes
  pub rest : ws ≡ w ∷ without_file ws w.file

pub first-some : (ws : List Written) (w : Written) → AreFilesRising ws → Some w ≡ first_from ws 0 → IsFirst ws w
first-some [] w rise some = absurd (cc)
first-some (v ∷ ws) w rise some =
    let is : w ≡ v = same_Some w v (some ∙ rw (le-ltb v.file 0 (omega arith)) refl) in
    let same = eq-eqb v.file w.file (ap (λ (w : Written). w.file) (sym is)) in
    let over : w.file ≤ v.file = let e : w.file ≡ v.file = ap (λ (w : Written). w.file) is in omega arith in
    record {
      there = rw same (ap (λ (w : Written). Some w.bytes) (sym is));
      rest = rw (same, without_file-absent ws w.file v.file rise.0 over) (ap (λ v. v ∷ ws) (sym is));
    }
