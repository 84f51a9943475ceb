-- Lemmas on the names and the bytes of recorded changes.
use Rattle.std.proofs.Common.{◌≡◌, ℕ, ◌+◌, ◌<◌, ◌≤◌, ◌==◌, ◌&&◌, not, Bool, true, false, suc, List, [], ◌∷◌, ◌++◌, length, take, drop, filter, nat_lt, nat_le, Some, None, refl, sym, ap, subst, ◌∙◌, arith, inl, inr, ne_eqb}
use Rattle.std.specs.List.{list_all, position, prefix_len}
use Rattle.std.specs.Option.{unwrap_or}
use Rattle.std.proofs.lemmas.Bool.{and_from, and_parts, and_right, cases_Bool, eqb-true, eqb-false, leb-true, leb-false, ltb-false, not-true, true≢false}
use Rattle.std.proofs.lemmas.List.{drop_all, take_all}
use Rattle.ktm_world.specs.declared.change.Change.{Change}
use Rattle.ktm_world.specs.declared.change.Change.TheVariants.{Make, Put, Cut, Move, Drop}
use Rattle.ktm_world.specs.Changes.{changes_bytes, has_changes, node_of}
use Rattle.ktm_world.specs.Durable.{are_final_bytes, are_recorded_changes, ends_in_bytes, gives_bytes, made_files}
use Rattle.ktm_world.specs.Committed.{written_files}
use Rattle.txf_durable.specs.Numbers.{AreAbove}
use Rattle.txf_durable.specs.Recorded.{AreBytesFrom, are_names, begins_with, begins_with_bytes, from_file}

-- ---- names

all-first : {X : Type 0} (test : X → Bool) (xs : List X) → list_all test (take (prefix_len test xs) xs) ≡ true
all-first test [] = refl
all-first test (x ∷ xs) = elim (cases_Bool (test x)) [
  | inl is ↦ let more : 1 + prefix_len test xs ≡ suc (prefix_len test xs) = omega arith in rw (is, more, is) (all-first test xs)
  | inr not ↦ rw not refl
]

-- before the first change of bytes all are names
pub names-first : (cs : List Change) → are_names (take (unwrap_or (position changes_bytes cs) (length cs)) cs) ≡ true
names-first cs = elim (cases_Bool (nat_lt (prefix_len (λ c. not (changes_bytes c)) cs) (length cs))) [
  | inl within ↦ rw within (all-first (λ c. not (changes_bytes c)) cs)
  | inr past ↦
      let names = all-first (λ (c : Change). not (changes_bytes c)) cs in
      let all = take_all (prefix_len (λ (c : Change). not (changes_bytes c)) cs) cs (ltb-false _ _ past) in
      rw (past, take_all (length cs) cs (omega arith)) (rw all at names)
]

bytes-next : (cs : List Change) → begins_with_bytes (drop (prefix_len (λ c. not (changes_bytes c)) cs) cs) ≡ true
bytes-next [] = refl
bytes-next (c ∷ cs) = elim (cases_Bool (changes_bytes c)) [
  | inl bytes ↦ rw bytes bytes
  | inr names ↦
      let more : 1 + prefix_len (λ (c : Change). not (changes_bytes c)) cs ≡ suc (prefix_len (λ (c : Change). not (changes_bytes c)) cs) = omega arith in
      rw (names, more) (bytes-next cs)
]

-- from the first change of bytes on bytes come first
pub bytes-first : (cs : List Change) → begins_with_bytes (drop (unwrap_or (position changes_bytes cs) (length cs)) cs) ≡ true
bytes-first cs = elim (cases_Bool (nat_lt (prefix_len (λ c. not (changes_bytes c)) cs) (length cs))) [
  | inl within ↦ rw within (bytes-next cs)
  | inr past ↦ rw (past, drop_all (length cs) cs (omega arith)) refl
]

-- ---- bytes

pub from-lower : (cs : List Change) (a b : ℕ) → a ≤ b → AreBytesFrom b cs → AreBytesFrom a cs
from-lower [] a b low are = tt
from-lower (c ∷ cs) a b low are = (are.0, omega (arith, low, are.1), are.2)

-- the bytes that transactions record, at the start or behind a cut, are of files whose numbers never fall
pub record Falls (cs : List Change) : Type 0 where
  pub start : (least : ℕ) → are_final_bytes least None cs ≡ true → AreBytesFrom least cs
  behind : (file : ℕ) → are_final_bytes (file + 1) (Some file) cs ≡ true → AreBytesFrom file cs

cut-falls : (node size : ℕ) (pages : List ℕ) (cs : List Change) → Falls cs → (least : ℕ)
    → ((nat_le least node && size == 0) && are_final_bytes (node + 1) (Some node) cs) ≡ true → AreBytesFrom least (Cut node size pages ∷ cs)
cut-falls node size pages cs falls least are =
    let parts = and_parts (nat_le least node && size == 0) _ are in
    (refl, leb-true _ _ (and_parts (nat_le least node) (size == 0) parts.0).0, falls.behind node parts.1)

pub never-falls : (cs : List Change) → Falls cs
never-falls [] = record { start = λ least are. tt; behind = λ file are. tt }
never-falls (Cut node size pages ∷ cs) =
    let falls = never-falls cs in
    record {
      start = λ least are. cut-falls node size pages cs falls least are;
      behind = λ file are. from-lower (Cut node size pages ∷ cs) file (file + 1) (omega arith) (cut-falls node size pages cs falls (file + 1) are);
    }
never-falls (Put node offset contents ∷ cs) = record {
  start = λ least are. absurd (true≢false (sym are));
  behind = λ file are.
      let parts = and_parts ((file == node) && offset == 0) (are_final_bytes (file + 1) None cs) are in
      let same = eqb-true file node (and_parts (file == node) (offset == 0) parts.0).0 in
      (refl, omega (arith, same), from-lower cs node (file + 1) (omega (arith, same)) ((never-falls cs).start (file + 1) parts.1));
}
never-falls (Make node parent kind name ∷ cs) = record { start = λ least are. absurd (true≢false (sym are)); behind = λ file are. absurd (true≢false (sym are)) }
never-falls (Move node parent name ∷ cs) = record { start = λ least are. absurd (true≢false (sym are)); behind = λ file are. absurd (true≢false (sym are)) }
never-falls (Drop node ∷ cs) = record { start = λ least are. absurd (true≢false (sym are)); behind = λ file are. absurd (true≢false (sym are)) }

pub from-final : (cs : List Change) → are_final_bytes 0 None cs ≡ true → AreBytesFrom 0 cs
from-final cs are = (never-falls cs).start 0 are

-- ---- the bytes of one file after another

none-below : (cs : List Change) (n file : ℕ) → AreBytesFrom n cs → file < n → gives_bytes cs file ≡ false
none-below [] n file are low = refl
none-below (c ∷ cs) n file are low =
    rw (ne_eqb (node_of c) file (λ e. omega (arith, e, low, are.1)), are.0) (none-below cs (node_of c) file are.2 (omega (arith, low, are.1)))

first-gives : (cs : List Change) (file : ℕ) → AreBytesFrom file cs → gives_bytes cs file ≡ begins_with cs file
first-gives [] file are = refl
first-gives (c ∷ cs) file are = elim (cases_Bool (node_of c == file)) [
  | inl same ↦ rw (same, are.0) refl
  | inr other ↦ rw (other, are.0) (none-below cs (node_of c) file are.2 (let not = eqb-false _ _ other in omega (arith, are.1, not)))
]

pub bytes-behind : (cs : List Change) (n file : ℕ) → AreBytesFrom n cs → AreBytesFrom file (from_file cs file)
bytes-behind [] n file are = tt
bytes-behind (c ∷ cs) n file are = elim (cases_Bool (nat_le file (node_of c))) [
  | inl there ↦ rw there ((are.0, leb-true _ _ there, are.2))
  | inr before ↦ rw before (bytes-behind cs (node_of c) file are.2)
]

gives-behind : (cs : List Change) (file later : ℕ) → file ≤ later → gives_bytes (from_file cs file) later ≡ gives_bytes cs later
gives-behind [] file later low = refl
gives-behind (c ∷ cs) file later low = elim (cases_Bool (nat_le file (node_of c))) [
  | inl there ↦ rw there refl
  | inr before ↦
      let less = leb-false file (node_of c) before in
      rw (before, ne_eqb (node_of c) later (λ e. omega (arith, e, less, low)), and_right (changes_bytes c) false refl) (gives-behind cs file later low)
]

all-behind : (cs : List Change) (file : ℕ) (later : List ℕ) → AreAbove file later → list_all (gives_bytes (from_file cs file)) later ≡ list_all (gives_bytes cs) later
all-behind cs file [] above = refl
all-behind cs file (n ∷ ns) above =
    let one = gives-behind cs file n (omega (arith, above.0)) in
    let rest = all-behind cs file ns above.1 in
    λ i. one i && rest i

-- the first of some files has bytes where the changes from it on begin with them, and the others have them there
pub have-first : (cs : List Change) (n file : ℕ) (later : List ℕ) → AreBytesFrom n cs → AreAbove file later
    → list_all (gives_bytes cs) (file ∷ later) ≡ (begins_with (from_file cs file) file && list_all (gives_bytes (from_file cs file)) later)
have-first cs n file later are above =
    let first = sym (gives-behind cs file file (omega arith)) ∙ first-gives (from_file cs file) file (bytes-behind cs n file are) in
    let rest = sym (all-behind cs file later above) in
    λ i. first i && rest i

-- ---- names, and bytes behind them

pub ends-split : (names bytes : List Change) → are_names names ≡ true → begins_with_bytes bytes ≡ true → ends_in_bytes (names ++ bytes) ≡ are_final_bytes 0 None bytes
ends-split [] [] are begins = refl
ends-split [] (c ∷ cs) are begins = rw begins refl
ends-split (c ∷ cs) bytes are begins =
    let parts = and_parts (not (changes_bytes c)) (are_names cs) are in
    rw (not-true _ parts.0) (ends-split cs bytes parts.1 begins)

gives-split : (names bytes : List Change) (file : ℕ) → are_names names ≡ true → gives_bytes (names ++ bytes) file ≡ gives_bytes bytes file
gives-split [] bytes file are = refl
gives-split (c ∷ cs) bytes file are =
    let parts = and_parts (not (changes_bytes c)) (are_names cs) are in
    rw (not-true _ parts.0) (gives-split cs bytes file parts.1)

all-split : (names bytes : List Change) (files : List ℕ) → are_names names ≡ true → list_all (gives_bytes (names ++ bytes)) files ≡ list_all (gives_bytes bytes) files
all-split names bytes [] are = refl
all-split names bytes (n ∷ ns) are =
    let one = gives-split names bytes n are in
    let rest = all-split names bytes ns are in
    λ i. one i && rest i

names-split : (names bytes : List Change) (n : ℕ) → are_names names ≡ true → AreBytesFrom n bytes → filter (λ c. not (changes_bytes c)) (names ++ bytes) ≡ names
names-split [] [] n are from = refl
names-split [] (c ∷ cs) n are from = rw from.0 (names-split [] cs (node_of c) are from.2)
names-split (c ∷ cs) bytes n are from =
    let parts = and_parts (not (changes_bytes c)) (are_names cs) are in
    rw parts.0 (ap (λ l. c ∷ l) (names-split cs bytes n parts.1 from))

-- changes that are not empty are as transactions record them where their bytes are, and the files that they make have some
pub recorded-split : (cs names bytes : List Change) → names ++ bytes ≡ cs → are_names names ≡ true → begins_with_bytes bytes ≡ true → are_final_bytes 0 None bytes ≡ true
    → are_recorded_changes cs ≡ (has_changes cs && list_all (gives_bytes bytes) (written_files names))
recorded-split cs names bytes whole are begins final = subst (λ cs. are_recorded_changes cs ≡ (has_changes cs && list_all (gives_bytes bytes) (written_files names))) whole
    (rw (ends-split names bytes are begins, final)
    (rw (and-true (has_changes (names ++ bytes)))
    (let made = ap written_files (names-split names bytes 0 are (from-final bytes final)) in
    let all = all-split names bytes (made_files (names ++ bytes)) are ∙ ap (list_all (gives_bytes bytes)) made in
    ap (λ b. has_changes (names ++ bytes) && b) all)))
  where
    and-true : (b : Bool) → (b && true) ≡ b
    and-true true = refl
    and-true false = refl

pub not-recorded : (cs names bytes : List Change) → names ++ bytes ≡ cs → are_names names ≡ true → begins_with_bytes bytes ≡ true → are_final_bytes 0 None bytes ≡ false
    → are_recorded_changes cs ≡ false
not-recorded cs names bytes whole are begins none = subst (λ cs. are_recorded_changes cs ≡ false) whole
    (let ends = ends-split names bytes are begins ∙ none in
    rw ends (rw (and_right (has_changes (names ++ bytes)) false refl) refl))

-- of changes as transactions record them, all behind the names are of bytes
pub all-bytes : (cs names bytes : List Change) → names ++ bytes ≡ cs → are_names names ≡ true → begins_with_bytes bytes ≡ true → are_recorded_changes cs ≡ true → list_all changes_bytes bytes ≡ true
all-bytes cs names bytes whole are begins recorded =
    let ends = and_parts (has_changes cs && ends_in_bytes cs) (list_all (gives_bytes cs) (made_files cs)) recorded in
    let final = sym (ends-split names bytes are begins) ∙ ap ends_in_bytes whole ∙ (and_parts (has_changes cs) (ends_in_bytes cs) ends.0).1 in
    go bytes 0 (from-final bytes final)
  where
    go : (bs : List Change) (n : ℕ) → AreBytesFrom n bs → list_all changes_bytes bs ≡ true
    go [] n are = refl
    go (b ∷ bs) n are = and_from _ _ are.0 (go bs (node_of b) are.2)
