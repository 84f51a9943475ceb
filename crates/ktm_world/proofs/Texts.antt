-- Which texts are read as names, paths and patterns.
use Rattle.std.proofs.Common.{◌≡◌, ◌&&◌, ℕ, ◌≤◌, nat_eq, nat_le, true, false, List, [], ◌∷◌, ◌++◌, length, Option, Some, None, refl, sym, ap, ◌∙◌, subst, arith, inl, inr, All, append_assoc, length-append}
use Rattle.std.specs.List.{join_with_byte, list_all}
use Rattle.std.proofs.lemmas.Bool.{and_from, and_parts, both_ways, cases_Bool, eqb-false, eqb-true, le-leb, leb-true, ne_eqb, not-true, not_from_false}
use Rattle.std.proofs.lemmas.List.{append-nil}
use Rattle.std.proofs.lemmas.List.Elements.{All-cons, All-head, All-nil, All-push, All-tail, All-weaker}
use Rattle.std.proofs.lemmas.List.Sums.{AllPass-from_list_all, list_all-from_AllPass}
use Rattle.std.proofs.lemmas.Option.{same_Some}
use Rattle.ktm_base.specs.declared.limits.TheConstants.{MOST_NAME_BYTES, MOST_PARTS}
use Rattle.ktm_base.specs.Names.{IsLastPart, IsName, IsPath, IsPattern, backslash, is_name_byte, is_pattern_byte, last_byte, path_text}
use Rattle.ktm_world.specs.Paths.{Search, few_parts, is_last_part, is_name, names_in, parts_from, parts_of, path_of, pattern_of, search_in, with_part}
use Rattle.ktm_world.specs.Laws.{PathLaw}

-- ---- names

read_name : (name : List ℕ) → is_name name ≡ true → IsName name
unfolding is_name
read_name name e =
    let a = and_parts _ _ e in
    let b = and_parts _ _ a.0 in
    let c = and_parts _ _ b.0 in
    let d = and_parts _ _ c.0 in
    record {
      some = leb-true 1 (length name) d.0;
      few = leb-true (length name) MOST_NAME_BYTES d.1;
      characters = AllPass-from_list_all is_name_byte name c.1;
      no_space = eqb-false (last_byte name) 0x20 (not-true _ b.1);
      no_dot = eqb-false (last_byte name) 0x2E (not-true _ a.1);
    }

name_is_read : (name : List ℕ) → IsName name → is_name name ≡ true
unfolding is_name
name_is_read name h =
    and_from _ _
    (and_from _ _
    (and_from _ _ (and_from _ _ (le-leb 1 (length name) h.some) (le-leb (length name) MOST_NAME_BYTES h.few)) (list_all-from_AllPass is_name_byte name h.characters))
    (not_from_false _ (ne_eqb (last_byte name) 0x20 h.no_space)))
    (not_from_false _ (ne_eqb (last_byte name) 0x2E h.no_dot))

read_last_part : (last : List ℕ) → is_last_part last ≡ true → IsLastPart last
unfolding is_last_part
read_last_part last e =
    let a = and_parts _ _ e in
    let b = and_parts _ _ a.0 in
    record { some = leb-true 1 (length last) b.0; few = leb-true (length last) MOST_NAME_BYTES b.1; characters = AllPass-from_list_all is_pattern_byte last a.1 }

last_part_is_read : (last : List ℕ) → IsLastPart last → is_last_part last ≡ true
unfolding is_last_part
last_part_is_read last h =
    and_from _ _ (and_from _ _ (le-leb 1 (length last) h.some) (le-leb (length last) MOST_NAME_BYTES h.few)) (list_all-from_AllPass is_pattern_byte last h.characters)

read_names : (names : List (List ℕ)) → list_all is_name names ≡ true → All IsName names
read_names names e = All-weaker (λ name. is_name name ≡ true) IsName read_name names (AllPass-from_list_all is_name names e)

names_are_read : (names : List (List ℕ)) → All IsName names → list_all is_name names ≡ true
names_are_read names h = list_all-from_AllPass is_name names (All-weaker IsName (λ name. is_name name ≡ true) name_is_read names h)

-- ---- cutting at the backslashes

-- no character of it is a backslash
abbrev HasNoBackslash : List ℕ → Type 0
HasNoBackslash part = All (λ c. nat_eq c backslash ≡ false) part

no_backslash : (c : ℕ) → is_pattern_byte c ≡ true → nat_eq c backslash ≡ false
unfolding is_name_byte
no_backslash c h = elim (cases_Bool (nat_eq c backslash)) [
  | inl same ↦ absurd (both_ways (is_pattern_byte c) (ap is_pattern_byte (eqb-true c backslash same)) h)
  | inr other ↦ other
]

last_part_has_none : (last : List ℕ) → IsLastPart last → HasNoBackslash last
last_part_has_none last h = All-weaker (λ c. is_pattern_byte c ≡ true) (λ c. nat_eq c backslash ≡ false) no_backslash last h.characters

name_has_none : (name : List ℕ) → IsName name → HasNoBackslash name
name_has_none name h =
    All-weaker (λ c. is_name_byte c ≡ true) (λ c. nat_eq c backslash ≡ false) (λ c (pass : is_name_byte c ≡ true). no_backslash c (rw pass refl)) name h.characters

names_have_none : (names : List (List ℕ)) → All IsName names → All HasNoBackslash names
names_have_none names h = All-weaker IsName HasNoBackslash name_has_none names h

-- a backslash stands between the first part and the next ones
join_next : (part : List ℕ) (parts : List (List ℕ)) → 1 ≤ length parts → join_with_byte backslash (part ∷ parts) ≡ part ++ (backslash ∷ join_with_byte backslash parts)
join_next part [] some = absurd (omega arith)
join_next part (next ∷ parts) some = refl

some_part : (part text : List ℕ) → 1 ≤ length (parts_from part text)
some_part part [] = omega arith
some_part part (c ∷ cs) = elim (cases_Bool (nat_eq c backslash)) [
  | inl same ↦ rw same (omega arith)
  | inr other ↦ rw other (some_part (part ++ c ∷ []) cs)
]

-- the parts spell what they were cut from
join_cut : (part text : List ℕ) → join_with_byte backslash (parts_from part text) ≡ part ++ text
join_cut part [] = sym (append-nil part)
join_cut part (c ∷ cs) = elim (cases_Bool (nat_eq c backslash)) [
  | inl same ↦
      rw same
      (join_next part (parts_from [] cs) (some_part [] cs) ∙ ap (λ rest. part ++ (backslash ∷ rest)) (join_cut [] cs) ∙ ap (λ d. part ++ (d ∷ cs)) (sym (eqb-true c backslash same)))
  | inr other ↦ rw other (join_cut (part ++ c ∷ []) cs ∙ append_assoc part (c ∷ []) cs)
]

cut_none : (front part : List ℕ) → HasNoBackslash part → parts_from front part ≡ (front ++ part) ∷ []
cut_none front [] none = ap (λ whole. whole ∷ []) (sym (append-nil front))
cut_none front (c ∷ cs) none =
    rw (All-head (λ d. nat_eq d backslash ≡ false) c cs none)
    (cut_none (front ++ c ∷ []) cs (All-tail (λ d. nat_eq d backslash ≡ false) c cs none) ∙ ap (λ whole. whole ∷ []) (append_assoc front (c ∷ []) cs))

cut_at : (front part rest : List ℕ) → HasNoBackslash part → parts_from front (part ++ (backslash ∷ rest)) ≡ (front ++ part) ∷ parts_from [] rest
cut_at front [] rest none = ap (λ whole. whole ∷ parts_from [] rest) (sym (append-nil front))
cut_at front (c ∷ cs) rest none =
    rw (All-head (λ d. nat_eq d backslash ≡ false) c cs none)
    (cut_at (front ++ c ∷ []) cs rest (All-tail (λ d. nat_eq d backslash ≡ false) c cs none) ∙ ap (λ whole. whole ∷ parts_from [] rest) (append_assoc front (c ∷ []) cs))

-- parts that are joined by backslashes are cut there
cut_join : (part : List ℕ) (parts : List (List ℕ)) → All HasNoBackslash (part ∷ parts) → parts_from [] (join_with_byte backslash (part ∷ parts)) ≡ part ∷ parts
cut_join part [] h = cut_none [] part (All-head HasNoBackslash part [] h)
cut_join part (next ∷ parts) h =
    cut_at [] part (join_with_byte backslash (next ∷ parts)) (All-head HasNoBackslash part (next ∷ parts) h)
    ∙ ap (λ more. part ∷ more) (cut_join next parts (All-tail HasNoBackslash part (next ∷ parts) h))

-- the parts that are read spell the text
read_parts : (text : List ℕ) (parts : List (List ℕ)) → parts_of text ≡ Some parts → text ≡ path_text parts
read_parts [] parts e = cc
read_parts (c ∷ []) parts e = elim (cases_Bool (nat_eq c backslash)) [
  | inl same ↦ ap (λ d. d ∷ []) (eqb-true c backslash same) ∙ ap path_text (same_Some _ _ (rw same at e))
  | inr other ↦ cc (rw other at e)
]
read_parts (c ∷ d ∷ cs) parts e = elim (cases_Bool (nat_eq c backslash)) [
  | inl same ↦
      ap (λ first. first ∷ d ∷ cs) (eqb-true c backslash same) ∙ ap (λ rest. backslash ∷ rest) (sym (join_cut [] (d ∷ cs))) ∙ ap path_text (same_Some (parts_from [] (d ∷ cs)) parts (rw same at e))
  | inr other ↦ cc (rw other at e)
]

behind_backslash : (rest : List ℕ) → 1 ≤ length rest → parts_of (backslash ∷ rest) ≡ Some (parts_from [] rest)
behind_backslash [] some = absurd (omega arith)
behind_backslash (c ∷ cs) some = refl

-- parts without a backslash, of which the first is not empty, are read again
parts_are_read : (text part : List ℕ) (parts : List (List ℕ)) → text ≡ path_text (part ∷ parts) → 1 ≤ length part → All HasNoBackslash (part ∷ parts) → parts_of text ≡ Some (part ∷ parts)
parts_are_read text part parts spelled some h =
    ap parts_of spelled ∙ behind_backslash (join_with_byte backslash (part ∷ parts)) (some_joined part parts some) ∙ ap Some (cut_join part parts h)
  where
    some_joined : (part : List ℕ) (parts : List (List ℕ)) → 1 ≤ length part → 1 ≤ length (join_with_byte backslash (part ∷ parts))
    some_joined part [] some = some
    some_joined part (next ∷ parts) some = let long = length-append part (backslash ∷ join_with_byte backslash (next ∷ parts)) in omega arith

-- ---- paths

read_path : (text : List ℕ) (names : List (List ℕ)) → path_of text ≡ Some names → IsPath names text
unfolding path_of
read_path text names e = go (parts_of text) refl e
  where
    go : (found : Option (List (List ℕ))) → parts_of text ≡ found → names_in found ≡ Some names → IsPath names text
    go None is e = cc
    go (Some parts) is e = elim (cases_Bool (nat_le (length parts) MOST_PARTS && list_all is_name parts)) [
      | inl good ↦
          let same : parts ≡ names = same_Some parts names (rw good at e) in
          let tests = and_parts _ _ good in
          subst (λ ns. IsPath ns text) same (record { few = leb-true (length parts) MOST_PARTS tests.0; each = read_names parts tests.1; spelled = read_parts text parts is })
      | inr bad ↦ cc (rw bad at e)
    ]

names_within : (names : List (List ℕ)) → length names ≤ MOST_PARTS → All IsName names → names_in (Some names) ≡ Some names
names_within names few each = rw (and_from _ _ (le-leb (length names) MOST_PARTS few) (names_are_read names each)) refl

path_is_read : (text : List ℕ) (names : List (List ℕ)) → IsPath names text → path_of text ≡ Some names
unfolding path_of
path_is_read text [] h = ap path_of h.spelled
path_is_read text (name ∷ names) h =
    ap names_in (parts_are_read text name names h.spelled (All-head IsName name names h.each).some (names_have_none (name ∷ names) h.each))
    ∙ names_within (name ∷ names) h.few h.each

-- ---- patterns

-- the parts are a directory and a last part
record IsSearch (parts : List (List ℕ)) (found : Search) : Type 0 where
  parts_are : parts ≡ found.directory ++ found.last ∷ []
  each : All IsName found.directory
  ending : IsLastPart found.last

read_search : (parts : List (List ℕ)) (found : Search) → search_in parts ≡ Some found → IsSearch parts found
read_search [] found e = cc
read_search (last ∷ []) found e = elim (cases_Bool (is_last_part last)) [
  | inl good ↦
      subst (IsSearch (last ∷ [])) (same_Some (record { directory = []; last = last }) found (rw good at e)) (record { parts_are = refl; each = All-nil IsName; ending = read_last_part last good })
  | inr bad ↦ cc (rw bad at e)
]
read_search (part ∷ next ∷ parts) found e = go (search_in (next ∷ parts)) (read_search (next ∷ parts)) e
  where
    go : (inner : Option Search) → ((s : Search) → inner ≡ Some s → IsSearch (next ∷ parts) s) → with_part part inner ≡ Some found → IsSearch (part ∷ next ∷ parts) found
    go None is e = cc
    go (Some s) is e = elim (cases_Bool (is_name part)) [
      | inl good ↦
          let rest = is s refl in
          subst (IsSearch (part ∷ next ∷ parts)) (same_Some (record s { directory = part ∷ s.directory }) found (rw good at e))
          (record { parts_are = ap (λ more. part ∷ more) rest.parts_are; each = All-cons IsName part s.directory (read_name part good) rest.each; ending = rest.ending })
      | inr bad ↦ cc (rw bad at e)
    ]

search_next : (part : List ℕ) (parts : List (List ℕ)) → 1 ≤ length parts → search_in (part ∷ parts) ≡ with_part part (search_in parts)
search_next part [] some = absurd (omega arith)
search_next part (next ∷ parts) some = refl

search_is_read : (directory : List (List ℕ)) (last : List ℕ) → All IsName directory → IsLastPart last → search_in (directory ++ last ∷ []) ≡ Some (record { directory = directory; last = last })
search_is_read [] last each ending = rw (last_part_is_read last ending) refl
search_is_read (part ∷ directory) last each ending =
    let long = length-append directory (last ∷ []) in
    search_next part (directory ++ last ∷ []) (omega arith) ∙ ap (with_part part) (search_is_read directory last (All-tail IsName part directory each) ending)
    ∙ rw (name_is_read part (All-head IsName part directory each)) refl

read_pattern : (text : List ℕ) (directory : List (List ℕ)) (last : List ℕ) → pattern_of text ≡ Some (record { directory = directory; last = last }) → IsPattern directory last text
unfolding pattern_of
read_pattern text directory last e = go (parts_of text) refl e
  where
    go : (found : Option (List (List ℕ))) → parts_of text ≡ found → few_parts found ≡ Some (record { directory = directory; last = last }) → IsPattern directory last text
    go None is e = cc
    go (Some parts) is e = elim (cases_Bool (nat_le (length parts) MOST_PARTS)) [
      | inl good ↦
          let read = read_search parts (record { directory = directory; last = last }) (rw good at e) in
          let long = ap length read.parts_are ∙ length-append directory (last ∷ []) in
          let few = leb-true (length parts) MOST_PARTS good in
          record { few = omega arith; each = read.each; ending = read.ending; spelled = read_parts text parts is ∙ ap path_text read.parts_are }
      | inr bad ↦ cc (rw bad at e)
    ]

pattern_is_read : (text : List ℕ) (directory : List (List ℕ)) (last : List ℕ) → IsPattern directory last text → pattern_of text ≡ Some (record { directory = directory; last = last })
unfolding pattern_of
pattern_is_read text directory last h =
    ap few_parts (parts_again directory h) ∙ rw (le-leb (length (directory ++ last ∷ [])) MOST_PARTS few) (search_is_read directory last h.each h.ending)
  where
    few : length (directory ++ last ∷ []) ≤ MOST_PARTS
    few = let long = length-append directory (last ∷ []) in omega (arith, h.few)

    parts_again : (directory : List (List ℕ)) → IsPattern directory last text → parts_of text ≡ Some (directory ++ last ∷ [])
    parts_again [] k = parts_are_read text last [] k.spelled k.ending.some (All-cons HasNoBackslash last [] (last_part_has_none last k.ending) (All-nil HasNoBackslash))
    parts_again (name ∷ names) k =
        parts_are_read text name (names ++ last ∷ []) k.spelled (All-head IsName name names k.each).some
        (All-push HasNoBackslash (name ∷ names) last (names_have_none (name ∷ names) k.each) (last_part_has_none last k.ending))

pub path_law : PathLaw
path_law = (
  λ name. (read_name name, name_is_read name),
  λ text names. (read_path text names, path_is_read text names),
  λ text directory last. (read_pattern text directory last, pattern_is_read text directory last),
)
