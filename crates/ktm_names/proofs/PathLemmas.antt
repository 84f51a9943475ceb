-- Which parts make a path or a pattern.
use Rattle.std.proofs.Common.{◌≡◌, ◌⊎◌, ℕ, ◌≤◌, nat_eq, true, false, List, [], ◌∷◌, ◌++◌, length, map, bytes_eq, Some, None, refl, sym, ap, ◌∙◌, subst, arith, inl, inr, All, get_or, length-append}
use Rattle.std.proofs.lemmas.Bool.{cases_Bool}
use Rattle.std.proofs.lemmas.List.{length-map, map_push, same_from_push}
use Rattle.std.proofs.lemmas.List.Elements.{All-cons, All-head, All-nil, All-push, All-tail}
use Rattle.std.proofs.lemmas.Option.{same_Some}
use Rattle.std.proofs.lemmas.Slice.Eq.{bytes_eq-Decides}
use Rattle.ktm_base.specs.declared.limits.TheConstants.{MOST_PARTS}
use Rattle.ktm_base.specs.Names.{IsLastPart, IsName, IsPath, IsPattern, backslash, is_name_byte, is_pattern_byte}
use Rattle.ktm_names.specs.Reading.{behind_backslash, parts_of}
use Rattle.ktm_names.proofs.PartLemmas.{HasNoBackslash, parts_again, parts_is}

backslash_in_no_name : is_name_byte backslash ≡ false
unfolding is_name_byte
backslash_in_no_name = refl

backslash_in_no_part : is_pattern_byte backslash ≡ false
backslash_in_no_part = rw backslash_in_no_name refl

no_backslash : (c : ℕ) → is_pattern_byte c ≡ true → nat_eq c backslash ≡ false
no_backslash c h = elim (cases_Bool (nat_eq c backslash)) [
  | inl same ↦
      let here : c ≡ backslash = grind arith in
      cc (ap is_pattern_byte here, backslash_in_no_part)
  | inr other ↦ other
]

last_part_has_none : (last : List ℕ) → IsLastPart last → HasNoBackslash last
last_part_has_none last h = λ k d l. no_backslash (get_or last k d) (h.characters k d l)

name_has_none : (name : List ℕ) → IsName name → HasNoBackslash name
name_has_none name h = λ k d l.
    let characters : is_name_byte (get_or name k d) ≡ true = h.characters k d l in
    no_backslash (get_or name k d) (rw characters refl)

names_have_none : (names : List (List ℕ)) → All IsName names → All HasNoBackslash names
names_have_none names h = λ k d l. name_has_none (get_or names k d) (h k d l)

-- a fact of each name that is shown, said of what shows it
pub shown : {X : Type 0} (P : List ℕ → Type 0) (show : X → List ℕ) (xs : List X) → All P (map show xs) → All (λ x. P (show x)) xs
shown P show [] h = All-nil (λ x. P (show x))
shown P show (x ∷ xs) h =
    All-cons (λ y. P (show y)) x xs (All-head P (show x) (map show xs) h) (shown P show xs (All-tail P (show x) (map show xs) h))

-- the root
abbrev pub root : List ℕ
root = backslash ∷ []

pub no_root : (text : List ℕ) → false ≡ bytes_eq text root → text ≡ root → ⊥
no_root text e same = cc (e, (bytes_eq-Decides text root).1 same)

pub path_is : (text : List ℕ) (names : List (List ℕ)) → parts_of text ≡ Some names → All IsName names → IsPath names text
path_is text names e h =
    let read = parts_is text names e in
    record { few = read.0; each = h; spelled = read.1 }

-- a path is the root, or its names are what is cut
pub path_cases : (text : List ℕ) (names : List (List ℕ)) → IsPath names text → ((names ≡ []) × (text ≡ root)) ⊎ (parts_of text ≡ Some names)
path_cases text [] h = inl (refl, h.spelled)
path_cases text (name ∷ names) h = inr (parts_again text name names h.spelled (names_have_none (name ∷ names) h.each) h.few)

root_parts : parts_of root ≡ Some ([] ∷ [])
unfolding parts_of behind_backslash
root_parts = refl

nothing_is_no_name : IsName [] → ⊥
nothing_is_no_name h = let some = h.some in omega arith

root_is_no_name : (text : List ℕ) (names : List (List ℕ)) → text ≡ root → parts_of text ≡ Some names → All IsName names → ⊥
root_is_no_name text names e f h =
    let same : [] ∷ [] ≡ names = same_Some _ _ (sym root_parts ∙ ap parts_of (sym e) ∙ f) in
    let each : All IsName ([] ∷ []) = subst (λ (xs : List (List ℕ)). All IsName xs) (sym same) h in
    nothing_is_no_name (All-head IsName [] [] each)

-- a text is the path of one list of names at most
pub one_path : (x y : List (List ℕ)) (text : List ℕ) → IsPath x text → IsPath y text → x ≡ y
one_path x y text h k = elim (path_cases text x h) [
  | inl first ↦ elim (path_cases text y k) [
    | inl second ↦ first.0 ∙ sym second.0
    | inr second ↦ absurd (root_is_no_name text y first.1 second k.each)
  ]
  | inr first ↦ elim (path_cases text y k) [
    | inl second ↦ absurd (root_is_no_name text x second.1 first h.each)
    | inr second ↦ same_Some x y (sym first ∙ second)
  ]
]

-- what is cut and is not all names is the path of no names but the root's
pub no_path : (text : List ℕ) (parts names : List (List ℕ)) → (text ≡ root → ⊥) → parts_of text ≡ Some parts → (All IsName parts → ⊥) → IsPath names text → ⊥
no_path text parts names other e bad h = elim (path_cases text names h) [
  | inl first ↦ other first.1
  | inr first ↦
      let same : names ≡ parts = same_Some names parts (sym first ∙ e) in
      bad (subst (λ (xs : List (List ℕ)). All IsName xs) same h.each)
]

-- what is not cut is no path but the root
pub no_parts_no_path : (text : List ℕ) (names : List (List ℕ)) → (text ≡ root → ⊥) → parts_of text ≡ None → IsPath names text → ⊥
no_parts_no_path text names other e h = elim (path_cases text names h) [
  | inl first ↦ other first.1
  | inr first ↦ cc (first, e)
]

pub pattern_is : (text : List ℕ) (directory : List (List ℕ)) (last : List ℕ) → parts_of text ≡ Some (directory ++ last ∷ []) → All IsName directory → IsLastPart last
    → IsPattern directory last text
pattern_is text directory last e h ending =
    let read = parts_is text (directory ++ last ∷ []) e in
    let size = length-append directory (last ∷ []) in
    record { few = omega (arith, read.0); each = h; ending = ending; spelled = read.1 }

-- the parts of a pattern are what is cut
pub pattern_parts : (text : List ℕ) (directory : List (List ℕ)) (last : List ℕ) → IsPattern directory last text → parts_of text ≡ Some (directory ++ last ∷ [])
pattern_parts text [] last h = parts_again text last [] h.spelled (All-push HasNoBackslash [] last (names_have_none [] h.each) (last_part_has_none last h.ending)) (omega arith)
pattern_parts text (name ∷ names) last h =
    let size = length-append names (last ∷ []) in
    let few = h.few in
    parts_again text name (names ++ last ∷ []) h.spelled (All-push HasNoBackslash (name ∷ names) last (names_have_none (name ∷ names) h.each) (last_part_has_none last h.ending)) (omega arith)

-- a text is the pattern of one directory and one last part at most
pub one_pattern : (x y : List (List ℕ)) (v w text : List ℕ) → IsPattern x v text → IsPattern y w text → (x ≡ y) × (v ≡ w)
one_pattern x y v w text h k = same_from_push x y v w (same_Some _ _ (sym (pattern_parts text x v h) ∙ pattern_parts text y w k))

-- the last part and those before it, of what shows them
pub parts_push : {X : Type 0} (show : X → List ℕ) (text : List ℕ) (xs front : List X) (x : X) → parts_of text ≡ Some (map show xs) → xs ≡ front ++ x ∷ []
    → parts_of text ≡ Some (map show front ++ show x ∷ [])
parts_push show text xs front x e same = e ∙ ap (λ ys. Some (map show ys)) same ∙ ap Some (map_push show front x)

-- what is cut and has not what a pattern needs is none
pub no_pattern : (text : List ℕ) (front : List (List ℕ)) (end : List ℕ) (directory : List (List ℕ)) (last : List ℕ) → parts_of text ≡ Some (front ++ end ∷ [])
    → (All IsName front → IsLastPart end → ⊥) → IsPattern directory last text → ⊥
no_pattern text front end directory last e bad h =
    let same = same_from_push directory front last end (same_Some _ _ (sym (pattern_parts text directory last h) ∙ e)) in
    bad (subst (λ (xs : List (List ℕ)). All IsName xs) same.0 h.each) (subst IsLastPart same.1 h.ending)

-- what is not cut is no pattern
pub no_parts_no_pattern : (text : List ℕ) (directory : List (List ℕ)) (last : List ℕ) → parts_of text ≡ None → IsPattern directory last text → ⊥
no_parts_no_pattern text directory last e h = cc (pattern_parts text directory last h, e)

-- a pattern has a part
pub pattern_has_a_part : {X : Type 0} (show : X → List ℕ) (text : List ℕ) (xs : List X) (directory : List (List ℕ)) (last : List ℕ) → parts_of text ≡ Some (map show xs) → length xs ≡ 0
    → IsPattern directory last text → ⊥
pattern_has_a_part show text xs directory last e none h =
    let same : directory ++ last ∷ [] ≡ map show xs = same_Some _ _ (sym (pattern_parts text directory last h) ∙ e) in
    omega (arith, ap length same, length-append directory (last ∷ []), length-map xs show)

-- the names before the last part are fewer than the parts
pub few_before : {X : Type 0} (show : X → List ℕ) (text : List ℕ) (front : List X) (end : List ℕ) → parts_of text ≡ Some (map show front ++ end ∷ []) → length front ≤ MOST_PARTS
few_before show text front end e =
    let read = parts_is text (map show front ++ end ∷ []) e in
    omega (arith, read.0, length-append (map show front) (end ∷ []), length-map front show)
