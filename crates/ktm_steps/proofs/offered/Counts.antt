-- What counts of a course once an enlistment that takes part has answered.
use Rattle.std.specs.Prelude.{if◌then◌else◌, cond}
use Rattle.std.proofs.Common.{◌≡◌, ℕ, ◌+◌, ◌-◌, ◌==◌, ◌&&◌, ◌||◌, not, Bool, true, false, List, [], ◌∷◌, ◌++◌, length, count_by, None, is_some, refl, sym, ◌∙◌, ap, arith, inl, inr, filter}
use Rattle.std.proofs.lemmas.Bool.{and_from, cases_Bool, true≢false}
use Rattle.std.proofs.lemmas.Bool.Decides.{nat_tests}
use Rattle.std.proofs.lemmas.List.{map-append}
use Rattle.std.proofs.lemmas.List.Sums.{length-filter, sum_by-append, sum_by-cons}
use Rattle.std.specs.List.{list_any}
use Rattle.ktm_world.specs.Enlistments.{Enlistment, allows_one_phase, asks_pre_prepare, has_id, is_ordinary, takes_part, with_enlistments}
use Rattle.ktm_world.specs.Phases.{Course, changing_one, one_if, superior}
use Rattle.ktm_world.specs.Rows.{without}
use Rattle.ktm_world.specs.Steps.{counted, lasting, seen, share_of}
use Rattle.ktm_steps.specs.Laws.{IsPart, someone_owes}

-- ---- counts

cond-one : (b : Bool) → cond b 1 0 ≡ one_if b
cond-one true = refl
cond-one false = refl

count-cons : {X : Type 0} (p : X → Bool) (x : X) (xs : List X) → count_by p (x ∷ xs) ≡ one_if (p x) + count_by p xs
count-cons p x xs = sum_by-cons (λ y. cond (p y) 1 0) x xs ∙ ap (λ n. n + count_by p xs) (cond-one (p x))

-- with one element more between two lists
count-between : {X : Type 0} (p : X → Bool) (xs : List X) (x : X) (ys : List X) → count_by p (xs ++ (x ∷ ys)) ≡ one_if (p x) + (count_by p xs + count_by p ys)
count-between p xs x ys = sum_by-append (λ y. cond (p y) 1 0) xs (x ∷ ys) ∙ ap (λ n. count_by p xs + n) (count-cons p x ys) ∙ omega arith

-- some element passes the test where not none does
some-more : (n : ℕ) → true ≡ not (1 + n == 0)
some-more n = grind (arith, nat_tests)

any-more : (b a : Bool) (n : ℕ) → a ≡ not (n == 0) → (b || a) ≡ not (one_if b + n == 0)
any-more true a n is = some-more n
any-more false a n is = let same : n ≡ 0 + n = omega arith in is ∙ ap (λ m. not (m == 0)) same

any-counted : {X : Type 0} (p : X → Bool) (xs : List X) → list_any p xs ≡ not (count_by p xs == 0)
any-counted p [] = refl
any-counted p (x ∷ xs) = any-more (p x) (list_any p xs) (count_by p xs) (any-counted p xs) ∙ ap (λ n. not (n == 0)) (sym (count-cons p x xs))

and-true : (a : Bool) → (a && true) ≡ a
and-true true = refl
and-true false = refl

-- how many take part
pub parts-counted : (c : Course) → counted c (λ e. true) ≡ length (filter (takes_part c.transaction.id) c.enlistments)
parts-counted c = (λ i. count_by (λ e. and-true (takes_part c.transaction.id e) i) c.enlistments) ∙ sym (length-filter (takes_part c.transaction.id) c.enlistments)

-- whether any that takes part passes the test
pub some-counted : (c : Course) (test : Enlistment → Bool) (none : Bool) → (counted c test == 0) ≡ none → list_any (λ e. takes_part c.transaction.id e && test e) c.enlistments ≡ not none
some-counted c test none is = any-counted (λ e. takes_part c.transaction.id e && test e) c.enlistments ∙ ap not is

-- ---- one enlistment is changed

and-false : (a : Bool) → (a && false) ≡ false
and-false true = refl
and-false false = refl

with-absent : (test : Enlistment → Bool) (f : Enlistment → Enlistment) (es : List Enlistment) → list_any test es ≡ false → with_enlistments test f es ≡ es
with-absent test f [] none = refl
with-absent test f (e ∷ es) none = elim (cases_Bool (test e)) [
  | inl is ↦ let all = rw is at none in absurd (true≢false all)
  | inr other ↦ let rest : list_any test es ≡ false = rw other at none in rw other (ap (λ fs. e ∷ fs) (with-absent test f es rest))
]

same_number : (n : ℕ) → (n == n) ≡ true
same_number n = grind (arith, nat_tests)

has-own : (e : Enlistment) → has_id e.id e ≡ true
has-own e = and_from _ _ (same_number (e.id).boot) (same_number (e.id).number)

one-more : (n : ℕ) → not (0 + n == 0) ≡ not (1 + n == 1)
one-more n = grind (arith, nat_tests)

module _ (c : Course) (e : Enlistment) (is : IsPart c e) (f : Enlistment → Enlistment) where
  -- the others stay
  one-changed : (changing_one c e.id f).enlistments ≡ is.before ++ (f e ∷ is.after)
  one-changed =
      ap (with_enlistments (has_id e.id) f) is.is ∙ map-append _ is.before (e ∷ is.after)
      ∙ ap (λ es. es ++ with_enlistments (has_id e.id) f (e ∷ is.after)) (with-absent (has_id e.id) f is.before is.none_before)
      ∙ ap (λ b. is.before ++ ((if b then f e else e) ∷ with_enlistments (has_id e.id) f is.after)) (has-own e)
      ∙ ap (λ es. is.before ++ (f e ∷ es)) (with-absent (has_id e.id) f is.after is.none_after)

  -- how many of the others pass the test
  others : (Enlistment → Bool) → ℕ
  others test = count_by (λ e. takes_part c.transaction.id e && test e) is.before + count_by (λ e. takes_part c.transaction.id e && test e) is.after

  count-before : (test : Enlistment → Bool) → counted c test ≡ one_if (test e) + others test
  unfolding others
  count-before test =
      ap (count_by (λ e. takes_part c.transaction.id e && test e)) is.is ∙ count-between (λ e. takes_part c.transaction.id e && test e) is.before e is.after
      ∙ ap (λ b. one_if (b && test e) + others test) is.part

  count-after : (test : Enlistment → Bool) → counted (changing_one c e.id f) test ≡ one_if (takes_part c.transaction.id (f e) && test (f e)) + others test
  unfolding others
  count-after test = ap (count_by (λ e. takes_part c.transaction.id e && test e)) one-changed ∙ count-between (λ e. takes_part c.transaction.id e && test e) is.before (f e) is.after

  -- it takes part still, and counts as before
  count-kept : (test : Enlistment → Bool) → takes_part c.transaction.id (f e) ≡ true → test (f e) ≡ test e → counted (changing_one c e.id f) test ≡ counted c test
  count-kept test part same = count-after test ∙ ap (λ b. one_if (b && test (f e)) + others test) part ∙ ap (λ b. one_if b + others test) same ∙ sym (count-before test)

  -- it takes part no more
  count-left : (test : Enlistment → Bool) → takes_part c.transaction.id (f e) ≡ false → counted (changing_one c e.id f) test ≡ counted c test - one_if (test e)
  count-left test part = count-after test ∙ ap (λ b. one_if (b && test (f e)) + others test) part ∙ sym (ap (λ n. n - one_if (test e)) (count-before test) ∙ omega arith)

  -- somebody owes an answer once it does not where another one did
  pub owed-less : is_some e.owes ≡ true → (f e).owes ≡ None → someone_owes (changing_one c e.id f) ≡ not (counted c (λ e. is_some e.owes) == 1)
  owed-less owed settled =
      let now : counted (changing_one c e.id f) (λ e. is_some e.owes) ≡ 0 + others (λ e. is_some e.owes) =
      count-after (λ e. is_some e.owes) ∙ ap (λ o. one_if (takes_part c.transaction.id (f e) && is_some o) + others (λ e. is_some e.owes)) settled
      ∙ ap (λ b. one_if b + others (λ e. is_some e.owes)) (and-false (takes_part c.transaction.id (f e))) in
      let before : counted c (λ e. is_some e.owes) ≡ 1 + others (λ e. is_some e.owes) = count-before (λ e. is_some e.owes) ∙ ap (λ b. one_if b + others (λ e. is_some e.owes)) owed in
      any-counted _ (changing_one c e.id f).enlistments ∙ ap (λ n. not (n == 0)) now ∙ one-more (others (λ e. is_some e.owes)) ∙ sym (ap (λ n. not (n == 1)) before)

  -- the counts once it takes part still, and owes nothing
  pub seen-settled : lasting (f e) ≡ lasting e → (f e).is_read_only ≡ e.is_read_only → seen (changing_one c e.id f) ≡ record (seen c) { has_superior = is_some (superior (changing_one c e.id f)); owing = counted (changing_one c e.id f) (λ e. is_some e.owes) }
  seen-settled same still =
      let part : takes_part c.transaction.id (f e) ≡ true = (λ i. is_ordinary c.transaction.id (same i) && not (still i)) ∙ is.part in
      λ i. record (seen c) {
        has_superior = is_some (superior (changing_one c e.id f));
        enlistments = count-kept (λ e. true) part refl i;
        asking = count-kept asks_pre_prepare part (ap asks_pre_prepare same) i;
        in_one_phase = count-kept allows_one_phase part (ap allows_one_phase same) i;
        owing = counted (changing_one c e.id f) (λ e. is_some e.owes);
      }

  -- the counts once it takes part no more
  pub seen-left : (f e).is_read_only ≡ true → seen (changing_one c e.id f) ≡ record (without (share_of e) (seen c)) { has_superior = is_some (superior (changing_one c e.id f)) }
  seen-left left =
      let part : takes_part c.transaction.id (f e) ≡ false = ap (λ b. is_ordinary c.transaction.id (f e) && not b) left ∙ and-false (is_ordinary c.transaction.id (f e)) in
      λ i. record (seen c) {
        has_superior = is_some (superior (changing_one c e.id f));
        enlistments = count-left (λ e. true) part i;
        asking = count-left asks_pre_prepare part i;
        in_one_phase = count-left allows_one_phase part i;
        owing = count-left (λ e. is_some e.owes) part i;
      }
