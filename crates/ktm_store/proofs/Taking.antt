-- Units of contents on pages that were free, one after another.
use Rattle.std.proofs.Common.{◌≡◌, ℕ, ◌+◌, ◌-◌, ◌*◌, ◌<◌, ◌≤◌, Bool, true, false, List, [], ◌∷◌, ◌++◌, length, get_or, set, take, Option, None, Some, sym, ◌∙◌, ap, subst, arith, inl, inr, length-append, length-set, length-take, get_or-set_same, get_or-set_other}
use Rattle.std.specs.Prelude.{◌≢◌, is_some}
use Rattle.std.proofs.lemmas.Bool.{cases_Bool, cases_eq, cases_lt}
use Rattle.std.proofs.lemmas.List.{get_or-append_right, get_or_append_left, get_or_past, take_more_set}
use Rattle.std.proofs.lemmas.Option.{same_Some}
use Rattle.ktm_base.specs.Bytes.{written}
use Rattle.ktm_base.proofs.offered.Images.{same_written}
use Rattle.ktm_page.specs.Row.{page_of}
use Rattle.ktm_store.specs.Filling.{AreWhole, HasUnits, IsNone, TookPage, TookUnits}
use Rattle.ktm_store.specs.Marks.{Took, is_held}
use Rattle.ktm_store.specs.Pool.{AreSomewhere, Shows, is_kept, kept_at}
use Rattle.ktm_store.specs.Stored.{is_stored}
use Rattle.ktm_store.specs.Store.{AreDistinct, PoolState}
use Rattle.ktm_store.proofs.offered.Holding.{page-other, page-written}

-- ---- one page

module _ (old new : PoolState) (page : ℕ) (content : List ℕ) (taken : TookPage content old page new) (whole : AreWhole old) where
  took : Took old.marks page new.marks
  took = taken.marks

  other : (held : ℕ) → is_held old.marks.held held ≡ true → held ≢ page
  other held is same = (let both : true ≡ false = sym is ∙ ap (is_held old.marks.held) same ∙ took.was_free in cc)

  now-held : is_held new.marks.held page ≡ true
  now-held = ap (λ (l : List Bool). get_or l page false) took.held ∙ get_or-set_same old.marks.held page true false took.within

  still-held : (held : ℕ) → is_held old.marks.held held ≡ true → is_held new.marks.held held ≡ true
  still-held held is = ap (λ (l : List Bool). get_or l held false) took.held ∙ get_or-set_other old.marks.held page held true false (other held is) ∙ is

  many : length new.marks.held ≡ length old.marks.held
  many = ap (λ (l : List Bool). length l) took.held ∙ length-set old.marks.held page true

  same-stored : (apart : ℕ) → apart ≢ page → is_stored new.stored apart ≡ is_stored old.stored apart
  same-stored apart is = ap (λ (l : List Bool). get_or l apart false) taken.stored ∙ get_or-set_other old.stored page apart false false is

  not-stored : is_stored new.stored page ≡ false
  not-stored = ap (λ (l : List Bool). get_or l page false) taken.stored ∙ elim (cases_lt page (length old.stored)) [
    | inl low ↦ get_or-set_same old.stored page false false low
    | inr past ↦ get_or_past (set old.stored page false) page false (omega (arith, past, length-set old.stored page false))
  ]

  not-taken : (other : ℕ) → is_stored new.stored other ≡ true → other ≢ page
  not-taken other is same = (let both : true ≡ false = sym is ∙ ap (is_stored new.stored) same ∙ not-stored in cc)

  this-kept : kept_at new.seen page ≡ Some content
  this-kept = ap (λ (l : List (Option (List ℕ))). get_or l page None) taken.seen ∙ get_or-set_same old.seen page (Some content) None (omega (arith, took.within, whole.seen))

  same-kept : (apart : ℕ) → apart ≢ page → kept_at new.seen apart ≡ kept_at old.seen apart
  same-kept apart is = ap (λ (l : List (Option (List ℕ))). get_or l apart None) taken.seen ∙ get_or-set_other old.seen page apart (Some content) None is

  pub still-whole : AreWhole new
  still-whole = record {
    seen = ap (λ (l : List (Option (List ℕ))). length l) taken.seen ∙ length-set old.seen page (Some content) ∙ whole.seen ∙ sym many;
    stored = ap (λ (l : List Bool). length l) taken.stored ∙ length-set old.stored page false ∙ whole.stored ∙ sym many;
  }

  pub still-somewhere : old.wanted ≡ [] → AreSomewhere old → AreSomewhere new
  still-somewhere none are = record {
    pages = λ at low. elim (cases_eq at page) [
      | inl same ↦ inr (ap (is_kept new.seen) same ∙ ap is_some this-kept)
      | inr apart ↦ elim (are.pages at (omega (arith, low, many))) [ inl is ↦ inl (same-stored at apart ∙ is) | inr is ↦ inr (ap is_some (same-kept at apart) ∙ is) ]
    ];
    wanted = λ k d low. absurd (omega (arith, low, ap (λ (l : List ℕ). length l) (taken.wanted ∙ none)));
  }

  -- the row that the store showed, with the page written over
  module _ (full : length content ≡ 4096) (row : List ℕ) (shows : Shows old row) where
    fits : page * 4096 + 4096 ≤ length row
    fits = omega (arith, shows.size, took.within)

    this-written : page_of (written row (page * 4096) content) page ≡ content
    this-written = page-written page row content full fits

    other-written : (apart : ℕ) → apart ≢ page → page_of (written row (page * 4096) content) apart ≡ page_of row apart
    other-written apart is = page-other page apart row content full fits is

    still-shown : Shows new (written row (page * 4096) content)
    still-shown = record { size = size; bytes = same }
      where
        size : length (written row (page * 4096) content) ≡ length new.marks.held * 4096
        size = omega (arith, (same_written row (page * 4096) content (omega (arith, fits, full))).same_length, shows.size, many)

        same : (at : ℕ) (its : List ℕ) → kept_at new.seen at ≡ Some its → page_of (written row (page * 4096) content) at ≡ its
        same at its is = elim (cases_eq at page) [
          | inl here ↦ ap (page_of (written row (page * 4096) content)) here ∙ this-written ∙ same_Some content its (sym this-kept ∙ ap (kept_at new.seen) (sym here) ∙ is)
          | inr apart ↦ other-written at apart ∙ shows.bytes at its (sym (same-kept at apart) ∙ is)
        ]

-- ---- some pages

module _ (content : ℕ → List ℕ) (first : ℕ) (pages : List ℕ) (page : ℕ) (old now new : PoolState) (whole : AreWhole now) (so : TookUnits content first pages old now) (taken : TookPage (content (first + length pages)) now page new)
    (full : length (content (first + length pages)) ≡ 4096) where
  abbrev bytes : List ℕ
  bytes = content (first + length pages)

  abbrev more : List ℕ
  more = pages ++ page ∷ []

  at-front : (n : ℕ) → n < length pages → get_or more n 0 ≡ get_or pages n 0
  at-front n front = get_or_append_left pages (page ∷ []) 0 n front

  at-end : (n : ℕ) → n < length more → length pages ≤ n → get_or more n 0 ≡ page
  at-end n low past =
      let is : length pages ≡ n = omega (arith, low, past, length-append pages (page ∷ [])) in
      let first : n - n ≡ 0 = omega arith in
      get_or-append_right pages (page ∷ []) n n 0 is (omega arith) ∙ ap (λ (k : ℕ). get_or (page ∷ []) k 0) first

  -- what holds of the pages that were taken before, and of this one, holds of all
  of-more : (P : ℕ → Type 0) → ((n : ℕ) → n < length pages → P (get_or pages n 0)) → P page → (n : ℕ) → n < length more → P (get_or more n 0)
  of-more P front last n low = elim (cases_lt n (length pages)) [
    | inl before ↦ subst P (sym (at-front n before)) (front n before)
    | inr past ↦ subst P (sym (at-end n low past)) last
  ]

  was-free : is_held old.marks.held page ≡ false
  was-free = elim (cases_Bool (is_held old.marks.held page)) [
    | inl held ↦ (let both : true ≡ false = sym (so.kept page held) ∙ taken.marks.was_free in cc)
    | inr free ↦ free
  ]

  -- a page that was taken before is another one
  not-again : (n : ℕ) → n < length pages → get_or pages n 0 ≢ page
  not-again n front is = let both : true ≡ false = sym (so.held n front) ∙ ap (is_held now.marks.held) is ∙ taken.marks.was_free in cc

  distinct : AreDistinct more
  distinct i j a b same = elim (cases_lt i (length pages)) [
    | inl front ↦ elim (cases_lt j (length pages)) [
      | inl others ↦ so.once i j front others (sym (at-front i front) ∙ same ∙ at-front j others)
      | inr past ↦ absurd (not-again i front (sym (at-front i front) ∙ same ∙ at-end j b past))
    ]
    | inr past ↦ elim (cases_lt j (length pages)) [
      | inl others ↦ absurd (not-again j others (sym (at-front j others) ∙ sym same ∙ at-end i a past))
      | inr more-past ↦ omega (arith, a, b, past, more-past, length-append pages (page ∷ []))
    ]
  ]

  were-stored : (at : ℕ) → is_stored new.stored at ≡ true → is_stored now.stored at ≡ true
  were-stored at is = sym (same-stored now new page bytes taken whole at (not-taken now new page bytes taken whole at is)) ∙ is

  -- none of all is none of those before
  none-before : (at : ℕ) → IsNone more at → IsNone pages at
  none-before at none n front is = none n (omega (arith, front, length-append pages (page ∷ []))) (at-front n front ∙ is)

  none-last : (at : ℕ) → IsNone more at → at ≢ page
  none-last at none is = none (length pages) (omega (arith, length-append pages (page ∷ []))) (at-end (length pages) (omega (arith, length-append pages (page ∷ []))) (omega arith) ∙ sym is)

  rows : (before : List ℕ) → Shows old before → (row : List ℕ) × (Shows new row × HasUnits content first more before row)
  rows before shows =
      let found = so.rows before shows in
      let has = found.1.1 in
      let row : List ℕ = written found.0 (page * 4096) bytes in
      let each : (n : ℕ) → n < length more → page_of row (get_or more n 0) ≡ content (first + n) = λ n low. elim (cases_lt n (length pages)) [
        | inl front ↦ ap (page_of row) (at-front n front) ∙ other-written now new page bytes taken whole full found.0 found.1.0 (get_or pages n 0) (not-again n front) ∙ has.each n front
        | inr past ↦ ap (page_of row) (at-end n low past) ∙ this-written now new page bytes taken whole full found.0 found.1.0 ∙ ap (λ (k : ℕ). content (first + k)) (omega (arith, low, past, length-append pages (page ∷ [])))
      ] in (
        row,
        (
          still-shown now new page bytes taken whole full found.0 found.1.0,
          record {
            each = each;
            others = λ at none. other-written now new page bytes taken whole full found.0 found.1.0 at (none-last at none) ∙ has.others at (none-before at none);
          },
        ),
      )

  units-push : TookUnits content first more old new
  units-push = record {
    count = many now new page bytes taken whole ∙ so.count;
    kept = λ at is. still-held now new page bytes taken whole at (so.kept at is);
    stored = λ at is. same-stored now new page bytes taken whole at (other now new page bytes taken whole at (so.kept at is)) ∙ so.stored at is;
    were_stored = λ at is. so.were_stored at (were-stored at is);
    not_stored = of-more (λ at. is_stored new.stored at ≡ false)
        (λ n front. same-stored now new page bytes taken whole (get_or pages n 0) (not-again n front) ∙ so.not_stored n front)
        (not-stored now new page bytes taken whole);
    wanted = taken.wanted ∙ so.wanted;
    were_free = of-more (λ at. is_held old.marks.held at ≡ false) so.were_free was-free;
    held = of-more (λ at. is_held new.marks.held at ≡ true) (λ n front. still-held now new page bytes taken whole (get_or pages n 0) (so.held n front)) (now-held now new page bytes taken whole);
    once = distinct;
    fewer = omega (arith, taken.marks.fewer, so.fewer, length-append pages (page ∷ []));
    rows = rows;
  }

-- the next unit
pub units-next : (content : ℕ → List ℕ) (first i page : ℕ) (pages : List ℕ) (old now new : PoolState) → i < length pages → AreWhole now → ((unit : ℕ) → length (content unit) ≡ 4096) → TookUnits content first (take i pages) old now
    → TookPage (content (first + i)) now page new → TookUnits content first (take (i + 1) (set pages i page)) old new
units-next content first i page pages old now new low whole full so taken =
    let many : i ≡ length (take i pages) = omega (arith, low, length-take i pages) in
    let of_unit = subst (λ (n : ℕ). TookPage (content (first + n)) now page new) many taken in
    subst (λ (l : List ℕ). TookUnits content first l old new) (sym (take_more_set pages i page low))
    (units-push content first (take i pages) page old now new whole so of_unit (full (first + length (take i pages))))
