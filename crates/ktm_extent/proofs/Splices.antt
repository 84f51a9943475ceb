-- A list of pages of which some are others.
use Rattle.std.proofs.Common.{◌≡◌, ◌⊎◌, ℕ, ◌+◌, ◌-◌, ◌*◌, ◌/◌, ◌%◌, ◌<◌, ◌≤◌, false, max, min, Option, List, ◌++◌, length, get_or, take, drop, replicate, refl, sym, ◌∙◌, ap, subst, arith, inl, inr, length-take, length-drop, length-append}
use Rattle.std.specs.Prelude.{Contains, IfSome, flat_map}
use Rattle.std.proofs.lemmas.Bool.{cases_lt}
use Rattle.std.proofs.lemmas.Grind.{same_number_lists}
use Rattle.std.proofs.lemmas.List.{append-nil, drop-drop, drop_all, get_or-append_right, get_or-drop, get_or-take, get_or_append_left, length-replicate, take-append-le, take_all, take-take}
use Rattle.std.proofs.lemmas.List.Elements.{Contains-get_or}
use borrow.Rule.Slice.PartMut.{put_mid}
use Rattle.ktm_base.specs.Disk.{DeviceCalls, DiskStatus}
use Rattle.ktm_base.specs.Told.{Goes}
use Rattle.ktm_page.specs.Row.{RowState, page_of}
use Rattle.ktm_world.specs.Tree.{cut_to, put_over}
use Rattle.ktm_extent.specs.Extent.{AreBelow, AreOut, ExtentState, IsExtent, contents, uses, uses_in}
use Rattle.ktm_extent.specs.Calls.{IsWritten, OnlyFree, most_calls}
use Rattle.ktm_extent.specs.Units.{AreTaken, AreWritten, first_unit, target}
use Rattle.ktm_extent.proofs.Bytes.{get_or-put_over, length-put_over, over-outside}
use Rattle.ktm_extent.proofs.Rows.{only-none}
use Rattle.ktm_extent.proofs.TakenUnits.{calls-none}
use Rattle.ktm_extent.proofs.Told.{Goes-both, Goes-same}
use Rattle.ktm_extent.proofs.offered.Contents.{get_or-contents, get_or-pages, length-contents, length-pages}
use Rattle.ktm_extent.proofs.Uses.{contains-uses, distinct-once, once-distinct, uses-append, uses-contains, uses-part}

-- ---- parts of a list

-- these pages in place of those from the first unit up to the one behind
abbrev pub spliced : List ℕ → ℕ → ℕ → List ℕ → List ℕ
spliced old first behind fresh = take first old ++ (fresh ++ drop behind old)

-- pages that are put into a copy that is long enough stand in place of those from the first unit up to the one behind
pub put-spliced : (old fresh : List ℕ) (first behind more : ℕ) → first ≤ length old → first ≤ behind → more ≡ max (length old) behind - length old → put_mid first (behind - first) (old ++ replicate {A = ℕ} more 0) fresh ≡ spliced old first behind fresh
put-spliced old fresh first behind more low order is =
    ap (λ (l : List ℕ). l ++ (fresh ++ drop (behind - first) (drop first (old ++ replicate {A = ℕ} more 0)))) (take-append-le first old (replicate {A = ℕ} more 0) low)
    ∙ ap (λ (l : List ℕ). take first old ++ (fresh ++ l)) (drop-drop (behind - first) first (old ++ replicate {A = ℕ} more 0) ∙ ap (λ n. drop n (old ++ replicate {A = ℕ} more 0)) (omega (arith, order)) ∙ rest)
  where
    rest : drop behind (old ++ replicate {A = ℕ} more 0) ≡ drop behind old
    rest = elim (cases_lt (length old) behind) [
      | inl short ↦ drop_all behind (old ++ replicate {A = ℕ} more 0) (omega (arith, length-append old (replicate {A = ℕ} more 0), length-replicate {A = ℕ} more 0, is, short)) ∙ sym (drop_all behind old (omega (arith, short)))
      | inr long ↦ (
          let none : more ≡ 0 = omega (arith, is, long) in
          ap (λ n. drop behind (old ++ replicate {A = ℕ} n 0)) none ∙ ap (λ (l : List ℕ). drop behind l) (append-nil old))
    ]

length-spliced : (old fresh : List ℕ) (first behind : ℕ) → first ≤ length old → first + length fresh ≡ behind → length (spliced old first behind fresh) ≡ max (length old) behind
length-spliced old fresh first behind low order =
    omega (arith, low, order, length-append (take first old) (fresh ++ drop behind old), length-append fresh (drop behind old), length-take first old, length-drop behind old)

spliced-front : (old fresh : List ℕ) (first behind unit : ℕ) → first ≤ length old → unit < first → get_or (spliced old first behind fresh) unit 0 ≡ get_or old unit 0
spliced-front old fresh first behind unit low before =
    get_or_append_left (take first old) (fresh ++ drop behind old) 0 unit (omega (arith, low, before, length-take first old)) ∙ get_or-take first old unit 0 before

spliced-mid : (old fresh : List ℕ) (first behind unit : ℕ) → first ≤ length old → first + length fresh ≡ behind → first ≤ unit → unit < behind → get_or (spliced old first behind fresh) unit 0 ≡ get_or fresh (unit - first) 0
spliced-mid old fresh first behind unit low order from before =
    get_or-append_right (take first old) (fresh ++ drop behind old) first unit 0 (omega (arith, low, length-take first old)) from
    ∙ get_or_append_left fresh (drop behind old) 0 (unit - first) (omega (arith, order, from, before))

spliced-end : (old fresh : List ℕ) (first behind unit : ℕ) → first ≤ length old → first + length fresh ≡ behind → behind ≤ unit → get_or (spliced old first behind fresh) unit 0 ≡ get_or old unit 0
spliced-end old fresh first behind unit low order from =
    get_or-append_right (take first old) (fresh ++ drop behind old) first unit 0 (omega (arith, low, length-take first old)) (omega (arith, order, from))
    ∙ get_or-append_right fresh (drop behind old) (length fresh) (unit - first) 0 refl (omega (arith, order, from))
    ∙ get_or-drop behind old (unit - first - length fresh) 0
    ∙ ap (λ n. get_or old n 0) (omega (arith, order, from))

-- the pages that are no more in the list
abbrev pub given : List ℕ → ℕ → ℕ → List ℕ
given old first behind = take (min behind (length old) - first) (drop first old)

uses-given : (old : List ℕ) (first behind page : ℕ) → first ≤ length old → first ≤ behind → uses_in old page ≡ uses_in (take first old) page + uses_in (given old first behind) page + uses_in (drop behind old) page
uses-given old first behind page low order =
    let rest : uses_in (given old first behind) page + uses_in (drop behind old) page ≡ uses_in (drop first old) page = ap (λ n. uses_in (given old first behind) page + n) (sym behind_is) ∙ uses-part (drop first old) (min behind (length old) - first) page in
    omega (arith, rest, uses-part old first page)
  where
    behind_is : uses_in (drop (min behind (length old) - first) (drop first old)) page ≡ uses_in (drop behind old) page
    behind_is = ap (λ (l : List ℕ). uses_in l page) (drop-drop (min behind (length old) - first) first old ∙ end)
      where
        end : drop (first + (min behind (length old) - first)) old ≡ drop behind old
        end = elim (cases_lt (length old) behind) [
          | inl short ↦ drop_all (first + (min behind (length old) - first)) old (omega (arith, short, low)) ∙ sym (drop_all behind old (omega (arith, short)))
          | inr long ↦ ap (λ n. drop n old) (omega (arith, long, order))
        ]

uses-spliced : (old fresh : List ℕ) (first behind page : ℕ) → uses_in (spliced old first behind fresh) page ≡ uses_in (take first old) page + uses_in fresh page + uses_in (drop behind old) page
uses-spliced old fresh first behind page =
    omega (arith, uses-append (take first old) (fresh ++ drop behind old) page, uses-append fresh (drop behind old) page)

-- ---- a part of an extent's pages

pub part-below : (count : ℕ) (e : ExtentState) (part : List ℕ) → AreBelow count e → ((page : ℕ) → uses_in part page ≤ uses e page) → (page : ℕ) → 0 < uses_in part page → page < count
part-below count e part below less page some = below page (uses-contains e.pages page (omega (arith, some, less page)))

pub part-out : (holders : ℕ → ℕ) (e : ExtentState) (part : List ℕ) → IsExtent e → AreOut holders e → ((page : ℕ) → uses_in part page ≤ uses e page) → (page : ℕ) → uses_in part page ≤ holders page
part-out holders e part is out less page =
    elim (cases_lt 0 (uses e page)) [
      | inl some ↦ omega (arith, distinct-once e.pages is.different page, less page, out page (uses-contains e.pages page some))
      | inr none ↦ omega (arith, none, less page)
    ]

-- each page has a holder still, where as many holders come and go as places in the extent
pub moved-out : (old new : ExtentState) (before after : ℕ → ℕ) → IsExtent old → AreOut before old → ((page : ℕ) → after page + uses old page ≡ before page + uses new page) → AreOut after new
moved-out old new before after is out moves page there =
    omega (arith, moves page, contains-uses new.pages page there, part-out before old old.pages is out (λ p. omega arith) page)

pub given-less : (old : List ℕ) (first behind page : ℕ) → first ≤ length old → first ≤ behind → uses_in (given old first behind) page ≤ uses_in old page
given-less old first behind page low order = omega (arith, uses-given old first behind page low order)

-- ---- an extent of which units are on other pages

-- what is known where pages were taken, units written on them, and the old pages of these given
pub record Splices (e : ExtentState) (at : ℕ) (bytes fresh : List ℕ) (count : ℕ) (held holds : ℕ → ℕ) : Type 0 where
  pub extent : IsExtent e
  pub below : AreBelow count e
  pub out : AreOut held e
  pub some : min e.size at < at + length bytes
  pub units : first_unit e.size at + length fresh ≡ (at + length bytes - 1) / 4096 + 1
  pub taken : AreTaken count fresh held holds

module _ (e : ExtentState) (at : ℕ) (bytes fresh : List ℕ) (count : ℕ) (held holds : ℕ → ℕ) (so : Splices e at bytes fresh count held holds) where
  abbrev pub first_new : ℕ
  first_new = first_unit e.size at

  abbrev pub first_kept : ℕ
  first_kept = (at + length bytes - 1) / 4096 + 1

  abbrev pub now : ExtentState
  now = record { size = max e.size (at + length bytes); pages = spliced e.pages first_new first_kept fresh }

  first_new-low : first_new ≤ length e.pages
  first_new-low = omega (arith, so.extent.units)

  order : first_new ≤ first_kept
  order = omega (arith, so.units)

  old-free : (page : ℕ) → 0 < uses_in fresh page → uses e page ≡ 0
  old-free page some = elim (cases_lt 0 (uses e page)) [
    | inl there ↦ absurd (omega (arith, (so.taken.new page some).1, so.out page (uses-contains e.pages page there)))
    | inr none ↦ omega (arith, none)
  ]

  once : (page : ℕ) → uses_in (spliced e.pages first_new first_kept fresh) page ≤ 1
  once page = elim (cases_lt 0 (uses_in fresh page)) [
    | inl there ↦ omega (arith, uses-spliced e.pages fresh first_new first_kept page, uses-given e.pages first_new first_kept page first_new-low order, old-free page there, so.taken.once page)
    | inr none ↦ omega (arith, none, uses-spliced e.pages fresh first_new first_kept page, uses-given e.pages first_new first_kept page first_new-low order, distinct-once e.pages so.extent.different page)
  ]

  pub now-extent : IsExtent now
  now-extent = record { units = omega (arith, length-spliced e.pages fresh first_new first_kept first_new-low so.units, so.extent.units, so.some); different = once-distinct (spliced e.pages first_new first_kept fresh) once }

  pub now-below : AreBelow count now
  now-below page there = elim (cases_lt 0 (uses_in fresh page)) [
    | inl new ↦ (so.taken.new page new).0
    | inr none ↦ so.below page (uses-contains e.pages page
        (omega (arith, none, contains-uses (spliced e.pages first_new first_kept fresh) page there, uses-spliced e.pages fresh first_new first_kept page, uses-given e.pages first_new first_kept page first_new-low order)))
  ]

  pub now-moves : (after : ℕ → ℕ) → ((page : ℕ) → after page + uses_in (given e.pages first_new first_kept) page ≡ holds page) → (page : ℕ) → after page + uses e page ≡ held page + uses now page
  now-moves after gave page = omega (arith, gave page, so.taken.holders page, uses-spliced e.pages fresh first_new first_kept page, uses-given e.pages first_new first_kept page first_new-low order)

  module _ (r s : RowState) (wrote : AreWritten (target e at bytes) first_new fresh count held r s) (long : count * 4096 ≤ length r.seen) (longer : count * 4096 ≤ length s.seen) where
    -- a byte of a unit whose page is as it was
    kept : (unit i : ℕ) → i < 4096 → unit * 4096 + i < e.size → get_or (page_of s.seen (get_or e.pages unit 0)) i 0 ≡ get_or (contents r.seen e) (unit * 4096 + i) 0
    kept unit i low there =
        let place : unit < length e.pages = omega (arith, low, there, so.extent.units) in
        let contained = Contains-get_or e.pages unit 0 place in
        ap (λ (l : List ℕ). get_or l i 0) (wrote.only.kept (get_or e.pages unit 0) (so.below _ contained) (so.out _ contained))
        ∙ sym (get_or-contents r.seen count e unit i so.extent long so.below low there)

    outer : (unit i : ℕ) → i < 4096 → unit * 4096 + i < e.size → (unit * 4096 + i < at) ⊎ (at + length bytes ≤ unit * 4096 + i) → get_or (page_of s.seen (get_or e.pages unit 0)) i 0 ≡ get_or (target e at bytes r.seen) (unit * 4096 + i) 0
    outer unit i low there out =
        kept unit i low there ∙ sym (over-outside at bytes (λ k. get_or (contents r.seen e) k 0) (unit * 4096 + i) out) ∙ sym (get_or-put_over (contents r.seen e) at bytes (unit * 4096 + i))

    unit-now : (unit i : ℕ) → i < 4096 → unit * 4096 + i < max e.size (at + length bytes) → get_or (page_of s.seen (get_or (spliced e.pages first_new first_kept fresh) unit 0)) i 0 ≡ get_or (target e at bytes r.seen) (unit * 4096 + i) 0
    unit-now unit i low there = elim (cases_lt unit first_new) [
      | inl before ↦ ap (λ p. get_or (page_of s.seen p) i 0) (spliced-front e.pages fresh first_new first_kept unit first_new-low before) ∙ outer unit i low (omega (arith, before, low)) (inl (omega (arith, before, low)))
      | inr from ↦ elim (cases_lt unit first_kept) [
        | inl within ↦ ap (λ p. get_or (page_of s.seen p) i 0) (spliced-mid e.pages fresh first_new first_kept unit first_new-low so.units from within)
            ∙ (wrote.units.each (unit - first_new) (omega (arith, from, within, so.units))).each i low
            ∙ ap (λ u. get_or (target e at bytes r.seen) (u * 4096 + i) 0) (omega (arith, from))
        | inr past ↦ ap (λ p. get_or (page_of s.seen p) i 0) (spliced-end e.pages fresh first_new first_kept unit first_new-low so.units past)
            ∙ outer unit i low (omega (arith, past, there)) (inr (omega (arith, past)))
      ]
    ]

    pub now-contents : contents s.seen now ≡ put_over (contents r.seen e) at bytes
    now-contents =
        let size = length-contents s.seen count now now-extent longer now-below in
        let old_size = length-contents r.seen count e so.extent long so.below in
        same_number_lists (contents s.seen now) (put_over (contents r.seen e) at bytes) (omega (arith, size, old_size, length-put_over (contents r.seen e) at bytes)) (λ k low.
        let split : k / 4096 * 4096 + k % 4096 ≡ k = omega arith in
        let inside : k / 4096 * 4096 + k % 4096 < max e.size (at + length bytes) = omega (arith, low, size) in
        ap (λ n. get_or (contents s.seen now) n 0) (sym split)
        ∙ get_or-contents s.seen count now (k / 4096) (k % 4096) now-extent longer now-below (omega arith) inside
        ∙ unit-now (k / 4096) (k % 4096) (omega arith) inside
        ∙ ap (λ n. get_or (target e at bytes r.seen) n 0) split)

-- what a rewrite leaves, once the old pages are given
pub rewritten : (e : ExtentState) (at : ℕ) (bytes fresh : List ℕ) (count : ℕ) (held holds after : ℕ → ℕ) (told tells : Option RowState) (before later : DiskStatus) (so : Splices e at bytes fresh count held holds)
    → ((page : ℕ) → after page + uses_in (given e.pages (first_unit e.size at) ((at + length bytes - 1) / 4096 + 1)) page ≡ holds page)
    → IfSome told (λ r. count * 4096 ≤ length r.seen) → IfSome tells (λ s. count * 4096 ≤ length s.seen) → Goes (AreWritten (target e at bytes) (first_unit e.size at) fresh count held) told tells
    → DeviceCalls (most_calls (length fresh)) before later false
    → IsWritten ((at + length bytes - 1) / 4096 + 1 - first_unit e.size at) count (max e.size (at + length bytes)) (λ old. put_over old at bytes) e (now e at bytes fresh count held holds so) held after told tells before later
rewritten e at bytes fresh count held holds after told tells before later so gave long longer wrote calls =
    let Long = λ (r : RowState). count * 4096 ≤ length r.seen in
    let Made = λ (r s : RowState). OnlyFree count held r s × (contents s.seen (now e at bytes fresh count held holds so) ≡ put_over (contents r.seen e) at bytes) in
    let units : length fresh ≡ (at + length bytes - 1) / 4096 + 1 - first_unit e.size at = omega (arith, so.units) in
    let moves = now-moves e at bytes fresh count held holds so after gave in
    record {
      size = refl;
      below = now-below e at bytes fresh count held holds so;
      out = moved-out e (now e at bytes fresh count held holds so) held after so.extent so.out moves;
      moves = moves;
      makes = Goes-both Long Long Made told tells long longer wrote (λ r s l m w. (w.only, now-contents e at bytes fresh count held holds so r s w l m));
      calls = subst (λ n. DeviceCalls (most_calls n) before later false) units calls;
    }

-- ---- the list that a rewrite makes

-- the units of a longer copy that are filled with pages
pub filled-length : (old d fresh : List ℕ) (begin behind more : ℕ) → begin ≤ length old → begin ≤ behind → more ≡ max (length old) behind - length old → d ≡ old ++ replicate {A = ℕ} more 0
    → length fresh ≡ length (take (behind - begin) (drop begin d)) → length fresh ≡ behind - begin
filled-length old d fresh begin behind more low order is d_is long =
    long ∙ ap (λ (l : List ℕ). length (take (behind - begin) (drop begin l))) d_is
    ∙ omega (arith, low, order, is, length-take (behind - begin) (drop begin (old ++ replicate {A = ℕ} more 0)), length-drop begin (old ++ replicate {A = ℕ} more 0), length-append old (replicate {A = ℕ} more 0), length-replicate {A = ℕ} more 0)

-- the copy, once they are
pub now-pages : (old d items fresh : List ℕ) (begin behind more len : ℕ) → begin ≤ length old → begin ≤ behind → more ≡ max (length old) behind - length old → d ≡ old ++ replicate {A = ℕ} more 0 → items ≡ d → len ≡ length items → length fresh ≡ behind - begin
    → take len (put_mid begin (behind - begin) d fresh ++ drop (length (put_mid begin (behind - begin) d fresh)) items) ≡ spliced old begin behind fresh
now-pages old d items fresh begin behind more len low order is d_is items_is len_is full =
    let made : put_mid begin (behind - begin) d fresh ≡ spliced old begin behind fresh = ap (λ (l : List ℕ). put_mid begin (behind - begin) l fresh) d_is ∙ put-spliced old fresh begin behind more low order is in
    let size : length (spliced old begin behind fresh) ≡ length items = long in
    ap (λ (l : List ℕ). take len (l ++ drop (length l) items)) made
    ∙ ap (λ (l : List ℕ). take len (spliced old begin behind fresh ++ l)) (drop_all (length (spliced old begin behind fresh)) items (omega (arith, size)))
    ∙ ap (λ (l : List ℕ). take len l) (append-nil (spliced old begin behind fresh))
    ∙ take_all len (spliced old begin behind fresh) (omega (arith, size, len_is))
  where
    long : length (spliced old begin behind fresh) ≡ length items
    long = omega (arith, low, order, is, full, length-spliced old fresh begin behind low (omega (arith, full, order)), ap length items_is, ap length d_is, length-append old (replicate {A = ℕ} more 0), length-replicate {A = ℕ} more 0)

-- a rewrite makes the extent with the new pages
pub made : (e : ExtentState) (at : ℕ) (bytes fresh : List ℕ) (count : ℕ) (held holds : ℕ → ℕ) (so : Splices e at bytes fresh count held holds) (d items : List ℕ) (begin more len size : ℕ) → begin ≡ first_unit e.size at
    → more ≡ max (length e.pages) ((at + length bytes - 1) / 4096 + 1) - length e.pages → d ≡ e.pages ++ replicate {A = ℕ} more 0 → items ≡ d → len ≡ length items → size ≡ max e.size (at + length bytes)
    → let list = put_mid begin ((at + length bytes - 1) / 4096 + 1 - begin) d fresh in record { size = size; pages = take len (list ++ drop (length list) items) } ≡ now e at bytes fresh count held holds so
made e at bytes fresh count held holds so d items begin more len size begin_is more_is d_is items_is len_is size_is =
    let last = (at + length bytes - 1) / 4096 + 1 in
    let low : begin ≤ length e.pages = omega (arith, begin_is, so.extent.units) in
    let order : begin ≤ last = omega (arith, begin_is, so.units) in
    let full : length fresh ≡ last - begin = omega (arith, begin_is, so.units) in
    let pages = now-pages e.pages d items fresh begin last more len low order more_is d_is items_is len_is full in
    rw (size_is, pages, begin_is) refl

-- the pages that are given, as a part of the list
pub given-part : (old d : List ℕ) (begin behind last : ℕ) → d ≡ old → last ≡ min behind (length old) → take (last - begin) (drop begin d) ≡ given old begin behind
given-part old d begin behind last d_is is = ap (λ (l : List ℕ). take (last - begin) (drop begin l)) d_is ∙ ap (λ (n : ℕ). take (n - begin) (drop begin old)) is

-- ---- an extent that is as long as it is to be

same-bytes : (old : List ℕ) (size : ℕ) → length old ≡ size → cut_to old size ≡ old
same-bytes old size long =
    ap (λ (l : List ℕ). l ++ replicate {A = ℕ} (size - length old) 0) (take_all size old (omega (arith, long)))
    ∙ ap (λ (n : ℕ). old ++ replicate {A = ℕ} n 0) none
    ∙ append-nil old
  where
    none : size - length old ≡ 0
    none = omega (arith, long)

pub grown-none : (e : ExtentState) (units count : ℕ) (held : ℕ → ℕ) (told : Option RowState) (status : DiskStatus) → IsExtent e → AreBelow count e → AreOut held e → IfSome told (λ r. count * 4096 ≤ length r.seen)
    → IsWritten units count e.size (λ old. cut_to old e.size) e e held held told told status status
grown-none e units count held told status is below out long =
    let Long = λ (r : RowState). count * 4096 ≤ length r.seen in
    let Made = λ (r s : RowState). OnlyFree count held r s × (contents s.seen e ≡ cut_to (contents r.seen e) e.size) in
    record {
      size = refl;
      below = below;
      out = out;
      moves = λ page. refl;
      makes = Goes-same Long Made told long (λ r l. (only-none count held r, sym (same-bytes (contents r.seen e) e.size (length-contents r.seen count e is l below))));
      calls = calls-none (most_calls units) status;
    }

-- ---- an extent that is cut

-- the front of the pages that hold so many bytes
pub front-bytes : (seen : List ℕ) (count : ℕ) (pages : List ℕ) (units len : ℕ) → count * 4096 ≤ length seen → ((p : ℕ) → Contains pages p → p < count) → len ≤ units * 4096
    → take len (flat_map (page_of seen) (take units pages)) ≡ take len (flat_map (page_of seen) pages)
front-bytes seen count pages units len long below fits =
    same_number_lists (take len (flat_map (page_of seen) (take units pages))) (take len (flat_map (page_of seen) pages))
    (omega (arith, fits, length-take len (flat_map (page_of seen) (take units pages)), length-take len (flat_map (page_of seen) pages), front_long, all_long, length-take units pages))
    (λ k low.
    let split : k / 4096 * 4096 + k % 4096 ≡ k = omega arith in
    let less : k < len = omega (arith, low, length-take len (flat_map (page_of seen) (take units pages))) in
    let there : k / 4096 < length (take units pages) = omega (arith, low, front_long, length-take len (flat_map (page_of seen) (take units pages))) in
    get_or-take len (flat_map (page_of seen) (take units pages)) k 0 less
    ∙ ap (λ n. get_or (flat_map (page_of seen) (take units pages)) n 0) (sym split)
    ∙ get_or-pages seen count (take units pages) (k / 4096) (k % 4096) long front_below there (omega arith)
    ∙ ap (λ p. get_or (page_of seen p) (k % 4096) 0) (get_or-take units pages (k / 4096) 0 (omega (arith, there, length-take units pages)))
    ∙ sym (get_or-pages seen count pages (k / 4096) (k % 4096) long below (omega (arith, there, length-take units pages)) (omega arith))
    ∙ ap (λ n. get_or (flat_map (page_of seen) pages) n 0) split
    ∙ sym (get_or-take len (flat_map (page_of seen) pages) k 0 less))
  where
    front_below : (p : ℕ) → Contains (take units pages) p → p < count
    front_below p there =
        let inside : there.0 < length pages = omega (arith, there.1, length-take units pages) in
        let same : get_or (take units pages) there.0 p ≡ get_or pages there.0 p = get_or-take units pages there.0 p (omega (arith, there.1, length-take units pages)) in
        below p (there.0, inside, sym same ∙ there.2)

    front_long : length (flat_map (page_of seen) (take units pages)) ≡ length (take units pages) * 4096
    front_long = length-pages seen count (take units pages) long front_below

    all_long : length (flat_map (page_of seen) pages) ≡ length pages * 4096
    all_long = length-pages seen count pages long below

-- what is left of contents that are cut
pub cut-contents : (seen : List ℕ) (count len : ℕ) (e : ExtentState) (units : ℕ) → count * 4096 ≤ length seen → AreBelow count e → len ≤ e.size → len ≤ units * 4096
    → contents seen (record { size = len; pages = take units e.pages }) ≡ take len (contents seen e)
cut-contents seen count len e units long below shorter fits = front-bytes seen count e.pages units len long below fits ∙ sym (take-take len e.size (flat_map (page_of seen) e.pages) shorter)

pub cut-extent : (len units : ℕ) (e : ExtentState) → IsExtent e → len ≤ e.size → units ≡ (len + 4095) / 4096 → IsExtent (record { size = len; pages = take units e.pages })
cut-extent len units e is shorter units_is = record {
  units = omega (arith, length-take units e.pages, is.units, shorter, units_is);
  different = λ i j d less low. λ same.
      is.different i j d less (omega (arith, low, length-take units e.pages))
      (sym (get_or-take units e.pages i d (omega (arith, less, low, length-take units e.pages))) ∙ same ∙ get_or-take units e.pages j d (omega (arith, low, length-take units e.pages)));
}

pub cut-below : (count len units : ℕ) (e : ExtentState) → AreBelow count e → AreBelow count (record { size = len; pages = take units e.pages })
cut-below count len units e below page there =
    below page (uses-contains e.pages page (omega (arith, contains-uses (take units e.pages) page there, uses-part e.pages units page)))

pub rest-less : (pages : List ℕ) (units page : ℕ) → uses_in (drop units pages) page ≤ uses_in pages page
rest-less pages units page = omega (arith, uses-part pages units page)

pub cut-moves : (pages : List ℕ) (units : ℕ) (before after : ℕ → ℕ) → ((page : ℕ) → after page + uses_in (drop units pages) page ≡ before page) → (page : ℕ) → after page + uses_in pages page ≡ before page + uses_in (take units pages) page
cut-moves pages units before after gave page = omega (arith, gave page, uses-part pages units page)
