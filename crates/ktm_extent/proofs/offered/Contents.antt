-- Contents in pages, unit by unit.
use Rattle.std.proofs.Common.{◌≡◌, ℕ, zero, suc, ◌+◌, ◌-◌, ◌*◌, ◌<◌, ◌≤◌, List, [], ◌∷◌, ◌++◌, length, get_or, take, drop, refl, ◌∙◌, ap, arith, length-take, length-drop, length-append}
use Rattle.std.specs.Prelude.{Contains, flat_map}
use Rattle.std.proofs.lemmas.List.{get_or-take, get_or-drop, get_or_append_left, get_or-append_right, get_or_past, get_or_read}
use Rattle.std.proofs.lemmas.List.Elements.{Contains-get_or}
use Rattle.ktm_page.specs.Row.{RowState, page_of}
use Rattle.ktm_extent.specs.Extent.{ExtentState, IsExtent, AreBelow, AreOut, contents}
use Rattle.ktm_extent.specs.Calls.{OnlyFree}

pub length-page : (seen : List ℕ) (count page : ℕ) → count * 4096 ≤ length seen → page < count → length (page_of seen page) ≡ 4096
length-page seen count page long below = omega (arith, length-take (page * 4096 + 4096 - page * 4096) (drop (page * 4096) seen), length-drop (page * 4096) seen)

pub get_or-page : (seen : List ℕ) (page i : ℕ) → i < 4096 → get_or (page_of seen page) i 0 ≡ get_or seen (page * 4096 + i) 0
get_or-page seen page i low = get_or-take (page * 4096 + 4096 - page * 4096) (drop (page * 4096) seen) i 0 (omega arith) ∙ get_or-drop (page * 4096) seen i 0

-- the rest of a list of pages below a number
rest-below : (count page : ℕ) (pages : List ℕ) → ((p : ℕ) → Contains (page ∷ pages) p → p < count) → (p : ℕ) → Contains pages p → p < count
rest-below count page pages below p there = below p (suc there.0, omega (arith, there.1), there.2)

first-below : (count page : ℕ) (pages : List ℕ) → ((p : ℕ) → Contains (page ∷ pages) p → p < count) → page < count
first-below count page pages below = below page (0, omega arith, refl)

pub length-pages : (seen : List ℕ) (count : ℕ) (pages : List ℕ) → count * 4096 ≤ length seen → ((p : ℕ) → Contains pages p → p < count) → length (flat_map (page_of seen) pages) ≡ length pages * 4096
length-pages seen count [] long below = refl
length-pages seen count (page ∷ pages) long below =
    omega (arith, length-append (page_of seen page) (flat_map (page_of seen) pages), length-page seen count page long (first-below count page pages below), length-pages seen count pages long (rest-below count page pages below))

-- a byte of a unit is the byte of its page
pub get_or-pages : (seen : List ℕ) (count : ℕ) (pages : List ℕ) (unit i : ℕ) → count * 4096 ≤ length seen → ((p : ℕ) → Contains pages p → p < count) → unit < length pages → i < 4096
    → get_or (flat_map (page_of seen) pages) (unit * 4096 + i) 0 ≡ get_or (page_of seen (get_or pages unit 0)) i 0
get_or-pages seen count [] unit i long below there low = absurd (omega (arith, there))
get_or-pages seen count (page ∷ pages) zero i long below there low =
    ap (λ n. get_or (page_of seen page ++ flat_map (page_of seen) pages) n 0) (omega arith)
    ∙ get_or_append_left (page_of seen page) (flat_map (page_of seen) pages) 0 i (omega (arith, length-page seen count page long (first-below count page pages below)))
get_or-pages seen count (page ∷ pages) (suc unit) i long below there low =
    get_or-append_right (page_of seen page) (flat_map (page_of seen) pages) 4096 (suc unit * 4096 + i) 0 (length-page seen count page long (first-below count page pages below)) (omega arith)
    ∙ ap (λ n. get_or (flat_map (page_of seen) pages) n 0) (omega arith)
    ∙ get_or-pages seen count pages unit i long (rest-below count page pages below) (omega (arith, there)) low

-- there is a page for each unit that has a byte
pub unit-there : (e : ExtentState) (unit : ℕ) → IsExtent e → unit * 4096 < e.size → unit < length e.pages
unit-there e unit is there = omega (arith, is.units)

pub length-contents : (seen : List ℕ) (count : ℕ) (e : ExtentState) → IsExtent e → count * 4096 ≤ length seen → AreBelow count e → length (contents seen e) ≡ e.size
length-contents seen count e is long below = omega (arith, length-take e.size (flat_map (page_of seen) e.pages), length-pages seen count e.pages long below, is.units)

-- a byte of contents
pub get_or-contents : (seen : List ℕ) (count : ℕ) (e : ExtentState) (unit i : ℕ) → IsExtent e → count * 4096 ≤ length seen → AreBelow count e → i < 4096 → unit * 4096 + i < e.size
    → get_or (contents seen e) (unit * 4096 + i) 0 ≡ get_or (page_of seen (get_or e.pages unit 0)) i 0
get_or-contents seen count e unit i is long below low there =
    get_or-take e.size (flat_map (page_of seen) e.pages) (unit * 4096 + i) 0 there
    ∙ get_or-pages seen count e.pages unit i long below (unit-there e unit is (omega (arith, there))) low

-- behind the end of contents there is no byte
pub contents-end : (seen : List ℕ) (e : ExtentState) (k : ℕ) → e.size ≤ k → get_or (contents seen e) k 0 ≡ 0
contents-end seen e k past = get_or_past (contents seen e) k 0 (omega (arith, length-take e.size (flat_map (page_of seen) e.pages)))

-- the page that an index gives
pub page-at : (e : ExtentState) (unit page : ℕ) → IsExtent e → unit * 4096 < e.size → page ≡ get_or e.pages unit page → page ≡ get_or e.pages unit 0
page-at e unit page is there at = get_or_read e.pages unit page (unit-there e unit is there) at 0

pub page-below : (count : ℕ) (e : ExtentState) (unit page : ℕ) → IsExtent e → unit * 4096 < e.size → page ≡ get_or e.pages unit page → AreBelow count e → page < count
page-below count e unit page is there at below = rw (page-at e unit page is there at) (below (get_or e.pages unit 0) (Contains-get_or e.pages unit 0 (unit-there e unit is there)))

same-pages : (pages : List ℕ) (old new : List ℕ) → ((page : ℕ) → Contains pages page → page_of new page ≡ page_of old page) → flat_map (page_of new) pages ≡ flat_map (page_of old) pages
same-pages [] old new same = refl
same-pages (page ∷ pages) old new same =
    ap (λ (l : List ℕ). l ++ flat_map (page_of new) pages) (same page (0, omega arith, refl))
    ∙ ap (λ (l : List ℕ). page_of old page ++ l) (same-pages pages old new (λ p there. same p (suc there.0, omega (arith, there.1), there.2)))

-- contents in pages that have holders are as they were
pub contents-kept : (count : ℕ) (held : ℕ → ℕ) (e : ExtentState) (r s : RowState) → AreBelow count e → AreOut held e → OnlyFree count held r s → contents s.seen e ≡ contents r.seen e
contents-kept count held e r s below out only = ap (λ l. take e.size l) (same-pages e.pages r.seen s.seen (λ page there. only.kept page (below page there) (out page there)))
