-- The bytes that a row of pages has at places, and contents that lie on pages.
use Rattle.std.proofs.Common.{◌≡◌, ℕ, ◌+◌, ◌-◌, ◌*◌, ◌/◌, ◌<◌, ◌≤◌, ◌==◌, false, if◌then◌else◌, List, [], ◌∷◌, ◌++◌, length, get_or, take, drop, map, replicate, refl, sym, ◌∙◌, ap, ap₂, arith, zero, suc, length-take, length-drop}
use Rattle.std.specs.Prelude.{Contains, flat_map}
use Rattle.std.proofs.lemmas.Bool.Decides.{nat_tests}
use Rattle.std.proofs.lemmas.Grind.{same_number_lists}
use Rattle.std.proofs.lemmas.List.{drop-map, get_or-drop, get_or-map, get_or-take, length-map, map-append, take-map}
use Rattle.ktm_page.specs.Row.{page_of}
use Rattle.ktm_content.specs.Contents.{cut_to, put_over}
use Rattle.ktm_content.specs.Places.{LieOn, byte_at, places_of, places_on}
use Rattle.ktm_content.proofs.offered.Placing.{get_or-places, get_or-places_on, length-places, length-places_on}

-- ---- bytes at places

-- the byte at a place is the one before it in the row
pub byte_at-place : (seen : List ℕ) (n : ℕ) → byte_at seen (n + 1) ≡ get_or seen n 0
byte_at-place seen n =
    let some : (n + 1 == 0) ≡ false = grind (arith, nat_tests) in
    ap (λ b. if b then 0 else get_or seen (n + 1 - 1) 0) some ∙ ap (λ k. get_or seen k 0) (omega arith)

-- a byte of a page
get_or-page : (seen : List ℕ) (page i : ℕ) → i < 4096 → get_or (page_of seen page) i 0 ≡ get_or seen (page * 4096 + i) 0
get_or-page seen page i low = get_or-take (page * 4096 + 4096 - page * 4096) (drop (page * 4096) seen) i 0 (omega arith) ∙ get_or-drop (page * 4096) seen i 0

-- the byte at a place of a page
pub get_or-bytes : (seen : List ℕ) (page i : ℕ) → i < 4096 → get_or (map (byte_at seen) (places_of page)) i 0 ≡ get_or (page_of seen page) i 0
get_or-bytes seen page i low =
    get_or-map (byte_at seen) (places_of page) i 0 0 (omega (arith, low, length-places page))
    ∙ ap (byte_at seen) (get_or-places page i low)
    ∙ byte_at-place seen (page * 4096 + i)
    ∙ sym (get_or-page seen page i low)

length-bytes : (seen : List ℕ) (page : ℕ) → length (map (byte_at seen) (places_of page)) ≡ 4096
length-bytes seen page = length-map (places_of page) (byte_at seen) ∙ length-places page

-- the bytes at the places of a page are those of the page
pub bytes-page : (seen : List ℕ) (count page : ℕ) → count * 4096 ≤ length seen → page < count → map (byte_at seen) (places_of page) ≡ page_of seen page
bytes-page seen count page long below =
    same_number_lists (map (byte_at seen) (places_of page)) (page_of seen page)
    (omega (arith, length-bytes seen page, long, below, length-take (page * 4096 + 4096 - page * 4096) (drop (page * 4096) seen), length-drop (page * 4096) seen))
    (λ k low. get_or-bytes seen page k (omega (arith, low, length-bytes seen page)))

-- those of pages, one behind another
bytes-pages : (seen : List ℕ) (count : ℕ) (pages : List ℕ) → count * 4096 ≤ length seen → ((page : ℕ) → Contains pages page → page < count) → map (byte_at seen) (flat_map places_of pages) ≡ flat_map (page_of seen) pages
bytes-pages seen count [] long below = refl
bytes-pages seen count (page ∷ pages) long below =
    map-append (byte_at seen) (places_of page) (flat_map places_of pages)
    ∙ ap₂ (λ (a b : List ℕ). a ++ b)
    (bytes-page seen count page long (below page (0, omega arith, refl)))
    (bytes-pages seen count pages long (λ p there. below p (suc there.0, omega (arith, there.1), there.2)))

-- so many bytes on pages
pub bytes-places_on : (seen : List ℕ) (count : ℕ) (pages : List ℕ) (size : ℕ) → count * 4096 ≤ length seen → ((page : ℕ) → Contains pages page → page < count)
    → map (byte_at seen) (places_on pages size) ≡ take size (flat_map (page_of seen) pages)
bytes-places_on seen count pages size long below = sym (take-map (byte_at seen) size (flat_map places_of pages)) ∙ ap (take size) (bytes-pages seen count pages long below)

same-page : (old new : List ℕ) (page : ℕ) → page_of new page ≡ page_of old page → map (byte_at new) (places_of page) ≡ map (byte_at old) (places_of page)
same-page old new page same =
    same_number_lists (map (byte_at new) (places_of page)) (map (byte_at old) (places_of page))
    (length-bytes new page ∙ sym (length-bytes old page))
    (λ k low.
    let inside : k < 4096 = omega (arith, low, length-bytes new page) in
    get_or-bytes new page k inside ∙ ap (λ l. get_or l k 0) same ∙ sym (get_or-bytes old page k inside))

same-all : (old new pages : List ℕ) → ((page : ℕ) → Contains pages page → page_of new page ≡ page_of old page) → map (byte_at new) (flat_map places_of pages) ≡ map (byte_at old) (flat_map places_of pages)
same-all old new [] same = refl
same-all old new (page ∷ pages) same =
    map-append (byte_at new) (places_of page) (flat_map places_of pages)
    ∙ ap₂ (λ (a b : List ℕ). a ++ b)
    (same-page old new page (same page (0, omega arith, refl)))
    (same-all old new pages (λ p there. same p (suc there.0, omega (arith, there.1), there.2)))
    ∙ sym (map-append (byte_at old) (places_of page) (flat_map places_of pages))

-- where two rows have the same bytes on these pages, they have the same ones at their places
pub bytes-same : (old new pages : List ℕ) (size : ℕ) → ((page : ℕ) → Contains pages page → page_of new page ≡ page_of old page) → map (byte_at new) (places_on pages size) ≡ map (byte_at old) (places_on pages size)
bytes-same old new pages size same =
    sym (take-map (byte_at new) size (flat_map places_of pages)) ∙ ap (take size) (same-all old new pages same) ∙ take-map (byte_at old) size (flat_map places_of pages)

-- ---- bytes at places that are cut and put

map-none : (seen : List ℕ) (n : ℕ) → map (byte_at seen) (replicate n 0) ≡ replicate n 0
map-none seen zero = refl
map-none seen (suc n) = ap (λ (l : List ℕ). 0 ∷ l) (map-none seen n)

-- the bytes of what is cut are those that are cut
pub bytes-cut : (seen contents : List ℕ) (size : ℕ) → map (byte_at seen) (cut_to contents size) ≡ cut_to (map (byte_at seen) contents) size
bytes-cut seen contents size =
    map-append (byte_at seen) (take size contents) (replicate (size - length contents) 0)
    ∙ ap₂ (λ (a b : List ℕ). a ++ b)
    (sym (take-map (byte_at seen) size contents))
    (map-none seen (size - length contents) ∙ ap (λ n. replicate (size - n) 0) (sym (length-map contents (byte_at seen))))

-- the bytes of what is put over others are put over theirs
pub bytes-put : (seen old : List ℕ) (start : ℕ) (new : List ℕ) → map (byte_at seen) (put_over old start new) ≡ put_over (map (byte_at seen) old) start (map (byte_at seen) new)
bytes-put seen old start new =
    map-append (byte_at seen) (cut_to old start ++ new) (drop (start + length new) old)
    ∙ ap₂ (λ (a b : List ℕ). a ++ b)
    (map-append (byte_at seen) (cut_to old start) new ∙ ap (λ (l : List ℕ). l ++ map (byte_at seen) new) (bytes-cut seen old start))
    (sym (drop-map (byte_at seen) (start + length new) old) ∙ ap (λ n. drop (start + n) (map (byte_at seen) old)) (sym (length-map new (byte_at seen))))

-- ---- contents that lie on pages

pub lie-on : (pages : List ℕ) (size : ℕ) → length pages ≡ (size + 4095) / 4096 → LieOn pages (places_on pages size)
lie-on pages size units =
    let long : length (places_on pages size) ≡ size = length-places_on pages size (omega (arith, units)) in
    record { units = units ∙ ap (λ n. (n + 4095) / 4096) (sym long); places = ap (places_on pages) (sym long) }

-- the bytes of contents are those of their pages
pub bytes-lie : (seen : List ℕ) (count : ℕ) (pages contents : List ℕ) → count * 4096 ≤ length seen → ((page : ℕ) → Contains pages page → page < count) → LieOn pages contents
    → map (byte_at seen) contents ≡ take (length contents) (flat_map (page_of seen) pages)
bytes-lie seen count pages contents long below lie = ap (map (byte_at seen)) lie.places ∙ bytes-places_on seen count pages (length contents) long below

-- contents on pages of which two rows have the same bytes have the same bytes in both
pub bytes-lie-same : (old new pages contents : List ℕ) → LieOn pages contents → ((page : ℕ) → Contains pages page → page_of new page ≡ page_of old page) → map (byte_at new) contents ≡ map (byte_at old) contents
bytes-lie-same old new pages contents lie same =
    ap (map (byte_at new)) lie.places ∙ bytes-same old new pages (length contents) same ∙ ap (map (byte_at old)) (sym lie.places)

-- the place of a byte of contents
pub place-lie : (pages contents : List ℕ) (unit i : ℕ) → LieOn pages contents → i < 4096 → unit * 4096 + i < length contents → get_or contents (unit * 4096 + i) 0 ≡ get_or pages unit 0 * 4096 + i + 1
place-lie pages contents unit i lie low there =
    ap (λ (l : List ℕ). get_or l (unit * 4096 + i) 0) lie.places
    ∙ get_or-places_on pages (length contents) unit i (omega (arith, there, lie.units)) low there

-- contents lie on one list of pages alone
pub one-list : (pages others contents : List ℕ) → LieOn pages contents → LieOn others contents → pages ≡ others
one-list pages others contents lie lies =
    same_number_lists pages others (lie.units ∙ sym lies.units)
    (λ k low.
    let there : k * 4096 + 0 < length contents = omega (arith, low, lie.units) in
    omega (arith, place-lie pages contents k 0 lie (omega arith) there, place-lie others contents k 0 lies (omega arith) there))
