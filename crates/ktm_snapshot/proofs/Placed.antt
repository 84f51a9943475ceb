-- A recorded part of a transaction's work is told from the part that a state has, and takes as many bytes as are counted for that.
use Rattle.std.proofs.Common.{◌≡◌, ℕ, zero, suc, ◌+◌, ◌-◌, ◌/◌, ◌==◌, true, false, All, List, [], ◌∷◌, ◌++◌, length, get_or, drop, map, sum_by, refl, sym, ◌∙◌, ap, ap₂, arith}
use Rattle.std.specs.List.{AllByRecursion, list_all}
use Rattle.std.proofs.lemmas.Bool.{and_parts, eqb-true, true≢false}
use Rattle.std.proofs.lemmas.List.Elements.{All-from_recursion}
use Rattle.std.proofs.lemmas.List.Sums.{sum_by-cons}
use Rattle.ktm_content.specs.Contents.{units_of}
use Rattle.ktm_content.specs.Places.{LieOn, places_on}
use Rattle.ktm_content.proofs.offered.Placing.{drop-places_on, get_or-places_on, length-places_on}
use Rattle.ktm_event.specs.Spelling.{IsRecordableChange}
use Rattle.ktm_world.specs.declared.change.Change.{Change}
use Rattle.ktm_world.specs.declared.change.Change.TheVariants.{Make, Put, Cut, Move, Drop}
use Rattle.ktm_world.specs.declared.change.Contents.{Contents}
use Rattle.ktm_world.specs.declared.change.Contents.TheVariants.{Whole, Paged}
use Rattle.ktm_world.specs.declared.event.Part.{Part}
use Rattle.ktm_world.specs.declared.event.Part.TheVariants.{Enlistment, Changes, Settings}
use Rattle.ktm_world.specs.Sizes.{change_size, part_size, put_size}
use Rattle.ktm_snapshot.specs.Works.{has_page_each, is_of_work, is_work, placed, placed_change, placed_part}

-- ---- pages from places

-- the pages of so many units
pages_under : ℕ → List ℕ → List ℕ
pages_under zero places = []
pages_under (suc units) places = (get_or places 0 0 - 1) / 4096 ∷ pages_under units (drop 4096 places)

under-places : (units : ℕ) (pages : List ℕ) (size : ℕ) → length pages ≡ units → units ≡ (size + 4095) / 4096 → pages_under units (places_on pages size) ≡ pages
unfolding pages_under
under-places zero [] size long all = refl
under-places zero (page ∷ pages) size long all = absurd (omega (arith, long))
under-places (suc units) [] size long all = absurd (omega (arith, long))
under-places (suc units) (page ∷ pages) size long all =
    let at = get_or-places_on (page ∷ pages) size 0 0 (omega arith) (omega arith) (omega (arith, all)) in
    let first : (get_or (places_on (page ∷ pages) size) 0 0 - 1) / 4096 ≡ page = omega (arith, at) in
    let rest : drop 4096 (places_on (page ∷ pages) size) ≡ places_on pages (size - 4096) = drop-places_on (page ∷ pages) size 1 in
    ap₂ (λ (p : ℕ) (ps : List ℕ). p ∷ ps) first (ap (pages_under units) rest ∙ under-places units pages (size - 4096) (omega (arith, long)) (omega (arith, all)))

-- contents lie on one list of pages
pub pages-one : (contents pages pages' : List ℕ) → LieOn pages contents → LieOn pages' contents → pages ≡ pages'
pages-one contents pages pages' lie lie' = sym (found pages lie) ∙ found pages' lie'
  where
    found : (ps : List ℕ) → LieOn ps contents → pages_under (units_of contents) contents ≡ ps
    found ps lies = ap (pages_under (units_of contents)) lies.places ∙ under-places (units_of contents) ps (length contents) lies.units refl

-- ---- contents

-- so many bytes on a page each lie on them
pub lie-on : (pages : List ℕ) (len : ℕ) → length pages ≡ (len + 4095) / 4096 → (length (places_on pages len) ≡ len) × LieOn pages (places_on pages len)
lie-on pages len many =
    let long : length (places_on pages len) ≡ len = length-places_on pages len (omega (arith, many)) in
    (long, record { units = many ∙ ap (λ (n : ℕ). (n + 4095) / 4096) (sym long); places = ap (places_on pages) (sym long) })

-- the recorded contents that these are
recorded_contents : Contents → Contents
recorded_contents (Whole places) = Paged (length places) (pages_under (units_of places) places)
recorded_contents (Paged len pages) = Paged len pages

back-contents : (contents : Contents) → has_page_each contents ≡ true → recorded_contents (placed contents) ≡ contents
unfolding recorded_contents
back-contents (Whole bytes) has = absurd (true≢false (sym has))
back-contents (Paged len pages) has =
    let (long, lie) = lie-on pages len (eqb-true (length pages) ((len + 4095) / 4096) has) in
    let places = places_on pages len in
    ap₂ Paged long (ap (pages_under (units_of places)) lie.places ∙ under-places (units_of places) pages (length places) lie.units refl)

size-contents : (contents : Contents) → has_page_each contents ≡ true → put_size (placed contents) ≡ put_size contents
size-contents (Whole bytes) has = refl
size-contents (Paged len pages) has =
    let many = eqb-true (length pages) ((len + 4095) / 4096) has in
    let long = (lie-on pages len many).0 in
    omega (arith, many, long)

-- ---- one change

recorded_change : Change → Change
recorded_change (Put node offset contents) = Put node offset (recorded_contents contents)
recorded_change (Make node parent kind name) = Make node parent kind name
recorded_change (Cut node size pages) = Cut node size pages
recorded_change (Move node parent name) = Move node parent name
recorded_change (Drop node) = Drop node

back : (change : Change) → is_of_work change ≡ true → recorded_change (placed_change change) ≡ change
unfolding recorded_change
back (Put node offset contents) is = ap (Put node offset) (back-contents contents (and_parts (offset == 0) (has_page_each contents) is).1)
back (Make node parent kind name) is = refl
back (Cut node size pages) is = refl
back (Move node parent name) is = refl
back (Drop node) is = refl

size-change : (change : Change) → is_of_work change ≡ true → change_size (placed_change change) ≡ change_size change
size-change (Put node offset contents) is = ap (λ (n : ℕ). 17 + n) (size-contents contents (and_parts (offset == 0) (has_page_each contents) is).1)
size-change (Make node parent kind name) is = refl
size-change (Cut node size pages) is = refl
size-change (Move node parent name) is = refl
size-change (Drop node) is = refl

-- it puts no contents but such as stand on pages
recordable : (change : Change) → is_of_work change ≡ true → IsRecordableChange change
recordable (Put node offset (Whole bytes)) is = absurd (true≢false (sym (and_parts (offset == 0) false is).1))
recordable (Put node offset (Paged len pages)) is = tt
recordable (Make node parent kind name) is = tt
recordable (Cut node size pages) is = tt
recordable (Move node parent name) is = tt
recordable (Drop node) is = tt

-- ---- a part

back-all : (changes : List Change) → list_all is_of_work changes ≡ true → map recorded_change (map placed_change changes) ≡ changes
back-all [] is = refl
back-all (change ∷ changes) is =
    let both = and_parts (is_of_work change) (list_all is_of_work changes) is in
    ap₂ (λ (c : Change) (cs : List Change). c ∷ cs) (back change both.0) (back-all changes both.1)

recorded_part : Part → Part
recorded_part (Changes changes) = Changes (map recorded_change changes)
recorded_part (Enlistment enlistment manager information) = Enlistment enlistment manager information
recorded_part (Settings settings) = Settings settings

back-part : (part : Part) → is_work part ≡ true → recorded_part (placed_part part) ≡ part
unfolding recorded_part
back-part (Changes changes) is = ap Changes (back-all changes is)
back-part (Enlistment enlistment manager information) is = refl
back-part (Settings settings) is = refl

-- a part of a state is one recorded part
pub part-one : (part part' : Part) → is_work part ≡ true → is_work part' ≡ true → placed_part part ≡ placed_part part' → part ≡ part'
part-one part part' is is' same = sym (back-part part is) ∙ ap recorded_part same ∙ back-part part' is'

size-all : (changes : List Change) → list_all is_of_work changes ≡ true → sum_by change_size (map placed_change changes) ≡ sum_by change_size changes
size-all [] is = refl
size-all (change ∷ changes) is =
    let both = and_parts (is_of_work change) (list_all is_of_work changes) is in
    sum_by-cons change_size (placed_change change) (map placed_change changes)
    ∙ ap₂ (λ (a b : ℕ). a + b) (size-change change both.0) (size-all changes both.1)
    ∙ sym (sum_by-cons change_size change changes)

pub size-part : (part : Part) → is_work part ≡ true → part_size (placed_part part) ≡ part_size part
size-part (Changes changes) is = ap (λ (n : ℕ). 5 + n) (size-all changes is)
size-part (Enlistment enlistment manager information) is = refl
size-part (Settings settings) is = refl

-- changes of names before others
pub names-recordable : (names more : List Change) → list_all is_of_work (names ++ more) ≡ true → All IsRecordableChange names
names-recordable names more is = All-from_recursion IsRecordableChange names (each names is)
  where
    each : (changes : List Change) → list_all is_of_work (changes ++ more) ≡ true → AllByRecursion IsRecordableChange changes
    each [] is' = tt
    each (change ∷ changes) is' =
        let both = and_parts (is_of_work change) (list_all is_of_work (changes ++ more)) is' in
        (recordable change both.0, each changes both.1)
