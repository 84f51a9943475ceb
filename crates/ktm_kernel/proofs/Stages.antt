-- Pages that are filled before what is written is asked.
use Rattle.std.proofs.Common.{◌≡◌, ◌≢◌, ℕ, suc, ◌+◌, ◌*◌, ◌<◌, ◌≤◌, ◌==◌, Bool, true, false, List, [], ◌∷◌, length, get_or, All, Option, refl, sym, ◌∙◌, ap, subst, arith, inl, inr}
use Rattle.std.specs.Prelude.{slice_index, IsSomeAnd}
use Rattle.std.proofs.lemmas.Bool.{and_from, both_ways, cases_Bool, eq-eqb, le-leb}
use Rattle.std.proofs.lemmas.List.{get_or_default, length-replicate}
use Rattle.std.proofs.lemmas.List.Elements.{All-cons, All-head, All-nil, All-tail}
use Rattle.ktm_base.specs.declared.limits.TheConstants.{UNIT_BYTES}
use Rattle.ktm_content.specs.Places.{LieOn, byte_at}
use Rattle.ktm_content.proofs.offered.Bytes.{place-lie}
use Rattle.ktm_base.specs.Disk.{DiskState}
use Rattle.ktm_base.proofs.offered.ToldSteps.{IsSomeAnd-map}
use Rattle.ktm_core.specs.Core.{PagesAgree, is_sound}
use Rattle.ktm_core.specs.Reading.{Agrees}
use Rattle.ktm_core.proofs.offered.Places.{files-both, files-weaker}
use Rattle.ktm_each.specs.Each.{EachFrom, EachOfFiles}
use Rattle.ktm_core.specs.Rules.{Follows}
use Rattle.ktm_core.specs.Stored.{AreFilesHeld}
use Rattle.ktm_paged.specs.Paged.{Differ, IsOwned, owners_with, page_at as page_of_place}
use Rattle.ktm_paged.specs.Laws.{StatesApart}
use Rattle.ktm_store.specs.Marks.{IsClear, MarksState, is_held}
use Rattle.ktm_store.specs.Pool.{FilledPages, Shows, TookPages, on_row}
use Rattle.ktm_store.specs.Store.{AreDistinct, AreFree, AreHeld, IsHeldAt, IsStoredAt, KeepsHeld, PoolState, StoreState, page_at}
use Rattle.ktm_store.specs.Stored.{is_stored}
use Rattle.ktm_store.proofs.offered.Holding.{byte-kept, held-below}
use Rattle.ktm_world.specs.Files.{FilesNow}
use Rattle.ktm_kernel.specs.Staging.{KeepsContents, KeepsMarks, KeepsPlaces, KeepsRows}

-- ---- pages that are held

-- of clear marks there are as many
pub clear-count : (count : ℕ) (marks : MarksState) → IsClear count marks → length marks.held ≡ count
clear-count count marks is = ap length is.held ∙ length-replicate count false

-- the places of files are on the pages that there are
pub files-below : (files : FilesNow) (store : PoolState) → AreFilesHeld store files → EachOfFiles (λ file index place. place ≤ length store.marks.held * UNIT_BYTES) files
files-below files store held = files-weaker (λ file index place. IsHeldAt store.marks place) (λ file index place. place ≤ length store.marks.held * UNIT_BYTES)
    (λ file index place is. All-head (λ p. p ≤ length store.marks.held * UNIT_BYTES) place [] (held-below store.marks.held (place ∷ []) (All-cons (IsHeldAt store.marks) place [] is (All-nil (IsHeldAt store.marks))))) files held

-- ---- what stays

-- what was filled keeps what is held
pub fills-held : (after : List ℕ → List ℕ) (many : ℕ) (places : List ℕ) (old new : PoolState) (start : ℕ) (part row later : List ℕ) → TookPages many places old new start part → FilledPages after places old new start part row later
    → KeepsHeld (on_row old row) (on_row new later)
fills-held after many places old new start part row later took fills = record {
  count = took.count;
  held = took.kept;
  bytes = fills.held;
  stored = took.stored;
  as_were = λ page is. (took.were_stored page is, fills.stored page is);
  wanted = took.wanted;
}

module _ (files : FilesNow) where
  -- one after another
  pub keeps-then : (a b c : StoreState) → KeepsContents files a b → KeepsContents files b c → KeepsContents files a c
  keeps-then a b c first then = record {
    count = then.count ∙ first.count;
    seen = files-both (λ file index place. byte_at b.seen place ≡ byte_at a.seen place) (λ file index place. byte_at c.seen place ≡ byte_at b.seen place) (λ file index place. byte_at c.seen place ≡ byte_at a.seen place)
        (λ file index place one more. more ∙ one) files first.seen then.seen;
    held = then.held;
    stored = files-both (λ file index place. IsStoredAt a.stored place → IsStoredAt b.stored place) (λ file index place. IsStoredAt b.stored place → IsStoredAt c.stored place) (λ file index place. IsStoredAt a.stored place → IsStoredAt c.stored place)
        (λ file index place one more is. more (one is)) files first.stored then.stored;
    as_were = λ page is. let (was, same) = then.as_were page is in let (before, so) = first.as_were page was in (before, same ∙ so);
    wanted = then.wanted ∙ first.wanted;
  }

  -- where the bytes are the same, on pages that are held still and stored as they were
  pub keeps-marked : (old new : PoolState) → AreFilesHeld old files → new.stored ≡ old.stored → KeepsPlaces files old new → (row : List ℕ) → KeepsContents files (on_row old row) (on_row new row)
  keeps-marked old new held stored keeps row = record {
    count = keeps.count;
    seen = files-weaker (λ file index place. IsHeldAt old.marks place) (λ file index place. byte_at row place ≡ byte_at row place) (λ file index place is. refl) files held;
    held = keeps.held;
    stored = files-weaker (λ file index place. IsHeldAt old.marks place) (λ file index place. IsStoredAt old.stored place → IsStoredAt new.stored place)
        (λ file index place is was. subst (λ (s : List Bool). IsStoredAt s place) (sym stored) was) files held;
    as_were = λ page is. (ap (λ (s : List Bool). is_stored s page) (sym stored) ∙ is, refl);
    wanted = keeps.wanted;
  }

  -- pages that were free were filled
  keeps-made : (old new : StoreState) → AreFilesHeld old files → KeepsHeld old new → KeepsContents files old new
  keeps-made old new held keeps = record {
    count = keeps.count;
    seen = files-weaker (λ file index place. IsHeldAt old.marks place) (λ file index place. byte_at new.seen place ≡ byte_at old.seen place) (λ file index place is. byte-kept old new place keeps is) files held;
    held = files-weaker (λ file index place. IsHeldAt old.marks place) (λ file index place. IsHeldAt new.marks place) (λ file index place is some. keeps.held (page_at place) (is some)) files held;
    stored = files-weaker (λ file index place. IsHeldAt old.marks place) (λ file index place. IsStoredAt old.stored place → IsStoredAt new.stored place)
        (λ file index place is was some. keeps.stored (page_at place) (is some) ∙ was some) files held;
    as_were = keeps.as_were;
    wanted = keeps.wanted;
  }

  -- ---- where pages are read and written

  -- the places are as they were
  pub places-read : (old new : PoolState) → AreFilesHeld old files → KeepsMarks old new → KeepsPlaces files old new
  places-read old new held keeps = record {
    count = ap (λ (m : MarksState). length m.held) keeps.marks;
    held = subst (λ (m : MarksState). EachOfFiles (λ file index place. IsHeldAt m place) files) (sym keeps.marks) held;
    wanted = keeps.wanted;
  }

  pub places-took : (many : ℕ) (places : List ℕ) (old new : PoolState) (start : ℕ) (part : List ℕ) → AreFilesHeld old files → TookPages many places old new start part → KeepsPlaces files old new
  places-took many places old new start part held took = record {
    count = took.count;
    held = files-weaker (λ file index place. IsHeldAt old.marks place) (λ file index place. IsHeldAt new.marks place) (λ file index place is some. took.kept (page_at place) (is some)) files held;
    wanted = took.wanted;
  }

  pub places-then : (a b c : PoolState) → KeepsPlaces files a b → KeepsPlaces files b c → KeepsPlaces files a c
  places-then a b c first then = record { count = then.count ∙ first.count; held = then.held; wanted = then.wanted ∙ first.wanted }

  -- the disk agrees still
  pub agrees-kept : (units : ℕ) (told : Option DiskState) (old new : StoreState) → KeepsContents files old new → IsSomeAnd told (PagesAgree units old) → IsSomeAnd told (PagesAgree units new)
  agrees-kept units told old new keeps agrees = IsSomeAnd-map told (PagesAgree units old) (PagesAgree units new) agrees (λ s pages page is. let (was, same) = keeps.as_were page is in pages page was ∙ sym same)

  module _ (units : ℕ) (told : Option DiskState) where
    -- a row that is shown before and then
    pub rows-marked : (old new : PoolState) → AreFilesHeld old files → new.stored ≡ old.stored → KeepsPlaces files old new → ((row : List ℕ) → Shows old row → Agrees units old row told → Shows new row) → (then : List ℕ → Type 0)
        → ((row : List ℕ) → Shows new row → Agrees units old row told → then row) → KeepsRows files units told old new then
    rows-marked old new held stored keeps shows then is row shown agrees = (row, shows row shown agrees, keeps-marked old new held stored keeps row, is row (shows row shown agrees) agrees)

    -- pages that were filled
    pub rows-filled : (after : List ℕ → List ℕ) (many : ℕ) (places : List ℕ) (old new : PoolState) (start : ℕ) (part : List ℕ) → AreFilesHeld old files → TookPages many places old new start part
        → ((row : List ℕ) → Shows old row → Agrees units old row told → (later : List ℕ) × FilledPages after places old new start part row later) → (then : List ℕ → Type 0)
        → ((row later : List ℕ) → FilledPages after places old new start part row later → then later) → KeepsRows files units told old new then
    rows-filled after many places old new start part held took filled then is row shown agrees =
        let (later, fills) = filled row shown agrees in
        (later, fills.shows, keeps-made (on_row old row) (on_row new later) held (fills-held after many places old new start part row later took fills), is row later fills)

    -- one after another
    pub rows-then : (a b c : PoolState) (then : List ℕ → Type 0) → ((row : List ℕ) → Shows a row → Agrees units a row told → (later : List ℕ) × Shows b later × KeepsContents files (on_row a row) (on_row b later))
        → KeepsRows files units told b c then → KeepsRows files units told a c then
    rows-then a b c then first more row shown agrees =
        let (mid, shows, keeps) = first row shown agrees in
        let (later, last, kept, is) = more mid shows (agrees-kept units told (on_row a row) (on_row b mid) keeps agrees) in
        (later, last, keeps-then (on_row a row) (on_row b mid) (on_row c later) keeps kept, is)

-- ---- the owners of pages that were free

-- pages of which each stands once differ
differ : (pages : List ℕ) → AreDistinct pages → Differ pages
differ [] once = tt
differ (page ∷ pages) once = (
  λ k d low same. (let e : suc k ≡ 0 = once (suc k) 0 (omega (arith, low)) (omega arith) (other k d low ∙ same) in cc),
  differ pages (λ i j a b same. (let e : suc i ≡ suc j = once (suc i) (suc j) (omega (arith, a)) (omega (arith, b)) same in omega (arith, e))),
)
  where
    other : (k d : ℕ) → k < length pages → slice_index (page ∷ pages) (suc k) ≡ get_or pages k d
    other k d low = sym (get_or_default pages k d 0 low)

-- what holds of each place of a list holds of each, whichever its index
pub from-all : (p : ℕ → ℕ → Type 0) (q : ℕ → Type 0) → ((index place : ℕ) → q place → p index place) → (from : ℕ) (xs : List ℕ) → All q xs → EachFrom p from xs
from-all p q f from [] all = tt
from-all p q f from (x ∷ xs) all = (f from x (All-head q x xs all), from-all p q f (suc from) xs (All-tail q x xs all))

pub all-from : (p : ℕ → ℕ → Type 0) (q : ℕ → Type 0) → ((index place : ℕ) → p index place → q place) → (from : ℕ) (xs : List ℕ) → EachFrom p from xs → All q xs
all-from p q f from [] each = All-nil q
all-from p q f from (x ∷ xs) each = All-cons q x xs (f from x each.0) (all-from p q f (suc from) xs each.1)

from-both : (p q r : ℕ → ℕ → Type 0) → ((index place : ℕ) → p index place → q index place → r index place) → (from : ℕ) (xs : List ℕ) → EachFrom p from xs → EachFrom q from xs → EachFrom r from xs
from-both p q r f from [] each more = tt
from-both p q r f from (x ∷ xs) each more = (f from x each.0 more.0, from-both p q r f (suc from) xs each.1 more.1)

-- a place is sound where it is none, or its owner is this and it is on one of the pages
sound-here : (owner : ℕ → ℕ × ℕ) (count file index place : ℕ) → IsOwned owner file index place → place ≤ count * UNIT_BYTES → is_sound owner count file index place ≡ true
sound-here owner count file index place (inl none) below = rw none refl
sound-here owner count file index place (inr is) below = elim (cases_Bool (place == 0)) [
  | inl none ↦ rw none refl
  | inr some ↦ rw some (and_from _ _ (and_from _ _ (eq-eqb (owner place).0 file (ap (λ (o : ℕ × ℕ). o.0) is)) (eq-eqb (owner place).1 index (ap (λ (o : ℕ × ℕ). o.1) is))) (le-leb place (count * UNIT_BYTES) below))
]

-- another owner function that gives its place the same owner
sound-same : (owner other : ℕ → ℕ × ℕ) (count file index place : ℕ) → (place ≢ 0 → other place ≡ owner place) → is_sound owner count file index place ≡ true → is_sound other count file index place ≡ true
sound-same owner other count file index place same is = elim (cases_Bool (place == 0)) [
  | inl none ↦ rw none refl
  | inr some ↦ (let e = same (λ zero. both_ways (place == 0) some (eq-eqb place 0 zero)) in rw some (rw e (rw some at is)))
]

module _ (apart : StatesApart) (old new : PoolState) (start : ℕ) (part : List ℕ) (pages : List ℕ) (lie : LieOn pages part) (once : AreDistinct pages) (free : AreFree old.marks.held part) (held : AreHeld new.marks.held part)
    (count : length new.marks.held ≡ length old.marks.held) (unit : ℕ) (begins : unit * UNIT_BYTES ≡ start) where
  -- a page that was held is none of these
  elsewhere : (place : ℕ) → is_held old.marks.held (page_at place) ≡ true → All (λ page. page_of_place place ≢ page) pages
  elsewhere place is k d low same =
      let page : ℕ = get_or pages k 0 in
      let at : get_or part (k * 4096) 0 ≡ page * 4096 + 0 + 1 = (let back : k * 4096 ≡ k * 4096 + 0 = omega arith in ap (λ n. get_or part n 0) back ∙ place-lie pages part k 0 lie (omega arith) (omega (arith, inside))) in
      let on : page_at (get_or part (k * 4096) 0) ≡ page = omega (arith, at) in
      let is_free : is_held old.marks.held page ≡ false = ap (is_held old.marks.held) (sym on) ∙ free (k * 4096) 0 inside in
      let same_page : page_at place ≡ page = same ∙ get_or_default pages k d 0 low in
      both_ways (is_held old.marks.held page) is_free (ap (is_held old.marks.held) (sym same_page) ∙ is)
    where
      inside : k * 4096 < length part
      inside = omega (arith, low, lie.units)

  module _ (owner : ℕ → ℕ × ℕ) (node : ℕ) where
    -- the owners, where the pages are those of this file
    abbrev then : ℕ → ℕ × ℕ
    then = owners_with owner node unit pages

    -- the places that were put are sound
    pub puts-sound : EachFrom (Follows (is_sound then (length new.marks.held)) node) start part
    puts-sound = subst (λ from. EachFrom (Follows (is_sound then (length new.marks.held)) node) from part) begins
        (from-both (IsOwned then node) (λ index place. place ≤ length new.marks.held * UNIT_BYTES) (Follows (is_sound then (length new.marks.held)) node) (λ index place. sound-here then (length new.marks.held) node index place) (unit * UNIT_BYTES) part
        (subst (λ (xs : List ℕ). EachFrom (IsOwned then node) (unit * UNIT_BYTES) xs) (sym lie.places) (apart.new owner node unit pages (length part) (differ pages once) (omega (arith, lie.units))))
        (from-all (λ index place. place ≤ length new.marks.held * UNIT_BYTES) (λ place. place ≤ length new.marks.held * UNIT_BYTES) (λ index place is. is) (unit * UNIT_BYTES) part (held-below new.marks.held part held)))

    -- and all others are as they were
    pub files-sound : (files : FilesNow) → AreFilesHeld old files → EachOfFiles (Follows (is_sound owner (length old.marks.held))) files → EachOfFiles (Follows (is_sound then (length new.marks.held))) files
    files-sound files were sound = subst (λ n. EachOfFiles (Follows (is_sound then n)) files) (sym count)
        (files-both (λ file index place. IsHeldAt old.marks place) (Follows (is_sound owner (length old.marks.held))) (Follows (is_sound then (length old.marks.held)))
        (λ file index place is. sound-same owner then (length old.marks.held) file index place (λ some. apart.others owner node unit pages place (elsewhere place (is some)))) files were sound)
