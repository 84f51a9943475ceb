-- A journal while pages of its image are written, and once they are safe.
use Rattle.std.specs.Prelude.{IfSome, IsSomeAnd, IsTrue}
use Rattle.std.proofs.Common.{◌≡◌, inl, inr, ℕ, ◌+◌, ◌<◌, ◌≤◌, Bool, true, false, ◌&&◌, ◌||◌, nat_le, nat_lt, Option, List, [], ◌∷◌, length, get_or, refl, sym, ◌∙◌, ap, subst, arith}
use Rattle.std.proofs.lemmas.Bool.{cases_lt}
use Rattle.std.proofs.lemmas.List.{get_or_past}
use Rattle.ktm_base.specs.declared.limits.TheConstants.{UNIT_BYTES}
use Rattle.ktm_base.specs.Bytes.{SameOutside, covers}
use Rattle.ktm_base.specs.Disk.{Dirtied, DiskState, IsSafe, MayLeave, WriteRefused, Wrote}
use Rattle.ktm_base.specs.Told.{Goes}
use Rattle.ktm_base.proofs.offered.Images.{same_written}
use Rattle.ktm_base.proofs.offered.ToldSteps.{Goes-map, IfSome-step, IsSomeAnd-step}
use Rattle.ktm_log.specs.declared.area.Area.{Area}
use Rattle.ktm_log.specs.Log.{IsLog, Rests, area_bytes}
use Rattle.ktm_log.proofs.Parts.{not_covered}
use Rattle.ktm_world.specs.Groups.{Group}
use Rattle.ktm_journal.specs.Image.{IsHeaded, IsImage, JournalAt, JournalState, half_of, image_len, page_count, pages_at, row_of}
use Rattle.ktm_journal.specs.Pages.{IsSafeBut, JournalBut, JournalIn, PageTorn, PageWritten, PagesLaw, StaysWithin, page_at, page_ranges}
use Rattle.ktm_journal.proofs.Laying.{dirties, none_written, one_refused, stays_same}
use Rattle.ktm_journal.proofs.offered.Halves.{frames_same, half_high, headed_same, snapshot_same}
use Rattle.ktm_journal.proofs.offered.Rows.{before_pages, others_kept, row_written}

-- ---- the journal in bytes

-- a journal stands before the pages
journal_same : (j : JournalState) (snapshot : List ℕ) (log : List Group) (old new : List ℕ) → length new ≡ length old → ((place : ℕ) → place < pages_at j.units → get_or new place 0 ≡ get_or old place 0)
    → JournalIn j snapshot log old → JournalIn j snapshot log new
journal_same j snapshot log old new long same was =
    let half = half_of j.selector in
    let high = half_high j.units half in
    record {
      area = was.area;
      formatted = record {
        headed = headed_same old new long j.units j.image j.selector j.selector was.formatted.headed (λ place low. same place (omega (arith, low))) (same 2048 (omega arith) ∙ was.formatted.headed.selector_is);
        has = snapshot_same old new long j.units half snapshot was.formatted.has (λ place low behind. same place (omega (arith, behind, high)));
      };
      payloads = was.payloads;
      groups = was.groups;
      frames = frames_same old new long j.units half was.payloads was.frames (λ place low behind. same place (omega (arith, behind, high)));
      gate_at = was.gate_at;
    }

image_in : (j : JournalState) (snapshot : List ℕ) (log : List Group) (bytes : List ℕ) → JournalIn j snapshot log bytes → IsImage j.units j.image snapshot log bytes
image_in j snapshot log bytes is = record { selector = j.selector; formatted = is.formatted; payloads = is.payloads; groups = is.groups; frames = is.frames }

journal_in : (j : JournalState) (snapshot : List ℕ) (log : List Group) (s : DiskState) → JournalAt j snapshot log s → JournalIn j snapshot log s.seen
journal_in j snapshot log s at = record {
  area = at.area;
  formatted = at.formatted;
  payloads = at.payloads;
  groups = at.groups;
  frames = subst (λ (a : Area). IsLog at.payloads (area_bytes a s.seen)) at.area at.rests.log;
  gate_at = at.rests.gate_at;
}

journal_at : (j : JournalState) (snapshot : List ℕ) (log : List Group) (s : DiskState) → IsSafe s → JournalIn j snapshot log s.seen → JournalAt j snapshot log s
journal_at j snapshot log s safe is = record {
  area = is.area;
  formatted = is.formatted;
  payloads = is.payloads;
  groups = is.groups;
  rests = subst (λ (a : Area). Rests a is.payloads j.log.end s) (sym is.area) (record { safe = safe; within = omega (arith, half_high j.units (half_of j.selector), is.formatted.headed.long); log = is.frames; gate_at = is.gate_at });
}

-- ---- what may be left while pages are dirty

module _ (units : ℕ) (pages : List ℕ) (s : DiskState) (image : List ℕ) (safe : IsSafeBut units pages s) (left : MayLeave s image) where
  left_long : length image ≡ length s.seen
  left_long = omega (arith, left.no_shorter, left.no_longer, safe.shortest, safe.longest)

  left_at : (place : ℕ) → covers (page_ranges units pages) place ≡ false → get_or image place 0 ≡ get_or s.seen place 0
  left_at place clean = elim (cases_lt place s.shortest) [
    | inl before ↦ left.others place before (safe.clean place clean)
    | inr past ↦ get_or_past image place 0 (omega (arith, past, left_long, safe.shortest)) ∙ sym (get_or_past s.seen place 0 (omega (arith, past, safe.shortest)))
  ]

pub pages_law : PagesLaw
pages_law = record {
  none = λ j snapshot log s at. record {
    there = journal_in j snapshot log s at;
    safe = record { clean = λ place clean. ap (λ (d : List (ℕ × ℕ)). covers d place) at.rests.safe.clean; shortest = at.rests.safe.shortest; longest = at.rests.safe.longest };
  };
  left = λ pages j snapshot log s image but left.
      let long = left_long j.units pages s image but.safe left in
      let same = left_at j.units pages s image but.safe left in (
        image_in j snapshot log image (journal_same j snapshot log s.seen image long (λ place before. same place (before_pages j.units pages place before)) but.there),
        others_kept j.units pages s.seen image long same,
      );
  synced = λ pages j snapshot log s t but synced. journal_at j snapshot log t synced.safe (subst (λ (l : List ℕ). JournalIn j snapshot log l) (sym synced.seen) but.there);
}

-- ---- a page is written

or_first : (a b : Bool) → a || b ≡ false → a || false ≡ false
or_first true b h = h
or_first false b h = refl

or_second : (a b : Bool) → a || b ≡ false → b ≡ false
or_second true b h = cc
or_second false b h = h

module _ (units page : ℕ) (a b : DiskState) where
  -- one page more is dirty
  safe_but : (pages : List ℕ) → StaysWithin (page_at units page) UNIT_BYTES a b → IsSafeBut units pages a → IsSafeBut units (page ∷ pages) b
  safe_but pages stays safe = record {
    clean = λ place clean.
        let here = nat_le (page_at units page) place && nat_lt place (page_at units page + UNIT_BYTES) in
        stays.clean place (safe.clean place (or_second here (covers (page_ranges units pages) place) clean)) (or_first here (covers (page_ranges units pages) place) clean);
    shortest = stays.shortest ∙ safe.shortest ∙ sym stays.same.same_length;
    longest = stays.longest ∙ safe.longest ∙ sym stays.same.same_length;
  }

  before_page : StaysWithin (page_at units page) UNIT_BYTES a b → (place : ℕ) → place < pages_at units → get_or b.seen place 0 ≡ get_or a.seen place 0
  before_page stays place before = stays.same.others place (not_covered (page_at units page) UNIT_BYTES place (inl (omega (arith, before))))

  headed_but : (image selector : ℕ) → IsHeaded units image selector a.seen → StaysWithin (page_at units page) UNIT_BYTES a b → IsHeaded units image selector b.seen
  headed_but image selector headed stays =
      headed_same a.seen b.seen stays.same.same_length units image selector selector headed (λ place low. before_page stays place (omega (arith, low))) (before_page stays 2048 (omega arith) ∙ headed.selector_is)

  page_written : (bytes : List ℕ) → page < page_count units → length bytes ≡ UNIT_BYTES → image_len units ≤ length a.seen → Wrote (page_at units page) bytes a b → PageWritten units page bytes a b
  page_written bytes within whole long wrote = record {
    row = ap (λ (l : List ℕ). row_of units l) wrote.seen ∙ row_written units page a.seen bytes within whole long;
    elsewhere = subst (λ n. SameOutside ((page_at units page, n) ∷ []) a.seen b.seen) whole
        (subst (λ (l : List ℕ). SameOutside ((page_at units page, length bytes) ∷ []) a.seen l) (sym wrote.seen) (same_written a.seen (page_at units page) bytes (omega (arith, within, whole, long))));
    dirtied = subst (λ n. Dirtied (page_at units page) n a b) whole wrote.dirtied;
  }

  written_stays : (bytes : List ℕ) → PageWritten units page bytes a b → StaysWithin (page_at units page) UNIT_BYTES a b
  written_stays bytes wrote =
      dirties (page_at units page) UNIT_BYTES a a b (page_at units page) UNIT_BYTES (stays_same (page_at units page) UNIT_BYTES a) wrote.elsewhere wrote.dirtied (omega arith) (omega arith)

  page_torn : StaysWithin (page_at units page) UNIT_BYTES a b → PageTorn units page a b
  page_torn stays = record { row = others_kept units (page ∷ []) a.seen b.seen stays.same.same_length stays.same.others; stays = stays }

journal_but : (j : JournalState) (page : ℕ) (pages snapshot : List ℕ) (log : List Group) (a b : DiskState) → JournalBut pages j snapshot log a → StaysWithin (page_at j.units page) UNIT_BYTES a b
    → JournalBut (page ∷ pages) j snapshot log b
journal_but j page pages snapshot log a b but stays = record {
  there = journal_same j snapshot log a.seen b.seen stays.same.same_length (before_page j.units page a b stays) but.there;
  safe = safe_but j.units page a b pages stays but.safe;
}

-- where the contents are told
module _ (j : JournalState) (page : ℕ) (old new : Option DiskState) where
  pub written_told : (bytes : List ℕ) → page < page_count j.units → length bytes ≡ UNIT_BYTES → IfSome old (λ s. IsHeaded j.units j.image j.selector s.seen)
      → Goes (Wrote (page_at j.units page) bytes) old new → Goes (PageWritten j.units page bytes) old new
  written_told bytes within whole headed wrote =
      Goes-map old new (λ (s : DiskState). IsHeaded j.units j.image j.selector s.seen) headed wrote (λ a b is w. page_written j.units page a b bytes within whole is.long w)

  pub stays_written : (bytes : List ℕ) → IfSome old (λ s. IsHeaded j.units j.image j.selector s.seen) → Goes (PageWritten j.units page bytes) old new → Goes (StaysWithin (page_at j.units page) UNIT_BYTES) old new
  stays_written bytes headed wrote = Goes-map old new (λ (s : DiskState). IsHeaded j.units j.image j.selector s.seen) headed wrote (λ a b is w. written_stays j.units page a b bytes w)

  pub stays_refused : (down : Bool) (size : ℕ) → size ≡ UNIT_BYTES → (down ≡ false → Goes (WriteRefused (page_at j.units page) size) old new) → (IsTrue down → new ≡ old) → Goes (StaysWithin (page_at j.units page) UNIT_BYTES) old new
  stays_refused down size whole refused frozen =
      one_refused (page_at j.units page) UNIT_BYTES old old new down (page_at j.units page) size (omega arith) (omega (arith, whole)) (none_written (page_at j.units page) UNIT_BYTES old) refused frozen

  pub torn_told : IfSome old (λ s. IsHeaded j.units j.image j.selector s.seen) → Goes (StaysWithin (page_at j.units page) UNIT_BYTES) old new → Goes (PageTorn j.units page) old new
  torn_told headed stays = Goes-map old new (λ (s : DiskState). IsHeaded j.units j.image j.selector s.seen) headed stays (λ a b is within. page_torn j.units page a b within)

  pub headed_told : IfSome old (λ s. IsHeaded j.units j.image j.selector s.seen) → Goes (StaysWithin (page_at j.units page) UNIT_BYTES) old new → IfSome new (λ s. IsHeaded j.units j.image j.selector s.seen)
  headed_told headed stays =
      IfSome-step old new (λ (s : DiskState). IsHeaded j.units j.image j.selector s.seen) (λ (s : DiskState). IsHeaded j.units j.image j.selector s.seen) headed stays (λ a b is within. headed_but j.units page a b j.image j.selector is within)

  pub journal_told : Goes (StaysWithin (page_at j.units page) UNIT_BYTES) old new → (pages snapshot : List ℕ) (log : List Group) → IsSomeAnd old (JournalBut pages j snapshot log) → IsSomeAnd new (JournalBut (page ∷ pages) j snapshot log)
  journal_told stays pages snapshot log but =
      IsSomeAnd-step old new (JournalBut pages j snapshot log) (JournalBut (page ∷ pages) j snapshot log) but stays (λ a b is within. journal_but j page pages snapshot log a b is within)
