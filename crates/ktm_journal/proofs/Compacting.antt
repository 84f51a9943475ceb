-- What the writes of a compaction make of an image, and what may be left of it.
use Rattle.std.specs.Prelude.{IfSome}
use Rattle.std.proofs.Common.{◌≡◌, ◌≢◌, ◌⊎◌, inl, inr, ℕ, ◌+◌, ◌*◌, ◌%◌, ◌==◌, ◌<◌, ◌≤◌, if◌then◌else◌, Bool, true, false, Option, List, [], ◌∷◌, length, get_or, take, drop, refl, sym, ◌∙◌, ap, subst, arith}
use Rattle.std.proofs.lemmas.Bool.{cases_eq, true≢false}
use Rattle.ktm_base.specs.Bytes.{SameOutside, covers}
use Rattle.ktm_base.specs.Disk.{DeviceCalls, DiskState, DiskStatus, IsSafe}
use Rattle.ktm_base.specs.Told.{Goes}
use Rattle.ktm_base.proofs.offered.Images.{calls_law, same_written}
use Rattle.ktm_base.proofs.offered.ToldSteps.{Goes-map, IfSome-map, IfSome-step, IsSomeAnd-step}
use Rattle.ktm_log.specs.Log.{IsLog, LogState, area_bytes}
use Rattle.ktm_log.specs.OnDisk.{on}
use Rattle.ktm_log.specs.Settle.{Settled, Tore}
use Rattle.ktm_log.specs.declared.area.Area.{Area}
use Rattle.ktm_log.proofs.Parts.{not_covered, written_part}
use Rattle.ktm_log.proofs.Reading.{calls_most}
use Rattle.ktm_log.proofs.Steps.{Goes-two, IfSome-from_tells, IsSomeAnd-two}
use Rattle.ktm_world.specs.Groups.{Group}
use Rattle.ktm_world.specs.Sizes.{area_len}
use Rattle.ktm_journal.specs.declared.half.Half.{Half}
use Rattle.ktm_journal.specs.declared.half.Half.TheVariants.{A, B}
use Rattle.ktm_journal.specs.Compact.{Compacts, IsCutOff, LeavesOldOrNew, compacted, next_selector}
use Rattle.ktm_journal.specs.Format.{IsLaid, LaysHalf}
use Rattle.ktm_journal.specs.Image.{HasSnapshot, HoldGroups, IsHeaded, IsImage, JournalAt, JournalState, half_at, half_of, log_area, row_of}
use Rattle.ktm_journal.proofs.Laying.{byte_at}
use Rattle.ktm_journal.proofs.offered.Halves.{frames_same, half_high, half_low, halves_apart, headed_same, snapshot_same}
use Rattle.ktm_journal.proofs.offered.Rows.{row_kept}

-- ---- which half counts

is_first : Half → Bool
is_first A = true
is_first B = false

half_even : (n : ℕ) → n % 2 ≡ 0 → half_of n ≡ A
half_even n even = ap (λ k. if k == 0 then A else B) even

half_odd : (n : ℕ) → n % 2 ≡ 1 → half_of n ≡ B
half_odd n odd = ap (λ k. if k == 0 then A else B) odd

other_half : (selector : ℕ) → half_of (next_selector selector) ≢ half_of selector
unfolding is_first
other_half selector = λ same. elim (cases_eq (selector % 2) 0) [
  | inl even ↦ true≢false (ap is_first (sym (half_even selector even) ∙ sym same ∙ half_odd (next_selector selector) (omega (arith, even))))
  | inr odd ↦ true≢false (ap is_first (sym (half_even (next_selector selector) (omega (arith, odd))) ∙ same ∙ half_odd selector (omega (arith, odd))))
]

one_of_two : (one two half : Half) → two ≢ one → (half ≡ one) ⊎ (half ≡ two)
one_of_two A A half differ = absurd (differ refl)
one_of_two B B half differ = absurd (differ refl)
one_of_two A B A differ = inl refl
one_of_two A B B differ = inr refl
one_of_two B A A differ = inr refl
one_of_two B A B differ = inl refl

-- ---- what a half holds

record HalfHolds (units : ℕ) (half : Half) (snapshot : List ℕ) (log : List Group) (bytes : List ℕ) : Type 0 where
  has : HasSnapshot units half snapshot bytes
  payloads : List (List ℕ)
  groups : HoldGroups log payloads
  frames : IsLog payloads (area_bytes (log_area units half) bytes)

image_by : (units image selector : ℕ) (half : Half) (snapshot : List ℕ) (log : List Group) (bytes : List ℕ) → IsHeaded units image selector bytes → half_of selector ≡ half → HalfHolds units half snapshot log bytes → IsImage units image snapshot log bytes
image_by units image selector half snapshot log bytes headed is holds =
    let held : HalfHolds units (half_of selector) snapshot log bytes = subst (λ h. HalfHolds units h snapshot log bytes) (sym is) holds in
    record {
      selector = selector;
      formatted = record { headed = headed; has = held.has };
      payloads = held.payloads;
      groups = held.groups;
      frames = held.frames;
    }

-- the bytes are the same but in one range, which lies before this half or behind it
half_same : (units : ℕ) (half : Half) (snapshot : List ℕ) (log : List Group) (at len : ℕ) (old new : List ℕ) → (half_at units half + 2 * area_len units ≤ at) ⊎ (at + len ≤ half_at units half) → SameOutside ((at, len) ∷ []) old new
    → HalfHolds units half snapshot log old → HalfHolds units half snapshot log new
half_same units half snapshot log at len old new away same holds = record {
  has = snapshot_same old new same.same_length units half snapshot holds.has (λ place low high. here place low (omega arith));
  payloads = holds.payloads;
  groups = holds.groups;
  frames = frames_same old new same.same_length units half holds.payloads holds.frames (λ place low high. here place (omega arith) high);
}
  where
    here : (place : ℕ) → half_at units half ≤ place → place < half_at units half + 2 * area_len units → get_or new place 0 ≡ get_or old place 0
    here place low high = same.others place (not_covered at len place (elim away [ inl before ↦ inl (omega arith) | inr behind ↦ inr (omega arith) ]))

-- ---- the writes

-- a journal's image, and behind the header an idle half with this snapshot and no group
record IsPrepared (j : JournalState) (before : List ℕ) (log : List Group) (snapshot : List ℕ) (s : DiskState) : Type 0 where
  headed : IsHeaded j.units j.image j.selector s.seen
  used : HalfHolds j.units (half_of j.selector) before log s.seen
  idle : IsLaid j.units (half_of (next_selector j.selector)) snapshot s.seen
  safe : IsSafe s

laid_holds : (units : ℕ) (half : Half) (snapshot bytes : List ℕ) → IsLaid units half snapshot bytes → HalfHolds units half snapshot [] bytes
laid_holds units half snapshot bytes laid = record { has = laid.has; payloads = []; groups = tt; frames = laid.frames }

module _ (j : JournalState) (snapshot : List ℕ) where
  -- the idle half is away from the header
  front_same : (old new : List ℕ) → SameOutside ((half_at j.units (half_of (next_selector j.selector)), 2 * area_len j.units) ∷ []) old new → IsHeaded j.units j.image j.selector old → IsHeaded j.units j.image j.selector new
  front_same old new same headed =
      let low = half_low j.units (half_of (next_selector j.selector)) in
      let away : (place : ℕ) → place < half_at j.units (half_of (next_selector j.selector)) → covers ((half_at j.units (half_of (next_selector j.selector)), 2 * area_len j.units) ∷ []) place ≡ false =
      λ place before. not_covered (half_at j.units (half_of (next_selector j.selector))) (2 * area_len j.units) place (inl before) in
      headed_same old new same.same_length j.units j.image j.selector j.selector headed (λ place h. same.others place (away place (omega arith))) (same.others 2048 (away 2048 (omega arith)) ∙ headed.selector_is)

  -- the selector is away from the halves
  turned : (old new : List ℕ) (selector : ℕ) → SameOutside ((2048, 1) ∷ []) old new → get_or new 2048 0 ≡ selector → IsHeaded j.units j.image j.selector old → IsHeaded j.units j.image selector new
  turned old new selector same is headed = headed_same old new same.same_length j.units j.image j.selector selector headed (λ place h. same.others place (not_covered 2048 1 place (inl (omega arith)))) is

  -- what the idle half was laid in keeps the header
  pub laid_headed : (a b : DiskState) → IsHeaded j.units j.image j.selector a.seen → LaysHalf j.units (half_of (next_selector j.selector)) snapshot a b → IsHeaded j.units j.image j.selector b.seen
  laid_headed a b headed lays = front_same a.seen b.seen lays.elsewhere headed

  settled_same : (b d : DiskState) → 2049 ≤ length b.seen → Settled 2048 (next_selector j.selector ∷ []) b d → SameOutside ((2048, 1) ∷ []) b.seen d.seen
  settled_same b d long settled = subst (λ (l : List ℕ). SameOutside ((2048, 1) ∷ []) b.seen l) (sym settled.seen) (same_written b.seen 2048 (next_selector j.selector ∷ []) long)

  pub turned_headed : (b d : DiskState) → IsHeaded j.units j.image j.selector b.seen → Settled 2048 (next_selector j.selector ∷ []) b d → IsHeaded j.units j.image (next_selector j.selector) d.seen
  turned_headed b d headed settled =
      let long : 2049 ≤ length b.seen = omega (arith, headed.long) in
      let there = ap (λ (l : List ℕ). take 1 (drop 2048 l)) settled.seen ∙ written_part b.seen (next_selector j.selector ∷ []) 2048 (omega arith) in
      turned b.seen d.seen (next_selector j.selector) (settled_same b d long settled) (byte_at d.seen 2048 (next_selector j.selector) there) headed

  -- both writes are away from the pages
  half_pages : (a : DiskState) (image : List ℕ) → SameOutside ((half_at j.units (half_of (next_selector j.selector)), 2 * area_len j.units) ∷ []) a.seen image → row_of j.units image ≡ row_of j.units a.seen
  half_pages a image same = row_kept j.units (half_at j.units (half_of (next_selector j.selector))) (2 * area_len j.units) a.seen image (half_high j.units (half_of (next_selector j.selector))) same

  selector_pages : (b : DiskState) (image : List ℕ) → SameOutside ((2048, 1) ∷ []) b.seen image → row_of j.units image ≡ row_of j.units b.seen
  selector_pages b image same = row_kept j.units 2048 1 b.seen image (omega arith) same

  module _ (before : List ℕ) (log : List Group) where
    used_of : (s : DiskState) → JournalAt j before log s → HalfHolds j.units (half_of j.selector) before log s.seen
    used_of s at = record {
      has = at.formatted.has;
      payloads = at.payloads;
      groups = at.groups;
      frames = subst (λ (a : Area). IsLog at.payloads (area_bytes a s.seen)) at.area at.rests.log;
    }

    apart : (half_at j.units (half_of j.selector) + 2 * area_len j.units ≤ half_at j.units (half_of (next_selector j.selector))) ⊎ (half_at j.units (half_of (next_selector j.selector)) + 2 * area_len j.units ≤ half_at j.units (half_of j.selector))
    apart = halves_apart j.units (half_of j.selector) (half_of (next_selector j.selector)) (λ same. other_half j.selector (sym same))

    -- while the idle half is laid the image is as it was
    pub laying : (a b : DiskState) → JournalAt j before log a → Tore (half_at j.units (half_of (next_selector j.selector))) (2 * area_len j.units) a b → LeavesOldOrNew j before log snapshot b
    laying a b at tore image left =
        let same = tore.leaves at.rests.safe image left in
        inl (image_by j.units j.image j.selector (half_of j.selector) before log image (front_same a.seen image same at.formatted.headed) refl
        (half_same j.units (half_of j.selector) before log _ _ a.seen image apart same (used_of a at)))

    prepared : (a b : DiskState) → JournalAt j before log a → LaysHalf j.units (half_of (next_selector j.selector)) snapshot a b → IsPrepared j before log snapshot b
    prepared a b at lays = record {
      headed = laid_headed a b at.formatted.headed lays;
      used = half_same j.units (half_of j.selector) before log _ _ a.seen b.seen apart lays.elsewhere (used_of a at);
      idle = lays.laid;
      safe = lays.safe;
    }

    away : (half : Half) → 2048 + 1 ≤ half_at j.units half
    away half = omega (arith, half_low j.units half)

    -- whatever the selector holds then, one of the halves counts
    pub turning : (a b d : DiskState) → JournalAt j before log a → LaysHalf j.units (half_of (next_selector j.selector)) snapshot a b → Tore 2048 1 b d → LeavesOldOrNew j before log snapshot d
    turning a b d at lays tore image left =
        let was = prepared a b at lays in
        let same = tore.leaves was.safe image left in
        let headed = turned b.seen image (get_or image 2048 0) same refl was.headed in
        elim (one_of_two (half_of j.selector) (half_of (next_selector j.selector)) (half_of (get_or image 2048 0)) (other_half j.selector)) [
          | inl old ↦ inl (image_by j.units j.image (get_or image 2048 0) (half_of j.selector) before log image headed old
              (half_same j.units (half_of j.selector) before log 2048 1 b.seen image (inr (away (half_of j.selector))) same was.used))
          | inr new ↦ inr (image_by j.units j.image (get_or image 2048 0) (half_of (next_selector j.selector)) snapshot [] image headed new
              (half_same j.units (half_of (next_selector j.selector)) snapshot [] 2048 1 b.seen image (inr (away (half_of (next_selector j.selector)))) same
              (laid_holds j.units (half_of (next_selector j.selector)) snapshot b.seen was.idle)))
        ]

    pub begun : (a b d : DiskState) → JournalAt j before log a → LaysHalf j.units (half_of (next_selector j.selector)) snapshot a b → Settled 2048 (next_selector j.selector ∷ []) b d → JournalAt (compacted j) snapshot [] d
    begun a b d at lays settled =
        let was = prepared a b at lays in
        let half = half_of (next_selector j.selector) in
        let same = settled_same b d (omega (arith, was.headed.long)) settled in
        let headed = turned_headed b d was.headed settled in
        let inside : (place : ℕ) → half_at j.units half ≤ place → get_or d.seen place 0 ≡ get_or b.seen place 0 = λ place low. same.others place (not_covered 2048 1 place (inr (omega (arith, away half)))) in
        record {
          area = refl;
          formatted = record { headed = headed; has = snapshot_same b.seen d.seen same.same_length j.units half snapshot was.idle.has (λ place low high. inside place low) };
          payloads = [];
          groups = tt;
          rests = record {
            safe = settled.safe;
            within = omega (arith, half_high j.units half, headed.long);
            log = frames_same b.seen d.seen same.same_length j.units half [] was.idle.frames (λ place low high. inside place (omega arith));
            gate_at = refl;
          };
        }

  -- where the contents are told
  module _ (o m n : Option DiskState) where
    pub headed_laid : IfSome o (λ s. IsHeaded j.units j.image j.selector s.seen) → Goes (LaysHalf j.units (half_of (next_selector j.selector)) snapshot) o m → IfSome m (λ s. IsHeaded j.units j.image j.selector s.seen)
    headed_laid headed lays = IfSome-step o m (λ (s : DiskState). IsHeaded j.units j.image j.selector s.seen) (λ (s : DiskState). IsHeaded j.units j.image j.selector s.seen) headed lays laid_headed

    headed_turned : IfSome m (λ s. IsHeaded j.units j.image j.selector s.seen) → Goes (Settled 2048 (next_selector j.selector ∷ [])) m n → IfSome n (λ s. IsHeaded j.units j.image (next_selector j.selector) s.seen)
    headed_turned headed settled =
        IfSome-step m n (λ (s : DiskState). IsHeaded j.units j.image j.selector s.seen) (λ (s : DiskState). IsHeaded j.units j.image (next_selector j.selector) s.seen) headed settled turned_headed

    pub selector_within : IfSome m (λ s. IsHeaded j.units j.image j.selector s.seen) → IfSome m (λ s. 2048 + 1 ≤ length s.seen)
    selector_within headed = IfSome-map m (λ (s : DiskState). IsHeaded j.units j.image j.selector s.seen) (λ (s : DiskState). 2048 + 1 ≤ length s.seen) headed (λ s is. omega (arith, is.long))

    module _ (s t u : DiskStatus) where
      -- the power went before the idle half was safe
      pub cut_off_laying : DeviceCalls 4 s t true → Goes (Tore (half_at j.units (half_of (next_selector j.selector))) (2 * area_len j.units)) o m → IsCutOff snapshot (on j o s) (on j m t)
      cut_off_laying calls tore = record {
        same = refl;
        either = λ before log at. IsSomeAnd-step o m (JournalAt j before log) (LeavesOldOrNew j before log snapshot) at tore (laying before log);
        pages = λ before log at.
            Goes-map o m (JournalAt j before log) (IfSome-from_tells (JournalAt j before log) o at) tore (λ a b is torn image left. half_pages a image (torn.leaves is.rests.safe image left));
        calls = calls_most 4 6 s t true (omega arith) calls;
      }

      -- the idle half was safe, and the power went before the selector was
      module _ (first : DeviceCalls 4 s t false) (lays : Goes (LaysHalf j.units (half_of (next_selector j.selector)) snapshot) o m) where
        pub cut_off_turning : DeviceCalls 2 t u true → Goes (Tore 2048 1) m n → IsCutOff snapshot (on j o s) (on j n u)
        cut_off_turning second tore = record {
          same = refl;
          either = λ before log at. IsSomeAnd-two (JournalAt j before log) (LeavesOldOrNew j before log snapshot) o m n at lays tore (turning before log);
          pages = λ before log at.
              Goes-two (JournalAt j before log) o m n (IfSome-from_tells (JournalAt j before log) o at) lays tore
              (λ a b d is laid torn image left. selector_pages b image (torn.leaves laid.safe image left) ∙ half_pages a b.seen laid.elsewhere);
          calls = calls_law s t u 4 2 true first second;
        }

        -- both are safe
        pub compacts : (selector : ℕ) (l : LogState) → selector ≡ next_selector j.selector → l ≡ record { area = log_area j.units (half_of (next_selector j.selector)); end = 0 }
            → IfSome o (λ s. IsHeaded j.units j.image j.selector s.seen) → DeviceCalls 2 t u false → u.pending ≡ 0 → u.is_down ≡ false → Goes (Settled 2048 (next_selector j.selector ∷ [])) m n
            → Compacts snapshot (on j o s) (on (record j { selector = selector; log = l }) n u)
        compacts selector l selector_is log_is headed second pending up settled =
            let same : record j { selector = selector; log = l } ≡ compacted j =
            ap (λ k. record j { selector = k; log = l }) selector_is ∙ ap (λ (x : LogState). record j { selector = next_selector j.selector; log = x }) log_is in
            subst (λ (k : JournalState). Compacts snapshot (on j o s) (on k n u)) (sym same) (record {
              is = refl;
              begins = λ before log at. IsSomeAnd-two (JournalAt j before log) (JournalAt (compacted j) snapshot []) o m n at lays settled (begun before log);
              headed = headed_turned (headed_laid headed lays) settled;
              pages = Goes-two (λ (s : DiskState). IsHeaded j.units j.image j.selector s.seen) o m n headed lays settled
                  (λ a b d is laid turned. selector_pages b d.seen (settled_same b d (omega (arith, (laid_headed a b is laid).long)) turned) ∙ half_pages a b.seen laid.elsewhere);
              synced = record { calls = calls_law s t u 4 2 false first second; pending = pending; up = up };
            })
