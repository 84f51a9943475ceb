-- What the writes of a new image make of a disk.
use Rattle.std.proofs.Common.{◌≡◌, inl, inr, ℕ, ◌+◌, ◌-◌, ◌≤◌, List, [], ◌∷◌, length, get_or, take, drop, sym, ◌∙◌, ap, arith}
use Rattle.std.proofs.lemmas.List.{take-take, drop-take, get_or-take}
use Rattle.std.specs.Int.{from_le_bytes, w16, w32}
use Rattle.ktm_base.specs.declared.limits.TheConstants.{LEAST_UNITS, MOST_UNITS}
use Rattle.ktm_base.specs.Bytes.{written}
use Rattle.ktm_base.specs.Disk.{DiskState, IsSafe}
use Rattle.ktm_base.proofs.offered.Images.{length-written}
use Rattle.ktm_log.proofs.Frames.{first_at}
use Rattle.ktm_log.proofs.Parts.{written_part}
use Rattle.ktm_journal.specs.declared.half.Half.TheVariants.{A}
use Rattle.ktm_journal.specs.Image.{IsImage, empty_snapshot}
use Rattle.ktm_journal.specs.Format.{IsHeader, IsLaid, SettledBoth}
use Rattle.ktm_journal.proofs.Laying.{byte_at, written_elsewhere}
use Rattle.ktm_journal.proofs.offered.Halves.{frames_same, snapshot_same}

-- two writes, the second behind the first
module _ (at : ℕ) (first : List ℕ) (next : ℕ) (second : List ℕ) (a b : DiskState) (apart : at + length first ≤ next) (fits : next + length second ≤ length a.seen) (settled : SettledBoth at first next second a b) where
  once : List ℕ
  once = written a.seen at first

  once_long : length once ≡ length a.seen
  unfolding once
  once_long = length-written a.seen at first (omega arith)

  both_long : length b.seen ≡ length a.seen
  unfolding once
  both_long = ap (λ (l : List ℕ). length l) settled.seen ∙ length-written once next second (omega (arith, once_long)) ∙ once_long

  both_first : take (length first) (drop at b.seen) ≡ first
  unfolding once
  both_first = ap (λ (l : List ℕ). take (length first) (drop at l)) settled.seen
      ∙ written_elsewhere once second next at (length first) (omega (arith, once_long)) (inl apart) ∙ written_part a.seen first at (omega arith)

  both_second : take (length second) (drop next b.seen) ≡ second
  unfolding once
  both_second = ap (λ (l : List ℕ). take (length second) (drop next l)) settled.seen ∙ written_part once second next (omega (arith, once_long))

  both_behind : (from n : ℕ) → next + length second ≤ from → take n (drop from b.seen) ≡ take n (drop from a.seen)
  unfolding once
  both_behind from n behind = ap (λ (l : List ℕ). take n (drop from l)) settled.seen
      ∙ written_elsewhere once second next from n (omega (arith, once_long)) (inr behind) ∙ written_elsewhere a.seen first at from n (omega arith) (inr (omega arith))

-- a part of the header
pub header_part : (h b : List ℕ) (from n : ℕ) → take 18 b ≡ h → from + n ≤ 18 → take n (drop from b) ≡ take n (drop from h)
header_part h b from n is fits =
    let split : 18 ≡ from + (18 - from) = omega arith in
    sym (ap (λ (l : List ℕ). take n (drop from l)) (sym is)
    ∙ ap (λ k. take n (drop from (take k b))) split
    ∙ ap (λ (l : List ℕ). take n l) (drop-take from (18 - from) b)
    ∙ take-take n (18 - from) (drop from b) (omega arith))

-- the header was written before what was laid
module _ (units image : ℕ) (h : List ℕ) (a b : DiskState) (least : LEAST_UNITS ≤ units) (most : units ≤ MOST_UNITS) (was : IsLaid units A empty_snapshot a.seen) (header : IsHeader units image h) (settled : SettledBoth 0 h 2048 (0 ∷ []) a b) where
  apart : 0 + length h ≤ 2048
  apart = omega (arith, header.long)

  fits : 2048 + 1 ≤ length a.seen
  fits = omega (arith, was.long)

  long : length b.seen ≡ length a.seen
  long = both_long 0 h 2048 (0 ∷ []) a b apart fits settled

  behind : (place : ℕ) → 4096 ≤ place → get_or b.seen place 0 ≡ get_or a.seen place 0
  behind place low = sym (part_at b.seen place) ∙ ap (λ (l : List ℕ). get_or l 0 0) (both_behind 0 h 2048 (0 ∷ []) a b apart fits settled place 1 (omega arith)) ∙ part_at a.seen place
    where
      part_at : (l : List ℕ) (at : ℕ) → get_or (take 1 (drop at l)) 0 0 ≡ get_or l at 0
      part_at l at = get_or-take 1 (drop at l) 0 0 (omega arith) ∙ first_at l at

  front : take 18 b.seen ≡ h
  front = ap (λ n. take n b.seen) (sym header.long) ∙ both_first 0 h 2048 (0 ∷ []) a b apart fits settled

  pub new_image : IsSafe b × IsImage units image empty_snapshot [] b.seen
  new_image = (
    settled.safe,
    record {
      selector = 0;
      formatted = record {
        headed = record {
          least = least;
          most = most;
          long = omega (arith, was.long, long);
          magic = header_part h b.seen 0 8 front (omega arith) ∙ header.magic;
          layout = ap (λ (l : List ℕ). from_le_bytes w32 l) (header_part h b.seen 8 4 front (omega arith)) ∙ header.layout;
          units_are = ap (λ (l : List ℕ). from_le_bytes w32 l) (header_part h b.seen 12 4 front (omega arith)) ∙ header.units_are;
          number = ap (λ (l : List ℕ). from_le_bytes w16 l) (header_part h b.seen 16 2 front (omega arith)) ∙ header.number;
          selector_is = byte_at b.seen 2048 0 (both_second 0 h 2048 (0 ∷ []) a b apart fits settled);
        };
        has = snapshot_same a.seen b.seen long units A empty_snapshot was.has (λ place low high. behind place low);
      };
      payloads = [];
      groups = tt;
      frames = frames_same a.seen b.seen long units A [] was.frames (λ place low high. behind place (omega arith));
    },
  )
