-- What the writes to a half make of a disk, and what may be left of them.
use Rattle.std.specs.Prelude.{IfSome, IsTrue}
use Rattle.std.proofs.Common.{◌≡◌, ◌⊎◌, inl, inr, ℕ, ◌+◌, ◌*◌, ◌^◌, ◌<◌, ◌≤◌, Bool, true, false, Option, None, Some, List, [], ◌∷◌, length, get_or, take, drop, refl, sym, ◌∙◌, ap, subst, arith}
use Rattle.std.proofs.lemmas.Bool.{cases_lt}
use Rattle.std.proofs.lemmas.List.{get_or-take, get_or_past}
use Rattle.std.proofs.lemmas.Nat.{from_le_bytes-to_le_bytes_8}
use Rattle.std.specs.Int.{from_le_bytes, to_le_bytes, w64}
use Rattle.ktm_base.specs.Bytes.{SameOutside, covers, written}
use Rattle.ktm_base.specs.Disk.{DiskState, Dirtied, Synced, WriteRefused, Wrote}
use Rattle.ktm_base.specs.Told.{Goes}
use Rattle.ktm_base.proofs.offered.Images.{covers-append, length-written, outside, same_written}
use Rattle.ktm_base.proofs.offered.ToldSteps.{Goes-map, IfSome-step}
use Rattle.ktm_log.specs.Log.{IsLog, area_bytes}
use Rattle.ktm_log.specs.Settle.{Tore}
use Rattle.ktm_log.proofs.Frames.{closed_at, first_at}
use Rattle.ktm_log.proofs.Parts.{get_or-area, length-area, not_covered, same_part, written_part}
use Rattle.ktm_log.proofs.Steps.{Goes-two}
use Rattle.ktm_world.specs.Sizes.{area_len}
use Rattle.ktm_journal.specs.declared.half.Half.{Half}
use Rattle.ktm_journal.specs.Format.{LaysHalf}
use Rattle.ktm_journal.specs.Image.{half_at, image_len, log_area}
use Rattle.ktm_journal.specs.Pages.{StaysWithin}
use Rattle.ktm_journal.proofs.offered.Halves.{half_high}

-- ---- what stays as it was

module _ (at len : ℕ) where
  pub stays_same : (a : DiskState) → StaysWithin at len a a
  stays_same a = record { same = record { same_length = refl; others = λ place h. refl }; shortest = refl; longest = refl; clean = λ place old h. old }

  narrower : (x n place : ℕ) → at ≤ x → x + n ≤ at + len → covers ((at, len) ∷ []) place ≡ false → covers ((x, n) ∷ []) place ≡ false
  narrower x n place low high h = let away = outside at len place h in not_covered x n place (grind arith)

  -- one write more, done or refused
  pub dirties : (a b c : DiskState) (x n : ℕ) → StaysWithin at len a b → SameOutside ((x, n) ∷ []) b.seen c.seen → Dirtied x n b c → at ≤ x → x + n ≤ at + len → StaysWithin at len a c
  dirties a b c x n stays same dirtied low high = record {
    same = record {
      same_length = same.same_length ∙ stays.same.same_length;
      others = λ place h. same.others place (narrower x n place low high h) ∙ stays.same.others place h;
    };
    shortest = dirtied.shortest ∙ stays.shortest;
    longest = dirtied.longest ∙ stays.longest;
    clean = λ place old h.
        let before = stays.clean place old h in
        let now = narrower x n place low high h in
        ap (λ d. covers d place) dirtied.dirty ∙ covers-append b.dirty ((x, n) ∷ []) place ∙ cc;
  }

  pub writes_within : (a b c : DiskState) (x : ℕ) (bytes : List ℕ) → x + length bytes ≤ length a.seen → at ≤ x → x + length bytes ≤ at + len → StaysWithin at len a b → Wrote x bytes b c → StaysWithin at len a c
  writes_within a b c x bytes fits low high stays wrote =
      dirties a b c x (length bytes) stays
      (subst (λ (l : List ℕ). SameOutside ((x, length bytes) ∷ []) b.seen l) (sym wrote.seen) (same_written b.seen x bytes (omega (arith, stays.same.same_length)))) wrote.dirtied low high

  pub stays_tore : (a b : DiskState) → StaysWithin at len a b → Tore at len a b
  stays_tore a b stays = record {
    leaves = λ safe image left.
        let long : length image ≡ b.shortest = omega (arith, left.no_shorter, left.no_longer, stays.shortest, stays.longest, safe.shortest, safe.longest) in
        let longs : length image ≡ length a.seen = omega (arith, long, stays.shortest, safe.shortest) in
        record {
          same_length = longs;
          others = λ place h. elim (cases_lt place b.shortest) [
            | inl before ↦ left.others place before (stays.clean place (ap (λ d. covers d place) safe.clean) h) ∙ stays.same.others place h
            | inr past ↦ get_or_past image place 0 (omega arith) ∙ sym (get_or_past a.seen place 0 (omega arith))
          ];
        };
  }

  -- where the contents are told
  pub stayed_tore : (o n : Option DiskState) → Goes (StaysWithin at len) o n → Goes (Tore at len) o n
  stayed_tore None None stays = tt
  stayed_tore None (Some b) stays = absurd stays
  stayed_tore (Some a) None stays = absurd stays
  stayed_tore (Some a) (Some b) stays = stays_tore a b stays

  pub none_written : (o : Option DiskState) → Goes (StaysWithin at len) o o
  none_written None = tt
  none_written (Some a) = stays_same a

  pub one_refused : (o m n : Option DiskState) (down : Bool) (x size : ℕ) → at ≤ x → x + size ≤ at + len → Goes (StaysWithin at len) o m → (down ≡ false → Goes (WriteRefused x size) m n) → (IsTrue down → n ≡ m) → Goes (StaysWithin at len) o n
  one_refused o m n true x size low high stays refused frozen = subst (λ t. Goes (StaysWithin at len) o t) (sym (frozen refl)) stays
  one_refused None None None false x size low high stays refused frozen = tt
  one_refused None None (Some c) false x size low high stays refused frozen = absurd (refused refl)
  one_refused None (Some b) n false x size low high stays refused frozen = absurd stays
  one_refused (Some a) None n false x size low high stays refused frozen = absurd stays
  one_refused (Some a) (Some b) None false x size low high stays refused frozen = absurd (refused refl)
  one_refused (Some a) (Some b) (Some c) false x size low high stays refused frozen = let write = refused refl in dirties a b c x size stays write.seen write.dirtied low high

-- ---- what is there then

-- a part that a write leaves as it was
pub written_elsewhere : (old bytes : List ℕ) (at from n : ℕ) → at + length bytes ≤ length old → (from + n ≤ at) ⊎ (at + length bytes ≤ from) → take n (drop from (written old at bytes)) ≡ take n (drop from old)
written_elsewhere old bytes at from n fits away =
    same_part old (written old at bytes) from n (length-written old at bytes fits)
    (λ place low high. (same_written old at bytes fits).others place (not_covered at (length bytes) place (elim away [
      | inl before ↦ inl (omega arith)
      | inr behind ↦ inr (omega arith)
    ])))

pub byte_at : (b : List ℕ) (at x : ℕ) → take 1 (drop at b) ≡ x ∷ [] → get_or b at 0 ≡ x
byte_at b at x h = sym (first_at b at) ∙ sym (get_or-take 1 (drop at b) 0 0 (omega arith)) ∙ ap (λ (l : List ℕ). get_or l 0 0) h

-- a log that begins with a closed gate has no frame
pub no_frame : (units : ℕ) (half : Half) (bytes : List ℕ) → image_len units ≤ length bytes → take 1 (drop (log_area units half).at bytes) ≡ 0 ∷ [] → IsLog [] (area_bytes (log_area units half) bytes)
no_frame units half bytes long gate =
    let high = half_high units half in
    let within : (log_area units half).at + (log_area units half).len ≤ length bytes = omega (arith, high) in
    let shut = get_or-area (log_area units half) bytes 0 (omega arith) ∙ ap (λ n. get_or bytes n 0) (omega arith) ∙ byte_at bytes (log_area units half).at 0 gate in
    record { frames = tt; gate = closed_at (area_bytes (log_area units half) bytes) 0 (omega (arith, length-area (log_area units half) bytes within)) (λ e. absurd (omega (arith, shut, e))) }

-- the three writes to a half, one after another
module _ (units : ℕ) (half : Half) (first snapshot : List ℕ) (len_is : first ≡ to_le_bytes w64 (2 ^ 63 + length snapshot)) (fits : 8 + length snapshot ≤ area_len units) where
  abbrev Lays : DiskState → DiskState → Type 0
  Lays = StaysWithin (half_at units half) (2 * area_len units)

  pub record WroteLength (a b : DiskState) : Type 0 where
    pub stays : Lays a b
    pub length_there : take 8 (drop (half_at units half) b.seen) ≡ first

  pub record WroteSnapshot (a b : DiskState) : Type 0 where
    pub stays : Lays a b
    pub length_there : take 8 (drop (half_at units half) b.seen) ≡ first
    pub snapshot_there : take (length snapshot) (drop (half_at units half + 8) b.seen) ≡ snapshot

  pub record WroteGate (a b : DiskState) : Type 0 where
    pub stays : Lays a b
    pub length_there : take 8 (drop (half_at units half) b.seen) ≡ first
    pub snapshot_there : take (length snapshot) (drop (half_at units half + 8) b.seen) ≡ snapshot
    pub gate_there : take 1 (drop (half_at units half + area_len units) b.seen) ≡ 0 ∷ []

  length-first : length first ≡ 8
  length-first = ap (λ (l : List ℕ). length l) len_is

  -- the image is there
  module _ (a : DiskState) (within : image_len units ≤ length a.seen) where
    room : half_at units half + 2 * area_len units ≤ length a.seen
    room = omega (arith, half_high units half)

    pub wrote_length : (b : DiskState) → Wrote (half_at units half) first a b → WroteLength a b
    wrote_length b wrote = record {
      stays = writes_within (half_at units half) (2 * area_len units) a a b (half_at units half) first (omega (arith, length-first, room)) (omega arith) (omega (arith, length-first)) (stays_same (half_at units half) (2 * area_len units) a) wrote;
      length_there = ap (λ (l : List ℕ). take 8 (drop (half_at units half) l)) wrote.seen ∙ ap (λ n. take n (drop (half_at units half) (written a.seen (half_at units half) first))) (sym length-first)
          ∙ written_part a.seen first (half_at units half) (omega (arith, room));
    }

    pub wrote_snapshot : (b c : DiskState) → WroteLength a b → Wrote (half_at units half + 8) snapshot b c → WroteSnapshot a c
    wrote_snapshot b c before wrote =
        let long = before.stays.same.same_length in
        record {
          stays = writes_within (half_at units half) (2 * area_len units) a b c (half_at units half + 8) snapshot (omega (arith, room)) (omega arith) (omega arith) before.stays wrote;
          length_there = ap (λ (l : List ℕ). take 8 (drop (half_at units half) l)) wrote.seen
              ∙ written_elsewhere b.seen snapshot (half_at units half + 8) (half_at units half) 8 (omega (arith, long, room)) (inl (omega arith)) ∙ before.length_there;
          snapshot_there = ap (λ (l : List ℕ). take (length snapshot) (drop (half_at units half + 8) l)) wrote.seen ∙ written_part b.seen snapshot (half_at units half + 8) (omega (arith, long, room));
        }

    pub wrote_gate : (c d : DiskState) → WroteSnapshot a c → Wrote (half_at units half + area_len units) (0 ∷ []) c d → WroteGate a d
    wrote_gate c d before wrote =
        let long = before.stays.same.same_length in
        let gate = half_at units half + area_len units in
        let there : gate + 1 ≤ length c.seen = omega (arith, long, room) in
        record {
          stays = writes_within (half_at units half) (2 * area_len units) a c d gate (0 ∷ []) (omega (arith, room)) (omega arith) (omega arith) before.stays wrote;
          length_there = ap (λ (l : List ℕ). take 8 (drop (half_at units half) l)) wrote.seen ∙ written_elsewhere c.seen (0 ∷ []) gate (half_at units half) 8 there (inl (omega arith)) ∙ before.length_there;
          snapshot_there = ap (λ (l : List ℕ). take (length snapshot) (drop (half_at units half + 8) l)) wrote.seen
              ∙ written_elsewhere c.seen (0 ∷ []) gate (half_at units half + 8) (length snapshot) there (inl (omega arith)) ∙ before.snapshot_there;
          gate_there = ap (λ (l : List ℕ). take 1 (drop gate l)) wrote.seen ∙ written_part c.seen (0 ∷ []) gate (omega arith);
        }

    pub laid : (d e : DiskState) → 2 ^ 63 + length snapshot < 2 ^ 64 → WroteGate a d → Synced d e → LaysHalf units half snapshot a e
    laid d e small all synced =
        let same = synced.seen in
        let long : image_len units ≤ length e.seen = omega (arith, ap (λ (l : List ℕ). length l) same, all.stays.same.same_length) in
        record {
          laid = record {
            long = long;
            has = record {
              fits = fits;
              length_is = ap (λ (l : List ℕ). from_le_bytes w64 (take 8 (drop (half_at units half) l))) same ∙ ap (λ (l : List ℕ). from_le_bytes w64 l) (all.length_there ∙ len_is) ∙ from_le_bytes-to_le_bytes_8 (2 ^ 63 + length snapshot) small;
              is = ap (λ (l : List ℕ). take (length snapshot) (drop (half_at units half + 8) l)) same ∙ all.snapshot_there;
            };
            frames = no_frame units half e.seen long (ap (λ (l : List ℕ). take 1 (drop (half_at units half + area_len units) l)) same ∙ all.gate_there);
          };
          elsewhere = subst (λ (l : List ℕ). SameOutside ((half_at units half, 2 * area_len units) ∷ []) a.seen l) (sym same) all.stays.same;
          safe = synced.safe;
        }

  -- where the contents are told
  module _ (o : Option DiskState) (within : IfSome o (λ s. image_len units ≤ length s.seen)) where
    pub length_told : (m : Option DiskState) → Goes (Wrote (half_at units half) first) o m → Goes WroteLength o m
    length_told m wrote = Goes-map o m (λ (s : DiskState). image_len units ≤ length s.seen) within wrote (λ a b long w. wrote_length a long b w)

    pub snapshot_told : (m n : Option DiskState) → Goes WroteLength o m → Goes (Wrote (half_at units half + 8) snapshot) m n → Goes WroteSnapshot o n
    snapshot_told m n before wrote = Goes-two (λ (s : DiskState). image_len units ≤ length s.seen) o m n within before wrote (λ a b c long first w. wrote_snapshot a long b c first w)

    pub gate_told : (m n : Option DiskState) → Goes WroteSnapshot o m → Goes (Wrote (half_at units half + area_len units) (0 ∷ [])) m n → Goes WroteGate o n
    gate_told m n before wrote = Goes-two (λ (s : DiskState). image_len units ≤ length s.seen) o m n within before wrote (λ a b c long first w. wrote_gate a long b c first w)

    pub laid_told : (m n : Option DiskState) → 2 ^ 63 + length snapshot < 2 ^ 64 → Goes WroteGate o m → Goes Synced m n → Goes (LaysHalf units half snapshot) o n
    laid_told m n small before synced = Goes-two (λ (s : DiskState). image_len units ≤ length s.seen) o m n within before synced (λ a d e long all is. laid a long d e small all is)

    pub gate_within : (m : Option DiskState) → Goes WroteSnapshot o m → IfSome m (λ s. half_at units half + area_len units + 1 ≤ length s.seen)
    gate_within m before = IfSome-step o m (λ (s : DiskState). image_len units ≤ length s.seen) (λ (s : DiskState). half_at units half + area_len units + 1 ≤ length s.seen) within before
        (λ a b long w. omega (arith, half_high units half, w.stays.same.same_length))

    tore : (n : Option DiskState) → Goes Lays o n → Goes (Tore (half_at units half) (2 * area_len units)) o n
    tore n stays = stayed_tore (half_at units half) (2 * area_len units) o n stays

    pub length_refused : (n : Option DiskState) (down : Bool) → (down ≡ false → Goes (WriteRefused (half_at units half) (length first)) o n) → (IsTrue down → n ≡ o) → Goes (Tore (half_at units half) (2 * area_len units)) o n
    length_refused n down refused frozen =
        tore n (one_refused (half_at units half) (2 * area_len units) o o n down (half_at units half) (length first) (omega arith) (omega (arith, length-first)) (none_written (half_at units half) (2 * area_len units) o) refused frozen)

    pub snapshot_refused : (m n : Option DiskState) (down : Bool) → Goes WroteLength o m → (down ≡ false → Goes (WriteRefused (half_at units half + 8) (length snapshot)) m n) → (IsTrue down → n ≡ m) → Goes (Tore (half_at units half) (2 * area_len units)) o n
    snapshot_refused m n down before refused frozen =
        tore n (one_refused (half_at units half) (2 * area_len units) o m n down (half_at units half + 8) (length snapshot) (omega arith) (omega arith)
        (Goes-map o m (λ (s : DiskState). image_len units ≤ length s.seen) within before (λ a b long w. w.stays)) refused frozen)

    pub gate_refused : (m n : Option DiskState) (down : Bool) → Goes WroteSnapshot o m → (down ≡ false → Goes (WriteRefused (half_at units half + area_len units) 1) m n) → (IsTrue down → n ≡ m) → Goes (Tore (half_at units half) (2 * area_len units)) o n
    gate_refused m n down before refused frozen =
        tore n (one_refused (half_at units half) (2 * area_len units) o m n down (half_at units half + area_len units) 1 (omega arith) (omega arith)
        (Goes-map o m (λ (s : DiskState). image_len units ≤ length s.seen) within before (λ a b long w. w.stays)) refused frozen)

    pub never_synced : (m n : Option DiskState) → Goes WroteGate o m → n ≡ m → Goes (Tore (half_at units half) (2 * area_len units)) o n
    never_synced m n before same =
        subst (λ t. Goes (Tore (half_at units half) (2 * area_len units)) o t) (sym same)
        (tore m (Goes-map o m (λ (s : DiskState). image_len units ≤ length s.seen) within before (λ a b long w. w.stays)))
