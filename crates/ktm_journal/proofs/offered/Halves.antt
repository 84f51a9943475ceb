-- Where the halves of an image lie, and what depends on the bytes of one alone.
use Rattle.std.proofs.Common.{◌≡◌, ◌≢◌, ◌⊎◌, inl, inr, ℕ, ◌+◌, ◌*◌, ◌<◌, ◌≤◌, List, length, get_or, take, drop, refl, sym, ◌∙◌, ap, subst, arith}
use Rattle.std.specs.Int.{from_le_bytes, w16, w32, w64}
use Rattle.ktm_log.specs.Log.{IsLog, area_bytes}
use Rattle.ktm_log.proofs.Parts.{same_part}
use Rattle.ktm_world.specs.Sizes.{area_len}
use Rattle.ktm_journal.specs.declared.half.Half.{Half}
use Rattle.ktm_journal.specs.declared.half.Half.TheVariants.{A, B}
use Rattle.ktm_journal.specs.Image.{HasSnapshot, IsHeaded, half_at, log_area, pages_at}

pub half_low : (units : ℕ) (half : Half) → 4096 ≤ half_at units half
half_low units A = omega arith
half_low units B = omega arith

pub half_high : (units : ℕ) (half : Half) → half_at units half + 2 * area_len units ≤ pages_at units
half_high units A = omega arith
half_high units B = omega arith

-- of two halves one ends before the other begins
pub halves_apart : (units : ℕ) (one two : Half) → one ≢ two → (half_at units one + 2 * area_len units ≤ half_at units two) ⊎ (half_at units two + 2 * area_len units ≤ half_at units one)
halves_apart units A A differ = absurd (differ refl)
halves_apart units A B differ = inl (omega arith)
halves_apart units B A differ = inr (omega arith)
halves_apart units B B differ = absurd (differ refl)

module _ (old new : List ℕ) (long : length new ≡ length old) where
  -- the header has its first bytes and the selector
  pub headed_same : (units image was is : ℕ) → IsHeaded units image was old → ((place : ℕ) → place < 18 → get_or new place 0 ≡ get_or old place 0) → get_or new 2048 0 ≡ is → IsHeaded units image is new
  headed_same units image was is headed same selector = record {
    least = headed.least;
    most = headed.most;
    long = omega (arith, headed.long);
    magic = part 0 8 (omega arith) ∙ headed.magic;
    layout = ap (λ (l : List ℕ). from_le_bytes w32 l) (part 8 4 (omega arith)) ∙ headed.layout;
    units_are = ap (λ (l : List ℕ). from_le_bytes w32 l) (part 12 4 (omega arith)) ∙ headed.units_are;
    number = ap (λ (l : List ℕ). from_le_bytes w16 l) (part 16 2 (omega arith)) ∙ headed.number;
    selector_is = selector;
  }
    where
      part : (from n : ℕ) → from + n ≤ 18 → take n (drop from new) ≡ take n (drop from old)
      part from n fits = same_part old new from n long (λ place low high. same place (omega arith))

  module _ (units : ℕ) (half : Half) where
    pub snapshot_same : (snapshot : List ℕ) → HasSnapshot units half snapshot old → ((place : ℕ) → half_at units half ≤ place → place < half_at units half + area_len units → get_or new place 0 ≡ get_or old place 0)
        → HasSnapshot units half snapshot new
    snapshot_same snapshot has same = record {
      fits = has.fits;
      length_is = ap (λ (l : List ℕ). from_le_bytes w64 l) (same_part old new (half_at units half) 8 long (λ place low high. same place low (omega arith))) ∙ has.length_is;
      is = same_part old new (half_at units half + 8) (length snapshot) long (λ place low high. same place (omega arith) (let fits = has.fits in omega arith)) ∙ has.is;
    }

    pub frames_same : (payloads : List (List ℕ)) → IsLog payloads (area_bytes (log_area units half) old)
        → ((place : ℕ) → half_at units half + area_len units ≤ place → place < half_at units half + 2 * area_len units → get_or new place 0 ≡ get_or old place 0) → IsLog payloads (area_bytes (log_area units half) new)
    frames_same payloads log same =
        subst (λ (l : List ℕ). IsLog payloads l) (sym (same_part old new (half_at units half + area_len units) (area_len units) long (λ place low high. same place low (omega arith)))) log
