-- The header of an image, as it was read.
use Rattle.std.specs.Prelude.{IfSome}
use Rattle.std.proofs.Common.{◌≡◌, ℕ, ◌+◌, ◌≤◌, Option, None, Some, List, length, get_or, take, drop, slice_range, refl, sym, ◌∙◌, ap, arith, length-take}
use Rattle.std.proofs.lemmas.List.{get_or-take}
use Rattle.std.specs.Int.{from_le_bytes, w16, w32}
use Rattle.ktm_base.specs.Disk.{DiskState}
use Rattle.ktm_log.proofs.Frames.{first_at}
use Rattle.ktm_journal.specs.declared.header.Header.{Header}
use Rattle.ktm_journal.specs.Image.{IsHeaded}
use Rattle.ktm_journal.specs.Header.{BeginsAnImage, IsFront}
use Rattle.ktm_journal.proofs.Formats.{header_part}

module _ (header selector : List ℕ) (len : ℕ) where
  module _ (bytes : List ℕ) (long : len ≡ length bytes) (front_is : header ≡ slice_range bytes 0 18) (selector_is : selector ≡ slice_range bytes 2048 2049) where
    part : (from n : ℕ) → from + n ≤ 18 → take n (drop from bytes) ≡ take n (drop from header)
    part from n fits = header_part header bytes from n (sym front_is) fits

    selector_at : get_or selector 0 0 ≡ get_or bytes 2048 0
    selector_at = ap (λ (l : List ℕ). get_or l 0 0) selector_is ∙ get_or-take 1 (drop 2048 bytes) 0 0 (omega arith) ∙ first_at bytes 2048

    to_front : (units image selected : ℕ) → IsHeaded units image selected bytes → IsFront units image len header
    to_front units image selected headed = record {
      least = headed.least;
      most = headed.most;
      long = omega (arith, headed.long);
      header_is = record {
        long = ap (λ (l : List ℕ). length l) front_is ∙ omega (arith, length-take 18 bytes, headed.long);
        magic = sym (part 0 8 (omega arith)) ∙ headed.magic;
        layout = ap (λ (l : List ℕ). from_le_bytes w32 l) (sym (part 8 4 (omega arith))) ∙ headed.layout;
        units_are = ap (λ (l : List ℕ). from_le_bytes w32 l) (sym (part 12 4 (omega arith))) ∙ headed.units_are;
        number = ap (λ (l : List ℕ). from_le_bytes w16 l) (sym (part 16 2 (omega arith))) ∙ headed.number;
      };
    }

    from_front : (units image selected : ℕ) → IsFront units image len header → selected ≡ get_or selector 0 0 → IsHeaded units image selected bytes
    from_front units image selected front is = record {
      least = front.least;
      most = front.most;
      long = omega (arith, front.long);
      magic = part 0 8 (omega arith) ∙ front.header_is.magic;
      layout = ap (λ (l : List ℕ). from_le_bytes w32 l) (part 8 4 (omega arith)) ∙ front.header_is.layout;
      units_are = ap (λ (l : List ℕ). from_le_bytes w32 l) (part 12 4 (omega arith)) ∙ front.header_is.units_are;
      number = ap (λ (l : List ℕ). from_le_bytes w16 l) (part 16 2 (omega arith)) ∙ front.header_is.number;
      selector_is = sym (is ∙ selector_at);
    }

    begins : (found : Option Header) → IfSome found (λ h. IsFront h.units h.image len header × (h.selector ≡ get_or selector 0 0))
        → (found ≡ None → (units image : ℕ) → IsFront units image len header → ⊥) → BeginsAnImage found bytes
    begins None some none = λ units image selected headed. none refl units image (to_front units image selected headed)
    begins (Some h) some none = from_front h.units h.image h.selector some.0 some.1

  -- where the bytes are told
  pub header_told : (found : Option Header) (o : Option DiskState) → IfSome o (λ s. len ≡ length s.seen) → IfSome o (λ s. header ≡ slice_range s.seen 0 18)
      → IfSome o (λ s. selector ≡ slice_range s.seen 2048 2049) → IfSome found (λ h. IsFront h.units h.image len header × (h.selector ≡ get_or selector 0 0))
      → (found ≡ None → (units image : ℕ) → IsFront units image len header → ⊥) → IfSome o (λ s. BeginsAnImage found s.seen)
  header_told found None long front at some none = tt
  header_told found (Some s) long front at some none = begins s.seen long front at found some none
