-- What the first bytes of a snapshot's area say.
use Rattle.std.specs.Prelude.{slice_range, IfSome}
use Rattle.std.proofs.Common.{◌≡◌, ℕ, ◌+◌, ◌-◌, ◌^◌, ◌<◌, Option, None, Some, List, length, take, drop, ◌∙◌, ap, arith}
use Rattle.std.specs.Int.{from_le_bytes, w64}
use Rattle.ktm_base.specs.Disk.{DiskState}
use Rattle.ktm_world.specs.Sizes.{area_len}
use Rattle.ktm_journal.specs.declared.half.Half.{Half}
use Rattle.ktm_journal.specs.Bad.{HasNoSnapshot}
use Rattle.ktm_journal.specs.Image.{half_at}

-- where they say no length, or one for which there is no room, there is no snapshot
pub none_told : (units : ℕ) (half : Half) (first : List ℕ) (o : Option DiskState) → IfSome o (λ s. first ≡ slice_range s.seen (half_at units half) (half_at units half + 8))
    → ((len : ℕ) → from_le_bytes w64 first ≡ 2 ^ 63 + len → area_len units < 8 + len) → IfSome o (λ s. HasNoSnapshot units half s.seen)
none_told units half first None read none = tt
none_told units half first (Some s) read none = λ snapshot has.
    let eight : half_at units half + 8 - half_at units half ≡ 8 = omega arith in
    let same : first ≡ take 8 (drop (half_at units half) s.seen) = read ∙ ap (λ n. take n (drop (half_at units half) s.seen)) eight in
    let long : area_len units < 8 + length snapshot = none (length snapshot) (ap (λ (l : List ℕ). from_le_bytes w64 l) same ∙ has.length_is) in
    omega (arith, long, has.fits)
