-- What stands behind a row stays after no call, and after one call behind another.
use Rattle.std.specs.Prelude.{◌≡◌, ℕ, Option, None, Some}
use Rattle.std.proofs.Common.{refl, ◌∙◌, subst}
use Rattle.ktm_base.specs.Disk.{DiskState}
use Rattle.ktm_base.specs.Told.{Goes}
use Rattle.ktm_row.specs.Places.{StaysBehind}

module _ (begin pages : ℕ) where
  pub stays_none : (told : Option DiskState) → Goes (StaysBehind begin pages) told told
  stays_none None = tt
  stays_none (Some s) = record { behind = refl; length = refl }

  both : (first next last : Option DiskState) → Goes (StaysBehind begin pages) first next → Goes (StaysBehind begin pages) next last → Goes (StaysBehind begin pages) first last
  both None None None x y = tt
  both None None (Some c) x y = absurd y
  both None (Some b) last x y = absurd x
  both (Some a) None last x y = absurd x
  both (Some a) (Some b) None x y = absurd y
  both (Some a) (Some b) (Some c) x y = record { behind = y.behind ∙ x.behind; length = y.length ∙ x.length }

  -- the second row begins where the first one does, and has as many pages
  pub stays_then : (from many : ℕ) (first next last : Option DiskState) → from ≡ begin → many ≡ pages → Goes (StaysBehind begin pages) first next → Goes (StaysBehind from many) next last → Goes (StaysBehind begin pages) first last
  stays_then from many first next last begins are x y =
      both first next last x (subst (λ (n : ℕ). Goes (StaysBehind begin n) next last) are (subst (λ (n : ℕ). Goes (StaysBehind n many) next last) begins y))
