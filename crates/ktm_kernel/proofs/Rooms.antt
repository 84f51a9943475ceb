-- How many units are touched, what stands gives of sizes, and that there is room.
use Rattle.std.proofs.Common.{◌≡◌, ℕ, ◌+◌, ◌-◌, ◌*◌, ◌/◌, ◌^◌, ◌<◌, ◌≤◌, ◌||◌, nat_lt, Bool, true, false, List, length, refl, sym, ◌∙◌, ap, subst, arith, ltb-false}
use Rattle.std.specs.Prelude.{min, max}
use Rattle.std.proofs.Math.Nat.{le-max_right, le-min, max-eq_right, min-eq_left, min-le_left, min-le_right}
use Rattle.ktm_base.specs.declared.limits.TheConstants.{MOST_UNITS, UNIT_BYTES}
use Rattle.ktm_content.specs.Contents.{units_of}
use Rattle.ktm_core.specs.Units.{SuitsEnd, SuitsPut}
use Rattle.ktm_core.specs.Standing.{kept}
use Rattle.ktm_paged.specs.Meaning.{first_unit, units_from}
use Rattle.ktm_standing.specs.Laws.{FilesLaw}
use Rattle.ktm_standing.specs.Standing.{IsStanding, IsStandingNow}
use Rattle.ktm_store.specs.Store.{IsTouched}
use Rattle.ktm_units.specs.Units.{IsRecordedTree}
use Rattle.ktm_world.specs.Durable.{Durable}
use Rattle.ktm_world.specs.FileUses.{units_used}
use Rattle.ktm_world.specs.Present.{Present}
use Rattle.ktm_world.specs.Uses.{is_over_disk}
use Rattle.ktm_world.specs.World.{World, present}
use Rattle.ktm_world.proofs.offered.Durables.{stand-units}

-- ---- what stands

few-of : (w : World) → IsStanding w → (present w).recorded.units ≤ MOST_UNITS
few-of w stands =
    let same = stand-units w.base w.log in
    let comes = ap (λ (s : Durable). s.units) stands.running.comes_to in
    omega (arith, same, comes, stands.small)

-- an image has no more units than there may be
pub few-units : (x : Present) → IsStandingNow x → x.recorded.units ≤ MOST_UNITS
few-units x standing = subst (λ (y : Present). y.recorded.units ≤ MOST_UNITS) standing.is (few-of standing.world standing.stands)

-- files are within it
pub within-units : (x : Present) → IsStandingNow x → units_used x.files ≤ x.recorded.units
unfolding is_over_disk
within-units x standing = ltb-false x.recorded.units (units_used x.files) (first-false (nat_lt x.recorded.units (units_used x.files)) _ (first-false (nat_lt x.recorded.units (units_used x.files) || _) _ (kept x standing).within.1))
  where
    first-false : (a b : Bool) → (a || b) ≡ false → a ≡ false
    first-false true b is = absurd (cc)
    first-false false b is = refl

pub recorded-tree : FilesLaw → (x : Present) → IsStandingNow x → IsRecordedTree x
recorded-tree law x standing = record { rise = (law.orderly x standing).rise; recorded = (kept x standing).agrees.tree }

-- ---- units that are touched

module _ (size at end start : ℕ) (part : List ℕ) (t : IsTouched size at end start part) where
  -- there are some
  pub touched-some : min size at < end → 1 ≤ length part
  touched-some before =
      let first : start ≡ min size at / 4096 * 4096 = t.first in
      let last : start + length part ≡ min (max size end) (((end - 1) / 4096 + 1) * 4096) = t.last in
      let unit : end ≤ ((end - 1) / 4096 + 1) * 4096 = omega arith in
      let reaches : end ≤ min (max size end) (((end - 1) / 4096 + 1) * 4096) = le-min (le-max_right size end) unit in
      omega (arith, first, last, reaches, before)

  -- they end with the contents, at most
  pub touched-end : start + length part ≤ max size end
  touched-end =
      let least = min-le_left (max size end) (((end - 1) / UNIT_BYTES + 1) * UNIT_BYTES) in
      omega (arith, t.last, least)

  -- they are no more than there are from the first one on
  pub touched-few : 1 ≤ end → units_of part ≤ units_from (first_unit size at) end
  touched-few some =
      let least = min-le_right (max size end) (((end - 1) / UNIT_BYTES + 1) * UNIT_BYTES) in
      omega (arith, t.first, t.last, least, some)

-- units that are touched by a write suit it
pub suits-put : (size at len start : ℕ) (part : List ℕ) → 1 ≤ len → at + len < 2 ^ 64 → IsTouched size at (at + len) start part → SuitsPut size start part at len
suits-put size at len start part some fits t = record {
  first = sym t.first;
  last = t.last ∙ ap (λ n. min (max size (at + len)) (n * 4096)) same;
  some = some;
  fits = fits;
}
  where
    same : (at + len - 1) / 4096 + 1 ≡ (at + len + 4095) / 4096
    same = omega (arith, some)

-- units by which a file becomes longer suit it
pub suits-end : (size end start : ℕ) (part : List ℕ) → size < end → end < 2 ^ 64 → IsTouched size end end start part → SuitsEnd size start part
suits-end size end start part longer fits t = record {
  first = ap (λ n. n / 4096 * 4096) (sym before) ∙ sym t.first;
  longer = omega (arith, whole, longer);
  fits = omega (arith, whole, fits);
}
  where
    before : min size end ≡ size
    before = min-eq_left (omega (arith, longer))

    unit : end ≤ ((end - 1) / 4096 + 1) * 4096
    unit = omega (arith, longer)

    all : max size end ≡ end
    all = max-eq_right (omega (arith, longer))

    whole : start + length part ≡ end
    whole = t.last ∙ ap (λ n. min n (((end - 1) / 4096 + 1) * 4096)) all ∙ min-eq_left unit
