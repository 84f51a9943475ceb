-- The limits, by what is committed and what waits.
use Rattle.std.proofs.Common.{◌≡◌, ℕ, ◌+◌, ◌-◌, ◌^◌, ◌<◌, ◌&&◌, not, Bool, true, false, List, [], ◌∷◌, length, filter, sum_by, nat_le, count_by, is_none, is_some, refl, sym, ◌∙◌, ap, arith, inl, inr}
use Rattle.std.proofs.Math.Bool.{and-true}
use Rattle.std.proofs.lemmas.Bool.{and_from, and_left, and_parts, and_right, cases_Bool, false_from_ne_true, le-leb, leb-true, true≢false}
use Rattle.std.proofs.lemmas.List.Sums.{sum_by-cons}
use Rattle.ktm_base.specs.declared.limits.TheConstants.{MOST_LIVE}
use Rattle.ktm_world.specs.Changes.{changes_bytes, nodes_made}
use Rattle.ktm_world.specs.Durable.{Durable, Recorded, changes_of, enlistments_of, is_decided, is_within_limits, settings_of, units_waiting}
use Rattle.ktm_waiting.specs.declared.amounts.Amounts.{Amounts}
use Rattle.ktm_waiting.specs.Totals.{AllApply, PassImages}
use Rattle.ktm_waiting.specs.Waiting.{committed, fits_in, limits, minus, total, while_waiting}
use Rattle.ktm_waiting.proofs.Fitting.{fits-plus}

sum-waiting : (f : Recorded → ℕ) (ts : List Recorded) → sum_by f (filter (λ t. not (is_decided t.stage)) ts) ≡ sum_by (λ t. while_waiting t (f t)) ts
sum-waiting f [] = refl
sum-waiting f (t ∷ ts) =
    let rest = sum-waiting f ts in
    let all = sum_by-cons (λ (u : Recorded). while_waiting u (f u)) t ts in
    elim (cases_Bool (is_decided t.stage)) [
      | inl is ↦
          let out : filter (λ (u : Recorded). not (is_decided u.stage)) (t ∷ ts) ≡ filter (λ (u : Recorded). not (is_decided u.stage)) ts = rw is refl in
          let none : while_waiting t (f t) ≡ 0 = rw is refl in
          let sums : sum_by f (filter (λ (u : Recorded). not (is_decided u.stage)) ts) ≡ sum_by (λ (u : Recorded). while_waiting u (f u)) (t ∷ ts) = omega (arith, rest, all, none) in
          ap (sum_by f) out ∙ sums
      | inr other ↦
          let kept : filter (λ (u : Recorded). not (is_decided u.stage)) (t ∷ ts) ≡ t ∷ filter (λ (u : Recorded). not (is_decided u.stage)) ts = rw other refl in
          let some : while_waiting t (f t) ≡ f t = rw other refl in
          let one = sum_by-cons f t (filter (λ (u : Recorded). not (is_decided u.stage)) ts) in
          let sums : sum_by f (t ∷ filter (λ (u : Recorded). not (is_decided u.stage)) ts) ≡ sum_by (λ (u : Recorded). while_waiting u (f u)) (t ∷ ts) = omega (arith, rest, all, some, one) in
          ap (sum_by f) kept ∙ sums
    ]

shuffled : (u n k c l e m : Bool) → (u && n && k && c && l && e && m) ≡ ((u && n && k && c && e) && l && m)
shuffled true true true true l e m = go l e m
  where
    go : (l e m : Bool) → (l && e && m) ≡ (e && l && m)
    go true true m = refl
    go true false m = refl
    go false true m = refl
    go false false m = refl
shuffled true true true false l e m = refl
shuffled true true false c l e m = refl
shuffled true false k c l e m = refl
shuffled false n k c l e m = refl

-- what is committed fits, what waits fits into what is left, and there are not too many transactions and managers
limits-tested : (s : Durable) → is_within_limits s ≡
    (fits_in (committed s.tree s.keys) (limits s.units) && fits_in (total s.tree s.transactions) (minus (limits s.units) (committed s.tree s.keys)) && nat_le (length s.transactions) MOST_LIVE && nat_le (length s.managers) MOST_LIVE)
unfolding is_within_limits
limits-tested s =
    (λ i. nat_le ((committed s.tree s.keys).units + sum-waiting (units_waiting s) s.transactions i) s.units
    && nat_le ((committed s.tree s.keys).nodes + sum-waiting (λ (t : Recorded). nodes_made (changes_of t)) s.transactions i) s.units
    && nat_le ((committed s.tree s.keys).keys + sum-waiting (λ (t : Recorded). count_by (λ setting. is_some setting.value) (settings_of t)) s.transactions i) s.units
    && nat_le (sum-waiting (λ (t : Recorded). count_by (λ change. not (changes_bytes change)) (changes_of t) + count_by (λ setting. is_none setting.value) (settings_of t)) s.transactions i) s.units
    && nat_le (length s.transactions) MOST_LIVE && nat_le (sum_by (λ (t : Recorded). length (enlistments_of t)) s.transactions) MOST_LIVE && nat_le (length s.managers) MOST_LIVE)
    ∙ shuffled (nat_le ((committed s.tree s.keys).units + (total s.tree s.transactions).units) s.units) (nat_le ((committed s.tree s.keys).nodes + (total s.tree s.transactions).nodes) s.units)
    (nat_le ((committed s.tree s.keys).keys + (total s.tree s.transactions).keys) s.units) (nat_le (total s.tree s.transactions).changes s.units) (nat_le (length s.transactions) MOST_LIVE)
    (nat_le (total s.tree s.transactions).enlistments MOST_LIVE) (nat_le (length s.managers) MOST_LIVE)
    ∙ (λ i. (nat_le ((committed s.tree s.keys).units + (total s.tree s.transactions).units) s.units && nat_le ((committed s.tree s.keys).nodes + (total s.tree s.transactions).nodes) s.units
    && nat_le ((committed s.tree s.keys).keys + (total s.tree s.transactions).keys) s.units && nat_le (none-more (total s.tree s.transactions).changes i) s.units && nat_le (none-more (total s.tree s.transactions).enlistments i) MOST_LIVE)
    && nat_le (length s.transactions) MOST_LIVE && nat_le (length s.managers) MOST_LIVE)
    ∙ ap (λ b. b && nat_le (length s.transactions) MOST_LIVE && nat_le (length s.managers) MOST_LIVE) (fits-plus (committed s.tree s.keys) (total s.tree s.transactions) (limits s.units))
  where
    none-more : (n : ℕ) → n ≡ 0 + n
    none-more n = omega arith

-- the limits by the tests in their order
again : (x l m : Bool) → (x && l && m) ≡ (x && (l && m))
again true l m = refl
again false l m = refl

-- whether there are few enough transactions and managers
abbrev few : Durable → Bool
few s = nat_le (length s.transactions) MOST_LIVE && nat_le (length s.managers) MOST_LIVE

-- whether what is committed and what waits fit
abbrev fits : Durable → Bool
fits s = fits_in (committed s.tree s.keys) (limits s.units) && fits_in (total s.tree s.transactions) (minus (limits s.units) (committed s.tree s.keys))

limits-both : (s : Durable) → is_within_limits s ≡ (fits s && few s)
limits-both s = limits-tested s ∙ again (fits s) (nat_le (length s.transactions) MOST_LIVE) (nat_le (length s.managers) MOST_LIVE)

pub too-many : (s : Durable) → few s ≡ false → is_within_limits s ≡ false
too-many s past = limits-both s ∙ and_right (fits s) (few s) past

pub too-much : (s : Durable) → fits_in (committed s.tree s.keys) (limits s.units) ≡ false → is_within_limits s ≡ false
too-much s past = limits-both s ∙ and_left (fits s) (few s) (and_left (fits_in (committed s.tree s.keys) (limits s.units)) _ past)

pub rest-fits : (s : Durable) (room : Amounts) → fits_in (committed s.tree s.keys) (limits s.units) ≡ true → room ≡ minus (limits s.units) (committed s.tree s.keys) → few s ≡ true
    → fits_in (total s.tree s.transactions) room ≡ is_within_limits s
rest-fits s room all is some =
    ap (fits_in (total s.tree s.transactions)) is
    ∙ ap (λ b. b && fits_in (total s.tree s.transactions) (minus (limits s.units) (committed s.tree s.keys))) (sym all)
    ∙ sym (and-true (fits s)) ∙ ap (λ b. fits s && b) (sym some) ∙ sym (limits-both s)

less-room : (a b c : ℕ) → nat_le a (b - c) ≡ true → nat_le a b ≡ true
less-room a b c fits = le-leb a b (omega (arith, leb-true a (b - c) fits))

-- where no image has room for what waits, the limits do not hold
pub images-passed : (s : Durable) → AllApply s.tree s.transactions → PassImages s.transactions → s.units < 2 ^ 32 → is_within_limits s ≡ false
images-passed s apply past small = false_from_ne_true _ (λ within.
    let both = and_parts (fits s) (few s) (sym (limits-both s) ∙ within) in
    let rest = (and_parts (fits_in (committed s.tree s.keys) (limits s.units)) _ both.0).1 in
    true≢false (sym (whole (total s.tree s.transactions) (limits s.units) (committed s.tree s.keys) rest) ∙ past s.tree apply s.units small))
  where
    whole : (a b c : Amounts) → fits_in a (minus b c) ≡ true → fits_in a b ≡ true
    whole a b c is =
        let e = and_parts (nat_le a.units (b.units - c.units) && nat_le a.nodes (b.nodes - c.nodes) && nat_le a.keys (b.keys - c.keys) && nat_le a.changes (b.changes - c.changes)) (nat_le a.enlistments (b.enlistments - c.enlistments)) is in
        let d = and_parts (nat_le a.units (b.units - c.units) && nat_le a.nodes (b.nodes - c.nodes) && nat_le a.keys (b.keys - c.keys)) (nat_le a.changes (b.changes - c.changes)) e.0 in
        let k = and_parts (nat_le a.units (b.units - c.units) && nat_le a.nodes (b.nodes - c.nodes)) (nat_le a.keys (b.keys - c.keys)) d.0 in
        let n = and_parts (nat_le a.units (b.units - c.units)) (nat_le a.nodes (b.nodes - c.nodes)) k.0 in
        and_from _ _ (and_from _ _ (and_from _ _ (and_from _ _ (less-room a.units b.units c.units n.0) (less-room a.nodes b.nodes c.nodes n.1)) (less-room a.keys b.keys c.keys k.1)) (less-room a.changes b.changes c.changes d.1))
        (less-room a.enlistments b.enlistments c.enlistments e.1)
