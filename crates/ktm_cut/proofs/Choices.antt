-- What a drawn word chooses to leave of a range.
use Rattle.std.specs.Prelude.{IfSome}
use Rattle.std.proofs.Common.{◌≡◌, ℕ, ◌+◌, ◌-◌, ◌/◌, ◌%◌, ◌==◌, ◌≤◌, false, arith, min, [], ◌∷◌, length, drop, get_or, ◌<◌, List, Option, None, Some, Result, refl, sym, ◌∙◌, ap}
use Rattle.std.specs.Result.{OnOk}
use Rattle.std.proofs.lemmas.List.{at_drop_more, at_drop_all}
use Rattle.std.proofs.lemmas.Bool.Decides.{nat_tests}
use Rattle.rand_core.specs.Pcg32Seed.{pcg32_seed}
use Rattle.rand_pcg.specs.Lcg.{Lcg}
use Rattle.rand_pcg.specs.Pcg.{pcg32, pcg32_of_seed}
use Rattle.ktm_base.specs.Bytes.{SameOutside}
use Rattle.ktm_base.specs.Told.{Goes}
use Rattle.ktm_cut.specs.Left.{with_drawn, with_zeros, left_by, left_of_range, left_of_ranges, left_of_added, left_of}
use Rattle.ktm_disk.specs.Told.{length_at_sync}
use Rattle.ktm_cut.proofs.Steps.{OnOk-map, Goes-map, Goes-then}

chosen : (from end w : ℕ) (f g : Lcg) (x : List ℕ) → (w, g) ≡ pcg32 f → left_by (w % 4) from end g x ≡ left_of_range from end f x
unfolding left_of_range
chosen from end w f g x drew = ap (λ (p : ℕ × Lcg). left_by (p.0 % 4) from end p.1 x) drew

left_by_0 : (way from end : ℕ) (g : Lcg) (x : List ℕ) → way ≡ 0 → left_by way from end g x ≡ (x, g)
unfolding left_by
left_by_0 way from end g x is = rw is refl

left_by_1 : (way from end : ℕ) (g : Lcg) (x : List ℕ) → way ≡ 1 → left_by way from end g x ≡ (with_zeros from end x, g)
unfolding left_by
left_by_1 way from end g x is = rw is refl

left_by_2 : (way from end : ℕ) (g : Lcg) (x : List ℕ) → way ≡ 2 → left_by way from end g x ≡ with_drawn from end g x
unfolding left_by
left_by_2 way from end g x is = rw is refl

left_by_3 : (way from end : ℕ) (g : Lcg) (x : List ℕ) → 3 ≤ way → left_by way from end g x ≡ with_drawn (from + (end - from) / 2) end g x
unfolding left_by
left_by_3 way from end g x more =
    let none : (way == 0) ≡ false = grind (arith, nat_tests) in
    let one : (way == 1) ≡ false = grind (arith, nat_tests) in
    let two : (way == 2) ≡ false = grind (arith, nat_tests) in
    rw (none, one, two) refl

left_whole : (from end w : ℕ) (f g : Lcg) (a b : Option (List ℕ)) → (w, g) ≡ pcg32 f → w % 4 ≡ 0 → b ≡ a → Goes (λ old new. (new, g) ≡ left_of_range from end f old) a b
left_whole from end w f g None b drew way same = rw same tt
left_whole from end w f g (Some x) b drew way same = rw same (sym (left_by_0 (w % 4) from end g x way) ∙ chosen from end w f g x drew)

pub leaves_all : {E : Type 0} (from end w : ℕ) (f g : Lcg) (r : Result (Unit {0}) E) (a b : Option (List ℕ)) → (w, g) ≡ pcg32 f → w % 4 ≡ 0 → OnOk r (b ≡ a) → OnOk r (Goes (λ old new. (new, g) ≡ left_of_range from end f old) a b)
leaves_all from end w f g r a b drew way =
    OnOk-map r (b ≡ a) (Goes (λ old new. (new, g) ≡ left_of_range from end f old) a b) (left_whole from end w f g a b drew way)

pub leaves_zeros : {E : Type 0} (from end w : ℕ) (f g : Lcg) (r : Result (Unit {0}) E) (a b : Option (List ℕ)) → (w, g) ≡ pcg32 f → w % 4 ≡ 1 → OnOk r (Goes (λ old new. new ≡ with_zeros from end old) a b) → OnOk r (Goes (λ old new. (new, g) ≡ left_of_range from end f old) a b)
leaves_zeros from end w f g r a b drew way =
    OnOk-map r (Goes (λ old new. new ≡ with_zeros from end old) a b) (Goes (λ old new. (new, g) ≡ left_of_range from end f old) a b)
    (Goes-map (λ old new. new ≡ with_zeros from end old) (λ old new. (new, g) ≡ left_of_range from end f old) a b
    (λ x y is. ap (λ (l : List ℕ). (l, g)) is ∙ sym (left_by_1 (w % 4) from end g x way) ∙ chosen from end w f g x drew))

pub leaves_drawn : {E : Type 0} (from end w : ℕ) (f g h : Lcg) (r : Result (Unit {0}) E) (a b : Option (List ℕ)) → (w, g) ≡ pcg32 f → w % 4 ≡ 2 → OnOk r (Goes (λ old new. (new, h) ≡ with_drawn from end g old) a b) → OnOk r (Goes (λ old new. (new, h) ≡ left_of_range from end f old) a b)
leaves_drawn from end w f g h r a b drew way =
    OnOk-map r (Goes (λ old new. (new, h) ≡ with_drawn from end g old) a b) (Goes (λ old new. (new, h) ≡ left_of_range from end f old) a b)
    (Goes-map (λ old new. (new, h) ≡ with_drawn from end g old) (λ old new. (new, h) ≡ left_of_range from end f old) a b
    (λ x y is. is ∙ sym (left_by_2 (w % 4) from end g x way) ∙ chosen from end w f g x drew))

pub leaves_half : {E : Type 0} (from end w : ℕ) (f g h : Lcg) (r : Result (Unit {0}) E) (a b : Option (List ℕ)) → (w, g) ≡ pcg32 f → 3 ≤ w % 4 → OnOk r (Goes (λ old new. (new, h) ≡ with_drawn (from + (end - from) / 2) end g old) a b) → OnOk r (Goes (λ old new. (new, h) ≡ left_of_range from end f old) a b)
leaves_half from end w f g h r a b drew way =
    OnOk-map r (Goes (λ old new. (new, h) ≡ with_drawn (from + (end - from) / 2) end g old) a b) (Goes (λ old new. (new, h) ≡ left_of_range from end f old) a b)
    (Goes-map (λ old new. (new, h) ≡ with_drawn (from + (end - from) / 2) end g old) (λ old new. (new, h) ≡ left_of_range from end f old) a b
    (λ x y is. is ∙ sym (left_by_3 (w % 4) from end g x way) ∙ chosen from end w f g x drew))

left_of_ranges_more : (r : ℕ × ℕ) (rs : List (ℕ × ℕ)) (from end : ℕ) (g h : Lcg) (y z : List ℕ) → from ≡ min (length y) r.0 → end ≡ min (length y) (r.0 + r.1) → (z, h) ≡ left_of_range from end g y → left_of_ranges rs h z ≡ left_of_ranges (r ∷ rs) g y
unfolding left_of_ranges
left_of_ranges_more r rs from end g h y z start stop is =
    ap (λ (p : List ℕ × Lcg). left_of_ranges rs p.1 p.0)
    (is ∙ ap (λ (k : ℕ). left_of_range k end g y) start ∙ ap (λ (k : ℕ). left_of_range (min (length y) r.0) k g y) stop)

left_of_ranges_none : (g : Lcg) (y : List ℕ) → left_of_ranges [] g y ≡ (y, g)
unfolding left_of_ranges
left_of_ranges_none g y = refl

-- one of the ranges is done
pub ranges_next : (rs : List (ℕ × ℕ)) (i len from end : ℕ) (d : ℕ × ℕ) (f g h : Lcg) (a b c : Option (List ℕ)) → i < length rs → from ≡ min len (get_or rs i d).0 → end ≡ min len ((get_or rs i d).0 + (get_or rs i d).1) → IfSome b (λ bytes. len ≡ length bytes) → Goes (λ old new. left_of_ranges (drop i rs) g new ≡ left_of_ranges rs f old) a b → Goes (λ old new. (new, h) ≡ left_of_range from end g old) b c → Goes (λ old new. left_of_ranges (drop (i + 1) rs) h new ≡ left_of_ranges rs f old) a c
ranges_next rs i len from end d f g h a b c low start stop long first next =
    Goes-then (λ y. len ≡ length y) (λ old new. left_of_ranges (drop i rs) g new ≡ left_of_ranges rs f old) (λ old new. (new, h) ≡ left_of_range from end g old) (λ old new. left_of_ranges (drop (i + 1) rs) h new ≡ left_of_ranges rs f old) a b c
    (λ x y z same so is.
    left_of_ranges_more (get_or rs i d) (drop (i + 1) rs) from end g h y z (start ∙ ap (λ (k : ℕ). min k (get_or rs i d).0) same) (stop ∙ ap (λ (k : ℕ). min k ((get_or rs i d).0 + (get_or rs i d).1)) same) is
    ∙ sym (at_drop_more (λ (l : List (ℕ × ℕ)). left_of_ranges l g y) rs i d low) ∙ so) long first next

-- all of the ranges are done
pub ranges_last : (rs : List (ℕ × ℕ)) (i : ℕ) (f g : Lcg) (a b : Option (List ℕ)) → length rs ≤ i → Goes (λ old new. left_of_ranges (drop i rs) g new ≡ left_of_ranges rs f old) a b → Goes (λ old new. (new, g) ≡ left_of_ranges rs f old) a b
ranges_last rs i f g a b all =
    Goes-map (λ old new. left_of_ranges (drop i rs) g new ≡ left_of_ranges rs f old) (λ old new. (new, g) ≡ left_of_ranges rs f old) a b
    (λ x y so. sym (left_of_ranges_none g y) ∙ sym (at_drop_all (λ (l : List (ℕ × ℕ)). left_of_ranges l g y) rs i all) ∙ so)

left_of_is : (pick from : ℕ) (ranges : List (ℕ × ℕ)) (f g : Lcg) (x y : List ℕ) → f ≡ pcg32_of_seed (pcg32_seed 16 pick) → (y, g) ≡ left_of_ranges ranges f x → left_of_added from g y ≡ left_of pick ranges from x
unfolding left_of
left_of_is pick from ranges f g x y seeded is =
    ap (λ (p : List ℕ × Lcg). left_of_added from p.1 p.0) (is ∙ ap (λ (k : Lcg). left_of_ranges ranges k x) seeded)

-- all is done
pub leaves : (pick : ℕ) (ranges : List (ℕ × ℕ)) (grown_from : Option ℕ) (f g : Lcg) (a b c : Option (List ℕ)) → f ≡ pcg32_of_seed (pcg32_seed 16 pick) → Goes (SameOutside ranges) a b → Goes (λ old new. (new, g) ≡ left_of_ranges ranges f old) a b → Goes (λ old new. new ≡ left_of_added (length_at_sync grown_from (length old)) g old) b c → Goes (λ old new. new ≡ left_of pick ranges (length_at_sync grown_from (length old)) old) a c
leaves pick ranges grown_from f g None None None seeded same first next = tt
leaves pick ranges grown_from f g None None (Some z) seeded same first next = next
leaves pick ranges grown_from f g None (Some y) c seeded same first next = absurd first
leaves pick ranges grown_from f g (Some x) None c seeded same first next = absurd first
leaves pick ranges grown_from f g (Some x) (Some y) None seeded same first next = next
leaves pick ranges grown_from f g (Some x) (Some y) (Some z) seeded same first next =
    next ∙ ap (λ (k : ℕ). left_of_added (length_at_sync grown_from k) g y) same.same_length
    ∙ left_of_is pick (length_at_sync grown_from (length x)) ranges f g x y seeded first
