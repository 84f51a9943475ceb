-- What may be left after a step, from what could be left before it.
use Rattle.std.proofs.Common.{◌≡◌, ◌⊎◌, ℕ, ◌+◌, ◌-◌, ◌<◌, ◌≤◌, Bool, true, false, ◌&&◌, ◌||◌, nat_le, nat_lt, List, [], ◌∷◌, ◌++◌, length, get_or, take, refl, sym, ◌∙◌, ap, subst, arith, inl, inr}
use Rattle.std.proofs.lemmas.Grind.{common_steps, same_number_lists}
use Rattle.std.proofs.lemmas.Bool.{cases_lt}
use Rattle.std.proofs.lemmas.Bool.Decides.{nat_tests}
use Rattle.ktm_base.specs.Bytes.{written, covers, SameOutside}
use Rattle.ktm_base.specs.Disk.{DiskState, MayLeave, Dirtied, Asked}
use Rattle.ktm_base.specs.Laws.{SeenLaw, LeaveTheSame, with_dirty, with_longest, WriteLaw, WriteRefusedLaw, SafeLaw, SyncLaw, GrowthLaw, GrowthRefusedLaw, TwoWritesLaw, PowerLaw, CallsLaw}

or_assoc : (a b c : Bool) → a || (b || c) ≡ a || b || c
or_assoc true b c = refl
or_assoc false b c = refl

or_right : (a b : Bool) → a || b ≡ false → b ≡ false
or_right true b h = cc
or_right false b h = h

or_left : (a b : Bool) → a || b ≡ false → a ≡ false
or_left true b h = h
or_left false b h = refl

or_both : (a b : Bool) → a ≡ false → b ≡ false → a || b ≡ false
or_both a b x y = cc

pub covers-append : (rs qs : List (ℕ × ℕ)) (k : ℕ) → covers (rs ++ qs) k ≡ covers rs k || covers qs k
covers-append [] qs k = refl
covers-append (r ∷ rs) qs k =
    let here = nat_le r.0 k && nat_lt k (r.0 + r.1) in
    ap (λ b. here || b) (covers-append rs qs k) ∙ or_assoc here (covers rs k) (covers qs k)

-- a place outside of one range
pub outside : (at len k : ℕ) → covers ((at, len) ∷ []) k ≡ false → (k < at) ⊎ (at + len ≤ k)
outside at len k h = grind (arith, common_steps, nat_tests)

get_or-written : (old : List ℕ) (at : ℕ) (bytes : List ℕ) (k : ℕ) → at + length bytes ≤ length old → (k < at) ⊎ (at + length bytes ≤ k) → get_or (written old at bytes) k 0 ≡ get_or old k 0
get_or-written old at bytes k fits out = grind (arith, common_steps, nat_tests)

get_or-written_inside : (old : List ℕ) (at : ℕ) (bytes : List ℕ) (k : ℕ) → at + length bytes ≤ length old → at ≤ k → k < at + length bytes → get_or (written old at bytes) k 0 ≡ get_or bytes (k - at) 0
get_or-written_inside old at bytes k fits low high = grind (arith, common_steps, nat_tests)

pub length-written : (old : List ℕ) (at : ℕ) (bytes : List ℕ) → at + length bytes ≤ length old → length (written old at bytes) ≡ length old
length-written old at bytes fits = grind (arith, common_steps, nat_tests)

pub same_written : (old : List ℕ) (at : ℕ) (bytes : List ℕ) → at + length bytes ≤ length old → SameOutside ((at, length bytes) ∷ []) old (written old at bytes)
same_written old at bytes fits = record { same_length = length-written old at bytes fits; others = λ k out. get_or-written old at bytes k fits (outside at (length bytes) k out) }

-- a range that is dirty may have held other bytes
dirtied : (s t : DiskState) (at len : ℕ) → SameOutside ((at, len) ∷ []) s.seen t.seen → Dirtied at len s t → LeaveTheSame (with_dirty s at len) t
dirtied s t at len same range image = (
  λ left. record {
    no_shorter = subst (λ n. n ≤ length image) (sym range.shortest) left.no_shorter;
    no_longer = subst (λ n. length image ≤ n) (sym range.longest) left.no_longer;
    others = λ k low out.
        let clean = ap (λ d. covers d k) (sym range.dirty) ∙ out in
        left.others k (subst (λ n. k < n) range.shortest low) clean ∙ sym (same.others k (only k clean));
  },
  λ left. record {
    no_shorter = subst (λ n. n ≤ length image) range.shortest left.no_shorter;
    no_longer = subst (λ n. length image ≤ n) range.longest left.no_longer;
    others = λ k low clean.
        left.others k (subst (λ n. k < n) (sym range.shortest) low) (ap (λ d. covers d k) range.dirty ∙ clean) ∙ same.others k (only k clean);
  },
)
  where
    only : (k : ℕ) → covers (s.dirty ++ (at, len) ∷ []) k ≡ false → covers ((at, len) ∷ []) k ≡ false
    only k clean = or_right (covers s.dirty k) _ (sym (covers-append s.dirty ((at, len) ∷ []) k) ∙ clean)

pub write_law : WriteLaw
write_law s t at bytes fits wrote = dirtied s t at (length bytes) (subst (λ l. SameOutside ((at, length bytes) ∷ []) s.seen l) (sym wrote.seen) (same_written s.seen at bytes fits)) wrote.dirtied

pub write_refused_law : WriteRefusedLaw
write_refused_law s t at len refused = dirtied s t at len refused.seen refused.dirtied

pub safe_law : SafeLaw
safe_law s image safe = (
  λ left. same_number_lists image s.seen (long left) (λ k h. left.others k (low left k h) (ap (λ d. covers d k) safe.clean)),
  λ is. subst (λ l. MayLeave s l) (sym is) (record { no_shorter = omega (arith, safe.shortest); no_longer = omega (arith, safe.longest); others = λ k low clean. refl }),
)
  where
    long : MayLeave s image → length image ≡ length s.seen
    long left = omega (arith, left.no_shorter, left.no_longer, safe.shortest, safe.longest)

    low : MayLeave s image → (k : ℕ) → k < length image → k < s.shortest
    low left k h = omega (arith, left.no_longer, safe.shortest, safe.longest)

pub sync_law : SyncLaw
sync_law s t image synced = let (there, back) = safe_law t image synced.safe in (λ left. there left ∙ synced.seen, λ is. back (is ∙ sym synced.seen))

front_at : (old new : List ℕ) (k : ℕ) → take (length old) new ≡ old → k < length old → get_or new k 0 ≡ get_or old k 0
front_at old new k front low = sym (ap (λ l. get_or l k 0) (sym front) ∙ first)
  where
    first : get_or (take (length old) new) k 0 ≡ get_or new k 0
    first = grind (arith, common_steps, nat_tests)

grown : (s t : DiskState) (len : ℕ) → s.shortest ≤ length s.seen → take (length s.seen) t.seen ≡ s.seen → Asked len s t → LeaveTheSame (with_longest s len) t
grown s t len short front asked image = (
  λ left. record {
    no_shorter = subst (λ n. n ≤ length image) (sym asked.shortest) left.no_shorter;
    no_longer = subst (λ n. length image ≤ n) (sym asked.longest) left.no_longer;
    others = λ k low out.
        let below : k < s.shortest = subst (λ n. k < n) asked.shortest low in
        left.others k below (ap (λ d. covers d k) (sym asked.dirty) ∙ out) ∙ sym (front_at s.seen t.seen k front (omega arith));
  },
  λ left. record {
    no_shorter = subst (λ n. n ≤ length image) asked.shortest left.no_shorter;
    no_longer = subst (λ n. length image ≤ n) asked.longest left.no_longer;
    others = λ k low out.
        left.others k (subst (λ n. k < n) (sym asked.shortest) low) (ap (λ d. covers d k) asked.dirty ∙ out) ∙ front_at s.seen t.seen k front (omega arith);
  },
)

pub growth_law : GrowthLaw
growth_law s t len short grew = grown s t len short grew.seen.front grew.asked

pub growth_refused_law : GrowthRefusedLaw
growth_refused_law s t len short refused = grown s t len short refused.seen.front refused.asked

-- a range that is dirty already
again_dirty : (s t : DiskState) (at len : ℕ) → t.dirty ≡ s.dirty ++ (at, len) ∷ [] → LeaveTheSame t (with_dirty t at len)
again_dirty s t at len dirty image = (
  λ left. record { no_shorter = left.no_shorter; no_longer = left.no_longer; others = λ k low clean. left.others k low (or_left (covers t.dirty k) _ (sym (covers-append t.dirty ((at, len) ∷ []) k) ∙ clean)) },
  λ left. record { no_shorter = left.no_shorter; no_longer = left.no_longer; others = λ k low clean. left.others k low (covers-append t.dirty ((at, len) ∷ []) k ∙ or_both _ _ clean (range k clean)) },
)
  where
    range : (k : ℕ) → covers t.dirty k ≡ false → covers ((at, len) ∷ []) k ≡ false
    range k clean = or_right (covers s.dirty k) _ (sym (covers-append s.dirty ((at, len) ∷ []) k) ∙ ap (λ d. covers d k) (sym dirty) ∙ clean)

written_twice-at : (old : List ℕ) (at : ℕ) (first second : List ℕ) (k : ℕ) → at + length first ≤ length old → length first ≡ length second
    → get_or (written (written old at first) at second) k 0 ≡ get_or (written old at second) k 0
written_twice-at old at first second k fits same =
    elim (cases_lt k at) [
      | inl before ↦ away (inl before)
      | inr from ↦ elim (cases_lt k (at + length second)) [ inl inside ↦ within from inside | inr behind ↦ away (inr behind) ]
    ]
  where
    room : at + length second ≤ length (written old at first)
    room = omega (arith, length-written old at first fits)

    away : (k < at) ⊎ (at + length second ≤ k) → get_or (written (written old at first) at second) k 0 ≡ get_or (written old at second) k 0
    away out = get_or-written (written old at first) at second k room out ∙ get_or-written old at first k fits (subst (λ n. (k < at) ⊎ (at + n ≤ k)) (sym same) out) ∙ sym (get_or-written old at second k (omega arith) out)

    within : at ≤ k → k < at + length second → get_or (written (written old at first) at second) k 0 ≡ get_or (written old at second) k 0
    within low high = get_or-written_inside (written old at first) at second k room low high ∙ sym (get_or-written_inside old at second k (omega arith) low high)

written_twice : (old : List ℕ) (at : ℕ) (first second : List ℕ) → at + length first ≤ length old → length first ≡ length second
    → written (written old at first) at second ≡ written old at second
written_twice old at first second fits same =
    let long = length-written old at first fits in
    same_number_lists _ _ (length-written (written old at first) at second (omega arith) ∙ long ∙ sym (length-written old at second (omega arith))) (λ k h. written_twice-at old at first second k fits same)

pub two_writes_law : TwoWritesLaw
two_writes_law s t u at first second fits same wrote again = (
  again.seen ∙ ap (λ l. written l at second) wrote.seen ∙ written_twice s.seen at first second fits same,
  λ image.
      let (a, b) = dirtied s t at (length second) (subst (λ n. SameOutside ((at, n) ∷ []) s.seen t.seen) same (subst (λ l. SameOutside ((at, length first) ∷ []) s.seen l) (sym wrote.seen) (same_written s.seen at first fits))) range image in
      let (c, d) = again_dirty s t at (length second) range.dirty image in
      let (e, f) = write_law t u at second room again image in
      (λ left. e (c (a left)), λ left. b (d (f left))),
)
  where
    range : Dirtied at (length second) s t
    range = subst (λ n. Dirtied at n s t) same wrote.dirtied

    room : at + length second ≤ length t.seen
    room = omega (arith, ap length wrote.seen, length-written s.seen at first fits)

pub power_law : PowerLaw
power_law s t image left = (
  λ restored. let (there, back) = safe_law t image restored.safe in subst (λ l. MayLeave s l) (sym (there left)) restored.left,
  λ failed. record {
    no_shorter = subst (λ n. n ≤ length image) failed.shortest left.no_shorter;
    no_longer = subst (λ n. length image ≤ n) failed.longest left.no_longer;
    others = λ k low clean. left.others k (subst (λ n. k < n) (sym failed.shortest) low) (ap (λ d. covers d k) failed.dirty ∙ clean) ∙ failed.left.others k low clean;
  },
)

pub calls_law : CallsLaw
calls_law a b c first second refused one two = record {
  later = omega (arith, one.later, two.later);
  counted = omega (arith, one.counted, two.counted);
  few = omega (arith, one.few, two.few);
  cause = λ is. elim (two.cause is) [ inl off ↦ inl (sym same ∙ off) | inr rose ↦ inr (omega (arith, one.later, rose)) ];
  down = two.down ∙ ap (λ x. x || refused) same;
  plan = two.plan ∙ one.plan;
  places = two.places ∙ one.places;
}
  where
    or_false : (x : Bool) → x || false ≡ x
    or_false true = refl
    or_false false = refl

    same : b.is_down ≡ a.is_down
    same = one.down ∙ or_false a.is_down

pub seen_law : SeenLaw
seen_law s lengths = record { no_shorter = lengths.no_shorter; no_longer = lengths.no_longer; others = λ place low clean. refl }
