-- What a group counts, where one enlistment is changed, and where one more comes.
use Rattle.std.proofs.Common.{◌≡◌, ℕ, ◌+◌, ◌<◌, ◌≤◌, ◌^◌, ◌&&◌, ◌||◌, nat_lt, Bool, true, false, cond, List, [], ◌∷◌, ◌++◌, length, get_or, count_by, is_some, refl, sym, ◌∙◌, ap, arith}
use Rattle.std.specs.List.{list_any}
use Rattle.std.proofs.lemmas.Bool.{lt-ltb}
use Rattle.std.proofs.lemmas.List.Sums.{count_by-le-length, get_or-le-sum_by, sum_by-cons, sum_by-set, sum_by_push}
use Rattle.ktm_base.specs.declared.id.Id.{Id}
use Rattle.ktm_world.specs.Enlistments.{Enlistment, allows_one_phase, asks_pre_prepare, is_unfinished, takes_part}
use Rattle.ktm_world.specs.Phases.{one_if}
use Rattle.ktm_enlist.specs.declared.group.Group.{Group}
use Rattle.ktm_enlist.specs.declared.standing.Standing.{Standing}
use Rattle.ktm_enlist.specs.Counts.{is_live_until_end}
use Rattle.ktm_enlist.specs.Groups.{fresh, recounted, regrouped, IsCounted, MayRecount, MayRegroup}
use Rattle.ktm_enlist.specs.Places.{changed, is_own, HasNone}
use Rattle.ktm_enlist.specs.Standing.{is_part, nothing, standing_of}
use Rattle.ktm_enlist.proofs.Places.{changed_is, changed_length}

-- ---- what one enlistment counts for in a group

pub record Stands (id : Id) (e : Enlistment) (s : Standing) : Type 0 where
  pub part : (takes_part id e && true) ≡ s.takes_part
  pub asking : (takes_part id e && asks_pre_prepare e) ≡ s.asks
  pub in_one_phase : (takes_part id e && allows_one_phase e) ≡ s.in_one_phase
  pub owing : (takes_part id e && is_some e.owes) ≡ s.owes
  pub unfinished : is_unfinished id e ≡ s.is_unfinished
  pub live : is_live_until_end id e ≡ s.is_live

-- what holds together with true is itself
and_true : (b : Bool) → (b && true) ≡ b
and_true true = refl
and_true false = refl

-- in that of its transaction, what it counts for
pub stands_own : (id : Id) (e : Enlistment) → is_own id e ≡ true → Stands id e (standing_of e)
stands_own id e own = record {
  part = rw own (and_true (is_part e));
  asking = rw own refl;
  in_one_phase = rw own refl;
  owing = rw own refl;
  unfinished = rw own refl;
  live = rw own refl;
}

-- in another, nothing
pub stands_not : (id : Id) (e : Enlistment) → is_own id e ≡ false → Stands id e nothing
stands_not id e other = record {
  part = rw other refl;
  asking = rw other refl;
  in_one_phase = rw other refl;
  owing = rw other refl;
  unfinished = rw other refl;
  live = rw other refl;
}

-- ---- one number

-- where two counts differ by the shares, the one is the other with the shares
shares : (n m : ℕ) (was is : Bool) → m + cond was 1 0 ≡ n + cond is 1 0 → cond was 1 0 ≤ n → (one_if was ≤ n) × (recounted n was is ≡ m)
shares n m true true moves few = (few, omega (arith, moves, few))
shares n m true false moves few = (few, omega (arith, moves, few))
shares n m false true moves few = (few, omega (arith, moves, few))
shares n m false false moves few = (few, omega (arith, moves, few))

-- the number of those that pass changes by the share of the one that is changed
recounts : (p : Enlistment → Bool) (f : Enlistment → Enlistment) (es : List Enlistment) (i : ℕ) (d : Enlistment) (n : ℕ) (was is : Bool)
    → i < length es → n ≡ count_by p es → p (get_or es i d) ≡ was → p (f (get_or es i d)) ≡ is
    → (one_if was ≤ n) × (recounted n was is ≡ count_by p (changed f es i))
recounts p f es i d n was is within counts before after =
    let moves : count_by p (changed f es i) + cond (p (get_or es i d)) 1 0 ≡ count_by p es + cond (p (f (get_or es i d))) 1 0 =
    ap (λ l. count_by p l + cond (p (get_or es i d)) 1 0) (sym (changed_is f es i d)) ∙ sum_by-set (λ x. cond (p x) 1 0) es i (f (get_or es i d)) d within in
    let few : cond (p (get_or es i d)) 1 0 ≤ count_by p es = get_or-le-sum_by (λ x. cond (p x) 1 0) es i d within in
    rw counts (shares (count_by p es) (count_by p (changed f es i)) was is (rw (before, after) at moves) (rw before at few))

-- a count of some of them stays within 32 bits
fits : (p : Enlistment → Bool) (f : Enlistment → Enlistment) (es : List Enlistment) (i n : ℕ) (was is : Bool)
    → length es < 2 ^ 32 → (one_if was ≤ n) × (recounted n was is ≡ count_by p (changed f es i)) → MayRecount n was is
fits p f es i n was is few counts =
    let most = count_by-le-length p (changed f es i) in
    (counts.0, omega (arith, counts.1, most, changed_length f es i, few))

-- one more share is added
joins : (n : ℕ) (is : Bool) → recounted n false is ≡ n + cond is 1 0
joins n true = omega arith
joins n false = omega arith

-- it changes by the share of one more
pushed : (p : Enlistment → Bool) (es : List Enlistment) (e : Enlistment) (n : ℕ) (is : Bool) → n ≡ count_by p es → p e ≡ is → recounted n false is ≡ count_by p (es ++ e ∷ [])
pushed p es e n is counts after = joins n is ∙ (rw (counts, sym after) (sym (sum_by_push (λ x. cond (p x) 1 0) es e)))

-- what does not pass has no share
no_share : (b : Bool) (n : ℕ) → b ≡ false → cond b 1 0 + n ≡ n
no_share b n is = rw is (omega arith)

-- of none that could pass, none pass
none_count : (p test : Enlistment → Bool) → ((e : Enlistment) → test e ≡ false → p e ≡ false) → (es : List Enlistment) → HasNone test es → 0 ≡ count_by p es
none_count p test fails [] none = refl
none_count p test fails (e ∷ es) none =
    let rest = none_count p test fails es none.1 in
    rest ∙ sym (sum_by-cons (λ x. cond (p x) 1 0) e es ∙ no_share (p e) (count_by p es) (fails e none.0))

-- one of them passes where more than none do
pub any_counted : (p : Enlistment → Bool) (es : List Enlistment) (n : ℕ) → n ≡ count_by p es → nat_lt 0 n ≡ list_any p es
any_counted p es n counts = ap (nat_lt 0) counts ∙ go es
  where
    more : (b : Bool) (n : ℕ) → nat_lt 0 (cond b 1 0 + n) ≡ (b || nat_lt 0 n)
    more true n = lt-ltb 0 (1 + n) (omega arith)
    more false n = let same : 0 + n ≡ n = omega arith in ap (nat_lt 0) same

    go : (es : List Enlistment) → nat_lt 0 (count_by p es) ≡ list_any p es
    go [] = refl
    go (e ∷ es) = ap (nat_lt 0) (sum_by-cons (λ x. cond (p x) 1 0) e es) ∙ more (p e) (count_by p es) ∙ ap (λ b. p e || b) (go es)

-- ---- all numbers of a group

module _ (f : Enlistment → Enlistment) (es : List Enlistment) (i : ℕ) (d : Enlistment) (g : Group) (was is : Standing) (within : i < length es) (c : IsCounted es g) (before : Stands g.transaction (get_or es i d) was) (after : Stands g.transaction (f (get_or es i d)) is) where
  -- they change by what is changed of one enlistment
  pub counted_changed : IsCounted (changed f es i) (regrouped was is g)
  counted_changed = record {
    counts = record {
      enlistments = (recounts _ f es i d _ _ _ within c.counts.enlistments before.part after.part).1;
      asking = (recounts _ f es i d _ _ _ within c.counts.asking before.asking after.asking).1;
      in_one_phase = (recounts _ f es i d _ _ _ within c.counts.in_one_phase before.in_one_phase after.in_one_phase).1;
      owing = (recounts _ f es i d _ _ _ within c.counts.owing before.owing after.owing).1;
    };
    unfinished = (recounts _ f es i d _ _ _ within c.unfinished before.unfinished after.unfinished).1;
    live = (recounts _ f es i d _ _ _ within c.live before.live after.live).1;
  }

  -- those of its group stay within 32 bits
  pub counted_fits : length es < 2 ^ 32 → MayRegroup g was is
  counted_fits few = record {
    parts = fits _ f es i _ _ _ few (recounts _ f es i d _ _ _ within c.counts.enlistments before.part after.part);
    asking = fits _ f es i _ _ _ few (recounts _ f es i d _ _ _ within c.counts.asking before.asking after.asking);
    in_one_phase = fits _ f es i _ _ _ few (recounts _ f es i d _ _ _ within c.counts.in_one_phase before.in_one_phase after.in_one_phase);
    owing = fits _ f es i _ _ _ few (recounts _ f es i d _ _ _ within c.counts.owing before.owing after.owing);
    unfinished = fits _ f es i _ _ _ few (recounts _ f es i d _ _ _ within c.unfinished before.unfinished after.unfinished);
    live = fits _ f es i _ _ _ few (recounts _ f es i d _ _ _ within c.live before.live after.live);
  }

-- they are as they were where it counts as it did
pub counted_kept : (f : Enlistment → Enlistment) (es : List Enlistment) (i : ℕ) (d : Enlistment) (g : Group) (s : Standing) → i < length es → IsCounted es g
    → Stands g.transaction (get_or es i d) s → Stands g.transaction (f (get_or es i d)) s → IsCounted (changed f es i) g
counted_kept f es i d g s within c before after = record {
  counts = record {
    enlistments = stays _ _ _ (recounts _ f es i d _ _ _ within c.counts.enlistments before.part after.part);
    asking = stays _ _ _ (recounts _ f es i d _ _ _ within c.counts.asking before.asking after.asking);
    in_one_phase = stays _ _ _ (recounts _ f es i d _ _ _ within c.counts.in_one_phase before.in_one_phase after.in_one_phase);
    owing = stays _ _ _ (recounts _ f es i d _ _ _ within c.counts.owing before.owing after.owing);
  };
  unfinished = stays _ _ _ (recounts _ f es i d _ _ _ within c.unfinished before.unfinished after.unfinished);
  live = stays _ _ _ (recounts _ f es i d _ _ _ within c.live before.live after.live);
}
  where
    stays : (n m : ℕ) (b : Bool) → (one_if b ≤ n) × (recounted n b b ≡ m) → n ≡ m
    stays n m b is = omega (arith, is.0, is.1)

-- a group of which nothing changes is as it was
pub counted_same : (es : List Enlistment) (g : Group) → IsCounted es (regrouped nothing nothing g) → IsCounted es g
counted_same es g c = record {
  counts = record {
    enlistments = stays _ _ c.counts.enlistments;
    asking = stays _ _ c.counts.asking;
    in_one_phase = stays _ _ c.counts.in_one_phase;
    owing = stays _ _ c.counts.owing;
  };
  unfinished = stays _ _ c.unfinished;
  live = stays _ _ c.live;
}
  where
    stays : (n m : ℕ) → recounted n false false ≡ m → n ≡ m
    stays n m same = omega (arith, same)

-- they change by what one more counts for
pub counted_push : (es : List Enlistment) (e : Enlistment) (g : Group) (is : Standing) → IsCounted es g → Stands g.transaction e is → IsCounted (es ++ e ∷ []) (regrouped nothing is g)
counted_push es e g is c after = record {
  counts = record {
    enlistments = pushed _ es e _ _ c.counts.enlistments after.part;
    asking = pushed _ es e _ _ c.counts.asking after.asking;
    in_one_phase = pushed _ es e _ _ c.counts.in_one_phase after.in_one_phase;
    owing = pushed _ es e _ _ c.counts.owing after.owing;
  };
  unfinished = pushed _ es e _ _ c.unfinished after.unfinished;
  live = pushed _ es e _ _ c.live after.live;
}

-- one more fits where the number stays within 32 bits
pub push_fits : (es : List Enlistment) (g : Group) (is : Standing) → IsCounted es g → length es + 1 < 2 ^ 32 → MayRegroup g nothing is
push_fits es g is c few = record {
  parts = small _ _ _ c.counts.enlistments;
  asking = small _ _ _ c.counts.asking;
  in_one_phase = small _ _ _ c.counts.in_one_phase;
  owing = small _ _ _ c.counts.owing;
  unfinished = small _ _ _ c.unfinished;
  live = small _ _ _ c.live;
}
  where
    one : (b : Bool) → cond b 1 0 ≤ 1
    one true = omega arith
    one false = omega arith

    small : (p : Enlistment → Bool) (n : ℕ) (b : Bool) → n ≡ count_by p es → MayRecount n false b
    small p n b counts = (omega arith, omega (arith, counts, joins n b, one b, count_by-le-length p es, few))

-- a transaction that has none counts nothing
pub none_counted : (es : List Enlistment) (id : Id) → HasNone (is_own id) es → (place : ℕ) → IsCounted es (fresh id place)
none_counted es id none place = record {
  counts = record {
    enlistments = none_count _ (is_own id) (λ e other. (stands_not id e other).part) es none;
    asking = none_count _ (is_own id) (λ e other. (stands_not id e other).asking) es none;
    in_one_phase = none_count _ (is_own id) (λ e other. (stands_not id e other).in_one_phase) es none;
    owing = none_count _ (is_own id) (λ e other. (stands_not id e other).owing) es none;
  };
  unfinished = none_count _ (is_own id) (λ e other. (stands_not id e other).unfinished) es none;
  live = none_count _ (is_own id) (λ e other. (stands_not id e other).live) es none;
}
