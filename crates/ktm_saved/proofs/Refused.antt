-- Transactions with which those of no good state begin.
use Rattle.std.proofs.Common.{◌≡◌, ℕ, ◌≤◌, ◌<◌, ◌==◌, ◌&&◌, not, true, false, List, [], ◌∷◌, ◌++◌, None, length, map, nat_le, sum_by, refl, sym, ◌∙◌, ap, subst, arith, inl, inr}
use Rattle.std.specs.List.{list_all, list_any}
use Rattle.std.proofs.lemmas.Bool.{and_from, and_parts, cases_Bool, eqb-true, false_from_ne_true, le-leb, leb-true, not_from_false, true≢false}
use Rattle.std.proofs.lemmas.List.Sums.{sum_by-append}
use Rattle.ktm_base.specs.declared.limits.TheConstants.{MOST_LIVE}
use Rattle.ktm_world.specs.declared.change.Change.{Change}
use Rattle.ktm_saved.specs.Tests.{Against, AreBefore, AreGoodBeside, BeginNone, IsGoodBehind, against, is_good_alone, is_known, state_with}
use Rattle.ktm_saved.proofs.SoFar.{IsAlone, alone-fits, alone-from, alone-to, with-last}
use Rattle.txf_laws.specs.GoodState.{IsGoodState}
use Rattle.txf_laws.proofs.offered.GoodTransactions.{Beside, TableOf, table-of}
use Rattle.txf_laws.proofs.offered.Settings.{set_both-sym}
use Rattle.txf_laws.proofs.offered.WaitingChanges.{no_changes-left, no_settings-left}
use Rattle.ktm_waiting.specs.declared.amounts.Amounts.{Amounts}
use Rattle.ktm_waiting.specs.Totals.{PassImages}
use Rattle.ktm_waiting.specs.Waiting.{AreHeld, AreSpared, amounts_of, fits_in, limits, others_set, total, waits_beside}
use Rattle.ktm_waiting.proofs.offered.Beside.{changes-met}
use Rattle.ktm_waiting.proofs.offered.Limits.{images-passed}
use Rattle.ktm_world.specs.Changes.{changes_apply, has_made, is_make, node_of}
use Rattle.ktm_world.specs.Durable.{Durable, Recorded, acts_of_all, changes_of, enlistments_of, is_before, is_decided, is_new_in, is_within_limits, others_waiting, recorded_changes_apply, settings_of, with_recorded}
use Rattle.ktm_world.specs.Holds.{holds_by, meets}
use Rattle.ktm_world.specs.Lawful.{set_both}
use Rattle.ktm_world.specs.Transactions.{same_id}
use Rattle.ktm_world.specs.Tree.{Tree}
use Rattle.txf_durable.specs.Waiting.{is_met}
use Rattle.txf_laws.specs.Elements.{IsIn}
use Rattle.txf_laws.specs.Footprint.{AreFootprintsApart, footprint}
use Rattle.txf_laws.proofs.offered.Diamonds.{IsIn-map, IsIn-right, none-from}
use Rattle.txf_laws.proofs.offered.Elements.{IsIn-filter, each_pair-across, each_pair-left, list_all-from, list_any-at}
use Rattle.txf_laws.proofs.offered.Holds.{apart-missed}
use Rattle.txf_laws.proofs.offered.Lists.{AreFootprintsApart-sym, IsIn-left, apart-from-none}
use Rattle.txf_laws.proofs.offered.Sums.{sum-one}
use Rattle.txf_laws.proofs.offered.Tables.{Rises, before_other, is_earlier, same_id-sym}
use Rattle.txf_reserve.specs.ReserveState.{ReserveState}

-- ---- in a good state

-- two of its transactions are good beside each other: what waits is apart, and what is decided changes and sets nothing
beside-in : (s : Durable) (t u : Recorded) → IsAlone (against s) t → IsAlone (against s) u → Beside s t u → AreGoodBeside s.tree t u
beside-in s t u this that sides = record {
  enlistments = sides.enlistments;
  files = elim (cases_Bool (is_decided t.stage)) [
    | inl decided ↦ subst (λ (cs : List Change). AreFootprintsApart (footprint s.tree cs) (footprint s.tree (changes_of u))) (sym (no_changes-left t this.changes decided)) (apart-from-none s.tree (changes_of u))
    | inr waits ↦ elim (cases_Bool (is_decided u.stage)) [
      | inl decided ↦
          subst (λ (cs : List Change). AreFootprintsApart (footprint s.tree (changes_of t)) (footprint s.tree cs)) (sym (no_changes-left u that.changes decided))
          (AreFootprintsApart-sym (footprint s.tree []) (footprint s.tree (changes_of t)) (apart-from-none s.tree (changes_of t)))
      | inr waits' ↦ sides.files waits waits'
    ]
  ];
  keys = elim (cases_Bool (is_decided t.stage)) [
    | inl decided ↦ rw (no_settings-left t this.settings decided) refl
    | inr waits ↦ elim (cases_Bool (is_decided u.stage)) [
      | inl decided ↦ set_both-sym (settings_of u) (settings_of t) (rw (no_settings-left u that.settings decided) refl)
      | inr waits' ↦ sides.keys waits waits'
    ]
  ];
}

-- where its transactions begin with these, the last of them is good behind the others
behind-in : (s : Durable) (ts us : List Recorded) (t : Recorded) → IsGoodState s → s.transactions ≡ (ts ++ t ∷ []) ++ us → IsGoodBehind (against s) ts t
behind-in s ts us t good is = record {
  last = last;
  alone = alone-to (against s) t (alone t here);
  beside = λ u there. let at = among u there in beside-in s t u (alone t here) (alone u at) (table.beside t u here at (λ e. before_other u.id t.id (last u there) (sym e)));
}
  where
    table : TableOf s s.transactions
    table = table-of s good

    front : (u : Recorded) → IsIn u (ts ++ t ∷ []) → IsIn u s.transactions
    front u there = subst (λ (l : List Recorded). IsIn u l) (sym is) (IsIn-left u (ts ++ t ∷ []) us there)

    here : IsIn t s.transactions
    here = front t (IsIn-right t ts (t ∷ []) (inl refl))

    among : (u : Recorded) → IsIn u ts → IsIn u s.transactions
    among u there = front u (IsIn-left u ts (t ∷ []) there)

    last : AreBefore ts t.id
    last u there = each_pair-across is_earlier ts (t ∷ []) (each_pair-left is_earlier (ts ++ t ∷ []) us (subst Rises is good.transactions_rise)) u t there (inl refl)

    alone : (u : Recorded) → IsIn u s.transactions → IsAlone (against s) u
    alone u there = alone-fits s u (table.fit u there)

-- where one is not good behind others, no good state begins with them
pub none-behind : (a : Against) (ts : List Recorded) (t : Recorded) → (IsGoodBehind a ts t → ⊥) → BeginNone a (ts ++ t ∷ [])
none-behind a ts t none s us same is small good = none (subst (λ (b : Against). IsGoodBehind b ts t) same (behind-in s ts us t good is))

-- ---- its place, and how many enlistments it has

pub none-before : (a : Against) (ts : List Recorded) (t : Recorded) → list_all (λ (u : Recorded). is_before u.id t.id) ts ≡ false → BeginNone a (ts ++ t ∷ [])
none-before a ts t fails = none-behind a ts t (λ behind. true≢false (sym (list_all-from (λ (u : Recorded). is_before u.id t.id) ts behind.last) ∙ fails))

few-enlistments : (s : Durable) → is_within_limits s ≡ true → sum_by (λ (t : Recorded). length (enlistments_of t)) s.transactions ≤ MOST_LIVE
unfolding is_within_limits
few-enlistments s within = leb-true _ MOST_LIVE (and_parts _ (nat_le (sum_by (λ (t : Recorded). length (enlistments_of t)) s.transactions) MOST_LIVE) (and_parts _ (nat_le (length s.managers) MOST_LIVE) within).0).1

pub none-many : (a : Against) (ts : List Recorded) (t : Recorded) → MOST_LIVE < length (enlistments_of t) → BeginNone a (ts ++ t ∷ [])
none-many a ts t many s us same is small good =
    let few = few-enlistments s good.limits in
    let one = sum-one (λ (u : Recorded). length (enlistments_of u)) s.transactions t (subst (λ (l : List Recorded). IsIn t l) (sym is) (IsIn-left t (ts ++ t ∷ []) us (IsIn-right t ts (t ∷ []) (inl refl)))) in
    omega (arith, few, one, many)

-- ---- by itself

pub none-alone : (a : Against) (ts : List Recorded) (t : Recorded) → is_good_alone a t ≡ false → BeginNone a (ts ++ t ∷ [])
none-alone a ts t fails = none-behind a ts t (λ behind. true≢false (sym behind.alone ∙ fails))

-- ---- beside others

pub none-known : (a : Against) (ts : List Recorded) (t : Recorded) → list_any (is_known ts) (enlistments_of t) ≡ true → BeginNone a (ts ++ t ∷ [])
none-known a ts t known = none-behind a ts t (λ behind.
    let mine = list_any-at (is_known ts) (enlistments_of t) known in
    let whose = list_any-at (λ (u : Recorded). list_any (λ other. same_id other mine.0) (enlistments_of u)) ts mine.2 in
    let theirs = list_any-at (λ other. same_id other mine.0) (enlistments_of whose.0) whose.2 in
    true≢false (sym theirs.2 ∙ same_id-sym mine.0 theirs.0 ((behind.beside whose.0 whose.1).enlistments mine.0 theirs.0 mine.1 theirs.1)))

pub none-set : (a : Against) (ts : List Recorded) (t : Recorded) → others_set None (settings_of t) ts ≡ true → BeginNone a (ts ++ t ∷ [])
none-set a ts t set = none-behind a ts t (λ behind.
    let whose = list_any-at (λ (u : Recorded). waits_beside None u && set_both (settings_of t) (settings_of u)) ts set in
    true≢false (sym (and_parts (waits_beside None whose.0) (set_both (settings_of t) (settings_of whose.0)) whose.2).1 ∙ (behind.beside whose.0 whose.1).keys))

-- the state with these transactions and nothing else that they are not tested against
abbrev pub with_these : Against → List Recorded → Durable
with_these a ts = record (state_with a) { transactions = ts }

-- changes that are apart from those of one that waits meet nothing of it
spares : (tree : Tree) (bs cs : List Change) → changes_apply tree cs ≡ true → AreFootprintsApart (footprint tree cs) (footprint tree bs)
    → (not (list_any (meets (holds_by tree bs [])) (acts_of_all tree cs)) && not (list_any (λ change. is_make change && has_made bs (node_of change)) cs)) ≡ true
spares tree bs cs all apart = and_from _ _ (not_from_false _ (apart-missed tree bs cs all apart))
    (not_from_false _ (none-from (λ change. is_make change && has_made bs (node_of change)) cs (λ c there. false_from_ne_true _ (λ both.
    let made = list_any-at (λ change. is_make change && node_of change == node_of c) bs (and_parts (is_make c) (has_made bs (node_of c)) both).1 in
    let at = eqb-true _ _ (and_parts (is_make made.0) (node_of made.0 == node_of c) made.2).1 in
    apart.nodes (node_of c) (IsIn-map node_of c cs there) (subst (λ n. IsIn n (map node_of bs)) at (IsIn-map node_of made.0 bs made.1))))))

applies-beside : (s : Durable) (cs : List Change) → changes_apply s.tree cs ≡ true → list_all (is_new_in s.tree) cs ≡ true → AreSpared s.tree s.transactions cs → recorded_changes_apply s None cs ≡ true
applies-beside s cs all new spared = and_from _ _ (and_from _ _ (list_all-from _ (others_waiting s None) (λ u there.
    spares s.tree (changes_of u) cs all (spared u (IsIn-filter (λ (v : Recorded). not (is_decided v.stage)) s.transactions u there).0))) all) new

pub none-met : (r : ReserveState) (a : Against) (ts : List Recorded) (t : Recorded) → AreHeld r a.tree ts → is_good_alone a t ≡ true → is_met r None a.tree (changes_of t) ≡ true → BeginNone a (ts ++ t ∷ [])
none-met r a ts t held good met = none-behind a ts t (λ behind.
    let is = alone-from a t good in
    let apply = applies-beside (with_these a ts) (changes_of t) is.apply is.new (λ u there. (behind.beside u there).files) in
    true≢false (sym apply ∙ changes-met (with_these a ts) r None (changes_of t) held is.apply is.new ∙ ap not met))

-- ---- how much they take

less : (f : Recorded → ℕ) (ts us : List Recorded) (most : ℕ) → nat_le (sum_by f (ts ++ us)) most ≡ true → nat_le (sum_by f ts) most ≡ true
less f ts us most fits = let all = sum_by-append f ts us in let few = leb-true (sum_by f (ts ++ us)) most fits in le-leb (sum_by f ts) most (omega (arith, all, few))

-- what some of them take together fits where what all take does
fits-front : (tree : Tree) (ts us : List Recorded) (room : Amounts) → fits_in (total tree (ts ++ us)) room ≡ true → fits_in (total tree ts) room ≡ true
fits-front tree ts us room fits =
    let all = total tree (ts ++ us) in
    let e = and_parts (nat_le all.units room.units && nat_le all.nodes room.nodes && nat_le all.keys room.keys && nat_le all.changes room.changes) (nat_le all.enlistments room.enlistments) fits in
    let c = and_parts (nat_le all.units room.units && nat_le all.nodes room.nodes && nat_le all.keys room.keys) (nat_le all.changes room.changes) e.0 in
    let k = and_parts (nat_le all.units room.units && nat_le all.nodes room.nodes) (nat_le all.keys room.keys) c.0 in
    let n = and_parts (nat_le all.units room.units) (nat_le all.nodes room.nodes) k.0 in
    and_from _ _ (and_from _ _ (and_from _ _ (and_from _ _ (less (λ t. (amounts_of tree t).units) ts us room.units n.0) (less (λ t. (amounts_of tree t).nodes) ts us room.nodes n.1)) (less (λ t. (amounts_of tree t).keys) ts us room.keys k.1))
    (less (λ t. (amounts_of tree t).changes) ts us room.changes c.1)) (less (λ t. (amounts_of tree t).enlistments) ts us room.enlistments e.1)

-- with more of them no image has room either
passed-more : (ts us : List Recorded) → PassImages ts → PassImages (ts ++ us)
passed-more ts us past tree all units small = false_from_ne_true _ (λ fits.
    true≢false (sym (fits-front tree ts us (limits units) fits) ∙ past tree (λ t there. all t (IsIn-left t ts us there)) units small))

pub none-room : (a : Against) (ts : List Recorded) (t : Recorded) → AreBefore ts t.id → PassImages (with_recorded ts t) → BeginNone a (ts ++ t ∷ [])
none-room a ts t last past s us same is small good =
    let begins = subst PassImages (with-last ts t last) past in
    let all = subst PassImages (sym is) (passed-more (ts ++ t ∷ []) us begins) in
    true≢false (sym good.limits ∙ images-passed s (λ u there. ((table-of s good).fit u there).core.apply) all small)
