-- Transactions that are good so far, with one more, and as those of a good state.
use Rattle.std.proofs.Common.{◌≡◌, ◌&&◌, true, false, List, [], ◌∷◌, ◌++◌, None, length, nat_le, refl, sym, ◌∙◌, ap, subst, inl, inr, ◌⊎◌}
use Rattle.std.specs.List.{list_all}
use Rattle.std.proofs.lemmas.Bool.{and_from, and_parts, cases_Bool, false_from_ne_true, true≢false}
use Rattle.ktm_base.specs.declared.id.Id.{Id}
use Rattle.ktm_base.specs.declared.limits.TheConstants.{MOST_INFORMATION_BYTES}
use Rattle.ktm_world.specs.declared.change.Change.{Change}
use Rattle.ktm_saved.specs.Tests.{Against, AreBefore, AreGoodBeside, AreGoodSoFar, IsGoodBehind, against, has_good_changes, has_good_parts, is_enlisted_well, is_good_alone, is_staged_well, state_with}
use Rattle.txf_laws.specs.GoodState.{IsGoodState, are_kept_changes, are_kept_settings, enlisted, has_one_part_each, is_decided_well, is_done_well, is_drawn, is_held_well, is_ready_well}
use Rattle.txf_laws.proofs.offered.GoodTransactions.{Fitting, Rest, differ, good-from}
use Rattle.ktm_waiting.specs.Table.{changes_at}
use Rattle.ktm_waiting.specs.Waiting.{AreHeld, AreKept, IsWaitingKept, Reserves}
use Rattle.ktm_waiting.proofs.offered.Reserving.{HoldsPart, changes-with, changes-with-itself, reserves-changed, reserves-with, same-hold}
use Rattle.ktm_waiting.proofs.offered.TableSteps.{or-new, or_new}
use Rattle.ktm_world.specs.Changes.{changes_apply, has_changes}
use Rattle.ktm_world.specs.Durable.{Durable, Recorded, changes_of, enlistments_of, is_before, is_manager, is_new_in, recorded_at, settings_of, with_recorded}
use Rattle.ktm_world.specs.Holds.{holds_by}
use Rattle.ktm_world.specs.Transactions.{same_id}
use Rattle.ktm_world.specs.Tree.{Tree}
use Rattle.txf_laws.specs.Contents.{is_made_below, puts_some}
use Rattle.txf_laws.specs.Elements.{each_pair}
use Rattle.txf_laws.proofs.offered.Elements.{list_all-at, list_all-from}
use Rattle.txf_laws.proofs.offered.Lists.{AreFootprintsApart-sym}
use Rattle.txf_laws.specs.Footprint.{footprint}
use Rattle.txf_laws.proofs.offered.Tables.{Table, Table-with, before_other, is_before-then, same_id-equal, same_id-sym}
use Rattle.txf_reserve.specs.ReserveState.{ReserveState, holds_in}
use Rattle.txf_laws.proofs.offered.Settings.{set_both-sym}

-- ---- one by itself

-- what is so of a good one
pub record IsAlone (a : Against) (t : Recorded) : Type 0 where
  pub drawn : is_drawn (state_with a) t.id ≡ true
  pub ready : is_ready_well t ≡ true
  pub held : is_held_well t ≡ true
  pub decided : is_decided_well t ≡ true
  pub done : list_all (is_done_well t) t.parts ≡ true
  pub parts : has_one_part_each t ≡ true
  pub enlisted : list_all (is_enlisted_well a) (enlisted t) ≡ true
  pub differ : each_pair differ (enlistments_of t) ≡ true
  pub settings : are_kept_settings t ≡ true
  pub changes : are_kept_changes t ≡ true
  pub puts : list_all puts_some (changes_of t) ≡ true
  pub made : list_all (is_made_below a.next_node) (changes_of t) ≡ true
  pub apply : changes_apply a.tree (changes_of t) ≡ true
  pub new : list_all (is_new_in a.tree) (changes_of t) ≡ true

pub alone-from : (a : Against) (t : Recorded) → is_good_alone a t ≡ true → IsAlone a t
alone-from a t good =
    let all = and_parts (is_staged_well a t && has_good_parts a t && are_kept_settings t) (has_good_changes a t) good in
    let three = and_parts (is_staged_well a t && has_good_parts a t) (are_kept_settings t) all.0 in
    let two = and_parts (is_staged_well a t) (has_good_parts a t) three.0 in
    let done = and_parts (is_drawn (state_with a) t.id && is_ready_well t && is_held_well t && is_decided_well t) (list_all (is_done_well t) t.parts) two.0 in
    let decided = and_parts (is_drawn (state_with a) t.id && is_ready_well t && is_held_well t) (is_decided_well t) done.0 in
    let held = and_parts (is_drawn (state_with a) t.id && is_ready_well t) (is_held_well t) decided.0 in
    let drawn = and_parts (is_drawn (state_with a) t.id) (is_ready_well t) held.0 in
    let parts = and_parts (has_one_part_each t && list_all (is_enlisted_well a) (enlisted t)) (each_pair differ (enlistments_of t)) two.1 in
    let one = and_parts (has_one_part_each t) (list_all (is_enlisted_well a) (enlisted t)) parts.0 in
    let changes = and_parts (are_kept_changes t && list_all puts_some (changes_of t) && list_all (is_made_below a.next_node) (changes_of t)) (changes_apply a.tree (changes_of t) && list_all (is_new_in a.tree) (changes_of t)) all.1 in
    let made = and_parts (are_kept_changes t && list_all puts_some (changes_of t)) (list_all (is_made_below a.next_node) (changes_of t)) changes.0 in
    let kept = and_parts (are_kept_changes t) (list_all puts_some (changes_of t)) made.0 in
    let both = and_parts (changes_apply a.tree (changes_of t)) (list_all (is_new_in a.tree) (changes_of t)) changes.1 in
    record {
      drawn = drawn.0;
      ready = drawn.1;
      held = held.1;
      decided = decided.1;
      done = done.1;
      parts = one.0;
      enlisted = one.1;
      differ = parts.1;
      settings = three.1;
      changes = kept.0;
      puts = kept.1;
      made = made.1;
      apply = both.0;
      new = both.1;
    }

pub alone-to : (a : Against) (t : Recorded) → IsAlone a t → is_good_alone a t ≡ true
alone-to a t is =
    and_from _ _ (and_from _ _ (and_from _ _
    (and_from _ _ (and_from _ _ (and_from _ _ (and_from _ _ is.drawn is.ready) is.held) is.decided) is.done)
    (and_from _ _ (and_from _ _ is.parts is.enlisted) is.differ))
    is.settings)
    (and_from _ _ (and_from _ _ (and_from _ _ is.changes is.puts) is.made) (and_from _ _ is.apply is.new))

-- it fits into a state
fitting : (s : Durable) (t : Recorded) → IsAlone (against s) t → Fitting s t
fitting s t is = record {
  core = record {
    drawn = is.drawn;
    enlistments = λ e there.
        let all = and_parts (is_drawn s e.enlistment && is_manager s e.manager) (nat_le (length e.information) MOST_INFORMATION_BYTES) (list_all-at (is_enlisted_well (against s)) (enlisted t) is.enlisted e there) in
        let both = and_parts (is_drawn s e.enlistment) (is_manager s e.manager) all.0 in
        record { drawn = both.0; manager = both.1; information = all.1 };
    differ = is.differ;
    parts = is.parts;
    held = is.held;
    decided = is.decided;
    done = is.done;
    changes = is.changes;
    apply = is.apply;
    made = is.made;
    new = is.new;
    puts = is.puts;
    settings = is.settings;
  };
  ready = is.ready;
}

pub alone-fits : (s : Durable) (t : Recorded) → Fitting s t → IsAlone (against s) t
alone-fits s t fits = record {
  drawn = fits.core.drawn;
  ready = fits.ready;
  held = fits.core.held;
  decided = fits.core.decided;
  done = fits.core.done;
  parts = fits.core.parts;
  enlisted = list_all-from (is_enlisted_well (against s)) (enlisted t) (λ e there. let is = fits.core.enlistments e there in and_from _ _ (and_from _ _ is.drawn is.manager) is.information);
  differ = fits.core.differ;
  settings = fits.core.settings;
  changes = fits.core.changes;
  puts = fits.core.puts;
  made = fits.core.made;
  apply = fits.core.apply;
  new = fits.core.new;
}

pub kept-alone : (a : Against) (t : Recorded) → IsAlone a t → IsWaitingKept a.tree t
kept-alone a t is = record { parts = is.parts; changes = is.changes; settings = is.settings; apply = is.apply; new = is.new }

-- ---- all of them

-- no transactions are good ones
pub good-none : (a : Against) → AreGoodSoFar a []
good-none a = record { rise = refl; each = λ t there. absurd there; beside = λ t u there there' other. absurd there }

-- those of a state that is good in all else make it a good one
pub good-state : (s : Durable) → AreGoodSoFar (against s) s.transactions → Rest s → IsGoodState s
good-state s good rest = good-from s (record {
  rises = good.rise;
  fit = λ t there. fitting s t (alone-from (against s) t (good.each t there));
  beside = λ t u there there' other. let side = good.beside t u there there' other in record {
    enlistments = side.enlistments;
    files = λ waits waits'. side.files;
    keys = λ waits waits'. side.keys;
  };
}) rest

-- they are kept
pub good-kept : (a : Against) (ts : List Recorded) → AreGoodSoFar a ts → AreKept a.tree ts
good-kept a ts good = record {
  rise = good.rise;
  each = λ t there. kept-alone a t (alone-from a t (good.each t there));
  beside = λ t u there there' other. (good.beside t u there there' other).files;
}

turned : (tree : Tree) (t u : Recorded) → AreGoodBeside tree t u → AreGoodBeside tree u t
turned tree t u side = record {
  enlistments = λ x y there there'. same_id-sym y x (side.enlistments y x there' there);
  files = AreFootprintsApart-sym (footprint tree (changes_of t)) (footprint tree (changes_of u)) side.files;
  keys = set_both-sym (settings_of t) (settings_of u) side.keys;
}

-- ---- one more

-- the one that comes behind all others is put last
pub with-last : (ts : List Recorded) (t : Recorded) → AreBefore ts t.id → with_recorded ts t ≡ ts ++ t ∷ []
with-last [] t last = refl
with-last (x ∷ ts) t last =
    let before = last x (inl refl) in
    let other = false_from_ne_true (same_id x.id t.id) (λ same. before_other x.id t.id before (same_id-equal x.id t.id same)) in
    let behind = false_from_ne_true (is_before t.id x.id) (λ turned. before_other x.id x.id (is_before-then x.id t.id x.id before turned) refl) in
    rw (other, behind) (ap (λ l. x ∷ l) (with-last ts t (λ u there. last u (inr there))))

-- none has its Id
pub none-last : (ts : List Recorded) (id : Id) → AreBefore ts id → recorded_at ts id ≡ None
none-last [] id last = refl
none-last (x ∷ ts) id last =
    rw (false_from_ne_true (same_id x.id id) (λ same. before_other x.id id (last x (inl refl)) (same_id-equal x.id id same))) (none-last ts id (λ u there. last u (inr there)))

pub good-more : (a : Against) (ts : List Recorded) (t : Recorded) → AreGoodSoFar a ts → IsGoodBehind a ts t → AreGoodSoFar a (ts ++ t ∷ [])
good-more a ts t good behind = subst (AreGoodSoFar a) (with-last ts t behind.last) (record { rise = table.rises; each = table.fit; beside = table.beside })
  where
    table : Table (λ u. is_good_alone a u ≡ true) (AreGoodBeside a.tree) (with_recorded ts t)
    table = Table-with (λ u. is_good_alone a u ≡ true) (AreGoodBeside a.tree) (λ u. is_good_alone a u ≡ true) (AreGoodBeside a.tree) ts t
        (record { rises = good.rise; fit = good.each; beside = good.beside }) (λ u there other is. is) (λ u v there there' other other' is. is) behind.alone
        (λ u there other. let side = behind.beside u there in (side, turned a.tree t u side))

-- it holds what its changes hold
pub held-more : (r r' : ReserveState) (a : Against) (ts : List Recorded) (t : Recorded) → AreGoodSoFar a ts → IsGoodBehind a ts t → AreHeld r a.tree ts → HoldsPart r r' a.tree t.id (changes_of t) → AreHeld r' a.tree (ts ++ t ∷ [])
held-more r r' a ts t good behind held holds = record {
  kept = good-kept a (ts ++ t ∷ []) (good-more a ts t good behind);
  reserves = subst (Reserves r' a.tree) (with-last ts t behind.last) (reserves (cases_Bool (has_changes (changes_of t))));
}
  where
    none : (cs : List Change) → has_changes cs ≡ false → cs ≡ []
    none [] is = refl
    none (c ∷ cs) is = absurd (true≢false is)

    reserves : (has_changes (changes_of t) ≡ true) ⊎ (has_changes (changes_of t) ≡ false) → Reserves r' a.tree (with_recorded ts t)
    reserves (inl some) =
        reserves-changed r r' a.tree ts (with_recorded ts t) t.id (changes_of t) held.reserves (λ id. rw some at (holds id)) (changes-with-itself ts t t.id refl) (λ id other. changes-with ts t t.id id refl other)
    reserves (inr idle) =
        reserves-with r' a.tree ts t t.id (λ id. same-hold (holds_in r' id) (holds_in r id) (holds_by a.tree (changes_at (recorded_at ts id)) []) (rw idle at (holds id)) (held.reserves id)) refl
        (none (changes_of t) idle ∙ sym (ap changes_of (or-new ts t.id ∙ ap (or_new t.id) (none-last ts t.id behind.last))))
