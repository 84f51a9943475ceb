-- What passes the tests.
use Rattle.std.proofs.Common.{◌≡◌, ◌&&◌, not, Bool, true, false, List, [], ◌∷◌, None, refl, sym, ◌∙◌, ap, subst, inl, inr}
use Rattle.std.specs.Prelude.{Result, Ok, Err, IfOk}
use Rattle.std.specs.List.{list_all, list_any}
use Rattle.std.proofs.lemmas.Bool.{and_from, cases_Bool, not_from_false, true≢false}
use Rattle.ktm_world.specs.declared.change.Change.{Change}
use Rattle.ktm_saved.specs.Tests.{Against, AreGoodBesideAll, AreGoodSoFar, has_good_changes, is_good_alone, is_known}
use Rattle.ktm_saved.proofs.Refused.{with_these}
use Rattle.ktm_saved.proofs.SoFar.{alone-from}
use Rattle.txf_laws.specs.GoodState.{are_kept_changes}
use Rattle.txf_laws.proofs.offered.Settings.{set_both-sym}
use Rattle.txf_laws.proofs.offered.WaitingChanges.{no_settings-left}
use Rattle.ktm_waiting.specs.Waiting.{AreHeld, AreSpared, others_set, waits_beside}
use Rattle.ktm_waiting.proofs.offered.Beside.{changes-met}
use Rattle.ktm_waiting.proofs.offered.Keeping.{spared-plain}
use Rattle.ktm_world.specs.Changes.{changes_apply, has_changes}
use Rattle.ktm_world.specs.Durable.{Recorded, changes_of, enlistments_of, is_decided, is_new_in, settings_of}
use Rattle.ktm_world.specs.Keys.{OwnSettings}
use Rattle.ktm_world.specs.Lawful.{set_both}
use Rattle.ktm_world.specs.Transactions.{same_id}
use Rattle.txf_durable.specs.Waiting.{is_met}
use Rattle.txf_laws.specs.Contents.{is_made_below, puts_some}
use Rattle.txf_laws.specs.Elements.{IsIn}
use Rattle.txf_laws.specs.Footprint.{AreFootprintsApart, footprint}
use Rattle.txf_laws.proofs.offered.Diamonds.{no_test}
use Rattle.txf_laws.proofs.offered.Lists.{apart-from-none}
use Rattle.txf_laws.proofs.offered.Tables.{same_id-sym}
use Rattle.txf_reserve.specs.ReserveState.{ReserveState}

-- changes that are kept, put something and make nodes below the next number are good ones where they apply and make new nodes
pub changes-ok : {E : Type 0} (r : Result Bool E) (a : Against) (t : Recorded) (cs : List Change) → cs ≡ changes_of t → are_kept_changes t ≡ true → list_all puts_some cs ≡ true → list_all (is_made_below a.next_node) cs ≡ true
    → IfOk r (λ b. b ≡ (changes_apply a.tree cs && list_all (is_new_in a.tree) cs)) → IfOk r (λ b. b ≡ has_good_changes a t)
changes-ok (Ok b) a t cs same kept puts made is =
    let puts' = sym (ap (list_all puts_some) same) ∙ puts in
    let made' = sym (ap (list_all (is_made_below a.next_node)) same) ∙ made in
    is ∙ ap (λ ds. changes_apply a.tree ds && list_all (is_new_in a.tree) ds) same
    ∙ (λ i. sym kept i && sym puts' i && sym made' i && (changes_apply a.tree (changes_of t) && list_all (is_new_in a.tree) (changes_of t)))
changes-ok (Err fault) a t cs same kept puts made is = tt

no-changes : (cs : List Change) → has_changes cs ≡ false → cs ≡ []
no-changes [] none = refl
no-changes (c ∷ cs) none = absurd (true≢false none)

-- ---- beside others

-- a test that does not pass together with one that does
not-right : (x y : Bool) → (x && y) ≡ false → x ≡ true → y ≡ false
not-right true y none is = none
not-right false y none is = absurd (true≢false (sym is))

module _ (a : Against) (r : ReserveState) (ts : List Recorded) (t : Recorded) (good : AreGoodSoFar a ts) (held : AreHeld r a.tree ts) (alone : is_good_alone a t ≡ true) where
  keys-apart : others_set None (settings_of t) ts ≡ false → (u : Recorded) → IsIn u ts → set_both (settings_of t) (settings_of u) ≡ false
  keys-apart none u there = elim (cases_Bool (is_decided u.stage)) [
    | inl decided ↦
        let idle : settings_of u ≡ [] = no_settings-left u (alone-from a u (good.each u there)).settings decided in
        subst (λ (ss : OwnSettings). set_both (settings_of t) ss ≡ false) (sym idle) (set_both-sym [] (settings_of t) refl)
    | inr waits ↦
        not-right (waits_beside None u) (set_both (settings_of t) (settings_of u)) (no_test (λ (v : Recorded). waits_beside None v && set_both (settings_of t) (settings_of v)) u ts none there)
        (and_from _ _ (not_from_false _ waits) refl)
  ]

  files-apart : (has_changes (changes_of t) && is_met r None a.tree (changes_of t)) ≡ false → AreSpared a.tree ts (changes_of t)
  files-apart none = elim (cases_Bool (has_changes (changes_of t))) [
    | inl some ↦
        let is = alone-from a t alone in
        let met = not-right (has_changes (changes_of t)) (is_met r None a.tree (changes_of t)) none some in
        spared-plain (with_these a ts) (changes_of t) held.kept (changes-met (with_these a ts) r None (changes_of t) held is.apply is.new ∙ ap not met)
    | inr idle ↦ λ u there. subst (λ (cs : List Change). AreFootprintsApart (footprint a.tree cs) (footprint a.tree (changes_of u))) (sym (no-changes (changes_of t) idle)) (apart-from-none a.tree (changes_of u))
  ]

  -- a transaction that has no enlistment of the others, sets no key that they set, and meets nothing that they hold, is good beside them
  pub good-beside : list_any (is_known ts) (enlistments_of t) ≡ false → others_set None (settings_of t) ts ≡ false → (has_changes (changes_of t) && is_met r None a.tree (changes_of t)) ≡ false
      → AreGoodBesideAll a.tree ts t
  good-beside known set met u there = record {
    enlistments = λ x y has has'.
        same_id-sym y x (no_test (λ other. same_id other x) y (enlistments_of u) (no_test (λ (v : Recorded). list_any (λ other. same_id other x) (enlistments_of v)) u ts (no_test (is_known ts) x (enlistments_of t) known has) there) has');
    files = files-apart met u there;
    keys = keys-apart set u there;
  }
