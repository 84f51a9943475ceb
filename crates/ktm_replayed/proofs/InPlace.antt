-- Settings that are tested and made where they lie, one behind another.
use Rattle.std.proofs.Common.{◌≡◌, ℕ, ◌+◌, ◌-◌, ◌<◌, ◌≤◌, true, List, [], ◌∷◌, ◌++◌, Option, None, length, take, drop, refl, sym, ◌∙◌, ap, subst, arith}
use Rattle.std.specs.List.{list_all}
use Rattle.std.proofs.lemmas.Bool.{and_from, and_parts, false_from_ne_true, true≢false}
use Rattle.std.proofs.lemmas.List.{length_push}
use Rattle.ktm_base.specs.declared.id.Id.{Id}
use Rattle.ktm_base.specs.Grammar.{IsU8}
use Rattle.ktm_codec.specs.Spans.{Reads, Spans}
use Rattle.ktm_codec.proofs.SpansLemmas.{one_reading, row_next, row_push, spans_parts, spans_tagged, spans_then, tagged_rest}
use Rattle.ktm_event.proofs.Parts.{unambiguous_id, unambiguous_setting}
use Rattle.ktm_event.proofs.Tags.{other}
use Rattle.ktm_keyed.specs.declared.keyed.Keyed.{Keyed}
use Rattle.ktm_keyed.specs.Keyed.{comes_before, is_rising}
use Rattle.ktm_replayed.specs.Settings.{AreBadFrom, AreMade, IsSingleAt}
use Rattle.ktm_replayed.proofs.offered.Rows.{row-split}
use Rattle.ktm_world.specs.declared.event.Event.{Event}
use Rattle.ktm_world.specs.declared.event.Event.TheVariants.{Single}
use Rattle.ktm_world.specs.declared.event.Part.{Part}
use Rattle.ktm_world.specs.declared.event.Part.TheVariants.{Changes, Enlistment, Settings}
use Rattle.ktm_world.specs.EventGrammar.{AreSettingsOf, IsEventOf, IsIdOf, IsSettingOf, IsSoleOf}
use Rattle.ktm_world.specs.Keys.{OwnSettings, Store, is_good_setting, stored, stored_all}

-- one setting
abbrev Setting : Type 0
Setting = Keyed (Option (List ℕ))

-- ---- the event

module _ (bytes : List ℕ) (at a b start : ℕ) (transaction : Id) (single : Spans (IsU8 5) bytes at a) (id : Spans (IsIdOf transaction) bytes a b) (settings : Spans (IsU8 3) bytes b start) where
  only-part : (t : Id) (part : Part) (end : ℕ) → Spans (IsSoleOf part) bytes b end → t ≡ transaction
      → (ss : OwnSettings) × (Single t part ≡ Single transaction (Settings ss)) × Spans (AreSettingsOf ss) bytes start end
  only-part t (Enlistment enlistment manager information) end spans same = absurd spans.form
  only-part t (Changes changes) end spans same = absurd (other (tagged_rest bytes b 3 start settings 2 end spans).0 refl)
  only-part t (Settings ss) end spans same = (ss, ap (λ (u : Id). Single u (Settings ss)) same, (tagged_rest bytes b 3 start settings 3 end spans).1)

  only-event : (event : Event) (end : ℕ) → Spans (IsEventOf event) bytes at end → (ss : OwnSettings) × (event ≡ Single transaction (Settings ss)) × Spans (AreSettingsOf ss) bytes start end
  only-event (Single t part) end spans =
      let (mid, id', rest) = spans_parts bytes a end (tagged_rest bytes at 5 a single 5 end spans).1 in
      let (ids, places) = one_reading IsIdOf unambiguous_id bytes a transaction t b mid id id' in
      only-part t part end (subst (λ n. Spans (IsSoleOf part) bytes n end) (sym places) rest) (sym ids)
  only-event event end spans = absurd (other (tagged_rest bytes at 5 a single _ end spans).0 refl)

  pub single-at : IsSingleAt bytes at transaction start
  single-at = record {
    spelled = λ ss end spans. spans_tagged bytes at 5 a single end (spans_then bytes a b end id (spans_tagged bytes b 3 start settings end spans));
    only = only-event;
  }

-- ---- settings in a row

-- the last key of settings, or none
abbrev pub last_key : OwnSettings → List ℕ
last_key [] = []
last_key (s ∷ []) = s.key
last_key (s ∷ t ∷ ss) = last_key (t ∷ ss)

rising-push : (ss : OwnSettings) (s : Setting) → is_rising ss ≡ true → comes_before (last_key ss) s.key ≡ true → is_rising (ss ++ s ∷ []) ≡ true
rising-push [] s rising before = refl
rising-push (a ∷ []) s rising before = and_from _ _ before refl
rising-push (a ∷ b ∷ ss) s rising before =
    let parts = and_parts (comes_before a.key b.key) (is_rising (b ∷ ss)) rising in
    and_from _ _ parts.0 (rising-push (b ∷ ss) s parts.1 before)

good-key : (s : Setting) → is_good_setting s ≡ true → comes_before [] s.key ≡ true
good-key s good = by_key s.key s.value good
  where
    by_key : (key : List ℕ) (value : Option (List ℕ)) → is_good_setting (record { key = key; value = value }) ≡ true → comes_before [] key ≡ true
    by_key [] value good = absurd (true≢false (sym good))
    by_key (k ∷ key) value good = refl

rising-next : (ss rest : OwnSettings) (s : Setting) → is_good_setting s ≡ true → is_rising (ss ++ s ∷ rest) ≡ true → comes_before (last_key ss) s.key ≡ true
rising-next [] rest s good rising = good-key s good
rising-next (a ∷ []) rest s good rising = (and_parts (comes_before a.key s.key) (is_rising (s ∷ rest)) rising).0
rising-next (a ∷ b ∷ ss) rest s good rising = rising-next (b ∷ ss) rest s good (and_parts (comes_before a.key b.key) (is_rising (b ∷ ss ++ s ∷ rest)) rising).1

good-push : (ss : OwnSettings) (s : Setting) → list_all is_good_setting ss ≡ true → is_good_setting s ≡ true → list_all is_good_setting (ss ++ s ∷ []) ≡ true
good-push [] s good last = and_from _ _ last refl
good-push (a ∷ ss) s good last =
    let parts = and_parts (is_good_setting a) (list_all is_good_setting ss) good in
    and_from _ _ parts.0 (good-push ss s parts.1 last)

good-next : (ss rest : OwnSettings) (s : Setting) → list_all is_good_setting (ss ++ s ∷ rest) ≡ true → is_good_setting s ≡ true
good-next [] rest s good = (and_parts (is_good_setting s) (list_all is_good_setting rest) good).0
good-next (a ∷ ss) rest s good = good-next ss rest s (and_parts (is_good_setting a) (list_all is_good_setting (ss ++ s ∷ rest)) good).1

stored-push : (store : Store) (ss : OwnSettings) (s : Setting) → stored_all store (ss ++ s ∷ []) ≡ stored (stored_all store ss) s
stored-push store [] s = refl
stored-push store (a ∷ ss) s = stored-push (stored store a) ss s

last-push : (ss : OwnSettings) (s : Setting) → last_key (ss ++ s ∷ []) ≡ s.key
last-push [] s = refl
last-push (a ∷ []) s = refl
last-push (a ∷ b ∷ ss) s = last-push (b ∷ ss) s

-- so many were made, of which this is the last key
pub record MadeSoFar (bytes : List ℕ) (start end count : ℕ) (last : List ℕ) (old new : Store) : Type 0 where
  pub made : AreMade bytes start end count old new
  pub last_is : last ≡ last_key made.settings

pub none-made : (bytes : List ℕ) (start : ℕ) (old : Store) → start ≤ length bytes → MadeSoFar bytes start start 0 [] old old
none-made bytes start old within = record {
  made = record {
    settings = [];
    row = record { forward = omega arith; within = within; form = let none : start - start ≡ 0 = omega arith in ap (λ (n : ℕ). take n (drop start bytes)) none };
    counted = refl;
    rising = refl;
    good = refl;
    made = refl;
  };
  last_is = refl;
}

module _ (bytes : List ℕ) (start end done : ℕ) (last : List ℕ) (old new : Store) (so : MadeSoFar bytes start end done last old new) where
  pub one-made : (s : Setting) (next : ℕ) (newer : Store) → Spans (IsSettingOf s) bytes end next → comes_before last s.key ≡ true → is_good_setting s ≡ true → newer ≡ stored new s
      → MadeSoFar bytes start next (done + 1) s.key old newer
  one-made s next newer spelled before good is =
      let made = so.made in
      let rises : comes_before (last_key made.settings) s.key ≡ true = subst (λ (key : List ℕ). comes_before key s.key ≡ true) so.last_is before in
      record {
        made = record {
          settings = made.settings ++ s ∷ [];
          row = row_push IsSettingOf bytes made.settings s start end next made.row spelled;
          counted = length_push made.settings s ∙ ap (λ n. n + 1) made.counted;
          rising = rising-push made.settings s made.rising rises;
          good = good-push made.settings s made.good good;
          made = is ∙ ap (λ (store : Store). stored store s) made.made ∙ sym (stored-push old made.settings s);
        };
        last_is = sym (last-push made.settings s);
      }

  module _ (count : ℕ) (fewer : done < count) where
    -- none is spelled behind them
    pub none-behind : Reads IsSettingOf bytes end None → AreBadFrom bytes start count
    none-behind none ss end' row counted =
        let made = so.made in
        let (s, next, spelled) = row_next IsSettingOf unambiguous_setting bytes made.settings ss start end end' made.row row (omega (arith, made.counted, counted)) in
        absurd (none s next spelled)

    -- the one behind them is not a good one, or does not come behind their keys
    pub bad-behind : (s : Setting) (next : ℕ) → Spans (IsSettingOf s) bytes end next → (is_good_setting s ≡ true → comes_before last s.key ≡ true → ⊥) → AreBadFrom bytes start count
    bad-behind s next spelled bad ss end' row counted =
        let made = so.made in
        let (t, rest, next', split, spelled') = row-split IsSettingOf unambiguous_setting bytes made.settings ss start end end' made.row row (omega (arith, made.counted, counted)) in
        let (same, ends) = one_reading IsSettingOf unambiguous_setting bytes end t s next' next spelled' spelled in
        let all : ss ≡ made.settings ++ s ∷ rest = split ∙ ap (λ (v : Setting). made.settings ++ v ∷ rest) same in
        false_from_ne_true _ (λ both.
        let parts = and_parts (is_rising ss) (list_all is_good_setting ss) both in
        let good = good-next made.settings rest s (subst (λ (l : OwnSettings). list_all is_good_setting l ≡ true) all parts.1) in
        let before = rising-next made.settings rest s good (subst (λ (l : OwnSettings). is_rising l ≡ true) all parts.0) in
        bad good (subst (λ (key : List ℕ). comes_before key s.key ≡ true) (sym so.last_is) before))
