-- What a transaction commits that has settings alone, where no other is there.
use Rattle.std.proofs.Common.{◌≡◌, ◌≢◌, ℕ, ◌==◌, ◌&&◌, not, Bool, true, false, List, [], ◌+◌, ◌^◌, nat_lt, None, Option, Some, length, is_none, sym, ◌∙◌, ap, subst}
use Rattle.std.specs.Prelude.{Result, Ok, Err, IfOk}
use Rattle.std.specs.List.{list_all}
use Rattle.std.proofs.lemmas.Bool.{and_from, and_left, and_right, eq-eqb, ne_eqb}
use Rattle.ktm_base.specs.declared.id.Id.{Id}
use Rattle.ktm_base.specs.Grammar.{IsRow, IsU32}
use Rattle.ktm_codec.specs.Spans.{Reads, Spans}
use Rattle.ktm_codec.proofs.Forms.{unambiguous_u32}
use Rattle.ktm_codec.proofs.SpansLemmas.{Spans-map, list_read, one_reading, spans_parts}
use Rattle.ktm_event.proofs.PartReadings.{settings_read}
use Rattle.ktm_event.proofs.Parts.{unambiguous_settings}
use Rattle.ktm_keyed.specs.Keyed.{is_rising}
use Rattle.ktm_replayed.specs.Replayed.{ReplayedState}
use Rattle.ktm_replayed.specs.Settings.{AreBadFrom, AreCommitted, AreMade, AreTaken, MadeUpTo, TakenUpTo}
use Rattle.ktm_replayed.proofs.Taking.{limits-counted, single-settings}
use Rattle.ktm_world.specs.declared.event.Event.TheVariants.{Single}
use Rattle.ktm_world.specs.declared.event.Part.TheVariants.{Settings}
use Rattle.ktm_world.specs.Durable.{Durable, Recorded, after_event, event_applies, fact_applies, fact_of, is_within_limits, recorded_at, settings_apply}
use Rattle.ktm_world.specs.EventGrammar.{AreSettingsOf, IsSettingOf}
use Rattle.ktm_world.specs.Keys.{OwnSettings, Store, are_good_settings, is_good_setting}

-- settings that are good but for their number
same-good : (ss : OwnSettings) → length ss ≢ 0 → (is_rising ss && list_all is_good_setting ss) ≡ are_good_settings ss
same-good ss some = ap (λ (b : Bool). not b && is_rising ss && list_all is_good_setting ss) (sym (ne_eqb (length ss) 0 some))

none-good : (ss : OwnSettings) → length ss ≡ 0 → are_good_settings ss ≡ false
none-good ss none = ap (λ (b : Bool). not b && is_rising ss && list_all is_good_setting ss) (eq-eqb (length ss) 0 none)

module _ (s : Durable) (id : Id) (none : s.transactions ≡ []) where
  alone : (ss : OwnSettings) → settings_apply s (Some id) ss ≡ true
  alone ss = ap (λ (ts : List Recorded). settings_apply (record s { transactions = ts }) (Some id) ss) none

  module _ (boot : (id.boot == s.boots) ≡ true) where
    may : (id.boot == s.boots && is_none (recorded_at s.transactions id)) ≡ true
    may = and_from _ _ boot (ap (λ (ts : List Recorded). is_none (recorded_at ts id)) none)

    pub good-applies : (ss : OwnSettings) → are_good_settings ss ≡ true → fact_applies s (Single id (Settings ss)) ≡ true
    good-applies ss good = sym (single-settings s id ss may) ∙ and_from _ _ good (alone ss)

    pub bad-applies-not : (ss : OwnSettings) → are_good_settings ss ≡ false → fact_applies s (Single id (Settings ss)) ≡ false
    bad-applies-not ss bad = sym (single-settings s id ss may) ∙ and_left _ _ bad

  pub other-boot : (id.boot == s.boots) ≡ false → (ss : OwnSettings) → fact_applies s (Single id (Settings ss)) ≡ false
  other-boot other ss = and_left _ _ (and_left _ _ (and_left _ _ other))

-- ---- where they lie

module _ (bytes : List ℕ) (at count start : ℕ) (counts : Spans (IsU32 count) bytes at start) where
  -- settings that are spelled from the place on are so many
  pub row-of : (ss : OwnSettings) (end : ℕ) → Spans (AreSettingsOf ss) bytes at end → (length ss ≡ count) × Spans (IsRow IsSettingOf ss) bytes start end
  row-of ss end spans =
      let (mid, counts', row) = spans_parts bytes at end (Spans-map (λ part is. is.listed) spans) in
      let (same, places) = one_reading IsU32 unambiguous_u32 bytes at count (length ss) start mid counts counts' in
      (sym same, subst (λ n. Spans (IsRow IsSettingOf ss) bytes n end) (sym places) row)

  pub bad-settings : count ≢ 0 → AreBadFrom bytes start count → (ss : OwnSettings) (end : ℕ) → Spans (AreSettingsOf ss) bytes at end → are_good_settings ss ≡ false
  bad-settings some bad ss end spans =
      let (counted, row) = row-of ss end spans in
      sym (same-good ss (λ zero. some (sym counted ∙ zero))) ∙ bad ss end row counted

  pub no-settings : count ≡ 0 → (ss : OwnSettings) (end : ℕ) → Spans (AreSettingsOf ss) bytes at end → are_good_settings ss ≡ false
  no-settings zero ss end spans = none-good ss ((row-of ss end spans).0 ∙ zero)

  module _ (end : ℕ) (old new : Store) (made : AreMade bytes start end count old new) where
    pub made-spelled : Spans (AreSettingsOf made.settings) bytes at end
    made-spelled = settings_read made.settings (list_read IsSettingOf bytes at count start counts made.settings end made.row made.counted) made.rising

    pub made-good : count ≢ 0 → are_good_settings made.settings ≡ true
    made-good some = sym (same-good made.settings (λ zero. some (sym made.counted ∙ zero))) ∙ and_from _ _ made.rising made.good

-- where no count is spelled no settings are
pub uncounted : (bytes : List ℕ) (at : ℕ) → Reads IsU32 bytes at None → (ss : OwnSettings) (end : ℕ) → Spans (AreSettingsOf ss) bytes at end → are_good_settings ss ≡ false
uncounted bytes at none ss end spans =
    let (mid, counts, row) = spans_parts bytes at end (Spans-map (λ part is. is.listed) spans) in
    absurd (none (length ss) mid counts)

-- ---- taken, and counted

module _ (s : Durable) (id : Id) (none : s.transactions ≡ []) (boot : (id.boot == s.boots) ≡ true) (bytes : List ℕ) (at count start : ℕ) (counts : Spans (IsU32 count) bytes at start) (some : count ≢ 0) where
  settings-taken : {E : Type 0} (r : Result (Option ℕ) E) (keys : Store) → IfOk r (MadeUpTo bytes start count s.keys keys) → IfOk r (TakenUpTo bytes at id s (record s { keys = keys }))
  settings-taken (Ok (Some end)) keys made = record {
    settings = made.settings;
    spelled = made-spelled bytes at count start counts end s.keys keys made;
    fact = good-applies s id none boot made.settings (made-good bytes at count start counts end s.keys keys made some);
    after = ap (λ (store : Store). record s { keys = store }) made.made;
  }
  settings-taken (Ok None) keys bad = λ ss end spans. bad-applies-not s id none boot ss (bad-settings bytes at count start counts some bad ss end spans)
  settings-taken (Err e) keys made = tt

-- the same of the state as it is seen
pub taken-inside : (old inside : ReplayedState) → inside ≡ old → (id : Id) → old.state.transactions ≡ [] → (id.boot == old.state.boots) ≡ true → (bytes : List ℕ) (at count start : ℕ) → Spans (IsU32 count) bytes at start
    → count ≢ 0 → {E : Type 0} (r : Result (Option ℕ) E) (keys : Store) → IfOk r (MadeUpTo bytes start count inside.state.keys keys) → IfOk r (TakenUpTo bytes at id old.state (record inside.state { keys = keys }))
taken-inside old inside same id none boot bytes at count start counts some r keys made =
    subst (λ (seen : ReplayedState). IfOk r (TakenUpTo bytes at id seen.state (record inside.state { keys = keys }))) same
    (settings-taken inside.state id (subst (λ (seen : ReplayedState). seen.state.transactions ≡ []) (sym same) none) (subst (λ (seen : ReplayedState). (id.boot == seen.state.boots) ≡ true) (sym same) boot)
    bytes at count start counts some r keys made)

module _ (s mid then : Durable) (id : Id) (bytes : List ℕ) (at end : ℕ) (taken : AreTaken bytes at end id s mid) (counted : then ≡ record mid { events = mid.events + 1 }) where
  counted-after : then ≡ after_event s (Single id (Settings taken.settings))
  counted-after = counted ∙ ap (λ (d : Durable). record d { events = d.events + 1 }) taken.after

  counted-within : is_within_limits then ≡ is_within_limits (fact_of s (Single id (Settings taken.settings)))
  counted-within = ap is_within_limits counted-after ∙ limits-counted (fact_of s (Single id (Settings taken.settings))) (s.events + 1)

  pub settings-past : is_within_limits then ≡ false → (ss : OwnSettings) (end' : ℕ) → Spans (AreSettingsOf ss) bytes at end' → event_applies s (Single id (Settings ss)) ≡ false
  settings-past past ss end' spans =
      let (same, ends) = one_reading AreSettingsOf unambiguous_settings bytes at taken.settings ss end end' taken.spelled spans in
      subst (λ (l : OwnSettings). event_applies s (Single id (Settings l)) ≡ false) same (and_left _ _ (and_right _ _ (sym counted-within ∙ past)))

  pub settings-committed : nat_lt (s.events + 1) (2 ^ 63) ≡ true → is_within_limits then ≡ true → AreCommitted bytes at end id s then
  settings-committed left within = record {
    settings = taken.settings;
    spelled = taken.spelled;
    applies = and_from _ _ (and_from _ _ taken.fact (sym counted-within ∙ within)) left;
    after = counted-after;
  }
