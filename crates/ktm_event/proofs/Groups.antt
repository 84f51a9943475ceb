-- A group is a list that fills the payload, of one event at least.
use Rattle.std.proofs.Common.{◌≡◌, ◌≢◌, ◌⊎◌, inl, inr, ℕ, ◌<◌, Result, Err, List, [], ◌∷◌, length, sym, ◌∙◌, ap, subst, arith}
use Rattle.std.proofs.lemmas.List.{take_all}
use Rattle.std.proofs.lemmas.Slice.{between_from_start}
use Rattle.std.specs.List.{slice_range}
use Rattle.std.specs.Result.{IsErrAnd}
use Rattle.std.proofs.lemmas.Result.{err_from_is_err_and}
use Rattle.ktm_base.specs.Grammar.{IsListOf}
use Rattle.ktm_codec.specs.Spans.{Spans}
use Rattle.ktm_codec.proofs.SpansLemmas.{one_reading}
use Rattle.ktm_world.specs.declared.event.Event.{Event}
use Rattle.ktm_world.specs.EventGrammar.{IsEventOf, IsGroupOf}
use Rattle.ktm_event.specs.declared.fault.EventFault.{EventFault}
use Rattle.ktm_event.specs.declared.fault.EventFault.TheVariants.{NotAnEvent, NoMemory}
use Rattle.ktm_event.specs.Reading.{Gives}
use Rattle.ktm_event.proofs.OneEvent.{unambiguous_events}
use Rattle.ktm_event.proofs.Readings.{Absent}

module _ (payload : List ℕ) where
  whole : slice_range payload 0 (length payload) ≡ payload
  whole = between_from_start payload (length payload) ∙ take_all (length payload) payload (omega arith)

  group_spans : (events : List Event) → IsGroupOf events payload → (0 < length events) × Spans (IsListOf IsEventOf events) payload 0 (length payload)
  group_spans [] is = absurd is
  group_spans (event ∷ events) is = (omega arith, record { forward = omega arith; within = omega arith; form = subst (IsListOf IsEventOf (event ∷ events)) (sym whole) is })

  pub group_read : (events : List Event) (end : ℕ) → 0 < length events → end ≡ length payload → Spans (IsListOf IsEventOf events) payload 0 end → IsGroupOf events payload
  group_read [] end some all spans = absurd (omega arith)
  group_read (event ∷ events) end some all spans = subst (IsListOf IsEventOf (event ∷ events)) (ap (λ n. slice_range payload 0 n) all ∙ whole) spans.form

  pub no_group : Absent (IsListOf IsEventOf) payload 0 → (events : List Event) → ¬ IsGroupOf events payload
  no_group absent events is = absent.none events (length payload) (group_spans events is).1

  pub another_group : (read : List Event) (end : ℕ) → Spans (IsListOf IsEventOf read) payload 0 end → (length read ≡ 0) ⊎ (end ≢ length payload) → (events : List Event) → ¬ IsGroupOf events payload
  another_group read end spans bad events is =
      let (some, all) = group_spans events is in
      let (same, ends) = one_reading (IsListOf IsEventOf) unambiguous_events payload 0 read events end (length payload) spans all in
      elim bad [ inl none ↦ absurd (omega (arith, none, some, ap (λ (l : List Event). length l) same)) | inr other ↦ other ends ]

  -- a fault in a part of a group, which is passed on
  pub faulty_group : {X T : Type 0} {Part : X → List ℕ → Type 0} {mid : ℕ} (fault : EventFault) (r : Result T EventFault) → IsErrAnd r (λ passed. passed ≡ fault) → Gives Part payload mid (Err fault)
      → (Absent Part payload mid → Absent (IsListOf IsEventOf) payload 0) → r ≡ Err NotAnEvent → (events : List Event) → ¬ IsGroupOf events payload
  faulty_group NotAnEvent r is gives none told = no_group (none (record { none = gives }))
  faulty_group NoMemory r is gives none told =
      let p = err_from_is_err_and r is in
      let same : Err p.0 ≡ Err NotAnEvent = sym p.1 ∙ told in
      absurd cc
