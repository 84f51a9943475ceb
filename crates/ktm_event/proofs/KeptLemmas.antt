-- Events that are added to those that are kept.
use Rattle.std.proofs.Common.{◌≡◌, ◌⊎◌, inl, inr, ℕ, ◌+◌, ◌-◌, ◌*◌, ◌^◌, ◌<◌, ◌≤◌, Result, Ok, Err, List, [], ◌∷◌, ◌++◌, length, take, drop, sum_by, refl, sym, ◌∙◌, ap, subst, arith, append_assoc, length-append}
use Rattle.std.proofs.lemmas.List.{drop_at, drop_all, take_at, length_push}
use Rattle.std.proofs.lemmas.List.Sums.{sum_by-append, sum_by-cons}
use Rattle.std.proofs.lemmas.Nat.{from_le_bytes-to_le_bytes_4}
use Rattle.std.proofs.lemmas.Slice.{between_from_start}
use Rattle.std.specs.Int.{to_le_bytes, w32}
use Rattle.std.specs.List.{slice_range}
use Rattle.ktm_base.specs.Grammar.{IsU32, IsRow}
use Rattle.ktm_codec.specs.Spans.{Spans, Adds}
use Rattle.ktm_codec.proofs.Adding.{row-push}
use Rattle.ktm_codec.proofs.SpansLemmas.{one_reading}
use Rattle.ktm_log.specs.Settle.{behind_gate}
use Rattle.ktm_log.proofs.Appends.{length-behind_gate, length-body}
use Rattle.ktm_world.specs.declared.event.Event.{Event}
use Rattle.ktm_world.specs.EventGrammar.{IsEventOf}
use Rattle.ktm_world.specs.Sizes.{event_size}
use Rattle.ktm_event.specs.declared.fault.EventFault.{EventFault}
use Rattle.ktm_event.specs.declared.fault.EventFault.TheVariants.{NotAnEvent, NoMemory}
use Rattle.ktm_event.specs.Kept.{EventsState, Holds, IsBodyKept, payload_of}
use Rattle.ktm_event.specs.Reading.{Gives}
use Rattle.ktm_event.proofs.LeastSizes.{event_size-least}
use Rattle.ktm_event.proofs.OneEvent.{unambiguous_event, unambiguous_events}

-- what stands between the length and the gate of a body
pub payload_behind : (p : List ℕ) → payload_of (behind_gate p) ≡ p
payload_behind p =
    ap (λ (l : List ℕ). take (length (behind_gate p) - 5) l) (drop_at (to_le_bytes w32 (length p)) (p ++ 0 ∷ []) 4 refl)
    ∙ take_at p (0 ∷ []) (length (behind_gate p) - 5) (omega (arith, length-behind_gate p))

-- a body whose payload begins with the count
module _ (bytes events : List ℕ) (count : ℕ) (small : count < 2 ^ 32) (closed : bytes ≡ behind_gate (to_le_bytes w32 count ++ events)) where
  pub payload_is : payload_of bytes ≡ to_le_bytes w32 count ++ events
  payload_is = ap payload_of closed ∙ payload_behind (to_le_bytes w32 count ++ events)

  counts : IsU32 count (to_le_bytes w32 count)
  counts = record { long = refl; value = from_le_bytes-to_le_bytes_4 count small }

  pub bytes_long : length bytes ≡ length events + 9
  bytes_long = omega (arith, ap (λ (l : List ℕ). length l) closed, length-behind_gate (to_le_bytes w32 count ++ events), length-append (to_le_bytes w32 count) events)

  pub kept : (room capacity : ℕ) → 5 * count ≤ length events → length events ≤ room → room + 9 ≤ capacity → room + 4 < 2 ^ 32 → IsBodyKept bytes count room capacity
  kept room capacity least within reserved few = record {
    body = record {
      small = omega (arith, ap (λ (l : List ℕ). length l) payload_is, length-append (to_le_bytes w32 count) events);
      is = closed ∙ ap behind_gate (sym payload_is);
    };
    counted = (to_le_bytes w32 count, events, payload_is, counts, least);
    within = omega (arith, bytes_long);
    reserved = reserved;
    few = few;
  }

  pub holds : (room capacity : ℕ) (list : List Event) → length list ≡ count → IsRow IsEventOf list events → sum_by event_size list ≡ length events → length events ≤ room
      → Holds (record { payload = payload_of bytes; count = count; room = room; spare = room + 9 - length bytes; capacity = capacity }) list
  holds room capacity list many row sizes within = record {
    counted = many;
    spelled = (to_le_bytes w32 count, events, payload_is, subst (λ n. IsU32 n (to_le_bytes w32 count)) (sym many) counts, row);
    sizes = omega (arith, bytes_long);
  }

-- what the model tells of a list
abbrev pub seen : List ℕ → ℕ → ℕ → ℕ → EventsState
seen bytes count room capacity = record { payload = payload_of bytes; count = count; room = room; spare = room + 9 - length bytes; capacity = capacity }

-- a body whose events were taken out
module _ (old bytes : List ℕ) (few : length old ≤ 8) (closed : bytes ≡ behind_gate (to_le_bytes w32 0 ++ drop 8 old)) where
  closed_empty : bytes ≡ behind_gate (to_le_bytes w32 0 ++ [])
  closed_empty = closed ∙ ap (λ (l : List ℕ). behind_gate (to_le_bytes w32 0 ++ l)) (drop_all 8 old few)

  pub kept_none : (room capacity : ℕ) → room + 9 ≤ capacity → room + 4 < 2 ^ 32 → IsBodyKept bytes 0 room capacity
  kept_none room capacity reserved small = kept bytes [] 0 (omega arith) closed_empty room capacity (omega arith) (omega arith) reserved small

  pub holds_none : (room capacity : ℕ) → Holds (seen bytes 0 room capacity) []
  holds_none room capacity = holds bytes [] 0 (omega arith) closed_empty room capacity [] refl refl refl (omega arith)

pub sizes_more : (events : List Event) (event : Event) → sum_by event_size (events ++ event ∷ []) ≡ sum_by event_size events + event_size event
sizes_more events event = sum_by-append event_size events (event ∷ []) ∙ ap (λ n. sum_by event_size events + n) (sum_by-cons event_size event [] ∙ omega arith)

-- an event was written in place of the gate, and a gate behind it
pub record Grew (bytes opened written new : List ℕ) (count n : ℕ) (event : Event) : Type 0 where
  pub front : opened ≡ take n bytes
  pub end : n + 1 ≡ length bytes
  pub adds : Adds (IsEventOf event) opened written
  pub size : length written ≡ length opened + event_size event
  pub closed : new ≡ behind_gate (to_le_bytes w32 (count + 1) ++ drop 8 written)

module _ (bytes opened written new : List ℕ) (count n room before : ℕ) (event : Event) (was : IsBodyKept bytes count room before) (grew : Grew bytes opened written new count n event) where
  opened_is : opened ≡ to_le_bytes w32 (length (payload_of bytes)) ++ payload_of bytes
  opened_is =
      let p = payload_of bytes in
      grew.front ∙ ap (λ (l : List ℕ). take n l) (was.body.is ∙ sym (append_assoc (to_le_bytes w32 (length p)) p (0 ∷ [])))
      ∙ take_at (to_le_bytes w32 (length p) ++ p) (0 ∷ []) n (omega (arith, grew.end, length-append (to_le_bytes w32 (length p)) p, length-body p bytes was.body))

  events_are : drop 8 written ≡ was.counted.1 ++ grew.adds.more
  events_are =
      let p = payload_of bytes in
      let (number, events, is, spelled, least) = was.counted in
      ap (λ (l : List ℕ). drop 8 l)
      (grew.adds.is ∙ ap (λ (l : List ℕ). l ++ grew.adds.more) (opened_is ∙ ap (λ (l : List ℕ). to_le_bytes w32 (length p) ++ l) is ∙ sym (append_assoc (to_le_bytes w32 (length p)) number events))
      ∙ append_assoc (to_le_bytes w32 (length p) ++ number) events grew.adds.more)
      ∙ drop_at (to_le_bytes w32 (length p) ++ number) (events ++ grew.adds.more) 8 (omega (arith, length-append (to_le_bytes w32 (length p)) number, spelled.long))

  long_more : length (drop 8 written) ≡ length was.counted.1 + event_size event
  long_more = omega (arith, ap (λ (l : List ℕ). length l) events_are, length-append was.counted.1 grew.adds.more, grew.size, ap (λ (l : List ℕ). length l) grew.adds.is, length-append opened grew.adds.more)

  body_long : length bytes ≡ length was.counted.1 + 9
  body_long =
      omega (arith, length-body (payload_of bytes) bytes was.body, ap (λ (l : List ℕ). length l) was.counted.2, length-append was.counted.0 was.counted.1, was.counted.3.long)

  pub few_more : count + 1 < 2 ^ 32
  few_more = omega (arith, was.counted.4, body_long, was.within, was.few)

  module _ (fits : length bytes + event_size event ≤ room + 9) where
    pub kept_more : (capacity : ℕ) → room + 9 ≤ capacity → IsBodyKept new (count + 1) room capacity
    kept_more capacity reserved =
        kept new (drop 8 written) (count + 1) few_more grew.closed room capacity (omega (arith, long_more, was.counted.4, event_size-least event)) (omega (arith, long_more, body_long)) reserved was.few

    pub holds_more : (old now : ℕ) (list : List Event) → Holds (seen bytes count room old) list → Holds (seen new (count + 1) room now) (list ++ event ∷ [])
    holds_more old now list held =
        let (number, events, is, spelled, row) = held.spelled in
        let same : was.counted.1 ≡ events =
        sym (drop_at was.counted.0 was.counted.1 4 was.counted.3.long) ∙ ap (λ (l : List ℕ). drop 4 l) (sym was.counted.2 ∙ is) ∙ drop_at number events 4 spelled.long in
        holds new (drop 8 written) (count + 1) few_more grew.closed room now (list ++ event ∷ []) (length_push list event ∙ ap (λ k. k + 1) held.counted)
        (subst (λ (l : List ℕ). IsRow IsEventOf (list ++ event ∷ []) l) (sym (events_are ∙ ap (λ (l : List ℕ). l ++ grew.adds.more) same))
        (row-push IsEventOf list event events grew.adds.more row grew.adds.form))
        (omega (arith, sizes_more list event, held.sizes, body_long, long_more))
        (omega (arith, long_more, body_long))

pub one_kept : (state : EventsState) (a b : List Event) → Holds state a → Holds state b → a ≡ b
one_kept state a b p q = (unambiguous_events a b state.payload state.payload [] [] p.spelled q.spelled refl).0

-- what was written is read again, with any bytes behind it
pub read_again : (event : Event) (bytes behind : List ℕ) (end : ℕ) → Adds (IsEventOf event) [] bytes → length bytes ≡ end → (r : Result (Event × ℕ) EventFault) → Gives IsEventOf (bytes ++ behind) 0 r
    → (r ≡ Ok (event, end)) ⊎ (r ≡ Err NoMemory)
read_again event bytes behind end adds len r gives = by_result r gives
  where
    whole : slice_range (bytes ++ behind) 0 end ≡ bytes
    whole = between_from_start (bytes ++ behind) end ∙ take_at bytes behind end len

    written : Spans (IsEventOf event) (bytes ++ behind) 0 end
    written = record { forward = omega arith; within = omega (arith, len, length-append bytes behind); form = subst (IsEventOf event) (sym adds.is ∙ sym whole) adds.form }

    by_result : (r : Result (Event × ℕ) EventFault) → Gives IsEventOf (bytes ++ behind) 0 r → (r ≡ Ok (event, end)) ⊎ (r ≡ Err NoMemory)
    by_result (Ok (x, place)) read =
        let (same, places) = one_reading IsEventOf unambiguous_event (bytes ++ behind) 0 x event place end read written in
        inl cc
    by_result (Err NotAnEvent) none = absurd (none event end written)
    by_result (Err NoMemory) gives = inr refl
