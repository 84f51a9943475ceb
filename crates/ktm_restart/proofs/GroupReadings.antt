-- What a state that is read comes to by the events of a payload, one where it lies behind another.
use Rattle.std.proofs.Common.{◌≡◌, ℕ, ◌+◌, ◌-◌, ◌<◌, ◌≤◌, List, [], ◌∷◌, ◌++◌, length, take, drop, refl, sym, ◌∙◌, ap, subst, arith}
use Rattle.std.proofs.lemmas.List.{length_push, take_all}
use Rattle.std.proofs.lemmas.List.Sums.{fold-append}
use Rattle.std.proofs.lemmas.Slice.{between_from_start}
use Rattle.std.specs.List.{slice_range}
use Rattle.ktm_base.specs.Grammar.{IsListOf, IsRow, IsU32}
use Rattle.ktm_codec.specs.Spans.{Spans}
use Rattle.ktm_codec.proofs.Forms.{unambiguous_u32}
use Rattle.ktm_codec.proofs.SpansLemmas.{list_read, one_reading, row_push, spans_parts}
use Rattle.ktm_event.proofs.Groups.{group_read}
use Rattle.ktm_event.proofs.OneEvent.{unambiguous_event}
use Rattle.ktm_journal.specs.Image.{page_count}
use Rattle.ktm_paged.specs.Paged.{GroupApplies, PagedApplies, paged_after, paged_after_all}
use Rattle.ktm_replayed.proofs.offered.Rows.{GoOnFrom, row-split}
use Rattle.ktm_restart.specs.Bad.{IsBadPayload}
use Rattle.ktm_restart.specs.Logs.{AppliesTo}
use Rattle.ktm_restart.specs.Reading.{IsApplied, IsBadEvent, IsReadWell, ReadingState}
use Rattle.ktm_restart.proofs.PagedLogs.{paged-units}
use Rattle.ktm_world.specs.declared.event.Event.{Event}
use Rattle.ktm_world.specs.Durable.{Durable}
use Rattle.ktm_world.specs.EventGrammar.{IsEventOf, IsGroupOf}
use Rattle.ktm_world.specs.Logs.{Group}

-- so many events of a payload were applied, one behind another
pub record HasApplied (first : Durable) (payload : List ℕ) (start end count : ℕ) (r : ReadingState) : Type 0 where
  pub events : Group
  pub row : Spans (IsRow IsEventOf events) payload start end
  pub counted : length events ≡ count
  pub applies : AppliesTo first events
  pub after : r.state ≡ paged_after_all first events
  pub well : IsReadWell r

-- ---- groups of one event more

group-push : (count : ℕ) (s : Durable) (front : Group) (event : Event) → GroupApplies count s front → PagedApplies count (paged_after_all s front) event → GroupApplies count s (front ++ event ∷ [])
group-push count s [] event applies last = (last, tt)
group-push count s (e ∷ front) event applies last = (applies.0, group-push count (paged_after s e) front event applies.1 last)

-- in a group that applies each event applies behind those before it
group-behind : (count : ℕ) (s : Durable) (front rest : Group) (event : Event) → GroupApplies count s (front ++ event ∷ rest) → PagedApplies count (paged_after_all s front) event
group-behind count s [] rest event applies = applies.0
group-behind count s (e ∷ front) rest event applies = group-behind count (paged_after s e) front rest event applies.1

-- the units are those of the first state
group-units : (first : Durable) (events : Group) (s : Durable) → s ≡ paged_after_all first events → s.units ≡ first.units
group-units first events s is = ap (λ (d : Durable). d.units) is ∙ paged-units first (events ∷ [])

pub none-applied : (r : ReadingState) (payload : List ℕ) (start : ℕ) → start ≤ length payload → IsReadWell r → HasApplied r.state payload start start 0 r
none-applied r payload start within well = record {
  events = [];
  row = record { forward = omega arith; within = within; form = let none : start - start ≡ 0 = omega arith in ap (λ (n : ℕ). take n (drop start payload)) none };
  counted = refl;
  applies = tt;
  after = refl;
  well = well;
}

module _ (first : Durable) (payload : List ℕ) (start end count : ℕ) (r : ReadingState) (so : HasApplied first payload start end count r) where
  pub one-applied : (next : ℕ) (new : ReadingState) → IsApplied payload end next r new → HasApplied first payload start next (count + 1) new
  one-applied next new one = record {
    events = so.events ++ one.event ∷ [];
    row = row_push IsEventOf payload so.events one.event start end next so.row one.spelled;
    counted = length_push so.events one.event ∙ ap (λ n. n + 1) so.counted;
    applies = group-push (page_count first.units) first so.events one.event so.applies
        (subst (λ (s : Durable). PagedApplies (page_count first.units) s one.event) so.after
        (subst (λ n. PagedApplies (page_count n) r.state one.event) (group-units first so.events r.state so.after) one.applies));
    after = one.after ∙ ap (λ (s : Durable). paged_after s one.event) so.after ∙ sym (fold-append paged_after first so.events (one.event ∷ []));
    well = one.well;
  }

-- ---- payloads

group-spans : (payload : List ℕ) (events : Group) → IsGroupOf events payload → Spans (IsListOf IsEventOf events) payload 0 (length payload)
group-spans payload [] is = absurd is
group-spans payload (event ∷ events) is =
    let whole : slice_range payload 0 (length payload) ≡ payload = between_from_start payload (length payload) ∙ take_all (length payload) payload (omega arith) in
    record { forward = omega arith; within = omega arith; form = subst (IsListOf IsEventOf (event ∷ events)) (sym whole) is }

module _ (first : Durable) (payload : List ℕ) (count start end done : ℕ) (r : ReadingState) (counts : Spans (IsU32 count) payload 0 start) (so : HasApplied first payload start end done r) where
  bad-next : IsBadEvent payload end r.state → (events : Group) → AppliesTo first events → GoOnFrom IsEventOf payload so.events events end → ⊥
  bad-next bad events applies (event, rest, next, split, spelled) =
      let here = group-behind (page_count first.units) first so.events rest event (subst (AppliesTo first) split applies) in
      bad event next spelled
      (subst (λ n. PagedApplies (page_count n) r.state event) (sym (group-units first so.events r.state so.after))
      (subst (λ (s : Durable). PagedApplies (page_count first.units) s event) (sym so.after) here))

  -- behind these none applies
  pub bad-behind : done < count → IsBadEvent payload end r.state → IsBadPayload first payload
  bad-behind fewer bad events group applies =
      let (mid, counts', row) = spans_parts payload 0 (length payload) (group-spans payload events group) in
      let (same, places) = one_reading IsU32 unambiguous_u32 payload 0 count (length events) start mid counts counts' in
      bad-next bad events applies
      (row-split IsEventOf unambiguous_event payload so.events events start end (length payload) so.row
      (subst (λ n. Spans (IsRow IsEventOf events) payload n (length payload)) (sym places) row) (omega (arith, same, so.counted)))

  -- these are all
  pub all-spelled : done ≡ count → Spans (IsListOf IsEventOf so.events) payload 0 end
  all-spelled all = list_read IsEventOf payload 0 count start counts so.events end so.row (so.counted ∙ all)

  pub all-applied : done ≡ count → 0 < count → end ≡ length payload → (events : Group) × IsGroupOf events payload × AppliesTo first events × (r.state ≡ paged_after_all first events)
  all-applied all some ends = (so.events, group_read payload so.events end (omega (arith, so.counted, all, some)) ends (all-spelled all), so.applies, so.after)
