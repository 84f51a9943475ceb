-- Settings that a transaction commits alone: they are applied as they stand, and give no page.
use Rattle.std.specs.Prelude.{Result, Ok, Err, IfOk}
use Rattle.std.proofs.Common.{◌≡◌, ℕ, true, List, [], Option, None, Some, refl, sym, ◌∙◌, subst}
use Rattle.std.proofs.lemmas.Bool.{true≢false}
use Rattle.std.proofs.lemmas.List.Elements.{All-nil}
use Rattle.std.specs.List.{slice_range}
use Rattle.ktm_base.specs.Bytes.{AreBytes}
use Rattle.ktm_base.specs.declared.id.Id.{Id}
use Rattle.ktm_codec.specs.Spans.{Spans}
use Rattle.ktm_journal.specs.Image.{page_count}
use Rattle.ktm_owners.specs.Owners.{BeginsUnit}
use Rattle.ktm_paged.specs.Meaning.{meant_event}
use Rattle.ktm_paged.specs.Paged.{PutLiesBelow}
use Rattle.ktm_replayed.specs.Settings.{AreCommitted, CommittedUpTo, IsSingleAt}
use Rattle.ktm_restart.specs.Reading.{EventLeaves, IsApplied, IsReadWell, ReadingState}
use Rattle.ktm_restart.proofs.PagedLogs.{applies-itself, same-after}
use Rattle.ktm_restart.proofs.Readings.{meant-read, owners-apart}
use Rattle.ktm_restart.proofs.Spelled.{slice_bytes}
use Rattle.txf_laws.specs.GoodStates.{GoodStatesLaw}
use Rattle.txf_laws.specs.Grammatical.{GrammarLaw, is_grammatical}
use Rattle.ktm_world.specs.declared.event.Event.{Event}
use Rattle.ktm_world.specs.declared.event.Event.TheVariants.{Single}
use Rattle.ktm_world.specs.declared.event.Part.TheVariants.{Settings}
use Rattle.ktm_world.specs.Durable.{Durable, after_event, event_applies}
use Rattle.ktm_world.specs.EventGrammar.{IsEventOf}
use Rattle.ktm_world.specs.Keys.{OwnSettings}

module _ (grammar : GrammarLaw) (states : GoodStatesLaw) (bytes : List ℕ) (are_bytes : AreBytes bytes) (at start : ℕ) (transaction : Id) (r : ReadingState) (well : IsReadWell r) (single : IsSingleAt bytes at transaction start) where
  -- what they are, once made
  commits : (settings : OwnSettings) (end : ℕ) → Spans (IsEventOf (Single transaction (Settings settings))) bytes at end → event_applies r.state (Single transaction (Settings settings)) ≡ true
      → IsReadWell (record { state = after_event r.state (Single transaction (Settings settings)); owners = r.owners })
  commits settings end spelled applies =
      let event : Event = Single transaction (Settings settings) in
      let grammatical : is_grammatical event ≡ true = grammar.0 event (slice_range bytes at end) (slice_bytes bytes at end are_bytes) spelled.form in
      meant-read r.state r.owners event well (All-nil (PutLiesBelow (page_count r.state.units))) (All-nil BeginsUnit) [] refl r.owners true refl applies states grammatical tt refl

  applied : (end : ℕ) (new : Durable) → AreCommitted bytes start end transaction r.state new → IsApplied bytes at end r (record { state = new; owners = r.owners })
  applied end new committed =
      let event : Event = Single transaction (Settings committed.settings) in
      let spelled = single.spelled committed.settings end committed.spelled in
      record {
        event = event;
        spelled = spelled;
        applies = applies-itself (page_count r.state.units) r.state event refl (owners-apart r well) committed.applies;
        after = committed.after ∙ sym (same-after (page_count r.state.units) r.state event refl);
        well = subst (λ (s : Durable). IsReadWell (record { state = s; owners = r.owners })) (sym committed.after) (commits committed.settings end spelled committed.applies);
      }

  settings-applied : {E : Type 0} (result : Result (Option ℕ) E) (new : Durable) → IfOk result (CommittedUpTo bytes start transaction r.state new)
      → IfOk result (EventLeaves bytes at r (record { state = new; owners = r.owners }))
  settings-applied (Ok (Some end)) new committed = applied end new committed
  settings-applied (Ok None) new none = λ event end spans applies.
      let (settings, same, spelled) = single.only event end spans in
      true≢false (sym (subst (λ (e : Event). event_applies r.state (meant_event r.state.tree e) ≡ true) same applies.applies) ∙ none settings end spelled)
  settings-applied (Err e) new committed = tt

-- the same of what is read as it is seen
pub settings-inside : GrammarLaw → GoodStatesLaw → (bytes : List ℕ) → AreBytes bytes → (at start : ℕ) (transaction : Id) (old inside : ReadingState) → inside ≡ old → IsReadWell old → IsSingleAt bytes at transaction start
    → {E : Type 0} (result : Result (Option ℕ) E) (new : Durable) → IfOk result (CommittedUpTo bytes start transaction inside.state new) → IfOk result (EventLeaves bytes at old (record { state = new; owners = inside.owners }))
settings-inside grammar states bytes are_bytes at start transaction old inside same well single result new committed =
    subst (λ (seen : ReadingState). IfOk result (EventLeaves bytes at seen (record { state = new; owners = inside.owners }))) same
    (settings-applied grammar states bytes are_bytes at start transaction inside (subst IsReadWell (sym same) well) single result new committed)
