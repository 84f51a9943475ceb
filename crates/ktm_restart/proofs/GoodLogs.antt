-- The log that payloads hold comes to a good state on pages, whose keys are texts, where the first state was one.
use Rattle.std.proofs.Common.{◌≡◌, ℕ, suc, get_or, ◌<◌, true, List, [], ◌∷◌, refl, sym, ◌∙◌, subst}
use Rattle.std.proofs.lemmas.Bool.{and_from}
use Rattle.std.specs.List.{list_all}
use Rattle.ktm_base.specs.Bytes.{AreBytes}
use Rattle.txf_laws.specs.GoodState.{IsGoodState}
use Rattle.txf_laws.specs.Grammatical.{GrammarLaw, is_grammatical}
use Rattle.ktm_journal.specs.declared.header.Header.{Header}
use Rattle.ktm_log.specs.Log.{payloads_in}
use Rattle.ktm_base.specs.Grammar.{IsRow}
use Rattle.ktm_paged.specs.Laws.{PagedLaw}
use Rattle.ktm_paged.specs.Meaning.{meant_event, meant_part}
use Rattle.ktm_paged.specs.Paged.{paged_after, paged_after_all, paged_stand}
use Rattle.ktm_records.specs.Spelling.{AreRecordedTexts, HaveTextKeys, SpellingLaw, settings_of_event}
use Rattle.ktm_world.specs.declared.event.Event.{Event}
use Rattle.ktm_world.specs.declared.event.Event.TheVariants.{Boot, MadeRm, Plain, Ready, Single, Held, Decide, Undo, Done}
use Rattle.ktm_world.specs.declared.event.Part.{Part}
use Rattle.ktm_world.specs.declared.event.Part.TheVariants.{Changes, Enlistment, Settings}
use Rattle.ktm_world.specs.EventGrammar.{IsEventOf, IsGroupOf}
use Rattle.ktm_world.specs.Durable.{Durable, settings_in}
use Rattle.ktm_world.specs.Tree.{Tree}
use Rattle.ktm_world.specs.Logs.{Group}
use Rattle.ktm_restart.specs.Logs.{AreSpelled, IsOnPages}
use Rattle.ktm_restart.specs.Payloads.{ComesTo}
use Rattle.ktm_restart.specs.Starts.{IsOfHeader}
use Rattle.ktm_restart.proofs.LogLoads.{comes_to_image, comes_to_units}
use Rattle.ktm_restart.proofs.PagedLogs.{stays-good, stays-on_pages}
use Rattle.ktm_restart.proofs.Spelled.{groups_spelled, payload_bytes}

-- numbers that are bytes at each place
pub bytes_fit : (bytes : List ℕ) → ((i : ℕ) → get_or bytes i 0 < 256) → AreBytes bytes
bytes_fit [] fits = tt
bytes_fit (b ∷ bytes) fits = (fits 0, bytes_fit bytes (λ i. fits (suc i)))

-- groups that bytes spell are grammatical
spelled_grammatical : GrammarLaw → (log : List Group) → AreSpelled log → list_all (list_all is_grammatical) log ≡ true
spelled_grammatical law [] spelled = refl
spelled_grammatical law (group ∷ log) spelled =
    let (bytes, are_bytes, is) = spelled.0 in
    and_from (list_all is_grammatical group) (list_all (list_all is_grammatical) log) (law.1 group bytes are_bytes is) (spelled_grammatical law log spelled.1)

-- the groups of payloads are grammatical
comes_grammatical : GrammarLaw → (first : Durable) (bytes : List ℕ) (state : Durable) → AreBytes bytes → (comes : ComesTo first (payloads_in bytes) state) → list_all (list_all is_grammatical) comes.log ≡ true
comes_grammatical grammar first bytes state are_bytes comes = spelled_grammatical grammar comes.log (groups_spelled comes.log (payloads_in bytes) comes.groups (payload_bytes bytes are_bytes))

module _ (grammar : GrammarLaw) (paged : PagedLaw) (first : Durable) (bytes : List ℕ) (state : Durable) (is_good : IsGoodState first) (are_bytes : AreBytes bytes) (comes : ComesTo first (payloads_in bytes) state) where
  comes_to_good : IsGoodState state
  comes_to_good = subst IsGoodState (sym comes.is) (stays-good paged first comes.log is_good (comes_grammatical grammar first bytes state are_bytes comes) comes.applies)

  comes_to_pages : IsOnPages first → IsOnPages state
  comes_to_pages on_pages = subst IsOnPages (sym comes.is) (stays-on_pages paged first comes.log is_good (comes_grammatical grammar first bytes state are_bytes comes) comes.applies on_pages)

-- what an event means sets the same keys
part-settings : (part : Part) → settings_in (meant_part part) ≡ settings_in part
part-settings (Enlistment enlistment manager information) = refl
part-settings (Changes changes) = refl
part-settings (Settings settings) = refl

meant-settings : (tree : Tree) (event : Event) → settings_of_event (meant_event tree event) ≡ settings_of_event event
meant-settings tree (Boot boot) = refl
meant-settings tree (MadeRm manager) = refl
meant-settings tree (Plain change) = refl
meant-settings tree (Ready transaction part) = part-settings part
meant-settings tree (Single transaction part) = part-settings part
meant-settings tree (Held transaction enlistment manager information) = refl
meant-settings tree (Decide transaction) = refl
meant-settings tree (Undo transaction) = refl
meant-settings tree (Done transaction done) = refl

event_texts : SpellingLaw → (s : Durable) (event : Event) (bytes : List ℕ) → IsEventOf event bytes → AreRecordedTexts s → AreRecordedTexts (paged_after s event)
event_texts law s event bytes is texts = law.events s (meant_event s.tree event) texts (subst HaveTextKeys (sym (meant-settings s.tree event)) (law.grammar event bytes is))

row_texts : SpellingLaw → (s : Durable) (events : Group) (bytes : List ℕ) → IsRow IsEventOf events bytes → AreRecordedTexts s → AreRecordedTexts (paged_after_all s events)
row_texts law s [] bytes is texts = texts
row_texts law s (event ∷ events) bytes is texts = row_texts law (paged_after s event) events is.1 is.4 (event_texts law s event is.0 is.3 texts)

group_texts : SpellingLaw → (s : Durable) (group : Group) (bytes : List ℕ) → IsGroupOf group bytes → AreRecordedTexts s → AreRecordedTexts (paged_after_all s group)
group_texts law s [] bytes is texts = absurd is
group_texts law s (event ∷ events) bytes is texts = row_texts law s (event ∷ events) is.1 is.4 texts

-- groups that bytes spell leave recorded texts texts
texts_stay : SpellingLaw → (s : Durable) (log : List Group) → AreSpelled log → AreRecordedTexts s → AreRecordedTexts (paged_stand s log)
texts_stay law s [] spelled texts = texts
texts_stay law s (group ∷ log) spelled texts =
    let (bytes, are_bytes, is) = spelled.0 in
    texts_stay law (paged_after_all s group) log spelled.1 (group_texts law s group bytes is texts)

comes_to_texts : SpellingLaw → (first : Durable) (bytes : List ℕ) (state : Durable) → AreRecordedTexts first → AreBytes bytes → ComesTo first (payloads_in bytes) state → AreRecordedTexts state
comes_to_texts law first bytes state texts are_bytes comes =
    let spelled = groups_spelled comes.log (payloads_in bytes) comes.groups (payload_bytes bytes are_bytes) in
    subst AreRecordedTexts (sym comes.is) (texts_stay law first comes.log spelled texts)

-- the state that they come to is of the image whose header it is
pub comes_to_header : GrammarLaw → PagedLaw → SpellingLaw → (header : Header) (first : Durable) (bytes : List ℕ) (state : Durable) → IsOfHeader header first → AreBytes bytes → ComesTo first (payloads_in bytes) state → IsOfHeader header state
comes_to_header grammar paged spelling header first bytes state of_header are_bytes comes = record {
  units = comes_to_units first (payloads_in bytes) state comes ∙ of_header.units;
  image = comes_to_image first (payloads_in bytes) state comes ∙ of_header.image;
  good = comes_to_good grammar paged first bytes state of_header.good are_bytes comes;
  on_pages = comes_to_pages grammar paged first bytes state of_header.good are_bytes comes of_header.on_pages;
  texts = comes_to_texts spelling first bytes state of_header.texts are_bytes comes;
}
