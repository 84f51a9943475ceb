-- What memory shows, and what is so.
use Rattle.std.proofs.Common.{◌≡◌, ◌≢◌, List, [], ◌∷◌, map, refl, sym, subst, ap, ◌∙◌}
use Rattle.ktm_event.specs.Kept.{EventsState}
use Rattle.ktm_journal.specs.Image.{JournalState}
use Rattle.ktm_records.specs.Kept.{IsKept}
use Rattle.txf_laws.specs.GoodState.{IsGoodState}
use Rattle.ktm_trace.specs.Contents.{ContentsLaw, KeptLaw, expanded}
use Rattle.ktm_world.specs.declared.event.Event.{Event}
use Rattle.ktm_world.specs.declared.reply.Reply.{Reply}
use Rattle.ktm_world.specs.Durable.{after_events}
use Rattle.ktm_world.specs.Outcome.{Outcome, apply}
use Rattle.ktm_world.specs.Present.{Present}
use Rattle.txf_volume.specs.Held.{files_of}
use Rattle.ktm_memory.specs.Decided.{Decides}
use Rattle.ktm_memory.specs.Memory.{LayersNow, MemoryState, SettlesGood, Shows, durable_ids, now_of, present_of}
use Rattle.ktm_memory.specs.Settled.{left_to_do}
use Rattle.ktm_memory.specs.declared.settlement.Settlement.{Settlement}

-- memory shows what it makes of itself
pub shown-itself : KeptLaw → (m : MemoryState) → Shows m (present_of m)
shown-itself kept m = record {
  is_up = refl;
  boot = refl;
  transactions = refl;
  managers = refl;
  traces = sym (kept m.tm.now.enlistments (files_of m.files).table.own m.keys.own m.trace);
  files = refl;
  next_node = refl;
  keys = refl;
  handles = refl;
}

-- the journal is of the image, and has the events
pub record Counts (j : JournalState) (x : Present) : Type 0 where
  pub units : j.units ≡ x.recorded.units
  pub image : j.image ≡ x.recorded.image
  pub events : j.events ≡ x.recorded.events

-- where memory shows what is so and kept, and its journal is so, that is what memory makes of itself
pub shown-is : ContentsLaw → (m : MemoryState) (x : Present) → Shows m x → Counts m.journal x → IsKept x → present_of m ≡ x
shown-is contents m x shows counts kept =
    let tree = ap (λ f. f.tree) shows.files ∙ sym kept.agrees.tree in
    let store = ap (λ k. k.store) shows.keys ∙ sym kept.agrees.keys in
    let managers = ap durable_ids shows.managers ∙ sym kept.agrees.managers in
    let transactions =
    (λ i. map (expanded (shows.transactions i).enlistments (shows.files i).table.own (shows.keys i).own) (shows.traces i))
    ∙ contents x kept.sound.course kept.good kept.agrees in
    λ i. record {
      machine = record { is_up = shows.is_up i };
      recorded = record {
        units = counts.units i;
        image = counts.image i;
        events = counts.events i;
        boots = shows.boot i;
        next_node = shows.next_node i;
        tree = tree i;
        keys = store i;
        managers = managers i;
        transactions = transactions i;
      };
      transactions = shows.transactions i;
      managers = shows.managers i;
      files = shows.files i;
      keys = shows.keys i;
      handles = shows.handles i;
    }

-- ---- what was decided, once it is done

some_event : (event : Event) (events : List Event) → event ∷ events ≢ []
some_event event events is = absurd (cc)

-- what was recorded is good in memory, too, where a command was decided
decided-good : (old : LayersNow) (o : Outcome) (reply : Reply) (rest : Settlement) (events : EventsState) (m : MemoryState) → Decides old o reply rest events m → IsGoodState (now_of old).recorded
    → IsGoodState (present_of m).recorded
decided-good old o reply rest events m decides good = by-events o.events refl
  where
    by-events : (group : List Event) → o.events ≡ group → IsGoodState (present_of m).recorded
    by-events [] none =
        let same : (present_of m).recorded ≡ (now_of old).recorded =
        ap (λ (group : List Event). after_events (present_of m).recorded group) (sym (decides.group ∙ none))
        ∙ ap (λ (x : Present). x.recorded) decides.comes_to
        ∙ ap (λ (group : List Event). after_events (now_of old).recorded group) none in
        subst IsGoodState (sym same) good
    by-events (event ∷ group) some =
        let waits = decides.waits (λ is. some_event event group (sym some ∙ is)) in
        subst (λ (h : LayersNow). IsGoodState (now_of h).recorded) (sym waits) good

-- once it is done in memory, whose journal counts it, that is what the outcome makes of what was so
pub settled-is : ContentsLaw → KeptLaw → (old : LayersNow) (o : Outcome) (reply : Reply) (rest : Settlement) (events : EventsState) (m : MemoryState) (j : JournalState) (new : MemoryState)
    → Decides old o reply rest events m → IsGoodState (now_of old).recorded → SettlesGood (record m { journal = j }) (λ x. left_to_do x rest) new
    → Counts new.journal (apply (now_of old) o) → IsKept (apply (now_of old) o) → present_of new ≡ apply (now_of old) o
settled-is contents kept old o reply rest events m j new decides good settles counts is_kept =
    let itself = shown-itself kept m in
    let shows : Shows (record m { journal = j }) (present_of m) = record {
      is_up = itself.is_up;
      boot = itself.boot;
      transactions = itself.transactions;
      managers = itself.managers;
      traces = itself.traces;
      files = itself.files;
      next_node = itself.next_node;
      keys = itself.keys;
      handles = itself.handles;
    } in
    let after = settles.shows (present_of m) shows (decided-good old o reply rest events m decides good) in
    shown-is contents new (apply (now_of old) o) (subst (Shows new) decides.comes_to after) counts is_kept
