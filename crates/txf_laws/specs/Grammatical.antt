-- What the grammar asks of each event, beyond what applies to a state.
use Rattle.std.specs.Prelude.{◌≡◌, ℕ, ◌&&◌, Bool, true, List, [], ◌∷◌}
use Rattle.std.specs.List.{list_all}
use Rattle.ktm_base.specs.Bytes.{AreBytes}
use Rattle.ktm_base.specs.declared.id.Id.{Id}
use Rattle.ktm_world.specs.declared.change.Change.{Change}
use Rattle.ktm_world.specs.declared.event.DonePart.{DonePart}
use Rattle.ktm_world.specs.declared.event.Event.{Event}
use Rattle.ktm_world.specs.declared.event.Event.TheVariants.{Boot, MadeRm, Plain, Ready, Single, Held, Decide, Undo, Done}
use Rattle.ktm_world.specs.declared.event.Part.{Part}
use Rattle.ktm_world.specs.declared.event.Part.TheVariants.{Enlistment}
use Rattle.ktm_world.specs.Durable.{changes_in}
use Rattle.ktm_world.specs.EventGrammar.{IsEventOf, IsGroupOf}
use Rattle.txf_laws.specs.Contents.{puts_some}
use Rattle.txf_laws.specs.GoodState.{is_of_object}

-- the Ids that a part names
abbrev pub ids_in : Part → List Id
ids_in (Enlistment enlistment manager information) = enlistment ∷ manager ∷ []
ids_in _ = []

-- the Id of a participant that is done, if it is an enlistment
abbrev pub ids_done : DonePart → List Id
ids_done (DonePart.Enlistment enlistment) = enlistment ∷ []
ids_done _ = []

-- the Ids that an event names
abbrev pub ids_of : Event → List Id
ids_of (Boot boot) = []
ids_of (MadeRm manager) = manager ∷ []
ids_of (Plain change) = []
ids_of (Ready transaction part) = transaction ∷ ids_in part
ids_of (Single transaction part) = transaction ∷ ids_in part
ids_of (Held transaction enlistment manager information) = transaction ∷ enlistment ∷ manager ∷ []
ids_of (Decide transaction) = transaction ∷ []
ids_of (Undo transaction) = transaction ∷ []
ids_of (Done transaction done) = transaction ∷ ids_done done

-- the changes that an event names
abbrev pub changes_of_event : Event → List Change
changes_of_event (Plain change) = change ∷ []
changes_of_event (Ready transaction part) = changes_in part
changes_of_event (Single transaction part) = changes_in part
changes_of_event _ = []

-- can every Id that an event names be that of an object
abbrev pub names_objects : Event → Bool
names_objects event = list_all is_of_object (ids_of event)

-- the Ids of an event can be those of objects, and the contents that it puts are not empty
abbrev pub is_grammatical : Event → Bool
is_grammatical event = names_objects event && list_all puts_some (changes_of_event event)

-- the grammar has it of each event that can be spelled in bytes, and so of each group
abbrev pub GrammarLaw : Type 0
GrammarLaw = ((event : Event) (bytes : List ℕ) → AreBytes bytes → IsEventOf event bytes → is_grammatical event ≡ true)
    × ((group : List Event) (bytes : List ℕ) → AreBytes bytes → IsGroupOf group bytes → list_all is_grammatical group ≡ true)
