-- What has a spelling in bytes puts no contents but such as stand on pages.
use Rattle.std.proofs.Common.{ℕ, List, [], ◌∷◌, All}
use Rattle.std.proofs.lemmas.List.Elements.{All-from_recursion}
use Rattle.std.specs.List.{AllByRecursion}
use Rattle.ktm_base.specs.Grammar.{IsRow}
use Rattle.ktm_world.specs.declared.change.Change.{Change}
use Rattle.ktm_world.specs.declared.change.Change.TheVariants.{Make, Put, Cut, Move, Drop}
use Rattle.ktm_world.specs.declared.change.Contents.{Contents}
use Rattle.ktm_world.specs.declared.change.Contents.TheVariants.{Whole, Paged}
use Rattle.ktm_world.specs.declared.event.Event.{Event}
use Rattle.ktm_world.specs.declared.event.Event.TheVariants.{Boot, MadeRm, Plain, Ready, Single, Held, Decide, Undo, Done}
use Rattle.ktm_world.specs.declared.event.Part.{Part}
use Rattle.ktm_world.specs.declared.event.Part.TheVariants.{Enlistment, Changes, Settings}
use Rattle.ktm_world.specs.EventGrammar.{IsPutOf, IsChangeOf, IsPartOf, IsEventOf, IsGroupOf}
use Rattle.ktm_event.specs.Spelling.{StandOnPages, IsRecordableChange, IsRecordablePart, IsRecordable}
use Rattle.ktm_event.proofs.Parts.{sole_is_part}

contents_stand : (contents : Contents) (bytes : List ℕ) → IsPutOf contents bytes → StandOnPages contents
contents_stand (Whole contents) bytes is = is
contents_stand (Paged len pages) bytes is = tt

change_recorded : (change : Change) (bytes : List ℕ) → IsChangeOf change bytes → IsRecordableChange change
change_recorded (Put node offset contents) bytes is = contents_stand contents _ is.2.4.4
change_recorded (Make node parent kind name) bytes is = tt
change_recorded (Cut node size pages) bytes is = tt
change_recorded (Move node parent name) bytes is = tt
change_recorded (Drop node) bytes is = tt

row_recorded : {X : Type 0} (Item : X → List ℕ → Type 0) (P : X → Type 0) → ((x : X) (bytes : List ℕ) → Item x bytes → P x) → (xs : List X) (bytes : List ℕ) → IsRow Item xs bytes → AllByRecursion P xs
row_recorded Item P each [] bytes row = tt
row_recorded Item P each (x ∷ xs) bytes row = (each x row.0 row.3, row_recorded Item P each xs row.1 row.4)

part_recorded : (part : Part) (bytes : List ℕ) → IsPartOf part bytes → IsRecordablePart part
part_recorded (Changes changes) bytes is = All-from_recursion IsRecordableChange changes (row_recorded IsChangeOf IsRecordableChange change_recorded changes _ is.2.4)
part_recorded (Enlistment enlistment manager information) bytes is = tt
part_recorded (Settings settings) bytes is = tt

pub event_recorded : (event : Event) (bytes : List ℕ) → IsEventOf event bytes → IsRecordable event
event_recorded (Plain change) bytes is = change_recorded change _ is.2
event_recorded (Ready transaction part) bytes is = part_recorded part _ is.2.4
event_recorded (Single transaction part) bytes is = part_recorded part _ (sole_is_part part _ is.2.4)
event_recorded (Boot boot) bytes is = tt
event_recorded (MadeRm manager) bytes is = tt
event_recorded (Held transaction enlistment manager information) bytes is = tt
event_recorded (Decide transaction) bytes is = tt
event_recorded (Undo transaction) bytes is = tt
event_recorded (Done transaction done) bytes is = tt

pub group_recorded : (events : List Event) (bytes : List ℕ) → IsGroupOf events bytes → All IsRecordable events
group_recorded [] bytes is = absurd is
group_recorded (event ∷ events) bytes is = All-from_recursion IsRecordable (event ∷ events) (row_recorded IsEventOf IsRecordable event_recorded (event ∷ events) _ is.4)
