-- What has a spelling in bytes can be written.
use Rattle.std.proofs.Common.{ℕ, zero, suc, ◌<◌, ◌^◌, Option, Some, None, List, [], ◌∷◌, length, subst, arith}
use Rattle.std.proofs.lemmas.List.Elements.{All-from_recursion}
use Rattle.std.specs.List.{AllByRecursion}
use Rattle.std.specs.Option.{IfSome}
use Rattle.ktm_base.specs.declared.id.Id.{Id}
use Rattle.ktm_base.specs.Bytes.{AreBytes}
use Rattle.ktm_base.specs.Grammar.{IsU32, IsTextOf, IsRow, IsListOf, Then, Tagged}
use Rattle.ktm_codec.proofs.Forms.{AreBytes-parts, u16_fits, u32_fits}
use Rattle.ktm_world.specs.declared.change.Change.{Change}
use Rattle.ktm_world.specs.declared.change.Change.TheVariants.{Make, Put, Cut, Move, Drop}
use Rattle.ktm_world.specs.declared.change.Contents.{Contents}
use Rattle.ktm_world.specs.declared.change.Contents.TheVariants.{Whole, Paged}
use Rattle.ktm_keyed.specs.declared.keyed.Keyed.{Keyed}
use Rattle.ktm_world.specs.declared.event.Part.{Part}
use Rattle.ktm_world.specs.declared.event.Part.TheVariants.{Enlistment, Changes, Settings}
use Rattle.ktm_world.specs.declared.event.DonePart.{DonePart}
use Rattle.ktm_world.specs.declared.event.DonePart.TheVariants.{Files, Keys}
use Rattle.ktm_world.specs.declared.event.Event.{Event}
use Rattle.ktm_world.specs.declared.event.Event.TheVariants.{Boot, MadeRm, Plain, Ready, Single, Held, Decide, Undo}
use Rattle.ktm_world.specs.EventGrammar.{IsIdOf, IsSetTo, IsSettingOf, AreSettingsOf, IsPutOf, IsChangeOf, IsRecordOf, IsPartOf, IsSoleOf, IsDoneOf, IsEventOf, IsGroupOf}
use Rattle.ktm_event.specs.Spelling.{IsSpellableId, IsSpellableSetting, AreSpellableSettings, AreSpellablePages, IsSpellableContents, IsSpellableChange, AreSpellableChanges, IsSpellableRecord, IsSpellablePart, IsSpellableSole, IsSpellableDone, IsSpellableEvent, AreSpellableEvents}

-- what a spelling in bytes shows, one behind the other
abbrev Shows : (List ℕ → Type 0) → Type 0 → Type 0
Shows Form P = (bytes : List ℕ) → AreBytes bytes → Form bytes → P

then_shows : {First Second : List ℕ → Type 0} {P Q : Type 0} → Shows First P → Shows Second Q → Shows (Then First Second) (P × Q)
then_shows one two bytes all (first, second, is, p, q) =
    let (front, back) = AreBytes-parts first second (subst AreBytes is all) in
    (one first front p, two second back q)

tagged_shows : {tag : ℕ} {Rest : List ℕ → Type 0} {P : Type 0} → Shows Rest P → Shows (Tagged tag Rest) P
tagged_shows shows bytes all (rest, is, p) = shows rest (subst AreBytes is all).1 p

behind_shows : {First Second : List ℕ → Type 0} {Q : Type 0} → Shows Second Q → Shows (Then First Second) Q
behind_shows two bytes all (first, second, is, p, q) = two second (AreBytes-parts first second (subst AreBytes is all)).1 q

front_shows : {First Second : List ℕ → Type 0} {P : Type 0} → Shows First P → Shows (Then First Second) P
front_shows one bytes all (first, second, is, p, q) = one first (AreBytes-parts first second (subst AreBytes is all)).0 p

row_shows : {X : Type 0} (Item : X → List ℕ → Type 0) (P : X → Type 0) → ((x : X) → Shows (Item x) (P x)) → (xs : List X) → Shows (IsRow Item xs) (AllByRecursion P xs)
row_shows Item P each [] bytes all row = tt
row_shows Item P each (x ∷ xs) bytes all row = then_shows (each x) (row_shows Item P each xs) bytes all row

list_shows : {X : Type 0} (Item : X → List ℕ → Type 0) (P : X → Type 0) → ((x : X) → Shows (Item x) (P x)) → (xs : List X) → Shows (IsListOf Item xs) ((length xs < 2 ^ 32) × AllByRecursion P xs)
list_shows Item P each xs = then_shows (u32_fits (length xs)) (row_shows Item P each xs)

id_shows : (id : Id) → Shows (IsIdOf id) (IsSpellableId id)
id_shows id bytes all is = record { boot_from = is.boot_from; number_from = is.number_from }

text_shows : (text : List ℕ) → Shows (IsTextOf text) (length text < 2 ^ 8)
text_shows text bytes all is = (subst AreBytes is all).0

set_to_shows : (value : Option (List ℕ)) → Shows (IsSetTo value) (IfSome value (λ v. length v < 2 ^ 16))
set_to_shows None = λ bytes all is. tt
set_to_shows (Some value) = tagged_shows (front_shows (u16_fits (length value)))

setting_shows : (setting : Keyed (Option (List ℕ))) → Shows (IsSettingOf setting) (IsSpellableSetting setting)
setting_shows setting bytes all is =
    let (short_key, short_value) = then_shows (text_shows setting.key) (set_to_shows setting.value) bytes all is.parts in
    record { text = is.text; short_key = short_key; short_value = short_value }

pages_show : (pages : List ℕ) → Shows (IsListOf IsU32 pages) (AreSpellablePages pages)
pages_show pages bytes all is =
    let (few, each) = list_shows IsU32 (λ page. page < 2 ^ 32) u32_fits pages bytes all is in
    record { few = few; each = All-from_recursion (λ page. page < 2 ^ 32) pages each }

put_shows : (contents : Contents) → Shows (IsPutOf contents) (IsSpellableContents contents)
put_shows (Whole contents) bytes all is = absurd is
put_shows (Paged zero pages) bytes all is = absurd is
put_shows (Paged (suc n) pages) bytes all is = let (few, on) = then_shows (u32_fits (suc n)) (pages_show pages) bytes all is in (omega arith, few, on)

change_shows : (change : Change) → Shows (IsChangeOf change) (IsSpellableChange change)
change_shows (Make node parent kind name) = tagged_shows (behind_shows (behind_shows (behind_shows (text_shows name))))
change_shows (Put node offset contents) = tagged_shows (behind_shows (behind_shows (put_shows contents)))
change_shows (Cut node size pages) = tagged_shows (behind_shows (behind_shows (pages_show pages)))
change_shows (Move node parent name) = tagged_shows (behind_shows (behind_shows (text_shows name)))
change_shows (Drop node) = λ bytes all is. tt

changes_show : (changes : List Change) → Shows (IsListOf IsChangeOf changes) (AreSpellableChanges changes)
changes_show changes bytes all is =
    let (few, each) = list_shows IsChangeOf IsSpellableChange change_shows changes bytes all is in
    record { few = few; each = All-from_recursion IsSpellableChange changes each }

settings_show : (settings : List (Keyed (Option (List ℕ)))) → Shows (AreSettingsOf settings) (AreSpellableSettings settings)
settings_show settings bytes all is =
    let (few, each) = list_shows IsSettingOf IsSpellableSetting setting_shows settings bytes all is.listed in
    record { rising = is.rising; few = few; each = All-from_recursion IsSpellableSetting settings each }

record_shows : (enlistment manager : Id) (information : List ℕ) → Shows (IsRecordOf enlistment manager information) (IsSpellableRecord enlistment manager information)
record_shows enlistment manager information bytes all is =
    let (first, (second, short)) = then_shows (id_shows enlistment) (then_shows (id_shows manager) (text_shows information)) bytes all is in
    record { enlisted = first; managed = second; short = short }

part_shows : (part : Part) → Shows (IsPartOf part) (IsSpellablePart part)
part_shows (Enlistment enlistment manager information) = tagged_shows (record_shows enlistment manager information)
part_shows (Changes changes) = tagged_shows (changes_show changes)
part_shows (Settings settings) = tagged_shows (settings_show settings)

sole_shows : (part : Part) → Shows (IsSoleOf part) (IsSpellableSole part)
sole_shows (Enlistment enlistment manager information) = λ bytes all is. absurd is
sole_shows (Changes changes) = part_shows (Changes changes)
sole_shows (Settings settings) = part_shows (Settings settings)

done_shows : (done : DonePart) → Shows (IsDoneOf done) (IsSpellableDone done)
done_shows (DonePart.Enlistment enlistment) = tagged_shows (id_shows enlistment)
done_shows Files = λ bytes all is. tt
done_shows Keys = λ bytes all is. tt

pub event_shows : (event : Event) (bytes : List ℕ) → AreBytes bytes → IsEventOf event bytes → IsSpellableEvent event
event_shows (Boot boot) = λ bytes all is. tt
event_shows (MadeRm manager) = tagged_shows (id_shows manager)
event_shows (Plain change) = tagged_shows (change_shows change)
event_shows (Ready transaction part) = tagged_shows (then_shows (id_shows transaction) (part_shows part))
event_shows (Single transaction part) = tagged_shows (then_shows (id_shows transaction) (sole_shows part))
event_shows (Held transaction enlistment manager information) =
    tagged_shows (then_shows (id_shows transaction) (record_shows enlistment manager information))
event_shows (Decide transaction) = tagged_shows (id_shows transaction)
event_shows (Undo transaction) = tagged_shows (id_shows transaction)
event_shows (Event.Done transaction done) = tagged_shows (then_shows (id_shows transaction) (done_shows done))

pub group_fits : (events : List Event) (bytes : List ℕ) → AreBytes bytes → IsGroupOf events bytes → AreSpellableEvents events
group_fits [] bytes all is = absurd is
group_fits (event ∷ events) bytes all is =
    let (few, each) = list_shows IsEventOf IsSpellableEvent event_shows (event ∷ events) bytes all is in
    record { some = omega arith; few = few; each = All-from_recursion IsSpellableEvent (event ∷ events) each }
