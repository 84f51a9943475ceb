-- The bytes of a group are as many as are counted for it.
use Rattle.std.proofs.Common.{◌≡◌, ℕ, zero, suc, ◌+◌, ◌*◌, List, [], ◌∷◌, length, sum_by, Option, None, Some, refl, sym, ◌∙◌, ap, ap₂, arith, length-append}
use Rattle.std.proofs.lemmas.List.Sums.{sum_by-cons}
use Rattle.ktm_base.specs.Grammar.{IsU32, Then, Tagged, IsTextOf, IsRow, IsListOf}
use Rattle.ktm_base.specs.declared.id.Id.{Id}
use Rattle.ktm_keyed.specs.declared.keyed.Keyed.{Keyed}
use Rattle.ktm_world.specs.declared.event.Part.{Part}
use Rattle.ktm_world.specs.declared.event.Part.TheVariants.{Enlistment, Changes, Settings}
use Rattle.ktm_world.specs.declared.event.DonePart.{DonePart}
use Rattle.ktm_world.specs.declared.event.DonePart.TheVariants.{Files, Keys}
use Rattle.ktm_world.specs.declared.event.Event.{Event}
use Rattle.ktm_world.specs.declared.event.Event.TheVariants.{Boot, MadeRm, Plain, Ready, Single, Held, Decide, Undo}
use Rattle.ktm_world.specs.declared.change.Change.{Change}
use Rattle.ktm_world.specs.declared.change.Change.TheVariants.{Make, Put, Cut, Move, Drop}
use Rattle.ktm_world.specs.declared.change.Contents.{Contents}
use Rattle.ktm_world.specs.declared.change.Contents.TheVariants.{Whole, Paged}
use Rattle.ktm_world.specs.declared.change.NodeKind.{NodeKind}
use Rattle.ktm_world.specs.declared.change.NodeKind.TheVariants.{File, Directory}
use Rattle.ktm_world.specs.EventGrammar.{IsIdOf, IsSetTo, IsSettingOf, AreSettingsOf, IsKindOf, IsPutOf, IsChangeOf, IsRecordOf, IsPartOf, IsSoleOf, IsDoneOf, IsEventOf, IsGroupOf}
use Rattle.ktm_world.specs.Sizes.{set_to_size, setting_size, pages_size, put_size, change_size, record_size, part_size, done_size, event_size, group_size}

-- one thing and then another take the bytes of both
pub length-then : (m n : ℕ) (First Second : List ℕ → Type 0) (bytes : List ℕ) → ((first : List ℕ) → First first → length first ≡ m) → ((second : List ℕ) → Second second → length second ≡ n)
    → Then First Second bytes → length bytes ≡ m + n
length-then m n First Second bytes one two both = ap length both.2 ∙ length-append both.0 both.1 ∙ ap₂ ◌+◌ (one both.0 both.3) (two both.1 both.4)

-- a tag is one byte
pub length-tagged : (tag n : ℕ) (Rest : List ℕ → Type 0) (bytes : List ℕ) → ((rest : List ℕ) → Rest rest → length rest ≡ n) → Tagged tag Rest bytes → length bytes ≡ 1 + n
length-tagged tag n Rest bytes sized tagged = let rest = sized tagged.0 tagged.2 in ap length tagged.1 ∙ omega (arith, rest)

-- a row of things, of each of which the size is known
pub length-row : {X : Type 0} (Item : X → List ℕ → Type 0) (size : X → ℕ) → ((x : X) (bytes : List ℕ) → Item x bytes → length bytes ≡ size x)
    → (xs : List X) (bytes : List ℕ) → IsRow Item xs bytes → length bytes ≡ sum_by size xs
length-row Item size sized [] bytes none = ap length none
length-row Item size sized (x ∷ xs) bytes row =
    length-then (size x) (sum_by size xs) (Item x) (IsRow Item xs) bytes (sized x) (length-row Item size sized xs) row ∙ sym (sum_by-cons size x xs)

-- a list has its count in four bytes
pub length-list : {X : Type 0} (Item : X → List ℕ → Type 0) (size : X → ℕ) → ((x : X) (bytes : List ℕ) → Item x bytes → length bytes ≡ size x)
    → (xs : List X) (bytes : List ℕ) → IsListOf Item xs bytes → length bytes ≡ 4 + sum_by size xs
length-list Item size sized xs bytes items =
    length-then 4 (sum_by size xs) (IsU32 (length xs)) (IsRow Item xs) bytes (λ count long. long.long) (length-row Item size sized xs) items

length-set_to : (value : Option (List ℕ)) (bytes : List ℕ) → IsSetTo value bytes → length bytes ≡ set_to_size value
length-set_to None bytes unset = length-tagged 0 0 (λ rest. rest ≡ []) bytes (λ rest none. ap length none) unset
length-set_to (Some value) bytes is_set =
    length-tagged 1 (2 + length value) _ bytes (λ rest items. length-then 2 (length value) _ _ rest (λ count long. long.long) (λ second same. ap length same) items) is_set
    ∙ omega arith

length-setting : (setting : Keyed (Option (List ℕ))) (bytes : List ℕ) → IsSettingOf setting bytes → length bytes ≡ setting_size setting
length-setting setting bytes is =
    length-then (1 + length setting.key) (set_to_size setting.value) _ _ bytes (λ key same. ap length same ∙ omega arith) (length-set_to setting.value) is.parts

pub length-id : (id : Id) (bytes : List ℕ) → IsIdOf id bytes → length bytes ≡ 8
length-id id bytes is = length-then 4 4 _ _ bytes (λ boot four. four.long) (λ number four. four.long) is.numbers

pub length-text : (text bytes : List ℕ) → IsTextOf text bytes → length bytes ≡ 1 + length text
length-text text bytes is = ap length is ∙ omega arith

length-kind : (kind : NodeKind) (bytes : List ℕ) → IsKindOf kind bytes → length bytes ≡ 1
length-kind File bytes is = ap length is.value
length-kind Directory bytes is = ap length is.value

-- a page has four bytes
four-each : (pages : List ℕ) → sum_by (λ page. 4) pages ≡ 4 * length pages
four-each [] = refl
four-each (page ∷ pages) = let rest = four-each pages in sum_by-cons (λ page. 4) page pages ∙ omega (arith, rest)

length-pages : (pages bytes : List ℕ) → IsListOf IsU32 pages bytes → length bytes ≡ pages_size pages
length-pages pages bytes is = length-list IsU32 (λ page. 4) (λ page part four. four.long) pages bytes is ∙ ap (λ n. 4 + n) (four-each pages)

length-put : (contents : Contents) (bytes : List ℕ) → IsPutOf contents bytes → length bytes ≡ put_size contents
length-put (Whole contents) bytes is = absurd is
length-put (Paged zero pages) bytes is = absurd is
length-put (Paged (suc n) pages) bytes is = length-then 4 (pages_size pages) _ _ bytes (λ count four. four.long) (length-pages pages) is

length-change : (change : Change) (bytes : List ℕ) → IsChangeOf change bytes → length bytes ≡ change_size change
length-change (Make node parent kind name) bytes is =
    length-tagged 1 (18 + length name) _ bytes (λ rest fields. length-then 8 (10 + length name) _ _ rest (λ number eight. eight.long)
    (λ second more. length-then 8 (2 + length name) _ _ second (λ number eight. eight.long)
    (λ third last. length-then 1 (1 + length name) _ _ third (length-kind kind) (length-text name) last ∙ omega arith) more ∙ omega arith) fields ∙ omega arith) is
    ∙ omega arith
length-change (Put node offset contents) bytes is =
    length-tagged 2 (16 + put_size contents) _ bytes (λ rest fields. length-then 8 (8 + put_size contents) _ _ rest (λ number eight. eight.long)
    (λ second more. length-then 8 (put_size contents) _ _ second (λ number eight. eight.long) (length-put contents) more) fields ∙ omega arith) is
    ∙ omega arith
length-change (Cut node size pages) bytes is =
    length-tagged 3 (16 + pages_size pages) _ bytes (λ rest fields. length-then 8 (8 + pages_size pages) _ _ rest (λ number eight. eight.long)
    (λ second more. length-then 8 (pages_size pages) _ _ second (λ number eight. eight.long) (length-pages pages) more) fields ∙ omega arith) is
    ∙ omega arith
length-change (Move node parent name) bytes is =
    length-tagged 4 (17 + length name) _ bytes (λ rest fields. length-then 8 (9 + length name) _ _ rest (λ number eight. eight.long)
    (λ second more. length-then 8 (1 + length name) _ _ second (λ number eight. eight.long) (length-text name) more ∙ omega arith) fields ∙ omega arith) is
    ∙ omega arith
length-change (Drop node) bytes is = length-tagged 5 8 _ bytes (λ rest number. number.long) is

pub length-record : (enlistment manager : Id) (information bytes : List ℕ) → IsRecordOf enlistment manager information bytes → length bytes ≡ record_size information
length-record enlistment manager information bytes is =
    length-then 8 (9 + length information) _ _ bytes (length-id enlistment)
    (λ second more. length-then 8 (1 + length information) _ _ second (length-id manager) (length-text information) more ∙ omega arith) is
    ∙ omega arith

length-settings : (settings : List (Keyed (Option (List ℕ)))) (bytes : List ℕ) → AreSettingsOf settings bytes → length bytes ≡ 4 + sum_by setting_size settings
length-settings settings bytes is = length-list IsSettingOf setting_size length-setting settings bytes is.listed

pub length-part : (part : Part) (bytes : List ℕ) → IsPartOf part bytes → length bytes ≡ part_size part
length-part (Enlistment enlistment manager information) bytes is = length-tagged 1 (record_size information) _ bytes (length-record enlistment manager information) is
length-part (Changes changes) bytes is =
    length-tagged 2 (4 + sum_by change_size changes) _ bytes (length-list IsChangeOf change_size length-change changes) is ∙ omega arith
length-part (Settings settings) bytes is =
    length-tagged 3 (4 + sum_by setting_size settings) _ bytes (length-settings settings) is ∙ omega arith

length-sole : (part : Part) (bytes : List ℕ) → IsSoleOf part bytes → length bytes ≡ part_size part
length-sole (Enlistment enlistment manager information) bytes is = absurd is
length-sole (Changes changes) bytes is = length-part (Changes changes) bytes is
length-sole (Settings settings) bytes is = length-part (Settings settings) bytes is

length-done : (done : DonePart) (bytes : List ℕ) → IsDoneOf done bytes → length bytes ≡ done_size done
length-done (DonePart.Enlistment enlistment) bytes is = length-tagged 1 8 _ bytes (length-id enlistment) is
length-done Files bytes is = ap length is.value
length-done Keys bytes is = ap length is.value

-- a tag, an Id and one thing more
length-with_id : (tag n : ℕ) (id : Id) (Rest : List ℕ → Type 0) (bytes : List ℕ) → ((rest : List ℕ) → Rest rest → length rest ≡ n) → Tagged tag (Then (IsIdOf id) Rest) bytes → length bytes ≡ 9 + n
length-with_id tag n id Rest bytes sized is =
    length-tagged tag (8 + n) _ bytes (λ rest fields. length-then 8 n _ _ rest (length-id id) sized fields) is ∙ omega arith

length-event : (event : Event) (bytes : List ℕ) → IsEventOf event bytes → length bytes ≡ event_size event
length-event (Boot boot) bytes is = length-tagged 1 4 (IsU32 boot) bytes (λ rest number. number.long) is
length-event (MadeRm manager) bytes is = length-tagged 2 8 _ bytes (length-id manager) is
length-event (Plain change) bytes is = length-tagged 3 (change_size change) _ bytes (length-change change) is
length-event (Ready transaction part) bytes is = length-with_id 4 (part_size part) transaction _ bytes (length-part part) is
length-event (Single transaction part) bytes is = length-with_id 5 (part_size part) transaction _ bytes (length-sole part) is
length-event (Held transaction enlistment manager information) bytes is =
    length-with_id 6 (record_size information) transaction _ bytes (length-record enlistment manager information) is
length-event (Decide transaction) bytes is = length-tagged 7 8 _ bytes (length-id transaction) is
length-event (Undo transaction) bytes is = length-tagged 8 8 _ bytes (length-id transaction) is
length-event (Event.Done transaction done) bytes is = length-with_id 9 (done_size done) transaction _ bytes (length-done done) is

pub length-group : (events : List Event) (bytes : List ℕ) → IsGroupOf events bytes → length bytes ≡ group_size events
length-group [] bytes is = absurd is
length-group (event ∷ events) bytes is = length-list IsEventOf event_size length-event (event ∷ events) bytes is
