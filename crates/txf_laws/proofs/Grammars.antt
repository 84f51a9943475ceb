-- What the grammar has of each event that can be spelled.
use Rattle.std.proofs.Common.{◌≡◌, ℕ, zero, suc, ◌-◌, ◌≤◌, ◌^◌, true, List, [], ◌∷◌, ◌++◌, length, not, refl, ap, subst, arith}
use Rattle.std.proofs.lemmas.Bool.{and_from, le-leb, ne_eqb}
use Rattle.std.specs.Int.{w32, from_le_bytes}
use Rattle.std.specs.List.{list_all}
use Rattle.ktm_base.specs.Bytes.{AreBytes}
use Rattle.ktm_base.specs.declared.id.Id.{Id}
use Rattle.ktm_base.specs.Grammar.{IsRow}
use Rattle.ktm_world.specs.declared.change.Change.{Change}
use Rattle.ktm_world.specs.declared.change.Change.TheVariants.{Make, Put, Cut, Move, Drop}
use Rattle.ktm_world.specs.declared.change.Contents.{Contents}
use Rattle.ktm_world.specs.declared.change.Contents.TheVariants.{Whole, Paged}
use Rattle.ktm_world.specs.declared.event.DonePart.{DonePart}
use Rattle.ktm_world.specs.declared.event.Event.{Event}
use Rattle.ktm_world.specs.declared.event.Event.TheVariants.{Boot, MadeRm, Plain, Ready, Single, Held, Decide, Undo, Done}
use Rattle.ktm_world.specs.declared.event.Part.{Part}
use Rattle.ktm_world.specs.declared.event.Part.TheVariants.{Enlistment, Changes, Settings}
use Rattle.ktm_world.specs.Durable.{changes_in}
use Rattle.ktm_world.specs.EventGrammar.{IsIdOf, IsRecordOf, IsPutOf, IsChangeOf, IsPartOf, IsSoleOf, IsDoneOf, IsEventOf, IsGroupOf}
use Rattle.txf_laws.specs.Contents.{puts_some}
use Rattle.txf_laws.specs.GoodState.{is_of_object}
use Rattle.txf_laws.specs.Grammatical.{ids_in, ids_done, is_grammatical, GrammarLaw}

-- ---- bytes

AreBytes-both : (a b : List ℕ) → AreBytes (a ++ b) → AreBytes a × AreBytes b
AreBytes-both [] b all = (tt, all)
AreBytes-both (x ∷ a) b all = let rest = AreBytes-both a b all.1 in ((all.0, rest.0), rest.1)

parts-of : (bytes a b : List ℕ) → bytes ≡ a ++ b → AreBytes bytes → AreBytes a × AreBytes b
parts-of bytes a b is all = AreBytes-both a b (subst AreBytes is all)

behind-tag : (bytes rest : List ℕ) (tag : ℕ) → bytes ≡ tag ∷ rest → AreBytes bytes → AreBytes rest
behind-tag bytes rest tag is all = (subst AreBytes is all).1

-- four bytes make a number below 2^32
four-bytes : (bytes : List ℕ) → length bytes ≡ 4 → AreBytes bytes → from_le_bytes w32 bytes ≤ 2 ^ 32 - 1
four-bytes [] long all = absurd (omega (arith, long))
four-bytes (a ∷ []) long all = absurd (omega (arith, long))
four-bytes (a ∷ b ∷ []) long all = absurd (omega (arith, long))
four-bytes (a ∷ b ∷ c ∷ []) long all = absurd (omega (arith, long))
four-bytes (a ∷ b ∷ c ∷ d ∷ []) long all = omega (arith, all.0, all.1.0, all.1.1.0, all.1.1.1.0)
four-bytes (a ∷ b ∷ c ∷ d ∷ e ∷ bytes) long all = absurd (omega (arith, long))

-- ---- what the grammar has of each part

counts : (id : Id) (bytes : List ℕ) → AreBytes bytes → IsIdOf id bytes → is_of_object id ≡ true
counts id bytes all is =
    let number = (is.numbers).4 in
    let low = four-bytes (is.numbers).1 number.long (parts-of bytes (is.numbers).0 (is.numbers).1 (is.numbers).2 all).1 in
    and_from _ _ (and_from _ _ (le-leb _ _ is.boot_from) (le-leb _ _ is.number_from)) (le-leb _ _ (omega (arith, low, number.value)))

some-put : (node offset : ℕ) (contents : Contents) (bytes : List ℕ) → IsPutOf contents bytes → puts_some (Put node offset contents) ≡ true
some-put node offset (Whole contents) bytes is = absurd is
some-put node offset (Paged zero pages) bytes is = absurd is
some-put node offset (Paged (suc n) pages) bytes is = ap not (ne_eqb (suc n) 0 (λ none. omega (arith, none)))

puts-of : (c : Change) (bytes : List ℕ) → IsChangeOf c bytes → puts_some c ≡ true
puts-of (Make node parent kind name) bytes is = refl
puts-of (Put node offset contents) bytes is = some-put node offset contents _ (is.2).4.4
puts-of (Cut node size pages) bytes is = refl
puts-of (Move node parent name) bytes is = refl
puts-of (Drop node) bytes is = refl

puts-row : (cs : List Change) (bytes : List ℕ) → IsRow IsChangeOf cs bytes → list_all puts_some cs ≡ true
puts-row [] bytes is = refl
puts-row (c ∷ cs) bytes is = and_from _ _ (puts-of c is.0 is.3) (puts-row cs is.1 is.4)

-- the enlistment and its manager
ids-of-record : (enlistment manager : Id) (information bytes : List ℕ) → AreBytes bytes → IsRecordOf enlistment manager information bytes → list_all is_of_object (enlistment ∷ manager ∷ []) ≡ true
ids-of-record enlistment manager information bytes all is =
    let parts = parts-of bytes is.0 is.1 is.2 all in
    and_from _ _ (counts enlistment is.0 parts.0 is.3) (and_from _ _ (counts manager (is.4).0 (parts-of is.1 (is.4).0 (is.4).1 (is.4).2 parts.1).0 (is.4).3) refl)

ids-of-part : (part : Part) (bytes : List ℕ) → AreBytes bytes → IsPartOf part bytes → list_all is_of_object (ids_in part) ≡ true
ids-of-part (Enlistment enlistment manager information) bytes all is = ids-of-record enlistment manager information is.0 (behind-tag bytes is.0 1 is.1 all) is.2
ids-of-part (Changes cs) bytes all is = refl
ids-of-part (Settings ss) bytes all is = refl

puts-of-part : (part : Part) (bytes : List ℕ) → IsPartOf part bytes → list_all puts_some (changes_in part) ≡ true
puts-of-part (Enlistment enlistment manager information) bytes is = refl
puts-of-part (Changes cs) bytes is = puts-row cs _ (is.2).4
puts-of-part (Settings ss) bytes is = refl

part-of-sole : (part : Part) (bytes : List ℕ) → IsSoleOf part bytes → IsPartOf part bytes
part-of-sole (Enlistment enlistment manager information) bytes is = absurd is
part-of-sole (Changes cs) bytes is = is
part-of-sole (Settings ss) bytes is = is

ids-of-done : (done : DonePart) (bytes : List ℕ) → AreBytes bytes → IsDoneOf done bytes → list_all is_of_object (ids_done done) ≡ true
ids-of-done (DonePart.Enlistment id) bytes all is = and_from _ _ (counts id is.0 (behind-tag bytes is.0 1 is.1 all) is.2) refl
ids-of-done DonePart.Files bytes all is = refl
ids-of-done DonePart.Keys bytes all is = refl

event-grammatical : (event : Event) (bytes : List ℕ) → AreBytes bytes → IsEventOf event bytes → is_grammatical event ≡ true
event-grammatical (Boot boot) bytes all is = refl
event-grammatical (MadeRm manager) bytes all is = and_from _ _ (and_from _ _ (counts manager is.0 (behind-tag bytes is.0 2 is.1 all) is.2) refl) refl
event-grammatical (Plain change) bytes all is = and_from _ _ refl (and_from _ _ (puts-of change _ is.2) refl)
event-grammatical (Ready transaction part) bytes all is =
    let parts = parts-of is.0 (is.2).0 (is.2).1 (is.2).2 (behind-tag bytes is.0 4 is.1 all) in
    and_from _ _ (and_from _ _ (counts transaction (is.2).0 parts.0 (is.2).3) (ids-of-part part (is.2).1 parts.1 (is.2).4)) (puts-of-part part _ (is.2).4)
event-grammatical (Single transaction part) bytes all is =
    let parts = parts-of is.0 (is.2).0 (is.2).1 (is.2).2 (behind-tag bytes is.0 5 is.1 all) in
    let part_is = part-of-sole part _ (is.2).4 in
    and_from _ _ (and_from _ _ (counts transaction (is.2).0 parts.0 (is.2).3) (ids-of-part part (is.2).1 parts.1 part_is)) (puts-of-part part _ part_is)
event-grammatical (Held transaction enlistment manager information) bytes all is =
    let parts = parts-of is.0 (is.2).0 (is.2).1 (is.2).2 (behind-tag bytes is.0 6 is.1 all) in
    and_from _ _ (and_from _ _ (counts transaction (is.2).0 parts.0 (is.2).3) (ids-of-record enlistment manager information (is.2).1 parts.1 (is.2).4)) refl
event-grammatical (Decide transaction) bytes all is = and_from _ _ (and_from _ _ (counts transaction is.0 (behind-tag bytes is.0 7 is.1 all) is.2) refl) refl
event-grammatical (Undo transaction) bytes all is = and_from _ _ (and_from _ _ (counts transaction is.0 (behind-tag bytes is.0 8 is.1 all) is.2) refl) refl
event-grammatical (Done transaction done) bytes all is =
    let parts = parts-of is.0 (is.2).0 (is.2).1 (is.2).2 (behind-tag bytes is.0 9 is.1 all) in
    and_from _ _ (and_from _ _ (counts transaction (is.2).0 parts.0 (is.2).3) (ids-of-done done (is.2).1 parts.1 (is.2).4)) refl

row-grammatical : (events : List Event) (bytes : List ℕ) → AreBytes bytes → IsRow IsEventOf events bytes → list_all is_grammatical events ≡ true
row-grammatical [] bytes all is = refl
row-grammatical (event ∷ events) bytes all is =
    let parts = parts-of bytes is.0 is.1 is.2 all in and_from _ _ (event-grammatical event is.0 parts.0 is.3) (row-grammatical events is.1 parts.1 is.4)

group-grammatical : (group : List Event) (bytes : List ℕ) → AreBytes bytes → IsGroupOf group bytes → list_all is_grammatical group ≡ true
group-grammatical [] bytes all is = absurd is
group-grammatical (event ∷ events) bytes all is = row-grammatical (event ∷ events) is.1 (parts-of bytes is.0 is.1 is.2 all).1 is.4

pub grammar_law : GrammarLaw
grammar_law = (event-grammatical, group-grammatical)
