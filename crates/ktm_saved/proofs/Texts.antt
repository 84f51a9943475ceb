-- The committed keys of a snapshot are texts, and so are those that its transactions set.
use Rattle.std.proofs.Common.{ℕ, List, [], ◌∷◌, ◌++◌, Option, refl, sym, subst, All}
use Rattle.std.proofs.lemmas.List.Elements.{All-append, All-from_recursion}
use Rattle.std.specs.List.{AllByRecursion, flat_map}
use Rattle.ktm_base.specs.declared.id.Id.{Id}
use Rattle.ktm_base.specs.Grammar.{IsRow}
use Rattle.ktm_keyed.specs.declared.keyed.Keyed.{Keyed}
use Rattle.ktm_records.specs.Spelling.{AreTextKeys, HaveTextKeys, SpellingLaw}
use Rattle.ktm_snapshot.specs.Works.{placed_part}
use Rattle.ktm_snapshot.specs.StateGrammar.{IsEntryOf, IsPlacedPartOf, IsMarkedOf, IsTransactionOf}
use Rattle.ktm_world.specs.declared.event.Event.TheVariants.{Ready}
use Rattle.ktm_world.specs.declared.event.Part.{Part}
use Rattle.ktm_world.specs.declared.event.Part.TheVariants.{Enlistment, Changes, Settings}
use Rattle.ktm_world.specs.declared.recorded.RecordedPart.{RecordedPart}
use Rattle.ktm_world.specs.EventGrammar.{IsIdOf, IsPartOf}
use Rattle.ktm_world.specs.Values.{IsText}
use Rattle.ktm_world.specs.Durable.{Recorded, settings_in, settings_of}
use Rattle.ktm_world.specs.Keys.{Store}

-- the committed ones
pub key_texts : (keys : Store) (bytes : List ℕ) → IsRow IsEntryOf keys bytes → AreTextKeys keys
key_texts keys bytes row = All-from_recursion _ _ (go keys bytes row)
  where
    go : (keys : Store) (bytes : List ℕ) → IsRow IsEntryOf keys bytes → AllByRecursion (λ (entry : Keyed (List ℕ)). IsText entry.key) keys
    go [] bytes row = tt
    go (k ∷ ks) bytes (entry, rest, split, this, row) = (this.text, go ks rest row)

-- is the key of a setting a text
abbrev HasTextKey : Keyed (Option (List ℕ)) → Type 0
HasTextKey s = IsText s.key

module _ (law : SpellingLaw) where
  -- those that a part sets
  part_texts : (id : Id) (named : List ℕ) → IsIdOf id named → (part : Part) (bytes : List ℕ) → IsPartOf part bytes → HaveTextKeys (settings_in part)
  part_texts id named is part bytes spelled = law.grammar (Ready id part) (4 ∷ named ++ bytes) (named ++ bytes, refl, (named, bytes, refl, is, spelled))

  -- those that a part of a state sets
  placed_texts : (id : Id) (named : List ℕ) → IsIdOf id named → (part : Part) (bytes : List ℕ) → IsPlacedPartOf part bytes → HaveTextKeys (settings_in part)
  placed_texts id named is part bytes spelled =
      subst (λ (p : Part). HaveTextKeys (settings_in p)) (sym spelled.placed) (same spelled.recorded (part_texts id named is spelled.recorded bytes spelled.spelled))
    where
      same : (recorded : Part) → HaveTextKeys (settings_in recorded) → HaveTextKeys (settings_in (placed_part recorded))
      same (Enlistment enlistment manager information) texts = texts
      same (Changes changes) texts = texts
      same (Settings settings) texts = texts

  parts_texts : (id : Id) (named : List ℕ) → IsIdOf id named → (parts : List RecordedPart) (bytes : List ℕ) → IsRow IsMarkedOf parts bytes → HaveTextKeys (flat_map (λ p. settings_in p.part) parts)
  parts_texts id named is [] bytes row = All-from_recursion HasTextKey [] tt
  parts_texts id named is (p ∷ ps) bytes (marked, rest, split, part, row) =
      All-append HasTextKey (settings_in p.part) (flat_map (λ p. settings_in p.part) ps) (placed_texts id named is p.part part.1 part.4) (parts_texts id named is ps rest row)

  -- those that transactions set
  pub texts : (ts : List Recorded) (bytes : List ℕ) → IsRow IsTransactionOf ts bytes → All (λ (t : Recorded). HaveTextKeys (settings_of t)) ts
  texts ts bytes row = All-from_recursion _ _ (go ts bytes row)
    where
      go : (ts : List Recorded) (bytes : List ℕ) → IsRow IsTransactionOf ts bytes → AllByRecursion (λ (t : Recorded). HaveTextKeys (settings_of t)) ts
      go [] bytes row = tt
      go (t ∷ ts) bytes row = (parts_texts t.id _ ((row.3).3).3 t.parts (row.3).1 (row.3).4, go ts row.1 row.4)
