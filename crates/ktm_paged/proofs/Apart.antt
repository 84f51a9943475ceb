-- Places that stay apart.
use Rattle.std.proofs.Common.{◌≡◌, ℕ, suc, List, [], ◌∷◌, All, refl, ◌∙◌, get_or, inl, inr}
use Rattle.std.specs.Prelude.{◌⊎◌}
use Rattle.ktm_world.specs.declared.change.Change.{Change}
use Rattle.ktm_world.specs.declared.change.Change.TheVariants.{Make, Put, Cut, Move, Drop}
use Rattle.ktm_world.specs.declared.event.Event.{Event}
use Rattle.ktm_world.specs.declared.recorded.RecordedPart.{RecordedPart}
use Rattle.ktm_world.specs.Changes.{bytes_in}
use Rattle.ktm_world.specs.Durable.{Durable, Recorded, changes_in}
use Rattle.ktm_world.specs.Tree.{bytes_or_none}
use Rattle.ktm_each.specs.Each.{EachFrom, EachOfChange, EachOfDurable, EachOfEvent, EachOfNode, EachOfPart, EachOfRecorded}
use Rattle.ktm_each.proofs.offered.Durables.{after_event-each}
use Rattle.ktm_paged.specs.Meaning.{meant_event}
use Rattle.ktm_paged.specs.Paged.{AreOwnersKept, IsOwned, paged_after}

All-both : {X : Type 0} (P Q R : X → Type 0) → ((x : X) → P x → Q x → R x) → (xs : List X) → All P xs → All Q xs → All R xs
All-both P Q R so xs first second = λ k d low. so (get_or xs k d) (first k d low) (second k d low)

EachFrom-both : (p q r : ℕ → ℕ → Type 0) → ((index byte : ℕ) → p index byte → q index byte → r index byte) → (from : ℕ) (bytes : List ℕ) → EachFrom p from bytes → EachFrom q from bytes → EachFrom r from bytes
EachFrom-both p q r so from [] first second = tt
EachFrom-both p q r so from (b ∷ bs) first second = (so from b first.0 second.0, EachFrom-both p q r so (suc from) bs first.1 second.1)

-- what follows of each byte from two facts of it holds of each where both do
module _ (p q r : ℕ → ℕ → ℕ → Type 0) (so : (file index byte : ℕ) → p file index byte → q file index byte → r file index byte) where
  change-both : (c : Change) → EachOfChange p c → EachOfChange q c → EachOfChange r c
  change-both (Make node parent kind name) first second = tt
  change-both (Put node offset contents) first second = EachFrom-both (p node) (q node) (r node) (so node) offset (bytes_in contents) first second
  change-both (Cut node size pages) first second = tt
  change-both (Move node parent name) first second = tt
  change-both (Drop node) first second = tt

  recorded-both : (t : Recorded) → EachOfRecorded p t → EachOfRecorded q t → EachOfRecorded r t
  recorded-both t first second =
      All-both (λ (part : RecordedPart). EachOfPart p part.part) (λ (part : RecordedPart). EachOfPart q part.part) (λ (part : RecordedPart). EachOfPart r part.part)
      (λ part. All-both (EachOfChange p) (EachOfChange q) (EachOfChange r) change-both (changes_in part.part)) t.parts first second

  pub durable-both : (s : Durable) → EachOfDurable p s → EachOfDurable q s → EachOfDurable r s
  durable-both s first second = record {
    tree = All-both (EachOfNode p) (EachOfNode q) (EachOfNode r)
        (λ node. EachFrom-both (p node.number) (q node.number) (r node.number) (so node.number) 0 (bytes_or_none node.content)) s.tree first.tree second.tree;
    transactions = All-both (EachOfRecorded p) (EachOfRecorded q) (EachOfRecorded r) recorded-both s.transactions first.transactions second.transactions;
  }

-- the owner is the same by another name
owned-still : (old new : ℕ → ℕ × ℕ) (file index place : ℕ) → IsOwned old file index place → (place ≡ 0) ⊎ (new place ≡ old place) → IsOwned new file index place
owned-still old new file index place (inl none) kept = inl none
owned-still old new file index place (inr owned) (inl none) = inl none
owned-still old new file index place (inr owned) (inr same) = inr (same ∙ owned)

pub stays-apart : (s : Durable) (event : Event) (old new : ℕ → ℕ × ℕ) → EachOfDurable (IsOwned old) s → AreOwnersKept old new s → EachOfEvent (IsOwned new) (meant_event s.tree event) → EachOfDurable (IsOwned new) (paged_after s event)
stays-apart s event old new owned kept puts =
    after_event-each (IsOwned new) (λ file index. inl refl) s (meant_event s.tree event)
    (durable-both (IsOwned old) (λ file index place. (place ≡ 0) ⊎ (new place ≡ old place)) (IsOwned new) (owned-still old new) s owned kept) puts
