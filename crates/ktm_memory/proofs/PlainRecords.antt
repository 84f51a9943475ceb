-- What is recorded of the change of a plain call.
use Rattle.std.proofs.Common.{◌≡◌, ℕ, ◌+◌, not, true, false, List, [], ◌∷◌, length, Some, None, refl, sym, ◌∙◌, ap, subst, arith}
use Rattle.std.specs.Prelude.{nat_lt}
use Rattle.std.proofs.lemmas.Bool.{le-ltb, ne_eqb}
use Rattle.ktm_content.specs.Places.{LieOn}
use Rattle.ktm_event.specs.Kept.{EventsState, Holds}
use Rattle.ktm_paged.specs.Meaning.{has_its_pages, meant, size_before}
use Rattle.ktm_paged.specs.Recorded.{IsRecordOf}
use Rattle.ktm_paged.proofs.offered.Meanings.{grown-meant, put-meant}
use Rattle.ktm_paged.proofs.offered.Recording.{plain-recorded}
use Rattle.ktm_world.specs.declared.change.Change.{Change}
use Rattle.ktm_world.specs.declared.change.Change.TheVariants.{Make, Put, Cut, Move, Drop}
use Rattle.ktm_world.specs.declared.change.Contents.TheVariants.{Whole, Paged}
use Rattle.ktm_world.specs.declared.event.Event.TheVariants.{Plain}
use Rattle.txf_laws.specs.Contents.{puts_some}
use Rattle.ktm_world.specs.Durable.{Durable}
use Rattle.ktm_world.specs.Tree.{bytes_of}
use Rattle.ktm_memory.specs.declared.extent.Extent.{Extent}
use Rattle.ktm_memory.specs.declared.extent.Extent.TheVariants.{Put as ByBytes, End}
use Rattle.ktm_memory.specs.Decided.{HoldsRecordOf}
use Rattle.ktm_memory.specs.Units.{CanBeRecorded, SuitsExtent, recorded_as}

-- one event is recorded of another
holds_one : (s : Durable) (state : EventsState) (recorded change : Change) → has_its_pages (size_before s.tree recorded) recorded ≡ true → puts_some recorded ≡ true → meant (size_before s.tree recorded) recorded ≡ change
    → Holds state (Plain recorded ∷ []) → HoldsRecordOf s state (Plain change ∷ [])
holds_one s state recorded change has some means holds = record {
  raw = Plain recorded ∷ [];
  holds = holds;
  is = subst (λ (c : Change). IsRecordOf s (Plain recorded ∷ []) (Plain c ∷ [])) means (plain-recorded s recorded has some);
}

-- a change that puts nothing and makes the file no longer is recorded as it is
pub as_it_is : (s : Durable) (state : EventsState) (c : Change) → CanBeRecorded (size_before s.tree c) c None → Holds state (Plain c ∷ []) → HoldsRecordOf s state (Plain c ∷ [])
as_it_is s state (Make node parent kind name) can holds = holds_one s state (Make node parent kind name) (Make node parent kind name) refl refl refl holds
as_it_is s state (Put node offset (Whole contents)) can holds = absurd can
as_it_is s state (Put node offset (Paged len pages)) can holds = absurd can
as_it_is s state (Cut node end pages) can holds =
    let size = length (bytes_of s.tree node) in
    let less : nat_lt size end ≡ false = le-ltb size end can.0 in
    subst (λ (ps : List ℕ). HoldsRecordOf s state (Plain (Cut node end ps) ∷ [])) (sym can.1)
    (holds_one s state (Cut node end []) (Cut node end []) (rw less refl) refl (rw less refl) (subst (λ (ps : List ℕ). Holds state (Plain (Cut node end ps) ∷ [])) can.1 holds))
as_it_is s state (Move node parent name) can holds = holds_one s state (Move node parent name) (Move node parent name) refl refl refl holds
as_it_is s state (Drop node) can holds = holds_one s state (Drop node) (Drop node) refl refl refl holds

-- units are recorded by their extent
by_extent : (s : Durable) (state : EventsState) (node start : ℕ) (contents pages : List ℕ) (extent : Extent) → LieOn pages contents → SuitsExtent (length (bytes_of s.tree node)) start contents extent
    → Holds state (Plain (recorded_as node start contents pages extent) ∷ []) → HoldsRecordOf s state (Plain (Put node start (Whole contents)) ∷ [])
by_extent s state node start contents pages (ByBytes offset len) lie suits holds =
    let means = put-meant (length (bytes_of s.tree node)) node offset len contents pages lie suits.fits (ap (λ (n : ℕ). n + length contents) suits.first ∙ suits.last) in
    holds_one s state (Put node offset (Paged len pages)) (Put node start (Whole contents)) means.0 (ap not (ne_eqb len 0 (λ none. let some = suits.some in omega (arith, none, some))))
    (means.1 ∙ ap (λ (n : ℕ). Put node n (Whole contents)) suits.first) holds
by_extent s state node start contents pages End lie suits holds =
    let means = grown-meant (length (bytes_of s.tree node)) node (start + length contents) contents pages lie suits.longer (ap (λ (n : ℕ). n + length contents) suits.first) in
    holds_one s state (Cut node (start + length contents) pages) (Put node start (Whole contents)) means.0 refl
    (means.1 ∙ ap (λ (n : ℕ). Put node n (Whole contents)) suits.first) holds

-- a put of units is recorded by the extent
pub put_recorded : (s : Durable) (state : EventsState) (node start : ℕ) (contents : List ℕ) (extent : Extent) → CanBeRecorded (size_before s.tree (Put node start (Whole contents))) (Put node start (Whole contents)) (Some extent)
    → (pages : List ℕ) × LieOn pages contents × Holds state (Plain (recorded_as node start contents pages extent) ∷ []) → HoldsRecordOf s state (Plain (Put node start (Whole contents)) ∷ [])
put_recorded s state node start contents extent can (pages, lie, holds) = by_extent s state node start contents pages extent lie can holds
