-- Changes as they are recorded: contents stand on pages.
use Rattle.std.specs.Prelude.{◌≡◌, ℕ, ◌<◌, ◌^◌, All, List, [], ◌∷◌, length}
use Rattle.ktm_content.specs.Places.{LieOn}
use Rattle.ktm_world.specs.declared.change.Change.{Change}
use Rattle.ktm_world.specs.declared.change.Change.TheVariants.{Put}
use Rattle.ktm_world.specs.declared.change.Contents.{Contents}
use Rattle.ktm_world.specs.declared.change.Contents.TheVariants.{Whole, Paged}

-- each thing of one list is so to that of the other, and there are as many
abbrev pub AreEach : {X : Type 0} → (X → X → Type 0) → List X → List X → Type 0
AreEach Is [] [] = Unit {0}
AreEach Is (x ∷ xs) (y ∷ ys) = Is x y × AreEach Is xs ys
AreEach Is _ _ = ⊥

-- the contents lie on these pages
pub record AreOnPages (contents : List ℕ) (len : ℕ) (pages : List ℕ) : Type 0 where
  pub long : len ≡ length contents
  pub lie : LieOn pages contents
  pub fit : All (λ page. page < 2 ^ 32) pages

-- contents as they are recorded: how many bytes there are, and the pages
abbrev pub AreRecordedContents : Contents → Contents → Type 0
AreRecordedContents (Whole contents) (Paged len pages) = AreOnPages contents len pages
AreRecordedContents _ _ = ⊥

-- a change as it is recorded, which is another one where it puts contents
abbrev pub IsRecordedChange : Change → Change → Type 0
IsRecordedChange (Put node offset contents) (Put node' offset' contents') = (node' ≡ node) × (offset' ≡ offset) × AreRecordedContents contents contents'
IsRecordedChange (Put node offset contents) recorded = ⊥
IsRecordedChange change recorded = recorded ≡ change
