-- Bytes in the place of bytes in the place of places.
use Rattle.std.proofs.Common.{◌≡◌, ℕ, List, [], ◌∷◌, map, Option, Some, None, refl, ap}
use Rattle.ktm_world.specs.declared.change.Change.{Change}
use Rattle.ktm_world.specs.declared.change.Change.TheVariants.{Make, Put, Cut, Move, Drop}
use Rattle.ktm_world.specs.declared.change.Contents.TheVariants.{Whole, Paged}
use Rattle.ktm_world.specs.declared.event.Part.{Part}
use Rattle.ktm_world.specs.declared.event.Part.TheVariants.{Enlistment, Changes, Settings}
use Rattle.ktm_world.specs.declared.recorded.Node.{Node}
use Rattle.ktm_world.specs.declared.recorded.RecordedPart.{RecordedPart}
use Rattle.ktm_world.specs.Durable.{Durable, Recorded}
use Rattle.ktm_world.specs.Files.{FilesNow, FirstOpen, OwnChanges}
use Rattle.ktm_mapped.specs.Mapped.{mapped_change, mapped_content, mapped_durable, mapped_node, mapped_part, mapped_recorded, mapped_recorded_part}
use Rattle.ktm_alike.specs.Alike.{mapped_files, mapped_first, mapped_own, mapped_present}
use Rattle.ktm_world.specs.Present.{Present}

map-twice : {X : Type 0} (f g : X → X) → ((x : X) → g (f x) ≡ g x) → (xs : List X) → map g (map f xs) ≡ map g xs
map-twice f g same [] = refl
map-twice f g same (x ∷ xs) = λ i. same x i ∷ map-twice f g same xs i

module _ (f g : ℕ → ℕ) (same : (byte : ℕ) → g (f byte) ≡ g byte) where
  bytes-twice : (bytes : List ℕ) → map g (map f bytes) ≡ map g bytes
  bytes-twice bytes = map-twice f g same bytes

  content-twice : (content : Option (List ℕ)) → mapped_content g (mapped_content f content) ≡ mapped_content g content
  content-twice None = refl
  content-twice (Some bytes) = ap Some (bytes-twice bytes)

  node-twice : (node : Node) → mapped_node g (mapped_node f node) ≡ mapped_node g node
  node-twice node = λ i. record node { content = content-twice node.content i }

  change-twice : (c : Change) → mapped_change g (mapped_change f c) ≡ mapped_change g c
  change-twice (Make node parent kind name) = refl
  change-twice (Put node offset (Whole bytes)) = λ i. Put node offset (Whole (bytes-twice bytes i))
  change-twice (Put node offset (Paged len pages)) = refl
  change-twice (Cut node size pages) = refl
  change-twice (Move node parent name) = refl
  change-twice (Drop node) = refl

  part-twice : (part : Part) → mapped_part g (mapped_part f part) ≡ mapped_part g part
  part-twice (Enlistment enlistment manager information) = refl
  part-twice (Changes cs) = ap Changes (map-twice (mapped_change f) (mapped_change g) change-twice cs)
  part-twice (Settings settings) = refl

  one-twice : (p : RecordedPart) → mapped_recorded_part g (mapped_recorded_part f p) ≡ mapped_recorded_part g p
  one-twice p = λ i. record p { part = part-twice p.part i }

  recorded-twice : (t : Recorded) → mapped_recorded g (mapped_recorded f t) ≡ mapped_recorded g t
  recorded-twice t = λ i. record t { parts = map-twice (mapped_recorded_part f) (mapped_recorded_part g) one-twice t.parts i }

  durable-twice : (s : Durable) → mapped_durable g (mapped_durable f s) ≡ mapped_durable g s
  durable-twice s = λ i. record s { tree = map-twice (mapped_node f) (mapped_node g) node-twice s.tree i; transactions = map-twice (mapped_recorded f) (mapped_recorded g) recorded-twice s.transactions i }

  own-twice : (o : OwnChanges) → mapped_own g (mapped_own f o) ≡ mapped_own g o
  own-twice o = λ i. record o { changes = map-twice (mapped_change f) (mapped_change g) change-twice o.changes i }

  first-twice : (o : FirstOpen) → mapped_first g (mapped_first f o) ≡ mapped_first g o
  first-twice o = λ i. record o { bytes = bytes-twice o.bytes i }

  files-twice : (files : FilesNow) → mapped_files g (mapped_files f files) ≡ mapped_files g files
  files-twice files = λ i. record files {
    tree = map-twice (mapped_node f) (mapped_node g) node-twice files.tree i;
    first_opens = map-twice (mapped_first f) (mapped_first g) first-twice files.first_opens i;
    table = record files.table { own = map-twice (mapped_own f) (mapped_own g) own-twice files.table.own i };
  }

  pub present-twice : (x : Present) → mapped_present g (mapped_present f x) ≡ mapped_present g x
  present-twice x = λ i. record x { recorded = durable-twice x.recorded i; files = files-twice x.files i }
