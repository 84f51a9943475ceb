-- What is so is the same with either of two bytes in the place of each place.
use Rattle.std.proofs.Common.{◌≡◌, ℕ, suc, get_or, List, [], ◌∷◌, map, Option, Some, None, All, refl, ap}
use Rattle.std.proofs.lemmas.List.Elements.{All-head, All-tail}
use Rattle.ktm_world.specs.declared.change.Change.{Change}
use Rattle.ktm_world.specs.declared.change.Change.TheVariants.{Make, Put, Cut, Move, Drop}
use Rattle.ktm_world.specs.declared.change.Contents.TheVariants.{Whole, Paged}
use Rattle.ktm_world.specs.declared.event.Part.{Part}
use Rattle.ktm_world.specs.declared.event.Part.TheVariants.{Enlistment, Changes, Settings}
use Rattle.ktm_world.specs.declared.recorded.Node.{Node}
use Rattle.ktm_world.specs.declared.recorded.RecordedPart.{RecordedPart}
use Rattle.ktm_world.specs.Durable.{Durable, Recorded}
use Rattle.ktm_world.specs.Files.{FilesNow, FirstOpen, OwnChanges}
use Rattle.ktm_world.specs.Tree.{bytes_or_none}
use Rattle.ktm_mapped.specs.Mapped.{mapped_change, mapped_content, mapped_durable, mapped_node, mapped_part, mapped_recorded, mapped_recorded_part}
use Rattle.ktm_alike.specs.Alike.{mapped_files, mapped_first, mapped_own}
use Rattle.ktm_each.specs.Each.{EachFrom, EachOfChange, EachOfDurable, EachOfFiles, EachOfFirst, EachOfNode, EachOfOwn, EachOfPart, EachOfRecorded}
use Rattle.ktm_units.specs.Units.{Agree, SeenLaw}

map-each : {X Y : Type 0} (f g : X → Y) (xs : List X) → All (λ x. f x ≡ g x) xs → map f xs ≡ map g xs
map-each f g [] same = refl
map-each f g (x ∷ xs) same = λ i. All-head (λ x. f x ≡ g x) x xs same i ∷ map-each f g xs (All-tail (λ x. f x ≡ g x) x xs same) i

module _ (f g : ℕ → ℕ) where
  bytes-same : (file from : ℕ) (bytes : List ℕ) → EachFrom (Agree f g file) from bytes → map f bytes ≡ map g bytes
  bytes-same file from [] same = refl
  bytes-same file from (b ∷ bs) same = λ i. same.0 i ∷ bytes-same file (suc from) bs same.1 i

  content-same : (file : ℕ) (content : Option (List ℕ)) → EachFrom (Agree f g file) 0 (bytes_or_none content) → mapped_content f content ≡ mapped_content g content
  content-same file None same = refl
  content-same file (Some bytes) same = ap Some (bytes-same file 0 bytes same)

  node-same : (node : Node) → EachOfNode (Agree f g) node → mapped_node f node ≡ mapped_node g node
  node-same node same = λ i. record node { content = content-same node.number node.content same i }

  change-same : (c : Change) → EachOfChange (Agree f g) c → mapped_change f c ≡ mapped_change g c
  change-same (Make node parent kind name) same = refl
  change-same (Put node offset (Whole bytes)) same = λ i. Put node offset (Whole (bytes-same node offset bytes same i))
  change-same (Put node offset (Paged len pages)) same = refl
  change-same (Cut node size pages) same = refl
  change-same (Move node parent name) same = refl
  change-same (Drop node) same = refl

  -- ---- what is recorded

  part-same : (part : Part) → EachOfPart (Agree f g) part → mapped_part f part ≡ mapped_part g part
  part-same (Enlistment enlistment manager information) same = refl
  part-same (Changes cs) same = ap Changes (map-each (mapped_change f) (mapped_change g) cs (λ k d low. change-same (get_or cs k d) (same k d low)))
  part-same (Settings settings) same = refl

  one-part : (p : RecordedPart) → EachOfPart (Agree f g) p.part → mapped_recorded_part f p ≡ mapped_recorded_part g p
  one-part p is = λ i. record p { part = part-same p.part is i }

  recorded-same : (t : Recorded) → EachOfRecorded (Agree f g) t → mapped_recorded f t ≡ mapped_recorded g t
  recorded-same t same = λ i. record t { parts = map-each (mapped_recorded_part f) (mapped_recorded_part g) t.parts (λ k d low. one-part (get_or t.parts k d) (same k d low)) i }

  durable-same : (s : Durable) → EachOfDurable (Agree f g) s → mapped_durable f s ≡ mapped_durable g s
  durable-same s same = λ i. record s {
    tree = map-each (mapped_node f) (mapped_node g) s.tree (λ k d low. node-same (get_or s.tree k d) (same.tree k d low)) i;
    transactions = map-each (mapped_recorded f) (mapped_recorded g) s.transactions (λ k d low. recorded-same (get_or s.transactions k d) (same.transactions k d low)) i;
  }

  -- ---- the files now

  own-same : (o : OwnChanges) → EachOfOwn (Agree f g) o → mapped_own f o ≡ mapped_own g o
  own-same o same = λ i. record o { changes = map-each (mapped_change f) (mapped_change g) o.changes (λ k d low. change-same (get_or o.changes k d) (same k d low)) i }

  first-same : (o : FirstOpen) → EachOfFirst (Agree f g) o → mapped_first f o ≡ mapped_first g o
  first-same o same = λ i. record o { bytes = bytes-same o.file 0 o.bytes same i }

  files-same : (files : FilesNow) → EachOfFiles (Agree f g) files → mapped_files f files ≡ mapped_files g files
  files-same files same = λ i. record files {
    tree = map-each (mapped_node f) (mapped_node g) files.tree (λ k d low. node-same (get_or files.tree k d) (same.tree k d low)) i;
    first_opens = map-each (mapped_first f) (mapped_first g) files.first_opens (λ k d low. first-same (get_or files.first_opens k d) (same.first_opens k d low)) i;
    table = record files.table { own = map-each (mapped_own f) (mapped_own g) files.table.own (λ k d low. own-same (get_or files.table.own k d) (same.own k d low)) i };
  }

pub seen_law : SeenLaw
seen_law f g x files recorded = λ i. record x { recorded = durable-same f g x.recorded recorded i; files = files-same f g x.files files i }
