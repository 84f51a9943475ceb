-- Which things of a state have bytes.
use Rattle.std.specs.Prelude.{ℕ, ◌<◌, ◌^◌, List, length, All, IfSome}
use Rattle.ktm_content.specs.Contents.{units_of}
use Rattle.ktm_event.specs.Spelling.{IsSpellableId, IsSpellablePart, IsSpellableRecord}
use Rattle.ktm_keyed.specs.declared.keyed.Keyed.{Keyed}
use Rattle.ktm_world.specs.declared.recorded.Node.{Node}
use Rattle.ktm_world.specs.declared.recorded.RecordedPart.{RecordedPart}
use Rattle.ktm_world.specs.Values.{IsText}
use Rattle.ktm_world.specs.Durable.{Durable, Recorded}

-- the length of a node's name fits one byte, and the count of a file's units four
pub record IsSpellableNode (node : Node) : Type 0 where
  pub name : length node.name < 2 ^ 8
  pub contents : IfSome node.content (λ contents. units_of contents < 2 ^ 32)

-- a committed key is a text whose length fits one byte, and the length of its value fits two
pub record IsSpellableEntry (entry : Keyed (List ℕ)) : Type 0 where
  pub text : IsText entry.key
  pub key : length entry.key < 2 ^ 8
  pub value : length entry.value < 2 ^ 16

-- the count of things fits four bytes, and each of them has bytes
pub record AreSpellable {X : Type 0} (Has : X → Type 0) (xs : List X) : Type 0 where
  pub few : length xs < 2 ^ 32
  pub each : All Has xs

-- the part of a transaction has bytes
abbrev pub IsSpellableMarked : RecordedPart → Type 0
IsSpellableMarked p = IsSpellablePart p.part

-- a transaction has bytes, with its superior and its parts
pub record IsSpellableTransaction (t : Recorded) : Type 0 where
  pub id : IsSpellableId t.id
  pub superior : IfSome t.superior (λ s. IsSpellableRecord s.enlistment s.manager s.information)
  pub parts : AreSpellable IsSpellableMarked t.parts

-- each thing of a state has bytes
pub record IsSpellableState (s : Durable) : Type 0 where
  pub nodes : AreSpellable IsSpellableNode s.tree
  pub entries : AreSpellable IsSpellableEntry s.keys
  pub managers : AreSpellable IsSpellableId s.managers
  pub transactions : AreSpellable IsSpellableTransaction s.transactions
