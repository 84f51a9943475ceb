-- The bytes of a state are as many as are counted for it.
use Rattle.std.proofs.Common.{◌≡◌, ℕ, ◌+◌, ◌*◌, Bool, true, false, Option, Some, None, List, [], ◌∷◌, length, sum_by, refl, sym, ◌∙◌, ap, arith}
use Rattle.std.proofs.lemmas.List.Sums.{sum_by-cons}
use Rattle.ktm_base.specs.declared.id.Id.{Id}
use Rattle.ktm_content.specs.Contents.{units_of}
use Rattle.ktm_base.specs.Grammar.{IsU32, IsU64, Then, IsListOf}
use Rattle.ktm_event.proofs.GroupSizes.{length-then, length-tagged, length-row, length-list, length-id, length-text, length-record, length-part}
use Rattle.ktm_keyed.specs.declared.keyed.Keyed.{Keyed}
use Rattle.ktm_world.specs.EventGrammar.{IsIdOf}
use Rattle.ktm_world.specs.Sizes.{part_size, record_size}
use Rattle.ktm_world.specs.declared.event.Part.{Part}
use Rattle.ktm_world.specs.declared.recorded.Node.{Node}
use Rattle.ktm_world.specs.declared.recorded.RecordedPart.{RecordedPart}
use Rattle.ktm_world.specs.declared.recorded.Stage.{Stage}
use Rattle.ktm_world.specs.declared.recorded.Stage.TheVariants.{Ready, Held, Decided}
use Rattle.ktm_world.specs.declared.recorded.Superior.{Superior}
use Rattle.ktm_world.specs.Durable.{Recorded}
use Rattle.ktm_snapshot.proofs.Placed.{size-part}
use Rattle.ktm_snapshot.specs.Laws.{StateHasItsSize}
use Rattle.ktm_snapshot.specs.Sizes.{contents_size, node_size, entry_size, superior_size, marked_size, start_size, transaction_size}
use Rattle.ktm_snapshot.specs.StateGrammar.{IsHeadOf, IsContentsOf, IsNamedOf, IsNodeOf, IsEntryOf, IsStageOf, IsSuperiorOf, IsMarkOf, IsPlacedPartOf, IsMarkedOf, IsStartOf, IsTransactionOf, head_of}
use Rattle.ktm_snapshot.specs.declared.head.StateHead.{StateHead}

length-head : (head : StateHead) (bytes : List ℕ) → IsHeadOf head bytes → length bytes ≡ 20
length-head head bytes is =
    length-then 8 12 _ _ bytes (λ number eight. eight.long) (λ rest more. length-then 4 8 _ _ rest (λ number four. four.long) (λ number eight. eight.long) more) is

length-counted : (count : ℕ) (Count : List ℕ → Type 0) (value bytes : List ℕ) → ((first : List ℕ) → Count first → length first ≡ count) → Then Count (λ rest. rest ≡ value) bytes
    → length bytes ≡ count + length value
length-counted count Count value bytes sized is = length-then count (length value) Count (λ rest. rest ≡ value) bytes sized (λ second same. ap length same) is

-- numbers take four bytes each
fours : (pages : List ℕ) → sum_by (λ (page : ℕ). 4) pages ≡ 4 * length pages
fours [] = refl
fours (page ∷ pages) = sum_by-cons (λ (p : ℕ). 4) page pages ∙ (let rest = fours pages in omega arith)

length-contents : (contents bytes : List ℕ) → IsContentsOf contents bytes → length bytes ≡ 12 + 4 * units_of contents
length-contents contents bytes is =
    length-then 8 (4 + 4 * length is.pages) (IsU64 (length contents)) (IsListOf IsU32 is.pages) bytes (λ number eight. eight.long)
    (λ second listed. length-list IsU32 (λ (page : ℕ). 4) (λ page number four. four.long) is.pages second listed ∙ ap (λ n. 4 + n) (fours is.pages)) is.spelled
    ∙ (let units = is.lie.units in omega (arith, units))

length-named : (name : List ℕ) (content : Option (List ℕ)) (bytes : List ℕ) → IsNamedOf name content bytes → length bytes ≡ 2 + length name + contents_size content
length-named name (Some contents) bytes is =
    length-tagged 0 (13 + length name + 4 * units_of contents) _ bytes
    (λ rest fields. length-then (1 + length name) (12 + 4 * units_of contents) _ _ rest (length-text name) (length-contents contents) fields ∙ omega arith) is
    ∙ omega arith
length-named name None bytes is = length-tagged 1 (1 + length name) _ bytes (length-text name) is ∙ omega arith

length-node : (node : Node) (bytes : List ℕ) → IsNodeOf node bytes → length bytes ≡ node_size node
length-node node bytes is =
    length-then 8 (10 + length node.name + contents_size node.content) _ _ bytes (λ number eight. eight.long)
    (λ rest more. length-then 8 (2 + length node.name + contents_size node.content) _ _ rest (λ number eight. eight.long) (length-named node.name node.content) more ∙ omega arith) is
    ∙ omega arith

length-entry : (entry : Keyed (List ℕ)) (bytes : List ℕ) → IsEntryOf entry bytes → length bytes ≡ entry_size entry
length-entry entry bytes is =
    length-then (1 + length entry.key) (2 + length entry.value) _ _ bytes (length-text entry.key) (λ second more. length-counted 2 _ entry.value second (λ number two. two.long) more) is.parts
    ∙ omega arith

length-stage : (stage : Stage) (bytes : List ℕ) → IsStageOf stage bytes → length bytes ≡ 1
length-stage Ready bytes is = ap length is.value
length-stage Held bytes is = ap length is.value
length-stage Decided bytes is = ap length is.value

length-superior : (superior : Option Superior) (bytes : List ℕ) → IsSuperiorOf superior bytes → length bytes ≡ superior_size superior
length-superior None bytes is = length-tagged 0 0 (λ rest. rest ≡ []) bytes (λ rest none. ap length none) is
length-superior (Some s) bytes is = length-tagged 1 (record_size s.information) _ bytes (length-record s.enlistment s.manager s.information) is

length-mark : (mark : Bool) (bytes : List ℕ) → IsMarkOf mark bytes → length bytes ≡ 1
length-mark false bytes is = ap length is.value
length-mark true bytes is = ap length is.value

length-placed : (part : Part) (bytes : List ℕ) → IsPlacedPartOf part bytes → length bytes ≡ part_size part
length-placed part bytes is = length-part is.recorded bytes is.spelled ∙ sym (size-part is.recorded is.work) ∙ ap part_size (sym is.placed)

length-marked : (part : RecordedPart) (bytes : List ℕ) → IsMarkedOf part bytes → length bytes ≡ marked_size part
length-marked part bytes is = length-then 1 (part_size part.part) _ _ bytes (length-mark part.is_done) (length-placed part.part) is

length-start : (id : Id) (stage : Stage) (superior : Option Superior) (count : ℕ) (bytes : List ℕ) → IsStartOf id stage superior count bytes → length bytes ≡ start_size superior
length-start id stage superior count bytes is =
    length-then 8 (5 + superior_size superior) _ _ bytes (length-id id)
    (λ rest more. length-then 1 (4 + superior_size superior) _ _ rest (length-stage stage)
    (λ third last. length-then (superior_size superior) 4 _ _ third (length-superior superior) (λ number four. four.long) last ∙ omega arith) more ∙ omega arith) is
    ∙ omega arith

length-transaction : (t : Recorded) (bytes : List ℕ) → IsTransactionOf t bytes → length bytes ≡ transaction_size t
length-transaction t bytes is =
    length-then (start_size t.superior) (sum_by marked_size t.parts) _ _ bytes (length-start t.id t.stage t.superior (length t.parts)) (length-row _ marked_size length-marked t.parts) is

-- Ids take eight bytes each
eights : (ids : List Id) → sum_by (λ (id : Id). 8) ids ≡ 8 * length ids
eights [] = refl
eights (id ∷ ids) = sum_by-cons (λ (i : Id). 8) id ids ∙ (let rest = eights ids in omega arith)

length-managers : (ids : List Id) (bytes : List ℕ) → IsListOf IsIdOf ids bytes → length bytes ≡ 4 + 8 * length ids
length-managers ids bytes is = length-list IsIdOf (λ (id : Id). 8) length-id ids bytes is ∙ ap (λ n. 4 + n) (eights ids)

pub state_sized : StateHasItsSize
state_sized s bytes is =
    length-then (32 + sum_by node_size s.tree + sum_by entry_size s.keys + 8 * length s.managers) (4 + sum_by transaction_size s.transactions) _ _ bytes
    (λ managers upto. length-then (28 + sum_by node_size s.tree + sum_by entry_size s.keys) (4 + 8 * length s.managers) _ _ managers
    (λ entries upto'. length-then (24 + sum_by node_size s.tree) (4 + sum_by entry_size s.keys) _ _ entries
    (λ nodes upto''. length-then 20 (4 + sum_by node_size s.tree) _ _ nodes (length-head (head_of s)) (λ part p. length-list _ node_size length-node s.tree part p.listed) upto'' ∙ omega arith)
    (λ part p. length-list _ entry_size length-entry s.keys part p.listed) upto' ∙ omega arith)
    (λ part p. length-managers s.managers part p.listed) upto ∙ omega arith)
    (λ part p. length-list _ transaction_size length-transaction s.transactions part p.listed) is.spelled
    ∙ omega arith
