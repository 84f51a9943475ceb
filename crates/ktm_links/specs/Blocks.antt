-- How blocks of keys stand for one list of keys. No public clause cites this module.
use Rattle.std.specs.Prelude.{◌≡◌, ◌⊎◌, ℕ, ◌+◌, ◌*◌, ◌<◌, ◌≤◌, List, [], ◌∷◌, ◌++◌, length, get_or, set, take, refl, Option, Some, None, Result, Ok, Err}
use Rattle.std.specs.Coded.{Coded, code_by, coded×, coded_ℕ, coded_list}
use Rattle.std.specs.List.{flat_map, remove}
use Rattle.ktm_links.specs.declared.list.Key.{Key}
use Rattle.ktm_links.specs.declared.block.Spot.{Spot}

-- the keys of each block, and how many keys there can be without memory
pub record Blocks : Type 0 where
  pub blocks : List (List Key)
  pub capacity : ℕ

-- how a key is told by numbers
abbrev pub key_code : Coded Key
key_code =
    code_by (ℕ × ℕ) (coded× coded_ℕ coded_ℕ) (λ k. (k.place, k.generation)) (λ p. record { place = p.0; generation = p.1 }) (λ _. refl)

-- how blocks are told by numbers
abbrev pub blocks_code : Coded Blocks
blocks_code =
    code_by
    (List (List Key) × ℕ)
    (coded× (coded_list (coded_list key_code)) coded_ℕ)
    (λ b. (b.blocks, b.capacity))
    (λ p. record { blocks = p.0; capacity = p.1 })
    (λ _. refl)

-- the keys of all blocks, one after another
abbrev pub flat : List (List Key) → List Key
flat = flat_map (λ keys. keys)

-- the keys of the block at this place
abbrev pub block_at : List (List Key) → ℕ → List Key
block_at blocks i = get_or blocks i []

-- which of all keys stands there
abbrev pub index_of : List (List Key) → Spot → ℕ
index_of blocks spot = length (flat (take spot.block blocks)) + spot.place

-- what a search found, told by which of all keys it is
abbrev pub index_in : List (List Key) → Result Spot Spot → Result ℕ ℕ
index_in blocks (Ok spot) = Ok (index_of blocks spot)
index_in blocks (Err spot) = Err (index_of blocks spot)

-- a key stands there
pub record IsSpot (blocks : List (List Key)) (spot : Spot) : Type 0 where
  pub block : spot.block < length blocks
  pub place : spot.place < length (block_at blocks spot.block)

-- a key can be put in there without a new block
pub record IsRoom (blocks : List (List Key)) (spot : Spot) : Type 0 where
  pub block : spot.block < length blocks
  pub place : spot.place ≤ length (block_at blocks spot.block)
  pub room : length (block_at blocks spot.block) < 32

-- a key stands there, or it is the end, which is behind the last block where that is full
pub record IsGap (blocks : List (List Key)) (spot : Spot) : Type 0 where
  pub block : spot.block ≤ length blocks
  pub place : spot.place ≤ length (block_at blocks spot.block)
  pub here : (spot.place < length (block_at blocks spot.block)) ⊎ (index_of blocks spot ≡ length (flat blocks))
  pub behind : spot.block ≡ length blocks → (last : ℕ) → last + 1 ≡ length blocks → 32 ≤ length (block_at blocks last)

-- each block has a key
abbrev pub AreUsed : List (List Key) → Type 0
AreUsed [] = Unit {0}
AreUsed (keys ∷ blocks) = (0 < length keys) × AreUsed blocks

-- the block and the one behind it have more keys together than half a block
abbrev pub IsPaired : List Key → List (List Key) → Type 0
IsPaired keys [] = Unit {0}
IsPaired keys (next ∷ blocks) = 16 < length keys + length next

-- each block and the one behind it have more keys together than half a block
abbrev pub ArePaired : List (List Key) → Type 0
ArePaired [] = Unit {0}
ArePaired (keys ∷ blocks) = IsPaired keys blocks × ArePaired blocks

-- the blocks, once the keys of the one behind this stand in this one too
abbrev pub joined : List (List Key) → ℕ → List (List Key)
joined blocks i = remove (set blocks i (block_at blocks i ++ block_at blocks (i + 1))) (i + 1)

-- a block has a key, and with each neighbour more than half a block
pub record IsSettled (blocks : List (List Key)) (i : ℕ) : Type 0 where
  pub some : 0 < length (block_at blocks i)
  pub next : i + 1 < length blocks → 16 < length (block_at blocks i) + length (block_at blocks (i + 1))
  pub before : (j : ℕ) → j + 1 ≡ i → 16 < length (block_at blocks j) + length (block_at blocks i)

-- a block was joined with a neighbour, or had no key and was taken out
abbrev pub HasJoined : List (List Key) → List (List Key) → ℕ → Type 0
HasJoined old new i =
    ((j : ℕ) × ((j ≡ i) ⊎ (j + 1 ≡ i)) × (j + 1 < length old) × (new ≡ joined old j))
    ⊎ ((length (block_at old i) ≤ 0) × (new ≡ remove old i))

-- a block that lost a key stays, or there is one block less, which has no key
abbrev pub Settles : List (List Key) → List (List Key) → ℕ → Option (List Key) → Type 0
Settles old new i None = (new ≡ old) × IsSettled old i
Settles old new i (Some freed) = (freed ≡ []) × HasJoined old new i

-- no block has a key
abbrev pub AreFree : List (List Key) → Type 0
AreFree [] = Unit {0}
AreFree (keys ∷ blocks) = (keys ≡ []) × AreFree blocks

-- the blocks in use and the stock, in room for all of them; each block lets eight keys come
pub record AreBlocks (blocks stock : List (List Key)) (blocks_room stock_room len capacity : ℕ) : Type 0 where
  pub used : AreUsed blocks
  pub paired : ArePaired blocks
  pub free : AreFree stock
  pub blocks_fit : length blocks + length stock ≤ blocks_room
  pub stock_fits : length blocks + length stock ≤ stock_room
  pub count : len ≡ length (flat blocks)
  pub eight : capacity ≡ 8 * (length blocks + length stock)
  pub enough : len ≤ capacity
