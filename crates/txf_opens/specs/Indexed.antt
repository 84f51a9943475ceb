-- How the maps from names stand to the open files. No public clause cites this module.
use Rattle.std.specs.Prelude.{◌≡◌, ℕ, ◌<◌, ◌≤◌, ◌^◌, ◌==◌, ◌&&◌, not, Bool, true, false, List, Some, None, count_by, map, min}
use Rattle.std.specs.List.{list_any}
use Rattle.ktm_base.specs.declared.id.Id.{Id}
use Rattle.ktm_world.specs.Conflicts.{lets_read, lets_write, reads, writes}
use Rattle.ktm_world.specs.Files.{OpenFile}
use Rattle.ktm_world.specs.Transactions.{is_of}
use Rattle.ktm_links.specs.declared.list.Key.{Key}
use Rattle.ktm_links.specs.Items.{Item, value_at}
use Rattle.ktm_links.specs.Mapped.{NamedItem, key_under}
use Rattle.ktm_links.specs.Indexed.{AreDistinct, IsFirstUnder}
use Rattle.txf_opens.specs.declared.file.OpenFile.{OpenFile as Kept}
use Rattle.txf_opens.specs.declared.uses.Uses.{Uses}
use Rattle.txf_opens.specs.Names.{number_name, group_name, use_name}
use Rattle.txf_opens.specs.Acts.{open_of}

-- the open file of an item
abbrev pub open_in : Item Kept → OpenFile
open_in item = open_of item.value

-- the open files alone
abbrev pub opens_of : List (Item Kept) → List OpenFile
opens_of items = map open_in items

-- a key is under a name of which this is so
abbrev pub HasUnder : (List ℕ → Type 0) → List (NamedItem Key) → Type 0
HasUnder P named = (key : Key) × IsFirstUnder P named key

-- the map has the key under the name now, where this is so, and is as it was otherwise
pub record Adds (is_so : Bool) (name : List ℕ) (key : Key) (old new : List (NamedItem Key)) : Type 0 where
  pub so : is_so ≡ true → key_under new name ≡ Some key
  pub not_so : is_so ≡ false → key_under new name ≡ key_under old name
  pub others : (q : List ℕ) → (q ≡ name → ⊥) → key_under new q ≡ key_under old q

-- the map has nothing under the name now, and is as it was otherwise
pub record Takes (name : List ℕ) (old new : List (NamedItem Key)) : Type 0 where
  pub gone : key_under new name ≡ None
  pub others : (q : List ℕ) → (q ≡ name → ⊥) → key_under new q ≡ key_under old q

-- the key of an open file of which this is so, and which has the name
pub record IsUnder (has : OpenFile → Bool) (name : OpenFile → List ℕ) (items : List (Item Kept)) (q : List ℕ) (key : Key) : Type 0 where
  pub file : Kept
  pub there : value_at items key ≡ Some file
  pub so : has (open_of file) ≡ true
  pub is : name (open_of file) ≡ q

-- the map has the key of each open file of which this is so under its name, and nothing else
pub record IsIndex (has : OpenFile → Bool) (name : OpenFile → List ℕ) (items : List (Item Kept)) (named : List (NamedItem Key)) : Type 0 where
  pub all : (key : Key) (file : Kept) → value_at items key ≡ Some file → has (open_of file) ≡ true → key_under named (name (open_of file)) ≡ Some key
  pub only : (q : List ℕ) (key : Key) → key_under named q ≡ Some key → IsUnder has name items q key

-- of each open file
abbrev pub is_any : OpenFile → Bool
is_any o = true

-- may it read
abbrev pub is_reader : OpenFile → Bool
is_reader o = reads o.access

-- may it write
abbrev pub is_writer : OpenFile → Bool
is_writer o = writes o.access

-- does it not let others read
abbrev pub is_denying_read : OpenFile → Bool
is_denying_read o = not (lets_read o.share)

-- does it not let others write
abbrev pub is_denying_write : OpenFile → Bool
is_denying_write o = not (lets_write o.share)

-- the four maps by what the files are open on stand for them
pub record AreUses (items : List (Item Kept)) (uses : Uses) : Type 0 where
  pub readers : IsIndex is_reader use_name items uses.readers.entries
  pub writers : IsIndex is_writer use_name items uses.writers.entries
  pub deny_read : IsIndex is_denying_read use_name items uses.deny_read.entries
  pub deny_write : IsIndex is_denying_write use_name items uses.deny_write.entries

-- how many open files can come without memory
abbrev pub uses_spare : Uses → ℕ
uses_spare uses = min uses.readers.spare (min uses.writers.spare (min uses.deny_read.spare uses.deny_write.spare))

-- the four maps have what they had
pub record AreSame (old new : Uses) : Type 0 where
  pub readers : new.readers.entries ≡ old.readers.entries
  pub writers : new.writers.entries ≡ old.writers.entries
  pub deny_read : new.deny_read.entries ≡ old.deny_read.entries
  pub deny_write : new.deny_write.entries ≡ old.deny_write.entries

-- the name is in none of the four maps
pub record IsFree (name : List ℕ) (uses : Uses) : Type 0 where
  pub readers : key_under uses.readers.entries name ≡ None
  pub writers : key_under uses.writers.entries name ≡ None
  pub deny_read : key_under uses.deny_read.entries name ≡ None
  pub deny_write : key_under uses.deny_write.entries name ≡ None

-- the four maps have the open file now
pub record AddsUse (o : OpenFile) (key : Key) (old new : Uses) : Type 0 where
  pub readers : Adds (is_reader o) (use_name o) key old.readers.entries new.readers.entries
  pub writers : Adds (is_writer o) (use_name o) key old.writers.entries new.writers.entries
  pub deny_read : Adds (is_denying_read o) (use_name o) key old.deny_read.entries new.deny_read.entries
  pub deny_write : Adds (is_denying_write o) (use_name o) key old.deny_write.entries new.deny_write.entries

-- the four maps have nothing under the name now
pub record TakesUse (name : List ℕ) (old new : Uses) : Type 0 where
  pub readers : Takes name old.readers.entries new.readers.entries
  pub writers : Takes name old.writers.entries new.writers.entries
  pub deny_read : Takes name old.deny_read.entries new.deny_read.entries
  pub deny_write : Takes name old.deny_write.entries new.deny_write.entries

-- the maps stand for the open files, whose numbers are not above the last one
pub record IsIndexed (items : List (Item Kept)) (numbers groups : List (NamedItem Key)) (uses : Uses) (last : ℕ) : Type 0 where
  pub by_number : IsIndex is_any number_name items numbers
  pub by_group : IsIndex is_any group_name items groups
  pub by_use : AreUses items uses
  pub distinct : AreDistinct items
  pub below : (key : Key) (file : Kept) → value_at items key ≡ Some file → file.number ≤ last
  pub small : last < 2 ^ 32

-- the number of an open file of the transaction, and of no other open file
pub record IsNumberOf (opens : List OpenFile) (transaction : Id) (number : ℕ) : Type 0 where
  pub there : list_any (λ o. o.number == number) opens ≡ true
  pub own : list_any (λ o. o.number == number && not (is_of transaction o.transaction)) opens ≡ false
  pub once : count_by (λ o. o.number == number) opens ≡ 1
