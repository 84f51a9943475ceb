-- Which unit of which file each page of an image holds, while the image is read.
use Rattle.std.specs.Prelude.{◌≡◌, ℕ, ◌+◌, ◌-◌, ◌*◌, ◌/◌, ◌%◌, ◌<◌, ◌==◌, ◌&&◌, ◌||◌, not, Bool, true, false, nat_lt, List, [], ◌∷◌, ◌++◌, length, get_or, slice_index, slice_set, All, ⊤, Option, Some, None, if◌then◌else◌}
use Rattle.std.specs.List.{list_any}
use Rattle.ktm_base.specs.declared.limits.TheConstants.{UNIT_BYTES}
use Rattle.ktm_content.specs.Places.{LieOn}
use Rattle.ktm_each.specs.Each.{EachOfDurable}
use Rattle.ktm_owners.specs.declared.owners.Named.{Named}
use Rattle.ktm_owners.specs.declared.owners.Owner.{Owner}
use Rattle.ktm_paged.specs.Paged.{IsOwned, page_at}
use Rattle.ktm_world.specs.declared.change.Change.{Change}
use Rattle.ktm_world.specs.declared.change.Change.TheVariants.{Put}
use Rattle.ktm_world.specs.declared.recorded.Node.{Node}
use Rattle.ktm_world.specs.declared.recorded.RecordedPart.{RecordedPart}
use Rattle.ktm_world.specs.Changes.{bytes_in}
use Rattle.ktm_world.specs.Durable.{Durable, Recorded, changes_in}
use Rattle.ktm_world.specs.Tree.{bytes_of, bytes_or_none}

-- ---- owners

-- the owner of each page, and what is named, page by page
pub record OwnersState : Type 0 where
  pub owners : List Owner
  pub named : List Named

-- no unit that a file has
abbrev pub no_owner : Owner
no_owner = record { node = 0; unit = 0 }

-- the owner of a page
abbrev pub owner_at : List Owner → ℕ → Owner
owner_at owners page = get_or owners page no_owner

-- are both the same unit of the same file
abbrev pub is_same_unit : Owner → Owner → Bool
is_same_unit a b = (a.node == b.node) && (a.unit == b.unit)

-- the byte at a place by the owner of its page: its file, and its index there
abbrev pub byte_with : List Owner → ℕ → ℕ × ℕ
byte_with owners place = ((owner_at owners (page_at place)).node, (owner_at owners (page_at place)).unit * UNIT_BYTES + (place - 1) % UNIT_BYTES)

-- each place of the state has the byte by the owner of its page
abbrev pub AreOwnersOf : List Owner → Durable → Type 0
AreOwnersOf owners s = EachOfDurable (IsOwned (byte_with owners)) s

-- ---- what the state has of it

-- does this unit of the contents lie on this page
abbrev pub has_unit : List ℕ → ℕ → ℕ → Bool
has_unit contents unit page = nat_lt (unit * UNIT_BYTES) (length contents) && (slice_index contents (unit * UNIT_BYTES) == page * UNIT_BYTES + 1)

-- does the change put this unit on this page, into a file that is cut to nothing before
abbrev pub puts_unit : Owner → ℕ → Change → Bool
puts_unit owner page (Put node offset contents) = (node == owner.node) && (offset == 0) && has_unit (bytes_in contents) owner.unit page
puts_unit owner page _ = false

-- does a part of the transaction put this unit on this page
abbrev pub parts_put : Owner → ℕ → Recorded → Bool
parts_put owner page t = list_any (λ (part : RecordedPart). list_any (puts_unit owner page) (changes_in part.part)) t.parts

-- does the owner's unit lie on this page still: as it is committed, or as a transaction puts it that waits
abbrev pub is_still_on : Durable → Owner → ℕ → Bool
is_still_on s owner page = has_unit (bytes_of s.tree owner.node) owner.unit page || list_any (parts_put owner page) s.transactions

-- ---- what is named

-- the pages of contents, from this unit of their file on
abbrev pub named_from : Owner → List ℕ → List Named
named_from owner [] = []
named_from owner (page ∷ pages) = record { page = page; owner = owner } ∷ named_from (record owner { unit = owner.unit + 1 }) pages

-- what each one names, one behind another
abbrev pub AreNamedInTurn : {X : Type 0} → (X → List Named → Type 0) → List X → List Named → Type 0
AreNamedInTurn IsNamed [] names = names ≡ []
AreNamedInTurn IsNamed (x ∷ xs) names = (first : List Named) × (rest : List Named) × IsNamed x first × AreNamedInTurn IsNamed xs rest × (names ≡ first ++ rest)

-- these are the pages that a change puts
abbrev pub AreNamedBy : Change → List Named → Type 0
AreNamedBy (Put node offset contents) names =
    (pages : List ℕ) × LieOn pages (bytes_in contents) × (names ≡ named_from (record { node = node; unit = offset / UNIT_BYTES }) pages)
AreNamedBy change names = names ≡ []

-- these are the pages that changes put, one behind another
abbrev pub AreAllNamedBy : List Change → List Named → Type 0
AreAllNamedBy changes names = AreNamedInTurn AreNamedBy changes names

-- these are the pages of a file; a directory has none
abbrev pub AreNamedByFile : Node → List Named → Type 0
AreNamedByFile node names = (pages : List ℕ) × LieOn pages (bytes_or_none node.content) × (names ≡ named_from (record { node = node.number; unit = 0 }) pages)

-- these are the pages that a part puts
abbrev pub AreNamedByPart : RecordedPart → List Named → Type 0
AreNamedByPart part names = AreAllNamedBy (changes_in part.part) names

-- these are the pages that a transaction puts
abbrev pub AreNamedByParts : Recorded → List Named → Type 0
AreNamedByParts t names = AreNamedInTurn AreNamedByPart t.parts names

-- these are all pages of a state
pub record AreNamedByState (s : Durable) (names : List Named) : Type 0 where
  pub files : List Named
  pub works : List Named
  pub of_files : AreNamedInTurn AreNamedByFile s.tree files
  pub of_works : AreNamedInTurn AreNamedByParts s.transactions works
  pub is : names ≡ files ++ works

-- bytes are put from the begin of a unit on
abbrev pub BeginsUnit : Change → Type 0
BeginsUnit (Put node offset contents) = offset % UNIT_BYTES ≡ 0
BeginsUnit change = ⊤

-- each name has a page that is there
abbrev pub AreThere : ℕ → List Named → Type 0
AreThere count names = All (λ (name : Named). name.page < count) names

-- ---- pages that are given

-- does no other unit of this state lie on the page still
abbrev pub may_give : Durable → List Owner → Named → Bool
may_give s owners name = is_same_unit (owner_at owners name.page) name.owner || not (is_still_on s (owner_at owners name.page) name.page)

-- the owners once all that are named have their pages, if they may
abbrev pub all_given : Durable → List Owner → List Named → Option (List Owner)
all_given s owners [] = Some owners
all_given s owners (name ∷ names) = if may_give s owners name then all_given s (slice_set owners name.page name.owner) names else None

-- what is left of the owners where they were given so, or were not
abbrev pub LeavesGiven : Option (List Owner) → List Owner → Bool → Type 0
LeavesGiven given new true = given ≡ Some new
LeavesGiven given new false = given ≡ None
