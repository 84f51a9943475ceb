-- What is kept of each transaction that has enlistments. No public clause cites this module.
use Rattle.std.specs.Prelude.{◌≡◌, ℕ, ◌+◌, ◌-◌, ◌<◌, ◌≤◌, ◌^◌, Bool, true, List, length, map, insert, count_by, slice_index_or, Option, Some, None, if◌then◌else◌}
use Rattle.std.specs.List.{AllByRecursion}
use Rattle.ktm_base.specs.declared.id.Id.{Id}
use Rattle.ktm_world.specs.Enlistments.{Enlistment, is_superior, is_unfinished}
use Rattle.ktm_world.specs.Phases.{one_if}
use Rattle.ktm_world.specs.Transactions.{same_id}
use Rattle.ktm_manager.specs.Rising.{are_rising, IsAt, IsNowhere}
use Rattle.ktm_enlist.specs.declared.group.Group.{Group}
use Rattle.ktm_enlist.specs.declared.standing.Standing.{Standing}
use Rattle.ktm_enlist.specs.Counts.{AreCounts, is_live_until_end}
use Rattle.ktm_enlist.specs.Places.{is_own, is_superior_of, links, place_from, HasNone, IsLastAt}
use Rattle.ktm_enlist.specs.Standing.{nothing, standing_of}

-- whose group it is
abbrev pub group_id : Group → Id
group_id g = g.transaction

-- what the group counts of its enlistments is so
pub record IsCounted (es : List Enlistment) (g : Group) : Type 0 where
  pub counts : AreCounts g.counts g.transaction es
  pub unfinished : g.unfinished ≡ count_by (is_unfinished g.transaction) es
  pub live : g.live ≡ count_by (is_live_until_end g.transaction) es

-- what the group counts of its enlistments is so, and its places are those of the superior, of the first and of the last
pub record IsGroup (es : List Enlistment) (g : Group) : Type 0 where
  pub counted : IsCounted es g
  pub superior : g.superior ≡ place_from (is_superior_of g.transaction) 0 es
  pub first : place_from (is_own g.transaction) 0 es ≡ Some g.first
  pub last : IsLastAt (is_own g.transaction) es g.last

-- each transaction that has enlistments has a group, and each enlistment names the next one of its transaction
pub record AreGrouped (es : List Enlistment) (next : List (Option ℕ)) (gs : List Group) : Type 0 where
  pub rising : are_rising group_id gs ≡ true
  pub each : AllByRecursion (IsGroup es) gs
  pub others : (id : Id) → IsNowhere group_id gs id → HasNone (is_own id) es
  pub chained : next ≡ links 0 es

-- what is kept of the transaction, if it has enlistments
abbrev pub GroupFor : List Enlistment → Id → Option Group → Type 0
GroupFor es id None = HasNone (is_own id) es
GroupFor es id (Some g) = IsGroup es g × (g.transaction ≡ id)

-- so many more fit, with no more memory
abbrev pub HasRoom : ℕ → ℕ → ℕ → Type 0
HasRoom room len capacity = len + room ≤ capacity

-- ---- where a group stands

-- the transaction's group stands at this place
pub record IsPlace (gs : List Group) (id : Id) (place : ℕ) : Type 0 where
  pub here : IsAt group_id gs id place
  pub within : place < length gs

-- it is the group of the transaction
pub record IsGroupOf (gs : List Group) (id : Id) (g : Group) : Type 0 where
  pub place : ℕ
  pub here : IsAt group_id gs id place
  pub is : (d : Group) → g ≡ slice_index_or gs place d

-- the transaction has no group, and its group would stand at this place
pub record IsGap (gs : List Group) (id : Id) (place : ℕ) : Type 0 where
  pub nowhere : IsNowhere group_id gs id
  pub within : place ≤ length gs
  pub rises : (g : Group) → g.transaction ≡ id → are_rising group_id (insert gs place g) ≡ true

-- ---- one enlistment that counts anew

-- how many count, where one that counted so counts so
abbrev pub recounted : ℕ → Bool → Bool → ℕ
recounted count was is = count - one_if was + one_if is

-- the group with one enlistment that counted so, and counts so
abbrev pub regrouped : Standing → Standing → Group → Group
regrouped was is g = record g {
  counts = record {
    enlistments = recounted g.counts.enlistments was.takes_part is.takes_part;
    asking = recounted g.counts.asking was.asks is.asks;
    in_one_phase = recounted g.counts.in_one_phase was.in_one_phase is.in_one_phase;
    owing = recounted g.counts.owing was.owes is.owes;
  };
  unfinished = recounted g.unfinished was.is_unfinished is.is_unfinished;
  live = recounted g.live was.is_live is.is_live;
}

-- the groups with one enlistment of the transaction that counted so, and counts so
abbrev pub regrouped_all : Id → Standing → Standing → List Group → List Group
regrouped_all id was is gs = map (λ g. if same_id g.transaction id then regrouped was is g else g) gs

-- one that counted so is among those that count, and they stay within 32 bits
abbrev pub MayRecount : ℕ → Bool → Bool → Type 0
MayRecount count was is = (one_if was ≤ count) × (recounted count was is < 2 ^ 32)

-- one that counted so is among those of the group, and its counts stay within 32 bits
pub record MayRegroup (g : Group) (was is : Standing) : Type 0 where
  pub parts : MayRecount g.counts.enlistments was.takes_part is.takes_part
  pub asking : MayRecount g.counts.asking was.asks is.asks
  pub in_one_phase : MayRecount g.counts.in_one_phase was.in_one_phase is.in_one_phase
  pub owing : MayRecount g.counts.owing was.owes is.owes
  pub unfinished : MayRecount g.unfinished was.is_unfinished is.is_unfinished
  pub live : MayRecount g.live was.is_live is.is_live

-- this is so of the transaction's group, if it has one
abbrev pub MayRegroupAll : List Group → Id → Standing → Standing → Type 0
MayRegroupAll gs id was is = AllByRecursion (λ g. same_id g.transaction id ≡ true → MayRegroup g was is) gs

-- ---- one enlistment more

-- the group of a transaction whose first enlistment will stand at this place
abbrev pub fresh : Id → ℕ → Group
fresh id place = record {
  transaction = id;
  counts = record { enlistments = 0; asking = 0; in_one_phase = 0; owing = 0 };
  unfinished = 0;
  live = 0;
  superior = None;
  first = place;
  last = place;
}

-- the place of the superior, once the enlistment stands at this place
abbrev pub superior_with : Option ℕ → Enlistment → ℕ → Option ℕ
superior_with None e place = if is_superior e then Some place else None
superior_with (Some superior) e place = Some superior

-- the group with one enlistment more, at this place
abbrev pub joined : Enlistment → ℕ → Group → Group
joined e place g = record (regrouped nothing (standing_of e) g) { superior = superior_with g.superior e place; last = place }

-- the groups, that of the enlistment's transaction with it
abbrev pub joined_all : Enlistment → ℕ → List Group → List Group
joined_all e place gs = map (λ g. if same_id g.transaction e.transaction then joined e place g else g) gs

-- the enlistment is the first of its transaction
pub record HasBegun (e : Enlistment) (place : ℕ) (old new : List Group) : Type 0 where
  pub nowhere : IsNowhere group_id old e.transaction
  pub gap : ℕ
  pub is : new ≡ insert old gap (joined e place (fresh e.transaction place))
  pub rises : are_rising group_id new ≡ true

-- the enlistment comes behind this last one of its transaction
pub record HasJoined (e : Enlistment) (place : ℕ) (old new : List Group) (last : ℕ) : Type 0 where
  pub group : Group
  pub before : IsGroupOf old e.transaction group
  pub is : new ≡ joined_all e place old
  pub was : last ≡ group.last
