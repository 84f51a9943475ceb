-- The owners of the pages of a good state, once all its pages were given, or were not.
use Rattle.std.proofs.Common.{◌≡◌, ℕ, ◌+◌, ◌%◌, ◌<◌, true, List, ◌++◌, Some, None, All, length, get_or, refl, sym, ap, subst, arith, inr}
use Rattle.std.proofs.lemmas.List.Elements.{All-append}
use Rattle.ktm_content.proofs.offered.Bytes.{one-list}
use Rattle.ktm_each.specs.Each.{EachFrom, EachOfDurable, EachOfNode, EachOfPart, EachOfRecorded}
use Rattle.ktm_owners.specs.declared.owners.Named.{Named}
use Rattle.ktm_owners.specs.declared.owners.Owner.{Owner}
use Rattle.ktm_owners.specs.Owners.{AreNamedByFile, AreNamedByPart, AreNamedByParts, AreNamedByState, AreOwnersOf, AreThere, BeginsUnit, all_given, has_unit}
use Rattle.ktm_owners.proofs.GoodStates.{good-starts}
use Rattle.ktm_owners.proofs.Naming.{All-so, among-left, among-right, changes-named, changes-so, durable-so, each-so, in-turn-all, in-turn-each, named-each}
use Rattle.ktm_owners.proofs.Owning.{IsAmong, IsKnownOrNamed}
use Rattle.ktm_owners.proofs.OwningStates.{AllStartAtBegin, StartsAtBegin, state-given, tree-still}
use Rattle.ktm_owners.proofs.Present.{IsPresent, all-wait, from-units}
use Rattle.ktm_owners.proofs.Sharing.{refused-shared}
use Rattle.ktm_owners.proofs.Singles.{unit-first}
use Rattle.ktm_owners.proofs.offered.Events.{changes-there, named-there}
use Rattle.ktm_paged.specs.Paged.{IsApart, LieBelow, LiesBelow, PutLiesBelow, RecordedLiesBelow}
use Rattle.txf_laws.specs.GoodState.{IsGoodState}
use Rattle.ktm_world.specs.declared.change.Change.{Change}
use Rattle.ktm_world.specs.declared.change.Change.TheVariants.{Make, Put, Cut, Move, Drop}
use Rattle.ktm_world.specs.declared.recorded.Node.{Node}
use Rattle.ktm_world.specs.declared.recorded.RecordedPart.{RecordedPart}
use Rattle.ktm_world.specs.Durable.{Durable, Recorded, changes_in}
use Rattle.ktm_world.specs.Tree.{bytes_or_none}
use Rattle.ktm_world.proofs.offered.Lookups.{Rises, Rises-from}
use Rattle.txf_laws.specs.Elements.{IsIn}
use Rattle.txf_laws.proofs.offered.CommitsOfOthers.{All-in}

-- ---- bytes that are named

node-so : (p q : ℕ → ℕ → ℕ → Type 0) → ((file index byte : ℕ) → p file index byte → q file index byte) → (node : Node) → EachOfNode p node → EachOfNode q node
node-so p q so node each = each-so (p node.number) (q node.number) (so node.number) 0 (bytes_or_none node.content) each

part-so : (p q : ℕ → ℕ → ℕ → Type 0) → ((file index byte : ℕ) → p file index byte → q file index byte) → (part : RecordedPart) → EachOfPart p part.part → EachOfPart q part.part
part-so p q so part each = changes-so p q so (changes_in part.part) each

recorded-so : (p q : ℕ → ℕ → ℕ → Type 0) → ((file index byte : ℕ) → p file index byte → q file index byte) → (t : Recorded) → EachOfRecorded p t → EachOfRecorded q t
recorded-so p q so t each = All-so (λ (part : RecordedPart). EachOfPart p part.part) (λ (part : RecordedPart). EachOfPart q part.part) (part-so p q so) t.parts each

file-named : (node : Node) (names : List Named) → AreNamedByFile node names → EachOfNode (IsAmong names) node
file-named node names (pages, lie, is) =
    subst (λ (l : List Named). EachFrom (IsAmong l node.number) 0 (bytes_or_none node.content)) (sym is) (named-each node.number 0 (bytes_or_none node.content) pages lie refl)

start-begins : (c : Change) → StartsAtBegin c → BeginsUnit c
start-begins (Make node parent kind name) start = tt
start-begins (Put node offset contents) start = ap (λ n. n % 4096) start
start-begins (Cut node size pages) start = tt
start-begins (Move node parent name) start = tt
start-begins (Drop node) start = tt

module _ (s : Durable) (names : List Named) (named : AreNamedByState s names) (starts : AllStartAtBegin s) where
  part-starts : (t : Recorded) → IsIn t s.transactions → (part : RecordedPart) → IsIn part t.parts → All StartsAtBegin (changes_in part.part)
  part-starts t t_in part part_in =
      All-in (λ (p : RecordedPart). All StartsAtBegin (changes_in p.part)) t.parts (All-in (λ (u : Recorded). All (λ (p : RecordedPart). All StartsAtBegin (changes_in p.part)) u.parts) s.transactions starts t t_in) part part_in

  work-named : (t : Recorded) (own : List Named) → IsIn t s.transactions → AreNamedByParts t own → EachOfRecorded (IsAmong own) t
  work-named t own t_in is =
      in-turn-each AreNamedByPart (λ (p : ℕ → ℕ → ℕ → Type 0) (part : RecordedPart). EachOfPart p part.part) part-so t.parts own
      (λ part of_part part_in here. changes-named (changes_in part.part) of_part (All-so StartsAtBegin BeginsUnit start-begins (changes_in part.part) (part-starts t t_in part part_in)) here) is

  -- each byte of the state is among those that it names
  state-named : EachOfDurable (IsAmong names) s
  state-named = record {
    tree = subst (λ (l : List Named). All (EachOfNode (IsAmong l)) s.tree) (sym named.is)
        (All-so (EachOfNode (IsAmong named.files)) (EachOfNode (IsAmong (named.files ++ named.works))) (node-so (IsAmong named.files) (IsAmong (named.files ++ named.works)) (among-left named.files named.works)) s.tree
        (in-turn-each AreNamedByFile EachOfNode node-so s.tree named.files (λ node own there is. file-named node own is) named.of_files));
    transactions = subst (λ (l : List Named). All (EachOfRecorded (IsAmong l)) s.transactions) (sym named.is)
        (All-so (EachOfRecorded (IsAmong named.works)) (EachOfRecorded (IsAmong (named.files ++ named.works))) (recorded-so (IsAmong named.works) (IsAmong (named.files ++ named.works)) (among-right named.files named.works)) s.transactions
        (in-turn-each AreNamedByParts EachOfRecorded recorded-so s.transactions named.works work-named named.of_works));
  }

  module _ (count : ℕ) (below : LieBelow count s) (rises : Rises s.tree) where
    file-present : (node : Node) (own : List Named) → IsIn node s.tree → AreNamedByFile node own → All (IsPresent s) own
    file-present node own there (pages, lie, is) =
        subst (All (IsPresent s)) (sym is)
        (from-units s node.number 0 pages
        (λ n low.
        let at : 0 + n ≡ n = omega arith in
        tree-still s count below rises starts node there (record { node = node.number; unit = 0 + n }) (get_or pages n 0) refl
        (subst (λ k. has_unit (bytes_or_none node.content) k (get_or pages n 0) ≡ true) (sym at) (unit-first (bytes_or_none node.content) pages n lie low))))

    -- each of its units lies on its page
    state-present : All (IsPresent s) names
    state-present =
        subst (All (IsPresent s)) (sym named.is)
        (All-append (IsPresent s) named.files named.works
        (in-turn-all AreNamedByFile (IsPresent s) s.tree named.files file-present named.of_files)
        (in-turn-all AreNamedByParts (IsPresent s) s.transactions named.works
        (λ t own t_in is. in-turn-all AreNamedByPart (IsPresent s) t.parts own
        (λ part of_part part_in here. all-wait s t part (changes_in part.part) of_part t_in part_in (λ c there. there) (part-starts t t_in part part_in) here) is) named.of_works))

-- the pages of a state are there
pub state-there : (count : ℕ) (s : Durable) (names : List Named) → LieBelow count s → AreNamedByState s names → AreThere count names
state-there count s names below named =
    subst (AreThere count) (sym named.is)
    (All-append There named.files named.works
    (in-turn-all AreNamedByFile There s.tree named.files of-file named.of_files)
    (in-turn-all AreNamedByParts There s.transactions named.works
    (λ t own t_in is. in-turn-all AreNamedByPart There t.parts own
    (λ part of_part part_in here. changes-there count (changes_in part.part) of_part
    (All-in (λ (p : RecordedPart). All (PutLiesBelow count) (changes_in p.part)) t.parts (All-in (RecordedLiesBelow count) s.transactions below.works t t_in) part part_in) here) is) named.of_works))
  where
    There : Named → Type 0
    There name = name.page < count

    of-file : (node : Node) (own : List Named) → IsIn node s.tree → AreNamedByFile node own → AreThere count own
    of-file node own there (pages, lie, is) =
        let lies = All-in (λ (n : Node). LiesBelow count (bytes_or_none n.content)) s.tree below.files node there in
        subst (AreThere count) (sym is)
        (named-there count (record { node = node.number; unit = 0 }) pages (subst (All (λ page. page < count)) (one-list lies.pages pages (bytes_or_none node.content) lies.lie lie) lies.below))

module _ (count : ℕ) (s : Durable) (good : IsGoodState s) (below : LieBelow count s) (old : List Owner) (names : List Named) (named : AreNamedByState s names) where
  pub state-known : (owners : List Owner) → count ≡ length old → all_given s old names ≡ Some owners → AreOwnersOf owners s
  state-known owners many given =
      state-given s count below (Rises-from s.tree good.files.rise) (good-starts s good) old names owners (subst (λ n. AreThere n names) many (state-there count s names below named)) given
      (durable-so (IsAmong names) (IsKnownOrNamed old names) (λ file index place is. inr is) s (state-named s names named (good-starts s good)))

  pub state-shared : all_given s old names ≡ None → ¬ IsApart s
  state-shared none = refused-shared s old names (state-present s names named (good-starts s good) count below (Rises-from s.tree good.files.rise)) none
