-- The bytes that an event puts are those that it names, and after it each byte is known, or named by it.
use Rattle.std.proofs.Common.{◌≡◌, ℕ, zero, suc, ◌+◌, ◌*◌, ◌/◌, ◌%◌, ◌<◌, List, [], ◌∷◌, ◌++◌, All, length, get_or, refl, sym, ◌∙◌, ap, subst, arith, inl, inr}
use Rattle.std.proofs.lemmas.List.Elements.{All-append, All-cons, All-head, All-nil, All-tail}
use Rattle.ktm_content.specs.Places.{LieOn}
use Rattle.ktm_content.proofs.offered.Bytes.{place-lie}
use Rattle.ktm_each.specs.Each.{EachFrom, EachOfChange, EachOfChanges, EachOfDurable, EachOfNode, EachOfPart, EachOfRecorded}
use Rattle.ktm_each.proofs.offered.Durables.{after_event-each}
use Rattle.ktm_paged.specs.Paged.{IsOwned}
use Rattle.ktm_owners.specs.declared.owners.Named.{Named}
use Rattle.ktm_owners.specs.declared.owners.Owner.{Owner}
use Rattle.ktm_owners.specs.Owners.{AreAllNamedBy, AreNamedBy, AreNamedInTurn, BeginsUnit, byte_with, named_from}
use Rattle.ktm_owners.proofs.Owning.{IsAmong, IsKnownOrNamed}
use Rattle.txf_laws.specs.Grammatical.{changes_of_event}
use Rattle.ktm_world.specs.declared.change.Change.{Change}
use Rattle.ktm_world.specs.declared.change.Change.TheVariants.{Make, Put, Cut, Move, Drop}
use Rattle.ktm_world.specs.declared.event.Event.{Event}
use Rattle.ktm_world.specs.Changes.{bytes_in}
use Rattle.ktm_world.specs.Durable.{Durable, after_event, changes_in}
use Rattle.ktm_world.specs.declared.recorded.RecordedPart.{RecordedPart}
use Rattle.ktm_world.specs.Tree.{bytes_or_none}
use Rattle.txf_laws.specs.Elements.{IsIn}
use Rattle.txf_laws.proofs.offered.CommitsOfOthers.{All-in}

-- ---- contents

each-by : (p : ℕ → ℕ → Type 0) (from : ℕ) (bytes : List ℕ) → ((k : ℕ) → k < length bytes → p (from + k) (get_or bytes k 0)) → EachFrom p from bytes
each-by p from [] each = tt
each-by p from (b ∷ bs) each =
    let at : from + 0 ≡ from = omega arith in (
      subst (λ n. p n b) at (each 0 (omega arith)),
      each-by p (suc from) bs (λ k low. let next : from + suc k ≡ suc from + k = omega arith in subst (λ n. p n (get_or bs k 0)) next (each (suc k) (omega (arith, low)))),
    )

among-from : (node unit : ℕ) (pages : List ℕ) (n i place : ℕ) → n < length pages → i < 4096 → place ≡ get_or pages n 0 * 4096 + i + 1
    → IsAmong (named_from (record { node = node; unit = unit }) pages) node ((unit + n) * 4096 + i) place
among-from node unit [] n i place there small is = absurd (omega (arith, there))
among-from node unit (page ∷ pages) zero i place there small is = inl (omega (arith, small, is), refl, omega (arith, small, is))
among-from node unit (page ∷ pages) (suc n) i place there small is =
    let index : (unit + 1 + n) * 4096 + i ≡ (unit + suc n) * 4096 + i = omega arith in
    inr (subst (λ k. IsAmong (named_from (record { node = node; unit = unit + 1 }) pages) node k place) index (among-from node (unit + 1) pages n i place (omega (arith, there)) small is))

pub named-each : (node offset : ℕ) (bytes pages : List ℕ) → LieOn pages bytes → offset % 4096 ≡ 0 → EachFrom (IsAmong (named_from (record { node = node; unit = offset / 4096 }) pages) node) offset bytes
named-each node offset bytes pages lie begins = each-by (IsAmong names node) offset bytes at
  where
    names : List Named
    names = named_from (record { node = node; unit = offset / 4096 }) pages

    at : (k : ℕ) → k < length bytes → IsAmong names node (offset + k) (get_or bytes k 0)
    at k low =
        let is : k / 4096 * 4096 + k % 4096 ≡ k = omega arith in
        let index : (offset / 4096 + k / 4096) * 4096 + k % 4096 ≡ offset + k = omega (arith, begins) in
        let there : k / 4096 < length pages = omega (arith, low, lie.units) in
        subst (λ n. IsAmong names node n (get_or bytes k 0)) index
        (among-from node (offset / 4096) pages (k / 4096) (k % 4096) (get_or bytes k 0) there (omega arith)
        (ap (λ n. get_or bytes n 0) (sym is) ∙ place-lie pages bytes (k / 4096) (k % 4096) lie (omega arith) (omega (arith, low, is))))

-- ---- changes

pub among-left : (front back : List Named) (file index place : ℕ) → IsAmong front file index place → IsAmong (front ++ back) file index place
among-left [] back file index place is = absurd is
among-left (name ∷ front) back file index place (inl is) = inl is
among-left (name ∷ front) back file index place (inr is) = inr (among-left front back file index place is)

pub among-right : (front back : List Named) (file index place : ℕ) → IsAmong back file index place → IsAmong (front ++ back) file index place
among-right [] back file index place is = is
among-right (name ∷ front) back file index place is = inr (among-right front back file index place is)

pub each-so : (p q : ℕ → ℕ → Type 0) → ((index byte : ℕ) → p index byte → q index byte) → (from : ℕ) (bytes : List ℕ) → EachFrom p from bytes → EachFrom q from bytes
each-so p q so from [] each = tt
each-so p q so from (b ∷ bs) each = (so from b each.0, each-so p q so (suc from) bs each.1)

change-so : (p q : ℕ → ℕ → ℕ → Type 0) → ((file index byte : ℕ) → p file index byte → q file index byte) → (c : Change) → EachOfChange p c → EachOfChange q c
change-so p q so (Make node parent kind name) each = tt
change-so p q so (Put node offset contents) each = each-so (p node) (q node) (so node) offset (bytes_in contents) each
change-so p q so (Cut node size pages) each = tt
change-so p q so (Move node parent name) each = tt
change-so p q so (Drop node) each = tt

pub changes-so : (p q : ℕ → ℕ → ℕ → Type 0) → ((file index byte : ℕ) → p file index byte → q file index byte) → (cs : List Change) → EachOfChanges p cs → EachOfChanges q cs
changes-so p q so [] each = All-nil (EachOfChange q)
changes-so p q so (c ∷ cs) each = All-cons (EachOfChange q) c cs (change-so p q so c (All-head (EachOfChange p) c cs each)) (changes-so p q so cs (All-tail (EachOfChange p) c cs each))

-- ---- one behind another

-- what follows of each element of a list
pub All-so : {X : Type 0} (P Q : X → Type 0) → ((x : X) → P x → Q x) → (xs : List X) → All P xs → All Q xs
All-so P Q so xs all = λ k d low. so (get_or xs k d) (all k d low)

module _ {X : Type 0} (IsNamed : X → List Named → Type 0) where
  -- what holds of the names of each one holds of all of them
  pub in-turn-all : (P : Named → Type 0) (xs : List X) (names : List Named) → ((x : X) (own : List Named) → IsIn x xs → IsNamed x own → All P own) → AreNamedInTurn IsNamed xs names → All P names
  in-turn-all P [] names each none = subst (All P) (sym none) (All-nil P)
  in-turn-all P (x ∷ xs) names each (first, rest, here, later, is) =
      subst (All P) (sym is) (All-append P first rest (each x first (inl refl) here) (in-turn-all P xs rest (λ y own there. each y own (inr there)) later))

  -- where the bytes of each one are those that it names, the bytes of all are those that are named
  pub in-turn-each : (Each : (ℕ → ℕ → ℕ → Type 0) → X → Type 0) → ((p q : ℕ → ℕ → ℕ → Type 0) → ((file index byte : ℕ) → p file index byte → q file index byte) → (x : X) → Each p x → Each q x)
      → (xs : List X) (names : List Named) → ((x : X) (own : List Named) → IsIn x xs → IsNamed x own → Each (IsAmong own) x) → AreNamedInTurn IsNamed xs names → All (Each (IsAmong names)) xs
  in-turn-each Each so [] names each none = All-nil (Each (IsAmong names))
  in-turn-each Each so (x ∷ xs) names each (first, rest, here, later, is) =
      subst (λ (l : List Named). All (Each (IsAmong l)) (x ∷ xs)) (sym is)
      (All-cons (Each (IsAmong (first ++ rest))) x xs
      (so (IsAmong first) (IsAmong (first ++ rest)) (among-left first rest) x (each x first (inl refl) here))
      (All-so (Each (IsAmong rest)) (Each (IsAmong (first ++ rest))) (so (IsAmong rest) (IsAmong (first ++ rest)) (among-right first rest)) xs
      (in-turn-each Each so xs rest (λ y own there. each y own (inr there)) later)))

-- ---- what changes put

change-named : (c : Change) (names : List Named) → BeginsUnit c → AreNamedBy c names → EachOfChange (IsAmong names) c
change-named (Make node parent kind name) names begins named = tt
change-named (Put node offset contents) names begins (pages, lie, is) =
    subst (λ (l : List Named). EachFrom (IsAmong l node) offset (bytes_in contents)) (sym is) (named-each node offset (bytes_in contents) pages lie begins)
change-named (Cut node size pages) names begins named = tt
change-named (Move node parent name) names begins named = tt
change-named (Drop node) names begins named = tt

pub changes-named : (cs : List Change) (names : List Named) → All BeginsUnit cs → AreAllNamedBy cs names → EachOfChanges (IsAmong names) cs
changes-named cs names begin named = in-turn-each AreNamedBy EachOfChange change-so cs names (λ c own there is. change-named c own (All-in BeginsUnit cs begin c there) is) named

-- ---- states

-- what follows of each byte holds of all of a state
pub durable-so : (p q : ℕ → ℕ → ℕ → Type 0) → ((file index byte : ℕ) → p file index byte → q file index byte) → (s : Durable) → EachOfDurable p s → EachOfDurable q s
durable-so p q so s each = record {
  tree = All-so (EachOfNode p) (EachOfNode q) (λ node. each-so (p node.number) (q node.number) (so node.number) 0 (bytes_or_none node.content)) s.tree each.tree;
  transactions = All-so (EachOfRecorded p) (EachOfRecorded q)
      (λ t. All-so (λ (part : RecordedPart). EachOfPart p part.part) (λ (part : RecordedPart). EachOfPart q part.part) (λ part. changes-so p q so (changes_in part.part)) t.parts) s.transactions each.transactions;
}

-- after an event over the places of bytes each byte is known, or the event names it
pub named-after : (s : Durable) (event : Event) (old : List Owner) (names : List Named) → EachOfDurable (IsOwned (byte_with old)) s → All BeginsUnit (changes_of_event event)
    → AreAllNamedBy (changes_of_event event) names → EachOfDurable (IsKnownOrNamed old names) (after_event s event)
named-after s event old names known begin named =
    after_event-each (IsKnownOrNamed old names) (λ file index. inl (inl refl)) s event
    (durable-so (IsOwned (byte_with old)) (IsKnownOrNamed old names) (λ file index place is. inl is) s known)
    (changes-so (IsAmong names) (IsKnownOrNamed old names) (λ file index place is. inr is) (changes_of_event event) (changes-named (changes_of_event event) names begin named))
