-- The worked examples, by computation.
use Rattle.std.proofs.Common.{◌≡◌, ◌≤◌, ℕ, Bool, true, false, Some, None, List, [], ◌∷◌, ◌++◌, get_or, refl, sym, subst, arith}
use Rattle.std.proofs.lemmas.Grind.{same_number_lists}
use Rattle.ktm_base.specs.Grammar.{IsU32, IsU64}
use Rattle.ktm_content.specs.Places.{LieOn, places_on}
use Rattle.ktm_content.proofs.offered.Placing.{get_or-places_on, length-places_on}
use Rattle.ktm_world.specs.EventGrammar.{IsIdOf}
use Rattle.ktm_world.specs.declared.event.Part.TheVariants.{Enlistment}
use Rattle.ktm_world.specs.Durable.{empty_state}
use Rattle.ktm_snapshot.specs.Examples.{four, eight, empty_bytes, small_state, small_bytes}
use Rattle.ktm_snapshot.specs.StateGrammar.{IsHeadOf, IsContentsOf, IsNodeOf, IsEntryOf, IsMarkedOf, IsStateOf, IsRisingListOf, AreNodesOf, AreEntriesOf, AreManagersOf, AreTransactionsOf}

is_four : (n : ℕ) → IsU32 n (four n)
is_four n = record { long = refl; value = omega arith }

is_eight : (n : ℕ) → IsU64 n (eight n)
is_eight n = record { long = refl; value = omega arith }

head : (events boots next_node : ℕ) → IsHeadOf (record { events = events; boots = boots; next_node = next_node }) (eight events ++ (four boots ++ eight next_node))
head events boots next_node = (eight events, four boots ++ eight next_node, refl, is_eight events, (four boots, eight next_node, refl, is_four boots, is_eight next_node))

-- ---- the empty state

no_things : {X : Type 0} (rises : List X → Bool) (Item : X → List ℕ → Type 0) → rises [] ≡ true → IsRisingListOf rises Item [] (four 0)
no_things rises Item rising = record { rising = rising; listed = (four 0, [], refl, is_four 0, refl) }

pub empty_is_spelled : (units image : ℕ) → IsStateOf (empty_state units image) empty_bytes
empty_is_spelled units image =
    let front : List ℕ = eight 0 ++ (four 0 ++ eight 2) in record {
      spelled = (
        ((front ++ four 0) ++ four 0) ++ four 0,
        four 0,
        refl,
        ((front ++ four 0) ++ four 0, four 0, refl, (front ++ four 0, four 0, refl, (front, four 0, refl, head 0 0 2, no_things _ _ refl), no_things _ _ refl), no_things _ _ refl),
        no_things _ _ refl,
      );
    }

-- ---- a small state

abbrev id_bytes : ℕ → List ℕ
id_bytes number = four 1 ++ four number

is_id : (number : ℕ) → 1 ≤ number → IsIdOf (record { boot = 1; number = number }) (id_bytes number)
is_id number from = record { boot_from = omega arith; number_from = from; numbers = (four 1, four number, refl, is_four 1, is_four number) }

abbrev directory_bytes : List ℕ
directory_bytes = eight 2 ++ (eight 1 ++ 1 ∷ 1 ∷ 0x64 ∷ [])

directory : IsNodeOf (record { number = 2; parent = 1; name = 0x64 ∷ []; content = None }) directory_bytes
directory = (eight 2, eight 1 ++ 1 ∷ 1 ∷ 0x64 ∷ [], refl, is_eight 2, (eight 1, 1 ∷ 1 ∷ 0x64 ∷ [], refl, is_eight 1, (1 ∷ 0x64 ∷ [], refl, refl)))

abbrev contents_bytes : List ℕ
contents_bytes = eight 1 ++ (four 1 ++ (four 5 ++ []))

-- the first byte of page 5
lie : LieOn (5 ∷ []) (0x5001 ∷ [])
lie = record {
  units = refl;
  places = same_number_lists _ _ (omega (arith, length-places_on (5 ∷ []) 1 (omega arith))) (λ k low.
      let first : k ≡ 0 = omega (arith, low) in
      subst (λ (i : ℕ). get_or (0x5001 ∷ []) i 0 ≡ get_or (places_on (5 ∷ []) 1) i 0) (sym first) (sym (get_or-places_on (5 ∷ []) 1 0 0 (omega arith) (omega arith) (omega arith))));
}

contents : IsContentsOf (0x5001 ∷ []) contents_bytes
contents = record { pages = 5 ∷ []; lie = lie; spelled = (eight 1, four 1 ++ (four 5 ++ []), refl, is_eight 1, (four 1, four 5 ++ [], refl, is_four 1, (four 5, [], refl, is_four 5, refl))) }

abbrev named_bytes : List ℕ
named_bytes = 1 ∷ 0x66 ∷ contents_bytes

abbrev file_bytes : List ℕ
file_bytes = eight 3 ++ (eight 2 ++ 0 ∷ named_bytes)

file : IsNodeOf (record { number = 3; parent = 2; name = 0x66 ∷ []; content = Some (0x5001 ∷ []) }) file_bytes
file = (
  eight 3,
  eight 2 ++ 0 ∷ named_bytes,
  refl,
  is_eight 3,
  (
    eight 2,
    0 ∷ named_bytes,
    refl,
    is_eight 2,
    (
      named_bytes,
      refl,
      (1 ∷ 0x66 ∷ [], contents_bytes, refl, refl, contents),
    ),
  ),
)

abbrev nodes_bytes : List ℕ
nodes_bytes = four 2 ++ (directory_bytes ++ (file_bytes ++ []))

nodes : AreNodesOf (small_state 0 0).tree nodes_bytes
nodes = record { rising = refl; listed = (four 2, directory_bytes ++ (file_bytes ++ []), refl, is_four 2, (directory_bytes, file_bytes ++ [], refl, directory, (file_bytes, [], refl, file, refl))) }

abbrev entry_bytes : List ℕ
entry_bytes = 1 ∷ 0x6b ∷ 1 ∷ 0 ∷ 0x01 ∷ []

entry : IsEntryOf (record { key = 0x6b ∷ []; value = 0x01 ∷ [] }) entry_bytes
entry = record {
  text = (record { from = omega arith; to = omega arith; other = λ e. absurd (omega (arith, e)) }, tt);
  parts = (1 ∷ 0x6b ∷ [], 1 ∷ 0 ∷ 0x01 ∷ [], refl, refl, (1 ∷ 0 ∷ [], 0x01 ∷ [], refl, record { long = refl; value = refl }, refl));
}

entries : AreEntriesOf (small_state 0 0).keys (four 1 ++ (entry_bytes ++ []))
entries = record { rising = refl; listed = (four 1, entry_bytes ++ [], refl, is_four 1, (entry_bytes, [], refl, entry, refl)) }

managers : AreManagersOf (small_state 0 0).managers (four 1 ++ (id_bytes 1 ++ []))
managers = record { rising = refl; listed = (four 1, id_bytes 1 ++ [], refl, is_four 1, (id_bytes 1, [], refl, is_id 1 (omega arith), refl)) }

abbrev superior_bytes : List ℕ
superior_bytes = 1 ∷ (id_bytes 2 ++ (id_bytes 1 ++ 1 ∷ 0xaa ∷ []))

abbrev start_bytes : List ℕ
start_bytes = id_bytes 1 ++ (1 ∷ [] ++ (superior_bytes ++ four 1))

abbrev part_bytes : List ℕ
part_bytes = 0 ∷ [] ++ 1 ∷ (id_bytes 1 ++ (id_bytes 1 ++ 0 ∷ []))

abbrev transaction_bytes : List ℕ
transaction_bytes = start_bytes ++ (part_bytes ++ [])

marked : IsMarkedOf (record { is_done = false; part = Enlistment (record { boot = 1; number = 1 }) (record { boot = 1; number = 1 }) [] }) part_bytes
marked = (
  0 ∷ [],
  1 ∷ (id_bytes 1 ++ (id_bytes 1 ++ 0 ∷ [])),
  refl,
  record { value = refl },
  record {
    recorded = Enlistment (record { boot = 1; number = 1 }) (record { boot = 1; number = 1 }) [];
    work = refl;
    placed = refl;
    spelled = (
      id_bytes 1 ++ (id_bytes 1 ++ 0 ∷ []),
      refl,
      (id_bytes 1, id_bytes 1 ++ 0 ∷ [], refl, is_id 1 (omega arith), (id_bytes 1, 0 ∷ [], refl, is_id 1 (omega arith), refl)),
    );
  },
)

transactions : AreTransactionsOf (small_state 0 0).transactions (four 1 ++ (transaction_bytes ++ []))
transactions = record {
  rising = refl;
  listed = (
    four 1,
    transaction_bytes ++ [],
    refl,
    is_four 1,
    (
      transaction_bytes,
      [],
      refl,
      (
        start_bytes,
        part_bytes ++ [],
        refl,
        (
          id_bytes 1,
          1 ∷ [] ++ (superior_bytes ++ four 1),
          refl,
          is_id 1 (omega arith),
          (
            1 ∷ [],
            superior_bytes ++ four 1,
            refl,
            record { value = refl },
            (
              superior_bytes,
              four 1,
              refl,
              (
                id_bytes 2 ++ (id_bytes 1 ++ 1 ∷ 0xaa ∷ []),
                refl,
                (
                  id_bytes 2,
                  id_bytes 1 ++ 1 ∷ 0xaa ∷ [],
                  refl,
                  is_id 2 (omega arith),
                  (id_bytes 1, 1 ∷ 0xaa ∷ [], refl, is_id 1 (omega arith), refl),
                ),
              ),
              is_four 1,
            ),
          ),
        ),
        (
          part_bytes,
          [],
          refl,
          marked,
          refl,
        ),
      ),
      refl,
    ),
  );
}

pub small_is_spelled : (units image : ℕ) → IsStateOf (small_state units image) small_bytes
small_is_spelled units image =
    let front : List ℕ = eight 7 ++ (four 1 ++ eight 4) in
    let keys : List ℕ = four 1 ++ (entry_bytes ++ []) in
    let ids : List ℕ = four 1 ++ (id_bytes 1 ++ []) in
    let last : List ℕ = four 1 ++ (transaction_bytes ++ []) in record {
      spelled = (
        ((front ++ nodes_bytes) ++ keys) ++ ids,
        last,
        refl,
        ((front ++ nodes_bytes) ++ keys, ids, refl, (front ++ nodes_bytes, keys, refl, (front, nodes_bytes, refl, head 7 1 4, nodes), entries), managers),
        transactions,
      );
    }
