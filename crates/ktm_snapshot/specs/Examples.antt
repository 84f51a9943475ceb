-- Worked examples of states and their bytes.
use Rattle.std.specs.Prelude.{ℕ, false, List, [], ◌∷◌, ◌++◌, Some, None}
use Rattle.ktm_world.specs.declared.event.Part.TheVariants.{Enlistment}
use Rattle.ktm_world.specs.declared.recorded.Stage.TheVariants.{Held}
use Rattle.ktm_world.specs.Durable.{Durable}

-- a number below 256 in four bytes
abbrev pub four : ℕ → List ℕ
four n = n ∷ 0 ∷ 0 ∷ 0 ∷ []

-- a number below 256 in eight bytes
abbrev pub eight : ℕ → List ℕ
eight n = n ∷ 0 ∷ 0 ∷ 0 ∷ 0 ∷ 0 ∷ 0 ∷ 0 ∷ []

-- the empty state: no events and no boots, the next node 2, and four lists of nothing
abbrev pub empty_bytes : List ℕ
empty_bytes = eight 0 ++ four 0 ++ eight 2 ++ four 0 ++ four 0 ++ four 0 ++ four 0

-- a state with a directory "d", in it a file "f" with one byte, on page 5, a key "k" with one byte, a resource manager, and a transaction that
-- waits for its superior and of which an enlistment is prepared
abbrev pub small_state : ℕ → ℕ → Durable
small_state units image = record {
  units = units;
  image = image;
  events = 7;
  boots = 1;
  next_node = 4;
  tree = record { number = 2; parent = 1; name = 0x64 ∷ []; content = None } ∷ record { number = 3; parent = 2; name = 0x66 ∷ []; content = Some (0x5001 ∷ []) } ∷ [];
  keys = record { key = 0x6b ∷ []; value = 0x01 ∷ [] } ∷ [];
  managers = record { boot = 1; number = 1 } ∷ [];
  transactions = record {
    id = record { boot = 1; number = 1 };
    stage = Held;
    superior = Some (record { enlistment = record { boot = 1; number = 2 }; manager = record { boot = 1; number = 1 }; information = 0xaa ∷ [] });
    parts = record { is_done = false; part = Enlistment (record { boot = 1; number = 1 }) (record { boot = 1; number = 1 }) [] } ∷ [];
  } ∷ [];
}

-- its bytes: the head; two nodes; one key; one resource manager; and one transaction with its superior and its part
abbrev pub small_bytes : List ℕ
small_bytes =
    eight 7 ++ four 1 ++ eight 4
    ++ four 2 ++ (eight 2 ++ eight 1 ++ 1 ∷ 1 ∷ 0x64 ∷ []) ++ (eight 3 ++ eight 2 ++ 0 ∷ 1 ∷ 0x66 ∷ eight 1 ++ four 1 ++ four 5)
    ++ four 1 ++ 1 ∷ 0x6b ∷ 1 ∷ 0 ∷ 0x01 ∷ []
    ++ four 1 ++ four 1 ++ four 1
    ++ four 1 ++ (four 1 ++ four 1) ++ 1 ∷ 1 ∷ (four 1 ++ four 2) ++ (four 1 ++ four 1) ++ 1 ∷ 0xaa ∷ four 1
    ++ 0 ∷ 1 ∷ (four 1 ++ four 1) ++ (four 1 ++ four 1) ++ 0 ∷ []
