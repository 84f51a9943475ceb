-- What a read of bytes puts behind those that are there.
use Rattle.std.specs.Prelude.{◌≡◌, ℕ, ◌+◌, ◌<◌, List, ◌++◌, length, take, drop, Option, Some, None, Result, IsSomeAnd, OnOk, OnErr, Vec, vec_capacity, vec_len}
use Rattle.ktm_base.specs.declared.fault.NoMemory.{NoMemory}

-- the bytes from the offset on, as many as there are and at most so many
abbrev pub bytes_from : List ℕ → ℕ → ℕ → List ℕ
bytes_from bytes offset most = take most (drop offset bytes)

-- these bytes were put behind those that were there; or there was no room for them, and nothing came
pub record IsRead {Z : Type 0} (bytes : List ℕ) (offset most : ℕ) (old new : Vec ℕ Z) (result : Result (Unit {0}) NoMemory) : Type 0 where
  pub read : OnOk result (new.items ≡ old.items ++ bytes_from bytes offset most)
  pub kept : OnErr result (new.items ≡ old.items)
  pub full : OnErr result (vec_capacity old < vec_len old + length (bytes_from bytes offset most))

-- bytes that may not be there were read; where they are not, nothing is read, and all is as it was
abbrev pub IsReadIf : {Z : Type 0} → Option (List ℕ) → ℕ → ℕ → Vec ℕ Z → Vec ℕ Z → Option (Result (Unit {0}) NoMemory) → Type 0
IsReadIf None offset most old new result = (result ≡ None) × (new ≡ old)
IsReadIf (Some bytes) offset most old new result = IsSomeAnd result (IsRead bytes offset most old new)
