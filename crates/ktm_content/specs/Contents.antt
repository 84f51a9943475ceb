-- Contents of files, cut, filled and put over.
use Rattle.std.specs.Prelude.{ℕ, ◌+◌, ◌-◌, ◌/◌, List, ◌++◌, length, take, drop, replicate}

-- whole units of 4,096 bytes
abbrev pub units_of : List ℕ → ℕ
units_of bytes = (length bytes + 4095) / 4096

-- the bytes made so long: cut, or filled with zeros
abbrev pub cut_to : List ℕ → ℕ → List ℕ
cut_to bytes size = take size bytes ++ replicate (size - length bytes) 0

-- bytes put over others at an offset; a gap before them is filled with zeros
abbrev pub put_over : List ℕ → ℕ → List ℕ → List ℕ
put_over old offset new = cut_to old offset ++ new ++ drop (offset + length new) old
