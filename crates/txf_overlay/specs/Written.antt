-- The files that a transaction wrote.
use Rattle.std.specs.Prelude.{ℕ, ◌<◌, ◌≤◌, ◌==◌, not, List, [], ◌∷◌, length, Option, Some, None, IsSomeAnd, filter, find, sum_by, nat_lt, if◌then◌else◌}
use Rattle.ktm_world.specs.declared.change.NodeKind.{NodeKind}
use Rattle.ktm_world.specs.declared.change.NodeKind.TheVariants.{File, Directory}
use Rattle.ktm_world.specs.Tree.{units_of}
use Rattle.txf_overlay.specs.OverlayState.{Written}

-- the bytes of a file, if it is written
abbrev pub bytes_at : List Written → ℕ → Option (List ℕ)
bytes_at [] file = None
bytes_at (w ∷ ws) file = if w.file == file then Some w.bytes else bytes_at ws file

-- a file with these bytes
abbrev pub file_of : ℕ → List ℕ → Written
file_of file bytes = record { file = file; bytes = bytes }

-- the bytes, or these where there are none
abbrev pub bytes_or : List ℕ → Option (List ℕ) → List ℕ
bytes_or first None = first
bytes_or first (Some bytes) = bytes

-- the files with these bytes of one of them, which stands at its place
abbrev pub with_bytes : List Written → ℕ → List ℕ → List Written
with_bytes [] file bytes = file_of file bytes ∷ []
with_bytes (w ∷ ws) file bytes =
    if w.file == file then file_of file bytes ∷ ws else
    (if nat_lt file w.file then file_of file bytes ∷ w ∷ ws else w ∷ with_bytes ws file bytes)

-- the files without one of them
abbrev pub without_file : List Written → ℕ → List Written
without_file ws file = filter (λ w. not (w.file == file)) ws

-- the files with one more, which has no bytes if it is new
abbrev pub with_file : List Written → ℕ → List Written
with_file ws file = with_bytes ws file (bytes_or [] (bytes_at ws file))

-- the files once a node of this kind is made
abbrev pub with_made : List Written → ℕ → NodeKind → List Written
with_made ws node File = with_file ws node
with_made ws node Directory = ws

-- the first file whose number is not below this one
abbrev pub first_from : List Written → ℕ → Option Written
first_from ws from = find (λ w. not (nat_lt w.file from)) ws

-- the file is written, and has so many bytes
abbrev pub HasBytes : List Written → ℕ → ℕ → Type 0
HasBytes ws file size = IsSomeAnd (bytes_at ws file) (λ bytes. size ≤ length bytes)

-- the units that the bytes of a file take
abbrev pub units_in : Written → ℕ
units_in w = units_of w.bytes

-- the units that all of them take
abbrev pub total_units : List Written → ℕ
total_units ws = sum_by units_in ws

-- each has a greater number
abbrev pub AreOver : ℕ → List Written → Type 0
AreOver n [] = Unit {0}
AreOver n (w ∷ ws) = (n < w.file) × AreOver n ws

-- the numbers rise
abbrev pub AreFilesRising : List Written → Type 0
AreFilesRising [] = Unit {0}
AreFilesRising (w ∷ ws) = AreOver w.file ws × AreFilesRising ws
