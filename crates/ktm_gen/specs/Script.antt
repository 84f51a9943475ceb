-- The generated script: its lines come in cycles of nine, and for each cycle a word is drawn that chooses what they say.
use Rattle.std.specs.Prelude.{ℕ, zero, suc, ◌+◌, ◌/◌, ◌%◌, ◌==◌, Bool, List, [], ◌∷◌, ◌++◌, codes, decimal, replicate, slice_index_or, if◌then◌else◌}
use Rattle.ktm_codec.specs.Hex.{hex_of}
use Rattle.rand_core.specs.Pcg32Seed.{pcg32_seed}
use Rattle.rand_pcg.specs.Lcg.{Lcg}
use Rattle.rand_pcg.specs.Pcg.{pcg32, pcg32_of_seed}

-- the generator that is seeded with this number, once so many words were drawn
unfoldable pub after_words : ℕ → ℕ → Lcg
after_words number zero = pcg32_of_seed (pcg32_seed 16 number)
after_words number (suc drawn) = (pcg32 (after_words number drawn)).1

-- the word of a cycle, which count from 0
abbrev pub word_of : ℕ → ℕ → ℕ
word_of number cycle = (pcg32 (after_words number cycle)).0

-- ---- what a word chooses

-- which file is written, and which key is set
abbrev pub chosen : ℕ → ℕ
chosen word = word % 16

-- how many bytes are written
abbrev pub written_size : ℕ → ℕ
written_size word = word / 16 % 4096 + 1

-- the value of each byte
abbrev pub written_value : ℕ → ℕ
written_value word = word / 65536 % 256

-- one transaction of four is rolled back
abbrev pub rolls_back : ℕ → Bool
rolls_back word = word / 16777216 % 4 == 0

-- the last of sixteen cycles ends with a loss of power
abbrev pub crashes : ℕ → Bool
crashes cycle = cycle % 16 == 15

-- ---- the lines

-- opens the file
abbrev pub open_line : ℕ → List ℕ
open_line word = codes "p1 CreateFileTransacted h2 \"\\f" ++ decimal (chosen word) ++ codes "\" rw - OPEN_ALWAYS h1"

-- writes the file's first bytes
abbrev pub write_line : ℕ → List ℕ
write_line word = codes "p1 WriteFile h2 0 " ++ hex_of (replicate (written_size word) (written_value word))

-- sets the key to four bytes
abbrev pub set_line : ℕ → List ℕ
set_line word = codes "p1 KvSet h1 \"k" ++ decimal (chosen word) ++ codes "\" " ++ hex_of (replicate 4 (written_value word))

-- ends the transaction
abbrev pub end_line : ℕ → List ℕ
end_line word = if rolls_back word then codes "p1 RollbackTransaction h1" else codes "p1 CommitTransaction h1"

-- the power goes, or time passes
abbrev pub pause_line : ℕ → List ℕ
pause_line cycle = if crashes cycle then codes "crash" else codes "tick 1"

-- the power comes back, or the key is read
abbrev pub last_line : ℕ → ℕ → List ℕ
last_line cycle word = if crashes cycle then codes "restart " ++ decimal word else codes "p1 KvGet - \"k" ++ decimal (chosen word) ++ codes "\""

-- the lines of a cycle that drew this word
abbrev pub cycle_lines : ℕ → ℕ → List (List ℕ)
cycle_lines cycle word =
    codes "p1 CreateTransaction h1 0"
    ∷ open_line word
    ∷ write_line word
    ∷ set_line word
    ∷ end_line word
    ∷ codes "p1 CloseHandle h2"
    ∷ codes "p1 CloseHandle h1"
    ∷ pause_line cycle
    ∷ last_line cycle word
    ∷ []

-- a line of the script, which count from 0
unfoldable pub line_at : ℕ → ℕ → List ℕ
line_at number line = slice_index_or (cycle_lines (line / 9) (word_of number (line / 9))) (line % 9) []

-- the first lines of the script of a number
abbrev pub generated_lines : ℕ → ℕ → List (List ℕ)
generated_lines number zero = []
generated_lines number (suc lines) = generated_lines number lines ++ line_at number lines ∷ []
