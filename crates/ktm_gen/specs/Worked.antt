-- A worked script: that of the number 420, as another implementation of the generator has it.
use Rattle.std.specs.Prelude.{◌≡◌, [], ◌∷◌, codes}
use Rattle.ktm_gen.specs.Script.{generated_lines, line_at}

-- its first two cycles
abbrev pub BeginsSo : Type 0
BeginsSo =
    generated_lines 420 18
    ≡ codes "p1 CreateTransaction h1 0"
    ∷ codes "p1 CreateFileTransacted h2 \"\\f1\" rw - OPEN_ALWAYS h1"
    ∷ codes "p1 WriteFile h2 0 e1e1e1e1e1e1e1e1e1e1e1e1e1e1"
    ∷ codes "p1 KvSet h1 \"k1\" e1e1e1e1"
    ∷ codes "p1 CommitTransaction h1"
    ∷ codes "p1 CloseHandle h2"
    ∷ codes "p1 CloseHandle h1"
    ∷ codes "tick 1"
    ∷ codes "p1 KvGet - \"k1\""
    ∷ codes "p1 CreateTransaction h1 0"
    ∷ codes "p1 CreateFileTransacted h2 \"\\f10\" rw - OPEN_ALWAYS h1"
    ∷ codes "p1 WriteFile h2 0 2626262626262626262626262626262626262626262626262626262626262626262626262626262626262626262626262626262626"
    ∷ codes "p1 KvSet h1 \"k10\" 26262626"
    ∷ codes "p1 CommitTransaction h1"
    ∷ codes "p1 CloseHandle h2"
    ∷ codes "p1 CloseHandle h1"
    ∷ codes "tick 1"
    ∷ codes "p1 KvGet - \"k10\""
    ∷ []

-- the last two lines of its sixteenth cycle
abbrev pub EndsSo : Type 0
EndsSo = (line_at 420 142 ≡ codes "crash") × (line_at 420 143 ≡ codes "restart 2536902644")
