-- The lines of a script, what they mean, and how replies are written.
use Rattle.std.specs.Prelude.{◌≡◌, ◌⊎◌, ℕ, ◌+◌, ◌==◌, Bool, false, not, List, [], ◌∷◌, ◌++◌, Option, Some, None, take, if◌then◌else◌}
use Rattle.std.specs.List.{flat_map}
use Rattle.std.specs.Io.KnownBytes.{IsAtEnd}
use Rattle.ktm_base.specs.declared.limits.TheConstants.{MOST_LINE_BYTES}
use Rattle.ktm_dump.specs.Written.{newline}
use Rattle.ktm_reply.specs.Spelling.{reply_spelling}
use Rattle.ktm_script.specs.Spelling.{IsLine, spelling}
use Rattle.ktm_world.specs.declared.command.Line.{Line}
use Rattle.ktm_world.specs.declared.reply.Reply.{Reply}

-- the lines that end in a newline, of these bytes behind a part of a line
abbrev pub lines_from : List ℕ → List ℕ → List (List ℕ)
lines_from part [] = []
lines_from part (byte ∷ bytes) = if byte == newline then part ∷ lines_from [] bytes else lines_from (part ++ byte ∷ []) bytes

-- what is behind the last newline
abbrev pub part_from : List ℕ → List ℕ → List ℕ
part_from part [] = part
part_from part (byte ∷ bytes) = if byte == newline then part_from [] bytes else part_from (part ++ byte ∷ []) bytes

-- a last line that has no newline counts where it is not empty
abbrev pub last_line : List ℕ → List (List ℕ)
last_line [] = []
last_line (byte ∷ bytes) = (byte ∷ bytes) ∷ []

-- the lines of a script: those that end in a newline, and what is behind the last newline where it is not empty
abbrev pub cut_lines : List ℕ → List (List ℕ)
cut_lines script = lines_from [] script ++ last_line (part_from [] script)

-- the lines of what was read that may be executed: those that end in a newline, and what is behind the last newline only once the
-- source is at its end
abbrev pub MayExecute : Option (List ℕ) → List ℕ → List (List ℕ) → Type 0
MayExecute left script lines = (lines ≡ lines_from [] script) ⊎ ((lines ≡ cut_lines script) × IsAtEnd left)

-- the first byte of a comment
abbrev pub number_sign : ℕ
number_sign = 35

-- each line has a reply but the empty one and those that begin with a number sign
abbrev pub has_reply : List ℕ → Bool
has_reply [] = false
has_reply (byte ∷ bytes) = not (byte == number_sign)

-- the bytes spell this line, or no line
abbrev pub Means : List ℕ → Option Line → Type 0
Means bytes (Some line) = IsLine line × (spelling line ≡ bytes)
Means bytes None = (line : Line) → IsLine line → ¬ (spelling line ≡ bytes)

-- each of the first means its own of the second
abbrev pub MeanAll : List (List ℕ) → List (Option Line) → Type 0
MeanAll [] [] = Unit {0}
MeanAll [] (line ∷ lines) = ⊥
MeanAll (bytes ∷ rest) [] = ⊥
MeanAll (bytes ∷ rest) (line ∷ lines) = Means bytes line × MeanAll rest lines

-- a reply as it is written
abbrev pub reply_line : Reply → List ℕ
reply_line reply = reply_spelling reply ++ newline ∷ []

-- all replies, one after another
abbrev pub written_replies : List Reply → List ℕ
written_replies replies = flat_map reply_line replies

-- at most so many bytes of a line are kept: one more than any line of the grammar has
abbrev pub kept_of : List ℕ → List ℕ
kept_of part = take (MOST_LINE_BYTES + 1) part

-- what is kept of a line: what there is with a part of it, or else so much of the bytes that it lies in
abbrev pub ended : List ℕ → List ℕ → List ℕ
ended [] bytes = kept_of bytes
ended (byte ∷ kept) bytes = byte ∷ kept
