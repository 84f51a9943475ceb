-- The summary of a run of a generated script, which counts its replies.
use Rattle.std.specs.Prelude.{ℕ, Bool, true, false, List, [], ◌∷◌, ◌++◌, length, take, codes, decimal, bytes_eq, count_by}
use Rattle.ktm_reply.specs.Spelling.{reply_spelling}
use Rattle.ktm_dump.specs.Written.{newline}
use Rattle.ktm_world.specs.declared.reply.Reply.{Reply}
use Rattle.ktm_world.specs.declared.reply.Reply.TheVariants.{Refused}
use Rattle.ktm_world.specs.Durable.{stand}
use Rattle.ktm_world.specs.World.{World}

-- does a reply begin with this word, as it is spelled
abbrev pub begins_with : List ℕ → Reply → Bool
begins_with word reply = bytes_eq (take (length word) (reply_spelling reply)) word

-- was it done
abbrev pub is_ok : Reply → Bool
is_ok reply = begins_with (codes "ok") reply

-- was it refused
abbrev pub is_refused : Reply → Bool
is_refused (Refused refusal) = true
is_refused reply = false

-- did the machine start
abbrev pub is_start : Reply → Bool
is_start reply = begins_with (codes "restarted") reply

-- a number behind its name
abbrev pub named : List ℕ → ℕ → List ℕ
named name number = name ++ decimal number

-- the numbers of a summary, in its one line
abbrev pub summary : ℕ → ℕ → ℕ → ℕ → ℕ → List ℕ
summary lines ok refused restarts events =
    named (codes "lines=") lines
    ++ named (codes " ok=") ok
    ++ named (codes " refused=") refused
    ++ named (codes " restarts=") restarts
    ++ named (codes " events=") events
    ++ newline ∷ []

-- how many lines there were, how many replies of each kind, and how many events the log has of the world that they come to
abbrev pub summary_line : ℕ → List Reply → World → List ℕ
summary_line lines replies w = summary lines (count_by is_ok replies) (count_by is_refused replies) (count_by is_start replies) (stand w.base w.log).events
