-- The machine's count of events, line by line, and how many lines there are.
use Rattle.std.proofs.Common.{◌≡◌, inl, inr, ℕ, zero, suc, ◌+◌, ◌<◌, ◌≤◌, Bool, true, false, cond, List, [], ◌∷◌, ◌++◌, length, take, eqb, Option, refl, sym, ap, subst, arith, length-append, length-take}
use Rattle.std.specs.List.{filter}
use Rattle.ktm_base.specs.declared.limits.TheConstants.{MOST_SCRIPT_BYTES}
use Rattle.ktm_gen.specs.declared.generator.TheConstants.{MOST_LINES}
use Rattle.ktm_gen.specs.Script.{generated_lines, line_at}
use Rattle.ktm_kernel.specs.Answers.{IsCountedBy}
use Rattle.ktm_kernel.specs.Restarts.{IsFreshlyCounted}
use Rattle.ktm_kernel.specs.Stands.{KernelState}
use Rattle.ktm_laws.specs.Running.{HasEventsLeft}
use Rattle.ktm_records.specs.Spelling.{most_at_once}
use Rattle.ktm_run.specs.Lasting.{LastsAfter, LastsForLines}
use Rattle.ktm_run.specs.Lawful.{most_lines}
use Rattle.ktm_run.specs.Script.{MayExecute, MeanAll, cut_lines, has_reply, last_line, lines_from, part_from}
use Rattle.ktm_world.specs.declared.command.Line.{Line}

-- ---- the count of events

-- it lasts for fewer lines
pub lasts_fewer : (k : KernelState) (more fewer : ℕ) → fewer ≤ more → LastsForLines more k → LastsForLines fewer k
lasts_fewer k more fewer less lasts = record { now = omega (arith, lasts.now, less); restarted = omega (arith, lasts.restarted, less) }

-- for one line it lasts where there is one
pub lasts_one : (k : KernelState) (lines : ℕ) → 0 < lines → LastsForLines lines k → HasEventsLeft k.now
lasts_one k lines some lasts = omega (arith, lasts.now, some)

-- a line that records few events
pub lasts_few : (old new : KernelState) → new.now.recorded.events ≤ old.now.recorded.events + most_at_once → LastsAfter 1 old new
lasts_few old new few = λ left lasts. record { now = omega (arith, lasts.now, few); restarted = omega (arith, lasts.restarted) }

-- a line that records nothing
pub lasts_same : (old new : KernelState) → new.now.recorded.events ≡ old.now.recorded.events → LastsAfter 1 old new
lasts_same old new same = lasts_few old new (omega (arith, same))

-- a restart that started the machine, or did not
pub lasts_restarted : (started : Bool) (old new : KernelState) → IsCountedBy started old.now new.now → LastsAfter 1 old new
lasts_restarted true old new fresh = λ left lasts. record { now = omega (arith, lasts.restarted, fresh); restarted = omega (arith, lasts.restarted) }
lasts_restarted false old new same = lasts_same old new same

-- a line behind which fewer are left
pub lasts_line : (old new : KernelState) (more fewer : ℕ) → fewer < more → LastsAfter 1 old new → LastsForLines more old → LastsForLines fewer new
lasts_line old new more fewer less after lasts = after fewer (lasts_fewer old more (1 + fewer) (omega (arith, less)) lasts)

-- a machine that has just started
pub lasts_fresh : (k : KernelState) (lines : ℕ) → lines ≤ most_lines → IsFreshlyCounted k.now → LastsForLines lines k
lasts_fresh k lines few fresh = record { now = omega (arith, few, fresh); restarted = omega (arith, few) }

-- ---- how many lines there are

-- a line of a script has a byte of its own, its newline
lines_few : (part bytes : List ℕ) → length (lines_from part bytes) ≤ length bytes
lines_few part [] = omega arith
lines_few part (byte ∷ bytes) =
    elim (eqb byte 10) as (λ t. length (cond t (part ∷ lines_from [] bytes) (lines_from (part ++ byte ∷ []) bytes)) ≤ length (byte ∷ bytes))
    [ true ↦ (let rest = lines_few [] bytes in omega (arith, rest)) | false ↦ (let rest = lines_few (part ++ byte ∷ []) bytes in omega (arith, rest)) ]

last_few : (part : List ℕ) → length (last_line part) ≤ 1
last_few [] = omega arith
last_few (byte ∷ bytes) = omega arith

pub between_few : (script : List ℕ) → length script ≤ MOST_SCRIPT_BYTES → length (lines_from [] script) ≤ most_lines
between_few script short = let few = lines_few [] script in omega (arith, few, short)

pub cut_few : (script : List ℕ) → length script ≤ MOST_SCRIPT_BYTES → length (cut_lines script) ≤ most_lines
cut_few script short = let few = lines_few [] script in let last = last_few (part_from [] script) in omega (arith, length-append (lines_from [] script) (last_line (part_from [] script)), few, last, short)

-- those of the first bytes
pub front_few : (script : List ℕ) → length (lines_from [] (take MOST_SCRIPT_BYTES script)) ≤ most_lines
front_few script = between_few (take MOST_SCRIPT_BYTES script) (omega (arith, length-take MOST_SCRIPT_BYTES script))

-- those before one of them
pub before_few : (left : Option (List ℕ)) (script : List ℕ) (lines before behind : List (List ℕ)) (line : List ℕ) → length script ≤ MOST_SCRIPT_BYTES → MayExecute left script lines → lines ≡ before ++ line ∷ behind
    → length before ≤ most_lines
before_few left script lines before behind line short may split = omega (arith, all may, ap (λ (l : List (List ℕ)). length l) split, length-append before (line ∷ behind))
  where
    all : MayExecute left script lines → length lines ≤ most_lines
    all (inl is) = subst (λ (l : List (List ℕ)). length l ≤ most_lines) (sym is) (between_few script short)
    all (inr (is, at_end)) = subst (λ (l : List (List ℕ)). length l ≤ most_lines) (sym is) (cut_few script short)

-- those of a generated script
generated_many : (number lines : ℕ) → length (generated_lines number lines) ≡ lines
generated_many number zero = refl
generated_many number (suc lines) = let before = generated_many number lines in omega (arith, before, length-append (generated_lines number lines) (line_at number lines ∷ []))

pub generated_few : (number lines : ℕ) → lines ≤ MOST_LINES → length (generated_lines number lines) ≤ most_lines
generated_few number lines few = omega (arith, few, generated_many number lines)

-- there are as many meanings as lines that have a reply, and no more than lines
means_as_many : (lines : List (List ℕ)) (meant : List (Option Line)) → MeanAll lines meant → length meant ≡ length lines
means_as_many [] [] mean = refl
means_as_many [] (m ∷ meant) mean = absurd mean
means_as_many (line ∷ lines) [] mean = absurd mean
means_as_many (line ∷ lines) (m ∷ meant) mean = let rest = means_as_many lines meant mean.1 in omega (arith, rest)

replied_few : (lines : List (List ℕ)) → length (filter has_reply lines) ≤ length lines
replied_few [] = omega arith
replied_few (line ∷ lines) = let rest = replied_few lines in
    elim (has_reply line) as (λ t. length (cond t (line ∷ filter has_reply lines) (filter has_reply lines)) ≤ length (line ∷ lines)) [ true ↦ omega (arith, rest) | false ↦ omega (arith, rest) ]

pub meant_few : (lines : List (List ℕ)) (meant : List (Option Line)) → MeanAll (filter has_reply lines) meant → length lines ≤ most_lines → length meant ≤ most_lines
meant_few lines meant mean few = let same = means_as_many (filter has_reply lines) meant mean in let fewer = replied_few lines in omega (arith, same, fewer, few)
