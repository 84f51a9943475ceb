-- What is so from before a write of no bytes, where it is so from behind it.
use Rattle.std.proofs.Common.{◌≡◌, inl, inr, ℕ, List, [], ◌++◌, take, Option, None, Some, refl, sym, ◌∙◌, ap, arith}
use Rattle.std.proofs.KnownBytes.{Keeps-trans}
use Rattle.std.proofs.lemmas.List.{append-nil, take_all}
use Rattle.std.specs.Io.KnownBytes.{Appends, Keeps}
use Rattle.ktm_base.specs.Disk.{DiskState, DiskStatus}
use Rattle.ktm_run.specs.Early.{Outside, NotRun, FoundBad, FoundWorn, EndsAs}
use Rattle.ktm_dump.specs.Written.{AppendsPart}
use Rattle.ktm_run.specs.Theorem.{Moment, moment_of, Replied, EndedBetween, EndedWithin, EndedEarly}
use Rattle.ktm_run.specs.declared.status.Status.{Status}
use Rattle.ktm_run.specs.declared.status.Status.TheVariants.{Done, Usage, SourceFault, SinkFault, NoMemory, BadImage, DiskFault, ScriptTooLong, Worn}
use Rattle.ktm_world.specs.Durable.{Durable}

take_none : (n : ℕ) → take {A = ℕ} n [] ≡ []
take_none n = take_all n [] (omega arith)

-- a write of no bytes
pub none_written : (a b : Option (List ℕ)) (n : ℕ) → Appends a b (take n []) → Keeps a b
none_written None b n h = tt
none_written (Some xs) None n h = absurd h
none_written (Some xs) (Some ys) n h = h ∙ ap (λ (l : List ℕ). xs ++ l) (take_none n) ∙ append-nil xs

pub Appends-after : (a b c : Option (List ℕ)) (xs : List ℕ) → Keeps a b → Appends b c xs → Appends a c xs
Appends-after None b c xs k h = tt
Appends-after (Some a) None c xs k h = absurd k
Appends-after (Some a) (Some b) None xs k h = absurd h
Appends-after (Some a) (Some b) (Some c) xs k h = h ∙ ap (λ (l : List ℕ). l ++ xs) k

pub AppendsPart-after : (a b c : Option (List ℕ)) (xs : List ℕ) → Keeps a b → AppendsPart b c xs → AppendsPart a c xs
AppendsPart-after a b c xs k (part, rest, split, took) = (part, rest, split, Appends-after a b c part k took)

-- a failed write
pub none_taken : (a b : Option (List ℕ)) (xs : List ℕ) → Keeps a b → AppendsPart a b xs
none_taken a b xs k = ([], xs, refl, nothing a b k)
  where
    nothing : (a b : Option (List ℕ)) → Keeps a b → Appends a b []
    nothing None b k = tt
    nothing (Some a) None k = absurd k
    nothing (Some a) (Some b) k = k ∙ sym (append-nil a)

module _ (left : Option (List ℕ)) (a b : Option (List ℕ)) (disk : Option DiskState) (status : DiskStatus) (keeps : Keeps a b) where
  abbrev before : Outside
  before = record { left = left; taken = a; disk = disk; status = status }

  abbrev behind : Outside
  behind = record { left = left; taken = b; disk = disk; status = status }

  not_run : (new : Outside) → NotRun behind new → NotRun before new
  not_run new h = record { not_read = h.not_read; plan_is = h.plan_is }

  found_bad : (offset : ℕ) (new : Outside) → FoundBad offset behind new → FoundBad offset before new
  found_bad offset new h = record { not_run = not_run new h.not_run; same = h.same; bad = h.bad }

  found_worn : (new : Outside) → FoundWorn behind new → FoundWorn before new
  found_worn new h = record { not_run = not_run new h.not_run; same = h.same; worn = h.worn }

  pub probed_ends : (result : Status) (Opened : Type 0) (new : Outside) → EndsAs result Opened behind new → EndsAs result Opened before new
  probed_ends Done Opened new h = h
  probed_ends SourceFault Opened new h = h
  probed_ends ScriptTooLong Opened new h = h
  probed_ends SinkFault Opened new (inl h) = inl (record {
    alone = record { source = h.alone.source; disk = h.alone.disk; status = h.alone.status };
    not_written = Keeps-trans a b new.taken keeps h.not_written;
  })
  probed_ends SinkFault Opened new (inr (inl (offset, bad, wrote))) = inr (inl (offset, found_bad offset new bad, AppendsPart-after a b new.taken _ keeps wrote))
  probed_ends SinkFault Opened new (inr (inr (inl (worn, wrote)))) = inr (inr (inl (found_worn new worn, AppendsPart-after a b new.taken _ keeps wrote)))
  probed_ends SinkFault Opened new (inr (inr (inr h))) = inr (inr (inr h))
  probed_ends NoMemory Opened new (inl h) = inl (record { not_run = not_run new h.not_run; not_written = Keeps-trans a b new.taken keeps h.not_written; disk = h.disk })
  probed_ends NoMemory Opened new (inr h) = inr h
  probed_ends BadImage Opened new (offset, bad, wrote) = (offset, found_bad offset new bad, Appends-after a b new.taken _ keeps wrote)
  probed_ends Worn Opened new (worn, wrote) = (found_worn new worn, Appends-after a b new.taken _ keeps wrote)
  probed_ends DiskFault Opened new h = record { not_run = not_run new h.not_run; not_written = Keeps-trans a b new.taken keeps h.not_written; went_down = h.went_down }
  probed_ends Usage Opened new h = absurd h

  module _ (base : Durable) where
    abbrev replied : (at : Moment) (lines : List (List ℕ)) → Replied base (moment_of behind) at lines → Replied base (moment_of before) at lines
    replied at lines h = record { executed = h.executed; wrote = Appends-after a b at.taken _ keeps h.wrote }

    between : (new : Outside) (script lines : List ℕ) → EndedBetween base behind new script lines → EndedBetween base before new script lines
    between new script lines h = record { was_read = h.was_read; unworn = h.unworn; replied = replied (moment_of new) _ h.replied }

    within : (new : Outside) → EndedWithin base behind new → EndedWithin base before new
    within new h = record {
      script = h.script;
      was_read = h.was_read;
      within = h.within;
      unworn = h.unworn;
      lines = h.lines;
      may = h.may;
      before = h.before;
      line = h.line;
      behind = h.behind;
      split = h.split;
      wants_reply = h.wants_reply;
      at = h.at;
      replied = replied h.at h.before h.replied;
      broke = h.broke;
    }

    pub probed_early : (result : Status) (new : Outside) → EndedEarly result base behind new → EndedEarly result base before new
    probed_early Done new h = record { script = h.script; was_read = h.was_read; at_end = h.at_end; within = h.within; unworn = h.unworn; replied = replied (moment_of new) _ h.replied }
    probed_early SourceFault new (script, short, h) = (script, short, between new script script h)
    probed_early ScriptTooLong new (script, long, h) = (script, long, between new script _ h)
    probed_early SinkFault new (inl h) = inl (record {
      alone = record { source = h.alone.source; disk = h.alone.disk; status = h.alone.status };
      not_written = Keeps-trans a b new.taken keeps h.not_written;
    })
    probed_early SinkFault new (inr (inl h)) = inr (inl (within new h))
    probed_early SinkFault new (inr (inr (worn, wrote))) = inr (inr (worn, AppendsPart-after a b new.taken _ keeps wrote))
    probed_early NoMemory new (inl h) = inl (record { not_read = h.not_read; not_written = Keeps-trans a b new.taken keeps h.not_written; plan_is = h.plan_is; image = h.image })
    probed_early NoMemory new (inr h) = inr (within new h)
    probed_early Worn new (worn, wrote) = (worn, Appends-after a b new.taken _ keeps wrote)
    probed_early BadImage new h = absurd h
    probed_early Usage new h = absurd h
    probed_early DiskFault new h = h
