-- Commands that have no bytes, and what follows another that comes to the same.
use Rattle.std.proofs.Common.{◌≡◌, ℕ, length, map, refl, sym, ◌∙◌, ap, inl}
use Rattle.ktm_base.specs.declared.id.Pid.{Pid}
use Rattle.ktm_world.specs.declared.command.Command.{Command}
use Rattle.ktm_world.specs.declared.command.Command.TheVariants.{ReadFile, WriteFile, WriteUnits}
use Rattle.ktm_world.specs.declared.reply.Reply.{Reply}
use Rattle.ktm_world.specs.Decide.{decide, refusal_of}
use Rattle.ktm_world.specs.Outcome.{Outcome, apply}
use Rattle.ktm_world.specs.Present.{Present}
use Rattle.ktm_world.specs.World.{decide_tick}
use Rattle.ktm_mapped.specs.Mapped.{IsBlank}
use Rattle.ktm_alike.specs.Alike.{mapped_answer, mapped_command, mapped_present, mapped_reply}
use Rattle.ktm_alike.specs.Laws.{AlikeLaw}
use Rattle.ktm_units.proofs.Twice.{present-twice}
use Rattle.ktm_units.specs.Units.{CommandsSame, IsOfNoBytes, IsSameOutcome, LeavesSame}

-- the command has the same bytes then
same-command : (f : ℕ → ℕ) (c : Command) → IsOfNoBytes c → mapped_command f c ≡ c
same-command f (ReadFile file offset many) none = refl
same-command f (WriteFile file offset bytes) none = ap (WriteFile file offset) (ap (map f) none ∙ sym none)
same-command f (WriteUnits file start contents) none = absurd none
same-command f _ none = refl

-- and its reply is the same
same-reply : (f : ℕ → ℕ) (c : Command) (reply : Reply) → IsOfNoBytes c → mapped_reply f c reply ≡ reply
same-reply f (ReadFile file offset many) reply none = absurd none
same-reply f _ reply none = refl

module _ (law : AlikeLaw) (f : ℕ → ℕ) (blank : IsBlank f) (x : Present) where
  -- what comes to the same with the bytes in the place of the places leaves the same
  pub leaves : (c : Command) (o asked : Outcome) → asked ≡ mapped_answer f c o → LeavesSame f x o asked
  leaves c o asked is = record {
    comes_to = ap (apply (mapped_present f x)) is ∙ (law f blank).1.answered x c o;
    events = inl (ap (λ (o : Outcome). o.events) is);
  }

  pub command-same : (process : Pid) (c : Command) → IsOfNoBytes c → IsSameOutcome f x (decide x process c) (decide (mapped_present f x) process c)
  command-same process c none =
      let is = ap (decide (mapped_present f x) process) (sym (same-command f c none)) ∙ (law f blank).0.decided x process c in
      record { reply = ap (λ (o : Outcome). o.reply) is ∙ same-reply f c (decide x process c).reply none; leaves = leaves c (decide x process c) (decide (mapped_present f x) process c) is }

  pub commands-same : CommandsSame f x
  commands-same = record {
    command = command-same;
    read = λ process file offset many.
        let is = (law f blank).0.decided x process (ReadFile file offset many) in
        (leaves (ReadFile file offset many) (decide x process (ReadFile file offset many)) (decide (mapped_present f x) process (ReadFile file offset many)) is, ap (λ (o : Outcome). o.reply) is);
    tick = λ ms.
        let is = (law f blank).0.ticked x ms in
        record {
          reply = ap (λ (o : Outcome). o.reply) is;
          leaves = record {
            comes_to = ap (apply (mapped_present f x)) is ∙ (law f blank).1.applied x (decide_tick x ms);
            events = inl (ap (λ (o : Outcome). o.events) is);
          };
        };
    refused = λ process file offset bytes.
        sym ((law zero refl).0.refused (mapped_present f x) process (WriteFile file offset bytes))
        ∙ ap (λ (y : Present). refusal_of y process (WriteFile file offset (map zero bytes))) (present-twice f zero (λ byte. refl) x)
        ∙ (law zero refl).0.refused x process (WriteFile file offset bytes);
  }
    where
      -- nothing but zeros
      zero : ℕ → ℕ
      zero byte = 0
