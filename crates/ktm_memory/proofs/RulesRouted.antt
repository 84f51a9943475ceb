-- Rules that what a call comes to follows.
use Rattle.std.proofs.Common.{◌≡◌, ℕ, Bool, [], ◌∷◌, length, Option, Some, None, refl, sym, ap, subst, ◌∙◌, arith}
use Rattle.std.proofs.lemmas.List.Elements.{All-nil}
use Rattle.ktm_base.specs.declared.id.Label.{Label}
use Rattle.ktm_base.specs.declared.id.Pid.{Pid}
use Rattle.ktm_base.specs.declared.refusal.Refusal.{Refusal}
use Rattle.ktm_each.specs.Each.{EachOfEvent, EachOfFiles, EachOfGroup}
use Rattle.ktm_event.specs.Kept.{EventsState, Holds}
use Rattle.ktm_paged.specs.Paged.{meant_group}
use Rattle.ktm_world.specs.declared.options.Durability.{Durability}
use Rattle.ktm_world.specs.declared.reply.Reply.{Reply}
use Rattle.ktm_world.specs.Durable.{Durable}
use Rattle.ktm_world.specs.Logs.{Group}
use Rattle.ktm_world.specs.Outcome.{Outcome, refuse_or}
use Rattle.ktm_world.specs.TransactionCalls.{create_resource_manager}
use Rattle.ktm_tm.specs.TmState.{id_after}
use Rattle.txf_volume.specs.Held.{files_of}
use Rattle.ktm_memory.specs.declared.settlement.Settlement.{Settlement}
use Rattle.ktm_memory.specs.Decided.{Decides, HoldsRecordOf}
use Rattle.ktm_memory.specs.Memory.{LayersNow, MemoryState, now_of, recorded_of}
use Rattle.ktm_memory.specs.Rules.{Follows, KeepsRules}
use Rattle.ktm_memory.proofs.ObjectsDecided.{manager_bare, manager_records}
use Rattle.ktm_memory.proofs.offered.Following.{bare-each}

-- an empty list holds no record of events
nothing_events : (s : Durable) (state : EventsState) (events : Group) → HoldsRecordOf s state events → Holds state [] → events ≡ []
nothing_events s state events record_of empty = sym record_of.is.means ∙ ap (meant_group s) (none record_of.raw (record_of.holds.counted ∙ sym empty.counted))
  where
    none : (raw : Group) → length raw ≡ 0 → raw ≡ []
    none [] long = refl
    none (e ∷ es) long = absurd (omega (arith, long))

-- a call that records nothing and leaves the files
pub quiet_rules : (puts : (ℕ → ℕ → ℕ → Bool) → Type 0) (h : LayersNow) (o : Outcome) (reply : Reply) (then : Settlement) (events : EventsState) (n : MemoryState) → Decides h o reply then events n → Holds events [] → files_of n.files ≡ h.files
    → KeepsRules puts h.files o.events (files_of n.files)
quiet_rules puts h o reply then events n decides empty same = λ rule none each follows. (
  subst (EachOfGroup (Follows rule)) (sym (nothing_events (recorded_of h) events o.events decides.records empty)) (All-nil (EachOfEvent (Follows rule))),
  subst (EachOfFiles (Follows rule)) (sym same) each,
)

-- one that is refused, or makes a resource manager
pub manager_rules : (puts : (ℕ → ℕ → ℕ → Bool) → Type 0) (h : LayersNow) (process : Pid) (label : Label) (durability : Durability) (refusal : Option Refusal) (n : MemoryState) → files_of n.files ≡ h.files
    → KeepsRules puts h.files (refuse_or (now_of h) refusal (create_resource_manager (now_of h) process label durability)).events (files_of n.files)
manager_rules puts h process label durability refusal n same = λ rule none each follows. (events rule refusal, subst (EachOfFiles (Follows rule)) (sym same) each)
  where
    events : (rule : ℕ → ℕ → ℕ → Bool) (refusal : Option Refusal) → EachOfGroup (Follows rule) (refuse_or (now_of h) refusal (create_resource_manager (now_of h) process label durability)).events
    events rule (Some r) = All-nil (EachOfEvent (Follows rule))
    events rule None =
        let id = id_after h.boot h.transactions.last_manager in
        subst (EachOfGroup (Follows rule)) (manager_records h process label durability id refl) (bare-each (Follows rule) _ (manager_bare id durability))
