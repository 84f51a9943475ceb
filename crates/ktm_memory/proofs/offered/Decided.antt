-- What changes nothing of what memory holds before it is recorded.
use Rattle.std.proofs.Common.{◌≡◌, ◌≢◌, [], refl, sym, ◌∙◌, ap, subst}
use Rattle.std.proofs.lemmas.List.Elements.{All-nil}
use Rattle.ktm_base.specs.declared.refusal.Refusal.{Refusal}
use Rattle.ktm_each.specs.Each.{EachOfEvent, EachOfGroup}
use Rattle.ktm_event.specs.Kept.{EventsState, Holds}
use Rattle.ktm_world.specs.declared.reply.Reply.{Reply}
use Rattle.ktm_world.specs.declared.reply.Reply.TheVariants.{Refused}
use Rattle.ktm_world.specs.Outcome.{Outcome, apply, only_reply}
use Rattle.ktm_world.specs.Present.{Present}
use Rattle.ktm_memory.specs.declared.settlement.Settlement.{Settlement}
use Rattle.ktm_memory.specs.declared.settlement.Settlement.TheVariants.{Nothing}
use Rattle.ktm_memory.specs.Decided.{Decides, HoldsRecordOf}
use Rattle.ktm_memory.specs.Memory.{LayersNow, MaySettle, MemoryState, held, now_of, present_of, recorded_of}
use Rattle.ktm_memory.specs.Rules.{Follows, PutsAlone}
use Rattle.ktm_memory.specs.Settled.{left_to_do}
use Rattle.ktm_memory.proofs.offered.Records.{none_recorded}

-- what is left to do comes to what the outcome comes to
pub decided : (h : LayersNow) (n : MemoryState) (o : Outcome) (reply : Reply) (then : Settlement) (events : EventsState) → reply ≡ o.reply → HoldsRecordOf (recorded_of h) events o.events
    → held n ≡ h → (left_to_do (now_of h) then).events ≡ o.events → (left_to_do (now_of h) then).sent ≡ o.sent → apply (now_of h) (left_to_do (now_of h) then) ≡ apply (now_of h) o → MaySettle n then → PutsAlone (now_of h) then
    → (o.events ≢ [] → (refusal : Refusal) → reply ≢ Refused refusal) → Decides h o reply then events n
decided h n o reply then events says records same group tells comes may puts answers = record {
  says = says;
  records = records;
  journal = ap (λ (g : LayersNow). g.journal) same;
  group = ap (λ (g : LayersNow). (left_to_do (now_of g) then).events) same ∙ group;
  tells = ap (λ (g : LayersNow). (left_to_do (now_of g) then).sent) same ∙ tells;
  comes_to = ap (λ (g : LayersNow). apply (now_of g) (left_to_do (now_of g) then)) same ∙ comes;
  may = may;
  puts = subst (λ (g : LayersNow). PutsAlone (now_of g) then) (sym same) puts;
  waits = λ some. same;
  answers = answers;
}

-- where nothing is recorded nothing is put
pub puts_none : (x : Present) (then : Settlement) → (left_to_do x then).events ≡ [] → PutsAlone x then
puts_none x then none rule each = subst (EachOfGroup (Follows rule)) (sym none) (All-nil (EachOfEvent (Follows rule)))

-- where nothing is recorded, what is left to do comes to what the outcome comes to
pub quiet_decided : (h : LayersNow) (n : MemoryState) (o : Outcome) (reply : Reply) (then : Settlement) (events : EventsState) → reply ≡ o.reply → o.events ≡ [] → held n ≡ h
    → (left_to_do (now_of h) then).events ≡ o.events → (left_to_do (now_of h) then).sent ≡ o.sent → apply (now_of h) (left_to_do (now_of h) then) ≡ apply (now_of h) o → MaySettle n then → Holds events [] → Decides h o reply then events n
quiet_decided h n o reply then events says none same group tells comes may holds =
    decided h n o reply then events says (none_recorded (recorded_of h) events o.events none holds) same group tells comes may (puts_none (now_of h) then (group ∙ none)) (λ some. absurd (some none))

-- a reply, and nothing left to do
pub only_decided : (m : MemoryState) (o : Outcome) (reply : Reply) (events : EventsState) → o ≡ only_reply (present_of m) reply → Holds events []
    → Decides (held m) o reply Nothing events m
only_decided m o reply events is holds =
    subst (λ o. Decides (held m) o reply Nothing events m) (sym is) (quiet_decided (held m) m (only_reply (present_of m) reply) reply Nothing events refl refl refl refl refl refl tt holds)
