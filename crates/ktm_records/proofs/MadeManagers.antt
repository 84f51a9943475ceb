-- What a new resource manager records applies.
use Rattle.std.proofs.Common.{◌≡◌, ◌+◌, ◌<◌, ◌≤◌, ◌^◌, not, true, false, List, [], ◌∷◌, length, filter, nat_le, Option, Some, None, refl, sym, ◌∙◌, ap, subst, arith}
use Rattle.std.proofs.lemmas.Bool.{and_from, and_parts, eq-eqb, le-leb, lt-ltb, ltb-false, not_from_false, or_parts}
use Rattle.std.proofs.lemmas.List.{length-map}
use Rattle.std.specs.List.{list_any}
use Rattle.ktm_base.specs.declared.limits.TheConstants.{MOST_LIVE}
use Rattle.ktm_base.specs.declared.id.Id.{Id}
use Rattle.ktm_base.specs.declared.id.Label.{Label}
use Rattle.ktm_base.specs.declared.id.Pid.{Pid}
use Rattle.ktm_base.specs.declared.refusal.Refusal.{Refusal}
use Rattle.ktm_base.specs.declared.refusal.Refusal.TheVariants.{MachineDown}
use Rattle.ktm_world.specs.declared.command.Command.TheVariants.{CreateResourceManager}
use Rattle.ktm_world.specs.declared.options.Durability.{Durability}
use Rattle.ktm_world.specs.Decide.{command_effect, command_tests}
use Rattle.ktm_world.specs.Durable.{Durable, events_apply, is_before, is_within_limits, with_manager}
use Rattle.ktm_world.specs.Enlistments.{Manager}
use Rattle.ktm_world.specs.Lawful.{Agrees}
use Rattle.ktm_world.specs.Outcome.{first_refusal, refuse_or}
use Rattle.ktm_world.specs.Present.{Present}
use Rattle.ktm_world.specs.TransactionCalls.{create_resource_manager, create_resource_manager_tests}
use Rattle.ktm_world.specs.Transactions.{same_id}
use Rattle.txf_laws.specs.GoodState.{IsGoodState}
use Rattle.ktm_records.specs.MadeManagers.{MadeManagersLaw}
use Rattle.ktm_courses.specs.SoundCourse.{IsSoundCourse, is_counted}
use Rattle.ktm_records.proofs.offered.Agreement.{durable_ids}
use Rattle.ktm_courses.proofs.offered.Calls.{Passes, passed}
use Rattle.txf_laws.proofs.offered.Diamonds.{none-from}
use Rattle.txf_laws.proofs.offered.Elements.{IsIn-filter, list_all-at, length-filter-less}
use Rattle.txf_laws.proofs.offered.Lists.{IsIn-unmap}
use Rattle.ktm_courses.proofs.offered.NewObjects.{next_id, next-other}
use Rattle.ktm_steps.proofs.offered.Ways.{if_cases}

-- one manager more
one-more : (ids : List Id) (id : Id) → length (with_manager ids id) ≡ length ids + 1
one-more [] id = refl
one-more (a ∷ ids) id = if_cases (λ xs. length xs ≡ length (a ∷ ids) + 1) (is_before id a) (id ∷ a ∷ ids) (a ∷ with_manager ids id) (λ is. omega arith) (λ is. omega (arith, one-more ids id))

-- the durable ones are no more than all
durable-fewer : (ms : List Manager) → length (durable_ids ms) ≤ length ms
durable-fewer ms = subst (λ n. n ≤ length ms) (sym (length-map (filter (λ (m : Manager). m.is_durable) ms) (λ (m : Manager). m.id))) (length-filter-less (λ (m : Manager). m.is_durable) ms)

limits-made : (s : Durable) (id : Id) → is_within_limits s ≡ true → length s.managers + 1 ≤ MOST_LIVE → is_within_limits (record s { managers = with_manager s.managers id }) ≡ true
unfolding is_within_limits
limits-made s id limits few = and_from _ _ (and_parts _ (nat_le (length s.managers) MOST_LIVE) limits).0 (le-leb _ _ (omega (arith, one-more s.managers id, few)))

module _ (x : Present) (process : Pid) (label : Label) (sound : IsSoundCourse x) (good : IsGoodState x.recorded) (agrees : Agrees x) (few : x.recorded.events + 1 < 2 ^ 63) where
  abbrev id : Id
  id = next_id x.recorded.boots x.transactions.last_manager

  new-id : list_any (λ other. same_id other id) x.recorded.managers ≡ false
  new-id = ap (list_any (λ other. same_id other id)) agrees.managers ∙ none-from (λ other. same_id other id) (durable_ids x.managers) (λ a there.
      let from = IsIn-unmap (λ (m : Manager). m.id) a (filter (λ (m : Manager). m.is_durable) x.managers) there in
      subst (λ b. same_id b id ≡ false) from.1 (next-other x.recorded.boots x.transactions.last_manager (from.0).id
      (list_all-at (λ (m : Manager). is_counted x.recorded.boots x.transactions.last_manager m.id) x.managers sound.managers.counted from.0 (IsIn-filter (λ (m : Manager). m.is_durable) x.managers from.0 from.2).0)))

  made-applies : (durability : Durability) → length x.managers + 1 ≤ MOST_LIVE → events_apply x.recorded (create_resource_manager x process label durability).events ≡ true
  unfolding create_resource_manager
  made-applies Durability.Volatile room = refl
  made-applies Durability.Durable room = and_from _ _ (and_from _ _ (and_from _ _
      (and_from _ _ (eq-eqb x.recorded.boots x.recorded.boots refl) (not_from_false _ new-id))
      (limits-made x.recorded id good.limits (omega (arith, room, durable-fewer x.managers, ap (λ (ids : List Id). length ids) agrees.managers))))
      (lt-ltb _ _ few)) refl

  room-left : Passes (create_resource_manager_tests x process label) → length x.managers + 1 ≤ MOST_LIVE
  unfolding create_resource_manager_tests
  room-left passes =
      let free = passed passes in
      let quota = passed free.1 in
      ltb-false MOST_LIVE (length x.managers + 1) (or_parts _ _ (or_parts _ _ quota.0).1).0

  go : (durability : Durability) (refusal : Option Refusal) → first_refusal ((not x.machine.is_up, MachineDown) ∷ command_tests x process (CreateResourceManager label durability)) ≡ refusal
      → events_apply x.recorded (refuse_or x refusal (command_effect x process (CreateResourceManager label durability))).events ≡ true
  go durability (Some refusal) is = refl
  go durability None is =
      let passes : Passes ((not x.machine.is_up, MachineDown) ∷ command_tests x process (CreateResourceManager label durability)) = record { none = is } in
      made-applies durability (room-left (passed passes).1)

pub made_managers_law : MadeManagersLaw
made_managers_law x process label durability sound good agrees few = go x process label sound good agrees few durability _ refl
