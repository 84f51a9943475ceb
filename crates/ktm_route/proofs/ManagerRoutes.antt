-- Calls on resource managers: from a command to its call.
use Rattle.std.proofs.Common.{◌≡◌, ◌&&◌, ℕ, cond, Bool, true, false, List, [], ◌∷◌, Option, Some, None, is_some, is_none, option_map, refl, sym, ◌∙◌, ap}
use Rattle.std.proofs.lemmas.Option.{same_Some}
use Rattle.ktm_base.specs.declared.id.Id.{Id}
use Rattle.ktm_base.specs.declared.id.Label.{Label}
use Rattle.ktm_base.specs.declared.id.Pid.{Pid}
use Rattle.ktm_base.specs.declared.refusal.Refusal.{Refusal}
use Rattle.ktm_base.specs.declared.refusal.Refusal.TheVariants.{InvalidHandle, InvalidParameter, ResourceManagerNotFound, WaitTimeout}
use Rattle.ktm_world.specs.declared.command.Command.{Command}
use Rattle.ktm_world.specs.declared.command.Command.TheVariants.{CreateResourceManager, GetNotificationResourceManager, OpenResourceManager, RecoverResourceManager}
use Rattle.ktm_world.specs.declared.object.Object.TheVariants.{Manager as ManagerObject}
use Rattle.ktm_world.specs.declared.options.Durability.{Durability}
use Rattle.ktm_world.specs.declared.reply.Reply.TheVariants.{Refused}
use Rattle.ktm_world.specs.Decide.{command_effect, command_tests, decide}
use Rattle.ktm_world.specs.Enlistments.{Manager, manager_at}
use Rattle.ktm_world.specs.Labels.{holds_of, is_bound, manager_named}
use Rattle.ktm_world.specs.Outcome.{first_refusal, only_reply, refuse_or}
use Rattle.ktm_world.specs.Present.{Present}
use Rattle.ktm_world.specs.TransactionCalls.{create_resource_manager_tests, get_notification, handle_test, has_empty_queue, manager_with, no_manager_left, open_resource_manager, open_resource_manager_tests, open_to_manager, opened_object, quota_test, recover_resource_manager}
use Rattle.ktm_standing.proofs.offered.Named.{named_law}
use Rattle.ktm_memory.specs.declared.routed.Routed.TheVariants.{Handles, MakeManager, Recover, Take}
use Rattle.ktm_memory.specs.declared.settlement.Labels.TheVariants.{Bind}
use Rattle.ktm_route.specs.Route.{IsRouted}
use Rattle.ktm_route.specs.Takes.{early_tests, effect_takes_memory, takes_memory}
use Rattle.ktm_route.proofs.Routes.{unbound_names, up_or}
use Rattle.ktm_route.proofs.Takes.{by_tests}

-- ---- tests, one after another

-- a test that holds is the first refusal
pub first_holds : (test : Bool) (refusal : Refusal) (more : List (Bool × Refusal)) → test ≡ true → first_refusal ((test, refusal) ∷ more) ≡ Some refusal
first_holds test refusal more holds = ap (λ b. cond b (Some refusal) (first_refusal more)) holds

-- one that does not leaves it to the others
pub first_fails : (test : Bool) (refusal : Refusal) (more : List (Bool × Refusal)) → test ≡ false → first_refusal ((test, refusal) ∷ more) ≡ first_refusal more
first_fails test refusal more fails = ap (λ b. cond b (Some refusal) (first_refusal more)) fails

-- ---- what a command goes by

module _ (x : Present) (process : Pid) (command : Command) (up : x.machine.is_up ≡ true) (r : Option Refusal) where
  -- a machine that is up refuses a command by its tests, and else does what it does
  pub comes_by : first_refusal (command_tests x process command) ≡ r → decide x process command ≡ refuse_or x r (command_effect x process command)
  comes_by is = up_or x (command_tests x process command) (command_effect x process command) up ∙ ap (λ refusal. refuse_or x refusal (command_effect x process command)) is

  -- a machine that is up takes memory for a command by the tests that are made before that
  pub takes_by : first_refusal (early_tests x process command) ≡ r → takes_memory x process command ≡ (effect_takes_memory x process command && is_none r)
  takes_by is = by_tests x process up command ∙ ap (λ refusal. effect_takes_memory x process command && is_none refusal) is

-- ---- what is found

-- what nothing is made of is nothing
pub none_mapped : {T U : Type 0} (f : T → U) (o : Option T) → option_map f o ≡ None → o ≡ None
none_mapped f None none = refl
none_mapped f (Some t) none = absurd (cc)

-- what something is made of is something
pub some_mapped : {T U : Type 0} (f : T → U) (o : Option T) (u : U) → option_map f o ≡ Some u → (t : T) × (o ≡ Some t) × (f t ≡ u)
some_mapped f None u some = absurd (cc)
some_mapped f (Some t) u some = (t, refl, same_Some (f t) u some)

-- the resource manager that a label names is found by its Id
pub manager_by : (x : Present) (process : Pid) (label : Label) (id : Id) → option_map (λ m. m.id) (manager_named x process label) ≡ Some id
    → (m : Manager) × (manager_named x process label ≡ Some m) × (m.id ≡ id) × (manager_at x.managers id ≡ Some m)
manager_by x process label id found =
    let named = some_mapped (λ (m : Manager). m.id) (manager_named x process label) id found in
    (named.0, named.1, named.2, ap (manager_at x.managers) (sym named.2) ∙ named_law.managers x process label named.0 named.1)

-- ---- calls on resource managers

module _ (x : Present) (process : Pid) (up : x.machine.is_up ≡ true) where
  module _ (label : Label) (durability : Durability) where
    -- the label is bound
    pub make_bound : is_bound x process label ≡ true → decide x process (CreateResourceManager label durability) ≡ only_reply x (Refused InvalidParameter)
    unfolding create_resource_manager_tests
    make_bound bound =
        comes_by x process (CreateResourceManager label durability) up (Some InvalidParameter)
        (first_holds (is_bound x process label) InvalidParameter (quota_test x (no_manager_left x.managers x.transactions) ∷ []) bound)

    -- it is not
    pub makes : is_bound x process label ≡ false → IsRouted x process (CreateResourceManager label durability) (MakeManager label durability)
    unfolding create_resource_manager_tests
    makes free =
        let r = first_refusal (quota_test x (no_manager_left x.managers x.transactions) ∷ []) in
        let passed = first_fails (is_bound x process label) InvalidParameter (quota_test x (no_manager_left x.managers x.transactions) ∷ []) free in
        (comes_by x process (CreateResourceManager label durability) up r passed, unbound_names _ free, takes_by x process (CreateResourceManager label durability) up r passed, refl)

  module _ (label : Label) (guid : List ℕ) where
    -- the label is bound
    pub open_manager_bound : is_bound x process label ≡ true → decide x process (OpenResourceManager label guid) ≡ only_reply x (Refused InvalidParameter)
    unfolding open_resource_manager_tests
    open_manager_bound bound =
        comes_by x process (OpenResourceManager label guid) up (Some InvalidParameter)
        (first_holds (is_bound x process label) InvalidParameter ((is_none (manager_with x guid), ResourceManagerNotFound) ∷ handle_test x ∷ []) bound)

    -- it is not, and nothing has the GUID
    pub open_manager_unknown : is_bound x process label ≡ false → manager_with x guid ≡ None → decide x process (OpenResourceManager label guid) ≡ only_reply x (Refused ResourceManagerNotFound)
    unfolding open_resource_manager_tests
    open_manager_unknown free none =
        comes_by x process (OpenResourceManager label guid) up (Some ResourceManagerNotFound)
        (first_fails (is_bound x process label) InvalidParameter ((is_none (manager_with x guid), ResourceManagerNotFound) ∷ handle_test x ∷ []) free
        ∙ first_holds (is_none (manager_with x guid)) ResourceManagerNotFound (handle_test x ∷ []) (ap is_none none))

    -- it is not, and a resource manager has the GUID
    pub opens_manager : (m : Manager) (id : Id) → is_bound x process label ≡ false → manager_with x guid ≡ Some m → m.id ≡ id → IsRouted x process (OpenResourceManager label guid) (Handles (Bind label (ManagerObject id)))
    unfolding open_resource_manager_tests open_resource_manager
    opens_manager m id free found is =
        let r = first_refusal (handle_test x ∷ []) in
        let passed =
        first_fails (is_bound x process label) InvalidParameter ((is_none (manager_with x guid), ResourceManagerNotFound) ∷ handle_test x ∷ []) free
        ∙ first_fails (is_none (manager_with x guid)) ResourceManagerNotFound (handle_test x ∷ []) (ap is_none found) in (
          comes_by x process (OpenResourceManager label guid) up r passed
              ∙ ap (λ (o : Option Manager). refuse_or x r (open_to_manager x process label o)) found ∙ ap (λ i. refuse_or x r (opened_object x process label (ManagerObject i))) is,
          unbound_names _ free,
          takes_by x process (OpenResourceManager label guid) up r passed,
          refl,
        )

  module _ (label : Label) where
    -- the resource manager that the label names recovers
    pub recovers : (m : Manager) (id : Id) → manager_named x process label ≡ Some m → manager_at x.managers id ≡ Some m → IsRouted x process (RecoverResourceManager label) (Recover id)
    recovers m id named there =
        let passed = first_fails (is_none (manager_named x process label)) InvalidHandle [] (ap is_none named) in (
          comes_by x process (RecoverResourceManager label) up None passed ∙ ap (recover_resource_manager x) (named ∙ sym there),
          ap is_some there,
          takes_by x process (RecoverResourceManager label) up None passed,
          refl,
        )

    -- the resource manager that the label names takes its first notification
    pub takes : (m : Manager) (id : Id) → manager_named x process label ≡ Some m → manager_at x.managers id ≡ Some m → IsRouted x process (GetNotificationResourceManager label) (Take id)
    takes m id named there = (
      comes_by x process (GetNotificationResourceManager label) up (first_refusal ((holds_of has_empty_queue (manager_named x process label), WaitTimeout) ∷ []))
          (first_fails (is_none (manager_named x process label)) InvalidHandle ((holds_of has_empty_queue (manager_named x process label), WaitTimeout) ∷ []) (ap is_none named))
          ∙ ap (λ (o : Option Manager). refuse_or x (first_refusal ((holds_of has_empty_queue o, WaitTimeout) ∷ [])) (get_notification x o)) (named ∙ sym there),
      ap is_some there,
      refl,
      refl,
    )
