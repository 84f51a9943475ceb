-- Calls on enlistments: from a command to its call.
use Rattle.std.proofs.Common.{◌≡◌, ◌&&◌, ◌||◌, ℕ, not, Bool, true, false, All, List, [], ◌∷◌, ◌++◌, length, nat_lt, Option, Some, None, Result, Ok, Err, is_some, is_none, refl, sym, ◌∙◌, ap, subst, inl, inr}
use Rattle.std.specs.List.{list_any}
use Rattle.std.proofs.Math.Bool.{and-true}
use Rattle.std.proofs.lemmas.Bool.{and_parts, cases_Bool, true≢false}
use Rattle.std.proofs.lemmas.Option.{same_Some}
use Rattle.std.specs.Prelude.{if◌then◌else◌}
use Rattle.ktm_base.specs.declared.id.Id.{Id}
use Rattle.ktm_base.specs.declared.id.Label.{Label}
use Rattle.ktm_base.specs.declared.id.Pid.{Pid}
use Rattle.ktm_base.specs.declared.limits.TheConstants.{MOST_INFORMATION_BYTES}
use Rattle.ktm_base.specs.declared.refusal.Refusal.{Refusal}
use Rattle.ktm_base.specs.declared.refusal.Refusal.TheVariants.{EnlistmentNotFound, EnlistmentNotSuperior, InvalidHandle, InvalidParameter, TransactionRequestNotValid, TransactionSuperiorExists}
use Rattle.ktm_world.specs.Values.{IsGiven}
use Rattle.ktm_world.specs.declared.command.Command.{Command}
use Rattle.ktm_world.specs.declared.command.Command.TheVariants.{CreateEnlistment, GetEnlistmentRecoveryInformation, OpenEnlistment, RecoverEnlistment, SetEnlistmentRecoveryInformation}
use Rattle.ktm_world.specs.declared.input.PhaseInput.{PhaseInput}
use Rattle.ktm_world.specs.declared.input.Seen.{Seen}
use Rattle.ktm_world.specs.declared.object.Object.TheVariants.{Enlistment as EnlistmentObject}
use Rattle.ktm_world.specs.declared.object.Phase.{Phase}
use Rattle.ktm_world.specs.declared.object.Phase.TheVariants.{SinglePhase, InDoubt, Committing, Aborting}
use Rattle.ktm_world.specs.declared.object.Transaction.{Transaction}
use Rattle.ktm_world.specs.declared.object.TransactionOutcome.{TransactionOutcome}
use Rattle.ktm_world.specs.declared.options.EnlistmentKind.{EnlistmentKind}
use Rattle.ktm_world.specs.declared.reply.Reply.{Reply}
use Rattle.ktm_world.specs.declared.reply.Reply.TheVariants.{Done, Refused}
use Rattle.ktm_world.specs.declared.step.Owed.{Owed}
use Rattle.ktm_event.specs.Spelling.{IsSpellableEvent}
use Rattle.ktm_world.specs.Decide.{command_effect, command_tests, decide}
use Rattle.ktm_world.specs.Durable.{is_before}
use Rattle.ktm_world.specs.Enlistments.{Enlistment, Manager, enlistment_at, is_durable_at, is_live_enlistment, is_live_in, is_superior, manager_at}
use Rattle.ktm_world.specs.Labels.{holds_of, is_bound, manager_named, transaction_named, transaction_tests}
use Rattle.ktm_world.specs.OneOutcome.{told_outcome}
use Rattle.ktm_world.specs.Outcome.{Outcome, first_refusal, only_reply, refuse_or}
use Rattle.ktm_world.specs.Phases.{Course as Going}
use Rattle.ktm_world.specs.Present.{Present}
use Rattle.ktm_world.specs.Rows.{commit_completes, recovers, row}
use Rattle.ktm_world.specs.Steps.{led, seen}
use Rattle.ktm_world.specs.TransactionCalls.{arrived, bound_test, course_of, create_enlistment, create_enlistment_tests, enlistment_tests, enlistment_with, get_information, handle_test, has_superior, is_superior_kind, may_set_information as may_set_information_now, no_enlistment_left, open_enlistment, open_enlistment_tests, open_to_enlistment, opened_object, quota_test, set_information, set_information_tests}
use Rattle.ktm_world.specs.Transactions.{is_live, is_undecided, same_id, transaction_at}
use Rattle.txf_laws.specs.Elements.{IsIn, each_pair}
use Rattle.txf_laws.proofs.offered.Elements.{list_any-at, list_any-from}
use Rattle.txf_laws.proofs.offered.Tables.{same_id-equal, same_id-from}
use Rattle.ktm_steps.specs.Outcomes.{MayCome}
use Rattle.ktm_steps.proofs.offered.Ways.{if_cases}
use Rattle.ktm_course.specs.Moved.{is_commit}
use Rattle.ktm_courses.specs.SoundCourse.{IsSoundCourse}
use Rattle.ktm_courses.proofs.offered.Arrivals.{brought-now, stands-now}
use Rattle.ktm_courses.proofs.offered.Calls.{enlistment-named, transaction_at-found}
use Rattle.ktm_courses.proofs.offered.EnlistmentAnswers.{answer_in, is-aborting, is-committing, is-pre_preparing, is-preparing, phase-owing}
use Rattle.ktm_courses.proofs.offered.Moves.{find-found, same-by_id}
use Rattle.ktm_courses.proofs.offered.Outcomes.{known-in}
use Rattle.ktm_phase.specs.Calls.{CallsLaw, ComesTo, Names, refusal_in, reply_call, superior_call}
use Rattle.ktm_phase.specs.Coming.{ComingLaw, IsOwedIn, is_asked_in}
use Rattle.ktm_phase.specs.Replies.{allows, commanded, if_allowed, input_by, input_of, lets, may_recover as may_recover_in, may_set_information, recovered, replied}
use Rattle.ktm_phase.specs.declared.enlistment.Vote.{Vote}
use Rattle.ktm_phase.specs.declared.superior.SuperiorCall.{SuperiorCall}
use Rattle.ktm_laws.specs.Running.{HasEventsLeft}
use Rattle.ktm_standing.specs.Laws.{FilesLaw, SpelledLaw}
use Rattle.ktm_standing.specs.Standing.{IsStandingNow}
use Rattle.ktm_standing.proofs.offered.Found.{found_again}
use Rattle.ktm_standing.proofs.offered.Named.{named_law}
use Rattle.ktm_memory.specs.Routed.{IsReadyCourse, course_to, reply_to}
use Rattle.ktm_memory.specs.declared.routed.Routed.TheVariants.{Course, Enlist, Handles, Inform, Tell}
use Rattle.ktm_memory.specs.declared.settlement.Labels.TheVariants.{Bind}
use Rattle.ktm_memory.proofs.offered.Standing.{kept}
use Rattle.ktm_route.specs.Route.{IsRouted, is_put_of_units, kind_tests}
use Rattle.ktm_route.specs.Takes.{early_tests, effect_takes_memory}
use Rattle.ktm_route.proofs.Alive.{live_commanded, live_recovered, live_replied}
use Rattle.ktm_route.proofs.Routes.{first_of-append, first_of-passed, unbound_names}
use Rattle.ktm_route.proofs.ManagerRoutes.{comes_by, first_fails, first_holds, takes_by}

-- ---- by rising Ids

-- a test that no other one passes holds of one of them where it holds of that one
any_one : {X : Type 0} (test : X → Bool) (xs : List X) (x : X) → IsIn x xs → ((y : X) → IsIn y xs → test y ≡ true → y ≡ x) → list_any test xs ≡ test x
any_one test xs x there only = elim (cases_Bool (list_any test xs)) [
  | inl some ↦ let one = list_any-at test xs some in some ∙ sym one.2 ∙ ap test (only one.0 one.1 one.2)
  | inr none ↦ elim (cases_Bool (test x)) [
    | inl holds ↦ absurd (true≢false (sym (list_any-from test xs x there holds) ∙ none))
    | inr fails ↦ none ∙ sym fails
  ]
]

-- a resource manager with this Id is durable where the one that is found is
durable_by : (ms : List Manager) (m : Manager) (id : Id) → each_pair (λ (m n : Manager). is_before m.id n.id) ms ≡ true → manager_at ms id ≡ Some m → is_durable_at ms id ≡ m.is_durable
durable_by ms m id rise found =
    let at = find-found (λ (n : Manager). same_id n.id id) ms m found in
    any_one (λ (n : Manager). same_id n.id id && n.is_durable) ms m at.0
    (λ n there both. same-by_id (λ (n : Manager). n.id) ms rise n m there at.0 (same_id-equal n.id id (and_parts (same_id n.id id) n.is_durable both).0 ∙ sym (same_id-equal m.id id at.1)))
    ∙ ap (λ b. b && m.is_durable) at.1

-- an enlistment is live where it is so in its transaction
live_by : (ts : List Transaction) (e : Enlistment) (t : Transaction) → each_pair (λ (t u : Transaction). is_before t.id u.id) ts ≡ true → transaction_at ts e.transaction ≡ Some t → is_live_enlistment ts e ≡ is_live_in t e
live_by ts e t rise found =
    let at = transaction_at-found ts e.transaction t found in
    any_one (λ (u : Transaction). is_live_in u e) ts t at.0
    (λ u there live. same-by_id (λ (u : Transaction). u.id) ts rise u t there at.0 (sym (same_id-equal e.transaction u.id (and_parts (same_id e.transaction u.id) _ (and_parts _ _ live).0).0) ∙ sym at.1))

-- ---- CreateEnlistment

module _ (x : Present) (process : Pid) (up : x.machine.is_up ≡ true) (label manager transaction : Label) (kind : EnlistmentKind) where
  abbrev enlisting : Command
  enlisting = CreateEnlistment label manager transaction kind

  abbrev maker : Option Manager
  maker = manager_named x process manager

  abbrev joined : Option Transaction
  joined = transaction_named x process transaction

  abbrev quota : List (Bool × Refusal)
  quota = quota_test x (no_enlistment_left x.transactions) ∷ []

  -- the tests behind those of the two handles
  abbrev later_tests : Option Manager → Option Transaction → List (Bool × Refusal)
  later_tests m t =
      (is_bound x process label || (is_superior_kind kind && holds_of (λ m. not m.is_durable) m), InvalidParameter)
      ∷ (is_superior_kind kind && holds_of (has_superior x) t, TransactionSuperiorExists)
      ∷ quota

  -- the label of the resource manager names none
  pub enlist_unnamed : maker ≡ None → decide x process enlisting ≡ only_reply x (Refused InvalidHandle)
  unfolding create_enlistment_tests
  enlist_unnamed none = comes_by x process enlisting up (Some InvalidHandle) (first_holds (is_none maker) InvalidHandle (transaction_tests joined ++ later_tests maker joined) (ap is_none none))

  module _ (m : Manager) (id : Id) (named : maker ≡ Some m) (there : manager_at x.managers id ≡ Some m) where
    -- it does, and the tests of the transaction come next
    by_transaction : first_refusal (command_tests x process enlisting) ≡ first_refusal (transaction_tests joined ++ later_tests maker joined)
    unfolding create_enlistment_tests
    by_transaction = first_fails (is_none maker) InvalidHandle (transaction_tests joined ++ later_tests maker joined) (ap is_none named)

    -- they refuse
    pub enlist_refused : (refusal : Refusal) → first_refusal (transaction_tests joined) ≡ Some refusal → decide x process enlisting ≡ only_reply x (Refused refusal)
    enlist_refused refusal is = comes_by x process enlisting up (Some refusal) (by_transaction ∙ first_of-append (transaction_tests joined) (later_tests maker joined) refusal is)

    module _ (t : Transaction) (into : joined ≡ Some t) (passed : first_refusal (transaction_tests (Some t)) ≡ None) where
      -- they pass, and those of the label and the kind come next
      by_label : first_refusal (command_tests x process enlisting) ≡ first_refusal (later_tests (Some m) (Some t))
      by_label =
          by_transaction
          ∙ first_of-passed (transaction_tests joined) (later_tests maker joined) (ap (λ (o : Option Transaction). first_refusal (transaction_tests o)) into ∙ passed)
          ∙ ap (λ (o : Option Manager). first_refusal (later_tests o joined)) named
          ∙ ap (λ (o : Option Transaction). first_refusal (later_tests (Some m) o)) into

      -- the tests of the kind, and what is behind them
      abbrev others : List (Bool × Refusal)
      others = (is_superior_kind kind && has_superior x t, TransactionSuperiorExists) ∷ quota

      -- the label is bound
      pub enlist_bound : is_bound x process label ≡ true → decide x process enlisting ≡ only_reply x (Refused InvalidParameter)
      enlist_bound bound =
          comes_by x process enlisting up (Some InvalidParameter) (by_label
          ∙ first_holds (is_bound x process label || (is_superior_kind kind && not m.is_durable)) InvalidParameter others (ap (λ b. b || (is_superior_kind kind && not m.is_durable)) bound))

      module _ (sound : IsSoundCourse x) (free : is_bound x process label ≡ false) where
        -- it is not, and those of the kind come next
        by_kind : first_refusal (command_tests x process enlisting) ≡ first_refusal (kind_tests x id t.id kind ++ quota)
        by_kind =
            by_label
            ∙ ap (λ b. first_refusal ((b || (is_superior_kind kind && not m.is_durable), InvalidParameter) ∷ others)) free
            ∙ ap (λ durable. first_refusal ((is_superior_kind kind && not durable, InvalidParameter) ∷ others)) (sym (durable_by x.managers m id sound.managers.rise there))

        -- they refuse
        pub enlist_unfit : (refusal : Refusal) → first_refusal (kind_tests x id t.id kind) ≡ Some refusal → decide x process enlisting ≡ only_reply x (Refused refusal)
        enlist_unfit refusal is = comes_by x process enlisting up (Some refusal) (by_kind ∙ first_of-append (kind_tests x id t.id kind) quota refusal is)

        -- they pass
        pub enlists : first_refusal (kind_tests x id t.id kind) ≡ None → IsRouted x process enlisting (Enlist label id t.id kind)
        enlists fits =
            let r = first_refusal quota in
            let tests = by_kind ∙ first_of-passed (kind_tests x id t.id kind) quota fits in
            let at = named_law.transactions x process transaction t into in (
              comes_by x process enlisting up r tests
                  ∙ ap (λ (o : Option Manager). refuse_or x r (create_enlistment x process label o joined kind)) (named ∙ sym there)
                  ∙ ap (λ (o : Option Transaction). refuse_or x r (create_enlistment x process label (manager_at x.managers id) o kind)) (into ∙ sym at),
              (unbound_names _ free, ap is_some there, ap is_some at),
              takes_by x process enlisting up r tests,
              refl,
            )

-- ---- OpenEnlistment

module _ (x : Present) (process : Pid) (up : x.machine.is_up ≡ true) (label manager : Label) (guid : List ℕ) where
  abbrev opening : Command
  opening = OpenEnlistment label manager guid

  abbrev owner : Option Manager
  owner = manager_named x process manager

  -- the tests behind that of the resource manager's handle
  abbrev own_tests : Option Manager → List (Bool × Refusal)
  own_tests m = bound_test x process label ∷ (is_none (enlistment_with x m guid), EnlistmentNotFound) ∷ handle_test x ∷ []

  -- the label of the resource manager names none
  pub open_enlistment_unnamed : owner ≡ None → decide x process opening ≡ only_reply x (Refused InvalidHandle)
  unfolding open_enlistment_tests
  open_enlistment_unnamed none = comes_by x process opening up (Some InvalidHandle) (first_holds (is_none owner) InvalidHandle (own_tests owner) (ap is_none none))

  module _ (m : Manager) (named : owner ≡ Some m) where
    -- it does, and the others come next
    by_owner : first_refusal (command_tests x process opening) ≡ first_refusal (own_tests (Some m))
    unfolding open_enlistment_tests
    by_owner = first_fails (is_none owner) InvalidHandle (own_tests owner) (ap is_none named) ∙ ap (λ (o : Option Manager). first_refusal (own_tests o)) named

    -- the label is bound
    pub open_enlistment_bound : is_bound x process label ≡ true → decide x process opening ≡ only_reply x (Refused InvalidParameter)
    open_enlistment_bound bound =
        comes_by x process opening up (Some InvalidParameter)
        (by_owner ∙ first_holds (is_bound x process label) InvalidParameter ((is_none (enlistment_with x (Some m) guid), EnlistmentNotFound) ∷ handle_test x ∷ []) bound)

    module _ (free : is_bound x process label ≡ false) where
      -- it is not, and it goes by what has the GUID
      by_guid : (o : Option Enlistment) → enlistment_with x (Some m) guid ≡ o → first_refusal (command_tests x process opening) ≡ first_refusal ((is_none o, EnlistmentNotFound) ∷ handle_test x ∷ [])
      by_guid o is =
          by_owner ∙ first_fails (is_bound x process label) InvalidParameter ((is_none (enlistment_with x (Some m) guid), EnlistmentNotFound) ∷ handle_test x ∷ []) free
          ∙ ap (λ (o : Option Enlistment). first_refusal ((is_none o, EnlistmentNotFound) ∷ handle_test x ∷ [])) is

      -- nothing has it
      pub open_enlistment_unknown : enlistment_with x (Some m) guid ≡ None → decide x process opening ≡ only_reply x (Refused EnlistmentNotFound)
      open_enlistment_unknown none = comes_by x process opening up (Some EnlistmentNotFound) (by_guid None none)

      -- a live enlistment of the resource manager has it
      pub opens_enlistment : (e : Enlistment) (id : Id) → enlistment_with x (Some m) guid ≡ Some e → e.id ≡ id → IsRouted x process opening (Handles (Bind label (EnlistmentObject id)))
      unfolding open_enlistment
      opens_enlistment e id found is =
          let r = first_refusal (handle_test x ∷ []) in
          let tests = by_guid (Some e) found in (
            comes_by x process opening up r tests
                ∙ ap (λ (o : Option Manager). refuse_or x r (open_to_enlistment x process label (enlistment_with x o guid))) named
                ∙ ap (λ (o : Option Enlistment). refuse_or x r (open_to_enlistment x process label o)) found
                ∙ ap (λ i. refuse_or x r (opened_object x process label (EnlistmentObject i))) is,
            unbound_names _ free,
            takes_by x process opening up r tests,
            refl,
          )

-- ---- what may come to a transaction

-- an answer that is owed is waited for in the phase
asked_in : (phase : Phase) (owed : Owed) → answer_in phase ≡ Some owed → is_asked_in phase owed ≡ true
asked_in phase Owed.PrePrepare is = ap (λ p. is_asked_in p Owed.PrePrepare) (is-pre_preparing phase is)
asked_in phase Owed.Prepare is = ap (λ p. is_asked_in p Owed.Prepare) (is-preparing phase is)
asked_in phase Owed.Commit is = elim (is-committing phase is) [ inl at ↦ ap (λ p. is_asked_in p Owed.Commit) at | inr at ↦ ap (λ p. is_asked_in p Owed.Commit) at ]
asked_in phase Owed.Rollback is = ap (λ p. is_asked_in p Owed.Rollback) (is-aborting phase is)

-- what an enlistment owes is waited for in the phase of its transaction
owed_in : (x : Present) (e : Enlistment) (t : Transaction) → IsSoundCourse x → IsIn e x.transactions.enlistments → IsIn t x.transactions.items → same_id e.transaction t.id ≡ true → IsOwedIn t.phase e.owes
owed_in x e t sound there at own = go e.owes refl
  where
    go : (owed : Option Owed) → e.owes ≡ owed → IsOwedIn t.phase owed
    go None is = tt
    go (Some owed) is = asked_in t.phase owed (phase-owing x.recorded.boots (course_of x t (Some e)) e (stands-now x t (Some e) sound at) (brought-now x t (Some e) sound) sound.enlistments.rise there own owed is)

-- an enlistment that has finished commits nothing
finished_commits : (phase : Phase) → list_any is_commit (commit_completes phase) ≡ false
finished_commits SinglePhase = refl
finished_commits _ = refl

-- an enlistment that recovers commits nothing
recovered_commits : (phase : Phase) → list_any is_commit (recovers phase) ≡ false
recovered_commits InDoubt = refl
recovered_commits Committing = refl
recovered_commits Aborting = refl
recovered_commits _ = refl

-- nothing is known of the outcome where what comes commits
commits_unknown : (known : Option Bool) (phase : Phase) (input : PhaseInput) (s : Seen) → MayCome known phase input → list_any is_commit (row s input) ≡ true → known ≡ None
commits_unknown known phase PhaseInput.SinglePhaseReject s may commits = absurd (true≢false (sym commits))
commits_unknown known phase PhaseInput.CommitComplete s may commits = absurd (true≢false (sym commits ∙ finished_commits s.phase))
commits_unknown known phase PhaseInput.RollbackComplete s may commits = absurd (true≢false (sym commits))
commits_unknown known phase PhaseInput.Recover s may commits = absurd (true≢false (sym commits ∙ recovered_commits s.phase))
commits_unknown known phase PhaseInput.RecoverSuperior s may commits = absurd (true≢false (sym commits))
commits_unknown known phase _ s may commits = may

-- a transaction of which nothing is known is undecided
unknown_undecided : (t : Transaction) → told_outcome t.outcome ≡ None → is_undecided t ≡ true
unknown_undecided t = go t.outcome
  where
    go : (outcome : TransactionOutcome) → told_outcome outcome ≡ None → is_undecided (record t { outcome = outcome }) ≡ true
    go TransactionOutcome.Undetermined none = refl
    go TransactionOutcome.Committed none = absurd (cc)
    go TransactionOutcome.Aborted none = absurd (cc)

-- ---- what comes from an enlistment

-- what comes where an input is allowed is that input
allowed_input : (b : Bool) (a input : PhaseInput) → if_allowed b a ≡ Ok input → input ≡ a
allowed_input true a input same = cc
allowed_input false a input same = absurd (cc)

-- what comes where an input is allowed to a superior alone is that input
commanded_input : (above b : Bool) (a input : PhaseInput) → (if above then if_allowed b a else Err EnlistmentNotSuperior) ≡ Ok input → input ≡ a
commanded_input true b a input same = allowed_input b a input same
commanded_input false b a input same = absurd (cc)

-- it is done, where nobody asked to commit
done_by : (input : PhaseInput) (c : Going) → (input ≡ PhaseInput.CommitTransaction → ⊥) → Done ≡ reply_to input c
done_by PhaseInput.CommitTransaction c unasked = absurd (unasked refl)
done_by _ c unasked = refl

-- a course records its events, wherever it has come to
arrived_events : (x : Present) (c : Going) (reply : Reply) → (arrived x c reply).events ≡ c.events
arrived_events x c reply = if_cases (λ (o : Outcome). o.events ≡ c.events) (is_undecided c.transaction) _ _ (λ before. refl) (λ decided. refl)

-- it goes by the tests of its command, takes no memory, and neither puts whole units nor is CommitTransaction
pub record IsPlainly (x : Present) (process : Pid) (command : Command) (input : PhaseInput) : Type 0 where
  pub early : early_tests x process command ≡ command_tests x process command
  pub takes : effect_takes_memory x process command ≡ false
  pub units : is_put_of_units command ≡ false
  pub unasked : input ≡ PhaseInput.CommitTransaction → ⊥

module _ (x : Present) (process : Pid) (up : x.machine.is_up ≡ true) where
  module _ (standing : IsStandingNow x) (label : Label) (e : Enlistment) (t : Transaction) (names : Names x process label e t) where
    abbrev es : List Enlistment
    es = x.transactions.enlistments

    abbrev sound : IsSoundCourse x
    sound = (kept x standing).sound.course

    -- the enlistment is found by its Id
    found : enlistment_at es e.id ≡ Some e
    found = named_law.enlistments x process label e names.enlistment

    -- the transaction is found by its Id
    at : transaction_at x.transactions.items t.id ≡ Some t
    at = found_again x.transactions.items e.transaction t names.transaction

    -- the transaction is one of those that are there
    is_in : IsIn t x.transactions.items
    is_in = (transaction_at-found x.transactions.items e.transaction t names.transaction).0

    -- the transaction is the one that the enlistment names
    own : e.transaction ≡ t.id
    own = sym (transaction_at-found x.transactions.items e.transaction t names.transaction).1

    -- what the enlistment owes is waited for
    owed : IsOwedIn t.phase e.owes
    owed = owed_in x e t sound (enlistment-named x process label e names.enlistment) is_in (same_id-from e.transaction t.id own)

    -- what is refused, as a command
    pub refused_by : (command : Command) (result : Result PhaseInput Refusal) (refusal : Refusal) → ComesTo x t e (command_tests x process command) (command_effect x process command) result → result ≡ Err refusal
        → decide x process command ≡ only_reply x (Refused refusal)
    refused_by command result refusal comes is = comes_by x process command up (Some refusal) (comes.refused ∙ ap refusal_in is)

    module _ (files : FilesLaw) (left : HasEventsLeft x) (spelled : SpelledLaw) (command : Command) (is : IsGiven command) (input : PhaseInput) (result : Result PhaseInput Refusal)
        (comes : ComesTo x t e (command_tests x process command) (command_effect x process command) result) (came : result ≡ Ok input) (may : MayCome (told_outcome t.outcome) t.phase input) (plainly : IsPlainly x process command input) (live : is_live t ≡ true) where
      abbrev going : Going
      going = course_to x t (Some e.id) input

      -- its tests refuse nothing
      passes : first_refusal (command_tests x process command) ≡ None
      passes = comes.refused ∙ ap refusal_in came

      -- the command leads the transaction
      leads : decide x process command ≡ arrived x going (reply_to input going)
      leads =
          comes_by x process command up None passes ∙ comes.leads input came
          ∙ ap (λ (o : Option Enlistment). arrived x (led input (course_of x t o)) Done) (sym found)
          ∙ ap (arrived x going) (done_by input going plainly.unasked)

      -- it records what the course does
      recorded : (decide x process command).events ≡ going.events
      recorded = ap (λ (o : Outcome). o.events) leads ∙ arrived_events x going (reply_to input going)

      -- the course can be made
      ready : IsReadyCourse x t (Some e.id) input
      ready = record {
        there = at;
        called = λ id same. (e, ap (enlistment_at es) (sym (same_Some e.id id same)) ∙ found, own);
        may = λ commits. files.commits x t standing left at (unknown_undecided t (commits_unknown (told_outcome t.outcome) t.phase input (seen (course_of x t None)) may commits));
        spelled = subst (All IsSpellableEvent) recorded (spelled.commands x process command standing is);
        active = λ asked. absurd (plainly.unasked asked);
        live = live;
      }

      -- it is the course of its transaction
      pub goes : IsRouted x process command (Course t (Some e.id) input)
      goes = (leads, ready, takes_by x process command up None (ap first_refusal plainly.early ∙ passes) ∙ and-true (effect_takes_memory x process command) ∙ plainly.takes, sym plainly.units)

    module _ (calls : CallsLaw) (coming : ComingLaw) (files : FilesLaw) (left : HasEventsLeft x) (spelled : SpelledLaw) where
      -- a reply goes by the tests of its command, and takes no memory
      reply_plainly : (vote : Vote) → IsPlainly x process (reply_call vote label) (input_of e vote)
      reply_plainly Vote.PrePrepareComplete = record { early = refl; takes = refl; units = refl; unasked = λ same. absurd (cc) }
      reply_plainly Vote.PrepareComplete = record { early = refl; takes = refl; units = refl; unasked = λ same. absurd (cc) }
      reply_plainly Vote.ReadOnly = record { early = refl; takes = refl; units = refl; unasked = λ same. absurd (cc) }
      reply_plainly Vote.SinglePhaseReject = record { early = refl; takes = refl; units = refl; unasked = λ same. absurd (cc) }
      reply_plainly Vote.CommitComplete = record { early = refl; takes = refl; units = refl; unasked = λ same. absurd (cc) }
      reply_plainly Vote.RollbackComplete = record { early = refl; takes = refl; units = refl; unasked = λ same. absurd (cc) }
      reply_plainly Vote.Rollback = record { early = refl; takes = refl; units = refl; unasked = λ same. absurd (cc) }

      -- a reply that is allowed is the course of its transaction
      pub replies : (vote : Vote) (input : PhaseInput) → IsGiven (reply_call vote label) → replied t.phase e vote ≡ Ok input → IsRouted x process (reply_call vote label) (Course t (Some e.id) input)
      replies vote input is came =
          goes files left spelled (reply_call vote label) is input (replied t.phase e vote) (calls.replies x process label e t vote names) came
          (coming.replies t.phase (told_outcome t.outcome) e vote input (known-in t.phase t (stands-now x t (Some e) sound is_in).outcome) owed came)
          (subst (IsPlainly x process (reply_call vote label)) (sym (allowed_input (allows t.phase e vote) (input_of e vote) input came)) (reply_plainly vote))
          (live_replied t e vote input owed came)

      -- a reply that is not allowed is refused
      pub reply_refused : (vote : Vote) (refusal : Refusal) → replied t.phase e vote ≡ Err refusal → decide x process (reply_call vote label) ≡ only_reply x (Refused refusal)
      reply_refused vote refusal is = refused_by (reply_call vote label) (replied t.phase e vote) refusal (calls.replies x process label e t vote names) is

      -- a call of a superior goes by the tests of its command, and takes no memory
      command_plainly : (call : SuperiorCall) → IsPlainly x process (superior_call call label) (input_by call)
      command_plainly SuperiorCall.PrePrepare = record { early = refl; takes = refl; units = refl; unasked = λ same. absurd (cc) }
      command_plainly SuperiorCall.Prepare = record { early = refl; takes = refl; units = refl; unasked = λ same. absurd (cc) }
      command_plainly SuperiorCall.Commit = record { early = refl; takes = refl; units = refl; unasked = λ same. absurd (cc) }

      -- a call of a superior that is allowed is the course of its transaction
      pub commands : (call : SuperiorCall) (input : PhaseInput) → IsGiven (superior_call call label) → commanded t.phase e call ≡ Ok input → IsRouted x process (superior_call call label) (Course t (Some e.id) input)
      commands call input is came =
          goes files left spelled (superior_call call label) is input (commanded t.phase e call) (calls.superiors x process label e t call names) came
          (coming.superiors t.phase (told_outcome t.outcome) e call input (known-in t.phase t (stands-now x t (Some e) sound is_in).outcome) came)
          (subst (IsPlainly x process (superior_call call label)) (sym (commanded_input (is_superior e) (lets t.phase call) (input_by call) input came)) (command_plainly call))
          (live_commanded t e call input came)

      -- a call of a superior that is not allowed is refused
      pub command_refused : (call : SuperiorCall) (refusal : Refusal) → commanded t.phase e call ≡ Err refusal → decide x process (superior_call call label) ≡ only_reply x (Refused refusal)
      command_refused call refusal is = refused_by (superior_call call label) (commanded t.phase e call) refusal (calls.superiors x process label e t call names) is

      -- a recovery goes by the tests of its command, and takes no memory
      recovery_plainly : (above : Bool) → IsPlainly x process (RecoverEnlistment label) (if above then PhaseInput.RecoverSuperior else PhaseInput.Recover)
      recovery_plainly true = record { early = refl; takes = refl; units = refl; unasked = λ same. absurd (cc) }
      recovery_plainly false = record { early = refl; takes = refl; units = refl; unasked = λ same. absurd (cc) }

      -- a recovery that is allowed is the course of its transaction
      pub recovery : (input : PhaseInput) → IsGiven (RecoverEnlistment label) → recovered t.phase e ≡ Ok input → IsRouted x process (RecoverEnlistment label) (Course t (Some e.id) input)
      recovery input is came =
          goes files left spelled (RecoverEnlistment label) is input (recovered t.phase e) (calls.recoveries x process label e t names) came
          (coming.recoveries t.phase (told_outcome t.outcome) e input (known-in t.phase t (stands-now x t (Some e) sound is_in).outcome) came)
          (subst (IsPlainly x process (RecoverEnlistment label)) (sym (allowed_input (may_recover_in t.phase e) (if is_superior e then PhaseInput.RecoverSuperior else PhaseInput.Recover) input came)) (recovery_plainly (is_superior e)))
          (live_recovered x e t input sound (enlistment-named x process label e names.enlistment) is_in (same_id-from e.transaction t.id own) came)

      -- a recovery that is not allowed is refused
      pub recovery_refused : (refusal : Refusal) → recovered t.phase e ≡ Err refusal → decide x process (RecoverEnlistment label) ≡ only_reply x (Refused refusal)
      recovery_refused refusal is = refused_by (RecoverEnlistment label) (recovered t.phase e) refusal (calls.recoveries x process label e t names) is

    -- ---- recovery information

    module _ (calls : CallsLaw) (information : List ℕ) where
      abbrev informing : Command
      informing = SetEnlistmentRecoveryInformation label information

      abbrev size_test : Bool × Refusal
      size_test = (nat_lt MOST_INFORMATION_BYTES (length information), InvalidParameter)

      -- recovery information that may be set, and is not too long, is set
      pub informs : may_set_information t e ≡ true → nat_lt MOST_INFORMATION_BYTES (length information) ≡ false → IsRouted x process informing (Inform e.id information)
      informs may short = (
        comes_by x process informing up None (
            ap (λ (o : Option Enlistment). first_refusal (set_information_tests x o information)) names.enlistment
            ∙ first_fails (not (may_set_information_now x e)) TransactionRequestNotValid (size_test ∷ []) (ap not (calls.informed x process label e t names ∙ may))
            ∙ first_fails (nat_lt MOST_INFORMATION_BYTES (length information)) InvalidParameter [] short
            )
            ∙ ap (λ (o : Option Enlistment). set_information x o information) (names.enlistment ∙ sym found),
        ap is_some found,
        refl,
        refl,
      )

    -- what is told goes by whether the enlistment is live
    by_life : first_refusal (command_tests x process (GetEnlistmentRecoveryInformation label)) ≡ first_refusal ((not (is_live_in t e), TransactionRequestNotValid) ∷ [])
    by_life =
        ap (λ (o : Option Enlistment). first_refusal (enlistment_tests o (is_live_enlistment x.transactions.items))) names.enlistment
        ∙ ap (λ b. first_refusal ((not b, TransactionRequestNotValid) ∷ [])) (live_by x.transactions.items e t sound.transactions.rise names.transaction)

    -- nothing is told of one that is not
    pub tell_refused : is_live_in t e ≡ false → decide x process (GetEnlistmentRecoveryInformation label) ≡ only_reply x (Refused TransactionRequestNotValid)
    tell_refused dead =
        comes_by x process (GetEnlistmentRecoveryInformation label) up (Some TransactionRequestNotValid) (by_life ∙ first_holds (not (is_live_in t e)) TransactionRequestNotValid [] (ap not dead))

    -- of a live one its recovery information is
    pub tells : is_live_in t e ≡ true → IsRouted x process (GetEnlistmentRecoveryInformation label) (Tell e.id)
    tells live =
        let tests = by_life ∙ first_fails (not (is_live_in t e)) TransactionRequestNotValid [] (ap not live) in (
          comes_by x process (GetEnlistmentRecoveryInformation label) up None tests ∙ ap (get_information x) (names.enlistment ∙ sym found),
          ap is_some found,
          takes_by x process (GetEnlistmentRecoveryInformation label) up None tests,
          refl,
        )
