-- What was recorded agrees with what is so now after calls that bring no transaction further but to its rollback, and after time.
use Rattle.std.proofs.Common.{◌≡◌, ℕ, ◌&&◌, not, Bool, true, false, List, [], ◌∷◌, ◌++◌, filter, map, Option, Some, None, refl, sym, ◌∙◌, ap, subst, arith, inl, inr, ◌⊎◌}
use Rattle.std.proofs.lemmas.Bool.{cases_Bool, and_left, and_right, and_parts, not-true, true≢false, false_from_ne_true}
use Rattle.std.proofs.lemmas.Grind.{flat_map-append}
use Rattle.std.proofs.lemmas.List.{append-nil}
use Rattle.std.proofs.lemmas.List.Sums.{fold-append}
use Rattle.std.proofs.lemmas.Option.{none-some, same_Some}
use Rattle.std.specs.List.{flat_map}
use Rattle.std.specs.Prelude.{if◌then◌else◌}
use Rattle.ktm_base.specs.declared.id.Id.{Id}
use Rattle.ktm_base.specs.declared.id.Pid.{Pid}
use Rattle.ktm_base.specs.declared.id.Label.{Label}
use Rattle.ktm_world.specs.declared.object.Phase.{Phase}
use Rattle.ktm_world.specs.declared.object.Phase.TheVariants.{Active}
use Rattle.ktm_world.specs.declared.object.Transaction.{Transaction}
use Rattle.ktm_world.specs.declared.object.TransactionOutcome.{TransactionOutcome}
use Rattle.ktm_world.specs.declared.object.TransactionOutcome.TheVariants.{Undetermined, Committed, Aborted}
use Rattle.ktm_world.specs.declared.recorded.Stage.{Stage}
use Rattle.ktm_world.specs.declared.options.Durability.{Durability}
use Rattle.ktm_world.specs.declared.options.EnlistmentKind.{EnlistmentKind}
use Rattle.ktm_world.specs.declared.reply.Reply.{Reply}
use Rattle.ktm_world.specs.declared.reply.Reply.TheVariants.{Done}
use Rattle.ktm_world.specs.Committed.{committed_with, with_work}
use Rattle.ktm_world.specs.Durable.{Durable, after_event, is_before, with_manager, is_ready}
use Rattle.ktm_world.specs.Enlistments.{Enlistment, Manager, has_id, is_durable_at, is_open_for_votes, is_superior, superior_of, takes_part}
use Rattle.ktm_world.specs.Files.{FileTable, own_changes}
use Rattle.ktm_world.specs.HandleCalls.{close_handle, closed_file, exit, without_handle}
use Rattle.ktm_world.specs.Keys.{Own, Store, own_settings}
use Rattle.ktm_world.specs.Lawful.{Agrees, brought_back, stage_in, summaries_now, superior_now}
use Rattle.ktm_world.specs.Labels.{holds_of}
use Rattle.ktm_world.specs.Outcome.{Outcome, apply, committed_now, joined, only_reply, served}
use Rattle.ktm_world.specs.Present.{Present}
use Rattle.ktm_world.specs.TransactionCalls.{create_enlistment, create_resource_manager, create_transaction, enlistment_tests, keep_information, may_set_information, phase_passes, set_information_tests, tick, transaction_in, waits_for_superior, with_clock}
use Rattle.ktm_world.specs.Transactions.{is_committed, is_undecided, same_id, transaction_at}
use Rattle.ktm_world.specs.World.{by_rising_id}
use Rattle.ktm_world.specs.Tree.{Tree}
use Rattle.txf_laws.specs.Elements.{IsIn}
use Rattle.ktm_records.specs.Kept.{are_carried_out}
use Rattle.ktm_courses.specs.SoundCourse.{IsSoundCourse, has_manager, is_counted, is_outcome_of}
use Rattle.ktm_records.proofs.offered.Agreement.{Agreed, agreed-reply, agreed-still, as-owned, durable_ids, durable-stays, enlistments-kept, filter-alike, filter-step, find-step, flat_map-alike, ids-append, ids-served, managers-stay, recorded-later, summaries, summaries-kept, summaries-stay}
use Rattle.ktm_courses.proofs.offered.Beginnings.{new_enlistment, sound-clock}
use Rattle.ktm_courses.proofs.offered.Bindings.{StaysSound, stays-closing, stays-then}
use Rattle.ktm_courses.proofs.offered.Calls.{Passes, enlistment-allowed}
use Rattle.txf_laws.proofs.offered.Elements.{IsIn-filter, list_all-at, list_any-at}
use Rattle.ktm_courses.proofs.offered.FileSteps.{passes-left}
use Rattle.txf_laws.proofs.offered.Lists.{IsIn-unmap}
use Rattle.ktm_courses.proofs.offered.NewObjects.{counted-before, filter-silent, list_any-silent, next_id, next-other, superior-silent}
use Rattle.ktm_courses.proofs.offered.Moves.{if_parts, same-by_id}
use Rattle.ktm_records.proofs.LoggedOrder.{before-not}
use Rattle.ktm_owned.proofs.offered.EndedTransactions.{transaction_at-there}
use Rattle.ktm_courses.proofs.offered.OutcomesMade.{IsQuiet, served-then}
use Rattle.txf_laws.proofs.offered.Tables.{same_id-equal, same_id-sym}
use Rattle.ktm_records.proofs.offered.AgreementOfRollbacks.{agreed-aborted_by}
use Rattle.ktm_courses.proofs.offered.Views.{durable-served}
use Rattle.ktm_courses.proofs.offered.HandlesAndTime.{Closes, close_handle-so, exit-so, tick-so}

-- what agreement is of
abbrev Parts : Type 0
Parts = Durable × Tree × Store × List Manager × List Transaction × List Enlistment × FileTable × List Own

-- those of what is so now
abbrev pub parts_of : Present → Parts
parts_of x = (x.recorded, x.files.tree, x.keys.store, x.managers, x.transactions.items, x.transactions.enlistments, x.files.table, x.keys.own)

-- something that has them
abbrev with_parts : Present → Parts → Present
with_parts x (s, tree, store, ms, ts, es, table, own) = record x { recorded = s; managers = ms; transactions = record x.transactions { items = ts; enlistments = es }; files = record x.files { tree = tree; table = table }; keys = record { store = store; own = own } }

-- where these are the same, both agree or none does
agrees-alike : (x y : Present) → parts_of x ≡ parts_of y → Agrees x → Agrees y
agrees-alike x y same agrees =
    let moved : Agrees (with_parts x (parts_of y)) = subst (λ p. Agrees (with_parts x p)) same (record { tree = agrees.tree; keys = agrees.keys; managers = agrees.managers; transactions = agrees.transactions; next_node = agrees.next_node }) in
    record { tree = moved.tree; keys = moved.keys; managers = moved.managers; transactions = moved.transactions; next_node = moved.next_node }

pub agreed-alike : (x y : Present) → parts_of x ≡ parts_of y → Agreed x → Agreed y
agreed-alike x y same agreed = record { agrees = agrees-alike x y same agreed.agrees; carried = subst (λ (p : Parts). are_carried_out p.0 ≡ true) same agreed.carried }

agreed-joined : (x : Present) (a b : Outcome) → IsQuiet b → Agreed (apply (apply x a) b) → Agreed (apply x (joined a b))
agreed-joined x a b quiet agreed = agreed-alike (apply (apply x a) b) (apply x (joined a b)) (λ i. (
  sym (fold-append after_event x.recorded a.events b.events) i,
  (committed i).tree,
  (committed i).store,
  managers i,
  b.transactions.items,
  b.transactions.enlistments,
  b.table,
  b.own,
)) agreed
  where
    committed : committed_with (committed_with (committed_now x) a.works) b.works ≡ committed_with (committed_now x) (a.works ++ b.works)
    committed = sym (fold-append with_work (committed_now x) a.works b.works)

    managers : (apply (apply x a) b).managers ≡ (apply x (joined a b)).managers
    managers = (λ i. map (served (quiet.took i) b.sent) (map (served a.took a.sent) (x.managers ++ a.made) ++ quiet.made i))
        ∙ ap (map (served None b.sent)) (append-nil (map (served a.took a.sent) (x.managers ++ a.made)))
        ∙ served-then a.took a.sent b.sent (x.managers ++ a.made)
        ∙ ap (map (served a.took (a.sent ++ b.sent))) (ap (λ ms. x.managers ++ ms) (sym (append-nil a.made) ∙ ap (λ ms. a.made ++ ms) (sym quiet.made)))

-- ---- the last handle, and the end of a process

pub agreed-only_reply : (x : Present) (reply : Reply) → Agreed x → Agreed (apply x (only_reply x reply))
agreed-only_reply x reply agreed = agreed-reply x (only_reply x reply) agreed refl refl refl refl refl refl refl

-- a machine that is sound and agrees
abbrev pub IsAgreed : Present → Type 0
IsAgreed x = IsSoundCourse x × Agreed x

-- a machine stays sound and agrees after an outcome
abbrev pub StaysAgreed : Present → Outcome → Type 0
StaysAgreed x o = StaysSound x o × Agreed (apply x o)

pub agreed-closing : Closes IsAgreed StaysAgreed
agreed-closing = record {
  rolls = record {
    reply = λ x is. (stays-closing.rolls.reply x is.0, agreed-only_reply x Done is.1);
    rolls = λ x t is there can. (stays-closing.rolls.rolls x t is.0 there can, agreed-aborted_by x is.0 is.1 t there None Done can);
    goes_on = λ x a next first second. let rest = second (first.0.sound, first.1) in (stays-then x a next first.0 (λ sound. rest.0), agreed-joined x a (next (apply x a)) rest.0.quiet rest.1);
  };
  unbinds = λ x process label is. (stays-closing.unbinds x process label is.0, agreed-reply x (record (only_reply x Done) { handles = without_handle x.handles process label }) is.1 refl refl refl refl refl refl refl);
  ends = λ x number is.
      let o = record (only_reply x Done) { table = closed_file x.files.table number } in
      (stays-closing.ends x number is.0, agreed-still x o is.1 refl refl (managers-stay x o refl) (omega arith) (summaries-stay x (apply x o) refl (λ t there recorded. as-owned x o t refl refl refl refl)));
}

pub agreed-closed : (x : Present) (process : Pid) (label : Label) → IsSoundCourse x → Agreed x → Agreed (apply x (close_handle x process label))
agreed-closed x process label sound agreed = (close_handle-so _ _ agreed-closing x process label (sound, agreed)).1

pub agreed-exit : (x : Present) (process : Pid) → IsSoundCourse x → Agreed x → Agreed (apply x (exit x process))
agreed-exit x process sound agreed = (exit-so _ _ agreed-closing x process (sound, agreed)).1

pub agreed-tick : (x : Present) (ms : ℕ) → IsSoundCourse x → Agreed x → Agreed (apply x (tick x ms))
unfolding tick
agreed-tick x ms sound agreed =
    agreed-alike (apply (with_clock x ms) (tick x ms)) (apply x (tick x ms)) refl (tick-so _ _ agreed-closing.rolls x ms (sound-clock x ms sound, agreed-alike x (with_clock x ms) refl agreed)).1

-- ---- objects are made

pub agreed-create_transaction : (x : Present) (process : Pid) (label : Label) (timeout : ℕ) → Agreed x → Agreed (apply x (create_transaction x process label timeout))
unfolding create_transaction
agreed-create_transaction x process label timeout agreed =
    let o = create_transaction x process label timeout in
    agreed-still x o agreed refl refl (managers-stay x o refl) (omega arith)
    (flat_map-append (summaries (apply x o)) x.transactions.items _ ∙ append-nil (flat_map (summaries (apply x o)) x.transactions.items)
    ∙ flat_map-alike (summaries (apply x o)) (summaries x) x.transactions.items (λ t there. summaries-kept x (apply x o) t (λ recorded. as-owned x o t refl refl refl refl)))

-- a manager that is appended stands at its place where all others come before it
with_manager-last : (ids : List Id) (id : Id) → ((a : Id) → IsIn a ids → is_before a id ≡ true) → with_manager ids id ≡ ids ++ id ∷ []
with_manager-last [] id before = refl
with_manager-last (a ∷ ids) id before = rw (before-not a id (before a (inl refl))) (ap (λ rest. a ∷ rest) (with_manager-last ids id (λ b there. before b (inr there))))

pub agreed-create_manager : (x : Present) (process : Pid) (label : Label) (durability : Durability) → IsSoundCourse x → Agreed x → Agreed (apply x (create_resource_manager x process label durability))
unfolding create_resource_manager
agreed-create_manager x process label durability sound agreed = go durability
  where
    id : Id
    id = next_id x.recorded.boots x.transactions.last_manager

    o : Durability → Outcome
    o d = create_resource_manager x process label d

    counted : (m : Manager) → IsIn m x.managers → is_counted x.recorded.boots x.transactions.last_manager m.id ≡ true
    counted m there = list_all-at (λ (m : Manager). is_counted x.recorded.boots x.transactions.last_manager m.id) x.managers sound.managers.counted m there

    ids-in : (ms : List Manager) → ((m : Manager) → IsIn m ms → is_before m.id id ≡ true) → (a : Id) → IsIn a (durable_ids ms) → is_before a id ≡ true
    ids-in ms before a there =
        let from = IsIn-unmap (λ (m : Manager). m.id) a (filter (λ (m : Manager). m.is_durable) ms) there in
        subst (λ b. is_before b id ≡ true) from.1 (before from.0 (IsIn-filter (λ (m : Manager). m.is_durable) ms from.0 from.2).0)

    -- it is not that of any enlistment
    other : (durable : Bool) (e : Enlistment) → IsIn e x.transactions.enlistments → is_durable_at (x.managers ++ record { id = id; is_durable = durable; queue = [] } ∷ []) e.manager ≡ is_durable_at x.managers e.manager
    other durable e there =
        let some = list_any-at (λ (m : Manager). same_id m.id e.manager) x.managers (list_all-at (λ (e : Enlistment). has_manager x.managers e.manager) x.transactions.enlistments sound.enlistments.managers_there e there) in
        list_any-silent (λ (n : Manager). same_id n.id e.manager && n.is_durable) x.managers (record { id = id; is_durable = durable; queue = [] }) (and_left _ _
        (subst (λ other. same_id id other ≡ false) (same_id-equal (some.0).id e.manager some.2)
        (same_id-sym (some.0).id id (next-other x.recorded.boots x.transactions.last_manager (some.0).id (counted some.0 some.1)))))

    kept : (durable : Bool) (y : Present) → y.transactions.items ≡ x.transactions.items → y.transactions.enlistments ≡ x.transactions.enlistments → y.managers ≡ map (served None []) (x.managers ++ record { id = id; is_durable = durable; queue = [] } ∷ [])
        → y.files.table ≡ x.files.table → y.keys.own ≡ x.keys.own → summaries_now y ≡ summaries_now x
    kept durable y items enlistments managers table own = summaries-stay x y items (λ t there recorded. record {
      enlistments = enlistments-kept x y t.id enlistments (λ e there'. ap (λ ms. is_durable_at ms e.manager) managers ∙ durable-served None [] (x.managers ++ record { id = id; is_durable = durable; queue = [] } ∷ []) e.manager ∙ other durable e there');
      superior = λ stage stands later. ap (λ es. superior_now (superior_of es t.id)) enlistments;
      changes = ap (λ (table : FileTable). own_changes table.own t.id) table;
      settings = ap (λ os. own_settings os t.id) own;
    })

    ids : (durable : Bool) → durable_ids (map (served None []) (x.managers ++ record { id = id; is_durable = durable; queue = [] } ∷ [])) ≡ durable_ids x.managers ++ durable_ids (record { id = id; is_durable = durable; queue = [] } ∷ [])
    ids durable = ids-served None [] (x.managers ++ record { id = id; is_durable = durable; queue = [] } ∷ []) ∙ ids-append x.managers (record { id = id; is_durable = durable; queue = [] } ∷ [])

    go : (d : Durability) → Agreed (apply x (o d))
    go Durability.Volatile = agreed-still x (o Durability.Volatile) agreed refl refl (ids false ∙ append-nil (durable_ids x.managers)) (omega arith) (kept false (apply x (o Durability.Volatile)) refl refl refl refl refl)
    go Durability.Durable = record {
      agrees = record {
        tree = (agreed.agrees).tree;
        keys = (agreed.agrees).keys;
        managers = ap (λ ids. with_manager ids id) (agreed.agrees).managers
            ∙ with_manager-last (durable_ids x.managers) id (ids-in x.managers (λ m there. counted-before x.recorded.boots x.transactions.last_manager m.id (counted m there))) ∙ sym (ids true);
        transactions = (agreed.agrees).transactions ∙ sym (kept true (apply x (o Durability.Durable)) refl refl refl refl refl);
        next_node = (agreed.agrees).next_node;
      };
      carried = agreed.carried;
    }

-- ---- enlistments

-- an active transaction is none that the log has
active-other : (x : Present) → IsSoundCourse x → (t u : Transaction) → IsIn t x.transactions.items → IsIn u x.transactions.items → t.phase ≡ Active → u.is_recorded ≡ true → same_id t.id u.id ≡ false
active-other x sound t u there there' active recorded = false_from_ne_true _ (λ same.
    recorded-later x u sound there' recorded (ap (λ (v : Transaction). v.phase) (same-by_id (λ (v : Transaction). v.id) x.transactions.items sound.transactions.rise u t there' there (sym (same_id-equal t.id u.id same))) ∙ active))

pub agreed-create_enlistment : (x : Present) (process : Pid) (label : Label) (m : Option Manager) (t : Option Transaction) (kind : EnlistmentKind) → IsSoundCourse x → Agreed x
    → ((u : Transaction) → t ≡ Some u → IsIn u x.transactions.items × (u.phase ≡ Active)) → Agreed (apply x (create_enlistment x process label m t kind))
unfolding create_enlistment
agreed-create_enlistment x process label None t kind sound agreed active = agreed-only_reply x Done agreed
agreed-create_enlistment x process label (Some m) None kind sound agreed active = agreed-only_reply x Done agreed
agreed-create_enlistment x process label (Some m) (Some t) kind sound agreed active =
    let o = create_enlistment x process label (Some m) (Some t) kind in
    let e = new_enlistment x m t kind in
    agreed-still x o agreed refl refl (managers-stay x o refl) (omega arith) (summaries-stay x (apply x o) refl (λ u there recorded.
    let other = active-other x sound t u (active t refl).0 there (active t refl).1 recorded in record {
      enlistments = ap (λ es. by_rising_id (map brought_back es)) (
          filter-silent (λ f. takes_part u.id f && is_durable_at (apply x o).managers f.manager && f.is_prepared && not f.is_finished) x.transactions.enlistments e (rw other refl)
          ∙ filter-alike (λ f. takes_part u.id f && is_durable_at (apply x o).managers f.manager && f.is_prepared && not f.is_finished) (λ f. takes_part u.id f && is_durable_at x.managers f.manager && f.is_prepared && not f.is_finished)
          x.transactions.enlistments (λ f there' i. takes_part u.id f && durable-stays x o f.manager refl i && f.is_prepared && not f.is_finished));
      superior = λ stage stands later. ap superior_now (superior-silent u.id x.transactions.enlistments e (and_left _ _ other));
      changes = refl;
      settings = refl;
    }))

pub agreed-keep_information : (x : Present) (o : Option Enlistment) (information : List ℕ) → IsSoundCourse x → Agreed x → ((e : Enlistment) → o ≡ Some e → IsIn e x.transactions.enlistments) → Passes (set_information_tests x o information)
    → Agreed (apply x (keep_information x o information))
agreed-keep_information x None information sound agreed there passes = agreed-only_reply x Done agreed
agreed-keep_information x (Some e) information sound agreed there passes =
    agreed-still x o agreed refl refl (managers-stay x o refl) (omega arith) (summaries-stay x (apply x o) refl (λ u there' recorded. record {
      enlistments = ap (λ es. by_rising_id (map brought_back es)) (
          filter-step (λ f. takes_part u.id f && is_durable_at (apply x o).managers f.manager && f.is_prepared && not f.is_finished) informed x.transactions.enlistments (λ f in_list.
          either (λ f. takes_part u.id f && is_durable_at (apply x o).managers f.manager && f.is_prepared && not f.is_finished) (λ f. refl) (no-part u.id) f in_list)
          ∙ filter-alike (λ f. takes_part u.id f && is_durable_at (apply x o).managers f.manager && f.is_prepared && not f.is_finished) (λ f. takes_part u.id f && is_durable_at x.managers f.manager && f.is_prepared && not f.is_finished)
          x.transactions.enlistments (λ f in_list i. takes_part u.id f && durable-stays x o f.manager refl i && f.is_prepared && not f.is_finished));
      superior = λ stage stands later. ap superior_now (find-step (λ f. same_id f.transaction u.id && is_superior f) informed x.transactions.enlistments (λ f in_list.
          either (λ f. same_id f.transaction u.id && is_superior f) (λ f. refl) (no-superior u there' stage stands later) f in_list));
      changes = refl;
      settings = refl;
    }))
  where
    o : Outcome
    o = keep_information x (Some e) information

    informed : Enlistment → Enlistment
    informed f = if has_id e.id f then record f { information = information } else f

    may : may_set_information x e ≡ true
    may = enlistment-allowed (Some e) (may_set_information x) e refl (passes-left (enlistment_tests (Some e) (may_set_information x)) _ passes)

    both : (holds_of is_undecided (transaction_in x e) ≡ true) × ((if is_superior e then phase_passes x (λ phase. not (waits_for_superior phase)) e else is_open_for_votes e) ≡ true)
    both = and_parts (holds_of is_undecided (transaction_in x e)) (if is_superior e then phase_passes x (λ phase. not (waits_for_superior phase)) e else is_open_for_votes e) may

    -- what does not read the information stays of all but this enlistment, where it is not so of this one
    either : (test : Enlistment → Bool) → ((f : Enlistment) → test (record f { information = information }) ≡ test f) → test e ≡ false → (f : Enlistment) → IsIn f x.transactions.enlistments → ((test (informed f) ≡ false) × (test f ≡ false)) ⊎ (informed f ≡ f)
    either test same fails f in_list = elim (cases_Bool (has_id e.id f)) [
      | inr other ↦ inr (rw other refl)
      | inl is ↦
          let one : f ≡ e = same-by_id (λ (g : Enlistment). g.id) x.transactions.enlistments sound.enlistments.rise f e in_list (there e refl) (same_id-equal f.id e.id is) in
          let fails' : test f ≡ false = ap test one ∙ fails in
          inl (ap test (informed-is f is) ∙ same f ∙ fails', fails')
    ]
      where
        informed-is : (f : Enlistment) → has_id e.id f ≡ true → informed f ≡ record f { information = information }
        informed-is f is = rw is refl

    no-part : (id : Id) → (takes_part id e && is_durable_at (apply x o).managers e.manager && e.is_prepared && not e.is_finished) ≡ false
    no-part id = elim (if_parts (is_superior e) (phase_passes x (λ phase. not (waits_for_superior phase)) e) (is_open_for_votes e) both.1) [
      | inl above ↦ rw above.0 (and_left _ _ (and_left _ _ (and_left _ _ (and_left _ _ (and_right _ _ refl)))))
      | inr below ↦ rw (not-true _ (and_parts (not e.is_read_only) (not e.is_prepared) below.1).1) (and_left _ _ (and_right _ _ refl))
    ]

    no-superior : (u : Transaction) → IsIn u x.transactions.items → (stage : Stage) → stage_in u.phase ≡ Some stage → is_ready stage ≡ false → (same_id e.transaction u.id && is_superior e) ≡ false
    no-superior u there' stage stands later = false_from_ne_true _ (λ is.
        let parts = and_parts (same_id e.transaction u.id) (is_superior e) is in
        let found : transaction_in x e ≡ Some u = ap (transaction_at x.transactions.items) (same_id-equal e.transaction u.id parts.0) ∙ transaction_at-there x.transactions.items sound.transactions.rise u there' in
        let undecided : is_undecided u ≡ true = ap (holds_of is_undecided) (sym found) ∙ both.0 in
        elim (if_parts (is_superior e) (phase_passes x (λ phase. not (waits_for_superior phase)) e) (is_open_for_votes e) both.1) [
          | inr below ↦ true≢false (sym parts.1 ∙ below.0)
          | inl above ↦ waits u.phase stage stands later (list_all-at (λ (t : Transaction). is_outcome_of t.phase t) x.transactions.items sound.transactions.outcomes u there') undecided (ap (holds_of (λ t. not (waits_for_superior t.phase))) (sym found) ∙ above.1)
        ])
      where
        committed-known : (t : Transaction) → is_committed t ≡ true → is_undecided t ≡ true → ⊥
        committed-known t known undecided = go t.outcome refl
          where
            go : (outcome : TransactionOutcome) → t.outcome ≡ outcome → ⊥
            go Undetermined is = true≢false (sym known ∙ ap (λ outcome. is_committed (record t { outcome = outcome })) is)
            go Committed is = true≢false (sym undecided ∙ ap (λ outcome. is_undecided (record t { outcome = outcome })) is)
            go Aborted is = true≢false (sym known ∙ ap (λ outcome. is_committed (record t { outcome = outcome })) is)

        waits : (phase : Phase) (stage : Stage) → stage_in phase ≡ Some stage → is_ready stage ≡ false → is_outcome_of phase u ≡ true → is_undecided u ≡ true → not (waits_for_superior phase) ≡ true → ⊥
        waits Phase.Held stage stands later outcome undecided not_waiting = true≢false (sym not_waiting)
        waits Phase.InDoubt stage stands later outcome undecided not_waiting = true≢false (sym not_waiting)
        waits Phase.Committing stage stands later outcome undecided not_waiting = committed-known u outcome undecided
        waits Phase.Aborting stage stands later outcome undecided not_waiting = none-some _ stands
        waits Phase.Ended stage stands later outcome undecided not_waiting = none-some _ stands
        waits _ stage stands later outcome undecided not_waiting = true≢false (ap is_ready (same_Some _ _ stands) ∙ later)
