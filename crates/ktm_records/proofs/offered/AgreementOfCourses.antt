-- What was recorded agrees with what is so now after a transaction has gone on, where its own part does.
use Rattle.std.specs.Prelude.{if◌then◌else◌}
use Rattle.std.proofs.Common.{◌≡◌, ◌≤◌, ◌&&◌, not, Bool, true, false, List, [], ◌∷◌, ◌++◌, map, filter, Option, Some, None, refl, sym, ◌∙◌, ap, subst, inl, inr, ◌⊎◌}
use Rattle.std.proofs.lemmas.Bool.{cases_Bool, and_left, true≢false}
use Rattle.std.proofs.lemmas.List.{map-append}
use Rattle.std.proofs.lemmas.Option.{none-some, same_Some}
use Rattle.std.specs.List.{flat_map}
use Rattle.ktm_base.specs.declared.id.Id.{Id}
use Rattle.ktm_world.specs.declared.event.Event.{Event}
use Rattle.ktm_world.specs.declared.object.Phase.{Phase}
use Rattle.ktm_world.specs.declared.object.Transaction.{Transaction}
use Rattle.ktm_world.specs.declared.recorded.Stage.{Stage}
use Rattle.ktm_world.specs.declared.reply.Reply.{Reply}
use Rattle.ktm_world.specs.Committed.{Work, committed_with}
use Rattle.ktm_world.specs.Durable.{Recorded, after_events, is_before, is_ready}
use Rattle.ktm_world.specs.Enlistments.{Enlistment, is_durable_at, is_superior, superior_of, takes_part}
use Rattle.ktm_world.specs.Files.{own_changes}
use Rattle.ktm_world.specs.Keys.{own_settings}
use Rattle.ktm_world.specs.Lawful.{Agrees, Summary, brought_back, is_held_stage, recorded_enlistments, stage_in, stays, summaries_now, summary_in, summary_now, summary_of, superior_now}
use Rattle.ktm_world.specs.Outcome.{Outcome, apply, committed_now}
use Rattle.ktm_world.specs.Phases.{Course, superior}
use Rattle.ktm_world.specs.Present.{Present}
use Rattle.ktm_world.specs.TransactionCalls.{arrived, course_of}
use Rattle.ktm_world.specs.Transactions.{change_at, same_id, is_undecided}
use Rattle.ktm_world.specs.World.{by_rising_id}
use Rattle.txf_laws.specs.Elements.{IsIn}
use Rattle.ktm_records.specs.Kept.{are_carried_out, is_carried_out}
use Rattle.ktm_courses.specs.SoundCourse.{IsSoundCourse, is_outcome_of}
use Rattle.ktm_records.proofs.offered.Agreement.{Agreed, durable-stays, filter-alike, filter-step, find-step, flat_map-alike, managers-stay, summaries, summaries-kept}
use Rattle.txf_laws.proofs.offered.Diamonds.{IsIn-map, IsIn-right}
use Rattle.txf_laws.proofs.offered.Elements.{IsIn-unflat, first-same, list_all-at, list_all-from, rest-same, some-not_none}
use Rattle.txf_laws.proofs.offered.Lists.{IsIn-cases, IsIn-left}
use Rattle.ktm_courses.proofs.offered.Moves.{Moved}
use Rattle.ktm_records.proofs.LoggedOrder.{Place, earlier-other, gathered-at, if_there, later-other, place, placed, unmap-append}
use Rattle.ktm_courses.proofs.offered.OutcomesMade.{own_changes-without, own_settings-without}
use Rattle.txf_laws.proofs.offered.Tables.{same_id-equal}
use Rattle.ktm_records.proofs.LoggedTransaction.{Tracks}
use Rattle.ktm_steps.proofs.offered.Ways.{if_cases}

-- ---- Ids of summaries

summaries-id : (x : Present) (u : Transaction) (s : Summary) → IsIn s (summaries x u) → s.id ≡ u.id
summaries-id x u s there = go u.is_recorded (stage_in u.phase) there
  where
    one : (b : Bool) (stage : Stage) → IsIn s (if b then summary_now x u stage ∷ [] else []) → s.id ≡ u.id
    one true stage (inl same) = sym (ap (λ (s : Summary). s.id) same)
    one true stage (inr none) = absurd none
    one false stage none = absurd none

    go : (b : Bool) (o : Option Stage) → IsIn s (if b then summary_in x u o else []) → s.id ≡ u.id
    go false o none = absurd none
    go true None none = absurd none
    go true (Some stage) there' = one (stays (summary_now x u stage)) stage there'

-- ---- an outcome by which a course has arrived

-- what it makes of the machine, whether its outcome is known or not
pub record IsArrival (x : Present) (d : Course) (o : Outcome) : Type 0 where
  pub events : o.events ≡ d.events
  pub works : o.works ≡ d.works
  pub items : o.transactions.items ≡ change_at x.transactions.items d.transaction.id (λ t. d.transaction)
  pub enlistments : o.transactions.enlistments ≡ d.enlistments
  pub made : o.made ≡ []
  pub next : o.table.next_node ≡ x.files.table.next_node
  pub changes : (id : Id) → same_id id d.transaction.id ≡ false → own_changes o.table.own id ≡ own_changes x.files.table.own id
  pub settings : (id : Id) → same_id id d.transaction.id ≡ false → own_settings o.own id ≡ own_settings x.keys.own id
  pub owned : is_undecided d.transaction ≡ true → (o.table.own ≡ x.files.table.own) × (o.own ≡ x.keys.own)

pub arrival : (x : Present) (d : Course) (reply : Reply) → IsArrival x d (arrived x d reply)
arrival x d reply = if_cases (λ o. IsArrival x d o) (is_undecided d.transaction) _ _
    (λ is. record { events = refl; works = refl; items = refl; enlistments = refl; made = refl; next = refl; changes = λ id other. refl; settings = λ id other. refl; owned = λ is'. (refl, refl) })
    (λ known. record {
      events = refl;
      works = refl;
      items = refl;
      enlistments = refl;
      made = refl;
      next = refl;
      changes = λ id other. own_changes-without x.files.table.own d.transaction.id id other;
      settings = λ id other. own_settings-without x.keys.own d.transaction.id id other;
      owned = λ is. absurd (true≢false (sym is ∙ known));
    })

-- ---- what the log has to have of a transaction on its way

-- its enlistments whose readiness is recorded, and that have not finished
abbrev pub course_enlistments : Course → List Enlistment
course_enlistments c = by_rising_id (map brought_back (filter (λ e. takes_part c.transaction.id e && is_durable_at c.managers e.manager && e.is_prepared && not e.is_finished) c.enlistments))

-- at this stage
abbrev pub course_now : Course → Stage → Summary
course_now c stage = record {
  id = c.transaction.id;
  stage = stage;
  superior = if is_ready stage then None else superior_now (superior c);
  enlistments = course_enlistments c;
  changes = if is_held_stage stage then c.changes else [];
  settings = if is_held_stage stage then c.settings else [];
}

-- where it stands in the log at all
abbrev pub course_in : Course → Option Stage → List Summary
course_in c None = []
course_in c (Some stage) = filter stays (course_now c stage ∷ [])

-- if the log has it
abbrev pub course_summaries : Course → List Summary
course_summaries c = if c.transaction.is_recorded then course_in c (stage_in c.transaction.phase) else []

-- the log has to have of a transaction what it has to have of its course
pub begun : (x : Present) (t : Transaction) (caller : Option Enlistment) → summaries x t ≡ course_summaries (course_of x t caller)
begun x t caller = elim (cases_Bool t.is_recorded) [ inl recorded ↦ rw recorded (go (stage_in t.phase)) | inr other ↦ rw other refl ]
  where
    go : (o : Option Stage) → summary_in x t o ≡ course_in (course_of x t caller) o
    go None = refl
    go (Some stage) = refl

-- in a phase that the log knows nothing of it has to have nothing of a transaction
pub none-in : (d : Course) → stage_in d.transaction.phase ≡ None → course_summaries d ≡ []
none-in d stage = elim (cases_Bool d.transaction.is_recorded) [ inl recorded ↦ rw recorded (ap (course_in d) stage) | inr other ↦ rw other refl ]

-- the log has to have nothing of a transaction that it does not have
pub none-unrecorded : (d : Course) → d.transaction.is_recorded ≡ false → course_summaries d ≡ []
none-unrecorded d other = rw other refl

-- what was recorded by its events is what was committed by its works, and of itself what the log has to have
pub record Follows (x : Present) (id : Id) (before behind : List Recorded) (d : Course) : Type 0 where
  pub o : Option Recorded
  pub tracks : Tracks x id before behind o (after_events x.recorded d.events) (committed_with (committed_now x) d.works)
  pub summaries : map summary_of (if_there o) ≡ course_summaries d
  pub carried : (r : Recorded) → IsIn r (if_there o) → is_carried_out r ≡ true

-- what follows from known events and works follows of the course that has them
pub follows-from : (x : Present) (id : Id) (before behind : List Recorded) (d : Course) (o : Option Recorded) (es : List Event) (ws : List Work) → d.events ≡ es → d.works ≡ ws
    → Tracks x id before behind o (after_events x.recorded es) (committed_with (committed_now x) ws) → map summary_of (if_there o) ≡ course_summaries d → ((r : Recorded) → IsIn r (if_there o) → is_carried_out r ≡ true)
    → Follows x id before behind d
follows-from x id before behind d o es ws events works tracks summaries carried = record {
  o = o;
  tracks = subst (λ es. Tracks x id before behind o (after_events x.recorded es) (committed_with (committed_now x) d.works)) (sym events)
      (subst (λ ws. Tracks x id before behind o (after_events x.recorded es) (committed_with (committed_now x) ws)) (sym works) tracks);
  summaries = summaries;
  carried = carried;
}

-- ---- the other transactions

-- at most one summary is of one recorded transaction at most
one-there : (rs : List Recorded) (ss : List Summary) → map summary_of rs ≡ ss → (ss ≡ []) ⊎ ((s : Summary) × (ss ≡ s ∷ [])) → (o : Option Recorded) × (rs ≡ if_there o)
one-there [] ss all one = (None, refl)
one-there (r ∷ []) ss all one = (Some r, refl)
one-there (r ∷ q ∷ rs) ss all (inl none) = absurd (some-not_none (summary_of r) (map summary_of (q ∷ rs)) (all ∙ none))
one-there (r ∷ q ∷ rs) ss all (inr (s, one)) = absurd (some-not_none (summary_of q) (map summary_of rs) (rest-same (summary_of r) s (map summary_of (q ∷ rs)) [] (all ∙ one)))

summaries-one : (x : Present) (t : Transaction) → (summaries x t ≡ []) ⊎ ((s : Summary) × (summaries x t ≡ s ∷ []))
summaries-one x t = go t.is_recorded (stage_in t.phase)
  where
    one : (b : Bool) (s : Summary) → ((if b then s ∷ [] else []) ≡ []) ⊎ ((s' : Summary) × ((if b then s ∷ [] else []) ≡ s' ∷ []))
    one true s = inr (s, refl)
    one false s = inl refl

    go : (b : Bool) (o : Option Stage) → ((if b then summary_in x t o else []) ≡ []) ⊎ ((s : Summary) × ((if b then summary_in x t o else []) ≡ s ∷ []))
    go false o = inl refl
    go true None = inl refl
    go true (Some stage) = one (stays (summary_now x t stage)) (summary_now x t stage)

-- what the log has of a transaction among the others
pub record Was (x : Present) (t : Transaction) (at : Place x.transactions.items t) : Type 0 where
  pub before : List Recorded
  pub o : Option Recorded
  pub behind : List Recorded
  pub tracks : Tracks x t.id before behind o x.recorded (committed_now x)
  pub front : map summary_of before ≡ flat_map (summaries x) at.before
  pub own : map summary_of (if_there o) ≡ summaries x t
  pub rest : map summary_of behind ≡ flat_map (summaries x) at.behind

-- one that the log has it has
pub was-in : (x : Present) (t : Transaction) (at : Place x.transactions.items t) (had : Was x t at) (r : Recorded) → IsIn r (if_there had.o) → IsIn r x.recorded.transactions
was-in x t at had r is = subst (IsIn r) (sym ((had.tracks).place).all) (IsIn-right r had.before (if_there had.o ++ had.behind) (IsIn-left r (if_there had.o) had.behind is))

-- what a summary is of
pub summary-one : (o : Option Recorded) (s : Summary) → map summary_of (if_there o) ≡ s ∷ [] → (r : Recorded) × (o ≡ Some r) × (summary_of r ≡ s)
summary-one None s all = absurd (some-not_none s [] (sym all))
summary-one (Some r) s all = (r, refl, first-same (summary_of r) s [] [] all)

pub summary-none : (o : Option Recorded) → map summary_of (if_there o) ≡ [] → o ≡ None
summary-none None all = refl
summary-none (Some r) all = absurd (some-not_none (summary_of r) [] all)

pub placed-at : (x : Present) → IsSoundCourse x → (t : Transaction) → IsIn t x.transactions.items → Place x.transactions.items t
placed-at x sound t there = place x.transactions.items t sound.transactions.rise there

pub was : (x : Present) (sound : IsSoundCourse x) (t : Transaction) (there : IsIn t x.transactions.items) → Agrees x → Was x t (placed-at x sound t there)
was x sound t there agrees = go (one-there own.0 (summaries x t) own.3 (summaries-one x t))
  where
    at : Place x.transactions.items t
    at = placed-at x sound t there

    all : map summary_of x.recorded.transactions ≡ flat_map (summaries x) at.before ++ (summaries x t ++ flat_map (summaries x) at.behind)
    all = agrees.transactions ∙ ap (flat_map (summaries x)) at.all ∙ gathered-at (summaries x) at.before at.behind t

    front : (ys : List Recorded) × (zs : List Recorded) × (x.recorded.transactions ≡ ys ++ zs) × (map summary_of ys ≡ flat_map (summaries x) at.before) × (map summary_of zs ≡ summaries x t ++ flat_map (summaries x) at.behind)
    front = unmap-append summary_of x.recorded.transactions (flat_map (summaries x) at.before) (summaries x t ++ flat_map (summaries x) at.behind) all

    own : (ys : List Recorded) × (zs : List Recorded) × (front.1 ≡ ys ++ zs) × (map summary_of ys ≡ summaries x t) × (map summary_of zs ≡ flat_map (summaries x) at.behind)
    own = unmap-append summary_of front.1 (summaries x t) (flat_map (summaries x) at.behind) front.4

    -- one of those of some transactions has the Id of one of them
    one-of : (rs : List Recorded) (ts : List Transaction) → map summary_of rs ≡ flat_map (summaries x) ts → (r : Recorded) → IsIn r rs → (u : Transaction) × IsIn u ts × (r.id ≡ u.id)
    one-of rs ts gathered r in_rs =
        let from = IsIn-unflat (summaries x) ts (summary_of r) (subst (IsIn (summary_of r)) gathered (IsIn-map summary_of r rs in_rs)) in
        (from.0, from.1, summaries-id x from.0 (summary_of r) from.2)

    go : (o : Option Recorded) × (own.0 ≡ if_there o) → Was x t at
    go (o, one) = record {
      before = front.0;
      o = o;
      behind = own.1;
      tracks = record {
        place = record {
          all = front.2 ∙ ap (λ rs. front.0 ++ rs) (own.2 ∙ ap (λ rs. rs ++ own.1) one);
          itself = λ r is. summaries-id x t (summary_of r) (subst (IsIn (summary_of r)) own.3 (IsIn-map summary_of r own.0 (subst (IsIn r) (sym (one ∙ ap if_there is)) (inl refl))));
          earlier = λ r in_front. let u = one-of front.0 at.before front.3 r in_front in subst (λ id. is_before id t.id ≡ true) (sym u.2) (at.earlier u.0 u.1);
          later = λ r in_rest. let u = one-of own.1 at.behind own.4 r in_rest in subst (λ id. is_before t.id id ≡ true) (sym u.2) (at.later u.0 u.1);
        };
        tree = agrees.tree;
        keys = agrees.keys;
        managers = refl;
        next_node = agrees.next_node;
      };
      front = front.3;
      own = ap (map summary_of) (sym one) ∙ own.3;
      rest = own.4;
    }

module _ (x : Present) (sound : IsSoundCourse x) (agreed : Agreed x) (t : Transaction) (there : IsIn t x.transactions.items) where
  abbrev at : Place x.transactions.items t
  at = placed-at x sound t there

  -- what the log has of it
  abbrev had : Was x t at
  had = was x sound t there agreed.agrees

  -- each of those that the log has was carried out
  carried-there : (r : Recorded) → IsIn r (had.before ++ (if_there had.o ++ had.behind)) → is_carried_out r ≡ true
  carried-there r in_all = list_all-at is_carried_out x.recorded.transactions agreed.carried r (subst (IsIn r) (sym ((had.tracks).place).all) in_all)

  -- what the log has of the transaction itself was carried out
  pub carried-itself : (r : Recorded) → IsIn r (if_there had.o) → is_carried_out r ≡ true
  carried-itself r is = list_all-at is_carried_out x.recorded.transactions agreed.carried r (was-in x t at had r is)

  module _ (caller : Option Enlistment) (d : Course) (moved : Moved (course_of x t caller) d) where
    -- what only another transaction's enlistments pass, those pass that passed it
    stays-of : (u : Transaction) → same_id u.id t.id ≡ false → (test : Enlistment → Bool) → ((e : Enlistment) → same_id e.transaction u.id ≡ false → test e ≡ false) → (e : Enlistment) → IsIn e x.transactions.enlistments
        → ((test (moved.enlistments.step e) ≡ false) × (test e ≡ false)) ⊎ (moved.enlistments.step e ≡ e)
    stays-of u other test away e there' = elim (cases_Bool (same_id e.transaction u.id)) [
      | inr elsewhere ↦ inl (away (moved.enlistments.step e) (ap (λ id. same_id id u.id) (moved.enlistments.same e).transaction ∙ elsewhere), away e elsewhere)
      | inl own ↦ inr (moved.enlistments.others e there' (subst (λ id. same_id id t.id ≡ false) (sym (same_id-equal e.transaction u.id own)) other))
    ]

    module _ (outcome : is_outcome_of d.transaction.phase d.transaction ≡ true) (o : Outcome) (is : IsArrival x d o) where
      abbrev y : Present
      y = apply x o

      -- another transaction is as it was
      kept : (u : Transaction) → same_id u.id t.id ≡ false → summaries y u ≡ summaries x u
      kept u other = summaries-kept x y u (λ recorded. record {
        enlistments =
            ap (λ es. by_rising_id (map brought_back (filter (λ e. takes_part u.id e && is_durable_at y.managers e.manager && e.is_prepared && not e.is_finished) es))) (is.enlistments ∙ moved.enlistments.is)
            ∙ ap (λ es. by_rising_id (map brought_back es))
            (filter-step (λ e. takes_part u.id e && is_durable_at y.managers e.manager && e.is_prepared && not e.is_finished) moved.enlistments.step x.transactions.enlistments
            (stays-of u other (λ e. takes_part u.id e && is_durable_at y.managers e.manager && e.is_prepared && not e.is_finished) (λ e elsewhere. rw elsewhere refl)))
            ∙ ap (λ es. by_rising_id (map brought_back es))
            (filter-alike (λ e. takes_part u.id e && is_durable_at y.managers e.manager && e.is_prepared && not e.is_finished) (λ e. takes_part u.id e && is_durable_at x.managers e.manager && e.is_prepared && not e.is_finished)
            x.transactions.enlistments (λ e there' i. takes_part u.id e && durable-stays x o e.manager is.made i && e.is_prepared && not e.is_finished));
        superior = λ stage stands later. ap superior_now (ap (λ es. superior_of es u.id) (is.enlistments ∙ moved.enlistments.is) ∙ find-step (λ e. same_id e.transaction u.id && is_superior e) moved.enlistments.step x.transactions.enlistments (stays-of u other (λ e. same_id e.transaction u.id && is_superior e) (λ e elsewhere. and_left _ _ elsewhere)));
        changes = is.changes u.id (subst (λ id. same_id u.id id ≡ false) (sym moved.stays.id) other);
        settings = is.settings u.id (subst (λ id. same_id u.id id ≡ false) (sym moved.stays.id) other);
      })

      -- of one that is undecided what it changed and set is left
      own-left : is_undecided d.transaction ≡ true → (own_changes y.files.table.own d.transaction.id ≡ d.changes) × (own_settings y.keys.own d.transaction.id ≡ d.settings)
      own-left undecided = let own = is.owned undecided in (
        (λ i. own_changes (own.0 i) (moved.stays.id i)) ∙ sym moved.stays.changes,
        (λ i. own_settings (own.1 i) (moved.stays.id i)) ∙ sym moved.stays.settings,
      )

      held-undecided : (phase : Phase) → is_outcome_of phase d.transaction ≡ true → (stage : Stage) → stage_in phase ≡ Some stage → is_held_stage stage ≡ true → is_undecided d.transaction ≡ true
      held-undecided Phase.Committing is' stage stands held = absurd (true≢false (sym held ∙ ap is_held_stage (sym (same_Some _ _ stands))))
      held-undecided Phase.Aborting is' stage stands held = absurd (none-some _ stands)
      held-undecided Phase.Ended is' stage stands held = absurd (none-some _ stands)
      held-undecided _ is' stage stands held = is'

      -- the log has to have of the transaction itself what it has to have of its course
      itself : summaries y d.transaction ≡ course_summaries d
      itself = elim (cases_Bool d.transaction.is_recorded) [ inl recorded ↦ rw recorded (go (stage_in d.transaction.phase) refl) | inr other ↦ rw other refl ]
        where
          enlistments-same : recorded_enlistments y d.transaction.id ≡ course_enlistments d
          enlistments-same =
              ap (λ es. by_rising_id (map brought_back (filter (λ e. takes_part d.transaction.id e && is_durable_at y.managers e.manager && e.is_prepared && not e.is_finished) es))) is.enlistments
              ∙ ap (λ es. by_rising_id (map brought_back es))
              (filter-alike (λ e. takes_part d.transaction.id e && is_durable_at y.managers e.manager && e.is_prepared && not e.is_finished) (λ e. takes_part d.transaction.id e && is_durable_at d.managers e.manager && e.is_prepared && not e.is_finished)
              d.enlistments (λ e there' i. takes_part d.transaction.id e && (durable-stays x o e.manager is.made ∙ ap (λ ms. is_durable_at ms e.manager) (sym moved.stays.managers)) i && e.is_prepared && not e.is_finished))

          held : {X : Type 0} (none a b : X) (c : Bool) → (c ≡ true → a ≡ b) → (if c then a else none) ≡ (if c then b else none)
          held none a b true same = same refl
          held none a b false same = refl

          go : (stage : Option Stage) → stage_in d.transaction.phase ≡ stage → summary_in y d.transaction stage ≡ course_in d stage
          go None at = refl
          go (Some stage) at = ap (λ s. filter stays (s ∷ [])) (λ i. record {
            id = d.transaction.id;
            stage = stage;
            superior = if is_ready stage then None else superior_now (superior_of (is.enlistments i) d.transaction.id);
            enlistments = enlistments-same i;
            changes = held [] (own_changes y.files.table.own d.transaction.id) d.changes (is_held_stage stage) (λ waits. (own-left (held-undecided d.transaction.phase outcome stage at waits)).0) i;
            settings = held [] (own_settings y.keys.own d.transaction.id) d.settings (is_held_stage stage) (λ waits. (own-left (held-undecided d.transaction.phase outcome stage at waits)).1) i;
          })

      now : summaries_now y ≡ map summary_of had.before ++ (course_summaries d ++ map summary_of had.behind)
      now =
          ap (flat_map (summaries y)) (is.items ∙ (λ i. change_at (at.all i) (moved.stays.id i) (λ v. d.transaction)) ∙ placed at.before at.behind t d.transaction at.earlier)
          ∙ gathered-at (summaries y) at.before at.behind d.transaction
          ∙ (λ i. flat_map-alike (summaries y) (summaries x) at.before (λ u before. kept u (earlier-other u.id t.id (at.earlier u before))) i
          ++ (itself i ++ flat_map-alike (summaries y) (summaries x) at.behind (λ u behind. kept u (later-other t.id u.id (at.later u behind))) i))
          ∙ (λ i. sym had.front i ++ (course_summaries d ++ sym had.rest i))

      agreed-after : Follows x t.id had.before had.behind d → Agreed y
      agreed-after follows =
          let tracks = follows.tracks in
          let all = (tracks.place).all in
          record {
            agrees = record {
              tree = ap (λ es. (after_events x.recorded es).tree) is.events ∙ tracks.tree ∙ sym (ap (λ ws. (committed_with (committed_now x) ws).tree) is.works);
              keys = ap (λ es. (after_events x.recorded es).keys) is.events ∙ tracks.keys ∙ sym (ap (λ ws. (committed_with (committed_now x) ws).store) is.works);
              managers = ap (λ es. (after_events x.recorded es).managers) is.events ∙ tracks.managers ∙ (agreed.agrees).managers ∙ sym (managers-stay x o is.made);
              transactions = ap (λ es. map summary_of (after_events x.recorded es).transactions) is.events ∙ ap (map summary_of) all ∙ map-append summary_of had.before (if_there follows.o ++ had.behind)
                  ∙ ap (λ ss. map summary_of had.before ++ ss) (map-append summary_of (if_there follows.o) had.behind ∙ ap (λ ss. ss ++ map summary_of had.behind) follows.summaries) ∙ sym now;
              next_node = subst (λ es. (after_events x.recorded es).next_node ≤ o.table.next_node) (sym is.events) (subst (λ n. (after_events x.recorded d.events).next_node ≤ n) (sym is.next) tracks.next_node);
            };
            carried = subst (λ es. are_carried_out (after_events x.recorded es) ≡ true) (sym is.events) (list_all-from is_carried_out (after_events x.recorded d.events).transactions (λ r in_after.
                elim (IsIn-cases r had.before (if_there follows.o ++ had.behind) (subst (IsIn r) all in_after)) [
                  | inl early ↦ carried-there r (IsIn-left r had.before (if_there had.o ++ had.behind) early)
                  | inr more ↦ elim (IsIn-cases r (if_there follows.o) had.behind more) [
                    | inl own ↦ follows.carried r own
                    | inr late ↦ carried-there r (IsIn-right r had.before (if_there had.o ++ had.behind) (IsIn-right r (if_there had.o) had.behind late))
                  ]
                ]));
          }

    pub agreed-arrived : (reply : Reply) → is_outcome_of d.transaction.phase d.transaction ≡ true → Follows x t.id had.before had.behind d → Agreed (apply x (arrived x d reply))
    agreed-arrived reply outcome follows = agreed-after outcome (arrived x d reply) (arrival x d reply) follows
