-- The steps of a transaction, and the courses of the model on which it stands.
use Rattle.std.proofs.Common.{◌≡◌, inl, inr, ◌||◌, Bool, true, false, List, [], ◌∷◌, ◌++◌, map, Option, Some, None, refl, sym, ◌∙◌, ap, subst, append_assoc, arith}
use Rattle.std.specs.Prelude.{filter, is_some}
use Rattle.std.specs.List.{list_any}
use Rattle.std.proofs.lemmas.Bool.{cases_Bool, true≢false}
use Rattle.std.proofs.lemmas.List.{append-nil}
use Rattle.ktm_base.specs.declared.id.Id.{Id}
use Rattle.ktm_world.specs.declared.change.Change.{Change}
use Rattle.ktm_world.specs.declared.object.Phase.{Phase}
use Rattle.ktm_world.specs.declared.object.Transaction.{Transaction}
use Rattle.ktm_world.specs.declared.object.TransactionOutcome.{TransactionOutcome}
use Rattle.ktm_world.specs.declared.step.Answered.{Answered}
use Rattle.ktm_world.specs.declared.step.Fact.{Fact}
use Rattle.ktm_world.specs.declared.step.Step.{Step}
use Rattle.ktm_world.specs.Changes.{has_changes}
use Rattle.ktm_world.specs.Enlistments.{Enlistment, Sent, allows_one_phase, asks_pre_prepare, id_of, is_unfinished, superior_of, tell, with_enlistments}
use Rattle.ktm_world.specs.Keys.{OwnSettings}
use Rattle.ktm_world.specs.Phases.{Course, ended, has_settings}
use Rattle.ktm_world.specs.Steps.{answered, basis, carried, changing, counted, is_of_durable, is_one_of, is_recorded_by, lasting_of, run, seen}
use Rattle.ktm_world.specs.Present.{Transactions}
use Rattle.ktm_world.specs.Transactions.{change_at}
use Rattle.ktm_enlist.specs.declared.counts.Counts.{Counts}
use Rattle.ktm_enlist.specs.Counts.{parts, AreCounts}
use Rattle.ktm_enlist.specs.Telling.{asked}
use Rattle.ktm_tm.specs.declared.steps.Going.{Going}
use Rattle.ktm_tm.specs.Courses.{caller_of, GoesBy, IsCourseIn}
use Rattle.ktm_tm.specs.Steps.{After, after, after_all, ends, entered, records, visits_all, visits_of, visits_on, with_answer}
use Rattle.ktm_tm.specs.Table.{IsForgotten}
use Rattle.ktm_tm.specs.TmState.{TmState}

-- the steps on this course go by this
record IsOn (g : Going) (c : Course) : Type 0 where
  pub calls : id_of c.caller ≡ g.caller
  pub durable : is_of_durable c.managers c.caller ≡ g.is_durable
  pub files : has_changes c.changes ≡ g.has_files
  pub keys : has_settings c.settings ≡ g.has_keys

-- a course is so after another, by what has been carried out
pub record IsAfter (c d : Course) (a : After) : Type 0 where
  pub transaction : d.transaction ≡ a.transaction
  pub enlistments : d.enlistments ≡ a.enlistments
  pub sent : d.sent ≡ c.sent ++ a.sent

-- ---- a step

lasting_is : (o : Option Enlistment) → is_some (lasting_of o) ≡ is_some o
lasting_is None = refl
lasting_is (Some e) = refl

recorded : (g : Going) (c : Course) (fact : Fact) → IsOn g c → is_recorded_by fact (basis c) ≡ records g fact c.transaction c.enlistments
recorded g c Fact.ReadyFiles on = ap (λ b. c.transaction.is_recorded || b) on.files
recorded g c Fact.ReadyKeys on = ap (λ b. c.transaction.is_recorded || b) on.keys
recorded g c Fact.Ready on = ap (λ b. b || c.transaction.is_recorded) on.durable
recorded g c Fact.Held on = ap (λ b. b || c.transaction.is_recorded) (lasting_is (superior_of c.enlistments c.transaction.id))
recorded g c Fact.Decide on = refl
recorded g c Fact.Undo on = refl
recorded g c Fact.DoneFiles on = refl
recorded g c Fact.DoneKeys on = refl
recorded g c Fact.Done on = refl
recorded g c Fact.SingleFiles on = refl
recorded g c Fact.SingleKeys on = refl

nothing_sent : (sent : List Sent) → sent ≡ sent ++ []
nothing_sent sent = sym (append-nil sent)

ended_after : (g : Going) (c : Course) (outcome : TransactionOutcome) → IsAfter c (ended c outcome) (ends g outcome c.transaction c.enlistments)
unfolding ended
ended_after g c outcome = record { transaction = refl; enlistments = refl; sent = refl }

answer_of : (c : Course) (o : Option Enlistment) (answer : Answered) → (changing c o (answered answer)).enlistments ≡ with_answer (id_of o) answer c.enlistments
answer_of c None answer = refl
answer_of c (Some e) answer = refl

answer_keeps : (c : Course) (o : Option Enlistment) (answer : Answered) → record c { enlistments = (changing c o (answered answer)).enlistments } ≡ changing c o (answered answer)
answer_keeps c None answer = refl
answer_keeps c (Some e) answer = refl

step_after : (g : Going) (c : Course) (step : Step) → IsOn g c → IsAfter c (carried step c) (after g step c.transaction c.enlistments)
step_after g c (Step.Record fact) on = record { transaction = ap (λ (b : Bool). record c.transaction { is_recorded = b }) (recorded g c fact on); enlistments = refl; sent = nothing_sent c.sent }
step_after g c Step.Commit on = record { transaction = refl; enlistments = refl; sent = nothing_sent c.sent }
step_after g c (Step.Tell who kind) on = record {
  transaction = refl;
  enlistments = ap (λ (o : Option Id). with_enlistments (is_one_of c.transaction.id o who) (asked None) c.enlistments) on.calls;
  sent = ap (λ (o : Option Id). c.sent ++ map (tell kind) (filter (is_one_of c.transaction.id o who) c.enlistments)) on.calls;
}
step_after g c (Step.Ask who kind owed) on = record {
  transaction = refl;
  enlistments = ap (λ (o : Option Id). with_enlistments (is_one_of c.transaction.id o who) (asked (Some owed)) c.enlistments) on.calls;
  sent = ap (λ (o : Option Id). c.sent ++ map (tell kind) (filter (is_one_of c.transaction.id o who) c.enlistments)) on.calls;
}
step_after g c (Step.Change answer) on = record {
  transaction = sym (ap (λ (d : Course). d.transaction) (answer_keeps c c.caller answer));
  enlistments = answer_of c c.caller answer ∙ ap (λ (o : Option Id). with_answer o answer c.enlistments) on.calls;
  sent = sym (ap (λ (d : Course). d.sent) (answer_keeps c c.caller answer)) ∙ nothing_sent c.sent;
}
step_after g c (Step.Enter phase) on = record { transaction = refl; enlistments = refl; sent = nothing_sent c.sent }
step_after g c (Step.Decide outcome) on = record { transaction = refl; enlistments = refl; sent = nothing_sent c.sent }
step_after g c (Step.End outcome) on = ended_after g c outcome
step_after g c (Step.EndWhereFinished outcome) on = elim (cases_Bool (list_any (is_unfinished c.transaction.id) c.enlistments)) [
  | inl is ↦ rw is record { transaction = refl; enlistments = refl; sent = nothing_sent c.sent }
  | inr none ↦ rw none (ended_after g c outcome)
]

ended_on : (g : Going) (c : Course) (outcome : TransactionOutcome) → IsOn g c → IsOn g (ended c outcome)
unfolding ended
ended_on g c outcome on = record { calls = on.calls; durable = on.durable; files = on.files; keys = on.keys }

step_on : (g : Going) (c : Course) (step : Step) → IsOn g c → IsOn g (carried step c)
step_on g c (Step.Record fact) on = record { calls = on.calls; durable = on.durable; files = on.files; keys = on.keys }
step_on g c Step.Commit on = record { calls = on.calls; durable = on.durable; files = on.files; keys = on.keys }
step_on g c (Step.Tell who kind) on = record { calls = on.calls; durable = on.durable; files = on.files; keys = on.keys }
step_on g c (Step.Ask who kind owed) on = record { calls = on.calls; durable = on.durable; files = on.files; keys = on.keys }
step_on g c (Step.Change answer) on = subst (IsOn g) (answer_keeps c c.caller answer) record { calls = on.calls; durable = on.durable; files = on.files; keys = on.keys }
step_on g c (Step.Enter phase) on = record { calls = on.calls; durable = on.durable; files = on.files; keys = on.keys }
step_on g c (Step.Decide outcome) on = record { calls = on.calls; durable = on.durable; files = on.files; keys = on.keys }
step_on g c (Step.End outcome) on = ended_on g c outcome on
step_on g c (Step.EndWhereFinished outcome) on = elim (cases_Bool (list_any (is_unfinished c.transaction.id) c.enlistments)) [
  | inl is ↦ rw is on
  | inr none ↦ rw none (ended_on g c outcome on)
]

-- ---- all steps

run_after : (g : Going) (c : Course) (steps : List Step) → IsOn g c → IsAfter c (run steps c) (after_all g steps c.transaction c.enlistments)
run_after g c [] on = record { transaction = refl; enlistments = refl; sent = nothing_sent c.sent }
run_after g c (step ∷ steps) on =
    let first = step_after g c step on in
    let rest = run_after g (carried step c) steps (step_on g c step on) in
    let a = after g step c.transaction c.enlistments in
    let same : after_all g steps (carried step c).transaction (carried step c).enlistments ≡ after_all g steps a.transaction a.enlistments =
    ap (λ (t : Transaction). after_all g steps t (carried step c).enlistments) first.transaction ∙ ap (after_all g steps a.transaction) first.enlistments in
    record {
      transaction = rest.transaction ∙ ap (λ (b : After). b.transaction) same;
      enlistments = rest.enlistments ∙ ap (λ (b : After). b.enlistments) same;
      sent =
          rest.sent ∙ ap (λ (b : After). (carried step c).sent ++ b.sent) same ∙ ap (λ (l : List Sent). l ++ (after_all g steps a.transaction a.enlistments).sent) first.sent
          ∙ append_assoc c.sent a.sent (after_all g steps a.transaction a.enlistments).sent;
    }

-- the steps on a course visit as many as those that are carried out
run_visits : (g : Going) (c : Course) (steps : List Step) → IsOn g c → visits_on steps c ≡ visits_all g steps c.transaction c.enlistments
run_visits g c [] on = refl
run_visits g c (step ∷ steps) on =
    let first = step_after g c step on in
    let rest = run_visits g (carried step c) steps (step_on g c step on) in
    let a = after g step c.transaction c.enlistments in
    let same : visits_all g steps (carried step c).transaction (carried step c).enlistments ≡ visits_all g steps a.transaction a.enlistments =
    ap (λ (t : Transaction). visits_all g steps t (carried step c).enlistments) first.transaction ∙ ap (visits_all g steps a.transaction) first.enlistments in
    let here = ap (λ (o : Option Id). visits_of step c.transaction.id o c.enlistments) on.calls in
    omega (arith, rest, same, here)

-- the course is one on which the steps go by this
course_on : (tm : TmState) (t : Transaction) (caller : Option Id) (has_files has_keys : Bool) (g : Going) (c : Course) → GoesBy tm caller has_files has_keys g → IsCourseIn tm t caller has_files has_keys c → IsOn g c
course_on tm t caller has_files has_keys g c goes is = record {
  calls = ap id_of is.calls ∙ goes.calls;
  durable = ap (λ ms. is_of_durable ms c.caller) is.managers ∙ ap (is_of_durable tm.managers) is.calls ∙ goes.durable;
  files = is.files ∙ goes.files;
  keys = is.keys ∙ goes.keys;
}

-- what is so after the steps on a course is what is carried out
pub course_after : (tm : TmState) (t : Transaction) (caller : Option Id) (has_files has_keys : Bool) (g : Going) (c : Course) (steps : List Step) → GoesBy tm caller has_files has_keys g → IsCourseIn tm t caller has_files has_keys c
    → IsAfter c (run steps c) (after_all g steps t tm.now.enlistments)
course_after tm t caller has_files has_keys g c steps goes is =
    subst (λ (t : Transaction). IsAfter c (run steps c) (after_all g steps t tm.now.enlistments)) is.transaction
    (subst (λ (es : List Enlistment). IsAfter c (run steps c) (after_all g steps c.transaction es)) is.enlistments (run_after g c steps (course_on tm t caller has_files has_keys g c goes is)))

-- as many are visited by the steps on a course as by what is carried out
pub course_visits : (tm : TmState) (t : Transaction) (caller : Option Id) (has_files has_keys : Bool) (g : Going) (c : Course) (steps : List Step) → GoesBy tm caller has_files has_keys g → IsCourseIn tm t caller has_files has_keys c
    → visits_on steps c ≡ visits_all g steps t tm.now.enlistments
course_visits tm t caller has_files has_keys g c steps goes is =
    run_visits g c steps (course_on tm t caller has_files has_keys g c goes is) ∙ ap (λ (t : Transaction). visits_all g steps t c.enlistments) is.transaction ∙ ap (visits_all g steps t) is.enlistments

-- all that was sent after the steps on a course is what their carrying out sends, since nothing was sent before
pub course_sent : (tm : TmState) (t : Transaction) (caller : Option Id) (has_files has_keys : Bool) (g : Going) (c : Course) (steps : List Step) → GoesBy tm caller has_files has_keys g → IsCourseIn tm t caller has_files has_keys c
    → (run steps c).sent ≡ (after_all g steps t tm.now.enlistments).sent
course_sent tm t caller has_files has_keys g c steps goes is =
    (course_after tm t caller has_files has_keys g c steps goes is).sent ∙ ap (λ (l : List Sent). l ++ (after_all g steps t tm.now.enlistments).sent) is.nothing_sent

-- ---- there is a course

some_changes : Bool → List Change
some_changes true = Change.Drop 0 ∷ []
some_changes false = []

some_settings : Bool → OwnSettings
some_settings true = record { key = []; value = None } ∷ []
some_settings false = []

changes_are : (b : Bool) → has_changes (some_changes b) ≡ b
unfolding some_changes
changes_are true = refl
changes_are false = refl

settings_are : (b : Bool) → has_settings (some_settings b) ≡ b
unfolding some_settings
settings_are true = refl
settings_are false = refl

pub a_course : TmState → Transaction → Option Id → Bool → Bool → Course
a_course tm t caller has_files has_keys = record {
  transaction = t;
  enlistments = tm.now.enlistments;
  managers = tm.managers;
  changes = some_changes has_files;
  settings = some_settings has_keys;
  caller = caller_of tm.now.enlistments caller;
  sent = [];
  events = [];
  works = [];
}

pub is_a_course : (tm : TmState) (t : Transaction) (caller : Option Id) (has_files has_keys : Bool) → IsCourseIn tm t caller has_files has_keys (a_course tm t caller has_files has_keys)
unfolding a_course
is_a_course tm t caller has_files has_keys =
    record { transaction = refl; enlistments = refl; managers = refl; calls = refl; files = changes_are has_files; keys = settings_are has_keys; nothing_sent = refl }

-- ---- the Id stays

step_id : (g : Going) (step : Step) (t : Transaction) (es : List Enlistment) → (after g step t es).transaction.id ≡ t.id
step_id g (Step.Record fact) t es = refl
step_id g Step.Commit t es = refl
step_id g (Step.Tell who kind) t es = refl
step_id g (Step.Ask who kind owed) t es = refl
step_id g (Step.Change answer) t es = refl
step_id g (Step.Enter phase) t es = refl
step_id g (Step.Decide outcome) t es = refl
step_id g (Step.End outcome) t es = refl
step_id g (Step.EndWhereFinished outcome) t es = elim (cases_Bool (list_any (is_unfinished t.id) es)) [ inl is ↦ rw is refl | inr none ↦ rw none refl ]

pub same_id : (g : Going) (steps : List Step) (t : Transaction) (es : List Enlistment) → (after_all g steps t es).transaction.id ≡ t.id
same_id g [] t es = refl
same_id g (step ∷ steps) t es = same_id g steps (after g step t es).transaction (after g step t es).enlistments ∙ step_id g step t es

-- ---- the times are forgotten once it has ended

forgets : (phase : Phase) (t : Transaction) → IsForgotten (entered phase t)
forgets Phase.Ended t over = (refl, refl)
forgets _ t over = absurd (true≢false over)

step_forgets : (g : Going) (step : Step) (t : Transaction) (es : List Enlistment) → IsForgotten t → IsForgotten (after g step t es).transaction
step_forgets g (Step.Record fact) t es forgotten = forgotten
step_forgets g Step.Commit t es forgotten = forgotten
step_forgets g (Step.Tell who kind) t es forgotten = forgotten
step_forgets g (Step.Ask who kind owed) t es forgotten = forgotten
step_forgets g (Step.Change answer) t es forgotten = forgotten
step_forgets g (Step.Enter phase) t es forgotten = forgets phase t
step_forgets g (Step.Decide outcome) t es forgotten = forgotten
step_forgets g (Step.End outcome) t es forgotten = λ over. (refl, refl)
step_forgets g (Step.EndWhereFinished outcome) t es forgotten = elim (cases_Bool (list_any (is_unfinished t.id) es)) [ inl is ↦ rw is forgotten | inr none ↦ rw none (λ over. (refl, refl)) ]

pub steps_forget : (g : Going) (steps : List Step) (t : Transaction) (es : List Enlistment) → IsForgotten t → IsForgotten (after_all g steps t es).transaction
steps_forget g [] t es forgotten = forgotten
steps_forget g (step ∷ steps) t es forgotten = steps_forget g steps (after g step t es).transaction (after g step t es).enlistments (step_forgets g step t es forgotten)

-- ---- what is so then

-- what counts of a course is what counts of the transaction
pub seen_is : (tm : TmState) (t : Transaction) (caller : Option Id) (has_files has_keys : Bool) (c : Course) (counts : Counts) (has_superior : Bool) → IsCourseIn tm t caller has_files has_keys c → AreCounts counts t.id tm.now.enlistments
    → has_superior ≡ is_some (superior_of tm.now.enlistments t.id)
    → record { phase = t.phase; has_superior = has_superior; enlistments = counts.enlistments; asking = counts.asking; in_one_phase = counts.in_one_phase; owing = counts.owing; has_files = has_files; has_keys = has_keys } ≡ seen c
seen_is tm t caller has_files has_keys c counts has_superior is are superior =
    let turned : (test : Enlistment → Bool) → parts t.id test tm.now.enlistments ≡ counted c test = λ test. ap (λ (u : Transaction). parts u.id test tm.now.enlistments) (sym is.transaction) ∙ ap (parts c.transaction.id test) (sym is.enlistments) in
    let phase : t.phase ≡ c.transaction.phase = ap (λ (u : Transaction). u.phase) (sym is.transaction) in
    let of_superior : has_superior ≡ is_some (superior_of c.enlistments c.transaction.id) =
    superior ∙ ap (λ (u : Transaction). is_some (superior_of tm.now.enlistments u.id)) (sym is.transaction) ∙ ap (λ (es : List Enlistment). is_some (superior_of es c.transaction.id)) (sym is.enlistments) in
    let all : counts.enlistments ≡ counted c (λ e. true) = are.enlistments ∙ turned (λ e. true) in
    let asking : counts.asking ≡ counted c asks_pre_prepare = are.asking ∙ turned asks_pre_prepare in
    let in_one_phase : counts.in_one_phase ≡ counted c allows_one_phase = are.in_one_phase ∙ turned allows_one_phase in
    let owing : counts.owing ≡ counted c (λ e. is_some e.owes) = are.owing ∙ turned (λ e. is_some e.owes) in
    let files : has_files ≡ has_changes c.changes = sym is.files in
    let keys : has_keys ≡ has_settings c.settings = sym is.keys in
    λ i. record { phase = phase i; has_superior = of_superior i; enlistments = all i; asking = asking i; in_one_phase = in_one_phase i; owing = owing i; has_files = files i; has_keys = keys i }

-- what is so now, once the transaction and the enlistments have come so far
pub now_then : (now : Transactions) (t other after_run : Transaction) (es es' : List Enlistment) → other.id ≡ t.id → other ≡ after_run → es ≡ es'
    → record now { items = change_at now.items other.id (λ u. other); enlistments = es } ≡ record now { items = change_at now.items t.id (λ u. after_run); enlistments = es' }
now_then now t other after_run es es' same is are =
    ap (λ (id : Id). record now { items = change_at now.items id (λ u. other); enlistments = es }) same
    ∙ ap (λ (v : Transaction). record now { items = change_at now.items t.id (λ u. v); enlistments = es }) is
    ∙ ap (λ (l : List Enlistment). record now { items = change_at now.items t.id (λ u. after_run); enlistments = l }) are
