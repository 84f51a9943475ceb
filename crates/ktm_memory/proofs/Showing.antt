-- What memory shows, and what the steps of a transaction come to by what it shows.
use Rattle.std.specs.Prelude.{if◌then◌else◌}
use Rattle.std.proofs.Common.{◌≡◌, ◌||◌, ◌++◌, Bool, true, false, List, [], ◌∷◌, Option, Some, None, refl, sym, ◌∙◌, ap}
use Rattle.std.specs.List.{list_any}
use Rattle.ktm_base.specs.declared.id.Id.{Id}
use Rattle.ktm_trace.proofs.Expanding.{kept_law}
use Rattle.ktm_tm.specs.Courses.{IsCourseIn, caller_of}
use Rattle.ktm_world.specs.declared.change.Change.{Change}
use Rattle.ktm_world.specs.declared.event.Event.{Event}
use Rattle.ktm_world.specs.declared.object.Transaction.{Transaction}
use Rattle.ktm_world.specs.declared.step.Fact.{Fact}
use Rattle.ktm_world.specs.declared.step.Step.{Step}
use Rattle.ktm_world.specs.Changes.{has_changes}
use Rattle.ktm_world.specs.Committed.{Work}
use Rattle.ktm_world.specs.Enlistments.{is_unfinished}
use Rattle.ktm_world.specs.Files.{FilesNow, own_changes}
use Rattle.ktm_world.specs.Keys.{KeysNow, OwnSettings, own_settings}
use Rattle.ktm_world.specs.Phases.{Course, ended, has_settings, work_of}
use Rattle.ktm_world.specs.Present.{Present, Transactions}
use Rattle.ktm_world.specs.Steps.{answered, basis, carried, changing, events_of, is_recorded_by, run}
use Rattle.ktm_world.specs.TransactionCalls.{course_of}
use Rattle.txf_volume.specs.Held.{files_of}
use Rattle.ktm_memory.specs.Memory.{MemoryState, Shows, course_then, present_of}

-- memory shows what it holds
pub shows_held : (m : MemoryState) → Shows m (present_of m)
shows_held m = record {
  is_up = refl;
  boot = refl;
  transactions = refl;
  managers = refl;
  traces = sym (kept_law m.tm.now.enlistments (files_of m.files).table.own m.keys.own m.trace);
  files = refl;
  next_node = refl;
  keys = refl;
  handles = refl;
}

-- ---- the course of a transaction

-- the course is the transaction's by what memory holds
pub course_in : (m : MemoryState) (x : Present) (t : Transaction) (caller : Option Id) (has_files has_keys : Bool) → Shows m x → has_files ≡ has_changes (own_changes (files_of m.files).table.own t.id)
    → has_keys ≡ has_settings (own_settings m.keys.own t.id) → IsCourseIn m.tm t caller has_files has_keys (course_of x t (caller_of x.transactions.enlistments caller))
course_in m x t caller has_files has_keys shows files keys = record {
  transaction = refl;
  enlistments = ap (λ (ts : Transactions). ts.enlistments) (sym shows.transactions);
  managers = sym shows.managers;
  calls = ap (λ (ts : Transactions). caller_of ts.enlistments caller) (sym shows.transactions);
  files = ap (λ (fs : FilesNow). has_changes (own_changes fs.table.own t.id)) (sym shows.files) ∙ sym files;
  keys = ap (λ (ks : KeysNow). has_settings (own_settings ks.own t.id)) (sym shows.keys) ∙ sym keys;
  nothing_sent = refl;
}

-- ---- what is sent does not go by what a transaction changed and set, but for whether it did

-- the course with others
abbrev with_others : Course → List Change → OwnSettings → List Event → List Work → Course
with_others c changes settings events works = record c { changes = changes; settings = settings; events = events; works = works }

recorded-alike : (fact : Fact) (c : Course) (changes : List Change) (settings : OwnSettings) (events : List Event) (works : List Work) → has_changes changes ≡ has_changes c.changes → has_settings settings ≡ has_settings c.settings
    → is_recorded_by fact (basis (with_others c changes settings events works)) ≡ is_recorded_by fact (basis c)
recorded-alike Fact.ReadyFiles c changes settings events works files keys = ap (λ b. c.transaction.is_recorded || b) files
recorded-alike Fact.ReadyKeys c changes settings events works files keys = ap (λ b. c.transaction.is_recorded || b) keys
recorded-alike Fact.Ready c changes settings events works files keys = refl
recorded-alike Fact.Held c changes settings events works files keys = refl
recorded-alike Fact.Decide c changes settings events works files keys = refl
recorded-alike Fact.Undo c changes settings events works files keys = refl
recorded-alike Fact.DoneFiles c changes settings events works files keys = refl
recorded-alike Fact.DoneKeys c changes settings events works files keys = refl
recorded-alike Fact.Done c changes settings events works files keys = refl
recorded-alike Fact.SingleFiles c changes settings events works files keys = refl
recorded-alike Fact.SingleKeys c changes settings events works files keys = refl

sent-alike : (steps : List Step) (c : Course) (changes : List Change) (settings : OwnSettings) (events : List Event) (works : List Work) → has_changes changes ≡ has_changes c.changes → has_settings settings ≡ has_settings c.settings
    → (run steps (with_others c changes settings events works)).sent ≡ (run steps c).sent
unfolding ended
sent-alike [] c changes settings events works files keys = refl
sent-alike (Step.Record fact ∷ steps) c changes settings events works files keys =
    let d = with_others c changes settings events works in
    ap (λ b. (run steps (record d { events = events ++ events_of fact (basis d); transaction = record c.transaction { is_recorded = b } })).sent) (recorded-alike fact c changes settings events works files keys)
    ∙ sent-alike steps (carried (Step.Record fact) c) changes settings (events ++ events_of fact (basis d)) works files keys
sent-alike (Step.Commit ∷ steps) c changes settings events works files keys = sent-alike steps (carried Step.Commit c) changes settings events (works ++ work_of (with_others c changes settings events works)) files keys
sent-alike (Step.Tell who kind ∷ steps) c changes settings events works files keys = sent-alike steps (carried (Step.Tell who kind) c) changes settings events works files keys
sent-alike (Step.Ask who kind owed ∷ steps) c changes settings events works files keys = sent-alike steps (carried (Step.Ask who kind owed) c) changes settings events works files keys
sent-alike (Step.Change answer ∷ steps) c changes settings events works files keys =
    elim c.caller as (λ caller. (run steps (changing (with_others c changes settings events works) caller (answered answer))).sent ≡ (run steps (changing c caller (answered answer))).sent) [
      | None ↦ sent-alike steps c changes settings events works files keys
      | Some e ↦ sent-alike steps (changing c (Some e) (answered answer)) changes settings events works files keys
    ]
sent-alike (Step.Enter phase ∷ steps) c changes settings events works files keys = sent-alike steps (carried (Step.Enter phase) c) changes settings events works files keys
sent-alike (Step.Decide outcome ∷ steps) c changes settings events works files keys = sent-alike steps (carried (Step.Decide outcome) c) changes settings events works files keys
sent-alike (Step.End outcome ∷ steps) c changes settings events works files keys = sent-alike steps (ended c outcome) changes settings events works files keys
sent-alike (Step.EndWhereFinished outcome ∷ steps) c changes settings events works files keys =
    elim (list_any (is_unfinished c.transaction.id) c.enlistments)
    as (λ b. (run steps (if b then with_others c changes settings events works else ended (with_others c changes settings events works) outcome)).sent ≡ (run steps (if b then c else ended c outcome)).sent) [
      | true ↦ sent-alike steps c changes settings events works files keys
      | false ↦ sent-alike steps (ended c outcome) changes settings events works files keys
    ]

-- each course of the transaction sends the same
pub sent_in : (m : MemoryState) (t : Transaction) (caller : Option Id) (steps : List Step) (has_files has_keys : Bool) (c : Course) → has_files ≡ has_changes (own_changes (files_of m.files).table.own t.id)
    → has_keys ≡ has_settings (own_settings m.keys.own t.id) → IsCourseIn m.tm t caller has_files has_keys c → (run steps c).sent ≡ (course_then (present_of m) t caller steps).sent
sent_in m t caller steps has_files has_keys c files keys is =
    (λ i. (run steps (record c { transaction = is.transaction i; enlistments = is.enlistments i; managers = is.managers i; caller = is.calls i; sent = is.nothing_sent i })).sent)
    ∙ sent-alike steps (course_of (present_of m) t (caller_of m.tm.now.enlistments caller)) c.changes c.settings c.events c.works (is.files ∙ files) (is.keys ∙ keys)
