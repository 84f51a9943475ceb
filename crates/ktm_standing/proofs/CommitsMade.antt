-- What a machine that stands may rely on, where a transaction commits.
use Rattle.std.proofs.Common.{◌≡◌, ◌≤◌, ◌&&◌, ◌==◌, not, Bool, true, false, List, Some, None, refl, sym, ◌∙◌, ap, subst, arith}
use Rattle.std.proofs.lemmas.Bool.{and_from, eq-eqb, false≢true, not-true, true≢false}
use Rattle.std.specs.List.{list_all}
use Rattle.ktm_base.specs.declared.id.Id.{Id}
use Rattle.ktm_base.specs.declared.limits.TheConstants.{MOST_UNITS}
use Rattle.ktm_world.specs.declared.change.Change.{Change}
use Rattle.ktm_world.specs.declared.input.PhaseInput.{PhaseInput}
use Rattle.ktm_world.specs.declared.object.Phase.{Phase}
use Rattle.ktm_world.specs.declared.object.Transaction.{Transaction}
use Rattle.ktm_world.specs.declared.object.TransactionOutcome.{TransactionOutcome}
use Rattle.ktm_world.specs.declared.object.TransactionOutcome.TheVariants.{Undetermined, Committed, Aborted}
use Rattle.ktm_world.specs.declared.reply.Reply.TheVariants.{Done}
use Rattle.ktm_world.specs.Changes.{has_made}
use Rattle.ktm_world.specs.Files.{FirstOpen, OwnChanges, own_changes}
use Rattle.ktm_world.specs.Holds.{is_in}
use Rattle.ktm_world.specs.Keys.{own_settings}
use Rattle.ktm_world.specs.Lawful.{undecided}
use Rattle.ktm_world.specs.Outcome.{apply}
use Rattle.ktm_world.specs.Phases.{Course}
use Rattle.ktm_world.specs.Present.{Present}
use Rattle.ktm_world.specs.Rows.{row}
use Rattle.ktm_world.specs.Steps.{led, seen}
use Rattle.ktm_world.specs.Transactions.{is_live, is_of, is_undecided, same_id, transaction_at}
use Rattle.ktm_world.specs.TransactionCalls.{arrived, course_of}
use Rattle.ktm_world.specs.World.{World, present}
use Rattle.txf_laws.specs.Elements.{IsIn}
use Rattle.txf_laws.specs.FileEffects.{AreUnopened, CanBeCounted, LeavesOthers}
use Rattle.txf_laws.specs.Footprint.{ListsLaw}
use Rattle.txf_laws.specs.Formed.{FormedLaw}
use Rattle.txf_laws.specs.Reservations.{IsLeft, ReservationsLaw, files_committed}
use Rattle.txf_laws.specs.SoundFiles.{IsSoundFiles, is_undecided_in, numbers_made}
use Rattle.txf_laws.proofs.offered.CommitsOfOthers.{All-by, made-in, undecided-entry}
use Rattle.txf_laws.proofs.offered.Elements.{IsIn-kept, list_all-at, list_all-from, list_any-from}
use Rattle.txf_laws.proofs.offered.Reservations.{own-apply, own_changes-by}
use Rattle.txf_laws.proofs.offered.Tables.{same_id-sym}
use Rattle.ktm_courses.specs.SoundCourse.{is_outcome_of}
use Rattle.ktm_courses.proofs.offered.Calls.{transaction_at-found}
use Rattle.ktm_laws.specs.Running.{HasEventsLeft}
use Rattle.ktm_laws.specs.LimitsKept.{AreVersionsFixed}
use Rattle.ktm_laws.specs.CoursesKept.{led-is}
use Rattle.ktm_records.specs.Kept.{IsKept}
use Rattle.ktm_records.proofs.offered.LiveEnlistments.{fades-led}
use Rattle.ktm_records.proofs.offered.NoMore.{NoMore, fits-within, no_more-arrived, no_more-fits}
use Rattle.ktm_steps.proofs.offered.Staying.{stays-led}
use Rattle.ktm_standing.specs.Files.{MayCommitNow}
use Rattle.ktm_standing.specs.Standing.{IsStanding}
use Rattle.ktm_standing.proofs.Counted.{counted_fits, few_versions, units_now}
use Rattle.ktm_standing.proofs.offered.Rows.{courses_law}

-- ---- what a transaction changed

-- nobody first opened a file that it made
unopened : (x : Present) → IsSoundFiles x → (id : Id) → AreUnopened x.files id
unopened x sound id = list_all-from (λ (o : FirstOpen). not (has_made (own_changes x.files.table.own id) o.file)) x.files.first_opens (λ o there.
    own_changes-by (λ cs. not (has_made cs o.file) ≡ true) x.files.table.own id refl (λ own has is. not_made o own.changes
    (list_all-at (λ (p : OwnChanges). not (is_in (numbers_made p.changes) o.file)) x.files.table.own
    (list_all-at (λ (o : FirstOpen). list_all (λ p. not (is_in (numbers_made p.changes) o.file)) x.files.table.own) x.files.first_opens sound.first_not_made o there) own has)))
  where
    not_made : (o : FirstOpen) (cs : List Change) → not (is_in (numbers_made cs) o.file) ≡ true → not (has_made cs o.file) ≡ true
    not_made o cs none = go (has_made cs o.file) refl
      where
        go : (b : Bool) → has_made cs o.file ≡ b → not b ≡ true
        go false is = refl
        go true is = absurd (true≢false (sym (list_any-from (λ m. m == o.file) (numbers_made cs) o.file (made-in cs o.file is) (eq-eqb o.file o.file refl)) ∙ not-true _ none))

-- what it changed leaves the others what they have
leaves_others : ReservationsLaw → (x : Present) (t : Transaction) → IsSoundFiles x → IsIn t (undecided x) → LeavesOthers x.files t.id
leaves_others law x t sound there = All-by (λ (o : OwnChanges). same_id o.transaction t.id ≡ false → IsLeft x.files (files_committed x.files t.id) o.transaction) x.files.table.own (λ o has other.
    let u = undecided-entry x.transactions.items o.transaction (list_all-at (λ (p : OwnChanges). is_undecided_in x.transactions.items p.transaction) x.files.table.own sound.own_undecided o has) in
    subst (IsLeft x.files (files_committed x.files t.id)) u.2
    (law.0 x t u.0 sound there u.1 (subst (λ id. same_id t.id id ≡ false) (sym u.2) (same_id-sym o.transaction t.id other))))

-- one whose outcome is not known has not ended
undecided_live : (t : Transaction) → is_outcome_of t.phase t ≡ true → is_undecided t ≡ true → is_live t ≡ true
undecided_live t = go t.phase t.outcome
  where
    go : (phase : Phase) (outcome : TransactionOutcome) → is_outcome_of phase (record t { phase = phase; outcome = outcome }) ≡ true → is_undecided (record t { phase = phase; outcome = outcome }) ≡ true → is_live (record t { phase = phase; outcome = outcome }) ≡ true
    go Phase.Ended Undetermined of open_still = absurd (false≢true of)
    go Phase.Ended Committed of open_still = absurd (false≢true open_still)
    go Phase.Ended Aborted of open_still = absurd (false≢true open_still)
    go _ outcome of open_still = refl

-- ---- what is in use once it has committed

module _ (lists : ListsLaw) (formed : FormedLaw) (x : Present) (kept : IsKept x) (fixed : AreVersionsFixed x) (units : x.recorded.units ≤ MOST_UNITS) (t : Transaction) (found : transaction_at x.transactions.items t.id ≡ Some t)
    (open_still : is_undecided t ≡ true) where
  -- the course of its commit
  abbrev decided : Course
  decided = led PhaseInput.Commit (course_of x t None)

  there : IsIn t x.transactions.items
  there = (transaction_at-found x.transactions.items t.id t found).0

  live : is_live t ≡ true
  live = undecided_live t (list_all-at (λ (t : Transaction). is_outcome_of t.phase t) x.transactions.items kept.sound.course.transactions.outcomes t there) open_still

  no_more : NoMore x (apply x (arrived x decided Done))
  no_more = no_more-arrived lists formed x (record { transactions_rise = kept.sound.course.transactions.rise; labels_differ = kept.sound.course.handles.labels_differ }) kept.sound.files fixed.same t there found live decided Done
      (led-is t (own_changes x.files.table.own t.id) (own_settings x.keys.own t.id) PhaseInput.Commit (course_of x t None) (record { id = refl; changes = refl; settings = refl; works = refl; events = refl; outcome = refl }))
      (fades-led PhaseInput.Commit (course_of x t None))

  leaves : (apply x (arrived x decided Done)).files ≡ files_committed x.files t.id
  unfolding led
  leaves =
      ap (λ (y : Present). y.files) (courses_law.leads x t None (row (seen (course_of x t None)) PhaseInput.Commit) Done (courses_law.rows x t None PhaseInput.Commit))
      ∙ ap (λ (id : Id). files_committed x.files id) (stays-led PhaseInput.Commit (course_of x t None)).id

  pub counted_committed : CanBeCounted (files_committed x.files t.id)
  counted_committed = subst CanBeCounted leaves (counted_fits (apply x (arrived x decided Done)) (no_more-fits x (apply x (arrived x decided Done)) no_more (fits-within x kept.within)) (let same = no_more.room in omega (arith, same, units)))

pub may_commit : ReservationsLaw → ListsLaw → FormedLaw → (w : World) → HasEventsLeft (present w) → IsStanding w → (t : Transaction) → transaction_at (present w).transactions.items t.id ≡ Some t → is_undecided t ≡ true → MayCommitNow (present w) t
may_commit reservations lists formed w left standing t found open_still =
    let x = present w in
    let kept = standing.running.now in
    let there = IsIn-kept (λ (u : Transaction). is_undecided u && not (is_of u.id None)) x.transactions.items t (transaction_at-found x.transactions.items t.id t found).0 (and_from _ _ open_still refl) in
    record {
      applies = own-apply x kept.sound.files t.id;
      left = leaves_others reservations x t kept.sound.files there;
      unopened = unopened x kept.sound.files t.id;
      counted = counted_committed lists formed x kept standing.running.versions (units_now w standing.running standing.small) t found open_still;
      few = few_versions w left standing;
    }
