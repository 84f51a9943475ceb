-- What a commit commits, of a transaction that has set a key.
use Rattle.std.proofs.Common.{◌≡◌, ◌⊎◌, ◌==◌, ◌||◌, not, cond, Bool, true, false, List, [], ◌∷◌, zero, suc, Option, Some, None, is_none, refl, sym, ◌∙◌, ap, subst, inl, inr, arith}
use Rattle.std.proofs.lemmas.Bool.{both_ways}
use Rattle.std.proofs.lemmas.Bool.Decides.{nat_tests}
use Rattle.std.proofs.lemmas.Option.{none-some}
use Rattle.std.proofs.lemmas.Slice.Eq.{bytes_eq-Decides}
use Rattle.std.specs.List.{list_any}
use Rattle.std.specs.Prelude.{ℕ, bytes_eq}
use Rattle.ktm_base.specs.declared.id.Id.{Id}
use Rattle.ktm_base.specs.declared.id.Label.{Label}
use Rattle.ktm_base.specs.declared.id.Pid.{Pid}
use Rattle.ktm_base.specs.declared.notify.Notify.{Notify}
use Rattle.ktm_base.specs.declared.refusal.Refusal.{Refusal}
use Rattle.ktm_base.specs.declared.refusal.Refusal.TheVariants.{MachineDown}
use Rattle.ktm_course.specs.Moved.{is_commit}
use Rattle.ktm_courses.proofs.offered.Calls.{Passes, passed}
use Rattle.ktm_keyed.specs.Keyed.{comes_before, put, value_at}
use Rattle.ktm_standing.proofs.offered.Rows.{row_leads}
use Rattle.ktm_steps.proofs.offered.Ways.{if_cases}
use Rattle.ktm_world.specs.declared.command.Command.TheVariants.{CommitTransaction, KvSet}
use Rattle.ktm_world.specs.declared.input.PhaseInput.{PhaseInput}
use Rattle.ktm_world.specs.declared.input.Seen.{Seen}
use Rattle.ktm_world.specs.declared.object.Phase.{Phase}
use Rattle.ktm_world.specs.declared.object.Transaction.{Transaction}
use Rattle.ktm_world.specs.declared.object.TransactionOutcome.{TransactionOutcome}
use Rattle.ktm_world.specs.declared.reply.Reply.{Reply}
use Rattle.ktm_world.specs.declared.step.Fact.{Fact}
use Rattle.ktm_world.specs.declared.step.Owed.{Owed}
use Rattle.ktm_world.specs.declared.step.Step.{Step}
use Rattle.ktm_world.specs.declared.step.Who.{Who}
use Rattle.ktm_world.specs.Changes.{has_changes}
use Rattle.ktm_world.specs.Committed.{Work}
use Rattle.ktm_world.specs.Decide.{command_effect, command_tests, decide, refusal_of}
use Rattle.ktm_world.specs.Enlistments.{is_ended}
use Rattle.ktm_world.specs.Files.{own_changes}
use Rattle.ktm_world.specs.Keys.{Own, OwnSettings, own_settings, with_own}
use Rattle.ktm_world.specs.Labels.{transaction_named}
use Rattle.ktm_world.specs.Outcome.{Outcome, apply, only_reply, refuse_or}
use Rattle.ktm_world.specs.Phases.{Course, has_settings, work_of}
use Rattle.ktm_world.specs.Present.{Present}
use Rattle.ktm_world.specs.Rows.{all_readies, participants, pre_prepares, prepares_all, prepares_alone, proceeds, requests}
use Rattle.ktm_world.specs.Steps.{led, run, seen}
use Rattle.ktm_world.specs.Transactions.{is_undecided, same_id}
use Rattle.ktm_world.specs.TransactionCalls.{arrived, commit_of, commit_reply, commit_transaction, course_of}
use Rattle.txf_laws.proofs.offered.Tables.{same_id-from}
use Rattle.ktm_works.specs.Works.{IsNoRefusal}
use Rattle.ktm_works.proofs.offered.Left.{decided-so}

-- ---- settings

-- the value that was put
pub value-put : (settings : OwnSettings) (key : List ℕ) (value : Option (List ℕ)) → value_at (put settings key value) key ≡ Some value
value-put [] key value = ap (λ b. cond b (Some value) None) ((bytes_eq-Decides key key).1 refl)
value-put (s ∷ ss) key value = same_key (bytes_eq s.key key) refl (value-put ss key value)
  where
    first : value_at (record { key = key; value = value } ∷ s ∷ ss) key ≡ Some value
    first = ap (λ b. cond b (Some value) (value_at (s ∷ ss) key)) ((bytes_eq-Decides key key).1 refl)

    before : (b : Bool) → bytes_eq s.key key ≡ false → value_at (put ss key value) key ≡ Some value → value_at (cond b (record { key = key; value = value } ∷ s ∷ ss) (s ∷ put ss key value)) key ≡ Some value
    before true other rest = first
    before false other rest = ap (λ b. cond b (Some s.value) (value_at (put ss key value) key)) other ∙ rest

    same_key : (b : Bool) → bytes_eq s.key key ≡ b → value_at (put ss key value) key ≡ Some value → value_at (cond b (record { key = key; value = value } ∷ ss) (cond (comes_before key s.key) (record { key = key; value = value } ∷ s ∷ ss) (s ∷ put ss key value))) key ≡ Some value
    same_key true is rest = ap (λ b. cond b (Some value) (value_at ss key)) ((bytes_eq-Decides key key).1 refl)
    same_key false other rest = before (comes_before key s.key) other rest

-- the settings of a transaction that set one more
pub own-with : (own : List Own) (id : Id) (key : List ℕ) (value : Option (List ℕ)) → value_at (own_settings (with_own own id key value) id) key ≡ Some value
own-with [] id key value = ap (λ b. value_at (cond b (put [] key value) []) key) (same_id-from id id refl) ∙ value-put [] key value
own-with (o ∷ os) id key value = go (same_id o.transaction id) refl (own-with os id key value)
  where
    go : (b : Bool) → same_id o.transaction id ≡ b → value_at (own_settings (with_own os id key value) id) key ≡ Some value → value_at (own_settings (cond b (record o { settings = put o.settings key value } ∷ os) (o ∷ with_own os id key value)) id) key ≡ Some value
    go true is rest = ap (λ b. value_at (cond b (put o.settings key value) (own_settings os id)) key) is ∙ value-put o.settings key value
    go false other rest = ap (λ b. value_at (cond b o.settings (own_settings (with_own os id key value) id)) key) other ∙ rest

pub some-settings : (settings : OwnSettings) (key : List ℕ) (value : Option (List ℕ)) → value_at settings key ≡ Some value → has_settings settings ≡ true
some-settings [] key value is = absurd (none-some value is)
some-settings (s ∷ ss) key value is = refl

-- a transaction that set a key, by its label
pub set-then : (x : Present) (process : Pid) (label : Label) (key value : List ℕ) → IsNoRefusal (decide x process (KvSet label key value)).reply
    → (t : Transaction) × (transaction_named (apply x (decide x process (KvSet label key value))) process label ≡ Some t)
    × (value_at (own_settings (apply x (decide x process (KvSet label key value))).keys.own t.id) key ≡ Some (Some value))
set-then x process label key value clear =
    let so = decided-so x process (KvSet label key value) clear in
    let whole : Passes ((not x.machine.is_up, MachineDown) ∷ command_tests x process (KvSet label key value)) = record { none = so.0 } in
    subst (λ (o : Outcome). (t : Transaction) × (transaction_named (apply x o) process label ≡ Some t) × (value_at (own_settings (apply x o).keys.own t.id) key ≡ Some (Some value))) (sym so.1)
    (go (transaction_named x process label) refl (passed (passed whole).1).0)
  where
    go : (named : Option Transaction) → transaction_named x process label ≡ named → is_none named ≡ false
        → (t : Transaction) × (transaction_named (apply x (command_effect x process (KvSet label key value))) process label ≡ Some t)
        × (value_at (own_settings (apply x (command_effect x process (KvSet label key value))).keys.own t.id) key ≡ Some (Some value))
    go None is some = absurd (both_ways true some refl)
    go (Some t) is some = (t, is, rw is (own-with x.keys.own t.id key (Some value)))

-- ---- a commit

-- all that a transaction has to commit
abbrev pub whole_work : Present → Transaction → Work
whole_work x t = record { transaction = Some t.id; changes = own_changes x.files.table.own t.id; settings = own_settings x.keys.own t.id }

module _ (c : Course) (s : Seen) (keys : s.has_keys ≡ true) where
  -- what says that it has committed commits
  abbrev P : List Step → Type 0
  P steps = commit_reply (run steps c) ≡ Reply.Committed → list_any is_commit steps ≡ true

  alone-some : (n : ℕ) → s.has_superior ≡ false → participants s ≡ n → P (prepares_alone s n)
  alone-some zero alone is says = let is' = rw keys at is in absurd (omega (arith, is'))
  alone-some (suc zero) alone is says = files s.has_files says
    where
      files : (b : Bool) → P (cond b (Step.Record Fact.SingleFiles ∷ Step.Commit ∷ Step.End TransactionOutcome.Committed ∷ [])
          (cond s.has_keys (Step.Record Fact.SingleKeys ∷ Step.Commit ∷ Step.End TransactionOutcome.Committed ∷ [])
          (cond (s.in_one_phase == 0) (prepares_all s) (Step.Ask Who.Parts Notify.SinglePhaseCommit Owed.Commit ∷ Step.Enter Phase.SinglePhase ∷ []))))
      files true = λ says. refl
      files false = rw keys (λ says. refl)
  alone-some (suc (suc more)) alone is says = prepared (s.enlistments == 0) says
    where
      prepared : (b : Bool) → P (cond b (all_readies s) (Step.Ask Who.Parts Notify.Prepare Owed.Prepare ∷ Step.Enter Phase.Preparing ∷ []))
      prepared true = let some : (suc (suc more) == 0) ≡ false = grind (arith, nat_tests) in rw (alone, is, some) (λ says. refl)
      prepared false = λ says. absurd (cc)

  asked : s.has_superior ≡ false → (b : Bool) → P (cond b (proceeds s) (Step.Ask Who.Asking Notify.PrePrepare Owed.PrePrepare ∷ Step.Enter Phase.PrePreparing ∷ []))
  asked alone true =
      subst P (sym (ap (λ b. cond b (Step.Tell Who.Superior Notify.PrePrepareComplete ∷ Step.Enter Phase.PrePrepared ∷ []) (cond b (prepares_all s) (prepares_alone s (participants s)))) alone))
      (alone-some (participants s) alone refl)
  asked alone false = λ says. absurd (cc)

  committing : P (requests s)
  committing = go s.has_superior refl
    where
      go : (b : Bool) → s.has_superior ≡ b → P (cond b (Step.Tell Who.Superior Notify.CommitRequest ∷ Step.Enter Phase.Requested ∷ []) (pre_prepares s))
      go true is = λ says. absurd (cc)
      go false alone = asked alone (s.asking == 0)

-- what the course of a commit commits: nothing, or all that the transaction has to commit, where it says that it has
course-works : (x : Present) (t : Transaction) → has_settings (own_settings x.keys.own t.id) ≡ true
    → ((led PhaseInput.CommitTransaction (course_of x t None)).works ≡ []) × (commit_reply (led PhaseInput.CommitTransaction (course_of x t None)) ≡ Reply.Committed → ⊥)
    ⊎ ((led PhaseInput.CommitTransaction (course_of x t None)).works ≡ whole_work x t ∷ [])
unfolding led
course-works x t keys = go (list_any is_commit (requests (seen (course_of x t None)))) refl
  where
    leads : (run (requests (seen (course_of x t None))) (course_of x t None)).works ≡ cond (list_any is_commit (requests (seen (course_of x t None)))) (work_of (course_of x t None)) []
    leads = (row_leads x t None PhaseInput.CommitTransaction).works

    whole : work_of (course_of x t None) ≡ whole_work x t ∷ []
    whole = files (has_changes (own_changes x.files.table.own t.id))
      where
        files : (b : Bool) → cond (b || has_settings (own_settings x.keys.own t.id)) (whole_work x t ∷ []) [] ≡ whole_work x t ∷ []
        files true = refl
        files false = ap (λ b. cond b (whole_work x t ∷ []) []) keys

    go : (b : Bool) → list_any is_commit (requests (seen (course_of x t None))) ≡ b
        → ((run (requests (seen (course_of x t None))) (course_of x t None)).works ≡ []) × (commit_reply (run (requests (seen (course_of x t None))) (course_of x t None)) ≡ Reply.Committed → ⊥)
        ⊎ ((run (requests (seen (course_of x t None))) (course_of x t None)).works ≡ whole_work x t ∷ [])
    go true is = inr (leads ∙ ap (λ b. cond b (work_of (course_of x t None)) []) is ∙ whole)
    go false is = inl (leads ∙ ap (λ b. cond b (work_of (course_of x t None)) []) is, λ says. both_ways false refl (sym is ∙ committing (course_of x t None) (seen (course_of x t None)) keys says))

arrived-is : (x : Present) (c : Course) (reply : Reply) → ((arrived x c reply).works ≡ c.works) × ((arrived x c reply).reply ≡ reply)
arrived-is x c reply = if_cases (λ (o : Outcome). (o.works ≡ c.works) × (o.reply ≡ reply)) (is_undecided c.transaction) _ _ (λ is. (refl, refl)) (λ is. (refl, refl))

-- what a commit of a transaction that has set something comes to: nothing is committed, and it does not say so; or all is
pub record CommitsAll (x : Present) (t : Transaction) (o : Outcome) : Type 0 where
  pub works : (o.works ≡ []) × (o.reply ≡ Reply.Committed → ⊥) ⊎ (o.works ≡ whole_work x t ∷ [])
  -- what is refused commits nothing
  pub refused : (refusal : Refusal) → o.reply ≡ Reply.Refused refusal → o.works ≡ []

commits-refused : (x : Present) (t : Transaction) (o : Outcome) (refusal : Refusal) → o.works ≡ [] → o.reply ≡ Reply.Refused refusal → CommitsAll x t o
commits-refused x t o refusal none is = record { works = inl (none, λ says. let e : Reply.Refused refusal ≡ Reply.Committed = sym is ∙ says in absurd (cc)); refused = λ other same. none }

pub commits-all : (x : Present) (process : Pid) (label : Label) (t : Transaction) → transaction_named x process label ≡ Some t → has_settings (own_settings x.keys.own t.id) ≡ true
    → CommitsAll x t (decide x process (CommitTransaction label))
unfolding commit_transaction
commits-all x process label t named keys = refused (refusal_of x process (CommitTransaction label))
  where
    effect : CommitsAll x t (arrived x (led PhaseInput.CommitTransaction (course_of x t None)) (commit_reply (led PhaseInput.CommitTransaction (course_of x t None))))
    effect =
        let is = arrived-is x (led PhaseInput.CommitTransaction (course_of x t None)) (commit_reply (led PhaseInput.CommitTransaction (course_of x t None))) in
        record {
          works = elim (course-works x t keys) [
            | inl none ↦ inl (is.0 ∙ none.0, λ says. none.1 (sym is.1 ∙ says))
            | inr one ↦ inr (is.0 ∙ one)
          ];
          refused = λ refusal says. absurd (told (led PhaseInput.CommitTransaction (course_of x t None)) refusal (sym is.1 ∙ says));
        }
      where
        told : (d : Course) (refusal : Refusal) → commit_reply d ≡ Reply.Refused refusal → ⊥
        told d refusal = if_cases (λ (r : Reply). r ≡ Reply.Refused refusal → ⊥) (is_ended d.transaction.phase) Reply.Committed Reply.Pending (λ b is. absurd (cc)) (λ b is. absurd (cc))

    refused : (refusal : Option Refusal) → CommitsAll x t (refuse_or x refusal (command_effect x process (CommitTransaction label)))
    refused None = subst (λ (n : Option Transaction). CommitsAll x t (commit_of x n)) (sym named) effect
    refused (Some refusal) = commits-refused x t (only_reply x (Reply.Refused refusal)) refusal refl refl
