-- What is replied to a commit that is asked for: the transaction has committed at once where it has no enlistment that takes part and no superior.
use Rattle.std.proofs.Common.{◌≡◌, ℕ, zero, suc, ◌+◌, ◌≤◌, ◌==◌, ◌&&◌, ◌||◌, not, Bool, true, false, cond, List, [], ◌∷◌, count_by, refl, sym, ◌∙◌, ap, subst, arith}
use Rattle.std.proofs.lemmas.Bool.Decides.{nat_tests}
use Rattle.std.specs.List.{list_any}
use Rattle.ktm_base.specs.declared.id.Id.{Id}
use Rattle.ktm_base.specs.declared.notify.Notify.{Notify}
use Rattle.ktm_world.specs.declared.input.PhaseInput.{PhaseInput}
use Rattle.ktm_world.specs.declared.input.Seen.{Seen}
use Rattle.ktm_world.specs.declared.object.Phase.{Phase}
use Rattle.ktm_world.specs.declared.object.TransactionOutcome.{TransactionOutcome}
use Rattle.ktm_world.specs.declared.reply.Reply.{Reply}
use Rattle.ktm_world.specs.declared.step.Fact.{Fact}
use Rattle.ktm_world.specs.declared.step.Owed.{Owed}
use Rattle.ktm_world.specs.declared.step.Step.{Step}
use Rattle.ktm_world.specs.declared.step.Who.{Who}
use Rattle.ktm_world.specs.Enlistments.{Enlistment, asks_pre_prepare, is_unfinished, takes_part, with_enlistments}
use Rattle.ktm_world.specs.Phases.{Course, ended, one_if, owing, ended_if_finished}
use Rattle.ktm_world.specs.Rows.{all_readies, commits, commits_one, participants, prepares_all, prepares_alone, pre_prepares, proceeds, requests}
use Rattle.ktm_world.specs.Steps.{carried, counted, is_meant, led, run, seen}
use Rattle.ktm_world.specs.TransactionCalls.{commit_reply}
use Rattle.txf_laws.proofs.offered.Sums.{count-cons}
use Rattle.ktm_steps.proofs.offered.Counts.{some-counted}
use Rattle.ktm_standing.specs.Courses.{commits_at_once}

-- ---- the rows of a commit

abbrev pub ask_to_prepare : List Step
ask_to_prepare = Step.Ask Who.Parts Notify.Prepare Owed.Prepare ∷ Step.Enter Phase.Preparing ∷ []

-- what a commit can come to, by what is seen
pub record Leaves (P : Bool → List Step → Type 0) (s : Seen) : Type 0 where
  pub requested : P false (Step.Tell Who.Superior Notify.CommitRequest ∷ Step.Enter Phase.Requested ∷ [])
  pub asked : P false (Step.Ask Who.Asking Notify.PrePrepare Owed.PrePrepare ∷ Step.Enter Phase.PrePreparing ∷ [])
  pub prepared : P false ask_to_prepare
  pub in_one_phase : P false (Step.Ask Who.Parts Notify.SinglePhaseCommit Owed.Commit ∷ Step.Enter Phase.SinglePhase ∷ [])
  pub idle : P true (Step.End TransactionOutcome.Committed ∷ [])
  pub files : P true (Step.Record Fact.SingleFiles ∷ Step.Commit ∷ Step.End TransactionOutcome.Committed ∷ [])
  pub keys : P true (Step.Record Fact.SingleKeys ∷ Step.Commit ∷ Step.End TransactionOutcome.Committed ∷ [])
  pub both : (s.enlistments == 0) ≡ true → P true (Step.Record Fact.ReadyFiles ∷ Step.Record Fact.ReadyKeys ∷ commits)

-- where the files or the keys are the one that takes part, no enlistment does
one-files : (n : ℕ) (keys : Bool) → n + 1 + one_if keys ≡ 1 → (n == 0) ≡ true
one-files n true is = grind (arith, nat_tests, is)
one-files n false is = grind (arith, nat_tests, is)

one-keys : (n : ℕ) → n + 0 + 1 ≡ 1 → (n == 0) ≡ true
one-keys n is = grind (arith, nat_tests, is)

one-enlisted : (n : ℕ) → n + 0 + 0 ≡ 1 → (n == 0) ≡ false
one-enlisted n is = grind (arith, nat_tests, is)

none-takes-part : (n : ℕ) (files keys : Bool) → n + one_if files + one_if keys ≡ 0 → (n == 0) ≡ true
none-takes-part n true keys is = absurd (omega (arith, is))
none-takes-part n false true is = absurd (omega (arith, is))
none-takes-part n false false is = grind (arith, nat_tests, is)

some-take-part : (n more : ℕ) → n ≡ suc more → (n == 0) ≡ false
some-take-part n more is = grind (arith, nat_tests, is)

some-asked : (asking n : ℕ) → asking ≤ n → (asking == 0) ≡ false → (n == 0) ≡ false
some-asked asking n few some = grind (arith, nat_tests, few, some)

-- a commit that is asked for comes to one of these
module _ (P : Bool → List Step → Type 0) (s : Seen) (leaves : Leaves P s) (few : s.asking ≤ s.enlistments) where
  at-once : s.has_superior ≡ false → (b : Bool) → (s.enlistments == 0) ≡ b → commits_at_once s ≡ b
  at-once alone b is = rw alone is

  ready : (none : Bool) → s.has_superior ≡ false → (participants s == 0) ≡ none → none ≡ false → (s.enlistments == 0) ≡ true → P true (all_readies s)
  ready true alone is other empty = absurd (cc)
  ready false alone is other empty = rw alone (rw is (leaves.both empty))

  all : (more : ℕ) → s.has_superior ≡ false → participants s ≡ suc more → P (commits_at_once s) (prepares_all s)
  all more alone some = go (s.enlistments == 0) refl
    where
      go : (b : Bool) → (s.enlistments == 0) ≡ b → P (commits_at_once s) (cond b (all_readies s) ask_to_prepare)
      go true is = rw (at-once alone true is) (ready false alone (some-take-part (participants s) more some) refl is)
      go false is = rw (at-once alone false is) leaves.prepared

  one : s.has_superior ≡ false → participants s ≡ 1 → P (commits_at_once s) (commits_one s)
  one alone is = with_files s.has_files refl
    where
      with_phase : (b : Bool) → (s.in_one_phase == 0) ≡ b → s.has_files ≡ false → s.has_keys ≡ false
          → P (commits_at_once s) (cond b (prepares_all s) (Step.Ask Who.Parts Notify.SinglePhaseCommit Owed.Commit ∷ Step.Enter Phase.SinglePhase ∷ []))
      with_phase true phase files keys = all 0 alone is
      with_phase false phase files keys = rw (at-once alone false (one-enlisted s.enlistments (rw (files, keys) at is))) leaves.in_one_phase

      with_keys : (b : Bool) → s.has_keys ≡ b → s.has_files ≡ false
          → P (commits_at_once s) (cond b (Step.Record Fact.SingleKeys ∷ Step.Commit ∷ Step.End TransactionOutcome.Committed ∷ [])
          (cond (s.in_one_phase == 0) (prepares_all s) (Step.Ask Who.Parts Notify.SinglePhaseCommit Owed.Commit ∷ Step.Enter Phase.SinglePhase ∷ [])))
      with_keys true keys files = rw (at-once alone true (one-keys s.enlistments (rw (files, keys) at is))) leaves.keys
      with_keys false keys files = with_phase (s.in_one_phase == 0) refl files keys

      with_files : (b : Bool) → s.has_files ≡ b → P (commits_at_once s) (cond b (Step.Record Fact.SingleFiles ∷ Step.Commit ∷ Step.End TransactionOutcome.Committed ∷ [])
          (cond s.has_keys (Step.Record Fact.SingleKeys ∷ Step.Commit ∷ Step.End TransactionOutcome.Committed ∷ [])
          (cond (s.in_one_phase == 0) (prepares_all s) (Step.Ask Who.Parts Notify.SinglePhaseCommit Owed.Commit ∷ Step.Enter Phase.SinglePhase ∷ []))))
      with_files true files = rw (at-once alone true (one-files s.enlistments s.has_keys (rw files at is))) leaves.files
      with_files false files = with_keys s.has_keys refl files

  by-number : s.has_superior ≡ false → (n : ℕ) → participants s ≡ n → P (commits_at_once s) (prepares_alone s n)
  by-number alone zero is = rw (at-once alone true (none-takes-part s.enlistments s.has_files s.has_keys is)) leaves.idle
  by-number alone (suc zero) is = one alone is
  by-number alone (suc (suc more)) is = all (suc more) alone is

  asking : s.has_superior ≡ false → (b : Bool) → (s.asking == 0) ≡ b → P (commits_at_once s) (cond b (proceeds s) (Step.Ask Who.Asking Notify.PrePrepare Owed.PrePrepare ∷ Step.Enter Phase.PrePreparing ∷ []))
  asking alone true is =
      subst (P (commits_at_once s))
      (sym (ap (λ b. cond b (Step.Tell Who.Superior Notify.PrePrepareComplete ∷ Step.Enter Phase.PrePrepared ∷ []) (cond b (prepares_all s) (prepares_alone s (participants s)))) alone))
      (by-number alone (participants s) refl)
  asking alone false is = rw (at-once alone false (some-asked s.asking s.enlistments few is)) leaves.asked

  pub on-requests : P (commits_at_once s) (requests s)
  on-requests = go s.has_superior refl
    where
      go : (b : Bool) → s.has_superior ≡ b → P (commits_at_once s) (cond b (Step.Tell Who.Superior Notify.CommitRequest ∷ Step.Enter Phase.Requested ∷ []) (pre_prepares s))
      go true is = rw is leaves.requested
      go false is = asking is (s.asking == 0) refl

-- ---- the reply

-- has it ended exactly where it is said to
abbrev Replies : Course → Bool → List Step → Type 0
Replies c at_once steps = commit_reply (run steps c) ≡ cond at_once Reply.Committed Reply.Pending

ended-replies : (c : Course) → commit_reply (ended c TransactionOutcome.Committed) ≡ Reply.Committed
unfolding ended
ended-replies c = refl

-- where nobody takes part, nobody is unfinished, also once they are asked for something
none-unfinished : (id : Id) (test : Enlistment → Bool) (es : List Enlistment) → list_any (takes_part id) es ≡ false → list_any (is_unfinished id) (with_enlistments test (owing Owed.Commit) es) ≡ false
none-unfinished id test [] none = refl
none-unfinished id test (e ∷ es) none = first (takes_part id e) refl (none-unfinished id test es)
  where
    asked : (b : Bool) → takes_part id (cond b (owing Owed.Commit e) e) ≡ takes_part id e
    asked true = refl
    asked false = refl

    first : (b : Bool) → takes_part id e ≡ b → (list_any (takes_part id) es ≡ false → list_any (is_unfinished id) (with_enlistments test (owing Owed.Commit) es) ≡ false)
        → list_any (is_unfinished id) (with_enlistments test (owing Owed.Commit) (e ∷ es)) ≡ false
    first true is rest = absurd (let all = rw is at none in cc)
    first false is rest =
        ap (λ b. (b && not (cond (test e) (owing Owed.Commit e) e).is_finished) || list_any (is_unfinished id) (with_enlistments test (owing Owed.Commit) es)) (asked (test e) ∙ is)
        ∙ rest (rw is at none)

and-true : (b : Bool) → b ≡ (b && true)
and-true true = refl
and-true false = refl

any-and-true : {X : Type 0} (p : X → Bool) (xs : List X) → list_any p xs ≡ list_any (λ x. p x && true) xs
any-and-true p xs = λ i. list_any (λ x. and-true (p x) i) xs

-- no more pass two tests than one
counts-less : {X : Type 0} (p q : X → Bool) (xs : List X) → count_by (λ x. p x && q x) xs ≤ count_by (λ x. p x && true) xs
counts-less p q [] = omega arith
counts-less p q (x ∷ xs) =
    let rest = counts-less p q xs in
    let both = count-cons (λ x. p x && q x) x xs in
    let one = count-cons (λ x. p x && true) x xs in
    let here = less (p x) (q x) in
    omega (arith, rest, both, one, here)
  where
    less : (a b : Bool) → cond (a && b) 1 0 ≤ cond (a && true) 1 0
    less true true = omega arith
    less true false = omega arith
    less false b = omega arith

-- one that counts as nobody is nobody
none-counted : (c : Course) → (counted c (λ e. true) == 0) ≡ true → list_any (takes_part c.transaction.id) c.enlistments ≡ false
none-counted c none = any-and-true (takes_part c.transaction.id) c.enlistments ∙ some-counted c (λ e. true) true none

-- the course before those that are prepared are asked to commit
abbrev before-asked : Course → Course
before-asked c = run (Step.Record Fact.ReadyFiles ∷ Step.Record Fact.ReadyKeys ∷ Step.Record Fact.Decide ∷ Step.Record Fact.DoneFiles ∷ Step.Record Fact.DoneKeys ∷ Step.Commit
    ∷ Step.Decide TransactionOutcome.Committed ∷ Step.Enter Phase.Committing ∷ []) c

-- the course before it is seen whether it has ended
abbrev at-last : Course → Course
at-last c = carried (Step.Ask Who.Prepared Notify.Commit Owed.Commit) (before-asked c)

finished-replies : (d : Course) → list_any (is_unfinished d.transaction.id) d.enlistments ≡ false → commit_reply (ended_if_finished d TransactionOutcome.Committed) ≡ Reply.Committed
finished-replies d none = ap (λ b. commit_reply (cond b d (ended d TransactionOutcome.Committed))) none ∙ ended-replies d

pub commit_replies : (c : Course) → commit_reply (led PhaseInput.CommitTransaction c) ≡ cond (commits_at_once (seen c)) Reply.Committed Reply.Pending
unfolding led
commit_replies c = on-requests (Replies c) (seen c) (record {
  requested = refl;
  asked = refl;
  prepared = refl;
  in_one_phase = refl;
  idle = ended-replies c;
  files = ended-replies _;
  keys = ended-replies _;
  both = λ none. finished-replies (at-last c) (none-unfinished c.transaction.id (is_meant Who.Prepared (before-asked c)) c.enlistments (none-counted c none));
}) (counts-less (takes_part c.transaction.id) asks_pre_prepare c.enlistments)
