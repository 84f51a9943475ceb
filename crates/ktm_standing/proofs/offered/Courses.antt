-- What is so once a transaction has gone on by steps.
use Rattle.std.proofs.Common.{◌≡◌, ◌||◌, Bool, true, false, cond, map, List, [], ◌∷◌, ◌++◌, fold, Option, Some, None, append-nil, refl, sym, ap, subst, ◌∙◌}
use Rattle.std.specs.List.{list_any}
use Rattle.ktm_base.specs.declared.id.Id.{Id}
use Rattle.ktm_world.specs.declared.change.Change.{Change}
use Rattle.ktm_world.specs.declared.object.Transaction.{Transaction}
use Rattle.ktm_world.specs.declared.reply.Reply.{Reply}
use Rattle.ktm_world.specs.declared.step.Step.{Step}
use Rattle.ktm_course.specs.Moved.{is_commit}
use Rattle.ktm_world.specs.Changes.{has_changes}
use Rattle.ktm_world.specs.Committed.{Committed, Work, committed_with, with_change}
use Rattle.ktm_world.specs.Enlistments.{Enlistment}
use Rattle.ktm_world.specs.Files.{committed_files, files_with, without_transaction}
use Rattle.ktm_world.specs.Keys.{OwnSettings, without_own, stored_all}
use Rattle.ktm_world.specs.Outcome.{Outcome, apply, committed_now, only_reply, served}
use Rattle.ktm_world.specs.Phases.{Course, has_settings}
use Rattle.ktm_world.specs.Present.{Present}
use Rattle.ktm_world.specs.Steps.{carried, run}
use Rattle.ktm_world.specs.Transactions.{change_at, is_undecided}
use Rattle.ktm_world.specs.TransactionCalls.{arrived, course_of, released}
use Rattle.ktm_laws.specs.EndedTransactions.{tree-store, versions-store}
use Rattle.ktm_steps.proofs.offered.Staying.{run-keeps, stays, stays-step, stays-then, Stays}
use Rattle.txf_laws.specs.FileEffects.{forgotten}
use Rattle.txf_laws.specs.Reservations.{files_committed}
use Rattle.ktm_standing.specs.Courses.{LeadsOn, aside, with_course, with_forgotten, works_if}
use Rattle.ktm_standing.specs.Effects.{IsLater, changes_of, opens_left, settings_of}
use Rattle.ktm_standing.proofs.offered.Applied.{opens_but, opens_all}

-- ---- what is committed

-- what a commit of these commits
abbrev pub commit_works : Id → List Change → OwnSettings → List Work
commit_works id [] [] = []
commit_works id changes settings = record { transaction = Some id; changes = changes; settings = settings } ∷ []

-- what is committed then
abbrev then_committed : Present → Transaction → List Change → OwnSettings → Committed
then_committed x t changes settings = committed_with (committed_now x) (commit_works t.id changes settings)

-- the committed files, for which the store does not matter
abbrev files_then : Present → List Change → Committed
files_then x changes = fold with_change (committed_files x.files []) changes

tree_committed : (x : Present) (t : Transaction) (changes : List Change) (settings : OwnSettings) → (then_committed x t changes settings).tree ≡ (files_then x changes).tree
tree_committed x t [] [] = refl
tree_committed x t [] (s ∷ ss) = refl
tree_committed x t (c ∷ cs) settings = tree-store (c ∷ cs) (committed_now x) (committed_files x.files []) refl refl

versions_committed : (x : Present) (t : Transaction) (changes : List Change) (settings : OwnSettings) → (then_committed x t changes settings).versions ≡ (files_then x changes).versions
versions_committed x t [] [] = refl
versions_committed x t [] (s ∷ ss) = refl
versions_committed x t (c ∷ cs) settings = versions-store (c ∷ cs) (committed_now x) (committed_files x.files []) refl refl

store_committed : (x : Present) (t : Transaction) (changes : List Change) (settings : OwnSettings) → (then_committed x t changes settings).store ≡ stored_all x.keys.store settings
store_committed x t [] [] = refl
store_committed x t [] (s ∷ ss) = refl
store_committed x t (c ∷ cs) settings = refl

works_are : (id : Id) (cs : List Change) (ss : OwnSettings)
    → cond (has_changes cs || has_settings ss) (record { transaction = Some id; changes = cs; settings = ss } ∷ []) [] ≡ commit_works id cs ss
works_are id [] [] = refl
works_are id [] (s ∷ ss) = refl
works_are id (c ∷ cs) [] = refl
works_are id (c ∷ cs) (s ∷ ss) = refl

-- ---- the outcome

-- by whether its outcome is known a transaction is left with what it holds
abbrev released_by : Bool → Course → Outcome → Outcome
released_by true c o = o
released_by false c o = record o { forgotten = c.transaction.id ∷ []; table = without_transaction o.table c.transaction.id; own = without_own o.own c.transaction.id }

pub released-by : (b : Bool) (c : Course) (o : Outcome) → is_undecided c.transaction ≡ b → released c o ≡ released_by b c o
released-by true c o is = ap (λ b. cond b o (released_by false c o)) is
released-by false c o is = ap (λ b. cond b o (released_by false c o)) is

-- where a course has come to, before what it holds is released
abbrev arriving : Present → Course → Reply → Outcome
arriving x c reply = record (only_reply x reply) {
  events = c.events;
  works = c.works;
  sent = c.sent;
  transactions = record x.transactions { items = change_at x.transactions.items c.transaction.id (λ t. c.transaction); enlistments = c.enlistments };
}

-- ---- what it leaves

module _ (x : Present) (t : Transaction) (c : Course) (reply : Reply) where
  -- nothing is committed, and its outcome is not known
  left_open : c.works ≡ [] → is_undecided c.transaction ≡ true → aside (apply x (arriving x c reply)) ≡ aside (with_course x c false)
  left_open none open_still = plain ∙ ap (λ b. aside (record (cond b x (with_forgotten x c.transaction.id)) {
    transactions = record x.transactions { items = change_at x.transactions.items c.transaction.id (λ u. c.transaction); enlistments = c.enlistments };
    managers = map (served None c.sent) x.managers;
  })) (sym open_still)
    where
      plain : aside (apply x (arriving x c reply)) ≡ record (aside x) {
        transactions = record x.transactions { items = change_at x.transactions.items c.transaction.id (λ u. c.transaction); enlistments = c.enlistments };
        managers = map (served None c.sent) x.managers;
      }
      plain i = record (aside x) {
        transactions = record x.transactions { items = change_at x.transactions.items c.transaction.id (λ u. c.transaction); enlistments = c.enlistments };
        managers = map (served None c.sent) (append-nil x.managers i);
        files = files_with (committed_with (committed_now x) (none i)) (opens_all x.files.first_opens i) x.files.table;
        keys = record { store = (committed_with (committed_now x) (none i)).store; own = x.keys.own };
      }

  -- the first opens of a transaction that has ended
  opens_ended : opens_left (c.transaction.id ∷ []) (x.files.first_opens ++ []) ≡ (forgotten x.files c.transaction.id).first_opens
  opens_ended = ap (opens_left (c.transaction.id ∷ [])) (append-nil x.files.first_opens) ∙ opens_but c.transaction.id x.files.first_opens

  -- nothing is committed, and it has ended
  left_ended : c.works ≡ [] → is_undecided c.transaction ≡ false → aside (apply x (released_by false c (arriving x c reply))) ≡ aside (with_course x c false)
  left_ended none known = plain ∙ ap (λ b. aside (record (cond b x (with_forgotten x c.transaction.id)) {
    transactions = record x.transactions { items = change_at x.transactions.items c.transaction.id (λ u. c.transaction); enlistments = c.enlistments };
    managers = map (served None c.sent) x.managers;
  })) (sym known)
    where
      plain : aside (apply x (released_by false c (arriving x c reply))) ≡ record (aside x) {
        transactions = record x.transactions { items = change_at x.transactions.items c.transaction.id (λ u. c.transaction); enlistments = c.enlistments };
        managers = map (served None c.sent) x.managers;
        files = forgotten x.files c.transaction.id;
        keys = record x.keys { own = without_own x.keys.own c.transaction.id };
      }
      plain i = record (aside x) {
        transactions = record x.transactions { items = change_at x.transactions.items c.transaction.id (λ u. c.transaction); enlistments = c.enlistments };
        managers = map (served None c.sent) (append-nil x.managers i);
        files = files_with (committed_with (committed_now x) (none i)) (opens_ended i) (without_transaction x.files.table c.transaction.id);
        keys = record { store = (committed_with (committed_now x) (none i)).store; own = without_own x.keys.own c.transaction.id };
      }

  -- its work is committed
  left_committed : c.transaction.id ≡ t.id → c.works ≡ commit_works t.id (changes_of x t) (settings_of x t) → aside (apply x (released_by false c (arriving x c reply))) ≡ aside (with_course x c true)
  left_committed same works i = record (aside x) {
    transactions = record x.transactions { items = change_at x.transactions.items c.transaction.id (λ u. c.transaction); enlistments = c.enlistments };
    managers = map (served None c.sent) (append-nil x.managers i);
    files = record { tree = tree i; versions = versions i; first_opens = opens_ended i; table = without_transaction x.files.table c.transaction.id };
    keys = record { store = store i; own = without_own x.keys.own c.transaction.id };
  }
    where
      tree : (committed_with (committed_now x) c.works).tree ≡ (files_committed x.files c.transaction.id).tree
      tree =
          ap (λ (ws : List Work). (committed_with (committed_now x) ws).tree) works ∙ tree_committed x t (changes_of x t) (settings_of x t)
          ∙ ap (λ (id : Id). (files_committed x.files id).tree) (sym same)

      versions : (committed_with (committed_now x) c.works).versions ≡ (files_committed x.files c.transaction.id).versions
      versions =
          ap (λ (ws : List Work). (committed_with (committed_now x) ws).versions) works ∙ versions_committed x t (changes_of x t) (settings_of x t)
          ∙ ap (λ (id : Id). (files_committed x.files id).versions) (sym same)

      store : (committed_with (committed_now x) c.works).store ≡ (with_course x c true).keys.store
      store =
          ap (λ (ws : List Work). (committed_with (committed_now x) ws).store) works ∙ store_committed x t (changes_of x t) (settings_of x t)
          ∙ ap (λ (id : Id). stored_all x.keys.store (settings_of x (record t { id = id }))) (sym same)

  -- by what commits and what is known
  left_by : (commits : Bool) → c.transaction.id ≡ t.id → (commits ≡ true → is_undecided c.transaction ≡ false) → c.works ≡ works_if commits x t → aside (apply x (arrived x c reply)) ≡ aside (with_course x c commits)
  left_by true same known works =
      ap (λ o. aside (apply x o)) (released-by false c (arriving x c reply) (known refl)) ∙ left_committed same (works ∙ works_are t.id (changes_of x t) (settings_of x t))
  left_by false same known works = go (is_undecided c.transaction) refl
    where
      go : (b : Bool) → is_undecided c.transaction ≡ b → aside (apply x (arrived x c reply)) ≡ aside (with_course x c false)
      go true is = ap (λ o. aside (apply x o)) (released-by true c (arriving x c reply) is) ∙ left_open works is
      go false is = ap (λ o. aside (apply x o)) (released-by false c (arriving x c reply) is) ∙ left_ended works is

-- what is so once steps are carried out
pub led_on : (x : Present) (t : Transaction) (caller : Option Enlistment) (steps : List Step) (reply : Reply) → LeadsOn x t caller steps
    → let c = run steps (course_of x t caller) in aside (apply x (arrived x c reply)) ≡ aside (with_course x c (list_any is_commit steps))
led_on x t caller steps reply on =
    let start = course_of x t caller in
    let same = (run-keeps (Stays start) (λ step d so. stays-then start d (carried step d) so (stays-step step d)) steps start (stays start)).id in
    left_by x t (run steps start) reply (list_any is_commit steps) same on.known on.works

-- ---- what it comes to, part by part

-- the transaction is as it came to be, and so are its enlistments
pub arrived-transactions : (x : Present) (c : Course) (reply : Reply)
    → (arrived x c reply).transactions ≡ record x.transactions { items = change_at x.transactions.items c.transaction.id (λ u. c.transaction); enlistments = c.enlistments }
arrived-transactions x c reply = go (is_undecided c.transaction) refl
  where
    go : (b : Bool) → is_undecided c.transaction ≡ b
        → (arrived x c reply).transactions ≡ record x.transactions { items = change_at x.transactions.items c.transaction.id (λ u. c.transaction); enlistments = c.enlistments }
    go true is = ap (λ (o : Outcome). o.transactions) (released-by true c _ is)
    go false is = ap (λ (o : Outcome). o.transactions) (released-by false c _ is)

-- it opens, makes and takes nothing
pub arrived-later : (x : Present) (c : Course) (reply : Reply) → IsLater (arrived x c reply)
arrived-later x c reply = go (is_undecided c.transaction) refl
  where
    go : (b : Bool) → is_undecided c.transaction ≡ b → IsLater (arrived x c reply)
    go true is = subst IsLater (sym (released-by true c _ is)) (record { opens = refl; makes = refl; takes = refl })
    go false is = subst IsLater (sym (released-by false c _ is)) (record { opens = refl; makes = refl; takes = refl })

-- the reply changes nothing else
pub arrived-reply : (x : Present) (c : Course) (reply : Reply) → (arrived x c reply).reply ≡ reply
arrived-reply x c reply = go (is_undecided c.transaction) refl
  where
    go : (b : Bool) → is_undecided c.transaction ≡ b → (arrived x c reply).reply ≡ reply
    go true is = ap (λ (o : Outcome). o.reply) (released-by true c _ is)
    go false is = ap (λ (o : Outcome). o.reply) (released-by false c _ is)

pub arrived-apply : (x : Present) (c : Course) (one other : Reply) → apply x (arrived x c one) ≡ apply x (arrived x c other)
arrived-apply x c one other = go (is_undecided c.transaction) refl
  where
    go : (b : Bool) → is_undecided c.transaction ≡ b → apply x (arrived x c one) ≡ apply x (arrived x c other)
    go true is = ap (apply x) (released-by true c _ is) ∙ sym (ap (apply x) (released-by true c _ is))
    go false is = ap (apply x) (released-by false c _ is) ∙ sym (ap (apply x) (released-by false c _ is))
