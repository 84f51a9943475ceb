-- Where a course of a transaction has come to, what undecided transactions own of the files is sound.
use Rattle.std.proofs.Common.{◌≡◌, ℕ, ◌&&◌, not, Bool, true, false, if◌then◌else◌, filter, fold, map, List, [], ◌∷◌, ◌++◌, Option, Some, None, refl, sym, ◌∙◌, ap, subst, inl, inr}
use Rattle.std.proofs.Math.Bool.{or-false}
use Rattle.std.proofs.lemmas.Bool.{cases_Bool, and_parts, and_from, not-true, not_from_false, true≢false}
use Rattle.std.proofs.lemmas.List.{append-nil}
use Rattle.std.proofs.lemmas.List.Sums.{fold-append}
use Rattle.std.proofs.lemmas.List.Folds.{list_any-append}
use Rattle.ktm_base.specs.declared.id.Id.{Id}
use Rattle.ktm_world.specs.declared.change.Change.{Change}
use Rattle.ktm_world.specs.declared.input.PhaseInput.{PhaseInput}
use Rattle.ktm_world.specs.declared.object.Transaction.{Transaction}
use Rattle.ktm_world.specs.declared.reply.Reply.{Reply}
use Rattle.ktm_world.specs.declared.reply.Reply.TheVariants.{Done}
use Rattle.ktm_world.specs.Enlistments.{Enlistment}
use Rattle.ktm_world.specs.Committed.{Work, with_change, with_work, committed_with}
use Rattle.ktm_world.specs.Durable.{Durable, after_event, after_events}
use Rattle.ktm_world.specs.Files.{FirstOpen, OpenFile, OwnChanges, first_open, own_changes, committed_files, without_transaction}
use Rattle.ktm_world.specs.Keys.{OwnSettings, own_settings, without_own}
use Rattle.ktm_world.specs.Outcome.{Outcome, apply, only_reply, committed_now, is_forgotten, first_opens_after, and_then}
use Rattle.ktm_world.specs.Phases.{Course}
use Rattle.ktm_world.specs.Present.{Present}
use Rattle.ktm_world.specs.Steps.{led}
use Rattle.ktm_world.specs.TransactionCalls.{course_of, arrived, aborted_by, aborted_if_due, aborted_in_turn, is_due, tick, with_clock}
use Rattle.ktm_world.specs.Transactions.{is_of, is_undecided, same_id, change_at, transaction_at}
use Rattle.txf_laws.specs.Elements.{IsIn}
use Rattle.txf_laws.specs.Footprint.{ListsLaw}
use Rattle.txf_laws.specs.Formed.{FormedLaw}
use Rattle.txf_laws.specs.SoundFiles.{IsSoundFiles}
use Rattle.ktm_owned.proofs.offered.CoursesKept.{IsCourse, OneWork, led-is}
use Rattle.txf_laws.proofs.offered.Elements.{IsIn-filter, IsIn-kept, filter-true}
use Rattle.txf_laws.proofs.offered.CommitsOfOthers.{Spares, passed, passed-sound, spares-none}
use Rattle.ktm_owned.proofs.offered.EndedTransactions.{AreInOrder, filter-same, same_id-turned, IsIn-change_at, order-changed, transaction_at-in, tree-store, versions-store, spares-end, unchanged}
use Rattle.ktm_owned.proofs.offered.Undecided.{undecided-other, undecided-itself}
use Rattle.txf_laws.proofs.offered.Reservations.{named}
use Rattle.ktm_courses.proofs.offered.OutcomesMade.{events-kept}

-- the changes that works commit
pub OfWorks : (x : Present) (works : List Work) (cs : List Change) → Type 0
OfWorks x works cs = ((committed_with (committed_now x) works).tree ≡ (fold with_change (committed_files x.files []) cs).tree)
    × ((committed_with (committed_now x) works).versions ≡ (fold with_change (committed_files x.files []) cs).versions)

pub of_none : (x : Present) (works : List Work) → works ≡ [] → OfWorks x works []
unfolding OfWorks
of_none x works none = (ap (λ ws. (committed_with (committed_now x) ws).tree) none, ap (λ ws. (committed_with (committed_now x) ws).versions) none)

pub of_one : (x : Present) (works : List Work) (w : Work) (cs : List Change) → works ≡ w ∷ [] → w.changes ≡ cs → OfWorks x works cs
unfolding OfWorks
of_one x works w cs one changes = (
  ap (λ ws. (committed_with (committed_now x) ws).tree) one ∙ ap (λ ds. (fold with_change (committed_now x) ds).tree) changes ∙ tree-store cs (committed_now x) (committed_files x.files []) refl refl,
  ap (λ ws. (committed_with (committed_now x) ws).versions) one ∙ ap (λ ds. (fold with_change (committed_now x) ds).versions) changes ∙ versions-store cs (committed_now x) (committed_files x.files []) refl refl,
)

-- where the first opens of some transactions end, and then those of others, those of all of them have ended
pub both-forgotten : (as' bs : List Id) (fs : List FirstOpen) → filter (λ f. not (is_forgotten (as' ++ bs) f.transaction)) fs ≡ filter (λ f. not (is_forgotten bs f.transaction)) (filter (λ f. not (is_forgotten as' f.transaction)) fs)
both-forgotten as' bs [] = refl
both-forgotten as' bs (f ∷ fs) = elim (cases_Bool (is_forgotten as' f.transaction)) [
  | inl first ↦ rw (list_any-append (same_id f.transaction) as' bs, first) (both-forgotten as' bs fs)
  | inr not' ↦ elim (cases_Bool (is_forgotten bs f.transaction)) [
    | inl second ↦ rw (list_any-append (same_id f.transaction) as' bs, not', second) (both-forgotten as' bs fs)
    | inr kept ↦ rw (list_any-append (same_id f.transaction) as' bs, not', kept) (ap (λ gs. f ∷ gs) (both-forgotten as' bs fs))
  ]
]

module _ (lists : ListsLaw) (formed : FormedLaw) where
  -- ---- a course has arrived

  module _ (x : Present) (order : AreInOrder x) (sound : IsSoundFiles x) (t : Transaction) (there : IsIn t x.transactions.items) (ss : OwnSettings) (c : Course) (reply : Reply)
      (is : IsCourse t (own_changes x.files.table.own t.id) ss c) where
    abbrev pub bare : Outcome
    bare = record (only_reply x reply) {
      events = c.events;
      works = c.works;
      sent = c.sent;
      transactions = record x.transactions { items = change_at x.transactions.items c.transaction.id (λ t. c.transaction); enlistments = c.enlistments };
    }

    -- its outcome is known
    abbrev pub gone : Outcome
    gone = record bare {
      forgotten = c.transaction.id ∷ [];
      table = without_transaction bare.table c.transaction.id;
      own = without_own bare.own c.transaction.id;
    }

    -- what is of others
    abbrev pub others_keep : Option Id → Bool
    others_keep other = not (is_of t.id other)

    boots : (after_events x.recorded c.events).boots ≡ x.recorded.boots
    boots = (events-kept c.events x.recorded is.events).0

    pub end-files : (cs : List Change) → OfWorks x c.works cs → (apply x gone).files ≡ passed x.files cs others_keep x.files.table.next_node
    unfolding OfWorks
    end-files cs of i = record {
      tree = of.0 i;
      versions = of.1 i;
      first_opens = first i;
      table = record x.files.table { own = own i; opens = opens i };
    }
      where
        first : first_opens_after x gone ≡ filter (λ (f : FirstOpen). others_keep (Some f.transaction)) x.files.first_opens
        first = filter-same (λ (f : FirstOpen). not (is_forgotten (c.transaction.id ∷ []) f.transaction)) (λ (f : FirstOpen). others_keep (Some f.transaction)) (x.files.first_opens ++ [])
            (λ f. ap not (or-false (same_id f.transaction c.transaction.id) ∙ same_id-turned f.transaction c.transaction.id ∙ ap (λ i. same_id i f.transaction) is.id))
            ∙ ap (filter (λ (f : FirstOpen). others_keep (Some f.transaction))) (append-nil x.files.first_opens)

        own : filter (λ (o : OwnChanges). not (same_id o.transaction c.transaction.id)) x.files.table.own ≡ filter (λ (o : OwnChanges). others_keep (Some o.transaction)) x.files.table.own
        own = filter-same (λ (o : OwnChanges). not (same_id o.transaction c.transaction.id)) (λ (o : OwnChanges). others_keep (Some o.transaction)) x.files.table.own
            (λ o. ap not (same_id-turned o.transaction c.transaction.id ∙ ap (λ i. same_id i o.transaction) is.id))

        opens : filter (λ (o : OpenFile). not (is_of c.transaction.id o.transaction)) x.files.table.opens ≡ filter (λ (o : OpenFile). others_keep o.transaction) x.files.table.opens
        opens = ap (λ i. filter (λ (o : OpenFile). not (is_of i o.transaction)) x.files.table.opens) is.id

    end-sound : is_undecided c.transaction ≡ false → (cs : List Change) → Spares x cs others_keep x.files.table.next_node → OfWorks x c.works cs → IsSoundFiles (apply x gone)
    end-sound decided cs spares of = passed-sound lists formed x (apply x gone) cs others_keep x.files.table.next_node sound spares (record {
      files = end-files cs of;
      boots = boots;
      handles = λ o has kept. named x sound o has;
      undecided = λ id kept was. undecided-other x.transactions.items c.transaction id (subst (λ i. same_id i id ≡ false) (sym is.id) (not-true _ kept)) was;
      those = λ u has.
          let filtered = IsIn-filter (λ (v : Transaction). is_undecided v && not (is_of v.id None)) (change_at x.transactions.items c.transaction.id (λ t. c.transaction)) u has in
          let undecided' = (and_parts (is_undecided u) _ filtered.1).0 in
          elim (IsIn-change_at x.transactions.items c.transaction order.transactions_rise u filtered.0) [
            | inl e ↦ absurd (true≢false (sym undecided' ∙ ap is_undecided e ∙ decided))
            | inr (old, other) ↦ (
              u,
              IsIn-kept (λ (v : Transaction). is_undecided v && not (is_of v.id None)) x.transactions.items u old (and_from _ _ undecided' refl),
              refl,
              not_from_false _ (subst (λ i. same_id i u.id ≡ false) is.id other),
            )
          ];
    })

    on-sound : is_undecided c.transaction ≡ true → c.works ≡ [] → is_undecided t ≡ true → IsSoundFiles (apply x bare)
    on-sound undecided' none was = unchanged lists formed x (apply x bare) same boots (named x sound) (λ id before. elim (cases_Bool (same_id c.transaction.id id)) [
      | inl same ↦ undecided-itself x.transactions.items c.transaction id same undecided' before
      | inr other ↦ undecided-other x.transactions.items c.transaction id other before
    ]) (λ u has.
        let filtered = IsIn-filter (λ (v : Transaction). is_undecided v && not (is_of v.id None)) (change_at x.transactions.items c.transaction.id (λ t. c.transaction)) u has in
        elim (IsIn-change_at x.transactions.items c.transaction order.transactions_rise u filtered.0) [
          | inl e ↦ (t, IsIn-kept (λ (v : Transaction). is_undecided v && not (is_of v.id None)) x.transactions.items t there (and_from _ _ was refl), sym is.id ∙ sym (ap (λ (v : Transaction). v.id) e))
          | inr (old, other) ↦ (u, IsIn-kept (λ (v : Transaction). is_undecided v && not (is_of v.id None)) x.transactions.items u old filtered.1, refl)
        ]) sound
      where
        same : (apply x bare).files ≡ x.files
        same i = record {
          tree = (committed_with (committed_now x) (none i)).tree;
          versions = (committed_with (committed_now x) (none i)).versions;
          first_opens = (filter-true (x.files.first_opens ++ []) ∙ append-nil x.files.first_opens) i;
          table = x.files.table;
        }

    pub arrived-sound : IsSoundFiles (apply x (arrived x c reply))
    arrived-sound = go (is_undecided c.transaction) refl
      where
        end : is_undecided c.transaction ≡ false → OneWork (own_changes x.files.table.own t.id) ss c.works → IsSoundFiles (apply x gone)
        end decided (inl none) = end-sound decided [] (spares-none x others_keep sound) (of_none x c.works none)
        end decided (inr (w, one, changes, settings)) = end-sound decided (own_changes x.files.table.own t.id) (spares-end lists formed x order sound t there) (of_one x c.works w (own_changes x.files.table.own t.id) one changes)

        go : (b : Bool) → is_undecided c.transaction ≡ b → IsSoundFiles (apply x (if b then bare else gone))
        go true undecided' = elim is.outcome [ inl decided ↦ absurd (true≢false (sym undecided' ∙ decided)) | inr (none, was) ↦ on-sound undecided' none was ]
        go false decided = end decided is.works

    pub arrived-order : AreInOrder (apply x (arrived x c reply))
    arrived-order = go (is_undecided c.transaction)
      where
        go : (b : Bool) → AreInOrder (apply x (if b then bare else gone))
        go true = record { transactions_rise = order-changed x.transactions.items c.transaction order.transactions_rise; labels_differ = order.labels_differ }
        go false = record { transactions_rise = order-changed x.transactions.items c.transaction order.transactions_rise; labels_differ = order.labels_differ }

  -- ---- one outcome after another

  -- an outcome opens no file first, and keeps the files sound and the transactions in order
  pub record Goes (x : Present) (o : Outcome) : Type 0 where
    pub opens : o.openings ≡ []
    pub keeps : AreInOrder x → IsSoundFiles x → AreInOrder (apply x o) × IsSoundFiles (apply x o)

  pub only_reply-sound : (x : Present) (reply : Reply) → IsSoundFiles x → IsSoundFiles (apply x (only_reply x reply))
  only_reply-sound x reply sound = unchanged lists formed x (apply x (only_reply x reply)) same refl (named x sound) (λ id was. was) (λ u has. (u, has, refl)) sound
    where
      same : (apply x (only_reply x reply)).files ≡ x.files
      same i = record x.files { first_opens = (filter-true (x.files.first_opens ++ []) ∙ append-nil x.files.first_opens) i }

  pub only_reply-goes : (x : Present) (reply : Reply) → Goes x (only_reply x reply)
  only_reply-goes x reply = record { opens = refl; keeps = λ order sound. (record { transactions_rise = order.transactions_rise; labels_differ = order.labels_differ }, only_reply-sound x reply sound) }

  pub and_then-goes : (x : Present) (o : Outcome) (next : Present → Outcome) → Goes x o → ((y : Present) → Goes y (next y)) → Goes x (and_then x o next)
  and_then-goes x o next first second = record {
    opens = ap (λ os. os ++ (next (apply x o)).openings) first.opens ∙ (second (apply x o)).opens;
    keeps = λ order sound.
        let between = first.keeps order sound in
        let after = (second (apply x o)).keeps between.0 between.1 in
        (record { transactions_rise = after.0.transactions_rise; labels_differ = after.0.labels_differ }, unchanged lists formed (apply y (next y)) (apply x (and_then x o next)) same boots (named (apply y (next y)) after.1) (λ id was. was) (λ u has. (u, has, refl)) after.1);
  }
    where
      y : Present
      y = apply x o

      boots : (after_events x.recorded (o.events ++ (next y).events)).boots ≡ (after_events (after_events x.recorded o.events) (next y).events).boots
      boots = ap (λ (s : Durable). s.boots) (fold-append after_event x.recorded o.events (next y).events)

      firsts : first_opens_after x (and_then x o next) ≡ first_opens_after y (next y)
      firsts =
          ap (λ os. filter (λ f. not (is_forgotten (o.forgotten ++ (next y).forgotten) f.transaction)) (x.files.first_opens ++ map (first_open (committed_now x)) os)) (ap (λ os. os ++ (next y).openings) first.opens ∙ (second y).opens)
          ∙ both-forgotten o.forgotten (next y).forgotten (x.files.first_opens ++ [])
          ∙ ap (λ os. filter (λ f. not (is_forgotten (next y).forgotten f.transaction)) (filter (λ f. not (is_forgotten o.forgotten f.transaction)) (x.files.first_opens ++ map (first_open (committed_now x)) os))) (sym first.opens)
          ∙ ap (filter (λ f. not (is_forgotten (next y).forgotten f.transaction))) (sym (append-nil y.files.first_opens))
          ∙ ap (λ os. filter (λ f. not (is_forgotten (next y).forgotten f.transaction)) (y.files.first_opens ++ map (first_open (committed_now y)) os)) (sym (second y).opens)

      same : (apply x (and_then x o next)).files ≡ (apply y (next y)).files
      same i = record {
        tree = (fold-append with_work (committed_now x) o.works (next y).works i).tree;
        versions = (fold-append with_work (committed_now x) o.works (next y).works i).versions;
        first_opens = firsts i;
        table = (next y).table;
      }

  -- ---- courses, and time

  one-opens : (b : Bool) (o p : Outcome) → o.openings ≡ [] → p.openings ≡ [] → (if b then o else p).openings ≡ []
  one-opens true o p first second = first
  one-opens false o p first second = second

  pub course-goes : (x : Present) (t : Transaction) (caller : Option Enlistment) (input : PhaseInput) (reply : Course → Reply) → IsIn t x.transactions.items → Goes x (arrived x (led input (course_of x t caller)) (reply (led input (course_of x t caller))))
  course-goes x t caller input reply there =
      let ss = own_settings x.keys.own t.id in
      let c = led input (course_of x t caller) in
      let is = led-is t (own_changes x.files.table.own t.id) ss input (course_of x t caller) (record { id = refl; changes = refl; settings = refl; works = refl; events = refl; outcome = refl }) in
      record {
        opens = one-opens (is_undecided c.transaction) _ _ refl refl;
        keeps = λ order sound. (arrived-order x order sound t there ss c (reply c) is, arrived-sound x order sound t there ss c (reply c) is);
      }

  pub either-goes : (x : Present) (b : Bool) (o p : Outcome) → Goes x o → Goes x p → Goes x (if b then o else p)
  either-goes x true o p = λ first second. first
  either-goes x false o p = λ first second. second

  aborted_if_due-goes : (x : Present) (id : Id) → Goes x (aborted_if_due x (transaction_at x.transactions.items id))
  aborted_if_due-goes x id = go (transaction_at x.transactions.items id) refl
    where
      go : (t : Option Transaction) → transaction_at x.transactions.items id ≡ t → Goes x (aborted_if_due x t)
      go None found = only_reply-goes x Done
      go (Some t) found =
          either-goes x (is_due x.transactions.clock t) (aborted_by x t None Done) (only_reply x Done)
          (course-goes x t None PhaseInput.Rollback (λ c. Done) (transaction_at-in x.transactions.items id t found)) (only_reply-goes x Done)

  aborted_in_turn-goes : (ts : List Transaction) (x : Present) → Goes x (aborted_in_turn x ts)
  aborted_in_turn-goes [] x = only_reply-goes x Done
  aborted_in_turn-goes (t ∷ ts) x =
      and_then-goes x (aborted_if_due x (transaction_at x.transactions.items t.id)) (λ next. aborted_in_turn next ts) (aborted_if_due-goes x t.id) (aborted_in_turn-goes ts)

  pub tick-sound : (x : Present) (ms : ℕ) → AreInOrder x → IsSoundFiles x → IsSoundFiles (apply x (tick x ms))
  unfolding tick
  tick-sound x ms order sound =
      ((aborted_in_turn-goes x.transactions.items (with_clock x ms)).keeps (record { transactions_rise = order.transactions_rise; labels_differ = order.labels_differ }) (unchanged lists formed x (with_clock x ms) refl refl (named x sound) (λ id was. was) (λ u has. (u, has, refl)) sound)).1
