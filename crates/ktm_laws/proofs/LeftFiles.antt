-- What rollbacks of others and handles that are closed leave to an undecided transaction of the files.
use Rattle.std.specs.Prelude.{⊤}
use Rattle.std.proofs.Common.{◌≡◌, ℕ, ◌==◌, ◌&&◌, not, Bool, true, false, List, [], ◌∷◌, ◌++◌, filter, map, Option, Some, None, refl, sym, ◌∙◌, ap, subst, inl, inr}
use Rattle.std.proofs.lemmas.Bool.{cases_Bool, and_from, and_parts, ne_eqb, eqb-false, or_from, not_from_false, true≢false, false_from_ne_true}
use Rattle.std.proofs.lemmas.List.Folds.{list_any-append}
use Rattle.std.proofs.lemmas.Option.{none-some, same_Some}
use Rattle.ktm_base.specs.declared.id.Id.{Id}
use Rattle.ktm_base.specs.declared.id.Label.{Label}
use Rattle.ktm_base.specs.declared.id.Pid.{Pid}
use Rattle.ktm_world.specs.declared.change.Change.{Change}
use Rattle.ktm_world.specs.declared.input.PhaseInput.{PhaseInput}
use Rattle.ktm_world.specs.declared.object.Handle.{Handle}
use Rattle.ktm_world.specs.declared.object.Object.{Object}
use Rattle.ktm_world.specs.declared.object.Object.TheVariants.{Transaction as TransactionObject, Manager as ManagerObject, Enlistment as EnlistmentObject, File as FileObject}
use Rattle.ktm_world.specs.declared.object.Transaction.{Transaction}
use Rattle.ktm_world.specs.declared.reply.Reply.{Reply}
use Rattle.ktm_world.specs.declared.reply.Reply.TheVariants.{Done}
use Rattle.ktm_world.specs.Changes.{changed_all, changes_apply}
use Rattle.ktm_world.specs.Conflicts.{written_by, writes}
use Rattle.ktm_world.specs.Committed.{committed_with}
use Rattle.ktm_world.specs.Files.{FileTable, FilesNow, FirstOpen, OpenFile, Opening, first_open, first_open_of, own_changes, without_transaction}
use Rattle.ktm_world.specs.HandleCalls.{abort_active, close_handle, closed_file, closed_in_turn, exit, handle_gone, has_handle, is_handle, is_of_process, labels_of, last_handle_gone, same_object, without_handle}
use Rattle.ktm_world.specs.Handles.{object_at}
use Rattle.ktm_world.specs.Holds.{holds_by}
use Rattle.ktm_world.specs.Keys.{OwnSettings, own_settings}
use Rattle.ktm_world.specs.Labels.{holds_of}
use Rattle.ktm_world.specs.Outcome.{Outcome, and_then, apply, committed_now, first_opens_after, is_forgotten, only_reply}
use Rattle.ktm_world.specs.Phases.{Course}
use Rattle.ktm_world.specs.Present.{Present}
use Rattle.ktm_world.specs.Steps.{led}
use Rattle.ktm_world.specs.TransactionCalls.{aborted_by, arrived, course_of, tick, with_clock}
use Rattle.ktm_world.specs.Transactions.{change_at, is_active, is_of, is_undecided, same_id, transaction_at}
use Rattle.txf_laws.specs.Elements.{IsIn, each_pair}
use Rattle.txf_laws.specs.Footprint.{AreFootprintsApart, ListsLaw, footprint}
use Rattle.txf_laws.specs.Reservations.{IsLeft}
use Rattle.txf_laws.specs.SoundFiles.{IsSoundFiles, is_undecided_in}
use Rattle.ktm_laws.specs.ReservedFiles.{name_file_of, with_opens}
use Rattle.ktm_courses.proofs.offered.Calls.{transaction_at-found}
use Rattle.ktm_courses.proofs.offered.HandlesAndTime.{Rolls, tick-so}
use Rattle.ktm_owned.proofs.offered.CoursesKept.{IsCourse, led-is}
use Rattle.ktm_owned.proofs.offered.EndedTransactions.{IsIn-change_at, is_created_before, order-changed, transaction_at-there}
use Rattle.ktm_records.proofs.offered.AgreementOfRollbacks.{rollback-undone}
use Rattle.ktm_steps.proofs.offered.Ways.{if_cases}
use Rattle.txf_laws.proofs.offered.CommitsOfOthers.{undecided-entry}
use Rattle.txf_laws.proofs.offered.Diamonds.{no_test}
use Rattle.txf_laws.proofs.offered.Elements.{IsIn-filter, IsIn-kept, list_any-from}
use Rattle.txf_laws.proofs.offered.Lists.{IsIn-cases, IsIn-unmap, apart-from-none}
use Rattle.txf_laws.proofs.offered.Reservations.{first_open_of-left, left-by, of_other, of_other-open, own-apply, own_changes-left, written_by-left}
use Rattle.txf_laws.proofs.offered.Tables.{same_id-equal, same_id-sym}

-- ---- lists

-- first opens of others come behind
first-behind : (fs gs : List FirstOpen) (id : Id) (file : ℕ) → ((g : FirstOpen) → IsIn g gs → same_id g.transaction id ≡ false) → first_open_of (fs ++ gs) id file ≡ first_open_of fs id file
first-behind [] [] id file others = refl
first-behind [] (g ∷ gs) id file others = rw (others g (inl refl)) (first-behind [] gs id file (λ f there. others f (inr there)))
first-behind (f ∷ fs) gs id file others = elim (cases_Bool (same_id f.transaction id && f.file == file)) [
  | inl here ↦ rw here refl
  | inr later ↦ rw later (first-behind fs gs id file others)
]

-- what is open in the transaction stays open
written-kept : (keep : OpenFile → Bool) (opens : List OpenFile) (id : Id) → ((f : OpenFile) → IsIn f opens → is_of id f.transaction ≡ true → keep f ≡ true) → written_by (filter keep opens) id ≡ written_by opens id
written-kept keep [] id kept = refl
written-kept keep (f ∷ fs) id kept = elim (cases_Bool (is_of id f.transaction && writes f.access)) [
  | inl here ↦ rw (kept f (inl refl) (and_parts (is_of id f.transaction) (writes f.access) here).0, here) (ap (λ ns. f.node ∷ ns) (written-kept keep fs id (λ g there. kept g (inr there))))
  | inr not' ↦ elim (cases_Bool (keep f)) [
    | inl stays ↦ rw (stays, not') (written-kept keep fs id (λ g there. kept g (inr there)))
    | inr gone ↦ rw (gone, not') (written-kept keep fs id (λ g there. kept g (inr there)))
  ]
]

-- ---- what an outcome does not touch

-- an outcome neither changes nor opens anything in the transaction, nor does it end it
pub record Untouched (id : Id) (x : Present) (o : Outcome) : Type 0 where
  pub openings : (f : Opening) → IsIn f o.openings → same_id f.transaction id ≡ false
  pub forgotten : is_forgotten o.forgotten id ≡ false
  pub own : own_changes o.table.own id ≡ own_changes x.files.table.own id

first-untouched : (id : Id) (x : Present) (o : Outcome) → Untouched id x o → (file : ℕ) → first_open_of (first_opens_after x o) id file ≡ first_open_of x.files.first_opens id file
first-untouched id x o is file =
    first_open_of-left (λ f. not (is_forgotten o.forgotten f.transaction)) (x.files.first_opens ++ map (first_open (committed_now x)) o.openings) id file
    (λ f same. not_from_false _ (subst (λ i. is_forgotten o.forgotten i ≡ false) (sym (same_id-equal f.transaction id same)) is.forgotten))
    ∙ first-behind x.files.first_opens (map (first_open (committed_now x)) o.openings) id file (λ g there.
    let from = IsIn-unmap (first_open (committed_now x)) g o.openings there in subst (λ (h : FirstOpen). same_id h.transaction id ≡ false) from.1 (is.openings from.0 from.2))

-- the files that it may write are those that it might write before
pub left-written : (files after : FilesNow) (id : Id) → written_by after.table.opens id ≡ written_by files.table.opens id → IsLeft (with_opens files after.table.opens) after id → IsLeft files after id
left-written files after id written is = record {
  own = is.own;
  applies = is.applies;
  holds = is.holds ∙ ap (λ ws. holds_by files.tree (own_changes files.table.own id) ws) written;
  bytes = is.bytes;
}

pub left-same : (x : Present) → IsSoundFiles x → (files : FilesNow) (id : Id) → files ≡ x.files → IsLeft x.files files id
left-same x sound files id same = subst (λ fs. IsLeft x.files fs id) (sym same) (record { own = refl; applies = own-apply x sound id; holds = refl; bytes = λ file is. refl })

module _ (lists : ListsLaw) where
  -- changes that are apart from those of the transaction are committed by such an outcome
  pub left-committed : (x : Present) → IsSoundFiles x → (id : Id) (o : Outcome) → Untouched id x o → (cs : List Change) → changes_apply x.files.tree cs ≡ true
      → AreFootprintsApart (footprint x.files.tree cs) (footprint x.files.tree (own_changes x.files.table.own id)) → (apply x o).files.tree ≡ changed_all x.files.tree cs
      → IsLeft (with_opens x.files o.table.opens) (apply x o).files id
  left-committed x sound id o is cs all apart tree =
      left-by lists (with_opens x.files o.table.opens) (apply x o).files cs id sound.formed all (own-apply x sound id) apart tree is.own (first-untouched id x o is) refl

  -- nothing is committed by such an outcome
  pub left-idle : (x : Present) → IsSoundFiles x → (id : Id) (o : Outcome) → Untouched id x o → o.works ≡ [] → IsLeft (with_opens x.files o.table.opens) (apply x o).files id
  left-idle x sound id o is none =
      left-committed x sound id o is [] refl (apart-from-none x.files.tree (own_changes x.files.table.own id)) (ap (λ ws. (committed_with (committed_now x) ws).tree) none)

-- ---- transactions that are undecided then

abbrev pub Rise : List Transaction → Type 0
Rise ts = each_pair is_created_before ts ≡ true

-- a transaction that is undecided where one is changed was so before, and it is another one where that one is decided
pub was-undecided : (ts : List Transaction) → Rise ts → (t v : Transaction) → IsIn t ts → v.id ≡ t.id → (is_undecided v ≡ true → is_undecided t ≡ true) → (id : Id) → is_undecided_in (change_at ts v.id (λ t. v)) id ≡ true
    → (is_undecided_in ts id ≡ true) × (is_undecided v ≡ false → same_id v.id id ≡ false)
was-undecided ts rise t v there same was id is =
    let u = undecided-entry (change_at ts v.id (λ t. v)) id is in
    let kept = IsIn-filter (λ (w : Transaction). is_undecided w && not (is_of w.id None)) (change_at ts v.id (λ t. v)) u.0 u.1 in
    let undecided = (and_parts (is_undecided u.0) (not (is_of u.0.id None)) kept.1).0 in
    elim (IsIn-change_at ts v rise u.0 kept.0) [
      | inl e ↦
          let now : is_undecided v ≡ true = ap is_undecided (sym e) ∙ undecided in
          (subst (λ i. is_undecided_in ts i ≡ true) (sym same ∙ ap (λ (w : Transaction). w.id) (sym e) ∙ u.2) (found t there (was now)), λ decided. absurd (true≢false (sym now ∙ decided)))
      | inr (old, other) ↦ (subst (λ i. is_undecided_in ts i ≡ true) u.2 (found u.0 old undecided), λ decided. subst (λ i. same_id v.id i ≡ false) u.2 other)
    ]
  where
    found : (w : Transaction) → IsIn w ts → is_undecided w ≡ true → is_undecided_in ts w.id ≡ true
    found w has undecided = ap (holds_of is_undecided) (transaction_at-there ts rise w has) ∙ undecided

-- ---- outcomes that touch nothing

pub untouched-same : (id : Id) (x : Present) (o : Outcome) → o.openings ≡ [] → o.forgotten ≡ [] → o.table.own ≡ x.files.table.own → Untouched id x o
untouched-same id x o openings forgotten own = record {
  openings = λ f there. absurd (subst (IsIn f) openings there);
  forgotten = ap (λ ids. is_forgotten ids id) forgotten;
  own = ap (λ os. own_changes os id) own;
}

-- another transaction has ended
pub untouched-without : (id : Id) (x : Present) (o : Outcome) (gone : Id) → same_id gone id ≡ false → o.openings ≡ [] → o.forgotten ≡ gone ∷ [] → o.table ≡ without_transaction x.files.table gone
    → Untouched id x o × (written_by o.table.opens id ≡ written_by x.files.table.opens id)
untouched-without id x o gone other openings forgotten table = (
  record {
    openings = λ f there. absurd (subst (IsIn f) openings there);
    forgotten = ap (λ ids. is_forgotten ids id) forgotten ∙ or_from _ _ (same_id-sym gone id other) refl;
    own = ap (λ (t : FileTable). own_changes t.own id) table ∙ own_changes-left (λ o. not (same_id o.transaction gone)) x.files.table.own id (λ o. of_other gone id o.transaction other);
  },
  ap (λ (t : FileTable). written_by t.opens id) table ∙ written_by-left (λ o. not (is_of gone o.transaction)) x.files.table.opens id (λ o. of_other-open gone id o.transaction other),
)

-- ---- handles of files

-- where no handle names a file that is open in the transaction, a file that one names is not open in it
pub not-of : (x : Present) (id : Id) (handles : List Handle) → name_file_of x id handles ≡ false → (f : OpenFile) → IsIn f x.files.table.opens → has_handle handles (FileObject f.number) ≡ true → is_of id f.transaction ≡ false
not-of x id handles none f there named = false_from_ne_true _ (λ of.
    true≢false (sym (and_from _ _ of named) ∙ no_test (λ (o : OpenFile). is_of id o.transaction && has_handle handles (FileObject o.number)) f x.files.table.opens none there))

-- a label that is bound is that of a handle
pub handle-bound : (hs : List Handle) (process : Pid) (label : Label) (object : Object) → object_at hs process label ≡ Some object → (h : Handle) × IsIn h hs × (is_handle process label h ≡ true) × (h.object ≡ object)
handle-bound [] process label object bound = absurd (none-some object bound)
handle-bound (h ∷ hs) process label object bound = elim (cases_Bool (is_handle process label h)) [
  | inl here ↦ (h, inl refl, here, same_Some h.object object (rw here at bound))
  | inr other ↦ let rest = handle-bound hs process label object (rw other at bound) in (rest.0, inr rest.1, rest.2, rest.3)
]

-- an undecided transaction has not been decided by its course
pub was-so : (t : Transaction) (cs : List Change) (ss : OwnSettings) (c : Course) → IsCourse t cs ss c → is_undecided c.transaction ≡ true → is_undecided t ≡ true
was-so t cs ss c is now = elim is.outcome [ inl decided ↦ absurd (true≢false (sym now ∙ decided)) | inr (none, was) ↦ was ]

-- ---- one outcome after another

-- an outcome adds no open file and no handle, and leaves the transactions in order
pub record Lessens (x : Present) (o : Outcome) : Type 0 where
  pub rise : Rise x.transactions.items → Rise o.transactions.items
  pub opens : (f : OpenFile) → IsIn f o.table.opens → IsIn f x.files.table.opens
  pub handles : (h : Handle) → IsIn h o.handles → IsIn h x.handles

-- it commits nothing, and does not touch a transaction that is undecided before; where it closes none of the files that are open in it, it may write them still
pub record IsQuiet (keeps : Bool) (id : Id) (x : Present) (o : Outcome) : Type 0 where
  pub before : is_undecided_in x.transactions.items id ≡ true
  pub works : o.works ≡ []
  pub untouched : Untouched id x o
  pub written : keeps ≡ true → written_by o.table.opens id ≡ written_by x.files.table.opens id

-- the outcome adds no open file and no handle, and is quiet where the transaction is undecided then
pub record IsStill (keeps : Bool) (id : Id) (x : Present) (o : Outcome) : Type 0 where
  pub less : Lessens x o
  pub quiet : Rise x.transactions.items → is_undecided_in o.transactions.items id ≡ true → IsQuiet keeps id x o

module _ (keeps : Bool) (id : Id) where
  abbrev Still : Present → Outcome → Type 0
  Still x o = IsStill keeps id x o

  still-reply : (x : Present) (reply : Reply) → Still x (only_reply x reply)
  still-reply x reply = record {
    less = record { rise = λ rise. rise; opens = λ f there. there; handles = λ h there. there };
    quiet = λ rise after. record { before = after; works = refl; untouched = untouched-same id x (only_reply x reply) refl refl refl; written = λ all. refl };
  }

  still-then : (x : Present) (a : Outcome) (next : Present → Outcome) → Still x a → (Lessens x a → Still (apply x a) (next (apply x a))) → Still x (and_then x a next)
  still-then x a next first second =
      let less = first.less in
      let rest = second less in
      record {
        less = record {
          rise = λ rise. rest.less.rise (less.rise rise);
          opens = λ f there. less.opens f (rest.less.opens f there);
          handles = λ h there. less.handles h (rest.less.handles h there);
        };
        quiet = λ rise after.
            let b = rest.quiet (less.rise rise) after in
            let q = first.quiet rise b.before in
            record {
              before = q.before;
              works = λ i. q.works i ++ b.works i;
              untouched = record {
                openings = λ f there. elim (IsIn-cases f a.openings (next (apply x a)).openings there) [ inl early ↦ q.untouched.openings f early | inr late ↦ b.untouched.openings f late ];
                forgotten = list_any-append (same_id id) a.forgotten (next (apply x a)).forgotten ∙ or_from _ _ q.untouched.forgotten b.untouched.forgotten;
                own = b.untouched.own ∙ q.untouched.own;
              };
              written = λ all. b.written all ∙ q.written all;
            };
      }

  -- ---- rollbacks

  still-arrived : (x : Present) (t : Transaction) (c : Course) (reply : Reply) → IsIn t x.transactions.items → IsCourse t (own_changes x.files.table.own t.id) (own_settings x.keys.own t.id) c → c.works ≡ [] → Still x (arrived x c reply)
  still-arrived x t c reply there is none = if_cases Still' (is_undecided c.transaction) _ _
      (λ now. record {
        less = record { rise = order-changed x.transactions.items c.transaction; opens = λ f has. has; handles = λ h has. has };
        quiet = λ rise after. record { before = (was rise after).0; works = none; untouched = untouched-same id x _ refl refl refl; written = λ all. refl };
      })
      (λ decided. record {
        less = record { rise = order-changed x.transactions.items c.transaction; opens = λ f has. (IsIn-filter (λ (o : OpenFile). not (is_of c.transaction.id o.transaction)) x.files.table.opens f has).0; handles = λ h has. has };
        quiet = λ rise after.
            let ended = untouched-without id x _ c.transaction.id ((was rise after).1 decided) refl refl refl in
            record { before = (was rise after).0; works = none; untouched = ended.0; written = λ all. ended.1 };
      })
    where
      Still' : Outcome → Type 0
      Still' o = IsStill keeps id x o

      was : Rise x.transactions.items → is_undecided_in (change_at x.transactions.items c.transaction.id (λ t. c.transaction)) id ≡ true
          → (is_undecided_in x.transactions.items id ≡ true) × (is_undecided c.transaction ≡ false → same_id c.transaction.id id ≡ false)
      was rise after = was-undecided x.transactions.items rise t c.transaction there is.id (was-so t _ _ c is) id after

  still-aborted : (x : Present) (t : Transaction) → IsIn t x.transactions.items → Still x (aborted_by x t None Done)
  still-aborted x t there =
      let b = course_of x t None in
      still-arrived x t (led PhaseInput.Rollback b) Done there
      (led-is t b.changes b.settings PhaseInput.Rollback b (record { id = refl; changes = refl; settings = refl; works = refl; events = refl; outcome = refl })) (rollback-undone b).works

  -- ---- time

  still-rolls : Rolls (λ x. ⊤) Still
  still-rolls = record {
    reply = λ x asked. still-reply x Done;
    rolls = λ x t asked there can. still-aborted x t there;
    goes_on = λ x a next first second. still-then x a next first (λ less. second tt);
  }

  pub still-tick : (x : Present) (ms : ℕ) → Still (with_clock x ms) (tick x ms)
  still-tick x ms = tick-so (λ x. ⊤) Still still-rolls x ms tt

  -- ---- handles

  -- no file that is open in the transaction is named by such a handle, where its files are kept
  abbrev pub Spared : Present → (Handle → Bool) → Type 0
  Spared x which = keeps ≡ true → (f : OpenFile) → IsIn f x.files.table.opens → is_of id f.transaction ≡ true → (h : Handle) → IsIn h x.handles → which h ≡ true → same_object h.object (FileObject f.number) ≡ false

  spared-still : (x : Present) (a : Outcome) (which : Handle → Bool) → Lessens x a → Spared x which → Spared (apply x a) which
  spared-still x a which less spared all f there of h has is = spared all f (less.opens f there) of h (less.handles h has) is

  still-unbound : (x : Present) (process : Pid) (label : Label) → Still x (record (only_reply x Done) { handles = without_handle x.handles process label })
  still-unbound x process label = record {
    less = record { rise = λ rise. rise; opens = λ f there. there; handles = λ h there. (IsIn-filter (λ h. not (is_handle process label h)) x.handles h there).0 };
    quiet = λ rise after. record { before = after; works = refl; untouched = untouched-same id x _ refl refl refl; written = λ all. refl };
  }

  still-closed : (x : Present) (n : ℕ) → (keeps ≡ true → (f : OpenFile) → IsIn f x.files.table.opens → is_of id f.transaction ≡ true → (f.number == n) ≡ false) → Still x (record (only_reply x Done) { table = closed_file x.files.table n })
  still-closed x n spared = record {
    less = record { rise = λ rise. rise; opens = λ f there. (IsIn-filter (λ o. not (o.number == n)) x.files.table.opens f there).0; handles = λ h there. there };
    quiet = λ rise after. record {
      before = after;
      works = refl;
      untouched = untouched-same id x _ refl refl refl;
      written = λ all. written-kept (λ o. not (o.number == n)) x.files.table.opens id (λ f there of. not_from_false _ (spared all f there of));
    };
  }

  still-active : (x : Present) (o : Option Transaction) → ((t : Transaction) → o ≡ Some t → IsIn t x.transactions.items) → Still x (abort_active x o)
  still-active x None there = still-reply x Done
  still-active x (Some t) there = if_cases (λ o. IsStill keeps id x o) (is_active t) _ _ (λ active. still-aborted x t (there t refl)) (λ other. still-reply x Done)

  still-gone : (x : Present) (object : Object) → Still x (last_handle_gone x object) → Still x (handle_gone (Some object) x)
  still-gone x object last = if_cases (λ o. IsStill keeps id x o) (has_handle x.handles object) _ _ (λ has. still-reply x Done) (λ none. last)

  pub still-close : (x : Present) (process : Pid) (label : Label) → Spared x (is_handle process label) → Still x (close_handle x process label)
  unfolding close_handle
  still-close x process label spared = go (object_at x.handles process label) refl
    where
      y : Present
      y = apply x (record (only_reply x Done) { handles = without_handle x.handles process label })

      by : (o : Option Object) → Still y (handle_gone o y) → Still x (and_then x (record (only_reply x Done) { handles = without_handle x.handles process label }) (handle_gone o))
      by o rest = still-then x _ (handle_gone o) (still-unbound x process label) (λ less. rest)

      go : (o : Option Object) → object_at x.handles process label ≡ o → Still x (and_then x (record (only_reply x Done) { handles = without_handle x.handles process label }) (handle_gone o))
      go None bound = by None (still-reply y Done)
      go (Some (TransactionObject t)) bound = by (Some (TransactionObject t)) (still-gone y (TransactionObject t) (still-active y (transaction_at y.transactions.items t) (λ u found. (transaction_at-found y.transactions.items t u found).0)))
      go (Some (ManagerObject m)) bound = by (Some (ManagerObject m)) (still-gone y (ManagerObject m) (still-reply y Done))
      go (Some (EnlistmentObject e)) bound = by (Some (EnlistmentObject e)) (still-gone y (EnlistmentObject e) (still-reply y Done))
      go (Some (FileObject n)) bound = by (Some (FileObject n)) (still-gone y (FileObject n) (still-closed y n (λ all f there of.
          let h = handle-bound x.handles process label (FileObject n) bound in
          ne_eqb f.number n (λ same. eqb-false n f.number (subst (λ k. same_object k (FileObject f.number) ≡ false) h.3 (spared all f there of h.0 h.1 h.2)) (sym same)))))

  still-in_turn : (labels : List Label) (process : Pid) (x : Present) → Spared x (is_of_process process) → Still x (closed_in_turn x process labels)
  still-in_turn [] process x spared = still-reply x Done
  still-in_turn (label ∷ labels) process x spared = still-then x (close_handle x process label) (λ next. closed_in_turn next process labels)
      (still-close x process label (λ all f there of h has is. spared all f there of h has (and_parts (h.process.0 == process.0) (h.label.0 == label.0) is).0))
      (λ less. still-in_turn labels process (apply x (close_handle x process label)) (spared-still x (close_handle x process label) (is_of_process process) less spared))

  pub still-exit : (x : Present) (process : Pid) → Spared x (is_of_process process) → Still x (exit x process)
  unfolding exit
  still-exit x process spared = still-in_turn (labels_of x.handles process) process x spared

  -- ---- where the files of the transaction are kept, or need not be

  -- none of these handles names a file that is open in it
  pub spared-all : (x : Present) (which : Handle → Bool) → name_file_of x id (filter which x.handles) ≡ false → Spared x which
  spared-all x which none all f there of h has is = false_from_ne_true _ (λ same. true≢false (sym of ∙ not-of x id (filter which x.handles) none f there
      (list_any-from (λ (h : Handle). same_object h.object (FileObject f.number)) (filter which x.handles) h (IsIn-kept which x.handles h has is) same)))

  pub spared-any : (x : Present) (which : Handle → Bool) → keeps ≡ false → Spared x which
  spared-any x which any all = absurd (true≢false (sym all ∙ any))
