-- The end of open files keeps sound what undecided transactions own of the files.
use Rattle.std.proofs.Common.{◌≡◌, ℕ, ◌==◌, ◌&&◌, ◌||◌, not, Bool, true, false, is_none, if◌then◌else◌, filter, map, List, [], ◌∷◌, ◌++◌, Option, Some, None, refl, sym, ◌∙◌, ap, subst, inl, inr}
use Rattle.std.proofs.lemmas.Bool.{cases_Bool, eq-eqb, ne_eqb, eqb-true, eqb-false, and_parts, and_from, or_cases, or_left, or_right, or_parts, or_from, not-true, not_from_false, true≢false, false_from_ne_true}
use Rattle.std.proofs.lemmas.List.{append-nil}
use Rattle.std.proofs.lemmas.Option.{none-some, same_Some}
use Rattle.std.specs.List.{list_all, list_any}
use Rattle.std.specs.Prelude.{nat_le}
use Rattle.ktm_base.specs.declared.id.Id.{Id}
use Rattle.ktm_base.specs.declared.id.Label.{Label}
use Rattle.ktm_base.specs.declared.id.Pid.{Pid}
use Rattle.ktm_world.specs.declared.input.PhaseInput.{PhaseInput}
use Rattle.ktm_world.specs.declared.object.Handle.{Handle}
use Rattle.ktm_world.specs.declared.object.Object.{Object}
use Rattle.ktm_world.specs.declared.object.Object.TheVariants.{Transaction as TransactionObject, Manager as ManagerObject, Enlistment as EnlistmentObject, File as FileObject}
use Rattle.ktm_world.specs.declared.object.Transaction.{Transaction}
use Rattle.ktm_world.specs.declared.reply.Reply.TheVariants.{Done}
use Rattle.ktm_world.specs.Changes.{changes_bytes, node_of}
use Rattle.ktm_world.specs.Conflicts.{holds_now, written_by, writes}
use Rattle.ktm_world.specs.Files.{FirstOpen, OpenFile, OwnChanges, own_changes, is_last_version, tree_seen, tree_of}
use Rattle.ktm_world.specs.HandleCalls.{is_handle, without_handle, same_object, has_handle, closed_file, abort_active, last_handle_gone, handle_gone, close_handle, labels_of, closed_in_turn, exit}
use Rattle.ktm_world.specs.Handles.{object_at}
use Rattle.ktm_world.specs.Holds.{is_in, meet_in}
use Rattle.ktm_world.specs.Lawful.{are_apart, is_alone, is_touched_by, others_undecided, undecided}
use Rattle.ktm_world.specs.Outcome.{Outcome, apply, only_reply, joined, and_then}
use Rattle.ktm_world.specs.Present.{Present}
use Rattle.ktm_world.specs.TransactionCalls.{aborted_by}
use Rattle.ktm_world.specs.Transactions.{is_active, is_of, transaction_at}
use Rattle.ktm_world.specs.Tree.{is_file}
use Rattle.txf_laws.specs.Elements.{IsIn, each_pair}
use Rattle.txf_laws.specs.Footprint.{ListsLaw}
use Rattle.txf_laws.specs.Formed.{FormedLaw}
use Rattle.txf_laws.specs.SoundFiles.{IsSoundFiles, is_undecided_in, opens_rise, made_or_opened, is_change_of_opened, has_dropped, is_open_last, is_plain_well, is_own_well, may_use, files_apart, all_files_apart, opens_no_directory, is_gone}
use Rattle.txf_laws.proofs.offered.Reservations.{named}
use Rattle.ktm_owned.proofs.offered.OwnedAfterCourses.{Goes, only_reply-goes, and_then-goes, either-goes, course-goes}
use Rattle.txf_laws.proofs.offered.Diamonds.{IsIn-map, IsIn-right, no_test, none-from}
use Rattle.txf_laws.proofs.offered.Elements.{IsIn-filter, IsIn-kept, list_all-at, list_all-from, list_any-at, list_any-from, each_pair-filter, filter-true}
use Rattle.txf_laws.proofs.offered.Lists.{IsIn-left, IsIn-cases, IsIn-unmap}
use Rattle.txf_laws.proofs.offered.CommitsOfOthers.{list_all-left}
use Rattle.ktm_owned.proofs.offered.EndedTransactions.{AreInOrder, is_created_before, is_labelled_apart, transaction_at-in}

-- open files have ended
pub record Closes (x y : Present) (keep : OpenFile → Bool) : Type 0 where
  pub files : y.files ≡ record x.files { table = record x.files.table { opens = filter keep x.files.table.opens } }
  pub boots : y.recorded.boots ≡ x.recorded.boots
  pub handles : (o : OpenFile) → IsIn o x.files.table.opens → keep o ≡ true → has_handle y.handles (FileObject o.number) ≡ true
  pub items : y.transactions.items ≡ x.transactions.items

module _ (x y : Present) (keep : OpenFile → Bool) (sound : IsSoundFiles x) (step : Closes x y keep) where
  abbrev z : Present
  z = record y { files = record x.files { table = record x.files.table { opens = filter keep x.files.table.opens } } }

  fewer : (id : Id) (n : ℕ) → IsIn n (holds_now z.files id).nodes → IsIn n (holds_now x.files id).nodes
  fewer id n there = elim (IsIn-cases n (map node_of (own_changes x.files.table.own id)) (written_by z.files.table.opens id) there) [
    | inl mine ↦ IsIn-left n (map node_of (own_changes x.files.table.own id)) _ mine
    | inr open' ↦
        let o = IsIn-unmap (λ (o : OpenFile). o.node) n (filter (λ o. is_of id o.transaction && writes o.access) z.files.table.opens) open' in
        let kept = IsIn-filter (λ o. is_of id o.transaction && writes o.access) z.files.table.opens o.0 o.2 in
        IsIn-right n (map node_of (own_changes x.files.table.own id)) (written_by x.files.table.opens id)
        (subst (λ m. IsIn m (written_by x.files.table.opens id)) o.1 (IsIn-map (λ (o : OpenFile). o.node) o.0 (filter (λ o. is_of id o.transaction && writes o.access) x.files.table.opens)
        (IsIn-kept (λ o. is_of id o.transaction && writes o.access) x.files.table.opens o.0 (IsIn-filter keep x.files.table.opens o.0 kept.0).0 kept.1)))
  ]

  not-held : (id : Id) (n : ℕ) → is_in (holds_now x.files id).nodes n ≡ false → is_in (holds_now z.files id).nodes n ≡ false
  not-held id n free = none-from (λ m. m == n) (holds_now z.files id).nodes (λ m there. no_test (λ m. m == n) m (holds_now x.files id).nodes free (fewer id m there))

  still-apart : (a b : Id) → are_apart (holds_now x.files a) (holds_now x.files b) ≡ true → are_apart (holds_now z.files a) (holds_now z.files b) ≡ true
  still-apart a b apart =
      let d = and_parts _ (not ((holds_now x.files a).moves && (holds_now x.files b).moves)) apart in
      let c = and_parts _ (not (meet_in (holds_now x.files a).dropped (holds_now x.files b).uses)) d.0 in
      let n = and_parts (not (meet_in (holds_now x.files a).nodes (holds_now x.files b).nodes)) _ c.0 in
      and_from _ _ (and_from _ _ (and_from _ _ (not_from_false _ (none-from (is_in (holds_now z.files b).nodes) (holds_now z.files a).nodes (λ k there.
      not-held b k (no_test (is_in (holds_now x.files b).nodes) k (holds_now x.files a).nodes (not-true _ n.0) (fewer a k there))))) n.1) c.1) d.1

  open-kept : (o : OpenFile) → IsIn o z.files.table.opens → IsIn o x.files.table.opens × (keep o ≡ true)
  open-kept o there = IsIn-filter keep x.files.table.opens o there

  stays : (id : Id) → is_undecided_in x.transactions.items id ≡ true → is_undecided_in z.transactions.items id ≡ true
  stays id was = subst (λ ts. is_undecided_in ts id ≡ true) (sym step.items) was

  last-still : (o : FirstOpen) → is_open_last x.files o ≡ true → is_open_last z.files o ≡ true
  last-still o was = elim (or_cases (not (is_in (holds_now x.files o.transaction).nodes o.file)) (is_last_version x.files o) was) [
    | inl free ↦ or_left _ _ (not_from_false _ (not-held o.transaction o.file (not-true _ free)))
    | inr last ↦ or_right _ _ last
  ]

  own-still : (o : OpenFile) → (t : Option Id) → may_use x o t ≡ true → may_use z o t ≡ true
  own-still o None well = refl
  own-still o (Some id) well =
      let e = and_parts _ (not (writes o.access) || is_file (tree_seen x.files (Some id)) o.node) well in
      let d = and_parts _ (not (has_dropped (own_changes x.files.table.own id) o.node)) e.0 in
      let c = and_parts _ (made_or_opened x.files id o.node) d.0 in
      let b = and_parts (is_undecided_in x.transactions.items id) (id.boot == x.recorded.boots) c.0 in
      and_from _ _ (and_from _ _ (and_from _ _ (and_from _ _ (stays id b.0) (ap (λ n. id.boot == n) step.boots ∙ b.1)) c.1) d.1) e.1

  alone-still : (o : OpenFile) → IsIn o x.files.table.opens → is_alone z o ≡ true
  alone-still o there = elim (or_cases (not (is_none o.transaction && writes o.access)) _ (list_all-at (is_alone x) x.files.table.opens sound.writers o there)) [
    | inl none ↦ or_left _ _ none
    | inr free ↦ or_right _ _ (not_from_false _ (none-from (is_touched_by z o.node) (undecided z) (λ u there'.
        let parts = or_parts (is_in (holds_now x.files u.id).nodes o.node) (list_any (λ (p : OpenFile). is_of u.id p.transaction && p.node == o.node) x.files.table.opens)
        (no_test (is_touched_by x o.node) u (undecided x) (not-true _ free) (subst (λ ts. IsIn u (others_undecided ts None)) step.items there')) in
        or_from _ _ (not-held u.id o.node parts.0)
        (none-from (λ (p : OpenFile). is_of u.id p.transaction && p.node == o.node) z.files.table.opens (λ p has. no_test (λ (p : OpenFile). is_of u.id p.transaction && p.node == o.node) p x.files.table.opens parts.1 (open-kept p has).0)))))
  ]

  apart-still : all_files_apart z ≡ true
  apart-still = list_all-from _ (undecided z) (λ t there. list_all-from (files_apart z t) (others_undecided z.transactions.items (Some t.id)) (λ u there'.
      let there'' : IsIn u (others_undecided x.transactions.items (Some t.id)) = subst (λ ts. IsIn u (others_undecided ts (Some t.id))) step.items there' in
      still-apart t.id u.id (list_all-at (files_apart x t) (others_undecided x.transactions.items (Some t.id))
      (list_all-at (λ (v : Transaction). list_all (files_apart x v) (others_undecided x.transactions.items (Some v.id))) (undecided x) sound.apart t (subst (λ ts. IsIn t (others_undecided ts None)) step.items there)) u there'')))

  still-sound : IsSoundFiles z
  still-sound = record {
    own_undecided = list_all-from _ x.files.table.own (λ o there. stays o.transaction (list_all-at (λ (p : OwnChanges). is_undecided_in x.transactions.items p.transaction) x.files.table.own sound.own_undecided o there));
    own_once = sound.own_once;
    own_some = sound.own_some;
    own_final = sound.own_final;
    own_apply = sound.own_apply;
    own_opened = list_all-from _ x.files.table.own (λ o there. list_all-from (is_change_of_opened z o.transaction) o.changes (λ c has.
        ap (λ b. not (changes_bytes c) || not (o.transaction.boot == b) || made_or_opened x.files o.transaction (node_of c)) step.boots
        ∙ list_all-at (is_change_of_opened x o.transaction) o.changes (list_all-at (λ (p : OwnChanges). list_all (is_change_of_opened x p.transaction) p.changes) x.files.table.own sound.own_opened o there) c has));
    own_puts = sound.own_puts;
    own_drawn = sound.own_drawn;
    own_new = sound.own_new;
    own_differ = sound.own_differ;
    own_gone = list_all-from _ x.files.table.own (λ o there. ap (λ b. not (o.transaction.boot == b) || list_all (is_gone (tree_of x.files o.transaction)) o.changes) step.boots
        ∙ list_all-at (λ (p : OwnChanges). not (p.transaction.boot == x.recorded.boots) || list_all (is_gone (tree_of x.files p.transaction)) p.changes) x.files.table.own sound.own_gone o there);
    first_once = sound.first_once;
    first_undecided = list_all-from _ x.files.first_opens (λ o there.
        let parts = and_parts (is_undecided_in x.transactions.items o.transaction) (o.transaction.boot == x.recorded.boots)
        (list_all-at (λ (p : FirstOpen). is_undecided_in x.transactions.items p.transaction && p.transaction.boot == x.recorded.boots) x.files.first_opens sound.first_undecided o there) in
        and_from _ _ (stays o.transaction parts.0) (ap (λ n. o.transaction.boot == n) step.boots ∙ parts.1));
    first_not_made = sound.first_not_made;
    first_drawn = sound.first_drawn;
    first_versions = sound.first_versions;
    first_bytes = sound.first_bytes;
    first_last = list_all-from _ x.files.first_opens (λ o there. last-still o (list_all-at (is_open_last x.files) x.files.first_opens sound.first_last o there));
    first_files = sound.first_files;
    opens_files = list_all-left (λ o. opens_no_directory x.files o.node o.transaction) keep x.files.table.opens sound.opens_files;
    formed = sound.formed;
    tree_drawn = sound.tree_drawn;
    next_from = sound.next_from;
    next_to = sound.next_to;
    versions_rise = sound.versions_rise;
    versions_there = sound.versions_there;
    opens_rise = each_pair-filter opens_rise keep x.files.table.opens sound.opens_rise;
    opens_drawn = list_all-left (λ o. nat_le 1 o.number && nat_le o.number x.files.table.last_open) keep x.files.table.opens sound.opens_drawn;
    opens_named = list_all-from _ z.files.table.opens (λ o there. let kept = open-kept o there in step.handles o kept.0 kept.1);
    opens_plain = list_all-left (is_plain_well x.files) keep x.files.table.opens sound.opens_plain;
    opens_own = list_all-from _ z.files.table.opens (λ o there. own-still o o.transaction (list_all-at (is_own_well x) x.files.table.opens sound.opens_own o (open-kept o there).0));
    apart = apart-still;
    writers = list_all-from _ z.files.table.opens (λ o there. alone-still o (open-kept o there).0);
  }

  pub closed-sound : IsSoundFiles y
  closed-sound = subst IsSoundFiles (λ i. record y { files = (sym step.files) i }) still-sound

-- ---- handles

-- a label that is bound to one object is bound to no other
pub bound-object : (hs : List Handle) (process : Pid) (label : Label) (object : Object) → each_pair is_labelled_apart hs ≡ true → object_at hs process label ≡ Some object
    → (h : Handle) → IsIn h hs → is_handle process label h ≡ true → h.object ≡ object
bound-object [] process label object differ bound h there is = absurd there
bound-object (g ∷ gs) process label object differ bound h there is =
    let parts = and_parts (list_all (is_labelled_apart g) gs) (each_pair is_labelled_apart gs) differ in
    elim (cases_Bool (is_handle process label g)) [
      | inl here ↦
          let e : g.object ≡ object = same_Some g.object object (rw here at bound) in
          elim there [
            | inl same ↦ ap (λ (k : Handle). k.object) (sym same) ∙ e
            | inr later ↦
                let ids = and_parts (g.process.0 == process.0) (g.label.0 == label.0) here in
                let ids' = and_parts (h.process.0 == process.0) (h.label.0 == label.0) is in
                absurd (true≢false (sym (and_from _ _ (eq-eqb _ _ (eqb-true _ _ ids'.0 ∙ sym (eqb-true _ _ ids.0))) (eq-eqb _ _ (eqb-true _ _ ids'.1 ∙ sym (eqb-true _ _ ids.1))))
                ∙ not-true _ (list_all-at (is_labelled_apart g) gs parts.0 h later)))
          ]
      | inr other ↦ elim there [
        | inl same ↦ absurd (true≢false (sym is ∙ ap (is_handle process label) (sym same) ∙ other))
        | inr later ↦ bound-object gs process label object parts.1 (rw other at bound) h later is
      ]
    ]

pub unbound : (hs : List Handle) (process : Pid) (label : Label) → object_at hs process label ≡ None → (h : Handle) → IsIn h hs → is_handle process label h ≡ false
unbound [] process label none h there = absurd there
unbound (g ∷ gs) process label none h there = elim (cases_Bool (is_handle process label g)) [
  | inl here ↦ absurd (none-some g.object (sym (rw here at none)))
  | inr other ↦ elim there [ inl same ↦ ap (is_handle process label) (sym same) ∙ other | inr later ↦ unbound gs process label (rw other at none) h later ]
]

-- an object of which no handle is taken has the handles that it had
still-named : (hs : List Handle) (process : Pid) (label : Label) (other : Object) → ((h : Handle) → IsIn h hs → is_handle process label h ≡ true → same_object h.object other ≡ false) → has_handle hs other ≡ true
    → has_handle (without_handle hs process label) other ≡ true
still-named hs process label other apart has =
    let found = list_any-at (λ (h : Handle). same_object h.object other) hs has in
    list_any-from (λ (h : Handle). same_object h.object other) (without_handle hs process label) found.0
    (IsIn-kept (λ h. not (is_handle process label h)) hs found.0 found.1 (not_from_false _ (false_from_ne_true _ (λ taken. true≢false (sym found.2 ∙ apart found.0 found.1 taken))))) found.2

-- ---- CloseHandle and exit

module _ (lists : ListsLaw) (formed : FormedLaw) where
  abbrev pub unbinding : Present → Pid → Label → Outcome
  unbinding x process label = record (only_reply x Done) { handles = without_handle x.handles process label }

  order-unbound : (x y : Present) (process : Pid) (label : Label) → y.transactions.items ≡ x.transactions.items → y.handles ≡ without_handle x.handles process label → AreInOrder x → AreInOrder y
  order-unbound x y process label items handles order = record {
    transactions_rise = subst (λ ts. each_pair is_created_before ts ≡ true) (sym items) order.transactions_rise;
    labels_differ = subst (λ hs. each_pair is_labelled_apart hs ≡ true) (sym handles) (each_pair-filter is_labelled_apart (λ h. not (is_handle process label h)) x.handles order.labels_differ);
  }

  -- the label of an object that is no file is unbound
  pub unbinding-goes : (x : Present) (process : Pid) (label : Label) → (AreInOrder x → (n : ℕ) (h : Handle) → IsIn h x.handles → is_handle process label h ≡ true → same_object h.object (FileObject n) ≡ false)
      → Goes lists formed x (unbinding x process label)
  unbinding-goes x process label apart = record {
    opens = refl;
    keeps = λ order sound. (
      order-unbound x (apply x (unbinding x process label)) process label refl refl order,
      closed-sound x (apply x (unbinding x process label)) (λ o. true) sound (record {
        files = λ i. record x.files { first_opens = first-same x i; table = record x.files.table { opens = sym (filter-true x.files.table.opens) i } };
        boots = refl;
        handles = λ o there kept. still-named x.handles process label (FileObject o.number) (apart order o.number) (named x sound o there);
        items = refl;
      }),
    );
  }
    where
      first-same : (x : Present) → filter (λ (f : FirstOpen). true) (x.files.first_opens ++ []) ≡ x.files.first_opens
      first-same x = filter-true (x.files.first_opens ++ []) ∙ append-nil x.files.first_opens

  pub abort_active-goes : (y : Present) (id : Id) → Goes lists formed y (abort_active y (transaction_at y.transactions.items id))
  abort_active-goes y id = go (transaction_at y.transactions.items id) refl
    where
      go : (t : Option Transaction) → transaction_at y.transactions.items id ≡ t → Goes lists formed y (abort_active y t)
      go None found = only_reply-goes lists formed y Done
      go (Some t) found =
          either-goes lists formed y (is_active t) (aborted_by y t None Done) (only_reply y Done)
          (course-goes lists formed y t None PhaseInput.Rollback (λ c. Done) (transaction_at-in y.transactions.items id t found)) (only_reply-goes lists formed y Done)

  -- the last handle of a transaction, a resource manager or an enlistment is gone
  pub gone-goes : (y : Present) (object : Object) → Goes lists formed y (last_handle_gone y object) → Goes lists formed y (handle_gone (Some object) y)
  gone-goes y object last = either-goes lists formed y (has_handle y.handles object) (only_reply y Done) (last_handle_gone y object) (only_reply-goes lists formed y Done) last

  -- the handle of a file is closed, and the file ends where it was the last one
  pub file-goes : (x : Present) (process : Pid) (label : Label) (n : ℕ) → object_at x.handles process label ≡ Some (FileObject n) → Goes lists formed x (and_then x (unbinding x process label) (handle_gone (Some (FileObject n))))
  file-goes x process label n bound = go (has_handle (without_handle x.handles process label) (FileObject n)) refl
    where
      x1 : Present
      x1 = apply x (unbinding x process label)

      first-same : filter (λ (f : FirstOpen). true) (x.files.first_opens ++ []) ≡ x.files.first_opens
      first-same = filter-true (x.files.first_opens ++ []) ∙ append-nil x.files.first_opens

      others-named : AreInOrder x → IsSoundFiles x → (o : OpenFile) → IsIn o x.files.table.opens → (n == o.number) ≡ false → has_handle (without_handle x.handles process label) (FileObject o.number) ≡ true
      others-named order sound o there other = still-named x.handles process label (FileObject o.number) (λ h has is.
          subst (λ k. same_object k (FileObject o.number) ≡ false) (sym (bound-object x.handles process label (FileObject n) order.labels_differ bound h has is)) other) (named x sound o there)

      go : (b : Bool) → has_handle (without_handle x.handles process label) (FileObject n) ≡ b
          → Goes lists formed x (joined (unbinding x process label) (if b then only_reply x1 Done else record (only_reply x1 Done) { table = closed_file x1.files.table n }))
      go true has = record {
        opens = refl;
        keeps = λ order sound. (
          order-unbound x _ process label refl refl order,
          closed-sound x _ (λ o. true) sound (record {
            files = λ i. record x.files { first_opens = first-same i; table = record x.files.table { opens = sym (filter-true x.files.table.opens) i } };
            boots = refl;
            handles = λ o there kept. elim (cases_Bool (n == o.number)) [
              | inl same ↦ subst (λ k. has_handle (without_handle x.handles process label) (FileObject k) ≡ true) (eqb-true _ _ same) has
              | inr other ↦ others-named order sound o there other
            ];
            items = refl;
          }),
        );
      }
      go false none = record {
        opens = refl;
        keeps = λ order sound. (
          order-unbound x _ process label refl refl order,
          closed-sound x _ (λ o. not (o.number == n)) sound (record {
            files = λ i. record x.files { first_opens = first-same i; table = closed_file x.files.table n };
            boots = refl;
            handles = λ o there kept. others-named order sound o there (ne_eqb n o.number (λ e. eqb-false o.number n (not-true _ kept) (sym e)));
            items = refl;
          }),
        );
      }

  pub close_handle-goes : (x : Present) (process : Pid) (label : Label) → Goes lists formed x (close_handle x process label)
  unfolding close_handle
  close_handle-goes x process label = go (object_at x.handles process label) refl
    where
      go : (o : Option Object) → object_at x.handles process label ≡ o → Goes lists formed x (and_then x (unbinding x process label) (handle_gone o))
      go None none = and_then-goes lists formed x (unbinding x process label) (handle_gone None)
          (unbinding-goes x process label (λ order n h there is. absurd (true≢false (sym is ∙ unbound x.handles process label none h there)))) (λ y. only_reply-goes lists formed y Done)
      go (Some (TransactionObject id)) bound = and_then-goes lists formed x (unbinding x process label) (handle_gone (Some (TransactionObject id)))
          (unbinding-goes x process label (λ order n h there is. subst (λ k. same_object k (FileObject n) ≡ false) (sym (bound-object x.handles process label (TransactionObject id) order.labels_differ bound h there is)) refl))
          (λ y. gone-goes y (TransactionObject id) (abort_active-goes y id))
      go (Some (ManagerObject id)) bound = and_then-goes lists formed x (unbinding x process label) (handle_gone (Some (ManagerObject id)))
          (unbinding-goes x process label (λ order n h there is. subst (λ k. same_object k (FileObject n) ≡ false) (sym (bound-object x.handles process label (ManagerObject id) order.labels_differ bound h there is)) refl))
          (λ y. gone-goes y (ManagerObject id) (only_reply-goes lists formed y Done))
      go (Some (EnlistmentObject id)) bound = and_then-goes lists formed x (unbinding x process label) (handle_gone (Some (EnlistmentObject id)))
          (unbinding-goes x process label (λ order n h there is. subst (λ k. same_object k (FileObject n) ≡ false) (sym (bound-object x.handles process label (EnlistmentObject id) order.labels_differ bound h there is)) refl))
          (λ y. gone-goes y (EnlistmentObject id) (only_reply-goes lists formed y Done))
      go (Some (FileObject n)) bound = file-goes x process label n bound

  closed_in_turn-goes : (labels : List Label) (process : Pid) (x : Present) → Goes lists formed x (closed_in_turn x process labels)
  closed_in_turn-goes [] process x = only_reply-goes lists formed x Done
  closed_in_turn-goes (label ∷ labels) process x =
      and_then-goes lists formed x (close_handle x process label) (λ next. closed_in_turn next process labels) (close_handle-goes x process label) (closed_in_turn-goes labels process)

  pub exit-goes : (x : Present) (process : Pid) → Goes lists formed x (exit x process)
  unfolding exit
  exit-goes x process = closed_in_turn-goes (labels_of x.handles process) process x
