-- Calls on files and keys leave transactions, resource managers and enlistments as they are.
use Rattle.std.proofs.Common.{◌≡◌, ℕ, not, Bool, true, false, List, [], ◌∷◌, ◌++◌, Option, Some, None, refl, sym, ◌∙◌, ap, inl, inr}
use Rattle.std.specs.Prelude.{option_and_then}
use Rattle.std.proofs.lemmas.Bool.{cases_Bool, true≢false, false_from_ne_true}
use Rattle.std.proofs.lemmas.Option.{none-some, same_Some}
use Rattle.txf_laws.specs.Grammatical.{names_objects}
use Rattle.std.specs.List.{list_all}
use Rattle.ktm_base.specs.declared.id.Id.{Id}
use Rattle.ktm_base.specs.declared.id.Label.{Label}
use Rattle.ktm_base.specs.declared.id.Pid.{Pid}
use Rattle.ktm_base.specs.declared.refusal.Refusal.{Refusal}
use Rattle.ktm_world.specs.declared.change.Change.{Change}
use Rattle.ktm_world.specs.declared.event.Event.TheVariants.{Plain}
use Rattle.ktm_world.specs.declared.object.Object.TheVariants.{File as FileObject}
use Rattle.ktm_world.specs.declared.object.Phase.{Phase}
use Rattle.ktm_world.specs.declared.object.Phase.TheVariants.{Active}
use Rattle.ktm_world.specs.declared.object.Transaction.{Transaction}
use Rattle.ktm_world.specs.declared.reply.Reply.TheVariants.{Done}
use Rattle.ktm_world.specs.Decide.{caller, of_keys, events_of, of_files, bound_file, opening, on_file, on_file_tests, own_tests, transacted}
use Rattle.ktm_world.specs.FileCalls.{write_file_tests, write_units_tests}
use Rattle.ktm_world.specs.FileOutcome.{FileOutcome, own_after, table_after}
use Rattle.ktm_world.specs.Files.{FilesNow, OwnChanges, OpenFile, own_changes, with_own_changes, changes_with}
use Rattle.ktm_world.specs.KeyCalls.{KeyOutcome, with_setting}
use Rattle.ktm_world.specs.Keys.{Own, own_settings, with_own}
use Rattle.ktm_world.specs.Labels.{holds_of, transaction_named, file_named, file_tests, id_of_named, is_bound, is_suspended, transaction_of, transaction_tests}
use Rattle.ktm_world.specs.Present.{Present}
use Rattle.ktm_world.specs.Transactions.{same_id, transaction_at, is_active}
use Rattle.ktm_world.specs.Phases.{is_single_phase}
use Rattle.ktm_world.specs.Uses.{file_room}
use Rattle.txf_laws.specs.Elements.{IsIn}
use Rattle.ktm_courses.specs.SoundCourse.{IsSoundCourse}
use Rattle.txf_laws.proofs.offered.Tables.{same_id-equal, same_id-from}
use Rattle.ktm_courses.proofs.offered.Moves.{same-by_id, NoBoots, NoBoots-none, NoBoots-one}
use Rattle.ktm_courses.proofs.offered.Outcomes.{stay-refl}
use Rattle.ktm_courses.proofs.offered.OutcomesMade.{IsSoundOutcome, sound-only_reply, sound-own}
use Rattle.txf_laws.proofs.offered.Elements.{not-not}
use Rattle.ktm_courses.proofs.offered.Calls.{Passes, passed, transaction-named, transaction_at-found, active-phase}
use Rattle.ktm_courses.proofs.offered.Bindings.{sound-binding}

-- ---- who makes the call

-- a call in a transaction is made in one that is active
pub record IsActiveCaller (x : Present) (who : Option Id) : Type 0 where
  pub active : (id : Id) → who ≡ Some id → (t : Transaction) → IsIn t (x.transactions).items → t.id ≡ id → t.phase ≡ Active

pub plain-caller : (x : Present) → IsActiveCaller x None
plain-caller x = record { active = λ id is. absurd (none-some id is) }

-- what another transaction changed stays
own_changes-with : (own : List OwnChanges) (id other : Id) (changes : List Change) → (id ≡ other → ⊥) → own_changes (with_own_changes own id changes) other ≡ own_changes own other
own_changes-with [] id other changes differs = rw (false_from_ne_true (same_id id other) (λ same. differs (same_id-equal id other same))) refl
own_changes-with (o ∷ os) id other changes differs = elim (cases_Bool (same_id o.transaction id)) [
  | inl same ↦
      let elsewhere : same_id o.transaction other ≡ false = false_from_ne_true _ (λ same'. differs (sym (same_id-equal o.transaction id same) ∙ same_id-equal o.transaction other same')) in
      rw (same, elsewhere) refl
  | inr far ↦ elim (cases_Bool (same_id o.transaction other)) [
    | inl here ↦ rw (far, here) refl
    | inr away ↦ rw (far, away) (own_changes-with os id other changes differs)
  ]
]

own_settings-with : (own : List Own) (id other : Id) (key : List ℕ) (value : Option (List ℕ)) → (id ≡ other → ⊥) → own_settings (with_own own id key value) other ≡ own_settings own other
own_settings-with [] id other key value differs = rw (false_from_ne_true (same_id id other) (λ same. differs (same_id-equal id other same))) refl
own_settings-with (o ∷ os) id other key value differs = elim (cases_Bool (same_id o.transaction id)) [
  | inl same ↦
      let elsewhere : same_id o.transaction other ≡ false = false_from_ne_true _ (λ same'. differs (sym (same_id-equal o.transaction id same) ∙ same_id-equal o.transaction other same')) in
      rw (same, elsewhere) refl
  | inr far ↦ elim (cases_Bool (same_id o.transaction other)) [
    | inl here ↦ rw (far, here) refl
    | inr away ↦ rw (far, away) (own_settings-with os id other key value differs)
  ]
]

-- an active transaction is not one that an enlistment commits alone
single-active : (phase : Phase) → is_single_phase phase ≡ true → phase ≡ Active → ⊥
single-active phase one is = true≢false (sym one ∙ ap is_single_phase is)

pub own-after-same : (x : Present) (who : Option Id) (change : Option Change) → IsActiveCaller x who → (t : Transaction) → IsIn t (x.transactions).items → (t.phase ≡ Active → ⊥)
    → own_changes (own_after x.files who change) t.id ≡ own_changes ((x.files).table).own t.id
own-after-same x None change who t there other = refl
own-after-same x (Some id) None who t there other = refl
own-after-same x (Some id) (Some change) who t there other =
    own_changes-with ((x.files).table).own id t.id (changes_with x.files id change) (λ same. other (who.active id refl t there (sym same)))

pub with_setting-same : (x : Present) (who : Option Id) (key : List ℕ) (value : Option (List ℕ)) → IsActiveCaller x who → (t : Transaction) → IsIn t (x.transactions).items → (t.phase ≡ Active → ⊥)
    → own_settings (with_setting (x.keys).own who key value) t.id ≡ own_settings (x.keys).own t.id
with_setting-same x None key value who t there other = refl
with_setting-same x (Some id) key value who t there other = own_settings-with (x.keys).own id t.id key value (λ same. other (who.active id refl t there (sym same)))

-- ---- files

events-plain : (who : Option Id) (change : Option Change) → NoBoots (events_of who change)
events-plain None None = NoBoots-none
events-plain None (Some change) = NoBoots-one (Plain change) refl
events-plain (Some id) change = NoBoots-none

objects-plain : (who : Option Id) (change : Option Change) → list_all names_objects (events_of who change) ≡ true
objects-plain None None = refl
objects-plain None (Some change) = refl
objects-plain (Some id) change = refl

-- a file that is opened changes nothing of what transactions own
pub table-own : (files : FilesNow) (who : Option Id) (o : FileOutcome) → (table_after files who o).own ≡ own_after files who o.change
table-own files who o = go o.opened
  where
    go : (opened : Option OpenFile) → (table_after files who (record o { opened = opened })).own ≡ own_after files who o.change
    go None = refl
    go (Some file) = refl

pub sound-of_files : (x : Present) (who : Option Id) (o : FileOutcome) → IsSoundCourse x → IsActiveCaller x who → IsSoundOutcome x (of_files x who o)
sound-of_files x who o sound is = record {
  settled = sound-own x (table_after x.files who o) (x.keys).own sound (λ t there one.
      (ap (λ own. own_changes own t.id) (table-own x.files who o) ∙ own-after-same x who o.change is t there (single-active t.phase one), refl));
  events = events-plain who o.change;
  made = refl;
  notes = λ s none. absurd none;
  outcomes = stay-refl (x.transactions).items;
  objects = objects-plain who o.change;
}

pub sound-opening : (x : Present) (process : Pid) (label : Label) (who : Option Id) (o : FileOutcome) → IsSoundCourse x → IsActiveCaller x who → is_bound x process label ≡ false → IsSoundOutcome x (opening x process label who o)
sound-opening x process label who o sound is free = go o.opened
  where
    go : (opened : Option OpenFile) → IsSoundOutcome x (bound_file process label opened (of_files x who o))
    go None = sound-of_files x who o sound is
    go (Some file) = sound-binding x process label (FileObject file.number) (of_files x who o) (sound-of_files x who o sound is) free refl

-- the transaction in which a call is made is active
pub caller-active : (x : Present) (process : Pid) (label : Label) (tests : List (Bool × Refusal)) → IsSoundCourse x → Passes (transacted x process label tests) → IsActiveCaller x (caller x process label) × Passes tests
caller-active x process label tests sound passes = go (transaction_named x process label) refl passes
  where
    go : (o : Option Transaction) → transaction_named x process label ≡ o → Passes (transaction_tests o ++ tests) → IsActiveCaller x (id_of_named o) × Passes tests
    go None is passes' = absurd (true≢false (passed passes').0)
    go (Some t) is passes' =
        let here = passed passes' in let committed = passed here.1 in let aborted = passed committed.1 in let active = passed aborted.1 in (
          record {
            active = λ id same u there is_id.
                let one : u ≡ t = same-by_id (λ (v : Transaction). v.id) (x.transactions).items sound.transactions.rise u t there (transaction-named x process label t is) (is_id ∙ sym (same_Some t.id id same)) in
                ap (λ (v : Transaction). v.phase) one ∙ active-phase t (not-not _ active.0);
          },
          active.1,
        )

transaction_at-there : (ts : List Transaction) (t : Transaction) → IsIn t ts → (u : Transaction) × (transaction_at ts t.id ≡ Some u)
transaction_at-there [] t there = absurd there
transaction_at-there (a ∷ ts) t there = elim (cases_Bool (same_id a.id t.id)) [
  | inl same ↦ (a, rw same refl)
  | inr other ↦ elim there [
    | inl e ↦ absurd (true≢false (sym (same_id-from a.id t.id (ap (λ (v : Transaction). v.id) e)) ∙ other))
    | inr later ↦ let rest = transaction_at-there ts t later in (rest.0, rw other rest.1)
  ]
]

-- the transaction of an open file that may be used is active
pub file-active : (x : Present) (process : Pid) (label : Label) (o : OpenFile) → IsSoundCourse x → file_named x process label ≡ Some o → Passes (file_tests x process label) → IsActiveCaller x o.transaction
file-active x process label o sound is passes = record {
  active = λ id owner t there same.
      let free : is_suspended x o ≡ false = ap (holds_of (is_suspended x)) (sym is) ∙ (passed (passed (passed passes).1).1).0 in
      let at = transaction_at-there (x.transactions).items t there in
      let found : transaction_of x o ≡ Some at.0 = ap (option_and_then (transaction_at (x.transactions).items)) owner ∙ ap (transaction_at (x.transactions).items) (sym same) ∙ at.1 in
      let in_items = transaction_at-found (x.transactions).items t.id at.0 at.1 in
      let one : t ≡ at.0 = same-by_id (λ (v : Transaction). v.id) (x.transactions).items sound.transactions.rise t at.0 there in_items.0 (sym in_items.1) in
      ap (λ (v : Transaction). v.phase) one ∙ active-phase at.0 (not-not _ (ap (holds_of (λ t. not (is_active t))) (sym found) ∙ free));
}

-- of tests in a row the first ones
pub passes-left : (a b : List (Bool × Refusal)) → Passes (a ++ b) → Passes a
passes-left [] b passes = record { none = refl }
passes-left (test ∷ a) b passes = let first = passed passes in record { none = rw first.0 ((passes-left a b first.1).none) }

-- of tests in a row the last ones
pub passes-right : (a b : List (Bool × Refusal)) → Passes (a ++ b) → Passes b
passes-right [] b passes = passes
passes-right (test ∷ a) b passes = passes-right a b (passed passes).1

-- what passes the tests of WriteFile passes those of a put of whole units
pub units-pass : (x : Present) (process : Pid) (label : Label) (offset : ℕ) (bytes : List ℕ) → Passes (on_file_tests x process label (λ o. write_file_tests x.files (file_room x) o offset bytes))
    → Passes (on_file_tests x process label (λ o. write_units_tests x.files (file_room x) o offset bytes))
unfolding write_file_tests
units-pass x process label offset bytes passes = go (file_named x process label) (file_tests x process label) passes
  where
    go : (o : Option OpenFile) (tests : List (Bool × Refusal)) → Passes (tests ++ own_tests o (λ o. write_file_tests x.files (file_room x) o offset bytes)) → Passes (tests ++ own_tests o (λ o. write_units_tests x.files (file_room x) o offset bytes))
    go None tests passes' = passes'
    go (Some o) [] passes' = (passed passes').1
    go (Some o) (test ∷ tests) passes' = let first = passed passes' in record { none = rw first.0 ((go (Some o) tests first.1).none) }

pub sound-on_file : (x : Present) (process : Pid) (label : Label) (call : OpenFile → FileOutcome) → IsSoundCourse x → Passes (file_tests x process label)
    → IsSoundOutcome x (on_file x (file_named x process label) call)
sound-on_file x process label call sound passes = go (file_named x process label) refl
  where
    go : (o : Option OpenFile) → file_named x process label ≡ o → IsSoundOutcome x (on_file x o call)
    go None is = sound-only_reply x Done sound
    go (Some o) is = sound-of_files x o.transaction (call o) sound (file-active x process label o sound is passes)

-- ---- keys

pub sound-of_keys : (x : Present) (o : KeyOutcome) → IsSoundCourse x → ((t : Transaction) → IsIn t (x.transactions).items → is_single_phase t.phase ≡ true → own_settings o.own t.id ≡ own_settings (x.keys).own t.id) → IsSoundOutcome x (of_keys x o)
sound-of_keys x o sound same = record {
  settled = sound-own x (x.files).table o.own sound (λ t there one. (refl, same t there one));
  events = NoBoots-none;
  made = refl;
  notes = λ s none. absurd none;
  outcomes = stay-refl (x.transactions).items;
  objects = refl;
}

pub sound-with_setting : (x : Present) (who : Option Id) (key : List ℕ) (value : Option (List ℕ)) → IsSoundCourse x → IsActiveCaller x who → IsSoundOutcome x (of_keys x (record { reply = Done; own = with_setting (x.keys).own who key value }))
sound-with_setting x who key value sound is = sound-of_keys x _ sound (λ t there one. with_setting-same x who key value is t there (single-active t.phase one))
