-- The committed keys stay texts by settings of texts, and a transaction on its way commits what it has set.
use Rattle.std.proofs.Common.{ℕ, List, [], ◌∷◌, Option, Some, None, inl, inr, ◌||◌}
use Rattle.std.proofs.lemmas.Bool.{cases_Bool}
use Rattle.std.proofs.lemmas.List.Elements.{All-from_recursion, recursion_from_All}
use Rattle.std.specs.List.{AllByRecursion, list_any}
use Rattle.std.specs.Str.{bytes_eq}
use Rattle.ktm_keyed.specs.declared.keyed.Keyed.{Keyed}
use Rattle.ktm_keyed.specs.Keyed.{without}
use Rattle.ktm_keyed.proofs.KeyedLemmas.{AllByRecursion-put}
use Rattle.ktm_world.specs.declared.input.PhaseInput.{PhaseInput}
use Rattle.ktm_world.specs.declared.step.Step.{Step}
use Rattle.ktm_world.specs.Values.{IsText}
use Rattle.ktm_world.specs.Changes.{has_changes}
use Rattle.ktm_world.specs.Committed.{Committed, Work, committed_with, with_work}
use Rattle.ktm_world.specs.Enlistments.{Enlistment, is_unfinished}
use Rattle.ktm_world.specs.Keys.{OwnSettings, Store, stored, stored_all}
use Rattle.ktm_world.specs.Phases.{Course, ended, has_settings, work_of}
use Rattle.ktm_world.specs.Rows.{row}
use Rattle.ktm_world.specs.Steps.{answered, carried, changing, led, run, seen}
use Rattle.ktm_steps.proofs.offered.Recorded.{all-append}
use Rattle.ktm_steps.proofs.offered.Ways.{if_cases}
use Rattle.ktm_records.specs.Spelling.{AreTextKeys, HaveTextKeys}

-- ---- the store

-- is the key of an entry a text
abbrev HasTextKey : Keyed (List ℕ) → Type 0
HasTextKey entry = IsText entry.key

-- each entry of a store has a text as key
abbrev Texts : Store → Type 0
Texts store = AllByRecursion HasTextKey store

texts-without : (store : Store) (key : List ℕ) → Texts store → Texts (without store key)
texts-without [] key all = tt
texts-without (entry ∷ store) key all = elim (cases_Bool (bytes_eq entry.key key)) [
  | inl same ↦ rw same all.1
  | inr other ↦ rw other (all.0, texts-without store key all.1)
]

texts-stored : (store : Store) (key : List ℕ) (value : Option (List ℕ)) → IsText key → Texts store → Texts (stored store (record { key = key; value = value }))
texts-stored store key (Some value) text all = AllByRecursion-put HasTextKey key value text store all
texts-stored store key None text all = texts-without store key all

texts-stored_each : (store : Store) (settings : OwnSettings) → Texts store → AllByRecursion (λ (s : Keyed (Option (List ℕ))). IsText s.key) settings → Texts (stored_all store settings)
texts-stored_each store [] all set = all
texts-stored_each store (s ∷ ss) all set = texts-stored_each (stored store s) ss (texts-stored store s.key s.value set.0 all) set.1

-- settings of texts leave the committed keys texts
pub texts-stored_all : (store : Store) (settings : OwnSettings) → AreTextKeys store → HaveTextKeys settings → AreTextKeys (stored_all store settings)
texts-stored_all store settings all set = All-from_recursion HasTextKey _ (texts-stored_each store settings (recursion_from_All HasTextKey store all) (recursion_from_All _ settings set))

-- ---- works

-- each work has texts as keys
abbrev pub TextWorks : List Work → Type 0
TextWorks works = AllByRecursion (λ (w : Work). HaveTextKeys w.settings) works

-- works of texts leave the committed keys texts
pub texts-committed : (c : Committed) (works : List Work) → AreTextKeys c.store → TextWorks works → AreTextKeys (committed_with c works).store
texts-committed c [] all texts = all
texts-committed c (w ∷ ws) all texts = texts-committed (with_work c w) ws (texts-stored_all c.store w.settings all texts.0) texts.1

-- ---- a transaction on its way

-- what it has set, and what it commits, has texts as keys
abbrev TextCourse : Course → Type 0
TextCourse c = HaveTextKeys c.settings × TextWorks c.works

texts-work : (c : Course) → HaveTextKeys c.settings → TextWorks (work_of c)
texts-work c texts = if_cases TextWorks (has_changes c.changes || has_settings c.settings) _ [] (λ some. (texts, tt)) (λ none. tt)

texts-changing : (c : Course) (e : Option Enlistment) (f : Enlistment → Enlistment) → TextCourse c → TextCourse (changing c e f)
texts-changing c None f texts = texts
texts-changing c (Some e) f texts = texts

texts-run : (steps : List Step) (c : Course) → TextCourse c → TextWorks (run steps c).works
unfolding ended
texts-run [] c texts = texts.1
texts-run (Step.Commit ∷ steps) c texts = texts-run steps (carried Step.Commit c) (texts.0, all-append (λ (w : Work). HaveTextKeys w.settings) c.works (work_of c) texts.1 (texts-work c texts.0))
texts-run (Step.Change answer ∷ steps) c texts = texts-run steps (carried (Step.Change answer) c) (texts-changing c c.caller (answered answer) texts)
texts-run (Step.EndWhereFinished outcome ∷ steps) c texts = if_cases (λ d. TextWorks (run steps d).works) (list_any (is_unfinished c.transaction.id) c.enlistments) c (ended c outcome)
    (λ some. texts-run steps c texts) (λ none. texts-run steps (ended c outcome) texts)
texts-run (step ∷ steps) c texts = texts-run steps (carried step c) texts

-- where a row leads a transaction it commits texts
pub texts-led : (input : PhaseInput) (c : Course) → HaveTextKeys c.settings → TextWorks c.works → TextWorks (led input c).works
unfolding led
texts-led input c texts works = texts-run (row (seen c) input) c (texts, works)
