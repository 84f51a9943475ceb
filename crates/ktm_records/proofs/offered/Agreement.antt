-- What was recorded agrees with what is so now after what changes nothing that the log has of transactions.
use Rattle.std.specs.Prelude.{if◌then◌else◌}
use Rattle.std.proofs.Common.{◌≡◌, ℕ, ◌≤◌, ◌&&◌, not, Bool, true, false, List, [], ◌∷◌, ◌++◌, map, filter, find, Option, Some, None, refl, sym, ◌∙◌, ap, subst, arith, inl, inr, ◌⊎◌}
use Rattle.std.proofs.lemmas.Bool.{cases_Bool, true≢false}
use Rattle.std.proofs.lemmas.List.{append-nil}
use Rattle.std.specs.List.{flat_map}
use Rattle.ktm_base.specs.declared.id.Id.{Id}
use Rattle.ktm_world.specs.declared.change.Change.{Change}
use Rattle.ktm_world.specs.declared.change.Change.TheVariants.{Make, Put, Cut, Move, Drop}
use Rattle.ktm_world.specs.declared.object.Phase.TheVariants.{Active}
use Rattle.ktm_world.specs.declared.object.Transaction.{Transaction}
use Rattle.ktm_world.specs.declared.recorded.Stage.{Stage}
use Rattle.ktm_world.specs.Changes.{changed, next_after}
use Rattle.ktm_world.specs.Committed.{committed_with}
use Rattle.ktm_world.specs.Decide.{events_of, of_files}
use Rattle.ktm_world.specs.Durable.{after_events, is_ready}
use Rattle.ktm_world.specs.Enlistments.{Enlistment, Manager, Sent, is_durable_at, superior_of, takes_part}
use Rattle.ktm_world.specs.FileOutcome.{FileOutcome, next_node_after, table_after, works_of}
use Rattle.ktm_world.specs.Files.{FilesNow, FileTable, OpenFile, own_changes}
use Rattle.ktm_world.specs.Keys.{own_settings}
use Rattle.ktm_world.specs.Lawful.{Agrees, Summary, brought_back, durable_managers, is_held_stage, recorded_enlistments, stage_in, stays, summaries_now, summary_in, summary_of, superior_now}
use Rattle.ktm_world.specs.Outcome.{Outcome, apply, committed_now, served}
use Rattle.ktm_world.specs.Present.{Present}
use Rattle.ktm_world.specs.World.{by_rising_id}
use Rattle.txf_laws.specs.Elements.{IsIn}
use Rattle.ktm_records.specs.Kept.{are_carried_out}
use Rattle.ktm_courses.specs.SoundCourse.{IsSoundCourse, is_recorded_as}
use Rattle.txf_laws.proofs.offered.NodeNumbers.{next-rises}
use Rattle.txf_laws.proofs.offered.Elements.{list_all-at}
use Rattle.ktm_courses.proofs.offered.FileSteps.{IsActiveCaller, own-after-same, table-own}
use Rattle.ktm_courses.proofs.offered.Views.{durable-served}

-- ---- lists

-- what two functions make alike of each element, they gather alike
pub flat_map-alike : {X Y : Type 0} (f g : X → List Y) (xs : List X) → ((x : X) → IsIn x xs → f x ≡ g x) → flat_map f xs ≡ flat_map g xs
flat_map-alike f g [] same = refl
flat_map-alike f g (x ∷ xs) same = λ i. same x (inl refl) i ++ flat_map-alike f g xs (λ y there. same y (inr there)) i

-- tests that agree at each element keep the same elements
pub filter-alike : {X : Type 0} (f g : X → Bool) (xs : List X) → ((x : X) → IsIn x xs → f x ≡ g x) → filter f xs ≡ filter g xs
filter-alike f g [] same = refl
filter-alike f g (x ∷ xs) same = λ i. if same x (inl refl) i then x ∷ filter-alike f g xs (λ y there. same y (inr there)) i else filter-alike f g xs (λ y there. same y (inr there)) i

-- what a test does not pass, before and behind a step, or the step leaves, is as it was among those that pass
pub filter-step : {X : Type 0} (test : X → Bool) (step : X → X) (xs : List X) → ((x : X) → IsIn x xs → ((test (step x) ≡ false) × (test x ≡ false)) ⊎ (step x ≡ x)) → filter test (map step xs) ≡ filter test xs
filter-step test step [] each = refl
filter-step test step (x ∷ xs) each = elim (each x (inl refl)) [
  | inl neither ↦ rw (neither.0, neither.1) (filter-step test step xs (λ y there. each y (inr there)))
  | inr same ↦ λ i. if test (same i) then same i ∷ filter-step test step xs (λ y there. each y (inr there)) i else filter-step test step xs (λ y there. each y (inr there)) i
]

-- the first that passes is as it was, where each that a step changes passes neither before nor behind it
pub find-step : {X : Type 0} (test : X → Bool) (step : X → X) (xs : List X) → ((x : X) → IsIn x xs → ((test (step x) ≡ false) × (test x ≡ false)) ⊎ (step x ≡ x)) → find test (map step xs) ≡ find test xs
find-step test step [] each = refl
find-step test step (x ∷ xs) each = elim (each x (inl refl)) [
  | inl neither ↦ rw (neither.0, neither.1) (find-step test step xs (λ y there. each y (inr there)))
  | inr same ↦ λ i. if test (same i) then Some (same i) else find-step test step xs (λ y there. each y (inr there)) i
]

-- ---- resource managers

-- the Ids of the durable ones
abbrev pub durable_ids : List Manager → List Id
durable_ids ms = map (λ m. m.id) (filter (λ m. m.is_durable) ms)

pub ids-served : (took : Option Id) (sent : List Sent) (ms : List Manager) → durable_ids (map (served took sent) ms) ≡ durable_ids ms
ids-served took sent [] = refl
ids-served took sent (m ∷ ms) = elim (cases_Bool m.is_durable) [
  | inl durable ↦ rw durable (ap (λ ids. m.id ∷ ids) (ids-served took sent ms))
  | inr volatile ↦ rw volatile (ids-served took sent ms)
]

pub ids-append : (ms ns : List Manager) → durable_ids (ms ++ ns) ≡ durable_ids ms ++ durable_ids ns
ids-append [] ns = refl
ids-append (m ∷ ms) ns = elim (cases_Bool m.is_durable) [
  | inl durable ↦ rw durable (ap (λ ids. m.id ∷ ids) (ids-append ms ns))
  | inr volatile ↦ rw volatile (ids-append ms ns)
]

-- where none is made they stay
pub managers-stay : (x : Present) (o : Outcome) → o.made ≡ [] → durable_managers (apply x o) ≡ durable_managers x
managers-stay x o none = ids-served o.took o.sent (x.managers ++ o.made) ∙ ap (λ ms. durable_ids (x.managers ++ ms)) none ∙ ap durable_ids (append-nil x.managers)

pub durable-stays : (x : Present) (o : Outcome) (id : Id) → o.made ≡ [] → is_durable_at (apply x o).managers id ≡ is_durable_at x.managers id
durable-stays x o id none = durable-served o.took o.sent (x.managers ++ o.made) id ∙ ap (λ ms. is_durable_at (x.managers ++ ms) id) none ∙ ap (λ ms. is_durable_at ms id) (append-nil x.managers)

-- ---- what the log has to have of a transaction

-- what the log has to have of a transaction, if it has it at all
abbrev pub summaries : Present → Transaction → List Summary
summaries x t = if t.is_recorded then summary_in x t (stage_in t.phase) else []

-- it is as it was: its recorded enlistments, its superior behind readiness, and what it changed and set
pub record IsAsBefore (x y : Present) (t : Transaction) : Type 0 where
  pub enlistments : recorded_enlistments y t.id ≡ recorded_enlistments x t.id
  pub superior : (stage : Stage) → stage_in t.phase ≡ Some stage → is_ready stage ≡ false → superior_now (superior_of y.transactions.enlistments t.id) ≡ superior_now (superior_of x.transactions.enlistments t.id)
  pub changes : own_changes y.files.table.own t.id ≡ own_changes x.files.table.own t.id
  pub settings : own_settings y.keys.own t.id ≡ own_settings x.keys.own t.id

pub summaries-kept : (x y : Present) (t : Transaction) → (t.is_recorded ≡ true → IsAsBefore x y t) → summaries y t ≡ summaries x t
summaries-kept x y t before = elim (cases_Bool t.is_recorded) [
  | inr other ↦ rw other refl
  | inl recorded ↦ rw recorded (go (before recorded) (stage_in t.phase) refl)
]
  where
    superior-same : IsAsBefore x y t → (stage : Stage) → stage_in t.phase ≡ Some stage → (b : Bool) → is_ready stage ≡ b
        → (if b then None else superior_now (superior_of y.transactions.enlistments t.id)) ≡ (if b then None else superior_now (superior_of x.transactions.enlistments t.id))
    superior-same same stage is true ready = refl
    superior-same same stage is false later = same.superior stage is later

    go : IsAsBefore x y t → (o : Option Stage) → stage_in t.phase ≡ o → summary_in y t o ≡ summary_in x t o
    go same None is = refl
    go same (Some stage) is = ap (λ s. filter stays (s ∷ [])) (λ i. record {
      id = t.id;
      stage = stage;
      superior = superior-same same stage is (is_ready stage) refl i;
      enlistments = same.enlistments i;
      changes = if is_held_stage stage then same.changes i else [];
      settings = if is_held_stage stage then same.settings i else [];
    })

pub enlistments-kept : (x y : Present) (id : Id) → y.transactions.enlistments ≡ x.transactions.enlistments → ((e : Enlistment) → IsIn e x.transactions.enlistments → is_durable_at y.managers e.manager ≡ is_durable_at x.managers e.manager)
    → recorded_enlistments y id ≡ recorded_enlistments x id
enlistments-kept x y id same durable =
    ap (λ es. by_rising_id (map brought_back (filter (λ e. takes_part id e && is_durable_at y.managers e.manager && e.is_prepared && not e.is_finished) es))) same
    ∙ ap (λ es. by_rising_id (map brought_back es))
    (filter-alike (λ e. takes_part id e && is_durable_at y.managers e.manager && e.is_prepared && not e.is_finished) (λ e. takes_part id e && is_durable_at x.managers e.manager && e.is_prepared && not e.is_finished)
    x.transactions.enlistments (λ e there i. takes_part id e && durable e there i && e.is_prepared && not e.is_finished))

-- a transaction that the log has is not active
pub recorded-later : (x : Present) (t : Transaction) → IsSoundCourse x → IsIn t x.transactions.items → t.is_recorded ≡ true → t.phase ≡ Active → ⊥
recorded-later x t sound there recorded active =
    let asked = list_all-at (λ t. is_recorded_as t.phase x.managers x.transactions.enlistments t.id t.is_recorded) x.transactions.items sound.phases.recorded t there in
    absurd (true≢false (sym asked ∙ (λ i. is_recorded_as (active i) x.managers x.transactions.enlistments t.id (recorded i))))

-- ---- node numbers

pub next_after-both : (c : Change) (m n : ℕ) → m ≤ n → next_after m c ≤ next_after n c
next_after-both (Make node parent kind name) m n less = omega (arith, less)
next_after-both (Put node offset contents) m n less = less
next_after-both (Cut node size pages) m n less = less
next_after-both (Move node parent name) m n less = less
next_after-both (Drop node) m n less = less

table-next : (files : FilesNow) (who : Option Id) (o : FileOutcome) → (table_after files who o).next_node ≡ next_node_after files.table.next_node o.change
table-next files who o = go o.opened
  where
    go : (opened : Option OpenFile) → (table_after files who (record o { opened = opened })).next_node ≡ next_node_after files.table.next_node o.change
    go None = refl
    go (Some file) = refl

-- ---- what records and commits nothing

-- what was recorded agrees with what is so now, and each decided transaction has its files and its keys done
pub record Agreed (x : Present) : Type 0 where
  pub agrees : Agrees x
  pub carried : are_carried_out x.recorded ≡ true

pub summaries-stay : (x y : Present) → y.transactions.items ≡ x.transactions.items → ((t : Transaction) → IsIn t x.transactions.items → t.is_recorded ≡ true → IsAsBefore x y t) → summaries_now y ≡ summaries_now x
summaries-stay x y same before = ap (flat_map (summaries y)) same ∙ flat_map-alike (summaries y) (summaries x) x.transactions.items (λ t there. summaries-kept x y t (before t there))

pub agreed-still : (x : Present) (o : Outcome) → Agreed x → o.events ≡ [] → o.works ≡ [] → durable_managers (apply x o) ≡ durable_managers x → x.files.table.next_node ≤ o.table.next_node
    → summaries_now (apply x o) ≡ summaries_now x → Agreed (apply x o)
agreed-still x o agreed no_events no_works managers next same = record {
  agrees = record {
    tree = ap (λ es. (after_events x.recorded es).tree) no_events ∙ (agreed.agrees).tree ∙ sym (ap (λ ws. (committed_with (committed_now x) ws).tree) no_works);
    keys = ap (λ es. (after_events x.recorded es).keys) no_events ∙ (agreed.agrees).keys ∙ sym (ap (λ ws. (committed_with (committed_now x) ws).store) no_works);
    managers = ap (λ es. (after_events x.recorded es).managers) no_events ∙ (agreed.agrees).managers ∙ sym managers;
    transactions = ap (λ es. map summary_of (after_events x.recorded es).transactions) no_events ∙ (agreed.agrees).transactions ∙ sym same;
    next_node = subst (λ es. (after_events x.recorded es).next_node ≤ o.table.next_node) (sym no_events) (omega (arith, (agreed.agrees).next_node, next));
  };
  carried = subst (λ es. are_carried_out (after_events x.recorded es) ≡ true) (sym no_events) agreed.carried;
}

-- where transactions, enlistments and resource managers stay, and what recorded transactions changed and set
pub as-owned : (x : Present) (o : Outcome) (t : Transaction) → o.made ≡ [] → o.transactions.enlistments ≡ x.transactions.enlistments → own_changes o.table.own t.id ≡ own_changes x.files.table.own t.id
    → own_settings o.own t.id ≡ own_settings x.keys.own t.id → IsAsBefore x (apply x o) t
as-owned x o t none same changes settings = record {
  enlistments = enlistments-kept x (apply x o) t.id same (λ e there. durable-stays x o e.manager none);
  superior = λ stage is later. ap (λ es. superior_now (superior_of es t.id)) same;
  changes = changes;
  settings = settings;
}

-- a machine agrees still after a reply, and after what changes handles alone
pub agreed-reply : (x : Present) (o : Outcome) → Agreed x → o.events ≡ [] → o.works ≡ [] → o.made ≡ [] → o.transactions.items ≡ x.transactions.items → o.transactions.enlistments ≡ x.transactions.enlistments → o.table ≡ x.files.table
    → o.own ≡ x.keys.own → Agreed (apply x o)
agreed-reply x o agrees no_events no_works none items enlistments table own =
    agreed-still x o agrees no_events no_works (managers-stay x o none) (subst (λ (t : FileTable). x.files.table.next_node ≤ t.next_node) (sym table) (omega arith))
    (summaries-stay x (apply x o) items (λ t there recorded. as-owned x o t none enlistments (ap (λ (t' : FileTable). own_changes t'.own t.id) table) (ap (λ os. own_settings os t.id) own)))

-- ---- calls on files

pub agreed-of_files : (x : Present) (who : Option Id) (o : FileOutcome) → IsSoundCourse x → Agreed x → IsActiveCaller x who → Agreed (apply x (of_files x who o))
agreed-of_files x who o sound agreed active = go who o.change refl active
  where
    kept : (who : Option Id) → IsActiveCaller x who → summaries_now (apply x (of_files x who o)) ≡ summaries_now x
    kept who active = summaries-stay x (apply x (of_files x who o)) refl (λ t there recorded. as-owned x (of_files x who o) t refl refl
        (ap (λ own. own_changes own t.id) (table-own x.files who o) ∙ own-after-same x who o.change active t there (recorded-later x t sound there recorded)) refl)

    next : (who : Option Id) (change : Option Change) → o.change ≡ change → x.files.table.next_node ≤ next_node_after x.files.table.next_node change → x.files.table.next_node ≤ (table_after x.files who o).next_node
    next who change is less = subst (λ n. x.files.table.next_node ≤ n) (sym (table-next x.files who o ∙ ap (next_node_after x.files.table.next_node) is)) less

    rises : (change : Option Change) → x.files.table.next_node ≤ next_node_after x.files.table.next_node change
    rises None = omega arith
    rises (Some change) = next-rises (change ∷ []) x.files.table.next_node

    go : (who : Option Id) (change : Option Change) → o.change ≡ change → IsActiveCaller x who → Agreed (apply x (of_files x who o))
    go (Some id) change is active = agreed-still x (of_files x (Some id) o) agreed refl refl (managers-stay x (of_files x (Some id) o) refl) (next (Some id) change is (rises change)) (kept (Some id) active)
    go None None is active = agreed-still x (of_files x None o) agreed (ap (events_of None) is) (ap (works_of None) is) (managers-stay x (of_files x None o) refl) (next None None is (rises None)) (kept None active)
    go None (Some change) is active = record {
      agrees = record {
        tree = ap (λ c. (after_events x.recorded (events_of None c)).tree) is ∙ ap (λ tree. changed tree change) (agreed.agrees).tree ∙ sym (ap (λ c. (committed_with (committed_now x) (works_of None c)).tree) is);
        keys = ap (λ c. (after_events x.recorded (events_of None c)).keys) is ∙ (agreed.agrees).keys ∙ sym (ap (λ c. (committed_with (committed_now x) (works_of None c)).store) is);
        managers = ap (λ c. (after_events x.recorded (events_of None c)).managers) is ∙ (agreed.agrees).managers ∙ sym (managers-stay x (of_files x None o) refl);
        transactions = ap (λ c. map summary_of (after_events x.recorded (events_of None c)).transactions) is ∙ (agreed.agrees).transactions ∙ sym (kept None active);
        next_node = subst (λ c. (after_events x.recorded (events_of None c)).next_node ≤ (table_after x.files None o).next_node) (sym is)
            (subst (λ n. next_after x.recorded.next_node change ≤ n) (sym (table-next x.files None o ∙ ap (next_node_after x.files.table.next_node) is)) (next_after-both change x.recorded.next_node x.files.table.next_node (agreed.agrees).next_node));
      };
      carried = subst (λ c. are_carried_out (after_events x.recorded (events_of None c)) ≡ true) (sym is) agreed.carried;
    }
