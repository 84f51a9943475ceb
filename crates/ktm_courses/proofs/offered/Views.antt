-- What the soundness of courses reads of a machine, and steps that leave the transactions as they are.
use Rattle.std.specs.Prelude.{if◌then◌else◌}
use Rattle.std.proofs.Common.{◌≡◌, ℕ, ◌&&◌, ◌||◌, not, Bool, true, List, [], ◌∷◌, ◌++◌, map, filter, drop, zero, suc, Option, refl, ◌∙◌, ap, subst, inl, inr}
use Rattle.std.specs.List.{list_any, list_all}
use Rattle.ktm_base.specs.declared.id.Id.{Id}
use Rattle.ktm_world.specs.declared.object.Handle.{Handle}
use Rattle.ktm_world.specs.declared.object.Object.{Object}
use Rattle.ktm_world.specs.declared.object.Object.TheVariants.{Transaction as TransactionObject, Manager as ManagerObject, Enlistment as EnlistmentObject, File as FileObject}
use Rattle.ktm_world.specs.declared.object.Phase.{Phase}
use Rattle.ktm_world.specs.declared.object.Phase.TheVariants.{Preparing, Committing}
use Rattle.ktm_world.specs.Enlistments.{Enlistment, Manager, Sent, notes_for, taken_count, is_durable_at, is_superior, takes_part}
use Rattle.ktm_world.specs.Files.{OwnChanges}
use Rattle.ktm_world.specs.Keys.{Own}
use Rattle.ktm_world.specs.Outcome.{served}
use Rattle.ktm_world.specs.Present.{Present, Transactions}
use Rattle.ktm_world.specs.Transactions.{same_id}
use Rattle.txf_laws.specs.Elements.{IsIn, each_pair}
use Rattle.ktm_courses.specs.SoundCourse.{IsSoundCourse, has_manager, is_object_there, is_note_of, is_superior_durable, is_unrecovered_well, has_durable_part, is_recorded_as, is_recorded_as_asked, is_there}
use Rattle.txf_laws.proofs.offered.Lists.{IsIn-cases, IsIn-unmap}
use Rattle.txf_laws.proofs.offered.Elements.{IsIn-filter, list_all-at, list_all-from}
use Rattle.txf_laws.proofs.offered.Tables.{same_id-equal}

-- ---- what is read

-- what the soundness of courses reads is the same
pub record IsViewedAlike (x y : Present) : Type 0 where
  pub boots : (x.recorded).boots ≡ (y.recorded).boots
  pub image : (x.recorded).image ≡ (y.recorded).image
  pub transactions : x.transactions ≡ y.transactions
  pub managers : x.managers ≡ y.managers
  pub handles : x.handles ≡ y.handles
  pub own : ((x.files).table).own ≡ ((y.files).table).own
  pub settings : (x.keys).own ≡ (y.keys).own

-- the rest of a machine, with what is read
abbrev with_view : Present → ℕ → ℕ → Transactions → List Manager → List Handle → List OwnChanges → List Own → Present
with_view y boots image transactions managers handles own settings = record y {
  recorded = record y.recorded { boots = boots; image = image };
  transactions = transactions;
  managers = managers;
  handles = handles;
  files = record y.files { table = record (y.files).table { own = own } };
  keys = record y.keys { own = settings };
}

pub sound-alike : (x y : Present) → IsViewedAlike x y → IsSoundCourse x → IsSoundCourse y
sound-alike x y alike sound = subst IsSoundCourse
    (λ i. with_view y (alike.boots i) (alike.image i) (alike.transactions i) (alike.managers i) (alike.handles i) (alike.own i) (alike.settings i)) viewed
  where
    viewed : IsSoundCourse (with_view y (x.recorded).boots (x.recorded).image x.transactions x.managers x.handles ((x.files).table).own (x.keys).own)
    viewed = record {
      numbers = sound.numbers;
      transactions = sound.transactions;
      enlistments = sound.enlistments;
      managers = sound.managers;
      handles = sound.handles;
      phases = sound.phases;
      alone = sound.alone;
    }

-- ---- lists whose elements are changed alike

pub list_any-map : {X Y : Type 0} (test : Y → Bool) (before : X → Bool) (f : X → Y) → ((x : X) → test (f x) ≡ before x) → (xs : List X) → list_any test (map f xs) ≡ list_any before xs
list_any-map test before f same [] = refl
list_any-map test before f same (x ∷ xs) = λ i. same x i || list_any-map test before f same xs i

pub list_all-map : {X Y : Type 0} (test : Y → Bool) (before : X → Bool) (f : X → Y) → ((x : X) → test (f x) ≡ before x) → (xs : List X) → list_all test (map f xs) ≡ list_all before xs
list_all-map test before f same [] = refl
list_all-map test before f same (x ∷ xs) = λ i. same x i && list_all-map test before f same xs i

pub each_pair-map : {X Y : Type 0} (test : Y → Y → Bool) (before : X → X → Bool) (f : X → Y) → ((x y : X) → test (f x) (f y) ≡ before x y) → (xs : List X) → each_pair test (map f xs) ≡ each_pair before xs
each_pair-map test before f same [] = refl
each_pair-map test before f same (x ∷ xs) = λ i. list_all-map (test (f x)) (before x) f (same x) xs i && each_pair-map test before f same xs i

pub IsIn-drop : {X : Type 0} (n : ℕ) (xs : List X) (x : X) → IsIn x (drop n xs) → IsIn x xs
IsIn-drop zero xs x there = there
IsIn-drop (suc n) [] x there = there
IsIn-drop (suc n) (y ∷ ys) x there = inr (IsIn-drop n ys x there)

-- ---- notifications are taken and sent

pub durable-served : (took : Option Id) (sent : List Sent) (ms : List Manager) (id : Id) → is_durable_at (map (served took sent) ms) id ≡ is_durable_at ms id
durable-served took sent ms id = list_any-map (λ (m : Manager). same_id m.id id && m.is_durable) (λ m. same_id m.id id && m.is_durable) (served took sent) (λ m. refl) ms

-- what is asked of the log depends on which resource managers are durable
pub recorded-durable : (ms ns : List Manager) (es : List Enlistment) → ((e : Enlistment) → IsIn e es → is_durable_at ns e.manager ≡ is_durable_at ms e.manager) → (phase : Phase) (id : Id) (r : Bool)
    → is_recorded_as phase ns es id r ≡ is_recorded_as phase ms es id r
recorded-durable ms ns es same phase id r = go phase
  where
    parts : (test : Enlistment → Bool) (xs : List Enlistment) → ((e : Enlistment) → IsIn e xs → is_durable_at ns e.manager ≡ is_durable_at ms e.manager) → has_durable_part ns xs id test ≡ has_durable_part ms xs id test
    parts test [] each = refl
    parts test (x ∷ xs) each = λ i. (takes_part id x && (test x && each x (inl refl) i)) || parts test xs (λ e there. each e (inr there)) i

    go : (phase : Phase) → is_recorded_as phase ns es id r ≡ is_recorded_as phase ms es id r
    go Preparing = ap (λ b. if b then r else not r) (parts (λ e. e.is_prepared) es same)
    go Committing = ap (λ b. r || not b) (parts (λ e. not e.is_finished) es same)
    go _ = refl

pub sound-served : (x : Present) (took : Option Id) (sent : List Sent) → IsSoundCourse x → ((s : Sent) → IsIn s sent → is_note_of (x.transactions).enlistments s.manager s.note ≡ true)
    → IsSoundCourse (record x { managers = map (served took sent) x.managers })
sound-served x took sent sound told = record {
  numbers = sound.numbers;
  transactions = sound.transactions;
  enlistments = record {
    rise = sound.enlistments.rise;
    counted = sound.enlistments.counted;
    made = sound.enlistments.made;
    transactions_there = sound.enlistments.transactions_there;
    managers_there = list_all-from (λ (e : Enlistment). has_manager (map (served took sent) x.managers) e.manager) (x.transactions).enlistments
        (λ e there. manager-there e.manager ∙ list_all-at (λ (e : Enlistment). has_manager x.managers e.manager) (x.transactions).enlistments sound.enlistments.managers_there e there);
    superiors_durable = list_all-from (is_superior_durable (map (served took sent) x.managers)) (x.transactions).enlistments
        (λ e there. ap (λ b. not (is_superior e) || b) (durable-served took sent x.managers e.manager) ∙ list_all-at (is_superior_durable x.managers) (x.transactions).enlistments sound.enlistments.superiors_durable e there);
    superiors_differ = sound.enlistments.superiors_differ;
    unrecovered = list_all-from (is_unrecovered_well (x.recorded).boots (map (served took sent) x.managers)) (x.transactions).enlistments
        (λ e there. ap (λ b. e.is_recovered || (Rattle.std.specs.Prelude.nat_lt (e.id).boot (x.recorded).boots && b && not e.is_read_only && not e.is_finished && Rattle.std.specs.Prelude.is_none e.owes && (is_superior e || e.is_prepared))) (durable-served took sent x.managers e.manager)
        ∙ list_all-at (is_unrecovered_well (x.recorded).boots x.managers) (x.transactions).enlistments sound.enlistments.unrecovered e there);
    information_fits = sound.enlistments.information_fits;
  };
  managers = record {
    rise = each_pair-map _ _ (served took sent) (λ m n. refl) x.managers ∙ sound.managers.rise;
    counted = list_all-map _ _ (served took sent) (λ m. refl) x.managers ∙ sound.managers.counted;
    notes_there = list_all-from (λ (m : Manager). list_all (is_note_of (x.transactions).enlistments m.id) m.queue) (map (served took sent) x.managers)
        (λ m there.
        let from = IsIn-unmap (served took sent) m x.managers there in
        subst (λ (n : Manager). list_all (is_note_of (x.transactions).enlistments n.id) n.queue ≡ true) from.1 (queue from.0 from.2));
  };
  handles = record {
    labels_differ = sound.handles.labels_differ;
    objects_there = list_all-from (λ (h : Handle). is_object_there (x.transactions).items (map (served took sent) x.managers) (x.transactions).enlistments h.object) x.handles
        (λ h there. object h.object (list_all-at (λ (h : Handle). is_there x h.object) x.handles sound.handles.objects_there h there));
  };
  phases = record {
    superiors = sound.phases.superiors;
    enlistments = sound.phases.enlistments;
    awaited = sound.phases.awaited;
    recorded = list_all-from (is_recorded_as_asked (map (served took sent) x.managers) (x.transactions).enlistments) (x.transactions).items
        (λ t there. recorded-durable x.managers (map (served took sent) x.managers) (x.transactions).enlistments (λ e is. durable-served took sent x.managers e.manager) t.phase t.id t.is_recorded
        ∙ list_all-at (is_recorded_as_asked x.managers (x.transactions).enlistments) (x.transactions).items sound.phases.recorded t there);
  };
  alone = sound.alone;
}
  where
    manager-there : (id : Id) → has_manager (map (served took sent) x.managers) id ≡ has_manager x.managers id
    manager-there id = list_any-map (λ (m : Manager). same_id m.id id) (λ m. same_id m.id id) (served took sent) (λ m. refl) x.managers

    object : (object : Object) → is_there x object ≡ true → is_object_there (x.transactions).items (map (served took sent) x.managers) (x.transactions).enlistments object ≡ true
    object (TransactionObject id) is = is
    object (ManagerObject id) is = manager-there id ∙ is
    object (EnlistmentObject id) is = is
    object (FileObject number) is = is

    queue : (m : Manager) → IsIn m x.managers → list_all (is_note_of (x.transactions).enlistments m.id) (served took sent m).queue ≡ true
    queue m there = list_all-from (is_note_of (x.transactions).enlistments m.id) (drop (taken_count m.id took) m.queue ++ notes_for m.id sent) (λ note is.
        elim (IsIn-cases note (drop (taken_count m.id took) m.queue) (notes_for m.id sent) is) [
          | inl waits ↦ list_all-at (is_note_of (x.transactions).enlistments m.id) m.queue
              (list_all-at (λ (n : Manager). list_all (is_note_of (x.transactions).enlistments n.id) n.queue) x.managers sound.managers.notes_there m there) note (IsIn-drop (taken_count m.id took) m.queue note waits)
          | inr new ↦
              let from = IsIn-unmap (λ (s : Sent). s.note) note (filter (λ (s : Sent). same_id s.manager m.id) sent) new in
              let at = IsIn-filter (λ (s : Sent). same_id s.manager m.id) sent from.0 from.2 in
              subst (λ n. is_note_of (x.transactions).enlistments m.id n ≡ true) from.1
              (subst (λ id. is_note_of (x.transactions).enlistments id (from.0).note ≡ true) (same_id-equal (from.0).manager m.id at.1) (told from.0 at.0))
        ])
