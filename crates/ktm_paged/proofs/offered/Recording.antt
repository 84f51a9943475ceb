-- What is recorded of commands, and that it applies.
use Rattle.std.proofs.Common.{◌≡◌, ◌+◌, ◌-◌, ◌*◌, ◌/◌, ◌<◌, ◌≤◌, ◌==◌, ◌&&◌, ◌||◌, Bool, true, false, ℕ, suc, List, [], ◌∷◌, ◌++◌, get_or, map, length, sum_by, All, Option, Some, None, refl, sym, ◌∙◌, ap, subst, arith, inl, inr}
use Rattle.std.specs.Prelude.{◌⊎◌, nat_lt}
use Rattle.std.specs.List.{flat_map, list_all}
use Rattle.std.proofs.lemmas.Bool.{and_from, and_parts, cases_Bool, eqb-true, ltb-true}
use Rattle.std.proofs.lemmas.List.{append-nil}
use Rattle.std.proofs.lemmas.List.Elements.{All-append, All-cons, All-head, All-map, All-nil, All-tail, All-weaker}
use Rattle.std.proofs.lemmas.List.Folds.{list_all-append}
use Rattle.std.proofs.lemmas.List.Sums.{sum_by-append, sum_by-cons}
use Rattle.ktm_base.specs.declared.id.Id.{Id}
use Rattle.ktm_content.specs.Places.{LieOn, places_on}
use Rattle.ktm_content.proofs.offered.Bytes.{lie-on}
use Rattle.ktm_each.specs.Each.{EachFrom, EachOfChange, EachOfChanges, EachOfDurable, EachOfEvent, EachOfGroup, EachOfNode, EachOfPart, EachOfRecorded}
use Rattle.ktm_each.proofs.offered.Durables.{after_event-each}
use Rattle.txf_laws.specs.Grammatical.{changes_of_event, is_grammatical, names_objects}
use Rattle.ktm_world.specs.Sizes.{change_size, event_size}
use Rattle.ktm_world.specs.declared.change.Change.{Change}
use Rattle.ktm_world.specs.declared.change.Change.TheVariants.{Make, Put, Cut, Move, Drop}
use Rattle.ktm_world.specs.declared.change.Contents.TheVariants.{Whole, Paged}
use Rattle.ktm_world.specs.declared.event.DonePart.{DonePart}
use Rattle.ktm_world.specs.declared.event.Event.{Event}
use Rattle.ktm_world.specs.declared.event.Event.TheVariants.{Boot, MadeRm, Plain, Ready, Single, Held, Decide, Undo, Done}
use Rattle.ktm_world.specs.declared.event.Part.{Part}
use Rattle.ktm_world.specs.declared.event.Part.TheVariants.{Enlistment, Changes, Settings}
use Rattle.ktm_world.specs.declared.recorded.Node.{Node}
use Rattle.ktm_world.specs.declared.recorded.RecordedPart.{RecordedPart}
use Rattle.ktm_world.specs.declared.step.Fact.{Fact}
use Rattle.ktm_world.specs.declared.step.Step.{Step}
use Rattle.ktm_world.specs.declared.step.Step.TheVariants.{Record, Tell, Ask, Enter, Decide as DecideIt, End, EndWhereFinished}
use Rattle.txf_laws.specs.Contents.{puts_some}
use Rattle.ktm_world.specs.Changes.{bytes_in, has_changes}
use Rattle.ktm_world.specs.Durable.{Durable, Recorded, changes_in, event_applies, events_apply}
use Rattle.ktm_world.specs.Enlistments.{Enlistment as Enlisted, Manager, is_durable_at}
use Rattle.ktm_world.specs.Logs.{Group}
use Rattle.ktm_world.specs.Phases.{enlistment_part, event_if, has_settings}
use Rattle.ktm_world.specs.Steps.{Basis, event_of_caller, events_ahead, events_of, held_event, is_recorded_by}
use Rattle.ktm_world.specs.Tree.{Tree, bytes_or_none}
use Rattle.ktm_paged.specs.Meaning.{end_touched, first_unit, has_event_its_pages, has_its_pages, has_work_pages, meant, meant_event, meant_part, pages_in, pages_of_event, size_before, units_from}
use Rattle.ktm_paged.specs.Paged.{GroupApplies, IsApart, IsOwned, IsSound, PagedApplies, meant_group, page_at, paged_after, paged_after_all}
use Rattle.ktm_paged.specs.Recorded.{HaveTheirPages, IsRecordOf, RecordsLaw}
use Rattle.ktm_paged.proofs.offered.Meanings.{cut-pages, put-pages, work-paged}
use Rattle.ktm_paged.proofs.offered.OnPages.{EachFrom-at, pages-each}
use Rattle.ktm_paged.proofs.offered.Units.{units-touched}

-- ---- what a change that has its pages puts

-- the contents that a change puts, if it puts some
abbrev contents_in : Change → List ℕ
contents_in (Put node offset contents) = bytes_in contents
contents_in _ = []

-- they lie on the pages that it names
pub meant-lies : (size : ℕ) (c : Change) → has_its_pages size c ≡ true → LieOn (pages_in c) (contents_in (meant size c))
meant-lies size (Make node parent kind name) is = record { units = refl; places = refl }
meant-lies size (Put node offset (Whole bytes)) is = absurd (cc)
meant-lies size (Put node offset (Paged len pages)) is =
    lie-on pages (end_touched size (offset + len) - first_unit size offset * 4096)
    (put-pages size offset len pages is ∙ sym (units-touched (first_unit size offset) size (offset + len)) ∙ omega arith)
meant-lies size (Cut node end pages) is = elim (cases_Bool (nat_lt size end)) [
  | inl grows ↦
      (let longer = ltb-true _ _ grows in
      rw grows (lie-on pages (end - size / 4096 * 4096) (cut-pages size end node pages grows is ∙ omega (arith, longer))))
  | inr less ↦ rw less (subst (λ (ps : List ℕ). LieOn ps []) (sym (no_pages pages (eqb-true _ _ (rw less at is)))) (record { units = refl; places = refl }))
]
  where
    no_pages : (ps : List ℕ) → length ps ≡ 0 → ps ≡ []
    no_pages [] none = refl
    no_pages (p ∷ ps) none = absurd (omega (arith, none))
meant-lies size (Move node parent name) is = record { units = refl; places = refl }
meant-lies size (Drop node) is = record { units = refl; places = refl }

-- it takes no more bytes of a log than what it means
pub change-size : (size : ℕ) (c : Change) → has_its_pages size c ≡ true → change_size c ≤ change_size (meant size c)
change-size size (Make node parent kind name) is = omega arith
change-size size (Put node offset (Whole bytes)) is = absurd (cc)
change-size size (Put node offset (Paged len pages)) is = let units = (meant-lies size (Put node offset (Paged len pages)) is).units in omega (arith, units)
change-size size (Cut node end pages) is = elim (cases_Bool (nat_lt size end)) [
  | inl grows ↦ (let units = (rw grows at (meant-lies size (Cut node end pages) is)).units in rw grows (omega (arith, units)))
  | inr less ↦ (let none = eqb-true _ _ (rw less at is) in rw less (omega (arith, none)))
]
change-size size (Move node parent name) is = omega arith
change-size size (Drop node) is = omega arith

-- each place that a change puts is such
put-at : (p : ℕ → ℕ → ℕ → Type 0) (c : Change) → EachOfChange p c → (k : ℕ) → k < length (contents_in c) → (file : ℕ) × (index : ℕ) × p file index (get_or (contents_in c) k 0)
put-at p (Put node offset contents) each k low = (node, offset + k, EachFrom-at (p node) offset (bytes_in contents) k each low)
put-at p (Make node parent kind name) each k low = absurd (omega (arith, low))
put-at p (Cut node end pages) each k low = absurd (omega (arith, low))
put-at p (Move node parent name) each k low = absurd (omega (arith, low))
put-at p (Drop node) each k low = absurd (omega (arith, low))

page-below : (count place : ℕ) → 1 ≤ place → place ≤ count * 4096 → page_at place < count
page-below count place some low = omega (arith, some, low)

module _ (count : ℕ) (p : ℕ → ℕ → ℕ → Type 0) (low : (file index place : ℕ) → p file index place → place ≤ count * 4096) where
  -- the pages that it names are below where the places that it puts are
  pub change-below : (size : ℕ) (c : Change) → has_its_pages size c ≡ true → EachOfChange p (meant size c) → All (λ page. page < count) (pages_in c)
  change-below size c is each =
      pages-each (λ page. page < count) (pages_in c) (contents_in (meant size c)) (meant-lies size c is)
      (λ k there some. let (file, index, such) = put-at p (meant size c) each k there in page-below count (get_or (contents_in (meant size c)) k 0) some (low file index _ such))

  changes-below : (cs : List Change) → list_all has_work_pages cs ≡ true → All (EachOfChange p) (map (meant 0) cs) → All (λ page. page < count) (flat_map pages_in cs)
  changes-below [] are each = All-nil (λ page. page < count)
  changes-below (c ∷ cs) are each =
      let parts = and_parts (has_work_pages c) (list_all has_work_pages cs) are in
      All-append (λ page. page < count) (pages_in c) (flat_map pages_in cs)
      (change-below 0 c (work-paged c parts.0) (All-head (EachOfChange p) (meant 0 c) (map (meant 0) cs) each))
      (changes-below cs parts.1 (All-tail (EachOfChange p) (meant 0 c) (map (meant 0) cs) each))

  part-below : (part : Part) → list_all has_work_pages (changes_in part) ≡ true → All (EachOfChange p) (changes_in (meant_part part)) → All (λ page. page < count) (flat_map pages_in (changes_in part))
  part-below (Changes changes) are each = changes-below changes are each
  part-below (Enlistment enlistment manager information) are each = All-nil (λ page. page < count)
  part-below (Settings settings) are each = All-nil (λ page. page < count)

  -- so are those that an event names
  pub event-below : (tree : Tree) (event : Event) → has_event_its_pages tree event ≡ true → EachOfEvent p (meant_event tree event) → All (λ page. page < count) (pages_of_event event)
  event-below tree (Plain c) is each = subst (All (λ page. page < count)) (sym (append-nil (pages_in c))) (change-below (size_before tree c) c is (All-head (EachOfChange p) (meant (size_before tree c) c) [] each))
  event-below tree (Ready transaction part) is each = part-below part is each
  event-below tree (Single transaction part) is each = part-below part is each
  event-below tree (Boot boot) is each = All-nil (λ page. page < count)
  event-below tree (MadeRm manager) is each = All-nil (λ page. page < count)
  event-below tree (Held transaction enlistment manager information) is each = All-nil (λ page. page < count)
  event-below tree (Decide transaction) is each = All-nil (λ page. page < count)
  event-below tree (Undo transaction) is each = All-nil (λ page. page < count)
  event-below tree (Done transaction done) is each = All-nil (λ page. page < count)

-- ---- what is so of all bytes

module _ (p q : ℕ → ℕ → ℕ → Type 0) (weaker : (file index place : ℕ) → p file index place → q file index place) where
  bytes-weaker : (file from : ℕ) (bytes : List ℕ) → EachFrom (p file) from bytes → EachFrom (q file) from bytes
  bytes-weaker file from [] each = tt
  bytes-weaker file from (b ∷ bs) each = (weaker file from b each.0, bytes-weaker file (suc from) bs each.1)

  pub change-weaker : (c : Change) → EachOfChange p c → EachOfChange q c
  change-weaker (Put node offset contents) each = bytes-weaker node offset (bytes_in contents) each
  change-weaker (Make node parent kind name) each = tt
  change-weaker (Cut node end pages) each = tt
  change-weaker (Move node parent name) each = tt
  change-weaker (Drop node) each = tt

  part-weaker : (part : RecordedPart) → EachOfPart p part.part → EachOfPart q part.part
  part-weaker part each = All-weaker (EachOfChange p) (EachOfChange q) change-weaker (changes_in part.part) each

  recorded-weaker : (t : Recorded) → EachOfRecorded p t → EachOfRecorded q t
  recorded-weaker t each = All-weaker (λ (part : RecordedPart). EachOfPart p part.part) (λ part. EachOfPart q part.part) part-weaker t.parts each

  -- what is so of each byte of a state is so where it is weaker
  pub durable-weaker : (s : Durable) → EachOfDurable p s → EachOfDurable q s
  durable-weaker s each = record {
    tree = All-weaker (EachOfNode p) (EachOfNode q) (λ (node : Node) is. bytes-weaker node.number 0 (bytes_or_none node.content) is) s.tree each.tree;
    transactions = All-weaker (EachOfRecorded p) (EachOfRecorded q) recorded-weaker s.transactions each.transactions;
  }

-- ---- groups that apply

module _ (count : ℕ) (owner : ℕ → ℕ × ℕ) where
  low-place : (file index place : ℕ) → IsSound owner count file index place → place ≤ count * 4096
  low-place file index place sound = elim sound [ inl none ↦ omega (arith, none) | inr owned ↦ owned.1 ]

  owned-place : (file index place : ℕ) → IsSound owner count file index place → IsOwned owner file index place
  owned-place file index place sound = elim sound [ inl none ↦ inl none | inr owned ↦ inr owned.0 ]

  -- what is recorded applies, of which each place has its owner
  pub group-applies : (s : Durable) (raw : Group) → HaveTheirPages s raw → EachOfDurable (IsSound owner count) s → EachOfGroup (IsSound owner count) (meant_group s raw) → events_apply s (meant_group s raw) ≡ true → GroupApplies count s raw
  group-applies s [] have each puts apply = tt
  group-applies s (event ∷ raw) have each puts apply =
      let parts = and_parts (event_applies s (meant_event s.tree event)) (events_apply (paged_after s event) (meant_group (paged_after s event) raw)) apply in
      let first = All-head (EachOfEvent (IsSound owner count)) (meant_event s.tree event) (meant_group (paged_after s event) raw) puts in
      let after = after_event-each (IsSound owner count) (λ file index. inl refl) s (meant_event s.tree event) each first in (
        record {
          paged = have.0;
          below = event-below count (IsSound owner count) low-place s.tree event have.0 first;
          applies = parts.0;
          apart = (owner, durable-weaker (IsSound owner count) (IsOwned owner) owned-place (paged_after s event) after);
        },
        group-applies (paged_after s event) raw have.1 after (All-tail (EachOfEvent (IsSound owner count)) (meant_event s.tree event) (meant_group (paged_after s event) raw) puts) parts.1,
      )

  pub record-applies : (s : Durable) (raw events : Group) → IsRecordOf s raw events → EachOfDurable (IsSound owner count) s → EachOfGroup (IsSound owner count) events → events_apply s events ≡ true → GroupApplies count s raw
  record-applies s raw events is each puts apply =
      group-applies s raw is.paged each (subst (EachOfGroup (IsSound owner count)) (sym is.means) puts) (ap (events_apply s) is.means ∙ apply)

-- ---- one plain change

pub plain-recorded : (s : Durable) (c : Change) → has_its_pages (size_before s.tree c) c ≡ true → puts_some c ≡ true → IsRecordOf s (Plain c ∷ []) (Plain (meant (size_before s.tree c) c) ∷ [])
plain-recorded s c is some = record {
  means = refl;
  paged = (is, tt);
  size = omega (arith, change-size (size_before s.tree c) c is);
  grammatical = λ are. rw some refl;
}

-- ---- events without changes

bare-event : (tree : Tree) (event : Event) → changes_of_event event ≡ [] → (meant_event tree event ≡ event) × (has_event_its_pages tree event ≡ true)
bare-event tree (Plain c) none = absurd (cc)
bare-event tree (Ready transaction (Changes changes)) none = (ap (λ (cs : List Change). Ready transaction (Changes (map (meant 0) cs))) none ∙ ap (λ (cs : List Change). Ready transaction (Changes cs)) (sym none), ap (list_all has_work_pages) none)
bare-event tree (Ready transaction (Enlistment enlistment manager information)) none = (refl, refl)
bare-event tree (Ready transaction (Settings settings)) none = (refl, refl)
bare-event tree (Single transaction (Changes changes)) none = (ap (λ (cs : List Change). Single transaction (Changes (map (meant 0) cs))) none ∙ ap (λ (cs : List Change). Single transaction (Changes cs)) (sym none), ap (list_all has_work_pages) none)
bare-event tree (Single transaction (Enlistment enlistment manager information)) none = (refl, refl)
bare-event tree (Single transaction (Settings settings)) none = (refl, refl)
bare-event tree (Boot boot) none = (refl, refl)
bare-event tree (MadeRm manager) none = (refl, refl)
bare-event tree (Held transaction enlistment manager information) none = (refl, refl)
bare-event tree (Decide transaction) none = (refl, refl)
bare-event tree (Undo transaction) none = (refl, refl)
bare-event tree (Done transaction done) none = (refl, refl)

bare-means : (s : Durable) (events : Group) → All (λ event. changes_of_event event ≡ []) events → (meant_group s events ≡ events) × HaveTheirPages s events
bare-means s [] none = (refl, tt)
bare-means s (event ∷ events) none =
    let here = bare-event s.tree event (All-head (λ event. changes_of_event event ≡ []) event events none) in
    let rest = bare-means (paged_after s event) events (All-tail (λ event. changes_of_event event ≡ []) event events none) in
    (ap (λ (e : Event). e ∷ meant_group (paged_after s event) events) here.0 ∙ ap (λ (es : Group). event ∷ es) rest.0, (here.1, rest.1))

pub bare-recorded : (s : Durable) (events : Group) → All (λ event. changes_of_event event ≡ []) events → IsRecordOf s events events
bare-recorded s events none = let means = bare-means s events none in record { means = means.0; paged = means.1; size = omega arith; grammatical = λ are. are }

-- ---- what steps record

meant-none : (s : Durable) → IsRecordOf s [] []
meant-none s = record { means = refl; paged = tt; size = omega arith; grammatical = λ are. refl }

meant_group-append : (s : Durable) (first second : Group) → meant_group s (first ++ second) ≡ meant_group s first ++ meant_group (paged_after_all s first) second
meant_group-append s [] second = refl
meant_group-append s (event ∷ first) second = ap (λ (es : Group). meant_event s.tree event ∷ es) (meant_group-append (paged_after s event) first second)

have-append : (s : Durable) (first second : Group) → HaveTheirPages s first → HaveTheirPages (paged_after_all s first) second → HaveTheirPages s (first ++ second)
have-append s [] second have more = more
have-append s (event ∷ first) second have more = (have.0, have-append (paged_after s event) first second have.1 more)

meant-append : (s : Durable) (first second events more : Group) → IsRecordOf s first events → IsRecordOf (paged_after_all s first) second more → IsRecordOf s (first ++ second) (events ++ more)
meant-append s first second events more here rest = record {
  means = meant_group-append s first second ∙ ap (λ (es : Group). es ++ meant_group (paged_after_all s first) second) here.means ∙ ap (λ (es : Group). events ++ es) rest.means;
  paged = have-append s first second here.paged rest.paged;
  size = omega (arith, sum_by-append event_size first second, sum_by-append event_size events more, here.size, rest.size);
  grammatical = λ are.
      let parts = and_parts (list_all is_grammatical events) (list_all is_grammatical more) (sym (list_all-append is_grammatical events more) ∙ are) in
      list_all-append is_grammatical first second ∙ and_from _ _ (here.grammatical parts.0) (rest.grammatical parts.1);
}

-- an event without changes means itself
meant-bare : (s : Durable) (event : Event) → changes_of_event event ≡ [] → IsRecordOf s (event ∷ []) (event ∷ [])
meant-bare s event none = bare-recorded s (event ∷ []) (All-cons (λ event. changes_of_event event ≡ []) event [] none (All-nil (λ event. changes_of_event event ≡ [])))

meant-if : (s : Durable) (b : Bool) (event : Event) → changes_of_event event ≡ [] → IsRecordOf s (event_if b event) (event_if b event)
meant-if s true event none = meant-bare s event none
meant-if s false event none = meant-none s

meant-caller : (s : Durable) (e : Option Enlisted) (ms : List Manager) (event : Enlisted → Event) → ((e : Enlisted) → changes_of_event (event e) ≡ []) → IsRecordOf s (event_of_caller e ms event) (event_of_caller e ms event)
meant-caller s None ms event none = meant-none s
meant-caller s (Some e) ms event none = meant-if s (is_durable_at ms e.manager) (event e) (none e)

meant-held : (s : Durable) (id : Id) (e : Option Enlisted) → IsRecordOf s (held_event id e) (held_event id e)
meant-held s id None = meant-none s
meant-held s id (Some e) = meant-bare s (Held id e.id e.manager e.information) refl

-- as many changes are recorded, in no more bytes
changes-size : (cs : List Change) → list_all has_work_pages cs ≡ true → sum_by change_size cs ≤ sum_by change_size (map (meant 0) cs)
changes-size [] are = omega arith
changes-size (c ∷ cs) are =
    let parts = and_parts (has_work_pages c) (list_all has_work_pages cs) are in
    let here = change-size 0 c (work-paged c parts.0) in
    let rest = changes-size cs parts.1 in
    omega (arith, sum_by-cons change_size c cs, sum_by-cons change_size (meant 0 c) (map (meant 0) cs), here, rest)

same-changes : (raw : List Change) → has_changes (map (meant 0) raw) ≡ has_changes raw
same-changes [] = refl
same-changes (c ∷ cs) = refl

-- an event that names changes is as the grammar has it where what it means is, and each change puts some
puts-named : (event : Part → Event) → ((changes : List Change) → names_objects (event (Changes changes)) ≡ names_objects (event (Changes []))) → ((changes : List Change) → changes_of_event (event (Changes changes)) ≡ changes) → (raw : List Change) → list_all puts_some raw ≡ true
    → list_all is_grammatical (event (Changes (map (meant 0) raw)) ∷ []) ≡ true → list_all is_grammatical (event (Changes raw) ∷ []) ≡ true
puts-named event names changes raw some are =
    let named = and_parts (names_objects (event (Changes (map (meant 0) raw)))) _ (and_parts (is_grammatical (event (Changes (map (meant 0) raw)))) true are).0 in
    and_from _ _ (and_from _ _ (names raw ∙ sym (names (map (meant 0) raw)) ∙ named.0) (ap (list_all puts_some) (changes raw) ∙ some)) refl

meant-ready : (s : Durable) (id : Id) (raw : List Change) → list_all has_work_pages raw ≡ true → list_all puts_some raw ≡ true
    → IsRecordOf s (event_if (has_changes raw) (Ready id (Changes raw))) (event_if (has_changes (map (meant 0) raw)) (Ready id (Changes (map (meant 0) raw))))
meant-ready s id [] are some = meant-none s
meant-ready s id (c ∷ cs) are some = record { means = refl; paged = (are, tt); size = omega (arith, changes-size (c ∷ cs) are); grammatical = puts-named (Ready id) (λ changes. refl) (λ changes. refl) (c ∷ cs) some }

module _ (s : Durable) (b : Basis) (raw : List Change) (are : list_all has_work_pages raw ≡ true) (some : list_all puts_some raw ≡ true) where
  -- the basis as it is recorded, and the one that is meant
  abbrev on_pages : Basis
  on_pages = record b { changes = raw }

  abbrev in_places : Basis
  in_places = record b { changes = map (meant 0) raw }

  fact-meant : (fact : Fact) → IsRecordOf s (events_of fact on_pages) (events_of fact in_places)
  fact-meant Fact.ReadyFiles = meant-ready s b.id raw are some
  fact-meant Fact.ReadyKeys = meant-if s (has_settings b.settings) (Ready b.id (Settings b.settings)) refl
  fact-meant Fact.Ready = meant-caller s b.caller b.managers (λ e. Ready b.id (enlistment_part e)) (λ e. refl)
  fact-meant Fact.Held = meant-held s b.id b.superior
  fact-meant Fact.Decide = meant-if s b.is_recorded (Decide b.id) refl
  fact-meant Fact.Undo = meant-if s b.is_recorded (Undo b.id) refl
  fact-meant Fact.DoneFiles = subst (λ (has : Bool). IsRecordOf s (event_if (has_changes raw) (Done b.id DonePart.Files)) (event_if has (Done b.id DonePart.Files))) (sym (same-changes raw)) (meant-if s (has_changes raw) (Done b.id DonePart.Files) refl)
  fact-meant Fact.DoneKeys = meant-if s (has_settings b.settings) (Done b.id DonePart.Keys) refl
  fact-meant Fact.Done = meant-caller s b.caller b.managers (λ e. Done b.id (DonePart.Enlistment e.id)) (λ e. refl)
  fact-meant Fact.SingleFiles = record { means = refl; paged = (are, tt); size = omega (arith, changes-size raw are); grammatical = puts-named (Single b.id) (λ changes. refl) (λ changes. refl) raw some }
  fact-meant Fact.SingleKeys = meant-bare s (Single b.id (Settings b.settings)) refl

  fact-recorded : (fact : Fact) → is_recorded_by fact in_places ≡ is_recorded_by fact on_pages
  fact-recorded Fact.ReadyFiles = ap (λ (has : Bool). b.is_recorded || has) (same-changes raw)
  fact-recorded Fact.ReadyKeys = refl
  fact-recorded Fact.Ready = refl
  fact-recorded Fact.Held = refl
  fact-recorded Fact.Decide = refl
  fact-recorded Fact.Undo = refl
  fact-recorded Fact.DoneFiles = refl
  fact-recorded Fact.DoneKeys = refl
  fact-recorded Fact.Done = refl
  fact-recorded Fact.SingleFiles = refl
  fact-recorded Fact.SingleKeys = refl

steps-meant : (s : Durable) (steps : List Step) (b : Basis) (raw : List Change) → list_all has_work_pages raw ≡ true → list_all puts_some raw ≡ true
    → IsRecordOf s (events_ahead steps (record b { changes = raw })) (events_ahead steps (record b { changes = map (meant 0) raw }))
steps-meant s [] b raw are some = meant-none s
steps-meant s (Record fact ∷ steps) b raw are some =
    let on = record b { changes = raw } in
    let after = record b { is_recorded = is_recorded_by fact (record b { changes = map (meant 0) raw }) } in
    let u = paged_after_all s (events_of fact on) in
    meant-append s (events_of fact on) _ (events_of fact (record b { changes = map (meant 0) raw })) (events_ahead steps (record after { changes = map (meant 0) raw })) (fact-meant s b raw are some fact)
    (subst (λ (r : Bool). IsRecordOf u (events_ahead steps (record b { changes = raw; is_recorded = r })) (events_ahead steps (record after { changes = map (meant 0) raw }))) (fact-recorded s b raw are some fact) (steps-meant u steps after raw are some))
steps-meant s (Step.Commit ∷ steps) b raw are some = steps-meant s steps b raw are some
steps-meant s (Tell who kind ∷ steps) b raw are some = steps-meant s steps b raw are some
steps-meant s (Ask who kind owed ∷ steps) b raw are some = steps-meant s steps b raw are some
steps-meant s (Step.Change answer ∷ steps) b raw are some = steps-meant s steps b raw are some
steps-meant s (Enter phase ∷ steps) b raw are some = steps-meant s steps b raw are some
steps-meant s (DecideIt outcome ∷ steps) b raw are some = steps-meant s steps b raw are some
steps-meant s (End outcome ∷ steps) b raw are some = steps-meant s steps b raw are some
steps-meant s (EndWhereFinished outcome ∷ steps) b raw are some = steps-meant s steps b raw are some

pub course-recorded : (s : Durable) (steps : List Step) (b : Basis) (raw : List Change) → map (meant 0) raw ≡ b.changes → list_all has_work_pages raw ≡ true → list_all puts_some raw ≡ true
    → IsRecordOf s (events_ahead steps (record b { changes = raw })) (events_ahead steps b)
course-recorded s steps b raw is are some = subst (λ (cs : List Change). IsRecordOf s (events_ahead steps (record b { changes = raw })) (events_ahead steps (record b { changes = cs }))) is (steps-meant s steps b raw are some)

pub records_law : RecordsLaw
records_law = record { plain = plain-recorded; course = course-recorded; bare = bare-recorded; applies = record-applies }
