-- What a machine records has bytes.
use Rattle.std.specs.Prelude.{⊤}
use Rattle.std.proofs.Common.{◌≡◌, ℕ, ◌+◌, ◌≤◌, ◌==◌, ◌&&◌, not, Bool, true, false, is_none, nat_le, List, [], ◌∷◌, filter, length, refl, sym, subst, ◌∙◌, ap, arith, inl, inr, ◌++◌, length-append}
use Rattle.std.proofs.lemmas.Bool.{cases_Bool, and_parts, leb-true, true≢false}
use Rattle.std.proofs.lemmas.List.Elements.{All-from_recursion, recursion_from_All}
use Rattle.std.specs.List.{AllByRecursion, flat_map, list_all}
use Rattle.ktm_base.specs.declared.limits.TheConstants.{MOST_NUMBER, MOST_INFORMATION_BYTES}
use Rattle.ktm_base.specs.declared.id.Id.{Id}
use Rattle.ktm_event.specs.Spelling.{AreSpellableChanges, AreSpellablePages, AreSpellableSettings, IsSpellableChange, IsSpellableDone, IsSpellableEvent, IsSpellableId, IsSpellablePart, IsSpellableRecord, IsSpellableSole}
use Rattle.ktm_world.specs.declared.change.Change.{Change}
use Rattle.ktm_world.specs.declared.change.Change.TheVariants.{Make, Put, Cut, Move, Drop}
use Rattle.ktm_world.specs.declared.event.DonePart.{DonePart}
use Rattle.ktm_world.specs.declared.event.Event.{Event}
use Rattle.ktm_world.specs.declared.event.Event.TheVariants.{Boot, MadeRm, Plain, Ready, Single, Held, Decide, Undo, Done}
use Rattle.ktm_world.specs.declared.event.Part.{Part}
use Rattle.ktm_world.specs.declared.event.Part.TheVariants.{Enlistment, Changes, Settings}
use Rattle.ktm_world.specs.Changes.{applies, changes_apply, is_empty_list}
use Rattle.ktm_world.specs.Decide.{decide}
use Rattle.ktm_world.specs.Durable.{Durable, Recorded, after_event, fact_applies, has_undone, is_decided, is_new_enlistment, is_new_in, is_sole, is_within_limits, may_get_ready, part_applies, recorded_at}
use Rattle.ktm_world.specs.Keys.{OwnSettings}
use Rattle.ktm_world.specs.Outcome.{Outcome, apply, committed_now}
use Rattle.ktm_world.specs.Present.{Present}
use Rattle.ktm_world.specs.Transactions.{same_id}
use Rattle.ktm_world.specs.Tree.{Tree, is_file}
use Rattle.ktm_world.specs.World.{decide_tick, done_if, own_events, own_group}
use Rattle.ktm_steps.proofs.offered.Recorded.{all-append}
use Rattle.txf_laws.specs.Elements.{IsIn}
use Rattle.txf_laws.specs.GoodState.{IsGoodState, is_drawn, is_of_object}
use Rattle.txf_laws.specs.Grammatical.{ids_done, ids_in, names_objects}
use Rattle.ktm_records.specs.Kept.{facts_apply}
use Rattle.ktm_courses.specs.NamedObjects.{NamedLaw}
use Rattle.ktm_records.specs.RecordedFacts.{RecordedFactsLaw}
use Rattle.ktm_records.specs.Spelling.{AreSpelled, AreTexts, SpellingLaw, most_at_once}
use Rattle.ktm_records.proofs.CommittedTexts.{texts-committed}
use Rattle.ktm_records.proofs.offered.DurableLimits.{limits-kept}
use Rattle.txf_laws.proofs.offered.Elements.{list_all-at, list_any-at, length-filter-less}
use Rattle.ktm_records.proofs.OwnEvents.{IsOwnEvent, IsSpelledPut}
use Rattle.ktm_records.proofs.OwnRecords.{IsShortGroup, KeepsTexts, Owned, does-decided, does-tick}
use Rattle.ktm_records.proofs.offered.OwnSizes.{no-pages, spelled-name, spelled-owned}
use Rattle.ktm_records.proofs.OwnTexts.{grouped-texts, recorded-texts, restarted-texts, spelled-texts}
use Rattle.ktm_records.proofs.offered.AgreementOfRollbacks.{is_undo}

-- ---- the parts of events

spelled-id : (id : Id) → is_of_object id ≡ true → IsSpellableId id
spelled-id id is =
    let both = and_parts (nat_le 1 id.boot && nat_le 1 id.number) (nat_le id.number MOST_NUMBER) is in
    let from = and_parts (nat_le 1 id.boot) (nat_le 1 id.number) both.0 in
    record { boot_from = leb-true 1 id.boot from.0; number_from = leb-true 1 id.number from.1 }

-- the first of some Ids, and the others
spelled-first : (id : Id) (ids : List Id) → list_all is_of_object (id ∷ ids) ≡ true → IsSpellableId id × (list_all is_of_object ids ≡ true)
spelled-first id ids named = let parts = and_parts (is_of_object id) (list_all is_of_object ids) named in (spelled-id id parts.0, parts.1)

none-in : (pages : List ℕ) → is_empty_list pages ≡ true → pages ≡ []
none-in [] is = refl
none-in (p ∷ ps) is = absurd (true≢false (sym is))

-- a plain change that applies
spelled-plain : (tree : Tree) (c : Change) → applies tree c ≡ true → IsSpelledPut c → IsSpellableChange c
spelled-plain tree (Make node parent kind name) is put = spelled-name tree (Make node parent kind name) is refl
spelled-plain tree (Put node offset contents) is put = put
spelled-plain tree (Cut node size pages) is put = subst AreSpellablePages (sym (none-in pages (and_parts (is_file tree node) (is_empty_list pages) is).1)) no-pages
spelled-plain tree (Move node parent name) is put = spelled-name tree (Move node parent name) is refl
spelled-plain tree (Drop node) is put = tt

spelled-record : (s : Durable) (enlistment manager : Id) (information : List ℕ) → is_new_enlistment s enlistment manager information ≡ true → list_all is_of_object (enlistment ∷ manager ∷ []) ≡ true
    → IsSpellableRecord enlistment manager information
spelled-record s enlistment manager information new named =
    let first = spelled-first enlistment (manager ∷ []) named in
    let short = leb-true (length information) MOST_INFORMATION_BYTES (and_parts _ (nat_le (length information) MOST_INFORMATION_BYTES) new).1 in
    record { enlisted = first.0; managed = (spelled-first manager [] first.1).0; short = omega (arith, short) }

-- ---- events

-- what an event records of what a transaction has to commit, or puts, has bytes
abbrev IsOwn : Event → Type 0
IsOwn event = IsOwnEvent AreSpellableChanges AreSpellableSettings ⊤ event

spelled-part : (s : Durable) (id : Id) (part : Part) → part_applies s id part ≡ true → list_all is_of_object (ids_in part) ≡ true → IsOwn (Ready id part) → IsSpellablePart part
spelled-part s id (Enlistment enlistment manager information) is named own = spelled-record s enlistment manager information is named
spelled-part s id (Changes changes) is named own = own
spelled-part s id (Settings settings) is named own = own

spelled-sole : (id : Id) (part : Part) → is_sole part ≡ true → IsOwn (Single id part) → IsSpellableSole part
spelled-sole id (Enlistment enlistment manager information) sole own = absurd (true≢false (sym sole))
spelled-sole id (Changes changes) sole own = own
spelled-sole id (Settings settings) sole own = own

spelled-done : (done : DonePart) → list_all is_of_object (ids_done done) ≡ true → IsSpellableDone done
spelled-done (DonePart.Enlistment id) named = (spelled-first id [] named).0
spelled-done DonePart.Files named = tt
spelled-done DonePart.Keys named = tt

-- an event that applies and names objects
spelled-event : (s : Durable) (event : Event) → fact_applies s event ≡ true → names_objects event ≡ true → IsOwn event → IsSpellableEvent event
spelled-event s (Boot boot) is named own = tt
spelled-event s (MadeRm manager) is named own = (spelled-first manager [] named).0
spelled-event s (Plain change) is named own = spelled-plain s.tree change (applied is) (own tt)
  where
    applied : fact_applies s (Plain change) ≡ true → applies s.tree change ≡ true
    applied facts =
        let tests = (and_parts _ (list_all (is_new_in s.tree) (change ∷ [])) facts).0 in
        (and_parts (applies s.tree change) true (and_parts _ (changes_apply s.tree (change ∷ [])) tests).1).0
spelled-event s (Ready transaction part) is named own =
    let first = spelled-first transaction (ids_in part) named in
    (first.0, spelled-part s transaction part (and_parts (may_get_ready s transaction) (part_applies s transaction part) is).1 first.1 own)
spelled-event s (Single transaction part) is named own =
    let first = spelled-first transaction (ids_in part) named in
    let tests = and_parts (transaction.boot == s.boots && is_none (recorded_at s.transactions transaction) && is_sole part) (part_applies s transaction part) is in
    (first.0, spelled-sole transaction part (and_parts (transaction.boot == s.boots && is_none (recorded_at s.transactions transaction)) (is_sole part) tests.0).1 own)
spelled-event s (Held transaction enlistment manager information) is named own =
    let first = spelled-first transaction (enlistment ∷ manager ∷ []) named in
    (first.0, spelled-record s enlistment manager information (and_parts (may_get_ready s transaction) (is_new_enlistment s enlistment manager information) is).1 first.1)
spelled-event s (Decide transaction) is named own = (spelled-first transaction [] named).0
spelled-event s (Undo transaction) is named own = (spelled-first transaction [] named).0
spelled-event s (Done transaction done) is named own = let first = spelled-first transaction (ids_done done) named in (first.0, spelled-done done first.1)

spelled-events : (events : List Event) (s : Durable) → facts_apply s events ≡ true → list_all names_objects events ≡ true → AllByRecursion IsOwn events → AllByRecursion IsSpellableEvent events
spelled-events [] s is named own = tt
spelled-events (event ∷ events) s is named own =
    let here = and_parts (fact_applies s event) (facts_apply (after_event s event) events) is in
    let names = and_parts (names_objects event) (list_all names_objects events) named in
    (spelled-event s event here.0 names.0 own.0, spelled-events events (after_event s event) here.1 names.1 own.1)

-- ---- rollbacks

own-undo : (event : Event) → is_undo event ≡ true → IsOwn event
own-undo (Undo transaction) is = tt
own-undo _ is = absurd (true≢false (sym is))

own-undos : (events : List Event) → list_all is_undo events ≡ true → AllByRecursion IsOwn events
own-undos [] all = tt
own-undos (event ∷ events) all = let parts = and_parts (is_undo event) (list_all is_undo events) all in (own-undo event parts.0, own-undos events parts.1)

-- one that is there is left out
length-left : {X : Type 0} (keep : X → Bool) (xs : List X) (x : X) → IsIn x xs → keep x ≡ false → length (filter keep xs) + 1 ≤ length xs
length-left keep [] x there out = absurd there
length-left keep (y ∷ ys) x (inl e) out = rw (ap keep e ∙ out) (let less = length-filter-less keep ys in omega (arith, less))
length-left keep (y ∷ ys) x (inr there) out =
    let rest = length-left keep ys x there out in
    elim (cases_Bool (keep y)) [ inl stays ↦ rw stays (omega (arith, rest)) | inr goes ↦ rw goes (omega (arith, rest)) ]

-- each takes a transaction out of the log
few-undos : (events : List Event) (s : Durable) → facts_apply s events ≡ true → list_all is_undo events ≡ true → length events ≤ length s.transactions
few-undos [] s is all = omega arith
few-undos (Undo transaction ∷ events) s is all =
    let here = and_parts (fact_applies s (Undo transaction)) (facts_apply (after_event s (Undo transaction)) events) is in
    let at = list_any-at (λ (t : Recorded). same_id t.id transaction && not (is_decided t.stage)) s.transactions here.0 in
    let left = length-left (λ (t : Recorded). not (same_id t.id transaction)) s.transactions at.0 at.1 (ap not (and_parts (same_id at.0.id transaction) (not (is_decided at.0.stage)) at.2).0) in
    let rest = few-undos events (after_event s (Undo transaction)) here.1 all in
    omega (arith, left, rest)
few-undos (_ ∷ events) s is all = absurd (true≢false (sym all))

-- ---- what a restart records

spelled-if : (b : Bool) (id : Id) (done : DonePart) → IsSpellableId id → IsSpellableDone done → AllByRecursion IsSpellableEvent (done_if b id done)
spelled-if true id done here participant = ((here, participant), tt)
spelled-if false id done here participant = tt

few-if : (b : Bool) (id : Id) (done : DonePart) → length (done_if b id done) ≤ 1
few-if true id done = omega arith
few-if false id done = omega arith

spelled-ends : (ts : List Recorded) → ((t : Recorded) → IsIn t ts → IsSpellableId t.id) → AllByRecursion IsSpellableEvent (flat_map own_events ts)
spelled-ends [] each = tt
spelled-ends (t ∷ ts) each =
    let files = done_if (has_undone DonePart.Files t) t.id DonePart.Files in
    let keys = done_if (has_undone DonePart.Keys t) t.id DonePart.Keys in
    let here = each t (inl refl) in
    all-append IsSpellableEvent (files ++ keys) (flat_map own_events ts)
    (all-append IsSpellableEvent files keys (spelled-if (has_undone DonePart.Files t) t.id DonePart.Files here tt) (spelled-if (has_undone DonePart.Keys t) t.id DonePart.Keys here tt))
    (spelled-ends ts (λ u there. each u (inr there)))

few-ends : (ts : List Recorded) → length (flat_map own_events ts) ≤ length ts + length ts
few-ends [] = omega arith
few-ends (t ∷ ts) =
    let files = done_if (has_undone DonePart.Files t) t.id DonePart.Files in
    let keys = done_if (has_undone DonePart.Keys t) t.id DonePart.Keys in
    let both = length-append files keys in
    let all = length-append (files ++ keys) (flat_map own_events ts) in
    let first = few-if (has_undone DonePart.Files t) t.id DonePart.Files in
    let second = few-if (has_undone DonePart.Keys t) t.id DonePart.Keys in
    let rest = few-ends ts in
    omega (arith, both, all, first, second, rest)

spelled-restart : (s : Durable) → IsGoodState s → AreSpelled (own_group s)
spelled-restart s good =
    let few = few-ends s.transactions in
    let most = (limits-kept s good.limits).transactions in
    (All-from_recursion IsSpellableEvent (own_group s) (tt, spelled-ends s.transactions drawn), omega (arith, few, most))
  where
    drawn : (t : Recorded) → IsIn t s.transactions → IsSpellableId t.id
    drawn t there = spelled-id t.id (and_parts (is_of_object t.id) (nat_le t.id.boot s.boots) (list_all-at (λ (t : Recorded). is_drawn s t.id) s.transactions good.transactions_drawn t there)).0

-- ---- all of it

module _ (Files : List Change → Type 0) (Keys : OwnSettings → Type 0) (Asked : Type 0) where
  few-group : (s : Durable) (events : List Event) → is_within_limits s ≡ true → facts_apply s events ≡ true → IsShortGroup Files Keys Asked events → length events ≤ most_at_once
  few-group s events limits is (inl undos) = let few = few-undos events s is undos in let most = (limits-kept s limits).transactions in omega (arith, few, most)
  few-group s events limits is (inr short) = omega (arith, short.1)

own-group : (events : List Event) → IsShortGroup AreSpellableChanges AreSpellableSettings ⊤ events → AllByRecursion IsOwn events
own-group events (inl undos) = own-undos events undos
own-group events (inr short) = short.0

spelled-group : (s : Durable) (events : List Event) → is_within_limits s ≡ true → facts_apply s events ≡ true → list_all names_objects events ≡ true → IsShortGroup AreSpellableChanges AreSpellableSettings ⊤ events → AreSpelled events
spelled-group s events limits is named group =
    (All-from_recursion IsSpellableEvent events (spelled-events events s is named (own-group events group)), few-group AreSpellableChanges AreSpellableSettings ⊤ s events limits is group)

-- of a transaction nothing is asked
free : (x : Present) → Owned (λ changes. ⊤) (λ settings. ⊤) x
free x = record { files = λ id. tt; keys = λ id. tt }

-- after an outcome that leaves the keys texts they are so
kept-texts : (x : Present) (o : Outcome) → KeepsTexts x o → AreTexts x → AreTexts (apply x o)
kept-texts x o keeps texts =
    let has = keeps (recursion_from_All _ _ texts.own) in
    record { store = texts-committed (committed_now x) o.works texts.store has.works; own = All-from_recursion _ _ has.own }

pub spelling_law : NamedLaw → RecordedFactsLaw → SpellingLaw
spelling_law named facts = record {
  commands = λ x process command kept texts units is.
      spelled-group x.recorded (decide x process command).events kept.good.limits (facts.commands x process command kept) (named.commands x process command kept.sound.course)
      (does-decided AreSpellableChanges AreSpellableSettings ⊤ x (spelled-owned x kept texts units) process command (λ asked. is)).group;
  ticks = λ x ms kept texts units.
      spelled-group x.recorded (decide_tick x ms).events kept.good.limits (facts.ticks x ms kept) (named.ticks x ms kept.sound.course)
      (does-tick AreSpellableChanges AreSpellableSettings ⊤ x (spelled-owned x kept texts units) ms).group;
  few = λ x process command kept.
      few-group (λ changes. ⊤) (λ settings. ⊤) ⊥ x.recorded (decide x process command).events kept.good.limits (facts.commands x process command kept)
      (does-decided (λ changes. ⊤) (λ settings. ⊤) ⊥ x (free x) process command (λ none. absurd none)).group;
  few_later = λ x ms kept.
      few-group (λ changes. ⊤) (λ settings. ⊤) ⊥ x.recorded (decide_tick x ms).events kept.good.limits (facts.ticks x ms kept) (does-tick (λ changes. ⊤) (λ settings. ⊤) ⊥ x (free x) ms).group;
  stay = λ x process command is. kept-texts x (decide x process command) ((does-decided (λ changes. ⊤) (λ settings. ⊤) ⊤ x (free x) process command (λ asked. is)).texts tt);
  stay_later = λ x ms. kept-texts x (decide_tick x ms) ((does-tick (λ changes. ⊤) (λ settings. ⊤) ⊤ x (free x) ms).texts tt);
  restarts = restarted-texts;
  events = recorded-texts;
  grammar = spelled-texts;
  groups = grouped-texts;
  own_groups = spelled-restart;
}
