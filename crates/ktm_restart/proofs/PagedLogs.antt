-- What a log comes to that is recorded with pages.
use Rattle.std.proofs.Common.{◌≡◌, ℕ, ◌<◌, true, All, List, [], ◌∷◌, ◌++◌, map, refl, sym, ◌∙◌, ap, subst, inl}
use Rattle.std.proofs.lemmas.Bool.{and_parts}
use Rattle.std.proofs.lemmas.List.Elements.{All-head, All-nil, All-tail}
use Rattle.std.proofs.lemmas.List.Sums.{fold-append}
use Rattle.std.specs.List.{flat_map, list_all}
use Rattle.ktm_each.specs.Each.{EachOfChange, EachOfChanges, EachOfDurable}
use Rattle.ktm_each.proofs.offered.Durables.{after_event-each}
use Rattle.ktm_journal.specs.Image.{page_count}
use Rattle.ktm_paged.proofs.offered.Meanings.{log-meant}
use Rattle.ktm_paged.specs.Laws.{PagedLaw}
use Rattle.ktm_paged.specs.Meaning.{has_event_its_pages, has_work_pages, meant, meant_event, meant_part, pages_in}
use Rattle.ktm_paged.specs.Paged.{GroupApplies, IsApart, IsOwned, LieBelow, LogApplies, PagedApplies, meant_log, paged_after, paged_after_all, paged_stand}
use Rattle.ktm_restart.specs.Logs.{AllApplyTo, AppliesTo, IsOnPages}
use Rattle.txf_laws.specs.GoodState.{IsGoodState}
use Rattle.txf_laws.specs.Grammatical.{changes_of_event, is_grammatical}
use Rattle.ktm_world.specs.declared.change.Change.{Change}
use Rattle.ktm_world.specs.declared.event.Event.{Event}
use Rattle.ktm_world.specs.declared.event.Event.TheVariants.{Boot, MadeRm, Plain, Ready, Single, Held, Decide, Undo, Done}
use Rattle.ktm_world.specs.declared.event.Part.{Part}
use Rattle.ktm_world.specs.declared.event.Part.TheVariants.{Changes, Enlistment, Settings}
use Rattle.ktm_world.specs.Durable.{Durable, after_event, after_events, changes_in, event_applies, events_apply}
use Rattle.ktm_world.specs.Tree.{Tree}
use Rattle.ktm_world.specs.Logs.{Group}
use Rattle.ktm_world.proofs.offered.Durables.{stand-image, stand-units}

-- ---- numbers of the image

pub paged-units : (base : Durable) (log : List Group) → (paged_stand base log).units ≡ base.units
paged-units base log = ap (λ (s : Durable). s.units) (log-meant base log) ∙ stand-units base (meant_log base log)

pub paged-image : (base : Durable) (log : List Group) → (paged_stand base log).image ≡ base.image
paged-image base log = ap (λ (s : Durable). s.image) (log-meant base log) ∙ stand-image base (meant_log base log)

-- ---- logs of one group more

pub paged-append : (base : Durable) (log more : List Group) → paged_stand base (log ++ more) ≡ paged_stand (paged_stand base log) more
paged-append base log more = fold-append paged_after_all base log more

module _ (count : ℕ) where
  pub applies-push : (base : Durable) (log : List Group) (events : Group) → LogApplies count base log → GroupApplies count (paged_stand base log) events → LogApplies count base (log ++ events ∷ [])
  applies-push base [] events applies last = (last, tt)
  applies-push base (g ∷ log) events applies last = (applies.0, applies-push (paged_after_all base g) log events applies.1 last)

  -- of groups that apply each applies behind those before it
  pub applies-behind : (base : Durable) (front more : List Group) (events : Group) → LogApplies count base (front ++ events ∷ more) → GroupApplies count (paged_stand base front) events
  applies-behind base [] more events applies = applies.0
  applies-behind base (g ∷ front) more events applies = applies-behind (paged_after_all base g) front more events applies.1

  -- ---- places stay apart

  group-apart : (s : Durable) (events : Group) → GroupApplies count s events → IsApart s → IsApart (paged_after_all s events)
  group-apart s [] applies apart = apart
  group-apart s (event ∷ events) applies apart = group-apart (paged_after s event) events applies.1 applies.0.apart

  log-apart : (base : Durable) (log : List Group) → LogApplies count base log → IsApart base → IsApart (paged_stand base log)
  log-apart base [] applies apart = apart
  log-apart base (g ∷ log) applies apart = log-apart (paged_after_all base g) log applies.1 (group-apart base g applies.0 apart)

-- behind the groups of a log the next one applies
pub next-applies : (base state : Durable) (log : List Group) (events : Group) → state ≡ paged_stand base log → AllApplyTo base log → AppliesTo state events → AllApplyTo base (log ++ events ∷ [])
next-applies base state log events is applies next =
    applies-push (page_count base.units) base log events applies
    (subst (λ n. GroupApplies (page_count n) (paged_stand base log) events) (paged-units base log) (subst (λ (s : Durable). AppliesTo s events) is next))

pub applied-behind : (base : Durable) (front more : List Group) (events : Group) → AllApplyTo base (front ++ events ∷ more) → AppliesTo (paged_stand base front) events
applied-behind base front more events applies =
    subst (λ n. GroupApplies (page_count n) (paged_stand base front) events) (sym (paged-units base front)) (applies-behind (page_count base.units) base front more events applies)

-- a good state on pages stays so, of groups as the grammar has them
module _ (law : PagedLaw) (base : Durable) (log : List Group) (good : IsGoodState base) (grammatical : list_all (list_all is_grammatical) log ≡ true) (applies : AllApplyTo base log) where
  pub stays-good : IsGoodState (paged_stand base log)
  stays-good = (law.3 (page_count base.units)).1.log base log good grammatical applies

  pub stays-on_pages : IsOnPages base → IsOnPages (paged_stand base log)
  stays-on_pages on_pages = record {
    below = subst (λ n. LieBelow (page_count n) (paged_stand base log)) (sym (paged-units base log)) ((law.3 (page_count base.units)).2.log base log good grammatical applies on_pages.below);
    apart = log-apart (page_count base.units) base log applies on_pages.apart;
  }

-- ---- events that change no file mean themselves

same-part : (part : Part) → changes_in part ≡ [] → meant_part part ≡ part
same-part (Enlistment enlistment manager information) none = refl
same-part (Changes changes) none = ap (λ (cs : List Change). Changes (map (meant 0) cs)) none ∙ ap (λ (cs : List Change). Changes cs) (sym none)
same-part (Settings settings) none = refl

means-itself : (tree : Tree) (event : Event) → changes_of_event event ≡ [] → meant_event tree event ≡ event
means-itself tree (Boot boot) none = refl
means-itself tree (MadeRm manager) none = refl
means-itself tree (Plain change) none = absurd (cc)
means-itself tree (Ready transaction part) none = ap (λ (p : Part). Ready transaction p) (same-part part none)
means-itself tree (Single transaction part) none = ap (λ (p : Part). Single transaction p) (same-part part none)
means-itself tree (Held transaction enlistment manager information) none = refl
means-itself tree (Decide transaction) none = refl
means-itself tree (Undo transaction) none = refl
means-itself tree (Done transaction done) none = refl

has-none : (tree : Tree) (event : Event) → changes_of_event event ≡ [] → has_event_its_pages tree event ≡ true
has-none tree (Boot boot) none = refl
has-none tree (MadeRm manager) none = refl
has-none tree (Plain change) none = absurd (cc)
has-none tree (Ready transaction part) none = ap (list_all has_work_pages) none
has-none tree (Single transaction part) none = ap (list_all has_work_pages) none
has-none tree (Held transaction enlistment manager information) none = refl
has-none tree (Decide transaction) none = refl
has-none tree (Undo transaction) none = refl
has-none tree (Done transaction done) none = refl

module _ (count : ℕ) (s : Durable) (event : Event) (none : changes_of_event event ≡ []) where
  pub same-after : paged_after s event ≡ after_event s event
  same-after = ap (after_event s) (means-itself s.tree event none)

  pub applies-itself : IsApart s → event_applies s event ≡ true → PagedApplies count s event
  applies-itself (owner, owned) applies = record {
    paged = has-none s.tree event none;
    below = subst (λ (cs : List Change). All (λ page. page < count) (flat_map pages_in cs)) (sym none) (All-nil (λ page. page < count));
    applies = ap (event_applies s) (means-itself s.tree event none) ∙ applies;
    apart = (
      owner,
      subst (λ (t : Durable). EachOfDurable (IsOwned owner) t) (sym same-after)
          (after_event-each (IsOwned owner) (λ file index. inl refl) s event owned (subst (EachOfChanges (IsOwned owner)) (sym none) (All-nil (EachOfChange (IsOwned owner))))),
    );
  }

-- so groups of them apply as they stand
pub plain-applies : (count : ℕ) (s : Durable) (events : Group) → All (λ event. changes_of_event event ≡ []) events → IsApart s → events_apply s events ≡ true
    → GroupApplies count s events × (paged_after_all s events ≡ after_events s events)
plain-applies count s [] none apart apply = (tt, refl)
plain-applies count s (event ∷ events) none apart apply =
    let first = All-head (λ e. changes_of_event e ≡ []) event events none in
    let both = and_parts (event_applies s event) (events_apply (after_event s event) events) apply in
    let here = applies-itself count s event first apart both.0 in
    let same = same-after count s event first in
    let rest = plain-applies count (paged_after s event) events (All-tail (λ e. changes_of_event e ≡ []) event events none) here.apart (ap (λ (t : Durable). events_apply t events) same ∙ both.1) in
    ((here, rest.0), rest.1 ∙ ap (λ (t : Durable). after_events t events) same)
