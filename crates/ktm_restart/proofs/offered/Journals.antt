-- What a snapshot and groups come to, and for which states journals and new images stand.
use Rattle.std.proofs.Common.{◌≡◌, ◌≤◌, ◌<◌, ◌^◌, ℕ, List, [], ◌∷◌, ◌++◌, refl, sym, ◌∙◌, ap, subst}
use Rattle.std.proofs.lemmas.List.Elements.{All-nil}
use Rattle.ktm_base.specs.declared.limits.TheConstants.{LEAST_UNITS}
use Rattle.ktm_base.specs.Disk.{DiskState, MayLeave}
use Rattle.ktm_journal.specs.Image.{IsImage, JournalState, empty_snapshot}
use Rattle.ktm_journal.proofs.offered.Images.{what_is_left}
use Rattle.ktm_snapshot.specs.Examples.{empty_bytes}
use Rattle.ktm_snapshot.specs.StateGrammar.{IsStateOf}
use Rattle.txf_laws.specs.GoodState.{IsGoodState}
use Rattle.txf_laws.specs.GoodStates.{GoodStatesLaw}
use Rattle.ktm_world.specs.Durable.{Durable, empty_state}
use Rattle.ktm_world.specs.Logs.{Group}
use Rattle.ktm_paged.specs.Paged.{paged_after_all}
use Rattle.ktm_restart.specs.Logs.{AppliesTo, ComeTo, IsOnPages, JournalFor, PagedFor, StandsFor, bytes_seen}
use Rattle.ktm_restart.proofs.PagedLogs.{next-applies, paged-append}

-- a group more
pub grows : (state : Durable) (snapshot : List ℕ) (log : List Group) (group : Group) → ComeTo state snapshot log → AppliesTo state group → ComeTo (paged_after_all state group) snapshot (log ++ group ∷ [])
grows state snapshot log group come applies = record {
  first = come.first;
  spelled = come.spelled;
  good = come.good;
  on_pages = come.on_pages;
  applies = next-applies come.first state log group come.is come.applies applies;
  is = ap (λ (s : Durable). paged_after_all s group) come.is ∙ sym (paged-append come.first log (group ∷ []));
}

-- a new snapshot
pub begins : (state : Durable) (snapshot : List ℕ) → IsGoodState state → IsOnPages state → IsStateOf state snapshot → ComeTo state snapshot []
begins state snapshot good on_pages spelled = record { first = state; spelled = spelled; good = good; on_pages = on_pages; applies = tt; is = refl }

-- what a loss of power leaves
pub left : (j : JournalState) (state : Durable) (s : DiskState) (image : List ℕ) → JournalFor j state s → MayLeave s image → PagedFor state image
left j state s image is may = record {
  snapshot = is.snapshot;
  log = is.log;
  is =
      subst (λ u. IsImage u state.image is.snapshot is.log image) (sym is.units)
      (subst (λ i. IsImage j.units i is.snapshot is.log image) (sym is.image) (what_is_left j is.snapshot is.log s image is.at may));
  come = is.come;
}

-- an image of a state over the places of bytes stands for that of the bytes there
pub seen_stands : (places : Durable) (bytes : List ℕ) → PagedFor places bytes → StandsFor (bytes_seen bytes places) bytes
seen_stands places bytes paged = record { places = places; paged = paged; is = refl }

-- the snapshot of a new image is the empty state's
same_empty : empty_bytes ≡ empty_snapshot
unfolding empty_snapshot
same_empty = refl

-- it has no contents
empty_on_pages : (units image : ℕ) → IsOnPages (empty_state units image)
empty_on_pages units image = record {
  below = record { files = All-nil _; works = All-nil _ };
  apart = (λ place. (0, 0), record { tree = All-nil _; transactions = All-nil _ });
}

pub new_paged : GoodStatesLaw → ((units image : ℕ) → IsStateOf (empty_state units image) empty_bytes) → (units image : ℕ) (bytes : List ℕ) → LEAST_UNITS ≤ units → image < 2 ^ 16 → IsImage units image empty_snapshot [] bytes
    → PagedFor (empty_state units image) bytes
new_paged law spelled units image bytes least number is = record {
  snapshot = empty_snapshot;
  log = [];
  is = is;
  come = begins (empty_state units image) empty_snapshot (law.0 units image least number) (empty_on_pages units image) (subst (λ (l : List ℕ). IsStateOf (empty_state units image) l) same_empty (spelled units image));
}

pub new_image : GoodStatesLaw → ((units image : ℕ) → IsStateOf (empty_state units image) empty_bytes) → (units image : ℕ) (bytes : List ℕ) → LEAST_UNITS ≤ units → image < 2 ^ 16 → IsImage units image empty_snapshot [] bytes
    → StandsFor (empty_state units image) bytes
new_image law spelled units image bytes least number is = record { places = empty_state units image; paged = new_paged law spelled units image bytes least number is; is = refl }
