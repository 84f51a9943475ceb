-- What the appending of a group, and a snapshot of what was recorded, make of what a journal comes to.
use Rattle.std.proofs.Common.{◌≡◌, List, [], ◌∷◌, ◌++◌, ℕ, Option, None, Some, refl, sym, ◌∙◌, ap, subst, inl, inr}
use Rattle.std.proofs.lemmas.List.{append-nil}
use Rattle.std.specs.Prelude.{IsSomeAnd}
use Rattle.ktm_base.specs.Disk.{DiskState}
use Rattle.ktm_base.specs.Told.{Goes}
use Rattle.ktm_base.proofs.offered.ToldSteps.{IsSomeAnd-map}
use Rattle.ktm_event.specs.Kept.{EventsState, Holds}
use Rattle.ktm_journal.specs.Compact.{LeavesOldOrNew}
use Rattle.ktm_journal.specs.Image.{IsImage, JournalAt, JournalState, page_count}
use Rattle.ktm_journal.specs.Pages.{LeavesPages}
use Rattle.ktm_log.specs.OnDisk.{OnDisk}
use Rattle.ktm_memory.specs.Memory.{MemoryState, present_of}
use Rattle.ktm_memory.specs.Recorded.{AreCutOff, AreRecorded, LeavesWithOr}
use Rattle.ktm_each.specs.Each.{EachOfDurable}
use Rattle.ktm_paged.specs.Paged.{IsSound, meant_group, paged_after_all}
use Rattle.ktm_paged.proofs.offered.Meanings.{all-meant}
use Rattle.ktm_restart.specs.Logs.{AppliesTo, ComeTo, JournalFor, PagedFor}
use Rattle.ktm_restart.proofs.offered.Journals.{begins, grows}
use Rattle.ktm_saving.specs.Saved.{IsHalfSaved, IsSaved}
use Rattle.txf_laws.specs.GoodState.{IsGoodState}
use Rattle.ktm_snapshot.specs.StateGrammar.{IsStateOf}
use Rattle.ktm_world.specs.Durable.{Durable, after_events}
use Rattle.ktm_world.specs.Logs.{Group, as_groups}
use Rattle.ktm_world.proofs.offered.Durables.{after_events-image, after_events-units}
use Rattle.ktm_core.specs.Recording.{LeavesPaged}
use Rattle.ktm_core.proofs.Lying.{sound-on_pages}

-- what is recorded of a group, which applies, comes to what the group makes of a state
pub paged_then : (state : Durable) (raw group : Group) → meant_group state raw ≡ group → paged_after_all state raw ≡ after_events state group
paged_then state raw group means = all-meant state raw ∙ ap (after_events state) means

-- with a group more, where there are events
comes_with : (state : Durable) (snapshot : List ℕ) (log : List Group) (raw group : Group) → ComeTo state snapshot log → AppliesTo state raw → meant_group state raw ≡ group → ComeTo (after_events state group) snapshot (log ++ as_groups raw)
comes_with state snapshot log raw group come applies means = subst (λ (s : Durable). ComeTo s snapshot (log ++ as_groups raw)) (paged_then state raw group means) (with_raw raw applies)
  where
    with_raw : (events : Group) → AppliesTo state events → ComeTo (paged_after_all state events) snapshot (log ++ as_groups events)
    with_raw [] applies = subst (λ (l : List Group). ComeTo state snapshot l) (sym (append-nil log)) come
    with_raw (event ∷ events) applies = grows state snapshot log (event ∷ events) come applies

-- a journal comes to a state by some snapshot and some groups
from_journal : (j : JournalState) (state : Durable) (told : Option DiskState) (P : Type 0) → IsSomeAnd told (JournalFor j state)
    → ((snapshot : List ℕ) (log : List Group) → state.units ≡ j.units → state.image ≡ j.image → ComeTo state snapshot log → IsSomeAnd told (JournalAt j snapshot log) → P) → P
from_journal j state None P is f = absurd is
from_journal j state (Some s) P is f = f is.snapshot is.log is.units is.image is.come is.at

-- and so it does by these
to_journal : (j : JournalState) (state : Durable) (told : Option DiskState) (snapshot : List ℕ) (log : List Group) → state.units ≡ j.units → state.image ≡ j.image → ComeTo state snapshot log
    → IsSomeAnd told (JournalAt j snapshot log) → IsSomeAnd told (JournalFor j state)
to_journal j state told snapshot log units image come at =
    IsSomeAnd-map told (JournalAt j snapshot log) (JournalFor j state) at (λ s is. record { units = units; image = image; snapshot = snapshot; log = log; at = is; come = come })

-- an image with these comes to the state
stands_in : (state : Durable) (j : JournalState) (snapshot : List ℕ) (log : List Group) (bytes : List ℕ) → state.units ≡ j.units → state.image ≡ j.image → ComeTo state snapshot log → IsImage j.units j.image snapshot log bytes
    → PagedFor state bytes
stands_in state j snapshot log bytes units image come is = record {
  snapshot = snapshot;
  log = log;
  is = subst (λ u. IsImage u state.image snapshot log bytes) (sym units) (subst (λ i. IsImage j.units i snapshot log bytes) (sym image) is);
  come = come;
}

-- what is recorded of a group applies to the state
module _ (events : EventsState) (state : Durable) (raw group : Group) (holds : Holds events raw) (applies : AppliesTo state raw) (means : meant_group state raw ≡ group) (old new : OnDisk MemoryState)
    (disk : IsSomeAnd old.told (JournalFor old.it.journal state)) where
  -- it was appended
  pub appended_for : AreRecorded events old new → IsSomeAnd new.told (JournalFor new.it.journal (after_events state group))
  appended_for recorded =
      let grows = recorded.grows raw holds in
      from_journal old.it.journal state old.told (IsSomeAnd new.told (JournalFor new.it.journal (after_events state group))) disk (λ snapshot log units image come at.
      to_journal new.it.journal (after_events state group) new.told snapshot (log ++ as_groups raw) (after_events-units state group ∙ units ∙ sym (ap (λ (m : MemoryState). m.journal.units) grows))
      (after_events-image state group ∙ image ∙ sym (ap (λ (m : MemoryState). m.journal.image) grows)) (comes_with state snapshot log raw group come applies means) (recorded.adds snapshot log raw holds at))

  -- the power went
  pub appended_or_not : AreCutOff events old new → IsSomeAnd new.told (LeavesPaged state (after_events state group))
  appended_or_not cut = from_journal old.it.journal state old.told (IsSomeAnd new.told (LeavesPaged state (after_events state group))) disk (λ snapshot log units image come at.
      IsSomeAnd-map new.told (LeavesWithOr old.it.journal snapshot log (as_groups raw)) (LeavesPaged state (after_events state group)) (cut.either snapshot log raw holds at) (λ s either bytes may. elim (either bytes may) [
        | inl without ↦ inl (stands_in state old.it.journal snapshot log bytes units image come without)
        | inr with_it ↦ inr (stands_in (after_events state group) old.it.journal snapshot (log ++ as_groups raw) bytes (after_events-units state group ∙ units) (after_events-image state group ∙ image)
            (comes_with state snapshot log raw group come applies means) with_it)
      ]))

  -- and the pages stay
  pub appended_pages : AreCutOff events old new → Goes (LeavesPages old.it.journal.units) old.told new.told
  appended_pages cut = from_journal old.it.journal state old.told (Goes (LeavesPages old.it.journal.units) old.told new.told) disk (λ snapshot log units image come at. cut.pages snapshot log at)

-- a snapshot of what memory shows that was recorded is to stand for what the journal came to
module _ (before : Durable) (old new : OnDisk MemoryState) (good : IsGoodState (present_of old.it).recorded) (owner : ℕ → ℕ × ℕ)
    (sound : EachOfDurable (IsSound owner (page_count (present_of old.it).recorded.units)) (present_of old.it).recorded) (disk : IsSomeAnd old.told (JournalFor old.it.journal before)) where
  begun : (snapshot : List ℕ) → IsStateOf (present_of old.it).recorded snapshot → ComeTo (present_of old.it).recorded snapshot []
  begun snapshot spelled = begins (present_of old.it).recorded snapshot good (sound-on_pages owner (present_of old.it).recorded snapshot spelled sound) spelled

  -- it was written
  pub saved_for : IsSaved old new → IsSomeAnd new.told (JournalFor new.it.journal (present_of old.it).recorded)
  saved_for saved =
      from_journal old.it.journal before old.told (IsSomeAnd new.told (JournalFor new.it.journal (present_of old.it).recorded)) disk (λ snapshot log units image come at.
      to_journal new.it.journal (present_of old.it).recorded new.told saved.snapshot [] (sym (ap (λ (j : JournalState). j.units) saved.compacts.is)) (sym (ap (λ (j : JournalState). j.image) saved.compacts.is))
      (begun saved.snapshot saved.state) (saved.compacts.begins snapshot log at))

  -- the power went
  pub saved_or_not : IsHalfSaved old new → IsSomeAnd new.told (LeavesPaged before (present_of old.it).recorded)
  saved_or_not half = from_journal old.it.journal before old.told (IsSomeAnd new.told (LeavesPaged before (present_of old.it).recorded)) disk (λ snapshot log units image come at.
      IsSomeAnd-map new.told (LeavesOldOrNew old.it.journal snapshot log half.snapshot) (LeavesPaged before (present_of old.it).recorded) (half.cut.either snapshot log at) (λ s either bytes may. elim (either bytes may) [
        | inl was ↦ inl (stands_in before old.it.journal snapshot log bytes units image come was)
        | inr is ↦ inr (stands_in (present_of old.it).recorded old.it.journal half.snapshot [] bytes refl refl (begun half.snapshot half.state) is)
      ]))

  -- and the pages stay
  pub saved_pages : IsHalfSaved old new → Goes (LeavesPages old.it.journal.units) old.told new.told
  saved_pages half = from_journal old.it.journal before old.told (Goes (LeavesPages old.it.journal.units) old.told new.told) disk (λ snapshot log units image come at. half.cut.pages snapshot log at)
