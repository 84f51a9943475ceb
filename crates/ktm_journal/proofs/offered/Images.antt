-- What an append to the log makes of an image, and what may be left of it.
use Rattle.std.specs.Prelude.{IfSome, IsSomeAnd}
use Rattle.std.proofs.Common.{◌≡◌, inl, inr, ℕ, ◌+◌, ◌<◌, Option, None, Some, List, [], ◌∷◌, ◌++◌, get_or, sym, ◌∙◌, subst, arith}
use Rattle.ktm_base.specs.Disk.{DiskState, MayLeave}
use Rattle.ktm_base.specs.Told.{Goes}
use Rattle.ktm_base.proofs.offered.Images.{safe_law}
use Rattle.ktm_base.proofs.offered.ToldSteps.{Goes-map}
use Rattle.ktm_log.specs.declared.area.Area.{Area}
use Rattle.ktm_log.specs.Log.{LogState, IsLog, Rests, LeavesEither, SameElsewhere, area_bytes}
use Rattle.ktm_log.proofs.Parts.{not_covered}
use Rattle.ktm_world.specs.Groups.{Group}
use Rattle.ktm_world.specs.Sizes.{area_len}
use Rattle.ktm_world.specs.EventGrammar.{IsGroupOf}
use Rattle.ktm_journal.specs.Image.{IsFormatted, IsHeaded, HoldGroups, IsImage, JournalState, JournalAt, LeavesGroupOrNot, half_at, half_of, log_area, row_of}
use Rattle.ktm_journal.specs.Pages.{KeepsPages, LeavesPages}
use Rattle.ktm_journal.proofs.offered.Halves.{half_high, half_low, headed_same, snapshot_same}
use Rattle.ktm_journal.proofs.offered.Rows.{row_kept}

-- header, snapshot and pages lie elsewhere than the log
module _ (units image selector : ℕ) (old new : List ℕ) (same : SameElsewhere (log_area units (half_of selector)) old new) where
  other : (place : ℕ) → (place < half_at units (half_of selector) + area_len units) → get_or new place 0 ≡ get_or old place 0
  other place before = same.others place (not_covered (half_at units (half_of selector) + area_len units) (area_len units) place (inl before))

  pub headed_elsewhere : IsHeaded units image selector old → IsHeaded units image selector new
  headed_elsewhere headed =
      let low = half_low units (half_of selector) in
      headed_same old new same.same_length units image selector selector headed (λ place h. other place (omega arith)) (other 2048 (omega arith) ∙ headed.selector_is)

  pub formatted_elsewhere : (snapshot : List ℕ) → IsFormatted units image selector snapshot old → IsFormatted units image selector snapshot new
  formatted_elsewhere snapshot was = record {
    headed = headed_elsewhere was.headed;
    has = snapshot_same old new same.same_length units (half_of selector) snapshot was.has (λ place low high. other place high);
  }

  row_elsewhere : row_of units new ≡ row_of units old
  row_elsewhere = row_kept units (log_area units (half_of selector)).at (log_area units (half_of selector)).len old new (omega (arith, half_high units (half_of selector))) same

-- one group more
pub groups-push : (log : List Group) (ps : List (List ℕ)) (events : Group) (p : List ℕ) → HoldGroups log ps → IsGroupOf events p → HoldGroups (log ++ events ∷ []) (ps ++ p ∷ [])
groups-push [] [] events p hold is = (is, tt)
groups-push [] (q ∷ ps) events p hold is = absurd hold
groups-push (group ∷ log) [] events p hold is = absurd hold
groups-push (group ∷ log) (q ∷ ps) events p hold is = (hold.0, groups-push log ps events p hold.1 is)

-- of what is safe only this may be left
pub what_is_left : (j : JournalState) (snapshot : List ℕ) (log : List Group) (s : DiskState) (image : List ℕ) → JournalAt j snapshot log s → MayLeave s image → IsImage j.units j.image snapshot log image
what_is_left j snapshot log s image at left =
    subst (λ (l : List ℕ). IsImage j.units j.image snapshot log l) (sym ((safe_law s image at.rests.safe).0 left)) (record {
      selector = j.selector;
      formatted = at.formatted;
      payloads = at.payloads;
      groups = at.groups;
      frames = subst (λ (a : Area). IsLog at.payloads (area_bytes a s.seen)) at.area at.rests.log;
    })

-- however many events are counted, the journal is that of the disk
pub counted_at : (j : JournalState) (count : ℕ) (snapshot : List ℕ) (log : List Group) (s : DiskState) → JournalAt j snapshot log s → JournalAt (record j { events = count }) snapshot log s
counted_at j count snapshot log s at = record { area = at.area; formatted = at.formatted; payloads = at.payloads; groups = at.groups; rests = at.rests }

module _ (j : JournalState) where
  pub stays_headed : (old new : Option DiskState) → j.log.area ≡ log_area j.units (half_of j.selector) → IfSome old (λ s. IsHeaded j.units j.image j.selector s.seen)
      → Goes (λ a b. SameElsewhere j.log.area a.seen b.seen) old new → IfSome new (λ s. IsHeaded j.units j.image j.selector s.seen)
  stays_headed None None at was same = tt
  stays_headed None (Some b) at was same = absurd same
  stays_headed (Some a) None at was same = absurd same
  stays_headed (Some a) (Some b) at was same = headed_elsewhere j.units j.image j.selector a.seen b.seen (subst (λ (x : Area). SameElsewhere x a.seen b.seen) at same) was

  -- the pages stay
  pub keeps_pages : (old new : Option DiskState) → j.log.area ≡ log_area j.units (half_of j.selector) → IfSome old (λ s. IsHeaded j.units j.image j.selector s.seen)
      → Goes (λ a b. SameElsewhere j.log.area a.seen b.seen) old new → Goes (KeepsPages j.units) old new
  keeps_pages old new at headed same =
      Goes-map old new (λ (s : DiskState). IsHeaded j.units j.image j.selector s.seen) headed same
      (λ a b is elsewhere. row_elsewhere j.units j.image j.selector a.seen b.seen (subst (λ (x : Area). SameElsewhere x a.seen b.seen) at elsewhere))

  pub leaves_pages : (snapshot : List ℕ) (log : List Group) (p : List ℕ) (old new : Option DiskState) → IsSomeAnd old (JournalAt j snapshot log)
      → ((ps : List (List ℕ)) → IsSomeAnd old (Rests j.log.area ps j.log.end) → Goes (λ a b. LeavesEither j.log.area ps p a.seen b) old new) → Goes (LeavesPages j.units) old new
  leaves_pages snapshot log p None new at leaves = absurd at
  leaves_pages snapshot log p (Some a) None at leaves = absurd (leaves at.payloads at.rests)
  leaves_pages snapshot log p (Some a) (Some b) at leaves = λ image left.
      row_elsewhere j.units j.image j.selector a.seen image (subst (λ (x : Area). SameElsewhere x a.seen image) at.area (leaves at.payloads at.rests image left).1)

  module _ (snapshot : List ℕ) (log : List Group) (events : Group) (p : List ℕ) (is : IsGroupOf events p) where
    pub group_added : (l : LogState) (count : ℕ) (old new : Option DiskState) → l.area ≡ j.log.area → IsSomeAnd old (JournalAt j snapshot log)
        → ((ps : List (List ℕ)) → IsSomeAnd old (Rests j.log.area ps j.log.end) → IsSomeAnd new (Rests j.log.area (ps ++ p ∷ []) l.end))
        → Goes (λ a b. SameElsewhere j.log.area a.seen b.seen) old new
        → IsSomeAnd new (JournalAt (record j { log = l; events = count }) snapshot (log ++ events ∷ []))
    group_added l count None new same_area at rests same = absurd at
    group_added l count (Some a) None same_area at rests same = absurd same
    group_added l count (Some a) (Some b) same_area at rests same = record {
      area = same_area ∙ at.area;
      formatted = formatted_elsewhere j.units j.image j.selector a.seen b.seen (subst (λ (x : Area). SameElsewhere x a.seen b.seen) at.area same) snapshot at.formatted;
      payloads = at.payloads ++ p ∷ [];
      groups = groups-push log at.payloads events p at.groups is;
      rests = subst (λ (x : Area). Rests x (at.payloads ++ p ∷ []) l.end b) (sym same_area) (rests at.payloads at.rests);
    }

    either : (a b : DiskState) → JournalAt j snapshot log a → ((ps : List (List ℕ)) → Rests j.log.area ps j.log.end a → LeavesEither j.log.area ps p a.seen b) → LeavesGroupOrNot j snapshot log events b
    either a b at leaves image left =
        let (frames, same) = leaves at.payloads at.rests image left in
        elim frames [
          | inl without ↦ inl (found log at.payloads at.groups without same)
          | inr with ↦ inr (found (log ++ events ∷ []) (at.payloads ++ p ∷ []) (groups-push log at.payloads events p at.groups is) with same)
        ]
      where
        found : (some : List Group) (ps : List (List ℕ)) → HoldGroups some ps → IsLog ps (area_bytes j.log.area image) → SameElsewhere j.log.area a.seen image → IsImage j.units j.image snapshot some image
        found some ps groups frames same = record {
          selector = j.selector;
          formatted = formatted_elsewhere j.units j.image j.selector a.seen image (subst (λ (x : Area). SameElsewhere x a.seen image) at.area same) snapshot at.formatted;
          payloads = ps;
          groups = groups;
          frames = subst (λ (x : Area). IsLog ps (area_bytes x image)) at.area frames;
        }

    pub group_or_not : (old new : Option DiskState) → IsSomeAnd old (JournalAt j snapshot log)
        → ((ps : List (List ℕ)) → IsSomeAnd old (Rests j.log.area ps j.log.end) → Goes (λ a b. LeavesEither j.log.area ps p a.seen b) old new)
        → IsSomeAnd new (LeavesGroupOrNot j snapshot log events)
    group_or_not None new at leaves = absurd at
    group_or_not (Some a) None at leaves = absurd (leaves at.payloads at.rests)
    group_or_not (Some a) (Some b) at leaves = either a b at leaves
