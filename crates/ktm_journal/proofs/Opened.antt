-- What a log that was read says of the journal.
use Rattle.std.specs.Prelude.{IfSome, IsSomeAnd}
use Rattle.std.proofs.Common.{◌≡◌, ℕ, ◌+◌, Option, None, Some, List, Vec, refl, sym, ◌∙◌, ap, subst, arith}
use Rattle.ktm_base.specs.Disk.{DiskState, IsSafe}
use Rattle.ktm_log.specs.declared.area.Area.{Area}
use Rattle.ktm_log.specs.Load.{pieces}
use Rattle.ktm_log.specs.Log.{LogState, Rests, area_bytes, IsLog, payloads_in}
use Rattle.ktm_log.specs.OnDisk.{OnDisk}
use Rattle.ktm_log.specs.Scan.{IsScanned}
use Rattle.ktm_log.proofs.Reading.{read_most}
use Rattle.ktm_world.specs.Groups.{Group}
use Rattle.ktm_journal.specs.declared.header.Header.{Header}
use Rattle.ktm_journal.specs.Image.{IsFormatted, IsHeaded, IsImage, JournalAt, JournalState, half_of, log_area}
use Rattle.ktm_journal.specs.Open.{IsOpened, log_reads}
use Rattle.ktm_journal.proofs.offered.OneImage.{image_payloads}

-- the journal of whichever snapshot and log the image holds
pub journal_told : (units image selector count : ℕ) (area : Area) (l : LogState) (payloads : List (List ℕ)) (o n : Option DiskState) → IfSome o (λ s. IsHeaded units image selector s.seen) → area ≡ log_area units (half_of selector) → l.area ≡ area → n ≡ o
    → (IsSomeAnd o IsSafe → IsSomeAnd n (Rests area payloads l.end))
    → (snapshot : List ℕ) (log : List Group) → IsSomeAnd o (λ s. IsSafe s × IsImage units image snapshot log s.seen)
    → IsSomeAnd n (JournalAt (record { units = units; image = image; selector = selector; log = l; events = count }) snapshot log)
journal_told units image selector count area l payloads None n headed at same_area same rests snapshot log holds = absurd holds
journal_told units image selector count area l payloads (Some s) n headed at same_area same rests snapshot log holds =
    let resting : Rests area payloads l.end s = subst (λ t. IsSomeAnd t (Rests area payloads l.end)) same (rests holds.0) in
    let selected : holds.1.selector ≡ selector = sym holds.1.formatted.headed.selector_is ∙ headed.selector_is in
    subst (λ t. IsSomeAnd t (JournalAt (record { units = units; image = image; selector = selector; log = l; events = count }) snapshot log)) (sym same) (record {
      area = same_area ∙ at;
      formatted = subst (λ k. IsFormatted units image k snapshot s.seen) selected holds.1.formatted;
      payloads = payloads;
      groups = image_payloads units image selector snapshot log payloads s.seen headed holds.1 (subst (λ (a : Area). IsLog payloads (area_bytes a s.seen)) at resting.log);
      rests = subst (λ (a : Area). Rests a payloads l.end s) (sym same_area) resting;
    })

-- the journal whose log was scanned
pub opened : {Z : Type 0} (header : Header) (old new : OnDisk (Vec ℕ Z)) (l : LogState) (journal : JournalState) → IfSome old.told (λ s. IsHeaded header.units header.image header.selector s.seen)
    → journal ≡ record { units = header.units; image = header.image; selector = header.selector; log = l; events = 0 }
    → IsScanned (log_area header.units (half_of header.selector)) old new l → IsOpened header old new journal
opened header old new l journal headed is scanned = subst (λ (j : JournalState). IsOpened header old new j) (sym is) (record {
  of_image = record {
    units = refl;
    image = refl;
    selector = refl;
    area = scanned.area_is;
    inside = omega (arith, scanned.inside, ap (λ (a : Area). a.len) scanned.area_is);
    room = omega (arith, scanned.room, ap (λ (a : Area). a.len) scanned.area_is);
  };
  end_is = scanned.end_is;
  log = scanned.bytes;
  at = journal_told header.units header.image header.selector 0 (log_area header.units (half_of header.selector)) l (payloads_in new.it.items) old.told new.told headed refl scanned.area_is scanned.read.reads.reads.same scanned.rests;
  read = read_most (pieces (l.end + 1)) (log_reads header.units) old new (omega (arith, scanned.inside)) scanned.read;
})
