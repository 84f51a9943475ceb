-- What a log that was opened and replayed says of the image.
use Rattle.std.specs.Prelude.{IfSome}
use Rattle.std.proofs.Common.{◌≡◌, ℕ, ◌≤◌, ◌<◌, ◌^◌, List, Vec, refl, sym, ◌∙◌, ap, subst, arith}
use Rattle.ktm_base.specs.declared.limits.TheConstants.{LEAST_UNITS, MOST_UNITS}
use Rattle.ktm_base.specs.Disk.{DiskState}
use Rattle.ktm_base.proofs.offered.ToldSteps.{IfSome-map}
use Rattle.ktm_journal.specs.declared.fault.LoadFault.{LoadFault}
use Rattle.ktm_journal.specs.declared.fault.LoadFault.TheVariants.{Down, Bad, NoMemory}
use Rattle.ktm_journal.specs.declared.header.Header.{Header}
use Rattle.ktm_journal.specs.Image.{IsHeaded, JournalState, half_of, log_area}
use Rattle.ktm_journal.specs.Open.{EndsTorn, IsOpened, log_reads}
use Rattle.ktm_log.specs.Log.{BeginsWith, IsBadLog, IsLog, area_bytes, payloads_in}
use Rattle.ktm_log.specs.OnDisk.{OnDisk, WasRead}
use Rattle.ktm_world.specs.Durable.{Durable}
use Rattle.ktm_restart.specs.Bad.{BeginsAs}
use Rattle.ktm_restart.specs.Payloads.{ComesTo, IsFirstBad}
use Rattle.ktm_restart.specs.Loads.{FaultLeaves, IsBadImage, IsLoaded}
use Rattle.ktm_restart.specs.Starts.{IsOfHeader, IsReplayed}
use Rattle.ktm_restart.proofs.LogLoads.{bad_payload_told, counted_for, headed_told, knows_told, stands_told, torn_told}

-- one state in the place of another
pub replayed-as : {Z : Type 0} (header : Header) (a b : Durable) (old new : OnDisk (Vec ℕ Z)) (journal : JournalState) → a ≡ b → IsReplayed header a old new journal → IsReplayed header b old new journal
replayed-as header a b old new journal same is = subst (λ (s : Durable). IsReplayed header s old new journal) same is

-- the disk has an image with this header, which begins with the snapshot of this state
module _ {Z : Type 0} (header : Header) (first : Durable) (old new : OnDisk (Vec ℕ Z)) (begins : IfSome old.told (λ s. BeginsAs header.units header.image header.selector first s.seen)) where
  abbrev payloads : List (List ℕ)
  payloads = payloads_in new.it.items

  abbrev begin : ℕ
  begin = (log_area header.units (half_of header.selector)).at

  headed : IfSome old.told (λ s. IsHeaded header.units header.image header.selector s.seen)
  headed = headed_told header.units header.image header.selector first old.told begins

  pub replayed : (state : Durable) (journal : JournalState) → IsOpened header old new journal → ComesTo first payloads state → IsOfHeader header state → IsReplayed header state old new journal
  replayed state journal opened comes of_header = record {
    of_image = opened.of_image;
    of_header = of_header;
    stands = stands_told header.units header.image header.selector first old.told begins payloads state comes opened.log;
    knows = knows_told header journal opened.of_image.units opened.of_image.image old.told new.told headed opened.at;
    read = opened.read;
  }

  -- a payload is bad, or memory is wanted
  not_replayed : (fault : LoadFault) → (fault ≡ Down → ⊥) → ((offset : ℕ) → fault ≡ Bad offset → IsFirstBad first begin payloads offset)
      → IfSome old.told (λ s. BeginsWith payloads (area_bytes (log_area header.units (half_of header.selector)) s.seen)) → WasRead (log_reads header.units) old new
      → FaultLeaves (log_reads header.units) old new fault
  not_replayed Down up bad frames read = absurd (up refl)
  not_replayed (Bad offset) up bad frames read =
      record { bad = bad_payload_told header.units header.image header.selector first old.told begins payloads offset (bad offset refl) frames; read = read }
  not_replayed NoMemory up bad frames read = read.reads

  pub opened_not_replayed : (journal : JournalState) (fault : LoadFault) → IsOpened header old new journal → (fault ≡ Down → ⊥) → ((offset : ℕ) → fault ≡ Bad offset → IsFirstBad first begin payloads offset)
      → FaultLeaves (log_reads header.units) old new fault
  opened_not_replayed journal fault opened up bad =
      not_replayed fault up bad
      (IfSome-map old.told (λ (s : DiskState). IsLog payloads (area_bytes (log_area header.units (half_of header.selector)) s.seen)) (λ (s : DiskState). BeginsWith payloads (area_bytes (log_area header.units (half_of header.selector)) s.seen)) opened.log (λ s log. log.frames))
      opened.read

  pub torn_not_replayed : (offset : ℕ) (fault : LoadFault) → EndsTorn header old new offset → (fault ≡ Down → ⊥) → ((offset : ℕ) → fault ≡ Bad offset → IsFirstBad first begin payloads offset)
      → FaultLeaves (log_reads header.units) old new fault
  torn_not_replayed offset fault torn up bad =
      not_replayed fault up bad
      (IfSome-map old.told (λ (s : DiskState). IsBadLog payloads (area_bytes (log_area header.units (half_of header.selector)) s.seen)) (λ (s : DiskState). BeginsWith payloads (area_bytes (log_area header.units (half_of header.selector)) s.seen)) torn.log (λ s log. log.frames))
      torn.read

  pub torn_behind : (state : Durable) (offset : ℕ) → EndsTorn header old new offset → ComesTo first payloads state → IsBadImage (log_reads header.units) old new offset
  torn_behind state offset torn comes = record {
    bad = torn_told header.units header.image header.selector first old.told begins payloads state offset comes torn.at torn.log;
    read = torn.read;
  }

  headed_still : (j : JournalState) → j.units ≡ header.units → j.image ≡ header.image → j.selector ≡ header.selector → new.told ≡ old.told → IfSome new.told (λ s. IsHeaded j.units j.image j.selector s.seen)
  headed_still j u i k same =
      subst (λ t. IfSome t (λ s. IsHeaded j.units j.image j.selector s.seen)) (sym same)
      (subst (λ n. IfSome old.told (λ s. IsHeaded n j.image j.selector s.seen)) (sym u) (subst (λ n. IfSome old.told (λ s. IsHeaded header.units n j.selector s.seen)) (sym i)
      (subst (λ n. IfSome old.told (λ s. IsHeaded header.units header.image n s.seen)) (sym k) headed)))

  -- the journal that was replayed, once it has counted the events of the state that it comes to
  pub loaded : LEAST_UNITS ≤ header.units → header.units ≤ MOST_UNITS → header.image < 2 ^ 16 → (state : Durable) (journal counted : JournalState) → IsReplayed header state old new journal → counted ≡ record journal { events = state.events }
      → IsLoaded (log_reads header.units) old new (record { journal = counted; state = state })
  loaded least most number state journal counted replayed is =
      let units = replayed.of_header.units in
      let image = replayed.of_header.image in
      subst (λ (j : JournalState). IsLoaded (log_reads header.units) old new (record { journal = j; state = state })) (sym is) (record {
        state = record {
          least = omega (arith, units);
          most = omega (arith, units);
          number = omega (arith, image);
          good = replayed.of_header.good;
          on_pages = replayed.of_header.on_pages;
          texts = replayed.of_header.texts;
        };
        journal = record {
          units = replayed.of_image.units ∙ sym units;
          image = replayed.of_image.image ∙ sym image;
          area = replayed.of_image.area ∙ ap (λ u. log_area u (half_of header.selector)) (sym units) ∙ ap (λ k. log_area state.units (half_of k)) (sym replayed.of_image.selector);
          inside = replayed.of_image.inside;
          counted = refl;
        };
        room = replayed.of_image.room;
        stands = replayed.stands;
        headed = headed_still journal replayed.of_image.units replayed.of_image.image replayed.of_image.selector replayed.read.reads.reads.same;
        knows = λ other safe. counted_for journal state.events other new.told (replayed.knows other safe);
        read = replayed.read;
      })
