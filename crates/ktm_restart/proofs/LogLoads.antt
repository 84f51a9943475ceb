-- What a snapshot and a log that were read say of the image.
use Rattle.std.specs.Prelude.{IfSome, IsSomeAnd}
use Rattle.std.proofs.Common.{◌≡◌, inl, inr, ℕ, ◌+◌, Option, None, Some, List, sym, ◌∙◌, ap, subst, arith}
use Rattle.ktm_base.specs.Disk.{DiskState, IsSafe}
use Rattle.ktm_base.proofs.offered.ToldSteps.{IfSome-map}
use Rattle.ktm_log.specs.Log.{BeginsWith, IsLog, IsBadLog, area_bytes, end_of}
use Rattle.ktm_log.proofs.Frames.{begins-split}
use Rattle.ktm_log.proofs.Steps.{IfSome-both}
use Rattle.ktm_world.specs.Logs.{Group}
use Rattle.ktm_world.specs.Durable.{Durable}
use Rattle.ktm_journal.specs.Image.{HasSnapshot, IsHeaded, IsImage, JournalAt, JournalState, half_of, log_area, snapshot_area}
use Rattle.ktm_journal.specs.Bad.{HasNoHeader, HasNoSnapshot}
use Rattle.ktm_journal.specs.declared.header.Header.{Header}
use Rattle.ktm_journal.proofs.offered.GroupSizes.{groups_size}
use Rattle.ktm_journal.proofs.offered.Images.{counted_at}
use Rattle.ktm_journal.proofs.offered.OneImage.{one_header, one_snapshot}
use Rattle.ktm_snapshot.specs.StateGrammar.{IsStateOf}
use Rattle.txf_laws.specs.GoodState.{IsGoodState}
use Rattle.ktm_restart.specs.Logs.{IsOnPages, JournalFor, PagedFor}
use Rattle.ktm_restart.specs.Bad.{BeginsAs, IsBadAt, IsBadPayload, IsBadSnapshot}
use Rattle.ktm_restart.specs.Loads.{KnowsState}
use Rattle.ktm_restart.specs.Payloads.{ComesTo, IsFirstBad}
use Rattle.ktm_restart.proofs.PagedLogs.{paged-image, paged-units}

module _ (first : Durable) (payloads : List (List ℕ)) (state : Durable) (comes : ComesTo first payloads state) where
  pub comes_to_units : state.units ≡ first.units
  comes_to_units = ap (λ (s : Durable). s.units) comes.is ∙ paged-units first comes.log

  pub comes_to_image : state.image ≡ first.image
  comes_to_image = ap (λ (s : Durable). s.image) comes.is ∙ paged-image first comes.log

module _ (units image selector : ℕ) (first : Durable) where
  abbrev log_in : List ℕ → List ℕ
  log_in bytes = area_bytes (log_area units (half_of selector)) bytes

  stands : (payloads : List (List ℕ)) (state : Durable) (bytes : List ℕ) → ComesTo first payloads state → BeginsAs units image selector first bytes → IsLog payloads (log_in bytes) → PagedFor state bytes
  stands payloads state bytes comes begins log =
      let is : IsImage units image begins.snapshot comes.log bytes = record { selector = selector; formatted = begins.formatted; payloads = payloads; groups = comes.groups; frames = log } in
      let units_are = sym (comes_to_units first payloads state comes ∙ begins.units_are) in
      let image_is = sym (comes_to_image first payloads state comes ∙ begins.number) in
      record {
        snapshot = begins.snapshot;
        log = comes.log;
        is = subst (λ u. IsImage u state.image begins.snapshot comes.log bytes) units_are (subst (λ i. IsImage units i begins.snapshot comes.log bytes) image_is is);
        come = record { first = first; spelled = begins.spelled; good = begins.good; on_pages = begins.on_pages; applies = comes.applies; is = comes.is };
      }

  bad_payload : (payloads : List (List ℕ)) (offset : ℕ) (bytes : List ℕ) → IsFirstBad first (log_area units (half_of selector)).at payloads offset → BeginsAs units image selector first bytes → BeginsWith payloads (log_in bytes) → IsBadAt bytes offset
  bad_payload payloads offset bytes found begins all =
      let (frames, frame) = begins-split found.before found.rest found.payload (log_in bytes) (subst (λ (l : List (List ℕ)). BeginsWith l (log_in bytes)) found.split all) in
      inr (inr (
        units,
        image,
        selector,
        first,
        found.good.log,
        record {
          begins = begins;
          payloads = found.before;
          groups = found.good.groups;
          applies = found.good.applies;
          frames = frames;
          bad = inr (found.payload, frame, subst (λ (s : Durable). IsBadPayload s found.payload) found.good.is found.bad);
        },
        omega (arith, found.at, groups_size found.good.log found.before found.good.groups),
      ))

  torn : (payloads : List (List ℕ)) (state : Durable) (offset : ℕ) (bytes : List ℕ) → ComesTo first payloads state → offset ≡ (log_area units (half_of selector)).at + end_of payloads → BeginsAs units image selector first bytes → IsBadLog payloads (log_in bytes) → IsBadAt bytes offset
  torn payloads state offset bytes comes offset_is begins bad =
      inr (inr (
        units,
        image,
        selector,
        first,
        comes.log,
        record {
          begins = begins;
          payloads = payloads;
          groups = comes.groups;
          applies = comes.applies;
          frames = bad.frames;
          bad = inl bad.gate;
        },
        offset_is ∙ omega (arith, groups_size comes.log payloads comes.groups),
      ))

  -- where the bytes are told
  module _ (o : Option DiskState) (begins : IfSome o (λ s. BeginsAs units image selector first s.seen)) where
    pub stands_told : (payloads : List (List ℕ)) (state : Durable) → ComesTo first payloads state → IfSome o (λ s. IsLog payloads (log_in s.seen)) → IfSome o (λ s. PagedFor state s.seen)
    stands_told payloads state comes log =
        IfSome-both (λ (s : DiskState). BeginsAs units image selector first s.seen) (λ (s : DiskState). IsLog payloads (log_in s.seen)) (λ (s : DiskState). PagedFor state s.seen) o begins log
        (λ s b l. stands payloads state s.seen comes b l)

    pub bad_payload_told : (payloads : List (List ℕ)) (offset : ℕ) → IsFirstBad first (log_area units (half_of selector)).at payloads offset → IfSome o (λ s. BeginsWith payloads (log_in s.seen)) → IfSome o (λ s. IsBadAt s.seen offset)
    bad_payload_told payloads offset found all =
        IfSome-both (λ (s : DiskState). BeginsAs units image selector first s.seen) (λ (s : DiskState). BeginsWith payloads (log_in s.seen)) (λ (s : DiskState). IsBadAt s.seen offset) o begins all
        (λ s b a. bad_payload payloads offset s.seen found b a)

    pub torn_told : (payloads : List (List ℕ)) (state : Durable) (offset : ℕ) → ComesTo first payloads state → offset ≡ (log_area units (half_of selector)).at + end_of payloads → IfSome o (λ s. IsBadLog payloads (log_in s.seen)) → IfSome o (λ s. IsBadAt s.seen offset)
    torn_told payloads state offset comes offset_is bad =
        IfSome-both (λ (s : DiskState). BeginsAs units image selector first s.seen) (λ (s : DiskState). IsBadLog payloads (log_in s.seen)) (λ (s : DiskState). IsBadAt s.seen offset) o begins bad
        (λ s b l. torn payloads state offset s.seen comes offset_is b l)

    pub headed_told : IfSome o (λ s. IsHeaded units image selector s.seen)
    headed_told = IfSome-map o (λ (s : DiskState). BeginsAs units image selector first s.seen) (λ (s : DiskState). IsHeaded units image selector s.seen) begins (λ s b. b.formatted.headed)

-- the journal is that of whatever state the disk stands for
module _ (header : Header) (j : JournalState) (units : j.units ≡ header.units) (image : j.image ≡ header.image) where
  journal_for : (state : Durable) (s : DiskState) (n : Option DiskState) → (stands : PagedFor state s.seen) → IsHeaded header.units header.image header.selector s.seen → IsSomeAnd n (JournalAt j stands.snapshot stands.log) → IsSomeAnd n (JournalFor j state)
  journal_for state s None stands headed at = absurd at
  journal_for state s (Some t) stands headed at =
      let (units_are, image_is, selector_is) = one_header state.units header.units state.image header.image stands.is.selector header.selector s.seen stands.is.formatted.headed headed in
      record { units = units_are ∙ sym units; image = image_is ∙ sym image; snapshot = stands.snapshot; log = stands.log; at = at; come = stands.come }

  of_header : (state : Durable) (s : DiskState) (stands : PagedFor state s.seen) → IsHeaded header.units header.image header.selector s.seen → IsImage header.units header.image stands.snapshot stands.log s.seen
  of_header state s stands headed =
      let (units_are, image_is, selector_is) = one_header state.units header.units state.image header.image stands.is.selector header.selector s.seen stands.is.formatted.headed headed in
      subst (λ u. IsImage u header.image stands.snapshot stands.log s.seen) units_are (subst (λ i. IsImage state.units i stands.snapshot stands.log s.seen) image_is stands.is)

  pub knows_told : (o n : Option DiskState) → IfSome o (λ s. IsHeaded header.units header.image header.selector s.seen)
      → ((snapshot : List ℕ) (log : List Group) → IsSomeAnd o (λ s. IsSafe s × IsImage header.units header.image snapshot log s.seen) → IsSomeAnd n (JournalAt j snapshot log)) → KnowsState o n j
  knows_told None n headed at state safe = absurd safe
  knows_told (Some s) n headed at state safe =
      journal_for state s n safe.1 headed (at safe.1.snapshot safe.1.log (safe.0, of_header state s safe.1 headed))

-- it stays that, however many events are counted
pub counted_for : (j : JournalState) (count : ℕ) (state : Durable) (o : Option DiskState) → IsSomeAnd o (JournalFor j state) → IsSomeAnd o (JournalFor (record j { events = count }) state)
counted_for j count state None at = absurd at
counted_for j count state (Some s) is = record { units = is.units; image = is.image; snapshot = is.snapshot; log = is.log; at = counted_at j count is.snapshot is.log s is.at; come = is.come }

-- without a header the bytes are bad
pub headless_told : (o : Option DiskState) (offset : ℕ) → IfSome o (λ s. HasNoHeader s.seen) × (offset ≡ 0) → IfSome o (λ s. IsBadAt s.seen offset)
headless_told None offset none = tt
headless_told (Some s) offset none = inl none

-- behind a header the snapshot was looked at
module _ (header : Header) (o : Option DiskState) (headed : IfSome o (λ s. IsHeaded header.units header.image header.selector s.seen)) where
  bad_start : (offset : ℕ) → IfSome o (λ s. (snapshot : List ℕ) → HasSnapshot header.units (half_of header.selector) snapshot s.seen → IsBadSnapshot header.units header.image snapshot)
      → offset ≡ (snapshot_area header.units (half_of header.selector)).at → IfSome o (λ s. IsBadAt s.seen offset)
  bad_start offset bad at =
      IfSome-both (λ (s : DiskState). IsHeaded header.units header.image header.selector s.seen)
      (λ (s : DiskState). (snapshot : List ℕ) → HasSnapshot header.units (half_of header.selector) snapshot s.seen → IsBadSnapshot header.units header.image snapshot)
      (λ (s : DiskState). IsBadAt s.seen offset) o headed bad
      (λ s h b. inr (inl (header.units, header.image, header.selector, record { headed = h; bad = b }, at)))

  -- the snapshot is that of no good state on pages
  pub bad_snapshot : (offset : ℕ) (snapshot : List ℕ) → IsBadSnapshot header.units header.image snapshot → IfSome o (λ s. HasSnapshot header.units (half_of header.selector) snapshot s.seen)
      → offset ≡ (snapshot_area header.units (half_of header.selector)).at → IfSome o (λ s. IsBadAt s.seen offset)
  bad_snapshot offset snapshot bad has at =
      bad_start offset
      (IfSome-map o (λ (s : DiskState). HasSnapshot header.units (half_of header.selector) snapshot s.seen)
      (λ (s : DiskState). (other : List ℕ) → HasSnapshot header.units (half_of header.selector) other s.seen → IsBadSnapshot header.units header.image other) has
      (λ s h other there. subst (IsBadSnapshot header.units header.image) (one_snapshot header.units (half_of header.selector) snapshot other s.seen h there) bad)) at

  -- there is none
  pub no_snapshot : (offset : ℕ) → IfSome o (λ s. HasNoSnapshot header.units (half_of header.selector) s.seen) → offset ≡ (snapshot_area header.units (half_of header.selector)).at → IfSome o (λ s. IsBadAt s.seen offset)
  no_snapshot offset none at =
      bad_start offset
      (IfSome-map o (λ (s : DiskState). HasNoSnapshot header.units (half_of header.selector) s.seen)
      (λ (s : DiskState). (other : List ℕ) → HasSnapshot header.units (half_of header.selector) other s.seen → IsBadSnapshot header.units header.image other) none
      (λ s n other there. absurd (n other there))) at

  -- it is that of a good state on pages
  pub good_snapshot : (state : Durable) (snapshot : List ℕ) → state.units ≡ header.units → state.image ≡ header.image → IsStateOf state snapshot → IsGoodState state → IsOnPages state
      → IfSome o (λ s. HasSnapshot header.units (half_of header.selector) snapshot s.seen) → IfSome o (λ s. BeginsAs header.units header.image header.selector state s.seen)
  good_snapshot state snapshot units image spelled good on_pages has =
      IfSome-both (λ (s : DiskState). IsHeaded header.units header.image header.selector s.seen) (λ (s : DiskState). HasSnapshot header.units (half_of header.selector) snapshot s.seen)
      (λ (s : DiskState). BeginsAs header.units header.image header.selector state s.seen) o headed has
      (λ s h there. record { units_are = units; number = image; snapshot = snapshot; formatted = record { headed = h; has = there }; spelled = spelled; good = good; on_pages = on_pages })
