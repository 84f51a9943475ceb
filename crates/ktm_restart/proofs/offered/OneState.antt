-- Bytes stand for one state at most, or they are bad at one place.
use Rattle.std.proofs.Common.{◌≡◌, inl, inr, ℕ, ◌+◌, List, [], ◌∷◌, ◌++◌, drop, refl, sym, ◌∙◌, ap, subst}
use Rattle.ktm_log.specs.Log.{BeginsWith, IsFrame, IsClosed, IsLog, area_bytes, end_of}
use Rattle.ktm_log.proofs.Frames.{begins-split}
use Rattle.ktm_log.proofs.GoodOrBad.{begins_compare, one_frame, torn_is_no_frame}
use Rattle.ktm_snapshot.specs.Laws.{OneStateAtMost}
use Rattle.ktm_snapshot.specs.StateGrammar.{IsStateOf}
use Rattle.ktm_world.specs.Logs.{Group}
use Rattle.ktm_world.specs.Durable.{Durable}
use Rattle.ktm_world.specs.EventGrammar.{IsGroupOf}
use Rattle.ktm_world.specs.Sizes.{log_size}
use Rattle.ktm_journal.specs.Image.{HasSnapshot, HoldGroups, half_of, log_area, snapshot_area}
use Rattle.ktm_journal.proofs.offered.OneImage.{one_groups, one_header, one_image, one_snapshot}
use Rattle.ktm_paged.specs.Paged.{paged_stand}
use Rattle.ktm_restart.specs.Logs.{AllApplyTo, AppliesTo, ComeTo, PagedFor, StandsFor, bytes_seen}
use Rattle.ktm_restart.specs.Bad.{BeginsAs, IsBadAt, IsBadFrame, IsBadStart}
use Rattle.ktm_restart.proofs.PagedLogs.{applied-behind, paged-image, paged-units}

-- in an image of one size and number a snapshot is that of one state
pub one_first : OneStateAtMost → (a b : Durable) (snapshot : List ℕ) → a.units ≡ b.units → a.image ≡ b.image → IsStateOf a snapshot → IsStateOf b snapshot → a ≡ b
one_first law a b snapshot units image left right = (law a b snapshot snapshot [] [] units image left right refl).0

-- a state has the size and the number of the one that its image begins with
first_units : (state : Durable) (snapshot : List ℕ) (log : List Group) (come : ComeTo state snapshot log) → come.first.units ≡ state.units
first_units state snapshot log come = sym (ap (λ (s : Durable). s.units) come.is ∙ paged-units come.first log)

first_image : (state : Durable) (snapshot : List ℕ) (log : List Group) (come : ComeTo state snapshot log) → come.first.image ≡ state.image
first_image state snapshot log come = sym (ap (λ (s : Durable). s.image) come.is ∙ paged-image come.first log)

-- in an image of one size and number a snapshot and groups come to one state
one_come : OneStateAtMost → (a b : Durable) (snapshot : List ℕ) (log : List Group) → a.units ≡ b.units → a.image ≡ b.image → ComeTo a snapshot log → ComeTo b snapshot log → a ≡ b
one_come law a b snapshot log units image left right =
    let first =
    one_first law left.first right.first snapshot (first_units a snapshot log left ∙ units ∙ sym (first_units b snapshot log right)) (first_image a snapshot log left ∙ image ∙ sym (first_image b snapshot log right)) left.spelled right.spelled in
    left.is ∙ ap (λ (s : Durable). paged_stand s log) first ∙ sym right.is

-- bytes are an image of one state over the places of bytes at most
pub one_paged : OneStateAtMost → (a b : Durable) (bytes : List ℕ) → PagedFor a bytes → PagedFor b bytes → a ≡ b
one_paged law a b bytes left right =
    let (units, image, snapshot, log) = one_image a.units b.units a.image b.image left.snapshot right.snapshot left.log right.log bytes left.is right.is in
    one_come law a b right.snapshot right.log units image (subst (λ (l : List Group). ComeTo a right.snapshot l) log (subst (λ (x : List ℕ). ComeTo a x left.log) snapshot left.come)) right.come

-- they stand for one state of bytes at most
pub one_state : OneStateAtMost → (a b : Durable) (bytes : List ℕ) → StandsFor a bytes → StandsFor b bytes → a ≡ b
one_state law a b bytes left right =
    left.is ∙ ap (λ (places : Durable). bytes_seen bytes places) (one_paged law left.places right.places bytes left.paged right.paged) ∙ sym right.is

-- a group behind others, and those
pub record IsSplit (log : List Group) (qs : List (List ℕ)) (p : List ℕ) : Type 0 where
  pub front : List Group
  pub events : Group
  pub more : List Group
  pub is : log ≡ front ++ events ∷ more
  pub groups : HoldGroups front qs
  pub group : IsGroupOf events p

split_groups : (log : List Group) (qs rest : List (List ℕ)) (p : List ℕ) → HoldGroups log (qs ++ p ∷ rest) → IsSplit log qs p
split_groups [] [] rest p hold = absurd hold
split_groups [] (q ∷ qs) rest p hold = absurd hold
split_groups (g ∷ log) [] rest p hold = record { front = []; events = g; more = log; is = refl; groups = tt; group = hold.0 }
split_groups (g ∷ log) (q ∷ qs) rest p hold =
    let behind = split_groups log qs rest p hold.1 in
    record {
      front = g ∷ behind.front;
      events = behind.events;
      more = behind.more;
      is = ap (λ (l : List Group). g ∷ l) behind.is;
      groups = (hold.0, behind.groups);
      group = behind.group;
    }

-- bytes that begin with the snapshots of two good states on pages begin with one
one_begin : OneStateAtMost → (u i k : ℕ) (a b : Durable) (bytes : List ℕ) → BeginsAs u i k a bytes → BeginsAs u i k b bytes → a ≡ b
one_begin law u i k a b bytes left right =
    let snapshot = one_snapshot u (half_of k) left.snapshot right.snapshot bytes left.formatted.has right.formatted.has in
    one_first law a b right.snapshot (left.units_are ∙ sym right.units_are) (left.number ∙ sym right.number) (subst (λ (x : List ℕ). IsStateOf a x) snapshot left.spelled) right.spelled

-- bytes that are an image of a state begin with that of their snapshot
begin_of : (state : Durable) (bytes : List ℕ) (stands : PagedFor state bytes) → BeginsAs state.units state.image stands.is.selector stands.come.first bytes
begin_of state bytes stands = record {
  units_are = first_units state stands.snapshot stands.log stands.come;
  number = first_image state stands.snapshot stands.log stands.come;
  snapshot = stands.snapshot;
  formatted = stands.is.formatted;
  spelled = stands.come.spelled;
  good = stands.come.good;
  on_pages = stands.come.on_pages;
}

module _ (units image selector : ℕ) (first : Durable) (log : List Group) (bytes : List ℕ) (bad : IsBadFrame units image selector first log bytes) where
  abbrev log_bytes : List ℕ
  log_bytes = area_bytes (log_area units (half_of selector)) bytes

  -- where the bad frame is no log goes on
  not_longer : (more : List Group) (ps rest : List (List ℕ)) (r : List ℕ) → HoldGroups more ps → AllApplyTo first more
      → BeginsWith ps log_bytes → ps ≡ bad.payloads ++ r ∷ rest → ⊥
  not_longer more ps rest r groups applies begins is =
      let at = drop (end_of bad.payloads) log_bytes in
      let frame : IsFrame r at = (begins-split bad.payloads rest r _ (subst (λ (l : List (List ℕ)). BeginsWith l log_bytes) is begins)).1 in
      let split = split_groups more bad.payloads rest r (subst (λ (l : List (List ℕ)). HoldGroups more l) is groups) in
      let good = applied-behind first split.front split.more split.events (subst (λ (l : List Group). AllApplyTo first l) split.is applies) in
      let here = subst (λ (l : List Group). AppliesTo (paged_stand first l) split.events) (one_groups split.front log bad.payloads split.groups bad.groups) good in
      elim bad.bad [
        | inl torn ↦ torn_is_no_frame r at frame torn
        | inr (p, other, is_bad) ↦ is_bad split.events (subst (λ (x : List ℕ). IsGroupOf split.events x) (one_frame r p at frame other) split.group) here
      ]

  -- the gate of the bad frame is not closed
  no_end : IsClosed (drop (end_of bad.payloads) log_bytes) → ⊥
  no_end closed = elim bad.bad [ inl torn ↦ closed.closed torn.open_gate | inr (p, frame, is_bad) ↦ closed.closed frame.open_gate ]

  no_log : (more : List Group) (ps : List (List ℕ)) → HoldGroups more ps → AllApplyTo first more → IsLog ps log_bytes → ⊥
  no_log more ps groups applies frames = elim (begins_compare ps bad.payloads log_bytes frames.frames bad.frames) [
    | inl (r, rest, is) ↦ not_longer more ps rest r groups applies frames.frames is
    | inr (inl same) ↦ no_end (subst (λ (l : List (List ℕ)). IsClosed (drop (end_of l) log_bytes)) same frames.gate)
    | inr (inr (r, rest, is)) ↦ frames.gate.closed (begins-split ps rest r log_bytes (subst (λ (l : List (List ℕ)). BeginsWith l log_bytes) is bad.frames)).1.open_gate
  ]

-- where one half counts it has the snapshot of a good state on pages, or another
bad_or_good : (u v i j k m : ℕ) (first : Durable) (bytes : List ℕ) → IsBadStart u i k bytes → BeginsAs v j m first bytes → ⊥
bad_or_good u v i j k m first bytes bad good =
    let (units, image, selector) = one_header v u j i m k bytes good.formatted.headed bad.headed in
    bad.bad good.snapshot (subst (λ n. HasSnapshot u (half_of n) good.snapshot bytes) selector (subst (λ n. HasSnapshot n (half_of m) good.snapshot bytes) units good.formatted.has))
    first (good.units_are ∙ units) (good.number ∙ image) good.spelled good.good good.on_pages

-- what begins the bytes does so by their header
same_begin : (u v i j k m : ℕ) (first : Durable) (bytes : List ℕ) → u ≡ v → i ≡ j → k ≡ m → BeginsAs u i k first bytes → BeginsAs v j m first bytes
same_begin u v i j k m first bytes units image selector begins =
    subst (λ n. BeginsAs v j n first bytes) selector (subst (λ n. BeginsAs v n k first bytes) image (subst (λ n. BeginsAs n i k first bytes) units begins))

-- bytes that are an image of a state are bad nowhere
paged_not_bad : OneStateAtMost → (state : Durable) (bytes : List ℕ) (offset : ℕ) → PagedFor state bytes → IsBadAt bytes offset → ⊥
paged_not_bad law state bytes offset stands bad =
    let is = stands.is in
    let begins = begin_of state bytes stands in
    elim bad [
      | inl (none, at) ↦ none state.units state.image is.selector is.formatted.headed
      | inr (inl (units, image, selector, start, at)) ↦ bad_or_good units state.units image state.image selector is.selector stands.come.first bytes start begins
      | inr (inr (units, image, selector, first, log, frame, at)) ↦
          let (u, i, k) = one_header state.units units state.image image is.selector selector bytes is.formatted.headed frame.begins.formatted.headed in
          let same = one_begin law units image selector stands.come.first first bytes (same_begin state.units units state.image image is.selector selector stands.come.first bytes u i k begins) frame.begins in
          no_log units image selector first log bytes frame stands.log is.payloads is.groups (subst (λ (s : Durable). AllApplyTo s stands.log) same stands.come.applies)
          (subst (λ n. IsLog is.payloads (area_bytes (log_area units (half_of n)) bytes)) k (subst (λ n. IsLog is.payloads (area_bytes (log_area n (half_of is.selector)) bytes)) u is.frames))
    ]

pub not_bad : OneStateAtMost → (state : Durable) (bytes : List ℕ) (offset : ℕ) → StandsFor state bytes → IsBadAt bytes offset → ⊥
not_bad law state bytes offset stands = paged_not_bad law stands.places bytes offset stands.paged

one_bad_frame : (u i k : ℕ) (first : Durable) (log more : List Group) (bytes : List ℕ) → IsBadFrame u i k first log bytes → IsBadFrame u i k first more bytes → log ≡ more
one_bad_frame u i k first log more bytes left right = elim (begins_compare left.payloads right.payloads (area_bytes (log_area u (half_of k)) bytes) left.frames right.frames) [
  | inl (r, rest, is) ↦ absurd (not_longer u i k first more bytes right log left.payloads rest r left.groups left.applies left.frames is)
  | inr (inl same) ↦ one_groups log more right.payloads (subst (λ (ps : List (List ℕ)). HoldGroups log ps) same left.groups) right.groups
  | inr (inr (r, rest, is)) ↦ absurd (not_longer u i k first log bytes left more right.payloads rest r right.groups right.applies right.frames is)
]

-- where two halves of two sizes are one
same_area : (at : ℕ → ℕ → ℕ) (u v k m : ℕ) → u ≡ v → k ≡ m → at u k ≡ at v m
same_area at u v k m units selector = ap (λ n. at n k) units ∙ ap (λ n. at v n) selector

-- two bad frames behind one header are behind the same groups
same_frame : OneStateAtMost → (u v i j k m : ℕ) (a b : Durable) (log more : List Group) (bytes : List ℕ) → u ≡ v → i ≡ j → k ≡ m → IsBadFrame u i k a log bytes → IsBadFrame v j m b more bytes → log ≡ more
same_frame law u v i j k m a b log more bytes units image selector left right =
    let here : IsBadFrame v j m a log bytes = subst (λ n. IsBadFrame v j n a log bytes) selector (subst (λ n. IsBadFrame v n k a log bytes) image (subst (λ n. IsBadFrame n i k a log bytes) units left)) in
    let first = one_begin law v j m a b bytes here.begins right.begins in
    one_bad_frame v j m b log more bytes (subst (λ (s : Durable). IsBadFrame v j m s log bytes) first here) right

pub one_bad_place : OneStateAtMost → (a b : ℕ) (bytes : List ℕ) → IsBadAt bytes a → IsBadAt bytes b → a ≡ b
one_bad_place law a b bytes left right = elim left [
  | inl (none, here) ↦ elim right [
    | inl (neither, there) ↦ here ∙ sym there
    | inr (inl (v, j, m, start, there)) ↦ absurd (none v j m start.headed)
    | inr (inr (v, j, m, first, more, frame, there)) ↦ absurd (none v j m frame.begins.formatted.headed)
  ]
  | inr (inl (u, i, k, start, here)) ↦ elim right [
    | inl (none, there) ↦ absurd (none u i k start.headed)
    | inr (inl (v, j, m, another, there)) ↦
        let (units, image, selector) = one_header u v i j k m bytes start.headed another.headed in
        here ∙ same_area (λ n s. (snapshot_area n (half_of s)).at) u v k m units selector ∙ sym there
    | inr (inr (v, j, m, first, more, frame, there)) ↦ absurd (bad_or_good u v i j k m first bytes start frame.begins)
  ]
  | inr (inr (u, i, k, first, log, bad, here)) ↦ elim right [
    | inl (none, there) ↦ absurd (none u i k bad.begins.formatted.headed)
    | inr (inl (v, j, m, start, there)) ↦ absurd (bad_or_good v u j i m k first bytes start bad.begins)
    | inr (inr (v, j, m, other, more, frame, there)) ↦
        let (units, image, selector) = one_header u v i j k m bytes bad.begins.formatted.headed frame.begins.formatted.headed in
        let same = same_frame law u v i j k m first other log more bytes units image selector bad frame in
        here ∙ same_area (λ n s. (log_area n (half_of s)).at + log_size log) u v k m units selector ∙ ap (λ (l : List Group). (log_area v (half_of m)).at + log_size l) same ∙ sym there
  ]
]
