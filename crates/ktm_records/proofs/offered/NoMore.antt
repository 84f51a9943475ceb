-- What no step may make more of: what quotas count, and what is in use of the disk.
use Rattle.std.specs.Prelude.{if◌then◌else◌}
use Rattle.std.proofs.Common.{◌≡◌, ◌≤◌, ◌||◌, not, Bool, true, false, List, [], ◌∷◌, ◌++◌, filter, map, length, sum_by, count_by, nat_lt, Option, Some, None, is_some, is_none, refl, sym, ◌∙◌, ap, arith, inl, inr, ◌⊎◌}
use Rattle.std.proofs.lemmas.Bool.{le-ltb, ltb-false, or_parts, or_from, true≢false}
use Rattle.std.proofs.lemmas.List.{append-nil, length-map}
use Rattle.ktm_base.specs.declared.limits.TheConstants.{MOST_LIVE, MOST_HANDLES, MOST_NUMBER, END_OF_NODES}
use Rattle.ktm_base.specs.declared.id.Id.{Id}
use Rattle.ktm_world.specs.declared.change.Change.{Change}
use Rattle.ktm_world.specs.declared.event.Event.{Event}
use Rattle.ktm_world.specs.declared.event.Event.TheVariants.{Boot, MadeRm, Plain, Ready, Single, Held, Decide, Undo, Done}
use Rattle.ktm_world.specs.declared.object.Transaction.{Transaction}
use Rattle.ktm_world.specs.declared.reply.Reply.{Reply}
use Rattle.ktm_world.specs.Changes.{nodes_made}
use Rattle.ktm_world.specs.Committed.{Work, committed_with, written_files}
use Rattle.ktm_world.specs.Durable.{Durable, after_event, after_events, decide_recorded, finish_recorded, recorded_at}
use Rattle.ktm_world.specs.Enlistments.{Manager, Sent, is_live_enlistment}
use Rattle.ktm_world.specs.Files.{FirstOpen, OwnChanges, bytes_seen, first_open, own_changes}
use Rattle.ktm_world.specs.FileUses.{own_units, units_used, nodes_used}
use Rattle.ktm_world.specs.Keys.{OwnSettings, keys_used, changes_pending as keys_unset, own_settings, stored_all, without_own}
use Rattle.ktm_world.specs.Outcome.{Outcome, apply, only_reply, committed_now, is_forgotten, served}
use Rattle.ktm_world.specs.Phases.{Course}
use Rattle.ktm_world.specs.Present.{Present}
use Rattle.ktm_world.specs.TransactionCalls.{arrived}
use Rattle.ktm_world.specs.Transactions.{is_live, is_of, is_undecided, transaction_at}
use Rattle.ktm_world.specs.Tree.{units_of}
use Rattle.ktm_world.specs.Uses.{changes_waiting, is_over_quota, is_over_disk}
use Rattle.ktm_world.proofs.offered.KeyLemmas.{length-stored_all-le, counted-without_own}
use Rattle.txf_laws.specs.Elements.{IsIn}
use Rattle.txf_laws.specs.Footprint.{ListsLaw}
use Rattle.txf_laws.specs.Formed.{FormedLaw}
use Rattle.ktm_records.specs.Kept.{IsWithin}
use Rattle.txf_laws.specs.SoundFiles.{IsSoundFiles}
use Rattle.ktm_owned.proofs.offered.OwnedAfterCourses.{of_none, of_one, bare, gone, end-files}
use Rattle.txf_laws.proofs.offered.CommittedUnits.{gains, gains-final}
use Rattle.ktm_owned.proofs.offered.CoursesKept.{IsCourse}
use Rattle.txf_laws.proofs.offered.Elements.{IsIn-kept, filter-true}
use Rattle.ktm_records.proofs.offered.LiveEnlistments.{Fade, live-stays, enlisted-stays}
use Rattle.txf_laws.proofs.offered.OlderVersions.{AreFixed}
use Rattle.txf_laws.proofs.offered.CommitsOfOthers.{own-final, passed}
use Rattle.ktm_owned.proofs.offered.EndedTransactions.{AreInOrder, spares-end}
use Rattle.txf_laws.proofs.offered.Reservations.{own_changes-found}
use Rattle.txf_laws.proofs.offered.Sums.{sum-one}
use Rattle.txf_laws.proofs.offered.Tables.{same_id-from}
use Rattle.ktm_records.proofs.offered.UnitsPassed.{NoMoreFiles, files-same, files-then, final_units, units-passed, nodes-passed, changes-passed}

-- ---- the limits, one by one

pub record Fits (x : Present) : Type 0 where
  pub changes : changes_waiting x ≤ x.recorded.units
  pub live : count_by is_live x.transactions.items ≤ MOST_LIVE
  pub enlisted : count_by (is_live_enlistment x.transactions.items) x.transactions.enlistments ≤ MOST_LIVE
  pub managers : length x.managers ≤ MOST_LIVE
  pub handles : length x.handles ≤ MOST_HANDLES
  pub last_transaction : x.transactions.last_transaction ≤ MOST_NUMBER
  pub last_manager : x.transactions.last_manager ≤ MOST_NUMBER
  pub last_enlistment : x.transactions.last_enlistment ≤ MOST_NUMBER
  pub last_open : x.files.table.last_open ≤ MOST_NUMBER
  pub next_node : x.files.table.next_node ≤ END_OF_NODES
  pub units : units_used x.files ≤ x.recorded.units
  pub nodes : nodes_used x.files ≤ x.recorded.units
  pub keys : keys_used x.keys ≤ x.recorded.units

pub fits-within : (x : Present) → IsWithin x → Fits x
unfolding is_over_quota is_over_disk
fits-within x within =
    let u = x.recorded.units in
    let j = or_parts _ (nat_lt END_OF_NODES x.files.table.next_node) within.0 in
    let i = or_parts _ (nat_lt MOST_NUMBER x.files.table.last_open) j.0 in
    let h = or_parts _ (nat_lt MOST_NUMBER x.transactions.last_enlistment) i.0 in
    let g = or_parts _ (nat_lt MOST_NUMBER x.transactions.last_manager) h.0 in
    let f = or_parts _ (nat_lt MOST_NUMBER x.transactions.last_transaction) g.0 in
    let e = or_parts _ (nat_lt MOST_HANDLES (length x.handles)) f.0 in
    let d = or_parts _ (nat_lt MOST_LIVE (length x.managers)) e.0 in
    let c = or_parts _ (nat_lt MOST_LIVE (count_by (is_live_enlistment x.transactions.items) x.transactions.enlistments)) d.0 in
    let b = or_parts (nat_lt u (changes_waiting x)) (nat_lt MOST_LIVE (count_by is_live x.transactions.items)) c.0 in
    let k = or_parts (nat_lt u (units_used x.files) || nat_lt u (nodes_used x.files)) (nat_lt u (keys_used x.keys)) within.1 in
    let l = or_parts (nat_lt u (units_used x.files)) (nat_lt u (nodes_used x.files)) k.0 in
    record {
      changes = ltb-false _ _ b.0;
      live = ltb-false _ _ b.1;
      enlisted = ltb-false _ _ c.1;
      managers = ltb-false _ _ d.1;
      handles = ltb-false _ _ e.1;
      last_transaction = ltb-false _ _ f.1;
      last_manager = ltb-false _ _ g.1;
      last_enlistment = ltb-false _ _ h.1;
      last_open = ltb-false _ _ i.1;
      next_node = ltb-false _ _ j.1;
      units = ltb-false _ _ l.0;
      nodes = ltb-false _ _ l.1;
      keys = ltb-false _ _ k.1;
    }

pub within-fits : (x : Present) → Fits x → IsWithin x
unfolding is_over_quota is_over_disk
within-fits x fits = (
  or_from _ _ (or_from _ _ (or_from _ _ (or_from _ _ (or_from _ _ (or_from _ _ (or_from _ _ (or_from _ _ (or_from _ _ (le-ltb _ _ fits.changes) (le-ltb _ _ fits.live)) (le-ltb _ _ fits.enlisted)) (le-ltb _ _ fits.managers)) (le-ltb _ _ fits.handles))
      (le-ltb _ _ fits.last_transaction)) (le-ltb _ _ fits.last_manager)) (le-ltb _ _ fits.last_enlistment)) (le-ltb _ _ fits.last_open)) (le-ltb _ _ fits.next_node),
  or_from _ _ (or_from _ _ (le-ltb _ _ fits.units) (le-ltb _ _ fits.nodes)) (le-ltb _ _ fits.keys),
)

-- ---- steps

-- no more is so afterwards
pub record NoMore (x y : Present) : Type 0 where
  pub room : y.recorded.units ≡ x.recorded.units
  pub live : count_by is_live y.transactions.items ≤ count_by is_live x.transactions.items
  pub enlisted : count_by (is_live_enlistment y.transactions.items) y.transactions.enlistments ≤ count_by (is_live_enlistment x.transactions.items) x.transactions.enlistments
  pub managers : length y.managers ≤ length x.managers
  pub handles : length y.handles ≤ length x.handles
  pub last_transaction : y.transactions.last_transaction ≤ x.transactions.last_transaction
  pub last_manager : y.transactions.last_manager ≤ x.transactions.last_manager
  pub last_enlistment : y.transactions.last_enlistment ≤ x.transactions.last_enlistment
  pub files : NoMoreFiles x.files y.files
  pub keys : keys_used y.keys ≤ keys_used x.keys
  pub unset : keys_unset y.keys ≤ keys_unset x.keys

pub no_more-fits : (x y : Present) → NoMore x y → Fits x → Fits y
unfolding changes_waiting
no_more-fits x y less fits =
    let room = less.room in
    record {
      changes = (let a = less.files.changes in let b = less.unset in let c = fits.changes in omega arith);
      live = (let a = less.live in let b = fits.live in omega arith);
      enlisted = (let a = less.enlisted in let b = fits.enlisted in omega arith);
      managers = (let a = less.managers in let b = fits.managers in omega arith);
      handles = (let a = less.handles in let b = fits.handles in omega arith);
      last_transaction = (let a = less.last_transaction in let b = fits.last_transaction in omega arith);
      last_manager = (let a = less.last_manager in let b = fits.last_manager in omega arith);
      last_enlistment = (let a = less.last_enlistment in let b = fits.last_enlistment in omega arith);
      last_open = (let a = less.files.last_open in let b = fits.last_open in omega arith);
      next_node = (let a = less.files.next_node in let b = fits.next_node in omega arith);
      units = (let a = less.files.units in let b = fits.units in omega arith);
      nodes = (let a = less.files.nodes in let b = fits.nodes in omega arith);
      keys = (let a = less.keys in let b = fits.keys in omega arith);
    }

pub no_more-then : (x y z : Present) → NoMore x y → NoMore y z → NoMore x z
no_more-then x y z a b = record {
  room = b.room ∙ a.room;
  live = omega (arith, a.live, b.live);
  enlisted = omega (arith, a.enlisted, b.enlisted);
  managers = omega (arith, a.managers, b.managers);
  handles = omega (arith, a.handles, b.handles);
  last_transaction = omega (arith, a.last_transaction, b.last_transaction);
  last_manager = omega (arith, a.last_manager, b.last_manager);
  last_enlistment = omega (arith, a.last_enlistment, b.last_enlistment);
  files = files-then x.files y.files z.files a.files b.files;
  keys = omega (arith, a.keys, b.keys);
  unset = omega (arith, a.unset, b.unset);
}

-- ---- what no outcome changes

units-event : (s : Durable) (e : Event) → (after_event s e).units ≡ s.units
units-event s (Boot boot) = refl
units-event s (MadeRm manager) = refl
units-event s (Plain change) = refl
units-event s (Ready transaction part) = refl
units-event s (Single transaction part) = refl
units-event s (Held transaction enlistment manager information) = refl
units-event s (Decide transaction) = elim (recorded_at s.transactions transaction) as (λ r. (decide_recorded s r).units ≡ s.units) [ None ↦ refl | Some t ↦ refl ]
units-event s (Undo transaction) = refl
units-event s (Done transaction done) = elim (recorded_at s.transactions transaction) as (λ r. (finish_recorded s done r).units ≡ s.units) [ None ↦ refl | Some t ↦ refl ]

pub units-events : (es : List Event) (s : Durable) → (after_events s es).units ≡ s.units
units-events [] s = refl
units-events (e ∷ es) s = units-events es (after_event s e) ∙ units-event s e

pub managers-served : (took : Option Id) (sent : List Sent) (ms : List Manager) → length (map (served took sent) (ms ++ [])) ≡ length ms
managers-served took sent ms = length-map (ms ++ []) (served took sent) ∙ ap length (append-nil ms)

pub files-left : (x : Present) (o : Outcome) → o.works ≡ [] → o.openings ≡ [] → o.forgotten ≡ [] → o.table ≡ x.files.table → (apply x o).files ≡ x.files
files-left x o works openings forgotten table i = record {
  tree = (committed_with (committed_now x) (works i)).tree;
  versions = (committed_with (committed_now x) (works i)).versions;
  first_opens = (ap (λ ids. filter (λ f. not (is_forgotten ids f.transaction)) (x.files.first_opens ++ map (first_open (committed_now x)) o.openings)) forgotten
      ∙ ap (λ os. filter (λ (f : FirstOpen). true) (x.files.first_opens ++ map (first_open (committed_now x)) os)) openings ∙ filter-true (x.files.first_opens ++ []) ∙ append-nil x.files.first_opens) i;
  table = table i;
}

-- an outcome that leaves the files and the keys, and makes no resource manager
pub no_more-left : (x : Present) (o : Outcome) → o.works ≡ [] → o.openings ≡ [] → o.forgotten ≡ [] → o.table ≡ x.files.table → o.own ≡ x.keys.own → o.made ≡ []
    → count_by is_live o.transactions.items ≤ count_by is_live x.transactions.items
    → count_by (is_live_enlistment o.transactions.items) o.transactions.enlistments ≤ count_by (is_live_enlistment x.transactions.items) x.transactions.enlistments
    → length o.handles ≤ length x.handles → o.transactions.last_transaction ≡ x.transactions.last_transaction → o.transactions.last_manager ≡ x.transactions.last_manager
    → o.transactions.last_enlistment ≡ x.transactions.last_enlistment → NoMore x (apply x o)
no_more-left x o works openings forgotten table own made live enlisted handles lt lm le = record {
  room = units-events o.events x.recorded;
  live = live;
  enlisted = enlisted;
  managers = (let a = ap (λ ms. length (map (served o.took o.sent) (x.managers ++ ms))) made in let b = managers-served o.took o.sent x.managers in omega arith);
  handles = handles;
  last_transaction = omega arith;
  last_manager = omega arith;
  last_enlistment = omega arith;
  files = files-same x.files (apply x o).files (files-left x o works openings forgotten table);
  keys = (let same : (apply x o).keys ≡ x.keys = λ i. record { store = (committed_with (committed_now x) (works i)).store; own = own i } in let e = ap keys_used same in omega arith);
  unset = (let same : (apply x o).keys ≡ x.keys = λ i. record { store = (committed_with (committed_now x) (works i)).store; own = own i } in let e = ap keys_unset same in omega arith);
}

pub no_more-reply : (x : Present) (reply : Reply) → NoMore x (apply x (only_reply x reply))
no_more-reply x reply = no_more-left x (only_reply x reply) refl refl refl refl refl refl (omega arith) (omega arith) (omega arith) refl refl refl

-- ---- a course has arrived

module _ (lists : ListsLaw) (formed : FormedLaw) (x : Present) (order : AreInOrder x) (sound : IsSoundFiles x) (fixed : AreFixed x.files.first_opens) (t : Transaction) (there : IsIn t x.transactions.items)
    (found : transaction_at x.transactions.items t.id ≡ Some t) (live : is_live t ≡ true) (c : Course) (reply : Reply)
    (is : IsCourse t (own_changes x.files.table.own t.id) (own_settings x.keys.own t.id) c) (fade : Fade x.transactions.enlistments c.enlistments) where
  abbrev cs : List Change
  cs = own_changes x.files.table.own t.id

  abbrev ss : OwnSettings
  ss = own_settings x.keys.own t.id

  abbrev the_bare : Outcome
  the_bare = bare lists formed x order sound t there ss c reply is

  abbrev the_gone : Outcome
  the_gone = gone lists formed x order sound t there ss c reply is

  abbrev keep : Option Id → Bool
  keep other = not (is_of t.id other)

  found' : transaction_at x.transactions.items c.transaction.id ≡ Some t
  found' = ap (transaction_at x.transactions.items) is.id ∙ found

  -- what the transaction wrote and made is no more than what ends with it
  own-units : gains x.files.tree cs ≤ sum_by (own_units x.files) (filter (λ (o : OwnChanges). not (keep (Some o.transaction))) x.files.table.own)
  own-units = elim (own_changes-found x.files.table.own t.id) [
    | inl none ↦ (let e = ap (gains x.files.tree) none in omega arith)
    | inr (o, has, same, changes) ↦
        let mine : IsIn o (filter (λ (o : OwnChanges). not (keep (Some o.transaction))) x.files.table.own) = IsIn-kept (λ (o : OwnChanges). not (keep (Some o.transaction))) x.files.table.own o has
        (ap (λ b. not (not b)) (same_id-from t.id o.transaction (sym same))) in
        let one = sum-one (own_units x.files) _ o mine in
        let gained = gains-final x.files.tree cs (bytes_seen x.files (Some t.id)) (own-final x sound t.id) in
        let units : own_units x.files o ≡ final_units cs (bytes_seen x.files (Some t.id)) = λ i. sum_by (λ f. units_of (bytes_seen x.files (Some (same i)) f)) (written_files (changes i)) in
        omega arith
  ]

  own-nodes : nodes_made cs ≤ sum_by (λ (o : OwnChanges). nodes_made o.changes) (filter (λ (o : OwnChanges). not (keep (Some o.transaction))) x.files.table.own)
  own-nodes = elim (own_changes-found x.files.table.own t.id) [
    | inl none ↦ (let e = ap nodes_made none in omega arith)
    | inr (o, has, same, changes) ↦
        let mine : IsIn o (filter (λ (o : OwnChanges). not (keep (Some o.transaction))) x.files.table.own) = IsIn-kept (λ (o : OwnChanges). not (keep (Some o.transaction))) x.files.table.own o has
        (ap (λ b. not (not b)) (same_id-from t.id o.transaction (sym same))) in
        let one = sum-one (λ (o : OwnChanges). nodes_made o.changes) _ o mine in
        let e = ap nodes_made changes in
        omega arith
  ]

  -- nothing is committed
  ended-none : NoMoreFiles x.files (passed x.files [] keep x.files.table.next_node)
  ended-none = record {
    changes = changes-passed x sound fixed [] keep x.files.table.next_node refl (λ o has kept d none. absurd none);
    last_open = omega arith;
    next_node = omega arith;
    units = (let a = units-passed x sound fixed [] keep x.files.table.next_node refl (λ o has kept d none. absurd none) in omega arith);
    nodes = (let a = nodes-passed x sound fixed [] keep x.files.table.next_node refl (λ o has kept d none. absurd none) in omega arith);
  }

  -- its own changes are committed
  ended-own : NoMoreFiles x.files (passed x.files cs keep x.files.table.next_node)
  ended-own =
      let spares = spares-end lists formed x order sound t there in
      record {
        changes = changes-passed x sound fixed cs keep x.files.table.next_node spares.all spares.fresh;
        last_open = omega arith;
        next_node = omega arith;
        units = (let a = units-passed x sound fixed cs keep x.files.table.next_node spares.all spares.fresh in let b = own-units in omega arith);
        nodes = (let a = nodes-passed x sound fixed cs keep x.files.table.next_node spares.all spares.fresh in let b = own-nodes in omega arith);
      }

  -- its settings end, and are committed where it has a work
  keys-ended : (works : List Work) → (works ≡ []) ⊎ ((w : Work) × (works ≡ w ∷ []) × (w.changes ≡ cs) × (w.settings ≡ ss))
      → keys_used (record { store = (committed_with (committed_now x) works).store; own = without_own x.keys.own c.transaction.id }) ≤ keys_used x.keys
  keys-ended works (inl none) =
      let store = ap (λ ws. length (committed_with (committed_now x) ws).store) none in
      let own = counted-without_own (λ s. is_some s.value) c.transaction.id x.keys.own in
      omega arith
  keys-ended works (inr (w, one, changes, settings)) =
      let store : length (committed_with (committed_now x) works).store ≡ length (stored_all x.keys.store ss) = ap (λ ws. length (committed_with (committed_now x) ws).store) one ∙ ap (λ s. length (stored_all x.keys.store s)) settings in
      let own = counted-without_own (λ s. is_some s.value) c.transaction.id x.keys.own in
      let same = ap (λ i. count_by (λ s. is_some s.value) (own_settings x.keys.own i)) is.id in
      let low = length-stored_all-le x.keys.store ss in
      omega arith

  unset-ended : (works : List Work) → keys_unset (record { store = (committed_with (committed_now x) works).store; own = without_own x.keys.own c.transaction.id }) ≤ keys_unset x.keys
  unset-ended works = let own = counted-without_own (λ s. is_none s.value) c.transaction.id x.keys.own in omega arith

  went : is_undecided c.transaction ≡ true → c.works ≡ []
  went undecided = elim is.outcome [ inl decided ↦ absurd (true≢false (sym undecided ∙ decided)) | inr (none, was) ↦ none ]

  pub no_more-arrived : NoMore x (apply x (arrived x c reply))
  no_more-arrived = go (is_undecided c.transaction) refl
    where
      live' : count_by is_live the_bare.transactions.items ≤ count_by is_live x.transactions.items
      live' = live-stays x.transactions.items t c.transaction found' live

      enlisted' : count_by (is_live_enlistment the_bare.transactions.items) the_bare.transactions.enlistments ≤ count_by (is_live_enlistment x.transactions.items) x.transactions.enlistments
      enlisted' = enlisted-stays x.transactions.items t c.transaction x.transactions.enlistments c.enlistments found' live fade

      files : NoMoreFiles x.files (apply x the_gone).files
      files = elim is.works [
        | inl none ↦ files-then x.files (passed x.files [] keep x.files.table.next_node) (apply x the_gone).files ended-none
            (files-same _ _ (end-files lists formed x order sound t there ss c reply is [] (of_none x c.works none)))
        | inr (w, one, changes, settings) ↦ files-then x.files (passed x.files cs keep x.files.table.next_node) (apply x the_gone).files ended-own
            (files-same _ _ (end-files lists formed x order sound t there ss c reply is cs (of_one x c.works w cs one changes)))
      ]

      go : (b : Bool) → is_undecided c.transaction ≡ b → NoMore x (apply x (if b then the_bare else the_gone))
      go true undecided = no_more-left x the_bare (went undecided) refl refl refl refl refl live' enlisted' (omega arith) refl refl refl
      go false decided = record {
        room = units-events c.events x.recorded;
        live = live';
        enlisted = enlisted';
        managers = (let b = managers-served None c.sent x.managers in omega arith);
        handles = omega arith;
        last_transaction = omega arith;
        last_manager = omega arith;
        last_enlistment = omega arith;
        files = files;
        keys = keys-ended c.works is.works;
        unset = unset-ended c.works;
      }
