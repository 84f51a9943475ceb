-- What was recorded of transactions is no more than what they have now, where it agrees with what is so now.
use Rattle.std.specs.Prelude.{if◌then◌else◌}
use Rattle.std.proofs.Common.{◌≡◌, ◌+◌, ◌≤◌, ◌&&◌, ◌||◌, not, Bool, true, false, List, [], ◌∷◌, filter, map, length, count_by, Option, Some, None, refl, sym, ◌∙◌, ap, subst, arith, inl, inr, ◌⊎◌, length-append}
use Rattle.std.proofs.lemmas.Bool.{and_parts, and_from, or_left, or_right, not_from_false}
use Rattle.std.proofs.lemmas.List.{length-map}
use Rattle.std.proofs.lemmas.List.Sums.{length-filter}
use Rattle.std.proofs.lemmas.Option.{none-some}
use Rattle.std.specs.List.{flat_map}
use Rattle.ktm_base.specs.declared.limits.TheConstants.{MOST_LIVE}
use Rattle.ktm_base.specs.declared.id.Id.{Id}
use Rattle.ktm_world.specs.declared.object.Phase.{Phase}
use Rattle.ktm_world.specs.declared.object.Phase.TheVariants.{Ended}
use Rattle.ktm_world.specs.declared.object.Transaction.{Transaction}
use Rattle.ktm_world.specs.declared.recorded.RecordedPart.{RecordedPart}
use Rattle.ktm_world.specs.declared.recorded.Stage.{Stage}
use Rattle.ktm_world.specs.Changes.{changes_apply}
use Rattle.ktm_world.specs.Durable.{Recorded, changes_of, settings_of, enlistments_in, enlistments_of, is_ready, superior_ids}
use Rattle.ktm_world.specs.Enlistments.{Enlistment, is_durable_at, is_live_enlistment, is_live_in, is_superior, superior_of, takes_part}
use Rattle.ktm_world.specs.Files.{OwnChanges, bytes_seen, own_changes}
use Rattle.ktm_world.specs.FileUses.{own_units, units_used, nodes_used, file_changes_waiting}
use Rattle.ktm_world.specs.Keys.{own_settings}
use Rattle.ktm_world.specs.Lawful.{Agrees, Summary, brought_back, is_held_stage, stage_in, stays, summary_in, summary_now, summary_of, superior_now}
use Rattle.ktm_world.specs.Present.{Present}
use Rattle.ktm_world.specs.Transactions.{is_live, same_id}
use Rattle.ktm_world.specs.Uses.{changes_waiting}
use Rattle.ktm_world.specs.World.{enlistment_back}
use Rattle.txf_laws.specs.Elements.{IsIn}
use Rattle.txf_laws.specs.SoundFiles.{IsSoundFiles}
use Rattle.ktm_limits.proofs.RecordedWithin.{Budget, Counts, bounded, is_live_of}
use Rattle.txf_laws.proofs.offered.Diamonds.{IsIn-map}
use Rattle.ktm_records.proofs.offered.DurableLimits.{KeepsLimits}
use Rattle.txf_laws.proofs.offered.Elements.{IsIn-filter, IsIn-unflat, find-in, list_all-at, list_any-from, length-filter-less}
use Rattle.ktm_records.proofs.offered.LiveEnlistments.{live-phase}
use Rattle.ktm_limits.proofs.FinalBytes.{committed_units, units-committed}
use Rattle.ktm_limits.proofs.LimitsRestarts.{length-parts, length-rising}
use Rattle.ktm_records.proofs.offered.NoMore.{Fits}
use Rattle.ktm_courses.proofs.offered.Endings.{part-parts}
use Rattle.txf_laws.proofs.offered.Sums.{count-less, one_where, sum-less, sum-one, sum-plus, sum-same}
use Rattle.txf_laws.proofs.offered.Tables.{Rises}
use Rattle.ktm_records.proofs.offered.UnitsPassed.{own-now, own_units-final}

-- ---- what agrees

-- a transaction that was recorded is there, and this is what the log has of it
pub record Recalls (x : Present) (r : Recorded) : Type 0 where
  pub of : Transaction
  pub there : IsIn of x.transactions.items
  pub recorded : of.is_recorded ≡ true
  pub stage : Stage
  pub stands : stage_in of.phase ≡ Some stage
  pub is : summary_now x of stage ≡ summary_of r

pub recalls : (x : Present) → Agrees x → (r : Recorded) → IsIn r x.recorded.transactions → Recalls x r
recalls x agrees r there =
    let from = IsIn-unflat (λ (t : Transaction). if t.is_recorded then summary_in x t (stage_in t.phase) else []) x.transactions.items (summary_of r)
    (subst (IsIn (summary_of r)) agrees.transactions (IsIn-map summary_of r x.recorded.transactions there)) in
    known from.0 from.1 from.0.is_recorded (stage_in from.0.phase) refl refl from.2
  where
    known : (u : Transaction) → IsIn u x.transactions.items → (recorded : Bool) (stage : Option Stage) → u.is_recorded ≡ recorded → stage_in u.phase ≡ stage → IsIn (summary_of r) (if recorded then summary_in x u stage else []) → Recalls x r
    known u has false stage is stands none = absurd none
    known u has true None is stands none = absurd none
    known u has true (Some stage) is stands kept = elim (IsIn-filter stays (summary_now x u stage ∷ []) (summary_of r) kept).0 [
      | inl same ↦ record { of = u; there = has; recorded = is; stage = stage; stands = stands; is = same }
      | inr none ↦ absurd none
    ]

-- a transaction that the log has is live
pub stage-live : (t : Transaction) (stage : Stage) → stage_in t.phase ≡ Some stage → is_live t ≡ true
stage-live t stage = go t.phase
  where
    go : (phase : Phase) → stage_in phase ≡ Some stage → is_live (record t { phase = phase }) ≡ true
    go Ended stands = absurd (none-some stage stands)
    go _ stands = refl

-- ---- enlistments

-- is it a live enlistment of the transaction that takes part
abbrev pub is_live_part : Present → Id → Enlistment → Bool
is_live_part x id e = takes_part id e && is_live_enlistment x.transactions.items e

-- is it its live superior
abbrev pub is_live_superior : Present → Id → Enlistment → Bool
is_live_superior x id e = (same_id e.transaction id && is_superior e) && is_live_enlistment x.transactions.items e

-- what was recorded of a transaction's enlistments is live
pub record Seats (x : Present) (r : Recorded) : Type 0 where
  pub parts : length (flat_map (λ (p : RecordedPart). enlistments_in p.part) r.parts) ≤ count_by (is_live_part x r.id) x.transactions.enlistments
  pub superior : length (superior_ids r.superior) ≤ count_by (is_live_superior x r.id) x.transactions.enlistments

pub seated : (x : Present) (r : Recorded) → Seats x r → length (enlistments_of r) ≤ count_by (is_live_of x r.id) x.transactions.enlistments
seated x r seats =
    let es = x.transactions.enlistments in
    let both = sum-plus (one_where (is_live_part x r.id)) (one_where (is_live_superior x r.id)) es in
    let less = sum-less (λ e. one_where (is_live_part x r.id) e + one_where (is_live_superior x r.id) e) (one_where (is_live_of x r.id)) es (λ e there. one (same_id e.transaction r.id) (is_superior e) e.is_read_only (is_live_enlistment x.transactions.items e)) in
    let all = length-append (superior_ids r.superior) (flat_map (λ (p : RecordedPart). enlistments_in p.part) r.parts) in
    let a = seats.parts in
    let b = seats.superior in
    omega arith
  where
    -- one that takes part is no superior
    one : (own above read live : Bool) → one_where (λ (b : Bool). b) (((own && not above) && not read) && live) + one_where (λ (b : Bool). b) ((own && above) && live) ≤ one_where (λ (b : Bool). b) (own && live)
    one false above read live = omega arith
    one true true read true = omega arith
    one true true read false = omega arith
    one true false true true = omega arith
    one true false true false = omega arith
    one true false false true = omega arith
    one true false false false = omega arith

-- an enlistment of a transaction that has not ended, and which has not finished and is not read-only, or is its superior, is live
pub live-from : (x : Present) (t : Transaction) (e : Enlistment) → IsIn t x.transactions.items → is_live t ≡ true → same_id e.transaction t.id ≡ true → (is_superior e || (not e.is_read_only && not e.is_finished)) ≡ true → is_live_enlistment x.transactions.items e ≡ true
live-from x t e there live own going = list_any-from (λ t. is_live_in t e) x.transactions.items t there (and_from _ _ (and_from _ _ own (not_from_false _ (live-phase t live))) going)

module _ (x : Present) (r : Recorded) (recalled : Recalls x r) where
  abbrev u : Transaction
  u = recalled.of

  same : u.id ≡ r.id
  same = ap (λ (s : Summary). s.id) recalled.is

  live : is_live u ≡ true
  live = stage-live u recalled.stage recalled.stands

  -- the enlistments that were recorded
  abbrev pub counted : Enlistment → Bool
  counted e = takes_part u.id e && is_durable_at x.managers e.manager && e.is_prepared && not e.is_finished

  pub parts-counted : length (flat_map (λ (p : RecordedPart). enlistments_in p.part) r.parts) ≡ count_by counted x.transactions.enlistments
  parts-counted =
      sym (length-parts r.id r.parts) ∙ sym (length-rising (flat_map (enlistment_back r.id) r.parts)) ∙ ap length (sym (ap (λ (s : Summary). s.enlistments) recalled.is))
      ∙ length-rising (map brought_back (filter counted x.transactions.enlistments)) ∙ length-map (filter counted x.transactions.enlistments) brought_back ∙ length-filter counted x.transactions.enlistments

  counted-live : (e : Enlistment) → counted e ≡ true → is_live_part x r.id e ≡ true
  counted-live e is =
      let c = and_parts (takes_part u.id e && is_durable_at x.managers e.manager && e.is_prepared) (not e.is_finished) is in
      let b = and_parts (takes_part u.id e && is_durable_at x.managers e.manager) e.is_prepared c.0 in
      let a = and_parts (takes_part u.id e) (is_durable_at x.managers e.manager) b.0 in
      let part = part-parts u.id e a.0 in
      and_from _ _ (subst (λ id. takes_part id e ≡ true) same a.0) (live-from x u e recalled.there live part.0 (or_right _ _ (and_from _ _ (not_from_false _ part.2) c.1)))

  pub superior-is : r.superior ≡ (if is_ready recalled.stage then None else superior_now (superior_of x.transactions.enlistments u.id))
  superior-is = sym (ap (λ (s : Summary). s.superior) recalled.is)

  -- its superior is one of those that are there
  pub superior-live : (o : Option Enlistment) → superior_of x.transactions.enlistments u.id ≡ o → length (superior_ids (superior_now o)) ≤ count_by (is_live_superior x u.id) x.transactions.enlistments
  superior-live None is = omega arith
  superior-live (Some e) is =
      let found = find-in (λ e. same_id e.transaction u.id && is_superior e) x.transactions.enlistments e is in
      let parts = and_parts (same_id e.transaction u.id) (is_superior e) found.1 in
      let one = sum-one (one_where (is_live_superior x u.id)) x.transactions.enlistments e found.0 in
      let counts : one_where (is_live_superior x u.id) e ≡ 1 = rw (and_from _ _ found.1 (live-from x u e recalled.there live parts.0 (or_left _ _ parts.1))) refl in
      omega arith

  pub recalled-seats : Seats x r
  recalled-seats = record {
    parts = (let a = parts-counted in let b = count-less counted (is_live_part x r.id) x.transactions.enlistments (λ e there is. counted-live e is) in omega arith);
    superior = go (is_ready recalled.stage) refl;
  }
    where
      go : (b : Bool) → is_ready recalled.stage ≡ b → length (superior_ids r.superior) ≤ count_by (is_live_superior x r.id) x.transactions.enlistments
      go true ready = let e = ap (λ s. length (superior_ids s)) (superior-is ∙ ap (λ b. if b then None else superior_now (superior_of x.transactions.enlistments u.id)) ready) in omega arith
      go false later =
          let e = ap (λ s. length (superior_ids s)) (superior-is ∙ ap (λ b. if b then None else superior_now (superior_of x.transactions.enlistments u.id)) later) in
          let few = superior-live (superior_of x.transactions.enlistments u.id) refl in
          let at = ap (λ id. count_by (is_live_superior x id) x.transactions.enlistments) same in
          omega arith

  -- what it changed and set, while it is held, and else nothing
  pub recalled-changes : changes_of r ≡ (if is_held_stage recalled.stage then own_changes x.files.table.own r.id else [])
  recalled-changes = sym (ap (λ (s : Summary). s.changes) recalled.is) ∙ ap (λ id. if is_held_stage recalled.stage then own_changes x.files.table.own id else []) same

  pub recalled-settings : settings_of r ≡ (if is_held_stage recalled.stage then own_settings x.keys.own r.id else [])
  recalled-settings = sym (ap (λ (s : Summary). s.settings) recalled.is) ∙ ap (λ id. if is_held_stage recalled.stage then own_settings x.keys.own id else []) same

  either : {X : Type 0} (b : Bool) (a : List X) → ((if b then a else []) ≡ []) ⊎ ((if b then a else []) ≡ a)
  either true a = inr refl
  either false a = inl refl

  pub recalled-counts : Counts x x.files.table.own x.keys.own r
  recalled-counts = record {
    changes = λ waits. elim (either (is_held_stage recalled.stage) (own_changes x.files.table.own r.id)) [ inl none ↦ inl (recalled-changes ∙ none) | inr own ↦ inr (recalled-changes ∙ own) ];
    settings = λ waits. elim (either (is_held_stage recalled.stage) (own_settings x.keys.own r.id)) [ inl none ↦ inl (recalled-settings ∙ none) | inr own ↦ inr (recalled-settings ∙ own) ];
    live = (u, recalled.there, same, live);
    enlistments = seated x r recalled-seats;
  }

-- ---- what is so now

pub budget-now : (x : Present) → IsSoundFiles x → Fits x → Budget x.recorded.units x.files.tree x.files.table.own x.keys.store x.keys.own
unfolding units_used nodes_used file_changes_waiting changes_waiting
budget-now x sound fits =
    let own = sum-same (own_units x.files) (λ (o : OwnChanges). committed_units x.files.tree o.changes) x.files.table.own (λ o there.
    let now = own-now x sound o there in
    own_units-final x.files o (bytes_seen x.files (Some o.transaction)) now.0 now.1
    ∙ sym (units-committed x.files.tree o.changes (bytes_seen x.files (Some o.transaction)) now.1 (list_all-at (λ (o : OwnChanges). changes_apply x.files.tree o.changes) x.files.table.own sound.own_apply o there))) in
    record {
      units = (let a = fits.units in omega arith);
      nodes = (let a = fits.nodes in omega arith);
      keys = fits.keys;
      changes = fits.changes;
    }

pub managers-now : (x : Present) → Agrees x → Fits x → length x.recorded.managers ≤ MOST_LIVE
managers-now x agrees fits =
    let a = ap length agrees.managers in
    let b = length-map (filter (λ m. m.is_durable) x.managers) (λ m. m.id) in
    let c = length-filter-less (λ m. m.is_durable) x.managers in
    let d = fits.managers in
    omega arith

-- what was recorded is within the limits where it agrees with what is so now
pub agreeing-limits : (x : Present) → Agrees x → IsSoundFiles x → Fits x → Rises x.recorded.transactions → KeepsLimits x.recorded
agreeing-limits x agrees sound fits rises =
    bounded x x.recorded x.files.table.own x.keys.own rises (λ r there. recalled-counts x r (recalls x agrees r there))
    (subst (λ tree. Budget x.recorded.units tree x.files.table.own x.recorded.keys x.keys.own) (sym agrees.tree)
    (subst (λ keys. Budget x.recorded.units x.files.tree x.files.table.own keys x.keys.own) (sym agrees.keys) (budget-now x sound fits)))
    fits.live fits.enlisted (managers-now x agrees fits)
