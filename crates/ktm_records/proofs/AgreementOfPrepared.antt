-- What was recorded goes on to agree with what is so now where all are prepared: the transaction waits for its superior, or commits.
use Rattle.std.proofs.Common.{◌≡◌, ◌||◌, Bool, true, false, List, [], ◌∷◌, ◌++◌, map, Option, Some, None, is_some, refl, sym, ◌∙◌, ap, subst, arith, inl, inr}
use Rattle.std.proofs.lemmas.Bool.{or_parts, true≢false, false_from_ne_true}
use Rattle.std.specs.List.{list_any}
use Rattle.ktm_base.specs.declared.id.Id.{Id}
use Rattle.ktm_world.specs.declared.event.Event.{Event}
use Rattle.ktm_world.specs.declared.event.Part.{Part}
use Rattle.ktm_world.specs.declared.object.TransactionOutcome.TheVariants.{Committed as CommittedOutcome}
use Rattle.ktm_world.specs.declared.recorded.Stage.{Stage}
use Rattle.ktm_world.specs.declared.recorded.Superior.{Superior}
use Rattle.ktm_world.specs.Changes.{has_changes}
use Rattle.ktm_world.specs.Committed.{Committed, committed_with}
use Rattle.ktm_world.specs.Durable.{Durable, Recorded, after_events}
use Rattle.ktm_world.specs.Enlistments.{Enlistment, superior_of, takes_part}
use Rattle.ktm_world.specs.Lawful.{summary_of, superior_now}
use Rattle.ktm_world.specs.Outcome.{committed_now}
use Rattle.ktm_world.specs.Phases.{Course, ended, event_if, has_settings, is_its_superior, superior}
use Rattle.ktm_world.specs.Present.{Present}
use Rattle.ktm_world.proofs.offered.Durables.{after_events-append}
use Rattle.txf_laws.specs.Elements.{IsIn}
use Rattle.ktm_records.specs.Kept.{is_carried_out}
use Rattle.ktm_records.proofs.AgreementOfCommits.{follows-committing, follows-volatile}
use Rattle.txf_laws.proofs.offered.Diamonds.{IsIn-map}
use Rattle.txf_laws.proofs.offered.Elements.{list_any-at}
use Rattle.ktm_records.proofs.offered.AgreementOfCourses.{Follows, course_enlistments, course_now, none-in}
use Rattle.ktm_courses.proofs.offered.Moves.{with-unchanged}
use Rattle.ktm_records.proofs.LoggedOrder.{if_there, or_new}
use Rattle.ktm_courses.proofs.offered.Endings.{no-parts}
use Rattle.ktm_records.proofs.ReadyCourses.{Prepares}
use Rattle.ktm_records.proofs.LoggedUndecided.{Stores}
use Rattle.ktm_records.proofs.LoggedTransaction.{Tracks, as_held, tracks-held}
use Rattle.ktm_records.proofs.ReadyParts.{Gets, gets-changes, gets-settings, none-counted, ready_if, some-ready}
use Rattle.ktm_steps.proofs.offered.Table.{all_readies-by, held, readied}
use Rattle.ktm_world.specs.Rows.{all_readies, commits, participants}
use Rattle.ktm_world.specs.Steps.{counted, run, seen}

-- ---- all are prepared

module _ (x : Present) (before behind : List Recorded) (c : Course) (o : Option Recorded) (prepares : Prepares x before behind c o) where
  abbrev id : Id
  id = c.transaction.id

  abbrev d : Course
  d = readied c

  abbrev s : Durable
  s = after_events x.recorded d.events

  abbrev committed : Committed
  committed = committed_with (committed_now x) c.works

  abbrev a : Bool
  a = has_changes c.changes

  abbrev b : Bool
  b = has_settings c.settings

  -- with the parts of the files and the keys
  abbrev o_ready : Option Recorded
  o_ready = ready_if b (Part.Settings c.settings) id (ready_if a (Part.Changes c.changes) id o)

  readied-gets : Gets x before behind d c.changes c.settings o_ready s committed
  readied-gets = subst (λ s'. Gets x before behind d c.changes c.settings o_ready s' committed) (sym at-end)
      (gets-settings x before behind d c.changes c.settings (ready_if a (Part.Changes c.changes) id o) (after_events (after_events x.recorded c.events) files) committed
      (gets-changes x before behind d c.changes o (after_events x.recorded c.events) committed prepares.drawn (record {
        tracks = prepares.tracks;
        stores = record {
          id = (prepares.stores).id;
          enlistments = (prepares.stores).enlistments;
          changes = (prepares.stores).changes;
          settings = (prepares.stores).settings;
          parts = (prepares.stores).parts;
        };
        stage = prepares.stage;
        alone = prepares.alone;
      })))
    where
      files : List Event
      files = event_if a (Event.Ready id (Part.Changes c.changes))

      keys : List Event
      keys = event_if b (Event.Ready id (Part.Settings c.settings))

      at-end : s ≡ after_events (after_events (after_events x.recorded c.events) files) keys
      at-end = after_events-append x.recorded (c.events ++ files) keys ∙ ap (λ s. after_events s keys) (after_events-append x.recorded c.events files)

  readied-has : d.transaction.is_recorded ≡ is_some o_ready
  readied-has = (λ i. (prepares.has i || a) || b) ∙ ap (λ h. h || b) (sym (some-ready a (Part.Changes c.changes) id o)) ∙ sym (some-ready b (Part.Settings c.settings) id (ready_if a (Part.Changes c.changes) id o))

  -- it waits for its superior
  follows-held : (e : Enlistment) → superior c ≡ Some e → Follows x id before behind (held d e)
  follows-held e is = record {
    o = Some (as_held r sup);
    tracks = subst (λ s'. Tracks x id before behind (Some (as_held r sup)) s' committed) (sym (after_events-append x.recorded d.events (Event.Held id e.id e.manager e.information ∷ [])))
        (tracks-held x id before behind o_ready s committed sup readied-gets.tracks);
    summaries = ap (λ s. s ∷ []) now;
    carried = λ q there. elim there [ inl same ↦ subst (λ q. is_carried_out q ≡ true) same refl | inr none ↦ absurd none ];
  }
    where
      sup : Superior
      sup = record { enlistment = e.id; manager = e.manager; information = e.information }

      r : Recorded
      r = or_new o_ready id

      still : (held d e).enlistments ≡ c.enlistments
      still = with-unchanged (is_its_superior d) c.enlistments

      stores : Stores d c.changes c.settings r
      stores = readied-gets.stores

      now : summary_of (as_held r sup) ≡ course_now (held d e) Stage.Held
      now = λ i. record {
        id = stores.id i;
        stage = Stage.Held;
        superior = (ap superior_now (sym is) ∙ ap (λ es. superior_now (superior_of es id)) (sym still)) i;
        enlistments = (stores.enlistments ∙ ap (λ es. course_enlistments (record c { enlistments = es })) (sym still)) i;
        changes = stores.changes i;
        settings = stores.settings i;
      }

  pub follows-all_ready : (c.transaction.is_recorded ≡ true → list_any (takes_part id) c.enlistments ≡ true) → Follows x id before behind (run (all_readies (seen c)) c)
  unfolding ended
  follows-all_ready some = all_readies-by (Follows x id before behind) c follows-held (λ top none. over none) (λ top. go top o_ready readied-gets readied-has)
    where
      go : superior c ≡ None → (q : Option Recorded) → Gets x before behind d c.changes c.settings q s committed → d.transaction.is_recorded ≡ is_some q → Follows x id before behind (run commits d)
      go top None gets has =
          let first = or_parts (c.transaction.is_recorded || a) b has in
          follows-volatile x before behind d has (or_parts c.transaction.is_recorded a first.0).1 first.1 gets.tracks
      go top (Some r) gets has = follows-committing x before behind d r gets.stores (gets.alone ∙ ap superior_now (sym top)) has prepares.drawn gets.tracks

      nothing : (q : Option Recorded) → is_some q ≡ false → map summary_of (if_there q) ≡ []
      nothing None none = refl
      nothing (Some r) none = absurd (true≢false none)

      unrecorded : counted c (λ e. true) ≡ 0 → c.transaction.is_recorded ≡ false
      unrecorded nobody = false_from_ne_true _ (λ recorded. let one = list_any-at (takes_part id) c.enlistments (some recorded) in no-parts c nobody one.0 one.1 one.2)

      over : participants (seen c) ≡ 0 → Follows x id before behind (ended d CommittedOutcome)
      over none =
          let files = none-counted a (omega (arith, none)) in
          let keys = none-counted b (omega (arith, none)) in
          let has : is_some o_ready ≡ false = sym readied-has ∙ (λ i. (unrecorded (omega (arith, none)) i || files i) || keys i) in
          record {
            o = o_ready;
            tracks = readied-gets.tracks;
            summaries = nothing o_ready has ∙ sym (none-in (ended d CommittedOutcome) refl);
            carried = λ r there. absurd (subst (λ ss. IsIn (summary_of r) ss) (nothing o_ready has) (IsIn-map summary_of r (if_there o_ready) there));
          }
