-- Outcomes that leave the files as they are keep sound what undecided transactions own of them.
use Rattle.std.proofs.Common.{◌++◌, ◌∙◌, ◌≡◌, not, true, List, [], Option, Some, None, refl, sym, ap, subst, filter, map}
use Rattle.ktm_base.specs.declared.id.Id.{Id}
use Rattle.ktm_base.specs.declared.id.Label.{Label}
use Rattle.ktm_base.specs.declared.id.Pid.{Pid}
use Rattle.ktm_world.specs.declared.object.Object.{Object}
use Rattle.ktm_world.specs.declared.reply.Reply.{Reply}
use Rattle.ktm_world.specs.Committed.{committed_with}
use Rattle.ktm_world.specs.Decide.{of_files, events_of}
use Rattle.ktm_world.specs.FileOutcome.{FileOutcome, works_of, openings_of, own_after, next_node_after, with_open, table_after}
use Rattle.ktm_world.specs.Files.{FirstOpen, first_open}
use Rattle.ktm_world.specs.HandleCalls.{has_handle, same_object}
use Rattle.ktm_world.specs.Labels.{with_handle, binding}
use Rattle.ktm_world.specs.Lawful.{others_undecided}
use Rattle.ktm_world.specs.Outcome.{Outcome, apply, only_reply, committed_now, is_forgotten}
use Rattle.ktm_world.specs.Present.{Present}
use Rattle.txf_laws.specs.Elements.{IsIn}
use Rattle.txf_laws.specs.Footprint.{ListsLaw}
use Rattle.txf_laws.specs.SoundFiles.{is_undecided_in, IsSoundFiles}
use Rattle.txf_laws.proofs.offered.Elements.{list_any-at, list_any-from, filter-true}
use Rattle.std.proofs.lemmas.List.{append-nil}
use Rattle.ktm_world.specs.declared.object.Handle.{Handle}
use Rattle.ktm_world.specs.Durable.{after_events}
use Rattle.txf_laws.specs.Formed.{FormedLaw}
use Rattle.txf_laws.proofs.offered.Reservations.{named}
use Rattle.ktm_owned.proofs.offered.OwnedAfterCourses.{only_reply-sound}
use Rattle.txf_laws.proofs.offered.Lists.{IsIn-left}
use Rattle.ktm_owned.proofs.offered.EndedTransactions.{AreInOrder, unchanged}

-- an outcome keeps sound what undecided transactions own of the files
abbrev pub KeepsFiles : Present → Outcome → Type 0
KeepsFiles x o = AreInOrder x → IsSoundFiles x → IsSoundFiles (apply x o)

module _ (lists : ListsLaw) (formed : FormedLaw) where
  pub replies : (x : Present) (reply : Reply) → KeepsFiles x (only_reply x reply)
  replies x reply order sound = only_reply-sound lists formed x reply sound

  -- an outcome that leaves the files, the transactions and the boot, and no handle less
  pub leaves : (x : Present) (o : Outcome) → o.works ≡ [] → o.openings ≡ [] → o.forgotten ≡ [] → o.table ≡ x.files.table → o.transactions.items ≡ x.transactions.items
      → ((object : Object) → has_handle x.handles object ≡ true → has_handle o.handles object ≡ true) → (after_events x.recorded o.events).boots ≡ x.recorded.boots → KeepsFiles x o
  leaves x o works openings forgotten table items handles boots order sound =
      unchanged lists formed x (apply x o) files boots (λ p has. handles (Object.File p.number) (named x sound p has))
      (λ id was. subst (λ ts. is_undecided_in ts id ≡ true) (sym items) was) (λ u has. (u, subst (λ ts. IsIn u (others_undecided ts None)) items has, refl)) sound
    where
      files : (apply x o).files ≡ x.files
      files i = record {
        tree = (committed_with (committed_now x) (works i)).tree;
        versions = (committed_with (committed_now x) (works i)).versions;
        first_opens = (ap (λ ids. filter (λ f. not (is_forgotten ids f.transaction)) (x.files.first_opens ++ map (first_open (committed_now x)) o.openings)) forgotten
            ∙ ap (λ os. filter (λ (f : FirstOpen). true) (x.files.first_opens ++ map (first_open (committed_now x)) os)) openings ∙ filter-true (x.files.first_opens ++ []) ∙ append-nil x.files.first_opens) i;
        table = table i;
      }

  pub more-handles : (handles : List Handle) (process : Pid) (label : Label) (object other : Object) → has_handle handles other ≡ true → has_handle (with_handle handles process label object) other ≡ true
  more-handles handles process label object other has =
      let found = list_any-at (λ (h : Handle). same_object h.object other) handles has in
      list_any-from (λ (h : Handle). same_object h.object other) (with_handle handles process label object) found.0 (IsIn-left found.0 handles _ found.1) found.2

  pub labelled : (x : Present) (process : Pid) (label : Label) (object : Object) (reply : Reply) → KeepsFiles x (binding process label object (only_reply x reply))
  labelled x process label object reply = leaves x (binding process label object (only_reply x reply)) refl refl refl refl refl (more-handles x.handles process label object) refl

  -- a call on files that only answers
  pub answers_file : (x : Present) (who : Option Id) (o : FileOutcome) → o.change ≡ None → o.first ≡ None → o.opened ≡ None → KeepsFiles x (of_files x who o)
  answers_file x who o change first opened =
      leaves x (of_files x who o) (ap (works_of who) change ∙ none-works who) (ap (openings_of who) first ∙ none-openings who) refl table refl (λ object has. has) events
    where
      none-works : (who : Option Id) → works_of who None ≡ []
      none-works None = refl
      none-works (Some id) = refl

      none-openings : (who : Option Id) → openings_of who None ≡ []
      none-openings None = refl
      none-openings (Some id) = refl

      none-own : (who : Option Id) → own_after x.files who None ≡ x.files.table.own
      none-own None = refl
      none-own (Some id) = refl

      table : table_after x.files who o ≡ x.files.table
      table = ap (λ p. with_open (record x.files.table { own = own_after x.files who o.change; next_node = next_node_after x.files.table.next_node o.change }) p) opened
          ∙ ap (λ c. record x.files.table { own = own_after x.files who c; next_node = next_node_after x.files.table.next_node c }) change ∙ (λ i. record x.files.table { own = none-own who i })

      none-events : (who : Option Id) → events_of who None ≡ []
      none-events None = refl
      none-events (Some id) = refl

      events : (after_events x.recorded (events_of who o.change)).boots ≡ x.recorded.boots
      events = ap (λ c. (after_events x.recorded (events_of who c)).boots) change ∙ ap (λ es. (after_events x.recorded es).boots) (none-events who)
