-- What a machine that stands may rely on, in calls on files and in commits.
use Rattle.std.specs.Prelude.{IfSome}
use Rattle.std.proofs.Common.{◌≡◌, ◌==◌, not, false, is_none, is_some, Option, Some, None, refl, sym, ◌∙◌, ap, subst, inl, inr, ◌⊎◌, All}
use Rattle.std.proofs.lemmas.Bool.{and_parts, ne_eqb, not-true, or_cases, or_parts, true≢false}
use Rattle.std.specs.List.{list_any}
use Rattle.ktm_base.specs.declared.id.Id.{Id}
use Rattle.ktm_base.specs.declared.id.Label.{Label}
use Rattle.ktm_base.specs.declared.id.Pid.{Pid}
use Rattle.ktm_event.specs.Spelling.{IsSpellableEvent}
use Rattle.ktm_world.specs.declared.change.Change.{Change}
use Rattle.ktm_world.specs.declared.command.Command.{Command}
use Rattle.ktm_world.specs.declared.recorded.Node.{Node}
use Rattle.ktm_world.specs.Values.{IsGiven}
use Rattle.ktm_world.specs.Changes.{node_of}
use Rattle.ktm_world.specs.Conflicts.{writes}
use Rattle.ktm_world.specs.Decide.{decide, events_of, refusal_of}
use Rattle.ktm_world.specs.FileOutcome.{FileOutcome, files_after}
use Rattle.ktm_world.specs.Files.{FirstOpen, OpenFile, OwnChanges}
use Rattle.ktm_world.specs.Labels.{file_named, file_number, open_file_at}
use Rattle.ktm_world.specs.Handles.{object_at}
use Rattle.ktm_world.specs.Laws.{StepLaw}
use Rattle.ktm_world.specs.Present.{Present}
use Rattle.ktm_world.specs.Tree.{node_at, root}
use Rattle.ktm_world.specs.World.{World, present}
use Rattle.ktm_records.specs.FileCallsMade.{FileCallsLaw, IsRightCall, file_call}
use Rattle.txf_laws.specs.Reservations.{IsLeft}
use Rattle.ktm_laws.specs.Running.{HasEventsLeft, LawfulWorldsLaw}
use Rattle.txf_laws.specs.SoundFiles.{IsSoundFiles, is_drawn_node, is_plain_well, is_undecided_in}
use Rattle.ktm_records.specs.Spelling.{SpellingLaw}
use Rattle.ktm_courses.proofs.offered.Calls.{and_then-found}
use Rattle.txf_laws.proofs.offered.Elements.{list_all-at}
use Rattle.txf_laws.proofs.offered.Diamonds.{none-from}
use Rattle.ktm_courses.proofs.offered.Moves.{find-found}
use Rattle.txf_laws.proofs.offered.CommitsOfOthers.{All-by, undecided-entry, next-free}
use Rattle.ktm_laws.specs.SeenFiles.{below-next}
use Rattle.txf_laws.specs.FileEffects.{IsOrderly, IsPlainChange, IsPlainOpen, LeavesOwn, CanBeCounted}
use Rattle.ktm_standing.specs.Files.{IsOnCommitted, MayMake}
use Rattle.ktm_standing.specs.Laws.{EffectsLaw}
use Rattle.ktm_standing.specs.Standing.{IsStanding}
use Rattle.ktm_standing.proofs.Counted.{counted_after, few_versions, units_now}
use Rattle.ktm_standing.proofs.FileForms.{IsOfFiles, decided_made, made_events, made_files}
use Rattle.ktm_standing.proofs.LeftPlain.{left_plain}

-- ---- sound files

none_there : (o : Option Node) → (o ≡ None) ⊎ ((n : Node) × (o ≡ Some n))
none_there None = inl refl
none_there (Some n) = inr (n, refl)

-- numbers of nodes rise, and the next one is free
pub orderly_files : (x : Present) → IsSoundFiles x → IsOrderly x.files
orderly_files x sound = record {
  rise = sound.formed.rise;
  free = elim (none_there (node_at x.files.tree x.files.table.next_node)) [
    | inl none ↦ none
    | inr (n, some) ↦ absurd (true≢false (sym (ap is_some some) ∙ (or_parts (x.files.table.next_node == root) (is_some (node_at x.files.tree x.files.table.next_node)) (next-free x sound)).1))
  ];
  fresh = none-from (λ (o : FirstOpen). o.file == x.files.table.next_node) x.files.first_opens (λ o there.
      ne_eqb o.file x.files.table.next_node (below-next x o.file (list_all-at (λ (p : FirstOpen). is_drawn_node x.files p.file) x.files.first_opens sound.first_drawn o there)));
}

-- a plain file that is open to be written is there
pub usable_file : (x : Present) → IsSoundFiles x → (process : Pid) (label : Label) (o : OpenFile) → file_named x process label ≡ Some o → IsOnCommitted x o
usable_file x sound process label o named plain may_write =
    let number = and_then-found (open_file_at x.files.table.opens) (file_number (object_at x.handles process label)) o named in
    let there = (find-found _ x.files.table.opens o number.2).0 in
    elim (or_cases (not (is_none o.transaction)) _ (list_all-at (is_plain_well x.files) x.files.table.opens sound.opens_plain o there)) [
      | inl not_plain ↦ absurd (true≢false (sym (ap is_none plain) ∙ not-true _ not_plain))
      | inr well ↦ elim (or_cases (not (writes o.access)) _ (and_parts (is_drawn_node x.files o.node) _ well).1) [
        | inl reads ↦ absurd (true≢false (sym may_write ∙ not-true _ reads))
        | inr file ↦ file
      ]
    ]

module _ (step : StepLaw) (law : LawfulWorldsLaw) (spelling : SpellingLaw) (forms : EffectsLaw) (made : FileCallsLaw) where
  -- ---- calls on files

  module _ (w : World) (left : HasEventsLeft (present w)) (standing : IsStanding w) (process : Pid) (command : Command) (is : IsGiven command) (unrefused : refusal_of (present w) process command ≡ None) where
    abbrev x : Present
    x = present w

    sound : IsSoundFiles x
    sound = standing.running.now.sound.files

    right : (who : Option Id) (o : FileOutcome) → file_call x process command ≡ Some (who, o) → IsRightCall x who o
    right who o call = made x process command who o standing.running.now unrefused call

    of : (who : Option Id) (o : FileOutcome) → file_call x process command ≡ Some (who, o) → IsOfFiles x process (decide x process command) who o
    of who o call = decided_made x process command who o unrefused call

    -- what it leaves can be counted
    counted : (who : Option Id) (o : FileOutcome) → file_call x process command ≡ Some (who, o) → CanBeCounted (files_after x.files who o)
    counted who o call = counted_after step law w process command (files_after x.files who o) left standing (made_files forms x process (decide x process command) who o (of who o call))

    spelled : (who : Option Id) (o : FileOutcome) → file_call x process command ≡ Some (who, o) → All IsSpellableEvent (events_of who o.change)
    spelled who o call =
        subst (All IsSpellableEvent) (made_events x process (decide x process command) who o (of who o call))
        (spelling.commands x process command standing.running.now standing.texts (units_now w standing.running standing.small) is).0

    plain_change : (o : FileOutcome) → IsRightCall x None o → IfSome o.change (IsPlainChange x.files)
    plain_change o right = go o.change refl
      where
        go : (change : Option Change) → o.change ≡ change → IfSome change (IsPlainChange x.files)
        go None none = tt
        go (Some c) some = record {
          does_apply = right.applies c some;
          fresh = λ make. subst (λ n. list_any (λ o. o.file == n) x.files.first_opens ≡ false) (sym (right.fresh c some make)) (orderly_files x sound).fresh;
          few = few_versions w left standing (node_of c);
        }

    plain_open : (o : FileOutcome) → IsRightCall x None o → IfSome o.opened (IsPlainOpen x.files)
    plain_open o right = go o.opened refl
      where
        go : (opened : Option OpenFile) → o.opened ≡ opened → IfSome opened (IsPlainOpen x.files)
        go None none = tt
        go (Some p) some = let is = right.opened p some in record { plain = is.0; next = is.1; few = is.2 }

    left_own : (o : FileOutcome) → IsRightCall x None o → LeavesOwn x.files (files_after x.files None o)
    left_own o right = All-by (λ (own : OwnChanges). IsLeft x.files (files_after x.files None o) own.transaction) x.files.table.own (λ own there.
        let u = undecided-entry x.transactions.items own.transaction (list_all-at (λ (p : OwnChanges). is_undecided_in x.transactions.items p.transaction) x.files.table.own sound.own_undecided own there) in
        subst (IsLeft x.files (files_after x.files None o)) u.2 (left_plain x sound o u.0.id right (λ c some. right.leaves c u.0 refl some u.1)))

    pub may_make : (who : Option Id) (o : FileOutcome) → file_call x process command ≡ Some (who, o) → MayMake x who o
    may_make None o call =
        let r = right None o call in
        record { plain = record { change = plain_change o r; opened = plain_open o r }; left = left_own o r; counted = counted None o call; spelled = spelled None o call }
    may_make (Some id) o call =
        let r = right (Some id) o call in
        record {
          change = r.applies;
          first = λ file some. let first = r.first id file refl some in record { new = first.0; committed = first.1 };
          opened = λ p some. let is = r.opened p some in record { number = is.1; few = is.2 };
          counted = counted (Some id) o call;
        }
