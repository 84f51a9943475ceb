-- Decisions of the calls on files.
use Rattle.std.proofs.Common.{◌≡◌, ◌≢◌, ℕ, ◌-◌, ◌≤◌, ◌&&◌, true, false, List, [], ◌∷◌, length, Option, Some, None, is_none, is_some, refl, sym, ◌∙◌, ap, subst}
use Rattle.std.proofs.lemmas.Bool.{and_parts}
use Rattle.std.specs.Option.{option_map}
use Rattle.std.specs.Prelude.{IfSome}
use Rattle.ktm_base.specs.declared.limits.TheConstants.{MOST_HANDLES}
use Rattle.ktm_base.specs.declared.id.Id.{Id}
use Rattle.ktm_base.specs.declared.id.Label.{Label}
use Rattle.ktm_base.specs.declared.id.Pid.{Pid}
use Rattle.ktm_base.specs.declared.refusal.Refusal.{Refusal}
use Rattle.ktm_event.specs.Kept.{EventsState, Holds}
use Rattle.ktm_world.specs.declared.change.Change.{Change}
use Rattle.ktm_world.specs.declared.reply.Reply.{Reply}
use Rattle.ktm_world.specs.declared.options.Access.{Access}
use Rattle.ktm_world.specs.declared.options.Disposition.{Disposition}
use Rattle.ktm_world.specs.declared.options.ShareMode.{ShareMode}
use Rattle.ktm_world.specs.declared.reply.Reply.TheVariants.{Done, Refused}
use Rattle.ktm_world.specs.Decide.{events_of}
use Rattle.ktm_world.specs.FileOutcome.{FileOutcome, FileRoom, files_after}
use Rattle.ktm_world.specs.Files.{FilesNow, OpenFile, changes_with, own_changes, tree_seen}
use Rattle.ktm_world.specs.FileCalls.{Whereabouts, no_path, no_way, free, at_root, at_node, create_at, create_directory, create_file, delete_file, drop_at, find_files, find_path, get_size, make_at, move_at, move_file, remove_directory, set_end, write_file}
use Rattle.ktm_world.specs.Outcome.{apply, first_refusal, only_reply}
use Rattle.ktm_world.specs.Keys.{changes_pending as keys_unset}
use Rattle.ktm_world.specs.Present.{Present}
use Rattle.ktm_world.specs.Uses.{file_room}
use Rattle.ktm_standing.specs.Files.{MayMake, MayMakePlain}
use Rattle.ktm_standing.proofs.offered.Applied.{apply-reply}
use Rattle.ktm_memory.specs.declared.settlement.Settlement.TheVariants.{Change as PlainChange}
use Rattle.ktm_memory.proofs.offered.Records.{none_recorded}
use Rattle.ktm_memory.specs.declared.extent.Extent.{Extent}
use Rattle.ktm_memory.specs.Decided.{CanAnswer, Decides, HoldsRecordOf, bind_opened}
use Rattle.ktm_memory.specs.Memory.{CanMakePlain, LayersNow, MayBind, MaySettle, MemoryState, held, now_of, present_of, recorded_of}
use Rattle.ktm_memory.specs.Routed.{IsActiveCaller, IsFreeLabel, IsReadyCall}
use Rattle.ktm_memory.proofs.Unlogged.{unlogged}
use Rattle.ktm_world.specs.Durable.{Recorded}
use Rattle.ktm_world.specs.Transactions.{same_id}
use Rattle.ktm_standing.specs.Standing.{IsStandingNow}
use Rattle.txf_laws.proofs.offered.OwnChange.{with-other}
use Rattle.ktm_memory.specs.Opening.{files_outcome}
use Rattle.ktm_memory.specs.Takes.{is_quiet}
use Rattle.ktm_memory.proofs.offered.Decided.{decided, puts_none}
use Rattle.ktm_memory.proofs.FilesFollow.{put_event}
use Rattle.ktm_memory.specs.Rules.{Follows}
use Rattle.ktm_each.specs.Each.{EachOfGroup}
use Rattle.ktm_memory.proofs.Bound.{bound_leaves, left_by, no_group}
use Rattle.ktm_memory.proofs.offered.Opening.{events_in, reply_of}
use Rattle.ktm_memory.specs.Settled.{handles_then, left_to_do}
use Rattle.ktm_world.specs.declared.object.Object.TheVariants.{File as FileObject}
use Rattle.txf_calls.specs.Calls.{file_effect, file_outcome, file_tests, unless_refused}
use Rattle.txf_opens.specs.Acts.{open_of}
use Rattle.txf_calls.specs.declared.call.FileCall.{FileCall}
use Rattle.txf_calls.specs.declared.call.FileCall.TheVariants.{Create, Write, WriteUnits, SetEnd, Size, Flush, Delete, MakeDirectory, RemoveDirectory, Move, Find}
use Rattle.txf_opens.specs.declared.file.OpenFile.{OpenFile as Kept}
use Rattle.txf_tree.specs.UnitChanges.{CanBeMade}
use Rattle.txf_volume.specs.Plain.{IsReady}

-- ---- the room that the files have

pub file_room_is : (h : LayersNow) (handles changes units unset : ℕ) → handles ≡ MOST_HANDLES - length h.handles → unset ≡ keys_unset h.keys → units ≡ h.journal.units → changes ≡ h.journal.units - unset
    → record { handles = handles; changes = changes; units = units } ≡ file_room (now_of h)
unfolding file_room
file_room_is h handles changes units unset handles_are unset_are units_are changes_are = rw (handles_are, changes_are, unset_are, units_are) refl

-- ---- labels for what is opened

-- there is room for the label of a file that is opened, and the label is free
pub may_bind : (m : MemoryState) (process : Pid) (label : Option Label) (opened : Option Kept) → (is_some opened ≡ true → 1 ≤ m.handles.spare) → IsFreeLabel (present_of m) process label
    → MaySettle m (bind_opened process label opened)
may_bind m process None opened room unbound = tt
may_bind m process (Some l) None room unbound = tt
may_bind m process (Some l) (Some file) room unbound = (room refl, unbound)

may_bind_plain : (m : MemoryState) (process : Pid) (label : Option Label) (opened : Option Kept) → (is_some opened ≡ true → 1 ≤ m.handles.spare) → IsFreeLabel (present_of m) process label
    → MayBind m process label (option_map open_of opened)
may_bind_plain m process None opened room unbound = tt
may_bind_plain m process (Some l) None room unbound = tt
may_bind_plain m process (Some l) (Some file) room unbound = (room refl, unbound)

-- nothing is sent
sends_none : (x : Present) (process : Pid) (who : Option Id) (label : Option Label) (o : FileOutcome) → (files_outcome x process who label o).sent ≡ []
sends_none x process who None o = refl
sends_none x process who (Some l) o = go o.opened
  where
    go : (opened : Option OpenFile) → (files_outcome x process who (Some l) (record o { opened = opened })).sent ≡ []
    go None = refl
    go (Some file) = refl

-- ---- a plain call

-- the call can be made, whatever it answers
pub may_settle : (h : LayersNow) (n : MemoryState) (process : Pid) (label : Option Label) (o : FileOutcome) (opened : Option Kept) (copy : Option (List ℕ)) → held n ≡ h → MayMakePlain (now_of h) o
    → IfSome o.change (CanBeMade h.files.tree) → IsReady n.files o copy → option_map open_of opened ≡ o.opened → (is_some opened ≡ true → 1 ≤ n.handles.spare) → IsFreeLabel (now_of h) process label → MaySettle n (PlainChange process label (record o { reply = Done }) copy)
may_settle h n process label o opened copy same may units ready is room unbound = (
  subst (λ (files : FilesNow). CanMakePlain files (record o { reply = Done })) (ap (λ g. g.files) (sym same)) (record { plain = record { change = may.plain.change; opened = may.plain.opened }; units = units; left = may.left; counted = may.counted }),
  record { change = ready.change; room = ready.room; opened = ready.opened; copy_is = ready.copy_is },
  subst (λ (file : Option OpenFile). MayBind n process label file) is (may_bind_plain n process label opened room (subst (λ (g : LayersNow). IsFreeLabel (now_of g) process label) (sym same) unbound)),
)

pub plain_decided : (h : LayersNow) (n : MemoryState) (process : Pid) (label : Option Label) (o : FileOutcome) (reply : Reply) (plan : FileOutcome) (copy : Option (List ℕ)) (events : EventsState)
    → reply ≡ o.reply → plan ≡ record o { reply = Done } → held n ≡ h → MaySettle n (PlainChange process label (record o { reply = Done }) copy) → HoldsRecordOf (recorded_of h) events (events_of None o.change)
    → CanAnswer None o → Decides h (files_outcome (now_of h) process None label o) reply (PlainChange process label plan copy) events n
plain_decided h n process label o reply plan copy events says is same may holds answers =
    let x = now_of h in
    let are = events_in x process None label o in
    decided h n (files_outcome x process None label o) reply (PlainChange process label plan copy) events (says ∙ sym (reply_of x process None label o)) (subst (HoldsRecordOf (recorded_of h) events) (sym are) holds) same
    (ap (λ (p : FileOutcome). (files_outcome x process None label p).events) is ∙ events_in x process None label (record o { reply = Done }) ∙ sym are)
    (sends_none x process None label plan ∙ sym (sends_none x process None label o))
    (ap (λ (p : FileOutcome). apply x (files_outcome x process None label p)) is ∙ left_by x process None label (record o { reply = Done }) ∙ sym (left_by x process None label o))
    (subst (λ (p : FileOutcome). MaySettle n (PlainChange process label p copy)) (sym is) may)
    (λ rule each. subst (EachOfGroup (Follows rule)) (sym (events_in x process None label plan)) (put_event rule plan.change each))
    (λ some refusal e. answers (λ none. some (are ∙ none)) refusal (sym says ∙ e))

-- ---- a call in a transaction

-- the label is bound to the file that was opened, which records nothing
bound_quiet : (x : Present) (process : Pid) (label : Option Label) (opened : Option Kept) → (left_to_do x (bind_opened process label opened)).events ≡ []
bound_quiet x process None opened = refl
bound_quiet x process (Some l) None = refl
bound_quiet x process (Some l) (Some file) = refl

bound_sends : (x : Present) (process : Pid) (label : Option Label) (opened : Option Kept) → (left_to_do x (bind_opened process label opened)).sent ≡ []
bound_sends x process None opened = refl
bound_sends x process (Some l) None = refl
bound_sends x process (Some l) (Some file) = refl

bound : (x : Present) (process : Pid) (label : Option Label) (opened : Option Kept)
    → apply x (left_to_do x (bind_opened process label opened)) ≡ record x { handles = handles_then x.handles process label (option_map open_of opened) }
bound x process None opened = apply-reply x Done
bound x process (Some l) None = apply-reply x Done
bound x process (Some l) (Some file) = bound_leaves x process l (FileObject file.number)

-- what other transactions changed stays
own_other : (files : FilesNow) (id : Id) (o : FileOutcome) (other : Id) → same_id id other ≡ false → own_changes (files_after files (Some id) o).table.own other ≡ own_changes files.table.own other
own_other files id o other differ = go o.change o.opened
  where
    go : (change : Option Change) (opened : Option OpenFile) → (let made : FileOutcome = record o { change = change; opened = opened } in own_changes (files_after files (Some id) made).table.own other ≡ own_changes files.table.own other)
    go None None = refl
    go None (Some file) = refl
    go (Some change) None = with-other files.table.own id (changes_with files id change) other differ
    go (Some change) (Some file) = with-other files.table.own id (changes_with files id change) other differ

-- what was recorded stays
own_unlogged : (h : LayersNow) (id : Id) (o : FileOutcome) → IsStandingNow (now_of h) → IsActiveCaller (now_of h) (Some id)
    → now_of (record h { files = files_after h.files (Some id) o }) ≡ record (now_of h) { files = files_after h.files (Some id) o }
own_unlogged h id o standing active =
    let y = record (now_of h) { files = files_after h.files (Some id) o } in
    ap (λ (ts : List Recorded). record y { recorded = record y.recorded { transactions = ts } })
    (unlogged h id (files_after h.files (Some id) o).table.own h.keys.own standing active (own_other h.files id o) (λ other differ. refl))

pub own_decided : (h : LayersNow) (n : MemoryState) (process : Pid) (id : Id) (label : Option Label) (o : FileOutcome) (opened : Option Kept) (events : EventsState) → IsStandingNow (now_of h) → IsActiveCaller (now_of h) (Some id)
    → held n ≡ record h { files = files_after h.files (Some id) o } → option_map open_of opened ≡ o.opened → MaySettle n (bind_opened process label opened) → Holds events []
    → Decides h (files_outcome (now_of h) process (Some id) label o) o.reply (bind_opened process label opened) events n
own_decided h n process id label o opened events standing active same opens may holds =
    let x = now_of h in
    let are = events_in x process (Some id) label o in
    let y = record x { files = files_after h.files (Some id) o } in
    record {
      says = sym (reply_of x process (Some id) label o);
      records = none_recorded (recorded_of h) events (files_outcome x process (Some id) label o).events are holds;
      journal = ap (λ (g : LayersNow). g.journal) same;
      group = bound_quiet (present_of n) process label opened ∙ sym are;
      tells = bound_sends (present_of n) process label opened ∙ sym (sends_none x process (Some id) label o);
      comes_to =
          bound (present_of n) process label opened
          ∙ ap (λ (k : LayersNow). record (now_of k) { handles = handles_then (now_of k).handles process label (option_map open_of opened) }) same
          ∙ ap (λ (z : Present). record z { handles = handles_then x.handles process label (option_map open_of opened) }) (own_unlogged h id o standing active)
          ∙ ap (λ (file : Option OpenFile). record y { handles = handles_then x.handles process label file }) opens
          ∙ sym (ap (λ (z : Present). record z { handles = handles_then x.handles process label o.opened }) (no_group y))
          ∙ sym (left_by x process (Some id) label o);
      may = may;
      puts = puts_none (present_of n) (bind_opened process label opened) (bound_quiet (present_of n) process label opened);
      waits = λ some. absurd (some are);
      answers = λ some. absurd (some are);
    }

-- ---- a call that only answers

only_answers : (x : Present) (process : Pid) (who : Option Id) (label : Option Label) (reply : Reply) → files_outcome x process who label (record { reply = reply; change = None; first = None; opened = None }) ≡ only_reply x reply
only_answers x process None None reply = refl
only_answers x process (Some id) None reply = refl
only_answers x process None (Some l) reply = refl
only_answers x process (Some id) (Some l) reply = refl

none_from : {T : Type 0} (o : Option T) → is_none o ≡ true → o ≡ None
none_from None is = refl
none_from (Some t) is = absurd (cc)

pub quiet_outcome : (x : Present) (process : Pid) (who : Option Id) (label : Option Label) (o : FileOutcome) → is_quiet o ≡ true → files_outcome x process who label o ≡ only_reply x o.reply
quiet_outcome x process who label o quiet =
    let all = and_parts (is_none o.change && is_none o.first) (is_none o.opened) quiet in
    let both = and_parts (is_none o.change) (is_none o.first) all.0 in
    ap (λ (c : Option Change). files_outcome x process who label (record o { change = c })) (none_from o.change both.0)
    ∙ ap (λ (f : Option ℕ). files_outcome x process who label (record o { change = None; first = f })) (none_from o.first both.1)
    ∙ ap (λ (p : Option OpenFile). files_outcome x process who label (record o { change = None; first = None; opened = p })) (none_from o.opened all.1)
    ∙ only_answers x process who label o.reply

-- ---- what a call comes to can be made

created : (files : FilesNow) (who : Option Id) (there : Whereabouts) (access : Access) (share : ShareMode) (d : Disposition) (refusal : Refusal) → (create_at files who there access share d).reply ≢ Refused refusal
created files who no_path access share d refusal e = absurd (cc)
created files who no_way access share d refusal e = absurd (cc)
created files who (free directory name) access share d refusal e = absurd (cc)
created files who at_root access share d refusal e = absurd (cc)
created files who (at_node node) access share d refusal e = absurd (cc)

dropped : (there : Whereabouts) (refusal : Refusal) → (drop_at there).reply ≢ Refused refusal
dropped no_path refusal e = absurd (cc)
dropped no_way refusal e = absurd (cc)
dropped (free directory name) refusal e = absurd (cc)
dropped at_root refusal e = absurd (cc)
dropped (at_node node) refusal e = absurd (cc)

made : (files : FilesNow) (there : Whereabouts) (refusal : Refusal) → (make_at files there).reply ≢ Refused refusal
made files no_path refusal e = absurd (cc)
made files no_way refusal e = absurd (cc)
made files (free directory name) refusal e = absurd (cc)
made files at_root refusal e = absurd (cc)
made files (at_node node) refusal e = absurd (cc)

moved : (from to : Whereabouts) (refusal : Refusal) → (move_at from to).reply ≢ Refused refusal
moved no_path to refusal e = absurd (cc)
moved no_way to refusal e = absurd (cc)
moved (free directory name) to refusal e = absurd (cc)
moved at_root to refusal e = absurd (cc)
moved (at_node node) no_path refusal e = absurd (cc)
moved (at_node node) no_way refusal e = absurd (cc)
moved (at_node node) (free directory name) refusal e = absurd (cc)
moved (at_node node) at_root refusal e = absurd (cc)
moved (at_node node) (at_node other) refusal e = absurd (cc)

-- what a call does where it is not refused is no refusal
effect_answers : (files : FilesNow) (who : Option Id) (call : FileCall) (refusal : Refusal) → (file_effect files who call).reply ≢ Refused refusal
unfolding create_file write_file set_end get_size delete_file create_directory remove_directory move_file find_files
effect_answers files who (Create path access share d) refusal e = created files who (find_path (tree_seen files who) path) access share d refusal e
effect_answers files who (Write file offset []) refusal e = absurd (cc)
effect_answers files who (Write file offset (b ∷ bs)) refusal e = absurd (cc)
effect_answers files who (WriteUnits file start []) refusal e = absurd (cc)
effect_answers files who (WriteUnits file start (c ∷ cs)) refusal e = absurd (cc)
effect_answers files who (SetEnd file size) refusal e = absurd (cc)
effect_answers files who (Size file) refusal e = absurd (cc)
effect_answers files who (Flush file) refusal e = absurd (cc)
effect_answers files who (Delete path) refusal e = dropped (find_path (tree_seen files who) path) refusal e
effect_answers files who (MakeDirectory path) refusal e = made files (find_path (tree_seen files who) path) refusal e
effect_answers files who (RemoveDirectory path) refusal e = dropped (find_path (tree_seen files who) path) refusal e
effect_answers files who (Move source target) refusal e = moved (find_path (tree_seen files who) source) (find_path (tree_seen files who) target) refusal e
effect_answers files who (Find searched) refusal e = absurd (cc)

-- a call comes to this, by what is so now
pub planned : (h : LayersNow) (files : FilesNow) (room : FileRoom) (who : Option Id) (call : FileCall) (plan : FileOutcome) → plan ≡ file_outcome files room who call → room ≡ file_room (now_of h) → files ≡ h.files
    → plan ≡ file_outcome h.files (file_room (now_of h)) who call
planned h files room who call plan is room_is files_are = is ∙ ap (λ r. file_outcome files r who call) room_is ∙ ap (λ f. file_outcome f (file_room (now_of h)) who call) files_are

-- a call that changes something was not refused
goes_through : (files : FilesNow) (room : FileRoom) (who : Option Id) (call : FileCall) (o : FileOutcome) → o ≡ file_outcome files room who call → is_quiet o ≡ false
    → (first_refusal (file_tests files room who call) ≡ None) × (o ≡ file_effect files who call)
goes_through files room who call o is changes = go (first_refusal (file_tests files room who call)) refl
  where
    go : (r : Option Refusal) → first_refusal (file_tests files room who call) ≡ r → (first_refusal (file_tests files room who call) ≡ None) × (o ≡ file_effect files who call)
    go None passed = (passed, is ∙ ap (λ r. unless_refused r (file_effect files who call)) passed)
    go (Some refusal) refused = let quiet = ap is_quiet (is ∙ ap (λ r. unless_refused r (file_effect files who call)) refused) in absurd (cc)

-- a call that changes something can be made, and is no refusal
pub may_make : (x : Present) (process : Pid) (who : Option Id) (label : Option Label) (call : FileCall) (extent : Option Extent) (o : FileOutcome) → IsReadyCall x process who label call extent → o ≡ file_outcome x.files (file_room x) who call → is_quiet o ≡ false
    → MayMake x who o × CanAnswer who o
may_make x process who label call extent o ready is changes =
    let (passed, comes) = goes_through x.files (file_room x) who call o is changes in
    (subst (MayMake x who) (sym comes) (ready.may passed), λ some refusal e. effect_answers x.files who call refusal (ap (λ (p : FileOutcome). p.reply) (sym comes) ∙ e))

-- what is to be opened is what is planned to be
pub opens_some : (opened : Option Kept) (o : Option OpenFile) → option_map open_of opened ≡ o → is_some opened ≡ true → is_some o ≡ true
opens_some opened o is some = ap is_some (sym is) ∙ mapped opened ∙ some
  where
    mapped : (opened : Option Kept) → is_some (option_map open_of opened) ≡ is_some opened
    mapped None = refl
    mapped (Some file) = refl
