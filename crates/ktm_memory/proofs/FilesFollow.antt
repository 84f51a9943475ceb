-- What is so of the change that a call on files makes: it can be made and recorded, and follows the rules that what is put follows.
use Rattle.std.proofs.Common.{◌≡◌, ◌≢◌, ℕ, Bool, List, [], ◌∷◌, Option, Some, None, refl, arith, inl, inr}
use Rattle.std.specs.Prelude.{IfSome, option_to_list}
use Rattle.std.proofs.lemmas.Bool.{cases_Bool}
use Rattle.std.proofs.lemmas.List.Elements.{All-cons, All-head, All-nil}
use Rattle.ktm_base.specs.declared.id.Id.{Id}
use Rattle.ktm_base.specs.declared.id.Label.{Label}
use Rattle.ktm_base.specs.declared.id.Pid.{Pid}
use Rattle.ktm_base.specs.declared.refusal.Refusal.{Refusal}
use Rattle.ktm_each.specs.Each.{EachOfChange, EachOfChanges, EachOfEvent, EachOfGroup}
use Rattle.ktm_paged.specs.Meaning.{size_before}
use Rattle.ktm_world.specs.declared.change.Change.{Change}
use Rattle.ktm_world.specs.declared.change.Change.TheVariants.{Cut, Drop, Make, Put}
use Rattle.ktm_world.specs.declared.change.Contents.TheVariants.{Whole}
use Rattle.ktm_world.specs.declared.change.NodeKind.{NodeKind}
use Rattle.ktm_world.specs.declared.event.Event.TheVariants.{Plain}
use Rattle.ktm_world.specs.declared.options.Access.{Access}
use Rattle.ktm_world.specs.declared.options.Disposition.{Disposition}
use Rattle.ktm_world.specs.declared.options.ShareMode.{ShareMode}
use Rattle.ktm_world.specs.Decide.{events_of}
use Rattle.ktm_world.specs.FileCalls.{Whereabouts, no_path, no_way, free, at_root, at_node, create_at, create_directory, create_file, delete_file, drop_at, empties, find_files, find_path, get_size, make_at, move_at, move_file, remove_directory, set_end, write_file}
use Rattle.ktm_world.specs.FileOutcome.{FileRoom}
use Rattle.ktm_world.specs.Files.{FilesNow, bytes_seen, tree_seen}
use Rattle.ktm_world.specs.Outcome.{first_refusal}
use Rattle.ktm_world.specs.Present.{Present}
use Rattle.ktm_world.specs.Uses.{file_room}
use Rattle.txf_calls.specs.Calls.{file_effect, file_outcome, file_tests, unless_refused}
use Rattle.txf_calls.specs.declared.call.FileCall.{FileCall}
use Rattle.txf_calls.specs.declared.call.FileCall.TheVariants.{Create, Write, WriteUnits, SetEnd, Size, Flush, Delete, MakeDirectory, RemoveDirectory, Move, Find}
use Rattle.txf_tree.specs.UnitChanges.{CanBeMadeOver}
use Rattle.ktm_memory.specs.declared.extent.Extent.{Extent}
use Rattle.ktm_memory.specs.Routed.{IsReadyCall}
use Rattle.ktm_memory.specs.Rules.{CallPutsBy, Follows}
use Rattle.ktm_memory.specs.Units.{CanBeRecorded, CanBeRecordedIf, SuitsCall}

-- ---- the changes that calls make

-- it is so of what the call puts or cuts of an open file
abbrev OfItsOwn : (Change → Type 0) → FileCall → Type 0
OfItsOwn P (Write file offset bytes) = bytes ≢ [] → P (Put file.node offset (Whole bytes))
OfItsOwn P (WriteUnits file start contents) = contents ≢ [] → P (Put file.node start (Whole contents))
OfItsOwn P (SetEnd file size) = P (Cut file.node size [])
OfItsOwn P _ = Unit {0}

module _ (P : Change → Type 0) (makes : (node parent : ℕ) (kind : NodeKind) (name : List ℕ) → P (Make node parent kind name)) (moves : (node parent : ℕ) (name : List ℕ) → P (Change.Move node parent name)) (drops : (node : ℕ) → P (Drop node)) (empty : (node : ℕ) → P (Cut node 0 [])) where
  created : (files : FilesNow) (who : Option Id) (there : Whereabouts) (access : Access) (share : ShareMode) (d : Disposition) → IfSome (create_at files who there access share d).change P
  created files who no_path access share d = tt
  created files who no_way access share d = tt
  created files who (free directory name) access share d = makes _ _ _ _
  created files who at_root access share d = tt
  created files who (at_node node) access share d = elim (cases_Bool (empties d)) [ inl is ↦ rw is (empty node.number) | inr other ↦ rw other tt ]

  dropped : (there : Whereabouts) → IfSome (drop_at there).change P
  dropped no_path = tt
  dropped no_way = tt
  dropped (free directory name) = tt
  dropped at_root = tt
  dropped (at_node node) = drops node.number

  made : (files : FilesNow) (there : Whereabouts) → IfSome (make_at files there).change P
  made files no_path = tt
  made files no_way = tt
  made files (free directory name) = makes _ _ _ _
  made files at_root = tt
  made files (at_node node) = tt

  moved : (from to : Whereabouts) → IfSome (move_at from to).change P
  moved no_path to = tt
  moved no_way to = tt
  moved (free directory name) to = tt
  moved at_root to = tt
  moved (at_node node) no_path = tt
  moved (at_node node) no_way = tt
  moved (at_node node) (free directory name) = moves _ _ _
  moved (at_node node) at_root = tt
  moved (at_node node) (at_node other) = tt

  effect_change : (files : FilesNow) (who : Option Id) (call : FileCall) → OfItsOwn P call → IfSome (file_effect files who call).change P
  unfolding create_file write_file set_end get_size delete_file create_directory remove_directory move_file find_files
  effect_change files who (Create path access share d) own = created files who (find_path (tree_seen files who) path) access share d
  effect_change files who (Write file offset []) own = tt
  effect_change files who (Write file offset (b ∷ bs)) own = own (λ none. absurd (cc))
  effect_change files who (WriteUnits file start []) own = tt
  effect_change files who (WriteUnits file start (c ∷ cs)) own = own (λ none. absurd (cc))
  effect_change files who (SetEnd file size) own = own
  effect_change files who (Size file) own = tt
  effect_change files who (Flush file) own = tt
  effect_change files who (Delete path) own = dropped (find_path (tree_seen files who) path)
  effect_change files who (MakeDirectory path) own = made files (find_path (tree_seen files who) path)
  effect_change files who (RemoveDirectory path) own = dropped (find_path (tree_seen files who) path)
  effect_change files who (Move source target) own = moved (find_path (tree_seen files who) source) (find_path (tree_seen files who) target)
  effect_change files who (Find searched) own = tt

-- a refusal makes no change
outcome_change : (P : Change → Type 0) (files : FilesNow) (room : FileRoom) (who : Option Id) (call : FileCall) → IfSome (file_effect files who call).change P → IfSome (file_outcome files room who call).change P
outcome_change P files room who call effect = go (first_refusal (file_tests files room who call))
  where
    go : (r : Option Refusal) → IfSome (unless_refused r (file_effect files who call)).change P
    go None = effect
    go (Some refusal) = tt

-- ---- rules

call_puts : (rule : ℕ → ℕ → ℕ → Bool) (call : FileCall) → CallPutsBy rule call → OfItsOwn (EachOfChange (Follows rule)) call
call_puts rule (Create path access share d) puts = tt
call_puts rule (Write file offset bytes) puts = λ some. puts
call_puts rule (WriteUnits file start contents) puts = λ some. puts
call_puts rule (SetEnd file size) puts = tt
call_puts rule (Size file) puts = tt
call_puts rule (Flush file) puts = tt
call_puts rule (Delete path) puts = tt
call_puts rule (MakeDirectory path) puts = tt
call_puts rule (RemoveDirectory path) puts = tt
call_puts rule (Move source target) puts = tt
call_puts rule (Find searched) puts = tt

-- what a call changes follows the rule
pub outcome_puts : (rule : ℕ → ℕ → ℕ → Bool) (files : FilesNow) (room : FileRoom) (who : Option Id) (call : FileCall) → CallPutsBy rule call → IfSome (file_outcome files room who call).change (EachOfChange (Follows rule))
outcome_puts rule files room who call puts =
    outcome_change (EachOfChange (Follows rule)) files room who call
    (effect_change (EachOfChange (Follows rule)) (λ node parent kind name. tt) (λ node parent name. tt) (λ node. tt) (λ node. tt) files who call (call_puts rule call puts))

-- where the event of a plain call follows a rule, its change does
pub event_puts : (rule : ℕ → ℕ → ℕ → Bool) (change : Option Change) → EachOfGroup (Follows rule) (events_of None change) → IfSome change (EachOfChange (Follows rule))
event_puts rule None each = tt
event_puts rule (Some change) each = All-head (EachOfChange (Follows rule)) change [] (All-head (EachOfEvent (Follows rule)) (Plain change) [] each)

-- and the other way round
pub puts_event : (rule : ℕ → ℕ → ℕ → Bool) (who : Option Id) (change : Option Change) → IfSome change (EachOfChange (Follows rule)) → EachOfGroup (Follows rule) (events_of who change)
puts_event rule None None each = All-nil (EachOfEvent (Follows rule))
puts_event rule (Some id) None each = All-nil (EachOfEvent (Follows rule))
puts_event rule None (Some change) each = All-cons (EachOfEvent (Follows rule)) (Plain change) [] (All-cons (EachOfChange (Follows rule)) change [] each (All-nil (EachOfChange (Follows rule)))) (All-nil (EachOfEvent (Follows rule)))
puts_event rule (Some id) (Some change) each = All-nil (EachOfEvent (Follows rule))

-- ---- changes unit by unit

none_of : {A : Type 0} (xs : List ℕ) → xs ≡ [] → xs ≢ [] → A
none_of xs none some = absurd (some none)

call_can : (files : FilesNow) (who : Option Id) (call : FileCall) (extent : Option Extent) → SuitsCall files who call extent → OfItsOwn (CanBeMadeOver (bytes_seen files who)) call
call_can files who (Create path access share d) extent suits = tt
call_can files who (Write file offset bytes) None suits = none_of bytes suits
call_can files who (Write file offset bytes) (Some extent) suits = absurd suits
call_can files who (WriteUnits file start contents) None suits = none_of contents suits
call_can files who (WriteUnits file start contents) (Some extent) suits = λ some. suits.can
call_can files who (SetEnd file size) None suits = suits
call_can files who (SetEnd file size) (Some extent) suits = absurd suits
call_can files who (Size file) extent suits = tt
call_can files who (Flush file) extent suits = tt
call_can files who (Delete path) extent suits = tt
call_can files who (MakeDirectory path) extent suits = tt
call_can files who (RemoveDirectory path) extent suits = tt
call_can files who (Move source target) extent suits = tt
call_can files who (Find searched) extent suits = tt

-- what a call changes can be made unit by unit
pub outcome_can : (x : Present) (process : Pid) (who : Option Id) (label : Option Label) (call : FileCall) (extent : Option Extent) → IsReadyCall x process who label call extent
    → IfSome (file_outcome x.files (file_room x) who call).change (CanBeMadeOver (bytes_seen x.files who))
outcome_can x process who label call extent ready =
    outcome_change (CanBeMadeOver (bytes_seen x.files who)) x.files (file_room x) who call
    (effect_change (CanBeMadeOver (bytes_seen x.files who)) (λ node parent kind name. tt) (λ node parent name. tt) (λ node. tt) (λ node. omega arith) x.files who call (call_can x.files who call extent ready.suits))

-- ---- what is recorded

-- a change of the committed files can be recorded
abbrev Recordable : FilesNow → Option Extent → Change → Type 0
Recordable files extent c = CanBeRecorded (size_before files.tree c) c extent

call_records : (files : FilesNow) (call : FileCall) → SuitsCall files None call None → OfItsOwn (Recordable files None) call
call_records files (Create path access share d) suits = tt
call_records files (Write file offset bytes) suits = none_of bytes suits
call_records files (WriteUnits file start contents) suits = none_of contents suits
call_records files (SetEnd file size) suits = (suits, refl)
call_records files (Size file) suits = tt
call_records files (Flush file) suits = tt
call_records files (Delete path) suits = tt
call_records files (MakeDirectory path) suits = tt
call_records files (RemoveDirectory path) suits = tt
call_records files (Move source target) suits = tt
call_records files (Find searched) suits = tt

-- a call that puts units
units_record : (files : FilesNow) (call : FileCall) (extent : Extent) → SuitsCall files None call (Some extent) → IfSome (file_effect files None call).change (Recordable files (Some extent))
unfolding write_file
units_record files (WriteUnits file start []) extent suits = tt
units_record files (WriteUnits file start (c ∷ cs)) extent suits = suits.suits
units_record files (Create path access share d) extent suits = absurd suits
units_record files (Write file offset bytes) extent suits = absurd suits
units_record files (SetEnd file size) extent suits = absurd suits
units_record files (Size file) extent suits = absurd suits
units_record files (Flush file) extent suits = absurd suits
units_record files (Delete path) extent suits = absurd suits
units_record files (MakeDirectory path) extent suits = absurd suits
units_record files (RemoveDirectory path) extent suits = absurd suits
units_record files (Move source target) extent suits = absurd suits
units_record files (Find searched) extent suits = absurd suits

effect_records : (files : FilesNow) (call : FileCall) (extent : Option Extent) → SuitsCall files None call extent → IfSome (file_effect files None call).change (Recordable files extent)
effect_records files call None suits =
    effect_change (Recordable files None) (λ node parent kind name. tt) (λ node parent name. tt) (λ node. tt) (λ node. (omega arith, refl)) files None call (call_records files call suits)
effect_records files call (Some extent) suits = units_record files call extent suits

-- what a plain call changes can be recorded
pub outcome_records : (x : Present) (process : Pid) (label : Option Label) (call : FileCall) (extent : Option Extent) → IsReadyCall x process None label call extent
    → CanBeRecordedIf x.files.tree (file_outcome x.files (file_room x) None call).change extent
outcome_records x process label call extent ready = outcome_change (Recordable x.files extent) x.files (file_room x) None call (effect_records x.files call extent ready.suits)

-- the event of a plain call follows the rules that the change follows that it puts
pub put_event : (rule : ℕ → ℕ → ℕ → Bool) (change : Option Change) → EachOfChanges (Follows rule) (option_to_list change) → EachOfGroup (Follows rule) (events_of None change)
put_event rule None each = All-nil (EachOfEvent (Follows rule))
put_event rule (Some change) each = All-cons (EachOfEvent (Follows rule)) (Plain change) [] each (All-nil (EachOfEvent (Follows rule)))

-- what holds of the event of a plain call holds of its change
pub events_put : (p : ℕ → ℕ → ℕ → Type 0) (change : Change) → EachOfGroup p (events_of None (Some change)) → EachOfChange p change
events_put p change each = All-head (EachOfChange p) change [] (All-head (EachOfEvent p) (Plain change) [] each)
