-- What of an open file is read or may be changed, by the tests of its label and its own.
use Rattle.std.proofs.Common.{◌≡◌, ℕ, ◌+◌, ◌*◌, ◌≤◌, max, not, cond, Bool, true, List, ◌++◌, length, drop, take, Option, Some, None, Result, Ok, Err, IfOk, IfErr, IsErrAnd, refl, sym, ◌∙◌, ap, subst}
use Rattle.ktm_base.specs.declared.id.Id.{Id}
use Rattle.ktm_base.specs.declared.id.Label.{Label}
use Rattle.ktm_base.specs.declared.id.Pid.{Pid}
use Rattle.ktm_base.specs.declared.limits.TheConstants.{UNIT_BYTES}
use Rattle.ktm_base.specs.declared.refusal.Refusal.{Refusal}
use Rattle.ktm_base.specs.declared.refusal.Refusal.TheVariants.{MachineDown}
use Rattle.ktm_world.specs.declared.command.Command.{Command}
use Rattle.ktm_world.specs.declared.command.Command.TheVariants.{ReadFile, SetEndOfFile, WriteFile, WriteUnits}
use Rattle.ktm_world.specs.declared.reply.Reply.{Reply}
use Rattle.ktm_world.specs.declared.reply.Reply.TheVariants.{Contents, Refused}
use Rattle.ktm_world.specs.Decide.{command_effect, command_tests, decide, of_files, on_file, own_tests, refusal_of}
use Rattle.ktm_world.specs.FileCalls.{read_file, read_file_tests, set_end_tests, write_file_tests, write_units_tests}
use Rattle.ktm_world.specs.FileOutcome.{answering}
use Rattle.ktm_world.specs.Files.{OpenFile, bytes_seen}
use Rattle.ktm_world.specs.Labels.{file_named, file_tests as handle_tests}
use Rattle.ktm_world.specs.Outcome.{first_refusal, only_reply, refuse_or}
use Rattle.ktm_world.specs.Present.{Present}
use Rattle.ktm_world.specs.Uses.{file_room}
use Rattle.txf_calls.specs.Calls.{IsForUnits}
use Rattle.txf_opens.specs.Acts.{open_of}
use Rattle.txf_opens.specs.declared.file.OpenFile.{OpenFile as Kept}
use Rattle.ktm_route.specs.Targets.{MayBeSoLong}
use Rattle.ktm_route.specs.declared.targets.Target.{Target}
use Rattle.ktm_route.proofs.Routes.{first_of-passed}

-- a call that only answers makes nothing of the machine
only_answers : (x : Present) (who : Option Id) (reply : Reply) → of_files x who (answering reply) ≡ only_reply x reply
only_answers x None reply = refl
only_answers x (Some id) reply = refl

module _ (x : Present) (process : Pid) (up : x.machine.is_up ≡ true) (label : Label) (file : Kept) (named : file_named x process label ≡ Some (open_of file)) (passed : first_refusal (handle_tests x process label) ≡ None) where
  abbrev pub seen : List ℕ
  seen = bytes_seen x.files file.transaction file.node

  by_file : {T : Type 0} (f : Option OpenFile → T) → f (file_named x process label) ≡ f (Some (open_of file))
  by_file f = ap f named

  -- a command is refused for the tests of its own
  refusal_by : (command : Command) (own : List (Bool × Refusal)) → command_tests x process command ≡ handle_tests x process label ++ own → refusal_of x process command ≡ first_refusal own
  refusal_by command own are =
      ap (λ u. cond (not u) (Some MachineDown) (first_refusal (command_tests x process command))) up
      ∙ ap first_refusal are ∙ first_of-passed (handle_tests x process label) own passed

  -- ---- a read

  read_refusal : (offset many : ℕ) → refusal_of x process (ReadFile label offset many) ≡ first_refusal (read_file_tests (open_of file) many)
  read_refusal offset many = refusal_by (ReadFile label offset many) (read_file_tests (open_of file) many) (by_file (λ n. handle_tests x process label ++ own_tests n (λ o. read_file_tests o many)))

  pub read_refused : (offset many : ℕ) (refusal : Refusal) → first_refusal (read_file_tests (open_of file) many) ≡ Some refusal → decide x process (ReadFile label offset many) ≡ only_reply x (Refused refusal)
  read_refused offset many refusal is = ap (λ r. refuse_or x r (command_effect x process (ReadFile label offset many))) (read_refusal offset many ∙ is)

  pub read_passes : (offset many : ℕ) → first_refusal (read_file_tests (open_of file) many) ≡ None → decide x process (ReadFile label offset many) ≡ only_reply x (Contents (take many (drop offset seen)))
  unfolding read_file
  read_passes offset many passes =
      ap (λ r. refuse_or x r (command_effect x process (ReadFile label offset many))) (read_refusal offset many ∙ passes)
      ∙ by_file (λ n. on_file x n (λ o. read_file x.files o offset many))
      ∙ only_answers x file.transaction (Contents (take many (drop offset seen)))

  -- ---- a write, and an end

  pub write_refusal : (offset : ℕ) (bytes : List ℕ) → refusal_of x process (WriteFile label offset bytes) ≡ first_refusal (write_file_tests x.files (file_room x) (open_of file) offset bytes)
  write_refusal offset bytes = refusal_by (WriteFile label offset bytes) (write_file_tests x.files (file_room x) (open_of file) offset bytes) (by_file (λ n. handle_tests x process label ++ own_tests n (λ o. write_file_tests x.files (file_room x) o offset bytes)))

  pub end_refusal : (size : ℕ) → refusal_of x process (SetEndOfFile label size) ≡ first_refusal (set_end_tests x.files (file_room x) (open_of file) size)
  end_refusal size = refusal_by (SetEndOfFile label size) (set_end_tests x.files (file_room x) (open_of file) size) (by_file (λ n. handle_tests x process label ++ own_tests n (λ o. set_end_tests x.files (file_room x) o size)))

  units_refusal : (start : ℕ) (contents : List ℕ) → refusal_of x process (WriteUnits label start contents) ≡ first_refusal (write_units_tests x.files (file_room x) (open_of file) start contents)
  units_refusal start contents = refusal_by (WriteUnits label start contents) (write_units_tests x.files (file_room x) (open_of file) start contents) (by_file (λ n. handle_tests x process label ++ own_tests n (λ o. write_units_tests x.files (file_room x) o start contents)))

  -- the file that the label names may be so long
  pub may_be : (t : Target) (size : ℕ) → t.who ≡ file.transaction → t.node ≡ file.node → t.contents ≡ seen → size ≤ (file_room x).units * UNIT_BYTES → IsForUnits x.files (file_room x) file size None → MayBeSoLong x process label size t
  unfolding file_room
  may_be t size who node contents small units = record {
    target = record {
      file = open_of file;
      named = named;
      who = sym who;
      node = sym node;
      contents = contents ∙ (λ i. bytes_seen x.files (sym who i) (sym node i));
    };
    small = small;
    units = λ start bytes some is. units_refusal start bytes ∙ sym (units file.transaction start bytes some ((λ i. max (length (sym contents i)) (start + length bytes)) ∙ is));
  }

-- ---- a refusal of the label is handed on

pub handed_ok : {X : Type 0} (r : Result X Refusal) (refusal : Refusal) (P : X → Type 0) → IsErrAnd r (λ given. given ≡ refusal) → IfOk r P
handed_ok (Ok given) refusal P is = absurd is
handed_ok (Err given) refusal P is = tt

pub handed_err : {X : Type 0} (r : Result X Refusal) (refusal : Refusal) (P : Refusal → Type 0) → IsErrAnd r (λ given. given ≡ refusal) → P refusal → IfErr r P
handed_err (Ok given) refusal P is holds = absurd is
handed_err (Err given) refusal P is holds = subst P (sym is) holds
