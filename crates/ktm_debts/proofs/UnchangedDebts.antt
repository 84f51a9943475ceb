-- What leaves the transactions, their enlistments, and what they changed and set, leaves the debts.
use Rattle.std.specs.Prelude.{if◌then◌else◌}
use Rattle.std.proofs.Common.{◌≡◌, ℕ, ◌+◌, ◌≤◌, List, [], map, Option, Some, None, sum_by, refl, sym, ◌∙◌, ap, arith}
use Rattle.ktm_base.specs.declared.id.Id.{Id}
use Rattle.ktm_base.specs.declared.id.Label.{Label}
use Rattle.ktm_base.specs.declared.id.Pid.{Pid}
use Rattle.ktm_world.specs.declared.object.Object.{Object}
use Rattle.ktm_world.specs.declared.object.Transaction.{Transaction}
use Rattle.ktm_world.specs.declared.options.Durability.{Durability}
use Rattle.ktm_world.specs.declared.reply.Reply.{Reply}
use Rattle.ktm_world.specs.declared.reply.Reply.TheVariants.{Done}
use Rattle.ktm_world.specs.Decide.{bound_file, of_files, of_keys, on_file, opening}
use Rattle.ktm_world.specs.Enlistments.{Enlistment, Manager, has_id}
use Rattle.ktm_world.specs.FileOutcome.{FileOutcome, own_after, with_open}
use Rattle.ktm_world.specs.Files.{FileTable, FilesNow, OpenFile, own_changes}
use Rattle.ktm_world.specs.HandleCalls.{bind_to}
use Rattle.ktm_world.specs.KeyCalls.{KeyOutcome}
use Rattle.ktm_world.specs.Keys.{own_settings}
use Rattle.ktm_world.specs.Outcome.{Outcome, apply, only_reply}
use Rattle.ktm_world.specs.Present.{Present}
use Rattle.ktm_world.specs.Sizes.{change_size, setting_size}
use Rattle.ktm_world.specs.TransactionCalls.{create_resource_manager, keep_information, open_to_enlistment, open_to_manager, open_to_transaction, recover_all}
use Rattle.txf_laws.proofs.offered.Sums.{sum-map-by, sum-same}
use Rattle.ktm_steps.proofs.offered.Ways.{if_cases}
use Rattle.ktm_debts.specs.Debts.{debt_in, debts, enlistments_debt, frame_of}
use Rattle.ktm_debts.proofs.CourseDebts.{Pays}
use Rattle.ktm_debts.proofs.EnlistmentDebts.{share_in, shares}

same-debts : (x : Present) (o : Outcome) → o.transactions.items ≡ x.transactions.items → ((id : Id) → enlistments_debt o.transactions.enlistments id ≡ enlistments_debt x.transactions.enlistments id) → o.table.own ≡ x.files.table.own → o.own ≡ x.keys.own
    → debts (apply x o) ≡ debts x
unfolding debts
same-debts x o items enlistments changes settings =
    λ i. sum_by (λ t. debt_in t.phase (sum_by change_size (own_changes (changes i) t.id) + sum_by setting_size (own_settings (settings i) t.id)) (enlistments t.id i)) (items i)

-- and where nothing is recorded either, there is nothing to pay
pub pays-owned : (x : Present) (o : Outcome) → o.events ≡ [] → o.transactions.items ≡ x.transactions.items → o.transactions.enlistments ≡ x.transactions.enlistments → o.table.own ≡ x.files.table.own → o.own ≡ x.keys.own → Pays x o
pays-owned x o none items enlistments changes settings = record {
  paid = let frame = ap frame_of none in let same = same-debts x o items (λ id. ap (λ es. enlistments_debt es id) enlistments) changes settings in omega arith;
}

pub pays-reply : (x : Present) (reply : Reply) → Pays x (only_reply x reply)
pays-reply x reply = pays-owned x (only_reply x reply) refl refl refl refl refl

-- ---- what does not raise the debts

-- no more is owed than before
pub record Rests (x : Present) (o : Outcome) : Type 0 where
  pub less : debts (apply x o) ≤ debts x

pub pays-rests : (x : Present) (o : Outcome) → Pays x o → Rests x o
pays-rests x o pays = record { less = let paid = pays.paid in omega arith }

rests-owned : (x : Present) (o : Outcome) → o.transactions.items ≡ x.transactions.items → o.transactions.enlistments ≡ x.transactions.enlistments → o.table.own ≡ x.files.table.own → o.own ≡ x.keys.own → Rests x o
rests-owned x o items enlistments changes settings = record { less = let same = same-debts x o items (λ id. ap (λ es. enlistments_debt es id) enlistments) changes settings in omega arith }

pub rests-reply : (x : Present) (reply : Reply) → Rests x (only_reply x reply)
rests-reply x reply = rests-owned x (only_reply x reply) refl refl refl refl

-- ---- objects

pub rests-open_transaction : (x : Present) (process : Pid) (label : Label) (o : Option Transaction) → Rests x (open_to_transaction x process label o)
rests-open_transaction x process label None = rests-reply x Done
rests-open_transaction x process label (Some t) = rests-owned x (open_to_transaction x process label (Some t)) refl refl refl refl

pub rests-create_manager : (x : Present) (process : Pid) (label : Label) (durability : Durability) → Rests x (create_resource_manager x process label durability)
unfolding create_resource_manager
rests-create_manager x process label durability = rests-owned x (create_resource_manager x process label durability) refl refl refl refl

pub rests-open_manager : (x : Present) (process : Pid) (label : Label) (o : Option Manager) → Rests x (open_to_manager x process label o)
rests-open_manager x process label None = rests-reply x Done
rests-open_manager x process label (Some m) = rests-owned x (open_to_manager x process label (Some m)) refl refl refl refl

pub rests-recover_all : (x : Present) (o : Option Manager) → Rests x (recover_all x o)
rests-recover_all x None = rests-reply x Done
rests-recover_all x (Some m) = rests-owned x (recover_all x (Some m)) refl refl refl refl

pub rests-open_enlistment : (x : Present) (process : Pid) (label : Label) (o : Option Enlistment) → Rests x (open_to_enlistment x process label o)
rests-open_enlistment x process label None = rests-reply x Done
rests-open_enlistment x process label (Some e) = rests-owned x (open_to_enlistment x process label (Some e)) refl refl refl refl

pub rests-bind : (x : Present) (process : Pid) (label : Label) (o : Option Object) → Rests x (bind_to x process label o)
rests-bind x process label None = rests-reply x Done
rests-bind x process label (Some object) = rests-owned x (bind_to x process label (Some object)) refl refl refl refl

-- the recovery information changes nothing of what is owed
pub rests-information : (x : Present) (o : Option Enlistment) (information : List ℕ) → Rests x (keep_information x o information)
rests-information x None information = rests-reply x Done
rests-information x (Some e) information = record { less = let same = same-debts x (keep_information x (Some e) information) refl informed refl refl in omega arith }
  where
    step : Enlistment → Enlistment
    step f = if has_id e.id f then record f { information = information } else f

    informed : (id : Id) → enlistments_debt (map step x.transactions.enlistments) id ≡ enlistments_debt x.transactions.enlistments id
    informed id =
        shares (map step x.transactions.enlistments) id ∙ sum-map-by (share_in id) step x.transactions.enlistments
        ∙ sum-same (λ f. share_in id (step f)) (share_in id) x.transactions.enlistments (λ f there. if_cases (λ g. share_in id g ≡ share_in id f) (has_id e.id f) (record f { information = information }) f (λ is. refl) (λ other. refl))
        ∙ sym (shares x.transactions.enlistments id)

-- ---- files

-- an open file more changes nothing of what transactions changed
own-opened : (table : FileTable) (o : Option OpenFile) → (with_open table o).own ≡ table.own
own-opened table None = refl
own-opened table (Some o) = refl

-- neither does a call that changes nothing
own-unchanged : (files : FilesNow) (who : Option Id) → own_after files who None ≡ files.table.own
own-unchanged files None = refl
own-unchanged files (Some id) = refl

rests-files : (x : Present) (who : Option Id) (o : FileOutcome) → own_after x.files who o.change ≡ x.files.table.own → Rests x (of_files x who o)
rests-files x who o same = rests-owned x (of_files x who o) refl refl (own-opened _ o.opened ∙ same) refl

pub rests-plain : (x : Present) (o : FileOutcome) → Rests x (of_files x None o)
rests-plain x o = rests-files x None o refl

pub rests-silent : (x : Present) (who : Option Id) (o : FileOutcome) → o.change ≡ None → Rests x (of_files x who o)
rests-silent x who o none = rests-files x who o (ap (own_after x.files who) none ∙ own-unchanged x.files who)

pub rests-opening : (x : Present) (process : Pid) (label : Label) (o : FileOutcome) → Rests x (opening x process label None o)
rests-opening x process label o = go o.opened
  where
    go : (opened : Option OpenFile) → Rests x (bound_file process label opened (of_files x None o))
    go None = rests-plain x o
    go (Some file) = rests-owned x (bound_file process label (Some file) (of_files x None o)) refl refl (own-opened _ o.opened) refl

pub rests-on_file : (x : Present) (o : Option OpenFile) (call : OpenFile → FileOutcome) → ((f : OpenFile) → (call f).change ≡ None) → Rests x (on_file x o call)
rests-on_file x None call none = rests-reply x Done
rests-on_file x (Some f) call none = rests-silent x f.transaction (call f) (none f)

-- ---- keys

pub rests-keys : (x : Present) (o : KeyOutcome) → o.own ≡ x.keys.own → Rests x (of_keys x o)
rests-keys x o same = rests-owned x (of_keys x o) refl refl refl same
