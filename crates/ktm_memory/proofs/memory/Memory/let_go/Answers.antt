use Rattle.std.proofs.Common.{Some, subst, sym, inl, inr}
use Rattle.ktm_each.proofs.offered.Files.{closed-each}
use Rattle.ktm_each.specs.Each.{EachOfFiles}
use Rattle.ktm_memory.specs.Rules.{Follows}
use Rattle.txf_volume.specs.Held.{files_of}
use Rattle.ktm_world.specs.declared.object.Object.TheVariants.{Transaction as TransactionObject, Manager as ManagerObject, Enlistment as EnlistmentObject, File as FileObject}
use Rattle.ktm_world.specs.declared.reply.Reply.TheVariants.{Done}
use Rattle.ktm_world.specs.HandleCalls.{handle_gone, last_handle_gone}
use Rattle.ktm_world.specs.Outcome.{only_reply}
use Rattle.ktm_memory.specs.Memory.{MemoryState, Settles}
use Rattle.ktm_memory.proofs.Behind.{settles-reply, settles-same, told-same}
use Rattle.ktm_memory.proofs.HandlesLeft.{none-names, others-name, settles-file}
use Rattle.ktm_memory.proofs.memory.Memory.let_go.Goals as goal

pub roll_back_if_active-requires : goal.roll_back_if_active-requires
roll_back_if_active-requires c = record {
  told = told-same c.args.self.now (λ x. last_handle_gone x (TransactionObject c.in-Transaction.id)) (λ x. handle_gone (Some c.args.closed.object) x)
      (none-names c.args.self.now c.args.closed.object (TransactionObject c.in-Transaction.id) c.args.closed.is_last c.in-Transaction.is c.if-not-closed.false c.requires.last) c.requires.told;
}

pub returns-then-not-closed-clause-settles : goal.returns-then-not-closed-clause-settles
returns-then-not-closed-clause-settles c =
    settles-same c.args.self.now c.args.self.now (λ x. only_reply x Done) (λ x. handle_gone (Some c.args.closed.object) x)
    (others-name c.args.self.now c.args.closed.object c.args.closed.is_last c.if-not-closed.true c.requires.last) (settles-reply c.args.self.now)

pub returns-in-Transaction-clause-settles : goal.returns-in-Transaction-clause-settles
returns-in-Transaction-clause-settles c =
    settles-same c.args.self.now c.roll_back_if_active.new.self (λ x. last_handle_gone x (TransactionObject c.in-Transaction.id)) (λ x. handle_gone (Some c.args.closed.object) x)
    (none-names c.args.self.now c.args.closed.object (TransactionObject c.in-Transaction.id) c.args.closed.is_last c.in-Transaction.is c.if-not-closed.false c.requires.last) c.roll_back_if_active.ensures.settles

pub returns-in-File-clause-settles : goal.returns-in-File-clause-settles
returns-in-File-clause-settles c =
    let m : MemoryState = record { is_up = c.self.inside.is_up; journal = c.self.inside.journal; handles = c.self.inside.handles; tm = c.self.inside.tm; trace = c.self.inside.trace; files = c.self.inside.files; next_node = c.self.inside.next_node; keys = c.self.inside.keys } in
    let n : MemoryState = record m { files = c.close.new.self } in
    settles-same c.args.self.now n (λ x. last_handle_gone x (FileObject c.in-File.number)) (λ x. handle_gone (Some c.args.closed.object) x)
    (none-names c.args.self.now c.args.closed.object (FileObject c.in-File.number) c.args.closed.is_last c.in-File.is c.if-not-closed.false c.requires.last)
    (subst (λ old. Settles old (λ x. last_handle_gone x (FileObject c.in-File.number)) n) c.self.view_is (settles-file m c.in-File.number c.close.new.self c.close.ensures))

pub returns-in-Manager-clause-settles : goal.returns-in-Manager-clause-settles
returns-in-Manager-clause-settles c = elim c.in-Manager.is [
  | inl manager ↦
      settles-same c.args.self.now c.args.self.now (λ x. only_reply x Done) (λ x. handle_gone (Some c.args.closed.object) x)
      (none-names c.args.self.now c.args.closed.object (ManagerObject manager.0) c.args.closed.is_last manager.1 c.if-not-closed.false c.requires.last) (settles-reply c.args.self.now)
  | inr enlistment ↦
      settles-same c.args.self.now c.args.self.now (λ x. only_reply x Done) (λ x. handle_gone (Some c.args.closed.object) x)
      (none-names c.args.self.now c.args.closed.object (EnlistmentObject enlistment.0) c.args.closed.is_last enlistment.1 c.if-not-closed.false c.requires.last) (settles-reply c.args.self.now)
]

pub returns-in-File-clause-rules : goal.returns-in-File-clause-rules
returns-in-File-clause-rules c = λ rule none each.
    subst (EachOfFiles (Follows rule)) (sym c.close.ensures)
    (closed-each (Follows rule) (files_of c.self.inside.files) c.in-File.number (subst (λ (m : MemoryState). EachOfFiles (Follows rule) (files_of m.files)) (sym c.self.view_is) each))
