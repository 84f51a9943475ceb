use Rattle.std.proofs.Common.{subst}
use Rattle.ktm_world.specs.HandleCalls.{duplicate_handle}
use Rattle.ktm_world.specs.TransactionCalls.{opened_object}
use Rattle.ktm_memory.specs.Memory.{MemoryState, Settles}
use Rattle.ktm_memory.proofs.Telling.{settles-bound, settles-duplicate}
use Rattle.ktm_memory.proofs.memory.Memory.handle.Goals as goal

pub returns-in-Bind-clause-settles : goal.returns-in-Bind-clause-settles
returns-in-Bind-clause-settles c =
    let m : MemoryState = record { is_up = c.self.inside.is_up; journal = c.self.inside.journal; handles = c.self.inside.handles; tm = c.self.inside.tm; trace = c.self.inside.trace; files = c.self.inside.files; next_node = c.self.inside.next_node; keys = c.self.inside.keys } in
    rw c.in-Bind.is
    (subst (λ (old : MemoryState). Settles old (λ x. opened_object x c.args.process c.in-Bind.label c.in-Bind.object) (record m { handles = c.insert.new.self })) c.self.view_is
    (settles-bound m c.insert.new.self c.args.process c.in-Bind.label c.in-Bind.object c.insert.ensures.handles))

pub returns-in-Duplicate-clause-settles : goal.returns-in-Duplicate-clause-settles
returns-in-Duplicate-clause-settles c =
    let m : MemoryState = record { is_up = c.self-in-Duplicate.inside.is_up; journal = c.self-in-Duplicate.inside.journal; handles = c.self-in-Duplicate.inside.handles; tm = c.self-in-Duplicate.inside.tm; trace = c.self-in-Duplicate.inside.trace; files = c.self-in-Duplicate.inside.files; next_node = c.self-in-Duplicate.inside.next_node; keys = c.self-in-Duplicate.inside.keys } in
    rw c.in-Duplicate.is
    (subst (λ (old : MemoryState). Settles old (λ x. duplicate_handle x c.args.process c.in-Duplicate.label c.in-Duplicate.from c.in-Duplicate.source) (record m { handles = c.duplicate.new.self })) c.self-in-Duplicate.view_is
    (settles-duplicate m c.duplicate.new.self c.args.process c.in-Duplicate.label c.in-Duplicate.from c.in-Duplicate.source c.duplicate.ensures.handles))
