use Rattle.ktm_each.specs.Each.{EachOfFiles}
use Rattle.ktm_memory.specs.Rules.{Follows}
use Rattle.txf_volume.specs.Held.{files_of}
use Rattle.std.proofs.Common.{not, List, ap, sym, subst, ◌∙◌}
use Rattle.ktm_world.specs.declared.object.Handle.{Handle}
use Rattle.ktm_world.specs.HandleCalls.{close_handle, has_handle}
use Rattle.ktm_memory.specs.Memory.{MemoryState, Settles, TellsWithin}
use Rattle.ktm_memory.proofs.Closings.{closed_is, none_closed, settles-close, settles-unbound, told-gone}
use Rattle.ktm_memory.proofs.memory.Memory.close.Goals as goal

pub let_go-requires-clause-last : goal.let_go-requires-clause-last
let_go-requires-clause-last c =
    let is = closed_is c.self.inside.handles.handles c.args.process c.args.label c.in-Some.closed (sym c.in-Some.is ∙ c.close.ensures.closed) in
    is.last ∙ ap (λ (hs : List Handle). not (has_handle hs c.in-Some.closed.object)) (sym c.close.ensures.handles)

pub let_go-requires-clause-told : goal.let_go-requires-clause-told
let_go-requires-clause-told c =
    let m : MemoryState = record { is_up = c.self.inside.is_up; journal = c.self.inside.journal; handles = c.self.inside.handles; tm = c.self.inside.tm; trace = c.self.inside.trace; files = c.self.inside.files; next_node = c.self.inside.next_node; keys = c.self.inside.keys } in
    told-gone m c.close.new.self c.args.process c.args.label c.in-Some.closed c.law_of_kept.ensures c.close.ensures.handles
    (closed_is c.self.inside.handles.handles c.args.process c.args.label c.in-Some.closed (sym c.in-Some.is ∙ c.close.ensures.closed))
    (subst (λ old. TellsWithin old (λ x. close_handle x c.args.process c.args.label)) (sym c.self.view_is) c.requires.told)

pub returns-in-Some-clause-settles : goal.returns-in-Some-clause-settles
returns-in-Some-clause-settles c =
    let m : MemoryState = record { is_up = c.self.inside.is_up; journal = c.self.inside.journal; handles = c.self.inside.handles; tm = c.self.inside.tm; trace = c.self.inside.trace; files = c.self.inside.files; next_node = c.self.inside.next_node; keys = c.self.inside.keys } in
    subst (λ old. Settles old (λ x. close_handle x c.args.process c.args.label) c.let_go.new.self) c.self.view_is
    (settles-close m c.let_go.new.self c.close.new.self c.args.process c.args.label c.in-Some.closed c.close.ensures.handles
    (closed_is c.self.inside.handles.handles c.args.process c.args.label c.in-Some.closed (sym c.in-Some.is ∙ c.close.ensures.closed)) c.let_go.ensures.settles)

pub returns-in_default-clause-settles : goal.returns-in_default-clause-settles
returns-in_default-clause-settles c =
    let m : MemoryState = record { is_up = c.self.inside.is_up; journal = c.self.inside.journal; handles = c.self.inside.handles; tm = c.self.inside.tm; trace = c.self.inside.trace; files = c.self.inside.files; next_node = c.self.inside.next_node; keys = c.self.inside.keys } in
    subst (λ old. Settles old (λ x. close_handle x c.args.process c.args.label) (record m { handles = c.close.new.self })) c.self.view_is
    (settles-unbound m c.close.new.self c.args.process c.args.label c.close.ensures.handles (none_closed c.self.inside.handles.handles c.args.process c.args.label (sym c.in_default.is ∙ c.close.ensures.closed)))

pub returns-in-Some-clause-rules : goal.returns-in-Some-clause-rules
returns-in-Some-clause-rules c = λ rule none each. c.let_go.ensures.rules rule none (subst (λ (m : MemoryState). EachOfFiles (Follows rule) (files_of m.files)) (sym c.self.view_is) each)

pub returns-in_default-clause-rules : goal.returns-in_default-clause-rules
returns-in_default-clause-rules c = λ rule none each. subst (λ (m : MemoryState). EachOfFiles (Follows rule) (files_of m.files)) (sym c.self.view_is) each
