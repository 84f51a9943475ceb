use Rattle.ktm_each.specs.Each.{EachOfFiles}
use Rattle.ktm_memory.specs.Rules.{Follows}
use Rattle.txf_volume.specs.Held.{files_of}
use Rattle.std.proofs.Common.{◌∷◌, not, List, length, refl, ap, sym, subst, ◌∙◌, arith}
use Rattle.ktm_base.specs.declared.id.Label.{Label}
use Rattle.ktm_object.specs.Table.{HandleTable}
use Rattle.ktm_world.specs.declared.object.Handle.{Handle}
use Rattle.ktm_world.specs.HandleCalls.{close_handle, exit, has_handle, labels_of}
use Rattle.ktm_memory.specs.Memory.{MemoryState, Settles, TellsWithin}
use Rattle.ktm_memory.proofs.Behind.{settles-behind, told-first, told-rest}
use Rattle.ktm_memory.proofs.Closings.{closed_is, exit-behind, first_closed, looks-exit, settles-close, settles-none, told-gone}
use Rattle.ktm_memory.proofs.memory.Memory.exit.Goals as goal

pub loop-closed-init : goal.loop-closed-init
loop-closed-init c = record { settles = λ new rest. rest; told = c.requires.told; journal = refl; rules = λ rule none each. each }

pub let_go-requires-clause-last : goal.let_go-requires-clause-last
let_go-requires-clause-last c =
    let is = closed_is c.self.inside.handles.handles c.args.process c.in-Some.closed.label c.in-Some.closed
    (first_closed c.self.inside.handles.handles c.args.process c.in-Some.closed (labels_of c.exit_next.new.self.handles c.args.process) c.in-Some.ensures.labels c.in-Some.ensures.closed) in
    is.last ∙ ap (λ (hs : List Handle). not (has_handle hs c.in-Some.closed.object)) (sym c.in-Some.ensures.handles)

pub let_go-requires-clause-told : goal.let_go-requires-clause-told
let_go-requires-clause-told c =
    let m : MemoryState = record { is_up = c.self.inside.is_up; journal = c.self.inside.journal; handles = c.self.inside.handles; tm = c.self.inside.tm; trace = c.self.inside.trace; files = c.self.inside.files; next_node = c.self.inside.next_node; keys = c.self.inside.keys } in
    let is = closed_is c.self.inside.handles.handles c.args.process c.in-Some.closed.label c.in-Some.closed
    (first_closed c.self.inside.handles.handles c.args.process c.in-Some.closed (labels_of c.exit_next.new.self.handles c.args.process) c.in-Some.ensures.labels c.in-Some.ensures.closed) in
    let behind = exit-behind m c.exit_next.new.self.handles c.args.process c.in-Some.closed.label c.in-Some.ensures.handles c.in-Some.ensures.labels in
    let told = subst (λ old. TellsWithin old (λ x. exit x c.args.process)) (sym c.self.view_is) c.loop-closed.invariant.told in
    told-gone m c.exit_next.new.self c.args.process c.in-Some.closed.label c.in-Some.closed c.law_of_kept.ensures c.in-Some.ensures.handles is
    (told-first m (λ x. close_handle x c.args.process c.in-Some.closed.label) (λ x. exit x c.args.process) (λ x. exit x c.args.process) behind told)

pub loop-closed-preserved : goal.loop-closed-preserved
loop-closed-preserved c =
    let m : MemoryState = record { is_up = c.self.inside.is_up; journal = c.self.inside.journal; handles = c.self.inside.handles; tm = c.self.inside.tm; trace = c.self.inside.trace; files = c.self.inside.files; next_node = c.self.inside.next_node; keys = c.self.inside.keys } in
    let is = closed_is c.self.inside.handles.handles c.args.process c.in-Some.closed.label c.in-Some.closed
    (first_closed c.self.inside.handles.handles c.args.process c.in-Some.closed (labels_of c.exit_next.new.self.handles c.args.process) c.in-Some.ensures.labels c.in-Some.ensures.closed) in
    let behind = exit-behind m c.exit_next.new.self.handles c.args.process c.in-Some.closed.label c.in-Some.ensures.handles c.in-Some.ensures.labels in
    let closed = settles-close m c.let_go.new.self c.exit_next.new.self c.args.process c.in-Some.closed.label c.in-Some.closed c.in-Some.ensures.handles is c.let_go.ensures.settles in
    let told = subst (λ old. TellsWithin old (λ x. exit x c.args.process)) (sym c.self.view_is) c.loop-closed.invariant.told in
    record {
      settles = λ new rest. c.loop-closed.invariant.settles new
          (subst (λ old. Settles old (λ x. exit x c.args.process) new) c.self.view_is
          (settles-behind m c.let_go.new.self new (λ x. close_handle x c.args.process c.in-Some.closed.label) (λ x. exit x c.args.process) (λ x. exit x c.args.process) behind closed rest));
      told = told-rest m c.let_go.new.self (λ x. close_handle x c.args.process c.in-Some.closed.label) (λ x. exit x c.args.process) (λ x. exit x c.args.process) c.law_of_kept.ensures (looks-exit c.args.process) behind closed told;
      journal = c.let_go.ensures.journal ∙ ap (λ m. m.journal) c.self.view_is ∙ c.loop-closed.invariant.journal;
      rules = λ rule none each. c.let_go.ensures.rules rule none (subst (λ (old : MemoryState). EachOfFiles (Follows rule) (files_of old.files)) (sym c.self.view_is) (c.loop-closed.invariant.rules rule none each));
    }

pub loop-closed-smaller : goal.loop-closed-smaller
loop-closed-smaller c =
    let labels = ap (λ m. labels_of m.handles.handles c.args.process) (sym c.self.view_is) ∙ c.in-Some.ensures.labels
    ∙ ap (λ (t : HandleTable). c.in-Some.closed.label ∷ labels_of t.handles c.args.process) (sym c.let_go.ensures.handles) in
    omega (arith, ap (λ (ls : List Label). length ls) labels)

pub returns-clause-settles : goal.returns-clause-settles
returns-clause-settles c =
    let m : MemoryState = record { is_up = c.self.inside.is_up; journal = c.self.inside.journal; handles = c.exit_next.new.self; tm = c.self.inside.tm; trace = c.self.inside.trace; files = c.self.inside.files; next_node = c.self.inside.next_node; keys = c.self.inside.keys } in
    c.loop-closed.invariant.settles m
    (subst (λ old. Settles old (λ x. exit x c.args.process) m) (ap (λ (t : HandleTable). record m { handles = t }) c.in_default.ensures.unchanged ∙ c.self.view_is)
    (settles-none m c.args.process (ap (λ (t : HandleTable). labels_of t.handles c.args.process) c.in_default.ensures.unchanged ∙ c.in_default.ensures.none)))

pub returns-clause-rules : goal.returns-clause-rules
returns-clause-rules c = λ rule none each. subst (λ (old : MemoryState). EachOfFiles (Follows rule) (files_of old.files)) (sym c.self.view_is) (c.loop-closed.invariant.rules rule none each)
