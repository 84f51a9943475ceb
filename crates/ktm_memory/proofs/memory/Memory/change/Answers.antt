use Rattle.std.specs.Prelude.{IfSome}
use Rattle.ktm_each.proofs.offered.Files.{files_after-each}
use Rattle.ktm_each.specs.Each.{EachOfFiles}
use Rattle.ktm_memory.proofs.FilesFollow.{event_puts}
use Rattle.ktm_memory.specs.Rules.{Follows}
use Rattle.txf_tree.specs.UnitChanges.{CanBeMade}
use Rattle.std.proofs.Common.{◌≡◌, ◌∙◌, None, ap, subst, sym, arith}
use Rattle.ktm_memory.specs.Memory.{MemoryState, Shows}
use Rattle.ktm_memory.specs.contracts.memory.Memory.{the_view}
use Rattle.ktm_memory.specs.Opening.{files_outcome}
use Rattle.ktm_memory.specs.Settled.{handles_then}
use Rattle.ktm_memory.proofs.Making.{changed_shows}
use Rattle.ktm_world.specs.FileOutcome.{FileOutcome, files_after, next_node_after}
use Rattle.ktm_world.specs.Outcome.{apply}
use Rattle.txf_volume.specs.Held.{files_of}
use Rattle.txf_laws.specs.FileEffects.{LeavesOwn}
use Rattle.ktm_memory.proofs.memory.Memory.change.Goals as goal

pub settle-requires-clause-left : goal.settle-requires-clause-left
settle-requires-clause-left c = subst (λ m. LeavesOwn (files_of m.files) (files_after (files_of m.files) None c.args.plan)) (sym c.self.view_is) c.requires.0.left

pub returns-clause-settles : goal.returns-clause-settles
returns-clause-settles c =
    let m = the_view c.self.inside in
    let slots : c.args.self.now.tm.slots ≡ c.bind_opened.new.self.tm.slots = sym (ap (λ k. k.tm.slots) c.self.view_is) ∙ sym (ap (λ (k : MemoryState). k.tm.slots) c.bind_opened.ensures.rest) in
    record {
      shows = λ x shows all. subst (λ (k : MemoryState). Shows k (apply x (files_outcome x c.args.process None c.args.label c.args.plan))) (sym c.bind_opened.ensures.rest)
          (changed_shows m x c.args.process c.args.label c.args.plan c.settle.new.self c.next_after-self-inside.result c.bind_opened.new.self.handles (subst (λ k. Shows k x) (sym c.self.view_is) shows) c.settle.ensures
          (c.next_after-self-inside.ensures ∙ ap (λ (p : FileOutcome). next_node_after m.next_node p.change) c.plan.view_is)
          (c.bind_opened.ensures.handles ∙ ap (λ (p : FileOutcome). handles_then m.handles.handles c.args.process c.args.label p.opened) c.plan.view_is));
      slots = λ x shows. omega (arith, slots);
    }

pub settle-requires-clause-units : goal.settle-requires-clause-units
settle-requires-clause-units c =
    subst (λ (m : MemoryState). IfSome c.args.plan.change (CanBeMade (files_of m.files).tree)) (sym c.self.view_is) c.requires.0.units

pub returns-clause-rules : goal.returns-clause-rules
returns-clause-rules c = λ rule none each puts.
    let before : EachOfFiles (Follows rule) (files_of c.self.inside.files) = subst (λ (m : MemoryState). EachOfFiles (Follows rule) (files_of m.files)) (sym c.self.view_is) each in
    let after = files_after-each (Follows rule) none (files_of c.self.inside.files) None c.args.plan before (event_puts rule c.args.plan.change puts) in
    subst (λ (m : MemoryState). EachOfFiles (Follows rule) (files_of m.files)) (sym c.bind_opened.ensures.rest) (subst (EachOfFiles (Follows rule)) (sym c.settle.ensures) after)
