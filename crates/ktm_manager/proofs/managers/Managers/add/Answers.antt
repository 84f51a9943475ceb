use Rattle.std.proofs.Common.{ℕ, ◌+◌, ◌∙◌, sym, arith, length-append, ap, length}
use Rattle.ktm_world.specs.Durable.{is_before}
use Rattle.ktm_manager.specs.declared.managers.Listed.{Listed}
use Rattle.ktm_manager.proofs.offered.Places.{rising_push}
use Rattle.ktm_manager.proofs.Serving.{all_listed, one_more}
use Rattle.ktm_manager.proofs.managers.Managers.add.Goals as goal

pub invariant_of-self : goal.invariant_of-self
invariant_of-self c = rw (c.push_reserved.ensures.items, c.add.ensures.queues) (
  rising_push (λ (x : Listed). x.id) c.self.inside.listed.items (record { id = c.args.id; is_durable = c.args.is_durable }) c.self.invariant.0
      (sym (all_listed (λ id. is_before id c.args.id) c.self.inside.listed.items c.self.inside.queues.queues) ∙ rw (← c.self.view_is) at c.requires.behind),
  length-append c.self.inside.listed.items _ ∙ ap (λ (n : ℕ). n + 1) c.self.invariant.1 ∙ sym (length-append c.self.inside.queues.queues _),
)

pub returns-clause-managers : goal.returns-clause-managers
returns-clause-managers c = rw (c.push_reserved.ensures.items, c.add.ensures.queues, ← c.self.view_is) (one_more _ _ _ c.self.invariant.1)
