use Rattle.std.proofs.Common.{◌∙◌, sym, filter}
use Rattle.std.proofs.lemmas.List.{length-map}
use Rattle.std.proofs.lemmas.List.Sums.{length-filter}
use Rattle.ktm_manager.specs.declared.managers.Listed.{Listed}
use Rattle.ktm_manager.proofs.durable.DurableManagers.len.Goals as goal

pub returns : goal.returns
returns c =
    let listed = c.self.inside.listed.now in
    rw (← c.self.view_is) (c.count_of.ensures ∙ sym (length-map (filter (λ (x : Listed). x.is_durable) listed) (λ x. x.id) ∙ length-filter (λ (x : Listed). x.is_durable) listed))
