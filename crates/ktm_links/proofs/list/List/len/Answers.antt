use Rattle.std.proofs.Common.{◌∙◌, sym, ap, length}
use Rattle.ktm_links.specs.Items.{Listed}
use Rattle.ktm_links.proofs.list.List.len.Goals as goal

pub returns : goal.returns
returns g c = c.len.ensures ∙ sym c.self.invariant.count ∙ ap (λ (l : Listed _). length l.items) c.self.view_is
