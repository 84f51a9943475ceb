use Rattle.std.proofs.Common.{map, ap, ◌∙◌}
use Rattle.std.proofs.lemmas.List.{take_all}
use Rattle.txf_nodes.specs.Children.{entry_seen}
use Rattle.txf_nodes.specs.Found.{shown_text}
use Rattle.txf_nodes.proofs.Filters.{found-listed}
use Rattle.txf_nodes.proofs.listed.listed_names.Goals as goal

pub returns : goal.returns
returns c = λ tree directory last is.
    c.loop-entry.invariant
    ∙ ap (λ entries. map shown_text (map entry_seen entries)) (take_all c.loop-entry.entry-index c.as_slice-entry-items.result.now c.loop-entry-test.false)
    ∙ ap (λ entries. map shown_text entries) (c.as_slice-entry-items.ensures ∙ is)
    ∙ found-listed tree directory last
