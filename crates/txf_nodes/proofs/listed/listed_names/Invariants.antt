use Rattle.std.proofs.Common.{◌≡◌, map, take}
use Rattle.txf_nodes.specs.Children.{entry_seen}
use Rattle.txf_nodes.specs.Found.{shown_text}
use Rattle.txf_nodes.proofs.listed.listed_names.Given as goal

abbrev pub invariant-loop-entry : goal.invariant-loop-entry
invariant-loop-entry l = l.texts ≡ map shown_text (map entry_seen (take l.entry-index l.entry-items))
