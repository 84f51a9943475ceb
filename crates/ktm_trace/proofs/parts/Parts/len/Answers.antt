use Rattle.std.proofs.Common.{◌∙◌, sym, filter}
use Rattle.std.proofs.lemmas.List.{length-map}
use Rattle.std.proofs.lemmas.List.Sums.{length-filter}
use Rattle.ktm_trace.specs.Joined.{is_mark_of, marked_part}
use Rattle.ktm_trace.proofs.parts.Parts.len.Goals as goal

pub returns : goal.returns
returns c =
    let marks = c.self.inside.marks.now in
    let id = c.self.inside.transaction in
    rw (← c.self.view_is) (c.count_of.ensures ∙ sym (length-map (filter (is_mark_of id) marks) marked_part ∙ length-filter (is_mark_of id) marks))
