use Rattle.std.proofs.Common.{◌∙◌, sym}
use Rattle.txf_calls.specs.Steps.{search_of}
use Rattle.txf_calls.proofs.Finds.{find-listed, find-no-directory, find-no-pattern}
use Rattle.txf_calls.proofs.search.find_pattern.Goals as goal

pub returns-in_default : goal.returns-in_default
returns-in_default g c = λ room text is.
    c.refused.ensures ∙ sym (find-no-pattern (g.V.Volume.files c.args.volume.now) room c.args.who text (rw c.in_default.is at is))

pub returns-in_default-searched : goal.returns-in_default-searched
returns-in_default-searched g c = λ room text is.
    c.refused-in_default-searched.ensures
    ∙ sym (find-no-directory (g.V.Volume.files c.args.volume.now) room c.args.who text (search_of c.in-Some.pattern) (rw c.in-Some.is at is) (sym c.searched.ensures ∙ c.in_default-searched.is))

pub returns : goal.returns
returns g c = λ room text is.
    c.listing.ensures
    ∙ sym (find-listed (g.V.Volume.files c.args.volume.now) room c.args.who text (search_of c.in-Some.pattern) (rw c.in-Some.is at is)
    c.in-Some-searched.directory c.in_ok-names.names (sym c.searched.ensures ∙ c.in-Some-searched.is) c.in_ok-names.ensures)
