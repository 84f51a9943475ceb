use Rattle.std.proofs.Common.{◌≡◌, ◌∙◌, true, false, sym, ap}
use Rattle.std.proofs.lemmas.Bool.{and_from, le-leb}
use Rattle.ktm_saved.proofs.read.is_within.Goals as goal
use Rattle.ktm_saved.specs.Saved.{state_of}
use Rattle.ktm_waiting.proofs.offered.Limits.{rest-fits, too-much}
use Rattle.ktm_waiting.specs.declared.amounts.Amounts.{Amounts}
use Rattle.ktm_waiting.specs.Waiting.{committed, fits_in, limits, minus}

pub returns-in-None : goal.returns-in-None
returns-in-None c = λ image.
    let s = state_of c.args.units image c.args.saved.now in
    let past : fits_in (committed s.tree s.keys) (limits s.units) ≡ false = (λ i. fits_in (sym c.committed.ensures i) (sym c.limits.ensures i)) ∙ c.in-None.ensures.none in
    sym (too-much s past)

pub returns-in-Some : goal.returns-in-Some
returns-in-Some c = λ image.
    let s = state_of c.args.units image c.args.saved.now in
    let fits : fits_in (committed s.tree s.keys) (limits s.units) ≡ true = (λ i. fits_in (sym c.committed.ensures i) (sym c.limits.ensures i)) ∙ c.in-Some.ensures.some.0 in
    let left : c.in-Some.room ≡ minus (limits s.units) (committed s.tree s.keys) = c.in-Some.ensures.some.1 ∙ (λ i. minus (c.limits.ensures i) (c.committed.ensures i)) in
    c.fits_in.ensures
    ∙ ap (λ (a : Amounts). fits_in a c.in-Some.room) (c.taken.ensures s.tree c.requires.apply)
    ∙ rest-fits s c.in-Some.room fits left (and_from _ _ (le-leb _ _ c.requires.transactions) (le-leb _ _ c.requires.managers))
