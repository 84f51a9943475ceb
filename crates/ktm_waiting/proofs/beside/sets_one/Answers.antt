use Rattle.std.proofs.Common.{◌≡◌, ◌∙◌, true, ap, sym, subst}
use Rattle.ktm_keyed.specs.Keyed.{is_rising}
use Rattle.ktm_world.specs.Durable.{Recorded, settings_of}
use Rattle.ktm_waiting.proofs.offered.Keeping.{settings-rise}
use Rattle.ktm_waiting.proofs.beside.sets_one.Goals as goal

pub set_both-requires : goal.set_both-requires
set_both-requires c =
    let same = rw c.deref.ensures.value at c.settings_of.ensures in
    ap is_rising same ∙ subst (λ (t : Recorded). is_rising (settings_of t) ≡ true) (sym c.transaction.view_is) (settings-rise c.args.transaction.now c.requires.kept)
