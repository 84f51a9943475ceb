use Rattle.std.proofs.Common.{◌∙◌, [], ◌∷◌, sym, ap, arith}
use Rattle.std.proofs.lemmas.Grind.{common_steps}
use Rattle.ktm_base.specs.declared.refusal.Refusal.TheVariants.{NotEnoughQuota}
use Rattle.ktm_world.specs.declared.change.Change.TheVariants.{Move}
use Rattle.ktm_world.specs.FileOutcome.{FileOutcome, changing, lacks_quota}
use Rattle.ktm_world.specs.Files.{tree_seen}
use Rattle.ktm_world.specs.Outcome.{first_refusal}
use Rattle.ktm_world.specs.Tree.{is_at_or_below}
use Rattle.txf_calls.specs.Calls.{unless_refused}
use Rattle.txf_calls.specs.declared.view.Seen.{Seen}
use Rattle.txf_calls.proofs.Moving.{moves-on}
use Rattle.txf_calls.proofs.moves.move_node.Goals as goal

pub returns-in-Some : goal.returns-in-Some
returns-in-Some g c = grind (arith, common_steps)

pub returns : goal.returns
returns g c = λ other is named.
    let files = g.V.Volume.files c.args.volume.now in
    let d = c.args.to.directory in
    let n = c.args.to.name.now in
    c.within_quota.ensures
    ∙ ap (λ (o : FileOutcome). unless_refused (first_refusal ((lacks_quota files c.args.room.now c.args.who o, NotEnoughQuota) ∷ [])) o)
    (c.changing.ensures ∙ ap changing c.in_ok-change.ensures ∙ ap (λ (s : Seen). changing (Move s.number d n)) is)
    ∙ sym (moves-on files c.args.room.now c.args.who other d n
    (ap (λ (s : Seen). is_at_or_below (tree_seen files c.args.who) d s.number) (sym is) ∙ sym c.is_at_or_below.ensures ∙ c.if-is_at_or_below.false)
    (sym (c.check.ensures other is named) ∙ c.in_default.is))
