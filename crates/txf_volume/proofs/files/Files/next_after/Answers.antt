use Rattle.std.proofs.Common.{◌≡◌, ◌<◌, ◌^◌, true, All, sym, ◌∙◌, ap, subst}
use Rattle.std.specs.Option.{option_copied}
use Rattle.ktm_world.specs.declared.change.Change.{Change}
use Rattle.ktm_world.specs.Changes.{is_make, node_of}
use Rattle.ktm_world.specs.Durable.{next_after_all}
use Rattle.txf_laws.proofs.offered.NodeNumbers.{next-to}
use Rattle.txf_tree.specs.TreeState.{tree_of}
use Rattle.txf_volume.proofs.Recording.{made-low, next-none, next-some}
use Rattle.txf_volume.proofs.files.Files.next_after.Goals as goal

pub next_after_names-requires : goal.next_after_names-requires
next_after_names-requires c =
    subst (All (λ (change : Change). is_make change ≡ true → node_of change < 2 ^ 63)) (sym c.names.ensures.names)
    (made-low (tree_of c.args.self.now.tree) c.in-Some.overlay.now.names (c.in-Some.ensures.over).stands.applies)

pub returns-in-Some-clause-next : goal.returns-in-Some-clause-next
returns-in-Some-clause-next c =
    c.next_after_names.ensures ∙ ap (next_after_all c.args.next) c.names.ensures.names
    ∙ next-some c.args.self.now c.args.transaction c.in-Some.overlay.now c.args.next (sym c.overlay.ensures.overlay ∙ ap option_copied c.in-Some.is) (c.in-Some.ensures.over).own

pub returns-in-Some-clause-few : goal.returns-in-Some-clause-few
returns-in-Some-clause-few c low =
    rw (c.next_after_names.ensures, c.names.ensures.names)
    (next-to (tree_of c.args.self.now.tree) c.in-Some.overlay.now.names c.args.next (c.in-Some.ensures.over).stands.applies low)

pub returns-in-None-clause-next : goal.returns-in-None-clause-next
returns-in-None-clause-next c = next-none c.args.self.now c.args.transaction c.args.next (sym c.overlay.ensures.overlay ∙ ap option_copied c.in-None.is)
