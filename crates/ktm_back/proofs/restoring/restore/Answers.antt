use Rattle.std.proofs.Common.{ap, subst, sym, ◌∙◌}
use Rattle.ktm_world.specs.Files.{FilesNow}
use Rattle.ktm_world.specs.Keys.{KeysNow}
use Rattle.txf_tree.specs.TreeState.{tree_of}
use Rattle.txf_volume.specs.Held.{files_begun}
use Rattle.ktm_back.specs.Restoring.{CanHaveTheirOwn, files_with_own, keys_with_own, own_changes_of, own_settings_of}
use Rattle.ktm_back.proofs.Restorable.{can-start, well-formed}
use Rattle.ktm_back.proofs.restoring.restore.Goals as goal

pub with_tree-files-requires-clause-formed : goal.with_tree-files-requires-clause-formed
with_tree-files-requires-clause-formed c = well-formed (tree_of c.args.committed.tree) c.args.committed.next_node c.args.store.items c.args.transactions.items c.requires.good

pub restore_all-requires : goal.restore_all-requires
restore_all-requires c =
    subst (λ (f : FilesNow). CanHaveTheirOwn f c.with_store-keys.result c.args.transactions.items) (sym c.with_tree-files.ensures)
    (subst (λ (k : KeysNow). CanHaveTheirOwn (files_begun (tree_of c.args.committed.tree) c.args.committed.next_node) k c.args.transactions.items) (sym c.with_store-keys.ensures)
    (can-start c.law_of_limits.ensures (tree_of c.args.committed.tree) c.args.committed.next_node c.args.store.items c.args.transactions.items c.requires.good))

pub returns-in-Ok-clause-files : goal.returns-in-Ok-clause-files
returns-in-Ok-clause-files c = c.in-Ok.ensures.files ∙ ap (λ (f : FilesNow). files_with_own f (own_changes_of c.args.transactions.items)) c.with_tree-files.ensures

pub returns-in-Ok-clause-keys : goal.returns-in-Ok-clause-keys
returns-in-Ok-clause-keys c = c.in-Ok.ensures.keys ∙ ap (λ (k : KeysNow). keys_with_own k (own_settings_of c.args.transactions.items)) c.with_store-keys.ensures
