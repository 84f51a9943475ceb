use Rattle.std.proofs.Common.{◌≡◌, ◌+◌, ◌∙◌, ap, map}
use Rattle.ktm_world.specs.Durable.{Durable}
use Rattle.ktm_world.specs.Files.{FilesNow}
use Rattle.ktm_memory.specs.Held.{FilesHeld, files_of}
use Rattle.ktm_back.specs.Bringing.{HasComeBack}
use Rattle.ktm_trace.specs.Traces.{traced}
use Rattle.ktm_core.proofs.Begun.{fresh_slots, good_then, shows_fresh}
use Rattle.ktm_core.proofs.OwnGroups.{own_leaves_committed}
use Rattle.ktm_core.proofs.starting.begin.Goals as goal

pub of-requires : goal.of-requires
of-requires c = record { rise = rw (c.transactions-2.ensures ∙ ap (λ (s : Durable). s.transactions) c.begin.ensures) ((own_leaves_committed c.args.state).rises c.requires.good.transactions_rise) }

pub restore-requires-clause-good : goal.restore-requires-clause-good
restore-requires-clause-good c =
    let is = c.into_parts-files.ensures in
    good_then c.args.state c.begin.new.self _ _ _ _ c.begin.ensures is.tree is.next_node is.keys is.transactions
    c.law_of_good_states.ensures c.law_of_own_groups.ensures c.requires.good c.requires.most c.requires.boots c.requires.events

pub returns-in-Ok-restore-clause-shows : goal.returns-in-Ok-restore-clause-shows
returns-in-Ok-restore-clause-shows c =
    let s = c.args.state in
    let is = c.into_parts-files.ensures in
    let back : HasComeBack (s.boots + 1) s.managers s.transactions c.start-in-Ok-restore.result.tm =
    rw (c.start-in-Ok-restore.ensures.tm) (rw (c.boots.ensures, c.managers.ensures, c.transactions.ensures) at c.in-Ok.ensures) in
    let traces : c.start-in-Ok-restore.result.trace ≡ map traced c.begin.new.self.transactions =
    c.start-in-Ok-restore.ensures.trace ∙ c.in-Ok-of.ensures.transactions ∙ ap (λ ts. map traced ts) c.transactions-2.ensures in
    let files = ap (λ (f : FilesHeld). files_of f) c.start-in-Ok-restore.ensures.files ∙ c.in-Ok-restore.ensures.files in
    let next_node = c.start-in-Ok-restore.ensures.next_node ∙ ap (λ (f : FilesNow). f.table.next_node) c.in-Ok-restore.ensures.files in
    let keys = c.start-in-Ok-restore.ensures.keys ∙ c.in-Ok-restore.ensures.keys in
    shows_fresh s c.begin.new.self _ _ _ _ c.begin.ensures is.tree is.next_node is.keys is.transactions c.law_of_in_doubt.ensures c.requires.good
    c.start-in-Ok-restore.result c.start-in-Ok-restore.ensures.up back traces files next_node keys c.start-in-Ok-restore.ensures.handles

pub returns-in-Ok-restore-clause-slots : goal.returns-in-Ok-restore-clause-slots
returns-in-Ok-restore-clause-slots c =
    let s = c.args.state in
    let back : HasComeBack (s.boots + 1) s.managers s.transactions c.start-in-Ok-restore.result.tm =
    rw (c.start-in-Ok-restore.ensures.tm) (rw (c.boots.ensures, c.managers.ensures, c.transactions.ensures) at c.in-Ok.ensures) in
    fresh_slots c.law_of_slots.ensures s c.start-in-Ok-restore.result.tm back
