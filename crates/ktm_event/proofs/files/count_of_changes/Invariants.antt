use Rattle.std.proofs.Common.{◌≡◌, ◌+◌, length}
use Rattle.std.specs.List.{flat_map}
use Rattle.ktm_event.specs.Work.{changes_of_file}
use Rattle.ktm_event.proofs.FilesShown.{changes_left, files_left}
use Rattle.ktm_event.proofs.files.count_of_changes.Given as goal

-- with the files that are left, all are counted
abbrev pub invariant-loop-next : goal.invariant-loop-next
invariant-loop-next g l =
    l.count + length (changes_left (g.F.WrittenFiles.files l.files) l.next) ≡ length (flat_map changes_of_file (g.F.WrittenFiles.files l.files))

abbrev pub decreases-loop-next : goal.decreases-loop-next
decreases-loop-next g l = length (files_left (g.F.WrittenFiles.files l.files) l.next)
