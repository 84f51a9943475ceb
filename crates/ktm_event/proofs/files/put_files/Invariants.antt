use Rattle.std.proofs.Common.{◌≡◌, ◌+◌, ◌≤◌, All, List, ℕ, length, sum_by, vec_len, vec_capacity}
use Rattle.std.specs.List.{flat_map}
use Rattle.ktm_base.specs.Grammar.{IsRow}
use Rattle.ktm_codec.specs.Spans.{Adds}
use Rattle.ktm_world.specs.EventGrammar.{IsChangeOf}
use Rattle.ktm_world.specs.Sizes.{change_size}
use Rattle.ktm_event.specs.Spelling.{IsSpellableChange}
use Rattle.ktm_event.specs.Work.{changes_of_file}
use Rattle.ktm_event.proofs.FilesShown.{changes_left, files_left}
use Rattle.ktm_event.proofs.files.put_files.Given as goal

-- what is left can be written, and once it is written, all is
abbrev pub invariant-loop-next : goal.invariant-loop-next
invariant-loop-next g l = record {
  spelled : All IsSpellableChange (changes_left (g.F.WrittenFiles.files l.files) l.next);
  adds : (end : List ℕ) → Adds (IsRow IsChangeOf (changes_left (g.F.WrittenFiles.files l.files) l.next)) l.out.items end
      → Adds (IsRow IsChangeOf (flat_map changes_of_file (g.F.WrittenFiles.files l.files))) l.fn.out.items end;
  len : vec_len l.out + sum_by change_size (changes_left (g.F.WrittenFiles.files l.files) l.next)
      ≡ vec_len l.fn.out + sum_by change_size (flat_map changes_of_file (g.F.WrittenFiles.files l.files));
  room : vec_capacity l.fn.out ≤ vec_capacity l.out;
}

abbrev pub decreases-loop-next : goal.decreases-loop-next
decreases-loop-next g l = length (files_left (g.F.WrittenFiles.files l.files) l.next)
