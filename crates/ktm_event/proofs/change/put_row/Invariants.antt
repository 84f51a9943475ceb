use Rattle.std.proofs.Common.{◌≡◌, ◌+◌, ◌≤◌, take, sum_by, vec_len, vec_capacity}
use Rattle.ktm_base.specs.Grammar.{IsRow}
use Rattle.ktm_codec.specs.Spans.{Adds}
use Rattle.ktm_world.specs.EventGrammar.{IsChangeOf}
use Rattle.ktm_world.specs.Sizes.{change_size}
use Rattle.ktm_event.proofs.change.put_row.Given as goal

abbrev pub invariant-loop-change : goal.invariant-loop-change
invariant-loop-change l = record {
  adds : Adds (IsRow IsChangeOf (take l.change-index l.changes)) l.fn.out.items l.out.items;
  len : vec_len l.out ≡ vec_len l.fn.out + sum_by change_size (take l.change-index l.changes);
  room : vec_capacity l.fn.out ≤ vec_capacity l.out;
}
