use Rattle.std.proofs.Common.{◌≡◌, ◌+◌, ◌*◌, ◌≤◌, length, take, vec_len, vec_capacity}
use Rattle.ktm_base.specs.Grammar.{Then, IsU32, IsRow}
use Rattle.ktm_codec.specs.Spans.{Adds}
use Rattle.ktm_event.proofs.change.put_pages.Given as goal

abbrev pub invariant-loop-page : goal.invariant-loop-page
invariant-loop-page l = record {
  adds : Adds (Then (IsU32 (length l.pages)) (IsRow IsU32 (take l.page-index l.pages))) l.fn.out.items l.out.items;
  len : vec_len l.out ≡ vec_len l.fn.out + 4 + 4 * l.page-index;
  room : vec_capacity l.fn.out ≤ vec_capacity l.out;
}
