use Rattle.std.proofs.Common.{◌≡◌, length}
use Rattle.ktm_base.specs.Grammar.{IsU32, IsRow}
use Rattle.ktm_codec.specs.Spans.{Spans}
use Rattle.ktm_event.proofs.change.pages_at.Given as goal

abbrev pub invariant-pages : goal.invariant-pages
invariant-pages l = record {
  row : Spans (IsRow IsU32 l.pages.items) l.bytes l.start l.end;
  counted : length l.pages.items ≡ l.counter;
}
