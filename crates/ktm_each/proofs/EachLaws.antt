-- What holds of each byte of each content goes on to hold.
use Rattle.std.proofs.Common.{ℕ}
use Rattle.ktm_each.specs.Each.{AreZerosSuch}
use Rattle.ktm_each.specs.Laws.{ContentsEach, ChangesEach, FilesEach, DurablesEach, EachLaw}
use Rattle.ktm_each.proofs.offered.Trees.{bytes_of-each, changed-each, changed_all-each, changes_to_commit-each, cut_to-each, final_bytes-each, put_over-each}
use Rattle.ktm_each.proofs.offered.Files.{bytes_seen-each, closed-each, files_after-each, files_committed-each, forgotten-each, with_own_behind-each}
use Rattle.ktm_each.proofs.offered.Durables.{after_event-each, after_events-each, opened-each, own_group-each, stand-each}

contents_each : (p : ℕ → ℕ → ℕ → Type 0) → AreZerosSuch p → ContentsEach p
contents_each p zeros = record { cut = λ file. cut_to-each (p file) (zeros file); put = λ file. put_over-each (p file) (zeros file) }

changes_each : (p : ℕ → ℕ → ℕ → Type 0) → AreZerosSuch p → ChangesEach p
changes_each p zeros = record {
  one = changed-each p zeros;
  all = changed_all-each p zeros;
  there = bytes_of-each p;
  final = final_bytes-each p;
  to_commit = changes_to_commit-each p;
}

files_each : (p : ℕ → ℕ → ℕ → Type 0) → AreZerosSuch p → FilesEach p
files_each p zeros = record {
  after = files_after-each p zeros;
  committed = files_committed-each p zeros;
  forgot = forgotten-each p;
  closed = closed-each p;
  restored = with_own_behind-each p;
  seen = bytes_seen-each p zeros;
}

durables_each : (p : ℕ → ℕ → ℕ → Type 0) → AreZerosSuch p → DurablesEach p
durables_each p zeros = record {
  one = after_event-each p zeros;
  all = after_events-each p zeros;
  log = stand-each p zeros;
  own = own_group-each p;
  opens = opened-each p;
}

pub each_law : (p : ℕ → ℕ → ℕ → Type 0) → EachLaw p
each_law p zeros = (contents_each p zeros, changes_each p zeros, files_each p zeros, durables_each p zeros)
