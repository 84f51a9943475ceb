-- How what is read of a change at one place goes on at the next.
use Rattle.std.proofs.Common.{◌≡◌, ◌≢◌, ◌≤◌, ℕ, zero, suc, None, List, [], refl, arith}
use Rattle.ktm_base.specs.Grammar.{IsU8, IsU32}
use Rattle.ktm_codec.specs.Spans.{Spans, Reads}
use Rattle.ktm_codec.proofs.Forms.{unambiguous_u8, unambiguous_u32}
use Rattle.ktm_codec.proofs.SpansLemmas.{one_reading, spans_parts}
use Rattle.ktm_world.specs.declared.change.Change.{Change}
use Rattle.ktm_world.specs.declared.change.Change.TheVariants.{Make, Put, Cut, Move, Drop}
use Rattle.ktm_world.specs.declared.change.Contents.TheVariants.{Whole, Paged}
use Rattle.ktm_world.specs.declared.change.NodeKind.TheVariants.{File, Directory}
use Rattle.ktm_world.specs.EventGrammar.{IsKindOf, IsPutOf, IsChangeOf}
use Rattle.ktm_event.specs.Reading.{Behind}
use Rattle.ktm_event.proofs.Tags.{other_tag, no_byte}
use Rattle.ktm_event.proofs.Changes.{IsMakeOf, IsPagedOf, IsPutAtOf, IsCutToOf, IsMoveOf}
use Rattle.ktm_event.proofs.Readings.{Absent, tag_after}

module _ {bytes : List ℕ} {at : ℕ} where
  pub no_kind : Absent IsU8 bytes at → Absent IsKindOf bytes at
  no_kind absent = record { none = none }
    where
      none : Reads IsKindOf bytes at None
      none File = absent.none 0
      none Directory = absent.none 1

  pub other_kind : {tag mid : ℕ} → Spans (IsU8 tag) bytes at mid → tag ≢ 0 → tag ≢ 1 → Reads IsKindOf bytes at None
  other_kind {tag} {mid} read file directory File end spans = file (one_reading IsU8 unambiguous_u8 bytes at tag 0 mid end read spans).0
  other_kind {tag} {mid} read file directory Directory end spans = directory (one_reading IsU8 unambiguous_u8 bytes at tag 1 mid end read spans).0

  pub no_contents : Absent IsPagedOf bytes at → Absent IsPutOf bytes at
  no_contents absent = record { none = none }
    where
      none : Reads IsPutOf bytes at None
      none (Whole contents) end spans = spans.form
      none (Paged zero pages) end spans = spans.form
      none (Paged (suc n) pages) end spans = absent.none (suc n, pages) end spans

  pub empty_contents : {len mid : ℕ} → Spans (IsU32 len) bytes at mid → len ≡ 0 → Reads IsPutOf bytes at None
  empty_contents read empty (Whole contents) end spans = spans.form
  empty_contents read empty (Paged zero pages) end spans = spans.form
  empty_contents {len} {mid} read empty (Paged (suc n) pages) end spans =
      let (mid', first, rest) = spans_parts bytes at end spans in
      let (same, places) = one_reading IsU32 unambiguous_u32 bytes at len (suc n) mid mid' read first in
      absurd (omega (arith, empty, same))

  pub contents_read : (len : ℕ) (pages : List ℕ) {end : ℕ} → 1 ≤ len → Spans (IsPagedOf (len, pages)) bytes at end → Spans (IsPutOf (Paged len pages)) bytes at end
  contents_read zero pages some read = absurd (omega arith)
  contents_read (suc n) pages some read = read

  pub no_make : Absent IsMakeOf bytes at → Absent (Behind IsChangeOf 1) bytes at
  no_make absent = record { none = none }
    where
      none : Reads (Behind IsChangeOf 1) bytes at None
      none (Make node parent kind name) end spans = absent.none (node, (parent, (kind, name))) end (tag_after 1 spans)
      none change end spans = absurd (other_tag spans.form.1 refl)

  pub no_put : Absent IsPutAtOf bytes at → Absent (Behind IsChangeOf 2) bytes at
  no_put absent = record { none = none }
    where
      none : Reads (Behind IsChangeOf 2) bytes at None
      none (Put node offset contents) end spans = absent.none (node, (offset, contents)) end (tag_after 2 spans)
      none change end spans = absurd (other_tag spans.form.1 refl)

  pub no_cut : Absent IsCutToOf bytes at → Absent (Behind IsChangeOf 3) bytes at
  no_cut absent = record { none = none }
    where
      none : Reads (Behind IsChangeOf 3) bytes at None
      none (Cut node size pages) end spans = absent.none (node, (size, pages)) end (tag_after 3 spans)
      none change end spans = absurd (other_tag spans.form.1 refl)

  pub no_move : Absent IsMoveOf bytes at → Absent (Behind IsChangeOf 4) bytes at
  no_move absent = record { none = none }
    where
      none : Reads (Behind IsChangeOf 4) bytes at None
      none (Move node parent name) end spans = absent.none (node, (parent, name)) end (tag_after 4 spans)
      none change end spans = absurd (other_tag spans.form.1 refl)

  pub other_change : (tag : ℕ) → tag ≢ 1 → tag ≢ 2 → tag ≢ 3 → tag ≢ 4 → tag ≢ 5 → Reads (Behind IsChangeOf tag) bytes at None
  other_change tag make put cut move drop (Make node parent kind name) end spans = let is = spans.form.1 in make cc
  other_change tag make put cut move drop (Put node offset contents) end spans = let is = spans.form.1 in put cc
  other_change tag make put cut move drop (Cut node size pages) end spans = let is = spans.form.1 in cut cc
  other_change tag make put cut move drop (Move node parent name) end spans = let is = spans.form.1 in move cc
  other_change tag make put cut move drop (Drop node) end spans = let is = spans.form.1 in drop cc

-- a change begins with its tag
pub change_starts : (change : Change) → IsChangeOf change [] → ⊥
change_starts (Drop node) is = no_byte is.1
change_starts change is = no_byte is.1
