-- Rows that a store may show, and what is made of contents in them.
use Rattle.std.proofs.Common.{◌≡◌, ℕ, ◌*◌, List, Option, Some, length, sym, ◌∙◌, ap, inl, inr}
use Rattle.std.proofs.lemmas.Bool.{cases_eq}
use Rattle.std.proofs.lemmas.Option.{none-some, same_Some}
use Rattle.ktm_page.specs.Row.{page_of}
use Rattle.ktm_store.specs.Marks.{MarksState}
use Rattle.ktm_store.specs.Pool.{FilledPages, KeepsAll, LetIn, Shows, StaysOrWent, TookPages, kept_at, on_row}
use Rattle.ktm_store.specs.Store.{Made, PoolState}

-- a page that is in memory still, or went, has the bytes of the row
stays : (old new : PoolState) (row : List ℕ) (page : ℕ) (bytes : List ℕ) → StaysOrWent old new page → Shows old row → kept_at new.seen page ≡ Some bytes → page_of row page ≡ bytes
stays old new row page bytes stay shows is = elim stay [
  | inl same ↦ shows.bytes page bytes (sym same ∙ is)
  | inr gone ↦ absurd (none-some bytes (sym gone.0 ∙ is))
]

size-same : (old new : PoolState) (row : List ℕ) → new.marks ≡ old.marks → Shows old row → length row ≡ length new.marks.held * 4096
size-same old new row same shows = shows.size ∙ ap (λ (m : MarksState). length m.held * 4096) (sym same)

-- what a store shows it shows where pages have gone
pub shows-kept : (old new : PoolState) (row : List ℕ) → KeepsAll old new → Shows old row → Shows new row
shows-kept old new row keeps shows = record {
  size = size-same old new row keeps.marks shows;
  bytes = λ page bytes is. stays old new row page bytes (keeps.pages page) shows is;
}

-- and where a page has come in with the bytes that it has in the row
pub shows-in : (old new : PoolState) (row : List ℕ) (page : ℕ) (bytes : List ℕ) → LetIn page bytes old new → page_of row page ≡ bytes → Shows old row → Shows new row
shows-in old new row page bytes let_in has shows = record {
  size = size-same old new row let_in.marks shows;
  bytes = λ at its is. elim (cases_eq at page) [
    | inl same ↦ ap (page_of row) same ∙ has ∙ same_Some bytes its (sym let_in.this ∙ ap (kept_at new.seen) (sym same) ∙ is)
    | inr apart ↦ stays old new row at its (let_in.others at apart) shows is
  ];
}

-- which pages are held, stored and wanted is nothing to it
pub shows-marked : (old new : PoolState) (row : List ℕ) → new.seen ≡ old.seen → length new.marks.held ≡ length old.marks.held → Shows old row → Shows new row
shows-marked old new row seen count shows = record {
  size = shows.size ∙ ap (λ n. n * 4096) (sym count);
  bytes = λ page bytes is. shows.bytes page bytes (sym (ap (λ (l : List (Option (List ℕ))). kept_at l page) seen) ∙ is);
}

-- what was put on pages was made of the contents
pub made-of : (after : List ℕ → List ℕ) (units : ℕ) (places : List ℕ) (old new : PoolState) (start : ℕ) (part before row : List ℕ) → TookPages units places old new start part → FilledPages after places old new start part before row
    → Made after units places (on_row old before) (on_row new row) start part
made-of after units places old new start part before row took filled = record {
  pages = took.pages;
  lie = took.lie;
  once = took.once;
  can = took.can;
  bytes = filled.bytes;
  keeps = record {
    count = took.count;
    held = took.kept;
    bytes = filled.held;
    stored = took.stored;
    as_were = λ page is. (took.were_stored page is, filled.stored page is);
    wanted = took.wanted;
  };
  were_free = took.were_free;
  held = took.held;
  fewer = took.fewer;
}
