-- Pages that come into memory, and go.
use Rattle.std.proofs.Common.{◌≡◌, ℕ, ◌<◌, List, [], length, get_or, set, Option, None, Some, refl, sym, ◌∙◌, ap, arith, inl, inr, get_or-set_same, get_or-set_other}
use Rattle.std.specs.Prelude.{◌≢◌, is_some}
use Rattle.std.proofs.lemmas.Bool.{cases_eq}
use Rattle.std.proofs.lemmas.Grind.{same_number_lists}
use Rattle.ktm_store.specs.Filling.{TookUnits}
use Rattle.ktm_store.specs.Frames.{HasStill, filled}
use Rattle.ktm_store.specs.Pool.{AreSomewhere, KeepsAll, LetIn, is_kept, kept_at}
use Rattle.ktm_store.specs.Store.{PoolState}
use Rattle.ktm_store.proofs.Filled.{filled-bytes}
use Rattle.ktm_store.proofs.Framing.{length-filled}
use Rattle.ktm_store.proofs.offered.Showing.{shows-kept}

-- a page that is filled with a whole page of bytes has them
pub filled-whole : (bytes : List ℕ) → length bytes ≡ 4096 → filled [] 0 bytes [] ≡ bytes
filled-whole bytes whole =
    same_number_lists (filled [] 0 bytes []) bytes (length-filled [] 0 bytes [] ∙ sym whole)
    (λ i short.
    let low : i < 4096 = omega (arith, short, length-filled [] 0 bytes []) in
    filled-bytes [] 0 bytes [] i low (omega arith) (omega (arith, low, whole)) ∙ ap (λ (n : ℕ). get_or bytes n 0) (omega arith))

module _ (old : PoolState) (seen : List (Option (List ℕ))) (went : (page : ℕ) → HasStill old.stored old.seen seen page) where
  abbrev mid : PoolState
  mid = record old { seen = seen }

  keeps-went : KeepsAll old mid
  keeps-went = record { pages = went; marks = refl; stored = refl; wanted = refl }

  somewhere-went : old.wanted ≡ [] → AreSomewhere old → AreSomewhere mid
  somewhere-went none are = record {
    pages = λ page low. elim (are.pages page low) [
      | inl is ↦ inl is
      | inr is ↦ elim (went page) [ inl same ↦ inr (ap is_some same ∙ is) | inr gone ↦ inl gone.1 ]
    ];
    wanted = λ k d low. absurd (omega (arith, low, ap (λ (l : List ℕ). length l) none));
  }

  -- one page comes in
  module _ (page : ℕ) (bytes : List ℕ) (next : List (Option (List ℕ))) (low : page < length seen) (is : next ≡ set seen page (Some bytes)) where
    this : kept_at next page ≡ Some bytes
    this = ap (λ (l : List (Option (List ℕ))). get_or l page None) is ∙ get_or-set_same seen page (Some bytes) None low

    other : (apart : ℕ) → apart ≢ page → kept_at next apart ≡ kept_at seen apart
    other apart away = ap (λ (l : List (Option (List ℕ))). get_or l apart None) is ∙ get_or-set_other seen page apart (Some bytes) None away

    pub somewhere-in : old.wanted ≡ [] → AreSomewhere old → AreSomewhere (record old { seen = next })
    somewhere-in none are = record {
      pages = λ at below. elim (cases_eq at page) [
        | inl same ↦ inr (ap (is_kept next) same ∙ ap is_some this)
        | inr apart ↦ elim ((somewhere-went none are).pages at below) [ inl is ↦ inl is | inr is ↦ inr (ap is_some (other at apart) ∙ is) ]
      ];
      wanted = λ k d low. absurd (omega (arith, low, ap (λ (l : List ℕ). length l) none));
    }

    pub let-in : LetIn page bytes old (record old { seen = next })
    let-in = record {
      this = this;
      others = λ at apart. elim (went at) [ inl same ↦ inl (other at apart ∙ same) | inr gone ↦ inr (other at apart ∙ gone.0, gone.1) ];
      marks = refl;
      stored = refl;
      wanted = refl;
    }

  -- what was taken where pages had gone was taken where they had not
  pub took-went : (content : ℕ → List ℕ) (first : ℕ) (pages : List ℕ) (new : PoolState) → TookUnits content first pages mid new → TookUnits content first pages old new
  took-went content first pages new took = record {
    count = took.count;
    kept = took.kept;
    stored = took.stored;
    were_stored = took.were_stored;
    not_stored = took.not_stored;
    wanted = took.wanted;
    were_free = took.were_free;
    held = took.held;
    once = took.once;
    fewer = took.fewer;
    rows = λ before shows. took.rows before (shows-kept old mid before keeps-went shows);
  }
