-- Lists that are read and pass a test.
use Rattle.std.proofs.Common.{◌≡◌, ℕ, Bool, true, None, List}
use Rattle.ktm_codec.specs.Spans.{Reads, Spans}
use Rattle.ktm_codec.proofs.SpansLemmas.{Spans-map}
use Rattle.ktm_snapshot.specs.StateGrammar.{IsRisingListOf}

module _ {X : Type 0} (rises good : List X → Bool) (Item : X → List ℕ → Type 0) (bytes : List ℕ) (at : ℕ) where
  -- where no list that passes stands, none that stands there passes
  pub none_good : Reads (IsRisingListOf good Item) bytes at None → (xs : List X) (end : ℕ) → Spans (IsRisingListOf rises Item xs) bytes at end → good xs ≡ true → ⊥
  none_good none xs end spans is = none xs end (Spans-map (λ part listed. record { rising = is; listed = listed.listed }) spans)

  -- a list that passes, and so rises
  pub some_good : (xs : List X) (end : ℕ) → Spans (IsRisingListOf good Item xs) bytes at end → rises xs ≡ true → Spans (IsRisingListOf rises Item xs) bytes at end × (good xs ≡ true)
  some_good xs end spans rise = (Spans-map (λ part listed. record { rising = rise; listed = listed.listed }) spans, spans.form.rising)
