-- What a contract sees of a content, and its pages.
use Rattle.std.proofs.Common.{◌≡◌, ◌==◌, ℕ, ◌+◌, ◌/◌, ◌∙◌, true, List, [], ◌∷◌, ap, arith, length, refl, sym}
use Rattle.std.proofs.lemmas.Bool.{eq-eqb, eqb-true}
use Rattle.ktm_content.specs.Places.{ContentState, places_on}
use Rattle.ktm_content.proofs.offered.Placing.{length-places_on}

-- how many bytes there are
pub size-lent : (bytes pages : List ℕ) (size : ℕ) → places_on pages size ≡ bytes → length pages ≡ (size + 4095) / 4096 → size ≡ length bytes
size-lent bytes pages size is units = sym (length-places_on pages size (omega (arith, units))) ∙ ap length is

pub size-of : (shown state : ContentState) (pages : List ℕ) (size : ℕ) → shown ≡ state → shown.bytes ≡ places_on pages size → length pages ≡ (size + 4095) / 4096 → size ≡ length state.bytes
size-of shown state pages size is bytes units = size-lent state.bytes pages size (sym bytes ∙ ap (λ (s : ContentState). s.bytes) is) units

-- there are none where their number is 0
pub none-are : (bytes : List ℕ) (size : ℕ) → size ≡ length bytes → ((size == 0) ≡ true → bytes ≡ []) × (bytes ≡ [] → (size == 0) ≡ true)
none-are [] size is = (λ zero. refl, λ none. eq-eqb size 0 is)
none-are (byte ∷ bytes) size is = (λ zero. absurd (let no = eqb-true size 0 zero in omega (arith, no, is)), λ none. absurd (cc))
