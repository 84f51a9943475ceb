-- The changes that give a file its bytes.
use Rattle.std.proofs.Common.{◌≡◌, ◌≢◌, ◌+◌, ◌≤◌, ℕ, zero, suc, List, [], ◌∷◌, sum_by, refl, arith}
use Rattle.std.specs.List.{All}
use Rattle.ktm_base.specs.Grammar.{IsRow}
use Rattle.ktm_codec.specs.Spans.{Adds}
use Rattle.ktm_world.specs.declared.change.Change.TheVariants.{Put, Cut}
use Rattle.ktm_world.specs.declared.change.Contents.TheVariants.{Paged}
use Rattle.ktm_world.specs.EventGrammar.{IsChangeOf}
use Rattle.ktm_world.specs.Sizes.{change_size, pages_size}
use Rattle.ktm_event.specs.Spelling.{IsSpellableChange, IsSpellableContents}
use Rattle.ktm_event.specs.Work.{pages_changes}
use Rattle.ktm_event.proofs.Rows.{adds_one, adds_row}

module _ (file : ℕ) where
  pub adds_pages : (len : ℕ) (pages : List ℕ) {a b c : List ℕ} → len ≢ 0 → Adds (IsChangeOf (Cut file 0 [])) a b → Adds (IsChangeOf (Put file 0 (Paged len pages))) b c
      → Adds (IsRow IsChangeOf (pages_changes file len pages)) a c
  adds_pages zero pages some cut put = absurd (some refl)
  adds_pages (suc n) pages some cut put =
      let last = Put file 0 (Paged (suc n) pages) in
      adds_row IsChangeOf (Cut file 0 [] ∷ []) (last ∷ []) (adds_one IsChangeOf (Cut file 0 []) cut) (adds_one IsChangeOf last put)

  pub adds_cut : (len : ℕ) (pages : List ℕ) {a b : List ℕ} → len ≡ 0 → Adds (IsChangeOf (Cut file 0 [])) a b → Adds (IsRow IsChangeOf (pages_changes file len pages)) a b
  adds_cut zero pages none cut = adds_one IsChangeOf (Cut file 0 []) cut
  adds_cut (suc n) pages none cut = absurd (omega (arith, none))

  -- how many bytes these changes take
  pub size_least : (len : ℕ) (pages : List ℕ) → 21 ≤ sum_by change_size (pages_changes file len pages)
  size_least zero pages = omega arith
  size_least (suc n) pages = omega arith

  pub size_pages : (len : ℕ) (pages : List ℕ) → len ≢ 0 → sum_by change_size (pages_changes file len pages) ≡ 42 + pages_size pages
  size_pages zero pages some = absurd (some refl)
  size_pages (suc n) pages some = omega arith

  pub size_cut : (len : ℕ) (pages : List ℕ) → len ≡ 0 → sum_by change_size (pages_changes file len pages) ≡ 21
  size_cut zero pages none = omega arith
  size_cut (suc n) pages none = absurd (omega (arith, none))

  pub spellable_pages : (len : ℕ) (pages : List ℕ) → len ≢ 0 → All IsSpellableChange (pages_changes file len pages) → IsSpellableContents (Paged len pages)
  spellable_pages zero pages some all = absurd (some refl)
  spellable_pages (suc n) pages some all = all 1 (Cut file 0 []) (omega arith)
