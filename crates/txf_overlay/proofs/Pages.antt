-- The pages that the bytes of files lie on.
use Rattle.std.proofs.Common.{◌≡◌, ℕ, ◌+◌, ◌*◌, ◌<◌, ◌^◌, ◌==◌, not, List, [], ◌∷◌, length, get_or, refl, ◌∙◌, ap, subst, arith, inl, inr}
use Rattle.std.specs.Prelude.{All, nat_lt}
use Rattle.std.proofs.lemmas.Bool.{cases_Bool}
use Rattle.std.proofs.lemmas.List.Elements.{All-cons, All-filter, All-head, All-nil, All-tail}
use Rattle.std.proofs.lemmas.List.FromFn.{fill_by_all}
use Rattle.ktm_content.specs.Places.{LieOn}
use Rattle.ktm_content.proofs.offered.Bytes.{place-lie}
use Rattle.ktm_world.specs.Tree.{units_of}
use Rattle.txf_overlay.specs.OverlayState.{Written}
use Rattle.txf_overlay.specs.Pages.{LieOnPages, page_in, pages_in}
use Rattle.txf_overlay.specs.Written.{file_of, with_bytes, without_file}

-- ---- contents

page-at : (pages contents : List ℕ) → LieOn pages contents → (unit : ℕ) → unit < units_of contents → get_or pages unit 0 ≡ page_in contents unit
page-at pages contents lie unit low =
    let there : unit * 4096 + 0 < length contents = omega (arith, low) in
    let place = place-lie pages contents unit 0 lie (omega arith) there in
    let same : get_or contents (unit * 4096) 0 ≡ get_or pages unit 0 * 4096 + 1 = ap (λ k. get_or contents k 0) (omega arith) ∙ place ∙ omega arith in
    omega (arith, same)

-- the pages that contents lie on are their pages
pub pages-lie : (pages contents : List ℕ) → LieOn pages contents → pages ≡ pages_in contents
pages-lie pages contents lie = fill_by_all (page_in contents) pages (units_of contents) 0 lie.units (page-at pages contents lie)

-- contents that lie on numbers of pages lie on their pages
pub lie-pages : (pages contents : List ℕ) → LieOn pages contents → All (λ page. page < 2 ^ 32) pages → LieOnPages contents
lie-pages pages contents lie fit =
    let same = pages-lie pages contents lie in
    record { lie = subst (λ (l : List ℕ). LieOn l contents) same lie; fit = subst (All (λ (page : ℕ). page < 2 ^ 32)) same fit }

pub lie-none : LieOnPages []
lie-none = record { lie = record { units = refl; places = refl }; fit = All-nil (λ (page : ℕ). page < 2 ^ 32) }

-- ---- files

abbrev Lies : Written → Type 0
Lies w = LieOnPages w.bytes

pub lie-with : (ws : List Written) (file : ℕ) (bytes : List ℕ) → All Lies ws → LieOnPages bytes → All Lies (with_bytes ws file bytes)
lie-with [] file bytes all lie = All-cons Lies (file_of file bytes) [] lie (All-nil Lies)
lie-with (w ∷ ws) file bytes all lie =
    let first = All-head Lies w ws all in
    let rest = All-tail Lies w ws all in
    elim (cases_Bool (w.file == file)) [
      | inl this ↦ rw this (All-cons Lies (file_of file bytes) ws lie rest)
      | inr other ↦ rw other (elim (cases_Bool (nat_lt file w.file)) [
        | inl before ↦ rw before (All-cons Lies (file_of file bytes) (w ∷ ws) lie all)
        | inr behind ↦ rw behind (All-cons Lies w (with_bytes ws file bytes) first (lie-with ws file bytes rest lie))
      ])
    ]

pub lie-without : (ws : List Written) (file : ℕ) → All Lies ws → All Lies (without_file ws file)
lie-without ws file all = All-filter (λ (w : Written). not (w.file == file)) Lies ws all
