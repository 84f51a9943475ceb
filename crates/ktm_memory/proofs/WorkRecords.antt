-- The changes of a transaction, as they are recorded with the pages of the files that it wrote.
use Rattle.std.proofs.Common.{◌≡◌, ℕ, zero, suc, ◌<◌, ◌≤◌, not, true, List, [], ◌∷◌, filter, length, map, All, refl, sym, ◌∙◌, ap, ap₂, subst, arith, inl, inr}
use Rattle.std.specs.List.{flat_map, list_all}
use Rattle.std.specs.Prelude.{◌^◌}
use Rattle.std.proofs.lemmas.Bool.{and_from, cases_Bool, ne_eqb}
use Rattle.std.proofs.lemmas.List.Elements.{All-append, All-cons, All-head, All-nil, All-tail}
use Rattle.ktm_event.specs.OnPages.{AreEach, IsRecordedChange}
use Rattle.ktm_event.specs.Spelling.{IsRecordableChange, IsSpellableChange}
use Rattle.ktm_event.specs.Work.{FinalFile, changes_of as recorded_changes, changes_of_file, pages_changes}
use Rattle.ktm_paged.specs.Meaning.{has_work_pages, meant}
use Rattle.ktm_paged.proofs.offered.Meanings.{put-meant}
use Rattle.ktm_world.specs.declared.change.Change.{Change}
use Rattle.ktm_world.specs.declared.change.Change.TheVariants.{Make, Put, Cut, Move, Drop}
use Rattle.ktm_world.specs.declared.change.Contents.TheVariants.{Whole, Paged}
use Rattle.txf_laws.specs.Contents.{puts_some}
use Rattle.txf_overlay.specs.OverlayState.{is_of_names}

-- ---- the form in which changes are recorded

-- a change of names, a cut to nothing, or a put of some bytes from the start on
abbrev pub IsFinal : Change → Type 0
IsFinal (Put node offset (Whole bytes)) = ⊥
IsFinal (Put node offset (Paged len pages)) = (offset ≡ 0) × (1 ≤ len)
IsFinal (Cut node size pages) = (size ≡ 0) × (pages ≡ [])
IsFinal _ = Unit {0}

name-final : (c : Change) → is_of_names c ≡ true → IsFinal c × IsRecordableChange c
name-final (Make node parent kind name) is = (tt, tt)
name-final (Put node offset contents) is = absurd (cc)
name-final (Cut node size pages) is = absurd (cc)
name-final (Move node parent name) is = (tt, tt)
name-final (Drop node) is = (tt, tt)

names-final : (cs : List Change) → All IsFinal (filter is_of_names cs) × All IsRecordableChange (filter is_of_names cs)
names-final [] = (All-nil IsFinal, All-nil IsRecordableChange)
names-final (c ∷ cs) =
    let rest = names-final cs in
    elim (cases_Bool (is_of_names c)) [
      | inl name ↦ (let here = name-final c name in rw name (All-cons IsFinal c (filter is_of_names cs) here.0 rest.0, All-cons IsRecordableChange c (filter is_of_names cs) here.1 rest.1))
      | inr other ↦ rw other rest
    ]

-- what was changed of names puts nothing
pub names-recordable : (cs : List Change) → All IsRecordableChange (filter is_of_names cs)
names-recordable cs = (names-final cs).1

file-final : (file len : ℕ) (pages : List ℕ) → All IsFinal (pages_changes file len pages)
file-final file zero pages = All-cons IsFinal (Cut file 0 []) [] (refl, refl) (All-nil IsFinal)
file-final file (suc n) pages =
    All-cons IsFinal (Cut file 0 []) (Put file 0 (Paged (suc n) pages) ∷ []) (refl, refl)
    (All-cons IsFinal (Put file 0 (Paged (suc n) pages)) [] (refl, omega arith) (All-nil IsFinal))

files-final : (files : List FinalFile) → All IsFinal (flat_map changes_of_file files)
files-final [] = All-nil IsFinal
files-final (f ∷ fs) = All-append IsFinal (changes_of_file f) (flat_map changes_of_file fs) (file-final f.file f.len f.pages) (files-final fs)

pub recorded-final : (cs : List Change) (files : List FinalFile) → All IsFinal (recorded_changes (filter is_of_names cs) files)
recorded-final cs files = All-append IsFinal (filter is_of_names cs) (flat_map changes_of_file files) (names-final cs).0 (files-final files)

-- ---- what is recorded means what was changed

-- a change means another one, has its pages, and puts some
pub record MeansIt (change recorded : Change) : Type 0 where
  pub means : meant 0 recorded ≡ change
  pub paged : has_work_pages recorded ≡ true
  pub some : puts_some recorded ≡ true

put-means : (node node' offset' len : ℕ) (contents pages : List ℕ) → (r : IsRecordedChange (Put node offset' (Whole contents)) (Put node' 0 (Paged len pages))) → offset' ≡ 0 → 1 ≤ len → length contents < 2 ^ 32 → MeansIt (Put node offset' (Whole contents)) (Put node' 0 (Paged len pages))
put-means node node' offset' len contents pages r first some few =
    let on = r.2 in
    let whole = put-meant 0 node' 0 len contents pages on.lie (omega (arith, on.long, few)) (omega (arith, on.long)) in
    record {
      means = whole.1 ∙ ap₂ (λ (n o : ℕ). Put n o (Whole contents)) r.0 (sym first);
      paged = whole.0;
      some = ap not (ne_eqb len 0 (λ none. omega (arith, none, some)));
    }

one-means : (c recorded : Change) → IsRecordedChange c recorded → IsFinal recorded → IsSpellableChange c → MeansIt c recorded
one-means (Put node offset (Whole contents)) (Put node' offset' (Paged len pages)) r final spelled =
    subst (λ (n : ℕ). MeansIt (Put node offset (Whole contents)) (Put node' n (Paged len pages))) (sym final.0)
    (put-means node node' offset len contents pages (r.0, sym (sym r.1 ∙ final.0), r.2) (sym r.1 ∙ final.0) final.1 spelled.1)
one-means (Put node offset (Whole contents)) (Put node' offset' (Whole others)) r final spelled = absurd r.2
one-means (Put node offset (Paged len pages)) (Put node' offset' contents) r final spelled = absurd r.2
one-means (Put node offset contents) (Make node' parent kind name) r final spelled = absurd r
one-means (Put node offset contents) (Cut node' size pages) r final spelled = absurd r
one-means (Put node offset contents) (Move node' parent name) r final spelled = absurd r
one-means (Put node offset contents) (Drop node') r final spelled = absurd r
one-means (Make node parent kind name) recorded r final spelled = subst (MeansIt (Make node parent kind name)) (sym r) (record { means = refl; paged = refl; some = refl })
one-means (Cut node size pages) recorded r final spelled =
    let is = subst IsFinal r final in
    subst (MeansIt (Cut node size pages)) (sym r) (subst (λ (n : ℕ). MeansIt (Cut node n pages) (Cut node n pages)) (sym is.0) (subst (λ (ps : List ℕ). MeansIt (Cut node 0 ps) (Cut node 0 ps)) (sym is.1) (record { means = refl; paged = refl; some = refl })))
one-means (Move node parent name) recorded r final spelled = subst (MeansIt (Move node parent name)) (sym r) (record { means = refl; paged = refl; some = refl })
one-means (Drop node) recorded r final spelled = subst (MeansIt (Drop node)) (sym r) (record { means = refl; paged = refl; some = refl })

-- changes mean others, have their pages, and put some
pub record AllMean (changes recorded : List Change) : Type 0 where
  pub means : map (meant 0) recorded ≡ changes
  pub paged : list_all has_work_pages recorded ≡ true
  pub some : list_all puts_some recorded ≡ true

pub all-mean : (cs recorded : List Change) → AreEach IsRecordedChange cs recorded → All IsFinal recorded → All IsSpellableChange cs → AllMean cs recorded
all-mean [] [] are final spelled = record { means = refl; paged = refl; some = refl }
all-mean (c ∷ cs) (r ∷ rs) are final spelled =
    let here = one-means c r are.0 (All-head IsFinal r rs final) (All-head IsSpellableChange c cs spelled) in
    let rest = all-mean cs rs are.1 (All-tail IsFinal r rs final) (All-tail IsSpellableChange c cs spelled) in
    record {
      means = ap₂ (λ (d : Change) (ds : List Change). d ∷ ds) here.means rest.means;
      paged = and_from _ _ here.paged rest.paged;
      some = and_from _ _ here.some rest.some;
    }
all-mean [] (r ∷ rs) are final spelled = absurd are
all-mean (c ∷ cs) [] are final spelled = absurd are
