-- Versions of files while changes are committed.
use Rattle.std.proofs.Common.{◌≡◌, ℕ, ◌+◌, ◌==◌, not, true, List, [], ◌∷◌, refl, sym, ◌∙◌, ap, arith, inl, inr, ◌⊎◌}
use Rattle.std.proofs.lemmas.Bool.{cases_Bool, eqb-true, eqb-false, ltb-true, ltb-false, lt-ltb, and_parts, and_from}
use Rattle.std.specs.List.{list_all}
use Rattle.std.specs.Prelude.{nat_lt}
use Rattle.ktm_world.specs.declared.change.Change.{Change}
use Rattle.ktm_world.specs.declared.change.Change.TheVariants.{Make, Put, Cut, Move, Drop}
use Rattle.ktm_world.specs.Committed.{Version, version_of, raised_version, versions_after}
use Rattle.txf_laws.specs.SoundFiles.{files_rise}
use Rattle.txf_laws.specs.Elements.{IsIn, each_pair}
use Rattle.txf_laws.proofs.offered.Elements.{list_all-at, list_all-from}
use Rattle.txf_laws.proofs.offered.Elements.{each_pair-filter}
use Rattle.txf_laws.proofs.offered.Versions.{version_of-raised, rises-behind}

-- a version that was there, or one of the file
IsIn-raised : (vs : List Version) (n : ℕ) (v : Version) → IsIn v (raised_version vs n) → IsIn v vs ⊎ (v.file ≡ n)
IsIn-raised [] n v (inl e) = inr (ap (λ (u : Version). u.file) (sym e))
IsIn-raised [] n v (inr none) = absurd none
IsIn-raised (u ∷ us) n v there = elim (cases_Bool (u.file == n)) [
  | inl same ↦
      let there' : IsIn v (record u { count = u.count + 1 } ∷ us) = rw same at there in
      elim there' [ inl e ↦ inr (ap (λ (w : Version). w.file) (sym e) ∙ eqb-true _ _ same) | inr later ↦ inl (inr later) ]
  | inr other ↦ elim (cases_Bool (nat_lt n u.file)) [
    | inl before ↦
        let there' : IsIn v (record { file = n; count = 1 } ∷ u ∷ us) = rw (other, before) at there in
        elim there' [ inl e ↦ inr (ap (λ (w : Version). w.file) (sym e)) | inr later ↦ inl later ]
    | inr behind ↦
        let there' : IsIn v (u ∷ raised_version us n) = rw (other, behind) at there in
        elim there' [ inl e ↦ inl (inl e) | inr later ↦ elim (IsIn-raised us n v later) [ inl old ↦ inl (inr old) | inr new ↦ inr new ] ]
  ]
]

rises-raised : (vs : List Version) (n : ℕ) → each_pair files_rise vs ≡ true → each_pair files_rise (raised_version vs n) ≡ true
rises-raised [] n rises = refl
rises-raised (v ∷ vs) n rises =
    let parts = and_parts (list_all (files_rise v) vs) (each_pair files_rise vs) rises in
    elim (cases_Bool (v.file == n)) [
      | inl same ↦ rw same rises
      | inr other ↦ elim (cases_Bool (nat_lt n v.file)) [
        | inl before ↦ rw (other, before) (and_from _ _
            (and_from _ _ before (list_all-from (files_rise (record { file = n; count = 1 })) vs (λ u there. lt-ltb n u.file (omega (arith, ltb-true n v.file before, rises-behind v vs rises u there)))))
            rises)
        | inr behind ↦ rw (other, behind) (and_from _ _
            (list_all-from (files_rise v) (raised_version vs n) (λ u there. elim (IsIn-raised vs n u there) [
              | inl old ↦ list_all-at (files_rise v) vs parts.0 u old
              | inr is ↦ lt-ltb v.file u.file (omega (arith, is, ltb-false n v.file behind, eqb-false v.file n other))
            ]))
            (rises-raised vs n parts.1))
      ]
    ]

-- twice, at once
pub version_of-twice : (vs : List Version) (n : ℕ) → each_pair files_rise vs ≡ true → version_of (raised_version (raised_version vs n) n) n ≡ version_of vs n + 2
version_of-twice vs n rises = version_of-raised (raised_version vs n) n (rises-raised vs n rises) ∙ (let once = version_of-raised vs n rises in omega arith)

-- versions rise by their files also behind a change
pub rises-after : (vs : List Version) (c : Change) → each_pair files_rise vs ≡ true → each_pair files_rise (versions_after vs c) ≡ true
rises-after vs (Make node parent kind name) rises = rises
rises-after vs (Put node offset contents) rises = rises-raised vs node rises
rises-after vs (Cut node size pages) rises = rises-raised vs node rises
rises-after vs (Move node parent name) rises = rises
rises-after vs (Drop node) rises = each_pair-filter files_rise (λ (v : Version). not (v.file == node)) vs rises
