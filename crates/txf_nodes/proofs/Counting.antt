-- Lemmas on how often the bytes of files were changed.
use Rattle.std.proofs.Common.{◌≡◌, ℕ, ◌≤◌, false, eqb, List, [], ◌∷◌, Option, Some, None, refl, ◌∙◌, inl, inr, arith}
use Rattle.std.proofs.lemmas.Bool.{cases_Bool, cases_lt, eqb-true, ne_eqb, lt-ltb, le-ltb}
use Rattle.ktm_world.specs.Committed.{version_of}
use Rattle.txf_nodes.specs.Indexes.{AreAbove, AreRising}
use Rattle.txf_nodes.specs.NodesState.{NodeOf, now_at, versions_in}

module _ {V : Type 0} where
  -- the version of a node; 0 where there is none
  abbrev pub version_in : Option (NodeOf V) → ℕ
  version_in None = 0
  version_in (Some n) = n.version

  -- no node above a number has it
  version_of-above : (nodes : List (NodeOf V)) (m n : ℕ) → AreAbove m nodes → n ≤ m → version_of (versions_in nodes) n ≡ 0
  version_of-above [] m n above le = refl
  version_of-above (x ∷ xs) m n above le =
      let other : eqb x.number n ≡ false = ne_eqb x.number n (λ same. absurd (omega (arith, above.0))) in
      elim (cases_lt 0 x.version) [
        | inl changed ↦ rw (lt-ltb 0 x.version changed, other) (version_of-above xs m n above.1 le)
        | inr none ↦ rw (le-ltb 0 x.version none) (version_of-above xs m n above.1 le)
      ]

  -- the version of a file is that of its node
  pub version_of-now : (nodes : List (NodeOf V)) (n : ℕ) → AreRising nodes → version_of (versions_in nodes) n ≡ version_in (now_at nodes n)
  version_of-now [] n rising = refl
  version_of-now (x ∷ xs) n rising =
      elim (cases_Bool (eqb x.number n)) [
        | inl same ↦
            elim (cases_lt 0 x.version) [
              | inl changed ↦ rw (lt-ltb 0 x.version changed, same) refl
              | inr none ↦
                  let zero : 0 ≡ x.version = omega arith in
                  let le : n ≤ x.number = let is = eqb-true x.number n same in omega arith in
                  rw (le-ltb 0 x.version none, same) (version_of-above xs x.number n rising.0 le ∙ zero)
            ]
        | inr other ↦
            elim (cases_lt 0 x.version) [
              | inl changed ↦ rw (lt-ltb 0 x.version changed, other) (version_of-now xs n rising.1)
              | inr none ↦ rw (le-ltb 0 x.version none, other) (version_of-now xs n rising.1)
            ]
      ]
