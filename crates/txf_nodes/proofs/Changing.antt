-- Lemmas on nodes of which one comes, goes or changes.
use Rattle.std.proofs.Common.{◌≡◌, ℕ, ◌+◌, ◌<◌, ◌≤◌, true, false, eqb, cond, nat_lt, List, [], ◌∷◌, Some, None, refl, sym, ap, ap₂, ◌∙◌, inl, inr, arith, if◌then◌else◌}
use Rattle.std.proofs.lemmas.Bool.{cases_Bool, cases_lt, eqb-true, eqb-false, eq-eqb, ne_eqb, lt-ltb, le-ltb}
use Rattle.std.proofs.lemmas.Option.{same_Some}
use Rattle.ktm_world.specs.declared.recorded.Node.{Node}
use Rattle.ktm_world.specs.Committed.{Version, raised_version, without_version}
use Rattle.ktm_world.specs.Tree.{with_changed, with_node, without_node}
use Rattle.txf_nodes.specs.Indexes.{AreAbove, AreRising, replaced, with_now, without_now}
use Rattle.txf_nodes.specs.NodesState.{NodeOf, node_by, now_at, tree_in, versions_in}

-- a node's version, where it has one, and then the rest
version_before : ℕ → ℕ → List Version → List Version
version_before count file rest = if nat_lt 0 count then record { file = file; count = count } ∷ rest else rest

version_cons : (a b c d : ℕ) (vs ws : List Version) → a ≡ b → c ≡ d → vs ≡ ws
    → ◌≡◌ {A = List Version} (record { file = a; count = c } ∷ vs) (record { file = b; count = d } ∷ ws)
version_cons a b c d vs ws file count rest = rw (file, count, rest) refl

module _ {V : Type 0} where
  -- ---- numbers that rise
  above_found : (nodes : List (NodeOf V)) (m n : ℕ) (s : NodeOf V) → AreAbove m nodes → now_at nodes n ≡ Some s → m < n
  above_found [] m n s above found = absurd (cc)
  above_found (x ∷ xs) m n s above found =
      elim (cases_Bool (eqb x.number n)) [
        | inl same ↦ let is = eqb-true x.number n same in omega (arith, above.0)
        | inr differs ↦ above_found xs m n s above.1 (rw differs at found)
      ]

  apart : (x : NodeOf V) (m n : ℕ) → m < x.number → n ≤ m → eqb x.number n ≡ false
  apart x m n above le = ne_eqb x.number n (λ same. absurd (omega arith))

  -- ---- another node
  pub now_at-replaced_same : (nodes : List (NodeOf V)) (n : ℕ) (s x : NodeOf V) → now_at nodes n ≡ Some s → x.number ≡ n → now_at (replaced nodes n x) n ≡ Some x
  now_at-replaced_same [] n s x found number = absurd (cc)
  now_at-replaced_same (y ∷ ys) n s x found number =
      elim (cases_Bool (eqb y.number n)) [
        | inl same ↦ rw (same, eq-eqb x.number n number) refl
        | inr differs ↦ rw (differs, differs) (now_at-replaced_same ys n s x (rw differs at found) number)
      ]

  pub now_at-replaced_other : (nodes : List (NodeOf V)) (n m : ℕ) (x : NodeOf V) → (m ≡ n → ⊥) → x.number ≡ n → now_at (replaced nodes n x) m ≡ now_at nodes m
  now_at-replaced_other [] n m x other number = refl
  now_at-replaced_other (y ∷ ys) n m x other number =
      elim (cases_Bool (eqb y.number n)) [
        | inl same ↦
            let x_other : eqb x.number m ≡ false = ne_eqb x.number m (λ is. other (sym is ∙ number)) in
            let y_other : eqb y.number m ≡ false = ne_eqb y.number m (λ is. other (sym is ∙ eqb-true y.number n same)) in
            rw (same, x_other, y_other) (now_at-replaced_other ys n m x other number)
        | inr differs ↦ rw differs (ap (λ o. cond (eqb y.number m) (Some y) o) (now_at-replaced_other ys n m x other number))
      ]

  pub replaced-replaced : (nodes : List (NodeOf V)) (n : ℕ) (h x : NodeOf V) → h.number ≡ n → replaced (replaced nodes n h) n x ≡ replaced nodes n x
  replaced-replaced [] n h x number = refl
  replaced-replaced (y ∷ ys) n h x number =
      elim (cases_Bool (eqb y.number n)) [
        | inl same ↦ rw (same, eq-eqb h.number n number) (ap (λ l. x ∷ l) (replaced-replaced ys n h x number))
        | inr differs ↦ rw (differs, differs) (ap (λ l. y ∷ l) (replaced-replaced ys n h x number))
      ]

  AreAbove-replaced : (nodes : List (NodeOf V)) (m n : ℕ) (x : NodeOf V) → AreAbove m nodes → x.number ≡ n → AreAbove m (replaced nodes n x)
  AreAbove-replaced [] m n x above number = tt
  AreAbove-replaced (y ∷ ys) m n x above number =
      elim (cases_Bool (eqb y.number n)) [
        | inl same ↦ rw same ((let is = eqb-true y.number n same in omega (arith, above.0)), AreAbove-replaced ys m n x above.1 number)
        | inr differs ↦ rw differs ((above.0, AreAbove-replaced ys m n x above.1 number))
      ]

  pub AreRising-replaced : (nodes : List (NodeOf V)) (n : ℕ) (x : NodeOf V) → AreRising nodes → x.number ≡ n → AreRising (replaced nodes n x)
  AreRising-replaced [] n x rising number = tt
  AreRising-replaced (y ∷ ys) n x rising number =
      elim (cases_Bool (eqb y.number n)) [
        | inl same ↦
            let above : AreAbove x.number ys = rw (number ∙ sym (eqb-true y.number n same)) rising.0 in
            rw same ((AreAbove-replaced ys x.number n x above number, AreRising-replaced ys n x rising.1 number))
        | inr differs ↦ rw differs ((AreAbove-replaced ys y.number n x rising.0 number, AreRising-replaced ys n x rising.1 number))
      ]

  replaced-above : (nodes : List (NodeOf V)) (m n : ℕ) (x : NodeOf V) → AreAbove m nodes → n ≤ m → replaced nodes n x ≡ nodes
  replaced-above [] m n x above le = refl
  replaced-above (y ∷ ys) m n x above le = rw (apart y m n above.0 le) (ap (λ l. y ∷ l) (replaced-above ys m n x above.1 le))

  with_changed-above : (bytes : V → List ℕ) (nodes : List (NodeOf V)) (m n : ℕ) (f : Node → Node) → AreAbove m nodes → n ≤ m → with_changed (tree_in bytes nodes) n f ≡ tree_in bytes nodes
  with_changed-above bytes [] m n f above le = refl
  with_changed-above bytes (y ∷ ys) m n f above le = rw (apart y m n above.0 le) (ap (λ l. node_by bytes y ∷ l) (with_changed-above bytes ys m n f above.1 le))

  pub tree_in-replaced : (bytes : V → List ℕ) (nodes : List (NodeOf V)) (n : ℕ) (s x : NodeOf V) (f : Node → Node) → AreRising nodes → now_at nodes n ≡ Some s → node_by bytes x ≡ f (node_by bytes s)
      → tree_in bytes (replaced nodes n x) ≡ with_changed (tree_in bytes nodes) n f
  tree_in-replaced bytes [] n s x f rising found is = absurd (cc)
  tree_in-replaced bytes (y ∷ ys) n s x f rising found is =
      elim (cases_Bool (eqb y.number n)) [
        | inl same ↦
            let one : y ≡ s = same_Some y s (rw same at found) in
            let node : node_by bytes x ≡ f (node_by bytes y) = is ∙ ap (λ (s : NodeOf V). f (node_by bytes s)) (sym one) in
            let le : n ≤ y.number = let number = eqb-true y.number n same in omega arith in
            rw same
            (ap₂ (λ node nodes. node ∷ nodes) node
            (ap (tree_in bytes) (replaced-above ys y.number n x rising.0 le) ∙ sym (with_changed-above bytes ys y.number n f rising.0 le)))
        | inr differs ↦ rw differs (ap (λ l. node_by bytes y ∷ l) (tree_in-replaced bytes ys n s x f rising.1 (rw differs at found) is))
      ]

  pub versions_in-replaced : (nodes : List (NodeOf V)) (n : ℕ) (s x : NodeOf V) → AreRising nodes → now_at nodes n ≡ Some s → x.number ≡ n → x.version ≡ s.version
      → versions_in (replaced nodes n x) ≡ versions_in nodes
  unfolding version_before
  versions_in-replaced [] n s x rising found number is = absurd (cc)
  versions_in-replaced (y ∷ ys) n s x rising found number is =
      elim (cases_Bool (eqb y.number n)) [
        | inl same ↦
            let one : y ≡ s = same_Some y s (rw same at found) in
            let file : x.number ≡ y.number = number ∙ sym (eqb-true y.number n same) in
            let count : x.version ≡ y.version = is ∙ ap (λ (s : NodeOf V). s.version) (sym one) in
            let le : n ≤ y.number = let eq = eqb-true y.number n same in omega arith in
            rw same
            (ap (λ l. version_before x.version x.number (versions_in l)) (replaced-above ys y.number n x rising.0 le)
            ∙ ap₂ (λ count file. version_before count file (versions_in ys)) count file)
        | inr differs ↦ rw differs (ap (version_before y.version y.number) (versions_in-replaced ys n s x rising.1 (rw differs at found) number is))
      ]

  raised-above : (nodes : List (NodeOf V)) (m n : ℕ) → AreAbove m nodes → n ≤ m → raised_version (versions_in nodes) n ≡ record { file = n; count = 1 } ∷ versions_in nodes
  raised-above [] m n above le = refl
  raised-above (y ∷ ys) m n above le =
      elim (cases_lt 0 y.version) [
        | inl changed ↦
            let less : n < y.number = omega (arith, above.0) in
            rw (lt-ltb 0 y.version changed, apart y m n above.0 le, lt-ltb n y.number less) refl
        | inr none ↦ rw (le-ltb 0 y.version none) (raised-above ys m n above.1 le)
      ]

  pub versions_in-raised : (nodes : List (NodeOf V)) (n : ℕ) (s x : NodeOf V) → AreRising nodes → now_at nodes n ≡ Some s → x.number ≡ n → x.version ≡ s.version + 1
      → versions_in (replaced nodes n x) ≡ raised_version (versions_in nodes) n
  unfolding version_before
  versions_in-raised [] n s x rising found number is = absurd (cc)
  versions_in-raised (y ∷ ys) n s x rising found number is =
      elim (cases_Bool (eqb y.number n)) [
        | inl same ↦
            let one : y ≡ s = same_Some y s (rw same at found) in
            let count : x.version ≡ y.version + 1 = is ∙ ap (λ (s : NodeOf V). s.version + 1) (sym one) in
            let eq : y.number ≡ n = eqb-true y.number n same in
            let le : n ≤ y.number = omega arith in
            let some : nat_lt 0 x.version ≡ true = lt-ltb 0 x.version (omega arith) in
            let rest = replaced-above ys y.number n x rising.0 le in
            elim (cases_lt 0 y.version) [
              | inl changed ↦
                  rw (same, some, lt-ltb 0 y.version changed, same)
                  (version_cons x.number y.number x.version (y.version + 1) _ _ (number ∙ sym eq) count (ap versions_in rest))
              | inr none ↦
                  let first : x.version ≡ 1 = omega arith in
                  rw (same, some, le-ltb 0 y.version none)
                  (version_cons x.number n x.version 1 _ _ number first (ap versions_in rest)
                  ∙ sym (raised-above ys y.number n rising.0 le))
            ]
        | inr differs ↦
            let rest = versions_in-raised ys n s x rising.1 (rw differs at found) number is in
            let less = above_found ys y.number n s rising.0 (rw differs at found) in
            elim (cases_lt 0 y.version) [
              | inl changed ↦
                  rw (differs, lt-ltb 0 y.version changed, differs, le-ltb n y.number (omega arith))
                  (ap (λ vs. record { file = y.number; count = y.version } ∷ vs) rest)
              | inr none ↦ rw (differs, le-ltb 0 y.version none) rest
            ]
      ]

  -- a node without a version in place of another
  pub versions_in-forgotten : (nodes : List (NodeOf V)) (n : ℕ) (x : NodeOf V) → x.version ≡ 0 → versions_in (replaced nodes n x) ≡ without_version (versions_in nodes) n
  unfolding version_before
  versions_in-forgotten [] n x none = refl
  versions_in-forgotten (y ∷ ys) n x none =
      let rest = versions_in-forgotten ys n x none in
      elim (cases_Bool (eqb y.number n)) [
        | inl same ↦
            elim (cases_lt 0 y.version) [
              | inl changed ↦ rw (same, none, lt-ltb 0 y.version changed, same) rest
              | inr never ↦ rw (same, none, le-ltb 0 y.version never) rest
            ]
        | inr differs ↦
            elim (cases_lt 0 y.version) [
              | inl changed ↦ rw (differs, lt-ltb 0 y.version changed, differs) (ap (λ vs. record { file = y.number; count = y.version } ∷ vs) rest)
              | inr never ↦ rw (differs, le-ltb 0 y.version never) rest
            ]
      ]

  -- ---- one node more
  pub tree_in-with : (bytes : V → List ℕ) (nodes : List (NodeOf V)) (x : NodeOf V) → tree_in bytes (with_now nodes x) ≡ with_node (tree_in bytes nodes) (node_by bytes x)
  tree_in-with bytes [] x = refl
  tree_in-with bytes (y ∷ ys) x =
      elim (cases_Bool (nat_lt x.number y.number)) [ inl less ↦ rw less refl | inr more ↦ rw more (ap (λ l. node_by bytes y ∷ l) (tree_in-with bytes ys x)) ]

  pub versions_in-with : (nodes : List (NodeOf V)) (x : NodeOf V) → x.version ≡ 0 → versions_in (with_now nodes x) ≡ versions_in nodes
  unfolding version_before
  versions_in-with [] x none = rw none refl
  versions_in-with (y ∷ ys) x none =
      elim (cases_Bool (nat_lt x.number y.number)) [
        | inl less ↦ rw (less, none) refl
        | inr more ↦ rw more (ap (version_before y.version y.number) (versions_in-with ys x none))
      ]

  AreAbove-with : (nodes : List (NodeOf V)) (m : ℕ) (x : NodeOf V) → AreAbove m nodes → m < x.number → AreAbove m (with_now nodes x)
  AreAbove-with [] m x above less = (less, tt)
  AreAbove-with (y ∷ ys) m x above less =
      elim (cases_Bool (nat_lt x.number y.number)) [
        | inl first ↦ rw first ((less, above))
        | inr later ↦ rw later ((above.0, AreAbove-with ys m x above.1 less))
      ]

  AreAbove-lower : (nodes : List (NodeOf V)) (m n : ℕ) → AreAbove n nodes → m < n → AreAbove m nodes
  AreAbove-lower [] m n above less = tt
  AreAbove-lower (y ∷ ys) m n above less = (omega (arith, above.0), AreAbove-lower ys m n above.1 less)

  pub AreRising-with : (nodes : List (NodeOf V)) (x : NodeOf V) → AreRising nodes → now_at nodes x.number ≡ None → AreRising (with_now nodes x)
  AreRising-with [] x rising free = (tt, tt)
  AreRising-with (y ∷ ys) x rising free =
      elim (cases_lt x.number y.number) [
        | inl less ↦ rw (lt-ltb x.number y.number less) (((less, AreAbove-lower ys x.number y.number rising.0 less), rising))
        | inr more ↦
            elim (cases_Bool (eqb y.number x.number)) [
              | inl same ↦ absurd (let some = rw same at free in cc)
              | inr differs ↦
                  let above : y.number < x.number = let other = eqb-false y.number x.number differs in omega arith in
                  rw (le-ltb x.number y.number more)
                  ((AreAbove-with ys y.number x rising.0 above, AreRising-with ys x rising.1 (rw differs at free)))
            ]
      ]

  pub now_at-with_same : (nodes : List (NodeOf V)) (x : NodeOf V) → now_at nodes x.number ≡ None → now_at (with_now nodes x) x.number ≡ Some x
  now_at-with_same [] x free = rw (eq-eqb x.number x.number refl) refl
  now_at-with_same (y ∷ ys) x free =
      elim (cases_Bool (eqb y.number x.number)) [
        | inl same ↦ absurd (let some = rw same at free in cc)
        | inr differs ↦
            elim (cases_Bool (nat_lt x.number y.number)) [
              | inl less ↦ rw (less, eq-eqb x.number x.number refl) refl
              | inr more ↦ rw (more, differs) (now_at-with_same ys x (rw differs at free))
            ]
      ]

  pub now_at-with_other : (nodes : List (NodeOf V)) (x : NodeOf V) (m : ℕ) → (m ≡ x.number → ⊥) → now_at (with_now nodes x) m ≡ now_at nodes m
  now_at-with_other [] x m other = rw (ne_eqb x.number m (λ same. other (sym same))) refl
  now_at-with_other (y ∷ ys) x m other =
      elim (cases_Bool (nat_lt x.number y.number)) [
        | inl less ↦ rw (less, ne_eqb x.number m (λ same. other (sym same))) refl
        | inr more ↦ rw more (ap (λ o. cond (eqb y.number m) (Some y) o) (now_at-with_other ys x m other))
      ]

  -- ---- one node less
  pub tree_in-without : (bytes : V → List ℕ) (nodes : List (NodeOf V)) (n : ℕ) → tree_in bytes (without_now nodes n) ≡ without_node (tree_in bytes nodes) n
  tree_in-without bytes [] n = refl
  tree_in-without bytes (y ∷ ys) n =
      elim (cases_Bool (eqb y.number n)) [
        | inl same ↦ rw same (tree_in-without bytes ys n)
        | inr differs ↦ rw differs (ap (λ l. node_by bytes y ∷ l) (tree_in-without bytes ys n))
      ]

  pub versions_in-without : (nodes : List (NodeOf V)) (n : ℕ) → versions_in (without_now nodes n) ≡ without_version (versions_in nodes) n
  versions_in-without [] n = refl
  versions_in-without (y ∷ ys) n =
      elim (cases_lt 0 y.version) [
        | inl changed ↦
            elim (cases_Bool (eqb y.number n)) [
              | inl same ↦ rw (same, lt-ltb 0 y.version changed, same) (versions_in-without ys n)
              | inr differs ↦
                  rw (differs, lt-ltb 0 y.version changed, differs)
                  (ap (λ vs. record { file = y.number; count = y.version } ∷ vs) (versions_in-without ys n))
            ]
        | inr none ↦
            elim (cases_Bool (eqb y.number n)) [
              | inl same ↦ rw (same, le-ltb 0 y.version none) (versions_in-without ys n)
              | inr differs ↦ rw (differs, le-ltb 0 y.version none) (versions_in-without ys n)
            ]
      ]

  AreAbove-without : (nodes : List (NodeOf V)) (m n : ℕ) → AreAbove m nodes → AreAbove m (without_now nodes n)
  AreAbove-without [] m n above = tt
  AreAbove-without (y ∷ ys) m n above =
      elim (cases_Bool (eqb y.number n)) [
        | inl same ↦ rw same (AreAbove-without ys m n above.1)
        | inr differs ↦ rw differs ((above.0, AreAbove-without ys m n above.1))
      ]

  pub AreRising-without : (nodes : List (NodeOf V)) (n : ℕ) → AreRising nodes → AreRising (without_now nodes n)
  AreRising-without [] n rising = tt
  AreRising-without (y ∷ ys) n rising =
      elim (cases_Bool (eqb y.number n)) [
        | inl same ↦ rw same (AreRising-without ys n rising.1)
        | inr differs ↦ rw differs ((AreAbove-without ys y.number n rising.0, AreRising-without ys n rising.1))
      ]

  pub now_at-without_other : (nodes : List (NodeOf V)) (n m : ℕ) → (m ≡ n → ⊥) → now_at (without_now nodes n) m ≡ now_at nodes m
  now_at-without_other [] n m other = refl
  now_at-without_other (y ∷ ys) n m other =
      elim (cases_Bool (eqb y.number n)) [
        | inl same ↦
            rw (same, ne_eqb y.number m (λ is. other (sym is ∙ eqb-true y.number n same))) (now_at-without_other ys n m other)
        | inr differs ↦ rw differs (ap (λ o. cond (eqb y.number m) (Some y) o) (now_at-without_other ys n m other))
      ]

  pub now_at-without_same : (nodes : List (NodeOf V)) (n : ℕ) → now_at (without_now nodes n) n ≡ None
  now_at-without_same [] n = refl
  now_at-without_same (y ∷ ys) n =
      elim (cases_Bool (eqb y.number n)) [
        | inl same ↦ rw same (now_at-without_same ys n)
        | inr differs ↦ rw (differs, differs) (now_at-without_same ys n)
      ]
