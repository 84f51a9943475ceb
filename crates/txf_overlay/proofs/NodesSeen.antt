-- Lemmas on what became of nodes.
use Rattle.std.proofs.Common.{◌≡◌, ℕ, zero, suc, ◌+◌, ◌<◌, ◌^◌, ◌==◌, ◌||◌, ◌&&◌, not, Bool, true, false, is_some, List, [], ◌∷◌, ◌++◌, length, drop, Option, Some, None, refl, sym, ap, ◌∙◌, arith, subst, inl, inr}
use Rattle.std.specs.Prelude.{if◌then◌else◌}
use Rattle.std.proofs.lemmas.List.{drop-append-le, drop_all, length_push}
use Rattle.std.proofs.lemmas.Option.{none-some, same_Some}
use Rattle.ktm_links.specs.Mapped.{NamedItem}
use Rattle.txf_overlay.specs.declared.node.NodeSeen.{NodeSeen}
use Rattle.txf_overlay.specs.Maps.{under}
use Rattle.txf_tree.specs.Places.{number_bytes}
use Rattle.txf_overlay.proofs.Options.{or_none, or-assoc, or-nothing}
use Rattle.txf_tree.proofs.Digits.{number_bytes-one}
use Rattle.std.specs.List.{list_any, slice_get}
use Rattle.std.proofs.lemmas.Bool.{cases_Bool, cases_eq, eqb-true, eqb-false, eq-eqb, ne_eqb, or_right, and_right}
use Rattle.ktm_world.specs.declared.change.Change.{Change}
use Rattle.ktm_world.specs.declared.change.Change.TheVariants.{Make, Put, Cut, Move, Drop}
use Rattle.ktm_world.specs.declared.change.NodeKind.{NodeKind}
use Rattle.ktm_world.specs.Changes.{has_made, is_make, is_drop, node_of, nodes_made}
use Rattle.txf_overlay.specs.Views.{or_before}
use Rattle.txf_overlay.specs.Nodes.{if_of, kind_if, last_of, made_kind, drop_it, one_if, times_made, was_made, was_counted, AreSeen, IsSeen, WasSeen}

is_some-before : (o : Option NodeKind) (b : Bool) (kind : NodeKind) → (b || is_some o) ≡ is_some (or_before o (if b then Some kind else None))
is_some-before None true kind = refl
is_some-before None false kind = refl
is_some-before (Some k) true kind = refl
is_some-before (Some k) false kind = refl

none-before : (o : Option NodeKind) (b : Bool) → o ≡ or_before o (if b then None else None)
none-before None true = refl
none-before None false = refl
none-before (Some k) b = refl

-- a node that was made is one with a kind as which it was made
pub has_made-kind : (cs : List Change) (node : ℕ) → has_made cs node ≡ is_some (made_kind cs node)
has_made-kind [] node = refl
has_made-kind (Make n parent kind name ∷ cs) node = ap (λ b. (n == node) || b) (has_made-kind cs node) ∙ is_some-before (made_kind cs node) (n == node) kind
has_made-kind (Put n offset contents ∷ cs) node = has_made-kind cs node ∙ ap is_some (none-before (made_kind cs node) (n == node))
has_made-kind (Cut n size pages ∷ cs) node = has_made-kind cs node ∙ ap is_some (none-before (made_kind cs node) (n == node))
has_made-kind (Move n parent name ∷ cs) node = has_made-kind cs node ∙ ap is_some (none-before (made_kind cs node) (n == node))
has_made-kind (Drop n ∷ cs) node = has_made-kind cs node ∙ ap is_some (none-before (made_kind cs node) (n == node))

other-of : (c : Change) (node : ℕ) → if_of node c ≡ None → (node_of c == node) ≡ false
other-of c node none = elim (cases_Bool (node_of c == node)) [
  | inl same ↦ absurd (let some = rw same at none in cc)
  | inr other ↦ other
]

-- a node that no change is of was not made
pub made-none : (cs : List Change) (node : ℕ) → last_of cs node ≡ None → made_kind cs node ≡ None
made-none [] node none = refl
made-none (c ∷ cs) node none =
    let parts = or_none (last_of cs node) (if_of node c) none in
    rw (made-none cs node parts.0, other-of c node parts.1) refl

pub times-none : (cs : List Change) (node : ℕ) → last_of cs node ≡ None → times_made cs node ≡ 0
times-none [] node none = refl
times-none (c ∷ cs) node none =
    let parts = or_none (last_of cs node) (if_of node c) none in
    let other = other-of c node parts.1 in
    first (is_make c) (node_of c == node) (not (drop_it cs node)) (times_made cs node) other (times-none cs node parts.0)
  where
    first : (a b d : Bool) (n : ℕ) → b ≡ false → n ≡ 0 → one_if (a && b && d) + n ≡ 0
    first true b d n is none = rw (is, none) refl
    first false b d n is none = rw none refl

-- ---- one change more
last_of-push : (cs : List Change) (c : Change) (node : ℕ) → last_of (cs ++ c ∷ []) node ≡ or_before (if_of node c) (last_of cs node)
last_of-push [] c node = sym (or-nothing (if_of node c))
last_of-push (d ∷ cs) c node = ap (λ o. or_before o (if_of node d)) (last_of-push cs c node) ∙ sym (or-assoc (if_of node c) (last_of cs node) (if_of node d))

made_kind-push : (cs : List Change) (c : Change) (node : ℕ) → made_kind (cs ++ c ∷ []) node ≡ or_before (kind_if node c) (made_kind cs node)
made_kind-push [] c node = sym (or-nothing (kind_if node c))
made_kind-push (d ∷ cs) c node = ap (λ o. or_before o (kind_if node d)) (made_kind-push cs c node) ∙ sym (or-assoc (kind_if node c) (made_kind cs node) (kind_if node d))

-- does the change drop the node
abbrev pub drops : Change → ℕ → Bool
drops c node = is_drop c && node_of c == node

any-push : (test : Change → Bool) (cs : List Change) (c : Change) → list_any test (cs ++ c ∷ []) ≡ (list_any test cs || test c)
any-push test [] c = go (test c)
  where
    go : (b : Bool) → (b || false) ≡ b
    go true = refl
    go false = refl
any-push test (d ∷ cs) c = ap (λ b. test d || b) (any-push test cs c) ∙ go (test d) (list_any test cs) (test c)
  where
    go : (a b d : Bool) → (a || (b || d)) ≡ ((a || b) || d)
    go true b d = refl
    go false b d = refl

or-false : (a b : Bool) → b ≡ false → (a || b) ≡ a
or-false true b is = refl
or-false false b is = is

kept-drops : (cs : List Change) (c : Change) (node : ℕ) → drops c node ≡ false → drop_it (cs ++ c ∷ []) node ≡ drop_it cs node
kept-drops cs c node stays = any-push (λ d. drops d node) cs c ∙ or-false (drop_it cs node) (drops c node) stays

one_if-and : (a b : Bool) → b ≡ true → one_if (a && not b) ≡ 0
one_if-and true b is = rw is refl
one_if-and false b is = refl

pub times-push : (cs : List Change) (c : Change) (node : ℕ) → drops c node ≡ false → times_made (cs ++ c ∷ []) node ≡ times_made cs node + one_if (is_make c && node_of c == node)
times-push [] c node stays = go (is_make c) (node_of c == node)
  where
    go : (a b : Bool) → one_if (a && b && true) + 0 ≡ 0 + one_if (a && b)
    go true true = refl
    go true false = refl
    go false b = refl
times-push (d ∷ cs) c node stays =
    rw (kept-drops cs c node stays) (omega (arith, times-push cs c node stays))

pub times-dropped : (cs : List Change) (c : Change) (node : ℕ) → drops c node ≡ true → is_make c ≡ false → times_made (cs ++ c ∷ []) node ≡ 0
times-dropped [] c node gone' stays = rw stays refl
times-dropped (d ∷ cs) c node gone' stays =
    let gone : drop_it (cs ++ c ∷ []) node ≡ true = any-push (λ d. drops d node) cs c ∙ or_right (drop_it cs node) (drops c node) gone' in
    let first : one_if (is_make d && node_of d == node && not (drop_it (cs ++ c ∷ []) node)) ≡ 0 =
    one_if-and (is_make d && node_of d == node) (drop_it (cs ++ c ∷ []) node) gone in
    omega (arith, first, times-dropped cs c node gone' stays)

-- is it made, and not dropped by these
abbrev pub lasts : Change → List Change → Bool
lasts d cs = is_make d && not (list_any (λ later. is_drop later && node_of later == node_of d) cs)

pub made-push : (cs : List Change) (c : Change) → is_drop c ≡ false → nodes_made (cs ++ c ∷ []) ≡ nodes_made cs + one_if (is_make c)
made-push [] c stays = go (is_make c)
  where
    go : (a : Bool) → one_if (a && true) + 0 ≡ 0 + one_if a
    go true = refl
    go false = refl
made-push (d ∷ cs) c stays =
    let same : list_any (λ later. is_drop later && node_of later == node_of d) (cs ++ c ∷ []) ≡ list_any (λ later. is_drop later && node_of later == node_of d) cs =
    any-push (λ later. is_drop later && node_of later == node_of d) cs c
    ∙ or-false (list_any (λ later. is_drop later && node_of later == node_of d) cs) (is_drop c && node_of c == node_of d) (rw stays refl) in
    rw same (omega (arith, made-push cs c stays))

pub made-drop : (cs : List Change) (node : ℕ) → nodes_made (cs ++ Drop node ∷ []) + times_made cs node ≡ nodes_made cs
made-drop [] node = refl
made-drop (d ∷ cs) node =
    let any = any-push (λ later. is_drop later && node_of later == node_of d) cs (Drop node) in
    elim (cases_Bool (node == node_of d)) [
      | inl same ↦
          let number : node_of d ≡ node = sym (eqb-true node (node_of d) same) in
          let gone : list_any (λ later. is_drop later && node_of later == node_of d) (cs ++ Drop node ∷ []) ≡ true =
          any ∙ or_right (list_any (λ later. is_drop later && node_of later == node_of d) cs) (node == node_of d) same in
          let first : one_if (lasts d (cs ++ Drop node ∷ [])) ≡ 0 = one_if-and (is_make d) _ gone in
          let times : one_if (is_make d && node_of d == node && not (drop_it cs node)) ≡ one_if (lasts d cs) =
          rw (eq-eqb (node_of d) node number) (ap (λ n. one_if (is_make d && true && not (drop_it cs n))) (sym number) ∙ and_true (is_make d) _) in
          omega (arith, first, times, made-drop cs node)
      | inr other ↦
          let kept : list_any (λ later. is_drop later && node_of later == node_of d) (cs ++ Drop node ∷ []) ≡ list_any (λ later. is_drop later && node_of later == node_of d) cs =
          any ∙ or-false (list_any (λ later. is_drop later && node_of later == node_of d) cs) (node == node_of d) other in
          let first : one_if (lasts d (cs ++ Drop node ∷ [])) ≡ one_if (lasts d cs) = ap (λ b. one_if (is_make d && not b)) kept in
          let times : one_if (is_make d && node_of d == node && not (drop_it cs node)) ≡ 0 =
          rw (ne_eqb (node_of d) node (λ same. eqb-false node (node_of d) other (sym same))) (and_false (is_make d) _) in
          omega (arith, first, times, made-drop cs node)
    ]
  where
    and_true : (a b : Bool) → one_if (a && true && b) ≡ one_if (a && b)
    and_true true b = refl
    and_true false b = refl

    and_false : (a b : Bool) → one_if (a && false && b) ≡ 0
    and_false true b = refl
    and_false false b = refl

-- ---- what became of nodes, with one change more
get-before : (cs : List Change) (c : Change) (i : ℕ) → i < length cs → slice_get (cs ++ c ∷ []) i ≡ slice_get cs i
get-before [] c i within = absurd (omega arith)
get-before (d ∷ cs) c zero within = refl
get-before (d ∷ cs) c (suc i) within = get-before cs c i (omega (arith, within))

get-last : (cs : List Change) (c : Change) → slice_get (cs ++ c ∷ []) (length cs) ≡ Some c
get-last [] c = refl
get-last (d ∷ cs) c = get-last cs c

pub seen-other : (cs : List Change) (c : Change) (node : ℕ) (s : NodeSeen) → (node_of c ≡ node → ⊥) → IsSeen cs node s → IsSeen (cs ++ c ∷ []) node s
seen-other cs c node s other is =
    let differs = ne_eqb (node_of c) node other in
    record {
      last = get-before cs c s.last is.within ∙ is.last ∙ sym (last_of-push cs c node ∙ rw differs refl);
      within = rw (length_push cs c) (omega (arith, is.within));
      alone = ap (λ ds. last_of ds node) (drop-append-le (s.last + 1) cs (c ∷ []) (omega (arith, is.within)))
          ∙ last_of-push (drop (s.last + 1) cs) c node ∙ rw differs is.alone;
      made = is.made ∙ sym (made_kind-push cs c node ∙ rw differs refl);
      counted = times-push cs c node (and_right (is_drop c) _ differs) ∙ rw (and_right (is_make c) _ differs) (omega (arith, is.counted));
    }

pub absent-other : (cs : List Change) (c : Change) (node : ℕ) → (node_of c ≡ node → ⊥) → last_of cs node ≡ None → last_of (cs ++ c ∷ []) node ≡ None
absent-other cs c node other none = last_of-push cs c node ∙ rw (ne_eqb (node_of c) node other) none

-- what became of the node of the change itself
pub record IsNext (cs : List Change) (c : Change) (s : NodeSeen) : Type 0 where
  pub last : s.last ≡ length cs
  pub made : s.made ≡ made_kind (cs ++ c ∷ []) (node_of c)
  pub counted : times_made (cs ++ c ∷ []) (node_of c) ≡ one_if s.is_counted

pub seen-next : (cs : List Change) (c : Change) (s : NodeSeen) → IsNext cs c s → IsSeen (cs ++ c ∷ []) (node_of c) s
seen-next cs c s is = record {
  last =
      let there : slice_get (cs ++ c ∷ []) s.last ≡ Some c = rw is.last (get-last cs c) in
      let of : last_of (cs ++ c ∷ []) (node_of c) ≡ Some c = last_of-push cs c (node_of c) ∙ rw (eq-eqb (node_of c) (node_of c) refl) refl in
      there ∙ sym of;
  within = rw (is.last, length_push cs c) (omega arith);
  alone = ap (λ n. last_of (drop (n + 1) (cs ++ c ∷ [])) (node_of c)) is.last
      ∙ ap (λ ds. last_of ds (node_of c)) (drop_all (length cs + 1) (cs ++ c ∷ []) (omega (arith, length_push cs c)));
  made = is.made;
  counted = is.counted;
}

-- the map once it has what became of the node of one change more
pub AreSeen-push : (cs : List Change) (c : Change) (old new : List (NamedItem NodeSeen)) (name : List ℕ) (s : NodeSeen) → AreSeen cs old → name ≡ number_bytes (node_of c)
    → under new name ≡ Some s → ((q : List ℕ) → (q ≡ name → ⊥) → under new q ≡ under old q) → IsNext cs c s → AreSeen (cs ++ c ∷ []) new
AreSeen-push cs c old new name s are name_is here others next = record {
  there = λ node t small found. elim (cases_eq (node_of c) node) [
    | inl same ↦
        let at : s ≡ t = same_Some s t (sym here ∙ ap (under new) (name_is ∙ ap number_bytes same) ∙ found) in
        subst (λ n. IsSeen (cs ++ c ∷ []) n t) same (subst (λ (t : NodeSeen). IsSeen (cs ++ c ∷ []) (node_of c) t) at (seen-next cs c s next))
    | inr other ↦ seen-other cs c node t other (are.there node t small (sym (others (number_bytes node) (apart node other)) ∙ found))
  ];
  absent = λ node small none. elim (cases_eq (node_of c) node) [
    | inl same ↦ absurd (none-some s (sym none ∙ ap (under new) (sym (name_is ∙ ap number_bytes same)) ∙ here))
    | inr other ↦ absent-other cs c node other (are.absent node small (sym (others (number_bytes node) (apart node other)) ∙ none))
  ];
}
  where
    apart : (node : ℕ) → (node_of c ≡ node → ⊥) → number_bytes node ≡ name → ⊥
    apart node other same = other (number_bytes-one (node_of c) node (sym name_is ∙ sym same))

pub was-seen : (cs : List Change) (es : List (NamedItem NodeSeen)) (node : ℕ) (o : Option NodeSeen) → AreSeen cs es → node < 2 ^ 64 → o ≡ under es (number_bytes node)
    → WasSeen cs node o
was-seen cs es node None are small is = are.absent node small (sym is)
was-seen cs es node (Some s) are small is = are.there node s small (sym is)

pub was-made : (cs : List Change) (node : ℕ) (o : Option NodeSeen) → WasSeen cs node o → was_made o ≡ made_kind cs node
was-made cs node None none = sym (made-none cs node none)
was-made cs node (Some s) seen = seen.made

pub was-counted : (cs : List Change) (node : ℕ) (o : Option NodeSeen) → WasSeen cs node o → times_made cs node ≡ one_if (was_counted o)
was-counted cs node None none = times-none cs node none
was-counted cs node (Some s) seen = seen.counted

pub next-make : (cs : List Change) (node parent : ℕ) (kind : NodeKind) (name : List ℕ) (s : NodeSeen) → s.last ≡ length cs → s.made ≡ Some kind → s.is_counted ≡ true
    → times_made cs node ≡ 0 → IsNext cs (Make node parent kind name) s
next-make cs node parent kind name s last made counted new =
    let same = eq-eqb node node refl in
    record {
      last = last;
      made = made ∙ sym (made_kind-push cs (Make node parent kind name) node ∙ rw same refl);
      counted = times-push cs (Make node parent kind name) node refl ∙ rw (same, counted) (omega (arith, new));
    }

pub next-move : (cs : List Change) (node parent : ℕ) (name : List ℕ) (o : Option NodeSeen) (s : NodeSeen) → WasSeen cs node o → s.last ≡ length cs → s.made ≡ was_made o
    → s.is_counted ≡ was_counted o → IsNext cs (Move node parent name) s
next-move cs node parent name o s was last made counted =
    let same = eq-eqb node node refl in
    record {
      last = last;
      made = made ∙ was-made cs node o was ∙ sym (made_kind-push cs (Move node parent name) node ∙ rw same refl);
      counted = times-push cs (Move node parent name) node refl ∙ rw counted (omega (arith, was-counted cs node o was));
    }

pub next-drop : (cs : List Change) (node : ℕ) (o : Option NodeSeen) (s : NodeSeen) → WasSeen cs node o → s.last ≡ length cs → s.made ≡ was_made o
    → s.is_counted ≡ false → IsNext cs (Drop node) s
next-drop cs node o s was last made counted =
    let same = eq-eqb node node refl in
    record {
      last = last;
      made = made ∙ was-made cs node o was ∙ sym (made_kind-push cs (Drop node) node ∙ rw same refl);
      counted = times-dropped cs (Drop node) node same refl ∙ rw counted refl;
    }
