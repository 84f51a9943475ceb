-- Ids that come before that of the object that is made next.
use Rattle.std.proofs.Common.{◌≡◌, ℕ, ◌+◌, ◌<◌, Bool, true, List, [], ◌∷◌, ◌++◌, Option, map, refl, sym, subst, arith, eq-eqb}
use Rattle.std.specs.List.{list_all}
use Rattle.std.proofs.lemmas.Bool.{and_from, and_parts, lt-ltb, or_left, or_right}
use Rattle.ktm_base.specs.declared.id.Id.{Id}
use Rattle.ktm_world.specs.Durable.{is_before}
use Rattle.ktm_world.specs.Enlistments.{Manager, Sent}
use Rattle.ktm_world.specs.Outcome.{served}
use Rattle.txf_laws.proofs.offered.Tables.{is_before-then}
use Rattle.ktm_tm.specs.Listed.{are_before_next}
use Rattle.ktm_tm.specs.TmState.{id_after}

next_before : (boot last : ℕ) → is_before (id_after boot last) (id_after boot (last + 1)) ≡ true
next_before boot last = or_right _ _ (and_from _ _ (eq-eqb boot boot refl) (lt-ltb (last + 1) (last + 1 + 1) (omega arith)))

module _ {X : Type 0} where
  -- one more, which was made next
  pub next_push : (id_of : X → Id) (boot last : ℕ) (xs : List X) (x : X) → are_before_next id_of boot last xs ≡ true → id_of x ≡ id_after boot last → are_before_next id_of boot (last + 1) (xs ++ x ∷ []) ≡ true
  next_push id_of boot last [] x before is = and_from _ _ (subst (λ (id : Id). is_before id (id_after boot (last + 1)) ≡ true) (sym is) (next_before boot last)) refl
  next_push id_of boot last (y ∷ ys) x before is =
      let parts = and_parts (is_before (id_of y) (id_after boot last)) (are_before_next id_of boot last ys) before in
      and_from _ _ (is_before-then (id_of y) (id_after boot last) (id_after boot (last + 1)) parts.0 (next_before boot last)) (next_push id_of boot last ys x parts.1 is)

  -- one more, which is of an earlier boot
  pub back_push : (id_of : X → Id) (boot last : ℕ) (xs : List X) (x : X) → are_before_next id_of boot last xs ≡ true → (id_of x).boot < boot → are_before_next id_of boot last (xs ++ x ∷ []) ≡ true
  back_push id_of boot last [] x before earlier = and_from _ _ (or_left _ _ (lt-ltb (id_of x).boot boot earlier)) refl
  back_push id_of boot last (y ∷ ys) x before earlier =
      let parts = and_parts (is_before (id_of y) (id_after boot last)) (are_before_next id_of boot last ys) before in
      and_from _ _ parts.0 (back_push id_of boot last ys x parts.1 earlier)

-- resource managers that are served keep their Ids
pub served_before : (test : Id → Bool) (took : Option Id) (sent : List Sent) (ms : List Manager) → list_all (λ m. test m.id) (map (served took sent) ms) ≡ list_all (λ m. test m.id) ms
served_before test took sent [] = refl
served_before test took sent (m ∷ ms) = rw (served_before test took sent ms) refl
