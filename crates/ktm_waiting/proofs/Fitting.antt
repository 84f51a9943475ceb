-- What fits into a room, and what transactions take.
use Rattle.std.proofs.Common.{◌≡◌, ℕ, zero, suc, ◌+◌, ◌-◌, ◌<◌, ◌&&◌, not, Bool, true, false, List, [], ◌∷◌, length, get_or, cond, count_by, nat_le, refl, sym, ◌∙◌, ap, subst, arith, inl, inr, length-append}
use Rattle.std.specs.List.{flat_map}
use Rattle.std.proofs.lemmas.Bool.{and_from, and_parts, le-leb, leb-true}
use Rattle.std.proofs.lemmas.List.Sums.{sum_by-cons}
use Rattle.ktm_world.specs.declared.event.Part.{Part}
use Rattle.ktm_world.specs.declared.event.Part.TheVariants.{Enlistment, Changes, Settings}
use Rattle.ktm_world.specs.declared.recorded.RecordedPart.{RecordedPart}
use Rattle.ktm_world.specs.Durable.{Recorded, enlistments_in, is_sole}
use Rattle.ktm_world.specs.Tree.{Tree}
use Rattle.txf_laws.specs.Elements.{IsIn}
use Rattle.txf_laws.proofs.offered.Sums.{count-cons}
use Rattle.ktm_waiting.specs.declared.amounts.Amounts.{Amounts}
use Rattle.ktm_waiting.specs.Waiting.{amounts_of, fits_in, minus, plus, total}

-- ---- enlistments

enlistments-one : (part : Part) → length (enlistments_in part) ≡ cond (not (is_sole part)) 1 0
enlistments-one (Enlistment enlistment manager information) = refl
enlistments-one (Changes changes) = refl
enlistments-one (Settings settings) = refl

pub enlistments-all : (ps : List RecordedPart) → length (flat_map (λ (p : RecordedPart). enlistments_in p.part) ps) ≡ count_by (λ (p : RecordedPart). not (is_sole p.part)) ps
enlistments-all [] = refl
enlistments-all (p ∷ ps) =
    let one = enlistments-one p.part in
    let rest = enlistments-all ps in
    let all = count-cons (λ (q : RecordedPart). not (is_sole q.part)) p ps in
    let both = length-append (enlistments_in p.part) (flat_map (λ (q : RecordedPart). enlistments_in q.part) ps) in
    omega (arith, one, rest, all, both)

-- ---- amounts

same : (a b : Bool) → (a ≡ true → b ≡ true) → (b ≡ true → a ≡ true) → a ≡ b
same true b to from = sym (to refl)
same false true to from = from refl
same false false to from = refl

le-plus : (a b r : ℕ) → nat_le (a + b) r ≡ (nat_le a r && nat_le b (r - a))
le-plus a b r = same (nat_le (a + b) r) (nat_le a r && nat_le b (r - a))
    (λ all. let less = leb-true (a + b) r all in and_from _ _ (le-leb a r (omega arith)) (le-leb b (r - a) (omega arith)))
    (λ both.
    let parts = and_parts (nat_le a r) (nat_le b (r - a)) both in
    let first = leb-true a r parts.0 in
    let second = leb-true b (r - a) parts.1 in
    le-leb (a + b) r (omega arith))

swap : (a b c d : Bool) → ((a && b) && (c && d)) ≡ ((a && c) && (b && d))
swap true true c d = refl
swap true false true d = refl
swap true false false d = refl
swap false b c d = refl

-- two fit where the first does, and the second into what is left
pub fits-plus : (a b room : Amounts) → fits_in (plus a b) room ≡ (fits_in a room && fits_in b (minus room a))
fits-plus a b room =
    (λ i. le-plus a.units b.units room.units i && le-plus a.nodes b.nodes room.nodes i && le-plus a.keys b.keys room.keys i && le-plus a.changes b.changes room.changes i
    && le-plus a.enlistments b.enlistments room.enlistments i)
    ∙ all (nat_le a.units room.units) (nat_le b.units (room.units - a.units)) (nat_le a.nodes room.nodes) (nat_le b.nodes (room.nodes - a.nodes)) (nat_le a.keys room.keys) (nat_le b.keys (room.keys - a.keys))
    (nat_le a.changes room.changes) (nat_le b.changes (room.changes - a.changes)) (nat_le a.enlistments room.enlistments) (nat_le b.enlistments (room.enlistments - a.enlistments))
  where
    all : (u u' n n' k k' c c' e e' : Bool) → ((u && u') && (n && n') && (k && k') && (c && c') && (e && e')) ≡ ((u && n && k && c && e) && (u' && n' && k' && c' && e'))
    all u u' n n' k k' c c' e e' =
        ap (λ x. x && (k && k') && (c && c') && (e && e')) (swap u u' n n')
        ∙ ap (λ x. x && (c && c') && (e && e')) (swap (u && n) (u' && n') k k')
        ∙ ap (λ x. x && (e && e')) (swap (u && n && k) (u' && n' && k') c c')
        ∙ swap (u && n && k && c) (u' && n' && k' && c') e e'

pub total-cons : (tree : Tree) (t : Recorded) (ts : List Recorded) → total tree (t ∷ ts) ≡ plus (amounts_of tree t) (total tree ts)
total-cons tree t ts = λ i. record {
  units = sum_by-cons (λ (u : Recorded). (amounts_of tree u).units) t ts i;
  nodes = sum_by-cons (λ (u : Recorded). (amounts_of tree u).nodes) t ts i;
  keys = sum_by-cons (λ (u : Recorded). (amounts_of tree u).keys) t ts i;
  changes = sum_by-cons (λ (u : Recorded). (amounts_of tree u).changes) t ts i;
  enlistments = sum_by-cons (λ (u : Recorded). (amounts_of tree u).enlistments) t ts i;
}

-- ---- at an index

in-at : {X : Type 0} (xs : List X) (i : ℕ) (d : X) → i < length xs → IsIn (get_or xs i d) xs
in-at [] i d within = absurd (omega arith)
in-at (x ∷ xs) zero d within = inl refl
in-at (x ∷ xs) (suc i) d within = inr (in-at xs i d (omega arith))

pub item-in : {X : Type 0} (xs : List X) (i : ℕ) (x : X) → i < length xs → x ≡ get_or xs i x → IsIn x xs
item-in xs i x within is = subst (λ y. IsIn y xs) (sym is) (in-at xs i x within)
