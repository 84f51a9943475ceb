-- Things of a list that are written one behind the other, behind what begins them.
use Rattle.std.proofs.Common.{◌≡◌, ℕ, suc, ◌+◌, ◌*◌, ◌<◌, ◌≤◌, List, [], ◌∷◌, ◌++◌, All, add-one, ap, drop, get_or, length, sum_by, vec_capacity, vec_len, refl, sym, ◌∙◌, subst, arith, append_assoc, inl}
use Rattle.std.specs.Prelude.{Vec}
use Rattle.std.proofs.Math.Seq.{drop-cons}
use Rattle.std.proofs.lemmas.List.{append-nil}
use Rattle.std.proofs.lemmas.List.Sums.{sum_by-append, sum_by-cons}
use Rattle.txf_laws.proofs.offered.CommitsOfOthers.{All-in}
use Rattle.txf_laws.proofs.offered.Diamonds.{IsIn-right}
use Rattle.ktm_base.specs.declared.id.Id.{Id}
use Rattle.ktm_snapshot.specs.Pieces.{AddsItems, IsFrontOf}
use Rattle.ktm_saving.specs.Writes.{Writes}

-- what is left of a list from an index on
pub left_next : {X : Type 0} (xs : List X) (i : ℕ) (x : X) → i < length xs → x ≡ get_or xs i x → drop i xs ≡ x ∷ drop (i + 1) xs
left_next xs i x inside at = rw add-one (drop-cons xs i x inside ∙ ap (λ y. y ∷ drop (suc i) xs) (sym at))

-- some are written behind a front of so many bytes, and the rest of all is left
pub record ArePartly {X Z : Type 0} (Count : List ℕ → Type 0) (Item : X → List ℕ → Type 0) (size : X → ℕ) (front : ℕ) (all rest : List X) (old new : Vec ℕ Z) : Type 0 where
  pub done : List X
  pub is : done ++ rest ≡ all
  pub written : Writes (IsFrontOf Count Item done) (front + sum_by size done) old new

module _ {X Z : Type 0} (Count : List ℕ → Type 0) (Item : X → List ℕ → Type 0) (size : X → ℕ) (front : ℕ) (all : List X) (old : Vec ℕ Z) where
  -- the front is written, and nothing else
  pub partly_begun : AddsItems Count Item → (new : Vec ℕ Z) → Writes Count front old new → ArePartly Count Item size front all all old new
  partly_begun adds new first = record {
    done = [];
    is = refl;
    written = record { adds = adds.begins old.items new.items first.adds; len = omega (arith, first.len); room = first.room };
  }

  -- one thing more is written
  pub partly_next : AddsItems Count Item → (rest : List X) (x : X) (now new : Vec ℕ Z) → ArePartly Count Item size front all (x ∷ rest) old now → Writes (Item x) (size x) now new
      → ArePartly Count Item size front all rest old new
  partly_next adds rest x now new so_far one =
      let both = sum_by-append size so_far.done (x ∷ []) in
      let last = sum_by-cons size x [] in
      record {
        done = so_far.done ++ x ∷ [];
        is = append_assoc so_far.done (x ∷ []) rest ∙ so_far.is;
        written = record {
          adds = adds.goes_on so_far.done x old.items now.items new.items so_far.written.adds one.adds;
          len = omega (arith, so_far.written.len, one.len, both, last);
          room = omega (arith, so_far.written.room, one.room);
        };
      }

  -- there is room for the next thing, where there was for all
  pub room_next : (rest : List X) (x : X) (now : Vec ℕ Z) → ArePartly Count Item size front all (x ∷ rest) old now → vec_len old + (front + sum_by size all) ≤ vec_capacity old
      → vec_len now + size x ≤ vec_capacity now
  room_next rest x now so_far room =
      let whole : sum_by size (so_far.done ++ x ∷ rest) ≡ sum_by size all = ap (λ (zs : List X). sum_by size zs) so_far.is in
      let both = sum_by-append size so_far.done (x ∷ rest) in
      let next = sum_by-cons size x rest in
      omega (arith, so_far.written.len, so_far.written.room, whole, both, next, room)

  -- all of it is written
  pub partly_all : (new : Vec ℕ Z) → ArePartly Count Item size front all [] old new → Writes (IsFrontOf Count Item all) (front + sum_by size all) old new
  partly_all new so_far = subst (λ (xs : List X). Writes (IsFrontOf Count Item xs) (front + sum_by size xs) old new) (sym (append-nil so_far.done) ∙ so_far.is) so_far.written

  -- the next thing is one of all
  pub each_next : (Has : X → Type 0) (rest : List X) (x : X) (now : Vec ℕ Z) → ArePartly Count Item size front all (x ∷ rest) old now → All Has all → Has x
  each_next Has rest x now so_far each = All-in Has (so_far.done ++ x ∷ rest) (subst (All Has) (sym so_far.is) each) x (IsIn-right x so_far.done (x ∷ rest) (inl refl))

-- an Id takes eight bytes
abbrev pub eight : Id → ℕ
eight id = 8

pub eights : (ids : List Id) → sum_by eight ids ≡ 8 * length ids
eights [] = refl
eights (id ∷ ids) = let all = sum_by-cons eight id ids in let rest = eights ids in omega (arith, all, rest)
