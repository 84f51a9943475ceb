-- What a loss of power may leave of a disk on which a row stands.
use Rattle.std.proofs.Common.{◌≡◌, ◌⊎◌, ℕ, ◌+◌, ◌-◌, ◌*◌, ◌<◌, ◌≤◌, Bool, false, ◌&&◌, ◌||◌, nat_le, nat_lt, List, [], ◌∷◌, ◌++◌, length, get_or, take, drop, Contains, refl, sym, ◌∙◌, ap, subst, inl, inr, arith, append_assoc, length-take, length-drop}
use Rattle.std.specs.Prelude.{slice_range}
use Rattle.std.proofs.lemmas.Bool.{cases_order}
use Rattle.std.proofs.lemmas.Bool.Decides.{nat_tests}
use Rattle.std.proofs.lemmas.Grind.{same_number_lists}
use Rattle.std.proofs.lemmas.List.{get_or-take, get_or-drop, take-append-drop}
use Rattle.std.proofs.lemmas.List.Elements.{Contains-append_left, Contains-append_right, Contains-push}
use Rattle.ktm_base.specs.declared.limits.TheConstants.{UNIT_BYTES}
use Rattle.ktm_base.specs.Bytes.{covers}
use Rattle.ktm_base.specs.Disk.{DiskState, MayLeave}
use Rattle.ktm_page.specs.Row.{page_of}
use Rattle.ktm_row.specs.Laws.{LeftLaw, WholeLaw}
use Rattle.ktm_row.specs.Places.{Stands, behind, end_of, pages_of, ranges_of}
use Rattle.ktm_row.proofs.Bytes.{page-place}

apart : (at len place : ℕ) → (place < at) ⊎ (at + len ≤ place) → nat_le at place && nat_lt place (at + len) ≡ false
apart at len place out = grind (arith, nat_tests)

neither : (a b : Bool) → a ≡ false → b ≡ false → a || b ≡ false
neither a b x y = cc

-- a place outside of the range of each page
outside-all : (begin : ℕ) (pages : List ℕ) (k : ℕ) → ((page : ℕ) → Contains pages page → (k < begin + page * UNIT_BYTES) ⊎ (begin + page * UNIT_BYTES + UNIT_BYTES ≤ k)) → covers (ranges_of begin pages) k ≡ false
outside-all begin [] k out = refl
outside-all begin (p ∷ ps) k out = neither _ (covers (ranges_of begin ps) k)
    (apart (begin + p * UNIT_BYTES) UNIT_BYTES k (out p (Contains-append_left (p ∷ []) ps p (Contains-push [] p))))
    (outside-all begin ps k (λ page is. out page (Contains-append_right (p ∷ []) ps page is)))

-- the bytes in a range, where they are the same at each of its places
pub same-range : (old new : List ℕ) (from n : ℕ) → length new ≡ length old → ((place : ℕ) → from ≤ place → place < from + n → place < length old → get_or new place 0 ≡ get_or old place 0) → take n (drop from new) ≡ take n (drop from old)
same-range old new from n long same = same_number_lists _ _ (omega (arith, long, length-take n (drop from new), length-take n (drop from old), length-drop from new, length-drop from old))
    (λ k under.
    let within : k < n = omega (arith, under, length-take n (drop from new)) in
    let inside : from + k < length old = omega (arith, under, long, length-take n (drop from new), length-drop from new) in
    get_or-take n (drop from new) k 0 within ∙ get_or-drop from new k 0 ∙ same (from + k) (omega arith) (omega (arith, within)) inside ∙ sym (get_or-drop from old k 0) ∙ sym (get_or-take n (drop from old) k 0 within))

module _ (begin pages : ℕ) (s : DiskState) (image : List ℕ) (stands : Stands begin pages s) (left : MayLeave s image) where
  image-long : length image ≡ length s.seen
  image-long = omega (arith, left.no_shorter, left.no_longer, stands.shortest, stands.longest)

  image-at : (k : ℕ) → k < length s.seen → ((page : ℕ) → Contains (pages_of begin s.dirty) page → (k < begin + page * UNIT_BYTES) ⊎ (begin + page * UNIT_BYTES + UNIT_BYTES ≤ k)) → get_or image k 0 ≡ get_or s.seen k 0
  image-at k low out = left.others k (omega (arith, low, stands.shortest)) (ap (λ (d : List (ℕ × ℕ)). covers d k) stands.ranges ∙ outside-all begin (pages_of begin s.dirty) k out)

  image-front : take begin image ≡ take begin s.seen
  image-front = same-range s.seen image 0 begin image-long (λ k from below inside. image-at k inside (λ page dirty. inl (omega (arith, below))))

  image-behind : drop (end_of begin pages) image ≡ drop (end_of begin pages) s.seen
  image-behind = same_number_lists _ _ (omega (arith, image-long, length-drop (end_of begin pages) image, length-drop (end_of begin pages) s.seen))
      (λ k under.
      let inside : end_of begin pages + k < length s.seen = omega (arith, under, image-long, length-drop (end_of begin pages) image) in
      get_or-drop (end_of begin pages) image k 0
      ∙ image-at (end_of begin pages + k) inside (λ page dirty. let below = stands.below page dirty in inr (omega (arith, below)))
      ∙ sym (get_or-drop (end_of begin pages) s.seen k 0))

  image-page : (page : ℕ) → page < pages → (Contains (pages_of begin s.dirty) page → ⊥) → page_of (slice_range image begin (end_of begin pages)) page ≡ page_of (slice_range s.seen begin (end_of begin pages)) page
  image-page page within clean =
      page-place begin pages image page within (omega (arith, image-long, stands.fits))
      ∙ same-range s.seen image (begin + page * UNIT_BYTES) (begin + page * UNIT_BYTES + UNIT_BYTES - (begin + page * UNIT_BYTES)) image-long
      (λ k from below inside. image-at k inside (λ other dirty. elim (cases_order page other) [
        | inl same ↦ absurd (clean (subst (λ (p : ℕ). Contains (pages_of begin s.dirty) p) (sym same) dirty))
        | inr (inl less) ↦ inl (omega (arith, less, below))
        | inr (inr more) ↦ inr (omega (arith, more, from))
      ]))
      ∙ sym (page-place begin pages s.seen page within stands.fits)

pub left_law : LeftLaw
left_law begin pages s image stands left = record {
  length = image-long begin pages s image stands left;
  front = image-front begin pages s image stands left;
  clean = image-page begin pages s image stands left;
  behind = image-behind begin pages s image stands left;
}

three-parts : (begin pages : ℕ) (s : DiskState) → s.seen ≡ take begin s.seen ++ slice_range s.seen begin (end_of begin pages) ++ behind begin pages s
three-parts begin pages s =
    sym (take-append-drop begin s.seen)
    ∙ ap (λ (l : List ℕ). take begin s.seen ++ l) (sym (take-append-drop (end_of begin pages - begin) (drop begin s.seen)))
    ∙ sym (append_assoc (take begin s.seen) (take (end_of begin pages - begin) (drop begin s.seen)) (drop (end_of begin pages - begin) (drop begin s.seen)))
    ∙ ap (λ (l : List ℕ). take begin s.seen ++ slice_range s.seen begin (end_of begin pages) ++ l) rest
  where
    rest : drop (end_of begin pages - begin) (drop begin s.seen) ≡ drop (end_of begin pages) s.seen
    rest = same_number_lists _ _ (omega (arith, length-drop (end_of begin pages - begin) (drop begin s.seen), length-drop begin s.seen, length-drop (end_of begin pages) s.seen))
        (λ k under.
        let place : begin + (end_of begin pages - begin + k) ≡ end_of begin pages + k = omega arith in
        get_or-drop (end_of begin pages - begin) (drop begin s.seen) k 0 ∙ get_or-drop begin s.seen (end_of begin pages - begin + k) 0 ∙ ap (λ (n : ℕ). get_or s.seen n 0) place ∙ sym (get_or-drop (end_of begin pages) s.seen k 0))

pub whole_law : WholeLaw
whole_law begin pages s stands = record { seen = three-parts begin pages s; dirty = stands.ranges; shortest = stands.shortest; longest = stands.longest }
