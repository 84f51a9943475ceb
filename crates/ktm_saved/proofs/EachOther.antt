-- Enlistments of a transaction that differ, part by part.
use Rattle.std.proofs.Common.{◌≡◌, ◌&&◌, ◌||◌, not, Bool, true, false, List, [], ◌∷◌, ◌++◌, Option, Some, None, ◌+◌, ◌<◌, ℕ, drop, get_or, length, refl, sym, ◌∙◌, ap}
use Rattle.std.proofs.Math.Bool.{and-true}
use Rattle.std.proofs.lemmas.List.{at_drop_more}
use Rattle.std.proofs.lemmas.List.Folds.{list_all-append, list_any-append}
use Rattle.std.specs.List.{flat_map, list_all, list_any}
use Rattle.ktm_base.specs.declared.id.Id.{Id}
use Rattle.ktm_world.specs.declared.event.DonePart.{DonePart}
use Rattle.ktm_world.specs.declared.event.Part.{Part}
use Rattle.ktm_world.specs.declared.event.Part.TheVariants.{Enlistment, Changes, Settings}
use Rattle.ktm_world.specs.declared.recorded.RecordedPart.{RecordedPart}
use Rattle.ktm_world.specs.declared.recorded.Superior.{Superior}
use Rattle.txf_laws.proofs.offered.GoodTransactions.{differ}
use Rattle.txf_laws.specs.GoodState.{enlisted_in, superiors_in}
use Rattle.ktm_world.specs.Durable.{enlistments_in, is_part_of, superior_ids}
use Rattle.ktm_world.specs.Transactions.{same_id}
use Rattle.txf_laws.specs.Elements.{each_pair}

-- the enlistments of parts
abbrev pub of_parts : List RecordedPart → List Id
of_parts ps = flat_map (λ (p : RecordedPart). enlistments_in p.part) ps

list_all-flat : {X Y : Type 0} (test : Y → Bool) (f : X → List Y) (xs : List X) → list_all (λ x. list_all test (f x)) xs ≡ list_all test (flat_map f xs)
list_all-flat test f [] = refl
list_all-flat test f (x ∷ xs) = ap (λ b. list_all test (f x) && b) (list_all-flat test f xs) ∙ sym (list_all-append test (f x) (flat_map f xs))

not-or : (a b : Bool) → not (a || b) ≡ (not a && not b)
not-or true b = refl
not-or false b = refl

none-of : (id : Id) (ps : List RecordedPart) → not (list_any (λ (p : RecordedPart). is_part_of (DonePart.Enlistment id) p.part) ps) ≡ list_all (differ id) (of_parts ps)
none-of id [] = refl
none-of id (p ∷ ps) = go p.part (none-of id ps)
  where
    go : (part : Part) → not (list_any (λ (q : RecordedPart). is_part_of (DonePart.Enlistment id) q.part) ps) ≡ list_all (differ id) (of_parts ps)
        → not (is_part_of (DonePart.Enlistment id) part || list_any (λ (q : RecordedPart). is_part_of (DonePart.Enlistment id) q.part) ps) ≡ list_all (differ id) (enlistments_in part ++ of_parts ps)
    go (Enlistment enlistment manager information) rest = not-or (same_id id enlistment) _ ∙ ap (λ b. differ id enlistment && b) rest
    go (Changes changes) rest = rest
    go (Settings settings) rest = rest

-- no part of these is that enlistment's
pub none-is : (id : Id) (ps : List RecordedPart) (any : Bool) → any ≡ list_any (λ (p : RecordedPart). is_part_of (DonePart.Enlistment id) p.part) ps
    → not any ≡ list_all (λ x. list_all (differ x) (of_parts ps)) (id ∷ [])
none-is id ps any is = ap not is ∙ none-of id ps ∙ sym (and-true (list_all (differ id) (of_parts ps)))

-- those of one that has one at most, before others
module _ (ys : List Id) where
  pub pairs-part : (part : Part) → (list_all (λ x. list_all (differ x) ys) (enlistments_in part) && each_pair differ ys) ≡ each_pair differ (enlistments_in part ++ ys)
  pairs-part (Enlistment enlistment manager information) = ap (λ b. b && each_pair differ ys) (and-true (list_all (differ enlistment) ys))
  pairs-part (Changes changes) = refl
  pairs-part (Settings settings) = refl

  pub pairs-superior : (s : Option Superior) → (list_all (λ x. list_all (differ x) ys) (superior_ids s) && each_pair differ ys) ≡ each_pair differ (superior_ids s ++ ys)
  pairs-superior None = refl
  pairs-superior (Some s) = ap (λ b. b && each_pair differ ys) (and-true (list_all (differ s.enlistment) ys))

-- of parts, the first and those behind it
pub pairs-first : (p : RecordedPart) (ps : List RecordedPart) → (list_all (λ x. list_all (differ x) (of_parts ps)) (enlistments_in p.part) && each_pair differ (of_parts ps)) ≡ each_pair differ (of_parts (p ∷ ps))
pairs-first p ps = pairs-part (of_parts ps) p.part

-- and of those from an index on
pub pairs-at : (ps : List RecordedPart) (i : ℕ) (p : RecordedPart) → i < length ps → p ≡ get_or ps i p
    → (list_all (λ x. list_all (differ x) (of_parts (drop (i + 1) ps))) (enlistments_in p.part) && each_pair differ (of_parts (drop (i + 1) ps))) ≡ each_pair differ (of_parts (drop i ps))
pairs-at ps i p within is =
    pairs-first p (drop (i + 1) ps) ∙ ap (λ (q : RecordedPart). each_pair differ (of_parts (q ∷ drop (i + 1) ps))) is
    ∙ sym (at_drop_more (λ (qs : List RecordedPart). each_pair differ (of_parts qs)) ps i p within)

-- all enlistments of a transaction pass where its superior's and those of its parts do
pub all-enlisted : (test : Superior → Bool) (s : Option Superior) (ps : List RecordedPart)
    → (list_all test (superiors_in s) && list_all (λ (p : RecordedPart). list_all test (enlisted_in p.part)) ps) ≡ list_all test (superiors_in s ++ flat_map (λ (p : RecordedPart). enlisted_in p.part) ps)
all-enlisted test s ps =
    ap (λ b. list_all test (superiors_in s) && b) (list_all-flat test (λ (p : RecordedPart). enlisted_in p.part) ps) ∙ sym (list_all-append test (superiors_in s) (flat_map (λ (p : RecordedPart). enlisted_in p.part) ps))

list_any-flat : {X Y : Type 0} (test : Y → Bool) (f : X → List Y) (xs : List X) → list_any (λ x. list_any test (f x)) xs ≡ list_any test (flat_map f xs)
list_any-flat test f [] = refl
list_any-flat test f (x ∷ xs) = ap (λ b. list_any test (f x) || b) (list_any-flat test f xs) ∙ sym (list_any-append test (f x) (flat_map f xs))

-- one passes where its superior's does or one of those of its parts
pub any-enlisted : (test : Id → Bool) (s : Option Superior) (ps : List RecordedPart)
    → (list_any test (superior_ids s) || list_any (λ (p : RecordedPart). list_any test (enlistments_in p.part)) ps) ≡ list_any test (superior_ids s ++ of_parts ps)
any-enlisted test s ps =
    ap (λ b. list_any test (superior_ids s) || b) (list_any-flat test (λ (p : RecordedPart). enlistments_in p.part) ps) ∙ sym (list_any-append test (superior_ids s) (of_parts ps))
