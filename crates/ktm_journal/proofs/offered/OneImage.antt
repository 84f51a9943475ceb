-- Bytes are one image at most.
use Rattle.std.proofs.Common.{◌≡◌, ℕ, ◌+◌, List, [], ◌∷◌, length, take, drop, refl, sym, ◌∙◌, ap, subst, arith}
use Rattle.ktm_log.specs.Log.{IsLog, area_bytes}
use Rattle.ktm_log.proofs.GoodOrBad.{one_log}
use Rattle.ktm_event.proofs.OneEvent.{one_group}
use Rattle.ktm_world.specs.Groups.{Group}
use Rattle.ktm_journal.specs.declared.half.Half.{Half}
use Rattle.ktm_journal.specs.Image.{HasSnapshot, HoldGroups, IsHeaded, IsImage, half_of, log_area, snapshot_area}

-- payloads are the groups of one log at most
pub one_groups : (log more : List Group) (ps : List (List ℕ)) → HoldGroups log ps → HoldGroups more ps → log ≡ more
one_groups [] [] ps left right = refl
one_groups [] (h ∷ more) [] left right = absurd right
one_groups [] (h ∷ more) (p ∷ ps) left right = absurd left
one_groups (g ∷ log) more [] left right = absurd left
one_groups (g ∷ log) [] (p ∷ ps) left right = absurd right
one_groups (g ∷ log) (h ∷ more) (p ∷ ps) left right =
    ap (λ (x : Group). x ∷ log) (one_group g h p left.0 right.0) ∙ ap (λ (l : List Group). h ∷ l) (one_groups log more ps left.1 right.1)

-- a header says one size, one number and one selector
pub one_header : (u v i j a b : ℕ) (bytes : List ℕ) → IsHeaded u i a bytes → IsHeaded v j b bytes → (u ≡ v) × (i ≡ j) × (a ≡ b)
one_header u v i j a b bytes left right = (sym left.units_are ∙ right.units_are, sym left.number ∙ right.number, sym left.selector_is ∙ right.selector_is)

-- a half has one snapshot
pub one_snapshot : (units : ℕ) (half : Half) (s t : List ℕ) (bytes : List ℕ) → HasSnapshot units half s bytes → HasSnapshot units half t bytes → s ≡ t
one_snapshot units half s t bytes left right =
    let long : length s ≡ length t = omega (arith, sym left.length_is ∙ right.length_is) in
    sym left.is ∙ ap (λ n. take n (drop ((snapshot_area units half).at + 8) bytes)) long ∙ right.is

-- where these payloads were read of the log of the half that counts, they are those of its groups
pub image_payloads : (units image selector : ℕ) (snapshot : List ℕ) (log : List Group) (payloads : List (List ℕ)) (bytes : List ℕ) → IsHeaded units image selector bytes → IsImage units image snapshot log bytes
    → IsLog payloads (area_bytes (log_area units (half_of selector)) bytes) → HoldGroups log payloads
image_payloads units image selector snapshot log payloads bytes headed is read =
    let selected : is.selector ≡ selector = sym is.formatted.headed.selector_is ∙ headed.selector_is in
    subst (λ (ps : List (List ℕ)). HoldGroups log ps)
    (one_log is.payloads payloads (area_bytes (log_area units (half_of selector)) bytes) (subst (λ n. IsLog is.payloads (area_bytes (log_area units (half_of n)) bytes)) selected is.frames) read) is.groups

same_image : (u i : ℕ) (s t : List ℕ) (log more : List Group) (bytes : List ℕ) → IsImage u i s log bytes → IsImage u i t more bytes → (s ≡ t) × (log ≡ more)
same_image u i s t log more bytes left right =
    let selected : left.selector ≡ right.selector = sym left.formatted.headed.selector_is ∙ right.formatted.headed.selector_is in (
      one_snapshot u (half_of right.selector) s t bytes (subst (λ n. HasSnapshot u (half_of n) s bytes) selected left.formatted.has) right.formatted.has,
      one_groups log more right.payloads (image_payloads u i right.selector s log right.payloads bytes right.formatted.headed left right.frames) right.groups,
    )

pub one_image : (u v i j : ℕ) (s t : List ℕ) (log more : List Group) (bytes : List ℕ) → IsImage u i s log bytes → IsImage v j t more bytes → (u ≡ v) × (i ≡ j) × (s ≡ t) × (log ≡ more)
one_image u v i j s t log more bytes left right =
    let (units, image, selector) = one_header u v i j left.selector right.selector bytes left.formatted.headed right.formatted.headed in
    let (snapshots, logs) = same_image v j s t log more bytes (subst (λ n. IsImage n j s log bytes) units (subst (λ n. IsImage u n s log bytes) image left)) right in
    (units, image, snapshots, logs)
