use Rattle.std.proofs.Common.{◌≡◌, ◌⊎◌, true, get_or, sym, ◌∙◌, inl, inr}
use Rattle.ktm_places.specs.Places.{bucket_of, no_entries}
use Rattle.ktm_places.proofs.Buckets.{none_there, one_there, other_there}
use Rattle.ktm_places.proofs.places.Places.place_of.Goals as goal
use Rattle.ktm_places.proofs.places.Places.place_of.Goals.{then-bucket-eq1, else-bucket-eq1}

pub returns-then-bucket-eq0 : goal.returns-then-bucket-eq0
returns-then-bucket-eq0 g c =
    let none = rw c.bucket-bucket.ensures at c.if-bucket-eq0.true in
    sym (none_there g.T.Entry.owner c.args.entries.now c.args.transaction c.args.self.now c.requires none)

pub returns-then-self : goal.returns-then-self
returns-then-self g c =
    let is = sym c.eq-is_its.ensures ∙ c.if-is_its.true in
    let only : ((get_or c.args.self.now.buckets.items (bucket_of c.args.transaction) no_entries).count ≡ 1) ⊎ (c.args.self.now.is_once ≡ true) = elim c.if-bucket-eq1.branch [
      | then-bucket-eq1 w ↦ inl (rw c.bucket-bucket.ensures at w.if-bucket-eq1.true)
      | else-bucket-eq1 w ↦ inr (sym w.value-is ∙ c.if-self.true)
    ] in
    sym (one_there g.T.Entry.owner c.args.entries.now c.args.transaction c.args.self.now c.requires c.stamped-place.result c.in-Some.owner (sym c.in-Some.ensures) is only)

pub returns-then-bucket_of : goal.returns-then-bucket_of
returns-then-bucket_of g c =
    let one = rw c.bucket-bucket.ensures at c.if-bucket-eq1-2.true in
    let bucket = sym c.bucket_of.ensures.is ∙ c.if-bucket_of.true ∙ c.bucket_of-then-bucket-eq1-2.ensures.is in
    sym (other_there g.T.Entry.owner c.args.entries.now c.args.transaction c.args.self.now c.requires c.stamped-place.result c.in-Some.owner (sym c.in-Some.ensures) (sym c.if-not-is_its.ensures) one bucket)
