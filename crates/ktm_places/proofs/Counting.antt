-- The counts of buckets, as the buckets are taken.
use Rattle.std.proofs.Common.{◌≡◌, ℕ, ◌-◌, ◌≤◌, List, ◌++◌, length, get_or, take, replicate, refl, sym, ◌∙◌, ap, arith, inl, inr}
use Rattle.std.proofs.lemmas.Bool.{cases_lt}
use Rattle.std.proofs.lemmas.List.{get_or_append_left, get_or-append_right, get_or-replicate, get_or_past, length-replicate, take_all}
use Rattle.ktm_base.specs.declared.id.Id.{Id}
use Rattle.ktm_places.specs.declared.places.Bucket.{Bucket}
use Rattle.ktm_places.specs.Places.{no_entries, AreInBuckets}

-- buckets with no entries are like none
empty : (n i : ℕ) → get_or (replicate n no_entries) i no_entries ≡ no_entries
empty n i = elim (cases_lt i n) [
  | inl within ↦ get_or-replicate n i no_entries no_entries within
  | inr past ↦ get_or_past (replicate n no_entries) i no_entries (omega (arith, past, length-replicate n no_entries))
]

padded : (buckets : List Bucket) (n i : ℕ) → get_or (buckets ++ replicate n no_entries) i no_entries ≡ get_or buckets i no_entries
padded buckets n i = elim (cases_lt i (length buckets)) [
  | inl within ↦ get_or_append_left buckets (replicate n no_entries) no_entries i within
  | inr past ↦ get_or-append_right buckets (replicate n no_entries) (length buckets) i no_entries refl past ∙ empty n (i - length buckets) ∙ sym (get_or_past buckets i no_entries past)
]

-- more of them count the same
pub counted-resized : (ids : List Id) (buckets : List Bucket) (n m : ℕ) → length buckets ≤ n → AreInBuckets ids buckets → AreInBuckets ids (take n buckets ++ replicate m no_entries)
counted-resized ids buckets n m short are = record {
  counted = λ i. ap (λ (bs : List Bucket). (get_or (bs ++ replicate m no_entries) i no_entries).count) (take_all n buckets short) ∙ ap (λ (b : Bucket). b.count) (padded buckets m i) ∙ are.counted i;
}
