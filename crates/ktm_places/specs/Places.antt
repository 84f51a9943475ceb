-- How many entries there are in each bucket of transactions.
use Rattle.std.specs.Prelude.{◌≡◌, ℕ, ◌%◌, ◌≤◌, ◌==◌, ◌&&◌, Bool, true, List, count_by, length, slice_index_or}
use Rattle.ktm_base.specs.declared.id.Id.{Id}
use Rattle.ktm_places.specs.declared.places.Bucket.{Bucket}
use Rattle.ktm_places.specs.declared.places.Places.{Places}
use Rattle.ktm_places.specs.declared.places.TheConstants.{BUCKETS}

-- the bucket of a transaction: the low bits of its number
abbrev pub bucket_of : Id → ℕ
bucket_of id = id.number % BUCKETS

-- is the transaction in this bucket
abbrev pub is_in : ℕ → Id → Bool
is_in bucket id = bucket_of id == bucket

-- is it the transaction's
abbrev pub is_its : Id → Id → Bool
is_its transaction id = (id.boot == transaction.boot) && (id.number == transaction.number)

-- a bucket that counts no entry
abbrev pub no_entries : Bucket
no_entries = record { count = 0; stamp = 0; earlier = 0 }

-- each bucket counts its transactions; one that is not there has none
pub record AreInBuckets (ids : List Id) (buckets : List Bucket) : Type 0 where
  pub counted : (bucket : ℕ) → (slice_index_or buckets bucket no_entries).count ≡ count_by (is_in bucket) ids

-- the memory is there for entries of any transactions
abbrev pub HasBuckets : Places → Type 0
HasBuckets places = BUCKETS ≤ length places.buckets.items

-- these are the places of entries of these transactions, of which none has two where it is said so
pub record AreCounted (ids : List Id) (places : Places) : Type 0 where
  pub buckets : AreInBuckets ids places.buckets.items
  pub once : places.is_once ≡ true → (transaction : Id) → count_by (is_its transaction) ids ≤ 1
