-- How many settings of all transactions pass a test, once one has a setting more, or a transaction is there again.
use Rattle.std.proofs.Common.{◌≡◌, ℕ, ◌+◌, Bool, List, [], ◌∷◌, ◌++◌, Option, None, Some, count_by, get_or, set, ap, arith}
use Rattle.std.proofs.lemmas.List.Sums.{sum_by-set, sum_by-append, sum_by-cons}
use Rattle.std.specs.Prelude.{MatchOption}
use Rattle.ktm_base.specs.declared.id.Id.{Id}
use Rattle.ktm_keyed.specs.declared.keyed.Keyed.{Keyed}
use Rattle.ktm_keyed.specs.Keyed.{put}
use Rattle.ktm_world.specs.Keys.{Own, OwnSettings, own_settings, with_own}
use Rattle.ktm_world.proofs.offered.KeyLemmas.{counted}
use Rattle.kv_rm.specs.Place.{IsPlace, IsAbsent}

module _ (p : Keyed (Option (List ℕ)) → Bool) (own : List Own) (id : Id) where
  -- the count of a transaction's settings
  abbrev of_one : Own → ℕ
  of_one o = count_by p o.settings

  -- what comes to a transaction's settings and goes comes to all and goes
  pub counted-with_own : (key : List ℕ) (place : Option ℕ) → MatchOption place (IsAbsent own id) (IsPlace own id) → (value : Option (List ℕ)) (gone come : ℕ)
      → count_by p (put (own_settings own id) key value) + gone ≡ count_by p (own_settings own id) + come
      → counted p (with_own own id key value) + gone ≡ counted p own + come
  counted-with_own key None absent value gone come one =
      let o : Own = record { transaction = id; settings = put [] key value } in
      let all : counted p (with_own own id key value) ≡ counted p (own ++ o ∷ []) = ap (counted p) (absent.adds key value) in
      let more : counted p (own ++ o ∷ []) ≡ counted p own + counted p (o ∷ []) = sum_by-append of_one own (o ∷ []) in
      let last : counted p (o ∷ []) ≡ of_one o + 0 = sum_by-cons of_one o [] in
      let new : count_by p (put (own_settings own id) key value) ≡ of_one o = ap (λ l. count_by p (put l key value)) absent.settings in
      let old : count_by p (own_settings own id) ≡ 0 = ap (count_by p) absent.settings in
      omega (arith, all, more, last, new, old, one)
  counted-with_own key (Some i) place value gone come one =
      let d : Own = record { transaction = id; settings = [] } in
      let x : Own = get_or own i d in
      let y : Own = record x { settings = put x.settings key value } in
      let all : counted p (with_own own id key value) ≡ counted p (set own i y) = ap (counted p) (place.changes key value d) in
      let changed : counted p (set own i y) + of_one x ≡ counted p own + of_one y = sum_by-set of_one own i y d place.within in
      let new : count_by p (put (own_settings own id) key value) ≡ of_one y = ap (λ l. count_by p (put l key value)) (place.settings d) in
      let old : count_by p (own_settings own id) ≡ of_one x = ap (count_by p) (place.settings d) in
      omega (arith, all, changed, new, old, one)

  -- a transaction has these settings too
  pub counted-restored : (settings : OwnSettings) → counted p (own ++ record { transaction = id; settings = settings } ∷ []) ≡ counted p own + count_by p settings
  counted-restored settings =
      let o : Own = record { transaction = id; settings = settings } in
      let all = sum_by-append of_one own (o ∷ []) in
      let last = sum_by-cons of_one o [] in
      omega (arith, all, last)
