-- Lemmas on what transactions hold, by the pairs of keys.
use Rattle.std.proofs.Common.{◌≡◌, ℕ, ◌==◌, ◌+◌, ◌*◌, ◌/◌, ◌%◌, ◌&&◌, ◌||◌, Bool, true, false, not, eqb, List, [], ◌∷◌, ◌++◌, map, bytes_eq, refl, sym, ap, ◌∙◌, inl, inr, arith, Option, Some}
use Rattle.std.specs.List.{list_any}
use Rattle.std.proofs.Math.Bool.{or-false}
use Rattle.std.proofs.lemmas.Bool.{and_from, and_parts, or_cases, eqb-true, eq-eqb}
use Rattle.std.proofs.lemmas.List.Folds.{list_any-append}
use Rattle.std.proofs.lemmas.Slice.Eq.{bytes_eq-Decides}
use Rattle.ktm_base.specs.declared.id.Id.{Id}
use Rattle.ktm_world.specs.Holds.{Place, directories_of, is_in, is_place_in, same_place}
use Rattle.ktm_world.specs.Transactions.{same_id, is_of}
use Rattle.ktm_links.specs.Numbers.{long_bytes}
use Rattle.txf_opens.proofs.Bytes.{node_leaves, node_tells}
use Rattle.txf_opens.proofs.Sharing.{turned_group}
use Rattle.txf_reserve.specs.Checks.{is_number_held}
use Rattle.txf_reserve.specs.HeldPairs.{has_pair, is_of_other, is_pair, Pair}
use Rattle.txf_reserve.specs.Parts.{is_other_among, is_place_held}
use Rattle.txf_reserve.specs.ReserveKeys.{holder_of, node_key, node_of_key, number_held, place_held, place_key, place_of_key, AreKeys, IsNodeKey, IsPlaceKey}
use Rattle.txf_reserve.specs.ReserveState.{NumberHeld, PlaceHeld, names_of, numbers_of}
use Rattle.txf_opens.proofs.Lists.{any-filter, any-map, any_agree}
use Rattle.txf_reserve.proofs.PairNames.{id_self, number_from-bytes}
use Rattle.txf_reserve.proofs.Present.{is_pair-true, pair}

-- two tests that each follow from the other are one
pub both_ways : (a b : Bool) → (a ≡ true → b ≡ true) → (b ≡ true → a ≡ true) → a ≡ b
both_ways true b to from = sym (to refl)
both_ways false true to from = from refl
both_ways false false to from = refl

and_turned : (a b : Bool) → (a && b) ≡ (b && a)
and_turned true true = refl
and_turned true false = refl
and_turned false true = refl
and_turned false false = refl

-- ---- keys
node_of-bytes : (n : ℕ) (rest : List ℕ) → node_of_key (long_bytes n rest) ≡ n
node_of-bytes n rest = rw (number_from-bytes (n / 4294967296), number_from-bytes (n % 4294967296)) (omega arith)

place_of-bytes : (n : ℕ) (name : List ℕ) → place_of_key (long_bytes n name) ≡ record { directory = n; name = name }
place_of-bytes n name =
    let P : ℕ → Place = λ d. record { directory = d; name = name } in
    rw (number_from-bytes (n / 4294967296), number_from-bytes (n % 4294967296)) (let whole : 4294967296 * (n / 4294967296) + n % 4294967296 ≡ n = omega arith in ap P whole)

-- a key tells its node
node_same : (key : List ℕ) (n : ℕ) → IsNodeKey key → (node_of_key key == n) ≡ bytes_eq key (node_key n)
node_same key n named =
    let number : node_of_key key ≡ named.number = ap node_of_key named.is ∙ node_of-bytes named.number [] in
    both_ways (eqb (node_of_key key) n) (bytes_eq key (node_key n))
    (λ same. (bytes_eq-Decides key (node_key n)).1 (named.is ∙ ap node_key (sym number ∙ eqb-true (node_of_key key) n same)))
    (λ same. eq-eqb (node_of_key key) n (number ∙ node_tells named.number n [] [] (sym named.is ∙ (bytes_eq-Decides key (node_key n)).0 same)))

-- a key tells its place
place_same : (key : List ℕ) (p : Place) → IsPlaceKey key → same_place p (place_of_key key) ≡ bytes_eq key (place_key p)
place_same key p named =
    let place : place_of_key key ≡ named.place = ap place_of_key named.is ∙ place_of-bytes named.place.directory named.place.name in
    ap (same_place p) place
    ∙ both_ways (same_place p named.place) (bytes_eq key (place_key p))
    (λ same.
    let parts = and_parts (eqb p.directory named.place.directory) (bytes_eq p.name named.place.name) same in
    let directory = eqb-true p.directory named.place.directory parts.0 in
    let name = (bytes_eq-Decides p.name named.place.name).0 parts.1 in
    (bytes_eq-Decides key (place_key p)).1
    (named.is ∙ ap (λ d. long_bytes d named.place.name) (sym directory) ∙ ap (long_bytes p.directory) (sym name)))
    (λ same.
    let is : long_bytes p.directory p.name ≡ long_bytes named.place.directory named.place.name = sym ((bytes_eq-Decides key (place_key p)).0 same) ∙ named.is in
    and_from (eqb p.directory named.place.directory) (bytes_eq p.name named.place.name)
    (eq-eqb p.directory named.place.directory (node_tells p.directory named.place.directory p.name named.place.name is))
    ((bytes_eq-Decides p.name named.place.name).1 (node_leaves p.directory named.place.directory p.name named.place.name is)))

-- a pair that is there has a key of its kind
key_of : (P : List ℕ → Type 0) (pairs : List Pair) (p : Pair) → AreKeys P pairs → ((q : Pair → Bool) → q p ≡ true → list_any q pairs ≡ true) → P p.key
key_of P pairs p are among =
    are p.key p.transaction
    (among (is_pair p.key p.transaction) (and_from (bytes_eq p.key p.key) (same_id p.transaction p.transaction) ((bytes_eq-Decides p.key p.key).1 refl) (id_self p.transaction)))

-- ---- what one transaction holds
pub numbers-any : (held : List NumberHeld) (id : Id) (n : ℕ) → is_in (numbers_of held id) n ≡ list_any (λ h. same_id h.transaction id && h.number == n) held
numbers-any held id n =
    any-map (λ m. m == n) (λ (h : NumberHeld). h.number) _ ∙ any-filter (λ (h : NumberHeld). h.number == n) (λ h. same_id h.transaction id) held

pub names-any : (held : List PlaceHeld) (id : Id) (p : Place) → is_place_in (names_of held id) p ≡ list_any (λ h. same_id h.transaction id && same_place p h.place) held
names-any held id p =
    any-map (same_place p) (λ (h : PlaceHeld). h.place) _ ∙ any-filter (λ (h : PlaceHeld). same_place p h.place) (λ h. same_id h.transaction id) held

pub number_has : (pairs : List Pair) → AreKeys IsNodeKey pairs → (id : Id) (n : ℕ) → is_in (numbers_of (map number_held pairs) id) n ≡ has_pair pairs (node_key n) id
number_has pairs are id n =
    numbers-any (map number_held pairs) id n
    ∙ any-map (λ (h : NumberHeld). same_id h.transaction id && h.number == n) number_held pairs
    ∙ any_agree (λ p. same_id p.transaction id && node_of_key p.key == n) (is_pair (node_key n) id) pairs (λ p among.
    and_turned (same_id p.transaction id) (node_of_key p.key == n)
    ∙ ap (λ b. b && same_id p.transaction id) (node_same p.key n (key_of IsNodeKey pairs p are among)))

pub place_has : (pairs : List Pair) → AreKeys IsPlaceKey pairs → (id : Id) (q : Place) → is_place_in (names_of (map place_held pairs) id) q ≡ has_pair pairs (place_key q) id
place_has pairs are id q =
    names-any (map place_held pairs) id q
    ∙ any-map (λ (h : PlaceHeld). same_id h.transaction id && same_place q h.place) place_held pairs
    ∙ any_agree (λ p. same_id p.transaction id && same_place q (place_of_key p.key)) (is_pair (place_key q) id) pairs (λ p among.
    and_turned (same_id p.transaction id) (same_place q (place_of_key p.key))
    ∙ ap (λ b. b && same_id p.transaction id) (place_same p.key q (key_of IsPlaceKey pairs p are among)))

pub moves_has : (pairs : List Pair) → AreKeys (λ key. key ≡ []) pairs → (id : Id) → list_any (λ i. same_id i id) (map holder_of pairs) ≡ has_pair pairs [] id
moves_has pairs are id =
    any-map (λ i. same_id i id) holder_of pairs
    ∙ any_agree (λ p. same_id p.transaction id) (is_pair [] id) pairs (λ p among.
    sym (ap (λ b. b && same_id p.transaction id) ((bytes_eq-Decides p.key []).1 (key_of (λ key. key ≡ []) pairs p are among))))

-- ---- what others hold
pub number_others : (pairs : List Pair) → AreKeys IsNodeKey pairs → (who : Option Id) (n : ℕ) → list_any (is_of_other (node_key n) who) pairs ≡ is_number_held who (map number_held pairs) n
number_others pairs are who n =
    any_agree (is_of_other (node_key n) who) (λ p. node_of_key p.key == n && not (is_of p.transaction who)) pairs (λ p among.
    ap (λ b. b && not (is_of p.transaction who)) (sym (node_same p.key n (key_of IsNodeKey pairs p are among))))
    ∙ sym (any-map (λ (h : NumberHeld). h.number == n && not (is_of h.transaction who)) number_held pairs)

pub place_others : (pairs : List Pair) → AreKeys IsPlaceKey pairs → (who : Option Id) (q : Place) → list_any (is_of_other (place_key q) who) pairs ≡ is_place_held who (map place_held pairs) q
place_others pairs are who q =
    any_agree (is_of_other (place_key q) who) (λ p. same_place q (place_of_key p.key) && not (is_of p.transaction who)) pairs (λ p among.
    ap (λ b. b && not (is_of p.transaction who)) (sym (place_same p.key q (key_of IsPlaceKey pairs p are among))))
    ∙ sym (any-map (λ (h : PlaceHeld). same_place q h.place && not (is_of h.transaction who)) place_held pairs)

pub moves_others : (pairs : List Pair) → AreKeys (λ key. key ≡ []) pairs → (who : Option Id) → list_any (is_of_other [] who) pairs ≡ is_other_among who (map holder_of pairs)
moves_others pairs are who =
    any_agree (is_of_other [] who) (λ p. not (is_of p.transaction who)) pairs (λ p among.
    ap (λ b. b && not (is_of p.transaction who)) ((bytes_eq-Decides p.key []).1 (key_of (λ key. key ≡ []) pairs p are among)))
    ∙ sym (any-map (λ i. not (is_of i who)) holder_of pairs)

-- ---- more and less
pub AreKeys-more : (P : List ℕ → Type 0) (old new : List Pair) (k : List ℕ) (t : Id) → ((key : List ℕ) (id : Id) → has_pair new key id ≡ (has_pair old key id || is_pair key id (pair k t)))
    → P k → AreKeys P old → AreKeys P new
AreKeys-more P old new k t more one are = λ key id has.
    elim (or_cases (has_pair old key id) (is_pair key id (pair k t)) (sym (more key id) ∙ has)) [
      | inl was ↦ are key id was
      | inr this ↦ rw (← (is_pair-true key id (pair k t) this).0) one
    ]

pub AreKeys-less : (P : List ℕ → Type 0) (old new : List Pair) (t : Id) → ((key : List ℕ) (id : Id) → has_pair new key id ≡ (has_pair old key id && not (same_id id t)))
    → AreKeys P old → AreKeys P new
AreKeys-less P old new t less are = λ key id has.
    are key id (and_parts (has_pair old key id) (not (same_id id t)) (sym (less key id) ∙ has)).0

-- two parts of what a change holds
pub two_parts : (h s a b : Bool) → ((h || (s && a)) || (s && b)) ≡ (h || (s && (a || b)))
two_parts true s a b = refl
two_parts false true a b = refl
two_parts false false a b = refl

pub is_in-directories : (xs ys : List Place) (n : ℕ) → (is_in (directories_of xs) n || is_in (directories_of ys) n) ≡ is_in (directories_of (xs ++ ys)) n
is_in-directories xs ys n =
    ap (λ b. b || is_in (directories_of ys) n) (any-map (λ m. m == n) (λ (p : Place). p.directory) xs)
    ∙ ap (λ b. list_any (λ (p : Place). p.directory == n) xs || b) (any-map (λ m. m == n) (λ (p : Place). p.directory) ys)
    ∙ sym (list_any-append (λ (p : Place). p.directory == n) xs ys)
    ∙ sym (any-map (λ m. m == n) (λ (p : Place). p.directory) (xs ++ ys))

pub is_place_in-append : (xs ys : List Place) (p : Place) → (is_place_in xs p || is_place_in ys p) ≡ is_place_in (xs ++ ys) p
is_place_in-append xs ys p = sym (list_any-append (same_place p) xs ys)

-- is the pair of a name one of this name and this transaction
pub is_pair-place : (p q : Place) (id t : Id) → is_pair (place_key p) id (pair (place_key q) t) ≡ (same_id id t && is_place_in (q ∷ []) p)
is_pair-place p q id t =
    let key : bytes_eq (place_key q) (place_key p) ≡ is_place_in (q ∷ []) p =
    sym (place_same (place_key q) p (record { place = q; is = refl }))
    ∙ ap (same_place p) (place_of-bytes q.directory q.name)
    ∙ sym (or-false (same_place p q)) in
    ap (λ b. b && same_id t id) key
    ∙ and_turned (is_place_in (q ∷ []) p) (same_id t id)
    ∙ ap (λ b. b && is_place_in (q ∷ []) p) (turned_group (Some t) (Some id))
