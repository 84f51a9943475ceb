-- Lemmas on a search over blocks, and then within one.
use Rattle.std.proofs.Common.{◌≡◌, ℕ, zero, suc, ◌+◌, ◌-◌, ◌<◌, ◌≤◌, List, [], ◌∷◌, length, get_or, take, refl, sym, ap, ◌∙◌, inl, inr, arith, length-append}
use Rattle.std.specs.Prelude.{Result, Ok, Err, Some}
use Rattle.std.specs.Ordering.{ordering_index}
use Rattle.std.specs.declared.cmp.Ordering.{Ordering}
use Rattle.std.specs.declared.cmp.Ordering.TheVariants.{Less, Equal, Greater}
use Rattle.std.specs.List.{slice_get}
use Rattle.std.specs.List.Sorted.{IsBinarySearchResult, IsNonDecreasingBy, IsPartitionPoint, IsSearchInRange}
use Rattle.std.proofs.lemmas.Bool.{cases_lt}
use Rattle.std.proofs.lemmas.List.{get_or-take, get_or_default, length-take, take_all}
use Rattle.std.proofs.lemmas.Option.{get_or_from_slice_get, slice_get-get_or, slice_get_within}
use Rattle.ktm_links.specs.declared.list.Key.{Key}
use Rattle.ktm_links.specs.declared.block.Spot.{Spot}
use Rattle.ktm_links.specs.Items.{Item}
use Rattle.ktm_links.specs.Mapped.{NameAndValue}
use Rattle.ktm_links.specs.Blocks.{flat, block_at, index_of, AreUsed, IsSpot}
use Rattle.ktm_links.specs.Order.{last_order, order_at, order_from, IsInOrder}
use Rattle.ktm_links.proofs.Blocks.{no_key, stands, used_at, within}
use Rattle.ktm_links.proofs.InOrder.{point_between, searchable}

-- ---- the last key of a block
-- where the last key of a block stands
abbrev pub last_spot : List (List Key) → ℕ → Spot
last_spot bs i = record { block = i; place = length (block_at bs i) - 1 }

-- a key stands there
pub last_there : (bs : List (List Key)) (i : ℕ) → AreUsed bs → i < length bs → IsSpot bs (last_spot bs i)
last_there bs i used inside = record { block = inside; place = omega (arith, used_at bs i used inside) }

-- the last keys of later blocks stand later
index_rises : (bs : List (List Key)) (i j : ℕ) → AreUsed bs → i ≤ j → j < length bs → index_of bs (last_spot bs i) ≤ index_of bs (last_spot bs j)
index_rises [] i j used under inside = absurd (omega (arith, inside))
index_rises (b ∷ bs) zero zero used under inside = omega arith
index_rises (b ∷ bs) (suc i) zero used under inside = absurd (omega (arith, under))
index_rises (b ∷ bs) zero (suc j) used under inside = omega (arith, length-append b (flat (take j bs)), used.0)
index_rises (b ∷ bs) (suc i) (suc j) used under inside =
    omega
    (arith, length-append b (flat (take i bs)), length-append b (flat (take j bs)), index_rises bs i j used.1 (omega (arith, under)) (omega (arith, inside)))

-- the next block begins behind the last key of this one
before : (bs : List (List Key)) (i : ℕ) → AreUsed bs → i < length bs → index_of bs (last_spot bs i) + 1 ≡ length (flat (take (suc i) bs))
before [] i used inside = absurd (omega (arith, inside))
before (b ∷ bs) zero used inside = omega (arith, length-append b [], used.0)
before (b ∷ bs) (suc i) used inside =
    omega (arith, length-append b (flat (take i bs)), length-append b (flat (take (suc i) bs)), before bs i used.1 (omega (arith, inside)))

-- the number before, and one more
suc_pred : (n : ℕ) → 0 < n → suc (n - 1) ≡ n
suc_pred n some = omega (arith, some)

-- what is not above `Less` is `Less`
least : (o : Ordering) → ordering_index o ≤ 0 → o ≡ Less
least Less low = refl
least Equal low = absurd (omega (arith, low))
least Greater low = absurd (omega (arith, low))

-- where the last one of some that are in order is below, all are
pub all_below : {X : Type 0} (ord : X → Ordering) (xs : List X) (last : X) → (0 < length xs → ord (get_or xs (length xs - 1) last) ≡ Less)
    → IsBinarySearchResult ord xs (Err (length xs))
all_below ord xs last less rises = (
  λ k d from to.
      let some : 0 < length xs = omega (arith, to) in
      let end : length xs - 1 < length xs = omega (arith, some) in
      let highest : ordering_index (ord (get_or xs (length xs - 1) d)) ≡ 0 =
      ap (λ x. ordering_index (ord x)) (get_or_default xs (length xs - 1) d last end) ∙ ap (λ o. ordering_index o) (less some) in
      let rise : ordering_index (ord (get_or xs k d)) ≤ ordering_index (ord (get_or xs (length xs - 1) d)) =
      rises k (length xs - 1) d (omega (arith, to)) end in
      least (ord (get_or xs k d)) (omega (arith, rise, highest)),
  λ k d from to. absurd (omega (arith, from, to)),
)

-- where the last one is above, a search among those before it is one among all
pub before_last : {X : Type 0} (ord : X → Ordering) (xs : List X) (last : X) (r : Result ℕ ℕ) → 0 < length xs → ord (get_or xs (length xs - 1) last) ≡ Greater
    → IsSearchInRange r (length (take (length xs - 1) xs)) → IsBinarySearchResult ord (take (length xs - 1) xs) r → IsBinarySearchResult ord xs r
before_last ord xs last (Ok i) some more inside result = λ d.
    let within : i < length xs - 1 = omega (arith, inside, length-take (length xs - 1) xs) in
    ap ord (sym (get_or-take (length xs - 1) xs i d within)) ∙ result d
before_last {X = X} ord xs last (Err i) some more inside result = λ rises.
    let count : length (take (length xs - 1) xs) ≡ length xs - 1 = omega (arith, length-take (length xs - 1) xs) in
    let point =
    result
    (λ j k d under within.
    let here : k < length xs - 1 = omega (arith, count, within) in
    rw (get_or-take (length xs - 1) xs j d (omega (arith, under, here)), get_or-take (length xs - 1) xs k d here) (rises j k d under (omega (arith, here)))) in (
      λ k d from to. ap ord (sym (get_or-take (length xs - 1) xs k d (omega (arith, count, to, inside)))) ∙ point.0 k d from to,
      λ k d from to.
          elim (cases_lt k (length xs - 1)) [
            | inl here ↦ ap ord (sym (get_or-take (length xs - 1) xs k d here)) ∙ point.1 k d from (omega (arith, here, count))
            | inr past ↦
                let end : k ≡ length xs - 1 = omega (arith, past, to) in
                rw end (ap ord (get_or_default xs (length xs - 1) d last (omega (arith, some))) ∙ more)
          ],
    )

module _ {T : Type 0} where
  -- the last key of a block, told by all keys
  pub last_is : (items : List (Item (NameAndValue T))) (name : List ℕ) (bs : List (List Key)) (i : ℕ) (d : Key) → AreUsed bs → i < length bs
      → last_order items name (block_at bs i) ≡ order_at items name (get_or (flat bs) (index_of bs (last_spot bs i)) d)
  last_is items name bs i d used inside =
      let there = last_there bs i used inside in
      ap (λ o. order_from items name o) (slice_get-get_or (block_at bs i) (length (block_at bs i) - 1) d there.place)
      ∙ ap (λ k. order_at items name k) (sym (stands bs (last_spot bs i) d there))

  -- the blocks are in order of what a search compares
  lasts_rise : (items : List (Item (NameAndValue T))) (name : List ℕ) (bs : List (List Key)) → AreUsed bs → IsInOrder items (flat bs)
      → IsNonDecreasingBy (λ keys. ordering_index (last_order items name keys)) bs
  lasts_rise items name bs used ordered i j d under inside =
      let inside' : i < length bs = omega (arith, under, inside) in
      let there = last_there bs j used inside in
      rw (
        get_or_default bs i d [] inside',
        get_or_default bs j d [] inside,
        last_is items name bs i no_key used inside',
        last_is items name bs j no_key used inside,
      )
      (searchable items name (flat bs) ordered.present ordered.rising (index_of bs (last_spot bs i)) (index_of bs (last_spot bs j))
      no_key (index_rises bs i j used under inside)
      (within bs (last_spot bs j) there))

  -- the keys of a block are in order of what a search compares
  block_rises : (items : List (Item (NameAndValue T))) (name : List ℕ) (bs : List (List Key)) (b : ℕ) → IsInOrder items (flat bs) → b < length bs
      → IsNonDecreasingBy (λ k. ordering_index (order_at items name k)) (block_at bs b)
  block_rises items name bs b ordered inside i j d under here =
      let low = stands bs (record { block = b; place = i }) d (record { block = inside; place = omega (arith, under, here) }) in
      let high = stands bs (record { block = b; place = j }) d (record { block = inside; place = here }) in
      rw (sym low, sym high)
      (searchable items name (flat bs) ordered.present ordered.rising (index_of bs (record { block = b; place = i })) (index_of bs (record { block = b; place = j })) d
      (omega (arith, under)) (within bs (record { block = b; place = j }) (record { block = inside; place = here })))

  -- where the last key of a block is below, the key before the next block is
  lower_end : (items : List (Item (NameAndValue T))) (name : List ℕ) (bs : List (List Key)) (b : ℕ) (d : Key) → AreUsed bs → b < length bs
      → last_order items name (block_at bs b) ≡ Less → order_at items name (get_or (flat bs) (length (flat (take (suc b) bs)) - 1) d) ≡ Less
  lower_end items name bs b d used inside less =
      let at : length (flat (take (suc b) bs)) - 1 ≡ index_of bs (last_spot bs b) = omega (arith, before bs b used inside) in
      rw at (sym (last_is items name bs b d used inside) ∙ less)

  -- where the last key of the last block is below, all keys are
  pub end_point : (items : List (Item (NameAndValue T))) (name : List ℕ) (bs : List (List Key)) (i : ℕ) → IsInOrder items (flat bs) → AreUsed bs
      → (0 < length bs → last_order items name (block_at bs (length bs - 1)) ≡ Less) → i ≡ length (flat bs)
      → IsPartitionPoint (λ k. order_at items name k ≡ Less) (λ k. order_at items name k ≡ Greater) (flat bs) i
  end_point items name bs i ordered used less end =
      point_between (λ k. order_at items name k) (flat bs) i (searchable items name (flat bs) ordered.present ordered.rising) (omega (arith, end))
      (λ d some. below bs refl d some) (λ d inside. absurd (omega (arith, end, inside)))
    where
      below : (cs : List (List Key)) → bs ≡ cs → (d : Key) → 0 < i → order_at items name (get_or (flat bs) (i - 1) d) ≡ Less
      below [] is d some = absurd (omega (arith, end, some, ap (λ l. length (flat l)) is))
      below (c ∷ cs) is d some =
          let count : length bs ≡ suc (length cs) = ap (λ l. length l) is in
          let at : i - 1 ≡ length (flat (take (suc (length bs - 1)) bs)) - 1 =
          omega (arith, end, ap (λ n. length (flat (take n bs))) (suc_pred (length bs) (omega (arith, count))), ap (λ l. length (flat l)) (take_all (length bs) bs (omega arith))) in
          rw at (lower_end items name bs (length bs - 1) d used (omega (arith, count)) (less (omega (arith, count))))

  -- where all blocks are below, the last one is
  pub last_below : (items : List (Item (NameAndValue T))) (name : List ℕ) (bs : List (List Key)) (b : ℕ) → AreUsed bs → IsInOrder items (flat bs) → b ≡ length bs
      → IsBinarySearchResult (last_order items name) bs (Err b) → 0 < length bs → last_order items name (block_at bs (length bs - 1)) ≡ Less
  last_below items name bs b used ordered all result some =
      (result (lasts_rise items name bs used ordered)).0 (length bs - 1) [] (omega arith) (omega (arith, all, some))

  -- ---- what a search within a block says of all keys
  -- the last key of a block, if it has the name, is what a search finds
  pub found_last : (items : List (Item (NameAndValue T))) (name : List ℕ) (bs : List (List Key)) (b place : ℕ) → AreUsed bs → b < length bs
      → place ≡ length (block_at bs b) - 1 → IsBinarySearchResult (last_order items name) bs (Ok b)
      → IsBinarySearchResult (order_at items name) (flat bs) (Ok (index_of bs (record { block = b; place = place })))
  found_last items name bs b place used inside last result = λ d.
      ap (λ p. order_at items name (get_or (flat bs) (index_of bs (record { block = b; place = p })) d)) last
      ∙ sym (last_is items name bs b d used inside)
      ∙ result []

  -- a name that goes between two keys of a block stands before the second of them
  pub behind : (items : List (Item (NameAndValue T))) (name : List ℕ) (bs : List (List Key)) (b place : ℕ) (key next : Key) → IsInOrder items (flat bs)
      → b < length bs → slice_get (block_at bs b) place ≡ Some key → slice_get (block_at bs b) (place + 1) ≡ Some next
      → order_at items name key ≡ Less → order_at items name next ≡ Greater
      → IsPartitionPoint (λ k. order_at items name k ≡ Less) (λ k. order_at items name k ≡ Greater) (flat bs) (index_of bs (record { block = b; place = place + 1 }))
  behind items name bs b place key next ordered inside here there less more =
      let low : IsSpot bs (record { block = b; place = place }) = record { block = inside; place = slice_get_within (block_at bs b) place key here } in
      let high : IsSpot bs (record { block = b; place = place + 1 }) = record { block = inside; place = slice_get_within (block_at bs b) (place + 1) next there } in
      point_between (λ k. order_at items name k) (flat bs) (index_of bs (record { block = b; place = place + 1 })) (searchable items name (flat bs) ordered.present ordered.rising)
      (omega (arith, within bs (record { block = b; place = place + 1 }) high))
      (λ d some.
      let at : index_of bs (record { block = b; place = place + 1 }) - 1 ≡ index_of bs (record { block = b; place = place }) = omega arith in
      rw at (ap (λ k. order_at items name k) (stands bs (record { block = b; place = place }) d low ∙ get_or_from_slice_get (block_at bs b) place key d here) ∙ less))
      (λ d some. ap (λ k. order_at items name k) (stands bs (record { block = b; place = place + 1 }) d high ∙ get_or_from_slice_get (block_at bs b) (place + 1) next d there) ∙ more)

  -- the key in a block that has the name is what a search finds
  pub found_here : (items : List (Item (NameAndValue T))) (name : List ℕ) (bs : List (List Key)) (b place : ℕ) (keys : List Key)
      → IsSpot bs (record { block = b; place = place }) → block_at bs b ≡ keys → IsBinarySearchResult (order_at items name) keys (Ok place)
      → IsBinarySearchResult (order_at items name) (flat bs) (Ok (index_of bs (record { block = b; place = place })))
  found_here items name bs b place keys there same result = λ d.
      ap (λ k. order_at items name k) (stands bs (record { block = b; place = place }) d there ∙ ap (λ l. get_or l place d) same) ∙ result d

  -- the place in the block of a name that is not there
  pub between : (items : List (Item (NameAndValue T))) (name : List ℕ) (bs : List (List Key)) (b place : ℕ) → AreUsed bs → IsInOrder items (flat bs)
      → b < length bs → place ≤ length (block_at bs b) → IsBinarySearchResult (last_order items name) bs (Err b)
      → IsBinarySearchResult (order_at items name) (block_at bs b) (Err place)
      → IsSpot bs (record { block = b; place = place })
      × IsPartitionPoint (λ k. order_at items name k ≡ Less) (λ k. order_at items name k ≡ Greater) (flat bs) (index_of bs (record { block = b; place = place }))
  between items name bs b place used ordered inside bound outer inner =
      let blocks = outer (lasts_rise items name bs used ordered) in
      let keys = inner (block_rises items name bs b ordered inside) in
      let there : IsSpot bs (record { block = b; place = place }) =
      record {
        block = inside;
        place = elim (cases_lt place (length (block_at bs b))) [
          | inl here ↦ here
          | inr past ↦
              absurd
              (let some = used_at bs b used inside in
              let last = length (block_at bs b) - 1 in
              let less = keys.0 last no_key (omega arith) (omega (arith, past, some)) in
              let more = blocks.1 b [] (omega arith) inside in
              let more' = sym (ap (λ o. order_from items name o) (slice_get-get_or (block_at bs b) last no_key (omega (arith, some)))) ∙ more in
              let clash = sym less ∙ more' in
              cc)
        ];
      } in (
        there,
        point_between (λ k. order_at items name k) (flat bs) (index_of bs (record { block = b; place = place })) (searchable items name (flat bs) ordered.present ordered.rising)
            (omega (arith, within bs (record { block = b; place = place }) there))
            (λ d some. below b refl place refl d some)
            (λ d here. ap (λ k. order_at items name k) (stands bs (record { block = b; place = place }) d there) ∙ keys.1 place d (omega arith) there.place),
      )
    where
      below : (b' : ℕ) → b ≡ b' → (p : ℕ) → place ≡ p → (d : Key) → 0 < index_of bs (record { block = b; place = place })
          → order_at items name (get_or (flat bs) (index_of bs (record { block = b; place = place }) - 1) d) ≡ Less
      below b' at (suc p) is d some =
          let keys = inner (block_rises items name bs b ordered inside) in
          let there : IsSpot bs (record { block = b; place = p }) = record { block = inside; place = omega (arith, bound, is) } in
          let index : index_of bs (record { block = b; place = place }) - 1 ≡ index_of bs (record { block = b; place = p }) = omega (arith, is) in
          rw index (ap (λ k. order_at items name k) (stands bs (record { block = b; place = p }) d there) ∙ keys.0 p d (omega arith) (omega (arith, is)))
      below zero at zero is d some = absurd (omega (arith, some, is, ap (λ n. length (flat (take n bs))) at))
      below (suc b') at zero is d some =
          let blocks = outer (lasts_rise items name bs used ordered) in
          let low : b' < length bs = omega (arith, at, inside) in
          let index : index_of bs (record { block = b; place = place }) - 1 ≡ length (flat (take (suc b') bs)) - 1 =
          omega (arith, is, ap (λ n. length (flat (take n bs))) at) in
          rw index (lower_end items name bs b' d used low (blocks.0 b' [] (omega arith) (omega (arith, at))))
