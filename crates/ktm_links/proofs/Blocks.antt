-- Lemmas on keys in blocks.
use Rattle.std.proofs.Common.{◌≡◌, ℕ, zero, suc, ◌+◌, ◌-◌, ◌<◌, ◌≤◌, ◌*◌, List, [], ◌∷◌, ◌++◌, length, get_or, set, take, drop, refl, sym, ap, subst, ◌∙◌, inl, inr, arith, append_assoc, length-append, length-take, length-drop, Option, Some, None}
use Rattle.std.specs.Prelude.{option_to_list}
use Rattle.std.specs.List.{insert, remove, slice_get}
use Rattle.std.proofs.Math.ListN.{drop_of_length-le}
use Rattle.std.proofs.Math.Seq.{drop-append-add}
use Rattle.std.proofs.lemmas.List.{append-nil, drop-append-le, get_or-append-add, get_or-set_other, get_or-set_same, get_or_default, get_or_past, length-set, take-append-drop, take_all}
use Rattle.std.proofs.lemmas.List.Edits.{length-insert, length-remove, insert-append_left, insert-append_right, remove-append_left, remove-append_right}
use Rattle.std.proofs.lemmas.Bool.{cases_lt}
use Rattle.std.proofs.lemmas.Option.{slice_get-get_or, slice_get_past}
use Rattle.ktm_links.specs.declared.list.Key.{Key}
use Rattle.ktm_links.specs.declared.block.Spot.{Spot}
use Rattle.ktm_links.specs.Blocks.{flat, block_at, index_of, joined, IsSpot, IsRoom, IsGap, IsPaired, AreUsed, ArePaired, AreFree, AreBlocks, Settles}

-- ---- a list in three parts
module _ {A : Type 0} where
  -- an element put into the middle part
  insert-mid : (left keys right : List A) (p : ℕ) (key : A) → p ≤ length keys
      → insert (left ++ (keys ++ right)) (length left + p) key ≡ left ++ (insert keys p key ++ right)
  insert-mid left keys right p key within =
      insert-append_right left (keys ++ right) (length left) (length left + p) key refl (omega arith)
      ∙ ap (λ i. left ++ insert (keys ++ right) i key) (omega arith)
      ∙ ap (λ l. left ++ l) (insert-append_left keys right p key within)

  -- an element taken out of the middle part
  remove-mid : (left keys right : List A) (p : ℕ) → p < length keys
      → remove (left ++ (keys ++ right)) (length left + p) ≡ left ++ (remove keys p ++ right)
  remove-mid left keys right p within =
      remove-append_right left (keys ++ right) (length left) (length left + p) refl (omega arith)
      ∙ ap (λ i. left ++ remove (keys ++ right) i) (omega arith)
      ∙ ap (λ l. left ++ l) (remove-append_left keys right p within)

  -- an element of the first of two lists
  get_or-left : (xs ys : List A) (i : ℕ) (d : A) → i < length xs → get_or (xs ++ ys) i d ≡ get_or xs i d
  get_or-left [] ys i d within = absurd (omega (arith, within))
  get_or-left (x ∷ xs) ys zero d within = refl
  get_or-left (x ∷ xs) ys (suc i) d within = get_or-left xs ys i d (omega (arith, within))

  -- an element of the middle part
  get_or-mid : (left keys right : List A) (p : ℕ) (d : A) → p < length keys → get_or (left ++ (keys ++ right)) (length left + p) d ≡ get_or keys p d
  get_or-mid left keys right p d within = get_or-append-add left (keys ++ right) p d ∙ get_or-left keys right p d within

-- ---- the keys before, in and behind a block
-- all keys, as those before a block, in it and behind it
flat-at : (bs : List (List Key)) (i : ℕ) → i < length bs → flat bs ≡ flat (take i bs) ++ (block_at bs i ++ flat (drop (suc i) bs))
flat-at [] i within = absurd (omega (arith, within))
flat-at (b ∷ bs) zero within = refl
flat-at (b ∷ bs) (suc i) within =
    ap (λ l. b ++ l) (flat-at bs i (omega (arith, within))) ∙ sym (append_assoc b (flat (take i bs)) (block_at bs i ++ flat (drop (suc i) bs)))

-- all keys, once one block has other keys
flat-set : (bs : List (List Key)) (i : ℕ) (k : List Key) → i < length bs → flat (set bs i k) ≡ flat (take i bs) ++ (k ++ flat (drop (suc i) bs))
flat-set [] i k within = absurd (omega (arith, within))
flat-set (b ∷ bs) zero k within = refl
flat-set (b ∷ bs) (suc i) k within =
    ap (λ l. b ++ l) (flat-set bs i k (omega (arith, within))) ∙ sym (append_assoc b (flat (take i bs)) (k ++ flat (drop (suc i) bs)))

-- how many keys there are, by the same parts
length-flat-at : (bs : List (List Key)) (i : ℕ) → i < length bs
    → length (flat bs) ≡ length (flat (take i bs)) + (length (block_at bs i) + length (flat (drop (suc i) bs)))
length-flat-at bs i within =
    ap (λ l. length l) (flat-at bs i within)
    ∙ length-append (flat (take i bs)) (block_at bs i ++ flat (drop (suc i) bs))
    ∙ ap (λ n. length (flat (take i bs)) + n) (length-append (block_at bs i) (flat (drop (suc i) bs)))

-- ---- one key more or less
-- a key put into its block is put among all keys
pub inserted : (bs : List (List Key)) (spot : Spot) (key : Key) → IsRoom bs spot
    → flat (set bs spot.block (insert (block_at bs spot.block) spot.place key)) ≡ insert (flat bs) (index_of bs spot) key
inserted bs spot key room =
    flat-set bs spot.block (insert (block_at bs spot.block) spot.place key) room.block
    ∙ sym
    (ap (λ l. insert l (index_of bs spot) key) (flat-at bs spot.block room.block)
    ∙ insert-mid (flat (take spot.block bs)) (block_at bs spot.block) (flat (drop (suc spot.block) bs)) spot.place key room.place)

-- a key taken out of its block is taken out of all keys
pub removed : (bs : List (List Key)) (spot : Spot) → IsSpot bs spot
    → flat (set bs spot.block (remove (block_at bs spot.block) spot.place)) ≡ remove (flat bs) (index_of bs spot)
removed bs spot there =
    flat-set bs spot.block (remove (block_at bs spot.block) spot.place) there.block
    ∙ sym
    (ap (λ l. remove l (index_of bs spot)) (flat-at bs spot.block there.block)
    ∙ remove-mid (flat (take spot.block bs)) (block_at bs spot.block) (flat (drop (suc spot.block) bs)) spot.place there.place)

-- the key at a place of a block is the key at its place among all
pub stands : (bs : List (List Key)) (spot : Spot) (d : Key) → IsSpot bs spot → get_or (flat bs) (index_of bs spot) d ≡ get_or (block_at bs spot.block) spot.place d
stands bs spot d there =
    ap (λ l. get_or l (index_of bs spot) d) (flat-at bs spot.block there.block)
    ∙ get_or-mid (flat (take spot.block bs)) (block_at bs spot.block) (flat (drop (suc spot.block) bs)) spot.place d there.place

-- where a key stands is below the number of all keys
pub within : (bs : List (List Key)) (spot : Spot) → IsSpot bs spot → index_of bs spot < length (flat bs)
within bs spot there = omega (arith, length-flat-at bs spot.block there.block, there.place)

-- where a key may go is at most the number of all keys
pub within_gap : (bs : List (List Key)) (spot : Spot) → IsGap bs spot → index_of bs spot ≤ length (flat bs)
within_gap bs spot gap =
    elim gap.here [
      | inl here ↦
          (elim (cases_lt spot.block (length bs)) [
            | inl inside ↦ omega (arith, length-flat-at bs spot.block inside, here)
            | inr past ↦ absurd (omega (arith, here, ap (λ l. length l) (get_or_past bs spot.block [] past)))
          ])
      | inr end ↦ omega (arith, end)
    ]

-- a key may go where one stands
pub spot_gap : (bs : List (List Key)) (spot : Spot) → IsSpot bs spot → IsGap bs spot
spot_gap bs spot there = record {
  block = omega (arith, there.block);
  place = omega (arith, there.place);
  here = inl there.place;
  behind = λ end. absurd (omega (arith, there.block, end));
}

-- ---- each block has a key
-- each of the blocks has a key
pub used_at : (bs : List (List Key)) (i : ℕ) → AreUsed bs → i < length bs → 0 < length (block_at bs i)
used_at [] i used within = absurd (omega (arith, within))
used_at (b ∷ bs) zero used within = used.0
used_at (b ∷ bs) (suc i) used within = used_at bs i used.1 (omega (arith, within))

-- a block may have other keys, if it has one
used-set : (bs : List (List Key)) (i : ℕ) (k : List Key) → AreUsed bs → 0 < length k → AreUsed (set bs i k)
used-set [] i k used some = tt
used-set (b ∷ bs) zero k used some = (some, used.1)
used-set (b ∷ bs) (suc i) k used some = (used.0, used-set bs i k used.1 some)

-- one more block may come, if it has a key
used-push : (bs : List (List Key)) (k : List Key) → AreUsed bs → 0 < length k → AreUsed (bs ++ k ∷ [])
used-push [] k used some = (some, tt)
used-push (b ∷ bs) k used some = (used.0, used-push bs k used.1 some)

-- one block may go
used-remove : (bs : List (List Key)) (i : ℕ) (k : List Key) → AreUsed bs → AreUsed (remove (set bs i k) i)
used-remove [] zero k used = tt
used-remove [] (suc i) k used = tt
used-remove (b ∷ bs) zero k used = used.1
used-remove (b ∷ bs) (suc i) k used = (used.0, used-remove bs i k used.1)

-- one more block with no key
free-push : (bs : List (List Key)) (k : List Key) → AreFree bs → k ≡ [] → AreFree (bs ++ k ∷ [])
free-push [] k free none = (none, tt)
free-push (b ∷ bs) k free none = (free.0, free-push bs k free.1 none)

-- the last of the blocks with no key has none
free-pop : (bs : List (List Key)) (k : List Key) → AreFree (bs ++ k ∷ []) → AreFree bs × (k ≡ [])
free-pop [] k free = (tt, free.0)
free-pop (b ∷ bs) k free = let rest = free-pop bs k free.1 in ((free.0, rest.0), rest.1)

-- ---- neighbours
-- two neighbours stay so with more keys
paired-more : (k x : List Key) (bs : List (List Key)) → length k ≤ length x → IsPaired k bs → IsPaired x bs
paired-more k x [] more paired = tt
paired-more k x (b ∷ bs) more paired = omega (arith, more, paired)

-- a block may get more keys
paired-set : (bs : List (List Key)) (i : ℕ) (x : List Key) → ArePaired bs → length (block_at bs i) ≤ length x → ArePaired (set bs i x)
paired-set [] i x paired more = tt
paired-set (b ∷ bs) zero x paired more = (paired-more b x bs more paired.0, paired.1)
paired-set (b ∷ bs) (suc i) x paired more = (first bs i paired.0 more, paired-set bs i x paired.1 more)
  where
    first : (bs : List (List Key)) (i : ℕ) → IsPaired b bs → length (block_at bs i) ≤ length x → IsPaired b (set bs i x)
    first [] i paired more = tt
    first (c ∷ bs) zero paired more = omega (arith, paired, more)
    first (c ∷ bs) (suc i) paired more = paired

-- a block may come behind one that is full
paired-push : (bs : List (List Key)) (k : List Key) → ArePaired bs → 0 < length k → ((last : ℕ) → last + 1 ≡ length bs → 32 ≤ length (block_at bs last))
    → ArePaired (bs ++ k ∷ [])
paired-push [] k paired some full = (tt, tt)
paired-push (b ∷ []) k paired some full = (omega (arith, some, full 0 refl), (tt, tt))
paired-push (b ∷ c ∷ bs) k paired some full = (paired.0, paired-push (c ∷ bs) k paired.1 some (λ last end. full (suc last) (omega (arith, end))))

-- a full block may become two
paired-split : (bs : List (List Key)) (i : ℕ) (lower upper : List Key) → ArePaired bs → AreUsed bs → i < length bs → 16 ≤ length lower → 16 ≤ length upper
    → ArePaired (insert (set bs i lower) (suc i) upper)
paired-split [] i lower upper paired used within low up = absurd (omega (arith, within))
paired-split (b ∷ []) zero lower upper paired used within low up = (omega (arith, low, up), (tt, tt))
paired-split (b ∷ c ∷ bs) zero lower upper paired used within low up = (omega (arith, low, up), (omega (arith, up, used.1.0), paired.1))
paired-split (b ∷ bs) (suc i) lower upper paired used within low up =
    (first bs i paired.0 (omega (arith, within)), paired-split bs i lower upper paired.1 used.1 (omega (arith, within)) low up)
  where
    first : (bs : List (List Key)) (i : ℕ) → IsPaired b bs → i < length bs → IsPaired b (insert (set bs i lower) (suc i) upper)
    first [] i paired within = absurd (omega (arith, within))
    first (c ∷ bs) zero paired within = omega (arith, low, used.0)
    first (c ∷ bs) (suc i) paired within = paired

-- a block may have any keys with which it is more than half a block with each neighbour
paired-between : (bs : List (List Key)) (i : ℕ) (x : List Key) → ArePaired bs → (suc i < length bs → 16 < length x + length (block_at bs (suc i)))
    → ((j : ℕ) → suc j ≡ i → 16 < length (block_at bs j) + length x) → ArePaired (set bs i x)
paired-between [] i x paired next before = tt
paired-between (b ∷ bs) zero x paired next before = (first bs next, paired.1)
  where
    first : (bs : List (List Key)) → (1 < length (b ∷ bs) → 16 < length x + length (block_at (b ∷ bs) 1)) → IsPaired x bs
    first [] next = tt
    first (c ∷ bs) next = next (omega arith)
paired-between (b ∷ bs) (suc i) x paired next before =
    (first bs i paired.0 before, paired-between bs i x paired.1 (λ inside. next (omega (arith, inside))) (λ j is. before (suc j) (omega (arith, is))))
  where
    first : (bs : List (List Key)) (i : ℕ) → IsPaired b bs → ((j : ℕ) → suc j ≡ suc i → 16 < length (block_at (b ∷ bs) j) + length x) → IsPaired b (set bs i x)
    first [] i paired before = tt
    first (c ∷ bs) zero paired before = before 0 refl
    first (c ∷ bs) (suc i) paired before = paired

-- two neighbours may become one block of half a block at least
paired-join : (bs : List (List Key)) (k : ℕ) (x : List Key) → ArePaired bs → AreUsed bs → suc k < length bs → 16 ≤ length x → ArePaired (remove (set bs k x) (suc k))
paired-join [] k x paired used within half = absurd (omega (arith, within))
paired-join (b ∷ []) k x paired used within half = absurd (omega (arith, within))
paired-join (b ∷ c ∷ []) zero x paired used within half = (tt, tt)
paired-join (b ∷ c ∷ d ∷ bs) zero x paired used within half = (omega (arith, half, used.1.1.0), paired.1.1)
paired-join (b ∷ c ∷ bs) (suc k) x paired used within half = (first k, paired-join (c ∷ bs) k x paired.1 used.1 (omega (arith, within)) half)
  where
    first : (k : ℕ) → IsPaired b (remove (set (c ∷ bs) k x) (suc k))
    first zero = omega (arith, half, used.0)
    first (suc k) = paired.0

-- a block of one key may go
paired-gone : (bs : List (List Key)) (i : ℕ) → ArePaired bs → length (block_at bs i) ≡ 1 → ArePaired (remove bs i)
paired-gone [] i paired one = absurd (omega (arith, one))
paired-gone (b ∷ bs) zero paired one = paired.1
paired-gone (b ∷ []) (suc i) paired one = absurd (omega (arith, one))
paired-gone (b ∷ c ∷ []) (suc zero) paired one = (tt, tt)
paired-gone (b ∷ c ∷ d ∷ bs) (suc zero) paired one = (omega (arith, paired.0, paired.1.0, one), paired.1.1)
paired-gone (b ∷ c ∷ bs) (suc (suc i)) paired one = (paired.0, paired-gone (c ∷ bs) (suc i) paired.1 one)

-- ---- how many blocks so many keys take
-- at most two for 17 keys, and one more
few-blocks : (bs : List (List Key)) → ArePaired bs → AreUsed bs → 17 * length bs ≤ 2 * length (flat bs) + 15
few-blocks [] paired used = omega arith
few-blocks (b ∷ []) paired used = omega (arith, used.0, length-append b [])
few-blocks (b ∷ c ∷ bs) paired used =
    omega (arith, paired.0, few-blocks bs paired.1.1 used.1.1, length-append b (c ++ flat bs), length-append c (flat bs))

-- where a block is full there are at least eight keys for each block
few-full : (bs : List (List Key)) (i : ℕ) → ArePaired bs → AreUsed bs → i < length bs → 32 ≤ length (block_at bs i) → 8 * length bs ≤ length (flat bs)
few-full bs i paired used within full = omega (arith, go bs i paired used within full)
  where
    go : (bs : List (List Key)) (i : ℕ) → ArePaired bs → AreUsed bs → i < length bs → 32 ≤ length (block_at bs i) → 17 * length bs ≤ 2 * length (flat bs)
    go [] i paired used within full = absurd (omega (arith, within))
    go (b ∷ bs) zero paired used within full = omega (arith, full, few-blocks bs paired.1 used.1, length-append b (flat bs))
    go (b ∷ []) (suc i) paired used within full = absurd (omega (arith, within))
    go (b ∷ c ∷ bs) (suc zero) paired used within full =
        omega (arith, full, few-blocks bs paired.1.1 used.1.1, length-append b (c ++ flat bs), length-append c (flat bs))
    go (b ∷ c ∷ bs) (suc (suc i)) paired used within full =
        omega (arith, paired.0, go bs i paired.1.1 used.1.1 (omega (arith, within)) full, length-append b (c ++ flat bs), length-append c (flat bs))

-- ---- the blocks after each step
-- how many keys there are with one more
length-insert_in : (bs : List (List Key)) (spot : Spot) (key : Key) → IsRoom bs spot
    → length (flat (set bs spot.block (insert (block_at bs spot.block) spot.place key))) ≡ length (flat bs) + 1
length-insert_in bs spot key room =
    ap (λ l. length l) (inserted bs spot key room)
    ∙ length-insert (flat bs) (index_of bs spot) key (omega (arith, length-flat-at bs spot.block room.block, room.place))

-- the blocks with one key more
pub with_key : (bs stock : List (List Key)) (blocks_room stock_room blocks_room' len capacity : ℕ) (spot : Spot) (key : Key) → AreBlocks bs stock blocks_room stock_room len capacity
    → IsRoom bs spot → length (flat bs) < capacity → blocks_room' ≡ blocks_room
    → AreBlocks (set bs spot.block (insert (block_at bs spot.block) spot.place key)) stock blocks_room' stock_room (len + 1) capacity
with_key bs stock blocks_room stock_room blocks_room' len capacity spot key are room spare same =
    let keys = insert (block_at bs spot.block) spot.place key in
    let count = length-set bs spot.block keys in
    let more = length-insert (block_at bs spot.block) spot.place key room.place in
    record {
      used = used-set bs spot.block keys are.used (omega (arith, more));
      paired = paired-set bs spot.block keys are.paired (omega (arith, more));
      free = are.free;
      blocks_fit = omega (arith, count, are.blocks_fit, same);
      stock_fits = omega (arith, count, are.stock_fits);
      count = omega (arith, are.count, length-insert_in bs spot key room);
      eight = are.eight ∙ ap (λ n. 8 * (n + length stock)) (sym count);
      enough = omega (arith, are.count, spare);
    }

-- no room is left out: where more keys can come and a block is full, the stock has one
pub stocked_full : (bs stock : List (List Key)) (blocks_room stock_room len capacity i : ℕ) → AreBlocks bs stock blocks_room stock_room len capacity
    → length (flat bs) < capacity → i < length bs → 32 ≤ length (block_at bs i) → length stock ≡ 0 → ⊥
stocked_full bs stock blocks_room stock_room len capacity i are spare within full none =
    omega (arith, few-full bs i are.paired are.used within full, are.eight, spare, none)

-- where more keys can come and the last block is full, or there is no block, the stock has one
pub stocked : (bs stock : List (List Key)) (blocks_room stock_room len capacity : ℕ) → AreBlocks bs stock blocks_room stock_room len capacity
    → length (flat bs) < capacity → ((last : ℕ) → last + 1 ≡ length bs → 32 ≤ length (block_at bs last)) → length stock ≡ 0 → ⊥
stocked [] stock blocks_room stock_room len capacity are spare full none = omega (arith, are.eight, spare, none)
stocked (b ∷ bs) stock blocks_room stock_room len capacity are spare full none =
    stocked_full (b ∷ bs) stock blocks_room stock_room len capacity (length bs) are spare (omega arith) (full (length bs) (omega arith)) none

-- what a block taken from the stock leaves
pub record IsPopped (stock rest : List (List Key)) (keys : List Key) : Type 0 where
  pub empty : keys ≡ []
  pub free : AreFree rest
  pub count : length stock ≡ length rest + 1

pub popped : (stock rest : List (List Key)) (keys : List Key) → AreFree stock → stock ≡ rest ++ keys ∷ [] → IsPopped stock rest keys
popped stock rest keys free is =
    let parts = free-pop rest keys (rw is at free) in
    record {
      empty = parts.1;
      free = parts.0;
      count = ap (λ l. length l) is ∙ length-append rest (keys ∷ []);
    }

-- a key put into a block that has none is its one key
pub first_key : (empty keys : List Key) (key : Key) → empty ≡ [] → keys ≡ insert empty 0 key → keys ≡ key ∷ []
first_key empty keys key none is = is ∙ ap (λ l. insert l 0 key) none

-- all keys, with one more block
flat-push : (bs : List (List Key)) (keys : List Key) → flat (bs ++ keys ∷ []) ≡ flat bs ++ keys
flat-push [] keys = append-nil keys
flat-push (b ∷ bs) keys = ap (λ l. b ++ l) (flat-push bs keys) ∙ sym (append_assoc b (flat bs) keys)

-- the blocks with one more at the end, for one key
pub with_block : (bs stock rest : List (List Key)) (taken keys : List Key) (blocks_room stock_room blocks_room' stock_room' len capacity : ℕ) (key : Key)
    → AreBlocks bs stock blocks_room stock_room len capacity → IsPopped stock rest taken → keys ≡ key ∷ [] → length (flat bs) < capacity
    → ((last : ℕ) → last + 1 ≡ length bs → 32 ≤ length (block_at bs last)) → blocks_room' ≡ blocks_room → stock_room' ≡ stock_room
    → AreBlocks (bs ++ keys ∷ []) rest blocks_room' stock_room' (len + 1) capacity
with_block bs stock rest taken keys blocks_room stock_room blocks_room' stock_room' len capacity key are pop one spare full same same' =
    let count = length-append bs (keys ∷ []) in
    let single : length keys ≡ 1 = ap (λ l. length l) one in
    let all = ap (λ l. length l) (flat-push bs keys) ∙ length-append (flat bs) keys in
    record {
      used = used-push bs keys are.used (omega (arith, single));
      paired = paired-push bs keys are.paired (omega (arith, single)) full;
      free = pop.free;
      blocks_fit = omega (arith, count, are.blocks_fit, same, pop.count);
      stock_fits = omega (arith, count, are.stock_fits, same', pop.count);
      count = omega (arith, are.count, all, single);
      eight = omega (arith, are.eight, count, pop.count);
      enough = omega (arith, are.count, spare);
    }

-- ---- a block in two
-- all keys, once a block has become two
flat-split : (bs : List (List Key)) (i : ℕ) (lower upper : List Key) → i < length bs
    → flat (insert (set bs i lower) (suc i) upper) ≡ flat (take i bs) ++ (lower ++ (upper ++ flat (drop (suc i) bs)))
flat-split [] i lower upper within = absurd (omega (arith, within))
flat-split (b ∷ bs) zero lower upper within = refl
flat-split (b ∷ bs) (suc i) lower upper within =
    ap (λ l. b ++ l) (flat-split bs i lower upper (omega (arith, within)))
    ∙ sym (append_assoc b (flat (take i bs)) (lower ++ (upper ++ flat (drop (suc i) bs))))

-- the two blocks have a key each
used-split : (bs : List (List Key)) (i : ℕ) (lower upper : List Key) → AreUsed bs → i < length bs → 0 < length lower → 0 < length upper
    → AreUsed (insert (set bs i lower) (suc i) upper)
used-split [] i lower upper used within some some' = absurd (omega (arith, within))
used-split (b ∷ bs) zero lower upper used within some some' = (some, (some', used.1))
used-split (b ∷ bs) (suc i) lower upper used within some some' = (used.0, used-split bs i lower upper used.1 (omega (arith, within)) some some')

-- the blocks, with the upper half of this one behind it
abbrev pub split : List (List Key) → ℕ → List (List Key)
split bs i = insert (set bs i (take 16 (block_at bs i))) (i + 1) (drop 16 (block_at bs i))

-- one more is the next number
plus-one : (i : ℕ) → i + 1 ≡ suc i
plus-one i = omega arith

-- a block that is split keeps all keys in order
pub flat_kept : (bs : List (List Key)) (i : ℕ) → i < length bs → flat (split bs i) ≡ flat bs
flat_kept bs i within =
    let lower = take 16 (block_at bs i) in
    let upper = drop 16 (block_at bs i) in
    let right = flat (drop (suc i) bs) in
    ap (λ n. flat (insert (set bs i (take 16 (block_at bs i))) n (drop 16 (block_at bs i)))) (plus-one i)
    ∙ flat-split bs i (take 16 (block_at bs i)) (drop 16 (block_at bs i)) within
    ∙ ap (λ l. flat (take i bs) ++ l)
    (sym (append_assoc (take 16 (block_at bs i)) (drop 16 (block_at bs i)) (flat (drop (suc i) bs)))
    ∙ ap (λ l. l ++ flat (drop (suc i) bs)) (take-append-drop 16 (block_at bs i)))
    ∙ sym (flat-at bs i within)

-- a block that is split makes one block more
length-split : (bs : List (List Key)) (i : ℕ) → i < length bs → length (split bs i) ≡ length bs + 1
length-split bs i within =
    let count = length-set bs i (take 16 (block_at bs i)) in
    length-insert (set bs i (take 16 (block_at bs i))) (i + 1) (drop 16 (block_at bs i)) (omega (arith, count, within)) ∙ omega (arith, count)

-- the blocks with one of them split
pub with_split : (bs stock rest : List (List Key)) (taken : List Key) (blocks_room stock_room blocks_room' stock_room' len capacity i : ℕ)
    → AreBlocks bs stock blocks_room stock_room len capacity → IsPopped stock rest taken → i < length bs → 32 ≤ length (block_at bs i)
    → blocks_room' ≡ blocks_room → stock_room' ≡ stock_room → AreBlocks (split bs i) rest blocks_room' stock_room' len capacity
with_split bs stock rest taken blocks_room stock_room blocks_room' stock_room' len capacity i are pop within full same same' =
    let count = length-split bs i within in
    let lower : 16 ≤ length (take 16 (block_at bs i)) = omega (arith, length-take 16 (block_at bs i), full) in
    let upper : 16 ≤ length (drop 16 (block_at bs i)) = omega (arith, length-drop 16 (block_at bs i), full) in
    record {
      used = rw (plus-one i) (used-split bs i (take 16 (block_at bs i)) (drop 16 (block_at bs i)) are.used within (omega (arith, lower)) (omega (arith, upper)));
      paired = rw (plus-one i) (paired-split bs i (take 16 (block_at bs i)) (drop 16 (block_at bs i)) are.paired are.used within lower upper);
      free = pop.free;
      blocks_fit = omega (arith, count, are.blocks_fit, same, pop.count);
      stock_fits = omega (arith, count, are.stock_fits, same', pop.count);
      count = are.count ∙ sym (ap (λ l. length l) (flat_kept bs i within));
      eight = omega (arith, are.eight, count, pop.count);
      enough = are.enough;
    }

-- the upper half has room for a key of it
block_at-upper : (bs : List (List Key)) (i : ℕ) (lower upper : List Key) → i < length bs → block_at (insert (set bs i lower) (suc i) upper) (suc i) ≡ upper
block_at-upper [] i lower upper within = absurd (omega (arith, within))
block_at-upper (b ∷ bs) zero lower upper within = refl
block_at-upper (b ∷ bs) (suc i) lower upper within = block_at-upper bs i lower upper (omega (arith, within))

-- a block that was read at its place
pub block_is : (bs : List (List Key)) (i : ℕ) (keys : List Key) → i < length bs → keys ≡ get_or bs i keys → block_at bs i ≡ keys
block_is bs i keys within is = get_or_default bs i [] keys within ∙ sym is

-- the upper half has room for a key of its places
pub upper_room : (bs : List (List Key)) (i place : ℕ) (keys : List Key) → i < length bs → 16 < place → place ≤ length (block_at bs i)
    → keys ≡ get_or bs i keys → length keys ≤ 32
    → IsRoom (split bs i) (record { block = i + 1; place = place - 16 })
upper_room bs i place keys within above under is most =
    let whole = ap (λ l. length l) (block_is bs i keys within is) in
    let block : block_at (split bs i) (i + 1) ≡ drop 16 (block_at bs i) =
    rw (plus-one i) (block_at-upper bs i (take 16 (block_at bs i)) (drop 16 (block_at bs i)) within) in
    let size = ap (λ l. length l) block ∙ length-drop 16 (block_at bs i) in
    record {
      block = omega (arith, length-split bs i within, within);
      place = omega (arith, size, above, under);
      room = omega (arith, size, whole, above, under, most);
    }

-- ---- one key less
-- a list of no length is empty
none_left : (k : List Key) → length k ≤ 0 → k ≡ []
none_left [] none = refl
none_left (x ∷ xs) none = absurd (omega (arith, none))

-- a block with no key can go
flat-remove : (bs : List (List Key)) (i : ℕ) → i < length bs → length (block_at bs i) ≤ 0 → flat (remove bs i) ≡ flat bs
flat-remove [] i within none = absurd (omega (arith, within))
flat-remove (b ∷ bs) zero within none = sym (ap (λ l. l ++ flat bs) (none_left b none))
flat-remove (b ∷ bs) (suc i) within none = ap (λ l. b ++ l) (flat-remove bs i (omega (arith, within)) none)

-- two blocks may become one
flat-join : (bs : List (List Key)) (k : ℕ) → suc k < length bs → flat (remove (set bs k (block_at bs k ++ block_at bs (suc k))) (suc k)) ≡ flat bs
flat-join [] k within = absurd (omega (arith, within))
flat-join (b ∷ []) k within = absurd (omega (arith, within))
flat-join (b ∷ c ∷ bs) zero within = append_assoc b c (flat bs)
flat-join (b ∷ c ∷ bs) (suc k) within = ap (λ l. b ++ l) (flat-join (c ∷ bs) k (omega (arith, within)))

flat-joined : (bs : List (List Key)) (k : ℕ) → k + 1 < length bs → flat (joined bs k) ≡ flat bs
flat-joined bs k within =
    ap (λ n. flat (remove (set bs k (block_at bs k ++ block_at bs n)) n)) (plus-one k) ∙ flat-join bs k (omega (arith, within))

used-join : (bs : List (List Key)) (k : ℕ) (x : List Key) → AreUsed bs → 0 < length x → AreUsed (remove (set bs k x) (suc k))
used-join [] k x used some = tt
used-join (b ∷ []) zero x used some = (some, tt)
used-join (b ∷ c ∷ bs) zero x used some = (some, used.1.1)
used-join (b ∷ bs) (suc k) x used some = (used.0, used-join bs k x used.1 some)

-- what was written into a block, before another is joined to it, or it to the one before
set-again : (bs : List (List Key)) (k : ℕ) (x y : List Key) → set (set bs k x) k y ≡ set bs k y
set-again [] k x y = refl
set-again (b ∷ bs) zero x y = refl
set-again (b ∷ bs) (suc k) x y = ap (λ l. b ∷ l) (set-again bs k x y)

set-gone : (bs : List (List Key)) (k : ℕ) (x y : List Key) → remove (set (set bs (suc k) x) k y) (suc k) ≡ remove (set bs k y) (suc k)
set-gone [] k x y = refl
set-gone (b ∷ []) zero x y = refl
set-gone (b ∷ c ∷ bs) zero x y = refl
set-gone (b ∷ bs) (suc k) x y = ap (λ l. b ∷ l) (set-gone bs k x y)

remove-written : (bs : List (List Key)) (i : ℕ) (x : List Key) → remove (set bs i x) i ≡ remove bs i
remove-written [] i x = refl
remove-written (b ∷ bs) zero x = refl
remove-written (b ∷ bs) (suc i) x = ap (λ l. b ∷ l) (remove-written bs i x)

block_at-set : (bs : List (List Key)) (i : ℕ) (x : List Key) → i < length bs → block_at (set bs i x) i ≡ x
block_at-set bs i x within = get_or-set_same bs i x [] within

block_at-other : (bs : List (List Key)) (i j : ℕ) (x : List Key) → (j ≡ i → ⊥) → block_at (set bs i x) j ≡ block_at bs j
block_at-other bs i j x differs = get_or-set_other bs i j x [] differs

-- the blocks, without the key that stands there
abbrev pub less : List (List Key) → Spot → List (List Key)
less bs spot = set bs spot.block (remove (block_at bs spot.block) spot.place)

-- how many keys there are with one less
length-less : (bs : List (List Key)) (spot : Spot) → IsSpot bs spot → length (flat (less bs spot)) + 1 ≡ length (flat bs)
length-less bs spot there =
    ap (λ l. length l + 1) (removed bs spot there) ∙ length-remove (flat bs) (index_of bs spot) (within bs spot there)

-- where a key stands there is one at least
pub some_key : (bs stock : List (List Key)) (blocks_room stock_room len capacity : ℕ) (spot : Spot) → AreBlocks bs stock blocks_room stock_room len capacity → IsSpot bs spot → 1 ≤ len
some_key bs stock blocks_room stock_room len capacity spot are there = omega (arith, within bs spot there, are.count)

-- the block behind is taken out first
set-before : (bs : List (List Key)) (k : ℕ) (x : List Key) → set (remove bs (suc k)) k x ≡ remove (set bs k x) (suc k)
set-before [] k x = refl
set-before (b ∷ []) zero x = refl
set-before (b ∷ c ∷ bs) zero x = refl
set-before (b ∷ bs) (suc k) x = ap (λ l. b ∷ l) (set-before bs k x)

block_at-before : (bs : List (List Key)) (k : ℕ) → block_at (remove bs (suc k)) k ≡ block_at bs k
block_at-before [] k = refl
block_at-before (b ∷ bs) zero = refl
block_at-before (b ∷ bs) (suc k) = block_at-before bs k

pub joined-is : (bs rest : List (List Key)) (k : ℕ) (next first all : List Key) → k + 1 < length bs → rest ≡ remove bs (k + 1) → next ≡ get_or bs (k + 1) next
    → first ≡ get_or rest k first → all ≡ first ++ next → set rest k all ≡ joined bs k
joined-is bs rest k next first all within is next_is first_is all_is =
    let count = length-remove bs (k + 1) within in
    let behind : block_at bs (k + 1) ≡ next = block_is bs (k + 1) next within next_is in
    let here : block_at bs k ≡ first =
    sym (block_at-before bs k) ∙ ap (λ n. block_at (remove bs n) k) (sym (plus-one k)) ∙ ap (λ l. block_at l k) (sym is)
    ∙ block_is rest k first (omega (arith, count, ap (λ l. length l) is, within)) first_is in
    ap (λ l. set l k all) (is ∙ ap (remove bs) (plus-one k))
    ∙ set-before bs k all
    ∙ ap (λ l. remove (set bs k l) (suc k)) (all_is ∙ (λ i. sym here i ++ sym behind i))
    ∙ ap (remove (set bs k (block_at bs k ++ block_at bs (k + 1)))) (sym (plus-one k))

-- ---- what is left, once the block is settled
-- what a settled block leaves
pub record IsLeft (bs new : List (List Key)) (freed : List (List Key)) : Type 0 where
  pub used : AreUsed new
  pub paired : ArePaired new
  pub free : AreFree freed
  pub count : length new + length freed ≡ length bs

-- neighbours that are so
paired-at : (bs : List (List Key)) (i : ℕ) → ArePaired bs → suc i < length bs → 16 < length (block_at bs i) + length (block_at bs (suc i))
paired-at [] i paired within = absurd (omega (arith, within))
paired-at (b ∷ []) i paired within = absurd (omega (arith, within))
paired-at (b ∷ c ∷ bs) zero paired within = paired.0
paired-at (b ∷ c ∷ bs) (suc i) paired within = paired-at (c ∷ bs) i paired.1 (omega (arith, within))

-- a block that was joined, with so many keys that it was half a block at least
join-left : (bs new : List (List Key)) (freed : List Key) (k : ℕ) (x : List Key) → AreUsed bs → ArePaired bs → suc k < length bs → freed ≡ [] → 16 ≤ length x
    → new ≡ remove (set bs k x) (suc k) → IsLeft bs new (freed ∷ [])
join-left bs new freed k x used paired within none half is =
    let count = length-set bs k x in
    record {
      used = subst AreUsed (sym is) (used-join bs k x used (omega (arith, half)));
      paired = subst ArePaired (sym is) (paired-join bs k x paired used within half);
      free = (none, tt);
      count = omega (arith, ap (λ l. length l) is, length-remove (set bs k x) (suc k) (omega (arith, count, within)), count);
    }

-- what is left where a block lost a key and was settled
pub left : (bs new : List (List Key)) (spot : Spot) (freed : Option (List Key)) → AreUsed bs → ArePaired bs → IsSpot bs spot → Settles (less bs spot) new spot.block freed
    → IsLeft bs new (option_to_list freed) × (flat new ≡ flat (less bs spot))
left bs new spot freed used paired there settles = go freed settles
  where
    i : ℕ
    i = spot.block

    x : List Key
    x = remove (block_at bs spot.block) spot.place

    shorter : length x + 1 ≡ length (block_at bs i)
    shorter = length-remove (block_at bs spot.block) spot.place there.place

    here : block_at (less bs spot) i ≡ x
    here = block_at-set bs i x there.block

    count : length (less bs spot) ≡ length bs
    count = length-set bs i x

    go : (freed : Option (List Key)) → Settles (less bs spot) new i freed → IsLeft bs new (option_to_list freed) × (flat new ≡ flat (less bs spot))
    go None settles = (
      record {
        used = subst AreUsed (sym settles.0) (used-set bs i x used (rw here at settles.1.some));
        paired =
            subst ArePaired (sym settles.0)
            (paired-between bs i x paired
            (λ within.
            let next = settles.1.next (omega (arith, within, count)) in
            omega (arith, next, ap (λ l. length l) here, ap (λ l. length l) (block_at-other bs i (i + 1) x (λ same. omega (arith, same))), ap (λ n. length (block_at bs n)) (plus-one i)))
            (λ j is.
            let before = settles.1.before j (omega (arith, is)) in
            omega (arith, before, ap (λ l. length l) here, ap (λ l. length l) (block_at-other bs i j x (λ same. omega (arith, same, is))))));
        free = tt;
        count = omega (arith, ap (λ l. length l) settles.0, count);
      },
      ap flat settles.0,
    )
    go (Some freed) settles = elim settles.1 [
      | inl joins ↦ (
        elim joins.1 [
          | inl same ↦ at_next freed settles.0 joins.0 same joins.2 joins.3
          | inr behind ↦ at_before freed settles.0 joins.0 behind joins.2 joins.3
        ],
        ap flat joins.3 ∙ flat-joined (less bs spot) joins.0 joins.2,
      )
      | inr gone ↦ (
        record {
          used = subst AreUsed (sym gone.1) (used-remove bs i x used);
          paired =
              subst ArePaired (sym (gone.1 ∙ remove-written bs i x))
              (paired-gone bs i paired (omega (arith, shorter, ap (λ l. length l) here, gone.0)));
          free = (settles.0, tt);
          count = omega (arith, ap (λ l. length l) gone.1, length-remove (less bs spot) i (omega (arith, count, there.block)), count);
        },
        ap flat gone.1 ∙ flat-remove (less bs spot) i (omega (arith, count, there.block)) gone.0,
      )
    ]
      where
        at_next : (freed : List Key) → freed ≡ [] → (j : ℕ) → j ≡ i → j + 1 < length (less bs spot) → new ≡ joined (less bs spot) j → IsLeft bs new (freed ∷ [])
        at_next freed none j same within is =
            let all = block_at (less bs spot) j ++ block_at (less bs spot) (j + 1) in
            let next = block_at-other bs i (j + 1) x (λ e. omega (arith, same, e)) in
            let this : block_at (less bs spot) j ≡ x = ap (block_at (less bs spot)) same ∙ here in
            let within' : suc j < length bs = omega (arith, within, count) in
            let size = length-append (block_at (less bs spot) j) (block_at (less bs spot) (j + 1)) in
            let before = paired-at bs j paired within' in
            let half : 16 ≤ length all =
            omega (arith, size, ap (λ l. length l) this, ap (λ l. length l) next, ap (λ n. length (block_at bs n)) (plus-one j), before, shorter, ap (λ n. length (block_at bs n)) same) in
            join-left bs new freed j all used paired within' none half
            (is
            ∙ ap (λ n. remove (set (less bs spot) j all) n) (plus-one j)
            ∙ ap (λ n. remove (set (set bs n x) j all) (suc j)) (sym same)
            ∙ ap (λ l. remove l (suc j)) (set-again bs j x all))

        at_before : (freed : List Key) → freed ≡ [] → (j : ℕ) → j + 1 ≡ i → j + 1 < length (less bs spot) → new ≡ joined (less bs spot) j → IsLeft bs new (freed ∷ [])
        at_before freed none j behind within is =
            let all = block_at (less bs spot) j ++ block_at (less bs spot) (j + 1) in
            let first = block_at-other bs i j x (λ e. omega (arith, behind, e)) in
            let this : block_at (less bs spot) (j + 1) ≡ x = ap (block_at (less bs spot)) behind ∙ here in
            let within' : suc j < length bs = omega (arith, within, count) in
            let size = length-append (block_at (less bs spot) j) (block_at (less bs spot) (j + 1)) in
            let before = paired-at bs j paired within' in
            let at : suc j ≡ i = omega (arith, behind) in
            let half : 16 ≤ length all =
            omega (arith, size, ap (λ l. length l) this, ap (λ l. length l) first, before, shorter, ap (λ n. length (block_at bs n)) at) in
            join-left bs new freed j all used paired within' none half
            (is
            ∙ ap (λ n. remove (set (less bs spot) j all) n) (plus-one j)
            ∙ ap (λ n. remove (set (set bs n x) j all) (suc j)) (sym at)
            ∙ set-gone bs j x all)

free-append : (bs more : List (List Key)) → AreFree bs → AreFree more → AreFree (bs ++ more)
free-append [] more free free' = free'
free-append (b ∷ bs) more free free' = (free.0, free-append bs more free.1 free')

-- the blocks with one key less
pub without_key : (bs new stock freed : List (List Key)) (blocks_room stock_room blocks_room' stock_room' len capacity : ℕ) (spot : Spot)
    → AreBlocks bs stock blocks_room stock_room len capacity → IsSpot bs spot → IsLeft bs new freed → flat new ≡ flat (less bs spot)
    → blocks_room' ≡ blocks_room → stock_room' ≡ stock_room → AreBlocks new (stock ++ freed) blocks_room' stock_room' (len - 1) capacity
without_key bs new stock freed blocks_room stock_room blocks_room' stock_room' len capacity spot are there left keys same same' =
    let count = length-append stock freed in
    record {
      used = left.used;
      paired = left.paired;
      free = free-append stock freed are.free left.free;
      blocks_fit = omega (arith, count, left.count, are.blocks_fit, same);
      stock_fits = omega (arith, count, left.count, are.stock_fits, same');
      count = omega (arith, are.count, length-less bs spot there, ap (λ l. length l) keys);
      eight = omega (arith, are.eight, count, left.count);
      enough = omega (arith, are.enough);
    }

-- a key less leaves room for one more
pub spare_more : (bs new stock : List (List Key)) (blocks_room stock_room len capacity : ℕ) (spot : Spot) → AreBlocks bs stock blocks_room stock_room len capacity → IsSpot bs spot
    → flat new ≡ flat (less bs spot) → capacity - length (flat new) ≡ capacity - length (flat bs) + 1
spare_more bs new stock blocks_room stock_room len capacity spot are there keys =
    omega (arith, are.count, are.enough, length-less bs spot there, ap (λ l. length l) keys)

-- ---- one block more
-- the stock with one more block
pub with_stock : (bs stock : List (List Key)) (keys : List Key) (blocks_room stock_room blocks_room' stock_room' len capacity capacity' : ℕ)
    → AreBlocks bs stock blocks_room stock_room len capacity → keys ≡ [] → length bs + (length stock + 1) ≤ blocks_room' → length stock + (length bs + 1) ≤ stock_room'
    → capacity' ≡ capacity + 8 → AreBlocks bs (stock ++ keys ∷ []) blocks_room' stock_room' len capacity'
with_stock bs stock keys blocks_room stock_room blocks_room' stock_room' len capacity capacity' are none room room' more =
    let count = length-append stock (keys ∷ []) in
    record {
      used = are.used;
      paired = are.paired;
      free = free-push stock keys are.free none;
      blocks_fit = omega (arith, count, room);
      stock_fits = omega (arith, count, room');
      count = are.count;
      eight = omega (arith, are.eight, count, more);
      enough = omega (arith, are.enough, more);
    }

-- ---- the key that stands there
-- a key for where none is read
pub no_key : Key
no_key = record { place = 0; generation = 0 }

-- the key that was read in its block
got-here : (bs : List (List Key)) (spot : Spot) → IsSpot bs spot → slice_get (block_at bs spot.block) spot.place ≡ slice_get (flat bs) (index_of bs spot)
got-here bs spot there =
    slice_get-get_or (block_at bs spot.block) spot.place no_key there.place
    ∙ ap Some (sym (stands bs spot no_key there))
    ∙ sym (slice_get-get_or (flat bs) (index_of bs spot) no_key (within bs spot there))

-- what was read in a block is what stands among all keys
pub got : (bs : List (List Key)) (spot : Spot) (keys : List Key) → IsGap bs spot → spot.block < length bs → keys ≡ get_or bs spot.block keys
    → slice_get keys spot.place ≡ slice_get (flat bs) (index_of bs spot)
got bs spot keys gap inside is =
    ap (λ l. slice_get l spot.place) (sym (block_is bs spot.block keys inside is))
    ∙ elim (cases_lt spot.place (length (block_at bs spot.block))) [
      | inl here ↦ got-here bs spot (record { block = inside; place = here })
      | inr past ↦
          elim gap.here [
            | inl here ↦ absurd (omega (arith, here, past))
            | inr end ↦ slice_get_past (block_at bs spot.block) spot.place past ∙ sym (slice_get_past (flat bs) (index_of bs spot) (omega (arith, end)))
          ]
    ]

-- behind the last block no key stands
pub got_none : (bs : List (List Key)) (spot : Spot) → IsGap bs spot → length bs ≤ spot.block → None ≡ slice_get (flat bs) (index_of bs spot)
got_none bs spot gap past =
    elim gap.here [
      | inl here ↦ absurd (omega (arith, here, ap (λ l. length l) (get_or_past bs spot.block [] past)))
      | inr end ↦ sym (slice_get_past (flat bs) (index_of bs spot) (omega (arith, end)))
    ]

-- ---- the keys from one on
-- each of the later blocks has a key
pub used_behind : (bs : List (List Key)) (i : ℕ) → AreUsed bs → AreUsed (drop i bs)
used_behind bs zero used = used
used_behind [] (suc i) used = tt
used_behind (b ∷ bs) (suc i) used = used_behind bs i used.1

-- all of a list from a place on
pub all_from : {A : Type 0} (i : ℕ) (xs : List A) → take (length xs - i) (drop i xs) ≡ drop i xs
all_from i xs = take_all (length xs - i) (drop i xs) (omega (arith, length-drop i xs))

-- the keys from one on are those of its block, and those of the blocks behind it
pub flat_from : (bs : List (List Key)) (spot : Spot) → spot.block < length bs → spot.place ≤ length (block_at bs spot.block)
    → drop spot.place (block_at bs spot.block) ++ flat (drop (spot.block + 1) bs) ≡ drop (index_of bs spot) (flat bs)
flat_from bs spot within place =
    ap (λ n. drop spot.place (block_at bs spot.block) ++ flat (drop n bs)) (plus-one spot.block)
    ∙ sym
    (ap (λ l. drop (index_of bs spot) l) (flat-at bs spot.block within)
    ∙ drop-append-add (flat (take spot.block bs)) (block_at bs spot.block ++ flat (drop (suc spot.block) bs)) spot.place
    ∙ drop-append-le spot.place (block_at bs spot.block) (flat (drop (suc spot.block) bs)) place)

-- behind the last block there is none
pub none_from : (bs : List (List Key)) (spot : Spot) → IsGap bs spot → length bs ≤ spot.block → [] ≡ drop (index_of bs spot) (flat bs)
none_from bs spot gap past =
    elim gap.here [
      | inl here ↦ absurd (omega (arith, here, ap (λ l. length l) (get_or_past bs spot.block [] past)))
      | inr end ↦ sym (drop_of_length-le (flat bs) (omega (arith, end)))
    ]
