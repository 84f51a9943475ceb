-- Bytes of pages in their frames.
use Rattle.std.proofs.Common.{◌≡◌, ℕ, zero, suc, ◌+◌, ◌-◌, ◌*◌, ◌<◌, ◌≤◌, Bool, List, [], ◌∷◌, ◌++◌, length, get_or, set, take, drop, replicate, Option, Some, None, refl, sym, ◌∙◌, ap, arith, inl, inr, length-append, length-drop, length-set, length-take, get_or-set_same, get_or-set_other}
use Rattle.std.specs.Prelude.{◌≢◌}
use Rattle.std.specs.Option.{option_map}
use Rattle.std.proofs.lemmas.Bool.{cases_eq, cases_lt}
use Rattle.std.proofs.lemmas.Grind.{same_number_lists}
use Rattle.std.proofs.lemmas.List.{append-nil, append_assoc, drop-drop, ext_get_or, get_or-map, get_or-take, get_or_append_left, get_or_past, length-map, length-replicate, map-set, nil_from_length, take_all, take_at}
use Rattle.std.proofs.lemmas.Slice.{take-put_mid}
use borrow.Rule.Slice.PartMut.{put_mid, post_of}
use Rattle.ktm_base.specs.Bytes.{written}
use Rattle.ktm_content.specs.Contents.{cut_to}
use Rattle.ktm_page.specs.Row.{page_of}
use Rattle.ktm_store.specs.Frames.{AreFrames, GaveUp, HasStill, OwnersState, at_in, filled, kept_in, zeros}
use Rattle.ktm_store.proofs.Bytes.{get_or-page, length-cut_to, zeros-at}
use Rattle.ktm_store.proofs.offered.Holding.{page-other, page-written}

-- ---- the bytes of one page

pub length-zeros : length zeros ≡ 4096
unfolding zeros
length-zeros = length-replicate {A = ℕ} 4096 0

get_or-zeros : (i : ℕ) → get_or zeros i 0 ≡ 0
unfolding zeros
get_or-zeros i = zeros-at 4096 i

-- a page of zeros alone
pub zeros-are : (bytes : List ℕ) → length bytes ≡ 4096 → ((i : ℕ) → i < 4096 → get_or bytes i 0 ≡ 0) → bytes ≡ zeros
zeros-are bytes long are = same_number_lists bytes zeros (long ∙ sym length-zeros) (λ i low. are i (omega (arith, low, long)) ∙ sym (get_or-zeros i))

pub zeros-all : (n : ℕ) → n ≡ 4096 → replicate n 0 ≡ zeros
zeros-all n is = zeros-are (replicate {A = ℕ} n 0) (length-replicate {A = ℕ} n 0 ∙ is) (λ i low. zeros-at n i)

-- a row of zeros alone
pub zeros-page : (bytes : List ℕ) → length bytes ≡ 4096 → ((k : ℕ) → get_or bytes k 0 ≡ 0) → page_of bytes 0 ≡ zeros
zeros-page bytes long are =
    zeros-are (page_of bytes 0) (omega (arith, long, length-take (0 * 4096 + 4096 - 0 * 4096) (drop (0 * 4096) bytes), length-drop (0 * 4096) bytes)) (λ i low. get_or-page bytes 0 i low ∙ are (0 * 4096 + i))

pub length-filled : (head : List ℕ) (from : ℕ) (bytes tail : List ℕ) → length (filled head from bytes tail) ≡ 4096
length-filled head from bytes tail = length-cut_to (cut_to head from ++ bytes ++ tail) 4096

-- a page is filled in three parts
module _ (head bytes tail page first last : List ℕ) (from to : ℕ) (whole : length page ≡ 4096) (is_to : to ≡ from + length bytes) (fits : to + length tail ≤ 4096) (is_first : first ≡ cut_to head (length (take from page))) where
  abbrev row : List ℕ
  row = first ++ drop from page

  abbrev mid : List ℕ
  mid = put_mid from (to - from) row bytes

  long-first : length first ≡ from
  long-first = ap length is_first ∙ length-cut_to head (length (take from page)) ∙ omega (arith, length-take from page, whole, is_to, fits)

  front : take to mid ≡ first ++ bytes
  front = take-put_mid from (to - from) row bytes to is_to (omega (arith, long-first, length-append first (drop from page))) ∙ ap (λ (l : List ℕ). l ++ bytes) (take_at first (drop from page) from long-first)

  length-mid : length mid ≡ 4096
  length-mid = omega (
    arith,
    length-append (take from row) (bytes ++ post_of from (to - from) row),
    length-append bytes (post_of from (to - from) row),
    length-take from row,
    length-drop (to - from) (drop from row),
    length-drop from row,
    length-append first (drop from page),
    length-drop from page,
    long-first,
    whole,
    is_to,
    fits,
  )

  parts : filled head from bytes tail ≡ (cut_to head from ++ bytes) ++ cut_to tail (4096 - to)
  parts =
      let long : length (cut_to head from ++ bytes) ≡ to = omega (arith, length-append (cut_to head from) bytes, length-cut_to head from, is_to) in
      let count : length (cut_to head from ++ bytes ++ tail) ≡ to + length tail = omega (arith, long, length-append (cut_to head from ++ bytes) tail) in
      let short : 4096 - (to + length tail) ≡ 4096 - to - length tail = omega arith in
      ap (λ (l : List ℕ). l ++ replicate (4096 - length (cut_to head from ++ bytes ++ tail)) 0) (take_all 4096 (cut_to head from ++ bytes ++ tail) (omega (arith, count, fits)))
      ∙ ap (λ (n : ℕ). (cut_to head from ++ bytes ++ tail) ++ replicate n 0) (ap (λ (n : ℕ). 4096 - n) count ∙ short)
      ∙ append_assoc (cut_to head from ++ bytes) tail (replicate (4096 - to - length tail) 0)
      ∙ ap (λ (l : List ℕ). (cut_to head from ++ bytes) ++ (l ++ replicate (4096 - to - length tail) 0)) (sym (take_all (4096 - to) tail (omega (arith, fits))))

  abbrev rest : List ℕ
  rest = take (length mid - to) (drop to mid)

  pub filled-parts : last ≡ cut_to tail (length rest) → put_mid to (length mid - to) mid last ≡ filled head from bytes tail
  filled-parts is_last =
      let none : post_of to (length mid - to) mid ≡ [] = nil_from_length (post_of to (length mid - to) mid) (omega (arith, length-drop (length mid - to) (drop to mid), length-drop to mid)) in
      let long : length rest ≡ 4096 - to = omega (arith, length-take (length mid - to) (drop to mid), length-drop to mid, length-mid) in
      let same : length (take from page) ≡ from = omega (arith, length-take from page, whole, is_to, fits) in
      ap (λ (l : List ℕ). l ++ (last ++ post_of to (length mid - to) mid)) front
      ∙ ap (λ (l : List ℕ). (first ++ bytes) ++ (last ++ l)) none
      ∙ ap (λ (l : List ℕ). (first ++ bytes) ++ l) (append-nil last ∙ is_last ∙ ap (cut_to tail) long)
      ∙ ap (λ (l : List ℕ). (l ++ bytes) ++ cut_to tail (4096 - to)) (is_first ∙ ap (cut_to head) same)
      ∙ sym parts

-- ---- the frames

-- where a part is put, all else is as it was
pub put-part : (old whole page : List ℕ) (n begin k : ℕ) → whole ≡ old → n ≡ length old → k ≡ length page → begin + k ≤ length old
    → take n (put_mid begin k whole page ++ drop (length (put_mid begin k whole page)) old) ≡ written old begin page
put-part old whole page n begin k same is_n is_k fits =
    ap (λ (l : List ℕ). take n (put_mid begin k l page ++ drop (length (put_mid begin k l page)) old)) same
    ∙ take_at (put_mid begin k old page) (drop (length (put_mid begin k old page)) old) n (omega (
      arith,
      is_n,
      is_k,
      fits,
      length-append (take begin old) (page ++ post_of begin k old),
      length-append page (post_of begin k old),
      length-take begin old,
      length-drop k (drop begin old),
      length-drop begin old,
    ))
    ∙ ap (λ (l : List ℕ). take begin old ++ (page ++ l)) (drop-drop k begin old ∙ ap (λ (m : ℕ). drop (begin + m) old) is_k)
    ∙ sym (append_assoc (take begin old) page (drop (begin + length page) old))

-- the frame has the bytes, and all others are as they were
pub is-written : (old now page bytes : List ℕ) (frame begin : ℕ) → now ≡ written old begin page → page ≡ bytes → begin ≡ frame * 4096 → now ≡ written old (frame * 4096) bytes
is-written old now page bytes frame begin is same is_begin = is ∙ ap (λ (l : List ℕ). written old begin l) same ∙ ap (λ (n : ℕ). written old n bytes) is_begin

-- one frame is filled, and the page that has it alone
module _ (count frame page : ℕ) (old now bytes : List ℕ) (at next : List (Option ℕ)) (are : AreFrames count old) (low : frame < count) (own : frame ≢ 0) (whole : length bytes ≡ 4096) (is : now ≡ written old (frame * 4096) bytes) where
  fits : frame * 4096 + 4096 ≤ length old
  fits = omega (arith, low, are.room)

  this : page_of now frame ≡ bytes
  this = ap (λ (l : List ℕ). page_of l frame) is ∙ page-written frame old bytes whole fits

  others : (other : ℕ) → other ≢ frame → page_of now other ≡ page_of old other
  others other apart = ap (λ (l : List ℕ). page_of l other) is ∙ page-other frame other old bytes whole fits apart

  pub frames-put : AreFrames count now
  frames-put = record {
    some = are.some;
    room = omega (
      arith,
      ap (λ (l : List ℕ). length l) is,
      length-append (take (frame * 4096) old ++ bytes) (drop (frame * 4096 + length bytes) old),
      length-append (take (frame * 4096) old) bytes,
      length-take (frame * 4096) old,
      length-drop (frame * 4096 + length bytes) old,
      fits,
      whole,
      are.room,
    );
    blank = others 0 (λ (same : 0 ≡ frame). own (sym same)) ∙ are.blank;
  }

  same-frame : (other : ℕ) → at_in at other ≢ Some frame → option_map (page_of now) (at_in at other) ≡ option_map (page_of old) (at_in at other)
  same-frame other apart = of (at_in at other) apart
    where
      of : (found : Option ℕ) → found ≢ Some frame → option_map (page_of now) found ≡ option_map (page_of old) found
      of None away = refl
      of (Some other) away = ap Some (others other (λ (same : other ≡ frame). away (ap Some same)))

  pub kept-put : next ≡ set at page (Some frame) → page < length at → ((other : ℕ) → other ≢ page → at_in at other ≢ Some frame) → kept_in now next ≡ set (kept_in old at) page (Some bytes)
  kept-put is_next below alone = ext_get_or None (kept_in now next) (set (kept_in old at) page (Some bytes)) long each
    where
      long-next : length next ≡ length at
      long-next = ap (λ (l : List (Option ℕ)). length l) is_next ∙ length-set at page (Some frame)

      long : length (kept_in now next) ≡ length (set (kept_in old at) page (Some bytes))
      long = length-map next (option_map (page_of now)) ∙ long-next ∙ sym (length-set (kept_in old at) page (Some bytes) ∙ length-map at (option_map (page_of old)))

      at-next : (k : ℕ) → k < length at → get_or (kept_in now next) k None ≡ option_map (page_of now) (at_in next k)
      at-next k there = get_or-map (option_map (page_of now)) next k None None (omega (arith, there, long-next))

      each : (k : ℕ) → k < length (kept_in now next) → get_or (kept_in now next) k None ≡ get_or (set (kept_in old at) page (Some bytes)) k None
      each k short =
          let there : k < length at = omega (arith, short, length-map next (option_map (page_of now)), long-next) in
          elim (cases_eq k page) [
            | inl same ↦ at-next k there
                ∙ ap (λ (l : List (Option ℕ)). option_map (page_of now) (at_in l k)) is_next
                ∙ ap (λ (n : ℕ). option_map (page_of now) (at_in (set at page (Some frame)) n)) same
                ∙ ap (option_map (page_of now)) (get_or-set_same at page (Some frame) None below)
                ∙ ap Some this
                ∙ sym (ap (λ (n : ℕ). get_or (set (kept_in old at) page (Some bytes)) n None) same ∙ get_or-set_same (kept_in old at) page (Some bytes) None (omega (arith, below, length-map at (option_map (page_of old)))))
            | inr apart ↦ at-next k there
                ∙ ap (λ (l : List (Option ℕ)). option_map (page_of now) (at_in l k)) is_next
                ∙ ap (option_map (page_of now)) (get_or-set_other at page k (Some frame) None apart)
                ∙ same-frame k (alone k apart)
                ∙ sym (get_or-map (option_map (page_of old)) at k None None there)
                ∙ sym (get_or-set_other (kept_in old at) page k (Some bytes) None apart)
          ]

-- a page that has no frame for itself is blank
pub kept-blank : (bytes : List ℕ) (at next : List (Option ℕ)) (page : ℕ) → page_of bytes 0 ≡ zeros → next ≡ set at page (Some 0) → kept_in bytes next ≡ set (kept_in bytes at) page (Some zeros)
kept-blank bytes at next page blank is =
    ap (kept_in bytes) is ∙ map-set (option_map (page_of bytes)) at page (Some 0) ∙ ap (λ (l : List ℕ). set (kept_in bytes at) page (Some l)) blank

-- of no page there is a frame
pub kept-none : (bytes : List ℕ) (count : ℕ) → kept_in bytes (replicate count None) ≡ replicate count None
kept-none bytes zero = refl
kept-none bytes (suc count) = ap (λ (l : List (Option (List ℕ))). None ∷ l) (kept-none bytes count)

-- ---- more frames

module _ (count n : ℕ) (old now : List ℕ) (many : ℕ) (are : AreFrames count old) (is_n : n ≡ (count + 1) * 4096) (is_many : many ≡ n - length old) (is : now ≡ take n old ++ replicate many 0) where
  long : length now ≡ n
  long = ap (λ (l : List ℕ). length l) is ∙ omega (arith, length-append (take n old) (replicate {A = ℕ} many 0), length-take n old, length-replicate {A = ℕ} many 0, is_many)

  same-byte : (k : ℕ) → k < count * 4096 → get_or now k 0 ≡ get_or old k 0
  same-byte k low =
      ap (λ (l : List ℕ). get_or l k 0) is
      ∙ get_or_append_left (take n old) (replicate {A = ℕ} many 0) 0 k (omega (arith, low, length-take n old, is_n, are.room))
      ∙ get_or-take n old k 0 (omega (arith, low, is_n))

  same-frames : (frame : ℕ) → frame < count → page_of now frame ≡ page_of old frame
  same-frames frame low =
      same_number_lists (page_of now frame) (page_of old frame) (omega (arith, length-now, length-old))
      (λ i short.
      let inside : i < 4096 = omega (arith, short, length-now) in
      get_or-page now frame i inside ∙ same-byte (frame * 4096 + i) (omega (arith, low, inside)) ∙ sym (get_or-page old frame i inside))
    where
      length-now : length (page_of now frame) ≡ 4096
      length-now = omega (arith, low, long, is_n, length-take (frame * 4096 + 4096 - frame * 4096) (drop (frame * 4096) now), length-drop (frame * 4096) now)

      length-old : length (page_of old frame) ≡ 4096
      length-old = omega (arith, low, are.room, length-take (frame * 4096 + 4096 - frame * 4096) (drop (frame * 4096) old), length-drop (frame * 4096) old)

  pub frames-more : (next : ℕ) → 0 < next → next ≤ count + 1 → AreFrames next now
  frames-more next some most = record { some = some; room = omega (arith, most, long, is_n); blank = same-frames 0 are.some ∙ are.blank }

  pub kept-more : (at : List (Option ℕ)) → ((page frame : ℕ) → at_in at page ≡ Some frame → frame < count) → kept_in now at ≡ kept_in old at
  kept-more at within =
      ext_get_or None (kept_in now at) (kept_in old at) (length-map at (option_map (page_of now)) ∙ sym (length-map at (option_map (page_of old))))
      (λ k short.
      let low : k < length at = omega (arith, short, length-map at (option_map (page_of now))) in
      get_or-map (option_map (page_of now)) at k None None low ∙ each (at_in at k) (within k) ∙ sym (get_or-map (option_map (page_of old)) at k None None low))
    where
      each : (found : Option ℕ) → ((frame : ℕ) → found ≡ Some frame → frame < count) → option_map (page_of now) found ≡ option_map (page_of old) found
      each None below = refl
      each (Some frame) below = ap Some (same-frames frame (below frame refl))

-- ---- frames that are given up

get_or-kept : (bytes : List ℕ) (at : List (Option ℕ)) (page : ℕ) → get_or (kept_in bytes at) page None ≡ option_map (page_of bytes) (at_in at page)
get_or-kept bytes at page = elim (cases_lt page (length at)) [
  | inl low ↦ get_or-map (option_map (page_of bytes)) at page None None low
  | inr past ↦ get_or_past (kept_in bytes at) page None (omega (arith, past, length-map at (option_map (page_of bytes)))) ∙ sym (ap (option_map (page_of bytes)) (get_or_past at page None past))
]

-- where pages have given up their frames they are in memory no longer
pub went : (bytes : List ℕ) (stored : List Bool) (old new : OwnersState) → GaveUp stored old new → (page : ℕ) → HasStill stored (kept_in bytes old.at) (kept_in bytes new.at) page
went bytes stored old new gave page = elim (gave.pages page) [
  | inl same ↦ inl (get_or-kept bytes new.at page ∙ ap (option_map (page_of bytes)) same ∙ sym (get_or-kept bytes old.at page))
  | inr none ↦ inr (get_or-kept bytes new.at page ∙ ap (option_map (page_of bytes)) none.0, none.1)
]
