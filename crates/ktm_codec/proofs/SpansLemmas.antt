-- How what is read at one place goes on at the next.
use Rattle.std.proofs.Common.{◌≡◌, ℕ, ◌+◌, ◌-◌, ◌<◌, ◌≤◌, None, List, [], ◌∷◌, ◌++◌, length, take, drop, refl, sym, ◌∙◌, ap, subst, arith, length-append, length-drop}
use Rattle.std.proofs.lemmas.List.{take_at, drop_at, length-take-le, take-take, drop-take, drop-drop, take-append-drop}
use Rattle.std.proofs.lemmas.List.Folds.{drop_split}
use Rattle.std.specs.List.{slice_range}
use Rattle.ktm_base.specs.Grammar.{IsU8, IsU32, Then, Tagged, IsRow, IsListOf}
use Rattle.ktm_codec.specs.Spans.{Spans, Reads, Unambiguous}
use Rattle.ktm_codec.proofs.Adding.{row-push}
use Rattle.ktm_codec.proofs.Forms.{unambiguous_u8, unambiguous_u32}

pub Spans-map : {P Q : List ℕ → Type 0} {bytes : List ℕ} {at end : ℕ} → ((part : List ℕ) → P part → Q part) → Spans P bytes at end → Spans Q bytes at end
Spans-map f spans = record { forward = spans.forward; within = spans.within; form = f _ spans.form }

pub length-part : (bytes : List ℕ) (at end : ℕ) → at ≤ end → end ≤ length bytes → length (slice_range bytes at end) ≡ end - at
length-part bytes at end forward within = length-take-le (end - at) (drop at bytes) (omega (arith, length-drop at bytes))

-- two parts, one behind the other
part_split : (bytes : List ℕ) (at mid end : ℕ) → at ≤ mid → mid ≤ end → slice_range bytes at end ≡ slice_range bytes at mid ++ slice_range bytes mid end
part_split bytes at mid end first second =
    let front : take (mid - at) (slice_range bytes at end) ≡ slice_range bytes at mid = take-take (mid - at) (end - at) (drop at bytes) (omega arith) in
    let back : drop (mid - at) (slice_range bytes at end) ≡ slice_range bytes mid end =
    ap (λ n. drop (mid - at) (take n (drop at bytes))) (omega arith) ∙ drop-take (mid - at) (end - mid) (drop at bytes)
    ∙ ap (λ (l : List ℕ). take (end - mid) l) (drop-drop (mid - at) at bytes ∙ ap (λ n. drop n bytes) (omega arith)) in
    sym (take-append-drop (mid - at) (slice_range bytes at end)) ∙ ap (λ (l : List ℕ). l ++ drop (mid - at) (slice_range bytes at end)) front ∙ ap (λ (l : List ℕ). slice_range bytes at mid ++ l) back

module _ {P Q : List ℕ → Type 0} (bytes : List ℕ) where
  pub spans_then : (at mid end : ℕ) → Spans P bytes at mid → Spans Q bytes mid end → Spans (Then P Q) bytes at end
  spans_then at mid end first second = record {
    forward = omega (arith, first.forward, second.forward);
    within = second.within;
    form = (slice_range bytes at mid, slice_range bytes mid end, part_split bytes at mid end first.forward second.forward, first.form, second.form);
  }

  pub spans_parts : (at end : ℕ) → Spans (Then P Q) bytes at end → (mid : ℕ) × Spans P bytes at mid × Spans Q bytes mid end
  spans_parts at end spans =
      let (first, second, is, p, q) = spans.form in
      let long : length first + length second ≡ end - at =
      sym (length-append first second) ∙ ap (λ (l : List ℕ). length l) (sym is) ∙ length-part bytes at end spans.forward spans.within in
      let mid : ℕ = at + length first in
      let split = sym is ∙ part_split bytes at mid end (omega arith) (omega (arith, spans.forward)) in
      let long_first : length (slice_range bytes at mid) ≡ length first = length-part bytes at mid (omega arith) (omega (arith, spans.forward, spans.within)) ∙ omega arith in
      let front : first ≡ slice_range bytes at mid =
      sym (take_at first second (length first) refl) ∙ ap (λ (l : List ℕ). take (length first) l) split ∙ take_at (slice_range bytes at mid) (slice_range bytes mid end) (length first) long_first in
      let back : second ≡ slice_range bytes mid end =
      sym (drop_at first second (length first) refl) ∙ ap (λ (l : List ℕ). drop (length first) l) split ∙ drop_at (slice_range bytes at mid) (slice_range bytes mid end) (length first) long_first in (
        mid,
        record { forward = omega arith; within = omega (arith, spans.forward, spans.within); form = subst P front p },
        record { forward = omega (arith, spans.forward); within = spans.within; form = subst Q back q },
      )

-- what stands at a place is one thing, which ends at one place
pub one_reading : {X : Type 0} (Form : X → List ℕ → Type 0) → Unambiguous Form → (bytes : List ℕ) (at : ℕ) (x y : X) (end end' : ℕ) → Spans (Form x) bytes at end → Spans (Form y) bytes at end' → (x ≡ y) × (end ≡ end')
one_reading Form one bytes at x y end end' p q =
    let (same, parts) = one x y (slice_range bytes at end) (slice_range bytes at end') (drop end bytes) (drop end' bytes) p.form q.form
    (sym (drop_split bytes at end p.forward) ∙ drop_split bytes at end' q.forward) in
    let lens : end - at ≡ end' - at =
    sym (length-part bytes at end p.forward p.within) ∙ ap (λ (l : List ℕ). length l) parts ∙ length-part bytes at end' q.forward q.within in
    (same, omega (arith, lens, p.forward, q.forward))

-- a list behind its length
module _ (Count : ℕ → List ℕ → Type 0) (one : Unambiguous Count) (bytes : List ℕ) (at : ℕ) where
  pub counted_none : Reads Count bytes at None → Reads (λ (value : List ℕ). Then (Count (length value)) (λ rest. rest ≡ value)) bytes at None
  counted_none none value end spans =
      let (mid, count, contents) = spans_parts bytes at end spans in
      none (length value) mid count

  module _ (len start : ℕ) (count : Spans (Count len) bytes at start) where
    pub counted_cut : length bytes < start + len → Reads (λ (value : List ℕ). Then (Count (length value)) (λ rest. rest ≡ value)) bytes at None
    counted_cut cut value end spans =
        let (mid, count', contents) = spans_parts bytes at end spans in
        let (lens, starts) = one_reading Count one bytes at len (length value) start mid count count' in
        let long : end - mid ≡ length value = sym (length-part bytes mid end contents.forward contents.within) ∙ ap (λ (l : List ℕ). length l) contents.form in
        absurd (omega (arith, lens, starts, long, contents.forward, contents.within))

    pub counted_some : (value : List ℕ) → start + len ≤ length bytes → value ≡ slice_range bytes start (start + len) → Spans (Then (Count (length value)) (λ rest. rest ≡ value)) bytes at (start + len)
    counted_some value within is =
        let long : length value ≡ len = ap (λ (l : List ℕ). length l) is ∙ length-part bytes start (start + len) (omega arith) within ∙ omega arith in
        spans_then bytes at start (start + len) (subst (λ n. Spans (Count n) bytes at start) (sym long) count)
        (record { forward = omega arith; within = within; form = sym is })

-- one thing and then another, each of them read
module _ {X Y : Type 0} (First : X → List ℕ → Type 0) (Second : Y → List ℕ → Type 0) (bytes : List ℕ) (at : ℕ) where
  pub then_no_first : Reads First bytes at None → (x : X) (y : Y) (end : ℕ) → Spans (Then (First x) (Second y)) bytes at end → ⊥
  then_no_first none x y end spans =
      let (mid, first, second) = spans_parts bytes at end spans in
      none x mid first

  module _ (one : Unambiguous First) (x : X) (mid : ℕ) (first : Spans (First x) bytes at mid) where
    pub then_no_second : Reads Second bytes mid None → (x' : X) (y : Y) (end : ℕ) → Spans (Then (First x') (Second y)) bytes at end → ⊥
    then_no_second none x' y end spans =
        let (mid', first', second) = spans_parts bytes at end spans in
        let (same, places) = one_reading First one bytes at x x' mid mid' first first' in
        none y end (subst (λ n. Spans (Second y) bytes n end) (sym places) second)

    pub then_same : Unambiguous Second → (y : Y) (end : ℕ) → Spans (Second y) bytes mid end → (x' : X) (y' : Y) (end' : ℕ) → Spans (Then (First x') (Second y')) bytes at end' → (x ≡ x') × (y ≡ y') × (end ≡ end')
    then_same two y end second x' y' end' spans =
        let (mid', first', second') = spans_parts bytes at end' spans in
        let (same, places) = one_reading First one bytes at x x' mid mid' first first' in
        let (same', ends) = one_reading Second two bytes mid y y' end end' second (subst (λ n. Spans (Second y') bytes n end') (sym places) second') in
        (same, same', ends)

-- a tag is one byte and then the rest
pub tagged_then : {P : List ℕ → Type 0} (tag : ℕ) (part : List ℕ) → Tagged tag P part → Then (IsU8 tag) P part
tagged_then tag part (rest, is, p) = (tag ∷ [], rest, is, record { value = refl }, p)

pub then_tagged : {P : List ℕ → Type 0} (tag : ℕ) (part : List ℕ) → Then (IsU8 tag) P part → Tagged tag P part
then_tagged tag part (first, rest, is, q, p) = (rest, is ∙ ap (λ (l : List ℕ). l ++ rest) q.value, p)

module _ (bytes : List ℕ) (at tag mid : ℕ) (first : Spans (IsU8 tag) bytes at mid) where
  pub spans_tagged : {P : List ℕ → Type 0} (end : ℕ) → Spans P bytes mid end → Spans (Tagged tag P) bytes at end
  spans_tagged end rest = Spans-map (then_tagged tag) (spans_then bytes at mid end first rest)

  pub tagged_rest : {P : List ℕ → Type 0} (other end : ℕ) → Spans (Tagged other P) bytes at end → (tag ≡ other) × Spans P bytes mid end
  tagged_rest {P} other end spans =
      let (mid', first', rest) = spans_parts bytes at end (Spans-map (tagged_then other) spans) in
      let (same, places) = one_reading IsU8 unambiguous_u8 bytes at tag other mid mid' first first' in
      (same, subst (λ n. Spans P bytes n end) (sym places) rest)

pub tagged_none : {P : List ℕ → Type 0} (bytes : List ℕ) (at tag end : ℕ) → Reads IsU8 bytes at None → Spans (Tagged tag P) bytes at end → ⊥
tagged_none bytes at tag end none spans =
    let (mid, first, rest) = spans_parts bytes at end (Spans-map (tagged_then tag) spans) in
    none tag mid first

-- as many things in a row as were read: what comes behind them is the next
pub row_next : {X : Type 0} (Item : X → List ℕ → Type 0) → Unambiguous Item → (bytes : List ℕ) (ys xs : List X) (at here end : ℕ)
    → Spans (IsRow Item ys) bytes at here → Spans (IsRow Item xs) bytes at end → length ys < length xs → (x : X) × (next : ℕ) × Spans (Item x) bytes here next
row_next Item one bytes ys [] at here end so_far row fewer = absurd (omega arith)
row_next Item one bytes [] (x ∷ xs) at here end so_far row fewer =
    let (mid, first, rest) = spans_parts bytes at end row in
    let none : here - at ≡ 0 = sym (length-part bytes at here so_far.forward so_far.within) ∙ ap (λ (l : List ℕ). length l) so_far.form in
    (x, mid, subst (λ n. Spans (Item x) bytes n mid) (omega (arith, none, so_far.forward)) first)
row_next Item one bytes (y ∷ ys) (x ∷ xs) at here end so_far row fewer =
    let (mid, first, rest) = spans_parts bytes at end row in
    let (mid', first', rest') = spans_parts bytes at here so_far in
    let (same, places) = one_reading Item one bytes at x y mid mid' first first' in
    row_next Item one bytes ys xs mid' here end rest' (subst (λ n. Spans (IsRow Item xs) bytes n end) places rest) (omega arith)

pub row_push : {X : Type 0} (Item : X → List ℕ → Type 0) → (bytes : List ℕ) (xs : List X) (x : X) (at here end : ℕ)
    → Spans (IsRow Item xs) bytes at here → Spans (Item x) bytes here end → Spans (IsRow Item (xs ++ x ∷ [])) bytes at end
row_push Item bytes xs x at here end row item = record {
  forward = omega (arith, row.forward, item.forward);
  within = item.within;
  form = subst (λ (l : List ℕ). IsRow Item (xs ++ x ∷ []) l) (sym (part_split bytes at here end row.forward item.forward))
      (row-push Item xs x (slice_range bytes at here) (slice_range bytes here end) row.form item.form);
}

-- a count, and then as many things
module _ {X : Type 0} (Item : X → List ℕ → Type 0) (bytes : List ℕ) (at : ℕ) where
  pub list_no_count : Reads IsU32 bytes at None → Reads (IsListOf Item) bytes at None
  list_no_count none xs end spans = then_no_first IsU32 (IsRow Item) bytes at none (length xs) xs end spans

  module _ (count start : ℕ) (first : Spans (IsU32 count) bytes at start) where
    pub list_cut : Unambiguous Item → (ys : List X) (here : ℕ) → Spans (IsRow Item ys) bytes start here → length ys < count → Reads Item bytes here None → Reads (IsListOf Item) bytes at None
    list_cut one ys here so_far fewer none xs end spans =
        let (mid, first', row) = spans_parts bytes at end spans in
        let (same, places) = one_reading IsU32 unambiguous_u32 bytes at count (length xs) start mid first first' in
        let (x, next, item) = row_next Item one bytes ys xs start here end so_far (subst (λ n. Spans (IsRow Item xs) bytes n end) (sym places) row) (omega (arith, same)) in
        none x next item

    pub list_read : (xs : List X) (end : ℕ) → Spans (IsRow Item xs) bytes start end → length xs ≡ count → Spans (IsListOf Item xs) bytes at end
    list_read xs end row all = spans_then bytes at start end (subst (λ n. Spans (IsU32 n) bytes at start) (sym all) first) row
