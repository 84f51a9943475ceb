-- Contents that lie on the pages of an image, by the places of their bytes.
use Rattle.std.proofs.Common.{◌≡◌, ℕ, zero, suc, ◌+◌, ◌*◌, ◌/◌, ◌%◌, ◌<◌, ◌≤◌, ◌==◌, ◌&&◌, nat_le, true, false, List, [], ◌∷◌, map, length, get_or, Option, None, Some, All, subst, sym, refl, ap, ◌∙◌, arith, inl, inr}
use Rattle.std.specs.List.{list_all}
use Rattle.std.proofs.lemmas.Bool.{and_from, and_parts, cases_Bool, eq-eqb, eqb-true, le-leb, leb-true, or_left, or_right}
use Rattle.std.proofs.lemmas.List.{get_or_default}
use Rattle.std.proofs.lemmas.List.Elements.{All-cons, All-head, All-nil, All-tail, All-weaker}
use Rattle.ktm_base.specs.Grammar.{IsRow}
use Rattle.ktm_content.specs.Places.{LieOn, places_on}
use Rattle.ktm_content.proofs.offered.Bytes.{lie-on, place-lie}
use Rattle.ktm_each.specs.Each.{EachFrom, EachOfChange, EachOfChanges, EachOfDurable, EachOfNode, EachOfPart, EachOfRecorded}
use Rattle.ktm_journal.specs.Image.{page_count}
use Rattle.ktm_paged.specs.Paged.{IsOwned, IsSound, LieBelow, LiesBelow, PutLiesBelow, RecordedLiesBelow}
use Rattle.ktm_paged.proofs.offered.Lying.{lies-none}
use Rattle.ktm_restart.specs.Logs.{IsOnPages}
use Rattle.ktm_snapshot.specs.StateGrammar.{IsMarkedOf, IsNamedOf, IsNodeOf, IsPlacedPartOf, IsStateOf, IsTransactionOf}
use Rattle.ktm_snapshot.specs.Works.{is_of_work, is_work, placed_change, placed_part}
use Rattle.ktm_world.specs.declared.change.Change.{Change}
use Rattle.ktm_world.specs.declared.change.Change.TheVariants.{Make, Put, Cut, Move, Drop}
use Rattle.ktm_world.specs.declared.change.Contents.TheVariants.{Whole, Paged}
use Rattle.ktm_world.specs.declared.event.Part.{Part}
use Rattle.ktm_world.specs.declared.event.Part.TheVariants.{Changes, Enlistment, Settings}
use Rattle.ktm_world.specs.declared.recorded.Node.{Node}
use Rattle.ktm_world.specs.declared.recorded.RecordedPart.{RecordedPart}
use Rattle.ktm_world.specs.Changes.{bytes_in}
use Rattle.ktm_world.specs.Durable.{Durable, Recorded, changes_in}
use Rattle.ktm_world.specs.Tree.{bytes_or_none}
use Rattle.ktm_core.specs.Core.{is_sound}
use Rattle.ktm_memory.specs.Rules.{AllowsNone}
use Rattle.ktm_core.proofs.offered.Places.{durable-both, durable-weaker}

-- ---- bytes by their index

module _ (q : ℕ → ℕ → Type 0) where
  pub each-from : (from : ℕ) (xs : List ℕ) → ((k : ℕ) → k < length xs → q (from + k) (get_or xs k 0)) → EachFrom q from xs
  each-from from [] f = tt
  each-from from (x ∷ xs) f = (
    (let first : from + 0 ≡ from = omega arith in subst (λ (n : ℕ). q n x) first (f 0 (omega arith))),
    each-from (suc from) xs (λ k low. let next : from + suc k ≡ suc from + k = omega arith in subst (λ (n : ℕ). q n (get_or xs k 0)) next (f (suc k) (omega (arith, low)))),
  )

  pub each-at : (from : ℕ) (xs : List ℕ) → EachFrom q from xs → (k : ℕ) → k < length xs → q (from + k) (get_or xs k 0)
  each-at from [] each k low = absurd (omega (arith, low))
  each-at from (x ∷ xs) each zero low = let first : from ≡ from + 0 = omega arith in subst (λ (n : ℕ). q n x) first each.0
  each-at from (x ∷ xs) each (suc k) low = let next : suc from + k ≡ from + suc k = omega arith in subst (λ (n : ℕ). q n (get_or xs k 0)) next (each-at (suc from) xs each.1 k (omega (arith, low)))

-- ---- contents on the first so many pages

module _ (count : ℕ) where
  abbrev IsBelow : ℕ → ℕ → ℕ → Type 0
  IsBelow file index place = place ≤ count * 4096

  lies-below : (from : ℕ) (contents : List ℕ) → LiesBelow count contents → EachFrom (λ index place. place ≤ count * 4096) from contents
  lies-below from contents lies = each-from (λ index place. place ≤ count * 4096) from contents at
    where
      at : (k : ℕ) → k < length contents → get_or contents k 0 ≤ count * 4096
      at k low =
          let unit : ℕ = k / 4096 in
          let i : ℕ = k % 4096 in
          let is : k ≡ unit * 4096 + i = omega arith in
          let there : unit < length lies.pages = omega (arith, low, lies.lie.units) in
          let place : get_or contents k 0 ≡ get_or lies.pages unit 0 * 4096 + i + 1 = ap (λ (n : ℕ). get_or contents n 0) is ∙ place-lie lies.pages contents unit i lies.lie (omega arith) (omega (arith, low)) in
          omega (arith, place, lies.below unit 0 there)

  below-lies : (from : ℕ) (contents pages : List ℕ) → LieOn pages contents → EachFrom (λ index place. place ≤ count * 4096) from contents → LiesBelow count contents
  below-lies from contents pages lie each = record { pages = pages; lie = lie; below = at }
    where
      at : (k d : ℕ) → k < length pages → get_or pages k d < count
      at k d low =
          let there : k * 4096 + 0 < length contents = omega (arith, low, lie.units) in
          omega (arith, get_or_default pages k d 0 low, place-lie pages contents k 0 lie (omega arith) there, each-at (λ index place. place ≤ count * 4096) from contents each (k * 4096 + 0) there)

  -- ---- states that lie so

  change-below : (c : Change) → PutLiesBelow count c → EachOfChange IsBelow c
  change-below (Put node offset contents) lies = lies-below offset (bytes_in contents) lies
  change-below (Make node parent name directory) lies = tt
  change-below (Cut node size pages) lies = tt
  change-below (Move node parent name) lies = tt
  change-below (Drop node) lies = tt

  recorded-below : (t : Recorded) → RecordedLiesBelow count t → EachOfRecorded IsBelow t
  recorded-below t lies =
      All-weaker (λ (part : RecordedPart). All (PutLiesBelow count) (changes_in part.part)) (λ (part : RecordedPart). EachOfPart IsBelow part.part)
      (λ part. All-weaker (PutLiesBelow count) (EachOfChange IsBelow) change-below (changes_in part.part)) t.parts lies

  pub state-below : (s : Durable) → LieBelow count s → EachOfDurable IsBelow s
  state-below s lies = record {
    tree = All-weaker (λ (n : Node). LiesBelow count (bytes_or_none n.content)) (EachOfNode IsBelow) (λ n. lies-below 0 (bytes_or_none n.content)) s.tree lies.files;
    transactions = All-weaker (RecordedLiesBelow count) (EachOfRecorded IsBelow) recorded-below s.transactions lies.works;
  }

  -- ---- states that are spelled, whose contents lie on pages

  row-lies : {X : Type 0} (Item : X → List ℕ → Type 0) (P Q : X → Type 0) → ((x : X) (bytes : List ℕ) → Item x bytes → P x → Q x) → (xs : List X) (bytes : List ℕ) → IsRow Item xs bytes → All P xs → All Q xs
  row-lies Item P Q f [] bytes row all = All-nil Q
  row-lies Item P Q f (x ∷ xs) bytes (first, rest, is, item, row) all = All-cons Q x xs (f x first item (All-head P x xs all)) (row-lies Item P Q f xs rest row (All-tail P x xs all))

  named-lies : (name : List ℕ) (content : Option (List ℕ)) (bytes : List ℕ) → IsNamedOf name content bytes → EachFrom (λ index place. place ≤ count * 4096) 0 (bytes_or_none content) → LiesBelow count (bytes_or_none content)
  named-lies name None bytes named each = lies-none count
  named-lies name (Some contents) bytes (rest, tag, (first, second, is, text, spelled)) each = below-lies 0 contents spelled.pages spelled.lie each

  node-lies : (n : Node) (bytes : List ℕ) → IsNodeOf n bytes → EachOfNode IsBelow n → LiesBelow count (bytes_or_none n.content)
  node-lies n bytes (a, b, is, number, (c, d, also, parent, named)) each = named-lies n.name n.content d named each

  placed-lies : (c : Change) → is_of_work c ≡ true → EachOfChange IsBelow (placed_change c) → PutLiesBelow count (placed_change c)
  placed-lies (Put node offset (Whole bytes)) is each = absurd (let both = and_parts (offset == 0) false is in cc)
  placed-lies (Put node offset (Paged len pages)) is each =
      let both = and_parts (offset == 0) (length pages == (len + 4095) / 4096) is in
      below-lies offset (places_on pages len) pages (lie-on pages len (eqb-true (length pages) ((len + 4095) / 4096) both.1)) each
  placed-lies (Make node parent name directory) is each = tt
  placed-lies (Cut node size pages) is each = tt
  placed-lies (Move node parent name) is each = tt
  placed-lies (Drop node) is each = tt

  all-placed-lie : (cs : List Change) → list_all is_of_work cs ≡ true → EachOfChanges IsBelow (map placed_change cs) → All (PutLiesBelow count) (map placed_change cs)
  all-placed-lie [] is each = All-nil (PutLiesBelow count)
  all-placed-lie (c ∷ cs) is each =
      let both = and_parts (is_of_work c) (list_all is_of_work cs) is in
      All-cons (PutLiesBelow count) (placed_change c) (map placed_change cs) (placed-lies c both.0 (All-head (EachOfChange IsBelow) (placed_change c) (map placed_change cs) each))
      (all-placed-lie cs both.1 (All-tail (EachOfChange IsBelow) (placed_change c) (map placed_change cs) each))

  part-lies : (part : Part) (bytes : List ℕ) → IsPlacedPartOf part bytes → EachOfPart IsBelow part → All (PutLiesBelow count) (changes_in part)
  part-lies part bytes placed each =
      subst (λ (q : Part). All (PutLiesBelow count) (changes_in q)) (sym placed.placed) (of-recorded placed.recorded placed.work (subst (EachOfPart IsBelow) placed.placed each))
    where
      of-recorded : (q : Part) → is_work q ≡ true → EachOfPart IsBelow (placed_part q) → All (PutLiesBelow count) (changes_in (placed_part q))
      of-recorded (Changes cs) is of = all-placed-lie cs is of
      of-recorded (Enlistment enlistment manager information) is of = All-nil (PutLiesBelow count)
      of-recorded (Settings settings) is of = All-nil (PutLiesBelow count)

  marked-lies : (part : RecordedPart) (bytes : List ℕ) → IsMarkedOf part bytes → EachOfPart IsBelow part.part → All (PutLiesBelow count) (changes_in part.part)
  marked-lies part bytes (first, second, is, mark, placed) each = part-lies part.part second placed each

  transaction-lies : (t : Recorded) (bytes : List ℕ) → IsTransactionOf t bytes → EachOfRecorded IsBelow t → RecordedLiesBelow count t
  transaction-lies t bytes (first, second, is, start, row) each =
      row-lies IsMarkedOf (λ (part : RecordedPart). EachOfPart IsBelow part.part) (λ (part : RecordedPart). All (PutLiesBelow count) (changes_in part.part)) marked-lies t.parts second row each

  pub spelled-lies : (s : Durable) (bytes : List ℕ) → IsStateOf s bytes → EachOfDurable IsBelow s → LieBelow count s
  spelled-lies s bytes spelled each =
      let (a, b, is, up, ts) = spelled.spelled in
      let (c, d, also, front, managers) = up in
      let (e, f, more, nodes_up, keys) = front in
      let (g, h, last, head, nodes) = nodes_up in
      let (i, j, of, many, row) = nodes.listed in
      let (k, l, at, number, rows) = ts.listed in
      record {
        files = row-lies IsNodeOf (EachOfNode IsBelow) (λ (n : Node). LiesBelow count (bytes_or_none n.content)) node-lies s.tree j row each.tree;
        works = row-lies IsTransactionOf (EachOfRecorded IsBelow) (RecordedLiesBelow count) transaction-lies s.transactions l rows each.transactions;
      }

-- ---- places with their owners

pub sound-below : (owner : ℕ → ℕ × ℕ) (count file index place : ℕ) → IsSound owner count file index place → place ≤ count * 4096
sound-below owner count file index place (inl none) = omega (arith, none)
sound-below owner count file index place (inr is) = is.1

sound-owned : (owner : ℕ → ℕ × ℕ) (count file index place : ℕ) → IsSound owner count file index place → IsOwned owner file index place
sound-owned owner count file index place (inl none) = inl none
sound-owned owner count file index place (inr is) = inr is.0

owned-sound : (owner : ℕ → ℕ × ℕ) (count file index place : ℕ) → IsOwned owner file index place → place ≤ count * 4096 → IsSound owner count file index place
owned-sound owner count file index place (inl none) low = inl none
owned-sound owner count file index place (inr is) low = inr (is, low)

-- a state on the pages of its image is sound, and one that is sound and spelled lies there
pub on_pages-sound : (s : Durable) (on_pages : IsOnPages s) → EachOfDurable (IsSound on_pages.apart.0 (page_count s.units)) s
on_pages-sound s on_pages =
    durable-both (IsOwned on_pages.apart.0) (IsBelow (page_count s.units)) (IsSound on_pages.apart.0 (page_count s.units)) (owned-sound on_pages.apart.0 (page_count s.units)) s on_pages.apart.1
    (state-below (page_count s.units) s on_pages.below)

pub sound-on_pages : (owner : ℕ → ℕ × ℕ) (s : Durable) (bytes : List ℕ) → IsStateOf s bytes → EachOfDurable (IsSound owner (page_count s.units)) s → IsOnPages s
sound-on_pages owner s bytes spelled sound = record {
  below = spelled-lies (page_count s.units) s bytes spelled (durable-weaker (IsSound owner (page_count s.units)) (IsBelow (page_count s.units)) (sound-below owner (page_count s.units)) s sound);
  apart = (owner, durable-weaker (IsSound owner (page_count s.units)) (IsOwned owner) (sound-owned owner (page_count s.units)) s sound);
}

-- ---- the same as a rule

pub sound-is : (owner : ℕ → ℕ × ℕ) (count file index place : ℕ) → IsSound owner count file index place → is_sound owner count file index place ≡ true
sound-is owner count file index place (inl none) = or_left (place == 0) _ (eq-eqb place 0 none)
sound-is owner count file index place (inr is) =
    or_right (place == 0) _
    (and_from ((owner place).0 == file && (owner place).1 == index) (nat_le place (count * 4096))
    (and_from ((owner place).0 == file) ((owner place).1 == index) (eq-eqb (owner place).0 file (ap (λ (o : ℕ × ℕ). o.0) is.0)) (eq-eqb (owner place).1 index (ap (λ (o : ℕ × ℕ). o.1) is.0)))
    (le-leb place (count * 4096) is.1))

pub is-sound : (owner : ℕ → ℕ × ℕ) (count file index place : ℕ) → is_sound owner count file index place ≡ true → IsSound owner count file index place
is-sound owner count file index place is = elim (cases_Bool (place == 0)) [
  | inl none ↦ inl (eqb-true place 0 none)
  | inr some ↦ inr (owned (rw some at is))
]
  where
    owned : ((owner place).0 == file && (owner place).1 == index && nat_le place (count * 4096)) ≡ true → (owner place ≡ (file, index)) × (place ≤ count * 4096)
    owned is =
        let first = and_parts ((owner place).0 == file && (owner place).1 == index) (nat_le place (count * 4096)) is in
        let second = and_parts ((owner place).0 == file) ((owner place).1 == index) first.0 in
        (λ i. (eqb-true (owner place).0 file second.0 i, eqb-true (owner place).1 index second.1 i), leb-true place (count * 4096) first.1)

-- every byte may have no place
pub none-sound : (owner : ℕ → ℕ × ℕ) (count : ℕ) → AllowsNone (is_sound owner count)
none-sound owner count file index = refl
