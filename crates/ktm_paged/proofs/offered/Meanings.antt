-- What changes and logs mean that are recorded with pages.
use Rattle.std.proofs.Common.{◌≡◌, ℕ, ◌+◌, ◌-◌, ◌*◌, ◌/◌, ◌<◌, ◌==◌, ◌&&◌, not, true, List, [], ◌∷◌, map, replicate, length, Option, Some, None, refl, sym, ◌∙◌, ap, subst, arith, inl, inr}
use Rattle.std.specs.Prelude.{◌^◌, nat_le, nat_lt, ⊤}
use Rattle.std.specs.List.{list_all}
use Rattle.std.proofs.lemmas.Bool.{cases_Bool, and_parts, and_from, eq-eqb, eqb-true, eqb-false, lt-ltb, ltb-true, ltb-false, not-true, true≢false}
use Rattle.std.proofs.lemmas.List.{length-map}
use Rattle.ktm_world.specs.declared.change.Change.{Change}
use Rattle.ktm_world.specs.declared.change.Change.TheVariants.{Make, Put, Cut, Move, Drop}
use Rattle.ktm_world.specs.declared.change.Contents.TheVariants.{Whole, Paged}
use Rattle.ktm_world.specs.declared.event.Event.{Event}
use Rattle.ktm_world.specs.declared.event.Event.TheVariants.{Boot, MadeRm, Plain, Ready, Single, Held, Decide, Undo, Done}
use Rattle.ktm_world.specs.declared.event.Part.{Part}
use Rattle.ktm_world.specs.declared.event.Part.TheVariants.{Enlistment, Changes, Settings}
use Rattle.ktm_world.specs.declared.recorded.Node.{Node}
use Rattle.ktm_content.specs.Places.{CanBePut, LieOn, byte_at, places_on}
use Rattle.ktm_content.proofs.offered.Placing.{length-places_on}
use Rattle.ktm_world.specs.Changes.{bytes_in, changed, is_empty_list, node_of}
use Rattle.ktm_world.specs.Durable.{Durable, after_event, after_events, are_final_bytes, changes_in, ends_in_bytes, event_applies, events_apply, log_applies, stand}
use Rattle.ktm_world.specs.Logs.{Group}
use Rattle.ktm_world.specs.Tree.{Tree, bytes_of, bytes_or_none, content_of, cut_to, node_at, numbers_rise, put_over}
use Rattle.ktm_world.proofs.offered.Lookups.{map_node, node_at-there}
use Rattle.txf_laws.specs.Contents.{puts_some}
use Rattle.txf_laws.specs.GoodState.{is_of_object}
use Rattle.txf_laws.specs.Grammatical.{ids_in, is_grammatical}
use Rattle.ktm_mapped.specs.Mapped.{mapped_durable}
use Rattle.ktm_replaced.specs.Replaced.{AreAlike, takes_no_pages}
use Rattle.ktm_replaced.proofs.offered.Replacing.{after_event-alike, event_applies-alike}
use Rattle.ktm_paged.specs.Meaning.{begins_file, end_touched, first_unit, has_event_its_pages, has_its_pages, has_work_pages, meant, meant_event, meant_part, put_on, size_before, units_from}
use Rattle.ktm_paged.specs.Paged.{CanAllBeMade, CanBeMade, GroupApplies, HaveUnits, LogApplies, meant_group, meant_log, paged_after, paged_after_all, paged_stand}
use Rattle.ktm_content.proofs.offered.PutBytes.{put-none}
use Rattle.ktm_paged.proofs.offered.Units.{bytes-put, can-be-put, ends-touched, units-touched}

-- ---- what a change means

pub meant-whole : (size : ℕ) (c : Change) → has_its_pages size c ≡ true → takes_no_pages (meant size c) ≡ true
meant-whole size (Make node parent kind name) is = refl
meant-whole size (Put node offset (Whole bytes)) is = absurd (true≢false (sym is))
meant-whole size (Put node offset (Paged len pages)) is = refl
meant-whole size (Cut node end pages) is = elim (cases_Bool (nat_lt size end)) [ inl grows ↦ rw grows refl | inr less ↦ rw less refl ]
meant-whole size (Move node parent name) is = refl
meant-whole size (Drop node) is = refl

pub meant-file : (size : ℕ) (c : Change) → node_of (meant size c) ≡ node_of c
meant-file size (Make node parent kind name) = refl
meant-file size (Put node offset (Whole bytes)) = refl
meant-file size (Put node offset (Paged len pages)) = refl
meant-file size (Cut node end pages) = elim (cases_Bool (nat_lt size end)) [ inl grows ↦ rw grows refl | inr less ↦ rw less refl ]
meant-file size (Move node parent name) = refl
meant-file size (Drop node) = refl

-- the pages that a put has
pub put-pages : (size offset len : ℕ) (pages : List ℕ) → (nat_lt (offset + len) (2 ^ 64) && length pages == units_from (first_unit size offset) (offset + len)) ≡ true → length pages ≡ units_from (first_unit size offset) (offset + len)
put-pages size offset len pages is = eqb-true _ _ (and_parts (nat_lt (offset + len) (2 ^ 64)) (length pages == units_from (first_unit size offset) (offset + len)) is).1

-- the pages that a cut has with which a file becomes longer
pub cut-pages : (size end : ℕ) (node : ℕ) (pages : List ℕ) → nat_lt size end ≡ true → has_its_pages size (Cut node end pages) ≡ true → length pages ≡ units_from (size / 4096) end
cut-pages size end node pages grows is = eqb-true _ _ (rw grows at is)

pub meant-can : (tree : Tree) (c : Change) → has_its_pages (size_before tree c) c ≡ true → CanBeMade tree (meant (size_before tree c) c)
meant-can tree (Make node parent kind name) is = tt
meant-can tree (Put node offset (Whole bytes)) is = absurd (true≢false (sym is))
meant-can tree (Put node offset (Paged len pages)) is =
    let size = length (bytes_of tree node) in
    let first = first_unit size offset in
    can-be-put (bytes_of tree node) pages first _ (omega arith) (omega arith) (put-pages size offset len pages is ∙ sym (units-touched first size (offset + len))) (ends-touched size (offset + len))
meant-can tree (Cut node end pages) is = elim (cases_Bool (nat_lt (length (bytes_of tree node)) end)) [
  | inl grows ↦
      let longer = ltb-true _ _ grows in
      rw grows (can-be-put (bytes_of tree node) pages (length (bytes_of tree node) / 4096) end (omega arith) (omega (arith, longer)) (cut-pages _ end node pages grows is) (inr (omega (arith, longer))))
  | inr less ↦ rw less (omega (arith, ltb-false _ _ less))
]
meant-can tree (Move node parent name) is = tt
meant-can tree (Drop node) is = tt

-- ---- whole units that are meant

-- the places of contents on pages
on-pages : (pages contents : List ℕ) (many : ℕ) → LieOn pages contents → many ≡ length contents → places_on pages many ≡ contents
on-pages pages contents many lie is = ap (places_on pages) is ∙ sym lie.places

pub put-meant : (size node offset len : ℕ) (contents pages : List ℕ) → LieOn pages contents → offset + len < 2 ^ 64 → first_unit size offset * 4096 + length contents ≡ end_touched size (offset + len)
    → (has_its_pages size (Put node offset (Paged len pages)) ≡ true) × (meant size (Put node offset (Paged len pages)) ≡ Put node (first_unit size offset * 4096) (Whole contents))
put-meant size node offset len contents pages lie low whole = (
  and_from _ _ (lt-ltb _ _ low) (eq-eqb _ _ many),
  ap (λ c. Put node (first_unit size offset * 4096) (Whole c)) (on-pages pages contents _ lie (omega (arith, whole))),
)
  where
    many : length pages ≡ units_from (first_unit size offset) (offset + len)
    many = omega (arith, lie.units, whole)

pub grown-meant : (size node end : ℕ) (contents pages : List ℕ) → LieOn pages contents → size < end → size / 4096 * 4096 + length contents ≡ end
    → (has_its_pages size (Cut node end pages) ≡ true) × (meant size (Cut node end pages) ≡ Put node (size / 4096 * 4096) (Whole contents))
grown-meant size node end contents pages lie longer whole = (
  rw grows (eq-eqb _ _ many),
  rw grows (ap (λ c. Put node (size / 4096 * 4096) (Whole c)) (on-pages pages contents _ lie (omega (arith, whole)))),
)
  where
    grows : nat_lt size end ≡ true
    grows = lt-ltb size end longer

    many : length pages ≡ units_from (size / 4096) end
    many = omega (arith, lie.units, whole)

-- ---- changes in the form in which they are recorded

-- the file that was just cut has no bytes
abbrev IsEmptied : Tree → Option ℕ → Type 0
IsEmptied tree None = ⊤
IsEmptied tree (Some node) = bytes_of tree node ≡ []

-- a file that is cut to nothing has no bytes
emptied-node : (o : Option Node) → bytes_or_none (content_of (map_node (λ n. record n { content = Some (cut_to (bytes_or_none n.content) 0) }) o)) ≡ []
emptied-node None = refl
emptied-node (Some node) = let none : 0 - length (bytes_or_none node.content) ≡ 0 = omega arith in ap (λ n. replicate {A = ℕ} n 0) none

emptied : (tree : Tree) (node : ℕ) (pages : List ℕ) → bytes_of (changed tree (Cut node 0 pages)) node ≡ []
emptied tree node pages = ap (λ o. bytes_or_none (content_of o)) (node_at-there tree (Cut node 0 pages) (λ made. absurd (true≢false (sym made)))) ∙ emptied-node (node_at tree node)

-- others can be put where there are none
can-be-first : (old new : List ℕ) → old ≡ [] → CanBePut old 0 new
can-be-first old new none = record { begins = refl; reaches = omega arith; ends = inr (omega (arith, ap length none)) }

final-can : (tree : Tree) (least : ℕ) (cut : Option ℕ) (cs : List Change) → are_final_bytes least cut cs ≡ true → IsEmptied tree cut → CanAllBeMade tree cs
final-can tree least cut [] is none = tt
final-can tree least cut (Cut node size pages ∷ cs) is none =
    let parts = and_parts (nat_le least node && size == 0) (are_final_bytes (node + 1) (Some node) cs) is in
    let zero = eqb-true size 0 (and_parts (nat_le least node) (size == 0) parts.0).1 in
    (omega (arith, zero), final-can (changed tree (Cut node size pages)) (node + 1) (Some node) cs parts.1 (ap (λ n. bytes_of (changed tree (Cut node n pages)) node) zero ∙ emptied tree node pages))
final-can tree least None (Put node offset contents ∷ cs) is none = absurd (true≢false (sym is))
final-can tree least (Some cut) (Put node offset contents ∷ cs) is none =
    let parts = and_parts (cut == node && offset == 0) (are_final_bytes least None cs) is in
    let both = and_parts (cut == node) (offset == 0) parts.0 in
    let same = eqb-true cut node both.0 in
    let zero = eqb-true offset 0 both.1 in (
      subst (λ n. CanBePut (bytes_of tree node) n (bytes_in contents)) (sym zero) (can-be-first (bytes_of tree node) (bytes_in contents) (ap (bytes_of tree) (sym same) ∙ none)),
      final-can (changed tree (Put node offset contents)) least None cs parts.1 tt,
    )
final-can tree least cut (Make node parent kind name ∷ cs) is none = absurd (true≢false (sym is))
final-can tree least cut (Move node parent name ∷ cs) is none = absurd (true≢false (sym is))
final-can tree least cut (Drop node ∷ cs) is none = absurd (true≢false (sym is))

pub ends-can : (tree : Tree) (cs : List Change) → ends_in_bytes cs ≡ true → CanAllBeMade tree cs
ends-can tree [] is = tt
ends-can tree (Make node parent kind name ∷ cs) is = (tt, ends-can (changed tree (Make node parent kind name)) cs is)
ends-can tree (Put node offset contents ∷ cs) is = final-can tree 0 None (Put node offset contents ∷ cs) is tt
ends-can tree (Cut node size pages ∷ cs) is = final-can tree 0 None (Cut node size pages ∷ cs) is tt
ends-can tree (Move node parent name ∷ cs) is = (tt, ends-can (changed tree (Move node parent name)) cs is)
ends-can tree (Drop node ∷ cs) is = (tt, ends-can (changed tree (Drop node)) cs is)

-- ---- changes of bytes

module _ (row : List ℕ) where
  pub put-alike : (old : List ℕ) (node offset : ℕ) (bytes pages : List ℕ) → has_its_pages (length old) (Put node offset (Paged (length bytes) pages)) ≡ true
      → HaveUnits row pages (first_unit (length old) offset) (put_over (map (byte_at row) old) offset bytes)
      → AreAlike (byte_at row) old (meant (length old) (Put node offset (Paged (length bytes) pages))) (Put node offset (Whole bytes))
  put-alike old node offset bytes pages is have = inr (record {
    first = refl;
    second = refl;
    node = refl;
    first_whole = refl;
    second_whole = refl;
    result = bytes-put row old bytes pages offset (first_unit (length old) offset) _ refl refl (put-pages (length old) offset (length bytes) pages is) have;
  })

  -- a file that becomes longer
  grown-alike : (old : List ℕ) (node size : ℕ) (pages : List ℕ) → length old < size → length pages ≡ units_from (length old / 4096) size → HaveUnits row pages (length old / 4096) (cut_to (map (byte_at row) old) size)
      → AreAlike (byte_at row) old (put_on node (length old / 4096) size pages) (Cut node size [])
  grown-alike old node size pages longer many have = inr (record {
    first = refl;
    second = refl;
    node = refl;
    first_whole = refl;
    second_whole = refl;
    result =
        bytes-put row old [] pages size (length old / 4096) size (omega (arith, longer)) (omega (arith, longer)) (many ∙ omega arith)
        (subst (HaveUnits row pages (length old / 4096)) (sym zeros) have)
        ∙ zeros;
  })
    where
      zeros : put_over (map (byte_at row) old) size [] ≡ cut_to (map (byte_at row) old) size
      zeros = put-none (map (byte_at row) old) size (omega (arith, longer, length-map old (byte_at row)))

  pub cut-alike : (old : List ℕ) (node size : ℕ) (pages : List ℕ) → has_its_pages (length old) (Cut node size pages) ≡ true → HaveUnits row pages (length old / 4096) (cut_to (map (byte_at row) old) size)
      → AreAlike (byte_at row) old (meant (length old) (Cut node size pages)) (Cut node size [])
  cut-alike old node size pages is have = elim (cases_Bool (nat_lt (length old) size)) [
    | inl grows ↦ rw grows (grown-alike old node size pages (ltb-true _ _ grows) (cut-pages (length old) size node pages grows is) have)
    | inr less ↦ rw less (inl refl)
  ]

  module _ (s : Durable) (recorded asked : Change) (rise : numbers_rise s.tree ≡ true) (alike : AreAlike (byte_at row) (bytes_of s.tree (node_of recorded)) (meant (size_before s.tree recorded) recorded) asked) where
    abbrev means : Change
    means = meant (size_before s.tree recorded) recorded

    of-file : AreAlike (byte_at row) (bytes_of s.tree (node_of means)) means asked
    of-file = subst (λ n. AreAlike (byte_at row) (bytes_of s.tree n) means asked) (sym (meant-file (size_before s.tree recorded) recorded)) alike

    pub plain-made : mapped_durable (byte_at row) (paged_after s (Plain recorded)) ≡ after_event (mapped_durable (byte_at row) s) (Plain asked)
    plain-made = sym (after_event-alike (byte_at row) refl s means asked rise of-file)

    pub plain-applies : event_applies s (meant_event s.tree (Plain recorded)) ≡ event_applies (mapped_durable (byte_at row) s) (Plain asked)
    plain-applies = sym (event_applies-alike (byte_at row) refl s means asked rise of-file)

-- ---- the grammar

-- a list that is not short is not empty
some-long : (xs : List ℕ) → 0 < length xs → not (is_empty_list xs) ≡ true
some-long [] long = absurd (omega (arith, long))
some-long (x ∷ xs) long = refl

some-on : (pages : List ℕ) (unit end : ℕ) → unit * 4096 < end → length pages ≡ units_from unit end → not (is_empty_list (places_on pages (end - unit * 4096))) ≡ true
some-on pages unit end order many = some-long _ (omega (arith, order, length-places_on pages (end - unit * 4096) (omega (arith, order, many))))

meant-some : (size : ℕ) (c : Change) → has_its_pages size c ≡ true → puts_some c ≡ true → puts_some (meant size c) ≡ true
meant-some size (Make node parent kind name) is some = refl
meant-some size (Put node offset (Whole bytes)) is some = absurd (true≢false (sym is))
meant-some size (Put node offset (Paged len pages)) is some =
    let first = first_unit size offset in
    let no : (len ≡ 0 → ⊥) = eqb-false len 0 (not-true (len == 0) some) in
    some-on pages first _ (omega (arith, no)) (put-pages size offset len pages is ∙ sym (units-touched first size (offset + len)))
meant-some size (Cut node end pages) is some = elim (cases_Bool (nat_lt size end)) [
  | inl grows ↦ rw grows (some-on pages (size / 4096) end (omega (arith, ltb-true _ _ grows)) (cut-pages size end node pages grows is))
  | inr less ↦ rw less refl
]
meant-some size (Move node parent name) is some = refl
meant-some size (Drop node) is some = refl

-- a change of a transaction has its pages in a file without bytes
pub work-paged : (c : Change) → has_work_pages c ≡ true → has_its_pages 0 c ≡ true
work-paged c is = (and_parts (begins_file c) (has_its_pages 0 c) is).1

all-some : (cs : List Change) → list_all has_work_pages cs ≡ true → list_all puts_some cs ≡ true → list_all puts_some (map (meant 0) cs) ≡ true
all-some [] is some = refl
all-some (c ∷ cs) is some =
    let has = and_parts (has_work_pages c) (list_all has_work_pages cs) is in
    let puts = and_parts (puts_some c) (list_all puts_some cs) some in
    and_from _ _ (meant-some 0 c (work-paged c has.0) puts.0) (all-some cs has.1 puts.1)

part-some : (part : Part) → list_all has_work_pages (changes_in part) ≡ true → list_all puts_some (changes_in part) ≡ true → list_all puts_some (changes_in (meant_part part)) ≡ true
part-some (Enlistment enlistment manager information) is some = refl
part-some (Changes cs) is some = all-some cs is some
part-some (Settings settings) is some = refl

ids-meant : (part : Part) → ids_in (meant_part part) ≡ ids_in part
ids-meant (Enlistment enlistment manager information) = refl
ids-meant (Changes cs) = refl
ids-meant (Settings settings) = refl

pub meant-grammatical : (tree : Tree) (event : Event) → has_event_its_pages tree event ≡ true → is_grammatical event ≡ true → is_grammatical (meant_event tree event) ≡ true
meant-grammatical tree (Boot boot) is good = good
meant-grammatical tree (MadeRm manager) is good = good
meant-grammatical tree (Plain change) is good =
    and_from _ _ refl (and_from _ _ (meant-some (size_before tree change) change is (and_parts (puts_some change) true (and_parts true (puts_some change && true) good).1).0) refl)
meant-grammatical tree (Ready transaction part) is good =
    let parts = and_parts (list_all is_of_object (transaction ∷ ids_in part)) (list_all puts_some (changes_in part)) good in
    and_from _ _ (ap (λ ids. list_all is_of_object (transaction ∷ ids)) (ids-meant part) ∙ parts.0) (part-some part is parts.1)
meant-grammatical tree (Single transaction part) is good =
    let parts = and_parts (list_all is_of_object (transaction ∷ ids_in part)) (list_all puts_some (changes_in part)) good in
    and_from _ _ (ap (λ ids. list_all is_of_object (transaction ∷ ids)) (ids-meant part) ∙ parts.0) (part-some part is parts.1)
meant-grammatical tree (Held transaction enlistment manager information) is good = good
meant-grammatical tree (Decide transaction) is good = good
meant-grammatical tree (Undo transaction) is good = good
meant-grammatical tree (Done transaction done) is good = good

-- ---- groups and logs

pub all-meant : (s : Durable) (events : Group) → paged_after_all s events ≡ after_events s (meant_group s events)
all-meant s [] = refl
all-meant s (event ∷ events) = all-meant (paged_after s event) events

pub log-meant : (base : Durable) (groups : List Group) → paged_stand base groups ≡ stand base (meant_log base groups)
log-meant base [] = refl
log-meant base (group ∷ groups) = log-meant (paged_after_all base group) groups ∙ ap (λ s. stand s (meant_log (paged_after_all base group) groups)) (all-meant base group)

module _ (count : ℕ) where
  pub all-apply : (s : Durable) (events : Group) → GroupApplies count s events → events_apply s (meant_group s events) ≡ true
  all-apply s [] apply = refl
  all-apply s (event ∷ events) apply = and_from _ _ apply.0.applies (all-apply (paged_after s event) events apply.1)

  pub log-apply : (base : Durable) (groups : List Group) → LogApplies count base groups → log_applies base (meant_log base groups) ≡ true
  log-apply base [] apply = refl
  log-apply base (group ∷ groups) apply =
      and_from _ _ (all-apply base group apply.0)
      (subst (λ s. log_applies s (meant_log (paged_after_all base group) groups) ≡ true) (all-meant base group) (log-apply (paged_after_all base group) groups apply.1))
