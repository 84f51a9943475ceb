-- The units that an event names lie on their pages after it.
use Rattle.std.proofs.Common.{◌≡◌, ℕ, suc, ◌+◌, ◌-◌, ◌*◌, ◌/◌, ◌%◌, ◌<◌, ◌==◌, ◌&&◌, cond, true, false, List, [], ◌∷◌, ◌++◌, Option, Some, None, All, is_some, length, get_or, refl, sym, ◌∙◌, ap, subst, arith, inl, inr}
use Rattle.std.specs.List.{list_any}
use Rattle.std.proofs.lemmas.Bool.{and_from, and_parts, eq-eqb, lt-ltb, or_left, or_right, true≢false}
use Rattle.std.proofs.lemmas.List.Elements.{All-append, All-cons, All-head, All-nil, All-tail}
use Rattle.ktm_base.specs.declared.id.Id.{Id}
use Rattle.ktm_content.specs.Places.{LieOn}
use Rattle.ktm_content.proofs.offered.Bytes.{place-lie}
use Rattle.ktm_content.proofs.offered.PutBytes.{length-put_over, put-inside}
use Rattle.ktm_owners.specs.declared.owners.Named.{Named}
use Rattle.ktm_owners.specs.declared.owners.Owner.{Owner}
use Rattle.ktm_owners.specs.Owners.{AreAllNamedBy, AreNamedBy, BeginsUnit, has_unit, is_still_on, named_from, parts_put, puts_unit}
use Rattle.ktm_owners.proofs.OwningStates.{StartsAtBegin}
use Rattle.ktm_world.specs.declared.change.Change.{Change}
use Rattle.ktm_world.specs.declared.change.Change.TheVariants.{Make, Put, Cut, Move, Drop}
use Rattle.ktm_world.specs.declared.change.Contents.{Contents}
use Rattle.ktm_world.specs.declared.event.Event.TheVariants.{Plain, Ready}
use Rattle.ktm_world.specs.declared.event.Part.{Part}
use Rattle.ktm_world.specs.declared.recorded.RecordedPart.{RecordedPart}
use Rattle.txf_laws.specs.Elements.{IsIn}
use Rattle.txf_laws.proofs.offered.Elements.{list_any-from}
use Rattle.txf_laws.proofs.offered.Tables.{IsIn-with_recorded-itself}
use Rattle.ktm_world.specs.declared.recorded.Node.{Node}
use Rattle.ktm_world.specs.Changes.{applies, bytes_in, changed, is_whole}
use Rattle.ktm_world.specs.Durable.{Durable, Recorded, after_event, changes_in, recorded_or_new}
use Rattle.ktm_world.specs.Tree.{Tree, bytes_of, bytes_or_none, content_of, is_file, node_at, put_over}
use Rattle.ktm_world.proofs.offered.Lookups.{map_node, node_at-with_changed}

-- the unit that is named lies on its page
abbrev pub IsPresent : Durable → Named → Type 0
IsPresent s name = is_still_on s name.owner name.page ≡ true

pub from-units : (s : Durable) (node unit : ℕ) (pages : List ℕ) → ((n : ℕ) → n < length pages → is_still_on s (record { node = node; unit = unit + n }) (get_or pages n 0) ≡ true)
    → All (IsPresent s) (named_from (record { node = node; unit = unit }) pages)
from-units s node unit [] each = All-nil (IsPresent s)
from-units s node unit (page ∷ pages) each =
    let here : unit + 0 ≡ unit = omega arith in
    All-cons (IsPresent s) (record { page = page; owner = record { node = node; unit = unit } }) (named_from (record { node = node; unit = unit + 1 }) pages)
    (subst (λ n. is_still_on s (record { node = node; unit = n }) page ≡ true) here (each 0 (omega arith)))
    (from-units s node (unit + 1) pages
    (λ n low. let next : unit + suc n ≡ unit + 1 + n = omega arith in subst (λ k. is_still_on s (record { node = node; unit = k }) (get_or pages n 0) ≡ true) next (each (suc n) (omega (arith, low)))))

-- a unit of contents that are put over others lies on its page
put-unit : (old new pages : List ℕ) (offset n : ℕ) → LieOn pages new → offset % 4096 ≡ 0 → n < length pages → has_unit (put_over old offset new) (offset / 4096 + n) (get_or pages n 0) ≡ true
put-unit old new pages offset n lie begins there =
    let small : n * 4096 < length new = omega (arith, there, lie.units) in
    let at : (offset / 4096 + n) * 4096 ≡ offset + n * 4096 = omega (arith, begins) in
    let back : offset + n * 4096 - offset ≡ n * 4096 + 0 = omega arith in
    let first : get_or (put_over old offset new) ((offset / 4096 + n) * 4096) 0 ≡ get_or pages n 0 * 4096 + 1 =
    ap (λ k. get_or (put_over old offset new) k 0) at ∙ put-inside old offset new (offset + n * 4096) (omega arith) (omega (arith, small))
    ∙ ap (λ k. get_or new k 0) back ∙ place-lie pages new n 0 lie (omega arith) (omega (arith, small)) ∙ omega arith in
    and_from _ _ (lt-ltb ((offset / 4096 + n) * 4096) (length (put_over old offset new)) (omega (arith, at, small, length-put_over old offset new))) (eq-eqb _ _ first)

-- the bytes of a file are those that were put over the ones that it had
pub bytes-over : (tree : Tree) (node offset : ℕ) (contents : Contents) → is_file tree node ≡ true → bytes_of (changed tree (Put node offset contents)) node ≡ put_over (bytes_of tree node) offset (bytes_in contents)
bytes-over tree node offset contents file = ap (λ o. bytes_or_none (content_of o)) (node_at-with_changed tree node step (λ n. refl) node ∙ here) ∙ go (node_at tree node) file
  where
    step : Node → Node
    step n = record n { content = Some (put_over (bytes_or_none n.content) offset (bytes_in contents)) }

    here : cond (node == node) (map_node step (node_at tree node)) (node_at tree node) ≡ map_node step (node_at tree node)
    here = rw (eq-eqb node node refl) refl

    go : (o : Option Node) → is_some (content_of o) ≡ true → bytes_or_none (content_of (map_node step o)) ≡ put_over (bytes_or_none (content_of o)) offset (bytes_in contents)
    go None is = absurd (true≢false (sym is))
    go (Some n) is = refl

-- what a plain call puts
pub plain-present : (s : Durable) (c : Change) (names : List Named) → applies s.tree c ≡ true → BeginsUnit c → AreNamedBy c names → All (IsPresent (after_event s (Plain c))) names
plain-present s (Put node offset contents) names apply begins (pages, lie, is) =
    subst (All (IsPresent t)) (sym is)
    (from-units t node (offset / 4096) pages
    (λ n there. or_left _ _ (subst (λ (bytes : List ℕ). has_unit bytes (offset / 4096 + n) (get_or pages n 0) ≡ true) (sym over) (put-unit (bytes_of s.tree node) (bytes_in contents) pages offset n lie begins there))))
  where
    t : Durable
    t = after_event s (Plain (Put node offset contents))

    over : bytes_of t.tree node ≡ put_over (bytes_of s.tree node) offset (bytes_in contents)
    over = bytes-over s.tree node offset contents (and_parts (is_file s.tree node) (is_whole contents) apply).0
plain-present s (Make node parent kind name) names apply begins none = subst (All (IsPresent (after_event s (Plain (Make node parent kind name))))) (sym none) (All-nil _)
plain-present s (Cut node size pages) names apply begins none = subst (All (IsPresent (after_event s (Plain (Cut node size pages))))) (sym none) (All-nil _)
plain-present s (Move node parent name) names apply begins none = subst (All (IsPresent (after_event s (Plain (Move node parent name))))) (sym none) (All-nil _)
plain-present s (Drop node) names apply begins none = subst (All (IsPresent (after_event s (Plain (Drop node))))) (sym none) (All-nil _)

-- ---- what waits

-- a part puts the units from the begin of a file on
waits-from : (s : Durable) (t : Recorded) (part : RecordedPart) (c : Change) (names : List Named) → IsIn t s.transactions → IsIn part t.parts → IsIn c (changes_in part.part) → StartsAtBegin c → AreNamedBy c names → All (IsPresent s) names
waits-from s t part (Put node offset contents) names t_in part_in c_in begin (pages, lie, is) = subst (All (IsPresent s)) (sym is) (from-units s node (offset / 4096) pages at)
  where
    at : (n : ℕ) → n < length pages → is_still_on s (record { node = node; unit = offset / 4096 + n }) (get_or pages n 0) ≡ true
    at n there =
        let owner : Owner = record { node = node; unit = offset / 4096 + n } in
        let unit : offset / 4096 + n ≡ n = omega (arith, begin) in
        let small : n * 4096 < length (bytes_in contents) = omega (arith, there, lie.units) in
        let back : n * 4096 ≡ n * 4096 + 0 = omega arith in
        let first : get_or (bytes_in contents) (n * 4096) 0 ≡ get_or pages n 0 * 4096 + 1 =
        ap (λ k. get_or (bytes_in contents) k 0) back ∙ place-lie pages (bytes_in contents) n 0 lie (omega arith) (omega (arith, small)) ∙ omega arith in
        let has : has_unit (bytes_in contents) n (get_or pages n 0) ≡ true = and_from _ _ (lt-ltb (n * 4096) (length (bytes_in contents)) small) (eq-eqb _ _ first) in
        let puts : puts_unit owner (get_or pages n 0) (Put node offset contents) ≡ true =
        and_from (node == node && offset == 0) _ (and_from (node == node) (offset == 0) (eq-eqb node node refl) (eq-eqb offset 0 begin))
        (subst (λ k. has_unit (bytes_in contents) k (get_or pages n 0) ≡ true) (sym unit) has) in
        or_right (has_unit (bytes_of s.tree node) (offset / 4096 + n) (get_or pages n 0)) _
        (list_any-from (parts_put owner (get_or pages n 0)) s.transactions t t_in
        (list_any-from (λ (p : RecordedPart). list_any (puts_unit owner (get_or pages n 0)) (changes_in p.part)) t.parts part part_in
        (list_any-from (puts_unit owner (get_or pages n 0)) (changes_in part.part) (Put node offset contents) c_in puts)))
waits-from s t part (Make node parent kind name) names t_in part_in c_in begin none = subst (All (IsPresent s)) (sym none) (All-nil (IsPresent s))
waits-from s t part (Cut node size pages) names t_in part_in c_in begin none = subst (All (IsPresent s)) (sym none) (All-nil (IsPresent s))
waits-from s t part (Move node parent name) names t_in part_in c_in begin none = subst (All (IsPresent s)) (sym none) (All-nil (IsPresent s))
waits-from s t part (Drop node) names t_in part_in c_in begin none = subst (All (IsPresent s)) (sym none) (All-nil (IsPresent s))

pub all-wait : (s : Durable) (t : Recorded) (part : RecordedPart) (cs : List Change) (names : List Named) → IsIn t s.transactions → IsIn part t.parts → ((c : Change) → IsIn c cs → IsIn c (changes_in part.part)) → All StartsAtBegin cs → AreAllNamedBy cs names
    → All (IsPresent s) names
all-wait s t part [] names t_in part_in within begin none = subst (All (IsPresent s)) (sym none) (All-nil (IsPresent s))
all-wait s t part (c ∷ cs) names t_in part_in within begin (front, back, first, rest, is) =
    subst (All (IsPresent s)) (sym is)
    (All-append (IsPresent s) front back (waits-from s t part c front t_in part_in (within c (inl refl)) (All-head StartsAtBegin c cs begin) first)
    (all-wait s t part cs back t_in part_in (λ d there. within d (inr there)) (All-tail StartsAtBegin c cs begin) rest))

-- the last of a list is in it
in-last : {X : Type 0} (xs : List X) (x : X) → IsIn x (xs ++ x ∷ [])
in-last [] x = inl refl
in-last (y ∷ xs) x = inr (in-last xs x)

-- what a transaction puts that becomes ready
pub ready-present : (s : Durable) (id : Id) (part : Part) (names : List Named) → All StartsAtBegin (changes_in part) → AreAllNamedBy (changes_in part) names → All (IsPresent (after_event s (Ready id part))) names
ready-present s id part names begin named =
    all-wait (after_event s (Ready id part)) (record t { parts = t.parts ++ last ∷ [] }) last (changes_in part) names
    (IsIn-with_recorded-itself s.transactions (record t { parts = t.parts ++ last ∷ [] })) (in-last t.parts last) (λ c there. there) begin named
  where
    t : Recorded
    t = recorded_or_new s.transactions id

    last : RecordedPart
    last = record { is_done = false; part = part }
