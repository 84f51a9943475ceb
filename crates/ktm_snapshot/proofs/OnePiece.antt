-- No spelling of a piece begins another one, and a piece has one spelling.
use Rattle.std.proofs.Common.{◌≡◌, ℕ, Bool, true, false, Option, Some, None, List, [], ◌∷◌, length, refl, sym, ◌∙◌, ap, subst}
use Rattle.ktm_base.specs.declared.id.Id.{Id}
use Rattle.ktm_base.specs.Grammar.{IsU32, IsU64, Tagged, IsTextOf, IsValueOf, IsRow, IsListOf, Then}
use Rattle.ktm_codec.specs.Spans.{Unambiguous, OneSpelling}
use Rattle.ktm_codec.proofs.Forms.{unambiguous_u32, unambiguous_u64, unambiguous_text, unambiguous_value, unambiguous_then, unambiguous_tagged, unambiguous_row, unambiguous_list, other_tags, one_u8, one_u32, one_u64, one_text, one_value, one_then, one_exact, one_tagged, one_row, one_list}
use Rattle.ktm_content.specs.Places.{places_on}
use Rattle.ktm_event.proofs.Pairs.{Both, unambiguous_both}
use Rattle.ktm_event.proofs.Parts.{IsEnlistedOf, unambiguous_id, unambiguous_enlisted, unambiguous_part, one_id, one_enlisted, one_part}
use Rattle.ktm_event.proofs.Tags.{other}
use Rattle.ktm_world.specs.EventGrammar.{IsIdOf, IsPartOf}
use Rattle.ktm_world.specs.declared.event.Part.{Part}
use Rattle.ktm_world.specs.declared.recorded.RecordedPart.{RecordedPart}
use Rattle.ktm_world.specs.declared.recorded.Stage.{Stage}
use Rattle.ktm_world.specs.declared.recorded.Stage.TheVariants.{Ready, Held, Decided}
use Rattle.ktm_world.specs.declared.recorded.Superior.{Superior}
use Rattle.ktm_world.specs.Durable.{Recorded}
use Rattle.ktm_snapshot.proofs.Placed.{pages-one, part-one}
use Rattle.ktm_snapshot.specs.Works.{placed_part}
use Rattle.ktm_snapshot.specs.Shown.{IsNamedPairOf}
use Rattle.ktm_snapshot.specs.StateGrammar.{IsHeadOf, IsContentsOf, IsNodeOf, IsEntryOf, IsStageOf, IsSuperiorOf, IsMarkOf, IsPlacedPartOf, IsMarkedOf, IsTransactionOf}

-- the fields of a head, as pairs
abbrev pub IsHeadPairOf : ℕ × (ℕ × ℕ) → List ℕ → Type 0
IsHeadPairOf = Both IsU64 (Both IsU32 IsU64)

pub unambiguous_head : Unambiguous IsHeadOf
unambiguous_head x y a b c d p q e =
    let one : Unambiguous IsHeadPairOf = unambiguous_both IsU64 (Both IsU32 IsU64) unambiguous_u64 (unambiguous_both IsU32 IsU64 unambiguous_u32 unambiguous_u64) in
    let (same, bytes) = one (x.events, (x.boots, x.next_node)) (y.events, (y.boots, y.next_node)) a b c d p q e in
    let heads : x ≡ y = ap (λ (h : ℕ × (ℕ × ℕ)). record { events = h.0; boots = h.1.0; next_node = h.1.1 }) same in
    (heads, bytes)

pub one_head : OneSpelling IsHeadOf
one_head head = one_then _ _ (one_u64 head.events) (one_then _ _ (one_u32 head.boots) (one_u64 head.next_node))

-- ---- nodes

-- the fields of contents, as a pair
abbrev pub IsContentsPairOf : ℕ × List ℕ → List ℕ → Type 0
IsContentsPairOf = Both IsU64 (IsListOf IsU32)

pub unambiguous_contents_pair : Unambiguous IsContentsPairOf
unambiguous_contents_pair = unambiguous_both IsU64 (IsListOf IsU32) unambiguous_u64 (unambiguous_list IsU32 unambiguous_u32)

unambiguous_contents : Unambiguous IsContentsOf
unambiguous_contents x y a b c d p q e =
    let (same, bytes) = unambiguous_contents_pair (length x, p.pages) (length y, q.pages) a b c d p.spelled q.spelled e in
    (p.lie.places ∙ ap (λ (n : ℕ × List ℕ). places_on n.1 n.0) same ∙ sym q.lie.places, bytes)

one_contents : OneSpelling IsContentsOf
one_contents contents a b all all' p q =
    let same = pages-one contents p.pages q.pages p.lie q.lie in
    one_then (IsU64 (length contents)) (IsListOf IsU32 q.pages) (one_u64 (length contents)) (one_list IsU32 one_u32 q.pages) a b all all'
    (subst (λ (pages : List ℕ). Then (IsU64 (length contents)) (IsListOf IsU32 pages) a) same p.spelled) q.spelled

pub unambiguous_named : Unambiguous IsNamedPairOf
unambiguous_named (name, Some contents) (name', Some contents') a b c d p q e =
    let (same, bytes) = unambiguous_tagged (Both IsTextOf IsContentsOf) (unambiguous_both IsTextOf IsContentsOf unambiguous_text unambiguous_contents) 0 (name, contents) (name', contents') a b c d p q e in
    (ap (λ (n : List ℕ × List ℕ). (n.0, Some n.1)) same, bytes)
unambiguous_named (name, None) (name', None) a b c d p q e =
    let (same, bytes) = unambiguous_tagged IsTextOf unambiguous_text 1 name name' a b c d p q e in
    (ap (λ (n : List ℕ). (n, None)) same, bytes)
unambiguous_named (name, Some contents) (name', None) a b c d p q e = absurd (other (other_tags 0 1 a b c d p q e) refl)
unambiguous_named (name, None) (name', Some contents) a b c d p q e = absurd (other (other_tags 1 0 a b c d p q e) refl)

-- the fields of a node, as pairs
abbrev pub IsNodePairOf : ℕ × (ℕ × (List ℕ × Option (List ℕ))) → List ℕ → Type 0
IsNodePairOf = Both IsU64 (Both IsU64 IsNamedPairOf)

pub unambiguous_node : Unambiguous IsNodeOf
unambiguous_node x y a b c d p q e =
    let one : Unambiguous IsNodePairOf = unambiguous_both IsU64 (Both IsU64 IsNamedPairOf) unambiguous_u64 (unambiguous_both IsU64 IsNamedPairOf unambiguous_u64 unambiguous_named) in
    let (same, bytes) = one (x.number, (x.parent, (x.name, x.content))) (y.number, (y.parent, (y.name, y.content))) a b c d p q e in
    let nodes : x ≡ y = ap (λ (n : ℕ × (ℕ × (List ℕ × Option (List ℕ)))). record { number = n.0; parent = n.1.0; name = n.1.1.0; content = n.1.1.1 }) same in
    (nodes, bytes)

one_named : OneSpelling IsNamedPairOf
one_named (name, Some contents) = one_tagged 0 _ (one_then _ _ (one_text name) (one_contents contents))
one_named (name, None) = one_tagged 1 _ (one_text name)

pub one_node : OneSpelling IsNodeOf
one_node node = one_then _ _ (one_u64 node.number) (one_then _ _ (one_u64 node.parent) (one_named (node.name, node.content)))

-- ---- committed keys

pub unambiguous_entry : Unambiguous IsEntryOf
unambiguous_entry x y a b c d p q e =
    let (keys, values, bytes) = unambiguous_then IsTextOf IsValueOf unambiguous_text x.key y.key x.value y.value (λ same. unambiguous_value x.value y.value) a b c d p.parts q.parts e in
    let same : x ≡ y = ap (λ (key : List ℕ). record { key = key; value = x.value }) keys ∙ ap (λ (value : List ℕ). record { key = y.key; value = value }) values in
    (same, bytes)

pub one_entry : OneSpelling IsEntryOf
one_entry entry a b all all' p q = one_then _ _ (one_text entry.key) (one_value entry.value) a b all all' p.parts q.parts

-- ---- transactions

abbrev stage_tag : Stage → ℕ
stage_tag Ready = 0
stage_tag Held = 1
stage_tag Decided = 2

stage_tagged : (stage : Stage) (bytes : List ℕ) → IsStageOf stage bytes → Tagged (stage_tag stage) (λ rest. Unit {0}) bytes
stage_tagged Ready bytes is = ([], is.value, tt)
stage_tagged Held bytes is = ([], is.value, tt)
stage_tagged Decided bytes is = ([], is.value, tt)

pub unambiguous_stage : Unambiguous IsStageOf
unambiguous_stage Ready Ready a b c d p q e = (refl, p.value ∙ sym q.value)
unambiguous_stage Held Held a b c d p q e = (refl, p.value ∙ sym q.value)
unambiguous_stage Decided Decided a b c d p q e = (refl, p.value ∙ sym q.value)
unambiguous_stage x y a b c d p q e = absurd (other (other_tags (stage_tag x) (stage_tag y) a b c d (stage_tagged x a p) (stage_tagged y b q) e) refl)

one_stage : OneSpelling IsStageOf
one_stage Ready = one_u8 0
one_stage Held = one_u8 1
one_stage Decided = one_u8 2

pub unambiguous_superior : Unambiguous IsSuperiorOf
unambiguous_superior None None a b c d (rest, is, p) (rest', is', q) e = (refl, is ∙ ap (λ (l : List ℕ). 0 ∷ l) (p ∙ sym q) ∙ sym is')
unambiguous_superior (Some x) (Some y) a b c d p q e =
    let (same, bytes) = unambiguous_tagged IsEnlistedOf unambiguous_enlisted 1 (x.enlistment, (x.manager, x.information)) (y.enlistment, (y.manager, y.information)) a b c d p q e in
    (ap (λ (r : Id × (Id × List ℕ)). Some (record { enlistment = r.0; manager = r.1.0; information = r.1.1 })) same, bytes)
unambiguous_superior None (Some y) a b c d p q e = absurd (other (other_tags 0 1 a b c d p q e) refl)
unambiguous_superior (Some x) None a b c d p q e = absurd (other (other_tags 1 0 a b c d p q e) refl)

one_superior : OneSpelling IsSuperiorOf
one_superior None = one_tagged 0 (λ rest. rest ≡ []) (one_exact [])
one_superior (Some s) = one_tagged 1 _ (one_enlisted s.enlistment s.manager s.information)

abbrev mark_tag : Bool → ℕ
mark_tag false = 0
mark_tag true = 1

mark_tagged : (mark : Bool) (bytes : List ℕ) → IsMarkOf mark bytes → Tagged (mark_tag mark) (λ rest. Unit {0}) bytes
mark_tagged false bytes is = ([], is.value, tt)
mark_tagged true bytes is = ([], is.value, tt)

pub unambiguous_mark : Unambiguous IsMarkOf
unambiguous_mark false false a b c d p q e = (refl, p.value ∙ sym q.value)
unambiguous_mark true true a b c d p q e = (refl, p.value ∙ sym q.value)
unambiguous_mark x y a b c d p q e = absurd (other (other_tags (mark_tag x) (mark_tag y) a b c d (mark_tagged x a p) (mark_tagged y b q) e) refl)

one_mark : OneSpelling IsMarkOf
one_mark false = one_u8 0
one_mark true = one_u8 1

unambiguous_placed : Unambiguous IsPlacedPartOf
unambiguous_placed x y a b c d p q e =
    let (same, bytes) = unambiguous_part p.recorded q.recorded a b c d p.spelled q.spelled e in
    (p.placed ∙ ap placed_part same ∙ sym q.placed, bytes)

one_placed : OneSpelling IsPlacedPartOf
one_placed part a b all all' p q =
    let same = part-one p.recorded q.recorded p.work q.work (sym p.placed ∙ q.placed) in
    one_part q.recorded a b all all' (subst (λ (recorded : Part). IsPartOf recorded a) same p.spelled) q.spelled

pub unambiguous_marked : Unambiguous IsMarkedOf
unambiguous_marked x y a b c d p q e =
    let (same, bytes) = unambiguous_both IsMarkOf IsPlacedPartOf unambiguous_mark unambiguous_placed (x.is_done, x.part) (y.is_done, y.part) a b c d p q e in
    let parts : x ≡ y = ap (λ (m : Bool × Part). record { is_done = m.0; part = m.1 }) same in
    (parts, bytes)

one_marked : OneSpelling IsMarkedOf
one_marked part = one_then _ _ (one_mark part.is_done) (one_placed part.part)

-- what a transaction begins with, as pairs
abbrev pub IsStartPairOf : Id × (Stage × (Option Superior × ℕ)) → List ℕ → Type 0
IsStartPairOf = Both IsIdOf (Both IsStageOf (Both IsSuperiorOf IsU32))

pub unambiguous_start : Unambiguous IsStartPairOf
unambiguous_start =
    unambiguous_both IsIdOf (Both IsStageOf (Both IsSuperiorOf IsU32)) unambiguous_id
    (unambiguous_both IsStageOf (Both IsSuperiorOf IsU32) unambiguous_stage (unambiguous_both IsSuperiorOf IsU32 unambiguous_superior unambiguous_u32))

-- what a transaction of the model begins with
abbrev pub start_pair : Recorded → Id × (Stage × (Option Superior × ℕ))
start_pair t = (t.id, (t.stage, (t.superior, length t.parts)))

pub unambiguous_transaction : Unambiguous IsTransactionOf
unambiguous_transaction x y a b c d p q e =
    let (starts, parts, bytes) = unambiguous_then IsStartPairOf (IsRow IsMarkedOf) unambiguous_start (start_pair x) (start_pair y) x.parts y.parts
    (λ same. unambiguous_row IsMarkedOf unambiguous_marked x.parts y.parts (ap (λ (s : Id × (Stage × (Option Superior × ℕ))). s.1.1.1) same)) a b c d p q e in
    let same : x ≡ y =
    ap (λ (s : Id × (Stage × (Option Superior × ℕ))). record { id = s.0; stage = s.1.0; superior = s.1.1.0; parts = x.parts }) starts
    ∙ ap (λ (ps : List RecordedPart). record { id = y.id; stage = y.stage; superior = y.superior; parts = ps }) parts in
    (same, bytes)

pub one_transaction : OneSpelling IsTransactionOf
one_transaction t =
    one_then _ _ (one_then _ _ (one_id t.id) (one_then _ _ (one_stage t.stage) (one_then _ _ (one_superior t.superior) (one_u32 (length t.parts)))))
    (one_row IsMarkedOf one_marked t.parts)
