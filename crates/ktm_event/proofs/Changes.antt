-- No spelling of a change begins another one, and a change has one spelling.
use Rattle.std.proofs.Common.{ℕ, zero, suc, List, refl, ap}
use Rattle.ktm_base.specs.Grammar.{IsU32, IsU64, IsTextOf, Then, IsListOf}
use Rattle.ktm_codec.specs.Spans.{Unambiguous, OneSpelling}
use Rattle.ktm_codec.proofs.Forms.{HasOne, unambiguous_u8, unambiguous_u32, unambiguous_u64, unambiguous_text, unambiguous_list, unambiguous_tagged, other_tags, one_u8, one_u32, one_u64, one_text, one_list, one_then, one_tagged}
use Rattle.ktm_world.specs.declared.change.Change.TheVariants.{Make, Put, Cut, Move, Drop}
use Rattle.ktm_world.specs.declared.change.Contents.{Contents}
use Rattle.ktm_world.specs.declared.change.Contents.TheVariants.{Whole, Paged}
use Rattle.ktm_world.specs.declared.change.NodeKind.{NodeKind}
use Rattle.ktm_world.specs.declared.change.NodeKind.TheVariants.{File, Directory}
use Rattle.ktm_world.specs.EventGrammar.{IsKindOf, IsPutOf, IsChangeOf}
use Rattle.ktm_event.proofs.Tags.{other}
use Rattle.ktm_event.proofs.Pairs.{Both, unambiguous_both}

-- what stands behind the tag of a change, as pairs
abbrev pub IsMakeOf : ℕ × (ℕ × (NodeKind × List ℕ)) → List ℕ → Type 0
IsMakeOf = Both IsU64 (Both IsU64 (Both IsKindOf IsTextOf))

abbrev pub IsPagedOf : ℕ × List ℕ → List ℕ → Type 0
IsPagedOf = Both IsU32 (IsListOf IsU32)

abbrev pub IsPutAtOf : ℕ × (ℕ × Contents) → List ℕ → Type 0
IsPutAtOf = Both IsU64 (Both IsU64 IsPutOf)

abbrev pub IsCutToOf : ℕ × (ℕ × List ℕ) → List ℕ → Type 0
IsCutToOf = Both IsU64 (Both IsU64 (IsListOf IsU32))

abbrev pub IsMoveOf : ℕ × (ℕ × List ℕ) → List ℕ → Type 0
IsMoveOf = Both IsU64 (Both IsU64 IsTextOf)

pub unambiguous_kind : Unambiguous IsKindOf
unambiguous_kind File File a b c d p q e = (refl, (unambiguous_u8 0 0 a b c d p q e).1)
unambiguous_kind File Directory a b c d p q e = let same = (unambiguous_u8 0 1 a b c d p q e).0 in cc
unambiguous_kind Directory File a b c d p q e = let same = (unambiguous_u8 1 0 a b c d p q e).0 in cc
unambiguous_kind Directory Directory a b c d p q e = (refl, (unambiguous_u8 1 1 a b c d p q e).1)

unambiguous_pages : Unambiguous (IsListOf IsU32)
unambiguous_pages = unambiguous_list IsU32 unambiguous_u32

unambiguous_put : Unambiguous IsPutOf
unambiguous_put (Paged (suc m) x) (Paged (suc n) y) a b c d p q e =
    let (same, bytes) = unambiguous_both IsU32 (IsListOf IsU32) unambiguous_u32 unambiguous_pages (suc m, x) (suc n, y) a b c d p q e in
    (ap (λ (r : ℕ × List ℕ). Paged r.0 r.1) same, bytes)
unambiguous_put (Whole contents) y a b c d p q e = absurd p
unambiguous_put (Paged zero x) y a b c d p q e = absurd p
unambiguous_put (Paged (suc m) x) y a b c d p q e = absurd q

unambiguous_make : Unambiguous IsMakeOf
unambiguous_make = unambiguous_both IsU64 (Both IsU64 (Both IsKindOf IsTextOf)) unambiguous_u64
    (unambiguous_both IsU64 (Both IsKindOf IsTextOf) unambiguous_u64 (unambiguous_both IsKindOf IsTextOf unambiguous_kind unambiguous_text))

unambiguous_put_at : Unambiguous IsPutAtOf
unambiguous_put_at = unambiguous_both IsU64 (Both IsU64 IsPutOf) unambiguous_u64 (unambiguous_both IsU64 IsPutOf unambiguous_u64 unambiguous_put)

unambiguous_cut_to : Unambiguous IsCutToOf
unambiguous_cut_to = unambiguous_both IsU64 (Both IsU64 (IsListOf IsU32)) unambiguous_u64 (unambiguous_both IsU64 (IsListOf IsU32) unambiguous_u64 unambiguous_pages)

unambiguous_move : Unambiguous IsMoveOf
unambiguous_move = unambiguous_both IsU64 (Both IsU64 IsTextOf) unambiguous_u64 (unambiguous_both IsU64 IsTextOf unambiguous_u64 unambiguous_text)

pub unambiguous_change : Unambiguous IsChangeOf
unambiguous_change (Make node parent kind name) (Make node' parent' kind' name') a b c d p q e =
    let (same, bytes) = unambiguous_tagged IsMakeOf unambiguous_make 1 (node, (parent, (kind, name))) (node', (parent', (kind', name'))) a b c d p q e in
    (ap (λ (m : ℕ × (ℕ × (NodeKind × List ℕ))). Make m.0 m.1.0 m.1.1.0 m.1.1.1) same, bytes)
unambiguous_change (Put node offset contents) (Put node' offset' contents') a b c d p q e =
    let (same, bytes) = unambiguous_tagged IsPutAtOf unambiguous_put_at 2 (node, (offset, contents)) (node', (offset', contents')) a b c d p q e in
    (ap (λ (m : ℕ × (ℕ × Contents)). Put m.0 m.1.0 m.1.1) same, bytes)
unambiguous_change (Cut node size pages) (Cut node' size' pages') a b c d p q e =
    let (same, bytes) = unambiguous_tagged IsCutToOf unambiguous_cut_to 3 (node, (size, pages)) (node', (size', pages')) a b c d p q e in
    (ap (λ (m : ℕ × (ℕ × List ℕ)). Cut m.0 m.1.0 m.1.1) same, bytes)
unambiguous_change (Move node parent name) (Move node' parent' name') a b c d p q e =
    let (same, bytes) = unambiguous_tagged IsMoveOf unambiguous_move 4 (node, (parent, name)) (node', (parent', name')) a b c d p q e in
    (ap (λ (m : ℕ × (ℕ × List ℕ)). Move m.0 m.1.0 m.1.1) same, bytes)
unambiguous_change (Drop node) (Drop node') a b c d p q e =
    let (same, bytes) = unambiguous_tagged IsU64 unambiguous_u64 5 node node' a b c d p q e in
    (ap Drop same, bytes)
unambiguous_change x y a b c d p q e = absurd (other (other_tags _ _ a b c d p q e) refl)

one_kind : OneSpelling IsKindOf
one_kind File = one_u8 0
one_kind Directory = one_u8 1

one_pages : OneSpelling (IsListOf IsU32)
one_pages = one_list IsU32 one_u32

one_put : OneSpelling IsPutOf
one_put (Whole contents) = λ a b all all' p q. absurd p
one_put (Paged zero pages) = λ a b all all' p q. absurd p
one_put (Paged (suc n) pages) = one_then (IsU32 (suc n)) (IsListOf IsU32 pages) (one_u32 (suc n)) (one_pages pages)

-- one thing behind a number
behind_number : (n : ℕ) (Rest : List ℕ → Type 0) → HasOne Rest → HasOne (Then (IsU64 n) Rest)
behind_number n Rest one = one_then (IsU64 n) Rest (one_u64 n) one

pub one_change : OneSpelling IsChangeOf
one_change (Make node parent kind name) =
    one_tagged 1 _ (behind_number node _ (behind_number parent _ (one_then (IsKindOf kind) (IsTextOf name) (one_kind kind) (one_text name))))
one_change (Put node offset contents) = one_tagged 2 _ (behind_number node _ (behind_number offset _ (one_put contents)))
one_change (Cut node size pages) = one_tagged 3 _ (behind_number node _ (behind_number size _ (one_pages pages)))
one_change (Move node parent name) = one_tagged 4 _ (behind_number node _ (behind_number parent _ (one_text name)))
one_change (Drop node) = one_tagged 5 _ (one_u64 node)
