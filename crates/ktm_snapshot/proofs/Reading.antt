-- Pieces of a state that are read, one behind the other.
use Rattle.std.proofs.Common.{◌≡◌, ℕ, ◌<◌, ◌≤◌, Bool, true, false, None, List, [], ◌∷◌, ◌++◌, length, refl, sym, ◌∙◌, ap, subst, arith, append-nil}
use Rattle.std.specs.List.{slice_range}
use Rattle.std.proofs.lemmas.Bool.{true≢false}
use Rattle.std.proofs.lemmas.List.{take_all}
use Rattle.std.proofs.lemmas.Slice.{between_from_start}
use Rattle.ktm_base.specs.Grammar.{IsU32, IsRow, IsListOf, Then}
use Rattle.ktm_codec.specs.Spans.{Spans, Reads, Unambiguous}
use Rattle.ktm_codec.proofs.Forms.{unambiguous_u32}
use Rattle.ktm_codec.proofs.SpansLemmas.{Spans-map, spans_then, spans_parts, one_reading, then_no_first, then_no_second, row_push, list_no_count, list_cut, list_read}
use Rattle.ktm_world.specs.Durable.{Durable}
use Rattle.ktm_snapshot.proofs.OnePiece.{unambiguous_head}
use Rattle.ktm_snapshot.proofs.OneState.{ToNodes, ToEntries, ToManagers, IsPiecesOf, pieces_of, unambiguous_to_nodes, unambiguous_to_entries, unambiguous_to_managers, unambiguous_pieces}
use Rattle.ktm_snapshot.proofs.Rising.{FrontsRise}
use Rattle.ktm_snapshot.specs.Pieces.{IsFrontOf, IsNoState, ReadsList, ReadsState}
use Rattle.ktm_snapshot.specs.StateGrammar.{IsHeadOf, IsRisingListOf, AreNodesOf, AreEntriesOf, AreManagersOf, AreTransactionsOf, IsUpToNodesOf, IsUpToEntriesOf, IsUpToManagersOf, IsStateOf, head_of}

module _ {X : Type 0} (rises : List X → Bool) (Item : X → List ℕ → Type 0) (one : Unambiguous Item) (fronts : FrontsRise rises) (bytes : List ℕ) where
  -- the things that were read are the first of any list that stands there
  pub row_front : (xs ys : List X) (at here end : ℕ) → Spans (IsRow Item xs) bytes at here → Spans (IsRow Item ys) bytes at end → length xs ≤ length ys → (zs : List X) × (ys ≡ xs ++ zs)
  row_front [] ys at here end read row no_more = (ys, refl)
  row_front (x ∷ xs) [] at here end read row no_more = absurd (omega arith)
  row_front (x ∷ xs) (y ∷ ys) at here end read row no_more =
      let (mid, first, rest) = spans_parts bytes at here read in
      let (mid', first', rest') = spans_parts bytes at end row in
      let (same, places) = one_reading Item one bytes at x y mid mid' first first' in
      let (zs, is) = row_front xs ys mid here end rest (subst (λ n. Spans (IsRow Item ys) bytes n end) (sym places) rest') (omega arith) in
      (zs, ap (λ (l : List X). y ∷ l) is ∙ ap (λ (z : X). z ∷ (xs ++ zs)) (sym same))

  module _ (at : ℕ) where
    listed : (xs : List X) (end : ℕ) → Spans (IsRisingListOf rises Item xs) bytes at end → Spans (IsListOf Item xs) bytes at end
    listed xs end spans = Spans-map (λ part is. is.listed) spans

    front_on : (count : ℕ) (xs : List X) (x : X) (here end : ℕ) → Spans (IsFrontOf (IsU32 count) Item xs) bytes at here → Spans (Item x) bytes here end
        → Spans (IsFrontOf (IsU32 count) Item (xs ++ x ∷ [])) bytes at end
    front_on count xs x here end front item =
        let (mid, first, row) = spans_parts bytes at here front in
        spans_then bytes at mid end first (row_push Item bytes xs x mid here end row item)

    cut : (count : ℕ) (xs : List X) (here : ℕ) → Spans (IsFrontOf (IsU32 count) Item xs) bytes at here → length xs < count → Reads Item bytes here None → Reads (IsRisingListOf rises Item) bytes at None
    cut count xs here front fewer none ys end spans =
        let (mid, first, row) = spans_parts bytes at here front in
        list_cut Item bytes at count mid first one xs here row fewer none ys end (listed ys end spans)

    fallen : (count : ℕ) (xs : List X) (here : ℕ) → Spans (IsFrontOf (IsU32 count) Item xs) bytes at here → length xs ≤ count → rises xs ≡ false → Reads (IsRisingListOf rises Item) bytes at None
    fallen count xs here front no_more falls ys end spans =
        let (mid, first, row) = spans_parts bytes at here front in
        let (mid', first', row') = spans_parts bytes at end (listed ys end spans) in
        let (counts, places) = one_reading IsU32 unambiguous_u32 bytes at count (length ys) mid mid' first first' in
        let (zs, is) = row_front xs ys mid here end row (subst (λ n. Spans (IsRow Item ys) bytes n end) (sym places) row') (omega (arith, no_more, counts)) in
        true≢false (sym (fronts xs zs (ap rises (sym is) ∙ spans.form.rising)) ∙ falls)

    filled : (count : ℕ) (xs : List X) (here : ℕ) → Spans (IsFrontOf (IsU32 count) Item xs) bytes at here → length xs ≡ count → rises xs ≡ true → Spans (IsRisingListOf rises Item xs) bytes at here
    filled count xs here front all rising =
        let (mid, first, row) = spans_parts bytes at here front in
        Spans-map (λ part is. record { rising = rising; listed = is }) (list_read Item bytes at count mid first xs here row all)

    pub reads_list : ReadsList rises Item bytes at
    reads_list = record {
      no_count = λ none ys end spans. list_no_count Item bytes at none ys end (listed ys end spans);
      begins = λ count here first. Spans-map (λ part is. (part, [], sym (append-nil part), is, refl)) first;
      goes_on = front_on;
      no_item = cut;
      falls = fallen;
      whole = filled;
    }

-- ---- the whole state

module _ (bytes : List ℕ) where
  whole : slice_range bytes 0 (length bytes) ≡ bytes
  whole = between_from_start bytes (length bytes) ∙ take_all (length bytes) bytes (omega arith)

  -- where the pieces of a state end that stands in the bytes
  pub record Places (s : Durable) : Type 0 where
    pub nodes : ℕ
    pub entries : ℕ
    pub managers : ℕ
    pub to_nodes : Spans (IsUpToNodesOf s) bytes 0 nodes
    pub to_entries : Spans (IsUpToEntriesOf s) bytes 0 entries
    pub to_managers : Spans (IsUpToManagersOf s) bytes 0 managers
    pub all : Spans (Then (IsUpToManagersOf s) (AreTransactionsOf s.transactions)) bytes 0 (length bytes)

  pub places_of : (s : Durable) → IsStateOf s bytes → Places s
  places_of s is =
      let all : Spans (Then (IsUpToManagersOf s) (AreTransactionsOf s.transactions)) bytes 0 (length bytes) = record {
        forward = omega arith;
        within = omega arith;
        form = subst (Then (IsUpToManagersOf s) (AreTransactionsOf s.transactions)) (sym whole) is.spelled;
      } in
      let (managers, to_managers, transactions) = spans_parts bytes 0 (length bytes) all in
      let (entries, to_entries, ids) = spans_parts bytes 0 managers to_managers in
      let (nodes, to_nodes, keys) = spans_parts bytes 0 entries to_entries in
      record { nodes = nodes; entries = entries; managers = managers; to_nodes = to_nodes; to_entries = to_entries; to_managers = to_managers; all = all }

  module _ (s : Durable) where
    nothing_longer : (here end : ℕ) → Spans (IsUpToManagersOf s) bytes 0 here → Spans (AreTransactionsOf s.transactions) bytes here end → end < length bytes → IsNoState bytes
    nothing_longer here end to_managers transactions left t is =
        let (same, ends) = one_reading IsPiecesOf unambiguous_pieces bytes 0 (pieces_of s) (pieces_of t) end (length bytes) (spans_then bytes 0 here end to_managers transactions) (places_of t is).all in
        absurd (omega (arith, ends, left))

    pub reads_state : ReadsState bytes s
    reads_state = record {
      no_head = λ none t is. let p = places_of t is in then_no_first IsHeadOf AreNodesOf bytes 0 none (head_of t) t.tree p.nodes p.to_nodes;
      no_nodes = λ here head none t is. let p = places_of t is in
          then_no_second IsHeadOf AreNodesOf bytes 0 unambiguous_head (head_of s) here head none (head_of t) t.tree p.nodes p.to_nodes;
      no_entries = λ here read none t is. let p = places_of t is in
          then_no_second ToNodes AreEntriesOf bytes 0 unambiguous_to_nodes (head_of s, s.tree) here read none (head_of t, t.tree) t.keys p.entries p.to_entries;
      no_managers = λ here read none t is. let p = places_of t is in
          then_no_second ToEntries AreManagersOf bytes 0 unambiguous_to_entries ((head_of s, s.tree), s.keys) here read none ((head_of t, t.tree), t.keys) t.managers p.managers p.to_managers;
      no_transactions = λ here read none t is. let p = places_of t is in
          then_no_second ToManagers AreTransactionsOf bytes 0 unambiguous_to_managers (((head_of s, s.tree), s.keys), s.managers) here read none (((head_of t, t.tree), t.keys), t.managers) t.transactions (length bytes) p.all;
      nodes = λ here end head list. spans_then bytes 0 here end head list;
      entries = λ here end read list. spans_then bytes 0 here end read list;
      managers = λ here end read list. spans_then bytes 0 here end read list;
      whole = λ here read list. record { spelled = subst (Then (IsUpToManagersOf s) (AreTransactionsOf s.transactions)) whole (spans_then bytes 0 here (length bytes) read list).form };
      longer = nothing_longer;
    }
