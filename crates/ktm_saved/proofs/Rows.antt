-- Transactions that are read one behind the other.
use Rattle.std.proofs.Common.{◌≡◌, ℕ, ◌≤◌, List, ◌++◌, length, sym, subst, arith}
use Rattle.ktm_base.specs.Grammar.{IsListOf, IsRow, IsU32}
use Rattle.ktm_codec.specs.Spans.{Spans}
use Rattle.ktm_codec.proofs.Forms.{unambiguous_u32}
use Rattle.ktm_codec.proofs.SpansLemmas.{Spans-map, one_reading, spans_parts}
use Rattle.ktm_snapshot.proofs.OnePiece.{unambiguous_transaction}
use Rattle.ktm_snapshot.proofs.Reading.{reads_list, row_front}
use Rattle.ktm_snapshot.proofs.Rising.{transactions_front}
use Rattle.ktm_snapshot.specs.Pieces.{IsFrontOf, ReadsList}
use Rattle.ktm_snapshot.specs.StateGrammar.{AreTransactionsOf, IsTransactionOf, transactions_rise}
use Rattle.ktm_world.specs.Durable.{Recorded}

module _ (bytes : List ℕ) (at count here end : ℕ) (xs ys : List Recorded) (front : Spans (IsFrontOf (IsU32 count) IsTransactionOf xs) bytes at here) (spans : Spans (AreTransactionsOf ys) bytes at end) where
  listed : Spans (IsListOf IsTransactionOf ys) bytes at end
  listed = Spans-map (λ part is. is.listed) spans

  -- as many stand there as the count says
  pub counted : length ys ≡ count
  counted =
      let (mid, first, row) = spans_parts bytes at here front in
      let (mid', first', row') = spans_parts bytes at end listed in
      sym (one_reading IsU32 unambiguous_u32 bytes at count (length ys) mid mid' first first').0

  -- those that were read are the first of them
  pub first_of : length xs ≤ count → (zs : List Recorded) × (ys ≡ xs ++ zs)
  first_of few =
      let (mid, first, row) = spans_parts bytes at here front in
      let (mid', first', row') = spans_parts bytes at end listed in
      let (counts, places) = one_reading IsU32 unambiguous_u32 bytes at count (length ys) mid mid' first first' in
      row_front transactions_rise IsTransactionOf unambiguous_transaction transactions_front bytes xs ys mid here end row (subst (λ n. Spans (IsRow IsTransactionOf ys) bytes n end) (sym places) row') (omega (arith, few, counts))

pub transactions_list : (bytes : List ℕ) (at : ℕ) → ReadsList transactions_rise IsTransactionOf bytes at
transactions_list = reads_list transactions_rise IsTransactionOf unambiguous_transaction transactions_front
