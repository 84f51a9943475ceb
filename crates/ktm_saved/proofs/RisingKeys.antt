-- Committed keys that are read one behind the other.
use Rattle.std.proofs.Common.{◌≡◌, ℕ, true, List, [], ◌∷◌, ◌++◌, refl, ap}
use Rattle.std.specs.List.{list_all}
use Rattle.std.proofs.lemmas.Bool.{and_parts, and_from}
use Rattle.ktm_keyed.specs.declared.keyed.Keyed.{Keyed}
use Rattle.ktm_keyed.specs.Keyed.{comes_before, comes_first, is_rising, put}
use Rattle.ktm_keyed.proofs.KeyedLemmas.{comes_before-after, comes_before-differs, comes_before-trans}
use Rattle.ktm_snapshot.proofs.OnePiece.{unambiguous_entry}
use Rattle.ktm_snapshot.proofs.Reading.{reads_list}
use Rattle.ktm_snapshot.proofs.Rising.{keys_front}
use Rattle.ktm_snapshot.specs.Pieces.{ReadsList}
use Rattle.ktm_snapshot.specs.StateGrammar.{IsEntryOf}
use Rattle.ktm_world.specs.Keys.{Store}
use Rattle.ktm_saved.proofs.Ends.{all_front}
use Rattle.ktm_saved.specs.Reading.{are_good_keys}
use Rattle.txf_laws.specs.Contents.{is_good_entry}

good_front : (xs ys : Store) → are_good_keys (xs ++ ys) ≡ true → are_good_keys xs ≡ true
good_front xs ys all =
    let both = and_parts (list_all is_good_entry (xs ++ ys)) (is_rising (xs ++ ys)) all in
    and_from _ _ (all_front is_good_entry xs ys both.0) (keys_front xs ys both.1)

pub good_list : (bytes : List ℕ) (at : ℕ) → ReadsList are_good_keys IsEntryOf bytes at
good_list = reads_list are_good_keys IsEntryOf unambiguous_entry good_front

before_last : (x : Keyed (List ℕ)) (xs : Store) (last : Keyed (List ℕ)) → comes_first x.key (xs ++ last ∷ []) ≡ true → is_rising (xs ++ last ∷ []) ≡ true → comes_before x.key last.key ≡ true
before_last x [] last first rises = first
before_last x (y ∷ ys) last first rises =
    let both = and_parts (comes_first y.key (ys ++ last ∷ [])) (is_rising (ys ++ last ∷ [])) rises in
    comes_before-trans x.key y.key last.key first (before_last y ys last both.0 both.1)

-- a key that comes behind all others is put at the end
pub put_last : (xs : Store) (last : Keyed (List ℕ)) → is_rising (xs ++ last ∷ []) ≡ true → put xs last.key last.value ≡ xs ++ last ∷ []
put_last [] last rises = refl
put_last (x ∷ xs) last rises =
    let both = and_parts (comes_first x.key (xs ++ last ∷ [])) (is_rising (xs ++ last ∷ [])) rises in
    let before = before_last x xs last both.0 both.1 in
    rw (comes_before-differs x.key last.key before, comes_before-after x.key last.key before) (ap (λ l. x ∷ l) (put_last xs last both.1))
