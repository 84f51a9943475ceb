-- Resource managers that are read one behind the other.
use Rattle.std.proofs.Common.{◌≡◌, ℕ, ◌&&◌, true, false, List, [], ◌∷◌, ◌++◌, length, nat_le, refl, ap, arith, inl, length-append}
use Rattle.std.specs.List.{list_all}
use Rattle.std.proofs.lemmas.Bool.{and_parts, and_from, false_from_ne_true, le-leb, leb-true}
use Rattle.ktm_base.specs.declared.id.Id.{Id}
use Rattle.ktm_base.specs.declared.limits.TheConstants.{MOST_LIVE}
use Rattle.ktm_event.proofs.Parts.{unambiguous_id}
use Rattle.ktm_snapshot.proofs.Reading.{reads_list}
use Rattle.ktm_snapshot.proofs.Rising.{managers_front}
use Rattle.ktm_snapshot.specs.Pieces.{ReadsList}
use Rattle.ktm_world.specs.EventGrammar.{IsIdOf}
use Rattle.ktm_world.specs.Durable.{is_before, with_manager}
use Rattle.ktm_saved.proofs.Ends.{all_front}
use Rattle.ktm_saved.specs.Reading.{are_good_managers, is_drawn_by}
use Rattle.txf_laws.specs.Elements.{each_pair}
use Rattle.txf_laws.proofs.offered.Elements.{each_pair-across}
use Rattle.txf_laws.proofs.offered.Tables.{before_other, is_before-then}

fewer : (xs ys : List Id) → nat_le (length (xs ++ ys)) MOST_LIVE ≡ true → nat_le (length xs) MOST_LIVE ≡ true
fewer xs ys few = le-leb (length xs) MOST_LIVE (omega (arith, length-append xs ys, leb-true (length (xs ++ ys)) MOST_LIVE few))

good_front : (boots : ℕ) (xs ys : List Id) → are_good_managers boots (xs ++ ys) ≡ true → are_good_managers boots xs ≡ true
good_front boots xs ys all =
    let front = and_parts (nat_le (length (xs ++ ys)) MOST_LIVE && list_all (is_drawn_by boots) (xs ++ ys)) (each_pair is_before (xs ++ ys)) all in
    let both = and_parts (nat_le (length (xs ++ ys)) MOST_LIVE) (list_all (is_drawn_by boots) (xs ++ ys)) front.0 in
    and_from _ _ (and_from _ _ (fewer xs ys both.0) (all_front (is_drawn_by boots) xs ys both.1)) (managers_front xs ys front.1)

pub good_list : (boots : ℕ) (bytes : List ℕ) (at : ℕ) → ReadsList (are_good_managers boots) IsIdOf bytes at
good_list boots = reads_list (are_good_managers boots) IsIdOf unambiguous_id (good_front boots)

not_before : (a b : Id) → is_before a b ≡ true → is_before b a ≡ false
not_before a b before = false_from_ne_true (is_before b a) (λ after. before_other a a (is_before-then a b a before after) refl)

-- a manager that comes behind all others is put at the end
pub added_last : (ids : List Id) (last : Id) → each_pair is_before (ids ++ last ∷ []) ≡ true → with_manager ids last ≡ ids ++ last ∷ []
added_last [] last rises = refl
added_last (a ∷ ids) last rises =
    let before = each_pair-across is_before (a ∷ ids) (last ∷ []) rises a last (inl refl) (inl refl) in
    rw (not_before a last before) (ap (λ l. a ∷ l) (added_last ids last (and_parts (list_all (is_before a) (ids ++ last ∷ [])) (each_pair is_before (ids ++ last ∷ [])) rises).1))

pub rising : (boots : ℕ) (ids : List Id) → are_good_managers boots ids ≡ true → each_pair is_before ids ≡ true
rising boots ids good = (and_parts (nat_le (length ids) MOST_LIVE && list_all (is_drawn_by boots) ids) (each_pair is_before ids) good).1
