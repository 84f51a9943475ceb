-- The resource managers with their queues: one is found, and what waits for it is taken or sent at its place.
use Rattle.std.proofs.Common.{◌≡◌, ◌||◌, ℕ, zero, suc, ◌+◌, ◌<◌, Bool, true, false, List, [], ◌∷◌, ◌++◌, length, get_or, set, map, Some, None, refl, sym, ◌∙◌, ap, arith}
use Rattle.std.specs.Prelude.{is_some, if◌then◌else◌, option_map, drop, filter}
use Rattle.std.specs.List.{list_all, list_any}
use Rattle.std.proofs.lemmas.List.{append-nil}
use Rattle.ktm_base.specs.declared.id.Id.{Id}
use Rattle.ktm_notify.specs.declared.note.Note.{Note as Waiting}
use Rattle.ktm_notify.specs.Queues.{behind, first_note, queue_at, with_note, without_first}
use Rattle.ktm_world.specs.Durable.{is_before}
use Rattle.ktm_world.specs.Enlistments.{Manager, Note, Sent, is_durable_at, manager_at}
use Rattle.ktm_world.specs.Outcome.{served}
use Rattle.ktm_world.specs.Transactions.{same_id}
use Rattle.txf_laws.proofs.offered.Tables.{same_id-equal, same_id-from, same_id-sym}
use Rattle.ktm_manager.specs.declared.managers.Listed.{Listed}
use Rattle.ktm_manager.specs.Managers.{first_in, first_of, manager_of, managers_in, note_of}
use Rattle.ktm_manager.specs.Rising.{IsAt, IsNowhere}

abbrev id_of : Listed → Id
id_of x = x.id

pub as_many : (xs : List Listed) (qs : List (List Waiting)) → length (managers_in xs qs) ≡ length xs
as_many [] qs = refl
as_many (x ∷ xs) [] = ap suc (as_many xs [])
as_many (x ∷ xs) (q ∷ qs) = ap suc (as_many xs qs)

pub one_more : (xs : List Listed) (qs : List (List Waiting)) (x : Listed) → length xs ≡ length qs → managers_in (xs ++ x ∷ []) (qs ++ [] ∷ []) ≡ managers_in xs qs ++ manager_of x [] ∷ []
one_more [] [] x same = refl
one_more [] (q ∷ qs) x same = absurd (omega (arith, same))
one_more (y ∷ ys) [] x same = absurd (omega (arith, same))
one_more (y ∷ ys) (q ∷ qs) x same = ap (λ l. manager_of y q ∷ l) (one_more ys qs x (omega (arith, same)))

-- a test of the Ids alone
pub all_listed : (test : Id → Bool) (xs : List Listed) (qs : List (List Waiting)) → list_all (λ m. test m.id) (managers_in xs qs) ≡ list_all (λ x. test x.id) xs
all_listed test [] qs = refl
all_listed test (x ∷ xs) [] = rw (all_listed test xs []) refl
all_listed test (x ∷ xs) (q ∷ qs) = rw (all_listed test xs qs) refl

-- ---- where none has the Id

pub no_manager : (xs : List Listed) (qs : List (List Waiting)) (id : Id) → IsNowhere id_of xs id → manager_at (managers_in xs qs) id ≡ None
no_manager [] qs id nowhere = refl
no_manager (x ∷ xs) [] id nowhere = rw nowhere.0 (no_manager xs [] id nowhere.1)
no_manager (x ∷ xs) (q ∷ qs) id nowhere = rw nowhere.0 (no_manager xs qs id nowhere.1)

pub none_durable : (xs : List Listed) (qs : List (List Waiting)) (id : Id) → IsNowhere id_of xs id → is_durable_at (managers_in xs qs) id ≡ false
none_durable [] qs id nowhere = refl
none_durable (x ∷ xs) [] id nowhere = rw nowhere.0 (none_durable xs [] id nowhere.1)
none_durable (x ∷ xs) (q ∷ qs) id nowhere = rw nowhere.0 (none_durable xs qs id nowhere.1)

pub none_served : (xs : List Listed) (qs : List (List Waiting)) (id : Id) → IsNowhere id_of xs id → map (served (Some id) []) (managers_in xs qs) ≡ managers_in xs qs
none_served [] qs id nowhere = refl
none_served (x ∷ xs) [] id nowhere = rw nowhere.0 (ap (λ l. manager_of x [] ∷ l) (none_served xs [] id nowhere.1))
none_served (x ∷ xs) (q ∷ qs) id nowhere =
    rw nowhere.0 (ap (λ (l : List Note). record (manager_of x q) { queue = l } ∷ map (served (Some id) []) (managers_in xs qs)) (append-nil (map note_of q)) ∙ ap (λ l. manager_of x q ∷ l) (none_served xs qs id nowhere.1))

none_sent : (xs : List Listed) (qs : List (List Waiting)) (id : Id) (note : Note) → IsNowhere id_of xs id → map (served None (record { manager = id; note = note } ∷ [])) (managers_in xs qs) ≡ managers_in xs qs
none_sent [] qs id note nowhere = refl
none_sent (x ∷ xs) [] id note nowhere = rw (same_id-sym x.id id nowhere.0) (ap (λ l. manager_of x [] ∷ l) (none_sent xs [] id note nowhere.1))
none_sent (x ∷ xs) (q ∷ qs) id note nowhere =
    rw (same_id-sym x.id id nowhere.0)
    (ap (λ (l : List Note). record (manager_of x q) { queue = l } ∷ map (served None (record { manager = id; note = note } ∷ [])) (managers_in xs qs)) (append-nil (map note_of q))
    ∙ ap (λ l. manager_of x q ∷ l) (none_sent xs qs id note nowhere.1))

-- ---- where one has it

pub is_listed : (xs : List Listed) (qs : List (List Waiting)) (id : Id) (i : ℕ) → IsAt id_of xs id i → is_some (manager_at (managers_in xs qs) id) ≡ true
is_listed [] qs id i at = absurd at
is_listed (x ∷ xs) [] id zero at = rw at.0 refl
is_listed (x ∷ xs) [] id (suc i) at = rw at.0 (is_listed xs [] id i at.1)
is_listed (x ∷ xs) (q ∷ qs) id zero at = rw at.0 refl
is_listed (x ∷ xs) (q ∷ qs) id (suc i) at = rw at.0 (is_listed xs qs id i at.1)

or_nothing : (b : Bool) → (b || false) ≡ b
or_nothing true = refl
or_nothing false = refl

pub durable_at : (xs : List Listed) (qs : List (List Waiting)) (id : Id) (i : ℕ) (d : Listed) → IsAt id_of xs id i → is_durable_at (managers_in xs qs) id ≡ (get_or xs i d).is_durable
durable_at [] qs id i d at = absurd at
durable_at (x ∷ xs) [] id zero d at = rw (at.0, none_durable xs [] id at.1) (or_nothing x.is_durable)
durable_at (x ∷ xs) [] id (suc i) d at = rw at.0 (durable_at xs [] id i d at.1)
durable_at (x ∷ xs) (q ∷ qs) id zero d at = rw (at.0, none_durable xs qs id at.1) (or_nothing x.is_durable)
durable_at (x ∷ xs) (q ∷ qs) id (suc i) d at = rw at.0 (durable_at xs qs id i d at.1)

first_mapped : (q : List Waiting) → option_map note_of (first_note q) ≡ first_in (map note_of q)
first_mapped [] = refl
first_mapped (n ∷ ns) = refl

pub first_at : (xs : List Listed) (qs : List (List Waiting)) (id : Id) (i : ℕ) → IsAt id_of xs id i → option_map note_of (first_note (queue_at qs i)) ≡ first_of (manager_at (managers_in xs qs) id)
first_at [] qs id i at = absurd at
first_at (x ∷ xs) [] id zero at = rw at.0 refl
first_at (x ∷ xs) [] id (suc i) at = rw at.0 (first_at xs [] id i at.1)
first_at (x ∷ xs) (q ∷ qs) id zero at = rw at.0 (first_mapped q)
first_at (x ∷ xs) (q ∷ qs) id (suc i) at = rw at.0 (first_at xs qs id i at.1)

behind_mapped : (q : List Waiting) → map note_of (behind q) ≡ drop 1 (map note_of q) ++ []
behind_mapped [] = refl
behind_mapped (n ∷ ns) = sym (append-nil (map note_of ns))

pub taken_at : (xs : List Listed) (qs : List (List Waiting)) (id : Id) (i : ℕ) → length xs ≡ length qs → IsAt id_of xs id i → managers_in xs (without_first qs i) ≡ map (served (Some id) []) (managers_in xs qs)
taken_at [] qs id i same at = absurd at
taken_at (x ∷ xs) [] id i same at = absurd (omega (arith, same))
taken_at (x ∷ xs) (q ∷ qs) id zero same at =
    rw at.0 (ap (λ (l : List Note). record (manager_of x q) { queue = l } ∷ managers_in xs qs) (behind_mapped q) ∙ ap (λ l. record (manager_of x q) { queue = drop 1 (map note_of q) ++ [] } ∷ l) (sym (none_served xs qs id at.1)))
taken_at (x ∷ xs) (q ∷ qs) id (suc i) same at =
    rw at.0 (ap (λ l. manager_of x q ∷ l) (taken_at xs qs id i (omega (arith, same)) at.1) ∙ ap (λ (l : List Note). record (manager_of x q) { queue = l } ∷ map (served (Some id) []) (managers_in xs qs)) (sym (append-nil (map note_of q))))

put_mapped : (q : List Waiting) (n : Waiting) → map note_of (q ++ n ∷ []) ≡ map note_of q ++ note_of n ∷ []
put_mapped [] n = refl
put_mapped (m ∷ ms) n = ap (λ l. note_of m ∷ l) (put_mapped ms n)

pub sent_at : (xs : List Listed) (qs : List (List Waiting)) (id : Id) (i : ℕ) (n : Waiting) → length xs ≡ length qs → IsAt id_of xs id i
    → managers_in xs (with_note qs i n) ≡ map (served None (record { manager = id; note = note_of n } ∷ [])) (managers_in xs qs)
sent_at [] qs id i n same at = absurd at
sent_at (x ∷ xs) [] id i n same at = absurd (omega (arith, same))
sent_at (x ∷ xs) (q ∷ qs) id zero n same at =
    rw (same_id-from id x.id (sym (same_id-equal x.id id at.0)))
    (ap (λ (l : List Note). record (manager_of x q) { queue = l } ∷ managers_in xs qs) (put_mapped q n)
    ∙ ap (λ l. record (manager_of x q) { queue = map note_of q ++ note_of n ∷ [] } ∷ l) (sym (none_sent xs qs id (note_of n) at.1)))
sent_at (x ∷ xs) (q ∷ qs) id (suc i) n same at =
    rw (same_id-sym x.id id at.0)
    (ap (λ l. manager_of x q ∷ l) (sent_at xs qs id i n (omega (arith, same)) at.1)
    ∙ ap (λ (l : List Note). record (manager_of x q) { queue = l } ∷ map (served None (record { manager = id; note = note_of n } ∷ [])) (managers_in xs qs)) (sym (append-nil (map note_of q))))
