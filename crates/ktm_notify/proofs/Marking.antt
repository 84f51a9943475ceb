-- Lemmas on the ends of the queues.
use Rattle.std.proofs.Common.{◌≡◌, ℕ, zero, suc, ◌+◌, ◌<◌, ◌==◌, false, List, [], ◌∷◌, ◌++◌, None, length, slice_index_or, slice_set, refl, sym, ap, subst, ◌∙◌, arith}
use Rattle.std.specs.List.{AllByRecursion}
use Rattle.std.proofs.lemmas.Bool.{ne_eqb}
use Rattle.std.proofs.lemmas.List.{length-set}
use Rattle.ktm_links.specs.Indexed.{AreDistinct}
use Rattle.ktm_links.specs.Items.{Item}
use Rattle.ktm_notify.specs.declared.note.Note.{Note}
use Rattle.ktm_notify.specs.declared.queues.QueueEnds.{QueueEnds}
use Rattle.ktm_notify.specs.declared.queues.Slot.{Slot}
use Rattle.ktm_notify.specs.Linked.{first_of, last_of, notes_of, queues_in, AreEnds, AreEndsOf, AreLinked, AreQueues, IsSentTo}
use Rattle.ktm_notify.specs.Queues.{queue_at}

-- what waits for a manager is the same, with the same ends
pub record IsSame (xs ys : List (Item Slot)) (j : ℕ) : Type 0 where
  pub notes : notes_of ys j ≡ notes_of xs j
  pub first : first_of ys j ≡ first_of xs j
  pub last : last_of ys j ≡ last_of xs j

-- one manager's queue has these ends now, and the others are the same
pub record IsAltered (xs ys : List (Item Slot)) (m : ℕ) (ends : QueueEnds) : Type 0 where
  pub marked : AreEndsOf ys m ends
  pub others : (j : ℕ) → (m == j) ≡ false → IsSame xs ys j

-- ---- the ends of a queue

pub queue-there : (xs : List (Item Slot)) (i k : ℕ) (es : List QueueEnds) → k < length es → queue_at (queues_in xs i es) k ≡ notes_of xs (i + k)
queue-there xs i k [] within = absurd (omega (arith, within))
queue-there xs i zero (e ∷ es) within = ap (notes_of xs) (omega arith)
queue-there xs i (suc k) (e ∷ es) within = queue-there xs (suc i) k es (omega (arith, within)) ∙ ap (notes_of xs) (omega arith)

pub marks-there : (xs : List (Item Slot)) (i k : ℕ) (es : List QueueEnds) (d : QueueEnds) → k < length es → AreEnds xs i es → AreEndsOf xs (i + k) (slice_index_or es k d)
marks-there xs i k [] d within are = absurd (omega (arith, within))
marks-there xs i zero (e ∷ es) d within are =
    let here : i ≡ i + 0 = omega arith in
    record { first = are.0.first ∙ ap (first_of xs) here; last = are.0.last ∙ ap (last_of xs) here }
marks-there xs i (suc k) (e ∷ es) d within are =
    let rest = marks-there xs (suc i) k es d (omega (arith, within)) are.1 in
    let here : suc i + k ≡ i + suc k = omega arith in
    record { first = rest.first ∙ ap (first_of xs) here; last = rest.last ∙ ap (last_of xs) here }

-- ---- the ends of one queue altered

same_ends : (xs ys : List (Item Slot)) (j : ℕ) (e : QueueEnds) → IsSame xs ys j → AreEndsOf xs j e → AreEndsOf ys j e
same_ends xs ys j e same are = record { first = are.first ∙ sym same.first; last = are.last ∙ sym same.last }

-- behind its place all are the same
ends-behind : (xs ys : List (Item Slot)) (m i : ℕ) (e : QueueEnds) (es : List QueueEnds) → m < i → IsAltered xs ys m e → AreEnds xs i es → AreEnds ys i es
ends-behind xs ys m i e [] behind is are = tt
ends-behind xs ys m i e (f ∷ es) behind is are =
    let same = is.others i (ne_eqb m i (λ here. omega (arith, here, behind))) in
    (same_ends xs ys i f same are.0, ends-behind xs ys m (suc i) e es (omega (arith, behind)) is are.1)

queues-behind : (xs ys : List (Item Slot)) (m i : ℕ) (e : QueueEnds) (es : List QueueEnds) → m < i → IsAltered xs ys m e → queues_in ys i es ≡ queues_in xs i es
queues-behind xs ys m i e [] behind is = refl
queues-behind xs ys m i e (f ∷ es) behind is =
    let same = is.others i (ne_eqb m i (λ here. omega (arith, here, behind))) in
    let rest = queues-behind xs ys m (suc i) e es (omega (arith, behind)) is in
    rw (same.notes, rest) refl

pub ends-altered : (xs ys : List (Item Slot)) (m i k : ℕ) (e : QueueEnds) (es : List QueueEnds) → m ≡ i + k → IsAltered xs ys m e → AreEnds xs i es → AreEnds ys i (slice_set es k e)
ends-altered xs ys m i k e [] place is are = tt
ends-altered xs ys m i zero e (f ∷ es) place is are =
    let here : m ≡ i = omega (arith, place) in
    (record { first = is.marked.first ∙ ap (first_of ys) here; last = is.marked.last ∙ ap (last_of ys) here }, ends-behind xs ys m (suc i) e es (omega (arith, place)) is are.1)
ends-altered xs ys m i (suc k) e (f ∷ es) place is are =
    let same = is.others i (ne_eqb m i (λ here. omega (arith, here, place))) in
    (same_ends xs ys i f same are.0, ends-altered xs ys m (suc i) k e es (omega (arith, place)) is are.1)

pub queues-altered : (xs ys : List (Item Slot)) (m i k : ℕ) (e : QueueEnds) (es : List QueueEnds) → m ≡ i + k → IsAltered xs ys m e
    → queues_in ys i (slice_set es k e) ≡ slice_set (queues_in xs i es) k (notes_of ys m)
queues-altered xs ys m i k e [] place is = refl
queues-altered xs ys m i zero e (f ∷ es) place is =
    let here : i ≡ m = omega (arith, place) in
    let rest = queues-behind xs ys m (suc i) e es (omega (arith, place)) is in
    rw (here, ← here, rest) refl
queues-altered xs ys m i (suc k) e (f ∷ es) place is =
    let same = is.others i (ne_eqb m i (λ here. omega (arith, here, place))) in
    let rest = queues-altered xs ys m (suc i) k e es (omega (arith, place)) is in
    rw (same.notes, rest) refl

-- ---- a queue more, and a queue as it is

pub queue-more : (xs : List (Item Slot)) (i : ℕ) (e : QueueEnds) (es : List QueueEnds) → queues_in xs i (es ++ e ∷ []) ≡ queues_in xs i es ++ notes_of xs (i + length es) ∷ []
queue-more xs i e [] = let here : i ≡ i + 0 = omega arith in ap (λ j. notes_of xs j ∷ []) here
queue-more xs i e (f ∷ es) =
    let here : suc i + length es ≡ i + suc (length es) = omega arith in
    ap (λ l. notes_of xs i ∷ l) (queue-more xs (suc i) e es ∙ ap (λ j. queues_in xs (suc i) es ++ notes_of xs j ∷ []) here)

pub queue-kept : (qs : List (List Note)) (k : ℕ) → slice_set qs k (queue_at qs k) ≡ qs
queue-kept [] k = refl
queue-kept (q ∷ qs) zero = refl
queue-kept (q ∷ qs) (suc k) = ap (λ l. q ∷ l) (queue-kept qs k)

-- ---- places

pub count-queues : (xs : List (Item Slot)) (i : ℕ) (es : List QueueEnds) → length (queues_in xs i es) ≡ length es
count-queues xs i [] = refl
count-queues xs i (e ∷ es) = ap suc (count-queues xs (suc i) es)

pub within : (xs : List (Item Slot)) (es : List QueueEnds) (k : ℕ) → k < length (queues_in xs 0 es) → k < length es
within xs es k inside = rw (count-queues xs 0 es) at inside

pub place : (k : ℕ) → 0 + k ≡ k
place k = omega arith

-- the ends at a place, as they are read
pub marks-at : (xs : List (Item Slot)) (es : List QueueEnds) (k : ℕ) (e : QueueEnds) → e ≡ slice_index_or es k e → k < length es → AreEnds xs 0 es → AreEndsOf xs k e
marks-at xs es k e is inside are = subst (AreEndsOf xs k) (sym is) (rw (place k) at (marks-there xs 0 k es e inside are))

-- the slots stand for the queues, once one of them is altered
pub queues-are : (xs ys : List (Item Slot)) (es : List QueueEnds) (k : ℕ) (e : QueueEnds) → AreQueues xs es → IsAltered xs ys k e → AreDistinct ys → AreLinked ys → AllByRecursion (IsSentTo (length es)) ys
    → AreQueues ys (slice_set es k e)
queues-are xs ys es k e are is distinct joined sent =
    record { distinct = distinct; joined = joined; marked = ends-altered xs ys k 0 k e es (sym (place k)) is are.marked; sent = rw (length-set es k e) sent }

pub queue-at : (xs : List (Item Slot)) (es : List QueueEnds) (k : ℕ) → k < length es → queue_at (queues_in xs 0 es) k ≡ notes_of xs k
queue-at xs es k inside = queue-there xs 0 k es inside ∙ ap (notes_of xs) (place k)

-- ---- what one more queue needs

ends-more : (xs : List (Item Slot)) (i : ℕ) (e : QueueEnds) (es : List QueueEnds) → AreEnds xs i es → AreEndsOf xs (i + length es) e → AreEnds xs i (es ++ e ∷ [])
ends-more xs i e [] are last = let here : i + 0 ≡ i = omega arith in (rw here at last, tt)
ends-more xs i e (f ∷ es) are last =
    let here : i + suc (length es) ≡ suc i + length es = omega arith in
    (are.0, ends-more xs (suc i) e es are.1 (rw here at last))

sent-more : (count : ℕ) (xs : List (Item Slot)) → AllByRecursion (IsSentTo count) xs → AllByRecursion (IsSentTo (suc count)) xs
sent-more count [] sent = tt
sent-more count (x ∷ xs) sent = (omega (arith, sent.0), sent-more count xs sent.1)

length-more : (e : QueueEnds) (es : List QueueEnds) → length (es ++ e ∷ []) ≡ suc (length es)
length-more e [] = refl
length-more e (f ∷ es) = ap suc (length-more e es)

-- for a manager behind all nothing waits
behind-all : (xs : List (Item Slot)) (count : ℕ) → AllByRecursion (IsSentTo count) xs → (notes_of xs count ≡ []) × (first_of xs count ≡ None) × (last_of xs count ≡ None)
behind-all [] count sent = (refl, refl, refl)
behind-all (x ∷ xs) count sent =
    let rest = behind-all xs count sent.1 in
    let other : (x.value.manager == count) ≡ false = ne_eqb x.value.manager count (λ same. omega (arith, same, sent.0)) in
    (rw other rest.0, rw other rest.1, rw (rest.2, other) refl)

-- the ends of a queue with nothing in it
abbrev pub no_ends : QueueEnds
no_ends = record { first = None; last = None }

pub more-are : (xs : List (Item Slot)) (es : List QueueEnds) → AreQueues xs es → AreQueues xs (es ++ no_ends ∷ [])
more-are xs es are =
    let nothing = behind-all xs (length es) are.sent in
    record {
      distinct = are.distinct;
      joined = are.joined;
      marked = ends-more xs 0 no_ends es are.marked (rw (place (length es)) (record { first = sym nothing.1; last = sym nothing.2 }));
      sent = rw (length-more no_ends es) (sent-more (length es) xs are.sent);
    }

pub queues-more : (xs : List (Item Slot)) (es : List QueueEnds) → AreQueues xs es → queues_in xs 0 (es ++ no_ends ∷ []) ≡ queues_in xs 0 es ++ [] ∷ []
queues-more xs es are =
    queue-more xs 0 no_ends es ∙ ap (λ q. queues_in xs 0 es ++ q ∷ []) (ap (notes_of xs) (place (length es)) ∙ (behind-all xs (length es) are.sent).0)
