-- What a notification that is sent, and one that is taken, make of the slots.
use Rattle.std.proofs.Common.{◌≡◌, ℕ, ◌+◌, ◌<◌, ◌==◌, true, false, List, [], ◌∷◌, ◌++◌, Option, Some, None, is_some, length, slice_index_or, slice_set, suc, refl, sym, ap, ◌∙◌, inl, inr, arith}
use Rattle.std.specs.Option.{unwrap_or}
use Rattle.std.specs.List.{AllByRecursion}
use Rattle.std.proofs.lemmas.Bool.{cases_Bool, eq-eqb}
use Rattle.ktm_links.specs.declared.list.Key.{Key}
use Rattle.ktm_links.specs.Indexed.{AreDistinct}
use Rattle.ktm_links.specs.Items.{Item, item, same_key, value_at, without}
use Rattle.ktm_links.proofs.offered.Keys.{none_of}
use Rattle.ktm_links.proofs.offered.Indexes.{AreDistinct-push, AreDistinct-without}
use Rattle.ktm_notify.specs.declared.note.Note.{Note}
use Rattle.ktm_notify.specs.declared.queues.QueueEnds.{QueueEnds}
use Rattle.ktm_notify.specs.declared.queues.Slot.{Slot}
use Rattle.ktm_notify.specs.Linked.{first_of, last_of, linked, linked_behind, notes_of, or_key, queues_in, AreEndsOf, AreLinked, AreQueues, IsSentTo}
use Rattle.ktm_notify.specs.Queues.{behind, first_note, queue_at, with_note, without_first}
use Rattle.ktm_notify.proofs.Linking.{distinct-linked, first-there, note-first, first-linked, first-push, first-without, first-without_other, last-linked, last-none, last-push-other, last-push-this, last-without, last-without_other, linked-alone, linked-behind, linked-without, notes-linked, notes-push, notes-without, or_key-none, IsFirst}
use Rattle.ktm_notify.proofs.Marking.{marks-at, place, queue-at, queue-kept, queues-altered, IsAltered}

-- ---- sent

-- what the slots are once a notification is sent
pub record IsSent (xs ys : List (Item Slot)) (count : ℕ) (n : Item Slot) (ends : QueueEnds) : Type 0 where
  pub altered : IsAltered xs ys n.value.manager (record { first = Some (unwrap_or ends.first n.key); last = Some n.key })
  pub notes : notes_of ys n.value.manager ≡ notes_of xs n.value.manager ++ n.value.note ∷ []
  pub distinct : AreDistinct ys
  pub joined : AreLinked ys
  pub sent : AllByRecursion (IsSentTo count) ys
  pub longer : length ys ≡ length xs + 1

notes-behind : (ys : List (Item Slot)) (last : Option Key) (next : Key) (j : ℕ) → notes_of (linked_behind ys last next) j ≡ notes_of ys j
notes-behind ys None next j = refl
notes-behind ys (Some last) next j = notes-linked ys last next j

first-behind : (ys : List (Item Slot)) (last : Option Key) (next : Key) (j : ℕ) → first_of (linked_behind ys last next) j ≡ first_of ys j
first-behind ys None next j = refl
first-behind ys (Some last) next j = first-linked ys last next j

last-behind : (ys : List (Item Slot)) (last : Option Key) (next : Key) (j : ℕ) → last_of (linked_behind ys last next) j ≡ last_of ys j
last-behind ys None next j = refl
last-behind ys (Some last) next j = last-linked ys last next j

distinct-behind : (ys : List (Item Slot)) (last : Option Key) (next : Key) → AreDistinct ys → AreDistinct (linked_behind ys last next)
distinct-behind ys None next distinct = distinct
distinct-behind ys (Some last) next distinct = distinct-linked ys last next distinct

joined-behind : (xs : List (Item Slot)) (n : Item Slot) (last : Option Key) → n.value.next ≡ None → last ≡ last_of xs n.value.manager → AreDistinct xs → AreLinked xs
    → AreLinked (linked_behind (xs ++ n ∷ []) last n.key)
joined-behind xs n None ends is distinct are = linked-alone xs n ends (sym is) are
joined-behind xs n (Some last) ends is distinct are = linked-behind xs n last ends (sym is) distinct are

sent-linked : (count : ℕ) (xs : List (Item Slot)) (last next : Key) → AllByRecursion (IsSentTo count) xs → AllByRecursion (IsSentTo count) (linked xs last next)
sent-linked count [] last next sent = sent
sent-linked count (x ∷ xs) last next sent =
    elim (cases_Bool (same_key x.key last)) [
      | inl same ↦ rw same ((sent.0, sent.1))
      | inr differs ↦ rw differs ((sent.0, sent-linked count xs last next sent.1))
    ]

sent-behind : (count : ℕ) (ys : List (Item Slot)) (last : Option Key) (next : Key) → AllByRecursion (IsSentTo count) ys → AllByRecursion (IsSentTo count) (linked_behind ys last next)
sent-behind count ys None next sent = sent
sent-behind count ys (Some last) next sent = sent-linked count ys last next sent

length-linked : (xs : List (Item Slot)) (last next : Key) → length (linked xs last next) ≡ length xs
length-linked [] last next = refl
length-linked (x ∷ xs) last next =
    elim (cases_Bool (same_key x.key last)) [
      | inl same ↦ rw same refl
      | inr differs ↦ rw differs (ap suc (length-linked xs last next))
    ]

length-behind : (ys : List (Item Slot)) (last : Option Key) (next : Key) → length (linked_behind ys last next) ≡ length ys
length-behind ys None next = refl
length-behind ys (Some last) next = length-linked ys last next

length-push : (xs : List (Item Slot)) (n : Item Slot) → length (xs ++ n ∷ []) ≡ length xs + 1
length-push [] n = refl
length-push (x ∷ xs) n = let rest = length-push xs n in omega (arith, rest)

sent-push : (count : ℕ) (xs : List (Item Slot)) (n : Item Slot) → AllByRecursion (IsSentTo count) xs → n.value.manager < count → AllByRecursion (IsSentTo count) (xs ++ n ∷ [])
sent-push count [] n sent there = (there, tt)
sent-push count (x ∷ xs) n sent there = (sent.0, sent-push count xs n sent.1 there)

first-or : (o : Option Key) (key : Key) → Some (unwrap_or o key) ≡ or_key o (Some key)
first-or None key = refl
first-or (Some first) key = refl

pub is-sent : (xs : List (Item Slot)) (count : ℕ) (n : Item Slot) (ends : QueueEnds) → n.value.next ≡ None → n.value.manager < count → value_at xs n.key ≡ None
    → AreEndsOf xs n.value.manager ends → AreDistinct xs → AreLinked xs → AllByRecursion (IsSentTo count) xs → IsSent xs (linked_behind (xs ++ n ∷ []) ends.last n.key) count n ends
is-sent xs count n ends alone there absent marked distinct are sent =
    let m = n.value.manager in
    let ys = xs ++ n ∷ [] in
    let self : (n.value.manager == n.value.manager) ≡ true = eq-eqb m m refl in
    record {
      altered = record {
        marked = record {
          first =
              first-or ends.first n.key ∙ ap (λ o. or_key o (Some n.key)) marked.first
              ∙ sym (first-behind ys ends.last n.key m ∙ first-push xs n m ∙ rw self refl);
          last = sym (last-behind ys ends.last n.key m ∙ last-push-this xs n);
        };
        others = λ j other. record {
          notes = notes-behind ys ends.last n.key j ∙ notes-push xs n j ∙ rw other (append-nothing (notes_of xs j));
          first = first-behind ys ends.last n.key j ∙ first-push xs n j ∙ rw other (or_key-none (first_of xs j));
          last = last-behind ys ends.last n.key j ∙ last-push-other xs n j other;
        };
      };
      notes = notes-behind ys ends.last n.key m ∙ notes-push xs n m ∙ rw self refl;
      distinct = distinct-behind ys ends.last n.key (AreDistinct-push xs n.key n.value distinct absent);
      joined = joined-behind xs n ends.last alone marked.last distinct are;
      sent = sent-behind count ys ends.last n.key (sent-push count xs n sent there);
      longer = length-behind ys ends.last n.key ∙ length-push xs n;
    }
  where
    append-nothing : (ns : List Note) → ns ++ [] ≡ ns
    append-nothing [] = refl
    append-nothing (n ∷ ns) = ap (λ l. n ∷ l) (append-nothing ns)

-- the slot of a notification that is sent
abbrev pub new_slot : ℕ → Note → Slot
new_slot manager note = record { manager = manager; note = note; next = None }

-- as it is sent: behind the last of its queue, whose ends are those that were read
pub sent-now : (xs : List (Item Slot)) (es : List QueueEnds) (k : ℕ) (key : Key) (note : Note) (ends : QueueEnds) → AreQueues xs es → k < length es → value_at xs key ≡ None
    → ends ≡ slice_index_or es k ends
    → IsSent xs (linked_behind (xs ++ item key (new_slot k note) ∷ []) ends.last key) (length es) (item key (new_slot k note)) ends
sent-now xs es k key note ends are inside absent is =
    is-sent xs (length es) (item key (new_slot k note)) ends refl inside absent (marks-at xs es k ends is inside are.marked) are.distinct are.joined are.sent

-- ---- taken

-- what the slots are once the first notification of a queue is taken
pub record IsTaken (xs : List (Item Slot)) (count m : ℕ) (key : Key) (ends : QueueEnds) : Type 0 where
  pub altered : IsAltered xs (without xs key) m ends
  pub distinct : AreDistinct (without xs key)
  pub joined : AreLinked (without xs key)
  pub sent : AllByRecursion (IsSentTo count) (without xs key)

-- the ends once the first is taken, with this one behind it, if there is one
pub record AreBehind (ends rest : QueueEnds) (next : Option Key) : Type 0 where
  pub first : rest.first ≡ next
  pub more : is_some next ≡ true → rest.last ≡ ends.last
  pub none : is_some next ≡ false → rest.last ≡ None

sent-without : (count : ℕ) (xs : List (Item Slot)) (key : Key) → AllByRecursion (IsSentTo count) xs → AllByRecursion (IsSentTo count) (without xs key)
sent-without count [] key sent = sent
sent-without count (x ∷ xs) key sent =
    elim (cases_Bool (same_key x.key key)) [
      | inl same ↦ rw same sent.1
      | inr differs ↦ rw differs ((sent.0, sent-without count xs key sent.1))
    ]

pub shorter : (xs : List (Item Slot)) (key : Key) → is_some (value_at xs key) ≡ true → length (without xs key) + 1 ≡ length xs
shorter [] key some = absurd (cc)
shorter (x ∷ xs) key some =
    elim (cases_Bool (same_key x.key key)) [
      | inl same ↦ rw same (omega arith)
      | inr differs ↦ rw differs (let rest = shorter xs key (rw differs at some) in omega (arith, rest))
    ]

last-left : (xs : List (Item Slot)) (m : ℕ) (key : Key) (slot : Slot) (ends rest : QueueEnds) → AreDistinct xs → AreEndsOf xs m ends → IsFirst xs m key slot
    → slot.next ≡ first_of (without xs key) m → AreBehind ends rest slot.next → rest.last ≡ last_of (without xs key) m
last-left xs m key slot ends rest distinct marked is next behind =
    elim (cases_Bool (is_some slot.next)) [
      | inl some ↦ behind.more some ∙ marked.last ∙ last-without xs m key slot distinct is (rw next at some)
      | inr none ↦ behind.none none ∙ sym (last-none (without xs key) m (none_of (first_of (without xs key) m) (rw next at none)))
    ]

pub is-taken : (xs : List (Item Slot)) (count m : ℕ) (key : Key) (slot : Slot) (ends rest : QueueEnds) → AreEndsOf xs m ends → IsFirst xs m key slot → AreDistinct xs → AreLinked xs
    → AllByRecursion (IsSentTo count) xs → AreBehind ends rest slot.next → IsTaken xs count m key rest
is-taken xs count m key slot ends rest marked is distinct are sent behind =
    let next = first-without xs m key slot distinct are is in
    record {
      altered = record {
        marked = record { first = behind.first ∙ next; last = last-left xs m key slot ends rest distinct marked is next behind };
        others = λ j other. record {
          notes = notes-without xs m j key slot distinct is other;
          first = first-without_other xs m j key slot distinct is other;
          last = last-without_other xs m j key slot distinct is other;
        };
      };
      distinct = AreDistinct-without xs key distinct;
      joined = linked-without xs m key slot distinct are is;
      sent = sent-without count xs key sent;
    }

-- ---- nothing waits

pub notes-none : (xs : List (Item Slot)) (m : ℕ) → first_of xs m ≡ None → notes_of xs m ≡ []
notes-none [] m none = refl
notes-none (x ∷ xs) m none =
    elim (cases_Bool (x.value.manager == m)) [
      | inl this ↦ absurd (let some = rw this at none in cc)
      | inr other ↦ rw other (notes-none xs m (rw other at none))
    ]

-- ---- as it is read

-- the first of a queue whose ends were read
pub first-read : (xs : List (Item Slot)) (es : List QueueEnds) (k : ℕ) (ends : QueueEnds) (key : Key) (slot : Slot) → AreQueues xs es → k < length es → ends ≡ slice_index_or es k ends
    → ends.first ≡ Some key → value_at xs key ≡ Some slot → IsFirst xs k key slot
first-read xs es k ends key slot are inside is first there =
    record { there = there; first = sym (marks-at xs es k ends is inside are.marked).first ∙ first }

-- its notification
pub note-read : (xs : List (Item Slot)) (es : List QueueEnds) (k : ℕ) (ends : QueueEnds) (key : Key) (slot : Slot) → AreQueues xs es → k < length es → ends ≡ slice_index_or es k ends
    → ends.first ≡ Some key → value_at xs key ≡ Some slot → Some slot.note ≡ first_note (queue_at (queues_in xs 0 es) k)
note-read xs es k ends key slot are inside is first there =
    let at = note-first xs k key slot are.distinct (first-read xs es k ends key slot are inside is first there) in
    rw (queue-at xs es k inside, at) refl

-- a queue whose ends were read has no notification where they have no first
pub none-read : (xs : List (Item Slot)) (es : List QueueEnds) (k : ℕ) (ends : QueueEnds) → AreQueues xs es → k < length es → ends ≡ slice_index_or es k ends → ends.first ≡ None
    → queue_at (queues_in xs 0 es) k ≡ []
none-read xs es k ends are inside is none =
    queue-at xs es k inside ∙ notes-none xs k (sym (marks-at xs es k ends is inside are.marked).first ∙ none)

-- the first is among the slots
pub there-read : (xs : List (Item Slot)) (es : List QueueEnds) (k : ℕ) (ends : QueueEnds) (key : Key) → AreQueues xs es → k < length es → ends ≡ slice_index_or es k ends → ends.first ≡ Some key
    → is_some (value_at xs key) ≡ true
there-read xs es k ends key are inside is first = first-there xs k key (sym (marks-at xs es k ends is inside are.marked).first ∙ first)

-- nothing is taken then
pub nothing-taken : (xs : List (Item Slot)) (es : List QueueEnds) (k : ℕ) (ends : QueueEnds) → AreQueues xs es → k < length es → ends ≡ slice_index_or es k ends → ends.first ≡ None
    → queues_in xs 0 es ≡ without_first (queues_in xs 0 es) k
nothing-taken xs es k ends are inside is none =
    let empty = none-read xs es k ends are inside is none in
    sym (ap (λ q. slice_set (queues_in xs 0 es) k (behind q)) empty ∙ ap (slice_set (queues_in xs 0 es) k) (sym empty) ∙ queue-kept (queues_in xs 0 es) k)

-- as it is taken: the queue's ends are those that were read
pub taken-now : (xs : List (Item Slot)) (es : List QueueEnds) (k : ℕ) (ends rest : QueueEnds) (key : Key) (slot : Slot) → AreQueues xs es → k < length es → ends ≡ slice_index_or es k ends
    → ends.first ≡ Some key → value_at xs key ≡ Some slot → AreBehind ends rest slot.next → IsTaken xs (length es) k key rest
taken-now xs es k ends rest key slot are inside is first there behind =
    is-taken xs (length es) k key slot ends rest (marks-at xs es k ends is inside are.marked) (first-read xs es k ends key slot are inside is first there) are.distinct are.joined are.sent
    behind

pub queues-taken : (xs : List (Item Slot)) (es : List QueueEnds) (k : ℕ) (rest : QueueEnds) (key : Key) (slot : Slot) → AreQueues xs es → k < length es → IsFirst xs k key slot
    → IsTaken xs (length es) k key rest → queues_in (without xs key) 0 (slice_set es k rest) ≡ without_first (queues_in xs 0 es) k
queues-taken xs es k rest key slot are inside first taken =
    let at : queue_at (queues_in xs 0 es) k ≡ slot.note ∷ notes_of (without xs key) k = queue-at xs es k inside ∙ note-first xs k key slot are.distinct first in
    queues-altered xs (without xs key) k 0 k rest es (sym (place k)) taken.altered ∙ sym (ap (λ q. slice_set (queues_in xs 0 es) k (behind q)) at)

pub queues-sent : (xs ys : List (Item Slot)) (es : List QueueEnds) (n : Item Slot) (ends : QueueEnds) → n.value.manager < length es → IsSent xs ys (length es) n ends
    → queues_in ys 0 (slice_set es n.value.manager (record { first = Some (unwrap_or ends.first n.key); last = Some n.key })) ≡ with_note (queues_in xs 0 es) n.value.manager n.value.note
queues-sent xs ys es n ends inside sent =
    let m = n.value.manager in
    queues-altered xs ys m 0 m (record { first = Some (unwrap_or ends.first n.key); last = Some n.key }) es (sym (place m)) sent.altered
    ∙ ap (slice_set (queues_in xs 0 es) m) (sent.notes ∙ sym (ap (λ q. q ++ n.value.note ∷ []) (queue-at xs es m inside)))
