-- What an outcome makes of what is so now: one that records, commits and sends nothing, and one after another.
use Rattle.std.proofs.Common.{◌≡◌, ◌++◌, not, List, [], ◌∷◌, filter, map, drop, append-nil, append_assoc, Option, None, refl, sym, ap, ◌∙◌, inl, inr}
use Rattle.std.proofs.Math.Bool.{or-false}
use Rattle.std.proofs.lemmas.Bool.{cases_Bool}
use Rattle.std.proofs.lemmas.List.Sums.{fold-append}
use Rattle.ktm_base.specs.declared.id.Id.{Id}
use Rattle.ktm_world.specs.declared.reply.Reply.{Reply}
use Rattle.ktm_world.specs.Committed.{committed_with, with_work}
use Rattle.ktm_world.specs.Durable.{after_events, empty_state}
use Rattle.ktm_world.specs.Enlistments.{Manager, Sent, notes_for, taken_count}
use Rattle.ktm_world.specs.Files.{FirstOpen, Opening, files_with, first_open}
use Rattle.ktm_world.specs.Outcome.{Outcome, apply, committed_now, first_opens_after, only_reply, joined, and_then, served}
use Rattle.ktm_world.specs.Present.{Present}
use Rattle.ktm_world.specs.Transactions.{same_id}
use Rattle.ktm_laws.specs.OwnedAfterCourses.{both-forgotten}
use Rattle.txf_laws.proofs.offered.Elements.{filter-true}
use Rattle.ktm_standing.specs.Courses.{aside}
use Rattle.ktm_standing.specs.Effects.{IsLater, IsSilent, opens_left, with_parts}

-- ---- first opens

-- where none end, all stay
pub opens_all : (opens : List FirstOpen) → opens_left [] (opens ++ []) ≡ opens
opens_all opens = ap (opens_left []) (append-nil opens) ∙ filter-true opens

-- the first opens of one transaction end
pub opens_but : (id : Id) (opens : List FirstOpen) → opens_left (id ∷ []) opens ≡ filter (λ f. not (same_id f.transaction id)) opens
opens_but id opens i = filter (λ (f : FirstOpen). not (or-false (same_id f.transaction id) i)) opens

-- ---- resource managers

-- none is sent anything, and none is made
pub served-none : (ms : List Manager) → map (served None []) (ms ++ []) ≡ ms
served-none [] = refl
served-none (m ∷ ms) = λ i. record m { queue = append-nil m.queue i } ∷ served-none ms i

-- notifications of one sending and of another
notes-append : (id : Id) (one two : List Sent) → notes_for id (one ++ two) ≡ notes_for id one ++ notes_for id two
notes-append id [] two = refl
notes-append id (s ∷ ss) two = elim (cases_Bool (same_id s.manager id)) [
  | inl its ↦ rw its (ap (λ notes. s.note ∷ notes) (notes-append id ss two))
  | inr other ↦ rw other (notes-append id ss two)
]

-- they are served one after the other
served-both : (took : Option Id) (one two : List Sent) (ms : List Manager) → map (served took (one ++ two)) ms ≡ map (served None two) (map (served took one) ms)
served-both took one two [] = refl
served-both took one two (m ∷ ms) = λ i. record m { queue = queue m i } ∷ served-both took one two ms i
  where
    queue : (m : Manager) → (served took (one ++ two) m).queue ≡ (served None two (served took one m)).queue
    queue m =
        ap (λ notes. drop (taken_count m.id took) m.queue ++ notes) (notes-append m.id one two)
        ∙ sym (append_assoc (drop (taken_count m.id took) m.queue) (notes_for m.id one) (notes_for m.id two))

-- ---- what records, commits and sends nothing

pub apply-silent : (x : Present) (o : Outcome) → IsSilent o → apply x o ≡ with_parts x o
apply-silent x o silent i = record (with_parts x o) {
  recorded = recorded i;
  managers = managers i;
  files = files_with (committed i) (opens i) o.table;
  keys = record { store = (committed i).store; own = o.own };
}
  where
    recorded : after_events x.recorded o.events ≡ x.recorded
    recorded = ap (after_events x.recorded) silent.records

    managers : map (served o.took o.sent) (x.managers ++ o.made) ≡ x.managers
    managers =
        ap (λ (took : Option Id). map (served took o.sent) (x.managers ++ o.made)) silent.takes
        ∙ ap (λ (sent : List Sent). map (served None sent) (x.managers ++ o.made)) silent.sends
        ∙ ap (λ (ms : List Manager). map (served None []) (x.managers ++ ms)) silent.makes
        ∙ served-none x.managers

    committed : committed_with (committed_now x) o.works ≡ committed_now x
    committed = ap (committed_with (committed_now x)) silent.commits

    opens : first_opens_after x o ≡ opens_left o.forgotten x.files.first_opens
    opens = ap (λ (os : List Opening). opens_left o.forgotten (x.files.first_opens ++ map (first_open (committed_now x)) os)) silent.opens ∙ ap (opens_left o.forgotten) (append-nil x.files.first_opens)

-- where it ends no first opens
pub apply-kept : (x : Present) (o : Outcome) → IsSilent o → o.forgotten ≡ []
    → apply x o ≡ record x { transactions = o.transactions; files = record x.files { table = o.table }; keys = record x.keys { own = o.own }; handles = o.handles }
apply-kept x o silent all =
    apply-silent x o silent
    ∙ ap (λ (opens : List FirstOpen). record (with_parts x o) { files = record x.files { first_opens = opens; table = o.table } }) (ap (λ ids. opens_left ids x.files.first_opens) all ∙ filter-true x.files.first_opens)

-- a reply changes nothing
pub silent-reply : (x : Present) (reply : Reply) → IsSilent (only_reply x reply)
silent-reply x reply = record { records = refl; commits = refl; sends = refl; opens = refl; makes = refl; takes = refl }

pub apply-reply : (x : Present) (reply : Reply) → apply x (only_reply x reply) ≡ x
apply-reply x reply = apply-kept x (only_reply x reply) (silent-reply x reply) refl

-- ---- one after another

-- the second one is applied to what the first one leaves, but that the log has one group of both
pub apply-joined : (x : Present) (a b : Outcome) → a.openings ≡ [] → IsLater b → aside (apply x (joined a b)) ≡ aside (apply (apply x a) b)
apply-joined x a b none later i = record {
  machine = x.machine;
  recorded = empty_state 0 0;
  transactions = b.transactions;
  managers = managers i;
  files = files_with (committed i) (opens i) b.table;
  keys = record { store = (committed i).store; own = b.own };
  handles = b.handles;
}
  where
    managers : map (served a.took (a.sent ++ b.sent)) (x.managers ++ (a.made ++ b.made)) ≡ map (served b.took b.sent) (map (served a.took a.sent) (x.managers ++ a.made) ++ b.made)
    managers =
        ap (λ (ms : List Manager). map (served a.took (a.sent ++ b.sent)) (x.managers ++ (a.made ++ ms))) later.makes
        ∙ ap (λ (ms : List Manager). map (served a.took (a.sent ++ b.sent)) (x.managers ++ ms)) (append-nil a.made)
        ∙ served-both a.took a.sent b.sent (x.managers ++ a.made)
        ∙ sym (ap (map (served None b.sent)) (append-nil (map (served a.took a.sent) (x.managers ++ a.made))))
        ∙ sym (ap (λ (ms : List Manager). map (served None b.sent) (map (served a.took a.sent) (x.managers ++ a.made) ++ ms)) later.makes)
        ∙ sym (ap (λ (took : Option Id). map (served took b.sent) (map (served a.took a.sent) (x.managers ++ a.made) ++ b.made)) later.takes)

    committed : committed_with (committed_now x) (a.works ++ b.works) ≡ committed_with (committed_with (committed_now x) a.works) b.works
    committed = fold-append with_work (committed_now x) a.works b.works

    opens : first_opens_after x (joined a b) ≡ first_opens_after (apply x a) b
    opens =
        ap (λ (os : List Opening). opens_left (a.forgotten ++ b.forgotten) (x.files.first_opens ++ map (first_open (committed_now x)) os)) (ap (λ os. os ++ b.openings) none ∙ later.opens)
        ∙ both-forgotten a.forgotten b.forgotten (x.files.first_opens ++ [])
        ∙ ap (λ (os : List Opening). opens_left b.forgotten (opens_left a.forgotten (x.files.first_opens ++ map (first_open (committed_now x)) os))) (sym none)
        ∙ ap (opens_left b.forgotten) (sym (append-nil (apply x a).files.first_opens))
        ∙ ap (λ (os : List Opening). opens_left b.forgotten ((apply x a).files.first_opens ++ map (first_open (committed_now (apply x a))) os)) (sym later.opens)

-- what one does first, and a second on what is so then
pub apply-then : (x : Present) (a : Outcome) (next : Present → Outcome) → a.openings ≡ [] → IsLater (next (apply x a)) → aside (apply x (and_then x a next)) ≡ aside (apply (apply x a) (next (apply x a)))
apply-then x a next none later = apply-joined x a (next (apply x a)) none later

pub later-reply : (x : Present) (reply : Reply) → IsLater (only_reply x reply)
later-reply x reply = record { opens = refl; makes = refl; takes = refl }

-- two that open, make and take nothing do so together
pub later-joined : (a b : Outcome) → IsLater a → IsLater b → IsLater (joined a b)
later-joined a b first second = record {
  opens = ap (λ os. os ++ b.openings) first.opens ∙ second.opens;
  makes = ap (λ ms. ms ++ b.made) first.makes ∙ second.makes;
  takes = first.takes;
}
