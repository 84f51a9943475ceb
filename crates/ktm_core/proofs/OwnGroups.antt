-- What the group of a restart leaves of what was recorded.
use Rattle.std.proofs.Common.{◌≡◌, ◌+◌, ◌++◌, not, Bool, true, false, List, [], ◌∷◌, Option, None, Some, refl, sym, ◌∙◌, subst, inl, inr}
use Rattle.std.proofs.lemmas.Bool.{cases_Bool}
use Rattle.std.specs.List.{flat_map, list_any}
use Rattle.ktm_base.specs.declared.id.Id.{Id}
use Rattle.ktm_world.specs.declared.event.DonePart.{DonePart}
use Rattle.ktm_world.specs.declared.event.Event.{Event}
use Rattle.ktm_world.specs.declared.event.Event.TheVariants.{Boot, Done}
use Rattle.ktm_world.specs.declared.recorded.RecordedPart.{RecordedPart}
use Rattle.ktm_world.specs.Durable.{Durable, Recorded, after_event, after_events, finish_recorded, has_undone, is_ready, parts_done, recorded_at, while_not_done}
use Rattle.ktm_world.specs.Transactions.{same_id}
use Rattle.ktm_world.specs.World.{done_if, own_events, own_group}
use Rattle.ktm_world.proofs.offered.Durables.{after_events-append}
use Rattle.txf_laws.proofs.offered.Elements.{each_pair-filter}
use Rattle.txf_laws.proofs.offered.Tables.{Rises, Rises-with_recorded, is_earlier}

-- the committed files and keys are the same, and transactions stand by rising Id where they did
pub record LeavesCommitted (s t : Durable) : Type 0 where
  pub tree : t.tree ≡ s.tree
  pub next_node : t.next_node ≡ s.next_node
  pub keys : t.keys ≡ s.keys
  pub rises : Rises s.transactions → Rises t.transactions

-- where that is so twice, it is so of the first and the last
leaves_both : (s t u : Durable) → LeavesCommitted s t → LeavesCommitted t u → LeavesCommitted s u
leaves_both s t u first second = record {
  tree = second.tree ∙ first.tree;
  next_node = second.next_node ∙ first.next_node;
  keys = second.keys ∙ first.keys;
  rises = λ rise. second.rises (first.rises rise);
}

-- a transaction that stays while a part of it is not done stands at its place
rises_while : (ts : List Recorded) (t : Recorded) → Rises ts → Rises (while_not_done ts t)
rises_while ts t rise = elim (cases_Bool (list_any (λ (p : RecordedPart). not p.is_done) t.parts)) [
  | inl stays ↦ rw stays (Rises-with_recorded ts t rise)
  | inr over ↦ rw over (each_pair-filter is_earlier (λ (u : Recorded). not (same_id u.id t.id)) ts rise)
]

-- a participant is done
leaves_done : (s : Durable) (id : Id) (done : DonePart) → LeavesCommitted s (after_event s (Done id done))
leaves_done s id done = go (recorded_at s.transactions id)
  where
    go : (found : Option Recorded) → LeavesCommitted s (record (finish_recorded s done found) { events = s.events + 1 })
    go None = record { tree = refl; next_node = refl; keys = refl; rises = λ rise. rise }
    go (Some t) = record { tree = refl; next_node = refl; keys = refl; rises = rises_while s.transactions (record t { parts = parts_done done t.parts }) }

-- where that is recorded
leaves_if : (b : Bool) (s : Durable) (id : Id) (done : DonePart) → LeavesCommitted s (after_events s (done_if b id done))
leaves_if true s id done = leaves_done s id done
leaves_if false s id done = record { tree = refl; next_node = refl; keys = refl; rises = λ rise. rise }

-- events, and then others
leaves_append : (s : Durable) (a b : List Event) → LeavesCommitted s (after_events s a) → LeavesCommitted (after_events s a) (after_events (after_events s a) b) → LeavesCommitted s (after_events s (a ++ b))
leaves_append s a b first second = subst (LeavesCommitted s) (sym (after_events-append s a b)) (leaves_both s (after_events s a) (after_events (after_events s a) b) first second)

-- the events of all transactions
leaves_all : (ts : List Recorded) (s : Durable) → LeavesCommitted s (after_events s (flat_map own_events ts))
leaves_all [] s = record { tree = refl; next_node = refl; keys = refl; rises = λ rise. rise }
leaves_all (t ∷ ts) s =
    let files = done_if (has_undone DonePart.Files t) t.id DonePart.Files in
    let keys = done_if (has_undone DonePart.Keys t) t.id DonePart.Keys in
    leaves_append s (own_events t) (flat_map own_events ts)
    (leaves_append s files keys (leaves_if (has_undone DonePart.Files t) s t.id DonePart.Files) (leaves_if (has_undone DonePart.Keys t) (after_events s files) t.id DonePart.Keys))
    (leaves_all ts (after_events s (own_events t)))

-- a boot takes transactions out that are ready
leaves_boot : (s : Durable) (boot : _) → LeavesCommitted s (after_event s (Boot boot))
leaves_boot s boot = record { tree = refl; next_node = refl; keys = refl; rises = each_pair-filter is_earlier (λ (t : Recorded). not (is_ready t.stage)) s.transactions }

-- the group of a restart
pub own_leaves_committed : (s : Durable) → LeavesCommitted s (after_events s (own_group s))
own_leaves_committed s =
    let booted = after_event s (Boot (s.boots + 1)) in
    leaves_both s booted (after_events s (own_group s)) (leaves_boot s (s.boots + 1)) (leaves_all s.transactions booted)
