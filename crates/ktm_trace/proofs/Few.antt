-- How many transactions and parts there are: of what was recorded, once a step is recorded, and as they stand in memory.
use Rattle.std.proofs.Common.{◌≡◌, ℕ, ◌+◌, ◌*◌, ◌<◌, ◌≤◌, ◌&&◌, not, Bool, true, false, List, [], ◌∷◌, cond, length, map, sum_by, nat_le, Option, Some, None, refl, sym, ap, subst, arith, inl, inr}
use Rattle.std.specs.Prelude.{if◌then◌else◌}
use Rattle.std.specs.List.{list_all, list_any}
use Rattle.std.proofs.lemmas.Bool.{and_parts, cases_Bool, leb-true}
use Rattle.std.proofs.lemmas.Option.{none-some}
use Rattle.std.proofs.lemmas.List.{length-append, length-map}
use Rattle.std.proofs.lemmas.List.Sums.{sum_by-cons}
use Rattle.ktm_base.specs.declared.id.Id.{Id}
use Rattle.ktm_base.specs.declared.limits.TheConstants.{MOST_LIVE}
use Rattle.ktm_world.specs.declared.event.DonePart.{DonePart}
use Rattle.ktm_world.specs.declared.event.Part.{Part}
use Rattle.ktm_world.specs.declared.recorded.RecordedPart.{RecordedPart}
use Rattle.ktm_world.specs.declared.recorded.Stage.{Stage}
use Rattle.ktm_world.specs.declared.step.Fact.{Fact}
use Rattle.ktm_world.specs.Durable.{Durable, Recorded, changes_in_wait, enlistments_in, enlistments_in_use, enlistments_of, is_part_of, is_within_limits, keys_in_use, nodes_in_use, superior_ids, units_in_use}
use Rattle.ktm_world.specs.Transactions.{same_id}
use Rattle.txf_laws.proofs.offered.Elements.{length-filter-less}
use Rattle.txf_laws.proofs.offered.Sums.{count-cons, sum-filter-less}
use Rattle.txf_laws.proofs.offered.Tables.{same_id-equal, same_id-from}
use Rattle.txf_laws.specs.GoodState.{has_one_part_each}
use Rattle.txf_laws.proofs.offered.Parts.{count_among, gathered}
use Rattle.ktm_trace.specs.declared.heads.Head.{Head}
use Rattle.ktm_trace.specs.declared.marks.Mark.{Mark}
use Rattle.ktm_trace.specs.declared.recording.Recording.{Recording}
use Rattle.ktm_trace.specs.declared.room.TheConstants.{MOST_HEADS, MOST_MARKS}
use Rattle.ktm_trace.specs.Few.{FewLaw, HasMore, HasRoom, parts_in}
use Rattle.ktm_trace.specs.Joined.{AreJoined, head_id, is_mark_of, joined, joined_all, parts_at}
use Rattle.ktm_trace.specs.Placed.{Rises, at_id, placed, without_id}
use Rattle.ktm_trace.specs.Recordings.{noted, room_of, with_it}
use Rattle.ktm_trace.specs.Traces.{Traced, TracedPart, id_of, marked, new_traced, once_decided, once_done, once_held, once_ready, same_participant, stays_while_not_done, traced, traced_or, traced_or_new, traced_part, waiting_for, with_ready, without_done}
use Rattle.ktm_trace.proofs.Placed.{found-id, length-changed, length-placed, sum-changed, sum-placed}

-- ---- of what was recorded

-- each part is an enlistment's, the files' or the keys'
abbrev IsOfThree : List RecordedPart → Type 0
IsOfThree ps = length ps ≡ length (gathered enlistments_in ps) + count_among (is_part_of DonePart.Files) ps + count_among (is_part_of DonePart.Keys) ps

one-of-three : (part : Part) → ◌≡◌ {A = ℕ} (length (enlistments_in part) + cond (is_part_of DonePart.Files part) 1 0 + cond (is_part_of DonePart.Keys part) 1 0) 1
one-of-three (Part.Enlistment enlistment manager information) = refl
one-of-three (Part.Changes changes) = refl
one-of-three (Part.Settings settings) = refl

of-three : (ps : List RecordedPart) → IsOfThree ps
of-three [] = refl
of-three (p ∷ ps) =
    let one = one-of-three p.part in
    let rest = of-three ps in
    let listed = length-append (enlistments_in p.part) (gathered enlistments_in ps) in
    let files = count-cons (λ (q : RecordedPart). is_part_of DonePart.Files q.part) p ps in
    let keys = count-cons (λ (q : RecordedPart). is_part_of DonePart.Keys q.part) p ps in
    omega arith

recorded-parts : (t : Recorded) → has_one_part_each t ≡ true → length t.parts ≤ length (enlistments_of t) + 2
recorded-parts t one_each =
    let both = and_parts (nat_le (count_among (is_part_of DonePart.Files) t.parts) 1) (nat_le (count_among (is_part_of DonePart.Keys) t.parts) 1) one_each in
    let files = leb-true _ _ both.0 in
    let keys = leb-true _ _ both.1 in
    let all = of-three t.parts in
    let listed = length-append (superior_ids t.superior) (gathered enlistments_in t.parts) in
    omega arith

traced-parts : (ts : List Recorded) → list_all has_one_part_each ts ≡ true → parts_in (map traced ts) ≤ sum_by (λ (t : Recorded). length (enlistments_of t)) ts + 2 * length ts
traced-parts [] one_each = omega arith
traced-parts (t ∷ ts) one_each =
    let both = and_parts (has_one_part_each t) (list_all has_one_part_each ts) one_each in
    let one = recorded-parts t both.0 in
    let rest = traced-parts ts both.1 in
    let same = length-map t.parts traced_part in
    let new = sum_by-cons (λ (u : Traced). length u.parts) (traced t) (map traced ts) in
    let old = sum_by-cons (λ (u : Recorded). length (enlistments_of u)) t ts in
    omega arith

limited : (s : Durable) → is_within_limits s ≡ true → (length s.transactions ≤ MOST_LIVE) × (enlistments_in_use s ≤ MOST_LIVE)
unfolding is_within_limits
limited s limits =
    let waiting = nat_le (units_in_use s) s.units && nat_le (nodes_in_use s) s.units && nat_le (keys_in_use s) s.units && nat_le (changes_in_wait s) s.units in
    let all = and_parts (waiting && nat_le (length s.transactions) MOST_LIVE && nat_le (enlistments_in_use s) MOST_LIVE) (nat_le (length s.managers) MOST_LIVE) limits in
    let both = and_parts (waiting && nat_le (length s.transactions) MOST_LIVE) (nat_le (enlistments_in_use s) MOST_LIVE) all.0 in
    let first = and_parts waiting (nat_le (length s.transactions) MOST_LIVE) both.0 in
    (leb-true _ _ first.1, leb-true _ _ both.1)

pub few_law : FewLaw
few_law s good =
    let limits = limited s good.limits in
    let many = limits.0 in
    let enlisted = limits.1 in
    let same = length-map s.transactions traced in
    let parts = traced-parts s.transactions good.parts in
    record {
      transactions = omega arith;
      parts = omega arith;
    }

-- ---- once a step is recorded

same-more : (many : ℕ) (ts : List Traced) → HasMore many ts ts
same-more many ts = record { transactions = omega arith; parts = omega arith }

without-more : (ts : List Traced) (id : Id) → HasMore 0 ts (without_id id_of ts id)
without-more ts id =
    let fewer = length-filter-less (λ (t : Traced). not (same_id t.id id)) ts in
    let less = sum-filter-less (λ (t : Traced). length t.parts) (λ (t : Traced). not (same_id t.id id)) ts in
    record { transactions = omega arith; parts = omega arith }

-- one is put in place of the one with its Id, with at most so many parts more
changed-more : (many : ℕ) (ts : List Traced) (t u : Traced) → Rises id_of ts → at_id id_of ts u.id ≡ Some t → length u.parts ≤ length t.parts + many → HasMore many ts (placed id_of ts u)
changed-more many ts t u rises found few =
    let same = length-changed id_of ts u t rises found in
    let parts = sum-changed id_of (λ (v : Traced). length v.parts) ts u t rises found in
    record { transactions = omega arith; parts = omega arith }

-- the Id of the one that was found is the one that was sought
found-itself : (ts : List Traced) (id : Id) (t : Traced) → at_id id_of ts id ≡ Some t → at_id id_of ts t.id ≡ Some t
found-itself ts id t found = subst (λ i. at_id id_of ts i ≡ Some t) (sym (found-id id_of ts id t found)) found

stays-more : (ts : List Traced) (t u : Traced) → Rises id_of ts → at_id id_of ts u.id ≡ Some t → length u.parts ≤ length t.parts → HasMore 0 ts (stays_while_not_done ts u)
stays-more ts t u rises found few = elim (cases_Bool (list_any (λ (p : TracedPart). not p.is_done) u.parts)) [
  | inl stays ↦ rw stays (changed-more 0 ts t u rises found (omega arith))
  | inr over ↦ rw over (without-more ts u.id)
]

decided-more : (ts : List Traced) (id : Id) (o : Option Traced) → Rises id_of ts → at_id id_of ts id ≡ o → HasMore 0 ts (once_decided ts o)
decided-more ts id None rises found = same-more 0 ts
decided-more ts id (Some t) rises found = stays-more ts t (record t { stage = Stage.Decided }) rises (found-itself ts id t found) (omega arith)

without-done-less : (done : DonePart) (ps : List TracedPart) → length (without_done done ps) ≤ length ps
without-done-less (DonePart.Enlistment id) ps = length-filter-less (λ (p : TracedPart). not (same_participant (DonePart.Enlistment id) p.who)) ps
without-done-less DonePart.Files ps = let same = length-map ps (marked DonePart.Files) in omega arith
without-done-less DonePart.Keys ps = let same = length-map ps (marked DonePart.Keys) in omega arith

done-more : (ts : List Traced) (id : Id) (done : DonePart) (o : Option Traced) → Rises id_of ts → at_id id_of ts id ≡ o → HasMore 0 ts (once_done ts done o)
done-more ts id done None rises found = same-more 0 ts
done-more ts id done (Some t) rises found = stays-more ts t (record t { parts = without_done done t.parts }) rises (found-itself ts id t found) (without-done-less done t.parts)

-- one that is there, or a new one, is put at its place with at most one part more
put-more : (ts : List Traced) (id : Id) (change : Traced → Traced) → Rises id_of ts → ((t : Traced) → (change t).id ≡ t.id) → ((t : Traced) → length (change t).parts ≤ length t.parts + 1)
    → HasMore 1 ts (placed id_of ts (change (traced_or_new ts id)))
put-more ts id change rises itself few = go (at_id id_of ts id) refl
  where
    go : (o : Option Traced) → at_id id_of ts id ≡ o → HasMore 1 ts (placed id_of ts (change (traced_or id o)))
    go None none =
        let one : length (change (new_traced id)).parts ≤ 0 + 1 = few (new_traced id) in
        let parts = sum-placed id_of (λ (t : Traced). length t.parts) ts (change (new_traced id)) in
        record { transactions = length-placed id_of ts (change (new_traced id)); parts = omega arith }
    go (Some t) found = changed-more 1 ts t (change t) rises (subst (λ i. at_id id_of ts i ≡ Some t) (sym (itself t)) (found-itself ts id t found)) (few t)

ready-more : (ts : List Traced) (id : Id) (who : DonePart) → Rises id_of ts → HasMore 1 ts (once_ready ts id who)
ready-more ts id who rises = put-more ts id (λ t. with_ready t who) rises (λ t. refl) (λ t. let more = length-append t.parts (record { is_done = false; who = who } ∷ []) in omega arith)

held-more : (ts : List Traced) (id superior : Id) → Rises id_of ts → HasMore 1 ts (once_held ts id superior)
held-more ts id superior rises = put-more ts id (λ t. waiting_for t superior) rises (λ t. refl) (λ t. omega arith)

if-more : (many : ℕ) (b : Bool) (ts us : List Traced) → HasMore many ts us → HasMore many ts (if b then us else ts)
if-more many true ts us more = more
if-more many false ts us more = same-more many ts

with-more : (many : ℕ) (o : Option Id) (ts : List Traced) (f : Id → List Traced) → ((id : Id) → HasMore many ts (f id)) → HasMore many ts (with_it o ts f)
with-more many None ts f more = same-more many ts
with-more many (Some id) ts f more = more id

pub noted-more : (r : Recording) (fact : Fact) (ts : List Traced) → Rises id_of ts → HasMore (room_of fact) ts (noted r fact ts)
noted-more r Fact.ReadyFiles ts rises = if-more 1 r.has_files ts _ (ready-more ts r.transaction DonePart.Files rises)
noted-more r Fact.ReadyKeys ts rises = if-more 1 r.has_keys ts _ (ready-more ts r.transaction DonePart.Keys rises)
noted-more r Fact.Ready ts rises = with-more 1 r.caller ts _ (λ id. ready-more ts r.transaction (DonePart.Enlistment id) rises)
noted-more r Fact.Held ts rises = with-more 1 r.superior ts _ (λ id. held-more ts r.transaction id rises)
noted-more r Fact.Decide ts rises = if-more 0 r.is_recorded ts _ (decided-more ts r.transaction _ rises refl)
noted-more r Fact.Undo ts rises = if-more 0 r.is_recorded ts _ (without-more ts r.transaction)
noted-more r Fact.DoneFiles ts rises = if-more 0 r.has_files ts _ (done-more ts r.transaction DonePart.Files _ rises refl)
noted-more r Fact.DoneKeys ts rises = if-more 0 r.has_keys ts _ (done-more ts r.transaction DonePart.Keys _ rises refl)
noted-more r Fact.Done ts rises = with-more 0 r.caller ts _ (λ id. done-more ts r.transaction (DonePart.Enlistment id) _ rises refl)
noted-more r Fact.SingleFiles ts rises = same-more 0 ts
noted-more r Fact.SingleKeys ts rises = same-more 0 ts

-- ---- as they stand in memory

part-before : (ms : List Mark) (m : Mark) (id : Id) → length (parts_at ms id) ≤ length (parts_at (m ∷ ms) id)
part-before ms m id = elim (cases_Bool (is_mark_of id m)) [ inl is ↦ rw is (omega arith) | inr other ↦ rw other (omega arith) ]

parts-before : (hs : List Head) (ms : List Mark) (m : Mark) → parts_in (joined_all hs ms) ≤ parts_in (joined_all hs (m ∷ ms))
parts-before [] ms m = omega arith
parts-before (h ∷ hs) ms m =
    let one = part-before ms m h.id in
    let rest = parts-before hs ms m in
    let old = sum_by-cons (λ (t : Traced). length t.parts) (joined ms h) (joined_all hs ms) in
    let new = sum_by-cons (λ (t : Traced). length t.parts) (joined (m ∷ ms) h) (joined_all hs (m ∷ ms)) in
    omega arith

-- a part of one that is there counts
part-counts : (hs : List Head) (ms : List Mark) (m : Mark) (h : Head) → at_id head_id hs m.transaction ≡ Some h → parts_in (joined_all hs ms) + 1 ≤ parts_in (joined_all hs (m ∷ ms))
part-counts [] ms m h found = absurd (none-some h found)
part-counts (a ∷ hs) ms m h found =
    let old = sum_by-cons (λ (t : Traced). length t.parts) (joined ms a) (joined_all hs ms) in
    let new = sum_by-cons (λ (t : Traced). length t.parts) (joined (m ∷ ms) a) (joined_all hs (m ∷ ms)) in
    elim (cases_Bool (same_id a.id m.transaction)) [
      | inl same ↦
          let its : is_mark_of a.id m ≡ true = same_id-from m.transaction a.id (sym (same_id-equal a.id m.transaction same)) in
          let one : length (parts_at (m ∷ ms) a.id) ≡ length (parts_at ms a.id) + 1 = rw its (omega arith) in
          let rest = parts-before hs ms m in
          omega arith
      | inr other ↦
          let one = part-before ms m a.id in
          let rest = part-counts hs ms m h (rw other at found) in
          omega arith
    ]

none-less : (ps qs : List TracedPart) → length ps ≤ length qs → qs ≡ [] → ps ≡ []
none-less [] qs less none = refl
none-less (p ∷ ps) qs less none = let zero = ap length none in absurd (omega arith)

-- each part that there is is one of a transaction
all-count : (hs : List Head) (ms : List Mark) → ((id : Id) → at_id head_id hs id ≡ None → parts_at ms id ≡ []) → length ms ≤ parts_in (joined_all hs ms)
all-count hs [] known = omega arith
all-count hs (m ∷ ms) known = first (at_id head_id hs m.transaction) refl (all-count hs ms (λ id none. none-less (parts_at ms id) (parts_at (m ∷ ms) id) (part-before ms m id) (known id none)))
  where
    first : (o : Option Head) → at_id head_id hs m.transaction ≡ o → length ms ≤ parts_in (joined_all hs ms) → length (m ∷ ms) ≤ parts_in (joined_all hs (m ∷ ms))
    first None none rest =
        let its : is_mark_of m.transaction m ≡ true = same_id-from m.transaction m.transaction refl in
        let zero = ap length (known m.transaction none) in
        let one : length (parts_at (m ∷ ms) m.transaction) ≡ length (parts_at ms m.transaction) + 1 = rw its (omega arith) in
        absurd (omega arith)
    first (Some h) found rest = let counted = part-counts hs ms m h found in omega arith

-- there is room for one more once one is taken out
pub head-fits : (hs : List Head) (ms : List Mark) (id : Id) (hs' : List Head) (places : ℕ) → HasRoom (joined_all hs ms) → MOST_HEADS ≤ places → hs' ≡ without_id head_id hs id → length hs' < places
head-fits hs ms id hs' places room all left =
    let same = length-map hs (joined ms) in
    let few = length-filter-less (λ (h : Head). not (same_id h.id id)) hs in
    let are = ap length left in
    omega (arith, room.transactions)

-- there is room for one part more
pub mark-fits : (hs : List Head) (ms : List Mark) (places : ℕ) → AreJoined hs ms → HasRoom (joined_all hs ms) → MOST_MARKS ≤ places → length ms < places
mark-fits hs ms places are room all = let counted = all-count hs ms are.known in omega (arith, room.parts)
