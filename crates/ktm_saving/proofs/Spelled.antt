-- What a kept machine recorded has bytes.
use Rattle.std.proofs.Common.{◌≡◌, ℕ, ◌+◌, ◌<◌, ◌≤◌, ◌^◌, ◌==◌, ◌&&◌, not, true, nat_le, nat_lt, List, [], ◌∷◌, IfSome, length, map, sum_by, Option, Some, None, refl, subst, arith, inl, inr}
use Rattle.std.proofs.lemmas.Bool.{and_parts, cases_Bool, leb-true, ltb-false, not-true, or_parts}
use Rattle.std.proofs.lemmas.List.Elements.{All-map, All-nil}
use Rattle.std.proofs.lemmas.List.Sums.{sum_by-cons}
use Rattle.std.specs.List.{flat_map}
use Rattle.ktm_base.specs.declared.limits.TheConstants.{MOST_INFORMATION_BYTES, MOST_NUMBER, MOST_UNITS}
use Rattle.ktm_base.specs.declared.id.Id.{Id}
use Rattle.ktm_base.specs.Names.{IsName}
use Rattle.ktm_content.specs.Contents.{units_of}
use Rattle.ktm_event.specs.Spelling.{AreSpellableChanges, AreSpellableSettings, IsSpellableId, IsSpellablePart, IsSpellableRecord}
use Rattle.ktm_keyed.specs.declared.keyed.Keyed.{Keyed}
use Rattle.ktm_world.specs.declared.change.Change.{Change}
use Rattle.ktm_world.specs.declared.event.DonePart.{DonePart}
use Rattle.ktm_world.specs.declared.recorded.Node.{Node}
use Rattle.ktm_world.specs.declared.recorded.RecordedPart.{RecordedPart}
use Rattle.ktm_world.specs.declared.recorded.Stage.{Stage}
use Rattle.ktm_world.specs.declared.recorded.Superior.{Superior}
use Rattle.ktm_world.specs.Sizes.{area_len}
use Rattle.ktm_world.specs.Values.{IsText}
use Rattle.ktm_world.specs.Durable.{Durable, is_decided}
use Rattle.ktm_world.specs.Enlistments.{Enlistment}
use Rattle.ktm_world.specs.Keys.{OwnSettings, is_bad_key, is_bad_value}
use Rattle.ktm_world.specs.Transactions.{same_id}
use Rattle.txf_laws.specs.Contents.{is_good_entry}
use Rattle.txf_laws.specs.Elements.{IsIn}
use Rattle.txf_laws.proofs.offered.CommitsOfOthers.{All-by, All-in}
use Rattle.txf_laws.proofs.offered.Diamonds.{IsIn-map, IsIn-right}
use Rattle.txf_laws.proofs.offered.Elements.{IsIn-flat_map, list_all-at, list_any-at}
use Rattle.txf_laws.proofs.offered.Lists.{IsIn-left}
use Rattle.txf_laws.proofs.offered.Sums.{sum-one}
use Rattle.txf_laws.proofs.offered.Tables.{same_id-equal}
use Rattle.txf_laws.specs.GoodState.{IsGoodState, enlisted, enlisted_in, is_drawn, is_of_object, superiors_in}
use Rattle.txf_laws.proofs.offered.GoodTransactions.{IsEnlisted, table-of}
use Rattle.ktm_records.specs.Kept.{IsKept}
use Rattle.ktm_records.specs.Spelling.{AreTexts}
use Rattle.ktm_records.proofs.offered.DurableLimits.{limits-kept}
use Rattle.ktm_records.proofs.offered.OwnSizes.{spelled-owned}
use Rattle.ktm_snapshot.specs.Sizes.{contents_size, marked_size, node_size, state_size, transaction_size}
use Rattle.ktm_trace.specs.Contents.{contents_of}
use Rattle.ktm_trace.specs.Traces.{Traced, TracedPart}
use Rattle.ktm_memory.specs.Memory.{MemoryState, held, present_of}
use Rattle.ktm_saving.specs.Owned.{changes_left, part_with, recorded_in, settings_left}
use Rattle.ktm_saving.specs.Spellable.{IsSpellableEntry, IsSpellableMarked, IsSpellableNode, IsSpellableState, IsSpellableTransaction}

-- ---- Ids

spelled-id : (id : Id) → is_of_object id ≡ true → IsSpellableId id
spelled-id id is =
    let both = and_parts (nat_le 1 id.boot && nat_le 1 id.number) (nat_le id.number MOST_NUMBER) is in
    let from = and_parts (nat_le 1 id.boot) (nat_le 1 id.number) both.0 in
    record { boot_from = leb-true 1 id.boot from.0; number_from = leb-true 1 id.number from.1 }

drawn-spelled : (s : Durable) (id : Id) → is_drawn s id ≡ true → IsSpellableId id
drawn-spelled s id drawn = spelled-id id (and_parts (is_of_object id) (nat_le id.boot s.boots) drawn).0

-- an enlistment of a good state
enlisted-spelled : (s : Durable) → IsGoodState s → (e : Superior) → IsEnlisted s e → IsSpellableRecord e.enlistment e.manager e.information
enlisted-spelled s good e is =
    let at = list_any-at (λ (other : Id). same_id other e.manager) s.managers is.manager in
    let short = leb-true (length e.information) MOST_INFORMATION_BYTES is.information in
    record {
      enlisted = drawn-spelled s e.enlistment is.drawn;
      managed = subst IsSpellableId (same_id-equal at.0 e.manager at.2) (drawn-spelled s at.0 (list_all-at (is_drawn s) s.managers good.managers_drawn at.0 at.1));
      short = omega (arith, short);
    }

-- ---- files and keys

contents-spelled : (content : Option (List ℕ)) → contents_size content < 2 ^ 32 → IfSome content (λ contents. units_of contents < 2 ^ 32)
contents-spelled None small = tt
contents-spelled (Some contents) small = omega (arith, small)

node-spelled : (node : Node) → IsName node.name → node_size node < 2 ^ 32 → IsSpellableNode node
node-spelled node named small = let few = named.few in record { name = omega (arith, few); contents = contents-spelled node.content (omega (arith, small)) }

entry-spelled : (entry : Keyed (List ℕ)) → is_good_entry entry ≡ true → IsText entry.key → IsSpellableEntry entry
entry-spelled entry good text =
    let parts = and_parts (not (is_bad_key entry.key)) (not (is_bad_value entry.value)) good in
    let key = ltb-false 64 (length entry.key) (or_parts (length entry.key == 0) (nat_lt 64 (length entry.key)) (not-true (is_bad_key entry.key) parts.0)).1 in
    let value = ltb-false 960 (length entry.value) (not-true (is_bad_value entry.value) parts.1) in
    record { text = text; key = omega (arith, key); value = omega (arith, value) }

-- ---- transactions

superior-spelled : (s : Durable) → IsGoodState s → (o : Option Superior) → ((e : Superior) → IsIn e (superiors_in o) → IsEnlisted s e) → IfSome o (λ e. IsSpellableRecord e.enlistment e.manager e.information)
superior-spelled s good None each = tt
superior-spelled s good (Some e) each = enlisted-spelled s good e (each e (inl refl))

contents_of-spelled : (s : Durable) → IsGoodState s → (es : List Enlistment) (changes : List Change) (settings : OwnSettings) → AreSpellableChanges changes → AreSpellableSettings settings
    → (who : DonePart) → ((e : Superior) → IsIn e (enlisted_in (contents_of es changes settings who)) → IsEnlisted s e) → IsSpellablePart (contents_of es changes settings who)
contents_of-spelled s good es changes settings changed set (DonePart.Enlistment id) each = enlisted-spelled s good _ (each _ (inl refl))
contents_of-spelled s good es changes settings changed set DonePart.Files each = changed
contents_of-spelled s good es changes settings changed set DonePart.Keys each = set

few-parts : (ps : List RecordedPart) → length ps ≤ sum_by marked_size ps
few-parts [] = omega arith
few-parts (p ∷ ps) = let all = sum_by-cons marked_size p ps in let rest = few-parts ps in omega (arith, all, rest)

-- nothing has bytes
no-changes : AreSpellableChanges []
no-changes = record { few = omega arith; each = All-nil _ }

no-settings : AreSpellableSettings []
no-settings = record { rising = refl; few = omega arith; each = All-nil _ }

-- ---- the state

module _ (m : MemoryState) (kept : IsKept (present_of m)) (texts : AreTexts (present_of m)) (small : m.journal.units ≤ MOST_UNITS)
    (fits : 8 + state_size (present_of m).recorded ≤ area_len m.journal.units) where
  abbrev state : Durable
  state = (present_of m).recorded

  changes-spelled : (id : Id) (stage : Stage) → AreSpellableChanges (changes_left (held m).files.table.own id stage)
  changes-spelled id stage = elim (cases_Bool (is_decided stage)) [
    | inl decided ↦ rw decided no-changes
    | inr waits ↦ rw waits ((spelled-owned (present_of m) kept texts small).files id)
  ]

  settings-spelled : (id : Id) (stage : Stage) → AreSpellableSettings (settings_left m.keys.own id stage)
  settings-spelled id stage = elim (cases_Bool (is_decided stage)) [
    | inl decided ↦ rw decided no-settings
    | inr waits ↦ rw waits ((spelled-owned (present_of m) kept texts small).keys id)
  ]

  part-spelled : (t : Traced) (p : TracedPart) → IsIn p t.parts → ((e : Superior) → IsIn e (enlisted (recorded_in m t)) → IsEnlisted state e)
      → IsSpellableMarked (part_with m.tm.now.enlistments (changes_left (held m).files.table.own t.id t.stage) (settings_left m.keys.own t.id t.stage) p)
  part-spelled t p there each =
      let with_it = part_with m.tm.now.enlistments (changes_left (held m).files.table.own t.id t.stage) (settings_left m.keys.own t.id t.stage) in
      contents_of-spelled state kept.good m.tm.now.enlistments _ _ (changes-spelled t.id t.stage) (settings-spelled t.id t.stage) p.who (λ e has.
      each e (IsIn-right e (superiors_in (recorded_in m t).superior) (flat_map (λ (q : RecordedPart). enlisted_in q.part) (map with_it t.parts))
      (IsIn-flat_map (λ (q : RecordedPart). enlisted_in q.part) (map with_it t.parts) (with_it p) e (IsIn-map with_it p t.parts there) has)))

  transaction-spelled : (t : Traced) → IsIn t m.trace → IsSpellableTransaction (recorded_in m t)
  transaction-spelled t there =
      let one = recorded_in m t in
      let with_it = part_with m.tm.now.enlistments (changes_left (held m).files.table.own t.id t.stage) (settings_left m.keys.own t.id t.stage) in
      let at : IsIn one state.transactions = IsIn-map (recorded_in m) t m.trace there in
      let core = ((table-of state kept.good).fit one at).core in
      let whole = sum-one transaction_size state.transactions one at in
      let many = few-parts one.parts in
      record {
        id = drawn-spelled state t.id core.drawn;
        superior = superior-spelled state kept.good one.superior (λ e has. core.enlistments e (IsIn-left e (superiors_in one.superior) (flat_map (λ (q : RecordedPart). enlisted_in q.part) one.parts) has));
        parts = record {
          few = omega (arith, whole, many, fits, small);
          each = All-map IsSpellableMarked with_it t.parts (All-by (λ (p : TracedPart). IsSpellableMarked (with_it p)) t.parts (λ p is. part-spelled t p is core.enlistments));
        };
      }

  pub state-spelled : IsSpellableState state
  state-spelled =
      let limits = limits-kept state kept.good.limits in
      let in_nodes = limits.nodes in
      let in_keys = limits.keys in
      let in_managers = limits.managers in
      let in_transactions = limits.transactions in
      record {
        nodes = record {
          few = omega (arith, in_nodes, small);
          each = All-by IsSpellableNode state.tree (λ node there.
              let one = sum-one node_size state.tree node there in
              node-spelled node (All-in (λ (n : Node). IsName n.name) state.tree kept.good.files.names node there) (omega (arith, one, fits, small)));
        };
        entries = record {
          few = omega (arith, in_keys, small);
          each = All-by IsSpellableEntry state.keys (λ entry there.
              entry-spelled entry (list_all-at is_good_entry state.keys kept.good.keys_good entry there) (All-in (λ (e : Keyed (List ℕ)). IsText e.key) state.keys texts.store entry there));
        };
        managers = record {
          few = omega (arith, in_managers);
          each = All-by IsSpellableId state.managers (λ id there. drawn-spelled state id (list_all-at (is_drawn state) state.managers kept.good.managers_drawn id there));
        };
        transactions = record {
          few = omega (arith, in_transactions);
          each = All-map IsSpellableTransaction (recorded_in m) m.trace (All-by (λ (t : Traced). IsSpellableTransaction (recorded_in m t)) m.trace transaction-spelled);
        };
      }
