-- How many bytes the transactions of a durable state take in a snapshot, by what they wait to commit.
use Rattle.std.proofs.Common.{◌≡◌, ℕ, ◌+◌, ◌*◌, ◌≤◌, ◌||◌, not, false, is_some, is_none, nat_le, count_by, List, [], ◌∷◌, filter, length, length-append, sum_by, Option, Some, None, refl, sym, ◌∙◌, ap, arith, inl, inr}
use Rattle.std.proofs.lemmas.Bool.{and_parts, cases_Bool, leb-true, not-true, or_cases, true≢false}
use Rattle.std.proofs.lemmas.List.Sums.{length-filter, sum_by-append, sum_by-cons}
use Rattle.std.specs.List.{flat_map}
use Rattle.ktm_base.specs.declared.limits.TheConstants.{MOST_INFORMATION_BYTES}
use Rattle.ktm_world.specs.declared.event.DonePart.{DonePart}
use Rattle.ktm_world.specs.declared.event.Part.{Part}
use Rattle.ktm_world.specs.declared.event.Part.TheVariants.{Enlistment, Changes, Settings}
use Rattle.ktm_world.specs.declared.recorded.RecordedPart.{RecordedPart}
use Rattle.ktm_world.specs.declared.recorded.Superior.{Superior}
use Rattle.ktm_world.specs.Sizes.{change_size, part_size, setting_size}
use Rattle.ktm_world.specs.Changes.{changes_bytes, nodes_made}
use Rattle.ktm_world.specs.Durable.{Durable, Recorded, are_recorded_changes, changes_in, changes_of, enlistments_in, enlistments_of, has_changes_part, is_decided, is_part_of, settings_in, settings_of, superior_ids, units_waiting}
use Rattle.txf_laws.specs.Elements.{IsIn}
use Rattle.txf_laws.specs.FinalChanges.{names_of}
use Rattle.txf_laws.proofs.offered.Diamonds.{IsIn-right}
use Rattle.txf_laws.proofs.offered.Lists.{IsIn-left}
use Rattle.txf_laws.proofs.offered.Sums.{count-cons, one_where}
use Rattle.txf_laws.specs.GoodState.{enlisted, enlisted_in, superiors_in}
use Rattle.txf_laws.proofs.offered.GoodTransactions.{Core, waits}
use Rattle.txf_laws.proofs.offered.WaitingChanges.{no_changes-left, no_changes_part, no_settings-left, settings-of-good}
use Rattle.ktm_snapshot.specs.Sizes.{marked_size, superior_size, transaction_size}
use Rattle.ktm_room.proofs.offered.ChangeSizes.{changes-size}
use Rattle.ktm_room.proofs.GivenBytes.{given-units}
use Rattle.ktm_room.proofs.offered.SettingSizes.{settings-size}

-- ---- parts

-- the recovery information of each is within the limit
abbrev AreBrief : List Superior → Type 0
AreBrief es = (e : Superior) → IsIn e es → length e.information ≤ MOST_INFORMATION_BYTES

-- how many parts are the files', and how many the keys'
abbrev lists_in : List RecordedPart → ℕ
lists_in ps = count_by (λ p. is_part_of DonePart.Files p.part) ps + count_by (λ p. is_part_of DonePart.Keys p.part) ps

one-part : (part : Part) → AreBrief (enlisted_in part)
    → 1 + part_size part ≤ 147 * length (enlistments_in part) + 6 * (one_where (is_part_of DonePart.Files) part + one_where (is_part_of DonePart.Keys) part) + sum_by change_size (changes_in part) + sum_by setting_size (settings_in part)
one-part (Enlistment enlistment manager information) brief = let short = brief (record { enlistment = enlistment; manager = manager; information = information }) (inl refl) in omega (arith, short)
one-part (Changes changes) brief = omega arith
one-part (Settings settings) brief = omega arith

parts-size : (ps : List RecordedPart) → AreBrief (flat_map (λ p. enlisted_in p.part) ps)
    → sum_by marked_size ps ≤ 147 * length (flat_map (λ p. enlistments_in p.part) ps) + 6 * lists_in ps + sum_by change_size (flat_map (λ p. changes_in p.part) ps) + sum_by setting_size (flat_map (λ p. settings_in p.part) ps)
parts-size [] brief = omega arith
parts-size (p ∷ ps) brief =
    let one = one-part p.part (λ e there. brief e (IsIn-left e (enlisted_in p.part) (flat_map (λ p. enlisted_in p.part) ps) there)) in
    let rest = parts-size ps (λ e there. brief e (IsIn-right e (enlisted_in p.part) (flat_map (λ p. enlisted_in p.part) ps) there)) in
    let all = sum_by-cons marked_size p ps in
    let enlistments = length-append (enlistments_in p.part) (flat_map (λ p. enlistments_in p.part) ps) in
    let files = count-cons (λ (p : RecordedPart). is_part_of DonePart.Files p.part) p ps in
    let keys = count-cons (λ (p : RecordedPart). is_part_of DonePart.Keys p.part) p ps in
    let changes = sum_by-append change_size (changes_in p.part) (flat_map (λ p. changes_in p.part) ps) in
    let settings = sum_by-append setting_size (settings_in p.part) (flat_map (λ p. settings_in p.part) ps) in
    omega (arith, one, rest, all, enlistments, files, keys, changes, settings)

superior-size : (o : Option Superior) → AreBrief (superiors_in o) → superior_size o ≤ 1 + 147 * length (superior_ids o)
superior-size None brief = omega arith
superior-size (Some superior) brief = let short = brief superior (inl refl) in omega (arith, short)

-- ---- one transaction

module _ (s : Durable) where
  -- a transaction takes this much beside what it waits to commit
  alone-size : (t : Recorded) → Core s t → transaction_size t ≤ 26 + 147 * length (enlistments_of t) + sum_by change_size (changes_of t) + sum_by setting_size (settings_of t)
  alone-size t core =
      let brief : AreBrief (enlisted t) = λ e there. leb-true (length e.information) MOST_INFORMATION_BYTES (core.enlistments e there).information in
      let parts = flat_map (λ (p : RecordedPart). enlisted_in p.part) t.parts in
      let superior = superior-size t.superior (λ e there. brief e (IsIn-left e (superiors_in t.superior) parts there)) in
      let all = parts-size t.parts (λ e there. brief e (IsIn-right e (superiors_in t.superior) parts there)) in
      let enlistments = length-append (superior_ids t.superior) (flat_map (λ p. enlistments_in p.part) t.parts) in
      let once = and_parts (nat_le (count_by (λ p. is_part_of DonePart.Files p.part) t.parts) 1) (nat_le (count_by (λ p. is_part_of DonePart.Keys p.part) t.parts) 1) core.parts in
      let files = leb-true (count_by (λ p. is_part_of DonePart.Files p.part) t.parts) 1 once.0 in
      let keys = leb-true (count_by (λ p. is_part_of DonePart.Keys p.part) t.parts) 1 once.1 in
      omega (arith, superior, all, enlistments, files, keys)

  -- what a transaction waits to change
  waiting-changes : (t : Recorded) → Core s t → is_decided t.stage ≡ false
      → sum_by change_size (changes_of t) ≤ 274 * count_by (λ change. not (changes_bytes change)) (changes_of t) + 46 * (length s.tree + nodes_made (changes_of t)) + 4 * units_waiting s t
  waiting-changes t core waits' = elim (or_cases (is_decided t.stage || not (has_changes_part t)) (are_recorded_changes (changes_of t)) (and_parts _ (is_decided t.stage || not (has_changes_part t) || are_recorded_changes (changes_of t)) core.changes).1) [
    | inl rest ↦ elim (or_cases (is_decided t.stage) (not (has_changes_part t)) rest) [
      | inl decided ↦ absurd (true≢false (sym decided ∙ waits'))
      | inr none ↦ (let same = ap (sum_by change_size) (no_changes_part t (not-true _ none)) in omega (arith, same))
    ]
    | inr recorded ↦ (
        let cs = changes_of t in
        let given = given-units s.tree cs recorded core.puts core.apply in
        let all = changes-size s.tree cs given.0 given.1 core.apply in
        let names : length (names_of cs) ≡ count_by (λ change. not (changes_bytes change)) cs = length-filter (λ change. not (changes_bytes change)) cs in
        let units = given.2 in
        omega (arith, all, names, units))
  ]

  waiting-settings : (t : Recorded) → Core s t → sum_by setting_size (settings_of t) ≤ 1028 * count_by (λ setting. is_some setting.value) (settings_of t) + 66 * count_by (λ setting. is_none setting.value) (settings_of t)
  waiting-settings t core = settings-size (settings_of t) (settings-of-good t core.settings)

  -- ---- all transactions

  -- the changes and the unset keys that wait
  abbrev pub changes_by : Recorded → ℕ
  changes_by t = count_by (λ change. not (changes_bytes change)) (changes_of t) + count_by (λ setting. is_none setting.value) (settings_of t)

  pub transactions-size : (ts : List Recorded) → ((t : Recorded) → IsIn t ts → Core s t)
      → sum_by transaction_size ts ≤ 26 * length ts + 147 * sum_by (λ t. length (enlistments_of t)) ts + 274 * sum_by changes_by (filter waits ts)
      + 46 * (length s.tree * length ts + sum_by (λ t. nodes_made (changes_of t)) (filter waits ts)) + 4 * sum_by (units_waiting s) (filter waits ts)
      + 1028 * sum_by (λ t. count_by (λ setting. is_some setting.value) (settings_of t)) (filter waits ts)
  transactions-size [] core = omega arith
  transactions-size (t ∷ ts) core =
      let here = core t (inl refl) in
      let rest = transactions-size ts (λ u there. core u (inr there)) in
      let one = alone-size t here in
      let all = sum_by-cons transaction_size t ts in
      let enlistments = sum_by-cons (λ (t : Recorded). length (enlistments_of t)) t ts in
      elim (cases_Bool (is_decided t.stage)) [
        | inl decided ↦
            (let changes = ap (sum_by change_size) (no_changes-left t here.changes decided) in
            let settings = ap (sum_by setting_size) (no_settings-left t here.settings decided) in
            rw decided (omega (arith, rest, one, all, enlistments, changes, settings)))
        | inr waits' ↦
            (let changes = waiting-changes t here waits' in
            let settings = waiting-settings t here in
            let left = filter waits ts in
            let a = sum_by-cons changes_by t left in
            let b = sum_by-cons (λ (t : Recorded). nodes_made (changes_of t)) t left in
            let c = sum_by-cons (units_waiting s) t left in
            let d = sum_by-cons (λ (t : Recorded). count_by (λ setting. is_some setting.value) (settings_of t)) t left in
            rw waits' (omega (arith, rest, one, all, enlistments, changes, settings, a, b, c, d)))
      ]
