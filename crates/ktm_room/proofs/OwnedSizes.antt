-- How many bytes what a transaction has to commit takes in a log, in a machine within its limits.
use Rattle.std.proofs.Common.{◌≡◌, ◌*◌, ◌≤◌, not, true, is_some, is_none, count_by, length, sum_by, Some, sym, subst, arith, inl, inr}
use Rattle.std.proofs.lemmas.List.Sums.{length-filter}
use Rattle.std.specs.List.{list_all}
use Rattle.ktm_base.specs.declared.id.Id.{Id}
use Rattle.ktm_world.specs.Sizes.{change_size, setting_size}
use Rattle.ktm_world.specs.Changes.{changes_apply, changes_bytes, nodes_made}
use Rattle.ktm_world.specs.Committed.{changes_to_commit}
use Rattle.ktm_world.specs.Files.{OwnChanges, bytes_seen, own_changes}
use Rattle.ktm_world.specs.FileUses.{file_changes_waiting, nodes_used, own_units, units_used}
use Rattle.ktm_world.specs.Keys.{Own, is_good_setting, own_settings}
use Rattle.ktm_world.specs.Present.{Present}
use Rattle.ktm_world.specs.Uses.{changes_waiting}
use Rattle.txf_laws.specs.Elements.{IsIn}
use Rattle.txf_laws.specs.FinalChanges.{names_of}
use Rattle.txf_laws.proofs.offered.CommitsOfOthers.{All-in}
use Rattle.txf_laws.proofs.offered.Elements.{list_all-at}
use Rattle.txf_laws.proofs.offered.Reservations.{own_changes-found}
use Rattle.txf_laws.proofs.offered.Sums.{sum-one}
use Rattle.ktm_owned.proofs.offered.OwnSettings.{own_settings-found, own_settings-good}
use Rattle.ktm_records.specs.Kept.{IsKept}
use Rattle.ktm_records.proofs.offered.NoMore.{Fits, fits-within}
use Rattle.ktm_room.proofs.offered.ChangeSizes.{changes-size}
use Rattle.ktm_room.proofs.offered.SettingSizes.{settings-size}

module _ (x : Present) (kept : IsKept x) where
  within : Fits x
  within = fits-within x kept.within

  entry-changes : (o : OwnChanges) → IsIn o x.files.table.own → sum_by change_size o.changes ≤ 324 * x.recorded.units
  unfolding changes_waiting file_changes_waiting nodes_used units_used
  entry-changes o there =
      let all = changes-size x.files.tree o.changes (bytes_seen x.files (Some o.transaction))
      (All-in (λ (o : OwnChanges). changes_to_commit o.changes (bytes_seen x.files (Some o.transaction)) ≡ o.changes) x.files.table.own kept.sound.files.own_final o there)
      (list_all-at (λ (o : OwnChanges). changes_apply x.files.tree o.changes) x.files.table.own kept.sound.files.own_apply o there) in
      let names : length (names_of o.changes) ≡ count_by (λ change. not (changes_bytes change)) o.changes = length-filter (λ change. not (changes_bytes change)) o.changes in
      let waiting = sum-one (λ (o : OwnChanges). count_by (λ change. not (changes_bytes change)) o.changes) x.files.table.own o there in
      let made = sum-one (λ (o : OwnChanges). nodes_made o.changes) x.files.table.own o there in
      let written = sum-one (own_units x.files) x.files.table.own o there in
      let changes = within.changes in
      let nodes = within.nodes in
      let units = within.units in
      omega (arith, all, names, waiting, made, written, changes, nodes, units)

  -- what a transaction changed of the files
  pub own_changes-size : (id : Id) → sum_by change_size (own_changes x.files.table.own id) ≤ 324 * x.recorded.units
  own_changes-size id = elim (own_changes-found x.files.table.own id) [
    | inl none ↦ subst (λ cs. sum_by change_size cs ≤ 324 * x.recorded.units) (sym none) (omega arith)
    | inr (o, there, is, changes) ↦ subst (λ cs. sum_by change_size cs ≤ 324 * x.recorded.units) changes (entry-changes o there)
  ]

  -- what it set of the keys
  pub own_settings-size : (id : Id) → sum_by setting_size (own_settings x.keys.own id) ≤ 1094 * x.recorded.units
  unfolding changes_waiting
  own_settings-size id = elim (own_settings-found x.keys.own id) [
    | inl none ↦ subst (λ ss. sum_by setting_size ss ≤ 1094 * x.recorded.units) (sym none) (omega arith)
    | inr (o, there, is, settings) ↦ subst (λ ss. sum_by setting_size ss ≤ 1094 * x.recorded.units) settings
        (let good = own_settings-good x.keys.own id kept.sound.keys.settings in
        let all = settings-size o.settings (subst (λ ss. list_all is_good_setting ss ≡ true) (sym settings) good.1) in
        let sets = sum-one (λ (o : Own). count_by (λ s. is_some s.value) o.settings) x.keys.own o there in
        let unsets = sum-one (λ (o : Own). count_by (λ s. is_none s.value) o.settings) x.keys.own o there in
        let keys = within.keys in
        let changes = within.changes in
        omega (arith, all, sets, unsets, keys, changes))
  ]
