use Rattle.std.proofs.Common.{◌≡◌, ◌∙◌, false, List, [], ◌∷◌, ap, arith, inl, inr, length, refl, sym}
use Rattle.std.specs.Prelude.{is_some}
use Rattle.std.proofs.lemmas.Bool.{cases_Bool, true≢false}
use Rattle.ktm_base.specs.declared.id.Id.{Id}
use Rattle.ktm_world.specs.Files.{OwnChanges, own_changes}
use Rattle.ktm_world.specs.Transactions.{same_id}
use Rattle.txf_volume.specs.Held.{OwnHeld, overlay_in, own_held}
use Rattle.ktm_walks.specs.Rows.{ending}
use Rattle.ktm_walks.proofs.rows.row_of_changes.Goals as goal

-- where a transaction changed nothing, it has no changes
none-held : (overlays : List OwnHeld) (id : Id) → is_some (overlay_in overlays id) ≡ false → own_changes (own_held overlays) id ≡ []
none-held [] id none = refl
none-held (o ∷ os) id none = elim (cases_Bool (same_id o.transaction id)) [
  | inl same ↦ absurd (true≢false (rw same at none))
  | inr other ↦ rw other (none-held os id (rw other at none))
]

pub returns : goal.returns
returns g c =
    let own =
    ap (λ (id : Id). length (own_changes (own_held c.args.files.now.overlays) id)) c.ending.ensures
    ∙ ap (λ (own : List OwnChanges). length (own_changes own ending)) c.requires.own in
    elim (cases_Bool c.finish.result) [
      | inl is ↦ let counted = c.finish.ensures.counted is refl in omega (arith, counted, own)
      | inr none ↦ absurd (let nothing = ap length (none-held c.args.files.now.overlays c.ending.result (sym c.finish.ensures.work ∙ none)) in omega (arith, nothing, own))
    ]
