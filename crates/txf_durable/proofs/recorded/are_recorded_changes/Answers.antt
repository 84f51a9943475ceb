use Rattle.std.proofs.Common.{◌≡◌, ◌==◌, ◌&&◌, ◌∙◌, List, [], ◌∷◌, length, true, false, refl, sym, ap, arith, ne_eqb}
use Rattle.std.proofs.lemmas.Bool.{true≢false}
use Rattle.std.specs.List.{list_all}
use Rattle.ktm_world.specs.declared.change.Change.{Change}
use Rattle.ktm_world.specs.Changes.{has_changes}
use Rattle.ktm_world.specs.Committed.{written_files}
use Rattle.ktm_world.specs.Durable.{are_recorded_changes, gives_bytes}
use Rattle.txf_durable.proofs.Recordings.{not-recorded, recorded-split}
use Rattle.txf_durable.proofs.recorded.are_recorded_changes.Goals as goal

no_changes : (cs : List Change) → true ≡ (length cs == 0) → false ≡ are_recorded_changes cs
no_changes [] none = refl
no_changes (c ∷ cs) none = absurd (true≢false (none ∙ ne_eqb (length (c ∷ cs)) 0 (λ e. omega (arith, e))))

some_changes : (cs : List Change) → false ≡ (length cs == 0) → true ≡ has_changes cs
some_changes [] some = absurd (cc)
some_changes (c ∷ cs) some = refl

pub returns-then-is_empty-clause-recorded : goal.returns-then-is_empty-clause-recorded
returns-then-is_empty-clause-recorded c = no_changes c.args.changes.now c.if-is_empty.ensures

pub returns-then-not-are_final_bytes-clause-recorded : goal.returns-then-not-are_final_bytes-clause-recorded
returns-then-not-are_final_bytes-clause-recorded c =
    let split = c.split_at_bytes.ensures in
    sym (not-recorded c.args.changes.now c.split_at_bytes.result.0.now c.split_at_bytes.result.1.now split.whole split.names split.bytes (sym c.if-not-are_final_bytes.ensures))

pub returns-clause-recorded : goal.returns-clause-recorded
returns-clause-recorded c =
    let split = c.split_at_bytes.ensures in
    let some = some_changes c.args.changes.now c.if-is_empty.ensures in
    let files = c.as_slice.ensures.numbers ∙ c.gather_written.ensures.numbers in
    c.have_bytes.ensures ∙ ap (list_all (gives_bytes c.split_at_bytes.result.1.now)) files
    ∙ ap (λ b. b && list_all (gives_bytes c.split_at_bytes.result.1.now) (written_files c.split_at_bytes.result.0.now)) some
    ∙ sym (recorded-split c.args.changes.now c.split_at_bytes.result.0.now c.split_at_bytes.result.1.now split.whole split.names split.bytes (sym c.if-not-are_final_bytes.ensures))
