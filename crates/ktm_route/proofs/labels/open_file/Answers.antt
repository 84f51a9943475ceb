use Rattle.std.proofs.Common.{false, true, Some, ap, option_map, sym, ◌∙◌}
use Rattle.ktm_world.specs.Labels.{file_number, open_file_at}
use Rattle.txf_opens.specs.Acts.{open_of}
use Rattle.ktm_memory.specs.Held.{files_of}
use Rattle.ktm_memory.specs.Memory.{present_of}
use Rattle.ktm_route.proofs.FileRoutes.{found_named, suspended_or}
use Rattle.ktm_route.proofs.labels.open_file.Goals as goal

pub returns-then-is_suspended-clause-err : goal.returns-then-is_suspended-clause-err
returns-then-is_suspended-clause-err c =
    let named = ap file_number (sym c.object_at.ensures) ∙ sym c.file_number.ensures ∙ c.in-Some.is in
    let alive = sym c.dead_refusal.ensures ∙ c.in_default-dead_refusal.is in
    let found = ap (λ f. open_file_at (files_of f).table.opens c.in-Some.number) (sym c.files.ensures) ∙ sym c.open_file.ensures ∙ ap (option_map open_of) c.in-Some-open_file.is in
    suspended_or (present_of c.args.memory.now) c.args.process c.args.label c.in-Some.number named (open_of c.in-Some-open_file.file) true alive found (sym (c.is_suspended.ensures) ∙ c.if-is_suspended.true)

pub returns-clause-ok : goal.returns-clause-ok
returns-clause-ok c =
    let named = ap file_number (sym c.object_at.ensures) ∙ sym c.file_number.ensures ∙ c.in-Some.is in
    let alive = sym c.dead_refusal.ensures ∙ c.in_default-dead_refusal.is in
    let found = ap (λ f. open_file_at (files_of f).table.opens c.in-Some.number) (sym c.files.ensures) ∙ sym c.open_file.ensures ∙ ap (option_map open_of) c.in-Some-open_file.is in (
      found_named (present_of c.args.memory.now) c.args.process c.args.label c.in-Some.number named (Some (open_of c.in-Some-open_file.file)) found,
      suspended_or (present_of c.args.memory.now) c.args.process c.args.label c.in-Some.number named (open_of c.in-Some-open_file.file) false alive found (sym (c.is_suspended.ensures) ∙ c.if-is_suspended.false),
    )
