use Rattle.std.proofs.Common.{◌∙◌, ap, flat_map, arith}
use Rattle.ktm_dump.proofs.Puts.{broken_as, broken_more, broken_text, broken_then, flushed_part, flushed_text, put_as, put_then}
use Rattle.ktm_dump.specs.Text.{key_line, node_line}
use Rattle.ktm_world.specs.Tree.{Tree}
use Rattle.ktm_dump.proofs.state.write_state.Goals as goal

pub returns-in-Err-clause-err : goal.returns-in-Err-clause-err
returns-in-Err-clause-err g c =
    broken_text _ _ _ c.clear.ensures.items
    (broken_more _ _ _ (flat_map key_line c.args.state.keys) (broken_more _ _ _ (flat_map (node_line c.args.state.tree) c.args.state.tree) c.in-Err.ensures))

pub returns-in-Err-clause-faults : goal.returns-in-Err-clause-faults
returns-in-Err-clause-faults g c = let broken = c.in-Err.ensures in record { later = broken.later; cause = λ _. broken.fault }

pub returns-in-Err-put_nodes-clause-err : goal.returns-in-Err-put_nodes-clause-err
returns-in-Err-put_nodes-clause-err g c =
    broken_text _ _ _ c.clear.ensures.items
    (broken_more _ _ _ (flat_map key_line c.args.state.keys)
    (broken_then _ _ _ _ (flat_map (node_line c.args.state.tree) c.args.state.tree) c.in_default.ensures
    (broken_as _ _ _ _ (ap (λ (t : Tree). flat_map (node_line t) t) c.into_parts-files.ensures.tree) c.in-Err-put_nodes.ensures)))

pub returns-in-Err-put_nodes-clause-faults : goal.returns-in-Err-put_nodes-clause-faults
returns-in-Err-put_nodes-clause-faults g c =
    let first = c.in_default.ensures.later in
    let broken = c.in-Err-put_nodes.ensures in
    let later = broken.later in
    let fault = broken.fault in
    record { later = omega arith; cause = λ _. omega arith }

pub returns-in-Err-put_keys-clause-err : goal.returns-in-Err-put_keys-clause-err
returns-in-Err-put_keys-clause-err g c =
    broken_text _ _ _ c.clear.ensures.items
    (broken_then _ _ _ _ (flat_map key_line c.args.state.keys)
    (put_then _ _ _ _ (flat_map (node_line c.args.state.tree) c.args.state.tree) c.in_default.ensures
    (put_as _ _ _ _ (ap (λ (t : Tree). flat_map (node_line t) t) c.into_parts-files.ensures.tree) c.in_default-put_nodes.ensures))
    (broken_as _ _ _ _ (ap (flat_map key_line) (c.as_slice.ensures.items ∙ c.into_parts-files.ensures.keys)) c.in-Err-put_keys.ensures))

pub returns-in-Err-put_keys-clause-faults : goal.returns-in-Err-put_keys-clause-faults
returns-in-Err-put_keys-clause-faults g c =
    let first = c.in_default.ensures.later in
    let second = c.in_default-put_nodes.ensures.later in
    let broken = c.in-Err-put_keys.ensures in
    let later = broken.later in
    let fault = broken.fault in
    record { later = omega arith; cause = λ _. omega arith }

pub returns-in-Err-flush-clause-err : goal.returns-in-Err-flush-clause-err
returns-in-Err-flush-clause-err g c =
    flushed_part _ _ _ c.clear.ensures.items _
    (put_then _ _ _ _ (flat_map key_line c.args.state.keys)
    (put_then _ _ _ _ (flat_map (node_line c.args.state.tree) c.args.state.tree) c.in_default.ensures
    (put_as _ _ _ _ (ap (λ (t : Tree). flat_map (node_line t) t) c.into_parts-files.ensures.tree) c.in_default-put_nodes.ensures))
    (put_as _ _ _ _ (ap (flat_map key_line) (c.as_slice.ensures.items ∙ c.into_parts-files.ensures.keys)) c.in_default-put_keys.ensures))
    c.in-Err-flush.ensures.err

pub returns-clause-ok : goal.returns-clause-ok
returns-clause-ok g c =
    flushed_text _ _ _ c.clear.ensures.items _
    (put_then _ _ _ _ (flat_map key_line c.args.state.keys)
    (put_then _ _ _ _ (flat_map (node_line c.args.state.tree) c.args.state.tree) c.in_default.ensures
    (put_as _ _ _ _ (ap (λ (t : Tree). flat_map (node_line t) t) c.into_parts-files.ensures.tree) c.in_default-put_nodes.ensures))
    (put_as _ _ _ _ (ap (flat_map key_line) (c.as_slice.ensures.items ∙ c.into_parts-files.ensures.keys)) c.in_default-put_keys.ensures))
    c.in_default-flush.ensures.ok
