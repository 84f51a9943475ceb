use Rattle.std.proofs.Common.{◌≡◌, ◌+◌, length, count_by, arith}
use Rattle.ktm_world.proofs.offered.KeyLemmas.{length-counts}
use Rattle.kv_rm.specs.Count.{is_of_kind}
use Rattle.kv_rm.specs.declared.count.Kind.TheVariants.{Value, Unset}
use Rattle.kv_rm.proofs.count.Counts.more.Goals as goal

pub returns-clause-unsets : goal.returns-clause-unsets
returns-clause-unsets c =
    let settings = c.args.settings.now in
    let both : length settings ≡ count_by (is_of_kind Value) settings + count_by (is_of_kind Unset) settings = length-counts settings in
    omega (arith, both)

pub returns-clause-few : goal.returns-clause-few
returns-clause-few c =
    let settings = c.args.settings.now in
    let both : length settings ≡ count_by (is_of_kind Value) settings + count_by (is_of_kind Unset) settings = length-counts settings in
    record { values = omega (arith, c.requires.values); unsets = omega (arith, both, c.requires.unsets) }
