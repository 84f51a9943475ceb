use Rattle.std.proofs.Common.{arith}
use Rattle.ktm_restart.proofs.GoodLogs.{bytes_fit}
use Rattle.ktm_restart.proofs.SettingsApplied.{settings-inside}
use Rattle.ktm_restart.proofs.reading.Reading.apply_settings.Goals as goal

pub returns : goal.returns
returns c at single =
    settings-inside c.law_of_grammar.ensures c.law_of_good_states.ensures c.args.bytes.now (bytes_fit c.args.bytes.now (λ i. omega (arith, c.type_inv.bytes i))) at c.args.settings c.args.transaction
    c.args.self.now _ c.self.view_is c.requires.well single c.apply_settings.result c.apply_settings.new.self.state c.apply_settings.ensures
