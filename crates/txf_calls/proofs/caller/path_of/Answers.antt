use Rattle.txf_calls.proofs.Texts.{no-path}
use Rattle.txf_calls.proofs.caller.path_of.Goals as goal

pub returns-in-Err-NotAPath : goal.returns-in-Err-NotAPath
returns-in-Err-NotAPath c =
    no-path c.law_of_paths.ensures c.args.text.now (rw (← c.as_slice.ensures) (c.in-Err-NotAPath.ensures.not c.in-Err-NotAPath.field-0-is))
