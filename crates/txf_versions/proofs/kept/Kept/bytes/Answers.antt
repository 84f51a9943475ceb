use Rattle.std.proofs.Common.{Some, ◌∙◌, sym, ap}
use Rattle.std.specs.Option.{option_map}
use Rattle.txf_versions.specs.declared.kept.Older.{Older}
use Rattle.txf_versions.proofs.Sorted.{find-named}
use Rattle.txf_versions.proofs.kept.Kept.bytes.Goals as goal

pub returns-in-Some-get : goal.returns-in-Some-get
returns-in-Some-get c =
    rw (← c.self.view_is)
    (ap Some c.lend.ensures
    ∙ ap (option_map (λ (v : Older). v.bytes))
    (c.in-Some-get.ensures.value ∙ c.in-Some.ensures.value ∙ find-named _ c.args.file c.args.version _ c.version_name.ensures c.self.invariant.names))

pub returns-in-None-get : goal.returns-in-None-get
returns-in-None-get c =
    rw (← c.self.view_is)
    (ap (option_map (λ (v : Older). v.bytes))
    (c.in-None-get.ensures.value ∙ c.in-Some.ensures.value ∙ find-named _ c.args.file c.args.version _ c.version_name.ensures c.self.invariant.names))

pub returns-in-None : goal.returns-in-None
returns-in-None c =
    rw (← c.self.view_is)
    (ap (option_map (λ (v : Older). v.bytes))
    (sym (ap (option_map (λ e. e.1)) c.in-None.ensures.absent) ∙ find-named _ c.args.file c.args.version _ c.version_name.ensures c.self.invariant.names))
