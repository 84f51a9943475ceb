use Rattle.std.proofs.Common.{◌+◌, ◌∙◌, sym, ap}
use Rattle.txf_versions.specs.Parts.{KeptState, older_of}
use Rattle.txf_versions.specs.VersionsState.{older_units, with_older}
use Rattle.txf_versions.proofs.Sorted.{key_free, older_of-put, units-with, AreNamed-put}
use Rattle.txf_versions.proofs.kept.Kept.insert.Goals as goal

pub insert-requires-clause-free : goal.insert-requires-clause-free
insert-requires-clause-free c =
    key_free _ c.args.older.file c.args.older.version _ c.version_name.ensures c.self.invariant.names (rw (← c.self.view_is) at c.requires.absent)

pub invariant_of-self : goal.invariant_of-self
invariant_of-self c =
    let is = ap older_of c.insert.ensures.entries ∙ older_of-put _ _ c.self.invariant.names c.version_name.ensures in
    record {
      names = rw c.insert.ensures.entries (AreNamed-put _ _ c.self.invariant.names c.version_name.ensures);
      sum =
          ap (λ n. c.self.inside.units + n) c.units_of.ensures
          ∙ rw (c.self.invariant.sum) (sym (units-with _ c.args.older))
          ∙ sym (ap older_units is);
    }

pub returns-clause-older : goal.returns-clause-older
returns-clause-older c =
    ap older_of c.insert.ensures.entries ∙ older_of-put _ _ c.self.invariant.names c.version_name.ensures
    ∙ ap (λ (k : KeptState). with_older k.older c.args.older) c.self.view_is
