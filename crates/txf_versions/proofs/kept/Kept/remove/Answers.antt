use Rattle.std.proofs.Common.{not, filter, ◌∙◌, sym, ap, arith}
use Rattle.ktm_links.specs.Mapped.{at}
use Rattle.txf_versions.specs.Parts.{KeptState, older_of}
use Rattle.txf_versions.specs.VersionsState.{is_version, older_units}
use Rattle.txf_versions.proofs.Sorted.{length-removed, older_of-without, removed-none, units-removed, AreNamed-without}
use Rattle.txf_versions.proofs.kept.Kept.remove.Goals as goal

pub overflow_sub-self : goal.overflow_sub-self
overflow_sub-self c =
    let units = units-removed c.self.inside.map.entries c.version_name.result c.in-Some.older c.in-Some.ensures.value in
    omega (arith, c.units_of.ensures, c.self.invariant.sum, units)

pub invariant_of-self : goal.invariant_of-self
invariant_of-self c =
    let entries = c.remove.ensures.entries in
    let units = units-removed c.self.inside.map.entries c.version_name.result c.in-Some.older c.in-Some.ensures.value in
    record {
      names = rw entries (AreNamed-without _ _ c.self.invariant.names);
      sum = rw entries (omega (arith, c.units_of.ensures, c.self.invariant.sum, units));
    }

pub invariant_of-self-in_default : goal.invariant_of-self-in_default
invariant_of-self-in_default c =
    let entries = c.remove.ensures.entries in
    record {
      names = rw entries (AreNamed-without _ _ c.self.invariant.names);
      sum =
          c.self.invariant.sum
          ∙ ap (λ es. older_units (older_of es)) (sym (entries ∙ removed-none c.self.inside.map.entries c.version_name.result c.in_default.ensures.value));
    }

pub returns-in-Some-clause-older : goal.returns-in-Some-clause-older
returns-in-Some-clause-older c =
    let entries = c.remove.ensures.entries in
    ap older_of entries
    ∙ older_of-without c.self.inside.map.entries c.args.file c.args.version _ c.version_name.ensures c.self.invariant.names
    (ap (λ es. at es c.version_name.result) (sym entries) ∙ c.remove.ensures.gone)
    ∙ ap (λ (k : KeptState). filter (λ v. not (is_version c.args.file c.args.version v)) k.older) c.self.view_is

pub returns-in-Some-clause-len : goal.returns-in-Some-clause-len
returns-in-Some-clause-len c =
    rw (← c.self.view_is, c.remove.ensures.entries) (length-removed c.self.inside.map.entries c.version_name.result)

pub returns-in_default-clause-older : goal.returns-in_default-clause-older
returns-in_default-clause-older c =
    let entries = c.remove.ensures.entries in
    ap older_of entries
    ∙ older_of-without c.self.inside.map.entries c.args.file c.args.version _ c.version_name.ensures c.self.invariant.names
    (ap (λ es. at es c.version_name.result) (sym entries) ∙ c.remove.ensures.gone)
    ∙ ap (λ (k : KeptState). filter (λ v. not (is_version c.args.file c.args.version v)) k.older) c.self.view_is

pub returns-in_default-clause-len : goal.returns-in_default-clause-len
returns-in_default-clause-len c =
    rw (← c.self.view_is, c.remove.ensures.entries) (length-removed c.self.inside.map.entries c.version_name.result)
