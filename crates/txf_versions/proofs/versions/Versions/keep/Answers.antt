use Rattle.std.proofs.Common.{◌+◌, find, ◌∙◌, ap}
use Rattle.ktm_world.specs.Tree.{units_of}
use Rattle.txf_versions.specs.VersionsState.{VersionsState, is_version, older_units}
use Rattle.txf_versions.proofs.Apart.{find-with_other, find-with_same}
use Rattle.txf_versions.proofs.Ready.{room-to_keep, AreReady-keep}
use Rattle.txf_versions.proofs.Sorted.{units-with}
use Rattle.txf_versions.proofs.versions.Versions.keep.Goals as goal

pub insert-requires-clause-spare : goal.insert-requires-clause-spare
insert-requires-clause-spare c =
    room-to_keep _ _ (record { file = c.args.file; version = c.args.version; bytes = c.args.bytes }) _ _ c.self.invariant
    (rw (← c.self.view_is) at c.requires.pinned) (rw (← c.self.view_is) at c.requires.absent)

pub invariant_of-self : goal.invariant_of-self
invariant_of-self c =
    AreReady-keep _ _ _ (record { file = c.args.file; version = c.args.version; bytes = c.args.bytes }) _ _ _ c.self.invariant
    (rw (← c.self.view_is) at c.requires.pinned) (rw (← c.self.view_is) at c.requires.absent) c.insert.ensures.older c.insert.ensures.spare

pub returns-clause-found : goal.returns-clause-found
returns-clause-found c =
    ap (find (is_version c.args.file c.args.version)) c.insert.ensures.older
    ∙ find-with_same _ (record { file = c.args.file; version = c.args.version; bytes = c.args.bytes }) (rw (← c.self.view_is) at c.requires.absent)

pub returns-clause-others : goal.returns-clause-others
returns-clause-others c f v differs =
    ap (find (is_version f v)) c.insert.ensures.older
    ∙ find-with_other _ (record { file = c.args.file; version = c.args.version; bytes = c.args.bytes }) f v differs
    ∙ ap (λ (s : VersionsState). find (is_version f v) s.older) c.self.view_is

pub returns-clause-units : goal.returns-clause-units
returns-clause-units c =
    ap older_units c.insert.ensures.older
    ∙ units-with _ (record { file = c.args.file; version = c.args.version; bytes = c.args.bytes })
    ∙ ap (λ (s : VersionsState). older_units s.older + units_of c.args.bytes) c.self.view_is
