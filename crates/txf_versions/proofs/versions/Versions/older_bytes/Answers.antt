use Rattle.std.proofs.Common.{◌≡◌, List, ℕ, Option, Some, None}
use Rattle.std.specs.Option.{option_map}
use Rattle.std.specs.Prelude.{OnSome}
use Rattle.txf_versions.specs.declared.kept.Older.{Older}
use Rattle.txf_versions.proofs.Holding.{found-pinned}
use Rattle.txf_versions.proofs.versions.Versions.older_bytes.Goals as goal

on_found : (P : Type 0) (o : Option Older) (r : Option (List ℕ)) → r ≡ option_map (λ v. v.bytes) o → OnSome o P → OnSome r P
on_found P None None same holds = tt
on_found P None (Some bytes) same holds = absurd (cc)
on_found P (Some v) None same holds = absurd (cc)
on_found P (Some v) (Some bytes) same holds = holds

pub returns-clause-pinned : goal.returns-clause-pinned
returns-clause-pinned c =
    rw (← c.self.view_is)
    (on_found _ _ _ c.bytes.ensures (found-pinned _ _ c.args.file c.args.version c.self.invariant.once.held))
