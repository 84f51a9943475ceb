use Rattle.std.proofs.Common.{ℕ, ◌+◌, ◌≤◌, List, [], ◌∷◌, length, sym, subst, arith}
use Rattle.std.proofs.lemmas.Grind.{common_steps}
use Rattle.ktm_base.specs.Bytes.{SameOutside}
use Rattle.ktm_base.specs.Told.{Goes}
use Rattle.ktm_base.specs.Disk.{DiskState, Dirtied}
use Rattle.ktm_base.proofs.offered.Images.{same_written}
use Rattle.ktm_base.proofs.offered.ToldSteps.{Goes-map}
use Rattle.ktm_log.specs.Settle.{Tore}
use Rattle.ktm_log.proofs.settling.settle.Goals as goal

tore_unsynced : (at len : ℕ) (a b : DiskState) → SameOutside ((at, len) ∷ []) a.seen b.seen → Dirtied at len a b → Tore at len a b
tore_unsynced at len a b same dirtied = grind (arith, common_steps)

pub returns-in-Err-clause-err : goal.returns-in-Err-clause-err
returns-in-Err-clause-err g c = grind (arith, common_steps)

pub returns-in-Err-sync-clause-err : goal.returns-in-Err-sync-clause-err
returns-in-Err-sync-clause-err g c =
    let at = c.args.at in
    let bytes = c.args.bytes.now in
    subst (λ told. Goes (Tore at (length bytes)) (g.D.Disk.told c.args.disk.now) told) (sym c.in-Err-sync.ensures.err)
    (Goes-map _ _ (λ (s : DiskState). at + length bytes ≤ length s.seen) c.requires.within c.in_default.ensures.ok
    (λ a b within wrote. tore_unsynced at (length bytes) a b (subst (λ (l : List ℕ). SameOutside ((at, length bytes) ∷ []) a.seen l) (sym wrote.seen) (same_written a.seen at bytes within)) wrote.dirtied))
