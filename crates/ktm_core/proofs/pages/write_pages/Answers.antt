use Rattle.std.proofs.Common.{◌≡◌, ℕ, ◌-◌, ◌≤◌, List, ◌++◌, arith, drop, length, sym, ◌∙◌, ap, subst, take, refl, inl}
use Rattle.std.proofs.lemmas.List.{take-append-drop}
use Rattle.ktm_core.specs.Pages.{ArePagesWritten}
use Rattle.ktm_core.proofs.Writing.{aligned-next, aligned-take, part-is, torn-both, written-both, written-none}
use Rattle.ktm_core.proofs.pages.write_pages.Goals as goal

pub loop-at-init : goal.loop-at-init
loop-at-init g c = record {
  within = omega arith;
  aligned = inl refl;
  written = λ row shows. written-none c.args.journal.now row (g.D.Disk.told c.args.disk.now) (g.D.Disk.status c.args.disk.now) c.requires.headed c.requires.up c.requires.pending;
}

pub returns-in-Err : goal.returns-in-Err
returns-in-Err g c = λ row shows. (
    let pages = c.args.pages.now in
    let at = c.loop-at.at in
    let end = c.min-end.result in
    let order : at ≤ end = omega (arith, c.min-end.ensures, c.loop-at-test.true) in
    let is : pages ≡ (take at pages ++ take (end - at) (drop at pages)) ++ drop end pages = sym (take-append-drop end pages) ∙ ap (λ (l : List ℕ). l ++ drop end pages) (sym (part-is pages at end order)) in
    torn-both c.args.journal.now row (take at pages) (take (end - at) (drop at pages)) (g.D.Disk.told c.args.disk.now) (g.D.Disk.told c.loop-at.disk) (g.D.Disk.told c.write_some.new.disk)
    (g.D.Disk.status c.args.disk.now) (g.D.Disk.status c.loop-at.disk) (g.D.Disk.status c.write_some.new.disk) (aligned-take pages at c.loop-at-test.true c.loop-at.invariant.aligned) (c.loop-at.invariant.written row shows) (drop end pages) pages is (c.in-Err.ensures row shows))

pub loop-at-preserved : goal.loop-at-preserved
loop-at-preserved g c =
    let pages = c.args.pages.now in
    let at = c.loop-at.at in
    let end = c.min-end.result in
    let order : at ≤ end = omega (arith, c.min-end.ensures, c.loop-at-test.true) in
    record {
      within = omega (arith, c.min-end.ensures);
      aligned = aligned-next (length pages) at end c.loop-at-test.true c.loop-at.invariant.aligned c.min-end.ensures;
      written = λ row shows. subst
          (λ (l : List ℕ). ArePagesWritten c.args.journal.now l row (g.D.Disk.told c.args.disk.now) (g.D.Disk.told c.write_some.new.disk) (g.D.Disk.status c.args.disk.now) (g.D.Disk.status c.write_some.new.disk))
          (part-is pages at end order)
          (written-both c.args.journal.now row (take at pages) (take (end - at) (drop at pages)) (g.D.Disk.told c.args.disk.now) (g.D.Disk.told c.loop-at.disk) (g.D.Disk.told c.write_some.new.disk)
          (g.D.Disk.status c.args.disk.now) (g.D.Disk.status c.loop-at.disk) (g.D.Disk.status c.write_some.new.disk) (aligned-take pages at c.loop-at-test.true c.loop-at.invariant.aligned) (c.loop-at.invariant.written row shows) (c.in_default.ensures row shows));
    }
