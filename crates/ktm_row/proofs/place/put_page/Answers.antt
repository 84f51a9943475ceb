use Rattle.std.proofs.Common.{ℕ, length, subst}
use Rattle.ktm_base.specs.Disk.{Wrote}
use Rattle.ktm_base.specs.Told.{Goes}
use Rattle.ktm_row.proofs.Steps.{behind-touched, lost-touched, page-touched, row-wrote, stands-touched}
use Rattle.ktm_row.proofs.place.put_page.Goals as goal

pub returns-in-Err-clause-err : goal.returns-in-Err-clause-err
returns-in-Err-clause-err g c =
    let touched = page-touched (g.D.Disk.told c.args.disk.now) (g.D.Disk.told c.write_over.new.disk) c.args.begin c.args.page c.offset-at.result (length c.args.bytes.now) c.offset-at.ensures c.told-bytes c.in-Err.ensures.touched in
    lost-touched c.args.begin c.args.pages (g.D.Disk.told c.args.disk.now) (g.D.Disk.told c.write_over.new.disk) c.requires.stands c.args.page c.requires.within touched

pub returns-in-Err-clause-stands : goal.returns-in-Err-clause-stands
returns-in-Err-clause-stands g c =
    let touched = page-touched (g.D.Disk.told c.args.disk.now) (g.D.Disk.told c.write_over.new.disk) c.args.begin c.args.page c.offset-at.result (length c.args.bytes.now) c.offset-at.ensures c.told-bytes c.in-Err.ensures.touched in
    stands-touched c.args.begin c.args.pages (g.D.Disk.told c.args.disk.now) (g.D.Disk.told c.write_over.new.disk) c.requires.stands c.args.page c.requires.within touched

pub returns-in-Err-clause-behind : goal.returns-in-Err-clause-behind
returns-in-Err-clause-behind g c =
    let touched = page-touched (g.D.Disk.told c.args.disk.now) (g.D.Disk.told c.write_over.new.disk) c.args.begin c.args.page c.offset-at.result (length c.args.bytes.now) c.offset-at.ensures c.told-bytes c.in-Err.ensures.touched in
    behind-touched c.args.begin c.args.pages (g.D.Disk.told c.args.disk.now) (g.D.Disk.told c.write_over.new.disk) c.requires.stands c.args.page c.requires.within touched

pub returns-clause-ok : goal.returns-clause-ok
returns-clause-ok g c =
    let touched = page-touched (g.D.Disk.told c.args.disk.now) (g.D.Disk.told c.write_over.new.disk) c.args.begin c.args.page c.offset-at.result (length c.args.bytes.now) c.offset-at.ensures c.told-bytes c.in_default.ensures.touched in
    let wrote = subst (λ (n : ℕ). Goes (Wrote n c.args.bytes.now) (g.D.Disk.told c.args.disk.now) (g.D.Disk.told c.write_over.new.disk)) c.offset-at.ensures c.in_default.ensures.ok in
    row-wrote c.args.begin c.args.pages (g.D.Disk.told c.args.disk.now) (g.D.Disk.told c.write_over.new.disk) c.requires.stands c.args.page c.requires.within c.args.bytes.now c.told-bytes touched wrote

pub returns-clause-stands : goal.returns-clause-stands
returns-clause-stands g c =
    let touched = page-touched (g.D.Disk.told c.args.disk.now) (g.D.Disk.told c.write_over.new.disk) c.args.begin c.args.page c.offset-at.result (length c.args.bytes.now) c.offset-at.ensures c.told-bytes c.in_default.ensures.touched in
    stands-touched c.args.begin c.args.pages (g.D.Disk.told c.args.disk.now) (g.D.Disk.told c.write_over.new.disk) c.requires.stands c.args.page c.requires.within touched

pub returns-clause-behind : goal.returns-clause-behind
returns-clause-behind g c =
    let touched = page-touched (g.D.Disk.told c.args.disk.now) (g.D.Disk.told c.write_over.new.disk) c.args.begin c.args.page c.offset-at.result (length c.args.bytes.now) c.offset-at.ensures c.told-bytes c.in_default.ensures.touched in
    behind-touched c.args.begin c.args.pages (g.D.Disk.told c.args.disk.now) (g.D.Disk.told c.write_over.new.disk) c.requires.stands c.args.page c.requires.within touched
