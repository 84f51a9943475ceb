use Rattle.std.proofs.Common.{rules, refl, ap, arith}
use Rattle.ktm_log.specs.declared.area.Area.{Area}
use Rattle.ktm_journal.specs.Image.{half_of}
use Rattle.ktm_journal.proofs.Snapshots.{none_told}
use Rattle.ktm_journal.proofs.snapshot.read_snapshot.Goals as goal

pub returns-in_default-length_in : goal.returns-in_default-length_in
returns-in_default-length_in g c = record {
  at = search rules;
  none = none_told c.args.header.units (half_of c.args.header.selector) c.read_at.new.buf (g.D.Disk.told c.args.disk.now)
      (rw (c.snapshot_area-area.ensures, c.half_of.ensures) at c.in_default-read_at.ensures.value)
      (λ len is. omega (arith, c.in_default-length_in.ensures.none refl len is, ap (λ (a : Area). a.len) c.snapshot_area-area.ensures));
  read = search rules;
}
