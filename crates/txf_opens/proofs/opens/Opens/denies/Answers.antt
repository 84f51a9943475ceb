use Rattle.std.proofs.Common.{◌&&◌, not, refl}
use Rattle.std.specs.List.{list_any}
use Rattle.ktm_world.specs.Conflicts.{lets_read, lets_write, opened_in}
use Rattle.txf_opens.proofs.Sharing.{any_denying, both_parts, first_part, no_part, second_part}
use Rattle.txf_opens.proofs.opens.Opens.denies.Goals as goal
use Rattle.txf_opens.proofs.opens.Opens.denies.Goals.{then-asks_read, else-asks_read}

pub returns-then-denies_read : goal.returns-then-denies_read
returns-then-denies_read c =
    let os = opened_in c.args.self.now.opens c.args.group c.args.node in
    first_part c.if-asks_read.value (c.args.asks_read && list_any (λ o. not (lets_read o.share)) os) (c.args.asks_write && list_any (λ o. not (lets_write o.share)) os) _
    (elim c.if-asks_read.branch [
      | then-asks_read w ↦ both_parts c.args.asks_read (list_any (λ o. not (lets_read o.share)) os) w.denies_read.result c.if-asks_read.value w.if-asks_read.true w.value-is w.denies_read.ensures
      | else-asks_read w ↦ no_part c.args.asks_read (list_any (λ o. not (lets_read o.share)) os) c.if-asks_read.value w.if-asks_read.false w.value-is
    ])
    c.if-denies_read.true
    (any_denying c.args.asks_read c.args.asks_write os)

pub returns-then-asks_write : goal.returns-then-asks_write
returns-then-asks_write c =
    let os = opened_in c.args.self.now.opens c.args.group c.args.node in
    second_part c.if-asks_read.value (c.args.asks_read && list_any (λ o. not (lets_read o.share)) os) (c.args.asks_write && list_any (λ o. not (lets_write o.share)) os) c.denies_write.result _
    (elim c.if-asks_read.branch [
      | then-asks_read w ↦ both_parts c.args.asks_read (list_any (λ o. not (lets_read o.share)) os) w.denies_read.result c.if-asks_read.value w.if-asks_read.true w.value-is w.denies_read.ensures
      | else-asks_read w ↦ no_part c.args.asks_read (list_any (λ o. not (lets_read o.share)) os) c.if-asks_read.value w.if-asks_read.false w.value-is
    ])
    c.if-denies_read.false
    (both_parts c.args.asks_write (list_any (λ o. not (lets_write o.share)) os) c.denies_write.result c.denies_write.result c.if-asks_write.true refl c.denies_write.ensures)
    (any_denying c.args.asks_read c.args.asks_write os)

pub returns-else-asks_write : goal.returns-else-asks_write
returns-else-asks_write c =
    let os = opened_in c.args.self.now.opens c.args.group c.args.node in
    second_part c.if-asks_read.value (c.args.asks_read && list_any (λ o. not (lets_read o.share)) os) (c.args.asks_write && list_any (λ o. not (lets_write o.share)) os) c.args.asks_write _
    (elim c.if-asks_read.branch [
      | then-asks_read w ↦ both_parts c.args.asks_read (list_any (λ o. not (lets_read o.share)) os) w.denies_read.result c.if-asks_read.value w.if-asks_read.true w.value-is w.denies_read.ensures
      | else-asks_read w ↦ no_part c.args.asks_read (list_any (λ o. not (lets_read o.share)) os) c.if-asks_read.value w.if-asks_read.false w.value-is
    ])
    c.if-denies_read.false
    (no_part c.args.asks_write (list_any (λ o. not (lets_write o.share)) os) c.args.asks_write c.if-asks_write.false refl)
    (any_denying c.args.asks_read c.args.asks_write os)
