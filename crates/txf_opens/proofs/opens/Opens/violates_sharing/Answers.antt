use Rattle.std.proofs.Common.{◌||◌, not, ap, ◌∙◌}
use Rattle.std.specs.List.{list_any}
use Rattle.ktm_world.specs.Conflicts.{is_shared, opened_in, reads, writes}
use Rattle.txf_opens.proofs.Sharing.{first_part, second_part, violated}
use Rattle.txf_opens.proofs.opens.Opens.violates_sharing.Goals as goal

pub returns-then-denies : goal.returns-then-denies
returns-then-denies c =
    let os = opened_in c.args.self.now.opens c.args.group c.args.node in
    first_part c.denies.result (list_any (λ o. not (is_shared (reads c.args.access) (writes c.args.access || c.args.truncates) o.share)) os)
    (list_any (λ o. not (is_shared (reads o.access) (writes o.access) c.args.share)) os) _
    (c.denies.ensures
    ∙ ap (λ r. list_any (λ o. not (is_shared r c.asks_write-asks_write.result o.share)) os) c.reads.ensures
    ∙ ap (λ w. list_any (λ o. not (is_shared (reads c.args.access) w o.share)) os) c.asks_write-asks_write.ensures)
    c.if-denies.true (violated c.args.self.now.opens c.args.group c.args.node c.args.access c.args.truncates c.args.share)

pub returns-else-denies : goal.returns-else-denies
returns-else-denies c =
    let os = opened_in c.args.self.now.opens c.args.group c.args.node in
    second_part c.denies.result (list_any (λ o. not (is_shared (reads c.args.access) (writes c.args.access || c.args.truncates) o.share)) os)
    (list_any (λ o. not (is_shared (reads o.access) (writes o.access) c.args.share)) os) c.is_used_against.result _
    (c.denies.ensures
    ∙ ap (λ r. list_any (λ o. not (is_shared r c.asks_write-asks_write.result o.share)) os) c.reads.ensures
    ∙ ap (λ w. list_any (λ o. not (is_shared (reads c.args.access) w o.share)) os) c.asks_write-asks_write.ensures)
    c.if-denies.false c.is_used_against.ensures
    (violated c.args.self.now.opens c.args.group c.args.node c.args.access c.args.truncates c.args.share)
