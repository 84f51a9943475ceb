use Rattle.std.proofs.Common.{◌∙◌, ap, is_some, sym}
use Rattle.ktm_links.specs.Mapped.{Mapped, put, at, value_of}
use Rattle.ktm_links.proofs.InOrder.{absent, found, in_order, inserted, searchable, value_of-absent}
use Rattle.ktm_links.specs.Blocks.{index_of}
use Rattle.ktm_links.proofs.Blocks.{no_key, within, within_gap}
use Rattle.ktm_links.proofs.offered.Keys.{same_key-other}
use Rattle.ktm_links.proofs.offered.Entries.{at-put_same, at-put_other, value_of-put_same, value_of-put_other, KeepsSpent-put}
use Rattle.ktm_links.proofs.chains.Chains.insert_new.Goals as goal

pub returns-in-Ok-clause-taken : goal.returns-in-Ok-clause-taken
returns-in-Ok-clause-taken g c =
    let place = rw (c.as_blocks.ensures.blocks, c.as_slice.ensures) at c.in-Ok.ensures.position in
    rw (← c.self.view_is)
    (ap (λ key. is_some key) (sym (found _ _ _ (index_of c.self.inside.order.blocks c.in-Ok.field-0) no_key c.self.invariant (within _ c.in-Ok.field-0 (rw c.as_blocks.ensures.blocks at c.in-Ok.ensures.spot)) place)))

pub returns-in-Err-clause-free : goal.returns-in-Err-clause-free
returns-in-Err-clause-free g c =
    let place = rw (c.as_blocks.ensures.blocks, c.as_slice.ensures) at c.in-Err.ensures.position in
    rw (← c.self.view_is) (sym (absent _ _ _ _ c.self.invariant place))

pub invariant_of-self : goal.invariant_of-self
invariant_of-self g c =
    let items = rw c.new.ensures at c.push_spare-key.ensures.items in
    let place = rw (c.as_blocks.ensures.blocks, c.as_slice.ensures) at c.in-Err.ensures.position in
    rw (items, c.insert.ensures.keys)
    (in_order _ _ (index_of c.self.inside.order.blocks c.in-Err.spot) c.push_spare-key.result (record { name = g.K.Name.bytes c.args.name; value = c.args.value }) c.self.invariant c.push_spare-key.ensures.absent
    (within_gap _ c.in-Err.spot (rw c.as_blocks.ensures.blocks at c.in-Err.ensures.gap)) (place (searchable _ _ _ c.self.invariant.present c.self.invariant.rising)) (sym (absent _ _ _ _ c.self.invariant place)))

pub returns-in-Err-clause-entries : goal.returns-in-Err-clause-entries
returns-in-Err-clause-entries g c =
    let items = rw c.new.ensures at c.push_spare-key.ensures.items in
    let place = rw (c.as_blocks.ensures.blocks, c.as_slice.ensures) at c.in-Err.ensures.position in
    rw (items, c.insert.ensures.keys)
    (inserted _ _ (index_of c.self.inside.order.blocks c.in-Err.spot) c.push_spare-key.result (record { name = g.K.Name.bytes c.args.name; value = c.args.value }) c.self.invariant c.push_spare-key.ensures.absent
    (within_gap _ c.in-Err.spot (rw c.as_blocks.ensures.blocks at c.in-Err.ensures.gap)) (place (searchable _ _ _ c.self.invariant.present c.self.invariant.rising)))
    ∙ ap (λ (m : Mapped _). put m.entries (record { name = g.K.Name.bytes c.args.name; key = c.push_spare-key.result; value = c.args.value })) c.self.view_is

pub returns-in-Err-clause-under : goal.returns-in-Err-clause-under
returns-in-Err-clause-under g c =
    ap (λ es. at es (g.K.Name.bytes c.args.name)) (returns-in-Err-clause-entries g c)
    ∙ at-put_same c.args.self.now.entries (record { name = g.K.Name.bytes c.args.name; key = c.push_spare-key.result; value = c.args.value }) (returns-in-Err-clause-free g c)

pub returns-in-Err-clause-other_names : goal.returns-in-Err-clause-other_names
returns-in-Err-clause-other_names g c = λ q differs.
    ap (λ es. at es q) (returns-in-Err-clause-entries g c)
    ∙ at-put_other c.args.self.now.entries (record { name = g.K.Name.bytes c.args.name; key = c.push_spare-key.result; value = c.args.value }) q differs

pub returns-in-Err-clause-named : goal.returns-in-Err-clause-named
returns-in-Err-clause-named g c =
    ap (λ es. value_of es c.push_spare-key.result) (returns-in-Err-clause-entries g c)
    ∙ value_of-put_same c.args.self.now.entries (record { name = g.K.Name.bytes c.args.name; key = c.push_spare-key.result; value = c.args.value })
    (rw (← c.self.view_is) (value_of-absent _ _ c.push_spare-key.result c.self.invariant.present c.push_spare-key.ensures.absent))

pub returns-in-Err-clause-other_keys : goal.returns-in-Err-clause-other_keys
returns-in-Err-clause-other_keys g c = λ k differs.
    ap (λ es. value_of es k) (returns-in-Err-clause-entries g c)
    ∙ value_of-put_other c.args.self.now.entries (record { name = g.K.Name.bytes c.args.name; key = c.push_spare-key.result; value = c.args.value }) k
    (same_key-other c.push_spare-key.result k (λ same. differs (sym same)))

pub returns-in-Err-clause-spent : goal.returns-in-Err-clause-spent
returns-in-Err-clause-spent g c =
    KeepsSpent-put _ _ (record { name = g.K.Name.bytes c.args.name; key = c.push_spare-key.result; value = c.args.value })
    (rw (← c.self.view_is) c.push_spare-key.ensures.fresh) (returns-in-Err-clause-entries g c) (rw (← c.self.view_is) c.push_spare-key.ensures.next)
