use Rattle.std.proofs.Common.{is_some, sym, ap, ◌∙◌}
use Rattle.std.proofs.lemmas.List.{append-nil}
use Rattle.ktm_links.specs.Mapped.{at}
use Rattle.txf_reserve.specs.HeldPairs.{key_name}
use Rattle.txf_reserve.proofs.Changing.{has-more, key_free, owner_free, ArePairs-more}
use Rattle.txf_reserve.proofs.pairs.Pairs.insert.Goals as goal

pub insert-requires-clause-free : goal.insert-requires-clause-free
insert-requires-clause-free g c =
    rw (c.key_name.ensures, append-nil (key_name c.args.key.now c.args.transaction))
    (key_free g.K.PairName.room _ _ c.self.invariant c.args.key.now c.args.transaction c.requires.short (rw (← c.self.view_is) at (sym c.has.ensures ∙ c.if-has.false)))

pub insert-requires-2-clause-free : goal.insert-requires-2-clause-free
insert-requires-2-clause-free g c =
    rw c.owner_name.ensures
    (owner_free g.K.PairName.room _ _ c.self.invariant c.args.key.now c.args.transaction (rw (← c.self.view_is) at (sym c.has.ensures ∙ c.if-has.false)))

pub invariant_of-self : goal.invariant_of-self
invariant_of-self g c =
    let name = c.key_name.ensures ∙ append-nil (key_name c.args.key.now c.args.transaction) in
    ArePairs-more g.K.PairName.room c.self.inside.by_key.entries c.self.inside.by_owner.entries c.self.invariant c.args.key.now c.args.transaction c.insert.new.self.entries
    c.insert-2.new.self.entries c.insert.result c.requires.short c.requires.fits
    (ap (at c.insert.new.self.entries) (sym name) ∙ c.insert.ensures.under)
    (λ q differs. c.insert.ensures.other_names q (λ same. differs (same ∙ name)))
    (ap is_some (ap (at c.insert-2.new.self.entries) (sym c.owner_name.ensures) ∙ c.insert-2.ensures.under))
    (λ q differs. c.insert-2.ensures.other_names q (λ same. differs (same ∙ c.owner_name.ensures)))

pub returns-clause-pairs : goal.returns-clause-pairs
returns-clause-pairs g c =
    let name = c.key_name.ensures ∙ append-nil (key_name c.args.key.now c.args.transaction) in
    rw (← c.self.view_is)
    (has-more g.K.PairName.room c.self.inside.by_key.entries c.self.inside.by_owner.entries c.self.invariant c.args.key.now c.args.transaction c.insert.new.self.entries
    c.insert-2.new.self.entries c.insert.result c.requires.short c.requires.fits
    (ap (at c.insert.new.self.entries) (sym name) ∙ c.insert.ensures.under)
    (λ q differs. c.insert.ensures.other_names q (λ same. differs (same ∙ name)))
    (ap is_some (ap (at c.insert-2.new.self.entries) (sym c.owner_name.ensures) ∙ c.insert-2.ensures.under))
    (λ q differs. c.insert-2.ensures.other_names q (λ same. differs (same ∙ c.owner_name.ensures))))
