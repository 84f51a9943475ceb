use Rattle.std.proofs.Common.{◌≡◌, true, is_some, sym, ap, ◌∙◌}
use Rattle.std.proofs.lemmas.List.{append-nil}
use Rattle.ktm_links.specs.Mapped.{at}
use Rattle.txf_reserve.specs.HeldPairs.{key_name, owner_name}
use Rattle.txf_reserve.proofs.Changing.{has-less, has-none, own_key, own_slice, ArePairs-less}
use Rattle.txf_reserve.proofs.Present.{fewer_pairs}
use Rattle.txf_reserve.proofs.pairs.Pairs.remove_next.Goals as goal

pub returns-in_default-clause-none : goal.returns-in_default-clause-none
returns-in_default-clause-none g c =
    rw (← c.self.view_is) (λ _. has-none g.K.PairName.room _ _ c.self.invariant c.args.transaction (rw c.id_bytes.ensures at c.in_default.ensures.none))

pub invariant_of-self : goal.invariant_of-self
invariant_of-self g c =
    let t = c.args.transaction in
    let own =
    own_key g.K.PairName.room c.self.inside.by_key.entries c.self.inside.by_owner.entries c.self.invariant t (g.K.Name.bytes c.in-Some.owner)
    (rw c.id_bytes.ensures at c.in-Some.ensures.begins) c.in-Some.ensures.there in
    let owner : c.as_slice-owner.result.now ≡ owner_name t own.0.key = c.as_slice-owner.ensures ∙ own.1 in
    let name : c.as_slice.result.now ≡ key_name own.0.key t =
    c.as_slice.ensures ∙ c.key_name-name.ensures ∙ append-nil _ ∙ ap (λ k. key_name k t) (own_slice t own.0.key c.as_slice-owner.result.now owner) in
    ArePairs-less g.K.PairName.room c.self.inside.by_key.entries c.self.inside.by_owner.entries c.self.invariant own.0.key t c.remove.new.self.entries c.remove-2.new.self.entries
    (ap (at c.remove.new.self.entries) (sym name) ∙ c.remove.ensures.gone)
    (λ q differs. c.remove.ensures.other_names q (λ same. differs (same ∙ name)))
    (ap (at c.remove-2.new.self.entries) (sym owner) ∙ c.remove-2.ensures.gone)
    (λ q differs. c.remove-2.ensures.other_names q (λ same. differs (same ∙ owner)))

pub returns-clause-fewer : goal.returns-clause-fewer
returns-clause-fewer g c =
    let there : is_some (at c.self.inside.by_owner.entries c.as_slice-owner.result.now) ≡ true =
    ap (λ q. is_some (at c.self.inside.by_owner.entries q)) c.as_slice-owner.ensures ∙ c.in-Some.ensures.there in
    λ _. rw (c.remove-2.ensures.entries, ← c.self.view_is)
    (fewer_pairs g.K.PairName.room c.self.inside.by_owner.entries c.as_slice-owner.result.now there)

pub returns-clause-others : goal.returns-clause-others
returns-clause-others g c =
    let t = c.args.transaction in
    let own =
    own_key g.K.PairName.room c.self.inside.by_key.entries c.self.inside.by_owner.entries c.self.invariant t (g.K.Name.bytes c.in-Some.owner)
    (rw c.id_bytes.ensures at c.in-Some.ensures.begins) c.in-Some.ensures.there in
    let owner : c.as_slice-owner.result.now ≡ owner_name t own.0.key = c.as_slice-owner.ensures ∙ own.1 in
    let name : c.as_slice.result.now ≡ key_name own.0.key t =
    c.as_slice.ensures ∙ c.key_name-name.ensures ∙ append-nil _ ∙ ap (λ k. key_name k t) (own_slice t own.0.key c.as_slice-owner.result.now owner) in
    rw (← c.self.view_is)
    (has-less g.K.PairName.room c.self.inside.by_key.entries c.self.inside.by_owner.entries c.self.invariant own.0.key t c.remove.new.self.entries c.remove-2.new.self.entries
    (ap (at c.remove.new.self.entries) (sym name) ∙ c.remove.ensures.gone)
    (λ q differs. c.remove.ensures.other_names q (λ same. differs (same ∙ name)))
    (ap (at c.remove-2.new.self.entries) (sym owner) ∙ c.remove-2.ensures.gone)
    (λ q differs. c.remove-2.ensures.other_names q (λ same. differs (same ∙ owner))))
