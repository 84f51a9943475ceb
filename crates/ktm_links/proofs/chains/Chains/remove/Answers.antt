use Rattle.std.proofs.Common.{◌≡◌, ◌∙◌, None, ap, refl, sym}
use Rattle.std.specs.Option.{option_map}
use Rattle.ktm_links.specs.Items.{value_at, without}
use Rattle.ktm_links.specs.Mapped.{NameAndValue, Mapped}
use Rattle.ktm_links.specs.Mapped.{at, key_at, value_of, without_name}
use Rattle.ktm_links.proofs.InOrder.{taken, taken_spent, order_taken, absent}
use Rattle.ktm_links.specs.Blocks.{index_of}
use Rattle.ktm_links.proofs.Blocks.{within}
use Rattle.ktm_links.proofs.offered.Keys.{gone_at}
use Rattle.ktm_links.proofs.offered.Entries.{none_at, at-without_same, at-without_other, value_of-without_other, KeepsSpent-without_name}
use Rattle.ktm_links.proofs.chains.Chains.remove.Goals as goal

pub invariant_of-self : goal.invariant_of-self
invariant_of-self g c =
    let t = taken _ c.args.name.now _ (index_of c.self.inside.order.blocks c.in-Ok.spot) c.remove-key.result c.self.invariant (within _ c.in-Ok.spot (rw c.as_blocks.ensures.blocks at c.in-Ok.ensures.spot)) (rw c.as_blocks.ensures.blocks at c.in-Ok.ensures.position) c.remove-key.ensures.key in
    let gone : value_at (without c.self.inside.values.items c.remove-key.result) c.remove-key.result ≡ None = gone_at _ _ _ _ _ c.unlink.ensures.gone (c.unlink.ensures.value ∙ t.stood) c.unlink.ensures.items in
    rw (c.unlink.ensures.items, c.remove-key.ensures.keys) (order_taken _ _ _ _ _ c.self.invariant t c.remove-key.ensures.key gone)

pub returns-in-Ok-clause-value : goal.returns-in-Ok-clause-value
returns-in-Ok-clause-value g c =
    let t = taken _ c.args.name.now _ (index_of c.self.inside.order.blocks c.in-Ok.spot) c.remove-key.result c.self.invariant (within _ c.in-Ok.spot (rw c.as_blocks.ensures.blocks at c.in-Ok.ensures.spot)) (rw c.as_blocks.ensures.blocks at c.in-Ok.ensures.position) c.remove-key.ensures.key in
    rw (← c.self.view_is)
    (c.value_in.ensures
    ∙ ap (λ o. option_map (λ (n : NameAndValue _). n.value) o) (c.unlink.ensures.value ∙ t.stood)
    ∙ sym (ap (λ o. option_map (λ e. e.1) o) t.found))

pub returns-in-Ok-clause-entries : goal.returns-in-Ok-clause-entries
returns-in-Ok-clause-entries g c =
    let t = taken _ c.args.name.now _ (index_of c.self.inside.order.blocks c.in-Ok.spot) c.remove-key.result c.self.invariant (within _ c.in-Ok.spot (rw c.as_blocks.ensures.blocks at c.in-Ok.ensures.spot)) (rw c.as_blocks.ensures.blocks at c.in-Ok.ensures.position) c.remove-key.ensures.key in
    rw (c.unlink.ensures.items, c.remove-key.ensures.keys) t.entries
    ∙ ap (λ (m : Mapped _). without_name m.entries c.args.name.now) c.self.view_is

pub returns-in-Ok-clause-gone : goal.returns-in-Ok-clause-gone
returns-in-Ok-clause-gone g c =
    ap (λ es. at es c.args.name.now) (returns-in-Ok-clause-entries g c)
    ∙ rw (← c.self.view_is) (at-without_same _ c.args.name.now c.self.invariant.rising)

pub returns-in-Ok-clause-other_names : goal.returns-in-Ok-clause-other_names
returns-in-Ok-clause-other_names g c = λ q differs.
    ap (λ es. at es q) (returns-in-Ok-clause-entries g c) ∙ at-without_other c.args.self.now.entries c.args.name.now q differs

pub returns-in-Err-clause-value : goal.returns-in-Err-clause-value
returns-in-Err-clause-value g c =
    let free = absent _ _ _ _ c.self.invariant (rw c.as_blocks.ensures.blocks at c.in-Err.ensures.position) in
    rw (← c.self.view_is) (ap (λ o. option_map (λ e. e.1) o) (none_at _ c.args.name.now free).0)

pub returns-in-Err-clause-entries : goal.returns-in-Err-clause-entries
returns-in-Err-clause-entries g c =
    let free = absent _ _ _ _ c.self.invariant (rw c.as_blocks.ensures.blocks at c.in-Err.ensures.position) in
    rw (← c.self.view_is) (none_at _ c.args.name.now free).1

pub returns-in-Err-clause-gone : goal.returns-in-Err-clause-gone
returns-in-Err-clause-gone g c =
    let free = absent _ _ _ _ c.self.invariant (rw c.as_blocks.ensures.blocks at c.in-Err.ensures.position) in
    rw (← c.self.view_is) (sym (none_at _ c.args.name.now free).0)

pub returns-in-Ok-clause-keys : goal.returns-in-Ok-clause-keys
returns-in-Ok-clause-keys g c = record {
  now = λ k is.
      let t = taken _ c.args.name.now _ (index_of c.self.inside.order.blocks c.in-Ok.spot) c.remove-key.result c.self.invariant (within _ c.in-Ok.spot (rw c.as_blocks.ensures.blocks at c.in-Ok.ensures.spot)) (rw c.as_blocks.ensures.blocks at c.in-Ok.ensures.position) c.remove-key.ensures.key in
      taken_spent _ _ _ _ _ _ _ _ t c.unlink.ensures.gone c.unlink.ensures.value c.unlink.ensures.items
      (rw (c.unlink.ensures.items, c.remove-key.ensures.keys) refl) refl k
      (ap (λ (m : Mapped _). key_at m.entries c.args.name.now) c.self.view_is ∙ is);
  others = λ k differs.
      ap (λ es. value_of es k) (returns-in-Ok-clause-entries g c) ∙ value_of-without_other c.args.self.now.entries c.args.name.now k differs;
  still = KeepsSpent-without_name _ _ c.args.name.now (returns-in-Ok-clause-entries g c) (rw (← c.self.view_is) c.unlink.ensures.next);
}

pub returns-in-Err-clause-keys : goal.returns-in-Err-clause-keys
returns-in-Err-clause-keys g c = record {
  now = λ k is.
      let some =
      absent _ _ _ _ c.self.invariant (rw c.as_blocks.ensures.blocks at c.in-Err.ensures.position)
      ∙ ap (λ (m : Mapped _). key_at m.entries c.args.name.now) c.self.view_is
      ∙ is in
      absurd (cc);
  others = λ k differs. refl;
  still = λ k spent. spent;
}
