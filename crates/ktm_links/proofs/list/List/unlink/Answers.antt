use Rattle.std.proofs.Common.{◌≡◌, ◌∙◌, ap, sym, true, false, is_some, refl}
use Rattle.ktm_links.specs.Items.{Listed, value_at, without}
use Rattle.ktm_links.proofs.Segments.{is_linked, walk-linked}
use Rattle.ktm_links.proofs.offered.Keys.{split, without-absent, KeepsSpent-without, value_at-others}
use Rattle.ktm_links.proofs.Linked.{present, removed_value, unlinked_key, value_at-removed, generation_before}
use Rattle.ktm_links.proofs.list.List.unlink.Goals as goal

pub returns-then-not-contains-clause-items : goal.returns-then-not-contains-clause-items
returns-then-not-contains-clause-items g c =
    let none : is_some (value_at c.args.self.now.items c.args.key) ≡ false = cc in
    without-absent _ _ none

pub remove-entry-requires : goal.remove-entry-requires
remove-entry-requires g c =
    let some : is_some (value_at c.args.self.now.items c.args.key) ≡ true = cc in
    present _ _ _ _ _ _ c.self.invariant (split _ _ (rw (← c.self.view_is) at some))

pub invariant_of-self : goal.invariant_of-self
invariant_of-self g c =
    let some : is_some (value_at c.args.self.now.items c.args.key) ≡ true = cc in
    let linked = unlinked_key _ _ _ _ _ _ _ _ _ c.remove-entry.result (split _ _ (rw (← c.self.view_is) at some)) c.self.invariant c.remove-entry.ensures.value c.remove-entry.ensures.updates c.remove-entry.ensures.len c.set_after.ensures.sets c.set_after.ensures.len c.set_before.ensures.sets c.set_before.ensures.len in
    is_linked _ _ _ _ _ (rw (← c.beside_or-self-inside.ensures, ← c.beside_or-self-inside-2.ensures) at linked)

pub returns-clause-value : goal.returns-clause-value
returns-clause-value g c =
    let some : is_some (value_at c.args.self.now.items c.args.key) ≡ true = cc in
    rw (← c.self.view_is)
    (removed_value _ _ _ _ _ _ c.remove-entry.result c.self.invariant (split _ _ (rw (← c.self.view_is) at some)) c.remove-entry.ensures.value)

pub returns-clause-items : goal.returns-clause-items
returns-clause-items g c =
    let some : is_some (value_at c.args.self.now.items c.args.key) ≡ true = cc in
    let linked = unlinked_key _ _ _ _ _ _ _ _ _ c.remove-entry.result (split _ _ (rw (← c.self.view_is) at some)) c.self.invariant c.remove-entry.ensures.value c.remove-entry.ensures.updates c.remove-entry.ensures.len c.set_after.ensures.sets c.set_after.ensures.len c.set_before.ensures.sets c.set_before.ensures.len in
    walk-linked _ _ _ _ _ (rw (← c.beside_or-self-inside.ensures, ← c.beside_or-self-inside-2.ensures) at linked)
    ∙ ap (λ (l : Listed _). without l.items c.args.key) c.self.view_is

pub returns-clause-spent : goal.returns-clause-spent
returns-clause-spent g c =
    KeepsSpent-without _ _ c.args.key (returns-clause-items g c) (rw (← c.self.view_is) refl)

pub returns-clause-gone : goal.returns-clause-gone
returns-clause-gone g c =
    let some : is_some (value_at c.args.self.now.items c.args.key) ≡ true = cc in
    let at = split _ _ (rw (← c.self.view_is) at some) in
    record {
      before = generation_before _ _ _ c.self.invariant.below at;
      gone =
          ap (λ l. value_at l c.args.key) (returns-clause-items g c)
          ∙ (rw (← c.self.view_is) (value_at-removed _ _ c.self.invariant.distinct at));
    }

pub returns-clause-others : goal.returns-clause-others
returns-clause-others g c = λ k differs.
    ap (λ l. value_at l k) (returns-clause-items g c)
    ∙ value_at-others c.args.self.now.items c.args.key k (λ same. differs (sym same))
