use Rattle.std.proofs.Common.{◌≡◌, ℕ, false, List, [], ◌∷◌, refl, sym, ◌∙◌, ap, subst}
use Rattle.std.specs.Ordering.{is_lt}
use Rattle.ktm_links.specs.declared.list.Key.{Key}
use Rattle.ktm_links.specs.Mapped.{NamedItem, entries_from, name_cmp}
use Rattle.txf_nodes.specs.Indexes.{nodes_of, AreNumbered}
use Rattle.txf_nodes.specs.NodesState.{NodesState}
use Rattle.txf_nodes.proofs.nodes.Nodes.by_number.Goals as goal

not_below : (name : List ℕ) → is_lt (name_cmp name []) ≡ false
not_below [] = refl
not_below (byte ∷ bytes) = refl

-- no name is below that of no byte
all_entries : (es : List (NamedItem Key)) → entries_from es [] ≡ es
all_entries [] = refl
all_entries (e ∷ es) = rw (not_below e.name) refl

pub new-requires : goal.new-requires
new-requires g c =
    subst (λ (es : List (NamedItem Key)). AreNumbered c.self.inside.nodes.items es) (sym (c.walk_from.ensures.entries ∙ all_entries c.self.inside.numbers.entries)) c.self.invariant.all

pub returns : goal.returns
returns g c =
    c.new.ensures ∙ ap (λ (es : List (NamedItem Key)). nodes_of c.self.inside.nodes.items es) (c.walk_from.ensures.entries ∙ all_entries c.self.inside.numbers.entries)
    ∙ ap (λ (s : NodesState _). s.nodes) c.self.view_is
