-- What a list and a map end as, once a `&mut` to one of their values has ended.
use Rattle.std.specs.Prelude.{ℕ, List, Option}
use Rattle.std.specs.Borrow.{Lends, LendsIf, Fml, RattleType, MutBor}
use Rattle.ktm_links.specs.declared.list.Key.{Key}
use Rattle.ktm_links.specs.declared.name.Name as name
use Rattle.ktm_links.specs.Items.{Listed, with_value}
use Rattle.ktm_links.specs.Mapped.{Mapped, NameAndValue, with_value as with_named}
use Rattle.ktm_links.specs.Order.{revalued}
use Rattle.ktm_links.specs.contracts.chains.Chains.{the_row as chains_row}
use Rattle.ktm_links.specs.contracts.list.List.{the_row}
use Rattle.ktm_links.specs.contracts.named.Named.{the_row as named_row}

module _ (T : RattleType) (list : MutBor (Listed T.Denot)) (key : Key) where
  -- the key names the last value written through r
  abbrev pub lends_value : MutBor T.Denot → Fml
  lends_value r = Lends (the_row T) T list r (λ w. record list.now { items = with_value list.now.items key w })

  -- where r is a reference, the key names the last value written through it, and at `None` the list stays as it is
  abbrev pub lends_get : Option (MutBor T.Denot) → Fml
  lends_get r = LendsIf (the_row T) T list r (λ w. record list.now { items = with_value list.now.items key w }) list.now

module _ (K T : RattleType) (g : name.Ghosts K.Denot) where
  -- the last value written through r stands under its name
  abbrev pub lends_named : MutBor (NameAndValue T.Denot) → MutBor T.Denot → Fml
  lends_named n r = Lends (named_row K T g) T n r (λ w. record n.now { value = w })

  -- the last value written through r stands under the name of the key, and at `None` the list stays as it is
  abbrev pub lends_item : MutBor (Listed (NameAndValue T.Denot)) → Key → Option (MutBor T.Denot) → Fml
  lends_item list key r = LendsIf (the_row (named_row K T g)) T list r (λ w. record list.now { items = revalued list.now.items key w }) list.now

  -- the last value written through r stands under the name, and at `None` the map stays as it is
  abbrev pub lends_found : MutBor (Mapped T.Denot) → List ℕ → Option (MutBor T.Denot) → Fml
  lends_found map name r = LendsIf (chains_row K T g) T map r (λ w. record map.now { entries = with_named map.now.entries name w }) map.now
