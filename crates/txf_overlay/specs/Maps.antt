-- What stands in a map. No public clause cites this module.
use Rattle.std.specs.Prelude.{◌≡◌, ℕ, List, Option}
use Rattle.std.specs.Option.{option_map}
use Rattle.ktm_links.specs.declared.list.Key.{Key}
use Rattle.ktm_links.specs.Mapped.{NamedItem, at, put, without_name}

module _ {T : Type 0} where
  -- the value that the map has under the name
  abbrev pub under : List (NamedItem T) → List ℕ → Option T
  under entries name = option_map (λ e. e.1) (at entries name)

  -- the map has one more value
  pub record IsPut (old new : List (NamedItem T)) (name : List ℕ) (value : T) : Type 0 where
    pub key : Key
    pub entries : new ≡ put old (record { name = name; key = key; value = value })

  -- the map has this value under the name, in place of what it had
  abbrev pub IsSet : List (NamedItem T) → List (NamedItem T) → List ℕ → T → Type 0
  IsSet old new name value = IsPut (without_name old name) new name value
