-- What changes make and put, and what keys hold.
use Rattle.std.specs.Prelude.{ℕ, ◌==◌, ◌&&◌, ◌||◌, not, Bool, true, List, nat_lt}
use Rattle.ktm_world.specs.declared.change.Change.{Change}
use Rattle.ktm_world.specs.declared.change.Change.TheVariants.{Put}
use Rattle.ktm_world.specs.declared.change.Contents.TheVariants.{Whole, Paged}
use Rattle.ktm_keyed.specs.declared.keyed.Keyed.{Keyed}
use Rattle.ktm_world.specs.Changes.{is_empty_list, is_make, node_of}
use Rattle.ktm_world.specs.Keys.{is_bad_key, is_bad_value}

-- is a node that the change makes below the next number
abbrev pub is_made_below : ℕ → Change → Bool
is_made_below next change = not (is_make change) || nat_lt (node_of change) next

-- contents that are put are not empty
abbrev pub puts_some : Change → Bool
puts_some (Put node offset (Whole bytes)) = not (is_empty_list bytes)
puts_some (Put node offset (Paged len pages)) = not (len == 0)
puts_some _ = true

-- is a committed key with its value within the limits
abbrev pub is_good_entry : Keyed (List ℕ) → Bool
is_good_entry x = not (is_bad_key x.key) && not (is_bad_value x.value)
