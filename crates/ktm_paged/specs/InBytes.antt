-- What is recorded with pages, as it is in bytes.
use Rattle.std.specs.Prelude.{◌≡◌, ◌⊎◌, ℕ, List, [], ◌∷◌, ⊤}
use Rattle.ktm_world.specs.declared.change.Change.{Change}
use Rattle.ktm_world.specs.declared.event.Event.{Event}
use Rattle.ktm_world.specs.declared.event.Event.TheVariants.{Plain}
use Rattle.ktm_content.specs.Places.{byte_at}
use Rattle.ktm_world.specs.Changes.{node_of}
use Rattle.ktm_world.specs.Durable.{Durable}
use Rattle.ktm_world.specs.Logs.{Group}
use Rattle.ktm_world.specs.Tree.{bytes_of}
use Rattle.ktm_mapped.specs.Mapped.{mapped_event}
use Rattle.ktm_replaced.specs.Replaced.{AreAlike}
use Rattle.ktm_each.specs.Each.{EachOfDurable}
use Rattle.ktm_paged.specs.Meaning.{meant, meant_event, size_before}
use Rattle.ktm_paged.specs.Paged.{paged_after}

-- a plain call is recorded with pages, and what is meant and the call in bytes leave alike
pub record IsCallInBytes (row : List ℕ) (s : Durable) (recorded asked : Event) : Type 0 where
  pub change : Change
  pub call : Change
  pub recorded_is : recorded ≡ Plain change
  pub asked_is : asked ≡ Plain call
  pub alike : AreAlike (byte_at row) (bytes_of s.tree (node_of change)) (meant (size_before s.tree change) change) call

-- an event that is recorded with pages is this one in bytes: it means this one with the byte at each place, or both are of plain calls that leave alike
abbrev pub IsInBytes : List ℕ → Durable → Event → Event → Type 0
IsInBytes row s recorded asked = (asked ≡ mapped_event (byte_at row) (meant_event s.tree recorded)) ⊎ IsCallInBytes row s recorded asked

-- the events of a group are these in bytes, one after another
abbrev pub AreInBytes : List ℕ → Durable → Group → Group → Type 0
AreInBytes row s [] [] = ⊤
AreInBytes row s (recorded ∷ rest) (asked ∷ others) = IsInBytes row s recorded asked × AreInBytes row (paged_after s recorded) rest others
AreInBytes row s _ _ = ⊥

-- two rows have the same byte at each place of the state
abbrev pub SeeTheSame : List ℕ → List ℕ → Durable → Type 0
SeeTheSame row other s = EachOfDurable (λ file index place. byte_at row place ≡ byte_at other place) s
