-- What a contract sees of the handles.
use Rattle.std.specs.Prelude.{ℕ, not, List, [], ◌∷◌, Option, Some, None, if◌then◌else◌}
use Rattle.std.specs.Option.{option_map}
use Rattle.ktm_base.specs.declared.id.Label.{Label}
use Rattle.ktm_base.specs.declared.id.Pid.{Pid}
use Rattle.ktm_world.specs.declared.object.Handle.{Handle}
use Rattle.ktm_world.specs.declared.object.Object.{Object}
use Rattle.ktm_world.specs.Handles.{object_at}
use Rattle.ktm_world.specs.HandleCalls.{has_handle, is_handle, without_handle}
use Rattle.ktm_object.specs.declared.closed.Closed.{Closed}

-- the handles in the order in which they were bound, how many were ever bound, and how many can be bound without memory
pub record HandleTable : Type 0 where
  pub handles : List Handle
  pub ever : ℕ
  pub spare : ℕ

-- the handle that the process has under the label
abbrev pub handle_at : List Handle → Pid → Label → Option Handle
handle_at [] process label = None
handle_at (h ∷ hs) process label = if is_handle process label h then Some h else handle_at hs process label

-- what is told where the handle of an object is closed: whether no other handle names it, too
abbrev pub closing : List Handle → Pid → Label → Object → Closed
closing handles process label object =
    record { label = label; object = object; is_last = not (has_handle (without_handle handles process label) object) }

-- what is told where the label is closed, if it is bound
abbrev pub closed_of : List Handle → Pid → Label → Option Closed
closed_of handles process label = option_map (closing handles process label) (object_at handles process label)

-- the first of the labels
abbrev pub first_label : List Label → Option Label
first_label [] = None
first_label (l ∷ ls) = Some l
