-- What is done to the bytes of a file. No public clause cites this module.
use Rattle.std.specs.Prelude.{ℕ, ◌+◌, ◌≤◌, List, length}
use Rattle.ktm_content.specs.Places.{CanBePut}
use Rattle.ktm_world.specs.Tree.{cut_to, put_over}
use Rattle.txf_overlay.specs.declared.written.Edit.{Edit}
use Rattle.txf_overlay.specs.declared.written.Edit.TheVariants.{Put, Cut}

-- a part that is put can be put unit by unit, and no more bytes are left than there are
abbrev pub CanEdit : List ℕ → Edit → Type 0
CanEdit bytes (Put start part) = CanBePut bytes start part
CanEdit bytes (Cut size) = size ≤ length bytes

-- the bytes behind it
abbrev pub edited : List ℕ → Edit → List ℕ
edited bytes (Put start part) = put_over bytes start part
edited bytes (Cut size) = cut_to bytes size

-- how far the bytes reach that are put, or left
abbrev pub reach : Edit → ℕ
reach (Put start part) = start + length part
reach (Cut size) = size
