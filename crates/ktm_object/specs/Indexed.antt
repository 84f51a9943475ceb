-- How the maps from names stand to the handles. No public clause cites this module.
use Rattle.std.specs.Prelude.{◌≡◌}
use Rattle.ktm_links.specs.declared.list.Key.{Key}
use Rattle.ktm_links.specs.Items.{Listed}
use Rattle.ktm_links.specs.Mapped.{Mapped}
use Rattle.ktm_links.specs.Indexed.{AreDistinct, IsIndex}
use Rattle.ktm_world.specs.declared.object.Handle.{Handle}
use Rattle.ktm_object.specs.Names.{label_name, object_name}

-- the two maps stand for the handles, and no key of one was given out without one of each other
pub record IsIndexed (listed : Listed Handle) (labels objects : Mapped Key) : Type 0 where
  pub by_label : IsIndex label_name listed.items labels.entries
  pub by_object : IsIndex object_name listed.items objects.entries
  pub distinct : AreDistinct listed.items
  pub labels_next : labels.next ≡ listed.next
  pub objects_next : objects.next ≡ listed.next
