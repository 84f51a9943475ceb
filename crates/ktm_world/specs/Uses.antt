-- What is in use, the limits on it, and the room that the files and the keys have.
use Rattle.std.specs.Prelude.{ℕ, ◌+◌, ◌-◌, ◌||◌, Bool, length, count_by, nat_lt}
use Rattle.ktm_base.specs.declared.limits.TheConstants.{MOST_LIVE, MOST_HANDLES, MOST_NUMBER, END_OF_NODES}
use Rattle.ktm_world.specs.FileOutcome.{FileRoom}
use Rattle.ktm_world.specs.FileUses.{file_changes_waiting, nodes_used, units_used}
use Rattle.ktm_world.specs.KeyCalls.{KeyRoom}
use Rattle.ktm_world.specs.Keys.{keys_used, changes_pending as keys_unset}
use Rattle.ktm_world.specs.Transactions.{is_live}
use Rattle.ktm_world.specs.Enlistments.{is_live_enlistment}
use Rattle.ktm_world.specs.Present.{Present}

-- the changes that wait: those of files, and the keys that undecided transactions unset
unfoldable pub changes_waiting : Present → ℕ
changes_waiting x = file_changes_waiting x.files + keys_unset x.keys

-- the room that the keys have: as many keys as the image has units, and as many changes less those of files
unfoldable pub key_room : Present → KeyRoom
key_room x = record { keys = x.recorded.units; changes = x.recorded.units - file_changes_waiting x.files }

-- the room that the files have: the handles that are free, as many changes as the image has units, less those of keys, and its units
unfoldable pub file_room : Present → FileRoom
file_room x = record { handles = MOST_HANDLES - length x.handles; changes = x.recorded.units - keys_unset x.keys; units = x.recorded.units }

-- is a quota passed: pending changes; live transactions, live enlistments and resource managers; handles; the numbers of objects and nodes
unfoldable pub is_over_quota : Present → Bool
is_over_quota x =
    nat_lt x.recorded.units (changes_waiting x)
    || nat_lt MOST_LIVE (count_by is_live x.transactions.items)
    || nat_lt MOST_LIVE (count_by (is_live_enlistment x.transactions.items) x.transactions.enlistments)
    || nat_lt MOST_LIVE (length x.managers)
    || nat_lt MOST_HANDLES (length x.handles)
    || nat_lt MOST_NUMBER x.transactions.last_transaction
    || nat_lt MOST_NUMBER x.transactions.last_manager
    || nat_lt MOST_NUMBER x.transactions.last_enlistment
    || nat_lt MOST_NUMBER x.files.table.last_open
    || nat_lt END_OF_NODES x.files.table.next_node

-- is the disk too full: more units, nodes or keys than the image has units
unfoldable pub is_over_disk : Present → Bool
is_over_disk x = nat_lt x.recorded.units (units_used x.files) || nat_lt x.recorded.units (nodes_used x.files) || nat_lt x.recorded.units (keys_used x.keys)
