-- What the rows compute with.
use Rattle.std.specs.Prelude.{ℕ}
use Rattle.ktm_base.specs.Names.{folded_byte, is_name_byte, matches}
use Rattle.ktm_world.specs.Conflicts.{conflicts, violates_sharing}
use Rattle.ktm_world.specs.Durable.{is_within_limits}
use Rattle.ktm_world.specs.FileCalls.{find_path, create_file, create_file_tests, read_file_tests, read_file, write_file, write_file_tests, write_units_tests, set_end, set_end_tests, get_size, delete_file, delete_file_tests, create_directory, create_directory_tests, remove_directory, remove_directory_tests, move_file, move_file_tests, find_files_tests, find_files}
use Rattle.ktm_world.specs.FileOutcome.{lacks_quota, lacks_disk}
use Rattle.ktm_world.specs.FileUses.{units_used, nodes_used, file_changes_waiting}
use Rattle.ktm_world.specs.HandleCalls.{close_handle, exit, duplicate_handle, duplicate_handle_tests}
use Rattle.ktm_world.specs.Holds.{meets}
use Rattle.ktm_world.specs.Paths.{is_name, is_last_part, path_of, pattern_of}
use Rattle.ktm_world.specs.Phases.{ended}
use Rattle.ktm_world.specs.Steps.{led}
use Rattle.ktm_world.specs.TransactionCalls.{create_transaction, create_transaction_tests, open_transaction, open_transaction_tests, commit_transaction, rollback_transaction, get_transaction_information, tick, create_resource_manager, create_resource_manager_tests, open_resource_manager, open_resource_manager_tests, recover_resource_manager, get_notification, create_enlistment, create_enlistment_tests, open_enlistment, open_enlistment_tests, pre_prepare_complete, prepare_complete, read_only_enlistment, commit_complete, rollback_complete, single_phase_reject, rollback_enlistment, pre_prepare_enlistment, prepare_enlistment, commit_enlistment, recover_enlistment, set_information, get_information}
use Rattle.ktm_world.specs.Uses.{changes_waiting, file_room, key_room, is_over_quota, is_over_disk}

-- to unfold this is to unfold every definition of the model
unfoldable pub computed : ℕ
unfolding folded_byte is_name_byte matches conflicts violates_sharing is_within_limits find_path create_file create_file_tests read_file_tests read_file write_file write_file_tests write_units_tests set_end set_end_tests get_size delete_file delete_file_tests create_directory create_directory_tests remove_directory remove_directory_tests move_file move_file_tests find_files_tests find_files close_handle exit duplicate_handle duplicate_handle_tests meets is_name is_last_part path_of pattern_of ended led create_transaction create_transaction_tests open_transaction open_transaction_tests commit_transaction rollback_transaction get_transaction_information tick create_resource_manager create_resource_manager_tests open_resource_manager open_resource_manager_tests recover_resource_manager get_notification create_enlistment create_enlistment_tests open_enlistment open_enlistment_tests pre_prepare_complete prepare_complete read_only_enlistment commit_complete rollback_complete single_phase_reject rollback_enlistment pre_prepare_enlistment prepare_enlistment commit_enlistment recover_enlistment set_information get_information units_used nodes_used file_changes_waiting changes_waiting file_room key_room is_over_quota is_over_disk lacks_quota lacks_disk
computed = 0
