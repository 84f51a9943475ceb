use Rattle.std.specs.Prelude.{Some, refl}
use Rattle.ktm_world.specs.declared.command.Command.TheVariants.{CreateFileTransacted, DeleteFileTransacted, CreateDirectoryTransacted, RemoveDirectoryTransacted, MoveFileTransacted, FindFilesTransacted}
use Rattle.ktm_world.specs.Decide.{caller}
use Rattle.ktm_world.specs.FileCalls.{create_directory_tests, delete_file_tests, find_files_tests, move_file_tests, remove_directory_tests}
use Rattle.ktm_world.specs.Labels.{transaction_named, transaction_tests}
use Rattle.ktm_world.specs.Uses.{file_room}
use Rattle.txf_calls.specs.declared.call.FileCall.TheVariants.{Create, Delete, Find, MakeDirectory, Move, RemoveDirectory}
use Rattle.ktm_memory.specs.Memory.{present_of}
use Rattle.ktm_route.proofs.Routes.{refused_first}
use Rattle.ktm_route.proofs.FileRoutes.{create_transacted, create_transacted_refused, delete_transacted, find_transacted, handed_on, make_transacted, move_transacted, opening_routes, remove_transacted, transacted_routes}
use Rattle.ktm_route.proofs.file_routes.route_transacted.Goals as goal

pub returns-in_err-t-in-CreateFileTransacted : goal.returns-in_err-t-in-CreateFileTransacted
returns-in_err-t-in-CreateFileTransacted c =
    let x = present_of c.args.memory.now in
    rw c.in-CreateFileTransacted.is (handed_on x c.args.process (CreateFileTransacted c.in-CreateFileTransacted.label c.in-CreateFileTransacted.path c.in-CreateFileTransacted.access c.in-CreateFileTransacted.share c.in-CreateFileTransacted.disposition c.in-CreateFileTransacted.transaction) c.from_residual.result c.in_err-t-in-CreateFileTransacted.field-0.0 c.from_residual.ensures.1
    (refused_first x c.args.process (CreateFileTransacted c.in-CreateFileTransacted.label c.in-CreateFileTransacted.path c.in-CreateFileTransacted.access c.in-CreateFileTransacted.share c.in-CreateFileTransacted.disposition c.in-CreateFileTransacted.transaction) (transaction_tests (transaction_named x c.args.process c.in-CreateFileTransacted.transaction)) _ c.in_err-t-in-CreateFileTransacted.field-0.0 c.requires.up refl (c.in_err-t-in-CreateFileTransacted.ensures.err)))

pub returns-in_ok-t-in-CreateFileTransacted : goal.returns-in_ok-t-in-CreateFileTransacted
returns-in_ok-t-in-CreateFileTransacted c =
    let x = present_of c.args.memory.now in
    let t = c.in_ok-t-in-CreateFileTransacted.t in
    let (named, passed) = c.in_ok-t-in-CreateFileTransacted.ensures.ok in
    rw c.in-CreateFileTransacted.is (opening_routes x c.args.process (CreateFileTransacted c.in-CreateFileTransacted.label c.in-CreateFileTransacted.path c.in-CreateFileTransacted.access c.in-CreateFileTransacted.share c.in-CreateFileTransacted.disposition c.in-CreateFileTransacted.transaction)
    (Some t.id) c.in-CreateFileTransacted.label (Create c.in-CreateFileTransacted.path c.in-CreateFileTransacted.access c.in-CreateFileTransacted.share c.in-CreateFileTransacted.disposition) c.to_open_file.result c.to_open_file.ensures.ok c.to_open_file.ensures.err
    (create_transacted x c.args.process c.requires.up c.law_of_files.ensures c.requires.standing c.requires.counts c.in-CreateFileTransacted.transaction t named passed c.in-CreateFileTransacted.label c.in-CreateFileTransacted.path c.in-CreateFileTransacted.access c.in-CreateFileTransacted.share c.in-CreateFileTransacted.disposition (rw c.in-CreateFileTransacted.is at c.requires.command))
    (create_transacted_refused x c.args.process c.requires.up c.law_of_files.ensures c.requires.standing c.requires.counts c.in-CreateFileTransacted.transaction t named passed c.in-CreateFileTransacted.label c.in-CreateFileTransacted.path c.in-CreateFileTransacted.access c.in-CreateFileTransacted.share c.in-CreateFileTransacted.disposition))

pub returns-in-DeleteFileTransacted : goal.returns-in-DeleteFileTransacted
returns-in-DeleteFileTransacted c =
    let x = present_of c.args.memory.now in
    rw c.in-DeleteFileTransacted.is (transacted_routes x c.args.process (DeleteFileTransacted c.in-DeleteFileTransacted.path c.in-DeleteFileTransacted.transaction) c.in-DeleteFileTransacted.transaction (Delete c.in-DeleteFileTransacted.path)
    (delete_file_tests x.files (file_room x) (caller x c.args.process c.in-DeleteFileTransacted.transaction) c.in-DeleteFileTransacted.path) c.to_transacted.result c.to_transacted.ensures.ok c.to_transacted.ensures.err c.requires.up refl
    (λ t named passed. delete_transacted x c.args.process c.requires.up c.law_of_files.ensures c.requires.standing c.requires.counts c.in-DeleteFileTransacted.transaction t named passed c.in-DeleteFileTransacted.path (rw c.in-DeleteFileTransacted.is at c.requires.command)))

pub returns-in-CreateDirectoryTransacted : goal.returns-in-CreateDirectoryTransacted
returns-in-CreateDirectoryTransacted c =
    let x = present_of c.args.memory.now in
    rw c.in-CreateDirectoryTransacted.is (transacted_routes x c.args.process (CreateDirectoryTransacted c.in-CreateDirectoryTransacted.path c.in-CreateDirectoryTransacted.transaction) c.in-CreateDirectoryTransacted.transaction (MakeDirectory c.in-CreateDirectoryTransacted.path)
    (create_directory_tests x.files (file_room x) (caller x c.args.process c.in-CreateDirectoryTransacted.transaction) c.in-CreateDirectoryTransacted.path) c.to_transacted-in-CreateDirectoryTransacted.result c.to_transacted-in-CreateDirectoryTransacted.ensures.ok c.to_transacted-in-CreateDirectoryTransacted.ensures.err c.requires.up refl
    (λ t named passed. make_transacted x c.args.process c.requires.up c.law_of_files.ensures c.requires.standing c.requires.counts c.in-CreateDirectoryTransacted.transaction t named passed c.in-CreateDirectoryTransacted.path (rw c.in-CreateDirectoryTransacted.is at c.requires.command)))

pub returns-in-RemoveDirectoryTransacted : goal.returns-in-RemoveDirectoryTransacted
returns-in-RemoveDirectoryTransacted c =
    let x = present_of c.args.memory.now in
    rw c.in-RemoveDirectoryTransacted.is (transacted_routes x c.args.process (RemoveDirectoryTransacted c.in-RemoveDirectoryTransacted.path c.in-RemoveDirectoryTransacted.transaction) c.in-RemoveDirectoryTransacted.transaction (RemoveDirectory c.in-RemoveDirectoryTransacted.path)
    (remove_directory_tests x.files (file_room x) (caller x c.args.process c.in-RemoveDirectoryTransacted.transaction) c.in-RemoveDirectoryTransacted.path) c.to_transacted-in-RemoveDirectoryTransacted.result c.to_transacted-in-RemoveDirectoryTransacted.ensures.ok c.to_transacted-in-RemoveDirectoryTransacted.ensures.err c.requires.up refl
    (λ t named passed. remove_transacted x c.args.process c.requires.up c.law_of_files.ensures c.requires.standing c.requires.counts c.in-RemoveDirectoryTransacted.transaction t named passed c.in-RemoveDirectoryTransacted.path (rw c.in-RemoveDirectoryTransacted.is at c.requires.command)))

pub returns-in-MoveFileTransacted : goal.returns-in-MoveFileTransacted
returns-in-MoveFileTransacted c =
    let x = present_of c.args.memory.now in
    rw c.in-MoveFileTransacted.is (transacted_routes x c.args.process (MoveFileTransacted c.in-MoveFileTransacted.source c.in-MoveFileTransacted.target c.in-MoveFileTransacted.transaction) c.in-MoveFileTransacted.transaction (Move c.in-MoveFileTransacted.source c.in-MoveFileTransacted.target)
    (move_file_tests x.files (file_room x) (caller x c.args.process c.in-MoveFileTransacted.transaction) c.in-MoveFileTransacted.source c.in-MoveFileTransacted.target) c.to_transacted-in-MoveFileTransacted.result c.to_transacted-in-MoveFileTransacted.ensures.ok c.to_transacted-in-MoveFileTransacted.ensures.err c.requires.up refl
    (λ t named passed. move_transacted x c.args.process c.requires.up c.law_of_files.ensures c.requires.standing c.requires.counts c.in-MoveFileTransacted.transaction t named passed c.in-MoveFileTransacted.source c.in-MoveFileTransacted.target (rw c.in-MoveFileTransacted.is at c.requires.command)))

pub returns-in-FindFilesTransacted : goal.returns-in-FindFilesTransacted
returns-in-FindFilesTransacted c =
    let x = present_of c.args.memory.now in
    rw c.in-FindFilesTransacted.is (transacted_routes x c.args.process (FindFilesTransacted c.in-FindFilesTransacted.pattern c.in-FindFilesTransacted.transaction) c.in-FindFilesTransacted.transaction (Find c.in-FindFilesTransacted.pattern)
    (find_files_tests x.files (caller x c.args.process c.in-FindFilesTransacted.transaction) c.in-FindFilesTransacted.pattern) c.to_transacted-in-FindFilesTransacted.result c.to_transacted-in-FindFilesTransacted.ensures.ok c.to_transacted-in-FindFilesTransacted.ensures.err c.requires.up refl
    (λ t named passed. find_transacted x c.args.process c.requires.up c.law_of_files.ensures c.requires.standing c.requires.counts c.in-FindFilesTransacted.transaction t named passed c.in-FindFilesTransacted.pattern (rw c.in-FindFilesTransacted.is at c.requires.command)))
