use Rattle.ktm_world.specs.declared.command.Command.TheVariants.{CreateFile}
use Rattle.txf_calls.specs.declared.call.FileCall.TheVariants.{Create}
use Rattle.ktm_memory.specs.Memory.{present_of}
use Rattle.ktm_route.proofs.FileRoutes.{create_refused, create_routed, delete_routed, find_routed, make_routed, move_routed, opening_routes, remove_routed}
use Rattle.std.specs.Prelude.{None}
use Rattle.ktm_route.proofs.file_routes.route_path.Goals as goal

pub returns-in-CreateFile : goal.returns-in-CreateFile
returns-in-CreateFile c =
    let x = present_of c.args.memory.now in
    rw c.in-CreateFile.is (opening_routes x c.args.process (CreateFile c.in-CreateFile.label c.in-CreateFile.path c.in-CreateFile.access c.in-CreateFile.share c.in-CreateFile.disposition)
    None c.in-CreateFile.label (Create c.in-CreateFile.path c.in-CreateFile.access c.in-CreateFile.share c.in-CreateFile.disposition) c.to_open_file.result c.to_open_file.ensures.ok c.to_open_file.ensures.err
    (create_routed x c.args.process c.requires.up c.law_of_files.ensures c.requires.standing c.requires.counts c.in-CreateFile.label c.in-CreateFile.path c.in-CreateFile.access c.in-CreateFile.share c.in-CreateFile.disposition (rw c.in-CreateFile.is at c.requires.command))
    (create_refused x c.args.process c.requires.up c.law_of_files.ensures c.requires.standing c.requires.counts c.in-CreateFile.label c.in-CreateFile.path c.in-CreateFile.access c.in-CreateFile.share c.in-CreateFile.disposition))

pub returns-in-DeleteFile : goal.returns-in-DeleteFile
returns-in-DeleteFile c =
    let x = present_of c.args.memory.now in
    rw (c.in-DeleteFile.is, c.of_files.ensures) (delete_routed x c.args.process c.requires.up c.law_of_files.ensures c.requires.standing c.requires.counts c.in-DeleteFile.path (rw c.in-DeleteFile.is at c.requires.command))

pub returns-in-CreateDirectory : goal.returns-in-CreateDirectory
returns-in-CreateDirectory c =
    let x = present_of c.args.memory.now in
    rw (c.in-CreateDirectory.is, c.of_files-in-CreateDirectory.ensures) (make_routed x c.args.process c.requires.up c.law_of_files.ensures c.requires.standing c.requires.counts c.in-CreateDirectory.path (rw c.in-CreateDirectory.is at c.requires.command))

pub returns-in-RemoveDirectory : goal.returns-in-RemoveDirectory
returns-in-RemoveDirectory c =
    let x = present_of c.args.memory.now in
    rw (c.in-RemoveDirectory.is, c.of_files-in-RemoveDirectory.ensures) (remove_routed x c.args.process c.requires.up c.law_of_files.ensures c.requires.standing c.requires.counts c.in-RemoveDirectory.path (rw c.in-RemoveDirectory.is at c.requires.command))

pub returns-in-MoveFile : goal.returns-in-MoveFile
returns-in-MoveFile c =
    let x = present_of c.args.memory.now in
    rw (c.in-MoveFile.is, c.of_files-in-MoveFile.ensures) (move_routed x c.args.process c.requires.up c.law_of_files.ensures c.requires.standing c.requires.counts c.in-MoveFile.source c.in-MoveFile.target (rw c.in-MoveFile.is at c.requires.command))

pub returns-in-FindFiles : goal.returns-in-FindFiles
returns-in-FindFiles c =
    let x = present_of c.args.memory.now in
    rw (c.in-FindFiles.is, c.of_files-in-FindFiles.ensures) (find_routed x c.args.process c.requires.up c.law_of_files.ensures c.requires.standing c.requires.counts c.in-FindFiles.pattern (rw c.in-FindFiles.is at c.requires.command))
