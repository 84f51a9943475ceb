use Rattle.std.specs.Prelude.{refl}
use Rattle.ktm_world.specs.declared.command.Command.TheVariants.{FlushFileBuffers, GetFileSizeEx, SetEndOfFile, WriteFile}
use Rattle.ktm_world.specs.Labels.{file_tests}
use Rattle.ktm_memory.specs.Memory.{present_of}
use Rattle.ktm_route.proofs.Routes.{refused_first}
use Rattle.ktm_route.proofs.FileRoutes.{flush_routed, handed_on, set_end_routed, size_routed, write_routed}
use Rattle.ktm_route.proofs.file_routes.route_open.Goals as goal

pub returns-in_err-file-in-WriteFile : goal.returns-in_err-file-in-WriteFile
returns-in_err-file-in-WriteFile c =
    let x = present_of c.args.memory.now in
    rw c.in-WriteFile.is (handed_on x c.args.process (WriteFile c.in-WriteFile.file c.in-WriteFile.offset c.in-WriteFile.bytes) c.from_residual.result c.in_err-file-in-WriteFile.field-0.0 c.from_residual.ensures.1
    (refused_first x c.args.process (WriteFile c.in-WriteFile.file c.in-WriteFile.offset c.in-WriteFile.bytes) (file_tests x c.args.process c.in-WriteFile.file) _ c.in_err-file-in-WriteFile.field-0.0 c.requires.up refl (c.in_err-file-in-WriteFile.ensures.err)))

pub returns-in_ok-file-in-WriteFile : goal.returns-in_ok-file-in-WriteFile
returns-in_ok-file-in-WriteFile c =
    let x = present_of c.args.memory.now in
    let (named, passed) = c.in_ok-file-in-WriteFile.ensures.ok in
    rw (c.in-WriteFile.is, c.of_files.ensures, c.no_places.ensures) (write_routed x c.args.process c.requires.up c.law_of_files.ensures c.requires.standing c.requires.counts c.in-WriteFile.file c.in_ok-file-in-WriteFile.file named passed c.in-WriteFile.offset c.in-WriteFile.bytes (rw c.in-WriteFile.is at c.requires.command) (rw c.in-WriteFile.is at c.requires.bytes))

pub returns-in_err-file-in-SetEndOfFile : goal.returns-in_err-file-in-SetEndOfFile
returns-in_err-file-in-SetEndOfFile c =
    let x = present_of c.args.memory.now in
    rw c.in-SetEndOfFile.is (handed_on x c.args.process (SetEndOfFile c.in-SetEndOfFile.file c.in-SetEndOfFile.size) c.from_residual-in_err-file-in-SetEndOfFile.result c.in_err-file-in-SetEndOfFile.field-0.0 c.from_residual-in_err-file-in-SetEndOfFile.ensures.1
    (refused_first x c.args.process (SetEndOfFile c.in-SetEndOfFile.file c.in-SetEndOfFile.size) (file_tests x c.args.process c.in-SetEndOfFile.file) _ c.in_err-file-in-SetEndOfFile.field-0.0 c.requires.up refl (c.in_err-file-in-SetEndOfFile.ensures.err)))

pub returns-in_ok-file-in-SetEndOfFile : goal.returns-in_ok-file-in-SetEndOfFile
returns-in_ok-file-in-SetEndOfFile c =
    let x = present_of c.args.memory.now in
    let (named, passed) = c.in_ok-file-in-SetEndOfFile.ensures.ok in
    rw (c.in-SetEndOfFile.is, c.of_files-in-SetEndOfFile.ensures) (set_end_routed x c.args.process c.requires.up c.law_of_files.ensures c.requires.standing c.requires.counts c.in-SetEndOfFile.file c.in_ok-file-in-SetEndOfFile.file named passed c.in-SetEndOfFile.size (rw c.in-SetEndOfFile.is at c.requires.command) (rw c.in-SetEndOfFile.is at c.requires.bytes))

pub returns-in_err-file-in-GetFileSizeEx : goal.returns-in_err-file-in-GetFileSizeEx
returns-in_err-file-in-GetFileSizeEx c =
    let x = present_of c.args.memory.now in
    rw c.in-GetFileSizeEx.is (handed_on x c.args.process (GetFileSizeEx c.in-GetFileSizeEx.file) c.from_residual-in_err-file-in-GetFileSizeEx.result c.in_err-file-in-GetFileSizeEx.field-0.0 c.from_residual-in_err-file-in-GetFileSizeEx.ensures.1
    (refused_first x c.args.process (GetFileSizeEx c.in-GetFileSizeEx.file) (file_tests x c.args.process c.in-GetFileSizeEx.file) _ c.in_err-file-in-GetFileSizeEx.field-0.0 c.requires.up refl (c.in_err-file-in-GetFileSizeEx.ensures.err)))

pub returns-in_ok-file-in-GetFileSizeEx : goal.returns-in_ok-file-in-GetFileSizeEx
returns-in_ok-file-in-GetFileSizeEx c =
    let x = present_of c.args.memory.now in
    let (named, passed) = c.in_ok-file-in-GetFileSizeEx.ensures.ok in
    rw (c.in-GetFileSizeEx.is, c.of_files-in-GetFileSizeEx.ensures) (size_routed x c.args.process c.requires.up c.law_of_files.ensures c.requires.standing c.requires.counts c.in-GetFileSizeEx.file c.in_ok-file-in-GetFileSizeEx.file named passed (rw c.in-GetFileSizeEx.is at c.requires.command))

pub returns-in_err-file-in-FlushFileBuffers : goal.returns-in_err-file-in-FlushFileBuffers
returns-in_err-file-in-FlushFileBuffers c =
    let x = present_of c.args.memory.now in
    rw c.in-FlushFileBuffers.is (handed_on x c.args.process (FlushFileBuffers c.in-FlushFileBuffers.file) c.from_residual-in_err-file-in-FlushFileBuffers.result c.in_err-file-in-FlushFileBuffers.field-0.0 c.from_residual-in_err-file-in-FlushFileBuffers.ensures.1
    (refused_first x c.args.process (FlushFileBuffers c.in-FlushFileBuffers.file) (file_tests x c.args.process c.in-FlushFileBuffers.file) _ c.in_err-file-in-FlushFileBuffers.field-0.0 c.requires.up refl (c.in_err-file-in-FlushFileBuffers.ensures.err)))

pub returns-in_ok-file-in-FlushFileBuffers : goal.returns-in_ok-file-in-FlushFileBuffers
returns-in_ok-file-in-FlushFileBuffers c =
    let x = present_of c.args.memory.now in
    let (named, passed) = c.in_ok-file-in-FlushFileBuffers.ensures.ok in
    rw (c.in-FlushFileBuffers.is, c.of_files-in-FlushFileBuffers.ensures) (flush_routed x c.args.process c.requires.up c.law_of_files.ensures c.requires.standing c.requires.counts c.in-FlushFileBuffers.file c.in_ok-file-in-FlushFileBuffers.file named passed (rw c.in-FlushFileBuffers.is at c.requires.command))
