-- Which file a source and a block are over.
use Rattle.std.specs.Prelude.{ℕ, List, string_bytes}
use Rattle.ktm_os.specs.declared.image_file.ImageFile.{Ghosts}
use Rattle.ktm_os.specs.declared.block.FileBlock.{FileBlock}
use Rattle.ktm_os.specs.declared.late_file.LateFile.{LateFile}
use Rattle.ktm_os.specs.declared.source.FileSource.{FileSource}

-- the path of the file of a source
abbrev pub path_of_source : {R : Type 0} → FileSource R → List ℕ
path_of_source s = string_bytes s.file.path

-- the path of the file of a block
abbrev pub path_of_block : {R : Type 0} {g : Ghosts (LateFile R)} → FileBlock (LateFile R) g → List ℕ
path_of_block b = string_bytes b.image.file.path
