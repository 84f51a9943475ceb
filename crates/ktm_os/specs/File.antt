-- How a file is opened, and where its name stands.
use Rattle.std.specs.Prelude.{ℕ, true, List, [], ◌∷◌, unwrap_or}
use Rattle.std.specs.Fs.{new_options, with_read, with_write, with_create}
use Rattle.std.specs.Path.{cur_dir, path_parent}
use Rattle.std.specs.declared.fs.options.OpenOptions.{OpenOptions}
use Rattle.ktm_os.specs.declared.access.Access.{Access}
use Rattle.ktm_os.specs.declared.access.Access.TheVariants.{Read, Change}

-- for reading alone
abbrev pub to_read : OpenOptions
to_read = with_read new_options true

-- for reading and writing, made where there is none, and never emptied
abbrev pub to_change : OpenOptions
to_change = with_create (with_write to_read true) true

-- how a file is opened for an access
abbrev pub options_of : Access → OpenOptions
options_of Read = to_read
options_of Change = to_change

-- the folder, and the current one where none is named
abbrev pub named_folder : List ℕ → List ℕ
named_folder [] = cur_dir
named_folder (first ∷ rest) = first ∷ rest

-- the folder of a path: what stands before its last name
abbrev pub folder_of : List ℕ → List ℕ
folder_of path = named_folder (unwrap_or (path_parent path) [])
