-- The names under which first opens and versions are sorted. No public clause cites this module.
use Rattle.std.specs.Prelude.{ℕ, List, []}
use Rattle.ktm_base.specs.declared.id.Id.{Id}
use Rattle.txf_versions.specs.declared.opened.Opened.{Opened}
use Rattle.ktm_links.specs.Numbers.{number_bytes, long_bytes}

-- a transaction, and then these bytes
abbrev pub transaction_bytes : Id → List ℕ → List ℕ
transaction_bytes id rest = number_bytes id.boot (number_bytes id.number rest)

-- a version of a file, and then these bytes
abbrev pub version_bytes : ℕ → ℕ → List ℕ → List ℕ
version_bytes file version rest = long_bytes file (long_bytes version rest)

-- a transaction and a file
abbrev pub open_name : Id → ℕ → List ℕ
open_name transaction file = transaction_bytes transaction (long_bytes file [])

-- by which name a first open stands among those of its transaction
abbrev pub own_name : Opened → List ℕ
own_name o = open_name o.transaction o.file

-- by which name a first open stands among those of its version
abbrev pub holder_name : Opened → List ℕ
holder_name o = version_bytes o.file o.version (transaction_bytes o.transaction [])
