-- Texts that are no paths, and texts that are no patterns.
use Rattle.std.proofs.Common.{◌≡◌, List, ℕ, Option, Some, None, refl, ap}
use Rattle.ktm_base.specs.Names.{IsPath, IsPattern}
use Rattle.ktm_world.specs.FileCalls.{find_path, no_path, walk, whereabouts_of}
use Rattle.ktm_world.specs.Laws.{PathLaw}
use Rattle.ktm_world.specs.Tree.{Tree, root}
use Rattle.ktm_world.specs.Paths.{Search, path_of, pattern_of}

pub no-path : PathLaw → (text : List ℕ) → ((names : List (List ℕ)) → IsPath names text → ⊥) → path_of text ≡ None
no-path law text not = on (path_of text) refl
  where
    on : (read : Option (List (List ℕ))) → path_of text ≡ read → path_of text ≡ None
    on None is = is
    on (Some names) is = absurd (not names ((law.1 text names).0 is))

pub no-pattern : PathLaw → (text : List ℕ) → ((directory : List (List ℕ)) (last : List ℕ) → IsPattern directory last text → ⊥) → pattern_of text ≡ None
no-pattern law text not = on (pattern_of text) refl
  where
    on : (read : Option Search) → pattern_of text ≡ read → pattern_of text ≡ None
    on None is = is
    on (Some s) is = absurd (not s.directory s.last ((law.2 text s.directory s.last).0 is))

-- where a path leads that a text is
pub find-path-is : (tree : Tree) (text : List ℕ) (names : List (List ℕ)) → path_of text ≡ Some names → find_path tree text ≡ walk tree (Some root) names
unfolding find_path
find-path-is tree text names is = ap (whereabouts_of tree) is

-- a text that is no path leads nowhere
pub find-no-path : (tree : Tree) (text : List ℕ) → path_of text ≡ None → find_path tree text ≡ no_path
unfolding find_path
find-no-path tree text is = ap (whereabouts_of tree) is
