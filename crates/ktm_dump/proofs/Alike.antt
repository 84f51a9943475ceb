-- The text of a state whose bytes are replaced.
use Rattle.std.proofs.Common.{◌≡◌, ℕ, zero, suc, List, [], ◌∷◌, ◌++◌, Option, Some, None, codes, flat_map, length, refl, ◌∙◌, ap}
use Rattle.std.proofs.lemmas.List.{length-map}
use Rattle.std.specs.Prelude.{decimal, option_map}
use Rattle.ktm_codec.specs.Quoted.{quoted}
use Rattle.ktm_dump.specs.Text.{head_line, key_line, kind_word, manager_line, node_line, path_below, path_up, size_word, state_text, transaction_lines}
use Rattle.ktm_dump.specs.Written.{newline}
use Rattle.ktm_mapped.specs.Mapped.{mapped_content, mapped_durable, mapped_node, mapped_recorded, mapped_tree}
use Rattle.ktm_mapped.proofs.offered.Lists.{flat_map-same}
use Rattle.ktm_mapped.proofs.offered.Trees.{node_at-mapped}
use Rattle.ktm_world.specs.declared.recorded.Node.{Node}
use Rattle.ktm_world.specs.Durable.{Durable}
use Rattle.ktm_world.specs.Tree.{Tree, node_at}

module _ (f : ℕ → ℕ) where
  kind-same : (content : Option (List ℕ)) → kind_word (mapped_content f content) ≡ kind_word content
  kind-same None = refl
  kind-same (Some bytes) = refl

  size-same : (content : Option (List ℕ)) → size_word (mapped_content f content) ≡ size_word content
  size-same None = refl
  size-same (Some bytes) = ap (λ (n : ℕ). codes " " ++ decimal n) (length-map bytes f)

  below-same : (above before : ℕ → List ℕ) → ((number : ℕ) → above number ≡ before number) → (o : Option Node) → path_below above (option_map (mapped_node f) o) ≡ path_below before o
  below-same above before same None = refl
  below-same above before same (Some node) = λ i. path_below (λ number. same number i) (Some node)

  path-same : (tree : Tree) (most number : ℕ) → path_up (mapped_tree f tree) most number ≡ path_up tree most number
  path-same tree zero number = refl
  path-same tree (suc most) number =
      ap (path_below (path_up (mapped_tree f tree) most)) (node_at-mapped f tree number)
      ∙ below-same (path_up (mapped_tree f tree) most) (path_up tree most) (path-same tree most) (node_at tree number)

  node-same : (tree : Tree) (node : Node) → node_line (mapped_tree f tree) (mapped_node f node) ≡ node_line tree node
  node-same tree node =
      (λ i. kind-same node.content i ++ quoted (path_up (mapped_tree f tree) (length-map tree (mapped_node f) i) node.number) ++ size-same node.content i ++ newline ∷ [])
      ∙ ap (λ (path : List ℕ). kind_word node.content ++ quoted path ++ size_word node.content ++ newline ∷ []) (path-same tree (length tree) node.number)

-- replacing bytes changes no line
pub state-same : (f : ℕ → ℕ) (s : Durable) → state_text (mapped_durable f s) ≡ state_text s
state-same f s = λ i.
    head_line s ++ flat_map (manager_line s.image) s.managers
    ++ flat_map-same (transaction_lines s.image) (transaction_lines s.image) (mapped_recorded f) (λ t. refl) s.transactions i
    ++ flat_map-same (node_line (mapped_tree f s.tree)) (node_line s.tree) (mapped_node f) (node-same f s.tree) s.tree i
    ++ flat_map key_line s.keys
