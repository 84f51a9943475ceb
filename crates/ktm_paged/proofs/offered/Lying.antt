-- Contents that go on to lie on the pages that there are.
use Rattle.std.proofs.Common.{◌≡◌, ℕ, ◌+◌, ◌/◌, ◌<◌, ◌≤◌, ◌==◌, max, true, List, [], ◌∷◌, ◌++◌, length, take, drop, Option, Some, None, All, refl, sym, ◌∙◌, ap, subst, arith, inl, inr, length-take}
use Rattle.std.proofs.lemmas.Bool.{cases_Bool, and_parts, eqb-true}
use Rattle.std.proofs.lemmas.List.Elements.{All-append, All-drop, All-head, All-nil, All-tail, All-take}
use Rattle.std.proofs.lemmas.Option.{none-some, same_Some}
use Rattle.ktm_base.specs.Bytes.{written}
use Rattle.ktm_world.specs.declared.change.Change.{Change}
use Rattle.ktm_world.specs.declared.change.Change.TheVariants.{Make, Put, Cut, Move, Drop}
use Rattle.ktm_world.specs.declared.change.NodeKind.{NodeKind}
use Rattle.ktm_world.specs.declared.change.NodeKind.TheVariants.{File, Directory}
use Rattle.ktm_world.specs.declared.recorded.Node.{Node}
use Rattle.ktm_content.specs.Places.{CanBePut, places_on}
use Rattle.ktm_content.proofs.offered.Putting.{cut-places, put-places, put-units}
use Rattle.ktm_content.proofs.offered.Bytes.{lie-on}
use Rattle.ktm_world.specs.Changes.{bytes_in, changed, changed_all, changes_apply, applies, new_content, node_of}
use Rattle.ktm_world.specs.Tree.{Tree, bytes_or_none, content_of, cut_to, node_at, put_over}
use Rattle.ktm_world.proofs.offered.Lookups.{Fits, Rises, Rises-changed, node_at-changed, remade}
use Rattle.txf_laws.proofs.offered.ChangeTests.{All-at, Applies-from, Fits-from, at-All}
use Rattle.ktm_paged.specs.Paged.{CanAllBeMade, CanBeMade, CanBeMadeOver, LiesBelow, PutLiesBelow}

-- ---- contents

module _ (count : ℕ) where
  pub lies-none : LiesBelow count []
  lies-none = record { pages = []; lie = record { units = refl; places = refl }; below = All-nil (λ page. page < count) }

  pub lies-on : (pages : List ℕ) (size : ℕ) → length pages ≡ (size + 4095) / 4096 → All (λ page. page < count) pages → LiesBelow count (places_on pages size)
  lies-on pages size units below = record { pages = pages; lie = lie-on pages size units; below = below }

  pub lies-put : (old : List ℕ) (start : ℕ) (new : List ℕ) → CanBePut old start new → LiesBelow count old → LiesBelow count new → LiesBelow count (put_over old start new)
  lies-put old start new can lie put = subst (LiesBelow count) is
      (lies-on pages (max (length old) (start + length new)) (put-units lie.pages put.pages (length old) start (length new) first lie.lie.units put.lie.units (omega (arith, can.begins)) can.reaches) below)
    where
      first : ℕ
      first = start / 4096

      pages : List ℕ
      pages = written lie.pages (start / 4096) put.pages

      on : CanBePut (places_on lie.pages (length old)) start (places_on put.pages (length new))
      on = subst (λ l. CanBePut l start (places_on put.pages (length new))) lie.lie.places (subst (λ l. CanBePut old start l) put.lie.places can)

      is : places_on (written lie.pages (start / 4096) put.pages) (max (length old) (start + length new)) ≡ put_over old start new
      is = put-places lie.pages put.pages (length old) start (length new) (start / 4096) lie.lie.units put.lie.units refl on
          ∙ (λ i. put_over (sym lie.lie.places i) start (sym put.lie.places i))

      below : All (λ page. page < count) (written lie.pages (start / 4096) put.pages)
      below =
          All-append (λ page. page < count) (take (start / 4096) lie.pages ++ put.pages) (drop (start / 4096 + length put.pages) lie.pages)
          (All-append (λ page. page < count) (take (start / 4096) lie.pages) put.pages (All-take (λ page. page < count) (start / 4096) lie.pages lie.below) put.below)
          (All-drop (λ page. page < count) (start / 4096 + length put.pages) lie.pages lie.below)

  pub lies-cut : (old : List ℕ) (size : ℕ) → size ≤ length old → LiesBelow count old → LiesBelow count (cut_to old size)
  lies-cut old size shorter lie = subst (LiesBelow count) is (lies-on (take units lie.pages) size (omega (arith, shorter, lie.lie.units, length-take units lie.pages)) (All-take (λ page. page < count) units lie.pages lie.below))
    where
      units : ℕ
      units = (size + 4095) / 4096

      long : length (places_on lie.pages (length old)) ≡ length old
      long = ap length (sym lie.lie.places)

      is : places_on (take ((size + 4095) / 4096) lie.pages) size ≡ cut_to old size
      is = cut-places lie.pages (length old) size ((size + 4095) / 4096) lie.lie.units (omega (arith, shorter, long)) refl ∙ ap (λ l. cut_to l size) (sym lie.lie.places)

-- ---- trees that are changed

-- the file of a node lies on pages that there are
abbrev pub NodeLies : ℕ → Node → Type 0
NodeLies count node = LiesBelow count (bytes_or_none node.content)

module _ (count : ℕ) where
  new-lies : (kind : NodeKind) → LiesBelow count (bytes_or_none (new_content kind))
  new-lies File = lies-none count
  new-lies Directory = lies-none count

  remade-lies : (o : Option Node) (c : Change) → CanBeMadeOver (λ n. bytes_or_none (content_of o)) c → PutLiesBelow count c → ((node : Node) → o ≡ Some node → NodeLies count node)
      → (made : Node) → remade c o ≡ Some made → NodeLies count made
  remade-lies o (Make number parent kind name) can put lie made is = subst (NodeLies count) (same_Some _ made is) (new-lies kind)
  remade-lies None (Put number offset contents) can put lie made is = absurd (none-some made is)
  remade-lies (Some node) (Put number offset contents) can put lie made is =
      subst (NodeLies count) (same_Some _ made is) (lies-put count (bytes_or_none node.content) offset (bytes_in contents) can (lie node refl) put)
  remade-lies None (Cut number size pages) can put lie made is = absurd (none-some made is)
  remade-lies (Some node) (Cut number size pages) can put lie made is = subst (NodeLies count) (same_Some _ made is) (lies-cut count (bytes_or_none node.content) size can (lie node refl))
  remade-lies None (Move number parent name) can put lie made is = absurd (none-some made is)
  remade-lies (Some node) (Move number parent name) can put lie made is = subst (NodeLies count) (same_Some _ made is) (lie node refl)
  remade-lies o (Drop number) can put lie made is = absurd (none-some made is)

  -- what a change asks of the bytes of its file
  of-file : (tree : Tree) (c : Change) → CanBeMade tree c → CanBeMadeOver (λ n. bytes_or_none (content_of (node_at tree (node_of c)))) c
  of-file tree (Make number parent kind name) can = can
  of-file tree (Put number offset contents) can = can
  of-file tree (Cut number size pages) can = can
  of-file tree (Move number parent name) can = can
  of-file tree (Drop number) can = can

  pub changed-lies : (tree : Tree) (c : Change) → Rises tree → Fits tree c → CanBeMade tree c → PutLiesBelow count c → All (NodeLies count) tree → All (NodeLies count) (changed tree c)
  changed-lies tree c rises fits can put all = All-at (NodeLies count) (changed tree c) (Rises-changed tree c fits rises) each
    where
      each : (m : ℕ) (node : Node) → node_at (changed tree c) m ≡ Some node → NodeLies count node
      each m node found = elim (cases_Bool (node_of c == m)) [
        | inl here ↦
            let same : node_of c ≡ m = eqb-true (node_of c) m here in
            remade-lies (node_at tree (node_of c)) c (of-file tree c can) put (at-All (NodeLies count) tree all (node_of c)) node
            (ap (λ n. remade c (node_at tree n)) same ∙ sym (rw here at (node_at-changed tree c fits m)) ∙ found)
        | inr other ↦ at-All (NodeLies count) tree all m node (sym (rw other at (node_at-changed tree c fits m)) ∙ found)
      ]

  pub changed_all-lies : (tree : Tree) (cs : List Change) → Rises tree → changes_apply tree cs ≡ true → CanAllBeMade tree cs → All (PutLiesBelow count) cs → All (NodeLies count) tree → All (NodeLies count) (changed_all tree cs)
  changed_all-lies tree [] rises apply can puts all = all
  changed_all-lies tree (c ∷ cs) rises apply can puts all =
      let parts = and_parts (applies tree c) (changes_apply (changed tree c) cs) apply in
      let fits = Fits-from tree c (Applies-from tree c parts.0) in
      changed_all-lies (changed tree c) cs (Rises-changed tree c fits rises) parts.1 can.1 (All-tail (PutLiesBelow count) c cs puts)
      (changed-lies tree c rises fits can.0 (All-head (PutLiesBelow count) c cs puts) all)
