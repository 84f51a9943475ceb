-- What one change of a transaction makes of the parts of the files in memory.
use Rattle.std.proofs.Common.{zero, suc, ◌≡◌, ℕ, ◌<◌, ◌^◌, if◌then◌else◌, filter, get_or, set, drop, length, map, List, [], ◌∷◌, ◌++◌, Option, Some, None, Result, Ok, Err, IfOk, OnOk, OnErr, refl, sym, ◌∙◌, ap, subst, arith, inl, inr}
use Rattle.std.proofs.lemmas.Bool.{cases_Bool, eq-eqb}
use Rattle.std.proofs.lemmas.Option.{none-some}
use Rattle.ktm_base.specs.declared.id.Id.{Id}
use Rattle.ktm_world.specs.declared.change.Change.{Change}
use Rattle.ktm_world.specs.Changes.{changes_apply, changed_all, has_made, node_of, nodes_made}
use Rattle.ktm_world.specs.Holds.{each_change}
use Rattle.ktm_world.specs.Transactions.{same_id}
use Rattle.ktm_world.specs.Tree.{Tree, IsWellFormed}
use Rattle.txf_laws.proofs.offered.Tables.{same_id-from}
use Rattle.txf_overlay.specs.Laws.{written_with}
use Rattle.txf_overlay.specs.Written.{bytes_at, bytes_or, total_units}
use Rattle.txf_overlay.specs.Nodes.{last_of}
use Rattle.txf_overlay.specs.OverlayState.{OverlayState, is_of_names}
use Rattle.txf_overlay.specs.Views.{StandsOver, last_seat, seat_at, seats_of}
use Rattle.txf_reserve.specs.ReserveState.{ReserveState}
use Rattle.txf_tree.specs.UnitChanges.{CanBeMadeOver}
use Rattle.txf_volume.specs.Held.{OwnHeld, overlay_in}
use Rattle.txf_volume.specs.declared.counts.Counted.{Counted}
use Rattle.txf_volume.specs.OwnParts.{HoldsChange, IsChanged, IsChangedIn, IsCounted, IsPlace, bare, bare_own, bytes_over, counts_of, or_unchanged, owners, unchanged, with_overlay, written_next}

-- ---- a node that is seen

pub last-at : (cs : List Change) (i node : ℕ) (c : Change) → i < length cs → c ≡ get_or cs i c → last_of (drop (suc i) cs) node ≡ None → node_of c ≡ node → last_of cs node ≡ Some c
last-at [] i node c within is none of_it = absurd (omega arith)
last-at (x ∷ xs) zero node c within is none of_it = rw (none, sym is, eq-eqb (node_of c) node of_it) refl
last-at (x ∷ xs) (suc i) node c within is none of_it = rw (last-at xs i node c (omega arith) is none of_it) refl

-- ---- one change

pub stands-same : (tree : Tree) (o o' : OverlayState) → o'.names ≡ o.names → o'.held ≡ o.held → StandsOver tree o → StandsOver tree o'
stands-same tree o o' names held stands = record {
  before = stands.before;
  after = subst (λ ns. IsWellFormed (changed_all tree ns)) (sym names) stands.after;
  applies = ap (changes_apply tree) names ∙ stands.applies;
  held = λ name. ap (λ hs. seat_at hs name) held ∙ stands.held name ∙ ap (λ ns. last_seat (each_change seats_of tree ns) name) (sym names);
}

pub stands-new : (tree : Tree) (o : OverlayState) → o.names ≡ [] → o.held ≡ [] → IsWellFormed tree → StandsOver tree o
stands-new tree o names held formed = stands-same tree unchanged o names held (record { before = formed; after = formed; applies = refl; held = λ name. refl })

-- what was there before counts by its names and its files alone
pub changed-from : (tree : Tree) (fixed : List ℕ) (id : Id) (c : Change) (o p o' : OverlayState) (r r' : ReserveState) → o.names ≡ p.names → o.written ≡ p.written → IsChanged tree fixed id c o o' r r' → IsChanged tree fixed id c p o' r r'
changed-from tree fixed id c o p o' r r' names written is = record {
  names = is.names ∙ ap (λ ns. ns ++ filter is_of_names (c ∷ [])) names;
  written = is.written ∙ (λ i. written_with (λ file. if has_made (names i) file then [] else fixed) (written i) c);
  stands = is.stands;
  holds = subst (λ ns. HoldsChange (changed_all tree ns) c id r r') names is.holds;
}

pub few-new : (o : OverlayState) (fixed : List ℕ) (c : Change) → o.names ≡ [] → o.written ≡ [] → total_units (written_next unchanged fixed c) < 2 ^ 64 → total_units (written_next o fixed c) < 2 ^ 64
few-new o fixed c names written few = subst (λ n. n < 2 ^ 64) (sym (λ i. total_units (written_with (λ file. if has_made (names i) file then [] else fixed) (written i) c))) few

-- and so do the bytes of files that it sees
pub units-from : (o p : OverlayState) (fixed : List ℕ) (c : Change) → o.names ≡ p.names → o.written ≡ p.written → CanBeMadeOver (bytes_over p fixed) c → CanBeMadeOver (bytes_over o fixed) c
units-from o p fixed c names written can =
    subst (λ (bytes : ℕ → List ℕ). CanBeMadeOver bytes c) (sym (λ i file. bytes_or (if has_made (names i) file then [] else fixed) (bytes_at (written i) file))) can

pub bare-same : (o o' : OverlayState) → o'.names ≡ o.names → o'.held ≡ o.held → o'.written ≡ o.written → bare o' ≡ bare o
bare-same o o' names held written = λ i. record { names = names i; held = held i; written = written i; spare = 0 }

-- ---- the list of what transactions changed

-- a transaction that is not there comes to the end
with-new : (os : List OwnHeld) (id : Id) (o : OverlayState) → overlay_in os id ≡ None → with_overlay os id o ≡ os ++ record { transaction = id; overlay = o } ∷ []
with-new [] id o none = refl
with-new (p ∷ ps) id o none = elim (cases_Bool (same_id p.transaction id)) [
  | inl same ↦ absurd (none-some p.overlay (sym (rw same at none)))
  | inr other ↦ rw other (ap (λ qs. p ∷ qs) (with-new ps id o (rw other at none)))
]

-- it is found
pub overlay-with : (os : List OwnHeld) (id : Id) (o : OverlayState) → overlay_in (with_overlay os id o) id ≡ Some o
overlay-with [] id o = rw (same_id-from id id refl) refl
overlay-with (p ∷ ps) id o = elim (cases_Bool (same_id p.transaction id)) [
  | inl same ↦ rw (same, same) refl
  | inr other ↦ rw (other, other) (overlay-with ps id o)
]

-- its first change
pub changed-first : (tree : Tree) (fixed : List ℕ) (id : Id) (c : Change) (os os' : List OwnHeld) (o o' : OverlayState) (r r' : ReserveState) → overlay_in os id ≡ None → os' ≡ os ++ record { transaction = id; overlay = o' } ∷ []
    → o.names ≡ [] → o.written ≡ [] → IsChanged tree fixed id c o o' r r' → IsChangedIn tree fixed id c os os' r r'
changed-first tree fixed id c os os' o o' r r' none pushed names written is = record {
  overlay = o';
  list = pushed ∙ sym (with-new os id o' none);
  is = subst (λ (now : Option OverlayState). IsChanged tree fixed id c (or_unchanged now) o' r r') (sym none) (changed-from tree fixed id c o unchanged o' r r' names written is);
}

-- what is read of each is the same where it is the same of the one that is changed
map-set : {X : Type 0} (read : OwnHeld → X) (os : List OwnHeld) (i : ℕ) (o : OwnHeld) (d : OwnHeld) → i < length os → read o ≡ read (get_or os i d) → map read (set os i o) ≡ map read os
map-set read [] i o d within same = refl
map-set read (p ∷ ps) zero o d within same = ap (λ x. x ∷ map read ps) same
map-set read (p ∷ ps) (suc i) o d within same = ap (λ xs. read p ∷ xs) (map-set read ps i o d (omega arith) same)

-- where only the memory of one is another
pub bare-at : (os : List OwnHeld) (i : ℕ) (d : OwnHeld) (id : Id) (o o' : OverlayState) → i < length os → record { transaction = id; overlay = o } ≡ d → d ≡ get_or os i d → bare o' ≡ bare o
    → map bare_own (set os i (record { transaction = id; overlay = o' })) ≡ map bare_own os
bare-at os i d id o o' within is at same = map-set bare_own os i (record { transaction = id; overlay = o' }) d within ((λ j. record { transaction = id; overlay = same j }) ∙ ap bare_own is ∙ ap bare_own at)

-- whose entries they are is the same
pub owners-at : (os : List OwnHeld) (i : ℕ) (d : OwnHeld) (id : Id) (o o' : OverlayState) → i < length os → record { transaction = id; overlay = o } ≡ d → d ≡ get_or os i d → owners (set os i (record { transaction = id; overlay = o' })) ≡ owners os
owners-at os i d id o o' within is at = map-set (λ (p : OwnHeld). p.transaction) os i (record { transaction = id; overlay = o' }) d within (ap (λ (p : OwnHeld). p.transaction) (is ∙ at))

-- ---- what is counted

counted-with : (os os' : List OwnHeld) (id : Id) (o : OverlayState) (it : Counted) → os' ≡ with_overlay os id o → it.before ≡ counts_of (or_unchanged (overlay_in os id)) → it.after ≡ counts_of o → IsCounted os os' id it
counted-with os os' id o it list before after =
    record { before = before; after = after ∙ sym (ap (λ now. counts_of (or_unchanged now)) (ap (λ ps. overlay_in ps id) list ∙ overlay-with os id o)) }

-- of a transaction whose changes are at this place
pub counted-at : (os : List OwnHeld) (i : ℕ) (d : OwnHeld) (whose id : Id) (o o' : OverlayState) (it : Counted) → IsPlace os id i → record { transaction = whose; overlay = o } ≡ d → d ≡ get_or os i d → it.before ≡ counts_of o → it.after ≡ counts_of o'
    → IsCounted os (set os i (record { transaction = whose; overlay = o' })) id it
counted-at os i d whose id o o' it place is found before after =
    counted-with os (set os i (record { transaction = whose; overlay = o' })) id o' it ((λ j. set os i (record ((is ∙ found) j) { overlay = o' })) ∙ sym (place.put o' d))
    (before ∙ ap (λ (p : OwnHeld). counts_of p.overlay) (is ∙ found) ∙ sym (ap (λ now. counts_of (or_unchanged now)) (place.found d))) after

-- of one that had changed nothing
pub counted-first : (os os' : List OwnHeld) (id : Id) (o o' : OverlayState) (it : Counted) → overlay_in os id ≡ None → os' ≡ os ++ record { transaction = id; overlay = o' } ∷ [] → o.names ≡ [] → o.written ≡ []
    → it.before ≡ counts_of o → it.after ≡ counts_of o' → IsCounted os os' id it
counted-first os os' id o o' it none pushed names written before after =
    counted-with os os' id o' it (pushed ∙ sym (with-new os id o' none))
    (before ∙ (λ i. record { units = total_units (written i); nodes = nodes_made (names i); names = length (names i) }) ∙ sym (ap (λ now. counts_of (or_unchanged now)) none)) after

-- ---- results

pub if_ok : {T E : Type 0} {P Q S : T → Type 0} (r : Result T E) → IfOk r P → IfOk r Q → ((x : T) → P x → Q x → S x) → IfOk r S
if_ok (Ok x) p q f = f x p q
if_ok (Err e) p q f = tt

pub on_ok : {T E : Type 0} {P Q : Type 0} (r : Result T E) → OnOk r P → (P → Q) → OnOk r Q
on_ok (Ok x) p f = f p
on_ok (Err e) p f = tt

pub on_err : {T E : Type 0} {P Q : Type 0} (r : Result T E) → OnErr r P → (P → Q) → OnErr r Q
on_err (Ok x) p f = tt
on_err (Err e) p f = f p
