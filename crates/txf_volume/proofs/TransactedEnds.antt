-- The files in memory without what a transaction changed, held, first opened and had open.
use Rattle.std.proofs.Common.{◌≡◌, ℕ, ◌<◌, ◌≤◌, ◌^◌, ◌&&◌, not, Bool, true, false, filter, find, is_some, map, List, [], ◌∷◌, sum_by, All, refl, sym, ◌∙◌, ap, subst, arith, inl, inr}
use Rattle.std.proofs.lemmas.Bool.{cases_Bool, and_parts, and_from, eq-eqb, true≢false}
use Rattle.std.proofs.lemmas.List.Elements.{All-filter}
use Rattle.std.proofs.lemmas.List.Sums.{sum_by-cons}
use Rattle.std.specs.List.{list_all}
use Rattle.std.specs.Option.{option_map}
use Rattle.ktm_base.specs.declared.id.Id.{Id}
use Rattle.ktm_world.specs.Files.{FirstOpen, own_changes}
use Rattle.ktm_world.specs.Holds.{Place, holds_by, is_in, is_place_in}
use Rattle.ktm_world.specs.Transactions.{same_id}
use Rattle.ktm_world.specs.Tree.{bytes_of}
use Rattle.txf_opens.specs.OpensState.{OpensState, is_not_of}
use Rattle.txf_overlay.specs.Written.{bytes_or}
use Rattle.txf_reserve.specs.ReserveState.{IsSameHold, ReserveState, holds_in}
use Rattle.txf_tree.specs.TreeState.{tree_of, versions_of}
use Rattle.txf_versions.specs.VersionsState.{VersionsState, fixes, is_pinned, is_version, without_transaction}
use Rattle.txf_versions.specs.declared.kept.Older.{Older}
use Rattle.txf_versions.specs.declared.opened.Opened.{Opened}
use Rattle.txf_volume.specs.Held.{FilesHeld, OwnHeld, files_of, first_held, names_held, own_held, without_own}
use Rattle.txf_volume.specs.Ties.{AreCounts, AreTied, IsKeptOpen, IsOver, held_by_two, nodes_held, units_held}
use Rattle.txf_volume.specs.declared.counts.Counts.{Counts}
use Rattle.txf_laws.specs.FileEffects.{forgotten}
use Rattle.txf_laws.specs.Elements.{IsIn, each_pair}
use Rattle.txf_laws.proofs.offered.Elements.{IsIn-filter, list_any-from}
use Rattle.txf_laws.proofs.offered.CommitsOfOthers.{All-by, All-in}
use Rattle.txf_laws.proofs.offered.Tables.{same_id-equal, same_id-from}

-- ---- some elements of a list

list_all-filter : {X : Type 0} (test keep : X → Bool) (xs : List X) → list_all test xs ≡ true → list_all test (filter keep xs) ≡ true
list_all-filter test keep [] all = refl
list_all-filter test keep (x ∷ xs) all =
    let parts = and_parts (test x) (list_all test xs) all in
    let rest = list_all-filter test keep xs parts.1 in
    elim (cases_Bool (keep x)) [ inl is ↦ rw is (and_from _ _ parts.0 rest) | inr no_more ↦ rw no_more rest ]

pairs-filter : {X : Type 0} (test : X → X → Bool) (keep : X → Bool) (xs : List X) → each_pair test xs ≡ true → each_pair test (filter keep xs) ≡ true
pairs-filter test keep [] all = refl
pairs-filter test keep (x ∷ xs) all =
    let parts = and_parts (list_all (test x) xs) (each_pair test xs) all in
    let rest = pairs-filter test keep xs parts.1 in
    elim (cases_Bool (keep x)) [ inl is ↦ rw is (and_from _ _ (list_all-filter (test x) keep xs parts.0) rest) | inr no_more ↦ rw no_more rest ]

sum-filter : {X : Type 0} (f : X → ℕ) (keep : X → Bool) (xs : List X) → sum_by f (filter keep xs) ≤ sum_by f xs
sum-filter f keep [] = omega arith
sum-filter f keep (x ∷ xs) =
    let rest = sum-filter f keep xs in
    let all = sum_by-cons f x xs in
    elim (cases_Bool (keep x)) [ inl is ↦ rw is (let one = sum_by-cons f x (filter keep xs) in omega arith) | inr no_more ↦ rw no_more (omega arith) ]

map-filter : {X Y : Type 0} (f : X → Y) (keep : Y → Bool) (xs : List X) → map f (filter (λ x. keep (f x)) xs) ≡ filter keep (map f xs)
map-filter f keep [] = refl
map-filter f keep (x ∷ xs) = elim (cases_Bool (keep (f x))) [
  | inl is ↦ rw is (ap (λ ys. f x ∷ ys) (map-filter f keep xs))
  | inr no_more ↦ rw no_more (map-filter f keep xs)
]

map-same : {X Y : Type 0} (f g : X → Y) (xs : List X) → ((x : X) → IsIn x xs → f x ≡ g x) → map f xs ≡ map g xs
map-same f g [] same = refl
map-same f g (x ∷ xs) same = λ i. same x (inl refl) i ∷ map-same f g xs (λ y there. same y (inr there)) i

-- ---- own changes

gone-same : (os : List OwnHeld) (id : Id) → own_changes (own_held (without_own os id)) id ≡ []
gone-same [] id = refl
gone-same (o ∷ os) id = elim (cases_Bool (same_id o.transaction id)) [
  | inl same ↦ rw same (gone-same os id)
  | inr other ↦ rw (other, other) (gone-same os id)
]

gone-other : (os : List OwnHeld) (id who : Id) → same_id who id ≡ false → own_changes (own_held (without_own os id)) who ≡ own_changes (own_held os) who
gone-other [] id who apart = refl
gone-other (o ∷ os) id who apart = elim (cases_Bool (same_id o.transaction id)) [
  | inl same ↦
      let differs : same_id o.transaction who ≡ false = elim (cases_Bool (same_id o.transaction who)) [
        | inl his ↦ absurd (true≢false (sym (same_id-from who id (sym (same_id-equal o.transaction who his) ∙ same_id-equal o.transaction id same)) ∙ apart))
        | inr not_his ↦ not_his
      ] in
      rw (same, differs) (gone-other os id who apart)
  | inr other ↦ elim (cases_Bool (same_id o.transaction who)) [
    | inl his ↦ rw (other, his) refl
    | inr not_his ↦ rw (other, not_his) (gone-other os id who apart)
  ]
]

-- ---- what is held

-- the transaction holds nothing more, and the others what they held
pub record IsReleased (r r' : ReserveState) (id : Id) : Type 0 where
  pub nodes : (who : Id) (n : ℕ) → is_in (holds_in r' who).nodes n ≡ (is_in (holds_in r who).nodes n && not (same_id who id))
  pub places : (who : Id) (p : Place) → is_place_in (holds_in r' who).places p ≡ (is_place_in (holds_in r who).places p && not (same_id who id))
  pub uses : (who : Id) (n : ℕ) → is_in (holds_in r' who).uses n ≡ (is_in (holds_in r who).uses n && not (same_id who id))
  pub dropped : (who : Id) (n : ℕ) → is_in (holds_in r' who).dropped n ≡ (is_in (holds_in r who).dropped n && not (same_id who id))
  pub moves : (who : Id) → (holds_in r' who).moves ≡ ((holds_in r who).moves && not (same_id who id))

and-gone : (b s : Bool) → s ≡ true → (b && not s) ≡ false
and-gone true s same = rw same refl
and-gone false s same = refl

and-kept : (b s : Bool) → s ≡ false → (b && not s) ≡ b
and-kept true s other = rw other refl
and-kept false s other = refl

module _ (h : FilesHeld) (units : ℕ) (counts : Counts) (tied : AreTied h units counts) (id : Id) (os' : List OwnHeld) (r' : ReserveState) (v' : VersionsState) (p' : OpensState)
    (own : os' ≡ without_own h.overlays id) (released : IsReleased h.reserve r' id)
    (opens : v'.opens ≡ without_transaction h.versions.opens id) (older : (f v : ℕ) → is_pinned v'.opens f v ≡ true → find (is_version f v) v'.older ≡ find (is_version f v) h.versions.older)
    (closed : p'.opens ≡ filter (is_not_of id) h.opens.opens) (last : p'.last ≡ h.opens.last) where
  -- the files that are left
  abbrev left : FilesHeld
  left = record { tree = h.tree; versions = v'; overlays = os'; opens = p'; reserve = r'; next_node = h.next_node }

  found-again : (o : Opened) → IsIn o v'.opens → find (is_version o.file o.version) v'.older ≡ find (is_version o.file o.version) h.versions.older
  found-again o there = older o.file o.version (list_any-from (fixes o.file o.version) v'.opens o there (and_from _ _ (eq-eqb o.file o.file refl) (eq-eqb o.version o.version refl)))

  was-open : (o : Opened) → IsIn o v'.opens → IsIn o h.versions.opens
  was-open o there = (IsIn-filter _ h.versions.opens o (subst (IsIn o) opens there)).0

  keeps : (who : Id) → IsSameHold (holds_in r' who) (holds_by (tree_of h.tree) (own_changes (own_held os') who) [])
  keeps who = elim (cases_Bool (same_id who id)) [
    | inl same ↦
        let none : own_changes (own_held os') who ≡ [] = (λ i. own_changes (own_held (own i)) (same_id-equal who id same i)) ∙ gone-same h.overlays id in
        subst (λ cs. IsSameHold (holds_in r' who) (holds_by (tree_of h.tree) cs [])) (sym none) (record {
          nodes = λ n. released.nodes who n ∙ and-gone _ _ same;
          places = λ p. released.places who p ∙ and-gone _ _ same;
          uses = λ n. released.uses who n ∙ and-gone _ _ same;
          dropped = λ n. released.dropped who n ∙ and-gone _ _ same;
          moves = released.moves who ∙ and-gone _ _ same;
        })
    | inr other ↦
        let same : own_changes (own_held os') who ≡ own_changes (own_held h.overlays) who = ap (λ os. own_changes (own_held os) who) own ∙ gone-other h.overlays id who other in
        subst (λ cs. IsSameHold (holds_in r' who) (holds_by (tree_of h.tree) cs [])) (sym same) (record {
          nodes = λ n. released.nodes who n ∙ and-kept _ _ other ∙ (tied.keeps who).nodes n;
          places = λ p. released.places who p ∙ and-kept _ _ other ∙ (tied.keeps who).places p;
          uses = λ n. released.uses who n ∙ and-kept _ _ other ∙ (tied.keeps who).uses n;
          dropped = λ n. released.dropped who n ∙ and-kept _ _ other ∙ (tied.keeps who).dropped n;
          moves = released.moves who ∙ and-kept _ _ other ∙ (tied.keeps who).moves;
        })
  ]

  few : (f : OwnHeld → ℕ) → sum_by f h.overlays < 2 ^ 63 → sum_by f os' < 2 ^ 63
  few f was = let same = ap (sum_by f) own in let less = sum-filter f (λ o. not (same_id o.transaction id)) h.overlays in omega arith

  pub tied-left : (counts' : Counts) → AreCounts os' counts' → AreTied left units counts'
  tied-left counts' counted = record {
    formed = tied.formed;
    once = ap (each_pair held_by_two) own ∙ pairs-filter held_by_two (λ o. not (same_id o.transaction id)) h.overlays tied.once;
    over = subst (λ os. All (λ (o : OwnHeld). IsOver (tree_of h.tree) o.overlay) os) (sym own) (All-filter (λ (o : OwnHeld). not (same_id o.transaction id)) (λ (o : OwnHeld). IsOver (tree_of h.tree) o.overlay) h.overlays tied.over);
    opened = All-by (IsKeptOpen h.tree v'.older) v'.opens (λ o there.
        let it = All-in (IsKeptOpen h.tree h.versions.older) h.versions.opens tied.opened o (was-open o there) in
        record { was = it.was; kept = ap is_some (found-again o there) ∙ it.kept });
    keeps = keeps;
    sum = tied.sum;
    counted = counted;
    few = record { units = few units_held tied.few.units; nodes = few nodes_held tied.few.nodes; names = few names_held tied.few.names };
    room = let same = ap (sum_by names_held) own in let less = sum-filter names_held (λ o. not (same_id o.transaction id)) h.overlays in omega (arith, same, less, tied.room);
  }

  first-left : map (first_held (tree_of h.tree) v'.older) v'.opens ≡ filter (λ o. not (same_id o.transaction id)) (map (first_held (tree_of h.tree) h.versions.older) h.versions.opens)
  first-left =
      map-same (first_held (tree_of h.tree) v'.older) (first_held (tree_of h.tree) h.versions.older) v'.opens (λ o there. λ i. record {
        transaction = o.transaction;
        file = o.file;
        version = o.version;
        bytes = bytes_or (bytes_of (tree_of h.tree) o.file) (option_map (λ (v : Older). v.bytes) (found-again o there i));
      })
      ∙ ap (map (first_held (tree_of h.tree) h.versions.older)) opens
      ∙ map-filter (first_held (tree_of h.tree) h.versions.older) (λ (o : FirstOpen). not (same_id o.transaction id)) h.versions.opens

  own-left : own_held os' ≡ filter (λ o. not (same_id o.transaction id)) (own_held h.overlays)
  own-left = ap own_held own ∙ map-filter _ _ h.overlays

  pub files-left : files_of left ≡ forgotten (files_of h) id
  files-left = λ i. record {
    tree = tree_of h.tree;
    versions = versions_of h.tree;
    first_opens = first-left i;
    table = record { own = own-left i; opens = closed i; last_open = last i; next_node = h.next_node };
  }
