-- A transaction that begins owns and holds nothing of the files.
use Rattle.std.proofs.Common.{◌≡◌, ℕ, ◌==◌, ◌&&◌, ◌||◌, not, Bool, true, false, is_none, filter, map, [], ◌∷◌, ◌++◌, Option, Some, None, refl, sym, ◌∙◌, ap, subst, inl, inr, ◌⊎◌}
use Rattle.std.proofs.lemmas.Bool.{and_parts, and_from, or_cases, or_left, or_right, or_from, not-true, not_from_false, true≢false, false_from_ne_true}
use Rattle.ktm_base.specs.declared.id.Id.{Id}
use Rattle.ktm_world.specs.declared.object.Transaction.{Transaction}
use Rattle.ktm_world.specs.Changes.{node_of}
use Rattle.ktm_world.specs.Conflicts.{holds_now, written_by, writes}
use Rattle.ktm_world.specs.Files.{FirstOpen, OpenFile, OwnChanges, own_changes, tree_seen}
use Rattle.ktm_world.specs.Holds.{Holds, holds_by}
use Rattle.ktm_world.specs.Labels.{holds_of}
use Rattle.ktm_world.specs.Lawful.{are_apart, is_alone, is_touched_by, others_undecided, undecided}
use Rattle.ktm_world.specs.Present.{Present}
use Rattle.ktm_world.specs.Transactions.{is_of, is_undecided, transaction_at}
use Rattle.ktm_world.specs.Tree.{is_file}
use Rattle.txf_laws.specs.Elements.{IsIn}
use Rattle.txf_laws.specs.SoundFiles.{IsSoundFiles, is_undecided_in, made_or_opened, has_dropped, is_own_well, may_use, files_apart}
use Rattle.txf_laws.proofs.offered.Diamonds.{no_test, none-from}
use Rattle.txf_laws.proofs.offered.Elements.{IsIn-filter, IsIn-kept, list_all-at, list_all-from}
use Rattle.txf_laws.proofs.offered.Lists.{IsIn-cases, IsIn-unmap}
use Rattle.txf_laws.proofs.offered.OwnChange.{holds-from}
use Rattle.txf_laws.proofs.offered.Reservations.{own_changes-found, holds-apart}
use Rattle.txf_laws.proofs.offered.Tables.{same_id-equal, same_id-sym}
use Rattle.ktm_owned.proofs.offered.Undecided.{undecided-added}

module _ (x : Present) (sound : IsSoundFiles x) (t : Transaction) (new : is_none (transaction_at x.transactions.items t.id) ≡ true) where
  not-known : is_undecided_in x.transactions.items t.id ≡ true → ⊥
  not-known is = go (transaction_at x.transactions.items t.id) new is
    where
      go : (o : Option Transaction) → is_none o ≡ true → holds_of is_undecided o ≡ true → ⊥
      go None none is = true≢false (sym is)
      go (Some u) none is = true≢false (sym none)

  own-none : own_changes x.files.table.own t.id ≡ []
  own-none = elim (own_changes-found x.files.table.own t.id) [
    | inl none ↦ none
    | inr (o, there, is, changes) ↦ absurd (not-known (subst (λ i. is_undecided_in x.transactions.items i ≡ true) is (list_all-at (λ (p : OwnChanges). is_undecided_in x.transactions.items p.transaction) x.files.table.own sound.own_undecided o there)))
  ]

  no-open : (o : OpenFile) → IsIn o x.files.table.opens → is_of t.id o.transaction ≡ true → ⊥
  no-open o there of = go o.transaction of (list_all-at (is_own_well x) x.files.table.opens sound.opens_own o there)
    where
      go : (s : Option Id) → is_of t.id s ≡ true → may_use x o s ≡ true → ⊥
      go None of well = true≢false (sym of)
      go (Some i) of well =
          let e = and_parts _ (not (writes o.access) || is_file (tree_seen x.files (Some i)) o.node) well in
          let d = and_parts _ (not (has_dropped (own_changes x.files.table.own i) o.node)) e.0 in
          let c = and_parts _ (made_or_opened x.files i o.node) d.0 in
          not-known (subst (λ j. is_undecided_in x.transactions.items j ≡ true) (sym (same_id-equal t.id i of)) (and_parts (is_undecided_in x.transactions.items i) (i.boot == x.recorded.boots) c.0).0)

  no-node : (n : ℕ) → IsIn n (holds_now x.files t.id).nodes → ⊥
  no-node n there = elim (IsIn-cases n (map node_of (own_changes x.files.table.own t.id)) (written_by x.files.table.opens t.id) there) [
    | inl mine ↦ subst (λ cs. IsIn n (map node_of cs)) own-none mine
    | inr open' ↦
        let o = IsIn-unmap (λ (o : OpenFile). o.node) n (filter (λ o. is_of t.id o.transaction && writes o.access) x.files.table.opens) open' in
        let kept = IsIn-filter (λ o. is_of t.id o.transaction && writes o.access) x.files.table.opens o.0 o.2 in
        no-open o.0 kept.0 (and_parts (is_of t.id o.0.transaction) (writes o.0.access) kept.1).0
  ]

  bare : holds_now x.files t.id ≡ holds_by x.files.tree [] (written_by x.files.table.opens t.id)
  bare = ap (λ cs. holds_by x.files.tree cs (written_by x.files.table.opens t.id)) own-none

  new-first : (h : Holds) → are_apart (holds_now x.files t.id) h ≡ true
  new-first h = ap (λ k. are_apart k h) bare ∙ holds-from (holds_by x.files.tree [] (written_by x.files.table.opens t.id)) h (record {
    nodes = λ n there there'. no-node n (subst (λ (k : Holds). IsIn n k.nodes) (sym bare) there);
    places = λ p q none. absurd none;
    stays = λ n none. absurd none;
    moves = refl;
  })

  new-second : (h : Holds) → are_apart h (holds_now x.files t.id) ≡ true
  new-second h = ap (λ k. are_apart h k) bare ∙ holds-from h (holds_by x.files.tree [] (written_by x.files.table.opens t.id)) (record {
    nodes = λ n there there'. no-node n (subst (λ (k : Holds). IsIn n k.nodes) (sym bare) there');
    places = λ p q there none. absurd none;
    stays = λ n there none. absurd none;
    moves = and-none h.moves;
  })
    where
      and-none : (b : Bool) → (b && false) ≡ false
      and-none true = refl
      and-none false = refl

  abbrev z : Present
  z = record x { transactions = record x.transactions { items = x.transactions.items ++ t ∷ [] } }

  stays : (id : Id) → is_undecided_in x.transactions.items id ≡ true → is_undecided_in z.transactions.items id ≡ true
  stays id was = undecided-added x.transactions.items (t ∷ []) id was

  of-items : (u : Transaction) → IsIn u (undecided z) → IsIn u (undecided x) ⊎ (t ≡ u)
  of-items u there =
      let kept = IsIn-filter (λ (v : Transaction). is_undecided v && not (is_of v.id None)) z.transactions.items u there in
      elim (IsIn-cases u x.transactions.items (t ∷ []) kept.0) [
        | inl old ↦ inl (IsIn-kept (λ (v : Transaction). is_undecided v && not (is_of v.id None)) x.transactions.items u old kept.1)
        | inr (inl e) ↦ inr e
        | inr (inr none) ↦ absurd none
      ]

  still-used : (o : OpenFile) (s : Option Id) → may_use x o s ≡ true → may_use z o s ≡ true
  still-used o None well = refl
  still-used o (Some i) well =
      let e = and_parts _ (not (writes o.access) || is_file (tree_seen x.files (Some i)) o.node) well in
      let d = and_parts _ (not (has_dropped (own_changes x.files.table.own i) o.node)) e.0 in
      let c = and_parts _ (made_or_opened x.files i o.node) d.0 in
      let b = and_parts (is_undecided_in x.transactions.items i) (i.boot == x.recorded.boots) c.0 in
      and_from _ _ (and_from _ _ (and_from _ _ (and_from _ _ (stays i b.0) b.1) c.1) d.1) e.1

  pub begun-sound : IsSoundFiles z
  begun-sound = record {
    own_once = sound.own_once;
    own_some = sound.own_some;
    own_final = sound.own_final;
    own_apply = sound.own_apply;
    own_opened = sound.own_opened;
    own_puts = sound.own_puts;
    own_drawn = sound.own_drawn;
    own_new = sound.own_new;
    own_differ = sound.own_differ;
    own_gone = sound.own_gone;
    first_once = sound.first_once;
    first_not_made = sound.first_not_made;
    first_drawn = sound.first_drawn;
    first_versions = sound.first_versions;
    first_bytes = sound.first_bytes;
    first_last = sound.first_last;
    first_files = sound.first_files;
    opens_files = sound.opens_files;
    formed = sound.formed;
    tree_drawn = sound.tree_drawn;
    next_from = sound.next_from;
    next_to = sound.next_to;
    versions_rise = sound.versions_rise;
    versions_there = sound.versions_there;
    opens_rise = sound.opens_rise;
    opens_drawn = sound.opens_drawn;
    opens_named = sound.opens_named;
    opens_plain = sound.opens_plain;
    own_undecided = list_all-from (λ (o : OwnChanges). is_undecided_in z.transactions.items o.transaction) x.files.table.own (λ o there. stays o.transaction (list_all-at (λ (p : OwnChanges). is_undecided_in x.transactions.items p.transaction) x.files.table.own sound.own_undecided o there));
    first_undecided = list_all-from (λ (o : FirstOpen). is_undecided_in z.transactions.items o.transaction && o.transaction.boot == x.recorded.boots) x.files.first_opens (λ o there.
        let parts = and_parts (is_undecided_in x.transactions.items o.transaction) (o.transaction.boot == x.recorded.boots)
        (list_all-at (λ (p : FirstOpen). is_undecided_in x.transactions.items p.transaction && p.transaction.boot == x.recorded.boots) x.files.first_opens sound.first_undecided o there) in
        and_from _ _ (stays o.transaction parts.0) parts.1);
    opens_own = list_all-from (is_own_well z) x.files.table.opens (λ o there. still-used o o.transaction (list_all-at (is_own_well x) x.files.table.opens sound.opens_own o there));
    apart = list_all-from _ (undecided z) (λ u there. list_all-from (files_apart z u) (others_undecided z.transactions.items (Some u.id)) (λ v there'.
        let kept = IsIn-filter (λ (w : Transaction). is_undecided w && not (is_of w.id (Some u.id))) z.transactions.items v there' in
        let parts = and_parts (is_undecided v) (not (is_of v.id (Some u.id))) kept.1 in
        let v-there : IsIn v (undecided z) = IsIn-kept (λ (w : Transaction). is_undecided w && not (is_of w.id None)) z.transactions.items v kept.0 (and_from _ _ parts.0 refl) in
        elim (of-items u there) [
          | inr e ↦ subst (λ (w : Transaction). are_apart (holds_now x.files w.id) (holds_now x.files v.id) ≡ true) e (new-first (holds_now x.files v.id))
          | inl u-old ↦ elim (of-items v v-there) [
            | inr e ↦ subst (λ (w : Transaction). are_apart (holds_now x.files u.id) (holds_now x.files w.id) ≡ true) e (new-second (holds_now x.files u.id))
            | inl v-old ↦ holds-apart x sound u v u-old v-old (same_id-sym v.id u.id (not-true _ parts.1))
          ]
        ]));
    writers = list_all-from (is_alone z) x.files.table.opens (λ o there. elim (or_cases (not (is_none o.transaction && writes o.access)) _ (list_all-at (is_alone x) x.files.table.opens sound.writers o there)) [
      | inl none ↦ or_left _ _ none
      | inr free ↦ or_right _ _ (not_from_false _ (none-from (is_touched_by x o.node) (undecided z) (λ u u-there. elim (of-items u u-there) [
        | inl old ↦ no_test (is_touched_by x o.node) u (undecided x) (not-true _ free) old
        | inr e ↦ subst (λ (w : Transaction). is_touched_by x o.node w ≡ false) e (or_from _ _
            (none-from (λ m. m == o.node) (holds_now x.files t.id).nodes (λ m has. absurd (no-node m has)))
            (none-from (λ (p : OpenFile). is_of t.id p.transaction && p.node == o.node) x.files.table.opens (λ p has. false_from_ne_true _ (λ is. no-open p has (and_parts (is_of t.id p.transaction) (p.node == o.node) is).0))))
      ])))
    ]);
  }
