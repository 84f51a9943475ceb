-- An open file more keeps sound what undecided transactions own of the files.
use Rattle.std.proofs.Common.{◌≡◌, ℕ, ◌≤◌, ◌==◌, ◌&&◌, not, Bool, true, false, is_none, is_some, filter, map, List, [], ◌∷◌, Option, Some, None, refl, sym, ◌∙◌, ap, subst, arith, inl, inr, ◌⊎◌}
use Rattle.std.proofs.lemmas.Bool.{cases_Bool, le-leb, leb-true, ne_eqb, eqb-true, lt-ltb, and_parts, and_from, or_cases, or_left, or_right, or_parts, or_from, not-true, not_from_false, true≢false, false_from_ne_true}
use Rattle.std.specs.List.{list_all, list_any}
use Rattle.std.specs.Prelude.{nat_le}
use Rattle.ktm_base.specs.declared.id.Id.{Id}
use Rattle.ktm_world.specs.declared.object.Handle.{Handle}
use Rattle.ktm_world.specs.declared.object.Object.{Object}
use Rattle.ktm_world.specs.declared.object.Transaction.{Transaction}
use Rattle.ktm_world.specs.Changes.{node_of}
use Rattle.ktm_world.specs.Conflicts.{holds_now, written_by, writes}
use Rattle.ktm_world.specs.Files.{FirstOpen, OpenFile, own_changes, is_last_version}
use Rattle.ktm_world.specs.HandleCalls.{has_handle}
use Rattle.ktm_world.specs.Holds.{is_in}
use Rattle.ktm_world.specs.Lawful.{are_apart, is_alone, is_touched_by, others_undecided, undecided}
use Rattle.ktm_world.specs.Present.{Present}
use Rattle.ktm_world.specs.Transactions.{is_of, is_undecided, same_id}
use Rattle.txf_laws.specs.Elements.{IsIn}
use Rattle.txf_laws.specs.Openings.{with_file, MayOpen, OpeningLaw}
use Rattle.txf_laws.specs.SoundFiles.{IsSoundFiles, opens_rise, is_open_last, is_plain_well, is_own_well, files_apart, all_files_apart, opens_no_directory}
use Rattle.txf_laws.proofs.offered.Diamonds.{IsIn-right, IsIn-map, no_test, none-from}
use Rattle.txf_laws.proofs.offered.Elements.{IsIn-filter, IsIn-kept, list_all-at, list_all-from, list_any-at, list_any-from, each_pair-append}
use Rattle.txf_laws.proofs.offered.Lists.{IsIn-left, IsIn-cases, IsIn-unmap}
use Rattle.txf_laws.proofs.offered.OwnChange.{apart-holds, holds-from}
use Rattle.txf_laws.proofs.offered.Reservations.{writer-alone}
use Rattle.txf_laws.proofs.offered.Tables.{same_id-equal, same_id-from, same_id-sym}

-- what is of a transaction has one
pub some-of : (id : Id) (t : Option Id) → is_of id t ≡ true → is_some t ≡ true
some-of id None of = absurd (true≢false (sym of))
some-of id (Some i) of = refl

module _ (x : Present) (o : OpenFile) (handles : List Handle) (sound : IsSoundFiles x) (may : MayOpen x o handles) where
  abbrev z : Present
  z = with_file x o handles

  of-opens : (p : OpenFile) → IsIn p z.files.table.opens → IsIn p x.files.table.opens ⊎ (o ≡ p)
  of-opens p there = elim (IsIn-cases p x.files.table.opens (o ∷ []) there) [ inl old ↦ inl old | inr (inl e) ↦ inr e | inr (inr none) ↦ absurd none ]

  -- what is so of each open file
  each : (test : OpenFile → Bool) → list_all test x.files.table.opens ≡ true → test o ≡ true → list_all test z.files.table.opens ≡ true
  each test all is = list_all-from test z.files.table.opens (λ p there. elim (of-opens p there) [ inl old ↦ list_all-at test x.files.table.opens all p old | inr e ↦ subst (λ q. test q ≡ true) e is ])

  -- the transaction of the open file holds it where it may write it, and nothing else is held that was not
  nodes-more : (id : Id) (n : ℕ) → IsIn n (holds_now z.files id).nodes → IsIn n (holds_now x.files id).nodes ⊎ ((is_of id o.transaction ≡ true) × (writes o.access ≡ true) × (o.node ≡ n))
  nodes-more id n there = elim (IsIn-cases n (map node_of (own_changes x.files.table.own id)) (written_by z.files.table.opens id) there) [
    | inl mine ↦ inl (IsIn-left n (map node_of (own_changes x.files.table.own id)) _ mine)
    | inr open' ↦
        let p = IsIn-unmap (λ (p : OpenFile). p.node) n (filter (λ p. is_of id p.transaction && writes p.access) z.files.table.opens) open' in
        let kept = IsIn-filter (λ p. is_of id p.transaction && writes p.access) z.files.table.opens p.0 p.2 in
        elim (of-opens p.0 kept.0) [
          | inl old ↦ inl (IsIn-right n (map node_of (own_changes x.files.table.own id)) (written_by x.files.table.opens id)
              (subst (λ m. IsIn m (written_by x.files.table.opens id)) p.1 (IsIn-map (λ (p : OpenFile). p.node) p.0 (filter (λ p. is_of id p.transaction && writes p.access) x.files.table.opens)
              (IsIn-kept (λ p. is_of id p.transaction && writes p.access) x.files.table.opens p.0 old kept.1))))
          | inr e ↦
              let parts = and_parts (is_of id p.0.transaction) (writes p.0.access) kept.1 in
              inr (subst (λ (q : OpenFile). is_of id q.transaction ≡ true) (sym e) parts.0, subst (λ (q : OpenFile). writes q.access ≡ true) (sym e) parts.1, ap (λ (q : OpenFile). q.node) e ∙ p.1)
        ]
  ]

  not-both : (a b : Id) → same_id a b ≡ false → is_of a o.transaction ≡ true → is_of b o.transaction ≡ true → ⊥
  not-both a b differ = go o.transaction
    where
      go : (t : Option Id) → is_of a t ≡ true → is_of b t ≡ true → ⊥
      go None of of' = true≢false (sym of)
      go (Some i) of of' = true≢false (sym (same_id-from a b (same_id-equal a i of ∙ sym (same_id-equal b i of'))) ∙ differ)

  two-apart : (t u : Transaction) → IsIn t (undecided x) → IsIn u (undecided x) → same_id t.id u.id ≡ false → same_id u.id t.id ≡ false → are_apart (holds_now x.files t.id) (holds_now x.files u.id) ≡ true
      → are_apart (holds_now z.files t.id) (holds_now z.files u.id) ≡ true
  two-apart t u t-there u-there differ differ' apart =
      let before = apart-holds (holds_now x.files t.id) (holds_now x.files u.id) apart in
      holds-from (holds_now z.files t.id) (holds_now z.files u.id) (record {
        nodes = λ n there there'. elim (nodes-more t.id n there) [
          | inl old ↦ elim (nodes-more u.id n there') [
            | inl old' ↦ before.nodes n old old'
            | inr (of, writing, is) ↦ may.held writing u.id of t t-there differ' (subst (λ m. IsIn m (holds_now x.files t.id).nodes) (sym is) old)
          ]
          | inr (of, writing, is) ↦ elim (nodes-more u.id n there') [
            | inl old' ↦ may.held writing t.id of u u-there differ (subst (λ m. IsIn m (holds_now x.files u.id).nodes) (sym is) old')
            | inr (of', writing', is') ↦ not-both t.id u.id differ of of'
          ]
        ];
        places = before.places;
        stays = before.stays;
        moves = before.moves;
      })

  all-apart : all_files_apart z ≡ true
  all-apart = list_all-from _ (undecided x) (λ t there. list_all-from (files_apart z t) (others_undecided x.transactions.items (Some t.id)) (λ u there'.
      let kept = IsIn-filter (λ (v : Transaction). is_undecided v && not (is_of v.id (Some t.id))) x.transactions.items u there' in
      let parts = and_parts (is_undecided u) (not (is_of u.id (Some t.id))) kept.1 in
      let u-there : IsIn u (undecided x) = IsIn-kept (λ (v : Transaction). is_undecided v && not (is_of v.id None)) x.transactions.items u kept.0 (and_from _ _ parts.0 refl) in
      two-apart t u there u-there (same_id-sym u.id t.id (not-true _ parts.1)) (not-true _ parts.1) (list_all-at (files_apart x t) (others_undecided x.transactions.items (Some t.id))
      (list_all-at (λ (v : Transaction). list_all (files_apart x v) (others_undecided x.transactions.items (Some v.id))) (undecided x) sound.apart t there) u there')))

  last-still : (f : FirstOpen) → IsIn f x.files.first_opens → is_open_last z.files f ≡ true
  last-still f there = elim (or_cases (not (is_in (holds_now x.files f.transaction).nodes f.file)) (is_last_version x.files f) (list_all-at (is_open_last x.files) x.files.first_opens sound.first_last f there)) [
    | inr last ↦ or_right _ _ last
    | inl free ↦ elim (cases_Bool (is_in (holds_now z.files f.transaction).nodes f.file)) [
      | inr free' ↦ or_left _ _ (not_from_false _ free')
      | inl held ↦
          let found = list_any-at (λ m. m == f.file) (holds_now z.files f.transaction).nodes held in
          elim (nodes-more f.transaction found.0 found.1) [
            | inl old ↦ absurd (true≢false (sym (list_any-from (λ m. m == f.file) (holds_now x.files f.transaction).nodes found.0 old found.2) ∙ not-true _ free))
            | inr (of, writing, is) ↦ or_right _ _ (may.last writing f there of (is ∙ eqb-true _ _ found.2))
          ]
    ]
  ]

  -- a transaction that was not on a file is on it then only by the open file
  touched-more : (n : ℕ) (u : Transaction) → is_touched_by x n u ≡ false → (is_of u.id o.transaction ≡ true → o.node ≡ n → ⊥) → is_touched_by z n u ≡ false
  touched-more n u free other =
      let parts = or_parts (is_in (holds_now x.files u.id).nodes n) (list_any (λ (p : OpenFile). is_of u.id p.transaction && p.node == n) x.files.table.opens) free in
      or_from _ _ (none-from (λ m. m == n) (holds_now z.files u.id).nodes (λ m has. elim (nodes-more u.id m has) [
        | inl old ↦ no_test (λ m. m == n) m (holds_now x.files u.id).nodes parts.0 old
        | inr (of, writing, is) ↦ ne_eqb m n (λ e. other of (is ∙ e))
      ]))
      (none-from (λ (p : OpenFile). is_of u.id p.transaction && p.node == n) z.files.table.opens (λ p has. elim (of-opens p has) [
        | inl old ↦ no_test (λ (p : OpenFile). is_of u.id p.transaction && p.node == n) p x.files.table.opens parts.1 old
        | inr e ↦ false_from_ne_true _ (λ is.
            let both = and_parts (is_of u.id p.transaction) (p.node == n) is in
            other (subst (λ (q : OpenFile). is_of u.id q.transaction ≡ true) (sym e) both.0) (ap (λ (q : OpenFile). q.node) e ∙ eqb-true _ _ both.1))
      ]))

  not-of : (id : Id) (t : Option Id) → is_none t ≡ true → is_of id t ≡ true → ⊥
  not-of id None none of = true≢false (sym of)
  not-of id (Some i) none of = true≢false (sym none)

  alone-old : (p : OpenFile) → IsIn p x.files.table.opens → is_alone z p ≡ true
  alone-old p there = elim (cases_Bool (is_none p.transaction && writes p.access)) [
    | inr none ↦ or_left _ _ (not_from_false _ none)
    | inl writer ↦
        let parts = and_parts (is_none p.transaction) (writes p.access) writer in
        or_right _ _ (not_from_false _ (none-from (is_touched_by z p.node) (undecided x) (λ u u-there.
        touched-more p.node u (writer-alone x sound p u there parts.0 parts.1 u-there) (λ of is. may.writers (some-of u.id o.transaction of) p there parts.0 parts.1 is))))
  ]

  alone-new : is_alone z o ≡ true
  alone-new = elim (cases_Bool (is_none o.transaction && writes o.access)) [
    | inr none ↦ or_left _ _ (not_from_false _ none)
    | inl writer ↦
        let parts = and_parts (is_none o.transaction) (writes o.access) writer in
        or_right _ _ (not_from_false _ (none-from (is_touched_by z o.node) (undecided x) (λ u u-there.
        touched-more o.node u (may.alone parts.0 parts.1 u u-there) (λ of is. not-of u.id o.transaction parts.0 of))))
  ]

  pub opened-sound : IsSoundFiles z
  opened-sound = record {
    own_undecided = sound.own_undecided;
    own_once = sound.own_once;
    own_some = sound.own_some;
    own_final = sound.own_final;
    own_apply = sound.own_apply;
    own_opened = sound.own_opened;
    own_puts = sound.own_puts;
    own_drawn = sound.own_drawn;
    own_new = sound.own_new;
    own_differ = sound.own_differ;
    own_gone = sound.own_gone;
    first_once = sound.first_once;
    first_undecided = sound.first_undecided;
    first_not_made = sound.first_not_made;
    first_drawn = sound.first_drawn;
    first_versions = sound.first_versions;
    first_bytes = sound.first_bytes;
    first_last = list_all-from _ x.files.first_opens last-still;
    first_files = sound.first_files;
    opens_files = each (λ p. opens_no_directory x.files p.node p.transaction) sound.opens_files may.file;
    formed = sound.formed;
    tree_drawn = sound.tree_drawn;
    next_from = sound.next_from;
    next_to = sound.next_to;
    versions_rise = sound.versions_rise;
    versions_there = sound.versions_there;
    opens_rise = each_pair-append opens_rise x.files.table.opens (o ∷ []) sound.opens_rise refl (λ p q there there'. elim there' [
      | inl e ↦ lt-ltb p.number q.number (omega (arith, counted p there, may.number, ap (λ (r : OpenFile). r.number) e))
      | inr none ↦ absurd none
    ]);
    opens_drawn = list_all-from _ z.files.table.opens (λ p there. elim (of-opens p there) [
      | inl old ↦ and_from _ _ (and_parts (nat_le 1 p.number) _ (list_all-at (λ (r : OpenFile). nat_le 1 r.number && nat_le r.number x.files.table.last_open) x.files.table.opens sound.opens_drawn p old)).0 (le-leb p.number o.number (omega (arith, counted p old, may.number)))
      | inr e ↦ subst (λ (r : OpenFile). (nat_le 1 r.number && nat_le r.number o.number) ≡ true) e (and_from _ _ (le-leb 1 o.number (omega (arith, may.number))) (le-leb o.number o.number (omega arith)))
    ]);
    opens_named = list_all-from _ z.files.table.opens (λ p there. elim (of-opens p there) [
      | inl old ↦ may.still (Object.File p.number) (list_all-at (λ (r : OpenFile). has_handle x.handles (Object.File r.number)) x.files.table.opens sound.opens_named p old)
      | inr e ↦ subst (λ (r : OpenFile). has_handle handles (Object.File r.number) ≡ true) e may.named
    ]);
    opens_plain = each (is_plain_well x.files) sound.opens_plain may.plain;
    opens_own = each (is_own_well x) sound.opens_own may.own;
    apart = all-apart;
    writers = list_all-from _ z.files.table.opens (λ p there. elim (of-opens p there) [ inl old ↦ alone-old p old | inr e ↦ subst (λ q. is_alone z q ≡ true) e alone-new ]);
  }
    where
      counted : (p : OpenFile) → IsIn p x.files.table.opens → p.number ≤ x.files.table.last_open
      counted p there = leb-true p.number x.files.table.last_open (and_parts (nat_le 1 p.number) _ (list_all-at (λ (r : OpenFile). nat_le 1 r.number && nat_le r.number x.files.table.last_open) x.files.table.opens sound.opens_drawn p there)).1

pub opening_law : OpeningLaw
opening_law = opened-sound
