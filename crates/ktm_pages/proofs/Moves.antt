-- What the map's changes make of the slots, and of what is kept in them.
use Rattle.std.proofs.Common.{◌≡◌, ℕ, ◌-◌, ◌<◌, nat_eq, List, [], ◌∷◌, ◌++◌, length, get_or, set, Option, None, Some, refl, sym, ◌∙◌, ap, subst, inl, inr, eq-eqb, arith, get_or-set_same, length-append, length-set, rules}
use Rattle.std.proofs.lemmas.Bool.{cases_Bool}
use Rattle.std.specs.Map.{lookup, lookup_entry, remove_entry}
use Rattle.std.specs.Option.{IsSome}
use Rattle.lru.specs.LruCache.{LruCache, promoted, demoted, put_entries}
use Rattle.ktm_pages.specs.Cache.{most_kept, used, without}
use Rattle.ktm_pages.specs.Slots.{AreApart, AreSlots, IsAway, Slots, kept_in, slot_of}
use Rattle.ktm_pages.proofs.Numbered.{apart-behind, apart-removed, apart-take, apart-without, away-take, below-behind, below-found, below-removed, length-removed, removed-away, without-away}
use Rattle.ktm_pages.proofs.Slots.{Has, Serves, has, kept-behind, kept-set, packed-behind, packed-removed, serves-has}

-- what was found in front, with its slot's bytes as they are now, and the other slots as they were
slots-used : (page slot : ℕ) (bytes now : List (List ℕ)) (slots : Slots) → AreSlots bytes slots → Serves page slot bytes slots → length now ≡ most_kept
    → kept_in now (remove_entry (nat_eq slot) slots) ≡ kept_in bytes (remove_entry (nat_eq slot) slots) → AreSlots now ((slot, Some page) ∷ remove_entry (nat_eq slot) slots)
slots-used page slot bytes now slots h to long same =
    let short = length-removed (nat_eq slot) slots (slot, to.has) to.there in
    let all = h.all in
    let others = to.rest ∙ sym same in
    record {
      apart = (removed-away slot slots h.apart, apart-removed (nat_eq slot) slots h.apart);
      pages = (
        subst (λ (es : List (ℕ × List ℕ)). IsAway page es) others (away-take page (most_kept - 1) (without page (kept_in bytes slots)) (without-away page (kept_in bytes slots))),
        subst (λ (es : List (ℕ × List ℕ)). AreApart es) others (apart-take (most_kept - 1) (without page (kept_in bytes slots)) (apart-without page (kept_in bytes slots) h.pages)),
      );
      packed = packed-removed (nat_eq slot) slots h.packed;
      below = (below-found most_kept slot slots (slot, to.has) h.below to.there, below-removed most_kept (nat_eq slot) slots h.below);
      all = omega (arith, short, all);
      places = long;
    }

kept-used : (page slot : ℕ) (bytes now : List (List ℕ)) (slots : Slots) → Serves page slot bytes slots
    → kept_in now (remove_entry (nat_eq slot) slots) ≡ kept_in bytes (remove_entry (nat_eq slot) slots) → kept_in now ((slot, Some page) ∷ remove_entry (nat_eq slot) slots) ≡ used page (get_or now slot []) (kept_in bytes slots)
kept-used page slot bytes now slots to same = ap (λ es. (page, get_or now slot []) ∷ es) (same ∙ sym to.rest)

-- the bytes of the slot may be others
kept-written : (slot : ℕ) (bytes : List (List ℕ)) (b : List ℕ) (slots : Slots) → AreSlots bytes slots → kept_in (set bytes slot b) (remove_entry (nat_eq slot) slots) ≡ kept_in bytes (remove_entry (nat_eq slot) slots)
kept-written slot bytes b slots h = kept-set bytes slot b (remove_entry (nat_eq slot) slots) (removed-away slot slots h.apart)

-- the slot of a page that is forgotten is behind all others
slots-freed : (page slot : ℕ) (bytes : List (List ℕ)) (slots : Slots) → AreSlots bytes slots → Has page slot bytes slots → AreSlots bytes (remove_entry (nat_eq slot) slots ++ (slot, None) ∷ [])
slots-freed page slot bytes slots h hit =
    let others = remove_entry (nat_eq slot) slots in
    let short = length-removed (nat_eq slot) slots (slot, Some page) hit.there in
    let all = h.all in
    let long = length-append others ((slot, None) ∷ []) in
    let away = removed-away slot slots h.apart in
    record {
      apart = apart-behind slot None others (apart-removed (nat_eq slot) slots h.apart) away;
      pages = subst (λ (es : List (ℕ × List ℕ)). AreApart es) (hit.rest ∙ sym (kept-behind bytes slot others)) (apart-without page (kept_in bytes slots) h.pages);
      packed = packed-behind slot others (packed-removed (nat_eq slot) slots h.packed);
      below = below-behind most_kept slot None others (below-removed most_kept (nat_eq slot) slots h.below) (below-found most_kept slot slots (slot, Some page) h.below hit.there);
      all = omega (arith, short, all, long);
      places = h.places;
    }

kept-freed : (page slot : ℕ) (bytes : List (List ℕ)) (slots : Slots) → Has page slot bytes slots → kept_in bytes (remove_entry (nat_eq slot) slots ++ (slot, None) ∷ []) ≡ without page (kept_in bytes slots)
kept-freed page slot bytes slots hit = kept-behind bytes slot (remove_entry (nat_eq slot) slots) ∙ sym hit.rest

-- ---- a slot that is there, in the map

put-there : (c : LruCache ℕ (Option ℕ)) (slot : ℕ) (was page : Option ℕ) → lookup_entry (nat_eq slot) c.entries ≡ Some (slot, was) → put_entries nat_eq c slot page ≡ (slot, page) ∷ remove_entry (nat_eq slot) c.entries
put-there c slot was page there = rw there refl

promoted-there : (slots : Slots) (slot : ℕ) (page : Option ℕ) → lookup_entry (nat_eq slot) slots ≡ Some (slot, page) → promoted (nat_eq slot) slots ≡ (slot, page) ∷ remove_entry (nat_eq slot) slots
promoted-there slots slot page there = rw there refl

demoted-first : (others : Slots) (slot : ℕ) (page : Option ℕ) → demoted (nat_eq slot) ((slot, page) ∷ others) ≡ others ++ (slot, page) ∷ []
demoted-first others slot page = rw (eq-eqb slot slot refl) refl

found : (slots : Slots) (slot : ℕ) (page : Option ℕ) → lookup_entry (nat_eq slot) slots ≡ Some (slot, page) → IsSome (lookup (nat_eq slot) slots)
found [] slot page there = cc
found (s ∷ slots) slot page there = elim (cases_Bool (nat_eq slot s.0)) [
  | inl passes ↦ rw passes (search rules)
  | inr fails ↦ rw fails (found slots slot page (rw fails at there))
]

-- ---- the changes

module _ (page slot : ℕ) (bytes : List (List ℕ)) (c : LruCache ℕ (Option ℕ)) (h : AreSlots bytes c.entries) where
  -- the slot that has a page
  pub held : slot_of page c.entries ≡ Some slot → Has page slot bytes c.entries
  held is = has page slot bytes c.entries h.apart h.pages is

  module _ (hit : Has page slot bytes c.entries) where
    pub held-below : slot < length bytes
    held-below = let below = below-found most_kept slot c.entries (slot, Some page) h.below hit.there in let long = h.places in omega (arith, below, long)

    -- it is used
    pub promoted-slots : AreSlots bytes (promoted (nat_eq slot) c.entries)
    promoted-slots = rw (promoted-there c.entries slot (Some page) hit.there) (slots-used page slot bytes bytes c.entries h (serves-has page slot bytes c.entries h hit) h.places refl)

    pub promoted-kept : kept_in bytes (promoted (nat_eq slot) c.entries) ≡ used page (get_or bytes slot []) (kept_in bytes c.entries)
    promoted-kept = ap (kept_in bytes) (promoted-there c.entries slot (Some page) hit.there) ∙ kept-used page slot bytes bytes c.entries (serves-has page slot bytes c.entries h hit) refl

    -- its page is forgotten
    pub held-found : IsSome (lookup (nat_eq slot) c.entries)
    held-found = found c.entries slot (Some page) hit.there

    freed : demoted (nat_eq slot) (put_entries nat_eq c slot None) ≡ remove_entry (nat_eq slot) c.entries ++ (slot, None) ∷ []
    freed = ap (demoted (nat_eq slot)) (put-there c slot (Some page) None hit.there) ∙ demoted-first (remove_entry (nat_eq slot) c.entries) slot None

    pub demoted-slots : AreSlots bytes (demoted (nat_eq slot) (put_entries nat_eq c slot None))
    demoted-slots = subst (AreSlots bytes) (sym freed) (slots-freed page slot bytes c.entries h hit)

    pub demoted-kept : kept_in bytes (demoted (nat_eq slot) (put_entries nat_eq c slot None)) ≡ without page (kept_in bytes c.entries)
    demoted-kept = ap (kept_in bytes) freed ∙ kept-freed page slot bytes c.entries hit

  module _ (to : Serves page slot bytes c.entries) where
    pub served-below : slot < length bytes
    served-below = let below = below-found most_kept slot c.entries (slot, to.has) h.below to.there in let long = h.places in omega (arith, below, long)

    pub served-found : IsSome (lookup (nat_eq slot) c.entries)
    served-found = found c.entries slot to.has to.there

    -- it has the page, with these bytes
    pub put-slots : (b : List ℕ) → AreSlots (set bytes slot b) (put_entries nat_eq c slot (Some page))
    put-slots b = subst (AreSlots (set bytes slot b)) (sym (put-there c slot to.has (Some page) to.there))
        (slots-used page slot bytes (set bytes slot b) c.entries h to (length-set bytes slot b ∙ h.places) (kept-written slot bytes b c.entries h))

    pub put-kept : (b : List ℕ) → kept_in (set bytes slot b) (put_entries nat_eq c slot (Some page)) ≡ used page b (kept_in bytes c.entries)
    put-kept b = ap (kept_in (set bytes slot b)) (put-there c slot to.has (Some page) to.there)
        ∙ kept-used page slot bytes (set bytes slot b) c.entries to (kept-written slot bytes b c.entries h)
        ∙ ap (λ (now : List ℕ). used page now (kept_in bytes c.entries)) (get_or-set_same bytes slot b [] served-below)
