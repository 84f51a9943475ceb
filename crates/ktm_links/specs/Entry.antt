-- How the links of one entry are changed. No public clause cites this module.
use Rattle.std.specs.Prelude.{◌≡◌, ◌≢◌, ℕ, Option, Some, None}
use Rattle.slab.specs.Slab.{Slab, get}
use Rattle.ktm_links.specs.declared.entry.Entry.{Entry}

module _ {T : Type 0} where
  -- the entry with another place after it
  abbrev pub with_after : Option ℕ → Option (Entry T) → Option (Entry T)
  with_after after None = None
  with_after after (Some e) = Some (record e { after = after })

  -- the entry with another place before it
  abbrev pub with_before : Option ℕ → Option (Entry T) → Option (Entry T)
  with_before before None = None
  with_before before (Some e) = Some (record e { before = before })

  -- the entry at the place has this after it, and all else is as it was
  pub record SetsAfter (old new : Slab (Entry T)) (at after : Option ℕ) : Type 0 where
    pub changed : (p : ℕ) → at ≡ Some p → get new p ≡ with_after after (get old p)
    pub others : (q : ℕ) → at ≢ Some q → get new q ≡ get old q

  -- the entry at the place has this before it, and all else is as it was
  pub record SetsBefore (old new : Slab (Entry T)) (at before : Option ℕ) : Type 0 where
    pub changed : (p : ℕ) → at ≡ Some p → get new p ≡ with_before before (get old p)
    pub others : (q : ℕ) → at ≢ Some q → get new q ≡ get old q

  -- the entry at the place has this value, and all else is as it was
  pub record SetsValue (old new : Slab (Entry T)) (at : ℕ) (value : T) : Type 0 where
    pub changed : (e : Entry T) → get old at ≡ Some e → get new at ≡ Some (record e { value = value })
    pub others : (q : ℕ) → q ≢ at → get new q ≡ get old q

-- an end after a removal: as it was, where the removed entry had a neighbour on that side
abbrev pub beside_or : Option ℕ → Option ℕ → Option ℕ → Option ℕ
beside_or None end other = other
beside_or (Some _) end other = end
