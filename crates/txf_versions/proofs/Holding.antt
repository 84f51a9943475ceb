-- Lemmas on which older versions are held.
use Rattle.std.proofs.Common.{◌≡◌, ℕ, ◌+◌, ◌<◌, ◌≤◌, ◌||◌, Bool, true, false, not, eqb, List, [], ◌∷◌, ◌++◌, length, filter, find, refl, sym, ap, ◌∙◌, inl, inr, arith, length-append}
use Rattle.std.specs.List.{list_any}
use Rattle.std.specs.Prelude.{OnSome}
use Rattle.std.proofs.lemmas.Bool.{cases_Bool, and_from, and_parts, eqb-true, eq-eqb, or_right}
use Rattle.std.proofs.lemmas.List.Folds.{list_any-append}
use Rattle.ktm_base.specs.declared.id.Id.{Id}
use Rattle.txf_versions.specs.declared.kept.Older.{Older}
use Rattle.txf_versions.specs.declared.opened.Opened.{Opened}
use Rattle.txf_versions.specs.Parts.{IsTaken}
use Rattle.txf_versions.specs.VersionsState.{comes_before, fixes, is_held, is_own, is_pinned, is_version, with_older, without_transaction, AreAllHeld, AreApart}
use Rattle.txf_versions.proofs.Apart.{twins}
use Rattle.txf_versions.proofs.Tests.{any-other, any-shorter}

pub AreAllHeld-with : (opens : List Opened) (older : List Older) (v : Older) → AreAllHeld opens older → is_held opens v ≡ true → AreAllHeld opens (with_older older v)
AreAllHeld-with opens [] v all is = (is, tt)
AreAllHeld-with opens (w ∷ ws) v all is =
    elim (cases_Bool (comes_before w v)) [
      | inl before ↦ rw before ((all.0, AreAllHeld-with opens ws v all.1 is))
      | inr after ↦ rw after ((is, all))
    ]

-- ---- no more older versions than first opens
-- a first open that fixed another version is among those that did not fix this one
fixes-other : (v w : Older) → is_version v.file v.version w ≡ false → (o : Opened) → fixes w.file w.version o ≡ true
    → not (fixes v.file v.version o) ≡ true
fixes-other v w differs o fixes_w =
    elim (cases_Bool (fixes v.file v.version o)) [
      | inl fixes_v ↦
          let left = and_parts (eqb o.file w.file) (eqb o.version w.version) fixes_w in
          let right = and_parts (eqb o.file v.file) (eqb o.version v.version) fixes_v in
          absurd
          (let same =
          and_from (eqb w.file v.file) (eqb w.version v.version)
          (eq-eqb w.file v.file (sym (eqb-true o.file w.file left.0) ∙ eqb-true o.file v.file right.0))
          (eq-eqb w.version v.version (sym (eqb-true o.version w.version left.1) ∙ eqb-true o.version v.version right.1)) in
          cc)
      | inr other ↦ rw other refl
    ]

held-by_others : (opens : List Opened) (v : Older) (vs : List Older) → list_any (is_version v.file v.version) vs ≡ false → AreAllHeld opens vs
    → AreAllHeld (filter (λ o. not (fixes v.file v.version o)) opens) vs
held-by_others opens v [] apart held = tt
held-by_others opens v (w ∷ ws) apart held =
    elim (cases_Bool (is_version v.file v.version w)) [
      | inl same ↦ absurd (let some = rw same at apart in cc)
      | inr differs ↦ (
        any-other (λ o. not (fixes v.file v.version o)) (fixes w.file w.version) opens (fixes-other v w differs) held.0,
        held-by_others opens v ws (rw differs at apart) held.1,
      )
    ]

fewer : (opens : List Opened) (older : List Older) → AreApart older → AreAllHeld opens older → length older ≤ length opens
fewer opens [] apart held = omega arith
fewer opens (v ∷ vs) apart held =
    let others = filter (λ o. not (fixes v.file v.version o)) opens in
    let less = any-shorter (fixes v.file v.version) opens held.0 in
    let rest = fewer others vs apart.1 (held-by_others opens v vs apart.0 held.1) in
    omega (arith, less, rest)

-- a version that is held and not there is still to come
pub fewer_yet : (opens : List Opened) (older : List Older) (v : Older) → AreApart older → AreAllHeld opens older
    → is_held opens v ≡ true → list_any (is_version v.file v.version) older ≡ false → length older < length opens
fewer_yet opens older v apart held is none =
    let more = fewer opens (v ∷ older) ((none, apart)) ((is, held)) in omega (arith, more)

-- where all are held, none goes
pub filter-held : (opens : List Opened) (older : List Older) → AreAllHeld opens older → older ≡ filter (is_held opens) older
filter-held opens [] held = refl
filter-held opens (v ∷ vs) held = rw held.0 (ap (λ l. v ∷ l) (filter-held opens vs held.1))

pub held-passed : (opens : List Opened) (older : List Older) → AreAllHeld opens (filter (is_held opens) older)
held-passed opens [] = tt
held-passed opens (v ∷ vs) =
    elim (cases_Bool (is_held opens v)) [
      | inl held ↦ rw held ((held, held-passed opens vs))
      | inr loose ↦ rw loose (held-passed opens vs)
    ]

-- ---- a first open comes
pub held-push : (opens : List Opened) (o : Opened) (older : List Older) → AreAllHeld opens older → AreAllHeld (opens ++ o ∷ []) older
held-push opens o [] held = tt
held-push opens o (v ∷ vs) held =
    let is = list_any-append (fixes v.file v.version) opens (o ∷ []) in
    (is ∙ ap (λ b. b || list_any (fixes v.file v.version) (o ∷ [])) held.0, held-push opens o vs held.1)

-- ---- a first open goes

pinned-others : (old new : List Opened) (it : Opened) (file version : ℕ) → IsTaken old it new → fixes file version it ≡ false
    → is_pinned new file version ≡ is_pinned old file version
pinned-others old new it file version taken differs =
    ap (list_any (fixes file version)) taken.is ∙ list_any-append (fixes file version) taken.left taken.right
    ∙ sym
    (ap (list_any (fixes file version)) taken.was ∙ list_any-append (fixes file version) taken.left (it ∷ taken.right)
    ∙ ap (λ b. list_any (fixes file version) taken.left || (b || list_any (fixes file version) taken.right)) differs)

-- an older version is held still, or it is the one that the first open fixed and nobody fixes now
held-now : (old new : List Opened) (it : Opened) (v : Older) → IsTaken old it new → is_held old v ≡ true
    → is_held new v ≡ (not (is_version it.file it.version v) || is_pinned new it.file it.version)
held-now old new it v taken held =
    elim (cases_Bool (is_version it.file it.version v)) [
      | inl same ↦
          let parts = and_parts (eqb v.file it.file) (eqb v.version it.version) same in
          rw (same, eqb-true v.file it.file parts.0, eqb-true v.version it.version parts.1) refl
      | inr differs ↦
          let other : fixes v.file v.version it ≡ false = twins it.file it.version v.file v.version ∙ differs in
          rw differs (pinned-others old new it v.file v.version taken other ∙ held)
    ]

-- where the version is pinned still, each older version is held
pub held-kept : (old new : List Opened) (it : Opened) (older : List Older) → IsTaken old it new → is_pinned new it.file it.version ≡ true
    → AreAllHeld old older → AreAllHeld new older
held-kept old new it [] taken pinned held = tt
held-kept old new it (v ∷ vs) taken pinned held = (
  held-now old new it v taken held.0 ∙ or_right (not (is_version it.file it.version v)) (is_pinned new it.file it.version) pinned,
  held-kept old new it vs taken pinned held.1,
)

-- where the version is pinned no more, each older version but that one is held
pub filter-others : (old new : List Opened) (it : Opened) (older : List Older) → IsTaken old it new → is_pinned new it.file it.version ≡ false
    → AreAllHeld old older → filter (λ v. not (is_version it.file it.version v)) older ≡ filter (is_held new) older
filter-others old new it [] taken pinned held = refl
filter-others old new it (v ∷ vs) taken pinned held =
    let now : is_held new v ≡ not (is_version it.file it.version v) =
    held-now old new it v taken held.0 ∙ ap (λ b. not (is_version it.file it.version v) || b) pinned ∙ or_none (not (is_version it.file it.version v)) in
    let rest = filter-others old new it vs taken pinned held.1 in
    elim (cases_Bool (is_version it.file it.version v)) [
      | inl gone ↦ rw (now, gone) rest
      | inr other ↦ rw (now, other) (ap (λ l. v ∷ l) rest)
    ]
  where
    or_none : (b : Bool) → (b || false) ≡ b
    or_none true = refl
    or_none false = refl

pub length-taken : (old new : List Opened) (it : Opened) → IsTaken old it new → length old ≡ length new + 1
length-taken old new it taken =
    let was = ap length taken.was ∙ length-append taken.left (it ∷ taken.right) in
    let is = ap length taken.is ∙ length-append taken.left taken.right in
    omega (arith, was, is)

-- ---- all of a transaction have gone
pub none-own : (opens : List Opened) (transaction : Id) → list_any (is_own transaction) opens ≡ false → without_transaction opens transaction ≡ opens
none-own [] transaction none = refl
none-own (o ∷ os) transaction none =
    elim (cases_Bool (is_own transaction o)) [
      | inl own ↦ absurd (let some = rw own at none in cc)
      | inr other ↦ rw other (ap (λ l. o ∷ l) (none-own os transaction (rw other at none)))
    ]

-- what is held later was held before, so it is enough to filter by what is held later
pub filter-twice : (early late : List Opened) (older : List Older)
    → ((file version : ℕ) → is_pinned late file version ≡ true → is_pinned early file version ≡ true)
    → filter (is_held late) (filter (is_held early) older) ≡ filter (is_held late) older
filter-twice early late [] still = refl
filter-twice early late (v ∷ vs) still =
    elim (cases_Bool (is_held late v)) [
      | inl held ↦ rw (still v.file v.version held, held) (ap (λ l. v ∷ l) (filter-twice early late vs still))
      | inr free ↦
          elim (cases_Bool (is_held early v)) [
            | inl before ↦ rw (before, free) (filter-twice early late vs still)
            | inr never ↦ rw (never, free) (filter-twice early late vs still)
          ]
    ]

-- steps that each give back what is held no more leave of the first versions those that are held at last
pub released : (now next : List Opened) (first older left : List Older)
    → ((file version : ℕ) → is_pinned next file version ≡ true → is_pinned now file version ≡ true)
    → filter (is_held now) older ≡ filter (is_held now) first → left ≡ filter (is_held next) older → left ≡ filter (is_held next) first
released now next first older left still same is =
    is ∙ sym (filter-twice now next older still) ∙ ap (filter (is_held next)) same ∙ filter-twice now next first still

-- ---- what is found
held-as : (opens : List Opened) (file version : ℕ) (v : Older) → is_version file version v ≡ true → is_held opens v ≡ is_pinned opens file version
held-as opens file version v this =
    let parts = and_parts (eqb v.file file) (eqb v.version version) this in
    rw (eqb-true v.file file parts.0, eqb-true v.version version parts.1) refl

-- what is pinned is found among what is held as among all
pub find-held : (opens : List Opened) (older : List Older) (file version : ℕ) → is_pinned opens file version ≡ true
    → find (is_version file version) (filter (is_held opens) older) ≡ find (is_version file version) older
find-held opens [] file version pinned = refl
find-held opens (v ∷ vs) file version pinned =
    elim (cases_Bool (is_version file version v)) [
      | inl this ↦ rw (held-as opens file version v this ∙ pinned, this) refl
      | inr other ↦
          elim (cases_Bool (is_held opens v)) [
            | inl held ↦ rw (held, other) (find-held opens vs file version pinned)
            | inr loose ↦ rw (loose, other) (find-held opens vs file version pinned)
          ]
    ]

-- what is found is pinned
pub found-pinned : (opens : List Opened) (older : List Older) (file version : ℕ) → AreAllHeld opens older
    → OnSome (find (is_version file version) older) (is_pinned opens file version ≡ true)
found-pinned opens [] file version held = tt
found-pinned opens (v ∷ vs) file version held =
    elim (cases_Bool (is_version file version v)) [
      | inl this ↦ rw this (sym (held-as opens file version v this) ∙ held.0)
      | inr other ↦ rw other (found-pinned opens vs file version held.1)
    ]
