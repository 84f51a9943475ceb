-- How what is written at the end goes on.
use Rattle.std.proofs.Common.{◌≡◌, ◌+◌, ◌<◌, ◌≤◌, ℕ, zero, suc, IsTrue, Option, Result, List, [], ◌∷◌, ◌++◌, length, take, get_or, sum_by, refl, sym, ◌∙◌, ap, subst, arith, append_assoc}
use Rattle.std.proofs.lemmas.List.Sums.{sum_by_more, sum_by_more_le}
use Rattle.std.specs.Result.{OnOk, OnErr}
use Rattle.std.proofs.lemmas.Result.{on_ok_weaker, on_err_weaker}
use Rattle.ktm_base.specs.declared.id.Id.{Id}
use Rattle.ktm_base.specs.Grammar.{IsU8, IsU32, IsTextOf, Then, Tagged, IsListOf}
use Rattle.ktm_keyed.specs.declared.keyed.Keyed.{Keyed}
use Rattle.ktm_keyed.specs.Keyed.{is_rising}
use Rattle.ktm_codec.specs.Spans.{Adds}
use Rattle.ktm_codec.proofs.Adding.{adds_then, adds_tagged}
use Rattle.ktm_codec.proofs.SpansLemmas.{then_tagged}
use Rattle.ktm_world.specs.declared.change.Change.{Change}
use Rattle.ktm_world.specs.declared.change.Contents.TheVariants.{Paged}
use Rattle.ktm_world.specs.declared.event.Part.{Part}
use Rattle.ktm_world.specs.declared.event.Part.TheVariants.{Enlistment, Changes, Settings}
use Rattle.ktm_world.specs.EventGrammar.{IsIdOf, IsPutOf, IsSetTo, IsSettingOf, AreSettingsOf, IsPartOf, IsSoleOf, IsEventOf}
use Rattle.ktm_world.specs.Sizes.{event_size, part_size}
use Rattle.ktm_world.specs.Values.{IsText}
use Rattle.ktm_event.specs.Spelling.{IsSpellableId, AreSpellableChanges, AreSpellableSettings, IsSpellablePart, IsSpellableRecord, IsSpellableSole, IsSpellableEvent}
use Rattle.ktm_event.specs.Work.{stage_tag, work_event}
use Rattle.ktm_event.specs.declared.work.Stage.{Stage}
use Rattle.ktm_event.specs.declared.work.Stage.TheVariants.{Ready, Single}

-- a fact of a call that took memory, or of one that had none, and what follows from it
module _ {T E P Q : Type 0} (r : Result T E) where
  pub on_ok_so : OnOk r P → (P → Q) → OnOk r Q
  on_ok_so fact so = on_ok_weaker r so fact

  pub on_err_so : OnErr r P → (P → Q) → OnErr r Q
  on_err_so fact so = on_err_weaker r so fact

-- one thing and then another
pub then : {P Q : List ℕ → Type 0} {a b c : List ℕ} → Adds P a b → Adds Q b c → Adds (Then P Q) a c
then {P} {Q} {a} {b} {c} first second = adds_then P Q a b c first second

-- a tag and what stands behind it
pub tagged : {P : List ℕ → Type 0} {a b c : List ℕ} {tag : ℕ} → Adds (IsU8 tag) a b → Adds P b c → Adds (Tagged tag P) a c
tagged {tag} first rest =
    let both = then first rest in
    record { more = both.more; is = both.is; form = then_tagged tag both.more both.form }

-- a tag that was pushed and what stands behind it
pub pushed : {P : List ℕ → Type 0} {a b c : List ℕ} {tag : ℕ} → b ≡ a ++ tag ∷ [] → Adds P b c → Adds (Tagged tag P) a c
pushed {P} {a} {b} {c} {tag} is rest = adds_tagged tag P a b c is rest

-- contents that are put are not empty
pub put : {a b : List ℕ} (len : ℕ) (pages : List ℕ) → 1 ≤ len → Adds (Then (IsU32 len) (IsListOf IsU32 pages)) a b → Adds (IsPutOf (Paged len pages)) a b
put zero pages some adds = absurd (omega arith)
put (suc n) pages some adds = adds

-- a setting whose key is a text
pub setting : {setting : Keyed (Option (List ℕ))} {a b : List ℕ} → IsText setting.key → Adds (Then (IsTextOf setting.key) (IsSetTo setting.value)) a b
    → Adds (IsSettingOf setting) a b
setting text parts = record { more = parts.more; is = parts.is; form = record { text = text; parts = parts.form } }

-- settings whose keys rise are a list of settings
pub rising : {settings : List (Keyed (Option (List ℕ)))} {a b : List ℕ} → IsTrue (is_rising settings) → Adds (IsListOf IsSettingOf settings) a b → Adds (AreSettingsOf settings) a b
rising rise listed = record { more = listed.more; is = listed.is; form = record { rising = rise; listed = listed.form } }

-- how many bytes the items of a list take so far
module _ {X : Type 0} (size : X → ℕ) (xs : List X) (i : ℕ) (x : X) (inside : i < length xs) (is : x ≡ get_or xs i x) where
  pub size_more : sum_by size (take (i + 1) xs) ≡ sum_by size (take i xs) + size x
  size_more = sum_by_more size xs i x inside ∙ ap (λ (y : X). sum_by size (take i xs) + size y) (sym is)

  pub size_within : sum_by size (take i xs) + size x ≤ sum_by size xs
  size_within = subst (λ (y : X). sum_by size (take i xs) + size y ≤ sum_by size xs) (sym is) (sum_by_more_le size xs i x inside)

-- a tag, an Id and what stands behind them
pub headed : {P : List ℕ → Type 0} {a b c : List ℕ} {tag : ℕ} {id : Id} → Adds (Tagged tag (IsIdOf id)) a b → Adds P b c → Adds (Tagged tag (Then (IsIdOf id) P)) a c
headed {P} {a} {b} {c} {tag} {id} head rest =
    let (behind, is, spelled) = head.form in
    record {
      more = head.more ++ rest.more;
      is = rest.is ∙ ap (λ (l : List ℕ). l ++ rest.more) head.is ∙ append_assoc a head.more rest.more;
      form = (behind ++ rest.more, ap (λ (l : List ℕ). l ++ rest.more) is, (behind, rest.more, refl, spelled, rest.form));
    }

-- a part that may be the sole one is spelled the same as such
pub sole : (part : Part) {a b : List ℕ} → IsSpellableSole part → Adds (IsPartOf part) a b → Adds (IsSoleOf part) a b
sole (Enlistment enlistment manager information) spellable adds = absurd spellable
sole (Changes changes) spellable adds = adds
sole (Settings settings) spellable adds = adds

pub sole_spellable : (part : Part) → IsSpellableSole part → IsSpellablePart part
sole_spellable (Enlistment enlistment manager information) spellable = absurd spellable
sole_spellable (Changes changes) spellable = spellable
sole_spellable (Settings settings) spellable = spellable

-- what a participant has to record, behind its tag
pub work : (stage : Stage) (part : Part) {transaction : Id} {a b c : List ℕ} → IsSpellableEvent (work_event stage transaction part)
    → Adds (Tagged (stage_tag stage) (IsIdOf transaction)) a b → Adds (IsPartOf part) b c → Adds (IsEventOf (work_event stage transaction part)) a c
work Ready part spellable head rest = headed head rest
work Single part spellable head rest = headed head (sole part spellable.1 rest)

-- how many bytes it takes, and what has bytes where it has
pub work_size : (stage : Stage) (transaction : Id) (part : Part) → event_size (work_event stage transaction part) ≡ 9 + part_size part
work_size Ready transaction part = refl
work_size Single transaction part = refl

pub work_id : (stage : Stage) (part : Part) {transaction : Id} → IsSpellableEvent (work_event stage transaction part) → IsSpellableId transaction
work_id Ready part spellable = spellable.0
work_id Single part spellable = spellable.0

pub work_changes : (stage : Stage) (transaction : Id) (changes : List Change) → IsSpellableEvent (work_event stage transaction (Changes changes)) → AreSpellableChanges changes
work_changes Ready transaction changes spellable = spellable.1
work_changes Single transaction changes spellable = spellable.1

pub work_settings : (stage : Stage) (transaction : Id) (settings : List (Keyed (Option (List ℕ)))) → IsSpellableEvent (work_event stage transaction (Settings settings))
    → AreSpellableSettings settings
work_settings Ready transaction settings spellable = spellable.1
work_settings Single transaction settings spellable = spellable.1

pub work_enlistment : (stage : Stage) (transaction enlistment manager : Id) (information : List ℕ) → IsSpellableEvent (work_event stage transaction (Enlistment enlistment manager information))
    → IsSpellableRecord enlistment manager information
work_enlistment Ready transaction enlistment manager information spellable = spellable.1
work_enlistment Single transaction enlistment manager information spellable = absurd spellable.1
