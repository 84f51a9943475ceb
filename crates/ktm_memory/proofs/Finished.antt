-- What is left of a transaction where its work is committed or undone, also where it has none.
use Rattle.std.specs.Prelude.{if◌then◌else◌}
use Rattle.std.proofs.Common.{◌≡◌, Bool, true, false, not, List, [], ◌∷◌, filter, Some, is_some, refl, sym, ◌∙◌, ap, inl, inr}
use Rattle.std.proofs.lemmas.Bool.{cases_Bool, or_parts, true≢false}
use Rattle.ktm_base.specs.declared.id.Id.{Id}
use Rattle.ktm_world.specs.declared.change.Change.{Change}
use Rattle.ktm_world.specs.Committed.{committed_with}
use Rattle.ktm_world.specs.Files.{FilesNow, FirstOpen, committed_files, files_with, own_changes, without_transaction}
use Rattle.ktm_world.specs.Keys.{KeysNow, Own, OwnSettings, own_settings, stored_all, without_own}
use Rattle.ktm_world.specs.Transactions.{same_id}
use Rattle.kv_rm.specs.Participant.{has_own}
use Rattle.txf_laws.specs.FileEffects.{forgotten}
use Rattle.txf_laws.specs.Reservations.{files_committed}
use Rattle.txf_volume.specs.Held.{FilesHeld, OwnHeld, files_of, overlay_in, own_held}

-- ---- the keys

no_settings : (own : List Own) (id : Id) → has_own own id ≡ false → own_settings own id ≡ []
no_settings [] id none = refl
no_settings (o ∷ os) id none = let parts = or_parts (same_id o.transaction id) (has_own os id) none in rw parts.0 (no_settings os id parts.1)

all_stay : (own : List Own) (id : Id) → has_own own id ≡ false → without_own own id ≡ own
all_stay [] id none = refl
all_stay (o ∷ os) id none = let parts = or_parts (same_id o.transaction id) (has_own os id) none in rw parts.0 (ap (λ (rest : List Own). o ∷ rest) (all_stay os id parts.1))

-- what a transaction set is in the store, where it commits, and it has nothing of its own
pub record AreFinished (old new : KeysNow) (id : Id) (commits : Bool) : Type 0 where
  pub store : new.store ≡ (if commits then stored_all old.store (own_settings old.own id) else old.store)
  pub own : new.own ≡ without_own old.own id

pub keys_finished : (old new : KeysNow) (id : Id) (had commits : Bool) → had ≡ has_own old.own id
    → (had ≡ true → commits ≡ true → new ≡ record { store = stored_all old.store (own_settings old.own id); own = without_own old.own id })
    → (had ≡ true → commits ≡ false → new ≡ record old { own = without_own old.own id })
    → (had ≡ false → new ≡ old)
    → AreFinished old new id commits
keys_finished old new id true true had committed undone none = let is = committed refl refl in record { store = ap (λ (k : KeysNow). k.store) is; own = ap (λ (k : KeysNow). k.own) is }
keys_finished old new id true false had committed undone none = let is = undone refl refl in record { store = ap (λ (k : KeysNow). k.store) is; own = ap (λ (k : KeysNow). k.own) is }
keys_finished old new id false true had committed undone none = record {
  store = ap (λ (k : KeysNow). k.store) (none refl) ∙ sym (ap (λ (settings : OwnSettings). stored_all old.store settings) (no_settings old.own id (sym had)));
  own = ap (λ (k : KeysNow). k.own) (none refl) ∙ sym (all_stay old.own id (sym had));
}
keys_finished old new id false false had committed undone none = record {
  store = ap (λ (k : KeysNow). k.store) (none refl);
  own = ap (λ (k : KeysNow). k.own) (none refl) ∙ sym (all_stay old.own id (sym had));
}

-- ---- the files

no_changes : (os : List OwnHeld) (id : Id) → is_some (overlay_in os id) ≡ false → own_changes (own_held os) id ≡ []
no_changes [] id none = refl
no_changes (o ∷ os) id none = elim (cases_Bool (same_id o.transaction id)) [
  | inl is ↦ absurd (true≢false (rw is at none))
  | inr other ↦ rw other (no_changes os id (rw other at none))
]

-- a commit of nothing forgets
forgets : (files : FilesNow) (id : Id) → own_changes files.table.own id ≡ [] → files_committed files id ≡ forgotten files id
forgets files id none =
    ap (λ (changes : List Change). files_with (committed_with (committed_files files []) (record { transaction = Some id; changes = changes; settings = [] } ∷ []))
    (filter (λ (f : FirstOpen). not (same_id f.transaction id)) files.first_opens) (without_transaction files.table id)) none

pub files_left : (h : FilesHeld) (new : FilesNow) (id : Id) (commits : Bool) → false ≡ is_some (overlay_in h.overlays id) → new ≡ forgotten (files_of h) id
    → new ≡ (if commits then files_committed (files_of h) id else forgotten (files_of h) id)
files_left h new id true none is = is ∙ sym (forgets (files_of h) id (no_changes h.overlays id (sym none)))
files_left h new id false none is = is
