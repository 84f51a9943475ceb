-- Places whose pages are held, as a rule that they follow.
use Rattle.std.proofs.Common.{◌≡◌, ℕ, ◌==◌, true, refl, inl, inr}
use Rattle.std.proofs.lemmas.Bool.{both_ways, cases_Bool, eq-eqb, eqb-true}
use Rattle.ktm_core.proofs.offered.Places.{files-weaker}
use Rattle.ktm_each.specs.Each.{EachOfFiles}
use Rattle.ktm_core.specs.Rules.{Follows}
use Rattle.ktm_core.specs.Stored.{AreFilesHeld}
use Rattle.ktm_store.specs.Marks.{MarksState}
use Rattle.ktm_store.specs.Store.{IsHeldAt, StoreOf}
use Rattle.ktm_world.specs.Files.{FilesNow}
use Rattle.ktm_kernel.specs.Staging.{is_held_at}

pub held-rule : (marks : MarksState) (file index place : ℕ) → IsHeldAt marks place → is_held_at marks file index place ≡ true
held-rule marks file index place held = elim (cases_Bool (place == 0)) [
  | inl none ↦ rw none refl
  | inr some ↦ rw some (held (λ is. both_ways (place == 0) some (eq-eqb place 0 is)))
]

pub rule-held : (marks : MarksState) (file index place : ℕ) → is_held_at marks file index place ≡ true → IsHeldAt marks place
rule-held marks file index place follows some = elim (cases_Bool (place == 0)) [
  | inl none ↦ absurd (some (eqb-true place 0 none))
  | inr other ↦ (rw other at follows)
]

pub files-rule : {B : Type 0} (store : StoreOf B) (files : FilesNow) → AreFilesHeld store files → EachOfFiles (Follows (is_held_at store.marks)) files
files-rule store files held = files-weaker (λ file index place. IsHeldAt store.marks place) (Follows (is_held_at store.marks)) (held-rule store.marks) files held

pub rule-files : {B : Type 0} (store : StoreOf B) (files : FilesNow) → EachOfFiles (Follows (is_held_at store.marks)) files → AreFilesHeld store files
rule-files store files follows = files-weaker (Follows (is_held_at store.marks)) (λ file index place. IsHeldAt store.marks place) (rule-held store.marks) files follows
