-- A world that a restart opens is one of a run.
use Rattle.std.proofs.Common.{◌≡◌, ◌+◌, true, false, List, [], ◌∷◌, ◌++◌, length, refl, sym, ◌∙◌, length-append}
use Rattle.std.proofs.lemmas.Bool.{and_from, and_parts}
use Rattle.std.proofs.lemmas.List.Folds.{list_all-append}
use Rattle.std.specs.List.{list_all}
use Rattle.ktm_world.specs.Durable.{Durable, is_worn, log_applies, stand}
use Rattle.ktm_world.specs.Logs.{Group}
use Rattle.ktm_world.specs.World.{opened, own_group}
use Rattle.ktm_world.proofs.offered.Durables.{stand-append, log_applies-append}
use Rattle.ktm_records.specs.Agreement.{AgreeingLaw}
use Rattle.ktm_records.specs.SoundWorlds.{SoundWorldsLaw}
use Rattle.ktm_records.specs.Spelling.{SpellingLaw}
use Rattle.txf_laws.specs.GoodState.{IsGoodState}
use Rattle.txf_laws.specs.GoodStates.{GoodStatesLaw}
use Rattle.txf_laws.specs.Grammatical.{is_grammatical}
use Rattle.txf_laws.specs.OwnGroup.{OwnGroupLaw}
use Rattle.ktm_limits.specs.LimitsKept.{LimitsLaw}
use Rattle.ktm_laws.specs.Notes.{NotesLaw}
use Rattle.ktm_laws.specs.Running.{IsRunning, is_good_log, is_log_grammatical}
use Rattle.ktm_laws.proofs.offered.LogCounts.{own-applies, own-grammatical}
use Rattle.ktm_laws.proofs.offered.PossibleLogs.{left-all}

-- a good log that is not worn is good with what the restart records
pub good-restart : GoodStatesLaw → OwnGroupLaw → SpellingLaw → (base : Durable) (log : List Group) → IsGoodState base → is_good_log base log ≡ true → is_worn (stand base log) ≡ false → is_good_log base (log ++ own_group (stand base log) ∷ []) ≡ true
good-restart states own_groups spelling base log good is fresh =
    let s = stand base log in
    let own = own_group s in
    let parts = and_parts (is_log_grammatical log) (log_applies base log) is in
    let good' = states.3 base log good parts.0 parts.1 in
    and_from (is_log_grammatical (log ++ own ∷ [])) (log_applies base (log ++ own ∷ []))
    (list_all-append (λ (g : Group). list_all is_grammatical g) log (own ∷ []) ∙ and_from _ _ parts.0 (and_from _ _ (own-grammatical s good') refl))
    (log_applies-append base log (own ∷ []) ∙ and_from _ _ parts.1 (and_from _ _ (own-applies own_groups spelling s good' fresh) refl))

module _ (states : GoodStatesLaw) (own_groups : OwnGroupLaw) (spelling : SpellingLaw) (worlds : SoundWorldsLaw) (agrees : AgreeingLaw) (limits : LimitsLaw) (notes : NotesLaw) where
  pub running-opened : (base : Durable) (log : List Group) → IsGoodState base → is_good_log base log ≡ true → is_worn (stand base log) ≡ false → IsRunning (opened base log)
  running-opened base log good is fresh =
      let s = stand base log in
      let own = own_group s in
      let before = and_parts (is_log_grammatical log) (log_applies base log) is in
      let good' = states.3 base log good before.0 before.1 in
      let sound = worlds.restarts base log good' in
      let agree = agrees.restarts base log good' in
      let is' = good-restart states own_groups spelling base log good is fresh in
      let parts = and_parts (is_log_grammatical (log ++ own ∷ [])) (log_applies base (log ++ own ∷ [])) is' in
      let kept : length log + 1 ≡ length (log ++ own ∷ []) = sym (length-append log (own ∷ [])) in
      record {
        base = good;
        openings = sound.openings;
        now = record {
          sound = sound.now;
          good = states.2 s own good' (own-grammatical s good') (own-applies own_groups spelling s good' fresh);
          carried_out = agree.1;
          agrees = agree.0;
          within = limits.restarts base log good';
        };
        versions = limits.first_versions base log;
        notes = notes.restarts base log;
        formed = good'.files;
        works = refl;
        last = refl;
        grammatical = parts.0;
        applies = parts.1;
        comes_to = stand-append base log (own ∷ []);
        kept = kept;
        possible = left-all (is_good_log base) (log ++ own ∷ []) (length log + 1) kept is';
      }
