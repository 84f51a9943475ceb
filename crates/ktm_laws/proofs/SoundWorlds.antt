-- Every world of a run is sound.
use Rattle.std.proofs.Common.{refl, sym, subst}
use Rattle.ktm_world.specs.Decide.{decide}
use Rattle.ktm_world.specs.Laws.{FirstOpensLaw, StepLaw}
use Rattle.ktm_world.specs.Outcome.{Outcome, apply}
use Rattle.ktm_world.specs.World.{World, present, extend, decide_tick}
use Rattle.ktm_owned.specs.FilesKept.{FilesKeptLaw}
use Rattle.txf_laws.specs.Footprint.{ListsLaw}
use Rattle.txf_laws.specs.Formed.{FormedLaw}
use Rattle.ktm_owned.specs.OwnKeys.{OwnKeysLaw}
use Rattle.ktm_courses.specs.SoundCourses.{CoursesLaw}
use Rattle.ktm_records.specs.SoundWorlds.{IsSound, IsSoundWorld, SoundWorldsLaw}
use Rattle.txf_laws.proofs.offered.Reservations.{named}
use Rattle.ktm_owned.proofs.offered.KeysKept.{same}
use Rattle.ktm_owned.proofs.offered.EndedTransactions.{unchanged}

module _ (step : StepLaw) (openings : FirstOpensLaw) (lists : ListsLaw) (formed : FormedLaw) (courses : CoursesLaw) (keys : OwnKeysLaw) (files : FilesKeptLaw) where
  -- an outcome that keeps what is so now sound keeps the world so
  by-outcome : (w : World) (o : Outcome) → IsSoundWorld w → IsSound (apply (present w) o) → IsSoundWorld (extend w o)
  by-outcome w o sound after' = record { openings = openings.1 w o sound.openings; now = subst IsSound (sym (step.0 w o sound.openings)) after' }

  pub sound_worlds_law : SoundWorldsLaw
  sound_worlds_law = record {
    restarts = λ base log good. record {
      openings = openings.0 base log;
      now = record { course = courses.restarts base log good; keys = keys.2 base log good; files = files.restarts base log good };
    };
    commands = λ w process command sound. by-outcome w (decide (present w) process command) sound record {
      course = courses.commands (present w) process command (sound.now).course;
      keys = keys.0 (present w) process command (sound.now).keys;
      files = files.commands (present w) process command (sound.now).course (sound.now).files;
    };
    ticks = λ w ms sound. by-outcome w (decide_tick (present w) ms) sound record {
      course = courses.ticks (present w) ms (sound.now).course;
      keys = keys.1 (present w) ms (sound.now).keys;
      files = files.ticks (present w) ms (sound.now).course (sound.now).files;
    };
    falls = λ w power sound. record {
      openings = record { works = (sound.openings).works };
      now = record {
        course = courses.falls w power (sound.now).course;
        keys = same (present w) (present (record w { power = power })) (λ id was. was) refl refl (sound.now).keys;
        files = unchanged lists formed (present w) (present (record w { power = power })) refl refl (λ o there. named (present w) (sound.now).files o there) (λ id was. was) (λ u there. (u, there, refl)) (sound.now).files;
      };
    };
  }
