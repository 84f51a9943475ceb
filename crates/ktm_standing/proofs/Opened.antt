-- What is so in the world that a restart opens.
use Rattle.std.proofs.Common.{◌≡◌, ◌≤◌, true, List, [], ◌∷◌, map, refl, ap, arith}
use Rattle.ktm_base.specs.declared.id.Id.{Id}
use Rattle.ktm_base.specs.declared.limits.TheConstants.{MOST_UNITS}
use Rattle.ktm_world.specs.Durable.{Durable, stand}
use Rattle.ktm_world.specs.Enlistments.{Manager}
use Rattle.ktm_world.specs.Logs.{Group}
use Rattle.ktm_world.specs.World.{manager_now, present, opened}
use Rattle.ktm_laws.specs.Running.{IsRunning}
use Rattle.ktm_records.specs.Spelling.{AreTexts}
use Rattle.ktm_standing.specs.Standing.{IsStanding, fresh}

managers_now : (ids : List Id) → map manager_now (map (λ id. record { id = id; is_durable = true; taken = []; queue = [] }) ids) ≡ map (λ (id : Id). record { id = id; is_durable = true; queue = [] }) ids
managers_now [] = refl
managers_now (id ∷ ids) = ap (λ (ms : List Manager). record { id = id; is_durable = true; queue = [] } ∷ ms) (managers_now ids)

pub opened_is : (base : Durable) (log : List Group) → present (opened base log) ≡ fresh (stand base log)
opened_is base log i = record (fresh (stand base log)) { managers = managers_now (stand base log).managers i }

-- the world stands, where it is one of a run
pub stands_opened : (base : Durable) (log : List Group) → base.units ≤ MOST_UNITS → AreTexts (present (opened base log)) → IsRunning (opened base log) → IsStanding (opened base log)
stands_opened base log small texts run = record { running = run; texts = texts; small = small; counted = λ file. omega arith }
