-- What a transaction that is brought back has set.
use Rattle.std.specs.Prelude.{[], ◌∷◌, ◌++◌}
use Rattle.ktm_base.specs.declared.id.Id.{Id}
use Rattle.ktm_world.specs.Keys.{KeysNow, OwnSettings}

-- the keys once a transaction has these settings of its own, behind those of the others
abbrev pub keys_restored : KeysNow → Id → OwnSettings → KeysNow
keys_restored keys id settings = record keys { own = keys.own ++ record { transaction = id; settings = settings } ∷ [] }
