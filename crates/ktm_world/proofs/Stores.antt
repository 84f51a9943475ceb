-- One setting more, made in the store.
use Rattle.std.proofs.Common.{◌≡◌, List, [], ◌∷◌, ◌++◌, Option, ℕ, refl}
use Rattle.ktm_keyed.specs.declared.keyed.Keyed.{Keyed}
use Rattle.ktm_world.specs.Keys.{Store, OwnSettings, stored, stored_all}

pub stored_all-append : (store : Store) (settings : OwnSettings) (setting : Keyed (Option (List ℕ)))
    → stored_all store (settings ++ setting ∷ []) ≡ stored (stored_all store settings) setting
stored_all-append store [] setting = refl
stored_all-append store (s ∷ ss) setting = stored_all-append (stored store s) ss setting
