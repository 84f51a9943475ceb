use Rattle.std.proofs.Common.{◌≡◌, ℕ, List, [], ◌∷◌, ◌++◌, Option, refl, sym, ◌∙◌, ap, arith}
use Rattle.std.proofs.lemmas.List.{length_push}
use Rattle.ktm_keyed.specs.declared.keyed.Keyed.{Keyed}
use Rattle.ktm_world.specs.Keys.{Store, OwnSettings, stored, stored_all}
use Rattle.kv_rm.proofs.make.make_all.Goals as goal

-- one setting more, made last
stored_all-push : (store : Store) (settings : OwnSettings) (setting : Keyed (Option (List ℕ))) → stored_all store (settings ++ setting ∷ []) ≡ stored (stored_all store settings) setting
stored_all-push store [] setting = refl
stored_all-push store (s ∷ ss) setting = stored_all-push (stored store s) ss setting

pub loop-setting-preserved : goal.loop-setting-preserved
loop-setting-preserved g c =
    let n = length_push c.loop-setting.yielded c.in-Some.setting in
    record {
      made = c.make_one.ensures.items ∙ ap (λ s. stored s c.in-Some.setting) c.loop-setting.invariant.made ∙ sym (stored_all-push _ c.loop-setting.yielded c.in-Some.setting);
      in_place = c.make_one.ensures.in_place ∙ c.loop-setting.invariant.in_place;
      room = omega arith;
      counted = omega (arith, c.make_one.ensures.counted, c.loop-setting.invariant.counted, n);
    }
