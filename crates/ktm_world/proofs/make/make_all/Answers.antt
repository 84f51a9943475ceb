use Rattle.std.proofs.Common.{sym, ◌∙◌, ap, arith}
use Rattle.std.proofs.lemmas.List.{length_push}
use Rattle.ktm_world.specs.Keys.{stored}
use Rattle.ktm_world.proofs.Stores.{stored_all-append}
use Rattle.ktm_world.proofs.make.make_all.Goals as goal

pub loop-setting-preserved : goal.loop-setting-preserved
loop-setting-preserved c =
    let n = length_push c.loop-setting.yielded c.in-Some.setting in
    record {
      made = c.make_one.ensures.items ∙ ap (λ s. stored s c.in-Some.setting) c.loop-setting.invariant.made ∙ sym (stored_all-append _ c.loop-setting.yielded c.in-Some.setting);
      in_place = c.make_one.ensures.in_place ∙ c.loop-setting.invariant.in_place;
      room = omega arith;
    }
