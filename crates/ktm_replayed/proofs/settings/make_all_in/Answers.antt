use Rattle.std.proofs.Common.{option_map, sym, ◌∙◌, arith}
use Rattle.std.proofs.lemmas.Bool.{and_from, and_parts, true≢false}
use Rattle.ktm_keyed.specs.Keyed.{comes_before}
use Rattle.ktm_replayed.proofs.InPlace.{bad-behind, none-behind, none-made, one-made}
use Rattle.ktm_replayed.proofs.settings.make_all_in.Goals as goal
use Rattle.ktm_world.specs.Keys.{is_good_setting}

pub settings-init : goal.settings-init
settings-init c = none-made c.args.bytes.now c.args.start c.args.keys.now.items c.requires

pub returns-in_default : goal.returns-in_default
returns-in_default c =
    none-behind c.args.bytes.now c.args.start c.settings.end c.settings.counter c.settings.last.now c.args.keys.now.items c.settings.keys.items c.settings.invariant c.args.count (omega arith) c.in_default.ensures

pub returns-then-not-is_next : goal.returns-then-not-is_next
returns-then-not-is_next c =
    bad-behind c.args.bytes.now c.args.start c.settings.end c.settings.counter c.settings.last.now c.args.keys.now.items c.settings.keys.items c.settings.invariant c.args.count (omega arith)
    (record { key = c.in-Some.key.now; value = option_map (λ v. v.now) c.in-Some.value }) c.in-Some.next c.in-Some.ensures
    (λ good before. true≢false (sym (and_from _ _ before good) ∙ sym c.is_next.ensures ∙ c.if-not-is_next.true))

pub settings-preserved : goal.settings-preserved
settings-preserved c =
    let parts = and_parts (comes_before c.settings.last.now c.in-Some.key.now) (is_good_setting (record { key = c.in-Some.key.now; value = option_map (λ v. v.now) c.in-Some.value })) (sym c.is_next.ensures ∙ c.if-not-is_next.false) in
    one-made c.args.bytes.now c.args.start c.settings.end c.settings.counter c.settings.last.now c.args.keys.now.items c.settings.keys.items c.settings.invariant
    (record { key = c.in-Some.key.now; value = option_map (λ v. v.now) c.in-Some.value }) c.in-Some.next c.make.new.keys.items c.in-Some.ensures parts.0 parts.1 c.in_ok-make.ensures
