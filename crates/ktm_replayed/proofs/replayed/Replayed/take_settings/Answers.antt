use Rattle.std.proofs.Common.{◌≡◌, ◌==◌, true, eq-eqb, arith, ap}
use Rattle.ktm_replayed.specs.Replayed.{ReplayedState}
use Rattle.ktm_replayed.proofs.Alone.{bad-applies-not, no-settings, taken-inside, uncounted}
use Rattle.ktm_replayed.proofs.replayed.Replayed.take_settings.Goals as goal

pub returns-in_default : goal.returns-in_default
returns-in_default c = λ ss end spans.
    let boot : (c.args.transaction.boot == c.args.self.now.state.boots) ≡ true = eq-eqb _ _ (omega (arith, ap (λ (r : ReplayedState). r.state.boots) c.self.view_is)) in
    bad-applies-not c.args.self.now.state c.args.transaction c.requires boot ss (uncounted c.args.bytes.now c.args.at c.in_default.ensures ss end spans)

pub returns-then-count-eq0 : goal.returns-then-count-eq0
returns-then-count-eq0 c = λ ss end spans.
    let boot : (c.args.transaction.boot == c.args.self.now.state.boots) ≡ true = eq-eqb _ _ (omega (arith, ap (λ (r : ReplayedState). r.state.boots) c.self.view_is)) in
    bad-applies-not c.args.self.now.state c.args.transaction c.requires boot ss (no-settings c.args.bytes.now c.args.at c.in-Some.count c.in-Some.start c.in-Some.ensures (omega arith) ss end spans)

pub returns : goal.returns
returns c =
    let boot : (c.args.transaction.boot == c.args.self.now.state.boots) ≡ true = eq-eqb _ _ (omega (arith, ap (λ (r : ReplayedState). r.state.boots) c.self.view_is)) in
    taken-inside c.args.self.now _ c.self.view_is c.args.transaction c.requires boot c.args.bytes.now c.args.at c.in-Some.count c.in-Some.start c.in-Some.ensures (λ zero. absurd (omega (arith, zero)))
    c.make_all_in.result c.make_all_in.new.keys.items c.make_all_in.ensures
