use Rattle.std.proofs.Common.{◌≡◌, ◌∙◌, ap, arith}
use Rattle.ktm_store.specs.Frames.{OwnersState, kept_in}
use Rattle.ktm_store.proofs.Framing.{kept-none, zeros-page}
use Rattle.ktm_store.proofs.frames.Frames.new.Goals as goal

pub invariant_of-frames : goal.invariant_of-frames
invariant_of-frames c =
    let bytes = c.in_ok-bytes.bytes.items in
    let is : c.reserve.new.self.items ≡ bytes = c.reserve.ensures.items in
    let count : c.in_ok-owners.owners.count ≡ 1 = ap (λ (o : OwnersState). o.count) c.in_ok-owners.ensures in
    rw (is, count) (record { some = omega arith; room = omega (arith, c.in_ok-bytes.ensures.long); blank = zeros-page bytes c.in_ok-bytes.ensures.long c.in_ok-bytes.ensures.zero })

pub returns : goal.returns
returns c =
    c.in_ok-add_up_to.ensures.kept
    ∙ ap (λ (o : OwnersState). kept_in c.reserve.new.self.items o.at) c.in_ok-owners.ensures
    ∙ kept-none c.reserve.new.self.items c.args.pages
