use Rattle.std.proofs.Common.{◌+◌, ◌-◌, ◌*◌, ℕ, ◌∙◌, ap, arith}
use Rattle.ktm_store.specs.Frames.{OwnersState, kept_in}
use Rattle.ktm_store.proofs.Framing.{frames-more, kept-more}
use Rattle.ktm_store.proofs.frames.Frames.add.Goals as goal

pub invariant_of-self-in_err-add : goal.invariant_of-self-in_err-add
invariant_of-self-in_err-add c =
    let old = c.self.inside.bytes in
    let count = c.count-count.ensures.count in
    let next = ap (λ (o : OwnersState). o.count) c.in_err-add.ensures.err in
    frames-more c.self.inside.owners.count ((c.count-count.result + 1) * 4096) old.items c.resize.new.self.items ((c.count-count.result + 1) * 4096 - old.len) c.self.invariant
    (ap (λ (n : ℕ). (n + 1) * 4096) count) (ap (λ (n : ℕ). (c.count-count.result + 1) * 4096 - n) old.ok.0) c.in_ok-resize.ensures.items c.add.new.self.count
    (omega (arith, next, c.self.invariant.some)) (omega (arith, next))

pub returns-in_err-add-clause-kept : goal.returns-in_err-add-clause-kept
returns-in_err-add-clause-kept c =
    let old = c.self.inside.bytes in
    let count = c.count-count.ensures.count in
    rw (← c.self.view_is)
    (ap (λ (o : OwnersState). kept_in c.resize.new.self.items o.at) c.in_err-add.ensures.err
    ∙ kept-more c.self.inside.owners.count ((c.count-count.result + 1) * 4096) old.items c.resize.new.self.items ((c.count-count.result + 1) * 4096 - old.len) c.self.invariant
    (ap (λ (n : ℕ). (n + 1) * 4096) count) (ap (λ (n : ℕ). (c.count-count.result + 1) * 4096 - n) old.ok.0) c.in_ok-resize.ensures.items c.self.inside.owners.at c.count-count.ensures.within)

pub invariant_of-self-2 : goal.invariant_of-self-2
invariant_of-self-2 c =
    let old = c.self.inside.bytes in
    let count = c.count-count.ensures.count in
    let next = ap (λ (o : OwnersState). o.count) c.in_ok-add.ensures.ok in
    frames-more c.self.inside.owners.count ((c.count-count.result + 1) * 4096) old.items c.resize.new.self.items ((c.count-count.result + 1) * 4096 - old.len) c.self.invariant
    (ap (λ (n : ℕ). (n + 1) * 4096) count) (ap (λ (n : ℕ). (c.count-count.result + 1) * 4096 - n) old.ok.0) c.in_ok-resize.ensures.items c.add.new.self.count
    (omega (arith, next)) (omega (arith, next))

pub returns-clause-kept : goal.returns-clause-kept
returns-clause-kept c =
    let old = c.self.inside.bytes in
    let count = c.count-count.ensures.count in
    rw (← c.self.view_is)
    (ap (λ (o : OwnersState). kept_in c.resize.new.self.items o.at) c.in_ok-add.ensures.ok
    ∙ kept-more c.self.inside.owners.count ((c.count-count.result + 1) * 4096) old.items c.resize.new.self.items ((c.count-count.result + 1) * 4096 - old.len) c.self.invariant
    (ap (λ (n : ℕ). (n + 1) * 4096) count) (ap (λ (n : ℕ). (c.count-count.result + 1) * 4096 - n) old.ok.0) c.in_ok-resize.ensures.items c.self.inside.owners.at c.count-count.ensures.within)
