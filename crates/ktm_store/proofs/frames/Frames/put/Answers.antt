use Rattle.std.proofs.Common.{◌≡◌, ◌+◌, ◌-◌, ◌<◌, ◌≤◌, ℕ, List, length, ◌∙◌, ap, arith}
use Rattle.std.specs.Option.{option_map}
use Rattle.std.proofs.lemmas.List.{length-map}
use Rattle.ktm_page.specs.Row.{page_of}
use Rattle.ktm_store.specs.Frames.{filled, kept_in}
use Rattle.ktm_store.proofs.Framing.{frames-put, is-written, kept-put, length-filled, put-part}
use Rattle.ktm_store.proofs.frames.Frames.put.Goals as goal

pub invariant_of-self : goal.invariant_of-self
invariant_of-self c =
    let old = c.self.inside.bytes.items in
    let bytes = filled c.args.head.now c.args.from c.args.bytes.now c.args.tail.now in
    let begin = c.begin_of-begin.result in
    let count : c.take-frame.new.self.count ≡ c.self.inside.owners.count = c.take-frame.ensures.count in
    let low : c.take-frame.result < c.self.inside.owners.count = omega (arith, c.take-frame.ensures.within, count) in
    let whole : length bytes ≡ 4096 = length-filled c.args.head.now c.args.from c.args.bytes.now c.args.tail.now in
    let long : length c.fill.new.page ≡ 4096 = ap (λ (l : List ℕ). length l) c.fill.ensures ∙ whole in
    let fits : begin + (begin + 4096 - begin) ≤ length old = omega (arith, low, c.self.invariant.room, c.begin_of-begin.ensures) in
    rw count
    (frames-put c.self.inside.owners.count c.take-frame.result c.args.page old _ bytes c.self.inside.owners.at c.take-frame.new.self.at c.self.invariant low c.take-frame.ensures.own whole
    (is-written old _ c.fill.new.page bytes c.take-frame.result begin
    (put-part old c.deref_mut.result.now c.fill.new.page c.self.inside.bytes.len begin (begin + 4096 - begin) c.deref_mut.ensures.value c.self.inside.bytes.ok.0 (omega (arith, long)) fits)
    c.fill.ensures c.begin_of-begin.ensures))

pub returns-clause-kept : goal.returns-clause-kept
returns-clause-kept c =
    let old = c.self.inside.bytes.items in
    let bytes = filled c.args.head.now c.args.from c.args.bytes.now c.args.tail.now in
    let begin = c.begin_of-begin.result in
    let low : c.take-frame.result < c.self.inside.owners.count = omega (arith, c.take-frame.ensures.within, c.take-frame.ensures.count) in
    let whole : length bytes ≡ 4096 = length-filled c.args.head.now c.args.from c.args.bytes.now c.args.tail.now in
    let long : length c.fill.new.page ≡ 4096 = ap (λ (l : List ℕ). length l) c.fill.ensures ∙ whole in
    let fits : begin + (begin + 4096 - begin) ≤ length old = omega (arith, low, c.self.invariant.room, c.begin_of-begin.ensures) in
    let there : c.args.page < length (kept_in old c.self.inside.owners.at) = rw (← c.self.view_is) at c.requires.below in
    let below : c.args.page < length c.self.inside.owners.at = omega (arith, there, length-map c.self.inside.owners.at (option_map (page_of old))) in
    rw (← c.self.view_is)
    (kept-put c.self.inside.owners.count c.take-frame.result c.args.page old _ bytes c.self.inside.owners.at c.take-frame.new.self.at c.self.invariant low c.take-frame.ensures.own whole
    (is-written old _ c.fill.new.page bytes c.take-frame.result begin
    (put-part old c.deref_mut.result.now c.fill.new.page c.self.inside.bytes.len begin (begin + 4096 - begin) c.deref_mut.ensures.value c.self.inside.bytes.ok.0 (omega (arith, long)) fits)
    c.fill.ensures c.begin_of-begin.ensures)
    c.take-frame.ensures.at below c.take-frame.ensures.alone)
