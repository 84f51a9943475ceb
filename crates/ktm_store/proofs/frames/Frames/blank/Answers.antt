use Rattle.std.proofs.Common.{◌≡◌, ◌+◌, ◌-◌, ◌<◌, ◌≤◌, ℕ, List, None, Some, length, set, sym, ◌∙◌, ap, arith}
use Rattle.std.specs.Option.{option_map}
use Rattle.std.proofs.lemmas.List.{length-map, set-get_or}
use Rattle.ktm_page.specs.Row.{page_of}
use Rattle.ktm_store.specs.Frames.{OwnersState, kept_in, zeros}
use Rattle.ktm_store.proofs.Framing.{frames-put, is-written, kept-blank, kept-put, length-zeros, put-part}
use Rattle.ktm_store.proofs.frames.Frames.blank.Goals as goal

pub returns-in_default-clause-kept : goal.returns-in_default-clause-kept
returns-in_default-clause-kept c =
    rw (← c.self.view_is) (kept-blank c.self.inside.bytes.items c.self.inside.owners.at c.blank.new.self.at c.args.page c.self.invariant.blank (ap (λ (o : OwnersState). o.at) c.blank.ensures))

pub invariant_of-self-2 : goal.invariant_of-self-2
invariant_of-self-2 c =
    let old = c.self.inside.bytes.items in
    let begin = c.begin_of-begin.result in
    let low : c.in-Some.frame < c.self.inside.owners.count = c.in-Some.ensures.within in
    let long : length c.clear.new.page ≡ 4096 = ap (λ (l : List ℕ). length l) c.clear.ensures ∙ length-zeros in
    let fits : begin + (begin + 4096 - begin) ≤ length old = omega (arith, low, c.self.invariant.room, c.begin_of-begin.ensures) in
    frames-put c.self.inside.owners.count c.in-Some.frame c.args.page old _ zeros c.self.inside.owners.at c.self.inside.owners.at c.self.invariant low c.in-Some.ensures.is.1 length-zeros
    (is-written old _ c.clear.new.page zeros c.in-Some.frame begin
    (put-part old c.deref_mut.result.now c.clear.new.page c.self.inside.bytes.len begin (begin + 4096 - begin) c.deref_mut.ensures.value c.self.inside.bytes.ok.0 (omega (arith, long)) fits)
    c.clear.ensures c.begin_of-begin.ensures)

pub returns-clause-kept : goal.returns-clause-kept
returns-clause-kept c =
    let old = c.self.inside.bytes.items in
    let begin = c.begin_of-begin.result in
    let low : c.in-Some.frame < c.self.inside.owners.count = c.in-Some.ensures.within in
    let long : length c.clear.new.page ≡ 4096 = ap (λ (l : List ℕ). length l) c.clear.ensures ∙ length-zeros in
    let fits : begin + (begin + 4096 - begin) ≤ length old = omega (arith, low, c.self.invariant.room, c.begin_of-begin.ensures) in
    let there : c.args.page < length (kept_in old c.self.inside.owners.at) = rw (← c.self.view_is) at c.requires in
    let below : c.args.page < length c.self.inside.owners.at = omega (arith, there, length-map c.self.inside.owners.at (option_map (page_of old))) in
    let at : c.self.inside.owners.at ≡ set c.self.inside.owners.at c.args.page (Some c.in-Some.frame) = sym (ap (set c.self.inside.owners.at c.args.page) (sym c.in-Some.ensures.is.0) ∙ set-get_or c.self.inside.owners.at c.args.page None) in
    rw (← c.self.view_is)
    (kept-put c.self.inside.owners.count c.in-Some.frame c.args.page old _ zeros c.self.inside.owners.at c.self.inside.owners.at c.self.invariant low c.in-Some.ensures.is.1 length-zeros
    (is-written old _ c.clear.new.page zeros c.in-Some.frame begin
    (put-part old c.deref_mut.result.now c.clear.new.page c.self.inside.bytes.len begin (begin + 4096 - begin) c.deref_mut.ensures.value c.self.inside.bytes.ok.0 (omega (arith, long)) fits)
    c.clear.ensures c.begin_of-begin.ensures)
    at below c.in-Some.ensures.alone)
