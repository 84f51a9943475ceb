use Rattle.std.specs.Prelude.{IfSome}
use Rattle.std.proofs.Common.{◌≡◌, ℕ, ◌+◌, ◌-◌, ◌*◌, ◌/◌, ◌≤◌, ◌∙◌, ◌++◌, false, List, ap, arith, length, max, min, refl, replicate, subst, sym}
use Rattle.ktm_base.specs.Disk.{DeviceCalls}
use Rattle.ktm_base.proofs.offered.ToldSteps.{IfSome-map}
use Rattle.ktm_page.specs.Row.{RowState}
use Rattle.ktm_world.specs.Tree.{put_over}
use Rattle.ktm_extent.specs.Calls.{IsWritten, most_calls}
use Rattle.ktm_extent.specs.Extent.{ExtentState, IsExtent, uses_in}
use Rattle.ktm_extent.specs.Units.{first_unit}
use Rattle.ktm_extent.proofs.Splices.{Splices, filled-length, given, given-less, given-part, made, now-extent, part-below, part-out, rewritten}
use Rattle.ktm_extent.proofs.extent.Extent.rewrite.Goals as goal

pub give_all-requires-clause-below : goal.give_all-requires-clause-below
give_all-requires-clause-below g c =
    let e = c.args.self.now in
    let begin = c.first_unit-first.result in
    let behind = (c.args.at + length c.args.bytes.now - 1) / 4096 + 1 in
    let is = subst (λ (e : ExtentState). IsExtent e) c.self.view_is c.self.invariant in
    let pages_are = subst (λ (e : ExtentState). c.deref-2.result.now ≡ e.pages) c.self.view_is c.deref-2.ensures.value in
    let same = subst (λ (e : ExtentState). length c.self.inside.pages.items ≡ length e.pages) c.self.view_is refl in
    let low : begin ≤ length e.pages = omega (arith, c.first_unit-first.ensures, is.units) in
    let order : begin ≤ behind = omega (arith, c.first_unit-first.ensures, c.requires.some) in
    let last : c.min.result ≡ min behind (length e.pages) = omega (arith, c.min.ensures, c.len-old.ensures, c.self.inside.pages.ok, same) in
    let part = given-part e.pages c.deref-2.result.now begin behind c.min.result pages_are last in
    rw (part, c.in_default-take_units.ensures.count)
    (part-below (g.G.PageSpace.count c.args.pages.now) e (given e.pages begin behind) c.requires.below (λ page. given-less e.pages begin behind page low order))

pub give_all-requires-clause-out : goal.give_all-requires-clause-out
give_all-requires-clause-out g c =
    let e = c.args.self.now in
    let begin = c.first_unit-first.result in
    let behind = (c.args.at + length c.args.bytes.now - 1) / 4096 + 1 in
    let is = subst (λ (e : ExtentState). IsExtent e) c.self.view_is c.self.invariant in
    let pages_are = subst (λ (e : ExtentState). c.deref-2.result.now ≡ e.pages) c.self.view_is c.deref-2.ensures.value in
    let same = subst (λ (e : ExtentState). length c.self.inside.pages.items ≡ length e.pages) c.self.view_is refl in
    let low : begin ≤ length e.pages = omega (arith, c.first_unit-first.ensures, is.units) in
    let order : begin ≤ behind = omega (arith, c.first_unit-first.ensures, c.requires.some) in
    let last : c.min.result ≡ min behind (length e.pages) = omega (arith, c.min.ensures, c.len-old.ensures, c.self.inside.pages.ok, same) in
    let part = given-part e.pages c.deref-2.result.now begin behind c.min.result pages_are last in
    let out = part-out (g.G.PageSpace.holders c.args.pages.now) e (given e.pages begin behind) is c.requires.out (λ page. given-less e.pages begin behind page low order) in
    rw part (λ page. omega (arith, out page, c.in_default-take_units.ensures.took.holders page))

pub invariant_of-self : goal.invariant_of-self
invariant_of-self g c =
    let e = c.args.self.now in
    let at = c.args.at in
    let bytes = c.args.bytes.now in
    let begin = c.first_unit-first.result in
    let behind = (at + length bytes - 1) / 4096 + 1 in
    let fresh = c.take_units.new.taken in
    let count = g.G.PageSpace.count c.args.pages.now in
    let held = g.G.PageSpace.holders c.args.pages.now in
    let holds = g.G.PageSpace.holders c.take_units.new.pages in
    let more = c.max.result - length e.pages in
    let is = subst (λ (e : ExtentState). IsExtent e) c.self.view_is c.self.invariant in
    let same = subst (λ (e : ExtentState). length c.self.inside.pages.items ≡ length e.pages) c.self.view_is refl in
    let size_is = subst (λ (e : ExtentState). c.max-self-inside.result ≡ max e.size (at + length bytes)) c.self.view_is c.max-self-inside.ensures in
    let copied = subst (λ (e : ExtentState). c.deref.result.now ≡ e.pages) c.self.view_is c.deref.ensures.value in
    let low : begin ≤ length e.pages = omega (arith, c.first_unit-first.ensures, is.units) in
    let order : begin ≤ behind = omega (arith, c.first_unit-first.ensures, c.requires.some) in
    let more_is : more ≡ max (length e.pages) behind - length e.pages = omega (arith, c.max.ensures, c.len-old.ensures, c.self.inside.pages.ok, same) in
    let longer = ap (λ (l : List ℕ). l ++ replicate {A = ℕ} (c.max.result - length l) 0) copied in
    let d_is = c.deref_mut.ensures.value ∙ c.in-Ok.ensures ∙ longer in
    let full = filled-length e.pages c.deref_mut.result.now fresh begin behind more low order more_is d_is c.take_units.auto.taken in
    let so : Splices e at bytes fresh count held holds = record {
      extent = is;
      below = c.requires.below;
      out = c.requires.out;
      some = c.requires.some;
      units = omega (arith, full, order, c.first_unit-first.ensures);
      taken = c.in_default-take_units.ensures.took;
    } in
    let now_is = made e at bytes fresh count held holds so c.deref_mut.result.now c.in-Ok.list.items begin more c.in-Ok.list.len c.max-self-inside.result c.first_unit-first.ensures more_is d_is (sym c.deref_mut.ensures.value) c.in-Ok.list.ok.0 size_is in
    subst (λ (e : ExtentState). IsExtent e) (sym now_is) (now-extent e at bytes fresh count held holds so)

pub returns-clause-ok : goal.returns-clause-ok
returns-clause-ok g c =
    let e = c.args.self.now in
    let at = c.args.at in
    let bytes = c.args.bytes.now in
    let begin = c.first_unit-first.result in
    let behind = (at + length bytes - 1) / 4096 + 1 in
    let fresh = c.take_units.new.taken in
    let count = g.G.PageSpace.count c.args.pages.now in
    let held = g.G.PageSpace.holders c.args.pages.now in
    let holds = g.G.PageSpace.holders c.take_units.new.pages in
    let after = g.G.PageSpace.holders c.give_all.new.pages in
    let told = g.P.PageIo.told c.args.io.now in
    let tells = g.P.PageIo.told c.take_units.new.io in
    let before = g.P.PageIo.status c.args.io.now in
    let later = g.P.PageIo.status c.take_units.new.io in
    let more = c.max.result - length e.pages in
    let is = subst (λ (e : ExtentState). IsExtent e) c.self.view_is c.self.invariant in
    let same = subst (λ (e : ExtentState). length c.self.inside.pages.items ≡ length e.pages) c.self.view_is refl in
    let size_is = subst (λ (e : ExtentState). c.max-self-inside.result ≡ max e.size (at + length bytes)) c.self.view_is c.max-self-inside.ensures in
    let copied = subst (λ (e : ExtentState). c.deref.result.now ≡ e.pages) c.self.view_is c.deref.ensures.value in
    let pages_are = subst (λ (e : ExtentState). c.deref-2.result.now ≡ e.pages) c.self.view_is c.deref-2.ensures.value in
    let low : begin ≤ length e.pages = omega (arith, c.first_unit-first.ensures, is.units) in
    let order : begin ≤ behind = omega (arith, c.first_unit-first.ensures, c.requires.some) in
    let more_is : more ≡ max (length e.pages) behind - length e.pages = omega (arith, c.max.ensures, c.len-old.ensures, c.self.inside.pages.ok, same) in
    let last : c.min.result ≡ min behind (length e.pages) = omega (arith, c.min.ensures, c.len-old.ensures, c.self.inside.pages.ok, same) in
    let longer = ap (λ (l : List ℕ). l ++ replicate {A = ℕ} (c.max.result - length l) 0) copied in
    let d_is = c.deref_mut.ensures.value ∙ c.in-Ok.ensures ∙ longer in
    let full = filled-length e.pages c.deref_mut.result.now fresh begin behind more low order more_is d_is c.take_units.auto.taken in
    let so : Splices e at bytes fresh count held holds = record {
      extent = is;
      below = c.requires.below;
      out = c.requires.out;
      some = c.requires.some;
      units = omega (arith, full, order, c.first_unit-first.ensures);
      taken = c.in_default-take_units.ensures.took;
    } in
    let now_is = made e at bytes fresh count held holds so c.deref_mut.result.now c.in-Ok.list.items begin more c.in-Ok.list.len c.max-self-inside.result c.first_unit-first.ensures more_is d_is (sym c.deref_mut.ensures.value) c.in-Ok.list.ok.0 size_is in
    let part = given-part e.pages c.deref-2.result.now begin behind c.min.result pages_are last ∙ ap (λ (b : ℕ). given e.pages b behind) c.first_unit-first.ensures in
    let gave = subst (λ (l : List ℕ). (page : ℕ) → after page + uses_in l page ≡ holds page) part c.give_all.ensures.gave in
    let Long = λ (r : RowState). count * 4096 ≤ length r.seen in
    let long : IfSome told Long = IfSome-map told _ Long (g.met.P.PageIo.lengths c.args.io.now) (λ r is. omega (arith, is, c.requires.row)) in
    let still : IfSome tells Long = IfSome-map tells _ Long (g.met.P.PageIo.lengths c.take_units.new.io) (λ r is. omega (arith, is, c.requires.row, c.in_default-take_units.ensures.row)) in
    let calls = subst (λ (n : ℕ). DeviceCalls (most_calls n) before later false) (sym c.take_units.auto.taken) c.in_default-take_units.ensures.calls in
    subst (λ (new : ExtentState). IsWritten (behind - first_unit e.size at) count (max e.size (at + length bytes)) (λ old. put_over old at bytes) e new held after told tells before later) (sym now_is)
    (rewritten e at bytes fresh count held holds after told tells before later so gave long still c.in_default-take_units.ensures.wrote calls)
