use Rattle.std.proofs.Common.{◌≡◌, ℕ, ◌+◌, ◌-◌, ◌/◌, ◌∙◌, List, ap, arith, drop, length, subst, sym, take}
use Rattle.std.proofs.lemmas.List.{take_rest}
use Rattle.ktm_extent.specs.Extent.{ExtentState, IsExtent, contents, uses_in}
use Rattle.ktm_extent.proofs.Splices.{cut-below, cut-contents, cut-extent, cut-moves, moved-out, part-below, part-out, rest-less}
use Rattle.ktm_extent.proofs.extent.Extent.cut.Goals as goal

pub give_all-requires-clause-below : goal.give_all-requires-clause-below
give_all-requires-clause-below g c =
    let e = c.args.self.now in
    let units = c.div_ceil-units.result in
    let items = subst (λ (e : ExtentState). c.deref.result.now ≡ e.pages) c.self.view_is c.deref.ensures.value in
    let rest : take (length c.deref.result.now - units) (drop units c.deref.result.now) ≡ drop units e.pages = take_rest c.deref.result.now units ∙ ap (λ (l : List ℕ). drop units l) items in
    rw rest (part-below (g.G.PageSpace.count c.args.pages.now) e (drop units e.pages) c.requires.below (rest-less e.pages units))

pub give_all-requires-clause-out : goal.give_all-requires-clause-out
give_all-requires-clause-out g c =
    let e = c.args.self.now in
    let units = c.div_ceil-units.result in
    let is = subst (λ (e : ExtentState). IsExtent e) c.self.view_is c.self.invariant in
    let items = subst (λ (e : ExtentState). c.deref.result.now ≡ e.pages) c.self.view_is c.deref.ensures.value in
    let rest : take (length c.deref.result.now - units) (drop units c.deref.result.now) ≡ drop units e.pages = take_rest c.deref.result.now units ∙ ap (λ (l : List ℕ). drop units l) items in
    rw rest (part-out (g.G.PageSpace.holders c.args.pages.now) e (drop units e.pages) is c.requires.out (rest-less e.pages units))

pub invariant_of-self : goal.invariant_of-self
invariant_of-self g c =
    let e = c.args.self.now in
    let units = c.div_ceil-units.result in
    let is = subst (λ (e : ExtentState). IsExtent e) c.self.view_is c.self.invariant in
    let cut = subst (λ (e : ExtentState). c.truncate.new.self.items ≡ take units e.pages) c.self.view_is c.truncate.ensures.items in
    let count : units ≡ (c.args.len + 4095) / 4096 = omega (arith, c.div_ceil-units.ensures) in
    rw cut (cut-extent c.args.len units e is c.requires.shorter count)

pub returns-clause-bytes : goal.returns-clause-bytes
returns-clause-bytes g c = λ seen long.
    let e = c.args.self.now in
    let units = c.div_ceil-units.result in
    let cut = subst (λ (e : ExtentState). c.truncate.new.self.items ≡ take units e.pages) c.self.view_is c.truncate.ensures.items in
    let count : units ≡ (c.args.len + 4095) / 4096 = omega (arith, c.div_ceil-units.ensures) in
    ap (λ (l : List ℕ). contents seen (record { size = c.args.len; pages = l })) cut
    ∙ cut-contents seen (g.G.PageSpace.count c.args.pages.now) c.args.len e units long c.requires.below c.requires.shorter (omega (arith, count))

pub returns-clause-moves : goal.returns-clause-moves
returns-clause-moves g c =
    let e = c.args.self.now in
    let units = c.div_ceil-units.result in
    let before = g.G.PageSpace.holders c.args.pages.now in
    let after = g.G.PageSpace.holders c.give_all.new.pages in
    let items = subst (λ (e : ExtentState). c.deref.result.now ≡ e.pages) c.self.view_is c.deref.ensures.value in
    let rest : take (length c.deref.result.now - units) (drop units c.deref.result.now) ≡ drop units e.pages = take_rest c.deref.result.now units ∙ ap (λ (l : List ℕ). drop units l) items in
    let cut = subst (λ (e : ExtentState). c.truncate.new.self.items ≡ take units e.pages) c.self.view_is c.truncate.ensures.items in
    let gave = subst (λ (l : List ℕ). (page : ℕ) → after page + uses_in l page ≡ before page) rest c.give_all.ensures.gave in
    λ page. cut-moves e.pages units before after gave page ∙ ap (λ (l : List ℕ). before page + uses_in l page) (sym cut)

pub returns-clause-pages : goal.returns-clause-pages
returns-clause-pages g c =
    let units = c.div_ceil-units.result in
    let cut = subst (λ (e : ExtentState). c.truncate.new.self.items ≡ take units e.pages) c.self.view_is c.truncate.ensures.items in
    let count : units ≡ (c.args.len + 4095) / 4096 = omega (arith, c.div_ceil-units.ensures) in
    cut ∙ ap (λ (n : ℕ). take n c.args.self.now.pages) count

pub returns-clause-below : goal.returns-clause-below
returns-clause-below g c =
    let e = c.args.self.now in
    let units = c.div_ceil-units.result in
    let cut = subst (λ (e : ExtentState). c.truncate.new.self.items ≡ take units e.pages) c.self.view_is c.truncate.ensures.items in
    rw (cut, c.give_all.ensures.count) (cut-below (g.G.PageSpace.count c.args.pages.now) c.args.len units e c.requires.below)

pub returns-clause-out : goal.returns-clause-out
returns-clause-out g c =
    let e = c.args.self.now in
    let is = subst (λ (e : ExtentState). IsExtent e) c.self.view_is c.self.invariant in
    moved-out e (record { size = c.args.len; pages = c.truncate.new.self.items }) (g.G.PageSpace.holders c.args.pages.now) (g.G.PageSpace.holders c.give_all.new.pages) is c.requires.out (returns-clause-moves g c)
