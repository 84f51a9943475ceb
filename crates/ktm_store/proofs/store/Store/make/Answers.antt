use Rattle.std.proofs.Common.{◌-◌, ◌*◌, ◌≡◌, ◌∙◌, ap, List, ℕ, drop, length, arith}
use Rattle.std.proofs.lemmas.List.{take_at}
use Rattle.ktm_content.specs.Places.{places_on}
use Rattle.ktm_store.specs.Change.{unit_of}
use Rattle.ktm_store.specs.Store.{PoolState}
use Rattle.ktm_store.proofs.Letting.{took-went}
use Rattle.ktm_store.proofs.Making.{units-many}
use Rattle.ktm_store.proofs.store.Store.make.Goals as goal

pub on_pages-content-requires : goal.on_pages-content-requires
on_pages-content-requires c =
    let change = c.args.change.now in
    let pages = c.take_units.new.pages in
    let all : c.new.result ≡ pages = c.new.ensures ∙ take_at pages (drop (length pages) c.in_ok-pages.pages.items) c.in_ok-pages.pages.len (omega (arith, c.take_units.auto.pages, c.deref_mut.ensures.len)) in
    let many : length pages ≡ change.behind - change.first = omega (arith, c.take_units.auto.pages, c.deref_mut.ensures.len, c.in_ok-pages.ensures.len, c.units.ensures.is) in
    omega (arith, ap (λ (l : List ℕ). length l) all, many, units-many change c.args.size c.units.ensures.sound, c.size.ensures)

pub returns-clause-ok : goal.returns-clause-ok
returns-clause-ok c =
    let change = c.args.change.now in
    let pages = c.take_units.new.pages in
    let old : PoolState = record { seen = c.self.inside.frames.kept; marks = c.self.inside.marks; stored = c.self.inside.stored.stored; wanted = c.self.inside.stored.wanted } in
    let went = rw c.all.ensures at c.in_ok-reserve.ensures.went in
    let all : c.new.result ≡ pages = c.new.ensures ∙ take_at pages (drop (length pages) c.in_ok-pages.pages.items) c.in_ok-pages.pages.len (omega (arith, c.take_units.auto.pages, c.deref_mut.ensures.len)) in
    rw (← c.self.view_is)
    (record {
      pages = pages;
      many = omega (arith, c.take_units.auto.pages, c.deref_mut.ensures.len, c.in_ok-pages.ensures.len, c.units.ensures.is);
      took = took-went old c.reserve.new.self.kept went (unit_of change) change.first pages _ c.take_units.ensures.took;
      start_is = ap (λ n. n * 4096) c.first.ensures.is;
      part_is = c.new-2.ensures ∙ c.on_pages-content.ensures ∙ ap (λ (l : List ℕ). places_on l c.size.result) all ∙ ap (places_on pages) c.size.ensures;
    })
