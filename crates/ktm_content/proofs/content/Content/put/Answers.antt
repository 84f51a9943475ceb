use Rattle.std.proofs.Common.{◌≡◌, ◌/◌, ◌∙◌, List, ℕ, ap, ap₂, arith, refl, subst, sym}
use Rattle.ktm_page.specs.Bytes.{written}
use Rattle.ktm_content.specs.Contents.{put_over}
use Rattle.ktm_content.specs.Places.{CanBePut, ContentState, places_on}
use Rattle.ktm_content.proofs.offered.Putting.{put-places}
use Rattle.ktm_content.proofs.States.{size-lent, size-of}
use Rattle.ktm_content.proofs.content.Content.put.Goals as goal

pub put_pages-requires-clause-room : goal.put_pages-requires-clause-room
put_pages-requires-clause-room c =
    let long = size-of _ c.args.self.now c.self.inside.pages.items c.self.inside.size c.self.view_is refl c.self.invariant in
    let part_long = size-lent c.args.part c.part.inside.pages.now c.part.inside.size c.part.view_is c.part.invariant in
    let room = ap (λ (s : ContentState). s.room) c.self.view_is in
    omega (arith, long, part_long, room, c.requires.can.begins, c.requires.room, c.self.invariant, c.part.invariant)

pub overflow_add-start : goal.overflow_add-start
overflow_add-start c =
    let part_long = size-lent c.args.part c.part.inside.pages.now c.part.inside.size c.part.view_is c.part.invariant in
    let room = ap (λ (s : ContentState). s.room) c.self.view_is in
    omega (arith, part_long, room, c.requires.room)

pub returns-clause-bytes : goal.returns-clause-bytes
returns-clause-bytes c =
    let old = c.self.inside in
    let part = c.part.inside in
    let first = c.args.start / 4096 in
    let can =
    subst (λ (s : ContentState). CanBePut s.bytes c.args.start (places_on part.pages.now part.size)) (sym c.self.view_is)
    (subst (λ (l : List ℕ). CanBePut c.args.self.now.bytes c.args.start l) (sym c.part.view_is) c.requires.can) in
    let items : c.put_pages.new.pages.items ≡ written old.pages.items first part.pages.now = c.put_pages.ensures.pages in
    ap₂ places_on items c.max-self-inside.ensures
    ∙ put-places old.pages.items part.pages.now old.size c.args.start part.size first c.self.invariant c.part.invariant refl can
    ∙ ap₂ (λ (s : ContentState) (l : List ℕ). put_over s.bytes c.args.start l) c.self.view_is c.part.view_is
