use Rattle.std.proofs.Common.{◌≡◌, ℕ, ◌<◌, [], ◌∷◌, true, List, ap, arith, get_or, length, length-append, take, sym, subst}
use Rattle.std.specs.Prelude.{All}
use Rattle.std.proofs.lemmas.List.{take_all, take_more}
use Rattle.ktm_store.specs.Marks.{MarksState}
use Rattle.ktm_store.specs.Stored.{is_stored}
use Rattle.ktm_store.proofs.Wanted.{stored-push, wants-none, wants-then}
use Rattle.ktm_store.proofs.store.Store.want_pages.Goals as goal

pub loop-page-init : goal.loop-page-init
loop-page-init c = record { wants = wants-none c.args.self.now; stored = λ k d low. absurd (omega (arith, low)); few = omega arith }

pub want_page-requires : goal.want_page-requires
want_page-requires c =
    let i = c.loop-page.page-index in
    subst (λ (m : MarksState). get_or c.args.pages.now i 0 < length m.held) (sym c.loop-page.invariant.wants.marks) (c.requires i 0 c.loop-page-test.true)

pub loop-page-preserved : goal.loop-page-preserved
loop-page-preserved c =
    let i = c.loop-page.page-index in
    let pages = c.args.pages.now in
    let more = take_more pages i 0 c.loop-page-test.true in
    record {
      wants = wants-then c.args.self.now c.loop-page.self c.want_page.new.self c.loop-page.invariant.wants c.want_page.ensures.wants;
      stored = subst (λ (l : List ℕ). All (λ page. is_stored c.want_page.new.self.stored page ≡ true) l) (sym more)
          (stored-push c.loop-page.self.stored c.want_page.new.self.stored (take i pages) (get_or pages i 0) c.want_page.ensures.wants.stored c.loop-page.invariant.stored c.want_page.ensures.stored);
      few = omega (arith, c.loop-page.invariant.few, c.want_page.ensures.few, ap (λ (l : List ℕ). length l) more, length-append (take i pages) (get_or pages i 0 ∷ []));
    }

pub returns : goal.returns
returns c =
    let i = c.loop-page.page-index in
    let all : take i c.args.pages.now ≡ c.args.pages.now = take_all i c.args.pages.now (omega (arith, c.loop-page-test.false)) in
    record {
      wants = c.loop-page.invariant.wants;
      few = omega (arith, c.loop-page.invariant.few, ap (λ (l : List ℕ). length l) all);
      stored = rw all at c.loop-page.invariant.stored;
    }
