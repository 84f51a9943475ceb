use Rattle.std.proofs.Common.{ℕ, ◌+◌, ◌*◌, ◌≤◌, All, List, length, sym, subst}
use Rattle.std.proofs.lemmas.List.Elements.{All-nil}
use Rattle.ktm_content.specs.Contents.{units_of}
use Rattle.ktm_store.specs.Store.{IsStoredAt}
use Rattle.ktm_store.proofs.Wanted.{wants-none}
use Rattle.ktm_memory.proofs.pages.want_contents.Goals as goal

pub want-requires : goal.want-requires
want-requires c = subst (λ (contents : List ℕ). All (λ place. place ≤ length c.args.store.now.marks.held * 4096) contents) (sym c.lend.ensures) (rw c.in-Whole.is at c.requires)

pub returns-in-Whole-clause-stored : goal.returns-in-Whole-clause-stored
returns-in-Whole-clause-stored c = rw c.in-Whole.is (subst (λ (contents : List ℕ). All (IsStoredAt c.want.new.self.stored) contents) c.lend.ensures c.want.ensures.stored)

pub returns-in-Whole-clause-few : goal.returns-in-Whole-clause-few
returns-in-Whole-clause-few c = rw c.in-Whole.is (subst (λ (contents : List ℕ). length c.want.new.self.wanted ≤ length c.args.store.now.wanted + units_of contents) c.lend.ensures c.want.ensures.few)

pub returns-in-Paged-clause-stored : goal.returns-in-Paged-clause-stored
returns-in-Paged-clause-stored c = rw c.in-Paged.is (All-nil (IsStoredAt c.args.store.now.stored))

pub returns-in-Paged-clause-wants : goal.returns-in-Paged-clause-wants
returns-in-Paged-clause-wants c = wants-none c.args.store.now
