use Rattle.std.proofs.Common.{All, List, length, sum_by, sym, ◌∙◌, ap, subst, arith}
use Rattle.std.proofs.lemmas.List.Elements.{All-append, All-nil}
use Rattle.std.proofs.lemmas.List.Sums.{sum_by-append}
use Rattle.ktm_event.specs.Work.{changes_of_file, final_file}
use Rattle.ktm_event.proofs.FilesShown.{changes_left, changes-left, fewer-left, left-all, left-none}
use Rattle.ktm_store.proofs.Wanted.{wants-none, wants-then}
use Rattle.ktm_store.specs.Marks.{MarksState}
use Rattle.ktm_world.specs.declared.change.Change.{Change}
use Rattle.ktm_memory.specs.Stored.{NamesBelow, NamesStored, pages_named}
use Rattle.ktm_memory.proofs.Wanting.{left-part, right-part, still-stored}
use Rattle.ktm_memory.proofs.pages.want_written.Goals as goal

pub loop-next-init : goal.loop-next-init
loop-next-init g c =
    let all = left-all (g.F.WrittenFiles.files c.args.files.now) c.first-next.result (g.met.F.WrittenFiles.rising c.args.files.now) c.first-next.ensures in
    record {
      wants = wants-none c.args.store.now;
      below = subst (All (NamesBelow (length c.args.store.now.marks.held))) (sym all) c.requires;
      stored = λ final keeps left. subst (All (NamesStored final)) all left;
      few = (let same = ap (λ (cs : List Change). sum_by pages_named cs) all in omega (arith, same));
    }

pub want_file-requires : goal.want_file-requires
want_file-requires g c =
    let split = changes-left (g.F.WrittenFiles.files c.args.files.now) c.loop-next.next c.behind-next.result c.in-Some.file (g.met.F.WrittenFiles.rising c.args.files.now) c.in-Some.is c.behind-next.ensures in
    subst (λ (m : MarksState). All (NamesBelow (length m.held)) (changes_of_file (final_file c.in-Some.file))) (sym c.loop-next.invariant.wants.marks)
    (left-part (NamesBelow (length c.args.store.now.marks.held)) (changes_of_file (final_file c.in-Some.file)) _ (subst (All (NamesBelow (length c.args.store.now.marks.held))) split c.loop-next.invariant.below))

pub loop-next-smaller : goal.loop-next-smaller
loop-next-smaller g c = fewer-left (g.F.WrittenFiles.files c.args.files.now) c.loop-next.next c.behind-next.result c.in-Some.file (g.met.F.WrittenFiles.rising c.args.files.now) c.in-Some.is c.behind-next.ensures

pub loop-next-preserved : goal.loop-next-preserved
loop-next-preserved g c =
    let split = changes-left (g.F.WrittenFiles.files c.args.files.now) c.loop-next.next c.behind-next.result c.in-Some.file (g.met.F.WrittenFiles.rising c.args.files.now) c.in-Some.is c.behind-next.ensures in
    record {
      wants = wants-then c.args.store.now c.loop-next.store c.want_file.new.store c.loop-next.invariant.wants c.want_file.ensures.wants;
      below = right-part (NamesBelow (length c.args.store.now.marks.held)) (changes_of_file (final_file c.in-Some.file)) _ (subst (All (NamesBelow (length c.args.store.now.marks.held))) split c.loop-next.invariant.below);
      stored = λ final keeps left. c.loop-next.invariant.stored final (λ page is. keeps page (c.want_file.ensures.wants.stored page is))
          (subst (All (NamesStored final)) (sym split)
          (All-append (NamesStored final) (changes_of_file (final_file c.in-Some.file)) _ (still-stored c.want_file.new.store.stored final keeps (changes_of_file (final_file c.in-Some.file)) c.want_file.ensures.stored) left));
      few = (let sum = ap (λ (cs : List Change). sum_by pages_named cs) split ∙ sum_by-append pages_named (changes_of_file (final_file c.in-Some.file)) (changes_left (g.F.WrittenFiles.files c.args.files.now) c.behind-next.result) in
          let before = c.loop-next.invariant.few in
          let file = c.want_file.ensures.few in
          omega (arith, sum, before, file));
    }

pub returns-clause-stored : goal.returns-clause-stored
returns-clause-stored g c =
    c.loop-next.invariant.stored c.loop-next.store.stored (λ page is. is)
    (subst (All (NamesStored c.loop-next.store.stored)) (sym (left-none (g.F.WrittenFiles.files c.args.files.now) c.loop-next.next c.in_default.is)) (All-nil (NamesStored c.loop-next.store.stored)))

pub returns-clause-few : goal.returns-clause-few
returns-clause-few g c =
    let few = c.loop-next.invariant.few in
    omega (arith, few)
