-- The lines of a generated script go one after another, and their replies are counted.
use Rattle.std.proofs.Common.{◌≡◌, ℕ, zero, suc, ◌+◌, ◌/◌, ◌%◌, ◌<◌, Bool, true, false, cond, List, [], ◌∷◌, ◌++◌, Option, refl, sym, ◌∙◌, ap, subst, add-one, arith}
use Rattle.std.proofs.lemmas.List.Sums.{sum_by-append}
use Rattle.std.specs.Prelude.{IfSome, codes, count_by, decimal, slice_index_or}
use Rattle.ktm_base.specs.Disk.{HasLengths}
use Rattle.ktm_gen.specs.Script.{chosen, crashes, cycle_lines, generated_lines, line_at, rolls_back, word_of}
use Rattle.ktm_kernel.specs.Stands.{KernelState, KernelAt, LeftLaw}
use Rattle.ktm_log.specs.OnDisk.{OnDisk}
use Rattle.ktm_run.proofs.Breaks.{unanswered_here}
use Rattle.ktm_run.proofs.Runs.{Went-none, Went-then, Went-line}
use Rattle.ktm_run.specs.declared.tally.Tally.{Tally}
use Rattle.ktm_run.specs.Progress.{Answers, Unanswered}
use Rattle.ktm_run.specs.Script.{Means, has_reply}
use Rattle.ktm_run.specs.Summary.{is_ok, is_refused, is_start, summary, summary_line}
use Rattle.ktm_run.specs.Tallied.{Counted, Tallied, Halted}
use Rattle.ktm_world.specs.declared.command.Line.{Line}
use Rattle.ktm_world.specs.declared.reply.Reply.{Reply}
use Rattle.ktm_world.specs.Durable.{stand}
use Rattle.ktm_world.specs.World.{World}

-- ---- each line has a reply

either : (b : Bool) (one other : List ℕ) → has_reply one ≡ true → has_reply other ≡ true → has_reply (cond b one other) ≡ true
either true one other h k = h
either false one other h k = k

answered : (cycle word place : ℕ) → place < 9 → has_reply (slice_index_or (cycle_lines cycle word) place []) ≡ true
answered cycle word zero within = refl
answered cycle word (suc zero) within = refl
answered cycle word (suc (suc zero)) within = refl
answered cycle word (suc (suc (suc zero))) within = refl
answered cycle word (suc (suc (suc (suc zero)))) within = either (rolls_back word) (codes "p1 RollbackTransaction h1") (codes "p1 CommitTransaction h1") refl refl
answered cycle word (suc (suc (suc (suc (suc zero))))) within = refl
answered cycle word (suc (suc (suc (suc (suc (suc zero)))))) within = refl
answered cycle word (suc (suc (suc (suc (suc (suc (suc zero))))))) within = either (crashes cycle) (codes "crash") (codes "tick 1") refl refl
answered cycle word (suc (suc (suc (suc (suc (suc (suc (suc zero)))))))) within =
    either (crashes cycle) (codes "restart " ++ decimal word) (codes "p1 KvGet - \"k" ++ decimal (chosen word) ++ codes "\"") refl refl
answered cycle word (suc (suc (suc (suc (suc (suc (suc (suc (suc place))))))))) within = absurd (omega (arith, within))

line_has_reply : (number line : ℕ) → has_reply (line_at number line) ≡ true
unfolding line_at
line_has_reply number line = answered (line / 9) (word_of number (line / 9)) (line % 9) (omega arith)

-- ---- the lines so far, and one more

pub Tallied-none : (w : World) (scene : OnDisk KernelState) (number : ℕ) (tally : Tally) → tally.ok ≡ 0 → tally.refused ≡ 0 → tally.restarts ≡ 0 → KernelAt scene.it scene.told w
    → Tallied w scene scene (generated_lines number 0) tally
unfolding Went-none
Tallied-none w scene number tally ok refused restarts stands = record { went = Went-none w scene stands; counted = record { ok = ok; refused = refused; restarts = restarts } }

one_more : (is : Reply → Bool) (replies : List Reply) (reply : Reply) (old new : ℕ) → old ≡ count_by is replies → new ≡ old + count_by is (reply ∷ []) → new ≡ count_by is (replies ++ reply ∷ [])
one_more is replies reply old new so_far more = more ∙ ap (λ n. n + count_by is (reply ∷ [])) so_far ∙ sym (sum_by-append (λ (r : Reply). cond (is r) 1 0) replies (reply ∷ []))

module _ (w : World) (a b : OnDisk KernelState) (number lines : ℕ) where
  pub Tallied-more : (c : OnDisk KernelState) (old new : Tally) (line : List ℕ) (meant : Option Line) (reply : Reply) → line ≡ line_at number lines → Tallied w a b (generated_lines number lines) old → Means line meant → Answers b c meant reply
      → new.ok ≡ old.ok + count_by is_ok (reply ∷ []) → new.refused ≡ old.refused + count_by is_refused (reply ∷ []) → new.restarts ≡ old.restarts + count_by is_start (reply ∷ [])
      → Tallied w a c (generated_lines number (lines + 1)) new
  unfolding Went-then Went-line
  Tallied-more c old new line meant reply is so_far means answers ok refused restarts =
      let went = so_far.went in
      let counted = so_far.counted in
      subst (λ n. Tallied w a c (generated_lines number n) new) (sym (add-one lines)) (record {
        went = Went-then w a b c (generated_lines number lines) (line_at number lines ∷ []) went
            (Went-line went.world b c (line_at number lines) meant reply (line_has_reply number lines) (subst (λ (l : List ℕ). Means l meant) is means) (answers went.world went.stands));
        counted = record {
          ok = one_more is_ok went.replies reply old.ok new.ok counted.ok ok;
          refused = one_more is_refused went.replies reply old.refused new.refused counted.refused refused;
          restarts = one_more is_start went.replies reply old.restarts new.restarts counted.restarts restarts;
        };
      })

  pub Tallied-as : (all : ℕ) (tally : Tally) → lines ≡ all → Tallied w a b (generated_lines number lines) tally → Tallied w a b (generated_lines number all) tally
  Tallied-as all tally is so_far = subst (λ (n : ℕ). Tallied w a b (generated_lines number n) tally) is so_far

  -- a line that was not made, and one that was not executed
  pub halted_here : LeftLaw → (most : ℕ) (tally : Tally) → lines < most → IfSome b.told HasLengths → Tallied w a b (generated_lines number lines) tally → Halted number most w a b
  halted_here left most tally fewer lengths so_far = record {
    before = lines;
    fewer = fewer;
    at = b;
    lengths = lengths;
    went = so_far.went;
    broke = unanswered_here left so_far.went.world b (line_at number lines) so_far.went.stands;
  }

  pub halted_at : (c : OnDisk KernelState) (most : ℕ) (tally : Tally) (line : List ℕ) → line ≡ line_at number lines → lines < most → IfSome b.told HasLengths
      → Tallied w a b (generated_lines number lines) tally → ((v : World) → KernelAt b.it b.told v → Unanswered v b c line) → Halted number most w a c
  halted_at c most tally line is fewer lengths so_far unanswered = record {
    before = lines;
    fewer = fewer;
    at = b;
    lengths = lengths;
    went = so_far.went;
    broke = subst (λ (l : List ℕ). Unanswered so_far.went.world b c l) is (unanswered so_far.went.world so_far.went.stands);
  }

-- ---- what was counted is the summary

pub summary_is : (lines : ℕ) (replies : List Reply) (w : World) (tally : Tally) (events : ℕ) → Counted replies tally → tally.lines ≡ lines → events ≡ (stand w.base w.log).events
    → summary tally.lines tally.ok tally.refused tally.restarts events ≡ summary_line lines replies w
summary_is lines replies w tally events counted all are =
    ap (λ (n : ℕ). summary n tally.ok tally.refused tally.restarts events) all
    ∙ ap (λ (n : ℕ). summary lines n tally.refused tally.restarts events) counted.ok
    ∙ ap (λ (n : ℕ). summary lines (count_by is_ok replies) n tally.restarts events) counted.refused
    ∙ ap (λ (n : ℕ). summary lines (count_by is_ok replies) (count_by is_refused replies) n events) counted.restarts
    ∙ ap (λ (n : ℕ). summary lines (count_by is_ok replies) (count_by is_refused replies) (count_by is_start replies) n) are
