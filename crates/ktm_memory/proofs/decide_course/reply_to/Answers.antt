use Rattle.std.specs.Prelude.{cond}
use Rattle.std.proofs.Common.{◌≡◌, Bool, true, false, sym, ◌∙◌, ap}
use Rattle.ktm_world.specs.declared.input.PhaseInput.{PhaseInput}
use Rattle.ktm_world.specs.declared.input.Seen.{Seen}
use Rattle.ktm_world.specs.declared.reply.Reply.{Reply}
use Rattle.ktm_standing.specs.Courses.{commits_at_once}
use Rattle.ktm_standing.proofs.offered.CommitReplies.{commit_replies}
use Rattle.ktm_world.specs.Phases.{Course}
use Rattle.ktm_world.specs.Steps.{led, seen}
use Rattle.ktm_memory.specs.Routed.{reply_to}
use Rattle.ktm_memory.proofs.decide_course.reply_to.Goals as goal

-- the reply to a commit that is asked for, by what is seen of the transaction
replied : (s : Seen) (b : Bool) (input : PhaseInput) (c : Course) → commits_at_once s ≡ b → input ≡ PhaseInput.CommitTransaction → s ≡ seen c → cond b Reply.Committed Reply.Pending ≡ reply_to input (led input c)
replied s b input c at_once is sees =
    rw is (ap (λ (v : Bool). cond v Reply.Committed Reply.Pending) (sym at_once ∙ ap (λ (u : Seen). commits_at_once u) sees) ∙ sym (commit_replies c))

pub returns-then-commits_at_once : goal.returns-then-commits_at_once
returns-then-commits_at_once c = λ d sees. replied c.args.seen.now true c.args.input d (cc) (cc) sees

pub returns-else-commits_at_once : goal.returns-else-commits_at_once
returns-else-commits_at_once c = λ d sees. replied c.args.seen.now false c.args.input d (cc) (cc) sees
