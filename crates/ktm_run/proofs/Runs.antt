-- Runs of lines go one after another, and end early at one line.
use Rattle.std.specs.Prelude.{IfSome}
use Rattle.std.proofs.Common.{◌≡◌, ℕ, ◌+◌, true, false, cond, List, [], ◌∷◌, ◌++◌, Option, refl, sym, ◌∙◌, ap, subst, arith, append_assoc}
use Rattle.std.proofs.lemmas.List.{append-nil}
use Rattle.std.proofs.lemmas.List.Elements.{filter-append}
use Rattle.std.proofs.lemmas.Grind.{flat_map-append}
use Rattle.std.specs.Io.KnownBytes.{Appends}
use Rattle.std.specs.List.{filter}
use Rattle.ktm_base.specs.declared.power.PowerCall.{PowerCall}
use Rattle.ktm_base.specs.Disk.{HasLengths}
use Rattle.ktm_kernel.specs.Stands.{KernelState, KernelAt}
use Rattle.ktm_run.proofs.Known.{Appends-none, Appends-trans}
use Rattle.ktm_run.proofs.Counting.{Counts-none, Counts-then, calls-append, keeps_base, Transcript-append, plans-append, falls-append}
use Rattle.ktm_run.specs.Plan.{plan_of, plans, falls_of, falls, calls_of, calls}
use Rattle.ktm_log.specs.OnDisk.{OnDisk}
use Rattle.ktm_run.specs.Progress.{Now, Counts, Did, Answers, Went, Ran, Progress, Broke, Stops}
use Rattle.ktm_run.specs.Script.{has_reply, Means, MeanAll, reply_line}
use Rattle.ktm_world.specs.declared.command.Line.{Line}
use Rattle.ktm_world.specs.Durable.{Durable}
use Rattle.ktm_world.specs.declared.reply.Reply.{Reply}
use Rattle.ktm_world.specs.World.{World}

pub MeanAll-append : (xs : List (List ℕ)) (ys : List (List ℕ)) (ms ns : List (Option Line)) → MeanAll xs ms → MeanAll ys ns → MeanAll (xs ++ ys) (ms ++ ns)
MeanAll-append [] ys [] ns h k = k
MeanAll-append [] ys (m ∷ ms) ns h k = absurd h
MeanAll-append (x ∷ xs) ys [] ns h k = absurd h
MeanAll-append (x ∷ xs) ys (m ∷ ms) ns h k = (h.0, MeanAll-append xs ys ms ns h.1 k)

unfoldable pub Went-none : (w : World) (scene : OnDisk KernelState) → KernelAt scene.it scene.told w → Went w scene scene []
Went-none w scene stands = record { meant = []; steps = []; replies = []; world = w; mean = tt; run = refl; stands = stands; counts = Counts-none scene }

unfoldable pub Went-then : (w : World) (a b c : OnDisk KernelState) (xs ys : List (List ℕ)) (p : Went w a b xs) → Went p.world b c ys → Went w a c (xs ++ ys)
Went-then w a b c xs ys p q = record {
  meant = p.meant ++ q.meant;
  steps = p.steps ++ q.steps;
  replies = p.replies ++ q.replies;
  world = q.world;
  mean = subst (λ (l : List (List ℕ)). MeanAll l (p.meant ++ q.meant)) (sym (filter-append has_reply xs ys)) (MeanAll-append (filter has_reply xs) (filter has_reply ys) p.meant q.meant p.mean q.mean);
  run = Transcript-append w p.meant p.steps p.replies p.world q.meant q.steps q.replies q.world p.run q.run;
  stands = q.stands;
  counts =
      let units = w.base.units in
      let same : p.world.base.units ≡ units = ap (λ (d : Durable). d.units) (keeps_base w p.meant p.steps p.replies p.world p.run) in
      subst (λ n. Counts a c n (plans (p.meant ++ q.meant) (p.replies ++ q.replies)) (falls (p.meant ++ q.meant) (p.steps ++ q.steps) (p.replies ++ q.replies))) (sym (calls-append units p.meant q.meant))
      (subst (λ (l : List PowerCall). Counts a c (calls units p.meant + calls units q.meant) l (falls (p.meant ++ q.meant) (p.steps ++ q.steps) (p.replies ++ q.replies)))
      (sym (plans-append w p.meant p.steps p.replies p.world q.meant q.replies p.run))
      (subst (λ n. Counts a c (calls units p.meant + calls units q.meant) (plans p.meant p.replies ++ plans q.meant q.replies) n)
      (sym (falls-append w p.meant p.steps p.replies p.world q.meant q.steps q.replies p.run))
      (Counts-then a b c _ _ _ _ _ _ p.counts (subst (λ n. Counts b c (calls n q.meant) (plans q.meant q.replies) (falls q.meant q.steps q.replies)) same q.counts))));
}

pub Progress-none : (now : Now) → Progress now now []
unfolding Went-none
Progress-none now = λ w stands. record { went = Went-none w now.scene stands; wrote = Appends-none now.taken }

pub Ran-then : (w : World) (a b c : Now) (xs ys : List (List ℕ)) (p : Ran w a b xs) → Ran p.went.world b c ys → Ran w a c (xs ++ ys)
unfolding Went-then
Ran-then w a b c xs ys p q = record {
  went = Went-then w a.scene b.scene c.scene xs ys p.went q.went;
  wrote = subst (λ (l : List ℕ). Appends a.taken c.taken l) (sym (flat_map-append reply_line p.went.replies q.went.replies)) (Appends-trans a.taken b.taken c.taken _ _ p.wrote q.wrote);
}

pub Progress-then : (a b c : Now) (xs ys : List (List ℕ)) → Progress a b xs → Progress b c ys → Progress a c (xs ++ ys)
Progress-then a b c xs ys p q = λ w stands. let first = p w stands in Ran-then w a b c xs ys first (q first.went.world first.went.stands)

pub Progress-as : (a b : Now) (xs ys : List (List ℕ)) → xs ≡ ys → Progress a b xs → Progress a b ys
Progress-as a b xs ys same p = subst (λ (l : List (List ℕ)). Progress a b l) same p

-- a line that has no reply
pub Progress-silent : (now : Now) (line : List ℕ) → has_reply line ≡ false → Progress now now (line ∷ [])
Progress-silent now line silent = λ w stands. record {
  went = record {
    meant = [];
    steps = [];
    replies = [];
    world = w;
    mean = subst (λ t. MeanAll (cond t (line ∷ []) []) []) (sym silent) tt;
    run = refl;
    stands = stands;
    counts = Counts-none now.scene;
  };
  wrote = Appends-none now.taken;
}

pub one_line : (a b : OnDisk KernelState) (p : List PowerCall) (f most : ℕ) → Counts a b most p f → Counts a b (most + 0) (p ++ []) (f + 0)
one_line a b p f most h = record {
  rose = let up = h.rose in omega arith;
  plan_is = h.plan_is ∙ ap (λ (l : List PowerCall). a.status.plan ++ l) (sym (append-nil p));
  few = let few = h.few in omega arith;
}

-- a line that has a reply
unfoldable pub Went-line : (w : World) (a b : OnDisk KernelState) (line : List ℕ) (meant : Option Line) (reply : Reply) → has_reply line ≡ true → Means line meant → Did w a b meant reply → Went w a b (line ∷ [])
Went-line w a b line meant reply has means did = record {
  meant = meant ∷ [];
  steps = did.step ∷ [];
  replies = reply ∷ [];
  world = did.world;
  mean = subst (λ t. MeanAll (cond t (line ∷ []) []) (meant ∷ [])) (sym has) (means, tt);
  run = (did.world, did.does, refl);
  stands = did.stands;
  counts = one_line a b (plan_of meant reply) (falls_of meant did.step reply) (calls_of w.base.units meant) did.counts;
}

pub Progress-line : (a b : Now) (line : List ℕ) (meant : Option Line) (reply : Reply) → has_reply line ≡ true → Means line meant → Answers a.scene b.scene meant reply
    → Appends a.taken b.taken (reply_line reply) → Progress a b (line ∷ [])
unfolding Went-line
Progress-line a b line meant reply has means answers wrote = λ w stands. record {
  went = Went-line w a.scene b.scene line meant reply has means (answers w stands);
  wrote = subst (λ (l : List ℕ). Appends a.taken b.taken l) (sym (append-nil (reply_line reply))) wrote;
}

-- ---- a run that ends early

pub Stops-line : (a b : Now) (line : List ℕ) → has_reply line ≡ true → IfSome a.scene.told HasLengths → ((w : World) → KernelAt a.scene.it a.scene.told w → Broke w a b line) → Stops a b (line ∷ [])
unfolding Progress-none Went-none
Stops-line a b line wants lengths broke = λ w stands. record { before = []; line = line; behind = []; split = refl; wants_reply = wants; at = a; lengths = lengths; ran = Progress-none a w stands; broke = broke w stands }

pub Stops-after : (a b c : Now) (xs ys : List (List ℕ)) → Progress a b xs → Stops b c ys → Stops a c (xs ++ ys)
unfolding Ran-then Went-then
Stops-after a b c xs ys p q = λ w stands.
    let first = p w stands in
    let last = q first.went.world first.went.stands in record {
      before = xs ++ last.before;
      line = last.line;
      behind = last.behind;
      split = ap (λ (l : List (List ℕ)). xs ++ l) last.split ∙ sym (append_assoc xs last.before (last.line ∷ last.behind));
      wants_reply = last.wants_reply;
      at = last.at;
      lengths = last.lengths;
      ran = Ran-then w a b last.at xs last.before first last.ran;
      broke = last.broke;
    }

pub Stops-within : (a b : Now) (xs ys : List (List ℕ)) → Stops a b xs → Stops a b (xs ++ ys)
Stops-within a b xs ys p = λ w stands.
    let first = p w stands in record {
      before = first.before;
      line = first.line;
      behind = first.behind ++ ys;
      split = ap (λ (l : List (List ℕ)). l ++ ys) first.split ∙ append_assoc first.before (first.line ∷ first.behind) ys;
      wants_reply = first.wants_reply;
      at = first.at;
      lengths = first.lengths;
      ran = first.ran;
      broke = first.broke;
    }

pub Stops-as : (a b : Now) (xs ys : List (List ℕ)) → xs ≡ ys → Stops a b xs → Stops a b ys
Stops-as a b xs ys same p = subst (λ (l : List (List ℕ)). Stops a b l) same p
