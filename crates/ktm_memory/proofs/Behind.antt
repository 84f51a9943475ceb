-- Settling one outcome behind another.
use Rattle.std.proofs.Common.{◌≡◌, ◌≤◌, ◌+◌, [], length, refl, sym, ap, ◌∙◌, subst, arith}
use Rattle.std.proofs.lemmas.List.{length-append}
use Rattle.std.proofs.lemmas.List.Sums.{fold-append}
use Rattle.ktm_trace.specs.Contents.{KeptLaw}
use Rattle.ktm_trace.specs.Traces.{traces_of}
use Rattle.ktm_world.specs.declared.reply.Reply.TheVariants.{Done}
use Rattle.ktm_world.specs.Durable.{after_event, empty_state}
use Rattle.ktm_world.specs.Outcome.{Outcome, apply, and_then, only_reply}
use Rattle.ktm_world.specs.Present.{Present}
use Rattle.ktm_standing.specs.Courses.{aside}
use Rattle.ktm_standing.specs.Effects.{IsLater}
use Rattle.ktm_standing.proofs.offered.Applied.{apply-reply, apply-then}
use Rattle.ktm_memory.specs.Memory.{MemoryState, Settles, SettlesGood, Shows, TellsWithin, present_of}

-- ---- what memory shows

-- it shows what is the same, too
pub shows-alike : (m : MemoryState) (y z : Present) → aside y ≡ aside z → y.recorded ≡ z.recorded → Shows m y → Shows m z
shows-alike m y z same recorded shows = record {
  is_up = shows.is_up ∙ ap (λ (x : Present). x.machine.is_up) same;
  boot = shows.boot ∙ ap (λ s. s.boots) recorded;
  transactions = shows.transactions ∙ ap (λ (x : Present). x.transactions) same;
  managers = shows.managers ∙ ap (λ (x : Present). x.managers) same;
  traces = shows.traces ∙ ap traces_of recorded;
  files = shows.files ∙ ap (λ (x : Present). x.files) same;
  next_node = shows.next_node ∙ ap (λ s. s.next_node) recorded;
  keys = shows.keys ∙ ap (λ (x : Present). x.keys) same;
  handles = shows.handles ∙ ap (λ (x : Present). x.handles) same;
}

-- what it shows is the same but for what was recorded
pub shown-alike : (m : MemoryState) (y z : Present) → Shows m y → Shows m z → aside y ≡ aside z
shown-alike m y z one two i = record {
  machine = record { is_up = (sym one.is_up ∙ two.is_up) i };
  recorded = empty_state 0 0;
  transactions = (sym one.transactions ∙ two.transactions) i;
  managers = (sym one.managers ∙ two.managers) i;
  files = (sym one.files ∙ two.files) i;
  keys = (sym one.keys ∙ two.keys) i;
  handles = (sym one.handles ∙ two.handles) i;
}

-- it shows what is so by what it holds
pub shows-held : (m : MemoryState) → KeptLaw → Shows m (present_of m)
shows-held m kept = record {
  is_up = refl;
  boot = refl;
  transactions = refl;
  managers = refl;
  traces = sym (kept m.tm.now.enlistments (present_of m).files.table.own m.keys.own m.trace);
  files = refl;
  next_node = refl;
  keys = refl;
  handles = refl;
}

-- ---- outcomes that do not look at what was recorded

-- the outcome is the same, whatever was recorded
abbrev pub LooksAside : (Present → Outcome) → Type 0
LooksAside f = (x : Present) → f (aside x) ≡ f x

-- such an outcome is the same on all that memory shows
pub same-outcome : (f : Present → Outcome) (m : MemoryState) (y z : Present) → LooksAside f → Shows m y → Shows m z → f y ≡ f z
same-outcome f m y z looks one two = sym (looks y) ∙ ap f (shown-alike m y z one two) ∙ looks z

-- ---- one outcome and then another

-- on all that memory shows the third outcome is the first and then the second, which opens, makes and takes nothing
pub record ComesBehind (m : MemoryState) (f g h : Present → Outcome) : Type 0 where
  pub comes : (x : Present) → Shows m x → h x ≡ and_then x (f x) g
  pub opens : (x : Present) → Shows m x → (f x).openings ≡ []
  pub later : (x : Present) → Shows m x → IsLater (g (apply x (f x)))

-- it tells as much as both
sent-both : (m : MemoryState) (f g h : Present → Outcome) → ComesBehind m f g h → (x : Present) → Shows m x → length (h x).sent ≡ length (f x).sent + length (g (apply x (f x))).sent
sent-both m f g h behind x shows = ap (λ (o : Outcome). length o.sent) (behind.comes x shows) ∙ length-append (f x).sent (g (apply x (f x))).sent

-- settling the one and then the other settles both
pub settles-behind : (a b c : MemoryState) (f g h : Present → Outcome) → ComesBehind a f g h → Settles a f b → Settles b g c → Settles a h c
settles-behind a b c f g h behind first second = record { shows = shows; slots = slots }
  where
    shows : (x : Present) → Shows a x → Unit {0} → Shows c (apply x (h x))
    shows x now may =
        let y = apply x (f x) in
        let then' = second.shows y (first.shows x now tt) tt in
        let both = shows-alike c (apply y (g y)) (apply x (and_then x (f x) g)) (sym (apply-then x (f x) g (behind.opens x now) (behind.later x now))) (sym (fold-append after_event x.recorded (f x).events (g y).events)) then' in
        subst (λ (o : Outcome). Shows c (apply x o)) (sym (behind.comes x now)) both

    slots : (x : Present) → Shows a x → a.tm.slots ≤ c.tm.slots + length (h x).sent
    slots x now = omega (arith, first.slots x now, second.slots (apply x (f x)) (first.shows x now tt), sent-both a f g h behind x now)

-- where there is room for what both tell, there is for what the first tells
pub told-first : (a : MemoryState) (f g h : Present → Outcome) → ComesBehind a f g h → TellsWithin a h → TellsWithin a f
told-first a f g h behind told x now = omega (arith, told x now, sent-both a f g h behind x now)

-- where there is room for what both tell, there is for what the second tells, once the first is settled
pub told-rest : (a b : MemoryState) (f g h : Present → Outcome) → KeptLaw → LooksAside g → ComesBehind a f g h → Settles a f b → TellsWithin a h → TellsWithin b g
told-rest a b f g h kept looks behind settles told y now =
    let x = present_of a in
    let at = shows-held a kept in
    let same = same-outcome g b y (apply x (f x)) looks now (settles.shows x at tt) in
    omega (arith, told x at, settles.slots x at, sent-both a f g h behind x at, ap (λ (o : Outcome). length o.sent) same)

-- ---- nothing

-- a reply settles by itself
pub settles-reply : (m : MemoryState) → Settles m (λ x. only_reply x Done) m
settles-reply m = record { shows = λ x now may. subst (λ (y : Present). Shows m y) (sym (apply-reply x Done)) now; slots = λ x now. omega arith }

-- ---- the same outcome in other words

-- it settles what it is the same as on all that memory shows
pub settles-same : (a b : MemoryState) (f g : Present → Outcome) → ((x : Present) → Shows a x → g x ≡ f x) → Settles a f b → Settles a g b
settles-same a b f g same settles = record {
  shows = λ x now may. subst (λ (o : Outcome). Shows b (apply x o)) (sym (same x now)) (settles.shows x now tt);
  slots = λ x now. omega (arith, settles.slots x now, ap (λ (o : Outcome). length o.sent) (same x now));
}

-- there is room for what an outcome tells, where there is for one that is the same on all that memory shows
pub told-same : (a : MemoryState) (f g : Present → Outcome) → ((x : Present) → Shows a x → g x ≡ f x) → TellsWithin a g → TellsWithin a f
told-same a f g same told x now = omega (arith, told x now, ap (λ (o : Outcome). length o.sent) (same x now))

-- what settles an outcome settles it where what was recorded is good
pub settles-good : (a b : MemoryState) (f : Present → Outcome) → Settles a f b → SettlesGood a f b
settles-good a b f settles = record { shows = λ x now good. settles.shows x now tt; slots = settles.slots }
