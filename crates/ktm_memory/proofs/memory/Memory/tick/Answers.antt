use Rattle.ktm_each.specs.Each.{EachOfFiles}
use Rattle.ktm_memory.specs.Rules.{Follows}
use Rattle.txf_volume.specs.Held.{files_of}
use Rattle.std.proofs.Common.{◌≡◌, ◌+◌, ◌≤◌, ℕ, suc, None, List, filter, length, ap, sym, ◌∙◌, subst, arith}
use Rattle.std.proofs.lemmas.List.Sums.{length-filter}
use Rattle.std.specs.List.{slice_get}
use Rattle.ktm_base.specs.declared.limits.TheConstants.{MOST_LIVE}
use Rattle.ktm_standing.proofs.offered.Distinct.{Rise}
use Rattle.ktm_world.specs.declared.object.Transaction.{Transaction}
use Rattle.ktm_world.specs.declared.reply.Reply.TheVariants.{Done}
use Rattle.ktm_world.specs.TransactionCalls.{aborted_by, is_due, tick}
use Rattle.ktm_world.specs.Transactions.{is_live}
use Rattle.ktm_memory.specs.Memory.{MemoryState, Settles, TellsWithin, present_of}
use Rattle.ktm_memory.proofs.Behind.{settles-behind, settles-same, shows-held, told-first, told-rest, told-same}
use Rattle.ktm_memory.proofs.Ticks.{due_from, fewer_over, fewer_rolled, from-behind, from-later, from-over, from_here, held_rolled, left_from, live_at, live_if_due, looks-from, rolled_few, rolled_rise, settles-over, settles-tick, told-tick}
use Rattle.ktm_memory.proofs.memory.Memory.tick.Goals as goal

pub loop-t-init : goal.loop-t-init
loop-t-init c =
    let m : MemoryState = record { is_up = c.self.inside.is_up; journal = c.self.inside.journal; handles = c.self.inside.handles; tm = c.self.inside.tm; trace = c.self.inside.trace; files = c.self.inside.files; next_node = c.self.inside.next_node; keys = c.self.inside.keys } in
    let rise : Rise m.tm.now.items = subst (λ (old : MemoryState). Rise old.tm.now.items) (sym c.self.view_is) c.requires.may.0 in
    let later_now = c.advance.new.self.now in
    let place = c.due_from-place.result in
    let passed : MemoryState = record m { tm = c.advance.new.self } in
    let same : due_from later_now place ≡ due_from later_now 0 =
    ap (λ all. due_from all place) c.advance.ensures.now ∙ c.due_from-place.ensures ∙ sym (ap (λ all. due_from all 0) c.advance.ensures.now) in
    let items : c.advance.new.self.now.items ≡ c.args.self.now.tm.now.items = ap (λ now. now.items) c.advance.ensures.now ∙ ap (λ m. m.tm.now.items) c.self.view_is in
    record {
      rise = subst Rise (sym items) c.requires.may.0;
      few = subst (λ (ts : List Transaction). length (filter is_live ts) ≤ MOST_LIVE) (sym items) (omega (arith, length-filter is_live c.args.self.now.tm.now.items, c.requires.may.1));
      journal = ap (λ m. m.journal) c.self.view_is;
      rules = λ rule none each. subst (λ (old : MemoryState). EachOfFiles (Follows rule) (files_of old.files)) (sym c.self.view_is) each;
      settles = λ new rest. subst (λ (old : MemoryState). Settles old (λ x. tick x c.args.ms) new) c.self.view_is
          (settles-tick m new c.advance.new.self c.args.ms rise c.advance.ensures.boot c.advance.ensures.now c.advance.ensures.rest (settles-same passed new (from_here place) (from_here 0) (from-later passed place same) rest));
      told = told-same passed (from_here place) (from_here 0) (from-later passed place same)
          (told-tick m c.advance.new.self c.args.ms rise c.advance.ensures.boot c.advance.ensures.now c.advance.ensures.rest
          (subst (λ (old : MemoryState). TellsWithin old (λ x. tick x c.args.ms)) (sym c.self.view_is) c.requires.told));
    }

pub loop-t-preserved : goal.loop-t-preserved
loop-t-preserved c =
    let at = live_at c.loop-t.self.tm.now.items c.loop-t.place c.in-Some.t c.loop-t.invariant.rise (ap (λ m. slice_get (filter is_live m.tm.now.items) c.loop-t.place) (sym c.self-in-loop-t.view_is) ∙ sym c.live_at.ensures ∙ c.in-Some.is) in
    let early = ap (λ m. is_due m.tm.now.clock c.in-Some.t) (sym c.self-in-loop-t.view_is) ∙ sym c.is_due.ensures ∙ c.if-is_due.false in
    let next : c.loop-t.place + 1 ≡ suc c.loop-t.place = omega arith in
    let same = from-over c.loop-t.self c.loop-t.place c.in-Some.t at early in
    record {
      rise = c.loop-t.invariant.rise;
      few = c.loop-t.invariant.few;
      journal = c.loop-t.invariant.journal;
      rules = c.loop-t.invariant.rules;
      settles = λ new rest. c.loop-t.invariant.settles new (settles-same c.loop-t.self new (from_here (c.loop-t.place + 1)) (from_here c.loop-t.place)
          (λ x now. same x now ∙ ap (λ (i : ℕ). from_here i x) (sym next)) rest);
      told = told-same c.loop-t.self (from_here (c.loop-t.place + 1)) (from_here c.loop-t.place) (λ x now. same x now ∙ ap (λ (i : ℕ). from_here i x) (sym next)) c.loop-t.invariant.told;
    }

pub loop-t-smaller : goal.loop-t-smaller
loop-t-smaller c =
    let at = live_at c.loop-t.self.tm.now.items c.loop-t.place c.in-Some.t c.loop-t.invariant.rise (ap (λ m. slice_get (filter is_live m.tm.now.items) c.loop-t.place) (sym c.self-in-loop-t.view_is) ∙ sym c.live_at.ensures ∙ c.in-Some.is) in
    let early = ap (λ m. is_due m.tm.now.clock c.in-Some.t) (sym c.self-in-loop-t.view_is) ∙ sym c.is_due.ensures ∙ c.if-is_due.false in
    let next : c.loop-t.place + 1 ≡ suc c.loop-t.place = omega arith in
    omega (arith, fewer_over c.loop-t.self.tm.now c.loop-t.place c.in-Some.t at early, ap (λ (i : ℕ). left_from c.loop-t.self.tm.now i) next)

pub roll_back-requires-clause-there : goal.roll_back-requires-clause-there
roll_back-requires-clause-there c = (live_at c.loop-t.self.tm.now.items c.loop-t.place c.in-Some.t c.loop-t.invariant.rise (ap (λ m. slice_get (filter is_live m.tm.now.items) c.loop-t.place) (sym c.self-in-loop-t.view_is) ∙ sym c.live_at.ensures ∙ c.in-Some.is)).found

pub roll_back-requires-clause-live : goal.roll_back-requires-clause-live
roll_back-requires-clause-live c =
    live_if_due c.loop-t.self.tm.now.clock c.in-Some.t (ap (λ m. is_due m.tm.now.clock c.in-Some.t) (sym c.self-in-loop-t.view_is) ∙ sym c.is_due.ensures ∙ c.if-is_due.true)

pub roll_back-requires-clause-told : goal.roll_back-requires-clause-told
roll_back-requires-clause-told c =
    let at = live_at c.loop-t.self.tm.now.items c.loop-t.place c.in-Some.t c.loop-t.invariant.rise (ap (λ m. slice_get (filter is_live m.tm.now.items) c.loop-t.place) (sym c.self-in-loop-t.view_is) ∙ sym c.live_at.ensures ∙ c.in-Some.is) in
    let due = ap (λ m. is_due m.tm.now.clock c.in-Some.t) (sym c.self-in-loop-t.view_is) ∙ sym c.is_due.ensures ∙ c.if-is_due.true in
    let behind = from-behind c.loop-t.self c.loop-t.place c.in-Some.t at due in
    told-first c.loop-t.self (λ x. aborted_by x c.in-Some.t None Done) (from_here c.loop-t.place) (from_here c.loop-t.place) behind c.loop-t.invariant.told

pub loop-t-preserved-then-is_due : goal.loop-t-preserved-then-is_due
loop-t-preserved-then-is_due c =
    let at = live_at c.loop-t.self.tm.now.items c.loop-t.place c.in-Some.t c.loop-t.invariant.rise (ap (λ m. slice_get (filter is_live m.tm.now.items) c.loop-t.place) (sym c.self-in-loop-t.view_is) ∙ sym c.live_at.ensures ∙ c.in-Some.is) in
    let due = ap (λ m. is_due m.tm.now.clock c.in-Some.t) (sym c.self-in-loop-t.view_is) ∙ sym c.is_due.ensures ∙ c.if-is_due.true in
    let behind = from-behind c.loop-t.self c.loop-t.place c.in-Some.t at due in
    let rolled = held_rolled c.loop-t.self c.roll_back.new.self c.in-Some.t (present_of c.loop-t.self) (shows-held c.loop-t.self c.law_of_kept.ensures) c.roll_back.ensures.settles in
    record {
      rise = rolled_rise c.loop-t.self.tm.now c.roll_back.new.self.tm.now c.in-Some.t rolled c.loop-t.invariant.rise;
      few = omega (arith, rolled_few c.loop-t.self.tm.now c.roll_back.new.self.tm.now c.loop-t.place c.in-Some.t at rolled, c.loop-t.invariant.few);
      journal = c.roll_back.ensures.journal ∙ c.loop-t.invariant.journal;
      rules = λ rule none each. c.roll_back.ensures.rules rule none (c.loop-t.invariant.rules rule none each);
      settles = λ new rest. c.loop-t.invariant.settles new
          (settles-behind c.loop-t.self c.roll_back.new.self new (λ x. aborted_by x c.in-Some.t None Done) (from_here c.loop-t.place) (from_here c.loop-t.place) behind c.roll_back.ensures.settles rest);
      told = told-rest c.loop-t.self c.roll_back.new.self (λ x. aborted_by x c.in-Some.t None Done) (from_here c.loop-t.place) (from_here c.loop-t.place) c.law_of_kept.ensures (looks-from c.loop-t.place) behind c.roll_back.ensures.settles c.loop-t.invariant.told;
    }

pub loop-t-smaller-then-is_due : goal.loop-t-smaller-then-is_due
loop-t-smaller-then-is_due c =
    let at = live_at c.loop-t.self.tm.now.items c.loop-t.place c.in-Some.t c.loop-t.invariant.rise (ap (λ m. slice_get (filter is_live m.tm.now.items) c.loop-t.place) (sym c.self-in-loop-t.view_is) ∙ sym c.live_at.ensures ∙ c.in-Some.is) in
    let due = ap (λ m. is_due m.tm.now.clock c.in-Some.t) (sym c.self-in-loop-t.view_is) ∙ sym c.is_due.ensures ∙ c.if-is_due.true in
    let rolled = held_rolled c.loop-t.self c.roll_back.new.self c.in-Some.t (present_of c.loop-t.self) (shows-held c.loop-t.self c.law_of_kept.ensures) c.roll_back.ensures.settles in
    omega (arith, fewer_rolled c.loop-t.self.tm.now c.roll_back.new.self.tm.now c.loop-t.place c.in-Some.t at due rolled)

pub returns-clause-settles : goal.returns-clause-settles
returns-clause-settles c =
    c.loop-t.invariant.settles c.loop-t.self
    (settles-over c.loop-t.self c.loop-t.place (ap (λ m. slice_get (filter is_live m.tm.now.items) c.loop-t.place) (sym c.self-in-loop-t.view_is) ∙ sym c.live_at.ensures ∙ c.in_default.is))
