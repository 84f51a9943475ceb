use Rattle.std.proofs.Common.{ℕ, ◌≤◌, List, All, filter, sum_by, sym, ap, subst, ◌∙◌}
use Rattle.std.specs.List.{flat_map}
use Rattle.ktm_standing.specs.Effects.{undo_of}
use Rattle.ktm_event.specs.Kept.{Holds}
use Rattle.ktm_event.specs.Spelling.{IsSpellableEvent}
use Rattle.ktm_world.specs.Sizes.{event_size}
use Rattle.ktm_world.specs.declared.event.Event.{Event}
use Rattle.ktm_world.specs.TransactionCalls.{later, tick}
use Rattle.ktm_world.specs.Transactions.{is_live}
use Rattle.ktm_memory.specs.Memory.{MemoryState, present_of}
use Rattle.ktm_memory.proofs.Decides.{tick_decided}
use Rattle.ktm_memory.proofs.UndoneLive.{tick_bare, tick_undoes, undone_live, undone_spelled}
use Rattle.ktm_memory.proofs.offered.Following.{bare-each}
use Rattle.ktm_memory.proofs.offered.Records.{bare_record}
use Rattle.ktm_memory.specs.Rules.{Follows}
use Rattle.ktm_memory.proofs.offered.Standing.{kept}
use Rattle.ktm_memory.proofs.memory.Memory.decide_tick.Goals as goal

-- what is recorded so many milliseconds later
abbrev undone : MemoryState → ℕ → List Event
undone m ms = flat_map (undo_of (later m.tm.now.clock ms)) (filter is_live m.tm.now.items)

pub record_undone-requires-clause-spelled : goal.record_undone-requires-clause-spelled
record_undone-requires-clause-spelled c =
    let x = present_of c.args.self.now in
    let clock = later x.transactions.clock c.args.ms in
    subst (All IsSpellableEvent) (sym (ap (λ m. undone m c.args.ms) c.self.view_is ∙ undone_live clock x.transactions.items)) (undone_spelled x clock (kept x c.requires.standing).sound.course)

pub record_undone-requires-clause-fits : goal.record_undone-requires-clause-fits
record_undone-requires-clause-fits c =
    let x = present_of c.args.self.now in
    let undoes = ap (λ m. undone m c.args.ms) c.self.view_is ∙ tick_undoes x c.args.ms (kept x c.requires.standing).sound.course in
    subst (λ (es : List Event). sum_by event_size es ≤ c.args.events.now.spare) (sym undoes) c.requires.fits

pub returns-clause-decided : goal.returns-clause-decided
returns-clause-decided c =
    let x = present_of c.args.self.now in
    let undoes = ap (λ m. undone m c.args.ms) c.self.view_is ∙ tick_undoes x c.args.ms (kept x c.requires.standing).sound.course in
    tick_decided c.args.self.now c.args.ms c.record_undone.new.events c.requires.standing
    (bare_record x.recorded c.record_undone.new.events (tick x c.args.ms).events (tick_bare x c.args.ms (kept x c.requires.standing).sound.course) (subst (Holds c.record_undone.new.events) undoes c.record_undone.ensures.holds))

pub returns-clause-rules : goal.returns-clause-rules
returns-clause-rules c = λ rule none each puts.
    let x = present_of c.args.self.now in
    (bare-each (Follows rule) (tick x c.args.ms).events (tick_bare x c.args.ms (kept x c.requires.standing).sound.course), each)
