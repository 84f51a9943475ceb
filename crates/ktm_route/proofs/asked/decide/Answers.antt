use Rattle.std.proofs.Common.{◌≤◌, [], IfOk, sum_by, ap, sym, subst, ◌∙◌, arith}
use Rattle.ktm_memory.specs.Memory.{present_of}
use Rattle.ktm_memory.specs.Rules.{PutsBy}
use Rattle.ktm_slots.specs.Slots.{granted_in}
use Rattle.ktm_world.specs.Sizes.{event_size}
use Rattle.ktm_world.specs.declared.command.Command.TheVariants.{WriteUnits}
use Rattle.ktm_world.specs.Decide.{decide}
use Rattle.ktm_world.specs.Outcome.{Outcome}
use Rattle.ktm_world.specs.TransactionCalls.{tick}
use Rattle.ktm_memory.proofs.offered.Granted.{tick_grants}
use Rattle.ktm_route.specs.Route.{AskedPutsBy}
use Rattle.ktm_route.specs.declared.asked.Asked.TheVariants.{Call, Units}
use Rattle.ktm_memory.specs.Held.{files_of}
use Rattle.ktm_route.proofs.Answering.{comes_to, puts_no_place, rules_kept}
use Rattle.ktm_route.proofs.Rooms.{fits}
use Rattle.ktm_route.proofs.Routes.{up_or}
use Rattle.ktm_route.proofs.asked.decide.Goals as goal

pub decide_routed-requires-in-Units-clause-fits : goal.decide_routed-requires-in-Units-clause-fits
decide_routed-requires-in-Units-clause-fits c =
    let x = present_of c.args.memory.now in
    let command = WriteUnits c.in-Units.file c.in-Units.start c.in-Units.contents in
    subst (λ (o : Outcome). sum_by event_size o.events ≤ c.args.events.now.spare) (comes_to x c.in-Units.process command c.to_units-routed.result c.to_units-routed.ensures.routes)
    (fits c.args.memory.now.journal c.args.events.now (decide x c.in-Units.process command).events c.requires.roomy c.requires.empty (c.law_of_frames.ensures.commands x c.in-Units.process command (c.law_of_kept.ensures x c.requires.standing)))

pub returns-in-Call-clause-rules : goal.returns-in-Call-clause-rules
returns-in-Call-clause-rules c =
    let x = present_of c.args.memory.now in
    let asked = rw c.in-Call.is at c.requires.asked in
    rw c.in-Call.is (rules_kept c.decide_routed.result (λ rule. IfOk c.route-routed.result (PutsBy rule)) (λ rule. AskedPutsBy x rule (Call c.in-Call.process c.in-Call.command)) (files_of c.args.memory.now.files) (files_of c.decide_routed.new.memory.files)
    (λ rule put. puts_no_place x c.in-Call.process c.in-Call.command c.route-routed.result asked.1 c.route-routed.ensures rule)
    (ap (λ (o : Outcome). o.events) (sym (comes_to x c.in-Call.process c.in-Call.command c.route-routed.result c.route-routed.ensures))) c.decide_routed.ensures.rules)

pub returns-in-Units-clause-rules : goal.returns-in-Units-clause-rules
returns-in-Units-clause-rules c =
    let x = present_of c.args.memory.now in
    let command = WriteUnits c.in-Units.file c.in-Units.start c.in-Units.contents in
    rw c.in-Units.is (rules_kept c.decide_routed-in-Units.result (λ rule. IfOk c.to_units-routed.result (PutsBy rule)) (λ rule. AskedPutsBy x rule (Units c.in-Units.process c.in-Units.file c.in-Units.start c.in-Units.contents c.in-Units.extent))
    (files_of c.args.memory.now.files) (files_of c.decide_routed-in-Units.new.memory.files) c.to_units-routed.ensures.puts
    (ap (λ (o : Outcome). o.events) (sym (comes_to x c.in-Units.process command c.to_units-routed.result c.to_units-routed.ensures.routes))) c.decide_routed-in-Units.ensures.rules)

pub returns-in-Tick-clause-slots : goal.returns-in-Tick-clause-slots
returns-in-Tick-clause-slots c =
    let x = present_of c.args.memory.now in
    let none = ap (granted_in x) (up_or x [] (tick x c.in-Tick.ms) c.requires.up) ∙ tick_grants x c.in-Tick.ms in
    rw c.in-Tick.is (omega (arith, none))
