use Rattle.std.proofs.Common.{Result, Ok, Err, IfOk, OnOk, ap, ◌∙◌}
use Rattle.ktm_world.specs.KeyCalls.{KeyOutcome}
use Rattle.ktm_world.specs.Uses.{key_room}
use Rattle.kv_rm.specs.Calls.{is_refused, key_outcome}
use Rattle.txf_volume.specs.Held.{files_of}
use Rattle.ktm_memory.specs.Memory.{held, present_of}
use Rattle.ktm_memory.proofs.Decides.{keys_decided}
use Rattle.ktm_memory.proofs.KeysDecided.{keys_unlogged}
use Rattle.ktm_memory.proofs.memory.Memory.decide_keys.Goals as goal

-- what is said of the value, and what is so where there is one, say together what is sought of it
ok_with : {T E Q : Type 0} (P S : T → Type 0) → ((t : T) → P t → Q → S t) → (r : Result T E) → IfOk r P → OnOk r Q → IfOk r S
ok_with P S f (Ok t) says is = f t says is
ok_with P S f (Err e) says is = tt

pub returns-clause-ok : goal.returns-clause-ok
returns-clause-ok c =
    let room = key_room (present_of c.args.self.now) in
    let outcome = ap (λ r. key_outcome c.self.inside.keys r c.args.who c.args.call) c.key_room-room.ensures ∙ ap (λ m. key_outcome m.keys room c.args.who c.args.call) c.self.view_is in
    ok_with _ _ (λ reply says keys events holds. keys_decided (held c.args.self.now) _ (key_outcome c.args.self.now.keys room c.args.who c.args.call) reply events
    (says ∙ ap (λ (o : KeyOutcome). o.reply) outcome)
    (ap (λ k. record { is_up = c.self.inside.is_up; journal = c.self.inside.journal; handles = c.self.inside.handles.handles; boot = c.self.inside.tm.boot; transactions = c.self.inside.tm.now; managers = c.self.inside.tm.managers; traces = c.self.inside.trace; files = files_of c.self.inside.files; next_node = c.self.inside.next_node; keys = k }) (keys ∙ ap (λ (o : KeyOutcome). record c.self.inside.keys { own = o.own }) outcome)
    ∙ ap (λ m. record (held m) { keys = record m.keys { own = (key_outcome c.args.self.now.keys room c.args.who c.args.call).own } }) c.self.view_is)
    (keys_unlogged (held c.args.self.now) room c.args.who c.args.call c.requires.standing c.requires.active) holds) c.call.result c.call.ensures.reply c.call.ensures.keys

pub returns-clause-enough : goal.returns-clause-enough
returns-clause-enough c = λ refused.
    let room = key_room (present_of c.args.self.now) in
    let outcome = ap (λ r. key_outcome c.self.inside.keys r c.args.who c.args.call) c.key_room-room.ensures ∙ ap (λ m. key_outcome m.keys room c.args.who c.args.call) c.self.view_is in
    c.call.ensures.enough (ap (λ (o : KeyOutcome). is_refused o.reply) outcome ∙ refused)
