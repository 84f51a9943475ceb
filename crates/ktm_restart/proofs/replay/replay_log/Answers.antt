use Rattle.std.proofs.Common.{Err, ap}
use Rattle.std.proofs.lemmas.Bool.{true≢false}
use Rattle.ktm_restart.proofs.Replays.{replayed, opened_not_replayed, torn_not_replayed, torn_behind}
use Rattle.ktm_restart.proofs.replay.replay_log.Goals as goal

pub returns-in-Ok-replay : goal.returns-in-Ok-replay
returns-in-Ok-replay g c =
    replayed c.args.header c.args.state.now.state _ _ c.requires.begins c.replay.new.state.state c.in-Ok.journal c.in-Ok.ensures (rw c.as_slice.ensures.value at c.in-Ok-replay.ensures.good) c.in-Ok-replay.ensures.reading.of_header

pub returns-in-Err : goal.returns-in-Err
returns-in-Err g c =
    opened_not_replayed c.args.header c.args.state.now.state _ _ c.requires.begins c.in-Ok.journal c.in-Err.fault c.in-Ok.ensures (λ is. true≢false (rw is at c.in-Err.ensures.up))
    (λ offset is. rw c.as_slice.ensures.value at c.in-Err.ensures.bad offset (ap Err is))

pub returns-in-Err-replay : goal.returns-in-Err-replay
returns-in-Err-replay g c =
    let torn = rw c.in-Err-Bad.field-0-is at c.in-Err-Bad.ensures in
    torn_not_replayed c.args.header c.args.state.now.state _ _ c.requires.begins c.in-Err-Bad.offset c.in-Err-replay.fault torn (λ is. true≢false (rw is at c.in-Err-replay.ensures.up))
    (λ offset is. rw c.as_slice-in-Err-Bad.ensures.value at c.in-Err-replay.ensures.bad offset (ap Err is))

pub returns-in_default : goal.returns-in_default
returns-in_default g c =
    let torn = rw c.in-Err-Bad.field-0-is at c.in-Err-Bad.ensures in
    torn_behind c.args.header c.args.state.now.state _ _ c.requires.begins c.replay-in-Err-Bad.new.state.state c.in-Err-Bad.offset torn (rw c.as_slice-in-Err-Bad.ensures.value at c.in_default.ensures.good)
