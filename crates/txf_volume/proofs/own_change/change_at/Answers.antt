use Rattle.txf_volume.proofs.TransactedParts.{bare-at, counted-at, if_ok, on_err, owners-at}
use Rattle.txf_volume.proofs.own_change.change_at.Goals as goal

pub returns-clause-err : goal.returns-clause-err
returns-clause-err c = on_err c.make_room_and_change.result c.make_room_and_change.ensures.err
    (bare-at c.args.entries.now.items c.args.place _ c.behind-entries.inside.transaction c.behind-entries.inside.overlay c.make_room_and_change.new.overlay c.requires.place.within c.behind-entries.view_is c.index_mut.ensures.value)

pub returns-clause-counted : goal.returns-clause-counted
returns-clause-counted c = if_ok c.make_room_and_change.result c.make_room_and_change.ensures.before c.make_room_and_change.ensures.after
    (λ it. counted-at c.args.entries.now.items c.args.place _ c.behind-entries.inside.transaction c.args.transaction c.behind-entries.inside.overlay c.make_room_and_change.new.overlay it c.requires.place c.behind-entries.view_is c.index_mut.ensures.value)

pub returns-clause-owners : goal.returns-clause-owners
returns-clause-owners c =
    owners-at c.args.entries.now.items c.args.place _ c.behind-entries.inside.transaction c.behind-entries.inside.overlay c.make_room_and_change.new.overlay c.requires.place.within c.behind-entries.view_is c.index_mut.ensures.value
