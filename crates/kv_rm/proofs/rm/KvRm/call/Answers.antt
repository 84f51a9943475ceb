use Rattle.kv_rm.proofs.rm.KvRm.call.Goals as goal

pub returns-in-Set-clause-reply : goal.returns-in-Set-clause-reply
returns-in-Set-clause-reply c = rw (← c.room.view_is, c.in-Set.is) (c.set.ensures.reply c.room.inside.changes)

pub returns-in-Set-clause-keys : goal.returns-in-Set-clause-keys
returns-in-Set-clause-keys c = rw (← c.room.view_is, c.in-Set.is) (c.set.ensures.keys c.room.inside.changes)

pub returns-in-Unset-clause-reply : goal.returns-in-Unset-clause-reply
returns-in-Unset-clause-reply c = rw (← c.room.view_is, c.in-Unset.is) (c.unset.ensures.reply c.room.inside.keys)

pub returns-in-Unset-clause-keys : goal.returns-in-Unset-clause-keys
returns-in-Unset-clause-keys c = rw (← c.room.view_is, c.in-Unset.is) (c.unset.ensures.keys c.room.inside.keys)

pub returns-in-Get-clause-reply : goal.returns-in-Get-clause-reply
returns-in-Get-clause-reply c = rw c.in-Get.is (c.get.ensures.reply c.args.room)

pub returns-in-Set-clause-enough : goal.returns-in-Set-clause-enough
returns-in-Set-clause-enough c = rw (← c.room.view_is, c.in-Set.is) (c.set.ensures.enough c.room.inside.changes)

pub returns-in-Unset-clause-enough : goal.returns-in-Unset-clause-enough
returns-in-Unset-clause-enough c = rw (← c.room.view_is, c.in-Unset.is) (c.unset.ensures.enough c.room.inside.keys)

pub returns-in-Get-clause-enough : goal.returns-in-Get-clause-enough
returns-in-Get-clause-enough c = rw c.in-Get.is (c.get.ensures.enough c.args.room)
