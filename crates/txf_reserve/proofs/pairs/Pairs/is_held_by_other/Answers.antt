use Rattle.std.proofs.Common.{sym, ◌∙◌}
use Rattle.txf_reserve.proofs.Others.{next_tells, none_holds, other_holds}
use Rattle.txf_reserve.proofs.PairNames.{begins_behind}
use Rattle.txf_reserve.proofs.pairs.Pairs.is_held_by_other.Goals as goal

pub returns-in_default : goal.returns-in_default
returns-in_default g c =
    rw (← c.self.view_is)
    (none_holds g.K.PairName.room _ _ c.self.invariant c.args.key.now c.requires.short c.args.who
    (rw (c.as_slice-prefix.ensures, c.key_bytes-prefix.ensures) at c.in_default.ensures.none))

pub returns-then-not-is_of : goal.returns-then-not-is_of
returns-then-not-is_of g c =
    rw (← c.self.view_is)
    (other_holds g.K.PairName.room _ _ c.self.invariant c.args.key.now c.requires.short c.args.who _ c.in-Some.first
    (rw (c.as_slice-prefix.ensures, c.key_bytes-prefix.ensures) at c.in-Some.ensures.some) (sym c.is_of.ensures ∙ c.if-not-is_of.true))

pub holder_from-requires-2 : goal.holder_from-requires-2
holder_from-requires-2 g c =
    rw (c.as_slice-prefix.ensures, c.key_bytes-prefix.ensures, c.as_slice.ensures, c.key_name-behind.ensures) (begins_behind c.args.key.now c.in-Some.first _)

pub returns : goal.returns
returns g c =
    rw (← c.self.view_is)
    (c.is_some.ensures
    ∙ next_tells g.K.PairName.room _ _ c.self.invariant c.args.key.now c.requires.short c.args.who c.in-Some.first
    (rw (c.as_slice-prefix.ensures, c.key_bytes-prefix.ensures) at c.in-Some.ensures.some) (sym c.is_of.ensures ∙ c.if-not-is_of.false) c.holder_from-2.result
    (rw (c.as_slice-prefix.ensures, c.key_bytes-prefix.ensures, c.as_slice.ensures, c.key_name-behind.ensures) at c.holder_from-2.ensures.some)
    (rw (c.as_slice-prefix.ensures, c.key_bytes-prefix.ensures, c.as_slice.ensures, c.key_name-behind.ensures) at c.holder_from-2.ensures.none))
