-- Events, and others behind them.
use Rattle.std.proofs.Common.{◌≡◌, ◌+◌, List, [], ◌∷◌, ◌++◌, All, sum_by}
use Rattle.std.specs.List.{AllByRecursion}
use Rattle.std.proofs.lemmas.List.Elements.{recursion_from_All, All-from_recursion}
use Rattle.std.proofs.lemmas.List.Sums.{sum_by-append}
use Rattle.ktm_event.specs.Spelling.{IsSpellableEvent}
use Rattle.ktm_world.specs.Sizes.{event_size}
use Rattle.ktm_world.specs.declared.event.Event.{Event}

pub first_spelled : (some others : List Event) → All IsSpellableEvent (some ++ others) → All IsSpellableEvent some × All IsSpellableEvent others
first_spelled some others all = let both = parts some (recursion_from_All IsSpellableEvent (some ++ others) all) in (All-from_recursion IsSpellableEvent some both.0, All-from_recursion IsSpellableEvent others both.1)
  where
    parts : (es : List Event) → AllByRecursion IsSpellableEvent (es ++ others) → AllByRecursion IsSpellableEvent es × AllByRecursion IsSpellableEvent others
    parts [] all = (tt, all)
    parts (e ∷ es) all = let rest = parts es all.1 in ((all.0, rest.0), rest.1)

pub sizes_both : (some others : List Event) → sum_by event_size (some ++ others) ≡ sum_by event_size some + sum_by event_size others
sizes_both some others = sum_by-append event_size some others
