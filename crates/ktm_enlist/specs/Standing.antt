-- What one enlistment counts for in its transaction.
use Rattle.std.specs.Prelude.{◌&&◌, ◌||◌, not, Bool, false, is_some}
use Rattle.ktm_world.specs.Enlistments.{Enlistment, allows_one_phase, asks_pre_prepare, is_superior}
use Rattle.ktm_enlist.specs.declared.standing.Standing.{Standing}

-- it takes part in the outcome of its transaction
abbrev pub is_part : Enlistment → Bool
is_part e = not (is_superior e) && not e.is_read_only

-- what the enlistment counts for
abbrev pub standing_of : Enlistment → Standing
standing_of e = record {
  takes_part = is_part e;
  asks = is_part e && asks_pre_prepare e;
  in_one_phase = is_part e && allows_one_phase e;
  owes = is_part e && is_some e.owes;
  is_unfinished = is_part e && not e.is_finished;
  is_live = is_superior e || (not e.is_read_only && not e.is_finished);
}

-- what counts for nothing
abbrev pub nothing : Standing
nothing = record { takes_part = false; asks = false; in_one_phase = false; owes = false; is_unfinished = false; is_live = false }
