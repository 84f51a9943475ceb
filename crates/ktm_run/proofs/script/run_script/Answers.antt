use Rattle.std.proofs.Common.{◌≡◌, ◌+◌, inl, inr, ℕ, List, [], ◌++◌, length, take, refl, sym, ◌∙◌, ap, arith, length-append, length-take}
use Rattle.ktm_base.specs.declared.limits.TheConstants.{MOST_SCRIPT_BYTES}
use Rattle.ktm_run.proofs.Known.{Consumes-none, Consumes-trans, Consumes-end, Consumes-kept, Consumes-long}
use Rattle.ktm_run.proofs.Lasting.{lasts_fewer, lasts_one}
use Rattle.ktm_run.proofs.Lines.{lines_from-append, part_from-append, take_front}
use Rattle.ktm_run.proofs.Runs.{Progress-none, Progress-then, Progress-as, Stops-after, Stops-as}
use Rattle.ktm_run.specs.Script.{cut_lines, lines_from, part_from, last_line, kept_of}
use Rattle.ktm_run.proofs.script.run_script.Goals as goal

pub pieces-init : goal.pieces-init
pieces-init g c = record {
  went = ([], Consumes-none _, refl, c.requires.kept.0, Progress-none _);
  room = c.requires.kept.1;
  ready = c.requires.ready;
  lasts = c.requires.counts;
  bound = omega arith;
  source_later = omega arith;
  sink_later = omega arith;
}

pub pieces-preserved : goal.pieces-preserved
pieces-preserved g c =
    let (script, read, long, kept, went) = c.pieces.invariant.went in
    let part = part_from [] script in
    let piece = take c.in-Ok.count c.read_some.new.buffer in
    record {
      went = (
        script ++ piece,
        Consumes-trans _ _ _ script piece read c.in-Ok.ensures.reads,
        omega (arith, length-append {A = ℕ}, length-take {A = ℕ}, long, c.in-Ok.ensures.within, c.in-Ok.ensures.count, c.max.ensures, c.if-left-eq0.false),
        c.in-Ok-feed.ensures.leaves.keeps part kept ∙ ap kept_of (sym (part_from-append [] script piece)),
        Progress-as _ _ _ _ (sym (lines_from-append [] script piece)) (Progress-then _ _ _ (lines_from [] script) (lines_from part piece) went (c.in-Ok-feed.ensures.leaves.done part kept)),
      );
      room = c.in-Ok-feed.ensures.room;
      ready = c.in-Ok-feed.ensures.leaves.ready;
      lasts = c.in-Ok-feed.ensures.leaves.lasts _ (lasts_fewer c.pieces.kernel (c.pieces.left + 1) _ (omega (arith, length-take {A = ℕ}, c.in-Ok.ensures.within, c.in-Ok.ensures.count, c.max.ensures, c.if-left-eq0.false)) c.pieces.invariant.lasts);
      bound = omega (arith, c.pieces.invariant.bound);
      source_later = omega (arith, c.pieces.invariant.source_later, c.read_some.ensures.faults.later);
      sink_later = omega (arith, c.pieces.invariant.sink_later, c.feed.ensures.later);
    }

pub returns-in-Ok-finish-clause-leaves : goal.returns-in-Ok-finish-clause-leaves
returns-in-Ok-finish-clause-leaves g c =
    let (script, read, long, kept, went) = c.pieces.invariant.went in
    let part = part_from [] script in
    record {
      script = script;
      was_read = Consumes-end _ _ _ script _ _ read c.in-Ok.ensures.reads c.if-count-eq0.true;
      at_end = c.in-Ok.ensures.end c.if-count-eq0.true;
      short = omega (arith, long);
      went = Progress-then _ _ _ (lines_from [] script) (last_line part) went (c.in-Ok-finish.ensures.done part (c.deref.ensures.value ∙ kept));
    }

pub returns-in_default-clause-leaves : goal.returns-in_default-clause-leaves
returns-in_default-clause-leaves g c =
    let (script, read, long, kept, went) = c.pieces.invariant.went in
    record { script = script; was_read = Consumes-kept _ _ _ script read c.in_default.ensures.kept; short = omega (arith, long); went = went }

pub returns-in-Err-SinkFault-clause-leaves : goal.returns-in-Err-SinkFault-clause-leaves
returns-in-Err-SinkFault-clause-leaves g c =
    let (script, read, long, kept, went) = c.pieces.invariant.went in
    let part = part_from [] script in
    record {
      script = script;
      lines = cut_lines script;
      was_read = Consumes-end _ _ _ script _ _ read c.in-Ok.ensures.reads c.if-count-eq0.true;
      short = omega (arith, long);
      may = inr (refl, c.in-Ok.ensures.end c.if-count-eq0.true);
      stops = Stops-after _ _ _ (lines_from [] script) (last_line part) went (c.in-Err-SinkFault.ensures.stopped part (c.deref.ensures.value ∙ kept));
    }

pub returns-in-Err-NoMemory-clause-leaves : goal.returns-in-Err-NoMemory-clause-leaves
returns-in-Err-NoMemory-clause-leaves g c =
    let (script, read, long, kept, went) = c.pieces.invariant.went in
    let part = part_from [] script in
    record {
      script = script;
      lines = cut_lines script;
      was_read = Consumes-end _ _ _ script _ _ read c.in-Ok.ensures.reads c.if-count-eq0.true;
      short = omega (arith, long);
      may = inr (refl, c.in-Ok.ensures.end c.if-count-eq0.true);
      stops = Stops-after _ _ _ (lines_from [] script) (last_line part) went (c.in-Err-NoMemory.ensures.stopped part (c.deref.ensures.value ∙ kept));
    }

pub returns-in-Err-SinkFault-feed-clause-leaves : goal.returns-in-Err-SinkFault-feed-clause-leaves
returns-in-Err-SinkFault-feed-clause-leaves g c =
    let (script, read, long, kept, went) = c.pieces.invariant.went in
    let part = part_from [] script in
    let piece = take c.in-Ok.count c.read_some.new.buffer in
    record {
      script = script ++ piece;
      lines = lines_from [] (script ++ piece);
      was_read = Consumes-trans _ _ _ script piece read c.in-Ok.ensures.reads;
      short = omega (arith, length-append {A = ℕ}, length-take {A = ℕ}, long, c.in-Ok.ensures.within, c.in-Ok.ensures.count, c.max.ensures, c.if-left-eq0.false);
      may = inl refl;
      stops = Stops-as _ _ _ _ (sym (lines_from-append [] script piece)) (Stops-after _ _ _ (lines_from [] script) (lines_from part piece) went (c.in-Err-SinkFault-feed.ensures.leaves part kept));
    }

pub returns-in-Err-NoMemory-feed-clause-leaves : goal.returns-in-Err-NoMemory-feed-clause-leaves
returns-in-Err-NoMemory-feed-clause-leaves g c =
    let (script, read, long, kept, went) = c.pieces.invariant.went in
    let part = part_from [] script in
    let piece = take c.in-Ok.count c.read_some.new.buffer in
    record {
      script = script ++ piece;
      lines = lines_from [] (script ++ piece);
      was_read = Consumes-trans _ _ _ script piece read c.in-Ok.ensures.reads;
      short = omega (arith, length-append {A = ℕ}, length-take {A = ℕ}, long, c.in-Ok.ensures.within, c.in-Ok.ensures.count, c.max.ensures, c.if-left-eq0.false);
      may = inl refl;
      stops = Stops-as _ _ _ _ (sym (lines_from-append [] script piece)) (Stops-after _ _ _ (lines_from [] script) (lines_from part piece) went (c.in-Err-NoMemory-feed.ensures.leaves part kept));
    }

pub returns-then-left-eq0-clause-leaves : goal.returns-then-left-eq0-clause-leaves
returns-then-left-eq0-clause-leaves g c =
    let (script, read, long, kept, went) = c.pieces.invariant.went in
    let piece = take c.in-Ok.count c.read_some.new.buffer in
    let full : length script ≡ MOST_SCRIPT_BYTES = omega (arith, long, c.if-left-eq0.true) in
    let read_all = Consumes-trans _ _ _ script piece read c.in-Ok.ensures.reads in
    let long_all : length (script ++ piece) ≡ MOST_SCRIPT_BYTES + 1
    = omega (arith, length-append {A = ℕ}, length-take {A = ℕ}, long, c.in-Ok.ensures.within, c.in-Ok.ensures.count, c.max.ensures, c.if-left-eq0.true, c.if-count-eq0.false) in
    record {
      script = script ++ piece;
      was_read = read_all;
      long = long_all;
      went = Progress-as _ _ _ _ (ap (λ (l : List ℕ). lines_from [] l) (sym (take_front MOST_SCRIPT_BYTES script piece full))) went;
      more = Consumes-long _ _ (script ++ piece) MOST_SCRIPT_BYTES read_all (omega (arith, long_all));
    }

pub feed-requires-clause-counts : goal.feed-requires-clause-counts
feed-requires-clause-counts g c =
    lasts_fewer c.pieces.kernel (c.pieces.left + 1) _ (omega (arith, length-take {A = ℕ}, c.in-Ok.ensures.within, c.in-Ok.ensures.count, c.max.ensures, c.if-left-eq0.false)) c.pieces.invariant.lasts

pub finish-requires-clause-counts : goal.finish-requires-clause-counts
finish-requires-clause-counts g c = lasts_one c.pieces.kernel (c.pieces.left + 1) (omega arith) c.pieces.invariant.lasts
