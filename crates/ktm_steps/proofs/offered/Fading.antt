-- No step makes an enlistment live again.
use Rattle.std.specs.Prelude.{if◌then◌else◌}
use Rattle.std.proofs.Common.{◌≡◌, Bool, true, false, List, map, Option, Some, None, refl, sym, ◌∙◌, ap}
use Rattle.std.proofs.lemmas.List.{map-id}
use Rattle.std.proofs.lemmas.Simd.{map-map}
use Rattle.std.specs.List.{list_any}
use Rattle.ktm_world.specs.declared.object.TransactionOutcome.{TransactionOutcome}
use Rattle.ktm_world.specs.declared.step.Answered.{Answered}
use Rattle.ktm_world.specs.declared.step.Answered.TheVariants.{PrePrepared, Prepared, ReadOnly, Finished, Recovered}
use Rattle.ktm_world.specs.declared.step.Step.{Step}
use Rattle.ktm_world.specs.Enlistments.{Enlistment, has_id, is_unfinished, with_enlistments}
use Rattle.ktm_world.specs.Phases.{Course, ended, is_its_superior, owing, unchanged}
use Rattle.ktm_world.specs.Steps.{answered, carried, changing, is_meant, run}
use Rattle.ktm_steps.specs.Fading.{Fades, GoesOn}
use Rattle.ktm_steps.proofs.offered.Staying.{run-keeps}
use Rattle.ktm_steps.proofs.offered.Ways.{if_cases}

-- ---- enlistments

stays : (e : Enlistment) → GoesOn e e
stays e = record { lasts = refl; read_only = λ is. is; prepared = λ is. is; finished = λ is. is; recovered = λ is. is }

goes-answered : (answer : Answered) (e : Enlistment) → GoesOn e (answered answer e)
goes-answered PrePrepared e = record { lasts = refl; read_only = λ is. is; prepared = λ is. is; finished = λ is. is; recovered = λ is. is }
goes-answered Prepared e = record { lasts = refl; read_only = λ is. is; prepared = λ is. refl; finished = λ is. is; recovered = λ is. is }
goes-answered ReadOnly e = record { lasts = refl; read_only = λ is. refl; prepared = λ is. is; finished = λ is. is; recovered = λ is. is }
goes-answered Finished e = record { lasts = refl; read_only = λ is. is; prepared = λ is. is; finished = λ is. refl; recovered = λ is. is }
goes-answered Recovered e = record { lasts = refl; read_only = λ is. is; prepared = λ is. is; finished = λ is. is; recovered = λ is. refl }

goes-if : (b : Bool) (e f : Enlistment) → GoesOn e f → GoesOn e (if b then f else e)
goes-if true e f goes = goes
goes-if false e f goes = stays e

-- ---- courses

fades-same : (c d : Course) → d.enlistments ≡ c.enlistments → Fades c d
fades-same c d same = record { change = λ e. e; is = same ∙ sym (map-id c.enlistments); each = stays }

fades-then : (b c d : Course) → Fades b c → Fades c d → Fades b d
fades-then b c d first second = record {
  change = λ e. second.change (first.change e);
  is = second.is ∙ ap (map second.change) first.is ∙ map-map second.change first.change b.enlistments;
  each = λ e.
      let before = first.each e in
      let after = second.each (first.change e) in
      record {
        lasts = after.lasts ∙ before.lasts;
        read_only = λ is. after.read_only (before.read_only is);
        prepared = λ is. after.prepared (before.prepared is);
        finished = λ is. after.finished (before.finished is);
        recovered = λ is. after.recovered (before.recovered is);
      };
}

-- those that pass a test are changed
fades-with : (test : Enlistment → Bool) (f : Enlistment → Enlistment) (c d : Course) → d.enlistments ≡ with_enlistments test f c.enlistments → ((e : Enlistment) → GoesOn e (f e)) → Fades c d
fades-with test f c d is each = record { change = λ e. if test e then f e else e; is = is; each = λ e. goes-if (test e) e (f e) (each e) }

fades-ended : (c : Course) (outcome : TransactionOutcome) → Fades c (ended c outcome)
unfolding ended
fades-ended c outcome = fades-with (is_its_superior c) unchanged c (ended c outcome) refl stays

-- ---- steps

fades-changing : (answer : Answered) (c : Course) (e : Option Enlistment) → Fades c (changing c e (answered answer))
fades-changing answer c None = fades-same c c refl
fades-changing answer c (Some e) = fades-with (has_id e.id) (answered answer) c _ refl (goes-answered answer)

fades-step : (step : Step) (c : Course) → Fades c (carried step c)
fades-step (Step.Tell who kind) c = fades-with (is_meant who c) unchanged c _ refl stays
fades-step (Step.Ask who kind owed) c = fades-with (is_meant who c) (owing owed) c _ refl (λ e. record { lasts = refl; read_only = λ is. is; prepared = λ is. is; finished = λ is. is; recovered = λ is. is })
fades-step (Step.Change answer) c = fades-changing answer c c.caller
fades-step (Step.End outcome) c = fades-ended c outcome
fades-step (Step.EndWhereFinished outcome) c = if_cases (Fades c) (list_any (is_unfinished c.transaction.id) c.enlistments) c (ended c outcome) (λ some. fades-same c c refl) (λ none. fades-ended c outcome)
fades-step _ c = fades-same c _ refl

pub fades-run : (steps : List Step) (c : Course) → Fades c (run steps c)
fades-run steps c = run-keeps (Fades c) (λ step d so. fades-then c d (carried step d) so (fades-step step d)) steps c (fades-same c c refl)
