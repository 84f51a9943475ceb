use Rattle.std.proofs.Common.{◌∙◌, ap, sym}
use Rattle.std.specs.List.{insert, position_or_len}
use Rattle.ktm_world.specs.Durable.{is_before}
use Rattle.ktm_world.specs.Enlistments.{Enlistment}
use Rattle.ktm_back.proofs.Coming.{with-inserted}
use Rattle.ktm_back.proofs.enlistments.put.Goals as goal
use Rattle.ktm_back.proofs.enlistments.put.Goals.{in-Ok, in-Err}

pub returns : goal.returns
returns c = elim c.match-insert.branch [
  | in-Ok w ↦
      let es = c.args.enlistments.now.items in
      let place = rw c.deref.ensures.value at c.place_of-place.ensures.place in
      rw w.result-is ((rw w.in-Ok.is at c.insert.ensures.items) ∙ ap (λ n. insert es n c.args.e) place ∙ ap (λ (e : Enlistment). insert es (position_or_len (λ (a : Enlistment). is_before e.id a.id) es) c.args.e) c.e.view_is ∙ sym (with-inserted es c.args.e))
  | in-Err w ↦ rw w.result-is tt
]
