use Rattle.std.proofs.Common.{◌≡◌, [], refl, inl, inr}
use Rattle.ktm_memory.specs.Memory.{MayHandle, held, present_of}
use Rattle.ktm_memory.specs.Settled.{labels_tests}
use Rattle.ktm_memory.proofs.Decides.{handles_decided}
use Rattle.ktm_memory.proofs.Bound.{labels_done}
use Rattle.ktm_memory.proofs.offered.Standing.{kept}
use Rattle.ktm_memory.proofs.memory.Memory.decide_labels.Goals as goal

pub decide_handle-requires-clause-done : goal.decide_handle-requires-clause-done
decide_handle-requires-clause-done c = labels_done (present_of c.args.self.now) c.args.process c.args.labels (kept (present_of c.args.self.now) c.requires.standing).sound.course

pub returns-in-Bind-clause-ok : goal.returns-in-Bind-clause-ok
returns-in-Bind-clause-ok c = elim c.in-Bind.is [
  | inl bind ↦ rw bind.2 (rw bind.2 at c.decide_handle.ensures.ok)
  | inr duplicate ↦ rw duplicate.3 (rw duplicate.3 at c.decide_handle.ensures.ok)
]

pub returns-in-Unbind-clause-ok : goal.returns-in-Unbind-clause-ok
returns-in-Unbind-clause-ok c = λ events holds.
    let x = present_of c.args.self.now in
    let quiet : MayHandle c.args.self.now c.args.process c.args.labels × (labels_tests x c.args.labels ≡ []) = elim c.in-Unbind.is [
      | inl unbind ↦ rw unbind.1 (tt, refl)
      | inr all ↦ rw all (tt, refl)
    ] in
    rw quiet.1
    (handles_decided (held c.args.self.now) c.args.self.now c.args.process c.args.labels events (labels_done x c.args.process c.args.labels (kept x c.requires.standing).sound.course) refl quiet.0 holds _ refl)
