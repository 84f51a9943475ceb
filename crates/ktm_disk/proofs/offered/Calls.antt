-- A device call that the block does not answer.
use Rattle.std.proofs.Common.{◌||◌, sym, ◌≡◌, ℕ, ◌≤◌, Bool, true, false, refl, ◌∙◌, ap, arith, inr}
use Rattle.ktm_base.specs.Count.{raised}
use Rattle.ktm_base.specs.Disk.{DiskStatus, DeviceCall}
use Rattle.ktm_disk.specs.Status.{after_call, fallen, with_pending}

no_true : false ≡ true → ⊥
no_true h = cc

or_false : (b : Bool) → (b || false) ≡ false → b ≡ false
or_false true h = h
or_false false h = refl

-- what was admitted had power
up_before : (s t : DiskStatus) → DeviceCall s t false → s.is_down ≡ false
up_before s t call = or_false s.is_down (sym call.counts.down ∙ call.down)

-- so a disk that was down admitted nothing
pub admits_none : (s t : DiskStatus) → DeviceCall s t false → s.is_down ≡ true → ⊥
admits_none s t call down = no_true (sym (up_before s t call) ∙ down)

-- a call that was admitted takes the disk down
pub falls : (s t u : DiskStatus) (p q : ℕ) → DeviceCall s t false → u ≡ fallen t → t.downs ≤ u.downs → DeviceCall (with_pending s p) (with_pending u q) true
falls s t u p q call is later =
    let up : s.is_down ≡ false = up_before s t call in
    let downs : u.downs ≡ raised t.downs = ap (λ (x : DiskStatus). x.downs) is in
    let rose : raised s.downs ≤ u.downs = omega (arith, call.counts.later) in
    record {
      counts = record {
        later = omega (arith, call.counts.later);
        counted = rw is call.counts.counted;
        few = rw is call.counts.few;
        cause = λ refused. inr rose;
        down = ap (λ (x : DiskStatus). x.is_down) is ∙ sym (ap (λ (b : Bool). b || true) up);
        plan = ap (λ (x : DiskStatus). x.plan) is ∙ call.counts.plan;
        places = ap (λ (x : DiskStatus). x.places) is ∙ call.counts.places;
      };
      down = ap (λ (x : DiskStatus). x.is_down) is;
      falls = λ up armed. refl;
      armed = ap (λ (x : DiskStatus). x.armed) is ∙ call.armed;
      frozen = λ down. absurd (admits_none s t call down);
    }

went_down : (s : DiskStatus) (q : ℕ) → s.is_down ≡ false → with_pending (fallen (after_call s false)) q ≡ with_pending (after_call s true) q
went_down s q up = rw up refl

-- a call behind which the disk goes down is counted as one that was refused
pub fell : (s t u : DiskStatus) (p q : ℕ) → DeviceCall s t false → t ≡ after_call s false → u ≡ fallen t → with_pending u q ≡ with_pending (after_call (with_pending s p) true) q
fell s t u p q call counts is =
    let up : s.is_down ≡ false = up_before s t call in
    ap (λ (x : DiskStatus). with_pending x q) (is ∙ ap fallen counts) ∙ went_down s q up
