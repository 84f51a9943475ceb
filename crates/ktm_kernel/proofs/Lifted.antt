-- What was answered over the places of bytes, as it is over the bytes.
use Rattle.std.proofs.Common.{◌≡◌, ℕ, Bool, true, false, Option, refl, sym, ◌∙◌, ap, subst, inl, inr}
use Rattle.ktm_base.specs.Disk.{DiskState}
use Rattle.ktm_base.proofs.offered.ToldSteps.{IsSomeAnd-map}
use Rattle.ktm_alike.specs.Alike.{mapped_present}
use Rattle.ktm_content.specs.Places.{byte_at}
use Rattle.ktm_core.specs.Core.{CoreState, LeavesEitherPlaces}
use Rattle.ktm_core.specs.Done.{Ends as CoreEnds, IsCutOff as IsCoreCutOff, IsDone as IsCoreDone}
use Rattle.ktm_core.specs.Logs.{StandsFor}
use Rattle.ktm_mapped.specs.Mapped.{mapped_durable}
use Rattle.ktm_paged.specs.Laws.{RowsSeen}
use Rattle.ktm_units.specs.Units.{IsSameOutcome}
use Rattle.ktm_world.specs.declared.reply.Reply.{Reply}
use Rattle.ktm_world.specs.Durable.{Durable}
use Rattle.ktm_world.specs.Outcome.{Outcome, apply}
use Rattle.ktm_world.specs.Present.{Present}
use Rattle.ktm_kernel.specs.Done.{Ends, IsCutOff, IsDone, LeavesEither}
use Rattle.ktm_kernel.specs.Stands.{machine_of}
use Rattle.ktm_kernel.proofs.Fallen.{left-off, left-recorded}
use Rattle.ktm_kernel.proofs.Images.{left-stands}

module _ (seen : RowsSeen) (old new : CoreState) (o asked : Outcome) (same : IsSameOutcome (byte_at old.store.seen) old.now o asked) where
  -- the bytes at the places
  abbrev f : ℕ → ℕ
  f = byte_at old.store.seen

  -- what is so then over the bytes, where the pages kept them
  seen-now : (x : Present) → new.now ≡ x → new.store.seen ≡ old.store.seen → (machine_of new).now ≡ mapped_present f x
  seen-now x is row = λ i. mapped_present (byte_at (row i)) (is i)

  -- one state or the other
  either-left : (s : DiskState) → LeavesEitherPlaces old.store.seen old.now.recorded (apply old.now o).recorded s → LeavesEither (machine_of old).now.recorded (apply (machine_of old).now asked).recorded s
  either-left s leaves image may = elim (leaves image may) [
    | inl first ↦ inl (left-stands seen old.store.seen old.now.recorded image first)
    | inr then ↦ inr (subst (λ (d : Durable). StandsFor d image) (sym (ap (λ (x : Present). x.recorded) same.leaves.comes_to)) (left-stands seen old.store.seen (apply old.now o).recorded image then))
  ]

  module _ (reply : Reply) (before now : Option DiskState) where
    done : IsCoreDone old o reply new before now → IsDone (machine_of old) asked reply (machine_of new) before now
    done is = record {
      is = refl;
      says = is.says ∙ sym same.reply;
      state = seen-now (apply old.now o) is.state is.keeps.seen ∙ sym same.leaves.comes_to;
      units = is.keeps.units;
      image = is.keeps.image;
      disk = is.disk;
    }

    cut : IsCoreCutOff old o reply new before now → IsCutOff (machine_of old) asked reply (machine_of new) before now
    cut is = record {
      says = is.says;
      off = ap (λ (x : Present). x.machine.is_up) is.state ∙ left-off old.now o;
      recorded = (λ i. mapped_durable (byte_at (is.keeps.seen i)) (is.state i).recorded) ∙ ap (mapped_durable f) (left-recorded old.now o);
      units = is.keeps.units;
      image = is.keeps.image;
      disk = λ holds. IsSomeAnd-map now (LeavesEitherPlaces old.store.seen old.now.recorded (apply old.now o).recorded) (LeavesEither (machine_of old).now.recorded (apply (machine_of old).now asked).recorded) (is.disk holds) either-left;
    }

    pub lifted : (is_down : Bool) → CoreEnds is_down old o reply new before now → Ends is_down (machine_of old) asked reply (machine_of new) before now
    lifted false is = done is
    lifted true is = cut is
