-- What a run of a generated script comes to, once its machine was started and where it was not.
use Rattle.std.specs.Prelude.{IfSome}
use Rattle.std.proofs.Common.{◌≡◌, inl, inr, ℕ, ◌≤◌, true, false, List, [], Option, refl, sym, subst, arith}
use Rattle.std.proofs.KnownBytes.{Keeps-refl}
use Rattle.std.specs.Io.KnownBytes.{Appends, Keeps}
use Rattle.ktm_base.specs.Disk.{HasLengths}
use Rattle.ktm_gen.specs.declared.generator.TheConstants.{MOST_LINES}
use Rattle.ktm_gen.specs.Script.{generated_lines, line_at}
use Rattle.ktm_kernel.specs.Stands.{KernelState, KernelAt, LeftLaw}
use Rattle.ktm_log.specs.OnDisk.{OnDisk}
use Rattle.ktm_kernel.specs.declared.fault.OpenFault.{OpenFault}
use Rattle.ktm_kernel.specs.declared.fault.OpenFault.TheVariants as opening
use Rattle.ktm_run.proofs.Known.{Appends-none}
use Rattle.ktm_run.proofs.Lasting.{generated_few}
use Rattle.ktm_run.proofs.Theorems.{executed, said_nothing, unanswered_of}
use Rattle.ktm_run.specs.declared.status.Status.{Status}
use Rattle.ktm_run.specs.declared.status.Status.TheVariants.{Done, Usage, SourceFault, SinkFault, NoMemory, BadImage, DiskFault, ScriptTooLong, Worn}
use Rattle.ktm_run.specs.Early.{EndsAs, Outside, SaysWhy}
use Rattle.ktm_run.specs.Generated.{GeneratedEnds, HaltedWithin, ReadsNone}
use Rattle.ktm_run.specs.Lawful.{RunIsLawful}
use Rattle.ktm_run.specs.Progress.{Now, point}
use Rattle.ktm_run.specs.Tallied.{Halts, SumLeaves}
use Rattle.ktm_run.specs.Theorem.{CutOpening, NotOpened, RunCounts}
use Rattle.ktm_world.specs.Durable.{Durable, is_worn}
use Rattle.ktm_world.specs.World.{opened}

module _ (number lines : ℕ) where
  -- ---- a machine that was started

  module _ (base : Durable) (old new : Outside) (first : OnDisk KernelState) (machine : KernelState) (lengths : IfSome new.disk HasLengths)
      (stands : KernelAt first.it first.told (opened base [])) (unworn : is_worn base ≡ false) (opening : RunCounts base.units old.status first.status 0 [] 0) (law : RunIsLawful base) (left : LeftLaw)
      (few : lines ≤ MOST_LINES) where
    abbrev begun : Now
    begun = record { scene = first; taken = old.taken }

    abbrev ended : Now
    ended = point machine new.disk new.status new.taken

    halted : new.taken ≡ old.taken → Halts number lines first ended.scene → HaltedWithin number lines base old new
    halted silent halts =
        let h = halts (opened base []) stands in record {
          unworn = unworn;
          before = h.before;
          fewer = h.fewer;
          at = record { taken = old.taken; disk = h.at.told; status = h.at.status };
          executed = executed base old new first machine lengths stands unworn opening law left h.at (generated_lines number h.before) h.lengths (generated_few number h.before (omega (arith, h.fewer, few))) h.went;
          broke = unanswered_of h.went.world (record { scene = h.at; taken = old.taken }) ended (line_at number h.before) lengths (subst (λ (o : Option (List ℕ)). Appends old.taken o []) (sym silent) (Appends-none old.taken)) h.broke;
          not_written = Keeps-refl old.taken;
        }

    pub generated_ended : (result : Status) → SumLeaves result number lines begun ended → GeneratedEnds result number lines base old new
    generated_ended Done sums =
        let s = sums (opened base []) stands in
        record { unworn = unworn; executed = executed base old new first machine lengths stands unworn opening law left ended.scene (generated_lines number lines) lengths (generated_few number lines few) s.went; wrote = s.wrote }
    generated_ended SinkFault sums =
        let s = sums (opened base []) stands in
        inl (record { unworn = unworn; executed = executed base old new first machine lengths stands unworn opening law left ended.scene (generated_lines number lines) lengths (generated_few number lines few) s.went; wrote = s.wrote })
    generated_ended NoMemory (silent, halts) = inr (halted silent halts)
    generated_ended Usage never = absurd never
    generated_ended SourceFault never = absurd never
    generated_ended BadImage never = absurd never
    generated_ended DiskFault never = absurd never
    generated_ended ScriptTooLong never = absurd never
    generated_ended Worn never = absurd never

  module _ (old new : Now) where
    pub sum_ends : (result : Status) (Opened : Type 0) (before after : Outside) → Opened → SumLeaves result number lines old new → EndsAs result Opened before after
    sum_ends Done Opened before after opened is = opened
    sum_ends SinkFault Opened before after opened is = inr (inr (inr opened))
    sum_ends NoMemory Opened before after opened is = inr opened
    sum_ends Usage Opened before after opened is = absurd is
    sum_ends SourceFault Opened before after opened is = absurd is
    sum_ends BadImage Opened before after opened is = absurd is
    sum_ends DiskFault Opened before after opened is = absurd is
    sum_ends ScriptTooLong Opened before after opened is = absurd is
    sum_ends Worn Opened before after opened is = absurd is

    pub sum_reads_none : (result : Status) → SumLeaves result number lines old new → ReadsNone result
    sum_reads_none SourceFault is = absurd is
    sum_reads_none ScriptTooLong is = absurd is
    sum_reads_none Usage is = absurd is
    sum_reads_none result is = tt

  -- ---- a machine that was not started

  pub generated_early : (result : Status) (base : Durable) (old new : Outside) (why : OpenFault) → SaysWhy result why old.taken new.taken → ((offset : ℕ) → why ≡ opening.BadImage offset → ⊥)
      → (why ≡ opening.Worn → is_worn base ≡ true) → (why ≡ opening.Down → CutOpening base old new)
      → (why ≡ opening.NoMemory → Keeps old.taken new.taken → NotOpened base old new) → GeneratedEnds result number lines base old new
  generated_early result base old new (opening.BadImage offset) says good worn down none = absurd (good offset refl)
  generated_early result base old new opening.Worn (inl (is, wrote)) good worn down none = subst (λ s. GeneratedEnds s number lines base old new) (sym is) (worn refl, wrote)
  generated_early result base old new opening.Worn (inr (is, wrote)) good worn down none = subst (λ s. GeneratedEnds s number lines base old new) (sym is) (inr (worn refl, wrote))
  generated_early result base old new opening.Down (is, same) good worn down none = subst (λ s. GeneratedEnds s number lines base old new) (sym is) (down refl)
  generated_early result base old new opening.NoMemory (is, same) good worn down none = subst (λ s. GeneratedEnds s number lines base old new) (sym is) (inl (none refl (said_nothing _ _ same)))

pub early_reads_none : (result : Status) (why : OpenFault) (old new : Option (List ℕ)) → SaysWhy result why old new → ReadsNone result
early_reads_none result (opening.BadImage offset) old new (inl (is, wrote)) = subst ReadsNone (sym is) tt
early_reads_none result (opening.BadImage offset) old new (inr (is, wrote)) = subst ReadsNone (sym is) tt
early_reads_none result opening.Worn old new (inl (is, wrote)) = subst ReadsNone (sym is) tt
early_reads_none result opening.Worn old new (inr (is, wrote)) = subst ReadsNone (sym is) tt
early_reads_none result opening.Down old new (is, silent) = subst ReadsNone (sym is) tt
early_reads_none result opening.NoMemory old new (is, silent) = subst ReadsNone (sym is) tt
