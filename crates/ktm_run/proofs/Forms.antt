-- What a form leaves, by which one it is.
use Rattle.std.specs.Prelude.{IfSome, IsSomeAnd}
use Rattle.std.proofs.Common.{◌≡◌, ◌⊎◌, inl, inr, ℕ, ◌<◌, true, List, length, Option, Some, refl, sym, subst}
use Rattle.std.proofs.KnownBytes.{Keeps-trans}
use Rattle.std.specs.Io.KnownBytes.{Keeps}
use Rattle.ktm_base.specs.declared.limits.TheConstants.{MOST_SCRIPT_BYTES}
use Rattle.ktm_base.specs.Disk.{DiskState, DiskStatus}
use Rattle.ktm_kernel.specs.Begins.{Begins}
use Rattle.ktm_kernel.specs.Opened.{MayBegin}
use Rattle.ktm_run.proofs.Probed.{Appends-after, AppendsPart-after, probed_ends}
use Rattle.ktm_run.specs.Dumped.{DumpLeaves}
use Rattle.ktm_run.specs.Early.{FoundDown, LeftAlone, NoForm, Outside, SaysUsage}
use Rattle.ktm_run.specs.Ended.{RunLeaves}
use Rattle.ktm_run.specs.Formatted.{FormatLeaves}
use Rattle.ktm_run.specs.Forms.{FormLeaves}
use Rattle.ktm_run.specs.Generated.{GeneratedEnds, GeneratedLeaves, ReadsNone}
use Rattle.ktm_run.specs.declared.form.Form.{Form}
use Rattle.ktm_run.specs.declared.form.Form.TheVariants.{Run, Format, Dump, Gen}
use Rattle.ktm_run.specs.declared.status.Status.{Status}
use Rattle.ktm_run.specs.declared.status.Status.TheVariants.{Done, Usage, SourceFault, SinkFault, NoMemory, BadImage, DiskFault, ScriptTooLong, Worn}
use Rattle.ktm_world.specs.Durable.{Durable, is_worn}

module _ (result : Status) (old new : Outside) where
  pub run_leaves : (form : Form) (found : Option Form) → Some form ≡ found → found ≡ Some Run → FormLeaves form result old new → RunLeaves result old new
  run_leaves Run found is run h = h
  run_leaves (Format units) found is run h = absurd (cc)
  run_leaves Dump found is run h = absurd (cc)
  run_leaves (Gen number lines) found is run h = absurd (cc)

  pub format_leaves : (form : Form) (found : Option Form) (units : ℕ) → Some form ≡ found → found ≡ Some (Format units) → FormLeaves form result old new → FormatLeaves result units old new
  format_leaves Run found units is format h = absurd (cc)
  format_leaves (Format n) found units is format h = let same : n ≡ units = cc in subst (λ m. FormatLeaves result m old new) same h
  format_leaves Dump found units is format h = absurd (cc)
  format_leaves (Gen number lines) found units is format h = absurd (cc)

  pub dump_leaves : (form : Form) (found : Option Form) → Some form ≡ found → found ≡ Some Dump → FormLeaves form result old new → DumpLeaves result old new
  dump_leaves Run found is dump h = absurd (cc)
  dump_leaves (Format units) found is dump h = absurd (cc)
  dump_leaves Dump found is dump h = h
  dump_leaves (Gen number lines) found is dump h = absurd (cc)

  pub gen_leaves : (form : Form) (found : Option Form) (number lines : ℕ) → Some form ≡ found → found ≡ Some (Gen number lines) → FormLeaves form result old new → GeneratedLeaves number lines result old new
  gen_leaves Run found number lines is gen h = absurd (cc)
  gen_leaves (Format units) found number lines is gen h = absurd (cc)
  gen_leaves Dump found number lines is gen h = absurd (cc)
  gen_leaves (Gen n l) found number lines is gen h =
      let number_is : n ≡ number = cc in
      let lines_are : l ≡ lines = cc in
      subst (λ (k : ℕ). GeneratedLeaves k lines result old new) number_is (subst (λ (k : ℕ). GeneratedLeaves n k result old new) lines_are h)

  -- the usage is said of no form
  pub form_usage : (form : Form) → FormLeaves form result old new → result ≡ Usage → ⊥
  form_usage Run h usage = h.not_usage usage
  form_usage (Format units) h usage = subst (λ (r : Status). FormatLeaves r units old new) usage h
  form_usage Dump h usage = subst (λ (r : Status). DumpLeaves r old new) usage h
  form_usage (Gen number lines) h usage = subst (λ (r : Status). ReadsNone r) usage h.reads_none

  pub form_too_long : (form : Form) → FormLeaves form result old new → result ≡ ScriptTooLong → IfSome old.left (λ bytes. MOST_SCRIPT_BYTES < length bytes)
  form_too_long Run h long = h.too_long long
  form_too_long (Format units) h long = absurd (subst (λ (r : Status). FormatLeaves r units old new) long h)
  form_too_long Dump h long = absurd (subst (λ (r : Status). DumpLeaves r old new) long h)
  form_too_long (Gen number lines) h long = absurd (subst (λ (r : Status). ReadsNone r) long h.reads_none)

  -- ---- words of no form

  pub says_usage : (mid : Option (List ℕ)) → Keeps old.taken mid → LeftAlone old new → SaysUsage result mid new.taken → NoForm result old new
  says_usage mid keeps alone (inl (is, wrote)) = subst (λ (r : Status). NoForm r old new) (sym is) (alone, Appends-after old.taken mid new.taken _ keeps wrote)
  says_usage mid keeps alone (inr (is, wrote)) = subst (λ (r : Status). NoForm r old new) (sym is) (alone, AppendsPart-after old.taken mid new.taken _ keeps wrote)

-- it is Usage or a fault of the sink
pub usage_or_fault : (result : Status) (a b : Option (List ℕ)) → SaysUsage result a b → (result ≡ Usage) ⊎ (result ≡ SinkFault)
usage_or_fault result a b (inl (is, wrote)) = inl is
usage_or_fault result a b (inr (is, wrote)) = inr is

pub no_other : (result other : Status) (a b : Option (List ℕ)) → SaysUsage result a b → (Usage ≡ other → ⊥) → (SinkFault ≡ other → ⊥) → result ≡ other → ⊥
no_other result other a b (inl (is, wrote)) usage fault same = usage (cc)
no_other result other a b (inr (is, wrote)) usage fault same = fault (cc)

-- ---- the form that was asked for

pub form_is : (form asked : Form) (result : Status) (old new : Outside) → form ≡ asked → FormLeaves asked result old new → FormLeaves form result old new
form_is form asked result old new is h = subst (λ (f : Form). FormLeaves f result old new) (sym is) h

-- a format asks neither the source nor the sink
pub format_no_source : (result : Status) (units : ℕ) (old new : Outside) → FormatLeaves result units old new → result ≡ SourceFault → ⊥
format_no_source result units old new h same = subst (λ (r : Status). FormatLeaves r units old new) same h

pub format_no_sink : (result : Status) (units : ℕ) (old new : Outside) → FormatLeaves result units old new → result ≡ SinkFault → ⊥
format_no_sink result units old new h same = subst (λ (r : Status). FormatLeaves r units old new) same h

-- a dump does not ask the source
pub dump_no_source : (result : Status) (old new : Outside) → DumpLeaves result old new → result ≡ SourceFault → ⊥
dump_no_source result old new h same = subst (λ (r : Status). DumpLeaves r old new) same h

-- ---- a generated script, from before a write of no bytes

module _ (left : Option (List ℕ)) (a b : Option (List ℕ)) (disk : Option DiskState) (status : DiskStatus) (keeps : Keeps a b) (number lines : ℕ) (new : Outside) where
  abbrev before : Outside
  before = record { left = left; taken = a; disk = disk; status = status }

  abbrev behind : Outside
  behind = record { left = left; taken = b; disk = disk; status = status }

  gen_before : (result : Status) (base : Durable) → GeneratedEnds result number lines base behind new → GeneratedEnds result number lines base before new
  gen_before Done base h = record { unworn = h.unworn; executed = h.executed; wrote = Appends-after a b new.taken _ keeps h.wrote }
  gen_before SinkFault base (inl h) = inl (record { unworn = h.unworn; executed = h.executed; wrote = AppendsPart-after a b new.taken _ keeps h.wrote })
  gen_before SinkFault base (inr (worn, wrote)) = inr (worn, AppendsPart-after a b new.taken _ keeps wrote)
  gen_before NoMemory base (inl h) = inl (record { not_read = h.not_read; not_written = Keeps-trans a b new.taken keeps h.not_written; plan_is = h.plan_is; image = h.image })
  gen_before NoMemory base (inr h) = inr (record {
    unworn = h.unworn;
    before = h.before;
    fewer = h.fewer;
    at = h.at;
    executed = h.executed;
    broke = h.broke;
    not_written = Keeps-trans a b h.at.taken keeps h.not_written;
  })
  gen_before Worn base (worn, wrote) = (worn, Appends-after a b new.taken _ keeps wrote)
  gen_before DiskFault base h = h
  gen_before BadImage base h = absurd h
  gen_before Usage base h = absurd h
  gen_before SourceFault base h = absurd h
  gen_before ScriptTooLong base h = absurd h

  pub generated_before : (result : Status) → GeneratedLeaves number lines result behind new → GeneratedLeaves number lines result before new
  generated_before result h = record {
    gen = λ base tells. gen_before result base (h.gen base tells);
    ends = probed_ends left a b disk status keeps result (MayBegin disk) new h.ends;
    reads_none = h.reads_none;
  }

-- where the sink does not fail
pub generated_complete : (number lines : ℕ) (old new : Outside) (base : Durable) (result : Status) → GeneratedLeaves number lines result old new → IsSomeAnd old.disk (Begins base) → (result ≡ SinkFault → ⊥)
    → (result ≡ Done) ⊎ (result ≡ NoMemory) ⊎ ((result ≡ Worn) × (is_worn base ≡ true)) ⊎ ((result ≡ DiskFault) × FoundDown old new)
generated_complete number lines old new base Done h tells works = inl refl
generated_complete number lines old new base NoMemory h tells works = inr (inl refl)
generated_complete number lines old new base Worn h tells works = inr (inr (inl (refl, (h.gen base tells).0)))
generated_complete number lines old new base DiskFault h tells works = inr (inr (inr (refl, h.ends)))
generated_complete number lines old new base SinkFault h tells works = absurd (works refl)
generated_complete number lines old new base BadImage h tells works = absurd (h.gen base tells)
generated_complete number lines old new base Usage h tells works = absurd h.reads_none
generated_complete number lines old new base SourceFault h tells works = absurd h.reads_none
generated_complete number lines old new base ScriptTooLong h tells works = absurd h.reads_none
