-- An answer leaves undecided transactions what is reserved for them.
use Rattle.std.proofs.Common.{◌≡◌, ◌⊎◌, refl, sym, ◌∙◌, subst, inl, inr}
use Rattle.ktm_base.specs.declared.id.Id.{Id}
use Rattle.ktm_world.specs.declared.command.Line.{Line}
use Rattle.ktm_world.specs.Files.{FilesNow}
use Rattle.ktm_world.specs.Outcome.{Outcome, apply}
use Rattle.ktm_world.specs.Present.{Present}
use Rattle.txf_laws.proofs.offered.Reservations.{own-apply}
use Rattle.txf_laws.specs.Reservations.{IsLeft}
use Rattle.ktm_laws.specs.ReservedFiles.{ReservedFilesLaw, with_opens}
use Rattle.ktm_records.specs.Kept.{IsKept}
use Rattle.ktm_core.specs.Done.{fallen, left_behind}
use Rattle.ktm_core.specs.Asked.{Asked}
use Rattle.ktm_core.specs.Asked.TheVariants.{Call, Units, Tick as TickAsked}
use Rattle.ktm_core.specs.Route.{decided}
use Rattle.ktm_world.specs.declared.command.Command.TheVariants.{WriteUnits}
use Rattle.ktm_kernel.specs.Staging.{line_of}
use Rattle.ktm_kernel.specs.Reserved.{KeepsReserved, is_by_line, line_closes}
use Rattle.ktm_kernel.proofs.Fallen.{left-cases}

-- nothing is taken where the files are as before
left_itself : (x : Present) → IsKept x → (id : Id) → IsLeft x.files x.files id
left_itself x kept id = record { own = refl; applies = own-apply x kept.sound.files id; holds = refl; bytes = λ file its. refl }

-- the open files that are there
same_opens : (files : FilesNow) → with_opens files files.table.opens ≡ files
same_opens files = refl

-- the loss of power takes nothing
pub reserved_fallen : (line : Line) (x : Present) → IsKept x → KeepsReserved line x (fallen x)
reserved_fallen line x kept = record {
  by_others = λ id before after other. left_itself x kept id;
  by_closings = λ id before after closes. subst (λ (f : FilesNow). IsLeft f x.files id) (sym (same_opens x.files)) (left_itself x kept id);
}

-- also where an outcome came that takes nothing
reserved_behind : (line : Line) (x : Present) (o : Outcome) → IsKept x → KeepsReserved line x (apply x o) → KeepsReserved line x (left_behind x o)
reserved_behind line x o kept reserved = elim (left-cases x o) [
  | inl none ↦ subst (KeepsReserved line x) (sym none.1) (let came : KeepsReserved line x (fallen (apply x o)) = record { by_others = reserved.by_others; by_closings = reserved.by_closings } in came)
  | inr some ↦ subst (KeepsReserved line x) (sym some.0) (reserved_fallen line x kept)
]

-- the same takes nothing
pub reserved_same : (line : Line) (x : Present) → IsKept x → KeepsReserved line x x
reserved_same line x kept = record {
  by_others = λ id before after other. left_itself x kept id;
  by_closings = λ id before after closes. subst (λ (f : FilesNow). IsLeft f x.files id) (sym (same_opens x.files)) (left_itself x kept id);
}

-- what was asked takes nothing
asked_reserved : ReservedFilesLaw → (x : Present) (asked : Asked) → IsKept x → KeepsReserved (line_of asked) x (apply x (decided x asked))
asked_reserved law x (Call process command) kept = record {
  by_others = λ id is then other. law.commands x process command id kept (record { before = is; after = then }) other;
  by_closings = λ id is then closes. law.closings x process command id kept (record { before = is; after = then }) closes;
}
asked_reserved law x (Units process file start contents extent) kept = record {
  by_others = λ id is then other. law.commands x process (WriteUnits file start contents) id kept (record { before = is; after = then }) other;
  by_closings = λ id is then closes. law.closings x process (WriteUnits file start contents) id kept (record { before = is; after = then }) closes;
}
asked_reserved law x (TickAsked ms) kept = record {
  by_others = λ id is then other. law.ticks x ms id kept (record { before = is; after = then });
  by_closings = λ id is then closes. absurd (cc);
}

-- nor does a line that asks so
as_line : (line other : Line) (x y : Present) → ((id : Id) → is_by_line x other id ≡ is_by_line x line id) → line_closes other ≡ line_closes line → KeepsReserved other x y → KeepsReserved line x y
as_line line other x y by closes keeps = record {
  by_others = λ id is then no. keeps.by_others id is then (by id ∙ no);
  by_closings = λ id is then yes. keeps.by_closings id is then (closes ∙ yes);
}

-- by what came then, or was left
pub line_reserved : ReservedFilesLaw → (line : Line) (x y : Present) (asked : Asked) → IsKept x → ((id : Id) → is_by_line x (line_of asked) id ≡ is_by_line x line id) → line_closes (line_of asked) ≡ line_closes line
    → (y ≡ apply x (decided x asked)) ⊎ (y ≡ left_behind x (decided x asked)) → KeepsReserved line x y
line_reserved law line x y asked kept by closes (inl came) = as_line line (line_of asked) x y by closes (subst (KeepsReserved (line_of asked) x) (sym came) (asked_reserved law x asked kept))
line_reserved law line x y asked kept by closes (inr left) = as_line line (line_of asked) x y by closes
    (subst (KeepsReserved (line_of asked) x) (sym left) (reserved_behind (line_of asked) x (decided x asked) kept (asked_reserved law x asked kept)))
