-- What a plain call on files leaves of what transactions changed and hold.
use Rattle.std.proofs.Common.{◌≡◌, ◌&&◌, false, List, [], ◌∷◌, ◌++◌, Option, Some, None, refl, sym, ap, subst, inl, inr}
use Rattle.std.proofs.lemmas.Bool.{cases_Bool}
use Rattle.std.proofs.lemmas.List.{append-nil}
use Rattle.ktm_base.specs.declared.id.Id.{Id}
use Rattle.ktm_world.specs.declared.change.Change.{Change}
use Rattle.ktm_world.specs.Conflicts.{written_by, writes}
use Rattle.ktm_world.specs.FileOutcome.{FileOutcome, files_after, with_open}
use Rattle.ktm_world.specs.Files.{OpenFile, own_changes}
use Rattle.ktm_world.specs.Holds.{holds_by}
use Rattle.ktm_world.specs.Present.{Present}
use Rattle.ktm_world.specs.Transactions.{is_of}
use Rattle.ktm_records.specs.FileCallsMade.{IsRightCall}
use Rattle.txf_laws.specs.Reservations.{IsLeft}
use Rattle.txf_laws.specs.SoundFiles.{IsSoundFiles}
use Rattle.txf_laws.proofs.offered.Reservations.{own-apply}

-- a plain open file is none of a transaction's
written_plain : (opens : List OpenFile) (p : OpenFile) (id : Id) → p.transaction ≡ None → written_by (opens ++ p ∷ []) id ≡ written_by opens id
written_plain [] p id plain = let other : (is_of id p.transaction && writes p.access) ≡ false = ap (λ t. is_of id t && writes p.access) plain in rw other refl
written_plain (o ∷ os) p id plain = elim (cases_Bool (is_of id o.transaction && writes o.access)) [
  | inl mine ↦ rw mine (ap (λ ns. o.node ∷ ns) (written_plain os p id plain))
  | inr other ↦ rw other (written_plain os p id plain)
]

-- a file is open too, if one is opened
left_opened : (x : Present) → IsSoundFiles x → (opened : Option OpenFile) (id : Id) → ((p : OpenFile) → opened ≡ Some p → p.transaction ≡ None) → IsLeft x.files (record x.files { table = with_open x.files.table opened }) id
left_opened x sound None id plain = record { own = refl; applies = own-apply x sound id; holds = refl; bytes = λ file is. refl }
left_opened x sound (Some p) id plain = record {
  own = refl;
  applies = own-apply x sound id;
  holds = ap (λ ns. holds_by x.files.tree (own_changes x.files.table.own id) ns) (written_plain x.files.table.opens p id (plain p refl));
  bytes = λ file is. refl;
}

-- a plain call that makes no change, and one whose change leaves what the transaction has
pub left_plain : (x : Present) → IsSoundFiles x → (o : FileOutcome) (id : Id) → IsRightCall x None o → ((c : Change) → o.change ≡ Some c → IsLeft x.files (files_after x.files None o) id) → IsLeft x.files (files_after x.files None o) id
left_plain x sound o id right leaves = go o.change refl
  where
    unchanged : files_after x.files None (record o { change = None }) ≡ record x.files { table = with_open x.files.table o.opened }
    unchanged = ap (λ opens. record x.files { first_opens = opens; table = with_open x.files.table o.opened }) (append-nil x.files.first_opens)

    go : (change : Option Change) → o.change ≡ change → IsLeft x.files (files_after x.files None o) id
    go None none = subst (λ change. IsLeft x.files (files_after x.files None (record o { change = change })) id) (sym none)
        (subst (λ files. IsLeft x.files files id) (sym unchanged) (left_opened x sound o.opened id (λ p some. (right.opened p some).0)))
    go (Some c) some = leaves c some
