-- What may be relied on of a call that only answers, of a plain one, of one in a transaction, and of one that writes an open file.
use Rattle.std.proofs.Common.{◌≡◌, ℕ, ◌+◌, ◌<◌, ◌^◌, ◌&&◌, true, false, List, [], ◌∷◌, ◌++◌, Option, Some, None, refl, sym, ◌∙◌, ap, subst, inl, inr}
use Rattle.std.proofs.lemmas.Bool.{cases_Bool, and_from, true≢false}
use Rattle.std.proofs.lemmas.List.{append-nil}
use Rattle.std.proofs.lemmas.Option.{none-some, same_Some}
use Rattle.ktm_base.specs.declared.id.Id.{Id}
use Rattle.ktm_world.specs.declared.change.Change.{Change}
use Rattle.ktm_world.specs.declared.object.Transaction.{Transaction}
use Rattle.ktm_world.specs.declared.reply.Reply.{Reply}
use Rattle.ktm_world.specs.declared.reply.Reply.TheVariants.{Done}
use Rattle.ktm_world.specs.Changes.{applies, changes_bytes, is_make, node_of}
use Rattle.ktm_world.specs.Committed.{committed_with}
use Rattle.ktm_world.specs.Conflicts.{written_by, writes}
use Rattle.ktm_world.specs.FileOutcome.{FileOutcome, answering, changing, files_after, works_of, with_open, own_after, next_node_after}
use Rattle.ktm_world.specs.Files.{FileTable, OpenFile, committed_files, first_open_of, own_changes, tree_seen}
use Rattle.ktm_world.specs.Lawful.{undecided}
use Rattle.ktm_world.specs.Present.{Present}
use Rattle.ktm_world.specs.Transactions.{is_of}
use Rattle.ktm_world.specs.Tree.{Tree, is_file}
use Rattle.ktm_records.specs.FileCallsMade.{IsRightCall}
use Rattle.txf_laws.specs.Elements.{IsIn}
use Rattle.txf_laws.specs.Footprint.{ListsLaw}
use Rattle.txf_laws.specs.Formed.{FormedLaw}
use Rattle.txf_laws.specs.PlainChange.{Lands}
use Rattle.txf_laws.specs.Reservations.{IsLeft}
use Rattle.txf_laws.specs.SoundFiles.{IsSoundFiles}
use Rattle.txf_laws.proofs.offered.PlainChange.{no-make}
use Rattle.ktm_owned.proofs.offered.OpenCalls.{lands-written}
use Rattle.ktm_owned.proofs.offered.OwnCalls.{IsOwn}
use Rattle.ktm_owned.proofs.offered.PlainCalls.{IsPlain}
use Rattle.ktm_records.proofs.offered.PlainFacts.{MayLand, lands-one}
use Rattle.txf_laws.proofs.offered.Reservations.{left-by, own-apply}
use Rattle.ktm_owned.proofs.offered.SeenFiles.{used-in}

-- ---- a file that is opened

-- a file that is opened, if one is, is one of the caller's, with the next number
abbrev pub IsNextOpen : Present → Option Id → Option OpenFile → Type 0
IsNextOpen x who opened = (p : OpenFile) → opened ≡ Some p → (p.transaction ≡ who) × (p.number ≡ x.files.table.last_open + 1) × (p.number < 2 ^ 32)

pub opens-none : (x : Present) (who : Option Id) → IsNextOpen x who None
opens-none x who p is = absurd (none-some p is)

-- another open file, which is not one of the transaction, adds nothing to what it may write
pub written_by-more : (opens : List OpenFile) (p : OpenFile) (id : Id) → is_of id p.transaction ≡ false → written_by (opens ++ p ∷ []) id ≡ written_by opens id
written_by-more [] p id other = rw other refl
written_by-more (o ∷ os) p id other = elim (cases_Bool (is_of id o.transaction && writes o.access)) [
  | inl here ↦ rw here (ap (λ ns. o.node ∷ ns) (written_by-more os p id other))
  | inr not' ↦ rw not' (written_by-more os p id other)
]

-- a plain open file, or none, adds nothing to what a transaction may write
pub written_by-opened : (table : FileTable) (opened : Option OpenFile) (id : Id) → ((p : OpenFile) → opened ≡ Some p → p.transaction ≡ None) → written_by (with_open table opened).opens id ≡ written_by table.opens id
written_by-opened table None id plain = refl
written_by-opened table (Some p) id plain = written_by-more table.opens p id (ap (is_of id) (plain p refl))

-- an open file changes nothing of what transactions changed
pub own-opened : (table : FileTable) (opened : Option OpenFile) → (with_open table opened).own ≡ table.own
own-opened table None = refl
own-opened table (Some p) = refl

-- ---- what many of these calls are

-- a call that only answers
pub right-answer : (x : Present) (who : Option Id) (reply : Reply) → IsRightCall x who (answering reply)
right-answer x who reply = record {
  applies = λ c is. absurd (none-some c is);
  fresh = λ c is. absurd (none-some c is);
  leaves = λ c u plain is. absurd (none-some c is);
  first = λ id file in_one is. absurd (none-some file is);
  opened = opens-none x who;
}

-- one in a transaction
pub right-own : (x : Present) (id : Id) (o : FileOutcome) → ((c : Change) → o.change ≡ Some c → (applies (tree_seen x.files (Some id)) c ≡ true) × (is_make c ≡ true → node_of c ≡ x.files.table.next_node))
    → ((file : ℕ) → o.first ≡ Some file → (first_open_of x.files.first_opens id file ≡ None) × (is_file x.files.tree file ≡ true)) → IsNextOpen x (Some id) o.opened → IsRightCall x (Some id) o
right-own x id o changes first opened = record {
  applies = λ c is. (changes c is).0;
  fresh = λ c is. (changes c is).1;
  leaves = λ c u plain. absurd (none-some id (sym plain));
  first = λ i file in_one is. subst (λ j. (first_open_of x.files.first_opens j file ≡ None) × (is_file x.files.tree file ≡ true)) (same_Some id i in_one) (first file is);
  opened = opened;
}

-- one that changes something, and nothing else
pub right-owned : (x : Present) (id : Id) (c : Change) → applies (tree_seen x.files (Some id)) c ≡ true → (is_make c ≡ true → node_of c ≡ x.files.table.next_node) → IsRightCall x (Some id) (changing c)
right-owned x id c is fresh = right-own x id (changing c)
    (λ d same. subst (λ e. (applies (tree_seen x.files (Some id)) e ≡ true) × (is_make e ≡ true → node_of e ≡ x.files.table.next_node)) (same_Some c d same) (is, fresh))
    (λ file none. absurd (none-some file none)) (opens-none x (Some id))

pub right-kept : (x : Present) (id : Id) (o : FileOutcome) → IsOwn x id o → IsRightCall x (Some id) o
right-kept x id o (inl answers) = subst (IsRightCall x (Some id)) (sym answers) (right-answer x (Some id) Done)
right-kept x id o (inr (c, changes, owns)) = subst (IsRightCall x (Some id)) (sym changes) (right-owned x id c owns.applies owns.fresh)

module _ (lists : ListsLaw) (x : Present) (sound : IsSoundFiles x) where
  -- a plain change leaves what undecided transactions have, also where a plain file is opened by it
  leaves-plain : (o : FileOutcome) (c : Change) → o.change ≡ Some c → Lands x c → ((p : OpenFile) → o.opened ≡ Some p → p.transaction ≡ None) → (u : Transaction) → IsIn u (undecided x) → IsLeft x.files (files_after x.files None o) u.id
  leaves-plain o c is lands plain u there =
      left-by lists x.files (files_after x.files None o) (c ∷ []) u.id sound.formed (and_from _ _ lands.applies refl) (own-apply x sound u.id) (lands.apart u there)
      (ap (λ change. (committed_with (committed_files x.files []) (works_of None change)).tree) is)
      (ap (λ own. own_changes own u.id) (own-opened changed-table o.opened))
      (λ file. ap (λ fs. first_open_of fs u.id file) (append-nil x.files.first_opens))
      (written_by-opened changed-table o.opened u.id plain)
    where
      changed-table : FileTable
      changed-table = record x.files.table { own = own_after x.files None o.change; next_node = next_node_after x.files.table.next_node o.change }

  -- a plain call
  pub right-plain : (o : FileOutcome) → MayLand x o.change → IsNextOpen x None o.opened → IsRightCall x None o
  right-plain o lands opened = record {
    applies = λ c is. (lands c is).applies;
    fresh = λ c is. (lands c is).fresh;
    leaves = λ c u plain is there. leaves-plain o c is (lands c is) (λ p opens. (opened p opens).0) u there;
    first = λ id file in_one. absurd (none-some id in_one);
    opened = opened;
  }

  pub right-landed : (o : FileOutcome) → IsPlain x o → IsRightCall x None o
  right-landed o (inl answers) = subst (IsRightCall x None) (sym answers) (right-answer x None Done)
  right-landed o (inr (c, changes, lands)) = subst (IsRightCall x None) (sym changes) (right-plain (changing c) (lands-one x c lands) (opens-none x None))

  -- what is open and may be written is written
  pub right-written : FormedLaw → (o : OpenFile) → IsIn o x.files.table.opens → writes o.access ≡ true → (c : Change) → changes_bytes c ≡ true → node_of c ≡ o.node
      → ((tree : Tree) → is_file tree o.node ≡ true → applies tree c ≡ true) → IsRightCall x o.transaction (changing c)
  right-written formed o there may c bytes at cuts = go o.transaction refl
    where
      go : (t : Option Id) → o.transaction ≡ t → IsRightCall x t (changing c)
      go None of = right-plain (changing c) (lands-one x c (lands-written lists formed x sound o there may c bytes at cuts of)) (opens-none x None)
      go (Some id) of = right-owned x id c (cuts (tree_seen x.files (Some id)) ((used-in x sound o there id of).sees may)) (λ make. absurd (true≢false (sym make ∙ no-make c bytes)))
