-- What holds of each place of a state and of files, by what it follows from.
use Rattle.std.proofs.Common.{ℕ, suc, Bool, true, false, List, [], ◌∷◌, map, All, inl, inr}
use Rattle.std.specs.Prelude.{if◌then◌else◌}
use Rattle.std.proofs.lemmas.Bool.{cases_Bool}
use Rattle.std.proofs.lemmas.List.Elements.{All-cons, All-head, All-nil, All-tail, All-weaker}
use Rattle.ktm_base.specs.declared.id.Id.{Id}
use Rattle.ktm_each.specs.Each.{EachFrom, EachOfChange, EachOfChanges, EachOfDurable, EachOfEvent, EachOfFiles, EachOfFirst, EachOfGroup, EachOfNode, EachOfOwn, EachOfPart, EachOfRecorded}
use Rattle.ktm_memory.specs.Memory.{LayersNow, recorded_of}
use Rattle.txf_laws.specs.Grammatical.{changes_of_event}
use Rattle.ktm_trace.specs.Contents.{contents_of, expanded}
use Rattle.ktm_trace.specs.Traces.{Traced, TracedPart}
use Rattle.ktm_world.specs.declared.change.Change.{Change}
use Rattle.ktm_world.specs.declared.change.Change.TheVariants.{Make, Put, Cut, Move, Drop}
use Rattle.ktm_world.specs.declared.event.DonePart.{DonePart}
use Rattle.ktm_world.specs.declared.recorded.Node.{Node}
use Rattle.ktm_world.specs.declared.recorded.RecordedPart.{RecordedPart}
use Rattle.ktm_world.specs.Changes.{bytes_in}
use Rattle.ktm_world.specs.Durable.{Durable, Recorded, changes_in, is_decided}
use Rattle.ktm_world.specs.Enlistments.{Enlistment}
use Rattle.ktm_world.specs.Files.{FilesNow, OwnChanges, own_changes}
use Rattle.ktm_world.specs.Logs.{Group}
use Rattle.ktm_world.specs.Keys.{Own, OwnSettings, own_settings}
use Rattle.ktm_world.specs.Transactions.{same_id}
use Rattle.ktm_world.specs.Tree.{bytes_or_none}

-- ---- what follows of one thing and another

All-both : {X : Type 0} (P Q R : X → Type 0) → ((x : X) → P x → Q x → R x) → (xs : List X) → All P xs → All Q xs → All R xs
All-both P Q R f [] all more = All-nil R
All-both P Q R f (x ∷ xs) all more = All-cons R x xs (f x (All-head P x xs all) (All-head Q x xs more)) (All-both P Q R f xs (All-tail P x xs all) (All-tail Q x xs more))

module _ (p q r : ℕ → ℕ → ℕ → Type 0) (f : (file index place : ℕ) → p file index place → q file index place → r file index place) where
  from-both : (file from : ℕ) (xs : List ℕ) → EachFrom (p file) from xs → EachFrom (q file) from xs → EachFrom (r file) from xs
  from-both file from [] each more = tt
  from-both file from (x ∷ xs) each more = (f file from x each.0 more.0, from-both file (suc from) xs each.1 more.1)

  change-both : (c : Change) → EachOfChange p c → EachOfChange q c → EachOfChange r c
  change-both (Put node offset contents) each more = from-both node offset (bytes_in contents) each more
  change-both (Make node parent name directory) each more = tt
  change-both (Cut node size pages) each more = tt
  change-both (Move node parent name) each more = tt
  change-both (Drop node) each more = tt

  changes-both : (cs : List Change) → EachOfChanges p cs → EachOfChanges q cs → EachOfChanges r cs
  changes-both cs each more = All-both (EachOfChange p) (EachOfChange q) (EachOfChange r) change-both cs each more

  recorded-both : (t : Recorded) → EachOfRecorded p t → EachOfRecorded q t → EachOfRecorded r t
  recorded-both t each more =
      All-both (λ (part : RecordedPart). EachOfPart p part.part) (λ (part : RecordedPart). EachOfPart q part.part) (λ (part : RecordedPart). EachOfPart r part.part) (λ part. changes-both (changes_in part.part)) t.parts each more

  node-both : (n : Node) → EachOfNode p n → EachOfNode q n → EachOfNode r n
  node-both n each more = from-both n.number 0 (bytes_or_none n.content) each more

  pub durable-both : (s : Durable) → EachOfDurable p s → EachOfDurable q s → EachOfDurable r s
  durable-both s each more = record {
    tree = All-both (EachOfNode p) (EachOfNode q) (EachOfNode r) node-both s.tree each.tree more.tree;
    transactions = All-both (EachOfRecorded p) (EachOfRecorded q) (EachOfRecorded r) recorded-both s.transactions each.transactions more.transactions;
  }

  pub files-both : (x : FilesNow) → EachOfFiles p x → EachOfFiles q x → EachOfFiles r x
  files-both x each more = record {
    tree = All-both (EachOfNode p) (EachOfNode q) (EachOfNode r) node-both x.tree each.tree more.tree;
    own = All-both (EachOfOwn p) (EachOfOwn q) (EachOfOwn r) (λ o. changes-both o.changes) x.table.own each.own more.own;
    first_opens = All-both (EachOfFirst p) (EachOfFirst q) (EachOfFirst r) (λ o. from-both o.file 0 o.bytes) x.first_opens each.first_opens more.first_opens;
  }

-- what follows of one thing
module _ (p r : ℕ → ℕ → ℕ → Type 0) (f : (file index place : ℕ) → p file index place → r file index place) where
  pub durable-weaker : (s : Durable) → EachOfDurable p s → EachOfDurable r s
  durable-weaker s each = durable-both p p r (λ file index place is more. f file index place is) s each each

  pub files-weaker : (x : FilesNow) → EachOfFiles p x → EachOfFiles r x
  files-weaker x each = files-both p p r (λ file index place is more. f file index place is) x each each

  pub changes-weaker : (cs : List Change) → EachOfChanges p cs → EachOfChanges r cs
  changes-weaker cs each = changes-both p p r (λ file index place is more. f file index place is) cs each each

  pub group-weaker : (events : Group) → EachOfGroup p events → EachOfGroup r events
  group-weaker events each = All-weaker (EachOfEvent p) (EachOfEvent r) (λ event. changes-weaker (changes_of_event event)) events each

-- ---- what was recorded, by the files that memory has

module _ (p : ℕ → ℕ → ℕ → Type 0) where
  own-each : (own : List OwnChanges) (id : Id) → All (EachOfOwn p) own → EachOfChanges p (own_changes own id)
  own-each [] id all = All-nil (EachOfChange p)
  own-each (o ∷ os) id all = elim (cases_Bool (same_id o.transaction id)) [
    | inl same ↦ rw same (All-head (EachOfOwn p) o os all)
    | inr other ↦ rw other (own-each os id (All-tail (EachOfOwn p) o os all))
  ]

  left-each : (is : Bool) (cs : List Change) → EachOfChanges p cs → EachOfChanges p (if is then [] else cs)
  left-each true cs each = All-nil (EachOfChange p)
  left-each false cs each = each

  contents-each : (es : List Enlistment) (cs : List Change) (settings : OwnSettings) (who : DonePart) → EachOfChanges p cs → EachOfPart p (contents_of es cs settings who)
  contents-each es cs settings (DonePart.Enlistment id) each = All-nil (EachOfChange p)
  contents-each es cs settings DonePart.Files each = each
  contents-each es cs settings DonePart.Keys each = All-nil (EachOfChange p)

  parts-each : (es : List Enlistment) (cs : List Change) (settings : OwnSettings) (parts : List TracedPart) → EachOfChanges p cs
      → All (λ (part : RecordedPart). EachOfPart p part.part) (map (λ (t : TracedPart). record { is_done = t.is_done; part = contents_of es cs settings t.who }) parts)
  parts-each es cs settings [] each = All-nil (λ (part : RecordedPart). EachOfPart p part.part)
  parts-each es cs settings (t ∷ ts) each =
      All-cons (λ (part : RecordedPart). EachOfPart p part.part) (record { is_done = t.is_done; part = contents_of es cs settings t.who })
      (map (λ (u : TracedPart). record { is_done = u.is_done; part = contents_of es cs settings u.who }) ts) (contents-each es cs settings t.who each) (parts-each es cs settings ts each)

  expanded-each : (es : List Enlistment) (own : List OwnChanges) (keys : List Own) (ts : List Traced) → All (EachOfOwn p) own → All (EachOfRecorded p) (map (expanded es own keys) ts)
  expanded-each es own keys [] all = All-nil (EachOfRecorded p)
  expanded-each es own keys (t ∷ ts) all =
      All-cons (EachOfRecorded p) (expanded es own keys t) (map (expanded es own keys) ts)
      (parts-each es (if is_decided t.stage then [] else own_changes own t.id) (if is_decided t.stage then [] else own_settings keys t.id) t.parts (left-each (is_decided t.stage) (own_changes own t.id) (own-each own t.id all)))
      (expanded-each es own keys ts all)

  -- what holds of each place of the files holds of all that was recorded
  pub recorded-each : (h : LayersNow) → EachOfFiles p h.files → EachOfDurable p (recorded_of h)
  recorded-each h each = record { tree = each.tree; transactions = expanded-each h.transactions.enlistments h.files.table.own h.keys.own h.traces each.own }
