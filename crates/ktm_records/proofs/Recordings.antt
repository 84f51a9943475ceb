-- What undecided transactions own, and what a plain call changes, applies to what was recorded.
use Rattle.std.specs.Prelude.{if◌then◌else◌}
use Rattle.std.proofs.Common.{◌≡◌, ◌==◌, ◌&&◌, not, Bool, true, false, is_none, map, length, List, [], ◌∷◌, Option, Some, None, refl, sym, ◌∙◌, ap, subst, inl, inr, ◌⊎◌}
use Rattle.std.proofs.lemmas.Bool.{cases_Bool, eqb-true, and_parts, and_from, or_left, or_right, not-true, not_from_false, true≢false, false_from_ne_true}
use Rattle.std.specs.List.{list_all, list_any}
use Rattle.ktm_base.specs.declared.id.Id.{Id}
use Rattle.ktm_world.specs.declared.change.Change.{Change}
use Rattle.ktm_world.specs.declared.change.Change.TheVariants.{Make, Put, Cut, Move, Drop}
use Rattle.ktm_world.specs.declared.object.Transaction.{Transaction}
use Rattle.ktm_world.specs.declared.recorded.Stage.{Stage}
use Rattle.ktm_world.specs.Changes.{applies, changes_apply, is_make, node_of, has_made, has_changes}
use Rattle.ktm_world.specs.Durable.{Recorded, acts_of_all, are_recorded_changes, recorded_changes_apply, changes_of, is_decided, is_new_in, others_waiting, settings_apply, settings_of}
use Rattle.ktm_world.specs.Files.{OwnChanges, own_changes, bytes_seen}
use Rattle.ktm_world.specs.Holds.{holds_by, meets}
use Rattle.ktm_world.specs.Keys.{Own, OwnSettings, are_good_settings, own_settings}
use Rattle.ktm_world.specs.Lawful.{Agrees, Summary, is_held_stage, set_both, stage_in, stays, summary_in, summary_now, summary_of, undecided}
use Rattle.ktm_world.specs.Present.{Present}
use Rattle.ktm_world.specs.Transactions.{same_id}
use Rattle.ktm_world.specs.Tree.{Tree, node_at}
use Rattle.ktm_world.specs.World.{has_own_settings}
use Rattle.txf_laws.specs.Elements.{IsIn}
use Rattle.txf_laws.specs.Footprint.{footprint, AreFootprintsApart}
use Rattle.txf_laws.specs.PlainChange.{Lands}
use Rattle.ktm_records.specs.Recordings.{RecordingsLaw}
use Rattle.txf_laws.specs.SoundFiles.{IsSoundKeys, IsSoundFiles, is_undecided_in, numbers_made}
use Rattle.txf_laws.proofs.offered.ChangeTests.{Applies-from, is_there-none}
use Rattle.txf_laws.proofs.offered.Diamonds.{IsIn-map, none-from}
use Rattle.txf_laws.proofs.offered.Elements.{IsIn-filter, IsIn-unflat, list_all-at, list_all-from, list_any-at}
use Rattle.ktm_owned.proofs.offered.KeysKept.{sets-apart}
use Rattle.txf_laws.proofs.offered.Lists.{AreFootprintsApart-sym, apart-from-none}
use Rattle.txf_laws.proofs.offered.Holds.{apart-missed}
use Rattle.ktm_owned.proofs.offered.OwnSettings.{own_settings-found}
use Rattle.txf_laws.proofs.offered.CommitsOfOthers.{made-number, own-final, undecided-entry}
use Rattle.txf_laws.proofs.offered.Reservations.{own-apart, own-apply, own_changes-by, own_changes-found}
use Rattle.ktm_owned.proofs.offered.RestoredChanges.{recorded-form}
use Rattle.txf_laws.proofs.offered.Tables.{same_id-sym}

-- ---- what was recorded of a transaction

-- it changes and sets nothing, or what the transaction owns now
record Recalled (x : Present) (r : Recorded) : Type 0 where
  changes : (changes_of r ≡ []) ⊎ (changes_of r ≡ own_changes x.files.table.own r.id)
  settings : (settings_of r ≡ []) ⊎ (settings_of r ≡ own_settings x.keys.own r.id)

recalled : (x : Present) → Agrees x → (r : Recorded) → IsIn r x.recorded.transactions → Recalled x r
recalled x agrees r there =
    let from = IsIn-unflat (λ (t : Transaction). if t.is_recorded then summary_in x t (stage_in t.phase) else []) x.transactions.items (summary_of r)
    (subst (IsIn (summary_of r)) agrees.transactions (IsIn-map summary_of r x.recorded.transactions there)) in
    known from.0 from.0.is_recorded (stage_in from.0.phase) from.2
  where
    by-stage : (u : Transaction) (stage : Stage) → summary_now x u stage ≡ summary_of r → Recalled x r
    by-stage u stage is = go (is_held_stage stage) refl
      where
        same : u.id ≡ r.id
        same = ap (λ (s : Summary). s.id) is

        go : (b : Bool) → is_held_stage stage ≡ b → Recalled x r
        go true held = record {
          changes = inr (sym (ap (λ (s : Summary). s.changes) is) ∙ ap (λ b. if b then own_changes x.files.table.own u.id else []) held ∙ ap (own_changes x.files.table.own) same);
          settings = inr (sym (ap (λ (s : Summary). s.settings) is) ∙ ap (λ b. if b then own_settings x.keys.own u.id else []) held ∙ ap (own_settings x.keys.own) same);
        }
        go false other = record {
          changes = inl (sym (ap (λ (s : Summary). s.changes) is) ∙ ap (λ b. if b then own_changes x.files.table.own u.id else []) other);
          settings = inl (sym (ap (λ (s : Summary). s.settings) is) ∙ ap (λ b. if b then own_settings x.keys.own u.id else []) other);
        }

    known : (u : Transaction) (recorded : Bool) (stage : Option Stage) → IsIn (summary_of r) (if recorded then summary_in x u stage else []) → Recalled x r
    known u false stage none = absurd none
    known u true None none = absurd none
    known u true (Some stage) has = elim (IsIn-filter stays (summary_now x u stage ∷ []) (summary_of r) has).0 [ inl is ↦ by-stage u stage is | inr none ↦ absurd none ]

-- ---- files

-- what is asked of changes beside those of another one that waits
spares-waiting : (tree : Tree) (bs cs : List Change) → changes_apply tree cs ≡ true → AreFootprintsApart (footprint tree cs) (footprint tree bs)
    → (not (list_any (meets (holds_by tree bs [])) (acts_of_all tree cs)) && not (list_any (λ change. is_make change && has_made bs (node_of change)) cs)) ≡ true
spares-waiting tree bs cs all apart = and_from _ _ (not_from_false _ (apart-missed tree bs cs all apart))
    (not_from_false _ (none-from (λ change. is_make change && has_made bs (node_of change)) cs (λ c there. false_from_ne_true _ (λ both.
    let made = list_any-at (λ change. is_make change && node_of change == node_of c) bs (and_parts (is_make c) (has_made bs (node_of c)) both).1 in
    let at = eqb-true _ _ (and_parts (is_make made.0) (node_of made.0 == node_of c) made.2).1 in
    apart.nodes (node_of c) (IsIn-map node_of c cs there) (subst (λ n. IsIn n (map node_of bs)) at (IsIn-map node_of made.0 bs made.1))))))

-- changes apply to what was recorded, where they are apart from what others own
applies-recorded : (x : Present) → Agrees x → (who : Option Id) (cs : List Change) → changes_apply x.files.tree cs ≡ true → list_all (is_new_in x.files.tree) cs ≡ true
    → ((r : Recorded) → IsIn r (others_waiting x.recorded who) → AreFootprintsApart (footprint x.files.tree cs) (footprint x.files.tree (changes_of r))) → recorded_changes_apply x.recorded who cs ≡ true
applies-recorded x agrees who cs all new apart = and_from _ _ (and_from _ _ (list_all-from _ (others_waiting x.recorded who) (λ r there.
    subst (λ tree. (not (list_any (meets (holds_by tree (changes_of r) [])) (acts_of_all tree cs)) && not (list_any (λ change. is_make change && has_made (changes_of r) (node_of change)) cs)) ≡ true) (sym agrees.tree)
    (spares-waiting x.files.tree (changes_of r) cs all (apart r there))))
    (subst (λ tree. changes_apply tree cs ≡ true) (sym agrees.tree) all)) (subst (λ tree. list_all (is_new_in tree) cs ≡ true) (sym agrees.tree) new)

-- what was recorded of a transaction is apart from what is apart from all that undecided ones own
apart-recorded : (x : Present) → IsSoundFiles x → Agrees x → (cs : List Change) (r : Recorded) → IsIn r x.recorded.transactions
    → ((v : Transaction) → IsIn v (undecided x) → v.id ≡ r.id → AreFootprintsApart (footprint x.files.tree cs) (footprint x.files.tree (own_changes x.files.table.own v.id)))
    → AreFootprintsApart (footprint x.files.tree cs) (footprint x.files.tree (changes_of r))
apart-recorded x sound agrees cs r there apart = elim (recalled x agrees r there).changes [
  | inl none ↦ nothing (changes_of r) none
  | inr own ↦ elim (own_changes-found x.files.table.own r.id) [
    | inl none ↦ nothing (changes_of r) (own ∙ none)
    | inr (o, has, is, changes) ↦
        let v = undecided-entry x.transactions.items o.transaction (list_all-at (λ (p : OwnChanges). is_undecided_in x.transactions.items p.transaction) x.files.table.own sound.own_undecided o has) in
        subst (λ ds. AreFootprintsApart (footprint x.files.tree cs) (footprint x.files.tree ds)) (ap (own_changes x.files.table.own) (v.2 ∙ is) ∙ sym own) (apart v.0 v.1 (v.2 ∙ is))
  ]
]
  where
    nothing : (ds : List Change) → ds ≡ [] → AreFootprintsApart (footprint x.files.tree cs) (footprint x.files.tree ds)
    nothing ds none = subst (λ es. AreFootprintsApart (footprint x.files.tree cs) (footprint x.files.tree es)) (sym none) (AreFootprintsApart-sym (footprint x.files.tree []) (footprint x.files.tree cs) (apart-from-none x.files.tree cs))

-- a change that makes a node makes a new one, where it applies
one-new : (tree : Tree) (c : Change) → applies tree c ≡ true → is_new_in tree c ≡ true
one-new tree (Make node parent kind name) is = ap is_none (is_there-none tree node (Applies-from tree (Make node parent kind name) is).1)
one-new tree (Put node offset contents) is = refl
one-new tree (Cut node size pages) is = refl
one-new tree (Move node parent name) is = refl
one-new tree (Drop node) is = refl

changes-recorded : (x : Present) (t : Transaction) → IsSoundFiles x → Agrees x → IsIn t (undecided x) → has_changes (own_changes x.files.table.own t.id) ≡ true
    → (are_recorded_changes (own_changes x.files.table.own t.id) ≡ true) × (recorded_changes_apply x.recorded (Some t.id) (own_changes x.files.table.own t.id) ≡ true)
changes-recorded x t sound agrees there some =
    let mine = own_changes x.files.table.own t.id in (
      recorded-form mine (bytes_seen x.files (Some t.id)) (own-final x sound t.id) some,
      applies-recorded x agrees (Some t.id) mine (own-apply x sound t.id) (list_all-from (is_new_in x.files.tree) mine new) (λ r waits.
          let kept = IsIn-filter (λ r. not (is_decided r.stage) && not (same_id r.id t.id)) x.recorded.transactions r waits in
          let other : same_id r.id t.id ≡ false = not-true _ (and_parts (not (is_decided r.stage)) _ kept.1).1 in
          apart-recorded x sound agrees mine r kept.0 (λ v v-there at. own-apart x sound t v there v-there (same_id-sym v.id t.id (subst (λ i. same_id i t.id ≡ false) (sym at) other)))),
    )
  where
    new : (c : Change) → IsIn c (own_changes x.files.table.own t.id) → is_new_in x.files.tree c ≡ true
    new c has = elim (cases_Bool (is_make c)) [
      | inr other ↦ or_left _ _ (not_from_false _ other)
      | inl make ↦ or_right _ _ (list_all-at (λ n. is_none (node_at x.files.tree n)) (numbers_made (own_changes x.files.table.own t.id)) (own_changes-by (λ ds. list_all (λ n. is_none (node_at x.files.tree n)) (numbers_made ds) ≡ true) x.files.table.own t.id refl (λ o in_own is.
          list_all-at (λ (p : OwnChanges). list_all (λ n. is_none (node_at x.files.tree n)) (numbers_made p.changes)) x.files.table.own sound.own_new o in_own)) (node_of c) (made-number (own_changes x.files.table.own t.id) c has make))
    ]

plain-recorded : (x : Present) (change : Change) → IsSoundFiles x → Agrees x → Lands x change → recorded_changes_apply x.recorded None (change ∷ []) ≡ true
plain-recorded x change sound agrees lands = applies-recorded x agrees None (change ∷ []) (and_from _ _ lands.applies refl) (and_from _ _ (one-new x.files.tree change lands.applies) refl) (λ r waits.
    apart-recorded x sound agrees (change ∷ []) r (IsIn-filter (λ r. not (is_decided r.stage)) x.recorded.transactions r waits).0 (λ v there at. lands.apart v there))

-- ---- keys

settings-recorded : (x : Present) (t : Transaction) → IsSoundKeys x → Agrees x → has_own_settings (record { transaction = t.id; settings = own_settings x.keys.own t.id }) ≡ true
    → (are_good_settings (own_settings x.keys.own t.id) ≡ true) × (settings_apply x.recorded (Some t.id) (own_settings x.keys.own t.id) ≡ true)
settings-recorded x t sound agrees some = (
  elim (own_settings-found x.keys.own t.id) [
    | inl none ↦ absurd (true≢false (sym (subst (λ (ss : OwnSettings). not (length ss == 0) ≡ true) none some)))
    | inr (o, there, is, settings) ↦ subst (λ ss. are_good_settings ss ≡ true) settings (list_all-at (λ (p : Own). are_good_settings p.settings) x.keys.own sound.settings o there)
  ],
  list_all-from _ (others_waiting x.recorded (Some t.id)) (λ r waits.
      let kept = IsIn-filter (λ r. not (is_decided r.stage) && not (same_id r.id t.id)) x.recorded.transactions r waits in
      let other : same_id r.id t.id ≡ false = not-true _ (and_parts (not (is_decided r.stage)) _ kept.1).1 in
      not_from_false _ (elim (recalled x agrees r kept.0).settings [
        | inl none ↦ subst (λ ss. set_both (own_settings x.keys.own t.id) ss ≡ false) (sym none) (none-from (λ setting. false) (own_settings x.keys.own t.id) (λ s has. refl))
        | inr own ↦ subst (λ ss. set_both (own_settings x.keys.own t.id) ss ≡ false) (sym own) (sets-apart x sound t.id r.id other)
      ])),
)

pub recordings_law : RecordingsLaw
recordings_law = record { changes = changes-recorded; settings = settings-recorded; plain = plain-recorded }
