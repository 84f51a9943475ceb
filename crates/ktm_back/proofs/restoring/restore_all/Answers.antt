use Rattle.std.proofs.Common.{◌≡◌, [], ◌∷◌, ◌++◌, List, append_assoc, ap, subst, sym, ◌∙◌}
use Rattle.std.proofs.lemmas.List.{append-nil, nil_from_length}
use Rattle.std.specs.Vec.Iter.{into_iter_items}
use Rattle.ktm_world.specs.Durable.{Recorded, changes_of, settings_of}
use Rattle.ktm_world.specs.Files.{FilesNow, OwnChanges}
use Rattle.ktm_world.specs.Keys.{KeysNow, Own}
use Rattle.ktm_world.specs.World.{has_own_changes, has_own_settings}
use Rattle.txf_volume.specs.Held.{files_of}
use Rattle.ktm_back.specs.Restoring.{CanHaveItsOwn, files_with_own, keys_with_own, own_changes_of, own_settings_of}
use Rattle.ktm_back.proofs.MoreOwned.{back-append, files-more, files-none, keys-more, keys-none}
use Rattle.ktm_back.proofs.restoring.restore_all.Goals as goal

pub loop-t-init : goal.loop-t-init
loop-t-init c = record { rest = c.into_iter-t-iterator.ensures.into_iter_gives.0; files = sym (files-none (files_of c.args.files.now)); keys = sym (keys-none c.args.keys.now) }

pub restore_if_held-requires : goal.restore_if_held-requires
restore_if_held-requires c =
    let before = c.loop-t.yielded in
    let t = c.in-Some.t in
    let behind = into_iter_items c.next.new.self in
    let all : before ++ t ∷ behind ≡ c.args.transactions.items = ap (λ (ts : List Recorded). before ++ ts) (sym c.in-Some.ensures.steps.0) ∙ c.loop-t.invariant.rest in
    subst (λ (f : FilesNow). CanHaveItsOwn f c.loop-t.keys t) (sym c.loop-t.invariant.files)
    (subst (λ (k : KeysNow). CanHaveItsOwn (files_with_own (files_of c.args.files.now) (own_changes_of before)) k t) (sym c.loop-t.invariant.keys)
    (c.requires before behind t all))

pub loop-t-preserved : goal.loop-t-preserved
loop-t-preserved c =
    let before = c.loop-t.yielded in
    let t = c.in-Some.t in
    let behind = into_iter_items c.next.new.self in
    let all : before ++ t ∷ behind ≡ c.args.transactions.items = ap (λ (ts : List Recorded). before ++ ts) (sym c.in-Some.ensures.steps.0) ∙ c.loop-t.invariant.rest in
    let changed_by = λ (r : Recorded). let o : OwnChanges = record { transaction = r.id; changes = changes_of r } in o in
    let set_by = λ (r : Recorded). let o : Own = record { transaction = r.id; settings = settings_of r } in o in
    record {
      rest = append_assoc before (t ∷ []) behind ∙ all;
      files =
          c.in_ok-restore_if_held.ensures.files
          ∙ ap (λ (f : FilesNow). files_with_own f (own_changes_of (t ∷ []))) c.loop-t.invariant.files
          ∙ files-more (files_of c.args.files.now) (own_changes_of before) (own_changes_of (t ∷ []))
          ∙ ap (files_with_own (files_of c.args.files.now)) (back-append changed_by has_own_changes before (t ∷ []));
      keys =
          c.in_ok-restore_if_held.ensures.keys
          ∙ ap (λ (k : KeysNow). keys_with_own k (own_settings_of (t ∷ []))) c.loop-t.invariant.keys
          ∙ keys-more c.args.keys.now (own_settings_of before) (own_settings_of (t ∷ []))
          ∙ ap (keys_with_own c.args.keys.now) (back-append set_by has_own_settings before (t ∷ []));
    }

pub returns : goal.returns
returns c =
    let none : into_iter_items c.loop-t.t-iterator ≡ [] = nil_from_length c.loop-t.t-iterator.rest.items (sym c.loop-t.t-iterator.rest.ok.0 ∙ c.in-None.ensures.steps.0) in
    let all : c.loop-t.yielded ≡ c.args.transactions.items = sym (append-nil c.loop-t.yielded) ∙ ap (λ (ts : List Recorded). c.loop-t.yielded ++ ts) (sym none) ∙ c.loop-t.invariant.rest in
    record {
      files = c.loop-t.invariant.files ∙ ap (λ (ts : List Recorded). files_with_own (files_of c.args.files.now) (own_changes_of ts)) all;
      keys = c.loop-t.invariant.keys ∙ ap (λ (ts : List Recorded). keys_with_own c.args.keys.now (own_settings_of ts)) all;
    }
