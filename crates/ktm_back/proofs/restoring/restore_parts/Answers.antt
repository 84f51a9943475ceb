use Rattle.std.proofs.Common.{◌≡◌, ◌≤◌, [], ◌∷◌, ◌++◌, List, append_assoc, ap, inl, refl, subst, sym, ◌∙◌}
use Rattle.std.proofs.lemmas.List.{append-nil, nil_from_length}
use Rattle.std.specs.Vec.Iter.{into_iter_items}
use Rattle.ktm_world.specs.declared.change.Change.{Change}
use Rattle.ktm_world.specs.declared.event.DonePart.{DonePart}
use Rattle.ktm_world.specs.declared.recorded.RecordedPart.{RecordedPart}
use Rattle.ktm_world.specs.Durable.{changes_in, is_part_of, settings_in}
use Rattle.ktm_world.specs.Files.{FilesNow}
use Rattle.ktm_world.specs.Keys.{KeysNow, OwnSettings}
use Rattle.txf_laws.proofs.offered.Parts.{count_among, gathered}
use Rattle.txf_laws.specs.Elements.{IsIn}
use Rattle.txf_laws.proofs.offered.Diamonds.{IsIn-right}
use Rattle.txf_laws.proofs.offered.Elements.{list_any-from}
use Rattle.txf_volume.specs.Held.{files_of}
use Rattle.txf_volume.specs.Restoring.{CanBeRestored}
use Rattle.ktm_back.specs.Restoring.{CanBeSetAgain, files_with_own, keys_with_own, own_if_changed, own_if_set}
use Rattle.ktm_back.proofs.MoreOwned.{files-more, files-none, keys-more, keys-none}
use Rattle.ktm_back.proofs.OneOfKind.{alone, joined, no-changes, no-settings, none-before}
use Rattle.ktm_back.proofs.restoring.restore_parts.Goals as goal

pub loop-p-init : goal.loop-p-init
loop-p-init c = record { rest = c.into_iter-p-iterator.ensures.into_iter_gives.0; files = sym (files-none (files_of c.args.files.now)); keys = sym (keys-none c.args.keys.now) }

pub restore_part-requires-clause-changes : goal.restore_part-requires-clause-changes
restore_part-requires-clause-changes c = λ is.
    let id = c.args.transaction in
    let before = c.loop-p.yielded in
    let p = c.in-Some.p in
    let behind = into_iter_items c.next.new.self in
    let all : before ++ p ∷ behind ≡ c.args.parts.items = ap (λ (ps : List RecordedPart). before ++ ps) (sym c.in-Some.ensures.steps.0) ∙ c.loop-p.invariant.rest in
    let few : count_among (is_part_of DonePart.Files) (before ++ p ∷ behind) ≤ 1 = subst (λ ps. count_among (is_part_of DonePart.Files) ps ≤ 1) (sym all) c.requires.one_of_files in
    let same : files_of c.loop-p.files ≡ files_of c.args.files.now =
    c.loop-p.invariant.files
    ∙ ap (λ (cs : List Change). files_with_own (files_of c.args.files.now) (own_if_changed id cs)) (none-before changes_in (is_part_of DonePart.Files) no-changes before behind p few is)
    ∙ files-none (files_of c.args.files.now) in
    let own : gathered changes_in c.args.parts.items ≡ changes_in p.part = ap (gathered changes_in) (sym all) ∙ alone changes_in (is_part_of DonePart.Files) no-changes before behind p few is in
    let there : IsIn p c.args.parts.items = subst (IsIn p) all (IsIn-right p before (p ∷ behind) (inl refl)) in
    subst (λ (f : FilesNow). CanBeRestored f id (changes_in p.part)) (sym same)
    (subst (CanBeRestored (files_of c.args.files.now) id) own
    (c.requires.changes (list_any-from (λ (q : RecordedPart). is_part_of DonePart.Files q.part) c.args.parts.items p there is)))

pub restore_part-requires-clause-settings : goal.restore_part-requires-clause-settings
restore_part-requires-clause-settings c = λ is.
    let id = c.args.transaction in
    let before = c.loop-p.yielded in
    let p = c.in-Some.p in
    let behind = into_iter_items c.next.new.self in
    let all : before ++ p ∷ behind ≡ c.args.parts.items = ap (λ (ps : List RecordedPart). before ++ ps) (sym c.in-Some.ensures.steps.0) ∙ c.loop-p.invariant.rest in
    let few : count_among (is_part_of DonePart.Keys) (before ++ p ∷ behind) ≤ 1 = subst (λ ps. count_among (is_part_of DonePart.Keys) ps ≤ 1) (sym all) c.requires.one_of_keys in
    let same : c.loop-p.keys ≡ c.args.keys.now =
    c.loop-p.invariant.keys
    ∙ ap (λ (ss : OwnSettings). keys_with_own c.args.keys.now (own_if_set id ss)) (none-before settings_in (is_part_of DonePart.Keys) no-settings before behind p few is)
    ∙ keys-none c.args.keys.now in
    let own : gathered settings_in c.args.parts.items ≡ settings_in p.part = ap (gathered settings_in) (sym all) ∙ alone settings_in (is_part_of DonePart.Keys) no-settings before behind p few is in
    let there : IsIn p c.args.parts.items = subst (IsIn p) all (IsIn-right p before (p ∷ behind) (inl refl)) in
    subst (λ (k : KeysNow). CanBeSetAgain k id (settings_in p.part)) (sym same)
    (subst (CanBeSetAgain c.args.keys.now id) own
    (c.requires.settings (list_any-from (λ (q : RecordedPart). is_part_of DonePart.Keys q.part) c.args.parts.items p there is)))

pub loop-p-preserved : goal.loop-p-preserved
loop-p-preserved c =
    let id = c.args.transaction in
    let before = c.loop-p.yielded in
    let p = c.in-Some.p in
    let behind = into_iter_items c.next.new.self in
    let all : before ++ p ∷ behind ≡ c.args.parts.items = ap (λ (ps : List RecordedPart). before ++ ps) (sym c.in-Some.ensures.steps.0) ∙ c.loop-p.invariant.rest in
    let few : count_among (is_part_of DonePart.Files) (before ++ p ∷ behind) ≤ 1 = subst (λ ps. count_among (is_part_of DonePart.Files) ps ≤ 1) (sym all) c.requires.one_of_files in
    let few_keys : count_among (is_part_of DonePart.Keys) (before ++ p ∷ behind) ≤ 1 = subst (λ ps. count_among (is_part_of DonePart.Keys) ps ≤ 1) (sym all) c.requires.one_of_keys in
    record {
      rest = append_assoc before (p ∷ []) behind ∙ all;
      files =
          c.in_ok-restore_part.ensures.files
          ∙ ap (λ (f : FilesNow). files_with_own f (own_if_changed id (changes_in p.part))) c.loop-p.invariant.files
          ∙ files-more (files_of c.args.files.now) (own_if_changed id (gathered changes_in before)) (own_if_changed id (changes_in p.part))
          ∙ ap (files_with_own (files_of c.args.files.now)) (joined changes_in (is_part_of DonePart.Files) no-changes before behind p few (own_if_changed id) refl);
      keys =
          c.in_ok-restore_part.ensures.keys
          ∙ ap (λ (k : KeysNow). keys_with_own k (own_if_set id (settings_in p.part))) c.loop-p.invariant.keys
          ∙ keys-more c.args.keys.now (own_if_set id (gathered settings_in before)) (own_if_set id (settings_in p.part))
          ∙ ap (keys_with_own c.args.keys.now) (joined settings_in (is_part_of DonePart.Keys) no-settings before behind p few_keys (own_if_set id) refl);
    }

pub returns : goal.returns
returns c =
    let id = c.args.transaction in
    let none : into_iter_items c.loop-p.p-iterator ≡ [] = nil_from_length c.loop-p.p-iterator.rest.items (sym c.loop-p.p-iterator.rest.ok.0 ∙ c.in-None.ensures.steps.0) in
    let all : c.loop-p.yielded ≡ c.args.parts.items = sym (append-nil c.loop-p.yielded) ∙ ap (λ (ps : List RecordedPart). c.loop-p.yielded ++ ps) (sym none) ∙ c.loop-p.invariant.rest in
    record {
      files = c.loop-p.invariant.files ∙ ap (λ (ps : List RecordedPart). files_with_own (files_of c.args.files.now) (own_if_changed id (gathered changes_in ps))) all;
      keys = c.loop-p.invariant.keys ∙ ap (λ (ps : List RecordedPart). keys_with_own c.args.keys.now (own_if_set id (gathered settings_in ps))) all;
    }
