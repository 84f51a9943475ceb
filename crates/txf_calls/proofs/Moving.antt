-- What MoveFile comes to, behind its tests on names.
use Rattle.std.proofs.Common.{◌≡◌, ◌∙◌, List, ℕ, [], ◌∷◌, Bool, true, false, Option, None, refl, ap}
use Rattle.ktm_base.specs.declared.id.Id.{Id}
use Rattle.ktm_base.specs.declared.refusal.Refusal.TheVariants.{AccessDenied, InvalidName, NotEnoughQuota, SharingViolation, TransactionalConflict}
use Rattle.ktm_world.specs.declared.recorded.Node.{Node}
use Rattle.ktm_world.specs.declared.reply.Reply.TheVariants.{Refused}
use Rattle.ktm_world.specs.FileCalls.{Whereabouts as There, no_path, no_way, free, at_root, at_node, conflict_test, find_path, is_open_at, move_act, move_at}
use Rattle.ktm_world.specs.FileOutcome.{FileOutcome, FileRoom, answering, lacks_quota}
use Rattle.ktm_world.specs.Files.{FilesNow, tree_seen}
use Rattle.ktm_world.specs.Outcome.{first_refusal}
use Rattle.ktm_world.specs.Paths.{path_of}
use Rattle.ktm_world.specs.Tree.{is_at_or_below}
use Rattle.txf_calls.specs.Calls.{file_outcome, unless_refused}
use Rattle.txf_calls.specs.There.{move_there}
use Rattle.txf_calls.specs.declared.call.FileCall.TheVariants.{Move}
use Rattle.txf_calls.proofs.Paths.{move-is}
use Rattle.txf_calls.proofs.Texts.{find-no-path}

module _ (files : FilesNow) (room : FileRoom) (who : Option Id) where
  -- what nobody refuses moves, unless a quota is passed
  pub moves-on : (other : Node) (d : ℕ) (n : List ℕ) → is_at_or_below (tree_seen files who) d other.number ≡ false
      → first_refusal (conflict_test files who (move_act (at_node other) (free d n)) ∷ (is_open_at files who (at_node other), SharingViolation) ∷ []) ≡ None
      → move_there files room who (at_node other) (free d n)
      ≡ unless_refused (first_refusal ((lacks_quota files room who (move_at (at_node other) (free d n)), NotEnoughQuota) ∷ [])) (move_at (at_node other) (free d n))
  moves-on other d n apart passes = rw apart (on (conflict_test files who (move_act (at_node other) (free d n))).0 (is_open_at files who (at_node other)) passes)
    where
      o : FileOutcome
      o = move_at (at_node other) (free d n)

      on : (a b : Bool) → first_refusal ((a, TransactionalConflict) ∷ (b, SharingViolation) ∷ []) ≡ None
          → unless_refused (first_refusal ((false, AccessDenied) ∷ (a, TransactionalConflict) ∷ (b, SharingViolation) ∷ (lacks_quota files room who o, NotEnoughQuota) ∷ [])) o
          ≡ unless_refused (first_refusal ((lacks_quota files room who o, NotEnoughQuota) ∷ [])) o
      on true b is = absurd cc
      on false true is = absurd cc
      on false false is = refl

  -- a text that is no path names nothing that could be moved
  pub move-no-source : (source target : List ℕ) → path_of source ≡ None → file_outcome files room who (Move source target) ≡ answering (Refused InvalidName)
  move-no-source source target none =
      move-is files room who source target ∙ ap (λ w. move_there files room who w (find_path (tree_seen files who) target)) (find-no-path (tree_seen files who) source none)

  -- a text that is no path names nothing that anything could be moved to
  pub move-no-target : (source target : List ℕ) → path_of target ≡ None → file_outcome files room who (Move source target) ≡ answering (Refused InvalidName)
  move-no-target source target none =
      move-is files room who source target
      ∙ ap (λ w. move_there files room who (find_path (tree_seen files who) source) w) (find-no-path (tree_seen files who) target none)
      ∙ on (find_path (tree_seen files who) source)
    where
      on : (w : There) → move_there files room who w no_path ≡ answering (Refused InvalidName)
      on no_path = refl
      on no_way = refl
      on (free d n) = refl
      on at_root = refl
      on (at_node other) = refl
