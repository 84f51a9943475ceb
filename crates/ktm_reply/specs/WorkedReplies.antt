-- Worked rows of the replies: what some are, and how each is spelled.
use Rattle.std.specs.Prelude.{◌≡◌, ℕ, List, [], ◌∷◌, Some, None, true, map, codes, nat_lt}
use Rattle.std.specs.List.{list_all}
use Rattle.ktm_base.specs.declared.notify.Notify.TheVariants as kind
use Rattle.ktm_base.specs.declared.refusal.Refusal.TheVariants as refusal
use Rattle.ktm_world.specs.declared.reply.Reply.{Reply}
use Rattle.ktm_world.specs.declared.reply.Reply.TheVariants.{Refused, Done, Guid, Committed, Pending, Information, Notification, Contents, Size, Names, Keys, Restarted, BadImage}
use Rattle.ktm_world.specs.declared.reply.TransactionState.TheVariants as state
use Rattle.ktm_world.specs.declared.object.TransactionOutcome.TheVariants as outcome
use Rattle.ktm_reply.specs.Spelling.{place, reply_spelling}

-- each reply is spelled by the text beside it
abbrev pub AreSpelledSo : List (Reply × List ℕ) → Type 0
AreSpelledSo rows = map (λ row. reply_spelling row.0) rows ≡ map (λ row. row.1) rows

-- both replies of each row are spelled alike, and the first is of an earlier form, so that it is read
pub record AreReadFirst (rows : List (Reply × Reply)) : Type 0 where
  pub alike : map (λ row. reply_spelling row.0) rows ≡ map (λ row. reply_spelling row.1) rows
  pub earlier : list_all (λ row. nat_lt (place row.0) (place row.1)) rows ≡ true

-- the bytes of the GUID 00000001-0002-00ab-0000-00000000cdef
abbrev pub sample_guid : List ℕ
sample_guid = 0 ∷ 0 ∷ 0 ∷ 1 ∷ 0 ∷ 2 ∷ 0 ∷ 171 ∷ 0 ∷ 0 ∷ 0 ∷ 0 ∷ 0 ∷ 0 ∷ 205 ∷ 239 ∷ []

-- replies of each kind, two kinds of which may be spelled alike
abbrev pub worked_replies : List (Reply × List ℕ)
worked_replies =
    (Refused refusal.BadLine, codes "BAD_LINE")
    ∷ (Refused refusal.MachineDown, codes "MACHINE_DOWN")
    ∷ (Refused refusal.ResourceManagerNotFound, codes "ERROR_RESOURCEMANAGER_NOT_FOUND")
    ∷ (Refused refusal.WaitTimeout, codes "WAIT_TIMEOUT")
    ∷ (Refused refusal.ImageWorn, codes "IMAGE_WORN")
    ∷ (Done, codes "ok")
    ∷ (Committed, codes "ok committed")
    ∷ (Pending, codes "ok pending")
    ∷ (Guid sample_guid, codes "ok 00000001-0002-00ab-0000-00000000cdef")
    ∷ (Information sample_guid state.Normal outcome.Undetermined, codes "ok 00000001-0002-00ab-0000-00000000cdef Normal Undetermined")
    ∷ (Information sample_guid state.Indoubt outcome.Aborted, codes "ok 00000001-0002-00ab-0000-00000000cdef Indoubt Aborted")
    ∷ (Information sample_guid state.CommittedNotify outcome.Committed, codes "ok 00000001-0002-00ab-0000-00000000cdef CommittedNotify Committed")
    ∷ (Notification kind.PrePrepare (Some sample_guid), codes "ok PREPREPARE 00000001-0002-00ab-0000-00000000cdef")
    ∷ (Notification kind.Commit (Some sample_guid), codes "ok COMMIT 00000001-0002-00ab-0000-00000000cdef")
    ∷ (Notification kind.CommitComplete (Some sample_guid), codes "ok COMMIT_COMPLETE 00000001-0002-00ab-0000-00000000cdef")
    ∷ (Notification kind.LastRecover None, codes "ok LAST_RECOVER")
    ∷ (Contents [], codes "ok -")
    ∷ (Contents (0 ∷ []), codes "ok 00")
    ∷ (Contents (10 ∷ 255 ∷ []), codes "ok 0aff")
    ∷ (Contents (18 ∷ []), codes "ok 12")
    ∷ (Size 0, codes "ok 0")
    ∷ (Size 5, codes "ok 5")
    ∷ (Size 1000000000000000000, codes "ok 1000000000000000000")
    ∷ (Names (codes "~" ∷ []), codes "ok \"~\"")
    ∷ (Keys (codes "~" ∷ []), codes "ok \"~\"")
    ∷ (Names ([] ∷ codes "a b" ∷ codes "k" ∷ []), codes "ok \"\" \"a b\" \"k\"")
    ∷ (Keys ([] ∷ codes "a b" ∷ codes "k" ∷ []), codes "ok \"\" \"a b\" \"k\"")
    ∷ (Restarted 0 4294967295, codes "restarted events=0 indoubt=4294967295")
    ∷ (Restarted 18446744073709551615 0, codes "restarted events=18446744073709551615 indoubt=0")
    ∷ (BadImage 4096, codes "BAD_IMAGE 4096")
    ∷ []

-- replies of the forms of which two are spelled alike
abbrev pub alike_replies : List (Reply × Reply)
alike_replies =
    (Done, Names [])
    ∷ (Done, Keys [])
    ∷ (Contents (18 ∷ []), Size 12)
    ∷ (Names (codes "~" ∷ []), Keys (codes "~" ∷ []))
    ∷ []
