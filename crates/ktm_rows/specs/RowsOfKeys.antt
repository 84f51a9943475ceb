-- Worked rows of transactions on keys.
use Rattle.std.specs.Prelude.{[], ◌∷◌, codes}
use Rattle.ktm_base.specs.declared.refusal.Refusal.TheVariants.{TransactionAlreadyCommitted, InvalidParameter, NotFound, TransactionalConflict, BadLine}
use Rattle.ktm_world.specs.declared.command.Command.TheVariants.{CreateTransaction, KvSet, KvGet, CommitTransaction, KvList, KvUnset}
use Rattle.ktm_world.specs.declared.command.View.{View}
use Rattle.ktm_world.specs.declared.reply.Reply.TheVariants.{Refused, Done, Guid, Committed, Contents, Keys, Restarted}
use Rattle.ktm_world.specs.Scripts.{Answered, blank, p1, p2, crash, restart, bad_line, h1, transaction_guid}

-- one transaction sets a key and commits; its handle goes on being bound
abbrev pub FirstTransaction : Type 0
FirstTransaction = Answered blank (
    (p1 (CreateTransaction h1 0), Guid (0 ∷ 0 ∷ 0 ∷ 1 ∷ 0 ∷ 1 ∷ 0 ∷ 1 ∷ 0 ∷ 0 ∷ 0 ∷ 0 ∷ 0 ∷ 0 ∷ 0 ∷ 1 ∷ []))
    ∷ (p1 (KvSet h1 (codes "k") (1 ∷ [])), Done)
    ∷ (p1 (KvGet View.Plain (codes "k")), Refused NotFound)
    ∷ (p1 (KvGet (View.Transaction h1) (codes "k")), Contents (1 ∷ []))
    ∷ (p1 (CommitTransaction h1), Committed)
    ∷ (p1 (KvGet View.Plain (codes "k")), Contents (1 ∷ []))
    ∷ (p1 (KvSet h1 (codes "k") (2 ∷ [])), Refused TransactionAlreadyCommitted)
    ∷ (p1 (CreateTransaction h1 0), Refused InvalidParameter)
    ∷ (bad_line, Refused BadLine)
    ∷ (crash, Done)
    ∷ (restart 7, Restarted 2 0)
    ∷ (p1 (KvGet View.Plain (codes "k")), Contents (1 ∷ []))
    ∷ []
    )

-- two transactions that meet on a key
abbrev pub KeysOfTwoTransactions : Type 0
KeysOfTwoTransactions = Answered blank (
    (p1 (CreateTransaction h1 0), Guid (transaction_guid 1))
    ∷ (p2 (CreateTransaction h1 0), Guid (transaction_guid 2))
    ∷ (p1 (KvSet h1 (codes "b") (2 ∷ [])), Done)
    ∷ (p1 (KvSet h1 (codes "a") (1 ∷ [])), Done)
    ∷ (p1 (KvList (View.Transaction h1)), Keys (codes "a" ∷ codes "b" ∷ []))
    ∷ (p1 (KvList View.Plain), Keys [])
    ∷ (p2 (KvSet h1 (codes "a") (3 ∷ [])), Refused TransactionalConflict)
    ∷ (p1 (KvUnset h1 (codes "b")), Done)
    ∷ (p1 (KvUnset h1 (codes "b")), Refused NotFound)
    ∷ (p1 (CommitTransaction h1), Committed)
    ∷ (p2 (KvGet (View.Transaction h1) (codes "a")), Contents (1 ∷ []))
    ∷ (p2 (KvSet h1 (codes "") (0 ∷ [])), Refused InvalidParameter)
    ∷ []
    )
