-- A kind of notification is read from its name alone.
use Rattle.std.proofs.Common.{◌≡◌, ◌≢◌, ℕ, List, ◌++◌, Some, None, codes, refl, ◌∙◌, ap}
use Rattle.ktm_base.specs.declared.notify.Notify.{Notify}
use Rattle.ktm_base.specs.declared.notify.Notify.TheVariants.{PrePrepare, Prepare, Commit, Rollback, PrePrepareComplete, PrepareComplete, CommitComplete, RollbackComplete, Recover, RecoverQuery, Indoubt, SinglePhaseCommit, CommitRequest, LastRecover}
use Rattle.ktm_codec.specs.Word.{word_at, word_from}
use Rattle.ktm_reply.specs.Kinds.{kind_name}
use Rattle.ktm_reply.specs.declared.notification.TheConstants.{KINDS}
use Rattle.ktm_reply.specs.Reading.{kind_named}
use Rattle.ktm_reply.proofs.Found.{name_is}

pub kind_is : (text : List ℕ) (kind : Notify) → kind_named text ≡ Some kind → (kind ≢ LastRecover) × (text ≡ kind_name kind)
unfolding kind_named
kind_is text kind e =
    let spelled : text ≡ kind_name kind = name_is kind_name KINDS text kind e in
    (λ last. let none : kind_named text ≡ None = ap kind_named (spelled ∙ ap kind_name last) in cc, spelled)

pub kind_again : (kind : Notify) → kind ≢ LastRecover → kind_named (kind_name kind) ≡ Some kind
unfolding kind_named
kind_again PrePrepare other = refl
kind_again Prepare other = refl
kind_again Commit other = refl
kind_again Rollback other = refl
kind_again PrePrepareComplete other = refl
kind_again PrepareComplete other = refl
kind_again CommitComplete other = refl
kind_again RollbackComplete other = refl
kind_again Recover other = refl
kind_again RecoverQuery other = refl
kind_again Indoubt other = refl
kind_again SinglePhaseCommit other = refl
kind_again CommitRequest other = refl
kind_again LastRecover other = absurd (other refl)

pub word_of_kind : (kind : Notify) (rest : List ℕ) → word_at (kind_name kind ++ (codes " " ++ rest)) ≡ (kind_name kind, codes " " ++ rest)
unfolding word_from
word_of_kind PrePrepare rest = refl
word_of_kind Prepare rest = refl
word_of_kind Commit rest = refl
word_of_kind Rollback rest = refl
word_of_kind PrePrepareComplete rest = refl
word_of_kind PrepareComplete rest = refl
word_of_kind CommitComplete rest = refl
word_of_kind RollbackComplete rest = refl
word_of_kind Recover rest = refl
word_of_kind RecoverQuery rest = refl
word_of_kind Indoubt rest = refl
word_of_kind SinglePhaseCommit rest = refl
word_of_kind CommitRequest rest = refl
word_of_kind LastRecover rest = refl
