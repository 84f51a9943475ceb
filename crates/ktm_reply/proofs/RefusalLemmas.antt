-- A refusal is read from its name alone.
use Rattle.std.proofs.Common.{◌≡◌, ℕ, List, Some, refl}
use Rattle.ktm_base.specs.declared.refusal.Refusal.{Refusal}
use Rattle.ktm_base.specs.declared.refusal.Refusal.TheVariants.{BadLine, MachineDown, MachineUp, InvalidHandle, HandleNoLongerValid, TransactionAlreadyCommitted, TransactionAlreadyAborted, TransactionNotActive, EnlistmentNotSuperior, TransactionRequestNotValid, InvalidParameter, InvalidName, TransactionNotFound, ResourceManagerNotFound, EnlistmentNotFound, NotFound, PathNotFound, FileNotFound, FileExists, AlreadyExists, TransactionSuperiorExists, AccessDenied, Directory, DirNotEmpty, TransactionalConflict, SharingViolation, WaitTimeout, NotEnoughQuota, DiskFull, ImageWorn}
use Rattle.ktm_reply.specs.declared.refusal.TheConstants.{REFUSALS}
use Rattle.ktm_reply.specs.Reading.{refusal_named}
use Rattle.ktm_reply.specs.Refusals.{refusal_name}
use Rattle.ktm_reply.proofs.Found.{name_is}

pub refusal_is : (text : List ℕ) (refusal : Refusal) → refusal_named text ≡ Some refusal → text ≡ refusal_name refusal
unfolding refusal_named
refusal_is text refusal e = name_is refusal_name REFUSALS text refusal e

pub refusal_again : (refusal : Refusal) → refusal_named (refusal_name refusal) ≡ Some refusal
unfolding refusal_named
refusal_again BadLine = refl
refusal_again MachineDown = refl
refusal_again MachineUp = refl
refusal_again InvalidHandle = refl
refusal_again HandleNoLongerValid = refl
refusal_again TransactionAlreadyCommitted = refl
refusal_again TransactionAlreadyAborted = refl
refusal_again TransactionNotActive = refl
refusal_again EnlistmentNotSuperior = refl
refusal_again TransactionRequestNotValid = refl
refusal_again InvalidParameter = refl
refusal_again InvalidName = refl
refusal_again TransactionNotFound = refl
refusal_again ResourceManagerNotFound = refl
refusal_again EnlistmentNotFound = refl
refusal_again NotFound = refl
refusal_again PathNotFound = refl
refusal_again FileNotFound = refl
refusal_again FileExists = refl
refusal_again AlreadyExists = refl
refusal_again TransactionSuperiorExists = refl
refusal_again AccessDenied = refl
refusal_again Directory = refl
refusal_again DirNotEmpty = refl
refusal_again TransactionalConflict = refl
refusal_again SharingViolation = refl
refusal_again WaitTimeout = refl
refusal_again NotEnoughQuota = refl
refusal_again DiskFull = refl
refusal_again ImageWorn = refl
