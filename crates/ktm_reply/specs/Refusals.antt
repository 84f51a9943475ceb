-- The names of refusals.
use Rattle.std.specs.Prelude.{ℕ, List, codes}
use Rattle.ktm_base.specs.declared.refusal.Refusal.{Refusal}
use Rattle.ktm_base.specs.declared.refusal.Refusal.TheVariants.{BadLine, MachineDown, MachineUp, InvalidHandle, HandleNoLongerValid, TransactionAlreadyCommitted, TransactionAlreadyAborted, TransactionNotActive, EnlistmentNotSuperior, TransactionRequestNotValid, InvalidParameter, InvalidName, TransactionNotFound, ResourceManagerNotFound, EnlistmentNotFound, NotFound, PathNotFound, FileNotFound, FileExists, AlreadyExists, TransactionSuperiorExists, AccessDenied, Directory, DirNotEmpty, TransactionalConflict, SharingViolation, WaitTimeout, NotEnoughQuota, DiskFull, ImageWorn}

-- a refusal's name
abbrev pub refusal_name : Refusal → List ℕ
refusal_name BadLine = codes "BAD_LINE"
refusal_name MachineDown = codes "MACHINE_DOWN"
refusal_name MachineUp = codes "MACHINE_UP"
refusal_name InvalidHandle = codes "ERROR_INVALID_HANDLE"
refusal_name HandleNoLongerValid = codes "ERROR_HANDLE_NO_LONGER_VALID"
refusal_name TransactionAlreadyCommitted = codes "ERROR_TRANSACTION_ALREADY_COMMITTED"
refusal_name TransactionAlreadyAborted = codes "ERROR_TRANSACTION_ALREADY_ABORTED"
refusal_name TransactionNotActive = codes "ERROR_TRANSACTION_NOT_ACTIVE"
refusal_name EnlistmentNotSuperior = codes "ERROR_ENLISTMENT_NOT_SUPERIOR"
refusal_name TransactionRequestNotValid = codes "ERROR_TRANSACTION_REQUEST_NOT_VALID"
refusal_name InvalidParameter = codes "ERROR_INVALID_PARAMETER"
refusal_name InvalidName = codes "ERROR_INVALID_NAME"
refusal_name TransactionNotFound = codes "ERROR_TRANSACTION_NOT_FOUND"
refusal_name ResourceManagerNotFound = codes "ERROR_RESOURCEMANAGER_NOT_FOUND"
refusal_name EnlistmentNotFound = codes "ERROR_ENLISTMENT_NOT_FOUND"
refusal_name NotFound = codes "ERROR_NOT_FOUND"
refusal_name PathNotFound = codes "ERROR_PATH_NOT_FOUND"
refusal_name FileNotFound = codes "ERROR_FILE_NOT_FOUND"
refusal_name FileExists = codes "ERROR_FILE_EXISTS"
refusal_name AlreadyExists = codes "ERROR_ALREADY_EXISTS"
refusal_name TransactionSuperiorExists = codes "ERROR_TRANSACTION_SUPERIOR_EXISTS"
refusal_name AccessDenied = codes "ERROR_ACCESS_DENIED"
refusal_name Directory = codes "ERROR_DIRECTORY"
refusal_name DirNotEmpty = codes "ERROR_DIR_NOT_EMPTY"
refusal_name TransactionalConflict = codes "ERROR_TRANSACTIONAL_CONFLICT"
refusal_name SharingViolation = codes "ERROR_SHARING_VIOLATION"
refusal_name WaitTimeout = codes "WAIT_TIMEOUT"
refusal_name NotEnoughQuota = codes "ERROR_NOT_ENOUGH_QUOTA"
refusal_name DiskFull = codes "ERROR_DISK_FULL"
refusal_name ImageWorn = codes "IMAGE_WORN"
