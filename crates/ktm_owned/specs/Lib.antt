pub mod FilesKept
pub mod OwnKeys
