pub mod FreePages
