pub mod Install
