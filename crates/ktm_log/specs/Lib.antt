pub mod Log
pub mod Settle
pub mod Load
pub mod OnDisk
pub mod Append
pub mod Scan
