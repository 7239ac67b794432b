pub mod Opened
pub mod Lent
pub mod Succeeding
pub mod Asks
pub mod Places
pub mod Tested
pub mod Prepared
pub mod Ran
