pub mod Hashes
pub mod Digests
pub mod Fixed
pub mod Apart
