pub mod Derive
