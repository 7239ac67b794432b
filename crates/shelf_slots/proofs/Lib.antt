pub mod Bytes
mod Links
