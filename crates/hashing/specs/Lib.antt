pub mod Inputs
pub mod Digest
pub mod Statement
pub mod Salts
