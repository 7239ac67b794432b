pub mod Hiding
pub mod Laws
