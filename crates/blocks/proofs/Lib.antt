pub mod Exchanges
pub mod Columns
