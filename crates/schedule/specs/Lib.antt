pub mod Schedule
pub mod History
pub mod Fair
pub mod Alone
pub mod Cases
pub mod Callers
pub mod Steps
