pub mod Statuses
pub mod Answers
pub mod SmallStatuses
