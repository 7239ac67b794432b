pub mod Fits
pub mod Turning
pub mod Views
pub mod Stored
pub mod Held
pub mod Within
