pub mod Same
pub mod Small
