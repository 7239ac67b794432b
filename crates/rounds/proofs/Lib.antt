pub mod Firsts
pub mod Responds
pub mod Buffers
