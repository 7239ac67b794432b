pub mod Nodes
pub mod Lengths
pub mod Opening
pub mod Numbering
pub mod Four
pub mod FourLeaves
