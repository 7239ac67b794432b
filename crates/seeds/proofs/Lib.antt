pub mod Instances
pub mod Leaves
pub mod Nodes
