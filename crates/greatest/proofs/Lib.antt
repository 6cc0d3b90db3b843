pub mod Lowering
pub mod Done
