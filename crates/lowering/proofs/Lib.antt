pub mod Laws
pub mod Worklist
