pub mod Lowering
pub mod Searching
pub mod Opening
pub mod Looking
