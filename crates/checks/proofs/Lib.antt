pub mod Rows
pub mod Filled
