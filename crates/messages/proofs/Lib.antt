pub mod Rows
pub mod Order
pub mod Meaning
pub mod Listing
